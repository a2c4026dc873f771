-- The steps of the loop over a text.
use Rattle.std.proofs.Common.{◌≡◌, ℕ, suc, ◌+◌, ◌-◌, ◌≤◌, List, [], ◌∷◌, map as each, length, drop, take, true, false, refl, sym, ap, subst, ◌∙◌, arith, length-drop}
use Rattle.std.proofs.lemmas.List.{take_all}
use Rattle.std.specs.Prelude.{Option, Some, None, Result, Ok, Err, slice_get}
use Rattle.std.specs.Ordering.{nat_cmp}
use Rattle.std.specs.Cmp.Lexicographic.{slice_cmp}
use Rattle.std.specs.FinMap as map
use Rattle.ibp_algebra.specs.Polynomial.{Polynomial}
use Rattle.poly_text.specs.Value.{constant_term}
use Rattle.poly_text.specs.declared.fault.TextFault.{TextFault}
use Rattle.poly_text.specs.declared.fault.Unread.{Unread}
use Rattle.poly_text.specs.declared.symbol.Symbol.{Symbol}
use Rattle.poly_text.specs.Token.{Token, is_blank}
use Rattle.poly_text.specs.Scanning.{further_bytes, token_of, tokens_from, tokens}
use Rattle.poly_text.specs.Told.{Fails, Answers}
use Rattle.poly_text.specs.PolyText.{NumbersValue, value_in, number_value, IsTextAnswer, IsNumberAnswer, UpToFault}
use Rattle.poly_text.specs.Symbols.{symbol_for}
use Rattle.poly_text.specs.Reading.{Reading, Operand, read_next, read_tokens, read_end, then_reading, first_reading, place_in, placed, read_text}
use Rattle.poly_text.proofs.Scanning.{tokens_blank, tokens_token}

-- reading tokens with the places that faults have
abbrev pub read_placed : ℕ → (List ℕ → Option ℕ) → Reading → List (Token × ℕ) → Result Reading TextFault
read_placed n number reading ts = read_tokens n number reading (each placed ts)

-- a fault that is given on
pub fails_on : {A B : Type 0} (fault : TextFault) (given : Result A TextFault) (whole : Result B TextFault) → Fails fault given
    → ((f : TextFault) → given ≡ Err f → whole ≡ Err f) → Fails fault whole
fails_on TextFault.NoMemory given whole h go = tt
fails_on fault given whole h go = go fault h

module _ (n : ℕ) (number : List ℕ → Option ℕ) (whole : Result Reading TextFault) where
  pub scan_blank : (end b : ℕ) (reading : Reading) (rest others : List ℕ) → rest ≡ b ∷ others → length rest ≤ end → is_blank b ≡ true
      → read_placed n number reading (tokens_from 0 (end - length rest) rest) ≡ whole → read_placed n number reading (tokens_from 0 (end - length others) others) ≡ whole
  scan_blank end b reading rest others parts within blank told =
      let place : suc (end - length rest) ≡ end - length others = omega (arith, ap length parts) in
      sym (ap (λ (bytes : List ℕ). read_placed n number reading (tokens_from 0 (end - length rest) bytes)) parts
      ∙ ap (read_placed n number reading) (tokens_blank (end - length rest) b others blank)
      ∙ ap (λ p. read_placed n number reading (tokens_from 0 p others)) place) ∙ told

  next_tokens : (end b more at : ℕ) (rest others word : List ℕ) (symbol : Symbol) (reading : Reading) → rest ≡ b ∷ others → length rest ≤ end → is_blank b ≡ false
      → more ≤ length others → more ≡ further_bytes b others → word ≡ take (more + 1) rest → symbol ≡ symbol_for n number (token_of b word) → at ≡ place_in (end - length rest)
      → read_placed n number reading (tokens_from 0 (end - length rest) rest)
      ≡ then_reading (read_next reading symbol at) (λ after. read_placed n number after (tokens_from 0 (end - length (drop more others)) (drop more others)))
  next_tokens end b more at rest others word symbol reading parts within no_blank few is_more is_word is_symbol is_at =
      let word_is : word ≡ b ∷ take (further_bytes b others) others =
      is_word ∙ ap (take (more + 1)) parts ∙ ap (λ k. take k (b ∷ others)) (let e : more + 1 ≡ suc (further_bytes b others) = omega (arith, is_more) in e)
      in
      let same : symbol_for n number (token_of b (b ∷ take (further_bytes b others) others)) ≡ symbol = sym (is_symbol ∙ ap (λ (w : List ℕ). symbol_for n number (token_of b w)) word_is) in
      let place : suc (end - length rest) + further_bytes b others ≡ end - length (drop more others) = omega (arith, length-drop more others, ap length parts, is_more) in
      ap (λ (bytes : List ℕ). read_placed n number reading (tokens_from 0 (end - length rest) bytes)) parts
      ∙ ap (read_placed n number reading) (tokens_token (end - length rest) b others no_blank)
      ∙ ap (λ (s : Symbol). then_reading (read_next reading s (place_in (end - length rest))) (λ after. read_placed n number after (tokens_from 0 (suc (end - length rest) + further_bytes b others) (drop (further_bytes b others) others)))) same
      ∙ ap (λ p. then_reading (read_next reading symbol p) (λ after. read_placed n number after (tokens_from 0 (suc (end - length rest) + further_bytes b others) (drop (further_bytes b others) others)))) (sym is_at)
      ∙ ap (λ k. then_reading (read_next reading symbol at) (λ after. read_placed n number after (tokens_from 0 (suc (end - length rest) + further_bytes b others) (drop k others)))) (sym is_more)
      ∙ ap (λ q. then_reading (read_next reading symbol at) (λ after. read_placed n number after (tokens_from 0 q (drop more others)))) place

  pub scan_token : (end b more at : ℕ) (rest others word : List ℕ) (symbol : Symbol) (reading after : Reading) (new : List ℕ) → new ≡ drop more others → rest ≡ b ∷ others → length rest ≤ end → is_blank b ≡ false
      → more ≤ length others → more ≡ further_bytes b others → word ≡ take (more + 1) rest → symbol ≡ symbol_for n number (token_of b word) → at ≡ place_in (end - length rest)
      → read_next reading symbol at ≡ Ok after
      → read_placed n number reading (tokens_from 0 (end - length rest) rest) ≡ whole
      → read_placed n number after (tokens_from 0 (end - length new) new) ≡ whole
  scan_token end b more at rest others word symbol reading after new is_new parts within no_blank few is_more is_word is_symbol is_at next told =
      ap (λ (bytes : List ℕ). read_placed n number after (tokens_from 0 (end - length bytes) bytes)) is_new
      ∙ sym (next_tokens end b more at rest others word symbol reading parts within no_blank few is_more is_word is_symbol is_at
      ∙ ap (λ (r : Result Reading TextFault). then_reading r (λ after. read_placed n number after (tokens_from 0 (end - length (drop more others)) (drop more others)))) next) ∙ told

  pub scan_fault : (end b more at : ℕ) (rest others word : List ℕ) (symbol : Symbol) (reading : Reading) (fault : TextFault) → rest ≡ b ∷ others → length rest ≤ end → is_blank b ≡ false
      → more ≤ length others → more ≡ further_bytes b others → word ≡ take (more + 1) rest → symbol ≡ symbol_for n number (token_of b word) → at ≡ place_in (end - length rest)
      → Fails fault (read_next reading symbol at)
      → read_placed n number reading (tokens_from 0 (end - length rest) rest) ≡ whole
      → Fails fault whole
  scan_fault end b more at rest others word symbol reading fault parts within no_blank few is_more is_word is_symbol is_at fails told =
      fails_on fault (read_next reading symbol at) whole fails (λ f e.
      sym told ∙ next_tokens end b more at rest others word symbol reading parts within no_blank few is_more is_word is_symbol is_at
      ∙ ap (λ (r : Result Reading TextFault). then_reading r (λ after. read_placed n number after (tokens_from 0 (end - length (drop more others)) (drop more others)))) e)

-- the rest of a slice from a place on
pub sliced : (more : ℕ) (others : List ℕ) → take (length others - more) (drop more others) ≡ drop more others
sliced more others =
    let all : length (drop more others) ≤ length others - more = omega (arith, length-drop more others) in
    take_all (length others - more) (drop more others) all

-- a whole text, from its tokens
module _ (n : ℕ) (number : List ℕ → Option ℕ) (text bytes : List ℕ) (same : bytes ≡ text) where
  abbrev with_end : Result Reading TextFault → Operand
  with_end r = then_reading r (λ reading. read_end reading (place_in (length text)))

  text_is : read_text n number text ≡ with_end (read_placed n number first_reading (tokens bytes))
  text_is = ap (λ (l : List ℕ). with_end (read_placed n number first_reading (tokens l))) (sym same)

  pub text_fault : (fault : TextFault) → Fails fault (read_placed n number first_reading (tokens bytes)) → Fails fault (read_text n number text)
  text_fault fault h =
      fails_on fault (read_placed n number first_reading (tokens bytes)) (read_text n number text) h (λ f e. text_is ∙ ap with_end e)

  pub text_end : (result : Operand) (reading : Reading) → read_placed n number first_reading (tokens bytes) ≡ Ok reading
      → Answers result (read_end reading (place_in (length text))) → Answers result (read_text n number text)
  text_end result reading e h = subst (λ (a : Operand). Answers result a) (sym (text_is ∙ ap with_end e)) h

-- a text without variables and names: no name is in the empty map
empty_names : (name : List ℕ) → value_in (map.empty {R = slice_cmp nat_cmp}) name ≡ None
empty_names name = map.get-empty (slice_cmp nat_cmp) name

first_number : (f : Polynomial) (t : List ℕ × ℕ) → Some t ≡ slice_get f 0 → constant_term f ≡ t.1
first_number [] t e = absurd (cc)
first_number (u ∷ f) t e = let same : u ≡ t = cc in ap (λ (v : List ℕ × ℕ). v.1) same

no_number : (f : Polynomial) → None ≡ slice_get f 0 → constant_term f ≡ 0
no_number [] e = refl
no_number (u ∷ f) e = absurd (cc)

module _ (bytes : List ℕ) (numbers : NumbersValue) (none : numbers ≡ map.empty) where
  number_of_text : (r : Result Polynomial TextFault) → IsTextAnswer 0 (value_in numbers) bytes r → IsNumberAnswer bytes (number_value r)
  number_of_text r h =
      let same : value_in numbers ≡ (λ name. None) = ap value_in none ∙ (λ i name. empty_names name i) in
      IsNumberAnswer.of_text (subst (λ (number : List ℕ → Option ℕ). IsTextAnswer 0 number bytes r) same h)

  pub number_fault : (unread : Unread) → UpToFault (IsTextAnswer 0 (value_in numbers) bytes) (Err unread) → UpToFault (IsNumberAnswer bytes) (Err unread)
  number_fault Unread.Fault h = (h.0, number_of_text (Err h.0) h.1)
  number_fault Unread.NoMemory h = tt

  pub number_is : (f terms : Polynomial) (t : List ℕ × ℕ) → IsTextAnswer 0 (value_in numbers) bytes (Ok f) → terms ≡ f → Some t ≡ slice_get terms 0 → IsNumberAnswer bytes (Ok t.1)
  number_is f terms t h same first =
      subst (λ (c : ℕ). IsNumberAnswer bytes (Ok c)) (first_number f t (first ∙ ap (λ (l : Polynomial). slice_get l 0) same)) (number_of_text (Ok f) h)

  pub number_zero : (f terms : Polynomial) (z : ℕ) → IsTextAnswer 0 (value_in numbers) bytes (Ok f) → terms ≡ f → None ≡ slice_get terms 0 → z ≡ 0 → IsNumberAnswer bytes (Ok z)
  number_zero f terms z h same first zero_is =
      subst (λ (c : ℕ). IsNumberAnswer bytes (Ok c)) (no_number f (first ∙ ap (λ (l : Polynomial). slice_get l 0) same) ∙ sym zero_is) (number_of_text (Ok f) h)
