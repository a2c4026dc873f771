-- `tokens` computes how bytes spell tokens.
use Rattle.std.proofs.Common.{◌≡◌, ℕ, zero, suc, ◌+◌, ◌≤◌, List, [], ◌∷◌, ◌++◌, length, drop, take, Bool, true, false, cond, refl, sym, ap, subst, ◌∙◌, arith, length-append}
use Rattle.std.specs.Prelude.{◌<◌, ◌==◌, ◌&&◌, ◌||◌, nat_le, Option, None, is_some, option_map}
use Rattle.std.specs.Char.{is_ascii_digit}
use Rattle.std.specs.List.{list_all, prefix_len}
use Rattle.std.proofs.lemmas.Bool.{leb-true}
use Rattle.std.proofs.lemmas.Bool.Decides.{Decides-eqb, leb_tells, eqb_tells}
use Rattle.std.proofs.Math.Seq.{take-append_seam, drop-append_seam}
use Rattle.poly_text.specs.Token.{Token, is_blank, is_initial, is_word, whole_value, symbol_of}
use Rattle.poly_text.specs.Scanning.{further_bytes, token_of, tokens_from, tokens}
use Rattle.poly_text.specs.Spelling.{begins_with, IsToken, AreTokens}
use Rattle.mono_order.specs.declared.limits.TheConstants.{VARIABLES}
use Rattle.poly_text.specs.declared.limits.TheConstants.{NAME_LIMIT}
use Rattle.poly_text.specs.declared.symbol.Named.{Named}
use Rattle.poly_text.specs.PolyText.{is_variable_name, is_known}
use Rattle.poly_text.specs.Symbols.{named_variable, named, named_value}
use Rattle.poly_text.proofs.Scanning.{variable_long, tokens_blank, tokens_token}
use Rattle.poly_text.proofs.Simulation.{value-named}

-- the bytes from the front on that pass a test
prefix_whole : (test : ℕ → Bool) (more others : List ℕ) → list_all test more ≡ true → begins_with test others ≡ false → prefix_len test (more ++ others) ≡ length more
prefix_whole test [] [] e h = refl
prefix_whole test [] (b ∷ others) e h = ap (λ c. cond c (1 + prefix_len test others) 0) h
prefix_whole test (b ∷ more) others e h = go (test b) refl e (λ all. prefix_whole test more others all h)
  where
    go : (c : Bool) → test b ≡ c → (c && list_all test more) ≡ true → (list_all test more ≡ true → prefix_len test (more ++ others) ≡ length more)
        → cond (test b) (1 + prefix_len test (more ++ others)) 0 ≡ suc (length more)
    go true s all rest = ap (λ c. cond c (1 + prefix_len test (more ++ others)) 0) s ∙ omega (arith, rest all)
    go false s all rest = absurd (cc)

abbrev Splits : (ℕ → Bool) → List ℕ → Type 0
Splits test bytes = (more : List ℕ) × (others : List ℕ) × (bytes ≡ more ++ others) × (list_all test more ≡ true) × (begins_with test others ≡ false)

split_front : (test : ℕ → Bool) (bytes : List ℕ) → Splits test bytes
split_front test [] = ([], [], refl, refl, refl)
split_front test (b ∷ bytes) = go (test b) refl (split_front test bytes)
  where
    go : (c : Bool) → test b ≡ c → Splits test bytes → Splits test (b ∷ bytes)
    go true s h = (b ∷ h.0, h.1, ap (λ (l : List ℕ). b ∷ l) h.2, ap (λ d. d && list_all test h.0) s ∙ h.3, h.4)
    go false s h = ([], b ∷ bytes, refl, refl, s)

-- digits and the beginnings of names are no blanks
no_blank : (test : ℕ → Bool) (b : ℕ) → test 32 ≡ false → test 9 ≡ false → test 10 ≡ false → test b ≡ true → is_blank b ≡ false
no_blank test b space tab line e = go (b == 32) (b == 9) (b == 10) refl refl refl
  where
    go : (x y z : Bool) → (b == 32) ≡ x → (b == 9) ≡ y → (b == 10) ≡ z → ((x || y) || z) ≡ false
    go true y z f g h = absurd (let same = ap test ((Decides-eqb b 32).0 f) in cc)
    go false true z f g h = absurd (let same = ap test ((Decides-eqb b 9).0 g) in cc)
    go false false true f g h = absurd (let same = ap test ((Decides-eqb b 10).0 h) in cc)
    go false false false f g h = refl

-- no name begins with a digit
initial_from : (b : ℕ) → is_initial b ≡ true → 65 ≤ b
initial_from b e = grind (arith, leb_tells, eqb_tells)

digit_to : (b : ℕ) → is_ascii_digit b ≡ true → b ≤ 57
digit_to b e = grind (arith, leb_tells)

name_no_digit : (b : ℕ) → is_initial b ≡ true → is_ascii_digit b ≡ false
name_no_digit b e = go (is_ascii_digit b) refl
  where
    go : (c : Bool) → is_ascii_digit b ≡ c → c ≡ false
    go true f = absurd (omega (arith, initial_from b e, digit_to b f))
    go false f = refl

further_of_whole : (b : ℕ) (more others : List ℕ) → is_ascii_digit b ≡ true → list_all is_ascii_digit more ≡ true → begins_with is_ascii_digit others ≡ false → further_bytes b (more ++ others) ≡ length more
further_of_whole b more others e all stop =
    ap (λ c. cond c (prefix_len is_ascii_digit (more ++ others)) (cond (is_initial b) (prefix_len is_word (more ++ others)) 0)) e ∙ prefix_whole is_ascii_digit more others all stop

further_of_name : (b : ℕ) (more others : List ℕ) → is_initial b ≡ true → list_all is_word more ≡ true → begins_with is_word others ≡ false → further_bytes b (more ++ others) ≡ length more
further_of_name b more others e all stop =
    ap (λ c. cond c (prefix_len is_ascii_digit (more ++ others)) (cond (is_initial b) (prefix_len is_word (more ++ others)) 0)) (name_no_digit b e)
    ∙ ap (λ c. cond c (prefix_len is_word (more ++ others)) 0) e ∙ prefix_whole is_word more others all stop

token_of_whole : (b : ℕ) (word : List ℕ) → is_ascii_digit b ≡ true → token_of b word ≡ Token.whole (whole_value word)
token_of_whole b word e = ap (λ c. cond c (Token.whole (whole_value word)) (cond (is_initial b) (Token.name word) (symbol_of b))) e

token_of_name : (b : ℕ) (word : List ℕ) → is_initial b ≡ true → token_of b word ≡ Token.name word
token_of_name b word e =
    ap (λ c. cond c (Token.whole (whole_value word)) (cond (is_initial b) (Token.name word) (symbol_of b))) (name_no_digit b e) ∙ ap (λ c. cond c (Token.name word) (symbol_of b)) e

token_of_symbol : (b : ℕ) (word : List ℕ) → is_ascii_digit b ≡ false → is_initial b ≡ false → token_of b word ≡ symbol_of b
token_of_symbol b word e f =
    ap (λ c. cond c (Token.whole (whole_value word)) (cond (is_initial b) (Token.name word) (symbol_of b))) e ∙ ap (λ c. cond c (Token.name word) (symbol_of b)) f

further_of_symbol : (b : ℕ) (others : List ℕ) → is_ascii_digit b ≡ false → is_initial b ≡ false → further_bytes b others ≡ 0
further_of_symbol b others e f =
    ap (λ c. cond c (prefix_len is_ascii_digit others) (cond (is_initial b) (prefix_len is_word others) 0)) e ∙ ap (λ c. cond c (prefix_len is_word others) 0) f

-- the tokens where the first one is known
token_first : (at b : ℕ) (more others : List ℕ) (token : Token) → is_blank b ≡ false → further_bytes b (more ++ others) ≡ length more → token_of b (b ∷ more) ≡ token
    → tokens_from 0 at (b ∷ more ++ others) ≡ (token, at) ∷ tokens_from 0 (at + length (b ∷ more)) others
token_first at b more others token solid further is =
    let place : suc at + length more ≡ at + length (b ∷ more) = omega arith in
    tokens_token at b (more ++ others) solid
    ∙ ap (λ k. (token_of b (b ∷ take k (more ++ others)), at) ∷ tokens_from 0 (suc at + k) (drop k (more ++ others))) further
    ∙ ap (λ (l : List ℕ). (token_of b (b ∷ l), at) ∷ tokens_from 0 (suc at + length more) (drop (length more) (more ++ others))) (take-append_seam more others)
    ∙ ap (λ t. (t, at) ∷ tokens_from 0 (suc at + length more) (drop (length more) (more ++ others))) is
    ∙ ap (λ (l : List ℕ). (token, at) ∷ tokens_from 0 (suc at + length more) l) (drop-append_seam more others)
    ∙ ap (λ p. (token, at) ∷ tokens_from 0 p others) place

token_tokens : (at : ℕ) {word others : List ℕ} {token : Token} → IsToken word others token → tokens_from 0 at (word ++ others) ≡ (token, at) ∷ tokens_from 0 (at + length word) others
token_tokens at (IsToken.whole {b = b} {more = more} {others = others} digit all stop) =
    token_first at b more others _ (no_blank is_ascii_digit b refl refl refl digit) (further_of_whole b more others digit all stop) (token_of_whole b (b ∷ more) digit)
token_tokens at (IsToken.name {b = b} {more = more} {others = others} initial all stop) =
    token_first at b more others _ (no_blank is_initial b refl refl refl initial) (further_of_name b more others initial all stop) (token_of_name b (b ∷ more) initial)
token_tokens at (IsToken.symbol {b = b} {others = others} digit initial solid) =
    token_first at b [] others _ solid (further_of_symbol b others digit initial) (token_of_symbol b (b ∷ []) digit initial)

pub tokens_are : {at : ℕ} {bytes : List ℕ} {ts : List (Token × ℕ)} → AreTokens at bytes ts → tokens_from 0 at bytes ≡ ts
tokens_are AreTokens.nothing = refl
tokens_are (AreTokens.blank {at = at} {b = b} {bytes = bytes} e h) = tokens_blank at b bytes e ∙ tokens_are h
tokens_are (AreTokens.token {at = at} {token = token} is h) = token_tokens at is ∙ ap (λ (l : List (Token × ℕ)). (token, at) ∷ l) (tokens_are h)

-- each list of bytes is spelled
abbrev FirstToken : List ℕ → Type 0
FirstToken bytes = (word : List ℕ) × (others : List ℕ) × (token : Token) × (bytes ≡ word ++ others) × (1 ≤ length word) × IsToken word others token

first_token : (b : ℕ) (bytes : List ℕ) → is_blank b ≡ false → FirstToken (b ∷ bytes)
first_token b bytes solid = go (is_ascii_digit b) (is_initial b) refl refl
  where
    go : (x y : Bool) → is_ascii_digit b ≡ x → is_initial b ≡ y → FirstToken (b ∷ bytes)
    go true y e f = let s = split_front is_ascii_digit bytes in (b ∷ s.0, s.1, _, ap (λ (l : List ℕ). b ∷ l) s.2, omega arith, IsToken.whole e s.3 s.4)
    go false true e f = let s = split_front is_word bytes in (b ∷ s.0, s.1, _, ap (λ (l : List ℕ). b ∷ l) s.2, omega arith, IsToken.name f s.3 s.4)
    go false false e f = (b ∷ [], bytes, _, refl, omega arith, IsToken.symbol e f solid)

abbrev Spelled : ℕ → List ℕ → Type 0
Spelled at bytes = AreTokens at bytes (tokens_from 0 at bytes)

are_tokens : (most : ℕ) (bytes : List ℕ) (at : ℕ) → length bytes ≤ most → Spelled at bytes
are_tokens most [] at few = AreTokens.nothing
are_tokens zero (b ∷ bytes) at few = absurd (omega arith)
are_tokens (suc most) (b ∷ bytes) at few = go (is_blank b) refl (λ others place fewer. are_tokens most others place fewer)
  where
    go : (c : Bool) → is_blank b ≡ c → ((others : List ℕ) (place : ℕ) → length others ≤ most → Spelled place others) → Spelled at (b ∷ bytes)
    go true e rest =
        subst (λ (l : List (Token × ℕ)). AreTokens at (b ∷ bytes) l) (sym (tokens_blank at b bytes e)) (AreTokens.blank e (rest bytes (suc at) (omega arith)))
    go false e rest =
        let f = first_token b bytes e in
        let fewer : length f.1 ≤ most = omega (arith, simp length-append at (ap length f.3), f.4) in
        subst (λ (l : List ℕ). Spelled at l) (sym f.3)
        (subst (λ (l : List (Token × ℕ)). AreTokens at (f.0 ++ f.1) l) (sym (token_tokens at f.5)) (AreTokens.token f.5 (rest f.1 (at + length f.0) fewer)))

pub spelled : (bytes : List ℕ) → AreTokens 0 bytes (tokens bytes)
spelled bytes = are_tokens (length bytes) bytes 0 (omega arith)

-- names that are too long
pub long_unknown : (n : ℕ) (number : List ℕ → Option ℕ) (word : List ℕ) → n ≤ VARIABLES → NAME_LIMIT < length word → is_known n number word ≡ false
long_unknown n number word few long = ap is_some (sym (value-named n number word) ∙ ap (option_map named_value) (go (is_variable_name word) (nat_le (length word) NAME_LIMIT) refl refl))
  where
    go : (x y : Bool) → is_variable_name word ≡ x → nat_le (length word) NAME_LIMIT ≡ y → named n number word ≡ None
    go true y e f = ap (λ c. cond c (named_variable n word) (cond (nat_le (length word) NAME_LIMIT) (option_map (λ v. Named.Number v) (number word)) None)) e
        ∙ sym (variable_long n word few e (omega (arith, long)))
    go false true e f = absurd (omega (arith, leb-true (length word) NAME_LIMIT f))
    go false false e f = ap (λ c. cond c (named_variable n word) (cond (nat_le (length word) NAME_LIMIT) (option_map (λ v. Named.Number v) (number word)) None)) e
        ∙ ap (λ c. cond c (option_map (λ v. Named.Number v) (number word)) None) f
