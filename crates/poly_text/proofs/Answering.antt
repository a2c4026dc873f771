-- The relation of a text and its answer, and the function that computes it, are the same, and what the code reads is that.
use Rattle.std.proofs.Common.{◌≡◌, ◌↔◌, ℕ, zero, suc, ◌+◌, ◌^◌, ◌<◌, List, [], ◌∷◌, map, length, take, Bool, true, false, cond, refl, sym, ap, subst, ◌∙◌, arith}
use Rattle.std.specs.Prelude.{Option, None, Result, Ok, Err}
use Rattle.ibp_algebra.specs.Polynomial.{Polynomial}
use Rattle.poly_text.specs.declared.fault.TextFault.{TextFault}
use Rattle.poly_text.specs.declared.fault.Unread.{Unread}
use Rattle.poly_text.specs.Token.{Token, is_blank}
use Rattle.poly_text.specs.Scanning.{further_bytes, token_of, tokens_from, tokens}
use Rattle.poly_text.specs.Tree.{Tree}
use Rattle.poly_text.specs.Value.{value}
use Rattle.poly_text.specs.PolyText.{names_of, number_value, IsTextAnswer, IsNumberAnswer, OrNoMemory, UpToFault}
use Rattle.poly_text.specs.Answer.{text_answer, number_answer}
use Rattle.poly_text.specs.Told.{Fails, Answers, unread_by}
use Rattle.poly_text.specs.Reading.{read_tokens, read_end, then_reading, first_reading, place_in, placed, read_text}
use Rattle.poly_text.proofs.MovedPlaces.{moved, token_moved, moved_value, from_moved_fault, unmoved}
use Rattle.poly_text.proofs.Simulation.{moved_answer}
use Rattle.poly_text.proofs.Faulting.{answer_is}

or_memory : {X : Type 0} (IsAnswer : Result X TextFault → Type 0) (given : Result X TextFault) → ((r : Result X TextFault) → given ≡ r → IsAnswer r)
    → (r : Result X TextFault) → Answers r given → OrNoMemory IsAnswer r
or_memory IsAnswer given go (Ok x) h = go (Ok x) h
or_memory IsAnswer given go (Err TextFault.NoMemory) h = tt
or_memory IsAnswer given go r h = go r h

-- the answer that is read is the text's, but for the places beyond the greatest
read_is : (n : ℕ) (number : List ℕ → Option ℕ) (bytes : List ℕ) → read_text n number bytes ≡ moved place_in (text_answer n number bytes)
read_is n number bytes = moved_answer place_in n number bytes

abbrev itself : ℕ → ℕ
itself at = at

-- a short text has none
one_more : (blank : Bool) (token : Token) (p : ℕ) (ts : List (Token × ℕ)) → place_in p ≡ p → map placed ts ≡ map (token_moved itself) ts
    → map placed (cond blank ts ((token, p) ∷ ts)) ≡ map (token_moved itself) (cond blank ts ((token, p) ∷ ts))
one_more true token p ts e others = others
one_more false token p ts e others = ap (λ q. (token, q) ∷ map placed ts) e ∙ ap (λ (us : List (Token × ℕ)). (token, p) ∷ us) others

short_tokens : (skipped p : ℕ) (bytes : List ℕ) → p + length bytes < 2 ^ 32 → map placed (tokens_from skipped p bytes) ≡ map (token_moved itself) (tokens_from skipped p bytes)
short_tokens skipped p [] short = refl
short_tokens (suc skipped) p (b ∷ bytes) short = short_tokens skipped (suc p) bytes (omega (arith, short))
short_tokens zero p (b ∷ bytes) short =
    one_more (is_blank b) (token_of b (b ∷ take (further_bytes b bytes) bytes)) p (tokens_from (further_bytes b bytes) (suc p) bytes) (omega (arith, short))
    (short_tokens (further_bytes b bytes) (suc p) bytes (omega (arith, short)))

short_read : (n : ℕ) (number : List ℕ → Option ℕ) (bytes : List ℕ) → length bytes < 2 ^ 32 → read_text n number bytes ≡ text_answer n number bytes
short_read n number bytes short =
    let last : place_in (length bytes) ≡ length bytes = omega (arith, short) in
    ap (λ (ts : List (Token × ℕ)). then_reading (read_tokens n number first_reading ts) (λ reading. read_end reading (place_in (length bytes)))) (short_tokens 0 0 bytes (omega (arith, short)))
    ∙ ap (λ end. then_reading (read_tokens n number first_reading (map (token_moved itself) (tokens bytes))) (λ reading. read_end reading end)) last
    ∙ moved_answer itself n number bytes ∙ unmoved (text_answer n number bytes)

pub short_told : (n : ℕ) (number : List ℕ → Option ℕ) (bytes : List ℕ) (r : Result Polynomial TextFault) → length bytes < 2 ^ 32 → Answers r (read_text n number bytes) → OrNoMemory (IsTextAnswer n number bytes) r
short_told n number bytes r short h =
    or_memory (IsTextAnswer n number bytes) (text_answer n number bytes) (λ r. (answer_is n number bytes r).0) r
    (subst (Answers r) (short_read n number bytes short) h)

-- a text of any length, whose fault is not said
some_fault : {X : Type 0} (IsAnswer : Result X TextFault → Type 0) (given : Result X TextFault) → ((fault : TextFault) → given ≡ Err fault → (first : TextFault) × IsAnswer (Err first))
    → (fault : TextFault) → Fails fault given → UpToFault IsAnswer (Err (unread_by fault))
some_fault IsAnswer given go TextFault.NoMemory h = tt
some_fault IsAnswer given go fault h = go fault h

pub value_read : (n : ℕ) (number : List ℕ → Option ℕ) (bytes : List ℕ) (p : Polynomial) → read_text n number bytes ≡ Ok p → IsTextAnswer n number bytes (Ok p)
value_read n number bytes p h =
    (answer_is n number bytes (Ok p)).0 (moved_value place_in (text_answer n number bytes) p (sym (read_is n number bytes) ∙ h))

pub fault_read : (n : ℕ) (number : List ℕ → Option ℕ) (bytes : List ℕ) (fault : TextFault) (unread : Unread) → unread ≡ unread_by fault → Fails fault (read_text n number bytes) → UpToFault (IsTextAnswer n number bytes) (Err unread)
fault_read n number bytes fault unread is h =
    subst (λ u. UpToFault (IsTextAnswer n number bytes) (Err u)) (sym is) (some_fault (IsTextAnswer n number bytes) (read_text n number bytes) found fault h)
  where
    found : (fault : TextFault) → read_text n number bytes ≡ Err fault → (first : TextFault) × IsTextAnswer n number bytes (Err first)
    found fault e =
        let first = from_moved_fault place_in (text_answer n number bytes) fault (sym (read_is n number bytes) ∙ e) in
        (first.0, (answer_is n number bytes (Err first.0)).0 first.1)

number_given : (bytes : List ℕ) {answer : Result ℕ TextFault} → IsNumberAnswer bytes answer → number_answer bytes ≡ answer
number_given bytes (IsNumberAnswer.of_text {answer = answer} h) = ap number_value ((answer_is 0 (λ name. None) bytes answer).1 h)

pub number_is_answer : (bytes : List ℕ) (answer : Result ℕ TextFault) → (number_answer bytes ≡ answer) ↔ IsNumberAnswer bytes answer
number_is_answer bytes answer = (
  λ e. subst (λ r. IsNumberAnswer bytes r) e (IsNumberAnswer.of_text ((answer_is 0 (λ name. None) bytes _).0 refl)),
  λ h. number_given bytes h,
)

-- a polynomial that is the answer to a text is the value of a tree
value_of_answer : (n : ℕ) (number : List ℕ → Option ℕ) (bytes : List ℕ) {answer : Result Polynomial TextFault} (p : Polynomial) → IsTextAnswer n number bytes answer → answer ≡ Ok p
    → (t : Tree) × (value (names_of n number) t ≡ Ok p)
value_of_answer n number bytes p (IsTextAnswer.of_form s h) e = absurd (cc)
value_of_answer n number bytes p (IsTextAnswer.of_tree {t = t} s h none) e = (t, e)

pub answer_value : (n : ℕ) (number : List ℕ → Option ℕ) (bytes : List ℕ) (p : Polynomial) → text_answer n number bytes ≡ Ok p → (t : Tree) × (value (names_of n number) t ≡ Ok p)
answer_value n number bytes p e = value_of_answer n number bytes p ((answer_is n number bytes (Ok p)).0 e) refl
