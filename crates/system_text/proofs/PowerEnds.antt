-- What stands behind the power of a variable.
use Rattle.std.proofs.Common.{◌≡◌, ◌≢◌, ℕ, suc, ◌+◌, ◌<◌, ◌^◌, List, [], ◌∷◌, ◌++◌, length, Bool, true, false, cond, refl, ◌∙◌, append_assoc, subst, arith, inl, inr}
use Rattle.std.specs.Prelude.{codes, decimal, ◌==◌, ◌||◌, ◌⊎◌, nat_eq}
use Rattle.std.specs.Char.{is_ascii_digit}
use Rattle.std.proofs.lemmas.Bool.{eqb-true}
use Rattle.line_reader.specs.Fronts.{begins_with, EndsNumber}
use Rattle.mono_order.specs.declared.limits.TheConstants.{VARIABLES}
use Rattle.system_text.specs.Texts.{power_text, powers_text, monomial_text, poly_term_text}
use Rattle.system_text.specs.Polynomials.{IsPolyTerm, is_power_byte, is_term_byte, EndsTerm, EndsPower, exponent_text}

first_fails : (x y : Bool) → (x || y) ≡ false → x ≡ false
first_fails true y e = e
first_fails false y e = refl

pub number_ends : (rest : List ℕ) → begins_with is_power_byte rest ≡ false → EndsNumber rest
number_ends [] e = refl
number_ends (b ∷ rest) e = first_fails (is_ascii_digit b) (b == 94) e

pub power_ends : (rest : List ℕ) → EndsTerm rest → begins_with is_power_byte rest ≡ false
power_ends [] e = refl
power_ends (b ∷ rest) e = first_fails (is_power_byte b) (b == 42) e

ends_all : (i : ℕ) (rest : List ℕ) → EndsTerm rest → EndsPower i rest
ends_all i rest ends =
    record {
      power = power_ends rest ends;
      others = λ r e. let wrong : true ≡ false = subst (λ (t : List ℕ). begins_with is_term_byte t ≡ false) e ends in absurd (cc);
    }

-- the powers of later variables, and the end of the term
pub powers_end : (i k : ℕ) (es rest : List ℕ) → i < k → k + length es < 2 ^ 32 → EndsTerm rest → EndsPower i (powers_text k es ++ rest)
powers_end i k [] rest later small ends = ends_all i rest ends
powers_end i k (e ∷ es) rest later small ends =
    by (e == 0) (e == 1) (powers_end i (suc k) es rest (omega arith) (omega (arith, small)) ends)
  where
    by : (none one : Bool) → EndsPower i (powers_text (suc k) es ++ rest)
        → EndsPower i ((cond none [] (cond one (codes "*z" ++ decimal k) (codes "*z" ++ decimal k ++ codes "^" ++ decimal e)) ++ powers_text (suc k) es) ++ rest)
    by true one others = others
    by false true others =
        record {
          power = refl;
          others = λ r h.
              let is : r ≡ (decimal k ++ powers_text (suc k) es) ++ rest = cc in
              record {
                j = k;
                others = powers_text (suc k) es ++ rest;
                later = later;
                small = omega (arith, small);
                ends = number_ends (powers_text (suc k) es ++ rest) others.power;
                is = is ∙ append_assoc (decimal k) (powers_text (suc k) es) rest;
              };
        }
    by false false others =
        record {
          power = refl;
          others = λ r h.
              let is : r ≡ (((decimal k ++ codes "^") ++ decimal e) ++ powers_text (suc k) es) ++ rest = cc in
              record {
                j = k;
                others = codes "^" ++ (decimal e ++ (powers_text (suc k) es ++ rest));
                later = later;
                small = omega (arith, small);
                ends = refl;
                is = is
                    ∙ append_assoc ((decimal k ++ codes "^") ++ decimal e) (powers_text (suc k) es) rest
                    ∙ append_assoc (decimal k ++ codes "^") (decimal e) (powers_text (suc k) es ++ rest)
                    ∙ append_assoc (decimal k) (codes "^") (decimal e ++ (powers_text (suc k) es ++ rest));
              };
        }

-- the text of a power, by whether there is one
abbrev pub IsPowerIn : ℕ → ℕ → List ℕ → List ℕ → Type 0
IsPowerIn i e rest bytes = ((e ≡ 0) × (bytes ≡ rest)) ⊎ ((e ≢ 0) × (bytes ≡ codes "*z" ++ (decimal i ++ (exponent_text e ++ rest))))

pub power_cases : (i e : ℕ) (rest bytes : List ℕ) → bytes ≡ power_text i e ++ rest → IsPowerIn i e rest bytes
power_cases i e rest bytes h = by (e == 0) (e == 1) refl h
  where
    not_zero : (e : ℕ) → nat_eq e 0 ≡ false → e ≢ 0
    not_zero e is z = let wrong : true ≡ false = subst (λ k. nat_eq k 0 ≡ false) z is in absurd (cc)

    by : (none one : Bool) → nat_eq e 0 ≡ none
        → bytes ≡ cond none [] (cond one (codes "*z" ++ decimal i) (codes "*z" ++ decimal i ++ codes "^" ++ decimal e)) ++ rest
        → ((e ≡ 0) × (bytes ≡ rest)) ⊎ ((e ≢ 0) × (bytes ≡ codes "*z" ++ (decimal i ++ (cond one [] (codes "^" ++ decimal e) ++ rest))))
    by true one is h = inl (eqb-true e 0 is, h)
    by false true is h = inr (not_zero e is, h ∙ append_assoc (codes "*z") (decimal i) rest)
    by false false is h =
        inr (
          not_zero e is,
          h ∙ append_assoc ((codes "*z" ++ decimal i) ++ codes "^") (decimal e) rest
              ∙ append_assoc (codes "*z" ++ decimal i) (codes "^") (decimal e ++ rest)
              ∙ append_assoc (codes "*z") (decimal i) (codes "^" ++ (decimal e ++ rest)),
        )

pub exponent_ends : (e : ℕ) (rest : List ℕ) → begins_with is_power_byte rest ≡ false → EndsNumber (exponent_text e ++ rest)
exponent_ends e rest ends = by (e == 1)
  where
    by : (one : Bool) → EndsNumber (cond one [] (codes "^" ++ decimal e) ++ rest)
    by true = number_ends rest ends
    by false = refl

-- an exponent is 1, or stands behind a caret
pub exponent_cases : (e : ℕ) (rest bytes : List ℕ) → bytes ≡ exponent_text e ++ rest → ((e ≡ 1) × (bytes ≡ rest)) ⊎ (bytes ≡ codes "^" ++ (decimal e ++ rest))
exponent_cases e rest bytes h = by (e == 1) refl h
  where
    by : (one : Bool) → nat_eq e 1 ≡ one → bytes ≡ cond one [] (codes "^" ++ decimal e) ++ rest → ((e ≡ 1) × (bytes ≡ rest)) ⊎ (bytes ≡ codes "^" ++ (decimal e ++ rest))
    by true is h = inl (eqb-true e 1 is, h)
    by false is h = inr h

pub no_caret : (rest r : List ℕ) → begins_with is_power_byte rest ≡ false → rest ≢ codes "^" ++ r
no_caret rest r ends e = let wrong : true ≡ false = subst (λ (t : List ℕ). begins_with is_power_byte t ≡ false) e ends in absurd (cc)

pub term_cut : (x : List ℕ × ℕ) (rest bytes : List ℕ) → bytes ≡ poly_term_text x ++ rest → bytes ≡ decimal x.1 ++ (monomial_text x.0 ++ rest)
term_cut x rest bytes e = e ∙ append_assoc (decimal x.1) (monomial_text x.0) rest

pub term_ends : (n : ℕ) (x : List ℕ × ℕ) (rest : List ℕ) → IsPolyTerm n x → EndsTerm rest → EndsNumber (monomial_text x.0 ++ rest)
term_ends n x rest is ends =
    let long : length x.0 ≡ VARIABLES = is.monomial.variables.each_variable in
    let end = powers_end 0 1 x.0 rest (omega arith) (omega (arith, long)) ends in
    number_ends (monomial_text x.0 ++ rest) end.power

pub plus_ends : (r : List ℕ) → EndsTerm (codes " + " ++ r)
plus_ends r = refl
