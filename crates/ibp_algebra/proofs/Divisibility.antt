-- A variable divides a canonical polynomial where each term has a positive exponent of it.
use Rattle.std.proofs.Common.{◌≡◌, ℕ, ◌<◌, Bool, ltb, get_or, List, [], ◌∷◌, refl}
use Rattle.std.specs.List.{list_all}
use Rattle.std.specs.Bool.{Decides}
use Rattle.std.proofs.lemmas.Bool.Decides.{Decides-ltb, Decides-and, Decides-like, Decides-at}
use Rattle.ibp_algebra.specs.FormalSum.{AllKeys, IsCanonical}
use Rattle.ibp_algebra.proofs.Terms.{CountingKeys, coefficient-CountingKeys, AllKeys-canonical}
use Rattle.ibp_algebra.specs.Exponents.{same_exponents, deg_rev_lex}
use Rattle.ibp_algebra.specs.Polynomial.{Polynomial, IsDivisibleBy}
use Rattle.ibp_algebra.specs.ExponentOrder.{exponents_decide, deg_rev_lex_total}

abbrev pub has_variable : ℕ → List ℕ × ℕ → Bool
has_variable i term = ltb 0 (get_or term.0 i 0)

each_has_variable : (i : ℕ) (f : Polynomial) → Decides (list_all (has_variable i) f) (AllKeys (λ m. 0 < get_or m i 0) f)
each_has_variable i [] = (λ e. tt, λ h. refl)
each_has_variable i (t ∷ f) = Decides-and _ _ (Decides-ltb 0 (get_or t.0 i 0)) (each_has_variable i f)

pub CountingKeys-from_all : (P : List ℕ → Type 0) (f : Polynomial) → AllKeys P f → CountingKeys P f
CountingKeys-from_all P [] h = tt
CountingKeys-from_all P (t ∷ f) h = (λ _. h.0, CountingKeys-from_all P f h.1)

pub IsDivisibleBy-from_all : (i : ℕ) (f : Polynomial) → AllKeys (λ m. 0 < get_or m i 0) f → IsDivisibleBy i f
IsDivisibleBy-from_all i f h = coefficient-CountingKeys same_exponents exponents_decide (λ m. 0 < get_or m i 0) f (CountingKeys-from_all _ f h)

pub all_from_IsDivisibleBy : (i : ℕ) (f : Polynomial) → IsCanonical deg_rev_lex f → IsDivisibleBy i f → AllKeys (λ m. 0 < get_or m i 0) f
all_from_IsDivisibleBy i f canonical h = AllKeys-canonical same_exponents exponents_decide deg_rev_lex deg_rev_lex_total (λ m. 0 < get_or m i 0) f canonical h

pub Decides-IsDivisibleBy : (i : ℕ) (f : Polynomial) (r : Bool) → IsCanonical deg_rev_lex f → r ≡ list_all (has_variable i) f → Decides r (IsDivisibleBy i f)
Decides-IsDivisibleBy i f r canonical e =
    Decides-at r _ e (Decides-like _ (IsDivisibleBy-from_all i f) (all_from_IsDivisibleBy i f canonical) (each_has_variable i f))
