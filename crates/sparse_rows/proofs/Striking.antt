-- A loop that strikes: what it has kept of the first terms.
use Rattle.std.proofs.Common.{◌≡◌, ℕ, ◌+◌, ◌<◌, ◌≤◌, Bool, true, false, if◌then◌else◌, [], ◌∷◌, ◌++◌, length, get_or, take, append-nil, refl, sym, ap, subst, ◌∙◌}
use Rattle.std.proofs.lemmas.List.{take_more, take_all}
use Rattle.std.specs.declared.cmp.Ordering.{Ordering}
use Rattle.ibp_algebra.specs.FormalSum.{FormalSum, IsCanonical, strike}
use Rattle.ibp_algebra.proofs.Striking.{IsCanonical-strike}

module _ {K : Type 0} (test : K → Bool) where
  abbrev unless_struck : Bool → K × ℕ → FormalSum K
  unless_struck struck t = if struck then [] else (t ∷ [])

  end_step : (s : K × ℕ) (others end whole : FormalSum K) (struck : Bool) → whole ≡ others ++ end
      → (if struck then whole else (s ∷ whole)) ≡ (if struck then others else (s ∷ others)) ++ end
  end_step s others end whole true e = e
  end_step s others end whole false e = ap (λ f. s ∷ f) e

  strike_end : (f : FormalSum K) (t : K × ℕ) → strike test (f ++ t ∷ []) ≡ strike test f ++ unless_struck (test t.0) t
  strike_end [] t = refl
  strike_end (s ∷ f) t = end_step s (strike test f) (unless_struck (test t.0) t) (strike test (f ++ t ∷ [])) (test s.0) (strike_end f t)

  strike_more : (f : FormalSum K) (i : ℕ) (t : K × ℕ) (struck : Bool) → i < length f → t ≡ get_or f i t → test t.0 ≡ struck
      → strike test (take (i + 1) f) ≡ strike test (take i f) ++ unless_struck struck t
  strike_more f i t struck within is e =
      ap (strike test) (take_more f i t within ∙ ap (λ u. take i f ++ u ∷ []) (sym is)) ∙ strike_end (take i f) t
      ∙ ap (λ b. strike test (take i f) ++ unless_struck b t) e

  -- a term that stays, and one that does not
  pub strike_stays : (f items old : FormalSum K) (i : ℕ) (t : K × ℕ) → i < length f → t ≡ get_or f i t → test t.0 ≡ false
      → items ≡ old ++ t ∷ [] → old ≡ strike test (take i f) → items ≡ strike test (take (i + 1) f)
  strike_stays f items old i t within is stays e h = e ∙ ap (λ g. g ++ t ∷ []) h ∙ sym (strike_more f i t false within is stays)

  pub strike_goes : (f items old : FormalSum K) (i : ℕ) (t : K × ℕ) → i < length f → t ≡ get_or f i t → test t.0 ≡ true
      → items ≡ old → old ≡ strike test (take i f) → items ≡ strike test (take (i + 1) f)
  strike_goes f items old i t within is goes e h = e ∙ h ∙ sym (append-nil (strike test (take i f))) ∙ sym (strike_more f i t true within is goes)

  -- at the end of the loop
  pub strike_whole : (items terms f : FormalSum K) (n : ℕ) → items ≡ strike test (take n terms) → length terms ≤ n → terms ≡ f → items ≡ strike test f
  strike_whole items terms f n e long is = e ∙ ap (strike test) (take_all n terms long ∙ is)

  pub strike_whole_canonical : (order : K → K → Ordering) (items terms f : FormalSum K) (n : ℕ) → items ≡ strike test (take n terms) → length terms ≤ n → terms ≡ f
      → IsCanonical order f → IsCanonical order items
  strike_whole_canonical order items terms f n e long is h =
      subst (IsCanonical order) (sym (strike_whole items terms f n e long is)) (IsCanonical-strike order test f h)
