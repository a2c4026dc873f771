-- The places of a pick.
use Rattle.std.proofs.Common.{◌≡◌, ℕ, ◌<◌, ◌≤◌, List, [], ◌∷◌, length, refl, ap, suc}
use Rattle.std.specs.Prelude.{All}
use Rattle.std.specs.Ordering.{nat_cmp}
use Rattle.std.specs.Cmp.{nat_cmp_total}
use Rattle.std.specs.FinMap.{nat_cmp-IsAntisymmetric}
use Rattle.std.specs.declared.cmp.Ordering.{Ordering}
use Rattle.std.proofs.lemmas.List.Elements.{Contains-get_or}
use Rattle.ibp_algebra.specs.FormalSum.{FormalSum}
use Rattle.ibp_algebra.proofs.Members.{AllKeys-counting}
use Rattle.relation_pick.specs.Picking.{IsInBasis, IsWritten, AllAnswers, IsPick}
use Rattle.relation_pick.proofs.Places.{few_below}

module _ {K : Type 0} (order : K → K → Ordering) (candidates : List (FormalSum K)) where
  -- a written place is one of a candidate
  written_listed : (targets : List (FormalSum K)) (k : ℕ) → IsWritten order candidates targets k → k < length candidates
  written_listed targets k h =
      let needed = h.4 in
      (AllKeys-counting nat_cmp nat_cmp_total nat_cmp-IsAntisymmetric (IsInBasis order candidates) needed.weights needed.expressed.basis k needed.counts).listed

  pub places_within : (targets : List (FormalSum K)) (written : List ℕ) (forms : List (FormalSum K)) (weights : List (FormalSum ℕ)) → IsPick order candidates targets written forms weights
      → All (λ place. place < length candidates) written
  places_within targets written forms weights pick = λ k d inside. written_listed targets _ ((pick.lists _).0 (Contains-get_or written k d inside))

  pub few_places : (targets : List (FormalSum K)) (written : List ℕ) (forms : List (FormalSum K)) (weights : List (FormalSum ℕ)) → IsPick order candidates targets written forms weights → length written ≤ length candidates
  few_places targets written forms weights pick = few_below written (length candidates) pick.ascends (λ x inside. written_listed targets x ((pick.lists x).0 inside))

  -- there is one answer for each target
  pub as_many_forms : (targets forms : List (FormalSum K)) (weights : List (FormalSum ℕ)) → AllAnswers order candidates targets forms weights → length forms ≡ length targets
  as_many_forms [] [] [] all = refl
  as_many_forms [] [] (w ∷ weights) all = absurd all
  as_many_forms [] (form ∷ forms) weights all = absurd all
  as_many_forms (target ∷ targets) [] weights all = absurd all
  as_many_forms (target ∷ targets) (form ∷ forms) [] all = absurd all
  as_many_forms (target ∷ targets) (form ∷ forms) (w ∷ weights) all = ap suc (as_many_forms targets forms weights all.1)

  pub as_many_weights : (targets forms : List (FormalSum K)) (weights : List (FormalSum ℕ)) → AllAnswers order candidates targets forms weights → length weights ≡ length targets
  as_many_weights [] [] [] all = refl
  as_many_weights [] [] (w ∷ weights) all = absurd all
  as_many_weights [] (form ∷ forms) weights all = absurd all
  as_many_weights (target ∷ targets) [] weights all = absurd all
  as_many_weights (target ∷ targets) (form ∷ forms) [] all = absurd all
  as_many_weights (target ∷ targets) (form ∷ forms) (w ∷ weights) all = ap suc (as_many_weights targets forms weights all.1)
