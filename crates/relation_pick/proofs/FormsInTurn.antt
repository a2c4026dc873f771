-- The reduced forms of the targets in turn.
use Rattle.std.proofs.Common.{◌≡◌, ℕ, ◌+◌, ◌<◌, ◌≤◌, List, [], ◌∷◌, ◌++◌, length, get_or, take, sym, ap, subst, ◌∙◌}
use Rattle.std.specs.declared.cmp.Ordering.{Ordering}
use Rattle.std.proofs.lemmas.List.{take_more, take_all}
use Rattle.ibp_algebra.specs.FormalSum.{FormalSum}
use Rattle.relation_pick.specs.Picking.{IsForm, AllForms, AllAnswers}

module _ {K : Type 0} (order : K → K → Ordering) (candidates : List (FormalSum K)) where
  AllForms-push : (targets forms : List (FormalSum K)) (target form : FormalSum K) → AllForms order candidates targets forms → IsForm order candidates target form
      → AllForms order candidates (targets ++ target ∷ []) (forms ++ form ∷ [])
  AllForms-push [] [] target form h k = (k, tt)
  AllForms-push [] (f ∷ forms) target form h k = absurd h
  AllForms-push (t ∷ targets) [] target form h k = absurd h
  AllForms-push (t ∷ targets) (f ∷ forms) target form h k = (h.0, AllForms-push targets forms target form h.1 k)

  pub AllForms-step : (targets : List (FormalSum K)) (n : ℕ) (forms forms' : List (FormalSum K)) (target form : FormalSum K) → n < length targets → target ≡ get_or targets n target
      → IsForm order candidates target form → forms' ≡ forms ++ form ∷ [] → AllForms order candidates (take n targets) forms → AllForms order candidates (take (n + 1) targets) forms'
  AllForms-step targets n forms forms' target form within is k more h =
      let longer : take (n + 1) targets ≡ take n targets ++ target ∷ [] = take_more targets n target within ∙ ap (λ (t : FormalSum K). take n targets ++ t ∷ []) (sym is) in
      subst (λ (ts : List (FormalSum K)). AllForms order candidates ts forms') (sym longer)
      (subst (λ (fs : List (FormalSum K)). AllForms order candidates (take n targets ++ target ∷ []) fs) (sym more) (AllForms-push (take n targets) forms target form h k))

  pub AllForms-whole : (targets : List (FormalSum K)) (n : ℕ) (forms : List (FormalSum K)) → length targets ≤ n → AllForms order candidates (take n targets) forms → AllForms order candidates targets forms
  AllForms-whole targets n forms long h = subst (λ (ts : List (FormalSum K)). AllForms order candidates ts forms) (take_all n targets long) h

  -- the forms of answers
  pub AllForms-from_answers : (targets forms : List (FormalSum K)) (all : List (FormalSum ℕ)) → AllAnswers order candidates targets forms all → AllForms order candidates targets forms
  AllForms-from_answers [] [] [] h = tt
  AllForms-from_answers [] [] (w ∷ all) h = absurd h
  AllForms-from_answers [] (f ∷ forms) all h = absurd h
  AllForms-from_answers (t ∷ targets) [] all h = absurd h
  AllForms-from_answers (t ∷ targets) (f ∷ forms) [] h = absurd h
  AllForms-from_answers (t ∷ targets) (f ∷ forms) (w ∷ all) h = (record { reduced = h.0.reduced; canonical = h.0.canonical }, AllForms-from_answers targets forms all h.1)
