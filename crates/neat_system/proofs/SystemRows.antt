-- The rows of a system: they are those of a pick, so they are independent, reduce as all candidates do, and each is needed.
use Rattle.std.proofs.Common.{◌≡◌, ◌≢◌, inl, inr, ℕ, zero, suc, ◌<◌, List, [], ◌∷◌, length, get_or, map, refl, sym, ◌∙◌, ap, subst, arith}
use Rattle.std.specs.Prelude.{Any, Contains}
use Rattle.std.specs.List.{AllByRecursion}
use Rattle.std.specs.Ordering.{eq_by_cmp}
use Rattle.ibp_base.proofs.Members.{in_head, in_tail, All-each}
use Rattle.ibp_algebra.specs.FormalSum.{FormalSum, map_keys}
use Rattle.ibp_algebra.specs.Spans.{row_at, IsReducedForm}
use Rattle.ibp_algebra.proofs.Members.{InSpan-same}
use Rattle.ibp_algebra.proofs.ReducedForms.{IsReducedForm-unique}
use Rattle.ibp_algebra.proofs.SumLaws.{SameCoefficients-refl, SameCoefficients-append, SameCoefficients-scale}
use Rattle.sector_lattice.specs.Orders.{integral_cmp_total, same_integrals, integrals_decide}
use Rattle.sector_lattice.specs.Sectors.{integral_cmp}
use Rattle.sparse_rows.specs.Rows.{IntegralSum, SameRow}
use Rattle.family.specs.Within.{DataWithin}
use Rattle.family.specs.FamilyData.{FamilyData}
use Rattle.row_echelon.specs.RowSpans.{SpanOf, WholeSpan, SpanWithout}
use Rattle.relation_pick.specs.Marks.{AnyNamed}
use Rattle.relation_pick.specs.Picking.{AllAnswers, IsPick, rows_at, DependsOn, IsIrredundant}
use Rattle.relation_pick.proofs.ByRows.{answer_by_numbers, names_written, weights_written, pick_is_irredundant}
use Rattle.sector_job.specs.Candidates.{Integral, Label}
use Rattle.system_text.specs.declared.value.Reduction.{Reduction}
use Rattle.system_text.specs.declared.value.System.{System}
use Rattle.system_text.specs.declared.value.Written.{Written}
use Rattle.neat_system.specs.Headline.{rows_of, AreAllCandidates, IsReductionBy, ReducesAsAll, IsIndependentSystem, NoneToSpare}
use Rattle.target_rows.specs.Reductions.{declared_row, number_of, reductions_of}
use Rattle.neat_system.specs.System.{AreWorks, all_candidates, all_labels, relation_at, IsSystem}
use Rattle.neat_system.proofs.OneSystem.{one_books, one_works}

-- a reduced form may be given by another row with the same coefficients
form_alike : (rows : List IntegralSum) (Places : ℕ → Type 0) (f v w : IntegralSum) → SameRow v w
    → IsReducedForm integral_cmp (SpanOf integral_cmp rows Places) f v → IsReducedForm integral_cmp (SpanOf integral_cmp rows Places) f w
form_alike rows Places f v w same h = record {
  within = InSpan-same integral_cmp integral_cmp_total same_integrals (row_at rows) Places
      (SameCoefficients-append (eq_by_cmp integral_cmp) integrals_decide (SameCoefficients-refl (eq_by_cmp integral_cmp) f)
      (SameCoefficients-scale (eq_by_cmp integral_cmp) integrals_decide 2147483646 same)) h.within;
  reduced = λ u key inside lead. sym (same.same_at key) ∙ h.reduced u key inside lead;
}

rows_match : (labels : List Label) (candidates : List IntegralSum) (places : List ℕ) → map (λ (relation : Written). relation.row) (map (relation_at labels candidates) places) ≡ rows_at candidates places
rows_match labels candidates [] = refl
rows_match labels candidates (place ∷ places) = ap (λ (rest : List IntegralSum). row_at candidates place ∷ rest) (rows_match labels candidates places)

module _ (family : FamilyData) (candidates : List IntegralSum) (written : List ℕ) where
  abbrev declared : List Integral → List IntegralSum
  declared targets = map (declared_row family) targets

  targets_of : (targets : List Integral) (forms : List IntegralSum) (all : List (FormalSum ℕ)) → AllAnswers integral_cmp candidates (declared targets) forms all
      → map (λ (reduction : Reduction). reduction.target) (reductions_of written targets forms all) ≡ targets
  targets_of [] [] [] h = refl
  targets_of [] [] (w ∷ all) h = absurd h
  targets_of [] (f ∷ forms) all h = absurd h
  targets_of (t ∷ targets) [] all h = absurd h
  targets_of (t ∷ targets) (f ∷ forms) [] h = absurd h
  targets_of (t ∷ targets) (f ∷ forms) (w ∷ all) h = ap (λ (rest : List Integral). t ∷ rest) (targets_of targets forms all h.1)

  module _ (whole : List Integral) (forms : List IntegralSum) (all : List (FormalSum ℕ)) (pick : IsPick integral_cmp candidates (declared whole) written forms all) where
    irredundant : IsIrredundant integral_cmp candidates (declared whole) (rows_at candidates written)
    irredundant = pick_is_irredundant integral_cmp integral_cmp_total same_integrals candidates (declared whole) written forms all pick

    each_reduction : (targets : List Integral) (fs : List IntegralSum) (ws : List (FormalSum ℕ)) → AllAnswers integral_cmp candidates (declared targets) fs ws
        → ((k : ℕ) → AnyNamed ws k → Contains written k) → ((f : IntegralSum) → Contains (declared targets) f → Contains (declared whole) f)
        → AllByRecursion (IsReductionBy family candidates (rows_at candidates written)) (reductions_of written targets fs ws)
    each_reduction [] [] [] h named listed = tt
    each_reduction [] [] (w ∷ ws) h named listed = absurd h
    each_reduction [] (f ∷ fs) ws h named listed = absurd h
    each_reduction (t ∷ targets) [] ws h named listed = absurd h
    each_reduction (t ∷ targets) (f ∷ fs) [] h named listed = absurd h
    each_reduction (t ∷ targets) (f ∷ fs) (w ∷ ws) h named listed =
        let numbered = answer_by_numbers integral_cmp integral_cmp_total same_integrals candidates written pick.ascends (declared_row family t) f w h.0
        (weights_written written w (λ k inside. named k (inl inside))) in (
          record {
            by_all = h.0.reduced;
            by_rows = irredundant.enough (declared_row family t) f (listed (declared_row family t) (in_head (declared_row family t) (declared targets) (declared_row family t) refl)) h.0.reduced;
            numbers = numbered.0;
            weighed = numbered.1;
          },
          each_reduction targets fs ws h.1 (λ k inside. named k (inr inside)) (λ g inside. listed g (in_tail (declared_row family t) (declared targets) g inside)),
        )

    abbrev IsNeeded : List IntegralSum → ℕ → Reduction → Type 0
    IsNeeded rows place reduction = ¬ (IsReducedForm integral_cmp (SpanWithout integral_cmp rows place) (declared_row family reduction.target) reduction.reduced)

    -- the target whose reduced form changes has its reduction at the same place
    needed_at : (rows : List IntegralSum) (place : ℕ) (targets : List Integral) (fs : List IntegralSum) (ws : List (FormalSum ℕ)) → AllAnswers integral_cmp candidates (declared targets) fs ws
        → AllByRecursion (λ (reduction : Reduction). IsReducedForm integral_cmp (WholeSpan integral_cmp rows) (declared_row family reduction.target) reduction.reduced) (reductions_of written targets fs ws)
        → (i : ℕ) (target : IntegralSum) → i < length (declared targets) → get_or (declared targets) i target ≡ target → DependsOn integral_cmp rows target place
        → Any (IsNeeded rows place) (reductions_of written targets fs ws)
    needed_at rows place [] fs ws h r i target within is depends = absurd (omega arith)
    needed_at rows place (t ∷ targets) [] ws h r i target within is depends = absurd h
    needed_at rows place (t ∷ targets) (f ∷ fs) [] h r i target within is depends = absurd h
    needed_at rows place (t ∷ targets) (f ∷ fs) (w ∷ ws) h r zero target within is depends = (
      0,
      record { target = t; reduced = f; weights = map_keys (number_of written) w },
      omega arith,
      refl,
      λ still.
          let before : IsReducedForm integral_cmp (WholeSpan integral_cmp rows) (declared_row family t) depends.form = subst (λ g. IsReducedForm integral_cmp (WholeSpan integral_cmp rows) g depends.form) (sym is) depends.before in
          let same : SameRow f depends.form = IsReducedForm-unique integral_cmp integral_cmp_total same_integrals (row_at rows) (λ k. k < length rows) (declared_row family t) f depends.form r.0 before in
          depends.after (subst (λ g. IsReducedForm integral_cmp (SpanWithout integral_cmp rows place) g depends.form) is
          (form_alike rows (λ k. (k < length rows) × (k ≢ place)) (declared_row family t) f depends.form same still)),
    )
    needed_at rows place (t ∷ targets) (f ∷ fs) (w ∷ ws) h r (suc i) target within is depends =
        let rest = needed_at rows place targets fs ws h.1 r.1 i target (omega arith) is depends in
        (suc rest.0, rest.1, omega (arith, rest.2), rest.3, rest.4)

by_rows_each : (family : FamilyData) (candidates rows : List IntegralSum) (reductions : List Reduction) → AllByRecursion (IsReductionBy family candidates rows) reductions
    → AllByRecursion (λ (reduction : Reduction). IsReducedForm integral_cmp (WholeSpan integral_cmp rows) (declared_row family reduction.target) reduction.reduced) reductions
by_rows_each family candidates rows [] h = tt
by_rows_each family candidates rows (reduction ∷ reductions) h = (h.0.by_rows, by_rows_each family candidates rows reductions h.1)

module _ (family : FamilyData) (system : System) (is : IsSystem family system) where
  abbrev candidates : List IntegralSum
  candidates = all_candidates is.works

  abbrev picked_rows : List IntegralSum
  picked_rows = rows_at candidates is.written

  rows_are : picked_rows ≡ rows_of system
  rows_are = sym (ap (λ (relations : List Written). map (λ (relation : Written). relation.row) relations) is.relations ∙ rows_match (all_labels is.works) candidates is.written)

  abbrev reductions : List Reduction
  reductions = reductions_of is.written family.targets is.forms is.weights

  all_reductions : AllByRecursion (IsReductionBy family candidates picked_rows) reductions
  all_reductions = each_reduction family candidates is.written family.targets is.forms is.weights is.pick family.targets is.forms is.weights is.pick.answers
      (names_written integral_cmp candidates (map (declared_row family) family.targets) is.written is.forms is.weights is.pick) (λ f inside. inside)

  pub reduces_as_all : ReducesAsAll family system
  reduces_as_all = record {
    targets = ap (λ (rs : List Reduction). map (λ (reduction : Reduction). reduction.target) rs) is.reductions ∙ targets_of family candidates is.written family.targets is.forms is.weights is.pick.answers;
    candidates = candidates;
    are_all = record { books = is.books; are_books = is.are_books; works = is.works; are_works = is.are_works; are = refl };
    each = All-each (IsReductionBy family candidates (rows_of system)) system.reductions
        (subst (λ (rs : List Reduction). AllByRecursion (IsReductionBy family candidates (rows_of system)) rs) (sym is.reductions)
        (subst (λ (rows : List IntegralSum). AllByRecursion (IsReductionBy family candidates rows) reductions) rows_are all_reductions));
  }

  laws : IsIrredundant integral_cmp candidates (map (declared_row family) family.targets) (rows_of system)
  laws = subst (λ (rows : List IntegralSum). IsIrredundant integral_cmp candidates (map (declared_row family) family.targets) rows) rows_are
      (pick_is_irredundant integral_cmp integral_cmp_total same_integrals candidates (map (declared_row family) family.targets) is.written is.forms is.weights is.pick)

  pub is_independent : IsIndependentSystem system
  is_independent = laws.independent

  pub none_to_spare : NoneToSpare family system
  none_to_spare place within =
      let d = laws.needed place within in
      let each = subst (λ (rows : List IntegralSum). AllByRecursion (IsReductionBy family candidates rows) reductions) rows_are all_reductions in
      subst (λ (rs : List Reduction). Any (λ (reduction : Reduction). ¬ (IsReducedForm integral_cmp (SpanWithout integral_cmp (rows_of system) place) (declared_row family reduction.target) reduction.reduced)) rs) (sym is.reductions)
      (needed_at family candidates is.written family.targets is.forms is.weights is.pick (rows_of system) place family.targets is.forms is.weights is.pick.answers
      (by_rows_each family candidates (rows_of system) reductions each) d.0 d.1 d.2 d.3 d.4)

-- a family has one list of candidates at most
pub one_candidate_list : (family : FamilyData) (first second : List IntegralSum) → DataWithin family → AreAllCandidates family first → AreAllCandidates family second → first ≡ second
one_candidate_list family first second within one two =
    let books : one.books ≡ two.books = one_books family within one.books two.books one.are_books two.are_books in
    let works : one.works ≡ two.works = one_works family within two.books one.works two.works (subst (λ (bs : List Integral). AreWorks family bs one.works) books one.are_works) two.are_works in
    one.are ∙ ap all_candidates works ∙ sym two.are
