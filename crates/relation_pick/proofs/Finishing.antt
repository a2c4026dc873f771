-- From the answers and the names of their weights to the pick and its laws.
use Rattle.std.proofs.Common.{◌≡◌, ◌≢◌, ℕ, zero, suc, ◌+◌, ◌<◌, ◌≤◌, List, [], ◌∷◌, ◌++◌, length, get_or, take, sym, ap, subst, ◌∙◌, arith}
use Rattle.std.specs.Prelude.{Contains}
use Rattle.std.specs.Ordering.{eq_by_cmp, nat_cmp}
use Rattle.std.specs.declared.cmp.Ordering.{Ordering}
use Rattle.std.specs.Cmp.{IsTotalOrder}
use Rattle.std.specs.FinMap.{IsAntisymmetric}
use Rattle.std.proofs.lemmas.List.{take_more, take_all}
use Rattle.ibp_algebra.specs.FormalSum.{FormalSum}
use Rattle.ibp_algebra.proofs.SumLaws.{SameCoefficients-refl, SameCoefficients-trans, SameCoefficients-append}
use Rattle.ibp_algebra.specs.Combination.{combination}
use Rattle.ibp_algebra.specs.Spans.{row_at, SameSum, IsReducedForm}
use Rattle.ibp_algebra.proofs.Members.{order_decides, InSpan-along}
use Rattle.ibp_algebra.proofs.ReducedForms.{IsReducedForm-unique, IsReducedForm-along}
use Rattle.ibp_algebra.proofs.Independence.{IsIndependent-along}
use Rattle.row_echelon.specs.RowSpans.{SpanOf, WholeSpan}
use Rattle.relation_pick.specs.Picking.{IsExpression, IsWritten, IsAnswer, AllAnswers, IsPick}
use Rattle.relation_pick.proofs.ByPlaces.{SpanBut, IsIrredundantAt}
use Rattle.relation_pick.specs.Marks.{AnyNamed, ListsNamed}
use Rattle.relation_pick.proofs.PickLaws.{written_in_basis, IsIndependent-written, IsReducedForm-written, DependsOn-written}
use Rattle.relation_pick.proofs.Answering.{AllAnswers-push, written_from_name, named_from_written}

module _ {K : Type 0} (order : K → K → Ordering) (candidates : List (FormalSum K)) where
  pub AllAnswers-step : (targets : List (FormalSum K)) (n : ℕ) (forms : List (FormalSum K)) (all : List (FormalSum ℕ)) (target form : FormalSum K) (weights : FormalSum ℕ)
      → n < length targets → target ≡ get_or targets n target → IsAnswer order candidates target form weights
      → AllAnswers order candidates (take n targets) forms all → AllAnswers order candidates (take (n + 1) targets) (forms ++ form ∷ []) (all ++ weights ∷ [])
  AllAnswers-step targets n forms all target form weights within is answer h =
      let longer : take (n + 1) targets ≡ take n targets ++ target ∷ [] =
      take_more targets n target within ∙ ap (λ (t : FormalSum K). take n targets ++ t ∷ []) (sym is)
      in
      subst (λ (ts : List (FormalSum K)). AllAnswers order candidates ts (forms ++ form ∷ []) (all ++ weights ∷ [])) (sym longer)
      (AllAnswers-push order candidates (take n targets) forms all target form weights h answer)

  pub AllAnswers-whole : (targets : List (FormalSum K)) (n : ℕ) (forms : List (FormalSum K)) (all : List (FormalSum ℕ)) → length targets ≤ n
      → AllAnswers order candidates (take n targets) forms all → AllAnswers order candidates targets forms all
  AllAnswers-whole targets n forms all long h = subst (λ (ts : List (FormalSum K)). AllAnswers order candidates ts forms all) (take_all n targets long) h

  answer_at : (targets forms : List (FormalSum K)) (all : List (FormalSum ℕ)) (i : ℕ) (target : FormalSum K) → AllAnswers order candidates targets forms all
      → i < length targets → get_or targets i target ≡ target → (form : FormalSum K) × (weights : FormalSum ℕ) × IsAnswer order candidates target form weights
  answer_at [] [] [] i target h within is = absurd (omega arith)
  answer_at [] [] (w ∷ all) i target h within is = absurd h
  answer_at [] (f ∷ forms) all i target h within is = absurd h
  answer_at (t ∷ targets) [] all i target h within is = absurd h
  answer_at (t ∷ targets) (f ∷ forms) [] i target h within is = absurd h
  answer_at (t ∷ targets) (f ∷ forms) (w ∷ all) zero target h within is = (f, w, subst (λ u. IsAnswer order candidates u f w) is h.0)
  answer_at (t ∷ targets) (f ∷ forms) (w ∷ all) (suc i) target h within is = answer_at targets forms all i target h.1 (omega arith) is

  module _ (total : IsTotalOrder order) (unique : IsAntisymmetric order) (targets : List (FormalSum K)) where
    span_along : (P Q : ℕ → Type 0) → ((k : ℕ) → P k → Q k) → (f : FormalSum K) → SpanOf order candidates P f → SpanOf order candidates Q f
    span_along P Q h f member = InSpan-along order total unique (row_at candidates) P Q h member

    -- the names of the weights are places of candidates
    pub names_listed : (forms : List (FormalSum K)) (all : List (FormalSum ℕ)) → AllAnswers order candidates targets forms all → (k : ℕ) → AnyNamed all k → k < length candidates
    names_listed forms all answers k named = (written_in_basis order total unique candidates targets k (written_from_name order candidates targets forms all k answers named)).listed

    pub IsPick-whole : (forms : List (FormalSum K)) (all : List (FormalSum ℕ)) (written : List ℕ) → AllAnswers order candidates targets forms all → ListsNamed all written
        → IsPick order candidates targets written forms all
    IsPick-whole forms all written answers listed =
        record {
          ascends = listed.ascends;
          lists = λ k. (
            λ there. written_from_name order candidates targets forms all k answers (listed.lists k there),
            λ needed. listed.all_named k (named_from_written order candidates total unique targets forms all k answers needed),
          );
          answers = answers;
        }

    -- each target has an expression over the basis for each of its reduced forms
    expression : (forms : List (FormalSum K)) (all : List (FormalSum ℕ)) (target form : FormalSum K) → AllAnswers order candidates targets forms all → Contains targets target
        → IsReducedForm order (WholeSpan order candidates) target form → (weights : FormalSum ℕ) × IsExpression order candidates target form weights
    expression forms all target form answers there reduced =
        let found = answer_at targets forms all there.0 target answers there.1 there.2 in
        let alike : SameSum order found.0 form =
        IsReducedForm-unique order total unique (row_at candidates) (λ j. j < length candidates) target found.0 form found.2.reduced reduced
        in (
          found.1,
          record {
            basis = found.2.expressed.basis;
            equal = SameCoefficients-trans found.2.expressed.equal
                (SameCoefficients-append (eq_by_cmp order) (order_decides order total unique) alike (SameCoefficients-refl (eq_by_cmp order) (combination (row_at candidates) found.1)));
          },
        )

    pub IsIrredundantAt-pick : (written : List ℕ) (forms : List (FormalSum K)) (all : List (FormalSum ℕ)) → IsPick order candidates targets written forms all
        → IsIrredundantAt order candidates targets (Contains written)
    IsIrredundantAt-pick written forms all pick =
        let Needed = IsWritten order candidates targets in
        let there : (k : ℕ) → Contains written k → Needed k = λ k c. (pick.lists k).0 c in
        let back : (k : ℕ) → Needed k → Contains written k = λ k w. (pick.lists k).1 w in
        let reduced_along : (target form : FormalSum K) → IsReducedForm order (SpanOf order candidates Needed) target form → IsReducedForm order (SpanOf order candidates (Contains written)) target form =
        λ target form h.
        IsReducedForm-along order (SpanOf order candidates Needed) (SpanOf order candidates (Contains written))
        (span_along Needed (Contains written) back) (span_along (Contains written) Needed there) target form h
        in
        record {
          independent = IsIndependent-along order total unique nat_cmp (row_at candidates) Needed (Contains written) there (IsIndependent-written order total unique candidates targets);
          enough = λ target form listed h.
              (let expressed = expression forms all target form pick.answers listed h in
              reduced_along target form (IsReducedForm-written order total unique candidates targets target form expressed.0 listed h expressed.1));
          needed = λ j written_j.
              (let d = DependsOn-written order total unique candidates targets j (there j written_j) in
              let depends = d.4 in (
                d.0,
                d.1,
                d.2,
                d.3,
                record {
                  form = depends.form;
                  before = reduced_along d.1 depends.form depends.before;
                  after = λ h.
                      depends.after
                      (IsReducedForm-along order (SpanBut order candidates (Contains written) j) (SpanBut order candidates Needed j)
                      (span_along (λ k. Contains written k × (k ≢ j)) (λ k. Needed k × (k ≢ j)) (λ k c. (there k c.0, c.1)))
                      (span_along (λ k. Needed k × (k ≢ j)) (λ k. Contains written k × (k ≢ j)) (λ k c. (back k c.0, c.1))) d.1 depends.form h);
                },
              ));
        }
