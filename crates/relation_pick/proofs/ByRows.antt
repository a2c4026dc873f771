-- The laws of a pick for the list of its rows.
use Rattle.std.proofs.Common.{◌≡◌, ◌≢◌, ℕ, ◌+◌, ◌-◌, ◌<◌, ◌≤◌, List, [], ◌∷◌, ◌++◌, length, get_or, refl, sym, ◌∙◌, ap, subst, arith}
use Rattle.std.specs.Prelude.{Contains}
use Rattle.std.specs.List.Sorted.{IsStrictlyIncreasing}
use Rattle.std.specs.Ordering.{eq_by_cmp, nat_cmp}
use Rattle.std.specs.declared.cmp.Ordering.{Ordering}
use Rattle.std.specs.Cmp.{IsTotalOrder}
use Rattle.std.specs.FinMap.{IsAntisymmetric}
use Rattle.std.proofs.lemmas.List.{length-map, get_or-map}
use Rattle.std.proofs.lemmas.List.Elements.{Contains-get_or}
use Rattle.ibp_algebra.specs.FormalSum.{FormalSum, AllKeys, map_keys, scale}
use Rattle.ibp_algebra.specs.Combination.{combination}
use Rattle.ibp_algebra.specs.Spans.{row_at, difference, SameSum, coefficient_by, IsIndependent, IsReducedForm}
use Rattle.ibp_algebra.proofs.Numbers.{nat_decides}
use Rattle.ibp_algebra.proofs.CombinationLaws.{combination-rows}
use Rattle.ibp_algebra.proofs.Combinations.{AllKeys-weaker}
use Rattle.ibp_algebra.proofs.Members.{order_decides, InSpan-row, InSpan-trans}
use Rattle.ibp_algebra.proofs.ReducedForms.{IsReducedForm-along, difference-from_sum}
use Rattle.ibp_algebra.proofs.SumLaws.{SameCoefficients-trans, SameCoefficients-map_keys}
use Rattle.row_echelon.specs.RowSpans.{SpanOf, WholeSpan, SpanWithout}
use Rattle.relation_pick.specs.Picking.{IsAnswer, IsPick, rows_at, IsIrredundant}
use Rattle.relation_pick.proofs.Answering.{own_names, written_from_name}
use Rattle.relation_pick.specs.Marks.{IsNamed, AnyNamed}
use Rattle.relation_pick.proofs.ByPlaces.{SpanBut, IsIrredundantAt}
use Rattle.relation_pick.proofs.Finishing.{IsIrredundantAt-pick}
use Rattle.relation_pick.proofs.Places.{place_of, place_of-own, at_place_of, places_apart}

pub combination-map_keys : {K : Type 0} (row : ℕ → FormalSum K) (move : ℕ → ℕ) (weights : FormalSum ℕ) → combination row (map_keys move weights) ≡ combination (λ k. row (move k)) weights
combination-map_keys row move [] = refl
combination-map_keys row move (t ∷ weights) = ap (λ rest. scale t.1 (row (move t.0)) ++ rest) (combination-map_keys row move weights)

pub AllKeys-map_keys : (P : ℕ → Type 0) (move : ℕ → ℕ) (weights : FormalSum ℕ) → AllKeys (λ k. P (move k)) weights → AllKeys P (map_keys move weights)
AllKeys-map_keys P move [] h = tt
AllKeys-map_keys P move (t ∷ weights) h = (h.0, AllKeys-map_keys P move weights h.1)

-- keys that are moved and moved back
moved_back : (move back : ℕ → ℕ) (weights : FormalSum ℕ) → AllKeys (λ k. back (move k) ≡ k) weights → map_keys back (map_keys move weights) ≡ weights
moved_back move back [] h = refl
moved_back move back (t ∷ weights) h = λ i. (h.0 i, t.1) ∷ moved_back move back weights h.1 i

module _ {K : Type 0} (order : K → K → Ordering) (total : IsTotalOrder order) (unique : IsAntisymmetric order) (candidates : List (FormalSum K)) (written : List ℕ) (up : IsStrictlyIncreasing written) where
  abbrev rows : List (FormalSum K)
  rows = rows_at candidates written

  abbrev number : ℕ → ℕ
  number i = get_or written i 0

  pub many : length rows ≡ length written
  many = length-map written (row_at candidates)

  pub row_is : (i : ℕ) → i < length written → row_at rows i ≡ row_at candidates (number i)
  row_is i within = get_or-map (row_at candidates) written i 0 [] within

  span_to : (P Q : ℕ → Type 0) → ((i : ℕ) → P i → (i < length written) × Q (number i)) → (f : FormalSum K) → SpanOf order rows P f → SpanOf order candidates Q f
  span_to P Q h f member =
      InSpan-trans order total unique (row_at candidates) Q (row_at rows) P
      (λ i p. subst (SpanOf order candidates Q) (sym (row_is i (h i p).0)) (InSpan-row order total unique (row_at candidates) Q (number i) (h i p).1))
      member

  pub span_from : (P Q : ℕ → Type 0) → ((k : ℕ) → Q k → Contains written k × P (place_of written k)) → (f : FormalSum K) → SpanOf order candidates Q f → SpanOf order rows P f
  span_from P Q h f member =
      InSpan-trans order total unique (row_at rows) P (row_at candidates) Q
      (λ k q.
      let at = at_place_of written k up (h k q).0 in
      let same : row_at rows (place_of written k) ≡ row_at candidates k = row_is (place_of written k) at.0 ∙ ap (row_at candidates) at.1 in
      subst (SpanOf order rows P) same (InSpan-row order total unique (row_at rows) P (place_of written k) (h k q).1))
      member

  -- the rows span what the candidates at these places span
  pub whole_to : (f : FormalSum K) → WholeSpan order rows f → SpanOf order candidates (Contains written) f
  whole_to = span_to (λ i. i < length rows) (Contains written) (λ i below. (omega (arith, many), Contains-get_or written i 0 (omega (arith, many))))

  pub whole_from : (f : FormalSum K) → SpanOf order candidates (Contains written) f → WholeSpan order rows f
  whole_from = span_from (λ i. i < length rows) (Contains written) (λ k inside. (inside, (let at = at_place_of written k up inside in omega (arith, many, at.0))))

  pub whole_form : (target form : FormalSum K) → IsReducedForm order (SpanOf order candidates (Contains written)) target form → IsReducedForm order (WholeSpan order rows) target form
  whole_form target form h = IsReducedForm-along order (SpanOf order candidates (Contains written)) (WholeSpan order rows) whole_from whole_to target form h

  -- and so without one of them
  form_without : (j : ℕ) → j < length written → (target form : FormalSum K) → IsReducedForm order (SpanWithout order rows j) target form → IsReducedForm order (SpanBut order candidates (Contains written) (number j)) target form
  form_without j within target form h =
      let P : ℕ → Type 0 = λ i. (i < length rows) × (i ≢ j) in
      let Q : ℕ → Type 0 = λ k. Contains written k × (k ≢ number j) in
      IsReducedForm-along order (SpanWithout order rows j) (SpanBut order candidates (Contains written) (number j))
      (span_to P Q (λ i p.
      let below : i < length written = omega (arith, p.0, many) in
      (below, (Contains-get_or written i 0 below, places_apart written i j up below within p.1))))
      (span_from P Q (λ k q.
      let at = at_place_of written k up q.0 in
      (q.0, (omega (arith, many, at.0), λ (same : place_of written k ≡ j). q.1 (sym at.1 ∙ ap number same)))))
      target form h

  independent_rows : IsIndependent nat_cmp order (row_at candidates) (Contains written) → IsIndependent nat_cmp order (row_at rows) (λ i. i < length rows)
  independent_rows h = record {
    only_zero = λ weights among zero.
        let decides = order_decides order total unique in
        let named : FormalSum ℕ = map_keys number weights in
        let listed : AllKeys (Contains written) named =
        AllKeys-map_keys (Contains written) number weights
        (AllKeys-weaker (λ i. i < length rows) (λ i. Contains written (number i)) (λ i below. Contains-get_or written i 0 (omega (arith, many))) weights among)
        in
        let same : SameSum order (combination (λ i. row_at candidates (number i)) weights) (combination (row_at rows) weights) =
        combination-rows (eq_by_cmp order) decides (λ i. i < length rows) (λ i. row_at candidates (number i)) (row_at rows)
        (λ i below. record { same_at = λ key. ap (λ f. coefficient_by order f key) (sym (row_is i (omega (arith, many)))) }) weights among
        in
        let none : SameSum nat_cmp named [] =
        h.only_zero named listed (subst (λ f. SameSum order f []) (sym (combination-map_keys (row_at candidates) number weights)) (SameCoefficients-trans same zero))
        in
        let back : SameSum nat_cmp (map_keys (place_of written) named) [] =
        SameCoefficients-map_keys (eq_by_cmp nat_cmp) nat_decides (eq_by_cmp nat_cmp) nat_decides (place_of written) none
        in
        subst (λ (f : FormalSum ℕ). SameSum nat_cmp f [])
        (moved_back number (place_of written) weights (AllKeys-weaker (λ i. i < length rows) (λ i. place_of written (number i) ≡ i) (λ i below. place_of-own written i up (omega (arith, many))) weights among))
        back;
  }

  pub IsIrredundant-rows : (targets : List (FormalSum K)) → IsIrredundantAt order candidates targets (Contains written) → IsIrredundant order candidates targets rows
  IsIrredundant-rows targets h = record {
    independent = independent_rows h.independent;
    enough = λ target form listed reduced. whole_form target form (h.enough target form listed reduced);
    needed = λ j below.
        (let within : j < length written = omega (arith, many, below) in
        let d = h.needed (number j) (Contains-get_or written j 0 within) in
        let depends = d.4 in (
          d.0,
          d.1,
          d.2,
          d.3,
          record { form = depends.form; before = whole_form d.1 depends.form depends.before; after = λ left. depends.after (form_without j within d.1 depends.form left) },
        ));
  }

  -- the target less its form is the sum of its weights times the rows, where a weight's number is its row's place and one
  pub answer_by_numbers : (target form : FormalSum K) (weights : FormalSum ℕ) → IsAnswer order candidates target form weights → AllKeys (Contains written) weights
      → AllKeys (λ n. (1 ≤ n) × (n ≤ length rows)) (map_keys (λ k. place_of written k + 1) weights)
      × SameSum order (difference target form) (combination (λ n. row_at rows (n - 1)) (map_keys (λ k. place_of written k + 1) weights))
  answer_by_numbers target form weights answer among = (
    AllKeys-map_keys (λ n. (1 ≤ n) × (n ≤ length rows)) (λ k. place_of written k + 1) weights
        (AllKeys-weaker (Contains written) (λ k. (1 ≤ place_of written k + 1) × (place_of written k + 1 ≤ length rows))
        (λ k inside. (let at = at_place_of written k up inside in (omega arith, omega (arith, many, at.0)))) weights among),
    SameCoefficients-trans (difference-from_sum order target form (combination (row_at candidates) weights) answer.expressed.equal)
        (subst (λ f. SameSum order (combination (row_at candidates) weights) f)
        (sym (combination-map_keys (λ n. row_at rows (n - 1)) (λ k. place_of written k + 1) weights))
        (combination-rows (eq_by_cmp order) (order_decides order total unique) (Contains written) (row_at candidates) (λ k. row_at rows (place_of written k + 1 - 1))
        (λ k inside.
        let at = at_place_of written k up inside in
        let place : place_of written k + 1 - 1 ≡ place_of written k = omega arith in
        let same : row_at candidates k ≡ row_at rows (place_of written k + 1 - 1) = ap (row_at candidates) (sym at.1) ∙ sym (row_is (place_of written k) at.0) ∙ ap (row_at rows) (sym place) in
        record { same_at = λ key. ap (λ f. coefficient_by order f key) same })
        weights among)),
  )

-- the places that the weights of a pick name are written
pub names_written : {K : Type 0} (order : K → K → Ordering) (candidates targets : List (FormalSum K)) (written : List ℕ) (forms : List (FormalSum K)) (all : List (FormalSum ℕ)) → IsPick order candidates targets written forms all
    → (k : ℕ) → AnyNamed all k → Contains written k
names_written order candidates targets written forms all pick k named = (pick.lists k).1 (written_from_name order candidates targets forms all k pick.answers named)

pub weights_written : (written : List ℕ) (weights : FormalSum ℕ) → ((k : ℕ) → IsNamed weights k → Contains written k) → AllKeys (Contains written) weights
weights_written written weights h = AllKeys-weaker (IsNamed weights) (Contains written) h weights (own_names weights)

pub pick_is_irredundant : {K : Type 0} (order : K → K → Ordering) (total : IsTotalOrder order) (unique : IsAntisymmetric order) (candidates targets : List (FormalSum K)) (written : List ℕ) (forms : List (FormalSum K)) (all : List (FormalSum ℕ))
    → IsPick order candidates targets written forms all → IsIrredundant order candidates targets (rows_at candidates written)
pick_is_irredundant order total unique candidates targets written forms all pick =
    IsIrredundant-rows order total unique candidates written pick.ascends targets (IsIrredundantAt-pick order candidates total unique targets written forms all pick)
