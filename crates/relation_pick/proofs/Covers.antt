-- Candidates that cover all: they have the spans and the basis of all, and so a pick from them is a pick from all.
use Rattle.std.proofs.Common.{◌≡◌, ◌⊎◌, inl, inr, ⊎_elim, ℕ, zero, suc, ◌+◌, ◌-◌, ◌<◌, ◌≤◌, List, [], ◌∷◌, ◌++◌, length, get_or, length-append, refl, sym, ap, subst, ◌∙◌, arith}
use Rattle.std.specs.Prelude.{All, Contains, map}
use Rattle.std.specs.List.Sorted.{IsStrictlyIncreasing}
use Rattle.std.specs.Ordering.{eq_by_cmp}
use Rattle.std.specs.declared.cmp.Ordering.{Ordering}
use Rattle.std.specs.declared.cmp.Ordering.TheVariants.{Greater}
use Rattle.std.specs.Cmp.{IsTotalOrder, nat_cmp_is}
use Rattle.std.specs.FinMap.{IsAntisymmetric}
use Rattle.std.proofs.lemmas.Bool.{cases_lt}
use Rattle.std.proofs.lemmas.List.{length-map, get_or-map, get_or_append_left, get_or-append-add}
use Rattle.std.proofs.lemmas.List.Elements.{All-append, All-contains, All-map, Contains-append_left, Contains-append_right, Contains-get_or}
use Rattle.ibp_base.proofs.Members.{in_map, from_map}
use Rattle.sector_lattice.specs.Sectors.{integral_cmp}
use Rattle.sector_lattice.specs.Orders.{integral_cmp_total, same_integrals}
use Rattle.sparse_rows.specs.Rows.{IntegralSum}
use Rattle.ibp_algebra.specs.FormalSum.{FormalSum, AllKeys, AllBelow, IsCanonical, map_keys}
use Rattle.ibp_algebra.specs.Combination.{combination}
use Rattle.ibp_algebra.specs.Spans.{row_at, SameSum, coefficient_by, IsReducedForm}
use Rattle.ibp_algebra.proofs.CombinationLaws.{combination-rows}
use Rattle.ibp_algebra.proofs.Combinations.{AllKeys-both, AllKeys-weaker}
use Rattle.ibp_algebra.proofs.Members.{order_decides, InSpan-row, InSpan-along, InSpan-trans}
use Rattle.ibp_algebra.proofs.Numbers.{greater_is}
use Rattle.ibp_algebra.proofs.ReducedForms.{IsReducedForm-along}
use Rattle.ibp_algebra.proofs.SumLaws.{SameCoefficients-refl, SameCoefficients-trans, SameCoefficients-append}
use Rattle.row_echelon.specs.Echelons.{number_cmp}
use Rattle.row_echelon.specs.RowSpans.{SpanOf, WholeSpan}
use Rattle.relation_pick.specs.Picking.{IsInBasis, IsExpression, IsAnswer, AllAnswers, IsPick, rows_at}
use Rattle.relation_pick.specs.Bases.{Covers, ListsBasis, place_at}
use Rattle.relation_pick.specs.Marks.{IsNamed, AnyNamed, ListsNamed}
use Rattle.relation_pick.proofs.Answering.{written_from_name, named_from_written}
use Rattle.relation_pick.proofs.ByRows.{AllKeys-map_keys, combination-map_keys, many, row_is, span_from, whole_from, whole_to}
use Rattle.relation_pick.proofs.Finishing.{IsPick-whole, names_listed}
use Rattle.relation_pick.proofs.Places.{rises, place_of, at_place_of}

pub basis_covers : {K : Type 0} (order : K → K → Ordering) (candidates : List (FormalSum K)) (places : List ℕ) → ListsBasis order candidates places → Covers order candidates places
basis_covers order candidates places h = h.covers

-- ---- numbers that ascend are moved to numbers that ascend

-- a later number is greater
pub later_above : (places : List ℕ) → IsStrictlyIncreasing places → (i j : ℕ) → i < j → j < length places → place_at places i < place_at places j
later_above places up i j before within =
    let far : i + (j - i) ≡ j = omega (arith, before) in
    let rise : place_at places i + (j - i) ≤ place_at places j = subst (λ k. get_or places i 0 + (j - i) ≤ get_or places k 0) far (rises places up i (j - i) (omega (arith, far, within))) in
    omega (arith, rise, before)

-- and a greater number stands later
pub above_later : (places : List ℕ) → IsStrictlyIncreasing places → (i j : ℕ) → i < length places → place_at places i < place_at places j → i < j
above_later places up i j within above =
    ⊎_elim
    (λ (less : i < j). less)
    (λ (not_less : j ≤ i).
    ⊎_elim
    (λ (more : j < i). absurd (omega (arith, later_above places up j i more within, above)))
    (λ (least : i ≤ j). let same : i ≡ j = omega (arith, not_less, least) in absurd (omega (arith, above, ap (place_at places) same)))
    (cases_lt j i))
    (cases_lt i j)

pub IsStrictlyIncreasing-map : (move : ℕ → ℕ) (xs : List ℕ) → ((x y : ℕ) → Contains xs x → Contains xs y → x < y → move x < move y) → IsStrictlyIncreasing xs → IsStrictlyIncreasing (map move xs)
IsStrictlyIncreasing-map move xs keeps up =
    λ k inside.
    let long : length (map move xs) ≡ length xs = length-map xs move in
    let next : k + 1 < length xs = omega (arith, inside, long) in
    let here : k < length xs = omega (arith, next) in
    let first : get_or (map move xs) k 0 ≡ move (get_or xs k 0) = get_or-map move xs k 0 0 here in
    let second : get_or (map move xs) (k + 1) 0 ≡ move (get_or xs (k + 1) 0) = get_or-map move xs (k + 1) 0 0 next in
    let below : move (get_or xs k 0) < move (get_or xs (k + 1) 0) =
    keeps (get_or xs k 0) (get_or xs (k + 1) 0) (Contains-get_or xs k 0 here) (Contains-get_or xs (k + 1) 0 next) (up k next)
    in
    omega (arith, first, second, below)

-- and so the terms of a sum over numbers stay in order
pub IsCanonical-map_keys : (P : ℕ → Type 0) (move : ℕ → ℕ) → ((i j : ℕ) → P i → P j → i < j → move i < move j) → (weights : FormalSum ℕ) → AllKeys P weights
    → IsCanonical number_cmp weights → IsCanonical number_cmp (map_keys move weights)
IsCanonical-map_keys P move keeps [] among h = tt
IsCanonical-map_keys P move keeps (t ∷ weights) among h =
    let below : AllKeys (λ k. P k × (number_cmp t.0 k ≡ Greater)) weights = AllKeys-both P (λ k. number_cmp t.0 k ≡ Greater) weights among.1 h.2 in
    let moved : AllBelow number_cmp (move t.0) (map_keys move weights) =
    AllKeys-map_keys (λ k. number_cmp (move t.0) k ≡ Greater) move weights
    (AllKeys-weaker (λ k. P k × (number_cmp t.0 k ≡ Greater)) (λ k. number_cmp (move t.0) (move k) ≡ Greater)
    (λ k later. sym (nat_cmp_is (move k) (move t.0) Greater (keeps t.0 k among.0 later.0 (greater_is k t.0 later.1)))) weights below)
    in
    (h.0, h.1, moved, IsCanonical-map_keys P move keeps weights among.1 h.3)

-- ---- names that are moved

named_moved : (move : ℕ → ℕ) (weights : FormalSum ℕ) (k : ℕ) → IsNamed weights k → IsNamed (map_keys move weights) (move k)
named_moved move [] k named = absurd named
named_moved move (t ∷ weights) k (inl here) = inl (ap move here)
named_moved move (t ∷ weights) k (inr later) = inr (named_moved move weights k later)

named_before : (move : ℕ → ℕ) (weights : FormalSum ℕ) (k : ℕ) → IsNamed (map_keys move weights) k → (i : ℕ) × (IsNamed weights i × (move i ≡ k))
named_before move [] k named = absurd named
named_before move (t ∷ weights) k (inl here) = (t.0, (inl refl, here))
named_before move (t ∷ weights) k (inr later) =
    let found : (i : ℕ) × (IsNamed weights i × (move i ≡ k)) = named_before move weights k later in (found.0, (inr found.1.0, found.1.1))

any_moved : (move : ℕ → ℕ) (all : List (FormalSum ℕ)) (k : ℕ) → AnyNamed all k → AnyNamed (map (map_keys move) all) (move k)
any_moved move [] k named = absurd named
any_moved move (weights ∷ all) k (inl here) = inl (named_moved move weights k here)
any_moved move (weights ∷ all) k (inr later) = inr (any_moved move all k later)

any_before : (move : ℕ → ℕ) (all : List (FormalSum ℕ)) (k : ℕ) → AnyNamed (map (map_keys move) all) k → (i : ℕ) × (AnyNamed all i × (move i ≡ k))
any_before move [] k named = absurd named
any_before move (weights ∷ all) k (inl here) =
    let found : (i : ℕ) × (IsNamed weights i × (move i ≡ k)) = named_before move weights k here in (found.0, (inl found.1.0, found.1.1))
any_before move (weights ∷ all) k (inr later) =
    let found : (i : ℕ) × (AnyNamed all i × (move i ≡ k)) = any_before move all k later in (found.0, (inr found.1.0, found.1.1))

-- ---- spans

module _ {K : Type 0} (order : K → K → Ordering) (total : IsTotalOrder order) (unique : IsAntisymmetric order) (candidates : List (FormalSum K)) (places : List ℕ) (h : Covers order candidates places) where
  abbrev ListedBelow : ℕ → ℕ → Type 0
  ListedBelow n j = Contains places j × (j < n)

  -- each candidate is in the span of the listed ones up to it
  row_spanned : (n : ℕ) → n ≤ length candidates → (k : ℕ) → k < n → SpanOf order candidates (ListedBelow n) (row_at candidates k)
  row_spanned zero few k below = absurd (omega arith)
  row_spanned (suc n) few k below =
      let more : (j : ℕ) → ListedBelow n j → ListedBelow (suc n) j = λ j listed. (listed.0, omega (arith, listed.1)) in
      let earlier : (j : ℕ) → j < n → SpanOf order candidates (ListedBelow (suc n)) (row_at candidates j) =
      λ j low. InSpan-along order total unique (row_at candidates) (ListedBelow n) (ListedBelow (suc n)) more (row_spanned n (omega arith) j low)
      in
      ⊎_elim
      (λ (before : k < n). earlier k before)
      (λ (late : n ≤ k).
      let here : n ≡ k = omega arith in
      subst (λ m. SpanOf order candidates (ListedBelow (suc n)) (row_at candidates m)) here
      (⊎_elim
      (λ (listed : Contains places n). InSpan-row order total unique (row_at candidates) (ListedBelow (suc n)) n (listed, omega arith))
      (λ (old : SpanOf order candidates (λ j. j < n) (row_at candidates n)).
      InSpan-trans order total unique (row_at candidates) (ListedBelow (suc n)) (row_at candidates) (λ j. j < n) earlier old)
      (h.others n (omega arith))))
      (cases_lt k n)

  -- the listed candidates below a place span what all below it span
  span_listed : (n : ℕ) → n ≤ length candidates → (f : FormalSum K) → SpanOf order candidates (λ j. j < n) f → SpanOf order candidates (ListedBelow n) f
  span_listed n few f member = InSpan-trans order total unique (row_at candidates) (ListedBelow n) (row_at candidates) (λ j. j < n) (row_spanned n few) member

  listed_within : (k : ℕ) → Contains places k → k < length candidates
  listed_within k inside = All-contains (λ place. place < length candidates) places k h.within inside

  abbrev rows : List (FormalSum K)
  rows = rows_at candidates places

  abbrev Inside : ℕ → Type 0
  Inside i = i < length places

  row_count : length rows ≡ length places
  row_count = many order total unique candidates places h.ascends

  keeps : (i j : ℕ) → Inside i → Inside j → i < j → place_at places i < place_at places j
  keeps i j inside within before = later_above places h.ascends i j before within

  whole_up : (f : FormalSum K) → WholeSpan order rows f → WholeSpan order candidates f
  whole_up f member =
      InSpan-along order total unique (row_at candidates) (Contains places) (λ j. j < length candidates) listed_within (whole_to order total unique candidates places h.ascends f member)

  whole_down : (f : FormalSum K) → WholeSpan order candidates f → WholeSpan order rows f
  whole_down f member =
      whole_from order total unique candidates places h.ascends f
      (InSpan-along order total unique (row_at candidates) (ListedBelow (length candidates)) (Contains places) (λ j listed. listed.0) (span_listed (length candidates) (omega arith) f member))

  -- the rows before one span what the candidates before its place span
  below_down : (i : ℕ) → Inside i → (f : FormalSum K) → SpanOf order candidates (λ j. j < place_at places i) f → SpanOf order rows (λ j. j < i) f
  below_down i inside f member =
      let low : place_at places i < length candidates = listed_within (place_at places i) (Contains-get_or places i 0 inside) in
      span_from order total unique candidates places h.ascends (λ j. j < i) (ListedBelow (place_at places i))
      (λ k listed.
      let at = at_place_of places k h.ascends listed.0 in
      (listed.0, above_later places h.ascends (place_of places k) i at.0 (omega (arith, at.1, listed.1))))
      f (span_listed (place_at places i) (omega (arith, low)) f member)

  basis_up : (i : ℕ) → IsInBasis order rows i → IsInBasis order candidates (place_at places i)
  basis_up i basis =
      let inside : Inside i = omega (arith, row_count, basis.listed) in
      record {
        listed = listed_within (place_at places i) (Contains-get_or places i 0 inside);
        new = λ old.
            basis.new
            (subst (SpanOf order rows (λ j. j < i)) (sym (row_is order total unique candidates places h.ascends i inside)) (below_down i inside (row_at candidates (place_at places i)) old));
      }

  -- ---- answers

  form_up : (target form : FormalSum K) → IsReducedForm order (WholeSpan order rows) target form → IsReducedForm order (WholeSpan order candidates) target form
  form_up target form reduced = IsReducedForm-along order (WholeSpan order rows) (WholeSpan order candidates) whole_up whole_down target form reduced

  -- the same combination by places among all
  combination_up : (weights : FormalSum ℕ) → AllKeys (IsInBasis order rows) weights
      → SameSum order (combination (row_at rows) weights) (combination (row_at candidates) (map_keys (place_at places) weights))
  combination_up weights basis =
      subst (λ f. SameSum order (combination (row_at rows) weights) f) (sym (combination-map_keys (row_at candidates) (place_at places) weights))
      (combination-rows (eq_by_cmp order) (order_decides order total unique) (IsInBasis order rows) (row_at rows) (λ i. row_at candidates (place_at places i))
      (λ i at. record {
        same_at = λ key. ap (λ f. coefficient_by order f key) (row_is order total unique candidates places h.ascends i (omega (arith, row_count, at.listed)));
      })
      weights basis)

  expression_up : (target form : FormalSum K) (weights : FormalSum ℕ) → IsExpression order rows target form weights → IsExpression order candidates target form (map_keys (place_at places) weights)
  expression_up target form weights expressed = record {
    basis = AllKeys-map_keys (IsInBasis order candidates) (place_at places) weights
        (AllKeys-weaker (IsInBasis order rows) (λ i. IsInBasis order candidates (place_at places i)) basis_up weights expressed.basis);
    equal = SameCoefficients-trans expressed.equal
        (SameCoefficients-append (eq_by_cmp order) (order_decides order total unique) (SameCoefficients-refl (eq_by_cmp order) form) (combination_up weights expressed.basis));
  }

  answer_up : (target form : FormalSum K) (weights : FormalSum ℕ) → IsAnswer order rows target form weights → IsAnswer order candidates target form (map_keys (place_at places) weights)
  answer_up target form weights answer = record {
    reduced = form_up target form answer.reduced;
    canonical = answer.canonical;
    expressed = expression_up target form weights answer.expressed;
    ascending = IsCanonical-map_keys Inside (place_at places) keeps weights
        (AllKeys-weaker (IsInBasis order rows) Inside (λ i basis. omega (arith, row_count, basis.listed)) weights answer.expressed.basis) answer.ascending;
  }

  answers_up : (targets forms : List (FormalSum K)) (all : List (FormalSum ℕ)) → AllAnswers order rows targets forms all → AllAnswers order candidates targets forms (map (map_keys (place_at places)) all)
  answers_up [] [] [] answers = tt
  answers_up [] [] (w ∷ all) answers = absurd answers
  answers_up [] (f ∷ forms) all answers = absurd answers
  answers_up (t ∷ targets) [] all answers = absurd answers
  answers_up (t ∷ targets) (f ∷ forms) [] answers = absurd answers
  answers_up (t ∷ targets) (f ∷ forms) (w ∷ all) answers = (answer_up t f w answers.0, answers_up targets forms all answers.1)

  pub IsPick-of_cover : (targets : List (FormalSum K)) (written : List ℕ) (forms : List (FormalSum K)) (all : List (FormalSum ℕ)) → IsPick order rows targets written forms all
      → IsPick order candidates targets (map (place_at places) written) forms (map (map_keys (place_at places)) all)
  IsPick-of_cover targets written forms all pick =
      let named : (i : ℕ) → Contains written i → AnyNamed all i =
      λ i inside. named_from_written order rows total unique targets forms all i pick.answers ((pick.lists i).0 inside)
      in
      let within : (i : ℕ) → Contains written i → Inside i =
      λ i inside. omega (arith, row_count, names_listed order rows total unique targets forms all pick.answers i (named i inside))
      in
      let names : ListsNamed (map (map_keys (place_at places)) all) (map (place_at places) written) =
      record {
        ascends = IsStrictlyIncreasing-map (place_at places) written (λ i j inside other before. keeps i j (within i inside) (within j other) before) pick.ascends;
        lists = λ k inside.
            (let found : (i : ℕ) × (Contains written i × (place_at places i ≡ k)) = from_map (place_at places) written k inside in
            subst (AnyNamed (map (map_keys (place_at places)) all)) found.1.1 (any_moved (place_at places) all found.0 (named found.0 found.1.0)));
        all_named = λ k among.
            (let found : (i : ℕ) × (AnyNamed all i × (place_at places i ≡ k)) = any_before (place_at places) all k among in
            subst (Contains (map (place_at places) written)) found.1.1
            (in_map (place_at places) written found.0 ((pick.lists found.0).1 (written_from_name order rows targets forms all found.0 pick.answers found.1.0))));
      }
      in
      IsPick-whole order candidates total unique targets forms (map (map_keys (place_at places)) all) (map (place_at places) written) (answers_up targets forms all pick.answers) names

-- a pick from candidates that cover all is a pick from all
pub pick_of_cover : (candidates targets : List IntegralSum) (places written : List ℕ) (forms : List IntegralSum) (weights : List (FormalSum ℕ))
    → Covers integral_cmp candidates places
    → IsPick integral_cmp (rows_at candidates places) targets written forms weights
    → IsPick integral_cmp candidates targets (map (place_at places) written) forms (map (map_keys (place_at places)) weights)
pick_of_cover candidates targets places written forms weights h pick =
    IsPick-of_cover integral_cmp integral_cmp_total same_integrals candidates places h targets written forms weights pick

-- ---- candidates that are joined

pub IsStrictlyIncreasing-append : (xs ys : List ℕ) → ((x y : ℕ) → Contains xs x → Contains ys y → x < y) → IsStrictlyIncreasing xs → IsStrictlyIncreasing ys → IsStrictlyIncreasing (xs ++ ys)
IsStrictlyIncreasing-append xs ys below up vp =
    λ k inside.
    let long : length (xs ++ ys) ≡ length xs + length ys = length-append xs ys in
    ⊎_elim
    (λ (inner : k + 1 < length xs).
    let here : get_or (xs ++ ys) k 0 ≡ get_or xs k 0 = get_or_append_left xs ys 0 k (omega (arith, inner)) in
    let next : get_or (xs ++ ys) (k + 1) 0 ≡ get_or xs (k + 1) 0 = get_or_append_left xs ys 0 (k + 1) inner in
    omega (arith, up k inner, here, next))
    (λ (later : length xs ≤ k + 1).
    ⊎_elim
    (λ (last : k < length xs).
    let here : get_or (xs ++ ys) k 0 ≡ get_or xs k 0 = get_or_append_left xs ys 0 k last in
    let end : length xs + 0 ≡ k + 1 = omega (arith, last, later) in
    let next : get_or (xs ++ ys) (k + 1) 0 ≡ get_or ys 0 0 = ap (λ m. get_or (xs ++ ys) m 0) (sym end) ∙ get_or-append-add xs ys 0 0 in
    omega (arith, below (get_or xs k 0) (get_or ys 0 0) (Contains-get_or xs k 0 last) (Contains-get_or ys 0 0 (omega (arith, inside, long, end))), here, next))
    (λ (outer : length xs ≤ k).
    let m : ℕ = k - length xs in
    let at : length xs + m ≡ k = omega (arith, outer) in
    let after : length xs + (m + 1) ≡ k + 1 = omega (arith, outer) in
    let here : get_or (xs ++ ys) k 0 ≡ get_or ys m 0 = ap (λ n. get_or (xs ++ ys) n 0) (sym at) ∙ get_or-append-add xs ys m 0 in
    let next : get_or (xs ++ ys) (k + 1) 0 ≡ get_or ys (m + 1) 0 = ap (λ n. get_or (xs ++ ys) n 0) (sym after) ∙ get_or-append-add xs ys (m + 1) 0 in
    omega (arith, vp m (omega (arith, inside, long, after)), here, next))
    (cases_lt k (length xs)))
    (cases_lt (k + 1) (length xs))

module _ {K : Type 0} (order : K → K → Ordering) (total : IsTotalOrder order) (unique : IsAntisymmetric order) (first second : List (FormalSum K)) where
  abbrev joined : List (FormalSum K)
  joined = first ++ second

  abbrev shift : ℕ → ℕ
  shift j = length first + j

  joined_count : length joined ≡ length first + length second
  joined_count = length-append first second

  front_row : (k : ℕ) → k < length first → row_at joined k ≡ row_at first k
  front_row k low = get_or_append_left first second [] k low

  back_row : (j : ℕ) → row_at joined (shift j) ≡ row_at second j
  back_row j = get_or-append-add first second j []

  front_span : (k : ℕ) → k < length first → SpanOf order first (λ j. j < k) (row_at first k) → SpanOf order joined (λ j. j < k) (row_at joined k)
  front_span k low old =
      subst (SpanOf order joined (λ j. j < k)) (sym (front_row k low))
      (InSpan-trans order total unique (row_at joined) (λ j. j < k) (row_at first) (λ j. j < k)
      (λ j less. subst (SpanOf order joined (λ i. i < k)) (front_row j (omega (arith, less, low))) (InSpan-row order total unique (row_at joined) (λ i. i < k) j less))
      old)

  back_span : (m : ℕ) → SpanOf order second (λ j. j < m) (row_at second m) → SpanOf order joined (λ j. j < shift m) (row_at joined (shift m))
  back_span m old =
      subst (SpanOf order joined (λ j. j < shift m)) (sym (back_row m))
      (InSpan-trans order total unique (row_at joined) (λ j. j < shift m) (row_at second) (λ j. j < m)
      (λ j less. subst (SpanOf order joined (λ i. i < shift m)) (back_row j) (InSpan-row order total unique (row_at joined) (λ i. i < shift m) (shift j) (omega (arith, less))))
      old)

  module _ (p q : List ℕ) (h : Covers order first p) (k : Covers order second q) where
    first_within : (x : ℕ) → Contains p x → x < length first
    first_within x inside = All-contains (λ place. place < length first) p x h.within inside

    joined_ascends : IsStrictlyIncreasing (p ++ map shift q)
    joined_ascends =
        IsStrictlyIncreasing-append p (map shift q)
        (λ x y inside other.
        let found : (j : ℕ) × (Contains q j × (shift j ≡ y)) = from_map shift q y other in
        omega (arith, first_within x inside, found.1.1))
        h.ascends (IsStrictlyIncreasing-map shift q (λ i j inside other less. omega (arith, less)) k.ascends)

    joined_within : All (λ place. place < length joined) (p ++ map shift q)
    joined_within =
        All-append (λ place. place < length joined) p (map shift q)
        (λ i d inside. omega (arith, joined_count, h.within i d inside))
        (All-map (λ place. place < length joined) shift q (λ i d inside. omega (arith, joined_count, k.within i d inside)))

    joined_others : (n : ℕ) → n < length joined → Contains (p ++ map shift q) n ⊎ SpanOf order joined (λ j. j < n) (row_at joined n)
    joined_others n below =
        ⊎_elim
        (λ (front : n < length first).
        ⊎_elim
        (λ (listed : Contains p n). inl (Contains-append_left p (map shift q) n listed))
        (λ (old : SpanOf order first (λ j. j < n) (row_at first n)). inr (front_span n front old))
        (h.others n front))
        (λ (back : length first ≤ n).
        let m : ℕ = n - length first in
        let at : shift m ≡ n = omega (arith, back) in
        subst (λ i. Contains (p ++ map shift q) i ⊎ SpanOf order joined (λ j. j < i) (row_at joined i)) at
        (⊎_elim
        (λ (listed : Contains q m). inl (Contains-append_right p (map shift q) (shift m) (in_map shift q m listed)))
        (λ (old : SpanOf order second (λ j. j < m) (row_at second m)). inr (back_span m old))
        (k.others m (omega (arith, below, joined_count, at)))))
        (cases_lt n (length first))

    pub Covers-append : Covers order joined (p ++ map shift q)
    Covers-append = record { ascends = joined_ascends; within = joined_within; others = joined_others }

-- covers of two lists of candidates cover the two joined
pub covers_joined : (first second : List IntegralSum) (p q : List ℕ) → Covers integral_cmp first p → Covers integral_cmp second q
    → Covers integral_cmp (first ++ second) (p ++ map (λ k. length first + k) q)
covers_joined first second p q h k = Covers-append integral_cmp integral_cmp_total same_integrals first second p q h k
