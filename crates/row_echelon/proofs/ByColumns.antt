-- Elimination in a row with a residue for each column.
use Rattle.std.proofs.Common.{◌≡◌, ◌≢◌, ℕ, zero, suc, ◌+◌, ◌*◌, ◌%◌, ◌<◌, ◌≤◌, Bool, true, false, if◌then◌else◌, Option, Some, None, List, [], ◌∷◌, ◌++◌, length, append-nil, get_or, sym, refl, ap, subst, ◌∙◌, ⊎_elim, arith}
use Rattle.std.specs.Prelude.{ℤ, IsTrue, IfSome, slice_get, slice_set, replicate}
use Rattle.std.specs.Ordering.{eq_by_cmp, nat_cmp, is_eq}
use Rattle.std.proofs.lemmas.Bool.{cases_lt}
use Rattle.std.proofs.lemmas.List.{get_or-set_same, get_or-set_other}
use Rattle.std.proofs.Math.ListN.{length-set}
use Rattle.sector_lattice.specs.Sectors.{integral_cmp}
use Rattle.sector_lattice.specs.Orders.{integral_cmp_total, integrals_decide}
use Rattle.ibp_field.specs.Arithmetic.{IsCongruent, mul_mod, neg_mod}
use Rattle.ibp_field.proofs.Congruence.{IsCongruent-refl, IsCongruent-mul}
use Rattle.ibp_algebra.specs.FormalSum.{FormalSum, weighted_sum, AllKeys, AllBelow, IsCanonical, scale}
use Rattle.ibp_algebra.proofs.Canonical.{Less-reverse}
use Rattle.ibp_algebra.proofs.Combinations.{AllKeys-weaker}
use Rattle.ibp_algebra.proofs.Numbers.{greater_is, nat_decides}
use Rattle.ibp_algebra.proofs.SumLaws.{SameCoefficients-refl}
use Rattle.ibp_algebra.proofs.Weights.{unit_weight, weighted_sum-append, weighted_sum-scale, weighted_sum-map_keys, weighted_sum-SameCoefficients, SameCoefficients-from_weights}
use Rattle.ibp_algebra.proofs.ZeroDivisors.{AllKeys-append}
use Rattle.ibp_algebra.specs.Combination.{combination}
use Rattle.ibp_algebra.specs.Spans.{row_at, SameSum, coefficient_by}
use Rattle.sparse_rows.specs.Rows.{IntegralSum, SameRow}
use Rattle.sparse_terms.proofs.Merging.{IsCanonical-append}
use Rattle.row_echelon.specs.declared.kept.Kept.{Kept}
use Rattle.row_echelon.specs.Echelons.{number_cmp}
use Rattle.row_echelon.specs.KeptRows.{Entries, reduced_rows, NoPivot, EchelonFrom, by_place}
use Rattle.row_echelon.specs.Columns.{integral_at, named, Falls, IsZeroRow, HasColumns, FitsColumns, ColumnsEliminated}
use Rattle.row_echelon.specs.declared.table.Table.{Table}
use Rattle.row_echelon.specs.Tables.{AnyTable, with_rest}
use Rattle.row_echelon.proofs.Eliminating.{IsEntry-at, sum_kept, unchanged_above, gone_at_lead}
use Rattle.row_echelon.proofs.Substituting.{weighted_sum-set}
use Rattle.row_echelon.proofs.Weighing.{nat_greater}

-- ---- sums by column

no_place : (v : ℕ → ℕ) (first : ℕ) (d : List ℕ) → ((j : ℕ) → j < length d → v (first + j) ≡ 0) → weighted_sum v (by_place first d) ≡ 0
no_place v first [] none = refl
no_place v first (x ∷ d) none =
    let here : v first ≡ 0 = ap v (omega arith) ∙ none 0 (omega arith) in
    let rest = no_place v (suc first) d (λ j within. ap v (omega arith) ∙ none (suc j) (omega arith)) in
    omega (arith, ap (λ n. x * n) here, rest)

one_place : (v : ℕ → ℕ) (first : ℕ) (d : List ℕ) (i : ℕ) → i < length d → v (first + i) ≡ 1 → ((j : ℕ) → j < length d → j ≢ i → v (first + j) ≡ 0)
    → weighted_sum v (by_place first d) ≡ get_or d i 0
one_place v first [] i within one others = absurd (omega arith)
one_place v first (x ∷ d) zero within one others =
    let here : v first ≡ 1 = ap v (omega arith) ∙ one in
    let rest = no_place v (suc first) d (λ j below. ap v (omega arith) ∙ others (suc j) (omega arith) (λ same. omega (arith, same))) in
    omega (arith, ap (λ n. x * n) here, rest)
one_place v first (x ∷ d) (suc i) within one others =
    let here : v first ≡ 0 = ap v (omega arith) ∙ others 0 (omega arith) (λ same. omega (arith, same)) in
    let rest = one_place v (suc first) d i (omega arith) (ap v (omega arith) ∙ one) (λ j below other. ap v (omega arith) ∙ others (suc j) (omega arith) (λ same. other (omega (arith, same)))) in
    omega (arith, ap (λ n. x * n) here, rest)

zero_row : (v : ℕ → ℕ) (first : ℕ) (d : List ℕ) → IsZeroRow d → IsCongruent (weighted_sum v (by_place first d)) 0
zero_row v first [] none = IsCongruent-refl 0
zero_row v first (x ∷ d) none =
    let here : IsCongruent (x * v first) (0 * v first) = IsCongruent-mul (record { same_residue = none 0 }) (IsCongruent-refl (v first)) in
    let rest = zero_row v (suc first) d (λ i. none (suc i)) in
    record { same_residue = omega (arith, here.same_residue, rest.same_residue) }

-- ---- columns and integrals

module _ (cs : List (List ℤ)) where
  named-weights : (w : List ℤ → ℕ) (f : FormalSum ℕ) → weighted_sum w (named cs f) ≡ weighted_sum (λ k. w (integral_at cs k)) f
  named-weights w f = weighted_sum-map_keys (integral_at cs) w f

  -- a multiple of a kept row is added
  pub dense_sum : (d d' : List ℕ) (c : ℕ) (terms : FormalSum ℕ) (reduced : IntegralSum) → named cs terms ≡ reduced → SameSum nat_cmp (by_place 0 d') (by_place 0 d ++ scale c terms)
      → SameRow (named cs (by_place 0 d')) (named cs (by_place 0 d) ++ scale c reduced)
  dense_sum d d' c terms reduced is h =
      SameCoefficients-from_weights (eq_by_cmp integral_cmp) integrals_decide _ _ (λ w.
      let v = λ (k : ℕ). w (integral_at cs k) in
      let spread = weighted_sum-SameCoefficients (eq_by_cmp nat_cmp) nat_decides v _ _ h in
      record {
        same_residue = omega (
          arith,
          spread.same_residue,
          named-weights w (by_place 0 d'),
          named-weights w (by_place 0 d),
          weighted_sum-append w (named cs (by_place 0 d)) (scale c reduced),
          weighted_sum-scale w c reduced,
          weighted_sum-append v (by_place 0 d) (scale c terms),
          weighted_sum-scale v c terms,
          ap (λ n. c * n) (sym (named-weights w terms) ∙ ap (weighted_sum w) is),
        );
      })

  -- a term is taken out
  term_taken : (d : List ℕ) (column value : ℕ) (terms : FormalSum ℕ) (taken : IntegralSum) (row : IntegralSum) → column < length d → value ≡ get_or d column 0
      → SameRow row ((named cs terms ++ named cs (by_place 0 d)) ++ taken)
      → SameRow row ((named cs (terms ++ (column, value) ∷ []) ++ named cs (by_place 0 (slice_set d column 0))) ++ taken)
  term_taken d column value terms taken row within is h =
      SameCoefficients-from_weights (eq_by_cmp integral_cmp) integrals_decide _ _ (λ w.
      let v = λ (k : ℕ). w (integral_at cs k) in
      let before = weighted_sum-SameCoefficients (eq_by_cmp integral_cmp) integrals_decide w _ _ h in
      let there : v (0 + column) ≡ v column = ap v (omega arith) in
      record {
        same_residue = omega (
          arith,
          before.same_residue,
          weighted_sum-set v 0 d column value 0 within is,
          ap (λ n. value * n) there,
          weighted_sum-append w (named cs terms ++ named cs (by_place 0 d)) taken,
          weighted_sum-append w (named cs terms) (named cs (by_place 0 d)),
          weighted_sum-append w (named cs (terms ++ (column, value) ∷ []) ++ named cs (by_place 0 (slice_set d column 0))) taken,
          weighted_sum-append w (named cs (terms ++ (column, value) ∷ [])) (named cs (by_place 0 (slice_set d column 0))),
          named-weights w terms,
          named-weights w (by_place 0 d),
          named-weights w (terms ++ (column, value) ∷ []),
          named-weights w (by_place 0 (slice_set d column 0)),
          weighted_sum-append v terms ((column, value) ∷ []),
        );
      })

  -- nothing is left in the dense row
  none_left : (d : List ℕ) (terms : FormalSum ℕ) (taken row : IntegralSum) → IsZeroRow d → SameRow row ((named cs terms ++ named cs (by_place 0 d)) ++ taken)
      → SameRow row (named cs terms ++ taken)
  none_left d terms taken row none h =
      SameCoefficients-from_weights (eq_by_cmp integral_cmp) integrals_decide _ _ (λ w.
      let before = weighted_sum-SameCoefficients (eq_by_cmp integral_cmp) integrals_decide w _ _ h in
      let zero = zero_row (λ (k : ℕ). w (integral_at cs k)) 0 d none in
      record {
        same_residue = omega (
          arith,
          before.same_residue,
          zero.same_residue,
          weighted_sum-append w (named cs terms ++ named cs (by_place 0 d)) taken,
          weighted_sum-append w (named cs terms) (named cs (by_place 0 d)),
          weighted_sum-append w (named cs terms) taken,
          named-weights w (by_place 0 d),
        );
      })

  -- a row is put into a dense row of zeros
  pub row_loaded : (d d' : List ℕ) (one : ℕ) (terms : FormalSum ℕ) (row : IntegralSum) → IsZeroRow d → one ≡ 1 → named cs terms ≡ row → SameSum nat_cmp (by_place 0 d') (by_place 0 d ++ scale one terms)
      → SameRow row (named cs (by_place 0 d'))
  row_loaded d d' one terms row none one_is is h =
      SameCoefficients-from_weights (eq_by_cmp integral_cmp) integrals_decide _ _ (λ w.
      let v = λ (k : ℕ). w (integral_at cs k) in
      let spread = weighted_sum-SameCoefficients (eq_by_cmp nat_cmp) nat_decides v _ _ h in
      let zero = zero_row v 0 d none in
      record {
        same_residue = omega (
          arith,
          spread.same_residue,
          zero.same_residue,
          named-weights w (by_place 0 d'),
          weighted_sum-append v (by_place 0 d) (scale one terms),
          weighted_sum-scale v one terms,
          ap (λ n. n * weighted_sum v terms) one_is,
          sym (named-weights w terms) ∙ ap (weighted_sum w) is,
        );
      })

  module _ (falls : Falls cs) where
    apart : (i j : ℕ) → i < length cs → j < length cs → j ≢ i → eq_by_cmp integral_cmp (integral_at cs j) (integral_at cs i) ≡ false
    apart i j within within' other =
        ⊎_elim
        (λ (higher : j < i). ap is_eq (falls j i higher within))
        (λ (far : i ≤ j). ap is_eq (Less-reverse integral_cmp integral_cmp_total (integral_at cs i) (integral_at cs j) (falls i j (let less : i < j = omega arith in less) within')))
        (cases_lt j i)

    -- the coefficient at a column
    pub dense_coefficient : (d : List ℕ) (i : ℕ) → length d ≡ length cs → i < length cs → coefficient_by integral_cmp (named cs (by_place 0 d)) (integral_at cs i) ≡ get_or d i 0 % 2147483647
    dense_coefficient d i long within =
        let v = λ (k : ℕ). unit_weight (eq_by_cmp integral_cmp) (integral_at cs i) (integral_at cs k) in
        let same : eq_by_cmp integral_cmp (integral_at cs i) (integral_at cs i) ≡ true = (integrals_decide (integral_at cs i) (integral_at cs i)).1 refl in
        let one : v (0 + i) ≡ 1 = ap v (omega arith) ∙ ap (λ (b : Bool). if b then 1 else 0) same in
        let others : (j : ℕ) → j < length d → j ≢ i → v (0 + j) ≡ 0 =
        λ j below other. ap v (omega arith) ∙ ap (λ (b : Bool). if b then 1 else 0) (apart i j within (omega arith) other)
        in
        ap (λ n. n % 2147483647) (named-weights (unit_weight (eq_by_cmp integral_cmp) (integral_at cs i)) (by_place 0 d) ∙ one_place v 0 d i (omega arith) one others)

    below_named : (number : ℕ) (f : FormalSum ℕ) → AllBelow number_cmp number f → HasColumns cs f → AllBelow integral_cmp (integral_at cs number) (named cs f)
    below_named number [] below within = tt
    below_named number (t ∷ f) below within = (falls number t.0 (greater_is t.0 number below.0) within.0, below_named number f below.1 within.1)

    -- ascending numbers are descending integrals
    pub named-canonical : (f : FormalSum ℕ) → IsCanonical number_cmp f → HasColumns cs f → IsCanonical integral_cmp (named cs f)
    named-canonical [] h within = tt
    named-canonical (t ∷ f) h within = (h.0, h.1, below_named t.0 f h.2 within.1, named-canonical f h.3 within.1)

-- ---- the walk over the columns

-- columns before `at` are done
pub record Walk (es : Entries) (cs : List (List ℤ)) (whole : Bool) (row : IntegralSum) (at : ℕ) (d : List ℕ) (terms steps : FormalSum ℕ) : Type 0 where
  pub sum : SameRow row ((named cs terms ++ named cs (by_place 0 d)) ++ combination (row_at (reduced_rows es)) steps)
  pub places : AllKeys (λ place. place < length es) steps
  pub passed : (i : ℕ) → i < at → get_or d i 0 % 2147483647 ≡ 0
  pub long : length d ≡ length cs
  pub within : HasColumns cs terms
  pub before : AllKeys (λ number. number < at) terms
  pub ascending : IsCanonical number_cmp terms
  pub lead : IfSome (slice_get terms 0) (λ term. NoPivot es (integral_at cs term.0))
  pub reduced : IsTrue whole → AllKeys (λ number. NoPivot es (integral_at cs number)) terms

pub Walk-start : (es : Entries) (cs : List (List ℤ)) (whole : Bool) (d : List ℕ) (terms steps : FormalSum ℕ) → length d ≡ length cs → terms ≡ [] → steps ≡ []
    → Walk es cs whole (named cs (by_place 0 d)) 0 d terms steps
Walk-start es cs whole d terms steps long none nothing =
    let dense = named cs (by_place 0 d) in
    let start : Walk es cs whole dense 0 d [] [] = record {
      sum = subst (SameRow dense) (sym (append-nil dense)) (SameCoefficients-refl (eq_by_cmp integral_cmp) dense);
      places = tt;
      passed = λ i below. absurd (omega arith);
      long = long;
      within = tt;
      before = tt;
      ascending = tt;
      lead = tt;
      reduced = λ _. tt;
    } in
    subst (λ (f : FormalSum ℕ). Walk es cs whole dense 0 d f steps) (sym none) (subst (Walk es cs whole dense 0 d []) (sym nothing) start)

module _ (es : Entries) (cs : List (List ℤ)) (whole : Bool) (row : IntegralSum) (at column : ℕ) (d : List ℕ) (terms steps : FormalSum ℕ) (value : ℕ)
    (falls : Falls cs) (form : EchelonFrom 0 es) (walk : Walk es cs whole row at d terms steps)
    (forward : at ≤ column) (inside : column < length cs) (value_is : get_or d column 0 ≡ value) (small : value < 2147483647)
    (between : (i : ℕ) → at ≤ i → i < column → get_or d i 0 % 2147483647 ≡ 0) where
  before_column : (i : ℕ) → i < column → get_or d i 0 % 2147483647 ≡ 0
  before_column i below =
      ⊎_elim (λ (early : i < at). walk.passed i early) (λ (late : at ≤ i). between i late below) (cases_lt i at)

  module _ (d' : List ℕ) (place : ℕ) (kept : Kept) (multiples : FormalSum ℕ) (entry : slice_get es place ≡ Some (integral_at cs column, kept))
      (by_columns : named cs multiples ≡ kept.reduced) (same_long : length d' ≡ length d)
      (added : SameSum nat_cmp (by_place 0 d') (by_place 0 d ++ scale (neg_mod (mul_mod value kept.inverse)) multiples)) where
    factor : ℕ
    factor = mul_mod value kept.inverse

    dense_is : SameRow (named cs (by_place 0 d')) (named cs (by_place 0 d) ++ scale (neg_mod (mul_mod value kept.inverse)) kept.reduced)
    dense_is = dense_sum cs d d' (neg_mod (mul_mod value kept.inverse)) multiples kept.reduced by_columns added

    rest_is : SameRow (named cs terms ++ named cs (by_place 0 d')) ((named cs terms ++ named cs (by_place 0 d)) ++ scale (neg_mod (mul_mod value kept.inverse)) kept.reduced)
    rest_is =
        SameCoefficients-from_weights (eq_by_cmp integral_cmp) integrals_decide _ _ (λ w.
        let one = weighted_sum-SameCoefficients (eq_by_cmp integral_cmp) integrals_decide w _ _ dense_is in
        let negative = scale (neg_mod (mul_mod value kept.inverse)) kept.reduced in
        record {
          same_residue = omega (
            arith,
            one.same_residue,
            weighted_sum-append w (named cs terms) (named cs (by_place 0 d')),
            weighted_sum-append w (named cs terms ++ named cs (by_place 0 d)) negative,
            weighted_sum-append w (named cs terms) (named cs (by_place 0 d)),
            weighted_sum-append w (named cs (by_place 0 d)) negative,
          );
        })

    done : (i : ℕ) → i < suc column → get_or d' i 0 % 2147483647 ≡ 0
    done i below =
        let e = IsEntry-at 0 es place _ form entry in
        let lead = integral_at cs column in
        let long' : length d' ≡ length cs = omega (arith, same_long, walk.long) in
        let dense = named cs (by_place 0 d) in
        let dense' = named cs (by_place 0 d') in
        ⊎_elim
        (λ (early : i < column).
        sym (dense_coefficient cs falls d' i long' (omega arith))
        ∙ unchanged_above dense dense' kept.reduced value kept.inverse (mul_mod value kept.inverse) (neg_mod (mul_mod value kept.inverse)) lead refl refl dense_is e.lead (integral_at cs i) (falls i column early inside)
        ∙ dense_coefficient cs falls d i walk.long (omega arith) ∙ before_column i early)
        (λ (late : column ≤ i).
        let here : i ≡ column = omega arith in
        let value_there : coefficient_by integral_cmp dense lead ≡ value = dense_coefficient cs falls d column walk.long inside ∙ omega (arith, value_is, small) in
        ap (λ n. get_or d' n 0 % 2147483647) here ∙ sym (dense_coefficient cs falls d' column long' inside)
        ∙ gone_at_lead dense dense' kept.reduced value kept.inverse (mul_mod value kept.inverse) (neg_mod (mul_mod value kept.inverse)) lead refl refl dense_is e.inverse value_there)
        (cases_lt i column)

    pub Walk-subtract : (steps' : FormalSum ℕ) → steps' ≡ steps ++ (place, mul_mod value kept.inverse) ∷ [] → Walk es cs whole row (suc column) d' terms steps'
    Walk-subtract steps' more =
        let e = IsEntry-at 0 es place _ form entry in
        let rows = row_at (reduced_rows es) in
        let step : Walk es cs whole row (suc column) d' terms (steps ++ (place, mul_mod value kept.inverse) ∷ []) = record {
          sum = sum_kept (named cs terms ++ named cs (by_place 0 d)) (named cs terms ++ named cs (by_place 0 d')) kept.reduced value kept.inverse
              (mul_mod value kept.inverse) (neg_mod (mul_mod value kept.inverse)) (integral_at cs column) refl refl rest_is row rows steps place e.row walk.sum;
          places = AllKeys-append (λ i. i < length es) steps _ walk.places (e.within, tt);
          passed = done;
          long = omega (arith, same_long, walk.long);
          within = walk.within;
          before = AllKeys-weaker (λ number. number < at) (λ number. number < suc column) (λ number below. omega (arith, below, forward)) terms walk.before;
          ascending = walk.ascending;
          lead = walk.lead;
          reduced = walk.reduced;
        } in
        subst (Walk es cs whole row (suc column) d' terms) (sym more) step

  lead_kept : (f : FormalSum ℕ) → (f ≡ [] → NoPivot es (integral_at cs column)) → IfSome (slice_get f 0) (λ term. NoPivot es (integral_at cs term.0))
      → IfSome (slice_get (f ++ (column, value) ∷ []) 0) (λ term. NoPivot es (integral_at cs term.0))
  lead_kept [] first h = first refl
  lead_kept (t ∷ f) first h = h

  pub Walk-keep : (terms' : FormalSum ℕ) (d' : List ℕ) → value ≢ 0 → d' ≡ slice_set d column 0 → terms' ≡ terms ++ (column, value) ∷ []
      → (terms ≡ [] → NoPivot es (integral_at cs column)) → (IsTrue whole → NoPivot es (integral_at cs column))
      → Walk es cs whole row (suc column) d' terms' steps
  Walk-keep terms' d' not_zero cleared more first free =
      let step : Walk es cs whole row (suc column) (slice_set d column 0) (terms ++ (column, value) ∷ []) steps = record {
        sum = term_taken cs d column value terms (combination (row_at (reduced_rows es)) steps) row (omega (arith, inside, walk.long)) (sym value_is) walk.sum;
        places = walk.places;
        passed = λ i below.
            ⊎_elim
            (λ (early : i < column). ap (λ n. n % 2147483647) (get_or-set_other d column i 0 0 (λ same. omega (arith, same))) ∙ before_column i early)
            (λ (late : column ≤ i).
            let here : i ≡ column = omega arith in
            ap (λ n. get_or (slice_set d column 0) n 0 % 2147483647) here ∙ ap (λ n. n % 2147483647) (get_or-set_same d column 0 0 (omega (arith, inside, walk.long))))
            (cases_lt i column);
        long = length-set d column 0 ∙ walk.long;
        within = AllKeys-append (λ number. number < length cs) terms _ walk.within (inside, tt);
        before = AllKeys-append (λ number. number < suc column) terms _
            (AllKeys-weaker (λ number. number < at) (λ number. number < suc column) (λ number below. omega (arith, below, forward)) terms walk.before) (omega arith, tt);
        ascending = IsCanonical-append number_cmp terms ((column, value) ∷ []) walk.ascending (omega (arith, not_zero), small, tt, tt)
            (AllKeys-weaker (λ number. number < at) (λ number. AllBelow number_cmp number ((column, value) ∷ []))
            (λ number below. (nat_greater column number (omega (arith, below, forward)), tt)) terms walk.before);
        lead = lead_kept terms first walk.lead;
        reduced = λ is. AllKeys-append (λ number. NoPivot es (integral_at cs number)) terms _ (walk.reduced is) (free is, tt);
      } in
      subst (λ (e : List ℕ). Walk es cs whole row (suc column) e terms' steps) (sym cleared)
      (subst (λ (f : FormalSum ℕ). Walk es cs whole row (suc column) (slice_set d column 0) f steps) (sym more) step)

-- all columns are done
pub Walk-end : (es : Entries) (cs : List (List ℤ)) (whole : Bool) (row : IntegralSum) (at : ℕ) (d : List ℕ) (terms steps : FormalSum ℕ) → Walk es cs whole row at d terms steps
    → ((i : ℕ) → at ≤ i → get_or d i 0 % 2147483647 ≡ 0) → IsZeroRow d × ColumnsEliminated es cs whole row terms steps
Walk-end es cs whole row at d terms steps walk rest =
    let none : IsZeroRow d = λ i. ⊎_elim (λ (early : i < at). walk.passed i early) (λ (late : at ≤ i). rest i late) (cases_lt i at) in (
      none,
      record {
        sum = none_left cs d terms (combination (row_at (reduced_rows es)) steps) row none walk.sum;
        places = walk.places;
        within = walk.within;
        ascending = walk.ascending;
        lead = walk.lead;
        reduced = walk.reduced;
      },
    )

-- ---- the kept rows by their places

pub FitsColumns-length : (cs : List (List ℤ)) (rows : List (FormalSum ℕ)) (kept : List IntegralSum) → FitsColumns cs rows kept → length rows ≡ length kept
FitsColumns-length cs [] [] h = refl
FitsColumns-length cs [] (k ∷ kept) h = absurd h
FitsColumns-length cs (r ∷ rows) [] h = absurd h
FitsColumns-length cs (r ∷ rows) (k ∷ kept) h = ap suc (FitsColumns-length cs rows kept h.2)

pub FitsColumns-at : (cs : List (List ℤ)) (rows : List (FormalSum ℕ)) (kept : List IntegralSum) (place : ℕ) (d : FormalSum ℕ) → FitsColumns cs rows kept → place < length rows
    → HasColumns cs (get_or rows place d) × (named cs (get_or rows place d) ≡ row_at kept place)
FitsColumns-at cs [] kept place d h below = absurd (omega arith)
FitsColumns-at cs (r ∷ rows) [] place d h below = absurd h
FitsColumns-at cs (r ∷ rows) (k ∷ kept) zero d h below = (h.0, h.1)
FitsColumns-at cs (r ∷ rows) (k ∷ kept) (suc place) d h below = FitsColumns-at cs rows kept place d h.2 (omega arith)

pub FitsColumns-push : (cs : List (List ℤ)) (rows : List (FormalSum ℕ)) (kept : List IntegralSum) (f : FormalSum ℕ) (row : IntegralSum) → FitsColumns cs rows kept → HasColumns cs f → named cs f ≡ row
    → FitsColumns cs (rows ++ f ∷ []) (kept ++ row ∷ [])
FitsColumns-push cs [] [] f row h within is = (within, is, tt)
FitsColumns-push cs [] (k ∷ kept) f row h within is = absurd h
FitsColumns-push cs (r ∷ rows) [] f row h within is = absurd h
FitsColumns-push cs (r ∷ rows) (k ∷ kept) f row h within is = (h.0, h.1, FitsColumns-push cs rows kept f row h.2 within is)

pub FitsColumns-with_rest : (cs : List (List ℤ)) (rows : List (FormalSum ℕ)) (kept : List IntegralSum) (f : FormalSum ℕ) (row : IntegralSum) → FitsColumns cs rows kept → HasColumns cs f → row ≡ named cs f
    → FitsColumns cs (with_rest rows f) (with_rest kept row)
FitsColumns-with_rest cs rows kept [] row h within is = subst (λ (r : IntegralSum). FitsColumns cs rows (with_rest kept r)) (sym is) h
FitsColumns-with_rest cs rows kept (t ∷ f) row h within is =
    subst (λ (r : IntegralSum). FitsColumns cs (rows ++ (t ∷ f) ∷ []) (with_rest kept r)) (sym is) (FitsColumns-push cs rows kept (t ∷ f) (named cs (t ∷ f)) h within refl)

-- what holds of the integrals of the numbers
pub AllKeys-named : (P : List ℤ → Type 0) (cs : List (List ℤ)) (f : FormalSum ℕ) → AllKeys (λ number. P (integral_at cs number)) f → AllKeys P (named cs f)
AllKeys-named P cs [] h = tt
AllKeys-named P cs (t ∷ f) h = (h.0, AllKeys-named P cs f h.1)

pub lead_named : (P : List ℤ → Type 0) (cs : List (List ℤ)) (f : FormalSum ℕ) → IfSome (slice_get f 0) (λ term. P (integral_at cs term.0)) → IfSome (slice_get (named cs f) 0) (λ term. P term.0)
lead_named P cs [] h = h
lead_named P cs (t ∷ f) h = h

pub zeros_are_zero : (n : ℕ) → IsZeroRow (replicate n 0)
zeros_are_zero zero i = refl
zeros_are_zero (suc n) zero = refl
zeros_are_zero (suc n) (suc i) = zeros_are_zero n i

pub length_zeros : (n : ℕ) → length {A = ℕ} (replicate n 0) ≡ n
length_zeros zero = refl
length_zeros (suc n) = ap suc (length_zeros n)

-- ---- the table of an echelon

pub AnyTable-none : (table : Option Table) (rows : List IntegralSum) (rest : IntegralSum) → rest ≡ [] → AnyTable table (with_rest rows rest) → AnyTable table rows
AnyTable-none table rows rest none h = subst (λ (f : IntegralSum). AnyTable table (with_rest rows f)) none h

reduced_rows-push : (es : Entries) (e : List ℤ × Kept) → reduced_rows (es ++ e ∷ []) ≡ reduced_rows es ++ e.1.reduced ∷ []
reduced_rows-push [] e = refl
reduced_rows-push (x ∷ es) e = ap (λ (rows : List IntegralSum). x.1.reduced ∷ rows) (reduced_rows-push es e)

with_some : (rows : List IntegralSum) (rest : IntegralSum) (t : List ℤ × ℕ) → Some t ≡ slice_get rest 0 → with_rest rows rest ≡ rows ++ rest ∷ []
with_some rows [] t is = absurd (let clash : ◌≡◌ {A = Option (List ℤ × ℕ)} (Some t) None = is in cc)
with_some rows (u ∷ rest) t is = refl

pub AnyTable-joined : (table : Option Table) (es es' : Entries) (t : List ℤ × ℕ) (kept : Kept) (rest : IntegralSum) → es' ≡ es ++ (t.0, kept) ∷ [] → Some t ≡ slice_get rest 0 → kept.reduced ≡ rest
    → AnyTable table (with_rest (reduced_rows es) rest) → AnyTable table (reduced_rows es')
AnyTable-joined table es es' t kept rest joined some is h =
    subst (AnyTable table)
    (with_some (reduced_rows es) rest t some ∙ ap (λ (f : IntegralSum). reduced_rows es ++ f ∷ []) (sym is) ∙ sym (ap reduced_rows joined ∙ reduced_rows-push es (t.0, kept))) h
