-- From multiples of reduced rows to weights of kept rows, the last row first.
use Rattle.std.proofs.Common.{◌≡◌, ℕ, zero, suc, ◌+◌, ◌*◌, ◌<◌, Option, Some, None, List, [], ◌∷◌, ◌++◌, length, map, get_or, take, reverse, append_assoc, append-nil, sym, refl, ap, subst, ◌∙◌, arith}
use Rattle.std.specs.Prelude.{ℤ, All, slice_get, slice_set}
use Rattle.std.specs.Ordering.{eq_by_cmp, nat_cmp}
use Rattle.std.specs.declared.cmp.Ordering.TheVariants.{Greater}
use Rattle.std.proofs.lemmas.List.{take_more, get_or-take, reverse-append}
use Rattle.ibp_base.proofs.Members.{in_tail}
use Rattle.sector_lattice.specs.Sectors.{integral_cmp}
use Rattle.sector_lattice.specs.Orders.{integrals_decide}
use Rattle.ibp_field.specs.Arithmetic.{IsCongruent, add_mod, mul_mod, neg_mod}
use Rattle.ibp_algebra.specs.FormalSum.{FormalSum, weighted_sum, AllKeys, AllBelow, IsCanonical, scale, normal_form}
use Rattle.ibp_field.proofs.Congruence.{IsCongruent-refl, IsCongruent-trans, IsCongruent-mul, IsCongruent-from_eq}
use Rattle.ibp_field.proofs.Inverse.{neg_mod-add}
use Rattle.ibp_algebra.proofs.Numbers.{nat_decides}
use Rattle.ibp_algebra.proofs.Weights.{weighted_sum-append, weighted_sum-scale, weighted_sum-SameCoefficients, SameCoefficients-from_weights}
use Rattle.ibp_algebra.proofs.ZeroDivisors.{AllKeys-append}
use Rattle.ibp_algebra.proofs.SumLaws.{SameCoefficients-refl, SameCoefficients-trans, SameCoefficients-append}
use Rattle.ibp_algebra.specs.Combination.{combination}
use Rattle.ibp_algebra.specs.Spans.{row_at, SameSum, coefficient_by}
use Rattle.sparse_rows.specs.Rows.{IntegralSum, SameRow}
use Rattle.ibp_algebra.proofs.Combinations.{weighted_sum-combination}
use Rattle.ibp_algebra.proofs.CombinationLaws.{combination-rows}
use Rattle.ibp_algebra.proofs.Combinations.{AllKeys-weaker}
use Rattle.ibp_algebra.proofs.Lookups.{AllKeys-place}
use Rattle.sparse_terms.proofs.Merging.{IsCanonical-append}
use Rattle.row_echelon.specs.declared.kept.Kept.{Kept}
use Rattle.row_echelon.specs.Echelons.{KeptRows, row_numbered, IsNumber, number_cmp}
use Rattle.row_echelon.specs.KeptRows.{Entries, reduced_rows, originals, Ascends, IsEchelon, by_place}
use Rattle.row_echelon.proofs.KeptSpans.{original, normal_is, OwnNumbers, own_numbers}
use Rattle.row_echelon.proofs.Eliminating.{IsEntry-at}

-- ---- sums by place

pub weighted_sum-set : (w : ℕ → ℕ) (first : ℕ) (xs : List ℕ) (i : ℕ) (x value : ℕ) → i < length xs → x ≡ get_or xs i 0
    → weighted_sum w (by_place first (slice_set xs i value)) + x * w (first + i) ≡ weighted_sum w (by_place first xs) + value * w (first + i)
weighted_sum-set w first [] i x value within is = absurd (omega arith)
weighted_sum-set w first (y ∷ xs) zero x value within is =
    let here : w (first + 0) ≡ w first = ap w (omega arith) in
    omega (arith, ap (λ n. n * w first) is, ap (λ n. x * n) here, ap (λ n. value * n) here)
weighted_sum-set w first (y ∷ xs) (suc i) x value within is =
    let rest = weighted_sum-set w (suc first) xs i x value (omega arith) is in
    let place : w (first + suc i) ≡ w (suc first + i) = ap w (omega arith) in
    omega (arith, rest, ap (λ n. x * n) place, ap (λ n. value * n) place)

pub by_place-append : (first : ℕ) (xs : List ℕ) (x : ℕ) → by_place first (xs ++ x ∷ []) ≡ by_place first xs ++ (first + length xs, x) ∷ []
by_place-append first [] x = ap (λ n. (n, x) ∷ []) (omega arith)
by_place-append first (y ∷ xs) x =
    ap (λ (f : FormalSum ℕ). (first, y) ∷ f) (by_place-append (suc first) xs x ∙ ap (λ n. by_place (suc first) xs ++ (n, x) ∷ []) (omega arith))

-- one more step is added
pub step_added : (sums old : List ℕ) (steps : FormalSum ℕ) (n : ℕ) (t : ℕ × ℕ) (factor product value x : ℕ) → n < length steps → t ≡ get_or steps n t → t.0 < length sums
    → x ≡ get_or sums t.0 0 → product ≡ mul_mod factor t.1 → value ≡ add_mod x product
    → SameSum nat_cmp (by_place 0 sums) (by_place 0 old ++ scale factor (take n steps))
    → SameSum nat_cmp (by_place 0 (slice_set sums t.0 value)) (by_place 0 old ++ scale factor (take (n + 1) steps))
step_added sums old steps n t factor product value x within t_is place x_is product_is value_is h =
    SameCoefficients-from_weights (eq_by_cmp nat_cmp) nat_decides _ _ (λ w.
    let before = weighted_sum-SameCoefficients (eq_by_cmp nat_cmp) nat_decides w (by_place 0 sums) (by_place 0 old ++ scale factor (take n steps)) h in
    let written = weighted_sum-set w 0 sums t.0 x value place x_is in
    let here : w (0 + t.0) ≡ w t.0 = ap w (omega arith) in
    let added : IsCongruent (value * w t.0) ((x + factor * t.1) * w t.0) = IsCongruent-mul (record { same_residue = omega (arith, value_is, product_is) }) (IsCongruent-refl (w t.0)) in
    let longer : weighted_sum w (take (n + 1) steps) ≡ weighted_sum w (take n steps) + (t.1 * w t.0 + 0) =
    ap (weighted_sum w) (take_more steps n t within ∙ ap (λ (u : ℕ × ℕ). take n steps ++ u ∷ []) (sym t_is)) ∙ weighted_sum-append w (take n steps) (t ∷ [])
    in
    record {
      same_residue = omega (
        arith,
        before.same_residue,
        written,
        added.same_residue,
        ap (λ m. x * m) here,
        ap (λ m. value * m) here,
        ap (λ m. factor * m) longer,
        weighted_sum-append w (by_place 0 old) (scale factor (take n steps)),
        weighted_sum-scale w factor (take n steps),
        weighted_sum-append w (by_place 0 old) (scale factor (take (n + 1) steps)),
        weighted_sum-scale w factor (take (n + 1) steps),
      );
    })

pub nothing_added : (old : List ℕ) (factor : ℕ) (steps : FormalSum ℕ) → SameSum nat_cmp (by_place 0 old) (by_place 0 old ++ scale factor (take 0 steps))
nothing_added old factor steps = subst (SameSum nat_cmp (by_place 0 old)) (sym (append-nil (by_place 0 old))) (SameCoefficients-refl (eq_by_cmp nat_cmp) (by_place 0 old))

-- ---- a kept row by its place

kept_at : (before : List IntegralSum) (es : Entries) (place : ℕ) (e : List ℤ × Kept) → slice_get es place ≡ Some e
    → slice_get (originals before es) place ≡ Some (e.1.number, normal_form integral_cmp (original (before ++ take place (reduced_rows es)) e))
kept_at before [] place e at = absurd (let clash : ◌≡◌ {A = Option (List ℤ × Kept)} None (Some e) = at in cc)
kept_at before (x ∷ es) zero e at =
    let one : x ≡ e = cc in
    let here : slice_get (originals before (x ∷ es)) zero ≡ Some (e.1.number, normal_form integral_cmp (original before e)) =
    ap (λ (y : List ℤ × Kept). Some (y.1.number, normal_form integral_cmp (original before y))) one
    in
    subst (λ (rows : List IntegralSum). slice_get (originals before (x ∷ es)) zero ≡ Some (e.1.number, normal_form integral_cmp (original rows e))) (sym (append-nil before)) here
kept_at before (x ∷ es) (suc place) e at =
    subst (λ (rows : List IntegralSum). slice_get (originals (before ++ x.1.reduced ∷ []) es) place ≡ Some (e.1.number, normal_form integral_cmp (original rows e)))
    (append_assoc before (x.1.reduced ∷ []) (take place (reduced_rows es))) (kept_at (before ++ x.1.reduced ∷ []) es place e at)

own_at : (numbered : ℕ → IntegralSum) (kept : KeptRows) (place : ℕ) (a : ℕ × IntegralSum) → OwnNumbers numbered kept → slice_get kept place ≡ Some a → numbered a.0 ≡ a.1
own_at numbered [] place a own at = absurd (let clash : ◌≡◌ {A = Option (ℕ × IntegralSum)} None (Some a) = at in cc)
own_at numbered (k ∷ others) zero a own at = let one : k ≡ a = cc in subst (λ (b : ℕ × IntegralSum). numbered b.0 ≡ b.1) one own.0
own_at numbered (k ∷ others) (suc place) a own at = own_at numbered others place a own.1 at

number_at : (kept : KeptRows) (place : ℕ) (a : ℕ × IntegralSum) → slice_get kept place ≡ Some a → IsNumber kept a.0
number_at [] place a at = absurd (let clash : ◌≡◌ {A = Option (ℕ × IntegralSum)} None (Some a) = at in cc)
number_at (k ∷ others) zero a at = let one : k ≡ a = cc in (0, omega arith, ap (λ (b : ℕ × IntegralSum). b.0) one)
number_at (k ∷ others) (suc place) a at = in_tail k.0 (map (λ row. row.0) others) a.0 (number_at others place a at)

number_after : (kept : KeptRows) (n place : ℕ) (a : ℕ × IntegralSum) → All (λ row. n < row.0) kept → slice_get kept place ≡ Some a → n < a.0
number_after [] n place a above at = absurd (let clash : ◌≡◌ {A = Option (ℕ × IntegralSum)} None (Some a) = at in cc)
number_after (k ∷ others) n zero a above at = let one : k ≡ a = cc in let here : n < k.0 = above 0 k (omega arith) in omega (arith, here, ap (λ (b : ℕ × IntegralSum). b.0) one)
number_after (k ∷ others) n (suc place) a above at = number_after others n place a (λ i d within. above (suc i) d (omega arith)) at

numbers_ascend : (kept : KeptRows) (i j : ℕ) (a b : ℕ × IntegralSum) → Ascends kept → i < j → slice_get kept i ≡ Some a → slice_get kept j ≡ Some b → a.0 < b.0
numbers_ascend [] i j a b h less at at' = absurd (let clash : ◌≡◌ {A = Option (ℕ × IntegralSum)} None (Some a) = at in cc)
numbers_ascend (k ∷ others) i zero a b h less at at' = absurd (omega arith)
numbers_ascend (k ∷ others) zero (suc j) a b h less at at' =
    let one : k ≡ a = cc in
    subst (λ (c : ℕ × IntegralSum). c.0 < b.0) one (number_after others k.0 j b h.0 at')
numbers_ascend (k ∷ others) (suc i) (suc j) a b h less at at' = numbers_ascend others i j a b h.1 (omega arith) at at'

module _ (es : Entries) (h : IsEchelon es) where
  rows : ℕ → IntegralSum
  rows = row_at (reduced_rows es)

  pub entry_number : (place : ℕ) (e : List ℤ × Kept) → slice_get es place ≡ Some e → IsNumber (originals [] es) e.1.number
  entry_number place e at = number_at (originals [] es) place _ (kept_at [] es place e at)

  pub entry_numbers : (i j : ℕ) (a b : List ℤ × Kept) → i < j → slice_get es i ≡ Some a → slice_get es j ≡ Some b → a.1.number < b.1.number
  entry_numbers i j a b less at at' = numbers_ascend (originals [] es) i j _ _ h.numbers less (kept_at [] es i a at) (kept_at [] es j b at')

  -- a kept row is its reduced form plus its steps
  entry_row : (place : ℕ) (e : List ℤ × Kept) → slice_get es place ≡ Some e
      → SameRow (row_numbered (originals [] es) e.1.number) (e.1.reduced ++ combination (row_at (reduced_rows es)) e.1.steps.items)
  entry_row place e at =
      let entry = IsEntry-at 0 es place e h.form at in
      let own : row_numbered (originals [] es) e.1.number ≡ normal_form integral_cmp (original (take place (reduced_rows es)) e) =
      own_at (row_numbered (originals [] es)) (originals [] es) place _ (own_numbers (originals [] es) h.numbers) (kept_at [] es place e at)
      in
      let steps : SameRow (combination (row_at (take place (reduced_rows es))) e.1.steps.items) (combination (row_at (reduced_rows es)) e.1.steps.items) =
      combination-rows (eq_by_cmp integral_cmp) integrals_decide (λ i. i < 0 + place) (row_at (take place (reduced_rows es))) (row_at (reduced_rows es))
      (λ i early. record { same_at = λ key. ap (λ f. coefficient_by integral_cmp f key) (get_or-take place (reduced_rows es) i [] (omega arith)) })
      e.1.steps.items entry.steps
      in
      SameCoefficients-trans
      (subst (λ (f : IntegralSum). SameRow f (original (take place (reduced_rows es)) e)) (sym own) (normal_is (original (take place (reduced_rows es)) e)))
      (SameCoefficients-append (eq_by_cmp integral_cmp) integrals_decide (SameCoefficients-refl (eq_by_cmp integral_cmp) e.1.reduced) steps)

  -- the last row's multiple becomes its weight, and its steps are subtracted
  pub weight_found : (whole : IntegralSum) (weights : FormalSum ℕ) (sums all after : List ℕ) (value negative : ℕ) (e : List ℤ × Kept)
      → all ≡ sums ++ value ∷ [] → slice_get es (length sums) ≡ Some e → value < 2147483647 → negative ≡ neg_mod value
      → SameSum nat_cmp (by_place 0 after) (by_place 0 sums ++ scale negative e.1.steps.items)
      → SameRow whole (combination (row_numbered (originals [] es)) weights ++ combination (row_at (reduced_rows es)) (by_place 0 all))
      → SameRow whole (combination (row_numbered (originals [] es)) (weights ++ (e.1.number, value) ∷ []) ++ combination (row_at (reduced_rows es)) (by_place 0 after))
  weight_found whole weights sums all after value negative e all_is at small negative_is after_is k =
      let numbered = row_numbered (originals [] es) in
      let place = length sums in
      let entry = IsEntry-at 0 es place e h.form at in
      let rows_at = row_at (reduced_rows es) in
      SameCoefficients-from_weights (eq_by_cmp integral_cmp) integrals_decide _ _ (λ w.
      let by_row = λ (i : ℕ). weighted_sum w (rows_at i) in
      let by_number = λ (i : ℕ). weighted_sum w (numbered i) in
      let before = weighted_sum-SameCoefficients (eq_by_cmp integral_cmp) integrals_decide w _ _ k in
      let row = weighted_sum-SameCoefficients (eq_by_cmp integral_cmp) integrals_decide w _ _ (entry_row place e at) in
      let row_value : IsCongruent (value * by_number e.1.number) (value * weighted_sum w (e.1.reduced ++ combination rows_at e.1.steps.items)) = IsCongruent-mul (IsCongruent-refl value) row in
      let left = weighted_sum-SameCoefficients (eq_by_cmp nat_cmp) nat_decides by_row (by_place 0 after) (by_place 0 sums ++ scale negative e.1.steps.items) after_is in
      let steps = weighted_sum by_row e.1.steps.items in
      let cancels : IsCongruent ((negative + value) * steps) (0 * steps) =
      IsCongruent-mul (IsCongruent-trans (IsCongruent-from_eq (ap (λ n. n + value) negative_is)) (neg_mod-add value small)) (IsCongruent-refl steps)
      in
      let all_sum : weighted_sum by_row (by_place 0 all) ≡ weighted_sum by_row (by_place 0 sums) + (value * by_row place + 0) =
      ap (λ (xs : List ℕ). weighted_sum by_row (by_place 0 xs)) all_is ∙ ap (weighted_sum by_row) (by_place-append 0 sums value)
      ∙ weighted_sum-append by_row (by_place 0 sums) ((0 + length sums, value) ∷ []) ∙ ap (λ n. weighted_sum by_row (by_place 0 sums) + (value * by_row n + 0)) (omega arith)
      in
      let own : by_row place ≡ weighted_sum w e.1.reduced = ap (weighted_sum w) entry.row in
      record {
        same_residue = omega (
          arith,
          before.same_residue,
          row_value.same_residue,
          left.same_residue,
          cancels.same_residue,
          all_sum,
          ap (λ n. value * n) own,
          ap (λ n. value * n) (weighted_sum-append w e.1.reduced (combination rows_at e.1.steps.items)),
          ap (λ n. value * n) (weighted_sum-combination rows_at w e.1.steps.items),
          weighted_sum-append w (combination numbered weights) (combination rows_at (by_place 0 all)),
          weighted_sum-append w (combination numbered (weights ++ (e.1.number, value) ∷ [])) (combination rows_at (by_place 0 after)),
          weighted_sum-combination numbered w weights,
          weighted_sum-combination rows_at w (by_place 0 all),
          weighted_sum-combination numbered w (weights ++ (e.1.number, value) ∷ []),
          weighted_sum-combination rows_at w (by_place 0 after),
          weighted_sum-append by_number weights ((e.1.number, value) ∷ []),
          weighted_sum-append by_row (by_place 0 sums) (scale negative e.1.steps.items),
          weighted_sum-scale by_row negative e.1.steps.items,
        );
      })

  -- a multiple that is zero is passed over
  pub zero_passed : (whole : IntegralSum) (weights : FormalSum ℕ) (sums all : List ℕ) (value : ℕ) → all ≡ sums ++ value ∷ [] → value ≡ 0
      → SameRow whole (combination (row_numbered (originals [] es)) weights ++ combination (row_at (reduced_rows es)) (by_place 0 all))
      → SameRow whole (combination (row_numbered (originals [] es)) weights ++ combination (row_at (reduced_rows es)) (by_place 0 sums))
  zero_passed whole weights sums all value all_is none k =
      let numbered = row_numbered (originals [] es) in
      let rows_at = row_at (reduced_rows es) in
      SameCoefficients-from_weights (eq_by_cmp integral_cmp) integrals_decide _ _ (λ w.
      let by_row = λ (i : ℕ). weighted_sum w (rows_at i) in
      let before = weighted_sum-SameCoefficients (eq_by_cmp integral_cmp) integrals_decide w _ _ k in
      let all_sum : weighted_sum by_row (by_place 0 all) ≡ weighted_sum by_row (by_place 0 sums) + (value * by_row (0 + length sums) + 0) =
      ap (λ (xs : List ℕ). weighted_sum by_row (by_place 0 xs)) all_is ∙ ap (weighted_sum by_row) (by_place-append 0 sums value)
      ∙ weighted_sum-append by_row (by_place 0 sums) ((0 + length sums, value) ∷ [])
      in
      record {
        same_residue = omega (
          arith,
          before.same_residue,
          all_sum,
          ap (λ n. n * by_row (0 + length sums)) none,
          weighted_sum-append w (combination numbered weights) (combination rows_at (by_place 0 all)),
          weighted_sum-append w (combination numbered weights) (combination rows_at (by_place 0 sums)),
          weighted_sum-combination rows_at w (by_place 0 all),
          weighted_sum-combination rows_at w (by_place 0 sums),
        );
      })

-- ---- the order of the weights

weighted_sum-reverse : {K : Type 0} (w : K → ℕ) (f : FormalSum K) → weighted_sum w (reverse f) ≡ weighted_sum w f
weighted_sum-reverse w [] = refl
weighted_sum-reverse w (t ∷ f) =
    ap (weighted_sum w) (reverse-append (t ∷ []) f) ∙ weighted_sum-append w (reverse f) (t ∷ []) ∙ omega (arith, weighted_sum-reverse w f)

pub AllKeys-reverse : {K : Type 0} (P : K → Type 0) (f : FormalSum K) → AllKeys P f → AllKeys P (reverse f)
AllKeys-reverse P [] h = tt
AllKeys-reverse P (t ∷ f) h = subst (AllKeys P) (sym (reverse-append (t ∷ []) f)) (AllKeys-append P (reverse f) (t ∷ []) (AllKeys-reverse P f h.1) (h.0, tt))

pub IsCanonical-reverse : (f : FormalSum ℕ) → IsCanonical nat_cmp f → IsCanonical number_cmp (reverse f)
IsCanonical-reverse [] h = tt
IsCanonical-reverse (t ∷ f) h =
    subst (IsCanonical number_cmp) (sym (reverse-append (t ∷ []) f))
    (IsCanonical-append number_cmp (reverse f) (t ∷ []) (IsCanonical-reverse f h.3) (h.0, h.1, tt, tt)
    (AllKeys-weaker (λ k. nat_cmp t.0 k ≡ Greater) (λ k. AllBelow number_cmp k (t ∷ [])) (λ k lower. (lower, tt)) (reverse f) (AllKeys-reverse (λ k. nat_cmp t.0 k ≡ Greater) f h.2)))

pub combination-reverse : (numbered : ℕ → IntegralSum) (f : FormalSum ℕ) → SameRow (combination numbered f) (combination numbered (reverse f))
combination-reverse numbered f =
    SameCoefficients-from_weights (eq_by_cmp integral_cmp) integrals_decide _ _ (λ w.
    IsCongruent-from_eq (weighted_sum-combination numbered w f ∙ sym (weighted_sum-reverse (λ i. weighted_sum w (numbered i)) f) ∙ sym (weighted_sum-combination numbered w (reverse f))))

-- what holds of all keys holds of the key of a term
pub AllKeys-item : {K : Type 0} (P : K → Type 0) (f : FormalSum K) (n : ℕ) (t : K × ℕ) → AllKeys P f → n < length f → t ≡ get_or f n t → P t.0
AllKeys-item {K} P f n t h within is = subst (λ (u : K × ℕ). P u.0) (sym is) (AllKeys-place P f n t h within)
