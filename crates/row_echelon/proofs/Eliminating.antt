-- One step of an elimination: the term at a lead is subtracted by a multiple of the row with that lead.
use Rattle.std.proofs.Common.{◌≡◌, ◌≢◌, inl, inr, ℕ, zero, suc, ◌+◌, ◌*◌, ◌%◌, ◌<◌, ◌≤◌, Option, Some, None, List, [], ◌∷◌, ◌++◌, length, append-nil, get_or, take, drop, sym, refl, ap, subst, ◌∙◌, ⊎_elim, lit<, arith}
use Rattle.std.specs.Prelude.{ℤ, slice_get}
use Rattle.std.specs.Ordering.{eq_by_cmp}
use Rattle.std.specs.declared.cmp.Ordering.TheVariants.{Less, Equal, Greater}
use Rattle.std.proofs.Math.Nat.{mod-lt}
use Rattle.std.proofs.Math.Seq.{drop-cons}
use Rattle.std.proofs.lemmas.Bool.{cases_lt}
use Rattle.std.proofs.lemmas.List.{get_or-take, get_or_default, length-take-le, take_all}
use Rattle.std.proofs.lemmas.Option.{slice_get_within, slice_get-get_or}
use Rattle.sector_lattice.specs.Sectors.{integral_cmp}
use Rattle.sector_lattice.specs.Orders.{integral_cmp_total, same_integrals, integrals_decide}
use Rattle.ibp_field.specs.Arithmetic.{IsCongruent, mul_mod, neg_mod}
use Rattle.ibp_algebra.specs.FormalSum.{FormalSum, weighted_sum, AllKeys, AllBelow, IsCanonical, scale}
use Rattle.ibp_field.proofs.Congruence.{IsCongruent-refl, IsCongruent-trans, IsCongruent-mul, IsCongruent-mod, IsCongruent-from_eq}
use Rattle.ibp_field.proofs.Inverse.{neg_mod-add}
use Rattle.ibp_algebra.proofs.Canonical.{order_refl}
use Rattle.ibp_algebra.proofs.SumLaws.{SameCoefficients-refl}
use Rattle.ibp_algebra.proofs.ZeroDivisors.{AllKeys-append}
use Rattle.ibp_algebra.proofs.Weights.{unit_weight, weighted_sum-append, weighted_sum-scale, weighted_sum-SameCoefficients, SameCoefficients-from_weights}
use Rattle.ibp_algebra.specs.Combination.{combination}
use Rattle.ibp_algebra.specs.Spans.{row_at, IsLead, coefficient_by}
use Rattle.sparse_rows.specs.Rows.{IntegralSum, SameRow}
use Rattle.ibp_algebra.proofs.CombinationLaws.{combination-append}
use Rattle.ibp_algebra.proofs.Lookups.{coefficient-at_place, AllKeys-from_all, key_falls}
use Rattle.ibp_algebra.proofs.Prefixes.{prefix_kept}
use Rattle.row_echelon.specs.declared.kept.Kept.{Kept}
use Rattle.row_echelon.specs.KeptRows.{Entries, reduced_rows, NoPivot, IsUntouched, EchelonFrom}
use Rattle.row_echelon.proofs.Pivots.{IsPivot}
use Rattle.row_echelon.proofs.Measures.{pivots_left, pivots_fall}

-- what an echelon says of one of its entries
pub record IsEntry (es : Entries) (first place : ℕ) (e : List ℤ × Kept) : Type 0 where
  pub lead : IsLead integral_cmp e.1.reduced e.0
  pub inverse : (e.1.inverse * coefficient_by integral_cmp e.1.reduced e.0) % 2147483647 ≡ 1
  pub steps : AllKeys (λ i. i < first + place) e.1.steps.items
  pub within : place < length es
  pub row : row_at (reduced_rows es) place ≡ e.1.reduced
  pub pivot : IsPivot es e.0

pub IsEntry-at : (first : ℕ) (es : Entries) (place : ℕ) (e : List ℤ × Kept) → EchelonFrom first es → slice_get es place ≡ Some e → IsEntry es first place e
IsEntry-at first [] place e h at = absurd (let clash : ◌≡◌ {A = Option (List ℤ × Kept)} None (Some e) = at in cc)
IsEntry-at first (x ∷ es) zero e h at =
    let one : x ≡ e = cc in
    let here : IsEntry (x ∷ es) first 0 x =
    record { lead = h.0; inverse = h.2; steps = subst (λ n. AllKeys (λ i. i < n) x.1.steps.items) (omega arith) h.3; within = omega arith; row = refl; pivot = inl refl }
    in
    subst (IsEntry (x ∷ es) first 0) one here
IsEntry-at first (x ∷ es) (suc place) e h at =
    let later = IsEntry-at (suc first) es place e h.5 at in
    record {
      lead = later.lead;
      inverse = later.inverse;
      steps = subst (λ n. AllKeys (λ i. i < n) e.1.steps.items) (omega arith) later.steps;
      within = omega (arith, later.within);
      row = later.row;
      pivot = inr later.pivot;
    }

module _ (rest rest' reduced : IntegralSum) (value inverse factor negative : ℕ) (lead : List ℤ)
    (factor_is : factor ≡ mul_mod value inverse) (negative_is : negative ≡ neg_mod factor) (rest_is : SameRow rest' (rest ++ scale negative reduced)) where
  cancels : IsCongruent (negative + factor) 0
  cancels =
      let below : factor < 2147483647 = subst (λ n. n < 2147483647) (sym factor_is) (mod-lt (value * inverse) (lit< tt)) in
      IsCongruent-trans (IsCongruent-from_eq (ap (λ n. n + factor) negative_is)) (neg_mod-add factor below)

  -- the sum keeps the whole
  pub sum_kept : (row : IntegralSum) (at : ℕ → IntegralSum) (steps : FormalSum ℕ) (place : ℕ) → at place ≡ reduced
      → SameRow row (rest ++ combination at steps) → SameRow row (rest' ++ combination at (steps ++ (place, factor) ∷ []))
  sum_kept row at steps place at_is h =
      SameCoefficients-from_weights (eq_by_cmp integral_cmp) integrals_decide _ _ (λ w.
      let before = weighted_sum-SameCoefficients (eq_by_cmp integral_cmp) integrals_decide w row (rest ++ combination at steps) h in
      let after = weighted_sum-SameCoefficients (eq_by_cmp integral_cmp) integrals_decide w rest' (rest ++ scale negative reduced) rest_is in
      let joined = weighted_sum-SameCoefficients (eq_by_cmp integral_cmp) integrals_decide w _ _
      (combination-append (eq_by_cmp integral_cmp) integrals_decide at steps ((place, factor) ∷ []))
      in
      let none : IsCongruent ((negative + factor) * weighted_sum w reduced) (0 * weighted_sum w reduced) = IsCongruent-mul cancels (IsCongruent-refl (weighted_sum w reduced)) in
      record {
        same_residue = omega (
          arith,
          before.same_residue,
          after.same_residue,
          joined.same_residue,
          none.same_residue,
          weighted_sum-append w rest (combination at steps),
          weighted_sum-append w rest (scale negative reduced),
          weighted_sum-scale w negative reduced,
          weighted_sum-append w rest' (combination at (steps ++ (place, factor) ∷ [])),
          weighted_sum-append w (combination at steps) (scale factor (at place) ++ []),
          weighted_sum-append w (scale factor (at place)) [],
          weighted_sum-scale w factor (at place),
          ap (λ f. factor * weighted_sum w f) at_is,
        );
      })

  -- the coefficients of what is left
  after_sum : (key : List ℤ) → coefficient_by integral_cmp rest' key
      ≡ (weighted_sum (unit_weight (eq_by_cmp integral_cmp) key) rest + negative * weighted_sum (unit_weight (eq_by_cmp integral_cmp) key) reduced) % 2147483647
  after_sum key =
      rest_is.same_at key
      ∙ ap (λ n. n % 2147483647) (weighted_sum-append (unit_weight (eq_by_cmp integral_cmp) key) rest (scale negative reduced)
      ∙ ap (λ n. weighted_sum (unit_weight (eq_by_cmp integral_cmp) key) rest + n) (weighted_sum-scale (unit_weight (eq_by_cmp integral_cmp) key) negative reduced))

  -- above the lead nothing changes
  pub unchanged_above : IsLead integral_cmp reduced lead → (key : List ℤ) → integral_cmp key lead ≡ Greater → coefficient_by integral_cmp rest' key ≡ coefficient_by integral_cmp rest key
  unchanged_above h key above =
      let none : IsCongruent (negative * weighted_sum (unit_weight (eq_by_cmp integral_cmp) key) reduced) (negative * 0) =
      IsCongruent-mul (IsCongruent-refl negative) (record { same_residue = h.highest key above })
      in
      omega (arith, after_sum key, none.same_residue)

  -- and at the lead nothing is left
  pub gone_at_lead : (inverse * coefficient_by integral_cmp reduced lead) % 2147483647 ≡ 1 → coefficient_by integral_cmp rest lead ≡ value → coefficient_by integral_cmp rest' lead ≡ 0
  gone_at_lead one value_is =
      let top = weighted_sum (unit_weight (eq_by_cmp integral_cmp) lead) reduced in
      let inverse_top : IsCongruent (inverse * top) 1 =
      IsCongruent-trans (IsCongruent-mul (IsCongruent-refl inverse) (record { same_residue = sym (IsCongruent-mod top).same_residue })) (record { same_residue = one })
      in
      let product : IsCongruent (factor * top) (value * inverse * top) =
      IsCongruent-mul (IsCongruent-trans (IsCongruent-from_eq factor_is) (IsCongruent-mod (value * inverse))) (IsCongruent-refl top)
      in
      let back : IsCongruent (value * (inverse * top)) (value * 1) = IsCongruent-mul (IsCongruent-refl value) inverse_top in
      let none : IsCongruent ((negative + factor) * top) (0 * top) = IsCongruent-mul cancels (IsCongruent-refl top) in
      omega (arith, after_sum lead, value_is, product.same_residue, back.same_residue, none.same_residue)

  -- the terms before the lead stay, and the others are below it
  pub rest_kept : (at : ℕ) → IsCanonical integral_cmp rest → IsCanonical integral_cmp rest' → IsLead integral_cmp reduced lead
      → (inverse * coefficient_by integral_cmp reduced lead) % 2147483647 ≡ 1 → slice_get rest at ≡ Some (lead, value)
      → (take at rest' ≡ take at rest) × AllBelow integral_cmp lead (drop at rest')
  rest_kept at p q h one is =
      let within : at < length rest = slice_get_within rest at (lead, value) is in
      let found : get_or rest at (lead, value) ≡ (lead, value) =
      let same : Some (get_or rest at (lead, value)) ≡ Some (lead, value) = sym (slice_get-get_or rest at (lead, value) within) ∙ is in cc
      in
      let key : (get_or rest at (lead, value)).0 ≡ lead = ap (λ (t : List ℤ × ℕ). t.0) found in
      let coefficient_is : coefficient_by integral_cmp rest lead ≡ value =
      ap (coefficient_by integral_cmp rest) (sym key) ∙ coefficient-at_place integral_cmp integral_cmp_total same_integrals rest at (lead, value) p within
      ∙ ap (λ (t : List ℤ × ℕ). t.1) found
      in
      prefix_kept integral_cmp integral_cmp_total same_integrals lead rest rest' at (lead, value) p q within key (unchanged_above h) (gone_at_lead one coefficient_is)

-- ---- what an elimination keeps

-- what is left, and what was subtracted, give the row
pub record IsElimination (es : Entries) (row rest : IntegralSum) (steps : FormalSum ℕ) : Type 0 where
  pub sum : SameRow row (rest ++ combination (row_at (reduced_rows es)) steps)
  pub places : AllKeys (λ place. place < length es) steps
  pub canonical : IsCanonical integral_cmp rest

pub IsElimination-start : (es : Entries) (row rest : IntegralSum) (steps : FormalSum ℕ) → rest ≡ row → steps ≡ [] → IsCanonical integral_cmp rest → IsElimination es row rest steps
IsElimination-start es row rest steps rest_is steps_are canonical =
    let at = row_at (reduced_rows es) in
    let whole : SameRow row (row ++ combination at []) =
    subst (λ (f : IntegralSum). SameRow row f) (sym (append-nil row)) (SameCoefficients-refl (eq_by_cmp integral_cmp) row)
    in
    subst (IsElimination es row rest) (sym steps_are)
    (record {
      sum = subst (λ (f : IntegralSum). SameRow row (f ++ combination at [])) (sym rest_is) whole;
      places = tt;
      canonical = canonical;
    })

-- one step: the term is the lead of the kept row, and its multiple is subtracted
pub record IsStep (es : Entries) (rest rest' : IntegralSum) (steps steps' : FormalSum ℕ) (at place : ℕ) (t : List ℤ × ℕ) (kept : Kept) : Type 0 where
  pub entry : slice_get es place ≡ Some (t.0, kept)
  pub term : slice_get rest at ≡ Some t
  pub sum : SameRow rest' (rest ++ scale (neg_mod (mul_mod t.1 kept.inverse)) kept.reduced)
  pub more : steps' ≡ steps ++ (place, mul_mod t.1 kept.inverse) ∷ []
  pub canonical : IsCanonical integral_cmp rest'

module _ (es : Entries) (rest rest' : IntegralSum) (steps steps' : FormalSum ℕ) (at place : ℕ) (t : List ℤ × ℕ) (kept : Kept) (h : EchelonFrom 0 es)
    (step : IsStep es rest rest' steps steps' at place t kept) where
  pub IsElimination-step : (row : IntegralSum) → IsElimination es row rest steps → IsElimination es row rest' steps'
  IsElimination-step row before =
      let entry = IsEntry-at 0 es place _ h step.entry in
      let rows = row_at (reduced_rows es) in
      let factor = mul_mod t.1 kept.inverse in
      record {
        sum = subst (λ (all : FormalSum ℕ). SameRow row (rest' ++ combination rows all)) (sym step.more)
            (sum_kept rest rest' kept.reduced t.1 kept.inverse factor (neg_mod factor) t.0 refl refl step.sum row rows steps place entry.row before.sum);
        places = subst (AllKeys (λ i. i < length es)) (sym step.more) (AllKeys-append (λ i. i < length es) steps _ before.places (entry.within, tt));
        canonical = step.canonical;
      }

  -- the terms before the place stay, and the others are below its integral
  pub step_below : IsCanonical integral_cmp rest → (take at rest' ≡ take at rest) × AllBelow integral_cmp t.0 (drop at rest')
  step_below canonical =
      let entry = IsEntry-at 0 es place _ h step.entry in
      let factor = mul_mod t.1 kept.inverse in
      rest_kept rest rest' kept.reduced t.1 kept.inverse factor (neg_mod factor) t.0 refl refl step.sum at canonical step.canonical entry.lead entry.inverse step.term

-- ---- the terms at no lead

pub untouched_join : (es : Entries) (f : IntegralSum) (from at : ℕ) → IsUntouched es f 0 from → IsUntouched es f from at → IsUntouched es f 0 at
untouched_join es f from at h k =
    λ i d low below. ⊎_elim (λ (early : i < from). h i d low early) (λ (late : from ≤ i). k i d late below) (cases_lt i from)

pub untouched_kept : (es : Entries) (f g : IntegralSum) (at : ℕ) → take at g ≡ take at f → IsUntouched es f 0 at → IsUntouched es g 0 at
untouched_kept es f g at is h =
    λ i d low below.
    let one : get_or g i d ≡ get_or f i d = sym (get_or-take at g i d below) ∙ ap (λ l. get_or l i d) is ∙ get_or-take at f i d below in
    subst (λ (t : List ℤ × ℕ). NoPivot es t.0) (sym one) (h i d low below)

pub length_kept : (f g : IntegralSum) (at : ℕ) → take at g ≡ take at f → at ≤ length f → at ≤ length g
length_kept f g at is within =
    ⊎_elim
    (λ (short : length g < at).
    omega (arith, ap length is, length-take-le at f within, ap length (take_all at g (omega arith))))
    (λ (long : at ≤ length g). long)
    (cases_lt (length g) at)

pub untouched_whole : (es : Entries) (f : IntegralSum) → IsUntouched es f 0 (length f) → AllKeys (NoPivot es) f
untouched_whole es f h = AllKeys-from_all (NoPivot es) f (λ i d within. h i d (omega arith) within)

-- ---- the measure

not_below : (f : IntegralSum) (from at : ℕ) (s t : List ℤ × ℕ) → IsCanonical integral_cmp f → from ≤ at → at < length f → s ≡ get_or f from s → t ≡ get_or f at t
    → integral_cmp s.0 t.0 ≢ Less
not_below f from at s t h le within s_is t_is less =
    ⊎_elim
    (λ (before : from < at).
    let falls : integral_cmp (get_or f from s).0 (get_or f at s).0 ≡ Greater = key_falls integral_cmp integral_cmp_total same_integrals f from at s h before within in
    let s_key : s.0 ≡ (get_or f from s).0 = ap (λ (u : List ℤ × ℕ). u.0) s_is in
    let t_key : t.0 ≡ (get_or f at s).0 = ap (λ (u : List ℤ × ℕ). u.0) (t_is ∙ get_or_default f at t s within) in
    let clash : Less ≡ Greater = sym less ∙ (λ i. integral_cmp (s_key i) (t_key i)) ∙ falls in
    absurd (cc))
    (λ (far : at ≤ from).
    let here : from ≡ at = omega arith in
    let key : s.0 ≡ t.0 = ap (λ (u : List ℤ × ℕ). u.0) (s_is ∙ ap (λ n. get_or f n s) here ∙ get_or_default f at s t within ∙ sym t_is) in
    let clash : Less ≡ Equal = sym less ∙ ap (λ k. integral_cmp k t.0) key ∙ order_refl integral_cmp integral_cmp_total t.0 in
    absurd (cc))
    (cases_lt from at)

pub measure_falls : (es : Entries) (f g : IntegralSum) (from at : ℕ) (t : List ℤ × ℕ) → IsCanonical integral_cmp f → from ≤ at → at < length f → slice_get f at ≡ Some t
    → IsPivot es t.0 → AllBelow integral_cmp t.0 (drop at g) → pivots_left es (drop at g) < pivots_left es (drop from f)
measure_falls es f g from at t h le within is p below =
    let s = get_or f from t in
    let s_is : s ≡ get_or f from s = get_or_default f from t s (omega arith) in
    let t_is : t ≡ get_or f at t = let one : Some (get_or f at t) ≡ Some t = sym (slice_get-get_or f at t within) ∙ is in cc in
    subst (λ (l : IntegralSum). pivots_left es (drop at g) < pivots_left es l) (sym (drop-cons f from t (omega arith)))
    (pivots_fall es (drop at g) s.0 t.0 p (not_below f from at s t h le within s_is t_is) below)

module _ (es : Entries) (rest rest' : IntegralSum) (steps steps' : FormalSum ℕ) (at place : ℕ) (t : List ℤ × ℕ) (kept : Kept) (h : EchelonFrom 0 es)
    (step : IsStep es rest rest' steps steps' at place t kept) where
  pub step_falls : (from : ℕ) → from ≤ at → IsCanonical integral_cmp rest → pivots_left es (drop at rest') < pivots_left es (drop from rest)
  step_falls from le canonical =
      measure_falls es rest rest' from at t canonical le (slice_get_within rest at t step.term) step.term (IsEntry-at 0 es place _ h step.entry).pivot
      (step_below es rest rest' steps steps' at place t kept h step canonical).1
