-- A row that is not in the span of the kept rows may be kept.
use Rattle.std.proofs.Common.{◌≡◌, ◌≢◌, ◌⊎◌, inl, inr, ℕ, suc, ◌+◌, ◌*◌, ◌%◌, ◌<◌, ◌≤◌, ◌^◌, Bool, true, false, cond, if◌then◌else◌, ◌==◌, Option, Some, None, List, [], ◌∷◌, ◌++◌, length, length-append, map, append_assoc, append-nil, sym, refl, ap, subst, ◌∙◌, ⊎_elim, arith}
use Rattle.std.specs.Prelude.{ℤ, All, slice_get, IsSome, IsNone, IfSome}
use Rattle.std.specs.Map.{lookup}
use Rattle.std.specs.Ordering.{eq_by_cmp, nat_cmp}
use Rattle.std.specs.Cmp.{nat_cmp_total}
use Rattle.std.proofs.lemmas.List.Elements.{All-push}
use Rattle.std.specs.FinMap.{nat_cmp-IsAntisymmetric}
use Rattle.std.specs.declared.cmp.Ordering.TheVariants.{Greater}
use Rattle.std.proofs.lemmas.Bool.Decides.{Decides-eqb}
use Rattle.ibp_base.proofs.Members.{in_cases, in_tail}
use Rattle.sector_lattice.specs.Sectors.{integral_cmp}
use Rattle.sector_lattice.specs.Orders.{integral_cmp_total, same_integrals, integrals_decide}
use Rattle.ibp_field.specs.Arithmetic.{mul_mod}
use Rattle.ibp_algebra.specs.FormalSum.{FormalSum, AllKeys, IsCanonical, scale, normal_form}
use Rattle.ibp_field.proofs.Inverse.{inverse_exists}
use Rattle.ibp_algebra.proofs.SumLaws.{SameCoefficients-refl, SameCoefficients-sym, SameCoefficients-trans}
use Rattle.ibp_algebra.proofs.NormalForm.{IsCanonical-normal_form, AllKeys-normal_form, SameCoefficients-normal_form}
use Rattle.ibp_algebra.proofs.Canonical.{same_canonical}
use Rattle.ibp_algebra.specs.Combination.{combination}
use Rattle.ibp_algebra.specs.Spans.{row_at, SameSum, InSpan, IsLead, coefficient_by}
use Rattle.sparse_rows.specs.Rows.{IntegralSum, SameRow}
use Rattle.ibp_algebra.proofs.CombinationLaws.{combination-weights, combination-rows}
use Rattle.ibp_algebra.proofs.Numbers.{greater_is, nat_decides}
use Rattle.ibp_algebra.proofs.Members.{InSpan-same, InSpan-scale, InSpan-IsSubspace}
use Rattle.ibp_algebra.proofs.Combinations.{AllKeys-weaker}
use Rattle.ibp_algebra.proofs.Independence.{solved_row}
use Rattle.ibp_algebra.proofs.Leads.{IsLead-canonical}
use Rattle.ibp_algebra.proofs.Lookups.{coefficient-at_place}
use Rattle.row_echelon.specs.declared.kept.Kept.{Kept}
use Rattle.row_echelon.specs.Echelons.{KeptRows, row_numbered, IsNumber, InKeptSpan, AreIndependent, IsBelow}
use Rattle.row_echelon.specs.KeptRows.{Entries, reduced_rows, originals, NoPivot, EchelonFrom, Ascends, IsEchelon}
use Rattle.row_echelon.proofs.Pivots.{lead_is_pivot, not_both}
use Rattle.row_echelon.proofs.KeptSpans.{original, normal_is, taken_off, row_numbered-here, row_numbered-later, span_of_kept, span_of_reduced}

-- ---- no rows

no_numbers : (c : FormalSum ℕ) → AllKeys (IsNumber []) c → c ≡ []
no_numbers [] h = refl
no_numbers (t ∷ c) h = absurd (omega (arith, h.0.1))

pub IsEchelon-nil : IsEchelon []
IsEchelon-nil = record {
  few = omega arith;
  form = tt;
  numbers = tt;
  independent = record { only_zero = λ c among zero. subst (λ d. SameSum nat_cmp d []) (sym (no_numbers c among)) (SameCoefficients-refl (eq_by_cmp nat_cmp) []) };
}

-- ---- one more row, by number

pub number_below : (kept : KeptRows) (n j : ℕ) → IsBelow kept n → IsNumber kept j → j < n
number_below [] n j below h = absurd (omega (arith, h.1))
number_below (k ∷ others) n j below h =
    ⊎_elim
    (λ (here : k.0 ≡ j). omega (arith, below 0 k (omega arith), here))
    (λ (later : IsNumber others j). number_below others n j (λ i d within. below (suc i) d (omega arith)) later)
    (in_cases k.0 (map (λ row. row.0) others) j h)

pub row_numbered-push_new : (kept : KeptRows) (n : ℕ) (r : IntegralSum) → IsBelow kept n → row_numbered (kept ++ (n, r) ∷ []) n ≡ r
row_numbered-push_new [] n r below = row_numbered-here (n, r) [] n refl
row_numbered-push_new (k ∷ others) n r below =
    row_numbered-later k (others ++ (n, r) ∷ []) n (let less : k.0 < n = below 0 k (omega arith) in omega arith)
    ∙ row_numbered-push_new others n r (λ i d within. below (suc i) d (omega arith))

old_step : (k : ℕ × IntegralSum) (others : KeptRows) (added : ℕ × IntegralSum) (j : ℕ) (b : Bool) → (k.0 == j) ≡ b → IsNumber (k ∷ others) j
    → (IsNumber others j → row_numbered (others ++ added ∷ []) j ≡ row_numbered others j)
    → (if b then k.1 else row_numbered (others ++ added ∷ []) j) ≡ (if b then k.1 else row_numbered others j)
old_step k others added j true e h later = refl
old_step k others added j false e h later =
    ⊎_elim
    (λ (here : k.0 ≡ j). absurd (let same : (k.0 == j) ≡ true = (Decides-eqb k.0 j).1 here in let clash : ◌≡◌ {A = Bool} true false = sym same ∙ e in cc))
    (λ (there : IsNumber others j). later there)
    (in_cases k.0 (map (λ row. row.0) others) j h)

pub row_numbered-push_old : (kept : KeptRows) (added : ℕ × IntegralSum) (j : ℕ) → IsNumber kept j → row_numbered (kept ++ added ∷ []) j ≡ row_numbered kept j
row_numbered-push_old [] added j h = absurd (omega (arith, h.1))
row_numbered-push_old (k ∷ others) added j h = old_step k others added j (k.0 == j) refl h (row_numbered-push_old others added j)

pub number_cases : (kept : KeptRows) (added : ℕ × IntegralSum) (j : ℕ) → IsNumber (kept ++ added ∷ []) j → IsNumber kept j ⊎ (added.0 ≡ j)
number_cases [] added j h =
    ⊎_elim (λ (here : added.0 ≡ j). inr here) (λ (there : IsNumber [] j). absurd (omega (arith, there.1))) (in_cases added.0 [] j h)
number_cases (k ∷ others) added j h =
    ⊎_elim
    (λ (here : k.0 ≡ j). inl (0, omega arith, here))
    (λ (there : IsNumber (others ++ added ∷ []) j).
    ⊎_elim
    (λ (old : IsNumber others j). inl (in_tail k.0 (map (λ row. row.0) others) j old))
    (λ (new : added.0 ≡ j). inr new)
    (number_cases others added j there))
    (in_cases k.0 (map (λ row. row.0) (others ++ added ∷ [])) j h)

pub Ascends-push : (kept : KeptRows) (n : ℕ) (r : IntegralSum) → Ascends kept → IsBelow kept n → Ascends (kept ++ (n, r) ∷ [])
Ascends-push [] n r h below = (λ i d within. absurd (omega arith), tt)
Ascends-push (k ∷ others) n r h below =
    (All-push (λ row. k.0 < row.0) others (n, r) h.0 (below 0 k (omega arith)), Ascends-push others n r h.1 (λ i d within. below (suc i) d (omega arith)))

-- names that are not the new one
old_numbers : (kept : KeptRows) (added : ℕ × IntegralSum) (c : FormalSum ℕ) → AllKeys (IsNumber (kept ++ added ∷ [])) c → AllKeys (λ j. j < added.0) c → AllKeys (IsNumber kept) c
old_numbers kept added [] h below = tt
old_numbers kept added (t ∷ c) h below = (
  ⊎_elim (λ (old : IsNumber kept t.0). old) (λ (new : added.0 ≡ t.0). absurd (omega (arith, new, below.0))) (number_cases kept added t.0 h.0),
  old_numbers kept added c h.1 below.1,
)

pub same_combination : (kept : KeptRows) (added : ℕ × IntegralSum) (c : FormalSum ℕ) → AllKeys (IsNumber kept) c
    → SameRow (combination (row_numbered (kept ++ added ∷ [])) c) (combination (row_numbered kept) c)
same_combination kept added c h =
    combination-rows (eq_by_cmp integral_cmp) integrals_decide (IsNumber kept) (row_numbered (kept ++ added ∷ [])) (row_numbered kept)
    (λ j is. record { same_at = λ key. ap (λ f. coefficient_by integral_cmp f key) (row_numbered-push_old kept added j is) }) c h

first_weight : (kept : KeptRows) (added : ℕ × IntegralSum) (t : ℕ × ℕ) (c : FormalSum ℕ) → AreIndependent kept → IsBelow kept added.0 → ¬ (InKeptSpan kept added.1)
    → IsCanonical nat_cmp (t ∷ c) → AllKeys (IsNumber (kept ++ added ∷ [])) (t ∷ c) → SameRow (combination (row_numbered (kept ++ added ∷ [])) (t ∷ c)) []
    → IsNumber kept t.0 ⊎ (added.0 ≡ t.0) → ⊥
first_weight kept added t c independent below new h among none (inl old) =
    let small : t.0 < added.0 = number_below kept added.0 t.0 below old in
    let all_small : AllKeys (λ j. j < added.0) (t ∷ c) =
    (small, AllKeys-weaker (λ j. nat_cmp t.0 j ≡ Greater) (λ j. j < added.0) (λ j lower. (let less : j < t.0 = greater_is t.0 j lower in omega arith)) c h.2)
    in
    let all_old = old_numbers kept added (t ∷ c) among all_small in
    let zero_weights = independent.only_zero (t ∷ c) all_old (SameCoefficients-trans (SameCoefficients-sym (same_combination kept added (t ∷ c) all_old)) none) in
    (IsLead-canonical nat_cmp nat_cmp_total nat_cmp-IsAntisymmetric t c h).occurs (zero_weights.same_at t.0)
first_weight kept added t c independent below new h among none (inr here) =
    let all_small : AllKeys (λ j. j < added.0) c =
    AllKeys-weaker (λ j. nat_cmp t.0 j ≡ Greater) (λ j. j < added.0) (λ j lower. (let less : j < t.0 = greater_is t.0 j lower in omega (arith, here))) c h.2
    in
    let all_old = old_numbers kept added c among.1 all_small in
    let inverse = inverse_exists t.1 h.0 h.1 in
    let solved : SameRow (row_numbered (kept ++ added ∷ []) t.0) (scale (inverse.0 * 2147483646) (combination (row_numbered (kept ++ added ∷ [])) c)) =
    solved_row integral_cmp integral_cmp_total same_integrals t.1 inverse.0 (row_numbered (kept ++ added ∷ []) t.0) (combination (row_numbered (kept ++ added ∷ [])) c) inverse.1 none
    in
    let own : row_numbered (kept ++ added ∷ []) t.0 ≡ added.1 =
    subst (λ n. row_numbered (kept ++ added ∷ []) n ≡ added.1) here (row_numbered-push_new kept added.0 added.1 below)
    in
    new
    (InSpan-same integral_cmp integral_cmp_total same_integrals (row_numbered kept) (IsNumber kept)
    (SameCoefficients-sym (subst (λ (f : IntegralSum). SameRow f (scale (inverse.0 * 2147483646) (combination (row_numbered (kept ++ added ∷ [])) c))) own solved))
    (InSpan-scale integral_cmp integral_cmp_total same_integrals (row_numbered kept) (IsNumber kept) (inverse.0 * 2147483646)
    (record { weights = c; among = all_old; equal = same_combination kept added c all_old })))

no_weight : (kept : KeptRows) (added : ℕ × IntegralSum) (c : FormalSum ℕ) → AreIndependent kept → IsBelow kept added.0 → ¬ (InKeptSpan kept added.1)
    → IsCanonical nat_cmp c → AllKeys (IsNumber (kept ++ added ∷ [])) c → SameRow (combination (row_numbered (kept ++ added ∷ [])) c) [] → c ≡ []
no_weight kept added [] independent below new h among none = refl
no_weight kept added (t ∷ c) independent below new h among none =
    absurd (first_weight kept added t c independent below new h among none (number_cases kept added t.0 among.0))

-- a row that is not in the span stays independent of the others
pub AreIndependent-push : (kept : KeptRows) (n : ℕ) (r : IntegralSum) → AreIndependent kept → IsBelow kept n → ¬ (InKeptSpan kept r) → AreIndependent (kept ++ (n, r) ∷ [])
AreIndependent-push kept n r independent below new = record {
  only_zero = λ weights among gives_zero.
      let c = normal_form nat_cmp weights in
      let c_is : SameSum nat_cmp c weights = SameCoefficients-normal_form nat_cmp nat_cmp_total nat_cmp-IsAntisymmetric (eq_by_cmp nat_cmp) nat_decides weights in
      let none : c ≡ [] =
      no_weight kept (n, r) c independent below new (IsCanonical-normal_form nat_cmp nat_cmp_total nat_cmp-IsAntisymmetric weights)
      (AllKeys-normal_form nat_cmp nat_cmp_total nat_cmp-IsAntisymmetric (IsNumber (kept ++ (n, r) ∷ [])) weights among)
      (SameCoefficients-trans (combination-weights (eq_by_cmp integral_cmp) integrals_decide (eq_by_cmp nat_cmp) nat_decides (row_numbered (kept ++ (n, r) ∷ [])) c weights c_is) gives_zero)
      in
      subst (λ d. SameSum nat_cmp weights d) none (SameCoefficients-sym c_is);
}

-- ---- one more entry

NoPivot-push : (es : Entries) (e : List ℤ × Kept) (key : List ℤ) → NoPivot es key → e.0 ≢ key → NoPivot (es ++ e ∷ []) key
NoPivot-push [] e key h k = (k, tt)
NoPivot-push (x ∷ es) e key h k = (h.0, NoPivot-push es e key h.1 k)

-- what a new entry needs
pub record MayJoin (es : Entries) (e : List ℤ × Kept) : Type 0 where
  pub lead : IsLead integral_cmp e.1.reduced e.0
  pub canonical : IsCanonical integral_cmp e.1.reduced
  pub inverse : (e.1.inverse * coefficient_by integral_cmp e.1.reduced e.0) % 2147483647 ≡ 1
  pub steps : AllKeys (λ i. i < length es) e.1.steps.items
  pub apart : NoPivot es e.0

EchelonFrom-push : (first : ℕ) (es : Entries) (e : List ℤ × Kept) → EchelonFrom first es → IsLead integral_cmp e.1.reduced e.0 → IsCanonical integral_cmp e.1.reduced
    → (e.1.inverse * coefficient_by integral_cmp e.1.reduced e.0) % 2147483647 ≡ 1 → AllKeys (λ i. i < first + length es) e.1.steps.items → NoPivot es e.0
    → EchelonFrom first (es ++ e ∷ [])
EchelonFrom-push first [] e h lead canonical inverse steps apart =
    (lead, canonical, inverse, subst (λ n. AllKeys (λ i. i < n) e.1.steps.items) (omega arith) steps, tt, tt)
EchelonFrom-push first (x ∷ es) e h lead canonical inverse steps apart = (
  h.0,
  h.1,
  h.2,
  h.3,
  NoPivot-push es e x.0 h.4 (λ is. apart.0 (sym is)),
  EchelonFrom-push (suc first) es e h.5 lead canonical inverse (subst (λ n. AllKeys (λ i. i < n) e.1.steps.items) (omega arith) steps) apart.1,
)

pub originals-push : (before : List IntegralSum) (es : Entries) (e : List ℤ × Kept)
    → originals before (es ++ e ∷ []) ≡ originals before es ++ (e.1.number, normal_form integral_cmp (original (before ++ reduced_rows es) e)) ∷ []
originals-push before [] e = ap (λ (rows : List IntegralSum). (e.1.number, normal_form integral_cmp (original rows e)) ∷ []) (sym (append-nil before))
originals-push before (x ∷ es) e =
    let rest = originals-push (before ++ x.1.reduced ∷ []) es e in
    ap (λ (kept : KeptRows). (x.1.number, normal_form integral_cmp (original before x)) ∷ kept)
    (rest ∙ ap (λ (rows : List IntegralSum). originals (before ++ x.1.reduced ∷ []) es ++ (e.1.number, normal_form integral_cmp (original rows e)) ∷ [])
    (append_assoc before (x.1.reduced ∷ []) (reduced_rows es)))

-- ---- what an elimination shows

-- what is left of a row is no member of the span, unless its lead is one of theirs
pub not_in_span : (es : Entries) (row rest : IntegralSum) (steps : FormalSum ℕ) (lead : List ℤ) → IsEchelon es
    → SameRow row (rest ++ combination (row_at (reduced_rows es)) steps) → AllKeys (λ i. i < length es) steps → NoPivot es lead → IsLead integral_cmp rest lead
    → InKeptSpan (originals [] es) row → ⊥
not_in_span es row rest steps lead h sum places apart is member =
    let rows = row_at (reduced_rows es) in
    let taken = combination rows steps in
    let space = InSpan-IsSubspace integral_cmp integral_cmp_total same_integrals rows (λ i. i < length es) in
    let whole : InSpan integral_cmp rows (λ i. i < length es) (rest ++ taken) =
    space.alike row (rest ++ taken) sum (span_of_kept es row member)
    in
    let steps_in : InSpan integral_cmp rows (λ i. i < length es) taken = record { weights = steps; among = places; equal = SameCoefficients-refl (eq_by_cmp integral_cmp) taken } in
    let left_in : InSpan integral_cmp rows (λ i. i < length es) rest =
    space.alike ((rest ++ taken) ++ scale 2147483646 taken) rest (taken_off rest taken)
    (space.append (rest ++ taken) (scale 2147483646 taken) whole (space.multiple 2147483646 taken steps_in))
    in
    not_both es lead apart (lead_is_pivot es h.form rest lead left_in is)

-- and where nothing is left the row is one
pub in_span : (es : Entries) (row rest : IntegralSum) (steps : FormalSum ℕ) → IsEchelon es
    → SameRow row (rest ++ combination (row_at (reduced_rows es)) steps) → AllKeys (λ i. i < length es) steps → rest ≡ [] → InKeptSpan (originals [] es) row
in_span es row rest steps h sum places none =
    span_of_reduced es h.numbers row
    (record {
      weights = steps;
      among = places;
      equal = subst (λ (f : IntegralSum). SameRow row (f ++ combination (row_at (reduced_rows es)) steps)) none sum;
    })

-- the row that joins
pub original_is : (es : Entries) (row rest : IntegralSum) (steps : FormalSum ℕ) → IsCanonical integral_cmp row
    → SameRow row (rest ++ combination (row_at (reduced_rows es)) steps) → normal_form integral_cmp (rest ++ combination (row_at (reduced_rows es)) steps) ≡ row
original_is es row rest steps canonical sum =
    same_canonical integral_cmp integral_cmp_total (eq_by_cmp integral_cmp) integrals_decide same_integrals
    (normal_form integral_cmp (rest ++ combination (row_at (reduced_rows es)) steps)) row
    (IsCanonical-normal_form integral_cmp integral_cmp_total same_integrals (rest ++ combination (row_at (reduced_rows es)) steps)) canonical
    (SameCoefficients-trans (normal_is (rest ++ combination (row_at (reduced_rows es)) steps)) (SameCoefficients-sym sum))

pub originals-joined : (es : Entries) (e : List ℤ × Kept) (row : IntegralSum) → IsCanonical integral_cmp row
    → SameRow row (e.1.reduced ++ combination (row_at (reduced_rows es)) e.1.steps.items) → originals [] (es ++ e ∷ []) ≡ originals [] es ++ (e.1.number, row) ∷ []
originals-joined es e row canonical sum =
    originals-push [] es e ∙ ap (λ (f : IntegralSum). originals [] es ++ (e.1.number, f) ∷ []) (original_is es row e.1.reduced e.1.steps.items canonical sum)

length-originals : (before : List IntegralSum) (es : Entries) → length (originals before es) ≡ length es
length-originals before [] = refl
length-originals before (e ∷ es) = ap suc (length-originals (before ++ e.1.reduced ∷ []) es)

-- ascending numbers from low to below n are no more than n less low
counted : (low n : ℕ) (kept : KeptRows) → low ≤ n → All (λ row. low ≤ row.0) kept → Ascends kept → IsBelow kept n → low + length kept ≤ n
counted low n [] fits above ascends below = omega (arith, fits)
counted low n (k ∷ others) fits above ascends below =
    let first : low ≤ k.0 = above 0 k (omega arith) in
    let less : k.0 < n = below 0 k (omega arith) in
    let rest : suc k.0 + length others ≤ n =
    counted (suc k.0) n others (omega (arith, less)) (λ i d within. omega (arith, ascends.0 i d within)) ascends.1 (λ i d within. below (suc i) d (omega arith)) in
    omega (arith, first, rest)

few_joined : (es : Entries) (e : List ℤ × Kept) → Ascends (originals [] es) → IsBelow (originals [] es) e.1.number → e.1.number < 2 ^ 32 → length (es ++ e ∷ []) ≤ 2 ^ 32
few_joined es e ascends below bound =
    let few : 0 + length (originals [] es) ≤ e.1.number = counted 0 e.1.number (originals [] es) (omega arith) (λ i d within. omega arith) ascends below in
    omega (arith, few, bound, length-originals [] es, length-append es (e ∷ []))

pub IsEchelon-push : (es : Entries) (e : List ℤ × Kept) (row : IntegralSum) → IsEchelon es → MayJoin es e → IsBelow (originals [] es) e.1.number → e.1.number < 2 ^ 32 → IsCanonical integral_cmp row
    → SameRow row (e.1.reduced ++ combination (row_at (reduced_rows es)) e.1.steps.items) → ¬ (InKeptSpan (originals [] es) row) → IsEchelon (es ++ e ∷ [])
IsEchelon-push es e row h joins below bound canonical sum new =
    let kept_is = originals-joined es e row canonical sum in
    record {
      few = few_joined es e h.numbers below bound;
      form = EchelonFrom-push 0 es e h.form joins.lead joins.canonical joins.inverse (subst (λ n. AllKeys (λ i. i < n) e.1.steps.items) (omega arith) joins.steps) joins.apart;
      numbers = subst Ascends (sym kept_is) (Ascends-push (originals [] es) e.1.number row h.numbers below);
      independent = subst AreIndependent (sym kept_is) (AreIndependent-push (originals [] es) e.1.number row h.independent below new);
    }

-- ---- the map

absent_step : (key : List ℤ) (e : List ℤ × Kept) (es : Entries) (b : Bool) → eq_by_cmp integral_cmp key e.0 ≡ b → e.0 ≢ key
    → lookup (eq_by_cmp integral_cmp key) es ≡ None → cond b (Some e.1) (lookup (eq_by_cmp integral_cmp key) es) ≡ None
absent_step key e es true is other h = absurd (other (sym ((integrals_decide key e.0).0 is)))
absent_step key e es false is other h = h

pub lookup-none : (key : List ℤ) (es : Entries) → NoPivot es key → lookup (eq_by_cmp integral_cmp key) es ≡ None
lookup-none key [] h = refl
lookup-none key (e ∷ es) h = absent_step key e es (eq_by_cmp integral_cmp key e.0) refl h.0 (lookup-none key es h.1)

-- ---- the first term of what is left

pub record IsFirstTerm (f : IntegralSum) (t : List ℤ × ℕ) : Type 0 where
  pub lead : IsLead integral_cmp f t.0
  pub value : t.1 ≡ coefficient_by integral_cmp f t.0
  pub not_zero : t.1 ≢ 0

pub IsFirstTerm-at : (f : IntegralSum) (t : List ℤ × ℕ) → IsCanonical integral_cmp f → Some t ≡ slice_get f 0 → IsFirstTerm f t
IsFirstTerm-at [] t h e = absurd (let clash : ◌≡◌ {A = Option (List ℤ × ℕ)} (Some t) None = e in cc)
IsFirstTerm-at (x ∷ f) t h e =
    let one : x ≡ t = cc in
    subst (IsFirstTerm (x ∷ f)) one
    (record {
      lead = IsLead-canonical integral_cmp integral_cmp_total same_integrals x f h;
      value = sym (coefficient-at_place integral_cmp integral_cmp_total same_integrals (x ∷ f) 0 x h (omega arith));
      not_zero = λ none. omega (arith, h.0, none);
    })

pub no_pivot_lead : (es : Entries) (f : IntegralSum) (t : List ℤ × ℕ) → Some t ≡ slice_get f 0 → IfSome (slice_get f 0) (λ term. NoPivot es term.0) → NoPivot es t.0
no_pivot_lead es f t is h = subst (λ o. IfSome o (λ term. NoPivot es term.0)) (sym is) h

pub inverse_there : (inverse : Option ℕ) (value : ℕ) → (IsNone inverse → value ≡ 0) → value ≢ 0 → IsSome inverse
inverse_there None value none not_zero = absurd (not_zero (none refl))
inverse_there (Some i) value none not_zero = refl

pub inverse_is : (inverse : Option ℕ) (i value coefficient : ℕ) → IfSome inverse (λ r. mul_mod value r ≡ 1) → inverse ≡ Some i → value ≡ coefficient → (i * coefficient) % 2147483647 ≡ 1
inverse_is inverse i value coefficient h is value_is =
    let one : mul_mod value i ≡ 1 = subst (λ (o : Option ℕ). IfSome o (λ r. mul_mod value r ≡ 1)) is h in
    omega (arith, one, ap (λ n. i * n) value_is)

-- ---- the row that is kept

-- what is left of a row by its leads, with the first term
pub record IsLeft (es : Entries) (row : IntegralSum) (t : List ℤ × ℕ) (rest : IntegralSum) (steps : FormalSum ℕ) : Type 0 where
  pub sum : SameRow row (rest ++ combination (row_at (reduced_rows es)) steps)
  pub places : AllKeys (λ i. i < length es) steps
  pub canonical : IsCanonical integral_cmp rest
  pub first : IsFirstTerm rest t
  pub apart : NoPivot es t.0

pub IsLeft-copy : (es : Entries) (row : IntegralSum) (t : List ℤ × ℕ) (rest rest' : IntegralSum) (steps steps' : FormalSum ℕ) → rest' ≡ rest → steps' ≡ steps
    → IsLeft es row t rest steps → IsLeft es row t rest' steps'
IsLeft-copy es row t rest rest' steps steps' rest_is steps_are h =
    subst (IsLeft es row t rest') (sym steps_are) (subst (λ (f : IntegralSum). IsLeft es row t f steps) (sym rest_is) h)

-- the row is not in the span, and with what is left of it the entries are an echelon of one row more
pub record Joins (es : Entries) (row : IntegralSum) (e : List ℤ × Kept) : Type 0 where
  pub echelon : IsEchelon (es ++ e ∷ [])
  pub new : ¬ (InKeptSpan (originals [] es) row)
  pub kept_is : originals [] (es ++ e ∷ []) ≡ originals [] es ++ (e.1.number, row) ∷ []

pub Joins-left : (es : Entries) (row : IntegralSum) (t : List ℤ × ℕ) (kept : Kept) (inverse : Option ℕ) → IsEchelon es → IsBelow (originals [] es) kept.number → kept.number < 2 ^ 32 → IsCanonical integral_cmp row
    → IsLeft es row t kept.reduced kept.steps.items → IfSome inverse (λ r. mul_mod t.1 r ≡ 1) → inverse ≡ Some kept.inverse → Joins es row (t.0, kept)
Joins-left es row t kept inverse h below bound canonical left inverts is =
    let new = not_in_span es row kept.reduced kept.steps.items t.0 h left.sum left.places left.apart left.first.lead in
    let joins : MayJoin es (t.0, kept) = record {
      lead = left.first.lead;
      canonical = left.canonical;
      inverse = inverse_is inverse kept.inverse t.1 _ inverts is left.first.value;
      steps = left.places;
      apart = left.apart;
    } in
    record {
      echelon = IsEchelon-push es (t.0, kept) row h joins below bound canonical left.sum new;
      new = new;
      kept_is = originals-joined es (t.0, kept) row canonical left.sum;
    }

-- what is kept of a row that is inserted
pub Joins-inserted : (es : Entries) (row : IntegralSum) (number : ℕ) (t : List ℤ × ℕ) (rest : IntegralSum) (steps : FormalSum ℕ) (kept : Kept) (inverse : Option ℕ) → IsEchelon es → IsBelow (originals [] es) number
    → kept.number ≡ number → number < 2 ^ 32 → IsCanonical integral_cmp row → SameRow row (rest ++ combination (row_at (reduced_rows es)) steps) → AllKeys (λ i. i < length es) steps
    → IsCanonical integral_cmp rest → IfSome (slice_get rest 0) (λ term. NoPivot es term.0) → Some t ≡ slice_get rest 0 → kept.reduced ≡ rest → kept.steps.items ≡ steps
    → IfSome inverse (λ r. mul_mod t.1 r ≡ 1) → inverse ≡ Some kept.inverse → Joins es row (t.0, kept)
Joins-inserted es row number t rest steps kept inverse h below number_is bound row_canonical sum places canonical lead first reduced steps_are inverts is =
    Joins-left es row t kept inverse h (subst (IsBelow (originals [] es)) (sym number_is) below) (subst (λ n. n < 2 ^ 32) (sym number_is) bound) row_canonical
    (IsLeft-copy es row t rest kept.reduced steps kept.steps.items reduced steps_are
    (record { sum = sum; places = places; canonical = canonical; first = IsFirstTerm-at rest t canonical first; apart = no_pivot_lead es rest t first lead }))
    inverts is

-- ---- the numbers of kept rows and one more

pub old_number : (kept : KeptRows) (added : ℕ × IntegralSum) (j : ℕ) → IsNumber kept j → IsNumber (kept ++ added ∷ []) j
old_number [] added j h = absurd (omega (arith, h.1))
old_number (k ∷ others) added j h =
    ⊎_elim
    (λ (here : k.0 ≡ j). (0, omega arith, here))
    (λ (there : IsNumber others j). in_tail k.0 (map (λ row. row.0) (others ++ added ∷ [])) j (old_number others added j there))
    (in_cases k.0 (map (λ row. row.0) others) j h)

pub new_number : (kept : KeptRows) (added : ℕ × IntegralSum) → IsNumber (kept ++ added ∷ []) added.0
new_number [] added = (0, omega arith, refl)
new_number (k ∷ others) added = in_tail k.0 (map (λ row. row.0) (others ++ added ∷ [])) added.0 (new_number others added)

-- what was spanned before is spanned with one more row
pub InKeptSpan-push : (kept : KeptRows) (added : ℕ × IntegralSum) (f : IntegralSum) → InKeptSpan kept f → InKeptSpan (kept ++ added ∷ []) f
InKeptSpan-push kept added f h = record {
  weights = h.weights;
  among = AllKeys-weaker (IsNumber kept) (IsNumber (kept ++ added ∷ [])) (old_number kept added) h.weights h.among;
  equal = SameCoefficients-trans h.equal (SameCoefficients-sym (same_combination kept added h.weights h.among));
}
