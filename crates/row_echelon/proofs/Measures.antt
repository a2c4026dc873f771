-- How many kept rows have a lead that is not above a key: what an elimination counts down.
use Rattle.std.proofs.Common.{◌≡◌, ◌≢◌, inl, inr, ℕ, ◌+◌, ◌<◌, ◌≤◌, if◌then◌else◌, List, [], ◌∷◌, sym, refl, ap, subst, ◌∙◌, arith}
use Rattle.std.specs.Prelude.{ℤ}
use Rattle.std.specs.Ordering.{is_gt}
use Rattle.std.specs.declared.cmp.Ordering.{Ordering}
use Rattle.std.specs.declared.cmp.Ordering.TheVariants.{Less, Equal, Greater}
use Rattle.sector_lattice.specs.Sectors.{integral_cmp}
use Rattle.sector_lattice.specs.Orders.{integral_cmp_total, same_integrals}
use Rattle.ibp_algebra.specs.FormalSum.{AllBelow}
use Rattle.ibp_algebra.proofs.Canonical.{Greater-trans, Less-reverse}
use Rattle.sparse_rows.specs.Rows.{IntegralSum}
use Rattle.row_echelon.specs.KeptRows.{Entries}
use Rattle.row_echelon.proofs.Pivots.{IsPivot}

abbrev pub pivots_up_to : Entries → List ℤ → ℕ
pivots_up_to [] key = 0
pivots_up_to (entry ∷ entries) key = (if is_gt (integral_cmp entry.0 key) then 0 else 1) + pivots_up_to entries key

-- the pivots at or below the first term
abbrev pub pivots_left : Entries → IntegralSum → ℕ
pivots_left entries [] = 0
pivots_left entries (t ∷ f) = pivots_up_to entries t.0

at_most_one : (r : Ordering) → (if is_gt r then 0 else 1) ≤ 1
at_most_one Less = omega arith
at_most_one Equal = omega arith
at_most_one Greater = omega arith

-- an entry counts no less for a higher key
one_more : (lead low high : List ℤ) (r s : Ordering) → integral_cmp lead low ≡ r → integral_cmp lead high ≡ s → integral_cmp high low ≡ Greater
    → (if is_gt r then 0 else 1) ≤ (if is_gt s then 0 else 1)
one_more lead low high r Less e d above = at_most_one r
one_more lead low high r Equal e d above = at_most_one r
one_more lead low high r Greater e d above =
    let is : r ≡ Greater = sym e ∙ Greater-trans integral_cmp integral_cmp_total lead high low d above in
    rw is (omega arith)

up_to_grows : (es : Entries) (low high : List ℤ) → integral_cmp high low ≡ Greater → pivots_up_to es low ≤ pivots_up_to es high
up_to_grows [] low high above = omega arith
up_to_grows (e ∷ es) low high above =
    omega (arith, one_more e.0 low high _ _ refl refl above, up_to_grows es low high above)

counts_for : (high lead : List ℤ) (r : Ordering) → integral_cmp lead high ≡ r → integral_cmp high lead ≢ Less → ◌≡◌ {A = ℕ} (if is_gt r then 0 else 1) 1
counts_for high lead Less e h = refl
counts_for high lead Equal e h = refl
counts_for high lead Greater e h = absurd (h (Less-reverse integral_cmp integral_cmp_total lead high e))

-- and more where a lead lies between the two
up_to_more : (es : Entries) (low lead high : List ℤ) → IsPivot es lead → integral_cmp lead low ≡ Greater → integral_cmp high lead ≢ Less → integral_cmp high low ≡ Greater
    → pivots_up_to es low < pivots_up_to es high
up_to_more [] low lead high p below within above = absurd p
up_to_more (e ∷ es) low lead high (inl here) below within above =
    let first : integral_cmp e.0 low ≡ Greater = subst (λ k. integral_cmp k low ≡ Greater) (sym here) below in
    let counts = counts_for high e.0 _ refl (subst (λ k. integral_cmp high k ≢ Less) (sym here) within) in
    let none : ◌≡◌ {A = ℕ} (if is_gt (integral_cmp e.0 low) then 0 else 1) 0 = ap (λ r. if is_gt r then 0 else 1) first in
    omega (arith, counts, none, up_to_grows es low high above)
up_to_more (e ∷ es) low lead high (inr later) below within above =
    omega (arith, one_more e.0 low high _ _ refl refl above, up_to_more es low lead high later below within above)

pivot_counts : (es : Entries) (lead high : List ℤ) → IsPivot es lead → integral_cmp high lead ≢ Less → 0 < pivots_up_to es high
pivot_counts [] lead high p within = absurd p
pivot_counts (e ∷ es) lead high (inl here) within =
    omega (arith, counts_for high e.0 _ refl (subst (λ k. integral_cmp high k ≢ Less) (sym here) within))
pivot_counts (e ∷ es) lead high (inr later) within = omega (arith, pivot_counts es lead high later within)

above_low : (high lead low : List ℤ) (r : Ordering) → integral_cmp high lead ≡ r → r ≢ Less → integral_cmp lead low ≡ Greater → integral_cmp high low ≡ Greater
above_low high lead low Less e h below = absurd (h refl)
above_low high lead low Equal e h below = subst (λ k. integral_cmp k low ≡ Greater) (sym (same_integrals high lead e)) below
above_low high lead low Greater e h below = Greater-trans integral_cmp integral_cmp_total high lead low e below

-- once the terms from a lead on are gone, fewer pivots are left
pub pivots_fall : (es : Entries) (f : IntegralSum) (high lead : List ℤ) → IsPivot es lead → integral_cmp high lead ≢ Less → AllBelow integral_cmp lead f
    → pivots_left es f < pivots_up_to es high
pivots_fall es [] high lead p within below = pivot_counts es lead high p within
pivots_fall es (t ∷ f) high lead p within below =
    up_to_more es t.0 lead high p below.0 within (above_low high lead t.0 _ refl within below.0)
