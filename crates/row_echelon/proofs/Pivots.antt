-- The reduced rows of an echelon have distinct leads, so the lead of a member of their span is one of these.
use Rattle.std.proofs.Common.{◌≡◌, ◌⊎◌, inl, inr, ℕ, zero, suc, ◌<◌, Bool, true, false, if◌then◌else◌, List, [], ◌∷◌, length, sym, refl, subst, arith}
use Rattle.std.specs.Prelude.{ℤ}
use Rattle.std.specs.Ordering.{eq_by_cmp}
use Rattle.std.proofs.lemmas.Bool.Decides.{not_from_Decides}
use Rattle.sector_lattice.specs.Sectors.{integral_cmp}
use Rattle.sector_lattice.specs.Orders.{integral_cmp_total, same_integrals, integrals_decide}
use Rattle.ibp_algebra.specs.Spans.{row_at, InSpan, IsLead}
use Rattle.sparse_rows.specs.Rows.{IntegralSum}
use Rattle.ibp_algebra.proofs.Members.{InSpan-row, InSpan-trans}
use Rattle.ibp_algebra.proofs.Leads.{lead_of_member}
use Rattle.row_echelon.specs.declared.kept.Kept.{Kept}
use Rattle.row_echelon.specs.KeptRows.{Entries, reduced_rows, NoPivot, EchelonFrom}

-- a kept row has its lead at the key
abbrev pub IsPivot : Entries → List ℤ → Type 0
IsPivot [] key = ⊥
IsPivot (entry ∷ entries) key = (entry.0 ≡ key) ⊎ IsPivot entries key

pub not_both : (entries : Entries) (key : List ℤ) → NoPivot entries key → IsPivot entries key → ⊥
not_both [] key h p = p
not_both (e ∷ es) key h (inl here) = h.0 here
not_both (e ∷ es) key h (inr later) = not_both es key h.1 later

-- the reduced row with the lead, or the empty row
abbrev pivot : Entries → List ℤ → IntegralSum
pivot [] key = []
pivot (e ∷ es) key = if eq_by_cmp integral_cmp e.0 key then e.1.reduced else pivot es key

pivot_here : (e : List ℤ × Kept) (es : Entries) → pivot (e ∷ es) e.0 ≡ e.1.reduced
pivot_here e es = let one : eq_by_cmp integral_cmp e.0 e.0 ≡ true = (integrals_decide e.0 e.0).1 refl in rw one refl

pivot_step : (e : List ℤ × Kept) (es : Entries) (key : List ℤ) (b : Bool) → eq_by_cmp integral_cmp e.0 key ≡ b → (e.0 ≡ key → ⊥)
    → (if b then e.1.reduced else pivot es key) ≡ pivot es key
pivot_step e es key true is other = absurd (other ((integrals_decide e.0 key).0 is))
pivot_step e es key false is other = refl

pivot_later : (e : List ℤ × Kept) (es : Entries) (key : List ℤ) → NoPivot es e.0 → IsPivot es key → pivot (e ∷ es) key ≡ pivot es key
pivot_later e es key none p =
    pivot_step e es key (eq_by_cmp integral_cmp e.0 key) refl (λ here. not_both es e.0 none (subst (IsPivot es) (sym here) p))

-- each of them has the lead
lead_step : (e : List ℤ × Kept) (es : Entries) (key : List ℤ) (b : Bool) → eq_by_cmp integral_cmp e.0 key ≡ b → IsLead integral_cmp e.1.reduced e.0
    → (e.0 ≡ key) ⊎ IsPivot es key → (IsPivot es key → IsLead integral_cmp (pivot es key) key) → IsLead integral_cmp (if b then e.1.reduced else pivot es key) key
lead_step e es key true is h p later = subst (IsLead integral_cmp e.1.reduced) ((integrals_decide e.0 key).0 is) h
lead_step e es key false is h (inl here) later = absurd (not_from_Decides _ (integrals_decide e.0 key) is here)
lead_step e es key false is h (inr p) later = later p

pivot_lead : (place : ℕ) (es : Entries) → EchelonFrom place es → (key : List ℤ) → IsPivot es key → IsLead integral_cmp (pivot es key) key
pivot_lead place [] h key p = absurd p
pivot_lead place (e ∷ es) h key p = lead_step e es key (eq_by_cmp integral_cmp e.0 key) refl h.0 p (pivot_lead (suc place) es h.5 key)

-- the reduced rows are the rows with these leads
row_in_pivots : (place : ℕ) (es : Entries) → EchelonFrom place es → (i : ℕ) → i < length es → InSpan integral_cmp (pivot es) (IsPivot es) (row_at (reduced_rows es) i)
row_in_pivots place [] h i within = absurd (omega arith)
row_in_pivots place (e ∷ es) h zero within =
    subst (InSpan integral_cmp (pivot (e ∷ es)) (IsPivot (e ∷ es))) (pivot_here e es)
    (InSpan-row integral_cmp integral_cmp_total same_integrals (pivot (e ∷ es)) (IsPivot (e ∷ es)) e.0 (inl refl))
row_in_pivots place (e ∷ es) h (suc i) within =
    InSpan-trans integral_cmp integral_cmp_total same_integrals (pivot (e ∷ es)) (IsPivot (e ∷ es)) (pivot es) (IsPivot es)
    (λ k p. subst (InSpan integral_cmp (pivot (e ∷ es)) (IsPivot (e ∷ es))) (pivot_later e es k h.4 p)
    (InSpan-row integral_cmp integral_cmp_total same_integrals (pivot (e ∷ es)) (IsPivot (e ∷ es)) k (inr p)))
    (row_in_pivots (suc place) es h.5 i (omega arith))

-- the lead of a member of the span of the reduced rows is the lead of one of them
pub lead_is_pivot : (es : Entries) → EchelonFrom 0 es → (v : IntegralSum) (key : List ℤ) → InSpan integral_cmp (row_at (reduced_rows es)) (λ i. i < length es) v
    → IsLead integral_cmp v key → IsPivot es key
lead_is_pivot es h v key member lead =
    lead_of_member integral_cmp integral_cmp_total same_integrals (pivot es) (IsPivot es) (pivot_lead 0 es h) v key
    (InSpan-trans integral_cmp integral_cmp_total same_integrals (pivot es) (IsPivot es) (row_at (reduced_rows es)) (λ i. i < length es) (row_in_pivots 0 es h) member) lead
