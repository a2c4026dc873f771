-- How many sectors are done.
use Rattle.std.proofs.Common.{◌≡◌, inl, inr, ℕ, suc, ◌<◌, ◌≤◌, Bool, true, false, eqb, List, [], ◌∷◌, length, refl, sym, ap, ◌∙◌, subst, arith}
use Rattle.std.specs.Prelude.{Contains}
use Rattle.std.specs.List.{IsDistinct, AllByRecursion}
use Rattle.std.specs.Bool.{Decides}
use Rattle.std.specs.Cmp.{Equal-is, tied_itself}
use Rattle.std.specs.Ordering.{eq_by_cmp}
use Rattle.std.specs.declared.cmp.Ordering.TheVariants.{Less}
use Rattle.std.specs.List.Sorted.{IsStrictlySortedBy}
use Rattle.std.proofs.lemmas.Bool.{eqb-true, ne_eqb}
use Rattle.std.proofs.lemmas.Map.Keys.{sorted_head, sorted_tail, IsDistinct-from_sorted}
use Rattle.std.proofs.lemmas.Cmp.{eq_by_cmp_equiv}
use Rattle.std.proofs.lemmas.Map.Made.{length-le_from_is_member, is_member-Decides}
use Rattle.std.proofs.lemmas.Map.Steps.{length-le_from_distinct_below}
use Rattle.std.proofs.lemmas.Map.Views.{Contains-from_any}
use Rattle.sector_lattice.specs.Sectors.{sector_cmp}
use Rattle.sector_lattice.specs.Orders.{sector_cmp_total, same_sectors}
use Rattle.relay_core.specs.Family.{Adds}
use Rattle.relay_core.proofs.Adding.{from_each, one_of}
use Rattle.ibp_base.proofs.Members.{in_cases, in_head, in_tail}
use Rattle.ibp_base.proofs.Ascending.{not_below_itself}

differ : (x : ℕ) (xs : List ℕ) → AllByRecursion (λ y. sector_cmp x y ≡ Less) xs → AllByRecursion (λ y. eqb x y ≡ false) xs
differ x [] h = tt
differ x (y ∷ ys) h = (ne_eqb x y (not_below_itself sector_cmp sector_cmp_total x y h.0), differ x ys h.1)

distinct : (xs : List ℕ) → IsStrictlySortedBy sector_cmp xs → IsDistinct eqb xs
unfolding IsDistinct
distinct [] up = tt
distinct (x ∷ xs) up = (differ x xs (sorted_head sector_cmp x xs up), distinct xs (sorted_tail sector_cmp x xs up))

-- sectors in their order, all below a number, are at most so many
pub number_below : (xs : List ℕ) (bound : ℕ) → IsStrictlySortedBy sector_cmp xs → ((x : ℕ) → Contains xs x → x < bound) → length xs ≤ bound
number_below xs bound up below = length-le_from_distinct_below xs bound (distinct xs up) (λ x found. below x (Contains-from_any eqb-true x xs found))

sectors_decide : (a b : ℕ) → Decides (eq_by_cmp sector_cmp a b) (a ≡ b)
sectors_decide a b =
    (λ e. same_sectors a b ((Equal-is (sector_cmp a b)).0 e), λ e. (Equal-is (sector_cmp a b)).1 (ap (sector_cmp a) (sym e) ∙ tied_itself sector_cmp_total a))

at_most : (xs ys : List ℕ) → IsDistinct (eq_by_cmp sector_cmp) xs → ((x : ℕ) → Contains xs x → Contains ys x) → length xs ≤ length ys
at_most xs ys apart within =
    length-le_from_is_member (eq_by_cmp_equiv sector_cmp_total) xs ys apart
    (λ x found. (is_member-Decides sectors_decide ys x).1 (within x ((is_member-Decides sectors_decide xs x).0 found)))

not_true : (b : Bool) → (b ≡ true → ⊥) → b ≡ false
not_true true h = absurd (h refl)
not_true false h = refl

apart_from : (x : ℕ) (xs : List ℕ) → IsDistinct (eq_by_cmp sector_cmp) xs → (Contains xs x → ⊥) → IsDistinct (eq_by_cmp sector_cmp) (x ∷ xs)
unfolding IsDistinct
apart_from x xs apart none = (
  from_each (λ y. eq_by_cmp sector_cmp x y ≡ false) xs (λ y inside. not_true (eq_by_cmp sector_cmp x y) (λ e. none (subst (λ z. Contains xs z) (sym ((sectors_decide x y).0 e)) inside))),
  apart,
)

-- one sector more is done
pub one_more : (old new : List ℕ) (x : ℕ) → IsStrictlySortedBy sector_cmp old → Adds sector_cmp old (x ∷ []) new → (Contains old x → ⊥) → length new ≡ suc (length old)
one_more old new x up adds none =
    let below : length new ≤ suc (length old) = at_most new (x ∷ old) (IsDistinct-from_sorted sector_cmp new adds.ascends)
    (λ y inside. elim ((adds.members y).0 inside) [ inl before ↦ in_tail x old y before | inr added ↦ in_head x old y (one_of x y added) ]) in
    let above : suc (length old) ≤ length new = at_most (x ∷ old) new (apart_from x old (IsDistinct-from_sorted sector_cmp old up) none)
    (λ y inside. elim (in_cases x old y inside) [ inl same ↦ (adds.members y).1 (inr (in_head x [] y same)) | inr before ↦ (adds.members y).1 (inl before) ]) in
    omega arith
