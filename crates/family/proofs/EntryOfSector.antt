-- The entry that is found for a sector is the one of the sector, and none is where none is listed.
use Rattle.std.proofs.Common.{◌≡◌, ◌≢◌, ℕ, ◌==◌, true, false, cond, List, [], ◌∷◌, Some, None, refl, ap, ◌∙◌, inl, inr, arith}
use Rattle.std.specs.Prelude.{Contains}
use Rattle.std.specs.List.{IsDistinct}
use Rattle.std.proofs.lemmas.Bool.Decides.{nat_tests}
use Rattle.ibp_base.proofs.Members.{in_cases, in_head, in_tail, in_none, by_recursion_each}
use Rattle.family.specs.declared.parts.Bounds.{Bounds}
use Rattle.family.specs.declared.parts.SectorCaps.{SectorCaps}
use Rattle.family.specs.Caps.{have_one_sector, entry_of, caps_or, caps_of}

is_itself : (n : ℕ) → (n == n) ≡ true
is_itself n = grind (arith, nat_tests)

is_another : (a b : ℕ) → a ≢ b → (a == b) ≡ false
is_another a b h = grind (arith, nat_tests, h)

listed_entry : (caps : List SectorCaps) (entry : SectorCaps) → IsDistinct have_one_sector caps → Contains caps entry → entry_of caps entry.sector.0 ≡ Some entry
unfolding IsDistinct
listed_entry [] entry distinct h = absurd (in_none entry h)
listed_entry (x ∷ xs) entry distinct h = elim (in_cases x xs entry h) [
  | inl same ↦ ap (λ b. cond b (Some x) (entry_of xs entry.sector.0)) (ap (λ (y : SectorCaps). y.sector.0 == entry.sector.0) same ∙ is_itself entry.sector.0) ∙ ap Some same
  | inr later ↦ ap (λ b. cond b (Some x) (entry_of xs entry.sector.0)) (by_recursion_each (λ y. have_one_sector x y ≡ false) xs entry distinct.0 later) ∙ listed_entry xs entry distinct.1 later
]

pub caps_of-listed : (bounds : Bounds) (caps : List SectorCaps) (entry : SectorCaps) → IsDistinct have_one_sector caps → Contains caps entry → caps_of bounds caps entry.sector.0 ≡ (entry.dots, entry.rank)
caps_of-listed bounds caps entry distinct h = ap (caps_or bounds) (listed_entry caps entry distinct h)

no_entry : (caps : List SectorCaps) (sector : ℕ) → ((entry : SectorCaps) → Contains caps entry → entry.sector.0 ≢ sector) → entry_of caps sector ≡ None
no_entry [] sector others = refl
no_entry (x ∷ xs) sector others =
    ap (λ b. cond b (Some x) (entry_of xs sector)) (is_another x.sector.0 sector (others x (in_head x xs x refl)))
    ∙ no_entry xs sector (λ entry h. others entry (in_tail x xs entry h))

pub caps_of-unlisted : (bounds : Bounds) (caps : List SectorCaps) (sector : ℕ) → ((entry : SectorCaps) → Contains caps entry → entry.sector.0 ≢ sector) → caps_of bounds caps sector ≡ (bounds.dots_cap, bounds.rank_cap)
caps_of-unlisted bounds caps sector others = ap (caps_or bounds) (no_entry caps sector others)
