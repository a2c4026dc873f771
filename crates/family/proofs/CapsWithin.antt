-- The caps of a sector are at most the limit of caps.
use Rattle.std.proofs.Common.{◌≡◌, ℕ, ◌≤◌, Bool, true, false, cond, List, [], ◌∷◌, Option, Some, None, refl, sym, subst}
use Rattle.std.specs.List.{All, find}
use Rattle.std.specs.Option.{IfSome}
use Rattle.std.proofs.lemmas.List.Elements.{All-head, All-tail}
use Rattle.family.specs.declared.limits.TheConstants.{CAP_LIMIT}
use Rattle.family.specs.declared.parts.Bounds.{Bounds}
use Rattle.family.specs.declared.parts.SectorCaps.{SectorCaps}
use Rattle.family.specs.Caps.{entry_of, caps_or, caps_of}
use Rattle.family.specs.Limits.{BoundsWithin, CapsWithin}

IfSome-first : {X : Type 0} (P : X → Type 0) (passes : Bool) (x : X) (later : Option X) → P x → IfSome later P → IfSome (cond passes (Some x) later) P
IfSome-first P true x later here behind = here
IfSome-first P false x later here behind = behind

-- what holds of each element holds of the one that is found
IfSome-find : {X : Type 0} (P : X → Type 0) (test : X → Bool) (xs : List X) → All P xs → IfSome (find test xs) P
IfSome-find P test [] each = tt
IfSome-find P test (x ∷ xs) each =
    IfSome-first P (test x) x (find test xs) (All-head P x xs each) (IfSome-find P test xs (All-tail P x xs each))

pub entry_within : (n : ℕ) (caps : List SectorCaps) (sector : ℕ) (entry : Option SectorCaps) → entry ≡ entry_of caps sector → All (CapsWithin n) caps → IfSome entry (CapsWithin n)
entry_within n caps sector entry is each = subst (λ o. IfSome o (CapsWithin n)) (sym is) (IfSome-find (CapsWithin n) _ caps each)

either_within : (n : ℕ) (bounds : Bounds) (entry : Option SectorCaps) → BoundsWithin bounds → IfSome entry (CapsWithin n) → ((caps_or bounds entry).0 ≤ CAP_LIMIT) × ((caps_or bounds entry).1 ≤ CAP_LIMIT)
either_within n bounds None general own = (general.dots_cap, general.rank_cap)
either_within n bounds (Some entry) general own = (own.dots, own.rank)

pub caps_of-within : (n : ℕ) (bounds : Bounds) (caps : List SectorCaps) (sector : ℕ) → BoundsWithin bounds → All (CapsWithin n) caps → ((caps_of bounds caps sector).0 ≤ CAP_LIMIT) × ((caps_of bounds caps sector).1 ≤ CAP_LIMIT)
caps_of-within n bounds caps sector general each = either_within n bounds (entry_of caps sector) general (entry_within n caps sector _ refl each)
