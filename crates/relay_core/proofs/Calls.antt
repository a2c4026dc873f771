-- What the calls of a relay share in their proofs.
use Rattle.std.proofs.Common.{◌≡◌, ◌≢◌, ◌⊎◌, inl, inr, ℕ, ◌<◌, ◌≤◌, Bool, true, false, List, [], ◌∷◌, ◌++◌, length, take, drop, get_or, refl, sym, ◌∙◌, ap, subst, arith}
use Rattle.std.specs.Prelude.{Contains, map, insert, IsTrue, ◌↔◌, Some, None, Option, Result, Ok, Err, OnErr}
use Rattle.std.specs.List.{AllWithin}
use Rattle.std.specs.declared.cmp.Ordering.TheVariants.{Less}
use Rattle.std.specs.List.Sorted.{IsStrictlySortedBy}
use Rattle.std.proofs.lemmas.List.{map-append, take-map, length-map, get_or_default}
use Rattle.std.specs.List.{drop-map}
use Rattle.std.proofs.Math.ListN.{get_or-map}
use Rattle.std.proofs.lemmas.List.Elements.{Contains-get_or}
use Rattle.sector_lattice.specs.declared.integral.Integral.{Integral}
use Rattle.sector_lattice.specs.Sectors.{sector_cmp}
use Rattle.sector_lattice.specs.Orders.{sector_cmp_total, same_sectors}
use Rattle.relay_core.specs.declared.event.Holding.{Holding}
use Rattle.relay_core.specs.Relay.{Progress, CanBeTaken, IsNext, holder_of}
use Rattle.relay_core.specs.Family.{Adds, book}
use Rattle.relay_core.specs.State.{Relay, IsStranger}
use Rattle.relay_core.proofs.Adding.{adds_inserted}

-- what does not fit is a stranger, and what fits is none
pub is_stranger_if : {Y : Type 0} (fits same : Bool) → fits ≡ false → (IsTrue fits ↔ ((same ≡ true) × Y)) → (same ≡ false) ⊎ (Y → ⊥)
is_stranger_if fits true fails says = inr (λ y. let passed : fits ≡ true = says.1 (refl, y) in let bad : ◌≡◌ {A = Bool} false true = sym fails ∙ passed in absurd (cc))
is_stranger_if fits false fails says = inl refl

-- a piece put at its place adds its sector to those that are done
pub adds_piece : {W : Type 0} (sector : W → ℕ) (pieces : List W) (place : ℕ) (piece : W) → IsStrictlySortedBy sector_cmp (map sector pieces) → place ≤ length pieces →
    AllWithin (λ w. sector_cmp (sector w) (sector piece) ≡ Less) pieces 0 place → ((d : W) → place < length pieces → sector_cmp (sector (get_or pieces place d)) (sector piece) ≢ Less) → (Contains (map sector pieces) (sector piece) → ⊥) →
    Adds sector_cmp (map sector pieces) (sector piece ∷ []) (map sector (insert pieces place piece))
adds_piece {W} sector pieces place piece up within below here undone =
    let long : length (map sector pieces) ≡ length pieces = length-map pieces sector in
    let at : (k d : ℕ) → k < length pieces → get_or (map sector pieces) k d ≡ sector (get_or pieces k piece) = λ k d inside. get_or_default (map sector pieces) k d (sector piece) (omega arith) ∙ get_or-map sector pieces k piece in
    let is : map sector (insert pieces place piece) ≡ insert (map sector pieces) place (sector piece) =
    map-append sector (take place pieces) (piece ∷ drop place pieces)
    ∙ ap (λ xs. xs ++ sector piece ∷ map sector (drop place pieces)) (sym (take-map sector place pieces))
    ∙ ap (λ xs. take place (map sector pieces) ++ sector piece ∷ xs) (sym (drop-map sector place pieces)) in
    subst (λ xs. Adds sector_cmp (map sector pieces) (sector piece ∷ []) xs) (sym is)
    (adds_inserted sector_cmp sector_cmp_total (map sector pieces) place (sector piece) up (omega arith)
    (λ k d low high. ap (λ s. sector_cmp s (sector piece)) (at k d (omega arith)) ∙ below k piece low high)
    (λ d inside less. here piece (omega arith) (sym (ap (λ s. sector_cmp s (sector piece)) (at place d (omega arith))) ∙ less))
    (λ d inside tied. undone (subst (λ s. Contains (map sector pieces) s) (same_sectors _ _ tied) (Contains-get_or (map sector pieces) place d inside))))

-- a stranger by the book as the code has it
pub stranger_at : {P W : Type 0} (same : P → P → Bool) (plan : W → P) (sector : W → ℕ) (targets : W → List Integral) (relay : Relay P W) (piece : W) (found : List Integral) → found ≡ book (sector piece) relay.progress.books →
    (same (plan piece) relay.plan ≡ false) ⊎ (targets piece ≡ found → ⊥) → IsStranger same plan sector targets piece relay
stranger_at same plan sector targets relay piece found is (inl other) = inl other
stranger_at same plan sector targets relay piece found is (inr other) = inr (λ e. other (e ∙ sym is))

-- what fits is no stranger
pub no_stranger : {P W : Type 0} (same : P → P → Bool) (plan : W → P) (sector : W → ℕ) (targets : W → List Integral) (relay value : Relay P W) (piece : W) → relay ≡ value →
    same (plan piece) relay.plan ≡ true → targets piece ≡ book (sector piece) relay.progress.books → IsStranger same plan sector targets piece value → ⊥
no_stranger {P} {W} same plan sector targets relay value piece is own all stranger =
    elim (subst (λ (r : Relay P W). IsStranger same plan sector targets piece r) (sym is) stranger) [
      | inl other ↦ (let bad : ◌≡◌ {A = Bool} false true = sym other ∙ own in absurd (cc))
      | inr other ↦ other all
    ]

-- where a piece of the sector belongs
abbrev pub IsPlace : {W : Type 0} → (W → ℕ) → List W → ℕ → ℕ → Type 0
IsPlace {W} sector pieces place s =
    (place ≤ length pieces) × AllWithin (λ w. sector_cmp (sector w) s ≡ Less) pieces 0 place × ((d : W) → place < length pieces → sector_cmp (sector (get_or pieces place d)) s ≢ Less)

pub adds_at : {W : Type 0} (sector : W → ℕ) (pieces : List W) (place : ℕ) (piece : W) (s : ℕ) (new : List W) → sector piece ≡ s → new ≡ insert pieces place piece → IsStrictlySortedBy sector_cmp (map sector pieces) → IsPlace sector pieces place s →
    (Contains (map sector pieces) s → ⊥) → Adds sector_cmp (map sector pieces) (s ∷ []) (map sector new)
adds_at sector pieces place piece s new is made up at undone =
    let here : IsPlace sector pieces place (sector piece) = subst (λ x. IsPlace sector pieces place x) (sym is) at in
    subst (λ ps. Adds sector_cmp (map sector pieces) (s ∷ []) (map sector ps)) (sym made)
    (subst (λ x. Adds sector_cmp (map sector pieces) (x ∷ []) (map sector (insert pieces place piece))) is
    (adds_piece sector pieces place piece up here.0 here.1 here.2 (λ inside. undone (subst (λ x. Contains (map sector pieces) x) is inside))))

pub held_is_held : (sector worker : ℕ) (held : List Holding) → holder_of sector held ≡ Some worker → holder_of sector held ≢ None
held_is_held sector worker held h none = let bad : ◌≡◌ {A = Option ℕ} None (Some worker) = sym none ∙ h in absurd (cc)

-- what holds in any case holds on a refusal
pub on_err : {T E : Type 0} (r : Result T E) (P : Type 0) → P → OnErr r P
on_err (Ok x) P p = tt
on_err (Err e) P p = p

-- the sector that comes next can be taken
pub can_at : (sector : ℕ) (old new : Progress) → old ≡ new → IsNext sector old → (s : ℕ) × CanBeTaken s new
can_at sector old new is next = (sector, subst (λ p. CanBeTaken sector p) is next.can)
