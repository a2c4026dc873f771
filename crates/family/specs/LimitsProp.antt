-- A family keeps the limits in one way at most, as the field of a type that says so asks for.
use denote.Struct.Props.{props}
use Rattle.std.specs.Prelude.{◌≡◌, ℕ, ◌≤◌, ℤ, List, [], ◌∷◌, sum, Option}
use Rattle.std.specs.declared.cmp.Ordering.{Ordering}
use Rattle.std.specs.declared.cmp.Ordering.TheVariants.{Greater}
use Rattle.std.specs.Coded.{×_prop, Unit-prop, le_prop}
use Rattle.std.specs.Ordering.{Ordering-set}
use Rattle.std.specs.List.{IsDistinct-prop}
use Rattle.ibp_algebra.specs.FormalSum.{FormalSum, AllKeys, IsCanonical}
use Rattle.ibp_algebra.specs.Exponents.{deg_rev_lex}
use Rattle.ibp_algebra.specs.Polynomial.{Polynomial}
use Rattle.sector_lattice.specs.declared.sector.Sector.{Sector}
use Rattle.family.specs.declared.parts.Bounds.{Bounds}
use Rattle.family.specs.declared.parts.Budget.{Budget}
use Rattle.family.specs.declared.parts.Probe.{Probe}
use Rattle.family.specs.declared.parts.SectorCaps.{SectorCaps}
use Rattle.family.specs.Shapes.{HasVariables, IsPolynomial}
use Rattle.family.specs.Limits.{FamilyLimits}

AllKeys-prop : {K : Type 0} (P : K → Type 0) → ((k : K) → IsProp (P k)) → (f : FormalSum K) → IsProp (AllKeys P f)
AllKeys-prop P each [] = Unit-prop
AllKeys-prop P each (term ∷ terms) = ×_prop (each term.0) (AllKeys-prop P each terms)

canonical-prop : {K : Type 0} (order : K → K → Ordering) (f : FormalSum K) → IsProp (IsCanonical order f)
canonical-prop order [] = Unit-prop
canonical-prop order (term ∷ terms) =
    let below = AllKeys-prop (λ k. order term.0 k ≡ Greater) (λ k. Ordering-set _ _) terms in
    let others = canonical-prop order terms in
    hlevel (props, below, others)

has_variables-prop : (n : ℕ) (m : List ℕ) → IsProp (HasVariables n m)
has_variables-prop n m = hlevel props

polynomial-prop : (n degree : ℕ) (p : Polynomial) → IsProp (IsPolynomial n degree p)
polynomial-prop n degree p =
    let canonical = canonical-prop deg_rev_lex p in
    let variables = AllKeys-prop (HasVariables n) (has_variables-prop n) p in
    let within = AllKeys-prop (λ m. sum m ≤ degree) (λ m. le_prop) p in
    hlevel (props, canonical, variables, within)

pub limits-prop : (n : ℕ) (baikov : Polynomial) (targets : List (List ℤ)) (zero : List Sector) (bounds : Bounds) (caps : List SectorCaps) (symmetries : List (List ℕ)) (budget : Budget) (probe : Option Probe) → IsProp (FamilyLimits n baikov targets zero bounds caps symmetries budget probe)
limits-prop n baikov targets zero bounds caps symmetries budget probe = hlevel (props, polynomial-prop, IsDistinct-prop)
