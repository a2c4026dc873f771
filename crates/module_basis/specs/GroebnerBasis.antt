-- Groebner bases of submodules.
--     HasStandardRepresentation     the multiples of two vectors that meet at the least common multiple of their
--                                   leads differ by a sum of multiples with lesser leads
--     AllPairsReduce                so it is for any two vectors of the list with leads in one component
--     IsGroebnerBasis               a list of vectors of a set, whose leads divide the lead of each vector of the
--                                   set that is not zero
--     BasisValue                    the list of a done run, with the number of pairs that were taken
--     IsLowMember, low_elements     the members without a high component;  the vectors of a list with low leads
--     IsMinimal, IsTailReduced      no lead divides another one;  the terms below the lead are reduced by the list
--     IsReducedBasis                one that ascends, is monic, and where no term of one vector is divisible by
--                                   the lead of another one
--     IsReducedLowBasis             that of the low members of each module whose Groebner basis some elements are
-- Source: Gröbner bases of submodules, reduced bases and Buchberger's criterion as in Using Algebraic Geometry of Cox, Little and O'Shea.
use Rattle.std.specs.Prelude.{◌≡◌, ◌≢◌, ℕ, ◌<◌, Bool, if◌then◌else◌, false, length, get_or, List, [], ◌∷◌}
use Rattle.std.specs.List.{All, Contains}
use Rattle.std.specs.declared.cmp.Ordering.{Ordering}
use Rattle.std.specs.declared.cmp.Ordering.TheVariants.{Less, Greater}
use Rattle.ibp_algebra.specs.FormalSum.{AllKeys, IsCanonical}
use Rattle.ibp_algebra.specs.Combination.{IsEqualBelow}
use Rattle.mono_order.specs.Term.{Term, same_term, lcm_term, divides}
use Rattle.module_vec.specs.Division.{multiple_with_lead, ReducesTo}
use Rattle.module_vec.specs.ModuleVector.{ModuleVector, lead, multiple_value, multiple_lead, IsMultipleOf, IsMonicVector, IsMember, IsLow, HasDivisor}

abbrev pub HasStandardRepresentation : (Term → Term → Ordering) → ℕ → List ModuleVector → ModuleVector → ModuleVector → Type 0
HasStandardRepresentation order variables list g h =
    let lcm = lcm_term (lead g) (lead h) in
    IsEqualBelow order same_term multiple_value multiple_lead (IsMultipleOf variables list) lcm (multiple_with_lead lcm g) (multiple_with_lead lcm h)

pub record AllPairsReduce (order : Term → Term → Ordering) (variables : ℕ) (list : List ModuleVector) : Type 0 where
  pub reduces : (g h : ModuleVector) → Contains list g → Contains list h → (lead g).0 ≡ (lead h).0 → HasStandardRepresentation order variables list g h

-- the elements of a done run, and how many pairs were taken
pub record BasisValue : Type 0 where
  pub elements : List ModuleVector
  pub taken : ℕ

abbrev pub basis_value : List ModuleVector → ℕ → BasisValue
basis_value elements taken = record { elements = elements; taken = taken }

pub record IsGroebnerBasis (order : Term → Term → Ordering) (Member : ModuleVector → Type 0) (list : List ModuleVector) : Type 0 where
  pub members : All Member list
  pub divisible : (v : ModuleVector) → IsCanonical order v → v ≢ [] → Member v → HasDivisor list (lead v)

-- the members that have no high component
abbrev pub IsLowMember : (ℕ → Bool) → (ModuleVector → Type 0) → ModuleVector → Type 0
IsLowMember high Member v = Member v × IsLow high v

-- the vectors of the list whose leads are low
abbrev pub low_elements : (ℕ → Bool) → List ModuleVector → List ModuleVector
low_elements high [] = []
low_elements high (g ∷ list) = if high (lead g).0 then low_elements high list else (g ∷ low_elements high list)

-- no lead divides another one
abbrev pub IsMinimal : List ModuleVector → Type 0
IsMinimal list = (i j : ℕ) → i < length list → j < length list → i ≢ j → divides (lead (get_or list i [])) (lead (get_or list j [])) ≡ false

-- the first term stays, and the others are reduced by the list
abbrev pub IsTailReduced : (Term → Term → Ordering) → ℕ → List ModuleVector → ModuleVector → ModuleVector → Type 0
IsTailReduced order variables list [] r = ⊥
IsTailReduced order variables list (term ∷ tail) [] = ⊥
IsTailReduced order variables list (term ∷ tail) (first ∷ rest) = (term ≡ first) × ReducesTo order variables list (λ t. order term.0 t ≡ Greater) tail rest

-- each lead is below the next
abbrev pub AscendsByLead : (Term → Term → Ordering) → List ModuleVector → Type 0
AscendsByLead order list = (i : ℕ) → i < length list → (j : ℕ) → j < i → order (lead (get_or list j [])) (lead (get_or list i [])) ≡ Less

pub record IsReducedBasis (order : Term → Term → Ordering) (variables : ℕ) (Member : ModuleVector → Type 0) (list : List ModuleVector) : Type 0 where
  pub ascends : AscendsByLead order list
  pub monic : All (IsMonicVector order variables) list
  pub basis : IsGroebnerBasis order Member list
  pub reduced : (i j : ℕ) → i < length list → j < length list → i ≢ j → AllKeys (λ t. divides (lead (get_or list i [])) t ≡ false) (get_or list j [])

-- the list is the reduced basis of the low members of each module whose Groebner basis the elements are
abbrev pub IsReducedLowBasis : (Term → Term → Ordering) → ℕ → (ℕ → Bool) → List ModuleVector → List ModuleVector → Type 0
IsReducedLowBasis order variables high elements list = (generators : List ModuleVector) → IsGroebnerBasis order (IsMember variables generators) elements
    → IsReducedBasis order variables (IsLowMember high (IsMember variables generators)) list
