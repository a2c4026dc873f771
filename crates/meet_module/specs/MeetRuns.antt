-- The three runs of the module intersection method, and how they end. The fields that are tangent to P alone, which are
-- those of sector 0, are found once; those of a sector are the ones among them whose a_i is divisible by z_i for i in the
-- sector, and so an intersection of two modules; and without these factors they are the module of the sector.
--     TangentRunEnds p n budget end          the run of sector 0 ends so
--     doubled v                              the sum of v and of v with each component raised by FIRST_HIGH
--     divisors_from sector 0 n               z_i e_(FIRST_HIGH + i) for i in the sector, and e_(FIRST_HIGH + i) for the other i
--                                            from 1 to n + 1
--     meet_pair_order p n budget             the order of pairs that the budget selects, where a raised component has the
--                                            degree of the component itself, and no field is stripped
--     MeetRunEnds p n sector budget tangent end     the run of these ends so, where `tangent` generates the tangent module
--     IsUnstripped p n sector v              v is the vector of a field in z_1 to z_n that meets the two conditions
--     stripped sector v                      component i of v divided by z_i for i in the sector
--     StrippedRunEnds p n sector budget list end     the run of the stripped vectors of the list ends so
--     MeetEnds p n sector budget tangent end the meet's run ends so before it is done, or it is done, and the run of the
--                                            stripped reduced basis of all fields that meet the two conditions ends so
-- Source: Boehm, Georgoudis, Larsen, Schoenemann and Zhang, "Complete integration-by-parts reductions of the non-planar
-- hexagon-box via module intersections" (2018). An intersection is found by elimination, as in Using Algebraic Geometry of
-- Cox, Little and O'Shea.
use Rattle.std.specs.Prelude.{◌≡◌, ℕ, zero, suc, ◌+◌, ◌-◌, if◌then◌else◌, ◌⊎◌, ⊤, length, replicate, slice_index, slice_set, map, List, [], ◌∷◌, ◌++◌}
use Rattle.std.specs.List.{All}
use Rattle.ibp_algebra.specs.FormalSum.{AllKeys, map_keys, normal_form}
use Rattle.ibp_algebra.specs.Polynomial.{Polynomial}
use Rattle.mono_order.specs.declared.limits.TheConstants.{VARIABLES, RUN_DEGREE, FIRST_HIGH}
use Rattle.mono_order.specs.Term.{Term}
use Rattle.mono_order.specs.TermOrder.{over_position, high_block}
use Rattle.module_vec.specs.ModuleVector.{ModuleVector, SameVector}
use Rattle.pair_queue.specs.declared.order.PairOrder.{PairOrder}
use Rattle.module_basis.specs.GroebnerBasis.{IsReducedBasis}
use Rattle.module_basis.specs.PlainRun.{RunEnd, Done, PairsSpent, DegreeOver, RunsTo}
use Rattle.family.specs.declared.parts.Budget.{Budget}
use Rattle.family.specs.declared.parts.Field.{Field}
use Rattle.family.specs.declared.parts.StrippedField.{StrippedField}
use Rattle.family.specs.Shapes.{HasVariables}
use Rattle.family.specs.Conditions.{in_sector, MeetsTwoConditions}
use Rattle.sector_module.specs.Factors.{unit_vector, sector_pair_order, SectorRunEnds}
use Rattle.sector_module.specs.PairOrders.{component_degrees, pair_order}
use Rattle.sector_module.specs.SectorBasis.{vector_of, field_vector}

-- ---- the tangent module

abbrev pub TangentRunEnds : Polynomial → ℕ → Budget → RunEnd → Type 0
TangentRunEnds p n budget end = SectorRunEnds p n 0 budget end

-- ---- the meet

abbrev pub raised_term : Term → Term
raised_term t = (FIRST_HIGH + t.0, t.1)

abbrev pub doubled : ModuleVector → ModuleVector
doubled v = v ++ map_keys raised_term v

-- the variable at place i, counted from 0, where it is in the sector, and else 1
abbrev pub divisor_exponents : ℕ → ℕ → List ℕ
divisor_exponents sector i = if in_sector sector i then slice_set (replicate VARIABLES 0) i 1 else replicate VARIABLES 0

abbrev pub divisor : ℕ → ℕ → ModuleVector
divisor sector i = ((FIRST_HIGH + suc i, divisor_exponents sector i), 1) ∷ []

-- those from place i on, and the one of the factor b
abbrev pub divisors_from : ℕ → ℕ → ℕ → List ModuleVector
divisors_from sector i zero = unit_vector VARIABLES (FIRST_HIGH + suc i) ∷ []
divisors_from sector i (suc n) = divisor sector i ∷ divisors_from sector (suc i) n

abbrev pub meet_vectors : ℕ → ℕ → List StrippedField → List ModuleVector
meet_vectors n sector tangent = map doubled (map field_vector tangent) ++ divisors_from sector 0 n

abbrev pub meet_generators : ℕ → ℕ → List StrippedField → List ModuleVector
meet_generators n sector tangent = map (normal_form high_block) (meet_vectors n sector tangent)

-- those of the components 0 to n + 1, and again from the first high component on
abbrev pub meet_degrees : Polynomial → ℕ → List ℕ
meet_degrees p n =
    let degrees = component_degrees p n (in_sector 0) in
    degrees ++ replicate (FIRST_HIGH - (n + 2)) 0 ++ degrees

abbrev pub meet_pair_order : Polynomial → ℕ → Budget → PairOrder
meet_pair_order p n budget = pair_order budget.selection (meet_degrees p n)

abbrev pub MeetRunEnds : Polynomial → ℕ → ℕ → Budget → List StrippedField → RunEnd → Type 0
MeetRunEnds p n sector budget tangent end = RunsTo high_block (meet_pair_order p n budget) RUN_DEGREE (meet_generators n sector tangent) budget.pairs end

-- ---- the fields of the sector, before they are stripped

pub record IsUnstripped (p : Polynomial) (n sector : ℕ) (v : ModuleVector) : Type 0 where
  pub field : Field
  pub count : length field.a ≡ n
  pub polynomials : All (AllKeys (HasVariables n)) field.a
  pub factor : AllKeys (HasVariables n) field.b
  pub meets : MeetsTwoConditions p sector field
  pub same : SameVector v (vector_of 1 (field.a ++ field.b ∷ []))

-- their reduced basis under the order of low terms
abbrev pub IsUnstrippedBasis : Polynomial → ℕ → ℕ → List ModuleVector → Type 0
IsUnstrippedBasis p n sector list = IsReducedBasis over_position VARIABLES (IsUnstripped p n sector) list

-- ---- the stripped fields

abbrev pub stripped_term : ℕ → Term → Term
stripped_term sector t = (t.0, if in_sector sector (t.0 - 1) then slice_set t.1 (t.0 - 1) (slice_index t.1 (t.0 - 1) - 1) else t.1)

abbrev pub stripped : ℕ → ModuleVector → ModuleVector
stripped sector v = map_keys (stripped_term sector) v

abbrev pub stripped_generators : ℕ → List ModuleVector → List ModuleVector
stripped_generators sector list = map (normal_form over_position) (map (stripped sector) list)

abbrev pub StrippedRunEnds : Polynomial → ℕ → ℕ → Budget → List ModuleVector → RunEnd → Type 0
StrippedRunEnds p n sector budget list end = RunsTo over_position (sector_pair_order p n sector budget) RUN_DEGREE (stripped_generators sector list) budget.pairs end

-- ---- both runs

abbrev pub IsNotDone : RunEnd → Type 0
IsNotDone (Done elements taken) = ⊥
IsNotDone PairsSpent = ⊤
IsNotDone DegreeOver = ⊤

pub record IsStrippedEnd (p : Polynomial) (n sector : ℕ) (budget : Budget) (tangent : List StrippedField) (end : RunEnd) : Type 0 where
  pub elements : List ModuleVector
  pub taken : ℕ
  pub meet : MeetRunEnds p n sector budget tangent (Done elements taken)
  pub list : List ModuleVector
  pub basis : IsUnstrippedBasis p n sector list
  pub ends : StrippedRunEnds p n sector budget list end

abbrev pub MeetEnds : Polynomial → ℕ → ℕ → Budget → List StrippedField → RunEnd → Type 0
MeetEnds p n sector budget tangent end = (IsNotDone end × MeetRunEnds p n sector budget tangent end) ⊎ IsStrippedEnd p n sector budget tangent end
