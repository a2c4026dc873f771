-- The factors of a sector, the vectors that its run begins with, and how that run ends.
-- Textbook theory of syzygies: they are the members without component 0 of the module of these vectors (elimination).
--     sector_factors p n sector         f_1 to f_n and -p, whose syzygies are the stripped fields of the sector's module
--     at_component i f                  the vector f e_i
--     factor_generators variables 1 fs  the vectors f_i e_0 + e_i
--     sector_generators p n sector      those of the factors of the sector, each in canonical form
--     sector_pair_order p n sector budget      the order of pairs that the budget selects for stripped fields of the sector
--     SectorRunEnds p n sector budget   the plain run of these vectors with this budget of pairs, and with pairs in the order
--                                       that it selects, ends so
use Rattle.std.specs.Prelude.{ℕ, zero, suc, Bool, replicate, map, List, [], ◌∷◌, ◌++◌}
use Rattle.ibp_algebra.specs.FormalSum.{scale, map_keys, normal_form}
use Rattle.ibp_algebra.specs.Polynomial.{Polynomial}
use Rattle.ibp_algebra.specs.Field.{sector_factor}
use Rattle.mono_order.specs.declared.limits.TheConstants.{VARIABLES, RUN_DEGREE}
use Rattle.mono_order.specs.TermOrder.{zero_dominates}
use Rattle.module_vec.specs.ModuleVector.{ModuleVector}
use Rattle.pair_queue.specs.declared.order.PairOrder.{PairOrder}
use Rattle.module_basis.specs.PlainRun.{RunEnd, RunsTo}
use Rattle.family.specs.declared.parts.Budget.{Budget}
use Rattle.family.specs.Conditions.{in_sector}
use Rattle.sector_module.specs.PairOrders.{component_degrees, pair_order}

-- those from place i on, and places are counted from 0
abbrev pub factors_from : Polynomial → (ℕ → Bool) → ℕ → ℕ → List Polynomial
factors_from p inside i zero = scale 2147483646 p ∷ []
factors_from p inside i (suc n) = sector_factor p inside i ∷ factors_from p inside (suc i) n

abbrev pub sector_factors : Polynomial → ℕ → ℕ → List Polynomial
sector_factors p n sector = factors_from p (in_sector sector) 0 n

abbrev pub at_component : ℕ → Polynomial → ModuleVector
at_component i f = map_keys (λ m. (i, m)) f

-- the vector e_i
abbrev pub unit_vector : ℕ → ℕ → ModuleVector
unit_vector variables i = ((i, replicate variables 0), 1) ∷ []

-- f e_0 + e_i
abbrev pub factor_generator : ℕ → ℕ → Polynomial → ModuleVector
factor_generator variables i f = at_component 0 f ++ unit_vector variables i

abbrev pub factor_generators : ℕ → ℕ → List Polynomial → List ModuleVector
factor_generators variables i [] = []
factor_generators variables i (f ∷ fs) = factor_generator variables i f ∷ factor_generators variables (suc i) fs

abbrev pub sector_generators : Polynomial → ℕ → ℕ → List ModuleVector
sector_generators p n sector = map (normal_form zero_dominates) (factor_generators VARIABLES 1 (sector_factors p n sector))

abbrev pub sector_pair_order : Polynomial → ℕ → ℕ → Budget → PairOrder
sector_pair_order p n sector budget = pair_order budget.selection (component_degrees p n (in_sector sector))

abbrev pub SectorRunEnds : Polynomial → ℕ → ℕ → Budget → RunEnd → Type 0
SectorRunEnds p n sector budget end = RunsTo zero_dominates (sector_pair_order p n sector budget) RUN_DEGREE (sector_generators p n sector) budget.pairs end
