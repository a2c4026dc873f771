-- The order in which the run of a sector takes its pairs.
--     degrees_from degree inside i n     the degrees of the components of n variables from place i on, and of that of P
--     component_degrees p n inside       those of all components: component 0 has degree 0; component i has deg P - 1, and one
--                                        more where the fields are stripped of z_i; component n + 1 has deg P. With these the
--                                        vector of a field whose parts are homogeneous has one degree throughout
--     pair_order selection degrees       by terms, or by these degrees
-- Source: degrees of the generators of a graded free module, as in Using Algebraic Geometry of Cox, Little and O'Shea.
use Rattle.std.specs.Prelude.{ℕ, zero, suc, ◌+◌, ◌-◌, Bool, if◌then◌else◌, List, [], ◌∷◌}
use Rattle.ibp_algebra.specs.Polynomial.{Polynomial, degree_of}
use Rattle.pair_queue.specs.declared.order.PairOrder.{PairOrder}
use Rattle.pair_queue.specs.declared.order.PairOrder.TheVariants.{Terms, Degrees}
use Rattle.family.specs.declared.parts.Selection.{Selection}
use Rattle.family.specs.declared.parts.Selection.TheVariants.{Order, Degree}

-- places are counted from 0
abbrev pub degrees_from : ℕ → (ℕ → Bool) → ℕ → ℕ → List ℕ
degrees_from degree inside i zero = degree ∷ []
degrees_from degree inside i (suc n) = (degree - 1 + (if inside i then 1 else 0)) ∷ degrees_from degree inside (suc i) n

abbrev pub component_degrees : Polynomial → ℕ → (ℕ → Bool) → List ℕ
component_degrees p n inside = 0 ∷ degrees_from (degree_of p) inside 0 n

abbrev pub pair_order : Selection → List ℕ → PairOrder
pair_order Order degrees = Terms
pair_order Degree degrees = Degrees degrees
