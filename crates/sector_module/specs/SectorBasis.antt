-- The reduced basis of the module K_S of a sector. The fields of K_S range over polynomials in z_1 to z_n: a
-- monomial has an exponent for each variable of `Monomial`, of which those from place n on are zero.
-- The module is that of the module intersection method (Boehm, Georgoudis, Larsen, Schoenemann, Zhang); reduced
-- Groebner bases of submodules of free modules are textbook theory (Buchberger).
--     vector_of first fs             the vector with these polynomials at the components from `first` on
--     field_vector field             the field as a vector in canonical form: component i is c_i, and component n + 1 is b
--     IsInVariables n field          n polynomials and a factor in the variables z_1 to z_n
--     IsSectorMember p n sector v    v is the vector of such a field that is in K_S
--     IsCanonicalField n field       n polynomials and a factor, each in canonical form
--     IsSectorBasis p n sector fields     the vectors of the fields are the reduced basis of K_S, under the order in which
--                                    the monomial decides, and at equal monomials the lower component is greater
use Rattle.std.specs.Prelude.{◌≡◌, ℕ, suc, map, length, List, [], ◌∷◌, ◌++◌}
use Rattle.std.specs.List.{All}
use Rattle.ibp_algebra.specs.FormalSum.{AllKeys, IsCanonical, normal_form}
use Rattle.ibp_algebra.specs.Exponents.{deg_rev_lex}
use Rattle.ibp_algebra.specs.Polynomial.{Polynomial}
use Rattle.mono_order.specs.declared.limits.TheConstants.{VARIABLES}
use Rattle.mono_order.specs.TermOrder.{over_position}
use Rattle.module_vec.specs.ModuleVector.{ModuleVector, SameVector}
use Rattle.module_basis.specs.GroebnerBasis.{IsReducedBasis}
use Rattle.family.specs.declared.parts.StrippedField.{StrippedField}
use Rattle.family.specs.Shapes.{HasVariables}
use Rattle.family.specs.Conditions.{IsInSectorModule}
use Rattle.sector_module.specs.Factors.{at_component}

abbrev pub vector_of : ℕ → List Polynomial → ModuleVector
vector_of first [] = []
vector_of first (f ∷ fs) = at_component first f ++ vector_of (suc first) fs

abbrev pub field_vector : StrippedField → ModuleVector
field_vector field = normal_form over_position (vector_of 1 (field.c ++ field.b ∷ []))

pub record IsInVariables (n : ℕ) (field : StrippedField) : Type 0 where
  pub count : length field.c ≡ n
  pub polynomials : All (AllKeys (HasVariables n)) field.c
  pub factor : AllKeys (HasVariables n) field.b

pub record IsSectorMember (p : Polynomial) (n sector : ℕ) (v : ModuleVector) : Type 0 where
  pub field : StrippedField
  pub shape : IsInVariables n field
  pub member : IsInSectorModule p sector field
  pub same : SameVector v (field_vector field)

pub record IsCanonicalField (n : ℕ) (field : StrippedField) : Type 0 where
  pub count : length field.c ≡ n
  pub polynomials : All (IsCanonical deg_rev_lex) field.c
  pub factor : IsCanonical deg_rev_lex field.b

pub record IsSectorBasis (p : Polynomial) (n sector : ℕ) (fields : List StrippedField) : Type 0 where
  pub canonical : All (IsCanonicalField n) fields
  pub reduced : IsReducedBasis over_position VARIABLES (IsSectorMember p n sector) (map field_vector fields)
