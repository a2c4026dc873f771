-- The fields that vectors stand for.
-- Notation alone: a field is a vector of a free module of rank n + 1.
--     IsFieldOf degree n v field     c_i is component i of v, and b is component n + 1, each in canonical form and of at
--                                    most this degree
use Rattle.std.specs.Prelude.{◌≡◌, ℕ, ◌+◌, ◌<◌, ◌≤◌, sum, length, slice_index_or, []}
use Rattle.ibp_algebra.specs.FormalSum.{AllKeys, IsCanonical}
use Rattle.ibp_algebra.specs.Exponents.{deg_rev_lex}
use Rattle.ibp_algebra.specs.Polynomial.{Polynomial, SamePolynomial}
use Rattle.module_vec.specs.ModuleVector.{ModuleVector, component_of}
use Rattle.family.specs.declared.parts.StrippedField.{StrippedField}

pub record IsComponentOf (degree i : ℕ) (v : ModuleVector) (f : Polynomial) : Type 0 where
  pub same : SamePolynomial f (component_of i v)
  pub canonical : IsCanonical deg_rev_lex f
  pub within : AllKeys (λ m. sum m ≤ degree) f

pub record IsFieldOf (degree n : ℕ) (v : ModuleVector) (field : StrippedField) : Type 0 where
  pub count : length field.c ≡ n
  pub polynomials : (i : ℕ) → i < n → IsComponentOf degree (1 + i) v (slice_index_or field.c i [])
  pub factor : IsComponentOf degree (1 + n) v field.b
