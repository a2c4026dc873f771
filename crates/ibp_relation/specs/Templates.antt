-- Templates: the identity of a field at a general seed, as affine terms. Such a term has an offset, which is added to the
-- powers of the seed, and as coefficient a constant plus a slope times the seed's power at one place, counted from 0.
--     term c z^m of a_i     c*m_i - c*α_i at the offset e_i - m
--     term c z^m of b       γ*c at the offset -m
-- After the divergence of a field times the integrand, in the Baikov representation. It is affine in the powers of the
-- seed.
use Rattle.std.specs.Prelude.{◌≡◌, ℕ, suc, ◌+◌, ◌*◌, ◌<◌, ℤ, pos, neg_ℤ, ◌≤ℤ◌, Bool, List, [], ◌∷◌, ◌++◌, map, length, slice_index, slice_index_or}
use Rattle.std.specs.List.{All}
use Rattle.ibp_field.specs.Arithmetic.{int_mod, mul_mod, neg_mod}
use Rattle.ibp_algebra.specs.Polynomial.{Polynomial}
use Rattle.ibp_algebra.specs.Field.{MeetsConditions, unstripped}
use Rattle.ibp_algebra.specs.Identity.{negated, in_sector_of, IsIdentityRow}
use Rattle.ibp_algebra.specs.Laurent.{Laurent, SameLaurent, add_powers, power_at}
use Rattle.mono_order.specs.declared.limits.TheConstants.{MONO_DEGREE}
use Rattle.family.specs.Conditions.{in_sector}
use Rattle.family.specs.declared.parts.StrippedField.{StrippedField}
use Rattle.ibp_relation.specs.Shifts.{plus_unit, powers_of, shifts}
pub use Rattle.ibp_relation.specs.declared.affine.AffineTerm.{AffineTerm}

-- the affine term of a term of a_i, where i is a place
abbrev pub field_term : ℕ → ℕ → List ℕ × ℕ → AffineTerm
field_term n i term = record {
  offset = add_powers (negated (powers_of n term.0)) (plus_unit i);
  constant = mul_mod term.1 (slice_index term.0 i);
  slope = mul_mod (neg_mod 1) term.1;
  place = i;
}

-- the affine term of a term of b
abbrev pub factor_term : ℕ → ℕ → List ℕ × ℕ → AffineTerm
factor_term n γ term = record { offset = negated (powers_of n term.0); constant = mul_mod γ term.1; slope = 0; place = 0 }

abbrev pub field_terms_from : ℕ → ℕ → List Polynomial → List AffineTerm
field_terms_from n i [] = []
field_terms_from n i (a ∷ others) = map (field_term n i) a ++ field_terms_from n (suc i) others

abbrev pub affine_terms : ℕ → ℕ → List Polynomial → Polynomial → List AffineTerm
affine_terms n γ a b = field_terms_from n 0 a ++ map (factor_term n γ) b

-- what an affine term is at the seed α: an integral, by its powers, with a coefficient
abbrev pub term_at : List ℤ → AffineTerm → List ℤ × ℕ
term_at α term = (add_powers α term.offset, term.constant + term.slope * int_mod (power_at α term.place))

abbrev pub terms_at : List ℤ → List AffineTerm → Laurent
terms_at α terms = map (term_at α) terms

-- so small that a seed's powers and these add up to those of an integral
abbrev pub IsOffset : List ℤ → Type 0
IsOffset offset = All (λ power. (neg_ℤ (pos MONO_DEGREE) ≤ℤ power) × (power ≤ℤ pos 1)) offset

-- the term can be taken at each seed with n powers
pub record FitsSeeds (n : ℕ) (term : AffineTerm) : Type 0 where
  pub count : length term.offset ≡ n
  pub small : IsOffset term.offset
  pub place : term.place < n

-- the term after the one at place i has its offset
pub record SharesOffset (terms : List AffineTerm) (i : ℕ) : Type 0 where
  pub within : i + 1 < length terms
  pub same : (d : AffineTerm) → (slice_index_or terms (i + 1) d).offset ≡ (slice_index_or terms i d).offset

-- at each seed with n powers the affine terms add up to the shifts of the field (a ; b)
pub record IsTemplateOf (n γ : ℕ) (a : List Polynomial) (b : Polynomial) (terms : List AffineTerm) : Type 0 where
  pub fits : All (FitsSeeds n) terms
  pub shifted : (α : List ℤ) → length α ≡ n → SameLaurent (terms_at α terms) (shifts n γ a b α)

-- they are those of the field that a stripped field of the sector of this number stands for
abbrev pub IsSectorTemplate : ℕ → ℕ → ℕ → StrippedField → List AffineTerm → Type 0
IsSectorTemplate n γ sector field terms = IsTemplateOf n γ (unstripped (in_sector sector) field.c) field.b terms

-- the row is that of the identity at α of each field that meets the two conditions there and has these affine terms
pub record IsTemplateRow (n γ : ℕ) (p : Polynomial) (terms : List AffineTerm) (α : List ℤ) (struck : List ℤ → Bool) (row : Laurent) : Type 0 where
  pub identity : (a : List Polynomial) (b : Polynomial) → length a ≡ n → MeetsConditions p (in_sector_of α) a b → IsTemplateOf n γ a b terms
      → IsIdentityRow n γ p a α struck row
