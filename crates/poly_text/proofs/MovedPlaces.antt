-- Values do not rest on places: with each place mapped, a value is the same, or its fault with its place mapped.
use Rattle.std.proofs.Common.{◌≡◌, ℕ, zero, suc, ◌+◌, Bool, true, false, cond, not, ◌&&◌, refl, ap, ◌∙◌}
use Rattle.std.specs.Prelude.{Ok, Err, nat_lt, length}
use Rattle.ibp_field.specs.Arithmetic.{inverse_mod}
use Rattle.ibp_algebra.specs.FormalSum.{scale, normal_form}
use Rattle.ibp_algebra.specs.Exponents.{deg_rev_lex}
use Rattle.ibp_algebra.specs.Polynomial.{Polynomial, multiply, degree_of}
use Rattle.poly_text.specs.declared.fault.TextFault.{TextFault}
use Rattle.sparse_poly.specs.declared.limits.TheConstants.{DEGREE_LIMIT, TERM_LIMIT}
use Rattle.poly_text.specs.Token.{Token}
use Rattle.poly_text.specs.Value.{constant_term, is_zero, within_terms, sum_of, difference_of, product_of, quotient_of, then_value, both_values, power_of}
use Rattle.poly_text.specs.Reading.{Operand}

module _ (move : ℕ → ℕ) where
  abbrev pub moved_fault : TextFault → TextFault
  moved_fault (TextFault.Syntax at) = TextFault.Syntax (move at)
  moved_fault (TextFault.UnknownName at) = TextFault.UnknownName (move at)
  moved_fault (TextFault.NumberOver at) = TextFault.NumberOver (move at)
  moved_fault (TextFault.PowerOver at) = TextFault.PowerOver (move at)
  moved_fault (TextFault.DepthOver at) = TextFault.DepthOver (move at)
  moved_fault (TextFault.ZeroDivisor at) = TextFault.ZeroDivisor (move at)
  moved_fault (TextFault.NotConstant at) = TextFault.NotConstant (move at)
  moved_fault (TextFault.DegreeOver at) = TextFault.DegreeOver (move at)
  moved_fault (TextFault.TermsOver at) = TextFault.TermsOver (move at)
  moved_fault TextFault.NoMemory = TextFault.NoMemory

  abbrev pub moved : Operand → Operand
  moved (Ok p) = Ok p
  moved (Err fault) = Err (moved_fault fault)

  abbrev pub token_moved : Token × ℕ → Token × ℕ
  token_moved token = (token.0, move token.1)

  moved_if : (b : Bool) (r s other_r other_s : Operand) → other_r ≡ moved r → other_s ≡ moved s → cond b other_r other_s ≡ moved (cond b r s)
  moved_if true r s other_r other_s e k = e
  moved_if false r s other_r other_s e k = k

  pub then_moved : (r : Operand) (go there : Polynomial → Operand) → ((p : Polynomial) → there p ≡ moved (go p)) → then_value (moved r) there ≡ moved (then_value r go)
  then_moved (Ok p) go there each = each p
  then_moved (Err fault) go there each = refl

  pub both_moved : (r s : Operand) (go there : Polynomial → Polynomial → Operand) → ((p q : Polynomial) → there p q ≡ moved (go p q))
      → both_values there (moved r) (moved s) ≡ moved (both_values go r s)
  both_moved r s go there each =
      then_moved r (λ p. then_value s (go p)) (λ p. then_value (moved s) (there p)) (λ p. then_moved s (go p) (there p) (each p))

  within_moved : (at : ℕ) (p : Polynomial) → within_terms (move at) p ≡ moved (within_terms at p)
  within_moved at p = moved_if (nat_lt TERM_LIMIT (length p)) (Err (TextFault.TermsOver at)) (Ok p) _ _ refl refl

  pub sum_moved : (at : ℕ) (p q : Polynomial) → sum_of (move at) p q ≡ moved (sum_of at p q)
  sum_moved at p q = within_moved at _

  pub difference_moved : (at : ℕ) (p q : Polynomial) → difference_of (move at) p q ≡ moved (difference_of at p q)
  difference_moved at p q = within_moved at _

  pub product_moved : (at : ℕ) (p q : Polynomial) → product_of (move at) p q ≡ moved (product_of at p q)
  product_moved at p q =
      moved_if (not (is_zero p) && not (is_zero q) && nat_lt DEGREE_LIMIT (degree_of p + degree_of q)) (Err (TextFault.DegreeOver at)) (within_terms at (normal_form deg_rev_lex (multiply p q))) _ _ refl (within_moved at _)

  pub quotient_moved : (at : ℕ) (p q : Polynomial) → quotient_of (move at) p q ≡ moved (quotient_of at p q)
  quotient_moved at p q =
      let quotient : Operand = Ok (normal_form deg_rev_lex (scale (inverse_mod (constant_term q)) p)) in
      moved_if (nat_lt 0 (degree_of q)) (Err (TextFault.NotConstant at)) (cond (is_zero q) (Err (TextFault.ZeroDivisor at)) quotient) _ _ refl
      (moved_if (is_zero q) (Err (TextFault.ZeroDivisor at)) quotient _ _ refl refl)

  pub power_moved : (at : ℕ) (p : Polynomial) (k : ℕ) → power_of (move at) p k ≡ moved (power_of at p k)
  power_moved at p zero = refl
  power_moved at p (suc k) =
      ap (λ (r : Operand). then_value r (λ h. product_of (move at) h p)) (power_moved at p k)
      ∙ then_moved (power_of at p k) (λ h. product_of at h p) (λ h. product_of (move at) h p) (λ h. product_moved at h p)

  -- what the mapped answer tells of the answer
  pub moved_value : (given : Operand) (p : Polynomial) → moved given ≡ Ok p → given ≡ Ok p
  moved_value (Ok q) p e = e
  moved_value (Err fault) p e = absurd (cc)

  pub from_moved_fault : (given : Operand) (fault : TextFault) → moved given ≡ Err fault → (first : TextFault) × (given ≡ Err first)
  from_moved_fault (Ok q) fault e = absurd (cc)
  from_moved_fault (Err first) fault e = (first, refl)

-- with each place at itself nothing changes
pub unmoved : (given : Operand) → moved (λ at. at) given ≡ given
unmoved (Ok p) = refl
unmoved (Err (TextFault.Syntax at)) = refl
unmoved (Err (TextFault.UnknownName at)) = refl
unmoved (Err (TextFault.NumberOver at)) = refl
unmoved (Err (TextFault.PowerOver at)) = refl
unmoved (Err (TextFault.DepthOver at)) = refl
unmoved (Err (TextFault.ZeroDivisor at)) = refl
unmoved (Err (TextFault.NotConstant at)) = refl
unmoved (Err (TextFault.DegreeOver at)) = refl
unmoved (Err (TextFault.TermsOver at)) = refl
unmoved (Err TextFault.NoMemory) = refl
