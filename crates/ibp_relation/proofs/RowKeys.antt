-- The integrals of the row of an identity: they have as many powers as there are variables, and none is struck.
use Rattle.std.proofs.Common.{◌≡◌, ◌≢◌, ℕ, ◌%◌, Bool, true, false, if◌then◌else◌, List, length, refl, sym, ◌∙◌, ap}
use Rattle.std.specs.Prelude.{ℤ, neg_ℤ}
use Rattle.std.proofs.lemmas.List.{length-map}
use Rattle.std.proofs.lemmas.Bool.Decides.{same_from_decides}
use Rattle.ibp_algebra.specs.Identity.{negated, HasPowers, IsIdentityRow}
use Rattle.ibp_algebra.specs.Laurent.{Laurent, coefficient_at_power}
use Rattle.ibp_algebra.specs.Polynomial.{Polynomial}
use Rattle.ibp_algebra.proofs.Weights.{weighted_sum-ext}
use Rattle.ibp_algebra.proofs.Members.{AllKeys-counting}
use Rattle.sector_lattice.specs.Sectors.{integral_cmp}
use Rattle.sector_lattice.specs.Orders.{integral_cmp_total, same_integrals, integrals_decide}
use Rattle.sparse_rows.specs.Rows.{coefficient_of}
use Rattle.ibp_relation.proofs.LaurentLaws.{powers_decide}

-- the two tests for equal powers agree
coefficient_same : (f : Laurent) (β : List ℤ) → coefficient_of f β ≡ coefficient_at_power f β
coefficient_same f β =
    ap (λ n. n % 2147483647)
    (weighted_sum-ext _ _ (λ k. ap (λ b. if b then 1 else 0) (same_from_decides _ _ (integrals_decide k β) (powers_decide k β))) f)

module _ (n γ : ℕ) (p : Polynomial) (a : List Polynomial) (α : List ℤ) (struck : List ℤ → Bool) (row : Laurent) (h : IsIdentityRow n γ p a α struck row) where
  pub none_struck : (β : List ℤ) → struck β ≡ true → coefficient_of row β ≡ 0
  none_struck β e = coefficient_same row β ∙ h.zero β e

  occurs_powers : (β : List ℤ) → struck β ≡ false → coefficient_of row β ≢ 0 → length β ≡ n
  occurs_powers β e occurs =
      let there : coefficient_of h.identity (negated β) ≢ 0 =
      λ zero. occurs (coefficient_same row β ∙ h.kept β e ∙ sym (coefficient_same h.identity (negated β)) ∙ zero)
      in
      let long : length (negated β) ≡ n = AllKeys-counting integral_cmp integral_cmp_total same_integrals (HasPowers n) h.identity h.powers (negated β) there in
      sym (length-map β neg_ℤ) ∙ long

  pub has_powers : (β : List ℤ) → coefficient_of row β ≢ 0 → length β ≡ n
  has_powers β occurs =
      elim (struck β) as (λ b. struck β ≡ b → length β ≡ n) [
        | true ↦ λ e. absurd (occurs (none_struck β e))
        | false ↦ λ e. occurs_powers β e occurs
      ] refl
