-- Numbers as keys of formal sums.
use Rattle.std.proofs.Common.{◌≡◌, ℕ, ◌<◌, refl}
use Rattle.std.specs.Ordering.{eq_by_cmp, nat_cmp}
use Rattle.std.specs.declared.cmp.Ordering.TheVariants.{Greater}
use Rattle.std.specs.Bool.{Decides}
use Rattle.std.specs.Cmp.{nat_cmp_total}
use Rattle.std.proofs.lemmas.Cmp.{ranked, by_ranked}
use Rattle.std.specs.FinMap.{nat_cmp-IsAntisymmetric}
use Rattle.ibp_algebra.proofs.Members.{order_decides}

pub greater_is : (m n : ℕ) → nat_cmp m n ≡ Greater → n < m
greater_is m n h = by_ranked (m < n) (m ≡ n) (n < m) (nat_cmp m n) (ranked m n (nat_cmp m n) refl) (λ e _. absurd (cc)) (λ e _. absurd (cc)) (λ _ above. above)

pub nat_decides : (a b : ℕ) → Decides (eq_by_cmp nat_cmp a b) (a ≡ b)
nat_decides = order_decides nat_cmp nat_cmp_total nat_cmp-IsAntisymmetric
