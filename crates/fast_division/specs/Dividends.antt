-- What a division has left, in parts.
--     IsSplit order high above below rest is_dense     `above` has high terms and `below` has low ones, each greatest first; the rest is empty
--                                                      where the sum is dense, and else these two are
use Rattle.std.specs.Prelude.{◌≡◌, ℕ, Bool, true, false, [], ◌++◌}
use Rattle.std.specs.declared.cmp.Ordering.{Ordering}
use Rattle.ibp_algebra.specs.FormalSum.{AllKeys}
use Rattle.mono_order.specs.Term.{Term}
use Rattle.module_vec.specs.ModuleVector.{ModuleVector}
use Rattle.fast_division.specs.PartialSums.{IsBounded}

pub record IsSplit (order : Term → Term → Ordering) (high : ℕ → Bool) (above below rest : ModuleVector) (is_dense : Bool) : Type 0 where
  pub above_bounded : IsBounded order above
  pub below_bounded : IsBounded order below
  pub above_high : AllKeys (λ t. high t.0 ≡ true) above
  pub below_low : AllKeys (λ t. high t.0 ≡ false) below
  pub dense : is_dense ≡ true → rest ≡ []
  pub by_size : is_dense ≡ false → above ++ below ≡ []
