-- The reduced basis of the syzygies, under the order of low terms, is found by elimination in the module of the
-- vectors f_i e_0 + e_i, under the order in which component 0 dominates.
use Rattle.std.proofs.Common.{◌≡◌, ℕ, ◌<◌, ◌↔◌, length, List, [], ◌++◌}
use Rattle.std.specs.List.{AllByRecursion}
use Rattle.std.specs.Ordering.{bool_cmp, ordering_then}
use Rattle.ibp_algebra.specs.Polynomial.{Polynomial}
use Rattle.mono_order.specs.TermOrder.{over_position, zero_dominates, nothing_high, zero_high}
use Rattle.ibp_algebra.specs.FormalSum.{scale}
use Rattle.mono_order.specs.BlockOrders.{block_laws, over_position_laws}
use Rattle.module_vec.specs.ModuleVector.{ModuleVector, multiply_vector, IsMember, IsSubmodule}
use Rattle.module_vec.proofs.Submodules.{IsSubmodule-IsMember}
use Rattle.module_basis.proofs.ReducedBases.{IsSubmodule-IsLowMember}
use Rattle.module_basis.proofs.UniqueBasis.{reduced_basis_unique}
use Rattle.module_basis.specs.GroebnerBasis.{IsReducedBasis, IsLowMember}
use Rattle.module_basis.proofs.OrderChange.{IsReducedBasis-members, IsReducedBasis-order}
use Rattle.sector_module.specs.Factors.{factor_generators}
use Rattle.sector_module.proofs.Syzygies.{IsPolynomialIn, IsSyzygy}
use Rattle.sector_module.proofs.Elimination.{IsSyzygy-from_member, member_from_IsSyzygy}

module _ (variables : ℕ) (fs : List Polynomial) (polynomials : AllByRecursion (IsPolynomialIn variables) fs) (few : length fs < 255) where
  -- The syzygies are the low members of the module.
  pub syzygies_are_members : (v : ModuleVector) → IsLowMember zero_high (IsMember variables (factor_generators variables 1 fs)) v ↔ IsSyzygy variables fs v
  syzygies_are_members v = (IsSyzygy-from_member variables fs polynomials few v, member_from_IsSyzygy variables fs polynomials few v)

  pub syzygy_basis : (list : List ModuleVector) → IsReducedBasis zero_dominates variables (IsLowMember zero_high (IsMember variables (factor_generators variables 1 fs))) list
      → IsReducedBasis over_position variables (IsSyzygy variables fs) list
  syzygy_basis list h =
      let Low = IsLowMember zero_high (IsMember variables (factor_generators variables 1 fs)) in
      IsReducedBasis-members over_position variables Low (IsSyzygy variables fs) syzygies_are_members list
      (IsReducedBasis-order zero_high zero_dominates over_position (block_laws zero_high variables).total (block_laws nothing_high variables).total
      (λ s t a b. λ i. ordering_then (bool_cmp (a i) (b i)) (over_position s t)) variables Low (λ v m. m.1) list h)

  IsSubmodule-from : (Member Other : ModuleVector → Type 0) → ((v : ModuleVector) → Member v ↔ Other v) → IsSubmodule variables Member → IsSubmodule variables Other
  IsSubmodule-from Member Other same h =
      record {
        same = λ v w s m. (same w).0 (h.same v w s ((same v).1 m));
        zero = (same []).0 h.zero;
        sum = λ v w m n. (same (v ++ w)).0 (h.sum v w ((same v).1 m) ((same w).1 n));
        scaled = λ c v m. (same (scale c v)).0 (h.scaled c v ((same v).1 m));
        multiplied = λ k v p m. (same (multiply_vector k v)).0 (h.multiplied k v p ((same v).1 m));
      }

  -- The syzygies are a submodule.
  pub IsSubmodule-IsSyzygy : IsSubmodule variables (IsSyzygy variables fs)
  IsSubmodule-IsSyzygy =
      let gs = factor_generators variables 1 fs in
      IsSubmodule-from (IsLowMember zero_high (IsMember variables gs)) (IsSyzygy variables fs) syzygies_are_members
      (IsSubmodule-IsLowMember variables zero_high (IsMember variables gs) (IsSubmodule-IsMember variables gs))

  -- At most one list is their reduced basis.
  pub syzygy_basis_unique : (first second : List ModuleVector) → IsReducedBasis over_position variables (IsSyzygy variables fs) first
      → IsReducedBasis over_position variables (IsSyzygy variables fs) second → first ≡ second
  syzygy_basis_unique first second h k = reduced_basis_unique (over_position_laws variables) (IsSyzygy variables fs) IsSubmodule-IsSyzygy first second h k
