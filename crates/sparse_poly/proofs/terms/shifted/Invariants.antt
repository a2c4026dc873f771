use Rattle.std.proofs.Common.{◌≡◌, take}
use Rattle.ibp_algebra.specs.FormalSum.{AllKeys, map_keys}
use Rattle.ibp_algebra.specs.Exponents.{add_exponents}
use Rattle.mono_order.specs.Monomial.{IsMonomial}
use Rattle.sparse_poly.proofs.terms.shifted.Given as goal

abbrev pub invariant-loop-other : goal.invariant-loop-other
invariant-loop-other l =
    record {
      moved : l.moved.items ≡ map_keys (add_exponents l.monomial) (take l.other-index l.terms);
      kept : AllKeys (λ k. IsMonomial l.monomial × IsMonomial k) (take l.other-index l.terms);
    }
