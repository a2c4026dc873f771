use Rattle.std.proofs.Common.{◌≡◌, ◌+◌, ◌++◌, take}
use Rattle.sector_module.specs.SectorBasis.{vector_of}
use Rattle.meet_module.proofs.vectors.put_field.Given as goal

abbrev pub invariant-loop-polynomial : goal.invariant-loop-polynomial
invariant-loop-polynomial l =
    record {
      terms : l.terms.items ≡ l.fn.terms.items ++ vector_of l.first (take l.polynomial-index l.c);
      number : l.component ≡ l.first + l.polynomial-index;
    }
