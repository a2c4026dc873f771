use Rattle.std.proofs.Common.{◌≡◌, ◌+◌, ◌++◌, ◌∷◌, [], Ok, Err, arith}
use Rattle.std.specs.Prelude.{OnOk}
use Rattle.sector_module.specs.Factors.{at_component}
use Rattle.sector_module.specs.SectorBasis.{vector_of}
use Rattle.meet_module.proofs.VectorLists.{field_more, field_whole}
use Rattle.meet_module.proofs.vectors.put_field.Goals as goal

pub loop-polynomial-preserved : goal.loop-polynomial-preserved
loop-polynomial-preserved c =
    record {
      terms = field_more c.args.first c.loop-polynomial.polynomial-index c.loop-polynomial.component c.as_slice-c.result.now c.polynomial-item.result c.args.terms.now.items c.loop-polynomial.terms.items c.put_polynomial.new.terms.items c.loop-polynomial-test.true
          c.polynomial-item.is c.loop-polynomial.invariant.number c.in_ok-put_polynomial.ensures c.loop-polynomial.invariant.terms;
      number = omega (arith, c.loop-polynomial.invariant.number);
    }

pub returns : goal.returns
returns c =
    elim c.put_polynomial-2.result as (λ r. OnOk r (c.put_polynomial-2.new.terms.items ≡ c.loop-polynomial.terms.items ++ at_component c.loop-polynomial.component c.args.field.now.b)
    → OnOk r (c.put_polynomial-2.new.terms.items ≡ c.args.terms.now.items ++ vector_of c.args.first (c.args.field.now.c ++ c.args.field.now.b ∷ []))) [
      | Ok unit ↦ λ pushed.
          field_whole c.args.first c.loop-polynomial.polynomial-index c.loop-polynomial.component c.as_slice-c.result.now c.args.field.now.c c.args.field.now.b c.args.terms.now.items c.loop-polynomial.terms.items c.put_polynomial-2.new.terms.items
          c.loop-polynomial-test.false c.loop-polynomial.auto.polynomial-index-end c.as_slice-c.ensures c.loop-polynomial.invariant.number pushed c.loop-polynomial.invariant.terms
      | Err fault ↦ λ pushed. pushed
    ] c.put_polynomial-2.ensures
