use Rattle.meet_module.specs.MeetRuns.{divisors_from}
use Rattle.meet_module.proofs.VectorLists.{generators_are}
use Rattle.meet_module.proofs.vectors.meet_generators.Goals as goal

pub returns : goal.returns
returns c =
    generators_are c.args.fields.now (divisors_from c.args.sector.0 0 c.args.n) c.new-vectors.result.items c.put_doubled.new.vectors.items c.put_divisors.new.vectors.items c.new-vectors.ensures.items
    c.in_ok-put_doubled.ensures c.in_ok-put_divisors.ensures
