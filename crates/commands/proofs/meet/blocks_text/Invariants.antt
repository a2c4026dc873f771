use Rattle.std.proofs.Common.{take}
use Rattle.std.specs.List.{All}
use Rattle.family.specs.FamilyView.{family_view}
use Rattle.commands.specs.Meet.{AreBlocks, IsMet}
use Rattle.commands.proofs.meet.blocks_text.Given as goal

abbrev pub invariant-loop-sector : goal.invariant-loop-sector
invariant-loop-sector l =
    record {
      blocks : AreBlocks (family_view l.family) (take l.sector-index l.sectors) l.text.items;
      met : All (IsMet (family_view l.family) l.tangent) (take l.sector-index l.sectors);
    }
