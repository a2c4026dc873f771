use Rattle.std.proofs.Common.{◌∙◌, ap, get_or, Err}
use Rattle.std.proofs.lemmas.List.{get_or_default}
use Rattle.sector_lattice.specs.declared.sector.Sector.{Sector}
use Rattle.family.specs.FamilyView.{family_view}
use Rattle.commands.proofs.MeetBlocks.{blocks_more, met_more, refused_at}
use Rattle.commands.proofs.meet.blocks_text.Goals as goal

-- the sector's block follows those of the sectors before it
pub loop-sector-preserved : goal.loop-sector-preserved
loop-sector-preserved c =
    let sectors = c.args.sectors.now in
    let at = c.loop-sector.sector-index in
    let sector : Sector = get_or sectors at (record { 0 = 0 }) in
    let own = get_or_default sectors at (record { 0 = 0 }) sector c.loop-sector-test.true in
    let done = c.in-Ok.ensures.done in
    record {
      blocks = blocks_more (family_view c.args.family.now) sectors at sector c.in-Ok.generators.sector c.in-Ok.generators.fields c.loop-sector.text.items c.put_block.new.text.items c.loop-sector-test.true own c.in-Ok.ensures.sector c.in-Ok.ensures.basis c.in_ok-put_block-in-Ok.ensures c.loop-sector.invariant.blocks;
      met = met_more (family_view c.args.family.now) c.args.tangent.now sectors at sector c.loop-sector-test.true own (record { elements = done.0; taken = done.1; ends = done.2 }) c.loop-sector.invariant.met;
    }

-- the runs of the sectors before are done, and the sector's own end by its fault
pub returns-in-Err-clause-refused : goal.returns-in-Err-clause-refused
returns-in-Err-clause-refused c =
    let sectors = c.args.sectors.now in
    let at = c.loop-sector.sector-index in
    let sector : Sector = get_or sectors at (record { 0 = 0 }) in
    let own = get_or_default sectors at (record { 0 = 0 }) sector c.loop-sector-test.true in
    rw c.of_basis_fault.ensures
    (refused_at (family_view c.args.family.now) c.args.tangent.now sectors at sector c.in-Err.fault c.loop-sector-test.true own c.loop-sector.invariant.met
    (λ spent. (c.meet_basis.ensures.spent (λ memory. cc)).0 (c.in-Err.is ∙ ap Err spent)) (λ over. (c.meet_basis.ensures.over (λ memory. cc)).0 (c.in-Err.is ∙ ap Err over)))
