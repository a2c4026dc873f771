use Rattle.std.proofs.Common.{◌≡◌, ◌∷◌, [], ◌++◌, ◌*◌, ◌<◌, length, sym, ◌∙◌, ap, subst, arith}
use Rattle.std.specs.Prelude.{All, map}
use Rattle.row_echelon.specs.References.{rows_of}
use Rattle.relation_pick.specs.Picking.{rows_at}
use Rattle.system_text.specs.declared.value.SectorBlock.{SectorBlock}
use Rattle.sector_job.specs.Candidates.{labels}
use Rattle.sector_job.specs.declared.outcome.Outcome.TheVariants.{Worked}
use Rattle.neat_system.specs.Gathering.{label_at, label_views}
use Rattle.neat_system.proofs.GatheredWorks.{piece_work, worked_basis}
use Rattle.neat_system.proofs.Lengths.{counted, few_in_all}
use Rattle.neat_system.proofs.gathering.add_piece.Goals as goal

pub add_labels-requires-clause-few : goal.add_labels-requires-clause-few
add_labels-requires-clause-few c =
    let piece = c.args.piece.now in
    let worked : piece.outcome ≡ Worked c.in-Worked.generators c.in-Worked.candidates c.in-Worked.tails = sym c.outcome.ensures.value ∙ c.in-Worked.is in
    let is = piece_work piece c.in-Worked.generators c.in-Worked.candidates c.in-Worked.tails worked c.seeds-seeds.result.now c.requires.is_result.is_outcome c.seeds-seeds.ensures in
    let few = few_in_all piece _ is in
    let same = ap (λ n. n * length c.seeds-seeds.result.now) (ap length c.fields.ensures) in
    omega (arith, few, same)

pub add_labels-requires-clause-within : goal.add_labels-requires-clause-within
add_labels-requires-clause-within c =
    let piece = c.args.piece.now in
    let worked : piece.outcome ≡ Worked c.in-Worked.generators c.in-Worked.candidates c.in-Worked.tails = sym c.outcome.ensures.value ∙ c.in-Worked.is in
    let is = piece_work piece c.in-Worked.generators c.in-Worked.candidates c.in-Worked.tails worked c.seeds-seeds.result.now c.requires.is_result.is_outcome c.seeds-seeds.ensures in
    let basis = worked_basis piece c.in-Worked.generators c.in-Worked.candidates c.in-Worked.tails worked c.basis-basis.result.now c.basis-basis.ensures in
    let many = counted piece _ is ∙ ap (λ n. n * length c.seeds-seeds.result.now) (ap length (sym c.fields.ensures)) in
    subst (λ n. All (λ place. place < n) c.basis-basis.result.now) many basis.covers.within

pub add_rows-requires : goal.add_rows-requires
add_rows-requires c =
    let piece = c.args.piece.now in
    let worked : piece.outcome ≡ Worked c.in-Worked.generators c.in-Worked.candidates c.in-Worked.tails = sym c.outcome.ensures.value ∙ c.in-Worked.is in
    let basis = worked_basis piece c.in-Worked.generators c.in-Worked.candidates c.in-Worked.tails worked c.basis-basis.result.now c.basis-basis.ensures in
    subst (λ rows. All (λ place. place < length rows) c.basis-basis.result.now) (sym c.as_slice.ensures) basis.covers.within

pub returns : goal.returns
returns c =
    let piece = c.args.piece.now in
    let worked : piece.outcome ≡ Worked c.in-Worked.generators c.in-Worked.candidates c.in-Worked.tails = sym c.outcome.ensures.value ∙ c.in-Worked.is in
    let is = piece_work piece c.in-Worked.generators c.in-Worked.candidates c.in-Worked.tails worked c.seeds-seeds.result.now c.requires.is_result.is_outcome c.seeds-seeds.ensures in
    let basis = worked_basis piece c.in-Worked.generators c.in-Worked.candidates c.in-Worked.tails worked c.basis-basis.result.now c.basis-basis.ensures in
    let block : ◌≡◌ {A = SectorBlock} (record { sector = c.sector.result; fields = c.in_ok-fields.fields }) (record { sector = record { 0 = piece.sector.0 }; fields = c.in-Worked.generators.fields }) =
    λ i. record { sector = record { 0 = c.sector.ensures i }; fields = c.in_ok-fields.ensures i }
    in
    let before = label_views c.args.gathered.now.labels.items in
    let wide = ap length c.fields.ensures in
    record {
      work = record { sector = piece.sector.0; fields = c.in-Worked.generators.fields; seeds = c.seeds-seeds.result.now; candidates = c.in-Worked.candidates; tails = c.in-Worked.tails };
      is_work = is;
      places = c.basis-basis.result.now;
      covers = basis.covers;
      blocks = c.in_ok-push.ensures.items ∙ ap (λ (b : SectorBlock). c.args.gathered.now.blocks.items ++ b ∷ []) block;
      labels = c.in_ok-add_labels.ensures ∙ (λ i. before ++ map (label_at (labels (wide i) c.seeds-seeds.result.now)) c.basis-basis.result.now);
      candidates = c.in_ok-add_rows.ensures ∙ ap (λ rows. rows_of c.args.gathered.now.candidates.items ++ rows_at rows c.basis-basis.result.now) c.as_slice.ensures;
    }
