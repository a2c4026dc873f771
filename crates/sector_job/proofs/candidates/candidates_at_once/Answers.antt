use Rattle.std.proofs.Common.{◌≡◌, ◌∙◌, List, length, sym, subst}
use Rattle.std.specs.Prelude.{IfOk}
use Rattle.std.specs.List.{All}
use Rattle.std.proofs.lemmas.Iterator.Adapters.{YieldsList-from_vec}
use Rattle.std.proofs.lemmas.Iterator.Consumers.{YieldsList-end, YieldsList-turn}
use Rattle.std.proofs.lemmas.List.{length_push}
use Rattle.family.specs.FamilyView.{family_view}
use Rattle.family.specs.Shapes.{ArePowers}
use Rattle.sector_lattice.specs.Sectors.{sector_of}
use Rattle.relation_pick.proofs.Pieces.{front_none, front_whole, piece_all}
use Rattle.sector_job.specs.Candidates.{AreCandidates, Integral}
use Rattle.sector_job.specs.FieldTemplates.{HaveTemplates, AreCandidatesOf}
use Rattle.sector_job.proofs.FieldTemplates.{templates_fit}
use Rattle.sector_job.proofs.Listing.{joins}
use Rattle.sector_job.proofs.candidates.candidates_at_once.Goals as goal

pub map_chunks-requires-clause-accepts : goal.map_chunks-requires-clause-accepts
map_chunks-requires-clause-accepts g c κs within start piece chunk = (
  piece_all (ArePowers c.args.family.now.n) c.args.seeds.now piece.now c.piece_size-size.result start chunk c.requires.powers,
  templates_fit (family_view c.args.family.now) c.args.sector.0 c.args.fields.now c.in_ok-templates.templates.items c.in_ok-templates.ensures,
)

pub loop-piece-init : goal.loop-piece-init
loop-piece-init g c = rw (front_none c.args.seeds.now c.piece_size-size.result, c.new-rows.ensures.items) tt

pub loop-piece-preserved : goal.loop-piece-preserved
loop-piece-preserved g c =
    let family = family_view c.args.family.now in
    let fields = c.args.fields.now in
    let templates = c.in_ok-templates.templates.items in
    let given = c.into_iter-piece-iterator.ensures.into_iter_gives in
    let pieces = c.in_ok-pieces.pieces in
    let turn = YieldsList-turn (YieldsList-from_vec pieces.items given.0 (given.1 ∙ pieces.ok.0)) c.loop-piece.yielded c.loop-piece.piece-iterator c.loop-piece.yielded_by c.next.result c.next.new.self c.in-Some.piece c.in-Some.is c.next.ensures.steps in
    let made = (c.in_ok-pieces.ensures.each (length c.loop-piece.yielded) c.in-Some.piece turn.0).1 in
    let rows = c.in_ok-more.more in
    let have : HaveTemplates family c.args.sector.0 fields templates = record { shape = c.requires.shape; members = c.requires.members; made = c.in_ok-templates.ensures } in
    let listed : AreCandidatesOf family templates made.argument.now rows.items =
    subst (λ r. IfOk r (λ v. AreCandidatesOf family templates made.argument.now v.items)) (sym turn.1 ∙ c.in_ok-more.was) made.call in
    let own : All (λ seed. sector_of seed ≡ c.args.sector.0) made.argument.now =
    piece_all (λ seed. sector_of seed ≡ c.args.sector.0) c.args.seeds.now made.argument.now c.piece_size-size.result _ made.argument_is c.requires.of_sector
    in
    joins family fields c.args.seeds.now made.argument.now c.piece_size-size.result (length c.loop-piece.yielded) _ c.loop-piece.rows.items rows.items _
    (length_push c.loop-piece.yielded c.in-Some.piece) made.argument_is.value c.in_ok-append.ensures.items c.loop-piece.invariant (listed.of_fields c.args.sector.0 fields own have)

pub returns : goal.returns
returns g c =
    let given = c.into_iter-piece-iterator.ensures.into_iter_gives in
    let pieces = c.in_ok-pieces.pieces in
    let end = YieldsList-end (YieldsList-from_vec pieces.items given.0 (given.1 ∙ pieces.ok.0)) c.loop-piece.yielded c.loop-piece.piece-iterator c.loop-piece.yielded_by c.next.result c.next.new.self c.in-None.is c.next.ensures.steps in
    let whole = front_whole c.args.seeds.now c.piece_size-size.result (length c.loop-piece.yielded) c.piece_size-size.ensures (end.1 ∙ sym pieces.ok.0 ∙ c.in_ok-pieces.ensures.len) in
    subst (λ (ss : List Integral). AreCandidates (family_view c.args.family.now) c.args.fields.now ss c.loop-piece.rows.items) whole c.loop-piece.invariant
