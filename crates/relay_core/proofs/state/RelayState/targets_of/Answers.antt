use Rattle.std.proofs.Common.{sym, subst}
use Rattle.sector_lattice.specs.Sectors.{Ascends}
use Rattle.relay_core.proofs.Kept.{kept_as, ascends_of, book_ascends, between_of, final_of}
use Rattle.relay_core.proofs.state.RelayState.targets_of.Goals as goal

pub book_of-requires : goal.book_of-requires
book_of-requires g c =
    let laws = g.met.W.Piece g.world.𝓛 g.world.𝓜 g.world.𝓡 ((λ s x. x), (λ x. x), (λ x. x), λ x. x) in
    subst (λ xs. Ascends xs) (sym c.as_slice.ensures.value) (ascends_of _ laws.opened laws.lawful c.self.invariant.0)

pub returns-clause-between : goal.returns-clause-between
returns-clause-between g c =
    let laws = g.met.W.Piece g.world.𝓛 g.world.𝓜 g.world.𝓡 ((λ s x. x), (λ x. x), (λ x. x), λ x. x) in
    between_of c.args.self.now laws.opened laws.lawful (kept_as c.args.self.now c.self.view_is c.self.invariant.0)

pub returns-clause-settled : goal.returns-clause-settled
returns-clause-settled g c =
    let laws = g.met.W.Piece g.world.𝓛 g.world.𝓜 g.world.𝓡 ((λ s x. x), (λ x. x), (λ x. x), λ x. x) in
    final_of c.args.self.now laws.opened laws.lawful (kept_as c.args.self.now c.self.view_is c.self.invariant.0) c.args.sector.0

pub returns-clause-ascend : goal.returns-clause-ascend
returns-clause-ascend g c =
    let laws = g.met.W.Piece g.world.𝓛 g.world.𝓜 g.world.𝓡 ((λ s x. x), (λ x. x), (λ x. x), λ x. x) in
    book_ascends c.args.sector.0 c.as_slice.result.now c.book_of.result.now c.book_of.ensures (subst (λ xs. Ascends xs) (sym c.as_slice.ensures.value) (ascends_of _ laws.opened laws.lawful c.self.invariant.0))
