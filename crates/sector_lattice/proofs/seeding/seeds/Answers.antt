use Rattle.std.proofs.Common.{◌≡◌, length, take, refl, sym, ap, subst, ◌∙◌, arith}
use Rattle.std.specs.Prelude.{pos, replicate}
use Rattle.std.proofs.lemmas.List.{length-take-le}
use Rattle.sector_lattice.specs.declared.integral.TheConstants.{LINES}
use Rattle.sector_lattice.specs.Seeds.{AreSeeds}
use Rattle.sector_lattice.specs.Layers.{layers}
use Rattle.sector_lattice.proofs.SeedLists.{layers_are_seeds, layers_counted}
use Rattle.sector_lattice.proofs.seeding.seeds.Goals as goal

-- the places are as many as asked
listed : (c : goal.After-from_vec) → c.from_vec.result ≡ layers c.args.n c.args.sector.0 c.args.dots c.args.rank
listed c =
    let room : length (replicate LINES (pos 0)) ≡ LINES = refl in
    let long : length (take c.from.result (replicate LINES (pos 0))) ≡ c.args.n = length-take-le c.from.result (replicate LINES (pos 0)) (omega arith) ∙ c.from.ensures in
    c.from_vec.ensures ∙ c.in_ok-found.ensures ∙ ap (λ n. layers n c.args.sector.0 c.args.dots c.args.rank) long

pub returns-clause-seeds : goal.returns-clause-seeds
returns-clause-seeds c = subst (AreSeeds c.args.sector.0 c.args.n c.args.dots c.args.rank) (sym (listed c)) (layers_are_seeds c.args.n c.args.sector.0 c.args.dots c.args.rank c.requires.is_sector.within)

pub returns-clause-number : goal.returns-clause-number
returns-clause-number c = ap length (listed c) ∙ layers_counted c.args.n c.args.sector.0 c.args.dots c.args.rank c.requires.is_sector.within
