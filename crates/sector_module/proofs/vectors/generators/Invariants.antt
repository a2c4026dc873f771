use Rattle.std.proofs.Common.{◌≡◌, ◌≢◌, take, []}
use Rattle.std.specs.List.{All}
use Rattle.sector_module.specs.Factors.{sector_generators}
use Rattle.sector_module.proofs.vectors.generators.Given as goal

abbrev pub invariant-loop-place : goal.invariant-loop-place
invariant-loop-place l =
    record {
      made : l.vectors.items ≡ take l.place (sector_generators l.family.baikov l.family.n l.sector.0);
      some : All (λ v. v ≢ []) l.vectors.items;
    }
