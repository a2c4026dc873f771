-- One portion more, after consecutive portions.
use Rattle.std.proofs.Common.{◌≡◌, ℕ, ◌+◌, ◌<◌, ◌≤◌, List, [], ◌∷◌, ◌++◌, refl, sym, ◌∙◌, arith}
use Rattle.neat_workers.specs.Portions.{ArePortions}
use Rattle.neat_workers.specs.declared.portions.Portion.{Portion}

pub ArePortions-step : (first last : ℕ) (portions : List Portion) (portion : Portion) → ArePortions first last portions → portion.first ≡ last → last < portion.end → portion.end ≤ last + 64
    → ArePortions first portion.end (portions ++ portion ∷ [])
ArePortions-step first last [] portion before here some few = (here ∙ sym before, omega (arith, before, some), omega (arith, before, few), refl)
ArePortions-step first last (p ∷ portions) portion before here some few =
    (before.0, before.1, before.2, ArePortions-step p.end last portions portion before.3 here some few)
