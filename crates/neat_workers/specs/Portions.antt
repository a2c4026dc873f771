-- How tails are cut into portions.
-- Our own: each portion begins where the one before it ends, and has from 1 to 64 tails.
use Rattle.std.specs.Prelude.{◌≡◌, ℕ, ◌+◌, ◌<◌, ◌≤◌, List, [], ◌∷◌}
use Rattle.neat_workers.specs.declared.portions.Portion.{Portion}

-- the portions lead from the first place to the last one
abbrev pub ArePortions : ℕ → ℕ → List Portion → Type 0
ArePortions first last [] = first ≡ last
ArePortions first last (portion ∷ portions) = (portion.first ≡ first) × (first < portion.end) × (portion.end ≤ first + 64) × ArePortions portion.end last portions
