-- The texts of numbered elements.
use Rattle.std.proofs.Common.{ℕ, List}
use Rattle.std.specs.List.{flat_map, enumerate_from}

-- of which the first has the number k
abbrev pub numbered_from : {A : Type 0} → (ℕ → A → List ℕ) → ℕ → List A → List ℕ
numbered_from text k elements = flat_map (λ e. text e.0 e.1) (enumerate_from k elements)
