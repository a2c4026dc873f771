-- Entries of a list in front of bytes, with a separator between each two.
--     more text separator xs            the texts of xs, each behind a separator
--     separated text separator x xs     the texts of x and of xs
-- Source: formats of our own.
use Rattle.std.specs.Prelude.{ℕ, List, ◌++◌}
use Rattle.std.specs.List.{flat_map}

abbrev pub more : {A : Type 0} → (A → List ℕ) → List ℕ → List A → List ℕ
more text separator xs = flat_map (λ y. separator ++ text y) xs

abbrev pub separated : {A : Type 0} → (A → List ℕ) → List ℕ → A → List A → List ℕ
separated text separator x xs = text x ++ more text separator xs
