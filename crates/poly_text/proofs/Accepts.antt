-- The tree that reading without limits gives to tokens, where it accepts them.
--     run state ts              the state after these tokens, unless one of them is stuck
--     accepts ts                the tree
use Rattle.std.specs.Prelude.{ℕ, Option, Some, None, List, [], ◌∷◌}
use Rattle.poly_text.specs.Token.{Token}
use Rattle.poly_text.specs.Tree.{Tree}
use Rattle.poly_text.specs.Grammar.{State, first_state, next, complete}

abbrev pub run_next : Option State → (State → Option State) → Option State
run_next None others = None
run_next (Some state) others = others state

abbrev pub run : State → List (Token × ℕ) → Option State
run state [] = Some state
run state (token ∷ ts) = run_next (next state token) (λ after. run after ts)

abbrev pub complete_run : Option State → Option Tree
complete_run None = None
complete_run (Some state) = complete state

abbrev pub accepts : List (Token × ℕ) → Option Tree
accepts ts = complete_run (run first_state ts)
