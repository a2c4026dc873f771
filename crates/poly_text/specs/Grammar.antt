-- The reader's own: reading a text token by token, from the left. After each token a state says what may follow: it has the
-- trees of what was read, and it is stuck at the first token with which no text of the grammar goes on.
--     next state token          the state after one more token of the grammar
--     complete state            the tree, where the text may end here
--     form_fault known ..       what is wrong with a token that the grammar allows
--     tree_of known end ts      the tree of these tokens, or the first fault of their form
use Rattle.std.specs.Prelude.{ℕ, ◌^◌, ◌==◌, nat_lt, Bool, true, false, if◌then◌else◌, Option, Some, None, Result, Ok, Err, List, [], ◌∷◌, length}
use Rattle.poly_text.specs.declared.fault.TextFault.{TextFault}
use Rattle.poly_text.specs.declared.limits.TheConstants.{POWER_LIMIT, DEPTH_LIMIT}
use Rattle.poly_text.specs.Token.{Token}
use Rattle.poly_text.specs.Tree.{Tree}

-- what the next product of a sum is joined to, and what the next factor of a product is
pub data Terms : Type 0 where
  none : Terms
  negative : Terms
  plus : Tree → ℕ → Terms
  minus : Tree → ℕ → Terms

pub data Factors : Type 0 where
  none : Factors
  times : Tree → ℕ → Factors
  over : Tree → ℕ → Factors

-- a sum that is not at its end
pub record Level : Type 0 where
  pub terms : Terms
  pub factors : Factors

-- where the reading stands: at the beginning of a sum, before an operand, behind a primary, behind a
-- factor, or behind `^`
pub data Position : Type 0 where
  start : Position
  operand : Position
  primary : Tree → Position
  factor : Tree → Position
  exponent : Tree → ℕ → Position

-- the sum that is being read, and those round it, the innermost first
pub record State : Type 0 where
  pub position : Position
  pub level : Level
  pub outer : List Level

abbrev pub empty_level : Level
empty_level = record { terms = Terms.none; factors = Factors.none }

abbrev pub first_state : State
first_state = record { position = Position.start; level = empty_level; outer = [] }

abbrev pub product_with : Factors → Tree → Tree
product_with Factors.none u = u
product_with (Factors.times t p) u = Tree.times t p u
product_with (Factors.over t p) u = Tree.over t p u

abbrev pub sum_with : Terms → Tree → Tree
sum_with Terms.none u = u
sum_with Terms.negative u = Tree.negative u
sum_with (Terms.plus t p) u = Tree.plus t p u
sum_with (Terms.minus t p) u = Tree.minus t p u

-- the sum, where it ends behind this factor
abbrev pub whole_sum : Level → Tree → Tree
whole_sum level t = sum_with level.terms (product_with level.factors t)

abbrev pub next_operand : Level → List Level → Token × ℕ → Option State
next_operand level outer (Token.whole k, p) = Some (record { position = Position.primary (Tree.whole k); level = level; outer = outer })
next_operand level outer (Token.name word, p) = Some (record { position = Position.primary (Tree.name word p); level = level; outer = outer })
next_operand level outer (Token.opening, p) = Some (record { position = Position.start; level = empty_level; outer = level ∷ outer })
next_operand level outer (token, p) = None

abbrev pub next_start : Level → List Level → Token × ℕ → Option State
next_start level outer (Token.plus, p) = Some (record { position = Position.operand; level = level; outer = outer })
next_start level outer (Token.minus, p) = Some (record { position = Position.operand; level = record level { terms = Terms.negative }; outer = outer })
next_start level outer (token, p) = next_operand level outer (token, p)

-- behind the end of a sum in parentheses
abbrev pub closed : Tree → List Level → Option State
closed t [] = None
closed t (level ∷ outer) = Some (record { position = Position.primary t; level = level; outer = outer })

abbrev pub next_factor : Tree → Level → List Level → Token × ℕ → Option State
next_factor t level outer (Token.times, p) = Some (record { position = Position.operand; level = record level { factors = Factors.times (product_with level.factors t) p }; outer = outer })
next_factor t level outer (Token.over, p) = Some (record { position = Position.operand; level = record level { factors = Factors.over (product_with level.factors t) p }; outer = outer })
next_factor t level outer (Token.plus, p) = Some (record { position = Position.operand; level = record { terms = Terms.plus (whole_sum level t) p; factors = Factors.none }; outer = outer })
next_factor t level outer (Token.minus, p) = Some (record { position = Position.operand; level = record { terms = Terms.minus (whole_sum level t) p; factors = Factors.none }; outer = outer })
next_factor t level outer (Token.closing, p) = closed (whole_sum level t) outer
next_factor t level outer (token, p) = None

abbrev pub next_primary : Tree → Level → List Level → Token × ℕ → Option State
next_primary t level outer (Token.power, p) = Some (record { position = Position.exponent t p; level = level; outer = outer })
next_primary t level outer (token, p) = next_factor t level outer (token, p)

abbrev pub next_exponent : Tree → ℕ → Level → List Level → Token × ℕ → Option State
next_exponent t q level outer (Token.whole k, p) = Some (record { position = Position.factor (Tree.power t q k); level = level; outer = outer })
next_exponent t q level outer (token, p) = None

abbrev pub next_at : Position → Level → List Level → Token × ℕ → Option State
next_at Position.start level outer token = next_start level outer token
next_at Position.operand level outer token = next_operand level outer token
next_at (Position.primary t) level outer token = next_primary t level outer token
next_at (Position.factor t) level outer token = next_factor t level outer token
next_at (Position.exponent t q) level outer token = next_exponent t q level outer token

abbrev pub next : State → Token × ℕ → Option State
next state token = next_at state.position state.level state.outer token

abbrev pub complete_at : Position → Level → List Level → Option Tree
complete_at (Position.primary t) level [] = Some (whole_sum level t)
complete_at (Position.factor t) level [] = Some (whole_sum level t)
complete_at position level outer = None

abbrev pub complete : State → Option Tree
complete state = complete_at state.position state.level state.outer

abbrev pub is_exponent : Position → Bool
is_exponent (Position.exponent t p) = true
is_exponent position = false

-- what is wrong with a token that the grammar allows; a test says which names are known
abbrev pub form_fault : (List ℕ → Bool) → State → Token × ℕ → Option TextFault
form_fault known state (Token.whole k, p) =
    if is_exponent state.position then (if nat_lt POWER_LIMIT k then Some (TextFault.PowerOver p) else None)
    else if nat_lt k (2 ^ 128) then None else Some (TextFault.NumberOver p)
form_fault known state (Token.name word, p) = if known word then None else Some (TextFault.UnknownName p)
form_fault known state (Token.opening, p) = if length state.outer == DEPTH_LIMIT then Some (TextFault.DepthOver p) else None
form_fault known state (token, p) = None

abbrev pub unless_fault : {A : Type 0} → Option TextFault → A → Result A TextFault
unless_fault (Some fault) x = Err fault
unless_fault None x = Ok x

abbrev pub after_next : ℕ → Option State → Option TextFault → Result State TextFault
after_next p None fault = Err (TextFault.Syntax p)
after_next p (Some state) fault = unless_fault fault state

abbrev pub checked_next : (List ℕ → Bool) → State → Token × ℕ → Result State TextFault
checked_next known state token = after_next token.1 (next state token) (form_fault known state token)

abbrev pub whole_tree : ℕ → Option Tree → Result Tree TextFault
whole_tree end None = Err (TextFault.Syntax end)
whole_tree end (Some t) = Ok t

abbrev pub then_state : Result State TextFault → (State → Result Tree TextFault) → Result Tree TextFault
then_state (Ok state) go = go state
then_state (Err fault) go = Err fault

abbrev pub tree_from : (List ℕ → Bool) → ℕ → State → List (Token × ℕ) → Result Tree TextFault
tree_from known end state [] = whole_tree end (complete state)
tree_from known end state (token ∷ ts) = then_state (checked_next known state token) (λ after. tree_from known end after ts)

abbrev pub tree_of : (List ℕ → Bool) → ℕ → List (Token × ℕ) → Result Tree TextFault
tree_of known end ts = tree_from known end first_state ts
