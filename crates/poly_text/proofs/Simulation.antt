-- Reading with values gives the value of the tree that reading with trees gives, or the same fault, with each place mapped.
use Rattle.std.proofs.Common.{◌≡◌, ℕ, ◌^◌, List, [], ◌∷◌, map, length, Bool, true, false, cond, refl, sym, ap, ◌∙◌, arith}
use Rattle.std.specs.Prelude.{Option, Some, None, is_some, option_map, Result, Ok, Err, nat_lt, nat_le, ◌==◌, ◌&&◌, not}
use Rattle.std.proofs.lemmas.Bool.{ltb-false}
use Rattle.std.proofs.lemmas.List.{length-map}
use Rattle.ibp_algebra.specs.Polynomial.{Polynomial}
use Rattle.poly_text.specs.declared.fault.TextFault.{TextFault}
use Rattle.poly_text.specs.declared.limits.TheConstants.{NAME_LIMIT, POWER_LIMIT, DEPTH_LIMIT}
use Rattle.poly_text.specs.declared.symbol.Symbol.{Symbol}
use Rattle.poly_text.specs.declared.symbol.Named.{Named}
use Rattle.poly_text.specs.declared.reader.SumSoFar.{SumSoFar}
use Rattle.poly_text.specs.declared.reader.ProductSoFar.{ProductSoFar}
use Rattle.poly_text.specs.declared.reader.OpenSum.{OpenSum}
use Rattle.poly_text.specs.declared.reader.Expected.{Expected}
use Rattle.poly_text.specs.Token.{Token, whole_value}
use Rattle.poly_text.specs.Scanning.{tokens}
use Rattle.poly_text.specs.Tree.{Tree}
use Rattle.poly_text.specs.Grammar.{Terms, Factors, Level, Position, State, first_state, empty_level, closed, product_with, sum_with, whole_sum, unless_fault, after_next, checked_next, then_state, whole_tree, complete_at, tree_from}
use Rattle.poly_text.specs.Value.{value, known_value, constant, variable, variable_exponents, negative_of, sum_of, difference_of, product_of, quotient_of, power_of}
use Rattle.poly_text.specs.PolyText.{names_of, is_known, variable_named, is_variable_name}
use Rattle.poly_text.specs.Answer.{tree_value, text_answer}
use Rattle.poly_text.specs.Symbols.{named, named_variable, named_value, symbol_for}
use Rattle.poly_text.specs.Reading.{Reading, Operand, reads, product_value, sum_value, level_value, primary_value, read_primary_value, read_operand, read_start, read_closed, read_factor, read_primary, raised, read_exponent, read_next, read_end, then_reading, read_tokens, first_reading}
use Rattle.poly_text.proofs.MovedPlaces.{moved_fault, moved, token_moved, then_moved, both_moved, sum_moved, difference_moved, product_moved, quotient_moved, power_moved}

-- what a name stands for, and what it is read as
chosen_value : (b : Bool) (i : ℕ) → option_map named_value (cond b (Some (Named.Variable (variable_exponents i))) None) ≡ cond b (Some (variable i)) None
chosen_value true i = refl
chosen_value false i = refl

variable_value : (n : ℕ) (word : List ℕ) → option_map named_value (named_variable n word) ≡ variable_named n word
variable_value n [] = refl
variable_value n (b ∷ []) = refl
variable_value n (b ∷ digit ∷ digits) = chosen_value (not (digit == 48) && nat_le (whole_value (digit ∷ digits)) n) (whole_value (digit ∷ digits))

number_value : (short : Bool) (found : Option ℕ) → option_map named_value (cond short (option_map (λ c. Named.Number c) found) None) ≡ cond short (option_map constant found) None
number_value true (Some c) = refl
number_value true None = refl
number_value false found = refl

either_value : (b : Bool) (x y : Option Named) (v w : Option Polynomial) → option_map named_value x ≡ v → option_map named_value y ≡ w
    → option_map named_value (cond b x y) ≡ cond b v w
either_value true x y v w p q = p
either_value false x y v w p q = q

pub value-named : (n : ℕ) (number : List ℕ → Option ℕ) (word : List ℕ) → option_map named_value (named n number word) ≡ names_of n number word
value-named n number word =
    either_value (is_variable_name word) _ _ _ _ (variable_value n word) (number_value (nat_le (length word) NAME_LIMIT) (number word))

module _ (move : ℕ → ℕ) (n : ℕ) (number : List ℕ → Option ℕ) where
  abbrev tree_operand : Tree → Operand
  tree_operand t = moved move (value (names_of n number) t)

  abbrev valued_terms : Terms → SumSoFar
  valued_terms Terms.none = SumSoFar.Empty
  valued_terms Terms.negative = SumSoFar.Negative
  valued_terms (Terms.plus t p) = SumSoFar.Plus (tree_operand t) (move p)
  valued_terms (Terms.minus t p) = SumSoFar.Minus (tree_operand t) (move p)

  abbrev valued_factors : Factors → ProductSoFar
  valued_factors Factors.none = ProductSoFar.Empty
  valued_factors (Factors.times t p) = ProductSoFar.Times (tree_operand t) (move p)
  valued_factors (Factors.over t p) = ProductSoFar.Over (tree_operand t) (move p)

  abbrev valued_level : Level → OpenSum
  valued_level level = record { sum = valued_terms level.terms; product = valued_factors level.factors }

  abbrev valued_position : Position → Expected
  valued_position Position.start = Expected.Start
  valued_position Position.operand = Expected.Operand
  valued_position (Position.primary t) = Expected.Primary (tree_operand t)
  valued_position (Position.factor t) = Expected.Factor (tree_operand t)
  valued_position (Position.exponent t p) = Expected.Exponent (tree_operand t) (move p)

  abbrev valued_at : Position → Level → List Level → Reading
  valued_at position level outer = reads (valued_position position) (valued_level level) (map valued_level outer)

  abbrev valued : State → Reading
  valued state = valued_at state.position state.level state.outer

  abbrev mapped : Result State TextFault → Result Reading TextFault
  mapped (Ok state) = Ok (valued state)
  mapped (Err fault) = Err (moved_fault move fault)

  value-product : (factors : Factors) (t : Tree) → product_value (valued_factors factors) (tree_operand t) ≡ tree_operand (product_with factors t)
  value-product Factors.none t = refl
  value-product (Factors.times u p) t = both_moved move (value (names_of n number) u) (value (names_of n number) t) (product_of p) (product_of (move p)) (product_moved move p)
  value-product (Factors.over u p) t = both_moved move (value (names_of n number) u) (value (names_of n number) t) (quotient_of p) (quotient_of (move p)) (quotient_moved move p)

  value-sum : (terms : Terms) (t : Tree) → sum_value (valued_terms terms) (tree_operand t) ≡ tree_operand (sum_with terms t)
  value-sum Terms.none t = refl
  value-sum Terms.negative t = then_moved move (value (names_of n number) t) (λ f. Ok (negative_of f)) (λ f. Ok (negative_of f)) (λ f. refl)
  value-sum (Terms.plus u p) t = both_moved move (value (names_of n number) u) (value (names_of n number) t) (sum_of p) (sum_of (move p)) (sum_moved move p)
  value-sum (Terms.minus u p) t = both_moved move (value (names_of n number) u) (value (names_of n number) t) (difference_of p) (difference_of (move p)) (difference_moved move p)

  value-level : (level : Level) (t : Tree) → level_value (valued_level level) (tree_operand t) ≡ tree_operand (whole_sum level t)
  value-level level t = ap (sum_value (valued_terms level.terms)) (value-product level.factors t) ∙ value-sum level.terms (product_with level.factors t)

  whole_if : (b : Bool) (k p : ℕ) (level : Level) (outer : List Level)
      → read_primary_value (primary_value (Symbol.Whole (cond b (Some k) None)) (move p)) (valued_level level) (map valued_level outer)
      ≡ mapped (unless_fault (cond b None (Some (TextFault.NumberOver p))) (record { position = Position.primary (Tree.whole k); level = level; outer = outer }))
  whole_if true k p level outer = refl
  whole_if false k p level outer = refl

  abbrev named_result : ℕ → Level → List Level → Option Polynomial → Result Reading TextFault
  named_result p level outer None = Err (TextFault.UnknownName (move p))
  named_result p level outer (Some f) = Ok (reads (Expected.Primary (Ok f)) (valued_level level) (map valued_level outer))

  read_name : (p : ℕ) (level : Level) (outer : List Level) (meaning : Option Named)
      → read_primary_value (primary_value (Symbol.Name meaning) (move p)) (valued_level level) (map valued_level outer) ≡ named_result p level outer (option_map named_value meaning)
  read_name p level outer None = refl
  read_name p level outer (Some meaning) = refl

  tree_name : (v : Option Polynomial) (p : ℕ) (state : State) (level : Level) (outer : List Level)
      → valued state ≡ reads (Expected.Primary (moved move (known_value p v))) (valued_level level) (map valued_level outer)
      → mapped (unless_fault (cond (is_some v) None (Some (TextFault.UnknownName p))) state) ≡ named_result p level outer v
  tree_name None p state level outer e = refl
  tree_name (Some f) p state level outer e = ap (λ (r : Reading). Ok r) e

  name_if : (word : List ℕ) (p : ℕ) (level : Level) (outer : List Level)
      → read_primary_value (primary_value (Symbol.Name (named n number word)) (move p)) (valued_level level) (map valued_level outer)
      ≡ mapped (unless_fault (cond (is_some (names_of n number word)) None (Some (TextFault.UnknownName p))) (record { position = Position.primary (Tree.name word p); level = level; outer = outer }))
  name_if word p level outer =
      read_name p level outer (named n number word) ∙ ap (named_result p level outer) (value-named n number word)
      ∙ sym (tree_name (names_of n number word) p _ level outer refl)

  open_if : (b : Bool) (p : ℕ) (level : Level) (outer : List Level)
      → cond b (Err (TextFault.DepthOver (move p))) (Ok (reads Expected.Start (valued_level empty_level) (valued_level level ∷ map valued_level outer)))
      ≡ mapped (unless_fault (cond b (Some (TextFault.DepthOver p)) None) (record { position = Position.start; level = empty_level; outer = level ∷ outer }))
  open_if true p level outer = refl
  open_if false p level outer = refl

  abbrev checked : Position → Level → List Level → Token × ℕ → Result Reading TextFault
  checked position level outer token =
      mapped (checked_next (is_known n number) (record { position = position; level = level; outer = outer }) token)

  operand_step : (token : Token) (p : ℕ) (level : Level) (outer : List Level)
      → read_operand (valued_level level) (map valued_level outer) (symbol_for n number token) (move p) ≡ checked Position.operand level outer (token, p)
  operand_step (Token.whole k) p level outer = whole_if (nat_lt k (2 ^ 128)) k p level outer
  operand_step (Token.name word) p level outer = name_if word p level outer
  operand_step Token.plus p level outer = refl
  operand_step Token.minus p level outer = refl
  operand_step Token.times p level outer = refl
  operand_step Token.over p level outer = refl
  operand_step Token.power p level outer = refl
  operand_step Token.opening p level outer =
      ap (λ m. cond (m == DEPTH_LIMIT) (Err (TextFault.DepthOver (move p))) (Ok (reads Expected.Start (valued_level empty_level) (valued_level level ∷ map valued_level outer)))) (length-map outer valued_level)
      ∙ open_if (length outer == DEPTH_LIMIT) p level outer
  operand_step Token.closing p level outer = refl
  operand_step Token.stray p level outer = refl

  start_step : (token : Token) (p : ℕ) (level : Level) (outer : List Level)
      → read_start (valued_level level) (map valued_level outer) (symbol_for n number token) (move p) ≡ checked Position.start level outer (token, p)
  start_step (Token.whole k) p level outer = whole_if (nat_lt k (2 ^ 128)) k p level outer
  start_step (Token.name word) p level outer = name_if word p level outer
  start_step Token.plus p level outer = refl
  start_step Token.minus p level outer = refl
  start_step Token.times p level outer = refl
  start_step Token.over p level outer = refl
  start_step Token.power p level outer = refl
  start_step Token.opening p level outer = operand_step Token.opening p level outer
  start_step Token.closing p level outer = refl
  start_step Token.stray p level outer = refl

  closed_step : (t : Tree) (v : Operand) (p : ℕ) (level : Level) (outer : List Level) → v ≡ tree_operand t
      → read_closed v (map valued_level outer) (move p) ≡ mapped (after_next p (closed t outer) None)
  closed_step t v p level [] e = refl
  closed_step t v p level (next ∷ outer) e = ap (λ (w : Operand). Ok (reads (Expected.Primary w) (valued_level next) (map valued_level outer))) e

  factor_step : (t : Tree) (token : Token) (p : ℕ) (level : Level) (outer : List Level)
      → read_factor (tree_operand t) (valued_level level) (map valued_level outer) (symbol_for n number token) (move p) ≡ checked (Position.factor t) level outer (token, p)
  factor_step t (Token.whole k) p level outer = refl
  factor_step t (Token.name word) p level outer = refl
  factor_step t Token.plus p level outer =
      ap (λ (w : Operand). Ok (reads Expected.Operand (record { sum = SumSoFar.Plus w (move p); product = ProductSoFar.Empty }) (map valued_level outer))) (value-level level t)
  factor_step t Token.minus p level outer =
      ap (λ (w : Operand). Ok (reads Expected.Operand (record { sum = SumSoFar.Minus w (move p); product = ProductSoFar.Empty }) (map valued_level outer))) (value-level level t)
  factor_step t Token.times p level outer =
      ap (λ (w : Operand). Ok (reads Expected.Operand (record { sum = valued_terms level.terms; product = ProductSoFar.Times w (move p) }) (map valued_level outer))) (value-product level.factors t)
  factor_step t Token.over p level outer =
      ap (λ (w : Operand). Ok (reads Expected.Operand (record { sum = valued_terms level.terms; product = ProductSoFar.Over w (move p) }) (map valued_level outer))) (value-product level.factors t)
  factor_step t Token.power p level outer = refl
  factor_step t Token.opening p level outer = refl
  factor_step t Token.closing p level outer = closed_step (whole_sum level t) (level_value (valued_level level) (tree_operand t)) p level outer (value-level level t)
  factor_step t Token.stray p level outer = refl

  primary_step : (t : Tree) (token : Token) (p : ℕ) (level : Level) (outer : List Level)
      → read_primary (tree_operand t) (valued_level level) (map valued_level outer) (symbol_for n number token) (move p) ≡ checked (Position.primary t) level outer (token, p)
  primary_step t (Token.whole k) p level outer = refl
  primary_step t (Token.name word) p level outer = refl
  primary_step t Token.plus p level outer = factor_step t Token.plus p level outer
  primary_step t Token.minus p level outer = factor_step t Token.minus p level outer
  primary_step t Token.times p level outer = factor_step t Token.times p level outer
  primary_step t Token.over p level outer = factor_step t Token.over p level outer
  primary_step t Token.power p level outer = refl
  primary_step t Token.opening p level outer = refl
  primary_step t Token.closing p level outer = factor_step t Token.closing p level outer
  primary_step t Token.stray p level outer = refl

  power_if : (b small : Bool) (t : Tree) (q k p : ℕ) (level : Level) (outer : List Level) → nat_lt k (2 ^ 128) ≡ b → nat_lt POWER_LIMIT k ≡ small
      → read_exponent (tree_operand t) (move q) (valued_level level) (map valued_level outer) (Symbol.Whole (cond b (Some k) None)) (move p)
      ≡ mapped (unless_fault (cond small (Some (TextFault.PowerOver p)) None) (record { position = Position.factor (Tree.power t q k); level = level; outer = outer }))
  power_if true small t q k p level outer e f =
      ap (λ c. cond c (Err (TextFault.PowerOver (move p))) (Ok (reads (Expected.Factor (raised (tree_operand t) (move q) k)) (valued_level level) (map valued_level outer)))) f
      ∙ ap (λ (w : Operand). cond small (Err (TextFault.PowerOver (move p))) (Ok (reads (Expected.Factor w) (valued_level level) (map valued_level outer))))
      (then_moved move (value (names_of n number) t) (λ g. power_of q g k) (λ g. power_of (move q) g k) (λ g. power_moved move q g k))
      ∙ power_end small t q k p level outer
    where
      power_end : (small : Bool) (t : Tree) (q k p : ℕ) (level : Level) (outer : List Level)
          → cond small (Err (TextFault.PowerOver (move p))) (Ok (reads (Expected.Factor (tree_operand (Tree.power t q k))) (valued_level level) (map valued_level outer)))
          ≡ mapped (unless_fault (cond small (Some (TextFault.PowerOver p)) None) (record { position = Position.factor (Tree.power t q k); level = level; outer = outer }))
      power_end true t q k p level outer = refl
      power_end false t q k p level outer = refl
  power_if false true t q k p level outer e f = refl
  power_if false false t q k p level outer e f = absurd (omega (arith, ltb-false k (2 ^ 128) e, ltb-false POWER_LIMIT k f))

  exponent_step : (t : Tree) (q : ℕ) (token : Token) (p : ℕ) (level : Level) (outer : List Level)
      → read_exponent (tree_operand t) (move q) (valued_level level) (map valued_level outer) (symbol_for n number token) (move p) ≡ checked (Position.exponent t q) level outer (token, p)
  exponent_step t q (Token.whole k) p level outer = power_if (nat_lt k (2 ^ 128)) (nat_lt POWER_LIMIT k) t q k p level outer refl refl
  exponent_step t q (Token.name word) p level outer = refl
  exponent_step t q Token.plus p level outer = refl
  exponent_step t q Token.minus p level outer = refl
  exponent_step t q Token.times p level outer = refl
  exponent_step t q Token.over p level outer = refl
  exponent_step t q Token.power p level outer = refl
  exponent_step t q Token.opening p level outer = refl
  exponent_step t q Token.closing p level outer = refl
  exponent_step t q Token.stray p level outer = refl

  any_step : (position : Position) (token : Token) (p : ℕ) (level : Level) (outer : List Level)
      → read_next (valued_at position level outer) (symbol_for n number token) (move p) ≡ checked position level outer (token, p)
  any_step Position.start token p level outer = start_step token p level outer
  any_step Position.operand token p level outer = operand_step token p level outer
  any_step (Position.primary t) token p level outer = primary_step t token p level outer
  any_step (Position.factor t) token p level outer = factor_step t token p level outer
  any_step (Position.exponent t q) token p level outer = exponent_step t q token p level outer

  end_at : (end : ℕ) (position : Position) (level : Level) (outer : List Level)
      → read_end (valued_at position level outer) (move end) ≡ moved move (tree_value (names_of n number) (whole_tree end (complete_at position level outer)))
  end_at end Position.start level outer = refl
  end_at end Position.operand level outer = refl
  end_at end (Position.primary t) level [] = value-level level t
  end_at end (Position.primary t) level (next ∷ outer) = refl
  end_at end (Position.factor t) level [] = value-level level t
  end_at end (Position.factor t) level (next ∷ outer) = refl
  end_at end (Position.exponent t q) level outer = refl

  abbrev read_whole : ℕ → Reading → List (Token × ℕ) → Operand
  read_whole end reading ts = then_reading (read_tokens n number reading (map (token_moved move) ts)) (λ r. read_end r (move end))

  on_step : (end : ℕ) (ts : List (Token × ℕ)) (read : Result Reading TextFault) (made : Result State TextFault) → read ≡ mapped made
      → ((state : State) → read_whole end (valued state) ts ≡ moved move (tree_value (names_of n number) (tree_from (is_known n number) end state ts)))
      → then_reading (then_reading read (λ after. read_tokens n number after (map (token_moved move) ts))) (λ r. read_end r (move end))
      ≡ moved move (tree_value (names_of n number) (then_state made (λ after. tree_from (is_known n number) end after ts)))
  on_step end ts read (Ok state) e others =
      ap (λ (r : Result Reading TextFault). then_reading (then_reading r (λ after. read_tokens n number after (map (token_moved move) ts))) (λ r. read_end r (move end))) e ∙ others state
  on_step end ts read (Err fault) e others =
      ap (λ (r : Result Reading TextFault). then_reading (then_reading r (λ after. read_tokens n number after (map (token_moved move) ts))) (λ r. read_end r (move end))) e

  read_is_value : (end : ℕ) (ts : List (Token × ℕ)) (state : State)
      → read_whole end (valued state) ts ≡ moved move (tree_value (names_of n number) (tree_from (is_known n number) end state ts))
  read_is_value end [] state = end_at end state.position state.level state.outer
  read_is_value end (token ∷ ts) state =
      on_step end ts _ (checked_next (is_known n number) state token) (any_step state.position token.0 token.1 state.level state.outer) (λ after. read_is_value end ts after)

  pub moved_answer : (bytes : List ℕ) → then_reading (read_tokens n number first_reading (map (token_moved move) (tokens bytes))) (λ r. read_end r (move (length bytes))) ≡ moved move (text_answer n number bytes)
  unfolding text_answer
  moved_answer bytes = read_is_value (length bytes) (tokens bytes) first_state
