-- What reading accepts is a text of the grammar, and wherever reading is not stuck a text may go on.
use Rattle.std.proofs.Common.{◌≡◌, ℕ, List, [], ◌∷◌, ◌++◌, refl, sym, ap, subst, ◌∙◌}
use Rattle.std.specs.Prelude.{Option, Some, None, IsSome}
use Rattle.poly_text.specs.Token.{Token}
use Rattle.poly_text.specs.Tree.{Tree, IsSum, IsProduct, IsFactor, IsPrimary, IsText}
use Rattle.poly_text.specs.Grammar.{Terms, Factors, Level, Position, State, empty_level, first_state, product_with, sum_with, whole_sum, next, next_at, closed, complete_at}
use Rattle.poly_text.proofs.Accepts.{run, run_next}
use Rattle.poly_text.specs.Faults.{IsFront}
use Rattle.poly_text.proofs.Accepts.{accepts, complete_run}
use Rattle.poly_text.proofs.Accepting.{Tokens, state_at, level_of, text_accepted}

-- what the terms and the factors that were read make of what follows
abbrev GivesSum : Terms → Tokens → Tokens → Type 0
GivesSum terms from now = (t : Tree) (rest : Tokens) → IsProduct now t rest → IsSum from (sum_with terms t) rest

abbrev GivesProduct : Factors → Tokens → Tokens → Type 0
GivesProduct factors from now = (t : Tree) (rest : Tokens) → IsFactor now t rest → IsProduct from (product_with factors t) rest

abbrev AtLevel : Level → Tokens → Tokens → Type 0
AtLevel level from now = (middle : Tokens) × GivesSum level.terms from middle × GivesProduct level.factors middle now

abbrev AtOuter : List Level → Tokens → Tokens → Type 0
AtOuter [] all now = all ≡ now
AtOuter (level ∷ outer) all now =
    (from : Tokens) × (p : ℕ) × AtOuter outer all from × AtLevel level from ((Token.opening, p) ∷ now)

abbrev AtPosition : Position → Level → Tokens → Tokens → Type 0
AtPosition Position.start level from rest = (level ≡ empty_level) × (from ≡ rest)
AtPosition Position.operand level from rest = AtLevel level from rest
AtPosition (Position.primary t) level from rest = (now : Tokens) × AtLevel level from now × IsPrimary now t rest
AtPosition (Position.factor t) level from rest = (now : Tokens) × AtLevel level from now × IsFactor now t rest
AtPosition (Position.exponent t p) level from rest = (now : Tokens) × AtLevel level from now × IsPrimary now t ((Token.power, p) ∷ rest)

abbrev AtState : Tokens → State → Tokens → Type 0
AtState all state rest = (from : Tokens) × AtOuter state.outer all from × AtPosition state.position state.level from rest

abbrev AfterNext : Tokens → Option State → Tokens → Type 0
AfterNext all None rest = Unit {0}
AfterNext all (Some state) rest = AtState all state rest

none_product : (now : Tokens) → GivesProduct Factors.none now now
none_product now t rest h = IsProduct.single h

fresh_level : (terms : Terms) (from now : Tokens) → GivesSum terms from now → AtLevel (level_of terms Factors.none) from now
fresh_level terms from now h = (now, h, none_product now)

sum_of_level : (level : Level) (from now : Tokens) (t : Tree) (rest : Tokens) → AtLevel level from now → IsFactor now t rest → IsSum from (whole_sum level t) rest
sum_of_level level from now t rest h f = h.1 (product_with level.factors t) rest (h.2 t rest f)

operand_step : (all from : Tokens) (level : Level) (outer : List Level) (token : Token) (p : ℕ) (rest : Tokens) → AtOuter outer all from → AtLevel level from ((token, p) ∷ rest)
    → AfterNext all (next_at Position.operand level outer (token, p)) rest
operand_step all from level outer (Token.whole k) p rest o h = (from, o, ((Token.whole k, p) ∷ rest, h, IsPrimary.number))
operand_step all from level outer (Token.name word) p rest o h = (from, o, ((Token.name word, p) ∷ rest, h, IsPrimary.named))
operand_step all from level outer Token.plus p rest o h = tt
operand_step all from level outer Token.minus p rest o h = tt
operand_step all from level outer Token.times p rest o h = tt
operand_step all from level outer Token.over p rest o h = tt
operand_step all from level outer Token.power p rest o h = tt
operand_step all from level outer Token.opening p rest o h = (rest, (from, p, o, h), (refl, refl))
operand_step all from level outer Token.closing p rest o h = tt
operand_step all from level outer Token.stray p rest o h = tt

-- at the beginning of a sum
empty_gives : (from : Tokens) → AtLevel empty_level from from
empty_gives from = fresh_level Terms.none from from (λ t rest h. IsSum.first h)

start_step : (all from : Tokens) (outer : List Level) (token : Token) (p : ℕ) (rest : Tokens) → AtOuter outer all from → from ≡ (token, p) ∷ rest
    → AfterNext all (next_at Position.start empty_level outer (token, p)) rest
start_step all from outer Token.plus p rest o e =
    (from, o, fresh_level Terms.none from rest (λ t others h. subst (λ (l : Tokens). IsSum l t others) (sym e) (IsSum.signed h)))
start_step all from outer Token.minus p rest o e =
    (from, o, fresh_level Terms.negative from rest (λ t others h. subst (λ (l : Tokens). IsSum l (Tree.negative t) others) (sym e) (IsSum.negated h)))
start_step all from outer (Token.whole k) p rest o e = operand_step all from empty_level outer (Token.whole k) p rest o (subst (λ (l : Tokens). AtLevel empty_level from l) e (empty_gives from))
start_step all from outer (Token.name word) p rest o e = operand_step all from empty_level outer (Token.name word) p rest o (subst (λ (l : Tokens). AtLevel empty_level from l) e (empty_gives from))
start_step all from outer Token.times p rest o e = tt
start_step all from outer Token.over p rest o e = tt
start_step all from outer Token.power p rest o e = tt
start_step all from outer Token.opening p rest o e = operand_step all from empty_level outer Token.opening p rest o (subst (λ (l : Tokens). AtLevel empty_level from l) e (empty_gives from))
start_step all from outer Token.closing p rest o e = tt
start_step all from outer Token.stray p rest o e = tt

closing_step : (all from : Tokens) (t : Tree) (outer : List Level) (p : ℕ) (rest : Tokens) → AtOuter outer all from → IsSum from t ((Token.closing, p) ∷ rest)
    → AfterNext all (closed t outer) rest
closing_step all from t [] p rest o h = tt
closing_step all from t (level ∷ outer) p rest o h = (o.0, o.2, ((Token.opening, o.1) ∷ from, o.3, IsPrimary.group h))

factor_step : (all from now : Tokens) (t : Tree) (level : Level) (outer : List Level) (token : Token) (p : ℕ) (rest : Tokens) → AtOuter outer all from → AtLevel level from now
    → IsFactor now t ((token, p) ∷ rest) → AfterNext all (next_at (Position.factor t) level outer (token, p)) rest
factor_step all from now t level outer (Token.whole k) p rest o h f = tt
factor_step all from now t level outer (Token.name word) p rest o h f = tt
factor_step all from now t level outer Token.plus p rest o h f =
    (from, o, fresh_level (Terms.plus (whole_sum level t) p) from rest (λ u others k. IsSum.added (sum_of_level level from now t _ h f) k))
factor_step all from now t level outer Token.minus p rest o h f =
    (from, o, fresh_level (Terms.minus (whole_sum level t) p) from rest (λ u others k. IsSum.taken (sum_of_level level from now t _ h f) k))
factor_step all from now t level outer Token.times p rest o h f =
    (from, o, (h.0, h.1, λ u others k. IsProduct.multiplied (h.2 t _ f) k))
factor_step all from now t level outer Token.over p rest o h f =
    (from, o, (h.0, h.1, λ u others k. IsProduct.divided (h.2 t _ f) k))
factor_step all from now t level outer Token.power p rest o h f = tt
factor_step all from now t level outer Token.opening p rest o h f = tt
factor_step all from now t level outer Token.closing p rest o h f = closing_step all from (whole_sum level t) outer p rest o (sum_of_level level from now t _ h f)
factor_step all from now t level outer Token.stray p rest o h f = tt

primary_step : (all from now : Tokens) (t : Tree) (level : Level) (outer : List Level) (token : Token) (p : ℕ) (rest : Tokens) → AtOuter outer all from → AtLevel level from now
    → IsPrimary now t ((token, p) ∷ rest) → AfterNext all (next_at (Position.primary t) level outer (token, p)) rest
primary_step all from now t level outer (Token.whole k) p rest o h f = tt
primary_step all from now t level outer (Token.name word) p rest o h f = tt
primary_step all from now t level outer Token.plus p rest o h f = factor_step all from now t level outer Token.plus p rest o h (IsFactor.plain f)
primary_step all from now t level outer Token.minus p rest o h f = factor_step all from now t level outer Token.minus p rest o h (IsFactor.plain f)
primary_step all from now t level outer Token.times p rest o h f = factor_step all from now t level outer Token.times p rest o h (IsFactor.plain f)
primary_step all from now t level outer Token.over p rest o h f = factor_step all from now t level outer Token.over p rest o h (IsFactor.plain f)
primary_step all from now t level outer Token.power p rest o h f = (from, o, (now, h, f))
primary_step all from now t level outer Token.opening p rest o h f = tt
primary_step all from now t level outer Token.closing p rest o h f = factor_step all from now t level outer Token.closing p rest o h (IsFactor.plain f)
primary_step all from now t level outer Token.stray p rest o h f = tt

exponent_step : (all from now : Tokens) (t : Tree) (q : ℕ) (level : Level) (outer : List Level) (token : Token) (p : ℕ) (rest : Tokens) → AtOuter outer all from → AtLevel level from now
    → IsPrimary now t ((Token.power, q) ∷ (token, p) ∷ rest) → AfterNext all (next_at (Position.exponent t q) level outer (token, p)) rest
exponent_step all from now t q level outer (Token.whole k) p rest o h f = (from, o, (now, h, IsFactor.raised f))
exponent_step all from now t q level outer (Token.name word) p rest o h f = tt
exponent_step all from now t q level outer Token.plus p rest o h f = tt
exponent_step all from now t q level outer Token.minus p rest o h f = tt
exponent_step all from now t q level outer Token.times p rest o h f = tt
exponent_step all from now t q level outer Token.over p rest o h f = tt
exponent_step all from now t q level outer Token.power p rest o h f = tt
exponent_step all from now t q level outer Token.opening p rest o h f = tt
exponent_step all from now t q level outer Token.closing p rest o h f = tt
exponent_step all from now t q level outer Token.stray p rest o h f = tt

any_step : (all from : Tokens) (position : Position) (level : Level) (outer : List Level) (token : Token) (p : ℕ) (rest : Tokens) → AtOuter outer all from → AtPosition position level from ((token, p) ∷ rest)
    → AfterNext all (next_at position level outer (token, p)) rest
any_step all from Position.start level outer token p rest o h =
    subst (λ (l : Level). AfterNext all (next_at Position.start l outer (token, p)) rest) (sym h.0) (start_step all from outer token p rest o h.1)
any_step all from Position.operand level outer token p rest o h = operand_step all from level outer token p rest o h
any_step all from (Position.primary t) level outer token p rest o h = primary_step all from h.0 t level outer token p rest o h.1 h.2
any_step all from (Position.factor t) level outer token p rest o h = factor_step all from h.0 t level outer token p rest o h.1 h.2
any_step all from (Position.exponent t q) level outer token p rest o h = exponent_step all from h.0 t q level outer token p rest o h.1 h.2

mutual_run : (all : Tokens) (after : Option State) (ts : Tokens) → AfterNext all after ts → ((state : State) → AtState all state ts → AfterNext all (run state ts) [])
    → AfterNext all (run_next after (λ state. run state ts)) []
mutual_run all None ts h go = tt
mutual_run all (Some state) ts h go = go state h

run_step : (all ts : Tokens) (state : State) → AtState all state ts → AfterNext all (run state ts) []
run_step all [] state h = h
run_step all (token ∷ ts) state h =
    mutual_run all (next state token) ts (any_step all h.0 state.position state.level state.outer token.0 token.1 ts h.1 h.2) (λ after. run_step all ts after)

abbrev Ends : Tokens → Option Tree → Type 0
Ends all None = Unit {0}
Ends all (Some t) = IsText all t

end_step : (all from : Tokens) (position : Position) (level : Level) (outer : List Level) → AtOuter outer all from → AtPosition position level from []
    → Ends all (complete_at position level outer)
end_step all from Position.start level outer o h = tt
end_step all from Position.operand level outer o h = tt
end_step all from (Position.primary t) level [] o h = subst (λ (l : Tokens). IsText l (whole_sum level t)) (sym o) (sum_of_level level from h.0 t [] h.1 (IsFactor.plain h.2))
end_step all from (Position.primary t) level (next ∷ outer) o h = tt
end_step all from (Position.factor t) level [] o h = subst (λ (l : Tokens). IsText l (whole_sum level t)) (sym o) (sum_of_level level from h.0 t [] h.1 h.2)
end_step all from (Position.factor t) level (next ∷ outer) o h = tt
end_step all from (Position.exponent t q) level outer o h = tt

run_end : (all : Tokens) (state : Option State) → AfterNext all state [] → Ends all (complete_run state)
run_end all None h = tt
run_end all (Some state) h = end_step all h.0 state.position state.level state.outer h.1 h.2

first_step : (all : Tokens) → AtState all first_state all
first_step all = (all, refl, (refl, refl))

pub accepted_text : (ts : Tokens) (t : Tree) → accepts ts ≡ Some t → IsText ts t
accepted_text ts t e = subst (λ o. Ends ts o) e (run_end ts (run first_state ts) (run_step ts ts first_state (first_step ts)))

-- where reading is not stuck a text may go on
abbrev GoesOn : State → Type 0
GoesOn state = (more : Tokens) × (t : Tree) × (complete_run (run state more) ≡ Some t)

close_all : (outer : List Level) (level : Level) (u : Tree) → GoesOn (state_at (Position.primary u) level outer)
close_all [] level u = ([], whole_sum level u, refl)
close_all (next ∷ outer) level u =
    let r = close_all outer next (whole_sum level u) in
    ((Token.closing, 0) ∷ r.0, r.1, r.2)

close_factor : (outer : List Level) (level : Level) (u : Tree) → GoesOn (state_at (Position.factor u) level outer)
close_factor [] level u = ([], whole_sum level u, refl)
close_factor (next ∷ outer) level u =
    let r = close_all outer next (whole_sum level u) in
    ((Token.closing, 0) ∷ r.0, r.1, r.2)

goes_on : (position : Position) (level : Level) (outer : List Level) → GoesOn (state_at position level outer)
goes_on Position.start level outer = let r = close_all outer level (Tree.whole 0) in ((Token.whole 0, 0) ∷ r.0, r.1, r.2)
goes_on Position.operand level outer = let r = close_all outer level (Tree.whole 0) in ((Token.whole 0, 0) ∷ r.0, r.1, r.2)
goes_on (Position.primary t) level outer = close_all outer level t
goes_on (Position.factor t) level outer = close_factor outer level t
goes_on (Position.exponent t p) level outer = let r = close_factor outer level (Tree.power t p 0) in ((Token.whole 0, 0) ∷ r.0, r.1, r.2)

next_append : (after : Option State) (ts more : Tokens) → ((state : State) → run state (ts ++ more) ≡ run_next (run state ts) (λ s. run s more))
    → run_next after (λ s. run s (ts ++ more)) ≡ run_next (run_next after (λ s. run s ts)) (λ s. run s more)
next_append None ts more h = refl
next_append (Some state) ts more h = h state

pub run_append : (ts more : Tokens) (state : State) → run state (ts ++ more) ≡ run_next (run state ts) (λ s. run s more)
run_append [] more state = refl
run_append (token ∷ ts) more state = next_append (next state token) ts more (λ s. run_append ts more s)

some_front : (after : Option State) (more : Tokens) (t : Tree) → complete_run (run_next after (λ s. run s more)) ≡ Some t → IsSome after
some_front None more t e = absurd (cc)
some_front (Some state) more t e = refl

pub front_runs : (ts : Tokens) → IsFront ts → IsSome (run first_state ts)
front_runs ts h =
    some_front (run first_state ts) h.0 h.1 (ap complete_run (sym (run_append ts h.0 first_state)) ∙ text_accepted (ts ++ h.0) h.1 h.2)

front_from : (ts : Tokens) (after : Option State) → run first_state ts ≡ after → IsSome after → IsFront ts
front_from ts None e h = absurd (cc)
front_from ts (Some state) e h =
    let r = goes_on state.position state.level state.outer in
    (r.0, r.1, accepted_text (ts ++ r.0) r.1 (ap complete_run (run_append ts r.0 first_state ∙ ap (λ o. run_next o (λ s. run s r.0)) e) ∙ r.2))

pub runs_front : (ts : Tokens) → IsSome (run first_state ts) → IsFront ts
runs_front ts h = front_from ts (run first_state ts) refl h
