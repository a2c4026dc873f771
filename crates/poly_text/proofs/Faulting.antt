-- Reading answers the first fault of form, or the tree where there is none.
use Rattle.std.proofs.Common.{◌≡◌, ◌^◌, ◌+◌, ◌↔◌, ℕ, List, [], ◌∷◌, ◌++◌, length, Bool, true, false, cond, refl, sym, ap, subst, ◌∙◌, inl, inr, append_assoc, arith}
use Rattle.std.specs.Prelude.{Option, Some, None, is_some, Result, Ok, Err, nat_lt, ◌==◌, count_by}
use Rattle.std.proofs.lemmas.List.{append-nil}
use Rattle.std.proofs.lemmas.List.Sums.{sum_by_push}
use Rattle.std.proofs.lemmas.Bool.{ltb-true, ltb-false}
use Rattle.std.proofs.lemmas.Bool.Decides.{Decides-eqb, not_from_Decides}
use Rattle.ibp_algebra.specs.Polynomial.{Polynomial}
use Rattle.poly_text.specs.declared.fault.TextFault.{TextFault}
use Rattle.poly_text.specs.declared.limits.TheConstants.{POWER_LIMIT, DEPTH_LIMIT}
use Rattle.poly_text.specs.Token.{Token}
use Rattle.poly_text.specs.Scanning.{tokens}
use Rattle.poly_text.specs.Tree.{Tree, IsText}
use Rattle.poly_text.specs.Grammar.{Level, Position, State, first_state, is_exponent, next, next_at, closed, complete, form_fault, after_next, then_state, whole_tree, tree_from, tree_of}
use Rattle.poly_text.proofs.Accepts.{run, run_next}
use Rattle.poly_text.specs.Faults.{IsFront, IsAllowed, EndsWithPower, is_opening, is_closing, open_count, IsTokenFault, HasNoTokenFault, IsFirstFault}
use Rattle.poly_text.proofs.Accepts.{accepts, complete_run}
use Rattle.poly_text.specs.PolyText.{IsTextAnswer}
use Rattle.poly_text.specs.PolyText.{names_of, is_known}
use Rattle.poly_text.specs.Answer.{tree_value, text_answer}
use Rattle.poly_text.proofs.Spelling.{tokens_are, spelled}
use Rattle.poly_text.proofs.Places.{last_same, none_in_nothing, none_in_one_more, first_fault_unique, no_first_fault}
use Rattle.poly_text.proofs.Accepting.{Tokens, text_accepted}
use Rattle.poly_text.proofs.Deriving.{accepted_text, front_runs, runs_front, run_append}

-- what a state says of the tokens that have been read
abbrev Reached : Tokens → State → Type 0
Reached front state =
    (run first_state front ≡ Some state) × ((is_exponent state.position ≡ true) ↔ EndsWithPower front)
    × (count_by is_opening front ≡ count_by is_closing front + length state.outer)

abbrev is_power : Token → Bool
is_power Token.power = true
is_power token = false

is_power_token : (token : Token) → is_power token ≡ true → token ≡ Token.power
is_power_token (Token.whole k) e = absurd (cc)
is_power_token (Token.name word) e = absurd (cc)
is_power_token Token.plus e = absurd (cc)
is_power_token Token.minus e = absurd (cc)
is_power_token Token.times e = absurd (cc)
is_power_token Token.over e = absurd (cc)
is_power_token Token.power e = refl
is_power_token Token.opening e = absurd (cc)
is_power_token Token.closing e = absurd (cc)
is_power_token Token.stray e = absurd (cc)

-- what one more token changes
abbrev StepTells : Token → ℕ → ℕ → Option State → Type 0
StepTells token p depth None = Unit {0}
StepTells token p depth (Some after) =
    (is_exponent after.position ≡ is_power token) × (cond (is_opening (token, p)) 1 0 + depth ≡ cond (is_closing (token, p)) 1 0 + length after.outer)

operand_tells : (level : Level) (outer : List Level) (token : Token) (p : ℕ) → StepTells token p (length outer) (next_at Position.operand level outer (token, p))
operand_tells level outer (Token.whole k) p = (refl, refl)
operand_tells level outer (Token.name word) p = (refl, refl)
operand_tells level outer Token.opening p = (refl, omega arith)
operand_tells level outer token p = tt

start_tells : (level : Level) (outer : List Level) (token : Token) (p : ℕ) → StepTells token p (length outer) (next_at Position.start level outer (token, p))
start_tells level outer Token.plus p = (refl, refl)
start_tells level outer Token.minus p = (refl, refl)
start_tells level outer (Token.whole k) p = (refl, refl)
start_tells level outer (Token.name word) p = (refl, refl)
start_tells level outer Token.opening p = (refl, omega arith)
start_tells level outer token p = tt

closed_tells : (t : Tree) (outer : List Level) (p : ℕ) → StepTells Token.closing p (length outer) (closed t outer)
closed_tells t [] p = tt
closed_tells t (level ∷ outer) p = (refl, omega arith)

factor_tells : (t : Tree) (level : Level) (outer : List Level) (token : Token) (p : ℕ) → StepTells token p (length outer) (next_at (Position.factor t) level outer (token, p))
factor_tells t level outer Token.plus p = (refl, refl)
factor_tells t level outer Token.minus p = (refl, refl)
factor_tells t level outer Token.times p = (refl, refl)
factor_tells t level outer Token.over p = (refl, refl)
factor_tells t level outer Token.closing p = closed_tells _ outer p
factor_tells t level outer token p = tt

primary_tells : (t : Tree) (level : Level) (outer : List Level) (token : Token) (p : ℕ) → StepTells token p (length outer) (next_at (Position.primary t) level outer (token, p))
primary_tells t level outer Token.power p = (refl, refl)
primary_tells t level outer Token.plus p = (refl, refl)
primary_tells t level outer Token.minus p = (refl, refl)
primary_tells t level outer Token.times p = (refl, refl)
primary_tells t level outer Token.over p = (refl, refl)
primary_tells t level outer Token.closing p = closed_tells _ outer p
primary_tells t level outer token p = tt

exponent_tells : (t : Tree) (q : ℕ) (level : Level) (outer : List Level) (token : Token) (p : ℕ) → StepTells token p (length outer) (next_at (Position.exponent t q) level outer (token, p))
exponent_tells t q level outer (Token.whole k) p = (refl, refl)
exponent_tells t q level outer token p = tt

step_tells : (position : Position) (level : Level) (outer : List Level) (token : Token) (p : ℕ) → StepTells token p (length outer) (next_at position level outer (token, p))
step_tells Position.start level outer token p = start_tells level outer token p
step_tells Position.operand level outer token p = operand_tells level outer token p
step_tells (Position.primary t) level outer token p = primary_tells t level outer token p
step_tells (Position.factor t) level outer token p = factor_tells t level outer token p
step_tells (Position.exponent t q) level outer token p = exponent_tells t q level outer token p

power_last : (front : Tokens) (token : Token) (p : ℕ) → (is_power token ≡ true) ↔ EndsWithPower (front ++ (token, p) ∷ [])
power_last front token p = (
  λ e. (front, p, ap (λ s. front ++ (s, p) ∷ []) (is_power_token token e)),
  λ h. let e = last_same front h.0 (token, p) (Token.power, h.1) h.2 in ap (λ (x : Token × ℕ). is_power x.0) e,
)

run_one : (front : Tokens) (state : State) (token : Token × ℕ) → run first_state front ≡ Some state → run first_state (front ++ token ∷ []) ≡ next state token
run_one front state token e =
    run_append front (token ∷ []) first_state ∙ ap (λ o. run_next o (λ s. run s (token ∷ []))) e ∙ last (next state token)
  where
    last : (o : Option State) → run_next o (λ s. run s []) ≡ o
    last None = refl
    last (Some s) = refl

reached_first : Reached [] first_state
reached_first = (refl, (λ e. absurd (cc), λ h. absurd (nothing h.0 h.1 h.2)), refl)
  where
    nothing : (before : Tokens) (p : ℕ) → [] ≡ before ++ (Token.power, p) ∷ [] → ⊥
    nothing [] p e = absurd (cc)
    nothing (x ∷ before) p e = absurd (cc)

reached_next : (front : Tokens) (state : State) (token : Token) (p : ℕ) (after : State) → Reached front state → next state (token, p) ≡ Some after → Reached (front ++ (token, p) ∷ []) after
reached_next front state token p after r e =
    let s : StepTells token p (length state.outer) (Some after) = subst (λ o. StepTells token p (length state.outer) o) e (step_tells state.position state.level state.outer token p) in
    let openings = sum_by_push (λ x. cond (is_opening x) 1 0) front (token, p) in
    let closings = sum_by_push (λ x. cond (is_closing x) 1 0) front (token, p) in (
      run_one front state (token, p) r.0 ∙ e,
      (λ h. (power_last front token p).0 (sym s.0 ∙ h), λ h. s.0 ∙ (power_last front token p).1 h),
      omega (arith, openings, closings, s.1, r.2),
    )

is_front : (front : Tokens) (state : State) (token : Token) (p : ℕ) (after : State) → Reached front state → next state (token, p) ≡ Some after → IsAllowed front (token, p)
is_front front state token p after r e = runs_front (front ++ (token, p) ∷ []) (ap is_some (run_one front state (token, p) r.0 ∙ e))

-- what a token that the grammar allows breaks
abbrev has_limit : Token → Bool
has_limit (Token.whole k) = true
has_limit (Token.name word) = true
has_limit Token.opening = true
has_limit token = false

module _ (known : List ℕ → Bool) (front : Tokens) where
  abbrev LimitTold : Token × ℕ → Option TextFault → Type 0
  LimitTold token None = (fault : TextFault) → ¬ IsTokenFault known front token fault
  LimitTold token (Some fault) = IsTokenFault known front token fault

  name_told : (word : List ℕ) (p : ℕ) (b : Bool) → known word ≡ b → IsAllowed front (Token.name word, p)
      → LimitTold (Token.name word, p) (cond b None (Some (TextFault.UnknownName p)))
  name_told word p false e allowed = IsTokenFault.unknown_name allowed e
  name_told word p true e allowed = none
    where
      none : (fault : TextFault) → ¬ IsTokenFault known front (Token.name word, p) fault
      none fault (IsTokenFault.syntax n) = n allowed
      none fault (IsTokenFault.unknown_name a u) = absurd (cc)

  power_told : (k p : ℕ) (b : Bool) → nat_lt POWER_LIMIT k ≡ b → IsAllowed front (Token.whole k, p) → EndsWithPower front
      → LimitTold (Token.whole k, p) (cond b (Some (TextFault.PowerOver p)) None)
  power_told k p true e allowed behind = IsTokenFault.power_over allowed behind (ltb-true POWER_LIMIT k e)
  power_told k p false e allowed behind = none
    where
      none : (fault : TextFault) → ¬ IsTokenFault known front (Token.whole k, p) fault
      none fault (IsTokenFault.syntax n) = n allowed
      none fault (IsTokenFault.number_over a other large) = other behind
      none fault (IsTokenFault.power_over a same large) = absurd (omega (arith, ltb-false POWER_LIMIT k e))

  number_told : (k p : ℕ) (b : Bool) → nat_lt k (2 ^ 128) ≡ b → IsAllowed front (Token.whole k, p) → ¬ EndsWithPower front
      → LimitTold (Token.whole k, p) (cond b None (Some (TextFault.NumberOver p)))
  number_told k p false e allowed other = IsTokenFault.number_over allowed other (ltb-false k (2 ^ 128) e)
  number_told k p true e allowed other = none
    where
      none : (fault : TextFault) → ¬ IsTokenFault known front (Token.whole k, p) fault
      none fault (IsTokenFault.syntax n) = n allowed
      none fault (IsTokenFault.number_over a still large) = absurd (omega (arith, ltb-true k (2 ^ 128) e))
      none fault (IsTokenFault.power_over a behind large) = other behind

  whole_told : (k p : ℕ) (b : Bool) → (b ≡ true) ↔ EndsWithPower front → IsAllowed front (Token.whole k, p)
      → LimitTold (Token.whole k, p) (cond b (cond (nat_lt POWER_LIMIT k) (Some (TextFault.PowerOver p)) None) (cond (nat_lt k (2 ^ 128)) None (Some (TextFault.NumberOver p))))
  whole_told k p true h allowed = power_told k p (nat_lt POWER_LIMIT k) refl allowed (h.0 refl)
  whole_told k p false h allowed = number_told k p (nat_lt k (2 ^ 128)) refl allowed (λ behind. absurd (let e = h.1 behind in cc))

  opening_told : (p depth : ℕ) (b : Bool) → (depth == DEPTH_LIMIT) ≡ b → open_count front ≡ depth → IsAllowed front (Token.opening, p)
      → LimitTold (Token.opening, p) (cond b (Some (TextFault.DepthOver p)) None)
  opening_told p depth true e same allowed = IsTokenFault.depth_over allowed (same ∙ (Decides-eqb depth DEPTH_LIMIT).0 e)
  opening_told p depth false e same allowed = none
    where
      none : (fault : TextFault) → ¬ IsTokenFault known front (Token.opening, p) fault
      none fault (IsTokenFault.syntax n) = n allowed
      none fault (IsTokenFault.depth_over a at_limit) = not_from_Decides _ (Decides-eqb depth DEPTH_LIMIT) e (sym same ∙ at_limit)

  no_limit : (token : Token) (p : ℕ) → has_limit token ≡ false → IsAllowed front (token, p) → LimitTold (token, p) None
  no_limit token p e allowed fault (IsTokenFault.syntax n) = n allowed
  no_limit token p e allowed fault (IsTokenFault.unknown_name a u) = absurd (cc)
  no_limit token p e allowed fault (IsTokenFault.number_over a other large) = absurd (cc)
  no_limit token p e allowed fault (IsTokenFault.power_over a behind large) = absurd (cc)
  no_limit token p e allowed fault (IsTokenFault.depth_over a at_limit) = absurd (cc)

  limit_told : (state : State) (token : Token) (p : ℕ) → Reached front state → IsAllowed front (token, p) → LimitTold (token, p) (form_fault known state (token, p))
  limit_told state (Token.whole k) p r allowed = whole_told k p (is_exponent state.position) r.1 allowed
  limit_told state (Token.name word) p r allowed = name_told word p (known word) refl allowed
  limit_told state Token.opening p r allowed = opening_told p (length state.outer) (length state.outer == DEPTH_LIMIT) refl (omega (arith, r.2)) allowed
  limit_told state token p r allowed = no_limit token p refl allowed

-- what reading the rest answers
no_text : (ts : Tokens) → accepts ts ≡ None → (t : Tree) → ¬ IsText ts t
no_text ts none t h = absurd (let a = text_accepted ts t h in cc)

no_front : (ts : Tokens) → run first_state ts ≡ None → ¬ IsFront ts
no_front ts none h = absurd (let s = front_runs ts h in cc)

module _ (known : List ℕ → Bool) (end : ℕ) where
  abbrev Told : Tokens → Result Tree TextFault → Type 0
  Told ts (Ok t) = IsText ts t × HasNoTokenFault known ts
  Told ts (Err fault) = IsFirstFault known end ts fault

  end_told : (ts : Tokens) (state : State) (o : Option Tree) → Reached ts state → complete state ≡ o → HasNoTokenFault known ts → Told ts (whole_tree end o)
  end_told ts state None r e none = inr (refl, none, no_text ts (ap complete_run r.0 ∙ e))
  end_told ts state (Some t) r e none = (accepted_text ts t (ap complete_run r.0 ∙ e), none)

  next_told : (front : Tokens) (state : State) (token : Token) (p : ℕ) (ts : Tokens) (after : Option State) (fault : Option TextFault) → Reached front state → next state (token, p) ≡ after
      → HasNoTokenFault known front → (IsAllowed front (token, p) → LimitTold known front (token, p) fault)
      → ((s : State) → Reached (front ++ (token, p) ∷ []) s → HasNoTokenFault known (front ++ (token, p) ∷ []) → Told (front ++ (token, p) ∷ ts) (tree_from known end s ts))
      → Told (front ++ (token, p) ∷ ts) (then_state (after_next p after fault) (λ s. tree_from known end s ts))
  next_told front state token p ts None fault r e none limit go =
      inl (front, (token, p), ts, refl, none, IsTokenFault.syntax (no_front (front ++ (token, p) ∷ []) (run_one front state (token, p) r.0 ∙ e)))
  next_told front state token p ts (Some after) (Some fault) r e none limit go =
      inl (front, (token, p), ts, refl, none, limit (is_front front state token p after r e))
  next_told front state token p ts (Some after) None r e none limit go =
      go after (reached_next front state token p after r e) (none_in_one_more known front (token, p) none (limit (is_front front state token p after r e)))

  told : (ts front : Tokens) (state : State) → Reached front state → HasNoTokenFault known front → Told (front ++ ts) (tree_from known end state ts)
  told [] front state r none = subst (λ (l : Tokens). Told l (whole_tree end (complete state))) (sym (append-nil front)) (end_told front state (complete state) r refl none)
  told (token ∷ ts) front state r none =
      next_told front state token.0 token.1 ts (next state token) (form_fault known state token) r refl none (limit_told known front state token.0 token.1 r) (λ s reached none_yet.
      subst (λ (l : Tokens). Told l (tree_from known end s ts)) (append_assoc front (token ∷ []) ts) (told ts (front ++ token ∷ []) s reached none_yet))

  tree_told : (ts : Tokens) → Told ts (tree_of known end ts)
  tree_told ts = told ts [] first_state reached_first (none_in_nothing known)

  tree_answered : (ts : Tokens) (t : Tree) (r : Result Tree TextFault) → Told ts r → IsText ts t → HasNoTokenFault known ts → r ≡ Ok t
  tree_answered ts t (Ok u) h text none = let same = text_accepted ts t text in let other = text_accepted ts u h.0 in cc
  tree_answered ts t (Err fault) h text none = absurd (no_first_fault known end ts t fault text none h)

  fault_answered : (ts : Tokens) (fault : TextFault) (r : Result Tree TextFault) → Told ts r → IsFirstFault known end ts fault → r ≡ Err fault
  fault_answered ts fault (Ok t) h first = absurd (no_first_fault known end ts t fault h.0 h.1 first)
  fault_answered ts fault (Err g) h first = ap Err (first_fault_unique known end ts g fault h first)

pub tree_is : (known : List ℕ → Bool) (end : ℕ) (ts : Tokens) (t : Tree) → (tree_of known end ts ≡ Ok t) ↔ (IsText ts t × HasNoTokenFault known ts)
tree_is known end ts t = (
  λ e. subst (λ r. Told known end ts r) e (tree_told known end ts),
  λ h. tree_answered known end ts t (tree_of known end ts) (tree_told known end ts) h.0 h.1,
)

pub fault_is : (known : List ℕ → Bool) (end : ℕ) (ts : Tokens) (fault : TextFault) → (tree_of known end ts ≡ Err fault) ↔ IsFirstFault known end ts fault
fault_is known end ts fault = (
  λ e. subst (λ r. Told known end ts r) e (tree_told known end ts),
  λ h. fault_answered known end ts fault (tree_of known end ts) (tree_told known end ts) h,
)

-- the answer to a text
from_tree : (n : ℕ) (number : List ℕ → Option ℕ) (bytes : List ℕ) (r : Result Tree TextFault) → Told (is_known n number) (length bytes) (tokens bytes) r
    → IsTextAnswer n number bytes (tree_value (names_of n number) r)
from_tree n number bytes (Ok t) h = IsTextAnswer.of_tree (spelled bytes) h.0 h.1
from_tree n number bytes (Err fault) h = IsTextAnswer.of_form (spelled bytes) h

is_answer : (n : ℕ) (number : List ℕ → Option ℕ) (bytes : List ℕ) {answer : Result Polynomial TextFault} → IsTextAnswer n number bytes answer → text_answer n number bytes ≡ answer
unfolding text_answer
is_answer n number bytes (IsTextAnswer.of_form {ts = ts} {fault = fault} s h) =
    ap (λ l. tree_value (names_of n number) (tree_of (is_known n number) (length bytes) l)) (tokens_are s)
    ∙ ap (tree_value (names_of n number)) ((fault_is (is_known n number) (length bytes) ts fault).1 h)
is_answer n number bytes (IsTextAnswer.of_tree {ts = ts} {t = t} s h none) =
    ap (λ l. tree_value (names_of n number) (tree_of (is_known n number) (length bytes) l)) (tokens_are s)
    ∙ ap (tree_value (names_of n number)) ((tree_is (is_known n number) (length bytes) ts t).1 (h, none))

pub answer_is : (n : ℕ) (number : List ℕ → Option ℕ) (bytes : List ℕ) (answer : Result Polynomial TextFault) → (text_answer n number bytes ≡ answer) ↔ IsTextAnswer n number bytes answer
unfolding text_answer
answer_is n number bytes answer = (
  λ e. subst (λ r. IsTextAnswer n number bytes r) e (from_tree n number bytes _ (tree_told (is_known n number) (length bytes) (tokens bytes))),
  λ h. is_answer n number bytes h,
)

-- no text of the grammar has a byte that begins no token
stray_stops : (position : Position) (level : Level) (outer : List Level) (p : ℕ) → next_at position level outer (Token.stray, p) ≡ None
stray_stops Position.start level outer p = refl
stray_stops Position.operand level outer p = refl
stray_stops (Position.primary t) level outer p = refl
stray_stops (Position.factor t) level outer p = refl
stray_stops (Position.exponent t q) level outer p = refl

pub stray_fault : (known : List ℕ → Bool) (front : Tokens) (at : ℕ) → IsTokenFault known front (Token.stray, at) (TextFault.Syntax at)
stray_fault known front at = IsTokenFault.syntax (no_front (front ++ (Token.stray, at) ∷ []) (run_append front ((Token.stray, at) ∷ []) first_state ∙ stops (run first_state front)))
  where
    stops : (o : Option State) → run_next o (λ s. run s ((Token.stray, at) ∷ [])) ≡ None
    stops None = refl
    stops (Some s) = ap (λ o. run_next o (λ s. run s [])) (stray_stops s.position s.level s.outer at)
