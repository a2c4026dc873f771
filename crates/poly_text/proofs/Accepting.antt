-- Reading accepts the texts of the grammar, and each with its tree.
use Rattle.std.proofs.Common.{◌≡◌, ℕ, List, [], ◌∷◌, refl, ap, ◌∙◌}
use Rattle.std.specs.Prelude.{Some}
use Rattle.poly_text.specs.Token.{Token}
use Rattle.poly_text.specs.Tree.{Tree, IsSum, IsProduct, IsFactor, IsPrimary, IsText}
use Rattle.poly_text.specs.Grammar.{Terms, Factors, Level, Position, State, empty_level, product_with, whole_sum, complete_at}
use Rattle.poly_text.proofs.Accepts.{run}
use Rattle.poly_text.proofs.Accepts.{accepts, complete_run}

abbrev pub Tokens : Type 0
Tokens = List (Token × ℕ)

abbrev pub state_at : Position → Level → List Level → State
state_at position level outer = record { position = position; level = level; outer = outer }

abbrev pub level_of : Terms → Factors → Level
level_of terms factors = record { terms = terms; factors = factors }

-- this tree has just been read
abbrev pub Behind : Position → Tree → Type 0
Behind Position.start t = ⊥
Behind Position.operand t = ⊥
Behind (Position.primary u) t = u ≡ t
Behind (Position.factor u) t = u ≡ t
Behind (Position.exponent u p) t = ⊥

after_times : (position : Position) (u : Tree) (level : Level) (outer : List Level) (p : ℕ) (us : Tokens) → Behind position u
    → run (state_at position level outer) ((Token.times, p) ∷ us) ≡ run (state_at Position.operand (level_of level.terms (Factors.times (product_with level.factors u) p)) outer) us
after_times Position.start u level outer p us b = absurd b
after_times Position.operand u level outer p us b = absurd b
after_times (Position.primary v) u level outer p us b = ap (λ w. run (state_at Position.operand (level_of level.terms (Factors.times (product_with level.factors w) p)) outer) us) b
after_times (Position.factor v) u level outer p us b = ap (λ w. run (state_at Position.operand (level_of level.terms (Factors.times (product_with level.factors w) p)) outer) us) b
after_times (Position.exponent v q) u level outer p us b = absurd b

after_over : (position : Position) (u : Tree) (level : Level) (outer : List Level) (p : ℕ) (us : Tokens) → Behind position u
    → run (state_at position level outer) ((Token.over, p) ∷ us) ≡ run (state_at Position.operand (level_of level.terms (Factors.over (product_with level.factors u) p)) outer) us
after_over Position.start u level outer p us b = absurd b
after_over Position.operand u level outer p us b = absurd b
after_over (Position.primary v) u level outer p us b = ap (λ w. run (state_at Position.operand (level_of level.terms (Factors.over (product_with level.factors w) p)) outer) us) b
after_over (Position.factor v) u level outer p us b = ap (λ w. run (state_at Position.operand (level_of level.terms (Factors.over (product_with level.factors w) p)) outer) us) b
after_over (Position.exponent v q) u level outer p us b = absurd b

after_plus : (position : Position) (u : Tree) (level : Level) (outer : List Level) (p : ℕ) (us : Tokens) → Behind position u
    → run (state_at position level outer) ((Token.plus, p) ∷ us) ≡ run (state_at Position.operand (level_of (Terms.plus (whole_sum level u) p) Factors.none) outer) us
after_plus Position.start u level outer p us b = absurd b
after_plus Position.operand u level outer p us b = absurd b
after_plus (Position.primary v) u level outer p us b = ap (λ w. run (state_at Position.operand (level_of (Terms.plus (whole_sum level w) p) Factors.none) outer) us) b
after_plus (Position.factor v) u level outer p us b = ap (λ w. run (state_at Position.operand (level_of (Terms.plus (whole_sum level w) p) Factors.none) outer) us) b
after_plus (Position.exponent v q) u level outer p us b = absurd b

after_minus : (position : Position) (u : Tree) (level : Level) (outer : List Level) (p : ℕ) (us : Tokens) → Behind position u
    → run (state_at position level outer) ((Token.minus, p) ∷ us) ≡ run (state_at Position.operand (level_of (Terms.minus (whole_sum level u) p) Factors.none) outer) us
after_minus Position.start u level outer p us b = absurd b
after_minus Position.operand u level outer p us b = absurd b
after_minus (Position.primary v) u level outer p us b = ap (λ w. run (state_at Position.operand (level_of (Terms.minus (whole_sum level w) p) Factors.none) outer) us) b
after_minus (Position.factor v) u level outer p us b = ap (λ w. run (state_at Position.operand (level_of (Terms.minus (whole_sum level w) p) Factors.none) outer) us) b
after_minus (Position.exponent v q) u level outer p us b = absurd b

pub after_closing : (position : Position) (u : Tree) (level next : Level) (outer : List Level) (p : ℕ) (us : Tokens) → Behind position u
    → run (state_at position level (next ∷ outer)) ((Token.closing, p) ∷ us) ≡ run (state_at (Position.primary (whole_sum level u)) next outer) us
after_closing Position.start u level next outer p us b = absurd b
after_closing Position.operand u level next outer p us b = absurd b
after_closing (Position.primary v) u level next outer p us b = ap (λ w. run (state_at (Position.primary (whole_sum level w)) next outer) us) b
after_closing (Position.factor v) u level next outer p us b = ap (λ w. run (state_at (Position.primary (whole_sum level w)) next outer) us) b
after_closing (Position.exponent v q) u level next outer p us b = absurd b

pub complete_behind : (position : Position) (u : Tree) (level : Level) → Behind position u → complete_at position level [] ≡ Some (whole_sum level u)
complete_behind Position.start u level b = absurd b
complete_behind Position.operand u level b = absurd b
complete_behind (Position.primary v) u level b = ap (λ w. Some (whole_sum level w)) b
complete_behind (Position.factor v) u level b = ap (λ w. Some (whole_sum level w)) b
complete_behind (Position.exponent v q) u level b = absurd b

abbrev RunsFactor : Tokens → Tree → Tokens → Type 0
RunsFactor ts t rest = (level : Level) (outer : List Level)
    → (position : Position) × Behind position t × (run (state_at Position.operand level outer) ts ≡ run (state_at position level outer) rest)

abbrev RunsPrimary : Tokens → Tree → Tokens → Type 0
RunsPrimary ts t rest = (level : Level) (outer : List Level) → run (state_at Position.operand level outer) ts ≡ run (state_at (Position.primary t) level outer) rest

abbrev RunsProduct : Tokens → Tree → Tokens → Type 0
RunsProduct ts t rest = (terms : Terms) (outer : List Level)
    → (position : Position) × (factors : Factors) × (u : Tree) × Behind position u × (product_with factors u ≡ t)
    × (run (state_at Position.operand (level_of terms Factors.none) outer) ts ≡ run (state_at position (level_of terms factors) outer) rest)

abbrev RunsSum : Tokens → Tree → Tokens → Type 0
RunsSum ts t rest = (outer : List Level)
    → (position : Position) × (level : Level) × (u : Tree) × Behind position u × (whole_sum level u ≡ t)
    × (run (state_at Position.start empty_level outer) ts ≡ run (state_at position level outer) rest)

-- no product begins with a sign
starts_primary : {ts rest : Tokens} {t : Tree} → IsPrimary ts t rest → (level : Level) (outer : List Level)
    → run (state_at Position.start level outer) ts ≡ run (state_at Position.operand level outer) ts
starts_primary IsPrimary.number level outer = refl
starts_primary IsPrimary.named level outer = refl
starts_primary (IsPrimary.group h) level outer = refl

starts_factor : {ts rest : Tokens} {t : Tree} → IsFactor ts t rest → (level : Level) (outer : List Level)
    → run (state_at Position.start level outer) ts ≡ run (state_at Position.operand level outer) ts
starts_factor (IsFactor.plain h) level outer = starts_primary h level outer
starts_factor (IsFactor.raised h) level outer = starts_primary h level outer

starts_product : {ts rest : Tokens} {t : Tree} → IsProduct ts t rest → (level : Level) (outer : List Level)
    → run (state_at Position.start level outer) ts ≡ run (state_at Position.operand level outer) ts
starts_product (IsProduct.single h) level outer = starts_factor h level outer
starts_product (IsProduct.multiplied h k) level outer = starts_product h level outer
starts_product (IsProduct.divided h k) level outer = starts_product h level outer

mutual
  runs_sum : {ts rest : Tokens} {t : Tree} → IsSum ts t rest → RunsSum ts t rest
  runs_sum (IsSum.first h) outer =
      let r = runs_product h Terms.none outer in
      (r.0, level_of Terms.none r.1, r.2, r.3, r.4, starts_product h empty_level outer ∙ r.5)
  runs_sum (IsSum.signed h) outer =
      let r = runs_product h Terms.none outer in
      (r.0, level_of Terms.none r.1, r.2, r.3, r.4, r.5)
  runs_sum (IsSum.negated h) outer =
      let r = runs_product h Terms.negative outer in
      (r.0, level_of Terms.negative r.1, r.2, r.3, ap Tree.negative r.4, r.5)
  runs_sum (IsSum.added {us = us} {t = t} {p = p} h k) outer =
      let s = runs_sum h outer in
      let r = runs_product k (Terms.plus t p) outer in (
        r.0,
        level_of (Terms.plus t p) r.1,
        r.2,
        r.3,
        ap (Tree.plus t p) r.4,
        s.5 ∙ after_plus s.0 s.2 s.1 outer p us s.3 ∙ ap (λ w. run (state_at Position.operand (level_of (Terms.plus w p) Factors.none) outer) us) s.4 ∙ r.5,
      )
  runs_sum (IsSum.taken {us = us} {t = t} {p = p} h k) outer =
      let s = runs_sum h outer in
      let r = runs_product k (Terms.minus t p) outer in (
        r.0,
        level_of (Terms.minus t p) r.1,
        r.2,
        r.3,
        ap (Tree.minus t p) r.4,
        s.5 ∙ after_minus s.0 s.2 s.1 outer p us s.3 ∙ ap (λ w. run (state_at Position.operand (level_of (Terms.minus w p) Factors.none) outer) us) s.4 ∙ r.5,
      )

  runs_product : {ts rest : Tokens} {t : Tree} → IsProduct ts t rest → RunsProduct ts t rest
  runs_product (IsProduct.single {t = t} h) terms outer =
      let r = runs_factor h (level_of terms Factors.none) outer in
      (r.0, Factors.none, t, r.1, refl, r.2)
  runs_product (IsProduct.multiplied {us = us} {t = t} {u = u} {p = p} h k) terms outer =
      let s = runs_product h terms outer in
      let r = runs_factor k (level_of terms (Factors.times t p)) outer in (
        r.0,
        Factors.times t p,
        u,
        r.1,
        refl,
        s.5 ∙ after_times s.0 s.2 (level_of terms s.1) outer p us s.3 ∙ ap (λ w. run (state_at Position.operand (level_of terms (Factors.times w p)) outer) us) s.4 ∙ r.2,
      )
  runs_product (IsProduct.divided {us = us} {t = t} {u = u} {p = p} h k) terms outer =
      let s = runs_product h terms outer in
      let r = runs_factor k (level_of terms (Factors.over t p)) outer in (
        r.0,
        Factors.over t p,
        u,
        r.1,
        refl,
        s.5 ∙ after_over s.0 s.2 (level_of terms s.1) outer p us s.3 ∙ ap (λ w. run (state_at Position.operand (level_of terms (Factors.over w p)) outer) us) s.4 ∙ r.2,
      )

  runs_factor : {ts rest : Tokens} {t : Tree} → IsFactor ts t rest → RunsFactor ts t rest
  runs_factor (IsFactor.plain {t = t} h) level outer = (Position.primary t, refl, runs_primary h level outer)
  runs_factor (IsFactor.raised {t = t} {p = p} {k = k} h) level outer = (Position.factor (Tree.power t p k), refl, runs_primary h level outer)

  runs_primary : {ts rest : Tokens} {t : Tree} → IsPrimary ts t rest → RunsPrimary ts t rest
  runs_primary IsPrimary.number level outer = refl
  runs_primary IsPrimary.named level outer = refl
  runs_primary (IsPrimary.group {rest = rest} {t = t} {q = q} h) level outer =
      let s = runs_sum h (level ∷ outer) in
      s.5 ∙ after_closing s.0 s.2 s.1 level outer q rest s.3 ∙ ap (λ w. run (state_at (Position.primary w) level outer) rest) s.4

pub text_accepted : (ts : Tokens) (t : Tree) → IsText ts t → accepts ts ≡ Some t
text_accepted ts t h =
    let s = runs_sum h [] in
    ap complete_run s.5 ∙ complete_behind s.0 s.2 s.1 s.3 ∙ ap (λ w. Some w) s.4
