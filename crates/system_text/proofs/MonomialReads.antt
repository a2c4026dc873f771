-- A monomial that is read power by power.
use Rattle.std.proofs.Common.{◌≡◌, ◌≢◌, ℕ, suc, ◌+◌, ◌-◌, ◌<◌, ◌≤◌, List, [], ◌∷◌, ◌++◌, length, sum, drop, get_or, set, Bool, true, false, refl, sym, ap, ◌∙◌, append_assoc, subst, arith}
use Rattle.std.specs.Prelude.{nat_eq, nat_lt}
use Rattle.std.proofs.lemmas.Bool.{eqb-true, eq-eqb, ltb-true, ltb-false}
use Rattle.std.proofs.lemmas.List.{ext_get_or, get_or-set_same, get_or-set_other, get_or-drop, length-drop}
use Rattle.ibp_algebra.proofs.SumOfExponents.{get_or-le-sum}
use Rattle.mono_order.specs.declared.limits.TheConstants.{VARIABLES, RUN_DEGREE}
use Rattle.family.specs.Shapes.{HasVariables}
use Rattle.system_text.specs.Texts.{power_text, powers_text, monomial_text}
use Rattle.system_text.specs.Polynomials.{EndsTerm, EndsPower}
use Rattle.system_text.proofs.Powers.{powers_next}
use Rattle.system_text.proofs.PowerEnds.{powers_end}

-- what is left behind the powers before z_i, and the powers that were read
pub record ReadPowers (m : List ℕ) (final : List ℕ) (i : ℕ) (exponents rest : List ℕ) : Type 0 where
  pub left : rest ≡ powers_text i (drop (i - 1) m) ++ final
  pub read : (k : ℕ) → k < i - 1 → get_or exponents k 0 ≡ get_or m k 0

pub none_read : (m final exponents bytes : List ℕ) → bytes ≡ monomial_text m ++ final → ReadPowers m final 1 exponents bytes
none_read m final exponents bytes e = record { left = e; read = λ k less. absurd (omega arith) }

pub next_power : (m final rest : List ℕ) (i : ℕ) → 1 ≤ i → i ≤ length m → rest ≡ powers_text i (drop (i - 1) m) ++ final
    → rest ≡ power_text i (get_or m (i - 1) 0) ++ (powers_text (i + 1) (drop ((i + 1) - 1) m) ++ final)
next_power m final rest i low high e =
    e ∙ ap (λ (t : List ℕ). t ++ final) (powers_next m i low high)
    ∙ append_assoc (power_text i (get_or m (i - 1) 0)) (powers_text (i + 1) (drop ((i + 1) - 1) m)) final

pub next_ends : (m final : List ℕ) (i : ℕ) → 1 ≤ i → i ≤ VARIABLES → length m ≡ VARIABLES → EndsTerm final → EndsPower i (powers_text (i + 1) (drop ((i + 1) - 1) m) ++ final)
next_ends m final i low high long ends =
    powers_end i (i + 1) (drop ((i + 1) - 1) m) final (omega arith) (omega (arith, high, long, length-drop ((i + 1) - 1) m)) ends

pub within_degree : (m : List ℕ) (i : ℕ) → sum m ≤ RUN_DEGREE → get_or m (i - 1) 0 ≤ RUN_DEGREE
within_degree m i within = omega (arith, within, get_or-le-sum m (i - 1))

pub one_read : (m final exponents rest others : List ℕ) (i e : ℕ) → 1 ≤ i → i ≤ length exponents → ReadPowers m final i exponents rest
    → (e ≡ get_or m (i - 1) 0) × (others ≡ powers_text (i + 1) (drop ((i + 1) - 1) m) ++ final) → ReadPowers m final (i + 1) (set exponents (i - 1) e) others
one_read m final exponents rest others i e low high so_far (same, left) =
    record { left = left; read = λ k less. by k less (nat_eq k (i - 1)) refl }
  where
    differ : (a b : ℕ) → nat_eq a b ≡ false → a ≢ b
    differ a b is at = let wrong : true ≡ false = sym (eq-eqb a b at) ∙ is in absurd (cc)

    by : (k : ℕ) → k < (i + 1) - 1 → (is : Bool) → nat_eq k (i - 1) ≡ is → get_or (set exponents (i - 1) e) k 0 ≡ get_or m k 0
    by k less true is =
        let at : k ≡ i - 1 = eqb-true k (i - 1) is in
        subst (λ j. get_or (set exponents (i - 1) e) j 0 ≡ get_or m j 0) (sym at) (get_or-set_same exponents (i - 1) e 0 (omega arith) ∙ same)
    by k less false is =
        let other : k ≢ i - 1 = λ at. differ k (i - 1) is at in
        get_or-set_other exponents (i - 1) k e 0 other ∙ so_far.read k (omega (arith, other))

pub still_none : (exponents : List ℕ) (i e : ℕ) → 1 ≤ i → ((k : ℕ) → i - 1 ≤ k → get_or exponents k 0 ≡ 0) → (k : ℕ) → (i + 1) - 1 ≤ k → get_or (set exponents (i - 1) e) k 0 ≡ 0
still_none exponents i e low none k past =
    let other : k ≢ i - 1 = omega arith in
    get_or-set_other exponents (i - 1) k e 0 other ∙ none k (omega arith)

no_powers : (k : ℕ) (es : List ℕ) → ((j : ℕ) → get_or es j 0 ≡ 0) → powers_text k es ≡ []
no_powers k [] none = refl
no_powers k (e ∷ es) none =
    let here : e ≡ 0 = none 0 in
    ap (λ (x : ℕ). power_text k x ++ powers_text (suc k) es) here ∙ no_powers (suc k) es (λ j. none (suc j))

-- all variables were read
pub all_read : (n : ℕ) (m final exponents rest : List ℕ) (i : ℕ) → i ≡ n + 1 → HasVariables n m → length exponents ≡ VARIABLES → ((k : ℕ) → i - 1 ≤ k → get_or exponents k 0 ≡ 0)
    → ReadPowers m final i exponents rest → (exponents ≡ m) × (rest ≡ final)
all_read n m final exponents rest i i_is has long none so_far =
    let past : i - 1 ≡ n = omega arith in (
      ext_get_or 0 exponents m (long ∙ sym has.each_variable) (λ k _. by k (nat_lt k (i - 1)) refl),
      so_far.left ∙ ap (λ (t : List ℕ). t ++ final) (no_powers i (drop (i - 1) m) (λ j. get_or-drop (i - 1) m j 0 ∙ has.none_beyond ((i - 1) + j) (omega (arith, past)))),
    )
  where
    by : (k : ℕ) → (less : Bool) → nat_lt k (i - 1) ≡ less → get_or exponents k 0 ≡ get_or m k 0
    by k true less = so_far.read k (ltb-true k (i - 1) less)
    by k false less =
        let beyond : i - 1 ≤ k = ltb-false k (i - 1) less in
        none k beyond ∙ sym (has.none_beyond k (omega (arith, i_is, beyond)))
