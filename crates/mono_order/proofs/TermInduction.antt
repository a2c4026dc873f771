-- Induction over terms: the low ones first, by their heights, and then the high ones.
use Rattle.std.proofs.Common.{◌≡◌, ℕ, zero, suc, ◌<◌, ◌≤◌, Bool, true, false, ⊎_elim, sum, sym, refl, ◌∙◌, arith}
use Rattle.std.proofs.lemmas.Bool.{cases_lt}
use Rattle.std.specs.declared.cmp.Ordering.{Ordering}
use Rattle.std.specs.declared.cmp.Ordering.TheVariants.{Less, Greater}
use Rattle.ibp_algebra.proofs.Canonical.{Less-reverse}
use Rattle.mono_order.specs.Term.{Term, IsTerm}
use Rattle.mono_order.specs.TermOrder.{IsTermOrder}

module _ {variables : ℕ} {order : Term → Term → Ordering} {high : ℕ → Bool} {height : Term → ℕ} {bound : ℕ}
    (laws : IsTermOrder variables order high height bound) where
  -- a term below a low one is low
  pub low_below : (s t : Term) → high s.0 ≡ false → order s t ≡ Greater → high t.0 ≡ false
  low_below s t low above =
      elim (high t.0) as (λ b. high t.0 ≡ b → b ≡ false) [
        | true ↦ λ e. let k = laws.high_above t s e low in let l = Less-reverse order laws.total s t above in cc
        | false ↦ λ e. refl
      ] refl

  -- and its degree is not above that of the low one
  pub low_degree_below : (limit : ℕ) (s t : Term) → (high s.0 ≡ false) × (sum s.1 ≤ limit) → order s t ≡ Greater → (high t.0 ≡ false) × (sum t.1 ≤ limit)
  low_degree_below limit s t low above =
      let low_t = low_below s t low.0 above in (
        low_t,
        ⊎_elim
            (λ (more : sum s.1 < sum t.1). let k = laws.degree_first t s low_t low.0 more in let l = Less-reverse order laws.total s t above in absurd (let clash : Less ≡ Greater = sym l ∙ k in cc))
            (λ (le : sum t.1 ≤ sum s.1). omega (arith, low.1))
            (cases_lt (sum s.1) (sum t.1)),
      )

  module _ (P : Term → Type 0) (step : (t : Term) → IsTerm variables t → ((u : Term) → IsTerm variables u → order t u ≡ Greater → P u) → P t) where
    low : (n : ℕ) (t : Term) → IsTerm variables t → high t.0 ≡ false → height t < n → P t
    low zero t v l h = absurd (omega arith)
    low (suc n) t v l h =
        step t v (λ u w above.
        let lu : high u.0 ≡ false = low_below t u l above in
        low n u w lu (omega (arith, laws.height_falls t u v w (l ∙ sym lu) above)))

    any : (n : ℕ) (t : Term) → IsTerm variables t → height t < n → (b : Bool) → high t.0 ≡ b → P t
    any n t v h false e = low n t v e h
    any zero t v h true e = absurd (omega arith)
    any (suc n) t v h true e =
        step t v (λ u w above.
        elim (high u.0) as (λ b. high u.0 ≡ b → P u) [
          | true ↦ λ k. any n u w (omega (arith, laws.height_falls t u v w (e ∙ sym k) above)) true k
          | false ↦ λ k. low (suc (height u)) u w k (omega arith)
        ] refl)

    pub term_induction : (t : Term) → IsTerm variables t → P t
    term_induction t v = any (suc (height t)) t v (omega arith) (high t.0) refl
