-- The measure of a vector falls with its lead, where the degrees are bounded.
use Rattle.std.proofs.Common.{◌≡◌, ℕ, suc, ◌+◌, ◌<◌, ◌≤◌, Bool, true, false, if◌then◌else◌, sum, [], ◌∷◌, sym, refl, ◌∙◌, arith}
use Rattle.std.specs.declared.cmp.Ordering.{Ordering}
use Rattle.std.specs.declared.cmp.Ordering.TheVariants.{Greater}
use Rattle.ibp_algebra.specs.FormalSum.{AllKeys, AllBelow}
use Rattle.mono_order.specs.declared.limits.TheConstants.{MONO_DEGREE}
use Rattle.mono_order.specs.Term.{Term, IsTerm}
use Rattle.mono_order.specs.TermOrder.{IsTermOrder}
use Rattle.mono_order.proofs.TermInduction.{low_below}
use Rattle.module_vec.specs.ModuleVector.{ModuleVector}

-- A measure of what a division has left: it is zero for the zero vector, and falls with the lead. The high
-- terms come after all bounded low ones.
abbrev pub lead_measure : (ℕ → Bool) → (Term → ℕ) → ℕ → ModuleVector → ℕ
lead_measure high height bound [] = 0
lead_measure high height bound (term ∷ rest) = if high term.0.0 then suc (bound + height term.0) else suc (height term.0)

module _ {variables : ℕ} {order : Term → Term → Ordering} {high : ℕ → Bool} {height : Term → ℕ} {bound : ℕ}
    (laws : IsTermOrder variables order high height bound) where
  measure_of : Bool → Term → ℕ
  measure_of b t = if b then suc (bound + height t) else suc (height t)

  falls : (s t : Term) → IsTerm variables s → IsTerm variables t → sum t.1 ≤ MONO_DEGREE → order s t ≡ Greater → (b c : Bool) → high s.0 ≡ b → high t.0 ≡ c → measure_of c t < measure_of b s
  unfolding measure_of
  falls s t p q small above true true e f = omega (arith, laws.height_falls s t p q (e ∙ sym f) above)
  falls s t p q small above true false e f = omega (arith, laws.height_bounded t q small)
  falls s t p q small above false true e f = let low = low_below laws s t e above in let clash : true ≡ false = sym f ∙ low in cc
  falls s t p q small above false false e f = omega (arith, laws.height_falls s t p q (e ∙ sym f) above)

  -- a vector with all terms below the lead of another one has the lesser measure
  pub lead_measure-falls : (t : Term × ℕ) (v w : ModuleVector) → IsTerm variables t.0 → AllKeys (λ u. IsTerm variables u × (sum u.1 ≤ MONO_DEGREE)) w → AllBelow order t.0 w
      → lead_measure high height bound w < lead_measure high height bound (t ∷ v)
  unfolding measure_of
  lead_measure-falls t v [] p h below = positive (high t.0.0) t.0
    where
      positive : (b : Bool) (s : Term) → 0 < measure_of b s
      positive true s = omega arith
      positive false s = omega arith
  lead_measure-falls t v (u ∷ w) p h below = falls t.0 u.0 p h.0.0 h.0.1 below.0 (high t.0.0) (high u.0.0) refl refl
