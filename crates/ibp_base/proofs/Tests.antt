-- What tests say when they pass or fail, and answers that are no other answer.
use Rattle.std.proofs.Common.{◌≡◌, ◌≢◌, Bool, true, false, not, ◌&&◌, Option, Some, None, Result, Ok, refl, sym, ◌∙◌, ap, ℕ}
use Rattle.std.proofs.Math.Dec.{eqb}
use Rattle.std.proofs.lemmas.Bool.{eq-eqb}

pub is_false : (b : Bool) → ¬ (b ≡ true) → b ≡ false
is_false true h = absurd (h refl)
is_false false h = refl

pub not_false : (b : Bool) → not b ≡ true → b ≡ false
not_false true h = absurd (cc)
not_false false h = refl

pub both_true : (a b : Bool) → (a && b) ≡ true → (a ≡ true) × (b ≡ true)
both_true true b e = (refl, e)
both_true false b e = cc

pub and_true : (a b : Bool) → a ≡ true → b ≡ true → (a && b) ≡ true
and_true true b e k = k
and_true false b e k = cc

-- a test that two numbers differ
pub differ : (a b : ℕ) (r : Bool) → r ≡ not (eqb b a) → r ≡ true → a ≢ b
differ a b r is passed same =
    let bad : ◌≡◌ {A = Bool} true false = sym passed ∙ is ∙ ap not (eq-eqb b a (sym same)) in
    absurd (cc)

pub same_ok : {A E : Type 0} (x y : A) → ◌≡◌ {A = Result A E} (Ok x) (Ok y) → x ≡ y
same_ok x y h = cc

pub some_is_not_none : {X : Type 0} (x : X) → ◌≡◌ {A = Option X} None (Some x) → ⊥
some_is_not_none x h = absurd (cc)
