-- Laws of power products and terms: divisibility, quotients and least common multiples.
use Rattle.std.proofs.Common.{◌≡◌, ◌≢◌, ℕ, zero, suc, ◌+◌, ◌-◌, Bool, true, length, replicate, List, [], ◌∷◌, sym, refl, ap, subst, ◌∙◌, arith}
use Rattle.std.specs.Prelude.{nat_eq, nat_le, max}
use Rattle.std.specs.Bool.{Decides}
use Rattle.std.specs.Cmp.{unsigned_Decides}
use Rattle.std.proofs.lemmas.Bool.{leb-true, le-leb}
use Rattle.std.proofs.Math.Nat.{le-max_left, le-max_right, max-le}
use Rattle.ibp_base.proofs.Tests.{both_true, and_true}
use Rattle.ibp_algebra.specs.Exponents.{add_exponents, same_exponents}
use Rattle.ibp_algebra.proofs.ExponentLaws.{length-padded_sum, padded_sum_assoc, padded_sum_comm}
use Rattle.ibp_algebra.specs.ExponentOrder.{exponents_decide}
use Rattle.std.specs.declared.cmp.Ordering.{Ordering}
use Rattle.std.specs.declared.cmp.Ordering.TheVariants.{Less}
use Rattle.mono_order.specs.TermOrder.{IsTermOrder}
use Rattle.mono_order.specs.Term.{Term, same_term, multiply_term, divides, divides_exponents, quotient_exponents, lcm_exponents, lcm_term, IsTerm}

pub terms_decide : (s t : Term) → Decides (same_term s t) (s ≡ t)
terms_decide s t = (
  λ e.
      let parts = both_true (nat_eq s.0 t.0) (same_exponents s.1 t.1) e in
      let component : s.0 ≡ t.0 = (unsigned_Decides s.0 t.0).0 parts.0 in
      let exponents : s.1 ≡ t.1 = (exponents_decide s.1 t.1).0 parts.1 in
      λ i. (component i, exponents i),
  λ e. and_true (nat_eq s.0 t.0) (same_exponents s.1 t.1) ((unsigned_Decides s.0 t.0).1 (ap (λ (u : Term). u.0) e)) ((exponents_decide s.1 t.1).1 (ap (λ (u : Term). u.1) e)),
)

-- ---- exponents, with as many in each list

quotient_step : (x y : ℕ) → nat_le x y ≡ true → (y - x) + x ≡ y
quotient_step x y e = omega (arith, leb-true x y e)

pub quotient-times : (n : ℕ) (xs ys : List ℕ) → length xs ≡ n → length ys ≡ n → divides_exponents xs ys ≡ true → add_exponents (quotient_exponents ys xs) xs ≡ ys
quotient-times n [] [] p q e = refl
quotient-times n [] (y ∷ ys) p q e = absurd (omega arith)
quotient-times n (x ∷ xs) [] p q e = absurd (omega arith)
quotient-times zero (x ∷ xs) (y ∷ ys) p q e = absurd (omega arith)
quotient-times (suc n) (x ∷ xs) (y ∷ ys) p q e =
    let parts = both_true (nat_le x y) (divides_exponents xs ys) e in
    λ i. quotient_step x y parts.0 i ∷ quotient-times n xs ys (omega arith) (omega arith) parts.1 i

pub length-quotient : (n : ℕ) (xs ys : List ℕ) → length xs ≡ n → length ys ≡ n → length (quotient_exponents ys xs) ≡ n
length-quotient n xs [] p q = q
length-quotient n [] (y ∷ ys) p q = q
length-quotient zero (x ∷ xs) (y ∷ ys) p q = absurd (omega arith)
length-quotient (suc n) (x ∷ xs) (y ∷ ys) p q = omega (arith, length-quotient n xs ys (omega arith) (omega arith))

pub divides-times : (m xs : List ℕ) → length m ≡ length xs → divides_exponents xs (add_exponents m xs) ≡ true
divides-times [] [] p = refl
divides-times [] (x ∷ xs) p = absurd (omega arith)
divides-times (a ∷ m) [] p = absurd (omega arith)
divides-times (a ∷ m) (x ∷ xs) p = and_true _ _ (le-leb x (a + x) (omega arith)) (divides-times m xs (omega arith))

pub divides-lcm_left : (xs ys : List ℕ) → length xs ≡ length ys → divides_exponents xs (lcm_exponents xs ys) ≡ true
divides-lcm_left [] ys p = refl
divides-lcm_left (x ∷ xs) [] p = absurd (omega arith)
divides-lcm_left (x ∷ xs) (y ∷ ys) p = and_true _ _ (le-leb x (max x y) (le-max_left x y)) (divides-lcm_left xs ys (omega arith))

pub divides-lcm_right : (xs ys : List ℕ) → length xs ≡ length ys → divides_exponents ys (lcm_exponents xs ys) ≡ true
divides-lcm_right xs [] p = refl
divides-lcm_right [] (y ∷ ys) p = absurd (omega arith)
divides-lcm_right (x ∷ xs) (y ∷ ys) p = and_true _ _ (le-leb y (max x y) (le-max_right x y)) (divides-lcm_right xs ys (omega arith))

-- what both divide, their least common multiple divides
pub lcm-divides : (xs ys zs : List ℕ) → length xs ≡ length ys → length ys ≡ length zs → divides_exponents xs zs ≡ true → divides_exponents ys zs ≡ true
    → divides_exponents (lcm_exponents xs ys) zs ≡ true
lcm-divides [] [] zs p q h k = refl
lcm-divides [] (y ∷ ys) zs p q h k = absurd (omega arith)
lcm-divides (x ∷ xs) [] zs p q h k = absurd (omega arith)
lcm-divides (x ∷ xs) (y ∷ ys) [] p q h k = absurd (omega arith)
lcm-divides (x ∷ xs) (y ∷ ys) (z ∷ zs) p q h k =
    let first = both_true (nat_le x z) (divides_exponents xs zs) h in
    let second = both_true (nat_le y z) (divides_exponents ys zs) k in
    and_true _ _ (le-leb (max x y) z (max-le (leb-true x z first.0) (leb-true y z second.0))) (lcm-divides xs ys zs (omega arith) (omega arith) first.1 second.1)

-- a factor may be taken off both sides
pub add_exponents-cancel : (n : ℕ) (xs ys zs : List ℕ) → length xs ≡ n → length ys ≡ n → length zs ≡ n → add_exponents xs zs ≡ add_exponents ys zs → xs ≡ ys
add_exponents-cancel n [] [] zs p q r e = refl
add_exponents-cancel n [] (y ∷ ys) zs p q r e = absurd (omega arith)
add_exponents-cancel n (x ∷ xs) [] zs p q r e = absurd (omega arith)
add_exponents-cancel n (x ∷ xs) (y ∷ ys) [] p q r e = absurd (omega arith)
add_exponents-cancel zero (x ∷ xs) (y ∷ ys) (z ∷ zs) p q r e = absurd (omega arith)
add_exponents-cancel (suc n) (x ∷ xs) (y ∷ ys) (z ∷ zs) p q r e =
    let first : x + z ≡ y + z = cc in
    let rest : add_exponents xs zs ≡ add_exponents ys zs = cc in
    let same : x ≡ y = omega arith in
    λ i. same i ∷ add_exponents-cancel n xs ys zs (omega arith) (omega arith) (omega arith) rest i

pub length-ones : (n : ℕ) → length {A = ℕ} (replicate n 0) ≡ n
length-ones zero = refl
length-ones (suc n) = omega (arith, length-ones n)

pub add_exponents-one : (n : ℕ) (xs : List ℕ) → length xs ≡ n → add_exponents (replicate n 0) xs ≡ xs
add_exponents-one zero xs p = refl
add_exponents-one (suc n) [] p = absurd (omega arith)
add_exponents-one (suc n) (x ∷ xs) p = let first : 0 + x ≡ x = omega arith in λ i. first i ∷ add_exponents-one n xs (omega arith) i

-- ---- terms

pub multiply_term_assoc : (m k : List ℕ) (t : Term) → multiply_term (add_exponents m k) t ≡ multiply_term m (multiply_term k t)
multiply_term_assoc m k t = ap (λ (e : List ℕ). (t.0, e)) (padded_sum_assoc ◌+◌ (λ x y z. omega arith) m k t.1)

pub IsTerm-multiply : (variables : ℕ) (m : List ℕ) (t : Term) → length m ≡ variables → IsTerm variables t → IsTerm variables (multiply_term m t)
IsTerm-multiply variables m t p h = record { component = h.component; exponents = length-padded_sum ◌+◌ variables m t.1 p h.exponents }

-- a term that divides another one, times the quotient
pub divides-quotient : (variables : ℕ) (s t : Term) → length s.1 ≡ variables → length t.1 ≡ variables → divides s t ≡ true
    → multiply_term (quotient_exponents t.1 s.1) s ≡ t
divides-quotient variables s t p q e =
    let parts = both_true (nat_eq s.0 t.0) (divides_exponents s.1 t.1) e in
    let component : s.0 ≡ t.0 = (unsigned_Decides s.0 t.0).0 parts.0 in
    let exponents = quotient-times variables s.1 t.1 p q parts.1 in
    λ i. (component i, exponents i)

pub divides-multiple : (m : List ℕ) (t : Term) → length m ≡ length t.1 → divides t (multiply_term m t) ≡ true
divides-multiple m t p = and_true _ _ ((unsigned_Decides t.0 t.0).1 refl) (divides-times m t.1 p)

pub IsTerm-lcm : (variables : ℕ) (s t : Term) → IsTerm variables s → IsTerm variables t → IsTerm variables (lcm_term s t)
IsTerm-lcm variables s t h k = record { component = h.component; exponents = length-padded_sum max variables s.1 t.1 h.exponents k.exponents }

-- The quotient of a common multiple by the least common multiple, times that of the latter by a factor, is
-- the quotient by the factor.
pub quotient_through : (n : ℕ) (m s l top : List ℕ) → length m ≡ n → length s ≡ n → length l ≡ n → divides_exponents s l ≡ true → divides_exponents l top ≡ true
    → add_exponents m s ≡ top → add_exponents (quotient_exponents top l) (quotient_exponents l s) ≡ m
quotient_through n m s l top p q r h k e =
    let long : length top ≡ n = ap length (sym e) ∙ length-padded_sum ◌+◌ n m s p q in
    let u = quotient_exponents top l in
    let v = quotient_exponents l s in
    let lu : length u ≡ n = length-quotient n l top r long in
    let lv : length v ≡ n = length-quotient n s l q r in
    add_exponents-cancel n (add_exponents u v) m s (length-padded_sum ◌+◌ n u v lu lv) p q
    (padded_sum_assoc ◌+◌ (λ x y z. omega arith) u v s ∙ ap (add_exponents u) (quotient-times n s l q r h) ∙ quotient-times n l top r long k ∙ sym e)

-- ---- divisibility is an order

divides_exponents-trans : (xs ys zs : List ℕ) → divides_exponents xs ys ≡ true → divides_exponents ys zs ≡ true → divides_exponents xs zs ≡ true
divides_exponents-trans [] ys zs h k = refl
divides_exponents-trans (x ∷ xs) [] [] h k = h
divides_exponents-trans (x ∷ xs) [] (z ∷ zs) h k =
    let first = both_true (nat_eq x 0) (divides_exponents xs []) h in
    let none : x ≡ 0 = (unsigned_Decides x 0).0 first.0 in
    and_true _ _ (le-leb x z (omega (arith, none))) (divides_exponents-trans xs [] zs first.1 refl)
divides_exponents-trans (x ∷ xs) (y ∷ ys) [] h k =
    let first = both_true (nat_le x y) (divides_exponents xs ys) h in
    let second = both_true (nat_eq y 0) (divides_exponents ys []) k in
    let none : y ≡ 0 = (unsigned_Decides y 0).0 second.0 in
    and_true _ _ ((unsigned_Decides x 0).1 (omega (arith, none, leb-true x y first.0))) (divides_exponents-trans xs ys [] first.1 second.1)
divides_exponents-trans (x ∷ xs) (y ∷ ys) (z ∷ zs) h k =
    let first = both_true (nat_le x y) (divides_exponents xs ys) h in
    let second = both_true (nat_le y z) (divides_exponents ys zs) k in
    and_true _ _ (le-leb x z (omega (arith, leb-true x y first.0, leb-true y z second.0))) (divides_exponents-trans xs ys zs first.1 second.1)

divides_exponents-antisymmetric : (n : ℕ) (xs ys : List ℕ) → length xs ≡ n → length ys ≡ n → divides_exponents xs ys ≡ true → divides_exponents ys xs ≡ true → xs ≡ ys
divides_exponents-antisymmetric n [] [] p q h k = refl
divides_exponents-antisymmetric n [] (y ∷ ys) p q h k = absurd (omega arith)
divides_exponents-antisymmetric n (x ∷ xs) [] p q h k = absurd (omega arith)
divides_exponents-antisymmetric zero (x ∷ xs) (y ∷ ys) p q h k = absurd (omega arith)
divides_exponents-antisymmetric (suc n) (x ∷ xs) (y ∷ ys) p q h k =
    let first = both_true (nat_le x y) (divides_exponents xs ys) h in
    let second = both_true (nat_le y x) (divides_exponents ys xs) k in
    let same : x ≡ y = omega (arith, leb-true x y first.0, leb-true y x second.0) in
    λ i. same i ∷ divides_exponents-antisymmetric n xs ys (omega arith) (omega arith) first.1 second.1 i

pub divides-trans : (s t u : Term) → divides s t ≡ true → divides t u ≡ true → divides s u ≡ true
divides-trans s t u h k =
    let first = both_true (nat_eq s.0 t.0) (divides_exponents s.1 t.1) h in
    let second = both_true (nat_eq t.0 u.0) (divides_exponents t.1 u.1) k in
    and_true _ _ ((unsigned_Decides s.0 u.0).1 ((unsigned_Decides s.0 t.0).0 first.0 ∙ (unsigned_Decides t.0 u.0).0 second.0))
    (divides_exponents-trans s.1 t.1 u.1 first.1 second.1)

pub divides-antisymmetric : (n : ℕ) (s t : Term) → length s.1 ≡ n → length t.1 ≡ n → divides s t ≡ true → divides t s ≡ true → s ≡ t
divides-antisymmetric n s t p q h k =
    let first = both_true (nat_eq s.0 t.0) (divides_exponents s.1 t.1) h in
    let second = both_true (nat_eq t.0 s.0) (divides_exponents t.1 s.1) k in
    let component = (unsigned_Decides s.0 t.0).0 first.0 in
    let exponents = divides_exponents-antisymmetric n s.1 t.1 p q first.1 second.1 in
    λ i. (component i, exponents i)

divides_exponents-refl : (xs : List ℕ) → divides_exponents xs xs ≡ true
divides_exponents-refl [] = refl
divides_exponents-refl (x ∷ xs) = and_true _ _ (le-leb x x (omega arith)) (divides_exponents-refl xs)

pub divides-refl : (s : Term) → divides s s ≡ true
divides-refl s = and_true _ _ ((unsigned_Decides s.0 s.0).1 refl) (divides_exponents-refl s.1)

pub divides-component : (s t : Term) → divides s t ≡ true → s.0 ≡ t.0
divides-component s t h = (unsigned_Decides s.0 t.0).0 (both_true (nat_eq s.0 t.0) (divides_exponents s.1 t.1) h).0

-- a term is not above what it divides
pub divides-order : {variables : ℕ} {order : Term → Term → Ordering} {high : ℕ → Bool} {height : Term → ℕ} {bound : ℕ} (laws : IsTermOrder variables order high height bound)
    (s t : Term) → length s.1 ≡ variables → length t.1 ≡ variables → divides s t ≡ true → order t s ≢ Less
divides-order {variables = n} {order = order} laws s t p q h =
    let m = quotient_exponents t.1 s.1 in
    let one : List ℕ = replicate n 0 in
    let long = length-quotient n s.1 t.1 p q in
    let at : multiply_term m s ≡ t = divides-quotient n s t p q h in
    let product : multiply_term s.1 (s.0, m) ≡ t = (λ i. (s.0, padded_sum_comm ◌+◌ (λ x y. omega arith) s.1 m i)) ∙ at in
    let unit : multiply_term s.1 (s.0, one) ≡ s =
    (λ i. (s.0, padded_sum_comm ◌+◌ (λ x y. omega arith) s.1 one i)) ∙ (λ i. (s.0, add_exponents-one n s.1 p i))
    in
    let same = laws.kept s.1 (s.0, m) (s.0, one) p long (length-ones n) in
    subst (λ r. r ≢ Less) (sym same ∙ (λ i. order (product i) (unit i))) (laws.one_least s.0 m long)
