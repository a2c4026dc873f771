-- The least common multiple of two leads, and the degree of the multiples that meet there.
use Rattle.std.proofs.Common.{◌≡◌, ℕ, ◌≤◌, Bool, true, false, ◌||◌, sum, length, List, [], ◌∷◌, sym, refl, ap, subst, ◌∙◌, arith}
use Rattle.std.specs.declared.cmp.Ordering.{Ordering}
use Rattle.std.proofs.lemmas.Bool.{le-ltb}
use Rattle.mono_order.specs.Term.{Term, divides_exponents, quotient_exponents, lcm_exponents}
use Rattle.mono_order.proofs.Terms.{divides-lcm_left, divides-lcm_right, quotient-times}
use Rattle.ibp_algebra.proofs.ExponentLaws.{length-padded_sum}
use Rattle.std.specs.Prelude.{max}
use Rattle.module_vec.specs.ModuleVector.{ModuleVector, multiply_vector, lead, IsMonic, IsVector}
use Rattle.module_vec.specs.Division.{is_over_degree, is_s_vector_over}
use Rattle.module_vec.proofs.Degrees.{AllKeys-within}

pub lead_long : (order : Term → Term → Ordering) (variables : ℕ) (g : ModuleVector) (m : List ℕ) → IsMonic g → IsVector order variables g → m ≡ (lead g).1 → length m ≡ variables
lead_long order variables [] m monic vector is = absurd (omega arith)
lead_long order variables (u ∷ g) m monic vector is = ap length is ∙ vector.terms.0.exponents

pub divides_first : (xs ys m : List ℕ) (n : ℕ) → length xs ≡ n → length ys ≡ n → m ≡ lcm_exponents xs ys → divides_exponents xs m ≡ true
divides_first xs ys m n p q is = ap (divides_exponents xs) is ∙ divides-lcm_left xs ys (p ∙ sym q)

pub divides_second : (xs ys m : List ℕ) (n : ℕ) → length xs ≡ n → length ys ≡ n → m ≡ lcm_exponents xs ys → divides_exponents ys m ≡ true
divides_second xs ys m n p q is = ap (divides_exponents ys) is ∙ divides-lcm_right xs ys (p ∙ sym q)

none_over : (a b c : Bool) → a ≡ false → b ≡ false → c ≡ false → (a || (b || c)) ≡ false
none_over a b c p q r = ap (λ x. x || (b || c)) p ∙ ap (λ x. x || c) q ∙ r

-- where the first multiple is within the limit, so is the least common multiple, which is its lead
pub lcm_within : (order : Term → Term → Ordering) (variables limit : ℕ) (g h : ModuleVector) → IsMonic g → IsVector order variables g → IsMonic h → IsVector order variables h
    → is_over_degree limit (multiply_vector (quotient_exponents (lcm_exponents (lead g).1 (lead h).1) (lead g).1) g) ≡ false
    → is_over_degree limit (multiply_vector (quotient_exponents (lcm_exponents (lead g).1 (lead h).1) (lead h).1) h) ≡ false
    → is_s_vector_over limit g h ≡ false
lcm_within order variables limit [] h monic vector monic' vector' first second = absurd (omega arith)
lcm_within order variables limit (t ∷ g) h monic vector monic' vector' first second =
    let lcm = lcm_exponents t.0.1 (lead h).1 in
    let long = vector.terms.0.exponents in
    let other = lead_long order variables h (lead h).1 monic' vector' refl in
    let whole = quotient-times variables t.0.1 lcm long (length-padded_sum max variables t.0.1 (lead h).1 long other) (divides-lcm_left t.0.1 (lead h).1 (long ∙ sym other)) in
    let small : sum lcm ≤ limit = subst (λ (m : List ℕ). sum m ≤ limit) whole (AllKeys-within limit (multiply_vector (quotient_exponents lcm t.0.1) (t ∷ g)) first).0 in
    none_over _ _ _ (le-ltb limit (sum lcm) small) first second

-- the same of what the code has
pub shifted_within : (order : Term → Term → Ordering) (variables limit : ℕ) (g h : ModuleVector) (a b lcm first second : List ℕ)
    → IsMonic g → IsVector order variables g → IsMonic h → IsVector order variables h → a ≡ (lead g).1 → b ≡ (lead h).1 → lcm ≡ lcm_exponents a b
    → first ≡ quotient_exponents lcm a → second ≡ quotient_exponents lcm b
    → is_over_degree limit (multiply_vector first g) ≡ false → is_over_degree limit (multiply_vector second h) ≡ false → is_s_vector_over limit g h ≡ false
shifted_within order variables limit g h a b lcm first second monic vector monic' vector' p q is r s e f =
    let whole : lcm ≡ lcm_exponents (lead g).1 (lead h).1 = is ∙ (λ i. lcm_exponents (p i) (q i)) in
    let left : first ≡ quotient_exponents (lcm_exponents (lead g).1 (lead h).1) (lead g).1 = r ∙ (λ i. quotient_exponents (whole i) (p i)) in
    let right : second ≡ quotient_exponents (lcm_exponents (lead g).1 (lead h).1) (lead h).1 = s ∙ (λ i. quotient_exponents (whole i) (q i)) in
    lcm_within order variables limit g h monic vector monic' vector'
    (subst (λ (m : List ℕ). is_over_degree limit (multiply_vector m g) ≡ false) left e)
    (subst (λ (m : List ℕ). is_over_degree limit (multiply_vector m h) ≡ false) right f)
