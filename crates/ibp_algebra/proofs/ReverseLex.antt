-- The degree reverse lexicographic order by recursion from the first variable, its monotony, and that no power
-- product is below one.
use Rattle.std.proofs.Common.{◌≡◌, ◌≢◌, ℕ, zero, suc, ◌+◌, ◌<◌, ◌≤◌, ◌⊎◌, inl, inr, ⊎_elim, length, sum, reverse, replicate, List, [], ◌∷◌, ◌++◌, sym, refl, ap, ◌∙◌, subst, arith}
use Rattle.std.specs.Ordering.{nat_cmp, ordering_then, MatchOrdering}
use Rattle.std.specs.Cmp.{nat_cmp_is, ranks}
use Rattle.std.specs.Cmp.Lexicographic.{slice_cmp}
use Rattle.std.specs.declared.cmp.Ordering.{Ordering}
use Rattle.std.specs.declared.cmp.Ordering.TheVariants.{Less, Equal, Greater}
use Rattle.std.proofs.lemmas.List.{reverse-append, length-reverse}
use Rattle.std.proofs.lemmas.Bool.{cases_lt}
use Rattle.ibp_algebra.specs.Exponents.{add_exponents, deg_rev_lex}
use Rattle.ibp_algebra.proofs.ExponentLaws.{length-padded_sum}
use Rattle.ibp_algebra.proofs.SumOfExponents.{sum-cons, sum-add_exponents}
use Rattle.ibp_algebra.proofs.Canonical.{order_refl}
use Rattle.ibp_algebra.specs.ExponentOrder.{deg_rev_lex_total}

-- at the last variable where the two differ the greater exponent is less
abbrev pub reverse_lex : List ℕ → List ℕ → Ordering
reverse_lex [] ys = Equal
reverse_lex (x ∷ xs) [] = Equal
reverse_lex (x ∷ xs) (y ∷ ys) = ordering_then (reverse_lex xs ys) (nat_cmp y x)

then_assoc : (a b c : Ordering) → ordering_then (ordering_then a b) c ≡ ordering_then a (ordering_then b c)
then_assoc Less b c = refl
then_assoc Equal b c = refl
then_assoc Greater b c = refl

pub then_Equal : (a : Ordering) → ordering_then a Equal ≡ a
then_Equal Less = refl
then_Equal Equal = refl
then_Equal Greater = refl

slice_cmp-snoc : (xs ys : List ℕ) (x y : ℕ) → length xs ≡ length ys → slice_cmp nat_cmp (xs ++ x ∷ []) (ys ++ y ∷ []) ≡ ordering_then (slice_cmp nat_cmp xs ys) (nat_cmp x y)
slice_cmp-snoc [] [] x y e = then_Equal (nat_cmp x y)
slice_cmp-snoc [] (b ∷ ys) x y e = absurd (omega arith)
slice_cmp-snoc (a ∷ xs) [] x y e = absurd (omega arith)
slice_cmp-snoc (a ∷ xs) (b ∷ ys) x y e =
    ap (ordering_then (nat_cmp a b)) (slice_cmp-snoc xs ys x y (omega arith)) ∙ sym (then_assoc (nat_cmp a b) (slice_cmp nat_cmp xs ys) (nat_cmp x y))

reverse-cons : (x : ℕ) (xs : List ℕ) → reverse (x ∷ xs) ≡ reverse xs ++ x ∷ []
reverse-cons x xs = reverse-append (x ∷ []) xs

slice_cmp-reverse : (xs ys : List ℕ) → length xs ≡ length ys → slice_cmp nat_cmp (reverse ys) (reverse xs) ≡ reverse_lex xs ys
slice_cmp-reverse [] [] e = refl
slice_cmp-reverse [] (y ∷ ys) e = absurd (omega arith)
slice_cmp-reverse (x ∷ xs) [] e = absurd (omega arith)
slice_cmp-reverse (x ∷ xs) (y ∷ ys) e =
    (λ i. slice_cmp nat_cmp (reverse-cons y ys i) (reverse-cons x xs i))
    ∙ slice_cmp-snoc (reverse ys) (reverse xs) y x (length-reverse ys ∙ omega arith ∙ sym (length-reverse xs))
    ∙ ap (λ r. ordering_then r (nat_cmp y x)) (slice_cmp-reverse xs ys (omega arith))

pub deg_rev_lex-is : (xs ys : List ℕ) → length xs ≡ length ys → deg_rev_lex xs ys ≡ ordering_then (nat_cmp (sum xs) (sum ys)) (reverse_lex xs ys)
deg_rev_lex-is xs ys e = ap (ordering_then (nat_cmp (sum xs) (sum ys))) (slice_cmp-reverse xs ys e)

-- ---- products

nat_cmp-add : (c x y : ℕ) → nat_cmp (c + x) (c + y) ≡ nat_cmp x y
nat_cmp-add c x y =
    elim (nat_cmp x y) as (λ r. MatchOrdering r (x < y) (x ≡ y) (y < x) → nat_cmp (c + x) (c + y) ≡ r) [
      | Less ↦ λ h. sym (nat_cmp_is (c + x) (c + y) Less (omega arith))
      | Equal ↦ λ h. sym (nat_cmp_is (c + x) (c + y) Equal (omega arith))
      | Greater ↦ λ h. sym (nat_cmp_is (c + x) (c + y) Greater (omega arith))
    ] (ranks x y)

reverse_lex-add : (n : ℕ) (m xs ys : List ℕ) → length m ≡ n → length xs ≡ n → length ys ≡ n → reverse_lex (add_exponents m xs) (add_exponents m ys) ≡ reverse_lex xs ys
reverse_lex-add n [] xs ys p q r = refl
reverse_lex-add n (a ∷ m) [] ys p q r = absurd (omega arith)
reverse_lex-add n (a ∷ m) (x ∷ xs) [] p q r = absurd (omega arith)
reverse_lex-add zero (a ∷ m) (x ∷ xs) (y ∷ ys) p q r = absurd (omega arith)
reverse_lex-add (suc n) (a ∷ m) (x ∷ xs) (y ∷ ys) p q r = λ i. ordering_then (reverse_lex-add n m xs ys (omega arith) (omega arith) (omega arith) i) (nat_cmp-add a y x i)

pub deg_rev_lex-add : (n : ℕ) (m xs ys : List ℕ) → length m ≡ n → length xs ≡ n → length ys ≡ n → deg_rev_lex (add_exponents m xs) (add_exponents m ys) ≡ deg_rev_lex xs ys
deg_rev_lex-add n m xs ys p q r =
    let first = length-padded_sum ◌+◌ n m xs p q in
    let second = length-padded_sum ◌+◌ n m ys p r in
    deg_rev_lex-is (add_exponents m xs) (add_exponents m ys) (first ∙ sym second)
    ∙ (λ i. ordering_then (nat_cmp (sum-add_exponents m xs i) (sum-add_exponents m ys i)) (reverse_lex-add n m xs ys p q r i))
    ∙ ap (λ o. ordering_then o (reverse_lex xs ys)) (nat_cmp-add (sum m) (sum xs) (sum ys))
    ∙ sym (deg_rev_lex-is xs ys (q ∙ sym r))

-- ---- the power product one

pub sum-ones : (n : ℕ) → sum (replicate n 0) ≡ 0
sum-ones zero = refl
sum-ones (suc n) = omega (arith, sum-cons 0 (replicate n 0), sum-ones n)

all_zero : (n : ℕ) (m : List ℕ) → length m ≡ n → sum m ≡ 0 → m ≡ replicate n 0
all_zero zero [] p e = refl
all_zero (suc n) [] p e = absurd (omega arith)
all_zero zero (x ∷ m) p e = absurd (omega arith)
all_zero (suc n) (x ∷ m) p e =
    let none : x ≡ 0 = omega (arith, e, sum-cons x m) in
    let rest : sum m ≡ 0 = omega (arith, e, sum-cons x m) in
    λ i. none i ∷ all_zero n m (omega arith) rest i

one_is_least : (n : ℕ) (m : List ℕ) → length m ≡ n → (deg_rev_lex m (replicate n 0) ≡ Greater) ⊎ (m ≡ replicate n 0)
one_is_least n m p =
    ⊎_elim
    (λ (positive : 0 < sum m).
    let more : Greater ≡ nat_cmp (sum m) (sum (replicate n 0)) = nat_cmp_is (sum m) (sum (replicate n 0)) Greater (omega (arith, sum-ones n)) in
    inl (ap (λ o. ordering_then o (slice_cmp nat_cmp (reverse (replicate n 0)) (reverse m))) (sym more)))
    (λ (none : sum m ≤ 0). inr (all_zero n m p (omega arith)))
    (cases_lt 0 (sum m))

pub not_below_one : (n : ℕ) (m : List ℕ) → length m ≡ n → deg_rev_lex m (replicate n 0) ≢ Less
not_below_one n m h less =
    elim (one_is_least n m h) [
      | inl above ↦ absurd (cc)
      | inr one ↦
          let same : deg_rev_lex m m ≡ Less = subst (λ (k : List ℕ). deg_rev_lex m k ≡ Less) (sym one) less in
          let tie : deg_rev_lex m m ≡ Equal = order_refl deg_rev_lex deg_rev_lex_total m in
          absurd (cc)
    ]
