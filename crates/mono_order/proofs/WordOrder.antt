-- The order of monomials is the order of their words, the highest word first.
use Rattle.std.proofs.Common.{◌≡◌, ℕ, suc, ◌+◌, ◌*◌, ◌<◌, ◌≤◌, List, [], ◌∷◌, ◌++◌, sum, take, length, reverse, get_or, sym, refl, ap, ◌∙◌, subst, arith}
use Rattle.std.specs.Ordering.{nat_cmp, ordering_then, MatchOrdering}
use Rattle.std.specs.Cmp.{nat_cmp_is, ranks}
use Rattle.std.specs.Cmp.Lexicographic.{slice_cmp}
use Rattle.std.specs.FinMap.{nat_cmp-IsAntisymmetric}
use Rattle.std.specs.declared.cmp.Ordering.{Ordering}
use Rattle.std.specs.declared.cmp.Ordering.TheVariants.{Less, Equal, Greater}
use Rattle.std.proofs.Math.Seq.{take-suc, take-length}
use Rattle.std.proofs.lemmas.List.{reverse-append}
use Rattle.ibp_algebra.specs.Exponents.{deg_rev_lex}
use Rattle.ibp_algebra.proofs.ReverseLex.{then_Equal}
use Rattle.ibp_algebra.proofs.SumOfExponents.{sum-cons}
use Rattle.mono_order.specs.declared.limits.TheConstants.{VARIABLES, MONO_DEGREE}
use Rattle.mono_order.specs.declared.words.TheConstants.{BASE}
use Rattle.mono_order.specs.Monomial.{IsMonomial}
use Rattle.mono_order.specs.PartialSums.{partial_sum, word, word_from}
use Rattle.mono_order.proofs.Packing.{partial_sum-le}

then_assoc : (a b c : Ordering) → ordering_then (ordering_then a b) c ≡ ordering_then a (ordering_then b c)
then_assoc Less b c = refl
then_assoc Equal b c = refl
then_assoc Greater b c = refl

then_same : (a b c : Ordering) → (a ≡ Equal → b ≡ c) → ordering_then a b ≡ ordering_then a c
then_same Less b c h = refl
then_same Equal b c h = h refl
then_same Greater b c h = refl

-- ---- two numbers by their digits

digit_cmp : (a b h k : ℕ) → a < BASE → b < BASE → nat_cmp (a + BASE * h) (b + BASE * k) ≡ ordering_then (nat_cmp h k) (nat_cmp a b)
digit_cmp a b h k p q =
    elim (nat_cmp h k) as (λ r. MatchOrdering r (h < k) (h ≡ k) (k < h) → nat_cmp (a + BASE * h) (b + BASE * k) ≡ ordering_then r (nat_cmp a b)) [
      | Less ↦ λ l. sym (nat_cmp_is (a + BASE * h) (b + BASE * k) Less (omega arith))
      | Equal ↦ λ e.
          elim (nat_cmp a b) as (λ r. MatchOrdering r (a < b) (a ≡ b) (b < a) → nat_cmp (a + BASE * h) (b + BASE * k) ≡ r) [
            | Less ↦ λ l. sym (nat_cmp_is (a + BASE * h) (b + BASE * k) Less (omega arith))
            | Equal ↦ λ s. sym (nat_cmp_is (a + BASE * h) (b + BASE * k) Equal (omega arith))
            | Greater ↦ λ g. sym (nat_cmp_is (a + BASE * h) (b + BASE * k) Greater (omega arith))
          ] (ranks a b)
      | Greater ↦ λ g. sym (nat_cmp_is (a + BASE * h) (b + BASE * k) Greater (omega arith))
    ] (ranks h k)

word_cmp : (a b c d p q r s : ℕ) → a < BASE → b < BASE → c < BASE → p < BASE → q < BASE → r < BASE
    → nat_cmp (word a b c d) (word p q r s) ≡ ordering_then (nat_cmp d s) (ordering_then (nat_cmp c r) (ordering_then (nat_cmp b q) (nat_cmp a p)))
word_cmp a b c d p q r s la lb lc lp lq lr =
    digit_cmp a p (b + BASE * (c + BASE * d)) (q + BASE * (r + BASE * s)) la lp
    ∙ ap (λ o. ordering_then o (nat_cmp a p)) (digit_cmp b q (c + BASE * d) (r + BASE * s) lb lq)
    ∙ ap (λ o. ordering_then (ordering_then o (nat_cmp b q)) (nat_cmp a p)) (digit_cmp c r d s lc lr)
    ∙ then_assoc (ordering_then (nat_cmp d s) (nat_cmp c r)) (nat_cmp b q) (nat_cmp a p)
    ∙ then_assoc (nat_cmp d s) (nat_cmp c r) (ordering_then (nat_cmp b q) (nat_cmp a p))

-- ---- the order by partial sums

sum-snoc : (xs : List ℕ) (x : ℕ) → sum (xs ++ x ∷ []) ≡ sum xs + x
sum-snoc [] x = omega (arith, sum-cons x [])
sum-snoc (y ∷ xs) x = omega (arith, sum-cons y (xs ++ x ∷ []), sum-cons y xs, sum-snoc xs x)

-- where the sums with the last exponents are equal, the greater last exponent goes with the lesser sum before it
flipped : (s t x y : ℕ) → nat_cmp (s + x) (t + y) ≡ Equal → nat_cmp y x ≡ nat_cmp s t
flipped s t x y e =
    let same : s + x ≡ t + y = nat_cmp-IsAntisymmetric (s + x) (t + y) e in
    elim (nat_cmp s t) as (λ r. MatchOrdering r (s < t) (s ≡ t) (t < s) → nat_cmp y x ≡ r) [
      | Less ↦ λ l. sym (nat_cmp_is y x Less (omega arith))
      | Equal ↦ λ s. sym (nat_cmp_is y x Equal (omega arith))
      | Greater ↦ λ g. sym (nat_cmp_is y x Greater (omega arith))
    ] (ranks s t)

deg_rev_lex-snoc : (xs ys : List ℕ) (x y : ℕ)
    → deg_rev_lex (xs ++ x ∷ []) (ys ++ y ∷ []) ≡ ordering_then (nat_cmp (sum (xs ++ x ∷ [])) (sum (ys ++ y ∷ []))) (deg_rev_lex xs ys)
deg_rev_lex-snoc xs ys x y =
    (λ i. ordering_then (nat_cmp (sum (xs ++ x ∷ [])) (sum (ys ++ y ∷ []))) (slice_cmp nat_cmp (reverse-append ys (y ∷ []) i) (reverse-append xs (x ∷ []) i)))
    ∙ then_same (nat_cmp (sum (xs ++ x ∷ [])) (sum (ys ++ y ∷ []))) (ordering_then (nat_cmp y x) (slice_cmp nat_cmp (reverse ys) (reverse xs))) (deg_rev_lex xs ys)
    (λ e. ap (λ o. ordering_then o (slice_cmp nat_cmp (reverse ys) (reverse xs)))
    (flipped (sum xs) (sum ys) x y ((λ i. nat_cmp (sym (sum-snoc xs x) i) (sym (sum-snoc ys y) i)) ∙ e)))

-- by the sum of one exponent more
pub one_more : (k : ℕ) (a b : List ℕ) → k < length a → k < length b
    → deg_rev_lex (take (k + 1) a) (take (k + 1) b) ≡ ordering_then (nat_cmp (partial_sum (k + 1) a) (partial_sum (k + 1) b)) (deg_rev_lex (take k a) (take k b))
one_more k a b p q =
    let shift : k + 1 ≡ suc k = omega arith in
    let left : take (k + 1) a ≡ take k a ++ get_or a k 0 ∷ [] = ap (λ n. take n a) shift ∙ take-suc a k 0 p in
    let right : take (k + 1) b ≡ take k b ++ get_or b k 0 ∷ [] = ap (λ n. take n b) shift ∙ take-suc b k 0 q in
    (λ i. deg_rev_lex (left i) (right i))
    ∙ deg_rev_lex-snoc (take k a) (take k b) (get_or a k 0) (get_or b k 0)
    ∙ (λ i. ordering_then (nat_cmp (sum (sym left i)) (sum (sym right i))) (deg_rev_lex (take k a) (take k b)))

-- by the word of four sums more
word_more : (k : ℕ) (a b : List ℕ) → k + 4 ≤ length a → k + 4 ≤ length b → sum a ≤ MONO_DEGREE → sum b ≤ MONO_DEGREE
    → deg_rev_lex (take (k + 4) a) (take (k + 4) b) ≡ ordering_then (nat_cmp (word_from k a) (word_from k b)) (deg_rev_lex (take k a) (take k b))
unfolding word_from
word_more k a b p q r s =
    let first = one_more k a b (omega arith) (omega arith) in
    let second = one_more (k + 1) a b (omega arith) (omega arith) in
    let third = one_more (k + 2) a b (omega arith) (omega arith) in
    let fourth = one_more (k + 3) a b (omega arith) (omega arith) in
    let two : k + 1 + 1 ≡ k + 2 = omega arith in
    let three : k + 2 + 1 ≡ k + 3 = omega arith in
    let four : k + 3 + 1 ≡ k + 4 = omega arith in
    let at : ℕ → Ordering = λ n. nat_cmp (partial_sum n a) (partial_sum n b) in
    let upto : ℕ → Ordering = λ n. deg_rev_lex (take n a) (take n b) in
    let by_two : upto (k + 2) ≡ ordering_then (at (k + 2)) (upto (k + 1)) = subst (λ n. upto n ≡ ordering_then (at n) (upto (k + 1))) two second in
    let by_three : upto (k + 3) ≡ ordering_then (at (k + 3)) (upto (k + 2)) = subst (λ n. upto n ≡ ordering_then (at n) (upto (k + 2))) three third in
    let by_four : upto (k + 4) ≡ ordering_then (at (k + 4)) (upto (k + 3)) = subst (λ n. upto n ≡ ordering_then (at n) (upto (k + 3))) four fourth in
    let small : (n : ℕ) (m : List ℕ) → sum m ≤ MONO_DEGREE → partial_sum n m < BASE = λ n m e. omega (arith, partial_sum-le n m) in
    let words = word_cmp (partial_sum (k + 1) a) (partial_sum (k + 2) a) (partial_sum (k + 3) a) (partial_sum (k + 4) a) (partial_sum (k + 1) b) (partial_sum (k + 2) b) (partial_sum (k + 3) b) (partial_sum (k + 4) b)
    (small (k + 1) a r) (small (k + 2) a r) (small (k + 3) a r) (small (k + 1) b s) (small (k + 2) b s) (small (k + 3) b s)
    in
    by_four
    ∙ ap (ordering_then (at (k + 4))) (by_three ∙ ap (ordering_then (at (k + 3))) (by_two ∙ ap (ordering_then (at (k + 2))) first))
    ∙ sym (ap (λ o. ordering_then o (upto k)) words ∙ regrouped (at (k + 4)) (at (k + 3)) (at (k + 2)) (at (k + 1)) (upto k))
  where
    regrouped : (d c b a o : Ordering) → ordering_then (ordering_then d (ordering_then c (ordering_then b a))) o ≡ ordering_then d (ordering_then c (ordering_then b (ordering_then a o)))
    regrouped d c b a o =
        then_assoc d (ordering_then c (ordering_then b a)) o
        ∙ ap (ordering_then d) (then_assoc c (ordering_then b a) o ∙ ap (ordering_then c) (then_assoc b a o))

pub words_compare : (a b : List ℕ) → IsMonomial a → IsMonomial b
    → deg_rev_lex a b ≡ ordering_then (ordering_then (nat_cmp (word_from 8 a) (word_from 8 b)) (nat_cmp (word_from 4 a) (word_from 4 b))) (nat_cmp (word_from 0 a) (word_from 0 b))
words_compare a b p q =
    let high = word_more 8 a b (omega (arith, p.each_variable)) (omega (arith, q.each_variable)) p.bounded q.bounded in
    let middle = word_more 4 a b (omega (arith, p.each_variable)) (omega (arith, q.each_variable)) p.bounded q.bounded in
    let low = word_more 0 a b (omega (arith, p.each_variable)) (omega (arith, q.each_variable)) p.bounded q.bounded in
    let h = nat_cmp (word_from 8 a) (word_from 8 b) in
    let m = nat_cmp (word_from 4 a) (word_from 4 b) in
    let l = nat_cmp (word_from 0 a) (word_from 0 b) in
    (λ i. deg_rev_lex (sym (take-all a p.each_variable) i) (sym (take-all b q.each_variable) i))
    ∙ high
    ∙ ap (ordering_then h) (middle ∙ ap (ordering_then m) (low ∙ then_Equal l))
    ∙ sym (then_assoc h m l)
  where
    take-all : (m : List ℕ) → length m ≡ VARIABLES → take 12 m ≡ m
    take-all m e = ap (λ n. take n m) (sym e) ∙ take-length m
