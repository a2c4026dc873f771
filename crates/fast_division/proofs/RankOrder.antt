-- Ranks rise with power products, and places with terms.
use Rattle.std.proofs.Common.{◌≡◌, ℕ, zero, suc, ◌+◌, ◌-◌, ◌*◌, ◌<◌, ◌≤◌, Bool, List, [], ◌∷◌, sum, take, length, sym, refl, ap, subst, ◌∙◌, ⊎_elim, arith, add-one}
use Rattle.std.specs.Ordering.{nat_cmp, ordering_then, MatchOrdering}
use Rattle.std.specs.Cmp.{ranks}
use Rattle.std.specs.declared.cmp.Ordering.{Ordering}
use Rattle.std.specs.declared.cmp.Ordering.TheVariants.{Less, Equal, Greater}
use Rattle.std.proofs.Math.Seq.{take-length}
use Rattle.std.proofs.lemmas.Bool.{cases_lt}
use Rattle.std.proofs.lemmas.Nat.{mul-le}
use Rattle.ibp_algebra.specs.Exponents.{deg_rev_lex}
use Rattle.ibp_algebra.specs.ExponentOrder.{deg_rev_lex_unique}
use Rattle.ibp_algebra.proofs.Canonical.{Greater-reverse}
use Rattle.ibp_algebra.proofs.SumOfExponents.{sum-cons}
use Rattle.mono_order.specs.declared.limits.TheConstants.{VARIABLES}
use Rattle.mono_order.specs.PartialSums.{partial_sum}
use Rattle.mono_order.specs.Term.{Term}
use Rattle.mono_order.specs.TermOrder.{IsTermOrder, over_position}
use Rattle.mono_order.proofs.Packing.{partial_sum-le}
use Rattle.mono_order.proofs.WordOrder.{one_more}
use Rattle.fast_division.specs.Ranks.{below, rank, IsOfFirst, place_of_term, IsOneKind, HasPlace}

-- ---- how many are below a degree

pub below-zero : (k : ℕ) → below k 0 ≡ 0
unfolding below
below-zero k = refl

pub below-base : (s : ℕ) → below 0 (s + 1) ≡ 1
unfolding below
below-base s = ap (below 0) (add-one s)

pub below-more : (k s : ℕ) → below (suc k) (s + 1) ≡ below (suc k) s + below k (s + 1)
unfolding below
below-more k s = ap (below (suc k)) (add-one s) ∙ ap (λ t. below (suc k) s + below k t) (sym (add-one s))

below-next : (k s : ℕ) → below k s ≤ below k (s + 1)
below-next zero zero = omega (arith, below-zero 0)
below-next zero (suc s) = omega (arith, below-base s, below-base (suc s), ap (below 0) (add-one s))
below-next (suc k) s = omega (arith, below-more k s)

pub below-mono : (k s t : ℕ) → s ≤ t → below k s ≤ below k t
below-mono k s zero h = omega (arith, ap (below k) (let e : s ≡ 0 = omega arith in e))
below-mono k s (suc t) h =
    ⊎_elim
    (λ (less : s < suc t). omega (arith, below-mono k s t (omega arith), below-next k t, ap (below k) (add-one t)))
    (λ (same : suc t ≤ s). omega (arith, ap (below k) (let e : s ≡ suc t = omega arith in e)))
    (cases_lt s (suc t))

pub below-wider : (k s : ℕ) → below k s ≤ below (suc k) s
below-wider k zero = omega (arith, below-zero k)
below-wider k (suc s) = omega (arith, below-more k s, ap (below k) (add-one s), ap (below (suc k)) (add-one s))

pub below-widen : (k n s : ℕ) → k ≤ n → below k s ≤ below n s
below-widen k zero s h = omega (arith, ap (λ j. below j s) (let e : k ≡ 0 = omega arith in e))
below-widen k (suc n) s h =
    ⊎_elim
    (λ (less : k < suc n). omega (arith, below-widen k n s (omega arith), below-wider n s))
    (λ (same : suc n ≤ k). omega (arith, ap (λ j. below j s) (let e : k ≡ suc n = omega arith in e)))
    (cases_lt k (suc n))

-- ---- partial sums

pub partial_sum-rise : (k : ℕ) (m : List ℕ) → partial_sum k m ≤ partial_sum (suc k) m
partial_sum-rise zero m = omega arith
partial_sum-rise (suc k) [] = omega arith
partial_sum-rise (suc k) (x ∷ m) = omega (arith, sum-cons x (take k m), sum-cons x (take (suc k) m), partial_sum-rise k m)

-- behind the first n exponents the sum stays
pub partial_sum-whole : (n d : ℕ) (m : List ℕ) → IsOfFirst n m → partial_sum (n + d) m ≡ sum m
partial_sum-whole n zero m h = ap (λ k. partial_sum k m) (let e : n + 0 ≡ n = omega arith in e) ∙ h
partial_sum-whole n (suc d) m h =
    let next : n + suc d ≡ suc (n + d) = omega arith in
    omega (arith, partial_sum-whole n d m h, partial_sum-rise (n + d) m, partial_sum-le (n + suc d) m, ap (λ k. partial_sum k m) next)

-- ---- ranks

pub rank-zero : (m : List ℕ) → rank 0 m ≡ 0
unfolding rank
rank-zero m = refl

pub rank-more : (k : ℕ) (m : List ℕ) → rank (suc k) m ≡ rank k m + below (suc k) (partial_sum (suc k) m)
unfolding rank
rank-more k m = refl

pub rank-below : (n : ℕ) (m : List ℕ) → rank n m < below n (partial_sum n m + 1)
rank-below zero m = omega (arith, rank-zero m, below-base 0)
rank-below (suc n) m =
    omega (
      arith,
      rank-more n m,
      rank-below n m,
      below-more n (partial_sum (suc n) m),
      below-mono n (partial_sum n m + 1) (partial_sum (suc n) m + 1) (omega (arith, partial_sum-rise n m)),
    )

-- the greater power product has the greater rank
rank-first : (k : ℕ) (a b : List ℕ) → k ≤ length a → k ≤ length b → deg_rev_lex (take k a) (take k b) ≡ Greater → rank k b < rank k a
rank-first zero a b p q e = let clash : Equal ≡ Greater = e in cc
rank-first (suc k) a b p q e =
    let s = partial_sum (suc k) a in
    let t = partial_sum (suc k) b in
    let one : ordering_then (nat_cmp s t) (deg_rev_lex (take k a) (take k b)) ≡ Greater =
    sym (subst (λ n. deg_rev_lex (take n a) (take n b) ≡ ordering_then (nat_cmp (partial_sum n a) (partial_sum n b)) (deg_rev_lex (take k a) (take k b))) (add-one k) (one_more k a b (omega arith) (omega arith))) ∙ e
    in
    elim (nat_cmp s t) as (λ r. MatchOrdering r (s < t) (s ≡ t) (t < s) → ordering_then r (deg_rev_lex (take k a) (take k b)) ≡ Greater → rank (suc k) b < rank (suc k) a) [
      | Less ↦ λ less clash. absurd (let wrong : Less ≡ Greater = clash in cc)
      | Equal ↦ λ same rest. omega (arith, rank-more k a, rank-more k b, ap (below (suc k)) same, rank-first k a b (omega arith) (omega arith) rest)
      | Greater ↦ λ more rest. omega (arith, rank-more k a, rank-below (suc k) b, below-mono (suc k) (t + 1) s (omega (arith, more)))
    ] (ranks s t) one

then_again : (o r : Ordering) → ordering_then o (ordering_then o r) ≡ ordering_then o r
then_again Less r = refl
then_again Equal r = refl
then_again Greater r = refl

-- the exponents behind the n-th say nothing
first_decide : (n d : ℕ) (a b : List ℕ) → IsOfFirst n a → IsOfFirst n b → n + d ≤ length a → n + d ≤ length b → deg_rev_lex (take (n + d) a) (take (n + d) b) ≡ deg_rev_lex (take n a) (take n b)
first_decide n zero a b p q long wide = ap (λ k. deg_rev_lex (take k a) (take k b)) (let e : n + 0 ≡ n = omega arith in e)
first_decide n (suc d) a b p q long wide =
    let next : n + suc d ≡ n + d + 1 = omega arith in
    let left : partial_sum (n + d + 1) a ≡ partial_sum (n + d) a = ap (λ k. partial_sum k a) (sym next) ∙ partial_sum-whole n (suc d) a p ∙ sym (partial_sum-whole n d a p) in
    let right : partial_sum (n + d + 1) b ≡ partial_sum (n + d) b = ap (λ k. partial_sum k b) (sym next) ∙ partial_sum-whole n (suc d) b q ∙ sym (partial_sum-whole n d b q) in
    ap (λ k. deg_rev_lex (take k a) (take k b)) next
    ∙ one_more (n + d) a b (omega arith) (omega arith)
    ∙ (λ i. ordering_then (nat_cmp (left i) (right i)) (deg_rev_lex (take (n + d) a) (take (n + d) b)))
    ∙ then_again (nat_cmp (partial_sum (n + d) a) (partial_sum (n + d) b)) _
    ∙ first_decide n d a b p q (omega arith) (omega arith)

pub rank-rise : (n : ℕ) (a b : List ℕ) → n ≤ length a → length a ≡ length b → IsOfFirst n a → IsOfFirst n b → deg_rev_lex a b ≡ Greater → rank n b < rank n a
rank-rise n a b within long p q e =
    let d = length a - n in
    let whole : n + d ≡ length a = omega arith in
    let left : take (n + d) a ≡ a = ap (λ k. take k a) whole ∙ take-length a in
    let right : take (n + d) b ≡ b = ap (λ k. take k b) (whole ∙ long) ∙ take-length b in
    rank-first n a b within (omega arith) (sym (first_decide n d a b p q (omega arith) (omega arith)) ∙ (λ i. deg_rev_lex (left i) (right i)) ∙ e)

-- ---- places

pub place-is : (n first count : ℕ) (t : Term) → place_of_term n first count t ≡ rank n t.1 * count + (first + count - 1 - t.0)
unfolding place_of_term
place-is n first count t = refl

-- a place is among those of the terms of at most its degree
pub place-within : (n first count degree : ℕ) (t : Term) → HasPlace n first count t → sum t.1 ≤ degree → place_of_term n first count t < below n (degree + 1) * count
place-within n first count degree t h small =
    let one : rank n t.1 < below n (sum t.1 + 1) = subst (λ s. rank n t.1 < below n (s + 1)) h.variables (rank-below n t.1) in
    let top : rank n t.1 + 1 ≤ below n (degree + 1) = omega (arith, one, below-mono n (sum t.1 + 1) (degree + 1) (omega arith)) in
    omega (arith, place-is n first count t, h.from, h.upto, mul-le (rank n t.1 + 1) count (below n (degree + 1)) count top (omega arith))

module _ {order : Term → Term → Ordering} {high : ℕ → Bool} {height : Term → ℕ} {bound : ℕ} (laws : IsTermOrder VARIABLES order high height bound)
    (n first count : ℕ) (few : n ≤ VARIABLES) (kind : IsOneKind high first count) where
  -- the greater term has the greater place
  pub place-rise : (s t : Term) → HasPlace n first count s → HasPlace n first count t → order s t ≡ Greater → place_of_term n first count t < place_of_term n first count s
  place-rise s t h k e =
      let by : over_position s t ≡ Greater = sym (laws.within_kind s t (kind.same s.0 t.0 h.from h.upto k.from k.upto)) ∙ e in
      elim (deg_rev_lex s.1 t.1) as (λ r. deg_rev_lex s.1 t.1 ≡ r → ordering_then r (nat_cmp t.0 s.0) ≡ Greater → place_of_term n first count t < place_of_term n first count s) [
        | Less ↦ λ is clash. absurd (let wrong : Less ≡ Greater = clash in cc)
        | Equal ↦ λ is last.
            let lower : s.0 < t.0 = subst (λ r. MatchOrdering r (t.0 < s.0) (t.0 ≡ s.0) (s.0 < t.0)) last (ranks t.0 s.0) in
            let same : rank n s.1 ≡ rank n t.1 = ap (rank n) (deg_rev_lex_unique s.1 t.1 is) in
            omega (arith, place-is n first count s, place-is n first count t, ap (λ r. r * count) same, h.from, h.upto, k.from, k.upto)
        | Greater ↦ λ is last.
            let more : rank n t.1 + 1 ≤ rank n s.1 =
            omega (arith, rank-rise n s.1 t.1 (omega (arith, h.term.exponents)) (h.term.exponents ∙ sym k.term.exponents) h.variables k.variables is)
            in
            omega (arith, place-is n first count s, place-is n first count t, h.from, h.upto, k.from, k.upto, mul-le (rank n t.1 + 1) count (rank n s.1) count more (omega arith))
      ] refl by

  -- how two terms compare, by their places
  order_at : (s t : Term) → HasPlace n first count s → HasPlace n first count t → (r : Ordering) → order s t ≡ r
      → MatchOrdering r (place_of_term n first count s < place_of_term n first count t) (s ≡ t) (place_of_term n first count t < place_of_term n first count s)
  order_at s t h k Less e = place-rise t s k h (Greater-reverse order laws.total s t e)
  order_at s t h k Equal e = laws.unique s t e
  order_at s t h k Greater e = place-rise s t h k e

  -- one place has one term
  pub place-unique : (s t : Term) → HasPlace n first count s → HasPlace n first count t → place_of_term n first count s ≡ place_of_term n first count t → s ≡ t
  place-unique s t h k same =
      elim (order s t) as (λ r. MatchOrdering r (place_of_term n first count s < place_of_term n first count t) (s ≡ t) (place_of_term n first count t < place_of_term n first count s) → s ≡ t) [
        | Less ↦ λ less. absurd (omega arith)
        | Equal ↦ λ is. is
        | Greater ↦ λ more. absurd (omega arith)
      ] (order_at s t h k (order s t) refl)

  -- and the greater place the greater term
  pub place-order : (s t : Term) → HasPlace n first count s → HasPlace n first count t → place_of_term n first count t < place_of_term n first count s → order s t ≡ Greater
  place-order s t h k less =
      elim (order s t) as (λ r. MatchOrdering r (place_of_term n first count s < place_of_term n first count t) (s ≡ t) (place_of_term n first count t < place_of_term n first count s) → r ≡ Greater) [
        | Less ↦ λ more. absurd (omega arith)
        | Equal ↦ λ is. absurd (omega (arith, ap (place_of_term n first count) is))
        | Greater ↦ λ more. refl
      ] (order_at s t h k (order s t) refl)
