-- A new pair is put at the place that an ordered set of pairs beside their degrees gives it, and what that set tells of the
-- list of its pairs.
use Rattle.std.proofs.Common.{◌≡◌, ℕ, suc, ◌&&◌, ◌||◌, nat_eq, if◌then◌else◌, Result, Ok, Err, OnOk, OnErr, map, List, [], ◌∷◌, sym, refl, ap, subst, ◌∙◌, arith}
use Rattle.std.specs.List.{All, AllByRecursion, Contains, list_any}
use Rattle.std.specs.List.Sorted.{IsStrictlySortedBy}
use Rattle.std.specs.FinMap.{IsAntisymmetric, nat_cmp-IsAntisymmetric}
use Rattle.std.specs.Ordering.{nat_cmp, ordering_then, is_lt, match_ordering}
use Rattle.std.specs.declared.cmp.Ordering.{Ordering}
use Rattle.std.specs.declared.cmp.Ordering.TheVariants.{Less, Equal, Greater}
use Rattle.std.specs.BTreeSet.{insert_key}
use Rattle.std.proofs.lemmas.List.Elements.{All-head, All-tail}
use Rattle.ibp_algebra.specs.ExponentOrder.{first_equal, second_equal}
use Rattle.mono_order.specs.Term.{Term}
use Rattle.pair_queue.specs.declared.order.PairOrder.{PairOrder}
use Rattle.pair_queue.specs.declared.queue.Pair.{Pair}
use Rattle.pair_queue.specs.Pairs.{compare_by_lcm, compare_keyed, IsKeyed, compare_pairs, insert_pair, has_pair}

-- pairs that tie are equal
compare_by_lcm_unique : (order : Term → Term → Ordering) → IsAntisymmetric order → (p q : Pair) → compare_by_lcm order p q ≡ Equal → p ≡ q
compare_by_lcm_unique order unique p q e =
    let numbers = second_equal (order p.lcm q.lcm) (ordering_then (nat_cmp p.second q.second) (nat_cmp p.first q.first)) e in
    let lcms = unique p.lcm q.lcm (first_equal (order p.lcm q.lcm) _ e) in
    let seconds = nat_cmp-IsAntisymmetric p.second q.second (first_equal _ (nat_cmp p.first q.first) numbers) in
    let firsts = nat_cmp-IsAntisymmetric p.first q.first (second_equal (nat_cmp p.second q.second) _ numbers) in
    λ k. record { first = firsts k; second = seconds k; lcm = lcms k }

-- at a pair of the list that does not tie
place : (r : Ordering) (p x : ℕ × Pair) (xs a : List (ℕ × Pair)) (b : List Pair) → (r ≡ Equal → ⊥) → map (λ k. k.1) a ≡ b
    → map (λ k. k.1) (match_ordering r (p ∷ x ∷ xs) (x ∷ xs) (x ∷ a)) ≡ (if is_lt r then (p.1 ∷ x.1 ∷ map (λ k. k.1) xs) else (x.1 ∷ b))
place Less p x xs a b apart e = refl
place Equal p x xs a b apart e = absurd (apart refl)
place Greater p x xs a b apart e = ap (λ (l : List Pair). x.1 ∷ l) e

module _ (order : Term → Term → Ordering) (by : PairOrder) where
  -- what the degrees beside the pairs are
  compare_is : (p q : ℕ × Pair) → IsKeyed by p → IsKeyed by q → compare_keyed order p q ≡ compare_pairs order by p.1 q.1
  compare_is p q left right = λ k. ordering_then (nat_cmp (left k) (right k)) (compare_by_lcm order p.1 q.1)

  pub insert_pair-key : IsAntisymmetric order → (p : ℕ × Pair) (keys : List (ℕ × Pair)) → IsKeyed by p → All (IsKeyed by) keys → (Contains (map (λ k. k.1) keys) p.1 → ⊥)
      → map (λ k. k.1) (insert_key (compare_keyed order) keys p) ≡ insert_pair (compare_pairs order by) p.1 (map (λ k. k.1) keys)
  insert_pair-key unique p [] is all new = refl
  insert_pair-key unique p (x ∷ xs) is all new =
      let same = compare_is p x is (All-head (IsKeyed by) x xs all) in
      place (compare_keyed order p x) p x xs (insert_key (compare_keyed order) xs p) (insert_pair (compare_pairs order by) p.1 (map (λ k. k.1) xs))
      (λ e. new (0, omega arith, sym (compare_by_lcm_unique order unique p.1 x.1 (second_equal (nat_cmp p.0 x.0) (compare_by_lcm order p.1 x.1) e))))
      (insert_pair-key unique p xs is (All-tail (IsKeyed by) x xs all) (λ h. new (suc h.0, omega (arith, h.1), h.2)))
      ∙ ap (λ r. if is_lt r then (p.1 ∷ x.1 ∷ map (λ k. k.1) xs) else (x.1 ∷ insert_pair (compare_pairs order by) p.1 (map (λ k. k.1) xs))) same

  above : (x : ℕ × Pair) (keys : List (ℕ × Pair)) → IsKeyed by x → All (IsKeyed by) keys → AllByRecursion (λ y. compare_keyed order x y ≡ Less) keys
      → AllByRecursion (λ y. compare_pairs order by x.1 y ≡ Less) (map (λ k. k.1) keys)
  above x [] is all h = h
  above x (y ∷ keys) is all h =
      (sym (compare_is x y is (All-head (IsKeyed by) y keys all)) ∙ h.0, above x keys is (All-tail (IsKeyed by) y keys all) h.1)

  pub ascending_pairs : (keys : List (ℕ × Pair)) → All (IsKeyed by) keys → IsStrictlySortedBy (compare_keyed order) keys → IsStrictlySortedBy (compare_pairs order by) (map (λ k. k.1) keys)
  unfolding IsStrictlySortedBy
  ascending_pairs [] all h = h
  ascending_pairs (x ∷ keys) all h =
      let rest = All-tail (IsKeyed by) x keys all in
      (above x keys (All-head (IsKeyed by) x keys all) rest h.0, ascending_pairs keys rest h.1)

-- whether a pair is among them
pub has_pair_keys : (keys : List (ℕ × Pair)) (first second : ℕ) → list_any (λ k. nat_eq k.1.first first && nat_eq k.1.second second) keys ≡ has_pair (map (λ k. k.1) keys) first second
has_pair_keys [] first second = refl
has_pair_keys (x ∷ keys) first second = ap (λ b. (nat_eq x.1.first first && nat_eq x.1.second second) || b) (has_pair_keys keys first second)

-- what the keys are after an insertion that may fail
pub after_insertion : {E F : Type 0} (P : List (ℕ × Pair) → Type 0) (result : Result E F) (new old put : List (ℕ × Pair)) → OnOk result (new ≡ put) → OnErr result (new ≡ old) → P put → P old
    → P new
after_insertion P (Ok value) new old put ok err is was = subst P (sym ok) is
after_insertion P (Err error) new old put ok err is was = subst P (sym err) was
