-- Pairs of elements of a run, in the order in which the run takes them.
--     pair_degree                  the degree by which a pair goes: 0 where pairs go by terms, else that of its least common
--                                  multiple, which is that of the monomial and that of the component
--     compare_by_lcm               by the least common multiple, then by the second number, then by the first
--     compare_pairs                by the degree, and then by the least common multiple and the numbers
--     insert_pair, insert_pairs    a pair is put at its place in a list in this order;  and pairs in turn
--     has_pair                     a pair with these numbers is in the list
--     PairQueueValue               an order of pairs, and pairs
-- Source: the normal strategy of Buchberger, which takes the pair with the least common multiple of leads that is least, and
-- its form by degrees, as for homogeneous modules in Using Algebraic Geometry of Cox, Little and O'Shea.
use Rattle.std.specs.Prelude.{◌≡◌, ℕ, ◌+◌, Bool, ◌&&◌, nat_eq, if◌then◌else◌, sum, get_or, List, [], ◌∷◌}
use Rattle.std.specs.List.{list_any}
use Rattle.std.specs.Cmp.{IsTotalOrder, on_total, then_total, nat_cmp_total}
use Rattle.std.specs.Ordering.{nat_cmp, ordering_then, is_lt}
use Rattle.std.specs.declared.cmp.Ordering.{Ordering}
use Rattle.mono_order.specs.Term.{Term}
use Rattle.pair_queue.specs.declared.order.PairOrder.{PairOrder}
use Rattle.pair_queue.specs.declared.order.PairOrder.TheVariants.{Terms, Degrees}
use Rattle.pair_queue.specs.declared.queue.Pair.{Pair}

abbrev pub pair_degree : PairOrder → Term → ℕ
pair_degree Terms lcm = 0
pair_degree (Degrees degrees) lcm = sum lcm.1 + get_or degrees lcm.0 0

abbrev pub compare_by_lcm : (Term → Term → Ordering) → Pair → Pair → Ordering
compare_by_lcm order p q = ordering_then (order p.lcm q.lcm) (ordering_then (nat_cmp p.second q.second) (nat_cmp p.first q.first))

-- pairs that stand beside their degrees
abbrev pub compare_keyed : (Term → Term → Ordering) → ℕ × Pair → ℕ × Pair → Ordering
compare_keyed order p q = ordering_then (nat_cmp p.0 q.0) (compare_by_lcm order p.1 q.1)

abbrev pub IsKeyed : PairOrder → ℕ × Pair → Type 0
IsKeyed by p = p.0 ≡ pair_degree by p.1.lcm

abbrev pub compare_pairs : (Term → Term → Ordering) → PairOrder → Pair → Pair → Ordering
compare_pairs order by p q = ordering_then (nat_cmp (pair_degree by p.lcm) (pair_degree by q.lcm)) (compare_by_lcm order p q)

-- the pair put at its place
abbrev pub insert_pair : (Pair → Pair → Ordering) → Pair → List Pair → List Pair
insert_pair compare pair [] = pair ∷ []
insert_pair compare pair (first ∷ others) =
    if is_lt (compare pair first) then (pair ∷ first ∷ others) else (first ∷ insert_pair compare pair others)

abbrev pub insert_pairs : (Pair → Pair → Ordering) → List Pair → List Pair → List Pair
insert_pairs compare [] pairs = pairs
insert_pairs compare (pair ∷ more) pairs = insert_pairs compare more (insert_pair compare pair pairs)

-- the first number, and the second one
abbrev pub has_pair : List Pair → ℕ → ℕ → Bool
has_pair pairs first second = list_any (λ pair. nat_eq pair.first first && nat_eq pair.second second) pairs

pub record PairQueueValue : Type 0 where
  pub by : PairOrder
  pub pairs : List Pair

abbrev pub queue_value : PairOrder → List Pair → PairQueueValue
queue_value by pairs = record { by = by; pairs = pairs }

pub compare_keyed_total : (order : Term → Term → Ordering) → IsTotalOrder order → IsTotalOrder (compare_keyed order)
compare_keyed_total order total =
    then_total (on_total (λ p. p.0) nat_cmp_total)
    (then_total (on_total (λ p. p.1.lcm) total) (then_total (on_total (λ p. p.1.second) nat_cmp_total) (on_total (λ p. p.1.first) nat_cmp_total)))
