-- The plain run: Buchberger's algorithm with the chain criterion, a budget of pairs and a limit on degrees.
--     RunState                     the order of pairs, the elements, the pairs that are left, in their order, and how many were taken
--     with_element                 an element is added, with its pairs; None where one of these is over the limit
--     opening                      the monic multiples of the generators are added in turn
--     is_dropped                   the chain criterion drops the pair, through some other element
--     pairs_left                   the pairs of a state without those in front that the criterion drops
--     take_pair                    the remainder of the pair's S-vector is added, where it is not zero
--     RunEnd                       Done with the elements and the pairs taken, PairsSpent or DegreeOver
--     IsProper                     the pair is one of two elements with leads in one component
--     IsSoundState                 the elements are monic, and the pairs are proper
--     TakesPair                    a pair is taken, and what follows
--     RunsTo                       the run of the generators, with this order of pairs and this budget, ends so
-- Source: Buchberger's algorithm for submodules as in Using Algebraic Geometry of Cox, Little and O'Shea, and the chain
-- criterion of Buchberger, "A criterion for detecting unnecessary reductions in the construction of Gröbner bases" (1979).
use Rattle.std.specs.Prelude.{◌≡◌, ℕ, zero, suc, ◌+◌, ◌-◌, Bool, false, not, ◌&&◌, ◌||◌, if◌then◌else◌, nat_eq, nat_lt, sum, ◌<◌, Option, Some, None, length, get_or, List, [], ◌∷◌, ◌++◌}
use Rattle.std.specs.List.{All, Contains}
use Rattle.std.specs.declared.cmp.Ordering.{Ordering}
use Rattle.mono_order.specs.Term.{Term, lcm_term, divides}
use Rattle.pair_queue.specs.declared.order.PairOrder.{PairOrder}
use Rattle.pair_queue.specs.declared.queue.Pair.{Pair}
use Rattle.pair_queue.specs.Pairs.{compare_pairs, insert_pair, insert_pairs, has_pair}
use Rattle.module_vec.specs.ModuleVector.{ModuleVector, lead, multiple_value, IsMonicVector}
use Rattle.module_vec.specs.Division.{Division, Remainder, OverDegree, divide, is_over_degree, monic_of, multiple_with_lead, s_vector}

pub record RunState : Type 0 where
  pub by : PairOrder
  pub elements : List ModuleVector
  pub pairs : List Pair
  pub taken : ℕ

abbrev pub run_state : PairOrder → List ModuleVector → List Pair → ℕ → RunState
run_state by elements pairs taken = record { by = by; elements = elements; pairs = pairs; taken = taken }

-- each pair is new where the earlier ones are put
abbrev pub AreNewPairs : (Pair → Pair → Ordering) → List Pair → List Pair → Type 0
AreNewPairs compare [] pairs = Unit {0}
AreNewPairs compare (pair ∷ more) pairs = (¬ (Contains pairs pair)) × AreNewPairs compare more (insert_pair compare pair pairs)

-- the pairs of the element with the number `second` and this lead, with elements that are numbered from `first` on
abbrev pub pairs_with : ℕ → Term → ℕ → List ModuleVector → List Pair
pairs_with second new first [] = []
pairs_with second new first (g ∷ elements) =
    let others = pairs_with second new (suc first) elements in
    if nat_eq (lead g).0 new.0 then (record { first = first; second = second; lcm = lcm_term (lead g) new } ∷ others) else others

abbrev pub has_pair_over : ℕ → List Pair → Bool
has_pair_over limit [] = false
has_pair_over limit (pair ∷ pairs) = nat_lt limit (sum pair.lcm.1) || has_pair_over limit pairs

abbrev pub with_element : (Term → Term → Ordering) → ℕ → RunState → ModuleVector → Option RunState
with_element order limit state v =
    let formed = pairs_with (length state.elements + 1) (lead v) 1 state.elements in
    if has_pair_over limit formed
    then None
    else Some (record { by = state.by; elements = state.elements ++ v ∷ []; pairs = insert_pairs (compare_pairs order state.by) formed state.pairs; taken = state.taken })

abbrev pub with_generators : (Term → Term → Ordering) → ℕ → Option RunState → List ModuleVector → Option RunState
with_generators order limit None generators = None
with_generators order limit (Some state) [] = Some state
with_generators order limit (Some state) (g ∷ generators) = with_generators order limit (with_element order limit state (monic_of order g)) generators

abbrev pub opening : (Term → Term → Ordering) → PairOrder → ℕ → List ModuleVector → Option RunState
opening order by limit generators = with_generators order limit (Some (record { by = by; elements = []; pairs = []; taken = 0 })) generators

-- ---- what a run keeps

-- the pair of the elements at two places, which are counted from 0
unfoldable pub pair_at : List ModuleVector → ℕ → ℕ → Pair
pair_at elements i j = record { first = 1 + i; second = j + 1; lcm = lcm_term (lead (get_or elements i [])) (lead (get_or elements j [])) }

-- a pair of two elements with leads in one component
pub record IsProper (elements : List ModuleVector) (q : Pair) : Type 0 where
  pub i : ℕ
  pub j : ℕ
  pub ordered : i < j
  pub within : j < length elements
  pub component : (lead (get_or elements i [])).0 ≡ (lead (get_or elements j [])).0
  pub is : q ≡ pair_at elements i j

-- the elements are monic, and the pairs are pairs of them
pub record IsSoundState (order : Term → Term → Ordering) (variables : ℕ) (state : RunState) : Type 0 where
  pub monic : All (IsMonicVector order variables) state.elements
  pub proper : (q : Pair) → Contains state.pairs q → IsProper state.elements q

-- ---- the chain criterion

-- the pair of the elements with two numbers, of which the lesser one comes first, is left
abbrev pub is_left : List Pair → ℕ → ℕ → Bool
is_left pairs a b = if nat_lt a b then has_pair pairs a b else has_pair pairs b a

-- another element, with this number and lead: the lead divides the pair's least common multiple, and the element's
-- pairs with the two are gone
abbrev pub is_dropped_through : List Pair → Pair → ℕ → Term → Bool
is_dropped_through pairs pair number top =
    not (nat_eq number pair.first) && not (nat_eq number pair.second) && divides top pair.lcm && not (is_left pairs pair.first number) && not (is_left pairs pair.second number)

-- some element of the list, whose elements are numbered from here on, drops the pair
abbrev pub is_dropped : ℕ → List ModuleVector → List Pair → Pair → Bool
is_dropped number [] pairs pair = false
is_dropped number (g ∷ elements) pairs pair = is_dropped_through pairs pair number (lead g) || is_dropped (suc number) elements pairs pair

-- the pairs without those in front that the criterion drops
abbrev pub undropped : List ModuleVector → List Pair → List Pair
undropped elements [] = []
undropped elements (pair ∷ others) = if is_dropped 1 elements others pair then undropped elements others else (pair ∷ others)

abbrev pub pairs_left : RunState → List Pair
pairs_left state = undropped state.elements state.pairs

-- ---- pairs

pub data RunEnd : Type 0 where
  Done : List ModuleVector → ℕ → RunEnd
  PairsSpent : RunEnd
  DegreeOver : RunEnd

-- the run goes on, or a degree is over the limit
pub data Step : Type 0 where
  Next : RunState → Step
  Over : Step

abbrev pub step_to : Option RunState → Step
step_to None = Over
step_to (Some state) = Next state

-- by what the division of the S-vector gives
abbrev pub with_remainder : (Term → Term → Ordering) → ℕ → RunState → Option Division → Option Step
with_remainder order limit state None = None
with_remainder order limit state (Some OverDegree) = Some Over
with_remainder order limit state (Some (Remainder [])) = Some (Next state)
with_remainder order limit state (Some (Remainder (term ∷ rest))) = Some (step_to (with_element order limit state (monic_of order (term ∷ rest))))

abbrev pub element : RunState → ℕ → ModuleVector
element state number = get_or state.elements (number - 1) []

-- a shifted term of the pair's S-vector has a degree above the limit
abbrev pub is_pair_over : ℕ → ModuleVector → ModuleVector → Term → Bool
is_pair_over limit g h lcm = is_over_degree limit (multiple_value (multiple_with_lead lcm g)) || is_over_degree limit (multiple_value (multiple_with_lead lcm h))

-- None where the division needs more than these steps
abbrev pub take_pair : (Term → Term → Ordering) → ℕ → ℕ → Pair → RunState → Option Step
take_pair order limit steps pair state =
    let g = element state pair.first in
    let h = element state pair.second in
    if is_pair_over limit g h pair.lcm
    then Some Over
    else with_remainder order limit state (divide order limit state.elements steps (s_vector order g h))

-- the state when a pair is taken off
abbrev pub without_pair : List Pair → RunState → RunState
without_pair others state = record { by = state.by; elements = state.elements; pairs = others; taken = state.taken + 1 }

-- the pair, which is off the list of pairs, is taken, and the run goes on or stops so
pub record TakesPair (order : Term → Term → Ordering) (limit : ℕ) (pair : Pair) (state : RunState) (step : Step) : Type 0 where
  pub steps : ℕ
  pub takes : take_pair order limit steps pair (without_pair state.pairs state) ≡ Some step

abbrev pub after_step : (RunState → Option RunEnd) → Option Step → Option RunEnd
after_step continue None = None
after_step continue (Some Over) = Some DegreeOver
after_step continue (Some (Next state)) = continue state

-- with this budget, from these pairs on, the first of which is not dropped; None where a division needs more than the steps
abbrev pub run_pairs : (Term → Term → Ordering) → ℕ → ℕ → ℕ → List Pair → RunState → Option RunEnd
run_pairs order limit steps budget [] state = Some (Done state.elements state.taken)
run_pairs order limit steps zero (pair ∷ others) state = Some PairsSpent
run_pairs order limit steps (suc budget) (pair ∷ others) state =
    after_step (λ next. run_pairs order limit steps budget (pairs_left next) next) (take_pair order limit steps pair (without_pair others state))

abbrev pub run_from : (Term → Term → Ordering) → ℕ → ℕ → ℕ → Option RunState → Option RunEnd
run_from order limit steps budget None = Some DegreeOver
run_from order limit steps budget (Some state) = run_pairs order limit steps budget (pairs_left state) state

abbrev pub plain_run : (Term → Term → Ordering) → PairOrder → ℕ → ℕ → List ModuleVector → ℕ → Option RunEnd
plain_run order by limit steps generators budget = run_from order limit steps budget (opening order by limit generators)

pub record RunsTo (order : Term → Term → Ordering) (by : PairOrder) (limit : ℕ) (generators : List ModuleVector) (budget : ℕ) (end : RunEnd) : Type 0 where
  pub steps : ℕ
  pub ends : plain_run order by limit steps generators budget ≡ Some end
