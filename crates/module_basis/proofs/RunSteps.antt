-- The steps of a run, for a loop over its state.
use Rattle.std.proofs.Common.{◌≡◌, ◌≢◌, ℕ, suc, ◌+◌, ◌-◌, ◌≤◌, Some, length, List, [], ◌∷◌, sym, refl, ap, subst, ◌∙◌, arith}
use Rattle.std.specs.declared.cmp.Ordering.{Ordering}
use Rattle.mono_order.specs.Term.{Term}
use Rattle.module_vec.specs.ModuleVector.{ModuleVector}
use Rattle.pair_queue.specs.declared.order.PairOrder.{PairOrder}
use Rattle.pair_queue.specs.declared.queue.Pair.{Pair}
use Rattle.module_basis.specs.PlainRun.{RunState, run_state, pairs_left, RunEnd, Done, PairsSpent, DegreeOver, Step, Next, Over, take_pair, without_pair, TakesPair, after_step, run_pairs, run_from, opening, RunsTo}
use Rattle.module_basis.proofs.RunEnds.{take_pair-more, run_pairs-more}
use Rattle.module_basis.proofs.RunCounts.{take_pair-counts, opening-counts}

-- the first pair that is not dropped is taken, and the run goes on or stops so
pub record TakesFirst (order : Term → Term → Ordering) (limit : ℕ) (state : RunState) (step : Step) : Type 0 where
  pub steps : ℕ
  pub pair : Pair
  pub others : List Pair
  pub left : pairs_left state ≡ pair ∷ others
  pub takes : take_pair order limit steps pair (without_pair others state) ≡ Some step

-- where it was taken off the list of pairs before
pub TakesFirst-from_pair : (order : Term → Term → Ordering) (limit : ℕ) (state after : RunState) (pair : Pair) (step : Step) → pairs_left state ≡ pair ∷ after.pairs
    → after.by ≡ state.by → after.elements ≡ state.elements → after.taken ≡ state.taken → TakesPair order limit pair after step → TakesFirst order limit state step
TakesFirst-from_pair order limit state after pair step left by elements taken h =
    let same : without_pair after.pairs after ≡ without_pair after.pairs state = (λ i. run_state (by i) (elements i) after.pairs (taken i + 1)) in
    record { steps = h.steps; pair = pair; others = after.pairs; left = left; takes = ap (take_pair order limit h.steps pair) (sym same) ∙ h.takes }

-- the run goes on from this state, with a budget of so many more pairs, and ends so
pub record RunsFrom (order : Term → Term → Ordering) (limit : ℕ) (budget : ℕ) (state : RunState) (end : RunEnd) : Type 0 where
  pub steps : ℕ
  pub ends : run_pairs order limit steps budget (pairs_left state) state ≡ Some end

module _ (order : Term → Term → Ordering) (by : PairOrder) (limit : ℕ) where
  pub RunsTo-opened : (generators : List ModuleVector) (budget : ℕ) (state : RunState) → opening order by limit generators ≡ Some state → (end : RunEnd)
      → RunsFrom order limit budget state end → RunsTo order by limit generators budget end
  RunsTo-opened generators budget state e end h = record { steps = h.steps; ends = ap (run_from order limit h.steps budget) e ∙ h.ends }

  -- no pair is left, once the criterion has dropped what it drops
  pub RunsFrom-done : (budget : ℕ) (state : RunState) → pairs_left state ≡ [] → RunsFrom order limit budget state (Done state.elements state.taken)
  RunsFrom-done budget state e = record { steps = 0; ends = ap (λ pairs. run_pairs order limit 0 budget pairs state) e }

  -- a pair is left, and the budget is spent
  pub RunsFrom-spent : (state : RunState) (pair : Pair) (others : List Pair) → pairs_left state ≡ pair ∷ others → RunsFrom order limit 0 state PairsSpent
  RunsFrom-spent state pair others e = record { steps = 0; ends = ap (λ pairs. run_pairs order limit 0 0 pairs state) e }

  -- a pair is taken, and the run ends or goes on
  pub RunsFrom-stopped : (budget : ℕ) (state : RunState) → TakesFirst order limit state Over → RunsFrom order limit (suc budget) state DegreeOver
  RunsFrom-stopped budget state h =
      record {
        steps = h.steps;
        ends = ap (λ pairs. run_pairs order limit h.steps (suc budget) pairs state) h.left
            ∙ ap (after_step (λ next. run_pairs order limit h.steps budget (pairs_left next) next)) h.takes;
      }

  pub RunsFrom-next : (budget : ℕ) (state next : RunState) → TakesFirst order limit state (Next next) → (end : RunEnd) → RunsFrom order limit budget next end
      → RunsFrom order limit (suc budget) state end
  RunsFrom-next budget state next h end rest =
      let steps = h.steps + rest.steps in
      let taken = take_pair-more order limit h.steps steps (omega arith) h.pair (without_pair h.others state) (Next next) h.takes in
      let later = run_pairs-more order limit rest.steps steps (omega arith) budget (pairs_left next) next end rest.ends in
      record {
        steps = steps;
        ends = ap (λ pairs. run_pairs order limit steps (suc budget) pairs state) h.left
            ∙ (ap (after_step (λ n. run_pairs order limit steps budget (pairs_left n) n)) taken ∙ later);
      }

  pub TakesFirst-counts : (state next : RunState) → TakesFirst order limit state (Next next)
      → (length next.elements ≤ length state.elements + 1) × (next.taken ≡ state.taken + 1)
  TakesFirst-counts state next h = take_pair-counts order limit h.steps h.pair (without_pair h.others state) next h.takes

  -- What the loop keeps: how the run goes on from its state tells how the whole run ends.
  pub record IsUnderWay (generators : List ModuleVector) (budget : ℕ) (state : RunState) : Type 0 where
    pub taken : state.taken ≤ budget
    pub few : length state.elements ≤ length generators + state.taken
    pub ends : (end : RunEnd) → RunsFrom order limit (budget - state.taken) state end → RunsTo order by limit generators budget end

  pub IsUnderWay-opened : (generators : List ModuleVector) (budget : ℕ) (state : RunState) → opening order by limit generators ≡ Some state → IsUnderWay generators budget state
  IsUnderWay-opened generators budget state e =
      let counts = opening-counts order by limit generators state e in
      let whole : budget - state.taken ≡ budget = omega (arith, counts.1) in
      record {
        taken = omega (arith, counts.1);
        few = omega (arith, counts.0);
        ends = λ end h. RunsTo-opened generators budget state e end (subst (λ b. RunsFrom order limit b state end) whole h);
      }

  pub IsUnderWay-next : (generators : List ModuleVector) (budget : ℕ) (state next : RunState) → IsUnderWay generators budget state → state.taken ≢ budget
      → TakesFirst order limit state (Next next) → IsUnderWay generators budget next
  IsUnderWay-next generators budget state next u apart h =
      let counts = TakesFirst-counts state next h in
      let one_less : suc (budget - next.taken) ≡ budget - state.taken = omega (arith, counts.1, u.taken, apart) in
      record {
        taken = omega (arith, counts.1, u.taken, apart);
        few = omega (arith, counts.0, counts.1, u.few);
        ends = λ end k. u.ends end (subst (λ b. RunsFrom order limit b state end) one_less (RunsFrom-next (budget - next.taken) state next h end k));
      }

  pub IsUnderWay-stopped : (generators : List ModuleVector) (budget : ℕ) (state : RunState) → IsUnderWay generators budget state → state.taken ≢ budget
      → TakesFirst order limit state Over → RunsTo order by limit generators budget DegreeOver
  IsUnderWay-stopped generators budget state u apart h =
      let one_less : suc (budget - (state.taken + 1)) ≡ budget - state.taken = omega (arith, u.taken, apart) in
      u.ends DegreeOver (subst (λ b. RunsFrom order limit b state DegreeOver) one_less (RunsFrom-stopped (budget - (state.taken + 1)) state h))

  pub IsUnderWay-spent : (generators : List ModuleVector) (budget : ℕ) (state : RunState) → IsUnderWay generators budget state → state.taken ≡ budget → pairs_left state ≢ []
      → RunsTo order by limit generators budget PairsSpent
  IsUnderWay-spent generators budget state u same left =
      let none : 0 ≡ budget - state.taken = omega (arith, same) in
      u.ends PairsSpent (subst (λ b. RunsFrom order limit b state PairsSpent) none (spent_at state (pairs_left state) refl left))
    where
      spent_at : (state : RunState) (pairs : List Pair) → pairs_left state ≡ pairs → pairs ≢ [] → RunsFrom order limit 0 state PairsSpent
      spent_at state [] e h = absurd (h refl)
      spent_at state (pair ∷ others) e h = RunsFrom-spent state pair others e

  pub IsUnderWay-done : (generators : List ModuleVector) (budget : ℕ) (state : RunState) → IsUnderWay generators budget state → pairs_left state ≡ []
      → RunsTo order by limit generators budget (Done state.elements state.taken)
  IsUnderWay-done generators budget state u none = u.ends (Done state.elements state.taken) (RunsFrom-done (budget - state.taken) state none)
