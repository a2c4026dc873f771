-- The plain run of generators that are not zero ends, and in one way.
use Rattle.std.proofs.Common.{◌≡◌, ◌≢◌, ℕ, zero, suc, ◌+◌, ◌≤◌, ◌↔◌, Bool, true, false, if◌then◌else◌, Option, Some, None, Result, Err, List, [], ◌∷◌, refl, ap, ◌∙◌, arith}
use Rattle.std.specs.declared.cmp.Ordering.{Ordering}
use Rattle.ibp_base.proofs.Tests.{some_is_not_none}
use Rattle.mono_order.specs.Term.{Term}
use Rattle.module_vec.specs.ModuleVector.{ModuleVector}
use Rattle.module_vec.specs.Division.{Division}
use Rattle.module_vec.proofs.DivisionLaws.{divide-more}
use Rattle.pair_queue.specs.declared.order.PairOrder.{PairOrder}
use Rattle.pair_queue.specs.declared.queue.Pair.{Pair}
use Rattle.module_basis.specs.PlainRun.{RunState, pairs_left, RunEnd, Step, Next, Over, with_remainder, take_pair, without_pair, after_step, run_pairs, run_from, opening, RunsTo, PairsSpent, DegreeOver}
use Rattle.module_basis.specs.declared.fault.BasisFault.{BasisFault}
use Rattle.module_basis.specs.declared.fault.BasisFault.TheVariants as faults

-- ---- more steps give the same

remainder-more : (order : Term → Term → Ordering) (limit : ℕ) (state : RunState) (x y : Option Division) (step : Step) → ((d : Division) → x ≡ Some d → y ≡ Some d)
    → with_remainder order limit state x ≡ Some step → with_remainder order limit state y ≡ Some step
remainder-more order limit state None y step more e = absurd (some_is_not_none step e)
remainder-more order limit state (Some d) y step more e = ap (with_remainder order limit state) (more d refl) ∙ e

if-more : {X : Type 0} (b : Bool) (over x y : Option X) (z : X) → (x ≡ Some z → y ≡ Some z) → (if b then over else x) ≡ Some z → (if b then over else y) ≡ Some z
if-more true over x y z more e = e
if-more false over x y z more e = more e

pub take_pair-more : (order : Term → Term → Ordering) (limit n m : ℕ) → n ≤ m → (pair : Pair) (state : RunState) (step : Step)
    → take_pair order limit n pair state ≡ Some step → take_pair order limit m pair state ≡ Some step
take_pair-more order limit n m le pair state step e =
    if-more _ (Some Over) _ _ step
    (remainder-more order limit state _ _ step (λ d k. divide-more order limit state.elements n m le _ d k)) e

after-more : (x y : Option Step) (f g : RunState → Option RunEnd) (end : RunEnd) → ((s : Step) → x ≡ Some s → y ≡ Some s) → ((s : RunState) → f s ≡ Some end → g s ≡ Some end)
    → after_step f x ≡ Some end → after_step g y ≡ Some end
after-more None y f g end more later e = absurd (some_is_not_none end e)
after-more (Some Over) y f g end more later e = ap (after_step g) (more Over refl) ∙ e
after-more (Some (Next next)) y f g end more later e = ap (after_step g) (more (Next next) refl) ∙ later next e

pub run_pairs-more : (order : Term → Term → Ordering) (limit n m : ℕ) → n ≤ m → (budget : ℕ) (pairs : List Pair) (state : RunState) (end : RunEnd)
    → run_pairs order limit n budget pairs state ≡ Some end → run_pairs order limit m budget pairs state ≡ Some end
run_pairs-more order limit n m le budget [] state end e = e
run_pairs-more order limit n m le zero (pair ∷ others) state end e = e
run_pairs-more order limit n m le (suc budget) (pair ∷ others) state end e =
    after-more _ _ _ _ end (λ s k. take_pair-more order limit n m le pair (without_pair others state) s k)
    (λ next k. run_pairs-more order limit n m le budget (pairs_left next) next end k) e

run_from-more : (order : Term → Term → Ordering) (limit n m : ℕ) → n ≤ m → (budget : ℕ) (start : Option RunState) (end : RunEnd)
    → run_from order limit n budget start ≡ Some end → run_from order limit m budget start ≡ Some end
run_from-more order limit n m le budget None end e = e
run_from-more order limit n m le budget (Some state) end e = run_pairs-more order limit n m le budget (pairs_left state) state end e

-- A run ends in one way.
pub RunsTo-unique : (order : Term → Term → Ordering) (by : PairOrder) (limit : ℕ) (generators : List ModuleVector) (budget : ℕ) (first second : RunEnd)
    → RunsTo order by limit generators budget first → RunsTo order by limit generators budget second → first ≡ second
RunsTo-unique order by limit generators budget first second h k =
    let start = opening order by limit generators in
    let a = run_from-more order limit h.steps (h.steps + k.steps) (omega arith) budget start first h.ends in
    let b = run_from-more order limit k.steps (h.steps + k.steps) (omega arith) budget start second k.ends in
    cc

-- one end excludes each other one
pub RunsTo-apart : (order : Term → Term → Ordering) (by : PairOrder) (limit : ℕ) (generators : List ModuleVector) (budget : ℕ) (first second : RunEnd)
    → RunsTo order by limit generators budget first → first ≢ second → RunsTo order by limit generators budget second → ⊥
RunsTo-apart order by limit generators budget first second h apart k = apart (RunsTo-unique order by limit generators budget first second h k)

-- What a fault tells of the end of a run, where it comes from a step that has not spent the budget.
pub fault_tells : {T : Type 0} (order : Term → Term → Ordering) (by : PairOrder) (limit : ℕ) (generators : List ModuleVector) (budget : ℕ) (fault : BasisFault) (result : Result T BasisFault)
    → result ≡ Err fault → (fault ≡ faults.DegreeOver → RunsTo order by limit generators budget DegreeOver) → fault ≢ faults.PairsSpent → result ≢ Err faults.NoMemory
    → ((result ≡ Err faults.PairsSpent) ↔ RunsTo order by limit generators budget PairsSpent) × ((result ≡ Err faults.DegreeOver) ↔ RunsTo order by limit generators budget DegreeOver)
fault_tells order by limit generators budget faults.PairsSpent result is over not_spent memory = absurd (not_spent refl)
fault_tells order by limit generators budget faults.NoMemory result is over not_spent memory = absurd (memory is)
fault_tells order by limit generators budget faults.DegreeOver result is over not_spent memory =
    let ends = over refl in (
      (λ e. absurd (let clash : ⊥ = cc in clash), λ h. absurd (RunsTo-apart order by limit generators budget DegreeOver PairsSpent ends (λ e. cc) h)),
      (λ e. ends, λ h. is),
    )
