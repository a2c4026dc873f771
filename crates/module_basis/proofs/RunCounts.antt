-- A done run takes at most as many pairs as its budget, and each of them adds at most one element to those of
-- the generators.
use Rattle.std.proofs.Common.{◌≡◌, ℕ, zero, suc, ◌+◌, ◌≤◌, Bool, true, false, ◌||◌, if◌then◌else◌, Option, Some, None, length, List, [], ◌∷◌, ◌++◌, sym, refl, ap, ◌∙◌, arith, length-append}
use Rattle.std.specs.declared.cmp.Ordering.{Ordering}
use Rattle.mono_order.specs.Term.{Term}
use Rattle.module_vec.specs.ModuleVector.{ModuleVector, lead, multiple_value}
use Rattle.module_vec.specs.Division.{Division, Remainder, OverDegree, divide, is_over_degree, monic_of, multiple_with_lead, s_vector}
use Rattle.pair_queue.specs.declared.order.PairOrder.{PairOrder}
use Rattle.pair_queue.specs.declared.queue.Pair.{Pair}
use Rattle.pair_queue.specs.Pairs.{compare_pairs, insert_pairs}
use Rattle.module_basis.specs.PlainRun.{RunState, pairs_left, Done, Step, Next, Over, pairs_with, has_pair_over, with_element, with_generators, step_to, with_remainder, element, take_pair, without_pair, after_step, run_pairs, run_from, opening, RunsTo}

added_if : (b : Bool) (state added next : RunState) → length added.elements ≡ length state.elements + 1 → added.taken ≡ state.taken → (if b then None else Some added) ≡ Some next
    → (length next.elements ≡ length state.elements + 1) × (next.taken ≡ state.taken)
added_if true state added next p q e = cc
added_if false state added next p q e =
    let is : added ≡ next = cc in
    (ap (λ (s : RunState). length s.elements) (sym is) ∙ p, ap (λ (s : RunState). s.taken) (sym is) ∙ q)

pub with_element-counts : (order : Term → Term → Ordering) (limit : ℕ) (state : RunState) (v : ModuleVector) (next : RunState) → with_element order limit state v ≡ Some next
    → (length next.elements ≡ length state.elements + 1) × (next.taken ≡ state.taken)
with_element-counts order limit state v next e =
    let formed = pairs_with (length state.elements + 1) (lead v) 1 state.elements in
    added_if (has_pair_over limit formed) state (record { by = state.by; elements = state.elements ++ v ∷ []; pairs = insert_pairs (compare_pairs order state.by) formed state.pairs; taken = state.taken }) next
    (length-append state.elements (v ∷ [])) refl e

step_next : (x : Option RunState) (next : RunState) → ◌≡◌ {A = Option Step} (Some (step_to x)) (Some (Next next)) → x ≡ Some next
step_next None next e = cc
step_next (Some state) next e = cc

remainder-counts : (order : Term → Term → Ordering) (limit : ℕ) (state : RunState) (x : Option Division) (next : RunState) → with_remainder order limit state x ≡ Some (Next next)
    → (length next.elements ≤ length state.elements + 1) × (next.taken ≡ state.taken)
remainder-counts order limit state None next e = cc
remainder-counts order limit state (Some OverDegree) next e = cc
remainder-counts order limit state (Some (Remainder [])) next e =
    let is : state ≡ next = cc in
    (omega (arith, ap (λ (s : RunState). length s.elements) is), ap (λ (s : RunState). s.taken) (sym is))
remainder-counts order limit state (Some (Remainder (t ∷ rest))) next e =
    let counts = with_element-counts order limit state (monic_of order (t ∷ rest)) next (step_next _ next e) in
    (omega (arith, counts.0), counts.1)

taken_if : (b : Bool) (x : Option Step) (next : RunState) → (if b then Some Over else x) ≡ Some (Next next) → x ≡ Some (Next next)
taken_if true x next e = cc
taken_if false x next e = e

pub take_pair-counts : (order : Term → Term → Ordering) (limit steps : ℕ) (pair : Pair) (state next : RunState) → take_pair order limit steps pair state ≡ Some (Next next)
    → (length next.elements ≤ length state.elements + 1) × (next.taken ≡ state.taken)
take_pair-counts order limit steps pair state next e =
    let g = element state pair.first in
    let h = element state pair.second in
    let over = is_over_degree limit (multiple_value (multiple_with_lead pair.lcm g)) || is_over_degree limit (multiple_value (multiple_with_lead pair.lcm h)) in
    let division = divide order limit state.elements steps (s_vector order g h) in
    remainder-counts order limit state division next (taken_if over (with_remainder order limit state division) next e)

run_pairs-counts : (order : Term → Term → Ordering) (limit steps budget : ℕ) (pairs : List Pair) (state : RunState) (list : List ModuleVector) (taken : ℕ)
    → run_pairs order limit steps budget pairs state ≡ Some (Done list taken) → (taken ≤ state.taken + budget) × (length list + state.taken ≤ length state.elements + taken)
run_pairs-counts order limit steps budget [] state list taken e =
    let elements : state.elements ≡ list = cc in
    let count : state.taken ≡ taken = cc in
    (omega (arith, count), omega (arith, count, ap (λ (l : List ModuleVector). length l) elements))
run_pairs-counts order limit steps zero (pair ∷ others) state list taken e = cc
run_pairs-counts order limit steps (suc budget) (pair ∷ others) state list taken e =
    elim (take_pair order limit steps pair (without_pair others state)) as (λ x. take_pair order limit steps pair (without_pair others state) ≡ x
    → after_step (λ next. run_pairs order limit steps budget (pairs_left next) next) x ≡ Some (Done list taken)
    → (taken ≤ state.taken + suc budget) × (length list + state.taken ≤ length state.elements + taken)) [
      | None ↦ λ d k. cc
      | Some Over ↦ λ d k. cc
      | Some (Next next) ↦ λ d k.
          let counts = take_pair-counts order limit steps pair (without_pair others state) next d in
          let rest = run_pairs-counts order limit steps budget (pairs_left next) next list taken k in
          (omega (arith, counts.0, counts.1, rest.0), omega (arith, counts.0, counts.1, rest.1))
    ] refl e

generators-counts : (order : Term → Term → Ordering) (limit : ℕ) (rest : List ModuleVector) (state next : RunState) → with_generators order limit (Some state) rest ≡ Some next
    → (length next.elements ≡ length state.elements + length rest) × (next.taken ≡ state.taken)
generators-counts order limit [] state next e =
    let is : state ≡ next = cc in
    (omega (arith, ap (λ (s : RunState). length s.elements) is), ap (λ (s : RunState). s.taken) (sym is))
generators-counts order limit (g ∷ rest) state next e =
    elim (with_element order limit state (monic_of order g)) as (λ x. with_element order limit state (monic_of order g) ≡ x → with_generators order limit x rest ≡ Some next
    → (length next.elements ≡ length state.elements + length (g ∷ rest)) × (next.taken ≡ state.taken)) [
      | None ↦ λ d k. cc
      | Some after ↦ λ d k.
          let first = with_element-counts order limit state (monic_of order g) after d in
          let later = generators-counts order limit rest after next k in
          (omega (arith, first.0, later.0), later.1 ∙ first.1)
    ] refl e

run_from-counts : (order : Term → Term → Ordering) (by : PairOrder) (limit steps budget : ℕ) (generators : List ModuleVector) (start : Option RunState) → opening order by limit generators ≡ start
    → (list : List ModuleVector) (taken : ℕ) → run_from order limit steps budget start ≡ Some (Done list taken) → (taken ≤ budget) × (length list ≤ length generators + taken)
run_from-counts order by limit steps budget generators None opens list taken e = cc
run_from-counts order by limit steps budget generators (Some state) opens list taken e =
    let first = generators-counts order limit generators (record { by = by; elements = []; pairs = []; taken = 0 }) state opens in
    let run = run_pairs-counts order limit steps budget (pairs_left state) state list taken e in
    (omega (arith, first.1, run.0), omega (arith, first.0, first.1, run.1))

pub opening-counts : (order : Term → Term → Ordering) (by : PairOrder) (limit : ℕ) (generators : List ModuleVector) (state : RunState) → opening order by limit generators ≡ Some state
    → (length state.elements ≡ length generators) × (state.taken ≡ 0)
opening-counts order by limit generators state e =
    let counts = generators-counts order limit generators (record { by = by; elements = []; pairs = []; taken = 0 }) state e in
    (omega (arith, counts.0), counts.1)

pub run_counts : (order : Term → Term → Ordering) (by : PairOrder) (limit budget : ℕ) (generators list : List ModuleVector) (taken : ℕ) → RunsTo order by limit generators budget (Done list taken)
    → (taken ≤ budget) × (length list ≤ length generators + taken)
run_counts order by limit budget generators list taken run =
    run_from-counts order by limit run.steps budget generators (opening order by limit generators) refl list taken run.ends
