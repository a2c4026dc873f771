-- Pairs that are put into a queue one by one, and generators that are added one by one.
use Rattle.std.proofs.Common.{◌≡◌, ℕ, ◌+◌, ◌<◌, ◌≤◌, Some, ⊎_elim, length, get_or, drop, List, ◌∷◌, sym, ap, subst, ◌∙◌, add-one, arith}
use Rattle.std.specs.declared.cmp.Ordering.{Ordering}
use Rattle.std.proofs.Math.Seq.{drop-cons}
use Rattle.std.proofs.lemmas.Bool.{cases_lt}
use Rattle.std.proofs.lemmas.List.{get_or_default}
use Rattle.mono_order.specs.Term.{Term}
use Rattle.pair_queue.specs.declared.order.PairOrder.{PairOrder}
use Rattle.pair_queue.specs.declared.queue.Pair.{Pair}
use Rattle.pair_queue.specs.Pairs.{compare_pairs, insert_pairs, PairQueueValue}
use Rattle.module_vec.specs.ModuleVector.{ModuleVector, IsVector}
use Rattle.module_vec.specs.Division.{monic_of}
use Rattle.module_basis.specs.PlainRun.{RunState, AreNewPairs, with_element, with_generators, opening}
use Rattle.module_basis.proofs.RunCounts.{with_element-counts}

drop_at : {X : Type 0} (list : List X) (i : ℕ) (x : X) → i < length list → x ≡ get_or list i x → drop i list ≡ x ∷ drop (i + 1) list
drop_at list i x within is = drop-cons list i x within ∙ (λ j. sym is j ∷ drop (sym (add-one i) j) list)

-- the pairs in front are in the queue
pub record IsPushed (order : Term → Term → Ordering) (pairs : List Pair) (start : PairQueueValue) (i : ℕ) (queue : PairQueueValue) : Type 0 where
  pub by : queue.by ≡ start.by
  pub new : AreNewPairs (compare_pairs order start.by) (drop i pairs) queue.pairs
  pub same : insert_pairs (compare_pairs order start.by) (drop i pairs) queue.pairs ≡ insert_pairs (compare_pairs order start.by) pairs start.pairs

-- the generators in front are added
pub record IsOpened (order : Term → Term → Ordering) (by : PairOrder) (limit variables : ℕ) (generators : List ModuleVector) (i : ℕ) (state : RunState) : Type 0 where
  pub rest : with_generators order limit (Some state) (drop i generators) ≡ opening order by limit generators
  pub long : length state.elements ≡ i
  pub vectors : (k : ℕ) (d : ModuleVector) → k < i → IsVector order variables (get_or generators k d)

grown : (order : Term → Term → Ordering) (limit : ℕ) (state : RunState) (v : ModuleVector) (next : RunState) → with_element order limit state v ≡ Some next → length next.elements ≡ length state.elements + 1
grown order limit state v next e = (with_element-counts order limit state v next e).0

pub IsOpened-more : (order : Term → Term → Ordering) (by : PairOrder) (limit variables : ℕ) (generators : List ModuleVector) (i : ℕ) (state next : RunState) (g : ModuleVector) → i < length generators
    → g ≡ get_or generators i g → IsVector order variables g → with_element order limit state (monic_of order g) ≡ Some next → IsOpened order by limit variables generators i state
    → IsOpened order by limit variables generators (i + 1) next
IsOpened-more order by limit variables generators i state next g within is vector added h =
    record {
      rest = sym (ap (λ (l : List ModuleVector). with_generators order limit (Some state) l) (drop_at generators i g within is)
          ∙ ap (λ s. with_generators order limit s (drop (i + 1) generators)) added) ∙ h.rest;
      long = omega (arith, h.long, grown order limit state (monic_of order g) next added);
      vectors = λ k d below.
          ⊎_elim
          (λ (old : k < i). h.vectors k d old)
          (λ (last : i ≤ k).
          let same : k ≡ i = omega (arith, below) in
          subst (IsVector order variables) (is ∙ (get_or_default generators i g d within ∙ ap (λ n. get_or generators n d) (sym same))) vector)
          (cases_lt k i);
    }
