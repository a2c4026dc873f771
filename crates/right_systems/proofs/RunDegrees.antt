-- The elements of a done run have no degree above its limit, where its generators have none.
use Rattle.std.proofs.Common.{◌≡◌, ℕ, zero, suc, ◌-◌, ◌≤◌, Bool, true, false, if◌then◌else◌, Option, Some, None, inl, inr, get_or, List, [], ◌∷◌, ◌++◌, sum, sym, refl, ap, subst, ◌∙◌}
use Rattle.std.specs.List.{All, AllByRecursion}
use Rattle.std.specs.declared.cmp.Ordering.{Ordering}
use Rattle.std.proofs.lemmas.Bool.{or_parts}
use Rattle.std.proofs.lemmas.List.Elements.{All-nil, All-push}
use Rattle.ibp_algebra.specs.FormalSum.{AllKeys, scale}
use Rattle.ibp_algebra.proofs.NormalForm.{AllKeys-normal_form}
use Rattle.ibp_algebra.proofs.ZeroDivisors.{AllKeys-scale}
use Rattle.ibp_field.specs.Arithmetic.{inverse_mod}
use Rattle.mono_order.specs.Term.{Term, lcm_term}
use Rattle.mono_order.specs.TermOrder.{IsTermOrder}
use Rattle.module_vec.specs.ModuleVector.{ModuleVector, lead, lead_coefficient, multiple_value}
use Rattle.module_vec.specs.Division.{Division, Remainder, OverDegree, first_divisor, is_over_degree, subtract_multiple, monic_of, multiple_with_lead, s_vector, in_front, division_step, divide}
use Rattle.module_vec.proofs.Degrees.{AllKeys-within}
use Rattle.module_vec.proofs.DivisionLaws.{AllKeys-subtract}
use Rattle.pair_queue.specs.declared.order.PairOrder.{PairOrder}
use Rattle.pair_queue.specs.declared.queue.Pair.{Pair}
use Rattle.pair_queue.specs.Pairs.{compare_pairs}
use Rattle.module_basis.specs.PlainRun.{RunState, Done, Step, Next, Over, IsProper, step_to, is_dropped, undropped, pairs_left, with_element, with_generators, opening, with_remainder, is_pair_over, take_pair, without_pair, after_step, run_pairs, run_from, RunsTo}
use Rattle.module_basis.proofs.RunLaws.{Listed, from_insert_pairs, formed_pairs, proper_more, proper_new, with_element_some}
use Rattle.module_basis.proofs.Stepping.{places}

-- no term of the vector has a degree above the limit
abbrev pub IsShort : ℕ → ModuleVector → Type 0
IsShort limit v = AllKeys (λ t. sum t.1 ≤ limit) v

-- the elements are short, and the pairs are pairs of them
record HasShort (limit : ℕ) (elements : List ModuleVector) (pairs : List Pair) : Type 0 where
  short : All (IsShort limit) elements
  proper : (q : Pair) → Listed pairs q → IsProper elements q

from_undropped_if : (b : Bool) (elements : List ModuleVector) (pair : Pair) (others : List Pair) (q : Pair) → (Listed (undropped elements others) q → Listed others q)
    → Listed (if b then undropped elements others else (pair ∷ others)) q → Listed (pair ∷ others) q
from_undropped_if true elements pair others q later h = inr (later h)
from_undropped_if false elements pair others q later h = h

from_undropped : (elements : List ModuleVector) (pairs : List Pair) (q : Pair) → Listed (undropped elements pairs) q → Listed pairs q
from_undropped elements [] q h = h
from_undropped elements (pair ∷ others) q h = from_undropped_if (is_dropped 1 elements others pair) elements pair others q (from_undropped elements others q) h

short_undropped : (limit : ℕ) (elements : List ModuleVector) (pairs : List Pair) → HasShort limit elements pairs → HasShort limit elements (undropped elements pairs)
short_undropped limit elements pairs h = record { short = h.short; proper = λ q inside. h.proper q (from_undropped elements pairs q inside) }

step_next : (x : Option RunState) (next : RunState) → ◌≡◌ {A = Option Step} (Some (step_to x)) (Some (Next next)) → x ≡ Some next
step_next None next e = cc
step_next (Some state) next e = cc

-- a pair that is taken is not over
taken_within : (b : Bool) (x : Option Step) (next : RunState) → (if b then Some Over else x) ≡ Some (Next next) → (b ≡ false) × (x ≡ Some (Next next))
taken_within true x next e = cc
taken_within false x next e = (refl, e)

module _ {variables : ℕ} {order : Term → Term → Ordering} {high : ℕ → Bool} {height : Term → ℕ} {bound : ℕ}
    (laws : IsTermOrder variables order high height bound) (limit : ℕ) where
  short_monic : (v : ModuleVector) → IsShort limit v → IsShort limit (monic_of order v)
  short_monic v h =
      let factor = inverse_mod (lead_coefficient v) in
      AllKeys-normal_form order laws.total laws.unique (λ t. sum t.1 ≤ limit) (scale factor v) (AllKeys-scale (λ t. sum t.1 ≤ limit) factor v h)

  -- ---- a division

  short_front : (term : Term × ℕ) (x : Option Division) → sum term.0.1 ≤ limit → ((r : ModuleVector) → x ≡ Some (Remainder r) → IsShort limit r) → (r : ModuleVector) → in_front term x ≡ Some (Remainder r) → IsShort limit r
  short_front term None first rest r e = cc
  short_front term (Some OverDegree) first rest r e = cc
  short_front term (Some (Remainder tail)) first rest r e =
      let is : term ∷ tail ≡ r = cc in
      subst (IsShort limit) is (first, rest tail refl)

  short_step : (continue : ModuleVector → Option Division) → ((v r : ModuleVector) → IsShort limit v → continue v ≡ Some (Remainder r) → IsShort limit r)
      → (divisor : Option ModuleVector) (term : Term × ℕ) (rest : ModuleVector) → IsShort limit (term ∷ rest) → (r : ModuleVector) → division_step order limit continue divisor term rest ≡ Some (Remainder r) → IsShort limit r
  short_step continue later None term rest h r e = short_front term (continue rest) h.0 (λ tail is. later rest tail h.1 is) r e
  short_step continue later (Some g) term rest h r e =
      let multiple = multiple_with_lead term.0 g in
      let left = subtract_multiple order (term ∷ rest) term.1 multiple.0 g in
      elim (is_over_degree limit (multiple_value multiple)) as (λ b. is_over_degree limit (multiple_value multiple) ≡ b → (if b then Some OverDegree else continue left) ≡ Some (Remainder r) → IsShort limit r) [
        | true ↦ λ over k. cc
        | false ↦ λ within k. later left r (AllKeys-subtract laws (λ t. sum t.1 ≤ limit) (term ∷ rest) term.1 multiple.0 g h (AllKeys-within limit (multiple_value multiple) within)) k
      ] refl e

  short_remainder : (list : List ModuleVector) (steps : ℕ) (v r : ModuleVector) → IsShort limit v → divide order limit list steps v ≡ Some (Remainder r) → IsShort limit r
  short_remainder list zero v r h e = cc
  short_remainder list (suc steps) [] r h e =
      let is : [] ≡ r = cc in
      subst (IsShort limit) is tt
  short_remainder list (suc steps) (term ∷ rest) r h e = short_step (divide order limit list steps) (short_remainder list steps) (first_divisor list term.0) term rest h r e

  -- ---- a pair is taken

  short_added : (state next : RunState) (v : ModuleVector) → HasShort limit state.elements state.pairs → IsShort limit v → with_element order limit state v ≡ Some next → HasShort limit next.elements next.pairs
  short_added state next v h short e =
      let grown = with_element_some order limit state v next e in
      rw (grown.0, grown.1)
      (record {
        short = All-push (IsShort limit) state.elements v h.short short;
        proper = λ q inside.
            elim (from_insert_pairs (compare_pairs order state.by) (formed_pairs state.elements v) state.pairs q inside) as (λ x. IsProper (state.elements ++ v ∷ []) q) [
              | inl formed ↦ proper_new state.elements v q formed
              | inr old ↦ proper_more state.elements v q (h.proper q old)
            ];
      })

  -- the S-vector of a pair that is not over
  short_s_vector : (elements : List ModuleVector) (pair : Pair) → IsProper elements pair
      → is_pair_over limit (get_or elements (pair.first - 1) []) (get_or elements (pair.second - 1) []) pair.lcm ≡ false
      → IsShort limit (s_vector order (get_or elements (pair.first - 1) []) (get_or elements (pair.second - 1) []))
  short_s_vector elements pair proper within =
      let g = get_or elements (pair.first - 1) [] in
      let h = get_or elements (pair.second - 1) [] in
      let lcm = lcm_term (lead g) (lead h) in
      let at : is_pair_over limit g h lcm ≡ false = ap (is_pair_over limit g h) (sym (places elements pair proper).lcm) ∙ within in
      let parts = or_parts (is_over_degree limit (multiple_value (multiple_with_lead lcm g))) (is_over_degree limit (multiple_value (multiple_with_lead lcm h))) at in
      AllKeys-subtract laws (λ t. sum t.1 ≤ limit) (multiple_value (multiple_with_lead lcm g)) 1 (multiple_with_lead lcm h).0 h
      (AllKeys-within limit (multiple_value (multiple_with_lead lcm g)) parts.0)
      (AllKeys-within limit (multiple_value (multiple_with_lead lcm h)) parts.1)

  short_with_remainder : (state next : RunState) (x : Option Division) → HasShort limit state.elements state.pairs → ((r : ModuleVector) → x ≡ Some (Remainder r) → IsShort limit r)
      → with_remainder order limit state x ≡ Some (Next next) → HasShort limit next.elements next.pairs
  short_with_remainder state next None h short e = cc
  short_with_remainder state next (Some OverDegree) h short e = cc
  short_with_remainder state next (Some (Remainder [])) h short e =
      let is : state ≡ next = cc in
      subst (λ (s : RunState). HasShort limit s.elements s.pairs) is h
  short_with_remainder state next (Some (Remainder (t ∷ rest))) h short e =
      short_added state next (monic_of order (t ∷ rest)) h (short_monic (t ∷ rest) (short (t ∷ rest) refl)) (step_next (with_element order limit state (monic_of order (t ∷ rest))) next e)

  short_taken : (steps : ℕ) (state : RunState) (pair : Pair) (others : List Pair) → HasShort limit state.elements (pair ∷ others) → (next : RunState)
      → take_pair order limit steps pair (without_pair others state) ≡ Some (Next next) → HasShort limit next.elements next.pairs
  short_taken steps state pair others h next e =
      let g = get_or state.elements (pair.first - 1) [] in
      let k = get_or state.elements (pair.second - 1) [] in
      let division = divide order limit state.elements steps (s_vector order g k) in
      let parts = taken_within (is_pair_over limit g k pair.lcm) (with_remainder order limit (without_pair others state) division) next e in
      let vector = short_s_vector state.elements pair (h.proper pair (inl refl)) parts.0 in
      short_with_remainder (without_pair others state) next division (record { short = h.short; proper = λ q inside. h.proper q (inr inside) })
      (λ r is. short_remainder state.elements steps (s_vector order g k) r vector is) parts.1

  -- ---- the run

  short_run : (steps budget : ℕ) (pairs : List Pair) (state : RunState) (list : List ModuleVector) (taken : ℕ) → HasShort limit state.elements pairs
      → run_pairs order limit steps budget pairs state ≡ Some (Done list taken) → All (IsShort limit) list
  short_run steps budget [] state list taken h e =
      let is : state.elements ≡ list = cc in
      subst (λ (l : List ModuleVector). All (IsShort limit) l) is h.short
  short_run steps zero (pair ∷ others) state list taken h e = cc
  short_run steps (suc budget) (pair ∷ others) state list taken h e =
      elim (take_pair order limit steps pair (without_pair others state)) as (λ x. take_pair order limit steps pair (without_pair others state) ≡ x
      → after_step (λ next. run_pairs order limit steps budget (pairs_left next) next) x ≡ Some (Done list taken) → All (IsShort limit) list) [
        | None ↦ λ d k. cc
        | Some Over ↦ λ d k. cc
        | Some (Next next) ↦ λ d k.
            short_run steps budget (pairs_left next) next list taken (short_undropped limit next.elements next.pairs (short_taken steps state pair others h next d)) k
      ] refl e

  short_opening : (rest : List ModuleVector) → AllByRecursion (IsShort limit) rest → (state next : RunState) → HasShort limit state.elements state.pairs
      → with_generators order limit (Some state) rest ≡ Some next → HasShort limit next.elements next.pairs
  short_opening [] generators state next h e =
      let is : state ≡ next = cc in
      subst (λ (s : RunState). HasShort limit s.elements s.pairs) is h
  short_opening (g ∷ rest) generators state next h e =
      elim (with_element order limit state (monic_of order g)) as (λ x. with_element order limit state (monic_of order g) ≡ x → with_generators order limit x rest ≡ Some next → HasShort limit next.elements next.pairs) [
        | None ↦ λ d k. cc
        | Some after ↦ λ d k. short_opening rest generators.1 after next (short_added state after (monic_of order g) h (short_monic g generators.0) d) k
      ] refl e

  short_from : (by : PairOrder) (steps budget : ℕ) (generators : List ModuleVector) → AllByRecursion (IsShort limit) generators → (start : Option RunState) → opening order by limit generators ≡ start
      → (list : List ModuleVector) (taken : ℕ) → run_from order limit steps budget start ≡ Some (Done list taken) → All (IsShort limit) list
  short_from by steps budget generators h None opens list taken e = cc
  short_from by steps budget generators h (Some state) opens list taken e =
      let none : HasShort limit [] [] = record { short = All-nil (IsShort limit); proper = λ q inside. absurd inside } in
      let opened = short_opening generators h (record { by = by; elements = []; pairs = []; taken = 0 }) state none opens in
      short_run steps budget (pairs_left state) state list taken (short_undropped limit state.elements state.pairs opened) e

  pub run_within : (by : PairOrder) (budget : ℕ) (generators list : List ModuleVector) (taken : ℕ) → AllByRecursion (IsShort limit) generators
      → RunsTo order by limit generators budget (Done list taken) → All (IsShort limit) list
  run_within by budget generators list taken h run = short_from by run.steps budget generators h (opening order by limit generators) refl list taken run.ends
