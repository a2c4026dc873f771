-- The degrees of an S-vector, the two elements of a pair, the list of a done run, and a pair that is taken.
use Rattle.std.proofs.Common.{◌≡◌, ◌≢◌, ℕ, ◌+◌, ◌-◌, ◌<◌, ◌⊎◌, inl, inr, Bool, true, false, ◌||◌, if◌then◌else◌, Option, Some, length, get_or, List, [], ◌∷◌, sym, refl, ap, ◌∙◌, arith}
use Rattle.std.specs.List.{All, Contains}
use Rattle.std.specs.declared.cmp.Ordering.{Ordering}
use Rattle.std.proofs.lemmas.List.Elements.{All-contains, All-weaker, All-contains_itself}
use Rattle.mono_order.specs.Term.{Term, lcm_term}
use Rattle.mono_order.specs.TermOrder.{IsTermOrder}
use Rattle.pair_queue.specs.declared.order.PairOrder.{PairOrder}
use Rattle.pair_queue.specs.declared.queue.Pair.{Pair}
use Rattle.module_vec.specs.ModuleVector.{ModuleVector, lead, IsVector, IsMonicVector, IsMember, multiple_value}
use Rattle.module_vec.specs.Division.{Remainder, OverDegree, divide, DividesTo, is_over_degree, is_s_vector_over, monic_of, multiple_with_lead, s_vector}
use Rattle.module_vec.proofs.Submodules.{IsMember-generator, IsMember-least, IsSubmodule-IsMember}
use Rattle.module_division.proofs.SVectors.{lcm_within}
use Rattle.module_basis.specs.PlainRun.{RunState, Step, Next, Over, step_to, with_element, with_remainder, element, without_pair, TakesPair, is_pair_over, pair_at, IsProper, RunsTo, Done}
use Rattle.module_basis.specs.GroebnerBasis.{IsGroebnerBasis}
use Rattle.module_basis.proofs.RunLaws.{run_groebner, run_monic}

-- ---- the degrees of an S-vector

last_false : (a b : Bool) → (a || b) ≡ false → b ≡ false
last_false true b e = absurd (let k : true ≡ false = e in cc)
last_false false b e = e

first_false : (a b : Bool) → (a || b) ≡ false → a ≡ false
first_false true b e = e
first_false false b e = refl

vector_of_monic : (order : Term → Term → Ordering) (variables : ℕ) (v : ModuleVector) → IsMonicVector order variables v → IsVector order variables v
vector_of_monic order variables v m = record { canonical = m.canonical; terms = m.terms }

pub pair_within : (limit : ℕ) (g h : ModuleVector) (lcm : Term) → lcm ≡ lcm_term (lead g) (lead h) → is_s_vector_over limit g h ≡ false → is_pair_over limit g h lcm ≡ false
pair_within limit g h lcm is e = ap (is_pair_over limit g h) is ∙ last_false _ (is_pair_over limit g h (lcm_term (lead g) (lead h))) e

pub pair_over : (order : Term → Term → Ordering) (variables limit : ℕ) (g h : ModuleVector) (lcm : Term) → IsMonicVector order variables g → IsMonicVector order variables h
    → lcm ≡ lcm_term (lead g) (lead h) → is_s_vector_over limit g h ≡ true → is_pair_over limit g h lcm ≡ true
pair_over order variables limit g h lcm first second is e =
    ap (is_pair_over limit g h) is
    ∙ (elim (is_pair_over limit g h (lcm_term (lead g) (lead h))) as (λ b. is_pair_over limit g h (lcm_term (lead g) (lead h)) ≡ b → b ≡ true) [
      | true ↦ λ k. refl
      | false ↦ λ k.
          let a = is_over_degree limit (multiple_value (multiple_with_lead (lcm_term (lead g) (lead h)) g)) in
          let b = is_over_degree limit (multiple_value (multiple_with_lead (lcm_term (lead g) (lead h)) h)) in
          let within = lcm_within order variables limit g h first.monic (vector_of_monic order variables g first) second.monic (vector_of_monic order variables h second) (first_false a b k) (last_false a b k) in
          let clash : false ≡ true = sym within ∙ e in
          clash
    ] refl)

-- ---- the two elements of a pair

pub record HasPlaces (elements : List ModuleVector) (q : Pair) : Type 0 where
  pub first : 0 < q.first
  pub first_within : q.first - 1 < length elements
  pub second : 0 < q.second
  pub second_within : q.second - 1 < length elements
  pub component : (lead (get_or elements (q.first - 1) [])).0 ≡ (lead (get_or elements (q.second - 1) [])).0
  pub lcm : q.lcm ≡ lcm_term (lead (get_or elements (q.first - 1) [])) (lead (get_or elements (q.second - 1) []))

pub places : (elements : List ModuleVector) (q : Pair) → IsProper elements q → HasPlaces elements q
unfolding pair_at
places elements q p =
    let first : q.first ≡ 1 + p.i = ap (λ (r : Pair). r.first) p.is in
    let second : q.second ≡ p.j + 1 = ap (λ (r : Pair). r.second) p.is in
    let i : p.i ≡ q.first - 1 = omega (arith, first) in
    let j : p.j ≡ q.second - 1 = omega (arith, second) in
    let g : get_or elements p.i [] ≡ get_or elements (q.first - 1) [] = ap (λ k. get_or elements k []) i in
    let h : get_or elements p.j [] ≡ get_or elements (q.second - 1) [] = ap (λ k. get_or elements k []) j in
    record {
      first = omega (arith, first);
      first_within = omega (arith, first, p.ordered, p.within);
      second = omega (arith, second);
      second_within = omega (arith, second, p.within);
      component = ap (λ (v : ModuleVector). (lead v).0) (sym g) ∙ (p.component ∙ ap (λ (v : ModuleVector). (lead v).0) h);
      lcm = ap (λ (r : Pair). r.lcm) p.is ∙ (λ k. lcm_term (lead (g k)) (lead (h k)));
    }

-- ---- the list of a done run

module _ {variables : ℕ} {order : Term → Term → Ordering} {high : ℕ → Bool} {height : Term → ℕ} {bound : ℕ}
    (laws : IsTermOrder variables order high height bound) where
  -- is a Groebner basis of the module that it generates itself
  pub run_own_basis : (generators : List ModuleVector) → All (IsVector order variables) generators → All (λ g. g ≢ []) generators
      → (by : PairOrder) (limit budget : ℕ) (list : List ModuleVector) (taken : ℕ) → RunsTo order by limit generators budget (Done list taken) → IsGroebnerBasis order (IsMember variables list) list
  run_own_basis generators vectors not_zero by limit budget list taken run =
      let basis = run_groebner laws generators vectors not_zero by limit budget list taken run in
      let monic = run_monic laws generators vectors not_zero by limit budget list taken run in
      record {
        members = All-weaker (Contains list) (IsMember variables list) (λ g c. IsMember-generator variables list g c (All-contains (IsMonicVector order variables) list g monic c).terms) list (All-contains_itself list);
        divisible = λ v canonical v_not_zero member.
            basis.divisible v canonical v_not_zero
            (IsMember-least variables list (IsMember variables generators) (IsSubmodule-IsMember variables generators)
            (λ g c. All-contains (IsMember variables generators) list g basis.members c) v member);
      }

-- ---- a pair is taken

pub TakesPair-over : (order : Term → Term → Ordering) (limit : ℕ) (pair : Pair) (state : RunState)
    → (is_pair_over limit (element state pair.first) (element state pair.second) pair.lcm ≡ true)
    ⊎ ((is_pair_over limit (element state pair.first) (element state pair.second) pair.lcm ≡ false)
    × DividesTo order limit state.elements (s_vector order (element state pair.first) (element state pair.second)) OverDegree)
    → TakesPair order limit pair state Over
TakesPair-over order limit pair state (inl over) =
    let rest = divide order limit state.elements 0 (s_vector order (element state pair.first) (element state pair.second)) in
    record { steps = 0; takes = ap (λ b. if b then Some Over else with_remainder order limit (without_pair state.pairs state) rest) over }
TakesPair-over order limit pair state (inr h) =
    let rest = divide order limit state.elements h.1.steps (s_vector order (element state pair.first) (element state pair.second)) in
    record {
      steps = h.1.steps;
      takes = ap (λ b. if b then Some Over else with_remainder order limit (without_pair state.pairs state) rest) h.0
          ∙ ap (with_remainder order limit (without_pair state.pairs state)) h.1.ends;
    }

pub TakesPair-remainder : (order : Term → Term → Ordering) (limit : ℕ) (pair : Pair) (state : RunState) (r : ModuleVector) (step : Step)
    → is_pair_over limit (element state pair.first) (element state pair.second) pair.lcm ≡ false
    → DividesTo order limit state.elements (s_vector order (element state pair.first) (element state pair.second)) (Remainder r)
    → with_remainder order limit (without_pair state.pairs state) (Some (Remainder r)) ≡ Some step → TakesPair order limit pair state step
TakesPair-remainder order limit pair state r step within d e =
    let rest = divide order limit state.elements d.steps (s_vector order (element state pair.first) (element state pair.second)) in
    record {
      steps = d.steps;
      takes = ap (λ b. if b then Some Over else with_remainder order limit (without_pair state.pairs state) rest) within
          ∙ (ap (with_remainder order limit (without_pair state.pairs state)) d.ends ∙ e);
    }

-- the remainder is zero, or it is added
pub zero_remainder : (order : Term → Term → Ordering) (limit : ℕ) (state : RunState) (r : ModuleVector) → r ≡ [] → with_remainder order limit state (Some (Remainder r)) ≡ Some (Next state)
zero_remainder order limit state r e = ap (λ (v : ModuleVector). with_remainder order limit state (Some (Remainder v))) e

pub added_remainder : (order : Term → Term → Ordering) (limit : ℕ) (state : RunState) (r : ModuleVector) (found : Option RunState) → r ≢ [] → with_element order limit state (monic_of order r) ≡ found
    → with_remainder order limit state (Some (Remainder r)) ≡ Some (step_to found)
added_remainder order limit state [] found not_zero e = absurd (not_zero refl)
added_remainder order limit state (t ∷ r) found not_zero e = ap (λ x. Some (step_to x)) e
