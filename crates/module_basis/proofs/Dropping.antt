-- The pairs that are left once the criterion has dropped those in front are among the pairs before.
use Rattle.std.proofs.Common.{◌≡◌, ℕ, suc, ◌+◌, ◌<◌, Bool, true, false, ◌||◌, if◌then◌else◌, Option, Some, None, IfSome, IfNone, length, drop, get_or, List, [], ◌∷◌, sym, refl, ap, subst, ◌∙◌, arith}
use Rattle.std.specs.List.{Contains}
use Rattle.std.specs.declared.cmp.Ordering.{Ordering}
use Rattle.std.proofs.lemmas.List.{drop_more}
use Rattle.ibp_base.proofs.Members.{in_head, in_tail, in_none}
use Rattle.mono_order.specs.Term.{Term}
use Rattle.pair_queue.specs.declared.order.PairOrder.{PairOrder}
use Rattle.pair_queue.specs.declared.queue.Pair.{Pair}
use Rattle.module_vec.specs.ModuleVector.{ModuleVector, lead}
use Rattle.module_basis.specs.PlainRun.{run_state, IsProper, IsSoundState, is_dropped, is_dropped_through, undropped}

within_if : (b : Bool) (pair : Pair) (others left : List Pair) (q : Pair) → (Contains left q → Contains others q)
    → Contains (if b then left else (pair ∷ others)) q → Contains (pair ∷ others) q
within_if true pair others left q later c = in_tail pair others q (later c)
within_if false pair others left q later c = c

undropped_within : (elements : List ModuleVector) (pairs : List Pair) (q : Pair) → Contains (undropped elements pairs) q → Contains pairs q
undropped_within elements [] q c = c
undropped_within elements (pair ∷ others) q c =
    within_if (is_dropped 1 elements others pair) pair others (undropped elements others) q (undropped_within elements others q) c

-- the first of them is taken off
pub IsSoundState-undropped : (order : Term → Term → Ordering) (variables : ℕ) (elements dereferenced : List ModuleVector) (before by : PairOrder) (pairs after : List Pair) (taken : ℕ) (found : Option Pair)
    → IsSoundState order variables (run_state before elements pairs taken) → IfSome found (λ pair. undropped dereferenced pairs ≡ pair ∷ after) → IfNone found (after ≡ [])
    → IsSoundState order variables (run_state by elements after taken)
IsSoundState-undropped order variables elements dereferenced before by pairs after taken None sound first empty =
    record { monic = sound.monic; proper = λ q c. absurd (in_none q (subst (λ (l : List Pair). Contains l q) empty c)) }
IsSoundState-undropped order variables elements dereferenced before by pairs after taken (Some pair) sound first empty =
    record {
      monic = sound.monic;
      proper = λ q c. sound.proper q (undropped_within dereferenced pairs q (subst (λ (l : List Pair). Contains l q) (sym first) (in_tail pair after q c)));
    }

pub first_proper : (order : Term → Term → Ordering) (variables : ℕ) (elements dereferenced : List ModuleVector) (by : PairOrder) (pairs after : List Pair) (taken : ℕ) (found : Option Pair)
    → IsSoundState order variables (run_state by elements pairs taken) → IfSome found (λ pair. undropped dereferenced pairs ≡ pair ∷ after)
    → IfSome found (λ pair. IsProper elements pair)
first_proper order variables elements dereferenced by pairs after taken None sound first = tt
first_proper order variables elements dereferenced by pairs after taken (Some pair) sound first =
    sound.proper pair (undropped_within dereferenced pairs pair (subst (λ (l : List Pair). Contains l pair) (sym first) (in_head pair after pair refl)))

-- an element that does not drop the pair is passed over
pub is_dropped-passed : (elements : List ModuleVector) (i : ℕ) (g : ModuleVector) (top : Term) (pairs : List Pair) (pair : Pair) → i < length elements → g ≡ get_or elements i g → top ≡ lead g
    → is_dropped_through pairs pair (i + 1) top ≡ false → is_dropped (1 + (i + 1)) (drop (i + 1) elements) pairs pair ≡ is_dropped (1 + i) (drop i elements) pairs pair
is_dropped-passed elements i g top pairs pair within at top_is passed =
    let split : drop i elements ≡ g ∷ drop (i + 1) elements = drop_more elements i g within ∙ (λ k. sym at k ∷ drop (i + 1) elements) in
    let number : 1 + i ≡ i + 1 = omega arith in
    let next : 1 + (i + 1) ≡ suc (1 + i) = omega arith in
    let not_through : is_dropped_through pairs pair (1 + i) (lead g) ≡ false = (λ k. is_dropped_through pairs pair (number k) (sym top_is k)) ∙ passed in
    (λ k. is_dropped (next k) (drop (i + 1) elements) pairs pair)
    ∙ sym (ap (λ b. b || is_dropped (suc (1 + i)) (drop (i + 1) elements) pairs pair) not_through)
    ∙ sym (ap (λ (l : List ModuleVector). is_dropped (1 + i) l pairs pair) split)
