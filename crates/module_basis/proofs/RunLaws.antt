-- The plain run keeps this: its elements are monic and lie in the module of the generators, which lie in the
-- module of the elements, and each pair of elements is still to be taken or has a standard representation. A pair that
-- was taken has it by the remainder, and one that was dropped by two pairs that went earlier.
-- So the list of a done run is a Groebner basis.
use Rattle.std.proofs.Common.{◌≡◌, ◌≢◌, ℕ, zero, suc, ◌+◌, ◌-◌, ◌<◌, ◌≤◌, Bool, true, false, ◌||◌, if◌then◌else◌, Option, Some, None, ◌⊎◌, inl, inr, ⊎_elim, length, get_or, List, [], ◌∷◌, ◌++◌, sym, refl, ap, subst, ◌∙◌, arith, length-append, append-nil, append_assoc}
use Rattle.std.specs.Prelude.{nat_eq}
use Rattle.std.specs.List.{All, AllByRecursion, Contains}
use Rattle.std.specs.Cmp.{unsigned_Decides}
use Rattle.std.proofs.Math.Seq.{get_or-append_seam}
use Rattle.std.proofs.lemmas.Bool.{cases_lt}
use Rattle.std.proofs.lemmas.List.{get_or_append_left, get_or_default}
use Rattle.std.proofs.lemmas.List.Elements.{All-contains, All-weaker, All-push, All-nil, All-contains_itself, recursion_from_All, Contains-get_or, Contains-append_left, Contains-push}
use Rattle.std.specs.declared.cmp.Ordering.{Ordering}
use Rattle.std.specs.declared.cmp.Ordering.TheVariants.{Greater}
use Rattle.ibp_base.proofs.Members.{in_cases, in_head, in_tail, in_none}
use Rattle.ibp_base.proofs.Tests.{both_true}
use Rattle.ibp_algebra.proofs.Canonical.{Greater-trans}
use Rattle.ibp_algebra.proofs.Combinations.{AllKeys-weaker, IsEqualBelow-refl}
use Rattle.mono_order.specs.Term.{Term, same_term, lcm_term, divides}
use Rattle.mono_order.specs.TermOrder.{IsTermOrder}
use Rattle.mono_order.proofs.Terms.{terms_decide, IsTerm-lcm, length-quotient}
use Rattle.module_vec.specs.ModuleVector.{ModuleVector, lead, IsVector, IsMonicVector, multiple_value, multiple_lead, IsMultipleOf, IsMember}
use Rattle.module_vec.proofs.Submodules.{IsMultipleOf-more, IsMember-more, IsMember-generator, IsMember-least, IsSubmodule-IsMember}
use Rattle.module_vec.proofs.Monic.{IsMonicVector-monic_of}
use Rattle.module_vec.proofs.Multiples.{IsTerm-lead}
use Rattle.module_vec.proofs.Members.{Member-subtract, Member-monic_of, Member-from_monic_of, Member-remainder}
use Rattle.module_vec.proofs.DivisionLaws.{divide_reduces, divide_ends}
use Rattle.module_basis.proofs.SVectors.{meets, AllBelow-s_vector, IsCanonical-s_vector, AllKeys-s_vector, standard_from_zero, standard_from_new}
use Rattle.module_basis.proofs.RunEnds.{take_pair-more, run_pairs-more}
use Rattle.module_basis.proofs.Buchberger.{buchberger}
use Rattle.module_basis.proofs.ChainCriterion.{HasStandardRepresentation-sym, chain_criterion, has_pair-Contains, gone_up, gone_down, dropped_through}
use Rattle.module_vec.specs.Division.{Division, Remainder, OverDegree, divide, monic_of, multiple_with_lead, s_vector, ReducesTo, is_over_degree}
use Rattle.module_basis.specs.GroebnerBasis.{HasStandardRepresentation, AllPairsReduce, IsGroebnerBasis}
use Rattle.pair_queue.specs.declared.order.PairOrder.{PairOrder}
use Rattle.pair_queue.specs.declared.queue.Pair.{Pair}
use Rattle.pair_queue.specs.Pairs.{compare_pairs, insert_pair, insert_pairs, has_pair}
use Rattle.module_basis.specs.PlainRun.{pair_at, IsProper, pairs_with, is_left, is_dropped, undropped, pairs_left, RunState, with_element, has_pair_over, with_generators, opening, RunEnd, Done, PairsSpent, DegreeOver, Step, Next, Over, step_to, with_remainder, take_pair, without_pair, after_step, run_pairs, run_from, RunsTo}

-- ---- pairs in a list

-- membership by recursion
abbrev pub Listed : List Pair → Pair → Type 0
Listed [] q = ⊥
Listed (p ∷ pairs) q = (p ≡ q) ⊎ Listed pairs q

pub listed : (pairs : List Pair) (q : Pair) → Contains pairs q → Listed pairs q
listed [] q h = absurd (in_none q h)
listed (p ∷ pairs) q h = elim (in_cases p pairs q h) as (λ c. (p ≡ q) ⊎ Listed pairs q) [ inl e ↦ inl e | inr k ↦ inr (listed pairs q k) ]

pub contained : (pairs : List Pair) (q : Pair) → Listed pairs q → Contains pairs q
contained [] q h = absurd h
contained (p ∷ pairs) q (inl e) = in_head p pairs q e
contained (p ∷ pairs) q (inr h) = in_tail p pairs q (contained pairs q h)

Listed-insert_if : (b : Bool) (p r : Pair) (others after : List Pair) (q : Pair) → ((p ≡ q) ⊎ Listed others q → Listed after q)
    → (p ≡ q) ⊎ Listed (r ∷ others) q → Listed (if b then (p ∷ r ∷ others) else (r ∷ after)) q
Listed-insert_if true p r others after q later h = h
Listed-insert_if false p r others after q later (inl e) = inr (later (inl e))
Listed-insert_if false p r others after q later (inr (inl e)) = inl e
Listed-insert_if false p r others after q later (inr (inr k)) = inr (later (inr k))

Listed-insert : (compare : Pair → Pair → Ordering) (p : Pair) (pairs : List Pair) (q : Pair) → (p ≡ q) ⊎ Listed pairs q → Listed (insert_pair compare p pairs) q
Listed-insert compare p [] q h = h
Listed-insert compare p (r ∷ others) q h = Listed-insert_if _ p r others (insert_pair compare p others) q (Listed-insert compare p others q) h

from_insert_if : (b : Bool) (p r : Pair) (others after : List Pair) (q : Pair) → (Listed after q → (p ≡ q) ⊎ Listed others q)
    → Listed (if b then (p ∷ r ∷ others) else (r ∷ after)) q → (p ≡ q) ⊎ Listed (r ∷ others) q
from_insert_if true p r others after q later h = h
from_insert_if false p r others after q later (inl e) = inr (inl e)
from_insert_if false p r others after q later (inr k) =
    elim (later k) as (λ x. (p ≡ q) ⊎ Listed (r ∷ others) q) [ inl e ↦ inl e | inr l ↦ inr (inr l) ]

pub from_insert : (compare : Pair → Pair → Ordering) (p : Pair) (pairs : List Pair) (q : Pair) → Listed (insert_pair compare p pairs) q → (p ≡ q) ⊎ Listed pairs q
from_insert compare p [] q h = h
from_insert compare p (r ∷ others) q h = from_insert_if _ p r others (insert_pair compare p others) q (from_insert compare p others q) h

Listed-insert_pairs : (compare : Pair → Pair → Ordering) (more pairs : List Pair) (q : Pair) → Listed more q ⊎ Listed pairs q → Listed (insert_pairs compare more pairs) q
Listed-insert_pairs compare [] pairs q (inl h) = absurd h
Listed-insert_pairs compare [] pairs q (inr h) = h
Listed-insert_pairs compare (p ∷ more) pairs q (inl (inl e)) = Listed-insert_pairs compare more (insert_pair compare p pairs) q (inr (Listed-insert compare p pairs q (inl e)))
Listed-insert_pairs compare (p ∷ more) pairs q (inl (inr k)) = Listed-insert_pairs compare more (insert_pair compare p pairs) q (inl k)
Listed-insert_pairs compare (p ∷ more) pairs q (inr h) = Listed-insert_pairs compare more (insert_pair compare p pairs) q (inr (Listed-insert compare p pairs q (inr h)))

pub from_insert_pairs : (compare : Pair → Pair → Ordering) (more pairs : List Pair) (q : Pair) → Listed (insert_pairs compare more pairs) q → Listed more q ⊎ Listed pairs q
from_insert_pairs compare [] pairs q h = inr h
from_insert_pairs compare (p ∷ more) pairs q h =
    elim (from_insert_pairs compare more (insert_pair compare p pairs) q h) as (λ x. Listed (p ∷ more) q ⊎ Listed pairs q) [
      | inl k ↦ inl (inr k)
      | inr k ↦ elim (from_insert compare p pairs q k) as (λ x. Listed (p ∷ more) q ⊎ Listed pairs q) [ inl e ↦ inl (inl e) | inr l ↦ inr l ]
    ]

-- ---- the pairs of a new element

at : List ModuleVector → ℕ → ModuleVector
at list i = get_or list i []

Listed-with_if : (b : Bool) (p : Pair) (others : List Pair) (q : Pair) → b ≡ true → p ≡ q → Listed (if b then (p ∷ others) else others) q
Listed-with_if true p others q e is = inl is
Listed-with_if false p others q e is = cc

Listed-with_rest : (b : Bool) (p : Pair) (others : List Pair) (q : Pair) → Listed others q → Listed (if b then (p ∷ others) else others) q
Listed-with_rest true p others q h = inr h
Listed-with_rest false p others q h = h

Listed-pairs_with : (second : ℕ) (new : Term) (first : ℕ) (list : List ModuleVector) (k : ℕ) → k < length list → (lead (get_or list k [])).0 ≡ new.0
    → Listed (pairs_with second new first list) (record { first = first + k; second = second; lcm = lcm_term (lead (get_or list k [])) new })
Listed-pairs_with second new first [] k below e = absurd (omega arith)
Listed-pairs_with second new first (g ∷ list) zero below e =
    let number : first ≡ first + 0 = omega arith in
    Listed-with_if (nat_eq (lead g).0 new.0) _ (pairs_with second new (suc first) list) _ ((unsigned_Decides (lead g).0 new.0).1 e)
    (λ i. record { first = number i; second = second; lcm = lcm_term (lead g) new })
Listed-pairs_with second new first (g ∷ list) (suc k) below e =
    let number : suc first + k ≡ first + suc k = omega arith in
    Listed-with_rest (nat_eq (lead g).0 new.0) _ (pairs_with second new (suc first) list) _
    (subst (λ n. Listed (pairs_with second new (suc first) list) (record { first = n; second = second; lcm = lcm_term (lead (get_or list k [])) new })) number
    (Listed-pairs_with second new (suc first) list k (omega arith) e))

-- a pair of the new element with an earlier one
pub record IsPairWith (second : ℕ) (new : Term) (first : ℕ) (list : List ModuleVector) (q : Pair) : Type 0 where
  pub place : ℕ
  pub below : place < length list
  pub component : (lead (get_or list place [])).0 ≡ new.0
  pub first_is : q.first ≡ first + place
  pub second_is : q.second ≡ second
  pub lcm_is : q.lcm ≡ lcm_term (lead (get_or list place [])) new

later_pair : (second : ℕ) (new : Term) (first : ℕ) (g : ModuleVector) (list : List ModuleVector) (q : Pair) → IsPairWith second new (suc first) list q → IsPairWith second new first (g ∷ list) q
later_pair second new first g list q h =
    record { place = suc h.place; below = omega (arith, h.below); component = h.component; first_is = omega (arith, h.first_is); second_is = h.second_is; lcm_is = h.lcm_is }

from_pairs_with_if : (b : Bool) (second : ℕ) (new : Term) (first : ℕ) (g : ModuleVector) (list : List ModuleVector) (q : Pair) → nat_eq (lead g).0 new.0 ≡ b
    → (Listed (pairs_with second new (suc first) list) q → IsPairWith second new (suc first) list q)
    → Listed (if b then (record { first = first; second = second; lcm = lcm_term (lead g) new } ∷ pairs_with second new (suc first) list) else pairs_with second new (suc first) list) q
    → IsPairWith second new first (g ∷ list) q
from_pairs_with_if true second new first g list q e later (inl is) =
    record {
      place = 0;
      below = omega arith;
      component = (unsigned_Decides (lead g).0 new.0).0 e;
      first_is = omega (arith, ap (λ (p : Pair). p.first) is);
      second_is = sym (ap (λ (p : Pair). p.second) is);
      lcm_is = sym (ap (λ (p : Pair). p.lcm) is);
    }
from_pairs_with_if true second new first g list q e later (inr h) = later_pair second new first g list q (later h)
from_pairs_with_if false second new first g list q e later h = later_pair second new first g list q (later h)

pub from_pairs_with : (second : ℕ) (new : Term) (first : ℕ) (list : List ModuleVector) (q : Pair) → Listed (pairs_with second new first list) q → IsPairWith second new first list q
from_pairs_with second new first [] q h = absurd h
from_pairs_with second new first (g ∷ list) q h =
    from_pairs_with_if (nat_eq (lead g).0 new.0) second new first g list q refl (from_pairs_with second new (suc first) list q) h

-- ---- what the run keeps

record IsRunState (order : Term → Term → Ordering) (variables : ℕ) (Pending : Pair → Type 0) (generators added elements : List ModuleVector) : Type 0 where
  monic : All (IsMonicVector order variables) elements
  members : All (IsMember variables generators) elements
  generated : All (IsMember variables elements) added
  settled : (i j : ℕ) → i < j → j < length elements → (lead (get_or elements i [])).0 ≡ (lead (get_or elements j [])).0
      → Pending (pair_at elements i j) ⊎ HasStandardRepresentation order variables elements (get_or elements i []) (get_or elements j [])
  proper : (q : Pair) → Pending q → IsProper elements q

HasStandardRepresentation-more : (order : Term → Term → Ordering) (variables : ℕ) (list more : List ModuleVector) → ((g : ModuleVector) → Contains list g → Contains more g)
    → (g h : ModuleVector) → HasStandardRepresentation order variables list g h → HasStandardRepresentation order variables more g h
HasStandardRepresentation-more order variables list more within g h r =
    record { summands = r.summands; allowed = AllKeys-weaker _ _ (IsMultipleOf-more variables list more within) r.summands r.allowed; below = r.below; difference = r.difference }

-- fewer pairs are pending, where the others have representations
with_pending : (order : Term → Term → Ordering) (variables : ℕ) (P Q : Pair → Type 0) (generators added elements : List ModuleVector)
    → IsRunState order variables P generators added elements → ((q : Pair) → Q q → P q)
    → ((i j : ℕ) → j < length elements → P (pair_at elements i j) → Q (pair_at elements i j) ⊎ HasStandardRepresentation order variables elements (get_or elements i []) (get_or elements j []))
    → IsRunState order variables Q generators added elements
with_pending order variables P Q generators added elements s fewer replaced =
    record {
      monic = s.monic;
      members = s.members;
      generated = s.generated;
      settled = λ i j below within component.
          elim (s.settled i j below within component) as (λ x. Q (pair_at elements i j) ⊎ HasStandardRepresentation order variables elements (get_or elements i []) (get_or elements j [])) [
            | inl p ↦ replaced i j within p
            | inr r ↦ inr r
          ];
      proper = λ q h. s.proper q (fewer q h);
    }

-- ---- an element is added

pub at_old : (elements : List ModuleVector) (v : ModuleVector) (i : ℕ) → i < length elements → get_or (elements ++ v ∷ []) i [] ≡ get_or elements i []
at_old elements v i below = get_or_append_left elements (v ∷ []) [] i below

at_new : (elements : List ModuleVector) (v : ModuleVector) (j : ℕ) → j ≡ length elements → get_or (elements ++ v ∷ []) j [] ≡ v
at_new elements v j e = ap (λ k. get_or (elements ++ v ∷ []) k []) e ∙ get_or-append_seam elements v [] []

abbrev pub formed_pairs : List ModuleVector → ModuleVector → List Pair
formed_pairs elements v = pairs_with (length elements + 1) (lead v) 1 elements

-- the pairs of the new element, and those that were pending
PendingWith : List Pair → (Pair → Type 0) → Pair → Type 0
PendingWith formed Pending q = Listed formed q ⊎ Pending q

added_settled : (order : Term → Term → Ordering) (variables : ℕ) (Pending : Pair → Type 0) (generators added elements : List ModuleVector) (v : ModuleVector)
    → IsRunState order variables Pending generators added elements → (i j : ℕ) → i < j → j < length (elements ++ v ∷ [])
    → (lead (get_or (elements ++ v ∷ []) i [])).0 ≡ (lead (get_or (elements ++ v ∷ []) j [])).0
    → PendingWith (formed_pairs elements v) Pending (pair_at (elements ++ v ∷ []) i j)
    ⊎ HasStandardRepresentation order variables (elements ++ v ∷ []) (get_or (elements ++ v ∷ []) i []) (get_or (elements ++ v ∷ []) j [])
unfolding PendingWith pair_at
added_settled order variables Pending generators added elements v s i j below within component =
    let long : length (elements ++ v ∷ []) ≡ length elements + 1 = length-append elements (v ∷ []) in
    let first = at_old elements v i (omega (arith, long)) in
    let more = elements ++ v ∷ [] in
    ⊎_elim
    (λ (old : j < length elements).
    let second = at_old elements v j old in
    elim (s.settled i j below old (ap (λ (x : ModuleVector). (lead x).0) (sym first) ∙ component ∙ ap (λ (x : ModuleVector). (lead x).0) second)) as (λ x.
    (Listed (pairs_with (length elements + 1) (lead v) 1 elements) (pair_at more i j) ⊎ Pending (pair_at more i j))
    ⊎ HasStandardRepresentation order variables more (get_or more i []) (get_or more j [])) [
      | inl p ↦ inl (inr (rw (first, second) p))
      | inr r ↦ inr (rw (first, second) (HasStandardRepresentation-more order variables elements more (λ g h. Contains-append_left elements (v ∷ []) g h) _ _ r))
    ])
    (λ (last : length elements ≤ j).
    let is : j ≡ length elements = omega (arith, long) in
    let second = at_new elements v j is in
    let listed = Listed-pairs_with (length elements + 1) (lead v) 1 elements i (omega arith)
    (ap (λ (x : ModuleVector). (lead x).0) (sym first) ∙ component ∙ ap (λ (x : ModuleVector). (lead x).0) second)
    in
    inl (inl (rw (first, second, is) listed)))
    (cases_lt j (length elements))

pub proper_more : (elements : List ModuleVector) (v : ModuleVector) (q : Pair) → IsProper elements q → IsProper (elements ++ v ∷ []) q
unfolding pair_at
proper_more elements v q h =
    let first = at_old elements v h.i (omega (arith, h.ordered, h.within)) in
    let second = at_old elements v h.j h.within in
    record {
      i = h.i;
      j = h.j;
      ordered = h.ordered;
      within = omega (arith, h.within, length-append elements (v ∷ []));
      component = rw (first, second) h.component;
      is = rw (first, second) h.is;
    }

pub proper_new : (elements : List ModuleVector) (v : ModuleVector) (q : Pair) → Listed (formed_pairs elements v) q → IsProper (elements ++ v ∷ []) q
unfolding pair_at
proper_new elements v q h =
    let p = from_pairs_with (length elements + 1) (lead v) 1 elements q h in
    let first = at_old elements v p.place p.below in
    let second = at_new elements v (length elements) refl in
    record {
      i = p.place;
      j = length elements;
      ordered = p.below;
      within = omega (arith, length-append elements (v ∷ []));
      component = rw (first, second) p.component;
      is = rw (first, second) (λ k. record { first = p.first_is k; second = p.second_is k; lcm = p.lcm_is k });
    }

added_state : (order : Term → Term → Ordering) (variables : ℕ) (Pending : Pair → Type 0) (generators added elements : List ModuleVector) (v : ModuleVector)
    → IsRunState order variables Pending generators added elements → IsMonicVector order variables v → IsMember variables generators v
    → IsRunState order variables (PendingWith (formed_pairs elements v) Pending) generators added (elements ++ v ∷ [])
unfolding PendingWith
added_state order variables Pending generators added elements v s is_monic member =
    record {
      monic = All-push (IsMonicVector order variables) elements v s.monic is_monic;
      members = All-push (IsMember variables generators) elements v s.members member;
      generated = All-weaker (IsMember variables elements) (IsMember variables (elements ++ v ∷ [])) (λ g h. IsMember-more variables elements (elements ++ v ∷ []) (λ x k. Contains-append_left elements (v ∷ []) x k) g h) added s.generated;
      settled = added_settled order variables Pending generators added elements v s;
      proper = λ q h.
          elim h as (λ x. IsProper (elements ++ v ∷ []) q) [
            | inl listed ↦ proper_new elements v q listed
            | inr pending ↦ proper_more elements v q (s.proper q pending)
          ];
    }

-- an element is added, and a pair that it settles is no longer pending
added_settling : (order : Term → Term → Ordering) (compare : Pair → Pair → Ordering) (variables : ℕ) (pair : Pair) (others : List Pair) (generators added elements : List ModuleVector) (v : ModuleVector)
    → IsRunState order variables (Listed (pair ∷ others)) generators added elements → IsMonicVector order variables v → IsMember variables generators v
    → ((i j : ℕ) → j < length (elements ++ v ∷ []) → pair ≡ pair_at (elements ++ v ∷ []) i j
    → HasStandardRepresentation order variables (elements ++ v ∷ []) (get_or (elements ++ v ∷ []) i []) (get_or (elements ++ v ∷ []) j []))
    → IsRunState order variables (Listed (insert_pairs compare (formed_pairs elements v) others)) generators added (elements ++ v ∷ [])
unfolding PendingWith
added_settling order compare variables pair others generators added elements v s is_monic member settles =
    with_pending order variables (PendingWith (formed_pairs elements v) (Listed (pair ∷ others))) (Listed (insert_pairs compare (formed_pairs elements v) others)) generators added (elements ++ v ∷ [])
    (added_state order variables (Listed (pair ∷ others)) generators added elements v s is_monic member)
    (λ q h. elim (from_insert_pairs compare (formed_pairs elements v) others q h) as (λ x. Listed (formed_pairs elements v) q ⊎ Listed (pair ∷ others) q) [ inl k ↦ inl k | inr k ↦ inr (inr k) ])
    (λ i j within h.
    let more = elements ++ v ∷ [] in
    let settled = settles i j within in
    elim h as (λ x. Listed (insert_pairs compare (formed_pairs elements v) others) (pair_at more i j) ⊎ HasStandardRepresentation order variables more (get_or more i []) (get_or more j [])) [
      | inl k ↦ inl (Listed-insert_pairs compare (formed_pairs elements v) others (pair_at more i j) (inl k))
      | inr (inl is) ↦ inr (settled is)
      | inr (inr k) ↦ inl (Listed-insert_pairs compare (formed_pairs elements v) others (pair_at more i j) (inr k))
    ])

-- ---- a pair is taken

-- what `with_element` gives, where it gives a state
pub with_element_some : (order : Term → Term → Ordering) (limit : ℕ) (state : RunState) (v : ModuleVector) (next : RunState) → with_element order limit state v ≡ Some next
    → (next.elements ≡ state.elements ++ v ∷ []) × (next.pairs ≡ insert_pairs (compare_pairs order state.by) (formed_pairs state.elements v) state.pairs)
with_element_some order limit state v next e =
    elim (has_pair_over limit (pairs_with (length state.elements + 1) (lead v) 1 state.elements)) as (λ b.
    (if b then None else Some (record { by = state.by; elements = state.elements ++ v ∷ []; pairs = insert_pairs (compare_pairs order state.by) (pairs_with (length state.elements + 1) (lead v) 1 state.elements) state.pairs; taken = state.taken })) ≡ Some next
    → (next.elements ≡ state.elements ++ v ∷ []) × (next.pairs ≡ insert_pairs (compare_pairs order state.by) (pairs_with (length state.elements + 1) (lead v) 1 state.elements) state.pairs)) [
      | true ↦ λ k. cc
      | false ↦ λ k.
          let is : record { by = state.by; elements = state.elements ++ v ∷ []; pairs = insert_pairs (compare_pairs order state.by) (pairs_with (length state.elements + 1) (lead v) 1 state.elements) state.pairs; taken = state.taken } ≡ next = cc in
          (sym (ap (λ (s : RunState). s.elements) is), sym (ap (λ (s : RunState). s.pairs) is))
    ] e

module _ {variables : ℕ} {order : Term → Term → Ordering} {high : ℕ → Bool} {height : Term → ℕ} {bound : ℕ}
    (laws : IsTermOrder variables order high height bound) where
  -- the S-vector of a proper pair, divided
  divided : (Pending : Pair → Type 0) (generators added elements : List ModuleVector) → IsRunState order variables Pending generators added elements → (i j : ℕ) → i < j → j < length elements
      → (lead (get_or elements i [])).0 ≡ (lead (get_or elements j [])).0 → (limit steps : ℕ) (r : ModuleVector)
      → divide order limit elements steps (s_vector order (get_or elements i []) (get_or elements j [])) ≡ Some (Remainder r)
      → ReducesTo order variables elements (λ t. order (lcm_term (lead (get_or elements i [])) (lead (get_or elements j []))) t ≡ Greater) (s_vector order (get_or elements i []) (get_or elements j [])) r
  divided Pending generators added elements s i j below within component limit steps r e =
      let monic_in = λ (x : ModuleVector) (h : Contains elements x). All-contains (IsMonicVector order variables) elements x s.monic h in
      let g = get_or elements i [] in
      let h = get_or elements j [] in
      let first = monic_in g (Contains-get_or elements i [] (omega arith)) in
      let second = monic_in h (Contains-get_or elements j [] within) in
      let meet = meets laws g h first second component in
      divide_reduces laws elements monic_in limit steps (λ t. order (lcm_term (lead g) (lead h)) t ≡ Greater)
      (λ t u above more. Greater-trans order laws.total (lcm_term (lead g) (lead h)) t u above more)
      (s_vector order g h) r (IsCanonical-s_vector laws g h) (AllKeys-s_vector laws g h meet) (AllBelow-s_vector laws g h meet) e

  taken_over : (b : Bool) (x : Option Step) (next : RunState) → (if b then Some Over else x) ≡ Some (Next next) → x ≡ Some (Next next)
  taken_over true x next e = cc
  taken_over false x next e = e

  step_next : (x : Option RunState) (next : RunState) → ◌≡◌ {A = Option Step} (Some (step_to x)) (Some (Next next)) → x ≡ Some next
  step_next None next e = cc
  step_next (Some state) next e = cc

  -- the numbers of a pair tell its places
  same_places : (elements more : List ModuleVector) (i j k l : ℕ) → pair_at elements i j ≡ pair_at more k l → (i ≡ k) × (j ≡ l)
  unfolding pair_at
  same_places elements more i j k l e =
      let first : 1 + i ≡ 1 + k = ap (λ (p : Pair). p.first) e in
      let second : j + 1 ≡ l + 1 = ap (λ (p : Pair). p.second) e in
      (omega (arith, first), omega (arith, second))

  s_vector_member : (generators elements : List ModuleVector) → All (IsMonicVector order variables) elements → All (IsMember variables generators) elements
      → (g h : ModuleVector) → Contains elements g → Contains elements h → (lead g).0 ≡ (lead h).0 → IsMember variables generators (s_vector order g h)
  s_vector_member generators elements monic members g h in_g in_h component =
      let first = All-contains (IsMonicVector order variables) elements g monic in_g in
      let second = All-contains (IsMonicVector order variables) elements h monic in_h in
      let s = IsTerm-lead laws g first.monic first.terms in
      let t = IsTerm-lead laws h second.monic second.terms in
      let lcm = lcm_term (lead g) (lead h) in
      let valid = IsTerm-lcm variables (lead g) (lead h) s t in
      let submodule = IsSubmodule-IsMember variables generators in
      Member-subtract variables (IsMember variables generators) submodule laws (multiple_value (multiple_with_lead lcm g)) 1 (multiple_with_lead lcm h).0 h
      (length-quotient variables (lead h).1 lcm.1 t.exponents valid.exponents)
      (submodule.multiplied (multiple_with_lead lcm g).0 g (length-quotient variables (lead g).1 lcm.1 s.exponents valid.exponents) (All-contains (IsMember variables generators) elements g members in_g))
      (All-contains (IsMember variables generators) elements h members in_h)

  taken_state : (generators added : List ModuleVector) (state : RunState) (pair : Pair) (others : List Pair) → IsRunState order variables (Listed (pair ∷ others)) generators added state.elements
      → (limit steps : ℕ) (next : RunState) → take_pair order limit steps pair (without_pair others state) ≡ Some (Next next)
      → IsRunState order variables (Listed next.pairs) generators added next.elements
  unfolding pair_at
  taken_state generators added state pair others s limit steps next e =
      let elements = state.elements in
      let p = s.proper pair (inl refl) in
      let g = get_or elements p.i [] in
      let h = get_or elements p.j [] in
      let first : get_or elements (pair.first - 1) [] ≡ g =
      let number : pair.first ≡ 1 + p.i = ap (λ (q : Pair). q.first) p.is in
      let place : pair.first - 1 ≡ p.i = omega (arith, number) in
      ap (λ k. get_or elements k []) place
      in
      let second : get_or elements (pair.second - 1) [] ≡ h =
      let number : pair.second ≡ p.j + 1 = ap (λ (q : Pair). q.second) p.is in
      let place : pair.second - 1 ≡ p.j = omega (arith, number) in
      ap (λ k. get_or elements k []) place
      in
      let in_g = Contains-get_or elements p.i [] (omega (arith, p.ordered, p.within)) in
      let in_h = Contains-get_or elements p.j [] p.within in
      let a = get_or elements (pair.first - 1) [] in
      let b = get_or elements (pair.second - 1) [] in
      let over = is_over_degree limit (multiple_value (multiple_with_lead pair.lcm a)) || is_over_degree limit (multiple_value (multiple_with_lead pair.lcm b)) in
      let result = with_remainder order limit (without_pair others state) (divide order limit elements steps (s_vector order a b)) in
      let taken : with_remainder order limit (without_pair others state) (divide order limit elements steps (s_vector order g h)) ≡ Some (Next next) =
      rw (first, second) at (taken_over over result next e)
      in
      elim (divide order limit elements steps (s_vector order g h)) as (λ x. divide order limit elements steps (s_vector order g h) ≡ x
      → with_remainder order limit (without_pair others state) x ≡ Some (Next next) → IsRunState order variables (Listed next.pairs) generators added next.elements) [
        | None ↦ λ d k. cc
        | Some OverDegree ↦ λ d k. cc
        | Some (Remainder []) ↦ λ d k.
            let reduces = divided (Listed (pair ∷ others)) generators added elements s p.i p.j p.ordered p.within p.component limit steps [] d in
            let standard = standard_from_zero laws elements g h reduces in
            let is : without_pair others state ≡ next = cc in
            subst (λ (n : RunState). IsRunState order variables (Listed n.pairs) generators added n.elements) is
            (with_pending order variables (Listed (pair ∷ others)) (Listed others) generators added elements s (λ q l. inr l)
            (λ i j within listed.
            elim listed as (λ x. Listed others (pair_at elements i j) ⊎ HasStandardRepresentation order variables elements (get_or elements i []) (get_or elements j [])) [
              | inl same ↦
                  let places = same_places elements elements p.i p.j i j (sym p.is ∙ same) in
                  inr (rw (← places.0, ← places.1) standard)
              | inr l ↦ inl l
            ]))
        | Some (Remainder (t ∷ rest)) ↦ λ d k.
            let reduces = divided (Listed (pair ∷ others)) generators added elements s p.i p.j p.ordered p.within p.component limit steps (t ∷ rest) d in
            let new = monic_of order (t ∷ rest) in
            let not_zero : t ∷ rest ≢ [] = λ c. cc in
            let standard = standard_from_new laws elements g h (t ∷ rest) not_zero reduces in
            let is_monic = IsMonicVector-monic_of laws (t ∷ rest) reduces.canonical not_zero reduces.terms in
            let submodule = IsSubmodule-IsMember variables generators in
            let member =
            Member-monic_of variables (IsMember variables generators) submodule laws (t ∷ rest)
            (Member-remainder variables (IsMember variables generators) submodule order elements _ (s_vector order g h) (t ∷ rest)
            (λ x c. All-contains (IsMember variables generators) elements x s.members c) reduces
            (s_vector_member generators elements s.monic s.members g h in_g in_h p.component))
            in
            let grown = with_element_some order limit (without_pair others state) new next (step_next _ next k) in
            rw (grown.0, grown.1)
            (added_settling order (compare_pairs order state.by) variables pair others generators added elements new s is_monic member
            (λ i j within same.
            let more = elements ++ new ∷ [] in
            let places = same_places elements more p.i p.j i j (sym p.is ∙ same) in
            let old_g : get_or more i [] ≡ g = ap (λ k. get_or more k []) (sym places.0) ∙ at_old elements new p.i (omega (arith, p.ordered, p.within)) in
            let old_h : get_or more j [] ≡ h = ap (λ k. get_or more k []) (sym places.1) ∙ at_old elements new p.j p.within in
            rw (old_g, old_h) standard))
      ] refl taken

  -- ---- a pair is dropped

  -- a pair of the elements that is gone has a representation
  gone_standard : (generators added elements : List ModuleVector) (pair : Pair) (others : List Pair) → IsRunState order variables (Listed (pair ∷ others)) generators added elements
      → (i j : ℕ) → i < j → j < length elements → (lead (get_or elements i [])).0 ≡ (lead (get_or elements j [])).0
      → (1 + i ≡ pair.first → j + 1 ≡ pair.second → ⊥) → has_pair others (1 + i) (j + 1) ≡ false
      → HasStandardRepresentation order variables elements (get_or elements i []) (get_or elements j [])
  unfolding pair_at
  gone_standard generators added elements pair others s i j below within component other gone =
      elim (s.settled i j below within component) as (λ x. HasStandardRepresentation order variables elements (get_or elements i []) (get_or elements j [])) [
        | inl (inl same) ↦ absurd (other (sym (ap (λ (q : Pair). q.first) same)) (sym (ap (λ (q : Pair). q.second) same)))
        | inl (inr listed) ↦
            let left = has_pair-Contains others _ (contained others _ listed) in
            let clash : true ≡ false = sym left ∙ gone in
            absurd (cc)
        | inr r ↦ r
      ]

  -- the same, in whichever order the two numbers stand
  gone_either : (generators added elements : List ModuleVector) (pair : Pair) (others : List Pair) → IsRunState order variables (Listed (pair ∷ others)) generators added elements
      → (i j : ℕ) → i < length elements → j < length elements → i ≢ j → (lead (get_or elements i [])).0 ≡ (lead (get_or elements j [])).0
      → (1 + i ≡ pair.first → 1 + j ≡ pair.second → ⊥) → (1 + j ≡ pair.first → 1 + i ≡ pair.second → ⊥) → is_left others (1 + i) (1 + j) ≡ false
      → HasStandardRepresentation order variables elements (get_or elements i []) (get_or elements j [])
  gone_either generators added elements pair others s i j first second apart component up down gone =
      let i_number : 1 + i ≡ i + 1 = omega arith in
      let j_number : 1 + j ≡ j + 1 = omega arith in
      ⊎_elim
      (λ (below : i < j).
      gone_standard generators added elements pair others s i j below second component (λ a b. up a (omega (arith, b)))
      (subst (λ n. has_pair others (1 + i) n ≡ false) j_number (gone_up others (1 + i) (1 + j) (omega (arith, below)) gone)))
      (λ (le : j ≤ i).
      let below : j < i = omega (arith, le, apart) in
      HasStandardRepresentation-sym order variables elements (get_or elements i []) (get_or elements j []) component
      (gone_standard generators added elements pair others s j i below first (sym component) (λ a b. down a (omega (arith, b)))
      (subst (λ n. has_pair others (1 + j) n ≡ false) i_number (gone_down others (1 + i) (1 + j) (omega (arith, below)) gone))))
      (cases_lt i j)

  -- a pair that the criterion drops has one
  dropped_standard : (generators added elements : List ModuleVector) (pair : Pair) (others : List Pair) → IsRunState order variables (Listed (pair ∷ others)) generators added elements
      → is_dropped 1 elements others pair ≡ true → (p : IsProper elements pair)
      → HasStandardRepresentation order variables elements (get_or elements p.i []) (get_or elements p.j [])
  unfolding pair_at
  dropped_standard generators added elements pair others s dropped p =
      let t = dropped_through 1 elements others pair dropped in
      let first : pair.first ≡ 1 + p.i = ap (λ (q : Pair). q.first) p.is in
      let second : pair.second ≡ p.j + 1 = ap (λ (q : Pair). q.second) p.is in
      let second_number : pair.second ≡ 1 + p.j = omega (arith, second) in
      let g = get_or elements p.i [] in
      let h = get_or elements t.place [] in
      let k = get_or elements p.j [] in
      let i_within : p.i < length elements = omega (arith, p.ordered, p.within) in
      let not_i : p.i ≢ t.place = λ e. t.not_first (omega (arith, e, first)) in
      let not_j : t.place ≢ p.j = λ e. t.not_second (omega (arith, e, second)) in
      let through : divides (lead h) (lcm_term (lead g) (lead k)) ≡ true = ap (divides (lead h)) (sym (ap (λ (q : Pair). q.lcm) p.is)) ∙ t.through in
      let component : (lead h).0 ≡ (lead g).0 = (unsigned_Decides (lead h).0 (lead g).0).0 (both_true _ _ through).0 in
      let left_gone : is_left others (1 + p.i) (1 + t.place) ≡ false = subst (λ n. is_left others n (1 + t.place) ≡ false) first t.first_gone in
      let right_gone : is_left others (1 + p.j) (1 + t.place) ≡ false = subst (λ n. is_left others n (1 + t.place) ≡ false) second_number t.second_gone in
      let left =
      gone_either generators added elements pair others s p.i t.place i_within t.within not_i (sym component)
      (λ a b. t.not_second (omega (arith, b))) (λ a b. t.not_first (omega (arith, a))) left_gone
      in
      let right =
      gone_either generators added elements pair others s p.j t.place p.within t.within (λ e. not_j (sym e)) (sym p.component ∙ sym component)
      (λ a b. t.not_second (omega (arith, b))) (λ a b. t.not_first (omega (arith, a))) right_gone
      in
      chain_criterion laws elements s.monic g h k (Contains-get_or elements p.i [] i_within) (Contains-get_or elements t.place [] t.within) (Contains-get_or elements p.j [] p.within)
      p.component through left
      (HasStandardRepresentation-sym order variables elements h k (component ∙ p.component) right)

  dropped_state : (generators added elements : List ModuleVector) (pair : Pair) (others : List Pair) → IsRunState order variables (Listed (pair ∷ others)) generators added elements
      → is_dropped 1 elements others pair ≡ true → IsRunState order variables (Listed others) generators added elements
  dropped_state generators added elements pair others s dropped =
      let p = s.proper pair (inl refl) in
      let standard = dropped_standard generators added elements pair others s dropped p in
      with_pending order variables (Listed (pair ∷ others)) (Listed others) generators added elements s (λ q l. inr l)
      (λ i j within listed.
      elim listed as (λ x. Listed others (pair_at elements i j) ⊎ HasStandardRepresentation order variables elements (get_or elements i []) (get_or elements j [])) [
        | inl same ↦
            let places = same_places elements elements p.i p.j i j (sym p.is ∙ same) in
            inr (rw (← places.0, ← places.1) standard)
        | inr l ↦ inl l
      ])

  undropped_if : (b : Bool) (generators added elements : List ModuleVector) (pair : Pair) (others : List Pair) → is_dropped 1 elements others pair ≡ b
      → IsRunState order variables (Listed (pair ∷ others)) generators added elements
      → (IsRunState order variables (Listed others) generators added elements → IsRunState order variables (Listed (undropped elements others)) generators added elements)
      → IsRunState order variables (Listed (if b then undropped elements others else (pair ∷ others))) generators added elements
  undropped_if true generators added elements pair others e s later = later (dropped_state generators added elements pair others s e)
  undropped_if false generators added elements pair others e s later = s

  undropped_state : (generators added elements : List ModuleVector) (pairs : List Pair) → IsRunState order variables (Listed pairs) generators added elements
      → IsRunState order variables (Listed (undropped elements pairs)) generators added elements
  undropped_state generators added elements [] s = s
  undropped_state generators added elements (pair ∷ others) s =
      undropped_if (is_dropped 1 elements others pair) generators added elements pair others refl s (undropped_state generators added elements others)

  -- ---- the run

  -- what the list of a done run has
  pub record IsDone (generators added list : List ModuleVector) : Type 0 where
    monic : All (IsMonicVector order variables) list
    members : All (IsMember variables generators) list
    generated : All (IsMember variables list) added
    settled : (i j : ℕ) → i < j → j < length list → (lead (get_or list i [])).0 ≡ (lead (get_or list j [])).0
        → HasStandardRepresentation order variables list (get_or list i []) (get_or list j [])

  none_pending : (generators added elements : List ModuleVector) → IsRunState order variables (Listed []) generators added elements → IsDone generators added elements
  none_pending generators added elements s =
      record {
        monic = s.monic;
        members = s.members;
        generated = s.generated;
        settled = λ i j below within component.
            elim (s.settled i j below within component) as (λ x. HasStandardRepresentation order variables elements (get_or elements i []) (get_or elements j [])) [
              | inl h ↦ absurd h
              | inr r ↦ r
            ];
      }

  run_done : (generators added : List ModuleVector) (limit steps budget : ℕ) (pairs : List Pair) (state : RunState) → IsRunState order variables (Listed pairs) generators added state.elements
      → (list : List ModuleVector) (taken : ℕ) → run_pairs order limit steps budget pairs state ≡ Some (Done list taken) → IsDone generators added list
  run_done generators added limit steps budget [] state s list taken e =
      let is : state.elements ≡ list = cc in
      subst (IsDone generators added) is (none_pending generators added state.elements s)
  run_done generators added limit steps zero (pair ∷ others) state s list taken e = cc
  run_done generators added limit steps (suc budget) (pair ∷ others) state s list taken e =
      elim (take_pair order limit steps pair (without_pair others state)) as (λ x. take_pair order limit steps pair (without_pair others state) ≡ x
      → after_step (λ next. run_pairs order limit steps budget (pairs_left next) next) x ≡ Some (Done list taken) → IsDone generators added list) [
        | None ↦ λ d k. cc
        | Some Over ↦ λ d k. cc
        | Some (Next next) ↦ λ d k. run_done generators added limit steps budget (pairs_left next) next
            (undropped_state generators added next.elements next.pairs (taken_state generators added state pair others s limit steps next d)) list taken k
      ] refl e

  -- ---- the opening

  IsGenerator : List ModuleVector → ModuleVector → Type 0
  IsGenerator generators g = Contains generators g × IsVector order variables g × (g ≢ [])

  with_generators_none : (limit : ℕ) (rest : List ModuleVector) (next : RunState) → with_generators order limit None rest ≡ Some next → ⊥
  with_generators_none limit rest next e = cc

  -- a generator is added
  generator_state : (generators added : List ModuleVector) (limit : ℕ) (state : RunState) (g : ModuleVector) → IsGenerator generators g
      → IsRunState order variables (Listed state.pairs) generators added state.elements → (next : RunState) → with_element order limit state (monic_of order g) ≡ Some next
      → IsRunState order variables (Listed next.pairs) generators (added ++ g ∷ []) next.elements
  unfolding IsGenerator PendingWith
  generator_state generators added limit state g is s next e =
      let new = monic_of order g in
      let elements = state.elements in
      let more = elements ++ new ∷ [] in
      let grown = with_element_some order limit state new next e in
      let submodule = IsSubmodule-IsMember variables generators in
      let is_monic = IsMonicVector-monic_of laws g is.1.canonical is.2 is.1.terms in
      let member = Member-monic_of variables (IsMember variables generators) submodule laws g (IsMember-generator variables generators g is.0 is.1.terms) in
      let with_new = added_state order variables (Listed state.pairs) generators added elements new s is_monic member in
      let all =
      with_pending order variables (PendingWith (formed_pairs elements new) (Listed state.pairs)) (Listed (insert_pairs (compare_pairs order state.by) (formed_pairs elements new) state.pairs)) generators added more
      with_new (λ q h. from_insert_pairs (compare_pairs order state.by) (formed_pairs elements new) state.pairs q h)
      (λ i j within h. inl (Listed-insert_pairs (compare_pairs order state.by) (formed_pairs elements new) state.pairs (pair_at more i j) h))
      in
      let generated : IsMember variables more g =
      Member-from_monic_of variables (IsMember variables more) (IsSubmodule-IsMember variables more) laws g is.1.canonical is.2
      (IsMember-generator variables more new (Contains-push elements new) is_monic.terms)
      in
      rw (grown.0, grown.1)
      (record {
        monic = all.monic;
        members = all.members;
        generated = All-push (IsMember variables more) added g all.generated generated;
        settled = all.settled;
        proper = all.proper;
      })

  opening_state : (generators : List ModuleVector) (limit : ℕ) (rest added : List ModuleVector) → AllByRecursion (IsGenerator generators) rest → (state : RunState)
      → IsRunState order variables (Listed state.pairs) generators added state.elements → (next : RunState) → with_generators order limit (Some state) rest ≡ Some next
      → IsRunState order variables (Listed next.pairs) generators (added ++ rest) next.elements
  opening_state generators limit [] added h state s next e =
      let is : state ≡ next = cc in
      rw append-nil (subst (λ (n : RunState). IsRunState order variables (Listed n.pairs) generators added n.elements) is s)
  opening_state generators limit (g ∷ rest) added h state s next e =
      elim (with_element order limit state (monic_of order g)) as (λ x. with_element order limit state (monic_of order g) ≡ x → with_generators order limit x rest ≡ Some next
      → IsRunState order variables (Listed next.pairs) generators (added ++ g ∷ rest) next.elements) [
        | None ↦ λ d k. absurd (with_generators_none limit rest next k)
        | Some after ↦ λ d k.
            let whole = opening_state generators limit rest (added ++ g ∷ []) h.1 after (generator_state generators added limit state g h.0 s after d) next k in
            subst (λ (l : List ModuleVector). IsRunState order variables (Listed next.pairs) generators l next.elements) (append_assoc added (g ∷ []) rest) whole
      ] refl e

  -- ---- the theorems

  empty_state : (generators : List ModuleVector) → IsRunState order variables (Listed []) generators [] []
  empty_state generators =
      record {
        monic = All-nil (IsMonicVector order variables);
        members = All-nil (IsMember variables generators);
        generated = All-nil (IsMember variables []);
        settled = λ i j below within component. absurd (omega (arith, within));
        proper = λ q h. absurd h;
      }

  run_from_done : (generators : List ModuleVector) (by : PairOrder) (limit steps budget : ℕ) (start : Option RunState) → opening order by limit generators ≡ start → All (IsGenerator generators) generators
      → (list : List ModuleVector) (taken : ℕ) → run_from order limit steps budget start ≡ Some (Done list taken) → IsDone generators generators list
  run_from_done generators by limit steps budget None opens good list taken e = cc
  run_from_done generators by limit steps budget (Some state) opens good list taken e =
      run_done generators generators limit steps budget (pairs_left state) state
      (undropped_state generators generators state.elements state.pairs
      (opening_state generators limit generators [] (recursion_from_All (IsGenerator generators) generators good) (record { by = by; elements = []; pairs = []; taken = 0 }) (empty_state generators) state opens))
      list taken e

  pair_reduces : (list : List ModuleVector) → ((i j : ℕ) → i < j → j < length list → (lead (get_or list i [])).0 ≡ (lead (get_or list j [])).0
      → HasStandardRepresentation order variables list (get_or list i []) (get_or list j []))
      → (i j : ℕ) → i < length list → j < length list → (lead (get_or list i [])).0 ≡ (lead (get_or list j [])).0
      → HasStandardRepresentation order variables list (get_or list i []) (get_or list j [])
  pair_reduces list settled i j first second component =
      let g = get_or list i [] in
      let h = get_or list j [] in
      ⊎_elim (λ (below : i < j). settled i j below second component)
      (λ (le : j ≤ i).
      ⊎_elim
      (λ (below : j < i).
      HasStandardRepresentation-sym order variables list g h component (settled j i below first (sym component)))
      (λ (le_other : i ≤ j).
      let is : i ≡ j = omega arith in
      let lcm = lcm_term (lead g) (lead g) in
      subst (λ k. HasStandardRepresentation order variables list g (get_or list k [])) is
      (IsEqualBelow-refl order same_term terms_decide multiple_value multiple_lead (IsMultipleOf variables list) lcm (multiple_with_lead lcm g)))
      (cases_lt j i))
      (cases_lt i j)

  -- the pairs of a list of places are all pairs
  pub AllPairsReduce-from_places : (list : List ModuleVector) → ((i j : ℕ) → i < j → j < length list → (lead (get_or list i [])).0 ≡ (lead (get_or list j [])).0
      → HasStandardRepresentation order variables list (get_or list i []) (get_or list j [])) → AllPairsReduce order variables list
  AllPairsReduce-from_places list settled =
      record {
        reduces = λ g h in_g in_h component.
            let first : get_or list in_g.0 [] ≡ g = get_or_default list in_g.0 [] g in_g.1 ∙ in_g.2 in
            let second : get_or list in_h.0 [] ≡ h = get_or_default list in_h.0 [] h in_h.1 ∙ in_h.2 in
            rw (first, second) at (pair_reduces list settled in_g.0 in_h.0 in_g.1 in_h.1 (rw (first, second) component));
      }

  run_is_done : (generators : List ModuleVector) → All (IsVector order variables) generators → All (λ g. g ≢ []) generators
      → (by : PairOrder) (limit budget : ℕ) (list : List ModuleVector) (taken : ℕ) → RunsTo order by limit generators budget (Done list taken) → IsDone generators generators list
  unfolding IsGenerator
  run_is_done generators vectors not_zero by limit budget list taken run =
      run_from_done generators by limit run.steps budget (opening order by limit generators) refl
      (All-weaker (Contains generators) (λ g. Contains generators g × IsVector order variables g × (g ≢ []))
      (λ g c. (c, All-contains (IsVector order variables) generators g vectors c, All-contains (λ g. g ≢ []) generators g not_zero c)) generators (All-contains_itself generators))
      list taken run.ends

  -- The list of a done run: its vectors are monic and in the module of the generators, which are in its own.
  pub run_monic : (generators : List ModuleVector) → All (IsVector order variables) generators → All (λ g. g ≢ []) generators
      → (by : PairOrder) (limit budget : ℕ) (list : List ModuleVector) (taken : ℕ) → RunsTo order by limit generators budget (Done list taken) → All (IsMonicVector order variables) list
  run_monic generators vectors not_zero by limit budget list taken run = (run_is_done generators vectors not_zero by limit budget list taken run).monic

  -- The list of a done run is a Groebner basis of the module that the generators generate.
  pub run_groebner : (generators : List ModuleVector) → All (IsVector order variables) generators → All (λ g. g ≢ []) generators
      → (by : PairOrder) (limit budget : ℕ) (list : List ModuleVector) (taken : ℕ) → RunsTo order by limit generators budget (Done list taken) → IsGroebnerBasis order (IsMember variables generators) list
  run_groebner generators vectors not_zero by limit budget list taken run =
      let done = run_is_done generators vectors not_zero by limit budget list taken run in
      let basis = buchberger laws list done.monic (AllPairsReduce-from_places list done.settled) in
      record {
        members = done.members;
        divisible = λ v canonical v_not_zero member.
            basis.divisible v canonical v_not_zero
            (IsMember-least variables generators (IsMember variables list) (IsSubmodule-IsMember variables list)
            (λ g c. All-contains (IsMember variables list) generators g done.generated c) v member);
      }

  -- ---- the run ends

  Taken : ℕ → Pair → List Pair → RunState → Type 0
  Taken limit pair others state = (steps : ℕ) × (step : Step) × (take_pair order limit steps pair (without_pair others state) ≡ Some step)

  with_remainder_some : (limit : ℕ) (state : RunState) (d : Division) → (step : Step) × (with_remainder order limit state (Some d) ≡ Some step)
  with_remainder_some limit state (Remainder []) = (Next state, refl)
  with_remainder_some limit state (Remainder (t ∷ rest)) = (step_to (with_element order limit state (monic_of order (t ∷ rest))), refl)
  with_remainder_some limit state OverDegree = (Over, refl)

  with_division : (limit : ℕ) (state : RunState) (x : Option Division) (d : Division) (step : Step) → x ≡ Some d → with_remainder order limit state (Some d) ≡ Some step
      → with_remainder order limit state x ≡ Some step
  with_division limit state x d step e f = ap (with_remainder order limit state) e ∙ f

  -- the division of a pair's S-vector ends
  pair_taken : (generators added : List ModuleVector) (state : RunState) (pair : Pair) (others : List Pair) → IsRunState order variables (Listed (pair ∷ others)) generators added state.elements
      → (limit : ℕ) → Taken limit pair others state
  unfolding pair_at Taken
  pair_taken generators added state pair others s limit =
      let elements = state.elements in
      let p = s.proper pair (inl refl) in
      let a = get_or elements (pair.first - 1) [] in
      let b = get_or elements (pair.second - 1) [] in
      let first : pair.first - 1 ≡ p.i = omega (arith, ap (λ (q : Pair). q.first) p.is) in
      let second : pair.second - 1 ≡ p.j = omega (arith, ap (λ (q : Pair). q.second) p.is) in
      let monic_in = λ (x : ModuleVector) (c : Contains elements x). All-contains (IsMonicVector order variables) elements x s.monic c in
      let in_a = Contains-get_or elements (pair.first - 1) [] (omega (arith, first, p.ordered, p.within)) in
      let in_b = Contains-get_or elements (pair.second - 1) [] (omega (arith, second, p.within)) in
      let component : (lead a).0 ≡ (lead b).0 =
      ap (λ k. (lead (get_or elements k [])).0) first ∙ p.component ∙ ap (λ k. (lead (get_or elements k [])).0) (sym second)
      in
      let meet = meets laws a b (monic_in a in_a) (monic_in b in_b) component in
      let ends = divide_ends laws elements monic_in limit (s_vector order a b) (IsCanonical-s_vector laws a b) (AllKeys-s_vector laws a b meet) in
      let step = with_remainder_some limit (without_pair others state) ends.0 in
      elim (is_over_degree limit (multiple_value (multiple_with_lead pair.lcm a)) || is_over_degree limit (multiple_value (multiple_with_lead pair.lcm b))) as (λ o.
      (steps : ℕ) × (found : Step) × ((if o then Some Over else with_remainder order limit (without_pair others state) (divide order limit elements steps (s_vector order a b))) ≡ Some found)) [
        | true ↦ (0, Over, refl)
        | false ↦ (ends.1.steps, step.0, with_division limit (without_pair others state) (divide order limit elements ends.1.steps (s_vector order a b)) ends.0 step.0 ends.1.ends step.1)
      ]

  Ended : ℕ → ℕ → List Pair → RunState → Type 0
  Ended limit budget pairs state = (steps : ℕ) × (end : RunEnd) × (run_pairs order limit steps budget pairs state ≡ Some end)

  pairs_end : (generators added : List ModuleVector) (limit budget : ℕ) (pairs : List Pair) (state : RunState) → IsRunState order variables (Listed pairs) generators added state.elements
      → Ended limit budget pairs state
  unfolding Taken Ended
  pairs_end generators added limit budget [] state s = (0, Done state.elements state.taken, refl)
  pairs_end generators added limit zero (pair ∷ others) state s = (0, PairsSpent, refl)
  pairs_end generators added limit (suc budget) (pair ∷ others) state s =
      let taken = pair_taken generators added state pair others s limit in
      elim taken.1 as (λ x. take_pair order limit taken.0 pair (without_pair others state) ≡ Some x
      → (steps : ℕ) × (end : RunEnd) × (run_pairs order limit steps (suc budget) (pair ∷ others) state ≡ Some end)) [
        | Over ↦ λ e. (taken.0, DegreeOver, ap (after_step (λ next. run_pairs order limit taken.0 budget (pairs_left next) next)) e)
        | Next next ↦ λ e.
            let rest = pairs_end generators added limit budget (pairs_left next) next (undropped_state generators added next.elements next.pairs (taken_state generators added state pair others s limit taken.0 next e)) in
            let steps = taken.0 + rest.0 in
            let first = take_pair-more order limit taken.0 steps (omega arith) pair (without_pair others state) (Next next) e in
            let second = run_pairs-more order limit rest.0 steps (omega arith) budget (pairs_left next) next rest.1 rest.2 in
            (steps, rest.1, ap (after_step (λ n. run_pairs order limit steps budget (pairs_left n) n)) first ∙ second)
      ] taken.2

  -- The run of generators that are not zero ends.
  pub run_ends : (generators : List ModuleVector) → All (IsVector order variables) generators → All (λ g. g ≢ []) generators → (by : PairOrder) (limit budget : ℕ)
      → (end : RunEnd) × RunsTo order by limit generators budget end
  unfolding IsGenerator Ended
  run_ends generators vectors not_zero by limit budget =
      let good =
      All-weaker (Contains generators) (λ g. Contains generators g × IsVector order variables g × (g ≢ []))
      (λ g c. (c, All-contains (IsVector order variables) generators g vectors c, All-contains (λ g. g ≢ []) generators g not_zero c)) generators (All-contains_itself generators)
      in
      elim (opening order by limit generators) as (λ start. opening order by limit generators ≡ start → (end : RunEnd) × RunsTo order by limit generators budget end) [
        | None ↦ λ e. (DegreeOver, record { steps = 0; ends = ap (run_from order limit 0 budget) e })
        | Some state ↦ λ e.
            let start =
            opening_state generators limit generators [] (recursion_from_All (λ g. Contains generators g × IsVector order variables g × (g ≢ [])) generators good)
            (record { by = by; elements = []; pairs = []; taken = 0 }) (empty_state generators) state e
            in
            let rest = pairs_end generators generators limit budget (pairs_left state) state (undropped_state generators generators state.elements state.pairs start) in
            (rest.1, record { steps = rest.0; ends = ap (run_from order limit rest.0 budget) e ∙ rest.2 })
      ] refl
