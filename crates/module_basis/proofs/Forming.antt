-- The pairs that an element forms with those before it, one by one, and the state that they lead to.
use Rattle.std.proofs.Common.{◌≡◌, ℕ, suc, ◌+◌, ◌<◌, Bool, true, false, ◌||◌, if◌then◌else◌, inl, inr, sum, nat_lt, length, drop, get_or, List, [], ◌∷◌, ◌++◌, sym, refl, ap, ◌∙◌, arith}
use Rattle.std.specs.Prelude.{nat_eq}
use Rattle.std.specs.declared.cmp.Ordering.{Ordering}
use Rattle.std.proofs.lemmas.List.{append_assoc, drop_more}
use Rattle.std.proofs.lemmas.List.Elements.{All-push}
use Rattle.mono_order.specs.Term.{Term, lcm_term}
use Rattle.pair_queue.specs.declared.queue.Pair.{Pair}
use Rattle.pair_queue.specs.Pairs.{compare_pairs, insert_pair, insert_pairs}
use Rattle.module_vec.specs.ModuleVector.{ModuleVector, lead, IsMonicVector}
use Rattle.module_basis.specs.PlainRun.{RunState, run_state, AreNewPairs, pairs_with, has_pair_over, IsProper, pair_at, IsSoundState}
use Rattle.module_basis.proofs.RunLaws.{Listed, listed, contained, from_insert, from_insert_pairs, formed_pairs, proper_more, proper_new}

-- the pairs of the elements before a place, none of them over the limit
pub record IsFormed (limit second : ℕ) (new : Term) (elements : List ModuleVector) (i : ℕ) (pairs : List Pair) : Type 0 where
  pub all : pairs ++ pairs_with second new (1 + i) (drop i elements) ≡ pairs_with second new 1 elements
  pub over : has_pair_over limit (pairs_with second new (1 + i) (drop i elements)) ≡ has_pair_over limit (pairs_with second new 1 elements)

next_pairs : (second : ℕ) (new : Term) (elements : List ModuleVector) (i : ℕ) → pairs_with second new (1 + (i + 1)) (drop (i + 1) elements) ≡ pairs_with second new (suc (1 + i)) (drop (i + 1) elements)
next_pairs second new elements i = let number : 1 + (i + 1) ≡ suc (1 + i) = omega arith in λ k. pairs_with second new (number k) (drop (i + 1) elements)

pairs_step : (second : ℕ) (new : Term) (elements : List ModuleVector) (i : ℕ) (g : ModuleVector) → i < length elements → g ≡ get_or elements i g
    → pairs_with second new (1 + i) (drop i elements) ≡ pairs_with second new (1 + i) (g ∷ drop (i + 1) elements)
pairs_step second new elements i g within at = ap (pairs_with second new (1 + i)) (drop_more elements i g within ∙ (λ k. sym at k ∷ drop (i + 1) elements))

-- the element at a place has no pair with the new one
pub IsFormed-passed : (limit second : ℕ) (new : Term) (elements : List ModuleVector) (i : ℕ) (g : ModuleVector) (pairs : List Pair) → i < length elements → g ≡ get_or elements i g
    → nat_eq (lead g).0 new.0 ≡ false → IsFormed limit second new elements i pairs → IsFormed limit second new elements (i + 1) pairs
IsFormed-passed limit second new elements i g pairs within at apart h =
    let rest = pairs_with second new (suc (1 + i)) (drop (i + 1) elements) in
    let p : Pair = record { first = 1 + i; second = second; lcm = lcm_term (lead g) new } in
    let step = pairs_step second new elements i g within at ∙ ap (λ b. if b then (p ∷ rest) else rest) apart in
    let next = next_pairs second new elements i in
    record {
      all = ap (λ (l : List Pair). pairs ++ l) (next ∙ sym step) ∙ h.all;
      over = ap (has_pair_over limit) (next ∙ sym step) ∙ h.over;
    }

-- its pair with the new one is appended
pub IsFormed-more : (limit second : ℕ) (new : Term) (elements : List ModuleVector) (i : ℕ) (g : ModuleVector) (pairs after : List Pair) → i < length elements → g ≡ get_or elements i g
    → nat_eq (lead g).0 new.0 ≡ true → nat_lt limit (sum (lcm_term (lead g) new).1) ≡ false
    → after ≡ pairs ++ (record { first = i + 1; second = second; lcm = lcm_term (lead g) new }) ∷ [] → IsFormed limit second new elements i pairs → IsFormed limit second new elements (i + 1) after
IsFormed-more limit second new elements i g pairs after within at same small is h =
    let rest = pairs_with second new (suc (1 + i)) (drop (i + 1) elements) in
    let p : Pair = record { first = 1 + i; second = second; lcm = lcm_term (lead g) new } in
    let step = pairs_step second new elements i g within at ∙ ap (λ b. if b then (p ∷ rest) else rest) same in
    let next = next_pairs second new elements i in
    let number : i + 1 ≡ 1 + i = omega arith in
    let after_is : after ≡ pairs ++ p ∷ [] = is ∙ (λ k. pairs ++ (record { first = number k; second = second; lcm = lcm_term (lead g) new }) ∷ []) in
    record {
      all = (λ k. after_is k ++ next k) ∙ append_assoc pairs (p ∷ []) rest ∙ ap (λ (l : List Pair). pairs ++ l) (sym step) ∙ h.all;
      over = ap (has_pair_over limit) next ∙ sym (ap (λ b. b || has_pair_over limit rest) small) ∙ ap (has_pair_over limit) (sym step) ∙ h.over;
    }

-- ---- the pairs are new

AreBefore : ℕ → ℕ → List Pair → Type 0
AreBefore second first pairs = (q : Pair) → Listed pairs q → q.second ≡ second → q.first < first

AreNewPairs-if : (compare : Pair → Pair → Ordering) (b : Bool) (second first : ℕ) (p : Pair) (others pairs : List Pair) → p.first ≡ first → p.second ≡ second → AreBefore second first pairs
    → ((all : List Pair) → AreBefore second (suc first) all → AreNewPairs compare others all) → AreNewPairs compare (if b then (p ∷ others) else others) pairs
unfolding AreBefore
AreNewPairs-if compare true second first p others pairs first_is second_is before later = (
  λ c. let k = before p (listed pairs p c) second_is in omega (arith, k, first_is),
  later (insert_pair compare p pairs) (λ q inside same.
      elim (from_insert compare p pairs q inside) as (λ x. q.first < suc first) [
        | inl e ↦ let k : p.first ≡ q.first = ap (λ (r : Pair). r.first) e in omega (arith, k, first_is)
        | inr l ↦ let k = before q l same in omega (arith, k)
      ]),
)
AreNewPairs-if compare false second first p others pairs first_is second_is before later = later pairs (λ q inside same. let k = before q inside same in omega (arith, k))

AreNewPairs-with : (compare : Pair → Pair → Ordering) (second : ℕ) (new : Term) (first : ℕ) (elements : List ModuleVector) (pairs : List Pair) → AreBefore second first pairs
    → AreNewPairs compare (pairs_with second new first elements) pairs
AreNewPairs-with compare second new first [] pairs before = tt
AreNewPairs-with compare second new first (g ∷ elements) pairs before =
    AreNewPairs-if compare (nat_eq (lead g).0 new.0) second first (record { first = first; second = second; lcm = lcm_term (lead g) new }) (pairs_with second new (suc first) elements) pairs refl refl before
    (λ all k. AreNewPairs-with compare second new (suc first) elements all k)

pub AreNewPairs-formed : (order : Term → Term → Ordering) (variables : ℕ) (state : RunState) (v : ModuleVector) → IsSoundState order variables state
    → AreNewPairs (compare_pairs order state.by) (formed_pairs state.elements v) state.pairs
unfolding AreBefore pair_at
AreNewPairs-formed order variables state v sound =
    AreNewPairs-with (compare_pairs order state.by) (length state.elements + 1) (lead v) 1 state.elements state.pairs
    (λ q inside same.
    let proper = sound.proper q (contained state.pairs q inside) in
    let second : q.second ≡ proper.j + 1 = ap (λ (p : Pair). p.second) proper.is in
    omega (arith, second, same, proper.within))

-- ---- the state

pub IsSoundState-added : (order : Term → Term → Ordering) (variables : ℕ) (state : RunState) (v : ModuleVector) (taken : ℕ) → IsSoundState order variables state → IsMonicVector order variables v
    → IsSoundState order variables (run_state state.by (state.elements ++ v ∷ []) (insert_pairs (compare_pairs order state.by) (formed_pairs state.elements v) state.pairs) taken)
IsSoundState-added order variables state v taken sound monic =
    record {
      monic = All-push (IsMonicVector order variables) state.elements v sound.monic monic;
      proper = λ q inside.
          elim (from_insert_pairs (compare_pairs order state.by) (formed_pairs state.elements v) state.pairs q (listed _ q inside)) as (λ x. IsProper (state.elements ++ v ∷ []) q) [
            | inl formed ↦ proper_new state.elements v q formed
            | inr old ↦ proper_more state.elements v q (sound.proper q (contained state.pairs q old))
          ];
    }
