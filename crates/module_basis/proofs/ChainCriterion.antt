-- The chain criterion: a pair has a standard representation where the pairs of its two elements with a third one have,
-- whose lead divides the least common multiple of theirs. And what it says of a pair that the criterion drops.
use Rattle.std.proofs.Common.{◌≡◌, ◌≢◌, ℕ, suc, ◌+◌, ◌<◌, Bool, true, false, not, ◌&&◌, ◌||◌, if◌then◌else◌, length, get_or, List, [], ◌∷◌, ◌++◌, sym, refl, ap, subst, ◌∙◌, arith}
use Rattle.std.specs.Prelude.{nat_eq, max}
use Rattle.std.specs.List.{All, Contains}
use Rattle.std.specs.Cmp.{unsigned_Decides}
use Rattle.std.proofs.Math.Nat.{max_comm}
use Rattle.std.proofs.lemmas.Bool.{lt-ltb, le-ltb}
use Rattle.std.proofs.lemmas.List.Elements.{All-contains}
use Rattle.std.proofs.lemmas.List.Folds.{list_any-from_Any}
use Rattle.std.specs.declared.cmp.Ordering.{Ordering}
use Rattle.std.specs.declared.cmp.Ordering.TheVariants.{Greater}
use Rattle.ibp_base.proofs.Tests.{both_true, and_true, not_false}
use Rattle.ibp_algebra.specs.Combination.{IsEqualBelow}
use Rattle.ibp_algebra.proofs.Weights.{weighted_sum-append}
use Rattle.ibp_algebra.proofs.ZeroDivisors.{AllKeys-append}
use Rattle.ibp_algebra.specs.FormalSum.{weighted_sum}
use Rattle.ibp_algebra.proofs.Combinations.{weighted_sum-IsEqualBelow, IsEqualBelow-from_weights, IsEqualBelow-sym}
use Rattle.ibp_algebra.proofs.ExponentLaws.{padded_sum_comm}
use Rattle.mono_order.specs.Term.{Term, same_term, lcm_term, divides, IsTerm}
use Rattle.mono_order.specs.TermOrder.{IsTermOrder}
use Rattle.mono_order.proofs.Terms.{terms_decide, IsTerm-lcm, divides-quotient, divides-lcm_left, divides-lcm_right, length-quotient}
use Rattle.module_vec.specs.ModuleVector.{ModuleVector, lead, IsMonicVector, Multiple, multiple_value, multiple_lead, IsMultipleOf}
use Rattle.module_vec.specs.Division.{multiple_with_lead}
use Rattle.module_vec.proofs.Multiples.{IsTerm-lead}
use Rattle.pair_queue.specs.declared.queue.Pair.{Pair}
use Rattle.pair_queue.specs.Pairs.{has_pair}
use Rattle.module_basis.specs.GroebnerBasis.{HasStandardRepresentation}
use Rattle.module_basis.specs.PlainRun.{is_left, is_dropped_through, is_dropped}
use Rattle.module_basis.proofs.Buchberger.{standard_at}

-- ---- representations

EqualBelow-trans : (order : Term → Term → Ordering) (variables : ℕ) (list : List ModuleVector) (top : Term) (a b c : Multiple)
    → IsEqualBelow order same_term multiple_value multiple_lead (IsMultipleOf variables list) top a b
    → IsEqualBelow order same_term multiple_value multiple_lead (IsMultipleOf variables list) top b c
    → IsEqualBelow order same_term multiple_value multiple_lead (IsMultipleOf variables list) top a c
EqualBelow-trans order variables list top a b c d e =
    IsEqualBelow-from_weights order same_term terms_decide multiple_value multiple_lead (IsMultipleOf variables list) top a c (d.summands ++ e.summands)
    (AllKeys-append (IsMultipleOf variables list) d.summands e.summands d.allowed e.allowed)
    (AllKeys-append (λ i. order top (multiple_lead i) ≡ Greater) d.summands e.summands d.below e.below)
    (λ w.
    let h = (weighted_sum-IsEqualBelow order same_term terms_decide multiple_value multiple_lead (IsMultipleOf variables list) top a b d w).same_residue in
    let k = (weighted_sum-IsEqualBelow order same_term terms_decide multiple_value multiple_lead (IsMultipleOf variables list) top b c e w).same_residue in
    record { same_residue = omega (arith, h, k, weighted_sum-append (λ i. weighted_sum w (multiple_value i)) d.summands e.summands) })

pub HasStandardRepresentation-sym : (order : Term → Term → Ordering) (variables : ℕ) (list : List ModuleVector) (g h : ModuleVector) → (lead g).0 ≡ (lead h).0
    → HasStandardRepresentation order variables list h g → HasStandardRepresentation order variables list g h
HasStandardRepresentation-sym order variables list g h component other =
    let exponents = padded_sum_comm max max_comm (lead g).1 (lead h).1 in
    let same : lcm_term (lead h) (lead g) ≡ lcm_term (lead g) (lead h) = (λ k. (sym component k, sym exponents k)) in
    let lcm = lcm_term (lead g) (lead h) in
    IsEqualBelow-sym order same_term terms_decide multiple_value multiple_lead (IsMultipleOf variables list) lcm (multiple_with_lead lcm h) (multiple_with_lead lcm g)
    (subst (λ (l : Term). IsEqualBelow order same_term multiple_value multiple_lead (IsMultipleOf variables list) l (multiple_with_lead l h) (multiple_with_lead l g)) same other)

module _ {variables : ℕ} {order : Term → Term → Ordering} {high : ℕ → Bool} {height : Term → ℕ} {bound : ℕ}
    (laws : IsTermOrder variables order high height bound)
    (list : List ModuleVector) (monic : All (IsMonicVector order variables) list) where
  vector_lead : (g : ModuleVector) → Contains list g → IsTerm variables (lead g)
  vector_lead g h = let is_monic = All-contains (IsMonicVector order variables) list g monic h in IsTerm-lead laws g is_monic.monic is_monic.terms

  -- Where the lead of h divides the least common multiple of the leads of g and k, the pair of g and k follows from
  -- those of g and h, and of h and k.
  pub chain_criterion : (g h k : ModuleVector) → Contains list g → Contains list h → Contains list k → (lead g).0 ≡ (lead k).0
      → divides (lead h) (lcm_term (lead g) (lead k)) ≡ true → HasStandardRepresentation order variables list g h → HasStandardRepresentation order variables list h k
      → HasStandardRepresentation order variables list g k
  chain_criterion g h k in_g in_h in_k component through first second =
      let first_lead = vector_lead g in_g in
      let middle_lead = vector_lead h in_h in
      let last_lead = vector_lead k in_k in
      let lcm = lcm_term (lead g) (lead k) in
      let valid = IsTerm-lcm variables (lead g) (lead k) first_lead last_lead in
      let same_length : length (lead g).1 ≡ length (lead k).1 = first_lead.exponents ∙ sym last_lead.exponents in
      let divides_g : divides (lead g) lcm ≡ true = and_true _ _ ((unsigned_Decides (lead g).0 (lead g).0).1 refl) (divides-lcm_left (lead g).1 (lead k).1 same_length) in
      let divides_k : divides (lead k) lcm ≡ true = and_true _ _ ((unsigned_Decides (lead k).0 (lead g).0).1 (sym component)) (divides-lcm_right (lead g).1 (lead k).1 same_length) in
      let a = multiple_with_lead lcm g in
      let b = multiple_with_lead lcm h in
      let c = multiple_with_lead lcm k in
      let a_lead : multiple_lead a ≡ lcm = divides-quotient variables (lead g) lcm first_lead.exponents valid.exponents divides_g in
      let b_lead : multiple_lead b ≡ lcm = divides-quotient variables (lead h) lcm middle_lead.exponents valid.exponents through in
      let c_lead : multiple_lead c ≡ lcm = divides-quotient variables (lead k) lcm last_lead.exponents valid.exponents divides_k in
      let a_is : IsMultipleOf variables list a = record { exponents = length-quotient variables (lead g).1 lcm.1 first_lead.exponents valid.exponents; generator = in_g } in
      let b_is : IsMultipleOf variables list b = record { exponents = length-quotient variables (lead h).1 lcm.1 middle_lead.exponents valid.exponents; generator = in_h } in
      let c_is : IsMultipleOf variables list c = record { exponents = length-quotient variables (lead k).1 lcm.1 last_lead.exponents valid.exponents; generator = in_k } in
      let left = standard_at laws list monic a b a_is b_is (a_lead ∙ sym b_lead) first in
      let right = standard_at laws list monic b c b_is c_is (b_lead ∙ sym c_lead) second in
      EqualBelow-trans order variables list lcm a b c
      (subst (λ t. IsEqualBelow order same_term multiple_value multiple_lead (IsMultipleOf variables list) t a b) a_lead left)
      (subst (λ t. IsEqualBelow order same_term multiple_value multiple_lead (IsMultipleOf variables list) t b c) b_lead right)

-- ---- pairs that are gone

pub has_pair-Contains : (pairs : List Pair) (q : Pair) → Contains pairs q → has_pair pairs q.first q.second ≡ true
has_pair-Contains pairs q c =
    list_any-from_Any (λ pair. nat_eq pair.first q.first && nat_eq pair.second q.second) pairs
    (c.0, q, c.1, c.2, and_true _ _ ((unsigned_Decides q.first q.first).1 refl) ((unsigned_Decides q.second q.second).1 refl))

-- the lesser number comes first
pub gone_up : (pairs : List Pair) (a b : ℕ) → a < b → is_left pairs a b ≡ false → has_pair pairs a b ≡ false
gone_up pairs a b below e = sym (ap (λ (l : Bool). if l then has_pair pairs a b else has_pair pairs b a) (lt-ltb a b below)) ∙ e

pub gone_down : (pairs : List Pair) (a b : ℕ) → b < a → is_left pairs a b ≡ false → has_pair pairs b a ≡ false
gone_down pairs a b below e = sym (ap (λ (l : Bool). if l then has_pair pairs a b else has_pair pairs b a) (le-ltb a b (omega (arith, below)))) ∙ e

-- ---- a pair that is dropped

-- the element at this place drops it
pub record IsThrough (number : ℕ) (elements : List ModuleVector) (pairs : List Pair) (pair : Pair) : Type 0 where
  pub place : ℕ
  pub within : place < length elements
  pub not_first : number + place ≢ pair.first
  pub not_second : number + place ≢ pair.second
  pub through : divides (lead (get_or elements place [])) pair.lcm ≡ true
  pub first_gone : is_left pairs pair.first (number + place) ≡ false
  pub second_gone : is_left pairs pair.second (number + place) ≡ false

apart : (a b : ℕ) → not (nat_eq a b) ≡ true → a ≢ b
apart a b e same = let k : true ≡ false = sym ((unsigned_Decides a b).1 same) ∙ not_false (nat_eq a b) e in absurd (cc)

all_true : (a b c d e : Bool) → (a && b && c && d && e) ≡ true → (a ≡ true) × (b ≡ true) × (c ≡ true) × (d ≡ true) × (e ≡ true)
all_true a b c d e h =
    let four = both_true (a && b && c && d) e h in
    let three = both_true (a && b && c) d four.0 in
    let two = both_true (a && b) c three.0 in
    let one = both_true a b two.0 in
    (one.0, one.1, two.1, three.1, four.1)

through_first : (number : ℕ) (g : ModuleVector) (elements : List ModuleVector) (pairs : List Pair) (pair : Pair) → is_dropped_through pairs pair number (lead g) ≡ true
    → IsThrough number (g ∷ elements) pairs pair
through_first number g elements pairs pair e =
    let all =
    all_true (not (nat_eq number pair.first)) (not (nat_eq number pair.second)) (divides (lead g) pair.lcm) (not (is_left pairs pair.first number)) (not (is_left pairs pair.second number)) e
    in
    let here : number ≡ number + 0 = omega arith in
    record {
      place = 0;
      within = omega arith;
      not_first = λ same. apart number pair.first all.0 (here ∙ same);
      not_second = λ same. apart number pair.second all.1 (here ∙ same);
      through = all.2;
      first_gone = subst (λ n. is_left pairs pair.first n ≡ false) here (not_false (is_left pairs pair.first number) all.3);
      second_gone = subst (λ n. is_left pairs pair.second n ≡ false) here (not_false (is_left pairs pair.second number) all.4);
    }

through_later : (number : ℕ) (g : ModuleVector) (elements : List ModuleVector) (pairs : List Pair) (pair : Pair) → IsThrough (suc number) elements pairs pair
    → IsThrough number (g ∷ elements) pairs pair
through_later number g elements pairs pair h =
    let there : suc number + h.place ≡ number + suc h.place = omega arith in
    record {
      place = suc h.place;
      within = omega (arith, h.within);
      not_first = λ same. h.not_first (omega (arith, same));
      not_second = λ same. h.not_second (omega (arith, same));
      through = h.through;
      first_gone = subst (λ n. is_left pairs pair.first n ≡ false) there h.first_gone;
      second_gone = subst (λ n. is_left pairs pair.second n ≡ false) there h.second_gone;
    }

through_either : (a b : Bool) (number : ℕ) (g : ModuleVector) (elements : List ModuleVector) (pairs : List Pair) (pair : Pair)
    → (a ≡ true → IsThrough number (g ∷ elements) pairs pair) → (b ≡ true → IsThrough number (g ∷ elements) pairs pair) → (a || b) ≡ true
    → IsThrough number (g ∷ elements) pairs pair
through_either true b number g elements pairs pair first later e = first refl
through_either false b number g elements pairs pair first later e = later e

pub dropped_through : (number : ℕ) (elements : List ModuleVector) (pairs : List Pair) (pair : Pair) → is_dropped number elements pairs pair ≡ true → IsThrough number elements pairs pair
dropped_through number [] pairs pair e = cc
dropped_through number (g ∷ elements) pairs pair e =
    through_either (is_dropped_through pairs pair number (lead g)) (is_dropped (suc number) elements pairs pair) number g elements pairs pair
    (through_first number g elements pairs pair)
    (λ k. through_later number g elements pairs pair (dropped_through (suc number) elements pairs pair k)) e
