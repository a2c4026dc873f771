-- How a list that strictly ascends takes in one more element.
use Rattle.std.proofs.Common.{◌≡◌, ◌≢◌, ◌⊎◌, ℕ, zero, suc, ◌+◌, ◌<◌, ◌≤◌, true, false, List, [], ◌∷◌, ◌++◌, length, take, drop, get_or, refl, sym, ◌∙◌, ap, subst, inl, inr, arith}
use Rattle.std.specs.Prelude.{Contains, insert}
use Rattle.std.specs.List.{AllByRecursion, AllWithin}
use Rattle.std.specs.declared.cmp.Ordering.{Ordering}
use Rattle.std.specs.declared.cmp.Ordering.TheVariants.{Less, Equal, Greater}
use Rattle.std.specs.Ordering.{ordering_reverse, is_eq}
use Rattle.std.specs.Cmp.{IsTotalOrder}
use Rattle.std.specs.List.Sorted.{IsStrictlySortedBy}
use Rattle.std.proofs.lemmas.List.{take_more, take-append-drop}
use Rattle.std.proofs.lemmas.List.Elements.{Contains-append_cases, Contains-append_left, Contains-append_right}
use Rattle.std.proofs.lemmas.Map.Keys.{sorted_tail}
use Rattle.relay_core.specs.Family.{Adds}
use Rattle.ibp_base.proofs.Members.{in_cases, in_head, in_tail, in_none}
use Rattle.ibp_base.proofs.Ascending.{after_first}

pub from_each : {X : Type 0} (P : X → Type 0) (xs : List X) → ((x : X) → Contains xs x → P x) → AllByRecursion P xs
from_each P [] h = tt
from_each P (x ∷ xs) h = (h x (in_head x xs x refl), from_each P xs (λ y inside. h y (in_tail x xs y inside)))

-- the elements after an insert
pub from_insert : {X : Type 0} (xs : List X) (i : ℕ) (t y : X) → Contains (insert xs i t) y → Contains xs y ⊎ (t ≡ y)
from_insert xs i t y inside =
    elim (Contains-append_cases (take i xs) (t ∷ drop i xs) y inside) [
      | inl front ↦ inl (subst (λ zs. Contains zs y) (take-append-drop i xs) (Contains-append_left (take i xs) (drop i xs) y front))
      | inr behind ↦ elim (in_cases t (drop i xs) y behind) [
        | inl same ↦ inr same
        | inr rest ↦ inl (subst (λ zs. Contains zs y) (take-append-drop i xs) (Contains-append_right (take i xs) (drop i xs) y rest))
      ]
    ]

to_insert : {X : Type 0} (xs : List X) (i : ℕ) (t y : X) → Contains xs y ⊎ (t ≡ y) → Contains (insert xs i t) y
to_insert xs i t y (inr same) = Contains-append_right (take i xs) (t ∷ drop i xs) y (in_head t (drop i xs) y same)
to_insert xs i t y (inl inside) =
    elim (Contains-append_cases (take i xs) (drop i xs) y (subst (λ zs. Contains zs y) (sym (take-append-drop i xs)) inside)) [
      | inl front ↦ Contains-append_left (take i xs) (t ∷ drop i xs) y front
      | inr behind ↦ Contains-append_right (take i xs) (t ∷ drop i xs) y (in_tail t (drop i xs) y behind)
    ]

pub one_of : {X : Type 0} (t y : X) → Contains (t ∷ []) y → t ≡ y
one_of t y inside = elim (in_cases t [] y inside) [ inl same ↦ same | inr none ↦ absurd (in_none y none) ]

module _ {K : Type 0} (cmp : K → K → Ordering) (total : IsTotalOrder cmp) where
  pub sorted_cons : (x : K) (xs : List K) → ((y : K) → Contains xs y → cmp x y ≡ Less) → IsStrictlySortedBy cmp xs → IsStrictlySortedBy cmp (x ∷ xs)
  unfolding IsStrictlySortedBy
  sorted_cons x xs below up = (from_each (λ y. cmp x y ≡ Less) xs below, up)

  pub sorted_none : IsStrictlySortedBy cmp []
  unfolding IsStrictlySortedBy
  sorted_none = tt

  insert_sorted : (xs : List K) (i : ℕ) (t : K) → IsStrictlySortedBy cmp xs → i ≤ length xs → AllWithin (λ y. cmp y t ≡ Less) xs 0 i → ((d : K) → i < length xs → cmp t (get_or xs i d) ≡ Less) → IsStrictlySortedBy cmp (insert xs i t)
  insert_sorted [] zero t up within below above = sorted_cons t [] (λ y inside. absurd (in_none y inside)) sorted_none
  insert_sorted [] (suc i) t up within below above = absurd (omega arith)
  insert_sorted (x ∷ xs) zero t up within below above =
      let first : cmp t x ≡ Less = above t (omega arith) in
      sorted_cons t (x ∷ xs) (λ y inside. elim (in_cases x xs y inside) [
        | inl same ↦ subst (λ z. cmp t z ≡ Less) same first
        | inr rest ↦ total.trans t x y first (after_first cmp x xs y up rest)
      ]) up
  insert_sorted (x ∷ xs) (suc i) t up within below above =
      let first : cmp x t ≡ Less = below 0 t (omega arith) (omega arith) in
      sorted_cons x (insert xs i t) (λ y inside. elim (from_insert xs i t y inside) [
        | inl rest ↦ after_first cmp x xs y up rest
        | inr same ↦ subst (λ z. cmp x z ≡ Less) same first
      ]) (insert_sorted xs i t (sorted_tail cmp x xs up) (omega arith) (λ k d low high. below (suc k) d (omega arith) (omega arith)) (λ d inside. above d (omega arith)))

  -- an element that is there is taken in by nothing
  pub adds_here : (xs : List K) (t : K) → IsStrictlySortedBy cmp xs → Contains xs t → Adds cmp xs (t ∷ []) xs
  adds_here xs t up here = record {
    ascends = up;
    members = λ y. (λ inside. inl inside, λ why. elim why [ inl inside ↦ inside | inr new ↦ subst (λ z. Contains xs z) (one_of t y new) here ]);
  }

  -- not below and not equal is above
  above_by : (t y : K) → cmp y t ≢ Less → cmp y t ≢ Equal → cmp t y ≡ Less
  above_by t y low same = total.antisymm t y ∙ by_answer (cmp y t) refl
    where
      by_answer : (o : Ordering) → cmp y t ≡ o → ordering_reverse (cmp y t) ≡ Less
      by_answer Less e = absurd (low e)
      by_answer Equal e = absurd (same e)
      by_answer Greater e = ap ordering_reverse e

  -- an element put at its place
  pub adds_inserted : (xs : List K) (i : ℕ) (t : K) → IsStrictlySortedBy cmp xs → i ≤ length xs → AllWithin (λ y. cmp y t ≡ Less) xs 0 i →
      ((d : K) → i < length xs → cmp (get_or xs i d) t ≢ Less) → ((d : K) → i < length xs → cmp (get_or xs i d) t ≢ Equal) → Adds cmp xs (t ∷ []) (insert xs i t)
  adds_inserted xs i t up within below low same = record {
    ascends = insert_sorted xs i t up within below (λ d inside. above_by t (get_or xs i d) (low d inside) (same d inside));
    members = λ y. (
      λ inside. elim (from_insert xs i t y inside) [ inl old ↦ inl old | inr new ↦ inr (in_head t [] y new) ],
      λ why. elim why [ inl old ↦ to_insert xs i t y (inl old) | inr new ↦ to_insert xs i t y (inr (one_of t y new)) ],
    );
  }

  -- one more of a list
  pub adds_more : (old more mid new : List K) (i : ℕ) (t d : K) → i < length more → get_or more i d ≡ t → Adds cmp old (take i more) mid → Adds cmp mid (t ∷ []) new → Adds cmp old (take (i + 1) more) new
  adds_more old more mid new i t d inside is first second =
      let longer : take (i + 1) more ≡ take i more ++ t ∷ [] = take_more more i d inside ∙ ap (λ x. take i more ++ x ∷ []) is in
      subst (λ zs. Adds cmp old zs new) (sym longer) (record {
        ascends = second.ascends;
        members = λ y. (
          λ in_new. elim ((second.members y).0 in_new) [
            | inl in_mid ↦ elim ((first.members y).0 in_mid) [ inl in_old ↦ inl in_old | inr in_front ↦ inr (Contains-append_left (take i more) (t ∷ []) y in_front) ]
            | inr last ↦ inr (Contains-append_right (take i more) (t ∷ []) y last)
          ],
          λ why. elim why [
            | inl in_old ↦ (second.members y).1 (inl ((first.members y).1 (inl in_old)))
            | inr in_more ↦ elim (Contains-append_cases (take i more) (t ∷ []) y in_more) [
              | inl in_front ↦ (second.members y).1 (inl ((first.members y).1 (inr in_front)))
              | inr last ↦ (second.members y).1 (inr last)
            ]
          ],
        );
      })

-- what a test for `Equal` says
pub is_equal : (o : Ordering) → true ≡ is_eq o → o ≡ Equal
is_equal Less e = absurd (cc)
is_equal Equal e = refl
is_equal Greater e = absurd (cc)

pub is_not_equal : (o : Ordering) → false ≡ is_eq o → o ≢ Equal
is_not_equal Less e same = cc
is_not_equal Equal e same = cc
is_not_equal Greater e same = cc
