-- Lists that strictly ascend in an order.
use Rattle.std.proofs.Common.{◌≡◌, ◌≢◌, List, [], ◌∷◌, ◌++◌, refl, sym, ◌∙◌, ap, subst, inl, inr}
use Rattle.std.specs.Prelude.{Contains, map}
use Rattle.std.specs.declared.cmp.Ordering.{Ordering}
use Rattle.std.specs.declared.cmp.Ordering.TheVariants.{Less, Equal}
use Rattle.std.specs.Cmp.{IsTotalOrder}
use Rattle.std.specs.List.Sorted.{IsStrictlySortedBy}
use Rattle.std.proofs.lemmas.Cmp.{tied_itself}
use Rattle.std.proofs.lemmas.List.Elements.{Contains-append_cases}
use Rattle.std.proofs.lemmas.Map.Keys.{sorted_head, sorted_tail}
use Rattle.ibp_base.proofs.Members.{in_cases, in_head, in_tail, in_none, from_map, each_by_recursion, by_recursion_each}

pub after_first : {X : Type 0} (cmp : X → X → Ordering) (x : X) (xs : List X) (y : X) → IsStrictlySortedBy cmp (x ∷ xs) → Contains xs y → cmp x y ≡ Less
after_first cmp x xs y up inside = by_recursion_each (λ z. cmp x z ≡ Less) xs y (sorted_head cmp x xs up) inside

pub sorted_none : {X : Type 0} (cmp : X → X → Ordering) → IsStrictlySortedBy cmp []
unfolding IsStrictlySortedBy
sorted_none cmp = tt

pub sorted_cons : {X : Type 0} (cmp : X → X → Ordering) (x : X) (xs : List X) → ((y : X) → Contains xs y → cmp x y ≡ Less) → IsStrictlySortedBy cmp xs → IsStrictlySortedBy cmp (x ∷ xs)
unfolding IsStrictlySortedBy
sorted_cons cmp x xs h up = (each_by_recursion (λ y. cmp x y ≡ Less) xs h, up)

pub sorted_append : {X : Type 0} (cmp : X → X → Ordering) (xs ys : List X) → IsStrictlySortedBy cmp xs → IsStrictlySortedBy cmp ys → ((x y : X) → Contains xs x → Contains ys y → cmp x y ≡ Less) → IsStrictlySortedBy cmp (xs ++ ys)
sorted_append cmp [] ys up vp h = vp
sorted_append {X} cmp (x ∷ xs) ys up vp h =
    sorted_cons cmp x (xs ++ ys)
    (λ y inside. elim (Contains-append_cases xs ys y inside) [
      | inl front ↦ after_first cmp x xs y up front
      | inr back ↦ h x y (in_head x xs x refl) back
    ])
    (sorted_append cmp xs ys (sorted_tail cmp x xs up) vp (λ z y inside other. h z y (in_tail x xs z inside) other))

pub sorted_map : {X Y : Type 0} (cmp : X → X → Ordering) (order : Y → Y → Ordering) (f : X → Y) (xs : List X) → ((x y : X) → cmp x y ≡ Less → order (f x) (f y) ≡ Less) → IsStrictlySortedBy cmp xs → IsStrictlySortedBy order (map f xs)
sorted_map cmp order f [] keeps up = sorted_none order
sorted_map {X} {Y} cmp order f (x ∷ xs) keeps up =
    sorted_cons order (f x) (map f xs)
    (λ y inside. let found : (z : X) × (Contains xs z × (f z ≡ y)) = from_map f xs y inside in subst (λ w. order (f x) w ≡ Less) found.1.1 (keeps x found.0 (after_first cmp x xs found.0 up found.1.0)))
    (sorted_map cmp order f xs keeps (sorted_tail cmp x xs up))

pub sorted_refined : {X : Type 0} (cmp order : X → X → Ordering) (xs : List X) → ((x y : X) → Contains xs x → Contains xs y → cmp x y ≡ Less → order x y ≡ Less) → IsStrictlySortedBy cmp xs → IsStrictlySortedBy order xs
sorted_refined cmp order [] keeps up = sorted_none order
sorted_refined cmp order (x ∷ xs) keeps up =
    sorted_cons order x xs
    (λ y inside. keeps x y (in_head x xs x refl) (in_tail x xs y inside) (after_first cmp x xs y up inside))
    (sorted_refined cmp order xs (λ z y inside other. keeps z y (in_tail x xs z inside) (in_tail x xs y other)) (sorted_tail cmp x xs up))

module _ {K : Type 0} (cmp : K → K → Ordering) (total : IsTotalOrder cmp) where
  pub not_below_itself : (x y : K) → cmp x y ≡ Less → x ≢ y
  not_below_itself x y below same =
      let tied : cmp x y ≡ Equal = ap (λ z. cmp x z) (sym same) ∙ tied_itself total x in
      absurd (cc)

  not_both_ways : (x y : K) → cmp x y ≡ Less → cmp y x ≡ Less → ⊥
  not_both_ways x y below above = not_below_itself x x (total.trans x y x below above) refl

  first_is : (x y : K) (xs ys : List K) → IsStrictlySortedBy cmp (x ∷ xs) → IsStrictlySortedBy cmp (y ∷ ys) → Contains (y ∷ ys) x → Contains (x ∷ xs) y → x ≡ y
  first_is x y xs ys up vp h k =
      elim (in_cases y ys x h) [
        | inl same ↦ sym same
        | inr behind ↦ elim (in_cases x xs y k) [
          | inl same ↦ same
          | inr after ↦ absurd (not_both_ways x y (after_first cmp x xs y up after) (after_first cmp y ys x vp behind))
        ]
      ]

  rest_in : (x y : K) (xs ys : List K) (z : K) → x ≡ y → IsStrictlySortedBy cmp (x ∷ xs) → ((z : K) → Contains (x ∷ xs) z → Contains (y ∷ ys) z) → Contains xs z → Contains ys z
  rest_in x y xs ys z same up all inside =
      elim (in_cases y ys z (all z (in_tail x xs z inside))) [
        | inl first ↦ absurd (not_below_itself x z (after_first cmp x xs z up inside) (same ∙ first))
        | inr rest ↦ rest
      ]

  -- two lists that strictly ascend and contain the same are one
  pub same_members : (xs ys : List K) → IsStrictlySortedBy cmp xs → IsStrictlySortedBy cmp ys → ((z : K) → Contains xs z → Contains ys z) → ((z : K) → Contains ys z → Contains xs z) → xs ≡ ys
  same_members [] [] up vp h k = refl
  same_members [] (y ∷ ys) up vp h k = absurd (in_none y (k y (in_head y ys y refl)))
  same_members (x ∷ xs) [] up vp h k = absurd (in_none x (h x (in_head x xs x refl)))
  same_members (x ∷ xs) (y ∷ ys) up vp h k =
      let first : x ≡ y = first_is x y xs ys up vp (h x (in_head x xs x refl)) (k y (in_head y ys y refl)) in
      let rest : xs ≡ ys = same_members xs ys (sorted_tail cmp x xs up) (sorted_tail cmp y ys vp) (λ z. rest_in x y xs ys z first up h) (λ z. rest_in y x ys xs z (sym first) vp k) in
      cc
