-- The first occurrences of a list: its members and no others, each once, in the order in which it first has them.
-- A loop that puts each integral into a set keeps them.
use Rattle.std.proofs.Common.{◌≡◌, ℕ, zero, suc, ◌+◌, ◌<◌, ◌≤◌, ◌⊎◌, inl, inr, Bool, true, false, not, ◌&&◌, ◌||◌, cond, List, [], ◌∷◌, ◌++◌, length, map, filter, Result, Ok, Err, refl, sym, ap, ◌∙◌, arith, append_assoc}
use Rattle.std.specs.Prelude.{ℤ, ◌↔◌, Contains}
use Rattle.std.specs.declared.cmp.Ordering.TheVariants.{Less}
use Rattle.std.specs.List.{AllByRecursion, IsDistinct, list_any}
use Rattle.std.specs.List.Sorted.{IsStrictlySortedBy}
use Rattle.std.specs.Bool.{Decides}
use Rattle.std.specs.Cmp.{signed_Decides, nat_cmp_is}
use Rattle.std.specs.Cmp.Lexicographic.{pointwise_decides, lists_equiv}
use Rattle.std.specs.Cmp.{int_eq_equiv}
use Rattle.std.specs.Ordering.{nat_cmp, eq_by_cmp}
use Rattle.std.proofs.lemmas.Bool.Decides.{same_from_decides}
use Rattle.std.proofs.lemmas.List.{append-nil}
use Rattle.std.proofs.lemmas.List.Folds.{list_any-append}
use Rattle.indexmap.specs.IndexSet.{insert_key, insert_all}
use Rattle.ibp_algebra.specs.Laurent.{same_powers}
use Rattle.sector_lattice.specs.Sectors.{integral_cmp}
use Rattle.sector_lattice.specs.Orders.{integrals_decide}
use Rattle.family_file.specs.declared.fault.FileFault.{FileFault}
use Rattle.family_file.specs.Reading.{◌>>=◌}
use Rattle.family_file.specs.Accumulated.{into}
use Rattle.family_file.specs.Arrays.{first_occurrences, first_place}

powers_decide : (s t : List ℤ) → Decides (same_powers s t) (s ≡ t)
powers_decide = pointwise_decides signed_Decides

same_itself : (t : List ℤ) → same_powers t t ≡ true
same_itself t = (powers_decide t t).1 refl

same_both_ways : (s t : List ℤ) → same_powers s t ≡ same_powers t s
same_both_ways s t = (lists_equiv int_eq_equiv).symm s t

abbrev differs : List ℤ → List ℤ → Bool
differs t other = not (same_powers t other)

-- ---- what a filter keeps

all_filter : {X : Type 0} (P : X → Type 0) (p : X → Bool) (xs : List X) → AllByRecursion P xs → AllByRecursion P (filter p xs)
all_filter P p [] h = tt
all_filter P p (x ∷ xs) h =
    elim (p x) as (λ b. AllByRecursion P (cond b (x ∷ filter p xs) (filter p xs))) [
      | true ↦ (h.0, all_filter P p xs h.1)
      | false ↦ all_filter P p xs h.1
    ]

distinct_filter : {X : Type 0} (same : X → X → Bool) (p : X → Bool) (xs : List X) → IsDistinct same xs → IsDistinct same (filter p xs)
unfolding IsDistinct
distinct_filter same p [] h = tt
distinct_filter same p (x ∷ xs) h =
    elim (p x) as (λ b. IsDistinct same (cond b (x ∷ filter p xs) (filter p xs))) [
      | true ↦ (all_filter (λ y. same x y ≡ false) p xs h.0, distinct_filter same p xs h.1)
      | false ↦ distinct_filter same p xs h.1
    ]

filter_length : {X : Type 0} (p : X → Bool) (xs : List X) → length (filter p xs) ≤ length xs
filter_length p [] = omega arith
filter_length p (x ∷ xs) =
    elim (p x) as (λ b. length (cond b (x ∷ filter p xs) (filter p xs)) ≤ suc (length xs)) [
      | true ↦ omega (arith, filter_length p xs)
      | false ↦ omega (arith, filter_length p xs)
    ]

in_cons : {X : Type 0} (y : X) (ys : List X) (x : X) → (y ≡ x) ⊎ Contains ys x → Contains (y ∷ ys) x
in_cons y ys x (inl same) = (0, omega arith, same)
in_cons y ys x (inr h) = (suc h.0, omega (arith, h.1), h.2)

cons_cases : {X : Type 0} (y : X) (ys : List X) (x : X) → Contains (y ∷ ys) x → (y ≡ x) ⊎ Contains ys x
cons_cases y ys x (zero, inside, same) = inl same
cons_cases y ys x (suc k, inside, same) = inr (k, omega (arith, inside), same)

in_filter : {X : Type 0} (p : X → Bool) (xs : List X) (x : X) → Contains (filter p xs) x → Contains xs x
in_filter p [] x h = h
in_filter p (y ∷ ys) x h =
    elim (p y) as (λ b. Contains (cond b (y ∷ filter p ys) (filter p ys)) x → Contains (y ∷ ys) x) [
      | true ↦ λ k. elim (cons_cases y (filter p ys) x k) [ inl same ↦ in_cons y ys x (inl same) | inr later ↦ in_cons y ys x (inr (in_filter p ys x later)) ]
      | false ↦ λ k. in_cons y ys x (inr (in_filter p ys x k))
    ] h

passes_here : {X : Type 0} (p : X → Bool) (y x : X) → p y ≡ false → p x ≡ true → y ≡ x → ⊥
passes_here p y x fails passes same = cc

kept_by_filter : {X : Type 0} (p : X → Bool) (xs : List X) (x : X) → p x ≡ true → Contains xs x → Contains (filter p xs) x
kept_by_filter p [] x passes h = h
kept_by_filter p (y ∷ ys) x passes h =
    elim (p y) as (λ b. p y ≡ b → Contains (cond b (y ∷ filter p ys) (filter p ys)) x) [
      | true ↦ λ e. elim (cons_cases y ys x h) [ inl same ↦ in_cons y (filter p ys) x (inl same) | inr later ↦ in_cons y (filter p ys) x (inr (kept_by_filter p ys x passes later)) ]
      | false ↦ λ e. elim (cons_cases y ys x h) [ inl same ↦ absurd (passes_here p y x e passes same) | inr later ↦ kept_by_filter p ys x passes later ]
    ] refl

both_filters : {X : Type 0} (p q : X → Bool) (xs : List X) → filter p (filter q xs) ≡ filter (λ x. p x && q x) xs
both_filters p q [] = refl
both_filters p q (x ∷ xs) =
    elim (q x) as (λ b. filter p (cond b (x ∷ filter q xs) (filter q xs)) ≡ cond (p x && b) (x ∷ filter (λ y. p y && q y) xs) (filter (λ y. p y && q y) xs)) [
      | true ↦ elim (p x) as (λ a. cond a (x ∷ filter p (filter q xs)) (filter p (filter q xs)) ≡ cond (a && true) (x ∷ filter (λ y. p y && q y) xs) (filter (λ y. p y && q y) xs)) [
        | true ↦ ap (λ rest. x ∷ rest) (both_filters p q xs)
        | false ↦ both_filters p q xs
      ]
      | false ↦ elim (p x) as (λ a. filter p (filter q xs) ≡ cond (a && false) (x ∷ filter (λ y. p y && q y) xs) (filter (λ y. p y && q y) xs)) [
        | true ↦ both_filters p q xs
        | false ↦ both_filters p q xs
      ]
    ]

same_filter : {X : Type 0} (p q : X → Bool) (xs : List X) → ((x : X) → p x ≡ q x) → filter p xs ≡ filter q xs
same_filter p q xs same = λ i. filter (λ x. same x i) xs

filter_all : {X : Type 0} (xs : List X) → filter (λ x. true) xs ≡ xs
filter_all [] = refl
filter_all (x ∷ xs) = ap (λ rest. x ∷ rest) (filter_all xs)

-- ---- members, each once

all_differ : (t : List ℤ) (ts : List (List ℤ)) → AllByRecursion (λ other. same_powers t other ≡ false) (filter (differs t) ts)
all_differ t [] = tt
all_differ t (y ∷ ys) =
    elim (same_powers t y) as (λ b. same_powers t y ≡ b → AllByRecursion (λ other. same_powers t other ≡ false) (cond (not b) (y ∷ filter (differs t) ys) (filter (differs t) ys))) [
      | true ↦ λ e. all_differ t ys
      | false ↦ λ e. (e, all_differ t ys)
    ] refl

pub first_occurrences_each : (P : List ℤ → Type 0) (ts : List (List ℤ)) → AllByRecursion P ts → AllByRecursion P (first_occurrences ts)
first_occurrences_each P [] h = tt
first_occurrences_each P (t ∷ ts) h = (h.0, all_filter P (differs t) (first_occurrences ts) (first_occurrences_each P ts h.1))

pub first_occurrences_length : (ts : List (List ℤ)) → length (first_occurrences ts) ≤ length ts
first_occurrences_length [] = omega arith
first_occurrences_length (t ∷ ts) = omega (arith, filter_length (differs t) (first_occurrences ts), first_occurrences_length ts)

pub first_occurrences_distinct : (ts : List (List ℤ)) → IsDistinct same_powers (first_occurrences ts)
unfolding IsDistinct
first_occurrences_distinct [] = tt
first_occurrences_distinct (t ∷ ts) = (all_differ t (first_occurrences ts), distinct_filter same_powers (differs t) (first_occurrences ts) (first_occurrences_distinct ts))

occurs : (ts : List (List ℤ)) (x : List ℤ) → Contains (first_occurrences ts) x → Contains ts x
occurs [] x h = h
occurs (t ∷ ts) x h = elim (cons_cases t (filter (differs t) (first_occurrences ts)) x h) [
  | inl same ↦ in_cons t ts x (inl same)
  | inr later ↦ in_cons t ts x (inr (occurs ts x (in_filter (differs t) (first_occurrences ts) x later)))
]

first_occurs : (ts : List (List ℤ)) (x : List ℤ) → Contains ts x → Contains (first_occurrences ts) x
first_occurs [] x h = h
first_occurs (t ∷ ts) x h = elim (cons_cases t ts x h) [
  | inl same ↦ in_cons t (filter (differs t) (first_occurrences ts)) x (inl same)
  | inr later ↦ elim (same_powers t x) as (λ b. same_powers t x ≡ b → Contains (first_occurrences (t ∷ ts)) x) [
    | true ↦ λ e. in_cons t (filter (differs t) (first_occurrences ts)) x (inl ((powers_decide t x).0 e))
    | false ↦ λ e. in_cons t (filter (differs t) (first_occurrences ts)) x (inr (kept_by_filter (differs t) (first_occurrences ts) x (ap not e) (first_occurs ts x later)))
  ] refl
]

pub first_occurrences_members : (ts : List (List ℤ)) (x : List ℤ) → Contains (first_occurrences ts) x ↔ Contains ts x
first_occurrences_members ts x = (occurs ts x, first_occurs ts x)

-- ---- in the order of their first places

abbrev Rises : (List ℤ → ℕ) → List (List ℤ) → Type 0
Rises f [] = Unit {0}
Rises f (x ∷ xs) = AllByRecursion (λ y. f x < f y) xs × Rises f xs

rises_filter : (f : List ℤ → ℕ) (p : List ℤ → Bool) (xs : List (List ℤ)) → Rises f xs → Rises f (filter p xs)
rises_filter f p [] h = tt
rises_filter f p (x ∷ xs) h =
    elim (p x) as (λ b. Rises f (cond b (x ∷ filter p xs) (filter p xs))) [
      | true ↦ (all_filter (λ y. f x < f y) p xs h.0, rises_filter f p xs h.1)
      | false ↦ rises_filter f p xs h.1
    ]

place_at_first : (t : List ℤ) (ts : List (List ℤ)) → first_place (t ∷ ts) t ≡ 0
place_at_first t ts = ap (λ b. cond (not b) (1 + first_place ts t) 0) (same_itself t)

place_later : (t : List ℤ) (ts : List (List ℤ)) (x : List ℤ) → same_powers t x ≡ false → first_place (t ∷ ts) x ≡ 1 + first_place ts x
place_later t ts x e = ap (λ b. cond (not b) (1 + first_place ts x) 0) (same_both_ways x t ∙ e)

above_first : (t : List ℤ) (ts xs : List (List ℤ)) → AllByRecursion (λ x. same_powers t x ≡ false) xs → AllByRecursion (λ x. first_place (t ∷ ts) t < first_place (t ∷ ts) x) xs
above_first t ts [] h = tt
above_first t ts (x ∷ xs) h =
    let low = place_at_first t ts in
    let high = place_later t ts x h.0 in
    (omega (arith, low, high), above_first t ts xs h.1)

above_later : (t : List ℤ) (ts : List (List ℤ)) (x : List ℤ) (xs : List (List ℤ)) → same_powers t x ≡ false → AllByRecursion (λ y. same_powers t y ≡ false) xs → AllByRecursion (λ y. first_place ts x < first_place ts y) xs
    → AllByRecursion (λ y. first_place (t ∷ ts) x < first_place (t ∷ ts) y) xs
above_later t ts x [] e h k = tt
above_later t ts x (y ∷ ys) e h k =
    let low = place_later t ts x e in
    let high = place_later t ts y h.0 in
    (omega (arith, low, high, k.0), above_later t ts x ys e h.1 k.1)

rises_later : (t : List ℤ) (ts xs : List (List ℤ)) → AllByRecursion (λ x. same_powers t x ≡ false) xs → Rises (first_place ts) xs → Rises (first_place (t ∷ ts)) xs
rises_later t ts [] h k = tt
rises_later t ts (x ∷ xs) h k = (above_later t ts x xs h.0 h.1 k.0, rises_later t ts xs h.1 k.1)

places_rise : (ts : List (List ℤ)) → Rises (first_place ts) (first_occurrences ts)
places_rise [] = tt
places_rise (t ∷ ts) =
    let others = filter (differs t) (first_occurrences ts) in
    (above_first t ts others (all_differ t (first_occurrences ts)), rises_later t ts others (all_differ t (first_occurrences ts)) (rises_filter (first_place ts) (differs t) (first_occurrences ts) (places_rise ts)))

all_less : (f : List ℤ → ℕ) (x : List ℤ) (xs : List (List ℤ)) → AllByRecursion (λ y. f x < f y) xs → AllByRecursion (λ n. nat_cmp (f x) n ≡ Less) (map f xs)
all_less f x [] h = tt
all_less f x (y ∷ ys) h = (sym (nat_cmp_is (f x) (f y) Less h.0), all_less f x ys h.1)

sorted_from_rises : (f : List ℤ → ℕ) (xs : List (List ℤ)) → Rises f xs → IsStrictlySortedBy nat_cmp (map f xs)
unfolding IsStrictlySortedBy
sorted_from_rises f [] h = tt
sorted_from_rises f (x ∷ xs) h = (all_less f x xs h.0, sorted_from_rises f xs h.1)

pub first_occurrences_order : (ts : List (List ℤ)) → IsStrictlySortedBy nat_cmp (map (first_place ts) (first_occurrences ts))
first_occurrences_order ts = sorted_from_rises (first_place ts) (first_occurrences ts) (places_rise ts)

-- ---- the loop that puts each into a set

abbrev pub same_integral : List ℤ → List ℤ → Bool
same_integral = eq_by_cmp integral_cmp

integral_is : (s t : List ℤ) → same_integral s t ≡ same_powers s t
integral_is s t = same_from_decides (same_integral s t) (same_powers s t) (integrals_decide s t) (powers_decide s t)

abbrev unseen : List (List ℤ) → List ℤ → Bool
unseen seen t = not (list_any (same_powers t) seen)

and_true : (a : Bool) → (a && true) ≡ a
and_true true = refl
and_true false = refl

and_false : (a : Bool) → (a && false) ≡ false
and_false true = refl
and_false false = refl

already : (seen : List (List ℤ)) (t : List ℤ) → list_any (same_powers t) seen ≡ true → (x : List ℤ) → (unseen seen x && differs t x) ≡ unseen seen x
already seen t found x =
    elim (same_powers t x) as (λ b. same_powers t x ≡ b → (unseen seen x && not b) ≡ unseen seen x) [
      | true ↦ λ e. and_false (unseen seen x) ∙ sym (ap not (ap (λ y. list_any (same_powers y) seen) (sym ((powers_decide t x).0 e)) ∙ found))
      | false ↦ λ e. and_true (unseen seen x)
    ] refl

neither : (a b : Bool) → (not a && not b) ≡ not (a || (b || false))
neither true b = refl
neither false true = refl
neither false false = refl

also_this : (seen : List (List ℤ)) (t x : List ℤ) → (unseen seen x && differs t x) ≡ unseen (seen ++ t ∷ []) x
also_this seen t x =
    ap (λ b. unseen seen x && not b) (same_both_ways t x)
    ∙ neither (list_any (same_powers x) seen) (same_powers x t)
    ∙ ap not (sym (list_any-append (same_powers x) seen (t ∷ [])))

one_more : (seen : List (List ℤ)) (t : List ℤ) (rest : List (List ℤ)) → insert_key same_powers seen t ++ filter (unseen (insert_key same_powers seen t)) rest ≡ seen ++ filter (unseen seen) (t ∷ filter (differs t) rest)
one_more seen t rest =
    elim (list_any (same_powers t) seen) as (λ b. list_any (same_powers t) seen ≡ b
    → cond b seen (seen ++ t ∷ []) ++ filter (unseen (cond b seen (seen ++ t ∷ []))) rest ≡ seen ++ cond (not b) (t ∷ filter (unseen seen) (filter (differs t) rest)) (filter (unseen seen) (filter (differs t) rest))) [
      | true ↦ λ e. ap (λ ts. seen ++ ts) (sym (both_filters (unseen seen) (differs t) rest ∙ same_filter _ _ rest (already seen t e)))
      | false ↦ λ e. append_assoc seen (t ∷ []) (filter (unseen (seen ++ t ∷ [])) rest) ∙ ap (λ ts. seen ++ t ∷ ts) (sym (both_filters (unseen seen) (differs t) rest ∙ same_filter _ _ rest (also_this seen t)))
    ] refl

put_after : (seen ts : List (List ℤ)) → insert_all same_powers seen ts ≡ seen ++ filter (unseen seen) (first_occurrences ts)
put_after seen [] = sym (append-nil seen)
put_after seen (t ∷ ts) = put_after (insert_key same_powers seen t) ts ∙ one_more seen t (first_occurrences ts)

put_all : (ts : List (List ℤ)) → insert_all same_integral [] ts ≡ first_occurrences ts
put_all ts = ap (λ same. insert_all same [] ts) (λ i s t. integral_is s t i) ∙ put_after [] ts ∙ filter_all (first_occurrences ts)

-- what a set holds after the integrals that are read
pub put_in_turn : (read : Result (List (List ℤ)) FileFault) → into (insert_all same_integral) [] read ≡ (read >>= λ ts. Ok (first_occurrences ts))
put_in_turn (Ok ts) = ap Ok (put_all ts)
put_in_turn (Err fault) = refl
