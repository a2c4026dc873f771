-- Where the powers of an integral stand in its image, and that the lowest of the images is so.
use Rattle.std.proofs.Common.{◌≡◌, ◌≢◌, ◌⊎◌, ℕ, zero, suc, ◌+◌, ◌-◌, ◌<◌, ◌≤◌, Bool, true, false, cond, not, ◌&&◌, ◌||◌, List, [], ◌∷◌, length, get_or, refl, sym, ap, ◌∙◌, subst, inl, inr, arith}
use Rattle.std.specs.Prelude.{ℤ, pos, ◌==◌, nat_eq, nat_le, map, Contains, slice_index}
use Rattle.std.specs.List.{best_of, list_all, list_any, position_or_len}
use Rattle.std.specs.Ordering.{is_lt, ordering_reverse}
use Rattle.std.specs.declared.cmp.Ordering.{Ordering}
use Rattle.std.specs.declared.cmp.Ordering.TheVariants.{Less, Equal, Greater}
use Rattle.std.proofs.lemmas.Bool.Decides.{nat_tests}
use Rattle.std.proofs.lemmas.List.{get_or_default, length-map}
use Rattle.ibp_algebra.specs.Laurent.{power_at}
use Rattle.ibp_base.proofs.Members.{in_cases, in_head, in_none, in_tail}
use Rattle.ibp_base.proofs.Tests.{both_true, not_false}
use Rattle.sector_lattice.specs.Sectors.{integral_cmp}
use Rattle.sector_lattice.specs.Orders.{integral_cmp_total}
use Rattle.family.specs.Name.{is_between}
use Rattle.family.specs.Permutation.{are_distinct, identity, is_permutation, numbers_from}
use Rattle.symmetry_fold.specs.Images.{image, images, is_lower, lowest, place_of, power_before}
use Rattle.symmetry_fold.proofs.ImageRanges.{numbers_from-length}
use Rattle.symmetry_fold.proofs.SymmetryTests.{as_many}

-- ---- powers

numbers_at : (first n k : ℕ) → k < n → get_or (numbers_from first n) k 0 ≡ first + k
numbers_at first zero k inside = absurd (omega (arith, inside))
numbers_at first (suc n) zero inside = omega arith
numbers_at first (suc n) (suc k) inside = numbers_at (first + 1) n k (omega (arith, inside)) ∙ (let e : first + 1 + k ≡ first + suc k = omega arith in e)

mapped_at : (f : ℕ → ℤ) (js : List ℕ) (k : ℕ) (d : ℤ) → k < length js → get_or (map f js) k d ≡ f (get_or js k 0)
mapped_at f [] k d inside = absurd (omega (arith, inside))
mapped_at f (j ∷ js) zero d inside = refl
mapped_at f (j ∷ js) (suc k) d inside = mapped_at f js k d (omega (arith, inside))

-- a number of a list with no two the same stands at its place
no_other : (x : ℕ) (xs : List ℕ) (k : ℕ) → list_any (nat_eq x) xs ≡ false → k < length xs → nat_eq (get_or xs k 0) x ≡ false
no_other x [] k none inside = absurd (omega (arith, inside))
no_other x (y ∷ ys) zero none inside = grind (arith, nat_tests, none)
no_other x (y ∷ ys) (suc k) none inside = no_other x ys k (later (nat_eq x y) (list_any (nat_eq x) ys) none) (omega (arith, inside))
  where
    later : (a b : Bool) → (a || b) ≡ false → b ≡ false
    later true b e = absurd (cc)
    later false b e = e

own_place : (xs : List ℕ) (k : ℕ) → are_distinct nat_eq xs ≡ true → k < length xs → place_of xs (get_or xs k 0) ≡ k
own_place [] k apart inside = absurd (omega (arith, inside))
own_place (x ∷ xs) zero apart inside = ap (λ b. cond (not b) (1 + place_of xs x) 0) (itself x)
  where
    itself : (n : ℕ) → nat_eq n n ≡ true
    itself n = grind (arith, nat_tests)
own_place (x ∷ xs) (suc k) apart inside =
    let sides = both_true (not (list_any (nat_eq x) xs)) (are_distinct nat_eq xs) apart in
    let other = no_other x xs k (not_false (list_any (nat_eq x) xs) sides.0) (omega (arith, inside)) in
    ap (λ b. cond (not b) (1 + place_of xs (get_or xs k 0)) 0) other ∙ ap (λ p. 1 + p) (own_place xs k sides.1 (omega (arith, inside))) ∙ (let e : 1 + k ≡ suc k = omega arith in e)

within : (n k : ℕ) (xs : List ℕ) → list_all (is_between 1 n) xs ≡ true → k < length xs → (1 ≤ get_or xs k 0) × (get_or xs k 0 ≤ n)
within n k [] all inside = absurd (omega (arith, inside))
within n zero (x ∷ xs) all inside =
    let sides = both_true (is_between 1 n x) (list_all (is_between 1 n) xs) all in
    let both = both_true (nat_le 1 x) (nat_le x n) sides.0 in
    (grind (arith, nat_tests, both.0), grind (arith, nat_tests, both.1))
within n (suc k) (x ∷ xs) all inside = within n k xs (both_true (is_between 1 n x) (list_all (is_between 1 n) xs) all).1 (omega (arith, inside))

pub power_moves : (sigma : List ℕ) (powers : List ℤ) (i : ℕ) → is_permutation (length powers) sigma ≡ true → i < length powers → power_at (image sigma powers) (slice_index sigma i - 1) ≡ power_at powers i
power_moves sigma powers i h inside =
    let n : ℕ = length powers in
    let many : length sigma ≡ n = as_many n sigma h in
    let sides = both_true (length sigma == n) (list_all (is_between 1 n) sigma && are_distinct nat_eq sigma) h in
    let both = both_true (list_all (is_between 1 n) sigma) (are_distinct nat_eq sigma) sides.1 in
    let j : ℕ = slice_index sigma i in
    let here : i < length sigma = omega (arith, many, inside) in
    let range = within n i sigma both.0 here in
    let counted : length (identity n) ≡ n = numbers_from-length 1 n in
    let low : j - 1 < length (identity n) = omega (arith, counted, range.0, range.1) in
    let number : get_or (identity n) (j - 1) 0 ≡ j = numbers_at 1 n (j - 1) (omega (arith, range.0, range.1)) ∙ (let e : 1 + (j - 1) ≡ j = omega (arith, range.0) in e) in
    mapped_at (power_before sigma powers) (identity n) (j - 1) (pos 0) low
    ∙ ap (power_before sigma powers) number
    ∙ ap (power_at powers) (own_place sigma i both.1 here)

-- ---- the lowest

either_is : (beats : Bool) (x b : List ℤ) → (cond beats x b ≡ x) ⊎ (cond beats x b ≡ b)
either_is true x b = inl refl
either_is false x b = inr refl

best_among : (b : List ℤ) (xs : List (List ℤ)) → Contains (b ∷ xs) (best_of is_lower b xs)
best_among b [] = in_head b [] b refl
best_among b (x ∷ xs) =
    let next : List ℤ = cond (is_lower x b) x b in
    elim (in_cases next xs (best_of is_lower next xs) (best_among next xs)) [
      | inl same ↦ elim (either_is (is_lower x b) x b) [
        | inl first ↦ in_tail b (x ∷ xs) (best_of is_lower next xs) (in_head x xs (best_of is_lower next xs) (sym first ∙ same))
        | inr old ↦ in_head b (x ∷ xs) (best_of is_lower next xs) (sym old ∙ same)
      ]
      | inr later ↦ in_tail b (x ∷ xs) (best_of is_lower next xs) (in_tail x xs (best_of is_lower next xs) later)
    ]

pub lowest_among : (entries : List (List ℕ)) (powers : List ℤ) → Contains (powers ∷ images entries powers) (lowest entries powers)
lowest_among entries powers = best_among powers (images entries powers)

abbrev IsAtLeast : List ℤ → List ℤ → Type 0
IsAtLeast a b = integral_cmp a b ≢ Less

own_reverse : (r : Ordering) → r ≡ ordering_reverse r → r ≢ Less
own_reverse Less e f = absurd (cc)
own_reverse Equal e f = absurd (cc)
own_reverse Greater e f = absurd (cc)

at_least_itself : (a : List ℤ) → IsAtLeast a a
at_least_itself a = own_reverse (integral_cmp a a) (integral_cmp_total.antisymm a a)

lesser : (a b : List ℤ) → integral_cmp a b ≡ Less → integral_cmp b a ≡ Greater
lesser a b e = integral_cmp_total.antisymm b a ∙ ap ordering_reverse e

greater : (a b : List ℤ) → integral_cmp a b ≡ Greater → integral_cmp b a ≡ Less
greater a b e = integral_cmp_total.antisymm b a ∙ ap ordering_reverse e

at_least_trans : (a b c : List ℤ) → IsAtLeast a b → IsAtLeast b c → IsAtLeast a c
at_least_trans a b c one two less = by (integral_cmp a b) refl
  where
    by : (r : Ordering) → integral_cmp a b ≡ r → ⊥
    by Less e = one e
    by Equal e = two (sym (integral_cmp_total.congr a b c e) ∙ less)
    by Greater e = two (integral_cmp_total.trans b a c (greater a b e) less)

record Next (x b next : List ℤ) : Type 0 where
  old : IsAtLeast b next
  new : IsAtLeast x next

next_is : (x b : List ℤ) → Next x b (cond (is_lower x b) x b)
next_is x b = by (integral_cmp x b) refl
  where
    by : (r : Ordering) → integral_cmp x b ≡ r → Next x b (cond (is_lt r) x b)
    by Less e = record { old = λ less. let more : integral_cmp b x ≡ Greater = lesser x b e in absurd (cc); new = at_least_itself x }
    by Equal e = record { old = at_least_itself b; new = λ less. absurd (cc) }
    by Greater e = record { old = at_least_itself b; new = λ less. absurd (cc) }

best_least : (b : List ℤ) (xs : List (List ℤ)) (other : List ℤ) → Contains (b ∷ xs) other → IsAtLeast other (best_of is_lower b xs)
best_least b [] other inside = elim (in_cases b [] other inside) [
  | inl same ↦ subst (λ (o : List ℤ). IsAtLeast o b) same (at_least_itself b)
  | inr none ↦ absurd (in_none other none)
]
best_least b (x ∷ xs) other inside =
    let next : List ℤ = cond (is_lower x b) x b in
    let is = next_is x b in
    let rest : IsAtLeast next (best_of is_lower next xs) = best_least next xs next (in_head next xs next refl) in
    elim (in_cases b (x ∷ xs) other inside) [
      | inl same ↦ subst (λ (o : List ℤ). IsAtLeast o (best_of is_lower next xs)) same (at_least_trans b next (best_of is_lower next xs) is.old rest)
      | inr later ↦ elim (in_cases x xs other later) [
        | inl first ↦ subst (λ (o : List ℤ). IsAtLeast o (best_of is_lower next xs)) first (at_least_trans x next (best_of is_lower next xs) is.new rest)
        | inr among ↦ best_least next xs other (in_tail next xs other among)
      ]
    ]

pub lowest_least : (entries : List (List ℕ)) (powers other : List ℤ) → Contains (powers ∷ images entries powers) other → integral_cmp other (lowest entries powers) ≢ Less
lowest_least entries powers other inside = best_least powers (images entries powers) other inside
