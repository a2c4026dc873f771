-- The layers hold exactly the integrals of a sector with so many dots and so much rank, in order, and are counted by binomials.
use Rattle.std.proofs.Common.{◌≡◌, inl, inr, ℕ, zero, suc, ◌+◌, ◌-◌, ◌*◌, ◌/◌, ◌<◌, ◌≤◌, ◌^◌, Bool, true, false, cond, List, [], ◌∷◌, length, refl, sym, ◌∙◌, ap, subst, arith}
use Rattle.std.specs.Prelude.{ℤ, map, unsigned_abs, count_ones, Contains, ◌==◌}
use Rattle.std.specs.Ordering.{nat_cmp, ordering_then}
use Rattle.std.specs.declared.cmp.Ordering.{Ordering}
use Rattle.std.specs.declared.cmp.Ordering.TheVariants.{Less, Equal}
use Rattle.std.specs.Cmp.Lexicographic.{slice_cmp}
use Rattle.std.specs.List.Sorted.{IsStrictlySortedBy}
use Rattle.std.specs.Int.Count.{ones_step, ones-le}
use Rattle.std.proofs.lemmas.Bool.Decides.{nat_tests}
use Rattle.std.proofs.lemmas.List.{length-map}
use Rattle.std.proofs.lemmas.Nat.{ones_le_self}
use Rattle.ibp_base.proofs.Members.{in_cases, in_head, in_none, from_map, in_map}
use Rattle.ibp_base.proofs.Ascending.{sorted_map, sorted_cons, sorted_none}
use Rattle.sector_lattice.specs.Sectors.{sector_of, dots_of, rank_of, is_positive}
use Rattle.sector_lattice.specs.Layers.{is_member, power_of, dots_left, rank_left, to_spend, layer}
use Rattle.sector_lattice.proofs.Counting.{sum_below, sum_below-same, sum_below-scale, spread, spread_more}
use Rattle.sector_lattice.proofs.Digits.{spent_in, power_back, positive_power, size_of_power, dots_cons, rank_cons, halves, joined_halves, half_below}
use Rattle.sector_lattice.proofs.Joining.{from_joined, in_joined, joined_sorted, length-joined}

pub record IsInLayer (n sector dots rank : ℕ) (powers : List ℤ) : Type 0 where
  pub of_n : length powers ≡ n
  pub of_sector : sector_of powers ≡ sector
  pub of_dots : dots_of powers ≡ dots
  pub of_rank : rank_of powers ≡ rank

-- one power more
pub layer_cons : (b : Bool) (n sector dots rank spent : ℕ) (powers : List ℤ) → is_member sector ≡ b → spent < to_spend b dots rank + 1 →
    IsInLayer n (sector / 2) (dots_left b dots spent) (rank_left b rank spent) powers → IsInLayer (suc n) sector dots rank (power_of b spent ∷ powers)
unfolding sector_of to_spend dots_left rank_left
layer_cons true n sector dots rank spent powers kind few h =
    let yes : is_positive (power_of true spent) ≡ true = positive_power true spent in
    let size : unsigned_abs (power_of true spent) ≡ suc spent = size_of_power true spent in
    let long : length powers ≡ n = h.of_n in
    let digit : ◌≡◌ {A = ℕ} (cond (is_positive (power_of true spent)) 1 0) 1 = ap (λ b. cond b 1 0) yes in
    let whole : sector ≡ 1 + 2 * (sector / 2) = joined_halves sector ∙ ap (λ b. cond b 1 0 + 2 * (sector / 2)) kind in
    let half : sector_of powers ≡ sector / 2 = h.of_sector in
    let d : dots_of (power_of true spent ∷ powers) ≡ (unsigned_abs (power_of true spent) - 1) + dots_of powers = dots_cons (power_of true spent) powers ∙ ap (λ b. cond b (unsigned_abs (power_of true spent) - 1) 0 + dots_of powers) yes in
    let r : rank_of (power_of true spent ∷ powers) ≡ 0 + rank_of powers = rank_cons (power_of true spent) powers ∙ ap (λ b. cond b 0 (unsigned_abs (power_of true spent)) + rank_of powers) yes in
    let dots_rest : dots_of powers ≡ dots - spent = h.of_dots in
    let rank_rest : rank_of powers ≡ rank = h.of_rank in
    record { of_n = omega arith; of_sector = omega arith; of_dots = omega arith; of_rank = omega arith }
layer_cons false n sector dots rank spent powers kind few h =
    let no : is_positive (power_of false spent) ≡ false = positive_power false spent in
    let size : unsigned_abs (power_of false spent) ≡ spent = size_of_power false spent in
    let long : length powers ≡ n = h.of_n in
    let digit : ◌≡◌ {A = ℕ} (cond (is_positive (power_of false spent)) 1 0) 0 = ap (λ b. cond b 1 0) no in
    let whole : sector ≡ 0 + 2 * (sector / 2) = joined_halves sector ∙ ap (λ b. cond b 1 0 + 2 * (sector / 2)) kind in
    let half : sector_of powers ≡ sector / 2 = h.of_sector in
    let d : dots_of (power_of false spent ∷ powers) ≡ 0 + dots_of powers = dots_cons (power_of false spent) powers ∙ ap (λ b. cond b (unsigned_abs (power_of false spent) - 1) 0 + dots_of powers) no in
    let r : rank_of (power_of false spent ∷ powers) ≡ unsigned_abs (power_of false spent) + rank_of powers = rank_cons (power_of false spent) powers ∙ ap (λ b. cond b 0 (unsigned_abs (power_of false spent)) + rank_of powers) no in
    let dots_rest : dots_of powers ≡ dots = h.of_dots in
    let rank_rest : rank_of powers ≡ rank - spent = h.of_rank in
    record { of_n = omega arith; of_sector = omega arith; of_dots = omega arith; of_rank = omega arith }

-- the piece of a layer whose first power spends so much
abbrev pub piece : ℕ → ℕ → ℕ → ℕ → ℕ → List (List ℤ)
piece n sector dots rank = λ spent. map (λ powers. power_of (is_member sector) spent ∷ powers) (layer n (sector / 2) (dots_left (is_member sector) dots spent) (rank_left (is_member sector) rank spent))

in_no_places : (sector dots rank : ℕ) → sector < 1 → dots + rank ≡ 0 → IsInLayer 0 sector dots rank []
unfolding sector_of
in_no_places sector dots rank below none = record { of_n = refl; of_sector = omega arith; of_dots = omega arith; of_rank = omega arith }

layer_none : (sector dots rank : ℕ) (x : List ℤ) → sector < 1 → Contains (cond (dots + rank == 0) ([] ∷ []) []) x → IsInLayer 0 sector dots rank x
layer_none sector dots rank x below h =
    elim (dots + rank == 0) as (λ b. dots + rank == 0 ≡ b → Contains (cond b ([] ∷ []) []) x → IsInLayer 0 sector dots rank x) [
      | true ↦ λ none k. elim (in_cases [] [] x k) [
        | inl same ↦ subst (IsInLayer 0 sector dots rank) same (in_no_places sector dots rank below (grind (arith, nat_tests)))
        | inr nowhere ↦ absurd (in_none x nowhere)
      ]
      | false ↦ λ _ k. absurd (in_none x k)
    ] refl h

pub from_layer : (n sector dots rank : ℕ) (x : List ℤ) → sector < 2 ^ n → Contains (layer n sector dots rank) x → IsInLayer n sector dots rank x
unfolding layer
from_layer zero sector dots rank x below h = layer_none sector dots rank x below h
from_layer (suc n) sector dots rank x below h =
    let found : (i : ℕ) × ((i < to_spend (is_member sector) dots rank + 1) × Contains (piece n sector dots rank i) x) = from_joined (piece n sector dots rank) (to_spend (is_member sector) dots rank + 1) x h in
    let spent : ℕ = found.0 in
    let rest : (powers : List ℤ) × (Contains (layer n (sector / 2) (dots_left (is_member sector) dots spent) (rank_left (is_member sector) rank spent)) powers × (power_of (is_member sector) spent ∷ powers ≡ x)) =
    from_map (λ powers. power_of (is_member sector) spent ∷ powers) (layer n (sector / 2) (dots_left (is_member sector) dots spent) (rank_left (is_member sector) rank spent)) x found.1.1 in
    subst (IsInLayer (suc n) sector dots rank) rest.1.1
    (layer_cons (is_member sector) n sector dots rank spent rest.0 refl found.1.0
    (from_layer n (sector / 2) (dots_left (is_member sector) dots spent) (rank_left (is_member sector) rank spent) rest.0 (half_below sector n below) rest.1.0))

-- what the first power of an integral spends, and what is left
record Splits (b : Bool) (n sector dots rank : ℕ) (p : ℤ) (ps : List ℤ) : Type 0 where
  pub power : power_of b (spent_in p) ≡ p
  pub few : spent_in p < to_spend b dots rank + 1
  pub rest : IsInLayer n (sector / 2) (dots_left b dots (spent_in p)) (rank_left b rank (spent_in p)) ps

split_by : (b : Bool) (n sector dots rank : ℕ) (p : ℤ) (ps : List ℤ) → is_positive p ≡ b → IsInLayer (suc n) sector dots rank (p ∷ ps) → Splits b n sector dots rank p ps
unfolding sector_of to_spend dots_left rank_left spent_in
split_by true n sector dots rank p ps kind h =
    let back : power_of true (spent_in p) ≡ p = ap (λ b. power_of b (spent_in p)) (sym kind) ∙ power_back p in
    let spends : spent_in p ≡ unsigned_abs p - 1 = ap (λ b. cond b (unsigned_abs p - 1) (unsigned_abs p)) kind in
    let number : sector ≡ 1 + 2 * sector_of ps = sym h.of_sector ∙ ap (λ b. cond b 1 0 + 2 * sector_of ps) kind in
    let d : dots ≡ (unsigned_abs p - 1) + dots_of ps = sym h.of_dots ∙ dots_cons p ps ∙ ap (λ b. cond b (unsigned_abs p - 1) 0 + dots_of ps) kind in
    let r : rank ≡ 0 + rank_of ps = sym h.of_rank ∙ rank_cons p ps ∙ ap (λ b. cond b 0 (unsigned_abs p) + rank_of ps) kind in
    let long : suc (length ps) ≡ suc n = h.of_n in
    let few : spent_in p < dots + 1 = omega arith in
    let rest : IsInLayer n (sector / 2) (dots - spent_in p) rank ps = record { of_n = omega arith; of_sector = omega arith; of_dots = omega arith; of_rank = omega arith } in
    record { power = back; few = few; rest = rest }
split_by false n sector dots rank p ps kind h =
    let back : power_of false (spent_in p) ≡ p = ap (λ b. power_of b (spent_in p)) (sym kind) ∙ power_back p in
    let spends : spent_in p ≡ unsigned_abs p = ap (λ b. cond b (unsigned_abs p - 1) (unsigned_abs p)) kind in
    let number : sector ≡ 0 + 2 * sector_of ps = sym h.of_sector ∙ ap (λ b. cond b 1 0 + 2 * sector_of ps) kind in
    let d : dots ≡ 0 + dots_of ps = sym h.of_dots ∙ dots_cons p ps ∙ ap (λ b. cond b (unsigned_abs p - 1) 0 + dots_of ps) kind in
    let r : rank ≡ unsigned_abs p + rank_of ps = sym h.of_rank ∙ rank_cons p ps ∙ ap (λ b. cond b 0 (unsigned_abs p) + rank_of ps) kind in
    let long : suc (length ps) ≡ suc n = h.of_n in
    let few : spent_in p < rank + 1 = omega arith in
    let rest : IsInLayer n (sector / 2) dots (rank - spent_in p) ps = record { of_n = omega arith; of_sector = omega arith; of_dots = omega arith; of_rank = omega arith } in
    record { power = back; few = few; rest = rest }

split_at : (n sector dots rank : ℕ) (p : ℤ) (ps : List ℤ) → IsInLayer (suc n) sector dots rank (p ∷ ps) → Splits (is_member sector) n sector dots rank p ps
unfolding sector_of
split_at n sector dots rank p ps h =
    let kind : is_member sector ≡ is_positive p = (halves (is_positive p) sector (sector_of ps) (sym h.of_sector)).0 in
    subst (λ b. Splits b n sector dots rank p ps) (sym kind) (split_by (is_positive p) n sector dots rank p ps refl h)

abbrev no_powers : List ℤ
no_powers = []

none_is_in : (spent : ℕ) → spent ≡ 0 → Contains (cond (spent == 0) (no_powers ∷ []) []) no_powers
none_is_in spent h = let yes : spent == 0 ≡ true = grind (arith, nat_tests) in subst (λ b. Contains (cond b (no_powers ∷ []) []) no_powers) (sym yes) (in_head no_powers [] no_powers refl)

pub in_layer : (n sector dots rank : ℕ) (x : List ℤ) → IsInLayer n sector dots rank x → Contains (layer n sector dots rank) x
unfolding layer
in_layer zero sector dots rank [] h = none_is_in (dots + rank) (let d : 0 ≡ dots = h.of_dots in let r : 0 ≡ rank = h.of_rank in omega arith)
in_layer zero sector dots rank (p ∷ ps) h = absurd (let e : suc (length ps) ≡ 0 = h.of_n in omega arith)
in_layer (suc n) sector dots rank [] h = absurd (let e : 0 ≡ suc n = h.of_n in omega arith)
in_layer (suc n) sector dots rank (p ∷ ps) h =
    let b : Bool = is_member sector in
    let split : Splits b n sector dots rank p ps = split_at n sector dots rank p ps h in
    let below : List (List ℤ) = layer n (sector / 2) (dots_left b dots (spent_in p)) (rank_left b rank (spent_in p)) in
    let rest : Contains below ps = in_layer n (sector / 2) (dots_left b dots (spent_in p)) (rank_left b rank (spent_in p)) ps split.rest in
    let here : Contains (piece n sector dots rank (spent_in p)) (power_of b (spent_in p) ∷ ps) = in_map (λ powers. power_of b (spent_in p) ∷ powers) below ps rest in
    in_joined (piece n sector dots rank) (to_spend b dots rank + 1) (spent_in p) (p ∷ ps) split.few
    (subst (λ q. Contains (piece n sector dots rank (spent_in p)) (q ∷ ps)) split.power here)

-- by the absolute values in turn
abbrev pub size_cmp : List ℤ → List ℤ → Ordering
size_cmp x y = slice_cmp nat_cmp (map unsigned_abs x) (map unsigned_abs y)

pub nat_less : (a b : ℕ) → a < b → nat_cmp a b ≡ Less
nat_less a b h = grind (arith, nat_tests)

pub nat_equal : (a : ℕ) → nat_cmp a a ≡ Equal
nat_equal a = grind (arith, nat_tests)

grows : (b : Bool) (i j : ℕ) → i < j → unsigned_abs (power_of b i) < unsigned_abs (power_of b j)
grows true i j h = omega (arith, size_of_power true i, size_of_power true j)
grows false i j h = omega (arith, size_of_power false i, size_of_power false j)

smaller_first : (p q : ℤ) (x y : List ℤ) → unsigned_abs p < unsigned_abs q → size_cmp (p ∷ x) (q ∷ y) ≡ Less
smaller_first p q x y h = ap (λ o. ordering_then o (size_cmp x y)) (nat_less (unsigned_abs p) (unsigned_abs q) h)

same_first : (p : ℤ) (x y : List ℤ) → size_cmp x y ≡ Less → size_cmp (p ∷ x) (p ∷ y) ≡ Less
same_first p x y h = ap (λ o. ordering_then o (size_cmp x y)) (nat_equal (unsigned_abs p)) ∙ h

none_sorted : (spent : ℕ) → IsStrictlySortedBy size_cmp (cond (spent == 0) ([] ∷ []) [])
none_sorted spent = elim (spent == 0) as (λ b. IsStrictlySortedBy size_cmp (cond b ([] ∷ []) [])) [ true ↦ sorted_cons size_cmp [] [] (λ y h. absurd (in_none y h)) (sorted_none size_cmp) | false ↦ sorted_none size_cmp ]

pub layer_sorted : (n sector dots rank : ℕ) → IsStrictlySortedBy size_cmp (layer n sector dots rank)
unfolding layer
layer_sorted zero sector dots rank = none_sorted (dots + rank)
layer_sorted (suc n) sector dots rank =
    let b : Bool = is_member sector in
    joined_sorted size_cmp (piece n sector dots rank) (to_spend b dots rank + 1)
    (λ i _. sorted_map size_cmp size_cmp (λ powers. power_of b i ∷ powers) (layer n (sector / 2) (dots_left b dots i) (rank_left b rank i)) (λ x y less. same_first (power_of b i) x y less) (layer_sorted n (sector / 2) (dots_left b dots i) (rank_left b rank i)))
    (λ i j x y less _ inside other.
    let low : (powers : List ℤ) × (Contains (layer n (sector / 2) (dots_left b dots i) (rank_left b rank i)) powers × (power_of b i ∷ powers ≡ x)) = from_map (λ powers. power_of b i ∷ powers) (layer n (sector / 2) (dots_left b dots i) (rank_left b rank i)) x inside in
    let high : (powers : List ℤ) × (Contains (layer n (sector / 2) (dots_left b dots j) (rank_left b rank j)) powers × (power_of b j ∷ powers ≡ y)) = from_map (λ powers. power_of b j ∷ powers) (layer n (sector / 2) (dots_left b dots j) (rank_left b rank j)) y other in
    subst (λ z. size_cmp z y ≡ Less) low.1.1 (subst (λ z. size_cmp (power_of b i ∷ low.0) z ≡ Less) high.1.1 (smaller_first (power_of b i) (power_of b j) low.0 high.0 (grows b i j less))))

none_counted : (dots rank : ℕ) → length (cond (dots + rank == 0) (no_powers ∷ []) []) ≡ spread 0 dots * spread 0 rank
unfolding spread
none_counted zero zero = refl
none_counted zero (suc rank) = ap (λ b. length (cond b (no_powers ∷ []) [])) (let f : 0 + suc rank == 0 ≡ false = grind (arith, nat_tests) in f)
none_counted (suc dots) rank =
    ap (λ b. length (cond b (no_powers ∷ []) [])) (let f : suc dots + rank == 0 ≡ false = grind (arith, nat_tests) in f) ∙ (let z : 0 ≡ 0 * spread 0 rank = omega arith in z)

-- the counts of the pieces, added up
added_up : (b : Bool) (k m dots rank : ℕ) → sum_below (λ i. spread k (dots_left b dots i) * spread m (rank_left b rank i)) (to_spend b dots rank + 1) ≡ cond b (spread (suc k) dots * spread m rank) (spread k dots * spread (suc m) rank)
unfolding dots_left rank_left to_spend
added_up true k m dots rank =
    ap (sum_below (λ i. spread k (dots - i) * spread m rank)) (let e : dots + 1 ≡ suc dots = omega arith in e)
    ∙ sum_below-scale (λ i. spread k (dots - i)) (spread m rank) (suc dots)
    ∙ ap (λ x. x * spread m rank) (spread_more k dots)
added_up false k m dots rank =
    let turned : (i : ℕ) → i < suc rank → spread k dots * spread m (rank - i) ≡ spread m (rank - i) * spread k dots = λ i _. omega arith in
    let back : spread (suc m) rank * spread k dots ≡ spread k dots * spread (suc m) rank = omega arith in
    ap (sum_below (λ i. spread k dots * spread m (rank - i))) (let e : rank + 1 ≡ suc rank = omega arith in e)
    ∙ sum_below-same (λ i. spread k dots * spread m (rank - i)) (λ i. spread m (rank - i) * spread k dots) (suc rank) turned
    ∙ sum_below-scale (λ i. spread m (rank - i)) (spread k dots) (suc rank)
    ∙ ap (λ x. x * spread k dots) (spread_more m rank)
    ∙ back

-- one place more is one line more or one place more that is none
with_place : (b : Bool) (n sector dots rank : ℕ) → is_member sector ≡ b → count_ones (sector / 2) ≤ n →
    cond b (spread (suc (count_ones (sector / 2))) dots * spread (n - count_ones (sector / 2)) rank) (spread (count_ones (sector / 2)) dots * spread (suc (n - count_ones (sector / 2))) rank) ≡ spread (count_ones sector) dots * spread (suc n - count_ones sector) rank
with_place true n sector dots rank kind few =
    let odd : sector ≡ 1 + 2 * (sector / 2) = joined_halves sector ∙ ap (λ b. cond b 1 0 + 2 * (sector / 2)) kind in
    let ones : suc (count_ones (sector / 2)) ≡ count_ones sector = omega (arith, ones_step sector) in
    let others : n - count_ones (sector / 2) ≡ suc n - count_ones sector = omega arith in
    ap (λ k. spread k dots * spread (n - count_ones (sector / 2)) rank) ones ∙ ap (λ m. spread (count_ones sector) dots * spread m rank) others
with_place false n sector dots rank kind few =
    let even : sector ≡ 0 + 2 * (sector / 2) = joined_halves sector ∙ ap (λ b. cond b 1 0 + 2 * (sector / 2)) kind in
    let ones : count_ones (sector / 2) ≡ count_ones sector = omega (arith, ones_step sector) in
    let others : suc (n - count_ones (sector / 2)) ≡ suc n - count_ones sector = omega arith in
    ap (λ k. spread k dots * spread (suc (n - count_ones (sector / 2))) rank) ones ∙ ap (λ m. spread (count_ones sector) dots * spread m rank) others

pub layer_counted : (n sector dots rank : ℕ) → sector < 2 ^ n → length (layer n sector dots rank) ≡ spread (count_ones sector) dots * spread (n - count_ones sector) rank
unfolding layer
layer_counted zero sector dots rank below =
    let none : sector ≡ 0 = omega arith in
    let ones : 0 ≡ count_ones sector = (let e : 0 ≡ count_ones 0 = omega (arith, ones_le_self 0) in e) ∙ ap count_ones (sym none) in
    let others : 0 ≡ 0 - count_ones sector = omega arith in
    none_counted dots rank ∙ ap (λ k. spread k dots * spread 0 rank) ones ∙ ap (λ m. spread (count_ones sector) dots * spread m rank) others
layer_counted (suc n) sector dots rank below =
    let b : Bool = is_member sector in
    let half : sector / 2 < 2 ^ n = half_below sector n below in
    let each : (i : ℕ) → i < to_spend b dots rank + 1 → length (piece n sector dots rank i) ≡ spread (count_ones (sector / 2)) (dots_left b dots i) * spread (n - count_ones (sector / 2)) (rank_left b rank i) =
    λ i _. length-map (layer n (sector / 2) (dots_left b dots i) (rank_left b rank i)) (λ powers. power_of b i ∷ powers) ∙ layer_counted n (sector / 2) (dots_left b dots i) (rank_left b rank i) half in
    length-joined (piece n sector dots rank) (to_spend b dots rank + 1)
    ∙ sum_below-same (λ i. length (piece n sector dots rank i)) (λ i. spread (count_ones (sector / 2)) (dots_left b dots i) * spread (n - count_ones (sector / 2)) (rank_left b rank i)) (to_spend b dots rank + 1) each
    ∙ added_up b (count_ones (sector / 2)) (n - count_ones (sector / 2)) dots rank
    ∙ with_place b n sector dots rank refl (ones-le n (sector / 2) half)

no_length : {X : Type 0} (xs : List X) → length xs ≡ 0 → xs ≡ []
no_length [] h = refl
no_length (x ∷ xs) h = absurd (let e : suc (length xs) ≡ 0 = h in omega arith)

no_spread : (k d : ℕ) → k ≡ 0 → 0 < d → spread k d ≡ 0
unfolding spread
no_spread zero zero e h = absurd (omega arith)
no_spread zero (suc d) e h = refl
no_spread (suc k) d e h = absurd (omega arith)

-- dots with no member to take them
pub no_member : (n sector dots rank : ℕ) → sector < 2 ^ n → count_ones sector ≡ 0 → 0 < dots → layer n sector dots rank ≡ []
no_member n sector dots rank below none some =
    no_length (layer n sector dots rank) (layer_counted n sector dots rank below ∙ ap (λ x. x * spread (n - count_ones sector) rank) (no_spread (count_ones sector) dots none some) ∙ (let e : 0 * spread (n - count_ones sector) rank ≡ 0 = omega arith in e))

-- rank with no other place to take it
pub no_other : (n sector dots rank : ℕ) → sector < 2 ^ n → count_ones sector ≡ n → 0 < rank → layer n sector dots rank ≡ []
no_other n sector dots rank below all some =
    no_length (layer n sector dots rank) (layer_counted n sector dots rank below ∙ ap (λ x. spread (count_ones sector) dots * x) (no_spread (n - count_ones sector) rank (omega arith) some) ∙ (let e : spread (count_ones sector) dots * 0 ≡ 0 = omega arith in e))
