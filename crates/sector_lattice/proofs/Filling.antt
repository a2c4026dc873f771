-- The steps of listing a layer: what a prefix adds, one power more, and the end.
use Rattle.std.proofs.Common.{◌≡◌, ◌⊎◌, inl, inr, ℕ, suc, ◌+◌, ◌-◌, ◌/◌, ◌<◌, ◌≤◌, ◌^◌, Bool, true, false, cond, List, [], ◌∷◌, ◌++◌, length, take, refl, sym, ◌∙◌, ap, subst, arith, append_assoc}
use Rattle.std.specs.Prelude.{ℤ, count_ones, neg_ℤ, ◌≤ℤ◌, map, ◌==◌, slice_set}
use Rattle.std.proofs.lemmas.List.{append-nil, take-take, take-set, take_more_set, map-append, length-set}
use Rattle.std.proofs.lemmas.List.Elements.{All-push}
use Rattle.std.proofs.Math.Seq.{take-length}
use Rattle.sector_lattice.specs.Ranges.{AreSmall}
use Rattle.sector_lattice.specs.declared.integral.TheConstants.{POWER}
use Rattle.sector_lattice.specs.Layers.{joined, layer, is_member, power_of, dots_left, rank_left, to_spend}
use Rattle.sector_lattice.proofs.Digits.{half_below}
use Rattle.sector_lattice.proofs.Joining.{joined_more}
use Rattle.sector_lattice.proofs.Layering.{piece, no_member, no_other}

abbrev pub behind : List ℤ → List (List ℤ) → List (List ℤ)
behind front xs = map (λ rest. front ++ rest) xs

behind_none : (xs : List (List ℤ)) → behind [] xs ≡ xs
behind_none [] = refl
behind_none (x ∷ xs) = ap (λ ys. x ∷ ys) (behind_none xs)

behind_more : (front : List ℤ) (p : ℤ) (xs : List (List ℤ)) → behind (front ++ p ∷ []) xs ≡ behind front (map (λ rest. p ∷ rest) xs)
behind_more front p [] = refl
behind_more front p (x ∷ xs) =
    let first : (front ++ p ∷ []) ++ x ≡ front ++ p ∷ x = append_assoc front (p ∷ []) x in
    ap (λ y. y ∷ behind (front ++ p ∷ []) xs) first ∙ ap (λ ys. (front ++ p ∷ x) ∷ ys) (behind_more front p xs)

-- nothing is joined yet
pub joined_none : {X : Type 0} (old : List X) (f : ℕ → List X) → old ≡ old ++ joined f 0
unfolding joined
joined_none old f = sym (append-nil old)

pub nothing_joined : {X : Type 0} (f : ℕ → List X) → [] ≡ joined f 0
unfolding joined
nothing_joined f = refl

pub behind_joined_none : (old : List (List ℤ)) (front : List ℤ) (f : ℕ → List (List ℤ)) → old ≡ old ++ behind front (joined f 0)
unfolding joined
behind_joined_none old front f = sym (append-nil old)

pub joined_next : {X : Type 0} (old now next : List X) (f : ℕ → List X) (i : ℕ) → now ≡ old ++ joined f i → next ≡ now ++ f i → next ≡ old ++ joined f (i + 1)
joined_next old now next f i h k = k ∙ ap (λ xs. xs ++ f i) h ∙ append_assoc old (joined f i) (f i) ∙ ap (λ xs. old ++ xs) (sym (joined_more f i))

pub first_joined_next : {X : Type 0} (now next : List X) (f : ℕ → List X) (i : ℕ) → now ≡ joined f i → next ≡ now ++ f i → next ≡ joined f (i + 1)
first_joined_next now next f i h k = k ∙ ap (λ xs. xs ++ f i) h ∙ sym (joined_more f i)

complete_by : (b : Bool) (powers : List ℤ) → cond b (powers ∷ []) [] ≡ behind powers (cond b ([] ∷ []) [])
complete_by true powers = ap (λ x. x ∷ []) (sym (append-nil powers))
complete_by false powers = refl

-- no place is left
pub complete : (powers : List ℤ) (place sector dots rank : ℕ) (old next : List (List ℤ)) → place ≡ length powers → next ≡ old ++ cond (dots + rank == 0) (powers ∷ []) [] → next ≡ old ++ behind (take place powers) (layer (length powers - place) sector dots rank)
unfolding layer
complete powers place sector dots rank old next end h =
    let none : length powers - place ≡ 0 = omega arith in
    let all : take place powers ≡ powers = ap (λ n. take n powers) end ∙ take-length powers in
    h ∙ ap (λ xs. old ++ xs) (complete_by (dots + rank == 0) powers ∙ ap (λ front. behind front (layer 0 sector dots rank)) (sym all) ∙ ap (λ n. behind (take place powers) (layer n sector dots rank)) (sym none))

-- with no prefix
pub from_start : (n sector dots rank : ℕ) (powers : List ℤ) (old next : List (List ℤ)) → n ≡ length powers → next ≡ old ++ behind (take 0 powers) (layer (length powers - 0) sector dots rank) → next ≡ old ++ layer n sector dots rank
from_start n sector dots rank powers old next long h =
    h ∙ ap (λ xs. old ++ xs) (behind_none (layer (length powers - 0) sector dots rank) ∙ ap (λ m. layer m sector dots rank) (let e : length powers - 0 ≡ n = omega arith in e))

-- one power more is small
pub small_more : (powers : List ℤ) (place : ℕ) (p : ℤ) → place < length powers → AreSmall (take place powers) → neg_ℤ POWER ≤ℤ p → p ≤ℤ POWER → AreSmall (take (place + 1) (slice_set powers place p))
small_more powers place p inside small least greatest =
    let here : (neg_ℤ POWER ≤ℤ p) × (p ≤ℤ POWER) = (least, greatest) in
    subst AreSmall (sym (take_more_set powers place p inside)) (All-push (λ power. (neg_ℤ POWER ≤ℤ power) × (power ≤ℤ POWER)) (take place powers) p small here)

pub prefix_kept : (powers start after : List ℤ) (place : ℕ) (p : ℤ) → take place powers ≡ take place start → take (place + 1) after ≡ take (place + 1) (slice_set powers place p) → take place after ≡ take place start
prefix_kept powers start after place p same kept =
    let less : place ≤ place + 1 = omega arith in
    sym (take-take place (place + 1) after less) ∙ ap (take place) kept ∙ take-take place (place + 1) (slice_set powers place p) less ∙ take-set powers place p ∙ same

-- the pieces so far, and the next one
pub piece_more : (n sector dots rank spent : ℕ) (start powers : List ℤ) (place : ℕ) (p : ℤ) (half d r : ℕ) (old now next : List (List ℤ)) →
    place < length powers → length powers ≡ length start → n ≡ length start - (place + 1) → take place powers ≡ take place start →
    p ≡ power_of (is_member sector) spent → half ≡ sector / 2 → d ≡ dots_left (is_member sector) dots spent → r ≡ rank_left (is_member sector) rank spent →
    now ≡ old ++ behind (take place start) (joined (piece n sector dots rank) spent) →
    next ≡ now ++ behind (take (place + 1) (slice_set powers place p)) (layer (length (slice_set powers place p) - (place + 1)) half d r) →
    next ≡ old ++ behind (take place start) (joined (piece n sector dots rank) (spent + 1))
piece_more n sector dots rank spent start powers place p half d r old now next inside long places same is_power is_half is_d is_r so_far listed =
    let front : List ℤ = take place start in
    let rest : List (List ℤ) = layer n (sector / 2) (dots_left (is_member sector) dots spent) (rank_left (is_member sector) rank spent) in
    let prefix : take (place + 1) (slice_set powers place p) ≡ front ++ p ∷ [] = take_more_set powers place p inside ∙ ap (λ xs. xs ++ p ∷ []) same in
    let places_left : length (slice_set powers place p) - (place + 1) ≡ n = omega (arith, length-set powers place p) in
    let below : layer (length (slice_set powers place p) - (place + 1)) half d r ≡ rest =
    ap (λ m. layer m half d r) places_left ∙ ap (λ m. layer n m d r) is_half ∙ ap (λ m. layer n (sector / 2) m r) is_d ∙ ap (λ m. layer n (sector / 2) (dots_left (is_member sector) dots spent) m) is_r in
    let added : behind (take (place + 1) (slice_set powers place p)) (layer (length (slice_set powers place p) - (place + 1)) half d r) ≡ behind front (piece n sector dots rank spent) =
    ap (λ xs. behind xs (layer (length (slice_set powers place p) - (place + 1)) half d r)) prefix
    ∙ ap (λ xs. behind (front ++ p ∷ []) xs) below
    ∙ behind_more front p rest
    ∙ ap (λ q. behind front (map (λ powers. q ∷ powers) rest)) is_power in
    let joins : behind front (joined (piece n sector dots rank) (spent + 1)) ≡ behind front (joined (piece n sector dots rank) spent) ++ behind front (piece n sector dots rank spent) =
    ap (behind front) (joined_more (piece n sector dots rank) spent) ∙ map-append (λ rest. front ++ rest) (joined (piece n sector dots rank) spent) (piece n sector dots rank spent) in
    listed
    ∙ ap (λ xs. now ++ xs) added
    ∙ ap (λ xs. xs ++ behind front (piece n sector dots rank spent)) so_far
    ∙ append_assoc old (behind front (joined (piece n sector dots rank) spent)) (behind front (piece n sector dots rank spent))
    ∙ ap (λ xs. old ++ xs) (sym joins)

-- all pieces make the layer
pub pieces_all : (sector dots rank spent last : ℕ) (start : List ℤ) (place : ℕ) (old now : List (List ℤ)) → place ≤ length start → (place ≡ length start → ⊥) → last ≡ to_spend (is_member sector) dots rank → last + 1 ≤ spent → spent ≤ last + 1 →
    now ≡ old ++ behind (take place start) (joined (piece (length start - (place + 1)) sector dots rank) spent) → now ≡ old ++ behind (take place start) (layer (length start - place) sector dots rank)
unfolding layer
pieces_all sector dots rank spent last start place old now inside open_place is_last low high h =
    let n : ℕ = length start - (place + 1) in
    let places : length start - place ≡ suc n = omega arith in
    let all : spent ≡ to_spend (is_member sector) dots rank + 1 = omega arith in
    h ∙ ap (λ m. old ++ behind (take place start) (joined (piece n sector dots rank) m)) all ∙ ap (λ m. old ++ behind (take place start) (layer m sector dots rank)) (sym places)

pub half_of : (sector n m : ℕ) → n ≡ suc m → sector < 2 ^ n → sector / 2 < 2 ^ m
half_of sector n m h below = half_below sector m (let P : ℕ → Type 0 = λ k. sector < 2 ^ k in subst P h below)

-- nothing is added where the layer is empty
pub stuck : (front : List ℤ) (xs old : List (List ℤ)) → xs ≡ [] → old ≡ old ++ behind front xs
stuck front xs old h = sym (append-nil old) ∙ ap (λ ys. old ++ behind front ys) (sym h)

pub nowhere : (n sector dots rank : ℕ) → sector < 2 ^ n → ((count_ones sector ≡ 0) × (0 < dots)) ⊎ ((count_ones sector ≡ n) × (0 < rank)) → layer n sector dots rank ≡ []
nowhere n sector dots rank below h = elim h [ inl no_line ↦ no_member n sector dots rank below no_line.0 no_line.1 | inr all_lines ↦ no_other n sector dots rank below all_lines.0 all_lines.1 ]
