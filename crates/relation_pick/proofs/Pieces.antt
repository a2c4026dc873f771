-- A list that is cut into consecutive pieces of one size, of which the last may be short.
use Rattle.std.proofs.Common.{◌≡◌, ℕ, zero, suc, ◌+◌, ◌*◌, ◌/◌, ◌%◌, ◌<◌, ◌≤◌, min, List, [], ◌++◌, length, take, drop, sym, ap, subst, ◌∙◌, arith}
use Rattle.std.specs.List.{All}
use Rattle.std.specs.Fork.{IsChunk}
use Rattle.std.proofs.Math.Seq.{take-add}
use Rattle.std.proofs.lemmas.List.{take_all}
use Rattle.std.proofs.lemmas.Nat.{div-add-mod'}
use Rattle.std.proofs.Math.Nat.{mod-lt}

-- the front that the pieces before number n are
abbrev pub front : {X : Type 0} → List X → ℕ → ℕ → List X
front xs size n = take (n * size) xs

pub front_none : {X : Type 0} (xs : List X) (size : ℕ) → front xs size 0 ≡ []
front_none xs size = let e : 0 * size ≡ 0 = grind arith in ap (λ k. take k xs) e

pub front_more : {X : Type 0} (xs : List X) (size n : ℕ) → front xs size (n + 1) ≡ front xs size n ++ take size (drop (n * size) xs)
front_more xs size n =
    let e : (n + 1) * size ≡ n * size + size = grind arith in
    ap (λ k. take k xs) e ∙ take-add (n * size) size xs

covers : (q r size n len : ℕ) → q * size + r ≡ len → r < size → n ≡ q + min 1 r → len ≤ n * size
covers q zero size n len parts low count =
    let same : n ≡ q = omega (arith, count) in
    omega (arith, parts, ap (λ k. k * size) same)
covers q (suc r) size n len parts low count =
    let same : n ≡ q + 1 = omega (arith, count) in
    let one_more : (q + 1) * size ≡ q * size + size = grind arith in
    omega (arith, parts, low, one_more, ap (λ k. k * size) same)

-- the whole, where all pieces are there
pub front_whole : {X : Type 0} (xs : List X) (size n : ℕ) → 0 < size → n ≡ length xs / size + min 1 (length xs % size) → front xs size n ≡ xs
front_whole xs size n some count = take_all (n * size) xs (covers (length xs / size) (length xs % size) size n (length xs) (div-add-mod' (length xs) size) (mod-lt (length xs) some) count)

-- what holds of each element of the whole holds of each of a piece
pub piece_all : {X : Type 0} (P : X → Type 0) (xs ys : List X) (size start : ℕ) → IsChunk xs size start ys → All P xs → All P ys
piece_all P xs ys size start chunk all k d below = subst P (sym (chunk.elements k d below)) (all (start + k) d (omega (arith, chunk.in_bounds, below)))
