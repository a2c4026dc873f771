-- The places of the terms of multiples, as lists.
use Rattle.std.proofs.Common.{◌≡◌, ℕ, zero, suc, ◌+◌, ◌<◌, Bool, map, take, drop, length, get_or, List, [], ◌∷◌, ◌++◌, sym, refl, ap, subst, ◌∙◌, arith}
use Rattle.std.proofs.Math.Seq.{take-append_seam, drop-append_seam}
use Rattle.std.specs.Prelude.{Result, Ok, Err, OnOk, OnErr}
use Rattle.std.proofs.lemmas.List.{map-append, length-append, get_or_append_left}
use Rattle.std.proofs.lemmas.List.Elements.{All-append}
use Rattle.mono_order.specs.Term.{Term, multiply_term}
use Rattle.module_vec.specs.ModuleVector.{ModuleVector, multiply_vector}
use Rattle.module_vec.proofs.Degrees.{multiple_more}
use Rattle.fast_division.specs.declared.kept.Placed.{Placed}
use Rattle.fast_division.specs.declared.kept.Row.{Row}
use Rattle.fast_division.specs.Ranks.{place_of_term}
use Rattle.fast_division.specs.Kept.{ArePlaces, IsRow, IsRowOf, AreRowsOf}
use Rattle.fast_division.proofs.Merges.{length-multiply, multiple_at}

abbrev pub places_in : ℕ → ℕ → ℕ → ModuleVector → List ℕ
places_in n first count v = map (λ (t : Term × ℕ). place_of_term n first count t.0) v

pub length-places : (n first count : ℕ) (v : ModuleVector) → length (places_in n first count v) ≡ length v
length-places n first count [] = refl
length-places n first count (t ∷ v) = ap suc (length-places n first count v)

places_at : (n first count : ℕ) (v : ModuleVector) (i d : ℕ) (item : Term × ℕ) → i < length v → item ≡ get_or v i item → get_or (places_in n first count v) i d ≡ place_of_term n first count item.0
places_at n first count [] i d item within is = absurd (omega arith)
places_at n first count (t ∷ v) zero d item within is = ap (λ (u : Term × ℕ). place_of_term n first count u.0) (sym is)
places_at n first count (t ∷ v) (suc i) d item within is = places_at n first count v i d item (omega arith) is

-- the place of one term of a multiple
pub kept_place : (placed : Placed) (m : List ℕ) (v : ModuleVector) (i place : ℕ) (item : Term × ℕ) (key : Term) → ArePlaces placed (multiply_vector m v) → i < length v → item ≡ get_or v i item
    → key ≡ multiply_term m item.0 → place ≡ get_or placed.places.items i place
    → place ≡ place_of_term placed.shape.variables placed.shape.first placed.shape.count key
kept_place placed m v i place item key h within item_is key_is place_is =
    let n = placed.shape.variables in
    let first = placed.shape.first in
    let count = placed.shape.count in
    let at : (key, item.1) ≡ get_or (multiply_vector m v) i (key, item.1) = multiple_at m v i item (key, item.1) key within item_is key_is in
    place_is ∙ ap (λ l. get_or l i place) h.are ∙ places_at n first count (multiply_vector m v) i place (key, item.1) (omega (arith, within, length-multiply m v)) at

-- there is a place for each term
pub kept_length : (placed : Placed) (m : List ℕ) (v : ModuleVector) → ArePlaces placed (multiply_vector m v) → length placed.places.items ≡ length v
kept_length placed m v h = ap length h.are ∙ length-places placed.shape.variables placed.shape.first placed.shape.count (multiply_vector m v) ∙ length-multiply m v

-- one place more
pub places_more : (n first count : ℕ) (m : List ℕ) (v : ModuleVector) (places new : List ℕ) (i place : ℕ) (item : Term × ℕ) (key : Term) → i < length v → item ≡ get_or v i item → key ≡ multiply_term m item.0
    → place ≡ place_of_term n first count key → new ≡ places ++ place ∷ [] → places ≡ places_in n first count (multiply_vector m (take i v)) → new ≡ places_in n first count (multiply_vector m (take (i + 1) v))
places_more n first count m v places new i place item key within item_is key_is place_is pushed before =
    let front = multiply_vector m (take i v) in
    let more : front ++ (key, item.1) ∷ [] ≡ multiply_vector m (take (i + 1) v) = multiple_more m v front (front ++ (key, item.1) ∷ []) i item key within item_is key_is refl refl in
    pushed
    ∙ (λ j. before j ++ place_is j ∷ [])
    ∙ sym (map-append (λ (t : Term × ℕ). place_of_term n first count t.0) front ((key, item.1) ∷ []))
    ∙ ap (places_in n first count) more

-- the parts of a kept multiple
pub kept_parts : (high : ℕ → Bool) (row : Row) (terms : ModuleVector) (h : IsRow high row terms)
    → (h.above ≡ take (length row.high.places.items) terms) × (h.below ≡ drop (length row.high.places.items) terms)
kept_parts high row terms h =
    let long : length row.high.places.items ≡ length h.above = kept_length row.high row.by h.above h.high_places in (
      sym ((λ i. take (long i) (h.whole i)) ∙ take-append_seam h.above h.below),
      sym ((λ i. drop (long i) (h.whole i)) ∙ drop-append_seam h.above h.below),
    )

-- ---- rows of a list

AreRowsOf-one : (high : ℕ → Bool) (list : List ModuleVector) (row : Row) → IsRowOf high list row → AreRowsOf high list (row ∷ [])
AreRowsOf-one high list row h zero d within = h
AreRowsOf-one high list row h (suc k) d within = absurd (omega arith)

-- a row that was pushed, or was not
pub AreRowsOf-pushed : {T E : Type 0} (high : ℕ → Bool) (list : List ModuleVector) (old new : List Row) (row : Row) (result : Result T E) → OnOk result (new ≡ old ++ row ∷ []) → OnErr result (new ≡ old)
    → AreRowsOf high list old → IsRowOf high list row → AreRowsOf high list new
AreRowsOf-pushed high list old new row (Ok t) added kept h r = subst (AreRowsOf high list) (sym added) (All-append (IsRowOf high list) old (row ∷ []) h (AreRowsOf-one high list row r))
AreRowsOf-pushed high list old new row (Err e) added kept h r = subst (AreRowsOf high list) (sym kept) h

-- a row of one more vector behind the list's
IsRowOf-longer : (high : ℕ → Bool) (list more : List ModuleVector) (row : Row) → IsRowOf high list row → IsRowOf high (list ++ more) row
IsRowOf-longer high list more row h =
    record {
      some = omega (arith, h.some, length-append list more);
      is_row = subst (λ (v : ModuleVector). IsRow high row (drop 1 v)) (sym (get_or_append_left list more [] row.divisor h.some)) h.is_row;
    }

pub AreRowsOf-longer : (high : ℕ → Bool) (list more : List ModuleVector) (rows : List Row) → AreRowsOf high list rows → AreRowsOf high (list ++ more) rows
AreRowsOf-longer high list more rows h = λ k d within. IsRowOf-longer high list more (get_or rows k d) (h k d within)
