-- A vector as an array of residues by the places of terms.
--     vector_of terms values    the vector of the values that are not zero, each at the term beside it
--     IsWindow high n first count top terms values      each value that is not zero stands at the place of its term among
--                               those of the first n variables and of `count` components from `first` on, and below `top`
-- Source: dense matrices of Macaulay over a finite field, as in the algorithm F4 of Faugère, here one row at a time.
use Rattle.std.specs.Prelude.{◌≡◌, ℕ, ◌<◌, ◌≤◌, Bool, if◌then◌else◌, ◌==◌, sum, replicate, length, slice_index_or, List, [], ◌∷◌, ◌++◌}
use Rattle.mono_order.specs.declared.limits.TheConstants.{VARIABLES}
use Rattle.mono_order.specs.Term.{Term}
use Rattle.module_vec.specs.ModuleVector.{ModuleVector}
use Rattle.fast_division.specs.Ranks.{place_of_term, IsOneKind, HasPlace}

abbrev pub vector_of : List Term → List ℕ → ModuleVector
vector_of [] values = []
vector_of (t ∷ terms) [] = []
vector_of (t ∷ terms) (v ∷ values) = if v == 0 then vector_of terms values else ((t, v) ∷ vector_of terms values)

pub record IsWindow (high : ℕ → Bool) (n first count top : ℕ) (terms : List Term) (values : List ℕ) : Type 0 where
  pub some : 0 < n
  pub few : n ≤ VARIABLES
  pub kind : IsOneKind high first count
  pub long : length values ≤ length terms
  pub residues : (i : ℕ) → slice_index_or values i 0 < 2147483647
  pub each : (i : ℕ) → 0 < slice_index_or values i 0 → HasPlace n first count (slice_index_or terms i (0, []))
  pub places : (i : ℕ) → 0 < slice_index_or values i 0 → place_of_term n first count (slice_index_or terms i (0, [])) ≡ i
  pub above : (i : ℕ) → top ≤ i → slice_index_or values i 0 ≡ 0
  pub within : top ≤ length values

-- more room, with no value in it
pub record IsWidened (terms new_terms : List Term) (values new_values : List ℕ) : Type 0 where
  pub more : List Term
  pub zeros : ℕ
  pub terms_are : new_terms ≡ terms ++ more
  pub values_are : new_values ≡ values ++ replicate zeros 0
  pub long : length new_values ≤ length new_terms

-- a term with a place among the first ones, whose degree is below a bound
pub record IsReached (n first count degrees places : ℕ) (t : Term) : Type 0 where
  pub has : HasPlace n first count t
  pub degree : sum t.1 < degrees
  pub within : place_of_term n first count t < places
