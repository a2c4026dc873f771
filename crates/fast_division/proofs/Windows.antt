-- The vector of an array of residues, where one of them changes.
use Rattle.std.proofs.Common.{◌≡◌, ◌≢◌, ℕ, zero, suc, ◌+◌, ◌-◌, ◌*◌, ◌%◌, ◌<◌, ◌≤◌, Bool, true, false, cond, if◌then◌else◌, ◌==◌, replicate, sum, max, length, get_or, set, take, drop, List, [], ◌∷◌, ◌++◌, sym, refl, ap, subst, ◌∙◌, ⊎_elim, arith}
use Rattle.std.specs.Prelude.{nat_eq, nat_le, nat_lt, ◌&&◌}
use Rattle.std.specs.Bool.{OnTrue}
use Rattle.std.proofs.Math.Seq.{take-length}
use Rattle.std.specs.Cmp.{unsigned_Decides, ranks}
use Rattle.std.proofs.lemmas.Bool.{cases_lt, leb-true, ltb-true, OnTrue_from, OnTrue_at}
use Rattle.ibp_base.proofs.Tests.{both_true}
use Rattle.std.proofs.Math.Dec.{eqb}
use Rattle.std.proofs.lemmas.Bool.Decides.{eqb_tells}
use Rattle.std.proofs.lemmas.List.{get_or-drop, get_or-take, get_or-set_same, get_or-set_other, get_or_append_left, set-get_or, length-set, length-append, length-replicate}
use Rattle.std.specs.declared.cmp.Ordering.{Ordering}
use Rattle.std.specs.declared.cmp.Ordering.TheVariants.{Less, Equal, Greater}
use Rattle.std.specs.Ordering.{nat_cmp, ord_max, is_lt, MatchOrdering}
use Rattle.ibp_field.specs.Arithmetic.{IsCongruent}
use Rattle.ibp_field.proofs.Congruence.{IsCongruent-refl, IsCongruent-mul}
use Rattle.ibp_algebra.specs.FormalSum.{weighted_sum, AllKeys, scale, normal_form}
use Rattle.ibp_algebra.specs.Exponents.{add_exponents}
use Rattle.ibp_algebra.proofs.SumOfExponents.{sum-add_exponents}
use Rattle.ibp_algebra.proofs.Weights.{weighted_sum-append, weighted_sum-scale, weighted_sum-SameCoefficients, SameCoefficients-from_weights}
use Rattle.ibp_algebra.proofs.ZeroDivisors.{AllKeys-append}
use Rattle.ibp_algebra.proofs.NormalForm.{weighted_sum-normal_form, IsCanonical-normal_form, AllKeys-normal_form}
use Rattle.mono_order.specs.declared.limits.TheConstants.{VARIABLES, RUN_DEGREE}
use Rattle.mono_order.specs.Monomial.{IsMonomial}
use Rattle.mono_order.specs.PartialSums.{partial_sum, running_sums}
use Rattle.mono_order.proofs.Packing.{running_sums-at, partial_sum-add}
use Rattle.mono_order.specs.Term.{Term, same_term, multiply_term, IsTerm}
use Rattle.mono_order.specs.TermOrder.{IsTermOrder}
use Rattle.mono_order.proofs.Terms.{terms_decide, IsTerm-multiply}
use Rattle.module_vec.specs.ModuleVector.{ModuleVector, SameVector, multiply_vector}
use Rattle.module_vec.proofs.Degrees.{multiple_more, AllKeys-at}
use Rattle.module_vec.proofs.NormalForms.{is_normal_form, IsVector-normal, AllKeys-normal}
use Rattle.fast_division.specs.PartialSums.{IsBounded}
use Rattle.fast_division.specs.Ranks.{below, place_of_term, IsOfFirst, HasPlace}
use Rattle.fast_division.specs.Windows.{vector_of, IsWindow, IsWidened, IsReached}
use Rattle.fast_division.proofs.Merges.{length-multiply, multiple_at}
use Rattle.fast_division.proofs.RankOrder.{place-within, place-unique, place-order}

-- ---- the vector

cell_if : (w : Term → ℕ) (b : Bool) (t : Term) (v : ℕ) (f : ModuleVector) → (v == 0) ≡ b → weighted_sum w (if b then f else ((t, v) ∷ f)) ≡ v * w t + weighted_sum w f
cell_if w true t v f e = omega (arith, ap (λ x. x * w t) ((unsigned_Decides v 0).0 e))
cell_if w false t v f e = refl

pub weighted_sum-vector_of : (w : Term → ℕ) (t : Term) (v : ℕ) (terms : List Term) (values : List ℕ)
    → weighted_sum w (vector_of (t ∷ terms) (v ∷ values)) ≡ v * w t + weighted_sum w (vector_of terms values)
weighted_sum-vector_of w t v terms values = cell_if w (v == 0) t v (vector_of terms values) refl

-- a term and its value replaced
pub weighted_sum-vector_set : (w : Term → ℕ) (terms : List Term) (values : List ℕ) (i : ℕ) (t d : Term) (v : ℕ) → i < length values → length values ≤ length terms
    → weighted_sum w (vector_of (set terms i t) (set values i v)) + get_or values i 0 * w (get_or terms i d) ≡ weighted_sum w (vector_of terms values) + v * w t
weighted_sum-vector_set w terms [] i t d v within long = absurd (omega arith)
weighted_sum-vector_set w [] (u ∷ values) i t d v within long = absurd (omega arith)
weighted_sum-vector_set w (s ∷ terms) (u ∷ values) zero t d v within long = omega (arith, weighted_sum-vector_of w t v terms values, weighted_sum-vector_of w s u terms values)
weighted_sum-vector_set w (s ∷ terms) (u ∷ values) (suc i) t d v within long =
    omega (
      arith,
      weighted_sum-vector_set w terms values i t d v (omega arith) (omega arith),
      weighted_sum-vector_of w s u (set terms i t) (set values i v),
      weighted_sum-vector_of w s u terms values,
    )

-- a value replaced
pub weighted_sum-value_set : (w : Term → ℕ) (terms : List Term) (values : List ℕ) (i : ℕ) (d : Term) (v : ℕ) → i < length values → length values ≤ length terms
    → weighted_sum w (vector_of terms (set values i v)) + get_or values i 0 * w (get_or terms i d) ≡ weighted_sum w (vector_of terms values) + v * w (get_or terms i d)
weighted_sum-value_set w terms values i d v within long =
    ap (λ (l : List Term). weighted_sum w (vector_of l (set values i v)) + get_or values i 0 * w (get_or terms i d)) (sym (set-get_or terms i d))
    ∙ weighted_sum-vector_set w terms values i (get_or terms i d) d v within long

positive : (v : ℕ) → (v == 0) ≡ false → 0 < v
positive v e = let ne : v ≢ 0 = λ zero_is. let clash : true ≡ false = sym ((unsigned_Decides v 0).1 zero_is) ∙ e in cc in omega (arith, ne)

keys_if : (P : Term → Type 0) (b : Bool) (t : Term) (v : ℕ) (f : ModuleVector) → (v == 0) ≡ b → (0 < v → P t) → AllKeys P f → AllKeys P (if b then f else ((t, v) ∷ f))
keys_if P true t v f e p h = h
keys_if P false t v f e p h = (p (positive v e), h)

pub AllKeys-vector_of : (P : Term → Type 0) (terms : List Term) (values : List ℕ) → ((i : ℕ) → 0 < get_or values i 0 → P (get_or terms i (0, []))) → AllKeys P (vector_of terms values)
AllKeys-vector_of P [] values h = tt
AllKeys-vector_of P (t ∷ terms) [] h = tt
AllKeys-vector_of P (t ∷ terms) (v ∷ values) h = keys_if P (v == 0) t v (vector_of terms values) refl (h 0) (AllKeys-vector_of P terms values (λ i. h (suc i)))

cell_zero : (t : Term) (v : ℕ) (f : ModuleVector) → v ≡ 0 → (if v == 0 then f else ((t, v) ∷ f)) ≡ f
cell_zero t v f e = ap (λ b. if b then f else ((t, v) ∷ f)) ((unsigned_Decides v 0).1 e)

-- no value is left
pub vector_of-none : (terms : List Term) (values : List ℕ) → ((i : ℕ) → get_or values i 0 ≡ 0) → vector_of terms values ≡ []
vector_of-none [] values h = refl
vector_of-none (t ∷ terms) [] h = refl
vector_of-none (t ∷ terms) (v ∷ values) h = cell_zero t v (vector_of terms values) (h 0) ∙ vector_of-none terms values (λ i. h (suc i))

-- more room
pub vector_of-more_terms : (terms more : List Term) (values : List ℕ) → length values ≤ length terms → vector_of (terms ++ more) values ≡ vector_of terms values
vector_of-more_terms [] [] values long = refl
vector_of-more_terms [] (t ∷ more) [] long = refl
vector_of-more_terms [] (t ∷ more) (v ∷ values) long = absurd (omega arith)
vector_of-more_terms (t ∷ terms) more [] long = refl
vector_of-more_terms (t ∷ terms) more (v ∷ values) long = ap (λ (f : ModuleVector). if v == 0 then f else ((t, v) ∷ f)) (vector_of-more_terms terms more values (omega arith))

pub vector_of-more_values : (terms : List Term) (values : List ℕ) (k : ℕ) → vector_of terms (values ++ replicate k 0) ≡ vector_of terms values
vector_of-more_values [] values k = refl
vector_of-more_values (t ∷ terms) [] zero = refl
vector_of-more_values (t ∷ terms) [] (suc k) = cell_zero t 0 (vector_of terms (replicate k 0)) refl ∙ vector_of-more_values terms [] k ∙ nothing terms
  where
    nothing : (l : List Term) → vector_of l [] ≡ []
    nothing [] = refl
    nothing (s ∷ l) = refl
vector_of-more_values (t ∷ terms) (v ∷ values) k = ap (λ (f : ModuleVector). if v == 0 then f else ((t, v) ∷ f)) (vector_of-more_values terms values k)

-- one more multiple of a term
pub AllKeys-multiple_more : (P : Term → Type 0) (m : List ℕ) (v : ModuleVector) (i : ℕ) (item : Term × ℕ) (key : Term) → i < length v → item ≡ get_or v i item → key ≡ multiply_term m item.0
    → AllKeys P (multiply_vector m (take i v)) → P key → AllKeys P (multiply_vector m (take (i + 1) v))
AllKeys-multiple_more P m v i item key within is key_is h here =
    let before = multiply_vector m (take i v) in
    subst (AllKeys P) (multiple_more m v before (before ++ (key, item.1) ∷ []) i item key within is key_is refl refl) (AllKeys-append P before ((key, item.1) ∷ []) h (here, tt))

-- a fact of each multiple, at one of them
pub multiple_has : (P : Term → Type 0) (m : List ℕ) (v : ModuleVector) (i : ℕ) (item : Term × ℕ) (key : Term) → i < length v → item ≡ get_or v i item → key ≡ multiply_term m item.0
    → AllKeys P (multiply_vector m v) → P key
multiple_has P m v i item key within is key_is h =
    AllKeys-at P (multiply_vector m v) i (key, item.1) (omega (arith, within, length-multiply m v)) (multiple_at m v i item (key, item.1) key within is key_is) h

-- one more multiple of a term in a sum
pub multiple_added : (before old new : ModuleVector) (factor product : ℕ) (m : List ℕ) (v : ModuleVector) (i : ℕ) (item : Term × ℕ) (key : Term) → i < length v → item ≡ get_or v i item
    → key ≡ multiply_term m item.0 → product ≡ factor * item.1 → ((w : Term → ℕ) → IsCongruent (weighted_sum w new) (weighted_sum w old + product * w key))
    → SameVector old (before ++ scale factor (multiply_vector m (take i v))) → SameVector new (before ++ scale factor (multiply_vector m (take (i + 1) v)))
multiple_added before old new factor product m v i item key within is key_is product_is added same =
    let front = multiply_vector m (take i v) in
    let more : front ++ (key, item.1) ∷ [] ≡ multiply_vector m (take (i + 1) v) = multiple_more m v front (front ++ (key, item.1) ∷ []) i item key within is key_is refl refl in
    SameCoefficients-from_weights same_term terms_decide new (before ++ scale factor (multiply_vector m (take (i + 1) v))) (λ w.
    let s = weighted_sum-SameCoefficients same_term terms_decide w old (before ++ scale factor front) same in
    record {
      same_residue = omega (
        arith,
        (added w).same_residue,
        s.same_residue,
        ap (λ x. x * w key) product_is,
        weighted_sum-append w before (scale factor front),
        weighted_sum-append w before (scale factor (multiply_vector m (take (i + 1) v))),
        weighted_sum-scale w factor front,
        weighted_sum-scale w factor (multiply_vector m (take (i + 1) v)),
        ap (λ (f : ModuleVector). factor * weighted_sum w f) more,
        weighted_sum-append w front ((key, item.1) ∷ []),
        ap (λ x. factor * x) (weighted_sum-append w front ((key, item.1) ∷ [])),
      );
    })

pub max_above : (a b : ℕ) → (a ≤ ord_max nat_cmp a b) × (b ≤ ord_max nat_cmp a b)
max_above a b =
    elim (nat_cmp b a) as (λ r. MatchOrdering r (b < a) (b ≡ a) (a < b) → (a ≤ cond (is_lt r) a b) × (b ≤ cond (is_lt r) a b)) [
      | Less ↦ λ less. (omega arith, omega arith)
      | Equal ↦ λ same. (omega arith, omega arith)
      | Greater ↦ λ more. (omega arith, omega arith)
    ] (ranks b a)

pub max_within : (a b m : ℕ) → a ≤ m → b ≤ m → ord_max nat_cmp a b ≤ m
max_within a b m h k =
    elim (nat_cmp b a) as (λ r. MatchOrdering r (b < a) (b ≡ a) (a < b) → cond (is_lt r) a b ≤ m) [
      | Less ↦ λ less. h
      | Equal ↦ λ same. k
      | Greater ↦ λ more. k
    ] (ranks b a)

-- what the test of the sums of a power product says
pub IsOfFirst-tested : (n variables : ℕ) (m sums : List ℕ) → 0 < n → n ≤ VARIABLES → IsMonomial m → sums ≡ running_sums 0 m → n ≡ variables
    → OnTrue (nat_eq (get_or sums (n - 1) 0) (get_or sums 11 0)) (IsOfFirst variables m)
IsOfFirst-tested n variables m sums some few monomial sums_are n_is =
    OnTrue_from _ (IsOfFirst variables m) (λ e.
    let same : get_or sums (n - 1) 0 ≡ get_or sums 11 0 = (unsigned_Decides (get_or sums (n - 1) 0) (get_or sums 11 0)).0 e in
    let at : get_or sums (n - 1) 0 ≡ partial_sum (n - 1 + 1) m = ap (λ s. get_or s (n - 1) 0) sums_are ∙ running_sums-at m (n - 1) (omega (arith, monomial.each_variable)) in
    let whole : get_or sums 11 0 ≡ partial_sum 12 m = ap (λ s. get_or s 11 0) sums_are ∙ running_sums-at m 11 (omega (arith, monomial.each_variable)) in
    let all : partial_sum 12 m ≡ sum m = ap sum (ap (λ k. take k m) (sym monomial.each_variable) ∙ take-length m) in
    subst (λ k. IsOfFirst k m) n_is (ap (λ k. partial_sum k m) (let e : n ≡ n - 1 + 1 = omega arith in e) ∙ sym at ∙ same ∙ whole ∙ all))

-- what the tests of a term say
pub HasPlace-tested : (n first count : ℕ) (of_first : Bool) (key now : Term) → key.0 < 256 → IsMonomial key.1 → sum key.1 ≤ RUN_DEGREE → key ≡ now → OnTrue of_first (IsOfFirst n key.1)
    → OnTrue ((of_first && nat_le first key.0) && nat_lt key.0 (first + count)) (HasPlace n first count now)
HasPlace-tested n first count of_first key now small monomial degree key_is tested =
    OnTrue_from _ (HasPlace n first count now) (λ e.
    let outer = both_true _ _ e in
    let inner = both_true _ _ outer.0 in
    let has : HasPlace n first count key =
    record {
      term = record { component = small; exponents = monomial.each_variable };
      degree = degree;
      variables = OnTrue_at inner.0 tested;
      from = leb-true first key.0 inner.1;
      upto = ltb-true key.0 (first + count) outer.1;
    }
    in
    subst (HasPlace n first count) key_is has)

-- a multiple of a term with a place has one
pub HasPlace-multiple : (n first count : ℕ) (m : List ℕ) (t : Term) → length m ≡ VARIABLES → IsOfFirst n m → HasPlace n first count t → sum (add_exponents m t.1) ≤ RUN_DEGREE
    → HasPlace n first count (multiply_term m t)
HasPlace-multiple n first count m t long of_first has small =
    record {
      term = IsTerm-multiply VARIABLES m t long has.term;
      degree = small;
      variables = omega (arith, partial_sum-add n m t.1 (long ∙ sym has.term.exponents), of_first, has.variables, sum-add_exponents m t.1);
      from = has.from;
      upto = has.upto;
    }

-- all terms of at most a degree have their places among those of the degree
pub IsReached-all : (n first count degree degrees places : ℕ) (f : ModuleVector) → degree + 1 < degrees → below n (degree + 1) * count ≤ places
    → AllKeys (HasPlace n first count) f → AllKeys (λ t. sum t.1 ≤ degree) f → AllKeys (IsReached n first count degrees places) f
IsReached-all n first count degree degrees places [] rows room h k = tt
IsReached-all n first count degree degrees places (t ∷ f) rows room h k = (
  record { has = h.0; degree = omega (arith, rows, k.0); within = omega (arith, room, place-within n first count degree t.0 h.0 k.0) },
  IsReached-all n first count degree degrees places f rows room h.1 k.1,
)

-- ---- the array of a window

append-zeros : (values : List ℕ) (k i : ℕ) → get_or (values ++ replicate k 0) i 0 ≡ get_or values i 0
append-zeros [] zero i = refl
append-zeros [] (suc k) zero = refl
append-zeros [] (suc k) (suc i) = append-zeros [] k i
append-zeros (v ∷ values) k zero = refl
append-zeros (v ∷ values) k (suc i) = append-zeros values k i

-- a value that is not zero stands within the array
not_past : (values : List ℕ) (i : ℕ) → 0 < get_or values i 0 → i < length values
not_past [] i h = absurd (omega arith)
not_past (v ∷ values) zero h = omega arith
not_past (v ∷ values) (suc i) h = omega (arith, not_past values i h)

zeroed_less : (values : List ℕ) (i j : ℕ) → get_or (set values i 0) j 0 ≤ get_or values j 0
zeroed_less [] i j = omega arith
zeroed_less (v ∷ values) zero zero = omega arith
zeroed_less (v ∷ values) zero (suc j) = omega arith
zeroed_less (v ∷ values) (suc i) zero = omega arith
zeroed_less (v ∷ values) (suc i) (suc j) = zeroed_less values i j

zeroed_at : (values : List ℕ) (i : ℕ) → get_or (set values i 0) i 0 ≡ 0
zeroed_at [] i = refl
zeroed_at (v ∷ values) zero = refl
zeroed_at (v ∷ values) (suc i) = zeroed_at values i

-- a block of zeros below other zeros
pub zeros_more : (values old : List ℕ) (top end block : ℕ) → values ≡ old → block ≤ top → ((j : ℕ) → get_or (take (top - (top - block)) (drop (top - block) values)) j 0 ≡ 0)
    → ((i : ℕ) → top ≤ i → i < end → get_or old i 0 ≡ 0) → (i : ℕ) → top - block ≤ i → i < end → get_or old i 0 ≡ 0
zeros_more values old top end block same within zeros above i from upto =
    ⊎_elim
    (λ (inside : i < top).
    let j = i - (top - block) in
    let at : top - block + j ≡ i = omega arith in
    ap (λ l. get_or l i 0) (sym same)
    ∙ ap (λ k. get_or values k 0) (sym at)
    ∙ sym (get_or-drop (top - block) values j 0)
    ∙ sym (get_or-take (top - (top - block)) (drop (top - block) values) j 0 (omega arith))
    ∙ zeros j)
    (λ (past : top ≤ i). above i past upto)
    (cases_lt i top)

module _ (high : ℕ → Bool) (n first count top : ℕ) (terms : List Term) (values : List ℕ) (h : IsWindow high n first count top terms values) where
  pub IsWindow-roomy : (more : List Term) (k : ℕ) → length values + k ≤ length (terms ++ more) → IsWindow high n first count top (terms ++ more) (values ++ replicate k 0)
  IsWindow-roomy more k room =
      let at : (i : ℕ) → 0 < get_or (values ++ replicate k 0) i 0 → 0 < get_or values i 0 = λ i p. omega (arith, p, append-zeros values k i) in
      let kept : (i : ℕ) → 0 < get_or values i 0 → get_or terms i (0, []) ≡ get_or (terms ++ more) i (0, []) =
      λ i p. sym (get_or_append_left terms more (0, []) i (omega (arith, not_past values i p, h.long)))
      in
      let long : length (values ++ replicate k 0) ≡ length values + k = length-append values (replicate k 0) ∙ ap (λ m. length values + m) (length-replicate {A = ℕ} k 0) in
      record {
        some = h.some;
        few = h.few;
        kind = h.kind;
        long = omega (arith, long, room);
        residues = λ i. omega (arith, append-zeros values k i, h.residues i);
        each = λ i p. subst (HasPlace n first count) (kept i (at i p)) (h.each i (at i p));
        places = λ i p. ap (place_of_term n first count) (sym (kept i (at i p))) ∙ h.places i (at i p);
        above = λ i past. append-zeros values k i ∙ h.above i past;
        within = omega (arith, h.within, long);
      }

  vector_of-roomy : (more : List Term) (k : ℕ) → vector_of (terms ++ more) (values ++ replicate k 0) ≡ vector_of terms values
  vector_of-roomy more k = vector_of-more_values (terms ++ more) values k ∙ vector_of-more_terms terms more values h.long

  pub IsWindow-widened : (other new_top : ℕ) (new_terms : List Term) (new_values : List ℕ) → other ≡ n → new_top ≡ top → IsWidened terms new_terms values new_values
      → IsWindow high other first count new_top new_terms new_values
  IsWindow-widened other new_top new_terms new_values same_n same_top w =
      let size : length new_values ≡ length values + w.zeros = ap length w.values_are ∙ length-append values (replicate w.zeros 0) ∙ ap (λ m. length values + m) (length-replicate {A = ℕ} w.zeros 0) in
      let wide = IsWindow-roomy w.more w.zeros (omega (arith, size, w.long, ap length w.terms_are)) in
      subst (λ k. IsWindow high k first count new_top new_terms new_values) (sym same_n)
      (subst (λ k. IsWindow high n first count k new_terms new_values) (sym same_top)
      (subst (λ (l : List Term). IsWindow high n first count top l new_values) (sym w.terms_are)
      (subst (λ (l : List ℕ). IsWindow high n first count top (terms ++ w.more) l) (sym w.values_are) wide)))

  pub vector_of-widened : (new_terms : List Term) (new_values : List ℕ) → IsWidened terms new_terms values new_values → vector_of new_terms new_values ≡ vector_of terms values
  vector_of-widened new_terms new_values w = (λ i. vector_of (w.terms_are i) (w.values_are i)) ∙ vector_of-roomy w.more w.zeros

  -- the values from a place on are zero
  pub IsWindow-lowered : (new : ℕ) → new ≤ top → ((i : ℕ) → new ≤ i → i < top → get_or values i 0 ≡ 0) → IsWindow high n first count new terms values
  IsWindow-lowered new less zeros =
      record {
        some = h.some;
        few = h.few;
        kind = h.kind;
        long = h.long;
        residues = h.residues;
        each = h.each;
        places = h.places;
        above = λ i past. ⊎_elim (λ (inside : i < top). zeros i past inside) (λ (outside : top ≤ i). h.above i outside) (cases_lt i top);
        within = omega (arith, h.within, less);
      }

  pub IsWindow-settled : (new : ℕ) (new_terms : List Term) (new_values : List ℕ) → new_terms ≡ terms → new_values ≡ values → new ≤ top → ((i : ℕ) → new ≤ i → i < top → get_or values i 0 ≡ 0)
      → IsWindow high n first count new new_terms new_values
  IsWindow-settled new new_terms new_values terms_same values_same less zeros =
      subst (λ (l : List Term). IsWindow high n first count new l new_values) (sym terms_same)
      (subst (λ (l : List ℕ). IsWindow high n first count new terms l) (sym values_same) (IsWindow-lowered new less zeros))

  pub vector_of-empty : top ≡ 0 → vector_of terms values ≡ []
  vector_of-empty none = vector_of-none terms values (λ i. h.above i (omega arith))

  -- a vector that is not zero has a greatest place
  pub some_top : (order : Term → Term → Ordering) (v : ModuleVector) → normal_form order (vector_of terms values) ≡ v → 0 < length v → 1 ≤ top
  some_top order v is some =
      ⊎_elim
      (λ (more : 0 < top). omega (arith, more))
      (λ (none : top ≤ 0). absurd (omega (arith, some, ap length is, ap (λ (f : ModuleVector). length (normal_form order f)) (vector_of-empty (omega (arith, none))))))
      (cases_lt 0 top)

  -- the greatest value becomes zero
  pub IsWindow-skipped : (i : ℕ) → top ≡ i + 1 → IsWindow high n first count i terms (set values i 0)
  IsWindow-skipped i last =
      let at : (j : ℕ) → 0 < get_or (set values i 0) j 0 → 0 < get_or values j 0 = λ j p. omega (arith, p, zeroed_less values i j) in
      record {
        some = h.some;
        few = h.few;
        kind = h.kind;
        long = omega (arith, h.long, length-set values i 0);
        residues = λ j. omega (arith, zeroed_less values i j, h.residues j);
        each = λ j p. h.each j (at j p);
        places = λ j p. h.places j (at j p);
        above = λ j past. zeroed_above j past;
        within = omega (arith, h.within, last, length-set values i 0);
      }
    where
      zeroed_above : (j : ℕ) → i ≤ j → get_or (set values i 0) j 0 ≡ 0
      zeroed_above j past =
          ⊎_elim
          (λ (here : j < i + 1). ap (λ k. get_or (set values i 0) k 0) (let e : j ≡ i = omega arith in e) ∙ zeroed_at values i)
          (λ (later : i + 1 ≤ j). omega (arith, zeroed_less values i j, h.above j (omega (arith, last))))
          (cases_lt j (i + 1))

module _ {order : Term → Term → Ordering} {high : ℕ → Bool} {height : Term → ℕ} {bound : ℕ} (laws : IsTermOrder VARIABLES order high height bound)
    (n first count top : ℕ) (terms : List Term) (values : List ℕ) (h : IsWindow high n first count top terms values) where
  -- the vector is one within the limits
  pub IsBounded-window : IsBounded order (normal_form order (vector_of terms values))
  IsBounded-window =
      record {
        vector = IsVector-normal laws (normal_form order (vector_of terms values)) (vector_of terms values) refl (AllKeys-vector_of (IsTerm VARIABLES) terms values (λ i p. (h.each i p).term));
        within = AllKeys-normal laws (λ t. sum t.1 ≤ RUN_DEGREE) (normal_form order (vector_of terms values)) (vector_of terms values) refl
            (AllKeys-vector_of (λ t. sum t.1 ≤ RUN_DEGREE) terms values (λ i p. (h.each i p).degree));
      }

  -- the greatest place has the lead
  pub lead_first : (i : ℕ) → top ≡ i + 1 → 0 < get_or values i 0
      → normal_form order (vector_of terms values) ≡ (get_or terms i (0, []), get_or values i 0) ∷ normal_form order (vector_of terms (set values i 0))
  lead_first i last some =
      let lead = get_or terms i (0, []) in
      let v = get_or values i 0 in
      let rest = vector_of terms (set values i 0) in
      let lower : AllKeys (λ u. order lead u ≡ Greater) rest =
      AllKeys-vector_of (λ u. order lead u ≡ Greater) terms (set values i 0) (λ j p.
      let q : 0 < get_or values j 0 = omega (arith, p, zeroed_less values i j) in
      let below : j < i = before i last j p q in
      place-order laws n first count h.few h.kind lead (get_or terms j (0, [])) (h.each i some) (h.each j q) (omega (arith, below, h.places i some, h.places j q)))
      in
      sym (is_normal_form laws ((lead, v) ∷ normal_form order rest) (vector_of terms values) (
        some,
        h.residues i,
        AllKeys-normal_form order laws.total laws.unique (λ u. order lead u ≡ Greater) rest lower,
        IsCanonical-normal_form order laws.total laws.unique rest,
      )
      (SameCoefficients-from_weights same_term terms_decide ((lead, v) ∷ normal_form order rest) (vector_of terms values) (λ w.
      record {
        same_residue = omega (
          arith,
          (weighted_sum-normal_form order laws.total laws.unique w rest).same_residue,
          weighted_sum-value_set w terms values i (0, []) 0 (omega (arith, h.within, last)) h.long,
        );
      })))
    where
      before : (i : ℕ) → top ≡ i + 1 → (j : ℕ) → 0 < get_or (set values i 0) j 0 → 0 < get_or values j 0 → j < i
      before i last j p q =
          ⊎_elim
          (λ (less : j < i). less)
          (λ (past : i ≤ j).
          ⊎_elim
          (λ (here : j < i + 1). absurd (omega (arith, p, zeroed_at values i, ap (λ k. get_or (set values i 0) k 0) (let e : j ≡ i = omega arith in e))))
          (λ (later : i + 1 ≤ j). absurd (omega (arith, q, h.above j (omega (arith, last)))))
          (cases_lt j (i + 1)))
          (cases_lt j i)

  -- a multiple of a term added at its place
  module _ (key : Term) (i product value : ℕ) (new_terms : List Term) (new_values : List ℕ)
      (has : HasPlace n first count key) (key_at : i ≡ place_of_term n first count key) (within : i < length values)
      (value_is : value ≡ (get_or values i 0 + product) % 2147483647)
      (terms_are : new_terms ≡ (if get_or values i 0 == 0 then set terms i key else terms)) (values_are : new_values ≡ set values i value) where
    stored : (b : Bool) → (get_or values i 0 == 0) ≡ b → get_or (if b then set terms i key else terms) i (0, []) ≡ key
    stored true e = get_or-set_same terms i key (0, []) (omega (arith, within, h.long))
    stored false e =
        let p = positive (get_or values i 0) e in
        place-unique laws n first count h.few h.kind (get_or terms i (0, [])) key (h.each i p) has (h.places i p ∙ key_at)

    kept : (b : Bool) (j : ℕ) → j ≢ i → get_or (if b then set terms i key else terms) j (0, []) ≡ get_or terms j (0, [])
    kept true j apart = get_or-set_other terms i j key (0, []) apart
    kept false j apart = refl

    as_long : (b : Bool) → length (if b then set terms i key else terms) ≡ length terms
    as_long true = length-set terms i key
    as_long false = refl

    term_here : get_or new_terms i (0, []) ≡ key
    term_here = ap (λ (l : List Term). get_or l i (0, [])) terms_are ∙ stored (get_or values i 0 == 0) refl

    term_other : (j : ℕ) → j ≢ i → get_or new_terms j (0, []) ≡ get_or terms j (0, [])
    term_other j apart = ap (λ (l : List Term). get_or l j (0, [])) terms_are ∙ kept (get_or values i 0 == 0) j apart

    value_here : get_or new_values i 0 ≡ value
    value_here = ap (λ l. get_or l i 0) values_are ∙ get_or-set_same values i value 0 within

    value_other : (j : ℕ) → j ≢ i → get_or new_values j 0 ≡ get_or values j 0
    value_other j apart = ap (λ l. get_or l j 0) values_are ∙ get_or-set_other values i j value 0 apart

    at_each : (P : ℕ → Type 0) → P i → ((j : ℕ) → j ≢ i → P j) → (j : ℕ) → P j
    at_each P here other j =
        ⊎_elim
        (λ (e : (eqb j i ≡ true) × (j ≡ i)). subst P (sym e.1) here)
        (λ (e : (eqb j i ≡ false) × (j ≢ i)). other j e.1)
        (eqb_tells j i)

    pub IsWindow-added : IsWindow high n first count (max top (i + 1)) new_terms new_values
    IsWindow-added =
        let long : length new_values ≡ length values = ap length values_are ∙ length-set values i value in
        let wide : length new_terms ≡ length terms = ap length terms_are ∙ as_long (get_or values i 0 == 0) in
        record {
          some = h.some;
          few = h.few;
          kind = h.kind;
          long = omega (arith, long, wide, h.long);
          residues = at_each (λ j. get_or new_values j 0 < 2147483647) (omega (arith, value_here, value_is)) (λ j apart. omega (arith, value_other j apart, h.residues j));
          each = at_each (λ j. 0 < get_or new_values j 0 → HasPlace n first count (get_or new_terms j (0, []))) (λ p. subst (HasPlace n first count) (sym term_here) has)
              (λ j apart p. subst (HasPlace n first count) (sym (term_other j apart)) (h.each j (omega (arith, p, value_other j apart))));
          places = at_each (λ j. 0 < get_or new_values j 0 → place_of_term n first count (get_or new_terms j (0, [])) ≡ j) (λ p. ap (place_of_term n first count) term_here ∙ sym key_at)
              (λ j apart p. ap (place_of_term n first count) (term_other j apart) ∙ h.places j (omega (arith, p, value_other j apart)));
          above = λ j past. value_other j (λ e. absurd (omega (arith, past, e))) ∙ h.above j (omega (arith, past));
          within = omega (arith, h.within, within, long);
        }

    weights_if : (w : Term → ℕ) (b : Bool) → (get_or values i 0 == 0) ≡ b
        → weighted_sum w (vector_of (if b then set terms i key else terms) (set values i value)) + get_or values i 0 * w key ≡ weighted_sum w (vector_of terms values) + value * w key
    weights_if w true e =
        let none : get_or values i 0 ≡ 0 = (unsigned_Decides (get_or values i 0) 0).0 e in
        omega (
          arith,
          weighted_sum-vector_set w terms values i key (0, []) value within h.long,
          ap (λ x. x * w key) none,
          ap (λ x. x * w (get_or terms i (0, []))) none,
        )
    weights_if w false e =
        omega (
          arith,
          weighted_sum-value_set w terms values i (0, []) value within h.long,
          ap (λ (t : Term). get_or values i 0 * w t) (stored false e),
          ap (λ (t : Term). value * w t) (stored false e),
        )

    pub weights_added : (w : Term → ℕ) → IsCongruent (weighted_sum w (vector_of new_terms new_values)) (weighted_sum w (vector_of terms values) + product * w key)
    weights_added w =
        let all = ap (λ (l : List Term). weighted_sum w (vector_of l (set values i value))) terms_are in
        let sums = ap (λ (l : List ℕ). weighted_sum w (vector_of new_terms l)) values_are in
        let multiple : IsCongruent (value * w key) ((get_or values i 0 + product) * w key) = IsCongruent-mul (record { same_residue = omega (arith, value_is) }) (IsCongruent-refl (w key)) in
        record { same_residue = omega (arith, weights_if w (get_or values i 0 == 0) refl, all, sums, multiple.same_residue) }
