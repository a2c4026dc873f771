-- The powers of an integral beside a seed: how they are written place by place, and that they are in range.
use Rattle.std.proofs.Common.{◌≡◌, ◌≢◌, ℕ, sum, ◌+◌, ◌<◌, ◌≤◌, ⊎_elim, List, [], ◌∷◌, ◌++◌, length, get_or, set, take, refl, sym, ap, subst, ◌∙◌, arith, get_or-set_same, get_or-set_other}
use Rattle.std.specs.Prelude.{ℤ, pos, ◌+ℤ◌, ◌-ℤ◌, ◌≤ℤ◌, ◌<ℤ◌, neg_ℤ}
use Rattle.std.proofs.Math.ListN.{length-set}
use Rattle.std.proofs.lemmas.Int.{ints}
use Rattle.std.proofs.lemmas.Bool.{cases_eq}
use Rattle.std.proofs.lemmas.List.{ext_get_or, take_more, take_more_set, take_all, length-take-le, get_or-take, get_or_default, get_or_append_left, length-map}
use Rattle.std.proofs.Math.Seq.{take-append_seam}
use Rattle.std.proofs.lemmas.List.{length-append}
use Rattle.ibp_algebra.specs.Exponents.{first_exponents}
use Rattle.ibp_algebra.specs.Laurent.{add_powers, power_at}
use Rattle.ibp_algebra.specs.Identity.{negated}
use Rattle.ibp_algebra.proofs.ExponentLaws.{length-padded_sum, length-padded_sum_short, length-first_exponents, get_or-first_exponents}
use Rattle.ibp_algebra.proofs.SumOfExponents.{get_or-le-sum}
use Rattle.mono_order.specs.declared.limits.TheConstants.{MONO_DEGREE, VARIABLES}
use Rattle.sector_lattice.specs.declared.integral.TheConstants.{POWER}
use Rattle.sector_lattice.specs.Ranges.{InRange}
use Rattle.family.specs.Shapes.{ArePowers}
use Rattle.ibp_relation.specs.Shifts.{plus_unit, powers_of}
use Rattle.ibp_relation.specs.Templates.{IsOffset}
use Rattle.ibp_relation.proofs.NoRise.{own_unit, other_unit, power_of_sum, power_of_negated, power_of_exponents, shifted}
use Rattle.ibp_relation.proofs.Rows.{shifted_long, length-plus_unit}

-- ---- places that are written in turn

-- the first places have what is wanted
pub record WrittenBelow {X : Type 0} (wanted : List X) (i : ℕ) (places : List X) : Type 0 where
  pub each_variable : length places ≡ VARIABLES
  pub written : take i places ≡ take i wanted

-- one more place is written
pub written_step : {X : Type 0} (wanted places : List X) (i : ℕ) (x d : X) → length wanted ≤ VARIABLES → i < length wanted → x ≡ get_or wanted i d → WrittenBelow wanted i places
    → WrittenBelow wanted (i + 1) (set places i x)
written_step {X} wanted places i x d few h value e =
    record {
      each_variable = rw length-set e.each_variable;
      written = take_more_set places i x (omega (arith, e.each_variable)) ∙ ap (λ (l : List X). l ++ x ∷ []) e.written ∙ ap (λ (y : X). take i wanted ++ y ∷ []) value
          ∙ sym (take_more wanted i d h);
    }

-- all places are written
pub written_whole : {X : Type 0} (wanted places : List X) (i n : ℕ) → length wanted ≤ i → i ≤ length wanted → n ≡ length wanted → WrittenBelow wanted i places → take n places ≡ wanted
written_whole wanted places i n whole within count e =
    let end : n ≡ i = omega arith in
    ap (λ k. take k places) end ∙ e.written ∙ take_all i wanted whole

-- ---- the exponents with the sign turned

-- the exponent of a variable as a power
pub power_of_monomial : (n place : ℕ) (m : List ℕ) → place < n → power_at (powers_of n m) place ≡ pos (get_or m place 0)
power_of_monomial n place m h = power_of_exponents (first_exponents n m) place ∙ ap pos (get_or-first_exponents n place m h)

pub opposite_long : (n : ℕ) (m : List ℕ) → length (negated (powers_of n m)) ≡ n
opposite_long n m = length-map (powers_of n m) neg_ℤ ∙ length-map (first_exponents n m) pos ∙ length-first_exponents n m

pub opposite_at : (n : ℕ) (m : List ℕ) (k : ℕ) → k < n → power_at (negated (powers_of n m)) k ≡ neg_ℤ (pos (get_or m k 0))
opposite_at n m k h = power_of_negated (powers_of n m) k ∙ ap neg_ℤ (power_of_monomial n k m h)

pub opposite_in_range : (n : ℕ) (m : List ℕ) → 1 ≤ n → n ≤ VARIABLES → sum m ≤ MONO_DEGREE → InRange (negated (powers_of n m))
opposite_in_range n m some few degree = record {
  some = omega (arith, opposite_long n m);
  few = omega (arith, opposite_long n m);
  small = λ k d within.
      let below : k < n = omega (arith, opposite_long n m) in
      let value : get_or (negated (powers_of n m)) k d ≡ neg_ℤ (pos (get_or m k 0)) = get_or_default (negated (powers_of n m)) k d (pos 0) within ∙ opposite_at n m k below in
      let exponent = get_or-le-sum m k in
      rw value (omega (arith, ints), omega (arith, ints));
}

-- ---- an offset added

pub moved_long : (α offset : List ℤ) → length offset ≡ length α → length (add_powers α offset) ≡ length α
moved_long α offset h = length-padded_sum ◌+ℤ◌ (length α) α offset refl h

pub moved_in_range : (α offset : List ℤ) → InRange α → ArePowers (length α) α → length offset ≡ length α → IsOffset offset → InRange (add_powers α offset)
moved_in_range α offset h powers count small_offset = record {
  some = omega (arith, h.some, moved_long α offset count);
  few = omega (arith, h.few, moved_long α offset count);
  small = λ k d within.
      let below : k < length offset = omega (arith, moved_long α offset count, count) in
      let value : get_or (add_powers α offset) k d ≡ power_at α k +ℤ power_at offset k =
      get_or_default (add_powers α offset) k d (pos 0) within ∙ power_of_sum α offset k
      in
      let low = powers.low k in
      let high = powers.high k in
      let small = small_offset k (pos 0) below in
      let least = small.0 in
      let most = small.1 in
      rw value (omega (arith, ints), omega (arith, ints));
}

-- ---- all powers lowered

-- the powers less the exponents
abbrev pub less : List ℤ → List ℕ → List ℤ
less α m = add_powers α (negated (powers_of (length α) m))

less_long : (α : List ℤ) (m : List ℕ) → length (less α m) ≡ length α
less_long α m = shifted_long (length α) α m refl

less_at : (α : List ℤ) (m : List ℕ) (j : ℕ) → j < length α → power_at (less α m) j ≡ power_at α j -ℤ pos (get_or m j 0)
less_at α m j h = shifted α (first_exponents (length α) m) j ∙ ap (λ x. power_at α j -ℤ pos x) (get_or-first_exponents (length α) j m h)

pub less_in_range : (α : List ℤ) (m : List ℕ) → InRange α → ArePowers (length α) α → sum m ≤ MONO_DEGREE → InRange (less α m)
less_in_range α m h small degree = record {
  some = omega (arith, h.some, less_long α m);
  few = omega (arith, h.few, less_long α m);
  small = λ k d within.
      let below : k < length α = omega (arith, less_long α m) in
      let value : get_or (less α m) k d ≡ power_at α k -ℤ pos (get_or m k 0) = get_or_default (less α m) k d (pos 0) within ∙ less_at α m k below in
      let low = small.low k in
      let high = small.high k in
      let exponent = get_or-le-sum m k in
      rw value (omega (arith, ints), omega (arith, ints));
}

-- ---- one power raised

raised_place : (powers : List ℤ) (i : ℕ) → i < length powers → (j : ℕ)
    → get_or (set powers i (get_or powers i (pos 0) +ℤ pos 1)) j (pos 0) ≡ get_or powers j (pos 0) +ℤ power_at (plus_unit i) j
raised_place powers i within j =
    ⊎_elim
    (λ (e : i ≡ j).
    subst (λ k. get_or (set powers i (get_or powers i (pos 0) +ℤ pos 1)) k (pos 0) ≡ get_or powers k (pos 0) +ℤ power_at (plus_unit i) k) e
    (rw (own_unit i) (get_or-set_same powers i _ (pos 0) within)))
    (λ (apart : i ≢ j). let other : j ≢ i = λ e. apart (sym e) in rw (other_unit i j apart) (get_or-set_other powers i j _ (pos 0) other ∙ omega (arith, ints)))
    (cases_eq i j)

pub raised_powers : (powers α : List ℤ) (n i : ℕ) (x : ℤ) → n ≤ length powers → take n powers ≡ α → i < n → x ≡ get_or powers i (pos 0) +ℤ pos 1
    → take n (set powers i x) ≡ add_powers α (plus_unit i)
raised_powers powers α n i x fits first below e =
    let within : i < length powers = omega arith in
    let long : length α ≡ n = ap length (sym first) ∙ length-take-le n powers fits in
    let whole : length (take n (set powers i x)) ≡ n = length-take-le n (set powers i x) (rw length-set fits) in
    let sum_long = length-padded_sum_short ◌+ℤ◌ n α (plus_unit i) long (omega (arith, length-plus_unit i)) in
    ext_get_or (pos 0) (take n (set powers i x)) (add_powers α (plus_unit i)) (whole ∙ sym sum_long)
    (λ j inside.
    let small : j < n = omega (arith, whole) in
    get_or-take n (set powers i x) j (pos 0) small ∙ ap (λ v. get_or (set powers i v) j (pos 0)) e ∙ raised_place powers i within j
    ∙ ap (λ v. v +ℤ power_at (plus_unit i) j) (sym (get_or-take n powers j (pos 0) small) ∙ ap (λ (l : List ℤ). get_or l j (pos 0)) first)
    ∙ sym (power_of_sum α (plus_unit i) j))

raised_small : (α : List ℤ) (i k : ℕ) → InRange α → power_at α i <ℤ POWER → k < length α
    → (neg_ℤ POWER ≤ℤ (power_at α k +ℤ power_at (plus_unit i) k)) × ((power_at α k +ℤ power_at (plus_unit i) k) ≤ℤ POWER)
raised_small α i k h room below =
    let within = h.small k (pos 0) below in
    let low = within.0 in
    let high = within.1 in
    ⊎_elim
    (λ (e : i ≡ k).
    let unit : power_at (plus_unit i) k ≡ pos 1 = ap (power_at (plus_unit i)) (sym e) ∙ own_unit i in
    let here : power_at α k <ℤ POWER = subst (λ j. power_at α j <ℤ POWER) e room in
    rw unit (omega (arith, ints), omega (arith, ints)))
    (λ (apart : i ≢ k). rw (other_unit i k apart) (omega (arith, ints), omega (arith, ints)))
    (cases_eq i k)

pub raised_in_range : (α : List ℤ) (i : ℕ) → InRange α → i < length α → power_at α i <ℤ POWER → InRange (add_powers α (plus_unit i))
raised_in_range α i h below room =
    let long = length-padded_sum_short ◌+ℤ◌ (length α) α (plus_unit i) refl (omega (arith, length-plus_unit i)) in
    record {
      some = omega (arith, h.some, long);
      few = omega (arith, h.few, long);
      small = λ k d within.
          let value : get_or (add_powers α (plus_unit i)) k d ≡ power_at α k +ℤ power_at (plus_unit i) k =
          get_or_default (add_powers α (plus_unit i)) k d (pos 0) within ∙ power_of_sum α (plus_unit i) k
          in
          rw value (raised_small α i k h room (omega (arith, long)));
    }

-- the powers of an integral, copied in front of others, with one raised
pub raised_copy : (copied rest α : List ℤ) (n place i : ℕ) (x : ℤ) → copied ≡ α → n ≡ length α → place ≡ i → i < length α → x ≡ power_at α i +ℤ pos 1
    → take n (set (copied ++ rest) place x) ≡ add_powers α (plus_unit i)
raised_copy copied rest α n place i x same count here below e =
    let long : length copied ≡ n = ap length same ∙ sym count in
    let first : take n (copied ++ rest) ≡ α = ap (λ k. take k (copied ++ rest)) (sym long) ∙ take-append_seam copied rest ∙ same in
    let at : get_or (copied ++ rest) i (pos 0) ≡ power_at α i = get_or_append_left copied rest (pos 0) i (omega arith) ∙ ap (λ k. power_at k i) same in
    ap (λ j. take n (set (copied ++ rest) j x)) here
    ∙ raised_powers (copied ++ rest) α n i x (omega (arith, length-append copied rest)) first (omega arith) (e ∙ ap (λ v. v +ℤ pos 1) (sym at))

pub raised_power : (copied rest α : List ℤ) (place i : ℕ) → copied ≡ α → place ≡ i → i < length α → get_or (copied ++ rest) place (pos 0) ≡ power_at α i
raised_power copied rest α place i same here below =
    ap (λ j. get_or (copied ++ rest) j (pos 0)) here
    ∙ get_or_append_left copied rest (pos 0) i (omega (arith, ap length same)) ∙ ap (λ k. power_at k i) same
