-- The kept rows and their reduced forms span the same.
use Rattle.std.proofs.Common.{◌≡◌, ◌≢◌, ℕ, zero, suc, ◌<◌, ◌≤◌, Bool, true, false, if◌then◌else◌, ◌==◌, List, [], ◌∷◌, ◌++◌, length, map, append_assoc, append-nil, sym, refl, subst, ◌∙◌, ⊎_elim, arith}
use Rattle.std.specs.Prelude.{ℤ, All, Contains}
use Rattle.std.specs.Ordering.{eq_by_cmp}
use Rattle.std.proofs.lemmas.Bool.{cases_lt}
use Rattle.std.proofs.lemmas.Bool.Decides.{Decides-eqb}
use Rattle.ibp_base.proofs.Members.{in_tail}
use Rattle.sector_lattice.specs.Sectors.{integral_cmp}
use Rattle.sector_lattice.specs.Orders.{integral_cmp_total, same_integrals, integrals_decide}
use Rattle.ibp_algebra.specs.FormalSum.{FormalSum, AllKeys, scale, normal_form}
use Rattle.ibp_algebra.proofs.Weights.{unit_weight, weighted_sum-append, weighted_sum-scale}
use Rattle.ibp_algebra.proofs.SumLaws.{SameCoefficients-sym}
use Rattle.ibp_algebra.proofs.NormalForm.{SameCoefficients-normal_form}
use Rattle.ibp_algebra.specs.Combination.{combination}
use Rattle.ibp_algebra.specs.Spans.{row_at, InSpan}
use Rattle.sparse_rows.specs.Rows.{IntegralSum, SameRow}
use Rattle.ibp_algebra.proofs.Members.{IsSubspace, InSpan-IsSubspace, InSpan-row, InSpan-trans, combination_in}
use Rattle.row_echelon.specs.declared.kept.Kept.{Kept}
use Rattle.row_echelon.specs.Echelons.{KeptRows, row_numbered, IsNumber, InKeptSpan}
use Rattle.row_echelon.specs.KeptRows.{Entries, reduced_rows, originals, Ascends}

-- ---- rows by place

pub row_at-before : {K : Type 0} (xs ys : List (FormalSum K)) (i : ℕ) → i < length xs → row_at (xs ++ ys) i ≡ row_at xs i
row_at-before [] ys i within = absurd (omega arith)
row_at-before (x ∷ xs) ys zero within = refl
row_at-before (x ∷ xs) ys (suc i) within = row_at-before xs ys i (omega arith)

pub row_at-here : {K : Type 0} (xs : List (FormalSum K)) (y : FormalSum K) (ys : List (FormalSum K)) → row_at (xs ++ y ∷ ys) (length xs) ≡ y
row_at-here [] y ys = refl
row_at-here (x ∷ xs) y ys = row_at-here xs y ys

pub row_at-past : {K : Type 0} (xs : List (FormalSum K)) (i : ℕ) → length xs ≤ i → row_at xs i ≡ []
row_at-past [] i past = refl
row_at-past (x ∷ xs) zero past = absurd (omega arith)
row_at-past (x ∷ xs) (suc i) past = row_at-past xs i (omega arith)

pub length-reduced_rows : (es : Entries) → length (reduced_rows es) ≡ length es
length-reduced_rows [] = refl
length-reduced_rows (e ∷ es) = omega (arith, length-reduced_rows es)

-- V holds of each kept row
abbrev pub AllRows : (IntegralSum → Type 0) → KeptRows → Type 0
AllRows V [] = Unit {0}
AllRows V (kept ∷ others) = V kept.1 × AllRows V others

-- any names at all
abbrev pub AnyPlace : ℕ → Type 0
AnyPlace place = Unit {0}

any_places : (c : FormalSum ℕ) → AllKeys AnyPlace c
any_places [] = tt
any_places (t ∷ c) = (tt, any_places c)

-- the kept row of an entry behind these reduced rows, before its terms are put in order
abbrev pub original : List IntegralSum → List ℤ × Kept → IntegralSum
original before e = e.1.reduced ++ combination (row_at before) e.1.steps.items

pub normal_is : (f : IntegralSum) → SameRow (normal_form integral_cmp f) f
normal_is f = SameCoefficients-normal_form integral_cmp integral_cmp_total same_integrals (eq_by_cmp integral_cmp) integrals_decide f

-- what is added may be taken off
pub taken_off : (f g : IntegralSum) → SameRow ((f ++ g) ++ scale 2147483646 g) f
taken_off f g = record {
  same_at = λ key.
      omega (
        arith,
        weighted_sum-append (unit_weight (eq_by_cmp integral_cmp) key) (f ++ g) (scale 2147483646 g),
        weighted_sum-append (unit_weight (eq_by_cmp integral_cmp) key) f g,
        weighted_sum-scale (unit_weight (eq_by_cmp integral_cmp) key) 2147483646 g,
      );
}

module _ (V : IntegralSum → Type 0) (space : IsSubspace integral_cmp V) where
  at_end : (before : List IntegralSum) (r : IntegralSum) → ((i : ℕ) → V (row_at before i)) → V r → (i : ℕ) → V (row_at (before ++ r ∷ []) i)
  at_end before r h k i =
      ⊎_elim
      (λ (early : i < length before). subst V (sym (row_at-before before (r ∷ []) i early)) (h i))
      (λ (late : length before ≤ i).
      ⊎_elim
      (λ (past : length before < i). subst V (sym (past_end before r i past)) space.none)
      (λ (here : i ≤ length before).
      let is : length before ≡ i = omega arith in
      subst (λ n. V (row_at (before ++ r ∷ []) n)) is (subst V (sym (row_at-here before r [])) k))
      (cases_lt (length before) i))
      (cases_lt i (length before))
    where
      past_end : (before : List IntegralSum) (r : IntegralSum) (i : ℕ) → length before < i → row_at (before ++ r ∷ []) i ≡ []
      past_end [] r zero past = absurd (omega arith)
      past_end [] r (suc i) past = refl
      past_end (x ∷ before) r zero past = absurd (omega arith)
      past_end (x ∷ before) r (suc i) past = past_end before r i (omega arith)

  -- where the kept rows lie in V, so do their reduced forms
  pub rows_in : (before : List IntegralSum) → ((i : ℕ) → V (row_at before i)) → (es : Entries) → AllRows V (originals before es)
      → (i : ℕ) → V (row_at (before ++ reduced_rows es) i)
  rows_in before h [] k i = subst (λ (rows : List IntegralSum). V (row_at rows i)) (sym (append-nil before)) (h i)
  rows_in before h (e ∷ es) k i =
      let steps = combination (row_at before) e.1.steps.items in
      let steps_in : V steps = combination_in integral_cmp V space (row_at before) AnyPlace (λ j _. h j) e.1.steps.items (any_places e.1.steps.items) in
      let reduced_in : V e.1.reduced =
      space.alike ((e.1.reduced ++ steps) ++ scale 2147483646 steps) e.1.reduced (taken_off e.1.reduced steps)
      (space.append (e.1.reduced ++ steps) (scale 2147483646 steps)
      (space.alike (normal_form integral_cmp (e.1.reduced ++ steps)) (e.1.reduced ++ steps) (normal_is (e.1.reduced ++ steps)) k.0)
      (space.multiple 2147483646 steps steps_in))
      in
      subst (λ (rows : List IntegralSum). V (row_at rows i)) (append_assoc before (e.1.reduced ∷ []) (reduced_rows es))
      (rows_in (before ++ e.1.reduced ∷ []) (at_end before e.1.reduced h reduced_in) es k.1 i)

  -- and the other way round
  pub originals_in : (before : List IntegralSum) (es : Entries) → ((i : ℕ) → V (row_at (before ++ reduced_rows es) i)) → AllRows V (originals before es)
  originals_in before [] h = tt
  originals_in before (e ∷ es) h =
      let earlier : (j : ℕ) → V (row_at before j) = λ j.
      ⊎_elim
      (λ (early : j < length before). subst V (row_at-before before (e.1.reduced ∷ reduced_rows es) j early) (h j))
      (λ (past : length before ≤ j). subst V (sym (row_at-past before j past)) space.none)
      (cases_lt j (length before))
      in
      let whole : V (original before e) =
      space.append e.1.reduced (combination (row_at before) e.1.steps.items)
      (subst V (row_at-here before e.1.reduced (reduced_rows es)) (h (length before)))
      (combination_in integral_cmp V space (row_at before) AnyPlace (λ j _. earlier j) e.1.steps.items (any_places e.1.steps.items))
      in (
        space.alike (original before e) (normal_form integral_cmp (original before e)) (SameCoefficients-sym (normal_is (original before e))) whole,
        originals_in (before ++ e.1.reduced ∷ []) es (λ i. subst (λ (rows : List IntegralSum). V (row_at rows i)) (sym (append_assoc before (e.1.reduced ∷ []) (reduced_rows es))) (h i)),
      )

  numbered_step : (kept : ℕ × IntegralSum) (others : KeptRows) (n : ℕ) (b : Bool) → V kept.1 → V (row_numbered others n) → V (if b then kept.1 else row_numbered others n)
  numbered_step kept others n true h k = h
  numbered_step kept others n false h k = k

  pub numbered_in : (kept : KeptRows) → AllRows V kept → (n : ℕ) → V (row_numbered kept n)
  numbered_in [] h n = space.none
  numbered_in (k ∷ others) h n = numbered_step k others n (k.0 == n) h.0 (numbered_in others h.1 n)

-- ---- rows by number

row_here_step : (kept : ℕ × IntegralSum) (others : KeptRows) (n : ℕ) (b : Bool) → (kept.0 == n) ≡ b → kept.0 ≡ n → (if b then kept.1 else row_numbered others n) ≡ kept.1
row_here_step kept others n true e is = refl
row_here_step kept others n false e is = let same : (kept.0 == n) ≡ true = (Decides-eqb kept.0 n).1 is in absurd (let clash : ◌≡◌ {A = Bool} true false = sym same ∙ e in cc)

pub row_numbered-here : (kept : ℕ × IntegralSum) (others : KeptRows) (n : ℕ) → kept.0 ≡ n → row_numbered (kept ∷ others) n ≡ kept.1
row_numbered-here kept others n is = row_here_step kept others n (kept.0 == n) refl is

row_later_step : (kept : ℕ × IntegralSum) (others : KeptRows) (n : ℕ) (b : Bool) → (kept.0 == n) ≡ b → kept.0 ≢ n → (if b then kept.1 else row_numbered others n) ≡ row_numbered others n
row_later_step kept others n true e other = absurd (other ((Decides-eqb kept.0 n).0 e))
row_later_step kept others n false e other = refl

pub row_numbered-later : (kept : ℕ × IntegralSum) (others : KeptRows) (n : ℕ) → kept.0 ≢ n → row_numbered (kept ∷ others) n ≡ row_numbered others n
row_numbered-later kept others n other = row_later_step kept others n (kept.0 == n) refl other

-- each row is the one with its number
abbrev pub OwnNumbers : (ℕ → IntegralSum) → KeptRows → Type 0
OwnNumbers numbered [] = Unit {0}
OwnNumbers numbered (kept ∷ others) = (numbered kept.0 ≡ kept.1) × OwnNumbers numbered others

own_along : (numbered : ℕ → IntegralSum) (first : ℕ × IntegralSum) (all others : KeptRows) → All (λ row. first.0 < row.0) others
    → OwnNumbers (row_numbered all) others → OwnNumbers (row_numbered (first ∷ all)) others
own_along numbered first all [] above h = tt
own_along numbered first all (k ∷ others) above h =
    let later : first.0 < k.0 = above 0 k (omega arith) in
    (row_numbered-later first all k.0 (omega arith) ∙ h.0, own_along numbered first all others (λ i d within. above (suc i) d (omega arith)) h.1)

pub own_numbers : (kept : KeptRows) → Ascends kept → OwnNumbers (row_numbered kept) kept
own_numbers [] h = tt
own_numbers (k ∷ others) h = (row_numbered-here k others k.0 refl, own_along (row_numbered others) k others others h.0 (own_numbers others h.1))

-- each kept row lies in the span
rows_from_numbers : (all kept : KeptRows) → OwnNumbers (row_numbered all) kept → ((n : ℕ) → Contains (map (λ row. row.0) kept) n → IsNumber all n) → AllRows (InKeptSpan all) kept
rows_from_numbers all [] own within = tt
rows_from_numbers all (k ∷ others) own within = (
  subst (InKeptSpan all) own.0 (InSpan-row integral_cmp integral_cmp_total same_integrals (row_numbered all) (IsNumber all) k.0 (within k.0 (0, omega arith, refl))),
  rows_from_numbers all others own.1 (λ n h. within n (in_tail k.0 (map (λ row. row.0) others) n h)),
)

pub kept_in_span : (kept : KeptRows) → Ascends kept → AllRows (InKeptSpan kept) kept
kept_in_span kept h = rows_from_numbers kept kept (own_numbers kept h) (λ n c. c)

-- ---- the two spans

pub span_of_kept : (es : Entries) (f : IntegralSum) → InKeptSpan (originals [] es) f → InSpan integral_cmp (row_at (reduced_rows es)) (λ i. i < length es) f
span_of_kept es f h =
    let V = InSpan integral_cmp (row_at (reduced_rows es)) (λ i. i < length es) in
    let space = InSpan-IsSubspace integral_cmp integral_cmp_total same_integrals (row_at (reduced_rows es)) (λ i. i < length es) in
    let each : (i : ℕ) → V (row_at (reduced_rows es) i) = λ i.
    ⊎_elim
    (λ (within : i < length es). InSpan-row integral_cmp integral_cmp_total same_integrals (row_at (reduced_rows es)) (λ j. j < length es) i within)
    (λ (past : length es ≤ i). subst V (sym (row_at-past (reduced_rows es) i (omega (arith, length-reduced_rows es)))) space.none)
    (cases_lt i (length es))
    in
    InSpan-trans integral_cmp integral_cmp_total same_integrals (row_at (reduced_rows es)) (λ i. i < length es) (row_numbered (originals [] es)) (IsNumber (originals [] es))
    (λ n _. numbered_in V space (originals [] es) (originals_in V space [] es each) n) h

pub span_of_reduced : (es : Entries) → Ascends (originals [] es) → (f : IntegralSum) → InSpan integral_cmp (row_at (reduced_rows es)) (λ i. i < length es) f → InKeptSpan (originals [] es) f
span_of_reduced es ascends f h =
    let kept = originals [] es in
    let space = InSpan-IsSubspace integral_cmp integral_cmp_total same_integrals (row_numbered kept) (IsNumber kept) in
    InSpan-trans integral_cmp integral_cmp_total same_integrals (row_numbered kept) (IsNumber kept) (row_at (reduced_rows es)) (λ i. i < length es)
    (λ i _. rows_in (InKeptSpan kept) space [] (λ j. space.none) es (kept_in_span kept ascends) i) h
