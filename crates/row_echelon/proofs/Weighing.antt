-- The weights found so far, and the multiples of reduced rows that are left.
use Rattle.std.proofs.Common.{◌≡◌, ◌≢◌, ℕ, zero, suc, ◌+◌, ◌*◌, ◌<◌, ◌≤◌, Some, List, [], ◌∷◌, ◌++◌, length, take, drop, reverse, append-nil, length-append, sym, refl, ap, subst, ◌∙◌, arith}
use Rattle.std.specs.Prelude.{ℤ, slice_get, replicate}
use Rattle.std.specs.Ordering.{eq_by_cmp, nat_cmp}
use Rattle.std.specs.declared.cmp.Ordering.TheVariants.{Greater}
use Rattle.std.proofs.Math.ListN.{drop_of_length-le}
use Rattle.std.proofs.lemmas.Cmp.{ranked, by_ranked}
use Rattle.std.proofs.lemmas.List.{take_all}
use Rattle.sector_lattice.specs.Sectors.{integral_cmp}
use Rattle.sector_lattice.specs.Orders.{integrals_decide}
use Rattle.ibp_field.specs.Arithmetic.{neg_mod}
use Rattle.ibp_algebra.specs.FormalSum.{FormalSum, weighted_sum, AllKeys, AllBelow, IsCanonical, scale}
use Rattle.ibp_algebra.proofs.Numbers.{nat_decides}
use Rattle.ibp_algebra.proofs.Weights.{weighted_sum-append, weighted_sum-scale, weighted_sum-SameCoefficients, SameCoefficients-from_weights}
use Rattle.ibp_algebra.proofs.ZeroDivisors.{AllKeys-append}
use Rattle.ibp_algebra.proofs.SumLaws.{SameCoefficients-trans}
use Rattle.ibp_algebra.specs.Combination.{combination}
use Rattle.ibp_algebra.specs.Spans.{row_at, SameSum}
use Rattle.sparse_rows.specs.Rows.{IntegralSum, SameRow}
use Rattle.ibp_algebra.proofs.Combinations.{weighted_sum-combination}
use Rattle.ibp_algebra.proofs.Combinations.{AllKeys-weaker}
use Rattle.sparse_terms.proofs.Merging.{IsCanonical-append}
use Rattle.row_echelon.specs.declared.kept.Kept.{Kept}
use Rattle.row_echelon.specs.Echelons.{row_numbered, IsNumber, number_cmp}
use Rattle.row_echelon.specs.KeptRows.{Entries, reduced_rows, originals, IsEchelon, by_place}
use Rattle.row_echelon.proofs.Substituting.{entry_number, entry_numbers, weight_found, zero_passed, AllKeys-reverse, IsCanonical-reverse, combination-reverse}

-- the numbers of the entries at places below an end are below n
abbrev pub NumbersBelow : Entries → ℕ → ℕ → Type 0
NumbersBelow entries end n = (i : ℕ) (e : List ℤ × Kept) → i < end → slice_get entries i ≡ Some e → e.1.number < n

pub record Weighing (entries : Entries) (whole : IntegralSum) (weights : FormalSum ℕ) (sums : List ℕ) : Type 0 where
  pub long : length sums ≤ length entries
  pub sum : SameRow whole (combination (row_numbered (originals [] entries)) weights ++ combination (row_at (reduced_rows entries)) (by_place 0 sums))
  pub numbers : AllKeys (IsNumber (originals [] entries)) weights
  pub descending : IsCanonical nat_cmp weights
  pub above : AllKeys (NumbersBelow entries (length sums)) weights

-- a slice of all items, written back
pub whole_slice : {X : Type 0} (s xs : List X) (n : ℕ) → length s ≡ length xs → n ≡ length xs → take n (s ++ drop (length s) xs) ≡ s
whole_slice s xs n long all =
    let none : drop (length s) xs ≡ [] = drop_of_length-le xs (omega arith) in
    ap (λ rest. take n (s ++ rest)) none ∙ ap (take n) (append-nil s) ∙ take_all n s (omega arith)

zeros_sum : (w : ℕ → ℕ) (first n : ℕ) → weighted_sum w (by_place first (replicate n 0)) ≡ 0
zeros_sum w first zero = refl
zeros_sum w first (suc n) = omega (arith, zeros_sum w (suc first) n)

pub Weighing-start : (es : Entries) (steps : FormalSum ℕ) (sums zeros : List ℕ) (n one : ℕ) → zeros ≡ replicate n 0 → length sums ≤ length es → one ≡ 1
    → SameSum nat_cmp (by_place 0 sums) (by_place 0 zeros ++ scale one steps)
    → Weighing es (combination (row_at (reduced_rows es)) steps) [] sums
Weighing-start es steps sums zeros n one zeros_are long one_is h =
    let rows = row_at (reduced_rows es) in
    record {
      long = long;
      sum = SameCoefficients-from_weights (eq_by_cmp integral_cmp) integrals_decide _ _ (λ w.
          let by_row = λ (i : ℕ). weighted_sum w (rows i) in
          let spread = weighted_sum-SameCoefficients (eq_by_cmp nat_cmp) nat_decides by_row (by_place 0 sums) (by_place 0 zeros ++ scale one steps) h in
          record {
            same_residue = omega (
              arith,
              spread.same_residue,
              weighted_sum-combination rows w steps,
              weighted_sum-combination rows w (by_place 0 sums),
              weighted_sum-append by_row (by_place 0 zeros) (scale one steps),
              weighted_sum-scale by_row one steps,
              ap (λ m. m * weighted_sum by_row steps) one_is,
              ap (λ (xs : List ℕ). weighted_sum by_row (by_place 0 xs)) zeros_are,
              zeros_sum by_row 0 n,
            );
          });
      numbers = tt;
      descending = tt;
      above = tt;
    }

fewer : (es : Entries) (long short : ℕ) → short ≤ long → (weights : FormalSum ℕ) → AllKeys (NumbersBelow es long) weights → AllKeys (NumbersBelow es short) weights
fewer es long short le weights h =
    AllKeys-weaker (NumbersBelow es long) (NumbersBelow es short) (λ n below i e within at. below i e (let further : i < long = omega arith in further) at) weights h

pub Weighing-zero : (es : Entries) → IsEchelon es → (whole : IntegralSum) (weights : FormalSum ℕ) (sums all : List ℕ) (value : ℕ) → all ≡ sums ++ value ∷ [] → value ≡ 0
    → Weighing es whole weights all → Weighing es whole weights sums
Weighing-zero es h whole weights sums all value all_is none k =
    let longer : length all ≡ length sums + 1 = ap length all_is ∙ length-append sums (value ∷ []) in
    record {
      long = omega (arith, longer, k.long);
      sum = zero_passed es h whole weights sums all value all_is none k.sum;
      numbers = k.numbers;
      descending = k.descending;
      above = fewer es (length all) (length sums) (omega (arith, longer)) weights k.above;
    }

pub nat_greater : (m n : ℕ) → n < m → nat_cmp m n ≡ Greater
nat_greater m n less =
    by_ranked (m < n) (m ≡ n) (n < m) (nat_cmp m n) (ranked m n (nat_cmp m n) refl) (λ e below. absurd (omega arith)) (λ e same. absurd (omega (arith, same))) (λ e above. e)

pub Weighing-step : (es : Entries) → IsEchelon es → (whole : IntegralSum) (weights found : FormalSum ℕ) (sums all after : List ℕ) (value negative : ℕ) (e : List ℤ × Kept)
    → all ≡ sums ++ value ∷ [] → slice_get es (length sums) ≡ Some e → value ≢ 0 → value < 2147483647 → negative ≡ neg_mod value → length after ≡ length sums
    → SameSum nat_cmp (by_place 0 after) (by_place 0 sums ++ scale negative e.1.steps.items) → found ≡ weights ++ (e.1.number, value) ∷ []
    → Weighing es whole weights all → Weighing es whole found after
Weighing-step es h whole weights found sums all after value negative e all_is at not_zero small negative_is same_length after_is found_is k =
    let longer : length all ≡ length sums + 1 = ap length all_is ∙ length-append sums (value ∷ []) in
    let all_above : AllKeys (λ n. e.1.number < n) weights =
    AllKeys-weaker (NumbersBelow es (length all)) (λ n. e.1.number < n) (λ n below. below (length sums) e (omega (arith, longer)) at) weights k.above
    in
    let step : Weighing es whole (weights ++ (e.1.number, value) ∷ []) after =
    record {
      long = omega (arith, longer, k.long, same_length);
      sum = weight_found es h whole weights sums all after value negative e all_is at small negative_is after_is k.sum;
      numbers = AllKeys-append (IsNumber (originals [] es)) weights ((e.1.number, value) ∷ []) k.numbers (entry_number es h (length sums) e at, tt);
      descending = IsCanonical-append nat_cmp weights ((e.1.number, value) ∷ []) k.descending (omega arith, small, tt, tt)
          (AllKeys-weaker (λ n. e.1.number < n) (λ n. AllBelow nat_cmp n ((e.1.number, value) ∷ [])) (λ n above. (nat_greater n e.1.number above, tt)) weights all_above);
      above = AllKeys-append (NumbersBelow es (length after)) weights ((e.1.number, value) ∷ [])
          (fewer es (length all) (length after) (omega (arith, longer, same_length)) weights k.above)
          ((λ i a within at'. entry_numbers es h i (length sums) a e (omega (arith, same_length)) at' at), tt);
    }
    in
    subst (λ (f : FormalSum ℕ). Weighing es whole f after) (sym found_is) step

-- nothing is left
pub Weighing-end : (es : Entries) (whole : IntegralSum) (weights back : FormalSum ℕ) (sums : List ℕ) → sums ≡ [] → back ≡ reverse weights → Weighing es whole weights sums
    → SameRow whole (combination (row_numbered (originals [] es)) back)
Weighing-end es whole weights back sums none back_is k =
    let numbered = row_numbered (originals [] es) in
    let kept : SameRow whole (combination numbered weights) =
    subst (SameRow whole) (append-nil (combination numbered weights))
    (subst (λ (xs : List ℕ). SameRow whole (combination numbered weights ++ combination (row_at (reduced_rows es)) (by_place 0 xs))) none k.sum)
    in
    SameCoefficients-trans kept (subst (λ (f : FormalSum ℕ). SameRow (combination numbered weights) (combination numbered f)) (sym back_is) (combination-reverse numbered weights))

pub Weighing-numbers : (es : Entries) (whole : IntegralSum) (weights back : FormalSum ℕ) (sums : List ℕ) → back ≡ reverse weights → Weighing es whole weights sums
    → AllKeys (IsNumber (originals [] es)) back
Weighing-numbers es whole weights back sums back_is k =
    subst (AllKeys (IsNumber (originals [] es))) (sym back_is) (AllKeys-reverse (IsNumber (originals [] es)) weights k.numbers)

pub Weighing-ascending : (es : Entries) (whole : IntegralSum) (weights back : FormalSum ℕ) (sums : List ℕ) → back ≡ reverse weights → Weighing es whole weights sums
    → IsCanonical number_cmp back
Weighing-ascending es whole weights back sums back_is k = subst (IsCanonical number_cmp) (sym back_is) (IsCanonical-reverse weights k.descending)
