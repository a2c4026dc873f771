-- The table of ranks, row by row, and the sum of its entries.
use Rattle.std.proofs.Common.{◌≡◌, ◌≢◌, ℕ, suc, ◌+◌, ◌-◌, ◌<◌, ◌≤◌, Bool, true, false, List, [], sum, length, get_or, replicate, sym, ap, subst, ◌∙◌, ⊎_elim, arith, add-one}
use Rattle.std.specs.Prelude.{nat_eq}
use Rattle.std.specs.Cmp.{unsigned_Decides}
use Rattle.std.proofs.lemmas.Bool.{cases_lt}
use Rattle.std.proofs.lemmas.List.{get_or-replicate, get_or_past, get_or_default, length-replicate}
use Rattle.mono_order.specs.declared.limits.TheConstants.{VARIABLES}
use Rattle.mono_order.specs.PartialSums.{partial_sum, running_sums}
use Rattle.mono_order.proofs.Packing.{partial_sum-le, running_sums-at}
use Rattle.fast_division.specs.declared.ranks.TheConstants.{PLACES}
use Rattle.fast_division.specs.Ranks.{below, rank, IsRow, IsTable}
use Rattle.fast_division.proofs.RankOrder.{below-zero, below-more, below-widen, rank-more}

-- ---- rows

pub none_left : {A : Type 0} (rows : List A) (b : Bool) → b ≡ nat_eq (length rows) 0 → b ≡ true → length rows ≡ 0
none_left rows b is holds = (unsigned_Decides (length rows) 0).0 (sym is ∙ holds)

pub some_left : {A : Type 0} (rows : List A) (b : Bool) → b ≡ nat_eq (length rows) 0 → b ≡ false → 0 < length rows
some_left rows b is fails =
    let ne : length rows ≢ 0 = λ e. let clash : true ≡ false = sym ((unsigned_Decides (length rows) 0).1 e) ∙ sym is ∙ fails in cc in
    omega (arith, ne)

pub zeros-at : (n k : ℕ) → get_or {A = ℕ} (replicate n 0) k 0 ≡ 0
zeros-at n k =
    ⊎_elim
    (λ (within : k < n). get_or-replicate n k 0 0 within)
    (λ (past : n ≤ k). get_or_past (replicate n 0) k 0 (omega (arith, past, length-replicate {A = ℕ} n 0)))
    (cases_lt k n)

pub IsRow-first : (n : ℕ) (rows : List (List ℕ)) (row : List ℕ) → length rows ≡ 0 → ((k : ℕ) → get_or row k 0 ≡ 0) → IsRow n (length rows) row
IsRow-first n rows row none zeros =
    record {
      entry = λ k within. omega (arith, zeros k, below-zero (k + 1), ap (below (k + 1)) none);
      small = λ k within. omega (arith, zeros k);
    }

module _ (n : ℕ) (rows : List (List ℕ)) (table : IsTable n rows) (some : 0 < length rows) (k entry : ℕ) (within : k < n) (entry_is : entry ≡ below k (length rows)) where
  -- an entry and the one above the next
  pub entry-next : entry + get_or (get_or rows (length rows - 1) []) k 0 ≡ below (k + 1) (length rows)
  entry-next =
      let above = (table.each (length rows - 1) (omega arith)).entry k within in
      let rows_is : length rows - 1 + 1 ≡ length rows = omega arith in
      omega (
        arith,
        above,
        below-more k (length rows - 1),
        ap (below k) rows_is,
        ap (below (suc k)) rows_is,
        ap (λ j. below j (length rows - 1)) (add-one k),
        ap (λ j. below j (length rows)) (add-one k),
      )

  pub entry-wide : PLACES < entry + get_or (get_or rows (length rows - 1) []) k 0 → PLACES < below n (length rows)
  entry-wide more = omega (arith, entry-next, below-widen (k + 1) n (length rows) (omega arith))

-- ---- sums of entries

module _ (n : ℕ) (rows : List (List ℕ)) (table : IsTable n rows) (m sums : List ℕ) (k : ℕ) (within : k < n) (long : length m ≡ VARIABLES) (sums_are : sums ≡ running_sums 0 m) where
  sum-at : get_or sums k 0 ≡ partial_sum (k + 1) m
  sum-at = ap (λ s. get_or s k 0) sums_are ∙ running_sums-at m k (omega (arith, table.few))

  pub sum-within : sum m < length rows → get_or sums k 0 < length rows
  sum-within small = omega (arith, sum-at, partial_sum-le (k + 1) m)

  module _ (row : List ℕ) (small : sum m < length rows) (row_is : row ≡ get_or rows (get_or sums k 0) row) where
    is_row : IsRow n (partial_sum (k + 1) m) row
    is_row =
        let inside = sum-within small in
        let at : get_or rows (partial_sum (k + 1) m) [] ≡ row = ap (λ s. get_or rows s []) (sym sum-at) ∙ get_or_default rows (get_or sums k 0) [] row inside ∙ sym row_is in
        subst (IsRow n (partial_sum (k + 1) m)) at (table.each (partial_sum (k + 1) m) (omega (arith, sum-at, inside)))

    pub entry-few : get_or row k 0 ≤ PLACES
    entry-few = is_row.small k within

    pub rank-next : rank k m + get_or row k 0 ≡ rank (k + 1) m
    rank-next = omega (arith, rank-more k m, is_row.entry k within, ap (λ j. rank j m) (add-one k), ap (λ j. below j (partial_sum j m)) (add-one k))
