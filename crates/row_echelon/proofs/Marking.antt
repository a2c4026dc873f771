-- Marks on blocks of columns.
use Rattle.std.proofs.Common.{◌≡◌, ℕ, ◌+◌, ◌-◌, ◌*◌, ◌/◌, ◌%◌, ◌<◌, ◌≤◌, Bool, true, false, List, length, get_or, sym, ap, ◌∙◌, true≢false, ⊎_elim, arith}
use Rattle.std.specs.Prelude.{slice_set}
use Rattle.std.proofs.lemmas.Bool.{cases_lt}
use Rattle.std.proofs.lemmas.List.{get_or-set_same, get_or-set_other}
use Rattle.std.proofs.Math.ListN.{length-set}
use Rattle.row_echelon.specs.Columns.{IsZeroRow, IsMarked}

-- one residue is written, and its block is marked
pub IsMarked-add : (dense : List ℕ) (marks : List Bool) (column value : ℕ) → column < length dense → IsMarked dense marks → IsMarked (slice_set dense column value) (slice_set marks (column / 64) true)
IsMarked-add dense marks column value within h = record {
  room = omega (arith, h.room, length-set dense column value, length-set marks (column / 64) true);
  zero = λ i none.
      let block : column / 64 < length marks = omega (arith, h.room) in
      let other : i / 64 ≡ column / 64 → ⊥ =
      λ same. true≢false (sym (get_or-set_same marks (column / 64) true false block) ∙ ap (λ n. get_or (slice_set marks (column / 64) true) n false) (sym same) ∙ none)
      in
      ap (λ n. n % 2147483647) (get_or-set_other dense column i value 0 (λ same. other (ap (λ n. n / 64) same)))
      ∙ h.zero i (sym (get_or-set_other marks (column / 64) (i / 64) true false other) ∙ none);
}

-- a column is made zero
pub IsMarked-clear : (dense : List ℕ) (marks : List Bool) (column : ℕ) → column < length dense → IsMarked dense marks → IsMarked (slice_set dense column 0) marks
IsMarked-clear dense marks column within h = record {
  room = omega (arith, h.room, length-set dense column 0);
  zero = λ i none.
      ⊎_elim
      (λ (before : i < column). ap (λ n. n % 2147483647) (get_or-set_other dense column i 0 0 (λ same. omega (arith, same))) ∙ h.zero i none)
      (λ (from : column ≤ i).
      ⊎_elim
      (λ (after : column < i). ap (λ n. n % 2147483647) (get_or-set_other dense column i 0 0 (λ same. omega (arith, same))) ∙ h.zero i none)
      (λ (upto : i ≤ column).
      let here : i ≡ column = omega arith in
      ap (λ n. get_or (slice_set dense column 0) n 0 % 2147483647) here ∙ ap (λ n. n % 2147483647) (get_or-set_same dense column 0 0 within))
      (cases_lt column i))
      (cases_lt i column);
}

pub IsMarked-zero : (dense : List ℕ) (marks : List Bool) → length dense ≤ 64 * length marks → IsZeroRow dense → IsMarked dense marks
IsMarked-zero dense marks room none = record { room = room; zero = λ i _. none i }

-- a block with no mark is passed over
pub block_zero : (dense : List ℕ) (marks : List Bool) (at i : ℕ) → IsMarked dense marks → get_or marks (at / 64) false ≡ false → at ≤ i → i < at + (64 - at % 64) → get_or dense i 0 % 2147483647 ≡ 0
block_zero dense marks at i h none from below =
    let same : i / 64 ≡ at / 64 = omega arith in
    h.zero i (ap (λ n. get_or marks n false) same ∙ none)
