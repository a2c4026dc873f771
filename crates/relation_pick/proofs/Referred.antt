-- Candidates that are only referred to.
use Rattle.std.proofs.Common.{◌≡◌, ℕ, ◌<◌, List, [], length, get_or, sym, ap, ◌∙◌}
use Rattle.std.specs.Borrow.{Bor}
use Rattle.std.proofs.lemmas.List.{length-map, get_or-map}
use Rattle.ibp_algebra.specs.Spans.{row_at}
use Rattle.sparse_rows.specs.Rows.{IntegralSum}
use Rattle.row_echelon.specs.References.{rows_of}

pub as_many_rows : (references : List (Bor IntegralSum)) → length (rows_of references) ≡ length references
as_many_rows references = length-map references (λ reference. reference.now)

-- what a loop reads is the row at its place
pub row_referred : (references : List (Bor IntegralSum)) (place : ℕ) (reference : Bor IntegralSum) → place < length references → reference ≡ get_or references place reference
    → reference.now ≡ row_at (rows_of references) place
row_referred references place reference within is =
    ap (λ (r : Bor IntegralSum). r.now) is ∙ sym (get_or-map (λ (r : Bor IntegralSum). r.now) references place reference [] within)
