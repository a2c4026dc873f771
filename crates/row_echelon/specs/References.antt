-- Rows that are only referred to.
--     rows_of references     the rows that these references refer to
use Rattle.std.specs.Prelude.{List, map}
use Rattle.std.specs.Borrow.{Bor}
use Rattle.sparse_rows.specs.Rows.{IntegralSum}

abbrev pub rows_of : List (Bor IntegralSum) → List IntegralSum
rows_of references = map (λ reference. reference.now) references
