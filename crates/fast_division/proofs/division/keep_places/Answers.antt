use Rattle.std.proofs.Common.{◌≡◌, Option, drop, get_or, [], sym, subst, ap, ◌∙◌, arith}
use Rattle.std.specs.Prelude.{IfSome}
use Rattle.fast_division.specs.declared.kept.Row.{Row}
use Rattle.fast_division.specs.Kept.{IsRow, IsRowOf, AreRowsOf}
use Rattle.fast_division.proofs.KeptPlaces.{AreRowsOf-pushed}
use Rattle.fast_division.proofs.division.keep_places.Goals as goal

pub returns : goal.returns
returns g c =
    let high = g.O.TermOrder.high in
    let list = c.args.list.now in
    let row = c.in-Some.row in
    let divisor : row.divisor ≡ c.args.number = subst (λ (r : Option Row). IfSome r (λ (row : Row). row.divisor ≡ c.args.number)) c.in-Some.is c.in_ok-row.ensures.divisor in
    let is_row : IsRow high row c.tail_of-tail.result.now = subst (λ (r : Option Row). IfSome r (λ (row : Row). IsRow high row c.tail_of-tail.result.now)) c.in-Some.is c.in_ok-row.ensures.row in
    let one : IsRowOf high list row =
    record {
      some = omega (arith, c.requires.number, divisor);
      is_row = subst (IsRow high row) (c.tail_of-tail.ensures.tail ∙ ap (λ k. drop 1 (get_or list k [])) (sym divisor)) is_row;
    }
    in
    AreRowsOf-pushed high list c.note.new.self c.push.new.self row c.push.result c.push.ensures.added c.push.ensures.kept (subst (AreRowsOf high list) (sym c.note.ensures) c.requires.multiples) one
