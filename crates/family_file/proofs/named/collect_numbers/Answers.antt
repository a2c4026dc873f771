use Rattle.std.proofs.Common.{ap, refl, string_bytes}
use Rattle.std.proofs.lemmas.Result.{err_from_is_err_and}
use Rattle.std.specs.FinMap as map
use Rattle.toml.specs.View.{view, members_view}
use Rattle.family_file.specs.Table.{entries_list}
use Rattle.family_file.specs.Polynomials.{named_number, with_entries}
use Rattle.family_file.proofs.Into.{goes_on_into, fails_into, is_done_into}
use Rattle.family_file.proofs.named.collect_numbers.Goals as goal

pub returns-in_err-number : goal.returns-in_err-number
returns-in_err-number c =
    let p = err_from_is_err_and c.from_residual.result c.from_residual.ensures.1 in
    rw (p.1, p.2) (fails_into with_entries named_number c.loop-name.numbers (string_bytes c.in-Some.name.now, view c.in-Some.value.now) (entries_list (members_view c.next.new.self)) _ _
    (rw c.as_str.ensures.value at c.in_err-number.ensures) (rw c.in-Some.ensures.steps at c.loop-name.invariant))

pub loop-name-preserved : goal.loop-name-preserved
loop-name-preserved c =
    rw (c.in_ok-insert.ensures.ok, c.as_str-in-loop-name.ensures.value) (goes_on_into with_entries (λ numbers entry. map.insert numbers entry.0 entry.1) (λ s y ys. refl) named_number c.loop-name.numbers (string_bytes c.in-Some.name.now, view c.in-Some.value.now) (entries_list (members_view c.next.new.self)) _ _
    (rw c.as_str.ensures.value at c.in_ok-number.ensures) (rw c.in-Some.ensures.steps at c.loop-name.invariant))

pub returns : goal.returns
returns c = is_done_into with_entries named_number c.loop-name.numbers (entries_list (members_view c.loop-name.name-iterator)) _ refl (ap (λ es. entries_list (members_view es)) c.in-None.ensures.steps.0) c.loop-name.invariant
