use Rattle.std.proofs.Common.{◌≡◌, ◌++◌, sym, ◌∙◌, arith, inl, inr}
use Rattle.std.specs.Prelude.{codes, decimal}
use Rattle.std.proofs.lemmas.List.{append_cancel_left}
use Rattle.line_reader.specs.Fronts.{IsSomeWith}
use Rattle.line_reader.proofs.Words.{not_none, some_holds, if_holds}
use Rattle.system_text.specs.Polynomials.{exponent_text}
use Rattle.system_text.proofs.PowerEnds.{power_cases, exponent_ends, IsPowerIn}
use Rattle.system_text.proofs.read_polynomials.power_of.Goals as goal

pub returns-in_err-number-clause-reads : goal.returns-in_err-number-clause-reads
returns-in_err-number-clause-reads c e rest within ends h = absurd (by (power_cases c.args.i e rest c.args.bytes.now h))
  where
    found : c.args.bytes.now ≡ codes "*z" ++ c.in-Some.others.now
    found = if_holds c.after.result _ c.in-Some.others c.after.ensures.found c.in-Some.is

    by : IsPowerIn c.args.i e rest c.args.bytes.now → ⊥
    by (inl (none, same)) =
        let later = ends.others c.in-Some.others.now (sym same ∙ found) in
        not_none c.whole_at.result _ (c.whole_at.ensures.reads later.j later.others later.small later.ends later.is) c.in_err-number.was
    by (inr (some, is)) =
        not_none c.whole_at.result _
        (c.whole_at.ensures.reads c.args.i (exponent_text e ++ rest) (omega (arith, c.ranges.i.fits)) (exponent_ends e rest ends.power)
        (append_cancel_left (codes "*z") c.in-Some.others.now (decimal c.args.i ++ (exponent_text e ++ rest)) (sym found ∙ is)))
        c.in_err-number.was

pub returns-then-number-from-clause-reads : goal.returns-then-number-from-clause-reads
returns-then-number-from-clause-reads c e rest within ends h = by (power_cases c.args.i e rest c.args.bytes.now h)
  where
    found : c.args.bytes.now ≡ codes "*z" ++ c.in-Some.others.now
    found = if_holds c.after.result _ c.in-Some.others c.after.ensures.found c.in-Some.is

    by : IsPowerIn c.args.i e rest c.args.bytes.now → IsSomeWith c.exponent_at.result (λ r. (r.0 ≡ e) × (r.1.now ≡ rest))
    by (inl (none, same)) =
        let later = ends.others c.in-Some.others.now (sym same ∙ found) in
        let read = some_holds c.whole_at.result _ (c.in_ok-number.number, c.in_ok-number.rest) (c.whole_at.ensures.reads later.j later.others later.small later.ends later.is) c.in_ok-number.was in
        absurd (omega (arith, read.0, c.if-number-from.true, c.from.ensures, later.later))
    by (inr (some, is)) =
        let read = some_holds c.whole_at.result _ (c.in_ok-number.number, c.in_ok-number.rest)
        (c.whole_at.ensures.reads c.args.i (exponent_text e ++ rest) (omega (arith, c.ranges.i.fits)) (exponent_ends e rest ends.power)
        (append_cancel_left (codes "*z") c.in-Some.others.now (decimal c.args.i ++ (exponent_text e ++ rest)) (sym found ∙ is)))
        c.in_ok-number.was in
        c.exponent_at.ensures.reads e rest within ends.power read.1
