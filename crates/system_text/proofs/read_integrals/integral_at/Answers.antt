use Rattle.std.proofs.Common.{◌++◌, length, refl, sym, ap, ◌∙◌, arith}
use Rattle.std.specs.Prelude.{codes}
use Rattle.std.specs.Fmt.{signed_decimal}
use Rattle.line_reader.specs.Entries.{separated}
use Rattle.line_reader.proofs.Words.{not_none, some_holds, if_holds}
use Rattle.system_text.proofs.Cuts.{integral_parts, apart}
use Rattle.system_text.proofs.read_integrals.integral_at.Goals as goal

pub returns-in_default-2-clause-reads : goal.returns-in_default-2-clause-reads
returns-in_default-2-clause-reads c powers rest is e =
    let p = integral_parts c.args.n powers rest c.args.bytes.now c.requires.least is e in
    let inside = some_holds c.after.result _ c.in-Some.inside (c.after.ensures.reads (separated signed_decimal (codes ",") p.z p.zs ++ (codes "]" ++ rest)) p.front) c.in-Some.is in
    not_none c.in_ok-powers.field-0 _ (c.in_ok-powers.ensures.reads p.z p.zs (codes "]" ++ rest) p.first p.others refl (λ r. apart 93 44 rest r (omega arith)) inside) c.in_default-2.is

pub returns-in_default-after-clause-reads : goal.returns-in_default-after-clause-reads
returns-in_default-after-clause-reads c powers rest is e =
    let p = integral_parts c.args.n powers rest c.args.bytes.now c.requires.least is e in
    let inside = some_holds c.after.result _ c.in-Some.inside (c.after.ensures.reads (separated signed_decimal (codes ",") p.z p.zs ++ (codes "]" ++ rest)) p.front) c.in-Some.is in
    let read = some_holds c.in_ok-powers.field-0 _ (c.in-Some-2.powers, c.in-Some-2.others)
    (c.in_ok-powers.ensures.reads p.z p.zs (codes "]" ++ rest) p.first p.others refl (λ r. apart 93 44 rest r (omega arith)) inside) c.in-Some-2.is in
    c.in_default-after.ensures.reads rest read.1

pub returns-then-len-from-clause-reads : goal.returns-then-len-from-clause-reads
returns-then-len-from-clause-reads c powers rest is e =
    let p = integral_parts c.args.n powers rest c.args.bytes.now c.requires.least is e in
    let inside = some_holds c.after.result _ c.in-Some.inside (c.after.ensures.reads (separated signed_decimal (codes ",") p.z p.zs ++ (codes "]" ++ rest)) p.front) c.in-Some.is in
    let read = some_holds c.in_ok-powers.field-0 _ (c.in-Some-2.powers, c.in-Some-2.others)
    (c.in_ok-powers.ensures.reads p.z p.zs (codes "]" ++ rest) p.first p.others refl (λ r. apart 93 44 rest r (omega arith)) inside) c.in-Some-2.is in
    omega (arith, c.if-len-from.true, c.len.ensures, c.from.ensures, ap length read.0, ap length p.is, is.count)

pub returns-clause-reads : goal.returns-clause-reads
returns-clause-reads c powers rest is e =
    let p = integral_parts c.args.n powers rest c.args.bytes.now c.requires.least is e in
    let inside = some_holds c.after.result _ c.in-Some.inside (c.after.ensures.reads (separated signed_decimal (codes ",") p.z p.zs ++ (codes "]" ++ rest)) p.front) c.in-Some.is in
    let read = some_holds c.in_ok-powers.field-0 _ (c.in-Some-2.powers, c.in-Some-2.others)
    (c.in_ok-powers.ensures.reads p.z p.zs (codes "]" ++ rest) p.first p.others refl (λ r. apart 93 44 rest r (omega arith)) inside) c.in-Some-2.is in (
      if_holds c.new.result _ c.in-Some-new.integral c.new.ensures.value c.in-Some-new.is ∙ c.deref.ensures.value ∙ read.0 ∙ sym p.is,
      some_holds c.after-2.result _ c.in-Some-after.rest (c.after-2.ensures.reads rest read.1) c.in-Some-after.is,
    )
