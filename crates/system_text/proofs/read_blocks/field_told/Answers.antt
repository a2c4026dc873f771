use Rattle.std.proofs.Common.{[], ◌∷◌, ◌++◌, length, sym, ap, ◌∙◌, arith}
use Rattle.std.specs.Prelude.{codes}
use Rattle.line_reader.proofs.Words.{not_none, some_holds}
use Rattle.system_text.specs.Texts.{poly_text}
use Rattle.system_text.proofs.Cuts.{polys_parts, apart, line_ends_poly, factor_ends_poly, same_field}
use Rattle.system_text.proofs.read_blocks.field_told.Goals as goal

pub returns-in_default-clause-told : goal.returns-in_default-clause-told
returns-in_default-clause-told c f is e =
    let p = polys_parts c.args.n f c.args.bytes.now c.requires.least is e in
    let behind = poly_text f.b ++ 10 ∷ [] in
    not_none c.in_ok-c.field-0 _ (c.in_ok-c.ensures.reads p.p p.ps (codes " ; " ++ behind) p.first p.others (factor_ends_poly behind) (λ r. apart 32 44 _ _ (omega arith)) p.front) c.in_default.is

pub returns-in_default-after-clause-told : goal.returns-in_default-after-clause-told
returns-in_default-after-clause-told c f is e =
    let p = polys_parts c.args.n f c.args.bytes.now c.requires.least is e in
    let behind = poly_text f.b ++ 10 ∷ [] in
    let read = some_holds c.in_ok-c.field-0 _ (c.in-Some.c, c.in-Some.others)
    (c.in_ok-c.ensures.reads p.p p.ps (codes " ; " ++ behind) p.first p.others (factor_ends_poly behind) (λ r. apart 32 44 _ _ (omega arith)) p.front) c.in-Some.is in
    c.in_default-after.ensures.reads behind read.1

pub returns-in_default-2-clause-told : goal.returns-in_default-2-clause-told
returns-in_default-2-clause-told c f is e =
    let p = polys_parts c.args.n f c.args.bytes.now c.requires.least is e in
    let behind = poly_text f.b ++ 10 ∷ [] in
    let read = some_holds c.in_ok-c.field-0 _ (c.in-Some.c, c.in-Some.others)
    (c.in_ok-c.ensures.reads p.p p.ps (codes " ; " ++ behind) p.first p.others (factor_ends_poly behind) (λ r. apart 32 44 _ _ (omega arith)) p.front) c.in-Some.is in
    let left = some_holds c.after.result _ c.in-Some-after.behind (c.after.ensures.reads behind read.1) c.in-Some-after.is in
    not_none c.in_ok-b.field-0 _ (c.in_ok-b.ensures.reads f.b (10 ∷ []) is.factor line_ends_poly left) c.in_default-2.is

pub returns-then-len-from-clause-told : goal.returns-then-len-from-clause-told
returns-then-len-from-clause-told c f is e =
    let p = polys_parts c.args.n f c.args.bytes.now c.requires.least is e in
    let behind = poly_text f.b ++ 10 ∷ [] in
    let read = some_holds c.in_ok-c.field-0 _ (c.in-Some.c, c.in-Some.others)
    (c.in_ok-c.ensures.reads p.p p.ps (codes " ; " ++ behind) p.first p.others (factor_ends_poly behind) (λ r. apart 32 44 _ _ (omega arith)) p.front) c.in-Some.is in
    omega (arith, c.if-len-from.true, c.len.ensures, c.from.ensures, ap length read.0, ap length p.is, is.count)

pub returns-clause-told : goal.returns-clause-told
returns-clause-told c f is e =
    let p = polys_parts c.args.n f c.args.bytes.now c.requires.least is e in
    let behind = poly_text f.b ++ 10 ∷ [] in
    let read = some_holds c.in_ok-c.field-0 _ (c.in-Some.c, c.in-Some.others)
    (c.in_ok-c.ensures.reads p.p p.ps (codes " ; " ++ behind) p.first p.others (factor_ends_poly behind) (λ r. apart 32 44 _ _ (omega arith)) p.front) c.in-Some.is in
    let left = some_holds c.after.result _ c.in-Some-after.behind (c.after.ensures.reads behind read.1) c.in-Some-after.is in
    let factor = some_holds c.in_ok-b.field-0 _ (c.in-Some-2.b, c.in-Some-2.field-0-1) (c.in_ok-b.ensures.reads f.b (10 ∷ []) is.factor line_ends_poly left) c.in-Some-2.is in
    same_field c.from_vec-c.result c.in-Some-2.b f (c.from_vec-c.ensures ∙ read.0 ∙ sym p.is) factor.0
