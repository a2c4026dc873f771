use Rattle.std.proofs.Common.{[], ◌∷◌, ◌++◌, refl, arith}
use Rattle.std.specs.Prelude.{codes, decimal}
use Rattle.line_reader.proofs.Words.{not_none, some_holds}
use Rattle.system_text.proofs.Cuts.{heading_cut, small_sector}
use Rattle.system_text.proofs.read_blocks.heading_told.Goals as goal

pub returns-in_err-sector-clause-told : goal.returns-in_err-sector-clause-told
returns-in_err-sector-clause-told c h is e =
    absurd (not_none c.whole_at.result _
    (c.whole_at.ensures.reads h.0.0 (codes " fields " ++ (decimal h.1 ++ 10 ∷ [])) (omega (arith, small_sector h.0.0 c.args.n c.requires is.sector)) refl (heading_cut h c.args.bytes.now e))
    c.in_err-sector.was)

pub returns-in_err-behind-clause-told : goal.returns-in_err-behind-clause-told
returns-in_err-behind-clause-told c h is e =
    let one = some_holds c.whole_at.result _ (c.in_ok-sector.sector, c.in_ok-sector.others)
    (c.whole_at.ensures.reads h.0.0 (codes " fields " ++ (decimal h.1 ++ 10 ∷ [])) (omega (arith, small_sector h.0.0 c.args.n c.requires is.sector)) refl (heading_cut h c.args.bytes.now e))
    c.in_ok-sector.was in
    absurd (not_none c.after.result _ (c.after.ensures.reads (decimal h.1 ++ 10 ∷ []) one.1) c.in_err-behind.was)

pub returns-in_err-count-clause-told : goal.returns-in_err-count-clause-told
returns-in_err-count-clause-told c h is e =
    let one = some_holds c.whole_at.result _ (c.in_ok-sector.sector, c.in_ok-sector.others)
    (c.whole_at.ensures.reads h.0.0 (codes " fields " ++ (decimal h.1 ++ 10 ∷ [])) (omega (arith, small_sector h.0.0 c.args.n c.requires is.sector)) refl (heading_cut h c.args.bytes.now e))
    c.in_ok-sector.was in
    let two = some_holds c.after.result _ c.in_ok-behind.behind (c.after.ensures.reads (decimal h.1 ++ 10 ∷ []) one.1) c.in_ok-behind.was in
    absurd (not_none c.whole_at-2.result _ (c.whole_at-2.ensures.reads h.1 (10 ∷ []) (omega (arith, is.few)) refl two) c.in_err-count.was)
