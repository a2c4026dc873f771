use Rattle.line_reader.proofs.Words.{not_none, some_holds}
use Rattle.system_text.proofs.Cuts.{field_cut, polys_cut}
use Rattle.system_text.proofs.read_blocks.FieldLineLineKindStrippedField.told.Goals as goal

pub returns-in_default-clause-told : goal.returns-in_default-clause-told
returns-in_default-clause-told c f is e =
    not_none c.behind_number.result _ (c.behind_number.ensures c.args.number (polys_cut f) c.requires.small (field_cut c.args.number f c.args.bytes.now e)) c.in_default.is

pub returns-clause-told : goal.returns-clause-told
returns-clause-told c f is e =
    let others = some_holds c.behind_number.result _ c.in-Some.others (c.behind_number.ensures c.args.number (polys_cut f) c.requires.small (field_cut c.args.number f c.args.bytes.now e)) c.in-Some.is in
    c.field_told.ensures.told f is others
