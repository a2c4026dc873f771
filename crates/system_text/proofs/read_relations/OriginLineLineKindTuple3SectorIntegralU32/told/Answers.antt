use Rattle.std.proofs.Common.{◌++◌}
use Rattle.line_reader.proofs.Words.{not_none, some_holds}
use Rattle.system_text.specs.Texts.{integral_text}
use Rattle.system_text.proofs.Cuts.{origin_cut, number_cut, same_origin}
use Rattle.system_text.proofs.read_relations.OriginLineLineKindTuple3SectorIntegralU32.told.Goals as goal

pub returns-in_default-clause-told : goal.returns-in_default-clause-told
returns-in_default-clause-told c o is e =
    not_none c.sector_told.result _
    (c.sector_told.ensures.told c.args._number o.0.0 (integral_text o.1 ++ number_cut o) c.requires.small is.sector (origin_cut c.args._number o c.args.bytes.now e)) c.in_default.is

pub returns-in-Some-field_number-clause-told : goal.returns-in-Some-field_number-clause-told
returns-in-Some-field_number-clause-told c o is e =
    let one = some_holds c.sector_told.result _ (c.in-Some.sector, c.in-Some.others)
    (c.sector_told.ensures.told c.args._number o.0.0 (integral_text o.1 ++ number_cut o) c.requires.small is.sector (origin_cut c.args._number o c.args.bytes.now e)) c.in-Some.is in
    let two = some_holds c.in-Ok-Some.field-0 _ (c.in-Ok-Some.seed, c.in-Ok-Some.rest) (c.in-Ok-Some.ensures.reads o.1 (number_cut o) is.seed one.1) c.in-Ok-Some.field-0-is in
    let three = some_holds c.field_number.result _ c.in-Some-field_number.field (c.field_number.ensures.told o.2 is.field is.small two.1) c.in-Some-field_number.is in
    same_origin c.in-Some.sector c.in-Ok-Some.seed c.in-Some-field_number.field o one.0 two.0 three

pub returns-in-None-clause-told : goal.returns-in-None-clause-told
returns-in-None-clause-told c o is e =
    let one = some_holds c.sector_told.result _ (c.in-Some.sector, c.in-Some.others)
    (c.sector_told.ensures.told c.args._number o.0.0 (integral_text o.1 ++ number_cut o) c.requires.small is.sector (origin_cut c.args._number o c.args.bytes.now e)) c.in-Some.is in
    let two = some_holds c.in-Ok-Some.field-0 _ (c.in-Ok-Some.seed, c.in-Ok-Some.rest) (c.in-Ok-Some.ensures.reads o.1 (number_cut o) is.seed one.1) c.in-Ok-Some.field-0-is in
    not_none c.field_number.result _ (c.field_number.ensures.told o.2 is.field is.small two.1) c.in-None.is

pub returns-in-Ok-None-clause-told : goal.returns-in-Ok-None-clause-told
returns-in-Ok-None-clause-told c o is e =
    let one = some_holds c.sector_told.result _ (c.in-Some.sector, c.in-Some.others)
    (c.sector_told.ensures.told c.args._number o.0.0 (integral_text o.1 ++ number_cut o) c.requires.small is.sector (origin_cut c.args._number o c.args.bytes.now e)) c.in-Some.is in
    not_none c.in-Ok-None.field-0 _ (c.in-Ok-None.ensures.reads o.1 (number_cut o) is.seed one.1) c.in-Ok-None.field-0-is
