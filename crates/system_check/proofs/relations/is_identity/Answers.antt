use Rattle.std.proofs.Common.{◌≡◌, sym, ◌∙◌}
use Rattle.sector_lattice.specs.Sectors.{sector_of}
use Rattle.sparse_poly.specs.declared.limits.TheConstants.{DEGREE_LIMIT}
use Rattle.family.specs.FamilyView.{family_view}
use Rattle.system_check.proofs.Named.{named_is, at_sector, right_where_same, same_numbers}
use Rattle.system_check.proofs.relations.is_identity.Goals as goal

pub candidate-requires-clause-field : goal.candidate-requires-clause-field
candidate-requires-clause-field c =
    let relation = c.args.relation.now in
    (named_is c.args.family.now.n (family_view c.args.family.now) c.args.blocks.now relation.sector relation.field c.in-Some.field.now c.requires.shapes c.requires.right (sym c.in-Some.ensures)).0

pub candidate-requires-clause-member : goal.candidate-requires-clause-member
candidate-requires-clause-member c =
    let relation = c.args.relation.now in
    let family = family_view c.args.family.now in
    let named = named_is c.args.family.now.n family c.args.blocks.now relation.sector relation.field c.in-Some.field.now c.requires.shapes c.requires.right (sym c.in-Some.ensures) in
    let same : sector_of relation.seed ≡ relation.sector.0 = sym c.sector.ensures.value ∙ same_numbers c.sector.result.0 relation.sector.0 c.ne.result c.ne.ensures c.if-ne.false in
    at_sector family relation.sector (sector_of relation.seed) c.in-Some.field.now same named.1

pub returns : goal.returns
returns c =
    let relation = c.args.relation.now in
    let family = family_view c.args.family.now in
    let limits = c.args.family.now.limits in
    let same : sector_of relation.seed ≡ relation.sector.0 = sym c.sector.ensures.value ∙ same_numbers c.sector.result.0 relation.sector.0 c.ne.result c.ne.ensures c.if-ne.false in
    right_where_same family DEGREE_LIMIT c.args.blocks.now relation c.in-Some.field.now c.in_ok-row.row c.eq.result
    limits.few_variables limits.polynomial limits.not_zero (sym c.in-Some.ensures) same c.in_ok-row.ensures.canonical c.requires.relation.row.canonical c.in_ok-row.ensures.row c.eq.ensures
