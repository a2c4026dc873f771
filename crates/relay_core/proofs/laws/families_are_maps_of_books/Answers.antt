use Rattle.relay_core.proofs.Told.{told_by_books, family_of_map}
use Rattle.relay_core.proofs.laws.families_are_maps_of_books.Goals as goal

pub returns-clause-one : goal.returns-clause-one
returns-clause-one c = told_by_books

pub returns-clause-each : goal.returns-clause-each
returns-clause-each c = family_of_map
