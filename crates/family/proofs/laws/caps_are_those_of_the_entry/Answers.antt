use Rattle.family.proofs.EntryOfSector.{caps_of-listed, caps_of-unlisted}
use Rattle.family.proofs.laws.caps_are_those_of_the_entry.Goals as goal

pub returns-clause-listed : goal.returns-clause-listed
returns-clause-listed c = caps_of-listed

pub returns-clause-unlisted : goal.returns-clause-unlisted
returns-clause-unlisted c = caps_of-unlisted
