use Rattle.family_file.proofs.FirstOccurrences.{first_occurrences_members, first_occurrences_distinct, first_occurrences_order}
use Rattle.family_file.proofs.laws.targets_are_those_of_the_file.Goals as goal

pub returns-clause-members : goal.returns-clause-members
returns-clause-members c = first_occurrences_members

pub returns-clause-once : goal.returns-clause-once
returns-clause-once c = first_occurrences_distinct

pub returns-clause-order : goal.returns-clause-order
returns-clause-order c = first_occurrences_order
