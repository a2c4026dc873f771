use Rattle.commands.proofs.Lists.{identity_is, plain_is, check_is, basis_is, meet_is, cut_is, fold_is, drill_is, reads_lists}
use Rattle.commands.proofs.laws.lists_are_commands.Goals as goal

pub returns-clause-identity : goal.returns-clause-identity
returns-clause-identity c = identity_is

pub returns-clause-plain : goal.returns-clause-plain
returns-clause-plain c = plain_is

pub returns-clause-basis : goal.returns-clause-basis
returns-clause-basis c = basis_is

pub returns-clause-meet : goal.returns-clause-meet
returns-clause-meet c = meet_is

pub returns-clause-cut : goal.returns-clause-cut
returns-clause-cut c = cut_is

pub returns-clause-check : goal.returns-clause-check
returns-clause-check c = check_is

pub returns-clause-fold : goal.returns-clause-fold
returns-clause-fold c = fold_is

pub returns-clause-drill : goal.returns-clause-drill
returns-clause-drill c = drill_is

pub returns-clause-every_list : goal.returns-clause-every_list
returns-clause-every_list c = reads_lists
