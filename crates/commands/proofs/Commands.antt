-- What holds of each command: it refuses what it is given in one way, and only what it doesn't accept, and it accepts all
-- that it writes a text of.
use Rattle.std.proofs.Common.{◌≡◌, ℕ, List}
use Rattle.family.specs.Within.{DataWithin}
use Rattle.commands.specs.Causes.{Given, IsTextOf, Refuses, Accepts}
use Rattle.commands.specs.declared.words.Command.{Command}
use Rattle.commands.specs.declared.words.Command.TheVariants as command
use Rattle.commands.specs.declared.status.Status.{Status}
use Rattle.commands.proofs.OfIdentity.{identity_meets, identity_not_refused, identity_once}
use Rattle.commands.proofs.OfBasis.{basis_not_refused, basis_once}
use Rattle.commands.proofs.OfCheck.{check_not_refused, check_once}
use Rattle.commands.proofs.OfCut.{cut_not_refused, cut_once}
use Rattle.commands.proofs.OfMeet.{meet_not_refused, meet_once}
use Rattle.commands.proofs.OfFold.{fold_not_refused, fold_once}
use Rattle.commands.proofs.OfPlain.{plain_not_refused, plain_once}

pub text_accepts : (asked : Command) (given : Given) (text : List ℕ) → IsTextOf asked given text → Accepts asked given
text_accepts command.Identity given text is = identity_meets given.family text is
text_accepts (command.Basis number) given text is = is.done
text_accepts command.Plain given text is = is.of
text_accepts command.Check given text is = is.right
text_accepts (command.Meet number) given text is = is.of
text_accepts (command.Cut number) given text is = is.of
text_accepts command.Fold given text is = is.of
text_accepts (command.Drill number) given text is = is.of

pub not_refused : (asked : Command) (given : Given) (status : Status) → DataWithin given.family → Accepts asked given → Refuses asked given status → ⊥
not_refused command.Identity given status within met refused = identity_not_refused given.family status met refused
not_refused (command.Basis number) given status within met refused = basis_not_refused given.family number status met refused
not_refused command.Plain given status within met refused = plain_not_refused given.family status within met refused
not_refused command.Check given status within met refused = check_not_refused given.family given.written status within met refused
not_refused (command.Meet number) given status within met refused = meet_not_refused given.family number status within met refused
not_refused (command.Cut number) given status within met refused = cut_not_refused given.family number status within met refused
not_refused command.Fold given status within met refused = fold_not_refused given.family status within met refused
not_refused (command.Drill number) given status within met refused = plain_not_refused given.family status within met refused

pub refused_once : (asked : Command) (given : Given) (first second : Status) → DataWithin given.family → Refuses asked given first → Refuses asked given second → first ≡ second
refused_once command.Identity given first second within refused also = identity_once given.family first second refused also
refused_once (command.Basis number) given first second within refused also = basis_once given.family number first second refused also
refused_once command.Plain given first second within refused also = plain_once given.family first second within refused also
refused_once command.Check given first second within refused also = check_once given.family given.written first second within refused also
refused_once (command.Meet number) given first second within refused also = meet_once given.family number first second within refused also
refused_once (command.Cut number) given first second within refused also = cut_once given.family number first second within refused also
refused_once command.Fold given first second within refused also = fold_once given.family first second within refused also
refused_once (command.Drill number) given first second within refused also = plain_once given.family first second within refused also
