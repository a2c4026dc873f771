-- The status that a fault of the words, a fault of the reading, or a refusal is.
use Rattle.commands.specs.declared.words.WordsFault.{WordsFault}
use Rattle.commands.specs.declared.words.WordsFault.TheVariants as words
use Rattle.commands.specs.declared.input.InputFault.{InputFault}
use Rattle.commands.specs.declared.input.InputFault.TheVariants as input
use Rattle.commands.specs.declared.refusal.Refusal.{Refusal}
use Rattle.commands.specs.declared.refusal.Refusal.TheVariants as refusal
use Rattle.commands.specs.declared.status.Status.{Status}
use Rattle.commands.specs.declared.status.Status.TheVariants.{Usage, ReadFault, File, NotDivisible, NotTangent, CheckedNo, Cut, NotSymmetric, PairsSpent, DegreeOver, CandidatesOver, NoMemory}

abbrev pub words_status : WordsFault → Status
words_status words.Usage = Usage
words_status words.NoMemory = NoMemory

abbrev pub input_status : InputFault → Status
input_status input.Failed = ReadFault
input_status input.NoMemory = NoMemory

abbrev pub status_of : Refusal → Status
status_of (refusal.File fault) = File fault
status_of (refusal.NotDivisible i) = NotDivisible i
status_of refusal.NotTangent = NotTangent
status_of (refusal.CheckedNo fault) = CheckedNo fault
status_of (refusal.Cut fault) = Cut fault
status_of (refusal.NotSymmetric k) = NotSymmetric k
status_of (refusal.PairsSpent sector) = PairsSpent sector
status_of (refusal.DegreeOver sector) = DegreeOver sector
status_of (refusal.CandidatesOver sector) = CandidatesOver sector
status_of refusal.NoMemory = NoMemory
