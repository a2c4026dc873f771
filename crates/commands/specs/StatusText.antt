-- The exit status and the message of each status.
use Rattle.std.specs.Prelude.{ℕ, List, [], ◌++◌, codes, decimal}
use Rattle.cut_family.specs.declared.fault.CutFault.{CutFault}
use Rattle.cut_family.specs.declared.fault.CutFault.TheVariants as cut
use Rattle.family_file.specs.Fault.{fault_number}
use Rattle.sector_lattice.specs.declared.sector.Sector.{Sector}
use Rattle.system_check.specs.declared.fault.CheckFault.{CheckFault}
use Rattle.system_check.specs.declared.fault.CheckFault.TheVariants as check
use Rattle.commands.specs.declared.status.Status.{Status}
use Rattle.commands.specs.declared.status.Status.TheVariants.{Done, Usage, ReadFault, File, NotDivisible, NotTangent, PairsSpent, DegreeOver, CandidatesOver, WriteFault, NoMemory, CheckedNo, Cut, NotSymmetric}

abbrev pub code_of : Status → ℕ
code_of Done = 0
code_of Usage = 2
code_of ReadFault = 3
code_of (File fault) = 4
code_of (NotDivisible i) = 5
code_of NotTangent = 5
code_of (PairsSpent sector) = 6
code_of (DegreeOver sector) = 7
code_of (CandidatesOver sector) = 8
code_of WriteFault = 9
code_of NoMemory = 10
code_of (CheckedNo fault) = 11
code_of (Cut fault) = 12
code_of (NotSymmetric k) = 13

-- the first fault of a written text
abbrev pub field_message : Sector → ℕ → List ℕ
field_message sector field = codes "checked no: field " ++ decimal field ++ codes " of sector " ++ decimal sector.0

abbrev pub check_message : CheckFault → List ℕ
check_message check.TooLong = codes "checked no: too long"
check_message (check.BadText line) = codes "checked no: text line " ++ decimal line
check_message check.BadName = codes "checked no: name"
check_message (check.BadField sector field) = field_message sector field
check_message (check.BadRelation number) = codes "checked no: relation " ++ decimal number
check_message check.BadTargets = codes "checked no: targets"
check_message (check.BadReduction number) = codes "checked no: reduction " ++ decimal number

-- why there is no cut family
abbrev pub cut_message : CutFault → List ℕ
cut_message cut.All = codes "cut fault all"
cut_message cut.Zero = codes "cut fault zero"
cut_message (cut.Target number) = codes "cut fault target " ++ decimal number

abbrev pub message_of : Status → List ℕ
message_of Done = []
message_of Usage = codes "usage: neatibp identity | basis N | plain | system --workers W | drill N | check | meet N | cut N | fold"
message_of ReadFault = codes "read fault"
message_of (File fault) = codes "file fault F" ++ decimal (fault_number fault)
message_of (NotDivisible i) = codes "not divisible z" ++ decimal i
message_of NotTangent = codes "not tangent"
message_of (PairsSpent sector) = codes "pairs spent in sector " ++ decimal sector.0
message_of (DegreeOver sector) = codes "degree over in sector " ++ decimal sector.0
message_of (CandidatesOver sector) = codes "candidates over in sector " ++ decimal sector.0
message_of WriteFault = codes "write fault"
message_of NoMemory = codes "no memory"
message_of (CheckedNo fault) = check_message fault
message_of (Cut fault) = cut_message fault
message_of (NotSymmetric k) = codes "not symmetric " ++ decimal k
