-- The cause of each status, for a command and what it is given.
use Rattle.std.specs.Prelude.{◌≡◌, ◌≤◌, ◌+◌, ◌⊎◌, ℕ, List, [], Vec, Option, Some, None, take, drop, Result, Ok, Err, IfSome, IsOkAnd, ⊤}
use Rattle.std.specs.declared.alloc.Global.{Global}
use Rattle.std.specs.Io.KnownBytes.{Keeps, Appends}
use Rattle.family_file.specs.declared.limits.TheConstants.{DRILL_LIMIT, MAX_FILE}
use Rattle.family_file.specs.Drill.{drill_data}
use Rattle.family_file.specs.Family.{family_of}
use Rattle.family_file.specs.declared.fault.FileFault.{FileFault}
use Rattle.family_file.specs.declared.need.Need.{Need}
use Rattle.family_file.specs.declared.need.Need.TheVariants as needs
use Rattle.family.specs.FamilyData.{FamilyData}
use Rattle.system_check.specs.declared.limits.TheConstants.{TEXT_LIMIT}
use Rattle.system_check.specs.Rightness.{IsRight}
use Rattle.commands.specs.Answers.{IsAnswer}
use Rattle.commands.specs.Basis.{IsBasisText, IsRunDone, RefusesBasis}
use Rattle.commands.specs.Check.{IsCheckText, RefusesCheck}
use Rattle.commands.specs.CheckInput.{file_part, written_part}
use Rattle.commands.specs.Cut.{HasCutSystem, IsCutText, RefusesCut}
use Rattle.commands.specs.Fold.{HasFold, IsFoldText, RefusesFold}
use Rattle.commands.specs.Drill.{IsSummaryText}
use Rattle.commands.specs.Identity.{IsIdentityText, MeetsProbe, RefusesIdentity}
use Rattle.commands.specs.Input.{TakesFront}
use Rattle.commands.specs.Output.{AppendsFront}
use Rattle.commands.specs.Meet.{HasMeet, IsMeetText, RefusesMeet}
use Rattle.commands.specs.Plain.{HasSystem, IsSystemText, RefusesPlain}
use Rattle.commands.specs.declared.words.Command.{Command}
use Rattle.commands.specs.declared.words.Command.TheVariants as command
use Rattle.commands.specs.declared.refusal.Refusal.{Refusal}
use Rattle.commands.specs.declared.status.Status.{Status}
use Rattle.commands.specs.declared.status.Status.TheVariants.{Done, Usage, ReadFault, File, WriteFault, NoMemory}

-- what a command needs of a file beside the family
abbrev pub need_of : Command → Need
need_of command.Identity = needs.Probe
need_of (command.Basis number) = needs.Sector number
need_of command.Plain = needs.Family
need_of command.Check = needs.Family
need_of (command.Meet number) = needs.Sector number
need_of (command.Cut number) = needs.Sector number
need_of command.Fold = needs.Family
need_of (command.Drill number) = needs.Family

-- what a command works on: a family, and the written text behind its file, which `check` alone has
pub record Given : Type 0 where
  pub family : FamilyData
  pub written : List ℕ

-- the most bytes that a command takes of a source: one more than a file may have, or than a file and a text
abbrev pub most_of : Command → ℕ
most_of command.Check = MAX_FILE + TEXT_LIMIT + 1
most_of asked = MAX_FILE + 1

-- the file in the input of a command, and the written text behind it
abbrev pub file_of : Command → List ℕ → List ℕ
file_of command.Check input = file_part (take (most_of command.Check) input)
file_of asked input = input

abbrev pub written_of : Command → List ℕ → List ℕ
written_of command.Check input = written_part (take (most_of command.Check) input)
written_of asked input = []

-- a drill has a family of its own, whatever the file, and each other command the family of the file, or its first fault
abbrev pub family_for : Command → List ℕ → Result FamilyData FileFault
family_for (command.Drill number) file = Ok (drill_data number)
family_for asked file = family_of (need_of asked) file

abbrev pub with_written : List ℕ → Result FamilyData FileFault → Result Given FileFault
with_written written (Ok family) = Ok (record { family = family; written = written })
with_written written (Err fault) = Err fault

-- what a command is given
abbrev pub given_of : Command → List ℕ → Result Given FileFault
given_of asked input = with_written (written_of asked input) (family_for asked (file_of asked input))

-- It holds of what the command is given, where that is known: for a drill always, and else where the source tells the
-- bytes that are left.
abbrev pub IfGiven : Command → Option (List ℕ) → (Result Given FileFault → Type 0) → Type 0
IfGiven (command.Drill number) left P = P (given_of (command.Drill number) [])
IfGiven asked left P = IfSome left (λ input. P (given_of asked input))

-- the text that a command writes of what it is given
abbrev pub IsTextOf : Command → Given → List ℕ → Type 0
IsTextOf command.Identity given text = IsIdentityText given.family text
IsTextOf (command.Basis number) given text = IsBasisText given.family number text
IsTextOf command.Plain given text = IsSystemText given.family text
IsTextOf command.Check given text = IsCheckText given.family given.written text
IsTextOf (command.Meet number) given text = IsMeetText given.family number text
IsTextOf (command.Cut number) given text = IsCutText given.family number text
IsTextOf command.Fold given text = IsFoldText given.family text
IsTextOf (command.Drill number) given text = IsSummaryText given.family number text

-- the statuses by which a command refuses what it is given
abbrev pub Refuses : Command → Given → Status → Type 0
Refuses command.Identity given status = RefusesIdentity given.family status
Refuses (command.Basis number) given status = RefusesBasis given.family number status
Refuses command.Plain given status = RefusesPlain given.family status
Refuses command.Check given status = RefusesCheck given.family given.written status
Refuses (command.Meet number) given status = RefusesMeet given.family number status
Refuses (command.Cut number) given status = RefusesCut given.family number status
Refuses command.Fold given status = RefusesFold given.family status
Refuses (command.Drill number) given status = RefusesPlain given.family status

-- a status by which the file or the command refuses
abbrev pub IsRefused : Command → Result Given FileFault → Status → Type 0
IsRefused asked (Err fault) status = status ≡ File fault
IsRefused asked (Ok given) status = Refuses asked given status

-- the answer is the status, unless the source failed or memory ran out
abbrev pub IsAnswered : Status → Status → Type 0
IsAnswered status result = (result ≡ status) ⊎ ((result ≡ ReadFault) ⊎ (result ≡ NoMemory))

-- a command works on what it is given
abbrev pub Accepts : Command → Given → Type 0
Accepts command.Identity given = MeetsProbe given.family
Accepts (command.Basis number) given = IsRunDone given.family number
Accepts command.Plain given = HasSystem given.family
Accepts command.Check given = IsRight given.family given.written
Accepts (command.Meet number) given = HasMeet given.family number
Accepts (command.Cut number) given = HasCutSystem given.family number
Accepts command.Fold given = HasFold given.family
Accepts (command.Drill number) given = HasSystem given.family

-- What a status tells of what the command is given, and of the bytes that the sink took.
abbrev pub Tells : Command → Result Given FileFault → Option (List ℕ) → Option (List ℕ) → Status → Type 0
Tells asked given before now Done = (text : List ℕ) × IsOkAnd given (λ g. IsTextOf asked g text) × Appends before now text
Tells asked given before now WriteFault = (text : List ℕ) × IsOkAnd given (λ g. IsTextOf asked g text) × AppendsFront before now text
Tells asked given before now (File fault) = (given ≡ Err fault) × Keeps before now
Tells asked given before now ReadFault = Keeps before now
Tells asked given before now NoMemory = Keeps before now
Tells asked given before now Usage = ⊥
Tells asked given before now status = IsOkAnd given (λ g. Refuses asked g status) × Keeps before now

-- the source was read to its end, or until n bytes were taken
abbrev pub IsReadThrough : ℕ → Option (List ℕ) → Option (List ℕ) → Type 0
IsReadThrough n None now = ⊤
IsReadThrough n (Some input) now = now ≡ Some (drop n input)

-- a command that reads a file
abbrev pub ReadsFile : Command → Type 0
ReadsFile (command.Drill number) = ⊥
ReadsFile asked = ⊤

-- the number of a drill is within its limit
abbrev pub IsWithinDrills : Command → Type 0
IsWithinDrills (command.Drill number) = number ≤ DRILL_LIMIT
IsWithinDrills asked = ⊤

-- what a command takes of the source: all bytes, or the most that it takes, and for a drill none
abbrev pub Takes : Command → Option (List ℕ) → Option (List ℕ) → List ℕ → Type 0
Takes (command.Drill number) before now bytes = Keeps before now
Takes asked before now bytes = TakesFront (most_of asked) before now bytes

-- a status that comes only once the source was read
abbrev pub IsReached : Status → Type 0
IsReached Usage = ⊥
IsReached ReadFault = ⊥
IsReached NoMemory = ⊥
IsReached status = ⊤

-- the family is that of some file, or a drill's
pub record HasFile (asked : Command) (family : FamilyData) : Type 0 where
  pub file : List ℕ
  pub is : family_for asked file ≡ Ok family

-- What a function gave is the command's text, or why the command refuses what it is given.
abbrev pub AnswersFor : Command → Given → Result (Vec ℕ Global) Refusal → Type 0
AnswersFor asked given result = IsAnswer (IsTextOf asked given) (Refuses asked given) result

-- What a function gave is the command's text, or why the file or the command refuses.
abbrev pub Answers : Command → Result Given FileFault → Result (Vec ℕ Global) Refusal → Type 0
Answers asked given result = IsAnswer (λ text. IsOkAnd given (λ g. IsTextOf asked g text)) (IsRefused asked given) result
