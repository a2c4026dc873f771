-- What is told of the bytes that were read holds of the source's bytes.
use Rattle.std.proofs.Common.{◌≡◌, ◌⊎◌, inl, inr, ℕ, zero, suc, ◌+◌, List, [], ◌∷◌, take, Option, Some, None, Result, Ok, Err, refl, sym, ap, subst, ◌∙◌}
use Rattle.std.specs.Prelude.{IfSome, IsOkAnd, Vec}
use Rattle.std.specs.declared.alloc.Global.{Global}
use Rattle.std.specs.Io.KnownBytes.{Keeps}
use Rattle.std.proofs.lemmas.Option.{same_Some}
use Rattle.family_file.specs.declared.limits.TheConstants.{MAX_FILE}
use Rattle.family_file.proofs.DrillLimits.{drill_within}
use Rattle.family_file.proofs.FamilyLimits.{accepted_within}
use Rattle.family_file.proofs.Front.{family_of-take}
use Rattle.family_file.specs.Drill.{drill_data}
use Rattle.family_file.specs.declared.need.Need.{Need}
use Rattle.family_file.specs.declared.need.Need.TheVariants as needs
use Rattle.ibp_base.proofs.Tests.{same_ok}
use Rattle.family_file.specs.declared.fault.FileFault.{FileFault}
use Rattle.family.specs.Within.{DataWithin}
use Rattle.family.specs.FamilyData.{FamilyData}
use Rattle.family_file.specs.Family.{family_of}
use Rattle.commands.specs.declared.words.Command.{Command}
use Rattle.commands.specs.declared.words.Command.TheVariants as command
use Rattle.commands.specs.declared.refusal.Refusal.{Refusal}
use Rattle.commands.specs.declared.refusal.Refusal.TheVariants as refusal
use Rattle.commands.specs.Statuses.{input_status, status_of, words_status}
use Rattle.commands.specs.declared.words.WordsFault.{WordsFault}
use Rattle.commands.specs.declared.words.WordsFault.TheVariants as words
use Rattle.commands.specs.declared.input.InputFault.{InputFault}
use Rattle.commands.specs.declared.input.InputFault.TheVariants as inputs
use Rattle.commands.specs.declared.status.Status.{Status}
use Rattle.commands.specs.Causes.{Given, family_for, file_of, given_of, most_of, need_of, with_written, written_of, Accepts, Answers, IfGiven, IsAnswered, IsReached, IsWithinDrills, Refuses, Takes, Tells}
use Rattle.commands.specs.CheckInput.{file_part, written_part}
use Rattle.commands.specs.Input.{TakesFront}
use Rattle.commands.specs.declared.status.Status.TheVariants as status
use Rattle.commands.proofs.Commands.{not_refused}

same_given : (x y : Given) → ◌≡◌ {A = Result Given FileFault} (Ok x) (Ok y) → x ≡ y
same_given x y e = cc

-- what holds by the bytes that were read holds by the source's bytes
file_given : (P : Result Given FileFault → Type 0) (need : Need) (left now : Option (List ℕ)) (bytes : List ℕ) → TakesFront (MAX_FILE + 1) left now bytes → P (with_written [] (family_of need bytes)) → IfSome left (λ input. P (with_written [] (family_of need input)))
file_given P need None now bytes taken told = tt
file_given P need (Some input) now bytes taken told =
    let file : family_of need bytes ≡ family_of need input = ap (family_of need) taken.0 ∙ family_of-take need input in
    subst (λ (r : Result FamilyData FileFault). P (with_written [] r)) file told

taken_again : (n : ℕ) (input : List ℕ) → take n (take n input) ≡ take n input
taken_again zero input = refl
taken_again (suc n) [] = refl
taken_again (suc n) (byte ∷ input) = ap (λ rest. byte ∷ rest) (taken_again n input)

pub front_again : (left now : Option (List ℕ)) (n : ℕ) (bytes : List ℕ) (P : List ℕ → Type 0) → TakesFront n left now bytes → P (take n bytes) → IfSome left (λ input. P (take n input))
front_again None now n bytes P taken told = tt
front_again (Some input) now n bytes P taken told = subst P (ap (take n) taken.0 ∙ taken_again n input) told

given_holds : (P : Result Given FileFault → Type 0) (asked : Command) (left now : Option (List ℕ)) (bytes : List ℕ) → Takes asked left now bytes → P (given_of asked bytes) → IfGiven asked left P
given_holds P (command.Drill number) left now bytes taken told = told
given_holds P command.Check left now bytes taken told =
    front_again left now (most_of command.Check) bytes (λ read. P (with_written (written_part read) (family_of needs.Family (file_part read)))) taken told
given_holds P asked left now bytes taken told = file_given P (need_of asked) left now bytes taken told

pub told_of : (P : Command → Result Given FileFault → Type 0) (found : Option Command) (asked : Command) (left now : Option (List ℕ)) (bytes : List ℕ) → found ≡ Some asked → Takes asked left now bytes → P asked (given_of asked bytes)
    → (command : Command) → found ≡ Some command → IfGiven command left (P command)
told_of P found asked left now bytes is taken told command also =
    subst (λ (c : Command). IfGiven c left (P c)) (same_Some asked command (sym is ∙ also)) (given_holds (P asked) asked left now bytes taken told)

-- what holds of whatever is given
pub of_any : (P : Result Given FileFault → Type 0) → ((given : Result Given FileFault) → P given) → (asked : Command) (left : Option (List ℕ)) → IfGiven asked left P
of_any P holds (command.Drill number) left = holds (given_of (command.Drill number) [])
of_any P holds asked None = tt
of_any P holds asked (Some input) = holds (given_of asked input)

-- what is given has the family of the command's file
pub unwritten : (written : List ℕ) (found : Result FamilyData FileFault) (given : Given) → with_written written found ≡ Ok given → found ≡ Ok given.family
unwritten written (Ok family) given is = ap (λ (g : Given). Ok g.family) (same_given _ given is)
unwritten written (Err fault) given is = absurd (cc)

-- and it is within the limits
family_within : (asked : Command) → IsWithinDrills asked → (file : List ℕ) (family : FamilyData) → family_for asked file ≡ Ok family → DataWithin family
family_within (command.Drill number) small file family is = subst DataWithin (same_ok (drill_data number) family is) (drill_within number small)
family_within asked small file family is = accepted_within (need_of asked) file family is

pub given_within : (asked : Command) → IsWithinDrills asked → (bytes : List ℕ) (given : Given) → given_of asked bytes ≡ Ok given → DataWithin given.family
given_within asked small bytes given is = family_within asked small (file_of asked bytes) given.family (unwritten (written_of asked bytes) (family_for asked (file_of asked bytes)) given is)

pub Keeps-same : (known : Option (List ℕ)) → Keeps known known
Keeps-same None = tt
Keeps-same (Some bytes) = refl

-- what was given of some bytes was given of the same bytes
pub of_bytes : (asked : Command) (bytes other : List ℕ) (result : Result (Vec ℕ Global) Refusal) → bytes ≡ other → Answers asked (given_of asked bytes) result → Answers asked (given_of asked other) result
of_bytes asked bytes other result same given = subst (λ (b : List ℕ). Answers asked (given_of asked b) result) same given

no_fault : (asked : Command) (given : Given) (fault : FileFault) → Refuses asked given (status.File fault) → ⊥
no_fault command.Identity given fault refused = refused
no_fault (command.Basis number) given fault refused = refused
no_fault command.Plain given fault refused = refused
no_fault command.Check given fault refused = refused
no_fault (command.Meet number) given fault refused = refused
no_fault (command.Cut number) given fault refused = refused
no_fault command.Fold given fault refused = refused
no_fault (command.Drill number) given fault refused = refused

pub told_refusal : (r : Refusal) (asked : Command) (given : Result Given FileFault) (known : Option (List ℕ)) → Answers asked given (Err r) → Tells asked given known known (status_of r)
told_refusal refusal.NoMemory asked given known failed = Keeps-same known
told_refusal (refusal.File fault) asked (Ok g) known failed = absurd (no_fault asked g fault failed)
told_refusal r asked (Ok g) known failed = (failed, Keeps-same known)
told_refusal (refusal.File fault) asked (Err other) known failed = (cc, Keeps-same known)
told_refusal r asked (Err other) known failed = absurd (cc)

-- only want of memory refuses a family that the command works on
pub refused : (r : Refusal) (asked : Command) (given : Result Given FileFault) → ((g : Given) → given ≡ Ok g → DataWithin g.family) → Answers asked given (Err r) → IsOkAnd given (Accepts asked) → r ≡ refusal.NoMemory
refused r asked (Err e) limits failed meets = absurd meets
refused refusal.NoMemory asked (Ok g) limits failed meets = refl
refused (refusal.File fault) asked (Ok g) limits failed meets = absurd (no_fault asked g fault failed)
refused r asked (Ok g) limits failed meets = absurd (not_refused asked g (status_of r) (limits g refl) meets failed)

-- ---- a source that could not be read

pub unread_told : (fault : InputFault) (asked : Command) (given : Result Given FileFault) (known : Option (List ℕ)) → Tells asked given known known (input_status fault)
unread_told inputs.Failed asked given known = Keeps-same known
unread_told inputs.NoMemory asked given known = Keeps-same known

pub unread_answers : (fault : InputFault) (status : Status) → IsAnswered status (input_status fault)
unread_answers inputs.Failed status = inr (inl refl)
unread_answers inputs.NoMemory status = inr (inr refl)

pub unread_complete : (fault : InputFault) (failed : Type 0) → (fault ≡ inputs.Failed → failed) → (failed → ⊥) → (input_status fault ≡ status.Done) ⊎ (input_status fault ≡ status.NoMemory)
unread_complete inputs.Failed failed rose none = absurd (none (rose refl))
unread_complete inputs.NoMemory failed rose none = inr refl

-- ---- words that were not read

pub words_told : (fault : WordsFault) (found : Option Command) → (fault ≡ words.Usage → found ≡ None) → (asked : Command) (given : Result Given FileFault) (known : Option (List ℕ)) → found ≡ Some asked → Tells asked given known known (words_status fault)
words_told words.Usage found none asked given known is = absurd (let no : found ≡ None = none refl in cc)
words_told words.NoMemory found none asked given known is = Keeps-same known

pub words_answer : (fault : WordsFault) (found : Option Command) → (fault ≡ words.Usage → found ≡ None) → (asked : Command) (status : Status) → found ≡ Some asked → IsAnswered status (words_status fault)
words_answer words.Usage found none asked status is = absurd (let no : found ≡ None = none refl in cc)
words_answer words.NoMemory found none asked status is = inr (inr refl)

pub words_complete : (fault : WordsFault) (found : Option Command) → (fault ≡ words.Usage → found ≡ None) → (asked : Command) → found ≡ Some asked → (words_status fault ≡ status.Done) ⊎ (words_status fault ≡ status.NoMemory)
words_complete words.Usage found none asked is = absurd (let no : found ≡ None = none refl in cc)
words_complete words.NoMemory found none asked is = inr refl

pub words_unreached : (fault : WordsFault) → IsReached (words_status fault) → ⊥
words_unreached words.Usage reached = reached
words_unreached words.NoMemory reached = reached
