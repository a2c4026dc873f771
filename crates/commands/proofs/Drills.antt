-- Which commands read a file, and the numbers of drills.
use Rattle.std.proofs.Common.{◌≡◌, ℕ, ◌+◌, ◌≤◌, ◌<◌, Bool, true, false, cond, List, [], ◌∷◌, length, Option, Some, None, option_map, Ok, refl, sym, ◌∙◌, ap, subst, arith, codes}
use Rattle.std.proofs.lemmas.Bool.{leb-true}
use Rattle.std.proofs.lemmas.Option.{same_Some}
use Rattle.std.specs.Char.{is_ascii_digit}
use Rattle.std.specs.List.{list_all}
use Rattle.std.specs.Prelude.{◌&&◌, nat_le}
use Rattle.std.specs.Str.{all_ascii_digits, bytes_eq}
use Rattle.std.specs.Str.Parse.{digits_value}
use Rattle.std.proofs.lemmas.Str.Parse.{digits_value_short}
use Rattle.clap.proofs.WalkLemmas.{both}
use Rattle.clap.specs.Walk.{Text}
use Rattle.family_file.specs.declared.limits.TheConstants.{DRILL_LIMIT, MAX_FILE}
use Rattle.family_file.specs.Drill.{drill_data}
use Rattle.family_file.specs.Family.{family_of}
use Rattle.commands.specs.Causes.{family_for, file_of, most_of, need_of, written_of, IsReadThrough, IsWithinDrills, ReadsFile, Takes}
use Rattle.commands.specs.Input.{TakesFront}
use Rattle.commands.specs.WordLists.{listed, without_mark}
use Rattle.commands.specs.Words.{alone, command_of, is_number, number_in, with_number}
use Rattle.commands.specs.declared.words.Command.{Command}
use Rattle.commands.specs.declared.words.Command.TheVariants.{Identity, Basis, Plain, Check, Meet, Cut, Fold, Drill}
use Rattle.commands.proofs.Lists.{reads_lists}
use Rattle.commands.proofs.Numbers.{digits_tested, numerals}
use Rattle.commands.proofs.Told.{Keeps-same}

-- a command that is no drill reads the file, and is given its family
pub reads_file : (asked : Command) → ((number : ℕ) → asked ≡ Drill number → ⊥) → ReadsFile asked
reads_file (Drill number) other = absurd (other number refl)
reads_file asked other = tt

pub read_file : (asked : Command) (file : List ℕ) → ReadsFile asked → family_for asked file ≡ family_of (need_of asked) file
read_file (Drill number) file reads = absurd reads
read_file asked file reads = refl

pub given_drill : (asked : Command) (number : ℕ) (file : List ℕ) → asked ≡ Drill number → family_for asked file ≡ Ok (drill_data number)
given_drill asked number file is = ap (λ (c : Command). family_for c file) is

pub takes_none : (asked : Command) (number : ℕ) (left : Option (List ℕ)) (bytes : List ℕ) → asked ≡ Drill number → Takes asked left left bytes
takes_none asked number left bytes is = subst (λ (c : Command). Takes c left left bytes) (sym is) (Keeps-same left)

pub takes_most : (asked : Command) (before now : Option (List ℕ)) (bytes : List ℕ) → ReadsFile asked → TakesFront (most_of asked) before now bytes → Takes asked before now bytes
takes_most (Drill number) before now bytes reads taken = absurd reads
takes_most asked before now bytes reads taken = taken

pub taken_most : (asked : Command) (before now : Option (List ℕ)) (bytes : List ℕ) → ReadsFile asked → Takes asked before now bytes → TakesFront (most_of asked) before now bytes
taken_most (Drill number) before now bytes reads taken = absurd reads
taken_most asked before now bytes reads taken = taken

-- a command that isn't `check` has a file and no written text
pub most_of_file : (asked : Command) → (asked ≡ Check → ⊥) → most_of asked ≡ MAX_FILE + 1
most_of_file Check other = absurd (other refl)
most_of_file asked other = refl

pub file_alone : (asked : Command) (input : List ℕ) → (asked ≡ Check → ⊥) → file_of asked input ≡ input
file_alone Check input other = absurd (other refl)
file_alone asked input other = refl

pub none_written : (asked : Command) (input : List ℕ) → (asked ≡ Check → ⊥) → written_of asked input ≡ []
none_written Check input other = absurd (other refl)
none_written asked input other = refl

-- ---- the number of a drill that words name

abbrev Small : Option Command → Type 0
Small found = (asked : Command) → found ≡ Some asked → IsWithinDrills asked

none_small : Small None
none_small asked is = absurd (cc)

one_small : (c : Command) → IsWithinDrills c → Small (Some c)
one_small c small asked is = subst IsWithinDrills (same_Some c asked is) small

either_small : (test : Bool) (x y : Option Command) → Small x → Small y → Small (cond test x y)
either_small true x y first second = first
either_small false x y first second = second

made_small : (make : ℕ → Command) (found : Option ℕ) → ((number : ℕ) → found ≡ Some number → IsWithinDrills (make number)) → Small (option_map make found)
made_small make None small = none_small
made_small make (Some number) small = one_small (make number) (small number refl)

short_number : (word : Text) → is_number word ≡ true → digits_value 10 word ≤ DRILL_LIMIT
short_number word is =
    let back = both (nat_le (length word) 4) (list_all is_ascii_digit word) (both (nat_le 1 (length word)) (nat_le (length word) 4 && list_all is_ascii_digit word) is).1 in
    let digits : all_ascii_digits word ≡ true = sym (digits_tested word) ∙ back.1 in
    let short : digits_value 10 word < 10000 = digits_value_short numerals word 4 digits (leb-true (length word) 4 back.0) in
    omega (arith, short)

small_if : (word : Text) (test : Bool) → is_number word ≡ test → (number : ℕ) → cond test (Some (digits_value 10 word)) None ≡ Some number → number ≤ DRILL_LIMIT
small_if word true is number found = subst (λ (k : ℕ). k ≤ DRILL_LIMIT) (same_Some (digits_value 10 word) number found) (short_number word is)
small_if word false is number found = absurd (cc)

number_small : (word : Text) (number : ℕ) → number_in word ≡ Some number → number ≤ DRILL_LIMIT
unfolding number_in
number_small word number is = small_if word (is_number word) refl number is

alone_small : (word : Text) → Small (alone word)
alone_small word =
    either_small (bytes_eq word (codes "identity")) (Some Identity) _ (one_small Identity tt)
    (either_small (bytes_eq word (codes "plain")) (Some Plain) _ (one_small Plain tt)
    (either_small (bytes_eq word (codes "check")) (Some Check) _ (one_small Check tt)
    (either_small (bytes_eq word (codes "fold")) (Some Fold) None (one_small Fold tt) none_small)))

numbered_small : (word number : Text) → Small (with_number word number)
numbered_small word number =
    either_small (bytes_eq word (codes "basis")) (option_map Basis (number_in number)) _ (made_small Basis (number_in number) (λ k is. tt))
    (either_small (bytes_eq word (codes "meet")) (option_map Meet (number_in number)) _ (made_small Meet (number_in number) (λ k is. tt))
    (either_small (bytes_eq word (codes "cut")) (option_map Cut (number_in number)) _ (made_small Cut (number_in number) (λ k is. tt))
    (either_small (bytes_eq word (codes "drill")) (option_map Drill (number_in number)) None (made_small Drill (number_in number) (number_small number)) none_small)))

listed_small : (words : List Text) → Small (listed words)
listed_small [] = none_small
listed_small (word ∷ []) = alone_small word
listed_small (word ∷ number ∷ []) = numbered_small word number
listed_small (word ∷ number ∷ more ∷ words) = none_small

-- a drill that words name is within the limit
pub within_drills : (words : List Text) (asked : Command) → command_of words ≡ Some asked → IsWithinDrills asked
within_drills words asked is = listed_small (without_mark words) asked (sym (reads_lists words) ∙ is)

-- ---- what is known of the words' command holds of each command that the words are

front_through : (n : ℕ) (before now : Option (List ℕ)) (bytes : List ℕ) → TakesFront n before now bytes → IsReadThrough n before now
front_through n None now bytes taken = tt
front_through n (Some input) now bytes taken = taken.1

pub through : (found : Option Command) (asked : Command) (before now : Option (List ℕ)) (bytes : List ℕ) → found ≡ Some asked → Takes asked before now bytes
    → (command : Command) → found ≡ Some command → ReadsFile command → IsReadThrough (most_of command) before now
through found asked before now bytes is taken command also reads =
    front_through (most_of command) before now bytes (taken_most command before now bytes reads (subst (λ (c : Command). Takes c before now bytes) (same_Some asked command (sym is ∙ also)) taken))

pub unread : (found : Option Command) (asked : Command) (kept : Type 0) → found ≡ Some asked → ((ReadsFile asked → ⊥) → kept)
    → (command : Command) → found ≡ Some command → (ReadsFile command → ⊥) → kept
unread found asked kept is holds command also none = holds (λ reads. none (subst ReadsFile (same_Some asked command (sym is ∙ also)) reads))
