-- Each list of words means what it means without the first `--`.
use Rattle.std.proofs.Common.{◌≡◌, ◌∙◌, ℕ, Bool, true, false, cond, refl, sym, ap, subst, List, [], ◌∷◌, Option, Some, None, codes, length, nat_le}
use Rattle.std.proofs.lemmas.Slice.Eq.{bytes_eq-Decides}
use Rattle.std.proofs.Math.Bool.{and-false}
use Rattle.std.specs.Str.{bytes_eq}
use Rattle.std.specs.Str.Parse.{digits_value}
use Rattle.clap.specs.Walk.{Row, Text, Walk, idle, settled_rows, walked}
use Rattle.clap.specs.Faults.{walk_fault}
use Rattle.clap.proofs.OnLiterals.{clap_on_literals}
use Rattle.commands.specs.Words.{alone, with_number, command_of, is_number, number_in}
use Rattle.commands.specs.WordLists.{listed, without_mark}
use Rattle.commands.specs.declared.words.Command.{Command}
use Rattle.commands.specs.declared.words.Command.TheVariants.{Identity, Basis, Plain, Check, Meet, Cut, Fold, Drill}
use Rattle.commands.proofs.Walks.{rules, at, comes, blocked, passed, from_start, cond_same}
use Rattle.commands.proofs.WordSorts.{mark, Sort, Starts, IsPlain, is_mark, is_plain, is_unknown, is_workers, sort_of}
use Rattle.commands.proofs.WorkersWalks.{unknown_comes, workers_come}

-- the places of a walk that met no option: before the command, behind it, and behind the number
abbrev none_met : Bool → Walk
none_met trailing = at [] None idle 1 trailing

abbrev one_met : Text → Bool → Walk
one_met word trailing = at [] (Some (codes "command", word ∷ [])) idle 2 trailing

abbrev two_met : Text → Text → Bool → Walk
two_met word number trailing = at (settled_rows rules (Some (codes "command", word ∷ [])) []) (Some (codes "number", number ∷ [])) idle 3 trailing

ends_none : (trailing : Bool) → comes (none_met trailing) [] ≡ None
unfolding comes clap_on_literals
ends_none trailing = refl

ends_one : (word : Text) (trailing : Bool) → comes (one_met word trailing) [] ≡ alone word
unfolding comes clap_on_literals
ends_one word trailing = refl

ends_two : (word number : Text) (trailing : Bool) → comes (two_met word number trailing) [] ≡ with_number word number
unfolding comes clap_on_literals
ends_two word number trailing = refl

-- behind the mark each word is a value
one_later : (word : Text) (words : List Text) → comes (none_met true) (word ∷ words) ≡ comes (one_met word true) words
unfolding comes walk_fault walked
one_later word words = refl

two_later : (word number : Text) (words : List Text) → comes (one_met word true) (number ∷ words) ≡ comes (two_met word number true) words
unfolding comes walk_fault walked
two_later word number words = refl

more_later : (word number more : Text) (words : List Text) → comes (two_met word number true) (more ∷ words) ≡ None
more_later word number more words = blocked (two_met word number true) more words (λ none. cc)

later_two : (word number : Text) (words : List Text) → comes (two_met word number true) words ≡ listed (word ∷ number ∷ words)
later_two word number [] = ends_two word number true
later_two word number (more ∷ words) = more_later word number more words

later_one : (word : Text) (words : List Text) → comes (one_met word true) words ≡ listed (word ∷ words)
later_one word [] = ends_one word true
later_one word (number ∷ words) = two_later word number words ∙ later_two word number words

later_none : (words : List Text) → comes (none_met true) words ≡ listed words
later_none [] = ends_none true
later_none (word ∷ words) = one_later word words ∙ later_one word words

-- before the mark

marked : (rows : List Row) (pending : Option (Text × List Text)) (position : ℕ) (words : List Text) → comes (at rows pending idle position false) (mark ∷ words) ≡ comes (at rows pending idle position true) words
unfolding comes walk_fault walked
marked rows pending position words = refl

one_plain : (word : Text) (words : List Text) → IsPlain word → comes (none_met false) (word ∷ words) ≡ comes (one_met word false) words
unfolding walked
one_plain word words p = passed (none_met false) word words (rw (p.passes idle [] None, p.meets idle 1 [] None) refl) ∙ ap (λ w. comes w words) (rw (p.meets idle 1 [] None) refl)

two_plain : (word number : Text) (words : List Text) → IsPlain number → comes (one_met word false) (number ∷ words) ≡ comes (two_met word number false) words
unfolding walked
two_plain word number words p =
    let pending : Option (Text × List Text) = Some (codes "command", word ∷ []) in
    passed (one_met word false) number words (rw (p.passes idle [] pending, p.meets idle 2 [] pending) refl) ∙ ap (λ w. comes w words) (rw (p.meets idle 2 [] pending) refl)

more_plain : (word number more : Text) (words : List Text) → IsPlain more → comes (two_met word number false) (more ∷ words) ≡ None
more_plain word number more words p =
    let rows = settled_rows rules (Some (codes "command", word ∷ [])) [] in
    let pending : Option (Text × List Text) = Some (codes "number", number ∷ []) in
    blocked (two_met word number false) more words (λ none. let full = rw (p.passes idle rows pending, p.meets idle 3 rows pending) at none in cc)

-- no word of the table starts with a hyphen
alone_dashed : (word : Text) → Starts word → alone word ≡ None
alone_dashed word s = rw s.is refl

first_dashed : (word number : Text) → Starts word → with_number word number ≡ None
first_dashed word number s = rw s.is refl

no_number : (number : Text) → Starts number → number_in number ≡ None
unfolding number_in
no_number number s = rw (s.is, and-false (nat_le (length (45 ∷ s.rest)) 4), and-false (nat_le 1 (length (45 ∷ s.rest)))) refl

passed_over : (test : Bool) (other : Option Command) → other ≡ None → cond test None other ≡ None
passed_over test other none = ap (λ (o : Option Command). cond test None o) none ∙ cond_same test None

number_dashed : (word number : Text) → Starts number → with_number word number ≡ None
number_dashed word number s =
    rw (no_number number s)
    (passed_over (bytes_eq word (codes "basis")) _ (passed_over (bytes_eq word (codes "meet")) _ (passed_over (bytes_eq word (codes "cut")) _ (cond_same (bytes_eq word (codes "drill")) None))))

listed_dashed : (word : Text) (words : List Text) → Starts word → listed (word ∷ words) ≡ None
listed_dashed word [] s = alone_dashed word s
listed_dashed word (number ∷ []) s = first_dashed word number s
listed_dashed word (number ∷ more ∷ words) s = refl

listed_number_dashed : (word number : Text) (words : List Text) → Starts number → listed (word ∷ number ∷ words) ≡ None
listed_number_dashed word number [] s = number_dashed word number s
listed_number_dashed word number (more ∷ words) s = refl

-- each list, by how many words of it were values

module _ (word number : Text) where
  two_ahead : (words : List Text) → comes (two_met word number false) words ≡ listed (word ∷ number ∷ without_mark words)
  two_ahead [] = ends_two word number false
  two_ahead (more ∷ words) = by (sort_of more)
    where
      by : Sort more → comes (two_met word number false) (more ∷ words) ≡ listed (word ∷ number ∷ without_mark (more ∷ words))
      by (is_mark e) = subst (λ (x : Text). comes (two_met word number false) (x ∷ words) ≡ listed (word ∷ number ∷ without_mark (x ∷ words))) (sym e) (marked _ _ 3 words ∙ later_two word number words)
      by (is_plain p) = rw p.not_mark (more_plain word number more words p)
      by (is_unknown u) = rw u.starts.not_mark (unknown_comes _ _ 3 more words u)
      by (is_workers k) = rw k.starts.not_mark (workers_come _ _ 3 more words k)

one_ahead : (word : Text) (words : List Text) → comes (one_met word false) words ≡ listed (word ∷ without_mark words)
one_ahead word [] = ends_one word false
one_ahead word (number ∷ words) = by (sort_of number)
  where
    by : Sort number → comes (one_met word false) (number ∷ words) ≡ listed (word ∷ without_mark (number ∷ words))
    by (is_mark e) = subst (λ (x : Text). comes (one_met word false) (x ∷ words) ≡ listed (word ∷ without_mark (x ∷ words))) (sym e) (marked _ _ 2 words ∙ later_one word words)
    by (is_plain p) = rw p.not_mark (two_plain word number words p ∙ two_ahead word number words)
    by (is_unknown u) = rw u.starts.not_mark (unknown_comes _ _ 2 number words u ∙ sym (listed_number_dashed word number (without_mark words) u.starts))
    by (is_workers k) = rw k.starts.not_mark (workers_come _ _ 2 number words k ∙ sym (listed_number_dashed word number (without_mark words) k.starts))

none_ahead : (words : List Text) → comes (none_met false) words ≡ listed (without_mark words)
none_ahead [] = ends_none false
none_ahead (word ∷ words) = by (sort_of word)
  where
    by : Sort word → comes (none_met false) (word ∷ words) ≡ listed (without_mark (word ∷ words))
    by (is_mark e) = subst (λ (x : Text). comes (none_met false) (x ∷ words) ≡ listed (without_mark (x ∷ words))) (sym e) (marked _ _ 1 words ∙ later_none words)
    by (is_plain p) = rw p.not_mark (one_plain word words p ∙ one_ahead word words)
    by (is_unknown u) = rw u.starts.not_mark (unknown_comes _ _ 1 word words u ∙ sym (listed_dashed word (without_mark words) u.starts))
    by (is_workers k) = rw k.starts.not_mark (workers_come _ _ 1 word words k ∙ sym (listed_dashed word (without_mark words) k.starts))

pub reads_lists : (words : List Text) → command_of words ≡ listed (without_mark words)
reads_lists words = from_start words ∙ none_ahead words

-- the mark is no number
number_apart : (number : Text) (t : Bool) → bytes_eq number mark ≡ t → is_number number ≡ true → t ≡ false
number_apart number true is digits = let e : number ≡ mark = (bytes_eq-Decides number mark).0 is in let none : false ≡ true = rw e at digits in sym none
number_apart number false is digits = refl

number_is : (number : Text) → is_number number ≡ true → number_in number ≡ Some (digits_value 10 number)
unfolding number_in
number_is number digits = rw digits refl

pub basis_is : (number : Text) → is_number number ≡ true → command_of (codes "basis" ∷ number ∷ []) ≡ Some (Basis (digits_value 10 number))
basis_is number digits = reads_lists (codes "basis" ∷ number ∷ []) ∙ rw (number_apart number _ refl digits, number_is number digits) refl

pub meet_is : (number : Text) → is_number number ≡ true → command_of (codes "meet" ∷ number ∷ []) ≡ Some (Meet (digits_value 10 number))
meet_is number digits = reads_lists (codes "meet" ∷ number ∷ []) ∙ rw (number_apart number _ refl digits, number_is number digits) refl

pub cut_is : (number : Text) → is_number number ≡ true → command_of (codes "cut" ∷ number ∷ []) ≡ Some (Cut (digits_value 10 number))
cut_is number digits = reads_lists (codes "cut" ∷ number ∷ []) ∙ rw (number_apart number _ refl digits, number_is number digits) refl

pub drill_is : (number : Text) → is_number number ≡ true → command_of (codes "drill" ∷ number ∷ []) ≡ Some (Drill (digits_value 10 number))
drill_is number digits = reads_lists (codes "drill" ∷ number ∷ []) ∙ rw (number_apart number _ refl digits, number_is number digits) refl

pub identity_is : command_of (codes "identity" ∷ []) ≡ Some Identity
identity_is = reads_lists (codes "identity" ∷ [])

pub plain_is : command_of (codes "plain" ∷ []) ≡ Some Plain
plain_is = reads_lists (codes "plain" ∷ [])

pub check_is : command_of (codes "check" ∷ []) ≡ Some Check
check_is = reads_lists (codes "check" ∷ [])

pub fold_is : command_of (codes "fold" ∷ []) ≡ Some Fold
fold_is = reads_lists (codes "fold" ∷ [])
