-- What a word is to the walk, as long as options are read.
use Rattle.std.proofs.Common.{◌≡◌, ◌==◌, ℕ, Bool, true, false, refl, ap, subst, List, [], ◌∷◌, Option, Some, None, arith, codes}
use Rattle.std.proofs.lemmas.Bool.Decides.{nat_tests}
use Rattle.std.specs.Prelude.{slice_get}
use Rattle.std.specs.Str.{bytes_eq, chars}
use Rattle.clap.specs.Lexer.{name_and_value, long_of, short_of}
use Rattle.clap.specs.Walk.{Row, Rule, Text, Waiting, Held, idle, option, positional, subcommand_met, word_met, plain_word, after_flag, option_met, bundle, bundle_met, plain}
use Rattle.clap.specs.Simple.{filled}
use Rattle.clap.specs.Faults.{word_fault, bundle_fault, flags_fault}
use Rattle.clap.specs.declared.error.kind.ErrorKind.TheVariants.{UnknownArgument}
use Rattle.commands.specs.Program.{workers_rule}
use Rattle.commands.proofs.Walks.{shape, rules}

abbrev pub mark : Text
mark = codes "--"

abbrev pub held : List Row → Option (Text × List Text) → Held
held rows pending = record { rows = rows; pending = pending; skip = 0 }

-- the option `--workers`, once the command line is built
abbrev pub workers : Rule
workers = filled workers_rule

pub record Starts (word : Text) : Type 0 where
  pub rest : Text
  pub is : word ≡ 45 ∷ rest
  pub not_mark : bytes_eq word mark ≡ false

-- the word is a value
pub record IsPlain (word : Text) : Type 0 where
  pub not_mark : bytes_eq word mark ≡ false
  pub meets : (waiting : Waiting) (position : ℕ) (rows : List Row) (pending : Option (Text × List Text)) → word_met rules [] false waiting position word (held rows pending) ≡ plain_word rules waiting word (held rows pending)
  pub passes : (waiting : Waiting) (rows : List Row) (pending : Option (Text × List Text)) → word_fault shape [] false waiting word (held rows pending) ≡ []

-- the word is an option that there is not
pub record IsUnknown (word : Text) : Type 0 where
  pub starts : Starts word
  pub refused : (waiting : Waiting) (rows : List Row) (pending : Option (Text × List Text)) → word_fault shape [] false waiting word (held rows pending) ≡ [] → ⊥

-- the word is the option of the workers
pub record IsWorkers (word : Text) : Type 0 where
  pub starts : Starts word
  pub value : Option Text
  pub meets : (waiting : Waiting) (position : ℕ) (rows : List Row) (pending : Option (Text × List Text)) → word_met rules [] false waiting position word (held rows pending) ≡ after_flag rules waiting word (option_met rules workers value (held rows pending)).0 (option_met rules workers value (held rows pending)).1

pub data Sort (word : Text) : Type 0 where
  is_mark : word ≡ mark → Sort word
  is_plain : IsPlain word → Sort word
  is_unknown : IsUnknown word → Sort word
  is_workers : IsWorkers word → Sort word

pub no_name : (waiting : Waiting) (word : Text) → subcommand_met [] waiting word ≡ None
no_name idle word = refl
no_name (option id) word = refl
no_name positional word = refl

-- a word that has no name of an option
undashed : (word : Text) → bytes_eq word mark ≡ false → long_of word ≡ None → short_of word ≡ None → IsPlain word
undashed word not long short = record {
  not_mark = not;
  meets = λ waiting position rows pending. rw (no_name waiting word, not, long, short) refl;
  passes = λ waiting rows pending. rw (no_name waiting word, not, long, short) refl;
}

undashed_byte : (b : ℕ) (bs : Text) → (b == 45) ≡ false → IsPlain (b ∷ bs)
undashed_byte b bs not = undashed (b ∷ bs) (rw not refl) (rw not refl) (rw not refl)

long_name : (c : ℕ) (cs : Text) → (t : Bool) → bytes_eq (codes "workers") (name_and_value (c ∷ cs)).0 ≡ t → Sort (45 ∷ 45 ∷ c ∷ cs)
long_name c cs true is = is_workers (record {
  starts = record { rest = 45 ∷ c ∷ cs; is = refl; not_mark = refl };
  value = (name_and_value (c ∷ cs)).1;
  meets = λ waiting position rows pending. rw (no_name waiting (45 ∷ 45 ∷ c ∷ cs), is) refl;
})
long_name c cs false is = is_unknown (record {
  starts = record { rest = 45 ∷ c ∷ cs; is = refl; not_mark = refl };
  refused = λ waiting rows pending none. let full = rw (no_name waiting (45 ∷ 45 ∷ c ∷ cs), is) at none in cc;
})

-- the flags of one hyphen: there are none that the command line names
no_flags : (c : ℕ) (cs : Text) (rows : List Row) (pending : Option (Text × List Text)) → slice_get (chars (c ∷ cs)) 0 ≡ None → bundle rules (c ∷ cs) (held rows pending) ≡ (held rows pending, plain)
unfolding bundle_met
no_flags c cs rows pending none = rw none refl

some_flag : (c x : ℕ) (cs : Text) (rows : List Row) (pending : Option (Text × List Text)) → slice_get (chars (c ∷ cs)) 0 ≡ Some x → bundle_fault rules false (c ∷ cs) (held rows pending) ≡ UnknownArgument ∷ []
unfolding flags_fault
some_flag c x cs rows pending some = rw some refl

no_fault : (c : ℕ) (cs : Text) (rows : List Row) (pending : Option (Text × List Text)) → slice_get (chars (c ∷ cs)) 0 ≡ None → bundle_fault rules false (c ∷ cs) (held rows pending) ≡ []
unfolding flags_fault
no_fault c cs rows pending none = rw none refl

starts_short : (c : ℕ) (cs : Text) → (c == 45) ≡ false → Starts (45 ∷ c ∷ cs)
starts_short c cs not = record { rest = c ∷ cs; is = refl; not_mark = rw not refl }

short_name : (c : ℕ) (cs : Text) → (c == 45) ≡ false → (o : Option ℕ) → slice_get (chars (c ∷ cs)) 0 ≡ o → Sort (45 ∷ c ∷ cs)
short_name c cs not None none = is_plain (record {
  not_mark = rw not refl;
  meets = λ waiting position rows pending. rw (no_name waiting (45 ∷ c ∷ cs), not, not, no_flags c cs rows pending none) refl;
  passes = λ waiting rows pending. rw (no_name waiting (45 ∷ c ∷ cs), not, not) (no_fault c cs rows pending none);
})
short_name c cs not (Some x) some = is_unknown (record {
  starts = starts_short c cs not;
  refused = λ waiting rows pending none. let full = rw (no_name waiting (45 ∷ c ∷ cs), not, not) at none in let is = some_flag c x cs rows pending some in cc;
})

hyphen : (rest : Text) → Sort (45 ∷ rest)
hyphen [] = is_plain (undashed (45 ∷ []) refl refl refl)
hyphen (c ∷ cs) = second c cs (c == 45) refl
  where
    second : (c : ℕ) (cs : Text) (t : Bool) → (c == 45) ≡ t → Sort (45 ∷ c ∷ cs)
    second c cs false not = short_name c cs not _ refl
    second c [] true is = is_mark (ap (λ (n : ℕ). 45 ∷ n ∷ []) (grind (arith, nat_tests)))
    second c (d ∷ ds) true is = let e : 45 ≡ c = grind (arith, nat_tests) in subst (λ (n : ℕ). Sort (45 ∷ n ∷ d ∷ ds)) e (long_name d ds _ refl)

pub sort_of : (word : Text) → Sort word
sort_of [] = is_plain (undashed [] refl refl refl)
sort_of (b ∷ bs) = first b bs (b == 45) refl
  where
    first : (b : ℕ) (bs : Text) (t : Bool) → (b == 45) ≡ t → Sort (b ∷ bs)
    first b bs false not = is_plain (undashed_byte b bs not)
    first b bs true is = let e : 45 ≡ b = grind (arith, nat_tests) in subst (λ (n : ℕ). Sort (n ∷ bs)) e (hyphen bs)
