-- The walk of the program's command line over a list of words, from any place on.
use Rattle.std.proofs.Common.{◌≡◌, ◌∙◌, ℕ, Bool, true, false, cond, refl, ap, List, [], ◌∷◌, Option, Some, None, option_and_then, arith}
use Rattle.std.proofs.lemmas.Bool.Decides.{nat_tests}
use Rattle.std.specs.List.{fold}
use Rattle.clap.specs.Walk.{Row, Rule, Text, Waiting, Walk, Held, idle, is_empty, finished, settled, walked, nothing_held}
use Rattle.clap.specs.Simple.{Shape, built, matches_of}
use Rattle.clap.specs.Kinds.{Kinds, or_else}
use Rattle.clap.specs.Faults.{fault_of, walk_fault, turn_fault, settle_fault, defaults_fault, check_fault}
use Rattle.clap.proofs.FaultLemmas.{leaf_fault}
use Rattle.commands.specs.Program.{program, rows_found}
use Rattle.commands.specs.Words.{command_of, command_of_rows}
use Rattle.commands.specs.declared.words.Command.{Command}

abbrev pub shape : Shape
shape = (built program).top

abbrev pub rules : List Rule
rules = shape.rules

-- a place of the walk
abbrev pub at : List Row → Option (Text × List Text) → Waiting → ℕ → Bool → Walk
at rows pending waiting position trailing = record {
  held = record { rows = rows; pending = pending; skip = 0 };
  waiting = waiting;
  position = position;
  is_trailing = trailing;
  stopped = None;
}

-- the faults once the words are walked
abbrev pub end_fault : Held → Kinds
end_fault end = or_else (settle_fault rules false end) (or_else (defaults_fault (settled rules end).rows rules) (check_fault shape (finished rules end) false))

-- the command of a walk that has these words ahead
unfoldable pub comes : Walk → List Text → Option Command
comes w words = cond (is_empty (or_else (walk_fault shape [] w words) (end_fault (fold (walked rules []) w words).held))) (command_of_rows (finished rules (fold (walked rules []) w words).held)) None

chosen : {X Y : Type 0} (b : Bool) (f : X → Option Y) (x : X) → option_and_then f (cond b (Some x) None) ≡ cond b (f x) None
chosen true f x = refl
chosen false f x = refl

pub from_start : (words : List Text) → command_of words ≡ comes (at [] None idle 1 false) words
unfolding comes rows_found
from_start words = chosen (is_empty (fault_of program words)) command_of_rows (matches_of program words) ∙ ap (λ (k : Kinds). cond (is_empty k) (command_of_rows (matches_of program words)) None) (leaf_fault (built program) nothing_held words refl)

pub not_empty : (kinds : Kinds) → (kinds ≡ [] → ⊥) → is_empty kinds ≡ false
not_empty [] full = absurd (full refl)
not_empty (k ∷ ks) full = grind (arith, nat_tests)

pub cond_same : {X : Type 0} (b : Bool) (x : X) → cond b x x ≡ x
cond_same true x = refl
cond_same false x = refl

pub cond_none : {Y : Type 0} (b : Bool) (y : Option Y) → b ≡ false → cond b y None ≡ None
cond_none b y is = rw is refl

pub first_full : (one other : Kinds) → (one ≡ [] → ⊥) → or_else one other ≡ [] → ⊥
first_full [] other full none = full refl
first_full (k ∷ ks) other full none = cc

-- a word that is refused ends the walk
pub blocked : (w : Walk) (word : Text) (words : List Text) → (turn_fault shape [] w word ≡ [] → ⊥) → comes w (word ∷ words) ≡ None
unfolding comes walk_fault
blocked w word words full = cond_none _ _ (not_empty _ (first_full _ _ (first_full _ _ full)))

pub passed : (w : Walk) (word : Text) (words : List Text) → turn_fault shape [] w word ≡ [] → comes w (word ∷ words) ≡ comes (walked rules [] w word) words
unfolding comes walk_fault
passed w word words none = rw none refl
