-- The words `system --workers W` ask for W workers.
use Rattle.std.proofs.Common.{◌≡◌, ◌∙◌, ℕ, Bool, true, false, cond, refl, ap, List, [], ◌∷◌, Option, Some, None, option_and_then, length, nat_le, codes}
use Rattle.std.proofs.Math.Bool.{and-false}
use Rattle.std.specs.List.{fold}
use Rattle.clap.specs.Walk.{Row, Text, Walk, idle, option, is_empty, finished, settled_rows, walked, nothing_held}
use Rattle.clap.specs.Simple.{built, matches_of}
use Rattle.clap.specs.Kinds.{Kinds, or_else}
use Rattle.clap.specs.Faults.{fault_of, walk_fault, turn_fault}
use Rattle.clap.proofs.FaultLemmas.{leaf_fault}
use Rattle.clap.proofs.OnLiterals.{clap_on_literals}
use Rattle.commands.specs.Program.{program, rows_found}
use Rattle.commands.specs.Words.{is_number}
use Rattle.commands.proofs.Walks.{shape, rules, at, end_fault}
use Rattle.commands.proofs.WordSorts.{Starts, IsPlain, Sort, is_mark, is_plain, is_unknown, is_workers, sort_of}
use Rattle.top_call.specs.Words.{workers_in, workers_of, workers_of_rows}

-- the workers of a walk that has these words ahead
unfoldable comes : Walk → List Text → Option ℕ
comes w words = cond (is_empty (or_else (walk_fault shape [] w words) (end_fault (fold (walked rules []) w words).held))) (workers_of_rows (finished rules (fold (walked rules []) w words).held)) None

chosen : {X Y : Type 0} (b : Bool) (f : X → Option Y) (x : X) → option_and_then f (cond b (Some x) None) ≡ cond b (f x) None
chosen true f x = refl
chosen false f x = refl

from_start : (words : List Text) → workers_of words ≡ comes (at [] None idle 1 false) words
unfolding comes rows_found
from_start words = chosen (is_empty (fault_of program words)) workers_of_rows (matches_of program words) ∙ ap (λ (k : Kinds). cond (is_empty k) (workers_of_rows (matches_of program words)) None) (leaf_fault (built program) nothing_held words refl)

passed : (w : Walk) (word : Text) (words : List Text) → turn_fault shape [] w word ≡ [] → comes w (word ∷ words) ≡ comes (walked rules [] w word) words
unfolding comes walk_fault
passed w word words none = rw none refl

abbrev rows : List Row
rows = settled_rows rules (Some (codes "command", codes "system" ∷ [])) []

-- the walk behind the command, and behind the option
abbrev one_met : Walk
one_met = at [] (Some (codes "command", codes "system" ∷ [])) idle 2 false

abbrev option_met : Walk
option_met = at rows (Some (codes "workers", [])) (option (codes "workers")) 2 false

meets_command : (words : List Text) → comes (at [] None idle 1 false) (codes "system" ∷ words) ≡ comes one_met words
unfolding comes walk_fault walked clap_on_literals
meets_command words = refl

meets_option : (words : List Text) → comes one_met (codes "--workers" ∷ words) ≡ comes option_met words
unfolding comes walk_fault walked clap_on_literals
meets_option words = refl

ends : (word : Text) → IsPlain word → comes option_met (word ∷ []) ≡ workers_in word
unfolding comes walk_fault walked clap_on_literals
ends word p = rw (p.passes (option (codes "workers")) rows (Some (codes "workers", [])), p.meets (option (codes "workers")) 2 rows (Some (codes "workers", []))) refl

not_dashed : (word : Text) → Starts word → is_number word ≡ true → ⊥
not_dashed word s digits = let none : false ≡ true = rw (s.is, and-false (nat_le (length (45 ∷ s.rest)) 4), and-false (nat_le 1 (length (45 ∷ s.rest)))) at digits in cc

by_sort : (word : Text) → Sort word → is_number word ≡ true → IsPlain word
by_sort word (is_mark e) digits = absurd (let none : false ≡ true = rw e at digits in cc)
by_sort word (is_plain p) digits = p
by_sort word (is_unknown u) digits = absurd (not_dashed word u.starts digits)
by_sort word (is_workers k) digits = absurd (not_dashed word k.starts digits)

pub asks_for : (word : Text) → is_number word ≡ true → workers_of (codes "system" ∷ codes "--workers" ∷ word ∷ []) ≡ workers_in word
asks_for word digits = from_start _ ∙ meets_command _ ∙ meets_option _ ∙ ends word (by_sort word (sort_of word) digits)
