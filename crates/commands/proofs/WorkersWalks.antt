-- A walk in which the workers are used gives no command.
use Rattle.std.proofs.Common.{◌≡◌, ◌∙◌, ◌==◌, ◌++◌, inl, inr, ℕ, Bool, true, false, cond, refl, sym, ap₂, subst, List, [], ◌∷◌, Option, Some, None, is_some, codes}
use Rattle.std.proofs.Math.Bool.{and-false}
use Rattle.std.specs.List.{fold}
use Rattle.clap.specs.Walk.{first_of, finished, with_default, has_row, is_empty, Row, Rule, Text, Waiting, Walk, Held, Step, idle, option, positional, value, next, arg_by_id, settled_rows, to_positional, arg_by_index, plain_word, option_word, after_step, after_flag, option_met, walked, pushed, is_pending, takes_several}
use Rattle.clap.specs.Simple.{filled, with_index}
use Rattle.clap.specs.Kinds.{Kinds}
use Rattle.clap.specs.Faults.{settle_fault, step_fault, turn_fault, positional_fault, walk_fault}
use Rattle.commands.specs.Program.{command_rule, number_rule}
use Rattle.commands.specs.Words.{command_of_parts, command_of_rows}
use Rattle.commands.proofs.Walks.{shape, rules, at, comes, end_fault, blocked, passed, not_empty, first_full, cond_same, cond_none}
use Rattle.commands.proofs.WordSorts.{held, workers, mark, no_name, Sort, is_mark, is_plain, is_unknown, is_workers, sort_of, IsWorkers, IsUnknown}
use Rattle.commands.proofs.WorkersRows.{Has, InUse, settled_used, workers_used}

-- the workers are used, and the walk goes on
pub record Uses (w : Walk) : Type 0 where
  pub stopped : w.stopped ≡ None
  pub skip : w.held.skip ≡ 0
  pub used : InUse w.held.rows w.held.pending

module _ (rows : List Row) (pending : Option (Text × List Text)) (waiting : Waiting) (position : ℕ) (trailing : Bool) (word : Text) (inuse : InUse rows pending) where
  -- the word goes to an argument that takes one value
  to_one : (a : Rule) → takes_several a ≡ false → positional_fault rules false a (held rows pending) ≡ [] → Uses (to_positional rules (Some a) word (at rows pending waiting position trailing) (held rows pending))
  to_one a one none =
      let settles = rw (one, and-false (is_pending a pending)) at none in
      record { stopped = refl; skip = rw (one, and-false (is_pending a pending)) refl; used = rw (one, and-false (is_pending a pending)) (inl (settled_used rows pending inuse settles)) }

  value_second : (t : Bool) → (1 == position) ≡ false → (2 == position) ≡ t → step_fault shape position (held rows pending) value ≡ [] → Uses (to_positional rules (arg_by_index rules position) word (at rows pending waiting position trailing) (held rows pending))
  value_second true first second none = rw (first, second) (to_one (with_index 2 (filled number_rule)) refl (rw (first, second) at none))
  value_second false first second none = let full = rw (first, second) at none in cc

  value_first : (t : Bool) → (1 == position) ≡ t → step_fault shape position (held rows pending) value ≡ [] → Uses (to_positional rules (arg_by_index rules position) word (at rows pending waiting position trailing) (held rows pending))
  value_first true first none = rw first (to_one (with_index 1 (filled command_rule)) refl (rw first at none))
  value_first false first none = value_second _ first refl none

still_pending : (rows : List Row) (pending : Option (Text × List Text)) (id word : Text) → InUse rows pending → InUse (pushed id word (held rows pending)).rows (pushed id word (held rows pending)).pending
still_pending rows pending id word (inl has) = inl has
still_pending rows pending id word (inr is) = inr (is.0 ++ word ∷ [], rw is.1 refl)

module _ (rows : List Row) (pending : Option (Text × List Text)) (position : ℕ) (trailing : Bool) (word : Text) (inuse : InUse rows pending) where
  abbrev from : Waiting → Walk
  from waiting = at rows pending waiting position trailing

  option_used : (id : Text) (a : Option Rule) → Uses (after_step rules word (from (option id)) (option_word a id word (held rows pending)).0 (next (option_word a id word (held rows pending)).1))
  option_used id None = record { stopped = refl; skip = refl; used = inuse }
  option_used id (Some a) = record { stopped = refl; skip = refl; used = still_pending rows pending id word inuse }

  plain_used : (waiting : Waiting) → step_fault shape position (plain_word rules waiting word (held rows pending)).0 (plain_word rules waiting word (held rows pending)).1 ≡ []
      → Uses (after_step rules word (from waiting) (plain_word rules waiting word (held rows pending)).0 (plain_word rules waiting word (held rows pending)).1)
  plain_used idle none = value_first rows pending idle position trailing word inuse _ refl none
  plain_used positional none = value_first rows pending positional position trailing word inuse _ refl none
  plain_used (option id) none = option_used id (arg_by_id rules id)

-- the option of the workers is met
module _ (rows : List Row) (pending : Option (Text × List Text)) (waiting : Waiting) (position : ℕ) (word : Text) where
  abbrev before : Walk
  before = at rows pending waiting position false

  abbrev met_with : Option Text → Held × Step
  met_with v = after_flag rules waiting word (option_met rules workers v (held rows pending)).0 (option_met rules workers v (held rows pending)).1

  workers_met : (v : Option Text) → Uses (after_step rules word before (met_with v).0 (met_with v).1)
  workers_met (Some v) = record { stopped = refl; skip = refl; used = inl (workers_used v [] (settled_rows rules pending rows)) }
  workers_met None = record { stopped = refl; skip = refl; used = inr ([], refl) }

  walked_workers : IsWorkers word → Uses (walked rules [] before word)
  unfolding walked
  walked_workers k = rw (k.meets waiting position rows pending) (workers_met k.value)

module _ (rows : List Row) (pending : Option (Text × List Text)) (waiting : Waiting) (position : ℕ) (word : Text) (inuse : InUse rows pending) where
  abbrev here : Bool → Walk
  here trailing = at rows pending waiting position trailing

  by_sort : Sort word → turn_fault shape [] (here false) word ≡ [] → Uses (walked rules [] (here false) word)
  unfolding walked
  by_sort (is_mark e) none = subst (λ (x : Text). Uses (walked rules [] (here false) x)) (sym e) (rw (no_name waiting mark) (record { stopped = refl; skip = refl; used = inuse }))
  by_sort (is_plain p) none = rw (p.meets waiting position rows pending) (plain_used rows pending position false word inuse waiting (rw (p.passes waiting rows pending, p.meets waiting position rows pending) at none))
  by_sort (is_unknown u) none = absurd (first_full _ _ (u.refused waiting rows pending) none)
  by_sort (is_workers k) none = walked_workers rows pending waiting position word k

  one_more : (trailing : Bool) → turn_fault shape [] (here trailing) word ≡ [] → Uses (walked rules [] (here trailing) word)
  unfolding walked
  one_more true none = value_first rows pending waiting position true word inuse _ refl none
  one_more false none = by_sort (sort_of word) none

as_at : (w : Walk) → Uses w → at w.held.rows w.held.pending w.waiting w.position w.is_trailing ≡ w
as_at w uses = ap₂ (λ (s : Option (Text × List Text)) (k : ℕ). let x : Walk = record { held = record { rows = w.held.rows; pending = w.held.pending; skip = k }; waiting = w.waiting; position = w.position; is_trailing = w.is_trailing; stopped = s } in x) (sym uses.stopped) (sym uses.skip)

used_walk : (w : Walk) (word : Text) → Uses w → turn_fault shape [] w word ≡ [] → Uses (walked rules [] w word)
used_walk w word uses none =
    let is = as_at w uses in
    subst (λ (x : Walk). turn_fault shape [] x word ≡ [] → Uses (walked rules [] x word)) is (one_more w.held.rows w.held.pending w.waiting w.position word uses.used w.is_trailing) none

-- where the words end, the workers are among the rows
given_workers : (rows : List Row) → Has rows → command_of_rows rows ≡ None
given_workers rows has = by (first_of (codes "command") rows) (first_of (codes "number") rows) (first_of (codes "workers") rows) has
  where
    by : (c n k : Option Text) → is_some k ≡ true → command_of_parts c n k ≡ None
    by None n k some = refl
    by (Some c) n (Some k) some = refl
    by (Some c) None None some = cc
    by (Some c) (Some n) None some = cc

-- no argument has a value of its own
pub unchanged : (rows : List Row) → fold with_default rows rules ≡ rows
unchanged rows = rw (cond_same (has_row (codes "command") rows) rows, cond_same (has_row (codes "number") rows) rows, cond_same (has_row (codes "workers") rows) rows) refl

used_ends : (w : Walk) → Uses w → comes w [] ≡ None
unfolding comes walk_fault
used_ends w uses = by _ refl
  where
    by : (kinds : Kinds) → settle_fault rules false w.held ≡ kinds → cond (is_empty (end_fault w.held)) (command_of_rows (finished rules w.held)) None ≡ None
    by [] none =
        let has = settled_used w.held.rows w.held.pending uses.used none in
        rw (unchanged (settled_rows rules w.held.pending w.held.rows), given_workers (settled_rows rules w.held.pending w.held.rows) has) (cond_same _ None)
    by (k ∷ ks) some = cond_none _ _ (not_empty _ (first_full _ _ (λ none. let both : k ∷ ks ≡ [] = sym some ∙ none in cc)))

-- once the workers are used, the words are no command
pub none_used : (words : List Text) (w : Walk) → Uses w → comes w words ≡ None
none_used [] w uses = used_ends w uses
none_used (word ∷ words) w uses = by _ refl (λ more. none_used words (walked rules [] w word) more)
  where
    by : (kinds : Kinds) → turn_fault shape [] w word ≡ kinds → (Uses (walked rules [] w word) → comes (walked rules [] w word) words ≡ None) → comes w (word ∷ words) ≡ None
    by [] none rest = passed w word words none ∙ rest (used_walk w word uses none)
    by (k ∷ ks) some rest = blocked w word words (λ none. let both : k ∷ ks ≡ [] = sym some ∙ none in cc)

module _ (rows : List Row) (pending : Option (Text × List Text)) (position : ℕ) (word : Text) (words : List Text) where
  pub unknown_comes : IsUnknown word → comes (at rows pending idle position false) (word ∷ words) ≡ None
  unknown_comes u = blocked (at rows pending idle position false) word words (first_full _ _ (u.refused idle rows pending))

  pub workers_come : IsWorkers word → comes (at rows pending idle position false) (word ∷ words) ≡ None
  workers_come k = by _ refl
    where
      by : (kinds : Kinds) → turn_fault shape [] (at rows pending idle position false) word ≡ kinds → comes (at rows pending idle position false) (word ∷ words) ≡ None
      by [] none = passed (at rows pending idle position false) word words none ∙ none_used words _ (walked_workers rows pending idle position word k)
      by (x ∷ xs) some = blocked (at rows pending idle position false) word words (λ none. let both : x ∷ xs ≡ [] = sym some ∙ none in cc)
