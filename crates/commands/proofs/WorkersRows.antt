-- A value of the option of the workers stays among the rows, whatever else is used.
use Rattle.std.proofs.Common.{◌≡◌, ◌∙◌, ◌⊎◌, ◌++◌, inl, inr, Bool, true, false, true≢false, refl, sym, List, [], ◌∷◌, Option, Some, None, is_some, codes}
use Rattle.std.proofs.lemmas.Slice.Eq.{bytes_eq-Decides}
use Rattle.std.specs.Prelude.{slice_get, find}
use Rattle.std.specs.Str.{bytes_eq}
use Rattle.clap.specs.Walk.{Row, Text, first_of, without, with_values, used, settled_rows}
use Rattle.clap.specs.Simple.{filled, with_index}
use Rattle.clap.specs.declared.builder.value_parser.Reading.{Reading}
use Rattle.clap.specs.declared.parser.matches.ValueSource.{ValueSource}
use Rattle.clap.specs.Faults.{settle_fault, use_fault}
use Rattle.commands.specs.Program.{command_rule, number_rule}
use Rattle.commands.proofs.Walks.{rules}
use Rattle.commands.proofs.WordSorts.{held, workers}

abbrev of_workers : Row → Bool
of_workers r = bytes_eq r.id (codes "workers")

-- the rows have a value of the workers
abbrev pub Has : List Row → Type 0
Has rows = is_some (first_of (codes "workers") rows) ≡ true

-- a row of this id is none of the workers
abbrev Other : Text → Type 0
Other id = (t : Text) → bytes_eq t id ≡ true → bytes_eq t (codes "workers") ≡ false

other_command : Other (codes "command")
other_command t is = let e : t ≡ codes "command" = (bytes_eq-Decides t (codes "command")).0 is in rw e refl

other_number : Other (codes "number")
other_number t is = let e : t ≡ codes "number" = (bytes_eq-Decides t (codes "number")).0 is in rw e refl

without_other : (id : Text) → Other id → (rows : List Row) → find of_workers (without id rows) ≡ find of_workers rows
without_other id other [] = refl
without_other id other (r ∷ rs) = by (bytes_eq r.id id) refl (of_workers r) (without_other id other rs)
  where
    by : (t : Bool) → bytes_eq r.id id ≡ t → (u : Bool) → find of_workers (without id rs) ≡ find of_workers rs → find of_workers (without id (r ∷ rs)) ≡ find of_workers (r ∷ rs)
    by true is u rest = rw (is, other r.id is) refl
    by false is u rest = rw (is, rest) refl

with_other : (id : Text) (how : Reading) (s : ValueSource) (values : List Text) → Other id → bytes_eq id id ≡ true → (rows : List Row) → find of_workers (with_values id how s values rows) ≡ find of_workers rows
with_other id how s values other same [] = rw (other id same) refl
with_other id how s values other same (r ∷ rs) = by (bytes_eq r.id id) refl (with_other id how s values other same rs)
  where
    by : (t : Bool) → bytes_eq r.id id ≡ t → find of_workers (with_values id how s values rs) ≡ find of_workers rs → find of_workers (with_values id how s values (r ∷ rs)) ≡ find of_workers (r ∷ rs)
    by true is rest = rw (is, other r.id is) refl
    by false is rest = rw (is, rest) refl

joined_first : (xs : List Text) (v : Text) (vs : List Text) → is_some (slice_get (xs ++ v ∷ vs) 0) ≡ true
joined_first [] v vs = refl
joined_first (x ∷ xs) v vs = refl

with_workers : (how : Reading) (s : ValueSource) (v : Text) (vs : List Text) (rows : List Row) → Has (with_values (codes "workers") how s (v ∷ vs) rows)
with_workers how s v vs [] = refl
with_workers how s v vs (r ∷ rs) = by (of_workers r) refl (with_workers how s v vs rs)
  where
    by : (t : Bool) → of_workers r ≡ t → Has (with_values (codes "workers") how s (v ∷ vs) rs) → Has (with_values (codes "workers") how s (v ∷ vs) (r ∷ rs))
    by true is rest = rw (is, is) (joined_first r.values v vs)
    by false is rest = rw (is, is) rest

-- a use of the command or of the number leaves the workers
command_kept : (values : List Text) (rows : List Row) → Has rows → Has (used (with_index 1 (filled command_rule)) values rows)
command_kept values rows has = rw (with_other (codes "command") _ _ _ other_command refl (without (codes "command") rows), without_other (codes "command") other_command rows) has

number_kept : (values : List Text) (rows : List Row) → Has rows → Has (used (with_index 2 (filled number_rule)) values rows)
number_kept values rows has = rw (with_other (codes "number") _ _ _ other_number refl (without (codes "number") rows), without_other (codes "number") other_number rows) has

pub workers_used : (v : Text) (vs : List Text) (rows : List Row) → Has (used workers (v ∷ vs) rows)
workers_used v vs rows = with_workers _ _ v vs (without (codes "workers") rows)

-- the workers are among the rows, or wait to be
abbrev pub InUse : List Row → Option (Text × List Text) → Type 0
InUse rows pending = Has rows ⊎ ((values : List Text) × (pending ≡ Some (codes "workers", values)))

abbrev Waits : List Row → Text → Type 0
Waits rows id = Has rows ⊎ (id ≡ codes "workers")

in_pending : (rows : List Row) (p : Text × List Text) → InUse rows (Some p) → Waits rows p.0
in_pending rows p (inl has) = inl has
in_pending rows p (inr is) = let e = is.1 in inr (cc)

not_other : (rows : List Row) (id : Text) (t : Bool) → bytes_eq id (codes "workers") ≡ t → Waits rows id → t ≡ false → Has rows
not_other rows id t is (inl has) none = has
not_other rows id t is (inr e) none = let yes : bytes_eq id (codes "workers") ≡ true = rw e refl in absurd (true≢false (sym yes ∙ is ∙ none))

turned : (a b : Text) → bytes_eq b a ≡ true → bytes_eq a b ≡ true
turned a b is = let e : b ≡ a = (bytes_eq-Decides b a).0 is in (bytes_eq-Decides a b).1 (sym e)

turned_not : (a b : Text) (t : Bool) → bytes_eq a b ≡ t → bytes_eq b a ≡ false → t ≡ false
turned_not a b true is not = let yes = turned b a is in cc
turned_not a b false is not = refl

-- a use of the workers that is no fault has a value
use_has : (values : List Text) (rows : List Row) → use_fault false workers values rows ≡ [] → Has (used workers values rows)
use_has [] rows none = cc
use_has (v ∷ vs) rows none = workers_used v vs rows

module _ (rows : List Row) (p : Text × List Text) (waits : Waits rows p.0) (none : settle_fault rules false (held rows (Some p)) ≡ []) where
  last_rule : (t : Bool) → bytes_eq (codes "command") p.0 ≡ false → bytes_eq (codes "number") p.0 ≡ false → bytes_eq (codes "workers") p.0 ≡ t → Has (settled_rows rules (Some p) rows)
  last_rule true first second third = rw (first, second, third) (use_has p.1 rows (rw (first, second, third) at none))
  last_rule false first second third = rw (first, second, third) (not_other rows p.0 _ refl waits (turned_not p.0 (codes "workers") _ refl third))

  second_rule : (t : Bool) → bytes_eq (codes "command") p.0 ≡ false → bytes_eq (codes "number") p.0 ≡ t → Has (settled_rows rules (Some p) rows)
  second_rule true first second = rw (first, second) (number_kept p.1 rows (not_other rows p.0 _ refl waits (other_number p.0 (turned p.0 (codes "number") second))))
  second_rule false first second = last_rule _ first second refl

  first_rule : (t : Bool) → bytes_eq (codes "command") p.0 ≡ t → Has (settled_rows rules (Some p) rows)
  first_rule true first = rw first (command_kept p.1 rows (not_other rows p.0 _ refl waits (other_command p.0 (turned p.0 (codes "command") first))))
  first_rule false first = second_rule _ first refl

pub settled_used : (rows : List Row) (pending : Option (Text × List Text)) → InUse rows pending → settle_fault rules false (held rows pending) ≡ [] → Has (settled_rows rules pending rows)
settled_used rows None (inl has) none = has
settled_used rows None (inr is) none = let e = is.1 in cc
settled_used rows (Some p) inuse none = first_rule rows p (in_pending rows p inuse) none _ refl
