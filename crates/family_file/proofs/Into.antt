-- Gathering what is read from elements one after the other, as a loop does.
use Rattle.std.proofs.Common.{◌≡◌, ℕ, ◌+◌, ◌<◌, ◌≤◌, List, [], ◌∷◌, length, get_or, drop, map, Result, Ok, Err, refl, sym, ap, ◌∙◌}
use Rattle.std.proofs.lemmas.List.{drop_all}
use Rattle.family_file.specs.declared.fault.FileFault.{FileFault}
use Rattle.family_file.specs.declared.fault.FamilyFault.{FamilyFault}
use Rattle.family_file.specs.declared.fault.FamilyFault.TheVariants as answers
use Rattle.family_file.specs.Reading.{◌>>=◌, Fails, collect}
use Rattle.family_file.specs.Accumulated.{into}
use Rattle.family_file.proofs.Collect.{left_at}

-- one more of what is put is a step before the others
abbrev pub TakesSteps : {B S : Type 0} → (S → List B → S) → (S → B → S) → Type 0
TakesSteps {B} {S} put step = (s : S) (y : B) (ys : List B) → put s (y ∷ ys) ≡ put (step s y) ys

regroup : {B S : Type 0} (put : S → List B → S) (step : S → B → S) → TakesSteps put step → (s : S) (y : B) (read : Result (List B) FileFault) → into put s (read >>= λ xs. Ok (y ∷ xs)) ≡ into put (step s y) read
regroup put step law s y (Ok xs) = ap Ok (law s y xs)
regroup put step law s y (Err fault) = refl

pub goes_on_into : {A B S : Type 0} (put : S → List B → S) (step : S → B → S) → TakesSteps put step → (read : A → Result B FileFault) (s : S) (a : A) (rest : List A) (y : B) (total : Result S FileFault)
    → read a ≡ Ok y → into put s (collect read (a ∷ rest)) ≡ total → into put (step s y) (collect read rest) ≡ total
unfolding collect
goes_on_into put step law read s a rest y total found so_far =
    let here : collect read (a ∷ rest) ≡ (collect read rest >>= λ xs. Ok (y ∷ xs)) = rw found refl in
    sym (regroup put step law s y (collect read rest)) ∙ sym (ap (into put s) here) ∙ so_far

pub stops_into : {A B S : Type 0} (put : S → List B → S) (read : A → Result B FileFault) (s : S) (a : A) (rest : List A) (fault : FileFault) (total : Result S FileFault)
    → read a ≡ Err fault → into put s (collect read (a ∷ rest)) ≡ total → total ≡ Err fault
unfolding collect
stops_into put read s a rest fault total failed so_far =
    let here : collect read (a ∷ rest) ≡ Err fault = rw failed refl in
    sym so_far ∙ ap (into put s) here

pub fails_into : {A B S : Type 0} (put : S → List B → S) (read : A → Result B FileFault) (s : S) (a : A) (rest : List A) (e : FamilyFault) (total : Result S FileFault)
    → Fails e (read a) → into put s (collect read (a ∷ rest)) ≡ total → Fails e total
fails_into put read s a rest answers.NoMemory total failed so_far = tt
fails_into put read s a rest (answers.File fault) total failed so_far = stops_into put read s a rest fault total failed so_far

pub is_done_into : {A B S : Type 0} (put : S → List B → S) (read : A → Result B FileFault) (s : S) (rest : List A) (total : Result S FileFault)
    → put s [] ≡ s → rest ≡ [] → into put s (collect read rest) ≡ total → total ≡ Ok s
unfolding collect
is_done_into put read s rest total law none so_far =
    let at_end : into put s (collect read rest) ≡ Ok s = rw none (ap Ok law) in
    sym so_far ∙ at_end

-- ---- by an index into a slice, whose elements are seen by view

pub goes_on_at : {V A B S : Type 0} (view : V → A) (put : S → List B → S) (step : S → B → S) → TakesSteps put step → (read : A → Result B FileFault) (s : S) (vs : List V) (i : ℕ) (v : V) (y : B) (total : Result S FileFault) → i < length vs → v ≡ get_or vs i v
    → read (view v) ≡ Ok y → into put s (collect read (map view (drop i vs))) ≡ total → into put (step s y) (collect read (map view (drop (i + 1) vs))) ≡ total
goes_on_at view put step law read s vs i v y total lt is found so_far =
    goes_on_into put step law read s (view v) (map view (drop (i + 1) vs)) y total found (sym (ap (λ rest. into put s (collect read rest)) (left_at view vs i v lt is)) ∙ so_far)

pub fails_at : {V A B S : Type 0} (view : V → A) (put : S → List B → S) (read : A → Result B FileFault) (s : S) (vs : List V) (i : ℕ) (v : V) (e : FamilyFault) (total : Result S FileFault) → i < length vs → v ≡ get_or vs i v
    → Fails e (read (view v)) → into put s (collect read (map view (drop i vs))) ≡ total → Fails e total
fails_at view put read s vs i v e total lt is failed so_far =
    fails_into put read s (view v) (map view (drop (i + 1) vs)) e total failed (sym (ap (λ rest. into put s (collect read rest)) (left_at view vs i v lt is)) ∙ so_far)

pub is_done_at : {V A B S : Type 0} (view : V → A) (put : S → List B → S) (read : A → Result B FileFault) (s : S) (vs : List V) (i : ℕ) (total : Result S FileFault) → put s [] ≡ s → length vs ≤ i
    → into put s (collect read (map view (drop i vs))) ≡ total → total ≡ Ok s
is_done_at view put read s vs i total law le so_far = is_done_into put read s (map view (drop i vs)) total law (ap (map view) (drop_all i vs le)) so_far
