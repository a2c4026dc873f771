-- Reading the elements of a list one after the other, as a loop does.
use Rattle.std.proofs.Common.{◌≡◌, ℕ, ◌+◌, ◌<◌, ◌≤◌, List, [], ◌∷◌, ◌++◌, length, get_or, drop, map, Result, Ok, Err, refl, sym, ap, ◌∙◌, append_assoc}
use Rattle.std.proofs.lemmas.List.{append-nil, drop_more, drop_all}
use Rattle.family_file.specs.declared.fault.FileFault.{FileFault}
use Rattle.family_file.specs.declared.fault.FamilyFault.{FamilyFault}
use Rattle.family_file.specs.declared.fault.FamilyFault.TheVariants as answers
use Rattle.family_file.specs.Reading.{◌>>=◌, Fails, collect}

-- what was read before, and then what is still read
abbrev pub with_front : {B : Type 0} → List B → Result (List B) FileFault → Result (List B) FileFault
with_front front read = read >>= λ xs. Ok (front ++ xs)

regroup : {B : Type 0} (front : List B) (y : B) (read : Result (List B) FileFault) → with_front front (read >>= λ xs. Ok (y ∷ xs)) ≡ with_front (front ++ y ∷ []) read
regroup front y (Ok xs) = ap Ok (sym (append_assoc front (y ∷ []) xs))
regroup front y (Err fault) = refl

-- ---- by the elements that are left

pub goes_on_next : {A B : Type 0} (read : A → Result B FileFault) (front : List B) (a : A) (rest : List A) (y : B) (total : Result (List B) FileFault) → read a ≡ Ok y → with_front front (collect read (a ∷ rest)) ≡ total
    → with_front (front ++ y ∷ []) (collect read rest) ≡ total
unfolding collect
goes_on_next read front a rest y total found so_far =
    let here : collect read (a ∷ rest) ≡ (collect read rest >>= λ xs. Ok (y ∷ xs)) = rw found refl in
    sym (regroup front y (collect read rest)) ∙ sym (ap (with_front front) here) ∙ so_far

-- the fault of an element is that of all
pub stops_next : {A B : Type 0} (read : A → Result B FileFault) (front : List B) (a : A) (rest : List A) (fault : FileFault) (total : Result (List B) FileFault) → read a ≡ Err fault → with_front front (collect read (a ∷ rest)) ≡ total
    → total ≡ Err fault
unfolding collect
stops_next read front a rest fault total failed so_far =
    let here : collect read (a ∷ rest) ≡ Err fault = rw failed refl in
    sym so_far ∙ ap (with_front front) here

pub fails_next : {A B : Type 0} (read : A → Result B FileFault) (front : List B) (a : A) (rest : List A) (e : FamilyFault) (total : Result (List B) FileFault) → Fails e (read a) → with_front front (collect read (a ∷ rest)) ≡ total
    → Fails e total
fails_next read front a rest answers.NoMemory total failed so_far = tt
fails_next read front a rest (answers.File fault) total failed so_far = stops_next read front a rest fault total failed so_far

pub is_done_next : {A B : Type 0} (read : A → Result B FileFault) (front : List B) (rest : List A) (total : Result (List B) FileFault) → rest ≡ [] → with_front front (collect read rest) ≡ total → total ≡ Ok front
unfolding collect
is_done_next read front rest total none so_far = sym so_far ∙ rw none (ap Ok (append-nil front))

-- ---- by an index into a slice, whose elements are seen by view

pub left_at : {V A : Type 0} (view : V → A) (vs : List V) (i : ℕ) (v : V) → i < length vs → v ≡ get_or vs i v → map view (drop i vs) ≡ view v ∷ map view (drop (i + 1) vs)
left_at view vs i v lt is = ap (map view) (drop_more vs i v lt) ∙ rw (← is) refl

pub goes_on : {V A B : Type 0} (view : V → A) (read : A → Result B FileFault) (front : List B) (vs : List V) (i : ℕ) (v : V) (y : B) (total : Result (List B) FileFault) → i < length vs → v ≡ get_or vs i v
    → read (view v) ≡ Ok y → with_front front (collect read (map view (drop i vs))) ≡ total → with_front (front ++ y ∷ []) (collect read (map view (drop (i + 1) vs))) ≡ total
goes_on view read front vs i v y total lt is found so_far =
    goes_on_next read front (view v) (map view (drop (i + 1) vs)) y total found (sym (ap (λ rest. with_front front (collect read rest)) (left_at view vs i v lt is)) ∙ so_far)

pub stops : {V A B : Type 0} (view : V → A) (read : A → Result B FileFault) (front : List B) (vs : List V) (i : ℕ) (v : V) (fault : FileFault) (total : Result (List B) FileFault) → i < length vs → v ≡ get_or vs i v
    → read (view v) ≡ Err fault → with_front front (collect read (map view (drop i vs))) ≡ total → total ≡ Err fault
stops view read front vs i v fault total lt is failed so_far =
    stops_next read front (view v) (map view (drop (i + 1) vs)) fault total failed (sym (ap (λ rest. with_front front (collect read rest)) (left_at view vs i v lt is)) ∙ so_far)

pub fails : {V A B : Type 0} (view : V → A) (read : A → Result B FileFault) (front : List B) (vs : List V) (i : ℕ) (v : V) (e : FamilyFault) (total : Result (List B) FileFault) → i < length vs → v ≡ get_or vs i v
    → Fails e (read (view v)) → with_front front (collect read (map view (drop i vs))) ≡ total → Fails e total
fails view read front vs i v e total lt is failed so_far =
    fails_next read front (view v) (map view (drop (i + 1) vs)) e total failed (sym (ap (λ rest. with_front front (collect read rest)) (left_at view vs i v lt is)) ∙ so_far)

pub is_done : {V A B : Type 0} (view : V → A) (read : A → Result B FileFault) (front : List B) (vs : List V) (i : ℕ) (total : Result (List B) FileFault) → length vs ≤ i
    → with_front front (collect read (map view (drop i vs))) ≡ total → total ≡ Ok front
is_done view read front vs i total le so_far = is_done_next read front (map view (drop i vs)) total (ap (map view) (drop_all i vs le)) so_far
