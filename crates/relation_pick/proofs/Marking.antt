-- Marks that are set one after another, and the list of the marked places.
use Rattle.std.proofs.Common.{◌≡◌, ◌⊎◌, inl, inr, ℕ, zero, suc, ◌+◌, ◌<◌, ◌≤◌, Bool, true, false, Option, Some, None, List, [], ◌∷◌, ◌++◌, length, get_or, take, length-append, sym, refl, ap, subst, ◌∙◌, ⊎_elim, arith}
use Rattle.std.specs.Prelude.{Contains, replicate, slice_get, slice_set}
use Rattle.std.specs.List.Sorted.{IsStrictlyIncreasing}
use Rattle.std.proofs.lemmas.Bool.{cases_lt}
use Rattle.std.proofs.lemmas.List.{take_more, take_all, get_or_append_left, get_or_push}
use Rattle.std.proofs.lemmas.List.Elements.{Contains-append_left, Contains-get_or, Contains-push, Contains-push_cases}
use Rattle.std.proofs.lemmas.Option.{slice_get_within}
use Rattle.ibp_algebra.specs.FormalSum.{FormalSum}
use Rattle.relation_pick.specs.Marks.{IsMarked, IsNamed, AnyNamed, Marks, ListsMarked, ListsNamed}

set_here : (marks : List Bool) (p : ℕ) → p < length marks → IsMarked (slice_set marks p true) p
set_here [] p within = absurd (omega arith)
set_here (m ∷ marks) zero within = refl
set_here (m ∷ marks) (suc p) within = set_here marks p (omega arith)

set_kept : (marks : List Bool) (p k : ℕ) → IsMarked marks k → IsMarked (slice_set marks p true) k
set_kept [] p k h = absurd (let clash : ◌≡◌ {A = Option Bool} None (Some true) = h in cc)
set_kept (m ∷ marks) zero zero h = refl
set_kept (m ∷ marks) zero (suc k) h = h
set_kept (m ∷ marks) (suc p) zero h = h
set_kept (m ∷ marks) (suc p) (suc k) h = set_kept marks p k h

set_cases : (marks : List Bool) (p k : ℕ) → IsMarked (slice_set marks p true) k → IsMarked marks k ⊎ (p ≡ k)
set_cases [] p k h = inl h
set_cases (m ∷ marks) zero zero h = inr refl
set_cases (m ∷ marks) zero (suc k) h = inl h
set_cases (m ∷ marks) (suc p) zero h = inl h
set_cases (m ∷ marks) (suc p) (suc k) h =
    ⊎_elim (λ (old : IsMarked marks k). inl old) (λ (here : p ≡ k). inr (ap suc here)) (set_cases marks p k h)

named_append : (f : FormalSum ℕ) (t : ℕ × ℕ) (k : ℕ) → IsNamed f k → IsNamed (f ++ t ∷ []) k
named_append [] t k h = absurd h
named_append (u ∷ f) t k (inl here) = inl here
named_append (u ∷ f) t k (inr later) = inr (named_append f t k later)

named_last : (f : FormalSum ℕ) (t : ℕ × ℕ) → IsNamed (f ++ t ∷ []) t.0
named_last [] t = inl refl
named_last (u ∷ f) t = inr (named_last f t)

named_cases : (f : FormalSum ℕ) (t : ℕ × ℕ) (k : ℕ) → IsNamed (f ++ t ∷ []) k → IsNamed f k ⊎ (t.0 ≡ k)
named_cases [] t k (inl here) = inr here
named_cases [] t k (inr later) = absurd later
named_cases (u ∷ f) t k (inl here) = inl (inl here)
named_cases (u ∷ f) t k (inr later) =
    ⊎_elim (λ (old : IsNamed f k). inl (inr old)) (λ (last : t.0 ≡ k). inr last) (named_cases f t k later)

pub Marks-start : (marks : List Bool) → Marks marks marks []
Marks-start marks = record { names = λ k h. absurd h; others = λ k h. inl h; kept = λ k h. h }

pub Marks-step : (old marks : List Bool) (weights : FormalSum ℕ) (n : ℕ) (t : ℕ × ℕ) → n < length weights → t ≡ get_or weights n t → t.0 < length marks
    → Marks old marks (take n weights) → Marks old (slice_set marks t.0 true) (take (n + 1) weights)
Marks-step old marks weights n t within is place h =
    let longer : take (n + 1) weights ≡ take n weights ++ t ∷ [] = take_more weights n t within ∙ ap (λ (u : ℕ × ℕ). take n weights ++ u ∷ []) (sym is) in
    let step : Marks old (slice_set marks t.0 true) (take n weights ++ t ∷ []) =
    record {
      names = λ k named.
          ⊎_elim
          (λ (before : IsNamed (take n weights) k). set_kept marks t.0 k (h.names k before))
          (λ (last : t.0 ≡ k). subst (IsMarked (slice_set marks t.0 true)) last (set_here marks t.0 place))
          (named_cases (take n weights) t k named);
      others = λ k marked.
          ⊎_elim
          (λ (before : IsMarked marks k).
          ⊎_elim (λ (first : IsMarked old k). inl first) (λ (named : IsNamed (take n weights) k). inr (named_append (take n weights) t k named)) (h.others k before))
          (λ (here : t.0 ≡ k). inr (subst (IsNamed (take n weights ++ t ∷ [])) here (named_last (take n weights) t)))
          (set_cases marks t.0 k marked);
      kept = λ k first. set_kept marks t.0 k (h.kept k first);
    }
    in
    subst (Marks old (slice_set marks t.0 true)) (sym longer) step

pub Marks-whole : (old marks : List Bool) (weights : FormalSum ℕ) (n : ℕ) → length weights ≤ n → Marks old marks (take n weights) → Marks old marks weights
Marks-whole old marks weights n long h = subst (Marks old marks) (take_all n weights long) h

-- ---- the list of the marked places

-- the marked places below n
pub record ListsBelow (marks : List Bool) (n : ℕ) (places : List ℕ) : Type 0 where
  pub ascends : IsStrictlyIncreasing places
  pub lists : (k : ℕ) → Contains places k → (k < n) × IsMarked marks k
  pub all : (k : ℕ) → k < n → IsMarked marks k → Contains places k

pub ListsBelow-start : (marks : List Bool) → ListsBelow marks 0 []
ListsBelow-start marks = record {
  ascends = λ k within. absurd (omega arith);
  lists = λ k h. absurd (omega (arith, h.1));
  all = λ k early. absurd (omega arith);
}

pub ListsBelow-unmarked : (marks : List Bool) (n : ℕ) (places : List ℕ) → n < length marks → slice_get marks n ≡ Some false → ListsBelow marks n places → ListsBelow marks (n + 1) places
ListsBelow-unmarked marks n places within is h = record {
  ascends = h.ascends;
  lists = λ k listed. (omega (arith, (h.lists k listed).0), (h.lists k listed).1);
  all = λ k early marked.
      ⊎_elim
      (λ (before : k < n). h.all k before marked)
      (λ (late : n ≤ k).
      let here : n ≡ k = omega arith in
      let clash : Some false ≡ Some true = sym is ∙ subst (IsMarked marks) (sym here) marked in
      absurd (cc))
      (cases_lt k n);
}

pub increasing_push : (xs : List ℕ) (x : ℕ) → IsStrictlyIncreasing xs → ((k : ℕ) → Contains xs k → k < x) → IsStrictlyIncreasing (xs ++ x ∷ [])
increasing_push xs x h below =
    λ k within.
    let long : length (xs ++ x ∷ []) ≡ length xs + 1 = length-append xs (x ∷ []) in
    let here : get_or (xs ++ x ∷ []) k 0 ≡ get_or xs k 0 = get_or_append_left xs (x ∷ []) 0 k (omega (arith, long)) in
    ⊎_elim
    (λ (inner : k + 1 < length xs).
    let next : get_or (xs ++ x ∷ []) (k + 1) 0 ≡ get_or xs (k + 1) 0 = get_or_append_left xs (x ∷ []) 0 (k + 1) inner in
    omega (arith, h k inner, here, next))
    (λ (last : length xs ≤ k + 1).
    let end : k + 1 ≡ length xs = omega (arith, long) in
    let next : get_or (xs ++ x ∷ []) (k + 1) 0 ≡ x = get_or_push xs x 0 (k + 1) (sym end) in
    omega (arith, below (get_or xs k 0) (Contains-get_or xs k 0 (omega (arith, end))), here, next))
    (cases_lt (k + 1) (length xs))

pub ListsBelow-marked : (marks : List Bool) (n : ℕ) (places : List ℕ) → n < length marks → slice_get marks n ≡ Some true → ListsBelow marks n places → ListsBelow marks (n + 1) (places ++ n ∷ [])
ListsBelow-marked marks n places within is h = record {
  ascends = increasing_push places n h.ascends (λ k listed. (h.lists k listed).0);
  lists = λ k listed.
      ⊎_elim
      (λ (old : Contains places k). (omega (arith, (h.lists k old).0), (h.lists k old).1))
      (λ (here : n ≡ k). (omega (arith, here), subst (IsMarked marks) here is))
      (Contains-push_cases places n k listed);
  all = λ k early marked.
      ⊎_elim
      (λ (before : k < n). Contains-append_left places (n ∷ []) k (h.all k before marked))
      (λ (late : n ≤ k). let here : n ≡ k = omega arith in subst (Contains (places ++ n ∷ [])) here (Contains-push places n))
      (cases_lt k n);
}

pub ListsBelow-whole : (marks : List Bool) (n : ℕ) (places : List ℕ) → length marks ≤ n → ListsBelow marks n places → ListsMarked marks places
ListsBelow-whole marks n places long h = record {
  ascends = h.ascends;
  lists = λ k listed. (h.lists k listed).1;
  all = λ k marked. h.all k (omega (arith, slice_get_within marks k true marked)) marked;
}

-- ---- the places that lists of weights name

pub AnyNamed-push : (all : List (FormalSum ℕ)) (w : FormalSum ℕ) (k : ℕ) → AnyNamed all k ⊎ IsNamed w k → AnyNamed (all ++ w ∷ []) k
AnyNamed-push [] w k (inl old) = absurd old
AnyNamed-push [] w k (inr new) = inl new
AnyNamed-push (v ∷ all) w k (inl (inl first)) = inl first
AnyNamed-push (v ∷ all) w k (inl (inr later)) = inr (AnyNamed-push all w k (inl later))
AnyNamed-push (v ∷ all) w k (inr new) = inr (AnyNamed-push all w k (inr new))

pub AnyNamed-cases : (all : List (FormalSum ℕ)) (w : FormalSum ℕ) (k : ℕ) → AnyNamed (all ++ w ∷ []) k → AnyNamed all k ⊎ IsNamed w k
AnyNamed-cases [] w k (inl here) = inr here
AnyNamed-cases [] w k (inr later) = absurd later
AnyNamed-cases (v ∷ all) w k (inl first) = inl (inl first)
AnyNamed-cases (v ∷ all) w k (inr later) =
    ⊎_elim (λ (old : AnyNamed all k). inl (inr old)) (λ (new : IsNamed w k). inr new) (AnyNamed-cases all w k later)

none_marked : (n k : ℕ) → IsMarked (replicate n false) k → ⊥
none_marked zero k h = let clash : ◌≡◌ {A = Option Bool} None (Some true) = h in cc
none_marked (suc n) zero h = let clash : Some false ≡ Some true = h in cc
none_marked (suc n) (suc k) h = none_marked n k h

-- the marked places are those that the first n lists name
pub record MarksNamed (all : List (FormalSum ℕ)) (n : ℕ) (marks : List Bool) : Type 0 where
  pub named : (k : ℕ) → IsMarked marks k → AnyNamed (take n all) k
  pub marked : (k : ℕ) → AnyNamed (take n all) k → IsMarked marks k

pub MarksNamed-start : (all : List (FormalSum ℕ)) (count : ℕ) → MarksNamed all 0 (replicate count false)
MarksNamed-start all count = record { named = λ k h. absurd (none_marked count k h); marked = λ k h. absurd h }

pub MarksNamed-step : (all : List (FormalSum ℕ)) (n : ℕ) (old new : List Bool) (weights : FormalSum ℕ) → n < length all → weights ≡ get_or all n weights
    → Marks old new weights → MarksNamed all n old → MarksNamed all (n + 1) new
MarksNamed-step all n old new weights within is marks h =
    let longer : take (n + 1) all ≡ take n all ++ weights ∷ [] = take_more all n weights within ∙ ap (λ (w : FormalSum ℕ). take n all ++ w ∷ []) (sym is) in
    record {
      named = λ k marked.
          subst (λ (ws : List (FormalSum ℕ)). AnyNamed ws k) (sym longer)
          (AnyNamed-push (take n all) weights k
          (⊎_elim (λ (before : IsMarked old k). inl (h.named k before)) (λ (here : IsNamed weights k). inr here) (marks.others k marked)));
      marked = λ k named.
          ⊎_elim (λ (before : AnyNamed (take n all) k). marks.kept k (h.marked k before)) (λ (here : IsNamed weights k). marks.names k here)
          (AnyNamed-cases (take n all) weights k (subst (λ (ws : List (FormalSum ℕ)). AnyNamed ws k) longer named));
    }

pub ListsNamed-whole : (all : List (FormalSum ℕ)) (n : ℕ) (marks : List Bool) (places : List ℕ) → length all ≤ n → MarksNamed all n marks → ListsMarked marks places → ListsNamed all places
ListsNamed-whole all n marks places long h listed =
    let whole : take n all ≡ all = take_all n all long in
    record {
      ascends = listed.ascends;
      lists = λ k there. subst (λ (ws : List (FormalSum ℕ)). AnyNamed ws k) whole (h.named k (listed.lists k there));
      all_named = λ k named. listed.all k (h.marked k (subst (λ (ws : List (FormalSum ℕ)). AnyNamed ws k) (sym whole) named));
    }

-- a name in a list at a place is one of all names
pub AnyNamed-at : (all : List (FormalSum ℕ)) (n : ℕ) (weights : FormalSum ℕ) (k : ℕ) → n < length all → weights ≡ get_or all n weights → IsNamed weights k → AnyNamed all k
AnyNamed-at [] n weights k within is named = absurd (omega arith)
AnyNamed-at (w ∷ all) zero weights k within is named = inl (subst (λ (v : FormalSum ℕ). IsNamed v k) is named)
AnyNamed-at (w ∷ all) (suc n) weights k within is named = inr (AnyNamed-at all n weights k (omega arith) is named)
