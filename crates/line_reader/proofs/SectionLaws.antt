-- Sections one after the other, and where a reader of them stops.
use Rattle.std.proofs.Common.{◌≡◌, ◌≢◌, ℕ, suc, ◌+◌, ◌≤◌, ◌<◌, List, [], ◌∷◌, ◌++◌, length, take, drop, refl, sym, ap, ◌∙◌, append_assoc, append-nil, subst, arith, length-append, inl, inr, ap₂}
use Rattle.std.specs.Prelude.{◌⊎◌, Result, Err, Some, None}
use Rattle.std.proofs.lemmas.List.{take-append-drop}
use Rattle.std.proofs.Math.Seq.{take-append-add}
use Rattle.line_reader.specs.Lines.{IsWhole, worded}
use Rattle.line_reader.specs.Sections.{Line, Begins, StopsAt, IsOnly, Reads, one_line, both, AreBoth, Found, Fails, Answers}
use Rattle.line_reader.specs.declared.fault.ReadSystemFault.{ReadSystemFault}

-- of two ways to cut a list, one cuts first
abbrev pub CutFirst : {X : Type 0} → List X → List X → List X → List X → Type 0
CutFirst {X} a b c d = ((m : List X) × (a ≡ c ++ m) × (d ≡ m ++ b)) ⊎ ((m : List X) × (c ≡ a ++ m) × (b ≡ m ++ d))

cut_next : {X : Type 0} (x y : X) (a b c d : List X) → x ≡ y → CutFirst a b c d → CutFirst (x ∷ a) b (y ∷ c) d
cut_next x y a b c d h (inl (m, p, q)) = inl (m, (cc), q)
cut_next x y a b c d h (inr (m, p, q)) = inr (m, (cc), q)

pub cut_first : {X : Type 0} (a b c d : List X) → a ++ b ≡ c ++ d → CutFirst a b c d
cut_first [] b c d e = inr (c, refl, e)
cut_first (x ∷ a) b [] d e = inl ((x ∷ a), refl, sym e)
cut_first (x ∷ a) b (y ∷ c) d e =
    let tails : a ++ b ≡ c ++ d = cc in
    cut_next x y a b c d (cc) (cut_first a b c d tails)

-- the first section is that of no value
pub both_stop_first : {A B : Type 0} (first : A → List Line) (second : A → B → List Line) (IsFirst : A → Type 0) (IsSecond : A → B → Type 0)
    → ((a : A) → IsFirst a → (b : B) × IsSecond a b) → (ls : List Line) (j : ℕ)
    → StopsAt first IsFirst ls j → StopsAt (both first second) (AreBoth IsFirst IsSecond) ls j
both_stop_first {A} {B} first second IsFirst IsSecond complete ls j stops =
    record { none = none; before = before; bad = bad }
  where
    none : (pair : A × B) (rest : List Line) → AreBoth IsFirst IsSecond pair → ls ≢ both first second pair ++ rest
    none pair rest are e = stops.none pair.0 (second pair.0 pair.1 ++ rest) are.0 (e ∙ append_assoc (first pair.0) (second pair.0 pair.1) rest)

    before : Begins (both first second) (AreBoth IsFirst IsSecond) ls j
    before =
        let front = stops.before in
        let other = complete front.value front.is_value in
        record {
          there = front.there;
          value = (front.value, other.0);
          is_value = (front.is_value, other.1);
          more = front.more ++ second front.value other.0;
          begins = ap (λ (t : List Line). t ++ second front.value other.0) front.begins ∙ append_assoc (take j ls) front.more (second front.value other.0);
        }

    either : (front : Begins (both first second) (AreBoth IsFirst IsSecond) ls (suc j))
        → CutFirst (first front.value.0) (second front.value.0 front.value.1) (take (suc j) ls) front.more → ⊥
    either front (inl (m, p, q)) = stops.bad (record { there = front.there; value = front.value.0; is_value = front.is_value.0; more = m; begins = p })
    either front (inr (m, p, q)) =
        stops.none front.value.0 (m ++ drop (suc j) ls) front.is_value.0
        (sym (take-append-drop (suc j) ls) ∙ ap (λ (t : List Line). t ++ drop (suc j) ls) p ∙ append_assoc (first front.value.0) m (drop (suc j) ls))

    bad : ¬ Begins (both first second) (AreBoth IsFirst IsSecond) ls (suc j)
    bad front = either front (cut_first (first front.value.0) (second front.value.0 front.value.1) (take (suc j) ls) front.more front.begins)

-- the first section is that of a value, and the second one behind it is that of none
pub both_stop_second : {A B : Type 0} (first : A → List Line) (second : A → B → List Line) (IsFirst : A → Type 0) (IsSecond : A → B → Type 0)
    → (a : A) → IsFirst a → IsOnly first IsFirst a → (ls rest : List Line) (j : ℕ) → ls ≡ first a ++ rest
    → StopsAt (second a) (IsSecond a) rest j → StopsAt (both first second) (AreBoth IsFirst IsSecond) ls (length (first a) + j)
both_stop_second {A} {B} first second IsFirst IsSecond a is_first only ls rest j e stops =
    record { none = none; before = before; bad = bad }
  where
    front_of : (k : ℕ) → take (length (first a) + k) ls ≡ first a ++ take k rest
    front_of k = ap (λ (t : List Line). take (length (first a) + k) t) e ∙ take-append-add (first a) rest k

    within : (k : ℕ) → length (first a) + k ≤ length ls → k ≤ length rest
    within k h = omega (arith, length-append (first a) rest, ap length e)

    -- what begins with the first section goes on with a second one
    second_of : (pair : A × B) (x y : List Line) → AreBoth IsFirst IsSecond pair → first a ++ x ≡ both first second pair ++ y
        → (b : B) × IsSecond a b × (x ≡ second a b ++ y)
    second_of pair x y are h =
        let same = only pair.0 x (second pair.0 pair.1 ++ y) are.0 (h ∙ append_assoc (first pair.0) (second pair.0 pair.1) y) in
        (pair.1, subst (λ (p : A). IsSecond p pair.1) same.0 are.1, same.1 ∙ ap (λ (p : A). second p pair.1 ++ y) same.0)

    none : (pair : A × B) (after : List Line) → AreBoth IsFirst IsSecond pair → ls ≢ both first second pair ++ after
    none pair after are h =
        let found = second_of pair rest after are (sym e ∙ h) in
        stops.none found.0 after found.1 found.2

    before : Begins (both first second) (AreBoth IsFirst IsSecond) ls (length (first a) + j)
    before =
        let front = stops.before in
        let there : j ≤ length rest = front.there in
        record {
          there = omega (arith, length-append (first a) rest, ap length e);
          value = (a, front.value);
          is_value = (is_first, front.is_value);
          more = front.more;
          begins = ap (λ (t : List Line). first a ++ t) front.begins ∙ sym (append_assoc (first a) (take j rest) front.more)
              ∙ ap (λ (t : List Line). t ++ front.more) (sym (front_of j));
        }

    bad : ¬ Begins (both first second) (AreBoth IsFirst IsSecond) ls (suc (length (first a) + j))
    bad front =
        let there : suc (length (first a) + j) ≤ length ls = front.there in
        let next : suc (length (first a) + j) ≡ length (first a) + suc j = omega arith in
        let parts : first a ++ (take (suc j) rest ++ front.more) ≡ both first second front.value ++ []
        = sym (append_assoc (first a) (take (suc j) rest) front.more)
        ∙ ap (λ (t : List Line). t ++ front.more) (sym (front_of (suc j)) ∙ ap (λ k. take k ls) (sym next))
        ∙ sym front.begins ∙ sym (append-nil (both first second front.value)) in
        let found = second_of front.value (take (suc j) rest ++ front.more) [] front.is_value parts in
        stops.bad (record {
          there = within (suc j) (omega arith);
          value = found.0;
          is_value = found.1;
          more = front.more;
          begins = sym (append-nil (second a found.0)) ∙ sym found.2;
        })

pub both_only : {A B : Type 0} (first : A → List Line) (second : A → B → List Line) (IsFirst : A → Type 0) (IsSecond : A → B → Type 0) (a : A) (b : B)
    → IsOnly first IsFirst a → IsOnly (second a) (IsSecond a) b → IsOnly (both first second) (AreBoth IsFirst IsSecond) (a, b)
both_only {A} {B} first second IsFirst IsSecond a b only other q x y is_q e =
    let same = only q.0 (second a b ++ x) (second q.0 q.1 ++ y) is_q.0
    (sym (append_assoc (first a) (second a b) x) ∙ e ∙ append_assoc (first q.0) (second q.0 q.1) y) in
    let is_second : IsSecond a q.1 = subst (λ (p : A). IsSecond p q.1) same.0 is_q.1 in
    let rest = other q.1 x y is_second (same.1 ∙ ap (λ (p : A). second p q.1 ++ y) same.0) in
    (ap₂ (λ (a : A) (b : B). (a, b)) same.0 rest.0, rest.1)

pub both_found : {A B : Type 0} (first : A → List Line) (second : A → B → List Line) (IsFirst : A → Type 0) (IsSecond : A → B → Type 0)
    (ls : List Line) (taken : ℕ) (middle : List Line) (then : ℕ) (rest : List Line) (now : ℕ) (a : A) (b : B)
    → Found first IsFirst ls taken middle then a → Found (second a) (IsSecond a) middle then rest now b
    → Found (both first second) (AreBoth IsFirst IsSecond) ls taken rest now (a, b)
both_found first second IsFirst IsSecond ls taken middle then rest now a b here there =
    record {
      is_value = (here.is_value, there.is_value);
      front = here.front ∙ ap (λ (t : List Line). first a ++ t) there.front ∙ sym (append_assoc (first a) (second a b) rest);
      count = omega (arith, here.count, there.count, length-append (first a) (second a b));
      only = both_only first second IsFirst IsSecond a b here.only there.only;
    }

pub both_fails_first : {A B : Type 0} (first : A → List Line) (second : A → B → List Line) (IsFirst : A → Type 0) (IsSecond : A → B → Type 0)
    → ((a : A) → IsFirst a → (b : B) × IsSecond a b) → (ls : List Line) (taken : ℕ) (fault : ReadSystemFault)
    → Fails first IsFirst ls taken fault → Fails (both first second) (AreBoth IsFirst IsSecond) ls taken fault
both_fails_first first second IsFirst IsSecond complete ls taken (ReadSystemFault.BadLine k) (j, at, stops) =
    (j, at, both_stop_first first second IsFirst IsSecond complete ls j stops)
both_fails_first first second IsFirst IsSecond complete ls taken ReadSystemFault.NoMemory fails = tt

pub both_fails_second : {A B : Type 0} (first : A → List Line) (second : A → B → List Line) (IsFirst : A → Type 0) (IsSecond : A → B → Type 0)
    (ls : List Line) (taken : ℕ) (middle : List Line) (then : ℕ) (a : A) (fault : ReadSystemFault)
    → Found first IsFirst ls taken middle then a → Fails (second a) (IsSecond a) middle then fault
    → Fails (both first second) (AreBoth IsFirst IsSecond) ls taken fault
both_fails_second first second IsFirst IsSecond ls taken middle then a (ReadSystemFault.BadLine k) found (j, at, stops) = (
  length (first a) + j,
  omega (arith, found.count, at),
  both_stop_second first second IsFirst IsSecond a found.is_value found.only ls middle j found.front stops,
)
both_fails_second first second IsFirst IsSecond ls taken middle then a ReadSystemFault.NoMemory found fails = tt

-- a section of one line
pub line_stops : {A : Type 0} (text : A → Line) (IsValue : A → Type 0) (some : A) → IsValue some → (l : Line) (ls : List Line)
    → ((a : A) → IsValue a → l ≢ text a) → StopsAt (λ a. text a ∷ []) IsValue (l ∷ ls) 0
line_stops {A} text IsValue some is_some l ls other =
    record { none = none; before = record { there = omega arith; value = some; is_value = is_some; more = text some ∷ []; begins = refl }; bad = bad }
  where
    none : (a : A) (rest : List Line) → IsValue a → l ∷ ls ≢ (text a ∷ []) ++ rest
    none a rest is e = let same : l ≡ text a = cc in other a is same

    bad : ¬ Begins (λ a. text a ∷ []) IsValue (l ∷ ls) 1
    bad front =
        let e : text front.value ∷ [] ≡ l ∷ front.more = front.begins in
        let same : l ≡ text front.value = cc in
        other front.value front.is_value same

pub line_only : {A : Type 0} (text : A → Line) (IsValue : A → Type 0) (a : A) → ((b : A) → IsValue b → text a ≡ text b → b ≡ a) → IsOnly (one_line text) IsValue a
line_only text IsValue a only b x y is_b e =
    let same : text a ≡ text b = cc in
    let rest : x ≡ y = cc in
    (only b is_b same, rest)

pub line_found : {A : Type 0} (text : A → Line) (IsValue : A → Type 0) (l : Line) (ls : List Line) (taken : ℕ) (rest : List Line) (now : ℕ) (a : A)
    → Reads text IsValue l (Some a) → ls ≡ l ∷ rest → now ≡ taken + 1 → Found (one_line text) IsValue ls taken rest now a
line_found text IsValue l ls taken rest now a (is, e, only) parts count =
    record {
      is_value = is;
      front = parts ∙ ap (λ (t : Line). t ∷ rest) e;
      count = omega (arith, count);
      only = line_only text IsValue a (λ b is_b h. only b is_b (e ∙ h));
    }

pub line_fails : {A : Type 0} (text : A → Line) (IsValue : A → Type 0) (some : A) → IsValue some → (l : Line) (ls : List Line) (taken : ℕ) (rest : List Line) (fault : ReadSystemFault)
    → Reads text IsValue l None → ls ≡ l ∷ rest → fault ≡ ReadSystemFault.BadLine (taken + 1) → Fails (one_line text) IsValue ls taken fault
line_fails text IsValue some is_some l ls taken rest fault none parts bad =
    subst (λ (f : ReadSystemFault). Fails (one_line text) IsValue ls taken f) (sym bad)
    (0, omega arith, subst (λ (t : List Line). StopsAt (one_line text) IsValue t 0) (sym parts) (line_stops text IsValue some is_some l rest none))

-- values that stand for one another, with the same lines
pub stops_as : {A B : Type 0} (text : A → List Line) (IsValue : A → Type 0) («as» : B → List Line) (IsAs : B → Type 0) (to : A → B) (from : B → A)
    → ((a : A) → IsValue a → IsAs (to a) × («as» (to a) ≡ text a)) → ((b : B) → IsAs b → IsValue (from b) × (text (from b) ≡ «as» b))
    → (ls : List Line) (j : ℕ) → StopsAt text IsValue ls j → StopsAt «as» IsAs ls j
stops_as {A} {B} text IsValue «as» IsAs to from forth back ls j stops =
    record { none = none; before = before; bad = bad }
  where
    none : (b : B) (rest : List Line) → IsAs b → ls ≢ «as» b ++ rest
    none b rest is e = stops.none (from b) rest (back b is).0 (e ∙ ap (λ (t : List Line). t ++ rest) (sym (back b is).1))

    before : Begins «as» IsAs ls j
    before =
        let front = stops.before in
        record {
          there = front.there;
          value = to front.value;
          is_value = (forth front.value front.is_value).0;
          more = front.more;
          begins = (forth front.value front.is_value).1 ∙ front.begins;
        }

    bad : ¬ Begins «as» IsAs ls (suc j)
    bad front = stops.bad (record {
      there = front.there;
      value = from front.value;
      is_value = (back front.value front.is_value).0;
      more = front.more;
      begins = (back front.value front.is_value).1 ∙ front.begins;
    })

-- no line is left that could be that of a value
pub none_stops : {A : Type 0} (text : A → Line) (IsValue : A → Type 0) (some : A) → IsValue some → (ls : List Line)
    → ((a : A) (rest : List Line) → IsValue a → ls ≢ text a ∷ rest) → StopsAt (λ a. text a ∷ []) IsValue ls 0
none_stops {A} text IsValue some is_some ls other =
    record { none = λ a rest is e. other a rest is e; before = record { there = omega arith; value = some; is_value = is_some; more = text some ∷ []; begins = refl }; bad = bad ls other }
  where
    bad : (ls : List Line) → ((a : A) (rest : List Line) → IsValue a → ls ≢ text a ∷ rest) → ¬ Begins (λ a. text a ∷ []) IsValue ls 1
    bad [] other front = let h : 1 ≤ 0 = front.there in absurd (omega arith)
    bad (l ∷ ls) other front =
        let e : text front.value ∷ [] ≡ l ∷ front.more = front.begins in
        let same : l ≡ text front.value = cc in
        other front.value ls front.is_value (ap (λ (t : Line). t ∷ ls) same)

pub no_line_fails : {A : Type 0} (text : A → Line) (IsValue : A → Type 0) (some : A) → IsValue some → ((a : A) → IsWhole (text a)) → (ls : List Line) (taken : ℕ) (fault : ReadSystemFault)
    → ((line : Line) (others : List Line) → IsWhole line → ls ≢ line ∷ others) → fault ≡ ReadSystemFault.BadLine (taken + 1) → Fails (one_line text) IsValue ls taken fault
no_line_fails text IsValue some is_some whole ls taken fault none bad =
    subst (λ (f : ReadSystemFault). Fails (one_line text) IsValue ls taken f) (sym bad)
    (0, omega arith, none_stops text IsValue some is_some ls (λ a rest is. none (text a) rest (whole a)))

-- values that stand for one another
pub record StandFor {A B : Type 0} (text : A → List Line) (IsValue : A → Type 0) («as» : B → List Line) (IsAs : B → Type 0) (to : A → B) (from : B → A) : Type 0 where
  pub forth : (a : A) → IsValue a → IsAs (to a) × («as» (to a) ≡ text a)
  pub back : (b : B) → IsAs b → IsValue (from b) × (text (from b) ≡ «as» b)
  pub again : (b : B) → IsAs b → to (from b) ≡ b

pub fails_as : {A B : Type 0} (text : A → List Line) (IsValue : A → Type 0) («as» : B → List Line) (IsAs : B → Type 0) (to : A → B) (from : B → A)
    → StandFor text IsValue «as» IsAs to from → (ls : List Line) (taken : ℕ) (fault : ReadSystemFault)
    → Fails text IsValue ls taken fault → Fails «as» IsAs ls taken fault
fails_as text IsValue «as» IsAs to from stand ls taken (ReadSystemFault.BadLine k) (j, at, stops) =
    (j, at, stops_as text IsValue «as» IsAs to from stand.forth stand.back ls j stops)
fails_as text IsValue «as» IsAs to from stand ls taken ReadSystemFault.NoMemory fails = tt

pub found_as : {A B : Type 0} (text : A → List Line) (IsValue : A → Type 0) («as» : B → List Line) (IsAs : B → Type 0) (to : A → B) (from : B → A)
    → StandFor text IsValue «as» IsAs to from → (ls : List Line) (taken : ℕ) (rest : List Line) (now : ℕ) (a : A)
    → Found text IsValue ls taken rest now a → Found «as» IsAs ls taken rest now (to a)
found_as {A} {B} text IsValue «as» IsAs to from stand ls taken rest now a found =
    record {
      is_value = (stand.forth a found.is_value).0;
      front = found.front ∙ ap (λ (t : List Line). t ++ rest) (sym same);
      count = omega (arith, found.count, ap length same);
      only = only;
    }
  where
    same : «as» (to a) ≡ text a
    same = (stand.forth a found.is_value).1

    only : IsOnly «as» IsAs (to a)
    only b x y is_b e =
        let back = stand.back b is_b in
        let one = found.only (from b) x y back.0
        (ap (λ (t : List Line). t ++ x) (sym same) ∙ e ∙ ap (λ (t : List Line). t ++ y) (sym back.1)) in
        (sym (stand.again b is_b) ∙ ap to one.0, one.1)

pub answers_fail : {A : Type 0} (text : A → List Line) (IsValue : A → Type 0) (ls : List Line) (taken : ℕ) (rest : List Line) (now : ℕ)
    (r : Result A ReadSystemFault) (fault : ReadSystemFault) → r ≡ Err fault → Fails text IsValue ls taken fault → Answers text IsValue ls taken rest now r
answers_fail text IsValue ls taken rest now r fault r_is fails = subst (λ r. Answers text IsValue ls taken rest now r) (sym r_is) fails

pub worded_whole : (word body : List ℕ) → 0 < length word → IsWhole (worded word body)
worded_whole [] body some = absurd (omega arith)
worded_whole (b ∷ word) body some = (b, word ++ body, ap (λ (t : List ℕ). b ∷ t) (sym (append_assoc word body (10 ∷ []))))

pub line_text : (none word body text after middle : List ℕ) → none ≡ [] → after ≡ none ++ word → middle ≡ after ++ body → text ≡ middle ++ 10 ∷ [] → text ≡ worded word body
line_text none word body text after middle e f g h =
    h ∙ ap (λ (t : List ℕ). t ++ 10 ∷ []) (g ∙ ap (λ (t : List ℕ). t ++ body) (f ∙ ap (λ (t : List ℕ). t ++ word) e)) ∙ append_assoc word body (10 ∷ [])

-- two sections that stand for one value
pub pair_fails_first : {A B C : Type 0} (first : A → List Line) (second : A → B → List Line) (IsFirst : A → Type 0) (IsSecond : A → B → Type 0)
    («as» : C → List Line) (IsAs : C → Type 0) (to : A × B → C) (from : C → A × B)
    → StandFor (both first second) (AreBoth IsFirst IsSecond) «as» IsAs to from → ((a : A) → IsFirst a → (b : B) × IsSecond a b)
    → (ls : List Line) (taken : ℕ) (fault : ReadSystemFault) → Fails first IsFirst ls taken fault → Fails «as» IsAs ls taken fault
pair_fails_first first second IsFirst IsSecond «as» IsAs to from stand complete ls taken fault fails =
    fails_as (both first second) (AreBoth IsFirst IsSecond) «as» IsAs to from stand ls taken fault
    (both_fails_first first second IsFirst IsSecond complete ls taken fault fails)

pub pair_fails_second : {A B C : Type 0} (first : A → List Line) (second : A → B → List Line) (IsFirst : A → Type 0) (IsSecond : A → B → Type 0)
    («as» : C → List Line) (IsAs : C → Type 0) (to : A × B → C) (from : C → A × B)
    → StandFor (both first second) (AreBoth IsFirst IsSecond) «as» IsAs to from
    → (ls : List Line) (taken : ℕ) (middle : List Line) (then : ℕ) (a : A) (fault : ReadSystemFault)
    → Found first IsFirst ls taken middle then a → Fails (second a) (IsSecond a) middle then fault → Fails «as» IsAs ls taken fault
pair_fails_second first second IsFirst IsSecond «as» IsAs to from stand ls taken middle then a fault found fails =
    fails_as (both first second) (AreBoth IsFirst IsSecond) «as» IsAs to from stand ls taken fault
    (both_fails_second first second IsFirst IsSecond ls taken middle then a fault found fails)

pub pair_found : {A B C : Type 0} (first : A → List Line) (second : A → B → List Line) (IsFirst : A → Type 0) (IsSecond : A → B → Type 0)
    («as» : C → List Line) (IsAs : C → Type 0) (to : A × B → C) (from : C → A × B)
    → StandFor (both first second) (AreBoth IsFirst IsSecond) «as» IsAs to from
    → (ls : List Line) (taken : ℕ) (middle : List Line) (then : ℕ) (rest : List Line) (now : ℕ) (a : A) (b : B)
    → Found first IsFirst ls taken middle then a → Found (second a) (IsSecond a) middle then rest now b → Found «as» IsAs ls taken rest now (to (a, b))
pair_found first second IsFirst IsSecond «as» IsAs to from stand ls taken middle then rest now a b here there =
    found_as (both first second) (AreBoth IsFirst IsSecond) «as» IsAs to from stand ls taken rest now (a, b)
    (both_found first second IsFirst IsSecond ls taken middle then rest now a b here there)
