-- As many sections as a count says, numbered in turn.
use Rattle.std.proofs.Common.{◌≡◌, ◌≢◌, ℕ, zero, suc, ◌+◌, ◌-◌, ◌≤◌, ◌<◌, List, [], ◌∷◌, ◌++◌, length, take, drop, refl, sym, ap, ap₂, ◌∙◌, append_assoc, append-nil, arith, length-append, inl, inr}
use Rattle.std.specs.List.{AllByRecursion}
use Rattle.std.proofs.lemmas.List.{take-append-drop}
use Rattle.std.proofs.Math.Seq.{take-append-add}
use Rattle.line_reader.specs.Sections.{Line, Begins, StopsAt, IsOnly, each_from, AreMany}
use Rattle.line_reader.proofs.SectionLaws.{CutFirst, cut_first}

-- each of them is the only value with its lines
abbrev pub AllOnly : {A : Type 0} → (ℕ → A → List Line) → (A → Type 0) → ℕ → List A → Type 0
AllOnly text IsValue k [] = Unit {0}
AllOnly text IsValue k (x ∷ xs) = IsOnly (text k) IsValue x × AllOnly text IsValue (suc k) xs

pub many_only : {A : Type 0} (text : ℕ → A → List Line) (IsValue : A → Type 0) (k count : ℕ) (xs : List A) → length xs ≡ count → AllOnly text IsValue k xs
    → IsOnly (each_from text k) (AreMany IsValue count) xs
many_only {A} text IsValue k count xs size only ys u v are_ys e = go k xs ys only are_ys.1 (are_ys.0 ∙ sym size) e
  where
    go : (k : ℕ) (xs ys : List A) → AllOnly text IsValue k xs → AllByRecursion IsValue ys → length ys ≡ length xs
        → each_from text k xs ++ u ≡ each_from text k ys ++ v → (ys ≡ xs) × (u ≡ v)
    go k [] [] only are same e = (refl, e)
    go k [] (y ∷ ys) only are same e = absurd (omega arith)
    go k (x ∷ xs) [] only are same e = absurd (omega arith)
    go k (x ∷ xs) (y ∷ ys) only are same e =
        let here = only.0 y (each_from text (suc k) xs ++ u) (each_from text (suc k) ys ++ v) are.0
        (sym (append_assoc (text k x) (each_from text (suc k) xs) u) ∙ e ∙ append_assoc (text k y) (each_from text (suc k) ys) v) in
        let fewer : length ys ≡ length xs = omega arith in
        let rest = go (suc k) xs ys only.1 are.1 fewer here.1 in
        (ap₂ (λ (a : A) (b : List A). a ∷ b) here.0 rest.0, rest.1)

-- the number behind those of these elements
abbrev pub number_after : {A : Type 0} → ℕ → List A → ℕ
number_after k [] = k
number_after k (x ∷ xs) = number_after (suc k) xs

pub number_after-is : {A : Type 0} (k : ℕ) (xs : List A) → number_after k xs ≡ k + length xs
number_after-is k [] = omega arith
number_after-is k (x ∷ xs) = omega (arith, number_after-is (suc k) xs)

pub each_from-append : {A : Type 0} (text : ℕ → A → List Line) (k : ℕ) (xs ys : List A)
    → each_from text k (xs ++ ys) ≡ each_from text k xs ++ each_from text (number_after k xs) ys
each_from-append text k [] ys = refl
each_from-append text k (x ∷ xs) ys =
    ap (λ (t : List Line). text k x ++ t) (each_from-append text (suc k) xs ys)
    ∙ sym (append_assoc (text k x) (each_from text (suc k) xs) (each_from text (number_after (suc k) xs) ys))

pub all_append : {A : Type 0} (P : A → Type 0) (xs ys : List A) → AllByRecursion P xs → AllByRecursion P ys → AllByRecursion P (xs ++ ys)
all_append P [] ys p q = q
all_append P (x ∷ xs) ys p q = (p.0, all_append P xs ys p.1 q)

pub all_only_append : {A : Type 0} (text : ℕ → A → List Line) (IsValue : A → Type 0) (k : ℕ) (xs : List A) (y : A)
    → AllOnly text IsValue k xs → IsOnly (text (number_after k xs)) IsValue y → AllOnly text IsValue k (xs ++ y ∷ [])
all_only_append text IsValue k [] y p q = (q, tt)
all_only_append text IsValue k (x ∷ xs) y p q = (p.0, all_only_append text IsValue (suc k) xs y p.1 q)

abbrev copies : {A : Type 0} → A → ℕ → List A
copies a zero = []
copies a (suc c) = a ∷ copies a c

length-copies : {A : Type 0} (a : A) (c : ℕ) → length (copies a c) ≡ c
length-copies a zero = refl
length-copies a (suc c) = omega (arith, length-copies a c)

all-copies : {A : Type 0} (P : A → Type 0) (a : A) → P a → (c : ℕ) → AllByRecursion P (copies a c)
all-copies P a p zero = tt
all-copies P a p (suc c) = (p, all-copies P a p c)

-- the done ones, and the section behind them is that of no value
pub many_stop : {A : Type 0} (text : ℕ → A → List Line) (IsValue : A → Type 0)
    → (some : A) → IsValue some → (k count : ℕ) (done : List A) → AllByRecursion IsValue done → AllOnly text IsValue k done → length done < count
    → (ls rest : List Line) (j : ℕ) → ls ≡ each_from text k done ++ rest
    → StopsAt (text (number_after k done)) IsValue rest j
    → StopsAt (each_from text k) (AreMany IsValue count) ls (length (each_from text k done) + j)
many_stop {A} text IsValue some is_some k count done are_done only_done few ls rest j e stops =
    record { none = none; before = before; bad = bad }
  where
    before_ : List Line
    before_ = each_from text k done

    front_of : (i : ℕ) → take (length (each_from text k done) + i) ls ≡ each_from text k done ++ take i rest
    front_of i = ap (λ (t : List Line). take (length (each_from text k done) + i) t) e ∙ take-append-add (each_from text k done) rest i

    -- more values than were done have one behind those
    split : (k : ℕ) (done xs : List A) → AllOnly text IsValue k done → AllByRecursion IsValue xs → length done < length xs → (x y : List Line)
        → each_from text k done ++ x ≡ each_from text k xs ++ y
        → (a : A) × IsValue a × (after : List Line) × (x ≡ text (number_after k done) a ++ after)
    split k [] [] are are' less x y h = absurd (omega arith)
    split k [] (a ∷ xs) are are' less x y h = (a, are'.0, each_from text (suc k) xs ++ y, h ∙ append_assoc (text k a) (each_from text (suc k) xs) y)
    split k (d ∷ done) [] are are' less x y h = absurd (omega arith)
    split k (d ∷ done) (a ∷ xs) are are' less x y h =
        let here = are.0 a (each_from text (suc k) done ++ x) (each_from text (suc k) xs ++ y) are'.0
        (sym (append_assoc (text k d) (each_from text (suc k) done) x) ∙ h ∙ append_assoc (text k a) (each_from text (suc k) xs) y) in
        let fewer : length done < length xs = omega arith in
        split (suc k) done xs are.1 are'.1 fewer x y here.1

    none : (xs : List A) (after : List Line) → AreMany IsValue count xs → ls ≢ each_from text k xs ++ after
    none xs after are h =
        let size : length xs ≡ count = are.0 in
        let found = split k done xs only_done are.1 (omega arith) rest after (sym e ∙ h) in
        stops.none found.0 found.2 found.1 found.3

    before : Begins (each_from text k) (AreMany IsValue count) ls (length (each_from text k done) + j)
    before =
        let front = stops.before in
        let there : j ≤ length rest = front.there in
        let left = count - suc (length done) in
        let others = each_from text (suc (number_after k done)) (copies some left) in
        record {
          there = omega (arith, length-append (each_from text k done) rest, ap length e);
          value = done ++ (front.value ∷ copies some left);
          is_value = (
            omega (arith, length-append done (front.value ∷ copies some left), length-copies some left),
            all_append IsValue done (front.value ∷ copies some left) are_done (front.is_value, all-copies IsValue some is_some left),
          );
          more = front.more ++ others;
          begins = each_from-append text k done (front.value ∷ copies some left)
              ∙ ap (λ (t : List Line). each_from text k done ++ (t ++ others)) front.begins
              ∙ ap (λ (t : List Line). each_from text k done ++ t) (append_assoc (take j rest) front.more others)
              ∙ sym (append_assoc (each_from text k done) (take j rest) (front.more ++ others))
              ∙ ap (λ (t : List Line). t ++ (front.more ++ others)) (sym (front_of j));
        }

    bad : ¬ Begins (each_from text k) (AreMany IsValue count) ls (suc (length (each_from text k done) + j))
    bad front =
        let there : suc (length (each_from text k done) + j) ≤ length ls = front.there in
        let next : suc (length (each_from text k done) + j) ≡ length (each_from text k done) + suc j = omega arith in
        let within : suc j ≤ length rest = omega (arith, length-append (each_from text k done) rest, ap length e) in
        let parts : each_from text k done ++ (take (suc j) rest ++ front.more) ≡ each_from text k front.value ++ []
        = sym (append_assoc (each_from text k done) (take (suc j) rest) front.more)
        ∙ ap (λ (t : List Line). t ++ front.more) (sym (front_of (suc j)) ∙ ap (λ i. take i ls) (sym next))
        ∙ sym front.begins ∙ sym (append-nil (each_from text k front.value)) in
        let size : length front.value ≡ count = front.is_value.0 in
        let found = split k done front.value only_done front.is_value.1 (omega arith) (take (suc j) rest ++ front.more) [] parts in
        either found.0 found.1 found.2 front.more within (cut_first (take (suc j) rest) front.more (text (number_after k done) found.0) found.2 found.3)
      where
        either : (a : A) → IsValue a → (after more : List Line) → suc j ≤ length rest
            → CutFirst (take (suc j) rest) more (text (number_after k done) a) after → ⊥
        either a is after more within (inl (m, p, q)) =
            stops.none a (m ++ drop (suc j) rest) is
            (sym (take-append-drop (suc j) rest) ∙ ap (λ (t : List Line). t ++ drop (suc j) rest) p ∙ append_assoc (text (number_after k done) a) m (drop (suc j) rest))
        either a is after more within (inr (m, p, q)) = stops.bad (record { there = within; value = a; is_value = is; more = m; begins = p })

pub some_many : {A : Type 0} (IsValue : A → Type 0) (some : A) → IsValue some → (count : ℕ) → (xs : List A) × AreMany IsValue count xs
some_many IsValue some is count = (copies some count, (length-copies some count, all-copies IsValue some is count))
