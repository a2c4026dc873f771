-- The first element of a list that is not right.
use Rattle.std.proofs.Common.{◌≡◌, ℕ, suc, ◌+◌, ◌<◌, ◌≤◌, List, [], ◌∷◌, ◌++◌, length, get_or, take, drop, refl, sym, ap, ◌∙◌, subst, arith}
use Rattle.std.specs.List.{All, AllByRecursion}
use Rattle.std.proofs.lemmas.List.{take_all, take-append-drop, drop_more, length-take-le}
use Rattle.std.proofs.lemmas.List.Elements.{All-from_recursion, recursion_from_All, All-get_or, All-more}
use Rattle.sector_lattice.specs.declared.sector.Sector.{Sector}
use Rattle.family.specs.FamilyData.{FamilyData}
use Rattle.family.specs.declared.parts.StrippedField.{StrippedField}
use Rattle.system_text.specs.declared.value.SectorBlock.{SectorBlock}
use Rattle.system_check.specs.Rightness.{IsRightField, IsRightBlock}
use Rattle.system_check.specs.Checking.{IsFirstAt, IsFirstField}

pub each_at : {A : Type 0} (P : A → Type 0) (xs : List A) (i : ℕ) (x : A) → AllByRecursion P xs → i < length xs → x ≡ get_or xs i x → P x
each_at P xs i x all inside is = subst P (sym is) (All-get_or P xs i x inside (All-from_recursion P xs all))

pub all_more : {A : Type 0} (P : A → Type 0) (xs : List A) (i : ℕ) (x : A) → i < length xs → x ≡ get_or xs i x → All P (take i xs) → P x → All P (take (i + 1) xs)
all_more P xs i x inside is all one = All-more P xs i x inside all (subst P is one)

pub all_whole : {A : Type 0} (P : A → Type 0) (xs : List A) (i : ℕ) → length xs ≤ i → All P (take i xs) → All P xs
all_whole P xs i most all = subst (All P) (take_all i xs most) all

at_place : {A : Type 0} (xs : List A) (i : ℕ) (x : A) → i < length xs → x ≡ get_or xs i x → xs ≡ take i xs ++ x ∷ drop (i + 1) xs
at_place {A} xs i x inside is =
    sym (take-append-drop i xs) ∙ ap (λ (t : List A). take i xs ++ t) (drop_more xs i x inside ∙ ap (λ (y : A). y ∷ drop (i + 1) xs) (sym is))

pub first_here : {A : Type 0} (P : A → Type 0) (xs : List A) (i : ℕ) (x : A) → i < length xs → x ≡ get_or xs i x → All P (take i xs) → ¬ P x → IsFirstAt P (i + 1) xs
first_here P xs i x inside is all wrong =
    record {
      before = take i xs;
      x = x;
      after = drop (i + 1) xs;
      split = at_place xs i x inside is;
      at = ap (λ (k : ℕ). k + 1) (sym (length-take-le i xs (omega arith)));
      right = all;
      wrong = wrong;
    }

pub field_here : (family : FamilyData) (blocks : List SectorBlock) (i : ℕ) (block : SectorBlock) (fields : List StrippedField) (k : ℕ)
    → i < length blocks → block ≡ get_or blocks i block → fields ≡ block.fields → All (IsRightBlock family) (take i blocks)
    → IsFirstAt (IsRightField family block.sector) k fields → IsFirstField family block.sector k blocks
field_here family blocks i block fields k inside is same all first =
    record {
      before = take i blocks;
      block = block;
      after = drop (i + 1) blocks;
      split = at_place blocks i block inside is;
      right = all;
      of_sector = refl;
      first = subst (λ (fs : List StrippedField). IsFirstAt (IsRightField family block.sector) k fs) same first;
    }

-- one that is right stands at each place
in_middle : {A : Type 0} (P : A → Type 0) (before after : List A) (x : A) → AllByRecursion P (before ++ x ∷ after) → P x
in_middle P [] after x all = all.0
in_middle P (y ∷ before) after x all = in_middle P before after x all.1

at_middle : {A : Type 0} (P : A → Type 0) (xs before after : List A) (x : A) → xs ≡ before ++ x ∷ after → All P xs → P x
at_middle P xs before after x split all = in_middle P before after x (recursion_from_All P (before ++ x ∷ after) (subst (All P) split all))

pub no_first : {A : Type 0} (P : A → Type 0) (k : ℕ) (xs : List A) → All P xs → ¬ IsFirstAt P k xs
no_first P k xs all first = first.wrong (at_middle P xs first.before first.after first.x first.split all)

-- two ways to stand in a list behind right ones are one
same_place : {A : Type 0} (P : A → Type 0) (before front : List A) (x y : A) (after rest : List A) → AllByRecursion P before → AllByRecursion P front
    → ¬ P x → ¬ P y → before ++ x ∷ after ≡ front ++ y ∷ rest → (length before ≡ length front) × (x ≡ y)
same_place P [] [] x y after rest p q not_x not_y e = let same : x ≡ y = cc in (refl, same)
same_place P [] (z ∷ front) x y after rest p q not_x not_y e = let same : z ≡ x = cc in absurd (not_x (subst P same q.0))
same_place P (z ∷ before) [] x y after rest p q not_x not_y e = let same : z ≡ y = cc in absurd (not_y (subst P same p.0))
same_place P (z ∷ before) (w ∷ front) x y after rest p q not_x not_y e =
    let tails : before ++ x ∷ after ≡ front ++ y ∷ rest = cc in
    let found = same_place P before front x y after rest p.1 q.1 not_x not_y tails in
    (ap suc found.0, found.1)

pub one_first : {A : Type 0} (P : A → Type 0) (j k : ℕ) (xs : List A) → IsFirstAt P j xs → IsFirstAt P k xs → j ≡ k
one_first P j k xs a b =
    let same = same_place P a.before b.before a.x b.x a.after b.after (recursion_from_All P a.before a.right) (recursion_from_All P b.before b.right) a.wrong b.wrong (sym a.split ∙ b.split) in
    a.at ∙ ap (λ (i : ℕ). i + 1) same.0 ∙ sym b.at

wrong_block : (family : FamilyData) (sector : Sector) (k : ℕ) (blocks : List SectorBlock) → (f : IsFirstField family sector k blocks) → ¬ IsRightBlock family f.block
wrong_block family sector k blocks f all =
    no_first (IsRightField family sector) k f.block.fields (subst (λ (s : Sector). All (IsRightField family s) f.block.fields) f.of_sector all) f.first

pub no_field : (family : FamilyData) (sector : Sector) (k : ℕ) (blocks : List SectorBlock) → All (IsRightBlock family) blocks → ¬ IsFirstField family sector k blocks
no_field family sector k blocks all f = wrong_block family sector k blocks f (at_middle (IsRightBlock family) blocks f.before f.after f.block f.split all)

pub one_field : (family : FamilyData) (sector other : Sector) (j k : ℕ) (blocks : List SectorBlock) → IsFirstField family sector j blocks → IsFirstField family other k blocks
    → (sector ≡ other) × (j ≡ k)
one_field family sector other j k blocks a b =
    let P = IsRightBlock family in
    let place = same_place P a.before b.before a.block b.block a.after b.after (recursion_from_All P a.before a.right) (recursion_from_All P b.before b.right)
    (wrong_block family sector j blocks a) (wrong_block family other k blocks b) (sym a.split ∙ b.split) in
    let same : sector ≡ other = sym a.of_sector ∙ ap (λ (block : SectorBlock). block.sector) place.1 ∙ b.of_sector in
    let first : IsFirstAt (IsRightField family other) j b.block.fields =
    subst (λ (s : Sector). IsFirstAt (IsRightField family s) j b.block.fields) same
    (subst (λ (block : SectorBlock). IsFirstAt (IsRightField family sector) j block.fields) place.1 a.first) in
    (same, one_first (IsRightField family other) j k b.block.fields first b.first)
