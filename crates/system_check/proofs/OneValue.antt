-- A text is that of one system at most.
use Rattle.std.proofs.Common.{◌≡◌, ℕ, suc, ◌≤◌, List, [], ◌∷◌, ◌++◌, length, refl, sym, ap, ◌∙◌, subst, arith}
use Rattle.std.specs.Prelude.{codes, decimal}
use Rattle.std.specs.List.{AllByRecursion}
use Rattle.family.specs.Shapes.{ArePowers}
use Rattle.line_reader.specs.Lines.{lines}
use Rattle.line_reader.specs.Sections.{Line, IsOnly, Found, both, AreBoth, each_from, AreMany}
use Rattle.line_reader.proofs.SectionLaws.{StandFor, found_as, both_only, line_only}
use Rattle.line_reader.proofs.Many.{AllOnly, many_only}
use Rattle.system_text.specs.Texts.{integral_text, row_text}
use Rattle.system_text.specs.Systems.{system_text, weights_text}
use Rattle.system_text.specs.SystemValues.{IsRow, AreWeights, IsStripped, IsBlock, IsRelation, IsReduction, IsSystemValue}
use Rattle.system_text.specs.SystemLines.{IsCount, counted_lines, AreCounted, heading_body, IsHeading, field_body, field_lines, block_lines, origin_body, IsOrigin, relation_lines, reduction_lines, blocks_lines, relations_lines, reductions_lines, name_line, system_lines}
use Rattle.system_text.specs.declared.value.System.{System}
use Rattle.system_text.proofs.Sequences.{count_line_of}
use Rattle.system_text.proofs.Standing.{counted_stand, heading_line, block_stand, origin_line, row_line, relation_stand, target_line, weights_line, reduced_lines, AreReduced, reduction_stand, Nothing, IsNothing, word_lines, lines1, lines2, lines3, lines4, IsName, Are1, Are2, Are3, Are4, to_system, from_system, system_stand}
use Rattle.system_text.proofs.TextLines.{lines_of_system}
use Rattle.system_check.proofs.OneTerm.{one_row}
use Rattle.system_check.proofs.OneLine.{worded_only, one_name, one_count, one_heading, one_field, one_origin, one_target, one_weights}

-- each value of a kind is the only one with its lines
abbrev AreOnly : {A : Type 0} → (A → List Line) → (A → Type 0) → Type 0
AreOnly {A} text IsValue = (a : A) → IsValue a → IsOnly text IsValue a

only_as : {A B : Type 0} (text : A → List Line) (IsValue : A → Type 0) («as» : B → List Line) (IsAs : B → Type 0) (to : A → B) (from : B → A)
    → StandFor text IsValue «as» IsAs to from → AreOnly text IsValue → AreOnly «as» IsAs
only_as {A} {B} text IsValue «as» IsAs to from stand only b is =
    let a : A = from b in
    let value : IsValue a = (stand.back b is).0 in
    let found : Found text IsValue (text a ++ []) 0 [] (length (text a)) a
    = record { is_value = value; front = refl; count = omega arith; only = only a value } in
    subst (λ (x : B). IsOnly «as» IsAs x) (stand.again b is) (found_as text IsValue «as» IsAs to from stand (text a ++ []) 0 [] (length (text a)) a found).only

all_only : {A : Type 0} (text : ℕ → A → List Line) (IsValue : A → Type 0) → ((k : ℕ) → AreOnly (text k) IsValue)
    → (k : ℕ) (xs : List A) → AllByRecursion IsValue xs → AllOnly text IsValue k xs
all_only text IsValue only k [] are = tt
all_only text IsValue only k (x ∷ xs) are = (only k x are.0, all_only text IsValue only (suc k) xs are.1)

each_only : {A : Type 0} (text : ℕ → A → List Line) (IsValue : A → Type 0) → ((k : ℕ) → AreOnly (text k) IsValue) → (count : ℕ) → AreOnly (each_from text 1) (AreMany IsValue count)
each_only text IsValue only count xs are = many_only text IsValue 1 count xs are.0 (all_only text IsValue only 1 xs are.1)

pair_only : {A B : Type 0} (first : A → List Line) (second : A → B → List Line) (IsFirst : A → Type 0) (IsSecond : A → B → Type 0)
    → AreOnly first IsFirst → ((a : A) → AreOnly (second a) (IsSecond a)) → AreOnly (both first second) (AreBoth IsFirst IsSecond)
pair_only first second IsFirst IsSecond only other p is = both_only first second IsFirst IsSecond p.0 p.1 (only p.0 is.0) (other p.0 p.1 is.1)

counted_only : {A : Type 0} (word : List ℕ) (text : ℕ → A → List Line) (IsValue : A → Type 0) → ((k : ℕ) → AreOnly (text k) IsValue) → AreOnly (counted_lines word text) (AreCounted IsValue)
counted_only {A} word text IsValue only =
    only_as (both (count_line_of word) (λ _. each_from text 1)) (AreBoth (IsCount 0) (λ c. AreMany IsValue c)) (counted_lines word text) (AreCounted IsValue) (λ p. p.1) (λ xs. (length xs, xs))
    (counted_stand word text IsValue 0)
    (pair_only (count_line_of word) (λ _. each_from text 1) (IsCount 0) (λ c. AreMany IsValue c) (worded_only word decimal (IsCount 0) (one_count 0)) (each_only text IsValue only))

word_only : (word : List ℕ) → AreOnly (word_lines word) IsNothing
word_only word a is = line_only (λ (_ : Nothing). word) IsNothing a (λ b _ _. refl)

module _ (n : ℕ) (some : 1 ≤ n) (low : n ≤ 12) where
  field_only : (k : ℕ) → AreOnly (field_lines k) (IsStripped n)
  field_only k = worded_only (codes "field ") (field_body k) (IsStripped n) (one_field n k some)

  block_only : (k : ℕ) → AreOnly block_lines (IsBlock n)
  block_only k =
      only_as (both heading_line (λ _. each_from field_lines 1)) (AreBoth (IsHeading n) (λ h. AreMany (IsStripped n) h.1)) block_lines (IsBlock n) _ _ (block_stand n)
      (pair_only heading_line (λ _. each_from field_lines 1) (IsHeading n) (λ h. AreMany (IsStripped n) h.1)
      (worded_only (codes "sector ") heading_body (IsHeading n) (one_heading n low)) (λ h. each_only field_lines (IsStripped n) field_only h.1))

  row_only : (word : List ℕ) → AreOnly (row_line word) (IsRow n)
  row_only word = worded_only word row_text (IsRow n) (one_row n some)

  relation_only : (k : ℕ) → AreOnly (relation_lines k) (IsRelation n)
  relation_only k =
      only_as (both (origin_line k) (λ _. row_line (codes "row "))) (AreBoth (IsOrigin n) (λ _. IsRow n)) (relation_lines k) (IsRelation n) _ _ (relation_stand n k)
      (pair_only (origin_line k) (λ _. row_line (codes "row ")) (IsOrigin n) (λ _. IsRow n)
      (worded_only (codes "relation ") (origin_body k) (IsOrigin n) (one_origin n k some low)) (λ _. row_only (codes "row ")))

  reduced_only : AreOnly reduced_lines (AreReduced n)
  reduced_only =
      pair_only (row_line (codes "reduces ")) (λ _. weights_line) (IsRow n) (λ _. AreWeights) (row_only (codes "reduces "))
      (λ _. worded_only (codes "weights ") weights_text AreWeights one_weights)

  reduction_only : (k : ℕ) → AreOnly reduction_lines (IsReduction n)
  reduction_only k =
      only_as (both target_line (λ _. reduced_lines)) (AreBoth (ArePowers n) (λ _. AreReduced n)) reduction_lines (IsReduction n) _ _ (reduction_stand n)
      (pair_only target_line (λ _. reduced_lines) (ArePowers n) (λ _. AreReduced n)
      (worded_only (codes "target ") integral_text (ArePowers n) (one_target n some)) (λ _. reduced_only))

  only4 : AreOnly lines4 (Are4 n)
  only4 =
      pair_only reductions_lines (λ _. word_lines (codes "end\n")) (AreCounted (IsReduction n)) (λ _. IsNothing)
      (counted_only (codes "targets ") (λ _. reduction_lines) (IsReduction n) reduction_only) (λ _. word_only (codes "end\n"))

  only3 : AreOnly lines3 (Are3 n)
  only3 =
      pair_only relations_lines (λ _. lines4) (AreCounted (IsRelation n)) (λ _. Are4 n)
      (counted_only (codes "relations ") relation_lines (IsRelation n) relation_only) (λ _. only4)

  only2 : AreOnly lines2 (Are2 n)
  only2 =
      pair_only blocks_lines (λ _. lines3) (AreCounted (IsBlock n)) (λ _. Are3 n)
      (counted_only (codes "sectors ") (λ _. block_lines) (IsBlock n) block_only) (λ _. only3)

  only1 : AreOnly lines1 (Are1 n)
  only1 = pair_only name_line (λ _. lines2) IsName (λ _. Are2 n) (worded_only (codes "family ") (λ (name : List ℕ). name) IsName one_name) (λ _. only2)

  system_only : AreOnly system_lines (IsSystemValue n)
  system_only =
      only_as (both (word_lines (codes "neatibp-system 1\n")) (λ _. lines1)) (AreBoth IsNothing (λ _. Are1 n)) system_lines (IsSystemValue n) (to_system n) from_system (system_stand n)
      (pair_only (word_lines (codes "neatibp-system 1\n")) (λ _. lines1) IsNothing (λ _. Are1 n) (word_only (codes "neatibp-system 1\n")) (λ _. only1))

pub one_value : (n : ℕ) (a b : System) → 1 ≤ n → n ≤ 12 → IsSystemValue n a → IsSystemValue n b → system_text a ≡ system_text b → a ≡ b
one_value n a b some low is is_b e =
    let same : system_lines a ≡ system_lines b = sym (lines_of_system n a low is) ∙ ap lines e ∙ lines_of_system n b low is_b in
    sym (system_only n some low a is b [] [] is_b (ap (λ (t : List Line). t ++ []) same)).0
