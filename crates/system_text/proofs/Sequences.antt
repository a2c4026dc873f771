-- Readers of sections one after the other: what the answer of one says of the whole.
use Rattle.std.proofs.Common.{ℕ, List, [], length, arith}
use Rattle.std.specs.Prelude.{codes, decimal, ℤ, Result, Ok, Err}
use Rattle.sector_lattice.specs.declared.sector.Sector.{Sector}
use Rattle.family.specs.Shapes.{ArePowers}
use Rattle.family.specs.declared.parts.StrippedField.{StrippedField}
use Rattle.line_reader.specs.Lines.{worded}
use Rattle.line_reader.specs.Sections.{Line, one_line, each_from, AreMany, Fails, Found, Answers}
use Rattle.line_reader.specs.declared.fault.ReadSystemFault.{ReadSystemFault}
use Rattle.line_reader.proofs.SectionLaws.{both_fails_first, both_fails_second, both_found, pair_fails_first, pair_fails_second, pair_found}
use Rattle.line_reader.proofs.Many.{some_many}
use Rattle.system_text.specs.SomeValues.{some_field, some_row, some_weights, some_name}
use Rattle.system_text.specs.SystemValues.{IsStripped, IsBlock, IsRelation, IsReduction, IsRow, AreWeights, IsSystemValue}
use Rattle.system_text.specs.SystemLines.{IsCount, counted_lines, AreCounted, IsHeading, field_lines, block_lines, Origin, IsOrigin, relation_lines, reduction_lines, blocks_lines, relations_lines, reductions_lines, name_line, system_lines}
use Rattle.system_text.specs.declared.value.SectorBlock.{SectorBlock}
use Rattle.system_text.specs.declared.value.Written.{Written}
use Rattle.system_text.specs.declared.value.Reduction.{Reduction}
use Rattle.system_text.proofs.Standing.{counted_stand, heading_line, block_stand, origin_line, row_line, relation_stand, target_line, weights_line, reduced_lines, AreReduced, reduction_stand, Nothing, IsNothing, word_lines, lines1, lines2, lines3, lines4, IsName, Behind, Are1, Are2, Are3, Are4, to_system, from_system, system_stand}

-- elements behind their count
abbrev pub count_line_of : List ℕ → ℕ → List Line
count_line_of word = one_line (λ (c : ℕ). worded word (decimal c))

pub counted_fails_first : {A : Type 0} (word : List ℕ) (text : ℕ → A → List Line) (IsValue : A → Type 0) (n : ℕ) (some : A) → IsValue some
    → (ls : List Line) (taken : ℕ) (fault : ReadSystemFault) → Fails (count_line_of word) (IsCount n) ls taken fault → Fails (counted_lines word text) (AreCounted IsValue) ls taken fault
counted_fails_first {A} word text IsValue n some is ls taken fault fails =
    pair_fails_first (count_line_of word) (λ _. each_from text 1) (IsCount n) (λ c. AreMany IsValue c) (counted_lines word text) (AreCounted IsValue) (λ p. p.1) (λ xs. (length xs, xs))
    (counted_stand word text IsValue n) (λ c _. some_many IsValue some is c) ls taken fault fails

pub counted_fails_second : {A : Type 0} (word : List ℕ) (text : ℕ → A → List Line) (IsValue : A → Type 0) (n : ℕ)
    (ls : List Line) (taken : ℕ) (middle : List Line) (then : ℕ) (c : ℕ) (fault : ReadSystemFault) → Found (count_line_of word) (IsCount n) ls taken middle then c
    → Fails (each_from text 1) (AreMany IsValue c) middle then fault → Fails (counted_lines word text) (AreCounted IsValue) ls taken fault
counted_fails_second {A} word text IsValue n ls taken middle then c fault found fails =
    pair_fails_second (count_line_of word) (λ _. each_from text 1) (IsCount n) (λ c. AreMany IsValue c) (counted_lines word text) (AreCounted IsValue) (λ p. p.1) (λ xs. (length xs, xs))
    (counted_stand word text IsValue n) ls taken middle then c fault found fails

pub counted_found : {A : Type 0} (word : List ℕ) (text : ℕ → A → List Line) (IsValue : A → Type 0) (n : ℕ)
    (ls : List Line) (taken : ℕ) (middle : List Line) (then : ℕ) (rest : List Line) (now : ℕ) (c : ℕ) (xs : List A) → Found (count_line_of word) (IsCount n) ls taken middle then c
    → Found (each_from text 1) (AreMany IsValue c) middle then rest now xs → Found (counted_lines word text) (AreCounted IsValue) ls taken rest now xs
counted_found {A} word text IsValue n ls taken middle then rest now c xs here there =
    pair_found (count_line_of word) (λ _. each_from text 1) (IsCount n) (λ c. AreMany IsValue c) (counted_lines word text) (AreCounted IsValue) (λ p. p.1) (λ xs. (length xs, xs))
    (counted_stand word text IsValue n) ls taken middle then rest now c xs here there

pub counted_answers : {A : Type 0} (word : List ℕ) (text : ℕ → A → List Line) (IsValue : A → Type 0) (n : ℕ)
    (ls : List Line) (taken : ℕ) (middle : List Line) (then : ℕ) (rest : List Line) (now : ℕ) (c : ℕ) (r : Result (List A) ReadSystemFault) → Found (count_line_of word) (IsCount n) ls taken middle then c
    → Answers (each_from text 1) (AreMany IsValue c) middle then rest now r → Answers (counted_lines word text) (AreCounted IsValue) ls taken rest now r
counted_answers word text IsValue n ls taken middle then rest now c (Ok xs) found answers =
    counted_found word text IsValue n ls taken middle then rest now c xs found answers
counted_answers word text IsValue n ls taken middle then rest now c (Err fault) found answers =
    counted_fails_second word text IsValue n ls taken middle then c fault found answers

pub block_fails_first : (n : ℕ) (ls : List Line) (taken : ℕ) (fault : ReadSystemFault) → Fails heading_line (IsHeading n) ls taken fault → Fails block_lines (IsBlock n) ls taken fault
block_fails_first n ls taken fault fails =
    pair_fails_first heading_line (λ _. each_from field_lines 1) (IsHeading n) (λ h. AreMany (IsStripped n) h.1) block_lines (IsBlock n) _ _ (block_stand n)
    (λ h _. some_many (IsStripped n) (some_field n).0 (some_field n).1 h.1) ls taken fault fails

pub block_fails_second : (n : ℕ) (ls : List Line) (taken : ℕ) (middle : List Line) (then : ℕ) (h : Sector × ℕ) (fault : ReadSystemFault)
    → Found heading_line (IsHeading n) ls taken middle then h → Fails (each_from field_lines 1) (AreMany (IsStripped n) h.1) middle then fault → Fails block_lines (IsBlock n) ls taken fault
block_fails_second n ls taken middle then h fault found fails =
    pair_fails_second heading_line (λ _. each_from field_lines 1) (IsHeading n) (λ h. AreMany (IsStripped n) h.1) block_lines (IsBlock n) _ _ (block_stand n) ls taken middle then h fault found fails

pub block_found : (n : ℕ) (ls : List Line) (taken : ℕ) (middle : List Line) (then : ℕ) (rest : List Line) (now : ℕ) (h : Sector × ℕ) (fields : List StrippedField)
    → Found heading_line (IsHeading n) ls taken middle then h → Found (each_from field_lines 1) (AreMany (IsStripped n) h.1) middle then rest now fields
    → Found block_lines (IsBlock n) ls taken rest now (record { sector = h.0; fields = fields })
block_found n ls taken middle then rest now h fields here there =
    pair_found heading_line (λ _. each_from field_lines 1) (IsHeading n) (λ h. AreMany (IsStripped n) h.1) block_lines (IsBlock n) _ _ (block_stand n) ls taken middle then rest now h fields here there

pub relation_fails_first : (n k : ℕ) (ls : List Line) (taken : ℕ) (fault : ReadSystemFault) → Fails (origin_line k) (IsOrigin n) ls taken fault → Fails (relation_lines k) (IsRelation n) ls taken fault
relation_fails_first n k ls taken fault fails =
    pair_fails_first (origin_line k) (λ _. row_line (codes "row ")) (IsOrigin n) (λ _. IsRow n) (relation_lines k) (IsRelation n) _ _ (relation_stand n k) (λ _ _. some_row n) ls taken fault fails

pub relation_fails_second : (n k : ℕ) (ls : List Line) (taken : ℕ) (middle : List Line) (then : ℕ) (o : Origin) (fault : ReadSystemFault)
    → Found (origin_line k) (IsOrigin n) ls taken middle then o → Fails (row_line (codes "row ")) (IsRow n) middle then fault → Fails (relation_lines k) (IsRelation n) ls taken fault
relation_fails_second n k ls taken middle then o fault found fails =
    pair_fails_second (origin_line k) (λ _. row_line (codes "row ")) (IsOrigin n) (λ _. IsRow n) (relation_lines k) (IsRelation n) _ _ (relation_stand n k) ls taken middle then o fault found fails

pub relation_found : (n k : ℕ) (ls : List Line) (taken : ℕ) (middle : List Line) (then : ℕ) (rest : List Line) (now : ℕ) (o : Origin) (row : List (List ℤ × ℕ))
    → Found (origin_line k) (IsOrigin n) ls taken middle then o → Found (row_line (codes "row ")) (IsRow n) middle then rest now row
    → Found (relation_lines k) (IsRelation n) ls taken rest now (record { sector = o.0; seed = o.1; field = o.2; row = row })
relation_found n k ls taken middle then rest now o row here there =
    pair_found (origin_line k) (λ _. row_line (codes "row ")) (IsOrigin n) (λ _. IsRow n) (relation_lines k) (IsRelation n) _ _ (relation_stand n k) ls taken middle then rest now o row here there

some_reduced : (n : ℕ) → (p : List (List ℤ × ℕ) × List (ℕ × ℕ)) × AreReduced n p
some_reduced n = (((some_row n).0, some_weights.0), ((some_row n).1, some_weights.1))

pub reduction_fails_first : (n : ℕ) (ls : List Line) (taken : ℕ) (fault : ReadSystemFault) → Fails target_line (ArePowers n) ls taken fault → Fails reduction_lines (IsReduction n) ls taken fault
reduction_fails_first n ls taken fault fails =
    pair_fails_first target_line (λ _. reduced_lines) (ArePowers n) (λ _. AreReduced n) reduction_lines (IsReduction n) _ _ (reduction_stand n) (λ _ _. some_reduced n) ls taken fault fails

pub reduction_fails_second : (n : ℕ) (ls : List Line) (taken : ℕ) (middle : List Line) (then : ℕ) (target : List ℤ) (fault : ReadSystemFault)
    → Found target_line (ArePowers n) ls taken middle then target → Fails (row_line (codes "reduces ")) (IsRow n) middle then fault → Fails reduction_lines (IsReduction n) ls taken fault
reduction_fails_second n ls taken middle then target fault found fails =
    pair_fails_second target_line (λ _. reduced_lines) (ArePowers n) (λ _. AreReduced n) reduction_lines (IsReduction n) _ _ (reduction_stand n) ls taken middle then target fault found
    (both_fails_first (row_line (codes "reduces ")) (λ _. weights_line) (IsRow n) (λ _. AreWeights) (λ _ _. some_weights) middle then fault fails)

pub reduction_fails_third : (n : ℕ) (ls : List Line) (taken : ℕ) (middle : List Line) (then : ℕ) (later : List Line) (after : ℕ) (target : List ℤ) (row : List (List ℤ × ℕ)) (fault : ReadSystemFault)
    → Found target_line (ArePowers n) ls taken middle then target → Found (row_line (codes "reduces ")) (IsRow n) middle then later after row
    → Fails weights_line AreWeights later after fault → Fails reduction_lines (IsReduction n) ls taken fault
reduction_fails_third n ls taken middle then later after target row fault found reduced fails =
    pair_fails_second target_line (λ _. reduced_lines) (ArePowers n) (λ _. AreReduced n) reduction_lines (IsReduction n) _ _ (reduction_stand n) ls taken middle then target fault found
    (both_fails_second (row_line (codes "reduces ")) (λ _. weights_line) (IsRow n) (λ _. AreWeights) middle then later after row fault reduced fails)

pub reduction_found : (n : ℕ) (ls : List Line) (taken : ℕ) (middle : List Line) (then : ℕ) (later : List Line) (after : ℕ) (rest : List Line) (now : ℕ)
    (target : List ℤ) (row : List (List ℤ × ℕ)) (weights : List (ℕ × ℕ))
    → Found target_line (ArePowers n) ls taken middle then target → Found (row_line (codes "reduces ")) (IsRow n) middle then later after row
    → Found weights_line AreWeights later after rest now weights
    → Found reduction_lines (IsReduction n) ls taken rest now (record { target = target; reduced = row; weights = weights })
reduction_found n ls taken middle then later after rest now target row weights found reduced weighed =
    pair_found target_line (λ _. reduced_lines) (ArePowers n) (λ _. AreReduced n) reduction_lines (IsReduction n) _ _ (reduction_stand n) ls taken middle then rest now target (row, weights) found
    (both_found (row_line (codes "reduces ")) (λ _. weights_line) (IsRow n) (λ _. AreWeights) middle then later after rest now row weights reduced weighed)

-- the parts of a system

no_elements : {A : Type 0} (IsValue : A → Type 0) → (xs : List A) × AreCounted IsValue xs
no_elements {A} IsValue = ([], record { few = omega arith; each = tt })

some4 : (n : ℕ) → (p : List Reduction × Nothing) × Are4 n p
some4 n = let none = no_elements (IsReduction n) in ((none.0, tt), (none.1, tt))

some3 : (n : ℕ) → (p : List Written × (List Reduction × Nothing)) × Are3 n p
some3 n = let none = no_elements (IsRelation n) in let others = some4 n in ((none.0, others.0), (none.1, others.1))

some2 : (n : ℕ) → (p : List SectorBlock × (List Written × (List Reduction × Nothing))) × Are2 n p
some2 n = let none = no_elements (IsBlock n) in let others = some3 n in ((none.0, others.0), (none.1, others.1))

some1 : (n : ℕ) → (p : Behind) × Are1 n p
some1 n = let others = some2 n in ((some_name.0, others.0), (some_name.1, others.1))

module _ (n : ℕ) (fault : ReadSystemFault) where
  pub at_header : (ls : List Line) (taken : ℕ) → Fails (word_lines (codes "neatibp-system 1\n")) IsNothing ls taken fault → Fails system_lines (IsSystemValue n) ls taken fault
  at_header ls taken fails =
      pair_fails_first (word_lines (codes "neatibp-system 1\n")) (λ _. lines1) IsNothing (λ _. Are1 n) system_lines (IsSystemValue n) _ _ (system_stand n) (λ _ _. some1 n) ls taken fault fails

  pub behind_header : (ls : List Line) (taken : ℕ) (middle : List Line) (then : ℕ) → Found (word_lines (codes "neatibp-system 1\n")) IsNothing ls taken middle then tt
      → Fails lines1 (Are1 n) middle then fault → Fails system_lines (IsSystemValue n) ls taken fault
  behind_header ls taken middle then found fails =
      pair_fails_second (word_lines (codes "neatibp-system 1\n")) (λ _. lines1) IsNothing (λ _. Are1 n) system_lines (IsSystemValue n) _ _ (system_stand n) ls taken middle then tt fault found fails

  pub at_name : (ls : List Line) (taken : ℕ) → Fails name_line IsName ls taken fault → Fails lines1 (Are1 n) ls taken fault
  at_name ls taken fails = both_fails_first name_line (λ _. lines2) IsName (λ _. Are2 n) (λ _ _. some2 n) ls taken fault fails

  pub behind_name : (ls : List Line) (taken : ℕ) (middle : List Line) (then : ℕ) (name : List ℕ) → Found name_line IsName ls taken middle then name
      → Fails lines2 (Are2 n) middle then fault → Fails lines1 (Are1 n) ls taken fault
  behind_name ls taken middle then name found fails = both_fails_second name_line (λ _. lines2) IsName (λ _. Are2 n) ls taken middle then name fault found fails

  pub at_blocks : (ls : List Line) (taken : ℕ) → Fails blocks_lines (AreCounted (IsBlock n)) ls taken fault → Fails lines2 (Are2 n) ls taken fault
  at_blocks ls taken fails = both_fails_first blocks_lines (λ _. lines3) (AreCounted (IsBlock n)) (λ _. Are3 n) (λ _ _. some3 n) ls taken fault fails

  pub behind_blocks : (ls : List Line) (taken : ℕ) (middle : List Line) (then : ℕ) (blocks : List SectorBlock) → Found blocks_lines (AreCounted (IsBlock n)) ls taken middle then blocks
      → Fails lines3 (Are3 n) middle then fault → Fails lines2 (Are2 n) ls taken fault
  behind_blocks ls taken middle then blocks found fails = both_fails_second blocks_lines (λ _. lines3) (AreCounted (IsBlock n)) (λ _. Are3 n) ls taken middle then blocks fault found fails

  pub at_relations : (ls : List Line) (taken : ℕ) → Fails relations_lines (AreCounted (IsRelation n)) ls taken fault → Fails lines3 (Are3 n) ls taken fault
  at_relations ls taken fails = both_fails_first relations_lines (λ _. lines4) (AreCounted (IsRelation n)) (λ _. Are4 n) (λ _ _. some4 n) ls taken fault fails

  pub behind_relations : (ls : List Line) (taken : ℕ) (middle : List Line) (then : ℕ) (relations : List Written) → Found relations_lines (AreCounted (IsRelation n)) ls taken middle then relations
      → Fails lines4 (Are4 n) middle then fault → Fails lines3 (Are3 n) ls taken fault
  behind_relations ls taken middle then relations found fails =
      both_fails_second relations_lines (λ _. lines4) (AreCounted (IsRelation n)) (λ _. Are4 n) ls taken middle then relations fault found fails

  pub at_reductions : (ls : List Line) (taken : ℕ) → Fails reductions_lines (AreCounted (IsReduction n)) ls taken fault → Fails lines4 (Are4 n) ls taken fault
  at_reductions ls taken fails =
      both_fails_first reductions_lines (λ _. word_lines (codes "end\n")) (AreCounted (IsReduction n)) (λ _. IsNothing) (λ _ _. (tt, tt)) ls taken fault fails

  pub behind_reductions : (ls : List Line) (taken : ℕ) (middle : List Line) (then : ℕ) (reductions : List Reduction) → Found reductions_lines (AreCounted (IsReduction n)) ls taken middle then reductions
      → Fails (word_lines (codes "end\n")) IsNothing middle then fault → Fails lines4 (Are4 n) ls taken fault
  behind_reductions ls taken middle then reductions found fails =
      both_fails_second reductions_lines (λ _. word_lines (codes "end\n")) (AreCounted (IsReduction n)) (λ _. IsNothing) ls taken middle then reductions fault found fails

pub system_found : (n : ℕ) (l0 : List Line) (t0 : ℕ) (l1 : List Line) (t1 : ℕ) (l2 : List Line) (t2 : ℕ) (l3 : List Line) (t3 : ℕ) (l4 : List Line) (t4 : ℕ) (l5 : List Line) (t5 : ℕ) (l6 : List Line) (t6 : ℕ)
    (name : List ℕ) (blocks : List SectorBlock) (relations : List Written) (reductions : List Reduction)
    → Found (word_lines (codes "neatibp-system 1\n")) IsNothing l0 t0 l1 t1 tt → Found name_line IsName l1 t1 l2 t2 name
    → Found blocks_lines (AreCounted (IsBlock n)) l2 t2 l3 t3 blocks → Found relations_lines (AreCounted (IsRelation n)) l3 t3 l4 t4 relations
    → Found reductions_lines (AreCounted (IsReduction n)) l4 t4 l5 t5 reductions → Found (word_lines (codes "end\n")) IsNothing l5 t5 l6 t6 tt
    → Found system_lines (IsSystemValue n) l0 t0 l6 t6 (record { name = name; n = n; sectors = blocks; relations = relations; reductions = reductions })
system_found n l0 t0 l1 t1 l2 t2 l3 t3 l4 t4 l5 t5 l6 t6 name blocks relations reductions f0 f1 f2 f3 f4 f5 =
    pair_found (word_lines (codes "neatibp-system 1\n")) (λ _. lines1) IsNothing (λ _. Are1 n) system_lines (IsSystemValue n) (to_system n) from_system (system_stand n) l0 t0 l1 t1 l6 t6 tt
    (name, (blocks, (relations, (reductions, tt)))) f0
    (both_found name_line (λ _. lines2) IsName (λ _. Are2 n) l1 t1 l2 t2 l6 t6 name (blocks, (relations, (reductions, tt))) f1
    (both_found blocks_lines (λ _. lines3) (AreCounted (IsBlock n)) (λ _. Are3 n) l2 t2 l3 t3 l6 t6 blocks (relations, (reductions, tt)) f2
    (both_found relations_lines (λ _. lines4) (AreCounted (IsRelation n)) (λ _. Are4 n) l3 t3 l4 t4 l6 t6 relations (reductions, tt) f3
    (both_found reductions_lines (λ _. word_lines (codes "end\n")) (AreCounted (IsReduction n)) (λ _. IsNothing) l4 t4 l5 t5 l6 t6 reductions tt f4 f5))))
