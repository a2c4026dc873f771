-- The lines of the text of a system value.
use Rattle.std.proofs.Common.{◌≡◌, ℕ, suc, ◌+◌, ◌<◌, ◌≤◌, ◌^◌, ℤ, List, [], ◌∷◌, ◌++◌, length, refl, sym, ap, ◌∙◌, append_assoc, append-nil, arith}
use Rattle.std.specs.Prelude.{codes, decimal, ◌≤ℤ◌, neg_ℤ, pos}
use Rattle.std.specs.List.{flat_map, enumerate_from, list_all, AllByRecursion, All}
use Rattle.std.specs.Fmt.{signed_decimal}
use Rattle.std.proofs.lemmas.Int.{ints}
use Rattle.std.proofs.lemmas.List.Elements.{recursion_from_All}
use Rattle.std.proofs.lemmas.Nat.{pow_below}
use Rattle.mono_order.specs.declared.limits.TheConstants.{RUN_DEGREE, VARIABLES}
use Rattle.sector_lattice.specs.declared.sector.Sector.{Sector}
use Rattle.family.specs.declared.limits.TheConstants.{LEAST_POWER, GREATEST_POWER, FAMILY_NAME_LIMIT}
use Rattle.family.specs.Name.{is_between, is_name_byte}
use Rattle.family.specs.Shapes.{IsPolynomial, ArePowers}
use Rattle.family.specs.declared.parts.StrippedField.{StrippedField}
use Rattle.ibp_algebra.specs.Laurent.{power_at}
use Rattle.ibp_algebra.specs.Polynomial.{Polynomial}
use Rattle.line_reader.specs.Lines.{lines, worded}
use Rattle.line_reader.specs.Sections.{Line, each_from}
use Rattle.line_reader.proofs.Digits.{second_passes}
use Rattle.system_text.specs.Texts.{joined, monomial_text, poly_term_text, poly_text, integral_text, row_term_text, row_text}
use Rattle.system_text.specs.Systems.{line, count_line, numbered, field_text, block_text, relation_text, weight_text, weights_text, reduction_text, system_text}
use Rattle.system_text.specs.Polynomials.{IsPolyTerm}
use Rattle.system_text.specs.Integrals.{IsRowTerm}
use Rattle.system_text.specs.SystemValues.{IsStripped, IsBlock, IsRelation, IsReduction, IsRow, IsWeight, AreWeights, IsSystemValue}
use Rattle.system_text.specs.SystemLines.{field_body, field_lines, heading_body, block_lines, Origin, origin_body, IsOrigin, relation_lines, reduction_lines, system_lines}
use Rattle.system_text.specs.declared.value.SectorBlock.{SectorBlock}
use Rattle.system_text.specs.declared.value.Written.{Written}
use Rattle.system_text.specs.declared.value.Reduction.{Reduction}
use Rattle.system_text.specs.declared.value.System.{System}
use Rattle.system_text.proofs.Sums.{each_term, each_row_term}
use Rattle.system_text.proofs.LineEnds.{Inside, inside_append, inside_decimal, inside_name, inside_signed, inside_joined, inside_sum, inside_powers, first_lines}

abbrev pub LinesOf : List ℕ → List Line → Type 0
LinesOf text ls = (rest : List ℕ) → lines (text ++ rest) ≡ ls ++ lines rest

of_append : (text more : List ℕ) (ls others : List Line) → LinesOf text ls → LinesOf more others → LinesOf (text ++ more) (ls ++ others)
of_append text more ls others p q rest =
    ap lines (append_assoc text more rest) ∙ p (more ++ rest) ∙ ap (λ (t : List Line). ls ++ t) (q rest) ∙ sym (append_assoc ls others (lines rest))

of_flat : {A : Type 0} (text : A → List ℕ) (to : A → List Line) (P : A → Type 0) → ((a : A) → P a → LinesOf (text a) (to a))
    → (k : ℕ) (xs : List A) → AllByRecursion P xs → LinesOf (flat_map text xs) (each_from (λ _. to) k xs)
of_flat text to P each k [] are rest = refl
of_flat text to P each k (x ∷ xs) are rest =
    of_append (text x) (flat_map text xs) (to x) (each_from (λ _. to) (suc k) xs) (each x are.0) (of_flat text to P each (suc k) xs are.1) rest

of_numbered : {A : Type 0} (text : ℕ → A → List ℕ) (to : ℕ → A → List Line) (P : A → Type 0) → ((j : ℕ) (a : A) → j < 2 ^ 64 → P a → LinesOf (text j a) (to j a))
    → (k : ℕ) (xs : List A) → k + length xs < 2 ^ 64 → AllByRecursion P xs → LinesOf (flat_map (λ e. text e.0 e.1) (enumerate_from k xs)) (each_from to k xs)
of_numbered text to P each k [] small are rest = refl
of_numbered {A} text to P each k (x ∷ xs) small are rest =
    let up : k + 1 ≡ suc k = omega arith in
    ap (λ m. lines ((text k x ++ flat_map (λ e. text e.0 e.1) (enumerate_from {X = A} m xs)) ++ rest)) up
    ∙ of_append (text k x) (flat_map (λ e. text e.0 e.1) (enumerate_from (suc k) xs)) (to k x) (each_from to (suc k) xs) (each k x (omega (arith, small)) are.0)
    (of_numbered text to P each (suc k) xs (omega (arith, small)) are.1) rest

inside_term : (n : ℕ) (t : List ℕ × ℕ) → IsPolyTerm n t → Inside (poly_term_text t)
inside_term n t is =
    let long : length t.0 ≡ VARIABLES = is.monomial.variables.each_variable in
    inside_append (decimal t.1) (monomial_text t.0) (inside_decimal t.1 (omega (arith, is.residue))) (inside_powers 1 t.0 (omega (arith, long)) is.monomial.degree)

inside_poly : (n : ℕ) (p : Polynomial) → IsPolynomial n RUN_DEGREE p → Inside (poly_text p)
inside_poly n p is =
    inside_sum poly_term_text (codes " + ") (IsPolyTerm n) (inside_term n) refl p (each_term n p is.canonical is.variables is.degree_within)

by_recursion : {A : Type 0} (P : A → Type 0) (xs : List A) → All P xs → AllByRecursion P xs
by_recursion P xs are = recursion_from_All P xs are

-- powers of at most four digits
abbrev IsNarrow : ℤ → Type 0
IsNarrow z = (neg_ℤ (pos (2 ^ 16)) ≤ℤ z) × (z ≤ℤ pos (2 ^ 16))

inside_integral : (powers : List ℤ) → AllByRecursion IsNarrow powers → Inside (integral_text powers)
inside_integral powers are =
    inside_append (codes "[" ++ joined signed_decimal (codes ",") powers) (codes "]")
    (inside_append (codes "[") (joined signed_decimal (codes ",") powers) refl (inside_joined signed_decimal (codes ",") IsNarrow (λ z is. inside_signed z is.0 is.1) refl powers are)) refl

seed_powers : (powers : List ℤ) → ((i : ℕ) → LEAST_POWER ≤ℤ power_at powers i) → ((i : ℕ) → power_at powers i ≤ℤ GREATEST_POWER) → AllByRecursion IsNarrow powers
seed_powers [] low high = tt
seed_powers (z ∷ powers) low high =
    let l : LEAST_POWER ≤ℤ z = low 0 in
    let h : z ≤ℤ GREATEST_POWER = high 0 in
    ((omega (arith, ints), omega (arith, ints)), seed_powers powers (λ i. low (suc i)) (λ i. high (suc i)))

inside_seed : (n : ℕ) (powers : List ℤ) → ArePowers n powers → Inside (integral_text powers)
inside_seed n powers are = inside_integral powers (seed_powers powers are.low are.high)

small_powers : (powers : List ℤ) → AllByRecursion (λ power. (neg_ℤ (pos 1200) ≤ℤ power) × (power ≤ℤ pos 1200)) powers → AllByRecursion IsNarrow powers
small_powers [] are = tt
small_powers (z ∷ powers) are =
    let l : neg_ℤ (pos 1200) ≤ℤ z = are.0.0 in
    let h : z ≤ℤ pos 1200 = are.0.1 in
    ((omega (arith, ints), omega (arith, ints)), small_powers powers are.1)

inside_row_term : (n : ℕ) (t : List ℤ × ℕ) → IsRowTerm n t → Inside (row_term_text t)
inside_row_term n t is =
    inside_append (decimal t.1 ++ codes "*I") (integral_text t.0) (inside_append (decimal t.1) (codes "*I") (inside_decimal t.1 (omega (arith, is.residue))) refl)
    (inside_integral t.0 (small_powers t.0 (by_recursion _ t.0 is.integral.small)))

inside_row : (n : ℕ) (row : List (List ℤ × ℕ)) → IsRow n row → Inside (row_text row)
inside_row n row is = inside_sum row_term_text (codes " ") (IsRowTerm n) (inside_row_term n) refl row (each_row_term n row is.canonical is.integrals)

inside_weight : (weight : ℕ × ℕ) → IsWeight weight → Inside (weight_text weight)
inside_weight weight is =
    inside_append (decimal weight.0 ++ codes ":") (decimal weight.1)
    (inside_append (decimal weight.0) (codes ":") (inside_decimal weight.0 (omega (arith, is.few))) refl) (inside_decimal weight.1 (omega (arith, is.residue)))

inside_weights : (weights : List (ℕ × ℕ)) → AreWeights weights → Inside (weights_text weights)
inside_weights [] are = refl
inside_weights (w ∷ weights) are = inside_joined weight_text (codes " ") IsWeight inside_weight refl (w ∷ weights) are.each

inside_field : (n k : ℕ) (field : StrippedField) → k < 2 ^ 64 → IsStripped n field → Inside (field_body k field)
inside_field n k field small is =
    inside_append (((decimal k ++ codes ": ") ++ joined poly_text (codes ", ") field.c) ++ codes " ; ") (poly_text field.b)
    (inside_append ((decimal k ++ codes ": ") ++ joined poly_text (codes ", ") field.c) (codes " ; ")
    (inside_append (decimal k ++ codes ": ") (joined poly_text (codes ", ") field.c)
    (inside_append (decimal k) (codes ": ") (inside_decimal k small) refl)
    (inside_joined poly_text (codes ", ") (IsPolynomial n RUN_DEGREE) (inside_poly n) refl field.c (by_recursion (IsPolynomial n RUN_DEGREE) field.c is.polynomials)))
    refl)
    (inside_poly n field.b is.factor)

of_field : (n k : ℕ) (field : StrippedField) → k < 2 ^ 64 → IsStripped n field → LinesOf (field_text k field) (field_lines k field)
of_field n k field small is rest = first_lines (codes "field " ++ field_body k field) rest (inside_append (codes "field ") (field_body k field) refl (inside_field n k field small is))

inside_heading : (heading : Sector × ℕ) → heading.0.0 < 2 ^ 64 → heading.1 < 2 ^ 64 → Inside (heading_body heading)
inside_heading heading small few =
    inside_append (decimal heading.0.0 ++ codes " fields ") (decimal heading.1)
    (inside_append (decimal heading.0.0) (codes " fields ") (inside_decimal heading.0.0 small) refl) (inside_decimal heading.1 few)

small_sector : (s n : ℕ) → n ≤ 12 → s < 2 ^ n → s < 2 ^ 64
small_sector s n few below = omega (arith, below, pow_below n 13 (omega arith))

of_block : (n : ℕ) (block : SectorBlock) → n ≤ 12 → IsBlock n block → LinesOf (block_text block) (block_lines block)
of_block n block low is =
    let heading : Sector × ℕ = (block.sector, length block.fields) in
    of_append (line (codes "sector " ++ heading_body heading)) (numbered field_text block.fields) (worded (codes "sector ") (heading_body heading) ∷ []) (each_from field_lines 1 block.fields)
    (λ rest. first_lines (codes "sector " ++ heading_body heading) rest
    (inside_append (codes "sector ") (heading_body heading) refl (inside_heading heading (small_sector block.sector.0 n low is.sector) (omega (arith, is.few)))))
    (of_numbered field_text field_lines (IsStripped n) (λ j a small are. of_field n j a small are) 1 block.fields (omega (arith, is.few)) is.fields)

inside_origin : (n k : ℕ) (o : Origin) → n ≤ 12 → k < 2 ^ 64 → IsOrigin n o → Inside (origin_body k o)
inside_origin n k o low small is =
    inside_append (((((decimal k ++ codes ": sector ") ++ decimal o.0.0) ++ codes " seed ") ++ integral_text o.1) ++ codes " field ") (decimal o.2)
    (inside_append ((((decimal k ++ codes ": sector ") ++ decimal o.0.0) ++ codes " seed ") ++ integral_text o.1) (codes " field ")
    (inside_append (((decimal k ++ codes ": sector ") ++ decimal o.0.0) ++ codes " seed ") (integral_text o.1)
    (inside_append ((decimal k ++ codes ": sector ") ++ decimal o.0.0) (codes " seed ")
    (inside_append (decimal k ++ codes ": sector ") (decimal o.0.0)
    (inside_append (decimal k) (codes ": sector ") (inside_decimal k small) refl)
    (inside_decimal o.0.0 (small_sector o.0.0 n low is.sector)))
    refl)
    (inside_seed n o.1 is.seed))
    refl)
    (inside_decimal o.2 (omega (arith, is.small)))

of_row : (n : ℕ) (row : List (List ℤ × ℕ)) (word : List ℕ) → Inside word → IsRow n row → LinesOf ((word ++ row_text row) ++ 10 ∷ []) (worded word (row_text row) ∷ [])
of_row n row word parted is rest =
    first_lines (word ++ row_text row) rest (inside_append word (row_text row) parted (inside_row n row is))
    ∙ ap (λ (l : Line). l ∷ lines rest) (append_assoc word (row_text row) (10 ∷ []))

of_relation : (n k : ℕ) (r : Written) → n ≤ 12 → k < 2 ^ 64 → IsRelation n r → LinesOf (relation_text k r) (relation_lines k r)
of_relation n k r low small is =
    let o : Origin = (r.sector, r.seed, r.field) in
    of_append (line (codes "relation " ++ origin_body k o)) (line (codes "row " ++ row_text r.row)) (worded (codes "relation ") (origin_body k o) ∷ []) (worded (codes "row ") (row_text r.row) ∷ [])
    (λ rest. first_lines (codes "relation " ++ origin_body k o) rest
    (inside_append (codes "relation ") (origin_body k o) refl
    (inside_origin n k o low small (record { sector = is.sector; seed = is.seed; field = is.field; small = is.small }))))
    (of_row n r.row (codes "row ") refl is.row)

of_reduction : (n : ℕ) (r : Reduction) → IsReduction n r → LinesOf (reduction_text r) (reduction_lines r)
of_reduction n r is =
    let target = codes "target " ++ integral_text r.target in
    let weights = codes "weights " ++ weights_text r.weights in
    of_append (line target ++ line (codes "reduces " ++ row_text r.reduced)) (line weights)
    (worded (codes "target ") (integral_text r.target) ∷ worded (codes "reduces ") (row_text r.reduced) ∷ []) (worded (codes "weights ") (weights_text r.weights) ∷ [])
    (of_append (line target) (line (codes "reduces " ++ row_text r.reduced)) (worded (codes "target ") (integral_text r.target) ∷ []) (worded (codes "reduces ") (row_text r.reduced) ∷ [])
    (λ rest. first_lines target rest (inside_append (codes "target ") (integral_text r.target) refl (inside_seed n r.target is.target)))
    (of_row n r.reduced (codes "reduces ") refl is.reduced))
    (λ rest. first_lines weights rest (inside_append (codes "weights ") (weights_text r.weights) refl (inside_weights r.weights is.weights)))

of_count : (word : List ℕ) (count : ℕ) → Inside word → count < 2 ^ 64 → LinesOf ((word ++ decimal count) ++ 10 ∷ []) (worded word (decimal count) ∷ [])
of_count word count parted few rest =
    first_lines (word ++ decimal count) rest (inside_append word (decimal count) parted (inside_decimal count few))
    ∙ ap (λ (l : Line). l ∷ lines rest) (append_assoc word (decimal count) (10 ∷ []))

last_two : (R : List Line) (y : Line) (D e : List Line) → ((R ++ y ∷ []) ++ D) ++ e ≡ R ++ (y ∷ (D ++ e))
last_two [] y D e = refl
last_two (r ∷ R) y D e = ap (λ (t : List Line). r ∷ t) (last_two R y D e)

regroup : (B : List Line) (x : Line) (R : List Line) (y : Line) (D e : List Line) → ((((B ++ x ∷ []) ++ R) ++ y ∷ []) ++ D) ++ e ≡ B ++ (x ∷ (R ++ (y ∷ (D ++ e))))
regroup [] x R y D e = ap (λ (t : List Line). x ∷ t) (last_two R y D e)
regroup (b ∷ B) x R y D e = ap (λ (t : List Line). b ∷ t) (regroup B x R y D e)

abbrev text1 : System → List ℕ
text1 s = line (codes "neatibp-system 1") ++ line (codes "family " ++ s.name)

abbrev text2 : System → List ℕ
text2 s = text1 s ++ count_line (codes "sectors") s.sectors

abbrev text3 : System → List ℕ
text3 s = text2 s ++ flat_map block_text s.sectors

abbrev text4 : System → List ℕ
text4 s = text3 s ++ count_line (codes "relations") s.relations

abbrev text5 : System → List ℕ
text5 s = text4 s ++ numbered relation_text s.relations

abbrev text6 : System → List ℕ
text6 s = text5 s ++ count_line (codes "targets") s.reductions

abbrev text7 : System → List ℕ
text7 s = text6 s ++ flat_map reduction_text s.reductions

abbrev lines1 : System → List Line
lines1 s = codes "neatibp-system 1\n" ∷ worded (codes "family ") s.name ∷ []

abbrev lines2 : System → List Line
lines2 s = lines1 s ++ worded (codes "sectors ") (decimal (length s.sectors)) ∷ []

abbrev lines3 : System → List Line
lines3 s = lines2 s ++ each_from (λ _. block_lines) 1 s.sectors

abbrev lines4 : System → List Line
lines4 s = lines3 s ++ worded (codes "relations ") (decimal (length s.relations)) ∷ []

abbrev lines5 : System → List Line
lines5 s = lines4 s ++ each_from relation_lines 1 s.relations

abbrev lines6 : System → List Line
lines6 s = lines5 s ++ worded (codes "targets ") (decimal (length s.reductions)) ∷ []

abbrev lines7 : System → List Line
lines7 s = lines6 s ++ each_from (λ _. reduction_lines) 1 s.reductions

all_lines : (n : ℕ) (s : System) → n ≤ 12 → IsSystemValue n s → LinesOf (system_text s) (lines7 s ++ codes "end\n" ∷ [])
all_lines n s low is =
    let inside : Inside s.name = inside_name s.name (second_passes (is_between 1 FAMILY_NAME_LIMIT (length s.name)) (list_all is_name_byte s.name) is.name) in
    let one : LinesOf (text1 s) (lines1 s)
    = of_append (line (codes "neatibp-system 1")) (line (codes "family " ++ s.name)) (codes "neatibp-system 1\n" ∷ []) (worded (codes "family ") s.name ∷ [])
    (λ rest. first_lines (codes "neatibp-system 1") rest refl)
    (λ rest. first_lines (codes "family " ++ s.name) rest (inside_append (codes "family ") s.name refl inside)) in
    let two : LinesOf (text2 s) (lines2 s)
    = of_append (text1 s) (count_line (codes "sectors") s.sectors) (lines1 s) (worded (codes "sectors ") (decimal (length s.sectors)) ∷ []) one
    (of_count (codes "sectors ") (length s.sectors) refl (omega (arith, is.few_sectors))) in
    let three : LinesOf (text3 s) (lines3 s)
    = of_append (text2 s) (flat_map block_text s.sectors) (lines2 s) (each_from (λ _. block_lines) 1 s.sectors) two
    (of_flat block_text block_lines (IsBlock n) (λ b are. of_block n b low are) 1 s.sectors is.sectors) in
    let four : LinesOf (text4 s) (lines4 s)
    = of_append (text3 s) (count_line (codes "relations") s.relations) (lines3 s) (worded (codes "relations ") (decimal (length s.relations)) ∷ []) three
    (of_count (codes "relations ") (length s.relations) refl (omega (arith, is.few_relations))) in
    let five : LinesOf (text5 s) (lines5 s)
    = of_append (text4 s) (numbered relation_text s.relations) (lines4 s) (each_from relation_lines 1 s.relations) four
    (of_numbered relation_text relation_lines (IsRelation n) (λ j a small are. of_relation n j a low small are) 1 s.relations (omega (arith, is.few_relations)) is.relations) in
    let six : LinesOf (text6 s) (lines6 s)
    = of_append (text5 s) (count_line (codes "targets") s.reductions) (lines5 s) (worded (codes "targets ") (decimal (length s.reductions)) ∷ []) five
    (of_count (codes "targets ") (length s.reductions) refl (omega (arith, is.few_reductions))) in
    let seven : LinesOf (text7 s) (lines7 s)
    = of_append (text6 s) (flat_map reduction_text s.reductions) (lines6 s) (each_from (λ _. reduction_lines) 1 s.reductions) six
    (of_flat reduction_text reduction_lines (IsReduction n) (λ r are. of_reduction n r are) 1 s.reductions is.reductions) in
    of_append (text7 s) (line (codes "end")) (lines7 s) (codes "end\n" ∷ []) seven (λ rest. first_lines (codes "end") rest refl)

no_line : lines [] ≡ []
unfolding lines
no_line = refl

pub lines_of_system : (n : ℕ) (s : System) → n ≤ 12 → IsSystemValue n s → lines (system_text s) ≡ system_lines s
lines_of_system n s low is =
    ap lines (sym (append-nil (system_text s))) ∙ all_lines n s low is []
    ∙ ap (λ (t : List Line). (lines7 s ++ codes "end\n" ∷ []) ++ t) no_line ∙ append-nil (lines7 s ++ codes "end\n" ∷ [])
    ∙ ap (λ (t : List Line). codes "neatibp-system 1\n" ∷ worded (codes "family ") s.name ∷ worded (codes "sectors ") (decimal (length s.sectors)) ∷ t)
    (regroup (each_from (λ _. block_lines) 1 s.sectors) (worded (codes "relations ") (decimal (length s.relations))) (each_from relation_lines 1 s.relations)
    (worded (codes "targets ") (decimal (length s.reductions))) (each_from (λ _. reduction_lines) 1 s.reductions) (codes "end\n" ∷ []))
