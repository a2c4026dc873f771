-- Each line of a system's text is that of one value at most.
use Rattle.std.proofs.Common.{◌≡◌, ℕ, ◌<◌, ◌≤◌, ◌^◌, List, [], ◌∷◌, ◌++◌, refl, sym, ap₂, ◌∙◌, append_assoc, arith}
use Rattle.std.specs.Prelude.{codes, decimal}
use Rattle.std.proofs.lemmas.List.{append_cancel_left, append_cancel_right}
use Rattle.mono_order.specs.declared.limits.TheConstants.{RUN_DEGREE}
use Rattle.sector_lattice.specs.declared.sector.Sector.{Sector}
use Rattle.family.specs.Shapes.{IsPolynomial, ArePowers}
use Rattle.family.specs.declared.parts.StrippedField.{StrippedField}
use Rattle.line_reader.specs.Fronts.{EndsNumber}
use Rattle.line_reader.specs.Lines.{worded}
use Rattle.line_reader.specs.Sections.{IsOnly, one_line}
use Rattle.line_reader.proofs.SectionLaws.{line_only}
use Rattle.system_text.specs.Texts.{poly_text, integral_text}
use Rattle.system_text.specs.Systems.{weight_text, weights_text}
use Rattle.system_text.specs.Polynomials.{EndsPoly}
use Rattle.system_text.specs.SystemValues.{IsWeight, AreWeights, IsStripped}
use Rattle.system_text.specs.SystemLines.{IsCount, heading_body, IsHeading, field_body, Origin, origin_body, IsOrigin}
use Rattle.system_text.proofs.Cuts.{heading_cut, polys_cut, field_cut, number_cut, origin_cut, small_sector, apart, line_ends_poly, factor_ends_poly, PolysParts, polys_parts, narrow_is, same_origin, same_field, weights_none}
use Rattle.system_text.proofs.Standing.{IsName}
use Rattle.system_check.proofs.FrontTexts.{IsFront, IsNarrow, number_front, number_word, EndsList, entries_front}
use Rattle.system_check.proofs.OneTerm.{poly_front, integral_front}

-- a body behind which its line ends
abbrev pub IsOne : {A : Type 0} → (A → List ℕ) → (A → Type 0) → Type 0
IsOne {A} body IsValue = (a b : A) → IsValue a → IsValue b → body a ++ 10 ∷ [] ≡ body b ++ 10 ∷ [] → a ≡ b

pub worded_only : {A : Type 0} (word : List ℕ) (body : A → List ℕ) (IsValue : A → Type 0) → IsOne body IsValue
    → (a : A) → IsValue a → IsOnly (one_line (λ (x : A). worded word (body x))) IsValue a
worded_only {A} word body IsValue one a is =
    line_only (λ (x : A). worded word (body x)) IsValue a
    (λ b is_b e. sym (one a b is is_b (append_cancel_left word (body a ++ 10 ∷ []) (body b ++ 10 ∷ []) e)))

pub one_name : IsOne (λ (name : List ℕ). name) IsName
one_name a b is is_b e = append_cancel_right a b (10 ∷ []) e

-- a number at the end of a line
last_number : (a b : ℕ) → IsNarrow a → IsNarrow b → decimal a ++ 10 ∷ [] ≡ decimal b ++ 10 ∷ [] → a ≡ b
last_number a b small small_b e = (number_front a b (10 ∷ []) (10 ∷ []) small small_b refl refl e).0

pub one_count : (n : ℕ) → IsOne decimal (IsCount n)
one_count n a b is is_b e = last_number a b is is_b e

abbrev heading_of : ℕ → ℕ → Sector × ℕ
heading_of s k = (record { 0 = s }, k)

narrow_sector : (n s : ℕ) → n ≤ 12 → s < 2 ^ n → IsNarrow s
narrow_sector n s low is = let small = small_sector s n low is in omega (arith, small)

pub one_heading : (n : ℕ) → n ≤ 12 → IsOne heading_body (IsHeading n)
one_heading n low a b is is_b e =
    let first = number_word (codes " fields ") a.0.0 b.0.0 (decimal a.1 ++ 10 ∷ []) (decimal b.1 ++ 10 ∷ []) (λ _. refl)
    (narrow_sector n a.0.0 low is.sector) (narrow_sector n b.0.0 low is_b.sector)
    (sym (heading_cut a (heading_body a ++ 10 ∷ []) refl) ∙ heading_cut b (heading_body a ++ 10 ∷ []) e) in
    ap₂ heading_of first.0 (last_number a.1 b.1 is.few is_b.few first.1)

comma_ends_poly : (r : List ℕ) → EndsPoly (codes ", " ++ r)
comma_ends_poly r = record { term = refl; no_more = λ t. apart 44 32 (32 ∷ r) (43 ∷ 32 ∷ t) (omega arith) }

factor_ends : (r : List ℕ) → EndsList (codes ", ") EndsPoly (codes " ; " ++ r)
factor_ends r = record { entry = factor_ends_poly r; no_more = λ t. apart 32 44 (59 ∷ 32 ∷ r) (32 ∷ t) (omega arith) }

one_polys : (n : ℕ) → 1 ≤ n → (f g : StrippedField) → IsStripped n f → IsStripped n g → polys_cut f ≡ polys_cut g → f ≡ g
one_polys n some f g is is_g e = by (polys_parts n f (polys_cut f) some is refl) (polys_parts n g (polys_cut f) some is_g e)
  where
    by : PolysParts n f (polys_cut f) → PolysParts n g (polys_cut f) → f ≡ g
    by p q =
        let factor = poly_text f.b ++ 10 ∷ [] in
        let factor_g = poly_text g.b ++ 10 ∷ [] in
        let first = entries_front poly_text (codes ", ") EndsPoly (IsPolynomial n RUN_DEGREE) (poly_front n) comma_ends_poly p.p q.p p.ps q.ps (codes " ; " ++ factor) (codes " ; " ++ factor_g)
        (p.first, p.others) (q.first, q.others) (factor_ends factor) (factor_ends factor_g) (sym p.front ∙ q.front) in
        let last = poly_front n f.b g.b (10 ∷ []) (10 ∷ []) is.factor is_g.factor line_ends_poly line_ends_poly (append_cancel_left (codes " ; ") factor factor_g first.1) in
        same_field f.c f.b g (p.is ∙ first.0 ∙ sym q.is) last.0

pub one_field : (n k : ℕ) → 1 ≤ n → IsOne (field_body k) (IsStripped n)
one_field n k some f g is is_g e =
    let behind = append_cancel_left (decimal k) (codes ": " ++ polys_cut f) (codes ": " ++ polys_cut g)
    (sym (field_cut k f (field_body k f ++ 10 ∷ []) refl) ∙ field_cut k g (field_body k f ++ 10 ∷ []) e) in
    one_polys n some f g is is_g (append_cancel_left (codes ": ") (polys_cut f) (polys_cut g) behind)

abbrev seed_cut : Origin → List ℕ
seed_cut o = integral_text o.1 ++ number_cut o

abbrev sector_cut : Origin → List ℕ
sector_cut o = decimal o.0.0 ++ (codes " seed " ++ seed_cut o)

pub one_origin : (n k : ℕ) → 1 ≤ n → n ≤ 12 → IsOne (origin_body k) (IsOrigin n)
one_origin n k some low a b is is_b e =
    let behind = append_cancel_left (decimal k) (codes ": sector " ++ sector_cut a) (codes ": sector " ++ sector_cut b)
    (sym (origin_cut k a (origin_body k a ++ 10 ∷ []) refl) ∙ origin_cut k b (origin_body k a ++ 10 ∷ []) e) in
    let sector = number_word (codes " seed ") a.0.0 b.0.0 (seed_cut a) (seed_cut b) (λ _. refl) (narrow_sector n a.0.0 low is.sector) (narrow_sector n b.0.0 low is_b.sector)
    (append_cancel_left (codes ": sector ") (sector_cut a) (sector_cut b) behind) in
    let seed = integral_front n some a.1 b.1 (number_cut a) (number_cut b) (narrow_is n a.1 is.seed) (narrow_is n b.1 is_b.seed) tt tt sector.1 in
    let field = last_number a.2 b.2 is.small is_b.small (append_cancel_left (codes " field ") (decimal a.2 ++ 10 ∷ []) (decimal b.2 ++ 10 ∷ []) seed.1) in
    same_origin a.0 a.1 a.2 b sector.0 seed.0 field

pub one_target : (n : ℕ) → 1 ≤ n → IsOne integral_text (ArePowers n)
one_target n some a b is is_b e = (integral_front n some a b (10 ∷ []) (10 ∷ []) (narrow_is n a is) (narrow_is n b is_b) tt tt e).0

weight_front : IsFront weight_text EndsNumber IsWeight
weight_front a b r s is is_b ends ends_b e =
    let number = number_word (codes ":") a.0 b.0 (decimal a.1 ++ r) (decimal b.1 ++ s) (λ _. refl) is.few is_b.few (sym (cut a r) ∙ e ∙ cut b s) in
    let residue = number_front a.1 b.1 r s (omega (arith, is.residue)) (omega (arith, is_b.residue)) ends ends_b number.1 in
    (ap₂ (λ (k c : ℕ). (k, c)) number.0 residue.0, residue.1)
  where
    cut : (w : ℕ × ℕ) (rest : List ℕ) → weight_text w ++ rest ≡ decimal w.0 ++ (codes ":" ++ (decimal w.1 ++ rest))
    cut w rest = append_assoc (decimal w.0 ++ codes ":") (decimal w.1) rest ∙ append_assoc (decimal w.0) (codes ":") (decimal w.1 ++ rest)

weights_end : EndsList (codes " ") EndsNumber (10 ∷ [])
weights_end = record { entry = refl; no_more = λ r. apart 10 32 [] r (omega arith) }

pub one_weights : IsOne weights_text AreWeights
one_weights [] b are are_b e = sym (weights_none b (weights_text [] ++ 10 ∷ []) are_b e refl)
one_weights (w ∷ a) [] are are_b e = weights_none (w ∷ a) (weights_text (w ∷ a) ++ 10 ∷ []) are refl e
one_weights (w ∷ a) (v ∷ b) are are_b e =
    (entries_front weight_text (codes " ") EndsNumber IsWeight weight_front (λ _. refl) w v a b (10 ∷ []) (10 ∷ []) are.each are_b.each weights_end weights_end e).0
