-- Values whose lines are sections one after the other.
use Rattle.std.proofs.Common.{◌≡◌, ℕ, ◌<◌, ◌^◌, List, ◌∷◌, length, refl, sym, ap, arith, true}
use Rattle.std.specs.Prelude.{codes, decimal, ℤ}
use Rattle.sector_lattice.specs.declared.sector.Sector.{Sector}
use Rattle.family.specs.Name.{is_name}
use Rattle.family.specs.Shapes.{ArePowers}
use Rattle.line_reader.specs.Lines.{worded}
use Rattle.line_reader.specs.Sections.{Line, one_line, both, AreBoth, each_from, AreMany}
use Rattle.line_reader.proofs.SectionLaws.{StandFor}
use Rattle.system_text.specs.Texts.{integral_text, row_text}
use Rattle.system_text.specs.Systems.{weights_text}
use Rattle.system_text.specs.SystemValues.{IsStripped, IsBlock, IsRelation, IsReduction, IsRow, AreWeights, IsSystemValue}
use Rattle.system_text.specs.SystemLines.{IsCount, counted_lines, AreCounted, heading_body, IsHeading, field_lines, block_lines, Origin, origin_body, IsOrigin, relation_lines, reduction_lines, blocks_lines, relations_lines, reductions_lines, name_line, system_lines}
use Rattle.system_text.specs.declared.value.SectorBlock.{SectorBlock}
use Rattle.system_text.specs.declared.value.Written.{Written}
use Rattle.system_text.specs.declared.value.Reduction.{Reduction}
use Rattle.system_text.specs.declared.value.System.{System}

pub counted_stand : {A : Type 0} (word : List ℕ) (text : ℕ → A → List Line) (IsValue : A → Type 0) (n : ℕ)
    → StandFor (both (one_line (λ (c : ℕ). worded word (decimal c))) (λ _. each_from text 1)) (AreBoth (IsCount n) (λ c. AreMany IsValue c))
    (counted_lines word text) (AreCounted IsValue) (λ p. p.1) (λ xs. (length xs, xs))
counted_stand {A} word text IsValue n =
    record {
      forth = λ p is.
          let size : length p.1 ≡ p.0 = is.1.0 in
          let few : p.0 < 2 ^ 32 = is.0 in
          (record { few = omega arith; each = is.1.1 }, ap (λ k. worded word (decimal k) ∷ each_from text 1 p.1) size);
      back = λ xs is. ((is.few, (refl, is.each)), refl);
      again = λ xs is. refl;
    }

abbrev pub heading_line : Sector × ℕ → List Line
heading_line = one_line (λ h. worded (codes "sector ") (heading_body h))

pub block_stand : (n : ℕ) → StandFor (both heading_line (λ _. each_from field_lines 1)) (AreBoth (IsHeading n) (λ h. AreMany (IsStripped n) h.1))
    block_lines (IsBlock n) (λ p. record { sector = p.0.0; fields = p.1 }) (λ b. ((b.sector, length b.fields), b.fields))
block_stand n =
    record {
      forth = λ p is.
          let size : length p.1 ≡ p.0.1 = is.1.0 in
          let few : p.0.1 < 2 ^ 32 = is.0.few in (
            record { sector = is.0.sector; few = omega arith; fields = is.1.1 },
            ap (λ k. worded (codes "sector ") (heading_body (p.0.0, k)) ∷ each_from field_lines 1 p.1) size,
          );
      back = λ b is. ((record { sector = is.sector; few = is.few }, (refl, is.fields)), refl);
      again = λ b is. refl;
    }

abbrev pub origin_line : ℕ → Origin → List Line
origin_line k = one_line (λ o. worded (codes "relation ") (origin_body k o))

abbrev pub row_line : List ℕ → List (List ℤ × ℕ) → List Line
row_line word = one_line (λ row. worded word (row_text row))

pub relation_stand : (n k : ℕ) → StandFor (both (origin_line k) (λ _. row_line (codes "row "))) (AreBoth (IsOrigin n) (λ _. IsRow n))
    (relation_lines k) (IsRelation n) (λ p. record { sector = p.0.0; seed = p.0.1; field = p.0.2; row = p.1 }) (λ r. ((r.sector, r.seed, r.field), r.row))
relation_stand n k =
    record {
      forth = λ p is. (record { sector = is.0.sector; seed = is.0.seed; field = is.0.field; small = is.0.small; row = is.1 }, refl);
      back = λ r is. ((record { sector = is.sector; seed = is.seed; field = is.field; small = is.small }, is.row), refl);
      again = λ r is. refl;
    }

abbrev pub target_line : List ℤ → List Line
target_line = one_line (λ powers. worded (codes "target ") (integral_text powers))

abbrev pub weights_line : List (ℕ × ℕ) → List Line
weights_line = one_line (λ weights. worded (codes "weights ") (weights_text weights))

abbrev pub reduced_lines : List (List ℤ × ℕ) × List (ℕ × ℕ) → List Line
reduced_lines = both (row_line (codes "reduces ")) (λ _. weights_line)

abbrev pub AreReduced : ℕ → List (List ℤ × ℕ) × List (ℕ × ℕ) → Type 0
AreReduced n = AreBoth (IsRow n) (λ _. AreWeights)

pub reduction_stand : (n : ℕ) → StandFor (both target_line (λ _. reduced_lines)) (AreBoth (ArePowers n) (λ _. AreReduced n))
    reduction_lines (IsReduction n) (λ p. record { target = p.0; reduced = p.1.0; weights = p.1.1 }) (λ r. (r.target, (r.reduced, r.weights)))
reduction_stand n =
    record {
      forth = λ p is. (record { target = is.0; reduced = is.1.0; weights = is.1.1 }, refl);
      back = λ r is. ((is.target, (is.reduced, is.weights)), refl);
      again = λ r is. refl;
    }

-- the parts of a system, from the last one on
abbrev pub Nothing : Type 0
Nothing = Unit {0}

abbrev pub IsNothing : Nothing → Type 0
IsNothing _ = Unit {0}

abbrev pub word_lines : List ℕ → Nothing → List Line
word_lines word = one_line (λ _. word)

abbrev pub lines4 : List Reduction × Nothing → List Line
lines4 = both reductions_lines (λ _. word_lines (codes "end\n"))

abbrev pub Are4 : ℕ → List Reduction × Nothing → Type 0
Are4 n = AreBoth (AreCounted (IsReduction n)) (λ _. IsNothing)

abbrev pub lines3 : List Written × (List Reduction × Nothing) → List Line
lines3 = both relations_lines (λ _. lines4)

abbrev pub Are3 : ℕ → List Written × (List Reduction × Nothing) → Type 0
Are3 n = AreBoth (AreCounted (IsRelation n)) (λ _. Are4 n)

abbrev pub lines2 : List SectorBlock × (List Written × (List Reduction × Nothing)) → List Line
lines2 = both blocks_lines (λ _. lines3)

abbrev pub Are2 : ℕ → List SectorBlock × (List Written × (List Reduction × Nothing)) → Type 0
Are2 n = AreBoth (AreCounted (IsBlock n)) (λ _. Are3 n)

abbrev pub IsName : List ℕ → Type 0
IsName name = is_name name ≡ true

abbrev pub Behind : Type 0
Behind = List ℕ × (List SectorBlock × (List Written × (List Reduction × Nothing)))

abbrev pub lines1 : Behind → List Line
lines1 = both name_line (λ _. lines2)

abbrev pub Are1 : ℕ → Behind → Type 0
Are1 n = AreBoth IsName (λ _. Are2 n)

abbrev pub to_system : ℕ → Nothing × Behind → System
to_system n p = record { name = p.1.0; n = n; sectors = p.1.1.0; relations = p.1.1.1.0; reductions = p.1.1.1.1.0 }

abbrev pub from_system : System → Nothing × Behind
from_system s = (tt, (s.name, (s.sectors, (s.relations, (s.reductions, tt)))))

pub system_stand : (n : ℕ) → StandFor (both (word_lines (codes "neatibp-system 1\n")) (λ _. lines1)) (AreBoth IsNothing (λ _. Are1 n))
    system_lines (IsSystemValue n) (to_system n) from_system
system_stand n =
    record {
      forth = λ p is. (
        record {
          name = is.1.0;
          variables = refl;
          few_sectors = is.1.1.0.few;
          sectors = is.1.1.0.each;
          few_relations = is.1.1.1.0.few;
          relations = is.1.1.1.0.each;
          few_reductions = is.1.1.1.1.0.few;
          reductions = is.1.1.1.1.0.each;
        },
        refl,
      );
      back = λ s is. (
        (
          tt,
          (
            is.name,
            (
              record { few = is.few_sectors; each = is.sectors },
              (record { few = is.few_relations; each = is.relations }, (record { few = is.few_reductions; each = is.reductions }, tt)),
            ),
          ),
        ),
        refl,
      );
      again = λ s is. ap (λ (k : ℕ). record { name = s.name; n = k; sectors = s.sectors; relations = s.relations; reductions = s.reductions }) (sym is.variables);
    }
