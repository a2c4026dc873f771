use Rattle.std.proofs.Common.{◌≡◌, ◌++◌, ℕ, List, codes, refl, ap, ◌∙◌, append_assoc}
use Rattle.std.specs.List.{flat_map}
use Rattle.system_text.specs.Systems.{line, count_line, numbered, block_text, relation_text, reduction_text}
use Rattle.system_text.proofs.systems.put_body.Goals as goal

regrouped : (t b c d e f g h i : List ℕ) → t ++ b ++ c ++ d ++ e ++ f ++ g ++ h ++ i ≡ t ++ (b ++ c ++ d ++ e ++ f ++ g ++ h ++ i)
regrouped t b c d e f g h i = simp append_assoc refl

-- the parts of the text, each put behind those before it
in_turn : (t0 t1 t2 t3 t4 t5 b c d e f g h i : List ℕ) → t1 ≡ t0 ++ b → t2 ≡ t1 ++ c ++ d → t3 ≡ t2 ++ e ++ f → t4 ≡ t3 ++ g ++ h → t5 ≡ t4 ++ i
    → t5 ≡ t0 ++ (b ++ c ++ d ++ e ++ f ++ g ++ h ++ i)
in_turn t0 t1 t2 t3 t4 t5 b c d e f g h i p q r s t =
    t ∙ ap (λ x. x ++ i) (s ∙ ap (λ x. x ++ g ++ h) (r ∙ ap (λ x. x ++ e ++ f) (q ∙ ap (λ x. x ++ c ++ d) p)))
    ∙ regrouped t0 b c d e f g h i

pub returns : goal.returns
returns c =
    let s = c.args.system.now in
    in_turn _ _ _ _ _ _
    (line (codes "family " ++ s.name))
    (count_line (codes "sectors") s.sectors) (flat_map block_text s.sectors)
    (count_line (codes "relations") s.relations) (numbered relation_text s.relations)
    (count_line (codes "targets") s.reductions) (flat_map reduction_text s.reductions)
    (line (codes "end"))
    c.in_ok-put_name.ensures
    (rw c.as_slice.ensures at c.in_ok-put_blocks.ensures)
    (rw c.as_slice-2.ensures at c.in_ok-put_relations.ensures)
    (rw c.as_slice-3.ensures at c.in_ok-put_reductions.ensures)
    c.in_ok-put_bytes.ensures
