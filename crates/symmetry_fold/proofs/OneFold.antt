-- A system has at most one folded system.
use Rattle.std.proofs.Common.{◌≡◌, ℕ, ◌∙◌, sym}
use Rattle.std.specs.Prelude.{map}
use Rattle.sector_lattice.specs.Orders.{integral_cmp_total, same_integrals}
use Rattle.sector_lattice.specs.Sectors.{integral_cmp}
use Rattle.family.specs.FamilyData.{FamilyData}
use Rattle.relation_pick.proofs.Uniqueness.{IsPick-unique}
use Rattle.system_text.specs.declared.value.System.{System}
use Rattle.target_rows.specs.Reductions.{reductions_of}
use Rattle.symmetry_fold.specs.Folding.{IsFolded, folded_at, folded_rows, folded_target, targets_of}

pub one_fold : (family : FamilyData) (system first second : System) → IsFolded family system first → IsFolded family system second → first ≡ second
one_fold family system first second one two =
    let same = IsPick-unique integral_cmp integral_cmp_total same_integrals (folded_rows family.symmetries system.relations) (map (folded_target family) (targets_of system.reductions)) one.written two.written one.forms two.forms one.weights two.weights one.pick two.pick in
    let name : first.name ≡ second.name = one.name ∙ sym two.name in
    let n : first.n ≡ second.n = one.n ∙ sym two.n in
    let sectors : first.sectors ≡ second.sectors = one.sectors ∙ sym two.sectors in
    let relations : first.relations ≡ second.relations = one.relations ∙ (λ i. map (folded_at family.symmetries system.relations) (same.0 i)) ∙ sym two.relations in
    let reductions : first.reductions ≡ second.reductions = one.reductions ∙ (λ i. reductions_of (same.0 i) (targets_of system.reductions) (same.1 i) (same.2 i)) ∙ sym two.reductions in
    λ i. record { name = name i; n = n i; sectors = sectors i; relations = relations i; reductions = reductions i }
