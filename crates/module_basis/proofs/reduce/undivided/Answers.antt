use Rattle.std.proofs.Common.{◌≡◌, ◌++◌, ◌∷◌, [], not, length, map, sym, subst, ap, ◌∙◌, arith}
use Rattle.std.proofs.lemmas.List.{map-append, length-map}
use Rattle.module_vec.specs.ModuleVector.{lead}
use Rattle.module_vec.specs.Division.{first_divisor}
use Rattle.fast_division.proofs.FirstNumbers.{index_has_none, index_has_some}
use Rattle.module_basis.proofs.Keeping.{IsKeeping, IsKeeping-monic, IsKeeping-added, IsKeeping-dropped, IsKeeping-short}
use Rattle.module_basis.proofs.reduce.undivided.Goals as goal

pub lead_term-lead-requires : goal.lead_term-lead-requires
lead_term-lead-requires g c =
    (IsKeeping-monic g.met.O.TermOrder.laws c.args.sorted.items c.vectors.sorted.items c.pop.new.self.items c.in-Some.vector c.vectors.kept.items c.requires.monic c.in-Some.ensures.items c.vectors.invariant.keeping).monic

pub add-requires : goal.add-requires
add-requires g c =
    omega (
      arith,
      c.requires.few,
      ap length c.vectors.invariant.index,
      length-map c.vectors.kept.items lead,
      IsKeeping-short g.met.O.TermOrder.laws c.args.sorted.items c.vectors.sorted.items c.vectors.kept.items c.vectors.invariant.keeping,
    )

pub vectors-preserved-in-Continue-branch-2 : goal.vectors-preserved-in-Continue-branch-2
vectors-preserved-in-Continue-branch-2 g c =
    let laws = g.met.O.TermOrder.laws in
    let none = index_has_none c.vectors.kept.items c.vectors.index c.lead_term-lead.result c.first_divisor.result c.vectors.invariant.index c.first_divisor.ensures (c.is_none.ensures ∙ ap not c.if-is_none.true) in
    let pushed : c.push.new.self.items ≡ c.vectors.kept.items ++ c.in-Some.vector ∷ [] = c.in_ok-push.ensures.items in
    let leads : c.add.new.self ≡ map lead c.vectors.kept.items ++ lead c.in-Some.vector ∷ [] = c.in_ok-add.ensures.added ∙ (λ i. c.vectors.invariant.index i ++ c.lead_term-lead.ensures.lead i ∷ []) in
    record {
      keeping = subst (IsKeeping laws c.args.sorted.items c.pop.new.self.items) (sym pushed)
          (IsKeeping-added laws c.args.sorted.items c.vectors.sorted.items c.pop.new.self.items c.in-Some.vector c.vectors.kept.items c.requires.monic c.requires.descends c.in-Some.ensures.items
          (ap (first_divisor c.vectors.kept.items) (sym c.lead_term-lead.ensures.lead) ∙ none) c.vectors.invariant.keeping);
      index = leads ∙ sym (ap (map lead) pushed ∙ map-append lead c.vectors.kept.items (c.in-Some.vector ∷ []));
    }

pub vectors-preserved : goal.vectors-preserved
vectors-preserved g c =
    let laws = g.met.O.TermOrder.laws in
    let found = index_has_some c.vectors.kept.items c.vectors.index c.lead_term-lead.result c.first_divisor.result c.vectors.invariant.index c.first_divisor.ensures (c.is_none.ensures ∙ ap not c.if-is_none.false) in
    record {
      keeping = IsKeeping-dropped laws c.args.sorted.items c.vectors.sorted.items c.pop.new.self.items c.in-Some.vector c.vectors.kept.items found.0 c.in-Some.ensures.items
          (ap (first_divisor c.vectors.kept.items) (sym c.lead_term-lead.ensures.lead) ∙ found.1) c.vectors.invariant.keeping;
      index = c.vectors.invariant.index;
    }
