use Rattle.family_file.specs.Views.{document_view}
use Rattle.family_file.specs.ReadViews.{read_body_view}
use Rattle.family_file.proofs.FamilyLimits.{keys_within}
use Rattle.family_file.proofs.read.family_of_keys.Goals as goal

pub invariant_of-result : goal.invariant_of-result
invariant_of-result c =
    rw (c.from_vec.ensures, c.from_vec-2.ensures, c.from_vec-3.ensures, c.from_vec-4.ensures)
    (record {
      limits = keys_within c.in_ok-shape.shape.variables c.in_ok-shape.ensures.some c.in_ok-shape.ensures.few c.args.need (document_view c.args.keys.now)
          (read_body_view c.in_ok-body.body) c.in_ok-bounds.bounds c.in_ok-caps.caps.items c.in_ok-symmetries.symmetries.items c.in_ok-budget.budget c.in_ok-probe.probe c.in_ok-body.ensures c.in_ok-bounds.ensures c.in_ok-caps.ensures c.in_ok-budget.ensures c.in_ok-probe.ensures c.in_ok-symmetries.ensures;
    })
