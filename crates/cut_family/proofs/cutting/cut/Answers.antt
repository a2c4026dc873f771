use Rattle.std.proofs.Common.{◌<◌, ◌-◌, ap, sym, ◌∙◌, arith}
use Rattle.std.specs.Prelude.{count_ones}
use Rattle.std.specs.Int.Count.{ones-le}
use Rattle.std.proofs.lemmas.Bool.{false≢true}
use Rattle.std.proofs.lemmas.Bool.Decides.{nat_tests}
use Rattle.cut_family.specs.Cutting.{cut_caps, cut_sectors, cut_targets}
use Rattle.cut_family.proofs.PlaceLaws.{from_empty}
use Rattle.cut_family.proofs.CutLimits.{made_limits}
use Rattle.cut_family.proofs.cutting.cut.Goals as goal

pub put_cut_targets-requires-clause-some : goal.put_cut_targets-requires-clause-some
put_cut_targets-requires-clause-some c =
    let few = ones-le c.args.family.now.n c.args.cut.0 c.requires in
    grind (arith, nat_tests, few, c.lines.ensures, c.if-lines-family.false)

pub overflow_sub-result : goal.overflow_sub-result
overflow_sub-result c = omega (arith, ones-le c.args.family.now.n c.args.cut.0 c.requires, c.lines-2.ensures)

pub invariant_of-result : goal.invariant_of-result
invariant_of-result c =
    let f = c.args.family.now in
    let few = ones-le f.n c.args.cut.0 c.requires in
    let some : count_ones c.args.cut.0 < f.n = grind (arith, nat_tests, few, c.lines.ensures, c.if-lines-family.false) in
    record {
      limits =
          made_limits f.n c.args.cut.0 (f.n - c.lines-2.result) f.baikov c.in_ok-baikov.baikov f.targets c.from_vec.result f.zero c.from_vec-2.result f.bounds f.caps c.from_vec-3.result f.symmetries c.from_vec-4.result f.budget f.probe f.limits c.requires some
          (λ none. false≢true (sym c.if-is_zero.false ∙ c.is_zero.ensures.1 none))
          (ap (λ k. f.n - k) c.lines-2.ensures)
          c.in_ok-baikov.ensures
          (c.from_vec.ensures ∙ from_empty c.new-targets.result.items (cut_targets c.args.cut.0 c.as_slice-2.result.now) c.put_cut_targets.new.into.items c.new-targets.ensures.items c.in_ok-put_cut_targets.ensures ∙ ap (λ ts. cut_targets c.args.cut.0 ts) c.as_slice-2.ensures)
          (c.from_vec-2.ensures ∙ from_empty c.new-zero.result.items (cut_sectors f.n c.args.cut.0 c.as_slice-3.result.now) c.put_cut_sectors.new.into.items c.new-zero.ensures.items c.in_ok-put_cut_sectors.ensures ∙ ap (λ zs. cut_sectors f.n c.args.cut.0 zs) c.as_slice-3.ensures)
          (c.from_vec-3.ensures ∙ from_empty c.new-caps.result.items (cut_caps f.n c.args.cut.0 c.as_slice-4.result.now) c.put_cut_caps.new.into.items c.new-caps.ensures.items c.in_ok-put_cut_caps.ensures ∙ ap (λ cs. cut_caps f.n c.args.cut.0 cs) c.as_slice-4.ensures)
          (c.from_vec-4.ensures ∙ c.new.ensures.items);
    }
