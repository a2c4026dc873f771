use Rattle.std.proofs.Common.{◌≡◌, ◌<◌, ◌+◌, ◌++◌, get_or, set, length, [], replicate, sym, subst, ◌∙◌, arith}
use Rattle.std.proofs.lemmas.List.{get_or_default}
use Rattle.mono_order.specs.declared.limits.TheConstants.{VARIABLES}
use Rattle.ibp_algebra.specs.FormalSum.{scale, normal_form}
use Rattle.module_vec.specs.ModuleVector.{ModuleVector, SameVector, multiply_vector}
use Rattle.fast_division.specs.PartialSums.{total, IsBounded}
use Rattle.fast_division.proofs.Totals.{IsPartition-set, IsBounded-at, IsBounded-zero, one_within, merged_bounded, moved_total}
use Rattle.fast_division.proofs.bucket_sum.add_to_next.Goals as goal

pub merge_multiple-requires-clause-left : goal.merge_multiple-requires-clause-left
merge_multiple-requires-clause-left g c =
    let within : c.args.level + 1 < length c.args.levels.now.items = omega (arith, c.requires.level, c.requires.partition.long) in
    let at : c.rest.result.now ≡ get_or c.args.levels.now.items (c.args.level + 1) c.index.result.now = c.rest.ensures ∙ c.index.ensures in
    (subst (IsBounded g.O.TermOrder.order) (sym at) (IsBounded-at g.O.TermOrder.order c.args.levels.now.items (c.args.level + 1) c.index.result.now c.requires.partition.bounded within)).vector.canonical

pub merge_multiple-requires-clause-right : goal.merge_multiple-requires-clause-right
merge_multiple-requires-clause-right g c =
    let within : c.args.level < length c.args.levels.now.items = omega (arith, c.requires.level, c.requires.partition.long) in
    let at : c.rest-2.result.now ≡ get_or c.args.levels.now.items c.args.level c.index-2.result.now = c.rest-2.ensures ∙ c.index-2.ensures in
    (subst (IsBounded g.O.TermOrder.order) (sym at) (IsBounded-at g.O.TermOrder.order c.args.levels.now.items c.args.level c.index-2.result.now c.requires.partition.bounded within)).vector

pub merge_multiple-requires-clause-within : goal.merge_multiple-requires-clause-within
merge_multiple-requires-clause-within g c =
    let within : c.args.level < length c.args.levels.now.items = omega (arith, c.requires.level, c.requires.partition.long) in
    let at : c.rest-2.result.now ≡ get_or c.args.levels.now.items c.args.level c.index-2.result.now = c.rest-2.ensures ∙ c.index-2.ensures in
    one_within g.O.TermOrder.order g.met.O.TermOrder.laws c.rest-2.result.now c.one-2.result c.one-2.ensures
    (subst (IsBounded g.O.TermOrder.order) (sym at) (IsBounded-at g.O.TermOrder.order c.args.levels.now.items c.args.level c.index-2.result.now c.requires.partition.bounded within))

pub returns-clause-partition : goal.returns-clause-partition
returns-clause-partition g c =
    let next : c.args.level + 1 < length c.args.levels.now.items = omega (arith, c.requires.level, c.requires.partition.long) in
    let within : c.args.level < length c.args.levels.now.items = omega (arith, next) in
    let first : c.rest.result.now ≡ get_or c.args.levels.now.items (c.args.level + 1) c.index.result.now = c.rest.ensures ∙ c.index.ensures in
    let second : c.rest-2.result.now ≡ get_or c.args.levels.now.items c.args.level c.index-2.result.now = c.rest-2.ensures ∙ c.index-2.ensures in
    let a = subst (IsBounded g.O.TermOrder.order) (sym first) (IsBounded-at g.O.TermOrder.order c.args.levels.now.items (c.args.level + 1) c.index.result.now c.requires.partition.bounded next) in
    let b = subst (IsBounded g.O.TermOrder.order) (sym second) (IsBounded-at g.O.TermOrder.order c.args.levels.now.items c.args.level c.index-2.result.now c.requires.partition.bounded within) in
    let new = merged_bounded g.O.TermOrder.order g.met.O.TermOrder.laws c.rest.result.now c.rest-2.result.now c.replace.new.self c.one-2.result c.one.result c.one-2.ensures a b
    (c.replace.ensures ∙ c.in_ok-merge_multiple.ensures)
    in
    IsPartition-set g.O.TermOrder.order (set c.args.levels.now.items (c.args.level + 1) c.replace.new.self) c.args.level c.clear.new.self
    (IsPartition-set g.O.TermOrder.order c.args.levels.now.items (c.args.level + 1) c.replace.new.self c.requires.partition new)
    (subst (IsBounded g.O.TermOrder.order) (sym c.clear.ensures) (IsBounded-zero g.O.TermOrder.order))

pub returns-clause-same : goal.returns-clause-same
returns-clause-same g c =
    let next : c.args.level + 1 < length c.args.levels.now.items = omega (arith, c.requires.level, c.requires.partition.long) in
    let within : c.args.level < length c.args.levels.now.items = omega (arith, next) in
    let first : c.rest.result.now ≡ get_or c.args.levels.now.items (c.args.level + 1) [] = c.rest.ensures ∙ c.index.ensures ∙ get_or_default c.args.levels.now.items (c.args.level + 1) c.index.result.now [] next in
    let second : c.rest-2.result.now ≡ get_or c.args.levels.now.items c.args.level [] = c.rest-2.ensures ∙ c.index-2.ensures ∙ get_or_default c.args.levels.now.items c.args.level c.index-2.result.now [] within in
    let b = subst (IsBounded g.O.TermOrder.order) (sym second) (IsBounded-at g.O.TermOrder.order c.args.levels.now.items c.args.level [] c.requires.partition.bounded within) in
    let new : c.replace.new.self ≡ normal_form g.O.TermOrder.order (c.rest.result.now ++ scale 1 (multiply_vector (replicate VARIABLES 0) c.rest-2.result.now)) =
    c.replace.ensures ∙ c.in_ok-merge_multiple.ensures
    ∙ (λ i. normal_form g.O.TermOrder.order (c.rest.result.now ++ scale (c.one.ensures i) (multiply_vector (c.one-2.ensures i) c.rest-2.result.now)))
    in
    subst (λ (v : ModuleVector). SameVector (total (set (set c.args.levels.now.items (c.args.level + 1) c.replace.new.self) c.args.level v)) (total c.args.levels.now.items)) (sym c.clear.ensures)
    (moved_total g.O.TermOrder.order g.met.O.TermOrder.laws c.args.levels.now.items c.args.level c.rest.result.now c.rest-2.result.now c.replace.new.self next first second b.vector.terms new)
