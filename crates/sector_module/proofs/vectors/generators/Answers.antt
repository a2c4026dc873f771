use Rattle.std.proofs.Common.{◌≡◌, ◌≢◌, ◌+◌, ◌-◌, ◌++◌, ◌∷◌, [], take, ap, subst, ◌∙◌, arith}
use Rattle.ibp_field.specs.Arithmetic.{neg_mod}
use Rattle.std.proofs.lemmas.List.Elements.{All-push, All-same}
use Rattle.sparse_poly.specs.declared.limits.TheConstants.{DEGREE_LIMIT}
use Rattle.mono_order.specs.declared.limits.TheConstants.{RUN_DEGREE}
use Rattle.module_vec.specs.ModuleVector.{ModuleVector}
use Rattle.sector_module.specs.Factors.{sector_generators}
use Rattle.sector_module.proofs.FactorLaws.{degrees_more}
use Rattle.sector_module.proofs.Generating.{generators_more, generators_last, scale_degrees}
use Rattle.sector_module.proofs.vectors.generators.Goals as goal

pub generator-requires-clause-degrees : goal.generator-requires-clause-degrees
generator-requires-clause-degrees c = degrees_more (DEGREE_LIMIT + 1) RUN_DEGREE c.in_ok-factor.factor (omega arith) c.in_ok-factor.ensures.degrees

pub loop-place-preserved : goal.loop-place-preserved
loop-place-preserved c =
    let family = c.args.family.now in
    record {
      made = generators_more family.baikov family.n c.args.sector.0 c.loop-place.place (c.loop-place.place + 1) (c.loop-place.place + 1 - 1) c.loop-place.vectors.items c.push.new.self.items
          c.in_ok-generator.field-0 c.in_ok-factor.factor c.loop-place-test.true (omega arith) (omega arith) c.in_ok-factor.ensures.factor c.in_ok-generator.ensures.vector
          c.in_ok-push.ensures.items c.loop-place.invariant.made;
      some = All-same (λ (v : ModuleVector). v ≢ []) c.push.new.self.items (c.loop-place.vectors.items ++ c.in_ok-generator.field-0 ∷ []) c.in_ok-push.ensures.items
          (All-push (λ (v : ModuleVector). v ≢ []) c.loop-place.vectors.items c.in_ok-generator.field-0 c.loop-place.invariant.some c.in_ok-generator.ensures.not_zero);
    }

pub generator-requires-2-clause-degrees : goal.generator-requires-2-clause-degrees
generator-requires-2-clause-degrees c =
    let family = c.args.family.now in
    degrees_more DEGREE_LIMIT RUN_DEGREE c.in_ok-last.last (omega arith)
    (scale_degrees DEGREE_LIMIT c.neg.result c.in_ok-last.last family.baikov c.in_ok-last.ensures.canonical c.in_ok-last.ensures.multiple family.limits.polynomial.degree_within)

pub returns-clause-generators : goal.returns-clause-generators
returns-clause-generators c =
    let family = c.args.family.now in
    let place : c.loop-place.place ≡ family.n = omega (arith, c.loop-place-test.false, c.loop-place.auto.place-end) in
    let made : c.loop-place.vectors.items ≡ take family.n (sector_generators family.baikov family.n c.args.sector.0) =
    subst (λ k. c.loop-place.vectors.items ≡ take k (sector_generators family.baikov family.n c.args.sector.0)) place c.loop-place.invariant.made
    in
    let minus : c.neg.result ≡ 2147483646 = c.neg.ensures ∙ ap neg_mod c.one.ensures in
    generators_last family.baikov family.n c.args.sector.0 (family.n + 1) c.neg.result c.loop-place.vectors.items c.push-2.new.self.items c.in_ok-generator-2.field-0 c.in_ok-last.last
    (omega arith) minus c.in_ok-last.ensures.multiple c.in_ok-generator-2.ensures.vector c.in_ok-push-2.ensures.items made
