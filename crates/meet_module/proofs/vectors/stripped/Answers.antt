use Rattle.std.proofs.Common.{◌≡◌, ◌+◌, ◌≤◌, sum, sym, subst, ap, ◌∙◌}
use Rattle.ibp_algebra.specs.FormalSum.{AllKeys}
use Rattle.std.proofs.lemmas.List.{take_all}
use Rattle.mono_order.specs.declared.limits.TheConstants.{RUN_DEGREE}
use Rattle.module_vec.specs.ModuleVector.{ModuleVector}
use Rattle.module_vec.proofs.Degrees.{AllKeys-at}
use Rattle.meet_module.specs.Divided.{IsDividedTerm}
use Rattle.meet_module.specs.MeetRuns.{stripped}
use Rattle.meet_module.proofs.VectorLists.{stripped_within}
use Rattle.meet_module.proofs.vectors.stripped.Goals as goal

pub stripped_term-requires-clause-divided : goal.stripped_term-requires-clause-divided
stripped_term-requires-clause-divided c =
    let divided = subst (λ (v : ModuleVector). AllKeys (IsDividedTerm c.args.n c.args.sector.0) v) (sym c.terms-term-items.ensures.same) c.requires.divided in
    AllKeys-at (IsDividedTerm c.args.n c.args.sector.0) c.terms-term-items.result.now c.loop-term.term-index c.loop-term-item.result c.loop-term-test.true c.loop-term-item.is divided

pub vector_of_terms-requires : goal.vector_of_terms-requires
vector_of_terms-requires c =
    let all : c.deref.result.now ≡ stripped c.args.sector.0 c.terms-term-items.result.now =
    c.deref.ensures.value ∙ c.loop-term.invariant ∙ ap (stripped c.args.sector.0) (take_all c.loop-term.term-index c.terms-term-items.result.now c.loop-term-test.false)
    in
    let bounded = subst (λ (v : ModuleVector). AllKeys (λ t. sum t.1 ≤ RUN_DEGREE) v) (sym c.terms-term-items.ensures.same) c.terms-term-items.ensures.bounded in
    subst (AllKeys (λ t. sum t.1 ≤ RUN_DEGREE)) (sym all) (stripped_within RUN_DEGREE c.args.sector.0 c.terms-term-items.result.now bounded)
