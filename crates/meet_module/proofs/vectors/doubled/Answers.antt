use Rattle.std.proofs.Common.{◌≡◌, ◌+◌, ◌≤◌, ◌++◌, ◌∷◌, [], sum, sym, subst, ap, ◌∙◌}
use Rattle.std.specs.Prelude.{IfOk}
use Rattle.ibp_algebra.specs.FormalSum.{AllKeys, normal_form}
use Rattle.mono_order.specs.declared.limits.TheConstants.{RUN_DEGREE, FIRST_HIGH}
use Rattle.mono_order.specs.TermOrder.{high_block}
use Rattle.module_vec.specs.ModuleVector.{ModuleVector}
use Rattle.sector_module.specs.SectorBasis.{vector_of}
use Rattle.meet_module.proofs.VectorLists.{doubled_within, doubled_normal}
use Rattle.meet_module.proofs.vectors.doubled.Goals as goal

pub vector_of_terms-requires : goal.vector_of_terms-requires
vector_of_terms-requires c =
    let fs = c.args.field.now.c ++ c.args.field.now.b ∷ [] in
    let terms : c.deref.result.now ≡ vector_of 1 fs ++ vector_of (FIRST_HIGH + 1) fs =
    c.deref.ensures.value ∙ c.in_ok-put_field-2.ensures ∙ ap (λ (l : ModuleVector). l ++ vector_of (FIRST_HIGH + 1) fs) (c.in_ok-put_field.ensures ∙ ap (λ (l : ModuleVector). l ++ vector_of 1 fs) c.new-terms.ensures.items)
    in
    subst (AllKeys (λ t. sum t.1 ≤ RUN_DEGREE)) (sym terms) (doubled_within RUN_DEGREE c.args.n (FIRST_HIGH + 1) c.args.field.now c.requires.shape)

pub returns : goal.returns
returns c =
    let fs = c.args.field.now.c ++ c.args.field.now.b ∷ [] in
    let terms : c.deref.result.now ≡ vector_of 1 fs ++ vector_of (FIRST_HIGH + 1) fs =
    c.deref.ensures.value ∙ c.in_ok-put_field-2.ensures ∙ ap (λ (l : ModuleVector). l ++ vector_of (FIRST_HIGH + 1) fs) (c.in_ok-put_field.ensures ∙ ap (λ (l : ModuleVector). l ++ vector_of 1 fs) c.new-terms.ensures.items)
    in
    subst (λ (w : ModuleVector). IfOk c.vector_of_terms.result (λ v. v ≡ w)) (ap (normal_form high_block) terms ∙ doubled_normal c.args.field.now) c.vector_of_terms.ensures
