use Rattle.std.proofs.Common.{◌≡◌, false, List, length, sym, subst, ap, arith}
use Rattle.std.specs.List.{All, AllZip}
use Rattle.std.proofs.lemmas.List.Elements.{length_all_zip}
use Rattle.mono_order.specs.declared.limits.TheConstants.{VARIABLES}
use Rattle.module_vec.specs.ModuleVector.{ModuleVector, lead, IsMember, IsMonicVector}
use Rattle.module_basis.specs.GroebnerBasis.{IsReducedBasis, IsLowMember, IsTailReduced}
use Rattle.module_basis.specs.Reducing.{IsSortedLow}
use Rattle.module_basis.proofs.Keeping.{sorted_vectors, kept_vectors}
use Rattle.module_basis.proofs.Reducing.{reduced_low}
use Rattle.module_basis.proofs.reduce.reduced_low.Goals as goal

pub undivided-requires-clause-monic : goal.undivided-requires-clause-monic
undivided-requires-clause-monic g c =
    let sorted = subst (λ (l : List ModuleVector). IsSortedLow g.O.TermOrder.order g.O.TermOrder.high l c.in_ok-sorted.sorted.items) c.elements.ensures.same c.in_ok-sorted.ensures in
    sorted_vectors g.met.O.TermOrder.laws c.args.basis.now.elements c.in_ok-sorted.sorted.items c.elements.ensures.monic sorted

pub with_reduced_tails-requires-clause-monic : goal.with_reduced_tails-requires-clause-monic
with_reduced_tails-requires-clause-monic g c =
    let sorted = subst (λ (l : List ModuleVector). IsSortedLow g.O.TermOrder.order g.O.TermOrder.high l c.in_ok-sorted.sorted.items) c.elements.ensures.same c.in_ok-sorted.ensures in
    let items : c.deref.result.now ≡ c.in_ok-kept.kept.items = cc in
    subst (λ (l : List ModuleVector). All (IsMonicVector g.O.TermOrder.order VARIABLES) l) (sym items)
    (kept_vectors g.met.O.TermOrder.laws c.args.basis.now.elements c.in_ok-sorted.sorted.items c.in_ok-kept.kept.items c.elements.ensures.monic sorted c.in_ok-kept.ensures.kept).0

pub with_reduced_tails-requires-clause-low : goal.with_reduced_tails-requires-clause-low
with_reduced_tails-requires-clause-low g c =
    let sorted = subst (λ (l : List ModuleVector). IsSortedLow g.O.TermOrder.order g.O.TermOrder.high l c.in_ok-sorted.sorted.items) c.elements.ensures.same c.in_ok-sorted.ensures in
    let items : c.deref.result.now ≡ c.in_ok-kept.kept.items = cc in
    subst (λ (l : List ModuleVector). All (λ v. g.O.TermOrder.high (lead v).0 ≡ false) l) (sym items)
    (kept_vectors g.met.O.TermOrder.laws c.args.basis.now.elements c.in_ok-sorted.sorted.items c.in_ok-kept.kept.items c.elements.ensures.monic sorted c.in_ok-kept.ensures.kept).1

pub returns-clause-reduced : goal.returns-clause-reduced
returns-clause-reduced g c = λ generators basis.
    let order = g.O.TermOrder.order in
    let sorted = subst (λ (l : List ModuleVector). IsSortedLow g.O.TermOrder.order g.O.TermOrder.high l c.in_ok-sorted.sorted.items) c.elements.ensures.same c.in_ok-sorted.ensures in
    let items : c.deref.result.now ≡ c.in_ok-kept.kept.items = cc in
    let tails = subst (λ (l : List ModuleVector). AllZip (IsTailReduced order VARIABLES l) l c.in_ok-with_reduced_tails.field-0.items) items c.in_ok-with_reduced_tails.ensures in
    subst (λ (l : List ModuleVector). IsReducedBasis order VARIABLES (IsLowMember g.O.TermOrder.high (IsMember VARIABLES generators)) l) (sym c.from_vec.ensures)
    (reduced_low g.met.O.TermOrder.laws c.args.basis.now.elements c.in_ok-sorted.sorted.items c.in_ok-kept.kept.items c.in_ok-with_reduced_tails.field-0.items c.elements.ensures.monic sorted c.in_ok-kept.ensures.kept tails generators basis)

pub returns-clause-short : goal.returns-clause-short
returns-clause-short g c =
    let order = g.O.TermOrder.order in
    let sorted = subst (λ (l : List ModuleVector). IsSortedLow g.O.TermOrder.order g.O.TermOrder.high l c.in_ok-sorted.sorted.items) c.elements.ensures.same c.in_ok-sorted.ensures in
    let items : c.deref.result.now ≡ c.in_ok-kept.kept.items = cc in
    let tails = subst (λ (l : List ModuleVector). AllZip (IsTailReduced order VARIABLES l) l c.in_ok-with_reduced_tails.field-0.items) items c.in_ok-with_reduced_tails.ensures in
    let long = length_all_zip (IsTailReduced order VARIABLES c.in_ok-kept.kept.items) c.in_ok-kept.kept.items c.in_ok-with_reduced_tails.field-0.items tails in
    let kept = c.in_ok-kept.ensures.kept.short in
    omega (arith, long, kept, sorted.short, ap length c.from_vec.ensures)
