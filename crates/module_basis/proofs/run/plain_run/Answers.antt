use Rattle.std.proofs.Common.{◌≡◌, ◌≢◌, ◌↔◌, [], ◌∷◌, List, Err, refl, sym, ◌∙◌, subst, rules, arith}
use Rattle.mono_order.specs.declared.limits.TheConstants.{VARIABLES, RUN_DEGREE}
use Rattle.module_vec.specs.ModuleVector.{ModuleVector, IsMember}
use Rattle.module_basis.specs.GroebnerBasis.{IsGroebnerBasis}
use Rattle.module_basis.specs.PlainRun.{TakesPair, Next, Over, pairs_left, RunsTo, Done, PairsSpent, DegreeOver}
use Rattle.module_basis.specs.declared.fault.BasisFault.TheVariants as faults
use Rattle.module_basis.proofs.RunEnds.{RunsTo-apart, fault_tells}
use Rattle.module_basis.proofs.RunLaws.{run_groebner}
use Rattle.module_basis.proofs.RunSteps.{TakesFirst-from_pair, TakesFirst-counts, IsUnderWay-opened, IsUnderWay-next, IsUnderWay-stopped, IsUnderWay-spent, IsUnderWay-done}
use Rattle.module_basis.proofs.Stepping.{run_own_basis}
use Rattle.module_basis.proofs.run.plain_run.Given as given
use Rattle.module_basis.proofs.run.plain_run.Goals as goal

pub pairs-init : goal.pairs-init
pairs-init g c = IsUnderWay-opened g.O.TermOrder.order c.args.by RUN_DEGREE c.args.generators.now c.args.pairs c.in_ok-run.run' c.in_ok-run.ensures.opens

-- what a fault of a step tells
stepped_tells : (g : given.Over) (c : goal.After-from_residual-in_err-run-2 g) → c.from_residual-in_err-run-2.result ≢ Err faults.NoMemory
    → ((c.from_residual-in_err-run-2.result ≡ Err faults.PairsSpent) ↔ RunsTo g.O.TermOrder.order c.args.by RUN_DEGREE c.args.generators.now c.args.pairs PairsSpent)
    × ((c.from_residual-in_err-run-2.result ≡ Err faults.DegreeOver) ↔ RunsTo g.O.TermOrder.order c.args.by RUN_DEGREE c.args.generators.now c.args.pairs DegreeOver)
stepped_tells g c =
    let apart : c.pairs.run.taken ≢ c.args.pairs = λ same. omega (arith, same, c.taken.ensures, c.next_pair.ensures.taken, c.if-taken-pairs.false) in
    fault_tells g.O.TermOrder.order c.args.by RUN_DEGREE c.args.generators.now c.args.pairs c.in_err-run-2.field-0.0 c.from_residual-in_err-run-2.result (search rules)
    (λ e.
    let over : TakesPair g.O.TermOrder.order RUN_DEGREE c.in-Some.pair c.next_pair.new.self Over = search rules in
    IsUnderWay-stopped g.O.TermOrder.order c.args.by RUN_DEGREE c.args.generators.now c.args.pairs c.pairs.run c.pairs.invariant apart
    (TakesFirst-from_pair g.O.TermOrder.order RUN_DEGREE c.pairs.run c.next_pair.new.self c.in-Some.pair Over c.in-Some.ensures.first c.next_pair.ensures.by c.next_pair.ensures.elements c.next_pair.ensures.taken over))
    (λ e. search rules)

pub returns-in_err-run-2-clause-spent : goal.returns-in_err-run-2-clause-spent
returns-in_err-run-2-clause-spent g c = λ memory. (stepped_tells g c memory).0

pub returns-in_err-run-2-clause-over : goal.returns-in_err-run-2-clause-over
returns-in_err-run-2-clause-over g c = λ memory. (stepped_tells g c memory).1

pub pairs-smaller : goal.pairs-smaller
pairs-smaller g c =
    let apart : c.pairs.run.taken ≢ c.args.pairs = λ same. omega (arith, same, c.taken.ensures, c.next_pair.ensures.taken, c.if-taken-pairs.false) in
    let counts = TakesFirst-counts g.O.TermOrder.order c.args.by RUN_DEGREE c.pairs.run c.in_ok-run-2.run'
    (TakesFirst-from_pair g.O.TermOrder.order RUN_DEGREE c.pairs.run c.next_pair.new.self c.in-Some.pair (Next c.in_ok-run-2.run') c.in-Some.ensures.first c.next_pair.ensures.by c.next_pair.ensures.elements c.next_pair.ensures.taken c.in_ok-run-2.ensures.next)
    in
    omega (arith, counts.1, c.pairs.invariant.taken, apart)

pub pairs-preserved : goal.pairs-preserved
pairs-preserved g c =
    let apart : c.pairs.run.taken ≢ c.args.pairs = λ same. omega (arith, same, c.taken.ensures, c.next_pair.ensures.taken, c.if-taken-pairs.false) in
    IsUnderWay-next g.O.TermOrder.order c.args.by RUN_DEGREE c.args.generators.now c.args.pairs c.pairs.run c.in_ok-run-2.run' c.pairs.invariant apart
    (TakesFirst-from_pair g.O.TermOrder.order RUN_DEGREE c.pairs.run c.next_pair.new.self c.in-Some.pair (Next c.in_ok-run-2.run') c.in-Some.ensures.first c.next_pair.ensures.by c.next_pair.ensures.elements c.next_pair.ensures.taken c.in_ok-run-2.ensures.next)

pub finished-requires-clause-basis : goal.finished-requires-clause-basis
finished-requires-clause-basis g c =
    let none : pairs_left c.pairs.run ≡ [] = search rules in
    subst (λ (l : List ModuleVector). IsGroebnerBasis g.O.TermOrder.order (IsMember VARIABLES l) l) (sym c.next_pair.ensures.elements)
    (run_own_basis g.met.O.TermOrder.laws c.args.generators.now c.in_ok-run.ensures.vectors c.requires.not_zero c.args.by RUN_DEGREE c.args.pairs c.pairs.run.elements c.pairs.run.taken
    (IsUnderWay-done g.O.TermOrder.order c.args.by RUN_DEGREE c.args.generators.now c.args.pairs c.pairs.run c.pairs.invariant none))

pub returns-clause-basis : goal.returns-clause-basis
returns-clause-basis g c =
    let none : pairs_left c.pairs.run ≡ [] = search rules in
    subst (λ (l : List ModuleVector). IsGroebnerBasis g.O.TermOrder.order (IsMember VARIABLES c.args.generators.now) l) (sym (c.finished.ensures.elements ∙ c.next_pair.ensures.elements))
    (run_groebner g.met.O.TermOrder.laws c.args.generators.now c.in_ok-run.ensures.vectors c.requires.not_zero c.args.by RUN_DEGREE c.args.pairs c.pairs.run.elements c.pairs.run.taken
    (IsUnderWay-done g.O.TermOrder.order c.args.by RUN_DEGREE c.args.generators.now c.args.pairs c.pairs.run c.pairs.invariant none))

pub returns-then-taken-pairs-clause-spent : goal.returns-then-taken-pairs-clause-spent
returns-then-taken-pairs-clause-spent g c = λ memory.
    let left : pairs_left c.pairs.run ≢ [] = λ none. let clash : c.in-Some.pair ∷ c.next_pair.new.self.pairs ≡ [] = sym c.in-Some.ensures.first ∙ none in absurd (cc) in (
      λ e. IsUnderWay-spent g.O.TermOrder.order c.args.by RUN_DEGREE c.args.generators.now c.args.pairs c.pairs.run c.pairs.invariant (omega (arith, c.taken.ensures, c.next_pair.ensures.taken, c.if-taken-pairs.true)) left,
      λ h. refl,
    )

pub returns-then-taken-pairs-clause-over : goal.returns-then-taken-pairs-clause-over
returns-then-taken-pairs-clause-over g c = λ memory.
    let left : pairs_left c.pairs.run ≢ [] = λ none. let clash : c.in-Some.pair ∷ c.next_pair.new.self.pairs ≡ [] = sym c.in-Some.ensures.first ∙ none in absurd (cc) in
    let spent = IsUnderWay-spent g.O.TermOrder.order c.args.by RUN_DEGREE c.args.generators.now c.args.pairs c.pairs.run c.pairs.invariant (omega (arith, c.taken.ensures, c.next_pair.ensures.taken, c.if-taken-pairs.true)) left in
    (λ e. absurd (let clash : ⊥ = cc in clash), λ h. absurd (RunsTo-apart g.O.TermOrder.order c.args.by RUN_DEGREE c.args.generators.now c.args.pairs PairsSpent DegreeOver spent (λ e. cc) h))

done_at_end : (g : given.Over) (c : goal.After-finished g) → RunsTo g.O.TermOrder.order c.args.by RUN_DEGREE c.args.generators.now c.args.pairs (Done c.pairs.run.elements c.pairs.run.taken)
done_at_end g c =
    let none : pairs_left c.pairs.run ≡ [] = search rules in
    IsUnderWay-done g.O.TermOrder.order c.args.by RUN_DEGREE c.args.generators.now c.args.pairs c.pairs.run c.pairs.invariant none

pub returns-clause-spent : goal.returns-clause-spent
returns-clause-spent g c = λ memory.
    (λ e. absurd (let clash : ⊥ = cc in clash), λ h. absurd (RunsTo-apart g.O.TermOrder.order c.args.by RUN_DEGREE c.args.generators.now c.args.pairs _ PairsSpent (done_at_end g c) (λ e. cc) h))

pub returns-clause-over : goal.returns-clause-over
returns-clause-over g c = λ memory.
    (λ e. absurd (let clash : ⊥ = cc in clash), λ h. absurd (RunsTo-apart g.O.TermOrder.order c.args.by RUN_DEGREE c.args.generators.now c.args.pairs _ DegreeOver (done_at_end g c) (λ e. cc) h))
