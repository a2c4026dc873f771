use Rattle.std.proofs.Common.{ℕ, ap, subst}
use Rattle.relay_core.specs.Relay.{Progress, CanBeTaken}
use Rattle.relay_core.proofs.Calls.{on_err}
use Rattle.relay_desk.proofs.locked.Locked.take.Goals as goal

pub returns-in_err-taken-clause-short : goal.returns-in_err-taken-clause-short
returns-in_err-taken-clause-short g c =
    on_err c.from_residual.result _ (subst (λ (p : Progress). (sector : ℕ) × CanBeTaken sector p) (ap (λ v. v.relay.progress) c.self.view_is) c.in_err-taken.ensures.short)
