use Rattle.std.proofs.Common.{◌≡◌, ◌≤◌, ◌-◌, ◌++◌, ℕ, List, length, sum, get_or}
use Rattle.mono_order.specs.declared.limits.TheConstants.{VARIABLES, RUN_DEGREE}
use Rattle.family.specs.Shapes.{HasVariables}
use Rattle.system_text.specs.Texts.{monomial_text}
use Rattle.system_text.specs.Polynomials.{EndsTerm}
use Rattle.system_text.proofs.MonomialReads.{ReadPowers}
use Rattle.system_text.proofs.read_polynomials.monomial_at.Given as goal

abbrev pub invariant-loop-i : goal.invariant-loop-i
invariant-loop-i l = record {
  long : length l.exponents ≡ VARIABLES;
  none : (k : ℕ) → l.i - 1 ≤ k → get_or l.exponents k 0 ≡ 0;
  so_far : (m final : List ℕ) → HasVariables l.fn.n m → sum m ≤ RUN_DEGREE → EndsTerm final → l.fn.bytes ≡ monomial_text m ++ final → ReadPowers m final l.i l.exponents l.rest;
  shorter : length l.rest ≤ length l.fn.bytes;
}
