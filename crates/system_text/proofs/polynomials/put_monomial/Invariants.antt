use Rattle.std.proofs.Common.{◌≡◌, ◌++◌, ◌-◌, ◌<◌, drop}
use Rattle.mono_order.specs.Monomial.{IsMonomial}
use Rattle.system_text.specs.Texts.{powers_text, monomial_text}
use Rattle.system_text.proofs.polynomials.put_monomial.Given as goal

-- what is put so far, and the text of the powers that are left
abbrev pub invariant-loop-i : goal.invariant-loop-i
invariant-loop-i l = record {
  put : l.text.items ++ powers_text l.i (drop (l.i - 1) l.monomial) ≡ l.fn.text.items ++ monomial_text l.monomial;
  known : 1 < l.i → IsMonomial l.monomial;
}
