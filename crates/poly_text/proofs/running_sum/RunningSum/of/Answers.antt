use Rattle.std.proofs.Common.{ap, sym, subst, rules, ◌∙◌}
use Rattle.std.specs.Prelude.{length}
use Rattle.ibp_algebra.specs.FormalSum.{IsCanonical}
use Rattle.ibp_algebra.specs.Exponents.{deg_rev_lex}
use Rattle.poly_text.proofs.RunningSums.{one_polynomial}
use Rattle.poly_text.proofs.running_sum.RunningSum.of.Goals as goal

pub invariant_of-result : goal.invariant_of-result
invariant_of-result c = record {
  first = c.terms-len.ensures.canonical;
  canonical = subst (IsCanonical deg_rev_lex) (sym c.new.ensures.empty) tt;
  counted = ap length c.terms-len.ensures.same ∙ sym (ap length (one_polynomial c.args.first c.new.result.entries c.new.ensures.empty c.terms-len.ensures.canonical));
  small = search rules;
}

pub returns : goal.returns
returns c = one_polynomial c.args.first c.new.result.entries c.new.ensures.empty c.terms-len.ensures.canonical
