use Rattle.std.proofs.Common.{◌≡◌, ℕ, ◌+◌, ◌-◌, ◌<◌, ◌≤◌, List, ◌++◌, length, sum, drop, get_or, set, refl, sym, ap, ◌∙◌, subst, arith}
use Rattle.std.specs.Prelude.{IsNone, Option}
use Rattle.std.proofs.lemmas.List.{length-set}
use Rattle.mono_order.specs.declared.limits.TheConstants.{VARIABLES, MONO_DEGREE}
use Rattle.line_reader.proofs.Words.{not_none, some_holds, if_holds}
use Rattle.system_text.specs.Texts.{powers_text}
use Rattle.system_text.proofs.MonomialReads.{ReadPowers, next_power, next_ends, within_degree, one_read, still_none, all_read}
use Rattle.system_text.proofs.read_polynomials.monomial_at.Goals as goal

pub returns-in_err-exponent-clause-reads : goal.returns-in_err-exponent-clause-reads
returns-in_err-exponent-clause-reads c m final has within ends e =
    let i = c.loop-i.i in
    let s = c.loop-i.invariant.so_far m final has within ends e in
    let low : 1 ≤ i = c.loop-i.auto.i in
    let high : i ≤ VARIABLES = omega (arith, c.loop-i-test.true, c.requires) in
    let long : length m ≡ VARIABLES = has.each_variable in
    absurd (not_none c.power_of.result _
    (c.power_of.ensures.reads (get_or m (i - 1) 0) (powers_text (i + 1) (drop ((i + 1) - 1) m) ++ final) (within_degree m i within) (next_ends m final i low high long ends)
    (next_power m final c.loop-i.rest.now i low (omega (arith, high, long)) s.left)) c.in_err-exponent.was)

pub loop-i-preserved : goal.loop-i-preserved
loop-i-preserved c =
    let i = c.loop-i.i in
    let low : 1 ≤ i = c.loop-i.auto.i in
    let high : i ≤ VARIABLES = omega (arith, c.loop-i-test.true, c.requires) in
    let exponents = c.loop-i.exponents in
    let exponent = c.in_ok-exponent.exponent in
    let place : c.from.result ≡ i - 1 = c.from.ensures in
    record {
      long = length-set exponents c.from.result exponent ∙ c.loop-i.invariant.long;
      none = λ k past. subst (λ j. get_or (set exponents j exponent) k 0 ≡ 0) (sym place) (still_none exponents i exponent low c.loop-i.invariant.none k past);
      so_far = λ m final has within ends e.
          let s = c.loop-i.invariant.so_far m final has within ends e in
          let long : length m ≡ VARIABLES = has.each_variable in
          let read = some_holds c.power_of.result _ (c.in_ok-exponent.exponent, c.in_ok-exponent.others)
          (c.power_of.ensures.reads (get_or m (i - 1) 0) (powers_text (i + 1) (drop ((i + 1) - 1) m) ++ final) (within_degree m i within) (next_ends m final i low high long ends)
          (next_power m final c.loop-i.rest.now i low (omega (arith, high, long)) s.left)) c.in_ok-exponent.was in
          subst (λ j. ReadPowers m final (i + 1) (set exponents j exponent) c.in_ok-exponent.others.now) (sym place)
          (one_read m final exponents c.loop-i.rest.now c.in_ok-exponent.others.now i exponent low (omega (arith, high, c.loop-i.invariant.long)) s read);
      shorter = omega (arith, c.loop-i.invariant.shorter, if_holds c.power_of.result _ (c.in_ok-exponent.exponent, c.in_ok-exponent.others) c.power_of.ensures.shorter c.in_ok-exponent.was);
    }

pub returns-in_err-monomial-clause-reads : goal.returns-in_err-monomial-clause-reads
returns-in_err-monomial-clause-reads c m final has within ends e =
    let i_is : c.loop-i.i ≡ c.args.n + 1 = omega (arith, c.loop-i-test.false, c.loop-i.auto.i-end (omega arith)) in
    let r = all_read c.args.n m final c.loop-i.exponents c.loop-i.rest.now c.loop-i.i i_is has c.loop-i.invariant.long c.loop-i.invariant.none (c.loop-i.invariant.so_far m final has within ends e) in
    let over : MONO_DEGREE < sum c.loop-i.exponents = c.from_exponents.ensures.none.0 (subst (λ (o : Option (List ℕ)). IsNone o) (sym c.in_err-monomial.was) refl) in
    absurd (omega (arith, over, ap sum r.0, within))

pub returns-then-degree-le-RUN_DEGREE-clause-reads : goal.returns-then-degree-le-RUN_DEGREE-clause-reads
returns-then-degree-le-RUN_DEGREE-clause-reads c m final has within ends e =
    let i_is : c.loop-i.i ≡ c.args.n + 1 = omega (arith, c.loop-i-test.false, c.loop-i.auto.i-end (omega arith)) in
    let r = all_read c.args.n m final c.loop-i.exponents c.loop-i.rest.now c.loop-i.i i_is has c.loop-i.invariant.long c.loop-i.invariant.none (c.loop-i.invariant.so_far m final has within ends e) in
    (ap (λ (t : List ℕ). (t, c.args.value)) (if_holds c.from_exponents.result _ c.in_ok-monomial.monomial c.from_exponents.ensures.value c.in_ok-monomial.was ∙ r.0), r.1)

pub returns-else-degree-le-RUN_DEGREE-clause-reads : goal.returns-else-degree-le-RUN_DEGREE-clause-reads
returns-else-degree-le-RUN_DEGREE-clause-reads c m final has within ends e =
    let i_is : c.loop-i.i ≡ c.args.n + 1 = omega (arith, c.loop-i-test.false, c.loop-i.auto.i-end (omega arith)) in
    let r = all_read c.args.n m final c.loop-i.exponents c.loop-i.rest.now c.loop-i.i i_is has c.loop-i.invariant.long c.loop-i.invariant.none (c.loop-i.invariant.so_far m final has within ends e) in
    let is : c.in_ok-monomial.monomial ≡ m = if_holds c.from_exponents.result _ c.in_ok-monomial.monomial c.from_exponents.ensures.value c.in_ok-monomial.was ∙ r.0 in
    omega (arith, c.if-degree-le-RUN_DEGREE.false, c.degree.ensures.sum, ap sum is, within)
