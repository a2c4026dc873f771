use Rattle.std.proofs.Common.{ℕ, ◌++◌, ap, ◌∙◌, arith}
use Rattle.line_reader.proofs.Words.{not_none, some_holds}
use Rattle.system_text.specs.Texts.{monomial_text}
use Rattle.system_text.proofs.Cuts.{some_weaken}
use Rattle.system_text.proofs.PowerEnds.{term_cut, term_ends}
use Rattle.system_text.proofs.read_polynomials.PolyTermEntryTuple2MonomialResidue.front.Goals as goal

pub returns-in_default-clause-reads : goal.returns-in_default-clause-reads
returns-in_default-clause-reads c x rest is ends e =
    not_none c.whole_at.result _ (c.whole_at.ensures.reads x.1 (monomial_text x.0 ++ rest) (omega (arith, is.residue)) (term_ends c.args.n x rest is ends) (term_cut x rest c.args.bytes.now e)) c.in_default.is

pub returns-then-number-ge-PRIME-clause-reads : goal.returns-then-number-ge-PRIME-clause-reads
returns-then-number-ge-PRIME-clause-reads c x rest is ends e =
    let one = some_holds c.whole_at.result _ (c.in-Some.number, c.in-Some.others)
    (c.whole_at.ensures.reads x.1 (monomial_text x.0 ++ rest) (omega (arith, is.residue)) (term_ends c.args.n x rest is ends) (term_cut x rest c.args.bytes.now e)) c.in-Some.is in
    omega (arith, one.0, c.if-number-ge-PRIME.true, is.residue)

pub returns-clause-reads : goal.returns-clause-reads
returns-clause-reads c x rest is ends e =
    let one = some_holds c.whole_at.result _ (c.in-Some.number, c.in-Some.others)
    (c.whole_at.ensures.reads x.1 (monomial_text x.0 ++ rest) (omega (arith, is.residue)) (term_ends c.args.n x rest is ends) (term_cut x rest c.args.bytes.now e)) c.in-Some.is in
    some_weaken c.monomial_at.result _ _ (λ r h. (h.0 ∙ ap (λ (k : ℕ). (x.0, k)) (c.of.ensures ∙ one.0), h.1)) (c.monomial_at.ensures.reads x.0 rest is.monomial.variables is.monomial.degree ends one.1)
