use Rattle.std.proofs.Common.{◌≡◌, ◌+◌, ◌-◌, ◌<◌, Some, get_or, [], sym, ap, ◌∙◌, arith}
use Rattle.std.proofs.lemmas.List.{get_or_default}
use Rattle.ibp_algebra.specs.FormalSum.{normal_form}
use Rattle.module_vec.specs.ModuleVector.{ModuleVector}
use Rattle.fast_division.specs.PartialSums.{first_term}
use Rattle.fast_division.proofs.Windows.{IsWindow-settled, IsBounded-window, vector_of-empty, lead_first}
use Rattle.fast_division.proofs.window.Window.lead.Goals as goal

pub returns-then-self-eq0-clause-lead : goal.returns-then-self-eq0-clause-lead
returns-then-self-eq0-clause-lead g c =
    let places = c.self.inside.places in
    let new = c.settle.new.self in
    let window = IsWindow-settled g.O.TermOrder.high places.ranks.0 places.first places.count c.self.inside.cells.top c.self.inside.cells.terms.items c.self.inside.cells.values.items c.self.invariant
    new.top new.terms.items new.values.items c.settle.ensures.terms c.settle.ensures.values c.settle.ensures.top c.settle.ensures.zeros in
    sym (ap (λ (v : ModuleVector). first_term (normal_form g.O.TermOrder.order v))
    (vector_of-empty g.O.TermOrder.high places.ranks.0 places.first places.count new.top new.terms.items new.values.items window c.if-self-eq0.true))

pub returns-then-self-eq0-clause-bounded : goal.returns-then-self-eq0-clause-bounded
returns-then-self-eq0-clause-bounded g c =
    let places = c.self.inside.places in
    let new = c.settle.new.self in
    let window = IsWindow-settled g.O.TermOrder.high places.ranks.0 places.first places.count c.self.inside.cells.top c.self.inside.cells.terms.items c.self.inside.cells.values.items c.self.invariant
    new.top new.terms.items new.values.items c.settle.ensures.terms c.settle.ensures.values c.settle.ensures.top c.settle.ensures.zeros in
    IsBounded-window g.met.O.TermOrder.laws places.ranks.0 places.first places.count new.top new.terms.items new.values.items window

pub returns-clause-lead : goal.returns-clause-lead
returns-clause-lead g c =
    let places = c.self.inside.places in
    let new = c.settle.new.self in
    let last = new.top - 1 in
    let window = IsWindow-settled g.O.TermOrder.high places.ranks.0 places.first places.count c.self.inside.cells.top c.self.inside.cells.terms.items c.self.inside.cells.values.items c.self.invariant
    new.top new.terms.items new.values.items c.settle.ensures.terms c.settle.ensures.values c.settle.ensures.top c.settle.ensures.zeros in
    let top : new.top ≡ last + 1 = omega (arith, c.if-self-eq0.false) in
    let some : 0 < get_or new.values.items last 0 = omega (arith, c.settle.ensures.last (omega (arith, top)), ap (λ l. get_or l last 0) c.settle.ensures.values) in
    let term = c.index.ensures ∙ get_or_default new.terms.items last c.index.result.now (0, []) (omega (arith, top, window.within, window.long)) in
    let value = c.index-2.ensures ∙ get_or_default new.values.items last c.index-2.result.now 0 (omega (arith, top, window.within)) in
    (λ i. Some (term i, value i))
    ∙ sym (ap first_term (lead_first g.met.O.TermOrder.laws places.ranks.0 places.first places.count new.top new.terms.items new.values.items window last top some))

pub returns-clause-bounded : goal.returns-clause-bounded
returns-clause-bounded g c =
    let places = c.self.inside.places in
    let new = c.settle.new.self in
    let window = IsWindow-settled g.O.TermOrder.high places.ranks.0 places.first places.count c.self.inside.cells.top c.self.inside.cells.terms.items c.self.inside.cells.values.items c.self.invariant
    new.top new.terms.items new.values.items c.settle.ensures.terms c.settle.ensures.values c.settle.ensures.top c.settle.ensures.zeros in
    IsBounded-window g.met.O.TermOrder.laws places.ranks.0 places.first places.count new.top new.terms.items new.values.items window
