use Rattle.std.proofs.Common.{◌≡◌, ◌+◌, ◌-◌, ◌<◌, get_or, set, drop, sym, ap, ◌∙◌, arith}
use Rattle.ibp_algebra.specs.FormalSum.{normal_form}
use Rattle.fast_division.specs.Windows.{vector_of}
use Rattle.fast_division.proofs.Windows.{IsWindow-settled, some_top, lead_first}
use Rattle.fast_division.proofs.window.Window.skip.Goals as goal

pub overflow_sub-self : goal.overflow_sub-self
overflow_sub-self g c =
    let places = c.self.inside.places in
    let old = c.self.inside.cells in
    let new = c.settle.new.self in
    let window = IsWindow-settled g.O.TermOrder.high places.ranks.0 places.first places.count old.top old.terms.items old.values.items c.self.invariant
    new.top new.terms.items new.values.items c.settle.ensures.terms c.settle.ensures.values c.settle.ensures.top c.settle.ensures.zeros in
    let same = (λ i. normal_form g.O.TermOrder.order (vector_of (c.settle.ensures.terms i) (c.settle.ensures.values i))) ∙ c.self.view_is in
    some_top g.O.TermOrder.high places.ranks.0 places.first places.count new.top new.terms.items new.values.items window g.O.TermOrder.order c.args.self.now same c.requires

pub index_mut-requires : goal.index_mut-requires
index_mut-requires g c =
    let places = c.self.inside.places in
    let old = c.self.inside.cells in
    let new = c.settle.new.self in
    let window = IsWindow-settled g.O.TermOrder.high places.ranks.0 places.first places.count old.top old.terms.items old.values.items c.self.invariant
    new.top new.terms.items new.values.items c.settle.ensures.terms c.settle.ensures.values c.settle.ensures.top c.settle.ensures.zeros in
    let same = (λ i. normal_form g.O.TermOrder.order (vector_of (c.settle.ensures.terms i) (c.settle.ensures.values i))) ∙ c.self.view_is in
    let some = some_top g.O.TermOrder.high places.ranks.0 places.first places.count new.top new.terms.items new.values.items window g.O.TermOrder.order c.args.self.now same c.requires in
    omega (arith, some, window.within, new.values.ok.0)

pub returns : goal.returns
returns g c =
    let places = c.self.inside.places in
    let old = c.self.inside.cells in
    let new = c.settle.new.self in
    let last = new.top - 1 in
    let window = IsWindow-settled g.O.TermOrder.high places.ranks.0 places.first places.count old.top old.terms.items old.values.items c.self.invariant
    new.top new.terms.items new.values.items c.settle.ensures.terms c.settle.ensures.values c.settle.ensures.top c.settle.ensures.zeros in
    let same = (λ i. normal_form g.O.TermOrder.order (vector_of (c.settle.ensures.terms i) (c.settle.ensures.values i))) ∙ c.self.view_is in
    let one = some_top g.O.TermOrder.high places.ranks.0 places.first places.count new.top new.terms.items new.values.items window g.O.TermOrder.order c.args.self.now same c.requires in
    let top : new.top ≡ last + 1 = omega (arith, one) in
    let some : 0 < get_or new.values.items last 0 = omega (arith, c.settle.ensures.last (omega (arith, one)), ap (λ l. get_or l last 0) c.settle.ensures.values) in
    ap (λ v. normal_form g.O.TermOrder.order (vector_of new.terms.items (set new.values.items last v))) c.zero.ensures
    ∙ sym (ap (drop 1) (sym same ∙ lead_first g.met.O.TermOrder.laws places.ranks.0 places.first places.count new.top new.terms.items new.values.items window last top some))
