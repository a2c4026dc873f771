use Rattle.std.proofs.Common.{◌≡◌, ◌+◌, ◌*◌, ◌<◌, ℕ, Option, length, sym, ap, subst, ◌∙◌, arith}
use Rattle.std.specs.Prelude.{IfSome}
use Rattle.ibp_algebra.specs.FormalSum.{AllKeys, normal_form, scale}
use Rattle.module_vec.specs.ModuleVector.{multiply_vector}
use Rattle.fast_division.specs.Ranks.{below, HasPlace}
use Rattle.fast_division.specs.Windows.{vector_of}
use Rattle.fast_division.proofs.Totals.{subtracted, on_err_from}
use Rattle.fast_division.proofs.Windows.{IsWindow-widened, vector_of-widened, IsReached-all}
use Rattle.fast_division.proofs.window.Window.add_found.Goals as goal

pub invariant_of-self-in_err-widen : goal.invariant_of-self-in_err-widen
invariant_of-self-in_err-widen g c =
    let places = c.self.inside.places in
    let old = c.self.inside.cells in
    let new = c.widen.new.self in
    IsWindow-widened g.O.TermOrder.high places.ranks.0 places.first places.count old.top old.terms.items old.values.items c.self.invariant
    c.make_ranks.new.ranks.0 new.top new.terms.items new.values.items c.make_ranks.ensures.variables c.widen.ensures.top c.widen.ensures.widened

pub returns-in_err-widen-clause-kept : goal.returns-in_err-widen-clause-kept
returns-in_err-widen-clause-kept g c =
    let old = c.self.inside.cells in
    let new = c.widen.new.self in
    let places = c.self.inside.places in
    on_err_from c.from_residual-in_err-widen.result
    (ap (normal_form g.O.TermOrder.order) (vector_of-widened g.O.TermOrder.high places.ranks.0 places.first places.count old.top old.terms.items old.values.items c.self.invariant
    new.terms.items new.values.items c.widen.ensures.widened) ∙ c.self.view_is)

pub add_terms-requires-clause-window : goal.add_terms-requires-clause-window
add_terms-requires-clause-window g c =
    let places = c.self.inside.places in
    let old = c.self.inside.cells in
    let new = c.widen.new.self in
    IsWindow-widened g.O.TermOrder.high places.ranks.0 places.first places.count old.top old.terms.items old.values.items c.self.invariant
    c.make_ranks.new.ranks.0 new.top new.terms.items new.values.items c.make_ranks.ensures.variables c.widen.ensures.top c.widen.ensures.widened

pub add_terms-requires-clause-reached : goal.add_terms-requires-clause-reached
add_terms-requires-clause-reached g c =
    let places = c.self.inside.places in
    let new = c.make_ranks.new.ranks in
    let f = multiply_vector c.args.by.now c.args.terms.now in
    let degree = c.in-Some.degree in
    let rows = subst (λ (r : Option ℕ). IfSome r (λ _. degree + 1 < new.1)) c.in-Some-2.is c.in_ok-room.ensures.degrees in
    let room = subst (λ (r : Option ℕ). IfSome r (λ n. n ≡ below new.0 (degree + 1) * places.count)) c.in-Some-2.is c.in_ok-room.ensures.places in
    IsReached-all new.0 places.first places.count degree new.1 (length c.widen.new.self.values.items) f rows (omega (arith, room, c.in_ok-widen.ensures.room))
    (subst (λ n. AllKeys (HasPlace n places.first places.count) f) (sym c.make_ranks.ensures.variables) c.in-Some.ensures.places) c.in-Some.ensures.degree

pub returns-clause-sum : goal.returns-clause-sum
returns-clause-sum g c =
    let old = c.self.inside.cells in
    let new = c.widen.new.self in
    let places = c.self.inside.places in
    let after = c.add_terms.new.cells in
    let same = ap (normal_form g.O.TermOrder.order) (vector_of-widened g.O.TermOrder.high places.ranks.0 places.first places.count old.top old.terms.items old.values.items c.self.invariant
    new.terms.items new.values.items c.widen.ensures.widened) ∙ c.self.view_is in
    subtracted g.O.TermOrder.order g.met.O.TermOrder.laws (vector_of new.terms.items new.values.items) (vector_of after.terms.items after.values.items) c.args.self.now
    (scale c.args.factor (multiply_vector c.args.by.now c.args.terms.now)) same c.add_terms.ensures.sum
