use Rattle.std.proofs.Common.{◌≡◌, ℕ, ◌-◌, ◌<◌, List, length, drop, sym, subst, ◌∙◌, arith}
use Rattle.std.specs.Prelude.{ℤ, pos, replicate}
use Rattle.std.proofs.lemmas.Int.{ints}
use Rattle.mono_order.specs.declared.limits.TheConstants.{VARIABLES}
use Rattle.sector_lattice.specs.Ranges.{InRange}
use Rattle.ibp_relation.proofs.Powers.{raised_copy, raised_power, raised_in_range}
use Rattle.ibp_relation.proofs.moves.raised.Goals as goal

-- what stays of the places
abbrev rest : ℕ → List ℤ
rest n = drop n (replicate VARIABLES (pos 0))

pub in_range-requires : goal.in_range-requires
in_range-requires c =
    let α = c.args.integral.now in
    let i = c.args.i - 1 in
    let place : c.from.result - 1 ≡ i = omega arith in
    let below : i < length α = omega arith in
    let copied : c.copy_from_slice.new.self ≡ α = c.copy_from_slice.ensures.after ∙ c.powers.ensures.value in
    let power = raised_power c.copy_from_slice.new.self (rest c.from-n.result) α (c.from.result - 1) i copied place below in
    let within = c.powers.ensures.within.small i (pos 0) below in
    let raised = raised_copy c.copy_from_slice.new.self (rest c.from-n.result) α c.from-n.result (c.from.result - 1) i _ copied (omega arith) place below (omega (arith, ints, power, within.0, within.1)) in
    subst InRange (sym raised) (raised_in_range α i c.powers.ensures.within below c.requires.room)

pub returns : goal.returns
returns c =
    let α = c.args.integral.now in
    let i = c.args.i - 1 in
    let place : c.from.result - 1 ≡ i = omega arith in
    let below : i < length α = omega arith in
    let copied : c.copy_from_slice.new.self ≡ α = c.copy_from_slice.ensures.after ∙ c.powers.ensures.value in
    let power = raised_power c.copy_from_slice.new.self (rest c.from-n.result) α (c.from.result - 1) i copied place below in
    let within = c.powers.ensures.within.small i (pos 0) below in
    c.in_range.ensures
    ∙ raised_copy c.copy_from_slice.new.self (rest c.from-n.result) α c.from-n.result (c.from.result - 1) i _ copied (omega arith) place below (omega (arith, ints, power, within.0, within.1))
