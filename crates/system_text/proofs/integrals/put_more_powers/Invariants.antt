use Rattle.std.proofs.Common.{◌≡◌, ◌++◌, take, codes}
use Rattle.std.specs.Fmt.{signed_decimal}
use Rattle.std.specs.List.{flat_map}
use Rattle.system_text.proofs.integrals.put_more_powers.Given as goal

abbrev pub invariant-loop-power : goal.invariant-loop-power
invariant-loop-power l = l.text.items ≡ l.fn.text.items ++ flat_map (λ power. codes "," ++ signed_decimal power) (take l.power-index l.powers)
