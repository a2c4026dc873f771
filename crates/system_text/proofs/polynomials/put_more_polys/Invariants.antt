use Rattle.std.proofs.Common.{◌≡◌, ◌++◌, take, codes}
use Rattle.std.specs.List.{flat_map}
use Rattle.system_text.specs.Texts.{poly_text}
use Rattle.system_text.proofs.polynomials.put_more_polys.Given as goal

abbrev pub invariant-loop-poly : goal.invariant-loop-poly
invariant-loop-poly l = l.text.items ≡ l.fn.text.items ++ flat_map (λ poly. codes ", " ++ poly_text poly) (take l.poly-index l.polys)
