use Rattle.std.proofs.Common.{◌≡◌, suc, ◌-◌, [], ◌∷◌, ◌++◌, FitsSigned, w16, arith, rules}
use Rattle.std.proofs.lemmas.Int.{to_z-of_z}
use Rattle.symmetry_fold.specs.Images.{power_before}
use Rattle.symmetry_fold.proofs.ImageRanges.{put_next}
use Rattle.symmetry_fold.proofs.images.+put_image.Goals as goal

pub returns-in_ok-put_image : goal.returns-in_ok-put_image
returns-in_ok-put_image t c =
    let more : suc (c.args.count - 1) ≡ c.args.count = omega (arith, c.if-count-gt0.true) in
    let power = c.power_before.result in
    let fits : FitsSigned w16 power = search rules in
    let put : c.push.new.self.items ≡ c.args.into.now.items ++ power ∷ [] = simp to_z-of_z at c.in_ok-push.ensures.items in
    put_next (power_before c.args.numbers.now c.args.powers.now) c.args.first c.args.count (c.args.count - 1) c.args.into.now.items _ _ power more c.power_before.ensures put c.in_ok-put_image.ensures
