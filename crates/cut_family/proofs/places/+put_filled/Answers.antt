use Rattle.std.proofs.Common.{◌≡◌, suc, ◌-◌, arith}
use Rattle.cut_family.proofs.PlaceLaws.{filled_put}
use Rattle.cut_family.proofs.places.+put_filled.Goals as goal

pub returns-in_ok-put_filled : goal.returns-in_ok-put_filled
returns-in_ok-put_filled g t c =
    let more : suc (c.args.n - 1) ≡ c.args.n = omega (arith, c.if-n-gt0.true) in
    filled_put c.args.fill c.first_entry.result c.args.n (c.args.n - 1) c.args.cut c.args.entries.now c.later_entries.result.now c.args.into.now.items _ _ more c.first_entry.ensures c.later_entries.ensures c.in_ok-push.ensures.items c.in_ok-put_filled.ensures
