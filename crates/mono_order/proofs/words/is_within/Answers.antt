use Rattle.mono_order.proofs.Lanes.{no_digit_greater}
use Rattle.mono_order.proofs.words.is_within.Goals as goal

pub returns : goal.returns
returns c = no_digit_greater c.args.mine c.args.others c.requires.mine c.requires.others
