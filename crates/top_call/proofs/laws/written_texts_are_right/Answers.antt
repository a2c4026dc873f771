use Rattle.top_call.proofs.RightTexts.{right_text}
use Rattle.top_call.proofs.laws.written_texts_are_right.Goals as goal

pub returns : goal.returns
returns c = right_text
