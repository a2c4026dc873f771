use Rattle.poly_text.proofs.Faulting.{answer_is}
use Rattle.poly_text.proofs.Answering.{number_is_answer}
use Rattle.poly_text.proofs.laws.answer_to_a_text.Goals as goal

pub returns-clause-text : goal.returns-clause-text
returns-clause-text c = answer_is

pub returns-clause-number : goal.returns-clause-number
returns-clause-number c = number_is_answer
