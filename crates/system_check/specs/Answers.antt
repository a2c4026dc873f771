-- What a text that is not read is answered.
use Rattle.line_reader.specs.declared.fault.ReadSystemFault.{ReadSystemFault}
use Rattle.line_reader.specs.declared.fault.ReadSystemFault.TheVariants.{BadLine, NoMemory}
use Rattle.system_check.specs.declared.fault.CheckAnswer.{CheckAnswer}
use Rattle.system_check.specs.declared.fault.CheckFault.{CheckFault}

abbrev pub answer_of : ReadSystemFault → CheckAnswer
answer_of (BadLine k) = CheckAnswer.No (CheckFault.BadText k)
answer_of NoMemory = CheckAnswer.NoMemory
