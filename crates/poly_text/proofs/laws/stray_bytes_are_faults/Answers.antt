use Rattle.poly_text.proofs.Faulting.{stray_fault}
use Rattle.poly_text.proofs.laws.stray_bytes_are_faults.Goals as goal

pub returns : goal.returns
returns c = stray_fault
