use Rattle.sector_module.proofs.OneBasis.{one_basis as basis_is_one}
use Rattle.sector_module.proofs.laws.one_basis.Goals as goal

pub returns : goal.returns
returns c = λ p n degree sector first second few shape h k. basis_is_one p n sector few shape.variables first second h k
