use Rattle.std.proofs.Common.{◌≡◌, sym, ◌∙◌}
use Rattle.std.specs.Prelude.{Some}
use Rattle.poly_text.specs.Tree.{Tree}
use Rattle.poly_text.proofs.Accepting.{text_accepted}
use Rattle.poly_text.proofs.laws.one_tree.Goals as goal

same_some : (t u : Tree) → Some t ≡ Some u → t ≡ u
same_some t u e = cc

pub returns : goal.returns
returns c = λ ts t u h k. same_some t u (sym (text_accepted ts t h) ∙ text_accepted ts u k)
