-- Monomials are equal where their words are.
use Rattle.std.proofs.Common.{◌≡◌, ℕ, ◌&&◌, sym, ap, ◌∙◌}
use Rattle.std.specs.Prelude.{nat_eq}
use Rattle.std.specs.Cmp.{unsigned_Decides}
use Rattle.ibp_base.proofs.Tests.{both_true, and_true}
use Rattle.ibp_algebra.specs.Exponents.{same_exponents}
use Rattle.ibp_algebra.specs.ExponentOrder.{exponents_decide}
use Rattle.mono_order.specs.PartialSums.{word_from, exponents_of, ArePartialSums}
use Rattle.mono_order.proofs.Lanes.{same_answer}

pub words_equal : (l m h p q r : ℕ) → ArePartialSums l m h → ArePartialSums p q r → ((nat_eq h r && nat_eq m q) && nat_eq l p) ≡ same_exponents (exponents_of l m h) (exponents_of p q r)
words_equal l m h p q r first second =
    same_answer _ _
    (λ e.
    let parts = both_true _ _ e in
    let upper = both_true _ _ parts.0 in
    let high = (unsigned_Decides h r).0 upper.0 in
    let middle = (unsigned_Decides m q).0 upper.1 in
    let low = (unsigned_Decides l p).0 parts.1 in
    (exponents_decide (exponents_of l m h) (exponents_of p q r)).1 (λ i. exponents_of (low i) (middle i) (high i)))
    (λ e.
    let same = (exponents_decide (exponents_of l m h) (exponents_of p q r)).0 e in
    let high : h ≡ r = sym first.high_is ∙ ap (word_from 8) same ∙ second.high_is in
    let middle : m ≡ q = sym first.middle_is ∙ ap (word_from 4) same ∙ second.middle_is in
    let low : l ≡ p = sym first.low_is ∙ ap (word_from 0) same ∙ second.low_is in
    and_true _ _ (and_true _ _ ((unsigned_Decides h r).1 high) ((unsigned_Decides m q).1 middle)) ((unsigned_Decides l p).1 low))
