use Rattle.std.proofs.Common.{◌≡◌, ◌+◌, ◌<◌, Bool, true, false, not, length, refl, sym, ap, ◌∙◌, arith}
use Rattle.std.proofs.lemmas.List.{get_or_default}
use Rattle.ibp_relation.specs.Templates.{AffineTerm}
use Rattle.ibp_relation.proofs.LaurentLaws.{powers_decide}
use Rattle.ibp_relation.proofs.template.is_last_of_offset.Goals as goal

not_false : (b : Bool) → not b ≡ false → b ≡ true
not_false true e = refl
not_false false e = absurd (let clash : ⊥ = cc in clash)

pub returns-else-i-terms : goal.returns-else-i-terms
returns-else-i-terms c e =
    let terms = c.args.terms.now in
    let i = c.args.i in
    let within : i + 1 < length terms = omega arith in
    let same = (powers_decide c.powers.result.now c.powers-else-i-terms.result.now).0 (not_false _ (sym c.ne.ensures ∙ e)) in
    record {
      within = within;
      same = λ d.
          ap (λ (t : AffineTerm). t.offset) (get_or_default terms (i + 1) d c.index-terms-i.result within) ∙ sym c.powers.ensures.value ∙ same ∙ c.powers-else-i-terms.ensures.value
          ∙ ap (λ (t : AffineTerm). t.offset) (get_or_default terms i c.index-terms-i-else-i-terms.result d c.requires);
    }
