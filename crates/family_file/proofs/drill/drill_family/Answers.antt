use Rattle.std.proofs.Common.{◌≡◌, ◌∙◌, ap, sym, None}
use Rattle.family.specs.declared.parts.Selection.TheVariants.{Order}
use Rattle.ibp_field.specs.Arithmetic.{neg_mod}
use Rattle.ibp_algebra.specs.Exponents.{deg_rev_lex}
use Rattle.ibp_algebra.specs.FormalSum.{normal_form}
use Rattle.family_file.specs.Drill.{box_terms}
use Rattle.family_file.proofs.DrillLimits.{made_within}
use Rattle.family_file.proofs.drill.drill_family.Goals as goal

pub invariant_of-result : goal.invariant_of-result
invariant_of-result c =
    let polynomial = c.in_ok-baikov.ensures ∙ (λ i. normal_form deg_rev_lex (box_terms (c.of-s.ensures i) (c.of-t.ensures i) ((c.neg-u.ensures ∙ ap neg_mod c.of.ensures) i))) in
    record {
      limits = made_within c.args.number c.requires c.in_ok-baikov.baikov c.from_vec.result c.from_vec-2.result c.from_vec-3.result c.from_vec-4.result polynomial (c.from_vec.ensures ∙ c.in_ok-targets.ensures) (c.from_vec-2.ensures ∙ c.in_ok-zero.ensures) (c.from_vec-3.ensures ∙ c.new.ensures.items) (c.from_vec-4.ensures ∙ c.new-2.ensures.items);
    }

pub returns : goal.returns
returns c =
    let polynomial = c.in_ok-baikov.ensures ∙ (λ i. normal_form deg_rev_lex (box_terms (c.of-s.ensures i) (c.of-t.ensures i) ((c.neg-u.ensures ∙ ap neg_mod c.of.ensures) i))) in
    λ i. record {
      name = c.in_ok-name.ensures i;
      n = 4;
      gamma = c.of-2.ensures i;
      baikov = polynomial i;
      targets = (c.from_vec.ensures ∙ c.in_ok-targets.ensures) i;
      zero = (c.from_vec-2.ensures ∙ c.in_ok-zero.ensures) i;
      bounds = record { dots_cap = 1; rank_cap = 2; extra_dots = 0; extra_rank = 0 };
      caps = (c.from_vec-3.ensures ∙ c.new.ensures.items) i;
      symmetries = (c.from_vec-4.ensures ∙ c.new-2.ensures.items) i;
      budget = record { pairs = 1000000; candidates = 20000; selection = Order };
      probe = None;
    }
