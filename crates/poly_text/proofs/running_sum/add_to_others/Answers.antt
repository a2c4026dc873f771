use Rattle.std.proofs.Common.{◌≡◌, ◌+◌, ◌%◌, sym, ap, ◌∙◌}
use Rattle.std.proofs.lemmas.Bool.Decides.{Decides-eqb, not_from_Decides}
use Rattle.std.specs.Option.{unwrap_or}
use Rattle.ibp_algebra.specs.Exponents.{deg_rev_lex}
use Rattle.ibp_algebra.specs.ExponentOrder.{deg_rev_lex_total, deg_rev_lex_unique}
use Rattle.poly_text.proofs.TermMaps.{found_at, found_at-coefficient, removed, inserted}
use Rattle.poly_text.proofs.running_sum.add_to_others.Goals as goal
use Rattle.poly_text.proofs.running_sum.add_to_others.Goals.{then-eq, else-eq+in_ok-insert}

found : (c : goal.Joined-eq) → c.unwrap_or-before.result ≡ found_at deg_rev_lex deg_rev_lex_total c.args.others.now.entries c.args.monomial
found c = c.unwrap_or-before.ensures ∙ (λ i. unwrap_or ((c.copied.ensures ∙ c.get.ensures.value) i) (c.zero.ensures i))

pub returns-clause-before : goal.returns-clause-before
returns-clause-before c = found c ∙ found_at-coefficient deg_rev_lex deg_rev_lex_total deg_rev_lex_unique c.args.others.now.entries c.args.monomial c.requires

pub returns-clause-added : goal.returns-clause-added
returns-clause-added c =
    let terms = c.args.others.now.entries in
    let sum = c.add-sum.ensures ∙ ap (λ n. (n + c.args.value) % 2147483647) (found c) in
    elim c.if-eq.branch [
      | then-eq w ↦
          let none : c.add-sum.result ≡ 0 = (Decides-eqb c.add-sum.result c.zero-2.result).0 (sym c.eq.ensures ∙ w.if-eq.true) ∙ c.zero-2.ensures in
          (λ i. (w.others-is i).entries) ∙ w.remove.ensures.entries ∙ removed deg_rev_lex deg_rev_lex_total terms c.args.monomial c.args.value c.requires (sym sum ∙ none)
      | else-eq+in_ok-insert w ↦
          let some : ¬ (c.add-sum.result ≡ 0) = λ e. not_from_Decides _ (Decides-eqb c.add-sum.result c.zero-2.result) (sym c.eq.ensures ∙ w.if-eq.false) (e ∙ sym c.zero-2.ensures) in
          (λ i. (w.others-is i).entries) ∙ w.in_ok-insert.ensures.entries ∙ inserted deg_rev_lex deg_rev_lex_total terms c.args.monomial c.args.value c.add-sum.result c.requires sum some
    ]
