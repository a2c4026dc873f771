use Rattle.std.proofs.Common.{◌≡◌, ℕ, ℤ, List, [], ◌∷◌, ◌++◌, true, false, sym, ap, ◌∙◌, subst, arith}
use Rattle.std.specs.Prelude.{nat_eq}
use Rattle.std.specs.Cmp.Lexicographic.{pointwise}
use Rattle.std.specs.List.{AllByRecursion}
use Rattle.line_reader.proofs.Words.{not_none, some_holds, if_holds, same_bytes, bytes_same}
use Rattle.system_text.specs.Texts.{row_text}
use Rattle.system_text.specs.Integrals.{IsRowTerm}
use Rattle.system_text.specs.SystemValues.{IsRow}
use Rattle.system_text.proofs.Cuts.{apart, row_zero}
use Rattle.system_text.proofs.Sums.{row_found, each_row_term, same_rows}
use Rattle.system_text.proofs.read_integrals.row_told.Goals as goal

pub returns-then-eq-clause-told : goal.returns-then-eq-clause-told
returns-then-eq-clause-told c row is e =
    let zero : c.args.bytes.now ≡ 48 ∷ 10 ∷ [] = same_bytes c.args.bytes.now c.as_slice.result.now (sym c.eq.ensures ∙ c.if-eq.true) ∙ c.as_slice.ensures in
    same_rows row c.in_ok-from_terms.field-0 [] is.canonical c.in_ok-from_terms.ensures.canonical c.in_ok-from_terms.ensures.sum (sym (row_zero c.args.n row c.args.bytes.now is e zero))

pub returns-then-eq-clause-row : goal.returns-then-eq-clause-row
returns-then-eq-clause-row c = row_found c.args.n c.in_ok-from_terms.field-0 [] c.in_ok-from_terms.ensures.canonical c.in_ok-from_terms.ensures.sum tt

pub returns-in_default-clause-told : goal.returns-in_default-clause-told
returns-in_default-clause-told c row is e = by row is e
  where
    by : (row : List (List ℤ × ℕ)) → IsRow c.args.n row → c.args.bytes.now ≡ row_text row ++ 10 ∷ [] → ⊥
    by [] is e =
        let same : c.args.bytes.now ≡ c.as_slice.result.now = e ∙ sym c.as_slice.ensures in
        let wrong : true ≡ false = sym (ap (λ (t : List ℕ). pointwise nat_eq t c.as_slice.result.now) same ∙ bytes_same c.as_slice.result.now) ∙ sym c.eq.ensures ∙ c.if-eq.false in
        absurd (cc)
    by (t ∷ row) is e =
        let each = each_row_term c.args.n (t ∷ row) is.canonical is.integrals in
        not_none c.in_ok-terms.field-0 _ (c.in_ok-terms.ensures.reads t row (10 ∷ []) each.0 each.1 tt (λ r. apart 10 32 [] r (omega arith)) e) c.in_default.is

pub returns-clause-told : goal.returns-clause-told
returns-clause-told c row is e = by row is e
  where
    by : (row : List (List ℤ × ℕ)) → IsRow c.args.n row → c.args.bytes.now ≡ row_text row ++ 10 ∷ [] → c.in_ok-from_terms-2.field-0 ≡ row
    by [] is e =
        let same : c.args.bytes.now ≡ c.as_slice.result.now = e ∙ sym c.as_slice.ensures in
        let wrong : true ≡ false = sym (ap (λ (t : List ℕ). pointwise nat_eq t c.as_slice.result.now) same ∙ bytes_same c.as_slice.result.now) ∙ sym c.eq.ensures ∙ c.if-eq.false in
        absurd (cc)
    by (t ∷ row) is e =
        let each = each_row_term c.args.n (t ∷ row) is.canonical is.integrals in
        let read = some_holds c.in_ok-terms.field-0 _ (c.in-Some.terms, c.in-Some.field-0-1)
        (c.in_ok-terms.ensures.reads t row (10 ∷ []) each.0 each.1 tt (λ r. apart 10 32 [] r (omega arith)) e) c.in-Some.is in
        same_rows (t ∷ row) c.in_ok-from_terms-2.field-0 c.deref.result.now is.canonical c.in_ok-from_terms-2.ensures.canonical c.in_ok-from_terms-2.ensures.sum (c.deref.ensures.value ∙ read.0)

pub returns-clause-row : goal.returns-clause-row
returns-clause-row c =
    row_found c.args.n c.in_ok-from_terms-2.field-0 c.deref.result.now c.in_ok-from_terms-2.ensures.canonical c.in_ok-from_terms-2.ensures.sum
    (subst (λ (ts : List (List ℤ × ℕ)). AllByRecursion (IsRowTerm c.args.n) ts) (sym c.deref.ensures.value)
    (if_holds c.in_ok-terms.field-0 _ (c.in-Some.terms, c.in-Some.field-0-1) c.in_ok-terms.ensures.entries c.in-Some.is))
