-- The rows that are kept span what all inserted rows span.
use Rattle.std.proofs.Common.{◌≡◌, ◌⊎◌, inl, inr, ℕ, ◌<◌, List, [], ◌∷◌, ◌++◌, length, map, sym, ap, subst, ◌∙◌, ⊎_elim}
use Rattle.std.specs.Prelude.{◌↔◌, Contains}
use Rattle.std.proofs.lemmas.List.{get_or_default}
use Rattle.std.proofs.lemmas.List.Elements.{Contains-get_or}
use Rattle.ibp_base.proofs.Members.{in_cases, in_head, in_tail, in_none}
use Rattle.sector_lattice.specs.Sectors.{integral_cmp}
use Rattle.sector_lattice.specs.Orders.{integral_cmp_total, same_integrals}
use Rattle.ibp_algebra.specs.Spans.{row_at}
use Rattle.ibp_algebra.proofs.Members.{InSpan-row, InSpan-trans}
use Rattle.sparse_rows.specs.Rows.{IntegralSum}
use Rattle.row_echelon.specs.declared.inserted.Inserted.{Inserted}
use Rattle.row_echelon.specs.declared.inserted.Inserted.TheVariants.{Kept, Dependent}
use Rattle.row_echelon.specs.Echelons.{KeptRows, row_numbered, IsNumber, InKeptSpan, IsBelow, Inserts}
use Rattle.row_echelon.specs.Laws.{InsertsAll}
use Rattle.row_echelon.specs.RowSpans.{WholeSpan}
use Rattle.row_echelon.proofs.Keeping.{number_cases, new_number, row_numbered-push_new, row_numbered-push_old, InKeptSpan-push}

-- the row itself is spanned
own_span : (old : KeptRows) (number : ℕ) (row : IntegralSum) → IsBelow old number → InKeptSpan (old ++ (number, row) ∷ []) row
own_span old number row below =
    let kept = old ++ (number, row) ∷ [] in
    subst (InKeptSpan kept) (row_numbered-push_new old number row below)
    (InSpan-row integral_cmp integral_cmp_total same_integrals (row_numbered kept) (IsNumber kept) number (new_number old (number, row)))

row_spanned : (old new : KeptRows) (row : IntegralSum) (number : ℕ) (answer : Inserted) → IsBelow old number → Inserts old new row number answer → InKeptSpan new row
row_spanned old new row number Kept below h = subst (λ (kept : KeptRows). InKeptSpan kept row) (sym h.1) (own_span old number row below)
row_spanned old new row number Dependent below h = subst (λ (kept : KeptRows). InKeptSpan kept row) (sym h.1) h.0

-- what was spanned before is still spanned
still_spanned : (old new : KeptRows) (row : IntegralSum) (number : ℕ) (answer : Inserted) → Inserts old new row number answer → (f : IntegralSum) → InKeptSpan old f → InKeptSpan new f
still_spanned old new row number Kept h f member = subst (λ (kept : KeptRows). InKeptSpan kept f) (sym h.1) (InKeptSpan-push old (number, row) f member)
still_spanned old new row number Dependent h f member = subst (λ (kept : KeptRows). InKeptSpan kept f) (sym h.1) member

all_still : (old new rows : KeptRows) → InsertsAll old new rows → (f : IntegralSum) → InKeptSpan old f → InKeptSpan new f
all_still old new [] h f member = subst (λ (kept : KeptRows). InKeptSpan kept f) (sym h) member
all_still old new (row ∷ rows) h f member = all_still h.0 new rows h.4 f (still_spanned old h.0 row.1 row.0 h.1 h.3 f member)

inserted_spanned : (old new rows : KeptRows) → InsertsAll old new rows → (f : IntegralSum) → Contains (map (λ row. row.1) rows) f → InKeptSpan new f
inserted_spanned old new [] h f inside = absurd (in_none f inside)
inserted_spanned old new (row ∷ rows) h f inside =
    ⊎_elim
    (λ (here : row.1 ≡ f). subst (InKeptSpan new) here (all_still h.0 new rows h.4 row.1 (row_spanned old h.0 row.1 row.0 h.1 h.2 h.3)))
    (λ (later : Contains (map (λ row. row.1) rows) f). inserted_spanned h.0 new rows h.4 f later)
    (in_cases row.1 (map (λ row. row.1) rows) f inside)

-- a row that is kept was kept before, or is the one that is inserted
abbrev CameFrom : KeptRows → KeptRows → KeptRows → ℕ → Type 0
CameFrom old new rows k = (IsNumber old k × (row_numbered new k ≡ row_numbered old k)) ⊎ Contains (map (λ row. row.1) rows) (row_numbered new k)

one_came_from : (old new : KeptRows) (row : IntegralSum) (number : ℕ) (answer : Inserted) (k : ℕ) → IsBelow old number → Inserts old new row number answer → IsNumber new k
    → (IsNumber old k × (row_numbered new k ≡ row_numbered old k)) ⊎ (row_numbered new k ≡ row)
one_came_from old new row number Kept k below h is =
    let joined = old ++ (number, row) ∷ [] in
    let is_kept : IsNumber joined k = subst (λ (kept : KeptRows). IsNumber kept k) h.1 is in
    let row_is : row_numbered new k ≡ row_numbered joined k = ap (λ (kept : KeptRows). row_numbered kept k) h.1 in
    ⊎_elim
    (λ (earlier : IsNumber old k). inl (earlier, row_is ∙ row_numbered-push_old old (number, row) k earlier))
    (λ (here : number ≡ k). inr (row_is ∙ subst (λ j. row_numbered joined j ≡ row) here (row_numbered-push_new old number row below)))
    (number_cases old (number, row) k is_kept)
one_came_from old new row number Dependent k below h is =
    inl (subst (λ (kept : KeptRows). IsNumber kept k) h.1 is, ap (λ (kept : KeptRows). row_numbered kept k) h.1)

came_from : (old new rows : KeptRows) → InsertsAll old new rows → (k : ℕ) → IsNumber new k → CameFrom old new rows k
came_from old new [] h k is = inl (subst (λ (kept : KeptRows). IsNumber kept k) h is, ap (λ (kept : KeptRows). row_numbered kept k) h)
came_from old new (row ∷ rows) h k is =
    let others : List IntegralSum = map (λ row. row.1) rows in
    ⊎_elim
    (λ (earlier : IsNumber h.0 k × (row_numbered new k ≡ row_numbered h.0 k)).
    ⊎_elim
    (λ (first : IsNumber old k × (row_numbered h.0 k ≡ row_numbered old k)). inl (first.0, earlier.1 ∙ first.1))
    (λ (here : row_numbered h.0 k ≡ row.1). inr (in_head row.1 others (row_numbered new k) (sym (earlier.1 ∙ here))))
    (one_came_from old h.0 row.1 row.0 h.1 k h.2 h.3 earlier.0))
    (λ (later : Contains others (row_numbered new k)). inr (in_tail row.1 others (row_numbered new k) later))
    (came_from h.0 new rows h.4 k is)

-- an element of a list is in the span of the list
pub WholeSpan-member : (rows : List IntegralSum) (f : IntegralSum) → Contains rows f → WholeSpan integral_cmp rows f
WholeSpan-member rows f inside =
    let is : row_at rows inside.0 ≡ f = get_or_default rows inside.0 [] f inside.1 ∙ inside.2 in
    subst (WholeSpan integral_cmp rows) is (InSpan-row integral_cmp integral_cmp_total same_integrals (row_at rows) (λ place. place < length rows) inside.0 inside.1)

pub kept_span_inserted : (rows kept : KeptRows) → InsertsAll [] kept rows → (f : IntegralSum) → InKeptSpan kept f ↔ WholeSpan integral_cmp (map (λ row. row.1) rows) f
kept_span_inserted rows kept h f =
    let all : List IntegralSum = map (λ row. row.1) rows in (
      λ member.
          InSpan-trans integral_cmp integral_cmp_total same_integrals (row_at all) (λ place. place < length all) (row_numbered kept) (IsNumber kept)
          (λ k is.
          WholeSpan-member all (row_numbered kept k)
          (⊎_elim
          (λ (first : IsNumber [] k × (row_numbered kept k ≡ row_numbered [] k)). absurd (in_none k first.0))
          (λ (inserted : Contains all (row_numbered kept k)). inserted)
          (came_from [] kept rows h k is)))
          member,
      λ member.
          InSpan-trans integral_cmp integral_cmp_total same_integrals (row_numbered kept) (IsNumber kept) (row_at all) (λ place. place < length all)
          (λ place within. inserted_spanned [] kept rows h (row_at all place) (Contains-get_or all place [] within))
          member,
    )
