use Rattle.std.proofs.Common.{◌≡◌, Some, [], ◌∷◌, ◌++◌, subst, sym, refl, ◌∙◌, ap}
use Rattle.row_echelon.specs.KeptRows.{IsEchelon, originals, reduced_rows}
use Rattle.row_echelon.specs.Echelons.{KeptRows, InKeptSpan, IsBelow}
use Rattle.row_echelon.proofs.Keeping.{Joins-inserted, in_span, no_pivot_lead, IsFirstTerm-at, inverse_there}
use Rattle.row_echelon.proofs.ByColumns.{AnyTable-none, AnyTable-joined}
use Rattle.row_echelon.proofs.echelon.Echelon.insert.Goals as goal

pub unwrap-inverse-requires : goal.unwrap-inverse-requires
unwrap-inverse-requires c =
    let first = IsFirstTerm-at c.in_ok-left.left.eliminated.rest c.in-Some.first c.in_ok-left.ensures.canonical c.in-Some.ensures.first in
    inverse_there c.inverse.result c.in-Some.first.1 c.inverse.ensures.none.0 first.not_zero

pub append-requires : goal.append-requires
append-requires c = no_pivot_lead _ _ _ c.in-Some.ensures.first c.in_ok-left.ensures.lead

pub invariant_of-self-in-Some : goal.invariant_of-self-in-Some
invariant_of-self-in-Some c =
    let es = c.self.inside.kept.entries in
    let left = c.in_ok-left.left.eliminated in
    let kept = c.in_ok-entry-in-Some in
    let joined = Joins-inserted es c.args.row.now c.args.number c.in-Some.first left.rest left.steps.items kept.entry c.inverse.result c.self.invariant.0
    (subst (λ rows. IsBelow rows c.args.number) (sym c.self.view_is) c.requires) kept.ensures.number kept.ensures.bound c.in_ok-left.ensures.row c.in_ok-left.ensures.sum c.in_ok-left.ensures.places
    c.in_ok-left.ensures.canonical c.in_ok-left.ensures.lead c.in-Some.ensures.first kept.ensures.reduced kept.ensures.steps c.inverse.ensures.inverse (c.unwrap-inverse.ensures ∙ ap Some (sym kept.ensures.inverse))
    in (
      subst IsEchelon (sym c.in_ok-append-in-Some.ensures.ok) joined.echelon,
      AnyTable-joined c.in_ok-left.left.table es _ c.in-Some.first kept.entry left.rest c.in_ok-append-in-Some.ensures.ok c.in-Some.ensures.first kept.ensures.reduced c.in_ok-left.ensures.table,
    )

pub invariant_of-self-in-None : goal.invariant_of-self-in-None
invariant_of-self-in-None c = (
  c.self.invariant.0,
  AnyTable-none c.in_ok-left.left.table (reduced_rows c.self.inside.kept.entries) c.in_ok-left.left.eliminated.rest (c.in-None.ensures.none.0 refl) c.in_ok-left.ensures.table,
)

pub returns-in-None-clause-ok : goal.returns-in-None-clause-ok
returns-in-None-clause-ok c =
    let left = c.in_ok-left.left.eliminated in (
      subst (λ kept. InKeptSpan kept c.args.row.now) c.self.view_is
          (in_span c.self.inside.kept.entries c.args.row.now left.rest left.steps.items c.self.invariant.0 c.in_ok-left.ensures.sum c.in_ok-left.ensures.places
          (c.in-None.ensures.none.0 refl)),
      c.self.view_is,
    )

pub returns-clause-ok : goal.returns-clause-ok
returns-clause-ok c =
    let es = c.self.inside.kept.entries in
    let left = c.in_ok-left.left.eliminated in
    let kept = c.in_ok-entry-in-Some in
    let joined = Joins-inserted es c.args.row.now c.args.number c.in-Some.first left.rest left.steps.items kept.entry c.inverse.result c.self.invariant.0
    (subst (λ rows. IsBelow rows c.args.number) (sym c.self.view_is) c.requires) kept.ensures.number kept.ensures.bound c.in_ok-left.ensures.row c.in_ok-left.ensures.sum c.in_ok-left.ensures.places
    c.in_ok-left.ensures.canonical c.in_ok-left.ensures.lead c.in-Some.ensures.first kept.ensures.reduced kept.ensures.steps c.inverse.ensures.inverse (c.unwrap-inverse.ensures ∙ ap Some (sym kept.ensures.inverse))
    in
    let number : ◌≡◌ {A = KeptRows} (originals [] es ++ (kept.entry.number, c.args.row.now) ∷ []) (originals [] es ++ (c.args.number, c.args.row.now) ∷ []) =
    ap (λ n. let rows : KeptRows = originals [] es ++ (n, c.args.row.now) ∷ [] in rows) kept.ensures.number in (
      subst (λ kept. ¬ (InKeptSpan kept c.args.row.now)) c.self.view_is joined.new,
      ap (originals []) c.in_ok-append-in-Some.ensures.ok ∙ joined.kept_is ∙ number ∙ ap (λ (kept : KeptRows). kept ++ (c.args.number, c.args.row.now) ∷ []) c.self.view_is,
    )

pub returns-clause-independent : goal.returns-clause-independent
returns-clause-independent c =
    let es = c.self.inside.kept.entries in
    let left = c.in_ok-left.left.eliminated in
    let kept = c.in_ok-entry-in-Some in
    let joined = Joins-inserted es c.args.row.now c.args.number c.in-Some.first left.rest left.steps.items kept.entry c.inverse.result c.self.invariant.0
    (subst (λ rows. IsBelow rows c.args.number) (sym c.self.view_is) c.requires) kept.ensures.number kept.ensures.bound c.in_ok-left.ensures.row c.in_ok-left.ensures.sum c.in_ok-left.ensures.places
    c.in_ok-left.ensures.canonical c.in_ok-left.ensures.lead c.in-Some.ensures.first kept.ensures.reduced kept.ensures.steps c.inverse.ensures.inverse (c.unwrap-inverse.ensures ∙ ap Some (sym kept.ensures.inverse))
    in
    (subst IsEchelon (sym c.in_ok-append-in-Some.ensures.ok) joined.echelon).independent
