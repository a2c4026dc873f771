use Rattle.std.proofs.Common.{◌≡◌, ap, sym, subst, ◌∙◌, map, string_bytes, Global}
use denote.Enum.Bare.{same_false}
use Rattle.clap.specs.contracts.error.kind.ErrorKind.{the_type}
use Rattle.clap.specs.Simple.{app_of, is_simple, matches_of}
use Rattle.clap.specs.Kinds.{HasKind}
use Rattle.clap.specs.Faults.{fault_of, is_simple_and_free}
use Rattle.commands.specs.Program.{program}
use Rattle.commands.proofs.Rows.{program_is_simple, program_is_free, found, not_found}
use Rattle.commands.proofs.words.matches_of.Goals as goal

pub returns-in-Ok-try_get_matches_from-clause-rows : goal.returns-in-Ok-try_get_matches_from-clause-rows
returns-in-Ok-try_get_matches_from-clause-rows c =
    let words = map (string_bytes {Z = Global}) c.args.words.now in
    let parse = c.in-Ok-try_get_matches_from.ensures in
    let app_is : app_of c.in-Ok.program ≡ program = c.in-Ok.ensures in
    let no_fault = parse.kinds (ap is_simple_and_free app_is ∙ program_is_free) in
    let rows = (parse.matches (ap is_simple app_is ∙ program_is_simple)).0 in
    found words _ (ap (λ a. fault_of a words) (sym app_is) ∙ no_fault) (rows ∙ ap (λ a. matches_of a words) app_is)

pub returns-clause-usage : goal.returns-clause-usage
returns-clause-usage c same =
    let words = map (string_bytes {Z = Global}) c.args.words.now in
    let error = c.in-Err-try_get_matches_from.error in
    let app_is : app_of c.in-Ok.program ≡ program = c.in-Ok.ensures in
    let kinds = c.in-Err-try_get_matches_from.ensures.kinds (ap is_simple_and_free app_is ∙ program_is_free) in
    let has : HasKind (fault_of program words) error = subst (λ a. HasKind (fault_of a words) error) app_is kinds in
    not_found words error has (λ memory. same_false the_type _ _ (sym c.eq.ensures ∙ c.if-eq.false) (c.kind.ensures ∙ memory))
