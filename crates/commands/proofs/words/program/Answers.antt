use Rattle.std.proofs.Common.{◌≡◌, true, rules, ap, ap₂, ◌∙◌}
use Rattle.std.proofs.lemmas.Result.{IfOk-weaker}
use Rattle.clap.specs.Walk.{rule_of}
use Rattle.clap.specs.Simple.{app_of, app_of_fields, on_top, with_rule}
use Rattle.commands.specs.Program.{command_rule, number_rule, workers_rule, empty_program}
use Rattle.commands.proofs.words.program.Goals as goal

pub returns : goal.returns
returns c =
    let command_is : rule_of c.required-command.result ≡ command_rule = search rules in
    let number_is : rule_of c.new-number.result ≡ number_rule = search rules in
    let workers_is : rule_of c.long-workers.result ≡ workers_rule = search rules in
    let first_is = ap app_of_fields c.no_binary_name.ensures ∙ ap (on_top (λ s. record s { no_binary_name = true })) c.new-3.ensures.app in
    let second_is = ap app_of_fields c.disable_help_flag.ensures ∙ ap (on_top (λ s. record s { disable_help_flag = true })) first_is in
    let empty_is : app_of c.disable_version_flag.result ≡ empty_program = ap app_of_fields c.disable_version_flag.ensures ∙ ap (on_top (λ s. record s { disable_version_flag = true })) second_is in
    let one = c.in_ok-arg.ensures.shape (search rules) ∙ ap₂ with_rule empty_is command_is in
    let two = c.in_ok-arg-2.ensures.shape (search rules) ∙ ap₂ with_rule one number_is in
    IfOk-weaker c.arg-3.result _ _ (λ r h. h.shape (search rules) ∙ ap₂ with_rule two workers_is) c.arg-3.ensures
