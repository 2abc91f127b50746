use Rattle.std.proofs.Common.{ap, ap₂, ◌≡◌, ◌∙◌}
use Rattle.std.specs.Prelude.{codes, true}
use Rattle.std.proofs.lemmas.Result.{IfOk-weaker}
use Rattle.clap.specs.Simple.{app_of, app_of_fields, on_top, with_rule}
use Rattle.command_line.specs.Options.{bare_command, command_of_runs, flag_rule, sunvm_command}
use Rattle.command_line.proofs.options.command.Goals as goal

pub returns : goal.returns
unfolding sunvm_command
returns c =
    let bare : app_of c.disable_help_flag-named.result ≡ bare_command =
    ap app_of_fields c.disable_help_flag-named.ensures
    ∙ ap (on_top (λ s. record s { disable_help_flag = true })) (ap app_of_fields c.no_binary_name.ensures ∙ ap (on_top (λ s. record s { no_binary_name = true })) c.new.ensures.app) in
    let trace : app_of c.in_ok-arg.field-0 ≡ with_rule bare_command (flag_rule (codes "trace")) =
    c.in_ok-arg.ensures.shape c.flag.ensures.own ∙ ap₂ with_rule bare c.flag.ensures.rule in
    let pageout = c.in_ok-arg-2.ensures.shape c.pageout_word.ensures.own ∙ ap₂ with_rule trace c.pageout_word.ensures.rule in
    let runs : app_of c.in_ok-of_runs.of_runs ≡ command_of_runs = c.in_ok-of_runs.ensures.shape c.make_word.ensures.own ∙ ap₂ with_rule pageout c.make_word.ensures.rule in
    let check = c.in_ok-arg-3.ensures.shape c.flag-2.ensures.own ∙ ap₂ with_rule runs c.flag-2.ensures.rule in
    let quiet = c.in_ok-arg-4.ensures.shape c.flag-3.ensures.own ∙ ap₂ with_rule check c.flag-3.ensures.rule in
    let help = c.in_ok-arg-5.ensures.shape c.help_word.ensures.own ∙ ap₂ with_rule quiet c.help_word.ensures.rule in
    IfOk-weaker c.arg-7.result _ _ (λ m h. h.shape c.flag-4.ensures.own ∙ ap₂ with_rule help c.flag-4.ensures.rule) c.arg-7.ensures
