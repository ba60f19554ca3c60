-- Setting by setting, what a parse reads of the command.
use Rattle.std.proofs.Common.{◌∙◌, ◌≡◌, ap, codes, true}
use Rattle.clap.specs.Simple.{app_of, app_of_fields, new_app, on_top}
use Rattle.smv_look_command.proofs.command_line.bare.Goals as goal

pub returns : goal.returns
returns c =
    let named : app_of c.no_binary_name.result ≡ on_top (λ s. record s { no_binary_name = true }) (new_app (codes "smv_look")) =
    ap app_of_fields c.no_binary_name.ensures ∙ ap (on_top (λ s. record s { no_binary_name = true })) c.new.ensures.app in
    let unhelped : app_of c.disable_help_flag.result ≡ on_top (λ s. record s { no_binary_name = true; disable_help_flag = true }) (new_app (codes "smv_look")) =
    ap app_of_fields c.disable_help_flag.ensures ∙ ap (on_top (λ s. record s { disable_help_flag = true })) named in
    let helpless : app_of c.disable_help_subcommand.result ≡ on_top (λ s. record s { no_binary_name = true; disable_help_flag = true; disable_help_subcommand = true }) (new_app (codes "smv_look")) =
    ap app_of_fields c.disable_help_subcommand.ensures ∙ ap (on_top (λ s. record s { disable_help_subcommand = true })) unhelped in
    let unversioned : app_of c.disable_version_flag.result ≡ on_top (λ s. record s { no_binary_name = true; disable_help_flag = true; disable_help_subcommand = true; disable_version_flag = true }) (new_app (codes "smv_look")) =
    ap app_of_fields c.disable_version_flag.ensures ∙ ap (on_top (λ s. record s { disable_version_flag = true })) helpless in
    ap app_of_fields c.subcommand_required.ensures ∙ ap (on_top (λ s. record s { subcommand_required = true })) unversioned
