-- Subcommand by subcommand, what a parse reads of the command that was built so far.
use Rattle.std.proofs.Common.{◌∙◌, ◌≡◌, List, [], ◌∷◌, ap, ap₂, false}
use Rattle.std.proofs.lemmas.Result.{IfOk-weaker}
use Rattle.clap.specs.Simple.{App, Shape, app_of, with_subcommand}
use Rattle.smv_command.specs.CommandLine as line
use Rattle.smv_command.proofs.command_line.smv.Goals as goal

-- the command with the subcommands so far
abbrev so_far : List Shape → App
so_far subs = record { top = record line.bare { is_leaf = false }; subs = subs }

abbrev top_of : App → Shape
top_of a = a.top

pub returns : goal.returns
returns c =
    let with_1 : app_of c.in_ok-subcommand.field-0 ≡ so_far (line.prove ∷ []) =
    c.in_ok-subcommand.ensures.shape c.in_ok-prove.ensures.local ∙ ap₂ with_subcommand c.bare.ensures (ap top_of c.in_ok-prove.ensures.app) in
    let with_2 : app_of c.in_ok-subcommand-2.field-0 ≡ so_far (line.prove ∷ line.only ∷ []) =
    c.in_ok-subcommand-2.ensures.shape c.in_ok-only.ensures.local ∙ ap₂ with_subcommand with_1 (ap top_of c.in_ok-only.ensures.app) in
    let with_3 : app_of c.in_ok-subcommand-3.field-0 ≡ so_far (line.prove ∷ line.only ∷ line.print ∷ []) =
    c.in_ok-subcommand-3.ensures.shape c.new.ensures.local ∙ ap₂ with_subcommand with_2 (ap top_of c.new.ensures.app) in
    let with_4 : app_of c.in_ok-subcommand-4.field-0 ≡ so_far (line.prove ∷ line.only ∷ line.print ∷ line.generated ∷ []) =
    c.in_ok-subcommand-4.ensures.shape c.in_ok-generated.ensures.local ∙ ap₂ with_subcommand with_3 (ap top_of c.in_ok-generated.ensures.app) in
    let with_5 : app_of c.in_ok-subcommand-5.field-0 ≡ so_far (line.prove ∷ line.only ∷ line.print ∷ line.generated ∷ line.proof ∷ []) =
    c.in_ok-subcommand-5.ensures.shape c.in_ok-proof.ensures.local ∙ ap₂ with_subcommand with_4 (ap top_of c.in_ok-proof.ensures.app) in
    let with_6 : app_of c.in_ok-subcommand-6.field-0 ≡ so_far (line.prove ∷ line.only ∷ line.print ∷ line.generated ∷ line.proof ∷ line.check ∷ []) =
    c.in_ok-subcommand-6.ensures.shape c.new-2.ensures.local ∙ ap₂ with_subcommand with_5 (ap top_of c.new-2.ensures.app) in
    let with_7 : app_of c.in_ok-subcommand-7.field-0 ≡ so_far (line.prove ∷ line.only ∷ line.print ∷ line.generated ∷ line.proof ∷ line.check ∷ line.resume ∷ []) =
    c.in_ok-subcommand-7.ensures.shape c.in_ok-resume.ensures.local ∙ ap₂ with_subcommand with_6 (ap top_of c.in_ok-resume.ensures.app) in
    let with_8 : app_of c.in_ok-subcommand-8.field-0 ≡ so_far (line.prove ∷ line.only ∷ line.print ∷ line.generated ∷ line.proof ∷ line.check ∷ line.resume ∷ line.confirm ∷ []) =
    c.in_ok-subcommand-8.ensures.shape c.in_ok-confirm.ensures.local ∙ ap₂ with_subcommand with_7 (ap top_of c.in_ok-confirm.ensures.app) in
    let with_9 : app_of c.in_ok-subcommand-9.field-0 ≡ so_far (line.prove ∷ line.only ∷ line.print ∷ line.generated ∷ line.proof ∷ line.check ∷ line.resume ∷ line.confirm ∷ line.induct ∷ []) =
    c.in_ok-subcommand-9.ensures.shape c.in_ok-induct.ensures.local ∙ ap₂ with_subcommand with_8 (ap top_of c.in_ok-induct.ensures.app) in
    IfOk-weaker c.subcommand-10.result _ _ (λ command added. added.shape c.in_ok-ltl.ensures.local ∙ ap₂ with_subcommand with_9 (ap top_of c.in_ok-ltl.ensures.app))
    c.subcommand-10.ensures
