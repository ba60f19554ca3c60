-- Subcommand by subcommand, what a parse reads of the command that was built so far.
use Rattle.std.proofs.Common.{◌∙◌, ◌≡◌, List, [], ◌∷◌, ap, ap₂, false}
use Rattle.std.proofs.lemmas.Result.{IfOk-weaker}
use Rattle.clap.specs.Simple.{App, Shape, app_of, with_subcommand}
use Rattle.smv_look_command.specs.CommandLine as line
use Rattle.smv_look_command.proofs.command_line.smv_look.Goals as goal

-- the command with the subcommands so far
abbrev so_far : List Shape → App
so_far subs = record { top = record line.bare { is_leaf = false }; subs = subs }

abbrev top_of : App → Shape
top_of a = a.top

pub returns : goal.returns
returns c =
    let with_1 : app_of c.in_ok-subcommand.field-0 ≡ so_far (line.list ∷ []) =
    c.in_ok-subcommand.ensures.shape c.new.ensures.local ∙ ap₂ with_subcommand c.bare.ensures (ap top_of c.new.ensures.app) in
    let with_2 : app_of c.in_ok-subcommand-2.field-0 ≡ so_far (line.list ∷ line.cone ∷ []) =
    c.in_ok-subcommand-2.ensures.shape c.in_ok-cone.ensures.local ∙ ap₂ with_subcommand with_1 (ap top_of c.in_ok-cone.ensures.app) in
    let with_3 : app_of c.in_ok-subcommand-3.field-0 ≡ so_far (line.list ∷ line.cone ∷ line.lint ∷ []) =
    c.in_ok-subcommand-3.ensures.shape c.new-2.ensures.local ∙ ap₂ with_subcommand with_2 (ap top_of c.new-2.ensures.app) in
    let with_4 : app_of c.in_ok-subcommand-4.field-0 ≡ so_far (line.list ∷ line.cone ∷ line.lint ∷ line.explain ∷ []) =
    c.in_ok-subcommand-4.ensures.shape c.new-3.ensures.local ∙ ap₂ with_subcommand with_3 (ap top_of c.new-3.ensures.app) in
    let with_5 : app_of c.in_ok-subcommand-5.field-0 ≡ so_far (line.list ∷ line.cone ∷ line.lint ∷ line.explain ∷ line.sets ∷ []) =
    c.in_ok-subcommand-5.ensures.shape c.in_ok-sets.ensures.local ∙ ap₂ with_subcommand with_4 (ap top_of c.in_ok-sets.ensures.app) in
    let with_6 : app_of c.in_ok-subcommand-6.field-0 ≡ so_far (line.list ∷ line.cone ∷ line.lint ∷ line.explain ∷ line.sets ∷ line.front ∷ []) =
    c.in_ok-subcommand-6.ensures.shape c.new-4.ensures.local ∙ ap₂ with_subcommand with_5 (ap top_of c.new-4.ensures.app) in
    IfOk-weaker c.subcommand-7.result _ _ (λ command added. added.shape c.in_ok-aiger.ensures.local ∙ ap₂ with_subcommand with_6 (ap top_of c.in_ok-aiger.ensures.app))
    c.subcommand-7.ensures
