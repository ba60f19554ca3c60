-- Argument by argument, what a parse reads of the command that was built so far, and that none is global.
use Rattle.std.proofs.Common.{◌∙◌, ◌≡◌, ◌||◌, List, [], ◌∷◌, ap₂, codes, false}
use Rattle.std.proofs.lemmas.Result.{IfOk-weaker}
use Rattle.clap.specs.Walk.{Rule}
use Rattle.clap.specs.Simple.{App, app_of, with_rule}
use Rattle.clap.specs.declared.builder.command.Command.TheViews.{out-Command}
use Rattle.smv_command.specs.CommandLine as line
use Rattle.smv_command.proofs.command_line.confirm.Goals as goal

-- the command with the arguments so far
abbrev so_far : List Rule → App
so_far rules = record { top = line.subcommand (codes "confirm") rules; subs = [] }

pub returns : goal.returns
returns c =
    let with_1 : app_of c.in_ok-arg.field-0 ≡ so_far (line.name ∷ []) = c.in_ok-arg.ensures.shape c.name.ensures.local ∙ ap₂ with_rule c.new.ensures.app c.name.ensures.read in
    let with_2 : app_of c.in_ok-arg-2.field-0 ≡ so_far (line.name ∷ line.sizes ∷ []) = c.in_ok-arg-2.ensures.shape c.sizes.ensures.local ∙ ap₂ with_rule with_1 c.sizes.ensures.read in
    let with_3 : app_of c.in_ok-arg-3.field-0 ≡ so_far (line.name ∷ line.sizes ∷ line.bits ∷ []) = c.in_ok-arg-3.ensures.shape c.bits.ensures.local ∙ ap₂ with_rule with_2 c.bits.ensures.read in
    let with_4 : app_of c.in_ok-arg-4.field-0 ≡ so_far (line.name ∷ line.sizes ∷ line.bits ∷ line.nodes ∷ []) = c.in_ok-arg-4.ensures.shape c.nodes.ensures.local ∙ ap₂ with_rule with_3 c.nodes.ensures.read in
    let local_1 : (out-Command c.in_ok-arg.field-0).has_globals ≡ false = c.in_ok-arg.ensures.globals ∙ ap₂ ◌||◌ c.new.ensures.local c.name.ensures.local in
    let local_2 : (out-Command c.in_ok-arg-2.field-0).has_globals ≡ false = c.in_ok-arg-2.ensures.globals ∙ ap₂ ◌||◌ local_1 c.sizes.ensures.local in
    let local_3 : (out-Command c.in_ok-arg-3.field-0).has_globals ≡ false = c.in_ok-arg-3.ensures.globals ∙ ap₂ ◌||◌ local_2 c.bits.ensures.local in
    let local_4 : (out-Command c.in_ok-arg-4.field-0).has_globals ≡ false = c.in_ok-arg-4.ensures.globals ∙ ap₂ ◌||◌ local_3 c.nodes.ensures.local in
    IfOk-weaker c.arg-5.result _ _
    (λ command added. record { app = added.shape c.steps.ensures.local ∙ ap₂ with_rule with_4 c.steps.ensures.read; local = added.globals ∙ ap₂ ◌||◌ local_4 c.steps.ensures.local })
    c.arg-5.ensures
