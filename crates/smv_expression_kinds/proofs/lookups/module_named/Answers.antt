use Rattle.std.proofs.Common.{ap, sym, ◌∙◌}
use Rattle.std.specs.Prelude.{option_map}
use Rattle.smv_core.specs.Types.{find_name}
use Rattle.smv_expression_kinds.specs.Found.{scope_of, moved}
use Rattle.smv_expression_kinds.proofs.ScopeLaws.{moved-module}
use Rattle.smv_expression_kinds.proofs.lookups.module_named.Goals as goal

pub returns : goal.returns
returns c =
    ap (option_map (λ place. (scope_of (moved c.args.scope.now place)).here)) (c.copied.ensures ∙ c.find.ensures ∙ ap (λ l. find_name l c.args.name.now) c.requires.modules)
    ∙ sym (moved-module c.args.scope.now c.args.name.now)
