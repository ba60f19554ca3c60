use Rattle.std.proofs.Common.{◌≡◌, [], ◌++◌, OnOk, ap, ◌∙◌, subst}
use Rattle.std.specs.Prelude.{List}
use Rattle.std.specs.List.{flat_map}
use Rattle.smv_core.specs.declared.fault.Fault.{Fault}
use Rattle.law_designs.specs.KindFaults.{in_item}
use Rattle.smv_expression_kinds.specs.Found.{scope_of}
use Rattle.smv_operand_kinds.proofs.KindLaws.{vars-none}
use Rattle.smv_kinds.proofs.TopLaws.{top-Alias, top-Module}
use Rattle.smv_kinds.proofs.faults.top_faults.Goals as goal

pub returns-in-Alias : goal.returns-in-Alias
returns-in-Alias c =
    let top = c.in-Alias in
    subst (λ (l : List Fault). OnOk c.type_faults.result (c.type_faults.new.out.items ≡ c.args.out.now.items ++ l))
    (top-Alias c.args.scope.now c.args.top.now top.name top.of top.at top.is) c.type_faults.ensures

pub returns-in-Module : goal.returns-in-Module
returns-in-Module c =
    let top = c.in-Module in
    subst (λ (l : List Fault). OnOk c.items.result (c.items.new.out.items ≡ c.args.out.now.items ++ l))
    (ap (λ vars. flat_map (in_item (scope_of c.args.scope.now) vars) c.as_slice.result.now) (vars-none c.args.scope.now.tables.now.names) ∙ ap (flat_map (in_item (scope_of c.args.scope.now) [])) c.as_slice.ensures
    ∙ top-Module c.args.scope.now c.args.top.now top.name top.formals top.body top.at c.requires.here top.is) c.items.ensures
