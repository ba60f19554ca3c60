use Rattle.std.proofs.Common.{ap, sym, ◌∙◌}
use Rattle.std.specs.Prelude.{Some, slice_get}
use Rattle.std.specs.Option.{option_copied}
use Rattle.smv_expression_kinds.proofs.ScopeLaws.{formals-are}
use Rattle.smv_expression_kinds.proofs.lookups.formals_of.Goals as goal

pub returns-in-Some-Module : goal.returns-in-Some-Module
returns-in-Some-Module c =
    c.as_slice-in-Some-Module.ensures
    ∙ sym (formals-are c.args.scope.now _ (ap (λ l. slice_get l c.args.scope.now.place) (sym c.as_slice.ensures) ∙ sym c.item_at.ensures ∙ ap option_copied c.in-Some-Module.is ∙ ap Some c.in-Some-Module.field-0-is))

pub returns-in-Some-SetType : goal.returns-in-Some-SetType
returns-in-Some-SetType c =
    sym (formals-are c.args.scope.now _ (ap (λ l. slice_get l c.args.scope.now.place) (sym c.as_slice.ensures) ∙ sym c.item_at.ensures ∙ ap option_copied c.in-Some-SetType.is ∙ ap Some c.in-Some-SetType.field-0-is))

pub returns-in-Some-Alias : goal.returns-in-Some-Alias
returns-in-Some-Alias c =
    sym (formals-are c.args.scope.now _ (ap (λ l. slice_get l c.args.scope.now.place) (sym c.as_slice.ensures) ∙ sym c.item_at.ensures ∙ ap option_copied c.in-Some-Alias.is ∙ ap Some c.in-Some-Alias.field-0-is))

pub returns-in-None : goal.returns-in-None
returns-in-None c =
    sym (formals-are c.args.scope.now _ (ap (λ l. slice_get l c.args.scope.now.place) (sym c.as_slice.ensures) ∙ sym c.item_at.ensures ∙ ap option_copied c.in-None.is))
