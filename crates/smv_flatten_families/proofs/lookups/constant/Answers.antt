use Rattle.std.proofs.Common.{◌≡◌, length, refl, ap, sym, ◌∙◌}
use Rattle.smv_core.specs.Outcome.{fields_of}
use Rattle.smv_flatten_families.specs.Held.{scope_here}
use Rattle.std.proofs.lemmas.Result.{IfOk-weaker}
use Rattle.std.specs.Prelude.{Some, None, option_map}
use Rattle.smv_core.specs.Types.{find_name}
use Rattle.smv_core.specs.declared.flat.FlatExpr.{Constant}
use Rattle.law_designs.specs.Numbers.{constant_in}
use Rattle.smv_flatten_families.proofs.FoundLaws.{constants-here}
use Rattle.smv_flatten_families.proofs.ConstantLaws.{constant-is, constant-none, no-name}
use Rattle.smv_flatten_families.proofs.lookups.constant.Goals as goal

pub returns-in-Some-find : goal.returns-in-Some-find
returns-in-Some-find c =
    constant-is (scope_here c.args.here) (fields_of c.args.parts.now) c.in-Some.name.now (Some c.in-Some-find.constant.now) c.args.at (sym c.lone_name_of.ensures ∙ ap (option_map (λ name. name.now)) c.in-Some.is)
    (c.in-Some-find.ensures ∙ ap (λ l. find_name l c.in-Some.name.now) (constants-here c.args.here c.requires)) c.in-Some-find.constant.now refl

pub returns-in-None-find : goal.returns-in-None-find
returns-in-None-find c =
    IfOk-weaker c.no_constant.result (λ e. e ≡ Constant (length (scope_here c.args.here).enums) 0 c.args.at) (λ e. e ≡ constant_in (scope_here c.args.here) (fields_of c.args.parts.now) c.args.at) (λ e is.
    is
    ∙ constant-none (scope_here c.args.here) (fields_of c.args.parts.now) c.in-Some.name.now None c.args.at (sym c.lone_name_of.ensures ∙ ap (option_map (λ name. name.now)) c.in-Some.is)
    (c.in-None-find.ensures ∙ ap (λ l. find_name l c.in-Some.name.now) (constants-here c.args.here c.requires)) refl) c.no_constant.ensures

pub returns-in-None : goal.returns-in-None
returns-in-None c =
    IfOk-weaker c.no_constant-in-None.result (λ e. e ≡ Constant (length (scope_here c.args.here).enums) 0 c.args.at) (λ e. e ≡ constant_in (scope_here c.args.here) (fields_of c.args.parts.now) c.args.at) (λ e is. is ∙ no-name (scope_here c.args.here) (fields_of c.args.parts.now) c.args.at (sym c.lone_name_of.ensures ∙ ap (option_map (λ name. name.now)) c.in-None.is)) c.no_constant-in-None.ensures
