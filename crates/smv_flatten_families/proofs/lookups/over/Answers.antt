use Rattle.std.proofs.Common.{◌≡◌, length, sym, ◌∙◌, arith}
use Rattle.smv_flatten_families.specs.Held.{scope_here}
use Rattle.std.proofs.lemmas.Result.{IfOk-weaker}
use Rattle.std.specs.Prelude.{Some, None}
use Rattle.smv_core.specs.declared.flat.Simple.TheVariants.{Enum}
use Rattle.law_designs.specs.Numbers.{flat_over}
use Rattle.smv_flatten_families.specs.Simples.{numbering}
use Rattle.smv_flatten_families.proofs.FoundLaws.{over-found}
use Rattle.smv_flatten_families.proofs.lookups.over.Goals as goal

pub returns-in-Some : goal.returns-in-Some
returns-in-Some c =
    let long : c.len.result ≡ length c.args.here.numbers.now.types.forms.items = omega (arith, c.len.ensures, c.args.here.numbers.now.types.forms.ok.0) in
    over-found c.args.here c.args.of.now c.len.result (Some c.in-Some.over) c.requires long (sym c.in-Some.is ∙ c.in_ok-over.ensures)

pub returns-in-None : goal.returns-in-None
returns-in-None c =
    let long : c.len.result ≡ length c.args.here.numbers.now.types.forms.items = omega (arith, c.len.ensures, c.args.here.numbers.now.types.forms.ok.0) in
    IfOk-weaker c.no_simple.result (λ t. t ≡ Enum (length (numbering c.args.here.numbers.now.types.simples.text.now).enums)) (λ t. t ≡ flat_over (scope_here c.args.here) c.args.of.now) (λ t is. is ∙ over-found c.args.here c.args.of.now c.len.result None c.requires long (sym c.in-None.is ∙ c.in_ok-over.ensures)) c.no_simple.ensures
