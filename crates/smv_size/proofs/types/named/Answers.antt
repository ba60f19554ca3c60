use Rattle.std.proofs.Common.{ap, sym, ◌∙◌}
use Rattle.std.specs.Prelude.{option_copied, None}
use Rattle.smv_size.specs.declared.types.Families.{Families}
use Rattle.smv_size.specs.declared.types.TypeSize.{TypeSize}
use Rattle.smv_size.proofs.SummaryLaws.{named-some, named-none}
use Rattle.smv_size.proofs.types.named.Goals as goal

pub returns-in-Some : goal.returns-in-Some
returns-in-Some c known e = named-some c.args.types.now known c.args.name.now c.in-Some.size.now e (ap option_copied (sym c.in-Some.is) ∙ c.find.ensures)

abbrev unknown : Families → TypeSize
unknown families = record { families = families; size = None }

pub returns-in-None : goal.returns-in-None
returns-in-None c known e = ap unknown c.no_family.ensures ∙ named-none c.args.types.now known c.args.name.now e (ap option_copied (sym c.in-None.is) ∙ c.find.ensures)
