use Rattle.std.proofs.Common.{ap, ◌∙◌}
use Rattle.smv_core.specs.declared.flat.Simple.TheVariants.{Set}
use Rattle.smv_flatten_families.specs.Simples.{numbering}
use Rattle.smv_flatten_families.proofs.NumberLaws.{set-found}
use Rattle.smv_flatten_families.proofs.simples.set_simple.Goals as goal

pub returns : goal.returns
returns c = ap Set (c.in_ok-short.ensures ∙ c.unwrap_or-place.ensures ∙ set-found (numbering c.args.simples.now.text.now) c.args.simples.now.sets c.args.simples.now.set_count c.args.name.now c.find.result c.requires.sets c.requires.set_count c.find.ensures)
