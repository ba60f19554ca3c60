use Rattle.std.proofs.Common.{ap, sym, ◌∙◌}
use Rattle.smv_core.specs.Types.{names_of}
use Rattle.law_designs.specs.Kinds.{enumeration}
use Rattle.law_designs.proofs.SameWalks.{path-equal}
use Rattle.smv_expression_kinds.proofs.lists.listed_kind.Goals as goal

pub returns-then-same_names : goal.returns-then-same_names
returns-then-same_names c =
    ap enumeration (sym c.list_of.ensures ∙ path-equal (names_of c.list_of.result.now) (names_of c.args.words.now) (sym c.same_names.ensures ∙ c.if-same_names.true))
