use Rattle.std.proofs.Common.{List, sym, ap, ◌∙◌}
use Rattle.std.specs.Option.{option_map}
use Rattle.smv_core.specs.declared.tree.Top.{Top}
use Rattle.law_strengthened_texts.specs.Stronger.{induction}
use Rattle.smv_strengthen.specs.Place.{place_of}
use Rattle.smv_strengthen.proofs.AnswerLaws.{strengthened-there}
use Rattle.smv_strengthen.proofs.of_tree.Goals as goal

pub returns-in-Some-clause-stronger : goal.returns-in-Some-clause-stronger
returns-in-Some-clause-stronger c =
    let name = c.args.name.now in
    let var = c.args.var.now in
    strengthened-there c.args.text.now name var c.args.tree.now c.in-Some.place c.of_place.result c.requires.tree
    (sym c.in-Some.is ∙ c.in_ok-place.ensures ∙ ap (λ (tops : List Top). option_map place_of (induction tops name var)) c.as_slice.ensures) c.of_place.ensures.stronger
