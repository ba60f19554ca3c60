use Rattle.std.proofs.Common.{[], List, length, ap, ◌∙◌}
use Rattle.std.specs.Prelude.{nat_lt}
use Rattle.smv_core.specs.FlatOrder.{main, modules}
use Rattle.smv_core.specs.declared.tree.Top.{Top}
use Rattle.smv_mentions.specs.Sizes.{sized_from, body_named, things_in, statements_in, count_different, constant_names}
use Rattle.smv_size.specs.Limits.{capped}
use Rattle.smv_size.specs.Summary.{module_told}
use Rattle.smv_size.proofs.SummaryLaws.{above}
use Rattle.smv_size.proofs.size.is_too_large.Goals as goal

pub returns : goal.returns
returns c =
    let text = c.args.text.now in
    let known = sized_from [] text.tops in
    let bodies = modules text.tops in
    let n = length bodies in
    let size = c.in_ok-size.ensures ∙ ap (λ (tops : List Top). module_told (sized_from [] tops) (modules tops) (length (modules tops)) main) c.as_slice.ensures in
    c.is_above.ensures
    ∙ above c.in_ok-size.size (capped (length (body_named known bodies main).formals)) (statements_in known bodies n main) (things_in known bodies n main) c.in_ok-many.many (nat_lt 4096 (count_different [] (constant_names text))) size c.in_ok-many.ensures
