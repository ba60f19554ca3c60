use Rattle.std.proofs.Common.{◌<◌, length, get_or, set, true, false, subst, sym, ◌∙◌, arith}
use Rattle.std.proofs.lemmas.List.{get_or_read}
use Rattle.graph_components.specs.Inner.{AreMet}
use Rattle.graph_components.proofs.InnerLaws.{met_more}
use Rattle.graph_components.proofs.checked.meet.Goals as goal

pub returns-in_ok-push-clause-met : goal.returns-in_ok-push-clause-met
returns-in_ok-push-clause-met c = λ known.
    let met = c.args.met.now.items in
    let label = get_or c.args.labels.now c.args.node 0 in
    let within : label < length met = omega (arith, c.if-label-len.true, c.len.ensures, c.args.met.now.ok.0) in
    let new = sym (get_or_read met label c.index.result.now within c.index.ensures false) ∙ c.if-not-index.true in
    subst (AreMet c.args.labels.now (set met label true)) (sym c.in_ok-push.ensures.items)
    (met_more c.args.labels.now met c.args.roots.now.items c.args.node c.requires.node within new known)
