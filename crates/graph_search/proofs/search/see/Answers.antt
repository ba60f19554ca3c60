use Rattle.std.proofs.Common.{◌<◌, true, false, [], ◌∷◌, set, length, subst, sym, ◌∙◌, arith}
use Rattle.std.proofs.lemmas.List.{get_or_read}
use Rattle.graph_search.specs.Searches.{Saw}
use Rattle.graph_search.proofs.SearchLaws.{see_new, see_old}
use Rattle.graph_search.proofs.search.see.Goals as goal

pub returns-in_ok-push : goal.returns-in_ok-push
returns-in_ok-push c =
    let seen = c.args.seen.now.items in
    let within : c.args.node < length seen = omega (arith, c.requires, c.args.seen.now.ok.0) in
    let fresh = sym (get_or_read seen c.args.node c.index.result.now within c.index.ensures false) ∙ c.if-not-index.true in
    subst (λ q. Saw (c.args.node ∷ []) seen (set seen c.args.node true) c.args.queue.now.items q) (sym c.in_ok-push.ensures.items) (see_new seen c.args.queue.now.items c.args.node within fresh)

pub returns-else-not-index : goal.returns-else-not-index
returns-else-not-index c =
    let seen = c.args.seen.now.items in
    let within : c.args.node < length seen = omega (arith, c.requires, c.args.seen.now.ok.0) in
    see_old seen c.args.queue.now.items c.args.node (sym (get_or_read seen c.args.node c.index.result.now within c.index.ensures false) ∙ c.if-not-index.false)
