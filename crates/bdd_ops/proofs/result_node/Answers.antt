use Rattle.std.proofs.Common.{sym, ◌∙◌}
use Rattle.bdd_store.specs.Results.{IsResult}
use Rattle.bdd_store.proofs.ResultLaws.{operands_kept, made_kept, results_kept}
use Rattle.bdd_ops.proofs.Tables.{if_ok_both}
use Rattle.bdd_ops.proofs.result_node.Goals as goal

pub returns-clause-right : goal.returns-clause-right
returns-clause-right c =
    let d = c.args.store.now in
    let e = c.node.new.self in
    let keeps = c.node.ensures.keeps in
    if_ok_both c.node.result _ _ (λ r. IsResult e c.args.operation r)
    (λ r live is. record {
      operands = operands_kept d e keeps c.args.operation c.requires.operands;
      live = live;
      table = λ a. is a ∙ c.requires.made a ∙ sym (made_kept d e keeps c.args.operation c.requires.operands a);
    }) c.node.ensures.live c.node.ensures.table

pub returns-clause-known : goal.returns-clause-known
returns-clause-known c = results_kept c.args.store.now c.node.new.self c.node.ensures.keeps
