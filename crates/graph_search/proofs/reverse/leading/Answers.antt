use Rattle.std.proofs.Common.{subst, sym, arith}
use Rattle.graph_search.specs.Walks.{lists}
use Rattle.graph_search.specs.Reverse.{AreNumbers}
use Rattle.graph_search.proofs.ReverseLaws.{led, edges_within, lists_long}
use Rattle.graph_search.proofs.reverse.leading.Goals as goal

pub reached-requires-clause-nodes : goal.reached-requires-clause-nodes
reached-requires-clause-nodes c = λ x y h.
    let are = subst (λ n. AreNumbers n c.args.numbers.now) (sym (lists_long c.args.back.now)) c.requires.numbers in
    let l = edges_within (lists c.args.back.now) c.args.numbers.now are c.requires.back x y h in
    omega (arith, l, lists_long c.args.back.now)

pub returns : goal.returns
returns c = λ graph reverse x.
    let are = subst (λ n. AreNumbers n c.args.numbers.now) (sym (lists_long c.args.back.now)) c.requires.numbers in
    let both = led graph (lists c.args.back.now) c.args.numbers.now c.args.target x are reverse in
    let seen = c.in_ok-marks.ensures x in
    (λ m. both.0 (seen.0 m), λ w. seen.1 (both.1 w))
