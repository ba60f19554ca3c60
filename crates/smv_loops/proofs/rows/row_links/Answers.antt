use Rattle.std.proofs.Common.{◌≡◌, ◌+◌, ◌++◌, ℕ, List, [], ◌∷◌, length, sym, ap, subst, ◌∙◌, arith}
use Rattle.std.proofs.lemmas.List.{length-append}
use Rattle.smv_loops.specs.Edges.{total, AreRowLinks}
use Rattle.smv_loops.specs.Rows.{stands_for}
use Rattle.smv_loops.specs.declared.ranks.Links.{Links}
use Rattle.smv_loops.proofs.RowLaws.{row-link, row-links-push}
use Rattle.smv_loops.proofs.rows.row_links.Goals as goal

pub loop-row-preserved : goal.loop-row-preserved
loop-row-preserved c =
    let families = c.args.families.now in
    let rows = c.args.rows.now in
    let stands = stands_for families rows in
    let old = c.loop-row.links.items in
    let link : Links = record { from = c.push.new.self; to = c.in_ok-to.to } in
    let items : c.push-in-loop-row.new.self.items ≡ old ++ link ∷ [] = c.in_ok-push-2.ensures.items in
    let size = c.loop-row.invariant.count in
    let next : c.in_ok-node.node ≡ c.args.cells + length old = omega (arith, c.in_ok-node.ensures, c.len.ensures) in
    let at : c.in_ok-node.node ≡ total families + c.loop-row.row-index = omega (arith, next, size, c.requires.cells) in
    let from : c.push.new.self.items ≡ c.in_ok-node.node ∷ [] = c.in_ok-push.ensures.items ∙ ap (λ (l : List ℕ). l ++ c.in_ok-node.node ∷ []) c.new-from.ensures.items in
    let to : c.in_ok-to.to.items ≡ c.row-item.result.cells.items = c.in_ok-to.ensures.items ∙ c.as_slice.ensures.value in
    let longer = ap (λ (l : List Links). length l) items in
    let more = length-append old (link ∷ []) in
    record {
      count = omega (arith, longer, more, size);
      links = subst (AreRowLinks stands c.args.cells) (sym items)
          (row-links-push stands c.args.cells old c.in_ok-node.node link c.loop-row.invariant.links next
          (row-link families rows c.requires.rows c.loop-row.row-index c.row-item.result c.in_ok-node.node link c.loop-row-test.true c.row-item.is at from to));
    }
