use Rattle.std.proofs.Common.{◌≡◌, ◌∷◌, List, ◌++◌, map, ap, sym, ◌∙◌}
use Rattle.smv_core.specs.declared.flat.FlatItem.{FlatItem}
use Rattle.law_designs.specs.WholeText.{claims_of}
use Rattle.law_designs.specs.Standing.{statements_from}
use Rattle.law_designs.specs.Definitions.{splits_of, uses_of}
use Rattle.smv_design.specs.Acts.{head_of, heads_from, statement_of}
use Rattle.smv_design.proofs.ItemLaws.{more-statements, more-heads, more-claims, more-splits, more-uses}
use Rattle.smv_design.proofs.acts.take_apart.Goals as goal

pub loop-item-preserved : goal.loop-item-preserved
loop-item-preserved c =
    let rest : List FlatItem = c.next.new.self.rest.items in
    let e : c.loop-item.item-iterator.rest.items ≡ c.in-Some.item ∷ rest = c.in-Some.ensures.steps.0 in
    record {
      statements = more-statements _ _ c.loop-item.place c.in_ok-place.place c.in-Some.item rest _ c.in_ok-place.ensures.statement c.in_ok-place.ensures.after (ap (λ l. map statement_of c.loop-item.found.acts.items ++ statements_from c.loop-item.place l) (sym e) ∙ c.loop-item.invariant.statements);
      heads = more-heads _ _ c.loop-item.place c.in_ok-place.place c.in-Some.item rest _ c.in_ok-place.ensures.heads c.in_ok-place.ensures.after (ap (λ l. map head_of c.loop-item.found.heads ++ heads_from c.loop-item.place l) (sym e) ∙ c.loop-item.invariant.heads);
      claims = more-claims _ _ c.in-Some.item rest _ c.in_ok-place.ensures.claims (ap (λ l. c.loop-item.found.claims.items ++ claims_of l) (sym e) ∙ c.loop-item.invariant.claims);
      splits = more-splits _ _ c.in-Some.item rest _ c.in_ok-place.ensures.splits (ap (λ l. c.loop-item.found.splits.items ++ splits_of l) (sym e) ∙ c.loop-item.invariant.splits);
      uses = more-uses _ _ c.in-Some.item rest _ c.in_ok-place.ensures.uses (ap (λ l. c.loop-item.found.uses.items ++ uses_of l) (sym e) ∙ c.loop-item.invariant.uses);
    }
