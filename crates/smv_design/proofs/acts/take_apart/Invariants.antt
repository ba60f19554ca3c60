use Rattle.std.proofs.Common.{◌≡◌, ◌++◌, map}
use Rattle.law_designs.specs.WholeText.{claims_of}
use Rattle.law_designs.specs.Standing.{statements_from}
use Rattle.law_designs.specs.Definitions.{splits_of, uses_of}
use Rattle.smv_design.specs.Acts.{head_of, heads_from, statement_of}
use Rattle.smv_design.proofs.acts.take_apart.Given as goal

abbrev pub invariant-loop-item : goal.invariant-loop-item
invariant-loop-item l = record {
  statements : map statement_of l.found.acts.items ++ statements_from l.place l.item-iterator.rest.items ≡ statements_from 0 l.fn.items;
  heads : map head_of l.found.heads ++ heads_from l.place l.item-iterator.rest.items ≡ heads_from 0 l.fn.items;
  claims : l.found.claims.items ++ claims_of l.item-iterator.rest.items ≡ claims_of l.fn.items;
  splits : l.found.splits.items ++ splits_of l.item-iterator.rest.items ≡ splits_of l.fn.items;
  uses : l.found.uses.items ++ uses_of l.item-iterator.rest.items ≡ uses_of l.fn.items;
}
