-- The lists of a Rel.
use Rattle.std.proofs.Common.{◌≡◌, ℕ, ◌*◌, List, [], ◌∷◌, map, subst}
use Rattle.bdd_store.specs.declared.Ref.{Ref}
use Rattle.bdd_store.specs.Diagram.{Diagram, table}
use Rattle.smv_rings.specs.Functions.{DependsBelow}
use Rattle.smv_rings.proofs.Tables.{table_below}
use Rattle.smv_rings.specs.declared.Rel.{Rel}
use Rattle.smv_rings.specs.Lists.{AllBelow, IsLists, IsRel, lists_of}

one_below : (d : Diagram) (n : ℕ) (r : Ref) → d.vars ≡ n → DependsBelow n (table d r)
one_below d n r e = subst (λ (m : ℕ). DependsBelow m (table d r)) e (table_below d r)

tables_below : (d : Diagram) (n : ℕ) (rs : List Ref) → d.vars ≡ n → AllBelow n (map (table d) rs)
tables_below d n [] e = tt
tables_below d n (r ∷ rs) e = (one_below d n r e, tables_below d n rs e)

-- the lists of a Rel are as they are to be
pub lists_ok : (d : Diagram) (rel : Rel) → IsRel d rel → IsLists (lists_of d rel)
unfolding lists_of
lists_ok d rel ok = record {
  now_first = (tables_below d (2 * rel.bits) rel.now_first.items ok.vars, ok.now_first);
  before_first = (tables_below d (2 * rel.bits) rel.before_first.items ok.vars, ok.before_first);
  broken_first = (one_below d (2 * rel.bits) rel.broken_first ok.vars, ok.broken_first);
  now_step = tables_below d (2 * rel.bits) rel.now_step.items ok.vars;
  before_step = tables_below d (2 * rel.bits) rel.before_step.items ok.vars;
  broken_step = one_below d (2 * rel.bits) rel.broken_step ok.vars;
}
