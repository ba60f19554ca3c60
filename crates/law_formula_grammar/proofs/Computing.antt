-- What the reader of texts with formulas is made of, to compute worked texts.
use Rattle.law_grammar.proofs.Computing as g
use Rattle.law_formula_grammar.specs.Readers as p

unfoldable pub computing : Unit {0}
unfolding g.computing p.read_next p.read_when p.read_weak p.read_formula p.read_claimed p.read_assigned p.read_claim_or_assignment p.read_behind p.read_named p.read_behind_colon p.read_listed p.read_named_body p.read_forall_item p.read_block_item p.read_other_item p.read_item p.read_body p.read_scalarset p.read_ordset p.read_typedef p.read_module_body p.read_module p.read_top p.read_tops
computing = tt
