-- What a worked text computes with.
use Rattle.smv_lex.specs.Lexing as l
use Rattle.smv_mentions.specs.Mentions as m
use Rattle.law_grammar.specs.Expressions as e
use Rattle.law_grammar.specs.Types as t
use Rattle.law_grammar.specs.Statements as s
use Rattle.law_grammar.specs.References as r
use Rattle.law_grammar.specs.Items as i

unfoldable pub computing : Unit {0}
unfolding m.in_type m.in_expr m.in_stmt m.in_item m.in_path l.word_kind l.word_front l.number_front l.sign_front l.front_of l.lexed_from e.read_span e.read_index e.read_part e.read_path e.read_condition e.read_listed e.read_where e.read_each e.read_set e.read_reduction e.read_prim e.read_signed e.read_sum e.read_modulo e.read_comparison e.read_negation e.read_conjunction e.read_disjunction e.read_implication e.read_equivalence e.read_expr e.read_member t.read_enumeration t.read_array t.read_structure t.read_type t.read_field s.read_label s.read_binder s.read_bound s.read_turns s.read_value s.read_assignment s.read_timed s.read_else s.read_if s.read_arm s.read_other s.read_arms s.read_switch s.read_default s.read_for s.read_worded s.read_simple s.read_forall s.read_block s.read_stmt r.read_layer_name r.read_layer_or_free r.read_in_brackets r.read_ref_part r.read_ref_by r.read_ref r.read_used r.read_keep r.read_early r.read_use r.read_using r.read_pair r.read_split i.read_marked i.read_claimed i.read_assigned i.read_claim_or_assignment i.read_behind i.read_named i.read_declared i.read_instance i.read_of_names i.read_behind_colon i.read_listed i.read_named_body i.read_with_role i.read_layer i.read_forall_item i.read_block_item i.read_other_item i.read_item i.read_body i.read_extent i.read_scalarset i.read_ordset i.read_typedef i.read_module_body i.read_module i.read_top i.read_tops i.read_text Rattle.smv_core.specs.declared.tree.Expr.TheBlock.hidden-the_row-Expr-1 Rattle.smv_core.specs.declared.tree.Expr.TheBlock.hidden-the_row-Expr-2 Rattle.smv_core.specs.declared.tree.Expr.TheBlock.hidden-the_row-Member-4 Rattle.smv_core.specs.declared.tree.Expr.TheBlock.hidden-the_row-Part-0 Rattle.smv_core.specs.declared.tree.Expr.TheBlock.hidden-the_row-Signed-3 Rattle.smv_core.specs.declared.tree.Expr.TheBlock.shape-the_row-Expr-1 Rattle.smv_core.specs.declared.tree.Expr.TheBlock.shape-the_row-Expr-2 Rattle.smv_core.specs.declared.tree.Expr.TheBlock.shape-the_row-Member-4 Rattle.smv_core.specs.declared.tree.Expr.TheBlock.shape-the_row-Part-0 Rattle.smv_core.specs.declared.tree.Expr.TheBlock.shape-the_row-Signed-3 Rattle.smv_core.specs.declared.tree.Stmt.TheBlock.hidden-the_row-Arm-2 Rattle.smv_core.specs.declared.tree.Stmt.TheBlock.hidden-the_row-Stmt-0 Rattle.smv_core.specs.declared.tree.Stmt.TheBlock.hidden-the_row-Stmt-1 Rattle.smv_core.specs.declared.tree.Stmt.TheBlock.shape-the_row-Arm-2 Rattle.smv_core.specs.declared.tree.Stmt.TheBlock.shape-the_row-Stmt-0 Rattle.smv_core.specs.declared.tree.Stmt.TheBlock.shape-the_row-Stmt-1 Rattle.smv_core.specs.declared.tree.Item.TheBlock.hidden-the_row-Item-0 Rattle.smv_core.specs.declared.tree.Item.TheBlock.hidden-the_row-Item-1 Rattle.smv_core.specs.declared.tree.Item.TheBlock.shape-the_row-Item-0 Rattle.smv_core.specs.declared.tree.Item.TheBlock.shape-the_row-Item-1 Rattle.smv_core.specs.declared.tree.TypeExpr.TheBlock.hidden-the_row-Field-1 Rattle.smv_core.specs.declared.tree.TypeExpr.TheBlock.hidden-the_row-TypeExpr-0 Rattle.smv_core.specs.declared.tree.TypeExpr.TheBlock.shape-the_row-Field-1 Rattle.smv_core.specs.declared.tree.TypeExpr.TheBlock.shape-the_row-TypeExpr-0 denote.Hole.Carrier.hidden
computing = tt
