use Rattle.std.proofs.Common.{◌≡◌, ◌++◌, map, drop}
use Rattle.smv_splits.specs.Renaming.{renaming, renaming_signed, renaming_member, number_by}
use Rattle.smv_splits.proofs.expressions.+renames.Given as goal

abbrev pub invariant-rename_all_signed-loop-signed : goal.invariant-rename_all_signed-loop-signed
invariant-rename_all_signed-loop-signed l = l.out ++ map (renaming_signed (number_by l.numbers)) (drop l.signed-index l.all) ≡ map (renaming_signed (number_by l.numbers)) l.all

abbrev pub invariant-rename_all-loop-expr : goal.invariant-rename_all-loop-expr
invariant-rename_all-loop-expr l = l.out ++ map (renaming (number_by l.numbers)) (drop l.expr-index l.exprs) ≡ map (renaming (number_by l.numbers)) l.exprs

abbrev pub invariant-rename_members-loop-member : goal.invariant-rename_members-loop-member
invariant-rename_members-loop-member l = l.out ++ map (renaming_member (number_by l.numbers)) (drop l.member-index l.members) ≡ map (renaming_member (number_by l.numbers)) l.members
