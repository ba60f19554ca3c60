-- The equations of the tokens of expressions.
use Rattle.std.proofs.Common.{◌≡◌, ℕ, Bool, List, [], ◌∷◌, ◌++◌, Option, Some, None, map, ap, sym, ◌∙◌}
use Rattle.std.specs.List.{flat_map}
use Rattle.std.specs.Option.{option_map}
use Rattle.smv_core.specs.declared.token.TokenKind.TheVariants.{Ident, Number}
use Rattle.smv_core.specs.declared.tree.Word.{Word}
use Rattle.smv_core.specs.declared.tree.Span.{Span}
use Rattle.smv_core.specs.declared.tree.TypeExpr.{TypeExpr}
use Rattle.smv_core.specs.declared.tree.Op.{Op}
use Rattle.smv_core.specs.declared.tree.Expr.{Expr, fold-roll-Expr}
use Rattle.smv_core.specs.declared.tree.Expr.TheVariants as expr
use Rattle.smv_core.specs.declared.tree.Expr.TheOpen.{Expr-F, Member-F, Part-F}
use Rattle.smv_core.specs.declared.tree.Member.{Member, fold-roll-Member}
use Rattle.smv_core.specs.declared.tree.Member.TheVariants as member
use Rattle.smv_core.specs.declared.tree.Part.{fold-roll-Part}
use Rattle.smv_core.specs.declared.tree.Part.TheVariants as part
use Rattle.smv_core.specs.declared.tree.Path.{Path, out-Path, fold_out-Path}
use Rattle.smv_core.specs.declared.tree.Signed.{Signed, out-Signed, fold_out-Signed}
use Rattle.smv_core.specs.Signs.{open_brace, close_brace, open_bracket, close_bracket, comma}
use Rattle.smv_core.specs.Signs as w
use Rattle.smv_print.specs.Written.{Kinds, separated}
use Rattle.smv_print.specs.Types.{span_kinds}
use Rattle.smv_print.specs.Expressions.{Spelled, spelled, member_kinds, part_kinds, path_kinds, signed_kinds, expr_step, member_step, part_step, path_step, signed_step, within, chain, binary, alone, operator, choice, reduction, comprehension, dot_before, plus_or_minus, parts_kinds}
use Rattle.smv_print.specs.Expressions as s
use Rattle.smv_print.proofs.Writing.{flat_map-each}

abbrev alike : ℕ → Kinds → Spelled
alike own ks = record { binding = own; bare = ks }

pub spelled-Number : (value at : ℕ) → spelled (expr.Number value at) ≡ alone (Number value ∷ [])
unfolding spelled member_kinds part_kinds path_kinds signed_kinds
spelled-Number value at = ap spelled (sym (expr.rolls-Number value at)) ∙ fold-roll-Expr Spelled Kinds (Bool → Kinds) Kinds Kinds expr_step member_step part_step path_step signed_step (Expr-F.Number value at)

pub spelled-Signal : (p : Path) → spelled (expr.Signal p) ≡ alone (path_kinds p)
unfolding spelled member_kinds part_kinds path_kinds signed_kinds
spelled-Signal p = ap spelled (sym (expr.rolls-Signal p)) ∙ fold-roll-Expr Spelled Kinds (Bool → Kinds) Kinds Kinds expr_step member_step part_step path_step signed_step (Expr-F.Signal p)

pub spelled-Not : (x : Expr) (at : ℕ) → spelled (expr.Not x at) ≡ record { binding = s.negation; bare = w.tilde ∷ within s.negation (spelled x) }
unfolding spelled member_kinds part_kinds path_kinds signed_kinds
spelled-Not x at = ap spelled (sym (expr.rolls-Not x at)) ∙ fold-roll-Expr Spelled Kinds (Bool → Kinds) Kinds Kinds expr_step member_step part_step path_step signed_step (Expr-F.Not x at)

pub spelled-And : (parts : List Expr) → spelled (expr.And parts) ≡ chain s.conjunction w.ampersand s.negation (map spelled parts)
unfolding spelled member_kinds part_kinds path_kinds signed_kinds
spelled-And parts = ap spelled (sym (expr.rolls-And parts)) ∙ fold-roll-Expr Spelled Kinds (Bool → Kinds) Kinds Kinds expr_step member_step part_step path_step signed_step (Expr-F.And parts)

pub spelled-Or : (parts : List Expr) → spelled (expr.Or parts) ≡ chain s.disjunction w.bar s.conjunction (map spelled parts)
unfolding spelled member_kinds part_kinds path_kinds signed_kinds
spelled-Or parts = ap spelled (sym (expr.rolls-Or parts)) ∙ fold-roll-Expr Spelled Kinds (Bool → Kinds) Kinds Kinds expr_step member_step part_step path_step signed_step (Expr-F.Or parts)

pub spelled-Implies : (parts : List Expr) → spelled (expr.Implies parts) ≡ chain s.implication w.arrow s.disjunction (map spelled parts)
unfolding spelled member_kinds part_kinds path_kinds signed_kinds
spelled-Implies parts = ap spelled (sym (expr.rolls-Implies parts)) ∙ fold-roll-Expr Spelled Kinds (Bool → Kinds) Kinds Kinds expr_step member_step part_step path_step signed_step (Expr-F.Implies parts)

pub spelled-Iff : (x y : Expr) → spelled (expr.Iff x y) ≡ binary s.equivalence w.double_arrow s.implication (spelled x) (spelled y)
unfolding spelled member_kinds part_kinds path_kinds signed_kinds
spelled-Iff x y = ap spelled (sym (expr.rolls-Iff x y)) ∙ fold-roll-Expr Spelled Kinds (Bool → Kinds) Kinds Kinds expr_step member_step part_step path_step signed_step (Expr-F.Iff x y)

pub spelled-Compare : (o : Op) (x y : Expr) → spelled (expr.Compare o x y) ≡ binary s.comparison (operator o) s.remainder (spelled x) (spelled y)
unfolding spelled member_kinds part_kinds path_kinds signed_kinds
spelled-Compare o x y = ap spelled (sym (expr.rolls-Compare o x y)) ∙ fold-roll-Expr Spelled Kinds (Bool → Kinds) Kinds Kinds expr_step member_step part_step path_step signed_step (Expr-F.Compare o x y)

pub spelled-Within : (x set : Expr) → spelled (expr.Within x set) ≡ record { binding = s.comparison; bare = within s.remainder (spelled x) ++ w.word_in ∷ within s.primary (spelled set) }
unfolding spelled member_kinds part_kinds path_kinds signed_kinds
spelled-Within x set = ap spelled (sym (expr.rolls-Within x set)) ∙ fold-roll-Expr Spelled Kinds (Bool → Kinds) Kinds Kinds expr_step member_step part_step path_step signed_step (Expr-F.Within x set)

pub spelled-Modulo : (x : Expr) (by at : ℕ) → spelled (expr.Modulo x by at) ≡ record { binding = s.remainder; bare = within s.sum (spelled x) ++ w.word_mod ∷ Number by ∷ [] }
unfolding spelled member_kinds part_kinds path_kinds signed_kinds
spelled-Modulo x by at = ap spelled (sym (expr.rolls-Modulo x by at)) ∙ fold-roll-Expr Spelled Kinds (Bool → Kinds) Kinds Kinds expr_step member_step part_step path_step signed_step (Expr-F.Modulo x by at)

pub spelled-Choose : (c x y : Expr) → spelled (expr.Choose c x y) ≡ record { binding = s.conditional; bare = choice (spelled c) (spelled x) (spelled y) }
unfolding spelled member_kinds part_kinds path_kinds signed_kinds
spelled-Choose c x y = ap spelled (sym (expr.rolls-Choose c x y)) ∙ fold-roll-Expr Spelled Kinds (Bool → Kinds) Kinds Kinds expr_step member_step part_step path_step signed_step (Expr-F.Choose c x y)

pub spelled-All : (x : Expr) (v : Word) (over : TypeExpr) (at : ℕ) → spelled (expr.All x v over at) ≡ alone (reduction w.ampersand (spelled x) v over)
unfolding spelled member_kinds part_kinds path_kinds signed_kinds
spelled-All x v over at = ap spelled (sym (expr.rolls-All x v over at)) ∙ fold-roll-Expr Spelled Kinds (Bool → Kinds) Kinds Kinds expr_step member_step part_step path_step signed_step (Expr-F.All x v over at)

pub spelled-Any : (x : Expr) (v : Word) (over : TypeExpr) (at : ℕ) → spelled (expr.Any x v over at) ≡ alone (reduction w.bar (spelled x) v over)
unfolding spelled member_kinds part_kinds path_kinds signed_kinds
spelled-Any x v over at = ap spelled (sym (expr.rolls-Any x v over at)) ∙ fold-roll-Expr Spelled Kinds (Bool → Kinds) Kinds Kinds expr_step member_step part_step path_step signed_step (Expr-F.Any x v over at)

pub spelled-List : (members : List Member) (at : ℕ) → spelled (expr.List members at) ≡ alone (open_brace ∷ separated comma (map member_kinds members) ++ close_brace ∷ [])
unfolding spelled member_kinds part_kinds path_kinds signed_kinds
spelled-List members at = ap spelled (sym (expr.rolls-List members at)) ∙ fold-roll-Expr Spelled Kinds (Bool → Kinds) Kinds Kinds expr_step member_step part_step path_step signed_step (Expr-F.List members at)

pub spelled-Each : (v : Word) (over : TypeExpr) (c : Option Expr) (at : ℕ) → spelled (expr.Each v over c at) ≡ alone (comprehension v over (option_map spelled c))
unfolding spelled member_kinds part_kinds path_kinds signed_kinds
spelled-Each v over None at = ap spelled (sym (expr.rolls-Each v over None at)) ∙ fold-roll-Expr Spelled Kinds (Bool → Kinds) Kinds Kinds expr_step member_step part_step path_step signed_step (Expr-F.Each v over None at)
spelled-Each v over (Some c) at = ap spelled (sym (expr.rolls-Each v over (Some c) at)) ∙ fold-roll-Expr Spelled Kinds (Bool → Kinds) Kinds Kinds expr_step member_step part_step path_step signed_step (Expr-F.Each v over (Some c) at)

pub spelled-Sum : (x : Expr) (more : List Signed) → spelled (expr.Sum x more) ≡ record { binding = s.sum; bare = within s.primary (spelled x) ++ flat_map signed_kinds more }
unfolding spelled member_kinds part_kinds path_kinds signed_kinds
spelled-Sum x more =
    ap spelled (sym (expr.rolls-Sum x more)) ∙ fold-roll-Expr Spelled Kinds (Bool → Kinds) Kinds Kinds expr_step member_step part_step path_step signed_step (Expr-F.Sum x more)
    ∙ ap (λ (ks : Kinds). alike s.sum (within s.primary (spelled x) ++ ks)) (flat_map-each signed_kinds more)

pub member-One : (x : Expr) → member_kinds (member.One x) ≡ within s.conditional (spelled x)
unfolding spelled member_kinds part_kinds path_kinds signed_kinds
member-One x = ap member_kinds (sym (member.rolls-One x)) ∙ fold-roll-Member Spelled Kinds (Bool → Kinds) Kinds Kinds expr_step member_step part_step path_step signed_step (Member-F.One x)

pub member-Span : (span : Span) (at : ℕ) → member_kinds (member.Span span at) ≡ span_kinds span
unfolding spelled member_kinds part_kinds path_kinds signed_kinds
member-Span span at = ap member_kinds (sym (member.rolls-Span span at)) ∙ fold-roll-Member Spelled Kinds (Bool → Kinds) Kinds Kinds expr_step member_step part_step path_step signed_step (Member-F.Span span at)

pub part-Field : (x : Word) (first : Bool) → part_kinds (part.Field x) first ≡ dot_before first ++ Ident x.name ∷ []
unfolding spelled member_kinds part_kinds path_kinds signed_kinds
part-Field x first = ap (λ (f : Bool → Kinds). f first) (ap part_kinds (sym (part.rolls-Field x)) ∙ fold-roll-Part Spelled Kinds (Bool → Kinds) Kinds Kinds expr_step member_step part_step path_step signed_step (Part-F.Field x))

pub part-At : (index : Expr) (first : Bool) → part_kinds (part.At index) first ≡ open_bracket ∷ within s.conditional (spelled index) ++ close_bracket ∷ []
unfolding spelled member_kinds part_kinds path_kinds signed_kinds
part-At index first = ap (λ (f : Bool → Kinds). f first) (ap part_kinds (sym (part.rolls-At index)) ∙ fold-roll-Part Spelled Kinds (Bool → Kinds) Kinds Kinds expr_step member_step part_step path_step signed_step (Part-F.At index))

pub path-parts : (p : Path) → path_kinds p ≡ parts_kinds (map part_kinds (out-Path p).parts)
unfolding spelled member_kinds part_kinds path_kinds signed_kinds
path-parts p = fold_out-Path Spelled Kinds (Bool → Kinds) Kinds Kinds expr_step member_step part_step path_step signed_step p

pub signed-kinds : (x : Signed) → signed_kinds x ≡ plus_or_minus (out-Signed x).minus ∷ within s.primary (spelled (out-Signed x).of)
unfolding spelled member_kinds part_kinds path_kinds signed_kinds
signed-kinds x = fold_out-Signed Spelled Kinds (Bool → Kinds) Kinds Kinds expr_step member_step part_step path_step signed_step x

pub ruleset equations = (spelled-Number, spelled-Signal, spelled-Not, spelled-And, spelled-Or, spelled-Implies, spelled-Iff, spelled-Compare, spelled-Within, spelled-Modulo, spelled-Choose, spelled-All, spelled-Any, spelled-List, spelled-Each, spelled-Sum, member-One, member-Span, part-Field, part-At, path-parts, signed-kinds)
