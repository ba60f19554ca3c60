-- Expressions without their places, where they are made of lists and values.
use Rattle.std.proofs.Common.{◌≡◌, ℕ, List, [], ◌∷◌, map, Some, None, refl, ap, sym, ◌∙◌}
use Rattle.smv_core.specs.Values.{Name}
use Rattle.smv_core.specs.declared.tree.Word.{Word}
use Rattle.smv_core.specs.declared.tree.Op.{Op}
use Rattle.smv_core.specs.declared.tree.TypeExpr.{TypeExpr}
use Rattle.smv_core.specs.declared.tree.TypeExpr.TheVariants as type
use Rattle.smv_core.specs.declared.tree.Span.{Span}
use Rattle.smv_core.specs.declared.tree.Path.{Path, roll-Path, out-Path}
use Rattle.smv_core.specs.declared.tree.Part.{Part, Field, At}
use Rattle.smv_core.specs.Grammar.{named}
use Rattle.smv_core.specs.declared.tree.Member.{Member, One, Span as SpanOf}
use Rattle.smv_core.specs.declared.tree.Signed.{Signed, roll-Signed, out-Signed}
use Rattle.smv_core.specs.declared.tree.Expr.{Expr, Number, Signal, Signal', Not, And, And', Or, Or', Implies, Implies', Iff, Compare, Within, Sum, Sum', Modulo, Choose, All, Any, List as ListOf, List', Each}
use Rattle.smv_core.specs.declared.tree.Expr.{Row_of-Expr, end_of-Expr, more_of-Expr, Row_of-Part, end_of-Part, Row_of-Member, end_of-Member, more_of-Member, Row_of-Signed, end_of-Signed, more_of-Signed}
use Rattle.smv_core.specs.declared.tree.Expr.{items-the_row-Expr, items-the_row-Part, items-the_row-Member, items-the_row-Signed, items_hidden-the_row-Part-0, items_hidden-the_row-Expr-2, items_hidden-the_row-Signed-3, items_hidden-the_row-Member-4, items_shown-the_row-Part-0, items_shown-the_row-Expr-2, items_shown-the_row-Signed-3, items_shown-the_row-Member-4, out-Expr, roll-Expr, roll-out-Expr}
use mathlib.Core.Former.{Count}
use Rattle.law_places.specs.Placeless.{placeless_word, placeless_type, placeless, placeless_row, placeless_parts, placeless_sum, placeless_members, placeless_part, placeless_path}
use Rattle.law_places.proofs.Expressions.{parts-row}

-- what lets rows compute
unfoldable pub computing : Unit {0}
unfolding roll-Expr out-Expr Rattle.smv_core.specs.declared.tree.Expr.TheBlock.shown-the_row-Part-0 Rattle.smv_core.specs.declared.tree.Expr.TheBlock.shown-the_row-Expr-1 Rattle.smv_core.specs.declared.tree.Expr.TheBlock.shown-the_row-Expr-2 Rattle.smv_core.specs.declared.tree.Expr.TheBlock.shown-the_row-Signed-3 Rattle.smv_core.specs.declared.tree.Expr.TheBlock.shown-the_row-Member-4 Rattle.smv_core.specs.declared.tree.Expr.TheBlock.hidden-the_row-Part-0 Rattle.smv_core.specs.declared.tree.Expr.TheBlock.hidden-the_row-Expr-1 Rattle.smv_core.specs.declared.tree.Expr.TheBlock.hidden-the_row-Expr-2 Rattle.smv_core.specs.declared.tree.Expr.TheBlock.hidden-the_row-Signed-3 Rattle.smv_core.specs.declared.tree.Expr.TheBlock.hidden-the_row-Member-4 Rattle.smv_core.specs.declared.tree.Expr.TheBlock.shape-the_row-Part-0 Rattle.smv_core.specs.declared.tree.Expr.TheBlock.shape-the_row-Expr-1 Rattle.smv_core.specs.declared.tree.Expr.TheBlock.shape-the_row-Expr-2 Rattle.smv_core.specs.declared.tree.Expr.TheBlock.shape-the_row-Signed-3 Rattle.smv_core.specs.declared.tree.Expr.TheBlock.shape-the_row-Member-4 denote.Hole.Carrier.roll denote.Hole.Carrier.out denote.Hole.Carrier.shown denote.Hole.Carrier.hidden
computing = tt

pub and-list : (shape : _) (row : _) → And (items-the_row-Expr _ row) ≡ And' shape row
unfolding computing
and-list shape row = sym (ap And (items_shown-the_row-Expr-2 shape row)) ∙ roll-out-Expr (And' shape row)

pub or-list : (shape : _) (row : _) → Or (items-the_row-Expr _ row) ≡ Or' shape row
unfolding computing
or-list shape row = sym (ap Or (items_shown-the_row-Expr-2 shape row)) ∙ roll-out-Expr (Or' shape row)

pub implies-list : (shape : _) (row : _) → Implies (items-the_row-Expr _ row) ≡ Implies' shape row
unfolding computing
implies-list shape row = sym (ap Implies (items_shown-the_row-Expr-2 shape row)) ∙ roll-out-Expr (Implies' shape row)

pub list-list : (shape : _) (row : _) (at : ℕ) → ListOf (items-the_row-Member _ row) at ≡ List' shape row at
unfolding computing
list-list shape row at = sym (ap (λ l. ListOf l at) (items_shown-the_row-Member-4 shape row)) ∙ roll-out-Expr (List' shape row at)

pub sum-list : (f : _) (e : Expr) (shape : _) (row : _) → Sum e (items-the_row-Signed _ row) ≡ Sum' f (more_of-Expr e end_of-Expr) shape row
unfolding computing
sum-list f e shape row = sym (ap (Sum e) (items_shown-the_row-Signed-3 shape row)) ∙ roll-out-Expr (Sum' f (more_of-Expr e end_of-Expr) shape row)

pub signal-list : (shape : _) (row : _) (at : ℕ) → Signal (roll-Path (record { parts = items-the_row-Part _ row; at = at })) ≡ Signal' shape row at
unfolding computing
signal-list shape row at = sym (ap (λ l. Signal (roll-Path (record { parts = l; at = at }))) (items_shown-the_row-Part-0 shape row)) ∙ roll-out-Expr (Signal' shape row at)

exprs-row : (n : _) (row : Row_of-Expr n) → items-the_row-Expr n (placeless_row row) ≡ map placeless (items-the_row-Expr n row)
unfolding placeless
exprs-row n end_of-Expr = refl
exprs-row n (more_of-Expr e rest) = ap (λ l. placeless e ∷ l) (exprs-row _ rest)

abbrev pub placeless_member : Member → Member
placeless_member (One e) = One (placeless e)
placeless_member (SpanOf span at) = SpanOf span 0

abbrev pub placeless_signed : Signed → Signed
placeless_signed x = roll-Signed (record { minus = (out-Signed x).minus; of = placeless (out-Signed x).of })

members-row : (n : _) (row : Row_of-Member n) → items-the_row-Member n (placeless_members row) ≡ map placeless_member (items-the_row-Member n row)
unfolding placeless computing
members-row n end_of-Member = refl
members-row n (more_of-Member (One e) rest) = ap (λ l. One (placeless e) ∷ l) (members-row _ rest)
members-row n (more_of-Member (SpanOf span at) rest) = ap (λ l. SpanOf span 0 ∷ l) (members-row _ rest)

signed-row : (n : _) (row : Row_of-Signed n) → items-the_row-Signed n (placeless_sum row) ≡ map placeless_signed (items-the_row-Signed n row)
unfolding placeless computing
signed-row n end_of-Signed = refl
signed-row n (more_of-Signed minus e rest) = ap (λ l. roll-Signed (record { minus = minus; of = placeless e }) ∷ l) (signed-row _ rest)

abbrev pub exprs_in : Expr → (n : Count) × Row_of-Expr n
exprs_in (And' shape row) = (_, row)
exprs_in (Or' shape row) = (_, row)
exprs_in (Implies' shape row) = (_, row)
exprs_in _ = (_, end_of-Expr)

abbrev pub members_in : Expr → (n : Count) × Row_of-Member n
members_in (List' shape row at) = (_, row)
members_in _ = (_, end_of-Member)

abbrev pub sums_in : Expr → (n : Count) × Row_of-Signed n
sums_in (Sum' f first shape row) = (_, row)
sums_in _ = (_, end_of-Signed)

abbrev pub parts_in : Expr → (n : Count) × Row_of-Part n
parts_in (Signal' shape row at) = (_, row)
parts_in _ = (_, end_of-Part)

-- ---- each constructor

pub placeless-And : (parts : List Expr) → placeless (And parts) ≡ And (map placeless parts)
unfolding placeless
placeless-And parts = sym (and-list _ (placeless_row (exprs_in (And parts)).1)) ∙ ap And (exprs-row _ (exprs_in (And parts)).1 ∙ ap (map placeless) (items_hidden-the_row-Expr-2 parts))

pub placeless-Or : (parts : List Expr) → placeless (Or parts) ≡ Or (map placeless parts)
unfolding placeless
placeless-Or parts = sym (or-list _ (placeless_row (exprs_in (Or parts)).1)) ∙ ap Or (exprs-row _ (exprs_in (Or parts)).1 ∙ ap (map placeless) (items_hidden-the_row-Expr-2 parts))

pub placeless-Implies : (parts : List Expr) → placeless (Implies parts) ≡ Implies (map placeless parts)
unfolding placeless
placeless-Implies parts = sym (implies-list _ (placeless_row (exprs_in (Implies parts)).1)) ∙ ap Implies (exprs-row _ (exprs_in (Implies parts)).1 ∙ ap (map placeless) (items_hidden-the_row-Expr-2 parts))

pub placeless-List : (members : List Member) (at : ℕ) → placeless (ListOf members at) ≡ ListOf (map placeless_member members) 0
unfolding placeless
placeless-List members at =
    sym (list-list _ (placeless_members (members_in (ListOf members at)).1) 0) ∙ ap (λ l. ListOf l 0) (members-row _ (members_in (ListOf members at)).1 ∙ ap (map placeless_member) (items_hidden-the_row-Member-4 members))

pub placeless-Sum : (first : Expr) (more : List Signed) → placeless (Sum first more) ≡ Sum (placeless first) (map placeless_signed more)
unfolding placeless Rattle.smv_core.specs.declared.tree.Expr.TheBlock.hidden-the_row-Expr-1 Rattle.smv_core.specs.declared.tree.Expr.TheBlock.shape-the_row-Expr-1 denote.Hole.Carrier.hidden
placeless-Sum first more =
    let row = sums_in (Sum first more) in
    sym (sum-list _ (placeless first) _ (placeless_sum row.1)) ∙ ap (Sum (placeless first)) (signed-row _ row.1 ∙ ap (map placeless_signed) (items_hidden-the_row-Signed-3 more))

pub placeless-Signal : (path : Path) → placeless (Signal path) ≡ Signal (placeless_path path)
unfolding placeless
placeless-Signal path =
    let row = parts_in (Signal path) in
    sym (signal-list _ (placeless_parts row.1) 0) ∙ ap (λ l. Signal (roll-Path (record { parts = l; at = 0 }))) (parts-row _ row.1 ∙ ap (map placeless_part) (items_hidden-the_row-Part-0 (out-Path path).parts))

pub placeless-Number : (value at : ℕ) → placeless (Number value at) ≡ Number value 0
unfolding placeless
placeless-Number value at = refl

pub placeless-Not : (e : Expr) (at : ℕ) → placeless (Not e at) ≡ Not (placeless e) 0
unfolding placeless computing
placeless-Not e at = refl

pub placeless-Modulo : (e : Expr) (by at : ℕ) → placeless (Modulo e by at) ≡ Modulo (placeless e) by 0
unfolding placeless computing
placeless-Modulo e by at = refl

pub placeless-Iff : (x y : Expr) → placeless (Iff x y) ≡ Iff (placeless x) (placeless y)
unfolding placeless computing
placeless-Iff x y = refl

pub placeless-Compare : (op : Op) (x y : Expr) → placeless (Compare op x y) ≡ Compare op (placeless x) (placeless y)
unfolding placeless computing
placeless-Compare op x y = refl

pub placeless-Within : (x y : Expr) → placeless (Within x y) ≡ Within (placeless x) (placeless y)
unfolding placeless computing
placeless-Within x y = refl

pub placeless-Choose : (c x y : Expr) → placeless (Choose c x y) ≡ Choose (placeless c) (placeless x) (placeless y)
unfolding placeless computing
placeless-Choose c x y = refl

pub placeless-All : (x : Expr) (v : Word) (over : TypeExpr) (at : ℕ) → placeless (All x v over at) ≡ All (placeless x) (placeless_word v) (placeless_type over) 0
unfolding placeless computing
placeless-All x v over at = refl

pub placeless-Any : (x : Expr) (v : Word) (over : TypeExpr) (at : ℕ) → placeless (Any x v over at) ≡ Any (placeless x) (placeless_word v) (placeless_type over) 0
unfolding placeless computing
placeless-Any x v over at = refl

pub placeless-Each_none : (v : Word) (over : TypeExpr) (at : ℕ) → placeless (Each v over None at) ≡ Each (placeless_word v) (placeless_type over) None 0
unfolding placeless computing
placeless-Each_none v over at = refl

pub placeless-Each_some : (v : Word) (over : TypeExpr) (e : Expr) (at : ℕ) → placeless (Each v over (Some e) at) ≡ Each (placeless_word v) (placeless_type over) (Some (placeless e)) 0
unfolding placeless computing
placeless-Each_some v over e at = refl

pub placeless-boolean : placeless_type type.Boolean ≡ type.Boolean
unfolding placeless_type
placeless-boolean = refl

pub placeless-range : (span : Span) (at : ℕ) → placeless_type (type.Range span at) ≡ type.Range span 0
unfolding placeless_type
placeless-range span at = refl

pub placeless-named : (word : Word) (at : ℕ) → placeless_type (type.Named word at) ≡ type.Named (placeless_word word) 0
unfolding placeless_type
placeless-named word at = refl

-- ---- how an expression is changed through, constructor by constructor

abbrev pub word_by : (Name → Name) → Word → Word
word_by new word = record { name = new word.name; at = 0 }

-- what stands behind the first name of a path
abbrev pub part_by : (Expr → Expr) → Part → Part
part_by by (Field word) = Field (placeless_word word)
part_by by (At e) = At (by e)

abbrev pub member_by : (Expr → Expr) → Member → Member
member_by by (One e) = One (by e)
member_by by (SpanOf span at) = SpanOf span 0

abbrev pub signed_by : (Expr → Expr) → Signed → Signed
signed_by by x = roll-Signed (record { minus = (out-Signed x).minus; of = by (out-Signed x).of })

-- Places are left out, and names that follow no `.` are changed; so all through an expression, its paths and its index types.
pub record Forms (new : Name → Name) (by : Expr → Expr) (by_path : Path → Path) (by_type : TypeExpr → TypeExpr) : Type 0 where
  pub number : (value at : ℕ) → by (Number value at) ≡ Number value 0
  pub signal : (path : Path) → by (Signal path) ≡ Signal (by_path path)
  pub path : (x : Word) (parts : List Part) → by_path (named x parts) ≡ roll-Path (record { parts = Field (word_by new x) ∷ map (part_by by) parts; at = 0 })
  pub negation : (e : Expr) (at : ℕ) → by (Not e at) ≡ Not (by e) 0
  pub conjunction : (parts : List Expr) → by (And parts) ≡ And (map by parts)
  pub disjunction : (parts : List Expr) → by (Or parts) ≡ Or (map by parts)
  pub implication : (parts : List Expr) → by (Implies parts) ≡ Implies (map by parts)
  pub equivalence : (x y : Expr) → by (Iff x y) ≡ Iff (by x) (by y)
  pub comparison : (op : Op) (x y : Expr) → by (Compare op x y) ≡ Compare op (by x) (by y)
  pub membership : (x y : Expr) → by (Within x y) ≡ Within (by x) (by y)
  pub sum : (first : Expr) (more : List Signed) → by (Sum first more) ≡ Sum (by first) (map (signed_by by) more)
  pub modulo : (e : Expr) (over at : ℕ) → by (Modulo e over at) ≡ Modulo (by e) over 0
  pub choice : (c x y : Expr) → by (Choose c x y) ≡ Choose (by c) (by x) (by y)
  pub every : (x : Expr) (v : Word) (over : TypeExpr) (at : ℕ) → by (All x v over at) ≡ All (by x) (word_by new v) (by_type over) 0
  pub some : (x : Expr) (v : Word) (over : TypeExpr) (at : ℕ) → by (Any x v over at) ≡ Any (by x) (word_by new v) (by_type over) 0
  pub list : (members : List Member) (at : ℕ) → by (ListOf members at) ≡ ListOf (map (member_by by) members) 0
  pub each : (v : Word) (over : TypeExpr) (at : ℕ) → by (Each v over None at) ≡ Each (word_by new v) (by_type over) None 0
  pub each_where : (v : Word) (over : TypeExpr) (e : Expr) (at : ℕ) → by (Each v over (Some e) at) ≡ Each (word_by new v) (by_type over) (Some (by e)) 0
  pub boolean : by_type type.Boolean ≡ type.Boolean
  pub range : (span : Span) (at : ℕ) → by_type (type.Range span at) ≡ type.Range span 0
  pub named : (word : Word) (at : ℕ) → by_type (type.Named word at) ≡ type.Named (word_by new word) 0

same-parts : (parts : List Part) → map placeless_part parts ≡ map (part_by placeless) parts
same-parts [] = refl
same-parts (Field word ∷ parts) = ap (λ l. Field (placeless_word word) ∷ l) (same-parts parts)
same-parts (At e ∷ parts) = ap (λ l. At (placeless e) ∷ l) (same-parts parts)

same-members : (members : List Member) → map placeless_member members ≡ map (member_by placeless) members
same-members [] = refl
same-members (One e ∷ members) = ap (λ l. One (placeless e) ∷ l) (same-members members)
same-members (SpanOf span at ∷ members) = ap (λ l. SpanOf span 0 ∷ l) (same-members members)

pub placeless_forms : Forms (λ name. name) placeless placeless_path placeless_type
placeless_forms = record {
  number = placeless-Number;
  signal = placeless-Signal;
  path = λ x parts. ap (λ l. roll-Path (record { parts = Field (placeless_word x) ∷ l; at = 0 })) (same-parts parts);
  negation = placeless-Not;
  conjunction = placeless-And;
  disjunction = placeless-Or;
  implication = placeless-Implies;
  equivalence = placeless-Iff;
  comparison = placeless-Compare;
  membership = placeless-Within;
  sum = placeless-Sum;
  modulo = placeless-Modulo;
  choice = placeless-Choose;
  every = placeless-All;
  some = placeless-Any;
  list = λ members at. placeless-List members at ∙ ap (λ l. ListOf l 0) (same-members members);
  each = placeless-Each_none;
  each_where = placeless-Each_some;
  boolean = placeless-boolean;
  range = placeless-range;
  named = placeless-named;
}
