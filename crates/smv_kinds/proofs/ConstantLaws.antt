-- Which indexes can be worked out from the text alone.
use Rattle.std.proofs.Common.{◌≡◌, ℕ, Bool, true, false, ◌&&◌, List, [], ◌∷◌, refl, ap, ◌∙◌}
use Rattle.std.specs.Prelude.{Option}
use Rattle.std.specs.List.{list_all}
use Rattle.smv_core.specs.Values.{Name}
use Rattle.smv_core.specs.Assignments.{Index, fixed, bare, computed, index_of, index_of_sum, index_of_path, modulo_fixed, add_fixed}
use Rattle.smv_core.specs.Outcome.{fields_of}
use Rattle.smv_core.specs.declared.tree.Word.{Word}
use Rattle.smv_core.specs.declared.tree.TypeExpr.{TypeExpr}
use Rattle.smv_core.specs.declared.tree.Op.{Op}
use Rattle.smv_core.specs.declared.tree.Path.{Path}
use Rattle.smv_core.specs.declared.tree.Part.{Part, Field, At}
use Rattle.smv_core.specs.declared.tree.Signed.{Signed, out-Signed}
use Rattle.smv_core.specs.declared.tree.Member.{Member}
use Rattle.smv_core.specs.declared.tree.Expr.{Expr, Number, Signal, Signal', Not, And, Or, Implies, Iff, Compare, Within, Sum, Sum', Modulo, Choose, All, Any, List as ListOf, Each}
use Rattle.smv_core.specs.declared.tree.Expr.{Row_of-Part, end_of-Part, Row_of-Signed, end_of-Signed, more_of-Signed, items-the_row-Part, items-the_row-Signed, items_hidden-the_row-Signed-3}
use mathlib.Core.Former.{Count}
use Rattle.law_designs.specs.KindFaults.{is_fixed, are_constant}
use Rattle.smv_kinds.specs.Found.{is_constant, part_constant}
use Rattle.smv_mentions.proofs.Computing.{computing}

path-not : (path : List Name) → is_fixed (index_of_path [] path) ≡ false
path-not [] = refl
path-not (name ∷ []) = refl
path-not (name ∷ other ∷ more) = refl

modulo-is : (i : Index) (by : ℕ) → is_fixed (modulo_fixed i by) ≡ is_fixed i
modulo-is (fixed u) by = refl
modulo-is (bare n) by = refl
modulo-is computed by = refl

add-is : (minus : Bool) (i j : Index) → is_fixed (add_fixed minus i j) ≡ (is_fixed i && is_fixed j)
add-is minus (fixed u) (fixed v) = refl
add-is minus (fixed u) (bare n) = refl
add-is minus (fixed u) computed = refl
add-is minus (bare n) j = refl
add-is minus computed j = refl

and-in-turn : (a b c : Bool) → ((a && b) && c) ≡ (a && (b && c))
and-in-turn true b c = refl
and-in-turn false b c = refl

and-true : (a : Bool) → a ≡ (a && true)
and-true true = refl
and-true false = refl

sum-row : (n : _) (row : Row_of-Signed n) (i : Index) → is_fixed (index_of_sum [] i row) ≡ (is_fixed i && list_all (λ x. is_constant (out-Signed x).of) (items-the_row-Signed n row))
unfolding is_constant computing
sum-row n end_of-Signed i = and-true (is_fixed i)
sum-row n (more_of-Signed minus e rest) i =
    sum-row _ rest (add_fixed minus i (index_of [] e))
    ∙ ap (λ b. b && list_all (λ x. is_constant (out-Signed x).of) (items-the_row-Signed _ rest)) (add-is minus i (index_of [] e))
    ∙ and-in-turn (is_fixed i) (is_fixed (index_of [] e)) (list_all (λ x. is_constant (out-Signed x).of) (items-the_row-Signed _ rest))

abbrev signed_of : Expr → (n : Count) × Row_of-Signed n
signed_of (Sum' f first shape row) = (_, row)
signed_of _ = (_, end_of-Signed)

abbrev parts_of : Expr → (n : Count) × Row_of-Part n
parts_of (Signal' shape row at) = (_, row)
parts_of _ = (_, end_of-Part)

pub constant-Number : (value at : ℕ) → is_constant (Number value at) ≡ true
unfolding is_constant
constant-Number value at = refl

pub constant-Signal : (path : Path) → is_constant (Signal path) ≡ false
unfolding is_constant
constant-Signal path = path-not (fields_of (items-the_row-Part (parts_of (Signal path)).0 (parts_of (Signal path)).1))

pub constant-Sum : (first : Expr) (more : List Signed) → is_constant (Sum first more) ≡ (is_constant first && list_all (λ x. is_constant (out-Signed x).of) more)
unfolding is_constant Rattle.smv_core.specs.declared.tree.Expr.TheBlock.hidden-the_row-Expr-1 Rattle.smv_core.specs.declared.tree.Expr.TheBlock.shape-the_row-Expr-1 denote.Hole.Carrier.hidden
constant-Sum first more =
    let row : (n : Count) × Row_of-Signed n = signed_of (Sum first more) in
    sum-row row.0 row.1 (index_of [] first) ∙ ap (λ l. is_constant first && list_all (λ x. is_constant (out-Signed x).of) l) (items_hidden-the_row-Signed-3 more)

pub constant-Modulo : (e : Expr) (by at : ℕ) → is_constant (Modulo e by at) ≡ is_constant e
unfolding is_constant computing
constant-Modulo e by at = modulo-is (index_of [] e) by

pub constant-Not : (e : Expr) (at : ℕ) → is_constant (Not e at) ≡ false
unfolding is_constant
constant-Not e at = refl

pub constant-And : (parts : List Expr) → is_constant (And parts) ≡ false
unfolding is_constant
constant-And parts = refl

pub constant-Or : (parts : List Expr) → is_constant (Or parts) ≡ false
unfolding is_constant
constant-Or parts = refl

pub constant-Implies : (parts : List Expr) → is_constant (Implies parts) ≡ false
unfolding is_constant
constant-Implies parts = refl

pub constant-Iff : (x y : Expr) → is_constant (Iff x y) ≡ false
unfolding is_constant
constant-Iff x y = refl

pub constant-Compare : (op : Op) (x y : Expr) → is_constant (Compare op x y) ≡ false
unfolding is_constant
constant-Compare op x y = refl

pub constant-Within : (x y : Expr) → is_constant (Within x y) ≡ false
unfolding is_constant
constant-Within x y = refl

pub constant-Choose : (c x y : Expr) → is_constant (Choose c x y) ≡ false
unfolding is_constant
constant-Choose c x y = refl

pub constant-All : (body : Expr) (var : Word) (over : TypeExpr) (at : ℕ) → is_constant (All body var over at) ≡ false
unfolding is_constant
constant-All body var over at = refl

pub constant-Any : (body : Expr) (var : Word) (over : TypeExpr) (at : ℕ) → is_constant (Any body var over at) ≡ false
unfolding is_constant
constant-Any body var over at = refl

pub constant-List : (parts : List Member) (at : ℕ) → is_constant (ListOf parts at) ≡ false
unfolding is_constant
constant-List parts at = refl

pub constant-Each : (var : Word) (over : TypeExpr) (cond : Option Expr) (at : ℕ) → is_constant (Each var over cond at) ≡ false
unfolding is_constant
constant-Each var over cond at = refl

pub ruleset equations = (constant-Number, constant-Signal, constant-Sum, constant-Modulo, constant-Not, constant-And, constant-Or, constant-Implies, constant-Iff, constant-Compare, constant-Within, constant-Choose, constant-All, constant-Any, constant-List, constant-Each)

-- a path's indexes, part by part
pub all-parts : (parts : List Part) → are_constant parts ≡ list_all part_constant parts
unfolding is_constant
all-parts [] = refl
all-parts (Field word ∷ parts) = all-parts parts
all-parts (At index ∷ parts) = ap (λ b. is_constant index && b) (all-parts parts)

pub ruleset constant_parts = (all-parts)
