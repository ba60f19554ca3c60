-- The tokens of expressions.
use Rattle.std.proofs.Common.{◌≡◌, ℕ, Bool, true, false, cond, List, [], ◌∷◌, ◌++◌, map, Option, Some, None, nat_lt, ap, arith, rules}
use Rattle.smv_core.specs.declared.token.TokenKind.{TokenKind}
use Rattle.smv_core.specs.declared.tree.Word.{Word}
use Rattle.smv_core.specs.declared.tree.Span.{Span}
use Rattle.smv_core.specs.declared.tree.TypeExpr.{TypeExpr}
use Rattle.smv_core.specs.declared.tree.Op.{Op}
use Rattle.smv_core.specs.declared.tree.Op.TheVariants as op
use Rattle.smv_core.specs.declared.tree.Expr.{Expr}
use Rattle.smv_core.specs.declared.tree.Expr.TheVariants as expr
use Rattle.smv_core.specs.declared.tree.Member.{Member}
use Rattle.smv_core.specs.declared.tree.Member.TheVariants as member
use Rattle.smv_core.specs.declared.tree.Part.{Part}
use Rattle.smv_core.specs.declared.tree.Part.TheVariants as part
use Rattle.smv_core.specs.declared.tree.Path.{Path, fold-roll-Path}
use Rattle.smv_core.specs.declared.tree.Signed.{Signed, roll-Signed, fold-roll-Signed}
use Rattle.smv_core.specs.Signs.{open_paren, close_paren, comma}
use Rattle.smv_core.specs.Signs as w
use Rattle.smv_core.specs.Grammar.{chain, sum_of, named}
use Rattle.smv_print.specs.Written.{Kinds, separated}
use Rattle.smv_print.specs.Expressions.{Spelled, spelled, member_kinds, part_kinds, path_kinds, signed_kinds, expr_kinds, expr_step, member_step, part_step, path_step, signed_step, within, operator, plus_or_minus}
use Rattle.smv_print.specs.Expressions as s
use Rattle.smv_print.proofs.ExpressionLaws as laws
use Rattle.law_print_and_parse.specs.Readable.{IsReadable}
use Rattle.law_print_and_parse.proofs.Good.{Good, IsNumber, Each, each-as, each-map, good-append, good-flat, good-separated, good-as, goods}
use Rattle.law_print_and_parse.proofs.Keeping.{Named, IfAny}
use Rattle.law_print_and_parse.proofs.TypeTokens.{GoodType, GoodSpan}

abbrev pub GoodExpr : Expr → Type 0
GoodExpr x = Good (spelled x).bare

abbrev pub GoodMember : Member → Type 0
GoodMember x = Good (member_kinds x)

abbrev pub GoodPart : Part → Type 0
GoodPart x = (first : Bool) → Good (part_kinds x first)

abbrev pub GoodPath : Path → Type 0
GoodPath x = Good (path_kinds x)

abbrev pub GoodSigned : Signed → Type 0
GoodSigned x = Good (signed_kinds x)

pub good-within : (wanted : ℕ) (x : Spelled) → Good x.bare → Good (within wanted x)
good-within wanted x good = by (nat_lt x.binding wanted)
  where
    by : (r : Bool) → Good (cond r (open_paren ∷ x.bare ++ close_paren ∷ []) x.bare)
    by true = search (rules, goods)
    by false = good

pub good-expr : (x : Expr) → GoodExpr x → Good (expr_kinds x)
good-expr x good = good-within s.conditional (spelled x) good

bare-good : (x : Expr) (y : Spelled) → spelled x ≡ y → Good y.bare → GoodExpr x
bare-good x y e good = good-as (ap (λ (y : Spelled). y.bare) e) good

pub ruleset parts = (goods, good-within)

-- ---- paths

pub part-field : (x : Word) → Named x → GoodPart (part.Field x)
part-field x name true = good-as (laws.part-Field x true) (search (rules, goods))
part-field x name false = good-as (laws.part-Field x false) (search (rules, goods))

pub part-at : (x : Expr) → GoodExpr x → GoodPart (part.At x)
part-at x good first = good-as (laws.part-At x first) (search (rules, parts))

pub path-named : (x : Word) (more : List Part) → Named x → Each GoodPart more → GoodPath (named x more)
unfolding spelled member_kinds part_kinds path_kinds signed_kinds
path-named x more name all =
    good-as (fold-roll-Path Spelled Kinds (Bool → Kinds) Kinds Kinds expr_step member_step part_step path_step signed_step (record { parts = part.Field x ∷ more; at = x.at }))
    (good-append (part_kinds (part.Field x) true) _ (part-field x name true) (good-flat (λ (p : Bool → Kinds). p false) (map part_kinds more)
    (each-map (λ (p : Bool → Kinds). Good (p false)) part_kinds more (each-as more (λ x good. good false) all))))

-- ---- expressions

pub expr-number : (value at : ℕ) → IsNumber value → GoodExpr (expr.Number value at)
expr-number value at few = bare-good _ _ (laws.spelled-Number value at) (search (rules, goods))

pub expr-signal : (p : Path) → GoodPath p → GoodExpr (expr.Signal p)
expr-signal p good = bare-good _ _ (laws.spelled-Signal p) good

pub expr-not : (x : Expr) (at : ℕ) → GoodExpr x → GoodExpr (expr.Not x at)
expr-not x at good = bare-good _ _ (laws.spelled-Not x at) (search (rules, parts))

good-chain : (k : TokenKind) (wanted : ℕ) (xs : List Expr) → IsReadable k → Each GoodExpr xs → Good (separated k (map (within wanted) (map spelled xs)))
good-chain k wanted xs readable all = good-separated k (within wanted) (map spelled xs) readable (each-map (λ x. Good (within wanted x)) spelled xs (each-as xs (λ x good. good-within wanted (spelled x) good) all))

pub expr-and : (xs : List Expr) → Each GoodExpr xs → GoodExpr (expr.And xs)
expr-and xs all = bare-good _ _ (laws.spelled-And xs) (good-chain w.ampersand s.negation xs (omega arith) all)

pub expr-or : (xs : List Expr) → Each GoodExpr xs → GoodExpr (expr.Or xs)
expr-or xs all = bare-good _ _ (laws.spelled-Or xs) (good-chain w.bar s.conjunction xs (omega arith) all)

pub expr-implies : (xs : List Expr) → Each GoodExpr xs → GoodExpr (expr.Implies xs)
expr-implies xs all = bare-good _ _ (laws.spelled-Implies xs) (good-chain w.arrow s.disjunction xs (omega arith) all)

pub expr-chain : (make : List Expr → Expr) → ((xs : List Expr) → Each GoodExpr xs → GoodExpr (make xs)) → (x : Expr) (more : List Expr) → GoodExpr x → Each GoodExpr more → GoodExpr (chain make x more)
expr-chain make good x [] here there = here
expr-chain make good x (y ∷ more) here there = good (x ∷ y ∷ more) (here, there)

pub expr-iff : (x y : Expr) → GoodExpr x → GoodExpr y → GoodExpr (expr.Iff x y)
expr-iff x y left right = bare-good _ _ (laws.spelled-Iff x y) (search (rules, parts))

good-operator : (o : Op) (ks : Kinds) → Good ks → Good (operator o ∷ ks)
good-operator op.Equal ks good = search (rules, goods)
good-operator op.Differ ks good = search (rules, goods)
good-operator op.Less ks good = search (rules, goods)
good-operator op.AtMost ks good = search (rules, goods)
good-operator op.Greater ks good = search (rules, goods)
good-operator op.AtLeast ks good = search (rules, goods)

pub expr-compare : (o : Op) (x y : Expr) → GoodExpr x → GoodExpr y → GoodExpr (expr.Compare o x y)
expr-compare o x y left right =
    bare-good _ _ (laws.spelled-Compare o x y)
    (good-append (within s.remainder (spelled x)) _ (good-within s.remainder (spelled x) left) (good-operator o (within s.remainder (spelled y)) (good-within s.remainder (spelled y) right)))

pub expr-within : (x set : Expr) → GoodExpr x → GoodExpr set → GoodExpr (expr.Within x set)
expr-within x set left right = bare-good _ _ (laws.spelled-Within x set) (search (rules, parts))

pub expr-sum : (x : Expr) (more : List Signed) → GoodExpr x → Each GoodSigned more → GoodExpr (expr.Sum x more)
expr-sum x more good all = bare-good _ _ (laws.spelled-Sum x more) (let others = good-flat signed_kinds more all in search (rules, parts))

pub expr-sum_of : (x : Expr) (more : List Signed) → GoodExpr x → Each GoodSigned more → GoodExpr (sum_of x more)
expr-sum_of x [] good all = good
expr-sum_of x (y ∷ more) good all = expr-sum x (y ∷ more) good all

pub signed-good : (minus : Bool) (x : Expr) → GoodExpr x → GoodSigned (roll-Signed (record { minus = minus; of = x }))
unfolding spelled member_kinds part_kinds path_kinds signed_kinds
signed-good minus x good =
    good-as (fold-roll-Signed Spelled Kinds (Bool → Kinds) Kinds Kinds expr_step member_step part_step path_step signed_step (record { minus = minus; of = x })) (by minus)
  where
    by : (minus : Bool) → Good (plus_or_minus minus ∷ within s.primary (spelled x))
    by true = search (rules, parts)
    by false = search (rules, parts)

pub expr-modulo : (x : Expr) (by at : ℕ) → GoodExpr x → IsNumber by → GoodExpr (expr.Modulo x by at)
expr-modulo x by at good few = bare-good _ _ (laws.spelled-Modulo x by at) (search (rules, parts))

pub expr-choose : (c x y : Expr) → GoodExpr c → GoodExpr x → GoodExpr y → GoodExpr (expr.Choose c x y)
expr-choose c x y test first second = bare-good _ _ (laws.spelled-Choose c x y) (search (rules, parts) depth 12)

pub expr-all : (x : Expr) (v : Word) (over : TypeExpr) (at : ℕ) → GoodExpr x → Named v → GoodType over → GoodExpr (expr.All x v over at)
expr-all x v over at good name type = bare-good _ _ (laws.spelled-All x v over at) (search (rules, parts) depth 12)

pub expr-any : (x : Expr) (v : Word) (over : TypeExpr) (at : ℕ) → GoodExpr x → Named v → GoodType over → GoodExpr (expr.Any x v over at)
expr-any x v over at good name type = bare-good _ _ (laws.spelled-Any x v over at) (search (rules, parts) depth 12)

pub expr-list : (members : List Member) (at : ℕ) → Each GoodMember members → GoodExpr (expr.List members at)
expr-list members at all = bare-good _ _ (laws.spelled-List members at) (let inside = good-separated comma member_kinds members (omega arith) all in search (rules, parts))

pub expr-each : (v : Word) (over : TypeExpr) (c : Option Expr) (at : ℕ) → Named v → GoodType over → IfAny GoodExpr c → GoodExpr (expr.Each v over c at)
expr-each v over None at name type good = bare-good _ _ (laws.spelled-Each v over None at) (search (rules, parts) depth 12)
expr-each v over (Some c) at name type good = bare-good _ _ (laws.spelled-Each v over (Some c) at) (search (rules, parts) depth 12)

pub member-one : (x : Expr) → GoodExpr x → GoodMember (member.One x)
member-one x good = good-as (laws.member-One x) (search (rules, parts))

pub member-span : (span : Span) (at : ℕ) → GoodSpan span → GoodMember (member.Span span at)
member-span span at good = good-as (laws.member-Span span at) good
