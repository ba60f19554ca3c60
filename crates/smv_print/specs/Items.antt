-- The tokens of what stands in the body of a module.
use Rattle.std.specs.Prelude.{ℕ, Bool, true, false, List, [], ◌∷◌, ◌++◌, Option, Some, None, map, flat_map, take, drop, nat_lt}
use Rattle.std.specs.List.{prefix_len}
use Rattle.smv_core.specs.declared.token.TokenKind.TheVariants.{Ident}
use Rattle.smv_core.specs.declared.tree.Word.{Word}
use Rattle.smv_core.specs.declared.tree.Item.{Item, fold-Item, Item-F}
use Rattle.smv_core.specs.declared.tree.TypeExpr.{TypeExpr}
use Rattle.smv_core.specs.declared.tree.Expr.{Expr}
use Rattle.smv_core.specs.declared.tree.Stmt.{Stmt}
use Rattle.smv_core.specs.declared.tree.Role.{Role}
use Rattle.smv_core.specs.declared.tree.Role.TheVariants as role
use Rattle.smv_core.specs.declared.tree.Pair.{Pair}
use Rattle.smv_core.specs.declared.tree.Ref.{Ref}
use Rattle.smv_core.specs.declared.tree.Use.{Use}
use Rattle.smv_core.specs.declared.tree.Use.TheVariants as uses
use Rattle.smv_core.specs.Signs.{open_paren, close_paren, open_bracket, close_bracket, open_brace, close_brace, colon, semicolon, comma, dot, equal, arrow, slashes}
use Rattle.smv_core.specs.Signs as w
use Rattle.smv_print.specs.Written.{Kinds, separated}
use Rattle.smv_print.specs.Types.{type_kinds, names_kinds}
use Rattle.smv_print.specs.Expressions.{spelled, within, expr_kinds, sum}
use Rattle.smv_print.specs.Statements.{stmt_kinds, binder}

-- { '[' name ']' }
abbrev pub bracket : Word → Kinds
bracket x = open_bracket ∷ Ident x.name ∷ close_bracket ∷ []

unfoldable pub brackets : List Word → Kinds
brackets names = flat_map bracket names

-- how many names from the front on have an offset below this one
abbrev pub count_before : ℕ → List Word → ℕ
count_before at names = prefix_len (λ y. nat_lt y.at at) names

-- the names of a path behind its first, each with a dot, and the names in brackets, in the order of their offsets
abbrev pub ref_parts : List Word → List Word → Kinds
ref_parts [] names = brackets names
ref_parts (x ∷ path) names = brackets (take (count_before x.at names) names) ++ dot ∷ Ident x.name ∷ ref_parts path (drop (count_before x.at names) names)

abbrev pub ref_path : List Word → List Word → Kinds
ref_path [] names = brackets names
ref_path (x ∷ path) names = Ident x.name ∷ ref_parts path names

-- [ '//' ( name | 'free' ) ]
abbrev pub ref_layer : Option Word → Bool → Kinds
ref_layer (Some l) free = slashes ∷ Ident l.name ∷ []
ref_layer None true = slashes ∷ w.word_free ∷ []
ref_layer None false = []

abbrev pub ref_kinds : Ref → Kinds
ref_kinds r = ref_path r.path r.names ++ ref_layer r.layer r.free

abbrev pub use_kinds : Use → Kinds
use_kinds (uses.Plain r) = ref_kinds r
use_kinds (uses.Early r) = open_paren ∷ ref_kinds r ++ close_paren ∷ []
use_kinds (uses.Keep set names at) = Ident set.name ∷ arrow ∷ open_brace ∷ names_kinds names ++ close_brace ∷ []

-- Sum '=' name
abbrev pub pair_kinds : Pair → Kinds
pair_kinds p = within sum (spelled p.left) ++ equal ∷ Ident p.right.name ∷ []

abbrev pub role_kinds : Role → Kinds
role_kinds role.Plain = []
role_kinds role.Abstract = w.word_abstract ∷ []
role_kinds role.Input = w.word_input ∷ []
role_kinds role.Output = w.word_output ∷ []

abbrev pub declaration : Role → List Word → TypeExpr → Kinds
declaration how names of = role_kinds how ++ names_kinds names ++ colon ∷ type_kinds of ++ semicolon ∷ []

abbrev pub instance : List Word → Word → List Expr → Kinds
instance names m args = names_kinds names ++ colon ∷ Ident m.name ∷ open_paren ∷ separated comma (map expr_kinds args) ++ close_paren ∷ semicolon ∷ []

abbrev pub layer : Word → List Stmt → Kinds
layer x body = w.word_layer ∷ Ident x.name ∷ colon ∷ open_brace ∷ flat_map stmt_kinds body ++ close_brace ∷ []

abbrev pub claim : Word → List Word → Expr → Kinds
claim x vars body = Ident x.name ∷ brackets vars ++ colon ∷ w.word_assert ∷ w.word_G ∷ expr_kinds body ++ semicolon ∷ []

-- 'subcase' name { '[' name ']' } 'of'
abbrev pub subcase : Word → List Word → Kinds
subcase x vars = w.word_subcase ∷ Ident x.name ∷ brackets vars ++ w.word_of ∷ []

-- 'for' Sum '=' name { ',' Sum '=' name } ';'
abbrev pub cases : List Pair → Kinds
cases pairs = w.word_for ∷ separated comma (map pair_kinds pairs) ++ semicolon ∷ []

abbrev pub split : Word → List Word → Ref → List Pair → Kinds
split x vars of pairs = subcase x vars ++ ref_kinds of ++ cases pairs

abbrev pub proof_of : List Use → List Ref → Kinds
proof_of us proves = w.word_using ∷ separated comma (map use_kinds us) ++ w.word_prove ∷ separated comma (map ref_kinds proves) ++ semicolon ∷ []

abbrev pub item_step : Item-F Kinds → Kinds
item_step (Item-F.Declare how names of at) = declaration how names of
item_step (Item-F.Instance names m args at) = instance names m args
item_step (Item-F.Layer x body at) = layer x body
item_step (Item-F.Forall v over body at) = binder v over ++ body
item_step (Item-F.Block items) = open_brace ∷ flat_map (λ x. x) items ++ close_brace ∷ []
item_step (Item-F.Claim x vars body at) = claim x vars body
item_step (Item-F.Split x vars of pairs at) = split x vars of pairs
item_step (Item-F.Using us proves at) = proof_of us proves
item_step (Item-F.Act act) = stmt_kinds act

unfoldable pub item_kinds : Item → Kinds
item_kinds = fold-Item Kinds item_step
