-- The canonical spelling of a text.
use Rattle.std.specs.Prelude.{ℕ, Bool, true, false, List, [], ◌∷◌, ◌++◌, Option, Some, None, flat_map}
use Rattle.smv_core.specs.declared.token.TokenKind.TheVariants.{Ident}
use Rattle.smv_core.specs.declared.tree.Word.{Word}
use Rattle.smv_core.specs.declared.tree.Item.{Item}
use Rattle.smv_core.specs.declared.tree.TypeExpr.{TypeExpr}
use Rattle.smv_core.specs.declared.tree.Span.{Span}
use Rattle.smv_core.specs.declared.tree.Text.{Text}
use Rattle.smv_core.specs.declared.tree.Top.{Top}
use Rattle.smv_core.specs.declared.tree.Top.TheVariants as top
use Rattle.smv_core.specs.Signs.{open_paren, close_paren, open_brace, close_brace, semicolon}
use Rattle.smv_core.specs.Signs as w
use Rattle.smv_print.specs.Written.{Kinds, joined}
use Rattle.smv_print.specs.Types.{type_kinds, span_kinds, names_kinds}
use Rattle.smv_print.specs.Items.{item_kinds}

-- 'scalarset' or 'ordset'
abbrev pub set_word : Bool → Kinds
set_word false = w.word_scalarset ∷ []
set_word true = w.word_ordset ∷ []

-- 'undefined' | number '..' number
abbrev pub extent : Option Span → Kinds
extent None = w.word_undefined ∷ []
extent (Some s) = span_kinds s

abbrev pub set_type : Word → Bool → Option Span → Kinds
set_type x ordered span = set_word ordered ++ Ident x.name ∷ extent span ++ semicolon ∷ []

abbrev pub alias : Word → TypeExpr → Kinds
alias x of = w.word_typedef ∷ Ident x.name ∷ type_kinds of ++ semicolon ∷ []

-- 'module' name '(' [ name { ',' name } ] ')'
abbrev pub heading : Word → List Word → Kinds
heading x formals = w.word_module ∷ Ident x.name ∷ open_paren ∷ names_kinds formals ++ close_paren ∷ []

abbrev pub module_kinds : Word → List Word → List Item → Kinds
module_kinds x formals body = heading x formals ++ open_brace ∷ flat_map item_kinds body ++ close_brace ∷ []

abbrev pub top_kinds : Top → Kinds
top_kinds (top.SetType x ordered span at) = set_type x ordered span
top_kinds (top.Alias x of at) = alias x of
top_kinds (top.Module x formals body at) = module_kinds x formals body

-- the tokens of a text
abbrev pub text_kinds : Text → Kinds
text_kinds text = flat_map top_kinds text.tops

-- the canonical spelling of a text
unfoldable pub canonical : Text → List ℕ
canonical text = joined (text_kinds text)
