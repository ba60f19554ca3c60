-- The names among tokens.
use Rattle.std.specs.Prelude.{List, [], ◌∷◌}
use Rattle.smv_core.specs.Values.{Name}
use Rattle.smv_core.specs.declared.token.Token.{Token}
use Rattle.smv_core.specs.declared.token.TokenKind.{TokenKind}
use Rattle.smv_core.specs.declared.token.TokenKind.TheVariants.{Ident}

abbrev pub name_in : TokenKind → List Name
name_in (Ident name) = name ∷ []
name_in _ = []

-- the name that a token is, if it is one
abbrev pub name_of : Token → List Name
name_of t = name_in t.kind
