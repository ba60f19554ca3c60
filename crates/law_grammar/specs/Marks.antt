-- Which tokens begin a value, and which go on with it.
use Rattle.std.specs.Prelude.{Bool, true, false, not, ◌||◌, List, [], ◌∷◌, Option, Some, None}
use Rattle.smv_core.specs.declared.token.Token.{Token}
use Rattle.smv_core.specs.declared.token.TokenKind.{TokenKind}
use Rattle.smv_core.specs.declared.token.TokenKind.TheVariants.{Ident, Number}
use Rattle.smv_core.specs.Notation.{same_kind}

-- any name, any number, or this sign or reserved word
pub data Mark : Type 0 where
  any_name any_number : Mark
  exactly : TokenKind → Mark

abbrev pub is_mark : Mark → TokenKind → Bool
is_mark any_name (Ident bytes) = true
is_mark any_name other = false
is_mark any_number (Number value) = true
is_mark any_number other = false
is_mark (exactly k) other = same_kind other k

abbrev pub has_mark : List Mark → TokenKind → Bool
has_mark [] k = false
has_mark (x ∷ xs) k = is_mark x k || has_mark xs k

-- whether the token has one of these marks
abbrev pub begins : List Mark → Token → Bool
begins xs t = has_mark xs t.kind

-- the value does not go on with this token, where it goes on with tokens of these marks
abbrev pub stops_by : {A : Type 0} → (A → List Mark) → A → Option Token → Bool
stops_by ys a None = true
stops_by ys a (Some t) = not (has_mark (ys a) t.kind)
