-- Tokens and bytes in which a variable has another name.
use Rattle.std.specs.Prelude.{◌≡◌, ℕ, Bool, false, not, ◌&&◌, if◌then◌else◌, List, [], ◌∷◌, ◌++◌, length, take, drop, ◌+◌, ◌-◌}
use Rattle.std.specs.Str.{bytes_eq}
use Rattle.smv_core.specs.Values.{Name}
use Rattle.smv_core.specs.declared.token.TokenKind.{TokenKind}
use Rattle.smv_core.specs.declared.token.TokenKind.TheVariants.{Ident}
use Rattle.smv_core.specs.declared.tree.Expr.{Expr}
use Rattle.smv_core.specs.Signs.{dot}
use Rattle.smv_core.specs.Notation.{Tokens, same_kind}
use Rattle.law_grammar.specs.Laws.{SpellsExpr}
use Rattle.law_places.specs.Placeless.{placeless}
use Rattle.law_lexed_parts.specs.Parts.{IsReadAs}
use Rattle.law_spelled_alike.specs.Local.{kind_by}
use Rattle.law_induction.specs.Renamed.{new_name, renamed}

-- Each token has its kind, but that the variable has the new name where it follows no `.`. Whether a `.` stands before them is given.
abbrev pub Renames : Name → Name → Bool → Tokens → Tokens → Type 0
Renames var fresh is_behind_dot [] [] = Unit {0}
Renames var fresh is_behind_dot (t ∷ ts) (u ∷ us) = (u.kind ≡ (if is_behind_dot then t.kind else kind_by (new_name var fresh) t.kind)) × Renames var fresh (same_kind t.kind dot) ts us
Renames var fresh is_behind_dot _ _ = ⊥

-- tokens with the new name spell the expression under that name
abbrev pub RenamedTokensAreSpelled : Type 0
RenamedTokensAreSpelled = (n : ℕ) (var fresh : Name) (ts us : Tokens) (e : Expr) → SpellsExpr n ts e → Renames var fresh false ts us → (d : Expr) × SpellsExpr n us d × (placeless d ≡ placeless (renamed var fresh e))

-- ---- bytes

-- whether a token is this name
abbrev pub is_name : Name → TokenKind → Bool
is_name name (Ident bytes) = bytes_eq bytes name
is_name name _ = false

-- the bytes from an offset up to another
abbrev pub between : List ℕ → ℕ → ℕ → List ℕ
between text from to = take (to - from) (drop from text)

-- The bytes from an offset up to another, with the new name for each token that is the variable and does not follow a `.`. The tokens are those that stand there; whether the token before is a `.` is given.
abbrev pub renamed_bytes : List ℕ → Name → Name → ℕ → ℕ → Bool → Tokens → List ℕ
renamed_bytes text var fresh from to is_behind_dot [] = between text from to
renamed_bytes text var fresh from to is_behind_dot (t ∷ ts) =
    if is_name var t.kind && not is_behind_dot
    then between text from t.at ++ (fresh ++ renamed_bytes text var fresh (t.at + length var) to false ts)
    else renamed_bytes text var fresh from to (same_kind t.kind dot) ts

-- the bytes of a name alone
abbrev pub IsName : Name → Type 0
IsName name = IsReadAs name (record { kind = Ident name; at = 0 } ∷ [])

-- bytes with the new name are read as the tokens with the new name
abbrev pub RenamedBytesAreRead : Type 0
RenamedBytesAreRead = (bytes : List ℕ) (var fresh : Name) (ts : Tokens) → IsReadAs bytes ts → IsName fresh →
    (us : Tokens) × IsReadAs (renamed_bytes bytes var fresh 0 (length bytes) false ts) us × Renames var fresh false ts us
