-- Worked texts. The tokens of a text are written out, so that each part is computed alone.
use Rattle.std.specs.Prelude.{◌≡◌, ℕ, List, [], ◌∷◌, codes, Some, None, Ok, true, false}
use Rattle.smv_core.specs.declared.token.Token.{Token}
use Rattle.smv_core.specs.declared.token.TokenKind.{TokenKind}
use Rattle.smv_core.specs.declared.token.TokenKind.TheVariants.{Ident, Sign, Reserved}
use Rattle.smv_core.specs.declared.tree.Word.{Word}
use Rattle.smv_core.specs.declared.tree.Top.{Top}
use Rattle.smv_core.specs.declared.tree.Top.TheVariants.{SetType}
use Rattle.smv_core.specs.declared.tree.TypeExpr.TheVariants as type
use Rattle.smv_core.specs.Notation.{Tokens}
use Rattle.smv_lex.specs.Lexing.{lexed}
use Rattle.law_lexed_parts.specs.Parts.{end_of_all}
use Rattle.law_exchanged.specs.Claims.{body_tokens}
use Rattle.law_strengthened_claims.specs.Renaming.{renamed_bytes}
use Rattle.law_strengthened_texts.specs.Stronger.{Found, if_only, fresh_name, below_name, Stronger, put, back}

abbrev t : TokenKind → ℕ → Token
t kind at = record { kind = kind; at = at }

abbrev pub plain_text : List ℕ
plain_text = codes "ordset I undefined; module main() { x : array I of boolean; forall (i in I) p[i] : assert G x[i]; }"

abbrev pub plain_tokens : Tokens
plain_tokens = t (Reserved 20) 0 ∷ t (Ident (codes "I")) 7 ∷ t (Reserved 29) 9 ∷ t (Sign 7) 18 ∷ t (Reserved 17) 20 ∷ t (Ident (codes "main")) 27 ∷ t (Sign 0) 31 ∷ t (Sign 1) 32 ∷ t (Sign 4) 34 ∷ t (Ident (codes "x")) 36 ∷ t (Sign 6) 38 ∷ t (Reserved 1) 40 ∷ t (Ident (codes "I")) 46 ∷ t (Reserved 19) 48 ∷ t (Reserved 3) 51 ∷ t (Sign 7) 58 ∷ t (Reserved 8) 60 ∷ t (Sign 0) 67 ∷ t (Ident (codes "i")) 68 ∷ t (Reserved 12) 70 ∷ t (Ident (codes "I")) 73 ∷ t (Sign 1) 74 ∷ t (Ident (codes "p")) 76 ∷ t (Sign 2) 77 ∷ t (Ident (codes "i")) 78 ∷ t (Sign 3) 79 ∷ t (Sign 6) 81 ∷ t (Reserved 2) 83 ∷ t (Reserved 10) 90 ∷ t (Ident (codes "x")) 92 ∷ t (Sign 2) 93 ∷ t (Ident (codes "i")) 94 ∷ t (Sign 3) 95 ∷ t (Sign 7) 96 ∷ t (Sign 5) 98 ∷ []

-- what is read of the bytes
abbrev pub Lexed : Type 0
Lexed = lexed plain_text ≡ Ok plain_tokens

-- the tokens of the claim's expression, where it ends, and the new name
abbrev pub Body : Type 0
Body = body_tokens 76 plain_tokens ≡ t (Ident (codes "x")) 92 ∷ t (Sign 2) 93 ∷ t (Ident (codes "i")) 94 ∷ t (Sign 3) 95 ∷ []

abbrev pub Ends : Type 0
Ends = end_of_all plain_text (t (Ident (codes "i")) 94 ∷ t (Sign 3) 95 ∷ []) ≡ 96

abbrev pub New : Type 0
New = fresh_name plain_tokens ≡ below_name 0

-- the expression with the new name
abbrev pub Renamed : Type 0
Renamed = renamed_bytes plain_text (codes "i") (codes "below0") 92 96 false (t (Ident (codes "x")) 92 ∷ t (Sign 2) 93 ∷ t (Ident (codes "i")) 94 ∷ t (Sign 3) 95 ∷ []) ≡ codes "x[below0]"

-- ---- where the variable's name is that of a field, a type or a constant of a set, and stands in a comment or in an index

-- `a.i[i] /* i */ < i & {i : i in i}` with its tokens
abbrev pub names_text : List ℕ
names_text = codes "a.i[i] /* i */ < i & y in {x : x in i}"

abbrev pub names_tokens : Tokens
names_tokens = t (Ident (codes "a")) 0 ∷ t (Sign 9) 1 ∷ t (Ident (codes "i")) 2 ∷ t (Sign 2) 3 ∷ t (Ident (codes "i")) 4 ∷ t (Sign 3) 5 ∷ t (Sign 14) 15 ∷ t (Ident (codes "i")) 17 ∷ t (Sign 21) 19 ∷ t (Ident (codes "y")) 21 ∷ t (Reserved 12) 23 ∷ t (Sign 4) 26 ∷ t (Ident (codes "x")) 27 ∷ t (Sign 6) 29 ∷ t (Ident (codes "x")) 31 ∷ t (Reserved 12) 33 ∷ t (Ident (codes "i")) 36 ∷ t (Sign 5) 37 ∷ []

abbrev pub NamesLexed : Type 0
NamesLexed = lexed names_text ≡ Ok names_tokens

-- the field keeps its name and the comment its text; the index and the type have the new name
abbrev pub NamesRenamed : Type 0
NamesRenamed = renamed_bytes names_text (codes "i") (codes "below0") 0 38 false names_tokens ≡ codes "a.i[below0] /* i */ < below0 & y in {x : x in below0}"

-- ---- fault 36

abbrev word : List ℕ → Word
word name = record { name = name; at = 0 }

abbrev tops : List Top
tops = SetType (word (codes "I")) true None 0 ∷ []

abbrev claim : List ℕ → Found
claim of = record { word = word (codes "p"); vars = word (codes "i") ∷ []; binders = (word (codes "i"), type.Named (word of) 0) ∷ [] }

-- one claim over the ordset; two; none; a variable that is no parameter; a name of another type
abbrev pub Refused : Type 0
Refused = (if_only tops (codes "i") (claim (codes "I") ∷ []) ≡ Some (claim (codes "I"), codes "I"))
    × (if_only tops (codes "i") (claim (codes "I") ∷ claim (codes "I") ∷ []) ≡ None)
    × (if_only tops (codes "i") [] ≡ None)
    × (if_only tops (codes "j") (claim (codes "I") ∷ []) ≡ None)
    × (if_only tops (codes "i") (claim (codes "J") ∷ []) ≡ None)

-- ---- back

abbrev example : Stronger
example = record { text = []; from = 92; old = 4; new = 59; at = 76 }

-- before the replacement, at its first byte, at its last, behind it
abbrev pub Backwards : Type 0
Backwards = (back example 91 ≡ 91) × (back example 92 ≡ 76) × (back example 150 ≡ 76) × (back example 151 ≡ 96)

-- `bcd` of `abcde` replaced by `xy`
abbrev pub Put : Type 0
Put = put (codes "abcde") 1 4 (codes "xy") 0 ≡ record { text = codes "axye"; from = 1; old = 3; new = 2; at = 0 }
