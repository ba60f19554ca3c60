-- Worked texts, whose translations were written by hand.
use Rattle.std.specs.Prelude.{◌≡◌, ℕ, zero, suc, List, [], ◌∷◌, ◌++◌, codes, Ok}
use Rattle.smv_core.specs.declared.token.Token.{Token}
use Rattle.smv_core.specs.declared.token.TokenKind.{TokenKind}
use Rattle.smv_core.specs.declared.token.TokenKind.TheVariants.{Ident, Number, Sign, Reserved}
use Rattle.smv_core.specs.declared.tree.Word.{Word}
use Rattle.smv_core.specs.declared.tree.Expr.TheVariants as expr
use Rattle.smv_core.specs.declared.tree.TypeExpr.{TypeExpr, Boolean, Range, Array}
use Rattle.smv_core.specs.declared.tree.Role.TheVariants.{Plain}
use Rattle.smv_core.specs.declared.tree.Item.{Declare, Instance, Forall, Claim}
use Rattle.smv_core.specs.declared.tree.Top.TheVariants.{Module}
use Rattle.smv_core.specs.Notation.{Tokens}
use Rattle.smv_lex.specs.Lexing.{lexed}
use Rattle.law_formulas.specs.Formulas.{Formula, now, next, when, weak, FormulaText}
use Rattle.law_formulas.specs.Worked.{x, a, f_i, toggle}
use Rattle.law_translated_texts.specs.Parts.{Now, Next, When, from_place, extent, parts_of, phrase_of, type_at}
use Rattle.law_translated_texts.specs.Translation.{translation_by, closing}

-- ---- short words

abbrev t : TokenKind → ℕ → Token
t kind at = record { kind = kind; at = at }

abbrev w : List ℕ → ℕ → Word
w name at = record { name = name; at = at }

-- so many offsets from this one on
abbrev pub own : ℕ → ℕ → List ℕ
own at zero = []
own at (suc n) = at ∷ own (suc at) n

-- this offset so many times
abbrev pub all_at : ℕ → ℕ → List ℕ
all_at at zero = []
all_at at (suc n) = at ∷ all_at at n

-- ---- one claim

abbrev pub toggle_text : List ℕ
toggle_text = codes "module main() { x : boolean; init(x) := 0; next(x) := ~x; p : assert G if (x) X (~x); }"

abbrev pub toggle_tokens : Tokens
toggle_tokens = t (Reserved 17) 0 ∷ t (Ident (codes "main")) 7 ∷ t (Sign 0) 11 ∷ t (Sign 1) 12 ∷ t (Sign 4) 14 ∷ t (Ident (codes "x")) 16 ∷ t (Sign 6) 18 ∷ t (Reserved 3) 20 ∷ t (Sign 7) 27 ∷ t (Reserved 13) 29 ∷ t (Sign 0) 33 ∷ t (Ident (codes "x")) 34 ∷ t (Sign 1) 35 ∷ t (Sign 11) 37 ∷ t (Number 0) 40 ∷ t (Sign 7) 41 ∷ t (Reserved 18) 43 ∷ t (Sign 0) 47 ∷ t (Ident (codes "x")) 48 ∷ t (Sign 1) 49 ∷ t (Sign 11) 51 ∷ t (Sign 20) 54 ∷ t (Ident (codes "x")) 55 ∷ t (Sign 7) 56 ∷ t (Ident (codes "p")) 58 ∷ t (Sign 6) 60 ∷ t (Reserved 2) 62 ∷ t (Reserved 10) 69 ∷ t (Reserved 11) 71 ∷ t (Sign 0) 74 ∷ t (Ident (codes "x")) 75 ∷ t (Sign 1) 76 ∷ t (Reserved 32) 78 ∷ t (Sign 0) 80 ∷ t (Sign 20) 81 ∷ t (Ident (codes "x")) 82 ∷ t (Sign 1) 83 ∷ t (Sign 7) 84 ∷ t (Sign 5) 86 ∷ []

-- what is read of the bytes
abbrev pub ToggleLexed : Type 0
ToggleLexed = lexed toggle_text ≡ Ok toggle_tokens

-- the claim and its formula with their offsets
abbrev pub toggle_tree : FormulaText
toggle_tree = record {
  text = record { tops = Module (w (codes "main") 7) [] (toggle ++ Claim (w (codes "p") 58) [] (expr.Number 1 71) 58 ∷ []) 0 ∷ [] };
  formulas = (71, when x (next 78 (now (expr.Not x 81)))) ∷ [];
}

-- the condition, the X and the expression
abbrev pub TogglePhrase : Type 0
TogglePhrase = phrase_of toggle_text (parts_of (when x (next 78 (now (expr.Not x 81)))) (from_place 71 toggle_tokens)) ≡ When (codes "x") (Next (Now (codes "~x")))

abbrev pub ToggleTranslated : Type 0
ToggleTranslated = translation_by (codes "m0" ∷ codes "m1" ∷ []) toggle_text toggle_tokens toggle_tree ≡ record {
  text = codes "module main() { x : boolean; init(x) := 0; next(x) := ~x; p : assert G  m0 -> ( ~x ) ;  abstract m0 : boolean ; layer m1 : { init ( m0 ) := 0 ; next ( m0 ) := 1 & ~ ( ( x ) = 0 ) ; } }";
  places = own 0 58 ++ all_at 58 28 ++ own 85 1 ++ all_at 58 96 ++ own 86 1 ++ 87 ∷ [];
}

-- ---- claims in two modules, with a binder, a comma in a set, a comment in a part, a number that begins with 0, a claim that is not changed, and a name that is taken

abbrev pub cell_text : List ℕ
cell_text = codes "module cell() { a : boolean; f : array 0..07 of boolean; forall (i in 0..07) p[i] : assert G if (a) X (W (f[i] in {0, 1}, a -- not" ++ (10 ∷ codes " | f[i])); q : assert G X (a); r : assert G a; } module main() { c : cell(); m0 : boolean; }")

abbrev pub cell_tokens : Tokens
cell_tokens = t (Reserved 17) 0 ∷ t (Ident (codes "cell")) 7 ∷ t (Sign 0) 11 ∷ t (Sign 1) 12 ∷ t (Sign 4) 14 ∷ t (Ident (codes "a")) 16 ∷ t (Sign 6) 18 ∷ t (Reserved 3) 20 ∷ t (Sign 7) 27 ∷ t (Ident (codes "f")) 29 ∷ t (Sign 6) 31 ∷ t (Reserved 1) 33 ∷ t (Number 0) 39 ∷ t (Sign 10) 40 ∷ t (Number 7) 42 ∷ t (Reserved 19) 45 ∷ t (Reserved 3) 48 ∷ t (Sign 7) 55 ∷ t (Reserved 8) 57 ∷ t (Sign 0) 64 ∷ t (Ident (codes "i")) 65 ∷ t (Reserved 12) 67 ∷ t (Number 0) 70 ∷ t (Sign 10) 71 ∷ t (Number 7) 73 ∷ t (Sign 1) 75 ∷ t (Ident (codes "p")) 77 ∷ t (Sign 2) 78 ∷ t (Ident (codes "i")) 79 ∷ t (Sign 3) 80 ∷ t (Sign 6) 82 ∷ t (Reserved 2) 84 ∷ t (Reserved 10) 91 ∷ t (Reserved 11) 93 ∷ t (Sign 0) 96 ∷ t (Ident (codes "a")) 97 ∷ t (Sign 1) 98 ∷ t (Reserved 32) 100 ∷ t (Sign 0) 102 ∷ t (Reserved 31) 103 ∷ t (Sign 0) 105 ∷ t (Ident (codes "f")) 106 ∷ t (Sign 2) 107 ∷ t (Ident (codes "i")) 108 ∷ t (Sign 3) 109 ∷ t (Reserved 12) 111 ∷ t (Sign 4) 114 ∷ t (Number 0) 115 ∷ t (Sign 8) 116 ∷ t (Number 1) 118 ∷ t (Sign 5) 119 ∷ t (Sign 8) 120 ∷ t (Ident (codes "a")) 122 ∷ t (Sign 22) 132 ∷ t (Ident (codes "f")) 134 ∷ t (Sign 2) 135 ∷ t (Ident (codes "i")) 136 ∷ t (Sign 3) 137 ∷ t (Sign 1) 138 ∷ t (Sign 1) 139 ∷ t (Sign 7) 140 ∷ t (Ident (codes "q")) 142 ∷ t (Sign 6) 144 ∷ t (Reserved 2) 146 ∷ t (Reserved 10) 153 ∷ t (Reserved 32) 155 ∷ t (Sign 0) 157 ∷ t (Ident (codes "a")) 158 ∷ t (Sign 1) 159 ∷ t (Sign 7) 160 ∷ t (Ident (codes "r")) 162 ∷ t (Sign 6) 164 ∷ t (Reserved 2) 166 ∷ t (Reserved 10) 173 ∷ t (Ident (codes "a")) 175 ∷ t (Sign 7) 176 ∷ t (Sign 5) 178 ∷ t (Reserved 17) 180 ∷ t (Ident (codes "main")) 187 ∷ t (Sign 0) 191 ∷ t (Sign 1) 192 ∷ t (Sign 4) 194 ∷ t (Ident (codes "c")) 196 ∷ t (Sign 6) 198 ∷ t (Ident (codes "cell")) 200 ∷ t (Sign 0) 204 ∷ t (Sign 1) 205 ∷ t (Sign 7) 206 ∷ t (Ident (codes "m0")) 208 ∷ t (Sign 6) 211 ∷ t (Reserved 3) 213 ∷ t (Sign 7) 220 ∷ t (Sign 5) 222 ∷ []

abbrev pub CellLexed : Type 0
CellLexed = lexed cell_text ≡ Ok cell_tokens

-- the tokens of the type of `i`, of `W`'s first part, and where the module's closing brace stands
abbrev pub CellParts : Type 0
CellParts = (type_at cell_text cell_tokens 65 ≡ codes "0" ∷ codes ".." ∷ codes "07" ∷ []) × (extent 0 (from_place 106 cell_tokens) ≡ 10) × (extent 0 (from_place 97 cell_tokens) ≡ 1)

-- f[i] in {0, 1} and a | f[i]; of these expressions the bytes alone are looked at
abbrev pub p : Formula
p = when a (next 100 (weak f_i (expr.Or (a ∷ f_i ∷ []))))

abbrev pub zero_to_seven : ℕ → TypeExpr
zero_to_seven at = Range (record { low = 0; high = 7 }) at

abbrev pub cell_tree : FormulaText
cell_tree = record {
  text = record {
    tops =
        Module (w (codes "cell") 7) [] (
        Declare Plain (w (codes "a") 16 ∷ []) Boolean 16
        ∷ Declare Plain (w (codes "f") 29 ∷ []) (Array (zero_to_seven 39) Boolean) 29
        ∷ Forall (w (codes "i") 65) (zero_to_seven 70) (Claim (w (codes "p") 77) (w (codes "i") 79 ∷ []) (expr.Number 1 93) 77) 57
        ∷ Claim (w (codes "q") 142) [] (expr.Number 1 155) 142
        ∷ Claim (w (codes "r") 162) [] a 162 ∷ []) 0
        ∷ Module (w (codes "main") 187) [] (Instance (w (codes "c") 196 ∷ []) (w (codes "cell") 200) [] 196 ∷ Declare Plain (w (codes "m0") 208 ∷ []) Boolean 208 ∷ []) 180 ∷ [];
  };
  formulas = (93, p) ∷ (155, next 155 (now a)) ∷ [];
}

abbrev pub CellClosing : Type 0
CellClosing = (closing cell_tokens (Module (w (codes "main") 187) [] [] 180 ∷ []) ≡ 178) × (closing cell_tokens [] ≡ 222)

abbrev pub CellTranslated : Type 0
CellTranslated = translation_by (codes "m1" ∷ codes "m2" ∷ codes "m3" ∷ codes "m4" ∷ []) cell_text cell_tokens cell_tree ≡ record {
  text = codes "module cell() { a : boolean; f : array 0..07 of boolean; forall (i in 0..07) p[i] : assert G  ( m1 [ i ] | m2 [ i ] ) -> ( ( a -- not" ++ (10 ∷ codes " | f[i] ) | ( f[i] in {0, 1} ) ) ; q : assert G  m3 -> ( a ) ; r : assert G a;  abstract m1 : array 0 .. 07 of boolean ; abstract m2 : array 0 .. 07 of boolean ; abstract m3 : boolean ; layer m4 : { forall ( i in 0 .. 07 ) init ( m1 [ i ] ) := 0 ; forall ( i in 0 .. 07 ) next ( m1 [ i ] ) := 1 & ~ ( ( a ) = 0 ) ; forall ( i in 0 .. 07 ) init ( m2 [ i ] ) := 0 ; forall ( i in 0 .. 07 ) next ( m2 [ i ] ) := ( m1 [ i ] | m2 [ i ] ) & ~ ( a -- not" ++ (10 ∷ codes " | f[i] ) ; init ( m3 ) := 0 ; next ( m3 ) := 1 ; } } module main() { c : cell(); m0 : boolean; }"));
  places = own 0 77 ++ all_at 77 91 ++ own 141 1 ++ all_at 142 27 ++ own 161 17 ++ all_at 77 82 ++ all_at 142 24 ++ all_at 77 13 ++ all_at 77 261 ++ all_at 142 38 ++ all_at 77 3 ++ own 178 45 ++ 223 ∷ [];
}
