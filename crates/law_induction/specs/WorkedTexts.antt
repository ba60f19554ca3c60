-- Worked texts, as lists of tokens: each as it is read, and with the claim strengthened as it was written by hand.
use Rattle.std.specs.Prelude.{◌≡◌, List, [], ◌∷◌, ◌++◌, codes}
use Rattle.smv_core.specs.declared.token.TokenKind.{TokenKind}
use Rattle.smv_core.specs.declared.token.TokenKind.TheVariants.{Ident, Number}
use Rattle.smv_core.specs.declared.tree.Text.{Text}
use Rattle.smv_core.specs.Signs as w
use Rattle.smv_core.specs.Signs.{open_paren, close_paren, open_bracket, close_bracket, open_brace, close_brace, colon, semicolon, dot, becomes, less, equal, tilde, ampersand, bar, arrow, question}
use Rattle.smv_core.specs.Types.{types_from}
use Rattle.smv_core.specs.Values.{Name}
use Rattle.smv_core.specs.Spelling.{Spells}
use Rattle.law_grammar.specs.Worked.{laid}
use Rattle.law_places.specs.Placeless.{placeless_text}
use Rattle.law_induction.specs.Strengthened.{stronger_text, AreInductiveTops}

abbrev i : TokenKind
i = Ident (codes "i")

abbrev below0 : TokenKind
below0 = Ident (codes "below0")

-- signal[index]
abbrev pub at_index : TokenKind → TokenKind → List TokenKind
at_index signal index = signal ∷ open_bracket ∷ index ∷ close_bracket ∷ []

-- forall (variable in I)
abbrev for_all : TokenKind → List TokenKind
for_all variable = w.word_forall ∷ open_paren ∷ variable ∷ w.word_in ∷ Ident (codes "I") ∷ close_paren ∷ []

-- name[variable] : assert G body;
abbrev claim : TokenKind → TokenKind → List TokenKind → List TokenKind
claim name variable body = at_index name variable ++ colon ∷ w.word_assert ∷ w.word_G ∷ body ++ semicolon ∷ []

-- & [ below0 < variable -> ( smaller ) : below0 in I ] -> ( body )
abbrev pub strengthened : TokenKind → List TokenKind → List TokenKind → List TokenKind
strengthened variable smaller body =
    ampersand ∷ open_bracket ∷ below0 ∷ less ∷ variable ∷ arrow ∷ open_paren ∷ smaller ++ close_paren ∷ colon ∷ below0 ∷ w.word_in ∷ Ident (codes "I") ∷ close_bracket ∷ arrow ∷ open_paren ∷ body ++ close_paren ∷ []

-- The first tokens spell a tree whose claims p can be proved by induction on the variable. With these claims strengthened it is the tree that the second spell, places aside.
abbrev pub IsStrengthened : Name → List TokenKind → List TokenKind → Type 0
IsStrengthened variable read written = (x : Text) × (y : Text) × Spells 64 (laid 0 read) x × Spells 64 (laid 0 written) y ×
    AreInductiveTops variable (codes "below0") (codes "I") (codes "p") (types_from [] x.tops) x.tops ×
    (placeless_text (stronger_text variable (codes "below0") (codes "I") (codes "p") x) ≡ placeless_text y)

-- ordset I undefined;
abbrev ordset_I : List TokenKind
ordset_I = w.word_ordset ∷ Ident (codes "I") ∷ w.word_undefined ∷ semicolon ∷ []

-- module name() { body }
abbrev module_of : TokenKind → List TokenKind → List TokenKind
module_of name body = w.word_module ∷ name ∷ open_paren ∷ close_paren ∷ open_brace ∷ body ++ close_brace ∷ []

-- ---- a machine in which each cell asks one of the cells before it

-- ordset I undefined;
-- module main() {
--   w : array I of I; x : array I of boolean;
--   layer L : { forall (i in I) x[i] := w[i] < i ? x[w[i]] : 1; }
--   forall (i in I) p[i] : assert G ..;
-- }
abbrev pub machine : List TokenKind → List TokenKind
machine body = ordset_I ++ module_of (Ident (codes "main")) (
    Ident (codes "w") ∷ colon ∷ w.word_array ∷ Ident (codes "I") ∷ w.word_of ∷ Ident (codes "I") ∷ semicolon ∷
    Ident (codes "x") ∷ colon ∷ w.word_array ∷ Ident (codes "I") ∷ w.word_of ∷ w.word_boolean ∷ semicolon ∷
    w.word_layer ∷ Ident (codes "L") ∷ colon ∷ open_brace ∷ for_all i ++ at_index (Ident (codes "x")) i ++ becomes ∷ at_index (Ident (codes "w")) i ++ less ∷ i ∷ question ∷
    Ident (codes "x") ∷ open_bracket ∷ at_index (Ident (codes "w")) i ++ close_bracket ∷ colon ∷ Number 1 ∷ semicolon ∷ close_brace ∷
    for_all i ++ claim (Ident (codes "p")) i body
    )

-- x[i], and & [ below0 < i -> ( x[below0] ) : below0 in I ] -> ( x[i] )
abbrev pub MachineStrengthened : Type 0
MachineStrengthened = IsStrengthened (codes "i")
    (machine (at_index (Ident (codes "x")) i))
    (machine (strengthened i (at_index (Ident (codes "x")) below0) (at_index (Ident (codes "x")) i)))

-- ---- names: a field has the variable's name, another claim of the module, and one of another module, the claim's

-- ordset I undefined;
-- module part() { i : array I of I; forall (j in I) p[j] : assert G i[j] = j; }
-- module main() {
--   a : part();
--   forall (i in I) { q[i] : assert G a.i[i] = i; p[i] : assert G ..; }
-- }
abbrev pub names : List TokenKind → List TokenKind
names body = ordset_I ++ module_of (Ident (codes "part")) (
    i ∷ colon ∷ w.word_array ∷ Ident (codes "I") ∷ w.word_of ∷ Ident (codes "I") ∷ semicolon ∷
    for_all (Ident (codes "j")) ++ claim (Ident (codes "p")) (Ident (codes "j")) (at_index i (Ident (codes "j")) ++ equal ∷ Ident (codes "j") ∷ [])
    ) ++ module_of (Ident (codes "main")) (
    Ident (codes "a") ∷ colon ∷ Ident (codes "part") ∷ open_paren ∷ close_paren ∷ semicolon ∷
    for_all i ++ open_brace ∷ claim (Ident (codes "q")) i (Ident (codes "a") ∷ dot ∷ at_index i i ++ equal ∷ i ∷ []) ++ claim (Ident (codes "p")) i body ++ close_brace ∷ []
    )

-- a.i[variable] < variable -> |[ j < variable : j in I ]
abbrev pub names_body : TokenKind → List TokenKind
names_body variable = Ident (codes "a") ∷ dot ∷ at_index i variable ++ less ∷ variable ∷ arrow ∷
    bar ∷ open_bracket ∷ Ident (codes "j") ∷ less ∷ variable ∷ colon ∷ Ident (codes "j") ∷ w.word_in ∷ Ident (codes "I") ∷ close_bracket ∷ []

-- the field keeps its name
abbrev pub NamesStrengthened : Type 0
NamesStrengthened = IsStrengthened (codes "i") (names (names_body i)) (names (strengthened i (names_body below0) (names_body i)))

-- ---- a variable that has the name of a type

-- ordset I undefined; typedef J boolean;
-- module main() { forall (J in I) p[J] : assert G ~ & [ 0 : x in J ] & ~ | [ y < J : y in I ]; }
abbrev pub type_names : List TokenKind
type_names = ordset_I ++ w.word_typedef ∷ Ident (codes "J") ∷ w.word_boolean ∷ semicolon ∷ module_of (Ident (codes "main")) (
    for_all (Ident (codes "J")) ++ claim (Ident (codes "p")) (Ident (codes "J")) (
    tilde ∷ ampersand ∷ open_bracket ∷ Number 0 ∷ colon ∷ Ident (codes "x") ∷ w.word_in ∷ Ident (codes "J") ∷ close_bracket ∷ ampersand ∷
    tilde ∷ bar ∷ open_bracket ∷ Ident (codes "y") ∷ less ∷ Ident (codes "J") ∷ colon ∷ Ident (codes "y") ∷ w.word_in ∷ Ident (codes "I") ∷ close_bracket ∷ []
    )
    )

-- Its claim is not one that can be proved by induction: it fails at the least value, and the strengthened text, in which `below0` would be a type, is refused.
abbrev pub TypeNamesRefused : Type 0
TypeNamesRefused = (x : Text) × Spells 64 (laid 0 type_names) x × (AreInductiveTops (codes "J") (codes "below0") (codes "I") (codes "p") (types_from [] x.tops) x.tops → ⊥)
