-- The bytes that stand in place of a claim's expression, and the text in which they do.
use Rattle.std.specs.Prelude.{◌≡◌, ◌+◌, ◌++◌, ℕ, List, [], ◌∷◌, codes, Ok}
use Rattle.smv_core.specs.Values.{Name}
use Rattle.smv_core.specs.Types.{types_from}
use Rattle.smv_core.specs.Sound.{IsSound}
use Rattle.smv_core.specs.declared.token.TokenKind.{TokenKind}
use Rattle.smv_core.specs.declared.token.TokenKind.TheVariants.{Ident}
use Rattle.smv_core.specs.declared.tree.Text.{Text}
use Rattle.smv_core.specs.declared.tree.Expr.{Expr}
use Rattle.smv_core.specs.Signs.{open_paren, close_paren, open_bracket, close_bracket, colon, less, ampersand, arrow, word_in}
use Rattle.smv_core.specs.Notation.{Tokens}
use Rattle.smv_core.specs.Spelling.{Spells}
use Rattle.smv_lex.specs.Lexing.{lexed}
use Rattle.law_grammar.specs.Laws.{SpellsExpr}
use Rattle.law_places.specs.Placeless.{placeless, placeless_text}
use Rattle.law_lexed_parts.specs.Parts.{IsReadAs}
use Rattle.law_exchanged.specs.Laws.{IsPlacedInBytes}
use Rattle.law_induction.specs.Renamed.{renamed}
use Rattle.law_strengthened_claims.specs.Renaming.{IsName}
use Rattle.law_induction.specs.Strengthened.{is_main, is_named, stronger_text, AreInductiveTops}

-- the kinds of the tokens `& [ v < VAR -> ( E2 ) : v in T ] -> ( E )`
abbrev pub written : Name → Name → Name → List TokenKind → List TokenKind → List TokenKind
written var fresh set smaller body =
    ampersand ∷ open_bracket ∷ Ident fresh ∷ less ∷ Ident var ∷ arrow ∷ open_paren ∷ smaller ++ (close_paren ∷ colon ∷ Ident fresh ∷ word_in ∷ Ident set ∷ close_bracket ∷ arrow ∷ open_paren ∷ body ++ (close_paren ∷ []))

-- `& [ v < VAR -> ( E2 ) : v in T ] -> ( E )`
abbrev pub replacement : Name → Name → Name → List ℕ → List ℕ → List ℕ
replacement var fresh set smaller own =
    codes "& [ " ++ (fresh ++ (codes " < " ++ (var ++ (codes " -> ( " ++ (smaller ++ (codes " ) : " ++ (fresh ++ (codes " in " ++ (set ++ (codes " ] -> ( " ++ (own ++ codes " )")))))))))))

-- In a text whose one claim of this name in `main` stands there, bytes that are the claim's expression under the new name are known: with the replacement in place of the expression the text
-- spells the tree with the strengthened claim, but for places, splits and uses. Where the claim can be proved by induction and that tree is sound, so is the text's.
abbrev pub ReplacementIsSound : Type 0
ReplacementIsSound = (n : ℕ) (name var fresh set : Name) (text : List ℕ) (x : Text) (p : IsPlacedInBytes n 2 is_main (is_named name) text x) →
    IsName var → IsName fresh → IsName set →
    (smaller : List ℕ) (ts : Tokens) (d : Expr) → IsReadAs smaller ts → SpellsExpr p.levels ts d → placeless d ≡ placeless (renamed var fresh p.body) →
    (us : Tokens) × (new : Text) × (lexed (p.before ++ (replacement var fresh set smaller p.bytes ++ p.after)) ≡ Ok us) × Spells (n + 2) us new ×
    (placeless_text (stronger_text var fresh set name x) ≡ placeless_text new) × (AreInductiveTops var fresh set name (types_from [] x.tops) x.tops → IsSound new → IsSound x)
