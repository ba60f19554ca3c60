-- By computing.
use Rattle.std.proofs.Common.{◌≡◌, List, [], ◌∷◌, Bool, true, false, refl, ap}
use Rattle.smv_core.specs.declared.token.Token.{Token}
use Rattle.smv_core.specs.declared.token.TokenKind.{TokenKind}
use Rattle.smv_core.specs.declared.token.TokenKind.TheVariants.{Ident, Number, Sign, Reserved}
use Rattle.smv_lex.specs.Lexing as l
use Rattle.law_strengthened_claims.proofs.worked.worked_bytes.Goals as goal

pub returns-clause-written : goal.returns-clause-written
returns-clause-written c = refl

is_name : TokenKind → Bool
is_name (Ident bytes) = true
is_name (Number n) = false
is_name (Sign i) = false
is_name (Reserved i) = false

begins_with_name : List Token → Bool
begins_with_name [] = false
begins_with_name (t ∷ ts) = is_name t.kind

pub returns-clause-names : goal.returns-clause-names
unfolding l.word_kind l.word_front l.number_front l.sign_front l.front_of begins_with_name is_name
returns-clause-names c = (((λ e. absurd (cc (e)), tt), refl), λ h. let clash : false ≡ true = ap begins_with_name h.1 in absurd (cc (clash)))
