-- The replacement is read as the tokens that are written, and stands apart from what is around.
use Rattle.std.proofs.Common.{◌≡◌, ℕ, List, [], ◌∷◌, ◌++◌, length, codes, refl, sym, ap, ◌∙◌, subst, append_assoc}
use Rattle.smv_core.specs.Values.{Name}
use Rattle.smv_core.specs.declared.token.Token.{Token}
use Rattle.smv_core.specs.declared.token.TokenKind.{TokenKind}
use Rattle.smv_core.specs.declared.token.TokenKind.TheVariants.{Ident}
use Rattle.smv_core.specs.Signs.{open_paren, close_paren, open_bracket, close_bracket, colon, less, ampersand, arrow, word_in}
use Rattle.smv_core.specs.Notation.{Tokens}
use Rattle.smv_lex.specs.Lexing as l
use Rattle.law_lists.proofs.Lists.{map-map}
use Rattle.law_lexed_parts.specs.Parts.{moved_token, moved_tokens, IsReadAs, AreApart}
use Rattle.law_lexed_parts.proofs.Signs.{apart-behind}
use Rattle.law_lexed_parts.proofs.Parts.{parts-read, apart-blank}
use Rattle.law_spelled_alike.specs.Local.{kinds_of}
use Rattle.law_spelled_alike.proofs.Combining.{kinds-append}
use Rattle.law_strengthened_claims.specs.Renaming.{IsName}
use Rattle.law_strengthened_claims.specs.Replacement.{written, replacement, ReplacementIsSound}
use Rattle.law_strengthened_claims.proofs.Joined.{exchanged-is, exchanged-sound}
use Rattle.law_strengthened_claims.proofs.Written.{written-spells}

-- bytes that are read as tokens of these kinds
abbrev Reads : List ℕ → List TokenKind → Type 0
Reads bytes kinds = (ts : Tokens) × IsReadAs bytes ts × (kinds_of ts ≡ kinds)

both : (a b : List ℕ) (ks ls : List TokenKind) → Reads a ks → Reads b ls → AreApart a b → Reads (a ++ b) (ks ++ ls)
both a b ks ls (ts, h, p) (us, k, q) apart = (
  ts ++ moved_tokens (length a) us,
  parts-read a b ts us h k apart,
  kinds-append ts (moved_tokens (length a) us) ∙ ap (λ z. kinds_of ts ++ z) (map-map (λ (t : Token). t.kind) (moved_token (length a)) us ∙ q) ∙ ap (λ z. z ++ ls) p,
)

abbrev token : TokenKind → ℕ → Token
token kind at = record { kind = kind; at = at }

-- ---- what is written between

open-read : Reads (codes "& [ ") (ampersand ∷ open_bracket ∷ [])
unfolding l.word_kind l.word_front l.number_front l.sign_front l.front_of
open-read = (token ampersand 0 ∷ token open_bracket 2 ∷ [], ((λ e. absurd (cc (e)), (λ e. absurd (cc (e)), (λ e. absurd (cc (e)), (λ e. absurd (cc (e)), tt)))), refl), refl)

less-read : Reads (codes " < ") (less ∷ [])
unfolding l.word_kind l.word_front l.number_front l.sign_front l.front_of
less-read = (token less 1 ∷ [], ((λ e. absurd (cc (e)), (λ e. absurd (cc (e)), (λ e. absurd (cc (e)), tt))), refl), refl)

arrow-read : Reads (codes " -> ( ") (arrow ∷ open_paren ∷ [])
unfolding l.word_kind l.word_front l.number_front l.sign_front l.front_of
arrow-read = (token arrow 1 ∷ token open_paren 4 ∷ [], ((λ e. absurd (cc (e)), (λ e. absurd (cc (e)), (λ e. absurd (cc (e)), (λ e. absurd (cc (e)), (λ e. absurd (cc (e)), tt))))), refl), refl)

colon-read : Reads (codes " ) : ") (close_paren ∷ colon ∷ [])
unfolding l.word_kind l.word_front l.number_front l.sign_front l.front_of
colon-read = (token close_paren 1 ∷ token colon 3 ∷ [], ((λ e. absurd (cc (e)), (λ e. absurd (cc (e)), (λ e. absurd (cc (e)), (λ e. absurd (cc (e)), (λ e. absurd (cc (e)), tt))))), refl), refl)

in-read : Reads (codes " in ") (word_in ∷ [])
unfolding l.word_kind l.word_front l.number_front l.sign_front l.front_of
in-read = (token word_in 1 ∷ [], ((λ e. absurd (cc (e)), (λ e. absurd (cc (e)), (λ e. absurd (cc (e)), tt))), refl), refl)

then-read : Reads (codes " ] -> ( ") (close_bracket ∷ arrow ∷ open_paren ∷ [])
unfolding l.word_kind l.word_front l.number_front l.sign_front l.front_of
then-read = (
  token close_bracket 1 ∷ token arrow 3 ∷ token open_paren 6 ∷ [],
  ((λ e. absurd (cc (e)), (λ e. absurd (cc (e)), (λ e. absurd (cc (e)), (λ e. absurd (cc (e)), (λ e. absurd (cc (e)), (λ e. absurd (cc (e)), (λ e. absurd (cc (e)), tt))))))), refl),
  refl,
)

close-read : Reads (codes " )") (close_paren ∷ [])
unfolding l.word_kind l.word_front l.number_front l.sign_front l.front_of
close-read = (token close_paren 1 ∷ [], ((λ e. absurd (cc (e)), (λ e. absurd (cc (e)), tt)), refl), refl)

-- a blank goes together with nothing behind it
blank-apart : (q : List ℕ) → AreApart (32 ∷ []) q
blank-apart [] = tt
blank-apart (b ∷ q) = refl

-- nor does a `)`
paren-apart : (p q : List ℕ) → AreApart (p ++ (41 ∷ [])) q
paren-apart [] [] = tt
paren-apart [] (b ∷ q) = refl
paren-apart (a ∷ []) q = paren-apart [] q
paren-apart (a ∷ c ∷ p) q = paren-apart (c ∷ p) q

ampersand-apart : (p q : List ℕ) → AreApart p (38 ∷ q)
ampersand-apart [] q = tt
ampersand-apart (a ∷ []) q = apart-behind 38 refl refl refl refl refl refl refl a
ampersand-apart (a ∷ c ∷ p) q = ampersand-apart (c ∷ p) q

module _ (var fresh set : Name) (is_var : IsName var) (is_fresh : IsName fresh) (is_set : IsName set) (smaller own : List ℕ) (ks ls : List TokenKind) (h : Reads smaller ks) (k : Reads own ls) where
  name-read : (name : Name) → IsName name → Reads name (Ident name ∷ [])
  name-read name is = (token (Ident name) 0 ∷ [], is, refl)

  -- a part, and a written piece behind it that begins and ends with a blank
  behind : (a p rest : List ℕ) (is js rs : List TokenKind) → Reads a is → Reads (32 ∷ p) js → Reads rest rs → AreApart (32 ∷ p) rest → Reads (a ++ ((32 ∷ p) ++ rest)) (is ++ (js ++ rs))
  behind a p rest is js rs x y z apart = both a ((32 ∷ p) ++ rest) is (js ++ rs) x (both (32 ∷ p) rest js rs y z apart) (apart-blank a (p ++ rest))

  abbrev seven : List ℕ
  seven = own ++ codes " )"

  pub replacement-read : Reads (replacement var fresh set smaller own) (written var fresh set ks ls)
  replacement-read =
      let r6 = both own (codes " )") ls (close_paren ∷ []) k close-read (apart-blank own (41 ∷ [])) in
      let r5 = behind set (93 ∷ 32 ∷ 45 ∷ 62 ∷ 32 ∷ 40 ∷ 32 ∷ []) seven (Ident set ∷ []) (close_bracket ∷ arrow ∷ open_paren ∷ []) _ (name-read set is_set) then-read r6 (blank-apart seven) in
      let r4 = behind fresh (105 ∷ 110 ∷ 32 ∷ []) _ (Ident fresh ∷ []) (word_in ∷ []) _ (name-read fresh is_fresh) in-read r5 (blank-apart _) in
      let r3 = behind smaller (41 ∷ 32 ∷ 58 ∷ 32 ∷ []) _ ks (close_paren ∷ colon ∷ []) _ h colon-read r4 (blank-apart _) in
      let r2 = behind var (45 ∷ 62 ∷ 32 ∷ 40 ∷ 32 ∷ []) _ (Ident var ∷ []) (arrow ∷ open_paren ∷ []) _ (name-read var is_var) arrow-read r3 (blank-apart _) in
      let r1 = behind fresh (60 ∷ 32 ∷ []) _ (Ident fresh ∷ []) (less ∷ []) _ (name-read fresh is_fresh) less-read r2 (blank-apart _) in
      both (codes "& [ ") _ (ampersand ∷ open_bracket ∷ []) _ open-read r1 (blank-apart _)

  -- all of it but the `)` with which it ends
  abbrev all_but_last : List ℕ
  all_but_last = codes "& [ " ++ (fresh ++ (codes " < " ++ (var ++ (codes " -> ( " ++ (smaller ++ (codes " ) : " ++ (fresh ++ (codes " in " ++ (set ++ (codes " ] -> ( " ++ (own ++ codes " ")))))))))))

  pub replacement-apart : (q : List ℕ) → AreApart (replacement var fresh set smaller own) q
  replacement-apart q = last all_but_last (replacement var fresh set smaller own) ends
    where
      last : (p r : List ℕ) → r ≡ p ++ (41 ∷ []) → AreApart r q
      last p r e = subst (λ z. AreApart z q) (sym e) (paren-apart p q)

      one : (a b c : List ℕ) → b ≡ c ++ (41 ∷ []) → a ++ b ≡ (a ++ c) ++ (41 ∷ [])
      one a b c e = ap (λ z. a ++ z) e ∙ sym (append_assoc a c (41 ∷ []))

      ends : replacement var fresh set smaller own ≡ all_but_last ++ (41 ∷ [])
      ends = one (codes "& [ ") _ _ (one fresh _ _ (one (codes " < ") _ _ (one var _ _ (one (codes " -> ( ") _ _ (one smaller _ _ (one (codes " ) : ") _ _ (one fresh _ _ (one (codes " in ") _ _ (one set _ _ (one (codes " ] -> ( ") _ _ (one own (codes " )") (codes " ") refl)))))))))))

pub replaced : ReplacementIsSound
replaced n name var fresh set text x p is_var is_fresh is_set smaller ts d h k same =
    let r = replacement-read var fresh set is_var is_fresh is_set smaller p.bytes (kinds_of ts) (kinds_of p.tokens) (ts, h, refl) (p.tokens, p.read, refl) in
    let y = written-spells p.levels var fresh set ts p.tokens r.0 d p.body k p.spelled same r.2 in
    let b = replacement-apart var fresh set is_var is_fresh is_set smaller p.bytes (kinds_of ts) (kinds_of p.tokens) (ts, h, refl) (p.tokens, p.read, refl) p.after in
    let new = p.exchanged (replacement var fresh set smaller p.bytes) r.0 y.0 r.1 y.1 (ampersand-apart p.before _) b in
    (new.0, new.1, new.2, new.3, exchanged-is var fresh set name x new.1 p.body y.0 p.own y.2 new.4, λ inductive sound. exchanged-sound var fresh set name x new.1 p.body y.0 inductive p.own y.2 new.4 sound)
