-- Pieces with a blank before each are read as the tokens of each, one behind the other.
use Rattle.std.proofs.Common.{◌≡◌, ℕ, List, [], ◌∷◌, ◌++◌, length, codes, Ok, refl, sym, ap, ◌∙◌, subst}
use Rattle.std.proofs.lemmas.List.{append-nil}
use Rattle.std.proofs.lemmas.List.Concat.{flat_map-cons}
use Rattle.law_lists.proofs.Lists.{map-map}
use Rattle.smv_core.specs.declared.token.Token.{Token}
use Rattle.smv_core.specs.Notation.{Tokens}
use Rattle.smv_lex.specs.Lexing as l
use Rattle.smv_lex.specs.Lexing.{lexed}
use Rattle.law_lexed_parts.specs.Parts.{moved_token, moved_tokens, moved, behind, IsReadAs, AreApart}
use Rattle.law_lexed_parts.proofs.Parts.{read-before, parts-read, apart-blank}
use Rattle.law_spelled_alike.specs.Local.{kinds_of}
use Rattle.law_spelled_alike.proofs.Combining.{kinds-append}
use Rattle.law_translated_texts.specs.Phrases.{Pieces}
use Rattle.law_translated_texts.specs.Translation.{spaced}
use Rattle.law_written_formulas.specs.Kinds.{kinds_in, kinds_read}
use Rattle.law_written_formulas.specs.Laws.{PiecesAreRead}

-- nothing goes together with no bytes
apart-none : (p : List ℕ) → AreApart p []
apart-none [] = tt
apart-none (a ∷ []) = tt
apart-none (a ∷ c ∷ p) = apart-none (c ∷ p)

-- a blank goes together with nothing behind it
blank-apart : (q : List ℕ) → AreApart (codes " ") q
blank-apart [] = tt
blank-apart (b ∷ q) = refl

blank-read : IsReadAs (codes " ") []
unfolding l.word_kind l.word_front l.number_front l.sign_front l.front_of
blank-read = ((λ e. absurd (cc (e)), tt), refl)

nothing-read : lexed [] ≡ Ok []
unfolding l.lexed_from
nothing-read = refl

kinds-moved : (d : ℕ) (ts : Tokens) → kinds_of (moved_tokens d ts) ≡ kinds_of ts
kinds-moved d ts = map-map (λ (t : Token). t.kind) (moved_token d) ts

-- bytes that are read as some tokens have their kinds
own-kinds : (p : List ℕ) (ts : Tokens) → IsReadAs p ts → kinds_in p ≡ kinds_of ts
own-kinds p ts h =
    let all : lexed p ≡ Ok ts = ap lexed (sym (append-nil p)) ∙ read-before p [] ts h (apart-none p) ∙ ap (λ o. behind ts (moved (length p) o)) nothing-read ∙ ap Ok (append-nil ts) in
    ap kinds_read all

both : (a b : List ℕ) (ts us : Tokens) → IsReadAs a ts → IsReadAs b us → AreApart a b → (vs : Tokens) × IsReadAs (a ++ b) vs × (kinds_of vs ≡ kinds_of ts ++ kinds_of us)
both a b ts us h k apart = (ts ++ moved_tokens (length a) us, parts-read a b ts us h k apart, kinds-append ts (moved_tokens (length a) us) ∙ ap (λ j. kinds_of ts ++ j) (kinds-moved (length a) us))

-- what is written begins with a blank, if with anything
apart-spaced : (p : List ℕ) (ps : Pieces) → AreApart p (spaced ps)
apart-spaced p [] = apart-none p
apart-spaced p (q ∷ ps) = subst (λ b. AreApart p b) (sym (flat_map-cons (λ (r : List ℕ). codes " " ++ r) q ps)) (apart-blank p (q ++ spaced ps))

pub pieces-read : PiecesAreRead
pieces-read [] h = ([], (tt, refl), refl)
pieces-read (p ∷ ps) h =
    let rest = pieces-read ps h.1 in
    let tail = both p (spaced ps) h.0.0 rest.0 h.0.1 rest.1 (apart-spaced p ps) in
    let all = both (codes " ") (p ++ spaced ps) [] tail.0 blank-read tail.1 (blank-apart (p ++ spaced ps)) in (
      all.0,
      subst (λ b. IsReadAs b all.0) (sym (flat_map-cons (λ (r : List ℕ). codes " " ++ r) p ps)) all.1,
      all.2 ∙ tail.2 ∙ ap (λ j. j ++ kinds_of rest.0) (sym (own-kinds p h.0.0 h.0.1)) ∙ ap (λ j. kinds_in p ++ j) rest.2 ∙ sym (flat_map-cons kinds_in p ps),
    )
