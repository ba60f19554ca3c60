-- The names among the tokens of some bytes are words.
use Rattle.std.proofs.Common.{◌≡◌, ℕ, zero, suc, ◌+◌, ◌-◌, List, [], ◌∷◌, take, Option, Some, None, Ok, Err, Bool, true, false, ◌&&◌, cond, if◌then◌else◌, refl, subst, unwrap_or}
use Rattle.std.specs.List.{AllByRecursion, list_all}
use Rattle.std.specs.Str.{bytes_eq}
use Rattle.smv_core.specs.Notation.{Tokens}
use Rattle.smv_core.specs.declared.token.Token.{Token}
use Rattle.smv_core.specs.declared.token.TokenKind.{TokenKind}
use Rattle.smv_core.specs.declared.token.TokenKind.TheVariants.{Ident, Number}
use Rattle.smv_lex.specs.declared.front.Front.{Front}
use Rattle.smv_lex.specs.declared.front.Front.TheVariants.{Passed, Whole, Broken}
use Rattle.smv_core.specs.Spellings.{signs, reserved_words, spelled_in}
use Rattle.smv_lex.specs.Lexing.{Lexed, number_of, word_kind, front_of, with_token, then_more, lexed_from, lexed}
use Rattle.smv_lex.specs.Longest.{is_word, is_digits, kind_of, IsLongest}

-- a name among tokens is a word
abbrev pub is_worded : TokenKind → Bool
is_worded (Ident bytes) = is_word bytes
is_worded _ = true

abbrev pub AreWorded : Tokens → Type 0
AreWorded ts = AllByRecursion (λ (t : Token). is_worded t.kind ≡ true) ts

-- each token front is the longest
abbrev pub FrontsAreLongest : Type 0
FrontsAreLongest = (text : List ℕ) (kind : TokenKind) (n : ℕ) → front_of text ≡ Whole kind n → IsLongest text n kind

signs-worded : list_all (λ (entry : TokenKind × List ℕ). is_worded entry.0) signs ≡ true
signs-worded = refl

reserved-worded : list_all (λ (entry : TokenKind × List ℕ). is_worded entry.0) reserved_words ≡ true
reserved-worded = refl

spelled-worded : (list : List (TokenKind × List ℕ)) → list_all (λ (entry : TokenKind × List ℕ). is_worded entry.0) list ≡ true → (bytes : List ℕ) (k : TokenKind) → spelled_in list bytes ≡ Some k → is_worded k ≡ true
spelled-worded [] all bytes k e = absurd (cc (e))
spelled-worded (entry ∷ more) all bytes k e = by_tests (is_worded entry.0) (bytes_eq entry.1 bytes) refl all e (λ h f. spelled-worded more h bytes k f)
  where
    by_tests : (a b : Bool) → is_worded entry.0 ≡ a → (a && list_all (λ (entry : TokenKind × List ℕ). is_worded entry.0) more) ≡ true → (if b then Some entry.0 else spelled_in more bytes) ≡ Some k →
        (list_all (λ (entry : TokenKind × List ℕ). is_worded entry.0) more ≡ true → spelled_in more bytes ≡ Some k → is_worded k ≡ true) → is_worded k ≡ true
    by_tests false b own all e goes = absurd (cc (all))
    by_tests true true own all e goes = let same : entry.0 ≡ k = cc in subst (λ k. is_worded k ≡ true) same own
    by_tests true false own all e goes = goes all e

word-worded : (bytes : List ℕ) (o : Option TokenKind) → spelled_in reserved_words bytes ≡ o → is_word bytes ≡ true → is_worded (unwrap_or o (Ident bytes)) ≡ true
word-worded bytes None e h = h
word-worded bytes (Some k) e h = spelled-worded reserved_words reserved-worded bytes k e

kind-worded : (bytes : List ℕ) (k : TokenKind) → kind_of bytes ≡ Some k → is_worded k ≡ true
unfolding kind_of word_kind
kind-worded bytes k e = by_tests (is_word bytes) (is_digits bytes) refl e
  where
    by_tests : (a b : Bool) → is_word bytes ≡ a → cond a (Some (unwrap_or (spelled_in reserved_words bytes) (Ident bytes))) (cond b (Some (Number (number_of bytes))) (spelled_in signs bytes)) ≡ Some k → is_worded k ≡ true
    by_tests true b h e = let same : unwrap_or (spelled_in reserved_words bytes) (Ident bytes) ≡ k = cc in subst (λ k. is_worded k ≡ true) same (word-worded bytes (spelled_in reserved_words bytes) refl h)
    by_tests false true h e = let same : Number (number_of bytes) ≡ k = cc in subst (λ k. is_worded k ≡ true) same refl
    by_tests false false h e = spelled-worded signs signs-worded bytes k e

-- ---- the tokens of some bytes

with-parts : (t : Token) (l : Lexed) (tokens : List Token) → with_token t l ≡ Ok tokens → (ts : List Token) × (l ≡ Ok ts) × (t ∷ ts ≡ tokens)
with-parts t (Ok ts) tokens e = let same : t ∷ ts ≡ tokens = cc in (ts, refl, same)
with-parts t (Err f) tokens e = absurd (cc (e))

module _ (longest : FrontsAreLongest) where
  front-worded : (at : ℕ) (text : List ℕ) (f : Front) → front_of text ≡ f → (more : ℕ → Lexed) → ((n : ℕ) (ts : List Token) → more n ≡ Ok ts → AreWorded ts) → (tokens : List Token) → then_more at f more ≡ Ok tokens → AreWorded tokens
  front-worded at text (Passed n) is more rest tokens e = rest n tokens e
  front-worded at text (Whole k n) is more rest tokens e =
      let parts = with-parts (record { kind = k; at = at }) (more n) tokens e in
      subst AreWorded parts.2 (kind-worded (take n text) k (longest text k n is).0, rest n parts.0 parts.1)
  front-worded at text (Broken number) is more rest tokens e = absurd (cc (e))

  from-worded : (at skip : ℕ) (bytes : List ℕ) (tokens : List Token) → lexed_from at skip bytes ≡ Ok tokens → AreWorded tokens
  unfolding lexed_from
  from-worded at zero [] tokens e = let same : [] ≡ tokens = cc in subst AreWorded same tt
  from-worded at (suc skip) [] tokens e = let same : [] ≡ tokens = cc in subst AreWorded same tt
  from-worded at (suc skip) (b ∷ bytes) tokens e = from-worded (at + 1) skip bytes tokens e
  from-worded at zero (b ∷ bytes) tokens e = front-worded at (b ∷ bytes) (front_of (b ∷ bytes)) refl (λ n. lexed_from (at + 1) (n - 1) bytes) (λ n ts h. from-worded (at + 1) (n - 1) bytes ts h) tokens e

  pub tokens-worded : (bytes : List ℕ) (tokens : List Token) → lexed bytes ≡ Ok tokens → AreWorded tokens
  tokens-worded bytes tokens e = from-worded 0 0 bytes tokens e
