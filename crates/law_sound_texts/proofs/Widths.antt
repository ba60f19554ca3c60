-- The tokens of some bytes have no more bytes than there are.
use Rattle.std.proofs.Common.{◌≡◌, ◌<◌, ◌≤◌, ◌+◌, ℕ, zero, suc, Bool, true, false, not, ◌&&◌, cond, List, [], ◌∷◌, ◌++◌, length, take, drop, Option, Some, None, Ok, Err, unwrap_or, nat_le, ◌⊎◌, inl, inr, refl, ap, sym, ◌∙◌, subst, arith, length-drop}
use Rattle.std.specs.Str.{bytes_eq}
use Rattle.std.specs.List.{list_all}
use Rattle.std.proofs.lemmas.List.{length-take}
use Rattle.std.proofs.lemmas.Slice.Eq.{bytes_eq-Decides}
use Rattle.std.proofs.lemmas.Bool.{and_parts}
use Rattle.law_lists.proofs.Numbers.{nat_le-is}
use Rattle.smv_core.specs.declared.token.Token.{Token}
use Rattle.smv_core.specs.declared.token.TokenKind.{TokenKind}
use Rattle.smv_core.specs.declared.token.TokenKind.TheVariants.{Ident, Number}
use Rattle.smv_core.specs.Signs.{word_scalarset}
use Rattle.smv_core.specs.Notation.{same_kind}
use Rattle.smv_lex.specs.declared.front.Front.{Front}
use Rattle.smv_lex.specs.declared.front.Front.TheVariants.{Passed, Whole, Broken}
use Rattle.smv_core.specs.Spellings.{signs, reserved_words, spelled_in}
use Rattle.smv_lex.specs.Lexing.{Lexed, is_letter, is_name_byte, word_kind, number_of, front_of, with_token, lexed_from, lexed}
use Rattle.smv_lex.specs.Longest.{is_word, is_digits, kind_of, NoLonger}
use Rattle.smv_lex.proofs.Fronts.{passed-some, token-some}
use Rattle.smv_lex.proofs.Lexing.{from-end, from-passed, from-token, from-fault}
use Rattle.smv_lex.proofs.Longest.{longest-token}
use Rattle.law_sound_texts.proofs.Consumed.{width, is_name, gap, weight}

-- ---- signs and reserved words

-- what holds of each entry of a list holds of what is spelled in it
spelled-passes : (p : TokenKind → List ℕ → Bool) (list : List (TokenKind × List ℕ)) → list_all (λ (entry : TokenKind × List ℕ). p entry.0 entry.1) list ≡ true → (bytes : List ℕ) (k : TokenKind) →
    spelled_in list bytes ≡ Some k → p k bytes ≡ true
spelled-passes p [] all bytes k e = absurd (cc (e))
spelled-passes p (entry ∷ list) all bytes k e = by_test (bytes_eq entry.1 bytes) refl e (λ h. spelled-passes p list parts.1 bytes k h)
  where
    parts : (p entry.0 entry.1 ≡ true) × (list_all (λ (entry : TokenKind × List ℕ). p entry.0 entry.1) list ≡ true)
    parts = and_parts (p entry.0 entry.1) (list_all (λ (entry : TokenKind × List ℕ). p entry.0 entry.1) list) all

    by_test : (b : Bool) → bytes_eq entry.1 bytes ≡ b → cond b (Some entry.0) (spelled_in list bytes) ≡ Some k → (spelled_in list bytes ≡ Some k → p k bytes ≡ true) → p k bytes ≡ true
    by_test true h e rest = let same : entry.0 ≡ k = cc in subst (λ k. p k bytes ≡ true) same (subst (λ l. p entry.0 l ≡ true) ((bytes_eq-Decides entry.1 bytes).0 h) parts.0)
    by_test false h e rest = rest e

-- a token of one of the lists is as wide as it is long at most
abbrev is_wide : TokenKind → List ℕ → Bool
is_wide k bytes = nat_le (width k) (length bytes)

signs-wide : list_all (λ (entry : TokenKind × List ℕ). is_wide entry.0 entry.1) signs ≡ true
signs-wide = refl

words-wide : list_all (λ (entry : TokenKind × List ℕ). is_wide entry.0 entry.1) reserved_words ≡ true
words-wide = refl

-- no sign is a name or `scalarset`
abbrev is_plain : TokenKind → List ℕ → Bool
is_plain k bytes = not (is_name k) && not (same_kind k word_scalarset)

signs-plain : list_all (λ (entry : TokenKind × List ℕ). is_plain entry.0 entry.1) signs ≡ true
signs-plain = refl

-- ---- the front of some bytes

word-some : (bytes : List ℕ) → is_word bytes ≡ true → 1 ≤ length bytes
word-some [] e = absurd (cc (e))
word-some (b ∷ bytes) e = omega arith

digits-some : (bytes : List ℕ) → is_digits bytes ≡ true → 1 ≤ length bytes
digits-some [] e = absurd (cc (e))
digits-some (b ∷ bytes) e = omega arith

word-wide : (bytes : List ℕ) (o : Option TokenKind) → spelled_in reserved_words bytes ≡ o → 1 ≤ length bytes → width (unwrap_or o (Ident bytes)) ≤ length bytes
word-wide bytes None e some = some
word-wide bytes (Some k) e some = nat_le-is (width k) (length bytes) (spelled-passes is_wide reserved_words words-wide bytes k e)

-- a token is at least as long as its kind is wide
kind-wide : (bytes : List ℕ) (k : TokenKind) → kind_of bytes ≡ Some k → width k ≤ length bytes
unfolding kind_of word_kind
kind-wide bytes k e = by_tests (is_word bytes) (is_digits bytes) refl refl e
  where
    by_tests : (a b : Bool) → is_word bytes ≡ a → is_digits bytes ≡ b → cond a (Some (unwrap_or (spelled_in reserved_words bytes) (Ident bytes))) (cond b (Some (Number (number_of bytes))) (spelled_in signs bytes)) ≡ Some k → width k ≤ length bytes
    by_tests true b h g e = let same : unwrap_or (spelled_in reserved_words bytes) (Ident bytes) ≡ k = cc in subst (λ k. width k ≤ length bytes) same (word-wide bytes (spelled_in reserved_words bytes) refl (word-some bytes h))
    by_tests false true h g e = let same : Number (number_of bytes) ≡ k = cc in subst (λ k. width k ≤ length bytes) same (digits-some bytes g)
    by_tests false false h g e = nat_le-is (width k) (length bytes) (spelled-passes is_wide signs signs-wide bytes k e)

-- what is a name or `scalarset` is a word
kind-word : (bytes : List ℕ) (k : TokenKind) → kind_of bytes ≡ Some k → (is_name k ≡ true) ⊎ (same_kind k word_scalarset ≡ true) → is_word bytes ≡ true
unfolding kind_of word_kind
kind-word bytes k e either = by_tests (is_word bytes) (is_digits bytes) refl e
  where
    neither : (k : TokenKind) → is_plain k bytes ≡ true → (is_name k ≡ true) ⊎ (same_kind k word_scalarset ≡ true) → ⊥
    neither k h (inl g) = let r = and_parts (not (is_name k)) (not (same_kind k word_scalarset)) h in absurd (twice (is_name k) r.0 g)
      where
        twice : (b : Bool) → not b ≡ true → b ≡ true → ⊥
        twice true h g = cc (h)
        twice false h g = cc (g)
    neither k h (inr g) = let r = and_parts (not (is_name k)) (not (same_kind k word_scalarset)) h in absurd (twice (same_kind k word_scalarset) r.1 g)
      where
        twice : (b : Bool) → not b ≡ true → b ≡ true → ⊥
        twice true h g = cc (h)
        twice false h g = cc (g)

    by_tests : (a b : Bool) → is_word bytes ≡ a → cond a (Some (unwrap_or (spelled_in reserved_words bytes) (Ident bytes))) (cond b (Some (Number (number_of bytes))) (spelled_in signs bytes)) ≡ Some k → is_word bytes ≡ true
    by_tests true b h e = h
    by_tests false true h e = let same : Number (number_of bytes) ≡ k = cc in absurd (neither k (subst (λ k. is_plain k bytes ≡ true) same refl) either)
    by_tests false false h e = absurd (neither k (spelled-passes is_plain signs signs-plain bytes k e) either)

-- one byte more
take-more : (text : List ℕ) (n c : ℕ) (cs : List ℕ) → drop n text ≡ c ∷ cs → (take (suc n) text ≡ take n text ++ c ∷ []) × (suc n ≤ length text)
take-more [] zero c cs e = absurd (cc (e))
take-more [] (suc n) c cs e = absurd (cc (e))
take-more (b ∷ text) zero c cs e = let same : b ≡ c = cc in (ap (λ b. b ∷ []) same, omega arith)
take-more (b ∷ text) (suc n) c cs e = let r = take-more text n c cs e in (ap (λ l. b ∷ l) r.0, (let q = r.1 in omega (arith, q)))

all-more : (p : ℕ → Bool) (bytes : List ℕ) (c : ℕ) → list_all p bytes ≡ true → p c ≡ true → list_all p (bytes ++ c ∷ []) ≡ true
all-more p [] c e h = rw h refl
all-more p (b ∷ bytes) c e h = let g : (p b ≡ true) × (list_all p bytes ≡ true) = and_parts (p b) (list_all p bytes) e in rw (g.0, all-more p bytes c g.1 h) refl

word-more : (bytes : List ℕ) (c : ℕ) → is_word bytes ≡ true → is_name_byte c ≡ true → is_word (bytes ++ c ∷ []) ≡ true
word-more [] c e h = absurd (cc (e))
word-more (b ∷ bytes) c e h = let g : (is_letter b ≡ true) × (list_all is_name_byte bytes ≡ true) = and_parts (is_letter b) (list_all is_name_byte bytes) e in rw (g.0, all-more is_name_byte bytes c g.1 h) refl

word-kind : (bytes : List ℕ) → is_word bytes ≡ true → kind_of bytes ≡ None → ⊥
unfolding kind_of
word-kind bytes h e = by_test (is_word bytes) h e
  where
    by_test : (b : Bool) → b ≡ true → cond b (Some (word_kind bytes)) (cond (is_digits bytes) (Some (Number (number_of bytes))) (spelled_in signs bytes)) ≡ None → ⊥
    by_test true h e = cc (e)
    by_test false h e = cc (h)

letter-name : (c : ℕ) → is_letter c ≡ true → is_name_byte c ≡ true
letter-name c e = rw e refl

-- behind the whole of a word no letter stands
no-letter : (text : List ℕ) (n : ℕ) → NoLonger text n → is_word (take n text) ≡ true → (c : ℕ) (cs : List ℕ) → drop n text ≡ c ∷ cs → is_letter c ≡ false
no-letter text n none word c cs e = by_test (is_letter c) refl
  where
    by_test : (b : Bool) → is_letter c ≡ b → is_letter c ≡ false
    by_test false h = h
    by_test true h =
        let more = take-more text n c cs e in
        let one : kind_of (take (suc n) text) ≡ None = none (suc n) (omega arith) more.1 in
        absurd (word-kind (take n text ++ c ∷ []) (word-more (take n text) c word (letter-name c h)) (subst (λ l. kind_of l ≡ None) more.0 one))

-- ---- the tokens of some bytes

with-parts : (t : Token) (l : Lexed) (tokens : List Token) → with_token t l ≡ Ok tokens → (ts : List Token) × (l ≡ Ok ts) × (tokens ≡ t ∷ ts)
with-parts t (Ok ts) tokens e = let same : t ∷ ts ≡ tokens = cc in (ts, refl, sym same)
with-parts t (Err f) tokens e = absurd (cc (e))

ok-same : (xs ys : List Token) (l : Lexed) → l ≡ Ok xs → l ≡ Ok ys → xs ≡ ys
ok-same xs ys l e f = cc

abbrev starts_named : List Token → Bool
starts_named [] = false
starts_named (t ∷ ts) = is_name t.kind

-- bytes of so few tokens
abbrev AreLight : List ℕ → Type 0
AreLight text = (at : ℕ) (tokens : List Token) → lexed_from at 0 text ≡ Ok tokens → weight tokens ≤ length text

-- where no letter stands first, a name has a byte before it
named-light : (m : ℕ) → ((text : List ℕ) → length text ≤ m → AreLight text) → (text : List ℕ) → length text ≤ m → ((c : ℕ) (cs : List ℕ) → text ≡ c ∷ cs → is_letter c ≡ false) →
    (at : ℕ) (tokens : List Token) → lexed_from at 0 text ≡ Ok tokens → starts_named tokens ≡ true → suc (weight tokens) ≤ length text
named-light m light [] le first at tokens e named =
    let none : starts_named [] ≡ true = subst (λ l. starts_named l ≡ true) (ok-same tokens [] (lexed_from at 0 []) e (from-end at)) named in
    absurd (cc (none))
named-light m light (c ∷ cs) le first at tokens e named = by_front (front_of (c ∷ cs)) refl
  where
    by_front : (f : Front) → front_of (c ∷ cs) ≡ f → suc (weight tokens) ≤ length (c ∷ cs)
    by_front (Passed k) is =
        let some = passed-some c cs k is in
        let short = length-drop k (c ∷ cs) in
        let own = light (drop k (c ∷ cs)) (omega (arith, short, le)) (at + k) tokens (sym (from-passed c cs at k is some) ∙ e) in
        omega (arith, some, short, own)
    by_front (Whole k n) is =
        let some = token-some c cs n k is in
        let parts = with-parts (record { kind = k; at = at }) (lexed_from (at + n) 0 (drop n (c ∷ cs))) tokens (sym (from-token c cs at n k is some) ∙ e) in
        let name : is_name k ≡ true = subst (λ l. starts_named l ≡ true) parts.2 named in
        let word : is_word (take n (c ∷ cs)) ≡ true = kind-word (take n (c ∷ cs)) k (longest-token (c ∷ cs) k n is).0 (inl name) in
        absurd (letter n some word)
      where
        letter : (n : ℕ) → 0 < n → is_word (take n (c ∷ cs)) ≡ true → ⊥
        letter zero some word = omega (arith, some)
        letter (suc j) some word =
            let g : (is_letter c ≡ true) × (list_all is_name_byte (take j cs) ≡ true) = and_parts (is_letter c) (list_all is_name_byte (take j cs)) word in
            let yes = g.0 in
            let no = first c cs refl in
            cc (yes, no)
    by_front (Broken number) is = let wrong = sym (from-fault c cs at number is) ∙ e in absurd (cc (wrong))

gap-light : (k : TokenKind) (ts : List Token) (n : ℕ) → weight ts ≤ n → (same_kind k word_scalarset ≡ true → starts_named ts ≡ true → suc (weight ts) ≤ n) → gap k ts + weight ts ≤ n
gap-light k [] n le named = omega (arith, le)
gap-light k (t ∷ ts) n le named = by_tests (same_kind k word_scalarset) (is_name t.kind) refl refl
  where
    by_tests : (a b : Bool) → same_kind k word_scalarset ≡ a → is_name t.kind ≡ b → cond (a && b) 1 0 + weight (t ∷ ts) ≤ n
    by_tests true true h g = let s = named h g in omega (arith, s)
    by_tests true false h g = omega (arith, le)
    by_tests false b h g = omega (arith, le)

lexed-light : (m : ℕ) (text : List ℕ) → length text ≤ m → AreLight text
lexed-light m [] le at tokens e = subst (λ l. weight l ≤ 0) (ok-same [] tokens (lexed_from at 0 []) (from-end at) e) (omega arith)
lexed-light zero (b ∷ bytes) le at tokens e = absurd (omega (arith, le))
lexed-light (suc m) (b ∷ bytes) le at tokens e = by_front (lexed-light m) (front_of (b ∷ bytes)) refl
  where
    by_front : ((text : List ℕ) → length text ≤ m → AreLight text) → (f : Front) → front_of (b ∷ bytes) ≡ f → weight tokens ≤ length (b ∷ bytes)
    by_front light (Passed n) is =
        let some = passed-some b bytes n is in
        let short = length-drop n (b ∷ bytes) in
        let own = light (drop n (b ∷ bytes)) (omega (arith, some, short, le)) (at + n) tokens (sym (from-passed b bytes at n is some) ∙ e) in
        omega (arith, short, own)
    by_front light (Whole k n) is =
        let some = token-some b bytes n k is in
        let short = length-drop n (b ∷ bytes) in
        let front = length-take n (b ∷ bytes) in
        let few : length (drop n (b ∷ bytes)) ≤ m = omega (arith, some, short, le) in
        let parts = with-parts (record { kind = k; at = at }) (lexed_from (at + n) 0 (drop n (b ∷ bytes))) tokens (sym (from-token b bytes at n k is some) ∙ e) in
        let long = longest-token (b ∷ bytes) k n is in
        let own = light (drop n (b ∷ bytes)) few (at + n) parts.0 parts.1 in
        let wide = kind-wide (take n (b ∷ bytes)) k long.0 in
        let more = gap-light k parts.0 (length (drop n (b ∷ bytes))) own (λ scalar named.
        named-light m light (drop n (b ∷ bytes)) few (no-letter (b ∷ bytes) n long.1 (kind-word (take n (b ∷ bytes)) k long.0 (inr scalar))) (at + n) parts.0 parts.1 named) in
        subst (λ l. weight l ≤ length (b ∷ bytes)) (sym parts.2) (omega (arith, wide, more, short, front))
    by_front light (Broken number) is = let wrong = sym (from-fault b bytes at number is) ∙ e in absurd (cc (wrong))

-- the tokens of some bytes are as long together at most
pub tokens-light : (bytes : List ℕ) (tokens : List Token) → lexed bytes ≡ Ok tokens → weight tokens ≤ length bytes
tokens-light bytes tokens e = lexed-light (length bytes) bytes (omega arith) 0 tokens e
