-- Bytes that are put together, and a text that is parted.
use Rattle.std.proofs.Common.{◌≡◌, ◌≤◌, ◌+◌, ◌-◌, ℕ, zero, suc, List, [], ◌∷◌, ◌++◌, length, codes, true, Ok, Err, refl, sym, ap, ◌∙◌, subst, append_assoc, arith}
use Rattle.std.proofs.lemmas.List.{length-append}
use Rattle.smv_core.specs.declared.token.Token.{Token}
use Rattle.smv_core.specs.declared.token.TokenKind.{TokenKind}
use Rattle.smv_lex.specs.declared.front.Front.{Front}
use Rattle.smv_lex.specs.declared.front.Front.TheVariants.{Passed, Whole, Broken}
use Rattle.smv_lex.specs.Lexing.{Lexed, begins, front_of, lexed_from, lexed, then_more, with_token}
use Rattle.law_lexed_parts.specs.Parts.{moved_tokens, moved, behind, ByFront, IsCut, with_front, tokens_before, IsReadAs, AreApart}
use Rattle.law_lexed_parts.proofs.Signs.{apart-behind}
use Rattle.law_lexed_parts.proofs.Seams.{front-same, cut-kept}

-- ---- bytes at another offset

swap : (at d : ℕ) → at + d + 1 ≡ at + 1 + d
swap at d = omega arith

with-moved : (d at : ℕ) (kind : TokenKind) (l : Lexed) → with_token (record { kind = kind; at = at + d }) (moved d l) ≡ moved d (with_token (record { kind = kind; at = at }) l)
with-moved d at kind (Ok ts) = refl
with-moved d at kind (Err f) = refl

pub lexed-moved : (d at skip : ℕ) (bytes : List ℕ) → lexed_from (at + d) skip bytes ≡ moved d (lexed_from at skip bytes)
unfolding lexed_from
lexed-moved d at skip [] = refl
lexed-moved d at (suc skip) (b ∷ bytes) = ap (λ k. lexed_from k skip bytes) (swap at d) ∙ lexed-moved d (at + 1) skip bytes
lexed-moved d at zero (b ∷ bytes) = by_front (front_of (b ∷ bytes)) (λ k. ap (λ i. lexed_from i k bytes) (swap at d) ∙ lexed-moved d (at + 1) k bytes)
  where
    by_front : (f : Front) → ((k : ℕ) → lexed_from (at + d + 1) k bytes ≡ moved d (lexed_from (at + 1) k bytes)) →
        then_more (at + d) f (λ n. lexed_from (at + d + 1) (n - 1) bytes) ≡ moved d (then_more at f (λ n. lexed_from (at + 1) (n - 1) bytes))
    by_front (Passed n) h = h (n - 1)
    by_front (Whole kind n) h = ap (with_token (record { kind = kind; at = at + d })) (h (n - 1)) ∙ with-moved d at kind (lexed_from (at + 1) (n - 1) bytes)
    by_front (Broken number) h = refl

pub tokens-moved : (d at skip : ℕ) (p more : List ℕ) → tokens_before (at + d) skip p more ≡ moved_tokens d (tokens_before at skip p more)
tokens-moved d at skip [] more = refl
tokens-moved d at (suc skip) (b ∷ p) more = ap (λ k. tokens_before k skip p more) (swap at d) ∙ tokens-moved d (at + 1) skip p more
tokens-moved d at zero (b ∷ p) more = by_front (front_of (b ∷ p ++ more)) (λ k. ap (λ i. tokens_before i k p more) (swap at d) ∙ tokens-moved d (at + 1) k p more)
  where
    by_front : (f : Front) → ((k : ℕ) → tokens_before (at + d + 1) k p more ≡ moved_tokens d (tokens_before (at + 1) k p more)) →
        with_front (at + d) f (λ n. tokens_before (at + d + 1) (n - 1) p more) ≡ moved_tokens d (with_front at f (λ n. tokens_before (at + 1) (n - 1) p more))
    by_front (Passed n) h = h (n - 1)
    by_front (Whole kind n) h = ap (λ l. record { kind = kind; at = at + d } ∷ l) (h (n - 1))
    by_front (Broken number) h = refl

-- ---- in parts

with-behind : (t : Token) (ts : List Token) (l : Lexed) → with_token t (behind ts l) ≡ behind (t ∷ ts) l
with-behind t ts (Ok us) = refl
with-behind t ts (Err f) = refl

behind-none : (l : Lexed) → l ≡ behind [] l
behind-none (Ok us) = refl
behind-none (Err f) = refl

pub next : (i n : ℕ) → i + 1 + n ≡ i + suc n
next i n = omega arith

pub in-parts : (at skip : ℕ) (bytes more : List ℕ) → IsCut skip bytes more → lexed_from at skip (bytes ++ more) ≡ behind (tokens_before at skip bytes more) (lexed_from (at + length bytes) 0 more)
unfolding lexed_from
in-parts at zero [] more c = let e : at ≡ at + 0 = omega arith in ap (λ k. lexed_from k 0 more) e ∙ behind-none (lexed_from (at + 0) 0 more)
in-parts at (suc skip) [] more c = absurd c
in-parts at (suc skip) (b ∷ bytes) more c = in-parts (at + 1) skip bytes more c ∙ ap (λ k. behind (tokens_before (at + 1) skip bytes more) (lexed_from k 0 more)) (next at (length bytes))
in-parts at zero (b ∷ bytes) more c =
    by_front (front_of (b ∷ bytes ++ more)) c (λ k p. in-parts (at + 1) k bytes more p ∙ ap (λ i. behind (tokens_before (at + 1) k bytes more) (lexed_from i 0 more)) (next at (length bytes)))
  where
    by_front : (f : Front) → ByFront f (λ n. (begins (b ∷ bytes ++ more) (codes "--") ≡ true → n ≤ length bytes) × IsCut (n - 1) bytes more) →
        ((k : ℕ) → IsCut k bytes more → lexed_from (at + 1) k (bytes ++ more) ≡ behind (tokens_before (at + 1) k bytes more) (lexed_from (at + suc (length bytes)) 0 more)) →
        then_more at f (λ n. lexed_from (at + 1) (n - 1) (bytes ++ more)) ≡ behind (with_front at f (λ n. tokens_before (at + 1) (n - 1) bytes more)) (lexed_from (at + suc (length bytes)) 0 more)
    by_front (Passed n) p h = h (n - 1) p.1
    by_front (Whole kind n) p h = ap (with_token (record { kind = kind; at = at })) (h (n - 1) p.1) ∙ with-behind (record { kind = kind; at = at }) (tokens_before (at + 1) (n - 1) bytes more) (lexed_from (at + suc (length bytes)) 0 more)
    by_front (Broken number) p h = absurd p

apart-tail : (b : ℕ) (p other : List ℕ) → AreApart (b ∷ p) other → AreApart p other
apart-tail b [] other a = tt
apart-tail b (c ∷ p) other a = a

-- the tokens are the same in front of any rest that does not go together with the bytes
pub tokens-kept : (at skip : ℕ) (p more other : List ℕ) → IsCut skip p more → AreApart p other → tokens_before at skip p other ≡ tokens_before at skip p more
tokens-kept at skip [] more other c apart = refl
tokens-kept at (suc skip) (b ∷ p) more other c apart = tokens-kept (at + 1) skip p more other c (apart-tail b p other apart)
tokens-kept at zero (b ∷ p) more other c apart =
    ap (λ f. with_front at f (λ n. tokens_before (at + 1) (n - 1) p other)) (front-same b p more other c apart)
    ∙ by_front (front_of (b ∷ p ++ more)) c (λ k d. tokens-kept (at + 1) k p more other d (apart-tail b p other apart))
  where
    by_front : (f : Front) → ByFront f (λ n. (begins (b ∷ p ++ more) (codes "--") ≡ true → n ≤ length p) × IsCut (n - 1) p more) → ((k : ℕ) → IsCut k p more → tokens_before (at + 1) k p other ≡ tokens_before (at + 1) k p more) →
        with_front at f (λ n. tokens_before (at + 1) (n - 1) p other) ≡ with_front at f (λ n. tokens_before (at + 1) (n - 1) p more)
    by_front (Passed n) h rest = rest (n - 1) h.1
    by_front (Whole kind n) h rest = ap (λ l. record { kind = kind; at = at } ∷ l) (rest (n - 1) h.1)
    by_front (Broken number) h rest = refl

-- nothing goes together with a blank
pub apart-blank : (p rest : List ℕ) → AreApart p (32 ∷ rest)
apart-blank [] rest = tt
apart-blank (a ∷ []) rest = apart-behind 32 refl refl refl refl refl refl refl a
apart-blank (a ∷ c ∷ p) rest = apart-blank (c ∷ p) rest

apart-more : (p q rest : List ℕ) → AreApart p q → AreApart p (q ++ 32 ∷ rest)
apart-more [] q rest a = tt
apart-more (a ∷ []) [] rest h = apart-blank (a ∷ []) rest
apart-more (a ∷ []) (b ∷ q) rest h = h
apart-more (a ∷ c ∷ p) q rest h = apart-more (c ∷ p) q rest h

pub read-before : (bytes other : List ℕ) (ts : List Token) → IsReadAs bytes ts → AreApart bytes other → lexed (bytes ++ other) ≡ behind ts (moved (length bytes) (lexed other))
read-before bytes other ts h apart =
    in-parts 0 0 bytes other (cut-kept 0 bytes (codes " ") other h.0 apart)
    ∙ ap (λ l. behind l (lexed_from (0 + length bytes) 0 other)) (tokens-kept 0 0 bytes (codes " ") other h.0 apart ∙ h.1)
    ∙ ap (behind ts) (lexed-moved (length bytes) 0 0 other)

-- ---- two parts

pub cut-append : (skip : ℕ) (p w q : List ℕ) → IsCut skip p (w ++ q) → IsCut 0 w q → IsCut skip (p ++ w) q
cut-append zero [] w q c d = d
cut-append (suc skip) [] w q c d = absurd c
cut-append (suc skip) (b ∷ p) w q c d = cut-append skip p w q c d
cut-append zero (b ∷ p) w q c d =
    subst (λ xs. ByFront (front_of (b ∷ xs)) (λ n. (begins (b ∷ xs) (codes "--") ≡ true → n ≤ length (p ++ w)) × IsCut (n - 1) (p ++ w) q)) (sym (append_assoc p w q))
    (by_front (front_of (b ∷ p ++ (w ++ q))) c (λ k e. cut-append k p w q e d))
  where
    longer : (xs ys : List ℕ) (n : ℕ) → n ≤ length xs → n ≤ length (xs ++ ys)
    longer xs ys n h = let long = length-append xs ys in omega (arith, h, long)

    by_front : (f : Front) → ByFront f (λ n. (begins (b ∷ p ++ (w ++ q)) (codes "--") ≡ true → n ≤ length p) × IsCut (n - 1) p (w ++ q)) → ((k : ℕ) → IsCut k p (w ++ q) → IsCut k (p ++ w) q) →
        ByFront f (λ n. (begins (b ∷ p ++ (w ++ q)) (codes "--") ≡ true → n ≤ length (p ++ w)) × IsCut (n - 1) (p ++ w) q)
    by_front (Passed n) h rest = (λ e. longer p w n (h.0 e), rest (n - 1) h.1)
    by_front (Whole kind n) h rest = (λ e. longer p w n (h.0 e), rest (n - 1) h.1)
    by_front (Broken number) h rest = h

pub tokens-append : (at skip : ℕ) (p w q : List ℕ) → IsCut skip p (w ++ q) → tokens_before at skip (p ++ w) q ≡ tokens_before at skip p (w ++ q) ++ tokens_before (at + length p) 0 w q
tokens-append at zero [] w q c = let e : at ≡ at + 0 = omega arith in ap (λ k. tokens_before k 0 w q) e
tokens-append at (suc skip) [] w q c = absurd c
tokens-append at (suc skip) (b ∷ p) w q c = tokens-append (at + 1) skip p w q c ∙ ap (λ k. tokens_before (at + 1) skip p (w ++ q) ++ tokens_before k 0 w q) (next at (length p))
tokens-append at zero (b ∷ p) w q c =
    ap (λ xs. with_front at (front_of (b ∷ xs)) (λ n. tokens_before (at + 1) (n - 1) (p ++ w) q)) (append_assoc p w q)
    ∙ by_front (front_of (b ∷ p ++ (w ++ q))) c (λ k d. tokens-append (at + 1) k p w q d ∙ ap (λ i. tokens_before (at + 1) k p (w ++ q) ++ tokens_before i 0 w q) (next at (length p)))
  where
    by_front : (f : Front) → ByFront f (λ n. (begins (b ∷ p ++ (w ++ q)) (codes "--") ≡ true → n ≤ length p) × IsCut (n - 1) p (w ++ q)) →
        ((k : ℕ) → IsCut k p (w ++ q) → tokens_before (at + 1) k (p ++ w) q ≡ tokens_before (at + 1) k p (w ++ q) ++ tokens_before (at + suc (length p)) 0 w q) →
        with_front at f (λ n. tokens_before (at + 1) (n - 1) (p ++ w) q) ≡ with_front at f (λ n. tokens_before (at + 1) (n - 1) p (w ++ q)) ++ tokens_before (at + suc (length p)) 0 w q
    by_front (Passed n) h rest = rest (n - 1) h.1
    by_front (Whole kind n) h rest = ap (λ l. record { kind = kind; at = at } ∷ l) (rest (n - 1) h.1)
    by_front (Broken number) h rest = absurd h

pub parts-read : (bytes other : List ℕ) (ts us : List Token) → IsReadAs bytes ts → IsReadAs other us → AreApart bytes other → IsReadAs (bytes ++ other) (ts ++ moved_tokens (length bytes) us)
parts-read bytes other ts us h k apart =
    let a : AreApart bytes (other ++ codes " ") = apart-more bytes other [] apart in
    let c = cut-kept 0 bytes (codes " ") (other ++ codes " ") h.0 a in (
      cut-append 0 bytes other (codes " ") c k.0,
      tokens-append 0 0 bytes other (codes " ") c
          ∙ ap (λ l. l ++ tokens_before (0 + length bytes) 0 other (codes " ")) (tokens-kept 0 0 bytes (codes " ") (other ++ codes " ") h.0 a ∙ h.1)
          ∙ ap (λ l. ts ++ l) (tokens-moved (length bytes) 0 0 other (codes " ") ∙ ap (moved_tokens (length bytes)) k.1),
    )
