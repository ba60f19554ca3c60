-- A text parted around some of its tokens.
use Rattle.std.proofs.Common.{◌≡◌, ◌≤◌, ◌<◌, ◌+◌, ◌-◌, ◌==◌, ℕ, zero, suc, List, [], ◌∷◌, ◌++◌, length, take, drop, take_while, codes, Bool, true, false, cond, not, Ok, Err, ⊎_elim, ◌⊎◌, refl, sym, ap, ◌∙◌, subst, append_assoc, arith}
use Rattle.std.specs.List.{AllByRecursion}
use Rattle.std.proofs.lemmas.Bool.{eqb-true}
use Rattle.std.proofs.lemmas.List.{take-append-drop, length-take-le, length-append, append_cancel_right}
use Rattle.std.proofs.lemmas.List.Sums.{take_while-cons}
use Rattle.smv_core.specs.declared.token.Token.{Token}
use Rattle.smv_core.specs.declared.token.TokenKind.{TokenKind}
use Rattle.smv_lex.specs.declared.front.Front.{Front}
use Rattle.smv_lex.specs.declared.front.Front.TheVariants.{Passed, Whole, Broken}
use Rattle.smv_lex.specs.Lexing.{Lexed, is_blank, is_letter, is_digit, is_in_line, begins, front_of, lexed_from, lexed, then_more, with_token}
use Rattle.smv_lex.proofs.Fronts.{token-within}
use Rattle.law_lists.proofs.Lists.{head_is, tail_is}
use Rattle.law_lists.proofs.Each.{each_weaker}
use Rattle.law_lexed_parts.specs.Parts.{moved_tokens, moved, behind, ByFront, IsCut, with_front, tokens_before, size_of, end_of, end_of_all}
use Rattle.law_lexed_parts.specs.Laws.{IsParted}
use Rattle.law_lexed_parts.proofs.Seams.{front-is, begins-two, cut-kept, cut-within}
use Rattle.law_lexed_parts.proofs.Parts.{in-parts, lexed-moved, tokens-moved, cut-append, tokens-kept, apart-blank, next}

-- ---- offsets

pub with-ok : (t : Token) (l : Lexed) (ts : List Token) → with_token t l ≡ Ok ts → (us : List Token) × (l ≡ Ok us) × (ts ≡ t ∷ us)
with-ok t (Ok us) ts e = (us, refl, cc (e))
with-ok t (Err f) ts e = absurd (cc (e))

abbrev pub From : ℕ → List Token → Type 0
From at ts = AllByRecursion (λ (t : Token). at ≤ t.at) ts

later : (at : ℕ) (ts : List Token) → From (at + 1) ts → From at ts
later at ts h = each_weaker (λ (t : Token). at + 1 ≤ t.at) (λ (t : Token). at ≤ t.at) (λ t low. omega (arith, low)) ts h

-- no token stands before the offset from which bytes are read
low : (at skip : ℕ) (xs : List ℕ) (ts : List Token) → lexed_from at skip xs ≡ Ok ts → From at ts
unfolding lexed_from
low at skip [] ts e = let same : [] ≡ ts = cc (e) in subst (From at) same tt
low at (suc skip) (b ∷ xs) ts e = later at ts (low (at + 1) skip xs ts e)
low at zero (b ∷ xs) ts e = by_front (front_of (b ∷ xs)) e (λ k us q. later at us (low (at + 1) k xs us q))
  where
    by_front : (f : Front) → then_more at f (λ n. lexed_from (at + 1) (n - 1) xs) ≡ Ok ts → ((k : ℕ) (us : List Token) → lexed_from (at + 1) k xs ≡ Ok us → From at us) → From at ts
    by_front (Passed n) q rest = rest (n - 1) ts q
    by_front (Whole kind n) q rest = let w = with-ok (record { kind = kind; at = at }) (lexed_from (at + 1) (n - 1) xs) ts q in subst (From at) (sym w.2) (omega arith, rest (n - 1) w.0 w.1)
    by_front (Broken number) q rest = absurd (cc (q))

abbrev pub Rising : List Token → Type 0
Rising [] = Unit {0}
Rising (t ∷ ts) = From (t.at + 1) ts × Rising ts

pub rising : (at skip : ℕ) (xs : List ℕ) (ts : List Token) → lexed_from at skip xs ≡ Ok ts → Rising ts
unfolding lexed_from
rising at skip [] ts e = let same : [] ≡ ts = cc (e) in subst Rising same tt
rising at (suc skip) (b ∷ xs) ts e = rising (at + 1) skip xs ts e
rising at zero (b ∷ xs) ts e = by_front (front_of (b ∷ xs)) e (λ k us q. rising (at + 1) k xs us q)
  where
    by_front : (f : Front) → then_more at f (λ n. lexed_from (at + 1) (n - 1) xs) ≡ Ok ts → ((k : ℕ) (us : List Token) → lexed_from (at + 1) k xs ≡ Ok us → Rising us) → Rising ts
    by_front (Passed n) q rest = rest (n - 1) ts q
    by_front (Whole kind n) q rest =
        let w = with-ok (record { kind = kind; at = at }) (lexed_from (at + 1) (n - 1) xs) ts q in
        subst Rising (sym w.2) (low (at + 1) (n - 1) xs w.0 w.1, rest (n - 1) w.0 w.1)
    by_front (Broken number) q rest = absurd (cc (q))

abbrev pub Under : ℕ → List Token → Type 0
Under k ts = AllByRecursion (λ (t : Token). t.at < k) ts

-- the tokens of some bytes stand among them
high : (at skip : ℕ) (p more : List ℕ) → Under (at + length p) (tokens_before at skip p more)
high at skip [] more = tt
high at (suc skip) (b ∷ p) more = subst (λ k. Under k (tokens_before (at + 1) skip p more)) (next at (length p)) (high (at + 1) skip p more)
high at zero (b ∷ p) more = by_front (front_of (b ∷ p ++ more)) (λ k. subst (λ i. Under i (tokens_before (at + 1) k p more)) (next at (length p)) (high (at + 1) k p more))
  where
    by_front : (f : Front) → ((k : ℕ) → Under (at + suc (length p)) (tokens_before (at + 1) k p more)) → Under (at + suc (length p)) (with_front at f (λ n. tokens_before (at + 1) (n - 1) p more))
    by_front (Passed n) rest = rest (n - 1)
    by_front (Whole kind n) rest = (omega arith, rest (n - 1))
    by_front (Broken number) rest = tt

-- offsets that rise are lower before one than at it and behind it
pub rising-split : (front : List Token) (t : Token) (rest : List Token) → Rising (front ++ (t ∷ rest)) → Under t.at front × From t.at (t ∷ rest)
rising-split [] t rest h = (tt, (omega arith, later t.at rest h.0))
rising-split (f ∷ front) t rest h =
    let r = rising-split front t rest h.1 in
    let above : f.at + 1 ≤ t.at = found front h.0 in
    ((omega (arith, above), r.0), r.1)
  where
    found : (xs : List Token) → From (f.at + 1) (xs ++ (t ∷ rest)) → f.at + 1 ≤ t.at
    found [] p = p.0
    found (x ∷ xs) p = found xs p.1

-- a list is parted in one way alone into what is under a number and what is from it on
parted-by : (k : ℕ) (xs ys vs ws : List Token) → xs ++ ys ≡ vs ++ ws → Under k xs → From k ys → Under k vs → From k ws → (xs ≡ vs) × (ys ≡ ws)
parted-by k [] ys [] ws e a b c d = (refl, e)
parted-by k (x ∷ xs) ys (v ∷ vs) ws e a b c d =
    let r = parted-by k xs ys vs ws (tail_is e) a.1 b c.1 d in
    (ap (λ z. z ∷ xs) (head_is e) ∙ ap (λ l. v ∷ l) r.0, r.1)
parted-by k [] [] (v ∷ vs) ws e a b c d = absurd (cc (e))
parted-by k [] (y ∷ ys) (v ∷ vs) ws e a b c d = absurd (let same : y ≡ v = head_is e in let under : y.at < k = subst (λ (z : Token). z.at < k) (sym same) c.0 in let from = b.0 in omega (arith, under, from))
parted-by k (x ∷ xs) ys [] [] e a b c d = absurd (cc (e))
parted-by k (x ∷ xs) ys [] (w ∷ ws) e a b c d = absurd (let same : x ≡ w = head_is e in let from : k ≤ x.at = subst (λ (z : Token). k ≤ z.at) (sym same) d.0 in let under = a.0 in omega (arith, under, from))

-- ---- the lexer begins anew where a token stands

abbrev pub IsToken : List ℕ → Type 0
IsToken xs = (kind : TokenKind) × (n : ℕ) × (front_of xs ≡ Whole kind n)

no-token : IsToken [] → ⊥
unfolding front_of
no-token (kind, n, e) = absurd (cc (e))

line-front : (b : ℕ) (xs : List ℕ) → begins (b ∷ xs) (codes "--") ≡ true → front_of (b ∷ xs) ≡ Passed (length (take_while is_in_line (b ∷ xs)))
line-front b xs e =
    let same : b ≡ 45 = (begins-two 45 45 b xs e).0 in
    let blank : is_blank b ≡ false = subst (λ k. is_blank k ≡ false) (sym same) refl in
    let letter : is_letter b ≡ false = subst (λ k. is_letter k ≡ false) (sym same) refl in
    let digit : is_digit b ≡ false = subst (λ k. is_digit k ≡ false) (sym same) refl in
    front-is b xs ∙ rw (blank, letter, digit, e) refl

line-feed : (ms : List ℕ) → front_of (10 ∷ ms) ≡ Passed 1
unfolding front_of
line-feed ms = refl

-- a token begins with no line feed
token-in_line : (m : ℕ) (ms : List ℕ) → IsToken (m ∷ ms) → is_in_line m ≡ true
token-in_line m ms (kind, n, e) = by_test (m == 10) refl
  where
    by_test : (t : Bool) → (m == 10) ≡ t → not t ≡ true
    by_test false q = refl
    by_test true q = let is : front_of (m ∷ ms) ≡ Passed 1 = subst (λ k. front_of (k ∷ ms) ≡ Passed 1) (sym (eqb-true m 10 q)) (line-feed ms) in absurd (cc (is, e))

run-over : (f : ℕ → Bool) (s : List ℕ) (m : ℕ) (ms : List ℕ) → length (take_while f (s ++ m ∷ ms)) ≡ length s → f m ≡ true → ⊥
run-over f [] m ms e h = by_test (f m) h (subst (λ l. length l ≡ 0) (take_while-cons f m ms) e)
  where
    by_test : (t : Bool) → t ≡ true → length (cond t (m ∷ take_while f ms) []) ≡ 0 → ⊥
    by_test true p q = omega (arith, q)
    by_test false p q = absurd (cc (p))
run-over f (a ∷ s) m ms e h = by_test (f a) (subst (λ l. length l ≡ suc (length s)) (take_while-cons f a (s ++ m ∷ ms)) e) (λ q. run-over f s m ms q h)
  where
    by_test : (t : Bool) → length (cond t (a ∷ take_while f (s ++ m ∷ ms)) []) ≡ suc (length s) → (length (take_while f (s ++ m ∷ ms)) ≡ length s → ⊥) → ⊥
    by_test true q rest = rest (omega (arith, q))
    by_test false q rest = omega (arith, q)

-- a line comment before a token ends before it
line-ends : (b : ℕ) (p more : List ℕ) (n : ℕ) → front_of (b ∷ p ++ more) ≡ Passed n → n - 1 ≤ length p → IsToken more → begins (b ∷ p ++ more) (codes "--") ≡ true → n ≤ length p
line-ends b p [] n is le tok e = absurd (no-token tok)
line-ends b p (m ∷ ms) n is le tok e =
    ⊎_elim (λ lt. omega (arith, lt)) (λ same. absurd (run-over is_in_line (b ∷ p) m ms (long ∙ same) (token-in_line m ms tok))) (under_or_same n (suc (length p)) (omega (arith, le)))
  where
    long : length (take_while is_in_line (b ∷ p ++ m ∷ ms)) ≡ n
    long = let same = line-front b (p ++ m ∷ ms) e in cc (same, is)

    under_or_same : (i j : ℕ) → i < suc j → (i < j) ⊎ (i ≡ j)
    under_or_same i j q = grind (arith, q)

none-there : (front : List Token) (t : Token) (rest : List Token) → [] ≡ front ++ (t ∷ rest) → ⊥
none-there [] t rest e = absurd (cc (e))
none-there (f ∷ front) t rest e = absurd (cc (e))

from-there : (k : ℕ) (front : List Token) (t : Token) (rest : List Token) → From k (front ++ (t ∷ rest)) → k ≤ t.at
from-there k [] t rest h = h.0
from-there k (f ∷ front) t rest h = from-there k front t rest h.1

cut-at : (at skip : ℕ) (p more : List ℕ) (ts front rest : List Token) (t : Token) → lexed_from at skip (p ++ more) ≡ Ok ts → ts ≡ front ++ (t ∷ rest) → t.at ≡ at + length p → IsCut skip p more × IsToken more
unfolding lexed_from
cut-at at skip [] [] ts front rest t e s q = absurd (let none : [] ≡ ts = cc (e) in none-there front t rest (none ∙ s))
cut-at at (suc skip) [] (m ∷ ms) ts front rest t e s q = absurd (let h = from-there (at + 1) front t rest (subst (From (at + 1)) s (low (at + 1) skip ms ts e)) in omega (arith, h, q))
cut-at at zero [] (m ∷ ms) ts front rest t e s q = (tt, by_front (front_of (m ∷ ms)) refl e)
  where
    by_front : (f : Front) → front_of (m ∷ ms) ≡ f → then_more at f (λ n. lexed_from (at + 1) (n - 1) ms) ≡ Ok ts → IsToken (m ∷ ms)
    by_front (Passed n) is r = absurd (let h = from-there (at + 1) front t rest (subst (From (at + 1)) s (low (at + 1) (n - 1) ms ts r)) in omega (arith, h, q))
    by_front (Whole kind n) is r = (kind, n, is)
    by_front (Broken number) is r = absurd (cc (r))
cut-at at (suc skip) (b ∷ p) more ts front rest t e s q = cut-at (at + 1) skip p more ts front rest t e s (q ∙ sym (next at (length p)))
cut-at at zero (b ∷ p) more ts front rest t e s q = by_front (front_of (b ∷ p ++ more)) refl e (λ k us front' e' s'. cut-at (at + 1) k p more us front' rest t e' s' (q ∙ sym (next at (length p))))
  where
    by_head : (kind : TokenKind) (n : ℕ) (us fs : List Token) → front_of (b ∷ p ++ more) ≡ Whole kind n → lexed_from (at + 1) (n - 1) (p ++ more) ≡ Ok us → record { kind = kind; at = at } ∷ us ≡ fs ++ (t ∷ rest) →
        ((k : ℕ) (vs front' : List Token) → lexed_from (at + 1) k (p ++ more) ≡ Ok vs → vs ≡ front' ++ (t ∷ rest) → IsCut k p more × IsToken more) →
        ((begins (b ∷ p ++ more) (codes "--") ≡ true → n ≤ length p) × IsCut (n - 1) p more) × IsToken more
    by_head kind n us [] is r same rec = absurd (let here : record { kind = kind; at = at } ≡ t = head_is same in let there : at ≡ t.at = ap (λ (z : Token). z.at) here in omega (arith, there, q))
    by_head kind n us (f ∷ fs) is r same rec = let c = rec (n - 1) us fs r (tail_is same) in ((λ line. absurd (let l = line-front b (p ++ more) line in cc (l, is)), c.0), c.1)

    by_front : (f : Front) → front_of (b ∷ p ++ more) ≡ f → then_more at f (λ n. lexed_from (at + 1) (n - 1) (p ++ more)) ≡ Ok ts →
        ((k : ℕ) (us front' : List Token) → lexed_from (at + 1) k (p ++ more) ≡ Ok us → us ≡ front' ++ (t ∷ rest) → IsCut k p more × IsToken more) →
        ByFront f (λ n. (begins (b ∷ p ++ more) (codes "--") ≡ true → n ≤ length p) × IsCut (n - 1) p more) × IsToken more
    by_front (Passed n) is r rec = let c = rec (n - 1) ts front r s in ((line-ends b p more n is (cut-within (n - 1) p more c.0) c.1, c.0), c.1)
    by_front (Whole kind n) is r rec = let w = with-ok (record { kind = kind; at = at }) (lexed_from (at + 1) (n - 1) (p ++ more)) ts r in by_head kind n w.0 front is w.1 (sym w.2 ∙ s) rec
    by_front (Broken number) is r rec = absurd (cc (r))

-- ---- a text parted

-- a token is gone through
all-skipped : (p q : List ℕ) → IsCut (length p) p q
all-skipped [] q = tt
all-skipped (b ∷ p) q = all-skipped p q

none-skipped : (at : ℕ) (p q : List ℕ) → tokens_before at (length p) p q ≡ []
none-skipped at [] q = refl
none-skipped at (b ∷ p) q = none-skipped (at + 1) p q

pub whole-cut : (kind : TokenKind) (w q : List ℕ) → front_of (w ++ q) ≡ Whole kind (length w) → 0 < length w → IsCut 0 w q
whole-cut kind [] q is lt = tt
whole-cut kind (b ∷ w) q is lt =
    let one : length w ≡ suc (length w) - 1 = omega arith in
    subst (λ f. ByFront f (λ n. (begins (b ∷ w ++ q) (codes "--") ≡ true → n ≤ length w) × IsCut (n - 1) w q)) (sym is) (λ line. absurd (let l = line-front b (w ++ q) line in cc (l, is)), subst (λ k. IsCut k w q) one (all-skipped w q))

pub whole-tokens : (at : ℕ) (kind : TokenKind) (w q : List ℕ) → front_of (w ++ q) ≡ Whole kind (length w) → 0 < length w → tokens_before at 0 w q ≡ record { kind = kind; at = at } ∷ []
whole-tokens at kind [] q is lt = absurd (omega (arith, lt))
whole-tokens at kind (b ∷ w) q is lt =
    let one : suc (length w) - 1 ≡ length w = omega arith in
    ap (λ f. with_front at f (λ n. tokens_before (at + 1) (n - 1) w q)) is ∙ ap (λ k. record { kind = kind; at = at } ∷ tokens_before (at + 1) k w q) one ∙ ap (λ l. record { kind = kind; at = at } ∷ l) (none-skipped (at + 1) w q)

pub cut-second : (skip : ℕ) (p w q : List ℕ) → IsCut skip (p ++ w) q → IsCut skip p (w ++ q) → IsCut 0 w q
cut-second zero [] w q c d = c
cut-second (suc skip) [] w q c d = absurd d
cut-second (suc skip) (b ∷ p) w q c d = cut-second skip p w q c d
cut-second zero (b ∷ p) w q c d =
    by_front (front_of (b ∷ p ++ (w ++ q))) (subst (λ xs. ByFront (front_of (b ∷ xs)) (λ n. (begins (b ∷ xs) (codes "--") ≡ true → n ≤ length (p ++ w)) × IsCut (n - 1) (p ++ w) q)) (append_assoc p w q) c) d
    (λ k x y. cut-second k p w q x y)
  where
    by_front : (f : Front) → ByFront f (λ n. (begins (b ∷ p ++ (w ++ q)) (codes "--") ≡ true → n ≤ length (p ++ w)) × IsCut (n - 1) (p ++ w) q) → ByFront f (λ n. (begins (b ∷ p ++ (w ++ q)) (codes "--") ≡ true → n ≤ length p) × IsCut (n - 1) p (w ++ q)) →
        ((k : ℕ) → IsCut k (p ++ w) q → IsCut k p (w ++ q) → IsCut 0 w q) → IsCut 0 w q
    by_front (Passed n) x y rest = rest (n - 1) x.1 y.1
    by_front (Whole kind n) x y rest = rest (n - 1) x.1 y.1
    by_front (Broken number) x y rest = absurd x

zero_plus : (n : ℕ) → 0 + n ≡ n
zero_plus n = omega arith

-- what is read behind some tokens
pub behind-ok : (ts : List Token) (l : Lexed) (us : List Token) → behind ts l ≡ Ok us → (vs : List Token) × (l ≡ Ok vs) × (ts ++ vs ≡ us)
behind-ok ts (Ok vs) us e = (vs, refl, cc (e))
behind-ok ts (Err f) us e = absurd (cc (e))

-- the tokens before a place where one stands are those of the bytes before it
pub split-at : (p more : List ℕ) (front rest : List Token) (t : Token) → lexed (p ++ more) ≡ Ok (front ++ (t ∷ rest)) → t.at ≡ length p →
    IsCut 0 p more × IsToken more × (tokens_before 0 0 p more ≡ front) × (lexed_from (length p) 0 more ≡ Ok (t ∷ rest))
split-at p more front rest t e q =
    let place : t.at ≡ 0 + length p = omega (arith, q) in
    let c = cut-at 0 0 p more (front ++ (t ∷ rest)) front rest t e refl place in
    let o = behind-ok (tokens_before 0 0 p more) (lexed_from (0 + length p) 0 more) (front ++ (t ∷ rest)) (sym (in-parts 0 0 p more c.0) ∙ e) in
    let r = rising-split front t rest (rising 0 0 (p ++ more) (front ++ (t ∷ rest)) e) in
    let there : lexed_from (length p) 0 more ≡ Ok o.0 = ap (λ k. lexed_from k 0 more) (sym (zero_plus (length p))) ∙ o.1 in
    let under : Under (length p) (tokens_before 0 0 p more) = subst (λ k. Under k (tokens_before 0 0 p more)) (zero_plus (length p)) (high 0 0 p more) in
    let s = parted-by (length p) (tokens_before 0 0 p more) o.0 front (t ∷ rest) o.2 under (low (length p) 0 more o.0 there) (subst (λ k. Under k front) q r.0) (subst (λ k. From k (t ∷ rest)) q r.1) in
    (c.0, c.1, s.0, there ∙ ap Ok s.1)

-- the last of some tokens
record Last (t : Token) (middle : List Token) : Type 0 where
  init : List Token
  token : Token
  split : t ∷ middle ≡ init ++ (token ∷ [])

last-of : (t : Token) (middle : List Token) → Last t middle
last-of t [] = record { init = []; token = t; split = refl }
last-of t (m ∷ ms) = let l = last-of m ms in record { init = t ∷ l.init; token = l.token; split = ap (λ k. t ∷ k) l.split }

-- some tokens end where the last of them does
end-last : (text : List ℕ) (t : Token) (middle : List Token) → end_of_all text (t ∷ middle) ≡ end_of text (last-of t middle).token
unfolding last-of
end-last text t [] = refl
end-last text t (m ∷ ms) = end-last text m ms

-- the tokens of a text stand within it
pub within-text : (at skip : ℕ) (xs : List ℕ) (ts : List Token) → lexed_from at skip xs ≡ Ok ts → Under (at + length xs) ts
unfolding lexed_from
within-text at skip [] ts e = let same : [] ≡ ts = cc (e) in subst (Under (at + 0)) same tt
within-text at (suc skip) (b ∷ xs) ts e = subst (λ k. Under k ts) (next at (length xs)) (within-text (at + 1) skip xs ts e)
within-text at zero (b ∷ xs) ts e = by_front (front_of (b ∷ xs)) e (λ k us q. subst (λ i. Under i us) (next at (length xs)) (within-text (at + 1) k xs us q))
  where
    by_front : (f : Front) → then_more at f (λ n. lexed_from (at + 1) (n - 1) xs) ≡ Ok ts → ((k : ℕ) (us : List Token) → lexed_from (at + 1) k xs ≡ Ok us → Under (at + suc (length xs)) us) → Under (at + suc (length xs)) ts
    by_front (Passed n) q rest = rest (n - 1) ts q
    by_front (Whole kind n) q rest = let w = with-ok (record { kind = kind; at = at }) (lexed_from (at + 1) (n - 1) xs) ts q in subst (Under (at + suc (length xs))) (sym w.2) (omega arith, rest (n - 1) w.0 w.1)
    by_front (Broken number) q rest = absurd (cc (q))

pub under-there : (k : ℕ) (front : List Token) (t : Token) (rest : List Token) → Under k (front ++ (t ∷ rest)) → t.at < k
under-there k [] t rest h = h.0
under-there k (f ∷ front) t rest h = under-there k front t rest h.1

pub moved-ok : (d : ℕ) (l : Lexed) (ts : List Token) → moved d l ≡ Ok ts → (us : List Token) × (l ≡ Ok us) × (ts ≡ moved_tokens d us)
moved-ok d (Ok us) ts e = (us, refl, cc (e))
moved-ok d (Err f) ts e = absurd (cc (e))

module _ (text : List ℕ) (front : List Token) (t : Token) (middle rest : List Token) (e : lexed text ≡ Ok (front ++ (t ∷ middle ++ rest))) where
  abbrev l : Last t middle
  l = last-of t middle

  abbrev u : Token
  u = l.token

  by_last : front ++ (t ∷ middle ++ rest) ≡ (front ++ l.init) ++ (u ∷ rest)
  by_last = ap (λ k. front ++ (k ++ rest)) l.split ∙ ap (λ k. front ++ k) (append_assoc l.init (u ∷ []) rest) ∙ sym (append_assoc front l.init (u ∷ rest))

  u-within : u.at < length text
  u-within = let h : u.at < 0 + length text = under-there (0 + length text) (front ++ l.init) u rest (subst (Under (0 + length text)) by_last (within-text 0 0 text (front ++ (t ∷ middle ++ rest)) e)) in omega (arith, h)

  abbrev pu : List ℕ
  pu = take u.at text

  abbrev ru : List ℕ
  ru = drop u.at text

  pu-long : length pu ≡ u.at
  pu-long = length-take-le u.at text (omega (arith, u-within))

  at-last : IsCut 0 pu ru × IsToken ru × (tokens_before 0 0 pu ru ≡ front ++ l.init) × (lexed_from (length pu) 0 ru ≡ Ok (u ∷ rest))
  at-last = split-at pu ru (front ++ l.init) rest u (ap lexed (take-append-drop u.at text) ∙ e ∙ ap Ok by_last) (sym pu-long)

  abbrev kind : TokenKind
  kind = at-last.1.0

  abbrev n : ℕ
  n = at-last.1.1

  some : 0 < length ru
  some = by_list ru at-last.1
    where
      by_list : (xs : List ℕ) → IsToken xs → 0 < length xs
      by_list [] tok = absurd (no-token tok)
      by_list (x ∷ xs) tok = omega arith

  n-within : (0 < n) × (0 + n ≤ length ru)
  n-within = token-within ru 0 n kind some at-last.1.2

  abbrev w : List ℕ
  w = take n ru

  abbrev q : List ℕ
  q = drop n ru

  w-long : length w ≡ n
  w-long = let h = n-within.1 in length-take-le n ru (omega (arith, h))

  w-some : 0 < length w
  w-some = subst (λ k. 0 < k) (sym w-long) n-within.0

  ru-split : w ++ q ≡ ru
  ru-split = take-append-drop n ru

  w-front : front_of (w ++ q) ≡ Whole kind (length w)
  w-front = ap front_of ru-split ∙ at-last.1.2 ∙ ap (Whole kind) (sym w-long)

  after-last : lexed_from (length pu + length w) 0 q ≡ Ok rest
  after-last =
      let h : lexed_from (length pu) 0 (w ++ q) ≡ Ok (u ∷ rest) = ap (lexed_from (length pu) 0) ru-split ∙ at-last.3 in
      let o = behind-ok (tokens_before (length pu) 0 w q) (lexed_from (length pu + length w) 0 q) (u ∷ rest) (sym (in-parts (length pu) 0 w q (whole-cut kind w q w-front w-some)) ∙ h) in
      let same : record { kind = kind; at = length pu } ∷ o.0 ≡ u ∷ rest = ap (λ k. k ++ o.0) (sym (whole-tokens (length pu) kind w q w-front w-some)) ∙ o.2 in
      o.1 ∙ ap Ok (tail_is same)

  -- what stands up to the end of the last token
  abbrev x : List ℕ
  x = pu ++ w

  x-cut : IsCut 0 x q
  x-cut = cut-append 0 pu w q (subst (IsCut 0 pu) (sym ru-split) at-last.0) (whole-cut kind w q w-front w-some)

  x-long : length x ≡ length pu + length w
  x-long = length-append pu w

  text-is : x ++ q ≡ text
  text-is = append_assoc pu w q ∙ ap (λ k. pu ++ k) ru-split ∙ take-append-drop u.at text

  t-first : t.at ≤ u.at
  t-first = by_init l.init l.split
    where
      by_init : (is : List Token) → t ∷ middle ≡ is ++ (u ∷ []) → t.at ≤ u.at
      by_init [] same = let h : t.at ≡ u.at = ap (λ (k : Token). k.at) (head_is same) in omega (arith, h)
      by_init (i ∷ is) same =
          let s = rising-split front t (middle ++ rest) (rising 0 0 text (front ++ (t ∷ middle ++ rest)) e) in
          from-there t.at is u rest (subst (From t.at) (ap (λ k. k ++ rest) (tail_is same) ∙ append_assoc is (u ∷ []) rest) s.1.1)

  abbrev p : List ℕ
  p = take t.at x

  abbrev bytes : List ℕ
  bytes = drop t.at x

  p-long : length p ≡ t.at
  p-long = let h = t-first in let k = pu-long in let j = x-long in length-take-le t.at x (omega (arith, h, k, j))

  x-split : p ++ bytes ≡ x
  x-split = take-append-drop t.at x

  whole-split : p ++ (bytes ++ q) ≡ text
  whole-split = sym (append_assoc p bytes q) ∙ ap (λ k. k ++ q) x-split ∙ text-is

  at-first : IsCut 0 p (bytes ++ q) × IsToken (bytes ++ q) × (tokens_before 0 0 p (bytes ++ q) ≡ front) × (lexed_from (length p) 0 (bytes ++ q) ≡ Ok (t ∷ middle ++ rest))
  at-first = split-at p (bytes ++ q) front (middle ++ rest) t (ap lexed whole-split ∙ e) (sym p-long)

  bytes-cut : IsCut 0 bytes q
  bytes-cut = cut-second 0 p bytes q (subst (λ k. IsCut 0 k q) (sym x-split) x-cut) at-first.0

  ends : length p + length bytes ≡ length pu + length w
  ends = sym (length-append p bytes) ∙ ap length x-split ∙ x-long

  after : lexed_from (length p + length bytes) 0 q ≡ Ok rest
  after = ap (λ k. lexed_from k 0 q) ends ∙ after-last

  abbrev own : List Token
  own = tokens_before 0 0 bytes (codes " ")

  -- nothing behind changes them
  middle-is : t ∷ middle ≡ moved_tokens (length p) own
  middle-is =
      let h : behind (tokens_before (length p) 0 bytes q) (lexed_from (length p + length bytes) 0 q) ≡ Ok (t ∷ middle ++ rest) = sym (in-parts (length p) 0 bytes q bytes-cut) ∙ at-first.3 in
      let k : tokens_before (length p) 0 bytes q ++ rest ≡ t ∷ middle ++ rest = let j : behind (tokens_before (length p) 0 bytes q) (Ok rest) ≡ Ok (t ∷ middle ++ rest) = ap (behind (tokens_before (length p) 0 bytes q)) (sym after) ∙ h in cc (j) in
      sym (append_cancel_right (tokens_before (length p) 0 bytes q) (t ∷ middle) rest k)
      ∙ sym (tokens-kept (length p) 0 bytes q (codes " ") bytes-cut (apart-blank bytes []))
      ∙ ap (λ k. tokens_before k 0 bytes (codes " ")) (sym (zero_plus (length p))) ∙ tokens-moved (length p) 0 0 bytes (codes " ")

  others : (us : List Token) × (lexed q ≡ Ok us) × (rest ≡ moved_tokens (length p + length bytes) us)
  others = moved-ok (length p + length bytes) (lexed q) rest (sym (lexed-moved (length p + length bytes) 0 0 q) ∙ ap (λ k. lexed_from k 0 q) (zero_plus (length p + length bytes)) ∙ after)

  ends-at : end_of_all text (t ∷ middle) ≡ length p + length bytes
  ends-at =
      let place : u.at + n ≡ length p + length bytes = let a = ends in let b = pu-long in let c = w-long in omega (arith, a, b, c) in
      end-last text t middle ∙ ap (λ f. u.at + size_of f) at-last.1.2 ∙ place

  pub parted : IsParted text front (t ∷ middle) rest
  parted = record {
    before = p;
    bytes = bytes;
    after = q;
    split = sym whole-split;
    first = (cut-kept 0 p (bytes ++ q) (codes " ") at-first.0 (apart-blank p []), tokens-kept 0 0 p (bytes ++ q) (codes " ") at-first.0 (apart-blank p []) ∙ at-first.2);
    own = own;
    read = (cut-kept 0 bytes q (codes " ") bytes-cut (apart-blank bytes []), refl);
    moved_own = middle-is;
    others = others.0;
    last = others.1;
    moved_others = others.2;
    starts = sym p-long;
    ends = ends-at;
  }
