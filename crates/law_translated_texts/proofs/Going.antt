-- How far the part goes that some tokens begin: rules that leave as many brackets open as they found, or one more or fewer.
use Rattle.std.proofs.Common.{◌≡◌, ◌+◌, ℕ, suc, List, [], ◌∷◌, ◌++◌, length, Option, Some, None, Bool, true, false, if◌then◌else◌, inl, inr, refl, sym, ap, ◌∙◌, append_assoc, arith}
use Rattle.std.proofs.lemmas.Bool.{eqb-true}
use Rattle.smv_core.specs.declared.token.Token.{Token}
use Rattle.smv_core.specs.declared.token.TokenKind.{TokenKind}
use Rattle.smv_core.specs.declared.token.TokenKind.TheVariants.{Ident, Number, Sign, Reserved}
use Rattle.smv_core.specs.declared.tree.Word.{Word}
use Rattle.smv_core.specs.Signs.{comma}
use Rattle.smv_core.specs.Notation.{Tokens, Rule, nothing, ◌>>=◌, ◌>>◌, ◌<|>◌, many, optional, one, one_of, found, with_place, token, name, name_of, number, number_of, same_kind, same_name, separated, opens, opener}
use Rattle.law_translated_texts.specs.Parts.{Mark, mark_of, marked, extent}
use Rattle.law_translated_texts.specs.Parts.Mark.{Opens, Closes, Parts, Stays}

-- The second list is what comes behind a front of the first. Where so many brackets are open before the front, so many are behind it.
pub record Goes (f g : ℕ → ℕ) (ts rest : Tokens) : Type 0 where
  pub front : Tokens
  pub split : ts ≡ front ++ rest
  pub counts : (d : ℕ) → extent (f d) ts ≡ length front + extent (g d) rest

abbrev pub GoesBy : {A : Type 0} → (ℕ → ℕ) → (ℕ → ℕ) → Rule A → Type 0
GoesBy {A} f g r = (ts : Tokens) (a : A) (rest : Tokens) → r ts a rest → Goes f g ts rest

-- as many as before, however many
abbrev pub Steady : {A : Type 0} → Rule A → Type 0
Steady r = (f : ℕ → ℕ) → GoesBy f f r

-- one more
abbrev pub up : (ℕ → ℕ) → ℕ → ℕ
up f d = suc (f d)

length-append : (xs ys : Tokens) → length (xs ++ ys) ≡ length xs + length ys
length-append [] ys = omega arith
length-append (x ∷ xs) ys = let e = length-append xs ys in omega (arith, e)

pub stays : (f : ℕ → ℕ) (ts rest : Tokens) → ts ≡ rest → Goes f f ts rest
stays f ts rest e = record { front = []; split = e; counts = λ d. let same = ap (extent (f d)) e in omega (arith, same) }

pub further : (f g h : ℕ → ℕ) (ts us rest : Tokens) → Goes f g ts us → Goes g h us rest → Goes f h ts rest
further f g h ts us rest u v = record {
  front = u.front ++ v.front;
  split = u.split ∙ ap (λ l. u.front ++ l) v.split ∙ sym (append_assoc u.front v.front rest);
  counts = λ d. let a = u.counts d in let b = v.counts d in let c = length-append u.front v.front in omega (arith, a, b, c);
}

pub done : {A : Type 0} (f : ℕ → ℕ) (a : A) → GoesBy f f (nothing a)
done f a ts b rest h = stays f ts rest h.1

pub seq : {A B : Type 0} (f g h : ℕ → ℕ) (r : Rule A) (s : A → Rule B) → GoesBy f g r → ((a : A) → GoesBy g h (s a)) → GoesBy f h (r >>= s)
seq f g h r s u v ts b rest (a, middle, p, q) = further f g h ts middle rest (u ts a middle p) (v a middle b rest q)

pub either : {A : Type 0} (f g : ℕ → ℕ) (r s : Rule A) → GoesBy f g r → GoesBy f g s → GoesBy f g (r <|> s)
either f g r s u v ts a rest (inl p) = u ts a rest p
either f g r s u v ts a rest (inr p) = v ts a rest p

pub many-goes : {A : Type 0} (f : ℕ → ℕ) (r : Rule A) → GoesBy f f r → GoesBy f f (many r)
many-goes f r u ts [] rest h = stays f ts rest h
many-goes f r u ts (a ∷ more) rest (middle, p, q) = further f f f ts middle rest (u ts a middle p) (many-goes f r u middle more rest q)

pub optional-goes : {A : Type 0} (f : ℕ → ℕ) (r : Rule A) → GoesBy f f r → GoesBy f f (optional r)
optional-goes f r u = either f f _ _ (seq f f f r _ u (λ a. done f (Some a))) (done f None)

-- ---- single tokens

pub kind-is : (k j : TokenKind) → same_kind j k ≡ true → j ≡ k
kind-is (Sign i) (Sign j) e = ap Sign (eqb-true j i e)
kind-is (Reserved i) (Reserved j) e = ap Reserved (eqb-true j i e)
kind-is (Reserved i) (Sign j) e = absurd (cc)
kind-is (Sign i) (Reserved j) e = absurd (cc)
kind-is (Sign i) (Ident b) e = absurd (cc)
kind-is (Sign i) (Number n) e = absurd (cc)
kind-is (Reserved i) (Ident b) e = absurd (cc)
kind-is (Reserved i) (Number n) e = absurd (cc)
kind-is (Ident b) (Ident c) e = absurd (cc)
kind-is (Ident b) (Number n) e = absurd (cc)
kind-is (Ident b) (Sign i) e = absurd (cc)
kind-is (Ident b) (Reserved i) e = absurd (cc)
kind-is (Number m) (Ident b) e = absurd (cc)
kind-is (Number m) (Number n) e = absurd (cc)
kind-is (Number m) (Sign i) e = absurd (cc)
kind-is (Number m) (Reserved i) e = absurd (cc)

-- one token with this mark, where it is passed with so many brackets open
one-token : (f g : ℕ → ℕ) (m : Mark) → ((d : ℕ) (more : ℕ → ℕ) → marked m (f d) more ≡ suc (more (g d))) → (t : Token) (ts rest : Tokens) → mark_of t.kind ≡ m → ts ≡ rest → Goes f g (t ∷ ts) rest
one-token f g m h t ts rest e split = record {
  front = t ∷ [];
  split = ap (λ l. t ∷ l) split;
  counts = λ d. ap (λ k. marked k (f d) (λ depth. extent depth ts)) e ∙ h d (λ depth. extent depth ts) ∙ ap (λ l. suc (extent (g d) l)) split ∙ one (extent (g d) rest);
}
  where
    one : (k : ℕ) → suc k ≡ length (t ∷ []) + k
    one k = omega arith

-- a sign or word with this mark
token-with : (f g : ℕ → ℕ) (m : Mark) → ((d : ℕ) (more : ℕ → ℕ) → marked m (f d) more ≡ suc (more (g d))) → (k : TokenKind) → mark_of k ≡ m → GoesBy f g (token k)
token-with f g m h k e [] at rest p = absurd p
token-with f g m h k e (t ∷ ts) at rest p = one-token f g m h t ts rest (ap mark_of (kind-is k t.kind (by_test (same_kind t.kind k) p.0)) ∙ e) p.1
  where
    by_test : (b : Bool) → (if b then Some t.at else None) ≡ Some at → b ≡ true
    by_test true q = refl
    by_test false q = absurd (cc (q))

pub plain : (f : ℕ → ℕ) (k : TokenKind) → mark_of k ≡ Stays → GoesBy f f (token k)
plain f k e = token-with f f Stays (λ d more. refl) k e

pub opening : (f : ℕ → ℕ) (k : TokenKind) → mark_of k ≡ Opens → GoesBy f (up f) (token k)
opening f k e = token-with f (up f) Opens (λ d more. refl) k e

pub closing : (f : ℕ → ℕ) (k : TokenKind) → mark_of k ≡ Closes → GoesBy (up f) f (token k)
closing f k e = token-with (up f) f Closes (λ d more. refl) k e

pub comma-goes : (f : ℕ → ℕ) → GoesBy (up f) (up f) (token comma)
comma-goes f = token-with (up f) (up f) Parts (λ d more. refl) comma refl

-- which leave a level open for the tree, and bracket or not
opens-goes : (f : ℕ → ℕ) (floor : ℕ → ℕ) (n at : ℕ) → GoesBy f f (opens floor n at)
opens-goes f floor n at ts u rest h = stays f ts rest h.1.1

pub opener-with : (f g : ℕ → ℕ) (floor : ℕ → ℕ) (n : ℕ) (k : TokenKind) → GoesBy f g (token k) → GoesBy f g (opener floor n k)
opener-with f g floor n k u = seq f g g (token k) _ u (λ at. seq g g g (opens floor n at) _ (opens-goes g floor n at) (λ _. done g at))

pub name-goes : Steady name
name-goes f [] x rest h = absurd h
name-goes f (t ∷ ts) x rest h = one-token f f Stays (λ d more. refl) t ts rest (by_kind t.kind h.0) h.1
  where
    by_kind : (k : TokenKind) → name_of t.at k ≡ Some x → mark_of k ≡ Stays
    by_kind (Ident bytes) e = refl
    by_kind (Number n) e = absurd (cc (e))
    by_kind (Sign i) e = absurd (cc (e))
    by_kind (Reserved i) e = absurd (cc (e))

pub number-goes : Steady number
number-goes f [] x rest h = absurd h
number-goes f (t ∷ ts) x rest h = one-token f f Stays (λ d more. refl) t ts rest (by_kind t.kind h.0) h.1
  where
    by_kind : (k : TokenKind) → with_place t.at (number_of k) ≡ Some x → mark_of k ≡ Stays
    by_kind (Number n) e = refl
    by_kind (Ident bytes) e = absurd (cc (e))
    by_kind (Sign i) e = absurd (cc (e))
    by_kind (Reserved i) e = absurd (cc (e))

pub same_name-goes : (w : Word) → Steady (same_name w)
same_name-goes w f = seq f f f name _ (name-goes f) (λ v ts u rest h. stays f ts rest h.1.1)

-- signs and words without a mark
abbrev pub AllStay : {A : Type 0} → List (TokenKind × A) → Type 0
AllStay [] = Unit {0}
AllStay (entry ∷ more) = (mark_of entry.0 ≡ Stays) × AllStay more

found-stays : {A : Type 0} (list : List (TokenKind × A)) → AllStay list → (k : TokenKind) (a : A) → found list k ≡ Some a → mark_of k ≡ Stays
found-stays [] all k a e = absurd (cc (e))
found-stays (entry ∷ more) all k a e = by_test (same_kind k entry.0) refl (found-stays more all.1 k a) e
  where
    by_test : (b : Bool) → same_kind k entry.0 ≡ b → (found more k ≡ Some a → mark_of k ≡ Stays) → (if b then Some entry.1 else found more k) ≡ Some a → mark_of k ≡ Stays
    by_test true same rest q = ap mark_of (kind-is entry.0 k same) ∙ all.0
    by_test false same rest q = rest q

pub one_of-goes : {A : Type 0} (list : List (TokenKind × A)) → AllStay list → Steady (one_of list)
one_of-goes list all f [] x rest h = absurd h
one_of-goes {A} list all f (t ∷ ts) x rest h = one-token f f Stays (λ d more. refl) t ts rest (by_found (found list t.kind) refl h.0) h.1
  where
    by_found : (o : Option A) → found list t.kind ≡ o → with_place t.at o ≡ Some x → mark_of t.kind ≡ Stays
    by_found None e q = absurd (cc (q))
    by_found (Some v) e q = found-stays list all t.kind v e

pub separated-goes : {A : Type 0} (f : ℕ → ℕ) (r : Rule A) → GoesBy (up f) (up f) r → GoesBy (up f) (up f) (separated r)
separated-goes f r u = seq (up f) (up f) (up f) r _ u (λ x. seq (up f) (up f) (up f) (many (token comma >> r)) _ (many-goes (up f) (token comma >> r) (seq (up f) (up f) (up f) (token comma) _ (comma-goes f) (λ _. u))) (λ more. done (up f) (x ∷ more)))
