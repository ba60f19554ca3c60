-- Marks that are apart, and lists of marks in one another, by computing.
use Rattle.std.proofs.Common.{◌≡◌, Bool, true, false, not, ◌&&◌, ◌||◌, List, [], ◌∷◌, Option, Some, None, refl, sym, ◌∙◌, ap, subst}
use Rattle.std.proofs.lemmas.Bool.{eqb-true}
use Rattle.smv_core.specs.declared.token.Token.{Token}
use Rattle.smv_core.specs.declared.token.TokenKind.{TokenKind}
use Rattle.smv_core.specs.declared.token.TokenKind.TheVariants.{Ident, Number, Sign, Reserved}
use Rattle.smv_core.specs.Notation.{Tokens, same_kind}
use Rattle.law_grammar.specs.Parsing.{starts}
use Rattle.law_grammar.specs.Lawful.{first}
use Rattle.law_grammar.specs.Marks.{Mark, any_name, any_number, exactly, is_mark, has_mark, begins, stops_by}

abbrev pub same_mark : Mark → Mark → Bool
same_mark any_name any_name = true
same_mark any_number any_number = true
same_mark (exactly j) (exactly k) = same_kind j k
same_mark x y = false

abbrev pub among : Mark → List Mark → Bool
among x [] = false
among x (y ∷ ys) = same_mark x y || among x ys

-- no mark of the first list is in the second
abbrev pub apart : List Mark → List Mark → Bool
apart [] ys = true
apart (x ∷ xs) ys = not (among x ys) && apart xs ys

-- each mark of the first list is in the second
abbrev pub covered : List Mark → List Mark → Bool
covered [] ys = true
covered (x ∷ xs) ys = among x ys && covered xs ys

kind-is : (j k : TokenKind) → same_kind j k ≡ true → j ≡ k
kind-is (Sign i) (Sign j) e = ap Sign (eqb-true i j e)
kind-is (Reserved i) (Reserved j) e = ap Reserved (eqb-true i j e)
kind-is (Sign i) (Reserved j) e = absurd cc
kind-is (Sign i) (Ident j) e = absurd cc
kind-is (Sign i) (Number j) e = absurd cc
kind-is (Reserved i) (Sign j) e = absurd cc
kind-is (Reserved i) (Ident j) e = absurd cc
kind-is (Reserved i) (Number j) e = absurd cc
kind-is (Ident i) j e = absurd cc
kind-is (Number i) j e = absurd cc

-- a kind that passes its own test as a sign or word
self : (j k : TokenKind) → same_kind k j ≡ true → same_kind j j ≡ true
self j k e = let h : k ≡ j = kind-is k j e in let P : TokenKind → Type 0 = λ i. same_kind i j ≡ true in subst P h e

both : (x y : Mark) (k : TokenKind) → is_mark x k ≡ true → is_mark y k ≡ true → same_mark x y ≡ true
both any_name any_name k e f = refl
both any_name any_number (Ident i) e f = absurd cc
both any_name any_number (Number i) e f = absurd cc
both any_name any_number (Sign i) e f = absurd cc
both any_name any_number (Reserved i) e f = absurd cc
both any_name (exactly j) (Ident i) e f = absurd cc
both any_name (exactly j) (Number i) e f = absurd cc
both any_name (exactly j) (Sign i) e f = absurd cc
both any_name (exactly j) (Reserved i) e f = absurd cc
both any_number any_name (Ident i) e f = absurd cc
both any_number any_name (Number i) e f = absurd cc
both any_number any_name (Sign i) e f = absurd cc
both any_number any_name (Reserved i) e f = absurd cc
both any_number any_number k e f = refl
both any_number (exactly j) (Ident i) e f = absurd cc
both any_number (exactly j) (Number i) e f = absurd cc
both any_number (exactly j) (Sign i) e f = absurd cc
both any_number (exactly j) (Reserved i) e f = absurd cc
both (exactly i) any_name (Ident j) e f = absurd cc
both (exactly i) any_name (Number j) e f = absurd cc
both (exactly i) any_name (Sign j) e f = absurd cc
both (exactly i) any_name (Reserved j) e f = absurd cc
both (exactly i) any_number (Ident j) e f = absurd cc
both (exactly i) any_number (Number j) e f = absurd cc
both (exactly i) any_number (Sign j) e f = absurd cc
both (exactly i) any_number (Reserved j) e f = absurd cc
both (exactly i) (exactly j) k e f = let h : k ≡ i = kind-is k i e in let P : TokenKind → Type 0 = λ l. same_kind l j ≡ true in subst P h f

-- one mark is the other
moved : (x y : Mark) (k : TokenKind) → same_mark x y ≡ true → is_mark x k ≡ true → is_mark y k ≡ true
moved any_name any_name k e h = h
moved any_number any_number k e h = h
moved (exactly i) (exactly j) k e h = let q : i ≡ j = kind-is i j e in let P : TokenKind → Type 0 = λ l. same_kind k l ≡ true in subst P q h
moved any_name any_number k e h = absurd cc
moved any_name (exactly j) k e h = absurd cc
moved any_number any_name k e h = absurd cc
moved any_number (exactly j) k e h = absurd cc
moved (exactly i) any_name k e h = absurd cc
moved (exactly i) any_number k e h = absurd cc

not-among : (x : Mark) (ys : List Mark) (k : TokenKind) → is_mark x k ≡ true → not (among x ys) ≡ true → has_mark ys k ≡ false
not-among x [] k h e = refl
not-among x (y ∷ ys) k h e = go (λ e. not-among x ys k h e) (is_mark y k) refl (same_mark x y) refl e
  where
    go : (not (among x ys) ≡ true → has_mark ys k ≡ false) → (b : Bool) → is_mark y k ≡ b → (c : Bool) → same_mark x y ≡ c → not (c || among x ys) ≡ true → (is_mark y k || has_mark ys k) ≡ false
    go ih true q c r e = let s : same_mark x y ≡ true = both x y k h q in absurd (let t : true ≡ c = sym s ∙ r in cc)
    go ih false q true r e = absurd cc
    go ih false q false r e = rw q (ih e)

pub apart-begins : (xs ys : List Mark) (k : TokenKind) → apart xs ys ≡ true → has_mark xs k ≡ true → has_mark ys k ≡ false
apart-begins [] ys k e h = absurd cc
apart-begins (x ∷ xs) ys k e h = go (λ e h. apart-begins xs ys k e h) (is_mark x k) refl (not (among x ys)) refl e h
  where
    go : (apart xs ys ≡ true → has_mark xs k ≡ true → has_mark ys k ≡ false) → (b : Bool) → is_mark x k ≡ b → (c : Bool) → not (among x ys) ≡ c → (c && apart xs ys) ≡ true → (b || has_mark xs k) ≡ true → has_mark ys k ≡ false
    go ih b q false r e h = absurd cc
    go ih true q true r e h = not-among x ys k q r
    go ih false q true r e h = ih e h

among-mark : (x : Mark) (ys : List Mark) (k : TokenKind) → is_mark x k ≡ true → among x ys ≡ true → has_mark ys k ≡ true
among-mark x [] k h e = absurd cc
among-mark x (y ∷ ys) k h e = go (λ e. among-mark x ys k h e) (same_mark x y) refl (is_mark y k) refl e
  where
    go : (among x ys ≡ true → has_mark ys k ≡ true) → (c : Bool) → same_mark x y ≡ c → (b : Bool) → is_mark y k ≡ b → (c || among x ys) ≡ true → (is_mark y k || has_mark ys k) ≡ true
    go ih c r true q e = rw q refl
    go ih true r false q e = let s : is_mark y k ≡ true = moved x y k r h in absurd (let t : true ≡ false = sym s ∙ q in cc)
    go ih false r false q e = rw q (ih e)

pub covered-begins : (xs ys : List Mark) (k : TokenKind) → covered xs ys ≡ true → has_mark xs k ≡ true → has_mark ys k ≡ true
covered-begins [] ys k e h = absurd cc
covered-begins (x ∷ xs) ys k e h = go (λ e h. covered-begins xs ys k e h) (is_mark x k) refl (among x ys) refl e h
  where
    go : (covered xs ys ≡ true → has_mark xs k ≡ true → has_mark ys k ≡ true) → (b : Bool) → is_mark x k ≡ b → (c : Bool) → among x ys ≡ c → (c && covered xs ys) ≡ true → (b || has_mark xs k) ≡ true → has_mark ys k ≡ true
    go ih b q false r e h = absurd cc
    go ih true q true r e h = among-mark x ys k q r
    go ih false q true r e h = ih e h

pub covered-not : (xs ys : List Mark) (k : TokenKind) → covered xs ys ≡ true → not (has_mark ys k) ≡ true → has_mark xs k ≡ false
covered-not xs ys k e h = go (has_mark xs k) refl (has_mark ys k) refl h
  where
    go : (b : Bool) → has_mark xs k ≡ b → (c : Bool) → has_mark ys k ≡ c → not c ≡ true → has_mark xs k ≡ false
    go false q c r h = q
    go true q true r h = absurd cc
    go true q false r h = absurd (let s : has_mark ys k ≡ true = covered-begins xs ys k e q in let t : true ≡ false = sym s ∙ r in cc)

-- ---- on lists of tokens

-- the tokens begin with none of these marks
pub starts-not : (xs ys : List Mark) (ts : Tokens) → apart xs ys ≡ true → starts (begins xs) ts ≡ true → starts (begins ys) ts ≡ false
starts-not xs ys [] e h = refl
starts-not xs ys (t ∷ ts) e h = apart-begins xs ys t.kind e h

pub stops-starts : {A : Type 0} (ys : A → List Mark) (a : A) (xs : List Mark) (ts : Tokens) → apart xs (ys a) ≡ true → starts (begins xs) ts ≡ true → stops_by ys a (first ts) ≡ true
stops-starts ys a xs [] e h = refl
stops-starts ys a xs (t ∷ ts) e h = rw (apart-begins xs (ys a) t.kind e h) refl

pub stops-not : {A : Type 0} (ys : A → List Mark) (a : A) (xs : List Mark) (ts : Tokens) → covered xs (ys a) ≡ true → stops_by ys a (first ts) ≡ true → starts (begins xs) ts ≡ false
stops-not ys a xs [] e h = refl
stops-not ys a xs (t ∷ ts) e h = covered-not xs (ys a) t.kind e h

pub stops-more : {A B : Type 0} (xs : A → List Mark) (ys : B → List Mark) (a : A) (b : B) (t : Option Token) → covered (xs a) (ys b) ≡ true → stops_by ys b t ≡ true → stops_by xs a t ≡ true
stops-more xs ys a b None e h = refl
stops-more xs ys a b (Some t) e h = rw (covered-not (xs a) (ys b) t.kind e h) refl
