-- Rules that are made of local rules are local.
use Rattle.std.proofs.Common.{◌≡◌, ◌<◌, ◌≤◌, ℕ, List, [], ◌∷◌, ◌++◌, Option, Some, None, Bool, true, false, if◌then◌else◌, inl, inr, refl, sym, ap, ◌∙◌, subst, append_assoc, arith}
use Rattle.std.proofs.lemmas.List.{append_cancel_right}
use Rattle.std.specs.List.{AllZip}
use Rattle.law_lists.proofs.Lists.{head_is, tail_is}
use Rattle.smv_core.specs.Values.{Name}
use Rattle.smv_core.specs.declared.token.Token.{Token}
use Rattle.smv_core.specs.declared.token.TokenKind.{TokenKind}
use Rattle.smv_core.specs.declared.token.TokenKind.TheVariants.{Ident, Number, Sign, Reserved}
use Rattle.smv_core.specs.declared.tree.Word.{Word}
use Rattle.smv_core.specs.Signs.{comma}
use Rattle.smv_core.specs.Notation.{Tokens, Rule, never, nothing, ◌>>=◌, ◌>>◌, ◌<|>◌, many, optional, one, one_of, found, with_place, token, name, name_of, number, number_of, same_kind, same_name, separated, opens, opener}
use Rattle.law_spelled_alike.specs.Local.{kinds_of, AllKinds, AreOfKinds, IsLocalBy, kind_by, CutBy, Fronts, Any, NameBy, SameValue, Maybe}

-- ---- lists of tokens

pub kinds-append : (xs ys : Tokens) → kinds_of (xs ++ ys) ≡ kinds_of xs ++ kinds_of ys
kinds-append [] ys = refl
kinds-append (x ∷ xs) ys = ap (λ l. x.kind ∷ l) (kinds-append xs ys)

pub all-append : (P : TokenKind → Type 0) (xs ys : Tokens) → AllKinds P xs → AllKinds P ys → AllKinds P (xs ++ ys)
all-append P [] ys p q = q
all-append P (x ∷ xs) ys p q = (p.0, all-append P xs ys p.1 q)

-- tokens that are of the kinds of two lists are two such lists
pub cut : (us xs ys : Tokens) → AreOfKinds us (xs ++ ys) → CutBy AreOfKinds us xs ys
cut us [] ys e = record { left = []; right = us; split = refl; first = refl; second = e }
cut [] (x ∷ xs) ys e = absurd (cc)
cut (u ∷ us) (x ∷ xs) ys e =
    let i = cut us xs ys (tail_is e) in
    record {
      left = u ∷ i.left;
      right = i.right;
      split = ap (λ l. u ∷ l) i.split;
      first = ap (λ k. k ∷ kinds_of i.left) (head_is e) ∙ ap (λ l. x.kind ∷ l) i.first;
      second = i.second;
    }

-- a token of no name is of its own kind
kind-own : (k : TokenKind) → k ≡ kind_by (λ bytes. bytes) k
kind-own (Ident bytes) = refl
kind-own (Number value) = refl
kind-own (Sign i) = refl
kind-own (Reserved i) = refl

-- fronts of tokens of such kinds, and tokens of the same kinds
pub same_kinds : (P : TokenKind → Type 0) → Fronts P (AllKinds P) AreOfKinds (λ bytes. bytes)
same_kinds P = record {
  none = tt;
  single = λ t p. (p, tt);
  both = all-append P;
  related = λ xs e. (xs, refl);
  of_none = no-kinds;
  of_single = λ us t p e. one-kind us t e;
  parted = λ us xs ys e k. cut us xs ys k;
}
  where
    no-kinds : (us : Tokens) → AreOfKinds us [] → us ≡ []
    no-kinds [] e = refl
    no-kinds (u ∷ us) e = absurd (cc)

    one-kind : (us : Tokens) (t : Token) → AreOfKinds us (t ∷ []) → (u : Token) × (us ≡ u ∷ []) × (u.kind ≡ kind_by (λ bytes. bytes) t.kind)
    one-kind [] t e = absurd (cc)
    one-kind (u ∷ []) t e = (u, refl, head_is e ∙ kind-own t.kind)
    one-kind (u ∷ v ∷ us) t e = absurd (cc (tail_is e))

-- ---- signs keep their kinds

pub sign-kept : (n : Name → Name) (j k : TokenKind) → same_kind (kind_by n j) k ≡ same_kind j k
sign-kept n (Ident bytes) k = refl
sign-kept n (Number value) k = refl
sign-kept n (Sign i) k = refl
sign-kept n (Reserved i) k = refl

found-kept : {A : Type 0} (n : Name → Name) (list : List (TokenKind × A)) (k : TokenKind) → found list (kind_by n k) ≡ found list k
found-kept n [] k = refl
found-kept n (entry ∷ more) k = rw (sign-kept n k entry.0, found-kept n more k) refl

module _ {P : TokenKind → Type 0} {E : Tokens → Type 0} {K : Tokens → Tokens → Type 0} {n : Name → Name} (F : Fronts P E K n) where
  -- ---- nothing, one rule after another, and choices

  pub local-never : {A B : Type 0} (R : A → B → Type 0) (r' : Rule B) → IsLocalBy E K R never r'
  local-never R r' ts a rest h = absurd h

  pub local-nothing : {A B : Type 0} (R : A → B → Type 0) (a : A) (b : B) → R a b → IsLocalBy E K R (nothing a) (nothing b)
  local-nothing {A} {B} R a b p ts c rest h = record { front = []; split = h.1; each = F.none; again = again }
    where
      again : (us more : Tokens) → K us [] → (d : B) × nothing b (us ++ more) d more × R c d
      again us more e = (b, (refl, ap (λ l. l ++ more) (F.of_none us e)), subst (λ x. R x b) h.0 p)

  pub local-then : {A B C D : Type 0} (R : A → B → Type 0) (S : C → D → Type 0) (r : Rule A) (r' : Rule B) (s : A → Rule C) (s' : B → Rule D) → IsLocalBy E K R r r' → ((a : A) (b : B) → R a b → IsLocalBy E K S (s a) (s' b)) → IsLocalBy E K S (r >>= s) (r' >>= s')
  local-then R S r r' s s' f g ts c rest (a, middle, p, q) =
      let u = f ts a middle p in
      let other = F.related u.front u.each in
      let b = u.again other.0 [] other.1 in
      let v = g a b.0 b.2 middle c rest q in
      record {
        front = u.front ++ v.front;
        split = u.split ∙ (ap (λ z. u.front ++ z) v.split ∙ sym (append_assoc u.front v.front rest));
        each = F.both u.front v.front u.each v.each;
        again = λ us more e.
            let i = F.parted us u.front v.front u.each e in
            let x = u.again i.left (i.right ++ more) i.first in
            let w = g a x.0 x.2 middle c rest q in
            let same : v.front ≡ w.front = append_cancel_right v.front w.front rest (sym v.split ∙ w.split) in
            let y = w.again i.right more (subst (K i.right) same i.second) in
            (y.0, (x.0, i.right ++ more, subst (λ l. r' l x.0 (i.right ++ more)) (sym (append_assoc i.left i.right more) ∙ ap (λ l. l ++ more) (sym i.split)) x.1, y.1), y.2);
      }

  pub local-or : {A B : Type 0} (R : A → B → Type 0) (r s : Rule A) (r' s' : Rule B) → IsLocalBy E K R r r' → IsLocalBy E K R s s' → IsLocalBy E K R (r <|> s) (r' <|> s')
  local-or R r s r' s' f g ts a rest (inl p) = let u = f ts a rest p in record { front = u.front; split = u.split; each = u.each; again = λ us more e. let x = u.again us more e in (x.0, inl x.1, x.2) }
  local-or R r s r' s' f g ts a rest (inr p) = let u = g ts a rest p in record { front = u.front; split = u.split; each = u.each; again = λ us more e. let x = u.again us more e in (x.0, inr x.1, x.2) }

  -- ---- single tokens

  -- a token from which related values are read, whatever its place
  pub local-one : {A B : Type 0} (R : A → B → Type 0) (f : Token → Option A) (g : Token → Option B) → ((t : Token) (a : A) → f t ≡ Some a → P t.kind × ((u : Token) → u.kind ≡ kind_by n t.kind → (b : B) × (g u ≡ Some b) × R a b)) → IsLocalBy E K R (one f) (one g)
  local-one R f g h [] a rest p = absurd p
  local-one {A} {B} R f g h (t ∷ ts) a rest p = record { front = t ∷ []; split = ap (λ l. t ∷ l) p.1; each = F.single t (h t a p.0).0; again = again }
    where
      again : (us more : Tokens) → K us (t ∷ []) → (b : B) × one g (us ++ more) b more × R a b
      again us more e =
          let o = F.of_single us t (h t a p.0).0 e in
          let q = (h t a p.0).1 o.0 o.2 in
          (q.0, subst (λ l. one g (l ++ more) q.0 more) (sym o.1) (q.1, refl), q.2)

  pub local-token : (k : TokenKind) → ((j : TokenKind) → same_kind j k ≡ true → P j) → IsLocalBy E K Any (token k) (token k)
  local-token k h = local-one Any _ _ at'
    where
      at' : (t : Token) (a : ℕ) → (if same_kind t.kind k then Some t.at else None) ≡ Some a → P t.kind × ((u : Token) → u.kind ≡ kind_by n t.kind → (b : ℕ) × ((if same_kind u.kind k then Some u.at else None) ≡ Some b) × Unit {0})
      at' t a e = by_test (same_kind t.kind k) refl e
        where
          by_test : (x : Bool) → same_kind t.kind k ≡ x → (if x then Some t.at else None) ≡ Some a → P t.kind × ((u : Token) → u.kind ≡ kind_by n t.kind → (b : ℕ) × ((if same_kind u.kind k then Some u.at else None) ≡ Some b) × Unit {0})
          by_test true q e = (h t.kind q, λ u s. (u.at, ap (λ (b : Bool). if b then Some u.at else None) (ap (λ j. same_kind j k) s ∙ sign-kept n t.kind k ∙ q), tt))
          by_test false q e = absurd (cc)

  -- one of some signs and words, with the same value, of which something is known
  pub local-one_of : {A : Type 0} (Q : A → Type 0) (list : List (TokenKind × A)) → ((k : TokenKind) (a : A) → found list k ≡ Some a → P k × Q a) → IsLocalBy E K (λ (x y : A × ℕ). (x.0 ≡ y.0) × Q x.0) (one_of list) (one_of list)
  local-one_of {A} Q list h = local-one (λ (x y : A × ℕ). (x.0 ≡ y.0) × Q x.0) (λ (t : Token). with_place t.at (found list t.kind)) (λ (t : Token). with_place t.at (found list t.kind)) at'
    where
      at' : (t : Token) (a : A × ℕ) → with_place t.at (found list t.kind) ≡ Some a → P t.kind × ((u : Token) → u.kind ≡ kind_by n t.kind → (b : A × ℕ) × (with_place u.at (found list u.kind) ≡ Some b) × ((a.0 ≡ b.0) × Q a.0))
      at' t a e = by_found (found list t.kind) refl e
        where
          by_found : (x : Option A) → found list t.kind ≡ x → with_place t.at x ≡ Some a → P t.kind × ((u : Token) → u.kind ≡ kind_by n t.kind → (b : A × ℕ) × (with_place u.at (found list u.kind) ≡ Some b) × ((a.0 ≡ b.0) × Q a.0))
          by_found None q e = absurd (cc)
          by_found (Some v) q e = ((h t.kind v q).0, λ u s. ((v, u.at), ap (with_place u.at) (ap (found list) s ∙ found-kept n list t.kind ∙ q), (sym (some-first e), subst Q (some-first e) (h t.kind v q).1)))
            where
              some-first : Some (v, t.at) ≡ Some a → v ≡ a.0
              some-first r = ap (λ (o : Option (A × ℕ)). first o) r
                where
                  first : Option (A × ℕ) → A
                  first None = v
                  first (Some w) = w.0

  pub local-name : ((bytes : List ℕ) → P (Ident bytes)) → IsLocalBy E K (NameBy n) name name
  local-name h = local-one (NameBy n) (λ (t : Token). name_of t.at t.kind) (λ (t : Token). name_of t.at t.kind) at'
    where
      at' : (t : Token) (a : Word) → name_of t.at t.kind ≡ Some a → P t.kind × ((u : Token) → u.kind ≡ kind_by n t.kind → (b : Word) × (name_of u.at u.kind ≡ Some b) × (n a.name ≡ b.name))
      at' t a e = by_kind t.kind refl e
        where
          some-name : (x y : Word) → Some x ≡ Some y → x.name ≡ y.name
          some-name x y r = ap (λ (o : Option Word). first o) r
            where
              first : Option Word → List ℕ
              first None = x.name
              first (Some w) = w.name

          by_kind : (k : TokenKind) → t.kind ≡ k → name_of t.at k ≡ Some a → P t.kind × ((u : Token) → u.kind ≡ kind_by n t.kind → (b : Word) × (name_of u.at u.kind ≡ Some b) × (n a.name ≡ b.name))
          by_kind (Ident bytes) q e = (subst P (sym q) (h bytes), λ u s. (record { name = n bytes; at = u.at }, ap (name_of u.at) (s ∙ ap (kind_by n) q), ap n (sym (some-name (record { name = bytes; at = t.at }) a e))))
          by_kind (Number value) q e = absurd (cc)
          by_kind (Sign i) q e = absurd (cc)
          by_kind (Reserved i) q e = absurd (cc)

  pub local-number : ((value : ℕ) → P (Number value)) → IsLocalBy E K SameValue number number
  local-number h = local-one SameValue (λ (t : Token). with_place t.at (number_of t.kind)) (λ (t : Token). with_place t.at (number_of t.kind)) at'
    where
      at' : (t : Token) (a : ℕ × ℕ) → with_place t.at (number_of t.kind) ≡ Some a → P t.kind × ((u : Token) → u.kind ≡ kind_by n t.kind → (b : ℕ × ℕ) × (with_place u.at (number_of u.kind) ≡ Some b) × (a.0 ≡ b.0))
      at' t a e = by_kind t.kind refl e
        where
          some-value : (x y : ℕ × ℕ) → Some x ≡ Some y → x.0 ≡ y.0
          some-value x y r = ap (λ (o : Option (ℕ × ℕ)). first o) r
            where
              first : Option (ℕ × ℕ) → ℕ
              first None = x.0
              first (Some w) = w.0

          by_kind : (k : TokenKind) → t.kind ≡ k → with_place t.at (number_of k) ≡ Some a → P t.kind × ((u : Token) → u.kind ≡ kind_by n t.kind → (b : ℕ × ℕ) × (with_place u.at (number_of u.kind) ≡ Some b) × (a.0 ≡ b.0))
          by_kind (Number value) q e = (subst P (sym q) (h value), λ u s. ((value, u.at), ap (λ k. with_place u.at (number_of k)) (s ∙ ap (kind_by n) q), sym (some-value (value, t.at) a e)))
          by_kind (Ident bytes) q e = absurd (cc)
          by_kind (Sign i) q e = absurd (cc)
          by_kind (Reserved i) q e = absurd (cc)

  -- ---- lists

  pub local-many : {A B : Type 0} (R : A → B → Type 0) (r : Rule A) (r' : Rule B) → IsLocalBy E K R r r' → IsLocalBy E K (AllZip R) (many r) (many r')
  local-many {A} {B} R r r' f ts [] rest p = record { front = []; split = p; each = F.none; again = again }
    where
      again : (us more : Tokens) → K us [] → (bs : List B) × many r' (us ++ more) bs more × AllZip R [] bs
      again us more e = ([], ap (λ l. l ++ more) (F.of_none us e), tt)
  local-many R r r' f ts (a ∷ as') rest (middle, p, q) =
      let u = f ts a middle p in
      let v = local-many R r r' f middle as' rest q in
      record {
        front = u.front ++ v.front;
        split = u.split ∙ (ap (λ z. u.front ++ z) v.split ∙ sym (append_assoc u.front v.front rest));
        each = F.both u.front v.front u.each v.each;
        again = λ us more e.
            let i = F.parted us u.front v.front u.each e in
            let x = u.again i.left (i.right ++ more) i.first in
            let y = v.again i.right more i.second in
            (x.0 ∷ y.0, (i.right ++ more, subst (λ l. r' l x.0 (i.right ++ more)) (sym (append_assoc i.left i.right more) ∙ ap (λ l. l ++ more) (sym i.split)) x.1, y.1), (x.2, y.2));
      }

  pub local-optional : {A B : Type 0} (R : A → B → Type 0) (r : Rule A) (r' : Rule B) → IsLocalBy E K R r r' → IsLocalBy E K (Maybe R) (optional r) (optional r')
  local-optional R r r' f = local-or (Maybe R) _ (nothing None) _ (nothing None) (local-then R (Maybe R) r r' (λ a. nothing (Some a)) (λ b. nothing (Some b)) f (λ a b p. local-nothing (Maybe R) (Some a) (Some b) p)) (local-nothing (Maybe R) None None tt)

  -- a sign before it
  pub local-after : {A B : Type 0} (R : A → B → Type 0) (k : TokenKind) → ((j : TokenKind) → same_kind j k ≡ true → P j) → (r : Rule A) (r' : Rule B) → IsLocalBy E K R r r' → IsLocalBy E K R (token k >> r) (token k >> r')
  local-after R k h r r' f = local-then Any R (token k) (token k) (λ _. r) (λ _. r') (local-token k h) (λ a b p. f)

  pub local-separated : {A B : Type 0} (R : A → B → Type 0) → ((j : TokenKind) → same_kind j comma ≡ true → P j) → (r : Rule A) (r' : Rule B) → IsLocalBy E K R r r' → IsLocalBy E K (AllZip R) (separated r) (separated r')
  local-separated R h r r' f = local-then R (AllZip R) r r' _ _ f (λ x y p. local-then (AllZip R) (AllZip R) (many (token comma >> r)) (many (token comma >> r')) _ _ (local-many R (token comma >> r) (token comma >> r') (local-after R comma h r r' f)) (λ xs ys q. local-nothing (AllZip R) (x ∷ xs) (y ∷ ys) (p, q)))

  -- ---- levels

  pub local-opener : (i m : ℕ) → i ≤ m → (k : TokenKind) → ((j : TokenKind) → same_kind j k ≡ true → P j) → IsLocalBy E K Any (opener (λ at. 0) i k) (opener (λ at. 0) m k)
  local-opener i m le k h = local-then Any Any (token k) (token k) _ _ (local-token k h) (λ a b p. local-then Any Any (opens (λ at. 0) i a) (opens (λ at. 0) m b) _ _ (left a b) (λ c d q. local-nothing Any a b tt))
    where
      left : (a b : ℕ) → IsLocalBy E K Any (opens (λ at. 0) i a) (opens (λ at. 0) m b)
      left a b ts u rest h = record { front = []; split = h.1.1; each = F.none; again = again }
        where
          enough : 0 < m
          enough = let low = h.0 in omega (arith, low, le)

          again : (us more : Tokens) → K us [] → (v : Unit {0}) × opens (λ at. 0) m b (us ++ more) v more × Unit {0}
          again us more e = (tt, (enough, (refl, ap (λ l. l ++ more) (F.of_none us e))), tt)

  -- the name that was written before
  pub local-same_name : ((bytes : List ℕ) → P (Ident bytes)) → (x y : Word) → n x.name ≡ y.name → IsLocalBy E K Any (same_name x) (same_name y)
  local-same_name h x y same = local-then (NameBy n) Any name name _ _ (local-name h) at'
    where
      at' : (v w : Word) → n v.name ≡ w.name → IsLocalBy E K Any (λ ts u rest. (v.name ≡ x.name) × nothing v ts u rest) (λ ts u rest. (w.name ≡ y.name) × nothing w ts u rest)
      at' v w e ts u rest h = record { front = []; split = h.1.1; each = F.none; again = again }
        where
          again : (us more : Tokens) → K us [] → (z : Word) × ((w.name ≡ y.name) × nothing w (us ++ more) z more) × Unit {0}
          again us more q = (w, (sym e ∙ ap n h.0 ∙ same, (refl, ap (λ l. l ++ more) (F.of_none us q))), tt)

  -- a sign or word that opens a level before it
  pub local-open : {A B : Type 0} (R : A → B → Type 0) (i m : ℕ) → i ≤ m → (k : TokenKind) → ((j : TokenKind) → same_kind j k ≡ true → P j) → (r : Rule A) (r' : Rule B) → IsLocalBy E K R r r' → IsLocalBy E K R (opener (λ at. 0) i k >> r) (opener (λ at. 0) m k >> r')
  local-open R i m le k h r r' f = local-then Any R (opener (λ at. 0) i k) (opener (λ at. 0) m k) (λ _. r) (λ _. r') (local-opener i m le k h) (λ a b p. f)
