-- One claim's expression exchanged for another in the tokens of an item.
use Rattle.std.proofs.Common.{◌≡◌, ◌≤◌, ◌+◌, ◌⊎◌, inl, inr, ⊎_elim, ℕ, zero, suc, List, [], ◌∷◌, ◌++◌, map, Option, Some, None, Bool, true, false, if◌then◌else◌, refl, sym, ap, ◌∙◌, subst, append_assoc, arith}
use Rattle.std.proofs.lemmas.List.{append_cancel_right}
use Rattle.std.proofs.lemmas.Bool.{eqb-true}
use Rattle.std.specs.List.{AllZip}
use Rattle.smv_core.specs.declared.token.Token.{Token}
use Rattle.smv_core.specs.declared.token.TokenKind.{TokenKind}
use Rattle.smv_core.specs.declared.token.TokenKind.TheVariants.{Ident, Number, Sign, Reserved}
use Rattle.smv_core.specs.declared.tree.Word.{Word}
use Rattle.smv_core.specs.declared.tree.TypeExpr.{TypeExpr}
use Rattle.smv_core.specs.declared.tree.Expr.{Expr}
use Rattle.smv_core.specs.declared.tree.Stmt.{Stmt}
use Rattle.smv_core.specs.declared.tree.Item.{Item, Declare, Instance, Layer, Forall', Block', Claim, Split, Using, Act, Row_of-Item, end_of-Item, more_of-Item}
use Rattle.smv_core.specs.declared.tree.Item.TheVariants as item
use Rattle.smv_core.specs.declared.tree.Top.{Top}
use Rattle.smv_core.specs.declared.tree.Top.TheVariants.{SetType, Alias, Module}
use Rattle.smv_core.specs.Signs.{open_paren, close_paren, open_bracket, close_bracket, open_brace, close_brace, colon, semicolon}
use Rattle.smv_core.specs.Signs as w
use Rattle.smv_core.specs.Notation.{Tokens, Rule, nothing, ◌>>=◌, ◌>>◌, many, token, name, name_of, same_kind}
use Rattle.smv_core.specs.Grammar as g
use Rattle.smv_core.specs.Grammar.{Rules}
use Rattle.law_places.specs.Placeless.{placeless_word, placeless_item, placeless_top}
use Rattle.law_spelled_alike.specs.Local.{kinds_of, Taken, IsLocal, Any, SameName}
use Rattle.law_exchanged.specs.Claims.{IsHeaded, IsClosed}
use Rattle.law_exchanged.specs.Changed.{changed_item, changed_items, count_item, count_items, count_list, put_in, changed_top, count_top, count_tops}
use Rattle.law_spelled_alike.proofs.Combining.{all-append, cut, same_kinds, local-nothing, local-then, local-token, local-name, local-many, local-after, local-opener, local-open}
use Rattle.law_spelled_alike.proofs.Plain.{SameExpr}
use Rattle.smv_core.specs.declared.tree.Item.{items-the_row-Item, items_hidden-the_row-Item-1}
use Rattle.law_texts_spelled_alike.proofs.PlacelessStatements.{computing, items-list, items_in, placeless-item_Block}
use Rattle.law_texts_spelled_alike.proofs.Texts as t
use Rattle.law_texts_spelled_alike.proofs.Texts.{T, all, free, names, SameBinder, SameItem, SameTop}

-- ---- single tokens

-- a sign or word that is like another than `G` is no `G`
no_G : (k : TokenKind) → same_kind k w.word_G ≡ false → (j : TokenKind) → same_kind j k ≡ true → same_kind j w.word_G ≡ false
no_G (Sign i) h (Sign j) e = refl
no_G (Reserved i) h (Reserved j) e = rw (eqb-true j i e) h
no_G (Reserved i) h (Sign j) e = refl
no_G (Sign i) h (Reserved j) e = absurd (cc)
no_G k h (Ident bytes) e = refl
no_G k h (Number n) e = refl
no_G (Ident bytes) h (Sign j) e = refl
no_G (Number n) h (Sign j) e = refl
no_G (Ident bytes) h (Reserved j) e = absurd (cc)
no_G (Number n) h (Reserved j) e = absurd (cc)

token-is : (k : TokenKind) (ts : Tokens) (at : ℕ) (rest : Tokens) → token k ts at rest → (t : Token) × (ts ≡ t ∷ rest) × (same_kind t.kind k ≡ true)
token-is k [] at rest h = absurd h
token-is k (t ∷ ts) at rest h = (t, ap (λ l. t ∷ l) h.1, by_test (same_kind t.kind k) h.0)
  where
    by_test : (b : Bool) → (if b then Some t.at else None) ≡ Some at → b ≡ true
    by_test true e = refl
    by_test false e = absurd (cc (e))

name-is : (ts : Tokens) (x : Word) (rest : Tokens) → name ts x rest → (t : Token) × (ts ≡ t ∷ rest) × (t.at ≡ x.at) × (same_kind t.kind w.word_G ≡ false)
name-is [] x rest h = absurd h
name-is (t ∷ ts) x rest h = (t, ap (λ l. t ∷ l) h.1, by_kind t.kind h.0, no_word t.kind h.0)
  where
    by_kind : (k : TokenKind) → name_of t.at k ≡ Some x → t.at ≡ x.at
    by_kind (Ident bytes) e = ap (λ (o : Option Word). place o) e
      where
        place : Option Word → ℕ
        place None = t.at
        place (Some word) = word.at
    by_kind (Number n) e = absurd (cc (e))
    by_kind (Sign i) e = absurd (cc (e))
    by_kind (Reserved i) e = absurd (cc (e))

    no_word : (k : TokenKind) → name_of t.at k ≡ Some x → same_kind k w.word_G ≡ false
    no_word (Ident bytes) e = refl
    no_word (Number n) e = absurd (cc (e))
    no_word (Sign i) e = absurd (cc (e))
    no_word (Reserved i) e = absurd (cc (e))

headed-more : (word : Word) (xs ys : Tokens) → IsHeaded word ys → IsHeaded word (xs ++ ys)
headed-more word xs ys h = record {
  lead = xs ++ h.lead;
  name = h.name;
  head = h.head;
  last = h.last;
  split = ap (λ l. xs ++ l) h.split ∙ sym (append_assoc xs h.lead (h.name ∷ h.head ++ (h.last ∷ [])));
  place = h.place;
  no_G = h.no_G;
  is_G = h.is_G;
}

closed-more : (xs ys : Tokens) → IsClosed xs → IsClosed (xs ++ ys)
closed-more xs ys (t, more, e, k) = (t, more ++ ys, ap (λ l. l ++ ys) e, k)

module _ (test : Word → Bool) (gap : ℕ) where
  abbrev pub z : ℕ → ℕ
  z at = 0

  -- The tokens of the expression of a claim that passes the test stand in the middle of those that spell the value. Tokens of the same kinds around others that spell
  -- an expression, within more levels by the gap, spell a value in which that expression stands in its place.
  -- Of the tokens before that expression something is known.
  pub record PiercedBy {X A B : Type 0} (Q : Word → Tokens → Type 0) (S : Expr → A → B → Type 0) (r : X → Rule B) (ts : Tokens) (a : A) (rest : Tokens) : Type 0 where
    pub front : Tokens
    pub es : Tokens
    pub behind : Tokens
    pub split : ts ≡ front ++ (es ++ (behind ++ rest))
    pub word : Word
    pub body : Expr
    pub chosen : test word ≡ true
    pub headed : Q word front
    pub closed : IsClosed behind
    pub levels : ℕ
    pub more_levels : ℕ
    pub apart : more_levels ≡ levels + gap
    pub spelled : g.expr_rule z levels (g.below z levels) (es ++ (behind ++ rest)) body (behind ++ rest)
    pub again : (x : X) (us vs ws more : Tokens) → kinds_of us ≡ kinds_of front → kinds_of ws ≡ kinds_of behind → (y : Expr) → ((q : Tokens) → g.expr_rule z more_levels (g.below z more_levels) (vs ++ q) y q) →
        (b : B) × r x (us ++ (vs ++ (ws ++ more))) b more × S y a b

  -- the tokens before it end with the claim's head
  abbrev pub Pierced : {X A B : Type 0} → (Expr → A → B → Type 0) → (X → Rule B) → Tokens → A → Tokens → Type 0
  Pierced {X} {A} {B} S r ts a rest = PiercedBy {X = X} {A = A} {B = B} IsHeaded S r ts a rest

  prefix-by : {X A B C D : Type 0} (Q : Word → Tokens → Type 0) → ((word : Word) (xs ys : Tokens) → Q word ys → Q word (xs ++ ys)) → (R : A → B → Type 0) (S : Expr → C → D → Type 0) (r : Rule A) (r' : Rule B) (s' : X → B → Rule D) → IsLocal T R r r' → (ts : Tokens) (a : A) (middle : Tokens) → r ts a middle → (c : C) (rest : Tokens) →
      PiercedBy {X = X × ((b : B) × R a b)} Q S (λ x. s' x.0 x.1.0) middle c rest → PiercedBy {X = X} Q S (λ x. r' >>= s' x) ts c rest
  prefix-by Q longer R S r r' s' f ts a middle p c rest v =
      let u = f ts a middle p in
      record {
        front = u.front ++ v.front;
        es = v.es;
        behind = v.behind;
        split = u.split ∙ (ap (λ l. u.front ++ l) v.split ∙ sym (append_assoc u.front v.front (v.es ++ (v.behind ++ rest))));
        word = v.word;
        body = v.body;
        chosen = v.chosen;
        headed = longer v.word u.front v.front v.headed;
        closed = v.closed;
        levels = v.levels;
        more_levels = v.more_levels;
        apart = v.apart;
        spelled = v.spelled;
        again = λ x us vs ws more e d y q.
            let i = cut us u.front v.front e in
            let b = u.again i.left (i.right ++ (vs ++ (ws ++ more))) i.first in
            let k = v.again (x, (b.0, b.2)) i.right vs ws more i.second d y q in
            (k.0, (b.0, i.right ++ (vs ++ (ws ++ more)), subst (λ l. r' l b.0 (i.right ++ (vs ++ (ws ++ more)))) (sym (append_assoc i.left i.right (vs ++ (ws ++ more))) ∙ ap (λ l. l ++ (vs ++ (ws ++ more))) (sym i.split)) b.1, k.1), k.2);
      }

  pub pierce-prefix : {X A B C D : Type 0} (R : A → B → Type 0) (S : Expr → C → D → Type 0) (r : Rule A) (r' : Rule B) (s' : X → B → Rule D) → IsLocal T R r r' → (ts : Tokens) (a : A) (middle : Tokens) → r ts a middle → (c : C) (rest : Tokens) →
      Pierced {X = X × ((b : B) × R a b)} S (λ x. s' x.0 x.1.0) middle c rest → Pierced {X = X} S (λ x. r' >>= s' x) ts c rest
  pierce-prefix R S r r' s' f ts a middle p c rest v = prefix-by IsHeaded headed-more R S r r' s' f ts a middle p c rest v

  pub pierce-suffix : {X A B C D : Type 0} (S : Expr → A → B → Type 0) (S' : Expr → C → D → Type 0) (r' : X → Rule B) (s : A → Rule C) (s' : X → B → Rule D) → ((a : A) → IsLocal T (λ (c c' : C). Unit {0}) (s a) (s a)) →
      ((x : X) (y : Expr) (a : A) (b : B) → S y a b → IsLocal T (S' y) (s a) (s' x b)) → (ts : Tokens) (a : A) (middle : Tokens) → Pierced {X = X} S r' ts a middle → (c : C) (rest : Tokens) → s a middle c rest → Pierced {X = X} S' (λ x. r' x >>= s' x) ts c rest
  pierce-suffix S S' r' s s' self f ts a middle v c rest p =
      let u = self a middle c rest p in
      let whole : v.behind ++ middle ≡ (v.behind ++ u.front) ++ rest = ap (λ l. v.behind ++ l) u.split ∙ sym (append_assoc v.behind u.front rest) in
      record {
        front = v.front;
        es = v.es;
        behind = v.behind ++ u.front;
        split = v.split ∙ ap (λ l. v.front ++ (v.es ++ l)) whole;
        word = v.word;
        body = v.body;
        chosen = v.chosen;
        headed = v.headed;
        closed = closed-more v.behind u.front v.closed;
        levels = v.levels;
        more_levels = v.more_levels;
        apart = v.apart;
        spelled = subst (λ l. g.expr_rule z v.levels (g.below z v.levels) (v.es ++ l) v.body l) whole v.spelled;
        again = λ x us vs ws more e d y q.
            let i = cut ws v.behind u.front d in
            let b = v.again x us vs i.left (i.right ++ more) e i.first y q in
            let k = f x y a b.0 b.2 middle c rest p in
            let same : u.front ≡ k.front = append_cancel_right u.front k.front rest (sym u.split ∙ k.split) in
            let n = k.again i.right more (i.second ∙ ap kinds_of same) in
            (n.0, (b.0, i.right ++ more, subst (λ l. r' x (us ++ (vs ++ l)) b.0 (i.right ++ more)) (sym (append_assoc i.left i.right more) ∙ ap (λ l. l ++ more) (sym i.split)) b.1, n.1), n.2);
      }

  -- ---- changed items

  abbrev put : Expr → Item → Item
  put y a = changed_item (put_in test y) a

  abbrev pub PutItem : Expr → Item → Item → Type 0
  PutItem y a b = placeless_item (put y a) ≡ placeless_item b

  abbrev pub PutItems : Expr → List Item → List Item → Type 0
  PutItems y xs ys = map (λ a. placeless_item (put y a)) xs ≡ map placeless_item ys

  one-or-other : (m n : ℕ) → m + n ≡ 1 → ((m ≡ 1) × (n ≡ 0)) ⊎ ((m ≡ 0) × (n ≡ 1))
  one-or-other zero n e = inr (refl, omega (arith, e))
  one-or-other (suc zero) n e = inl (refl, omega (arith, e))
  one-or-other (suc (suc m)) n e = absurd (omega (arith, e))

  mutual
    unfolding changed_item count_item

    unchanged : (y : Expr) (a : Item) → count_item test a ≡ 0 → put y a ≡ a
    unchanged y (Declare role words of at) e = refl
    unchanged y (Instance words m args at) e = refl
    unchanged y (Layer word body at) e = refl
    unchanged y (Forall' word over shape items at) e = ap (λ l. Forall' word over shape l at) (unchanged-row y items e)
    unchanged y (Block' shape items) e = ap (λ l. Block' shape l) (unchanged-row y items e)
    unchanged y (Claim word vars body at) e = by_test (test word) e
      where
        by_test : (b : Bool) → (let n : ℕ = if b then 1 else 0 in n ≡ 0) → Claim word vars (if b then y else body) at ≡ Claim word vars body at
        by_test false e = refl
        by_test true e = absurd (omega (arith, e))
    unchanged y (Split word vars of pairs at) e = refl
    unchanged y (Using uses proves at) e = refl
    unchanged y (Act act) e = refl

    unchanged-row : {m : _} (y : Expr) (row : Row_of-Item m) → count_items test row ≡ 0 → changed_items (put_in test y) row ≡ row
    unchanged-row y end_of-Item e = refl
    unchanged-row y (more_of-Item a rest) e = rw (unchanged y a (omega (arith, e)), unchanged-row y rest (omega (arith, e))) refl

  unchanged-list : (y : Expr) (xs : List Item) → count_list test xs ≡ 0 → map (λ a. placeless_item (put y a)) xs ≡ map placeless_item xs
  unchanged-list y [] e = refl
  unchanged-list y (x ∷ xs) e = rw (unchanged y x (omega (arith, e)), unchanged-list y xs (omega (arith, e))) refl

  each-items : (xs ys : List Item) → AllZip SameItem xs ys → map placeless_item xs ≡ map placeless_item ys
  each-items [] [] p = refl
  each-items (x ∷ xs) (y ∷ ys) p = ap (λ v. v ∷ map placeless_item xs) p.0 ∙ ap (λ l. placeless_item y ∷ l) (each-items xs ys p.1)
  each-items [] (y ∷ ys) p = absurd p
  each-items (x ∷ xs) [] p = absurd p

  pub pierce-many : (q q' : Rule Item) → IsLocal T SameItem q q' → ((ts : Tokens) (a : Item) (rest : Tokens) → q ts a rest → count_item test a ≡ 1 → Pierced {X = Unit {0}} PutItem (λ _. q') ts a rest) →
      (ts : Tokens) (xs : List Item) (rest : Tokens) → many q ts xs rest → count_list test xs ≡ 1 → Pierced {X = Unit {0}} PutItems (λ _. many q') ts xs rest
  pierce-many q q' local pierce ts [] rest p e = absurd (omega (arith, e))
  pierce-many q q' local pierce ts (a ∷ xs) rest (middle, p, r) e = ⊎_elim here (λ c. there c (pierce-many q q' local pierce middle xs rest r c.1)) (one-or-other (count_item test a) (count_list test xs) e)
    where
      u : Taken T (AllZip SameItem) (many q') middle xs rest
      u = local-many all SameItem q q' local middle xs rest r

      here : (count_item test a ≡ 1) × (count_list test xs ≡ 0) → Pierced {X = Unit {0}} PutItems (λ _. many q') ts (a ∷ xs) rest
      here c =
          let v = pierce ts a middle p c.0 in
          let whole : v.behind ++ middle ≡ (v.behind ++ u.front) ++ rest = ap (λ l. v.behind ++ l) u.split ∙ sym (append_assoc v.behind u.front rest) in
          record {
            front = v.front;
            es = v.es;
            behind = v.behind ++ u.front;
            split = v.split ∙ ap (λ l. v.front ++ (v.es ++ l)) whole;
            word = v.word;
            body = v.body;
            chosen = v.chosen;
            headed = v.headed;
            closed = closed-more v.behind u.front v.closed;
            levels = v.levels;
            more_levels = v.more_levels;
            apart = v.apart;
            spelled = subst (λ l. g.expr_rule z v.levels (g.below z v.levels) (v.es ++ l) v.body l) whole v.spelled;
            again = λ x us vs ws more e d y k.
                let i = cut ws v.behind u.front d in
                let b = v.again tt us vs i.left (i.right ++ more) e i.first y k in
                let n = u.again i.right more i.second in (
                  b.0 ∷ n.0,
                  (i.right ++ more, subst (λ l. q' (us ++ (vs ++ l)) b.0 (i.right ++ more)) (sym (append_assoc i.left i.right more) ∙ ap (λ l. l ++ more) (sym i.split)) b.1, n.1),
                  ap (λ h. h ∷ map (λ o. placeless_item (put y o)) xs) b.2 ∙ ap (λ l. placeless_item b.0 ∷ l) (unchanged-list y xs c.1 ∙ each-items xs n.0 n.2),
                );
          }

      there : (count_item test a ≡ 0) × (count_list test xs ≡ 1) → Pierced {X = Unit {0}} PutItems (λ _. many q') middle xs rest → Pierced {X = Unit {0}} PutItems (λ _. many q') ts (a ∷ xs) rest
      there c v =
          let h = local ts a middle p in
          record {
            front = h.front ++ v.front;
            es = v.es;
            behind = v.behind;
            split = h.split ∙ (ap (λ l. h.front ++ l) v.split ∙ sym (append_assoc h.front v.front (v.es ++ (v.behind ++ rest))));
            word = v.word;
            body = v.body;
            chosen = v.chosen;
            headed = headed-more v.word h.front v.front v.headed;
            closed = v.closed;
            levels = v.levels;
            more_levels = v.more_levels;
            apart = v.apart;
            spelled = v.spelled;
            again = λ x us vs ws more e d y k.
                let i = cut us h.front v.front e in
                let b = h.again i.left (i.right ++ (vs ++ (ws ++ more))) i.first in
                let n = v.again tt i.right vs ws more i.second d y k in (
                  b.0 ∷ n.0,
                  (i.right ++ (vs ++ (ws ++ more)), subst (λ l. q' l b.0 (i.right ++ (vs ++ (ws ++ more)))) (sym (append_assoc i.left i.right (vs ++ (ws ++ more))) ∙ ap (λ l. l ++ (vs ++ (ws ++ more))) (sym i.split)) b.1, n.1),
                  ap (λ o. placeless_item o ∷ map (λ o. placeless_item (put y o)) xs) (unchanged y a c.0) ∙ ap (λ o. o ∷ map (λ o. placeless_item (put y o)) xs) b.2 ∙ ap (λ l. placeless_item b.0 ∷ l) n.2,
                );
          }

  -- ---- each kind of item

  changed-Forall : (f : Word → Expr → Expr) (v : Word) (over : TypeExpr) (body : Item) (at : ℕ) → changed_item f (item.Forall v over body at) ≡ item.Forall v over (changed_item f body) at
  unfolding changed_item computing
  changed-Forall f v over body at = refl

  count-Forall : (v : Word) (over : TypeExpr) (body : Item) (at : ℕ) → count_item test (item.Forall v over body at) ≡ count_item test body + 0
  unfolding count_item computing
  count-Forall v over body at = refl

  changed-row : (f : Word → Expr → Expr) (n : _) (row : Row_of-Item n) → items-the_row-Item n (changed_items f row) ≡ map (changed_item f) (items-the_row-Item n row)
  unfolding changed_item
  changed-row f n end_of-Item = refl
  changed-row f n (more_of-Item x rest) = ap (λ l. changed_item f x ∷ l) (changed-row f _ rest)

  count-row : (n : _) (row : Row_of-Item n) → count_items test row ≡ count_list test (items-the_row-Item n row)
  unfolding count_item
  count-row n end_of-Item = refl
  count-row n (more_of-Item x rest) = ap (λ k. count_item test x + k) (count-row _ rest)

  changed-Block : (f : Word → Expr → Expr) (items : List Item) → changed_item f (item.Block items) ≡ item.Block (map (changed_item f) items)
  unfolding changed_item
  changed-Block f items = sym (items-list _ (changed_items f (items_in (item.Block items)).1)) ∙ ap item.Block (changed-row f _ (items_in (item.Block items)).1 ∙ ap (map (changed_item f)) (items_hidden-the_row-Item-1 items))

  count-Block : (items : List Item) → count_item test (item.Block items) ≡ count_list test items
  unfolding count_item
  count-Block items = count-row _ (items_in (item.Block items)).1 ∙ ap (count_list test) (items_hidden-the_row-Item-1 items)

  changed-Claim : (f : Word → Expr → Expr) (x : Word) (vars : List Word) (body : Expr) (at : ℕ) → changed_item f (item.Claim x vars body at) ≡ item.Claim x vars (f x body) at
  unfolding changed_item computing
  changed-Claim f x vars body at = refl

  count-Claim : (x : Word) (vars : List Word) (body : Expr) (at : ℕ) → count_item test (item.Claim x vars body at) ≡ 1 → test x ≡ true
  unfolding count_item computing
  count-Claim x vars body at = by_test (test x) refl
    where
      by_test : (b : Bool) → test x ≡ b → (let n : ℕ = if b then 1 else 0 in n ≡ 1) → test x ≡ true
      by_test true q e = q
      by_test false q e = absurd (omega (arith, e))

  count-Split : (word : Word) (vars : List Word) (of : _) (pairs : _) (at : ℕ) → count_item test (item.Split word vars of pairs at) ≡ 1 → ⊥
  unfolding count_item computing
  count-Split word vars of pairs at e = omega (arith, e)

  count-Using : (us : _) (proves : _) (at : ℕ) → count_item test (item.Using us proves at) ≡ 1 → ⊥
  unfolding count_item computing
  count-Using us proves at e = omega (arith, e)

  count-Act : (act : Stmt) → count_item test (item.Act act) ≡ 1 → ⊥
  unfolding count_item computing
  count-Act act e = omega (arith, e)

  count-Declare : (role : _) (names' : List Word) (of : TypeExpr) (at : ℕ) → count_item test (item.Declare role names' of at) ≡ 1 → ⊥
  unfolding count_item computing
  count-Declare role names' of at e = omega (arith, e)

  count-Instance : (names' : List Word) (m : Word) (args : List Expr) (at : ℕ) → count_item test (item.Instance names' m args at) ≡ 1 → ⊥
  unfolding count_item computing
  count-Instance names' m args at e = omega (arith, e)

  count-Layer : (word : Word) (body : List Stmt) (at : ℕ) → count_item test (item.Layer word body at) ≡ 1 → ⊥
  unfolding count_item computing
  count-Layer word body at e = omega (arith, e)

  pierce-lift : {X A B : Type 0} (S : Expr → A → B → Type 0) (r : Rule B) (ts : Tokens) (a : A) (rest : Tokens) → Pierced {X = Unit {0}} S (λ _. r) ts a rest → Pierced {X = X} S (λ _. r) ts a rest
  pierce-lift S r ts a rest v = record {
    front = v.front;
    es = v.es;
    behind = v.behind;
    split = v.split;
    word = v.word;
    body = v.body;
    chosen = v.chosen;
    headed = v.headed;
    closed = v.closed;
    levels = v.levels;
    more_levels = v.more_levels;
    apart = v.apart;
    spelled = v.spelled;
    again = λ x us vs ws more e d y k. v.again tt us vs ws more e d y k;
  }

  pierce-into : {X A B : Type 0} (S : Expr → A → B → Type 0) (r s : X → Rule B) → ((x : X) (us : Tokens) (b : B) (more : Tokens) → r x us b more → s x us b more) → (ts : Tokens) (a : A) (rest : Tokens) → Pierced {X = X} S r ts a rest → Pierced {X = X} S s ts a rest
  pierce-into S r s f ts a rest v = record {
    front = v.front;
    es = v.es;
    behind = v.behind;
    split = v.split;
    word = v.word;
    body = v.body;
    chosen = v.chosen;
    headed = v.headed;
    closed = v.closed;
    levels = v.levels;
    more_levels = v.more_levels;
    apart = v.apart;
    spelled = v.spelled;
    again = λ x us vs ws more e d y k. let b = v.again x us vs ws more e d y k in (b.0, f x (us ++ (vs ++ (ws ++ more))) b.0 more b.1, b.2);
  }

  -- no token is `G`
  abbrev NotG : TokenKind → Type 0
  NotG k = same_kind k w.word_G ≡ false

  brackets-local : (n : ℕ) (inner : Rules) → IsLocal NotG SameName (g.in_brackets z n inner) (g.in_brackets z n inner)
  brackets-local n inner = local-open (same_kinds NotG) SameName n n (omega arith) open_bracket (no_G open_bracket refl) _ _
      (local-then (same_kinds NotG) SameName SameName name name _ _ (local-name (same_kinds NotG) (λ bytes. refl)) (λ x y p. local-after (same_kinds NotG) SameName close_bracket (no_G close_bracket refl) _ _ (local-nothing (same_kinds NotG) SameName x y p)))

  module _ (n m : ℕ) (apart : m ≡ n + gap) where
    abbrev inner : Rules
    inner = g.below z n

    abbrev other : Rules
    other = g.below z m

    le : n ≤ m
    le = omega (arith, apart)

    l : t.InnerRules inner other
    l = t.inner-rules n m le

    -- behind the `G` of a claim
    core : {X : Type 0} (x : Word) (vars : List Word) (nm : X → Word) (vs : X → List Word) → ((k : X) → x.name ≡ (nm k).name) → ((k : X) → AllZip SameName vars (vs k)) → (ts : Tokens) (a : Item) (rest : Tokens) →
        (g.expr_rule z n inner >>= λ body. token semicolon >> nothing (item.Claim x vars body x.at)) ts a rest → count_item test a ≡ 1 →
        PiercedBy {X = X} (λ word front. Unit {0}) PutItem (λ k. g.expr_rule z m other >>= λ body. token semicolon >> nothing (item.Claim (nm k) (vs k) body (nm k).at)) ts a rest
    core {X} x vars nm vs same sames ts a rest (body, mid, p, (at, mid2, q, (eq, r))) e = record {
      front = [];
      es = u.front;
      behind = v.front;
      split = u.split ∙ ap (λ o. u.front ++ o) whole;
      word = x;
      body = body;
      chosen = chosen;
      headed = tt;
      closed = let s = token-is semicolon mid at mid2 q in (s.0, [], append_cancel_right v.front (s.0 ∷ []) mid2 (sym v.split ∙ s.1), s.2);
      levels = n;
      more_levels = m;
      apart = apart;
      spelled = subst (λ o. g.expr_rule z n inner (u.front ++ o) body o) whole (subst (λ o. g.expr_rule z n inner o body mid) u.split p);
      again = again;
    }
      where
        u : Taken T SameExpr (g.expr_rule z m other) ts body mid
        u = t.local-expr n m le inner other l ts body mid p

        v : Taken T Any (token semicolon) mid at mid2
        v = local-token all semicolon (free semicolon) mid at mid2 q

        whole : mid ≡ v.front ++ rest
        whole = v.split ∙ ap (λ o. v.front ++ o) r

        chosen : test x ≡ true
        chosen = count-Claim x vars body x.at (ap (count_item test) eq ∙ e)

        again : (k : X) (us ws ys more : Tokens) → kinds_of us ≡ [] → kinds_of ys ≡ kinds_of v.front → (y : Expr) → ((o : Tokens) → g.expr_rule z m other (ws ++ o) y o) →
            (b : Item) × (g.expr_rule z m other >>= λ body. token semicolon >> nothing (item.Claim (nm k) (vs k) body (nm k).at)) (us ++ (ws ++ (ys ++ more))) b more × PutItem y a b
        again k [] ws ys more c d y f =
            let h = v.again ys more d in (
              item.Claim (nm k) (vs k) y (nm k).at,
              (y, ys ++ more, f (ys ++ more), (h.0, more, h.1, (refl, refl))),
              ap (λ o. placeless_item (put y o)) (sym eq) ∙ ap placeless_item (changed-Claim (put_in test y) x vars body x.at ∙ ap (λ b. item.Claim x vars (if b then y else body) x.at) chosen) ∙ t.claim-same n m le inner other l x (nm k) vars (vs k) y y (same k) (sames k) refl,
            )
        again k (s ∷ us) ws ys more c d y f = absurd (cc)

    -- a claim, with its head
    module _ (ts : Tokens) (a : Item) (rest : Tokens) (x : Word) (m0 : Tokens) (p0 : name ts x m0) (vars : List Word) (m1 : Tokens) (p1 : many (g.in_brackets z n inner) m0 vars m1) (c : ℕ) (m2 : Tokens) (p2 : token colon m1 c m2) (s : ℕ) (m3 : Tokens) (p3 : token w.word_assert m2 s m3) (h : ℕ) (m4 : Tokens) (p4 : token w.word_G m3 h m4)
        (tail : (g.expr_rule z n inner >>= λ body. token semicolon >> nothing (item.Claim x vars body x.at)) m4 a rest) (e : count_item test a ≡ 1) where
      abbrev free_front : Word → Tokens → Type 0
      free_front word front = Unit {0}

      longer : (word : Word) (xs ys : Tokens) → free_front word ys → free_front word (xs ++ ys)
      longer word xs ys k = tt

      abbrev Heads : Type 0
      Heads = ((((Unit {0} × ((b : Word) × SameName x b)) × ((b : List Word) × AllZip SameName vars b)) × ((b : ℕ) × Any c b)) × ((b : ℕ) × Any s b)) × ((b : ℕ) × Any h b)

      abbrev name_in : Heads → Word
      name_in k = k.0.0.0.0.1.0

      abbrev vars_in : Heads → List Word
      vars_in k = k.0.0.0.1.0

      abbrev v5 : PiercedBy {X = Heads} free_front PutItem (λ k. g.expr_rule z m other >>= λ body. token semicolon >> nothing (item.Claim (name_in k) (vars_in k) body (name_in k).at)) m4 a rest
      v5 = core {X = Heads} x vars name_in vars_in (λ k. k.0.0.0.0.1.1) (λ k. k.0.0.0.1.1) m4 a rest tail e

      abbrev v : PiercedBy {X = Unit {0}} free_front PutItem (λ _. g.claim z m other) ts a rest
      v =
          prefix-by free_front longer SameName PutItem name name _ names ts x m0 p0 a rest
          (prefix-by free_front longer (AllZip SameName) PutItem (many (g.in_brackets z n inner)) (many (g.in_brackets z m other)) _ (local-many all SameName _ _ (t.local-in_brackets n m le inner other l)) m0 vars m1 p1 a rest
          (prefix-by free_front longer Any PutItem (token colon) (token colon) _ (local-token all colon (free colon)) m1 c m2 p2 a rest
          (prefix-by free_front longer Any PutItem (token w.word_assert) (token w.word_assert) _ (local-token all w.word_assert (free w.word_assert)) m2 s m3 p3 a rest
          (prefix-by free_front longer Any PutItem (token w.word_G) (token w.word_G) _ (local-token all w.word_G (free w.word_G)) m3 h m4 p4 a rest v5))))

      brackets : Taken NotG (AllZip SameName) (many (g.in_brackets z n inner)) m0 vars m1
      brackets = local-many (same_kinds NotG) SameName _ _ (brackets-local n inner) m0 vars m1 p1

      headed : IsHeaded x v.front
      unfolding prefix-by core
      headed =
          let t0 = name-is ts x m0 p0 in
          let t1 = token-is colon m1 c m2 p2 in
          let t2 = token-is w.word_assert m2 s m3 p3 in
          let t3 = token-is w.word_G m3 h m4 p4 in
          let tail_is : m1 ≡ t1.0 ∷ t2.0 ∷ t3.0 ∷ m4 = t1.1 ∙ ap (λ l. t1.0 ∷ l) (t2.1 ∙ ap (λ l. t2.0 ∷ l) t3.1) in
          let whole : ts ≡ t0.0 ∷ brackets.front ++ (t1.0 ∷ t2.0 ∷ t3.0 ∷ m4) = t0.1 ∙ ap (λ l. t0.0 ∷ l) (brackets.split ∙ ap (λ l. brackets.front ++ l) tail_is) in
          let own : Tokens = t0.0 ∷ (brackets.front ++ (t1.0 ∷ t2.0 ∷ [])) ++ (t3.0 ∷ []) in
          let parted : own ++ m4 ≡ ts = ap (λ l. t0.0 ∷ l) (append_assoc (brackets.front ++ (t1.0 ∷ t2.0 ∷ [])) (t3.0 ∷ []) m4 ∙ append_assoc brackets.front (t1.0 ∷ t2.0 ∷ []) (t3.0 ∷ m4)) ∙ sym whole in
          record {
            lead = [];
            name = t0.0;
            head = brackets.front ++ (t1.0 ∷ t2.0 ∷ []);
            last = t3.0;
            split = append_cancel_right v.front own m4 (ap (λ l. v.front ++ l) v5.split ∙ sym v.split ∙ sym parted);
            place = t0.2;
            no_G = (t0.3, all-append NotG brackets.front (t1.0 ∷ t2.0 ∷ []) brackets.each (no_G colon refl t1.0.kind t1.2, (no_G w.word_assert refl t2.0.kind t2.2, tt)));
            is_G = t3.2;
          }

      claim-of : Pierced {X = Unit {0}} PutItem (λ _. g.claim z m other) ts a rest
      unfolding prefix-by core
      claim-of =
          record {
            front = v.front;
            es = v.es;
            behind = v.behind;
            split = v.split;
            word = v.word;
            body = v.body;
            chosen = v.chosen;
            headed = headed;
            closed = v.closed;
            levels = v.levels;
            more_levels = v.more_levels;
            apart = v.apart;
            spelled = v.spelled;
            again = v.again;
          }

    pierced-claim : (ts : Tokens) (a : Item) (rest : Tokens) → g.claim z n inner ts a rest → count_item test a ≡ 1 → Pierced {X = Unit {0}} PutItem (λ _. g.claim z m other) ts a rest
    pierced-claim ts a rest (x, m0, p0, (vars, m1, p1, (c, m2, p2, (s, m3, p3, (h, m4, p4, tail))))) e = claim-of ts a rest x m0 p0 vars m1 p1 c m2 p2 s m3 p3 h m4 p4 tail e

    abbrev IsDeeper : Type 0
    IsDeeper = (ts : Tokens) (a : Item) (rest : Tokens) → inner.item ts a rest → count_item test a ≡ 1 → Pierced {X = Unit {0}} PutItem (λ _. other.item) ts a rest

    module _ (deeper : IsDeeper) where
      pierced-forall : (ts : Tokens) (a : Item) (rest : Tokens) → (g.opening z n inner w.word_forall >>= λ at. inner.binder >>= λ b. inner.item >>= λ body. nothing (item.Forall b.0 b.1 body at)) ts a rest → count_item test a ≡ 1 →
          Pierced {X = Unit {0}} PutItem (λ _. g.opening z m other w.word_forall >>= λ at. other.binder >>= λ b. other.item >>= λ body. nothing (item.Forall b.0 b.1 body at)) ts a rest
      pierced-forall ts a rest (at, m0, p0, (b, m1, p1, (body, m2, p2, (eq, r)))) e =
          pierce-prefix Any PutItem _ _ _ (local-opener all n m le w.word_forall (free w.word_forall)) ts at m0 p0 a rest
          (pierce-prefix SameBinder PutItem inner.binder other.binder _ l.binder m0 b m1 p1 a rest
          (pierce-suffix PutItem PutItem (λ _. other.item) (λ body. nothing (item.Forall b.0 b.1 body at)) (λ k body. nothing (item.Forall k.1.0.0 k.1.0.1 body k.0.1.0))
          (λ x. local-nothing all (λ (c c' : Item). Unit {0}) (item.Forall b.0 b.1 x at) (item.Forall b.0 b.1 x at) tt)
          (λ k y x d h. local-nothing all (PutItem y) (item.Forall b.0 b.1 x at) (item.Forall k.1.0.0 k.1.0.1 d k.0.1.0) (same y b k.1.0 x d at k.0.1.0 k.1.1 h))
          m1 body m2 (pierce-lift PutItem other.item m1 body m2 (deeper m1 body m2 p2 one)) a rest (eq, r)))
        where
          one : count_item test body ≡ 1
          one = let h : count_item test body + 0 ≡ 1 = sym (count-Forall b.0 b.1 body at) ∙ ap (count_item test) eq ∙ e in omega (arith, h)

          same : (y : Expr) (b c : Word × TypeExpr) (x d : Item) (at at' : ℕ) → SameBinder b c → PutItem y x d → PutItem y (item.Forall b.0 b.1 x at) (item.Forall c.0 c.1 d at')
          same y b c x d at at' p h = ap placeless_item (changed-Forall (put_in test y) b.0 b.1 x at) ∙ t.item_forall-same n m le inner other l b c (put y x) d at at' p h

      put-same : (y : Expr) (xs : List Item) → map placeless_item (map (put y) xs) ≡ map (λ a. placeless_item (put y a)) xs
      put-same y [] = refl
      put-same y (x ∷ xs) = ap (λ o. placeless_item (put y x) ∷ o) (put-same y xs)

      pierced-block : (ts : Tokens) (a : Item) (rest : Tokens) → (g.opening z n inner open_brace >> many inner.item >>= λ items. token close_brace >> nothing (item.Block items)) ts a rest → count_item test a ≡ 1 →
          Pierced {X = Unit {0}} PutItem (λ _. g.opening z m other open_brace >> many other.item >>= λ items. token close_brace >> nothing (item.Block items)) ts a rest
      pierced-block ts a rest (at, m0, p0, (xs, m1, p1, (c, m2, p2, (eq, r)))) e =
          pierce-prefix Any PutItem _ _ _ (local-opener all n m le open_brace (free open_brace)) ts at m0 p0 a rest
          (pierce-suffix PutItems PutItem (λ _. many other.item) (λ items. token close_brace >> nothing (item.Block items)) (λ k items. token close_brace >> nothing (item.Block items))
          (λ x. local-after all (λ (c c' : Item). Unit {0}) close_brace (free close_brace) _ _ (local-nothing all (λ (c c' : Item). Unit {0}) (item.Block x) (item.Block x) tt))
          (λ k y x d h. local-after all (PutItem y) close_brace (free close_brace) _ _ (local-nothing all (PutItem y) (item.Block x) (item.Block d) (same y x d h)))
          m0 xs m1 (pierce-lift PutItems (many other.item) m0 xs m1 (pierce-many inner.item other.item l.item deeper m0 xs m1 p1 one)) a rest (c, m2, p2, (eq, r)))
        where
          one : count_list test xs ≡ 1
          one = sym (count-Block xs) ∙ ap (count_item test) eq ∙ e

          same : (y : Expr) (x d : List Item) → PutItems y x d → PutItem y (item.Block x) (item.Block d)
          same y x d h = ap placeless_item (changed-Block (put_in test y) x) ∙ placeless-item_Block (map (put y) x) ∙ ap (λ o. item.Block o) (put-same y x ∙ h) ∙ sym (placeless-item_Block d)

      pierced-item : (ts : Tokens) (a : Item) (rest : Tokens) → g.item_rule z n inner ts a rest → count_item test a ≡ 1 → Pierced {X = Unit {0}} PutItem (λ _. g.item_rule z m other) ts a rest
      pierced-item ts a rest (inl h) e = pierce-into PutItem _ _ (λ x us b more k. inl k) ts a rest (pierced-forall ts a rest h e)
      pierced-item ts a rest (inr (inl h)) e = pierce-into PutItem _ _ (λ x us b more k. inr (inl k)) ts a rest (pierced-block ts a rest h e)
      pierced-item ts a rest (inr (inr (inl h))) e = pierce-into PutItem _ _ (λ x us b more k. inr (inr (inl k))) ts a rest (pierced-claim ts a rest h e)
      pierced-item ts a rest (inr (inr (inr (inl (at, m0, p0, (x, m1, p1, (xs, m2, p2, (c, m3, p3, (s, m4, p4, (d, m5, p5, (ps, m6, p6, (k, m7, p7, (eq, r))))))))))))) e = absurd (count-Split x xs s ps at (ap (count_item test) eq ∙ e))
      pierced-item ts a rest (inr (inr (inr (inr (inl (at, m0, p0, (us, m1, p1, (c, m2, p2, (rs, m3, p3, (k, m4, p4, (eq, r))))))))))) e = absurd (count-Using us rs at (ap (count_item test) eq ∙ e))
      pierced-item ts a rest (inr (inr (inr (inr (inr (x, m0, p0, (eq, r))))))) e = absurd (count-Act x (ap (count_item test) eq ∙ e))

      pierced-body : (ts : Tokens) (a : Item) (rest : Tokens) → g.body_rule z n inner ts a rest → count_item test a ≡ 1 → Pierced {X = Unit {0}} PutItem (λ _. g.body_rule z m other) ts a rest
      pierced-body ts a rest (inl (inl (k, m0, p0, (xs, m1, p1, (c, m2, p2, (of, m3, p3, (s, m4, p4, (eq, r)))))))) e = absurd (count-Declare k.0 xs of k.1 (ap (count_item test) eq ∙ e))
      pierced-body ts a rest (inl (inr (xs, m1, p1, (c, m2, p2, (of, m3, p3, (s, m4, p4, (eq, r))))))) e = absurd (count-Declare _ xs of _ (ap (count_item test) eq ∙ e))
      pierced-body ts a rest (inr (inl (xs, m0, p0, (c, m1, p1, (x, m2, p2, (o, m3, p3, (es, m4, p4, (k, m5, p5, (s, m6, p6, (eq, r)))))))))) e = absurd (count-Instance xs x es _ (ap (count_item test) eq ∙ e))
      pierced-body ts a rest (inr (inr (inl (at, m0, p0, (x, m1, p1, (c, m2, p2, (o, m3, p3, (xs, m4, p4, (k, m5, p5, (eq, r)))))))))) e = absurd (count-Layer x xs at (ap (count_item test) eq ∙ e))
      pierced-body ts a rest (inr (inr (inr h))) e = pierce-into PutItem _ _ (λ x us b more k. inr (inr (inr k))) ts a rest (pierced-item ts a rest h e)

  deeper-items : (n m : ℕ) (apart : m ≡ n + gap) → IsDeeper n m apart
  deeper-items zero m apart = λ ts a rest h e. absurd h
  deeper-items (suc n) zero apart = absurd (omega (arith, apart))
  deeper-items (suc n) (suc m) apart = let low : m ≡ n + gap = omega (arith, apart) in pierced-item n m low (deeper-items n m low)

  deeper-bodies : (n m : ℕ) → m ≡ n + gap → (ts : Tokens) (a : Item) (rest : Tokens) → (g.below z n).body ts a rest → count_item test a ≡ 1 → Pierced {X = Unit {0}} PutItem (λ _. (g.below z m).body) ts a rest
  deeper-bodies zero m apart = λ ts a rest h e. absurd h
  deeper-bodies (suc n) zero apart = absurd (omega (arith, apart))
  deeper-bodies (suc n) (suc m) apart = let low : m ≡ n + gap = omega (arith, apart) in pierced-body n m low (deeper-items n m low)

  -- ---- tops

  module _ (within : Word → Bool) where
    abbrev put_top : Expr → Top → Top
    put_top y a = changed_top within (put_in test y) a

    abbrev pub PutTop : Expr → Top → Top → Type 0
    PutTop y a b = placeless_top (put_top y a) ≡ placeless_top b

    abbrev pub PutTops : Expr → List Top → List Top → Type 0
    PutTops y xs ys = map (λ a. placeless_top (put_top y a)) xs ≡ map placeless_top ys

    unchanged-body : (y : Expr) (xs : List Item) → count_list test xs ≡ 0 → map (put y) xs ≡ xs
    unchanged-body y [] e = refl
    unchanged-body y (x ∷ xs) e = rw (unchanged y x (omega (arith, e)), unchanged-body y xs (omega (arith, e))) refl

    unchanged-top : (y : Expr) (a : Top) → count_top within test a ≡ 0 → put_top y a ≡ a
    unchanged-top y (SetType word ordered span at) e = refl
    unchanged-top y (Alias word of at) e = refl
    unchanged-top y (Module word formals body at) e = ap (λ b. Module word formals b at) (by_test (within word) e)
      where
        by_test : (b : Bool) → (let n : ℕ = if b then count_list test body else 0 in n ≡ 0) → (if b then map (put y) body else body) ≡ body
        by_test false e = refl
        by_test true e = unchanged-body y body e

    unchanged-tops : (y : Expr) (xs : List Top) → count_tops within test xs ≡ 0 → map (λ a. placeless_top (put_top y a)) xs ≡ map placeless_top xs
    unchanged-tops y [] e = refl
    unchanged-tops y (x ∷ xs) e = rw (unchanged-top y x (omega (arith, e)), unchanged-tops y xs (omega (arith, e))) refl

    each-tops : (xs ys : List Top) → AllZip SameTop xs ys → map placeless_top xs ≡ map placeless_top ys
    each-tops [] [] p = refl
    each-tops (x ∷ xs) (y ∷ ys) p = ap (λ v. v ∷ map placeless_top xs) p.0 ∙ ap (λ l. placeless_top y ∷ l) (each-tops xs ys p.1)
    each-tops [] (y ∷ ys) p = absurd p
    each-tops (x ∷ xs) [] p = absurd p

    pub pierce-tops : (q q' : Rule Top) → IsLocal T SameTop q q' → ((ts : Tokens) (a : Top) (rest : Tokens) → q ts a rest → count_top within test a ≡ 1 → Pierced {X = Unit {0}} PutTop (λ _. q') ts a rest) →
        (ts : Tokens) (xs : List Top) (rest : Tokens) → many q ts xs rest → count_tops within test xs ≡ 1 → Pierced {X = Unit {0}} PutTops (λ _. many q') ts xs rest
    pierce-tops q q' local pierce ts [] rest p e = absurd (omega (arith, e))
    pierce-tops q q' local pierce ts (a ∷ xs) rest (middle, p, r) e = ⊎_elim here (λ c. there c (pierce-tops q q' local pierce middle xs rest r c.1)) (one-or-other (count_top within test a) (count_tops within test xs) e)
      where
        u : Taken T (AllZip SameTop) (many q') middle xs rest
        u = local-many all SameTop q q' local middle xs rest r

        here : (count_top within test a ≡ 1) × (count_tops within test xs ≡ 0) → Pierced {X = Unit {0}} PutTops (λ _. many q') ts (a ∷ xs) rest
        here c =
            let v = pierce ts a middle p c.0 in
            let whole : v.behind ++ middle ≡ (v.behind ++ u.front) ++ rest = ap (λ l. v.behind ++ l) u.split ∙ sym (append_assoc v.behind u.front rest) in
            record {
              front = v.front;
              es = v.es;
              behind = v.behind ++ u.front;
              split = v.split ∙ ap (λ l. v.front ++ (v.es ++ l)) whole;
              word = v.word;
              body = v.body;
              chosen = v.chosen;
              headed = v.headed;
              closed = closed-more v.behind u.front v.closed;
              levels = v.levels;
              more_levels = v.more_levels;
              apart = v.apart;
              spelled = subst (λ l. g.expr_rule z v.levels (g.below z v.levels) (v.es ++ l) v.body l) whole v.spelled;
              again = λ x us vs ws more e d y k.
                  let i = cut ws v.behind u.front d in
                  let b = v.again tt us vs i.left (i.right ++ more) e i.first y k in
                  let n = u.again i.right more i.second in (
                    b.0 ∷ n.0,
                    (i.right ++ more, subst (λ l. q' (us ++ (vs ++ l)) b.0 (i.right ++ more)) (sym (append_assoc i.left i.right more) ∙ ap (λ l. l ++ more) (sym i.split)) b.1, n.1),
                    ap (λ h. h ∷ map (λ o. placeless_top (put_top y o)) xs) b.2 ∙ ap (λ l. placeless_top b.0 ∷ l) (unchanged-tops y xs c.1 ∙ each-tops xs n.0 n.2),
                  );
            }

        there : (count_top within test a ≡ 0) × (count_tops within test xs ≡ 1) → Pierced {X = Unit {0}} PutTops (λ _. many q') middle xs rest → Pierced {X = Unit {0}} PutTops (λ _. many q') ts (a ∷ xs) rest
        there c v =
            let h = local ts a middle p in
            record {
              front = h.front ++ v.front;
              es = v.es;
              behind = v.behind;
              split = h.split ∙ (ap (λ l. h.front ++ l) v.split ∙ sym (append_assoc h.front v.front (v.es ++ (v.behind ++ rest))));
              word = v.word;
              body = v.body;
              chosen = v.chosen;
              headed = headed-more v.word h.front v.front v.headed;
              closed = v.closed;
              levels = v.levels;
              more_levels = v.more_levels;
              apart = v.apart;
              spelled = v.spelled;
              again = λ x us vs ws more e d y k.
                  let i = cut us h.front v.front e in
                  let b = h.again i.left (i.right ++ (vs ++ (ws ++ more))) i.first in
                  let n = v.again tt i.right vs ws more i.second d y k in (
                    b.0 ∷ n.0,
                    (i.right ++ (vs ++ (ws ++ more)), subst (λ l. q' l b.0 (i.right ++ (vs ++ (ws ++ more)))) (sym (append_assoc i.left i.right (vs ++ (ws ++ more))) ∙ ap (λ l. l ++ (vs ++ (ws ++ more))) (sym i.split)) b.1, n.1),
                    ap (λ o. placeless_top o ∷ map (λ o. placeless_top (put_top y o)) xs) (unchanged-top y a c.0) ∙ ap (λ o. o ∷ map (λ o. placeless_top (put_top y o)) xs) b.2 ∙ ap (λ l. placeless_top b.0 ∷ l) n.2,
                  );
            }

    module _ (n m : ℕ) (apart : m ≡ n + gap) where
      l' : t.InnerRules (g.below z n) (g.below z m)
      l' = t.inner-rules n m (omega (arith, apart))

      le' : n ≤ m
      le' = omega (arith, apart)

      is_one : (b : Bool) (k : ℕ) → (let v : ℕ = if b then k else 0 in v ≡ 1) → (b ≡ true) × (k ≡ 1)
      is_one true k e = (refl, e)
      is_one false k e = absurd (omega (arith, e))

      put-bare : (y : Expr) (xs : List Item) → map placeless_item (map (put y) xs) ≡ map (λ a. placeless_item (put y a)) xs
      put-bare y [] = refl
      put-bare y (x ∷ xs) = ap (λ o. placeless_item (put y x) ∷ o) (put-bare y xs)

      module-put : (y : Expr) (x x' : Word) (xs xs' : List Word) (is js : List Item) (at at' : ℕ) → within x ≡ true → SameName x x' → AllZip SameName xs xs' → PutItems y is js → PutTop y (Module x xs is at) (Module x' xs' js at')
      module-put y x x' xs xs' is js at at' w p q r =
          ap (λ b. Module (placeless_word x) (map placeless_word xs) (map placeless_item (if b then map (put y) is else is)) 0) w
          ∙ ap (λ o. Module (placeless_word x) (map placeless_word xs) o 0) (put-bare y is ∙ r)
          ∙ ap (λ o. Module o (map placeless_word xs) (map placeless_item js) 0) (ap (λ b. record { name = b; at = 0 }) p)
          ∙ ap (λ o. Module (placeless_word x') o (map placeless_item js) 0) (t.same-words xs xs' q)

      pierced-top : (ts : Tokens) (a : Top) (rest : Tokens) → g.top_rule z n (g.below z n) ts a rest → count_top within test a ≡ 1 → Pierced {X = Unit {0}} PutTop (λ _. g.top_rule z m (g.below z m)) ts a rest
      pierced-top ts a rest (inl (s, m0, p0, (x, m1, p1, (o, m2, p2, (k, m3, p3, (eq, r)))))) e = let h : 0 ≡ 1 = ap (count_top within test) eq ∙ e in absurd (omega (arith, h))
      pierced-top ts a rest (inr (inl (s, m0, p0, (x, m1, p1, (o, m2, p2, (k, m3, p3, (eq, r))))))) e = let h : 0 ≡ 1 = ap (count_top within test) eq ∙ e in absurd (omega (arith, h))
      pierced-top ts a rest (inr (inr (inl (s, m0, p0, (x, m1, p1, (o, m2, p2, (k, m3, p3, (eq, r)))))))) e = let h : 0 ≡ 1 = ap (count_top within test) eq ∙ e in absurd (omega (arith, h))
      pierced-top ts a rest (inr (inr (inr (at, m0, p0, (x, m1, p1, (o, m2, p2, (xs, m3, p3, (c, m4, p4, (b, m5, p5, (is, m6, p6, (k, m7, p7, (eq, r)))))))))))) e =
          pierce-into PutTop _ _ (λ x us b more k. inr (inr (inr k))) ts a rest
          (pierce-prefix Any PutTop (token w.word_module) (token w.word_module) _ (local-token all w.word_module (free w.word_module)) ts at m0 p0 a rest
          (pierce-prefix SameName PutTop name name _ names m0 x m1 p1 a rest
          (pierce-prefix Any PutTop _ _ _ (local-opener all n m le' open_paren (free open_paren)) m1 o m2 p2 a rest
          (pierce-prefix (AllZip SameName) PutTop _ _ _ (t.local-formals n m le' (g.below z n) (g.below z m) l') m2 xs m3 p3 a rest
          (pierce-prefix Any PutTop (token close_paren) (token close_paren) _ (local-token all close_paren (free close_paren)) m3 c m4 p4 a rest
          (pierce-prefix Any PutTop _ _ _ (local-opener all n m le' open_brace (free open_brace)) m4 b m5 p5 a rest
          (pierce-suffix PutItems PutTop (λ _. many (g.below z m).body) (λ items. token close_brace >> nothing (Module x xs items at)) (λ k items. token close_brace >> nothing (Module k.0.0.0.0.1.0 k.0.0.1.0 items k.0.0.0.0.0.1.0))
          (λ i. local-after all (λ (c c' : Top). Unit {0}) close_brace (free close_brace) _ _ (local-nothing all (λ (c c' : Top). Unit {0}) (Module x xs i at) (Module x xs i at) tt))
          (λ k y i d h. local-after all (PutTop y) close_brace (free close_brace) _ _ (local-nothing all (PutTop y) (Module x xs i at) (Module k.0.0.0.0.1.0 k.0.0.1.0 d k.0.0.0.0.0.1.0)
          (module-put y x k.0.0.0.0.1.0 xs k.0.0.1.0 i d at k.0.0.0.0.0.1.0 one.0 k.0.0.0.0.1.1 k.0.0.1.1 h)))
          m5 is m6 (pierce-lift PutItems (many (g.below z m).body) m5 is m6 (pierce-many (g.below z n).body (g.below z m).body l'.body (deeper-bodies n m apart) m5 is m6 p6 one.1)) a rest (k, m7, p7, (eq, r)))))))))
        where
          one : (within x ≡ true) × (count_list test is ≡ 1)
          one = is_one (within x) (count_list test is) (ap (count_top within test) eq ∙ e)

      pub pierced-text : (ts : Tokens) (xs : List Top) (rest : Tokens) → g.text_rule z n ts xs rest → count_tops within test xs ≡ 1 → Pierced {X = Unit {0}} PutTops (λ _. g.text_rule z m) ts xs rest
      pierced-text = pierce-tops (g.top_rule z n (g.below z n)) (g.top_rule z m (g.below z m)) (t.local-top n m le' (g.below z n) (g.below z m) l') pierced-top
