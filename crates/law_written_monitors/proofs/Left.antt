-- Claims without monitors add nothing to what is written before a closing brace.
use Rattle.std.proofs.Common.{◌≡◌, List, [], ◌∷◌, ◌++◌, map, flat_map, filter, length, nat_lt, Bool, true, false, cond, refl, sym, ap, ◌∙◌, arith}
use Rattle.std.proofs.lemmas.List.Concat.{flat_map-cons}
use Rattle.law_lists.proofs.Lists.{head_is}
use Rattle.law_lists.proofs.Numbers.{nat_lt-not}
use Rattle.smv_core.specs.Values.{Name}
use Rattle.smv_core.specs.declared.tree.Stmt.{Stmt}
use Rattle.smv_core.specs.declared.tree.Item.{Item, Layer}
use Rattle.law_formulas.specs.Formulas.{Formula, now, next, when, weak}
use Rattle.law_formulas.specs.Monitors as m
use Rattle.law_formulas.specs.Monitors.{with_layer, word_of}
use Rattle.law_written_monitors.specs.Monitored.{Monitored, in_tree, items_left, has_monitors}
use Rattle.law_written_monitors.specs.Laws.{MonitorsAreLeft}

-- no names, no definitions
none-defined : (vars : List Name) (s : m.Stage) (f : Formula) → m.definitions vars [] s f ≡ []
none-defined vars s (now e) = refl
none-defined vars s (next at f) = refl
none-defined vars s (when c f) = none-defined vars (m.under s c) f
none-defined vars s (weak p q) = refl

abbrev declared_of : Monitored → List Item
declared_of c = m.declared (in_tree c)

abbrev defined_of : Monitored → List Stmt
defined_of c = m.defined (in_tree c)

no-names : (names : List Name) → nat_lt 0 (length names) ≡ false → names ≡ []
no-names [] e = refl
no-names (n ∷ names) e = absurd (let low = nat_lt-not 0 (length (n ∷ names)) e in omega (arith, low))

-- what is nothing for those that fail a test
flat_map-filter : {X Y : Type 0} (f : X → List Y) (test : X → Bool) → ((x : X) → test x ≡ false → f x ≡ []) → (xs : List X) → flat_map f xs ≡ flat_map f (filter test xs)
flat_map-filter f test none [] = refl
flat_map-filter f test none (x ∷ xs) = flat_map-cons f x xs ∙ by_test (test x) refl (flat_map-filter f test none xs)
  where
    by_test : (b : Bool) → test x ≡ b → flat_map f xs ≡ flat_map f (filter test xs) → f x ++ flat_map f xs ≡ flat_map f (cond b (x ∷ filter test xs) (filter test xs))
    by_test true e rest = ap (λ l. f x ++ l) rest ∙ sym (flat_map-cons f x (filter test xs))
    by_test false e rest = ap (λ l. l ++ flat_map f xs) (none x e) ∙ rest

flat_map-map : {X Y Z : Type 0} (f : Y → List Z) (make : X → Y) (xs : List X) → flat_map f (map make xs) ≡ flat_map (λ x. f (make x)) xs
flat_map-map f make [] = refl
flat_map-map f make (x ∷ xs) = flat_map-cons f (make x) (map make xs) ∙ ap (λ l. f (make x) ++ l) (flat_map-map f make xs) ∙ sym (flat_map-cons (λ x. f (make x)) x xs)

none-left : (c : Monitored) → has_monitors c ≡ false → c.watched.monitors ≡ []
none-left c e = no-names c.watched.monitors e

declared-none : (c : Monitored) → has_monitors c ≡ false → declared_of c ≡ []
declared-none c e = ap (λ (names : List Name). m.declared (c.around, record { formula = c.watched.formula; monitors = names })) (none-left c e)

defined-none : (c : Monitored) → has_monitors c ≡ false → defined_of c ≡ []
defined-none c e = ap (λ (names : List Name). m.defined (c.around, record { formula = c.watched.formula; monitors = names })) (none-left c e) ∙ ap (flat_map (m.defining c.around)) (none-defined (m.names_around c.around) m.outset c.watched.formula)

abbrev last_item : Name → List Monitored → Item
last_item layer cs = Layer (word_of layer) (flat_map defined_of cs) 0

-- a list that has something
abbrev HasSome : List Item → Type 0
HasSome [] = ⊥
HasSome (x ∷ xs) = Unit {0}

some-layer : (layer : Name) (ws : List (m.Around × m.Watched)) (items : List Item) → HasSome items → with_layer layer ws items ≡ items ++ Layer (word_of layer) (flat_map m.defined ws) 0 ∷ []
some-layer layer ws [] h = absurd h
some-layer layer ws (x ∷ items) h = refl

has-some : (xs ys : List Item) → HasSome xs → HasSome (xs ++ ys)
has-some [] ys h = absurd h
has-some (x ∷ xs) ys h = tt

some-declared : (c : Monitored) → has_monitors c ≡ true → HasSome (declared_of c)
some-declared c e = by_names c.watched.monitors e
  where
    by_names : (names : List Name) → nat_lt 0 (length names) ≡ true → HasSome (m.declared (c.around, record { formula = c.watched.formula; monitors = names }))
    by_names [] e = absurd (cc (e))
    by_names (n ∷ names) e = tt

first-kept : (test : Monitored → Bool) (cs : List Monitored) (c : Monitored) (more : List Monitored) → filter test cs ≡ c ∷ more → test c ≡ true
first-kept test [] c more e = absurd (cc (e))
first-kept test (d ∷ cs) c more e = by_test (test d) refl e (λ q. first-kept test cs c more q)
  where
    by_test : (b : Bool) → test d ≡ b → cond b (d ∷ filter test cs) (filter test cs) ≡ c ∷ more → (filter test cs ≡ c ∷ more → test c ≡ true) → test c ≡ true
    by_test true q e rest = ap test (sym (head_is e)) ∙ q
    by_test false q e rest = rest e

by-left : (layer : Name) (ws : List (m.Around × m.Watched)) (items : List Item) (left : List Monitored) → items ≡ flat_map declared_of left → flat_map m.defined ws ≡ flat_map defined_of left →
    ((c : Monitored) (more : List Monitored) → left ≡ c ∷ more → has_monitors c ≡ true) → with_layer layer ws items ≡ items_left layer left
by-left layer ws items [] p q first = ap (with_layer layer ws) p
by-left layer ws items (c ∷ left) p q first =
    let some : HasSome (flat_map declared_of (c ∷ left)) = has-some (declared_of c) (flat_map declared_of left) (some-declared c (first c left refl)) in
    ap (with_layer layer ws) p ∙ some-layer layer ws (flat_map declared_of (c ∷ left)) some ∙ ap (λ l. flat_map declared_of (c ∷ left) ++ Layer (word_of layer) l 0 ∷ []) q

pub monitors-left : MonitorsAreLeft
monitors-left layer cs =
    by-left layer (map in_tree cs) (flat_map m.declared (map in_tree cs)) (filter has_monitors cs)
    (flat_map-map m.declared in_tree cs ∙ flat_map-filter declared_of has_monitors declared-none cs)
    (flat_map-map m.defined in_tree cs ∙ flat_map-filter defined_of has_monitors defined-none cs)
    (λ c more e. first-kept has_monitors cs c more e)
