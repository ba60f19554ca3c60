-- In a text without a fault of names no two families have one path, so each is found by its path.
use Rattle.std.proofs.Common.{◌≡◌, ℕ, zero, suc, ◌+◌, List, [], ◌∷◌, ◌++◌, map, length, Option, Some, None, Bool, true, false, not, ◌||◌, cond, find, refl, sym, ap, subst, ◌∙◌, inl, inr, slice_get, unwrap_or, arith}
use Rattle.std.specs.List.{flat_map, list_any, position_or_len, prefix_len}
use Rattle.std.specs.Str.{bytes_eq}
use Rattle.std.proofs.lemmas.List.{append_assoc}
use Rattle.std.proofs.lemmas.Slice.Eq.{bytes_eq-Decides}
use Rattle.std.proofs.lemmas.Bool.{cases_Bool}
use Rattle.law_lists.proofs.Lists.{map-flat_map_by, map-map_by, map-nil}
use Rattle.law_lists.proofs.Options.{some_is}
use Rattle.smv_core.specs.Values.{Name, Path, Simple, range, choice, scalarset, ordset}
use Rattle.smv_core.specs.Types.{Types, Family, Shape, find_name, names_of, one_value, indexed, behind, simple_of, array_of, shape_or_none, shape_of, shape_of_fields, types_after, types_from}
use Rattle.smv_core.specs.FlatOrder.{Body, modules, main, declared_as, families_of_item, body_of, families_in, design_of}
use Rattle.smv_core.specs.Outcome.{same_path}
use Rattle.smv_core.specs.declared.tree.Word.{Word}
use Rattle.smv_core.specs.declared.tree.Role.{Role}
use Rattle.smv_core.specs.declared.tree.Text.{Text}
use Rattle.smv_core.specs.declared.tree.Top.{Top}
use Rattle.smv_core.specs.declared.tree.Top.TheVariants.{SetType, Alias, Module}
use Rattle.smv_core.specs.declared.tree.TypeExpr.{TypeExpr, Boolean, Range, Enum, Named, Array', Struct', end_of-TypeExpr, more_of-TypeExpr, Row_of-Field, end_of-Field, more_of-Field}
use Rattle.smv_core.specs.declared.tree.Item.{Item, Declare, Instance}
use Rattle.smv_mentions.specs.Mentions.{Mention, declares, has_fields, fields_in, in_type, in_fields, in_item}
use Rattle.smv_mentions.specs.Mentions as mentions
use Rattle.smv_mentions.specs.Scopes.{Known, Piece, piece_of, known_after, pieces_from, pieces, scope_of}
use Rattle.smv_mentions.specs.NameFaults.{place_if, repeated, doubled, declared_words, doubled_in, formals_of, name_faults}
use Rattle.smv_mentions.specs.FirstFault.{first_of, faults_at, fault_of_size, faults_of_names, first_fault}
use Rattle.law_designs.specs.Entries.{placed_of_item, placed_in}
use Rattle.law_designs.proofs.Faultless.{no_fault-in, unplaced}
use Rattle.law_designs.proofs.SameWalks.{path-equal, path-same}
use Rattle.law_obligations.specs.Sets.{Has, first, later}
use Rattle.law_obligations.proofs.Members.{Has-left, Has-right, Has-cases, Has-from_map}
use Rattle.law_obligations.proofs.OneOfEach.{Has-from_flat_map}
use Rattle.law_flat_kinds.specs.FamiliesFound.{FamiliesAreFound}
use Rattle.law_flat_kinds.proofs.NoFaults.{nil-left, nil-right, none-both, nil-flat_map}

-- ---- names that are apart

-- no two words have one name
abbrev pub Once : List Word → Type 0
Once [] = Unit {0}
Once (w ∷ ws) = ((v : Word) → Has ws v → w.name ≡ v.name → ⊥) × Once ws

abbrev pub AreDisjoint : List Word → List Word → Type 0
AreDisjoint ws vs = (w v : Word) → Has ws w → Has vs v → w.name ≡ v.name → ⊥

once-join : (ws vs : List Word) → Once ws → Once vs → AreDisjoint ws vs → Once (ws ++ vs)
once-join [] vs p q h = q
once-join (w ∷ ws) vs p q h = (λ v k. elim (Has-cases ws vs k) [ inl i ↦ p.0 v i | inr i ↦ h w v first i ], once-join ws vs p.1 q (λ a b i j. h a b (later i) j))

pub once-left : (ws vs : List Word) → Once (ws ++ vs) → Once ws
once-left [] vs p = tt
once-left (w ∷ ws) vs p = (λ v k. p.0 v (Has-left vs k), once-left ws vs p.1)

pub once-right : (ws vs : List Word) → Once (ws ++ vs) → Once vs
once-right [] vs p = p
once-right (w ∷ ws) vs p = once-right ws vs p.1

pub once-apart : (ws vs : List Word) → Once (ws ++ vs) → AreDisjoint ws vs
once-apart [] vs p w v i j = elim i [ ]
once-apart (u ∷ ws) vs p _ v first j = p.0 v (Has-right ws j)
once-apart (u ∷ ws) vs p w v (later i) j = once-apart ws vs p.1 w v i j

unseen : (name other : Name) (seen : List Name) → list_any (bytes_eq name) (other ∷ seen) ≡ false → other ≡ name → ⊥
unseen name other seen e same = by_test (bytes_eq name other) ((bytes_eq-Decides name other).1 (sym same)) e
  where
    by_test : (b : Bool) → b ≡ true → (b || list_any (bytes_eq name) seen) ≡ false → ⊥
    by_test true p q = cc (q)
    by_test false p q = cc (p)

unseen-more : (name other : Name) (seen : List Name) → list_any (bytes_eq name) (other ∷ seen) ≡ false → list_any (bytes_eq name) seen ≡ false
unseen-more name other seen e = by_test (bytes_eq name other) e
  where
    by_test : (b : Bool) → (b || list_any (bytes_eq name) seen) ≡ false → list_any (bytes_eq name) seen ≡ false
    by_test true q = absurd (cc (q))
    by_test false q = q

never_twice : (seen : List Name) (ws : List Word) → repeated seen ws ≡ [] → Once ws × ((w : Word) → Has ws w → list_any (bytes_eq w.name) seen ≡ false)
never_twice seen [] e = (tt, λ w i. elim i [ ])
never_twice seen (w ∷ ws) e =
    let here : list_any (bytes_eq w.name) seen ≡ false = unplaced (list_any (bytes_eq w.name) seen) w.at (nil-left (place_if (list_any (bytes_eq w.name) seen) w.at) (repeated (w.name ∷ seen) ws) e) in
    let rest : Once ws × ((v : Word) → Has ws v → list_any (bytes_eq v.name) (w.name ∷ seen) ≡ false) = never_twice (w.name ∷ seen) ws (nil-right (place_if (list_any (bytes_eq w.name) seen) w.at) (repeated (w.name ∷ seen) ws) e) in
    ((λ v i. unseen v.name w.name seen (rest.1 v i), rest.0), unseen_each w ws here (λ v i. unseen-more v.name w.name seen (rest.1 v i)))
  where
    unseen_each : (w : Word) (ws : List Word) → list_any (bytes_eq w.name) seen ≡ false → ((v : Word) → Has ws v → list_any (bytes_eq v.name) seen ≡ false) → (v : Word) → Has (w ∷ ws) v → list_any (bytes_eq v.name) seen ≡ false
    unseen_each w ws p q _ first = p
    unseen_each w ws p q v (later i) = q v i

-- ---- families that are apart

-- no two families have one path
abbrev pub Apart : List Family → Type 0
Apart [] = Unit {0}
Apart (f ∷ fs) = ((g : Family) → Has fs g → f.path ≡ g.path → ⊥) × Apart fs

apart-join : (fs gs : List Family) → Apart fs → Apart gs → ((f g : Family) → Has fs f → Has gs g → f.path ≡ g.path → ⊥) → Apart (fs ++ gs)
apart-join [] gs p q h = q
apart-join (f ∷ fs) gs p q h = (λ g k. elim (Has-cases fs gs k) [ inl i ↦ p.0 g i | inr i ↦ h f g first i ], apart-join fs gs p.1 q (λ a b i j. h a b (later i) j))

apart-map : (F : Family → Family) → ((f g : Family) → (F f).path ≡ (F g).path → f.path ≡ g.path) → (fs : List Family) → Apart fs → Apart (map F fs)
apart-map F h [] p = tt
apart-map F h (f ∷ fs) p = (λ g k e. let r = Has-from_map F fs k in p.0 r.0 r.1 (h f r.0 (e ∙ ap (λ (g : Family). g.path) r.2)), apart-map F h fs p.1)

apart-one : (t : Simple) → Apart (one_value t)
apart-one t = (λ g k e. elim k [ ], tt)

-- a family stands behind a name there
abbrev pub IsBehind : Path → Name → Family → Type 0
IsBehind here name f = (rest : Path) × (f.path ≡ here ++ name ∷ rest)

pub same-name : (here : Path) (a b : Name) (p q : Path) → here ++ a ∷ p ≡ here ++ b ∷ q → a ≡ b
same-name [] a b p q e = cc
same-name (x ∷ here) a b p q e = same-name here a b p q (tails e)
  where
    tails : {xs ys : Path} → x ∷ xs ≡ x ∷ ys → xs ≡ ys
    tails e = cc

same-rest : (here p q : Path) → here ++ p ≡ here ++ q → p ≡ q
same-rest [] p q e = e
same-rest (x ∷ here) p q e = same-rest here p q (tails e)
  where
    tails : {xs ys : Path} → x ∷ xs ≡ x ∷ ys → xs ≡ ys
    tails e = cc

behind-same : (here : Path) (a b : Name) (f g : Family) → IsBehind here a f → IsBehind here b g → f.path ≡ g.path → a ≡ b
behind-same here a b f g p q e = same-name here a b p.0 q.0 (sym p.1 ∙ (e ∙ q.1))

-- families behind words that are apart
apart-words : (here : Path) (F : Word → List Family) (ws : List Word) → ((w : Word) → Has ws w → Apart (F w)) → ((w : Word) (f : Family) → Has (F w) f → IsBehind here w.name f) → Once ws → Apart (flat_map F ws)
apart-words here F [] h b once = tt
apart-words here F (w ∷ ws) h b once =
    apart-join (F w) (flat_map F ws) (h w first) (apart-words here F ws (λ v i. h v (later i)) b once.1) (λ f g i j e.
    let r : (v : Word) × Has ws v × Has (F v) g = Has-from_flat_map F ws j in
    once.0 r.0 r.1 (behind-same here w.name r.0.name f g (b w f i) (b r.0 g r.2) e))

-- each family stands behind one of these words there
abbrev pub AreBehind : Path → List Word → List Family → Type 0
AreBehind here ws fs = (f : Family) → Has fs f → (w : Word) × Has ws w × IsBehind here w.name f

words-behind : (here : Path) (F : Word → List Family) (ws : List Word) → ((w : Word) (f : Family) → Has (F w) f → IsBehind here w.name f) → AreBehind here ws (flat_map F ws)
words-behind here F ws b f i = let r : (w : Word) × Has ws w × Has (F w) f = Has-from_flat_map F ws i in (r.0, r.1, b r.0 f r.2)

apart-behind : (here : Path) (ws vs : List Word) (fs gs : List Family) → AreBehind here ws fs → AreBehind here vs gs → AreDisjoint ws vs → (f g : Family) → Has fs f → Has gs g → f.path ≡ g.path → ⊥
apart-behind here ws vs fs gs p q h f g i j e = let r = p f i in let s = q g j in h r.0 s.0 r.1 s.1 (behind-same here r.0.name s.0.name f g r.2 s.2 e)

-- ---- types

-- a struct has no field twice
abbrev IsFine : Mention → Type 0
IsFine (has_fields words) = Once words
IsFine _ = Unit {0}

abbrev pub AreFine : List Mention → Type 0
AreFine ms = (m : Mention) → Has ms m → IsFine m

abbrev pub AllApart : Types → Type 0
AllApart types = (entry : Name × Shape) → Has types entry → Apart entry.1

found-Has : {X : Type 0} (entries : List (Name × X)) (name : Name) (x : X) → find_name entries name ≡ Some x → (entry : Name × X) × Has entries entry × (entry.1 ≡ x)
found-Has [] name x e = absurd (cc (e))
found-Has {X} ((other, y) ∷ entries) name x e = by_test (bytes_eq other name) e (found-Has entries name x)
  where
    by_test : (b : Bool) → cond b (Some y) (find_name entries name) ≡ Some x → (find_name entries name ≡ Some x → (entry : Name × X) × Has entries entry × (entry.1 ≡ x)) → (entry : Name × X) × Has ((other, y) ∷ entries) entry × (entry.1 ≡ x)
    by_test true e rest = ((other, y), first, some_is e)
    by_test false e rest = let r = rest e in (r.0, later r.1, r.2)

module _ (types : Types) (all : AllApart types) where
  named-apart : (o : Option Shape) → ((shape : Shape) → o ≡ Some shape → Apart shape) → Apart (shape_or_none o)
  named-apart None h = tt
  named-apart (Some shape) h = h shape refl

  array-apart : (o : Option Simple) (shape : Shape) → Apart shape → Apart (array_of o shape)
  array-apart None shape p = tt
  array-apart (Some t) shape p = apart-map (indexed t) (λ f g e. e) shape p

  field-behind : (of : TypeExpr) (w : Word) (f : Family) → Has (map (behind (w.name ∷ [])) (shape_of types of)) f → IsBehind [] w.name f
  field-behind of w f i = let r = Has-from_map (behind (w.name ∷ [])) (shape_of types of) i in (r.0.path, ap (λ (f : Family). f.path) r.2)

  mutual
    unfolding in_type in_fields

    shape-apart : (of : TypeExpr) → AreFine (in_type of) → Apart (shape_of types of)
    shape-apart Boolean h = apart-one (range 0 1)
    shape-apart (Range span at) h = apart-one (range span.low span.high)
    shape-apart (Enum names at) h = apart-one (choice (names_of names))
    shape-apart (Named word at) h = named-apart (find_name types word.name) (λ shape e. let r = found-Has types word.name shape e in subst Apart r.2 (all r.0 r.1))
    shape-apart (Array' i (more_of-TypeExpr index end_of-TypeExpr) o (more_of-TypeExpr of end_of-TypeExpr)) h =
        array-apart (simple_of (shape_of types index)) (shape_of types of) (shape-apart of (λ m k. h m (Has-right (in_type index) k)))
    shape-apart (Struct' shape fields) h = (fields-apart fields (h (has_fields (fields_in fields)) first) (λ m k. h m (later k))).0

    fields-apart : {m : _} (fields : Row_of-Field m) → Once (fields_in fields) → AreFine (in_fields fields) → Apart (shape_of_fields types fields) × AreBehind [] (fields_in fields) (shape_of_fields types fields)
    fields-apart end_of-Field once h = (tt, λ f i. elim i [ ])
    fields-apart (more_of-Field names of at rest) once h =
        let own : Apart (shape_of types of) = shape-apart of (λ m k. h m (Has-left (in_fields rest) k)) in
        let others : Apart (shape_of_fields types rest) × AreBehind [] (fields_in rest) (shape_of_fields types rest) = fields-apart rest (once-right names (fields_in rest) once) (λ m k. h m (Has-right (in_type of) k)) in
        let F : Word → List Family = λ w. map (behind (w.name ∷ [])) (shape_of types of) in
        let there : AreBehind [] names (flat_map F names) = words-behind [] F names (λ w f i. field-behind of w f i) in (
          apart-join (flat_map F names) (shape_of_fields types rest)
              (apart-words [] F names (λ w i. apart-map (behind (w.name ∷ [])) (λ f g e. same-rest (w.name ∷ []) f.path g.path e) (shape_of types of) own) (λ w f i. field-behind of w f i) (once-left names (fields_in rest) once)) others.0
              (apart-behind [] names (fields_in rest) (flat_map F names) (shape_of_fields types rest) there others.1 (once-apart names (fields_in rest) once)),
          λ f i. elim (Has-cases (flat_map F names) (shape_of_fields types rest) i) [
            | inl k ↦ let r = there f k in (r.0, Has-left (fields_in rest) r.1, r.2)
            | inr k ↦ let r = others.1 f k in (r.0, Has-right names r.1, r.2)
          ],
        )

-- ---- items

-- the words by which an item declares signals and instances
abbrev pub own_words : Item → List Word
own_words (Declare role words of at) = words
own_words (Instance words name args at) = words
own_words _ = []

declared-join : (xs ys : List Mention) → declared_words (xs ++ ys) ≡ declared_words xs ++ declared_words ys
declared-join [] ys = refl
declared-join (declares word what ∷ xs) ys = ap (λ l. word ∷ l) (declared-join xs ys)
declared-join (mentions.binds o w ∷ xs) ys = declared-join xs ys
declared-join (mentions.follows o p ∷ xs) ys = declared-join xs ys
declared-join (mentions.names_type w ∷ xs) ys = declared-join xs ys
declared-join (mentions.lists_constants w ∷ xs) ys = declared-join xs ys
declared-join (has_fields w ∷ xs) ys = declared-join xs ys
declared-join (mentions.instantiates w n ∷ xs) ys = declared-join xs ys

declared-own : (what : mentions.What) (ws : List Word) → declared_words (mentions.declared_as what ws) ≡ ws
declared-own what [] = refl
declared-own what (w ∷ ws) = ap (λ l. w ∷ l) (declared-own what ws)

item-words : (item : Item) → (extra : List Word) × (declared_words (in_item [] item) ≡ own_words item ++ extra)
unfolding in_item
item-words (Declare role words of at) =
    (declared_words (in_type of), declared-join (mentions.declared_as (mentions.signal role of) words) (in_type of) ∙ ap (λ l. l ++ declared_words (in_type of)) (declared-own (mentions.signal role of) words))
item-words (Instance words name args at) =
    let more : List Mention = mentions.instantiates name (length args) ∷ flat_map (mentions.in_expr []) args in
    (declared_words more, declared-join (mentions.declared_as (mentions.instance name) words) more ∙ ap (λ l. l ++ declared_words more) (declared-own (mentions.instance name) words))
item-words item = (declared_words (in_item [] item), refl)

pub items-once : (items : List Item) → Once (declared_words (flat_map (in_item []) items)) → Once (flat_map own_words items) × ((w : Word) → Has (flat_map own_words items) w → Has (declared_words (flat_map (in_item []) items)) w)
items-once [] once = (tt, λ w i. elim i [ ])
items-once (item ∷ items) once =
    let r : (extra : List Word) × (declared_words (in_item [] item) ≡ own_words item ++ extra) = item-words item in
    let rest : List Word = declared_words (flat_map (in_item []) items) in
    let is : declared_words (in_item [] item ++ flat_map (in_item []) items) ≡ (own_words item ++ r.0) ++ rest = declared-join (in_item [] item) (flat_map (in_item []) items) ∙ ap (λ l. l ++ rest) r.1 in
    let both : Once ((own_words item ++ r.0) ++ rest) = subst Once is once in
    let others : Once (flat_map own_words items) × ((w : Word) → Has (flat_map own_words items) w → Has rest w) = items-once items (once-right (own_words item ++ r.0) rest both) in (
      once-join (own_words item) (flat_map own_words items) (once-left (own_words item) r.0 (once-left (own_words item ++ r.0) rest both)) others.0
          (λ w v i j. once-apart (own_words item ++ r.0) rest both w v (Has-left r.0 i) (others.1 v j)),
      λ w i. subst (λ l. Has l w) (sym is) (elim (Has-cases (own_words item) (flat_map own_words items) i) [
        | inl k ↦ Has-left rest (Has-left r.0 k)
        | inr k ↦ Has-right (own_words item ++ r.0) (others.1 w k)
      ]),
    )

-- the types of an item's signals have no field twice
item-fine : (role : Role) (words : List Word) (of : TypeExpr) (at : ℕ) → AreFine (in_item [] (Declare role words of at)) → AreFine (in_type of)
unfolding in_item
item-fine role words of at h m k = h m (Has-right (mentions.declared_as (mentions.signal role of) words) k)

-- ---- families of instances

module _ (types : Types) (all : AllApart types) (bodies : List (Name × Body)) where
  -- what is said of the families of each instance
  abbrev pub AreThere : (Path → Name → List Family) → Type 0
  AreThere inside = (here : Path) (name : Name) → Apart (inside here name) × ((f : Family) → Has (inside here name) f → (rest : Path) × (f.path ≡ here ++ rest))

  pub item-behind : (inside : Path → Name → List Family) → AreThere inside → (here : Path) (item : Item) → AreFine (in_item [] item) → Once (own_words item) →
      Apart (families_of_item types bodies inside here item) × AreBehind here (own_words item) (families_of_item types bodies inside here item)
  item-behind inside h here (Declare role words of at) fine once =
      let F : Word → List Family = λ w. map (declared_as role (here ++ w.name ∷ [])) (shape_of types of) in (
        apart-words here F words (λ w i. apart-map (declared_as role (here ++ w.name ∷ [])) (λ f g e. same-rest (here ++ w.name ∷ []) f.path g.path e) (shape_of types of) (shape-apart types all of (item-fine role words of at fine))) (λ w f i. one w f i) once,
        words-behind here F words (λ w f i. one w f i),
      )
    where
      one : (w : Word) (f : Family) → Has (map (declared_as role (here ++ w.name ∷ [])) (shape_of types of)) f → IsBehind here w.name f
      one w f i = let r = Has-from_map (declared_as role (here ++ w.name ∷ [])) (shape_of types of) i in (r.0.path, ap (λ (f : Family). f.path) r.2 ∙ append_assoc here (w.name ∷ []) r.0.path)
  item-behind inside h here (Instance words name args at) fine once =
      let F : Word → List Family = λ w. inside (here ++ w.name ∷ []) name.name in
      (apart-words here F words (λ w i. (h (here ++ w.name ∷ []) name.name).0) (λ w f i. one w f i) once, words-behind here F words (λ w f i. one w f i))
    where
      one : (w : Word) (f : Family) → Has (inside (here ++ w.name ∷ []) name.name) f → IsBehind here w.name f
      one w f i = let r = (h (here ++ w.name ∷ []) name.name).1 f i in (r.0, r.1 ∙ append_assoc here (w.name ∷ []) r.0)
  item-behind inside h here _ fine once = (tt, λ f i. elim i [ ])

  pub items-behind : (inside : Path → Name → List Family) → AreThere inside → (here : Path) (items : List Item) → AreFine (flat_map (in_item []) items) → Once (flat_map own_words items) →
      Apart (flat_map (families_of_item types bodies inside here) items) × AreBehind here (flat_map own_words items) (flat_map (families_of_item types bodies inside here) items)
  items-behind inside h here [] fine once = (tt, λ f i. elim i [ ])
  items-behind inside h here (item ∷ items) fine once =
      let F : Item → List Family = families_of_item types bodies inside here in
      let own : Apart (F item) × AreBehind here (own_words item) (F item) = item-behind inside h here item (λ m k. fine m (Has-left (flat_map (in_item []) items) k)) (once-left (own_words item) (flat_map own_words items) once) in
      let others : Apart (flat_map F items) × AreBehind here (flat_map own_words items) (flat_map F items) = items-behind inside h here items (λ m k. fine m (Has-right (in_item [] item) k)) (once-right (own_words item) (flat_map own_words items) once) in (
        apart-join (F item) (flat_map F items) own.0 others.0 (apart-behind here (own_words item) (flat_map own_words items) (F item) (flat_map F items) own.1 others.1 (once-apart (own_words item) (flat_map own_words items) once)),
        λ f i. elim (Has-cases (F item) (flat_map F items) i) [
          | inl k ↦ let r = own.1 f k in (r.0, Has-left (flat_map own_words items) r.1, r.2)
          | inr k ↦ let r = others.1 f k in (r.0, Has-right (own_words item) r.1, r.2)
        ],
      )

  -- each body declares its names once, and its types have no field twice
  abbrev pub BodyIsFine : Body → Type 0
  BodyIsFine body = Once (declared_words (flat_map (in_item []) body.items)) × AreFine (flat_map (in_item []) body.items)

  module _ (bodies_fine : (entry : Name × Body) → Has bodies entry → BodyIsFine entry.1) where
    body-fine : (o : Option Body) → ((body : Body) → o ≡ Some body → BodyIsFine body) → BodyIsFine (unwrap_or o (record { formals = []; items = [] }))
    body-fine None h = (tt, λ m i. elim i [ ])
    body-fine (Some body) h = h body refl

    pub own-fine : (name : Name) → BodyIsFine (body_of types bodies name)
    own-fine name = body-fine (find_name bodies name) (λ body e. let r = found-Has bodies name body e in subst BodyIsFine r.2 (bodies_fine r.0 r.1))

    pub families-there : (k : ℕ) → AreThere (families_in types bodies k)
    families-there zero here name = (tt, λ f i. elim i [ ])
    families-there (suc k) here name =
        let fine : BodyIsFine (body_of types bodies name) = own-fine name in
        let r = items-behind (families_in types bodies k) (families-there k) here (body_of types bodies name).items fine.1 (items-once (body_of types bodies name).items fine.0).0 in
        (r.0, λ f i. let s = r.1 f i in (s.0.name ∷ s.2.0, s.2.1))

-- ---- the tops of a text

abbrev pub PieceIsFine : Piece → Type 0
PieceIsFine piece = Once (declared_words piece.mentions) × AreFine piece.mentions

apart-more : (types : Types) (name : Name) (shape : Shape) → AllApart types → Apart shape → AllApart (types ++ (name, shape) ∷ [])
apart-more types name shape all p entry i = elim (Has-cases types ((name, shape) ∷ []) i) [ inl k ↦ all entry k | inr k ↦ only entry k ]
  where
    only : (entry : Name × Shape) → Has ((name, shape) ∷ []) entry → Apart entry.1
    only _ first = p
    only entry (later k) = elim k [ ]

types-after : (known : Known) (types : Types) (top : Top) → AllApart types → PieceIsFine (piece_of known top) → AllApart (types_after types top)
types-after known types (SetType word false span at) all fine = apart-more types word.name (one_value (scalarset word.name)) all (apart-one (scalarset word.name))
types-after known types (SetType word true span at) all fine = apart-more types word.name (one_value (ordset word.name)) all (apart-one (ordset word.name))
types-after known types (Alias word of at) all fine = apart-more types word.name (shape_of types of) all (shape-apart types all of fine.1)
types-after known types (Module word formals body at) all fine = all

pub types-all : (known : Known) (types : Types) (tops : List Top) → AllApart types → ((p : Piece) → Has (pieces_from known tops) p → PieceIsFine p) → AllApart (types_from types tops)
types-all known types [] all fine = all
types-all known types (top ∷ tops) all fine = types-all (known_after known top) (types_after types top) tops (types-after known types top all (fine (piece_of known top) first)) (λ p i. fine p (later i))

pub modules-fine : (known : Known) (tops : List Top) → ((p : Piece) → Has (pieces_from known tops) p → PieceIsFine p) → (entry : Name × Body) → Has (modules tops) entry →
    Once (declared_words (flat_map (in_item []) entry.1.items)) × AreFine (flat_map (in_item []) entry.1.items)
modules-fine known [] fine entry i = elim i [ ]
modules-fine known (SetType word ordered span at ∷ tops) fine entry i = modules-fine (known_after known (SetType word ordered span at)) tops (λ p k. fine p (later k)) entry i
modules-fine known (Alias word of at ∷ tops) fine entry i = modules-fine (known_after known (Alias word of at)) tops (λ p k. fine p (later k)) entry i
modules-fine known (Module word formals body at ∷ tops) fine _ first = fine (piece_of known (Module word formals body at)) first
modules-fine known (Module word formals body at ∷ tops) fine entry (later i) = modules-fine (known_after known (Module word formals body at)) tops (λ p k. fine p (later k)) entry i

-- ---- no fault of names

fine-if : (tops : List Piece) (piece : Piece) (m : Mention) → doubled (scope_of tops piece) m ≡ [] → IsFine m
fine-if tops piece (has_fields words) e = (never_twice [] words e).0
fine-if tops piece (declares word what) e = tt
fine-if tops piece (mentions.binds o w) e = tt
fine-if tops piece (mentions.follows o p) e = tt
fine-if tops piece (mentions.names_type w) e = tt
fine-if tops piece (mentions.lists_constants w) e = tt
fine-if tops piece (mentions.instantiates w n) e = tt

pub pieces-fine : (text : Text) → first_fault text ≡ None → (p : Piece) → Has (pieces text) p → PieceIsFine p
pieces-fine text e p i =
    let none : flat_map faults_at (name_faults (pieces text)) ≡ [] = no_fault-in (faults_of_names text) (none-both (first_of (faults_of_names text)) (fault_of_size text) e).0 in
    let eight : repeated [] (map (λ (piece : Piece). piece.word) (pieces text)) ++ flat_map (doubled_in (pieces text)) (pieces text) ≡ [] =
    map-nil _ (repeated [] (map (λ (piece : Piece). piece.word) (pieces text)) ++ flat_map (doubled_in (pieces text)) (pieces text)) (nil-flat_map faults_at (name_faults (pieces text)) none (8, repeated [] (map (λ (piece : Piece). piece.word) (pieces text)) ++ flat_map (doubled_in (pieces text)) (pieces text)) (later first)) in
    let own : doubled_in (pieces text) p ≡ [] = nil-flat_map (doubled_in (pieces text)) (pieces text) (nil-right (repeated [] (map (λ (piece : Piece). piece.word) (pieces text))) (flat_map (doubled_in (pieces text)) (pieces text)) eight) p i in
    let front : repeated [] (formals_of p) ++ repeated [] (declared_words p.mentions) ≡ [] = nil-left (repeated [] (formals_of p) ++ repeated [] (declared_words p.mentions)) (flat_map (doubled (scope_of (pieces text) p)) p.mentions) own in
    let back : flat_map (doubled (scope_of (pieces text) p)) p.mentions ≡ [] = nil-right (repeated [] (formals_of p) ++ repeated [] (declared_words p.mentions)) (flat_map (doubled (scope_of (pieces text) p)) p.mentions) own in (
      (never_twice [] (declared_words p.mentions) (nil-right (repeated [] (formals_of p)) (repeated [] (declared_words p.mentions)) front)).0,
      λ m k. fine-if (pieces text) p m (nil-flat_map (doubled (scope_of (pieces text) p)) p.mentions back m k),
    )

families-apart : (text : Text) → first_fault text ≡ None → Apart (design_of text).families
families-apart text e =
    let fine : (p : Piece) → Has (pieces text) p → PieceIsFine p = pieces-fine text e in
    (families-there (types_from [] text.tops) (types-all [] [] text.tops (λ entry i. elim i [ ]) fine) (modules text.tops) (modules-fine [] text.tops fine) (length (modules text.tops)) [] main).0

-- ---- families by their paths

found-at : (fs : List Family) → Apart fs → (k : ℕ) (f : Family) → slice_get fs k ≡ Some f →
    (find (λ (g : Family). same_path g.path f.path) fs ≡ Some f) × (position_or_len (λ (g : Family). same_path g.path f.path) fs ≡ k)
found-at [] p k f e = absurd (cc (e))
found-at (g ∷ fs) p zero f e =
    let same : same_path g.path f.path ≡ true = path-same g.path f.path (ap (λ (g : Family). g.path) (some_is e)) in
    (ap (λ b. cond b (Some g) (find (λ (g : Family). same_path g.path f.path) fs)) same ∙ e, ap (λ b. cond (not b) (1 + prefix_len (λ (g : Family). not (same_path g.path f.path)) fs) 0) same)
found-at (g ∷ fs) p (suc k) f e =
    let r = found-at fs p.1 k f e in
    let other : same_path g.path f.path ≡ false = elim (cases_Bool (same_path g.path f.path)) [ inl t ↦ absurd (p.0 f (get-there fs k f e) (path-equal g.path f.path t)) | inr t ↦ t ] in (
      ap (λ b. cond b (Some g) (find (λ (g : Family). same_path g.path f.path) fs)) other ∙ r.0,
      ap (λ b. cond (not b) (1 + prefix_len (λ (g : Family). not (same_path g.path f.path)) fs) 0) other ∙ (let q = r.1 in omega (arith, q)),
    )
  where
    get-there : (fs : List Family) (k : ℕ) (f : Family) → slice_get fs k ≡ Some f → Has fs f
    get-there [] k f e = absurd (cc (e))
    get-there (g ∷ fs) zero f e = subst (Has (g ∷ fs)) (some_is e) first
    get-there (g ∷ fs) (suc k) f e = later (get-there fs k f e)

module _ (types : Types) (bodies : List (Name × Body)) where
  placed-item : (inside : Path → Name → List (Family × ℕ)) (own : Path → Name → List Family) → ((here : Path) (name : Name) → map (λ (f, at). f) (inside here name) ≡ own here name) →
      (here : Path) (item : Item) → map (λ (f, at). f) (placed_of_item types bodies inside here item) ≡ families_of_item types bodies own here item
  placed-item inside own h here (Declare role words of at) =
      map-flat_map_by (λ (f, at). f) (λ (word : Word). map (λ f. (declared_as role (here ++ word.name ∷ []) f, word.at)) (shape_of types of)) (λ (word : Word). map (declared_as role (here ++ word.name ∷ [])) (shape_of types of))
      (λ (word : Word). map-map_by (λ (f, at). f) (λ f. (declared_as role (here ++ word.name ∷ []) f, word.at)) (declared_as role (here ++ word.name ∷ [])) (λ f. refl) (shape_of types of)) words
  placed-item inside own h here (Instance words name args at) =
      map-flat_map_by (λ (f, at). f) (λ (word : Word). inside (here ++ word.name ∷ []) name.name) (λ (word : Word). own (here ++ word.name ∷ []) name.name) (λ (word : Word). h (here ++ word.name ∷ []) name.name) words
  placed-item inside own h here _ = refl

  placed-same : (k : ℕ) (here : Path) (name : Name) → map (λ (f, at). f) (placed_in types bodies k here name) ≡ families_in types bodies k here name
  placed-same zero here name = refl
  placed-same (suc k) here name =
      map-flat_map_by (λ (f, at). f) (placed_of_item types bodies (placed_in types bodies k) here) (families_of_item types bodies (families_in types bodies k) here)
      (placed-item (placed_in types bodies k) (families_in types bodies k) (placed-same k) here) (body_of types bodies name).items

pub families_found : (text : Text) → first_fault text ≡ None → FamiliesAreFound text
families_found text e k f there =
    let r = found-at (design_of text).families (families-apart text e) k f there in
    (r.0, ap (position_or_len (λ (g : Family). same_path g.path f.path)) (placed-same (types_from [] text.tops) (modules text.tops) (length (modules text.tops)) [] main) ∙ r.1)
