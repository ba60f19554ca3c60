-- In a text without faults of names the types of each family have numbers.
use Rattle.std.proofs.Common.{◌≡◌, ℕ, zero, suc, ◌+◌, ◌-◌, option_map, List, [], ◌∷◌, ◌++◌, map, flat_map, find, length, slice_get, get_or, Option, Some, None, Bool, true, false, cond, ◌||◌, unwrap_or, Decides, refl, sym, ap, ◌∙◌, subst, append_assoc, arith}
use Rattle.std.specs.Str.{bytes_eq}
use Rattle.std.specs.List.{list_any, position_or_len, AllByRecursion}
use Rattle.std.proofs.lemmas.Slice.Eq.{bytes_eq-Decides, slice_eq-Decides}
use Rattle.std.proofs.lemmas.List.Folds.{find_at, find-append}
use Rattle.std.proofs.lemmas.Option.{get_or_from_slice_get}
use Rattle.std.proofs.lemmas.Grind.{flat_map-append}
use Rattle.smv_core.specs.Values.{Name, Path, Simple, choice, scalarset, ordset, Sizes}
use Rattle.smv_core.specs.Types.{Types, Family, Shape, find_name, names_of, simple, simple_of, shape_of, shape_of_fields, shape_or_none, one_value, array_of, indexed, behind, types_from}
use Rattle.smv_core.specs.FlatOrder.{Body, modules, main, body_of, families_of_item, families_in, declared_as, design_of}
use Rattle.smv_core.specs.Outcome.{same_path}
use Rattle.smv_core.specs.FlatMeaning.{Numbered, set_type}
use Rattle.smv_core.specs.declared.tree.Word.{Word}
use Rattle.smv_core.specs.declared.tree.Text.{Text}
use Rattle.smv_core.specs.declared.tree.Top.{Top}
use Rattle.smv_core.specs.declared.tree.Top.TheVariants.{SetType, Alias, Module}
use Rattle.smv_core.specs.declared.tree.TypeExpr.{TypeExpr, Boolean, Range, Enum, Named, Array', Struct', end_of-TypeExpr, more_of-TypeExpr, Row_of-Field, end_of-Field, more_of-Field}
use Rattle.smv_core.specs.declared.tree.Item.{Item, Declare, Instance, Layer, Forall', Block', Claim, Split, Using, Act}
use Rattle.smv_core.specs.declared.flat.SetInfo.{SetInfo}
use Rattle.smv_mentions.specs.Mentions.{Mention, in_type, in_fields, in_item}
use Rattle.smv_mentions.specs.Mentions as mentions
use Rattle.smv_mentions.specs.Scopes.{Piece, Known, pieces, pieces_from, known_after}
use Rattle.smv_mentions.specs.NameFaults.{repeated, place_if, undeclared_in, doubled_in, without_main, recursive_in, miscounted_in}
use Rattle.smv_mentions.specs.FirstFault.{first_of, faults_at, faults_of_names, fault_of_size, first_fault}
use Rattle.smv_core.specs.declared.fault.Fault.{Fault}
use Rattle.smv_core.specs.declared.tree.Span.{Span}
use Rattle.std.specs.Option.{option_or}
use Rattle.law_lists.proofs.Each.{each_append, each_weaker, each_in_any, all_each}
use Rattle.law_designs.specs.Numbers.{Scope}
use Rattle.law_designs.specs.Flattening.{scope_in, enum_of, set_of, different}
use Rattle.law_designs.specs.Agreement.{IsIndexType, numbers_in}
use Rattle.law_designs.proofs.Numbered.{IsNumbered, IsNumberedOrNone, HasNumbers, AreNumbered}
use Rattle.law_designs.proofs.Lookups.{any-found, find-passes, any-behind}
use Rattle.law_designs.proofs.Different.{different-keeps}
use Rattle.law_designs.proofs.Faultless.{each-front, each-behind, each-map, no_fault-in, none-first}

pub paths-decide : (p q : Path) → Decides (same_path p q) (p ≡ q)
paths-decide p q = slice_eq-Decides bytes_eq-Decides p q (same_path p q) refl

-- each of a list is in it
own-listed : (front ls : List (List Name)) → AllByRecursion (λ l. list_any (same_path l) (front ++ ls) ≡ true) ls
own-listed front [] = tt
own-listed front (l ∷ ls) = (
  any-behind (same_path l) front (l ∷ ls) (ap (λ b. b || list_any (same_path l) ls) ((paths-decide l l).1 refl)),
  subst (λ all. AllByRecursion (λ k. list_any (same_path k) all ≡ true) ls) (append_assoc front (l ∷ []) ls) (own-listed (front ++ l ∷ []) ls),
)

-- ---- types

module _ (scope : Scope) (n : Numbered) (same_enums : n.enums ≡ scope.enums) (same_sets : n.sets ≡ scope.sets) where
  abbrev pub IsListed : List Name → Type 0
  IsListed names = list_any (same_path names) scope.enums ≡ true

  -- the enumerations of what is said are listed
  abbrev pub AreListed : List Mention → Type 0
  AreListed ms = AllByRecursion IsListed (flat_map enum_of ms)

  abbrev pub IsGood : Family → Type 0
  IsGood f = IsNumbered scope n f.value × AllByRecursion (IsNumbered scope n) f.over

  abbrev pub AreGood : Shape → Type 0
  AreGood shape = AllByRecursion IsGood shape

  choice-numbered : (names : List Name) → IsListed names → IsNumbered scope n (choice names)
  choice-numbered names h =
      let own : (l : List Name) × (find (same_path names) scope.enums ≡ Some l) = any-found (same_path names) scope.enums h in
      let equal : names ≡ own.0 = (paths-decide names own.0).0 (find-passes (same_path names) scope.enums own.0 own.1) in
      ap (λ enums. choice (get_or enums (position_or_len (same_path names) scope.enums) [])) same_enums
      ∙ ap choice (get_or_from_slice_get scope.enums (position_or_len (same_path names) scope.enums) own.0 [] (sym (find_at (same_path names) scope.enums) ∙ own.1) ∙ sym equal)

  -- a set type is listed first with its own order
  abbrev pub IsFoundSet : Name → Bool → Type 0
  IsFoundSet name ordered = (info : SetInfo) × (find (λ i. bytes_eq i.name name) scope.sets ≡ Some info) × (info.name ≡ name) × (info.ordered ≡ ordered)

  set-found : (name : Name) (ordered : Bool) (h : IsFoundSet name ordered) → set_type (slice_get n.sets (position_or_len (λ i. bytes_eq i.name name) scope.sets)) ≡ set_type (Some h.0)
  set-found name ordered h = ap (λ sets. set_type (slice_get sets (position_or_len (λ i. bytes_eq i.name name) scope.sets))) same_sets ∙ ap set_type (sym (find_at (λ i. bytes_eq i.name name) scope.sets) ∙ h.1)

  scalarset-numbered : (name : Name) → IsFoundSet name false → IsNumbered scope n (scalarset name)
  scalarset-numbered name h = set-found name false h ∙ rw (h.3, h.2) refl

  ordset-numbered : (name : Name) → IsFoundSet name true → IsNumbered scope n (ordset name)
  ordset-numbered name h = set-found name true h ∙ rw (h.3, h.2) refl

  simple-numbered : (shape : Shape) → AreGood shape → IsNumberedOrNone scope n (simple_of shape)
  simple-numbered [] h = tt
  simple-numbered (f ∷ g ∷ shape) h = tt
  simple-numbered (f ∷ []) h = by_parts f.path f.over
    where
      by_parts : (path : Path) (over : List Simple) → IsNumberedOrNone scope n (simple_of (record { path = path; over = over; value = f.value; is_abstract = false } ∷ []))
      by_parts [] [] = h.0.0
      by_parts [] (u ∷ over) = tt
      by_parts (name ∷ path) over = tt

  array-numbered : (o : Option Simple) (shape : Shape) → IsNumberedOrNone scope n o → AreGood shape → AreGood (array_of o shape)
  array-numbered None shape h k = tt
  array-numbered (Some u) shape h k = each-map IsGood IsGood (indexed u) (λ f g. (g.0, (h, g.1))) shape k

  abbrev pub TableIsGood : Types → Type 0
  TableIsGood types = AllByRecursion (λ (name, shape). AreGood shape) types

  named-numbered : (types : Types) (name : Name) → TableIsGood types → AreGood (shape_or_none (find_name types name))
  named-numbered [] name h = tt
  named-numbered ((other, shape) ∷ types) name h = by_test (bytes_eq other name) (named-numbered types name h.1)
    where
      by_test : (b : Bool) → AreGood (shape_or_none (find_name types name)) → AreGood (shape_or_none (cond b (Some shape) (find_name types name)))
      by_test true rest = h.0
      by_test false rest = rest

  listed-front : (ms ns : List Mention) → AreListed (ms ++ ns) → AreListed ms
  listed-front ms ns h = each-front IsListed (flat_map enum_of ms) (flat_map enum_of ns) (subst (AllByRecursion IsListed) (flat_map-append enum_of ms ns) h)

  listed-behind : (ms ns : List Mention) → AreListed (ms ++ ns) → AreListed ns
  listed-behind ms ns h = each-behind IsListed (flat_map enum_of ms) (flat_map enum_of ns) (subst (AllByRecursion IsListed) (flat_map-append enum_of ms ns) h)

  abbrev pub ItemIsListed : Item → Type 0
  ItemIsListed item = AreListed (in_item [] item)

  declared-listed : (what : mentions.What) (words : List Word) (ms : List Mention) → AreListed (mentions.declared_as what words ++ ms) → AreListed ms
  declared-listed what [] ms h = h
  declared-listed what (word ∷ words) ms h = declared-listed what words ms h

  module _ (types : Types) (good : TableIsGood types) where
    mutual
      unfolding in_type

      pub shape-numbered : (of : TypeExpr) → AreListed (in_type of) → AreGood (shape_of types of)
      shape-numbered Boolean h = ((refl, tt), tt)
      shape-numbered (Range span at) h = ((refl, tt), tt)
      shape-numbered (Enum names at) h = ((choice-numbered (names_of names) h.0, tt), tt)
      shape-numbered (Named word at) h = named-numbered types word.name good
      shape-numbered (Array' i (more_of-TypeExpr index end_of-TypeExpr) o (more_of-TypeExpr of end_of-TypeExpr)) h =
          array-numbered (simple_of (shape_of types index)) (shape_of types of)
          (simple-numbered (shape_of types index) (shape-numbered index (listed-front (in_type index) (in_type of) h))) (shape-numbered of (listed-behind (in_type index) (in_type of) h))
      shape-numbered (Struct' shape fields) h = fields-numbered fields h

      fields-numbered : {m : _} (fields : Row_of-Field m) → AreListed (in_fields fields) → AreGood (shape_of_fields types fields)
      fields-numbered end_of-Field h = tt
      fields-numbered (more_of-Field names of at rest) h =
          each_append IsGood (flat_map (λ word. map (behind (word.name ∷ [])) (shape_of types of)) names) (shape_of_fields types rest)
          (each_in_any IsGood (λ word. map (behind (word.name ∷ [])) (shape_of types of)) (λ word. each-map IsGood IsGood (behind (word.name ∷ [])) (λ f g. g) (shape_of types of) (shape-numbered of (listed-front (in_type of) (in_fields rest) h))) names)
          (fields-numbered rest (listed-behind (in_type of) (in_fields rest) h))

    -- ---- families

    module _ (bodies : List (Name × Body)) (own : AllByRecursion (λ (name, body). AllByRecursion ItemIsListed body.items) bodies) where
      item-numbered : (inside : Path → Name → List Family) → ((here : Path) (name : Name) → AreGood (inside here name)) → (here : Path) (item : Item) → ItemIsListed item → AreGood (families_of_item types bodies inside here item)
      unfolding in_item
      item-numbered inside h here (Declare role words of at) listed =
          each_in_any IsGood (λ word. map (declared_as role (here ++ word.name ∷ [])) (shape_of types of))
          (λ word. each-map IsGood IsGood (declared_as role (here ++ word.name ∷ [])) (λ f g. g) (shape_of types of) (shape-numbered of (declared-listed (mentions.signal role of) words (in_type of) listed))) words
      item-numbered inside h here (Instance words name args at) listed = each_in_any IsGood (λ word. inside (here ++ word.name ∷ []) name.name) (λ word. h (here ++ word.name ∷ []) name.name) words
      item-numbered inside h here (Layer name body at) listed = tt
      item-numbered inside h here (Forall' var over shape body at) listed = tt
      item-numbered inside h here (Block' shape items) listed = tt
      item-numbered inside h here (Claim name vars body at) listed = tt
      item-numbered inside h here (Split name vars of pairs at) listed = tt
      item-numbered inside h here (Using uses proves at) listed = tt
      item-numbered inside h here (Act act) listed = tt

      items-numbered : (inside : Path → Name → List Family) → ((here : Path) (name : Name) → AreGood (inside here name)) → (here : Path) (items : List Item) → AllByRecursion ItemIsListed items → AreGood (flat_map (families_of_item types bodies inside here) items)
      items-numbered inside h here [] listed = tt
      items-numbered inside h here (item ∷ items) listed =
          each_append IsGood (families_of_item types bodies inside here item) (flat_map (families_of_item types bodies inside here) items) (item-numbered inside h here item listed.0) (items-numbered inside h here items listed.1)

      body-listed : (name : Name) (list : List (Name × Body)) → AllByRecursion (λ (name, body). AllByRecursion ItemIsListed body.items) list → AllByRecursion ItemIsListed (unwrap_or (find_name list name) (record { formals = []; items = [] })).items
      body-listed name [] h = tt
      body-listed name ((other, body) ∷ list) h = by_test (bytes_eq other name) (body-listed name list h.1)
        where
          by_test : (b : Bool) → AllByRecursion ItemIsListed (unwrap_or (find_name list name) (record { formals = []; items = [] })).items →
              AllByRecursion ItemIsListed (unwrap_or (cond b (Some body) (find_name list name)) (record { formals = []; items = [] })).items
          by_test true rest = h.0
          by_test false rest = rest

      pub families-numbered : (k : ℕ) (here : Path) (name : Name) → AreGood (families_in types bodies k here name)
      families-numbered zero here name = tt
      families-numbered (suc k) here name = items-numbered (families_in types bodies k) (families-numbered k) here (body_of types bodies name).items (body-listed name bodies own)

  -- a type over which a binder may run
  index-numbered : (types : Types) → TableIsGood types → (over : TypeExpr) → IsIndexType over → IsNumberedOrNone scope n (simple types over)
  index-numbered types good Boolean h = refl
  index-numbered types good (Range span at) h = refl
  index-numbered types good (Named word at) h = simple-numbered (shape_or_none (find_name types word.name)) (named-numbered types word.name good)
  index-numbered types good (Enum names at) h = absurd h
  index-numbered types good (Array' i index o of) h = absurd h
  index-numbered types good (Struct' shape fields) h = absurd h

  -- ---- tops

  abbrev pub TopIsGood : Top → Type 0
  TopIsGood (SetType word ordered span at) = IsFoundSet word.name ordered
  TopIsGood (Alias word of at) = AreListed (in_type of)
  TopIsGood (Module word formals body at) = AllByRecursion ItemIsListed body

  table-numbered : (known : Types) → TableIsGood known → (tops : List Top) → AllByRecursion TopIsGood tops → TableIsGood (types_from known tops)
  table-numbered known h [] k = h
  table-numbered known h (SetType word false span at ∷ tops) k =
      table-numbered (known ++ (word.name, one_value (scalarset word.name)) ∷ []) (each_append (λ (name, shape). AreGood shape) known ((word.name, one_value (scalarset word.name)) ∷ []) h (((scalarset-numbered word.name k.0, tt), tt), tt)) tops k.1
  table-numbered known h (SetType word true span at ∷ tops) k =
      table-numbered (known ++ (word.name, one_value (ordset word.name)) ∷ []) (each_append (λ (name, shape). AreGood shape) known ((word.name, one_value (ordset word.name)) ∷ []) h (((ordset-numbered word.name k.0, tt), tt), tt)) tops k.1
  table-numbered known h (Alias word of at ∷ tops) k =
      table-numbered (known ++ (word.name, shape_of known of) ∷ []) (each_append (λ (name, shape). AreGood shape) known ((word.name, shape_of known of) ∷ []) h (shape-numbered known h of k.0, tt)) tops k.1
  table-numbered known h (Module word formals body at ∷ tops) k = table-numbered known h tops k.1

  bodies-listed : (tops : List Top) → AllByRecursion TopIsGood tops → AllByRecursion (λ (name, body). AllByRecursion ItemIsListed body.items) (modules tops)
  bodies-listed [] h = tt
  bodies-listed (SetType word ordered span at ∷ tops) h = bodies-listed tops h.1
  bodies-listed (Alias word of at ∷ tops) h = bodies-listed tops h.1
  bodies-listed (Module word formals body at ∷ tops) h = (h.0, bodies-listed tops h.1)

  pub text-numbered : (tops : List Top) → AllByRecursion TopIsGood tops → AreGood (families_in (types_from [] tops) (modules tops) (length (modules tops)) [] main)
  text-numbered tops h = families-numbered (types_from [] tops) (table-numbered [] tt tops h) (modules tops) (bodies-listed tops h) (length (modules tops)) [] main

  body-items-listed : (body : List Item) → AreListed (flat_map (in_item []) body) → AllByRecursion ItemIsListed body
  body-items-listed [] h = tt
  body-items-listed (item ∷ body) h = (listed-front (in_item [] item) (flat_map (in_item []) body) h, body-items-listed body (listed-behind (in_item [] item) (flat_map (in_item []) body) h))

  -- ---- set types by name

  abbrev named : Name → SetInfo → Bool
  named name info = bytes_eq info.name name

  -- no set type of the list has a name that was not seen
  abbrev pub IsSeen : List SetInfo → List Name → Type 0
  IsSeen infos seen = (name : Name) → list_any (bytes_eq name) seen ≡ false → find (named name) infos ≡ None

  neither : (b c : Bool) → (b || c) ≡ false → (b ≡ false) × (c ≡ false)
  neither false c e = (refl, e)
  neither true c e = absurd (cc (e))

  turned : (a b : Name) → bytes_eq a b ≡ false → bytes_eq b a ≡ false
  turned a b e = by_test (bytes_eq b a) refl
    where
      by_test : (c : Bool) → bytes_eq b a ≡ c → c ≡ false
      by_test false h = refl
      by_test true h = let g : bytes_eq a b ≡ true = (bytes_eq-Decides a b).1 (sym ((bytes_eq-Decides b a).0 h)) in absurd (cc (e, g))

  seen-more : (infos : List SetInfo) (seen : List Name) (other : Name) → IsSeen infos seen → IsSeen infos (other ∷ seen)
  seen-more infos seen other h name e = h name (neither (bytes_eq name other) (list_any (bytes_eq name) seen) e).1

  seen-set : (infos : List SetInfo) (seen : List Name) (info : SetInfo) → IsSeen infos seen → IsSeen (infos ++ info ∷ []) (info.name ∷ seen)
  seen-set infos seen info h name e =
      let apart : (bytes_eq name info.name ≡ false) × (list_any (bytes_eq name) seen ≡ false) = neither (bytes_eq name info.name) (list_any (bytes_eq name) seen) e in
      find-append (named name) infos (info ∷ []) ∙ ap (λ o. option_or o (find (named name) (info ∷ []))) (h name apart.1) ∙ ap (λ b. cond b (Some info) None) (turned name info.name apart.0)

  empty-front : {X : Type 0} (xs ys : List X) → xs ++ ys ≡ [] → (xs ≡ []) × (ys ≡ [])
  empty-front [] ys e = (refl, e)
  empty-front (x ∷ xs) ys e = absurd (cc (e))

  unplaced : (b : Bool) (at : ℕ) → place_if b at ≡ [] → b ≡ false
  unplaced false at e = refl
  unplaced true at e = absurd (cc (e))

  set-first : (infos more : List SetInfo) (seen : List Name) (info : SetInfo) → IsSeen infos seen → scope.sets ≡ infos ++ info ∷ more → list_any (bytes_eq info.name) seen ≡ false → IsFoundSet info.name info.ordered
  set-first infos more seen info h e k = (
    info,
    ap (find (named info.name)) e ∙ find-append (named info.name) infos (info ∷ more) ∙ ap (λ o. option_or o (find (named info.name) (info ∷ more))) (h info.name k)
        ∙ ap (λ b. cond b (Some info) (find (named info.name) more)) ((bytes_eq-Decides info.name info.name).1 refl),
    refl,
    refl,
  )

  pub tops-good : (known : Known) (infos : List SetInfo) (seen : List Name) → IsSeen infos seen → (tops : List Top) → scope.sets ≡ infos ++ flat_map set_of tops →
      repeated seen (map (λ piece. piece.word) (pieces_from known tops)) ≡ [] → AllByRecursion IsListed (flat_map (λ piece. flat_map enum_of piece.mentions) (pieces_from known tops)) → AllByRecursion TopIsGood tops
  tops-good known infos seen h [] e k l = tt
  tops-good known infos seen h (SetType word ordered span at ∷ tops) e k l =
      let info : SetInfo = record { name = word.name; ordered = ordered; size = option_map (λ (s : Span). s.high + 1 - s.low) span } in
      let parts : (place_if (list_any (bytes_eq word.name) seen) word.at ≡ []) × (repeated (word.name ∷ seen) (map (λ piece. piece.word) (pieces_from (known_after known (SetType word ordered span at)) tops)) ≡ []) = empty-front _ _ k in (
        set-first infos (flat_map set_of tops) seen info h e (unplaced (list_any (bytes_eq word.name) seen) word.at parts.0),
        tops-good (known_after known (SetType word ordered span at)) (infos ++ info ∷ []) (word.name ∷ seen) (seen-set infos seen info h) tops (e ∙ sym (append_assoc infos (info ∷ []) (flat_map set_of tops))) parts.1 l,
      )
  tops-good known infos seen h (Alias word of at ∷ tops) e k l =
      let parts : (place_if (list_any (bytes_eq word.name) seen) word.at ≡ []) × (repeated (word.name ∷ seen) (map (λ piece. piece.word) (pieces_from (known_after known (Alias word of at)) tops)) ≡ []) = empty-front _ _ k in (
        each-front IsListed (flat_map enum_of (in_type of)) _ l,
        tops-good (known_after known (Alias word of at)) infos (word.name ∷ seen) (seen-more infos seen word.name h) tops e parts.1 (each-behind IsListed (flat_map enum_of (in_type of)) _ l),
      )
  tops-good known infos seen h (Module word formals body at ∷ tops) e k l =
      let parts : (place_if (list_any (bytes_eq word.name) seen) word.at ≡ []) × (repeated (word.name ∷ seen) (map (λ piece. piece.word) (pieces_from (known_after known (Module word formals body at)) tops)) ≡ []) = empty-front _ _ k in (
        body-items-listed body (each-front IsListed (flat_map enum_of (flat_map (in_item []) body)) _ l),
        tops-good (known_after known (Module word formals body at)) infos (word.name ∷ seen) (seen-more infos seen word.name h) tops e parts.1 (each-behind IsListed (flat_map enum_of (flat_map (in_item []) body)) _ l),
      )

-- ---- the text

no_places : (number : ℕ) (places : List ℕ) → faults_at (number, places) ≡ [] → places ≡ []
no_places number [] e = refl
no_places number (at ∷ places) e = absurd (cc (e))

-- no name of a type or module is declared twice
once-declared : (text : Text) → first_fault text ≡ None → repeated [] (map (λ piece. piece.word) (pieces text)) ≡ []
once-declared text e =
    let none : faults_of_names text ≡ [] = no_fault-in (faults_of_names text) (none-first (first_of (faults_of_names text)) (fault_of_size text) e) in
    let tops : List Piece = pieces text in
    let behind : flat_map faults_at ((8, repeated [] (map (λ piece. piece.word) tops) ++ flat_map (doubled_in tops) tops) ∷ (9, without_main tops) ∷ (10, flat_map (recursive_in tops) tops) ∷ (11, flat_map (miscounted_in tops) tops) ∷ []) ≡ []
    = (empty (faults_at (7, flat_map (undeclared_in tops) tops)) _ none).1 in
    let doubled : faults_at (8, repeated [] (map (λ piece. piece.word) tops) ++ flat_map (doubled_in tops) tops) ≡ [] = (empty (faults_at (8, repeated [] (map (λ piece. piece.word) tops) ++ flat_map (doubled_in tops) tops)) _ behind).0 in
    (empty_names (repeated [] (map (λ piece. piece.word) tops)) (flat_map (doubled_in tops) tops) (no_places 8 (repeated [] (map (λ piece. piece.word) tops) ++ flat_map (doubled_in tops) tops) doubled)).0
  where
    empty : (xs ys : List Fault) → xs ++ ys ≡ [] → (xs ≡ []) × (ys ≡ [])
    empty [] ys e = (refl, e)
    empty (x ∷ xs) ys e = absurd (cc (e))

    empty_names : (xs ys : List ℕ) → xs ++ ys ≡ [] → (xs ≡ []) × (ys ≡ [])
    empty_names [] ys e = (refl, e)
    empty_names (x ∷ xs) ys e = absurd (cc (e))

pub types-of-text : (text : Text) → first_fault text ≡ None → (sizes : Sizes) → AreNumbered text sizes
types-of-text text e sizes =
    let scope = scope_in text [] in
    let n = numbers_in text sizes in
    let lists : List (List Name) = flat_map (λ piece. flat_map enum_of piece.mentions) (pieces text) in
    let listed : AllByRecursion (λ l. list_any (same_path l) (different same_path lists) ≡ true) lists =
    each_weaker (λ l. list_any (same_path l) lists ≡ true) (λ l. list_any (same_path l) (different same_path lists) ≡ true) (λ l h. different-keeps same_path paths-decide l lists h) lists (own-listed [] lists) in
    let good : AllByRecursion (TopIsGood scope n refl refl) text.tops = tops-good scope n refl refl [] [] [] (λ name h. refl) text.tops refl (once-declared text e) listed in (
      all_each (HasNumbers scope n) (design_of text).families
          (each_weaker (IsGood scope n refl refl) (HasNumbers scope n) (λ f g. (g.0, all_each (IsNumbered scope n) f.over g.1)) (design_of text).families (text-numbered scope n refl refl text.tops good)),
      index-numbered scope n refl refl (types_from [] text.tops) (table-numbered scope n refl refl [] tt text.tops good),
    )
