-- The families of a text without faults have types that break no rule, and so have binders.
use Rattle.law_designs.proofs.Opening.{opening}
use Rattle.std.proofs.Common.{◌≡◌, ℕ, zero, suc, ◌≤◌, List, [], ◌∷◌, ◌++◌, map, flat_map, length, get_or, slice_get, Option, Some, None, unwrap_or, Bool, true, false, cond, ◌||◌, All, nat_lt, nat_le, refl, sym, ap, ◌∙◌, subst, arith}
use Rattle.std.specs.Str.{bytes_eq}
use Rattle.std.specs.List.{AllByRecursion, list_all, position_or_len}
use Rattle.std.proofs.lemmas.Bool.{and_from, le-leb, lt-ltb, ltb-false, or_parts, not-false}
use Rattle.std.proofs.lemmas.Option.{slice_get_within, same_Some}
use Rattle.std.proofs.lemmas.List.Elements.{All-head, All-tail}
use Rattle.law_lists.proofs.Each.{each_append}
use Rattle.smv_core.specs.Values.{Name, Path, Simple, range, choice, scalarset, ordset, Sizes}
use Rattle.smv_core.specs.Types as tree
use Rattle.smv_core.specs.Types.{Family, Shape, find_name, simple, simple_of, shape_of, shape_of_fields, shape_or_none, one_value, array_of, indexed, behind, types_from}
use Rattle.smv_core.specs.FlatOrder.{Body, declared_as, families_of_item, families_in, design_of}
use Rattle.smv_core.specs.Outcome.{same_path, family_at}
use Rattle.smv_core.specs.FlatMeaning.{set_type}
use Rattle.smv_core.specs.declared.tree.Word.{Word}
use Rattle.smv_core.specs.declared.tree.Text.{Text}
use Rattle.smv_core.specs.declared.tree.Span.{Span}
use Rattle.smv_core.specs.declared.tree.Top.{Top}
use Rattle.smv_core.specs.declared.tree.Top.TheVariants.{SetType, Alias, Module as ModuleOf}
use Rattle.smv_core.specs.declared.tree.TypeExpr.{TypeExpr, Boolean, Range, Enum, Named, Array', Struct', end_of-TypeExpr, more_of-TypeExpr, Row_of-Field, end_of-Field, more_of-Field}
use Rattle.smv_core.specs.declared.tree.Item.{Item, Declare, Instance}
use Rattle.smv_core.specs.declared.flat.SetInfo.{SetInfo}
use Rattle.smv_core.specs.declared.flat.Family.{Family as FlatFamily}
use Rattle.smv_mentions.specs.Scopes.{Constant}
use Rattle.smv_mentions.specs.NameFaults.{place_if}
use Rattle.law_designs.specs.Kinds as kind
use Rattle.law_designs.specs.Types.{Types, Whole, single, leads, index_kind, is_index, is_reversed, range_faults, index_faults, type_faults, field_faults}
use Rattle.law_designs.specs.References.{Module}
use Rattle.law_designs.specs.KindFaults.{in_item, in_top, in_tops, formal_faults}
use Rattle.law_designs.specs.Types as kinds
use Rattle.law_designs.specs.FlatKinds as typed
use Rattle.law_designs.specs.FlatKinds.{is_type, is_index_type, is_kinded_family}
use Rattle.law_designs.specs.Numbers.{Scope, flat_simple, simple_or_empty, flat_over, family_number}
use Rattle.law_designs.specs.Entries.{placed_families}
use Rattle.law_designs.specs.Flattening.{flatten, scope_in, flat_family}
use Rattle.law_designs.specs.Agreement.{IsIndexType, numbers_in}
use Rattle.law_designs.proofs.Numbered.{IsNumbered, HasNumbers, RunsOver, IsNumberedOrNone}
use Rattle.law_designs.proofs.SameFamilies.{families-same}
use Rattle.law_designs.specs.Written.{HasOne, TypeIsWritten, FieldsAreWritten, ItemIsWritten, TopIsWritten}
use Rattle.law_designs.proofs.Faultless.{empty-both, unplaced, no_places, each-map}
use Rattle.law_designs.proofs.Somewhere.{Somewhere, somewhere-place}
use Rattle.law_designs.proofs.LeadTypes.{kind_of, IsFamilyAt, AreCovered, single-covers, single-counts, leads-count, leads-cover, index-simple}
use Rattle.law_designs.proofs.Modules.{AreModules, AreFound, modules-found, AreTypes, types-append, types-count, types-found}
use Rattle.law_flat_kinds.specs.FamiliesFound.{FamiliesAreFound}
use Rattle.law_flat_kinds.proofs.Enumerations.{names-one, one-length}
use Rattle.law_flat_kinds.proofs.Relation.{IsKind, flat_kind, AreOfKinds}

-- ---- the kinds of types

of-kind : (scope : Scope) (t : Simple) → (typed.kind_of (flat_simple scope t) ≡ flat_kind scope (kind_of t)) × IsKind (kind_of t)
of-kind scope (range low high) = (refl, tt)
of-kind scope (choice names) = (refl, tt)
of-kind scope (scalarset name) = (refl, tt)
of-kind scope (ordset name) = (refl, tt)

of-kinds : (scope : Scope) (over : List Simple) → AreOfKinds scope (map (flat_simple scope) over) (map kind_of over)
of-kinds scope [] = tt
of-kinds scope (t ∷ over) = let own = of-kind scope t in (own.0, own.1, of-kinds scope over)

-- ---- families by their paths

placed-get : (scope : Scope) (placed : List (Family × ℕ)) (k : ℕ) (f : Family) → slice_get (map (λ (f, at). f) placed) k ≡ Some f →
    (g : FlatFamily) × (slice_get (map (flat_family scope) placed) k ≡ Some g) × (map (flat_simple scope) f.over ≡ g.over) × (flat_simple scope f.value ≡ g.value)
placed-get scope [] k f e = absurd (cc (e))
placed-get scope ((own, at) ∷ placed) zero f e =
    let same : f ≡ own = sym (same_Some own f e) in (flat_family scope (own, at), refl, ap (λ (f : Family). map (flat_simple scope) f.over) same, ap (λ (f : Family). flat_simple scope f.value) same)
placed-get scope (p ∷ placed) (suc k) f e = placed-get scope placed k f e

-- the family of this path in the text and in the flattened text, where its types have these kinds
abbrev pub FoundAs : Text → Path → Path → Whole → Type 0
FoundAs text here path w =
    (f : Family) × (g : FlatFamily) × (family_at (scope_in text here).families path ≡ Some f) × (slice_get (flatten text).families (family_number (scope_in text here) path) ≡ Some g)
    × AreOfKinds (scope_in text here) g.over w.over × (typed.kind_of g.value ≡ flat_kind (scope_in text here) w.value) × IsKind w.value

pub family-kinded : (text : Text) → FamiliesAreFound text → (here path : Path) (w : Whole) → Somewhere (IsFamilyAt path w) (design_of text).families → FoundAs text here path w
family-kinded text found here path w there =
    let r = somewhere-place (IsFamilyAt path w) (design_of text).families there in
    let own = found r.0 r.1 r.2 in
    let scope : Scope = scope_in text here in
    let g = placed-get scope (placed_families text) r.0 r.1 (ap (λ fs. slice_get fs r.0) (families-same text) ∙ r.2) in
    let place : family_number scope path ≡ r.0 = subst (λ p. family_number scope p ≡ r.0) r.3.0 own.1 in
    let own_kind = of-kind scope r.1.value in (
      r.1,
      g.0,
      ap (λ fs. family_at fs path) (families-same text) ∙ subst (λ p. family_at (design_of text).families p ≡ Some r.1) r.3.0 own.0,
      subst (λ k. slice_get (map (flat_family scope) (placed_families text)) k ≡ Some g.0) (sym place) g.1,
      subst (λ over. AreOfKinds scope over w.over) g.2 (subst (AreOfKinds scope (map (flat_simple scope) r.1.over)) r.3.1 (of-kinds scope r.1.over)),
      ap typed.kind_of (sym g.3) ∙ own_kind.0 ∙ ap (flat_kind scope) r.3.2,
      subst IsKind r.3.2 own_kind.1,
    )

-- ---- types that break no rule

-- a range within 255, an enumeration of something, or a set type
abbrev pub IsFit : Simple → Type 0
IsFit (range low high) = (low ≤ high) × (high ≤ 255)
IsFit (choice names) = HasOne names
IsFit _ = Unit {0}

abbrev pub IsIndexFit : Simple → Type 0
IsIndexFit t = IsFit t × (is_index (kind_of t) ≡ true)

abbrev pub FamilyIsFit : Family → Type 0
FamilyIsFit f = IsFit f.value × AllByRecursion IsIndexFit f.over

abbrev pub AreFit : Shape → Type 0
AreFit shape = AllByRecursion FamilyIsFit shape

abbrev pub TableIsFit : tree.Types → Type 0
TableIsFit types = AllByRecursion (λ (name, shape). AreFit shape) types

pub range-fit : (span : Span) (at : ℕ) → range_faults span at ≡ [] → IsFit (range span.low span.high)
range-fit span at h =
    let both = or_parts (is_reversed span) (nat_lt 255 span.high) (unplaced (is_reversed span || nat_lt 255 span.high) at (no_places 13 (place_if (is_reversed span || nat_lt 255 span.high) at) h)) in
    (ltb-false span.high span.low both.0, ltb-false 255 span.high both.1)

simple-fit : (shape : Shape) → AreFit shape → (t : Simple) → simple_of shape ≡ Some t → IsFit t
simple-fit [] h t e = absurd (cc (e))
simple-fit (f ∷ g ∷ shape) h t e = absurd (cc (e))
simple-fit (f ∷ []) h t e = by_parts f.path f.over e
  where
    by_parts : (path : Path) (over : List Simple) → simple_of (record { path = path; over = over; value = f.value; is_abstract = false } ∷ []) ≡ Some t → IsFit t
    by_parts [] [] e = subst IsFit (same_Some f.value t e) h.0.0
    by_parts [] (u ∷ over) e = absurd (cc (e))
    by_parts (name ∷ path) over e = absurd (cc (e))

named-fit : (types : tree.Types) (name : Name) → TableIsFit types → AreFit (shape_or_none (find_name types name))
named-fit [] name h = tt
named-fit ((other, shape) ∷ types) name h = by_test (bytes_eq other name) (named-fit types name h.1)
  where
    by_test : (b : Bool) → AreFit (shape_or_none (find_name types name)) → AreFit (shape_or_none (cond b (Some shape) (find_name types name)))
    by_test true rest = h.0
    by_test false rest = rest

behind-fit : (front : Path) (shape : Shape) → AreFit shape → AreFit (map (behind front) shape)
behind-fit front [] h = tt
behind-fit front (f ∷ shape) h = (h.0, behind-fit front shape h.1)

words-fit : (shape : Shape) → AreFit shape → (names : List Word) → AreFit (flat_map (λ (word : Word). map (behind (word.name ∷ [])) shape) names)
words-fit shape h [] = tt
words-fit shape h (word ∷ names) = each_append FamilyIsFit (map (behind (word.name ∷ [])) shape) (flat_map (λ (word : Word). map (behind (word.name ∷ [])) shape) names) (behind-fit (word.name ∷ []) shape h) (words-fit shape h names)

indexed-fit : (t : Simple) (shape : Shape) → IsIndexFit t → AreFit shape → AreFit (map (indexed t) shape)
indexed-fit t [] i h = tt
indexed-fit t (f ∷ shape) i h = ((h.0.0, (i, h.0.1)), indexed-fit t shape i h.1)

module _ (known_types : Types) (types : tree.Types) (known : AreCovered known_types types) (table : TableIsFit types) where
  -- an index type is fit, and has the kind of a type
  abbrev pub IsIndex : TypeExpr → Type 0
  IsIndex over = (t : Simple) × (simple types over ≡ Some t) × (index_kind known_types over ≡ kind_of t) × IsIndexFit t

  pub index-fit : (over : TypeExpr) → IsIndexType over → index_faults known_types over ≡ [] → IsIndex over
  unfolding opening
  index-fit Boolean i h = (range 0 1, refl, refl, ((omega arith, omega arith), refl))
  index-fit (Range span at) i h = (range span.low span.high, refl, refl, (range-fit span at h, refl))
  index-fit (Named word at) i h =
      let good : is_index (index_kind known_types (Named word at)) ≡ true = not-false _ (unplaced _ at (no_places 12 _ h)) in
      let t = index-simple known_types types known (Named word at) i h in
      (t.0, t.1, t.2, (simple-fit (shape_or_none (find_name types word.name)) (named-fit types word.name table) t.0 t.1, subst (λ k. is_index k ≡ true) t.2 good))
  index-fit (Enum names at) i h = absurd i
  index-fit (Array' i' index o of) i h = absurd i
  index-fit (Struct' shape fields) i h = absurd i

  mutual
    unfolding opening

    pub shape-fit : (of : TypeExpr) → TypeIsWritten of → type_faults known_types of ≡ [] → AreFit (shape_of types of)
    shape-fit Boolean written h = (((omega arith, omega arith), tt), tt)
    shape-fit (Range span at) written h = ((range-fit span at h, tt), tt)
    shape-fit (Enum names at) written h = ((names-one names written, tt), tt)
    shape-fit (Named word at) written h = named-fit types word.name table
    shape-fit (Array' i (more_of-TypeExpr index end_of-TypeExpr) o (more_of-TypeExpr of end_of-TypeExpr)) written h =
        let both = empty-both (index_faults known_types index) (type_faults known_types of) h in
        let t : IsIndex index = index-fit index written.0 both.0 in
        subst (λ o. AreFit (array_of o (shape_of types of))) (sym t.1) (indexed-fit t.0 (shape_of types of) t.3 (shape-fit of written.1 both.1))
    shape-fit (Struct' shape fields) written h = fields-fit fields written h

    fields-fit : {m : _} (fields : Row_of-Field m) → FieldsAreWritten fields → field_faults known_types fields ≡ [] → AreFit (shape_of_fields types fields)
    fields-fit end_of-Field written h = tt
    fields-fit (more_of-Field names of at rest) written h =
        let both = empty-both (type_faults known_types of) (field_faults known_types rest) h in
        each_append FamilyIsFit (flat_map (λ (word : Word). map (behind (word.name ∷ [])) (shape_of types of)) names) (shape_of_fields types rest)
        (words-fit (shape_of types of) (shape-fit of written.0 both.0) names) (fields-fit rest written.1 both.1)

-- ---- the types of a text

module _ (all_modules : List (Name × Module)) (constants : List (Name × Constant)) where
  pub table-fit : (ks : Types) (ts : tree.Types) → AreTypes ks ts → TableIsFit ts → (tops : List Top) → AllByRecursion TopIsWritten tops → in_tops all_modules constants ks tops ≡ [] → TableIsFit (types_from ts tops)
  unfolding opening
  table-fit ks ts are h [] written fine = h
  table-fit ks ts are h (SetType word false span at ∷ tops) written fine =
      table-fit (ks ++ (word.name, single (kind.set_type word.name)) ∷ []) (ts ++ (word.name, one_value (scalarset word.name)) ∷ [])
      (types-append ks ((word.name, single (kind.set_type word.name)) ∷ []) ts ((word.name, one_value (scalarset word.name)) ∷ []) are (refl, single-covers (kind.set_type word.name) (scalarset word.name) refl, single-counts (kind.set_type word.name), tt))
      (each_append (λ (name, shape). AreFit shape) ts ((word.name, one_value (scalarset word.name)) ∷ []) h (((tt, tt), tt), tt)) tops written.1
      (empty-both (in_top all_modules constants ks (SetType word false span at)) (in_tops all_modules constants (kinds.types_after ks (SetType word false span at)) tops) fine).1
  table-fit ks ts are h (SetType word true span at ∷ tops) written fine =
      table-fit (ks ++ (word.name, single (kind.set_type word.name)) ∷ []) (ts ++ (word.name, one_value (ordset word.name)) ∷ [])
      (types-append ks ((word.name, single (kind.set_type word.name)) ∷ []) ts ((word.name, one_value (ordset word.name)) ∷ []) are (refl, single-covers (kind.set_type word.name) (ordset word.name) refl, single-counts (kind.set_type word.name), tt))
      (each_append (λ (name, shape). AreFit shape) ts ((word.name, one_value (ordset word.name)) ∷ []) h (((tt, tt), tt), tt)) tops written.1
      (empty-both (in_top all_modules constants ks (SetType word true span at)) (in_tops all_modules constants (kinds.types_after ks (SetType word true span at)) tops) fine).1
  table-fit ks ts are h (Alias word of at ∷ tops) written fine =
      let both = empty-both (in_top all_modules constants ks (Alias word of at)) (in_tops all_modules constants (kinds.types_after ks (Alias word of at)) tops) fine in
      table-fit (ks ++ (word.name, leads ks of) ∷ []) (ts ++ (word.name, shape_of ts of) ∷ [])
      (types-append ks ((word.name, leads ks of) ∷ []) ts ((word.name, shape_of ts of) ∷ []) are (refl, leads-cover ks ts (types-found ks ts are) of written.0 both.0, leads-count ks (types-count ks ts are) of, tt))
      (each_append (λ (name, shape). AreFit shape) ts ((word.name, shape_of ts of) ∷ []) h (shape-fit ks ts (types-found ks ts are) h of written.0 both.0, tt)) tops written.1 both.1
  table-fit ks ts are h (ModuleOf word formals body at ∷ tops) written fine =
      table-fit ks ts are h tops written.1 (empty-both (in_top all_modules constants ks (ModuleOf word formals body at)) (in_tops all_modules constants ks tops) fine).1

  -- ---- the families of a text

  module _ (types : tree.Types) (table : TableIsFit types) (bodies : List (Name × Body)) (same_modules : AreModules types all_modules constants all_modules bodies) where
    declared-fit : (shape : Shape) → AreFit shape → (f : Word → Family → Family) → ((word : Word) (g : Family) → FamilyIsFit g → FamilyIsFit (f word g)) → (words : List Word) → AreFit (flat_map (λ word. map (f word) shape) words)
    declared-fit shape h f keeps [] = tt
    declared-fit shape h f keeps (word ∷ words) = each_append FamilyIsFit (map (f word) shape) (flat_map (λ word. map (f word) shape) words) (each-map FamilyIsFit FamilyIsFit (f word) (keeps word) shape h) (declared-fit shape h f keeps words)

    inside-fit : (inside : Path → Name → List Family) → ((here : Path) (name : Name) → AreFit (inside here name)) → (here : Path) (name : Name) (words : List Word) → AreFit (flat_map (λ (word : Word). inside (here ++ word.name ∷ []) name) words)
    inside-fit inside h here name [] = tt
    inside-fit inside h here name (word ∷ words) = each_append FamilyIsFit (inside (here ++ word.name ∷ []) name) (flat_map (λ (word : Word). inside (here ++ word.name ∷ []) name) words) (h (here ++ word.name ∷ []) name) (inside-fit inside h here name words)

    item-fit : (m : Module) → AreCovered m.types types → (inside : Path → Name → List Family) → ((here : Path) (name : Name) → AreFit (inside here name)) → (here : Path) (part : Item) → ItemIsWritten part →
        in_item (record { modules = all_modules; constants = constants; here = m }) [] part ≡ [] → AreFit (families_of_item types bodies inside here part)
    unfolding opening
    item-fit m covered inside h here (Declare role words of at) written fine =
        declared-fit (shape_of types of) (shape-fit m.types types covered table of written (empty-both (flat_map (formal_faults m.types role of) words) (type_faults m.types of) fine).1) (λ word. declared_as role (here ++ word.name ∷ [])) (λ word g k. k) words
    item-fit m covered inside h here (Instance words name args at) written fine = inside-fit inside h here name.name words
    item-fit m covered inside h here _ written fine = tt

    items-fit : (m : Module) → AreCovered m.types types → (inside : Path → Name → List Family) → ((here : Path) (name : Name) → AreFit (inside here name)) → (here : Path) (items : List Item) → AllByRecursion ItemIsWritten items →
        flat_map (in_item (record { modules = all_modules; constants = constants; here = m }) []) items ≡ [] → AreFit (flat_map (families_of_item types bodies inside here) items)
    items-fit m covered inside h here [] written fine = tt
    items-fit m covered inside h here (part ∷ items) written fine =
        let both = empty-both (in_item (record { modules = all_modules; constants = constants; here = m }) [] part) (flat_map (in_item (record { modules = all_modules; constants = constants; here = m }) []) items) fine in
        each_append FamilyIsFit (families_of_item types bodies inside here part) (flat_map (families_of_item types bodies inside here) items) (item-fit m covered inside h here part written.0 both.0) (items-fit m covered inside h here items written.1 both.1)

    pub families-fit : (k : ℕ) (here : Path) (name : Name) → AreFit (families_in types bodies k here name)
    families-fit zero here name = tt
    families-fit (suc k) here name = by_found (find_name all_modules name) (find_name bodies name) (modules-found types all_modules constants all_modules bodies same_modules name) (families-fit k)
      where
        by_found : (o : Option Module) (b : Option Body) → AreFound types all_modules constants o b → ((here : Path) (name : Name) → AreFit (families_in types bodies k here name)) →
            AreFit (flat_map (families_of_item types bodies (families_in types bodies k) here) (unwrap_or b (record { formals = []; items = [] })).items)
        by_found None None found inner = tt
        by_found None (Some body) found inner = absurd found
        by_found (Some m) None found inner = absurd found
        by_found (Some m) (Some body) found inner = items-fit m found.0 (families_in types bodies k) inner here body.items found.4 found.5

-- ---- the flattened text

abbrev names_in : Simple → List Name
names_in (choice names) = names
names_in _ = []

abbrev is_set : Simple → Bool
is_set (scalarset name) = true
is_set (ordset name) = true
is_set _ = false

module _ (text : Text) (sizes : Sizes) (here : Path) where
  set-there : (t : Simple) (k : ℕ) → is_set t ≡ true → set_type (slice_get (flatten text).sets k) ≡ t → nat_lt k (length (flatten text).sets) ≡ true
  set-there t k set e = by_found (slice_get (flatten text).sets k) refl (ap is_set e ∙ set)
    where
      by_found : (o : Option SetInfo) → slice_get (flatten text).sets k ≡ o → is_set (set_type o) ≡ true → nat_lt k (length (flatten text).sets) ≡ true
      by_found None e h = absurd (cc (h))
      by_found (Some info) e h = lt-ltb k (length (flatten text).sets) (slice_get_within (flatten text).sets k info e)

  pub type-kept : (t : Simple) → IsFit t → IsNumbered (scope_in text here) (numbers_in text sizes) t → is_type (flatten text) (flat_simple (scope_in text here) t) ≡ true
  type-kept (range low high) fit n = and_from (nat_le low high) (nat_le high 255) (le-leb low high fit.0) (le-leb high 255 fit.1)
  type-kept (choice names) fit n =
      let same : names ≡ get_or (flatten text).enums (position_or_len (same_path names) (flatten text).enums) [] = sym (ap names_in n) in
      one-length (get_or (flatten text).enums (position_or_len (same_path names) (flatten text).enums) []) (subst HasOne same fit)
  type-kept (scalarset name) fit n = set-there (scalarset name) (position_or_len (λ (info : SetInfo). bytes_eq info.name name) (flatten text).sets) refl n
  type-kept (ordset name) fit n = set-there (ordset name) (position_or_len (λ (info : SetInfo). bytes_eq info.name name) (flatten text).sets) refl n

  pub index-kept : (t : Simple) → IsIndexFit t → IsNumbered (scope_in text here) (numbers_in text sizes) t → is_index_type (flatten text) (flat_simple (scope_in text here) t) ≡ true
  index-kept (range low high) fit n = type-kept (range low high) fit.0 n
  index-kept (choice names) fit n = absurd (cc (fit.1))
  index-kept (scalarset name) fit n = type-kept (scalarset name) fit.0 n
  index-kept (ordset name) fit n = type-kept (ordset name) fit.0 n

  -- an index type, and a binder's
  pub over-kept : (over : TypeExpr) (t : Simple) → simple (scope_in text here).types over ≡ Some t → IsIndexFit t → RunsOver (scope_in text here) (numbers_in text sizes) over →
      (is_index_type (flatten text) (flat_over (scope_in text here) over) ≡ true) × (typed.kind_of (flat_over (scope_in text here) over) ≡ flat_kind (scope_in text here) (kind_of t)) × IsKind (kind_of t)
  over-kept over t e fit n =
      let scope : Scope = scope_in text here in
      let own : IsNumbered scope (numbers_in text sizes) t = subst (IsNumberedOrNone scope (numbers_in text sizes)) e n in
      let k = of-kind scope t in
      (ap (λ o. is_index_type (flatten text) (simple_or_empty scope o)) e ∙ index-kept t fit own, ap (λ o. typed.kind_of (simple_or_empty scope o)) e ∙ k.0, k.1)

  indexes-kept : (over : List Simple) → AllByRecursion IsIndexFit over → All (IsNumbered (scope_in text here) (numbers_in text sizes)) over → list_all (is_index_type (flatten text)) (map (flat_simple (scope_in text here)) over) ≡ true
  indexes-kept [] fit n = refl
  indexes-kept (t ∷ over) fit n =
      and_from (is_index_type (flatten text) (flat_simple (scope_in text here) t)) (list_all (is_index_type (flatten text)) (map (flat_simple (scope_in text here)) over))
      (index-kept t fit.0 (All-head (IsNumbered (scope_in text here) (numbers_in text sizes)) t over n)) (indexes-kept over fit.1 (All-tail (IsNumbered (scope_in text here) (numbers_in text sizes)) t over n))

  pub families-kept : (placed : List (Family × ℕ)) → AreFit (map (λ (f, at). f) placed) → All (HasNumbers (scope_in text here) (numbers_in text sizes)) (map (λ (f, at). f) placed) → list_all (is_kinded_family (flatten text)) (map (flat_family (scope_in text here)) placed) ≡ true
  families-kept [] fit n = refl
  families-kept ((f, at) ∷ placed) fit n =
      let own = All-head (HasNumbers (scope_in text here) (numbers_in text sizes)) f (map (λ (f, at). f) placed) n in
      and_from (is_kinded_family (flatten text) (flat_family (scope_in text here) (f, at))) (list_all (is_kinded_family (flatten text)) (map (flat_family (scope_in text here)) placed))
      (and_from (list_all (is_index_type (flatten text)) (map (flat_simple (scope_in text here)) f.over)) (is_type (flatten text) (flat_simple (scope_in text here) f.value)) (indexes-kept f.over fit.0.1 own.1) (type-kept f.value fit.0.0 own.0))
      (families-kept placed fit.1 (All-tail (HasNumbers (scope_in text here) (numbers_in text sizes)) f (map (λ (f, at). f) placed) n))
