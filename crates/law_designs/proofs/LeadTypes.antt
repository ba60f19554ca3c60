-- Where a type leads to a single value it has a family, and a whole reference has a kind for each index.
use Rattle.law_designs.proofs.Opening.{opening}
use Rattle.std.proofs.Common.{◌≡◌, List, [], ◌∷◌, ◌++◌, map, flat_map, length, Option, Some, None, option_map, option_and_then, Bool, true, false, cond, inl, refl, sym, ap, ◌∙◌, subst, arith}
use Rattle.std.specs.List.{AllByRecursion}
use Rattle.std.specs.Str.{bytes_eq}
use Rattle.std.proofs.lemmas.Slice.Eq.{bytes_eq-Decides}
use Rattle.std.proofs.lemmas.Option.{same_Some}
use Rattle.std.proofs.lemmas.Bool.{not-false}
use Rattle.smv_core.specs.Values.{Name, Path, Simple, range, choice, scalarset, ordset}
use Rattle.smv_core.specs.Types as tree
use Rattle.smv_core.specs.Types.{Family, Shape, find_name, names_of, simple_of, shape_of, shape_of_fields, shape_or_none, one_value, array_of, indexed, behind}
use Rattle.smv_core.specs.Outcome.{fields_of}
use Rattle.smv_core.specs.Walk.{indexes_of}
use Rattle.smv_core.specs.declared.tree.Word.{Word}
use Rattle.smv_core.specs.declared.tree.Part.{Part, Field, At}
use Rattle.smv_core.specs.declared.tree.TypeExpr.{TypeExpr, Boolean, Range, Enum, Named, Array', Struct', end_of-TypeExpr, more_of-TypeExpr, Row_of-Field, end_of-Field, more_of-Field}
use Rattle.smv_mentions.specs.Mentions.{What, signal, instance, goal}
use Rattle.smv_mentions.specs.Scopes.{Own, has_name}
use Rattle.law_designs.specs.Kinds.{Kind, number, enumeration, set_type}
use Rattle.law_designs.specs.Types.{Whole, Leads, single, under, value_kind, Types, leads, leads_field, index_kind, is_index, index_faults, type_faults, field_faults}
use Rattle.law_designs.specs.References.{Module}
use Rattle.law_designs.specs.References as kinds
use Rattle.law_designs.specs.Agreement.{IsIndexType}
use Rattle.law_designs.specs.Written.{TypeIsWritten, FieldsAreWritten}
use Rattle.law_designs.proofs.Somewhere.{Somewhere, somewhere-front, somewhere-behind, somewhere-map, somewhere-flat_map}
use Rattle.law_designs.proofs.Faultless.{empty-both, unplaced, no_places, found-each}

-- what is mapped is there
pub mapped : {X Y : Type 0} (f : X → Y) (o : Option X) (y : Y) → option_map f o ≡ Some y → (x : X) × (o ≡ Some x) × (f x ≡ y)
unfolding opening
mapped f None y h = absurd (cc (h))
mapped f (Some x) y h = (x, refl, same_Some (f x) y h)

-- ---- as many kinds as indexes

-- a whole reference has a kind for each index
abbrev pub CountsIndexes : Leads → Type 0
CountsIndexes l = (parts : List Part) (w : Whole) → l parts ≡ Some w → length w.over ≡ length (indexes_of parts)

pub single-counts : (kind : Kind) → CountsIndexes (single kind)
unfolding opening
single-counts kind [] w h = ap (λ v. length v.over) (sym (same_Some {A = Whole} (record { over = []; value = kind }) w h))
single-counts kind (part ∷ parts) w h = absurd (cc (h))

abbrev pub TypesCount : Types → Type 0
TypesCount types = AllByRecursion (λ (name, l). CountsIndexes l) types

module _ (types : Types) (counted : TypesCount types) where
  mutual
    unfolding opening

    pub leads-count : (of : TypeExpr) (parts : List Part) (w : Whole) → leads types of parts ≡ Some w → length w.over ≡ length (indexes_of parts)
    leads-count Boolean parts w h = single-counts number parts w h
    leads-count (Range span at) parts w h = single-counts number parts w h
    leads-count (Enum names at) parts w h = single-counts (enumeration (names_of names)) parts w h
    leads-count (Named word at) parts w h = by_found (find_name types word.name) refl h
      where
        by_found : (o : Option Leads) → find_name types word.name ≡ o → option_and_then (λ named. named parts) o ≡ Some w → length w.over ≡ length (indexes_of parts)
        by_found None e h = absurd (cc (h))
        by_found (Some l) e h = found-each CountsIndexes types word.name l counted e parts w h
    leads-count (Array' i (more_of-TypeExpr index end_of-TypeExpr) o (more_of-TypeExpr of end_of-TypeExpr)) [] w h = absurd (cc (h))
    leads-count (Array' i (more_of-TypeExpr index end_of-TypeExpr) o (more_of-TypeExpr of end_of-TypeExpr)) (Field word ∷ parts) w h = absurd (cc (h))
    leads-count (Array' i (more_of-TypeExpr index end_of-TypeExpr) o (more_of-TypeExpr of end_of-TypeExpr)) (At e ∷ parts) w h =
        let kind : Kind = value_kind (leads types index []) in
        let own : (v : Whole) × (leads types of parts ≡ Some v) × (under kind v ≡ w) = mapped (under kind) (leads types of parts) w h in
        let rest : length own.0.over ≡ length (indexes_of parts) = leads-count of parts own.0 own.1 in
        let step : length (kind ∷ own.0.over) ≡ length (e ∷ indexes_of parts) = omega (arith, rest) in
        ap (λ v. length v.over) (sym own.2) ∙ step
    leads-count (Struct' shape fields) [] w h = absurd (cc (h))
    leads-count (Struct' shape fields) (At e ∷ parts) w h = absurd (cc (h))
    leads-count (Struct' shape fields) (Field word ∷ parts) w h = fields-count fields word parts w h

    fields-count : {m : _} (fields : Row_of-Field m) (word : Word) (parts : List Part) (w : Whole) → leads_field types fields word parts ≡ Some w → length w.over ≡ length (indexes_of parts)
    fields-count end_of-Field word parts w h = absurd (cc (h))
    fields-count (more_of-Field names of at rest) word parts w h = by_name (has_name names word.name) h (leads-count of parts w) (fields-count rest word parts w)
      where
        by_name : (b : Bool) → cond b (leads types of parts) (leads_field types rest word parts) ≡ Some w → (leads types of parts ≡ Some w → length w.over ≡ length (indexes_of parts)) →
            (leads_field types rest word parts ≡ Some w → length w.over ≡ length (indexes_of parts)) → length w.over ≡ length (indexes_of parts)
        by_name true h own rest = own h
        by_name false h own rest = rest h

module _ (modules : List (Name × Module)) (all : AllByRecursion (λ (name, m). TypesCount m.types) modules) where
  pub behind-count : (types : Types) → TypesCount types → (what : What) (parts : List Part) (w : Whole) → kinds.behind modules types what parts ≡ Some w → length w.over ≡ length (indexes_of parts)
  unfolding opening
  behind-count types counted (signal role of) parts w h = leads-count types counted of parts w h
  behind-count types counted goal parts w h = absurd (cc (h))
  behind-count types counted (instance name) [] w h = absurd (cc (h))
  behind-count types counted (instance name) (At e ∷ parts) w h = absurd (cc (h))
  behind-count types counted (instance name) (Field word ∷ parts) w h = by_module (find_name modules name.name) refl h (λ types counted what k. behind-count types counted what parts w k)
    where
      by_own : (m : Module) → TypesCount m.types → (o : Option Own) → option_and_then (λ (own : Own). kinds.behind modules m.types own.what parts) o ≡ Some w →
          ((types : Types) → TypesCount types → (what : What) → kinds.behind modules types what parts ≡ Some w → length w.over ≡ length (indexes_of parts)) → length w.over ≡ length (indexes_of parts)
      by_own m counted None h rest = absurd (cc (h))
      by_own m counted (Some own) h rest = rest m.types counted own.what h

      by_module : (o : Option Module) → find_name modules name.name ≡ o → option_and_then (λ (m : Module). option_and_then (λ (own : Own). kinds.behind modules m.types own.what parts) (find_name m.own word.name)) o ≡ Some w →
          ((types : Types) → TypesCount types → (what : What) → kinds.behind modules types what parts ≡ Some w → length w.over ≡ length (indexes_of parts)) → length w.over ≡ length (indexes_of parts)
      by_module None e h rest = absurd (cc (h))
      by_module (Some m) e h rest = by_own m (found-each (λ (m : Module). TypesCount m.types) modules name.name m all e) (find_name m.own word.name) h rest

-- ---- families of single values

-- the kind of the values of a type
abbrev pub kind_of : Simple → Kind
kind_of (range low high) = number
kind_of (choice names) = enumeration names
kind_of (scalarset name) = set_type name
kind_of (ordset name) = set_type name

-- a family of this path, whose types have the kinds of this reference
abbrev pub IsFamilyAt : Path → Whole → Family → Type 0
IsFamilyAt path w f = (f.path ≡ path) × (map kind_of f.over ≡ w.over) × (kind_of f.value ≡ w.value)

-- where a type leads to a single value its shape has a family of the fields' path, whose types have the kinds that it leads to, and where it leads there at once it is a
-- type of one value
abbrev pub Covers : Leads → Shape → Type 0
Covers l shape = ((parts : List Part) (w : Whole) → l parts ≡ Some w → Somewhere (IsFamilyAt (fields_of parts) w) shape) × ((w : Whole) → l [] ≡ Some w → (t : Simple) × (simple_of shape ≡ Some t) × (w.value ≡ kind_of t))

pub single-covers : (kind : Kind) (t : Simple) → kind_of t ≡ kind → Covers (single kind) (one_value t)
unfolding opening
single-covers kind t e = (λ parts w h. at_once parts w h, λ w h. (t, refl, ap (λ v. v.value) (sym (same_Some {A = Whole} (record { over = []; value = kind }) w h)) ∙ sym e))
  where
    at_once : (parts : List Part) (w : Whole) → single kind parts ≡ Some w → Somewhere (IsFamilyAt (fields_of parts) w) (one_value t)
    at_once [] w h = let same = same_Some {A = Whole} (record { over = []; value = kind }) w h in inl (refl, ap (λ v. v.over) same, e ∙ ap (λ v. v.value) same)
    at_once (part ∷ parts) w h = absurd (cc (h))

named-covers : (o : Option Leads) (s : Option Shape) → ((l : Leads) → o ≡ Some l → (shape : Shape) × (s ≡ Some shape) × Covers l shape) → Covers (λ parts. option_and_then (λ named. named parts) o) (shape_or_none s)
unfolding opening
named-covers None s h = (λ parts w g. absurd (cc (g)), λ w g. absurd (cc (g)))
named-covers (Some l) s h =
    let own : (shape : Shape) × (s ≡ Some shape) × Covers l shape = h l refl in
    subst (λ o. Covers l (shape_or_none o)) (sym own.1) own.2

is-index-leads : (o : Option Whole) → is_index (value_kind o) ≡ true → (w : Whole) × (o ≡ Some w)
unfolding opening
is-index-leads None h = absurd (cc (h))
is-index-leads (Some w) h = (w, refl)

-- each type name that is known to the kinds stands for a shape, which it covers
abbrev pub AreCovered : Types → tree.Types → Type 0
AreCovered known_types types = (name : Name) (l : Leads) → find_name known_types name ≡ Some l → (shape : Shape) × (find_name types name ≡ Some shape) × Covers l shape

module _ (known_types : Types) (types : tree.Types) (known : AreCovered known_types types) where
  pub index-simple : (index : TypeExpr) → IsIndexType index → index_faults known_types index ≡ [] → (t : Simple) × (simple_of (shape_of types index) ≡ Some t) × (index_kind known_types index ≡ kind_of t)
  unfolding opening
  index-simple Boolean i h = (range 0 1, refl, refl)
  index-simple (Range span at) i h = (range span.low span.high, refl, refl)
  index-simple (Named word at) i h =
      let good : is_index (index_kind known_types (Named word at)) ≡ true = not-false _ (unplaced _ at (no_places 12 _ h)) in
      let own : (w : Whole) × (leads known_types (Named word at) [] ≡ Some w) = is-index-leads (leads known_types (Named word at) []) good in
      let t = (named-covers (find_name known_types word.name) (find_name types word.name) (known word.name)).1 own.0 own.1 in
      (t.0, t.1, ap value_kind own.1 ∙ t.2)
  index-simple (Enum names at) i h = absurd i
  index-simple (Array' i' index o of) i h = absurd i
  index-simple (Struct' shape fields) i h = absurd i

  mutual
    unfolding opening

    pub leads-cover : (of : TypeExpr) → TypeIsWritten of → type_faults known_types of ≡ [] → Covers (leads known_types of) (shape_of types of)
    leads-cover Boolean written h = single-covers number (range 0 1) refl
    leads-cover (Range span at) written h = single-covers number (range span.low span.high) refl
    leads-cover (Enum names at) written h = single-covers (enumeration (names_of names)) (choice (names_of names)) refl
    leads-cover (Named word at) written h = named-covers (find_name known_types word.name) (find_name types word.name) (known word.name)
    leads-cover (Struct' shape fields) written h = (λ parts w g. by_parts parts w g (λ word parts. fields-cover fields written h word parts w), λ w g. absurd (cc (g)))
      where
        by_parts : (parts : List Part) (w : Whole) → leads known_types (Struct' shape fields) parts ≡ Some w →
            ((word : Word) (parts : List Part) → leads_field known_types fields word parts ≡ Some w → Somewhere (IsFamilyAt (word.name ∷ fields_of parts) w) (shape_of_fields types fields)) →
            Somewhere (IsFamilyAt (fields_of parts) w) (shape_of types (Struct' shape fields))
        by_parts [] w g inner = absurd (cc (g))
        by_parts (At x ∷ parts) w g inner = absurd (cc (g))
        by_parts (Field word ∷ parts) w g inner = inner word parts g
    leads-cover (Array' i (more_of-TypeExpr index end_of-TypeExpr) o (more_of-TypeExpr of end_of-TypeExpr)) written h =
        let faults : (index_faults known_types index ≡ []) × (type_faults known_types of ≡ []) = empty-both (index_faults known_types index) (type_faults known_types of) h in
        (λ parts w g. by_parts (leads-cover of written.1 faults.1) (index-simple index written.0 faults.0) parts w g, λ w g. absurd (cc (g)))
      where
        by_parts : Covers (leads known_types of) (shape_of types of) → (t : Simple) × (simple_of (shape_of types index) ≡ Some t) × (index_kind known_types index ≡ kind_of t) → (parts : List Part) (w : Whole) →
            leads known_types (Array' i (more_of-TypeExpr index end_of-TypeExpr) o (more_of-TypeExpr of end_of-TypeExpr)) parts ≡ Some w →
            Somewhere (IsFamilyAt (fields_of parts) w) (array_of (simple_of (shape_of types index)) (shape_of types of))
        by_parts inner simple [] w g = absurd (cc (g))
        by_parts inner simple (Field word ∷ parts) w g = absurd (cc (g))
        by_parts inner simple (At x ∷ parts) w g =
            let kind : Kind = value_kind (leads known_types index []) in
            let own : (v : Whole) × (leads known_types of parts ≡ Some v) × (under kind v ≡ w) = mapped (under kind) (leads known_types of parts) w g in
            let one_more : (f : Family) → IsFamilyAt (fields_of parts) own.0 f → IsFamilyAt (fields_of parts) w (indexed simple.0 f) =
            λ f at. (at.0, ap (λ k. k ∷ map kind_of f.over) (sym simple.2) ∙ ap (λ ks. kind ∷ ks) at.1 ∙ ap (λ v. v.over) own.2, at.2 ∙ ap (λ v. v.value) own.2) in
            subst (λ o. Somewhere (IsFamilyAt (fields_of parts) w) (array_of o (shape_of types of))) (sym simple.1)
            (somewhere-map (IsFamilyAt (fields_of parts) own.0) (IsFamilyAt (fields_of parts) w) (indexed simple.0) one_more (shape_of types of) (inner.0 parts own.0 own.1))

    fields-cover : {m : _} (fields : Row_of-Field m) → FieldsAreWritten fields → field_faults known_types fields ≡ [] → (word : Word) (parts : List Part) (w : Whole) → leads_field known_types fields word parts ≡ Some w →
        Somewhere (IsFamilyAt (word.name ∷ fields_of parts) w) (shape_of_fields types fields)
    fields-cover end_of-Field written h word parts w g = absurd (cc (g))
    fields-cover (more_of-Field names of at rest) written h word parts w g =
        let faults : (type_faults known_types of ≡ []) × (field_faults known_types rest ≡ []) = empty-both (type_faults known_types of) (field_faults known_types rest) h in
        by_name (has_name names word.name) refl g ((leads-cover of written.0 faults.0).0 parts w) (fields-cover rest written.1 faults.1 word parts w)
      where
        here : List Family
        here = flat_map (λ (other : Word). map (behind (other.name ∷ [])) (shape_of types of)) names

        by_name : (b : Bool) → has_name names word.name ≡ b → cond b (leads known_types of parts) (leads_field known_types rest word parts) ≡ Some w → (leads known_types of parts ≡ Some w → Somewhere (IsFamilyAt (fields_of parts) w) (shape_of types of)) →
            (leads_field known_types rest word parts ≡ Some w → Somewhere (IsFamilyAt (word.name ∷ fields_of parts) w) (shape_of_fields types rest)) → Somewhere (IsFamilyAt (word.name ∷ fields_of parts) w) (here ++ shape_of_fields types rest)
        by_name true e g own others =
            somewhere-front (IsFamilyAt (word.name ∷ fields_of parts) w) here (shape_of_fields types rest)
            (somewhere-flat_map (IsFamilyAt (word.name ∷ fields_of parts) w) (λ (other : Word). map (behind (other.name ∷ [])) (shape_of types of)) (λ (other : Word). bytes_eq other.name word.name)
            (λ other same. somewhere-map (IsFamilyAt (fields_of parts) w) (IsFamilyAt (word.name ∷ fields_of parts) w) (behind (other.name ∷ []))
            (λ f at. (ap (λ p. other.name ∷ p) at.0 ∙ ap (λ n. n ∷ fields_of parts) ((bytes_eq-Decides other.name word.name).0 same), at.1, at.2)) (shape_of types of) (own g)) names e)
        by_name false e g own others = somewhere-behind (IsFamilyAt (word.name ∷ fields_of parts) w) here (shape_of_fields types rest) (others g)
