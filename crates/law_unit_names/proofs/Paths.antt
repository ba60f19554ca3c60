-- The paths of families are names that are words.
use Rattle.std.proofs.Common.{◌≡◌, ℕ, zero, suc, List, [], ◌∷◌, ◌++◌, map, flat_map, Option, Some, None, Bool, true, false, if◌then◌else◌, length, unwrap_or, refl}
use Rattle.std.specs.Str.{bytes_eq}
use Rattle.std.specs.List.{AllByRecursion}
use Rattle.law_lists.proofs.Each.{each_append}
use Rattle.smv_core.specs.Values.{Name, Path, Simple, scalarset, ordset}
use Rattle.smv_core.specs.Types.{Family, Shape, Types, one_value, find_name, behind, indexed, simple_of, array_of, shape_or_none, shape_of, shape_of_fields, types_after, types_from}
use Rattle.smv_core.specs.FlatOrder.{Body, modules, main, declared_as, body_of}
use Rattle.smv_core.specs.declared.tree.Word.{Word}
use Rattle.smv_core.specs.declared.tree.TypeExpr.{TypeExpr, Boolean, Range, Enum, Named, Array', Struct', end_of-TypeExpr, more_of-TypeExpr, Row_of-Field, end_of-Field, more_of-Field}
use Rattle.smv_core.specs.declared.tree.Item.{Item, Declare, Instance, Layer, Forall', Block', Claim, Split, Using, Act}
use Rattle.smv_core.specs.declared.tree.Top.{Top}
use Rattle.smv_core.specs.declared.tree.Top.TheVariants.{SetType, Alias, Module}
use Rattle.smv_core.specs.declared.tree.Text.{Text}
use Rattle.law_designs.specs.Entries.{placed_of_item, placed_in, placed_families}
use Rattle.law_designs.specs.Written.{HasOne}
use Rattle.law_designs.proofs.Faultless.{each-map, found-each}
use Rattle.law_unit_names.proofs.Trees.{IsNamed, AreNamed, TypeIsNamed, FieldsAreNamed, ItemIsNamed, TopIsNamed, TextIsNamed}

pub each-flat_map : {X Y : Type 0} (P : X → Type 0) (Q : Y → Type 0) (f : X → List Y) → ((x : X) → P x → AllByRecursion Q (f x)) → (xs : List X) → AllByRecursion P xs → AllByRecursion Q (flat_map f xs)
each-flat_map P Q f h [] all = tt
each-flat_map P Q f h (x ∷ xs) all = each_append Q (f x) (flat_map f xs) (h x all.0) (each-flat_map P Q f h xs all.1)

-- ---- types

abbrev ShapeIsNamed : Shape → Type 0
ShapeIsNamed shape = AllByRecursion (λ (f : Family). AreNamed f.path) shape

abbrev AreNamedTypes : Types → Type 0
AreNamedTypes types = AllByRecursion (λ ((name, shape) : Name × Shape). ShapeIsNamed shape) types

module _ (types : Types) (named : AreNamedTypes types) where
  by_option : (o : Option Shape) → ((shape : Shape) → o ≡ Some shape → ShapeIsNamed shape) → ShapeIsNamed (shape_or_none o)
  by_option None h = tt
  by_option (Some shape) h = h shape refl

  array-named : (o : Option Simple) (shape : Shape) → ShapeIsNamed shape → ShapeIsNamed (array_of o shape)
  array-named None shape h = tt
  array-named (Some t) shape h = each-map (λ (f : Family). AreNamed f.path) (λ (f : Family). AreNamed f.path) (indexed t) (λ f k. k) shape h

  behind-named : (name : Name) → IsNamed name → (shape : Shape) → ShapeIsNamed shape → ShapeIsNamed (map (behind (name ∷ [])) shape)
  behind-named name is shape h = each-map (λ (f : Family). AreNamed f.path) (λ (f : Family). AreNamed f.path) (behind (name ∷ [])) (λ f k. (is, k)) shape h

  mutual
    pub shape-named : (t : TypeExpr) → TypeIsNamed t → ShapeIsNamed (shape_of types t)
    shape-named Boolean h = (tt, tt)
    shape-named (Range span at) h = (tt, tt)
    shape-named (Enum names at) h = (tt, tt)
    shape-named (Named word at) h = by_option (find_name types word.name) (λ shape is. found-each ShapeIsNamed types word.name shape named is)
    shape-named (Array' i (more_of-TypeExpr index end_of-TypeExpr) o (more_of-TypeExpr of end_of-TypeExpr)) h = array-named (simple_of (shape_of types index)) (shape_of types of) (shape-named of h)
    shape-named (Struct' shape fields) h = fields-named fields h

    fields-named : {m : _} (fields : Row_of-Field m) → FieldsAreNamed fields → ShapeIsNamed (shape_of_fields types fields)
    fields-named end_of-Field h = tt
    fields-named (more_of-Field names of at rest) h =
        each_append (λ (f : Family). AreNamed f.path) (flat_map (λ (word : Word). map (behind (word.name ∷ [])) (shape_of types of)) names) (shape_of_fields types rest)
        (each-flat_map (λ (word : Word). IsNamed word.name) (λ (f : Family). AreNamed f.path) (λ (word : Word). map (behind (word.name ∷ [])) (shape_of types of)) (λ word is. behind-named word.name is (shape_of types of) (shape-named of h.0.1)) names h.0.0)
        (fields-named rest h.1)

one-more : (types : Types) (name : Name) (shape : Shape) → AreNamedTypes types → ShapeIsNamed shape → AreNamedTypes (types ++ (name, shape) ∷ [])
one-more types name shape h k = each_append (λ ((name, shape) : Name × Shape). ShapeIsNamed shape) types ((name, shape) ∷ []) h (k, tt)

after-named : (types : Types) → AreNamedTypes types → (top : Top) → TopIsNamed top → AreNamedTypes (types_after types top)
after-named types h (SetType word true span at) k = one-more types word.name (one_value (ordset word.name)) h (tt, tt)
after-named types h (SetType word false span at) k = one-more types word.name (one_value (scalarset word.name)) h (tt, tt)
after-named types h (Alias word of at) k = one-more types word.name (shape_of types of) h (shape-named types h of k)
after-named types h (Module word formals body at) k = h

types-named : (known : Types) → AreNamedTypes known → (tops : List Top) → AllByRecursion TopIsNamed tops → AreNamedTypes (types_from known tops)
types-named known h [] k = h
types-named known h (top ∷ tops) k = types-named (types_after known top) (after-named known h top k.0) tops k.1

-- ---- modules

abbrev BodyIsNamed : Body → Type 0
BodyIsNamed body = AllByRecursion ItemIsNamed body.items

abbrev pub AreNamedBodies : List (Name × Body) → Type 0
AreNamedBodies bodies = AllByRecursion (λ ((name, body) : Name × Body). BodyIsNamed body) bodies

pub modules-named : (tops : List Top) → AllByRecursion TopIsNamed tops → AreNamedBodies (modules tops)
modules-named [] h = tt
modules-named (SetType word ordered span at ∷ tops) h = modules-named tops h.1
modules-named (Alias word of at ∷ tops) h = modules-named tops h.1
modules-named (Module word formals body at ∷ tops) h = (h.0, modules-named tops h.1)

pub body-named : (types : Types) (bodies : List (Name × Body)) → AreNamedBodies bodies → (name : Name) → AllByRecursion ItemIsNamed (body_of types bodies name).items
body-named types [] h name = tt
body-named types ((other, body) ∷ bodies) h name = by_name (bytes_eq other name) h (λ k. body-named types bodies k name)
  where
    by_name : (b : Bool) → BodyIsNamed body × AreNamedBodies bodies → (AreNamedBodies bodies → BodyIsNamed (unwrap_or (find_name bodies name) (record { formals = []; items = [] }))) →
        BodyIsNamed (unwrap_or (if b then Some body else find_name bodies name) (record { formals = []; items = [] }))
    by_name true h goes = h.0
    by_name false h goes = goes h.1

-- ---- families

-- names that are words, at least one
abbrev pub IsPath : Path → Type 0
IsPath path = AreNamed path × HasOne path

pub path-behind : (here : Path) → AreNamed here → (name : Name) → IsNamed name → (path : Path) → AreNamed path → IsPath ((here ++ name ∷ []) ++ path)
path-behind [] h name is path k = ((is, k), tt)
path-behind (other ∷ here) h name is path k = ((h.0, (path-behind here h.1 name is path k).0), tt)

pub longer : (here : Path) → AreNamed here → (name : Name) → IsNamed name → AreNamed (here ++ name ∷ [])
longer here h name is = each_append IsNamed here (name ∷ []) h (is, tt)

pub path-of : (here : Path) → AreNamed here → (name : Name) → IsNamed name → IsPath (here ++ name ∷ [])
path-of [] h name is = ((is, tt), tt)
path-of (other ∷ here) h name is = ((h.0, (path-of here h.1 name is).0), tt)

abbrev PlacedIsNamed : Family × ℕ → Type 0
PlacedIsNamed p = IsPath p.0.path

module _ (types : Types) (named : AreNamedTypes types) (bodies : List (Name × Body)) (bodied : AreNamedBodies bodies) where
  abbrev AreInside : (Path → Name → List (Family × ℕ)) → Type 0
  AreInside inside = (here : Path) → AreNamed here → (name : Name) → AllByRecursion PlacedIsNamed (inside here name)

  item-placed : (inside : Path → Name → List (Family × ℕ)) → AreInside inside → (here : Path) → AreNamed here → (item : Item) → ItemIsNamed item → AllByRecursion PlacedIsNamed (placed_of_item types bodies inside here item)
  item-placed inside goes here h (Declare role words of at) k =
      each-flat_map (λ (word : Word). IsNamed word.name) PlacedIsNamed (λ (word : Word). map (λ (f : Family). (declared_as role (here ++ word.name ∷ []) f, word.at)) (shape_of types of))
      (λ word is. each-map (λ (f : Family). AreNamed f.path) PlacedIsNamed (λ (f : Family). (declared_as role (here ++ word.name ∷ []) f, word.at)) (λ f own. path-behind here h word.name is f.path own) (shape_of types of) (shape-named types named of k.1)) words k.0
  item-placed inside goes here h (Instance words name args at) k =
      each-flat_map (λ (word : Word). IsNamed word.name) PlacedIsNamed (λ (word : Word). inside (here ++ word.name ∷ []) name.name) (λ word is. goes (here ++ word.name ∷ []) (longer here h word.name is) name.name) words k
  item-placed inside goes here h (Layer word body at) k = tt
  item-placed inside goes here h (Forall' var over shape body at) k = tt
  item-placed inside goes here h (Block' shape items) k = tt
  item-placed inside goes here h (Claim word vars body at) k = tt
  item-placed inside goes here h (Split word vars of pairs at) k = tt
  item-placed inside goes here h (Using uses proves at) k = tt
  item-placed inside goes here h (Act act) k = tt

  placed-named : (n : ℕ) → AreInside (placed_in types bodies n)
  placed-named zero here h name = tt
  placed-named (suc n) here h name =
      each-flat_map ItemIsNamed PlacedIsNamed (placed_of_item types bodies (placed_in types bodies n) here) (λ item k. item-placed (placed_in types bodies n) (placed-named n) here h item k) (body_of types bodies name).items (body-named types bodies bodied name)

-- the families of a text whose names are words
pub families-named : (text : Text) → TextIsNamed text → AllByRecursion (λ (p : Family × ℕ). IsPath p.0.path) (placed_families text)
families-named text h =
    placed-named (types_from [] text.tops) (types-named [] tt text.tops h) (modules text.tops) (modules-named text.tops h) (length (modules text.tops)) [] tt main
