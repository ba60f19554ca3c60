-- Where something stands, by the tops of a text.
use Rattle.std.proofs.Common.{◌≡◌, ℕ, suc, ◌+◌, ◌≤◌, List, [], ◌∷◌, map, take, drop, length, get_or, Bool, true, false, cond, Bor, refl, ap, sym, ◌∙◌}
use Rattle.std.specs.Prelude.{Option, Some, None, option_map, option_and_then, slice_get}
use Rattle.std.specs.Str.{bytes_eq}
use Rattle.smv_core.specs.Values.{Name}
use Rattle.std.specs.Option.{option_map_or}
use Rattle.law_lists.proofs.Places.{first_read}
use Rattle.smv_core.specs.Types.{find_name, names_of}
use Rattle.smv_core.specs.declared.tree.Word.{Word}
use Rattle.smv_core.specs.declared.tree.Text.{Text}
use Rattle.smv_core.specs.declared.tree.Top.{Top}
use Rattle.smv_core.specs.declared.tree.Top.TheVariants.{SetType, Alias, Module as ModuleOf}
use Rattle.smv_core.specs.declared.tree.Part.{Part, Field, At}
use Rattle.smv_mentions.specs.Mentions.{instance}
use Rattle.smv_mentions.specs.Scopes.{Own, Constant, pieces, constants}
use Rattle.law_designs.specs.Kinds.{Kind, enumeration}
use Rattle.law_designs.specs.Types.{Types, Whole, single, types_after}
use Rattle.law_designs.specs.References.{Module, modules_from, Scope, Vars, behind, signal_at, constant_at, variable_at, reference_at}
use Rattle.smv_expression_kinds.specs.declared.lookups.Scope.{Scope as HeldScope}
use Rattle.smv_scope.specs.Held.{own_of, constant_beside}
use Rattle.smv_scope.proofs.PieceLaws.{constant-found}
use Rattle.smv_scope.specs.declared.tables.Own.{Own as HeldOwn}
use Rattle.smv_scope.specs.declared.tables.Constant.{Constant as HeldConstant}
use Rattle.smv_expression_kinds.specs.declared.kinds.ValueKind.{ValueKind}
use Rattle.smv_expression_kinds.specs.Forms.{kind_of, types_from, types_before, module_in, modules_in}
use Rattle.smv_expression_kinds.specs.Found.{scope_of, moved, whole_in, lone, inner_leads}
use Rattle.smv_expression_kinds.proofs.PlaceLaws.{from, from-suc, from-zero, here-or}

pub module-types : (types : Types) (top : Option Top) → (module_in types top).types ≡ types
module-types types None = refl
module-types types (Some (SetType word ordered span at)) = refl
module-types types (Some (Alias word of at)) = refl
module-types types (Some (ModuleOf word formals body at)) = refl

-- the types before a top are those of its module
pub here-types : (scope : HeldScope) → (scope_of scope).here.types ≡ types_before scope.tables.now.names.text.now scope.place
unfolding scope_of
here-types scope = module-types (types_before scope.tables.now.names.text.now scope.place) (slice_get scope.tables.now.names.text.now.tops scope.place)

pub ruleset here = (here-types)

module _ (scope : HeldScope) where
  pub here-is : (scope_of scope).here ≡ module_in (types_before scope.tables.now.names.text.now scope.place) (slice_get scope.tables.now.names.text.now.tops scope.place)
  unfolding scope_of
  here-is = refl

  pub formals-are : (top : Option Top) → slice_get scope.tables.now.names.text.now.tops scope.place ≡ top
      → (scope_of scope).here.formals ≡ (module_in (types_before scope.tables.now.names.text.now scope.place) top).formals
  formals-are top is = ap (λ (m : Module). m.formals) here-is ∙ ap (λ o. (module_in (types_before scope.tables.now.names.text.now scope.place) o).formals) is

  pub own-here : (name : Name) (own : Option HeldOwn) → ((types : Types) → find_name (module_in types (slice_get scope.tables.now.names.text.now.tops scope.place)).own name ≡ option_map own_of own)
      → find_name (scope_of scope).here.own name ≡ option_map own_of own
  own-here name own owned = ap (λ (m : Module). find_name m.own name) here-is ∙ owned (types_before scope.tables.now.names.text.now scope.place)

  pub modules-are : (scope_of scope).modules ≡ modules_from [] scope.tables.now.names.text.now.tops
  unfolding scope_of
  modules-are = refl

  pub constants-are : (scope_of scope).constants ≡ constants (pieces scope.tables.now.names.text.now)
  unfolding scope_of
  constants-are = refl

  pub signal-field : (word : Word) (parts : List Part)
      → signal_at (scope_of scope) (Field word ∷ parts)
      ≡ option_and_then (λ (own : Own). behind (modules_from [] scope.tables.now.names.text.now.tops) (types_before scope.tables.now.names.text.now scope.place) own.what parts)
      (find_name (module_in (types_before scope.tables.now.names.text.now scope.place) (slice_get scope.tables.now.names.text.now.tops scope.place)).own word.name)
  unfolding scope_of
  signal-field word parts =
      ap (λ types. option_and_then (λ (own : Own). behind (modules_from [] scope.tables.now.names.text.now.tops) types own.what parts)
      (find_name (module_in (types_before scope.tables.now.names.text.now scope.place) (slice_get scope.tables.now.names.text.now.tops scope.place)).own word.name)) (here-types scope)

-- ---- modules by their numbers

abbrev module_place : List Top → Name → Option ℕ
module_place [] name = None
module_place (SetType word ordered span at ∷ tops) name = option_map suc (module_place tops name)
module_place (Alias word of at ∷ tops) name = option_map suc (module_place tops name)
module_place (ModuleOf word formals body at ∷ tops) name = cond (bytes_eq word.name name) (Some 0) (option_map suc (module_place tops name))

module-found : (n : ℕ) (tops : List Top) (name : Name) → find_name (modules_in n tops) name ≡ from n (module_place tops name)
module-found n [] name = refl
module-found n (SetType word ordered span at ∷ tops) name = module-found (n + 1) tops name ∙ from-suc n (module_place tops name)
module-found n (Alias word of at ∷ tops) name = module-found (n + 1) tops name ∙ from-suc n (module_place tops name)
module-found n (ModuleOf word formals body at ∷ tops) name = here-or n (bytes_eq word.name name) _ _ (module-found (n + 1) tops name ∙ from-suc n (module_place tops name))

abbrev module_from : Types → List Top → ℕ → Module
module_from types tops i = module_in (types_from types (take i tops)) (slice_get tops i)

deeper : (types : Types) (top : Top) (tops : List Top) (o : Option ℕ) → option_map (module_from (types_after types top) tops) o ≡ option_map (module_from types (top ∷ tops)) (option_map suc o)
deeper types top tops None = refl
deeper types top tops (Some i) = refl

module-here : (b : Bool) (m : Module) (o : Option Module) (types : Types) (top : Top) (tops : List Top) (p : Option ℕ) → m ≡ module_from types (top ∷ tops) 0
    → o ≡ option_map (module_from types (top ∷ tops)) p → cond b (Some m) o ≡ option_map (module_from types (top ∷ tops)) (cond b (Some 0) p)
module-here true m o types top tops p e f = ap Some e
module-here false m o types top tops p e f = f

module-is : (types : Types) (tops : List Top) (name : Name) → find_name (modules_from types tops) name ≡ option_map (module_from types tops) (module_place tops name)
module-is types [] name = refl
module-is types (SetType word ordered span at ∷ tops) name = module-is (types_after types (SetType word ordered span at)) tops name ∙ deeper types (SetType word ordered span at) tops (module_place tops name)
module-is types (Alias word of at ∷ tops) name = module-is (types_after types (Alias word of at)) tops name ∙ deeper types (Alias word of at) tops (module_place tops name)
module-is types (ModuleOf word formals body at ∷ tops) name =
    module-here (bytes_eq word.name name) _ _ types (ModuleOf word formals body at) tops _ refl (module-is types tops name ∙ deeper types (ModuleOf word formals body at) tops (module_place tops name))

-- the module of a name, by the number of its top
pub module-named : (text : Text) (name : Name) → find_name (modules_from [] text.tops) name ≡ option_map (λ i. module_in (types_before text i) (slice_get text.tops i)) (find_name (modules_in 0 text.tops) name)
module-named text name =
    module-is [] text.tops name ∙ ap (option_map (λ i. module_in (types_before text i) (slice_get text.tops i))) (sym (module-found 0 text.tops name ∙ from-zero (module_place text.tops name)))

pub moved-module : (scope : HeldScope) (name : Name) → find_name (scope_of scope).modules name ≡ option_map (λ place. (scope_of (moved scope place)).here) (find_name (modules_in 0 scope.tables.now.names.text.now.tops) name)
unfolding scope_of
moved-module scope name = module-named scope.tables.now.names.text.now name

-- ---- behind an instance

module _ (text : Text) (word named_word : Word) (named : Name) (part : Part) (parts : List Part) (types : Types) where
  abbrev modules : List (Name × Module)
  modules = modules_from [] text.tops

  -- what stands behind a name of a module
  abbrev own_leads : Types → Option Own → Option Whole
  own_leads known own = option_and_then (λ (own : Own). behind modules known own.what parts) own

  abbrev module_leads : Module → Option Whole
  module_leads m = own_leads m.types (find_name m.own named_word.name)

  abbrev place_leads : ℕ → Option Whole
  place_leads i = own_leads (types_before text i) (find_name (module_in (types_before text i) (slice_get text.tops i)).own named_word.name)

  by-place : (o : Option ℕ) → option_and_then module_leads (option_map (λ i. module_in (types_before text i) (slice_get text.tops i)) o) ≡ option_and_then place_leads o
  by-place None = refl
  by-place (Some i) =
      ap (λ known. own_leads known (find_name (module_in (types_before text i) (slice_get text.tops i)).own named_word.name)) (module-types (types_before text i) (slice_get text.tops i))

  instance-is : part ≡ Field named_word → word.name ≡ named → behind modules types (instance word) (part ∷ parts) ≡ option_and_then place_leads (find_name (modules_in 0 text.tops) named)
  instance-is is same =
      ap (λ p. behind modules types (instance word) (p ∷ parts)) is
      ∙ ap (λ n. option_and_then module_leads (find_name modules n)) same
      ∙ ap (option_and_then module_leads) (module-named text named)
      ∙ by-place (find_name (modules_in 0 text.tops) named)

  pub inside-no-module : part ≡ Field named_word → word.name ≡ named → find_name (modules_in 0 text.tops) named ≡ None → behind modules types (instance word) (part ∷ parts) ≡ None
  inside-no-module is same none = instance-is is same ∙ ap (option_and_then place_leads) none

  pub inside-no-name : (i : ℕ) → part ≡ Field named_word → word.name ≡ named → find_name (modules_in 0 text.tops) named ≡ Some i
      → find_name (module_in (types_before text i) (slice_get text.tops i)).own named_word.name ≡ None → behind modules types (instance word) (part ∷ parts) ≡ None
  inside-no-name i is same some none = instance-is is same ∙ ap (option_and_then place_leads) some ∙ ap (own_leads (types_before text i)) none

  pub inside-name : (i : ℕ) (own : Own) → part ≡ Field named_word → word.name ≡ named → find_name (modules_in 0 text.tops) named ≡ Some i
      → find_name (module_in (types_before text i) (slice_get text.tops i)).own named_word.name ≡ Some own
      → behind modules types (instance word) (part ∷ parts) ≡ behind modules (types_before text i) own.what parts
  inside-name i own is same some found = instance-is is same ∙ ap (option_and_then place_leads) some ∙ ap (own_leads (types_before text i)) found

-- ---- names alone

pub constant-lone : (scope : Scope) (parts : List Part) → constant_at scope parts ≡ option_and_then (λ (word : Word). option_map (λ (c : Constant). whole_in [] (enumeration c.names)) (find_name scope.constants word.name)) (lone parts)
constant-lone scope [] = refl
constant-lone scope (At e ∷ parts) = refl
constant-lone scope (Field word ∷ []) = by (find_name scope.constants word.name)
  where
    by : (o : Option Constant) → option_and_then (λ (c : Constant). single (enumeration c.names) []) o ≡ option_map (λ (c : Constant). whole_in [] (enumeration c.names)) o
    by None = refl
    by (Some c) = refl
constant-lone scope (Field word ∷ part ∷ parts) = by (find_name scope.constants word.name)
  where
    by : (o : Option Constant) → option_and_then (λ (c : Constant). single (enumeration c.names) (part ∷ parts)) o ≡ None
    by None = refl
    by (Some c) = refl

pub variable-lone : (scope : Scope) (vars : Vars) (parts : List Part) → variable_at scope vars parts ≡ option_and_then (λ (word : Word). option_map (λ kind. whole_in [] kind) (find_name vars word.name)) (lone parts)
variable-lone scope vars [] = refl
variable-lone scope vars (At e ∷ parts) = refl
variable-lone scope vars (Field word ∷ []) = by (find_name vars word.name)
  where
    by : (o : Option Kind) → option_and_then (λ kind. single kind []) o ≡ option_map (λ kind. whole_in [] kind) o
    by None = refl
    by (Some kind) = refl
variable-lone scope vars (Field word ∷ part ∷ parts) = by (find_name vars word.name)
  where
    by : (o : Option Kind) → option_and_then (λ kind. single kind (part ∷ parts)) o ≡ None
    by None = refl
    by (Some kind) = refl

module _ (text : Text) (lists : List (Bor (List Word))) (held : List (Name × HeldConstant)) (same : map (constant_beside lists) held ≡ constants (pieces text)) (name : Name) where
  abbrev enumerated : Option Constant → Option Kind
  enumerated o = option_map (λ (c : Constant). enumeration c.names) o

  pub constant-in : (constant : HeldConstant) (got : Option (Bor (List Word))) → find_name held name ≡ Some constant → slice_get lists constant.list ≡ got
      → enumerated (find_name (constants (pieces text)) name) ≡ Some (enumeration (option_map_or (λ words. names_of words.now) got []))
  constant-in constant got found at =
      ap enumerated (constant-found text lists held same name (Some constant) (sym found)) ∙ ap (λ o. Some (enumeration (option_map_or (λ (words : Bor (List Word)). names_of words.now) o []))) at

  pub constant-out : find_name held name ≡ None → enumerated (find_name (constants (pieces text)) name) ≡ None
  constant-out none = ap enumerated (constant-found text lists held same name None (sym none))

pub constant-alone : (scope : HeldScope) (parts : List Part) (word : Word) (kind : Option ValueKind) → lone parts ≡ Some word
    → option_map (kind_of scope.tables.now.names) kind ≡ option_map (λ (c : Constant). enumeration c.names) (find_name (constants (pieces scope.tables.now.names.text.now)) word.name)
    → constant_at (scope_of scope) parts ≡ option_map (λ kind. whole_in [] (kind_of scope.tables.now.names kind)) kind
constant-alone scope parts word kind alone kinds =
    constant-lone (scope_of scope) parts
    ∙ ap (option_and_then (λ (word : Word). option_map (λ (c : Constant). whole_in [] (enumeration c.names)) (find_name (scope_of scope).constants word.name))) alone
    ∙ ap (λ l. option_map (λ (c : Constant). whole_in [] (enumeration c.names)) (find_name l word.name)) (constants-are scope)
    ∙ split (find_name (constants (pieces scope.tables.now.names.text.now)) word.name)
    ∙ ap (option_map (whole_in [])) (sym kinds)
    ∙ join kind
  where
    split : (o : Option Constant) → option_map (λ (c : Constant). whole_in [] (enumeration c.names)) o ≡ option_map (whole_in []) (option_map (λ (c : Constant). enumeration c.names) o)
    split None = refl
    split (Some c) = refl

    join : (o : Option ValueKind) → option_map (whole_in []) (option_map (kind_of scope.tables.now.names) o) ≡ option_map (λ kind. whole_in [] (kind_of scope.tables.now.names kind)) o
    join None = refl
    join (Some kind) = refl

-- ---- signals

pub signal-is : (scope : HeldScope) (parts : List Part) (part : Part) (word : Word) (own : Option HeldOwn) → 1 ≤ length parts → part ≡ get_or parts 0 part → part ≡ Field word
    → ((types : Types) → find_name (module_in types (slice_get scope.tables.now.names.text.now.tops scope.place)).own word.name ≡ option_map own_of own)
    → signal_at (scope_of scope) parts ≡ option_and_then (λ (own : HeldOwn). inner_leads scope.tables.now.names.text.now (record { place = scope.place; own = own }) (drop 1 parts)) own
signal-is scope parts part word own long first is owned =
    ap (signal_at (scope_of scope)) (first_read parts part long first ∙ ap (λ p. p ∷ drop 1 parts) is)
    ∙ signal-field scope word (drop 1 parts)
    ∙ ap (option_and_then (λ (own : Own). behind (modules_from [] scope.tables.now.names.text.now.tops) (types_before scope.tables.now.names.text.now scope.place) own.what (drop 1 parts)))
    (owned (types_before scope.tables.now.names.text.now scope.place))
    ∙ by own
  where
    by : (o : Option HeldOwn)
        → option_and_then (λ (own : Own). behind (modules_from [] scope.tables.now.names.text.now.tops) (types_before scope.tables.now.names.text.now scope.place) own.what (drop 1 parts)) (option_map own_of o)
        ≡ option_and_then (λ (own : HeldOwn). inner_leads scope.tables.now.names.text.now (record { place = scope.place; own = own }) (drop 1 parts)) o
    by None = refl
    by (Some own) = refl

-- ---- the first of three

module _ (scope : Scope) (vars : Vars) (parts : List Part) where
  pub as-variable : (w : Whole) → variable_at scope vars parts ≡ Some w → reference_at scope vars parts ≡ Some w
  as-variable w e = rw e refl

  pub as-signal : (w : Whole) → variable_at scope vars parts ≡ None → signal_at scope parts ≡ Some w → reference_at scope vars parts ≡ Some w
  as-signal w e f = rw (e, f) refl

  pub as-constant : variable_at scope vars parts ≡ None → signal_at scope parts ≡ None → reference_at scope vars parts ≡ constant_at scope parts
  as-constant e f = rw (e, f) refl
