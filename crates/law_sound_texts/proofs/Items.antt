-- What a shallow text says in flat order is shallow, and so are the items of its flattened text.
use Rattle.std.proofs.Common.{◌<◌, ◌+◌, ℕ, zero, suc, List, [], ◌∷◌, ◌++◌, map, zip, length, Option, Some, None, unwrap_or, Bool, true, false, cond}
use Rattle.std.specs.Str.{bytes_eq}
use Rattle.std.specs.List.{AllByRecursion, flat_map}
use Rattle.law_lists.proofs.Each.{each_flat_map, each_append}
use Rattle.smv_core.specs.Values.{Name, Path}
use Rattle.smv_core.specs.Types.{Types, find_name, types_from}
use Rattle.smv_core.specs.FlatOrder.{Body, modules, main, role_of, body_of}
use Rattle.smv_core.specs.declared.tree.Kind.TheVariants.{Comb}
use Rattle.smv_core.specs.declared.tree.Word.{Word}
use Rattle.smv_core.specs.declared.tree.Pair.{Pair}
use Rattle.smv_core.specs.declared.tree.Path.{roll-Path}
use Rattle.smv_core.specs.declared.tree.Part.{Field, At}
use Rattle.smv_core.specs.declared.tree.Role.{Role}
use Rattle.smv_core.specs.declared.tree.Role.TheVariants.{Plain, Abstract, Input, Output}
use Rattle.smv_core.specs.declared.tree.TypeExpr.{TypeExpr}
use Rattle.smv_core.specs.declared.tree.Expr.{Expr, Signal, Signal', Row_of-Part, end_of-Part, more_of-Part, items-the_row-Part}
use Rattle.smv_core.specs.declared.tree.Stmt.{Stmt}
use Rattle.smv_core.specs.declared.tree.Item.{Item, Declare, Instance, Layer, Forall', Block', Claim, Split, Using, Act, Row_of-Item, end_of-Item, more_of-Item}
use Rattle.smv_core.specs.declared.tree.Top.{Top}
use Rattle.smv_core.specs.declared.tree.Top.TheVariants.{SetType, Alias, Module}
use Rattle.smv_core.specs.declared.tree.Text.{Text}
use Rattle.smv_core.specs.declared.flat.Param.{Param}
use Rattle.smv_core.specs.declared.flat.FlatPair.{FlatPair}
use Rattle.smv_core.specs.declared.flat.FlatItem.{FlatItem}
use Rattle.smv_core.specs.declared.flat.FlatItem.TheVariants as item
use Rattle.smv_mentions.proofs.Computing.{computing}
use Rattle.law_designs.specs.Numbers.{Scope}
use Rattle.law_designs.specs.Statements.{flat_expr, first_token}
use Rattle.law_designs.specs.Entries.{Binders, Goal, claim, split, using, Entry, layer, statement, goal, inside_binder, formal, given_to, connection, connections, instance_entries, item_entries, items_entries, entries_in, entries}
use Rattle.law_designs.specs.Flattening.{flat_assignments, scope_in, within, params_from, flat_pair, flat_goal, with_places, layers_of, flat_entry, flatten}
use Rattle.law_designs.proofs.Faultless.{each-map}
use Rattle.law_sound_texts.proofs.Shallow.{most, IsShallow, AreShallow, IndexesAreShallow, StatementIsShallow, InnerIsShallow, InnersAreShallow, ItemIsShallow, TopIsShallow, TextIsShallow}
use Rattle.law_sound_texts.proofs.ShallowForms.{PartIsShallow, PathIsShallow, shallow-Signal, shallow-Assign, shallow-Forall}
use Rattle.law_sound_texts.proofs.FlatShallow.{FlatIsShallow, ActIsShallow, expr-shallow, act-shallow}

-- ---- what is met in flat order

abbrev GoalIsShallow : ℕ → Goal → Type 0
GoalIsShallow k (claim word vars body at) = IsShallow k body
GoalIsShallow k (split word vars of pairs at) = AllByRecursion (λ (pair : Pair). IsShallow k pair.left) pairs
GoalIsShallow k (using uses proves at) = Unit {0}

-- the goal inside binders, and the binders
abbrev InsideIsShallow : ℕ → Binders → Goal → Type 0
InsideIsShallow k [] g = GoalIsShallow k g
InsideIsShallow k (b ∷ binders) g = (k < most) × InsideIsShallow (suc k) binders g

abbrev EntryIsShallow : ℕ → Entry → Type 0
EntryIsShallow k (layer name) = Unit {0}
EntryIsShallow k (statement x) = StatementIsShallow k x.act
EntryIsShallow k (goal instance binders g) = InsideIsShallow k binders g

inside-shallow : (k : ℕ) (word : Word) (over : TypeExpr) → k < most → (e : Entry) → EntryIsShallow (suc k) e → EntryIsShallow k (inside_binder word over e)
inside-shallow k word over lt (layer name) h = tt
inside-shallow k word over lt (statement x) h = shallow-Forall k word over x.act 0 lt h
inside-shallow k word over lt (goal instance binders g) h = (lt, h)

-- ---- connections

formal-shallow : (n a : Name) (at : ℕ) → PathIsShallow 0 (formal n a at)
unfolding computing
formal-shallow n a at = (tt, (tt, tt))

parts-shallow : (n : _) (row : Row_of-Part n) → IndexesAreShallow 0 row → AllByRecursion (PartIsShallow 0) (items-the_row-Part n row)
unfolding computing
parts-shallow n end_of-Part h = tt
parts-shallow n (more_of-Part (Field word) rest) h = (tt, parts-shallow _ rest h)
parts-shallow n (more_of-Part (At index) rest) h = (h.0, parts-shallow _ rest h.1)

path-shallow : (n : _) (row : Row_of-Part n) (at : ℕ) → IndexesAreShallow 0 row → PathIsShallow 0 (roll-Path (record { parts = items-the_row-Part n row; at = at }))
unfolding computing
path-shallow n row at h = parts-shallow n row h

given-shallow : (n a : Name) (e : Expr) → IsShallow 0 e → AllByRecursion (StatementIsShallow 0) (given_to n a e)
given-shallow n a (Signal' shape parts at) h =
    (shallow-Assign 0 Comb (roll-Path (record { parts = items-the_row-Part _ parts; at = at })) (Signal (formal n a at)) at (path-shallow _ parts at h) (shallow-Signal 0 (formal n a at) (formal-shallow n a at)), tt)
given-shallow n a _ h = tt

connection-shallow : (role : Role) (n a : Name) (e : Expr) → IsShallow 0 e → AllByRecursion (StatementIsShallow 0) (connection role n a e)
connection-shallow Input n a e h = (shallow-Assign 0 Comb (formal n a (first_token e)) e (first_token e) (formal-shallow n a (first_token e)) h, tt)
connection-shallow Output n a e h = given-shallow n a e h
connection-shallow Plain n a e h = tt
connection-shallow Abstract n a e h = tt

zipped-shallow : (words : List Word) (args : List Expr) → AreShallow 0 args → AllByRecursion (λ (p : Word × Expr). IsShallow 0 p.1) (zip words args)
zipped-shallow [] args h = tt
zipped-shallow (word ∷ words) [] h = tt
zipped-shallow (word ∷ words) (e ∷ args) h = (h.0, zipped-shallow words args h.1)

connections-shallow : (body : Body) (n : Name) (args : List Expr) → AreShallow 0 args → AllByRecursion (StatementIsShallow 0) (connections body n args)
connections-shallow body n args h =
    each_flat_map (λ (p : Word × Expr). IsShallow 0 p.1) (StatementIsShallow 0) (λ (p : Word × Expr). connection (role_of body.items p.0.name) n p.0.name p.1) (λ p own. connection-shallow (role_of body.items p.0.name) n p.0.name p.1 own)
    (zip body.formals args) (zipped-shallow body.formals args h)

-- ---- items of the tree

module _ (types : Types) (bodies : List (Name × Body)) where
  module _ (inside : Path → Name → List Entry) (here : Path) where
    abbrev met_in : Item → List Entry
    met_in = item_entries types bodies inside here

    mutual
      inner-shallow : (k : ℕ) (x : Item) → InnerIsShallow k x → AllByRecursion (EntryIsShallow k) (met_in x)
      inner-shallow k (Declare role words of at) h = absurd h
      inner-shallow k (Instance words name args at) h = absurd h
      inner-shallow k (Layer name body at) h = absurd h
      inner-shallow k (Forall' var over shape (more_of-Item body end_of-Item) at) h =
          each-map (EntryIsShallow (suc k)) (EntryIsShallow k) (inside_binder var over) (inside-shallow k var over h.0) (met_in body) (inner-shallow (suc k) body h.1)
      inner-shallow k (Block' shape items) h = inners-shallow k items h
      inner-shallow k (Claim name vars body at) h = (h, tt)
      inner-shallow k (Split name vars of pairs at) h = (h, tt)
      inner-shallow k (Using uses proves at) h = (tt, tt)
      inner-shallow k (Act act) h = (h, tt)

      inners-shallow : {m : _} (k : ℕ) (row : Row_of-Item m) → InnersAreShallow k row → AllByRecursion (EntryIsShallow k) (items_entries types bodies inside here row)
      inners-shallow k end_of-Item h = tt
      inners-shallow k (more_of-Item x rest) h = each_append (EntryIsShallow k) (met_in x) (items_entries types bodies inside here rest) (inner-shallow k x h.0) (inners-shallow k rest h.1)

    -- statements of a layer or of connections
    said-shallow : (number : Option Name) (acts : List Stmt) → AllByRecursion (StatementIsShallow 0) acts →
        AllByRecursion (EntryIsShallow 0) (map (λ act. statement (record { layer = number; instance = here; act = act })) acts)
    said-shallow number [] h = tt
    said-shallow number (act ∷ acts) h = (h.0, said-shallow number acts h.1)

    instances-shallow : ((there : Path) (name : Name) → AllByRecursion (EntryIsShallow 0) (inside there name)) → (name : Name) (args : List Expr) → AreShallow 0 args → (words : List Word) →
        AllByRecursion (EntryIsShallow 0) (flat_map (λ (word : Word). instance_entries types bodies inside here name args word.name) words)
    instances-shallow all name args h [] = tt
    instances-shallow all name args h (word ∷ words) =
        each_append (EntryIsShallow 0) (instance_entries types bodies inside here name args word.name) (flat_map (λ (word : Word). instance_entries types bodies inside here name args word.name) words)
        (each_append (EntryIsShallow 0) (map (λ act. statement (record { layer = None; instance = here; act = act })) (connections (body_of types bodies name) word.name args)) (inside (here ++ word.name ∷ []) name)
        (said-shallow None (connections (body_of types bodies name) word.name args) (connections-shallow (body_of types bodies name) word.name args h)) (all (here ++ word.name ∷ []) name))
        (instances-shallow all name args h words)

    item-shallow : ((there : Path) (name : Name) → AllByRecursion (EntryIsShallow 0) (inside there name)) → (x : Item) → ItemIsShallow x → AllByRecursion (EntryIsShallow 0) (met_in x)
    item-shallow all (Declare role words of at) h = tt
    item-shallow all (Instance words name args at) h = instances-shallow all name.name args h words
    item-shallow all (Layer name body at) h = (tt, said-shallow (Some name.name) body h)
    item-shallow all (Forall' var over shape body at) h = inner-shallow 0 (Forall' var over shape body at) h
    item-shallow all (Block' shape items) h = inner-shallow 0 (Block' shape items) h
    item-shallow all (Claim name vars body at) h = inner-shallow 0 (Claim name vars body at) h
    item-shallow all (Split name vars of pairs at) h = inner-shallow 0 (Split name vars of pairs at) h
    item-shallow all (Using uses proves at) h = inner-shallow 0 (Using uses proves at) h
    item-shallow all (Act act) h = inner-shallow 0 (Act act) h

  entries-shallow : ((name : Name) → AllByRecursion ItemIsShallow (body_of types bodies name).items) → (n : ℕ) (here : Path) (name : Name) → AllByRecursion (EntryIsShallow 0) (entries_in types bodies n here name)
  entries-shallow items zero here name = tt
  entries-shallow items (suc n) here name =
      each_flat_map ItemIsShallow (EntryIsShallow 0) (item_entries types bodies (entries_in types bodies n) here) (item-shallow (entries_in types bodies n) here (entries-shallow items n)) (body_of types bodies name).items (items name)

  modules-shallow : (tops : List Top) → AllByRecursion TopIsShallow tops → (name : Name) → AllByRecursion ItemIsShallow (body_of types (modules tops) name).items
  modules-shallow [] h name = tt
  modules-shallow (SetType word ordered span at ∷ tops) h name = modules-shallow tops h.1 name
  modules-shallow (Alias word of at ∷ tops) h name = modules-shallow tops h.1 name
  modules-shallow (Module word formals body at ∷ tops) h name = by_test (bytes_eq word.name name) (find_name (modules tops) name) h.0 (modules-shallow tops h.1 name)
    where
      by_test : (b : Bool) (o : Option Body) → AllByRecursion ItemIsShallow body → AllByRecursion ItemIsShallow (unwrap_or o (record { formals = []; items = [] })).items →
          AllByRecursion ItemIsShallow (unwrap_or (cond b (Some (record { formals = formals; items = body })) o) (record { formals = []; items = [] })).items
      by_test true o own rest = own
      by_test false o own rest = rest

pub text-shallow : (text : Text) → TextIsShallow text → AllByRecursion (EntryIsShallow 0) (entries text)
text-shallow text h =
    entries-shallow (types_from [] text.tops) (modules text.tops) (modules-shallow (types_from [] text.tops) (modules text.tops) text.tops h) (length (modules text.tops)) [] main

-- ---- items of the flattened text

-- inside parameters, and the parameters
abbrev pub FlatInside : ℕ → List Param → (ℕ → Type 0) → Type 0
FlatInside k [] P = P k
FlatInside k (p ∷ params) P = (k < most) × FlatInside (suc k) params P

abbrev pub FlatItemIsShallow : FlatItem → Type 0
FlatItemIsShallow (item.Act number act) = ActIsShallow 0 act
FlatItemIsShallow (item.Claim c) = FlatInside 0 c.params (λ k. FlatIsShallow k c.body)
FlatItemIsShallow (item.Split s) = FlatInside 0 s.bound (λ k. AllByRecursion (λ (pair : FlatPair). FlatIsShallow k pair.left) s.pairs)
FlatItemIsShallow (item.Using u) = FlatInside 0 u.bound (λ k. Unit {0})

module _ (scope : Scope) where
  inside-flat : (P : ℕ → Type 0) (g : Goal) → ((m : ℕ) → GoalIsShallow m g → P m) → (k j : ℕ) (binders : Binders) → InsideIsShallow k binders g → FlatInside k (params_from scope j binders) P
  inside-flat P g own k j [] h = own k h
  inside-flat P g own k j ((word, over) ∷ binders) h = (h.0, inside-flat P g own (suc k) (j + 1) binders h.1)

  goal-flat : (binders : Binders) (g : Goal) → InsideIsShallow 0 binders g → FlatItemIsShallow (flat_goal scope binders g)
  goal-flat binders (claim word vars body at) h =
      inside-flat (λ k. FlatIsShallow k (flat_expr scope (within [] binders) body)) (claim word vars body at) (λ m own. expr-shallow scope m (within [] binders) body own) 0 0 binders h
  goal-flat binders (split word vars of pairs at) h =
      inside-flat (λ k. AllByRecursion (λ (pair : FlatPair). FlatIsShallow k pair.left) (map (flat_pair scope (within [] binders)) pairs)) (split word vars of pairs at)
      (λ m own. each-map (λ (pair : Pair). IsShallow m pair.left) (λ (pair : FlatPair). FlatIsShallow m pair.left) (flat_pair scope (within [] binders)) (λ pair h. expr-shallow scope m (within [] binders) pair.left h) pairs own) 0 0 binders h
  goal-flat binders (using uses proves at) h = inside-flat (λ k. Unit {0}) (using uses proves at) (λ m own. tt) 0 0 binders h

entry-flat : (text : Text) (layers : List Name) (e : Entry) → EntryIsShallow 0 e → AllByRecursion FlatItemIsShallow (flat_entry text layers e)
entry-flat text layers (layer name) h = tt
entry-flat text layers (statement x) h = (act-shallow (scope_in text x.instance) 0 [] x.act h, tt)
entry-flat text layers (goal instance binders g) h = (goal-flat (scope_in text instance) binders g h, tt)

places-flat : (k : ℕ) (items : List FlatItem) → AllByRecursion FlatItemIsShallow items → AllByRecursion FlatItemIsShallow (with_places k items)
places-flat k [] h = tt
places-flat k (item.Act number act ∷ items) h = (h.0, places-flat (k + length (flat_assignments act)) items h.1)
places-flat k (item.Claim c ∷ items) h = (h.0, places-flat (k + 1) items h.1)
places-flat k (item.Split s ∷ items) h = (h.0, places-flat k items h.1)
places-flat k (item.Using u ∷ items) h = (h.0, places-flat k items h.1)

-- the items of the flattened text of a shallow text
pub items-shallow : (text : Text) → TextIsShallow text → AllByRecursion FlatItemIsShallow (flatten text).items
items-shallow text h =
    let layers = layers_of (entries text) in
    places-flat 0 (flat_map (flat_entry text layers) (entries text)) (each_flat_map (EntryIsShallow 0) FlatItemIsShallow (flat_entry text layers) (entry-flat text layers) (entries text) (text-shallow text h))
