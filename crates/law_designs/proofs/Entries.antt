-- What is met in flat order is what the design meets, places of connections aside.
use Rattle.std.proofs.Common.{◌≡◌, ℕ, zero, suc, List, [], ◌∷◌, ◌++◌, map, flat_map, length, zip, Option, Some, None, refl, sym, ap, ◌∙◌}
use Rattle.smv_core.specs.Values.{Name, Path, Value}
use Rattle.smv_core.specs.Types.{Types, values_over, types_from}
use Rattle.smv_core.specs.FlatOrder as tree
use Rattle.smv_core.specs.FlatOrder.{Body, Met, said, claimed, within_binder, body_of, role_of, item_met, items_met, met_in, modules, main, design_of}
use Rattle.smv_core.specs.Outcome.{State, Bindings, Scene}
use Rattle.smv_core.specs.Walk.{Element, Walk, walk, first}
use Rattle.smv_core.specs.Assignments.{Around, any, assignments}
use Rattle.smv_core.specs.declared.tree.Kind.{Kind}
use Rattle.smv_core.specs.declared.tree.Role.{Role}
use Rattle.smv_core.specs.declared.tree.Role.TheVariants.{Plain, Abstract, Input, Output}
use Rattle.smv_core.specs.declared.tree.Word.{Word}
use Rattle.smv_core.specs.declared.tree.Text.{Text}
use Rattle.smv_core.specs.declared.tree.TypeExpr.{TypeExpr}
use Rattle.smv_core.specs.declared.tree.Expr.{Expr, Signal'}
use Rattle.smv_core.specs.declared.tree.Stmt.{Stmt, Forall}
use Rattle.smv_core.specs.declared.tree.Item.{Item, Declare, Instance, Layer, Forall', Block', Claim, Split, Using, Act, Row_of-Item, end_of-Item, more_of-Item}
use Rattle.law_designs.specs.Entries.{Binders, claim, split, using, Entry, layer, statement, goal, inside_binder, connection, given_to, connections, item_entries, items_entries, entries_in, entries}
use Rattle.smv_mentions.proofs.Computing.{computing}

-- two statements give each element the same everywhere, and have the same assignments
abbrev pub AreAlikeActs : Stmt → Stmt → Type 0
AreAlikeActs a c =
    ((scene : Scene) (s : State) (kind : Kind) (x : Element) (every : List Value) (b : Bindings) → walk scene s kind x every a b ≡ walk scene s kind x every c b)
    × ((instance : Path) (around : Around) → assignments instance a around ≡ assignments instance c around)

abbrev pub EachIsAlike : List Stmt → List Stmt → Type 0
EachIsAlike [] [] = Unit {0}
EachIsAlike (a ∷ as') (c ∷ cs) = AreAlikeActs a c × EachIsAlike as' cs
EachIsAlike _ _ = ⊥

-- the parameters of a claim
abbrev pub params_of : Binders → List (Name × TypeExpr)
params_of binders = map (λ (word, over). (word.name, over)) binders

-- the same statements and claims
abbrev pub AreAlike : List Entry → List Met → Type 0
AreAlike [] [] = Unit {0}
AreAlike [] (m ∷ ms) = ⊥
AreAlike (layer name ∷ es) ms = AreAlike es ms
AreAlike (statement x ∷ es) [] = ⊥
AreAlike (statement x ∷ es) (claimed c ∷ ms) = ⊥
AreAlike (statement x ∷ es) (said y ∷ ms) = (x.layer ≡ y.layer) × (x.instance ≡ y.instance) × AreAlikeActs x.act y.act × AreAlike es ms
AreAlike (goal i binders (split word vars of pairs at) ∷ es) ms = AreAlike es ms
AreAlike (goal i binders (using uses proves at) ∷ es) ms = AreAlike es ms
AreAlike (goal i binders (claim word vars body at) ∷ es) [] = ⊥
AreAlike (goal i binders (claim word vars body at) ∷ es) (said y ∷ ms) = ⊥
AreAlike (goal i binders (claim word vars body at) ∷ es) (claimed c ∷ ms) = (i ≡ c.instance) × (params_of binders ≡ c.params) × (body ≡ c.body) × (word.name ≡ c.name) × AreAlike es ms

alike-append : (es fs : List Entry) (ms ns : List Met) → AreAlike es ms → AreAlike fs ns → AreAlike (es ++ fs) (ms ++ ns)
alike-append [] fs [] ns h k = k
alike-append [] fs (m ∷ ms) ns h k = absurd h
alike-append (layer name ∷ es) fs ms ns h k = alike-append es fs ms ns h k
alike-append (statement x ∷ es) fs [] ns h k = absurd h
alike-append (statement x ∷ es) fs (claimed c ∷ ms) ns h k = absurd h
alike-append (statement x ∷ es) fs (said y ∷ ms) ns h k = (h.0, h.1, h.2, alike-append es fs ms ns h.3 k)
alike-append (goal i binders (split word vars of pairs at) ∷ es) fs ms ns h k = alike-append es fs ms ns h k
alike-append (goal i binders (using uses proves at) ∷ es) fs ms ns h k = alike-append es fs ms ns h k
alike-append (goal i binders (claim word vars body at) ∷ es) fs [] ns h k = absurd h
alike-append (goal i binders (claim word vars body at) ∷ es) fs (said y ∷ ms) ns h k = absurd h
alike-append (goal i binders (claim word vars body at) ∷ es) fs (claimed c ∷ ms) ns h k = (h.0, h.1, h.2, h.3, alike-append es fs ms ns h.4 k)

alike-flat_map : {X : Type 0} (f : X → List Entry) (g : X → List Met) → ((x : X) → AreAlike (f x) (g x)) → (xs : List X) → AreAlike (flat_map f xs) (flat_map g xs)
alike-flat_map f g h [] = tt
alike-flat_map f g h (x ∷ xs) = alike-append (f x) (flat_map f xs) (g x) (flat_map g xs) (h x) (alike-flat_map f g h xs)

walk-Forall : (scene : Scene) (s : State) (kind : Kind) (x : Element) (every : List Value) (var : Word) (over : TypeExpr) (a : Stmt) (b : Bindings) →
    walk scene s kind x every (Forall var over a 0) b ≡ first (map (λ v. walk scene s kind x every a ((var.name, v) ∷ b)) (values_over scene.types scene.sizes over))
unfolding computing
walk-Forall scene s kind x every var over a b = refl

walks-alike : (vs : List Value) (f g : Value → Walk) → ((v : Value) → f v ≡ g v) → map f vs ≡ map g vs
walks-alike [] f g h = refl
walks-alike (v ∷ vs) f g h = rw (h v, walks-alike vs f g h) refl

assignments-Forall : (instance : Path) (var : Word) (over : TypeExpr) (a : Stmt) (around : Around) → assignments instance (Forall var over a 0) around ≡ assignments instance a ((var.name, any) ∷ around)
unfolding computing
assignments-Forall instance var over a around = refl

forall-alike : (var : Word) (over : TypeExpr) (a c : Stmt) → AreAlikeActs a c → AreAlikeActs (Forall var over a 0) (Forall var over c 0)
forall-alike var over a c h = (
  λ scene s kind x every b. walk-Forall scene s kind x every var over a b
      ∙ ap first (walks-alike (values_over scene.types scene.sizes over) (λ v. walk scene s kind x every a ((var.name, v) ∷ b)) (λ v. walk scene s kind x every c ((var.name, v) ∷ b)) (λ v. h.0 scene s kind x every ((var.name, v) ∷ b)))
      ∙ sym (walk-Forall scene s kind x every var over c b),
  λ instance around. assignments-Forall instance var over a around ∙ h.1 instance ((var.name, any) ∷ around) ∙ sym (assignments-Forall instance var over c around),
)

alike-inside : (var : Word) (over : TypeExpr) (es : List Entry) (ms : List Met) → AreAlike es ms → AreAlike (map (inside_binder var over) es) (map (within_binder var over) ms)
alike-inside var over [] [] h = tt
alike-inside var over [] (m ∷ ms) h = absurd h
alike-inside var over (layer name ∷ es) ms h = alike-inside var over es ms h
alike-inside var over (statement x ∷ es) [] h = absurd h
alike-inside var over (statement x ∷ es) (claimed c ∷ ms) h = absurd h
alike-inside var over (statement x ∷ es) (said y ∷ ms) h = (h.0, h.1, forall-alike var over x.act y.act h.2, alike-inside var over es ms h.3)
alike-inside var over (goal i binders (split word vars of pairs at) ∷ es) ms h = alike-inside var over es ms h
alike-inside var over (goal i binders (using uses proves at) ∷ es) ms h = alike-inside var over es ms h
alike-inside var over (goal i binders (claim word vars body at) ∷ es) [] h = absurd h
alike-inside var over (goal i binders (claim word vars body at) ∷ es) (said y ∷ ms) h = absurd h
alike-inside var over (goal i binders (claim word vars body at) ∷ es) (claimed c ∷ ms) h = (h.0, ap (λ ps. (var.name, over) ∷ ps) h.1, h.2, h.3, alike-inside var over es ms h.4)

alike-statements : (l : Option Name) (here : Path) (as' cs : List Stmt) → EachIsAlike as' cs →
    AreAlike (map (λ act. statement (record { layer = l; instance = here; act = act })) as') (map (λ act. said (record { layer = l; instance = here; act = act })) cs)
alike-statements l here [] [] h = tt
alike-statements l here [] (c ∷ cs) h = absurd h
alike-statements l here (a ∷ as') [] h = absurd h
alike-statements l here (a ∷ as') (c ∷ cs) h = (refl, refl, h.0, alike-statements l here as' cs h.1)

alike-itself : (as' : List Stmt) → EachIsAlike as' as'
alike-itself [] = tt
alike-itself (a ∷ as') = ((λ scene s kind x every b. refl, λ instance around. refl), alike-itself as')

-- ---- connections

each-append : (as' bs cs ds : List Stmt) → EachIsAlike as' cs → EachIsAlike bs ds → EachIsAlike (as' ++ bs) (cs ++ ds)
each-append [] bs [] ds h k = k
each-append [] bs (c ∷ cs) ds h k = absurd h
each-append (a ∷ as') bs [] ds h k = absurd h
each-append (a ∷ as') bs (c ∷ cs) ds h k = (h.0, each-append as' bs cs ds h.1 k)

given-alike : (n a : Name) (e : Expr) → EachIsAlike (given_to n a e) (tree.assigned_path n a e)
unfolding computing
given-alike n a (Signal' shape parts at) = ((λ scene s kind x every b. refl, λ instance around. refl), tt)
given-alike n a _ = tt

connection-alike : (role : Role) (n a : Name) (e : Expr) → EachIsAlike (connection role n a e) (tree.connection role n a e)
unfolding computing
connection-alike Input n a e = ((λ scene s kind x every b. refl, λ instance around. refl), tt)
connection-alike Output n a e = given-alike n a e
connection-alike Plain n a e = tt
connection-alike Abstract n a e = tt

connections-alike : (n : Name) (items : List Item) (pairs : List (Word × Expr)) →
    EachIsAlike (flat_map (λ (word, e). connection (role_of items word.name) n word.name e) pairs) (flat_map (λ (word, e). tree.connection (role_of items word.name) n word.name e) pairs)
connections-alike n items [] = tt
connections-alike n items ((word, e) ∷ pairs) =
    each-append (connection (role_of items word.name) n word.name e) _ (tree.connection (role_of items word.name) n word.name e) _ (connection-alike (role_of items word.name) n word.name e) (connections-alike n items pairs)

-- ---- items

module _ (types : Types) (bodies : List (Name × Body)) where
  module _ (inside : Path → Name → List Entry) (own : Path → Name → List Met) (h : (here : Path) (name : Name) → AreAlike (inside here name) (own here name)) (here : Path) where
    mutual
      item-alike : (item : Item) → AreAlike (item_entries types bodies inside here item) (item_met types bodies own here item)
      item-alike (Declare role words of at) = tt
      item-alike (Instance words name args at) =
          alike-flat_map (λ word. map (λ act. statement (record { layer = None; instance = here; act = act })) (connections (body_of types bodies name.name) word.name args) ++ inside (here ++ word.name ∷ []) name.name)
          (λ word. map (λ act. said (record { layer = None; instance = here; act = act })) (tree.connections (body_of types bodies name.name) word.name args) ++ own (here ++ word.name ∷ []) name.name)
          (λ word. alike-append (map (λ act. statement (record { layer = None; instance = here; act = act })) (connections (body_of types bodies name.name) word.name args)) (inside (here ++ word.name ∷ []) name.name)
          (map (λ act. said (record { layer = None; instance = here; act = act })) (tree.connections (body_of types bodies name.name) word.name args)) (own (here ++ word.name ∷ []) name.name)
          (alike-statements None here (connections (body_of types bodies name.name) word.name args) (tree.connections (body_of types bodies name.name) word.name args)
          (connections-alike word.name (body_of types bodies name.name).items (zip (body_of types bodies name.name).formals args)))
          (h (here ++ word.name ∷ []) name.name)) words
      item-alike (Layer name body at) = alike-statements (Some name.name) here body body (alike-itself body)
      item-alike (Forall' var over shape (more_of-Item body end_of-Item) at) = alike-inside var over (item_entries types bodies inside here body) (item_met types bodies own here body) (item-alike body)
      item-alike (Block' shape items) = items-alike items
      item-alike (Claim name vars body at) = (refl, refl, refl, refl, tt)
      item-alike (Split name vars of pairs at) = tt
      item-alike (Using uses proves at) = tt
      item-alike (Act act) = (refl, refl, (λ scene s kind x every b. refl, λ instance around. refl), tt)

      items-alike : {m : _} (items : Row_of-Item m) → AreAlike (items_entries types bodies inside here items) (items_met types bodies own here items)
      items-alike end_of-Item = tt
      items-alike (more_of-Item item rest) = alike-append (item_entries types bodies inside here item) (items_entries types bodies inside here rest) (item_met types bodies own here item) (items_met types bodies own here rest) (item-alike item) (items-alike rest)

  entries-in-alike : (k : ℕ) (here : Path) (name : Name) → AreAlike (entries_in types bodies k here name) (met_in types bodies k here name)
  entries-in-alike zero here name = tt
  entries-in-alike (suc k) here name =
      alike-flat_map (item_entries types bodies (entries_in types bodies k) here) (item_met types bodies (met_in types bodies k) here)
      (item-alike (entries_in types bodies k) (met_in types bodies k) (entries-in-alike k) here) (body_of types bodies name).items

pub entries-alike : (text : Text) → AreAlike (entries text) (design_of text).met
entries-alike text = entries-in-alike (types_from [] text.tops) (modules text.tops) (length (modules text.tops)) [] main
