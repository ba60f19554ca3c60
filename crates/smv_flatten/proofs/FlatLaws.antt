-- What is met as items of the flattened text.
use Rattle.std.proofs.Common.{◌≡◌, ℕ, ◌+◌, List, [], ◌∷◌, ◌++◌, map, Option, Some, None, option_map, Bor, refl, sym, ap, ◌∙◌}
use Rattle.std.specs.Prelude.{zip, unwrap_or}
use Rattle.std.specs.List.{flat_map}
use Rattle.std.proofs.lemmas.List.{append-nil}
use Rattle.law_lists.proofs.Lists.{flat_map-flat_map}
use Rattle.smv_core.specs.Values.{Name, Path}
use Rattle.smv_core.specs.Types.{types_from, find_name}
use Rattle.smv_core.specs.FlatOrder.{Body, modules, body_of, role_of}
use Rattle.smv_core.specs.Assignments.{Around, any}
use Rattle.smv_core.specs.declared.tree.Word.{Word}
use Rattle.smv_core.specs.declared.tree.Text.{Text}
use Rattle.smv_core.specs.declared.tree.TypeExpr.{TypeExpr}
use Rattle.smv_core.specs.declared.tree.Expr.{Expr}
use Rattle.smv_core.specs.declared.tree.Stmt.{Stmt, Forall}
use Rattle.smv_core.specs.declared.tree.Role.{Role}
use Rattle.smv_core.specs.declared.tree.Item.{Item}
use Rattle.smv_core.specs.declared.flat.FlatStmt as flat
use Rattle.smv_core.specs.declared.flat.SetInfo.{SetInfo}
use Rattle.smv_core.specs.declared.flat.Family.{Family as FlatFamily}
use Rattle.smv_core.specs.declared.flat.FlatText.{FlatText}
use Rattle.smv_core.specs.declared.flat.FlatItem.{FlatItem}
use Rattle.smv_core.specs.declared.flat.FlatItem.TheVariants as item
use Rattle.smv_mentions.proofs.Computing.{computing}
use Rattle.law_designs.specs.Numbers.{Scope, bound_in, flat_over}
use Rattle.law_designs.specs.Entries as entries
use Rattle.law_designs.specs.Entries.{Binders, Entry, Goal, layer, statement, goal, inside_binder}
use Rattle.law_designs.specs.Flattening.{within, flat_entry, layer_number, scope_in, layers_of, enums_of, flat_family, with_places, flatten}
use Rattle.smv_flatten_families.specs.declared.numbers.Here.{Here}
use Rattle.smv_flatten_families.specs.declared.numbers.Numbers.{Numbers}
use Rattle.smv_flatten_families.specs.Held.{AreNumbers, instance_of, scope_here}
use Rattle.smv_flatten_statements.specs.Flattened.{statement_of}
use Rattle.smv_flatten.specs.declared.leaves.What.{What}
use Rattle.smv_flatten.specs.declared.leaves.What.TheVariants as noted
use Rattle.smv_flatten.specs.declared.met.Met.{Met}
use Rattle.smv_flatten.specs.Met.{wrapped, said_in, entries_met}
use Rattle.smv_flatten.specs.Items.{flat_said, flat_met, bound_by, act_item, goal_item}
use Rattle.smv_flatten.specs.Connections.{connected}
use Rattle.smv_flatten.specs.Roles.{roles_of_body, roles_beside}
use Rattle.smv_flatten.proofs.RoleLaws.{roles-found}

-- a statement inside binders
abbrev under : Binders → Stmt → Stmt
under [] act = act
under ((word, over) ∷ around) act = Forall word over (under around act) 0

wrapped-statement : (around : Binders) (o : Option Name) (here : Path) (act : Stmt) → wrapped around (statement (record { layer = o; instance = here; act = act })) ≡ statement (record { layer = o; instance = here; act = under around act })
wrapped-statement [] o here act = refl
wrapped-statement ((word, over) ∷ around) o here act = ap (inside_binder word over) (wrapped-statement around o here act)

wrapped-goal : (around : Binders) (here : Path) (g : Goal) → wrapped around (goal here [] g) ≡ goal here around g
wrapped-goal [] here g = refl
wrapped-goal ((word, over) ∷ around) here g = ap (inside_binder word over) (wrapped-goal around here g)

wrapped-layer : (around : Binders) (name : Name) → wrapped around (layer name) ≡ layer name
wrapped-layer [] name = refl
wrapped-layer ((word, over) ∷ around) name = ap (inside_binder word over) (wrapped-layer around name)

module _ (scope : Scope) where
  statement-Forall : (vars : Around) (word : Word) (over : TypeExpr) (act : Stmt) (at : ℕ) →
      statement_of scope vars (Forall word over act at) ≡ flat.Forall (bound_in vars) (flat_over scope over) (statement_of scope ((word.name, any) ∷ vars) act)
  unfolding statement_of computing
  statement-Forall vars word over act at = refl

  statement-under : (around : Binders) (vars : Around) (act : Stmt) → statement_of scope vars (under around act) ≡ bound_by scope (bound_in vars) around (statement_of scope (within vars around) act)
  statement-under [] vars act = refl
  statement-under ((word, over) ∷ around) vars act =
      statement-Forall vars word over (under around act) 0 ∙ ap (flat.Forall (bound_in vars) (flat_over scope over)) (statement-under around ((word.name, any) ∷ vars) act)

module _ (text : Text) (layers : List Name) (here : Path) (around : Binders) where
  entry-statement : (o : Option Name) (act : Stmt) → flat_entry text layers (wrapped around (statement (record { layer = o; instance = here; act = act }))) ≡ act_item (scope_in text here) (option_map (layer_number layers) o) around act ∷ []
  unfolding act_item statement_of
  entry-statement o act =
      ap (flat_entry text layers) (wrapped-statement around o here act) ∙ ap (λ s. item.Act (option_map (layer_number layers) o) s ∷ []) (statement-under (scope_in text here) around [] act)

  entry-goal : (g : Goal) → flat_entry text layers (wrapped around (goal here [] g)) ≡ goal_item (scope_in text here) around g ∷ []
  unfolding goal_item
  entry-goal g = ap (flat_entry text layers) (wrapped-goal around here g)

  entry-statements : (o : Option Name) (acts : List Stmt) →
      flat_map (flat_entry text layers) (map (wrapped around) (map (λ act. statement (record { layer = o; instance = here; act = act })) acts)) ≡ map (act_item (scope_in text here) (option_map (layer_number layers) o) around) acts
  entry-statements o [] = refl
  entry-statements o (act ∷ acts) =
      ap (λ l. l ++ flat_map (flat_entry text layers) (map (wrapped around) (map (λ act. statement (record { layer = o; instance = here; act = act })) acts))) (entry-statement o act)
      ∙ ap (λ l. act_item (scope_in text here) (option_map (layer_number layers) o) around act ∷ l) (entry-statements o acts)

-- the connections of the formals of a module, with their roles
pub roles-beside : (items : List Item) (n : Name) (words : List Word) (args : List Expr) →
    flat_map (connected n) (zip (zip words (map (λ word. role_of items word.name) words)) args) ≡ flat_map (λ (word, e). entries.connection (role_of items word.name) n word.name e) (zip words args)
roles-beside items n [] args = refl
roles-beside items n (word ∷ words) [] = refl
roles-beside items n (word ∷ words) (e ∷ args) = ap (λ l. entries.connection (role_of items word.name) n word.name e ++ l) (roles-beside items n words args)

module _ (h : Here) (layers : List Name) (around : Binders) where
  abbrev own_text : Text
  own_text = h.numbers.now.text.now

  abbrev said : What → List FlatItem
  said what = flat_said own_text layers (instance_of h) around what

  pub said-Act : (act : _) → said (noted.Act act) ≡ act_item (scope_here h) None around act.now ∷ []
  unfolding flat_said said_in scope_here
  said-Act act = append-nil _ ∙ entry-statement own_text layers (instance_of h) around None act.now

  pub said-Layer : (name body : _) → said (noted.Layer name body) ≡ map (act_item (scope_here h) (Some (layer_number layers name.now.name)) around) body.now
  unfolding flat_said said_in scope_here
  said-Layer name body =
      let more : List Entry = map (wrapped around) (map (λ act. statement (record { layer = Some name.now.name; instance = instance_of h; act = act })) body.now) in
      ap (λ e. flat_entry own_text layers e ++ flat_map (flat_entry own_text layers) more) (wrapped-layer around name.now.name) ∙ entry-statements own_text layers (instance_of h) around (Some name.now.name) body.now

  pub said-Claim : (name vars body : _) (at : ℕ) → said (noted.Claim name vars body at) ≡ goal_item (scope_here h) around (entries.claim name.now vars.now body.now at) ∷ []
  unfolding flat_said said_in scope_here
  said-Claim name vars body at = append-nil _ ∙ entry-goal own_text layers (instance_of h) around (entries.claim name.now vars.now body.now at)

  pub said-Split : (name vars of pairs : _) (at : ℕ) → said (noted.Split name vars of pairs at) ≡ goal_item (scope_here h) around (entries.split name.now vars.now of.now pairs.now at) ∷ []
  unfolding flat_said said_in scope_here
  said-Split name vars of pairs at = append-nil _ ∙ entry-goal own_text layers (instance_of h) around (entries.split name.now vars.now of.now pairs.now at)

  pub said-Using : (uses proves : _) (at : ℕ) → said (noted.Using uses proves at) ≡ goal_item (scope_here h) around (entries.using uses.now proves.now at) ∷ []
  unfolding flat_said said_in scope_here
  said-Using uses proves at = append-nil _ ∙ entry-goal own_text layers (instance_of h) around (entries.using uses.now proves.now at)

  pub said-Instance : (name of args : _) → said (noted.Instance name of args) ≡
      map (act_item (scope_here h) None around) (entries.connections (body_of (types_from [] own_text.tops) (modules own_text.tops) of.now.name) name.now.name args.now)
  unfolding flat_said said_in scope_here
  said-Instance name of args =
      let acts : List Stmt = entries.connections (body_of (types_from [] own_text.tops) (modules own_text.tops) of.now.name) name.now.name args.now in
      let own : List Entry = map (λ act. statement (record { layer = None; instance = instance_of h; act = act })) acts in
      ap (λ l. flat_map (flat_entry own_text layers) (map (wrapped around) l)) (append-nil (own ++ []) ∙ append-nil own) ∙ entry-statements own_text layers (instance_of h) around None acts

  -- an instance is its connections, in the order of its formals, which have these roles
  pub instance-made : (name of : Bor Word) (args : Bor (List Expr)) (formals : List Word) (roles : List Role) (table : List (Name × List Role)) →
      formals ≡ (body_of (types_from [] own_text.tops) (modules own_text.tops) of.now.name).formals → roles ≡ unwrap_or (find_name table of.now.name) [] → table ≡ map roles_beside (modules own_text.tops) →
      map (act_item (scope_here h) None around) (flat_map (connected name.now.name) (zip (zip formals roles) args.now)) ≡ flat_said own_text layers (instance_of h) around (noted.Instance name of args)
  instance-made name of args formals roles table words found tabled =
      let body : Body = body_of (types_from [] own_text.tops) (modules own_text.tops) of.now.name in
      let own : roles ≡ roles_of_body body =
      found ∙ ap (λ t. unwrap_or (find_name t of.now.name) []) tabled ∙ roles-found (types_from [] own_text.tops) (modules own_text.tops) of.now.name in
      let says : List Stmt → List FlatItem = λ acts. map (act_item (scope_here h) None around) acts in
      ap (λ l. says (flat_map (connected name.now.name) (zip (zip l roles) args.now))) words
      ∙ ap (λ l. says (flat_map (connected name.now.name) (zip (zip body.formals l) args.now))) own
      ∙ ap says (roles-beside body.items name.now.name body.formals args.now)
      ∙ sym (said-Instance name of args)

-- all that is met is all that is said
pub flat-all : (text : Text) (layers : List Name) (all : List Met) → flat_map (flat_met text layers) all ≡ flat_map (flat_entry text layers) (flat_map (entries_met text) all)
unfolding flat_said
flat-all text layers all = sym (flat_map-flat_map (flat_entry text layers) (entries_met text) all)

abbrev flat_text_of : List SetInfo → List (List Name) → List Name → List FlatFamily → List FlatItem → FlatText
flat_text_of sets enums layers families items = record { sets = sets; enums = enums; layers = layers; families = families; items = items }

-- the whole
pub whole : (text : Text) (numbers : Numbers) → numbers.text.now ≡ text → AreNumbers numbers → (all : List Met) → flat_map (entries_met numbers.text.now) all ≡ entries.entries numbers.text.now →
    (names : List Name) → names ≡ layers_of (flat_map (entries_met numbers.text.now) all) → (items : List FlatItem) → items ≡ with_places 0 (flat_map (flat_met numbers.text.now names) all) →
    flat_text_of numbers.sets numbers.enums names numbers.families items ≡ flatten text
whole text numbers is numbered all met names named items placed =
    let t : Text = numbers.text.now in
    let layers : List Name = layers_of (entries.entries t) in
    let same : names ≡ layers = named ∙ ap layers_of met in
    let done : items ≡ with_places 0 (flat_map (flat_entry t layers) (entries.entries t)) =
    placed ∙ ap (with_places 0) (flat-all t names all ∙ ap (λ l. flat_map (flat_entry t names) l) met ∙ ap (λ l. flat_map (flat_entry t l) (entries.entries t)) same) in
    ap (λ x. flat_text_of x numbers.enums names numbers.families items) numbered.sets
    ∙ ap (λ x. flat_text_of (scope_in t []).sets x names numbers.families items) numbered.enums
    ∙ ap (λ x. flat_text_of (scope_in t []).sets (enums_of t) x numbers.families items) same
    ∙ ap (λ x. flat_text_of (scope_in t []).sets (enums_of t) layers x items) numbered.families
    ∙ ap (λ x. flat_text_of (scope_in t []).sets (enums_of t) layers (map (flat_family (scope_in t [])) (entries.placed_families t)) x) done
    ∙ ap flatten is

pub ruleset items = (said-Act, said-Layer, said-Claim, said-Split, said-Using)
