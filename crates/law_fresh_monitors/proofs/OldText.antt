-- The design of a text in which none of some names stands.
use Rattle.std.proofs.Common.{◌≡◌, ℕ, zero, suc, List, [], ◌∷◌, ◌++◌, map, flat_map, zip, length, Option, Some, None, unwrap_or, Bool, true, false, not, cond, refl, sym, ap, ◌∙◌, append-nil, append_assoc, arith}
use Rattle.std.specs.Str.{bytes_eq}
use Rattle.std.specs.List.{AllByRecursion, list_any}
use Rattle.std.proofs.lemmas.Slice.Eq.{bytes_eq-Decides}
use Rattle.law_lists.proofs.Booleans.{impossible}
use Rattle.law_lists.proofs.Each.{each_weaker, each_append, each_flat_map, each_in_any}
use Rattle.law_places.proofs.Computing.{computing}
use Rattle.smv_core.specs.Values.{Name, Path, Simple}
use Rattle.smv_core.specs.Types.{Types, Family, Shape, find_name, indexed, behind, array_of, simple_of, shape_or_none, shape_of, shape_of_fields, types_after, types_from}
use Rattle.smv_core.specs.FlatOrder.{Body, modules, main, Met, said, claimed, Said, design_of, declared_as, families_of_item, body_of, families_in, connection, connections, assigned_path, role_of, within_binder, instance_met, item_met, items_met, met_in}
use Rattle.smv_core.specs.Outcome.{fields_of}
use Rattle.smv_core.specs.Walk.{indexes_of, steps_of}
use Rattle.smv_core.specs.Assignments.{Assigned, Around as Bindable, loop, any, assignments, assignments_of, assignments_held, assignments_arms}
use Rattle.smv_core.specs.Allowed.{assignments_in, is_layer, said_in}
use Rattle.smv_core.specs.Rows.{one_stmt, one_type, Otherwise}
use Rattle.smv_core.specs.declared.tree.Word.{Word}
use Rattle.smv_core.specs.declared.tree.Top.{Top}
use Rattle.smv_core.specs.declared.tree.Top.TheVariants.{SetType, Alias, Module}
use Rattle.smv_core.specs.declared.tree.Role.{Role}
use Rattle.smv_core.specs.declared.tree.Role.TheVariants.{Plain, Abstract, Input, Output}
use Rattle.smv_core.specs.declared.tree.Path.{out-Path}
use Rattle.smv_core.specs.declared.tree.Part.{Field, At}
use Rattle.smv_core.specs.declared.tree.TypeExpr.{TypeExpr, Boolean, Range, Enum, Named, Array', Struct', Row_of-Field, end_of-Field, more_of-Field}
use Rattle.smv_core.specs.declared.tree.Expr.{Expr, Signal', Row_of-Part, end_of-Part, more_of-Part, items-the_row-Part}
use Rattle.smv_core.specs.declared.tree.Stmt as stmt
use Rattle.smv_core.specs.declared.tree.Stmt.{Stmt, Assign, Block', If', Switch', Default', For', Forall', Row_of-Stmt, end_of-Stmt, more_of-Stmt, Row_of-Arm, end_of-Arm, more_of-Arm}
use Rattle.smv_core.specs.declared.tree.Item as item
use Rattle.smv_core.specs.declared.tree.Item.{Item, Declare, Instance, Layer, Claim, Split, Using, Act, Row_of-Item, end_of-Item, more_of-Item}
use Rattle.law_formulas.specs.Formulas.{Formula}
use Rattle.law_formulas.specs.Monitors.{monitors_of, layer_of}
use Rattle.law_watched_runs.specs.Paths.{EachRead, EachReadIn, IndexesRead}
use Rattle.law_watched_runs.specs.Extended.{is_fresh, IsOld, is_other_layer}
use Rattle.law_watched_runs.proofs.Extended.{behind-instance}
use Rattle.law_formula_trees.specs.Placed.{claimed_in, AreOldFormals, IsOldClaim}
use Rattle.law_formula_trees.proofs.Lists.{each-mapped}
use Rattle.law_fresh_monitors.specs.Names.{IsOldName, AreOldWords, IsOldType, AreOldFields, IsOldLeft, AreOldLefts, IsOldBranch, AreOldArms, IsOldAct, IsOldItem, AreOldItems, IsOldTop}
use Rattle.law_fresh_monitors.specs.Laws.{OtherNamesFit}
use Rattle.law_fresh_monitors.proofs.Plans.{IsIn, plans, layer-in}

module _ (fresh : List Name) (formulas : List (ℕ × Formula)) where
  abbrev Old : Name → Type 0
  Old = IsOldName fresh

  -- ---- types

  abbrev ShapeIsOld : Shape → Type 0
  ShapeIsOld shape = AllByRecursion (λ (f : Family). AllByRecursion Old f.path) shape

  abbrev TypesAreOld : Types → Type 0
  TypesAreOld types = AllByRecursion (λ entry. ShapeIsOld entry.1) types

  found-old : (types : Types) → TypesAreOld types → (name : Name) → ShapeIsOld (shape_or_none (find_name types name))
  found-old [] h name = tt
  found-old ((other, shape) ∷ types) h name = by_test (bytes_eq other name) (found-old types h.1 name)
    where
      by_test : (b : Bool) → ShapeIsOld (shape_or_none (find_name types name)) → ShapeIsOld (shape_or_none (cond b (Some shape) (find_name types name)))
      by_test true k = h.0
      by_test false k = k

  array-old : (o : Option Simple) (shape : Shape) → ShapeIsOld shape → ShapeIsOld (array_of o shape)
  array-old None shape h = tt
  array-old (Some t) shape h = each-mapped (λ (f : Family). AllByRecursion Old f.path) (indexed t) shape h

  module _ (types : Types) (known : TypesAreOld types) where
    mutual
      shape-old : (t : TypeExpr) → IsOldType fresh t → ShapeIsOld (shape_of types t)
      shape-old Boolean h = (tt, tt)
      shape-old (Range span at) h = (tt, tt)
      shape-old (Enum names at) h = (tt, tt)
      shape-old (Named word at) h = found-old types known word.name
      shape-old (Array' i (one_type index) o (one_type of)) h = array-old (simple_of (shape_of types index)) (shape_of types of) (shape-old of h)
      shape-old (Struct' shape fields) h = fields-old fields h

      fields-old : {m : _} (fields : Row_of-Field m) → AreOldFields fresh fields → ShapeIsOld (shape_of_fields types fields)
      fields-old end_of-Field h = tt
      fields-old (more_of-Field names of at rest) h =
          each_append (λ (f : Family). AllByRecursion Old f.path) (flat_map (λ word. map (behind (word.name ∷ [])) (shape_of types of)) names) (shape_of_fields types rest)
          (each_flat_map (λ (word : Word). Old word.name) (λ (f : Family). AllByRecursion Old f.path) (λ word. map (behind (word.name ∷ [])) (shape_of types of))
          (λ word own. each-mapped (λ (f : Family). AllByRecursion Old f.path) (behind (word.name ∷ [])) (shape_of types of) (each_weaker (λ (f : Family). AllByRecursion Old f.path) (λ f. AllByRecursion Old (behind (word.name ∷ []) f).path) (λ f k. (own, k)) (shape_of types of) (shape-old of h.1)))
          names h.0) (fields-old rest h.2)

  types-old : (known : Types) → TypesAreOld known → (tops : List Top) → AllByRecursion (IsOldTop fresh formulas) tops → TypesAreOld (types_from known tops)
  types-old known k [] h = k
  types-old known k (SetType word false span at ∷ tops) h = types-old (types_after known (SetType word false span at)) (each_append (λ entry. ShapeIsOld entry.1) known _ k ((tt, tt), tt)) tops h.1
  types-old known k (SetType word true span at ∷ tops) h = types-old (types_after known (SetType word true span at)) (each_append (λ entry. ShapeIsOld entry.1) known _ k ((tt, tt), tt)) tops h.1
  types-old known k (Alias word of at ∷ tops) h = types-old (types_after known (Alias word of at)) (each_append (λ entry. ShapeIsOld entry.1) known _ k (shape-old known k of h.0, tt)) tops h.1
  types-old known k (Module word formals body at ∷ tops) h = types-old known k tops h.1

  -- ---- modules

  abbrev BodyIsOld : Name × Body → Type 0
  BodyIsOld entry = AreOldWords fresh entry.1.formals × AllByRecursion (IsOldItem fresh formulas) entry.1.items

  bodies-old : (tops : List Top) → AllByRecursion (IsOldTop fresh formulas) tops → AllByRecursion BodyIsOld (modules tops)
  bodies-old [] h = tt
  bodies-old (SetType word ordered span at ∷ tops) h = bodies-old tops h.1
  bodies-old (Alias word of at ∷ tops) h = bodies-old tops h.1
  bodies-old (Module word formals body at ∷ tops) h = (h.0, bodies-old tops h.1)

  body-old : (types : Types) (bodies : List (Name × Body)) → AllByRecursion BodyIsOld bodies → (name : Name) → BodyIsOld (name, body_of types bodies name)
  body-old types [] h name = (tt, tt)
  body-old types ((other, body) ∷ bodies) h name = by_test (bytes_eq other name) (body-old types bodies h.1 name)
    where
      empty : Body
      empty = record { formals = []; items = [] }

      by_test : (b : Bool) → BodyIsOld (name, unwrap_or (find_name bodies name) empty) → BodyIsOld (name, unwrap_or (cond b (Some body) (find_name bodies name)) empty)
      by_test true k = h.0
      by_test false k = k

  -- ---- families

  last-old : (here : Path) (w : Name) → Old w → is_fresh fresh (here ++ w ∷ []) ≡ false
  last-old [] w h = h
  last-old (n ∷ []) w h = h
  last-old (n ∷ k ∷ here) w h = last-old (k ∷ here) w h

  end-old : (here : Path) (w : Name) (p : Path) → Old w → AllByRecursion Old p → is_fresh fresh ((here ++ w ∷ []) ++ p) ≡ false
  end-old here w [] h k = ap (is_fresh fresh) (append-nil (here ++ w ∷ [])) ∙ last-old here w h
  end-old here w (q ∷ p) h k = ap (is_fresh fresh) (sym (append_assoc (here ++ w ∷ []) (q ∷ []) p)) ∙ end-old (here ++ w ∷ []) q p k.0 k.1

  module _ (types : Types) (known : TypesAreOld types) (bodies : List (Name × Body)) (old : AllByRecursion BodyIsOld bodies) where
    abbrev IsOldFamily : Family → Type 0
    IsOldFamily f = is_fresh fresh f.path ≡ false

    family-item : (inside : Path → Name → List Family) → ((p : Path) (name : Name) → AllByRecursion IsOldFamily (inside p name)) → (here : Path) (x : Item) → IsOldItem fresh formulas x → AllByRecursion IsOldFamily (families_of_item types bodies inside here x)
    family-item inside h here (Declare role words of at) k =
        each_flat_map (λ (word : Word). Old word.name) IsOldFamily (λ word. map (declared_as role (here ++ word.name ∷ [])) (shape_of types of))
        (λ word own. each-mapped IsOldFamily (declared_as role (here ++ word.name ∷ [])) (shape_of types of)
        (each_weaker (λ (f : Family). AllByRecursion Old f.path) (λ f. IsOldFamily (declared_as role (here ++ word.name ∷ []) f)) (λ f q. end-old here word.name f.path own q) (shape_of types of) (shape-old types known of k.1)))
        words k.0
    family-item inside h here (Instance words name args at) k = each_in_any IsOldFamily (λ word. inside (here ++ word.name ∷ []) name.name) (λ word. h (here ++ word.name ∷ []) name.name) words
    family-item inside h here (Layer name body at) k = tt
    family-item inside h here (item.Forall' var over shape (more_of-Item body end_of-Item) at) k = tt
    family-item inside h here (item.Block' shape items) k = tt
    family-item inside h here (Claim name vars body at) k = tt
    family-item inside h here (Split name vars of pairs at) k = tt
    family-item inside h here (Using uses proves at) k = tt
    family-item inside h here (Act act) k = tt

    families-old : (n : ℕ) (here : Path) (name : Name) → AllByRecursion IsOldFamily (families_in types bodies n here name)
    families-old zero here name = tt
    families-old (suc n) here name =
        each_flat_map (IsOldItem fresh formulas) IsOldFamily (families_of_item types bodies (families_in types bodies n) here)
        (λ x k. family-item (families_in types bodies n) (λ p other. families-old n p other) here x k) (body_of types bodies name).items (body-old types bodies old name).1

  -- ---- statements

  abbrev IsOldAssigned : Assigned → Type 0
  IsOldAssigned a = is_fresh fresh a.path ≡ false

  module _ (instance : Path) where
    mutual
      assigned-old : (act : Stmt) → IsOldLeft fresh act → (around : Bindable) → AllByRecursion IsOldAssigned (assignments instance act around)
      assigned-old (Assign kind left value at) h around = (behind-instance fresh instance (fields_of (out-Path left).parts) h, tt)
      assigned-old (Block' shape parts) h around = parts-old parts h around
      assigned-old (If' test l (one_stmt left) right at) h around = each_append IsOldAssigned (assignments instance left around) (assignments_held instance right around) (assigned-old left h.0 around) (held-old right h.1 around)
      assigned-old (Switch' on shape arms other at) h around = each_append IsOldAssigned (assignments_arms instance arms around) (assignments_held instance other around) (arms-old arms h.0 around) (held-old other h.1 around)
      assigned-old (Default' l (one_stmt left) r (one_stmt right) at) h around = each_append IsOldAssigned (assignments instance left around) (assignments instance right around) (assigned-old left h.0 around) (assigned-old right h.1 around)
      assigned-old (For' var from to closed step shape (one_stmt body) at) h around = each_in_any IsOldAssigned (λ n. assignments instance body ((var.name, loop n) ∷ around)) (λ n. assigned-old body h ((var.name, loop n) ∷ around)) (steps_of from to closed step)
      assigned-old (Forall' var over shape (one_stmt body) at) h around = assigned-old body h ((var.name, any) ∷ around)

      parts-old : {m : _} (parts : Row_of-Stmt m) → AreOldLefts fresh parts → (around : Bindable) → AllByRecursion IsOldAssigned (assignments_of instance parts around)
      parts-old end_of-Stmt h around = tt
      parts-old (more_of-Stmt part rest) h around = each_append IsOldAssigned (assignments instance part around) (assignments_of instance rest around) (assigned-old part h.0 around) (parts-old rest h.1 around)

      held-old : (part : Otherwise) → IsOldBranch fresh part → (around : Bindable) → AllByRecursion IsOldAssigned (assignments_held instance part around)
      held-old stmt.None' h around = tt
      held-old (stmt.Some' shape (one_stmt part)) h around = assigned-old part h around

      arms-old : {m : _} (arms : Row_of-Arm m) → AreOldArms fresh arms → (around : Bindable) → AllByRecursion IsOldAssigned (assignments_arms instance arms around)
      arms-old end_of-Arm h around = tt
      arms-old (more_of-Arm labels body rest) h around = each_append IsOldAssigned (assignments instance body around) (assignments_arms instance rest around) (assigned-old body h.0 around) (arms-old rest h.1 around)

  -- ---- connections

  row-indexes : (n : _) (row : Row_of-Part n) → IndexesRead (IsOld fresh) row → AllByRecursion (EachRead (IsOld fresh)) (indexes_of (items-the_row-Part n row))
  unfolding computing
  row-indexes n end_of-Part h = tt
  row-indexes n (more_of-Part (Field word) rest) h = row-indexes _ rest h
  row-indexes n (more_of-Part (At index) rest) h = (h.0, row-indexes _ rest h.1)

  path-old : (n a : Name) (e : Expr) → Old a → EachRead (IsOld fresh) e → AllByRecursion (IsOldAct fresh) (assigned_path n a e)
  unfolding computing
  path-old n a (Signal' shape parts at) own h = (((row-indexes _ parts h.1, (own, tt)), h.0), tt)
  path-old n a e own h = tt

  connection-old : (role : Role) (n a : Name) (e : Expr) → Old a → EachRead (IsOld fresh) e → AllByRecursion (IsOldAct fresh) (connection role n a e)
  unfolding computing
  connection-old Input n a e own h = (((tt, h), own), tt)
  connection-old Output n a e own h = path-old n a e own h
  connection-old Plain n a e own h = tt
  connection-old Abstract n a e own h = tt

  abbrev connected : Body → Name → Word × Expr → List Stmt
  connected body n pair = connection (role_of body.items pair.0.name) n pair.0.name pair.1

  abbrev PairIsOld : Word × Expr → Type 0
  PairIsOld pair = Old pair.0.name × EachRead (IsOld fresh) pair.1

  pairs-old : (words : List Word) (es : List Expr) → AreOldWords fresh words → AllByRecursion (EachRead (IsOld fresh)) es → AllByRecursion PairIsOld (zip words es)
  pairs-old [] es h k = tt
  pairs-old (word ∷ words) [] h k = tt
  pairs-old (word ∷ words) (e ∷ es) h k = ((h.0, k.0), pairs-old words es h.1 k.1)

  connections-old : (body : Body) (n : Name) (args : List Expr) → AreOldWords fresh body.formals → AllByRecursion (EachRead (IsOld fresh)) args → AllByRecursion (IsOldAct fresh) (connections body n args)
  connections-old body n args formals reads =
      each_flat_map PairIsOld (IsOldAct fresh) (connected body n) (λ pair q. connection-old (role_of body.items pair.0.name) n pair.0.name pair.1 q.0 q.1) (zip body.formals args) (pairs-old body.formals args formals reads)

  -- ---- what is met

  module _ (layer : Name) (layer_new : IsIn fresh layer) where
    abbrev IsOldMet : Met → Type 0
    IsOldMet (said x) = (is_other_layer layer x ≡ true) × EachReadIn (IsOld fresh) x.act × ((around : Bindable) → AllByRecursion IsOldAssigned (assignments x.instance x.act around))
    IsOldMet (claimed c) = IsOldClaim fresh formulas c

    said-old : (l : Option Name) → not (is_layer l (Some layer)) ≡ true → (here : Path) (act : Stmt) → IsOldAct fresh act → IsOldMet (said (record { layer = l; instance = here; act = act }))
    said-old l other here act h = (other, h.0, λ around. assigned-old here act h.1 around)

    other-layer : (name : Name) → Old name → not (is_layer (Some name) (Some layer)) ≡ true
    other-layer name h = by_test (bytes_eq name layer) refl
      where
        by_test : (b : Bool) → bytes_eq name layer ≡ b → not b ≡ true
        by_test false e = refl
        by_test true e = impossible (list_any (bytes_eq layer) fresh) layer_new (ap (λ n. list_any (bytes_eq n) fresh) (sym ((bytes_eq-Decides name layer).0 e)) ∙ h)

    acts-old : (l : Option Name) → not (is_layer l (Some layer)) ≡ true → (here : Path) (acts : List Stmt) → AllByRecursion (IsOldAct fresh) acts → AllByRecursion IsOldMet (map (λ act. said (record { layer = l; instance = here; act = act })) acts)
    acts-old l other here [] h = tt
    acts-old l other here (act ∷ acts) h = (said-old l other here act h.0, acts-old l other here acts h.1)

    bound-old : (var : Word) (over : TypeExpr) → Old var.name → (m : Met) → IsOldMet m → IsOldMet (within_binder var over m)
    unfolding computing
    bound-old var over own (said x) h = (h.0, h.1, λ around. h.2 ((var.name, any) ∷ around))
    bound-old var over own (claimed c) h = record { reads = h.reads; params = (own, h.params) }

    module _ (types : Types) (bodies : List (Name × Body)) (old : AllByRecursion BodyIsOld bodies) where
      module _ (inside : Path → Name → List Met) (inner : (p : Path) (name : Name) → AllByRecursion IsOldMet (inside p name)) (here : Path) where
        mutual
          item-old : (x : Item) → IsOldItem fresh formulas x → AllByRecursion IsOldMet (item_met types bodies inside here x)
          item-old (Declare role words of at) h = tt
          item-old (Instance words name args at) h =
              each_in_any IsOldMet (λ word. instance_met types bodies inside here name.name args word.name)
              (λ word. each_append IsOldMet (map (λ act. said (record { layer = None; instance = here; act = act })) (connections (body_of types bodies name.name) word.name args)) (inside (here ++ word.name ∷ []) name.name)
              (acts-old None refl here (connections (body_of types bodies name.name) word.name args) (connections-old (body_of types bodies name.name) word.name args (body-old types bodies old name.name).0 h))
              (inner (here ++ word.name ∷ []) name.name)) words
          item-old (Layer name body at) h = acts-old (Some name.name) (other-layer name.name h.0) here body h.1
          item-old (item.Forall' var over shape (more_of-Item body end_of-Item) at) h =
              each-mapped IsOldMet (within_binder var over) (item_met types bodies inside here body) (each_weaker IsOldMet (λ m. IsOldMet (within_binder var over m)) (bound-old var over h.0) (item_met types bodies inside here body) (item-old body h.1))
          item-old (item.Block' shape items) h = items-old items h
          item-old (Claim name vars body at) h = (record { reads = h; params = tt }, tt)
          item-old (Split name vars of pairs at) h = tt
          item-old (Using uses proves at) h = tt
          item-old (Act act) h = (said-old None refl here act h, tt)

          items-old : {m : _} (items : Row_of-Item m) → AreOldItems fresh formulas items → AllByRecursion IsOldMet (items_met types bodies inside here items)
          items-old end_of-Item h = tt
          items-old (more_of-Item x rest) h = each_append IsOldMet (item_met types bodies inside here x) (items_met types bodies inside here rest) (item-old x h.0) (items-old rest h.1)

      met-old : (n : ℕ) (here : Path) (name : Name) → AllByRecursion IsOldMet (met_in types bodies n here name)
      met-old zero here name = tt
      met-old (suc n) here name =
          each_flat_map (IsOldItem fresh formulas) IsOldMet (item_met types bodies (met_in types bodies n) here) (λ x h. item-old (met_in types bodies n) (λ p other. met-old n p other) here x h) (body_of types bodies name).items (body-old types bodies old name).1

    said-each : (Q : Said → Type 0) → ((x : Said) → IsOldMet (said x) → Q x) → (met : List Met) → AllByRecursion IsOldMet met → AllByRecursion Q (flat_map said_in met)
    said-each Q h [] k = tt
    said-each Q h (said x ∷ met) k = (h x k.0, said-each Q h met k.1)
    said-each Q h (claimed c ∷ met) k = said-each Q h met k.1

    claim-each : (met : List Met) → AllByRecursion IsOldMet met → AllByRecursion (IsOldClaim fresh formulas) (flat_map claimed_in met)
    claim-each [] k = tt
    claim-each (said x ∷ met) k = claim-each met k.1
    claim-each (claimed c ∷ met) k = (k.0, claim-each met k.1)

formals-each : (fresh : List Name) (formulas : List (ℕ × Formula)) (bodies : List (Name × Body)) → AllByRecursion (BodyIsOld fresh formulas) bodies → AreOldFormals fresh bodies
formals-each fresh formulas [] h = tt
formals-each fresh formulas (body ∷ bodies) h = (h.0.0, formals-each fresh formulas bodies h.1)

pub fit : OtherNamesFit
fit names ft long old flat alone =
    let layer : Name = layer_of names ft in
    let layer_new : IsIn names layer = layer-in names (monitors_of ft.formulas) (omega (arith, long)) in
    let plan = plans ft.formulas names (omega (arith, long)) in
    let bodies = bodies-old names ft.formulas ft.text.tops old in
    let types = types-old names ft.formulas [] tt ft.text.tops old in
    let met : AllByRecursion (IsOldMet names ft.formulas layer layer_new) (design_of ft.text).met = met-old names ft.formulas layer layer_new (types_from [] ft.text.tops) (modules ft.text.tops) bodies (length (modules ft.text.tops)) [] main in (
      record {
        monitors = plan.1;
        named = plan.0;
        formals = formals-each names ft.formulas (modules ft.text.tops) bodies;
        flat = flat;
        families = families-old names ft.formulas (types_from [] ft.text.tops) types (modules ft.text.tops) bodies (length (modules ft.text.tops)) [] main;
        layers = said-each names ft.formulas layer layer_new (λ x. is_other_layer layer x ≡ true) (λ x h. h.0) (design_of ft.text).met met;
        reads = said-each names ft.formulas layer layer_new (λ x. EachReadIn (IsOld names) x.act) (λ x h. h.1) (design_of ft.text).met met;
        left = said-each names ft.formulas layer layer_new (λ x. AllByRecursion (λ (a : Assigned). is_fresh names a.path ≡ false) (assignments_in x)) (λ x h. h.2 []) (design_of ft.text).met met;
        alone = alone;
      },
      claim-each names ft.formulas layer layer_new (design_of ft.text).met met,
    )
