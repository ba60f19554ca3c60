-- The design of a tree without places is like that of the tree.
use Rattle.std.proofs.Common.{◌≡◌, ◌<◌, ℕ, zero, suc, List, [], ◌∷◌, ◌++◌, map, flat_map, zip, length, get_or, Option, Some, None, unwrap_or, Bool, true, false, if◌then◌else◌, refl, sym, ap, ◌∙◌, subst, All, arith}
use Rattle.std.specs.Str.{bytes_eq}
use Rattle.std.specs.List.{AllZip, list_any}
use Rattle.smv_core.specs.Values.{Name, Path, Value, Sizes}
use Rattle.smv_core.specs.Types.{Types, Family, find_name, types_from, shape_of, values_over, IsSizedTop}
use Rattle.smv_core.specs.FlatOrder.{TextDesign, Met, said, claimed, Claimed, Body, modules, role_of, inner_path, assigned_path, connection, connections, within_binder, declared_as, families_of_item, families_in, body_of, instance_met, item_met, items_met, met_in, main, design_of}
use Rattle.smv_core.specs.Outcome.{State, Bindings, outcome}
use Rattle.smv_core.specs.Walk.{first}
use Rattle.smv_core.specs.Allowed.{scene_at}
use Rattle.smv_core.specs.Sound.{AtEachTime, IsSound, claim_of, bound, choices, Holds}
use Rattle.smv_core.specs.declared.tree.Word.{Word}
use Rattle.smv_core.specs.declared.tree.Text.{Text}
use Rattle.smv_core.specs.declared.tree.Top.{Top}
use Rattle.smv_core.specs.declared.tree.Top.TheVariants.{SetType, Alias, Module}
use Rattle.smv_core.specs.declared.tree.Role.{Role}
use Rattle.smv_core.specs.declared.tree.Role.TheVariants.{Plain, Abstract, Input, Output}
use Rattle.smv_core.specs.declared.tree.TypeExpr.{TypeExpr}
use Rattle.smv_core.specs.declared.tree.Expr.{Expr, Number, Signal, Signal', Not', And', Or', Implies', Iff', Compare', Within', Sum', Modulo', Choose', All', Any', List', Each'}
use Rattle.smv_core.specs.declared.tree.Stmt.{Stmt, Forall}
use Rattle.smv_core.specs.declared.tree.Item.{Item, Declare, Instance, Layer, Forall', Block', Claim, Split, Using, Act, Row_of-Item, end_of-Item, more_of-Item}
use Rattle.law_places.specs.Placeless.{placeless_word, placeless_type, placeless, placeless_stmt, placeless_item, placeless_items, placeless_top, placeless_text}
use Rattle.law_places.specs.Likeness.{IsLikeAct, IsLikeMet, IsLike, AlwaysHolds}
use Rattle.law_places.proofs.Computing.{computing}
use Rattle.law_places.proofs.Expressions.{map-same, map-words, placeless-shape, placeless-values, parts-row, placeless-outcome}
use Rattle.law_places.proofs.Statements.{like-placeless}
use Rattle.law_places.proofs.LikeDesigns.{zipped-append, each-time, like_designs_hold}

-- ---- claims

abbrev pub placeless_param : Name × TypeExpr → Name × TypeExpr
placeless_param p = (p.0, placeless_type p.1)

abbrev pub placeless_claim : Claimed → Claimed
placeless_claim c = record { instance = c.instance; name = c.name; params = map placeless_param c.params; body = placeless c.body }

abbrev pub IsPlacelessClaim : Claimed → Claimed → Type 0
IsPlacelessClaim c other = other ≡ placeless_claim c

bound-placeless : (params : List (Name × TypeExpr)) (vs : List Value) (b : Bindings) → bound (map placeless_param params) vs b ≡ bound params vs b
bound-placeless [] vs b = refl
bound-placeless (p ∷ params) [] b = refl
bound-placeless (p ∷ params) (v ∷ vs) b = bound-placeless params vs ((p.0, v) ∷ b)

values-placeless : (types : Types) (sizes : Sizes) (params : List (Name × TypeExpr)) → map (λ p. values_over types sizes p.1) (map placeless_param params) ≡ map (λ p. values_over types sizes p.1) params
values-placeless types sizes [] = refl
values-placeless types sizes (p ∷ params) = rw (placeless-values types sizes p.1, values-placeless types sizes params) refl

-- a claim without places holds where the claim does
module _ (d : TextDesign) (sizes : Sizes) (run : List State) (c : Claimed) where
  same-outcome : (vs : List Value) (now : State) → outcome (scene_at d sizes c.instance) now (placeless c.body) (bound (map placeless_param c.params) vs []) ≡ outcome (scene_at d sizes c.instance) now c.body (bound c.params vs [])
  same-outcome vs now = placeless-outcome (scene_at d sizes c.instance) now c.body (bound (map placeless_param c.params) vs []) ∙ ap (outcome (scene_at d sizes c.instance) now c.body) (bound-placeless c.params vs [])

  from-placeless : AlwaysHolds d sizes run (claim_of (placeless_claim c)) → AlwaysHolds d sizes run (claim_of c)
  from-placeless h = subst (λ l. All (λ vs. AtEachTime (Holds d sizes (claim_of c) vs) None run) (choices l)) (values-placeless d.types sizes c.params)
      (λ k vs lt. each-time (Holds d sizes (claim_of (placeless_claim c)) _) (Holds d sizes (claim_of c) _) (λ before now q. sym (same-outcome _ now) ∙ q) None run (h k vs lt))

  to-placeless : AlwaysHolds d sizes run (claim_of c) → AlwaysHolds d sizes run (claim_of (placeless_claim c))
  to-placeless h = subst (λ l. All (λ vs. AtEachTime (Holds d sizes (claim_of (placeless_claim c)) vs) None run) (choices l)) (sym (values-placeless d.types sizes c.params))
      (λ k vs lt. each-time (Holds d sizes (claim_of c) _) (Holds d sizes (claim_of (placeless_claim c)) _) (λ before now q. same-outcome _ now ∙ q) None run (h k vs lt))

-- ---- statements

like-forall : (word : Word) (over : TypeExpr) (act other : Stmt) → IsLikeAct act other → IsLikeAct (Forall word over act 0) (Forall (placeless_word word) (placeless_type over) other 0)
unfolding computing
like-forall word over act other p = record {
  walks = λ scene s kind x every b. rw (placeless-values scene.types scene.sizes over) (ap first (map-same _ _ (values_over scene.types scene.sizes over) (λ v. p.walks scene s kind x every ((word.name, v) ∷ b))));
  assigns = λ instance around. p.assigns instance _;
}

placeless-signal : (n a : Name) → placeless (Signal (inner_path n a)) ≡ Signal (inner_path n a)
unfolding placeless computing
placeless-signal n a = refl

placeless-assigned_path : (n a : Name) (e : Expr) → assigned_path n a (placeless e) ≡ map placeless_stmt (assigned_path n a e)
unfolding placeless placeless_stmt
placeless-assigned_path n a (Signal' shape parts at) = rw (parts-row _ parts, placeless-signal n a) refl
placeless-assigned_path n a (Number value at) = refl
placeless-assigned_path n a (Not' shape of at) = refl
placeless-assigned_path n a (And' shape parts) = refl
placeless-assigned_path n a (Or' shape parts) = refl
placeless-assigned_path n a (Implies' shape parts) = refl
placeless-assigned_path n a (Iff' l left r right) = refl
placeless-assigned_path n a (Compare' op l left r right) = refl
placeless-assigned_path n a (Within' l left r set) = refl
placeless-assigned_path n a (Sum' f first shape more) = refl
placeless-assigned_path n a (Modulo' shape of by at) = refl
placeless-assigned_path n a (Choose' t test l left r right) = refl
placeless-assigned_path n a (All' shape body word over at) = refl
placeless-assigned_path n a (Any' shape body word over at) = refl
placeless-assigned_path n a (List' shape members at) = refl
placeless-assigned_path n a (Each' word over held at) = refl

placeless-connection : (role : Role) (n a : Name) (e : Expr) → connection role n a (placeless e) ≡ map placeless_stmt (connection role n a e)
unfolding placeless_stmt
placeless-connection Plain n a e = refl
placeless-connection Abstract n a e = refl
placeless-connection Input n a e = refl
placeless-connection Output n a e = placeless-assigned_path n a e

map-append : {X Y : Type 0} (h : X → Y) (xs ys : List X) → map h (xs ++ ys) ≡ map h xs ++ map h ys
map-append h [] ys = refl
map-append h (x ∷ xs) ys = ap (λ l. h x ∷ l) (map-append h xs ys)

abbrev pub placeless_body : Body → Body
placeless_body b = record { formals = map placeless_word b.formals; items = map placeless_item b.items }

role-placeless : (items : List Item) (a : Name) → role_of (map placeless_item items) a ≡ role_of items a
unfolding placeless_item
role-placeless [] a = refl
role-placeless (Declare role words of at ∷ items) a = rw (any-words words, role-placeless items a) refl
  where
    any-words : (words : List Word) → list_any (λ word. bytes_eq word.name a) (map placeless_word words) ≡ list_any (λ word. bytes_eq word.name a) words
    any-words [] = refl
    any-words (word ∷ words) = rw (any-words words) refl
role-placeless (Instance words m args at ∷ items) a = role-placeless items a
role-placeless (Layer word body at ∷ items) a = role-placeless items a
role-placeless (Forall' word over shape body at ∷ items) a = role-placeless items a
role-placeless (Block' shape body ∷ items) a = role-placeless items a
role-placeless (Claim word vars body at ∷ items) a = role-placeless items a
role-placeless (Split word vars of pairs at ∷ items) a = role-placeless items a
role-placeless (Using uses proves at ∷ items) a = role-placeless items a
role-placeless (Act act ∷ items) a = role-placeless items a

placeless-connections : (b : Body) (n : Name) (args : List Expr) → connections (placeless_body b) n (map placeless args) ≡ map placeless_stmt (connections b n args)
placeless-connections b n args = each b.formals args
  where
    each : (formals : List Word) (args : List Expr) →
        flat_map (λ (word, e). connection (role_of (map placeless_item b.items) word.name) n word.name e) (zip (map placeless_word formals) (map placeless args)) ≡ map placeless_stmt (flat_map (λ (word, e). connection (role_of b.items word.name) n word.name e) (zip formals args))
    each [] args = refl
    each (word ∷ formals) [] = refl
    each (word ∷ formals) (e ∷ args) =
        rw (role-placeless b.items word.name, placeless-connection (role_of b.items word.name) n word.name e, each formals args)
        (sym (map-append placeless_stmt (connection (role_of b.items word.name) n word.name e) (flat_map (λ (word, e). connection (role_of b.items word.name) n word.name e) (zip formals args))))

-- ---- modules

abbrev pub placeless_module : Name × Body → Name × Body
placeless_module p = (p.0, placeless_body p.1)

placeless-modules : (tops : List Top) → modules (map placeless_top tops) ≡ map placeless_module (modules tops)
placeless-modules [] = refl
placeless-modules (SetType word ordered span at ∷ tops) = placeless-modules tops
placeless-modules (Alias word of at ∷ tops) = placeless-modules tops
placeless-modules (Module word formals body at ∷ tops) = ap (λ l. (word.name, record { formals = map placeless_word formals; items = map placeless_item body }) ∷ l) (placeless-modules tops)

placeless-types : (tops : List Top) (known : Types) → types_from known (map placeless_top tops) ≡ types_from known tops
placeless-types [] known = refl
placeless-types (SetType word true span at ∷ tops) known = placeless-types tops _
placeless-types (SetType word false span at ∷ tops) known = placeless-types tops _
placeless-types (Alias word of at ∷ tops) known = ap (λ shape. types_from (known ++ (word.name, shape) ∷ []) (map placeless_top tops)) (placeless-shape known of) ∙ placeless-types tops (known ++ (word.name, shape_of known of) ∷ [])
placeless-types (Module word formals body at ∷ tops) known = placeless-types tops known

placeless-sized : (sizes : Sizes) (top : Top) → IsSizedTop sizes (placeless_top top) ≡ IsSizedTop sizes top
placeless-sized sizes (SetType word ordered (Some span) at) = refl
placeless-sized sizes (SetType word ordered None at) = refl
placeless-sized sizes (Alias word of at) = refl
placeless-sized sizes (Module word formals body at) = refl

length-map : {X Y : Type 0} (h : X → Y) (xs : List X) → length (map h xs) ≡ length xs
length-map h [] = refl
length-map h (x ∷ xs) = ap suc (length-map h xs)

module _ (types : Types) (bs : List (Name × Body)) where
  abbrev ds : List (Name × Body)
  ds = map placeless_module bs

  placeless-body_of : (n : Name) → body_of types ds n ≡ placeless_body (body_of types bs n)
  placeless-body_of n = each bs
    where
      each : (bodies : List (Name × Body)) → body_of types (map placeless_module bodies) n ≡ placeless_body (body_of types bodies n)
      each [] = refl
      each (p ∷ bodies) = by_name (bytes_eq p.0 n) (each bodies)
        where
          by_name : (t : Bool) → body_of types (map placeless_module bodies) n ≡ placeless_body (body_of types bodies n) →
              unwrap_or (if t then Some (placeless_body p.1) else find_name (map placeless_module bodies) n) (record { formals = []; items = [] }) ≡ placeless_body (unwrap_or (if t then Some p.1 else find_name bodies n) (record { formals = []; items = [] }))
          by_name true h = refl
          by_name false h = h

  module _ (inside other : Path → Name → List Family) (alike : (here : Path) (m : Name) → inside here m ≡ other here m) (here : Path) where
    families-item : (item : Item) → families_of_item types bs inside here item ≡ families_of_item types ds other here (placeless_item item)
    unfolding placeless_item
    families-item (Declare role words of at) = rw (placeless-shape types of) (sym (map-words (λ word. map (declared_as role (here ++ word.name ∷ [])) (shape_of types of)) (λ word. refl) words))
    families-item (Instance words m args at) = each words
      where
        each : (words : List Word) → flat_map (λ word. inside (here ++ word.name ∷ []) m.name) words ≡ flat_map (λ word. other (here ++ word.name ∷ []) m.name) (map placeless_word words)
        each [] = refl
        each (word ∷ words) = rw (alike (here ++ word.name ∷ []) m.name, each words) refl
    families-item (Layer word body at) = refl
    families-item (Forall' word over shape body at) = refl
    families-item (Block' shape body) = refl
    families-item (Claim word vars body at) = refl
    families-item (Split word vars of pairs at) = refl
    families-item (Using uses proves at) = refl
    families-item (Act act) = refl

    families-items : (items : List Item) → flat_map (families_of_item types bs inside here) items ≡ flat_map (families_of_item types ds other here) (map placeless_item items)
    families-items [] = refl
    families-items (item ∷ items) = rw (families-item item, families-items items) refl

  placeless-families : (n : ℕ) (here : Path) (m : Name) → families_in types bs n here m ≡ families_in types ds n here m
  placeless-families zero here m = refl
  placeless-families (suc n) here m = families-items (families_in types bs n) (families_in types ds n) (placeless-families n) here (body_of types bs m).items ∙ ap (λ x. flat_map (families_of_item types ds (families_in types ds n) here) x.items) (sym (placeless-body_of m))

  -- ---- what is met

  binder-met : (word : Word) (over : TypeExpr) (xs ys : List Met) → AllZip (IsLikeMet IsPlacelessClaim) xs ys → AllZip (IsLikeMet IsPlacelessClaim) (map (within_binder word over) xs) (map (within_binder (placeless_word word) (placeless_type over)) ys)
  binder-met word over [] [] p = tt
  binder-met word over (x ∷ xs) (y ∷ ys) p = (one x y p.0, binder-met word over xs ys p.1)
    where
      one : (x y : Met) → IsLikeMet IsPlacelessClaim x y → IsLikeMet IsPlacelessClaim (within_binder word over x) (within_binder (placeless_word word) (placeless_type over) y)
      one (said x) (said y) q = record { layer = q.layer; instance = q.instance; act = like-forall word over x.act y.act q.act }
      one (claimed c) (claimed other) q = ap (λ z. record { instance = z.instance; name = z.name; params = (word.name, placeless_type over) ∷ z.params; body = z.body }) q
      one (said x) (claimed c) q = absurd q
      one (claimed c) (said x) q = absurd q
  binder-met word over [] (y ∷ ys) p = absurd p
  binder-met word over (x ∷ xs) [] p = absurd p

  acts-met : (layer : Option Name) (here : Path) (acts : List Stmt) →
      AllZip (IsLikeMet IsPlacelessClaim) (map (λ act. said (record { layer = layer; instance = here; act = act })) acts) (map (λ act. said (record { layer = layer; instance = here; act = act })) (map placeless_stmt acts))
  acts-met layer here [] = tt
  acts-met layer here (act ∷ acts) = (record { layer = refl; instance = refl; act = like-placeless act }, acts-met layer here acts)

  module _ (inside other : Path → Name → List Met) (alike : (here : Path) (m : Name) → AllZip (IsLikeMet IsPlacelessClaim) (inside here m) (other here m)) (here : Path) where
    abbrev as_said : Stmt → Met
    as_said act = said (record { layer = None; instance = here; act = act })

    instance-placeless : (m : Name) (args : List Expr) (n : Name) → AllZip (IsLikeMet IsPlacelessClaim) (instance_met types bs inside here m args n) (instance_met types ds other here m (map placeless args) n)
    instance-placeless m args n =
        zipped-append (IsLikeMet IsPlacelessClaim) (map as_said (connections (body_of types bs m) n args)) (map as_said (connections (body_of types ds m) n (map placeless args))) (inside (here ++ n ∷ []) m) (other (here ++ n ∷ []) m)
        (subst (λ l. AllZip (IsLikeMet IsPlacelessClaim) (map as_said (connections (body_of types bs m) n args)) (map as_said l)) (sym (ap (λ b. connections b n (map placeless args)) (placeless-body_of m) ∙ placeless-connections (body_of types bs m) n args))
        (acts-met None here (connections (body_of types bs m) n args)))
        (alike (here ++ n ∷ []) m)

    instances-placeless : (m : Name) (args : List Expr) (words : List Word) →
        AllZip (IsLikeMet IsPlacelessClaim) (flat_map (λ word. instance_met types bs inside here m args word.name) words) (flat_map (λ word. instance_met types ds other here m (map placeless args) word.name) (map placeless_word words))
    instances-placeless m args [] = tt
    instances-placeless m args (word ∷ words) = zipped-append (IsLikeMet IsPlacelessClaim) (instance_met types bs inside here m args word.name) (instance_met types ds other here m (map placeless args) word.name) _ _ (instance-placeless m args word.name) (instances-placeless m args words)

    mutual
      unfolding placeless_item

      item-placeless : (item : Item) → AllZip (IsLikeMet IsPlacelessClaim) (item_met types bs inside here item) (item_met types ds other here (placeless_item item))
      item-placeless (Declare role words of at) = tt
      item-placeless (Instance words m args at) = instances-placeless m.name args words
      item-placeless (Layer word body at) = acts-met (Some word.name) here body
      item-placeless (Forall' word over shape (more_of-Item body end_of-Item) at) = binder-met word over _ _ (item-placeless body)
      item-placeless (Block' shape items) = items-placeless items
      item-placeless (Claim word vars body at) = (refl, tt)
      item-placeless (Split word vars of pairs at) = tt
      item-placeless (Using uses proves at) = tt
      item-placeless (Act act) = (record { layer = refl; instance = refl; act = like-placeless act }, tt)

      items-placeless : {m : _} (items : Row_of-Item m) → AllZip (IsLikeMet IsPlacelessClaim) (items_met types bs inside here items) (items_met types ds other here (placeless_items items))
      items-placeless end_of-Item = tt
      items-placeless (more_of-Item item rest) = zipped-append (IsLikeMet IsPlacelessClaim) (item_met types bs inside here item) (item_met types ds other here (placeless_item item)) _ _ (item-placeless item) (items-placeless rest)

    list-placeless : (items : List Item) → AllZip (IsLikeMet IsPlacelessClaim) (flat_map (item_met types bs inside here) items) (flat_map (item_met types ds other here) (map placeless_item items))
    list-placeless [] = tt
    list-placeless (item ∷ items) = zipped-append (IsLikeMet IsPlacelessClaim) (item_met types bs inside here item) (item_met types ds other here (placeless_item item)) _ _ (item-placeless item) (list-placeless items)

  placeless-met : (n : ℕ) (here : Path) (m : Name) → AllZip (IsLikeMet IsPlacelessClaim) (met_in types bs n here m) (met_in types ds n here m)
  placeless-met zero here m = tt
  placeless-met (suc n) here m = subst (λ b. AllZip (IsLikeMet IsPlacelessClaim) (flat_map (item_met types bs (met_in types bs n) here) (body_of types bs m).items) (flat_map (item_met types ds (met_in types ds n) here) b.items)) (sym (placeless-body_of m))
      (list-placeless (met_in types bs n) (met_in types ds n) (placeless-met n) here (body_of types bs m).items)

-- ---- whole texts

pub like-text : (text : Text) → IsLike IsPlacelessClaim (design_of text) (design_of (placeless_text text))
like-text text = record {
  types = one_type;
  families =
      placeless-families types bodies (length bodies) [] main
      ∙ ap (λ n. families_in types (map placeless_module bodies) n [] main) (sym (length-map placeless_module bodies))
      ∙ ap (λ bs. families_in types bs (length bs) [] main) (sym (placeless-modules text.tops))
      ∙ ap (λ t. families_in t others (length others) [] main) one_type;
  met =
      subst (λ t. AllZip (IsLikeMet IsPlacelessClaim) (met_in types bodies (length bodies) [] main) (met_in t others (length others) [] main)) one_type
      (subst (λ bs. AllZip (IsLikeMet IsPlacelessClaim) (met_in types bodies (length bodies) [] main) (met_in types bs (length bs) [] main)) (sym (placeless-modules text.tops))
      (subst (λ n. AllZip (IsLikeMet IsPlacelessClaim) (met_in types bodies (length bodies) [] main) (met_in types (map placeless_module bodies) n [] main)) (sym (length-map placeless_module bodies))
      (placeless-met types bodies (length bodies) [] main)));
}
  where
    types : Types
    types = types_from [] text.tops

    bodies : List (Name × Body)
    bodies = modules text.tops

    others : List (Name × Body)
    others = modules (map placeless_top text.tops)

    one_type : types ≡ types_from [] (map placeless_top text.tops)
    one_type = sym (placeless-types text.tops [])

like-sym : (C : Claimed → Claimed → Type 0) (d e : TextDesign) → IsLike C d e → IsLike (λ a b. C b a) e d
like-sym C d e p = record { types = sym p.types; families = sym p.families; met = all d.met e.met p.met }
  where
    act : (x y : Stmt) → IsLikeAct x y → IsLikeAct y x
    act x y q = record { walks = λ scene s kind z every b. sym (q.walks scene s kind z every b); assigns = λ instance around. sym (q.assigns instance around) }

    one : (x y : Met) → IsLikeMet C x y → IsLikeMet (λ a b. C b a) y x
    one (said x) (said y) q = record { layer = sym q.layer; instance = sym q.instance; act = act x.act y.act q.act }
    one (claimed c) (claimed other) q = q
    one (said x) (claimed c) q = absurd q
    one (claimed c) (said x) q = absurd q

    all : (xs ys : List Met) → AllZip (IsLikeMet C) xs ys → AllZip (IsLikeMet (λ a b. C b a)) ys xs
    all [] [] q = tt
    all (x ∷ xs) (y ∷ ys) q = (one x y q.0, all xs ys q.1)
    all [] (y ∷ ys) q = absurd q
    all (x ∷ xs) [] q = absurd q

sized-placeless : (sizes : Sizes) (tops : List Top) → (All (IsSizedTop sizes) tops → All (IsSizedTop sizes) (map placeless_top tops)) × (All (IsSizedTop sizes) (map placeless_top tops) → All (IsSizedTop sizes) tops)
sized-placeless sizes [] = (λ h k d lt. absurd (omega (arith, lt)), λ h k d lt. absurd (omega (arith, lt)))
sized-placeless sizes (top ∷ tops) = (
  λ h k d lt. there k d lt (h zero top (omega arith)) ((sized-placeless sizes tops).0 (λ i t low. h (suc i) t (omega (arith, low)))),
  λ h k d lt. back k d lt (h zero (placeless_top top) (omega arith)) ((sized-placeless sizes tops).1 (λ i t low. h (suc i) t (omega (arith, low)))),
)
  where
    there : (k : ℕ) (d : Top) → k < suc (length (map placeless_top tops)) → IsSizedTop sizes top → All (IsSizedTop sizes) (map placeless_top tops) → IsSizedTop sizes (get_or (placeless_top top ∷ map placeless_top tops) k d)
    there zero d lt p rest = subst (λ (t : Type 0). t) (sym (placeless-sized sizes top)) p
    there (suc k) d lt p rest = rest k d (omega (arith, lt))

    back : (k : ℕ) (d : Top) → k < suc (length tops) → IsSizedTop sizes (placeless_top top) → All (IsSizedTop sizes) tops → IsSizedTop sizes (get_or (top ∷ tops) k d)
    back zero d lt p rest = subst (λ (t : Type 0). t) (placeless-sized sizes top) p
    back (suc k) d lt p rest = rest k d (omega (arith, lt))

pub sound-from_bare : (text : Text) → IsSound (placeless_text text) → IsSound text
sound-from_bare text h sizes are run is =
    let p = like_designs_hold IsPlacelessClaim (design_of text) (design_of (placeless_text text)) (like-text text) sizes run is in
    p.1 (λ c other q r. from-placeless (design_of text) sizes run c (subst (λ o. AlwaysHolds (design_of text) sizes run (claim_of o)) q r)) (h sizes ((sized-placeless sizes text.tops).0 are) run p.0)

pub sound-to_bare : (text : Text) → IsSound text → IsSound (placeless_text text)
sound-to_bare text h sizes are run is =
    let p = like_designs_hold (λ a b. IsPlacelessClaim b a) (design_of (placeless_text text)) (design_of text) (like-sym IsPlacelessClaim (design_of text) (design_of (placeless_text text)) (like-text text)) sizes run is in
    p.1 (λ other c q r. subst (λ o. AlwaysHolds (design_of (placeless_text text)) sizes run (claim_of o)) (sym q) (to-placeless (design_of (placeless_text text)) sizes run c r)) (h sizes ((sized-placeless sizes text.tops).1 are) run p.0)

-- texts that are the same without places mean the same
pub sound-alike : (text other : Text) → placeless_text text ≡ placeless_text other → IsSound text → IsSound other
sound-alike text other same h = sound-from_bare other (subst IsSound same (sound-to_bare text h))
