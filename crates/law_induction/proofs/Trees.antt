-- The design of a tree with a strengthened claim is the design of the tree, but for that claim.
use Rattle.std.proofs.Common.{◌≡◌, ◌<◌, ℕ, zero, suc, List, [], ◌∷◌, ◌++◌, map, flat_map, zip, length, get_or, ◌⊎◌, inl, inr, Some, None, unwrap_or, Bool, true, false, if◌then◌else◌, refl, sym, ap, ◌∙◌, subst, All, arith}
use Rattle.std.specs.Str.{bytes_eq}
use Rattle.std.specs.List.{AllZip, list_any}
use Rattle.std.proofs.lemmas.List.{append_assoc}
use Rattle.smv_core.specs.Values.{Name, Path, Sizes}
use Rattle.smv_core.specs.Types.{Types, Family, find_name, types_from, IsSizedTop}
use Rattle.smv_core.specs.FlatOrder.{Met, said, claimed, Said, Claimed, Body, modules, role_of, connection, connections, within_binder, families_of_item, families_in, body_of, instance_met, item_met, items_met, met_in, main, design_of}
use Rattle.smv_core.specs.Sound.{IsSound}
use Rattle.smv_core.specs.declared.tree.Word.{Word}
use Rattle.smv_core.specs.declared.tree.Text.{Text}
use Rattle.smv_core.specs.declared.tree.Top.{Top}
use Rattle.smv_core.specs.declared.tree.Top.TheVariants.{SetType, Alias, Module}
use Rattle.smv_core.specs.declared.tree.TypeExpr.{TypeExpr}
use Rattle.smv_core.specs.declared.tree.Expr.{Expr}
use Rattle.smv_core.specs.declared.tree.Stmt.{Stmt, Forall}
use Rattle.smv_core.specs.declared.tree.Item.{Item, Declare, Instance, Layer, Forall', Block', Claim, Split, Using, Act, Row_of-Item, end_of-Item, more_of-Item}
use Rattle.law_places.specs.Likeness.{IsLikeSaid, IsLikeMet, IsLike}
use Rattle.law_exchanged.specs.Changed.{changed_item, changed_items, changed_top}
use Rattle.law_induction.specs.Strengthened.{stronger, IsInductive, stronger_claim, IsStronger, is_main, strengthened, stronger_item, stronger_text, IsInductiveItem, AreInductiveItems, IsInductiveBody, AreInductiveTops}
use Rattle.law_lists.proofs.Lists.{flat_map_agree, nothing_behind}
use Rattle.law_places.proofs.LikeDesigns.{zipped-append, like_designs_hold}
use Rattle.law_induction.proofs.Inductions.{carried}

module _ (var fresh set name : Name) (types : Types) where
  -- the same statements, and claims that are the same or strengthened inside these binders besides their own
  abbrev IsStep : List (Name × TypeExpr) → Claimed → Claimed → Type 0
  IsStep around c other = (c ≡ other) ⊎ (IsInductive var fresh set types (around ++ c.params) c.body × (other ≡ stronger_claim var fresh set c))

  abbrev IsStepMet : List (Name × TypeExpr) → Met → Met → Type 0
  IsStepMet around (said x) (said y) = x ≡ y
  IsStepMet around (claimed c) (claimed other) = IsStep around c other
  IsStepMet around _ _ = ⊥

  -- more binders around
  more-outer : (around params : List (Name × TypeExpr)) (body : Expr) → IsInductive var fresh set types params body → IsInductive var fresh set types (around ++ params) body
  more-outer around params body i = record {
    outer = around ++ i.outer;
    over = i.over;
    inner = i.inner;
    split = ap (λ l. around ++ l) i.split ∙ sym (append_assoc around i.outer ((var, i.over) ∷ i.inner));
    of_set = i.of_set;
    named = i.named;
    innermost = i.innermost;
    apart = i.apart;
    renamable = i.renamable;
  }

  outer-met : (around : List (Name × TypeExpr)) (xs ys : List Met) → AllZip (IsStepMet []) xs ys → AllZip (IsStepMet around) xs ys
  outer-met around [] [] p = tt
  outer-met around (x ∷ xs) (y ∷ ys) p = (one x y p.0, outer-met around xs ys p.1)
    where
      one : (x y : Met) → IsStepMet [] x y → IsStepMet around x y
      one (said x) (said y) q = q
      one (claimed c) (claimed other) (inl same) = inl same
      one (claimed c) (claimed other) (inr (i, same)) = inr (more-outer around c.params c.body i, same)
      one (said x) (claimed c) q = absurd q
      one (claimed c) (said x) q = absurd q
  outer-met around [] (y ∷ ys) p = absurd p
  outer-met around (x ∷ xs) [] p = absurd p

  binder-met : (around : List (Name × TypeExpr)) (word : Word) (over : TypeExpr) (xs ys : List Met) → AllZip (IsStepMet (around ++ (word.name, over) ∷ [])) xs ys → AllZip (IsStepMet around) (map (within_binder word over) xs) (map (within_binder word over) ys)
  binder-met around word over [] [] p = tt
  binder-met around word over (x ∷ xs) (y ∷ ys) p = (one x y p.0, binder-met around word over xs ys p.1)
    where
      one : (x y : Met) → IsStepMet (around ++ (word.name, over) ∷ []) x y → IsStepMet around (within_binder word over x) (within_binder word over y)
      one (said x) (said y) q = ap (λ z. record { layer = z.layer; instance = z.instance; act = Forall word over z.act 0 }) q
      one (claimed c) (claimed other) (inl same) = inl (ap (λ z. record { instance = z.instance; name = z.name; params = (word.name, over) ∷ z.params; body = z.body }) same)
      one (claimed c) (claimed other) (inr (i, same)) = inr (
        subst (λ l. IsInductive var fresh set types l c.body) (append_assoc around ((word.name, over) ∷ []) c.params) i,
        ap (λ z. record { instance = z.instance; name = z.name; params = (word.name, over) ∷ z.params; body = z.body }) same,
      )
      one (said x) (claimed c) q = absurd q
      one (claimed c) (said x) q = absurd q
  binder-met around word over [] (y ∷ ys) p = absurd p
  binder-met around word over (x ∷ xs) [] p = absurd p

  said-met : (around : List (Name × TypeExpr)) (h : Stmt → Said) (acts : List Stmt) → AllZip (IsStepMet around) (map (λ act. said (h act)) acts) (map (λ act. said (h act)) acts)
  said-met around h [] = tt
  said-met around h (act ∷ acts) = (refl, said-met around h acts)

  -- a module is the same, or `main` with its claim strengthened
  abbrev IsStepBody : Body → Body → Type 0
  IsStepBody b c = (b ≡ c) ⊎ (IsInductiveBody var fresh set name types b.items × (c ≡ record { formals = b.formals; items = map (stronger_item var fresh set name) b.items }))

  abbrev AreStepBodies : List (Name × Body) → List (Name × Body) → Type 0
  AreStepBodies [] [] = Unit {0}
  AreStepBodies ((a, b) ∷ bs) ((c, d) ∷ ds) = (a ≡ c) × IsStepBody b d × AreStepBodies bs ds
  AreStepBodies _ _ = ⊥

  step-body : (bs ds : List (Name × Body)) → AreStepBodies bs ds → (n : Name) → IsStepBody (body_of types bs n) (body_of types ds n)
  step-body [] [] p n = inl refl
  step-body ((a, b) ∷ bs) ((c, d) ∷ ds) p n = by_name (bytes_eq a n) (ap (λ x. bytes_eq x n) p.0) (step-body bs ds p.2 n)
    where
      by_name : (t : Bool) → t ≡ bytes_eq c n → IsStepBody (body_of types bs n) (body_of types ds n) →
          IsStepBody (unwrap_or (if t then Some b else find_name bs n) (record { formals = []; items = [] })) (unwrap_or (if bytes_eq c n then Some d else find_name ds n) (record { formals = []; items = [] }))
      by_name true e rest = rw (sym e) p.1
      by_name false e rest = rw (sym e) rest
  step-body [] ((c, d) ∷ ds) p n = absurd p
  step-body ((a, b) ∷ bs) [] p n = absurd p

  step-length : (bs ds : List (Name × Body)) → AreStepBodies bs ds → length bs ≡ length ds
  step-length [] [] p = refl
  step-length ((a, b) ∷ bs) ((c, d) ∷ ds) p = ap suc (step-length bs ds p.2)
  step-length [] ((c, d) ∷ ds) p = absurd p
  step-length ((a, b) ∷ bs) [] p = absurd p

  role-same : (items : List Item) (a : Name) → role_of items a ≡ role_of (map (stronger_item var fresh set name) items) a
  unfolding changed_item
  role-same [] a = refl
  role-same (Declare role words of at ∷ items) a = ap (λ r. if list_any (λ word. bytes_eq word.name a) words then role else r) (role-same items a)
  role-same (Instance words m args at ∷ items) a = role-same items a
  role-same (Layer word body at ∷ items) a = role-same items a
  role-same (Forall' word over shape body at ∷ items) a = role-same items a
  role-same (Block' shape body ∷ items) a = role-same items a
  role-same (Claim word vars body at ∷ items) a = role-same items a
  role-same (Split word vars of pairs at ∷ items) a = role-same items a
  role-same (Using uses proves at ∷ items) a = role-same items a
  role-same (Act act ∷ items) a = role-same items a

  connections-same : (b c : Body) → IsStepBody b c → (n : Name) (args : List Expr) → connections b n args ≡ connections c n args
  connections-same b c (inl same) n args = ap (λ x. connections x n args) same
  connections-same b c (inr (i, same)) n args =
      flat_map_agree (λ (word, e). connection (role_of b.items word.name) n word.name e) (λ (word, e). connection (role_of (map (stronger_item var fresh set name) b.items) word.name) n word.name e)
      (λ (word, e). ap (λ r. connection r n word.name e) (role-same b.items word.name)) (zip b.formals args)
      ∙ ap (λ x. connections x n args) (sym same)

  module _ (bs ds : List (Name × Body)) (step : AreStepBodies bs ds) where
    -- ---- families

    module _ (inside other : Path → Name → List Family) (alike : (here : Path) (m : Name) → inside here m ≡ other here m) (here : Path) where
      families-same : (item : Item) → families_of_item types bs inside here item ≡ families_of_item types ds other here item
      families-same (Declare role words of at) = refl
      families-same (Instance words m args at) = flat_map_agree _ _ (λ word. alike (here ++ word.name ∷ []) m.name) words
      families-same (Layer word body at) = refl
      families-same (Forall' word over shape body at) = refl
      families-same (Block' shape body) = refl
      families-same (Claim word vars body at) = refl
      families-same (Split word vars of pairs at) = refl
      families-same (Using uses proves at) = refl
      families-same (Act act) = refl

      families-stronger : (item : Item) → families_of_item types bs inside here item ≡ families_of_item types ds other here (stronger_item var fresh set name item)
      unfolding changed_item
      families-stronger (Declare role words of at) = refl
      families-stronger (Instance words m args at) = flat_map_agree _ _ (λ word. alike (here ++ word.name ∷ []) m.name) words
      families-stronger (Layer word body at) = refl
      families-stronger (Forall' word over shape body at) = refl
      families-stronger (Block' shape body) = refl
      families-stronger (Claim word vars body at) = refl
      families-stronger (Split word vars of pairs at) = refl
      families-stronger (Using uses proves at) = refl
      families-stronger (Act act) = refl

      families-items : (items : List Item) → flat_map (families_of_item types bs inside here) items ≡ flat_map (families_of_item types ds other here) (map (stronger_item var fresh set name) items)
      families-items [] = refl
      families-items (item ∷ items) = rw (families-stronger item, families-items items) refl

      families-body : (b c : Body) → IsStepBody b c → flat_map (families_of_item types bs inside here) b.items ≡ flat_map (families_of_item types ds other here) c.items
      families-body b c (inl same) = flat_map_agree (families_of_item types bs inside here) (families_of_item types ds other here) families-same b.items ∙ ap (λ x. flat_map (families_of_item types ds other here) x.items) same
      families-body b c (inr (i, same)) = families-items b.items ∙ ap (λ x. flat_map (families_of_item types ds other here) x.items) (sym same)

    families-in : (n : ℕ) (here : Path) (m : Name) → families_in types bs n here m ≡ families_in types ds n here m
    families-in zero here m = refl
    families-in (suc n) here m = families-body (families_in types bs n) (families_in types ds n) (families-in n) here (body_of types bs m) (body_of types ds m) (step-body bs ds step m)

    -- ---- what is met

    module _ (inside other : Path → Name → List Met) (alike : (here : Path) (m : Name) → AllZip (IsStepMet []) (inside here m) (other here m)) (here : Path) where
      instance-step : (m : Name) (args : List Expr) (n : Name) → AllZip (IsStepMet []) (instance_met types bs inside here m args n) (instance_met types ds other here m args n)
      instance-step m args n =
          zipped-append (IsStepMet []) (map as_said (connections (body_of types bs m) n args)) (map as_said (connections (body_of types ds m) n args)) (inside (here ++ n ∷ []) m) (other (here ++ n ∷ []) m)
          (subst (λ l. AllZip (IsStepMet []) (map as_said (connections (body_of types bs m) n args)) (map as_said l)) (connections-same (body_of types bs m) (body_of types ds m) (step-body bs ds step m) n args)
          (said-met [] (λ act. record { layer = None; instance = here; act = act }) (connections (body_of types bs m) n args)))
          (alike (here ++ n ∷ []) m)
        where
          as_said : Stmt → Met
          as_said act = said (record { layer = None; instance = here; act = act })

      instances-step : (m : Name) (args : List Expr) (words : List Word) → AllZip (IsStepMet []) (flat_map (λ word. instance_met types bs inside here m args word.name) words) (flat_map (λ word. instance_met types ds other here m args word.name) words)
      instances-step m args [] = tt
      instances-step m args (word ∷ words) = zipped-append (IsStepMet []) (instance_met types bs inside here m args word.name) (instance_met types ds other here m args word.name) _ _ (instance-step m args word.name) (instances-step m args words)

      mutual
        item-same : (around : List (Name × TypeExpr)) (item : Item) → AllZip (IsStepMet around) (item_met types bs inside here item) (item_met types ds other here item)
        item-same around (Declare role words of at) = tt
        item-same around (Instance words m args at) = outer-met around _ _ (instances-step m.name args words)
        item-same around (Layer word body at) = said-met around (λ act. record { layer = Some word.name; instance = here; act = act }) body
        item-same around (Forall' word over shape (more_of-Item body end_of-Item) at) = binder-met around word over _ _ (item-same (around ++ (word.name, over) ∷ []) body)
        item-same around (Block' shape items) = items-same around items
        item-same around (Claim word vars body at) = (inl refl, tt)
        item-same around (Split word vars of pairs at) = tt
        item-same around (Using uses proves at) = tt
        item-same around (Act act) = (refl, tt)

        items-same : {m : _} (around : List (Name × TypeExpr)) (items : Row_of-Item m) → AllZip (IsStepMet around) (items_met types bs inside here items) (items_met types ds other here items)
        items-same around end_of-Item = tt
        items-same around (more_of-Item item rest) = zipped-append (IsStepMet around) (item_met types bs inside here item) (item_met types ds other here item) _ _ (item-same around item) (items-same around rest)

      claim-step : (around : List (Name × TypeExpr)) (n : Name) (body : Expr) (t : Bool) → bytes_eq n name ≡ t → (bytes_eq n name ≡ true → IsInductive var fresh set types around body) →
          IsStep around (record { instance = here; name = n; params = []; body = body }) (record { instance = here; name = n; params = []; body = if t then stronger var fresh set body else body })
      claim-step around n body false e p = inl refl
      claim-step around n body true e p = inr (subst (λ l. IsInductive var fresh set types l body) (nothing_behind around) (p e), refl)

      mutual
        unfolding changed_item

        item-step : (around : List (Name × TypeExpr)) (item : Item) → IsInductiveItem var fresh set name types around item → AllZip (IsStepMet around) (item_met types bs inside here item) (item_met types ds other here (stronger_item var fresh set name item))
        item-step around (Declare role words of at) p = tt
        item-step around (Instance words m args at) p = outer-met around _ _ (instances-step m.name args words)
        item-step around (Layer word body at) p = said-met around (λ act. record { layer = Some word.name; instance = here; act = act }) body
        item-step around (Forall' word over shape (more_of-Item body end_of-Item) at) p = binder-met around word over _ _ (item-step (around ++ (word.name, over) ∷ []) body p.0)
        item-step around (Block' shape items) p = items-step around items p
        item-step around (Claim word vars body at) p = (claim-step around word.name body (bytes_eq word.name name) refl p, tt)
        item-step around (Split word vars of pairs at) p = tt
        item-step around (Using uses proves at) p = tt
        item-step around (Act act) p = (refl, tt)

        items-step : {m : _} (around : List (Name × TypeExpr)) (items : Row_of-Item m) → AreInductiveItems var fresh set name types around items → AllZip (IsStepMet around) (items_met types bs inside here items) (items_met types ds other here (changed_items (strengthened var fresh set name) items))
        items-step around end_of-Item p = tt
        items-step around (more_of-Item item rest) p = zipped-append (IsStepMet around) (item_met types bs inside here item) (item_met types ds other here (stronger_item var fresh set name item)) _ _ (item-step around item p.0) (items-step around rest p.1)

      same-list : (items : List Item) → AllZip (IsStepMet []) (flat_map (item_met types bs inside here) items) (flat_map (item_met types ds other here) items)
      same-list [] = tt
      same-list (item ∷ items) = zipped-append (IsStepMet []) (item_met types bs inside here item) (item_met types ds other here item) _ _ (item-same [] item) (same-list items)

      step-list : (items : List Item) → IsInductiveBody var fresh set name types items → AllZip (IsStepMet []) (flat_map (item_met types bs inside here) items) (flat_map (item_met types ds other here) (map (stronger_item var fresh set name) items))
      step-list [] p = tt
      step-list (item ∷ items) p = zipped-append (IsStepMet []) (item_met types bs inside here item) (item_met types ds other here (stronger_item var fresh set name item)) _ _ (item-step [] item p.0) (step-list items p.1)

      body-step : (b c : Body) → IsStepBody b c → AllZip (IsStepMet []) (flat_map (item_met types bs inside here) b.items) (flat_map (item_met types ds other here) c.items)
      body-step b c (inl same) = subst (λ x. AllZip (IsStepMet []) (flat_map (item_met types bs inside here) b.items) (flat_map (item_met types ds other here) x.items)) same (same-list b.items)
      body-step b c (inr (i, same)) = subst (λ x. AllZip (IsStepMet []) (flat_map (item_met types bs inside here) b.items) (flat_map (item_met types ds other here) x.items)) (sym same) (step-list b.items i)

    met-step : (n : ℕ) (here : Path) (m : Name) → AllZip (IsStepMet []) (met_in types bs n here m) (met_in types ds n here m)
    met-step zero here m = tt
    met-step (suc n) here m = body-step (met_in types bs n) (met_in types ds n) (met-step n) here (body_of types bs m) (body_of types ds m) (step-body bs ds step m)

  like-step : (xs ys : List Met) → AllZip (IsStepMet []) xs ys → AllZip (IsLikeMet (IsStronger var fresh set types)) xs ys
  like-step [] [] p = tt
  like-step (x ∷ xs) (y ∷ ys) p = (one x y p.0, like-step xs ys p.1)
    where
      one : (x y : Met) → IsStepMet [] x y → IsLikeMet (IsStronger var fresh set types) x y
      one (said x) (said y) q = subst (λ z. IsLikeSaid x z) q (record { layer = refl; instance = refl; act = record { walks = λ scene s kind e every b. refl; assigns = λ instance around. refl } })
      one (claimed c) (claimed other) q = q
      one (said x) (claimed c) q = absurd q
      one (claimed c) (said x) q = absurd q
  like-step [] (y ∷ ys) p = absurd p
  like-step (x ∷ xs) [] p = absurd p

  same-types : (tops : List Top) (known : Types) → types_from known (map (changed_top is_main (strengthened var fresh set name)) tops) ≡ types_from known tops
  same-types [] known = refl
  same-types (SetType word true span at ∷ tops) known = same-types tops _
  same-types (SetType word false span at ∷ tops) known = same-types tops _
  same-types (Alias word of at ∷ tops) known = same-types tops _
  same-types (Module word formals body at ∷ tops) known = same-types tops known

  same-sizes : (sizes : Sizes) (tops : List Top) → All (IsSizedTop sizes) tops → All (IsSizedTop sizes) (map (changed_top is_main (strengthened var fresh set name)) tops)
  same-sizes sizes [] h = λ k d lt. absurd (omega (arith, lt))
  same-sizes sizes (top ∷ tops) h = λ k d lt. at_place k d lt (same-sizes sizes tops (λ i t low. h (suc i) t (omega (arith, low))))
    where
      one : (top : Top) → IsSizedTop sizes top → IsSizedTop sizes (changed_top is_main (strengthened var fresh set name) top)
      one (SetType word ordered (Some span) at) p = p
      one (SetType word ordered None at) p = p
      one (Alias word of at) p = p
      one (Module word formals body at) p = p

      at_place : (k : ℕ) (d : Top) → k < suc (length (map (changed_top is_main (strengthened var fresh set name)) tops)) → All (IsSizedTop sizes) (map (changed_top is_main (strengthened var fresh set name)) tops) → IsSizedTop sizes (get_or (changed_top is_main (strengthened var fresh set name) top ∷ map (changed_top is_main (strengthened var fresh set name)) tops) k d)
      at_place zero d lt rest = one top (h zero top (omega arith))
      at_place (suc k) d lt rest = rest k d (omega (arith, lt))

  step-modules : (tops : List Top) → AreInductiveTops var fresh set name types tops → AreStepBodies (modules tops) (modules (map (changed_top is_main (strengthened var fresh set name)) tops))
  step-modules [] p = tt
  step-modules (SetType word ordered span at ∷ tops) p = step-modules tops p
  step-modules (Alias word of at ∷ tops) p = step-modules tops p
  step-modules (Module word formals body at ∷ tops) p = (refl, by_name (bytes_eq word.name main) refl, step-modules tops p.1)
    where
      by_name : (t : Bool) → bytes_eq word.name main ≡ t → IsStepBody (record { formals = formals; items = body }) (record { formals = formals; items = if t then map (stronger_item var fresh set name) body else body })
      by_name true e = inr (p.0 e, refl)
      by_name false e = inl refl

module _ (var fresh set name : Name) (text : Text) (inductive : AreInductiveTops var fresh set name (types_from [] text.tops) text.tops) where
  abbrev types : Types
  types = types_from [] text.tops

  abbrev other : Text
  other = stronger_text var fresh set name text

  abbrev bodies : List (Name × Body)
  bodies = modules text.tops

  abbrev others : List (Name × Body)
  others = modules other.tops

  step : AreStepBodies var fresh set name types bodies others
  step = step-modules var fresh set name types text.tops inductive

  one_type : types ≡ types_from [] other.tops
  one_type = sym (same-types var fresh set name types text.tops [])

  same_count : length bodies ≡ length others
  same_count = step-length var fresh set name types bodies others step

  pub like-text : IsLike (IsStronger var fresh set types) (design_of text) (design_of other)
  like-text = record {
    types = one_type;
    families =
        families-in var fresh set name types bodies others step (length bodies) [] main
        ∙ ap (λ n. families_in types others n [] main) same_count
        ∙ ap (λ t. families_in t others (length others) [] main) one_type;
    met = like-step var fresh set name types _ _
        (subst (λ t. AllZip (IsStepMet var fresh set name types []) (met_in types bodies (length bodies) [] main) (met_in t others (length others) [] main)) one_type
        (subst (λ n. AllZip (IsStepMet var fresh set name types []) (met_in types bodies (length bodies) [] main) (met_in types others n [] main)) same_count
        (met-step var fresh set name types bodies others step (length bodies) [] main)));
  }

  pub sound : IsSound other → IsSound text
  sound h sizes are run is =
      let p = like_designs_hold (IsStronger var fresh set types) (design_of text) (design_of other) like-text sizes run is in
      p.1 (carried var fresh set (design_of text) sizes run) (h sizes (same-sizes var fresh set name types sizes text.tops are) run p.0)
