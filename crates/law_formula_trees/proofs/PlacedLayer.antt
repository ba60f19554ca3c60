-- What a layer of placed definitions gives a monitor.
use Rattle.law_formula_trees.proofs.Lists.{contains-flat, contains-map, each-mapped, each-member}
use Rattle.std.proofs.Math.Bool.{not-not}
use Rattle.law_lists.proofs.Each.{each_flat_map}
use Rattle.law_lists.proofs.Booleans.{impossible}
use Rattle.std.proofs.lemmas.Bool.{cases_Bool}
use Rattle.std.proofs.Common.{◌≡◌, ◌⊎◌, inl, inr, zero, suc, List, [], ◌∷◌, ◌++◌, map, filter, Some, None, unwrap_or, Bool, true, false, not, ◌||◌, cond, Contains, refl, sym, ap, ◌∙◌, subst, arith, true≢false}
use Rattle.std.specs.List.{AllByRecursion, list_any, flat_map}
use Rattle.std.proofs.lemmas.List.Elements.{filter_agree}
use Rattle.smv_core.specs.Values.{Name, Path, Value, number, Sizes, range, values_of}
use Rattle.smv_core.specs.Types.{Family}
use Rattle.smv_core.specs.FlatOrder.{TextDesign, Said}
use Rattle.smv_core.specs.Outcome.{State, family_at, same_path, allowed_by}
use Rattle.smv_core.specs.Walk.{Element, Walk, walk, first, first_of, same_kind}
use Rattle.smv_core.specs.Assignments.{Around as Bindable, any, assignments, concerns}
use Rattle.smv_core.specs.Allowed.{is_layer, assignments_in, definition_set, every_value, values_at, scene_at, is_concerned, walk_set, kept, stepped, allowed}
use Rattle.smv_core.specs.Sound.{bound}
use Rattle.smv_core.specs.declared.tree.Kind.{Kind}
use Rattle.smv_core.specs.declared.tree.Kind.TheVariants.{Comb, Init, Next}
use Rattle.smv_core.specs.declared.tree.Expr.{Expr, Number}
use Rattle.smv_core.specs.declared.tree.Stmt.{Assign}
use Rattle.law_formulas.specs.Monitors.{Around, names_around, within, path_of, defining, defined}
use Rattle.law_formulas.specs.Laws.{bits_by}
use Rattle.law_formula_trees.specs.Behind.{AreApart, params_of, values_around, AreChosen}
use Rattle.law_watched_runs.specs.Extended.{statements, is_other_layer}
use Rattle.law_formula_trees.specs.Placed.{Placed, stated, entries_of, IsAlone}
use Rattle.law_formula_trees.specs.Trees.{LayersDefine}
use Rattle.law_places.proofs.Computing.{computing}
use Rattle.law_watched_runs.proofs.Extended.{path-equal}
use Rattle.law_formula_trees.proofs.Within as within_binders
use Rattle.law_formula_trees.proofs.Within.{path-itself, kinds-apart}

-- the first result, where one is there and each other one is the same or Nothing
first-alone : {X : Type 0} (W : X → Walk) (R : List Value) (xs : List X) (x : X) → Contains xs x → W x ≡ Some R → AllByRecursion (λ y. (W y ≡ None) ⊎ (W y ≡ Some R)) xs → first (map W xs) ≡ Some R
first-alone W R [] x (k, l, e) hit all = absurd (omega (arith, l))
first-alone W R (y ∷ xs) x has hit all = by_case all.0 has (λ h. first-alone W R xs x h hit all.1)
  where
    none-some : None ≡ Some R → ⊥
    none-some h = cc

    by_case : (W y ≡ None) ⊎ (W y ≡ Some R) → Contains (y ∷ xs) x → (Contains xs x → first (map W xs) ≡ Some R) → first_of (W y) (first (map W xs)) ≡ Some R
    by_case (inr h) c rest = ap (λ w. first_of w (first (map W xs))) h
    by_case (inl h) (zero, l, e) rest = absurd (none-some (sym h ∙ ap W e ∙ hit))
    by_case (inl h) (suc k, l, e) rest = ap (λ w. first_of w (first (map W xs))) h ∙ rest (k, omega (arith, l), e)

-- ---- the layer

module _ (layer : Name) (sizes : Sizes) (e : TextDesign) (placed : List Placed) (said : filter (λ x. not (is_other_layer layer x)) (statements e) ≡ flat_map (stated layer) placed) where
  pub set-is : definition_set e (Some layer) ≡ flat_map (stated layer) placed
  set-is = filter_agree (λ x. is_layer x.layer (Some layer)) (λ x. not (is_other_layer layer x)) (λ x. sym (not-not (is_layer x.layer (Some layer)))) (statements e) ∙ said

  -- a definition of a placed formula, of either kind
  abbrev pub told : Kind → Expr → Placed → Name × Expr → Said
  told kind value p entry = record { layer = Some layer; instance = p.0; act = within p.1.0 (Assign kind (path_of (names_around p.1.0) entry.0) value 0) }

  -- of each statement of the layer
  pub each-said : (Q : Said → Type 0) → ((p : Placed) → Contains placed p → (entry : Name × Expr) → Contains (entries_of p) entry → Q (told Init (Number 0 0) p entry) × Q (told Next entry.1 p entry)) → AllByRecursion Q (flat_map (stated layer) placed)
  each-said Q h = each_flat_map (Contains placed) Q (stated layer)
      (λ p has. each-mapped Q (λ act. record { layer = Some layer; instance = p.0; act = act }) (defined p.1)
      (each_flat_map (Contains (entries_of p)) (λ act. Q (record { layer = Some layer; instance = p.0; act = act })) (defining p.1.0) (λ entry c. let r = h p has entry c in (r.0, (r.1, tt))) (entries_of p) (each-member (entries_of p))))
      placed (each-member placed)

  pub told-there : (p : Placed) → Contains placed p → (entry : Name × Expr) → Contains (entries_of p) entry → Contains (flat_map (stated layer) placed) (told Init (Number 0 0) p entry) × Contains (flat_map (stated layer) placed) (told Next entry.1 p entry)
  told-there p has entry c = (
    contains-flat (stated layer) placed p (told Init (Number 0 0) p entry) has (contains-map (λ act. record { layer = Some layer; instance = p.0; act = act }) (defined p.1) _ (contains-flat (defining p.1.0) (entries_of p) entry _ c (0, omega arith, refl))),
    contains-flat (stated layer) placed p (told Next entry.1 p entry) has (contains-map (λ act. record { layer = Some layer; instance = p.0; act = act }) (defined p.1) _ (contains-flat (defining p.1.0) (entries_of p) entry _ c (1, omega arith, refl))),
  )

  any-false : {X : Type 0} (test : X → Bool) (xs : List X) → AllByRecursion (λ x. test x ≡ false) xs → list_any test xs ≡ false
  any-false test [] h = refl
  any-false test (x ∷ xs) h = ap (λ b. b || list_any test xs) h.0 ∙ any-false test xs h.1

  -- definitions of other kinds do not concern an element under `:=`
  not-concerned : (instance : Path) (x : Element) (which : Kind) → same_kind which Comb ≡ false → (around : Around) (m : Name) (names : List Name) (value : Expr) (bs : Bindable) →
      list_any (concerns Comb x) (assignments instance (within around (Assign which (path_of names m) value 0)) bs) ≡ false
  unfolding computing
  not-concerned instance x Init h [] m names value bs = refl
  not-concerned instance x Next h [] m names value bs = refl
  not-concerned instance x Comb h [] m names value bs = absurd (true≢false h)
  not-concerned instance x which h (binder ∷ around) m names value bs = not-concerned instance x which h around m names value ((binder.0.name, any) ∷ bs)

  comb-none : (x : Element) → is_concerned e (Some layer) x Comb ≡ false
  comb-none x =
      ap (list_any (λ act. list_any (concerns Comb x) (assignments_in act))) set-is
      ∙ any-false (λ act. list_any (concerns Comb x) (assignments_in act)) (flat_map (stated layer) placed)
      (each-said (λ act. list_any (concerns Comb x) (assignments_in act) ≡ false) (λ p has entry c. (not-concerned p.0 x Init refl p.1.0 entry.0 (names_around p.1.0) (Number 0 0) [], not-concerned p.0 x Next refl p.1.0 entry.0 (names_around p.1.0) entry.1 [])))

  module _ (p : Placed) (has : Contains placed p) (entry : Name × Expr) (c : Contains (entries_of p) entry) (alone : IsAlone placed p entry) (apart : AreApart (names_around p.1.0))
      (g : Family) (found : family_at e.families (p.0 ++ entry.0 ∷ []) ≡ Some g) (bit : g.value ≡ range 0 1) (vs : List Value) (chosen : AreChosen (values_around (scene_at e sizes p.0) p.1.0) vs) where
    abbrev x : Element
    x = record { path = p.0 ++ entry.0 ∷ []; indexes = vs }

    abbrev every : List Value
    every = every_value e sizes x

    every-is : every ≡ number 0 ∷ number 1 ∷ []
    every-is = ap (values_at sizes) found ∙ ap (values_of sizes) bit

    abbrev W : Kind → State → Said → Walk
    W kind s act = walk (scene_at e sizes act.instance) s kind x every act.act []

    abbrev result : State → Expr → List Value
    result s value = allowed_by (scene_at e sizes p.0) s every value (bound (params_of p.1.0) vs [])

    hit : (kind : Kind) (s : State) (value : Expr) → W kind s (told kind value p entry) ≡ Some (result s value)
    hit kind s value = within_binders.defined (scene_at e sizes p.0) s kind every p.1.0 entry.0 value vs apart chosen

    -- a statement of another path gives nothing
    other-none : (kind which : Kind) (s : State) (value : Expr) (q : Placed) (second : Name × Expr) → same_path (q.0 ++ second.0 ∷ []) (p.0 ++ entry.0 ∷ []) ≡ false → W kind s (told which value q second) ≡ None
    other-none kind which s value q second differ = within_binders.others (scene_at e sizes q.0) s kind which every q.1.0 second.0 value x
        (λ h. impossible (same_path (q.0 ++ second.0 ∷ []) (p.0 ++ entry.0 ∷ [])) (subst (λ r. same_path (q.0 ++ second.0 ∷ []) r ≡ true) (sym h) (path-itself (q.0 ++ second.0 ∷ []))) differ)

    init-each : (s : State) → AllByRecursion (λ act. (W Init s act ≡ None) ⊎ (W Init s act ≡ Some (result s (Number 0 0)))) (flat_map (stated layer) placed)
    init-each s = each-said (λ act. (W Init s act ≡ None) ⊎ (W Init s act ≡ Some (result s (Number 0 0)))) (λ q q_has second second_c. by_path q second (cases_Bool (same_path (q.0 ++ second.0 ∷ []) (p.0 ++ entry.0 ∷ []))) (alone q q_has second second_c))
      where
        by_path : (q : Placed) (second : Name × Expr) → (same_path (q.0 ++ second.0 ∷ []) (p.0 ++ entry.0 ∷ []) ≡ true) ⊎ (same_path (q.0 ++ second.0 ∷ []) (p.0 ++ entry.0 ∷ []) ≡ false) → (q.0 ++ second.0 ∷ [] ≡ p.0 ++ entry.0 ∷ [] → (q ≡ p) × (second ≡ entry)) →
            ((W Init s (told Init (Number 0 0) q second) ≡ None) ⊎ (W Init s (told Init (Number 0 0) q second) ≡ Some (result s (Number 0 0)))) × ((W Init s (told Next second.1 q second) ≡ None) ⊎ (W Init s (told Next second.1 q second) ≡ Some (result s (Number 0 0))))
        by_path q second (inr differ) same = (inl (other-none Init Init s (Number 0 0) q second differ), inl (other-none Init Next s second.1 q second differ))
        by_path q second (inl one) same =
            let r = same (path-equal (q.0 ++ second.0 ∷ []) (p.0 ++ entry.0 ∷ []) one) in
            (inr (ap (λ o. W Init s (told Init (Number 0 0) o second)) r.0 ∙ ap (λ n. W Init s (told Init (Number 0 0) p n)) r.1 ∙ hit Init s (Number 0 0)), inl (kinds-apart (scene_at e sizes q.0) s Init Next every q.1.0 second.0 second.1 x refl))

    next-each : (s : State) → AllByRecursion (λ act. (W Next s act ≡ None) ⊎ (W Next s act ≡ Some (result s entry.1))) (flat_map (stated layer) placed)
    next-each s = each-said (λ act. (W Next s act ≡ None) ⊎ (W Next s act ≡ Some (result s entry.1))) (λ q q_has second second_c. by_path q second (cases_Bool (same_path (q.0 ++ second.0 ∷ []) (p.0 ++ entry.0 ∷ []))) (alone q q_has second second_c))
      where
        by_path : (q : Placed) (second : Name × Expr) → (same_path (q.0 ++ second.0 ∷ []) (p.0 ++ entry.0 ∷ []) ≡ true) ⊎ (same_path (q.0 ++ second.0 ∷ []) (p.0 ++ entry.0 ∷ []) ≡ false) → (q.0 ++ second.0 ∷ [] ≡ p.0 ++ entry.0 ∷ [] → (q ≡ p) × (second ≡ entry)) →
            ((W Next s (told Init (Number 0 0) q second) ≡ None) ⊎ (W Next s (told Init (Number 0 0) q second) ≡ Some (result s entry.1))) × ((W Next s (told Next second.1 q second) ≡ None) ⊎ (W Next s (told Next second.1 q second) ≡ Some (result s entry.1)))
        by_path q second (inr differ) same = (inl (other-none Next Init s (Number 0 0) q second differ), inl (other-none Next Next s second.1 q second differ))
        by_path q second (inl one) same =
            let r = same (path-equal (q.0 ++ second.0 ∷ []) (p.0 ++ entry.0 ∷ []) one) in
            (inl (kinds-apart (scene_at e sizes q.0) s Next Init every q.1.0 second.0 (Number 0 0) x refl), inr (ap (λ o. W Next s (told Next second.1 o second)) r.0 ∙ ap (λ n. W Next s (told Next n.1 p n)) r.1 ∙ hit Next s entry.1))

    init-set : (s : State) → walk_set e sizes (Some layer) x Init s ≡ Some (result s (Number 0 0))
    init-set s = ap (λ l. first (map (W Init s) l)) set-is ∙ first-alone (W Init s) (result s (Number 0 0)) (flat_map (stated layer) placed) (told Init (Number 0 0) p entry) (told-there p has entry c).0 (hit Init s (Number 0 0)) (init-each s)

    next-set : (s : State) → walk_set e sizes (Some layer) x Next s ≡ Some (result s entry.1)
    next-set s = ap (λ l. first (map (W Next s) l)) set-is ∙ first-alone (W Next s) (result s entry.1) (flat_map (stated layer) placed) (told Next entry.1 p entry) (told-there p has entry c).1 (hit Next s entry.1) (next-each s)

    first-is : (now : State) → allowed e sizes (Some layer) x None now ≡ number 0 ∷ []
    first-is now =
        ap (λ t. cond t (unwrap_or (walk_set e sizes (Some layer) x Comb now) every) (stepped e sizes (Some layer) x None now)) (comb-none x)
        ∙ ap (λ w. unwrap_or w every) (init-set now)
        ∙ ap (λ l. allowed_by (scene_at e sizes p.0) now l (Number 0 0) (bound (params_of p.1.0) vs [])) every-is

    later-is : (before now : State) → allowed e sizes (Some layer) x (Some before) now ≡ bits_by (scene_at e sizes p.0) (bound (params_of p.1.0) vs []) before (names_around p.1.0) entry.1
    later-is before now =
        ap (λ t. cond t (unwrap_or (walk_set e sizes (Some layer) x Comb now) every) (stepped e sizes (Some layer) x (Some before) now)) (comb-none x)
        ∙ ap (λ w. unwrap_or w (kept e sizes (Some layer) x before)) (next-set before)
        ∙ ap (λ l. allowed_by (scene_at e sizes p.0) before l entry.1 (bound (params_of p.1.0) vs [])) every-is

pub layers-define : LayersDefine
layers-define layer sizes e placed said p has entry c alone apart g found bit vs chosen =
    (first-is layer sizes e placed said p has entry c alone apart g found bit vs chosen, later-is layer sizes e placed said p has entry c alone apart g found bit vs chosen)
