-- What a path of the tree reads and what its flattened form reads.
use Rattle.std.proofs.Common.{◌≡◌, ℕ, ◌+◌, List, [], ◌∷◌, ◌++◌, map, zip, find, length, get_or, take, slice_get, Option, Some, None, option_map, All, Bool, true, false, cond, refl, sym, ap, ◌∙◌, subst, arith, append-nil, append_assoc, length-append}
use Rattle.std.specs.Str.{bytes_eq}
use Rattle.std.specs.List.{list_any, position_or_len}
use Rattle.std.proofs.Math.Seq.{take-length}
use Rattle.std.proofs.lemmas.List.{get_or_past}
use Rattle.std.proofs.lemmas.List.Folds.{find_at}
use Rattle.std.proofs.lemmas.Option.{slice_get-map, get_or_from_slice_get}
use Rattle.std.proofs.lemmas.Slice.Eq.{bytes_eq-Decides}
use Rattle.std.proofs.lemmas.List.Elements.{All-head, All-tail}
use Rattle.smv_core.specs.Values.{Name, Path, Value, constant, Simple, choice, Sizes, Outcome, values_of, value_in, all_defined}
use Rattle.smv_core.specs.Types.{Types, Family, find_name, simple, values_or_none, values_over}
use Rattle.smv_core.specs.Outcome as tree
use Rattle.smv_core.specs.Outcome.{State, Bindings, Scene, family_at, same_path, element_at, constant_at}
use Rattle.smv_core.specs.Assignments.{Around, loop, any}
use Rattle.smv_core.specs.Conflicts.{Agrees}
use Rattle.smv_core.specs.FlatMeaning.{Numbered, FlatState, FlatBindings, bind, values_in, flat_element_at, flat_outcome}
use Rattle.smv_core.specs.declared.tree.TypeExpr.{TypeExpr}
use Rattle.smv_core.specs.declared.flat.SetInfo.{SetInfo}
use Rattle.smv_core.specs.declared.flat.FlatExpr.{FlatExpr, Var, Loop}
use Rattle.law_designs.specs.Numbers.{Scope, bound_in, variable, variable_at, flat_simple, flat_over, simple_or_empty, constant_in, family_number, or_signal, flat_path}
use Rattle.law_designs.specs.Flattening.{flat_family}
use Rattle.law_designs.specs.Agreement.{values_bound, IsConstant, IsKnown, AreSameStates}
use Rattle.law_designs.proofs.Numbered.{IsNumbered, HasNumbers, IsNumberedOrNone, RunsOver}
use Rattle.law_designs.proofs.FlatLists.{each_outcome, outcome-Read}
use Rattle.law_designs.proofs.Lookups.{slice_get-behind, find-passes, any-found, all-found}

-- ---- variables

values-length : (vars : Around) (b : Bindings) → Agrees vars b → length (values_bound vars b) ≡ bound_in vars
values-length [] [] h = refl
values-length [] (x ∷ b) h = absurd h
values-length ((name, loop k) ∷ vars) [] h = absurd h
values-length ((name, any) ∷ vars) [] h = absurd h
values-length ((name, loop k) ∷ vars) ((other, v) ∷ b) h = values-length vars b h.2
values-length ((name, any) ∷ vars) ((other, v) ∷ b) h = length-append (values_bound vars b) (v ∷ []) ∙ ap (λ k. k + 1) (values-length vars b h.1)

-- one more variable of a `forall`
pub bind-one_more : (vars : Around) (b : Bindings) (v : Value) → Agrees vars b → bind (values_bound vars b) (bound_in vars) v ≡ values_bound vars b ++ v ∷ []
bind-one_more vars b v h = ap (λ l. l ++ v ∷ []) (subst (λ k. take k (values_bound vars b) ≡ values_bound vars b) (values-length vars b h) (take-length (values_bound vars b)))

module _ (n : Numbered) (t : FlatState) where
  -- the flattened variable, where the name is one, has the value that the name has in the tree
  abbrev IsSameVariable : FlatBindings → Option FlatExpr → Outcome → Type 0
  IsSameVariable fb (Some x) o = flat_outcome n t x fb ≡ o
  IsSameVariable fb None o = o ≡ None

  -- a variable has a value
  abbrev HasValue : Option FlatExpr → Outcome → Type 0
  HasValue (Some x) o = (v : Value) × (o ≡ Some v)
  HasValue None o = Unit {0}

  variable-same : (vars : Around) (b : Bindings) (name : Name) (at : ℕ) (more : FlatBindings) → Agrees vars b → IsSameVariable (values_bound vars b ++ more) (variable vars name at) (find_name b name)
  variable-same [] [] name at more h = refl
  variable-same [] (x ∷ b) name at more h = absurd h
  variable-same ((other, loop k) ∷ vars) [] name at more h = absurd h
  variable-same ((other, any) ∷ vars) [] name at more h = absurd h
  variable-same ((other, loop k) ∷ vars) ((own, v) ∷ b) name at more h =
      subst (λ o. IsSameVariable (values_bound vars b ++ more) (cond (bytes_eq other name) (Some (Loop k at)) (variable vars name at)) (cond (bytes_eq o name) (Some v) (find_name b name))) (sym h.0) (by_test (bytes_eq other name) (variable-same vars b name at more h.2))
    where
      by_test : (test : Bool) → IsSameVariable (values_bound vars b ++ more) (variable vars name at) (find_name b name) → IsSameVariable (values_bound vars b ++ more) (cond test (Some (Loop k at)) (variable vars name at)) (cond test (Some v) (find_name b name))
      by_test true rest = ap Some (sym h.1)
      by_test false rest = rest
  variable-same ((other, any) ∷ vars) ((own, v) ∷ b) name at more h =
      subst (λ o. IsSameVariable ((values_bound vars b ++ v ∷ []) ++ more) (cond (bytes_eq other name) (Some (Var (bound_in vars) at)) (variable vars name at)) (cond (bytes_eq o name) (Some v) (find_name b name))) (sym h.0)
      (by_test (bytes_eq other name) (variable-same vars b name at (v ∷ more) h.1))
    where
      seam : (values_bound vars b ++ v ∷ []) ++ more ≡ values_bound vars b ++ v ∷ more
      seam = append_assoc (values_bound vars b) (v ∷ []) more

      at_seam : slice_get ((values_bound vars b ++ v ∷ []) ++ more) (bound_in vars) ≡ Some v
      at_seam = rw seam (subst (λ k. slice_get (values_bound vars b ++ v ∷ more) k ≡ Some v) (values-length vars b h.1) (slice_get-behind (values_bound vars b) v more))

      by_test : (test : Bool) → IsSameVariable (values_bound vars b ++ v ∷ more) (variable vars name at) (find_name b name) → IsSameVariable ((values_bound vars b ++ v ∷ []) ++ more) (cond test (Some (Var (bound_in vars) at)) (variable vars name at)) (cond test (Some v) (find_name b name))
      by_test true rest = at_seam
      by_test false rest = subst (λ fb. IsSameVariable fb (variable vars name at) (find_name b name)) (sym seam) rest

  variable-valued : (vars : Around) (b : Bindings) (name : Name) (at : ℕ) → Agrees vars b → HasValue (variable vars name at) (find_name b name)
  variable-valued [] b name at h = tt
  variable-valued ((other, loop k) ∷ vars) [] name at h = absurd h
  variable-valued ((other, any) ∷ vars) [] name at h = absurd h
  variable-valued ((other, loop k) ∷ vars) ((own, v) ∷ b) name at h =
      subst (λ o. HasValue (cond (bytes_eq other name) (Some (Loop k at)) (variable vars name at)) (cond (bytes_eq o name) (Some v) (find_name b name))) (sym h.0) (by_test (bytes_eq other name) (variable-valued vars b name at h.2))
    where
      by_test : (test : Bool) → HasValue (variable vars name at) (find_name b name) → HasValue (cond test (Some (Loop k at)) (variable vars name at)) (cond test (Some v) (find_name b name))
      by_test true rest = (v, refl)
      by_test false rest = rest
  variable-valued ((other, any) ∷ vars) ((own, v) ∷ b) name at h =
      subst (λ o. HasValue (cond (bytes_eq other name) (Some (Var (bound_in vars) at)) (variable vars name at)) (cond (bytes_eq o name) (Some v) (find_name b name))) (sym h.0) (by_test (bytes_eq other name) (variable-valued vars b name at h.1))
    where
      by_test : (test : Bool) → HasValue (variable vars name at) (find_name b name) → HasValue (cond test (Some (Var (bound_in vars) at)) (variable vars name at)) (cond test (Some v) (find_name b name))
      by_test true rest = (v, refl)
      by_test false rest = rest

  pub variable_at-same : (vars : Around) (b : Bindings) (path : Path) (at : ℕ) → Agrees vars b → IsSameVariable (values_bound vars b) (variable_at vars path at) (tree.variable_at b path)
  variable_at-same vars b [] at h = refl
  variable_at-same vars b (name ∷ []) at h = subst (λ fb. IsSameVariable fb (variable vars name at) (find_name b name)) (append-nil (values_bound vars b)) (variable-same vars b name at [] h)
  variable_at-same vars b (name ∷ other ∷ more) at h = refl

  pub variable_at-valued : (vars : Around) (b : Bindings) (path : Path) (at : ℕ) → Agrees vars b → HasValue (variable_at vars path at) (tree.variable_at b path)
  variable_at-valued vars b [] at h = tt
  variable_at-valued vars b (name ∷ []) at h = variable-valued vars b name at h
  variable_at-valued vars b (name ∷ other ∷ more) at h = tt

-- ---- elements, constants and types

module _ (types : Types) (sets : List SetInfo) (enums : List (List Name)) (placed : List (Family × ℕ)) (instance : Path) (sizes : Sizes) where
  abbrev pub families : List Family
  families = map (λ (f, at). f) placed

  abbrev pub scope : Scope
  scope = record { types = types; sets = sets; enums = enums; families = families; instance = instance }

  abbrev pub numbered : Numbered
  numbered = record { sets = sets; enums = enums; families = map (flat_family scope) placed; sizes = sizes }

  abbrev pub scene : Scene
  scene = record { types = types; families = families; sizes = sizes; instance = instance }

  -- a binder runs over the same values
  pub over-same : (over : TypeExpr) → RunsOver scope numbered over → values_in numbered (flat_over scope over) ≡ values_over types sizes over
  over-same over h = by_type (simple types over) h
    where
      by_type : (o : Option Simple) → IsNumberedOrNone scope numbered o → values_in numbered (simple_or_empty scope o) ≡ values_or_none sizes o
      by_type (Some u) h = ap (values_of sizes) h
      by_type None h = ap (λ names. values_of sizes (choice names)) (get_or_past enums (length enums) [] (omega arith))

  pub constant-same : (t : FlatState) (path : Path) (at : ℕ) (b : FlatBindings) → IsConstant scope path → flat_outcome numbered t (constant_in scope path at) b ≡ constant_at path
  constant-same t [] at b h = ap (λ names. option_map constant (slice_get names 0)) (get_or_past enums (length enums) [] (omega arith))
  constant-same t (name ∷ other ∷ more) at b h = ap (λ names. option_map constant (slice_get names 0)) (get_or_past enums (length enums) [] (omega arith))
  constant-same t (name ∷ []) at b h =
      let has : List Name → Bool = list_any (bytes_eq name) in
      let list : (l : List Name) × (find has enums ≡ Some l) = any-found has enums h in
      let listed : get_or enums (position_or_len has enums) [] ≡ list.0 = get_or_from_slice_get enums (position_or_len has enums) list.0 [] (sym (find_at has enums) ∙ list.1) in
      let own : (x : Name) × (find (bytes_eq name) list.0 ≡ Some x) = any-found (bytes_eq name) list.0 (find-passes has enums list.0 list.1) in
      let here : slice_get list.0 (position_or_len (bytes_eq name) list.0) ≡ Some own.0 = sym (find_at (bytes_eq name) list.0) ∙ own.1 in
      let equal : name ≡ own.0 = (bytes_eq-Decides name own.0).0 (find-passes (bytes_eq name) list.0 own.0 own.1) in
      ap (λ l. option_map constant (slice_get l (position_or_len (bytes_eq name) l))) listed ∙ ap (option_map constant) here ∙ ap (λ x. Some (constant x)) (sym equal)

  module _ (s : State) (t : FlatState) (states : AreSameStates families s t) where
    indexes-same : (over : List Simple) (us : List Outcome) → All (IsNumbered scope numbered) over →
        map (λ (u, o). value_in (values_in numbered u) o) (zip (map (flat_simple scope) over) us) ≡ map (λ (u, o). value_in (values_of sizes u) o) (zip over us)
    indexes-same [] us h = refl
    indexes-same (u ∷ over) [] h = refl
    indexes-same (u ∷ over) (o ∷ us) h =
        let head : values_in numbered (flat_simple scope u) ≡ values_of sizes u = ap (values_of sizes) (All-head (IsNumbered scope numbered) u over h) in
        rw (head, indexes-same over us (All-tail (IsNumbered scope numbered) u over h)) refl

    pub element-same : (path : Path) (f : Family) (us : List Outcome) → family_at families path ≡ Some f → HasNumbers scope numbered f →
        flat_element_at numbered t (family_number scope path) (slice_get numbered.families (family_number scope path)) us ≡ element_at sizes s f us
    element-same path f us found h =
        let k : ℕ = family_number scope path in
        let here : slice_get families k ≡ Some f = sym (find_at (λ g. same_path g.path path) families) ∙ found in
        rw (slice_get-map (flat_family scope) placed k) (by_place k (slice_get placed k) (sym (slice_get-map (λ (g, at). g) placed k) ∙ here) here)
      where
        valued : (k : ℕ) → slice_get families k ≡ Some f → (o : Option (List Value)) → option_map (t k) o ≡ option_map (s f.path) o
        valued k e None = refl
        valued k e (Some vs) = ap Some (states k f e vs)

        by_place : (k : ℕ) (o : Option (Family × ℕ)) → option_map (λ (g, at). g) o ≡ Some f → slice_get families k ≡ Some f → flat_element_at numbered t k (option_map (flat_family scope) o) us ≡ element_at sizes s f us
        by_place k None e here = absurd (cc)
        by_place k (Some (g, at)) e here =
            let same : g ≡ f = cc in
            ap (λ x. option_map (t k) (all_defined (map (λ (u, o). value_in (values_in numbered u) o) (zip (map (flat_simple scope) x.over) us)))) same
            ∙ ap (λ l. option_map (t k) (all_defined l)) (indexes-same f.over us h.1)
            ∙ valued k here (all_defined (map (λ (u, o). value_in (values_of sizes u) o) (zip f.over us)))

    -- what a path reads
    pub read-same : (vars : Around) (b : Bindings) (path : Path) (es : List FlatExpr) (us : List Outcome) (at : ℕ) → Agrees vars b → All (HasNumbers scope numbered) families →
        IsKnown scope (variable_at vars path at) (family_at families (instance ++ path)) path → each_outcome numbered t (values_bound vars b) es ≡ us →
        flat_outcome numbered t (flat_path scope vars path es at) (values_bound vars b) ≡ tree.read scene s b path us
    read-same vars b path es us at agree numbers known indexes =
        by_kind (variable_at vars path at) (family_at families (instance ++ path)) (tree.variable_at b path) refl (variable_at-same numbered t vars b path at agree) (variable_at-valued numbered t vars b path at agree) known
      where
        by_kind : (x : Option FlatExpr) (o : Option Family) (u : Outcome) → family_at families (instance ++ path) ≡ o → IsSameVariable numbered t (values_bound vars b) x u → HasValue numbered t x u → IsKnown scope x o path →
            flat_outcome numbered t (or_signal scope x o path es at) (values_bound vars b) ≡ tree.or_signal sizes s u o path us
        by_kind (Some x) o None e same valued known = absurd (cc (valued.1))
        by_kind (Some x) o (Some v) e same valued known = same
        by_kind None o (Some v) e same valued known = absurd (cc (same))
        by_kind None None None e same valued known = constant-same t path at (values_bound vars b) known
        by_kind None (Some f) None e same valued known =
            outcome-Read numbered t (family_number scope (instance ++ path)) es at (values_bound vars b)
            ∙ ap (flat_element_at numbered t (family_number scope (instance ++ path)) (slice_get numbered.families (family_number scope (instance ++ path)))) indexes
            ∙ element-same (instance ++ path) f us e (all_numbers f e)
          where
            all_numbers : (f : Family) → family_at families (instance ++ path) ≡ Some f → HasNumbers scope numbered f
            all_numbers f e = all-found (HasNumbers scope numbered) (λ g. same_path g.path (instance ++ path)) families f numbers e
