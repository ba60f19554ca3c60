-- What is known of the names in a module, and the kinds of variables.
use Rattle.std.proofs.Common.{◌≡◌, ℕ, ◌+◌, List, [], ◌∷◌, ◌++◌, length, slice_get, Some, None, Bool, true, false, cond, nat_eq, ◌&&◌, refl, sym, ap, ◌∙◌, subst, append_assoc, length-append}
use Rattle.std.specs.Str.{bytes_eq}
use Rattle.std.specs.List.{AllByRecursion}
use Rattle.std.proofs.lemmas.Bool.{and_from, eq-eqb}
use Rattle.std.proofs.lemmas.Slice.Eq.{bytes_eq-Decides}
use Rattle.law_lists.proofs.Lists.{nothing_behind}
use Rattle.smv_core.specs.Values.{Name, Path}
use Rattle.smv_core.specs.Types.{Family, find_name}
use Rattle.smv_core.specs.Outcome.{fields_of, family_at}
use Rattle.smv_core.specs.Walk.{indexes_of}
use Rattle.smv_core.specs.Assignments.{Around, loop, any}
use Rattle.smv_core.specs.declared.tree.TypeExpr.{TypeExpr}
use Rattle.smv_core.specs.declared.tree.Part.{Part}
use Rattle.smv_core.specs.declared.flat.FlatText.{FlatText}
use Rattle.smv_core.specs.declared.flat.Family.{Family as FlatFamily}
use Rattle.smv_core.specs.declared.flat.FlatExpr.{FlatExpr, Var, Loop}
use Rattle.smv_mentions.specs.Mentions.{Mention}
use Rattle.smv_mentions.specs.Scopes.{Constant}
use Rattle.law_designs.specs.Kinds.{Kind, number, enumeration}
use Rattle.law_designs.specs.Types.{Whole, index_kind, index_faults}
use Rattle.law_designs.specs.References as kinds
use Rattle.law_designs.specs.References.{Vars, signal_at}
use Rattle.law_designs.specs.FlatKinds as typed
use Rattle.law_designs.specs.FlatKinds.{kind_of, kind_in, value_in, is_index_type, is_binder, inside}
use Rattle.law_designs.specs.Numbers.{Scope, bound_in, variable, variable_at, flat_over, family_number, constant_in}
use Rattle.law_designs.specs.Agreement.{IsIndexType}
use Rattle.law_designs.proofs.Lookups.{slice_get-behind}
use Rattle.law_designs.proofs.Modules.{IsApart}
use Rattle.law_flat_kinds.proofs.Relation.{IsKind, flat_kind, HasKind, AreOfKinds}

module _ (flat_text : FlatText) (scope : kinds.Scope) (flat : Scope) where
  abbrev pub AreApart : List Mention → Type 0
  AreApart ms = AllByRecursion (IsApart scope.here.own scope.constants) ms

  -- the name of a variable is nothing else
  abbrev pub IsFree : Name → Type 0
  IsFree name = (find_name scope.here.own name ≡ None) × (find_name scope.constants name ≡ None)

  -- ---- what is known of a module

  -- a whole signal is a family, found by its path in the text and in the flattened text, whose types have the kinds of the signal
  abbrev pub SignalsAreKinded : Type 0
  SignalsAreKinded = (parts : List Part) (w : Whole) → signal_at scope parts ≡ Some w →
      (f : Family) × (g : FlatFamily) × (family_at flat.families (flat.instance ++ fields_of parts) ≡ Some f) × (slice_get flat_text.families (family_number flat (flat.instance ++ fields_of parts)) ≡ Some g)
      × AreOfKinds flat g.over w.over × (kind_of g.value ≡ flat_kind flat w.value) × IsKind w.value × (length w.over ≡ length (indexes_of parts))

  -- a constant is no family, and has the kind of its enumeration
  abbrev pub ConstantsAreKinded : Type 0
  ConstantsAreKinded = (name : Name) (c : Constant) → find_name scope.constants name ≡ Some c →
      (family_at flat.families (flat.instance ++ name ∷ []) ≡ None) × ((vars : typed.FlatVars) (at : ℕ) → kind_in flat_text vars (constant_in flat (name ∷ []) at) ≡ Some (flat_kind flat (enumeration c.names)))

  -- an index type without faults is one of the flattened text, of the same kind
  abbrev pub IndexesAreKinded : Type 0
  IndexesAreKinded = (over : TypeExpr) → IsIndexType over → index_faults scope.here.types over ≡ [] →
      (is_index_type flat_text (flat_over flat over) ≡ true) × (kind_of (flat_over flat over) ≡ flat_kind flat (index_kind scope.here.types over)) × IsKind (index_kind scope.here.types over)

  -- ---- variables

  -- the same variables are bound around: each has a kind, that of a `for` is a number, and none is anything else
  abbrev pub AreVars : Vars → Around → Type 0
  AreVars [] [] = Unit {0}
  AreVars ((name, kind) ∷ vars) ((other, any) ∷ around) = (name ≡ other) × IsKind kind × IsFree name × AreVars vars around
  AreVars ((name, kind) ∷ vars) ((other, loop n) ∷ around) = (name ≡ other) × (kind ≡ number) × IsFree name × AreVars vars around
  AreVars _ _ = ⊥

  -- the kinds of the variables that have a number, in the order of their numbers
  abbrev pub kinds_bound : Vars → Around → typed.FlatVars
  kinds_bound ((name, kind) ∷ vars) ((other, any) ∷ around) = kinds_bound vars around ++ flat_kind flat kind ∷ []
  kinds_bound ((name, kind) ∷ vars) ((other, loop n) ∷ around) = kinds_bound vars around
  kinds_bound _ _ = []

  bound-length : (vars : Vars) (around : Around) → AreVars vars around → length (kinds_bound vars around) ≡ bound_in around
  bound-length [] [] same = refl
  bound-length [] ((other, any) ∷ around) same = absurd same
  bound-length [] ((other, loop n) ∷ around) same = absurd same
  bound-length (v ∷ vars) [] same = absurd same
  bound-length ((name, kind) ∷ vars) ((other, any) ∷ around) same = length-append (kinds_bound vars around) (flat_kind flat kind ∷ []) ∙ ap (λ k. k + 1) (bound-length vars around same.3)
  bound-length ((name, kind) ∷ vars) ((other, loop n) ∷ around) same = bound-length vars around same.3

  -- a variable has its kind
  abbrev IsVariable : typed.FlatVars → Around → Name → ℕ → Kind → Type 0
  IsVariable fv around name at kind = (x : FlatExpr) × (variable around name at ≡ Some x) × HasKind flat (kind_in flat_text fv x) kind × (value_in flat_text fv x ≡ kind_in flat_text fv x)

  bound-kinded : (vars : Vars) (around : Around) → AreVars vars around → (name : Name) (at : ℕ) (kind : Kind) → find_name vars name ≡ Some kind → (more : typed.FlatVars) → IsVariable (kinds_bound vars around ++ more) around name at kind
  bound-kinded [] [] same name at kind e more = absurd (cc (e))
  bound-kinded [] ((other, any) ∷ around) same name at kind e more = absurd same
  bound-kinded [] ((other, loop n) ∷ around) same name at kind e more = absurd same
  bound-kinded (v ∷ vars) [] same name at kind e more = absurd same
  bound-kinded ((other, own) ∷ vars) ((third, loop n) ∷ around) same name at kind e more =
      subst (λ o. (x : FlatExpr) × (cond (bytes_eq o name) (Some (Loop n at)) (variable around name at) ≡ Some x) × HasKind flat (kind_in flat_text (kinds_bound vars around ++ more) x) kind × (value_in flat_text (kinds_bound vars around ++ more) x ≡ kind_in flat_text (kinds_bound vars around ++ more) x))
      same.0 (by_test (bytes_eq other name) e (λ e. bound-kinded vars around same.3 name at kind e more))
    where
      by_test : (b : Bool) → cond b (Some own) (find_name vars name) ≡ Some kind → (find_name vars name ≡ Some kind → IsVariable (kinds_bound vars around ++ more) around name at kind) →
          (x : FlatExpr) × (cond b (Some (Loop n at)) (variable around name at) ≡ Some x) × HasKind flat (kind_in flat_text (kinds_bound vars around ++ more) x) kind × (value_in flat_text (kinds_bound vars around ++ more) x ≡ kind_in flat_text (kinds_bound vars around ++ more) x)
      by_test true e rest = let k : number ≡ kind = sym same.1 ∙ cc in (Loop n at, refl, subst (λ k. HasKind flat (Some typed.number) k) k (refl, tt), refl)
      by_test false e rest = rest e
  bound-kinded ((other, own) ∷ vars) ((third, any) ∷ around) same name at kind e more =
      subst (λ o. (x : FlatExpr) × (cond (bytes_eq o name) (Some (Var (bound_in around) at)) (variable around name at) ≡ Some x) × HasKind flat (kind_in flat_text whole x) kind × (value_in flat_text whole x ≡ kind_in flat_text whole x))
      same.0 (by_test (bytes_eq other name) e (λ e. subst (λ fv. IsVariable fv around name at kind) (sym seam) (bound-kinded vars around same.3 name at kind e (flat_kind flat own ∷ more))))
    where
      whole : typed.FlatVars
      whole = (kinds_bound vars around ++ flat_kind flat own ∷ []) ++ more

      seam : (kinds_bound vars around ++ flat_kind flat own ∷ []) ++ more ≡ kinds_bound vars around ++ flat_kind flat own ∷ more
      seam = append_assoc (kinds_bound vars around) (flat_kind flat own ∷ []) more

      at_seam : slice_get whole (bound_in around) ≡ Some (flat_kind flat own)
      at_seam = ap (λ l. slice_get l (bound_in around)) seam
          ∙ subst (λ k. slice_get (kinds_bound vars around ++ flat_kind flat own ∷ more) k ≡ Some (flat_kind flat own)) (bound-length vars around same.3) (slice_get-behind (kinds_bound vars around) (flat_kind flat own) more)

      by_test : (b : Bool) → cond b (Some own) (find_name vars name) ≡ Some kind → (find_name vars name ≡ Some kind → IsVariable whole around name at kind) →
          (x : FlatExpr) × (cond b (Some (Var (bound_in around) at)) (variable around name at) ≡ Some x) × HasKind flat (kind_in flat_text whole x) kind × (value_in flat_text whole x ≡ kind_in flat_text whole x)
      by_test true e rest = let k : own ≡ kind = cc in (Var (bound_in around) at, refl, subst (λ k. HasKind flat (kind_in flat_text whole (Var (bound_in around) at)) k) k (at_seam, same.1), refl)
      by_test false e rest = rest e

  pub variable-kinded : (vars : Vars) (around : Around) → AreVars vars around → (name : Name) (at : ℕ) (kind : Kind) → find_name vars name ≡ Some kind → IsVariable (kinds_bound vars around) around name at kind
  variable-kinded vars around same name at kind e = subst (λ fv. IsVariable fv around name at kind) (sym (nothing_behind (kinds_bound vars around))) (bound-kinded vars around same name at kind e [])

  -- what is something else is no variable
  pub not-bound : (vars : Vars) (around : Around) → AreVars vars around → (name : Name) → (IsFree name → ⊥) → (at : ℕ) → variable around name at ≡ None
  not-bound [] [] same name used at = refl
  not-bound [] ((other, any) ∷ around) same name used at = absurd same
  not-bound [] ((other, loop n) ∷ around) same name used at = absurd same
  not-bound (v ∷ vars) [] same name used at = absurd same
  not-bound ((own, kind) ∷ vars) ((other, any) ∷ around) same name used at = by_test (bytes_eq other name) refl (not-bound vars around same.3 name used at)
    where
      by_test : (b : Bool) → bytes_eq other name ≡ b → variable around name at ≡ None → cond b (Some (Var (bound_in around) at)) (variable around name at) ≡ None
      by_test true e rest = absurd (used (subst IsFree (same.0 ∙ (bytes_eq-Decides other name).0 e) same.2))
      by_test false e rest = rest
  not-bound ((own, kind) ∷ vars) ((other, loop n) ∷ around) same name used at = by_test (bytes_eq other name) refl (not-bound vars around same.3 name used at)
    where
      by_test : (b : Bool) → bytes_eq other name ≡ b → variable around name at ≡ None → cond b (Some (Loop n at)) (variable around name at) ≡ None
      by_test true e rest = absurd (used (subst IsFree (same.0 ∙ (bytes_eq-Decides other name).0 e) same.2))
      by_test false e rest = rest

  pub no_variable : (vars : Vars) (around : Around) → AreVars vars around → (name : Name) → (IsFree name → ⊥) → (more : Path) (at : ℕ) → variable_at around (name ∷ more) at ≡ None
  no_variable vars around same name used [] at = not-bound vars around same name used at
  no_variable vars around same name used (other ∷ more) at = refl

  -- ---- binders

  module _ (indexes : IndexesAreKinded) where
    -- one more variable
    pub inside-same : (vars : Vars) (around : Around) (over : TypeExpr) → IsIndexType over → index_faults scope.here.types over ≡ [] →
        inside (kinds_bound vars around) (flat_over flat over) ≡ kinds_bound vars around ++ flat_kind flat (index_kind scope.here.types over) ∷ []
    inside-same vars around over i fine = ap (λ k. kinds_bound vars around ++ k ∷ []) (indexes over i fine).1

    pub binder-kinded : (vars : Vars) (around : Around) → AreVars vars around → (over : TypeExpr) → IsIndexType over → index_faults scope.here.types over ≡ [] → (test : typed.FlatVars → Bool) →
        test (kinds_bound vars around ++ flat_kind flat (index_kind scope.here.types over) ∷ []) ≡ true → (is_binder flat_text (kinds_bound vars around) (bound_in around) (flat_over flat over) && test (inside (kinds_bound vars around) (flat_over flat over))) ≡ true
    binder-kinded vars around same over i fine test h =
        and_from (is_binder flat_text (kinds_bound vars around) (bound_in around) (flat_over flat over)) (test (inside (kinds_bound vars around) (flat_over flat over)))
        (and_from (nat_eq (bound_in around) (length (kinds_bound vars around))) (is_index_type flat_text (flat_over flat over)) (eq-eqb (bound_in around) (length (kinds_bound vars around)) (sym (bound-length vars around same))) (indexes over i fine).0)
        (ap test (inside-same vars around over i fine) ∙ h)
