-- The laws of expressions and statements, for a text.
use Rattle.std.proofs.Common.{◌≡◌, List, [], Some, map, All, sym, subst}
use Rattle.smv_core.specs.Values.{Path, Value, Sizes}
use Rattle.smv_core.specs.Types.{Family, types_from}
use Rattle.smv_core.specs.FlatOrder.{design_of}
use Rattle.smv_core.specs.Outcome.{State, Bindings, Scene, outcome, allowed_by, family_at}
use Rattle.smv_core.specs.Walk.{Element, walk}
use Rattle.smv_core.specs.Allowed.{scene_at}
use Rattle.smv_core.specs.Assignments.{Around}
use Rattle.smv_core.specs.Conflicts.{Agrees}
use Rattle.smv_core.specs.FlatMeaning.{FlatState, flat_outcome, flat_allowed_by, flat_walk}
use Rattle.smv_core.specs.declared.tree.Kind.{Kind}
use Rattle.smv_core.specs.declared.tree.Text.{Text}
use Rattle.smv_core.specs.declared.tree.Expr.{Expr}
use Rattle.smv_core.specs.declared.tree.Stmt.{Stmt}
use Rattle.law_designs.specs.Statements.{flat_expr, flat_stmt}
use Rattle.law_designs.specs.Entries.{placed_families}
use Rattle.law_designs.specs.Flattening.{scope_in}
use Rattle.law_designs.specs.Agreement.{AreSameStates, IsRight, StatementIsRight, flat_element, numbers_in, values_bound}
use Rattle.law_designs.proofs.Numbered.{AreNumbered, HasNumbers}
use Rattle.law_designs.proofs.SameFamilies.{families-same}
use Rattle.law_designs.proofs.SameOutcomes.{outcome-same, allowed-same}
use Rattle.law_designs.proofs.SameWalks.{walk-same}

module _ (text : Text) (sizes : Sizes) (s : State) (t : FlatState) (states : AreSameStates (design_of text).families s t) (numbers : AreNumbered text sizes) where
  abbrev own : List Family
  own = map (λ (f, at). f) (placed_families text)

  abbrev scene_of : Path → List Family → Scene
  scene_of instance families = record { types = types_from [] text.tops; families = families; sizes = sizes; instance = instance }

  own_states : AreSameStates own s t
  own_states = subst (λ fs. AreSameStates fs s t) (sym (families-same text)) states

  own_numbers : All (HasNumbers (scope_in text []) (numbers_in text sizes)) own
  own_numbers = subst (λ fs. All (HasNumbers (scope_in text []) (numbers_in text sizes)) fs) (sym (families-same text)) numbers.0

  pub outcome_of_text : (instance : Path) (vars : Around) (e : Expr) (b : Bindings) → Agrees vars b → IsRight (scope_in text instance) vars e →
      flat_outcome (numbers_in text sizes) t (flat_expr (scope_in text instance) vars e) (values_bound vars b) ≡ outcome (scene_at (design_of text) sizes instance) s e b
  outcome_of_text instance vars e b agree right =
      let scope = scope_in text instance in
      subst (λ fs. flat_outcome (numbers_in text sizes) t (flat_expr scope vars e) (values_bound vars b) ≡ outcome (scene_of instance fs) s e b) (families-same text)
      (outcome-same scope.types scope.sets scope.enums (placed_families text) instance sizes s t own_states own_numbers numbers.1 vars e b agree right)

  pub allowed_of_text : (instance : Path) (every : List Value) (vars : Around) (e : Expr) (b : Bindings) → Agrees vars b → IsRight (scope_in text instance) vars e →
      flat_allowed_by (numbers_in text sizes) t every (flat_expr (scope_in text instance) vars e) (values_bound vars b) ≡ allowed_by (scene_at (design_of text) sizes instance) s every e b
  allowed_of_text instance every vars e b agree right =
      let scope = scope_in text instance in
      subst (λ fs. flat_allowed_by (numbers_in text sizes) t every (flat_expr scope vars e) (values_bound vars b) ≡ allowed_by (scene_of instance fs) s every e b) (families-same text)
      (allowed-same scope.types scope.sets scope.enums (placed_families text) instance sizes s t own_states own_numbers numbers.1 every vars e b agree right)

  module _ (kind : Kind) (x : Element) (every : List Value) (f : Family) (found : family_at (design_of text).families x.path ≡ Some f) where
    own_found : family_at own x.path ≡ Some f
    own_found = subst (λ fs. family_at fs x.path ≡ Some f) (sym (families-same text)) found

    pub walk_of_text : (instance : Path) (vars : Around) (act : Stmt) (b : Bindings) → Agrees vars b → StatementIsRight (scope_in text instance) vars act →
        flat_walk (numbers_in text sizes) t (flat_element (scope_in text instance) x) every kind (flat_stmt (scope_in text instance) vars act) (values_bound vars b)
        ≡ walk (scene_at (design_of text) sizes instance) s kind x every act b
    walk_of_text instance vars act b agree right =
        let scope = scope_in text instance in
        subst (λ fs. flat_walk (numbers_in text sizes) t (flat_element scope x) every kind (flat_stmt scope vars act) (values_bound vars b) ≡ walk (scene_of instance fs) s kind x every act b) (families-same text)
        (walk-same scope.types scope.sets scope.enums (placed_families text) instance sizes s t own_states own_numbers numbers.1 kind x every f own_found vars act b agree right)
