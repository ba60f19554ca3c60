-- In an instance: its binders, its items and the connections of the instances in it keep the kinds of the flattened text.
use Rattle.std.proofs.lemmas.Bool.{and_from}
use Rattle.law_designs.proofs.Opening.{opening}
use Rattle.std.proofs.Common.{◌≡◌, ℕ, List, [], ◌∷◌, ◌++◌, map, flat_map, length, zip, slice_get, Option, Some, None, is_some, Bool, true, cond, refl, sym, ap, ◌∙◌, subst, append_assoc, arith}
use Rattle.std.specs.List.{AllByRecursion, list_all}
use Rattle.law_lists.proofs.Booleans.{left_of}
use Rattle.law_lists.proofs.Lists.{nothing_behind}
use Rattle.law_lists.proofs.Each.{each_append}
use Rattle.smv_core.specs.Values.{Name, Path}
use Rattle.smv_core.specs.Types.{find_name}
use Rattle.smv_core.specs.FlatOrder.{Body, role_of}
use Rattle.smv_core.specs.Walk.{indexes_of}
use Rattle.smv_core.specs.Assignments.{Around, any}
use Rattle.smv_core.specs.declared.tree.Word.{Word}
use Rattle.smv_core.specs.declared.tree.Pair.{Pair}
use Rattle.smv_core.specs.declared.tree.Text.{Text}
use Rattle.smv_core.specs.declared.tree.Role.{Role}
use Rattle.smv_core.specs.declared.tree.Role.TheVariants.{Plain, Abstract, Input, Output}
use Rattle.smv_core.specs.declared.tree.TypeExpr.{TypeExpr}
use Rattle.smv_core.specs.declared.tree.Part.{Part, Field, At}
use Rattle.smv_core.specs.declared.tree.Expr.{Expr, Signal, Signal', Row_of-Part, end_of-Part, more_of-Part, items-the_row-Part}
use Rattle.smv_core.specs.declared.tree.Stmt.{Stmt}
use Rattle.smv_core.specs.declared.tree.Item.{Item, Declare, Instance, Layer, Claim, Split, Using, Act, Row_of-Item, end_of-Item, more_of-Item}
use Rattle.smv_core.specs.declared.tree.Item as item
use Rattle.smv_core.specs.declared.flat.Param.{Param}
use Rattle.smv_core.specs.declared.flat.FlatPair.{FlatPair}
use Rattle.smv_mentions.specs.Mentions as said
use Rattle.smv_mentions.specs.Mentions.{What, signal}
use Rattle.smv_mentions.specs.Scopes.{Own}
use Rattle.smv_mentions.specs.NameFaults.{is_port, is_port_if_own}
use Rattle.smv_mentions.proofs.Computing.{computing}
use Rattle.law_designs.specs.Kinds.{Kind, Operand, takes}
use Rattle.law_designs.specs.Types.{Whole, leads, value_kind, index_faults}
use Rattle.law_designs.specs.References.{Module, Vars, signal_at, reference}
use Rattle.law_designs.specs.Operands.{bind, operand, value}
use Rattle.law_designs.specs.KindFaults.{assigned, are_constant, gives, connected, in_arguments, in_item, in_items}
use Rattle.law_designs.specs.FlatKinds as typed
use Rattle.law_designs.specs.FlatKinds.{kind_of, kind_in, value_in, keeps_kinds, inside, is_binder, are_binders, bound_by, element}
use Rattle.law_designs.specs.Numbers.{Scope, bound_in, flat_over, family_number, or_signal}
use Rattle.law_designs.specs.Statements.{flat_expr, flat_stmt}
use Rattle.law_designs.specs.Entries.{Goal, claim, split, using, Entry, layer, statement, goal, inside_binder, formal, connection, connections, item_entries, items_entries}
use Rattle.law_designs.specs.Flattening.{flatten, scope_in, within, params_from, flat_pair}
use Rattle.law_designs.specs.Written.{IsWritten, AreWritten, InnerIsWritten, InnersAreWritten}
use Rattle.law_designs.proofs.Faultless.{empty-both, each-front, each-behind, each-map, number-fine, taken-fine, reference-fine}
use Rattle.law_designs.proofs.Statements.{mapped-length}
use Rattle.law_designs.proofs.OwnFamilies.{own_in, role-same, input-simple, output-simple}
use Rattle.law_designs.proofs.WrittenEntries.{indexes-written, chosen-fine}
use Rattle.law_designs.proofs.LeftSides.{types, bodies, scope_of, IsModuleHere}
use Rattle.law_flat_kinds.proofs.Relation.{HasKind, takes-kept, number-kept, indexes-kept}
use Rattle.law_flat_kinds.proofs.Boxes.{kind-Read, keeps-Forall}
use Rattle.law_flat_kinds.proofs.Variables.{AreApart, SignalsAreKinded, ConstantsAreKinded, IndexesAreKinded, AreVars, kinds_bound, inside-same, binder-kinded}
use Rattle.law_flat_kinds.proofs.Expressions.{expression-kinded, bound-vars}
use Rattle.law_flat_kinds.proofs.Values.{value-kinded, are-kinded}
use Rattle.law_flat_kinds.proofs.Statements.{statement-keeps, assign-keeps}
use Rattle.law_flat_kinds.proofs.Families.{FoundAs}

none-taken : (ks : List Kind) → length ks ≡ 0 → flat_map (λ (kind, e). takes kind e) (zip ks []) ≡ []
none-taken [] e = refl
none-taken (k ∷ ks) e = absurd (omega (arith, e))

module _ (text : Text) where
  abbrev scope_at : Path → Scope
  scope_at here = scope_in text here

  -- inside parameters
  abbrev pub inside_params : typed.FlatVars → List Param → typed.FlatVars
  inside_params fv [] = fv
  inside_params fv (p ∷ params) = inside_params (inside fv p.over) params

  pub params-bound : (fv : typed.FlatVars) (params : List Param) → inside_params fv params ≡ fv ++ bound_by (flatten text) params
  params-bound fv [] = nothing_behind fv
  params-bound fv (p ∷ params) = params-bound (inside fv p.over) params ∙ append_assoc fv (kind_of p.over ∷ []) (bound_by (flatten text) params)

  abbrev pub has_kind : typed.FlatVars → FlatPair → Bool
  has_kind fv pair = is_some (kind_in (flatten text) fv pair.left)

  -- a claim is a number, and the expressions of a split have kinds
  abbrev pub GoalKeeps : typed.FlatVars → Around → Path → Goal → Type 0
  GoalKeeps fv around instance (claim word vars body at) = typed.takes typed.number (kind_in (flatten text) fv (flat_expr (scope_at instance) around body)) ≡ true
  GoalKeeps fv around instance (split word vars of pairs at) = list_all (has_kind fv) (map (flat_pair (scope_at instance) around) pairs) ≡ true
  GoalKeeps fv around instance (using uses proves at) = Unit {0}

  -- what is met keeps the kinds, inside these variables
  abbrev pub EntryKeeps : typed.FlatVars → Around → Entry → Type 0
  EntryKeeps fv around (layer name) = Unit {0}
  EntryKeeps fv around (statement x) = keeps_kinds (flatten text) fv (flat_stmt (scope_at x.instance) around x.act) ≡ true
  EntryKeeps fv around (goal instance binders g) =
      (are_binders (flatten text) fv (params_from (scope_at instance) (bound_in around) binders) ≡ true) × GoalKeeps (inside_params fv (params_from (scope_at instance) (bound_in around) binders)) (within around binders) instance g

  inside-keeps : (var : Word) (over : TypeExpr) (fv : typed.FlatVars) (around : Around) → is_binder (flatten text) fv (bound_in around) (flat_over (scope_at []) over) ≡ true → (e : Entry) → EntryKeeps (inside fv (flat_over (scope_at []) over)) ((var.name, any) ∷ around) e →
      EntryKeeps fv around (inside_binder var over e)
  unfolding computing
  inside-keeps var over fv around b (layer name) h = tt
  inside-keeps var over fv around b (statement x) h =
      keeps-Forall (flatten text) fv (bound_in around) (flat_over (scope_at x.instance) over) (flat_stmt (scope_at x.instance) ((var.name, any) ∷ around) x.act) ∙ and_from _ _ b h
  inside-keeps var over fv around b (goal instance binders g) h = (and_from _ _ b h.0, h.1)

  module _ (m : Module) (here : Path) (signals : SignalsAreKinded (flatten text) (scope_of text m) (scope_in text here)) (named : ConstantsAreKinded (flatten text) (scope_of text m) (scope_in text here)) (over_kinded : IndexesAreKinded (flatten text) (scope_of text m) (scope_in text here)) where
    abbrev bound : Vars → Around → typed.FlatVars
    bound vars around = kinds_bound (flatten text) (scope_of text m) (scope_at here) vars around

    abbrev Bind : Vars → Around → Type 0
    Bind vars around = AreVars (flatten text) (scope_of text m) (scope_at here) vars around

    abbrev Apart : List said.Mention → Type 0
    Apart ms = AreApart (flatten text) (scope_of text m) (scope_at here) ms

    -- ---- items inside binders

    pairs-keep : (words : List Word) (vars : Vars) (around : Around) → Bind vars around → (pairs : List Pair) → AllByRecursion (λ (pair : Pair). IsWritten pair.left) pairs → Apart (flat_map (λ (pair : Pair). said.in_expr words pair.left) pairs) →
        flat_map (λ (pair : Pair). (operand (scope_of text m) vars pair.left).faults) pairs ≡ [] → list_all (has_kind (bound vars around)) (map (flat_pair (scope_at here) around) pairs) ≡ true
    pairs-keep words vars around same [] written apart fine = refl
    pairs-keep words vars around same (pair ∷ pairs) written apart fine =
        let both = empty-both (operand (scope_of text m) vars pair.left).faults (flat_map (λ (pair : Pair). (operand (scope_of text m) vars pair.left).faults) pairs) fine in
        let own = expression-kinded (flatten text) (scope_of text m) (scope_at here) signals named over_kinded words vars around same pair.left written.0 (each-front _ (said.in_expr words pair.left) (flat_map (λ (pair : Pair). said.in_expr words pair.left) pairs) apart) both.0 in
        and_from _ _ (ap is_some own.0) (pairs-keep words vars around same pairs written.1 (each-behind _ (said.in_expr words pair.left) (flat_map (λ (pair : Pair). said.in_expr words pair.left) pairs) apart) both.1)

    module _ (inside_entries : Path → Name → List Entry) where
      abbrev AllKeep : Vars → Around → List Entry → Type 0
      AllKeep vars around es = AllByRecursion (EntryKeeps (bound vars around) around) es

      mutual
        unfolding opening said.in_item

        pub inner-keeps : (words : List Word) (vars : Vars) (around : Around) → Bind vars around → (part : Item) → InnerIsWritten part → Apart (said.in_item words part) → in_item (scope_of text m) vars part ≡ [] → AllKeep vars around (item_entries (types text) (bodies text) inside_entries here part)
        inner-keeps words vars around same (Declare role ws of at) written apart fine = absurd written
        inner-keeps words vars around same (Instance ws name args at) written apart fine = absurd written
        inner-keeps words vars around same (Layer name acts at) written apart fine = absurd written
        inner-keeps words vars around same (item.Forall' var over shape (more_of-Item part end_of-Item) at) written apart fine =
            let both = empty-both (index_faults m.types over) (in_item (scope_of text m) (bind (scope_of text m) vars var over) part) fine in
            let more : Bind (bind (scope_of text m) vars var over) ((var.name, any) ∷ around) = bound-vars (flatten text) (scope_of text m) (scope_at here) signals named over_kinded vars around same var over written.1 both.0 apart.0 in
            let binder : is_binder (flatten text) (bound vars around) (bound_in around) (flat_over (scope_at here) over) ≡ true =
            left_of (is_binder (flatten text) (bound vars around) (bound_in around) (flat_over (scope_at here) over)) true (binder-kinded (flatten text) (scope_of text m) (scope_at here) over_kinded vars around same over written.1 both.0 (λ fv. true) refl) in
            let inner : AllKeep (bind (scope_of text m) vars var over) ((var.name, any) ∷ around) (item_entries (types text) (bodies text) inside_entries here part) =
            inner-keeps (words ++ var ∷ []) (bind (scope_of text m) vars var over) ((var.name, any) ∷ around) more part written.0 (each-behind _ (said.in_type over) (said.in_item (words ++ var ∷ []) part) apart.1) both.1 in
            each-map (EntryKeeps (inside (bound vars around) (flat_over (scope_at here) over)) ((var.name, any) ∷ around)) (EntryKeeps (bound vars around) around) (inside_binder var over) (inside-keeps var over (bound vars around) around binder) (item_entries (types text) (bodies text) inside_entries here part)
            (subst (λ fv. AllByRecursion (EntryKeeps fv ((var.name, any) ∷ around)) (item_entries (types text) (bodies text) inside_entries here part)) (sym (inside-same (flatten text) (scope_of text m) (scope_at here) over_kinded vars around over written.1 both.0)) inner)
        inner-keeps words vars around same (item.Block' shape items) written apart fine = inners-keep words vars around same items written apart fine
        inner-keeps words vars around same (Claim name brackets e at) written apart fine =
            let own = expression-kinded (flatten text) (scope_of text m) (scope_at here) signals named over_kinded words vars around same e written apart.1 (number-fine _ fine) in
            ((refl, number-kept (scope_at here) (operand (scope_of text m) vars e) _ own fine), tt)
        inner-keeps words vars around same (Split name brackets of pairs at) written apart fine = ((refl, pairs-keep words vars around same pairs written apart.1 fine), tt)
        inner-keeps words vars around same (Using uses proves at) written apart fine = ((refl, tt), tt)
        inner-keeps words vars around same (Act act) written apart fine = (statement-keeps (flatten text) (scope_of text m) (scope_at here) signals named over_kinded words vars around same act written apart fine, tt)

        inners-keep : {k : _} (words : List Word) (vars : Vars) (around : Around) → Bind vars around → (items : Row_of-Item k) → InnersAreWritten items → Apart (said.in_items words items) → in_items (scope_of text m) vars items ≡ [] → AllKeep vars around (items_entries (types text) (bodies text) inside_entries here items)
        inners-keep words vars around same end_of-Item written apart fine = tt
        inners-keep words vars around same (more_of-Item part rest) written apart fine =
            let both = empty-both (in_item (scope_of text m) vars part) (in_items (scope_of text m) vars rest) fine in
            each_append (EntryKeeps (bound vars around) around) (item_entries (types text) (bodies text) inside_entries here part) (items_entries (types text) (bodies text) inside_entries here rest)
            (inner-keeps words vars around same part written.0 (each-front _ (said.in_item words part) (said.in_items words rest) apart) both.0)
            (inners-keep words vars around same rest written.1 (each-behind _ (said.in_item words part) (said.in_items words rest) apart) both.1)

    -- ---- connections

    abbrev pub AreKept : List Stmt → Type 0
    AreKept acts = AllByRecursion (λ act. keeps_kinds (flatten text) [] (flat_stmt (scope_at here) [] act) ≡ true) acts

    row-apart : (words : List Word) (k : _) (row : Row_of-Part k) → Apart (said.in_parts words row) → Apart (flat_map (said.in_expr words) (indexes_of (items-the_row-Part k row)))
    unfolding said.in_expr
    row-apart words k end_of-Part h = tt
    row-apart words k (more_of-Part (Field word) rest) h = row-apart words _ rest h
    row-apart words k (more_of-Part (At index) rest) h =
        each_append _ (said.in_expr words index) (flat_map (said.in_expr words) (indexes_of (items-the_row-Part _ rest))) (each-front _ (said.in_expr words index) (said.in_parts words rest) h) (row-apart words _ rest (each-behind _ (said.in_expr words index) (said.in_parts words rest) h))

    -- a formal, found as a family without an index
    abbrev pub FormalIs : Name → Name → Whole → Type 0
    FormalIs n a w = FoundAs text here (here ++ n ∷ a ∷ []) w × (length w.over ≡ 0)

    formal-element : (n a : Name) (w : Whole) → FormalIs n a w → HasKind (scope_at here) (element (slice_get (flatten text).families (family_number (scope_at here) (here ++ n ∷ a ∷ []))) []) w.value
    unfolding opening
    formal-element n a w f =
        let each : typed.take_each f.0.1.over [] ≡ true = indexes-kept (scope_at here) f.0.1.over w.over f.0.4 [] [] tt f.1 (none-taken w.over f.1) in
        (ap (λ o. element o []) f.0.3 ∙ ap (λ b. cond b (Some (kind_of f.0.1.value)) None) each ∙ ap Some f.0.5, f.0.6)

    formal-value : (n a : Name) (at : ℕ) (w : Whole) → FormalIs n a w → HasKind (scope_at here) (value_in (flatten text) [] (flat_expr (scope_at here) [] (Signal (formal n a at)))) w.value
    unfolding opening computing
    formal-value n a at w f =
        let own = formal-element n a w f in
        (ap (λ o. value_in (flatten text) [] (or_signal (scope_at here) None o (n ∷ a ∷ []) [] at)) f.0.2 ∙ kind-Read (flatten text) [] (family_number (scope_at here) (here ++ n ∷ a ∷ [])) [] at ∙ own.0, own.1)

    given-keeps : (n a : Name) (w : Whole) → FormalIs n a w → (e : Expr) → IsWritten e → Apart (said.in_expr [] e) → gives (scope_of text m) w.value e ≡ [] → AreKept (connection Output n a e)
    unfolding opening computing said.in_expr
    given-keeps n a w f (Signal' shape parts at) written apart fine =
        let path : List Part = items-the_row-Part _ parts in
        let left : Operand = reference at (signal_at (scope_of text m) path) (map (operand (scope_of text m) []) (indexes_of path)) in
        let right : Operand = record { kind = w.value; at = left.at; faults = [] } in
        let both = empty-both left.faults (takes left.kind right) (chosen-fine (are_constant path) (assigned left right) [] (record { number = 12; at = left.at }) fine) in
        let r = reference-fine at (signal_at (scope_of text m) path) (map (operand (scope_of text m) []) (indexes_of path)) both.0 in
        let count : length (indexes_of path) ≡ length (map (operand (scope_of text m) []) (indexes_of path)) = mapped-length (operand (scope_of text m) []) (indexes_of path) in
        let s = signals path r.0 r.1 in
        let given = are-kinded (flatten text) (scope_of text m) (scope_at here) signals named over_kinded [] [] [] tt (indexes_of path) (indexes-written _ parts written) (row-apart [] _ parts apart.1) (r.2 (s.7 ∙ count)) in (
          assign-keeps (flatten text) (scope_of text m) (scope_at here) signals named over_kinded [] [] path at r.0 r.1 (map (operand (scope_of text m) []) (indexes_of path)) count
              (subst (λ o. (reference at o (map (operand (scope_of text m) []) (indexes_of path))).faults ≡ []) r.1 both.0) _ given right _ (formal-value n a at w f)
              (subst (λ o. takes (reference at o (map (operand (scope_of text m) []) (indexes_of path))).kind right ≡ []) r.1 both.1),
          tt,
        )
    given-keeps n a w f _ written apart fine = tt

    input-keeps : (n a : Name) (w : Whole) → FormalIs n a w → (e : Expr) → IsWritten e → Apart (said.in_expr [] e) → takes w.value (value (scope_of text m) [] e) ≡ [] → AreKept (connection Input n a e)
    unfolding opening computing
    input-keeps n a w f e written apart fine =
        let own = formal-element n a w f in
        let right = value-kinded (flatten text) (scope_of text m) (scope_at here) signals named over_kinded [] [] [] tt e written apart (taken-fine w.value (value (scope_of text m) [] e) fine) in
        (ap (λ t. typed.assigns t (value_in (flatten text) [] (flat_expr (scope_at here) [] e))) own.0 ∙ takes-kept (scope_at here) w.value own.1 (value (scope_of text m) [] e) _ right fine, tt)

    module _ (inner : Module) (inner_body : Body) (inner_good : IsModuleHere text inner inner_body) (n : Name)
        (formals_found : (a : Name) (w : Whole) (at : ℕ) (role : Role) (of : TypeExpr) → find_name inner.own a ≡ Some (record { at = at; what = signal role of }) → leads inner.types of [] ≡ Some w → FormalIs n a w) where
      abbrev connection_of : Name → Expr → List Stmt
      connection_of a e = connection (role_of inner_body.items a) n a e

      port-keeps : (a : Name) (e : Expr) → IsWritten e → Apart (said.in_expr [] e) → (at : ℕ) (what : What) → find_name (own_in inner_body.items) a ≡ Some (record { at = at; what = what }) → is_port what ≡ true →
          connected (scope_of text m) inner.types (Some (record { at = at; what = what })) e ≡ [] → AreKept (connection_of a e)
      unfolding opening
      port-keeps a e written apart at (signal Input of) found port fine =
          let simple = input-simple a (scope_of text inner) of inner_body.items inner_good.4 inner_good.5 at found in
          let f = formals_found a simple.0 at Input of (subst (λ l. find_name l a ≡ Some (record { at = at; what = signal Input of })) (sym inner_good.3) found) simple.1 in
          subst (λ role. AreKept (connection role n a e)) (sym (role-same a inner_body.items inner_good.4 (record { at = at; what = signal Input of }) tt found))
          (input-keeps n a simple.0 f e written apart (subst (λ o. takes (value_kind o) (value (scope_of text m) [] e) ≡ []) simple.1 fine))
      port-keeps a e written apart at (signal Output of) found port fine =
          let simple = output-simple a (scope_of text inner) of inner_body.items inner_good.4 inner_good.5 at found in
          let f = formals_found a simple.0 at Output of (subst (λ l. find_name l a ≡ Some (record { at = at; what = signal Output of })) (sym inner_good.3) found) simple.1 in
          subst (λ role. AreKept (connection role n a e)) (sym (role-same a inner_body.items inner_good.4 (record { at = at; what = signal Output of }) tt found))
          (given-keeps n a simple.0 f e written apart (subst (λ o. gives (scope_of text m) (value_kind o) e ≡ []) simple.1 fine))
      port-keeps a e written apart at (signal Plain of) found port fine = absurd (cc (port))
      port-keeps a e written apart at (signal Abstract of) found port fine = absurd (cc (port))
      port-keeps a e written apart at (said.instance name) found port fine = absurd (cc (port))
      port-keeps a e written apart at said.goal found port fine = absurd (cc (port))

      connection-keeps : (a : Name) (e : Expr) → IsWritten e → Apart (said.in_expr [] e) → (o : Option Own) → find_name (own_in inner_body.items) a ≡ o → is_port_if_own o ≡ true → connected (scope_of text m) inner.types o e ≡ [] → AreKept (connection_of a e)
      unfolding opening
      connection-keeps a e written apart None found port fine = absurd (cc (port))
      connection-keeps a e written apart (Some own) found port fine = port-keeps a e written apart own.at own.what found port fine

      zipped-keeps : (formals : List Word) (args : List Expr) → AreWritten args → Apart (flat_map (said.in_expr []) args) → AllByRecursion (λ (word : Word). is_port_if_own (find_name (own_in inner_body.items) word.name) ≡ true) formals →
          flat_map (λ (word, e). connected (scope_of text m) inner.types (find_name (own_in inner_body.items) word.name) e) (zip formals args) ≡ [] →
          AreKept (flat_map (λ (word, e). connection (role_of inner_body.items word.name) n word.name e) (zip formals args))
      unfolding opening
      zipped-keeps [] args written apart ports fine = tt
      zipped-keeps (word ∷ formals) [] written apart ports fine = tt
      zipped-keeps (word ∷ formals) (e ∷ args) written apart ports fine =
          let both = empty-both (connected (scope_of text m) inner.types (find_name (own_in inner_body.items) word.name) e)
          (flat_map (λ (word, e). connected (scope_of text m) inner.types (find_name (own_in inner_body.items) word.name) e) (zip formals args)) fine in
          each_append (λ act. keeps_kinds (flatten text) [] (flat_stmt (scope_at here) [] act) ≡ true) (connection_of word.name e) (flat_map (λ (word, e). connection (role_of inner_body.items word.name) n word.name e) (zip formals args))
          (connection-keeps word.name e written.0 (each-front _ (said.in_expr [] e) (flat_map (said.in_expr []) args) apart) (find_name (own_in inner_body.items) word.name) refl ports.0 both.0)
          (zipped-keeps formals args written.1 (each-behind _ (said.in_expr [] e) (flat_map (said.in_expr []) args) apart) ports.1 both.1)

      pub connections-keep : (args : List Expr) → AreWritten args → Apart (flat_map (said.in_expr []) args) → in_arguments (scope_of text m) (Some inner) args ≡ [] → AreKept (connections inner_body n args)
      unfolding opening
      connections-keep args written apart fine =
          let formals_fine : flat_map (λ (word, e). connected (scope_of text m) inner.types (find_name inner.own word.name) e) (zip inner_body.formals args) ≡ [] =
          subst (λ fs. flat_map (λ (word, e). connected (scope_of text m) inner.types (find_name inner.own word.name) e) (zip fs args) ≡ []) inner_good.2 fine in
          let own_fine : flat_map (λ (word, e). connected (scope_of text m) inner.types (find_name (own_in inner_body.items) word.name) e) (zip inner_body.formals args) ≡ [] =
          subst (λ own. flat_map (λ (word, e). connected (scope_of text m) inner.types (find_name own word.name) e) (zip inner_body.formals args) ≡ []) inner_good.3 formals_fine in
          let formal_ports : AllByRecursion (λ (word : Word). is_port_if_own (find_name inner.own word.name) ≡ true) inner_body.formals =
          subst (AllByRecursion (λ (word : Word). is_port_if_own (find_name inner.own word.name) ≡ true)) inner_good.2 inner_good.6 in
          let own_ports : AllByRecursion (λ (word : Word). is_port_if_own (find_name (own_in inner_body.items) word.name) ≡ true) inner_body.formals =
          subst (λ own. AllByRecursion (λ (word : Word). is_port_if_own (find_name own word.name) ≡ true) inner_body.formals) inner_good.3 formal_ports in
          zipped-keeps inner_body.formals args written apart own_ports own_fine
