-- Each statement and claim of a text without faults is right.
use Rattle.law_designs.proofs.Opening.{opening}
use Rattle.std.proofs.Common.{◌≡◌, ℕ, zero, suc, List, [], ◌∷◌, ◌++◌, map, flat_map, length, zip, Option, Some, None, option_and_then, unwrap_or, Bool, true, false, cond, refl, sym, ◌∙◌, subst}
use Rattle.std.specs.List.{AllByRecursion, list_any}
use Rattle.law_lists.proofs.Each.{each_append, each_weaker}
use Rattle.smv_core.specs.Values.{Name, Path}
use Rattle.smv_core.specs.Types as tree
use Rattle.smv_core.specs.Types.{Family, find_name, types_from}
use Rattle.smv_core.specs.FlatOrder.{Body, modules, main, role_of, body_of, families_of_item, families_in, design_of}
use Rattle.smv_core.specs.Outcome.{family_at, same_path}
use Rattle.smv_core.specs.Walk.{indexes_of}
use Rattle.smv_core.specs.Assignments.{Around, any}
use Rattle.smv_core.specs.declared.tree.Word.{Word}
use Rattle.smv_core.specs.declared.tree.Text.{Text}
use Rattle.smv_core.specs.declared.tree.Role.TheVariants.{Plain, Abstract, Input, Output}
use Rattle.smv_core.specs.declared.tree.TypeExpr.{TypeExpr}
use Rattle.smv_core.specs.declared.tree.Part.{Part, Field, At}
use Rattle.smv_core.specs.declared.tree.Expr.{Expr, Signal', Row_of-Part, end_of-Part, more_of-Part, items-the_row-Part}
use Rattle.smv_core.specs.declared.tree.Stmt.{Stmt}
use Rattle.smv_core.specs.declared.tree.Item.{Item, Declare, Instance, Layer, Claim, Split, Using, Act, Row_of-Item, end_of-Item, more_of-Item}
use Rattle.smv_core.specs.declared.tree.Item as item
use Rattle.smv_mentions.specs.Mentions.{What, signal}
use Rattle.smv_mentions.specs.Mentions as mentions
use Rattle.smv_mentions.specs.Scopes.{Own, Constant, constants, pieces}
use Rattle.smv_mentions.specs.NameFaults.{is_port, is_port_if_own}
use Rattle.smv_mentions.proofs.Computing.{computing}
use Rattle.law_designs.specs.Kinds.{Kind, Operand, takes}
use Rattle.law_designs.specs.Types.{leads, value_kind, index_faults}
use Rattle.law_designs.specs.References as kinds
use Rattle.law_designs.specs.References.{Module, Vars, modules_from, behind, signal_at, reference}
use Rattle.law_designs.specs.Operands.{bind, operand, value}
use Rattle.law_designs.specs.KindFaults.{assigned, are_constant, gives, connected, in_arguments, in_item, in_items}
use Rattle.law_designs.specs.Entries.{claim, split, using, Entry, layer, statement, goal, inside_binder, connection, connections, instance_entries, item_entries, items_entries, entries_in, entries}
use Rattle.law_designs.specs.Flattening.{scope_in, within}
use Rattle.law_designs.specs.Agreement.{IsIndexType, IsRight, StatementIsRight}
use Rattle.law_designs.specs.WholeText.{BindersAreRight, EntryIsRight}
use Rattle.law_designs.proofs.Lookups.{any-found, any-front, any-behind}
use Rattle.law_designs.proofs.SameFamilies.{families-same}
use Rattle.law_designs.proofs.Constants.{constant-listed}
use Rattle.law_designs.specs.Written.{IsWritten, AreWritten, IndexesAreWritten, InnerIsWritten, InnersAreWritten, ItemIsWritten}
use Rattle.law_designs.proofs.Faultless.{empty-both, each-map, number-fine, taken-fine, reference-fine}
use Rattle.law_designs.proofs.LeadTypes.{behind-count}
use Rattle.law_designs.proofs.Expressions.{AreSameNames, SignalsCount, OwnAreFamilies, ConstantsAreListed, known-anyway, expression-right, are-right, value-right}
use Rattle.law_designs.proofs.Statements.{mapped-length, statement-right, body-right}
use Rattle.law_designs.proofs.OwnFamilies.{own_in, role-same, own-family}
use Rattle.law_designs.proofs.Modules.{IsModule, AreModules, AreFound, modules-found, modules-count}

pub indexes-written : (m : _) (row : Row_of-Part m) → IndexesAreWritten row → AreWritten (indexes_of (items-the_row-Part m row))
unfolding opening
indexes-written m end_of-Part h = tt
indexes-written m (more_of-Part (Field word) rest) h = indexes-written _ rest h
indexes-written m (more_of-Part (At index) rest) h = (h.0, indexes-written _ rest h.1)

pub chosen-fine : {X : Type 0} (b : Bool) (xs ys : List X) (y : X) → cond b xs (y ∷ ys) ≡ [] → xs ≡ []
unfolding opening
chosen-fine true xs ys y h = h
chosen-fine false xs ys y h = absurd (cc (h))

module _ (text : Text) where
  abbrev types : tree.Types
  types = types_from [] text.tops

  abbrev bodies : List (Name × Body)
  bodies = modules text.tops

  abbrev all_modules : List (Name × Module)
  all_modules = modules_from [] text.tops

  abbrev all_constants : List (Name × Constant)
  all_constants = constants (pieces text)

  abbrev all_families : List Family
  all_families = (design_of text).families

  abbrev scope_of : Module → kinds.Scope
  scope_of m = record { modules = all_modules; constants = all_constants; here = m }

  -- these families are families of the text
  abbrev Includes : List Family → Type 0
  Includes fs = (p : Family → Bool) → list_any p fs ≡ true → list_any p all_families ≡ true

  abbrev IsModuleHere : Module → Body → Type 0
  IsModuleHere m body = IsModule types all_modules all_constants m body

  -- a statement or claim is right inside these variables
  abbrev EntryIsRightIn : Around → Entry → Type 0
  EntryIsRightIn around (statement x) = StatementIsRight (scope_in text x.instance) around x.act
  EntryIsRightIn around (goal instance binders (claim word vars body at)) = IsRight (scope_in text instance) (within around binders) body × BindersAreRight binders
  EntryIsRightIn around _ = Unit {0}

  outside-right : (e : Entry) → EntryIsRightIn [] e → EntryIsRight text e
  unfolding opening
  outside-right (layer name) h = tt
  outside-right (statement x) h = h
  outside-right (goal instance binders (claim word vars body at)) h = h
  outside-right (goal instance binders (split word vars of pairs at)) h = tt
  outside-right (goal instance binders (using uses proves at)) h = tt

  inside-right : (var : Word) (over : TypeExpr) → IsIndexType over → (around : Around) (e : Entry) → EntryIsRightIn ((var.name, any) ∷ around) e → EntryIsRightIn around (inside_binder var over e)
  unfolding opening computing
  inside-right var over index around (layer name) h = tt
  inside-right var over index around (statement x) h = (h, index)
  inside-right var over index around (goal instance binders (claim word vars body at)) h = (h.0, (index, h.1))
  inside-right var over index around (goal instance binders (split word vars of pairs at)) h = tt
  inside-right var over index around (goal instance binders (using uses proves at)) h = tt

  module _ (same_modules : AreModules types all_modules all_constants all_modules bodies) where
    module _ (m : Module) (body : Body) (good : IsModuleHere m body) (here : Path) where
      signals-count : SignalsCount (scope_of m)
      unfolding opening
      signals-count [] w h = absurd (cc (h))
      signals-count (At e ∷ parts) w h = absurd (cc (h))
      signals-count (Field word ∷ parts) w h = by_own (find_name m.own word.name) h
        where
          by_own : (o : Option Own) → option_and_then (λ (own : Own). behind all_modules m.types own.what parts) o ≡ Some w → length w.over ≡ length (indexes_of parts)
          by_own None h = absurd (cc (h))
          by_own (Some own) h = behind-count all_modules (modules-count types all_modules all_constants all_modules bodies same_modules) m.types good.1 own.what parts w h

      constants-listed : ConstantsAreListed (scope_of m) (scope_in text here)
      unfolding opening
      constants-listed name c e = constant-listed text here name c e

      module _ (inside : Path → Name → List Family) (includes : Includes (flat_map (families_of_item types bodies inside here) body.items)) where
        own-are-families : OwnAreFamilies (scope_of m) (scope_in text here)
        unfolding opening
        own-are-families word parts w flat h = by_own (find_name m.own word.name) refl h
          where
            by_own : (o : Option Own) → find_name m.own word.name ≡ o → option_and_then (λ (own : Own). behind all_modules m.types own.what parts) o ≡ Some w → (f : Family) × (family_at (scope_in text here).families (here ++ word.name ∷ []) ≡ Some f)
            by_own None e h = absurd (cc (h))
            by_own (Some own) e h =
                let named : Family → Bool = λ f. same_path f.path (here ++ word.name ∷ []) in
                let found : find_name (own_in body.items) word.name ≡ Some own = subst (λ l. find_name l word.name ≡ Some own) good.3 e in
                let has : list_any named all_families ≡ true = includes named (own-family word.name types bodies inside here (scope_of m) good.0 own parts w h flat body.items good.4 good.5 found) in
                any-found named (scope_in text here).families (subst (λ fs. list_any named fs ≡ true) (sym (families-same text)) has)

        -- ---- items inside binders

        module _ (inside_entries : Path → Name → List Entry) where
          mutual
            unfolding opening

            inner-right : (vars : Vars) (around : Around) → AreSameNames vars around → (part : Item) → InnerIsWritten part → in_item (scope_of m) vars part ≡ [] → AllByRecursion (EntryIsRightIn around) (item_entries types bodies inside_entries here part)
            inner-right vars around same (Declare role words of at) written fine = absurd written
            inner-right vars around same (Instance words name args at) written fine = absurd written
            inner-right vars around same (Layer name acts at) written fine = absurd written
            inner-right vars around same (item.Forall' var over shape (more_of-Item part end_of-Item) at) written fine =
                let both = empty-both (index_faults m.types over) (in_item (scope_of m) (bind (scope_of m) vars var over) part) fine in
                each-map (EntryIsRightIn ((var.name, any) ∷ around)) (EntryIsRightIn around) (inside_binder var over) (inside-right var over written.1 around) (item_entries types bodies inside_entries here part)
                (inner-right (bind (scope_of m) vars var over) ((var.name, any) ∷ around) (refl, same) part written.0 both.1)
            inner-right vars around same (item.Block' shape items) written fine = inners-right vars around same items written fine
            inner-right vars around same (Claim name brackets e at) written fine =
                ((expression-right (scope_of m) (scope_in text here) signals-count own-are-families constants-listed vars around same e written (number-fine (operand (scope_of m) vars e) fine), tt), tt)
            inner-right vars around same (Split name brackets of pairs at) written fine = (tt, tt)
            inner-right vars around same (Using uses proves at) written fine = (tt, tt)
            inner-right vars around same (Act act) written fine = (statement-right (scope_of m) (scope_in text here) signals-count own-are-families constants-listed vars around same act written fine, tt)

            inners-right : {k : _} (vars : Vars) (around : Around) → AreSameNames vars around → (items : Row_of-Item k) → InnersAreWritten items → in_items (scope_of m) vars items ≡ [] → AllByRecursion (EntryIsRightIn around) (items_entries types bodies inside_entries here items)
            inners-right vars around same end_of-Item written fine = tt
            inners-right vars around same (more_of-Item part rest) written fine =
                let both = empty-both (in_item (scope_of m) vars part) (in_items (scope_of m) vars rest) fine in
                each_append (EntryIsRightIn around) (item_entries types bodies inside_entries here part) (items_entries types bodies inside_entries here rest) (inner-right vars around same part written.0 both.0) (inners-right vars around same rest written.1 both.1)

          whole-right : (part : Item) → InnerIsWritten part → in_item (scope_of m) [] part ≡ [] → AllByRecursion (EntryIsRight text) (item_entries types bodies inside_entries here part)
          unfolding opening
          whole-right part written fine = each_weaker (EntryIsRightIn []) (EntryIsRight text) outside-right (item_entries types bodies inside_entries here part) (inner-right [] [] tt part written fine)

        -- ---- connections

        given-right : (n a : Name) (kind : Kind) (e : Expr) → IsWritten e → gives (scope_of m) kind e ≡ [] → AllByRecursion (StatementIsRight (scope_in text here) []) (connection Output n a e)
        unfolding opening computing
        given-right n a kind (Signal' shape parts at) written fine =
            let path : List Part = items-the_row-Part _ parts in
            let left : Operand = reference at (signal_at (scope_of m) path) (map (operand (scope_of m) []) (indexes_of path)) in
            let both = empty-both left.faults (takes left.kind (record { kind = kind; at = left.at; faults = [] })) (chosen-fine (are_constant path) (assigned left (record { kind = kind; at = left.at; faults = [] })) [] (record { number = 12; at = left.at }) fine) in
            let r = reference-fine at (signal_at (scope_of m) path) (map (operand (scope_of m) []) (indexes_of path)) both.0 in (
              (
                are-right (scope_of m) (scope_in text here) signals-count own-are-families constants-listed [] [] tt (indexes_of path) (indexes-written _ parts written) (r.2 (signals-count path r.0 r.1 ∙ mapped-length (operand (scope_of m) []) (indexes_of path))),
                (known-anyway (scope_in text here) None (family_at (scope_in text here).families (here ++ n ∷ a ∷ [])) (n ∷ a ∷ []) tt, tt),
              ),
              tt,
            )
        given-right n a kind _ written fine = tt

        input-right : (n a : Name) (kind : Kind) (e : Expr) → IsWritten e → takes kind (value (scope_of m) [] e) ≡ [] → AllByRecursion (StatementIsRight (scope_in text here) []) (connection Input n a e)
        unfolding opening computing
        input-right n a kind e written fine = ((tt, value-right (scope_of m) (scope_in text here) signals-count own-are-families constants-listed [] [] tt e written (taken-fine kind (value (scope_of m) [] e) fine)), tt)

        abbrev AreRightHere : List Stmt → Type 0
        AreRightHere acts = AllByRecursion (StatementIsRight (scope_in text here) []) acts

        module _ (inner : Module) (inner_body : Body) (inner_good : IsModuleHere inner inner_body) (n : Name) where
          abbrev connection_of : Name → Expr → List Stmt
          connection_of a e = connection (role_of inner_body.items a) n a e

          port-right : (a : Name) (e : Expr) → IsWritten e → (at : ℕ) (what : What) → find_name (own_in inner_body.items) a ≡ Some (record { at = at; what = what }) → is_port what ≡ true →
              connected (scope_of m) inner.types (Some (record { at = at; what = what })) e ≡ [] → AreRightHere (connection_of a e)
          unfolding opening
          port-right a e written at (signal Input of) found port fine =
              subst (λ role. AreRightHere (connection role n a e)) (sym (role-same a inner_body.items inner_good.4 (record { at = at; what = signal Input of }) tt found)) (input-right n a (value_kind (leads inner.types of [])) e written fine)
          port-right a e written at (signal Output of) found port fine =
              subst (λ role. AreRightHere (connection role n a e)) (sym (role-same a inner_body.items inner_good.4 (record { at = at; what = signal Output of }) tt found)) (given-right n a (value_kind (leads inner.types of [])) e written fine)
          port-right a e written at (signal Plain of) found port fine = absurd (cc (port))
          port-right a e written at (signal Abstract of) found port fine = absurd (cc (port))
          port-right a e written at (mentions.instance name) found port fine = absurd (cc (port))
          port-right a e written at mentions.goal found port fine = absurd (cc (port))

          connection-right : (a : Name) (e : Expr) → IsWritten e → (o : Option Own) → find_name (own_in inner_body.items) a ≡ o → is_port_if_own o ≡ true → connected (scope_of m) inner.types o e ≡ [] → AreRightHere (connection_of a e)
          unfolding opening
          connection-right a e written None found port fine = absurd (cc (port))
          connection-right a e written (Some own) found port fine = port-right a e written own.at own.what found port fine

          zipped-right : (formals : List Word) (args : List Expr) → AllByRecursion (λ (word : Word). is_port_if_own (find_name (own_in inner_body.items) word.name) ≡ true) formals → AreWritten args →
              flat_map (λ (word, e). connected (scope_of m) inner.types (find_name (own_in inner_body.items) word.name) e) (zip formals args) ≡ [] →
              AreRightHere (flat_map (λ (word, e). connection (role_of inner_body.items word.name) n word.name e) (zip formals args))
          unfolding opening
          zipped-right [] args ports written fine = tt
          zipped-right (word ∷ formals) [] ports written fine = tt
          zipped-right (word ∷ formals) (e ∷ args) ports written fine =
              let both = empty-both (connected (scope_of m) inner.types (find_name (own_in inner_body.items) word.name) e)
              (flat_map (λ (word, e). connected (scope_of m) inner.types (find_name (own_in inner_body.items) word.name) e) (zip formals args)) fine in
              each_append (StatementIsRight (scope_in text here) []) (connection_of word.name e) (flat_map (λ (word, e). connection (role_of inner_body.items word.name) n word.name e) (zip formals args))
              (connection-right word.name e written.0 (find_name (own_in inner_body.items) word.name) refl ports.0 both.0) (zipped-right formals args ports.1 written.1 both.1)

        -- the connections of an instance
        found-right : (args : List Expr) → AreWritten args → (n : Name) (o : Option Module) (b : Option Body) → AreFound types all_modules all_constants o b → in_arguments (scope_of m) o args ≡ [] →
            AreRightHere (connections (unwrap_or b (record { formals = []; items = [] })) n args)
        unfolding opening
        found-right args written n None None found fine = tt
        found-right args written n None (Some b) found fine = absurd found
        found-right args written n (Some inner) None found fine = absurd found
        found-right args written n (Some inner) (Some inner_body) found fine =
            let formals_fine : flat_map (λ (word, e). connected (scope_of m) inner.types (find_name inner.own word.name) e) (zip inner_body.formals args) ≡ [] =
            subst (λ fs. flat_map (λ (word, e). connected (scope_of m) inner.types (find_name inner.own word.name) e) (zip fs args) ≡ []) found.2 fine in
            let own_fine : flat_map (λ (word, e). connected (scope_of m) inner.types (find_name (own_in inner_body.items) word.name) e) (zip inner_body.formals args) ≡ [] =
            subst (λ own. flat_map (λ (word, e). connected (scope_of m) inner.types (find_name own word.name) e) (zip inner_body.formals args) ≡ []) found.3 formals_fine in
            let formal_ports : AllByRecursion (λ (word : Word). is_port_if_own (find_name inner.own word.name) ≡ true) inner_body.formals =
            subst (AllByRecursion (λ (word : Word). is_port_if_own (find_name inner.own word.name) ≡ true)) found.2 found.6 in
            let own_ports : AllByRecursion (λ (word : Word). is_port_if_own (find_name (own_in inner_body.items) word.name) ≡ true) inner_body.formals =
            subst (λ own. AllByRecursion (λ (word : Word). is_port_if_own (find_name own word.name) ≡ true) inner_body.formals) found.3 formal_ports in
            zipped-right inner inner_body found n inner_body.formals args own_ports written own_fine

        -- ---- items

        module _ (inside_entries : Path → Name → List Entry) (inside_right : (there : Path) (name : Name) → Includes (inside there name) → AllByRecursion (EntryIsRight text) (inside_entries there name)) where
          instance-right : (name : Word) (args : List Expr) → AreWritten args → in_arguments (scope_of m) (find_name all_modules name.name) args ≡ [] → (words : List Word) → Includes (flat_map (λ word. inside (here ++ word.name ∷ []) name.name) words) →
              AllByRecursion (EntryIsRight text) (flat_map (λ word. instance_entries types bodies inside_entries here name.name args word.name) words)
          unfolding opening
          instance-right name args written fine [] includes = tt
          instance-right name args written fine (word ∷ words) includes =
              let acts : List Stmt = connections (body_of types bodies name.name) word.name args in
              let acts_right : AreRightHere acts = found-right args written word.name (find_name all_modules name.name) (find_name bodies name.name) (modules-found types all_modules all_constants all_modules bodies same_modules name.name) fine in
              let front : List Entry = map (λ act. statement (record { layer = None; instance = here; act = act })) acts in
              let rest : List Entry = flat_map (λ word. instance_entries types bodies inside_entries here name.name args word.name) words in
              let there : List Family = inside (here ++ word.name ∷ []) name.name in
              let others : List Family = flat_map (λ word. inside (here ++ word.name ∷ []) name.name) words in
              each_append (EntryIsRight text) (front ++ inside_entries (here ++ word.name ∷ []) name.name) rest
              (each_append (EntryIsRight text) front (inside_entries (here ++ word.name ∷ []) name.name)
              (each-map (StatementIsRight (scope_in text here) []) (EntryIsRight text) (λ act. statement (record { layer = None; instance = here; act = act })) (λ act h. h) acts acts_right)
              (inside_right (here ++ word.name ∷ []) name.name (λ p e. includes p (any-front p there others e))))
              (instance-right name args written fine words (λ p e. includes p (any-behind p there others e)))

          item-right : (part : Item) → ItemIsWritten part → in_item (scope_of m) [] part ≡ [] → Includes (families_of_item types bodies inside here part) → AllByRecursion (EntryIsRight text) (item_entries types bodies inside_entries here part)
          unfolding opening
          item-right (Declare role words of at) written fine includes = tt
          item-right (Instance words name args at) written fine includes = instance-right name args written fine words includes
          item-right (Layer name acts at) written fine includes = (
            tt,
            each-map (StatementIsRight (scope_in text here) []) (EntryIsRight text) (λ act. statement (record { layer = Some name.name; instance = here; act = act })) (λ act h. h) acts
                (body-right (scope_of m) (scope_in text here) signals-count own-are-families constants-listed acts written fine),
          )
          item-right (item.Forall' var over shape part at) written fine includes = whole-right inside_entries (item.Forall' var over shape part at) written fine
          item-right (item.Block' shape items) written fine includes = whole-right inside_entries (item.Block' shape items) written fine
          item-right (Claim name brackets e at) written fine includes = whole-right inside_entries (Claim name brackets e at) written fine
          item-right (Split name brackets of pairs at) written fine includes = (tt, tt)
          item-right (Using uses proves at) written fine includes = (tt, tt)
          item-right (Act act) written fine includes = whole-right inside_entries (Act act) written fine

          items-right : (items : List Item) → AllByRecursion ItemIsWritten items → flat_map (in_item (scope_of m) []) items ≡ [] → Includes (flat_map (families_of_item types bodies inside here) items) →
              AllByRecursion (EntryIsRight text) (flat_map (item_entries types bodies inside_entries here) items)
          unfolding opening
          items-right [] written fine includes = tt
          items-right (part ∷ items) written fine includes =
              let both = empty-both (in_item (scope_of m) [] part) (flat_map (in_item (scope_of m) []) items) fine in
              let there : List Family = families_of_item types bodies inside here part in
              let others : List Family = flat_map (families_of_item types bodies inside here) items in
              each_append (EntryIsRight text) (item_entries types bodies inside_entries here part) (flat_map (item_entries types bodies inside_entries here) items)
              (item-right part written.0 both.0 (λ p e. includes p (any-front p there others e))) (items-right items written.1 both.1 (λ p e. includes p (any-behind p there others e)))

    -- ---- instances

    entries-right : (k : ℕ) (here : Path) (name : Name) → Includes (families_in types bodies k here name) → AllByRecursion (EntryIsRight text) (entries_in types bodies k here name)
    unfolding opening
    entries-right zero here name includes = tt
    entries-right (suc k) here name includes =
        by_found (find_name all_modules name) (find_name bodies name) (modules-found types all_modules all_constants all_modules bodies same_modules name) includes (entries-right k)
      where
        by_found : (o : Option Module) (b : Option Body) → AreFound types all_modules all_constants o b → Includes (flat_map (families_of_item types bodies (families_in types bodies k) here) (unwrap_or b (record { formals = []; items = [] })).items) →
            ((there : Path) (name : Name) → Includes (families_in types bodies k there name) → AllByRecursion (EntryIsRight text) (entries_in types bodies k there name)) →
            AllByRecursion (EntryIsRight text) (flat_map (item_entries types bodies (entries_in types bodies k) here) (unwrap_or b (record { formals = []; items = [] })).items)
        by_found None None found includes inner = tt
        by_found None (Some body) found includes inner = absurd found
        by_found (Some m) None found includes inner = absurd found
        by_found (Some m) (Some body) found includes inner = items-right m body found here (families_in types bodies k) includes (entries_in types bodies k) inner body.items found.4 found.5 includes

    pub text-right : AllByRecursion (EntryIsRight text) (entries text)
    unfolding opening
    text-right = entries-right (length bodies) [] main (λ p e. e)
