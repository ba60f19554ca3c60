-- Each left side of a text without faults leads to a family with an index type for each of its indexes.
use Rattle.law_designs.proofs.Opening.{opening}
use Rattle.std.proofs.Common.{◌≡◌, ℕ, zero, suc, ◌+◌, ◌≤◌, List, [], ◌∷◌, ◌++◌, map, flat_map, length, zip, Option, Some, None, option_and_then, unwrap_or, true, refl, sym, ap, ◌∙◌, subst, arith}
use Rattle.std.specs.List.{AllByRecursion}
use Rattle.std.specs.Str.{bytes_eq}
use Rattle.std.proofs.lemmas.List.{append_assoc}
use Rattle.std.proofs.lemmas.Slice.Eq.{bytes_eq-Decides}
use Rattle.law_lists.proofs.Each.{each_append}
use Rattle.smv_core.specs.Values.{Name, Path}
use Rattle.smv_core.specs.Types as tree
use Rattle.smv_core.specs.Types.{Family, find_name, types_from}
use Rattle.smv_core.specs.FlatOrder.{Body, modules, main, role_of, body_of, families_of_item, families_in, design_of}
use Rattle.smv_core.specs.Outcome.{fields_of}
use Rattle.smv_core.specs.Walk.{indexes_of}
use Rattle.smv_core.specs.declared.tree.Word.{Word}
use Rattle.smv_core.specs.declared.tree.Text.{Text}
use Rattle.smv_core.specs.declared.tree.Role.{Role}
use Rattle.smv_core.specs.declared.tree.Role.TheVariants.{Plain, Abstract, Input, Output}
use Rattle.smv_core.specs.declared.tree.TypeExpr.{TypeExpr}
use Rattle.smv_core.specs.declared.tree.Path.{out-Path}
use Rattle.smv_core.specs.declared.tree.Part.{Part, Field, At}
use Rattle.smv_core.specs.declared.tree.Expr.{Expr, Signal', items-the_row-Part}
use Rattle.smv_core.specs.declared.tree.Stmt.{Stmt, Assign, Block', If', Switch', Default', For', Forall', Held-Stmt-If-2, Row_of-Stmt, end_of-Stmt, more_of-Stmt, Row_of-Arm, end_of-Arm, more_of-Arm}
use Rattle.smv_core.specs.declared.tree.Stmt as stmt
use Rattle.smv_core.specs.declared.tree.Item.{Item, Declare, Instance, Layer, Claim, Split, Using, Act, Row_of-Item, end_of-Item, more_of-Item}
use Rattle.smv_core.specs.declared.tree.Item as item
use Rattle.smv_mentions.specs.Mentions.{What, signal}
use Rattle.smv_mentions.specs.Mentions as mentions
use Rattle.smv_mentions.specs.Scopes.{Own, Constant, constants, pieces}
use Rattle.smv_mentions.specs.NameFaults.{is_port, is_port_if_own}
use Rattle.smv_mentions.proofs.Computing.{computing}
use Rattle.law_designs.specs.Kinds.{Kind, number, Operand, takes, takes_number, alike}
use Rattle.law_designs.specs.Types.{Whole, leads, value_kind, index_faults}
use Rattle.law_designs.specs.References as kinds
use Rattle.law_designs.specs.References.{Module, Vars, modules_from, behind, signal_at, reference}
use Rattle.law_designs.specs.Operands.{bind, operand, value, target}
use Rattle.law_designs.specs.KindFaults.{assigned, are_constant, gives, connected, in_arguments, in_stmt, in_block, in_branch, in_arms, labels, in_item, in_items}
use Rattle.law_designs.specs.Entries.{Entry, layer, statement, goal, inside_binder, connection, connections, instance_entries, item_entries, items_entries, entries_in, entries}
use Rattle.law_designs.specs.LeftSides.{HasFamily, LeadsToFamily, StatementLeads, StatementsLead, BranchLeads, ArmsLead, EntryLeads}
use Rattle.law_designs.specs.Written.{InnerIsWritten, InnersAreWritten, ItemIsWritten}
use Rattle.law_designs.proofs.Faultless.{empty-both, empty-three, each-map, reference-fine}
use Rattle.law_designs.proofs.Somewhere.{Somewhere, somewhere-more, somewhere-front, somewhere-behind, somewhere-place}
use Rattle.law_designs.proofs.LeadTypes.{kind_of, IsFamilyAt, behind-count}
use Rattle.law_designs.proofs.Statements.{mapped-length}
use Rattle.law_designs.proofs.OwnFamilies.{own_in, role-same, input-simple, own-reached}
use Rattle.law_designs.proofs.WrittenEntries.{chosen-fine}
use Rattle.law_designs.proofs.Modules.{IsModule, AreModules, AreFound, modules-found, modules-count}

-- as many index types as kinds
counted : (f : Family) (w : Whole) → map kind_of f.over ≡ w.over → length f.over ≡ length w.over
counted f w e = mapped-length kind_of f.over ∙ ap length e

-- ---- statements

module _ (text : Text) (instance : Path) (scope : kinds.Scope) (led : (parts : List Part) (w : Whole) → signal_at scope parts ≡ Some w → LeadsToFamily text instance parts) where
  mutual
    unfolding opening

    pub statement-whole : (vars : Vars) (act : Stmt) → in_stmt scope vars act ≡ [] → StatementLeads text instance act
    statement-whole vars (Assign kind left right at) fine =
        let both = empty-both (target scope vars left).faults (takes (target scope vars left).kind (value scope vars right)) fine in
        let r = reference-fine (out-Path left).at (signal_at scope (out-Path left).parts) (map (operand scope vars) (indexes_of (out-Path left).parts)) both.0 in
        led (out-Path left).parts r.0 r.1
    statement-whole vars (Block' shape parts) fine = statements-whole vars parts fine
    statement-whole vars (If' cond l (more_of-Stmt left end_of-Stmt) right at) fine =
        let all = empty-three (takes_number (operand scope vars cond)) (in_stmt scope vars left) (in_branch scope vars right) fine in
        (statement-whole vars left all.1, branch-whole vars right all.2)
    statement-whole vars (Switch' on shape arms other at) fine =
        let all = empty-three (alike (operand scope vars on ∷ labels scope vars arms)) (in_arms scope vars arms) (in_branch scope vars other) fine in
        (arms-whole vars arms all.1, branch-whole vars other all.2)
    statement-whole vars (Default' l (more_of-Stmt left end_of-Stmt) r (more_of-Stmt right end_of-Stmt) at) fine =
        let both = empty-both (in_stmt scope vars left) (in_stmt scope vars right) fine in
        (statement-whole vars left both.0, statement-whole vars right both.1)
    statement-whole vars (For' var from to closed step shape (more_of-Stmt body end_of-Stmt) at) fine = statement-whole ((var.name, number) ∷ vars) body fine
    statement-whole vars (Forall' var over shape (more_of-Stmt body end_of-Stmt) at) fine =
        statement-whole (bind scope vars var over) body (empty-both (index_faults scope.here.types over) (in_stmt scope (bind scope vars var over) body) fine).1

    statements-whole : {m : _} (vars : Vars) (row : Row_of-Stmt m) → in_block scope vars row ≡ [] → StatementsLead text instance row
    statements-whole vars end_of-Stmt fine = tt
    statements-whole vars (more_of-Stmt part rest) fine =
        let both = empty-both (in_stmt scope vars part) (in_block scope vars rest) fine in
        (statement-whole vars part both.0, statements-whole vars rest both.1)

    branch-whole : (vars : Vars) (held : Held-Stmt-If-2) → in_branch scope vars held ≡ [] → BranchLeads text instance held
    branch-whole vars stmt.None' fine = tt
    branch-whole vars (stmt.Some' shape (more_of-Stmt part end_of-Stmt)) fine = statement-whole vars part fine

    arms-whole : {m : _} (vars : Vars) (arms : Row_of-Arm m) → in_arms scope vars arms ≡ [] → ArmsLead text instance arms
    arms-whole vars end_of-Arm fine = tt
    arms-whole vars (more_of-Arm words body rest) fine =
        let both = empty-both (in_stmt scope vars body) (in_arms scope vars rest) fine in
        (statement-whole vars body both.0, arms-whole vars rest both.1)

  pub body-whole : (acts : List Stmt) → flat_map (in_stmt scope []) acts ≡ [] → AllByRecursion (StatementLeads text instance) acts
  unfolding opening
  body-whole [] fine = tt
  body-whole (act ∷ acts) fine =
      let both = empty-both (in_stmt scope [] act) (flat_map (in_stmt scope []) acts) fine in
      (statement-whole [] act both.0, body-whole acts both.1)

module _ (text : Text) where
  abbrev pub types : tree.Types
  types = types_from [] text.tops

  abbrev pub bodies : List (Name × Body)
  bodies = modules text.tops

  abbrev pub all_modules : List (Name × Module)
  all_modules = modules_from [] text.tops

  abbrev pub all_constants : List (Name × Constant)
  all_constants = constants (pieces text)

  abbrev pub scope_of : Module → kinds.Scope
  scope_of m = record { modules = all_modules; constants = all_constants; here = m }

  abbrev pub IsModuleHere : Module → Body → Type 0
  IsModuleHere m body = IsModule types all_modules all_constants m body

  -- what is somewhere among these families is somewhere among those of the text
  abbrev pub Includes : List Family → Type 0
  Includes fs = (path : Path) (w : Whole) → Somewhere (IsFamilyAt path w) fs → Somewhere (IsFamilyAt path w) (design_of text).families

  -- with each bound on chains of instances that is great enough
  abbrev pub IncludesAll : ℕ → Path → Name → Type 0
  IncludesAll k here name = (n : ℕ) → Includes (families_in types bodies (k + n) here name)

  abbrev EntryIsWhole : Entry → Type 0
  EntryIsWhole e = EntryLeads text e

  inside-whole : (var : Word) (over : TypeExpr) (e : Entry) → EntryIsWhole e → EntryIsWhole (inside_binder var over e)
  unfolding opening computing
  inside-whole var over (layer name) h = tt
  inside-whole var over (statement x) h = h
  inside-whole var over (goal instance binders g) h = tt

  module _ (same_modules : AreModules types all_modules all_constants all_modules bodies) where
    -- ---- what a path leads to

    path-joined : (here : Path) (word : Word) (name other : Name) (rest path : Path) → bytes_eq word.name name ≡ true → path ≡ (here ++ word.name ∷ []) ++ other ∷ rest → path ≡ here ++ name ∷ other ∷ rest
    unfolding opening
    path-joined here word name other rest path e h = h ∙ append_assoc here (word.name ∷ []) (other ∷ rest) ∙ ap (λ n. here ++ n ∷ other ∷ rest) ((bytes_eq-Decides word.name name).0 e)

    -- with this bound on chains of instances the instance of a module that a path goes into has the family to which it leads
    abbrev pub IsInside : ℕ → List Part → Type 0
    IsInside n parts = (types_here : _) (module_name word : Word) (here : Path) (name : Name) → bytes_eq word.name name ≡ true → (w : Whole) → behind all_modules types_here (mentions.instance module_name) parts ≡ Some w →
        Somewhere (IsFamilyAt (here ++ name ∷ fields_of parts) w) (families_in types bodies n (here ++ word.name ∷ []) module_name.name)

    -- then so has each instance of a module in which the path begins
    pub reached : (n : ℕ) (parts : List Part) → IsInside n parts → (m : Module) (body : Body) → IsModuleHere m body → (here : Path) (name : Name) (own : Own) → find_name m.own name ≡ Some own →
        (w : Whole) → behind all_modules m.types own.what parts ≡ Some w → Somewhere (IsFamilyAt (here ++ name ∷ fields_of parts) w) (flat_map (families_of_item types bodies (families_in types bodies n) here) body.items)
    unfolding opening
    reached n parts inside m body good here name own found w h =
        own-reached name types bodies (families_in types bodies n) here (scope_of m) good.0 own parts w h
        (λ module_name e word same. inside m.types module_name word here name same w (subst (λ what. behind all_modules m.types what parts ≡ Some w) e h)) body.items good.4 good.5
        (subst (λ l. find_name l name ≡ Some own) good.3 found)

    module _ (n : ℕ) (word other : Word) (here : Path) (name : Name) (parts : List Part) (same : bytes_eq word.name name ≡ true) (inside : IsInside n parts) (w : Whole) where
      abbrev IsThere : List Item → Type 0
      IsThere items = Somewhere (IsFamilyAt (here ++ name ∷ other.name ∷ fields_of parts) w) (flat_map (families_of_item types bodies (families_in types bodies n) (here ++ word.name ∷ [])) items)

      own-inside : (inner : Module) (body : Body) → IsModuleHere inner body → (o : Option Own) → find_name inner.own other.name ≡ o → option_and_then (λ (own : Own). behind all_modules inner.types own.what parts) o ≡ Some w → IsThere body.items
      unfolding opening
      own-inside inner body good None e h = absurd (cc (h))
      own-inside inner body good (Some own) e h =
          somewhere-more (IsFamilyAt ((here ++ word.name ∷ []) ++ other.name ∷ fields_of parts) w) (IsFamilyAt (here ++ name ∷ other.name ∷ fields_of parts) w)
          (λ f at. (path-joined here word name other.name (fields_of parts) f.path same at.0, at.1, at.2)) (flat_map (families_of_item types bodies (families_in types bodies n) (here ++ word.name ∷ [])) body.items)
          (reached n parts inside inner body good (here ++ word.name ∷ []) other.name own e w h)

      module-inside : (o : Option Module) (b : Option Body) → AreFound types all_modules all_constants o b →
          option_and_then (λ (m : Module). option_and_then (λ (own : Own). behind all_modules m.types own.what parts) (find_name m.own other.name)) o ≡ Some w → IsThere (unwrap_or b (record { formals = []; items = [] })).items
      unfolding opening
      module-inside None b found h = absurd (cc (h))
      module-inside (Some inner) None found h = absurd found
      module-inside (Some inner) (Some body) found h = own-inside inner body found (find_name inner.own other.name) refl h

    pub inside : (n : ℕ) (parts : List Part) → length parts ≤ n → IsInside n parts
    unfolding opening
    inside n [] le types_here module_name word here name same w h = absurd (cc (h))
    inside n (At e ∷ parts) le types_here module_name word here name same w h = absurd (cc (h))
    inside zero (Field other ∷ parts) le types_here module_name word here name same w h = absurd (omega (arith, le))
    inside (suc n) (Field other ∷ parts) le types_here module_name word here name same w h =
        module-inside n word other here name parts same (inside n parts (omega (arith, le))) w (find_name all_modules module_name.name) (find_name bodies module_name.name)
        (modules-found types all_modules all_constants all_modules bodies same_modules module_name.name) h

    module _ (m : Module) (body : Body) (good : IsModuleHere m body) (here : Path) (bound : ℕ)
        (includes : (n : ℕ) → Includes (flat_map (families_of_item types bodies (families_in types bodies (bound + n)) here) body.items)) where
      at_least : (n : ℕ) → n ≤ bound + n
      at_least n = omega arith

      -- a whole signal is a family of the text, whose types have its kinds
      pub signal-there : (parts : List Part) (w : Whole) → signal_at (scope_of m) parts ≡ Some w → Somewhere (IsFamilyAt (here ++ fields_of parts) w) (design_of text).families × (length w.over ≡ length (indexes_of parts))
      unfolding opening
      signal-there [] w h = absurd (cc (h))
      signal-there (At e ∷ parts) w h = absurd (cc (h))
      signal-there (Field word ∷ parts) w h = by_own (find_name m.own word.name) refl h
        where
          by_own : (o : Option Own) → find_name m.own word.name ≡ o → option_and_then (λ (own : Own). behind all_modules m.types own.what parts) o ≡ Some w →
              Somewhere (IsFamilyAt (here ++ word.name ∷ fields_of parts) w) (design_of text).families × (length w.over ≡ length (indexes_of parts))
          by_own None e h = absurd (cc (h))
          by_own (Some own) e h = (
            includes (length parts) (here ++ word.name ∷ fields_of parts) w (reached (bound + length parts) parts (inside (bound + length parts) parts (at_least (length parts))) m body good here word.name own e w h),
            behind-count all_modules (modules-count types all_modules all_constants all_modules bodies same_modules) m.types good.1 own.what parts w h,
          )

      signal-leads : (parts : List Part) (w : Whole) → signal_at (scope_of m) parts ≡ Some w → LeadsToFamily text here parts
      signal-leads parts w h =
          let own = signal-there parts w h in
          let there = somewhere-place (IsFamilyAt (here ++ fields_of parts) w) (design_of text).families own.0 in
          (there.0, there.1, there.2, there.3.0, counted there.1 w there.3.1 ∙ own.1)

      -- ---- items inside binders

      module _ (inside_entries : Path → Name → List Entry) where
        mutual
          unfolding opening

          inner-whole : (vars : Vars) (part : Item) → InnerIsWritten part → in_item (scope_of m) vars part ≡ [] → AllByRecursion EntryIsWhole (item_entries types bodies inside_entries here part)
          inner-whole vars (Declare role words of at) written fine = absurd written
          inner-whole vars (Instance words name args at) written fine = absurd written
          inner-whole vars (Layer name acts at) written fine = absurd written
          inner-whole vars (item.Forall' var over shape (more_of-Item part end_of-Item) at) written fine =
              let both = empty-both (index_faults m.types over) (in_item (scope_of m) (bind (scope_of m) vars var over) part) fine in
              each-map EntryIsWhole EntryIsWhole (inside_binder var over) (inside-whole var over) (item_entries types bodies inside_entries here part) (inner-whole (bind (scope_of m) vars var over) part written.0 both.1)
          inner-whole vars (item.Block' shape items) written fine = inners-whole vars items written fine
          inner-whole vars (Claim name brackets e at) written fine = (tt, tt)
          inner-whole vars (Split name brackets of pairs at) written fine = (tt, tt)
          inner-whole vars (Using uses proves at) written fine = (tt, tt)
          inner-whole vars (Act act) written fine = (statement-whole text here (scope_of m) signal-leads vars act fine, tt)

          inners-whole : {k : _} (vars : Vars) (items : Row_of-Item k) → InnersAreWritten items → in_items (scope_of m) vars items ≡ [] → AllByRecursion EntryIsWhole (items_entries types bodies inside_entries here items)
          inners-whole vars end_of-Item written fine = tt
          inners-whole vars (more_of-Item part rest) written fine =
              let both = empty-both (in_item (scope_of m) vars part) (in_items (scope_of m) vars rest) fine in
              each_append EntryIsWhole (item_entries types bodies inside_entries here part) (items_entries types bodies inside_entries here rest) (inner-whole vars part written.0 both.0) (inners-whole vars rest written.1 both.1)

      -- ---- connections

      abbrev AreWholeHere : List Stmt → Type 0
      AreWholeHere acts = AllByRecursion (StatementLeads text here) acts

      given-whole : (n a : Name) (kind : Kind) (e : Expr) → gives (scope_of m) kind e ≡ [] → AreWholeHere (connection Output n a e)
      unfolding opening computing
      given-whole n a kind (Signal' shape parts at) fine =
          let path : List Part = items-the_row-Part _ parts in
          let left : Operand = reference at (signal_at (scope_of m) path) (map (operand (scope_of m) []) (indexes_of path)) in
          let both = empty-both left.faults (takes left.kind (record { kind = kind; at = left.at; faults = [] })) (chosen-fine (are_constant path) (assigned left (record { kind = kind; at = left.at; faults = [] })) [] (record { number = 12; at = left.at }) fine) in
          let r = reference-fine at (signal_at (scope_of m) path) (map (operand (scope_of m) []) (indexes_of path)) both.0 in
          (signal-leads path r.0 r.1, tt)
      given-whole n a kind _ fine = tt

      -- the formal of an input, in its instance
      abbrev FormalLeads : Name → Name → Type 0
      FormalLeads n a = HasFamily text (here ++ n ∷ a ∷ []) 0

      input-whole : (n a : Name) (e : Expr) → FormalLeads n a → AreWholeHere (connection Input n a e)
      unfolding opening computing
      input-whole n a e leads = (leads, tt)

      module _ (inner : Module) (inner_body : Body) (inner_good : IsModuleHere inner inner_body) (n : Name)
          (formal_leads : (a : Name) (w : Whole) (at : ℕ) (of : TypeExpr) → find_name inner.own a ≡ Some (record { at = at; what = signal Input of }) → leads inner.types of [] ≡ Some w → FormalLeads n a) where
        abbrev connection_of : Name → Expr → List Stmt
        connection_of a e = connection (role_of inner_body.items a) n a e

        port-whole : (a : Name) (e : Expr) (at : ℕ) (what : What) → find_name (own_in inner_body.items) a ≡ Some (record { at = at; what = what }) → is_port what ≡ true →
            connected (scope_of m) inner.types (Some (record { at = at; what = what })) e ≡ [] → AreWholeHere (connection_of a e)
        unfolding opening
        port-whole a e at (signal Input of) found port fine =
            let simple = input-simple a (scope_of inner) of inner_body.items inner_good.4 inner_good.5 at found in
            subst (λ role. AreWholeHere (connection role n a e)) (sym (role-same a inner_body.items inner_good.4 (record { at = at; what = signal Input of }) tt found))
            (input-whole n a e (formal_leads a simple.0 at of (subst (λ l. find_name l a ≡ Some (record { at = at; what = signal Input of })) (sym inner_good.3) found) simple.1))
        port-whole a e at (signal Output of) found port fine =
            subst (λ role. AreWholeHere (connection role n a e)) (sym (role-same a inner_body.items inner_good.4 (record { at = at; what = signal Output of }) tt found)) (given-whole n a (value_kind (leads inner.types of [])) e fine)
        port-whole a e at (signal Plain of) found port fine = absurd (cc (port))
        port-whole a e at (signal Abstract of) found port fine = absurd (cc (port))
        port-whole a e at (mentions.instance name) found port fine = absurd (cc (port))
        port-whole a e at mentions.goal found port fine = absurd (cc (port))

        connection-whole : (a : Name) (e : Expr) (o : Option Own) → find_name (own_in inner_body.items) a ≡ o → is_port_if_own o ≡ true → connected (scope_of m) inner.types o e ≡ [] → AreWholeHere (connection_of a e)
        unfolding opening
        connection-whole a e None found port fine = absurd (cc (port))
        connection-whole a e (Some own) found port fine = port-whole a e own.at own.what found port fine

        zipped-whole : (formals : List Word) (args : List Expr) → AllByRecursion (λ (word : Word). is_port_if_own (find_name (own_in inner_body.items) word.name) ≡ true) formals →
            flat_map (λ (word, e). connected (scope_of m) inner.types (find_name (own_in inner_body.items) word.name) e) (zip formals args) ≡ [] →
            AreWholeHere (flat_map (λ (word, e). connection (role_of inner_body.items word.name) n word.name e) (zip formals args))
        unfolding opening
        zipped-whole [] args ports fine = tt
        zipped-whole (word ∷ formals) [] ports fine = tt
        zipped-whole (word ∷ formals) (e ∷ args) ports fine =
            let both = empty-both (connected (scope_of m) inner.types (find_name (own_in inner_body.items) word.name) e)
            (flat_map (λ (word, e). connected (scope_of m) inner.types (find_name (own_in inner_body.items) word.name) e) (zip formals args)) fine in
            each_append (StatementLeads text here) (connection_of word.name e) (flat_map (λ (word, e). connection (role_of inner_body.items word.name) n word.name e) (zip formals args))
            (connection-whole word.name e (find_name (own_in inner_body.items) word.name) refl ports.0 both.0) (zipped-whole formals args ports.1 both.1)

        connections-whole : (args : List Expr) → in_arguments (scope_of m) (Some inner) args ≡ [] → AreWholeHere (connections inner_body n args)
        unfolding opening
        connections-whole args fine =
            let formals_fine : flat_map (λ (word, e). connected (scope_of m) inner.types (find_name inner.own word.name) e) (zip inner_body.formals args) ≡ [] =
            subst (λ fs. flat_map (λ (word, e). connected (scope_of m) inner.types (find_name inner.own word.name) e) (zip fs args) ≡ []) inner_good.2 fine in
            let own_fine : flat_map (λ (word, e). connected (scope_of m) inner.types (find_name (own_in inner_body.items) word.name) e) (zip inner_body.formals args) ≡ [] =
            subst (λ own. flat_map (λ (word, e). connected (scope_of m) inner.types (find_name own word.name) e) (zip inner_body.formals args) ≡ []) inner_good.3 formals_fine in
            let formal_ports : AllByRecursion (λ (word : Word). is_port_if_own (find_name inner.own word.name) ≡ true) inner_body.formals =
            subst (AllByRecursion (λ (word : Word). is_port_if_own (find_name inner.own word.name) ≡ true)) inner_good.2 inner_good.6 in
            let own_ports : AllByRecursion (λ (word : Word). is_port_if_own (find_name (own_in inner_body.items) word.name) ≡ true) inner_body.formals =
            subst (λ own. AllByRecursion (λ (word : Word). is_port_if_own (find_name own word.name) ≡ true) inner_body.formals) inner_good.3 formal_ports in
            zipped-whole inner_body.formals args own_ports own_fine

      -- the formals of an instance are families of its module
      module _ (name n : Name) (includes_there : (k : ℕ) → Includes (families_in types bodies (bound + k) (here ++ n ∷ []) name)) where
        pub formal-there : (inner : Module) (inner_body : Body) → IsModuleHere inner inner_body → find_name bodies name ≡ Some inner_body → (a : Name) (w : Whole) (at : ℕ) (role : Role) (of : TypeExpr) →
            find_name inner.own a ≡ Some (record { at = at; what = signal role of }) → leads inner.types of [] ≡ Some w → Somewhere (IsFamilyAt (here ++ n ∷ a ∷ []) w) (design_of text).families × (length w.over ≡ 0)
        unfolding opening
        formal-there inner inner_body inner_good found_body a w at role of found h =
            let there : Path = here ++ n ∷ [] in
            let own : Own = record { at = at; what = signal role of } in
            let items_of : Option Body → List Item = λ b. (unwrap_or b (record { formals = []; items = [] })).items in
            let one_more : bound + 1 ≡ suc bound = omega arith in
            let same : families_in types bodies (bound + 1) there name ≡ flat_map (families_of_item types bodies (families_in types bodies bound) there) inner_body.items =
            ap (λ k. families_in types bodies k there name) one_more ∙ ap (λ b. flat_map (families_of_item types bodies (families_in types bodies bound) there) (items_of b)) found_body in
            let shallow : 0 ≤ bound = omega arith in
            let own_family = reached bound [] (inside bound [] shallow) inner inner_body inner_good there a own found w h in (
              subst (λ path. Somewhere (IsFamilyAt path w) (design_of text).families) (append_assoc here (n ∷ []) (a ∷ []))
                  (includes_there 1 (there ++ a ∷ []) w (subst (Somewhere (IsFamilyAt (there ++ a ∷ []) w)) (sym same) own_family)),
              behind-count all_modules (modules-count types all_modules all_constants all_modules bodies same_modules) inner.types inner_good.1 own.what [] w h,
            )

        formal-leads : (inner : Module) (inner_body : Body) → IsModuleHere inner inner_body → find_name bodies name ≡ Some inner_body → (a : Name) (w : Whole) (at : ℕ) (of : TypeExpr) →
            find_name inner.own a ≡ Some (record { at = at; what = signal Input of }) → leads inner.types of [] ≡ Some w → FormalLeads n a
        formal-leads inner inner_body inner_good found_body a w at of found h =
            let own = formal-there inner inner_body inner_good found_body a w at Input of found h in
            let r = somewhere-place (IsFamilyAt (here ++ n ∷ a ∷ []) w) (design_of text).families own.0 in
            (r.0, r.1, r.2, r.3.0, counted r.1 w r.3.1 ∙ own.1)

        found-whole : (args : List Expr) (o : Option Module) (b : Option Body) → find_name bodies name ≡ b → AreFound types all_modules all_constants o b → in_arguments (scope_of m) o args ≡ [] →
            AreWholeHere (connections (unwrap_or b (record { formals = []; items = [] })) n args)
        unfolding opening
        found-whole args None None e found fine = tt
        found-whole args None (Some b) e found fine = absurd found
        found-whole args (Some inner) None e found fine = absurd found
        found-whole args (Some inner) (Some inner_body) e found fine = connections-whole inner inner_body found n (λ a w at of. formal-leads inner inner_body found e a w at of) args fine

      -- ---- items

      module _ (inside_entries : Path → Name → List Entry) (inside_whole : (there : Path) (name : Name) → IncludesAll bound there name → AllByRecursion EntryIsWhole (inside_entries there name)) where
        instance-whole : (name : Word) (args : List Expr) → in_arguments (scope_of m) (find_name all_modules name.name) args ≡ [] → (words : List Word) →
            ((k : ℕ) → Includes (flat_map (λ word. families_in types bodies (bound + k) (here ++ word.name ∷ []) name.name) words)) →
            AllByRecursion EntryIsWhole (flat_map (λ word. instance_entries types bodies inside_entries here name.name args word.name) words)
        unfolding opening
        instance-whole name args fine [] includes = tt
        instance-whole name args fine (word ∷ words) includes =
            let there : ℕ → List Family = λ k. families_in types bodies (bound + k) (here ++ word.name ∷ []) name.name in
            let others : ℕ → List Family = λ k. flat_map (λ word. families_in types bodies (bound + k) (here ++ word.name ∷ []) name.name) words in
            let includes_there : (k : ℕ) → Includes (there k) = λ k path w e. includes k path w (somewhere-front (IsFamilyAt path w) (there k) (others k) e) in
            let acts : List Stmt = connections (body_of types bodies name.name) word.name args in
            let acts_whole : AreWholeHere acts = found-whole name.name word.name includes_there args (find_name all_modules name.name) (find_name bodies name.name) refl (modules-found types all_modules all_constants all_modules bodies same_modules name.name) fine in
            let front : List Entry = map (λ act. statement (record { layer = None; instance = here; act = act })) acts in
            let rest : List Entry = flat_map (λ word. instance_entries types bodies inside_entries here name.name args word.name) words in
            each_append EntryIsWhole (front ++ inside_entries (here ++ word.name ∷ []) name.name) rest
            (each_append EntryIsWhole front (inside_entries (here ++ word.name ∷ []) name.name)
            (each-map (StatementLeads text here) EntryIsWhole (λ act. statement (record { layer = None; instance = here; act = act })) (λ act h. h) acts acts_whole)
            (inside_whole (here ++ word.name ∷ []) name.name includes_there))
            (instance-whole name args fine words (λ k path w e. includes k path w (somewhere-behind (IsFamilyAt path w) (there k) (others k) e)))

        item-whole : (part : Item) → ItemIsWritten part → in_item (scope_of m) [] part ≡ [] → ((k : ℕ) → Includes (families_of_item types bodies (families_in types bodies (bound + k)) here part)) →
            AllByRecursion EntryIsWhole (item_entries types bodies inside_entries here part)
        unfolding opening
        item-whole (Declare role words of at) written fine includes = tt
        item-whole (Instance words name args at) written fine includes = instance-whole name args fine words includes
        item-whole (Layer name acts at) written fine includes =
            (tt, each-map (StatementLeads text here) EntryIsWhole (λ act. statement (record { layer = Some name.name; instance = here; act = act })) (λ act h. h) acts (body-whole text here (scope_of m) signal-leads acts fine))
        item-whole (item.Forall' var over shape part at) written fine includes = inner-whole inside_entries [] (item.Forall' var over shape part at) written fine
        item-whole (item.Block' shape items) written fine includes = inner-whole inside_entries [] (item.Block' shape items) written fine
        item-whole (Claim name brackets e at) written fine includes = (tt, tt)
        item-whole (Split name brackets of pairs at) written fine includes = (tt, tt)
        item-whole (Using uses proves at) written fine includes = (tt, tt)
        item-whole (Act act) written fine includes = inner-whole inside_entries [] (Act act) written fine

        items-whole : (items : List Item) → AllByRecursion ItemIsWritten items → flat_map (in_item (scope_of m) []) items ≡ [] →
            ((k : ℕ) → Includes (flat_map (families_of_item types bodies (families_in types bodies (bound + k)) here) items)) → AllByRecursion EntryIsWhole (flat_map (item_entries types bodies inside_entries here) items)
        unfolding opening
        items-whole [] written fine includes = tt
        items-whole (part ∷ items) written fine includes =
            let both = empty-both (in_item (scope_of m) [] part) (flat_map (in_item (scope_of m) []) items) fine in
            let there : ℕ → List Family = λ k. families_of_item types bodies (families_in types bodies (bound + k)) here part in
            let others : ℕ → List Family = λ k. flat_map (families_of_item types bodies (families_in types bodies (bound + k)) here) items in
            each_append EntryIsWhole (item_entries types bodies inside_entries here part) (flat_map (item_entries types bodies inside_entries here) items)
            (item-whole part written.0 both.0 (λ k path w e. includes k path w (somewhere-front (IsFamilyAt path w) (there k) (others k) e)))
            (items-whole items written.1 both.1 (λ k path w e. includes k path w (somewhere-behind (IsFamilyAt path w) (there k) (others k) e)))

    -- ---- instances

    entries-whole : (k : ℕ) (here : Path) (name : Name) → IncludesAll k here name → AllByRecursion EntryIsWhole (entries_in types bodies k here name)
    unfolding opening
    entries-whole zero here name includes = tt
    entries-whole (suc k) here name includes =
        by_found (find_name all_modules name) (find_name bodies name) (modules-found types all_modules all_constants all_modules bodies same_modules name) (λ n. includes_one n) (entries-whole k)
      where
        items_of : Option Body → List Item
        items_of b = (unwrap_or b (record { formals = []; items = [] })).items

        includes_one : (n : ℕ) → Includes (flat_map (families_of_item types bodies (families_in types bodies (k + n)) here) (items_of (find_name bodies name)))
        includes_one n = let same : suc k + n ≡ suc (k + n) = omega arith in subst (λ j. Includes (families_in types bodies j here name)) same (includes n)

        by_found : (o : Option Module) (b : Option Body) → AreFound types all_modules all_constants o b → ((n : ℕ) → Includes (flat_map (families_of_item types bodies (families_in types bodies (k + n)) here) (items_of b))) →
            ((there : Path) (name : Name) → IncludesAll k there name → AllByRecursion EntryIsWhole (entries_in types bodies k there name)) → AllByRecursion EntryIsWhole (flat_map (item_entries types bodies (entries_in types bodies k) here) (items_of b))
        by_found None None found includes inner = tt
        by_found None (Some body) found includes inner = absurd found
        by_found (Some m) None found includes inner = absurd found
        by_found (Some m) (Some body) found includes inner = items-whole m body found here k includes (entries_in types bodies k) inner body.items found.4 found.5 includes

    pub text-whole : (deep : (n : ℕ) → length bodies ≤ n → families_in types bodies n [] main ≡ families_in types bodies (length bodies) [] main) → AllByRecursion EntryIsWhole (entries text)
    unfolding opening
    text-whole deep = entries-whole (length bodies) [] main (λ n path w e. subst (Somewhere (IsFamilyAt path w)) (deep (length bodies + n) (omega arith)) e)
