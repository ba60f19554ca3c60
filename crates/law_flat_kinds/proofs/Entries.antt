-- All that a text without faults says keeps the kinds of the flattened text.
use Rattle.law_designs.proofs.Opening.{opening}
use Rattle.std.proofs.Common.{◌≡◌, ℕ, zero, suc, ◌+◌, ◌≤◌, List, [], ◌∷◌, ◌++◌, map, flat_map, length, Option, Some, None, unwrap_or, refl, sym, ap, ◌∙◌, subst, append_assoc, true, arith}
use Rattle.std.specs.List.{AllByRecursion}
use Rattle.law_lists.proofs.Each.{each_append}
use Rattle.smv_core.specs.Values.{Name, Path}
use Rattle.smv_core.specs.Types.{Family, find_name}
use Rattle.smv_core.specs.FlatOrder.{Body, main, body_of, families_of_item, families_in, design_of}
use Rattle.smv_core.specs.Outcome.{fields_of, family_at}
use Rattle.smv_core.specs.declared.tree.Word.{Word}
use Rattle.smv_core.specs.declared.tree.Text.{Text}
use Rattle.smv_core.specs.declared.tree.TypeExpr.{TypeExpr}
use Rattle.smv_core.specs.declared.tree.Expr.{Expr}
use Rattle.smv_core.specs.declared.tree.Stmt.{Stmt}
use Rattle.smv_core.specs.declared.tree.Item.{Item, Declare, Instance, Layer, Claim, Split, Using, Act}
use Rattle.smv_core.specs.declared.tree.Item as item
use Rattle.smv_mentions.specs.Mentions as said
use Rattle.law_designs.specs.References.{Module}
use Rattle.law_designs.specs.KindFaults.{in_arguments, in_stmt, in_item}
use Rattle.law_designs.specs.FlatKinds.{keeps_kinds}
use Rattle.law_designs.specs.Statements.{flat_stmt}
use Rattle.law_designs.specs.Entries.{Entry, statement, connections, instance_entries, item_entries, entries_in, entries}
use Rattle.law_designs.specs.Flattening.{flatten, scope_in}
use Rattle.law_designs.specs.Agreement.{IsIndexType, numbers_in}
use Rattle.law_designs.proofs.Numbered.{RunsOver}
use Rattle.law_designs.proofs.SameFamilies.{families-same}
use Rattle.law_designs.specs.Written.{AreWritten, StatementIsWritten, ItemIsWritten}
use Rattle.law_designs.proofs.Faultless.{empty-both, each-front, each-behind, each-map}
use Rattle.law_designs.proofs.Somewhere.{somewhere-front, somewhere-behind}
use Rattle.law_designs.proofs.LeadTypes.{IsFamilyAt}
use Rattle.law_designs.proofs.Modules.{AreModules, AreFound, modules-found}
use Rattle.law_designs.proofs.LeftSides.{types, bodies, all_modules, all_constants, scope_of, IsModuleHere, Includes, IncludesAll, signal-there, formal-there}
use Rattle.law_obligations.specs.Sets.{Has, first}
use Rattle.law_obligations.proofs.Members.{Has-left, Has-right}
use Rattle.law_obligations.proofs.OneOfEach.{Has-from_flat_map}
use Rattle.law_flat_kinds.specs.FamiliesFound.{FamiliesAreFound}
use Rattle.law_flat_kinds.proofs.FamiliesFound.{Once, AreFine, IsBehind, AreBehind, AllApart, BodyIsFine, own_words, AreThere, once-left, once-right, once-apart, items-once, item-behind, items-behind, families-there, own-fine}
use Rattle.law_flat_kinds.proofs.Relation.{IsKind, flat_kind}
use Rattle.law_flat_kinds.proofs.Variables.{SignalsAreKinded, ConstantsAreKinded, IndexesAreKinded, AreApart}
use Rattle.law_flat_kinds.proofs.Statements.{statement-keeps}
use Rattle.law_flat_kinds.proofs.Only.{OwnsBehind, Owns, owns-parts, owns-words, owns-one, constant-no_family}
use Rattle.law_flat_kinds.proofs.Families.{TableIsFit, index-fit, over-kept, family-kinded}
use Rattle.law_flat_kinds.proofs.Constants.{constant-kinded}
use Rattle.law_flat_kinds.proofs.Connections.{EntryKeeps, AreKept, inner-keeps, connections-keep}

module _ (text : Text) (found : FamiliesAreFound text) (table : TableIsFit (types text)) (numbered : (over : TypeExpr) → IsIndexType over → RunsOver (scope_in text []) (numbers_in text (λ name. 0)) over) (apart : AllApart (types text))
    (bodies_fine : (entry : Name × Body) → Has (bodies text) entry → BodyIsFine (types text) apart (bodies text) entry.1) (same_modules : AreModules (types text) (all_modules text) (all_constants text) (all_modules text) (bodies text)) where
  abbrev families : List Family
  families = (design_of text).families

  abbrev inside_families : ℕ → Path → Name → List Family
  inside_families k here name = families_in (types text) (bodies text) k here name

  abbrev of_item : ℕ → Path → Item → List Family
  of_item k here part = families_of_item (types text) (bodies text) (families_in (types text) (bodies text) k) here part

  there : (k : ℕ) → AreThere (types text) apart (bodies text) (families_in (types text) (bodies text) k)
  there k = families-there (types text) apart (bodies text) bodies_fine k

  abbrev Keeps : Entry → Type 0
  Keeps e = EntryKeeps text [] [] e

  -- ---- in an instance

  module _ (m : Module) (body : Body) (good : IsModuleHere text m body) (fine_here : BodyIsFine (types text) apart (bodies text) body) (here : Path) (bound : ℕ) (includes : (n : ℕ) → Includes text (flat_map (of_item (bound + n) here) body.items))
      (owns : Owns families here (flat_map (of_item bound here) body.items)) where
    signals : SignalsAreKinded (flatten text) (scope_of text m) (scope_in text here)
    signals parts w h =
        let s = signal-there text same_modules m body good here bound includes parts w h in
        let f = family-kinded text found here (here ++ fields_of parts) w s.0 in
        (f.0, f.1, f.2, f.3, f.4, f.5, f.6, s.1)

    named : ConstantsAreKinded (flatten text) (scope_of text m) (scope_in text here)
    named name c e = (
      ap (λ fs. family_at fs (here ++ name ∷ [])) (families-same text)
          ∙ constant-no_family families (types text) apart (bodies text) bodies_fine bound here body.items fine_here owns m.own (all_constants text) good.7 name c e,
      λ vars at. constant-kinded text here name c e vars at,
    )

    over_kinded : IndexesAreKinded (flatten text) (scope_of text m) (scope_in text here)
    over_kinded over i fine =
        let t = index-fit m.types (types text) good.0 table over i fine in
        let k = over-kept text (λ name. 0) here over t.0 t.1 t.3 (numbered over i) in
        (k.0, k.1 ∙ ap (flat_kind (scope_in text here)) (sym t.2), subst IsKind (sym t.2) k.2)

    abbrev Apart : List said.Mention → Type 0
    Apart ms = AreApart (flatten text) (scope_of text m) (scope_in text here) ms

    body-keeps : (acts : List Stmt) → AllByRecursion StatementIsWritten acts → Apart (flat_map (said.in_stmt []) acts) → flat_map (in_stmt (scope_of text m) []) acts ≡ [] → AreKept text m here signals named over_kinded acts
    body-keeps [] written free fine = tt
    body-keeps (act ∷ acts) written free fine =
        let both = empty-both (in_stmt (scope_of text m) [] act) (flat_map (in_stmt (scope_of text m) []) acts) fine in (
          statement-keeps (flatten text) (scope_of text m) (scope_in text here) signals named over_kinded [] [] [] tt act written.0 (each-front _ (said.in_stmt [] act) (flat_map (said.in_stmt []) acts) free) both.0,
          body-keeps acts written.1 (each-behind _ (said.in_stmt [] act) (flat_map (said.in_stmt []) acts) free) both.1,
        )

    -- the connections of an instance
    found-keeps : (name : Name) (n : Name) → ((k : ℕ) → Includes text (inside_families (bound + k) (here ++ n ∷ []) name)) → (args : List Expr) → AreWritten args → Apart (flat_map (said.in_expr []) args) → (o : Option Module) (b : Option Body) →
        find_name (bodies text) name ≡ b → AreFound (types text) (all_modules text) (all_constants text) o b → in_arguments (scope_of text m) o args ≡ [] → AreKept text m here signals named over_kinded (connections (unwrap_or b (record { formals = []; items = [] })) n args)
    unfolding opening
    found-keeps name n includes_there args written free None None e f fine = tt
    found-keeps name n includes_there args written free None (Some b) e f fine = absurd f
    found-keeps name n includes_there args written free (Some inner) None e f fine = absurd f
    found-keeps name n includes_there args written free (Some inner) (Some inner_body) e f fine =
        connections-keep text m here signals named over_kinded inner inner_body f n
        (λ a w at role of g h. let own = formal-there text same_modules m body good here bound includes name n includes_there inner inner_body f e a w at role of g h in (family-kinded text found here (here ++ n ∷ a ∷ []) w own.0, own.1)) args written free fine

    -- ---- items

    module _ (inside_entries : Path → Name → List Entry) (inside_keeps : (there : Path) (name : Name) → IncludesAll text bound there name → Owns families there (inside_families bound there name) → AllByRecursion Keeps (inside_entries there name)) where
      word-behind : (name word : Word) (f : Family) → Has (inside_families bound (here ++ word.name ∷ []) name.name) f → IsBehind here word.name f
      word-behind name word f i = let r = ((there bound) (here ++ word.name ∷ []) name.name).1 f i in (r.0, r.1 ∙ append_assoc here (word.name ∷ []) r.0)

      one-behind : (name word : Word) → AreBehind here (word ∷ []) (inside_families bound (here ++ word.name ∷ []) name.name)
      one-behind name word f i = (word, first, word-behind name word f i)

      words-behind : (name : Word) (words : List Word) → AreBehind here words (flat_map (λ (word : Word). inside_families bound (here ++ word.name ∷ []) name.name) words)
      words-behind name words f i =
          let r : (word : Word) × Has words word × Has (inside_families bound (here ++ word.name ∷ []) name.name) f = Has-from_flat_map (λ (word : Word). inside_families bound (here ++ word.name ∷ []) name.name) words i in
          (r.0, r.1, word-behind name r.0 f r.2)

      instance-keeps : (name : Word) (args : List Expr) → AreWritten args → Apart (flat_map (said.in_expr []) args) → in_arguments (scope_of text m) (find_name (all_modules text) name.name) args ≡ [] → (words : List Word) → Once words →
          ((k : ℕ) → Includes text (flat_map (λ word. inside_families (bound + k) (here ++ word.name ∷ []) name.name) words)) → OwnsBehind families here words (flat_map (λ word. inside_families bound (here ++ word.name ∷ []) name.name) words) →
          AllByRecursion Keeps (flat_map (λ word. instance_entries (types text) (bodies text) inside_entries here name.name args word.name) words)
      unfolding opening
      instance-keeps name args written free fine [] once inc own = tt
      instance-keeps name args written free fine (word ∷ words) once inc own =
          let at_word : ℕ → List Family = λ k. inside_families (bound + k) (here ++ word.name ∷ []) name.name in
          let others : ℕ → List Family = λ k. flat_map (λ word. inside_families (bound + k) (here ++ word.name ∷ []) name.name) words in
          let includes_there : (k : ℕ) → Includes text (at_word k) = λ k path w e. inc k path w (somewhere-front (IsFamilyAt path w) (at_word k) (others k) e) in
          let acts : List Stmt = connections (body_of (types text) (bodies text) name.name) word.name args in
          let acts_keep : AreKept text m here signals named over_kinded acts =
          found-keeps name.name word.name includes_there args written free (find_name (all_modules text) name.name) (find_name (bodies text) name.name) refl (modules-found (types text) (all_modules text) (all_constants text) (all_modules text) (bodies text) same_modules name.name) fine in
          let front : List Entry = map (λ act. statement (record { layer = None; instance = here; act = act })) acts in
          let rest : List Entry = flat_map (λ word. instance_entries (types text) (bodies text) inside_entries here name.name args word.name) words in
          let parts = owns-parts families here (word ∷ []) words (inside_families bound (here ++ word.name ∷ []) name.name) (flat_map (λ word. inside_families bound (here ++ word.name ∷ []) name.name) words)
          (one-behind name word) (words-behind name words) (once-apart (word ∷ []) words once) own in
          each_append Keeps (front ++ inside_entries (here ++ word.name ∷ []) name.name) rest
          (each_append Keeps front (inside_entries (here ++ word.name ∷ []) name.name)
          (each-map (λ act. keeps_kinds (flatten text) [] (flat_stmt (scope_in text here) [] act) ≡ true) Keeps (λ act. statement (record { layer = None; instance = here; act = act })) (λ act h. h) acts acts_keep)
          (inside_keeps (here ++ word.name ∷ []) name.name includes_there (owns-one families here word (inside_families bound (here ++ word.name ∷ []) name.name) parts.0)))
          (instance-keeps name args written free fine words once.1 (λ k path w e. inc k path w (somewhere-behind (IsFamilyAt path w) (at_word k) (others k) e)) parts.1)

      item-keeps : (part : Item) → ItemIsWritten part → Apart (said.in_item [] part) → in_item (scope_of text m) [] part ≡ [] → Once (own_words part) → ((k : ℕ) → Includes text (of_item (bound + k) here part)) → OwnsBehind families here (own_words part) (of_item bound here part) →
          AllByRecursion Keeps (item_entries (types text) (bodies text) inside_entries here part)
      unfolding opening said.in_item
      item-keeps (Declare role words of at) written free fine once inc own = tt
      item-keeps (Instance words name args at) written free fine once inc own =
          instance-keeps name args written (each-behind _ (said.declared_as (said.instance name) words) (said.instantiates name (length args) ∷ flat_map (said.in_expr []) args) free).1 fine words once inc own
      item-keeps (Layer name acts at) written free fine once inc own = (
        tt,
        each-map (λ act. keeps_kinds (flatten text) [] (flat_stmt (scope_in text here) [] act) ≡ true) Keeps (λ act. statement (record { layer = Some name.name; instance = here; act = act })) (λ act h. h) acts (body-keeps acts written free fine),
      )
      item-keeps (item.Forall' var over shape part at) written free fine once inc own = inner-keeps text m here signals named over_kinded inside_entries [] [] [] tt (item.Forall' var over shape part at) written free fine
      item-keeps (item.Block' shape items) written free fine once inc own = inner-keeps text m here signals named over_kinded inside_entries [] [] [] tt (item.Block' shape items) written free fine
      item-keeps (Claim name brackets e at) written free fine once inc own = inner-keeps text m here signals named over_kinded inside_entries [] [] [] tt (Claim name brackets e at) written free fine
      item-keeps (Split name brackets of pairs at) written free fine once inc own = inner-keeps text m here signals named over_kinded inside_entries [] [] [] tt (Split name brackets of pairs at) written free fine
      item-keeps (Using uses proves at) written free fine once inc own = inner-keeps text m here signals named over_kinded inside_entries [] [] [] tt (Using uses proves at) written free fine
      item-keeps (Act act) written free fine once inc own = inner-keeps text m here signals named over_kinded inside_entries [] [] [] tt (Act act) written free fine

      items-keep : (items : List Item) → AllByRecursion ItemIsWritten items → Apart (flat_map (said.in_item []) items) → flat_map (in_item (scope_of text m) []) items ≡ [] → AreFine (flat_map (said.in_item []) items) → Once (flat_map own_words items) →
          ((k : ℕ) → Includes text (flat_map (of_item (bound + k) here) items)) → OwnsBehind families here (flat_map own_words items) (flat_map (of_item bound here) items) → AllByRecursion Keeps (flat_map (item_entries (types text) (bodies text) inside_entries here) items)
      unfolding opening
      items-keep [] written free fine ok once inc own = tt
      items-keep (part ∷ items) written free fine ok once inc own =
          let both = empty-both (in_item (scope_of text m) [] part) (flat_map (in_item (scope_of text m) []) items) fine in
          let at_part : ℕ → List Family = λ k. of_item (bound + k) here part in
          let others : ℕ → List Family = λ k. flat_map (of_item (bound + k) here) items in
          let ok_part : AreFine (said.in_item [] part) = λ m k. ok m (Has-left (flat_map (said.in_item []) items) k) in
          let ok_items : AreFine (flat_map (said.in_item []) items) = λ m k. ok m (Has-right (said.in_item [] part) k) in
          let once_part : Once (own_words part) = once-left (own_words part) (flat_map own_words items) once in
          let once_items : Once (flat_map own_words items) = once-right (own_words part) (flat_map own_words items) once in
          let parts = owns-parts families here (own_words part) (flat_map own_words items) (of_item bound here part) (flat_map (of_item bound here) items)
          (item-behind (types text) apart (bodies text) (families_in (types text) (bodies text) bound) (there bound) here part ok_part once_part).1
          (items-behind (types text) apart (bodies text) (families_in (types text) (bodies text) bound) (there bound) here items ok_items once_items).1 (once-apart (own_words part) (flat_map own_words items) once) own in
          each_append Keeps (item_entries (types text) (bodies text) inside_entries here part) (flat_map (item_entries (types text) (bodies text) inside_entries here) items)
          (item-keeps part written.0 (each-front _ (said.in_item [] part) (flat_map (said.in_item []) items) free) both.0 once_part (λ k path w e. inc k path w (somewhere-front (IsFamilyAt path w) (at_part k) (others k) e)) parts.0)
          (items-keep items written.1 (each-behind _ (said.in_item [] part) (flat_map (said.in_item []) items) free) both.1 ok_items once_items (λ k path w e. inc k path w (somewhere-behind (IsFamilyAt path w) (at_part k) (others k) e)) parts.1)

  -- ---- instances

  entries-keep : (k : ℕ) (here : Path) (name : Name) → IncludesAll text k here name → Owns families here (inside_families k here name) → AllByRecursion Keeps (entries_in (types text) (bodies text) k here name)
  unfolding opening
  entries-keep zero here name inc own = tt
  entries-keep (suc k) here name inc own =
      by_found (find_name (all_modules text) name) (find_name (bodies text) name) (modules-found (types text) (all_modules text) (all_constants text) (all_modules text) (bodies text) same_modules name) (own-fine (types text) apart (bodies text) bodies_fine name) (λ n. includes_one n) own (entries-keep k)
    where
      items_of : Option Body → List Item
      items_of b = (unwrap_or b (record { formals = []; items = [] })).items

      includes_one : (n : ℕ) → Includes text (flat_map (of_item (k + n) here) (items_of (find_name (bodies text) name)))
      includes_one n = let same : suc k + n ≡ suc (k + n) = omega arith in subst (λ j. Includes text (inside_families j here name)) same (inc n)

      by_found : (o : Option Module) (b : Option Body) → AreFound (types text) (all_modules text) (all_constants text) o b → BodyIsFine (types text) apart (bodies text) (unwrap_or b (record { formals = []; items = [] })) → ((n : ℕ) → Includes text (flat_map (of_item (k + n) here) (items_of b))) →
          Owns families here (flat_map (of_item k here) (items_of b)) → ((there : Path) (name : Name) → IncludesAll text k there name → Owns families there (inside_families k there name) → AllByRecursion Keeps (entries_in (types text) (bodies text) k there name)) →
          AllByRecursion Keeps (flat_map (item_entries (types text) (bodies text) (entries_in (types text) (bodies text) k) here) (items_of b))
      by_found None None f fine inc own inner = tt
      by_found None (Some body) f fine inc own inner = absurd f
      by_found (Some m) None f fine inc own inner = absurd f
      by_found (Some m) (Some body) f fine inc own inner =
          let once = items-once body.items fine.0 in
          items-keep m body f fine here k inc own (entries_in (types text) (bodies text) k) inner body.items f.4 f.7 f.5 fine.1 once.0 inc (owns-words families here (flat_map own_words body.items) (flat_map (of_item k here) body.items) own)

  pub text-keeps : ((n : ℕ) → length (bodies text) ≤ n → inside_families n [] main ≡ inside_families (length (bodies text)) [] main) → AllByRecursion Keeps (entries text)
  unfolding opening
  text-keeps deep = entries-keep (length (bodies text)) [] main (λ n path w e. subst (λ fs. Includes text fs) (sym (deep (length (bodies text) + n) (omega arith))) (λ path w e. e) path w e) (λ f q rest i e. i)
