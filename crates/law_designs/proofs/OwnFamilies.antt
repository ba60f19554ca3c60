-- A name of a module that leads to a single value has a family behind the path of each instance of the module.
use Rattle.law_designs.proofs.Opening.{opening}
use Rattle.std.proofs.Common.{◌≡◌, ℕ, List, [], ◌∷◌, ◌++◌, map, flat_map, length, Option, Some, None, is_none, true, false, cond, ◌⊎◌, inl, inr, refl, sym, ap, ◌∙◌, subst}
use Rattle.std.specs.Str.{bytes_eq}
use Rattle.std.specs.List.{AllByRecursion, list_any}
use Rattle.std.proofs.lemmas.List.{append_assoc}
use Rattle.std.proofs.lemmas.Slice.Eq.{bytes_eq-Decides}
use Rattle.smv_core.specs.Values.{Name, Path}
use Rattle.smv_core.specs.Types as tree
use Rattle.smv_core.specs.Types.{Family, find_name, shape_of}
use Rattle.smv_core.specs.FlatOrder.{Body, role_of, declared_as, families_of_item}
use Rattle.smv_core.specs.Outcome.{fields_of, same_path}
use Rattle.smv_core.specs.declared.tree.Word.{Word}
use Rattle.smv_core.specs.declared.tree.Role.{Role}
use Rattle.smv_core.specs.declared.tree.Role.TheVariants.{Plain, Input, Output}
use Rattle.smv_core.specs.declared.tree.Part.{Part, Field, At}
use Rattle.smv_core.specs.declared.tree.Expr.{Expr}
use Rattle.smv_core.specs.declared.tree.Item.{Item, Declare, Instance, Layer, Claim, Split, Using, Act}
use Rattle.smv_core.specs.declared.tree.Item as item
use Rattle.smv_mentions.specs.Mentions as mentions
use Rattle.smv_mentions.specs.Mentions.{What, signal, instance, goal, in_type, in_expr, in_stmt, instantiates}
use Rattle.smv_mentions.specs.Scopes.{Own, own_names}
use Rattle.smv_mentions.specs.NameFaults.{place_if}
use Rattle.law_designs.specs.Types.{Whole, leads, type_faults}
use Rattle.law_designs.specs.References as kinds
use Rattle.law_designs.specs.References.{behind}
use Rattle.law_designs.specs.KindFaults.{in_item, formal_faults}
use Rattle.law_designs.proofs.TypeNumbers.{paths-decide}
use Rattle.law_designs.specs.Written.{InnerIsWritten, ItemIsWritten}
use Rattle.law_designs.proofs.Faultless.{empty-both, unplaced, no_places, found-each}
use Rattle.law_designs.proofs.LeadTypes.{IsFamilyAt, AreCovered, leads-cover}
use Rattle.law_designs.proofs.Somewhere.{Somewhere, somewhere-map, somewhere-flat_map, somewhere-each, somewhere-with, somewhere-any}
use Rattle.law_designs.proofs.OwnNames.{own-append, quiet-type, quiet-expr, quiet-stmt, quiet-flat_map, inner-goals, is_word, found-split, words-found, declared-own}

-- the names that items declare
abbrev pub own_in : List Item → List (Name × Own)
own_in items = own_names (flat_map (mentions.in_item []) items)

declare-own : (role : Role) (words : List Word) (of : _) (at : ℕ) → own_names (mentions.in_item [] (Declare role words of at)) ≡ own_names (mentions.declared_as (signal role of) words)
unfolding mentions.in_item
declare-own role words of at = declared-own (signal role of) words (in_type of) (quiet-type of)

instance-own : (words : List Word) (name : Word) (args : _) (at : ℕ) → own_names (mentions.in_item [] (Instance words name args at)) ≡ own_names (mentions.declared_as (instance name) words)
unfolding mentions.in_item
instance-own words name args at = declared-own (instance name) words (instantiates name (length args) ∷ flat_map (in_expr []) args) (quiet-flat_map (in_expr []) (quiet-expr []) args)

layer-own : (name : Word) (body : _) (at : ℕ) → own_names (mentions.in_item [] (Layer name body at)) ≡ []
unfolding mentions.in_item
layer-own name body at = quiet-flat_map (in_stmt []) (quiet-stmt []) body

module _ (name : Name) where
  -- behind a declaration of words
  declared-found : (item : Item) (items : List Item) (what : What) (words : List Word) (own : Own) → own_names (mentions.in_item [] item) ≡ own_names (mentions.declared_as what words) → find_name (own_in (item ∷ items)) name ≡ Some own →
      ((list_any (is_word name) words ≡ true) × (own.what ≡ what)) ⊎ ((list_any (is_word name) words ≡ false) × (find_name (own_in items) name ≡ Some own))
  declared-found item items what words own e h =
      words-found name what words (own_in items) own
      (subst (λ l. find_name (l ++ own_in items) name ≡ Some own) e (subst (λ l. find_name l name ≡ Some own) (own-append (mentions.in_item [] item) (flat_map (mentions.in_item []) items)) h))

  layer-skip : (word : Word) (body : _) (at : ℕ) (items : List Item) (own : Own) → find_name (own_in (Layer word body at ∷ items)) name ≡ Some own → find_name (own_in items) name ≡ Some own
  layer-skip word body at items own h =
      subst (λ l. find_name (l ++ own_in items) name ≡ Some own) (layer-own word body at) (subst (λ l. find_name l name ≡ Some own) (own-append (mentions.in_item [] (Layer word body at)) (flat_map (mentions.in_item []) items)) h)

  -- what is no goal is not declared by an item that declares goals alone
  inner-skip : (item : Item) (items : List Item) (own : Own) → InnerIsWritten item → (own.what ≡ goal → ⊥) → find_name (own_in (item ∷ items)) name ≡ Some own → find_name (own_in items) name ≡ Some own
  inner-skip item items own written no_goal h =
      by_case (found-split name (own_names (mentions.in_item [] item)) (own_in items) own (subst (λ l. find_name l name ≡ Some own) (own-append (mentions.in_item [] item) (flat_map (mentions.in_item []) items)) h))
    where
      by_case : (find_name (own_names (mentions.in_item [] item)) name ≡ Some own) ⊎ (find_name (own_in items) name ≡ Some own) → find_name (own_in items) name ≡ Some own
      by_case (inl e) = absurd (no_goal (found-each (λ (o : Own). o.what ≡ goal) (own_names (mentions.in_item [] item)) name own (inner-goals [] item written) e))
      by_case (inr e) = e

  -- ---- roles

  abbrev pub role_in : What → Role
  role_in (signal role of) = role
  role_in _ = Plain

  abbrev pub IsSignal : What → Type 0
  IsSignal (signal role of) = Unit {0}
  IsSignal _ = ⊥

  signal-no_goal : (what : What) → IsSignal what → what ≡ goal → ⊥
  signal-no_goal what s e = subst IsSignal e s

  -- a signal has the role in which it is declared
  pub role-same : (items : List Item) → AllByRecursion ItemIsWritten items → (own : Own) → IsSignal own.what → find_name (own_in items) name ≡ Some own → role_of items name ≡ role_in own.what
  role-same [] written own s h = absurd (cc (h))
  role-same (Declare role words of at ∷ items) written own s h = by_case (declared-found (Declare role words of at) items (signal role of) words own (declare-own role words of at) h) (role-same items written.1 own s)
    where
      by_case : ((list_any (is_word name) words ≡ true) × (own.what ≡ signal role of)) ⊎ ((list_any (is_word name) words ≡ false) × (find_name (own_in items) name ≡ Some own)) →
          (find_name (own_in items) name ≡ Some own → role_of items name ≡ role_in own.what) → cond (list_any (is_word name) words) role (role_of items name) ≡ role_in own.what
      by_case (inl (has, is)) rest = rw (has, is) refl
      by_case (inr (has, e)) rest = rw has (rest e)
  role-same (Instance words module_name args at ∷ items) written own s h = by_case (declared-found (Instance words module_name args at) items (instance module_name) words own (instance-own words module_name args at) h) (role-same items written.1 own s)
    where
      by_case : ((list_any (is_word name) words ≡ true) × (own.what ≡ instance module_name)) ⊎ ((list_any (is_word name) words ≡ false) × (find_name (own_in items) name ≡ Some own)) →
          (find_name (own_in items) name ≡ Some own → role_of items name ≡ role_in own.what) → role_of items name ≡ role_in own.what
      by_case (inl (has, is)) rest = absurd (subst IsSignal is s)
      by_case (inr (has, e)) rest = rest e
  role-same (Layer word body at ∷ items) written own s h = role-same items written.1 own s (layer-skip word body at items own h)
  role-same (item.Forall' var over shape body at ∷ items) written own s h = role-same items written.1 own s (inner-skip (item.Forall' var over shape body at) items own written.0 (signal-no_goal own.what s) h)
  role-same (item.Block' shape row ∷ items) written own s h = role-same items written.1 own s (inner-skip (item.Block' shape row) items own written.0 (signal-no_goal own.what s) h)
  role-same (Claim word brackets body at ∷ items) written own s h = role-same items written.1 own s (inner-skip (Claim word brackets body at) items own written.0 (signal-no_goal own.what s) h)
  role-same (Split word brackets of pairs at ∷ items) written own s h = role-same items written.1 own s (inner-skip (Split word brackets of pairs at) items own written.0 (signal-no_goal own.what s) h)
  role-same (Using uses proves at ∷ items) written own s h = role-same items written.1 own s (inner-skip (Using uses proves at) items own written.0 (signal-no_goal own.what s) h)
  role-same (Act act ∷ items) written own s h = role-same items written.1 own s (inner-skip (Act act) items own written.0 (signal-no_goal own.what s) h)

  -- ---- declarations

  -- the item declares the name as a signal, or as an instance
  abbrev pub Declares : What → Item → Type 0
  Declares (signal role of) part = (words : List Word) × (at : ℕ) × (part ≡ Declare role words of at) × (list_any (is_word name) words ≡ true)
  Declares (instance module_name) part = (words : List Word) × (args : List Expr) × (at : ℕ) × (part ≡ Instance words module_name args at) × (list_any (is_word name) words ≡ true)
  Declares goal part = ⊥

  -- what is no goal is declared by an item of the module
  pub declared-somewhere : (items : List Item) → AllByRecursion ItemIsWritten items → (own : Own) → (own.what ≡ goal → ⊥) → find_name (own_in items) name ≡ Some own → Somewhere (Declares own.what) items
  declared-somewhere [] written own no_goal h = absurd (cc (h))
  declared-somewhere (Declare role words of at ∷ items) written own no_goal h =
      by_case (declared-found (Declare role words of at) items (signal role of) words own (declare-own role words of at) h) (declared-somewhere items written.1 own no_goal)
    where
      by_case : ((list_any (is_word name) words ≡ true) × (own.what ≡ signal role of)) ⊎ ((list_any (is_word name) words ≡ false) × (find_name (own_in items) name ≡ Some own)) →
          (find_name (own_in items) name ≡ Some own → Somewhere (Declares own.what) items) → Declares own.what (Declare role words of at) ⊎ Somewhere (Declares own.what) items
      by_case (inl (has, is)) rest = inl (subst (λ what. Declares what (Declare role words of at)) (sym is) (words, at, refl, has))
      by_case (inr (has, e)) rest = inr (rest e)
  declared-somewhere (Instance words module_name args at ∷ items) written own no_goal h =
      by_case (declared-found (Instance words module_name args at) items (instance module_name) words own (instance-own words module_name args at) h) (declared-somewhere items written.1 own no_goal)
    where
      by_case : ((list_any (is_word name) words ≡ true) × (own.what ≡ instance module_name)) ⊎ ((list_any (is_word name) words ≡ false) × (find_name (own_in items) name ≡ Some own)) →
          (find_name (own_in items) name ≡ Some own → Somewhere (Declares own.what) items) → Declares own.what (Instance words module_name args at) ⊎ Somewhere (Declares own.what) items
      by_case (inl (has, is)) rest = inl (subst (λ what. Declares what (Instance words module_name args at)) (sym is) (words, args, at, refl, has))
      by_case (inr (has, e)) rest = inr (rest e)
  declared-somewhere (Layer word body at ∷ items) written own no_goal h = inr (declared-somewhere items written.1 own no_goal (layer-skip word body at items own h))
  declared-somewhere (item.Forall' var over shape body at ∷ items) written own no_goal h = inr (declared-somewhere items written.1 own no_goal (inner-skip (item.Forall' var over shape body at) items own written.0 no_goal h))
  declared-somewhere (item.Block' shape row ∷ items) written own no_goal h = inr (declared-somewhere items written.1 own no_goal (inner-skip (item.Block' shape row) items own written.0 no_goal h))
  declared-somewhere (Claim word brackets body at ∷ items) written own no_goal h = inr (declared-somewhere items written.1 own no_goal (inner-skip (Claim word brackets body at) items own written.0 no_goal h))
  declared-somewhere (Split word brackets of pairs at ∷ items) written own no_goal h = inr (declared-somewhere items written.1 own no_goal (inner-skip (Split word brackets of pairs at) items own written.0 no_goal h))
  declared-somewhere (Using uses proves at ∷ items) written own no_goal h = inr (declared-somewhere items written.1 own no_goal (inner-skip (Using uses proves at) items own written.0 no_goal h))
  declared-somewhere (Act act ∷ items) written own no_goal h = inr (declared-somewhere items written.1 own no_goal (inner-skip (Act act) items own written.0 no_goal h))

  -- ---- families

  -- an item without faults that is written as the grammar has it
  abbrev pub IsFaultless : kinds.Scope → Item → Type 0
  IsFaultless scope part = ItemIsWritten part × (in_item scope [] part ≡ [])

  pub each-faultless : (scope : kinds.Scope) (items : List Item) → AllByRecursion ItemIsWritten items → flat_map (in_item scope []) items ≡ [] → AllByRecursion (IsFaultless scope) items
  unfolding opening
  each-faultless scope [] written fine = tt
  each-faultless scope (part ∷ items) written fine =
      let both = empty-both (in_item scope [] part) (flat_map (in_item scope []) items) fine in
      ((written.0, both.0), each-faultless scope items written.1 both.1)

  -- a formal is simple
  pub formal-simple : (scope : kinds.Scope) (role : Role) (of : _) → ((word : Word) → formal_faults scope.here.types role of word ≡ [] → is_none (leads scope.here.types of []) ≡ false) → (items : List Item) → AllByRecursion ItemIsWritten items →
      flat_map (in_item scope []) items ≡ [] → (at : ℕ) → find_name (own_in items) name ≡ Some (record { at = at; what = signal role of }) → (w : Whole) × (leads scope.here.types of [] ≡ Some w)
  unfolding opening
  formal-simple scope role of strict items written fine at h =
      let there = somewhere-with (Declares (signal role of)) (IsFaultless scope) items (declared-somewhere items written (record { at = at; what = signal role of }) (signal-no_goal (signal role of) tt) h) (each-faultless scope items written fine) in
      by_item there.0 there.1 there.2.1
    where
      present : (o : Option Whole) → is_none o ≡ false → (w : Whole) × (o ≡ Some w)
      present None e = absurd (cc (e))
      present (Some w) e = (w, refl)

      by_words : (words : List Word) → list_any (is_word name) words ≡ true → flat_map (formal_faults scope.here.types role of) words ≡ [] → (w : Whole) × (leads scope.here.types of [] ≡ Some w)
      by_words [] has fine = absurd (cc (has))
      by_words (word ∷ words) has fine = present (leads scope.here.types of []) (strict word (empty-both (formal_faults scope.here.types role of word) (flat_map (formal_faults scope.here.types role of) words) fine).0)

      by_item : (part : Item) → Declares (signal role of) part → in_item scope [] part ≡ [] → (w : Whole) × (leads scope.here.types of [] ≡ Some w)
      by_item part d fine =
          let own : in_item scope [] (Declare role d.0 of d.1) ≡ [] = subst (λ part. in_item scope [] part ≡ []) d.2 fine in
          by_words d.0 d.3 (empty-both (flat_map (formal_faults scope.here.types role of) d.0) (type_faults scope.here.types of) own).0

  -- that of an input, and that of an output
  pub input-simple : (scope : kinds.Scope) (of : _) (items : List Item) → AllByRecursion ItemIsWritten items → flat_map (in_item scope []) items ≡ [] → (at : ℕ) →
      find_name (own_in items) name ≡ Some (record { at = at; what = signal Input of }) → (w : Whole) × (leads scope.here.types of [] ≡ Some w)
  input-simple scope of items written fine at h =
      formal-simple scope Input of (λ word e. unplaced (is_none (leads scope.here.types of [])) word.at (no_places 12 (place_if (is_none (leads scope.here.types of [])) word.at) e)) items written fine at h

  pub output-simple : (scope : kinds.Scope) (of : _) (items : List Item) → AllByRecursion ItemIsWritten items → flat_map (in_item scope []) items ≡ [] → (at : ℕ) →
      find_name (own_in items) name ≡ Some (record { at = at; what = signal Output of }) → (w : Whole) × (leads scope.here.types of [] ≡ Some w)
  output-simple scope of items written fine at h =
      formal-simple scope Output of (λ word e. unplaced (is_none (leads scope.here.types of [])) word.at (no_places 12 (place_if (is_none (leads scope.here.types of [])) word.at) e)) items written fine at h

  module _ (types : tree.Types) (bodies : List (Name × Body)) (inside : Path → Name → List Family) (here : Path) (scope : kinds.Scope) (covered : AreCovered scope.here.types types) where
    abbrev pub families_here : List Item → List Family
    families_here items = flat_map (families_of_item types bodies inside here) items

    module _ (own : Own) (parts : List Part) (w : Whole) (leads_there : behind scope.modules scope.here.types own.what parts ≡ Some w) where
      abbrev LeadsThere : What → Type 0
      LeadsThere what = behind scope.modules scope.here.types what parts ≡ Some w

      -- the family to which it leads
      abbrev pub IsIt : Family → Type 0
      IsIt f = IsFamilyAt (here ++ name ∷ fields_of parts) w f

      leads-no_goal : own.what ≡ goal → ⊥
      leads-no_goal e = let h : LeadsThere goal = subst LeadsThere e leads_there in cc (h)

      named-path : (word : Word) (rest : Path) → bytes_eq word.name name ≡ true → (here ++ word.name ∷ []) ++ rest ≡ here ++ name ∷ rest
      named-path word rest e = append_assoc here (word.name ∷ []) rest ∙ ap (λ n. here ++ n ∷ rest) ((bytes_eq-Decides word.name name).0 e)

      -- a type that leads there has its family behind each of the words of its declaration
      words-lead : (role : Role) (shape : List Family) → Somewhere (IsFamilyAt (fields_of parts) w) shape → (words : List Word) → list_any (is_word name) words ≡ true →
          Somewhere IsIt (flat_map (λ word. map (declared_as role (here ++ word.name ∷ [])) shape) words)
      words-lead role shape there words h =
          somewhere-flat_map IsIt (λ (word : Word). map (declared_as role (here ++ word.name ∷ [])) shape) (is_word name)
          (λ word e. somewhere-map (IsFamilyAt (fields_of parts) w) IsIt (declared_as role (here ++ word.name ∷ []))
          (λ f at. (ap (λ p. (here ++ word.name ∷ []) ++ p) at.0 ∙ named-path word (fields_of parts) e, at.1, at.2)) shape there) words h

      module _ (inner : (module_name : Word) → own.what ≡ instance module_name → (word : Word) → bytes_eq word.name name ≡ true → Somewhere IsIt (inside (here ++ word.name ∷ []) module_name.name)) where
        item-reached : (what : What) → own.what ≡ what → (part : Item) → Declares what part → IsFaultless scope part → Somewhere IsIt (families_of_item types bodies inside here part)
        unfolding opening
        item-reached goal is part d fine = absurd d
        item-reached (signal role of) is part d fine =
            let own_fine : IsFaultless scope (Declare role d.0 of d.1) = subst (IsFaultless scope) d.2 fine in
            let faults = empty-both (flat_map (formal_faults scope.here.types role of) d.0) (type_faults scope.here.types of) own_fine.1 in
            subst (λ part. Somewhere IsIt (families_of_item types bodies inside here part)) (sym d.2)
            (words-lead role (shape_of types of) ((leads-cover scope.here.types types covered of own_fine.0 faults.1).0 parts w (subst LeadsThere is leads_there)) d.0 d.3)
        item-reached (instance module_name) is part d fine =
            subst (λ part. Somewhere IsIt (families_of_item types bodies inside here part)) (sym d.3)
            (somewhere-flat_map IsIt (λ (word : Word). inside (here ++ word.name ∷ []) module_name.name) (is_word name) (λ word e. inner module_name is word e) d.0 d.4)

        -- a name that leads to a single value has its family
        pub own-reached : (items : List Item) → AllByRecursion ItemIsWritten items → flat_map (in_item scope []) items ≡ [] → find_name (own_in items) name ≡ Some own → Somewhere IsIt (families_here items)
        own-reached items written fine h =
            somewhere-each (Declares own.what) (IsFaultless scope) IsIt (families_of_item types bodies inside here) (item-reached own.what refl) items
            (declared-somewhere items written own leads-no_goal h) (each-faultless scope items written fine)

      module _ (flat : fields_of parts ≡ []) where
        leads-no_instance : (module_name : Word) → own.what ≡ instance module_name → ⊥
        leads-no_instance module_name e = by_parts parts flat (subst LeadsThere e leads_there)
          where
            by_parts : (parts : List Part) → fields_of parts ≡ [] → behind scope.modules scope.here.types (instance module_name) parts ≡ Some w → ⊥
            by_parts [] f h = cc (h)
            by_parts (At e ∷ parts) f h = cc (h)
            by_parts (Field word ∷ parts) f h = cc (f)

        -- a signal that leads to a single value without a field has its family
        pub own-family : (items : List Item) → AllByRecursion ItemIsWritten items → flat_map (in_item scope []) items ≡ [] → find_name (own_in items) name ≡ Some own →
            list_any (λ (f : Family). same_path f.path (here ++ name ∷ [])) (families_here items) ≡ true
        own-family items written fine h =
            somewhere-any IsIt (λ (f : Family). same_path f.path (here ++ name ∷ [])) (λ f at. (paths-decide f.path (here ++ name ∷ [])).1 (at.0 ∙ ap (λ p. here ++ name ∷ p) flat)) (families_here items)
            (own-reached (λ module_name e word same. absurd (leads-no_instance module_name e)) items written fine h)
