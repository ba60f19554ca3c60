-- What signals lead to, where each list that is written is the one to which its first constant belongs.
use Rattle.law_designs.proofs.Opening.{opening}
use Rattle.std.proofs.Common.{◌≡◌, List, [], ◌∷◌, ◌++◌, flat_map, length, Option, Some, None, option_and_then, Bool, true, false, cond, refl, sym, subst}
use Rattle.std.specs.List.{AllByRecursion}
use Rattle.std.proofs.lemmas.Option.{same_Some}
use Rattle.law_lists.proofs.Each.{each_append, each_weaker}
use Rattle.smv_core.specs.Values.{Name}
use Rattle.smv_core.specs.Types.{find_name, names_of}
use Rattle.smv_core.specs.declared.tree.Word.{Word}
use Rattle.smv_core.specs.declared.tree.Part.{Part, Field, At}
use Rattle.smv_core.specs.declared.tree.Pair.{Pair}
use Rattle.smv_core.specs.declared.tree.Top.{Top}
use Rattle.smv_core.specs.declared.tree.Top.TheVariants.{SetType, Alias, Module as ModuleOf}
use Rattle.smv_core.specs.declared.tree.TypeExpr.{TypeExpr, Boolean, Range, Enum, Named, Array', Struct', end_of-TypeExpr, more_of-TypeExpr, Row_of-Field, end_of-Field, more_of-Field}
use Rattle.smv_core.specs.declared.tree.Item.{Item, Declare, Instance, Layer, Claim, Split, Using, Act, Row_of-Item, end_of-Item, more_of-Item}
use Rattle.smv_core.specs.declared.tree.Item as item
use Rattle.smv_mentions.specs.Mentions.{What, signal, instance, goal, Mention, in_type, in_fields, in_expr, in_stmt, declared_as, instantiates, in_item, in_items}
use Rattle.smv_mentions.specs.Scopes.{Own, Constant, Known, Piece, has_name, own_names, known_after, pieces_from, pieces, constants}
use Rattle.law_designs.specs.Kinds.{Kind, number, enumeration, set_type}
use Rattle.law_designs.specs.Types.{Whole, Leads, single, under, value_kind, Types, leads, leads_field}
use Rattle.law_designs.specs.References.{Module, modules_from, behind, signal_at}
use Rattle.law_designs.proofs.Faultless.{each-behind, each-front, found-each}
use Rattle.law_designs.proofs.LeadTypes.{mapped}
use Rattle.law_designs.proofs.OwnNames.{own-append, IsQuiet, quiet-flat_map, quiet-type, quiet-expr, quiet-stmt}
use Rattle.law_designs.specs.Owned.{IsOwned, LeadsOwned, SignalsAreOwned}
use Rattle.law_designs.proofs.Listed.{IsFine, pieces-fine}

module _ (all : List (Name × Constant)) where
  abbrev AreFine : List Mention → Type 0
  AreFine ms = AllByRecursion (IsFine all) ms

  -- ---- types

  -- single values are owned
  abbrev Leads_fine : Leads → Type 0
  Leads_fine l = (parts : List Part) (w : Whole) → l parts ≡ Some w → IsOwned all w.value

  single-fine : (kind : Kind) → IsOwned all kind → Leads_fine (single kind)
  single-fine kind k [] w h = subst (λ (v : Whole). IsOwned all v.value) (same_Some {A = Whole} (record { over = []; value = kind }) w h) k
  single-fine kind k (part ∷ parts) w h = absurd (cc (h))

  abbrev Types_fine : Types → Type 0
  Types_fine types = AllByRecursion (λ (name, l). Leads_fine l) types

  module _ (types : Types) (fine : Types_fine types) where
    mutual
      unfolding opening in_type

      leads-fine : (of : TypeExpr) → AreFine (in_type of) → (parts : List Part) (w : Whole) → leads types of parts ≡ Some w → IsOwned all w.value
      leads-fine Boolean k parts w h = single-fine number tt parts w h
      leads-fine (Range span at) k parts w h = single-fine number tt parts w h
      leads-fine (Enum names at) k parts w h = single-fine (enumeration (names_of names)) k.0 parts w h
      leads-fine (Named word at) k parts w h = by_found (find_name types word.name) refl h
        where
          by_found : (o : Option Leads) → find_name types word.name ≡ o → option_and_then (λ named. named parts) o ≡ Some w → IsOwned all w.value
          by_found None e h = absurd (cc (h))
          by_found (Some l) e h = found-each Leads_fine types word.name l fine e parts w h
      leads-fine (Array' i (more_of-TypeExpr index end_of-TypeExpr) o (more_of-TypeExpr of end_of-TypeExpr)) k [] w h = absurd (cc (h))
      leads-fine (Array' i (more_of-TypeExpr index end_of-TypeExpr) o (more_of-TypeExpr of end_of-TypeExpr)) k (Field word ∷ parts) w h = absurd (cc (h))
      leads-fine (Array' i (more_of-TypeExpr index end_of-TypeExpr) o (more_of-TypeExpr of end_of-TypeExpr)) k (At e ∷ parts) w h =
          let kind : Kind = value_kind (leads types index []) in
          let own : (v : Whole) × (leads types of parts ≡ Some v) × (under kind v ≡ w) = mapped (under kind) (leads types of parts) w h in
          subst (λ (v : Whole). IsOwned all v.value) own.2 (leads-fine of (each-behind (IsFine all) (in_type index) (in_type of) k) parts own.0 own.1)
      leads-fine (Struct' shape fields) k [] w h = absurd (cc (h))
      leads-fine (Struct' shape fields) k (At e ∷ parts) w h = absurd (cc (h))
      leads-fine (Struct' shape fields) k (Field word ∷ parts) w h = fields-fine fields k.1 word parts w h

      fields-fine : {m : _} (fields : Row_of-Field m) → AreFine (in_fields fields) → (word : Word) (parts : List Part) (w : Whole) → leads_field types fields word parts ≡ Some w → IsOwned all w.value
      fields-fine end_of-Field k word parts w h = absurd (cc (h))
      fields-fine (more_of-Field names of at rest) k word parts w h =
          by_name (has_name names word.name) h (leads-fine of (each-front (IsFine all) (in_type of) (in_fields rest) k) parts w) (fields-fine rest (each-behind (IsFine all) (in_type of) (in_fields rest) k) word parts w)
        where
          by_name : (b : Bool) → cond b (leads types of parts) (leads_field types rest word parts) ≡ Some w → (leads types of parts ≡ Some w → IsOwned all w.value) →
              (leads_field types rest word parts ≡ Some w → IsOwned all w.value) → IsOwned all w.value
          by_name true h own rest = own h
          by_name false h own rest = rest h

  -- ---- the names of a module

  abbrev What_fine : What → Type 0
  What_fine (signal role of) = AreFine (in_type of)
  What_fine _ = Unit {0}

  abbrev Own_fine : List (Name × Own) → Type 0
  Own_fine own = AllByRecursion (λ (name, own). What_fine own.what) own

  own-both : (xs ys : List Mention) → Own_fine (own_names xs) → Own_fine (own_names ys) → Own_fine (own_names (xs ++ ys))
  own-both xs ys h k = subst Own_fine (sym (own-append xs ys)) (each_append (λ (name, own). What_fine own.what) (own_names xs) (own_names ys) h k)

  own-quiet : (ms : List Mention) → IsQuiet ms → Own_fine (own_names ms)
  own-quiet ms h = subst Own_fine (sym h) tt

  declared-fine : (what : What) → What_fine what → (words : List Word) → Own_fine (own_names (declared_as what words))
  declared-fine what h [] = tt
  declared-fine what h (word ∷ words) = (h, declared-fine what h words)

  mutual
    unfolding in_item

    item-fine : (vars : List Word) (part : Item) → AreFine (in_item vars part) → Own_fine (own_names (in_item vars part))
    item-fine vars (Declare role words of at) h =
        own-both (declared_as (signal role of) words) (in_type of) (declared-fine (signal role of) (each-behind (IsFine all) (declared_as (signal role of) words) (in_type of) h) words) (own-quiet (in_type of) (quiet-type of))
    item-fine vars (Instance words name args at) h =
        own-both (declared_as (instance name) words) (instantiates name (length args) ∷ flat_map (in_expr vars) args) (declared-fine (instance name) tt words)
        (own-quiet (instantiates name (length args) ∷ flat_map (in_expr vars) args) (quiet-flat_map (in_expr vars) (quiet-expr vars) args))
    item-fine vars (Layer name body at) h = own-quiet (flat_map (in_stmt vars) body) (quiet-flat_map (in_stmt vars) (quiet-stmt vars) body)
    item-fine vars (item.Forall' var over shape (more_of-Item body end_of-Item) at) h =
        own-both (in_type over) (in_item (vars ++ var ∷ []) body) (own-quiet (in_type over) (quiet-type over)) (item-fine (vars ++ var ∷ []) body (each-behind (IsFine all) (in_type over) (in_item (vars ++ var ∷ []) body) h.1))
    item-fine vars (item.Block' shape items) h = items-fine vars items h
    item-fine vars (Claim name brackets body at) h = (tt, own-quiet (in_expr vars body) (quiet-expr vars body))
    item-fine vars (Split name brackets of pairs at) h =
        (tt, own-quiet (flat_map (λ pair. in_expr vars pair.left) pairs) (quiet-flat_map (λ (pair : Pair). in_expr vars pair.left) (λ pair. quiet-expr vars pair.left) pairs))
    item-fine vars (Using uses proves at) h = tt
    item-fine vars (Act act) h = own-quiet (in_stmt vars act) (quiet-stmt vars act)

    items-fine : {m : _} (vars : List Word) (items : Row_of-Item m) → AreFine (in_items vars items) → Own_fine (own_names (in_items vars items))
    items-fine vars end_of-Item h = tt
    items-fine vars (more_of-Item part rest) h =
        own-both (in_item vars part) (in_items vars rest) (item-fine vars part (each-front (IsFine all) (in_item vars part) (in_items vars rest) h)) (items-fine vars rest (each-behind (IsFine all) (in_item vars part) (in_items vars rest) h))

  body-fine : (items : List Item) → AreFine (flat_map (in_item []) items) → Own_fine (own_names (flat_map (in_item []) items))
  body-fine [] h = tt
  body-fine (part ∷ items) h =
      own-both (in_item [] part) (flat_map (in_item []) items) (item-fine [] part (each-front (IsFine all) (in_item [] part) (flat_map (in_item []) items) h))
      (body-fine items (each-behind (IsFine all) (in_item [] part) (flat_map (in_item []) items) h))

  -- ---- modules

  abbrev Module_fine : Module → Type 0
  Module_fine m = Types_fine m.types × Own_fine m.own

  module _ (modules : List (Name × Module)) (fine : AllByRecursion (λ (name, m). Module_fine m) modules) where
    behind-fine : (types : Types) → Types_fine types → (what : What) → What_fine what → (parts : List Part) (w : Whole) → behind modules types what parts ≡ Some w → IsOwned all w.value
    unfolding opening
    behind-fine types ok (signal role of) k parts w h = leads-fine types ok of k parts w h
    behind-fine types ok goal k parts w h = absurd (cc (h))
    behind-fine types ok (instance name) k [] w h = absurd (cc (h))
    behind-fine types ok (instance name) k (At e ∷ parts) w h = absurd (cc (h))
    behind-fine types ok (instance name) k (Field word ∷ parts) w h = by_module (find_name modules name.name) refl h (λ types ok what k. behind-fine types ok what k parts w)
      where
        by_own : (m : Module) → Module_fine m → (o : Option Own) → find_name m.own word.name ≡ o → option_and_then (λ (own : Own). behind modules m.types own.what parts) o ≡ Some w →
            ((types : Types) → Types_fine types → (what : What) → What_fine what → behind modules types what parts ≡ Some w → IsOwned all w.value) → IsOwned all w.value
        by_own m ok None e h rest = absurd (cc (h))
        by_own m ok (Some own) e h rest = rest m.types ok.0 own.what (found-each (λ (own : Own). What_fine own.what) m.own word.name own ok.1 e) h

        by_module : (o : Option Module) → find_name modules name.name ≡ o → option_and_then (λ (m : Module). option_and_then (λ (own : Own). behind modules m.types own.what parts) (find_name m.own word.name)) o ≡ Some w →
            ((types : Types) → Types_fine types → (what : What) → What_fine what → behind modules types what parts ≡ Some w → IsOwned all w.value) → IsOwned all w.value
        by_module None e h rest = absurd (cc (h))
        by_module (Some m) e h rest = by_own m (found-each Module_fine modules name.name m fine e) (find_name m.own word.name) refl h rest

    signals-fine : (m : Module) → Module_fine m → (parts : List Part) (w : Whole) → signal_at (record { modules = modules; constants = all; here = m }) parts ≡ Some w → IsOwned all w.value
    signals-fine m ok [] w h = absurd (cc (h))
    signals-fine m ok (At e ∷ parts) w h = absurd (cc (h))
    signals-fine m ok (Field word ∷ parts) w h = by_own (find_name m.own word.name) refl h
      where
        by_own : (o : Option Own) → find_name m.own word.name ≡ o → option_and_then (λ (own : Own). behind modules m.types own.what parts) o ≡ Some w → IsOwned all w.value
        by_own None e h = absurd (cc (h))
        by_own (Some own) e h = behind-fine m.types ok.0 own.what (found-each (λ (own : Own). What_fine own.what) m.own word.name own ok.1 e) parts w h

  modules-fine : (types : Types) → Types_fine types → (known : Known) (tops : List Top) → AllByRecursion (λ (piece : Piece). AreFine piece.mentions) (pieces_from known tops) → AllByRecursion (λ (name, m). Module_fine m) (modules_from types tops)
  modules-fine types ok known [] h = tt
  modules-fine types ok known (SetType word ordered span at ∷ tops) h =
      modules-fine (types ++ (word.name, single (set_type word.name)) ∷ [])
      (each_append (λ (name, l). Leads_fine l) types ((word.name, single (set_type word.name)) ∷ []) ok (single-fine (set_type word.name) tt, tt))
      (known_after known (SetType word ordered span at)) tops h.1
  modules-fine types ok known (Alias word of at ∷ tops) h =
      modules-fine (types ++ (word.name, leads types of) ∷ []) (each_append (λ (name, l). Leads_fine l) types ((word.name, leads types of) ∷ []) ok (leads-fine types ok of h.0, tt)) (known_after known (Alias word of at)) tops h.1
  modules-fine types ok known (ModuleOf word formals body at ∷ tops) h = ((ok, body-fine body h.0), modules-fine types ok (known_after known (ModuleOf word formals body at)) tops h.1)

pub signals-owned : SignalsAreOwned
unfolding LeadsOwned
signals-owned text names =
    let modules : List (Name × Module) = modules_from [] text.tops in
    let all : List (Name × Constant) = constants (pieces text) in
    let fine : AllByRecursion (λ (name, m). Module_fine all m) modules = modules-fine all [] tt [] text.tops (pieces-fine text names) in
    each_weaker {X = Name × Module} (λ (name, m). Module_fine all m) (λ (name, m). LeadsOwned text m) (λ (name, m) ok. signals-fine all modules fine m ok) modules fine
