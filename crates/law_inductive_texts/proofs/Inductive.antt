-- The claim of an induction can be proved by induction where the strengthened text has no fault of names.
use Rattle.std.proofs.Common.{◌≡◌, List, [], ◌∷◌, ◌++◌, map, flat_map, Option, Some, None, Bool, true, false, if◌then◌else◌, refl, sym, ap, ◌∙◌, subst}
use Rattle.std.specs.List.{AllByRecursion, list_any}
use Rattle.std.specs.Option.{option_or}
use Rattle.std.specs.Str.{bytes_eq}
use Rattle.std.proofs.lemmas.List.{map-append}
use Rattle.std.proofs.lemmas.Slice.Eq.{bytes_eq-Decides}
use Rattle.smv_core.specs.Values.{Name, ordset}
use Rattle.smv_core.specs.Types.{Types, find_name, one_value, simple_of, shape_or_none, simple}
use Rattle.smv_core.specs.declared.tree.Word.{Word}
use Rattle.smv_core.specs.declared.tree.Top.{Top}
use Rattle.smv_core.specs.declared.tree.Op.TheVariants.{Less}
use Rattle.smv_core.specs.declared.tree.TypeExpr.{TypeExpr, Boolean, Range, Enum, Named, Array', Struct'}
use Rattle.smv_core.specs.declared.tree.TypeExpr.TheVariants as type
use Rattle.smv_core.specs.declared.tree.Expr.{Expr}
use Rattle.smv_core.specs.declared.tree.Expr.TheVariants as expr
use Rattle.smv_core.specs.declared.tree.Item.{Item, Declare, Instance, Layer, Forall', Block', Claim, Split, Using, Act, Row_of-Item, end_of-Item, more_of-Item}
use Rattle.smv_mentions.specs.Mentions.{Mention, bound_at, first_place, binder_in, in_type, in_expr}
use Rattle.law_designs.proofs.Faultless.{each-front, each-behind}
use Rattle.law_places.proofs.Computing.{computing}
use Rattle.law_exchanged.specs.Changed.{changed_item, changed_items}
use Rattle.law_induction.specs.Renamed.{renamed}
use Rattle.law_induction.specs.Strengthened.{word_of, variable, IsNoneOf, for_smaller, stronger, IsInductive, strengthened, IsInductiveItem, AreInductiveItems, IsInductiveBody}
use Rattle.law_induction.proofs.RenamedOutcomes.{bytes-refl}
use Rattle.law_strengthened_texts.specs.Stronger.{Found, claims_in, all_claims_in, is_ordset, ordset_named, innermost}
use Rattle.law_inductive_texts.specs.World.{World, IsFine, AreFine}
use Rattle.law_inductive_texts.proofs.Renamable.{IsBound, other-bound, renamable}
use Rattle.law_inductive_texts.proofs.Claims.{AreFineClaims, AreFineItems}

abbrev Binder : Type 0
Binder = Word × TypeExpr

abbrev vars_of : List Binder → List Word
vars_of binders = map (λ (b : Binder). b.0) binders

abbrev params_of : List Binder → List (Name × TypeExpr)
params_of binders = map (λ (b : Binder). (b.0.name, b.1)) binders

-- claims of the name are over the ordset
abbrev pub AreOver : List Top → Name → Name → Name → List Found → Type 0
AreOver tops var set name ds = AllByRecursion (λ (d : Found). bytes_eq d.word.name name ≡ true → ordset_named tops (innermost var d.binders) ≡ Some set) ds

bound-front : (v : Word) (vars : List Word) (name : Name) → IsBound vars name → IsBound (v ∷ vars) name
bound-front v vars name h e = by_test (bytes_eq v.name name) e
  where
    by_test : (b : Bool) → (if b then Some (first_place v.at (bound_at vars name)) else bound_at vars name) ≡ None → ⊥
    by_test true q = absurd (cc (q))
    by_test false q = h q

bound-first : (v : Word) (vars : List Word) (name : Name) → bytes_eq v.name name ≡ true → IsBound (v ∷ vars) name
bound-first v vars name h e = absurd (let some : bound_at (v ∷ vars) name ≡ Some (first_place v.at (bound_at vars name)) = ap (λ (b : Bool). if b then Some (first_place v.at (bound_at vars name)) else bound_at vars name) h in cc (some, e))

bound-last : (vars : List Word) (v : Word) → IsBound (vars ++ v ∷ []) v.name
bound-last [] v = bound-first v [] v.name (bytes-refl v.name)
bound-last (x ∷ vars) v = bound-front x (vars ++ v ∷ []) v.name (bound-last vars v)

module _ (w : World) (var fresh set : Name) (tops : List Top) (types : Types) (no_type : w.is_type fresh ≡ false) (set_is : list_any (is_ordset set) tops ≡ true → find_name types set ≡ Some (one_value (ordset set))) where
  -- the name of a binder is not declared
  abbrev Undeclared : Binder → Type 0
  Undeclared b = w.is_declared b.0.name ≡ false

  -- the innermost binder of the variable, among these
  record Innermost (binders : List Binder) (over : TypeExpr) : Type 0 where
    outer : List (Name × TypeExpr)
    inner : List (Name × TypeExpr)
    split : params_of binders ≡ outer ++ (var, over) ∷ inner
    none : IsNoneOf var inner
    bound : IsBound (vars_of binders) var
    own : w.is_declared var ≡ false

  none-of : (binders : List Binder) → innermost var binders ≡ None → IsNoneOf var (params_of binders)
  none-of [] e = tt
  none-of ((word, over) ∷ binders) e = by_tests (innermost var binders) refl (bytes_eq word.name var) refl e (none-of binders)
    where
      by_tests : (o : Option TypeExpr) → innermost var binders ≡ o → (b : Bool) → bytes_eq word.name var ≡ b → option_or o (if b then Some over else None) ≡ None → (innermost var binders ≡ None → IsNoneOf var (params_of binders)) →
          (bytes_eq word.name var ≡ false) × IsNoneOf var (params_of binders)
      by_tests None p false q k rest = (q, rest p)
      by_tests None p true q k rest = absurd (cc (k))
      by_tests (Some x) p b q k rest = absurd (cc (k))

  found : (binders : List Binder) (over : TypeExpr) → AllByRecursion Undeclared binders → innermost var binders ≡ Some over → Innermost binders over
  found [] over u e = absurd (cc (e))
  found ((word, of) ∷ binders) over u e = by_tests (innermost var binders) refl (bytes_eq word.name var) refl e (found binders over u.1)
    where
      by_tests : (o : Option TypeExpr) → innermost var binders ≡ o → (b : Bool) → bytes_eq word.name var ≡ b → option_or o (if b then Some of else None) ≡ Some over → (innermost var binders ≡ Some over → Innermost binders over) → Innermost ((word, of) ∷ binders) over
      by_tests (Some x) p b q k rest =
          let r = rest (p ∙ k) in
          record { outer = (word.name, of) ∷ r.outer; inner = r.inner; split = ap (λ l. (word.name, of) ∷ l) r.split; none = r.none; bound = bound-front word (vars_of binders) var r.bound; own = r.own }
      by_tests None p true q k rest =
          let same : word.name ≡ var = (bytes_eq-Decides word.name var).0 q in
          let over_is : of ≡ over = cc (k) in
          record {
            outer = [];
            inner = params_of binders;
            split = ap (λ n. (n, of) ∷ params_of binders) same ∙ ap (λ t. (var, t) ∷ params_of binders) over_is;
            none = none-of binders p;
            bound = bound-first word (vars_of binders) var q;
            own = subst (λ n. w.is_declared n ≡ false) same u.0;
          }
      by_tests None p false q k rest = absurd (cc (k))

  -- what the strengthened expression says, in its parts
  record Parts (vars : List Word) (e : Expr) : Type 0 where
    new : AreFine w (in_expr (vars ++ word_of fresh ∷ []) (renamed var fresh e))
    binder : IsFine w (binder_in vars (word_of fresh))
    own : AreFine w (in_expr vars e)

  parts-of : (vars : List Word) (e : Expr) → AreFine w (in_expr vars (stronger var fresh set e)) → Parts vars e
  unfolding in_expr in_type computing
  parts-of vars e h =
      let inside : List Word = vars ++ word_of fresh ∷ [] in
      let compared : List Mention = in_expr inside (expr.Compare Less (variable fresh) (variable var)) in
      let smaller : List Mention = in_expr inside (renamed var fresh e) ++ [] in
      let all : List Mention = in_expr vars (for_smaller var fresh set e) in
      let first = each-front (IsFine w) all (in_expr vars e ++ []) h in
      record {
        new = each-front (IsFine w) (in_expr inside (renamed var fresh e)) [] (each-behind (IsFine w) compared smaller (each-front (IsFine w) (compared ++ smaller) (binder_in vars (word_of fresh) ∷ in_type (type.Named (word_of set) 0)) first));
        binder = (each-behind (IsFine w) (compared ++ smaller) (binder_in vars (word_of fresh) ∷ in_type (type.Named (word_of set) 0)) first).0;
        own = each-front (IsFine w) (in_expr vars e) [] (each-behind (IsFine w) all (in_expr vars e ++ []) h);
      }

  over-set : (over : TypeExpr) → ordset_named tops (Some over) ≡ Some set → (simple types over ≡ Some (ordset set)) × (simple types (type.Named (word_of set) 0) ≡ Some (ordset set))
  over-set (Named word at) e = by_test (list_any (is_ordset word.name) tops) refl e
    where
      by_test : (b : Bool) → list_any (is_ordset word.name) tops ≡ b → (if b then Some word.name else None) ≡ Some set → (simple types (Named word at) ≡ Some (ordset set)) × (simple types (type.Named (word_of set) 0) ≡ Some (ordset set))
      by_test false p q = absurd (cc (q))
      by_test true p q =
          let same : word.name ≡ set = cc (q) in
          let is = set_is (subst (λ n. list_any (is_ordset n) tops ≡ true) same p) in
          (ap (λ n. simple_of (shape_or_none (find_name types n))) same ∙ ap (λ o. simple_of (shape_or_none o)) is, ap (λ o. simple_of (shape_or_none o)) is)
  over-set Boolean e = absurd (cc (e))
  over-set (Range span at) e = absurd (cc (e))
  over-set (Enum names at) e = absurd (cc (e))
  over-set (Array' i index o of) e = absurd (cc (e))
  over-set (Struct' shape fields) e = absurd (cc (e))

  claim-inductive : (binders : List Binder) (body : Expr) → AllByRecursion Undeclared binders → ordset_named tops (innermost var binders) ≡ Some set → AreFine w (in_expr (vars_of binders) (stronger var fresh set body)) →
      IsInductive var fresh set types (params_of binders) body
  claim-inductive binders body u e h = by_found (innermost var binders) refl e
    where
      by_found : (o : Option TypeExpr) → innermost var binders ≡ o → ordset_named tops o ≡ Some set → IsInductive var fresh set types (params_of binders) body
      by_found None p q = absurd (cc (q))
      by_found (Some over) p q =
          let i = found binders over u p in
          let s = over-set over q in
          let parts = parts-of (vars_of binders) body h in
          let apart : bytes_eq fresh var ≡ false = other-bound (vars_of binders) fresh var parts.binder.0 i.bound in
          record {
            outer = i.outer;
            over = over;
            inner = i.inner;
            split = i.split;
            of_set = s.0;
            named = s.1;
            innermost = i.none;
            apart = apart;
            renamable = renamable w var fresh apart i.own parts.binder.1 no_type body (vars_of binders) (vars_of binders ++ word_of fresh ∷ [])
                (record { no_fresh = parts.binder.0; has_var = i.bound; has_fresh = bound-last (vars_of binders) (word_of fresh) }) parts.own parts.new;
          }

  -- ---- items

  module _ (name : Name) where
    each-last : (binders : List Binder) (b : Binder) → AllByRecursion Undeclared binders → Undeclared b → AllByRecursion Undeclared (binders ++ b ∷ [])
    each-last [] b u v = (v, tt)
    each-last (x ∷ binders) b u v = (u.0, each-last binders b u.1 v)

    mutual
      unfolding changed_item

      item-inductive : (binders : List Binder) (a : Item) → AllByRecursion Undeclared binders → AreOver tops var set name (claims_in binders a) → AreFineClaims w (vars_of binders) (changed_item (strengthened var fresh set name) a) →
          IsInductiveItem var fresh set name types (params_of binders) a
      item-inductive binders (Declare role names of at) u o h = tt
      item-inductive binders (Instance names m args at) u o h = tt
      item-inductive binders (Layer word body at) u o h = tt
      item-inductive binders (Forall' word over shape items at) u o h =
          subst (λ l. AreInductiveItems var fresh set name types l items) (map-append (λ (b : Binder). (b.0.name, b.1)) binders ((word, over) ∷ []))
          (items-inductive (binders ++ (word, over) ∷ []) items (each-last binders (word, over) u h.0) o
          (subst (λ l. AreFineItems w l (changed_items (strengthened var fresh set name) items)) (sym (map-append (λ (b : Binder). b.0) binders ((word, over) ∷ []))) h.1))
      item-inductive binders (Block' shape items) u o h = items-inductive binders items u o h
      item-inductive binders (Claim word vars body at) u o h =
          λ named. claim-inductive binders body u (o.0 named) (subst (λ (b : Bool). AreFine w (in_expr (vars_of binders) (if b then stronger var fresh set body else body))) named h)
      item-inductive binders (Split word vars of pairs at) u o h = tt
      item-inductive binders (Using uses proves at) u o h = tt
      item-inductive binders (Act act) u o h = tt

      items-inductive : {m : _} (binders : List Binder) (row : Row_of-Item m) → AllByRecursion Undeclared binders → AreOver tops var set name (all_claims_in binders row) → AreFineItems w (vars_of binders) (changed_items (strengthened var fresh set name) row) →
          AreInductiveItems var fresh set name types (params_of binders) row
      items-inductive binders end_of-Item u o h = tt
      items-inductive binders (more_of-Item a rest) u o h = (
        item-inductive binders a u (each-front (λ (d : Found). bytes_eq d.word.name name ≡ true → ordset_named tops (innermost var d.binders) ≡ Some set) (claims_in binders a) (all_claims_in binders rest) o) h.0,
        items-inductive binders rest u (each-behind (λ (d : Found). bytes_eq d.word.name name ≡ true → ordset_named tops (innermost var d.binders) ≡ Some set) (claims_in binders a) (all_claims_in binders rest) o) h.1,
      )

    pub body-inductive : (items : List Item) → AreOver tops var set name (flat_map (claims_in []) items) → AllByRecursion (AreFineClaims w []) (map (changed_item (strengthened var fresh set name)) items) → IsInductiveBody var fresh set name types items
    body-inductive [] o h = tt
    body-inductive (a ∷ items) o h = (
      item-inductive [] a tt (each-front (λ (d : Found). bytes_eq d.word.name name ≡ true → ordset_named tops (innermost var d.binders) ≡ Some set) (claims_in [] a) (flat_map (claims_in []) items) o) h.0,
      body-inductive items (each-behind (λ (d : Found). bytes_eq d.word.name name ≡ true → ordset_named tops (innermost var d.binders) ≡ Some set) (claims_in [] a) (flat_map (claims_in []) items) o) h.1,
    )
