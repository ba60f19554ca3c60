-- The leaves of a design without a fault of splits.
use Rattle.std.proofs.Common.{◌≡◌, ℕ, suc, List, [], ◌∷◌, ◌++◌, map, zip, length, refl, sym, ap, subst, ◌∙◌, inl, inr, Option, Some, None}
use Rattle.std.specs.List.{slice_get}
use Rattle.std.proofs.lemmas.List.{map-append}
use Rattle.law_lists.proofs.Lists.{length_map}
use Rattle.smv_core.specs.declared.flat.Design.{Design}
use Rattle.smv_core.specs.declared.flat.Simple.{Simple}
use Rattle.smv_core.specs.declared.flat.Family.{Family}
use Rattle.smv_core.specs.declared.flat.Def.{Def}
use Rattle.smv_core.specs.declared.flat.Claim.{Claim as FlatClaim}
use Rattle.smv_core.specs.declared.flat.Param.{Param}
use Rattle.smv_core.specs.declared.flat.Unit.{Unit}
use Rattle.smv_core.specs.declared.flat.Unit.TheVariants.{Map, Claim}
use Rattle.smv_core.specs.declared.flat.Leaf.{Leaf}
use Rattle.smv_core.specs.declared.flat.Choice.{Choice}
use Rattle.law_obligations.specs.Sets.{Has, first, later}
use Rattle.law_obligations.specs.Guards.{AreGuards}
use Rattle.law_obligations.specs.Soundness.{FlatUnit, map_of, claim_of, over_of, params_of}
use Rattle.law_obligations.proofs.Members.{Has-uncons, Has-from_map, Has-right}
use Rattle.law_obligations.proofs.OneOfEach.{get_Has}
use Rattle.law_obligations.specs.Outlines.{Entry, entries_of, names_of, as_map, as_claim, unit_in}
use Rattle.law_obligations.specs.Units.{units_of, script_of}
use Rattle.law_obligations.specs.Checked.{IsSplit}
use Rattle.law_splits.specs.Leaves.{nameless, name_of, own_params, Cut, chain_of, params_after, leaf_of, leaves_from, leaves_of}
use Rattle.law_splits.specs.SplitFaults.{faults_of_splits}
use Rattle.law_splits.specs.SplitLaws.{IsIndex, IsRead}
use Rattle.law_splits.proofs.Params.{numbered_types, nameless_types, from_numbered}
use Rattle.law_splits.proofs.OneCut.{IsGood}
use Rattle.law_splits.proofs.Good.{good_chain}
use Rattle.law_splits.proofs.Chains.{Follows, chain_follows, adds, indexes_after, chain_guards}

own_types : (d : Design) (unit : FlatUnit) → map (λ p. p.over) (own_params d unit) ≡ params_of (names_of d) unit
own_types d (map_of def) = numbered_types 0 (map nameless (over_of (slice_get d.families def.family))) ∙ nameless_types (over_of (slice_get d.families def.family))
own_types d (claim_of claim) = refl

module _ (d : Design) (read : IsRead d) where
  of_family : (o : Option Family) (k : ℕ) → slice_get d.families k ≡ o → (t : Simple) → Has (over_of o) t → IsIndex d t
  of_family None k e t h = elim h [ ]
  of_family (Some f) k e t h = read.families f (get_Has d.families k f e) t h

  of_map : (def : Def) (p : Param) → Has (own_params d (map_of def)) p → IsIndex d p.over
  of_map def p h =
      let n = from_numbered 0 (map nameless (over_of (slice_get d.families def.family))) p h in
      let r = Has-from_map nameless (over_of (slice_get d.families def.family)) n.was_there in
      subst (IsIndex d) (sym (ap (λ (p : Param). p.over) r.2) ∙ n.same_type) (of_family (slice_get d.families def.family) def.family refl r.0 r.1)

  of_def : (o : Option Def) (p : Param) → Has (own_params d (as_map o)) p → IsIndex d p.over
  of_def None p h = elim h [ ]
  of_def (Some def) p h = of_map def p h

  of_claim : (o : Option FlatClaim) (k : ℕ) → slice_get d.claims k ≡ o → (p : Param) → Has (own_params d (as_claim o)) p → IsIndex d p.over
  of_claim None k e p h = elim h [ ]
  of_claim (Some claim) k e p h = read.claims claim (get_Has d.claims k claim e) p h

  own_indexes : (unit : Unit) (p : Param) → Has (own_params d (unit_in d unit)) p → IsIndex d p.over
  own_indexes (Map k) p h = of_def (slice_get d.defs k) p h
  own_indexes (Claim k) p h = of_claim (slice_get d.claims k) k refl p h

  -- a unit and its leaf
  pub record IsLeafOf (unit : Unit) (leaf : Leaf) : Type 0 where
    pub added : List Param
    pub are_types : map (λ p. p.over) leaf.params ≡ params_of (names_of d) (unit_in d unit) ++ map (λ p. p.over) added
    pub are_indexes : (p : Param) → Has leaf.params p → IsIndex d p.over
    pub added_indexes : (p : Param) → Has added p → IsIndex d p.over
    pub are_guards : AreGuards (length (params_of (names_of d) (unit_in d unit))) (map (λ p. p.over) leaf.params) leaf.guards

  module _ (none : faults_of_splits d ≡ []) where
    leaf_is : (u : ℕ) (unit : Unit) → Has (units_of d) unit → IsLeafOf unit (leaf_of d u (unit_in d unit))
    leaf_is u unit h =
        let own = own_params d (unit_in d unit) in
        let cuts = chain_of d (unit_in d unit) in
        let follows : Follows own cuts = chain_follows d (length d.splits) (name_of d (unit_in d unit)) own in
        let good : (c : Cut) → Has cuts c → IsGood d c = good_chain d read none unit h in
        let more = adds own cuts follows in
        let all = params_after own cuts in
        let indexes : (p : Param) → Has all p → IsIndex d p.over = indexes_after d own cuts follows good (own_indexes unit) in
        let guards = chain_guards d own cuts follows good all refl in
        let types = own_types d (unit_in d unit) in
        let long : length own ≡ length (params_of (names_of d) (unit_in d unit)) = sym (length_map (λ p. p.over) own) ∙ ap length types in
        record {
          added = more.more;
          are_types = ap (map (λ p. p.over)) more.is ∙ (map-append (λ p. p.over) own more.more ∙ ap (λ ts. ts ++ map (λ p. p.over) more.more) types);
          are_indexes = indexes;
          added_indexes = λ p k. indexes p (subst (λ ps. Has ps p) (sym more.is) (Has-right own k));
          are_guards = subst (λ count. AreGuards count (map (λ p. p.over) all) (leaf_of d u (unit_in d unit)).guards) long guards;
        }

    -- beside each other
    leaf_at : (u : ℕ) (units : List Unit) → ((unit : Unit) → Has units unit → Has (units_of d) unit) → (unit : Unit) (leaf : Leaf) → Has (zip units (leaves_from d u units)) (unit, leaf) → IsLeafOf unit leaf
    leaf_at u [] each unit leaf h = elim h [ ]
    leaf_at u (first_unit ∷ units) each unit leaf h = elim (Has-uncons h) [
      | inl e ↦ subst (λ (pair : Unit × Leaf). IsLeafOf pair.0 pair.1) (sym e) (leaf_is u first_unit (each first_unit first))
      | inr l ↦ leaf_at (suc u) units (λ unit k. each unit (later k)) unit leaf l
    ]

    pub leaf_of_unit : (unit : Unit) (leaf : Leaf) → Has (zip (units_of d) (leaves_of d)) (unit, leaf) → IsLeafOf unit leaf
    leaf_of_unit = leaf_at 0 (units_of d) (λ unit h. h)

-- an entry of a script is of a unit and its leaf
entry_pair : (units : List Unit) (leaves : List Leaf) (choices : List Choice) (entry : Entry) → Has (entries_of units leaves choices) entry → Has (zip units leaves) (entry.unit, entry.leaf)
entry_pair [] leaves choices entry h = elim h [ ]
entry_pair (unit ∷ units) [] choices entry h = elim h [ ]
entry_pair (unit ∷ units) (leaf ∷ leaves) [] entry h = elim h [ ]
entry_pair (unit ∷ units) (leaf ∷ leaves) (choice ∷ choices) entry h = elim (Has-uncons h) [
  | inl e ↦ subst (λ (entry : Entry). Has (zip (unit ∷ units) (leaf ∷ leaves)) (entry.unit, entry.leaf)) (sym e) first
  | inr l ↦ later (entry_pair units leaves choices entry l)
]

pub is_split : (d : Design) → IsRead d → faults_of_splits d ≡ [] → (choices : List Choice) (entry : Entry) → Has (script_of d (leaves_of d) choices).entries entry → IsSplit (script_of d (leaves_of d) choices) entry
is_split d read none choices entry h =
    let r = leaf_of_unit d read none entry.unit entry.leaf (entry_pair (units_of d) (leaves_of d) choices entry h) in
    record {
      added = map (λ p. p.over) r.added;
      are_params = r.are_types;
      are_index_types = λ p k. (r.are_indexes p k).is_index_type;
      are_filled = λ p k. (r.are_indexes p k).is_filled;
      are_guards = r.are_guards;
    }

pub one_each : (d : Design) (u : ℕ) (units : List Unit) → length (leaves_from d u units) ≡ length units
one_each d u [] = refl
one_each d u (unit ∷ units) = ap suc (one_each d (suc u) units)

pub one_leaf_each : (d : Design) → length (leaves_of d) ≡ length (units_of d)
one_leaf_each d = one_each d 0 (units_of d)
