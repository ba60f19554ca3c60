-- What is demanded in a case, as it is written.
use Rattle.std.proofs.Common.{◌≡◌, ℕ, zero, suc, List, [], ◌∷◌, ◌++◌, map, take, length, slice_get, Option, Some, None, Bool, true, false, ◌&&◌, if◌then◌else◌, refl, sym, ap, subst, ◌∙◌, arith}
use Rattle.std.specs.Prelude.{option_to_list}
use Rattle.std.specs.List.{flat_map, zip}
use Rattle.std.proofs.lemmas.List.{map-append}
use Rattle.std.proofs.lemmas.List.Folds.{flat_map-map}
use Rattle.law_lists.proofs.Lists.{length_map, map-flat_map, map-map, map-take, map-if}
use Rattle.law_lists.proofs.Booleans.{same_tests}
use Rattle.smv_core.specs.FlatMeaning.{Numbered}
use Rattle.smv_core.specs.declared.flat.Simple.{Simple}
use Rattle.smv_core.specs.declared.flat.Class.{Class}
use Rattle.smv_core.specs.declared.flat.Element.{Element}
use Rattle.smv_core.specs.declared.flat.Def.{Def}
use Rattle.smv_core.specs.declared.flat.Param.{Param}
use Rattle.smv_core.specs.declared.flat.Claim.{Claim as FlatClaim}
use Rattle.smv_core.specs.declared.flat.Assumed.{Assumed}
use Rattle.smv_core.specs.declared.flat.Design.{Design}
use Rattle.smv_core.specs.declared.flat.Unit.{Unit}
use Rattle.smv_core.specs.declared.flat.Leaf.{Leaf}
use Rattle.smv_core.specs.declared.flat.Choice.{Choice}
use Rattle.smv_core.specs.declared.flat.Timing.{Timing}
use Rattle.smv_core.specs.declared.flat.Timing.TheVariants.{Before}
use Rattle.smv_core.specs.declared.flat.Timed.{Timed}
use Rattle.law_obligations.specs.Sets.{Has, first, later, one_of_each}
use Rattle.law_obligations.specs.Places.{Place, World, named_in}
use Rattle.law_obligations.specs.Covers.{AreApart, IsIndexType}
use Rattle.law_obligations.specs.Obligations.{Demanded, defined, holds}
use Rattle.law_obligations.specs.Soundness as sound
use Rattle.law_obligations.specs.Soundness.{FlatUnit, map_of, claim_of, over_of, said_at}
use Rattle.law_obligations.proofs.Members.{Has-left, Has-map, Has-from_map}
use Rattle.law_obligations.specs.Outlines.{Entry, entries_of, names_of, unit_in, map_in, assumed, chosen}
use Rattle.law_obligations.specs.Units.{units_of}
use Rattle.law_obligations.specs.Cones.{AbsElement, element, same_element}
use Rattle.law_obligations.specs.Problems.{is_at, family_time, leaf_treatments, element_demands, own_demands, itself_demands, instances, demands}
use Rattle.law_obligations.specs.Checked.{IsSplit}
use Rattle.law_obligations.proofs.ConeFacts.{same_element-itself}
use Rattle.law_obligations.proofs.OutlineFacts.{assumed-comes}
use Rattle.law_obligations.proofs.LeastCones.{same_element-is}
use Rattle.law_obligations.proofs.CoverParams.{map-same}
use Rattle.law_problems.specs.Parts.{outlined}
use Rattle.smv_problem.specs.Written.{written_class, written_spot, written_element, written_demand}
use Rattle.smv_problem.specs.declared.problem.Demand.{Demand}
use Rattle.smv_problem.specs.declared.problem.Demand.TheVariants.{Holds}
use Rattle.smv_elements.specs.Elements as elements
use Rattle.smv_elements.proofs.Keys.{same-is, same-itself}
use Rattle.smv_spots.specs.declared.spots.Spot.{Spot}
use Rattle.smv_reads.specs.Views.{world_of, place_in, places}
use Rattle.smv_chosen.proofs.ClaimLaws.{claim-assumed}
use Rattle.smv_cone.specs.declared.parts.Part.{Part}
use Rattle.smv_cone.specs.Parts.{spots_in, outline_of, entry_of, params_of, cone_of, IsPartView, IsPartOf}
use Rattle.smv_cone.proofs.SearchLaws.{element-back, cone-of}
use Rattle.smv_cone.proofs.Views as views
use Rattle.smv_cone.proofs.Views.{part-view, part-least}
use Rattle.smv_obligations.specs.Demands.{element_in, defined_in, spots_of, held_from, said, own_indexes, target_in, chosen_in, is_own, own_in, itself_in, element_in_turn, instances_in, claim_in_turn, demands_in}
use Rattle.smv_obligations.proofs.Lists.{flat-same, each-changed}
use Rattle.smv_obligations.proofs.SpotLaws.{spots-back, index-spots, take-spots}

-- the entry of a unit
entry-at : (us : List Unit) (leaves : List Leaf) (choices : List Choice) → length leaves ≡ length us → length choices ≡ length us → (k : ℕ) (unit : Unit) → slice_get us k ≡ Some unit → (e : Entry) × Has (entries_of us leaves choices) e × (e.unit ≡ unit)
entry-at [] leaves choices l c k unit e = absurd (cc)
entry-at (u ∷ us) [] choices l c k unit e = absurd (omega arith)
entry-at (u ∷ us) (leaf ∷ leaves) [] l c k unit e = absurd (omega arith)
entry-at (u ∷ us) (leaf ∷ leaves) (choice ∷ choices) l c zero unit e = (record { unit = u; leaf = leaf; choice = choice }, first, cc (e))
entry-at (u ∷ us) (leaf ∷ leaves) (choice ∷ choices) l c (suc k) unit e = let r = entry-at us leaves choices (omega arith) (omega arith) k unit e in (r.0, later r.1, r.2)

-- some parameters are over index types where all are that begin with their types
over-index-types : (all some : List Param) (more : List Simple) → map (λ (q : Param). q.over) all ≡ map (λ (q : Param). q.over) some ++ more → ((q : Param) → Has all q → IsIndexType q.over) → (q : Param) → Has some q → IsIndexType q.over
over-index-types all some more types each q m =
    let here : Has (map (λ (q : Param). q.over) all) q.over = subst (λ (ts : List Simple). Has ts q.over) (sym types) (Has-left more (Has-map (λ (q : Param). q.over) m)) in
    let back = Has-from_map (λ (q : Param). q.over) all here in
    subst IsIndexType (sym back.2) (each back.0 back.1)

module _ (p : Part) (h : IsPartOf p) where
  abbrev d : Design
  d = p.view.design.now

  abbrev pub w : World
  w = world_of p.view

  abbrev pub n : Numbered
  n = (world_of p.view).classes

  view : IsPartView p
  view = part-view p h

  apart : AreApart p.view.design.now.sets
  apart = h.is_part.is_checked.are_apart

  -- ---- the parameters of the leaf and of its unit

  pub bindings-are : map (written_spot n) (params_of p) ≡ p.params.now
  bindings-are =
      ap (λ (ss : List Spot). map (written_spot n) (places p.view ss)) (views.spots-by p h)
      ∙ (spots-back p.view apart (leaf_treatments (outlined d) (views.entry p h)) (length (views.params p h)) (views.params p h) p.classes.now (views.candidates-are p h) (views.filled p h) ∙ sym (views.spots-by p h))

  -- the types of the unit's own parameters
  abbrev own_types : FlatUnit → List Simple
  own_types u = sound.params_of (names_of p.view.design.now) u

  -- where they stand
  abbrev pub own_of : List Place
  own_of = take (length (sound.params_of (names_of p.view.design.now) (said p))) (params_of p)

  split-is : map (λ (q : Param). q.over) p.leaf.now.params ≡ own_types (said p) ++ (views.split p h).added
  split-is = subst (λ (e : Entry). map (λ (q : Param). q.over) p.leaf.now.params ≡ own_types (unit_in d e.unit) ++ (views.split p h).added) (views.entry-is p h) (views.split p h).are_params

  own-is : own_of ≡ places p.view (spots_in (own_types (said p)) (take (length (own_types (said p))) p.classes.now))
  own-is =
      let front = own_types (said p) in
      sym (map-take (place_in p.view) (length front) p.params.now)
      ∙ ap (places p.view) (ap (take (length front)) (h.spots ∙ ap (λ (ts : List Simple). spots_in ts p.classes.now) split-is) ∙ take-spots front (views.split p h).added p.classes.now)

  own-classes : map written_class own_of ≡ take (length (own_types (said p))) p.classes.now
  own-classes = map-take written_class (length (own_types (said p))) (params_of p) ∙ ap (take (length (own_types (said p)))) view.are_written

  own-spots : map (written_spot n) own_of ≡ take (length (own_types (said p))) p.params.now
  own-spots = map-take (written_spot n) (length (own_types (said p))) (params_of p) ∙ ap (take (length (own_types (said p)))) bindings-are

  -- ---- the target

  target-at : (u : FlatUnit) → said p ≡ u → written_demand n (said_at u own_of) ≡ target_in p u
  target-at (map_of def) e = ap (defined_in def) (own-classes ∙ ap (λ (u : FlatUnit). take (length (own_types u)) p.classes.now) e)
  target-at (claim_of claim) e =
      ap (Holds claim.body) (own-spots ∙ (ap (λ (u : FlatUnit). take (length (own_types u)) p.params.now) e ∙ ap (λ (k : ℕ). take k p.params.now) (length_map (λ (q : Param). q.over) claim.params)))

  pub target-is : written_demand n (said_at (said p) own_of) ≡ target_in p (said p)
  target-is = target-at (said p) refl

  -- ---- elements

  -- the target's element and one of the cone are the same where they are written alike
  tests-are : (def : Def) → said p ≡ map_of def → (x : AbsElement) → Has (cone_of p) x → same_element (element def.family own_of) x ≡ is_own p def (written_element x)
  tests-are def e x m = same_tests (same_element (element def.family own_of) x) (is_own p def (written_element x)) there back
    where
      classes : map written_class own_of ≡ own_indexes p def
      classes = own-classes ∙ ap (λ (u : FlatUnit). take (length (own_types u)) p.classes.now) e

      there : same_element (element def.family own_of) x ≡ true → is_own p def (written_element x) ≡ true
      there t =
          let i : element def.family own_of ≡ x = same_element-is (element def.family own_of) x t in
          subst (λ (y : AbsElement). is_own p def (written_element y) ≡ true) i
          (ap (λ (cs : List Class). elements.same_element (element_in def.family (own_indexes p def)) (element_in def.family cs)) classes ∙ same-itself (element_in def.family (own_indexes p def)))

      back : is_own p def (written_element x) ≡ true → same_element (element def.family own_of) x ≡ true
      back t =
          let i : element_in def.family (own_indexes p def) ≡ written_element x = same-is (element_in def.family (own_indexes p def)) (written_element x) t in
          let family : def.family ≡ x.family = ap (λ (y : Element). y.family) i in
          let indexes : own_indexes p def ≡ map written_class x.indexes = ap (λ (y : Element). y.indexes) i in
          let same : own_of ≡ x.indexes = own-is
          ∙ (ap (λ (u : FlatUnit). places p.view (spots_in (own_types u) (take (length (own_types u)) p.classes.now))) e
          ∙ (ap (λ (cs : List Class). places p.view (spots_in (over_of (slice_get p.view.design.now.families def.family)) cs)) indexes
          ∙ (ap (λ (k : ℕ). places p.view (spots_in (over_of (slice_get p.view.design.now.families k)) (map written_class x.indexes))) family ∙ element-back p.view view.is_view x (cone-of p view (part-least p h) x m)))) in
          ap (λ (k : ℕ). same_element (element k own_of) x) family ∙ (ap (λ (ps : List Place). same_element (element x.family ps) x) same ∙ same_element-itself x)

  module _ (times : Timed) (time : Timing) where
    chosen-is : (x : AbsElement) → map (written_demand n) (element_demands (outline_of p) (entry_of p) times w own_of time x) ≡ chosen_in p times time (written_element x)
    chosen-is x = by (is_at (family_time p.choice.now.picks times.picks x.family) time) (chosen (outline_of p) p.choice.now.picks x.family)
      where
        by : (b : Bool) (o : Option Def) →
            map (written_demand n) (if b then map (λ def. defined def x.indexes) (option_to_list o) else []) ≡ (if b then map (λ def. defined_in def (map written_class x.indexes)) (option_to_list o) else [])
        by true None = refl
        by true (Some def) = refl
        by false o = refl

    itself-is : (x : AbsElement) → Has (cone_of p) x → map (written_demand n) (itself_demands (outline_of p) (entry_of p) times w own_of time x) ≡ itself_in p time (written_element x)
    itself-is x m = by (is_at time Before && p.choice.now.itself) (said p) refl
      where
        by : (b : Bool) (u : FlatUnit) → said p ≡ u →
            map (written_demand n) (if b then own_demands (outline_of p) (entry_of p) times w own_of x (map_in u) else []) ≡ (if b then own_in p (written_element x) (map_in u) else [])
        by false u e = refl
        by true (claim_of claim) e = refl
        by true (map_of def) e =
            ap (λ (t : Bool). map (written_demand n) (if t then defined def x.indexes ∷ [] else [])) (tests-are def e x m) ∙ map-if (written_demand n) (is_own p def (written_element x)) (defined def x.indexes ∷ [])

    abbrev of_element : AbsElement → List Demanded
    of_element x = element_demands (outline_of p) (entry_of p) times w own_of time x ++ itself_demands (outline_of p) (entry_of p) times w own_of time x

    element-is : (x : AbsElement) → Has (cone_of p) x → map (written_demand n) (of_element x) ≡ element_in_turn p times time (written_element x)
    unfolding element_in_turn
    element-is x m =
        let itself = itself_demands (outline_of p) (entry_of p) times w own_of time x in
        map-append (written_demand n) (element_demands (outline_of p) (entry_of p) times w own_of time x) itself
        ∙ (ap (λ (l : List Demand). l ++ map (written_demand n) itself) (chosen-is x) ∙ ap (λ (l : List Demand). chosen_in p times time (written_element x) ++ l) (itself-is x m))

    elements-are : map (written_demand n) (flat_map of_element (cone_of p)) ≡ flat_map (element_in_turn p times time) (map written_element (cone_of p))
    elements-are =
        map-flat_map (written_demand n) of_element (cone_of p)
        ∙ (flat-same (λ (x : AbsElement). map (written_demand n) (of_element x)) (λ (x : AbsElement). element_in_turn p times time (written_element x)) (cone_of p) element-is
        ∙ sym (flat_map-map (element_in_turn p times time) written_element (cone_of p)))

    -- ---- claims

    -- the parameters of a claim are over index types, since it is a unit
    typed : (k : ℕ) (claim : FlatClaim) → slice_get d.claims k ≡ Some claim → (q : Param) → Has claim.params q → IsIndexType q.over
    typed k claim e q m =
        let used : Assumed = record { claim = k; early = false } in
        let comes = assumed-comes (outlined d) used claim (claim-assumed d used ∙ e) in
        let says = comes.2 in
        let at = entry-at (units_of d) h.is_part.leaves h.is_part.choices h.is_part.each_leaf h.is_part.each_choice comes.0 says.unit says.is_there in
        let entry : Entry = at.0 in
        let split : IsSplit (views.s p h) entry = h.is_part.is_checked.are_split entry at.1 in
        let types : map (λ (q : Param). q.over) entry.leaf.params ≡ map (λ (q : Param). q.over) claim.params ++ split.added =
        split.are_params ∙ ap (λ (u : FlatUnit). own_types u ++ split.added) (ap (unit_in d) at.2 ∙ says.is_said) in
        over-index-types entry.leaf.params claim.params split.added types split.are_index_types q m

    held-is : (claim : FlatClaim) → ((q : Param) → Has claim.params q → IsIndexType q.over) →
        map (written_demand n) (map (holds claim.body) (one_of_each (map (named_in w) (map (λ (q : Param). q.over) claim.params)))) ≡ held_from p [] claim.params claim.body
    unfolding held_from
    held-is claim i =
        let pss = map (named_in w) (map (λ (q : Param). q.over) claim.params) in
        map-map (written_demand n) (holds claim.body) (one_of_each pss)
        ∙ (sym (map-map (Holds claim.body) (map (written_spot n)) (one_of_each pss))
        ∙ ap (map (Holds claim.body)) (each-changed (written_spot n) pss
        ∙ ap one_of_each (map-map (map (written_spot n)) (named_in w) (map (λ (q : Param). q.over) claim.params)
        ∙ (map-map (λ (t : Simple). map (written_spot n) (named_in w t)) (λ (q : Param). q.over) claim.params
        ∙ map-same (λ (q : Param). map (written_spot n) (named_in w q.over)) (λ (q : Param). spots_of p q.over) claim.params (λ q m. index-spots p.view apart view.is_view q.over (i q m))))))

    instance-is : (k : ℕ) (o : Option FlatClaim) → slice_get d.claims k ≡ o → map (written_demand n) (instances (outline_of p) (entry_of p) times w own_of o) ≡ instances_in p o
    instance-is k None e = refl
    instance-is k (Some claim) e = held-is claim (typed k claim e)

    abbrev of_claim : Assumed × Timing → List Demanded
    of_claim (used, t) = if is_at t time then instances (outline_of p) (entry_of p) times w own_of (assumed (outline_of p) used) else []

    assumed-is : (used : Assumed) → assumed (outline_of p) used ≡ slice_get d.claims used.claim
    assumed-is used = ap (λ (us : List Unit). assumed (record { design = p.view.design.now; units = us }) used) h.units ∙ claim-assumed p.view.design.now used

    claim-is : (z : Assumed × Timing) → map (written_demand n) (of_claim z) ≡ claim_in_turn p time z
    unfolding claim_in_turn
    claim-is (used, t) =
        map-if (written_demand n) (is_at t time) (instances (outline_of p) (entry_of p) times w own_of (assumed (outline_of p) used))
        ∙ ap (λ (l : List Demand). if is_at t time then l else [])
        (ap (λ (o : Option FlatClaim). map (written_demand n) (instances (outline_of p) (entry_of p) times w own_of o)) (assumed-is used) ∙ instance-is used.claim (slice_get d.claims used.claim) refl)

    claims-are : map (written_demand n) (flat_map of_claim (zip p.choice.now.claims times.claims)) ≡ flat_map (claim_in_turn p time) (zip p.choice.now.claims times.claims)
    claims-are =
        map-flat_map (written_demand n) of_claim (zip p.choice.now.claims times.claims)
        ∙ flat-same (λ (z : Assumed × Timing). map (written_demand n) (of_claim z)) (claim_in_turn p time) (zip p.choice.now.claims times.claims) (λ z m. claim-is z)

    -- ---- all of them

    pub demands-are : map (written_demand n) (demands (outline_of p) (entry_of p) times w own_of (cone_of p) time) ≡ demands_in p times time (map written_element (cone_of p))
    demands-are =
        let claims = flat_map of_claim (zip p.choice.now.claims times.claims) in
        map-append (written_demand n) (flat_map of_element (cone_of p)) claims
        ∙ (ap (λ (l : List Demand). l ++ map (written_demand n) claims) elements-are ∙ ap (λ (l : List Demand). flat_map (element_in_turn p times time) (map written_element (cone_of p)) ++ l) claims-are)
