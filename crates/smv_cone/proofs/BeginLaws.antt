-- With what the search for a cone begins.
use Rattle.std.proofs.Common.{◌≡◌, ℕ, List, [], ◌∷◌, ◌++◌, map, take, length, slice_get, Option, Some, None, Bool, ◌&&◌, if◌then◌else◌, refl, sym, ap, ◌∙◌}
use Rattle.std.specs.List.{flat_map, list_all}
use Rattle.std.proofs.lemmas.List.{map-append, append_assoc}
use Rattle.law_lists.proofs.Lists.{map-take, map-if, map-flat_map, flat_map_alike}
use Rattle.smv_core.specs.Values.{number, constant, scalar, ordinal}
use Rattle.smv_core.specs.declared.flat.Element.{Element}
use Rattle.smv_core.specs.declared.flat.Def.{Def}
use Rattle.smv_core.specs.declared.flat.Claim.{Claim as FlatClaim}
use Rattle.smv_core.specs.declared.flat.Guard.{Guard}
use Rattle.smv_core.specs.declared.flat.Assumed.{Assumed}
use Rattle.smv_core.specs.declared.flat.Unit.{Unit}
use Rattle.smv_core.specs.declared.flat.Unit.TheVariants.{Map, Claim}
use Rattle.law_obligations.specs.Places.{Place, named, rest, is_named}
use Rattle.law_obligations.specs.Soundness.{over_of}
use Rattle.law_obligations.specs.Outlines.{assumed, unit_in, as_map, as_claim}
use Rattle.law_obligations.specs.Cones.{element, elements_read, elements_of_def, elements_assumed, of_target}
use Rattle.smv_problem.specs.Written.{written_class, written_element}
use Rattle.smv_reads.specs.Views.{world_of, place_in}
use Rattle.smv_reads.specs.Reading.{read_in, read_of}
use Rattle.smv_chosen.proofs.ClaimLaws.{claim-assumed}
use Rattle.smv_cone.specs.declared.parts.Part.{Part}
use Rattle.smv_cone.specs.Parts.{is_class, own_in, outline_of, entry_of, params_of, IsPartView}
use Rattle.smv_cone.specs.Begins.{read_instances, read_map, read_body, read_unit, read_guards, read_assumed, read_claims, read_first}

-- a place is named where its class is no rest
class-named : (p : Place) → is_class (written_class p) ≡ is_named p
class-named (named (number k)) = refl
class-named (named (constant name)) = refl
class-named (named (scalar t k)) = refl
class-named (named (ordinal t k)) = refl
class-named (rest (number k)) = refl
class-named (rest (constant name)) = refl
class-named (rest (scalar t k)) = refl
class-named (rest (ordinal t k)) = refl

classes-named : (ps : List Place) → list_all is_class (map written_class ps) ≡ list_all is_named ps
classes-named [] = refl
classes-named (p ∷ ps) = ap (λ (b : Bool). b && list_all is_class (map written_class ps)) (class-named p) ∙ ap (λ (b : Bool). is_named p && b) (classes-named ps)

-- the element of a map
own-written : (family : ℕ) (ps : List Place) → map written_element (if list_all is_named ps then element family ps ∷ [] else []) ≡ own_in family (map written_class ps)
own-written family ps =
    map-if written_element (list_all is_named ps) (element family ps ∷ []) ∙ ap (λ (b : Bool). if b then written_element (element family ps) ∷ [] else []) (sym (classes-named ps))

module _ (p : Part) where
  pub map-none : (k : ℕ) → slice_get p.view.design.now.defs k ≡ None → read_unit p (Map k) ≡ []
  unfolding read_unit
  map-none k e = ap (λ (o : Option Def). map written_element (of_target (world_of p.view) (outline_of p) (entry_of p) (params_of p) (as_map o))) e

  pub claim-none : (k : ℕ) → slice_get p.view.design.now.claims k ≡ None → read_unit p (Claim k) ≡ []
  unfolding read_unit
  claim-none k e = ap (λ (o : Option FlatClaim). map written_element (of_target (world_of p.view) (outline_of p) (entry_of p) (params_of p) (as_claim o))) e

  pub claim-some : (k : ℕ) (claim : FlatClaim) → slice_get p.view.design.now.claims k ≡ Some claim → read_unit p (Claim k) ≡ read_body p claim
  unfolding read_unit read_in
  claim-some k claim e =
      ap (λ (o : Option FlatClaim). map written_element (of_target (world_of p.view) (outline_of p) (entry_of p) (params_of p) (as_claim o))) e
      ∙ ap (λ (ps : List Place). map written_element (elements_read (world_of p.view) claim.body ps)) (sym (map-take (place_in p.view) (length claim.params) p.params.now))

  pub map-some : (k : ℕ) (def : Def) → IsPartView p → slice_get p.view.design.now.defs k ≡ Some def → read_unit p (Map k) ≡ read_map p def
  unfolding read_unit read_of
  map-some k def h e =
      let count = length (over_of (slice_get p.view.design.now.families def.family)) in
      let own = take count (params_of p) in
      let classes : map written_class own ≡ take count p.classes.now = map-take written_class count (params_of p) ∙ ap (take count) h.are_written in
      ap (λ (o : Option Def). map written_element (of_target (world_of p.view) (outline_of p) (entry_of p) (params_of p) (as_map o))) e
      ∙ (map-append written_element (if list_all is_named own then element def.family own ∷ [] else []) (elements_of_def (world_of p.view) own def)
      ∙ (ap (λ (xs : List Element). xs ++ map written_element (elements_of_def (world_of p.view) own def)) (own-written def.family own ∙ ap (own_in def.family) classes)
      ∙ ap (λ (ps : List Place). own_in def.family (take count p.classes.now) ++ map written_element (elements_of_def (world_of p.view) ps def)) (sym (map-take (place_in p.view) count p.params.now))))

  pub assumed-none : (k : ℕ) → slice_get p.view.design.now.claims k ≡ None → read_assumed p k ≡ []
  unfolding read_assumed
  assumed-none k e = ap (λ (o : Option FlatClaim). map written_element (elements_assumed (world_of p.view) o)) e

  pub assumed-some : (k : ℕ) (claim : FlatClaim) → slice_get p.view.design.now.claims k ≡ Some claim → read_assumed p k ≡ read_instances p.view [] claim.params claim.body
  unfolding read_assumed read_instances
  assumed-some k claim e = ap (λ (o : Option FlatClaim). map written_element (elements_assumed (world_of p.view) o)) e

  -- all of them
  pub first-is : IsPartView p → read_first p ≡ read_unit p (entry_of p).unit ++ (read_guards p ++ read_claims p)
  unfolding read_first read_unit read_assumed read_in
  first-is h =
      let w = world_of p.view in
      let target = of_target w (outline_of p) (entry_of p) (params_of p) (unit_in p.view.design.now (entry_of p).unit) in
      let guards = flat_map (λ (g : Guard). elements_read w g.expr (params_of p)) p.leaf.now.guards in
      let claims = flat_map (λ (used : Assumed). elements_assumed w (assumed (outline_of p) used)) p.choice.now.claims in
      map-append written_element (target ++ guards) claims
      ∙ (ap (λ (xs : List Element). xs ++ map written_element claims) (map-append written_element target guards)
      ∙ (append_assoc (map written_element target) (map written_element guards) (map written_element claims)
      ∙ (ap (λ (xs : List Element). map written_element target ++ (xs ++ map written_element claims)) (map-flat_map written_element (λ (g : Guard). elements_read w g.expr (params_of p)) p.leaf.now.guards)
      ∙ ap (λ (xs : List Element). map written_element target ++ (read_guards p ++ xs))
      (map-flat_map written_element (λ (used : Assumed). elements_assumed w (assumed (outline_of p) used)) p.choice.now.claims
      ∙ flat_map_alike (λ (used : Assumed). map written_element (elements_assumed w (assumed (outline_of p) used))) (λ (used : Assumed). read_assumed p used.claim) p.choice.now.claims
      (λ used. ap (λ (o : Option FlatClaim). map written_element (elements_assumed w o)) (claims-are used))))))
    where
      claims-are : (used : Assumed) → assumed (outline_of p) used ≡ slice_get p.view.design.now.claims used.claim
      claims-are used = ap (λ (us : List Unit). assumed (record { design = p.view.design.now; units = us }) used) h.all_units ∙ claim-assumed p.view.design.now used

pub ruleset beginning = (first-is)
