-- With what a search for a cone begins, as elements are written.
use Rattle.std.specs.Prelude.{ℕ, List, ◌++◌, map, flat_map, take, length, slice_get}
use Rattle.smv_core.specs.declared.flat.Element.{Element}
use Rattle.smv_core.specs.declared.flat.Def.{Def}
use Rattle.smv_core.specs.declared.flat.Claim.{Claim as FlatClaim}
use Rattle.smv_core.specs.declared.flat.Param.{Param}
use Rattle.smv_core.specs.declared.flat.Unit.{Unit}
use Rattle.smv_core.specs.declared.flat.FlatExpr.{FlatExpr}
use Rattle.law_obligations.specs.Sets.{one_of_each}
use Rattle.law_obligations.specs.Places.{named_in}
use Rattle.law_obligations.specs.Soundness.{over_of}
use Rattle.law_obligations.specs.Outlines.{unit_in}
use Rattle.law_obligations.specs.Cones.{elements_read, elements_assumed, of_target}
use Rattle.smv_problem.specs.Written.{written_element}
use Rattle.smv_spots.specs.declared.spots.Spot.{Spot}
use Rattle.smv_reads.specs.declared.bindings.View.{View}
use Rattle.smv_reads.specs.Views.{world_of, places}
use Rattle.smv_reads.specs.Reading.{read_in, read_of}
use Rattle.smv_cone.specs.declared.parts.Part.{Part}
use Rattle.smv_cone.specs.Parts.{outline_of, entry_of, params_of, firsts, own_in}

-- what an expression reads, where variables behind those in front take all numbers, constants and classes of their types
unfoldable pub read_instances : View → List Spot → List Param → FlatExpr → List Element
read_instances v front params body = map written_element (flat_map (λ b. elements_read (world_of v) body (places v front ++ b)) (one_of_each (map (λ p. named_in (world_of v) p.over) params)))

module _ (p : Part) where
  -- what a map reads, with its own element, and what a claim reads
  abbrev pub read_map : Def → List Element
  read_map def =
      let count = length (over_of (slice_get p.view.design.now.families def.family)) in
      own_in def.family (take count p.classes.now) ++ read_of p.view (take count p.params.now) def

  abbrev pub read_body : FlatClaim → List Element
  read_body claim = read_in p.view (take (length claim.params) p.params.now) claim.body

  -- what a unit reads
  unfoldable pub read_unit : Unit → List Element
  read_unit unit = map written_element (of_target (world_of p.view) (outline_of p) (entry_of p) (params_of p) (unit_in p.view.design.now unit))

  abbrev pub read_guards : List Element
  read_guards = flat_map (λ g. read_in p.view p.params.now g.expr) p.leaf.now.guards

  -- what the claim of a number reads that is assumed
  unfoldable pub read_assumed : ℕ → List Element
  read_assumed claim = map written_element (elements_assumed (world_of p.view) (slice_get p.view.design.now.claims claim))

  abbrev pub read_claims : List Element
  read_claims = flat_map (λ used. read_assumed used.claim) p.choice.now.claims

  -- all of them
  unfoldable pub read_first : List Element
  read_first = map written_element (firsts p)
