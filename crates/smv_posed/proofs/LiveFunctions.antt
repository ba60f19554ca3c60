-- The functions of a Rel are live.
use Rattle.std.proofs.Common.{◌≡◌, List, refl}
use Rattle.bdd_store.specs.declared.Ref.{Ref}
use Rattle.bdd_store.specs.Diagram.{Diagram, IsLive, AreLive}
use Rattle.smv_rings.specs.declared.Rel.{Rel}
use Rattle.smv_rings.specs.Lists.{IsRel, refs_of}
use Rattle.smv_rings.proofs.Refs.{each_live, in_now_first, in_before_first, in_broken_first, in_now_step, in_before_step, in_broken_step, part_live}

module _ (d : Diagram) (rel : Rel) (is : IsRel d rel) where
  pub now_first_live : (shown : List Ref) → shown ≡ rel.now_first.items → AreLive d shown
  now_first_live shown e = part_live d (refs_of rel) rel.now_first.items shown is.live (in_now_first rel) e

  pub before_first_live : (shown : List Ref) → shown ≡ rel.before_first.items → AreLive d shown
  before_first_live shown e = part_live d (refs_of rel) rel.before_first.items shown is.live (in_before_first rel) e

  pub now_step_live : (shown : List Ref) → shown ≡ rel.now_step.items → AreLive d shown
  now_step_live shown e = part_live d (refs_of rel) rel.now_step.items shown is.live (in_now_step rel) e

  pub before_step_live : (shown : List Ref) → shown ≡ rel.before_step.items → AreLive d shown
  before_step_live shown e = part_live d (refs_of rel) rel.before_step.items shown is.live (in_before_step rel) e

  pub broken_first_live : IsLive d rel.broken_first
  broken_first_live = each_live d (refs_of rel) is.live rel.broken_first (in_broken_first rel rel.broken_first refl)

  pub broken_step_live : IsLive d rel.broken_step
  broken_step_live = each_live d (refs_of rel) is.live rel.broken_step (in_broken_step rel rel.broken_step refl)
