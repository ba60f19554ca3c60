use Rattle.smv_cells.proofs.SeenLaws.{cells_kept}
use Rattle.smv_targets.proofs.GivenLaws.{target_kept}
use Rattle.smv_walks.proofs.StepLaws.{nothing_open, nothing_before}
use Rattle.smv_walks.proofs.given.nothing_passes.Goals as goal

pub returns-then-concerns-clause-is : goal.returns-then-concerns-clause-is
returns-then-concerns-clause-is g c = nothing_before _ _ _ _ _ _ c.in_ok-before.ensures.keeps _ _ c.requires.old_made _ c.requires.target_made _ _ _ _ _ _ _ _ _ _ c.as_slice-indexes.ensures c.as_slice.ensures.value c.as_slice-then-concerns.ensures.value (λ z. c.concerns.ensures z.view.world.classes) c.if-concerns.true
    (λ z. c.in_ok-every.ensures z.view.world z.view.kept) (λ z. c.in_ok-before.ensures.any z.view.world) c.in_ok-r.ensures.is

pub returns-then-concerns-clause-old : goal.returns-then-concerns-clause-old
returns-then-concerns-clause-old g c = cells_kept _ _ _ _ _ _ c.in_ok-r.ensures.keeps c.in_ok-before.ensures.cells

pub value_passes-requires-clause-target_made : goal.value_passes-requires-clause-target_made
value_passes-requires-clause-target_made g c = target_kept _ _ _ _ _ _ c.in_ok-before.ensures.keeps c.requires.target_made

pub returns-clause-is : goal.returns-clause-is
returns-clause-is g c = nothing_open _ _ _ _ _ _ _ _ _ _ _ c.as_slice-indexes.ensures (λ z. c.concerns.ensures z.view.world.classes) c.if-concerns.false c.everything.ensures.is
