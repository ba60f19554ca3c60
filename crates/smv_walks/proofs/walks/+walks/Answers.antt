use Rattle.std.proofs.Common.{◌≡◌, ◌∷◌, [], ◌+◌, List, drop, arith, refl, sym, subst}
use Rattle.std.proofs.lemmas.Grind.{common_steps}
use Rattle.smv_core.specs.declared.flat.DefBody.{DefBody}
use Rattle.smv_spots.specs.declared.spots.Spot.{Spot}
use Rattle.smv_cells.proofs.SeenLaws.{keeps_same, keeps_trans, cells_kept}
use Rattle.smv_outcomes.proofs.KnownLaws.{known_kept}
use Rattle.smv_targets.proofs.GivenLaws.{target_kept}
use Rattle.smv_walk_parts.specs.Parts.{AllGistsMade}
use Rattle.smv_walks.specs.Walks.{AreGistsOf, AreGistsAlong}
use Rattle.smv_walks.proofs.PartLaws.{Nothing_of_it, Assign_elsewhere, Assign_of_it, If_of_it, First_of_it, Forall_of_it, some_kept}
use Rattle.smv_walks.proofs.GatherLaws.{gists_added, gists_begin, along_begins, gists_go, along_goes}
use Rattle.smv_walks.proofs.walks.+walks.Goals as goal

pub passed-returns-in-Nothing-clause-is : goal.passed-returns-in-Nothing-clause-is
passed-returns-in-Nothing-clause-is g t c = Nothing_of_it _ _ _ _ _ _ _ _ _ c.in-Nothing.is

pub passed-returns-then-is_elsewhere-clause-is : goal.passed-returns-then-is_elsewhere-clause-is
passed-returns-then-is_elsewhere-clause-is g t c = Assign_elsewhere _ _ _ _ _ _ _ _ _ _ _ _ _ _ _ _ c.in-Assign.is c.as_slice-lefts.ensures c.as_slice-indexes.ensures c.is_elsewhere.ensures c.if-is_elsewhere.true

pub passed-returns-in_ok-g-in-Assign-clause-is : goal.passed-returns-in_ok-g-in-Assign-clause-is
passed-returns-in_ok-g-in-Assign-clause-is g t c = Assign_of_it _ _ _ _ _ _ _ _ _ _ _ _ _ _ _ c.in-Assign.is c.as_slice-lefts.ensures c.in_ok-g-in-Assign.ensures.is

pub passed-returns-in_ok-k-in-If-clause-is : goal.passed-returns-in_ok-k-in-If-clause-is
passed-returns-in_ok-k-in-If-clause-is g t c = If_of_it _ _ _ _ _ _ _ _ _ _ _ _ c.in_ok-g-in-If.ensures.keeps c.in_ok-h-in-If.ensures.keeps c.requires.cells_made c.requires.target_made _ _ _ _ _ _ _ _ _ c.in-If.is c.get.ensures c.get-in-If.ensures
    c.in_ok-g-in-If.ensures.made c.in_ok-g-in-If.ensures.is c.in_ok-h-in-If.ensures.is c.in_ok-k-in-If.ensures.is

pub passed-taken-requires-clause-g_made : goal.passed-taken-requires-clause-g_made
passed-taken-requires-clause-g_made g t c = some_kept _ _ _ _ _ c.in_ok-h-in-If.ensures.keeps _ c.in_ok-g-in-If.ensures.made

pub passed-returns-in_ok-g-in-First-clause-is : goal.passed-returns-in_ok-g-in-First-clause-is
passed-returns-in_ok-g-in-First-clause-is g t c = First_of_it _ _ _ _ _ _ _ _ _ _ _ _ _ _ _ c.in-First.is c.as_slice-all.ensures c.as_slice-list.ensures.value c.in_ok-each-in-First.ensures.are c.in_ok-g-in-First.ensures.gist

pub passed-returns-in_ok-g-in-First-clause-cells : goal.passed-returns-in_ok-g-in-First-clause-cells
passed-returns-in_ok-g-in-First-clause-cells g t c = cells_kept _ _ _ _ _ _ c.in_ok-g-in-First.ensures.keeps c.in_ok-each-in-First.ensures.cells

pub passed-returns-in_ok-g-in-First-clause-known : goal.passed-returns-in_ok-g-in-First-clause-known
passed-returns-in_ok-g-in-First-clause-known g t c = known_kept _ _ _ _ _ _ _ _ c.in_ok-g-in-First.ensures.keeps c.in_ok-each-in-First.ensures.cells c.in_ok-each-in-First.ensures.known

pub passed-returns-in_ok-g-in-First-clause-target : goal.passed-returns-in_ok-g-in-First-clause-target
passed-returns-in_ok-g-in-First-clause-target g t c = target_kept _ _ _ _ _ _ c.in_ok-g-in-First.ensures.keeps c.in_ok-each-in-First.ensures.target

pub passed-returns-in_ok-g-in-Forall-clause-is : goal.passed-returns-in_ok-g-in-Forall-clause-is
passed-returns-in_ok-g-in-Forall-clause-is g t c = Forall_of_it _ _ _ _ _ _ _ _ _ _ _ _ _ _ _ _ _ _ _ c.in-Forall.is c.get-inner.ensures c.as_slice-bindings.ensures.value c.as_slice-gists.ensures.value (λ z aim. c.in_ok-inners-in-Forall.ensures z.view.world aim.seen.world) c.in_ok-found-in-Forall.ensures.are c.in_ok-g-in-Forall.ensures.gist

pub passed-returns-in_ok-g-in-Forall-clause-cells : goal.passed-returns-in_ok-g-in-Forall-clause-cells
passed-returns-in_ok-g-in-Forall-clause-cells g t c = cells_kept _ _ _ _ _ _ c.in_ok-g-in-Forall.ensures.keeps c.in_ok-found-in-Forall.ensures.cells

pub passed-returns-in_ok-g-in-Forall-clause-known : goal.passed-returns-in_ok-g-in-Forall-clause-known
passed-returns-in_ok-g-in-Forall-clause-known g t c = known_kept _ _ _ _ _ _ _ _ c.in_ok-g-in-Forall.ensures.keeps c.in_ok-found-in-Forall.ensures.cells c.in_ok-found-in-Forall.ensures.known

pub passed-returns-in_ok-g-in-Forall-clause-target : goal.passed-returns-in_ok-g-in-Forall-clause-target
passed-returns-in_ok-g-in-Forall-clause-target g t c = target_kept _ _ _ _ _ _ c.in_ok-g-in-Forall.ensures.keeps c.in_ok-found-in-Forall.ensures.target

pub gists_each-loop-part-init : goal.gists_each-loop-part-init
gists_each-loop-part-init g t c = record { keeps = keeps_same _ _ _ _; made = subst (AllGistsMade _) (sym c.new-each.ensures.items) tt; cells_made = c.requires.cells_made; known = c.requires.known; target_made = c.requires.target_made; are = gists_begin _ _ _ _ _ _ _ _ _ _ refl c.new-each.ensures.items }

pub gists_each-loop-part-preserved : goal.gists_each-loop-part-preserved
gists_each-loop-part-preserved g t c =
    let step : drop c.loop-part.part-index c.args.parts.now ≡ c.part-item.result ∷ drop (c.loop-part.part-index + 1) c.args.parts.now = grind (arith, common_steps) in
    record {
      keeps = keeps_trans _ _ _ _ _ _ c.loop-part.invariant.keeps c.in_ok-g.ensures.keeps;
      made = gists_added _ _ _ _ _ _ _ _ c.in_ok-g.ensures.keeps c.in_ok-add_some.ensures c.loop-part.invariant.made c.in_ok-g.ensures.made;
      cells_made = c.in_ok-g.ensures.cells;
      known = c.in_ok-g.ensures.known;
      target_made = c.in_ok-g.ensures.target;
      are = gists_go _ _ _ _ _ _ _ _ _ _ c.loop-part.invariant.keeps c.in_ok-g.ensures.keeps c.requires.cells_made c.requires.target_made _ _ _ _ _ _ _ _ step c.in_ok-add_some.ensures c.loop-part.invariant.made c.loop-part.invariant.are c.in_ok-g.ensures.is;
    }

pub gists_each-returns-in_err-g-clause-keeps : goal.gists_each-returns-in_err-g-clause-keeps
gists_each-returns-in_err-g-clause-keeps g t c = keeps_trans _ _ _ _ _ _ c.loop-part.invariant.keeps c.passed.ensures.keeps

pub gists_each-returns-in_err-add_some-clause-keeps : goal.gists_each-returns-in_err-add_some-clause-keeps
gists_each-returns-in_err-add_some-clause-keeps g t c = keeps_trans _ _ _ _ _ _ c.loop-part.invariant.keeps c.in_ok-g.ensures.keeps

pub gists_each-returns-clause-keeps : goal.gists_each-returns-clause-keeps
gists_each-returns-clause-keeps g t c = c.loop-part.invariant.keeps

pub gists_each-returns-clause-made : goal.gists_each-returns-clause-made
gists_each-returns-clause-made g t c = c.loop-part.invariant.made

pub gists_each-returns-clause-cells : goal.gists_each-returns-clause-cells
gists_each-returns-clause-cells g t c = c.loop-part.invariant.cells_made

pub gists_each-returns-clause-known : goal.gists_each-returns-clause-known
gists_each-returns-clause-known g t c = c.loop-part.invariant.known

pub gists_each-returns-clause-target : goal.gists_each-returns-clause-target
gists_each-returns-clause-target g t c = c.loop-part.invariant.target_made

pub gists_each-returns-clause-are : goal.gists_each-returns-clause-are
gists_each-returns-clause-are g t c =
    let end : drop c.loop-part.part-index c.args.parts.now ≡ [] = grind (arith, common_steps) in
    subst (λ (rest : List DefBody). AreGistsOf g.S.Conditions.holds c.args.s.now c.loop-part.s c.args.problem.now c.args.cells.now c.args.target.now c.args.way c.args.b.now c.args.parts.now rest c.loop-part.each.items) end c.loop-part.invariant.are

pub gists_along-loop-inner-init : goal.gists_along-loop-inner-init
gists_along-loop-inner-init g t c = record { keeps = keeps_same _ _ _ _; made = subst (AllGistsMade _) (sym c.new-each.ensures.items) tt; cells_made = c.requires.cells_made; known = c.requires.known; target_made = c.requires.target_made; are = along_begins _ _ _ _ _ _ _ _ _ _ refl c.new-each.ensures.items }

pub gists_along-loop-inner-preserved : goal.gists_along-loop-inner-preserved
gists_along-loop-inner-preserved g t c =
    let step : drop c.loop-inner.inner-index c.args.bindings.now ≡ c.inner-item.result ∷ drop (c.loop-inner.inner-index + 1) c.args.bindings.now = grind (arith, common_steps) in
    record {
      keeps = keeps_trans _ _ _ _ _ _ c.loop-inner.invariant.keeps c.in_ok-g.ensures.keeps;
      made = gists_added _ _ _ _ _ _ _ _ c.in_ok-g.ensures.keeps c.in_ok-add_some.ensures c.loop-inner.invariant.made c.in_ok-g.ensures.made;
      cells_made = c.in_ok-g.ensures.cells;
      known = c.in_ok-g.ensures.known;
      target_made = c.in_ok-g.ensures.target;
      are = along_goes _ _ _ _ _ _ _ _ _ _ c.loop-inner.invariant.keeps c.in_ok-g.ensures.keeps c.requires.cells_made c.requires.target_made _ _ _ _ _ _ _ _ _ step c.in_ok-add_some.ensures c.as_slice.ensures c.loop-inner.invariant.made c.loop-inner.invariant.are c.in_ok-g.ensures.is;
    }

pub gists_along-returns-in_err-g-clause-keeps : goal.gists_along-returns-in_err-g-clause-keeps
gists_along-returns-in_err-g-clause-keeps g t c = keeps_trans _ _ _ _ _ _ c.loop-inner.invariant.keeps c.passed.ensures.keeps

pub gists_along-returns-in_err-add_some-clause-keeps : goal.gists_along-returns-in_err-add_some-clause-keeps
gists_along-returns-in_err-add_some-clause-keeps g t c = keeps_trans _ _ _ _ _ _ c.loop-inner.invariant.keeps c.in_ok-g.ensures.keeps

pub gists_along-returns-clause-keeps : goal.gists_along-returns-clause-keeps
gists_along-returns-clause-keeps g t c = c.loop-inner.invariant.keeps

pub gists_along-returns-clause-made : goal.gists_along-returns-clause-made
gists_along-returns-clause-made g t c = c.loop-inner.invariant.made

pub gists_along-returns-clause-cells : goal.gists_along-returns-clause-cells
gists_along-returns-clause-cells g t c = c.loop-inner.invariant.cells_made

pub gists_along-returns-clause-known : goal.gists_along-returns-clause-known
gists_along-returns-clause-known g t c = c.loop-inner.invariant.known

pub gists_along-returns-clause-target : goal.gists_along-returns-clause-target
gists_along-returns-clause-target g t c = c.loop-inner.invariant.target_made

pub gists_along-returns-clause-are : goal.gists_along-returns-clause-are
gists_along-returns-clause-are g t c =
    let end : drop c.loop-inner.inner-index c.args.bindings.now ≡ [] = grind (arith, common_steps) in
    subst (λ (rest : List (List Spot)). AreGistsAlong g.S.Conditions.holds c.args.s.now c.loop-inner.s c.args.problem.now c.args.cells.now c.args.target.now c.args.way c.args.body.now c.args.bindings.now rest c.loop-inner.each.items) end c.loop-inner.invariant.are
