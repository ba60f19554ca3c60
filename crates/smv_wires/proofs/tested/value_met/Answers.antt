use Rattle.std.proofs.Common.{List, ◌∷◌, None, sym, subst, ◌∙◌}
use Rattle.bdd_store.specs.declared.Ref.{Ref}
use Rattle.bdd_store.specs.Diagram.{table}
use Rattle.law_arrangements.specs.Arrangements.{put}
use Rattle.law_wires.specs.Tries.{keeping}
use Rattle.smv_spots.specs.Spots.{place_in}
use Rattle.smv_cells.specs.declared.cells.Cell.{Cell}
use Rattle.smv_walks.specs.Demands.{AreRead}
use Rattle.smv_wires.specs.Wired.{kept_with, state_beside}
use Rattle.smv_wires.proofs.Values.{made_pushed, only_offered}
use Rattle.smv_wires.proofs.Added.{cell_of, has_kept, read_with}
use Rattle.smv_wires.proofs.tested.value_met.Goals as goal

pub own_met-requires : goal.own_met-requires
own_met-requires c = record { live = made_pushed c.args.store.now c.args.cells.now.items _ _ c.requires.live c.in_ok-values.ensures.made (c.as_slice.ensures.value ∙ c.in_ok-push.ensures.items) }

pub returns-clause-means : goal.returns-clause-means
returns-clause-means c = λ d is well order done x left next hx try seen has a.
    let v = place_in d.problem.world.classes c.args.value.now in
    c.in_ok-r.ensures.means d is well x hx (kept_with d x left) (λ a. put x v (state_beside d order done (x ∷ left) next a)) (has_kept c.args.problem.now d well order done x left try next)
    (subst (λ (cs : List (Cell Ref)). AreRead table c.args.store.now c.args.problem.now None cs (keeping d (kept_with d x left)) None (λ a. put x v (state_beside d order done (x ∷ left) next a))) (sym (c.as_slice.ensures.value ∙ c.in_ok-push.ensures.items))
    (read_with c.args.problem.now d well order done x left try next c.args.store.now c.args.cells.now.items _ v (cell_of c.args.problem.now d is well x c.args.element.now hx c.in_ok-indexes.indexes c.in_ok-indexes.ensures c.in_ok-values.values)
    (λ a q. only_offered d.problem.world.classes c.args.store.now a q c.args.value.now c.in_ok-values.values c.in_ok-values.ensures.only) has seen))
    a
