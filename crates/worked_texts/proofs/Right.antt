-- By computing what has to be shown, and going through it.
use Rattle.std.proofs.Common.{[], unwrap_or, refl, arith}
use Rattle.smv_core.specs.declared.tree.Text.{Text}
use Rattle.law_designs.specs.Entries.{entries}
use Rattle.law_designs.specs.WholeText.{EntryIsRight}
use Rattle.std.specs.List.{AllByRecursion}
use Rattle.law_lists.proofs.Each.{all_each}
use Rattle.worked_texts.specs.Right.{small, tree_of, MeetsConditions}
use Rattle.worked_texts.specs.Tomasulo.{machine}
use Rattle.worked_texts.proofs.Deciding.{text-is}
use Rattle.worked_texts.proofs.FlatteningComputing.{computing}

abbrev tree : Text
tree = unwrap_or (tree_of small) (record { tops = [] })

entries-right : AllByRecursion (EntryIsRight tree) (entries tree)
unfolding computing
entries-right =
    -- n.a := x[q]
    (
      (tt, (tt, ((tt, tt), tt))),
      -- x[i] := c = red & n.a
      (
        ((((tt, tt), tt), (((tt, tt), (refl, tt)), ((tt, tt), tt))), tt),
        -- layer L
        (
          tt,
          -- next(y) := {k, y, 2..3}
          (
            (λ k. (tt, ((tt, tt), ((tt, tt), tt)))),
            -- the switch
            (
              ((tt, tt), (((refl, tt), ((refl, tt), tt)), (tt, ((tt, ((tt, tt), tt)), tt)), tt), tt),
              -- the claim
              (
                (((((tt, ((tt, tt), tt)), ((tt, ((tt, tt), tt)), tt)), tt), (((tt, tt), (tt, (tt, tt))), tt)), (tt, tt)),
                tt,
              ),
            ),
          ),
        ),
      ),
    )

pub small-meets : MeetsConditions small
unfolding computing
small-meets = (refl, all_each (EntryIsRight tree) (entries tree) entries-right)

abbrev machine_tree : Text
machine_tree = unwrap_or (tree_of machine) (record { tops = [] })

pub machine-meets : MeetsConditions machine
unfolding computing
machine-meets = (refl, text-is machine_tree refl)
