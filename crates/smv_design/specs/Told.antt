-- What statements say of an owner, for one kind of assignment.
use Rattle.std.specs.Prelude.{ℕ, ◌+◌, List, [], ◌∷◌, ◌++◌, Option, if◌then◌else◌}
use Rattle.smv_core.specs.declared.tree.Kind.{Kind}
use Rattle.smv_core.specs.declared.flat.FlatStmt.{FlatStmt}
use Rattle.smv_core.specs.declared.flat.DefBody.{DefBody, Nothing}
use Rattle.law_designs.specs.WholeText.{is_one_layer}
use Rattle.smv_design.specs.declared.acts.Act.{Act}
use Rattle.smv_design.specs.declared.owners.Owner.{Owner}
use Rattle.smv_design.specs.Parts.{size, kept, said}

module _ (kind : Kind) where
  module _ (layer : Option ℕ) (owner : Owner) where
    -- a statement of a layer, whose first assignment has this place
    unfoldable pub told : ℕ → FlatStmt → DefBody
    told k act = if is_one_layer owner.layer layer then said kind owner.family k act else Nothing

    -- some statements, one behind another
    abbrev pub told_from : ℕ → List FlatStmt → List DefBody
    told_from k [] = []
    told_from k (x ∷ xs) = kept (told k x) ++ told_from (k + size x) xs

  -- the statements of a text
  abbrev pub told_by : Owner → List Act → List DefBody
  told_by owner [] = []
  told_by owner (a ∷ acts) = kept (told a.layer owner a.place a.act) ++ told_by owner acts
