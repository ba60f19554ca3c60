use Rattle.std.proofs.Common.{◌∙◌, ap, sym}
use Rattle.std.specs.Prelude.{List, length}
use Rattle.smv_core.specs.declared.flat.Unit.{Unit}
use Rattle.law_valid_texts.proofs.Places.{each_leaf}
use Rattle.law_valid_texts.proofs.parts_of_texts.plans_are_whole.Goals as goal

pub returns : goal.returns
returns c tree faultless narrow plan is stated = record {
  units = is.units;
  leaves = each_leaf tree plan is ∙ sym (ap (λ (units : List Unit). length units) is.units);
  choices = is.choices;
  timed = is.timed;
  own = c.leaves_are_in_place.ensures tree plan is;
  parts = c.leaves_are_parts.ensures tree faultless plan is;
  room = c.leaves_have_room.ensures tree faultless narrow plan is stated;
}
