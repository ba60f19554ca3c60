use Rattle.std.proofs.Common.{◌∙◌, get_or}
use Rattle.law_lists.proofs.Options.{if_ok_both}
use Rattle.smv_core.specs.declared.flat.Unit.TheVariants.{Map}
use Rattle.smv_look_run.proofs.CaseLaws.{copied_at, each_choice, each_leaf, part_at}
use Rattle.smv_look_run.proofs.answers.at_place.Goals as goal

pub shown-requires-clause-units : goal.shown-requires-clause-units
shown-requires-clause-units c = c.as_slice-units.ensures ∙ c.requires.whole.units

pub shown-requires-clause-part : goal.shown-requires-clause-part
shown-requires-clause-part c =
    c.requires.whole.parts c.args.u c.index-as_slice-u.result c.index-as_slice-u-2.result
    (part_at c.args.plan.now.leaves c.as_slice.result.now c.args.u c.index-as_slice-u.result c.as_slice.ensures (each_leaf c.args.plan.now c.requires.whole c.args.u c.requires.there) c.index-as_slice-u.is)
    (part_at c.args.plan.now.choices c.as_slice-2.result.now c.args.u c.index-as_slice-u-2.result c.as_slice-2.ensures (each_choice c.args.plan.now c.requires.whole c.args.u c.requires.there) c.index-as_slice-u-2.is)

pub shown-requires-clause-room : goal.shown-requires-clause-room
shown-requires-clause-room c =
    c.requires.whole.room c.args.u c.index-as_slice-u.result c.index-as_slice-u-2.result
    (part_at c.args.plan.now.leaves c.as_slice.result.now c.args.u c.index-as_slice-u.result c.as_slice.ensures (each_leaf c.args.plan.now c.requires.whole c.args.u c.requires.there) c.index-as_slice-u.is)
    (part_at c.args.plan.now.choices c.as_slice-2.result.now c.args.u c.index-as_slice-u-2.result c.as_slice-2.ensures (each_choice c.args.plan.now c.requires.whole c.args.u c.requires.there) c.index-as_slice-u-2.is)

pub returns : goal.returns
returns c =
    if_ok_both c.shown.result _ _ _
    (λ a s b. record {
      unit = get_or c.as_slice-units.result.now c.args.u (Map 0);
      leaf = c.index-as_slice-u.result;
      choice = c.index-as_slice-u-2.result;
      has_unit = copied_at c.args.plan.now.units c.as_slice-units.result.now c.args.u (Map 0) c.as_slice-units.ensures c.requires.there;
      has_leaf = part_at c.args.plan.now.leaves c.as_slice.result.now c.args.u c.index-as_slice-u.result c.as_slice.ensures (each_leaf c.args.plan.now c.requires.whole c.args.u c.requires.there) c.index-as_slice-u.is;
      has_choice = part_at c.args.plan.now.choices c.as_slice-2.result.now c.args.u c.index-as_slice-u-2.result c.as_slice-2.ensures (each_choice c.args.plan.now c.requires.whole c.args.u c.requires.there) c.index-as_slice-u-2.is;
      status = s;
      lines = b;
    })
    c.shown.ensures.status c.shown.ensures.bytes
