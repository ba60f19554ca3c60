use Rattle.std.proofs.Common.{◌∙◌, refl}
use Rattle.smv_problem_spots.proofs.WorldLaws.{by_form, number_in_range, constant_among, class_among, rest_among, other_in_range, other_in_list, other_in_set}
use Rattle.smv_problem_spots.proofs.places.is_in_type.Goals as goal

pub returns-in-Number : goal.returns-in-Number
returns-in-Number c w h = by_form w _ _ _ _ _ c.in-Range.is c.in-Number.is (c.is_number.ensures ∙ number_in_range w c.in-Range.low c.in-Range.high c.in-Number.value)

pub returns-in_default : goal.returns-in_default
returns-in_default c w h = by_form w _ _ _ _ _ c.in-Range.is refl (other_in_range w _ _ c.args.p c.in_default.not-Number)

pub returns-in-Constant : goal.returns-in-Constant
returns-in-Constant c w h = by_form w _ _ _ _ _ c.in-Enum.is c.in-Constant.is (c.is_constant.ensures ∙ constant_among _ w h _ _ _)

pub returns-in_default-p : goal.returns-in_default-p
returns-in_default-p c w h = by_form w _ _ _ _ _ c.in-Enum.is refl (other_in_list w _ c.args.p c.in_default-p.not-Constant)

pub returns-in-Class : goal.returns-in-Class
returns-in-Class c w h = by_form w _ _ _ _ _ c.in-Set.is c.in-Class.is (c.is_class.ensures ∙ class_among _ w h _ _ _)

pub returns-in-Rest : goal.returns-in-Rest
returns-in-Rest c w h = by_form w _ _ _ _ _ c.in-Set.is c.in-Rest.is (c.is_rest.ensures ∙ rest_among _ w h _ _ _)

pub returns-in_default-p-2 : goal.returns-in_default-p-2
returns-in_default-p-2 c w h = by_form w _ _ _ _ _ c.in-Set.is refl (other_in_set _ w h _ c.args.p c.in_default-p-2.not-Class c.in_default-p-2.not-Rest)
