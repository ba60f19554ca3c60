use Rattle.std.proofs.Common.{List, [], ◌∷◌, ◌++◌, ap, ◌∙◌}
use Rattle.smv_core.specs.declared.flat.Class.{Class}
use Rattle.smv_elements.specs.Elements.{put, put_all}
use Rattle.smv_reads.specs.Reading.{elements_from}
use Rattle.smv_reads.proofs.Joins.{turn-kept, turns-over, on-ok-more}
use Rattle.smv_reads.proofs.Froms.{from-none}
use Rattle.smv_reads.proofs.references.+choices.Goals as goal

pub put_each-loop-class-preserved : goal.put_each-loop-class-preserved
put_each-loop-class-preserved t c =
    turn-kept (λ (k : Class). elements_from c.args.family (c.args.front.now ++ k ∷ []) c.args.more.now) c.args.classes.now c.loop-class.class-index _ c.loop-class.found _ _ c.loop-class-test.true
    (c.in_ok-put_from.ensures ∙ ap (λ (cs : List Class). put_all c.loop-class.found (elements_from c.args.family cs c.args.more.now)) (c.as_slice.ensures.value ∙ c.in_ok-begun.ensures)) c.loop-class.invariant

pub put_each-returns : goal.put_each-returns
put_each-returns t c = turns-over (λ (k : Class). elements_from c.args.family (c.args.front.now ++ k ∷ []) c.args.more.now) c.args.classes.now c.loop-class.class-index c.loop-class.found _ c.loop-class-test.false c.loop-class.invariant

pub put_from-returns-in-empty : goal.put_from-returns-in-empty
put_from-returns-in-empty t c =
    on-ok-more c.put_one.result c.put_one.new.found (put c.args.found.now (record { family = c.args.family; indexes = c.args.front.now })) (put_all c.args.found.now (elements_from c.args.family c.args.front.now c.args.choices.now))
    (from-none c.args.family c.args.front.now c.args.choices.now c.args.found.now c.in-empty.len_below) c.put_one.ensures
