use Rattle.std.proofs.Common.{◌+◌, ◌-◌, ◌++◌, List, map, refl, sym, ap, ◌∙◌, arith}
use Rattle.smv_core.specs.Values.{numbers_from}
use Rattle.smv_core.specs.declared.flat.Class.{Class}
use Rattle.smv_core.specs.declared.flat.Class.TheVariants.{Named}
use Rattle.smv_spots.proofs.Numbers.{no_number, one_number}
use Rattle.smv_concrete.proofs.classes.named.Goals as goal

pub loop-class-preserved : goal.loop-class-preserved
loop-class-preserved c =
    ap (λ (l : List Class). l ++ map Named (numbers_from (c.loop-class.class + 1) (c.args.count - (c.loop-class.class + 1)))) c.in_ok-push.ensures.items
    ∙ one_number Named _ _ _ _ _ c.loop-class-test.true refl c.loop-class.invariant

pub returns : goal.returns
returns c = sym (no_number Named c.loop-class.classes.items c.loop-class.class (c.args.count) (let l = c.loop-class-test.false in omega (arith, l))) ∙ c.loop-class.invariant
