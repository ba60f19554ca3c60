use Rattle.std.proofs.Common.{◌+◌, ◌-◌, ◌++◌, List, map, refl, sym, ap, ◌∙◌, arith}
use Rattle.smv_core.specs.Values.{numbers_from}
use Rattle.smv_core.specs.declared.flat.Class.{Class}
use Rattle.smv_core.specs.declared.flat.Class.TheVariants.{Number}
use Rattle.smv_spots.proofs.Numbers.{no_number, one_number}
use Rattle.smv_concrete.proofs.classes.numbers.Goals as goal

pub loop-value-preserved : goal.loop-value-preserved
loop-value-preserved c =
    ap (λ (l : List Class). l ++ map Number (numbers_from (c.loop-value.value + 1) (c.args.end - (c.loop-value.value + 1)))) c.in_ok-push.ensures.items
    ∙ one_number Number _ _ _ _ _ c.loop-value-test.true refl c.loop-value.invariant

pub returns : goal.returns
returns c = sym (no_number Number c.loop-value.classes.items c.loop-value.value c.args.end (let l = c.loop-value-test.false in omega (arith, l))) ∙ c.loop-value.invariant
