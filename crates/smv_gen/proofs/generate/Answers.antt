use Rattle.std.proofs.Common.{◌∙◌, ◌++◌, ◌+◌, ◌-◌, [], ◌∷◌, List, ℕ, ap, codes}
use Rattle.smv_gen.specs.Generated.{copy_of}
use Rattle.smv_gen.proofs.Chain.{lines_from, one_written}
use Rattle.smv_gen.proofs.generate.Goals as goal

pub loop-j-preserved : goal.loop-j-preserved
loop-j-preserved c =
    let j = c.loop-j.j in
    let end = c.args.copies in
    ap (λ (done : List ℕ). done ++ lines_from copy_of (codes "}") (j + 1) (end - (j + 1))) (c.in_ok-push.ensures.items ∙ ap (λ (done : List ℕ). done ++ 10 ∷ []) c.in_ok-push_numbered.ensures)
    ∙ (one_written copy_of (codes "}") c.loop-j.out.items j end c.loop-j-test.true ∙ c.loop-j.invariant)
