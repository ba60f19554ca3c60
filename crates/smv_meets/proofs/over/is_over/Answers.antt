use Rattle.std.proofs.Common.{◌∙◌, ◌*◌, ℕ, ap}
use Rattle.smv_proof.specs.Meanings.{is_below}
use Rattle.smv_meets.proofs.over.is_over.Goals as goal

pub returns : goal.returns
returns c = λ case e well. c.are_below.ensures ∙ ap (λ (n : ℕ). is_below (2 * n) c.args.set.now) (c.from-vars.ensures ∙ c.state_bits.ensures case e well)
