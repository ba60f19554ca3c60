use Rattle.std.proofs.Common.{◌∙◌, ◌*◌, ℕ, ap}
use Rattle.smv_rings.specs.Lists.{lists_of}
use Rattle.smv_look_aiger.proofs.tasks.circuit_of.Goals as goal

pub relations-requires-clause-vars : goal.relations-requires-clause-vars
relations-requires-clause-vars c = λ case e well. c.in_ok-store.ensures.vars ∙ ap (λ (n : ℕ). 2 * n) (c.from.ensures ∙ c.state_bits-bits.ensures case e well)

pub returns : goal.returns
returns c = λ case e well. record {
  lists = lists_of c.relations.new.store c.in_ok-rel.rel;
  are_lists = c.in_ok-rel.ensures.lists case e well;
  is_file = c.in_ok-bytes.ensures;
}
