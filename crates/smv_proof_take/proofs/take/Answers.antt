use Rattle.std.proofs.Common.{◌∙◌, List, subst}
use Rattle.smv_proof.specs.declared.proof.Node.{Node}
use Rattle.smv_proof_take.specs.Numbering.{IsNumbered}
use Rattle.smv_proof_take.proofs.Numbered.{kept_is}
use Rattle.smv_proof_take.proofs.take.Goals as goal

pub returns-clause-kept : goal.returns-clause-kept
returns-clause-kept c =
    kept_is c.args.store.now c.args.set c.args.unit.now c.args.number c.in_ok-root.root c.number_of.new.nodes.items
    (subst (λ (nodes : List Node). IsNumbered c.args.store.now c.args.set nodes c.in_ok-root.root c.number_of.new.nodes.items) c.new-nodes.ensures.items c.in_ok-root.ensures.numbered)
    (record { unit = c.from_vec.result; number = c.args.number; root = c.in_ok-root.root; nodes = c.from_vec-2.result })
    (λ i. record { unit = (c.from_vec.ensures ∙ (c.in_ok-unit.ensures.items ∙ c.as_bytes.ensures)) i; number = c.args.number; root = c.in_ok-root.root; nodes = c.from_vec-2.ensures i })
