use Rattle.std.proofs.Common.{◌++◌, ◌∙◌, ap, map, List}
use Rattle.bdd_store.specs.declared.Ref.{Ref}
use Rattle.bdd_store.specs.Diagram.{table}
use Rattle.smv_rings.specs.Schedule.Act.{Join}
use Rattle.smv_rings.specs.Ops.{acts_of, refs_in_all}
use Rattle.smv_search.specs.Runs.{behind_first}
use Rattle.smv_search.proofs.Opening.{opening_acts, opening_refs}
use Rattle.smv_search.proofs.runs.openers.Goals as goal

pub returns-clause-acts : goal.returns-clause-acts
returns-clause-acts c d =
    opening_acts c.args.rel.now c.push_ands.new.ops.items c.push.new.self.items c.push_ands-2.new.ops.items c.in_ok-push.ensures.items d
    (c.in_ok-push_ands.ensures.acts d 0 ∙ ap (λ ops. acts_of d 0 ops ++ map Join (map (table d) c.rest.result.now)) c.new-ops.ensures.items ∙ ap (λ (rs : List Ref). map Join (map (table d) rs)) (c.rest.ensures ∙ ap (λ (rs : List Ref). behind_first rs) c.deref.ensures.value))
    (c.in_ok-push_ands-2.ensures.acts d 0 ∙ ap (λ (rs : List Ref). acts_of d 0 c.push.new.self.items ++ map Join (map (table d) rs)) c.deref-2.ensures.value)

pub returns-clause-refs : goal.returns-clause-refs
returns-clause-refs c =
    opening_refs c.args.rel.now c.push_ands.new.ops.items c.push.new.self.items c.push_ands-2.new.ops.items c.in_ok-push.ensures.items
    (c.in_ok-push_ands.ensures.refs ∙ ap (λ ops. refs_in_all ops ++ c.rest.result.now) c.new-ops.ensures.items ∙ c.rest.ensures ∙ ap (λ (rs : List Ref). behind_first rs) c.deref.ensures.value)
    (c.in_ok-push_ands-2.ensures.refs ∙ ap (λ (rs : List Ref). refs_in_all c.push.new.self.items ++ rs) c.deref-2.ensures.value)
