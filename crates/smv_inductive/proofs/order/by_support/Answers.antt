use Rattle.std.proofs.Common.{◌<◌, List, [], ◌∷◌, ◌++◌, sym, subst, length, arith}
use Rattle.bdd_store.specs.declared.Ref.{Ref}
use Rattle.smv_inductive.specs.declared.order.Law.{Law}
use Rattle.smv_inductive.proofs.Ordered.{AreSplit, split_start, split_step, split_end}
use Rattle.smv_inductive.proofs.order.by_support.Goals as goal

pub loop-laws-init : goal.loop-laws-init
loop-laws-init c = subst (λ (order : List Ref). AreSplit c.args.fs.now order c.in_ok-laws.laws.items) (sym c.new-order.ensures.items) (split_start c.args.fs.now c.in_ok-laws.laws.items c.in_ok-laws.ensures)

pub loop-laws-smaller : goal.loop-laws-smaller
loop-laws-smaller c = omega (arith, c.remove-law.ensures.len)

pub loop-laws-preserved : goal.loop-laws-preserved
loop-laws-preserved c =
    let fs = c.args.fs.now in
    let at = c.best-at.result in
    let law = c.remove-law.result in
    let within : at < length c.loop-laws.laws.items = subst (λ (laws : List Law). at < length laws) c.deref-in-loop-laws.ensures.value c.best-at.ensures in
    subst (λ (order : List Ref). AreSplit fs order c.remove-law.new.self.items) (sym c.in_ok-push.ensures.items)
    (subst (λ (laws : List Law). AreSplit fs (c.loop-laws.order.items ++ (law.function ∷ [])) laws) (sym c.remove-law.ensures.items)
    (split_step fs c.loop-laws.order.items c.loop-laws.laws.items at law within c.remove-law.ensures.value c.loop-laws.invariant))

pub returns : goal.returns
returns c = split_end c.args.fs.now c.loop-laws.order.items c.loop-laws.laws.items (omega arith) c.loop-laws.invariant
