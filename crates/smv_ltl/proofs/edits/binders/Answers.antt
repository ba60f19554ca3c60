use Rattle.std.proofs.Common.{List, ◌+◌, ◌++◌, drop, ap, ◌∙◌, subst, sym, arith}
use Rattle.std.specs.List.{AllByRecursion}
use Rattle.smv_phrases.specs.Defined.{Stands}
use Rattle.smv_phrases.specs.Seen.{binders_of}
use Rattle.smv_phrases.specs.declared.monitors.Binder.{Binder}
use Rattle.smv_ltl.specs.Changes.{around_of}
use Rattle.smv_ltl.specs.Edits.{binders_at}
use Rattle.smv_ltl.proofs.EditLaws.{each-last, binders-more}
use Rattle.smv_ltl.proofs.edits.binders.Goals as goal

pub loop-one-preserved : goal.loop-one-preserved
loop-one-preserved c =
    let source = c.args.source in
    record {
      told = ap (λ (bs : List Binder). binders_of source.text.now bs ++ binders_at source (around_of (drop (c.loop-one.one-index + 1) c.args.around.now))) c.in_ok-push.ensures.items
          ∙ binders-more source c.loop-one.binders.items c.binder_at.result c.args.around.now c.loop-one.one-index c.one-item.result (omega arith) c.one-item.is c.binder_at.ensures.binder ∙ c.loop-one.invariant.told;
      stand = subst (λ (bs : List Binder). AllByRecursion (Stands source.text.now) bs) (sym c.in_ok-push.ensures.items) (each-last (Stands source.text.now) c.loop-one.binders.items c.binder_at.result c.loop-one.invariant.stand c.binder_at.ensures.tokens);
    }
