use Rattle.std.proofs.Common.{◌≡◌, ◌<◌, length, sym, ◌∙◌, subst, set, arith}
use Rattle.std.proofs.lemmas.List.{length-set, get_or_default}
use Rattle.bdd_store.specs.declared.results.Entry.{Entry}
use Rattle.bdd_store.specs.Results.{IsResult, entry_at, no_entry}
use Rattle.bdd_store.proofs.ResultLaws.{set_right}
use Rattle.bdd_store.proofs.results.spread.Goals as goal

pub loop-at-preserved : goal.loop-at-preserved
loop-at-preserved c =
    let es = c.loop-at.results.items in
    let at = c.loop-at.at in
    let lt : at < length es = omega (arith, c.loop-at-test.true, c.loop-at.auto.at-end, c.loop-at.invariant.room, c.loop-at.results.ok.0) in
    let lt_place : c.slot-place.result < length (set es at c.never-never.result) = omega (arith, c.slot-place.ensures.within, c.len.ensures, c.loop-at.results.ok.0, length-set es at c.never-never.result) in
    let is : c.index-entry.result.now ≡ entry_at es at = c.index-entry.ensures ∙ get_or_default es at c.index-entry.result.now no_entry lt in
    record {
      room = c.loop-at.invariant.room;
      right = λ d ok all.
          let was = c.loop-at.invariant.right d ok all in
          set_right d _ c.slot-place.result _ lt_place (set_right d es at _ lt was (c.never-never.ensures d ok)) (subst (λ (x : Entry). IsResult d x.operation x.answer) (sym is) (was at lt));
    }
