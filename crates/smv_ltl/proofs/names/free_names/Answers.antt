use Rattle.std.proofs.Common.{◌≡◌, ◌+◌, List, ◌++◌, length, ap, ◌∙◌, arith}
use Rattle.smv_core.specs.Values.{Name}
use Rattle.law_formula_texts.specs.Laws.{names_of}
use Rattle.smv_ltl.specs.Names.{free_from}
use Rattle.smv_ltl.proofs.NameLaws.{step, still_fits}
use Rattle.smv_ltl.proofs.names.free_names.Goals as goal

pub loop-k-preserved : goal.loop-k-preserved
loop-k-preserved c =
    let used = names_of c.args.tokens.now in
    let count = c.args.count in
    let k = c.loop-k.k in
    let old = c.loop-k.names.items in
    let new = c.add_free.new.names.items in
    let one : new ≡ old ++ free_from used k 1 = c.in_ok-add_free.ensures ∙ ap (λ (names : List Name). old ++ free_from names k 1) c.in_ok-used.ensures in
    record {
      within = still_fits used count k old new (omega arith) one;
      left = step used count (count + length used) k old new (omega arith) (omega arith) one ∙ c.loop-k.invariant.left;
    }
