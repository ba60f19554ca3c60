use Rattle.std.proofs.Common.{◌≡◌, ◌<◌, ◌≤◌, Bool, true, false, length, set, sym, ◌∙◌, ap, arith, inl, inr}
use Rattle.std.proofs.Math.ListN.{length-set}
use Rattle.bdd_store.specs.declared.chains.Node.{Node}
use Rattle.bdd_store.specs.Graph.{var_at}
use Rattle.bdd_store.specs.Seen.{flag}
use Rattle.bdd_store.proofs.ChainLaws.{cases_eq}
use Rattle.bdd_store.proofs.Writes.{written_here, written_other}
use Rattle.bdd_store.proofs.chains.give_back.Goals.{then-not-marks-place, else-not-marks-place}
use Rattle.bdd_store.proofs.chains.give_back.Goals as goal

opposite : (x : Bool) → x ≡ true → x ≡ false → ⊥
opposite x set_ clear_ = absurd (let f : true ≡ false = sym set_ ∙ clear_ in cc)

pub loop-place-preserved : goal.loop-place-preserved
unfolding flag
loop-place-preserved c =
    let m = c.loop-place.place in
    let ns = c.loop-place.nodes.items in
    let start = c.args.nodes.now.items in
    let marks = c.args.marks.now in
    let is = c.loop-place.invariant in
    let two : 2 ≤ m = omega (arith, c.loop-place.auto.place) in
    let within : m < length ns = omega (arith, c.loop-place.nodes.ok.0, c.loop-place.auto.place-end, c.loop-place-test.true) in
    elim c.if-not-marks-place.branch [
      | then-not-marks-place w ↦ rw w.nodes-is (record {
        count = length-set ns m _ ∙ is.count;
        later = λ r le. written_other ns m _ r (λ e. omega arith) ∙ is.later r (omega arith);
        kept = λ r which. written_other ns m _ r (λ e. elim which [ inl small ↦ omega arith | inr set_ ↦ opposite (flag marks r) set_ (ap (flag marks) e ∙ w.if-not-marks-place.true) ]) ∙ is.kept r which;
        gone = λ r le lt clear_. elim (cases_eq r m) [
          | inl at ↦ ap (var_at (set ns m _)) at ∙ ap (λ (x : Node). x.var) (written_here ns m _ within)
          | inr ne ↦ ap (λ (x : Node). x.var) (written_other ns m _ r ne) ∙ is.gone r le (omega arith) clear_
        ];
      })
      | else-not-marks-place w ↦ rw w.nodes-is (record {
        count = is.count;
        later = λ r le. is.later r (omega arith);
        kept = is.kept;
        gone = λ r le lt clear_. elim (cases_eq r m) [
          | inl at ↦ absurd (opposite (flag marks r) (ap (flag marks) at ∙ w.if-not-marks-place.false) clear_)
          | inr ne ↦ is.gone r le (omega arith) clear_
        ];
      })
    ]
