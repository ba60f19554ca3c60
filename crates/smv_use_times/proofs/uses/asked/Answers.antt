use Rattle.std.proofs.Common.{ap, sym, ◌∙◌}
use Rattle.std.specs.List.{list_any}
use Rattle.law_obligations.specs.Times.{is_member, same_time}
use Rattle.smv_use_times.specs.Tables.{entry_of, outline}
use Rattle.smv_use_times.specs.Uses.{asks, marked}
use Rattle.smv_use_times.proofs.MarkLaws.{by_any_marks, by_same_marks}
use Rattle.smv_use_times.proofs.uses.asked.Goals as goal

pub returns-then-not-some_asks : goal.returns-then-not-some_asks
returns-then-not-some_asks c =
    by_any_marks (outline c.args.tables.now) (marked c.new.result.items) (is_member (same_time (outline c.args.tables.now) c.args.proof.now.place (entry_of c.args.proof.now))) c.args.proof.now.choice.now.picks
    (ap (list_any asks) (sym c.as_slice.ensures) ∙ (sym c.some_asks.ensures ∙ c.if-not-some_asks.true))

pub returns : goal.returns
returns c =
    by_same_marks (outline c.args.tables.now) (marked c.in_ok-marks.marks.items) (is_member (same_time (outline c.args.tables.now) c.args.proof.now.place (entry_of c.args.proof.now))) c.in_ok-marks.ensures c.args.proof.now.choice.now.picks
