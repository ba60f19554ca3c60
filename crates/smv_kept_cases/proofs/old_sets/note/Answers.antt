use Rattle.std.proofs.Common.{◌∙◌, ◌&&◌, ℕ, List, ap, nat_eq}
use Rattle.std.specs.Str.{bytes_eq}
use Rattle.law_lists.proofs.Options.{none_from_test}
use Rattle.smv_kept_cases.specs.OldSets.{noted, found_or}
use Rattle.smv_kept_cases.proofs.OldLaws.{noted_new}
use Rattle.smv_kept_cases.proofs.old_sets.note.Goals as goal

pub returns-in_ok-insert : goal.returns-in_ok-insert
returns-in_ok-insert c = λ unit number.
    noted_new c.args.first.now c.insert.new.self (c.as_bytes.result, c.args.set.now.number) c.args.set (none_from_test _ _ c.contains_key.ensures c.if-not-contains_key.true) (λ q. c.in_ok-insert.ensures.updates.0 q) unit number
    ∙ ap (λ (bytes : List ℕ). found_or (noted c.args.first.now unit number) (bytes_eq bytes unit && nat_eq c.args.set.now.number number) c.args.set.now) c.as_bytes.ensures
