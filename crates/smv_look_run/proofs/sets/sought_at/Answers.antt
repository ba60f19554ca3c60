use Rattle.smv_plan_reports.proofs.PlanLaws.{entries_long}
use Rattle.smv_look_sets.proofs.PlaceLaws.{part_there}
use Rattle.std.proofs.Common.{◌<◌, ℕ, subst, sym}
use Rattle.law_obligations.specs.Units.{script_of}
use Rattle.smv_look_run.proofs.sets.sought_at.Goals as goal

pub returns : goal.returns
returns c =
    let long = entries_long c.args.plan.now c.requires.whole in
    let entry = part_there (script_of c.args.plan.now.design c.args.plan.now.leaves c.args.plan.now.choices).entries c.args.u (subst (λ (n : ℕ). c.args.u < n) (sym long) c.requires.there) in
    record {
      entry = entry.0;
      sought = c.in_ok-sought.sought;
      has_entry = entry.1;
      is_sought = c.in_ok-sought.ensures entry.0 entry.1;
      status = c.sought_status-status.ensures;
      lines = c.in_ok-bytes.ensures entry.0 entry.1;
    }
