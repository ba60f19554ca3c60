use Rattle.smv_rings.specs.Schedule.{schedule}
use Rattle.law_events.proofs.Unique.{first_once}
use Rattle.law_events.proofs.verdicts.one_verdict.Goals as goal

pub returns : goal.returns
returns c l nodes images v w first also = first_once (record { vars = _; nodes = nodes; images = images }) (schedule l images) v w first also
