use Rattle.law_use_times.proofs.SameTimes.{first_within, once_within, marks_set}
use Rattle.law_use_times.proofs.laws.same_times_are_found.Goals as goal

pub returns : goal.returns
returns c = record { first = first_within; reads = once_within; found = marks_set }
