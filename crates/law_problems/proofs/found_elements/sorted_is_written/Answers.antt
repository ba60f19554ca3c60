use Rattle.law_problems.proofs.Sorting.{sorted-written}
use Rattle.law_problems.proofs.found_elements.sorted_is_written.Goals as goal

pub returns : goal.returns
returns c w o entry params indexed found all sorted order same = sorted-written w o entry params indexed found all sorted order same
