use Rattle.law_use_times.proofs.Walking.{now-by_labels}
use Rattle.law_use_times.proofs.laws.now_by_labels.Goals as goal

pub returns : goal.returns
returns c = λ edges u v labels is_graph are e. now-by_labels edges u v labels is_graph are e
