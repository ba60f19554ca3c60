use Rattle.smv_size.proofs.SummaryLaws.{wide-indexes, wide-product}
use Rattle.smv_size.proofs.types.is_wide.Goals as goal

pub returns-then-of-eq-MOST_INDEXES : goal.returns-then-of-eq-MOST_INDEXES
returns-then-of-eq-MOST_INDEXES c xs e = wide-indexes c.args.of xs e c.if-of-eq-MOST_INDEXES.true

pub returns-else-of-eq-MOST_INDEXES : goal.returns-else-of-eq-MOST_INDEXES
returns-else-of-eq-MOST_INDEXES c xs e = wide-product c.args.of xs e c.if-of-eq-MOST_INDEXES.false
