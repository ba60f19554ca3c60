use Rattle.std.proofs.Common.{map, ap}
use Rattle.smv_mentions.specs.Sizes.{Extent}
use Rattle.smv_size.specs.Summary.{greatest}
use Rattle.smv_size.specs.declared.types.Families.{Families}
use Rattle.smv_size.proofs.SummaryLaws.{told-under}
use Rattle.smv_size.proofs.types.under.Goals as goal

pub returns : goal.returns
returns c xs e =
    told-under c.args.size c.one_more.result c.times_size.result c.args.of xs e
    (c.one_more.ensures (greatest (map (λ (e : Extent). e.indexes) xs)) (ap (λ (f : Families). f.indexes) e))
    (c.times_size.ensures (greatest (map (λ (e : Extent). e.product) xs)) (ap (λ (f : Families). f.product) e))
