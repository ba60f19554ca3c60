use Rattle.std.proofs.Common.{◌≡◌, drop}
use Rattle.smv_indexes.specs.Indexes.{index_of, added_all}
use Rattle.smv_indexes.proofs.+indexes.Given as goal

abbrev pub invariant-sum-loop-signed : goal.invariant-sum-loop-signed
invariant-sum-loop-signed l = added_all (index_of l.total) (drop l.signed-index l.more) ≡ added_all (index_of l.initial.total) l.more
