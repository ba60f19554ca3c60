use Rattle.std.proofs.Common.{◌-◌, ◌/◌, ◌^◌, bit_and, ◌∙◌, ap}
use Rattle.memo_table.specs.Table.{bucket_of, mixed_of}
use Rattle.memo_table.proofs.bucket_of.Goals as goal

pub returns-clause-bucket : goal.returns-clause-bucket
unfolding bucket_of mixed_of
returns-clause-bucket c =
    ap (λ x. bit_and (mixed_of x c.place-2.result / 2 ^ 32) (c.args.len - 1)) c.place.ensures
    ∙ ap (λ y. bit_and (mixed_of c.args.first.place y / 2 ^ 32) (c.args.len - 1)) c.place-2.ensures
