use Rattle.std.proofs.Common.{◌≡◌, ◌-◌, ◌+◌, Some, map, ap, ◌∙◌, arith, rules}
use Rattle.smv_core.specs.Values.{numbers_from}
use Rattle.smv_loops.proofs.WayLaws.{one-number}
use Rattle.smv_loops.proofs.ways.numbers.Goals as goal

pub loop-k-preserved : goal.loop-k-preserved
loop-k-preserved c = record {
  so_far = one-number c.args.low c.loop-k.k c.loop-k.numbers.items c.push.new.self.items (omega arith) c.loop-k.invariant.so_far (search rules);
  most = omega arith;
}

pub returns : goal.returns
returns c =
    let n : c.loop-k.k - c.args.low ≡ c.args.high + 1 - c.args.low = omega (arith, c.loop-k.invariant.most) in
    c.loop-k.invariant.so_far ∙ ap (λ n. map Some (numbers_from c.args.low n)) n
