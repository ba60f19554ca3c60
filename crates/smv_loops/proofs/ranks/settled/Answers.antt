use Rattle.std.proofs.Common.{◌≡◌, ℕ, length, ◌<◌, arith}
use Rattle.smv_loops.specs.Ranks.{rank, Raised, AreHeldUp}
use Rattle.smv_loops.proofs.RankLaws.{falls_on, settled_now}
use Rattle.smv_loops.proofs.Slices.{put_back}
use Rattle.smv_loops.proofs.ranks.settled.Goals as goal

pub rounds-preserved : goal.rounds-preserved
rounds-preserved c =
    let old = c.rounds.ranks.items in
    let new = c.raise-moved.new.ranks in
    let flags = c.in_ok-flags.flags.items in
    let h : AreHeldUp old c.args.links.now flags = rw c.as_slice.ensures.value at c.in_ok-flags.ensures in
    let most : (cell : ℕ) → rank old cell < c.in_ok-next.next = rw c.as_slice-in-rounds.ensures.value at c.in_ok-next.ensures in
    let r : Raised flags c.in_ok-next.next old new c.raise-moved.result = rw (c.as_slice-in-rounds-2.ensures.value, c.as_mut_slice.ensures.value) at c.raise-moved.ensures in
    let len : c.rounds.ranks.len ≡ length old = omega (arith, c.rounds.ranks.ok.0) in
    let e = r.room in
    let i = c.rounds.invariant.room in
    rw (put_back c.rounds.ranks.len new old e len) (record {
      room = omega (arith, e, i);
      fall = falls_on flags c.in_ok-next.next old new c.raise-moved.result r c.args.links.now h most c.rounds.invariant.fall;
    })

pub returns-then-not-moved : goal.returns-then-not-moved
returns-then-not-moved c =
    let old = c.rounds.ranks.items in
    let new = c.raise-moved.new.ranks in
    let flags = c.in_ok-flags.flags.items in
    let h : AreHeldUp old c.args.links.now flags = rw c.as_slice.ensures.value at c.in_ok-flags.ensures in
    let r : Raised flags c.in_ok-next.next old new c.raise-moved.result = rw (c.as_slice-in-rounds-2.ensures.value, c.as_mut_slice.ensures.value) at c.raise-moved.ensures in
    let len : c.rounds.ranks.len ≡ length old = omega (arith, c.rounds.ranks.ok.0) in
    let start : c.args.ranks.len ≡ length c.args.ranks.items = omega (arith, c.args.ranks.ok.0) in
    let i = c.rounds.invariant.room in
    rw (put_back c.rounds.ranks.len new old r.room len)
    (settled_now flags c.in_ok-next.next old new c.raise-moved.result r c.if-not-moved.true c.args.ranks.len c.args.links.now (omega (arith, i, start)) h c.rounds.invariant.fall)

pub raise-moved-requires : goal.raise-moved-requires
raise-moved-requires c = let h = c.in_ok-next.ensures 0 in omega (arith, h)
