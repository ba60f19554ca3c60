use Rattle.std.proofs.Common.{◌≡◌, ℕ, suc, ◌-◌, ◌<◌, ◌*◌, ◌++◌, inl, inr, map, length, drop, get_or, refl, sym, subst, arith}
use Rattle.bdd_store.specs.declared.Ref.{Ref}
use Rattle.bdd_store.specs.Diagram.{table}
use Rattle.smv_rings.specs.Ops.{IsOneOf, AreMarked, back_acts, joins_onto}
use Rattle.smv_rings.proofs.Plans.{joins_more, marked_step, joins_step, pushed_one}
use Rattle.smv_rings.proofs.Refs.{one_at}
use Rattle.smv_rings.proofs.ops.add_joins.Goals as goal

pub loop-left-preserved : goal.loop-left-preserved
loop-left-preserved c =
    let b : ℕ = c.loop-left.left - 1 in
    let none : Ref = record { place = 0 } in
    let f : Ref = get_or c.args.fs.now b none in
    let lt : b < length c.args.fs.now = omega arith in
    let e : c.loop-left.left ≡ suc b = omega arith in
    record {
      within = omega arith;
      count = c.in_ok-add_outs.ensures.count;
      read = λ later marked. marked_step c.args.store.now (2 * c.args.bits) c.args.fs.now b f none later c.add_outs.new.read.items lt refl
          (c.in_ok-add_outs.ensures.read (map (table c.args.store.now) (drop (suc b) c.args.fs.now) ++ later) (joins_more c.args.store.now c.args.bits c.args.fs.now c.loop-left.left b e later c.loop-left.read.items (c.loop-left.invariant.read later marked)));
      acts = λ later marked k. joins_step c.args.store.now k c.args.bits c.args.fs.now b f none later (back_acts c.args.store.now k c.args.ops.now.items) c.loop-left.ops.items c.add_outs.new.ops.items c.push.new.self.items lt refl c.in_ok-push.ensures.items
          (c.in_ok-add_outs.ensures.acts (map (table c.args.store.now) (drop (suc b) c.args.fs.now) ++ later) (joins_more c.args.store.now c.args.bits c.args.fs.now c.loop-left.left b e later c.loop-left.read.items (c.loop-left.invariant.read later marked)) k)
          (subst (λ (i : ℕ). back_acts c.args.store.now k c.loop-left.ops.items ≡ joins_onto c.args.bits (map (table c.args.store.now) (drop i c.args.fs.now)) later (back_acts c.args.store.now k c.args.ops.now.items)) e (c.loop-left.invariant.acts later marked k));
      refs = λ r one. elim (pushed_one c.add_outs.new.ops.items c.push.new.self.items f c.in_ok-push.ensures.items r one) [
        | inl old ↦ c.loop-left.invariant.refs r (c.in_ok-add_outs.ensures.refs r old)
        | inr here ↦ inr (subst (λ (q : Ref). IsOneOf q c.args.fs.now) (sym here) (one_at c.args.fs.now b none lt))
      ];
    }

pub returns-clause-read : goal.returns-clause-read
returns-clause-read c later marked = subst (λ (i : ℕ). AreMarked (2 * c.args.bits) (map (table c.args.store.now) (drop i c.args.fs.now) ++ later) c.loop-left.read.items) (let e : c.loop-left.left ≡ 0 = omega arith in e) (c.loop-left.invariant.read later marked)
