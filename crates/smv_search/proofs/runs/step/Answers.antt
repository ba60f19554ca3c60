use Rattle.std.proofs.Common.{◌≡◌, Bool, true, false, IsTrue, [], ◌∷◌, map}
use Rattle.bdd_store.specs.Diagram.{table}
use Rattle.smv_rings.specs.Ops.{act_of}
use Rattle.smv_search.specs.Runs.{Runs}
use Rattle.smv_search.proofs.Keep.{keeps_refs}
use Rattle.smv_search.proofs.Steps.{handed_on, past_stops, step_keeps, made_live, step_stops, look_passes, look_decides, plain_passes}
use Rattle.smv_search.proofs.runs.step.Goals as goal

true_is : {x : Bool} → x ≡ true → IsTrue x
true_is e = e

false_is : {x : Bool} → IsTrue x → x ≡ false → ⊥
false_is h e = cc

pub make-requires-clause-refs : goal.make-requires-clause-refs
make-requires-clause-refs c = λ r one. c.requires.live r (c.requires.refs r one)

pub returns-in_err-made-clause-keeps : goal.returns-in_err-made-clause-keeps
returns-in_err-made-clause-keeps c = keeps_refs c.args.store.now c.make.new.store c.args.live.now.items c.requires.live c.in_err-made.ensures.keeps

pub returns-in_err-made-clause-runs : goal.returns-in_err-made-clause-runs
returns-in_err-made-clause-runs c = λ k images.
    handed_on c.from_residual.result c.in_err-made.field-0.0
    (Runs c.make.new.store (record { vars = c.args.store.now.vars; nodes = c.args.nodes; images = images }) (map (table c.args.store.now) c.args.live.now.items) (table c.args.store.now c.args.p) (act_of c.args.store.now k c.args.op ∷ []) k)
    c.from_residual.ensures.1
    (past_stops c.args.store.now c.make.new.store c.args.live.now.items c.args.p c.args.op c.args.nodes c.in_err-made.field-0.0 c.in_err-made.ensures.large k images)

pub returns-in_err-append-clause-keeps : goal.returns-in_err-append-clause-keeps
returns-in_err-append-clause-keeps c = step_keeps c.args.store.now c.make.new.store c.append.new.store c.args.live.now.items c.args.p c.in_ok-made.made c.args.op c.args.nodes c.requires.live c.requires.p c.in_ok-made.ensures.live c.in_ok-made.ensures.table c.in_ok-made.ensures.keeps c.append.ensures.keeps

pub returns-in_err-append-clause-runs : goal.returns-in_err-append-clause-runs
returns-in_err-append-clause-runs c = λ k images.
    handed_on c.from_residual-in_err-append.result c.in_err-append.field-0.0
    (Runs c.append.new.store (record { vars = c.args.store.now.vars; nodes = c.args.nodes; images = images }) (map (table c.args.store.now) c.args.live.now.items) (table c.args.store.now c.args.p) (act_of c.args.store.now k c.args.op ∷ []) k)
    c.from_residual-in_err-append.ensures.1
    (step_stops c.args.store.now c.make.new.store c.append.new.store c.args.live.now.items c.args.p c.in_ok-made.made c.args.op c.args.nodes c.requires.live c.requires.p c.in_ok-made.ensures.live c.in_ok-made.ensures.table c.in_ok-made.ensures.keeps c.append.ensures.keeps c.in_err-append.field-0.0 k images c.in_err-append.ensures.count)

pub is_false-requires : goal.is_false-requires
is_false-requires c = made_live c.args.store.now c.make.new.store c.append.new.store c.args.live.now.items c.args.p c.in_ok-made.made c.args.op c.args.nodes c.requires.live c.requires.p c.in_ok-made.ensures.live c.in_ok-made.ensures.table c.in_ok-made.ensures.keeps c.append.ensures.keeps

pub returns-then-is_false-clause-keeps : goal.returns-then-is_false-clause-keeps
returns-then-is_false-clause-keeps c = step_keeps c.args.store.now c.make.new.store c.append.new.store c.args.live.now.items c.args.p c.in_ok-made.made c.args.op c.args.nodes c.requires.live c.requires.p c.in_ok-made.ensures.live c.in_ok-made.ensures.table c.in_ok-made.ensures.keeps c.append.ensures.keeps

pub returns-then-is_false-clause-runs : goal.returns-then-is_false-clause-runs
returns-then-is_false-clause-runs c = look_passes c.args.store.now c.make.new.store c.append.new.store c.args.live.now.items c.args.p c.in_ok-made.made c.args.op c.args.nodes c.requires.live c.requires.p c.in_ok-made.ensures.live c.in_ok-made.ensures.table c.in_ok-made.ensures.keeps c.append.ensures.keeps c.in-Look.field-0 c.in-Look.is c.in_ok-append.ensures.count (c.is_false.ensures.0 (true_is c.if-is_false.true))

pub returns-in-Look-clause-keeps : goal.returns-in-Look-clause-keeps
returns-in-Look-clause-keeps c = step_keeps c.args.store.now c.make.new.store c.append.new.store c.args.live.now.items c.args.p c.in_ok-made.made c.args.op c.args.nodes c.requires.live c.requires.p c.in_ok-made.ensures.live c.in_ok-made.ensures.table c.in_ok-made.ensures.keeps c.append.ensures.keeps

pub returns-in-Look-clause-runs : goal.returns-in-Look-clause-runs
returns-in-Look-clause-runs c = look_decides c.args.store.now c.make.new.store c.append.new.store c.args.live.now.items c.args.p c.in_ok-made.made c.args.op c.args.nodes c.requires.live c.requires.p c.in_ok-made.ensures.live c.in_ok-made.ensures.table c.in_ok-made.ensures.keeps c.append.ensures.keeps c.in-Look.field-0 c.in-Look.is c.in_ok-append.ensures.count (λ none. false_is (c.is_false.ensures.1 none) c.if-is_false.false)

pub returns : goal.returns
returns c = record {
  same = c.in_ok-append.ensures.same;
  keeps = step_keeps c.args.store.now c.make.new.store c.append.new.store c.args.live.now.items c.args.p c.in_ok-made.made c.args.op c.args.nodes c.requires.live c.requires.p c.in_ok-made.ensures.live c.in_ok-made.ensures.table c.in_ok-made.ensures.keeps c.append.ensures.keeps;
  runs = plain_passes c.args.store.now c.make.new.store c.append.new.store c.args.live.now.items c.args.p c.in_ok-made.made c.args.op c.args.nodes c.requires.live c.requires.p c.in_ok-made.ensures.live c.in_ok-made.ensures.table c.in_ok-made.ensures.keeps c.append.ensures.keeps c.in_default.not-Look c.in_ok-append.ensures.count;
}
