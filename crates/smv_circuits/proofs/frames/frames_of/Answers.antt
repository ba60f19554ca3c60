use Rattle.std.proofs.Common.{◌∙◌, ℕ, arith, false, refl, subst, true}
use Rattle.smv_rings.specs.Lists.{refs_of}
use Rattle.smv_rings.proofs.Refs.{each_live, in_before_first, in_before_step, in_broken_first, in_broken_step, in_now_first, in_now_step, part_live}
use Rattle.smv_circuits.specs.Frames.{Becomes}
use Rattle.smv_circuits.specs.Circuits.{value}
use Rattle.smv_circuits.proofs.Adds.{in_then}
use Rattle.smv_circuits.proofs.FrameLaws.{frames_are, shown_tells, started_in}
use Rattle.smv_circuits.proofs.frames.frames_of.Goals as goal

pub told-requires-clause-now : goal.told-requires-clause-now
told-requires-clause-now c = part_live c.args.store.now (refs_of c.args.rel.now) c.args.rel.now.now_first.items c.as_slice.result.now c.requires.live (λ r one. in_now_first c.args.rel.now r one) c.as_slice.ensures.value

pub told-requires-clause-before : goal.told-requires-clause-before
told-requires-clause-before c = part_live c.args.store.now (refs_of c.args.rel.now) c.args.rel.now.before_first.items c.as_slice-2.result.now c.requires.live (λ r one. in_before_first c.args.rel.now r one) c.as_slice-2.ensures.value

pub told-requires-clause-target : goal.told-requires-clause-target
told-requires-clause-target c = each_live c.args.store.now (refs_of c.args.rel.now) c.requires.live c.args.rel.now.broken_first (in_broken_first c.args.rel.now c.args.rel.now.broken_first refl)

pub told-requires-clause-circuit : goal.told-requires-clause-circuit
told-requires-clause-circuit c = c.without_gates-circuit.ensures.circuit

pub told-requires-2-clause-now : goal.told-requires-2-clause-now
told-requires-2-clause-now c = part_live c.args.store.now (refs_of c.args.rel.now) c.args.rel.now.now_step.items c.as_slice-3.result.now c.requires.live (λ r one. in_now_step c.args.rel.now r one) c.as_slice-3.ensures.value

pub told-requires-2-clause-before : goal.told-requires-2-clause-before
told-requires-2-clause-before c = part_live c.args.store.now (refs_of c.args.rel.now) c.args.rel.now.before_step.items c.as_slice-4.result.now c.requires.live (λ r one. in_before_step c.args.rel.now r one) c.as_slice-4.ensures.value

pub told-requires-2-clause-target : goal.told-requires-2-clause-target
told-requires-2-clause-target c = each_live c.args.store.now (refs_of c.args.rel.now) c.requires.live c.args.rel.now.broken_step (in_broken_step c.args.rel.now c.args.rel.now.broken_step refl)

pub told-requires-clause-first : goal.told-requires-clause-first
told-requires-clause-first c = c.without_gates-circuit.ensures.first

pub returns-clause-frames : goal.returns-clause-frames
returns-clause-frames c =
    let bits = c.from-bits.ensures in
    let first = c.without_gates-circuit.ensures.first in
    let at = c.latch-is_started.ensures.variable in
    frames_are c.args.store.now c.args.rel.now c.without_gates-circuit.result.first c.told.new.circuit.first c.told-2.new.circuit.first c.choice.new.self.first c.choice-2.new.self.first c.becomes.new.circuit.first
    c.without_gates-circuit.result.gates.items c.told.new.circuit.gates.items c.told-2.new.circuit.gates.items c.choice.new.self.gates.items c.choice-2.new.self.gates.items c.becomes.new.circuit.gates.items
    c.latch-is_started.result c.in_ok-first.first.goes c.in_ok-first.first.breaks c.in_ok-step.step.goes c.in_ok-step.step.breaks c.in_ok-started.started c.in_ok-broken.broken c.in_ok-next.next.items
    (omega (arith, bits, first, at)) (omega (arith, bits, at)) c.latch-is_started.ensures.inverted
    (shown_tells c.args.store.now false c.without_gates-circuit.result.first c.told.new.circuit.first c.without_gates-circuit.result.gates.items c.told.new.circuit.gates.items c.in_ok-first.first.goes c.in_ok-first.first.breaks c.from-bits.result c.args.rel.now.bits
    c.as_slice.result.now c.args.rel.now.now_first.items c.as_slice-2.result.now c.args.rel.now.before_first.items c.args.rel.now.broken_first bits c.as_slice.ensures.value c.as_slice-2.ensures.value c.in_ok-first.ensures)
    (shown_tells c.args.store.now true c.told.new.circuit.first c.told-2.new.circuit.first c.told.new.circuit.gates.items c.told-2.new.circuit.gates.items c.in_ok-step.step.goes c.in_ok-step.step.breaks c.from-bits.result c.args.rel.now.bits
    c.as_slice-3.result.now c.args.rel.now.now_step.items c.as_slice-4.result.now c.args.rel.now.before_step.items c.args.rel.now.broken_step bits c.as_slice-3.ensures.value c.as_slice-4.ensures.value c.in_ok-step.ensures)
    c.in_ok-started.ensures c.in_ok-broken.ensures
    (subst (λ (n : ℕ). Becomes c.choice-2.new.self.first c.choice-2.new.self.gates.items c.becomes.new.circuit.first c.becomes.new.circuit.gates.items (λ a. value c.choice-2.new.self.first c.choice-2.new.self.gates.items a c.in_ok-started.started) n c.in_ok-next.next.items) bits c.in_ok-next.ensures)

pub told-requires-2-clause-first : goal.told-requires-2-clause-first
told-requires-2-clause-first c = c.in_ok-first.ensures.keeps.stays ∙ omega (arith, c.without_gates-circuit.ensures.first, c.latch-is_started.ensures.variable, c.from-bits.ensures)

pub told-requires-2-clause-circuit : goal.told-requires-2-clause-circuit
told-requires-2-clause-circuit c = c.in_ok-first.ensures.circuit

pub choice-requires-clause-circuit : goal.choice-requires-clause-circuit
choice-requires-clause-circuit c = c.in_ok-step.ensures.circuit

pub choice-requires-clause-test : goal.choice-requires-clause-test
choice-requires-clause-test c =
    let first = c.in_ok-first.ensures.keeps.stays in
    let second = c.in_ok-step.ensures.keeps.stays in
    started_in c.args.rel.now.bits c.told-2.new.circuit.first c.told-2.new.circuit.gates.items c.latch-is_started.result (omega (arith, first, second, c.without_gates-circuit.ensures.first, c.latch-is_started.ensures.variable, c.from-bits.ensures)) (omega (arith, c.latch-is_started.ensures.variable, c.from-bits.ensures))

pub choice-requires-clause-high : goal.choice-requires-clause-high
choice-requires-clause-high c = c.in_ok-step.ensures.goes_in

pub choice-requires-clause-low : goal.choice-requires-clause-low
choice-requires-clause-low c = in_then c.told.new.circuit.first c.told-2.new.circuit.first c.told.new.circuit.gates.items c.told-2.new.circuit.gates.items c.in_ok-first.first.goes c.in_ok-step.ensures.keeps c.in_ok-first.ensures.goes_in

pub choice-requires-2-clause-circuit : goal.choice-requires-2-clause-circuit
choice-requires-2-clause-circuit c = c.in_ok-started.ensures.circuit

pub choice-requires-2-clause-test : goal.choice-requires-2-clause-test
choice-requires-2-clause-test c =
    let first = c.in_ok-first.ensures.keeps.stays in
    let second = c.in_ok-step.ensures.keeps.stays in
    let third = c.in_ok-started.ensures.keeps.stays in
    started_in c.args.rel.now.bits c.choice.new.self.first c.choice.new.self.gates.items c.latch-is_started.result (omega (arith, first, second, third, c.without_gates-circuit.ensures.first, c.latch-is_started.ensures.variable, c.from-bits.ensures)) (omega (arith, c.latch-is_started.ensures.variable, c.from-bits.ensures))

pub choice-requires-2-clause-high : goal.choice-requires-2-clause-high
choice-requires-2-clause-high c = in_then c.told-2.new.circuit.first c.choice.new.self.first c.told-2.new.circuit.gates.items c.choice.new.self.gates.items c.in_ok-step.step.breaks c.in_ok-started.ensures.keeps c.in_ok-step.ensures.breaks_in

pub choice-requires-2-clause-low : goal.choice-requires-2-clause-low
choice-requires-2-clause-low c =
    in_then c.told-2.new.circuit.first c.choice.new.self.first c.told-2.new.circuit.gates.items c.choice.new.self.gates.items c.in_ok-first.first.breaks c.in_ok-started.ensures.keeps
    (in_then c.told.new.circuit.first c.told-2.new.circuit.first c.told.new.circuit.gates.items c.told-2.new.circuit.gates.items c.in_ok-first.first.breaks c.in_ok-step.ensures.keeps c.in_ok-first.ensures.breaks_in)

pub becomes-requires-clause-first : goal.becomes-requires-clause-first
becomes-requires-clause-first c =
    let first = c.in_ok-first.ensures.keeps.stays in
    let second = c.in_ok-step.ensures.keeps.stays in
    let third = c.in_ok-started.ensures.keeps.stays in
    let fourth = c.in_ok-broken.ensures.keeps.stays in
    omega (arith, first, second, third, fourth, c.without_gates-circuit.ensures.first, c.latch-is_started.ensures.variable, c.from-bits.ensures)

pub becomes-requires-clause-circuit : goal.becomes-requires-clause-circuit
becomes-requires-clause-circuit c = c.in_ok-broken.ensures.circuit

pub becomes-requires-clause-test : goal.becomes-requires-clause-test
becomes-requires-clause-test c = in_then c.choice.new.self.first c.choice-2.new.self.first c.choice.new.self.gates.items c.choice-2.new.self.gates.items c.in_ok-started.started c.in_ok-broken.ensures.keeps c.in_ok-started.ensures.within
