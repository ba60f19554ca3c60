use Rattle.std.proofs.Common.{◌∙◌, ◌*◌, ◌<◌, ℕ, ap, subst, sym}
use Rattle.bdd_store.specs.Diagram.{table}
use Rattle.smv_circuits.specs.declared.circuit.Literal.{Literal}
use Rattle.smv_circuits.specs.Circuits.{Adds}
use Rattle.smv_circuits.specs.Readings.{read_by}
use Rattle.smv_circuits.proofs.Adds.{constant_adds, in_then}
use Rattle.smv_circuits.proofs.WalkLaws.{bead_adds, known_adds, known_more, known_on, variable_in}
use Rattle.smv_circuits.proofs.gates.+literal_of.Goals as goal

-- the variable is one of two states
below : (t : ℕ) (c : goal.In_ok-insert t) → c.var.result < 2 * c.args.reading.bits
below t c = subst (λ (n : ℕ). c.var.result < n) c.requires.vars c.var.ensures.within

made : (t : ℕ) (c : goal.In_ok-insert t) → Adds c.args.circuit.now.first c.args.circuit.now.gates.items c.choice.new.self.first c.choice.new.self.gates.items c.in_ok-literal.literal (λ a. table c.args.store.now c.args.f (read_by c.args.reading.bits c.args.reading.step a))
made t c =
    bead_adds c.args.store.now c.args.reading.bits c.args.reading.step c.args.f c.low.result c.high.result c.var.result c.args.circuit.now.first c.literal_of.new.circuit.first c.literal_of-2.new.circuit.first c.choice.new.self.first
    c.args.circuit.now.gates.items c.literal_of.new.circuit.gates.items c.literal_of-2.new.circuit.gates.items c.choice.new.self.gates.items c.in_ok-low.low c.in_ok-high.high c.literal_at-test.result c.in_ok-literal.literal
    (below t c) (c.in_ok-high.ensures.adds.keeps.stays ∙ (c.in_ok-low.ensures.adds.keeps.stays ∙ c.requires.first)) c.var.ensures.var c.low.ensures.table c.high.ensures.table c.literal_at-test.ensures.variable c.literal_at-test.ensures.inverted
    c.in_ok-low.ensures.adds c.in_ok-high.ensures.adds c.in_ok-literal.ensures

pub returns-in-Some-clause-adds : goal.returns-in-Some-clause-adds
returns-in-Some-clause-adds t c =
    constant_adds c.args.circuit.now.first c.args.circuit.now.gates.items c.constant.result c.in-Some.value (λ a. table c.args.store.now c.args.f (read_by c.args.reading.bits c.args.reading.step a)) c.requires.circuit (ap (λ (l : Literal). l.variable) c.constant.ensures) (ap (λ (l : Literal). l.inverted) c.constant.ensures)
    (λ a. c.in-Some.ensures.some (read_by c.args.reading.bits c.args.reading.step a))

pub returns-in-Some-literal_in-clause-adds : goal.returns-in-Some-literal_in-clause-adds
returns-in-Some-literal_in-clause-adds t c =
    known_adds c.args.circuit.now.first c.args.circuit.now.gates.items c.in-Some-literal_in.literal (λ a. table c.args.store.now c.args.f (read_by c.args.reading.bits c.args.reading.step a)) c.requires.circuit (c.requires.known c.args.f c.in-Some-literal_in.literal (sym c.in-Some-literal_in.ensures))

pub choice-requires-clause-circuit : goal.choice-requires-clause-circuit
choice-requires-clause-circuit t c = c.in_ok-high.ensures.adds.circuit

pub choice-requires-clause-test : goal.choice-requires-clause-test
choice-requires-clause-test t c =
    variable_in c.args.reading.bits c.args.reading.step c.var.result c.literal_of-2.new.circuit.first c.literal_of-2.new.circuit.gates.items c.literal_at-test.result (subst (λ (n : ℕ). c.var.result < n) c.requires.vars c.var.ensures.within) (c.in_ok-high.ensures.adds.keeps.stays ∙ (c.in_ok-low.ensures.adds.keeps.stays ∙ c.requires.first)) c.literal_at-test.ensures.variable

pub choice-requires-clause-high : goal.choice-requires-clause-high
choice-requires-clause-high t c = c.in_ok-high.ensures.adds.within

pub choice-requires-clause-low : goal.choice-requires-clause-low
choice-requires-clause-low t c =
    in_then c.literal_of.new.circuit.first c.literal_of-2.new.circuit.first c.literal_of.new.circuit.gates.items c.literal_of-2.new.circuit.gates.items c.in_ok-low.low c.in_ok-high.ensures.adds.keeps c.in_ok-low.ensures.adds.within

pub returns-clause-adds : goal.returns-clause-adds
returns-clause-adds t c = made t c

pub returns-clause-known : goal.returns-clause-known
returns-clause-known t c =
    known_more c.args.store.now c.args.reading.bits c.args.reading.step c.literal_of-2.new.known c.insert.new.self c.choice.new.self.first c.choice.new.self.gates.items c.args.f c.in_ok-literal.literal
    (known_on c.args.store.now c.args.reading.bits c.args.reading.step c.literal_of-2.new.known c.literal_of-2.new.circuit.first c.choice.new.self.first c.literal_of-2.new.circuit.gates.items c.choice.new.self.gates.items c.in_ok-literal.ensures.keeps c.in_ok-high.ensures.known)
    c.in_ok-insert.ensures.updates (made t c).within (made t c).value
