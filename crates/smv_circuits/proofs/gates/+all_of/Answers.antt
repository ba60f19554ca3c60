use Rattle.std.proofs.Common.{rules, length, ◌∙◌, List, ap, subst, sym, map}
use Rattle.std.proofs.lemmas.List.{nil_from_length}
use Rattle.bdd_store.specs.declared.Ref.{Ref}
use Rattle.bdd_store.specs.Diagram.{AreLive, table}
use Rattle.smv_rings.specs.Lists.{all_of}
use Rattle.smv_circuits.specs.declared.circuit.Literal.{Literal}
use Rattle.smv_circuits.specs.Circuits.{Adds}
use Rattle.smv_circuits.specs.Readings.{read_by}
use Rattle.smv_circuits.proofs.Adds.{in_then}
use Rattle.smv_circuits.proofs.WalkLaws.{known_on, live_first, live_others, more_adds, none_adds}
use Rattle.smv_circuits.proofs.gates.+all_of.Goals as goal

pub all_of-requires : goal.all_of-requires
all_of-requires t c =
    let k = c.in-Some.ensures.cases in
    let live : AreLive c.args.store.now c.in-Some.others.now = live_others c.args.store.now c.in-Some.f.now c.in-Some.others.now (subst (AreLive c.args.store.now) k.0 c.requires.live) in
    let long = ap (λ (fs : List Ref). length fs) k.0 in
    search (rules, live, long)

pub literal_of-requires-clause-live : goal.literal_of-requires-clause-live
literal_of-requires-clause-live t c = live_first c.args.store.now c.in-Some.f.now c.in-Some.others.now (subst (AreLive c.args.store.now) c.in-Some.ensures.cases.0 c.requires.live)

pub literal_of-requires-clause-first : goal.literal_of-requires-clause-first
literal_of-requires-clause-first t c = c.in_ok-product.ensures.adds.keeps.stays ∙ c.requires.first

pub literal_of-requires-clause-circuit : goal.literal_of-requires-clause-circuit
literal_of-requires-clause-circuit t c = c.in_ok-product.ensures.adds.circuit

pub and-requires-clause-circuit : goal.and-requires-clause-circuit
and-requires-clause-circuit t c = c.in_ok-literal.ensures.adds.circuit

pub and-requires-clause-one : goal.and-requires-clause-one
and-requires-clause-one t c = c.in_ok-literal.ensures.adds.within

pub and-requires-clause-other : goal.and-requires-clause-other
and-requires-clause-other t c =
    in_then c.all_of.new.circuit.first c.literal_of.new.circuit.first c.all_of.new.circuit.gates.items c.literal_of.new.circuit.gates.items c.in_ok-product.product c.in_ok-literal.ensures.adds.keeps c.in_ok-product.ensures.adds.within

pub returns-clause-adds : goal.returns-clause-adds
returns-clause-adds t c =
    subst (λ (fs : List Ref). Adds c.args.circuit.now.first c.args.circuit.now.gates.items c.and.new.self.first c.and.new.self.gates.items c.in_ok-made.made (λ a. all_of (map (table c.args.store.now) fs) (read_by c.args.reading.bits c.args.reading.step a))) (sym c.in-Some.ensures.cases.0)
    (more_adds c.args.store.now c.args.reading.bits c.args.reading.step c.in-Some.f.now c.in-Some.others.now c.args.circuit.now.first c.all_of.new.circuit.first c.literal_of.new.circuit.first c.and.new.self.first
    c.args.circuit.now.gates.items c.all_of.new.circuit.gates.items c.literal_of.new.circuit.gates.items c.and.new.self.gates.items c.in_ok-product.product c.in_ok-literal.literal c.in_ok-made.made
    c.in_ok-product.ensures.adds c.in_ok-literal.ensures.adds c.in_ok-made.ensures)

pub returns-clause-known : goal.returns-clause-known
returns-clause-known t c =
    known_on c.args.store.now c.args.reading.bits c.args.reading.step c.literal_of.new.known c.literal_of.new.circuit.first c.and.new.self.first c.literal_of.new.circuit.gates.items c.and.new.self.gates.items c.in_ok-made.ensures.keeps c.in_ok-literal.ensures.known

pub returns-in_default-clause-adds : goal.returns-in_default-clause-adds
returns-in_default-clause-adds t c =
    subst (λ (fs : List Ref). Adds c.args.circuit.now.first c.args.circuit.now.gates.items c.args.circuit.now.first c.args.circuit.now.gates.items c.constant.result (λ a. all_of (map (table c.args.store.now) fs) (read_by c.args.reading.bits c.args.reading.step a))) (sym (nil_from_length c.args.functions.now c.in_default.ensures.cases))
    (none_adds c.args.store.now c.args.reading.bits c.args.reading.step c.args.circuit.now.first c.args.circuit.now.gates.items c.constant.result c.requires.circuit (ap (λ (l : Literal). l.variable) c.constant.ensures) (ap (λ (l : Literal). l.inverted) c.constant.ensures))
