use Rattle.std.proofs.Common.{◌≡◌, ◌∙◌, ℕ, Bool, true, false, if◌then◌else◌, refl, sym, subst}
use Rattle.std.specs.Int.{from_bool}
use Rattle.smv_proof_take.specs.Numbering.{IsNumbered}
use Rattle.smv_proof_take.proofs.Numbered.{IsSplit, constant_numbered, node_numbered, numbered_again, join_grows, known_on, known_more}
use Rattle.smv_proof_take.proofs.walk.+number_of.Goals as goal

split : (t : ℕ) (c : goal.In_ok-insert t) → IsSplit c.args.store.now c.args.f c.low.result c.high.result c.var.result
split t c = record {
  first = c.var.ensures.var;
  within = c.var.ensures.within;
  from = c.var.ensures.from;
  low_table = c.low.ensures.table;
  high_table = c.high.ensures.table;
  low_later = c.low.ensures.first;
  high_later = c.high.ensures.first;
}

numbered : (t : ℕ) (c : goal.In_ok-insert t) → IsNumbered c.args.store.now c.args.f c.args.nodes.now.items c.in_ok-number.number c.join.new.nodes.items
numbered t c =
    node_numbered c.args.store.now c.args.f c.low.result c.high.result c.var.result c.args.nodes.now.items c.number_of.new.nodes.items c.number_of-2.new.nodes.items c.join.new.nodes.items c.in_ok-low.low c.in_ok-high.high c.in_ok-number.number
    (split t c) c.in_ok-low.ensures.numbered c.in_ok-high.ensures.numbered c.in_ok-number.ensures.joined

pub returns-clause-numbered : goal.returns-clause-numbered
returns-clause-numbered t c = numbered t c

pub returns-clause-known : goal.returns-clause-known
returns-clause-known t c =
    known_more c.args.store.now c.number_of-2.new.roots c.insert.new.self c.args.f c.in_ok-number.number c.join.new.nodes.items
    (known_on c.args.store.now c.number_of-2.new.roots c.number_of-2.new.nodes.items c.join.new.nodes.items
    (join_grows c.var.result c.in_ok-low.low c.in_ok-high.high c.in_ok-number.number c.number_of-2.new.nodes.items c.join.new.nodes.items c.in_ok-number.ensures.joined) c.in_ok-high.ensures.known)
    c.in_ok-insert.ensures.updates (numbered_again c.args.store.now c.args.f c.args.nodes.now.items c.join.new.nodes.items c.in_ok-number.number (numbered t c))

one_of : (x : Bool) → from_bool x ≡ (if x then 1 else 0)
one_of true = refl
one_of false = refl

pub returns-in-Some-clause-numbered : goal.returns-in-Some-clause-numbered
returns-in-Some-clause-numbered t c =
    subst (λ (k : ℕ). IsNumbered c.args.store.now c.args.f c.args.nodes.now.items k c.args.nodes.now.items) (sym (c.from.ensures ∙ one_of c.in-Some.value)) (constant_numbered c.args.store.now c.args.f c.in-Some.value c.args.nodes.now.items c.in-Some.ensures.some)

pub returns-in-Some-root_in-clause-numbered : goal.returns-in-Some-root_in-clause-numbered
returns-in-Some-root_in-clause-numbered t c = c.requires.known c.args.f c.in-Some-root_in.number (sym c.in-Some-root_in.ensures)
