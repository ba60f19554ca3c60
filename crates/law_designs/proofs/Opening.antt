-- What the rules of kinds say, opened.
use Rattle.law_designs.specs.Kinds as kind
use Rattle.law_designs.specs.Types as ty
use Rattle.law_designs.specs.References as ref
use Rattle.law_designs.specs.Operands as o
use Rattle.law_designs.specs.KindFaults as k

unfoldable pub opening : Unit {0}
unfolding ref.reference kind.joins kind.joined kind.accepts kind.is_number kind.has_order kind.unless kind.takes_number kind.takes kind.alike_with kind.kind_with o.operand o.value ty.leads ty.index_faults ty.type_faults k.in_stmt k.in_item
opening = tt
