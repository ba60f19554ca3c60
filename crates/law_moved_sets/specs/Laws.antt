-- The law: what the crate's public function says.
use Rattle.std.specs.Prelude.{◌↔◌, ℕ, ◌*◌, List}
use Rattle.bdd_ops.specs.Functions.{Function}
use Rattle.smv_rings.specs.Functions.{DependsBelow}
use Rattle.smv_rings.specs.Paths.{IsInductive}
use Rattle.law_obligations.specs.Readings.{PosedCase, IsCase, state_bits}
use Rattle.law_reports.specs.CaseLists.{case_lists}
use Rattle.law_arrangements.specs.ArrangedLists.{lists_over}
use Rattle.law_arrangements.specs.Orders.{IsOrder, arranged}
use Rattle.law_moved_sets.specs.Moved.{moved}

-- a set over the bits of a case meets the four conditions of induction over an order of them exactly where it meets them as declared
abbrev pub OrdersKeepInduction : Type 0
OrdersKeepInduction = (c : PosedCase) → IsCase c → (order : List ℕ) → IsOrder (state_bits c) order → (set : Function) → DependsBelow (2 * state_bits c) set →
    IsInductive (lists_over c (arranged order)) (moved order set) ↔ IsInductive (case_lists c) set
