use Rattle.std.proofs.Common.{◌≡◌, ◌++◌, ℕ, List, OnOk, subst, sym}
use Rattle.law_obligations.specs.Outlines.{Outline}
use Rattle.smv_look_reports.proofs.Steps.{lines_by_nodes}
use Rattle.smv_look_reports.proofs.explained.push_unit.Goals as goal

pub returns-in-UnknownNodes : goal.returns-in-UnknownNodes
returns-in-UnknownNodes c =
    let o : Outline = record { design = c.args.unit.now.design.now; units = c.args.unit.now.units.now } in
    let same = lines_by_nodes o c.args.results.now c.args.unit.now.unit c.args.unit.now.leaf.now c.args.unit.now.choice.now c.args.unit.now.times.now c.args.unit.now.told.now c.args.unit.now.allowed.now c.in-UnknownNodes.case c.in-UnknownNodes.count c.in-UnknownNodes.is in
    subst (λ (lines : List ℕ). OnOk c.push_undecided.result (c.push_undecided.new.out.items ≡ c.args.out.now.items ++ lines)) (sym same) c.push_undecided.ensures
