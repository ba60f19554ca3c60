use Rattle.std.proofs.Common.{ap, sym, ◌++◌, ◌∙◌}
use Rattle.law_obligations.specs.Outlines.{unit_in}
use Rattle.law_obligations.specs.Times.{families_of_unit}
use Rattle.smv_unit_tables.specs.Reads.{lists}
use Rattle.smv_use_times.specs.Tables.{outline}
use Rattle.smv_use_times.proofs.TableLaws.{claim_unit_list, on_ok}
use Rattle.smv_use_times.proofs.same_time.add_unit.Goals as goal

pub returns-in-Claim : goal.returns-in-Claim
returns-in-Claim c =
    on_ok c.add_list.result _ _ c.add_list.ensures (λ e. e
    ∙ (ap (λ l. c.args.out.now.items ++ l) (claim_unit_list (outline c.args.tables.now) (lists c.as_slice.result.now) c.in-Claim.claim (ap lists c.as_slice.ensures.value ∙ c.requires.claims))
    ∙ ap (λ u. c.args.out.now.items ++ families_of_unit (outline c.args.tables.now) (unit_in c.args.tables.now.design.now u)) (sym c.in-Claim.is)))
