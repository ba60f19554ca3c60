use Rattle.std.proofs.Common.{length, ap, refl, ◌++◌, ◌∙◌}
use Rattle.std.specs.Prelude.{Some}
use Rattle.std.proofs.lemmas.Option.{slice_get_read}
use Rattle.smv_unit_tables.specs.Reads.{lists}
use Rattle.smv_use_times.specs.Tables.{outline}
use Rattle.smv_use_times.proofs.TableLaws.{claim_at, on_ok}
use Rattle.smv_use_times.proofs.same_time.add_claim_at.Goals as goal

pub returns-in-Claim : goal.returns-in-Claim
returns-in-Claim c =
    let units = c.args.tables.now.units.now in
    let found = c.in-Some.ensures.lookup in
    let there = slice_get_read units (length units) c.args.place c.in-Some.unit.now refl found.3.0 found.1 in
    on_ok c.add_list.result _ _ c.add_list.ensures (λ e. e ∙ ap (λ l. c.args.out.now.items ++ l)
    (claim_at (outline c.args.tables.now) (lists c.as_slice.result.now) c.args.place c.in-Claim.claim (there ∙ ap Some c.in-Claim.is) (ap lists c.as_slice.ensures.value ∙ c.requires.claims)))
