use Rattle.smv_use_times.specs.Tables.{outline, entry_of}
use Rattle.smv_use_times.proofs.TableLaws.{first_made}
use Rattle.smv_use_times.proofs.same_time.first.Goals as goal

pub returns : goal.returns
returns c =
    first_made (outline c.args.tables.now) c.args.proof.now.place (entry_of c.args.proof.now) c.as_slice.result.now c.as_slice-2.result.now c.as_slice-3.result.now
    c.new-out.result.items c.add_unit.new.out.items c.add_guards.new.out.items c.add_claims.new.out.items c.new-out.ensures.items c.as_slice.ensures c.as_slice-2.ensures c.as_slice-3.ensures
    c.in_ok-add_unit.ensures c.in_ok-add_guards.ensures c.in_ok-add_claims.ensures
