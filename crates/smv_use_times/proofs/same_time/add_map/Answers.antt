use Rattle.std.proofs.Common.{length, ap, refl, sym, ◌∙◌}
use Rattle.std.specs.Prelude.{slice_get}
use Rattle.std.proofs.lemmas.Option.{slice_get_read}
use Rattle.smv_unit_tables.specs.Reads.{lists}
use Rattle.smv_use_times.specs.Tables.{outline}
use Rattle.smv_use_times.proofs.TableLaws.{map_added, on_ok}
use Rattle.smv_use_times.proofs.same_time.add_map.Goals as goal

pub returns-in_ok-push-in-Some : goal.returns-in_ok-push-in-Some
returns-in_ok-push-in-Some c =
    let defs = c.as_slice.result.now in
    let found = c.in-Some.ensures.lookup in
    let there = slice_get_read defs (length defs) c.args.def c.in-Some.found.now refl found.3.0 found.1 in
    on_ok c.add_list.result _ _ c.add_list.ensures (λ e. map_added (outline c.args.tables.now) (lists c.as_slice-in-Some.result.now) (ap lists c.as_slice-in-Some.ensures.value ∙ c.requires.defs)
    c.args.def c.in-Some.found.now (ap (λ l. slice_get l c.args.def) (sym c.as_slice.ensures) ∙ there) c.args.out.now.items c.push.new.self.items c.add_list.new.out.items c.in_ok-push-in-Some.ensures.items e)
