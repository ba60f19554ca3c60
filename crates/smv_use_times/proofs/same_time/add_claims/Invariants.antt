use Rattle.std.proofs.Common.{◌≡◌, ◌++◌, drop}
use Rattle.std.specs.List.{flat_map}
use Rattle.law_obligations.specs.Times.{families_assumed}
use Rattle.smv_use_times.specs.Tables.{outline}
use Rattle.smv_use_times.proofs.same_time.add_claims.Given as goal

abbrev pub invariant-loop-used : goal.invariant-loop-used
invariant-loop-used l = l.out.items ++ flat_map (families_assumed (outline l.tables) l.place) (drop l.used-index l.claims) ≡ l.initial.out.items ++ flat_map (families_assumed (outline l.tables) l.place) l.claims
