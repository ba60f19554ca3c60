use Rattle.std.proofs.Common.{◌≡◌, ◌++◌, drop}
use Rattle.std.specs.List.{flat_map}
use Rattle.smv_mentions.specs.NameFaults.{place_if}
use Rattle.smv_references.specs.Again.{same_key}
use Rattle.smv_look_uses.proofs.firsts.push_same.Given as goal

abbrev pub invariant-loop-earlier : goal.invariant-loop-earlier
invariant-loop-earlier l =
    l.out.items ++ flat_map (λ y. place_if (same_key y.1 l.later.1) y.0) (drop l.earlier-index l.before) ≡ l.initial.out.items ++ flat_map (λ y. place_if (same_key y.1 l.later.1) y.0) l.before
