use Rattle.std.proofs.Common.{◌≡◌, ◌++◌, drop, map}
use Rattle.std.specs.List.{flat_map}
use Rattle.std.specs.Str.{bytes_eq}
use Rattle.smv_mentions.specs.NameFaults.{place_if}
use Rattle.smv_references.specs.Again.{placed}
use Rattle.smv_look_uses.proofs.firsts.push_named.Given as goal

abbrev pub invariant-loop-earlier : goal.invariant-loop-earlier
invariant-loop-earlier l =
    l.out.items ++ flat_map (λ y. place_if (bytes_eq y.1 l.later.1.now) y.0) (map placed (drop l.earlier-index l.before))
    ≡ l.initial.out.items ++ flat_map (λ y. place_if (bytes_eq y.1 l.later.1.now) y.0) (map placed l.before)
