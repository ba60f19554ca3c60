use Rattle.std.specs.Prelude.{◌≡◌, ◌++◌, ◌-◌, [], ◌∷◌, codes, map}
use Rattle.std.specs.List.{flat_map, range_with_len}
use Rattle.smv_gen.specs.Generated.{copy_of, generated_text}
use Rattle.smv_gen.proofs.generate.Given as goal

abbrev pub invariant-loop-j : goal.invariant-loop-j
invariant-loop-j l = l.out.items ++ flat_map (λ line. line ++ 10 ∷ []) (map copy_of (range_with_len l.j (l.copies - l.j)) ++ codes "}" ∷ []) ≡ generated_text l.copies
