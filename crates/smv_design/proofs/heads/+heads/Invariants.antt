use Rattle.std.proofs.Common.{◌≡◌, ◌+◌, ◌++◌, map, drop}
use Rattle.smv_design.specs.Parts.{sizes}
use Rattle.smv_design.specs.Acts.{head_of, heads_in_all}
use Rattle.smv_design.proofs.heads.+heads.Given as goal

abbrev pub invariant-note_all_heads-loop-act : goal.invariant-note_all_heads-loop-act
invariant-note_all_heads-loop-act l =
    (map head_of l.out ++ heads_in_all l.layer l.next (drop l.act-index l.acts) ≡ map head_of l.initial.out ++ heads_in_all l.layer l.place l.acts)
    × (l.next + sizes (drop l.act-index l.acts) ≡ l.place + sizes l.acts)
