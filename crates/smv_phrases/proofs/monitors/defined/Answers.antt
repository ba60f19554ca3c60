use Rattle.std.proofs.Common.{List, ◌++◌, sym, ap, ◌∙◌}
use Rattle.std.specs.List.{flat_map}
use Rattle.smv_core.specs.Values.{Name}
use Rattle.law_translated_texts.specs.Phrases.{Stage, outset, defining, definitions}
use Rattle.law_translated_texts.specs.Translation.{spaced}
use Rattle.smv_phrases.specs.Seen.{names, binders_of, shown}
use Rattle.smv_phrases.proofs.StageLaws.{names_are}
use Rattle.smv_phrases.proofs.monitors.defined.Goals as goal

pub loop-front-init : goal.loop-front-init
loop-front-init c =
    let bs = c.args.binders.now in
    let binders = binders_of c.args.text.now bs in
    let phrase = shown c.args.phrase.now in
    ap (λ (s : Stage). c.args.out.now.items ++ spaced (flat_map (defining binders) (definitions (names bs) c.args.monitors.now s phrase))) c.at_start-stage.ensures
    ∙ ap (λ (ns : List Name). c.args.out.now.items ++ spaced (flat_map (defining binders) (definitions ns c.args.monitors.now outset phrase))) (sym (names_are c.args.text.now bs))
