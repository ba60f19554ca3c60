use Rattle.std.proofs.lemmas.Result.{IfOk-equal}
use Rattle.law_translated_texts.specs.Phrases.{reached_or}
use Rattle.smv_phrases.specs.Seen.{names, binders_of, stage_of}
use Rattle.smv_phrases.proofs.DefinedLaws.{unless-written}
use Rattle.smv_phrases.proofs.monitors.define_unless.Goals as goal

pub returns : goal.returns
returns c =
    IfOk-equal c.known-2.result _ _ _ c.known-2.ensures
    (unless-written (binders_of c.args.text.now c.args.binders.now) c.args.name.now (reached_or (names c.args.binders.now) c.args.name.now (stage_of c.args.stage.now)) c.args.until.now c.args.out.now.items c.begin_definition.new.out.items c.reached_or.new.out.items
    c.known.new.out.items c.whole.new.out.items c.in_ok-begin_definition.ensures c.in_ok-reached_or.ensures c.in_ok-known.ensures c.in_ok-whole.ensures)
