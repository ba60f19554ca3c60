use Rattle.std.proofs.Common.{refl, ap, ◌∙◌}
use Rattle.law_lists.proofs.Places.{take_rest}
use Rattle.smv_mentions.specs.Said.{words_at}
use Rattle.smv_first_fault.specs.Firsts.{least}
use Rattle.smv_scope.specs.Held.{fields_led}
use Rattle.smv_scope.proofs.FieldLaws.{field-missing, field-there}
use Rattle.smv_scope.proofs.fields.+behind_led.Goals as goal

pub returns-in-None-field_named : goal.returns-in-None-field_named
returns-in-None-field_named t c =
    field-missing c.args.tables.now.text.now c.args.led c.in-Some.led c.in-Some.is c.args.words.now c.word-item.result c.in-len1-up.len_at_least c.word-item.is c.field_named.result c.field_named.ensures c.in-None-field_named.is

pub returns-in-Some-field_named : goal.returns-in-Some-field_named
returns-in-Some-field_named t c =
    field-there c.args.tables.now.text.now c.args.led c.in-Some.led c.in-Some.is c.args.words.now c.word-item.result c.in-len1-up.len_at_least c.word-item.is c.field_named.result c.field_named.ensures
    c.in-Some-field_named.field _ c.led_in.result c.behind_led.result c.in-Some-field_named.is refl c.led_in.ensures
    (c.behind_led.ensures ∙ ap (λ l. least (fields_led c.args.tables.now.text.now c.led_in.result (words_at l))) (take_rest c.args.words.now))
