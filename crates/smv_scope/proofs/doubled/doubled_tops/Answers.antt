use Rattle.std.proofs.Common.{◌≡◌, ◌∙◌, ap, [], map}
use Rattle.std.proofs.lemmas.Result.{IfOk-weaker}
use Rattle.smv_mentions.specs.Scopes.{pieces}
use Rattle.smv_mentions.specs.Said.{words_at}
use Rattle.smv_mentions.specs.NameFaults.{repeated}
use Rattle.smv_first_fault.specs.Firsts.{least}
use Rattle.smv_scope.proofs.DoubledLaws.{words-same}
use Rattle.smv_scope.proofs.doubled.doubled_tops.Goals as goal

pub returns : goal.returns
returns c =
    let t = c.args.tables.now in
    IfOk-weaker c.repeated.result (λ at. at ≡ least (repeated [] (words_at c.as_slice.result.now))) (λ at. at ≡ least (repeated [] (map (λ piece. piece.word) (pieces t.text.now))))
    (λ at e. e ∙ ap (λ ws. least (repeated [] ws)) (ap words_at c.as_slice.ensures.value ∙ c.in_ok-words.ensures ∙ words-same t.text.now t.pieces.now c.requires.noted)) c.repeated.ensures
