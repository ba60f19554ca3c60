use Rattle.std.proofs.Common.{sym, ◌∙◌}
use Rattle.smv_token_ends.proofs.EndLaws.{no-first, word-first, number-first, sign-first}
use Rattle.smv_token_ends.proofs.ends.token_length.Goals as goal

pub returns-in_default-clause-length : goal.returns-in_default-clause-length
returns-in_default-clause-length c = no-first c.args.bytes.now c.in_default.len_below

pub returns-then-letter-clause-length : goal.returns-then-letter-clause-length
returns-then-letter-clause-length c =
    c.word_length.ensures.length ∙ word-first c.args.bytes.now c.requires.token c.in-len1-up.len_at_least (sym c.letter.ensures ∙ c.if-letter.true)

pub returns-then-digit-clause-length : goal.returns-then-digit-clause-length
returns-then-digit-clause-length c =
    c.digits_length.ensures.length ∙ number-first c.args.bytes.now c.requires.token c.in-len1-up.len_at_least (sym c.letter.ensures ∙ c.if-letter.false) (sym c.digit.ensures ∙ c.if-digit.true)

pub returns-else-digit-clause-length : goal.returns-else-digit-clause-length
returns-else-digit-clause-length c =
    c.sign_length.ensures.length ∙ sign-first c.args.bytes.now c.requires.token c.in-len1-up.len_at_least (sym c.letter.ensures ∙ c.if-letter.false) (sym c.digit.ensures ∙ c.if-digit.false)
