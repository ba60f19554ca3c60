use Rattle.std.proofs.Common.{sym, ◌∙◌}
use Rattle.smv_token_ends.proofs.EndLaws.{end-last}
use Rattle.smv_token_ends.proofs.ends.end_of_all.Goals as goal

pub returns-in-len1-up : goal.returns-in-len1-up
returns-in-len1-up c = c.end_of.ensures ∙ sym (end-last c.args.text.now c.args.tokens.now c.last-item.result c.last-item.result c.in-len1-up.len_at_least c.last-item.is)
