use Rattle.std.proofs.Common.{subst, map}
use Rattle.std.proofs.lemmas.List.{take_all}
use Rattle.smv_mentions.specs.Said.{said}
use Rattle.smv_size.specs.Constants.{Counts, constants_said}
use Rattle.smv_size.proofs.ConstantLaws.{counts-mention, counts-none}
use Rattle.smv_size.proofs.constants.in_mentions.Goals as goal

pub loop-mention-init : goal.loop-mention-init
loop-mention-init c = record { total = c.requires; names = counts-none c.args.names.now }

pub loop-mention-preserved : goal.loop-mention-preserved
loop-mention-preserved c = record {
  total = c.in_ok-in_mention.ensures.total;
  names = counts-mention c.args.mentions.now c.loop-mention.mention-index c.mention-item.result c.args.names.now c.loop-mention.names c.in_mention.new.names c.loop-mention-test.true c.mention-item.is c.loop-mention.invariant.names c.in_ok-in_mention.ensures.names;
}

pub returns-clause-names : goal.returns-clause-names
returns-clause-names c = subst (λ l. Counts (constants_said (map said l)) c.args.names.now c.loop-mention.names) (take_all c.loop-mention.mention-index c.args.mentions.now c.loop-mention-test.false) c.loop-mention.invariant.names
