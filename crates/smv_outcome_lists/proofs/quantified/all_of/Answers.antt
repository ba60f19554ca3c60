use Rattle.smv_outcome_lists.proofs.CombinedLaws.{chances_kept, all_joined}
use Rattle.smv_outcome_lists.proofs.quantified.all_of.Goals as goal

pub chain_of-requires : goal.chain_of-requires
chain_of-requires g c = record { made = chances_kept _ _ _ _ _ _ c.in_ok-y.ensures.keeps c.requires.named_made }

pub returns-clause-mix : goal.returns-clause-mix
returns-clause-mix g c a = all_joined _ _ _ a _ _ _ _ _ _ _ _ _ _ c.in_ok-y.ensures.keeps c.in_ok-x.ensures.keeps c.requires.named_made c.with_yes-y.ensures.made (c.in_ok-y.ensures.mix a) (c.with_yes-y.ensures.mix a) (c.in_ok-x.ensures.mix a) (c.in_ok-z.ensures.mix a)
