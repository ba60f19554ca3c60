use Rattle.smv_ltl.proofs.phrases.front_of.Goals as goal

pub returns-in-Under-clause-stand : goal.returns-in-Under-clause-stand
returns-in-Under-clause-stand c = c.next_part.ensures.stand c.args.text.now (c.inside-own.ensures.stand c.args.text.now c.requires.tokens)
