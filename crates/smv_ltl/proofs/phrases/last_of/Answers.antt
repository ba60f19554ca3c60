use Rattle.smv_ltl.proofs.phrases.last_of.Goals as goal

pub part_bytes-until-requires : goal.part_bytes-until-requires
part_bytes-until-requires c = record { tokens = c.next_part.ensures.stand c.args.text.now (c.inside-both.ensures.stand c.args.text.now c.requires.tokens) }
