use Rattle.law_sound_texts.proofs.number_widths.numbers_of_bytes_fit.Goals as goal

pub returns : goal.returns
returns c = λ bytes n tokens text le read spelled deep none kinds.
    c.numbers_fit.ensures n tokens text spelled deep none (c.set_types_are_few.ensures bytes n tokens text le read spelled) (c.flattened_texts_are_kinded.ensures text (n, tokens, spelled, none, kinds))
