use Rattle.std.proofs.Common.{ℕ}
use Rattle.smv_core.specs.declared.flat.Cell.{Cell}
use Rattle.law_obligations.specs.Soundness.{at_sizes}
use Rattle.law_obligations.specs.Outlines.{names_of}
use Rattle.law_sound_texts.proofs.Faultless.{IsFaultless, Falls, is_faultless, has_order}
use Rattle.law_sound_texts.proofs.Places.{are_over}
use Rattle.law_sound_texts.proofs.Stages.{final, final_outside, final_allowed, final_typed}
use Rattle.law_sound_texts.proofs.extension.elements_are_chosen.Goals as goal

pub returns : goal.returns
returns c = λ d none whole sizes chosen before typed_before s typed.
    let h : IsFaultless d = is_faultless d none in
    let order : (rank : Cell → ℕ) × Falls d rank = has_order d c.orders_show_no_cycle.ensures.there_is_one h in (
      final d sizes chosen h whole order.0 order.1 before s,
      record {
        is_typed = final_typed d sizes chosen h whole order.0 order.1 before s typed typed_before;
        agrees = λ family vs e. final_outside d sizes chosen h whole order.0 order.1 before s family vs e;
        allows = λ family f there def e vs k a. (final_allowed d sizes chosen h whole order.0 order.1 before s typed typed_before family f there def e vs a (are_over (at_sizes (names_of d) sizes) f.over vs k)).0;
      },
    )
