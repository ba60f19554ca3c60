use Rattle.std.proofs.Common.{◌∙◌}
use Rattle.smv_conditions.proofs.AddLaws.{offers_kept}
use Rattle.smv_outcome_lists.proofs.OrderLaws.{made_low, made_high, any_keyed, parts_compared, beside_none}
use Rattle.smv_outcome_lists.proofs.orders.compared_parts.Goals as goal

pub ordered-requires-clause-us_made : goal.ordered-requires-clause-us_made
ordered-requires-clause-us_made g c = made_low _ _ _ _ _ _ (c.as_slice-left_low.ensures.value ∙ c.in_ok-u.ensures.low) c.requires.us_made

pub ordered-requires-clause-vs_made : goal.ordered-requires-clause-vs_made
ordered-requires-clause-vs_made g c = made_low _ _ _ _ _ _ (c.as_slice-right_low.ensures.value ∙ c.in_ok-v.ensures.low) c.requires.vs_made

pub ordered-requires-clause-us_keyed : goal.ordered-requires-clause-us_keyed
ordered-requires-clause-us_keyed g c = any_keyed _ _ _ _ (c.as_slice-left_low.ensures.value ∙ c.in_ok-u.ensures.low)

pub ordered-requires-clause-vs_keyed : goal.ordered-requires-clause-vs_keyed
ordered-requires-clause-vs_keyed g c = any_keyed _ _ _ _ (c.as_slice-right_low.ensures.value ∙ c.in_ok-v.ensures.low)

pub paired-requires-clause-us_made : goal.paired-requires-clause-us_made
paired-requires-clause-us_made g c = offers_kept _ _ _ _ _ _ c.in_ok-lows.ensures.keeps (made_high _ _ _ _ _ _ (c.as_slice-left_high.ensures.value ∙ c.in_ok-u.ensures.high) c.requires.us_made)

pub paired-requires-clause-vs_made : goal.paired-requires-clause-vs_made
paired-requires-clause-vs_made g c = offers_kept _ _ _ _ _ _ c.in_ok-lows.ensures.keeps (made_high _ _ _ _ _ _ (c.as_slice-right_high.ensures.value ∙ c.in_ok-v.ensures.high) c.requires.vs_made)

pub paired-requires-2-clause-us_made : goal.paired-requires-2-clause-us_made
paired-requires-2-clause-us_made g c = offers_kept _ _ _ _ _ _ c.in_ok-highs.ensures.keeps (offers_kept _ _ _ _ _ _ c.in_ok-lows.ensures.keeps (made_low _ _ _ _ _ _ (c.as_slice-left_low.ensures.value ∙ c.in_ok-u.ensures.low) c.requires.us_made))

pub paired-requires-2-clause-vs_made : goal.paired-requires-2-clause-vs_made
paired-requires-2-clause-vs_made g c = offers_kept _ _ _ _ _ _ c.in_ok-highs.ensures.keeps (offers_kept _ _ _ _ _ _ c.in_ok-lows.ensures.keeps (made_high _ _ _ _ _ _ (c.as_slice-right_high.ensures.value ∙ c.in_ok-v.ensures.high) c.requires.vs_made))

pub paired-requires-3-clause-us_made : goal.paired-requires-3-clause-us_made
paired-requires-3-clause-us_made g c = offers_kept _ _ _ _ _ _ c.in_ok-below.ensures.keeps (offers_kept _ _ _ _ _ _ c.in_ok-highs.ensures.keeps (offers_kept _ _ _ _ _ _ c.in_ok-lows.ensures.keeps (made_high _ _ _ _ _ _ (c.as_slice-left_high.ensures.value ∙ c.in_ok-u.ensures.high) c.requires.us_made)))

pub paired-requires-3-clause-vs_made : goal.paired-requires-3-clause-vs_made
paired-requires-3-clause-vs_made g c = offers_kept _ _ _ _ _ _ c.in_ok-below.ensures.keeps (offers_kept _ _ _ _ _ _ c.in_ok-highs.ensures.keeps (offers_kept _ _ _ _ _ _ c.in_ok-lows.ensures.keeps (made_low _ _ _ _ _ _ (c.as_slice-right_low.ensures.value ∙ c.in_ok-v.ensures.low) c.requires.vs_made)))

pub returns-clause-mix : goal.returns-clause-mix
returns-clause-mix g c w h a =
    beside_none _ _ _ (c.none-start.ensures.mix a)
    (parts_compared w.classes _ _ _ a _ _ _ _ _ _ _ _ _ _ _ _ _ _ _ _ _ _ _ _ (c.as_slice-left_low.ensures.value ∙ c.in_ok-u.ensures.low) (c.as_slice-left_high.ensures.value ∙ c.in_ok-u.ensures.high) (c.as_slice-right_low.ensures.value ∙ c.in_ok-v.ensures.low) (c.as_slice-right_high.ensures.value ∙ c.in_ok-v.ensures.high) c.requires.us_made c.requires.vs_made
    c.in_ok-lows.ensures.keeps c.in_ok-highs.ensures.keeps c.in_ok-below.ensures.keeps (c.in_ok-lows.ensures.mix w h a) (c.in_ok-highs.ensures.mix w h a) (c.in_ok-below.ensures.mix w h a) (c.in_ok-whole.ensures.mix w h a))
