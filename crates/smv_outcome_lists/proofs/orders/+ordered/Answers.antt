use Rattle.std.proofs.Common.{rules, ◌∙◌}
use Rattle.smv_conditions.proofs.AddLaws.{offers_kept}
use Rattle.smv_outcome_lists.proofs.OrderLaws.{made_low, made_high, keyed_low, keyed_high, parts_apart, parts_compared, kept_twice}
use Rattle.smv_outcome_lists.proofs.orders.+ordered.Goals as goal

pub ordered-requires : goal.ordered-requires
ordered-requires g t c =
    let us_made = made_low _ _ _ _ _ _ (c.as_slice-left_low.ensures.value ∙ c.in_ok-u.ensures.low) c.requires.us_made in
    let vs_made = made_low _ _ _ _ _ _ (c.as_slice-right_low.ensures.value ∙ c.in_ok-v.ensures.low) c.requires.vs_made in
    let us_keyed = keyed_low _ _ _ _ _ (c.as_slice-left_low.ensures.value ∙ c.in_ok-u.ensures.low) c.requires.us_keyed in
    let vs_keyed = keyed_low _ _ _ _ _ (c.as_slice-right_low.ensures.value ∙ c.in_ok-v.ensures.low) c.requires.vs_keyed in
    search (rules, us_made, vs_made, us_keyed, vs_keyed)

pub ordered-requires-2 : goal.ordered-requires-2
ordered-requires-2 g t c =
    let us_made = offers_kept _ _ _ _ _ _ c.in_ok-lows.ensures.keeps (made_high _ _ _ _ _ _ (c.as_slice-left_high.ensures.value ∙ c.in_ok-u.ensures.high) c.requires.us_made) in
    let vs_made = offers_kept _ _ _ _ _ _ c.in_ok-lows.ensures.keeps (made_high _ _ _ _ _ _ (c.as_slice-right_high.ensures.value ∙ c.in_ok-v.ensures.high) c.requires.vs_made) in
    let us_keyed = keyed_high _ _ _ _ _ (c.as_slice-left_high.ensures.value ∙ c.in_ok-u.ensures.high) c.requires.us_keyed in
    let vs_keyed = keyed_high _ _ _ _ _ (c.as_slice-right_high.ensures.value ∙ c.in_ok-v.ensures.high) c.requires.vs_keyed in
    let x_made = c.in_ok-lows.ensures.made in
    search (rules, us_made, vs_made, x_made, us_keyed, vs_keyed)

pub crossed-requires-clause-us_made : goal.crossed-requires-clause-us_made
crossed-requires-clause-us_made g t c = offers_kept _ _ _ _ _ _ c.in_ok-highs.ensures.keeps (offers_kept _ _ _ _ _ _ c.in_ok-lows.ensures.keeps (made_low _ _ _ _ _ _ (c.as_slice-left_low.ensures.value ∙ c.in_ok-u.ensures.low) c.requires.us_made))

pub crossed-requires-clause-vs_made : goal.crossed-requires-clause-vs_made
crossed-requires-clause-vs_made g t c = offers_kept _ _ _ _ _ _ c.in_ok-highs.ensures.keeps (offers_kept _ _ _ _ _ _ c.in_ok-lows.ensures.keeps (made_high _ _ _ _ _ _ (c.as_slice-right_high.ensures.value ∙ c.in_ok-v.ensures.high) c.requires.vs_made))

pub crossed-requires-clause-apart : goal.crossed-requires-clause-apart
crossed-requires-clause-apart g t c = parts_apart _ _ _ _ _ _ _ (c.as_slice-left_low.ensures.value ∙ c.in_ok-u.ensures.low) (c.as_slice-right_high.ensures.value ∙ c.in_ok-v.ensures.high) c.requires.vs_keyed

pub crossed-requires-2-clause-us_made : goal.crossed-requires-2-clause-us_made
crossed-requires-2-clause-us_made g t c = offers_kept _ _ _ _ _ _ c.in_ok-below.ensures.keeps (offers_kept _ _ _ _ _ _ c.in_ok-highs.ensures.keeps (offers_kept _ _ _ _ _ _ c.in_ok-lows.ensures.keeps (made_high _ _ _ _ _ _ (c.as_slice-left_high.ensures.value ∙ c.in_ok-u.ensures.high) c.requires.us_made)))

pub crossed-requires-2-clause-vs_made : goal.crossed-requires-2-clause-vs_made
crossed-requires-2-clause-vs_made g t c = offers_kept _ _ _ _ _ _ c.in_ok-below.ensures.keeps (offers_kept _ _ _ _ _ _ c.in_ok-highs.ensures.keeps (offers_kept _ _ _ _ _ _ c.in_ok-lows.ensures.keeps (made_low _ _ _ _ _ _ (c.as_slice-right_low.ensures.value ∙ c.in_ok-v.ensures.low) c.requires.vs_made)))

pub crossed-requires-2-clause-apart : goal.crossed-requires-2-clause-apart
crossed-requires-2-clause-apart g t c = parts_apart _ _ _ _ _ _ _ (c.as_slice-right_low.ensures.value ∙ c.in_ok-v.ensures.low) (c.as_slice-left_high.ensures.value ∙ c.in_ok-u.ensures.high) c.requires.us_keyed

pub returns-clause-mix : goal.returns-clause-mix
returns-clause-mix g t c w h a =
    parts_compared w.classes _ _ _ a _ _ _ _ _ _ _ _ _ _ _ _ _ _ _ _ _ _ _ _ (c.as_slice-left_low.ensures.value ∙ c.in_ok-u.ensures.low) (c.as_slice-left_high.ensures.value ∙ c.in_ok-u.ensures.high) (c.as_slice-right_low.ensures.value ∙ c.in_ok-v.ensures.low) (c.as_slice-right_high.ensures.value ∙ c.in_ok-v.ensures.high) c.requires.us_made c.requires.vs_made
    c.in_ok-lows.ensures.keeps c.in_ok-highs.ensures.keeps c.in_ok-below.ensures.keeps (c.in_ok-lows.ensures.mix w h a) (c.in_ok-highs.ensures.mix w h a) (c.in_ok-below.ensures.mix w h a) (c.in_ok-whole.ensures.mix w h a)

pub returns-clause-keeps : goal.returns-clause-keeps
returns-clause-keeps g t c = kept_twice _ _ _ _ _ _ c.in_ok-lows.ensures.keeps (kept_twice _ _ _ _ _ _ c.in_ok-highs.ensures.keeps (kept_twice _ _ _ _ _ _ c.in_ok-below.ensures.keeps c.in_ok-whole.ensures.keeps))

pub returns-in_err-whole-clause-keeps : goal.returns-in_err-whole-clause-keeps
returns-in_err-whole-clause-keeps g t c = kept_twice _ _ _ _ _ _ c.in_ok-lows.ensures.keeps (kept_twice _ _ _ _ _ _ c.in_ok-highs.ensures.keeps (kept_twice _ _ _ _ _ _ c.in_ok-below.ensures.keeps c.crossed-2.ensures.keeps))
