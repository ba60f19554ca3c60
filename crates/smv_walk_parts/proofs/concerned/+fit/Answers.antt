use Rattle.smv_walk_parts.proofs.ConcernLaws.{fit_no_left, fit_no_index, fit_others, fit_not}
use Rattle.smv_walk_parts.proofs.concerned.+fit.Goals as goal

pub returns-in_default : goal.returns-in_default
returns-in_default t c n = fit_no_left n _ _ c.in_default.ensures.cases

pub returns-in_default-split_first : goal.returns-in_default-split_first
returns-in_default-split_first t c n = fit_no_index n _ _ c.in_default-split_first.ensures.cases

pub returns-then-fits : goal.returns-then-fits
returns-then-fits t c n =
    let k = c.in-Some.ensures.cases in
    let l = c.in-Some-split_first.ensures.cases in
    fit_others n _ _ _ _ _ _ _ _ k.0 l.0 c.known.ensures (c.fits.ensures n) _ c.if-fits.true (c.fit.ensures n)

pub returns-else-fits : goal.returns-else-fits
returns-else-fits t c n =
    let k = c.in-Some.ensures.cases in
    let l = c.in-Some-split_first.ensures.cases in
    fit_not n _ _ _ _ _ _ _ _ k.0 l.0 c.known.ensures (c.fits.ensures n) c.if-fits.false
