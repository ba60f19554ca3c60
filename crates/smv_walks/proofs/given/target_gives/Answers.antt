use Rattle.std.proofs.Common.{ap}
use Rattle.std.specs.Prelude.{option_copied}
use Rattle.smv_outcomes.proofs.KnownLaws.{known_kept}
use Rattle.smv_walks.proofs.DemandLaws.{comb_given, init_given, next_given, before_made, old_known_kept, before_known, known_before}
use Rattle.smv_walks.proofs.given.target_gives.Goals as goal

pub returns-then-concerns-clause-is : goal.returns-then-concerns-clause-is
returns-then-concerns-clause-is g c = comb_given _ _ _ _ _ _ _ _ _ _ _ _ _ _ _ c.as_slice.ensures c.concerns.ensures c.if-concerns.true c.in_ok-r.ensures.is

pub returns-in_ok-r-in-None-clause-is : goal.returns-in_ok-r-in-None-clause-is
returns-in_ok-r-in-None-clause-is g c = init_given _ _ _ _ _ _ _ _ _ _ _ _ _ _ _ (ap option_copied c.in-None.is) c.as_slice.ensures c.concerns.ensures c.if-concerns.false c.in_ok-r-in-None.ensures.is

pub returns-in_ok-r-in-Some-clause-is : goal.returns-in_ok-r-in-Some-clause-is
returns-in_ok-r-in-Some-clause-is g c = next_given _ _ _ _ _ _ _ _ _ _ _ _ _ _ _ _ (ap option_copied c.in-Some.is) c.as_slice.ensures c.concerns.ensures c.if-concerns.false c.in_ok-r-in-Some.ensures.is

pub next_gives-requires-clause-old_made : goal.next_gives-requires-clause-old_made
next_gives-requires-clause-old_made g c = before_made _ _ _ (ap option_copied c.in-Some.is) c.requires.old_made

pub returns-then-concerns-clause-past : goal.returns-then-concerns-clause-past
returns-then-concerns-clause-past g c = old_known_kept _ _ _ _ _ _ _ _ c.in_ok-r.ensures.keeps c.requires.old_made c.requires.past

pub returns-in_ok-r-in-None-clause-past : goal.returns-in_ok-r-in-None-clause-past
returns-in_ok-r-in-None-clause-past g c = old_known_kept _ _ _ _ _ _ _ _ c.in_ok-r-in-None.ensures.keeps c.requires.old_made c.requires.past

pub next_gives-requires-clause-known : goal.next_gives-requires-clause-known
next_gives-requires-clause-known g c = before_known _ _ _ _ _ _ _ (ap option_copied c.in-Some.is) c.requires.past

pub returns-in_ok-r-in-Some-clause-known : goal.returns-in_ok-r-in-Some-clause-known
returns-in_ok-r-in-Some-clause-known g c = known_kept _ _ _ _ _ _ _ _ c.in_ok-r-in-Some.ensures.keeps c.requires.cells_made c.requires.known

pub returns-in_ok-r-in-Some-clause-past : goal.returns-in_ok-r-in-Some-clause-past
returns-in_ok-r-in-Some-clause-past g c = known_before _ _ _ _ _ _ _ (ap option_copied c.in-Some.is) c.in_ok-r-in-Some.ensures.known
