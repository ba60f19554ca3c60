use Rattle.std.proofs.Common.{rules, refl}
use Rattle.smv_cells.proofs.SeenLaws.{cells_kept}
use Rattle.smv_outcomes.proofs.KnownLaws.{known_kept}
use Rattle.smv_sides.proofs.MemberLaws.{member_one, member_span}
use Rattle.smv_sides.proofs.members.some_of_member.Goals as goal

pub returns-in_ok-r-in-One-clause-is : goal.returns-in_ok-r-in-One-clause-is
returns-in_ok-r-in-One-clause-is g c = member_one _ _ _ _ _ _ _ _ _ _ _ _ c.in-One.is refl c.in_ok-r-in-One.ensures.is

pub returns-in_ok-r-in-Span-clause-cells : goal.returns-in_ok-r-in-Span-clause-cells
returns-in_ok-r-in-Span-clause-cells g c = cells_kept _ _ _ _ _ _ c.in_ok-r-in-Span.ensures.keeps c.requires.cells_made

pub returns-in_ok-r-in-Span-clause-is : goal.returns-in_ok-r-in-Span-clause-is
returns-in_ok-r-in-Span-clause-is g c = member_span _ _ _ _ _ _ _ _ _ _ _ _ _ _ _ c.in-Span.is (search rules) (search rules) c.in_ok-r-in-Span.ensures.is

pub returns-in_ok-r-in-Span-clause-known : goal.returns-in_ok-r-in-Span-clause-known
returns-in_ok-r-in-Span-clause-known g c = known_kept _ _ _ _ _ _ _ _ c.in_ok-r-in-Span.ensures.keeps c.requires.cells_made c.requires.known
