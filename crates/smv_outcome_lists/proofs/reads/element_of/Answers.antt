use Rattle.smv_outcome_lists.proofs.PairLaws.{from_nothing}
use Rattle.smv_outcome_lists.proofs.ReadLaws.{element_read}
use Rattle.smv_outcome_lists.proofs.reads.element_of.Goals as goal

pub returns-clause-any : goal.returns-clause-any
returns-clause-any g c w h p a =
    element_read w _ _ a p _ _ _ c.args.found.now.value _ _ _ _ c.args.found.now.over _ _ (from_nothing w.classes g.S.Conditions.IsMade _ g.S.Conditions.room a _ _ p _ _ _ _ c.new-offers.ensures.items (c.constant-always.ensures.holds a) (c.in_ok-add_read.ensures.adds w h p a)) c.as_slice.ensures.value (c.in_ok-every.ensures w h) c.as_slice-2.ensures.value c.new-none.ensures.items c.as_slice-3.ensures
