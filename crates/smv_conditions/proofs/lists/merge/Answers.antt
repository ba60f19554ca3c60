use Rattle.std.proofs.Common.{◌<◌, length, refl, arith}
use Rattle.std.proofs.lemmas.Option.{slice_get_within}
use Rattle.smv_conditions.proofs.AddLaws.{made_pushed, offers_kept}
use Rattle.smv_conditions.proofs.MergeLaws.{adds_last, adds_placed, made_placed, before_made}
use Rattle.smv_conditions.proofs.lists.merge.Goals as goal

pub returns-in_default-clause-made : goal.returns-in_default-clause-made
returns-in_default-clause-made g c = made_pushed _ _ _ _ c.in_ok-push.ensures.items c.requires.out_made c.requires.when_made

pub returns-in_default-clause-adds : goal.returns-in_default-clause-adds
returns-in_default-clause-adds g c n p a = adds_last n g.S.Conditions.IsMade _ g.S.Conditions.room a p _ _ _ _ _ _ c.in_ok-push.ensures.items refl

pub returns-clause-made : goal.returns-clause-made
returns-clause-made g c = made_placed _ _ _ _ (offers_kept _ _ _ _ _ _ c.in_ok-joined.ensures.keeps c.requires.out_made) c.in_ok-joined.ensures.made

pub returns-clause-adds : goal.returns-clause-adds
returns-clause-adds g c n p a = adds_placed n _ _ _ a p _ _ _ _ _ _ _ _ _ _ c.as_slice.ensures.value c.in-Some.ensures c.in_ok-joined.ensures.keeps c.requires.out_made (c.in_ok-joined.ensures.holds a) refl

pub either-requires-clause-c_made : goal.either-requires-clause-c_made
either-requires-clause-c_made g c = before_made _ _ _ _ _ _ c.as_slice.ensures.value c.in-Some.ensures c.requires.out_made

pub index_mut-requires : goal.index_mut-requires
index_mut-requires g c = let l : c.in-Some.found.place < length c.as_slice.result.now = slice_get_within c.as_slice.result.now c.in-Some.found.place _ c.in-Some.ensures in omega (arith, c.as_slice.ensures.len)
