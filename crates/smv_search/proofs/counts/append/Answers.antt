use Rattle.std.proofs.Common.{[], ◌∷◌, ◌++◌, ◌∙◌, ap, sym, subst, append_assoc}
use Rattle.smv_search.specs.Keeping.{AllHeld}
use Rattle.smv_search.proofs.Keep.{held_two, keeps_self}
use Rattle.smv_search.proofs.counts.append.Goals as goal

pub returns-in_err-push-clause-keeps : goal.returns-in_err-push-clause-keeps
returns-in_err-push-clause-keeps c = keeps_self _ _ (held_two c.args.store.now c.args.live.now.items c.args.source c.args.made c.requires.live c.requires.source c.requires.made)

pub returns-in_err-push-2-clause-keeps : goal.returns-in_err-push-2-clause-keeps
returns-in_err-push-2-clause-keeps c = keeps_self _ _ (held_two c.args.store.now c.args.live.now.items c.args.source c.args.made c.requires.live c.requires.source c.requires.made)

pub tally-answer-requires : goal.tally-answer-requires
tally-answer-requires c =
    let roots = c.deref.ensures.value ∙ c.in_ok-push-2.ensures.items ∙ ap (λ rs. rs ++ (c.args.made ∷ [])) c.in_ok-push.ensures.items ∙ append_assoc c.args.live.now.items (c.args.source ∷ []) (c.args.made ∷ []) in
    record { held = subst (AllHeld c.args.store.now) (sym roots) (held_two c.args.store.now c.args.live.now.items c.args.source c.args.made c.requires.live c.requires.source c.requires.made) }
