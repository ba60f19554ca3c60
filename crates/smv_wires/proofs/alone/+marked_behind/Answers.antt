use Rattle.std.proofs.Common.{rules}
use Rattle.bdd_store.specs.Diagram.{IsLive}
use Rattle.bdd_store.proofs.Keeping.{keeps_self}
use Rattle.smv_conditions.specs.Offers.{AreOffersMade}
use Rattle.smv_wires.proofs.Tests.{others_made}
use Rattle.smv_wires.proofs.alone.+marked_behind.Goals as goal

pub marked_behind-requires : goal.marked_behind-requires
marked_behind-requires t c =
    let k = c.in-Some.ensures.cases in
    let made : AreOffersMade (IsLive c.mark-marked.new.self) c.in-Some.others.now =
    others_made c.args.store.now c.args.store.now c.mark-marked.new.self c.args.offers.now c.in-Some.others.now c.in-Some.offer.now k.0 (keeps_self c.args.store.now) c.mark-marked.ensures.keeps c.requires.made in
    search (rules, made)
