use Rattle.std.proofs.Common.{rules}
use Rattle.bdd_store.specs.Diagram.{IsLive}
use Rattle.smv_conditions.specs.Offers.{AreOffersMade}
use Rattle.smv_wires.proofs.Tests.{alone_step, others_made}
use Rattle.smv_wires.proofs.alone.+is_alone_behind.Goals as goal

pub is_alone_behind-requires : goal.is_alone_behind-requires
is_alone_behind-requires t c =
    let k = c.in-Some.ensures.cases in
    let made : AreOffersMade (IsLive c.or.new.store) c.in-Some.others.now =
    others_made c.args.store.now c.and.new.store c.or.new.store c.args.offers.now c.in-Some.others.now c.in-Some.offer.now k.0 c.in_ok-both.ensures.keeps c.in_ok-either.ensures.keeps c.requires.made in
    search (rules, made)

pub returns-clause-alone : goal.returns-clause-alone
returns-clause-alone t c held a =
    let k = c.in-Some.ensures.cases in
    alone_step c.args.store.now c.and.new.store c.or.new.store a c.args.found c.in_ok-both.both c.in_ok-either.either c.args.offers.now c.in-Some.others.now c.in-Some.offer.now k.0 c.in_ok-both.ensures.keeps c.in_ok-either.ensures.keeps
    c.requires.found c.requires.made (c.in_ok-both.ensures.table a) (c.is_always-2.ensures c.if-not-is_always.false a) (c.in_ok-either.ensures.table a) (c.in_ok-alone.ensures.alone held a)
