use Rattle.law_obligations.specs.Sets.{first}
use Rattle.smv_encode.specs.Encoded.{met_at}
use Rattle.smv_encode.proofs.Adds.{live_pushed, adds_one, one_demand}
use Rattle.smv_encode.proofs.elements.add_met.Goals as goal

pub returns-clause-out : goal.returns-clause-out
returns-clause-out c = live_pushed c.args.store.now c.met_at.new.store c.args.out.now.items c.push.new.self.items c.in_ok-r.r c.in_ok-r.ensures.keeps c.requires.out c.in_ok-push.ensures.items c.in_ok-r.ensures.live

pub returns-clause-adds : goal.returns-clause-adds
returns-clause-adds c = λ d is well o are x h.
    adds_one c.args.store.now c.met_at.new.store c.args.out.now.items c.push.new.self.items c.in_ok-r.r (met_at d o c.args.step x) c.in_ok-r.ensures.keeps c.requires.out c.in_ok-push.ensures.items
    (c.in_ok-r.ensures.means d is well o are x (one_demand d x c.args.demand.now h) (h.fit x first) (h.kept x first))
