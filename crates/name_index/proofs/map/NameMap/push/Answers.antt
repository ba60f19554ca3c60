use Rattle.name_index.proofs.Finding.{zip-pushed}
use Rattle.name_index.proofs.map.NameMap.push.Goals as goal

pub returns-clause-ok : goal.returns-clause-ok
returns-clause-ok g c = zip-pushed c.self.inside.names c.put.new.names c.self.inside.values.items c.put.new.values.items c.args.name.now c.args.value c.args.self.now c.self.invariant c.self.view_is c.in_ok-put.ensures.ok
