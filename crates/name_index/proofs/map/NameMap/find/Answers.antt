use Rattle.name_index.proofs.Finding.{zip-found}
use Rattle.name_index.proofs.map.NameMap.find.Goals as goal

pub returns : goal.returns
returns g c = zip-found c.self.inside.names c.self.inside.values.items c.args.name.now c.find.result c.as_slice.result.now c.args.self.now _ c.self.invariant c.self.view_is c.find.ensures c.as_slice.ensures.value c.value_at.ensures
