use Rattle.std.proofs.Common.{refl, arith}
use Rattle.std.proofs.lemmas.Option.{slice_get_read}
use Rattle.smv_scope.proofs.Numbers.{number-within}
use Rattle.smv_scope.proofs.FieldLaws.{leads-Named, leads-none, leads-Array, leads-Struct}
use Rattle.smv_scope.proofs.fields.+led.Goals as goal

pub returns-in-Some : goal.returns-in-Some
returns-in-Some t c =
    let within = number-within c.args.text.now c.args.place c.in-Named.name.name c.type_named.result c.in-Some.found c.type_named.ensures c.in-Some.is in
    leads-Named c.args.text.now c.args.place c.args.structs.now c.args.of.now c.in-Named.name c.in-Named.at c.in-Some.found c.type_named.result c.index-structs-found.result c.requires.led c.in-Named.is c.type_named.ensures c.in-Some.is
    (slice_get_read c.args.structs.now _ c.in-Some.found c.index-structs-found.result refl (omega (arith, within.0, within.1)) c.index-structs-found.is)

pub returns-in-None : goal.returns-in-None
returns-in-None t c = leads-none c.args.text.now c.args.place c.args.of.now c.in-Named.name c.in-Named.at c.type_named.result c.in-Named.is c.type_named.ensures c.in-None.is

pub returns-in-Array : goal.returns-in-Array
returns-in-Array t c = leads-Array c.args.text.now c.args.place c.args.of.now c.in-Array.of c.in-Array.index c.get.result.now c.led.result c.in-Array.is c.get.ensures c.led.ensures

pub returns-in-Struct : goal.returns-in-Struct
returns-in-Struct t c = leads-Struct c.args.text.now c.args.place c.args.of.now c.in-Struct.fields c.as_slice.result c.in-Struct.is c.as_slice.ensures
