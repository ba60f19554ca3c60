use Rattle.std.proofs.Common.{◌≡◌, ◌∷◌, ◌++◌, [], length, subst, arith}
use Rattle.smv_flatten_families.specs.Lists.{AreLists}
use Rattle.smv_flatten_families.proofs.ListLaws.{list-known, list-new}
use Rattle.smv_flatten_families.proofs.enums.add_different.Goals as goal

pub returns-in_ok-push-in-None : goal.returns-in_ok-push-in-None
returns-in_ok-push-in-None c = λ seen are.
    let long : c.len-place.result ≡ length c.args.lists.now.words.items = omega (arith, c.len-place.ensures, c.args.lists.now.words.ok.0) in
    list-new c.args.lists.now (record { words = c.push.new.self; places = c.note_place.new.places }) seen c.args.words c.in_ok-names.names c.len-place.result c.place_of.result c.in_ok-names.ensures long c.place_of.ensures
    c.in-None.is c.in_ok-push-in-None.ensures.items c.in_ok-note_place-in-None.ensures are

pub returns-in-Some : goal.returns-in-Some
returns-in-Some c = λ seen are.
    subst (λ n. AreLists c.args.lists.now (seen ++ n ∷ [])) c.in_ok-names.ensures (list-known c.args.lists.now seen c.in_ok-names.names c.place_of.result _ c.place_of.ensures c.in-Some.is are)
