-- Ranges and enumerations: every value is its own class.
use Rattle.std.proofs.Common.{◌≡◌, ℕ, ◌+◌, ◌-◌, List, [], ◌++◌, map, refl, sym, subst, ◌∙◌, Some}
use Rattle.smv_core.specs.Values.{Name, Value, number, constant, range, choice, Sizes, values_of, numbers_from, same, below}
use Rattle.law_obligations.specs.Sets.{Has, first}
use Rattle.law_obligations.specs.Places.{Place, named, World, equal_places, below_places}
use Rattle.law_obligations.specs.Pictures.{Placing, placed, IsPlaced}
use Rattle.law_obligations.proofs.Members.{Has-left, Has-map, Has-from_map}

-- values that lie where they are
module _ (place : Value → Place) (values : List Value) (stays : (v : Value) → Has values v → place v ≡ named v) where
  somewhere : (v : Value) → Has values v → Has (map named values ++ []) (place v)
  somewhere v h = subst (Has (map named values ++ [])) (sym (stays v h)) (Has-left [] (Has-map named h))

  has_value : (q : Place) → Has (map named values) q → (v : Value) × Has values v × (place v ≡ q)
  has_value q h = let r = Has-from_map named values h in (r.0, r.1, stays r.0 r.1 ∙ sym r.2)

  inner : {u v : Value} → named u ≡ named v → u ≡ v
  inner e = cc

  has_one : (u v : Value) → Has values u → Has values v → Has (map named values) (place u) → place u ≡ place v → u ≡ v
  has_one u v hu hv h e = inner (sym (stays u hu) ∙ (e ∙ stays v hv))

  equality : (u v : Value) → Has values u → Has values v → Has (equal_places (place u) (place v)) (Some (same u v))
  equality u v hu hv = rw (stays u hu, stays v hv) first

  order : (u v : Value) → Has values u → Has values v → Has (below_places (place u) (place v)) (below (Some u) (Some v))
  order u v hu hv = rw (stays u hu, stays v hv) first

range_stays : (spots : Placing) (ns : List ℕ) (v : Value) → Has (map number ns) v → placed spots v ≡ named v
range_stays spots ns v h = let r = Has-from_map number ns h in rw r.2 refl

choice_stays : (spots : Placing) (ns : List Name) (v : Value) → Has (map constant ns) v → placed spots v ≡ named v
choice_stays spots ns v h = let r = Has-from_map constant ns h in rw r.2 refl

pub range_is_placed : (sizes : Sizes) (w : World) (spots : Placing) (low high : ℕ) → IsPlaced sizes w (placed spots) (range low high)
range_is_placed sizes w spots low high = let stays = range_stays spots (numbers_from low (high + 1 - low)) in let values = values_of sizes (range low high) in record {
  is_somewhere = somewhere (placed spots) values stays;
  class_has_value = has_value (placed spots) values stays;
  class_has_one = has_one (placed spots) values stays;
  equality = equality (placed spots) values stays;
  order = order (placed spots) values stays;
}

pub choice_is_placed : (sizes : Sizes) (w : World) (spots : Placing) (names : List Name) → IsPlaced sizes w (placed spots) (choice names)
choice_is_placed sizes w spots names = let stays = choice_stays spots names in let values = values_of sizes (choice names) in record {
  is_somewhere = somewhere (placed spots) values stays;
  class_has_value = has_value (placed spots) values stays;
  class_has_one = has_one (placed spots) values stays;
  equality = equality (placed spots) values stays;
  order = order (placed spots) values stays;
}
