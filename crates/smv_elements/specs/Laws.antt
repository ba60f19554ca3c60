-- The laws: what the crate's public functions say.
use Rattle.std.specs.Prelude.{◌≡◌, List, ◌++◌, true}
use Rattle.smv_core.specs.declared.flat.Element.{Element}
use Rattle.smv_elements.specs.Elements.{is_full, put_all}

-- what is put in two parts is what is put at once
abbrev pub PutsJoin : Type 0
PutsJoin = (found xs ys : List Element) → put_all found (xs ++ ys) ≡ put_all (put_all found xs) ys

-- where there are too many nothing is put
abbrev pub FullStays : Type 0
FullStays = (found xs : List Element) → is_full found ≡ true → put_all found xs ≡ found
