-- What elements that are put add to those that are found.
use Rattle.std.specs.Prelude.{◌≡◌, List, ◌++◌, map, false}
use Rattle.law_obligations.specs.Sets.{Has}
use Rattle.law_obligations.specs.Cones.{AbsElement}
use Rattle.smv_problem.specs.WellFormed.{AreApartElements}
use Rattle.smv_problem.specs.Written.{written_element}
use Rattle.smv_elements.specs.Elements.{is_full, put_all}

-- some of what is put comes behind what is found, and nothing stands there twice; while there are few, all that is put is found
pub record Adds (found put more : List AbsElement) : Type 0 where
  pub are_put : put_all (map written_element found) (map written_element put) ≡ map written_element (found ++ more)
  pub are_apart : AreApartElements (found ++ more)
  pub fresh : (x : AbsElement) → Has more x → Has put x
  pub all : is_full (map written_element (found ++ more)) ≡ false → (x : AbsElement) → Has put x → Has (found ++ more) x
