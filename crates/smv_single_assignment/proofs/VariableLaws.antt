-- Names and parameters, side by side.
use Rattle.std.proofs.Common.{◌≡◌, ◌<◌, suc, List, [], ◌∷◌, map, length, true, false, refl, sym, ap, arith}
use Rattle.std.proofs.lemmas.Bool.Decides.{nat_tests}
use Rattle.std.specs.Prelude.{◌&&◌, nat_eq}
use Rattle.smv_core.specs.Outcome.{same_path}
use Rattle.smv_core.specs.Types.{names_of}
use Rattle.smv_core.specs.declared.tree.Word.{Word}
use Rattle.smv_core.specs.declared.flat.Param.{Param}

-- where one list has ended, they are the same if the other one has
pub ended : (left : List Word) (right : List Param) → (0 < length left → 0 < length right → ⊥) → same_path (names_of left) (map (λ (p : Param). p.name) right) ≡ (nat_eq (length left) 0 && nat_eq (length right) 0)
ended [] [] over = refl
ended [] (w ∷ right) over = let not_none : nat_eq (suc (length right)) 0 ≡ false = grind (arith, nat_tests) in sym not_none
ended (w ∷ left) [] over = let not_none : nat_eq (suc (length left)) 0 ≡ false = grind (arith, nat_tests) in sym (ap (λ b. b && true) not_none)
ended (w ∷ left) (v ∷ right) over = absurd (over (omega arith) (omega arith))

pub ruleset ends = (ended)
