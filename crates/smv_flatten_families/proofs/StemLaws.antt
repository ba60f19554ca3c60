-- The families of a part of a signal are those behind one more name, or under one more index.
use Rattle.std.proofs.Common.{◌≡◌, ℕ, List, [], ◌∷◌, ◌++◌, map, Bool, refl, ap, sym, ◌∙◌}
use Rattle.std.proofs.lemmas.List.{append-nil, append_assoc}
use Rattle.smv_core.specs.Values.{Name, Path}
use Rattle.smv_core.specs.declared.flat.Simple.{Simple}
use Rattle.smv_flatten_families.specs.Types.{Leaf, under, behind}
use Rattle.smv_flatten_families.specs.Families.{InPlace, placed_leaf}

placed : Path → List Simple → Simple → Bool → ℕ → InPlace
placed path over value is_abstract at = record { path = path; over = over; value = value; is_abstract = is_abstract; at = at }

-- behind one more name
pub leaves-behind : (path : Path) (name : Name) (over : List Simple) (is_abstract : Bool) (at : ℕ) (ls : List Leaf)
    → map (placed_leaf path over is_abstract at) (map (behind name) ls) ≡ map (placed_leaf (path ++ name ∷ []) over is_abstract at) ls
unfolding placed
leaves-behind path name over is_abstract at [] = refl
leaves-behind path name over is_abstract at (leaf ∷ ls) =
    ap (λ p. placed p (over ++ leaf.over) leaf.value is_abstract at ∷ map (placed_leaf path over is_abstract at) (map (behind name) ls)) (sym (append_assoc path (name ∷ []) leaf.path))
    ∙ ap (λ l. placed ((path ++ name ∷ []) ++ leaf.path) (over ++ leaf.over) leaf.value is_abstract at ∷ l) (leaves-behind path name over is_abstract at ls)

-- under one more index
pub leaves-under : (path : Path) (over : List Simple) (t : Simple) (is_abstract : Bool) (at : ℕ) (ls : List Leaf)
    → map (placed_leaf path over is_abstract at) (map (under t) ls) ≡ map (placed_leaf path (over ++ t ∷ []) is_abstract at) ls
unfolding placed
leaves-under path over t is_abstract at [] = refl
leaves-under path over t is_abstract at (leaf ∷ ls) =
    ap (λ o. placed (path ++ leaf.path) o leaf.value is_abstract at ∷ map (placed_leaf path over is_abstract at) (map (under t) ls)) (sym (append_assoc over (t ∷ []) leaf.over))
    ∙ ap (λ l. placed (path ++ leaf.path) ((over ++ t ∷ []) ++ leaf.over) leaf.value is_abstract at ∷ l) (leaves-under path over t is_abstract at ls)

-- one value
pub leaf-alone : (path : Path) (over : List Simple) (value : Simple) (is_abstract : Bool) (at : ℕ)
    → placed_leaf path over is_abstract at (record { path = []; over = []; value = value }) ≡ record { path = path; over = over; value = value; is_abstract = is_abstract; at = at }
unfolding placed
leaf-alone path over value is_abstract at = ap (λ p. placed p (over ++ []) value is_abstract at) (append-nil path) ∙ ap (λ o. placed path o value is_abstract at) (append-nil over)

pub ruleset stems = (leaves-behind, leaves-under, leaf-alone)
