-- Which assignments concern an element, on definitions that are made of lists and values.
use Rattle.std.proofs.Common.{◌≡◌, ℕ, List, [], ◌∷◌, map, length, arith, slice_get, Option, Some, None, Bool, true, false, ◌&&◌, ◌||◌, refl, sym, ap, ◌∙◌, if◌then◌else◌}
use Rattle.std.specs.List.{list_any}
use Rattle.std.proofs.lemmas.List.Folds.{list_any-append}
use Rattle.smv_core.specs.Values.{number, scalar, ordinal, same}
use Rattle.smv_core.specs.Assignments.{Index, fixed}
use Rattle.smv_core.specs.FlatMeaning.{Numbered, flat_index, indexes_assigned, indexes_assigned_in}
use Rattle.smv_core.specs.declared.flat.SetInfo.{SetInfo}
use Rattle.smv_core.specs.declared.flat.Simple.{Simple}
use Rattle.smv_core.specs.declared.flat.FlatExpr.{FlatExpr}
use Rattle.smv_core.specs.declared.flat.DefBody.{DefBody, Nothing, Assign, If, First, First', Forall, Row_of-DefBody, end_of-DefBody, more_of-DefBody, items-the_row-DefBody, items_hidden-the_row-DefBody-1}
use Rattle.law_obligations.specs.Places.{Place}
use Rattle.law_obligations.specs.Demands.{fits_place}
use Rattle.law_obligations.proofs.Computing.{computing}
use Rattle.smv_spots.specs.Spots.{of_set, place_in}
use Rattle.smv_spots.specs.declared.spots.Spot.{Spot}
use Rattle.smv_spots.specs.declared.spots.Spot.TheVariants.{Class}
use Rattle.smv_walk_parts.specs.Parts.{all_fit, is_concerned}
use mathlib.Core.Former.{Count}

-- a value of a set type is no number
no_number : (info : Option SetInfo) (k m : ℕ) → same (number m) (of_set info k) ≡ false
no_number None k m = refl
no_number (Some info) k m = at info.ordered
  where
    at : (b : Bool) → same (number m) (if b then ordinal info.name k else scalar info.name k) ≡ false
    at true = refl
    at false = refl

pub class-fits : (n : Numbered) (set class m : ℕ) → fits_place (fixed (Some (number m))) (place_in n (Class set class)) ≡ false
class-fits n set class m = no_number (slice_get n.sets set) class m

pub ruleset no_numbers = (class-fits)

-- the indexes of one assignment
pub fit_no_left : (n : Numbered) (left : List FlatExpr) (indexes : List Spot) → length left ≡ 0 → true ≡ all_fit (map flat_index left) (map (place_in n) indexes)
fit_no_left n [] [] e = refl
fit_no_left n [] (q ∷ qs) e = refl
fit_no_left n (x ∷ xs) qs e = absurd (omega arith)

pub fit_no_index : (n : Numbered) (left : List FlatExpr) (indexes : List Spot) → length indexes ≡ 0 → true ≡ all_fit (map flat_index left) (map (place_in n) indexes)
fit_no_index n [] [] e = refl
fit_no_index n (x ∷ xs) [] e = refl
fit_no_index n xs (q ∷ qs) e = absurd (omega arith)

module _ (n : Numbered) (left : List FlatExpr) (indexes : List Spot) (x : FlatExpr) (xs : List FlatExpr) (q : Spot) (qs : List Spot) (i : Index) (b : Bool) (whole : left ≡ x ∷ xs) (all : indexes ≡ q ∷ qs) (known : i ≡ flat_index x) (is : b ≡ fits_place i (place_in n q)) where
  more : (fits_place i (place_in n q) && all_fit (map flat_index xs) (map (place_in n) qs)) ≡ all_fit (map flat_index left) (map (place_in n) indexes)
  more =
      ap (λ j. fits_place j (place_in n q) && all_fit (map flat_index xs) (map (place_in n) qs)) known
      ∙ (ap (λ l. all_fit (map flat_index (x ∷ xs)) (map (place_in n) l)) (sym all) ∙ ap (λ l. all_fit (map flat_index l) (map (place_in n) indexes)) (sym whole))

  pub fit_others : (c : Bool) → b ≡ true → c ≡ all_fit (map flat_index xs) (map (place_in n) qs) → c ≡ all_fit (map flat_index left) (map (place_in n) indexes)
  fit_others c e h = h ∙ (ap (λ d. d && all_fit (map flat_index xs) (map (place_in n) qs)) (sym e ∙ is) ∙ more)

  pub fit_not : b ≡ false → b ≡ all_fit (map flat_index left) (map (place_in n) indexes)
  fit_not e = e ∙ (ap (λ d. d && all_fit (map flat_index xs) (map (place_in n) qs)) (sym e ∙ is) ∙ more)

-- the assignments of a part
abbrev rows_of : DefBody → (k : Count) × Row_of-DefBody k
rows_of (First' shape row) = (_, row)
rows_of _ = (_, end_of-DefBody)

one_alone : (b : Bool) → (b || false) ≡ b
one_alone true = refl
one_alone false = refl

module _ (qs : List Place) where
  parts-row : (k : _) (row : Row_of-DefBody k) → list_any (λ is. all_fit is qs) (indexes_assigned_in row) ≡ list_any (is_concerned qs) (items-the_row-DefBody k row)
  unfolding is_concerned
  parts-row k end_of-DefBody = refl
  parts-row k (more_of-DefBody part rest) = list_any-append (λ is. all_fit is qs) (indexes_assigned part) (indexes_assigned_in rest) ∙ ap (λ c. is_concerned qs part || c) (parts-row _ rest)

  pub concerned-Nothing : is_concerned qs Nothing ≡ false
  unfolding is_concerned
  concerned-Nothing = refl

  pub concerned-Assign : (left : List FlatExpr) (value : FlatExpr) (place at : ℕ) → is_concerned qs (Assign left value place at) ≡ all_fit (map flat_index left) qs
  unfolding is_concerned
  concerned-Assign left value place at = one_alone (all_fit (map flat_index left) qs)

  pub concerned-If : (cond : FlatExpr) (x y : DefBody) → is_concerned qs (If cond x y) ≡ (is_concerned qs x || is_concerned qs y)
  unfolding is_concerned computing
  concerned-If cond x y = list_any-append (λ is. all_fit is qs) (indexes_assigned x) (indexes_assigned y)

  pub concerned-First : (parts : List DefBody) → is_concerned qs (First parts) ≡ list_any (is_concerned qs) parts
  unfolding is_concerned
  concerned-First parts =
      let row : (k : Count) × Row_of-DefBody k = rows_of (First parts) in
      parts-row row.0 row.1 ∙ ap (list_any (is_concerned qs)) (items_hidden-the_row-DefBody-1 parts)

  pub concerned-Forall : (var : ℕ) (over : Simple) (body : DefBody) → is_concerned qs (Forall var over body) ≡ is_concerned qs body
  unfolding is_concerned computing
  concerned-Forall var over body = refl

pub ruleset equations = (concerned-Nothing, concerned-Assign, concerned-If, concerned-First, concerned-Forall)
