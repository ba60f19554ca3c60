-- Answers as written values: which enumeration an expression's constants are among, and how outcomes are written.
use Rattle.std.specs.Prelude.{◌≢◌, ℕ, List, [], ◌∷◌, ◌++◌, map, get_or, slice_get, position, unwrap_or, min, Option, Some, None, Bool, true, if◌then◌else◌, nat_eq}
use Rattle.std.specs.List.{filter, list_any}
use Rattle.smv_core.specs.declared.flat.Simple.{Simple}
use Rattle.smv_core.specs.declared.flat.Simple.TheVariants.{Enum}
use Rattle.smv_core.specs.declared.flat.Family.{Family}
use Rattle.smv_core.specs.declared.flat.FlatExpr.{FlatExpr, Read', Constant, Choose'}
use Rattle.law_obligations.specs.Sets.{Has}
use Rattle.law_designs.specs.FlatKinds.{FlatKind, enumeration}
use Rattle.law_problems.specs.Values.{same_value}
use Rattle.smv_spots.specs.declared.spots.Spot.TheVariants as spot
use Rattle.smv_spots.specs.declared.spots.Spot.{Spot}
use Rattle.smv_problem.specs.declared.problem.Problem.{Problem}
use Rattle.smv_problem.specs.declared.problem.AbsValue.{AbsValue}
use Rattle.smv_problem.specs.declared.problem.AbsValue.TheVariants as value
use Rattle.smv_problem_spots.specs.Worlds.{count_at, name_number_at}
use Rattle.smv_conditions.specs.declared.offers.Offer.{Offer}
use Rattle.smv_core.specs.Rows.{one_flat_expr}

-- no member twice
abbrev pub AreOnce : {X : Type 0} → List X → Type 0
AreOnce [] = Unit {0}
AreOnce (x ∷ xs) = ((y : _) → Has xs y → x ≢ y) × AreOnce xs

-- the answer has each member of a set, nothing else, and nothing twice
pub record IsSetOf {X : Type 0} (set answer : List X) : Type 0 where
  pub each : (x : X) → Has set x → Has answer x
  pub only : (x : X) → Has answer x → Has set x
  pub once : AreOnce answer

-- the enumeration of a kind, of a type and of a family, if it is one
abbrev pub list_of : FlatKind → Option ℕ
list_of (enumeration list) = Some list
list_of kind = None

abbrev pub list_over : Simple → Option ℕ
list_over (Enum list) = Some list
list_over over = None

abbrev pub list_for : Option Family → Option ℕ
list_for (Some f) = list_over f.value
list_for None = None

-- the enumeration of which an expression is, where no variable is of one
abbrev pub list_in : List Family → FlatExpr → Option ℕ
list_in families (Read' family shape indexes at) = list_for (slice_get families family)
list_in families (Constant list value at) = Some list
list_in families (Choose' c cond l (one_flat_expr left) r right) = list_in families left
list_in families e = None

-- the place of a number in an enumeration, 0 where it is not there
abbrev pub place_in : Problem → ℕ → ℕ → ℕ
place_in p list number = min (unwrap_or (position (nat_eq number) (get_or p.names list [])) 0) (count_at p.lists list)

-- a constant by its place in this enumeration
abbrev pub constant_in : Problem → Option ℕ → ℕ → AbsValue
constant_in p (Some list) number = value.Constant (place_in p list number)
constant_in p None number = value.Undefined

-- an outcome as it is written where its constants are of this enumeration; numbers of classes and rests are at most 255
abbrev pub value_at : Problem → Option ℕ → Option Spot → AbsValue
value_at p list None = value.Undefined
value_at p list (Some (spot.Number k)) = value.Number k
value_at p list (Some (spot.Constant other k)) = constant_in p list (name_number_at p.names other k)
value_at p list (Some (spot.Class set k)) = value.Named (min k 255)
value_at p list (Some (spot.Rest set g)) = value.Rest (min g 255)

-- the same written value, also Undefined
abbrev pub is_same_value : AbsValue → AbsValue → Bool
is_same_value value.Undefined value.Undefined = true
is_same_value v w = same_value v w

-- one value more, where it is new
abbrev pub with_value : List AbsValue → AbsValue → List AbsValue
with_value values v = if list_any (is_same_value v) values then values else values ++ v ∷ []

-- with what is offered, each value once
abbrev pub with_offer : Problem → Option ℕ → List AbsValue → Offer Bool → List AbsValue
with_offer p list values o = if o.when then with_value values (value_at p list o.outcome) else values

abbrev pub with_offers : Problem → Option ℕ → List AbsValue → List (Offer Bool) → List AbsValue
with_offers p list values [] = values
with_offers p list values (o ∷ offers) = with_offers p list (with_offer p list values o) offers

-- each value that is offered, in order
abbrev pub offered_values : Problem → Option ℕ → List (Offer Bool) → List AbsValue
offered_values p list offers = map (λ (o : Offer Bool). value_at p list o.outcome) (filter (λ (o : Offer Bool). o.when) offers)
