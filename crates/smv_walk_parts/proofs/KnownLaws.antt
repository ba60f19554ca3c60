-- What is known of an index, on expressions that are made of lists and values.
use Rattle.std.proofs.Common.{◌≡◌, ℕ, List, [], map, Option, Some, None, option_map, refl, sym, slice_get, get_or}
use Rattle.std.proofs.lemmas.Option.{slice_get-map}
use Rattle.smv_core.specs.Values.{number, constant}
use Rattle.smv_core.specs.declared.tree.Op.{Op}
use Rattle.smv_core.specs.declared.flat.Simple.{Simple}
use Rattle.smv_core.specs.declared.flat.FlatSigned.{FlatSigned}
use Rattle.smv_core.specs.declared.flat.FlatMember.{FlatMember}
use Rattle.smv_core.specs.declared.flat.FlatExpr.{FlatExpr, Number, Loop, Var, Constant, Not, Iff, Compare, Within, Modulo, Choose, All, Any, Each, Read, And, Or, Implies, Sum, List as ListOf}
use Rattle.law_obligations.specs.Places.{Place, World, named, as_place}
use Rattle.smv_spots.specs.declared.spots.Spot.{Spot}
use Rattle.smv_spots.specs.Spots.{place_in, outcome_in}
use Rattle.smv_walk_parts.specs.Elsewhere.{known_place}

module _ (w : World) (b : List Place) where
  pub known-Number : (value at : ℕ) → known_place w b (Number value at) ≡ Some (named (number value))
  known-Number value at = refl

  pub known-Loop : (value at : ℕ) → known_place w b (Loop value at) ≡ Some (named (number value))
  known-Loop value at = refl

  pub known-Var : (var at : ℕ) → known_place w b (Var var at) ≡ slice_get b var
  known-Var var at = refl

  pub known-Constant : (list value at : ℕ) → known_place w b (Constant list value at) ≡ as_place (option_map constant (slice_get (get_or w.classes.enums list []) value))
  known-Constant list value at = refl

  pub known-Read : (family : ℕ) (es : List FlatExpr) (at : ℕ) → known_place w b (Read family es at) ≡ None
  known-Read family es at = refl

  pub known-Not : (e : FlatExpr) (at : ℕ) → known_place w b (Not e at) ≡ None
  known-Not e at = refl

  pub known-And : (es : List FlatExpr) → known_place w b (And es) ≡ None
  known-And es = refl

  pub known-Or : (es : List FlatExpr) → known_place w b (Or es) ≡ None
  known-Or es = refl

  pub known-Implies : (es : List FlatExpr) → known_place w b (Implies es) ≡ None
  known-Implies es = refl

  pub known-Iff : (x y : FlatExpr) → known_place w b (Iff x y) ≡ None
  known-Iff x y = refl

  pub known-Compare : (op : Op) (x y : FlatExpr) → known_place w b (Compare op x y) ≡ None
  known-Compare op x y = refl

  pub known-Within : (x y : FlatExpr) → known_place w b (Within x y) ≡ None
  known-Within x y = refl

  pub known-Sum : (e : FlatExpr) (more : List FlatSigned) → known_place w b (Sum e more) ≡ None
  known-Sum e more = refl

  pub known-Modulo : (e : FlatExpr) (by at : ℕ) → known_place w b (Modulo e by at) ≡ None
  known-Modulo e by at = refl

  pub known-Choose : (c x y : FlatExpr) → known_place w b (Choose c x y) ≡ None
  known-Choose c x y = refl

  pub known-All : (body : FlatExpr) (var : ℕ) (over : Simple) (at : ℕ) → known_place w b (All body var over at) ≡ None
  known-All body var over at = refl

  pub known-Any : (body : FlatExpr) (var : ℕ) (over : Simple) (at : ℕ) → known_place w b (Any body var over at) ≡ None
  known-Any body var over at = refl

  pub known-List : (ms : List FlatMember) (at : ℕ) → known_place w b (ListOf ms at) ≡ None
  known-List ms at = refl

  pub known-Each : (var : ℕ) (over : Simple) (cond : Option FlatExpr) (at : ℕ) → known_place w b (Each var over cond at) ≡ None
  known-Each var over cond at = refl

-- the spot of a variable is where its place is
pub variable-is : (w : World) (b : List Spot) (var : ℕ) → outcome_in w.classes (slice_get b var) ≡ slice_get (map (place_in w.classes) b) var
variable-is w b var = sym (slice_get-map (place_in w.classes) b var)

pub ruleset equations = (known-Number, known-Loop, known-Var, known-Constant, known-Read, known-Not, known-And, known-Or, known-Implies, known-Iff, known-Compare, known-Within, known-Sum, known-Modulo, known-Choose, known-All, known-Any, known-List, known-Each, variable-is)
