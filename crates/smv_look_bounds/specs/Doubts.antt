-- Where types and conditions do not keep a number inside, and conditions that never change.
use Rattle.std.specs.Prelude.{ℕ, ◌+◌, List, [], ◌∷◌, ◌++◌, flat_map, take, slice_get, Option, Some, None, Bool, true, false, not, ◌&&◌, ◌||◌, if◌then◌else◌, nat_lt}
use Rattle.std.specs.List.{list_all}
use Rattle.smv_core.specs.Assignments.{Index, fixed}
use Rattle.smv_core.specs.Rows.{one_flat_expr, FlatCondition}
use Rattle.smv_core.specs.declared.flat.Simple.{Simple}
use Rattle.smv_core.specs.declared.flat.Simple.TheVariants.{Range}
use Rattle.smv_core.specs.declared.flat.Family.{Family}
use Rattle.smv_core.specs.declared.flat.Def.{Def}
use Rattle.smv_core.specs.declared.flat.DefBody.{DefBody, Nothing, Assign, If', First', Forall', Row_of-DefBody, end_of-DefBody, more_of-DefBody}
use Rattle.smv_core.specs.declared.flat.FlatMember.{One, Span as SpanOf}
use Rattle.smv_core.specs.declared.flat.FlatSigned.{FlatSigned, out-FlatSigned}
use Rattle.smv_core.specs.declared.flat.FlatExpr.{FlatExpr, Number, Read', Var, Loop, Constant, Not', And', Or', Implies', Iff', Compare', Within', Sum', Modulo', Choose', All', Any', List', Each', None', Some', Row_of-FlatExpr, end_of-FlatExpr, more_of-FlatExpr, Row_of-FlatMember, end_of-FlatMember, more_of-FlatMember, Row_of-FlatSigned, end_of-FlatSigned, more_of-FlatSigned, items-the_row-FlatExpr, items-the_row-FlatSigned}
use Rattle.smv_look_bounds.specs.Places.{place}
use Rattle.smv_look_bounds.specs.declared.numbers.Bounds.{Bounds}
use Rattle.smv_look_bounds.specs.declared.doubts.What.{What}
use Rattle.smv_look_bounds.specs.declared.doubts.What.TheVariants.{Above, Below, Index as IndexOf, Value, Always}
use Rattle.smv_look_bounds.specs.declared.doubts.Doubt.{Doubt}
use Rattle.smv_look_bounds.specs.Narrowing.{Given, index_in}
use Rattle.smv_look_bounds.specs.Bounds.{added, bounds}
use Rattle.smv_look_bounds.specs.Constants.{is_constant}

abbrev pub doubt : ℕ → What → Doubt
doubt at what = record { what = what; at = at }

-- what is doubted, where it is so
abbrev pub doubt_if : Bool → ℕ → What → List Doubt
doubt_if p at what = if p then doubt at what ∷ [] else []

-- the text alone tells the value
abbrev pub is_known : Index → Bool
is_known (fixed u) = true
is_known _ = false

abbrev pub is_fixed : FlatExpr → Bool
is_fixed e = is_known (index_in e)

-- each step of a sum is a constant
abbrev pub are_fixed : List FlatSigned → Bool
are_fixed more = list_all (λ s. is_fixed (out-FlatSigned s).of) more

unfoldable pub is_steady : FlatExpr → Bool
is_steady (Sum' f head shape more) = are_fixed (items-the_row-FlatSigned _ more)
is_steady _ = true

-- by how much an end may be passed: by one where a condition stands around, and where the step of a sum is no constant, since what keeps a counter inside is often not seen here
abbrev pub slack : List Given → Bool → ℕ
slack [] true = 0
slack _ _ = 1

abbrev pub stands_free : List Given → Bool
stands_free [] = true
stands_free _ = false

-- one more condition around
abbrev pub under : List Given → Bool → FlatExpr → List Given
under givens holds e = givens ++ record { cond = e; holds = holds } ∷ []

-- one more variable is bound, and those from its number on are no longer
abbrev pub bound : List Simple → ℕ → Simple → List Simple
bound vars var over = take var vars ++ over ∷ []

-- bounds pass an end of a type by more than this
abbrev pub passes : ℕ → Simple → Bounds → Bool
passes by (Range low high) b = nat_lt (b.low + by) low || nat_lt (high + by) b.high
passes by _ b = false

-- a sum that may pass 511, or a difference that may go below 0, by more than this
abbrev pub bounded_step : ℕ → ℕ → Bool → Bounds → Bounds → List Doubt
bounded_step at by false a b = doubt_if (nat_lt (511 + by) (a.high + b.high)) at Above
bounded_step at by true a b = doubt_if (nat_lt (a.low + by) b.high) at Below

abbrev pub step_doubt : ℕ → ℕ → Bool → Option Bounds → Option Bounds → List Doubt
step_doubt at by minus (Some a) (Some b) = bounded_step at by minus a b
step_doubt at by minus _ _ = []

-- an index that may be outside its type, and a value that may be outside the type of what it is given to
abbrev pub index_outside : Simple → ℕ → ℕ → Option Bounds → List Doubt
index_outside over at by None = []
index_outside over at by (Some b) = doubt_if (passes by over b) at (IndexOf b over)

abbrev pub value_outside : Simple → ℕ → ℕ → Option Bounds → List Doubt
value_outside over at by None = []
value_outside over at by (Some b) = doubt_if (passes by over b) at (Value b over)

-- a condition that never changes
abbrev pub condition_doubt : FlatExpr → List Doubt
condition_doubt e = doubt_if (is_constant e) (place e) Always

abbrev pub index_types : Option Family → List Simple
index_types None = []
index_types (Some f) = f.over

module _ (families : List Family) where
  module _ (vars : List Simple) (givens : List Given) where
    -- the steps of a sum from the left, after what has these bounds
    abbrev pub steps_doubts : ℕ → ℕ → Option Bounds → List FlatSigned → List Doubt
    steps_doubts at by b [] = []
    steps_doubts at by b (s ∷ more) =
        step_doubt at by (out-FlatSigned s).minus b (bounds families vars givens (out-FlatSigned s).of)
        ++ steps_doubts at by (added (out-FlatSigned s).minus b (bounds families vars givens (out-FlatSigned s).of)) more

    -- those of a sum, where it is not made of constants alone
    abbrev pub sum_doubts : FlatExpr → List FlatSigned → List Doubt
    sum_doubts head more =
        if is_fixed head && are_fixed more then []
        else steps_doubts (place head) (slack givens (are_fixed more)) (bounds families vars givens head) more

    -- an index, unless it is a constant under a condition
    abbrev pub index_doubts : Simple → FlatExpr → List Doubt
    index_doubts over e =
        if is_fixed e && not (stands_free givens) then []
        else index_outside over (place e) (slack givens (is_steady e)) (bounds families vars givens e)

    -- indexes of these types
    abbrev pub each_index : List Simple → List FlatExpr → List Doubt
    each_index [] es = []
    each_index (over ∷ types) [] = []
    each_index (over ∷ types) (e ∷ es) = index_doubts over e ++ each_index types es

    -- those of a reference
    abbrev pub read_doubts : ℕ → List FlatExpr → List Doubt
    read_doubts family es = each_index (index_types (slice_get families family)) es

    -- a value that an assignment gives, where the text alone does not tell it
    abbrev pub value_doubt : Simple → FlatExpr → List Doubt
    value_doubt over e = if is_fixed e then [] else value_outside over (place e) (slack givens (is_steady e)) (bounds families vars givens e)

  unfoldable mutual
    -- the sums, the indexes and the conditions of `?:` in an expression; a part of an `&` is looked at as if the `&` held, one of an `|` as if it did not, one of an `->` as if those before it held, since otherwise it does not count
    pub doubts : List Simple → List Given → FlatExpr → List Doubt
    doubts vars givens (Number value at) = []
    doubts vars givens (Read' family shape indexes at) = read_doubts vars givens family (items-the_row-FlatExpr _ indexes) ++ doubts_each vars givens indexes
    doubts vars givens (Var var at) = []
    doubts vars givens (Loop value at) = []
    doubts vars givens (Constant list value at) = []
    doubts vars givens (Not' shape (one_flat_expr e) at) = doubts vars givens e
    doubts vars givens (And' shape parts) = doubts_each vars (under givens true (And' shape parts)) parts
    doubts vars givens (Or' shape parts) = doubts_each vars (under givens false (Or' shape parts)) parts
    doubts vars givens (Implies' shape parts) = doubts_implied vars givens parts
    doubts vars givens (Iff' l (one_flat_expr left) r (one_flat_expr right)) = doubts vars givens left ++ doubts vars givens right
    doubts vars givens (Compare' op l (one_flat_expr left) r (one_flat_expr right)) = doubts vars givens left ++ doubts vars givens right
    doubts vars givens (Within' l (one_flat_expr left) r (one_flat_expr set)) = doubts vars givens left ++ doubts vars givens set
    doubts vars givens (Sum' f (one_flat_expr head) shape more) = sum_doubts vars givens head (items-the_row-FlatSigned _ more) ++ doubts vars givens head ++ doubts_terms vars givens more
    doubts vars givens (Modulo' shape (one_flat_expr e) by at) = doubts vars givens e
    doubts vars givens (Choose' c (one_flat_expr cond) l (one_flat_expr left) r (one_flat_expr right)) =
        condition_doubt cond ++ doubts vars givens cond ++ doubts vars (under givens true cond) left ++ doubts vars (under givens false cond) right
    doubts vars givens (All' shape (one_flat_expr body) var over at) = doubts (bound vars var over) givens body
    doubts vars givens (Any' shape (one_flat_expr body) var over at) = doubts (bound vars var over) givens body
    doubts vars givens (List' shape members at) = doubts_members vars givens members
    doubts vars givens (Each' var over cond at) = doubts_held (bound vars var over) givens cond

    pub doubts_each : {m : _} → List Simple → List Given → Row_of-FlatExpr m → List Doubt
    doubts_each vars givens end_of-FlatExpr = []
    doubts_each vars givens (more_of-FlatExpr e rest) = doubts vars givens e ++ doubts_each vars givens rest

    pub doubts_implied : {m : _} → List Simple → List Given → Row_of-FlatExpr m → List Doubt
    doubts_implied vars givens end_of-FlatExpr = []
    doubts_implied vars givens (more_of-FlatExpr e rest) = doubts vars givens e ++ doubts_implied vars (under givens true e) rest

    pub doubts_terms : {m : _} → List Simple → List Given → Row_of-FlatSigned m → List Doubt
    doubts_terms vars givens end_of-FlatSigned = []
    doubts_terms vars givens (more_of-FlatSigned minus e rest) = doubts vars givens e ++ doubts_terms vars givens rest

    pub doubts_members : {m : _} → List Simple → List Given → Row_of-FlatMember m → List Doubt
    doubts_members vars givens end_of-FlatMember = []
    doubts_members vars givens (more_of-FlatMember (One e) rest) = doubts vars givens e ++ doubts_members vars givens rest
    doubts_members vars givens (more_of-FlatMember (SpanOf span at) rest) = doubts_members vars givens rest

    pub doubts_held : List Simple → List Given → FlatCondition → List Doubt
    doubts_held vars givens None' = []
    doubts_held vars givens (Some' shape (one_flat_expr cond)) = doubts vars givens cond

  module _ (over : Simple) (vars : List Simple) where
    unfoldable mutual
      -- the values that a right side gives to what has this type: in a set each member, and in a `?:` each branch
      pub values : List Given → FlatExpr → List Doubt
      values givens (List' shape members at) = values_members givens members
      values givens (Choose' c (one_flat_expr cond) l (one_flat_expr left) r (one_flat_expr right)) = values (under givens true cond) left ++ values (under givens false cond) right
      values givens e = value_doubt vars givens over e

      pub values_members : {m : _} → List Given → Row_of-FlatMember m → List Doubt
      values_members givens end_of-FlatMember = []
      values_members givens (more_of-FlatMember (One e) rest) = values givens e ++ values_members givens rest
      values_members givens (more_of-FlatMember (SpanOf span at) rest) = values_members givens rest

  module _ (over : Simple) where
    unfoldable mutual
      -- those of a part of a definition of what has this type
      pub part_doubts : List Simple → List Given → DefBody → List Doubt
      part_doubts vars givens Nothing = []
      part_doubts vars givens (Assign left value place at) = flat_map (doubts vars givens) left ++ values over vars givens value ++ doubts vars givens value
      part_doubts vars givens (If' cond l (more_of-DefBody left end_of-DefBody) r (more_of-DefBody right end_of-DefBody)) =
          condition_doubt cond ++ doubts vars givens cond ++ part_doubts vars (under givens true cond) left ++ part_doubts vars (under givens false cond) right
      part_doubts vars givens (First' shape parts) = parts_doubts vars givens parts
      part_doubts vars givens (Forall' var each shape (more_of-DefBody body end_of-DefBody)) = part_doubts (bound vars var each) givens body

      pub parts_doubts : {m : _} → List Simple → List Given → Row_of-DefBody m → List Doubt
      parts_doubts vars givens end_of-DefBody = []
      parts_doubts vars givens (more_of-DefBody part rest) = part_doubts vars givens part ++ parts_doubts vars givens rest

    -- those of a definition of what has this type
    unfoldable pub all_doubts : Def → List Doubt
    all_doubts def = part_doubts [] [] def.init ++ part_doubts [] [] def.next ++ part_doubts [] [] def.comb

  abbrev pub doubts_over : Option Family → Def → List Doubt
  doubts_over None def = []
  doubts_over (Some f) def = all_doubts f.value def

  -- those of a definition
  abbrev pub def_doubts : Def → List Doubt
  def_doubts def = doubts_over (slice_get families def.family) def
