-- The words of the definitions for lists, and for what the program holds.
use Rattle.std.specs.Prelude.{List, [], ◌∷◌, ◌++◌, map, Option, Bool, true}
use Rattle.smv_core.specs.declared.flat.Simple.{Simple}
use Rattle.smv_core.specs.declared.flat.Family.{Family}
use Rattle.smv_core.specs.declared.flat.FlatExpr.{FlatExpr}
use Rattle.smv_core.specs.declared.flat.FlatSigned.{FlatSigned, out-FlatSigned}
use Rattle.smv_core.specs.declared.flat.FlatMember.{FlatMember, One, Span as SpanOf}
use Rattle.smv_look_bounds.specs.declared.numbers.Bounds.{Bounds}
use Rattle.smv_look_bounds.specs.declared.targets.Target.{Target as Held}
use Rattle.smv_look_bounds.specs.declared.targets.Target.TheVariants.{Element, Variable, Nothing}
use Rattle.smv_look_bounds.specs.declared.narrowing.Given.{Given as HeldGiven}
use Rattle.smv_look_bounds.specs.declared.doubts.Doubt.{Doubt}
use Rattle.smv_look_bounds.specs.Narrowing.{Given, Target, element, variable, nothing, index_in, narrow}
use Rattle.smv_look_bounds.specs.Bounds.{added, bounds}
use Rattle.smv_look_bounds.specs.Constants.{is_constant}
use Rattle.smv_look_bounds.specs.Doubts.{doubts, under, values}

abbrev pub target_of : Held → Target
target_of (Element family indexes) = element family (map index_in indexes.now)
target_of (Variable var) = variable var
target_of Nothing = nothing

abbrev pub given_of : HeldGiven → Given
given_of g = record { cond = g.cond.now; holds = g.holds }

-- what each of some conditions leaves
abbrev pub narrow_all : Target → Bool → List FlatExpr → Bounds → Bounds
narrow_all t holds [] b = b
narrow_all t holds (e ∷ es) b = narrow_all t holds es (narrow t holds e b)

-- what a sum can be, from the left
abbrev pub bounds_all : List Family → List Simple → List Given → Option Bounds → List FlatSigned → Option Bounds
bounds_all families vars givens b [] = b
bounds_all families vars givens b (s ∷ more) = bounds_all families vars givens (added (out-FlatSigned s).minus b (bounds families vars givens (out-FlatSigned s).of)) more

-- members of a set that are made of constants alone
abbrev pub member_constant : FlatMember → Bool
member_constant (One e) = is_constant e
member_constant (SpanOf span at) = true

abbrev pub term_constant : FlatSigned → Bool
term_constant s = is_constant (out-FlatSigned s).of

-- what is doubted of expressions each of which stands under those before it
abbrev pub implied_doubts : List Family → List Simple → List Given → List FlatExpr → List Doubt
implied_doubts families vars givens [] = []
implied_doubts families vars givens (e ∷ es) = doubts families vars givens e ++ implied_doubts families vars (under givens true e) es

-- what is doubted of a term and of a member
abbrev pub term_doubts : List Family → List Simple → List Given → FlatSigned → List Doubt
term_doubts families vars givens s = doubts families vars givens (out-FlatSigned s).of

abbrev pub member_doubts : List Family → List Simple → List Given → FlatMember → List Doubt
member_doubts families vars givens (One e) = doubts families vars givens e
member_doubts families vars givens (SpanOf span at) = []

abbrev pub member_values : List Family → Simple → List Simple → List Given → FlatMember → List Doubt
member_values families over vars givens (One e) = values families over vars givens e
member_values families over vars givens (SpanOf span at) = []
