-- What is said of a value is true: where an assignment gives it, nothing is ruled out.
use Rattle.std.specs.Prelude.{◌≡◌, ◌≤◌, ◌⊎◌, ℕ, Option, false, option_map}
use Rattle.smv_core.specs.Values.{number}
use Rattle.smv_core.specs.Assignments.{fixed}
use Rattle.smv_core.specs.FlatMeaning.{FlatBindings, FlatState, Numbered, flat_allowed_by, flat_index, values_in}
use Rattle.smv_core.specs.declared.tree.Span.{Span}
use Rattle.smv_core.specs.declared.flat.Simple.{Simple}
use Rattle.smv_core.specs.declared.flat.FlatMember.{One, Span as SpanOf}
use Rattle.smv_core.specs.declared.flat.FlatExpr.{FlatExpr, List', Row_of-FlatMember, end_of-FlatMember, more_of-FlatMember}
use Rattle.smv_look_lint.specs.Strays.{has, has_all}

-- an expression whose value the text alone tells, and that the type does not have
abbrev pub IsStray : Simple → FlatExpr → Type 0
IsStray over e = (k : Option ℕ) × (flat_index e ≡ fixed (option_map number k)) × (has over k ≡ false)

-- a span, which is not reversed, of which the type does not have all numbers
abbrev pub IsStraySpan : Simple → Span → Type 0
IsStraySpan over span = (span.low ≤ span.high) × (has_all over span ≡ false)

-- one of the members of a set is such a value or such a span
abbrev pub HasStray : {m : _} → Simple → Row_of-FlatMember m → Type 0
HasStray over end_of-FlatMember = ⊥
HasStray over (more_of-FlatMember (One e) rest) = IsStray over e ⊎ HasStray over rest
HasStray over (more_of-FlatMember (SpanOf span at) rest) = IsStraySpan over span ⊎ HasStray over rest

-- a set with one
abbrev pub IsSetWithStray : Simple → FlatExpr → Type 0
IsSetWithStray over (List' shape members at) = HasStray over members
IsSetWithStray over _ = ⊥

-- such a value allows all values of its type, at all sizes, in all states and under all bindings
abbrev pub StraysRuleNothingOut : Type 0
StraysRuleNothingOut = (n : Numbered) (s : FlatState) (over : Simple) (e : FlatExpr) (b : FlatBindings) → IsStray over e → flat_allowed_by n s (values_in n over) e b ≡ values_in n over

-- and so does a set with one
abbrev pub SetsWithStraysRuleNothingOut : Type 0
SetsWithStraysRuleNothingOut = (n : Numbered) (s : FlatState) (over : Simple) (e : FlatExpr) (b : FlatBindings) → IsSetWithStray over e → flat_allowed_by n s (values_in n over) e b ≡ values_in n over
