-- The words of the definitions for lists, and words that stay closed until a law opens them.
use Rattle.std.specs.Prelude.{ℕ, List, [], ◌∷◌}
use Rattle.smv_core.specs.FlatMeaning.{flat_index}
use Rattle.smv_core.specs.declared.flat.Simple.{Simple}
use Rattle.smv_core.specs.declared.flat.FlatExpr.{FlatExpr}
use Rattle.smv_core.specs.declared.flat.FlatMember.{FlatMember, One, Span as SpanOf}
use Rattle.law_designs.specs.SetOperands.{first_at}
use Rattle.smv_look_lint.specs.declared.warnings.Warning.{Warning}
use Rattle.smv_look_lint.specs.Strays.{stray, stray_span, strays}

-- the strays of a member of a set
abbrev pub member_strays : ℕ → Simple → FlatMember → List Warning
member_strays family over (One e) = strays family over e
member_strays family over (SpanOf span at) = stray_span family over span at

-- the stray of an expression that is neither a set nor a `?:`
unfoldable pub stray_of : ℕ → Simple → FlatExpr → List Warning
stray_of family over e = stray family over (first_at e) (flat_index e)
