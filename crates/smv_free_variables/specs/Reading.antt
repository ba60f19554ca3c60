-- The variables that an expression reads under a name that stays closed, so that laws can speak of each constructor.
use Rattle.std.specs.Prelude.{ℕ, Bool, false}
use Rattle.smv_core.specs.declared.flat.FlatExpr.{FlatExpr}
use Rattle.smv_core.specs.declared.flat.FlatSigned.{FlatSigned, out-FlatSigned}
use Rattle.smv_core.specs.declared.flat.FlatMember.{FlatMember, One, Span as SpanOf}
use Rattle.law_obligations.specs.FreeReads.{reads}

-- an expression
unfoldable pub occurs : ℕ → FlatExpr → Bool
occurs k e = reads k e

-- what a sum adds or takes away
abbrev pub occurs_signed : ℕ → FlatSigned → Bool
occurs_signed k x = occurs k (out-FlatSigned x).of

-- a member of a listed set
abbrev pub occurs_member : ℕ → FlatMember → Bool
occurs_member k (One e) = occurs k e
occurs_member k (SpanOf span at) = false
