-- Values that an assignment gives its signal and that the signal's type does not have.
use Rattle.std.specs.Prelude.{ℕ, List, [], ◌∷◌, ◌++◌, Option, Some, None, Bool, false, ◌&&◌, if◌then◌else◌, nat_le}
use Rattle.smv_core.specs.Values.{Outcome, number}
use Rattle.smv_core.specs.Assignments.{Index, fixed}
use Rattle.smv_core.specs.FlatMeaning.{flat_index}
use Rattle.smv_core.specs.Rows.{one_flat_expr}
use Rattle.smv_core.specs.declared.tree.Span.{Span}
use Rattle.smv_core.specs.declared.flat.Simple.{Simple}
use Rattle.smv_core.specs.declared.flat.Simple.TheVariants.{Range}
use Rattle.smv_core.specs.declared.flat.Family.{Family}
use Rattle.smv_core.specs.declared.flat.Def.{Def}
use Rattle.smv_core.specs.declared.flat.DefBody.{DefBody, Nothing, Assign, If', First', Forall', Row_of-DefBody, end_of-DefBody, more_of-DefBody}
use Rattle.smv_core.specs.declared.flat.FlatMember.{One, Span as SpanOf}
use Rattle.smv_core.specs.declared.flat.FlatExpr.{FlatExpr, Choose', List', Row_of-FlatMember, end_of-FlatMember, more_of-FlatMember}
use Rattle.law_designs.specs.SetOperands.{first_at}
use Rattle.smv_look_lint.specs.declared.warnings.Flaw.{Flaw}
use Rattle.smv_look_lint.specs.declared.warnings.Flaw.TheVariants.{Stray, StraySpan}
use Rattle.smv_look_lint.specs.declared.warnings.Warning.{Warning}

-- the number that an outcome is, or none where it is Undefined
abbrev pub number_of : Outcome → Option ℕ
number_of (Some (number k)) = Some k
number_of _ = None

-- a type has this number
abbrev pub has : Simple → Option ℕ → Bool
has (Range low high) (Some k) = nat_le low k && nat_le k high
has _ _ = false

-- a type has all numbers of a span, which is not reversed
abbrev pub has_all : Simple → Span → Bool
has_all over span = has over (Some span.low) && has over (Some span.high)

-- what is wrong with a family, at a place
abbrev pub warning : ℕ → ℕ → Flaw → Warning
warning family at flaw = record { family = family; flaw = flaw; at = at }

module _ (family : ℕ) (over : Simple) where
  -- a value that the text alone tells, which the type does not have; any other value is let be
  abbrev pub stray : ℕ → Index → List Warning
  stray at (fixed u) = if has over (number_of u) then [] else warning family at (Stray (number_of u)) ∷ []
  stray at _ = []

  -- numbers of a set of which the type does not have all
  abbrev pub stray_span : Span → ℕ → List Warning
  stray_span span at = if has_all over span then [] else warning family at (StraySpan span) ∷ []

  unfoldable mutual
    -- those that a right side gives: in a set each member, and in a `?:` each branch
    pub strays : FlatExpr → List Warning
    strays (List' shape members at) = member_strays members
    strays (Choose' c cond l (one_flat_expr left) r (one_flat_expr right)) = strays left ++ strays right
    strays e = stray (first_at e) (flat_index e)

    pub member_strays : {m : _} → Row_of-FlatMember m → List Warning
    member_strays end_of-FlatMember = []
    member_strays (more_of-FlatMember (One e) rest) = strays e ++ member_strays rest
    member_strays (more_of-FlatMember (SpanOf span at) rest) = stray_span span at ++ member_strays rest

  unfoldable mutual
    -- those of a part of a definition
    pub part_strays : DefBody → List Warning
    part_strays Nothing = []
    part_strays (Assign left value place at) = strays value
    part_strays (If' cond l (more_of-DefBody left end_of-DefBody) r (more_of-DefBody right end_of-DefBody)) = part_strays left ++ part_strays right
    part_strays (First' shape parts) = parts_strays parts
    part_strays (Forall' var each shape (more_of-DefBody body end_of-DefBody)) = part_strays body

    pub parts_strays : {m : _} → Row_of-DefBody m → List Warning
    parts_strays end_of-DefBody = []
    parts_strays (more_of-DefBody part rest) = part_strays part ++ parts_strays rest

-- those of a definition of a family whose values have this type
unfoldable pub strays_of_def : Simple → Def → List Warning
strays_of_def over def = part_strays def.family over def.init ++ part_strays def.family over def.next ++ part_strays def.family over def.comb

-- those of a definition of this family
abbrev pub def_strays : Option Family → Def → List Warning
def_strays None def = []
def_strays (Some f) def = strays_of_def f.value def
