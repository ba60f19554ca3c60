-- When each range that is written in a type fits its fields.
use Rattle.std.specs.Prelude.{IfSome}
use Rattle.std.specs.List.{AllByRecursion}
use Rattle.smv_core.specs.declared.tree.Span.{Span}
use Rattle.smv_core.specs.declared.tree.Text.{Text}
use Rattle.smv_core.specs.declared.tree.Top.{Top}
use Rattle.smv_core.specs.declared.tree.Top.TheVariants.{SetType, Alias, Module}
use Rattle.smv_core.specs.declared.tree.TypeExpr.{TypeExpr, Range, Array', Struct', Row_of-Field, end_of-Field, more_of-Field}
use Rattle.law_sound_texts.specs.NumbersFit.{IsByte}
use Rattle.smv_core.specs.Rows.{one_type}

-- the ends of a span
abbrev pub SpanFits : Span → Type 0
SpanFits span = IsByte span.low × IsByte span.high

-- an index type is a range alone, or has none
abbrev pub IndexFits : TypeExpr → Type 0
IndexFits (Range span at) = SpanFits span
IndexFits _ = Unit {0}

abbrev mutual
  pub RangesFit : TypeExpr → Type 0
  RangesFit (Range span at) = SpanFits span
  RangesFit (Array' i (one_type index) o (one_type of)) = IndexFits index × RangesFit of
  RangesFit (Struct' shape fields) = FieldsFit fields
  RangesFit _ = Unit {0}

  pub FieldsFit : {m : _} → Row_of-Field m → Type 0
  FieldsFit end_of-Field = Unit {0}
  FieldsFit (more_of-Field names of at rest) = RangesFit of × FieldsFit rest

-- so it is for the types that have names, used or not
abbrev pub TopFits : Top → Type 0
TopFits (SetType word ordered span at) = IfSome span SpanFits
TopFits (Alias word of at) = RangesFit of
TopFits (Module word formals body at) = Unit {0}

abbrev pub NamedRangesFit : Text → Type 0
NamedRangesFit text = AllByRecursion TopFits text.tops
