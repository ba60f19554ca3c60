-- Ranges of types without a fault of kinds fit.
use Rattle.std.proofs.Common.{◌≡◌, ℕ, List, [], ◌∷◌, Option, Some, None, IfSome, false, ◌||◌, nat_lt, arith}
use Rattle.std.specs.List.{AllByRecursion}
use Rattle.std.proofs.lemmas.Bool.{or_parts}
use Rattle.law_lists.proofs.Numbers.{nat_lt-not}
use Rattle.law_lists.proofs.Lists.{map-nil}
use Rattle.smv_core.specs.Values.{Name}
use Rattle.smv_core.specs.declared.tree.Span.{Span}
use Rattle.smv_core.specs.declared.tree.Text.{Text}
use Rattle.smv_core.specs.declared.tree.Top.{Top}
use Rattle.smv_core.specs.declared.tree.Top.TheVariants.{SetType, Alias, Module as ModuleOf}
use Rattle.smv_core.specs.declared.tree.TypeExpr.{TypeExpr, Boolean, Range, Enum, Named, Array', Struct', end_of-TypeExpr, more_of-TypeExpr, Row_of-Field, end_of-Field, more_of-Field}
use Rattle.smv_mentions.specs.Scopes.{Constant, constants, pieces}
use Rattle.law_designs.specs.References.{Module, modules_from}
use Rattle.law_designs.specs.Types.{Types, types_after, is_reversed, range_faults, size_faults, index_faults, type_faults, field_faults}
use Rattle.law_designs.specs.KindFaults.{in_top, in_tops, faults_of_kinds, first_fault_of_kinds}
use Rattle.law_designs.proofs.Faultless.{empty-both, unplaced, no_fault-in}
use Rattle.law_sound_texts.specs.RangesFit.{SpanFits, IndexFits, RangesFit, FieldsFit, TopFits, NamedRangesFit}

range-fits : (span : Span) (at : ℕ) → range_faults span at ≡ [] → SpanFits span
range-fits span at e =
    let g : (is_reversed span ≡ false) × (nat_lt 255 span.high ≡ false) = or_parts (is_reversed span) (nat_lt 255 span.high) (unplaced (is_reversed span || nat_lt 255 span.high) at (map-nil _ _ e)) in
    let a = nat_lt-not span.high span.low g.0 in
    let b = nat_lt-not 255 span.high g.1 in
    (omega (arith, a, b), omega (arith, b))

size-fits : (span : Option Span) (at : ℕ) → size_faults span at ≡ [] → IfSome span SpanFits
size-fits None at e = tt
size-fits (Some span) at e = range-fits span at e

module _ (types : Types) where
  index-fits : (t : TypeExpr) → index_faults types t ≡ [] → IndexFits t
  unfolding index_faults
  index-fits (Range span at) e = range-fits span at e
  index-fits _ e = tt

  mutual
    unfolding type_faults field_faults

    type-fits : (t : TypeExpr) → type_faults types t ≡ [] → RangesFit t
    type-fits (Range span at) e = range-fits span at e
    type-fits (Array' i (more_of-TypeExpr index end_of-TypeExpr) o (more_of-TypeExpr of end_of-TypeExpr)) e =
        let g : (index_faults types index ≡ []) × (type_faults types of ≡ []) = empty-both (index_faults types index) (type_faults types of) e in
        (index-fits index g.0, type-fits of g.1)
    type-fits (Struct' shape fields) e = fields-fit fields e
    type-fits Boolean e = tt
    type-fits (Enum names at) e = tt
    type-fits (Named word at) e = tt

    fields-fit : {m : _} (fields : Row_of-Field m) → field_faults types fields ≡ [] → FieldsFit fields
    fields-fit end_of-Field e = tt
    fields-fit (more_of-Field names of at rest) e =
        let g : (type_faults types of ≡ []) × (field_faults types rest ≡ []) = empty-both (type_faults types of) (field_faults types rest) e in
        (type-fits of g.0, fields-fit rest g.1)

tops-fit : (modules : List (Name × Module)) (known : List (Name × Constant)) (types : Types) (tops : List Top) → in_tops modules known types tops ≡ [] → AllByRecursion TopFits tops
tops-fit modules known types [] e = tt
tops-fit modules known types (top ∷ tops) e =
    let g : (in_top modules known types top ≡ []) × (in_tops modules known (types_after types top) tops ≡ []) = empty-both (in_top modules known types top) (in_tops modules known (types_after types top) tops) e in
    (own top g.0, tops-fit modules known (types_after types top) tops g.1)
  where
    own : (x : Top) → in_top modules known types x ≡ [] → TopFits x
    own (SetType word ordered span at) e = size-fits span at e
    own (Alias word of at) e = type-fits types of e
    own (ModuleOf word formals body at) e = tt

pub named-fit : (text : Text) → first_fault_of_kinds text ≡ None → NamedRangesFit text
named-fit text none = tops-fit (modules_from [] text.tops) (constants (pieces text)) [] text.tops (no_fault-in (faults_of_kinds text) none)
