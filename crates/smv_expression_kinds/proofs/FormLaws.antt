-- What types lead to, on types that are made of lists and values.
use Rattle.std.proofs.Common.{◌≡◌, ℕ, List, [], ◌∷◌, Bool, true, false, cond, refl, ap, sym, ◌∙◌, Bor}
use Rattle.std.specs.Prelude.{Option, Some, None, option_map, option_and_then, slice_get}
use Rattle.smv_core.specs.Types.{find_name, names_of}
use Rattle.smv_core.specs.declared.tree.Word.{Word}
use Rattle.smv_core.specs.declared.tree.Span.{Span}
use Rattle.smv_scope.specs.declared.tables.Tables.{Tables as ScopeTables}
use Rattle.smv_core.specs.declared.tree.Expr.{Expr}
use Rattle.smv_core.specs.declared.tree.Part.{Part, Field as FieldPart, At}
use Rattle.smv_core.specs.declared.tree.Field.{Field, out-Field}
use Rattle.smv_core.specs.declared.tree.TypeExpr.{TypeExpr, Boolean, Range, Enum, Named, Struct, Struct', Array, Row_of-Field, end_of-Field, more_of-Field, items-the_row-Field, items_hidden-the_row-Field-1}
use mathlib.Core.Former.{Count}
use Rattle.smv_mentions.specs.Scopes.{has_name}
use Rattle.smv_scope.specs.Numbered.{field_named}
use Rattle.law_designs.specs.Kinds.{number, enumeration}
use Rattle.law_designs.specs.Types.{Types, Leads, Whole, single, under, value_kind, leads, leads_field}
use Rattle.smv_expression_kinds.specs.declared.kinds.ValueKind.{ValueKind}
use Rattle.smv_expression_kinds.specs.declared.kinds.ValueKind.TheVariants as kind
use Rattle.smv_expression_kinds.specs.declared.tables.Form.{Form}
use Rattle.smv_expression_kinds.specs.declared.tables.Form.TheVariants as form
use Rattle.smv_expression_kinds.specs.Forms.{kind_of, types_before, type_before, types_in, leads_at, form_leads, AreForms}
use Rattle.smv_expression_kinds.proofs.PlaceLaws.{named-leads}
use Rattle.smv_mentions.proofs.Computing.{computing}

module _ (types : Types) where
  pub leads-Boolean : (parts : List Part) → leads types Boolean parts ≡ single number parts
  unfolding leads
  leads-Boolean parts = refl

  pub leads-Range : (span : Span) (at : ℕ) (parts : List Part) → leads types (Range span at) parts ≡ single number parts
  unfolding leads
  leads-Range span at parts = refl

  pub leads-Enum : (names : List Word) (at : ℕ) (parts : List Part) → leads types (Enum names at) parts ≡ single (enumeration (names_of names)) parts
  unfolding leads
  leads-Enum names at parts = refl

  pub leads-Named : (word : Word) (at : ℕ) (parts : List Part) → leads types (Named word at) parts ≡ option_and_then (λ (named : Leads). named parts) (find_name types word.name)
  unfolding leads
  leads-Named word at parts = refl

  pub leads-Array : (index of : TypeExpr) (e : Expr) (parts : List Part) → leads types (Array index of) (At e ∷ parts) ≡ option_map (under (value_kind (leads types index []))) (leads types of parts)
  unfolding leads computing
  leads-Array index of e parts = refl

  pub leads-Array-end : (index of : TypeExpr) → leads types (Array index of) [] ≡ None
  unfolding leads computing
  leads-Array-end index of = refl

  pub leads-Array-field : (index of : TypeExpr) (word : Word) (parts : List Part) → leads types (Array index of) (FieldPart word ∷ parts) ≡ None
  unfolding leads computing
  leads-Array-field index of word parts = refl

  -- what stands behind a field, if there is one
  abbrev behind_field : Option Field → List Part → Option Whole
  behind_field o parts = option_and_then (λ field. leads types (out-Field field).of parts) o

  -- what stands behind the first field of a name
  abbrev leads_among : List Field → Word → List Part → Option Whole
  leads_among [] word parts = None
  leads_among (field ∷ fields) word parts = cond (has_name (out-Field field).names word.name) (leads types (out-Field field).of parts) (leads_among fields word parts)

  among-named : (fields : List Field) (word : Word) (parts : List Part) → leads_among fields word parts ≡ behind_field (field_named fields word.name) parts
  among-named [] word parts = refl
  among-named (field ∷ fields) word parts = by (has_name (out-Field field).names word.name) (among-named fields word parts)
    where
      by : (b : Bool) → leads_among fields word parts ≡ behind_field (field_named fields word.name) parts
          → cond b (leads types (out-Field field).of parts) (leads_among fields word parts) ≡ behind_field (cond b (Some field) (field_named fields word.name)) parts
      by true rest = refl
      by false rest = rest

  field-row : (n : _) (row : Row_of-Field n) (word : Word) (parts : List Part) → leads_field types row word parts ≡ leads_among (items-the_row-Field n row) word parts
  unfolding leads computing
  field-row n end_of-Field word parts = refl
  field-row n (more_of-Field names of at rest) word parts = ap (cond (has_name names word.name) (leads types of parts)) (field-row _ rest word parts)

  abbrev row_in : TypeExpr → (n : Count) × Row_of-Field n
  row_in (Struct' shape row) = (_, row)
  row_in _ = (_, end_of-Field)

  pub leads-Struct : (fields : List Field) (word : Word) (parts : List Part) → leads types (Struct fields) (FieldPart word ∷ parts) ≡ behind_field (field_named fields word.name) parts
  unfolding leads
  leads-Struct fields word parts =
      field-row (row_in (Struct fields)).0 (row_in (Struct fields)).1 word parts ∙ ap (λ l. leads_among l word parts) (items_hidden-the_row-Field-1 fields) ∙ among-named fields word parts

  pub leads-Struct-end : (fields : List Field) → leads types (Struct fields) [] ≡ None
  unfolding leads
  leads-Struct-end fields = refl

  pub leads-Struct-at : (fields : List Field) (e : Expr) (parts : List Part) → leads types (Struct fields) (At e ∷ parts) ≡ None
  unfolding leads
  leads-Struct-at fields e parts = refl

-- ---- forms

module _ (names : ScopeTables) (k : ℕ) where
  abbrev types : Types
  types = types_before names.text.now k

  abbrev pub LeadsTo : TypeExpr → Form → Type 0
  LeadsTo of f = (parts : List Part) → leads types of parts ≡ form_leads names f parts

  pub form-Boolean : (of : TypeExpr) → of ≡ Boolean → LeadsTo of (form.Single kind.Number)
  form-Boolean of is parts = ap (λ t. leads types t parts) is ∙ leads-Boolean types parts

  pub form-Range : (of : TypeExpr) (span : Span) (at : ℕ) → of ≡ Range span at → LeadsTo of (form.Single kind.Number)
  form-Range of span at is parts = ap (λ t. leads types t parts) is ∙ leads-Range types span at parts

  pub form-Enum : (of : TypeExpr) (words : List Word) (at : ℕ) (held : Bor (List Word)) → of ≡ Enum words at → held.now ≡ words → LeadsTo of (form.Single (kind.Enumeration held))
  form-Enum of words at held is same parts = ap (λ t. leads types t parts) is ∙ leads-Enum types words at parts ∙ ap (λ l. single (enumeration (names_of l)) parts) (sym same)

  pub form-Named : (forms : List Form) (of : TypeExpr) (word : Word) (at found : ℕ) (numbered : Option ℕ) (f : Form) → AreForms names forms → of ≡ Named word at
      → numbered ≡ type_before (types_in 0 names.text.now.tops) k word.name → numbered ≡ Some found → slice_get forms found ≡ Some f → LeadsTo of f
  form-Named forms of word at found numbered f known is same some got parts =
      ap (λ t. leads types t parts) is ∙ leads-Named types word at parts ∙ named-leads names.text.now k word.name parts
      ∙ ap (λ o. option_and_then (λ i. leads_at names.text.now i parts) o) (sym same ∙ some) ∙ known found f got parts

  pub form-none : (of : TypeExpr) (word : Word) (at : ℕ) (numbered : Option ℕ) → of ≡ Named word at → numbered ≡ type_before (types_in 0 names.text.now.tops) k word.name → numbered ≡ None → LeadsTo of form.Nothing
  form-none of word at numbered is same none parts =
      ap (λ t. leads types t parts) is ∙ leads-Named types word at parts ∙ named-leads names.text.now k word.name parts ∙ ap (λ o. option_and_then (λ i. leads_at names.text.now i parts) o) (sym same ∙ none)

  pub form-Array : (of index inner : TypeExpr) (held : Bor TypeExpr) (index_held : TypeExpr) (f : Form) (found : ValueKind) → of ≡ Array index inner → index_held ≡ index → held.now ≡ inner
      → LeadsTo index_held f → ((t : ScopeTables) → kind_of t found ≡ value_kind (form_leads t f [])) → LeadsTo of (form.Array found held k)
  form-Array of index inner held index_held f found is same_index same known kinds [] = ap (λ t. leads types t []) is ∙ leads-Array-end types index inner
  form-Array of index inner held index_held f found is same_index same known kinds (FieldPart word ∷ parts) = ap (λ t. leads types t (FieldPart word ∷ parts)) is ∙ leads-Array-field types index inner word parts
  form-Array of index inner held index_held f found is same_index same known kinds (At e ∷ parts) =
      ap (λ t. leads types t (At e ∷ parts)) is ∙ leads-Array types index inner e parts
      ∙ ap (λ kind. option_map (under kind) (leads types inner parts)) (ap (λ t. value_kind (leads types t [])) (sym same_index) ∙ ap value_kind (known []) ∙ sym (kinds names))
      ∙ ap (λ t. option_map (under (kind_of names found)) (leads types t parts)) (sym same)

  pub form-Struct : (of : TypeExpr) (fields : List Field) (held : Bor (List Field)) → of ≡ Struct fields → held.now ≡ fields → LeadsTo of (form.Struct held k)
  form-Struct of fields held is same [] = ap (λ t. leads types t []) is ∙ leads-Struct-end types fields
  form-Struct of fields held is same (At e ∷ parts) = ap (λ t. leads types t (At e ∷ parts)) is ∙ leads-Struct-at types fields e parts
  form-Struct of fields held is same (FieldPart word ∷ parts) =
      ap (λ t. leads types t (FieldPart word ∷ parts)) is ∙ leads-Struct types fields word parts ∙ ap (λ l. option_and_then (λ field. leads types (out-Field field).of parts) (field_named l word.name)) (sym same)
