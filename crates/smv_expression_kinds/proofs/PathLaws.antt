-- What the parts of a path lead to.
use Rattle.std.proofs.Common.{◌≡◌, ℕ, zero, suc, ◌-◌, List, [], ◌∷◌, ◌++◌, length, take, refl, ap, sym, ◌∙◌, arith, Bor}
use Rattle.std.specs.Prelude.{Option, Some, None, option_map, option_and_then}
use Rattle.std.proofs.lemmas.List.{append-nil, append_assoc}
use Rattle.smv_core.specs.declared.tree.Word.{Word}
use Rattle.smv_core.specs.declared.tree.Expr.{Expr}
use Rattle.smv_scope.specs.declared.tables.Tables.{Tables as ScopeTables}
use Rattle.smv_core.specs.declared.tree.Part.{Part, Field as FieldPart, At}
use Rattle.smv_core.specs.declared.tree.Field.{Field, out-Field}
use Rattle.smv_core.specs.declared.tree.TypeExpr.{TypeExpr}
use Rattle.smv_scope.specs.Numbered.{field_named}
use Rattle.law_designs.specs.Kinds.{Kind}
use Rattle.law_designs.specs.Types.{Whole, under, leads}
use Rattle.smv_expression_kinds.specs.declared.kinds.ValueKind.{ValueKind}
use Rattle.smv_expression_kinds.specs.declared.tables.Form.{Form}
use Rattle.smv_expression_kinds.specs.declared.tables.Form.TheVariants as form
use Rattle.smv_expression_kinds.specs.Forms.{kind_of, types_before, form_leads}
use Rattle.smv_expression_kinds.specs.Found.{whole_in, behind_over}
use Rattle.smv_expression_kinds.proofs.FormLaws.{LeadsTo}

-- what a form leads to over these index kinds
abbrev pub over_leads : ScopeTables → List Kind → Form → List Part → Option Whole
over_leads names over f parts = option_map (behind_over over) (form_leads names f parts)

pub alone-is : (names : ScopeTables) (over : List Kind) (f : Form) (kind : ValueKind) (w : Whole) → f ≡ form.Single kind → w ≡ whole_in over (kind_of names kind) → Some w ≡ over_leads names over f []
alone-is names over f kind w is same = ap Some (same ∙ ap (λ l. whole_in l (kind_of names kind)) (sym (append-nil over))) ∙ ap (λ g. over_leads names over g []) (sym is)

under-over : (over : List Kind) (kind : Kind) (o : Option Whole) → option_map (behind_over over) (option_map (under kind) o) ≡ option_map (behind_over (over ++ kind ∷ [])) o
under-over over kind None = refl
under-over over kind (Some w) = ap (λ l. Some (whole_in l w.value)) (sym (append_assoc over (kind ∷ []) w.over))

pub index-leads : (names : ScopeTables) (over over' : List Kind) (f g : Form) (index : ValueKind) (of : Bor TypeExpr) (place : ℕ) → f ≡ form.Array index of place → over' ≡ over ++ kind_of names index ∷ []
    → LeadsTo names place of.now g → (e : Expr) (parts : List Part) → over_leads names over f (At e ∷ parts) ≡ over_leads names over' g parts
index-leads names over over' f g index of place is more known e parts =
    ap (λ h. over_leads names over h (At e ∷ parts)) is ∙ under-over over (kind_of names index) (leads (types_before names.text.now place) of.now parts)
    ∙ ap (option_map (behind_over (over ++ kind_of names index ∷ []))) (known parts) ∙ ap (λ l. option_map (behind_over l) (form_leads names g parts)) (sym more)

pub field-leads : (names : ScopeTables) (over : List Kind) (f g : Form) (fields : Bor (List Field)) (place : ℕ) (word : Word) (found : Option (Bor Field)) (field : Bor Field) (of : TypeExpr) → f ≡ form.Struct fields place
    → option_map (λ (field : Bor Field). field.now) found ≡ field_named fields.now word.name → found ≡ Some field → of ≡ (out-Field field.now).of → LeadsTo names place of g
    → (parts : List Part) → over_leads names over f (FieldPart word ∷ parts) ≡ over_leads names over g parts
field-leads names over f g fields place word found field of is named some same known parts =
    ap (λ h. over_leads names over h (FieldPart word ∷ parts)) is
    ∙ ap (λ o. option_map (behind_over over) (option_and_then (λ field. leads (types_before names.text.now place) (out-Field field).of parts) o)) (sym named ∙ ap (option_map (λ (field : Bor Field). field.now)) some)
    ∙ ap (λ t. option_map (behind_over over) (leads (types_before names.text.now place) t parts)) (sym same) ∙ ap (option_map (behind_over over)) (known parts)

pub field-none : (names : ScopeTables) (over : List Kind) (f : Form) (fields : Bor (List Field)) (place : ℕ) (word : Word) (found : Option (Bor Field)) → f ≡ form.Struct fields place
    → option_map (λ (field : Bor Field). field.now) found ≡ field_named fields.now word.name → found ≡ None → (parts : List Part) → over_leads names over f (FieldPart word ∷ parts) ≡ None
field-none names over f fields place word found is named none parts =
    ap (λ h. over_leads names over h (FieldPart word ∷ parts)) is
    ∙ ap (λ o. option_map (behind_over over) (option_and_then (λ field. leads (types_before names.text.now place) (out-Field field).of parts) o)) (sym named ∙ ap (option_map (λ (field : Bor Field). field.now)) none)

-- ---- parts, one after the other

take-length : {A : Type 0} (xs : List A) (n : ℕ) → n ≡ length xs → take n xs ≡ xs
take-length [] zero e = refl
take-length [] (suc n) e = refl
take-length (x ∷ xs) zero e = absurd (omega arith)
take-length (x ∷ xs) (suc n) e = ap (λ l. x ∷ l) (take-length xs n (omega arith))
