use Rattle.std.proofs.Common.{◌≡◌, ◌<◌, ◌≤◌, length, min, ap, sym, ◌∙◌, arith}
use Rattle.std.specs.Prelude.{Some}
use Rattle.smv_expression_kinds.specs.Forms.{type_before, types_in}
use Rattle.smv_expression_kinds.proofs.PlaceLaws.{before-within}
use Rattle.smv_expression_kinds.proofs.FormLaws.{form-Boolean, form-Range, form-Enum, form-Named, form-none, form-Array, form-Struct}
use Rattle.smv_expression_kinds.proofs.tables.+form_of.Goals as goal

pub returns-in-Boolean : goal.returns-in-Boolean
returns-in-Boolean t c = form-Boolean c.args.names.now c.args.place c.args.of.now c.in-Boolean.is

pub returns-in-Range : goal.returns-in-Range
returns-in-Range t c = form-Range c.args.names.now c.args.place c.args.of.now c.in-Range.span c.in-Range.at c.in-Range.is

pub returns-in-Enum : goal.returns-in-Enum
returns-in-Enum t c = form-Enum c.args.names.now c.args.place c.args.of.now c.in-Enum.words c.in-Enum.at c.as_slice.result c.in-Enum.is c.as_slice.ensures

pub form_at-requires : goal.form_at-requires
form_at-requires t c =
    let tops = c.args.names.now.text.now.tops in
    let named : type_before (types_in 0 tops) c.args.place c.in-Named.name.name ≡ Some c.in-Some.found =
    ap (λ l. type_before l c.args.place c.in-Named.name.name) (sym c.requires.types) ∙ sym c.type_named.ensures ∙ c.in-Some.is in
    let within = before-within tops c.args.place c.in-Named.name.name c.in-Some.found named in
    let before : c.in-Some.found < c.args.place = within.0 in
    let inside : c.in-Some.found < length tops = within.1 in
    let enough : min c.args.place (length tops) ≤ length c.args.forms.now = c.requires.enough in
    omega arith

pub returns-in-None : goal.returns-in-None
returns-in-None t c =
    form-none c.args.names.now c.args.place c.args.of.now c.in-Named.name c.in-Named.at c.type_named.result c.in-Named.is
    (c.type_named.ensures ∙ ap (λ l. type_before l c.args.place c.in-Named.name.name) c.requires.types) c.in-None.is

pub returns-in-Some : goal.returns-in-Some
returns-in-Some t c =
    form-Named c.args.names.now c.args.place c.args.forms.now c.args.of.now c.in-Named.name c.in-Named.at c.in-Some.found c.type_named.result c.form_at.result c.requires.forms c.in-Named.is
    (c.type_named.ensures ∙ ap (λ l. type_before l c.args.place c.in-Named.name.name) c.requires.types) c.in-Some.is c.form_at.ensures

pub returns-in-Array : goal.returns-in-Array
returns-in-Array t c =
    form-Array c.args.names.now c.args.place c.args.of.now c.in-Array.index c.in-Array.of c.get-in-Array.result c.get.result.now c.form_of.result c.kind_of_form.result c.in-Array.is
    c.get.ensures c.get-in-Array.ensures c.form_of.ensures c.kind_of_form.ensures

pub returns-in-Struct : goal.returns-in-Struct
returns-in-Struct t c = form-Struct c.args.names.now c.args.place c.args.of.now c.in-Struct.fields c.as_slice-in-Struct.result c.in-Struct.is c.as_slice-in-Struct.ensures
