use Rattle.std.proofs.Common.{ap, sym, ◌∙◌, take}
use Rattle.std.specs.List.{flat_map}
use Rattle.smv_mentions.specs.Sizes.{under, extents_of}
use Rattle.smv_mentions.specs.Sizes as sizes
use Rattle.std.specs.Prelude.{map}
use Rattle.smv_size.specs.Summary.{families_told}
use Rattle.smv_size.proofs.ExtentLaws.{extents-Array, extents-Struct, extents_of_field, flat_map-turn}
use Rattle.smv_size.proofs.types.+families.Goals as goal

pub families_of-returns-in-Array : goal.families_of-returns-in-Array
families_of-returns-in-Array t c known e =
    let inner = c.families_of.ensures known e ∙ ap (λ x. families_told (extents_of known x)) c.get-in-Array.ensures in
    let size = c.size_of.ensures known e ∙ ap (sizes.size_of known) c.get.ensures in
    c.under.ensures (extents_of known c.in-Array.of) inner
    ∙ ap (λ s. families_told (map (under s) (extents_of known c.in-Array.of))) size
    ∙ ap families_told (sym (extents-Array known c.in-Array.index c.in-Array.of))
    ∙ ap (λ x. families_told (extents_of known x)) (sym c.in-Array.is)

pub families_of-returns-in-Struct : goal.families_of-returns-in-Struct
families_of-returns-in-Struct t c known e =
    c.families_of_fields.ensures known e
    ∙ ap (λ l. families_told (flat_map (extents_of_field known) l)) c.as_slice.ensures
    ∙ ap families_told (sym (extents-Struct known c.in-Struct.fields))
    ∙ ap (λ x. families_told (extents_of known x)) (sym c.in-Struct.is)

pub families_of_fields-loop-field-preserved : goal.families_of_fields-loop-field-preserved
families_of_fields-loop-field-preserved t c known e =
    let item = c.field-item.result in
    let fields = c.args.fields.now in
    let i = c.loop-field.field-index in
    c.both-all.ensures (flat_map (extents_of_field known) (take i fields)) (extents_of_field known item) (c.loop-field.invariant known e) (c.repeated.ensures item.names (extents_of known item.of) c.len.ensures (c.families_of.ensures known e))
    ∙ ap families_told (flat_map-turn (extents_of_field known) fields i item c.loop-field-test.true c.field-item.is)
