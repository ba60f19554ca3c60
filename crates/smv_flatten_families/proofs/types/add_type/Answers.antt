use Rattle.std.proofs.Common.{◌≡◌, ◌<◌, length, refl, ap, sym, ◌∙◌, arith}
use Rattle.std.specs.Prelude.{Some, slice_get}
use Rattle.std.proofs.lemmas.Option.{slice_get_read}
use Rattle.smv_flatten_families.specs.Types.{typed}
use Rattle.smv_flatten_families.proofs.TopLaws.{no-type, type-long, type-names, type-forms}
use Rattle.smv_flatten_families.proofs.types.add_type.Goals as goal

pub returns-in_ok-push-in-Some-2-clause-types : goal.returns-in_ok-push-in-Some-2-clause-types
returns-in_ok-push-in-Some-2-clause-types c =
    let types = c.args.types.now in
    let text = types.simples.text.now in
    let top = c.index-as_slice-place.result in
    let size : length c.as_slice.result.now ≡ length text.tops = ap length c.as_slice.ensures in
    let within : c.args.place < length c.as_slice.result.now = omega (arith, c.requires.within, size) in
    let got : slice_get text.tops c.args.place ≡ Some top =
    ap (λ l. slice_get l c.args.place) (sym c.as_slice.ensures) ∙ slice_get_read c.as_slice.result.now (length c.as_slice.result.now) c.args.place top refl within c.index-as_slice-place.is in
    let same = ap (typed text) (sym c.in-Some.is) ∙ c.in_ok-found.ensures in
    record {
      simples = c.requires.types.simples;
      names = type-names text c.args.place top got types.names types.forms.items c.requires.here c.in-Some.found c.push-in-Some.new.self.items same c.in_ok-push-in-Some-2.ensures.items c.push.new.self c.in_ok-push-in-Some.ensures.ok c.requires.types.names;
      forms = type-forms text c.args.place top got types.names types.forms.items c.requires.here c.in-Some.found c.push-in-Some.new.self.items same c.in_ok-push-in-Some-2.ensures.items c.requires.types.forms;
    }

pub returns-in_ok-push-in-Some-2-clause-here : goal.returns-in_ok-push-in-Some-2-clause-here
returns-in_ok-push-in-Some-2-clause-here c =
    let types = c.args.types.now in
    let text = types.simples.text.now in
    let top = c.index-as_slice-place.result in
    let size : length c.as_slice.result.now ≡ length text.tops = ap length c.as_slice.ensures in
    let within : c.args.place < length c.as_slice.result.now = omega (arith, c.requires.within, size) in
    let got : slice_get text.tops c.args.place ≡ Some top =
    ap (λ l. slice_get l c.args.place) (sym c.as_slice.ensures) ∙ slice_get_read c.as_slice.result.now (length c.as_slice.result.now) c.args.place top refl within c.index-as_slice-place.is in
    let same = ap (typed text) (sym c.in-Some.is) ∙ c.in_ok-found.ensures in
    type-long text c.args.place top got types.names types.forms.items c.requires.here c.in-Some.found c.push-in-Some.new.self.items same c.in_ok-push-in-Some-2.ensures.items

pub returns-in-None-clause-here : goal.returns-in-None-clause-here
returns-in-None-clause-here c =
    let types = c.args.types.now in
    let text = types.simples.text.now in
    let top = c.index-as_slice-place.result in
    let size : length c.as_slice.result.now ≡ length text.tops = ap length c.as_slice.ensures in
    let within : c.args.place < length c.as_slice.result.now = omega (arith, c.requires.within, size) in
    let got : slice_get text.tops c.args.place ≡ Some top =
    ap (λ l. slice_get l c.args.place) (sym c.as_slice.ensures) ∙ slice_get_read c.as_slice.result.now (length c.as_slice.result.now) c.args.place top refl within c.index-as_slice-place.is in
    no-type text c.args.place top got types.names types.forms.items c.requires.here (ap (typed text) (sym c.in-None.is) ∙ c.in_ok-found.ensures)
