use Rattle.std.proofs.Common.{◌≡◌, ◌<◌, List, length, refl, sym, subst, ap, ◌∙◌, arith}
use Rattle.std.specs.Prelude.{Some, option_map, slice_get}
use Rattle.std.proofs.lemmas.Option.{slice_get-map, slice_get_read}
use Rattle.smv_core.specs.FlatOrder.{Body}
use Rattle.smv_size.specs.Summary.{module_bodies, body_of, AreToldOf}
use Rattle.smv_size.specs.declared.modules.ModuleSize.{ModuleSize}
use Rattle.smv_size.proofs.PassLaws.{pass-next, pass-stays}
use Rattle.smv_size.proofs.pass.renew.Goals as goal

pub returns-in-Some : goal.returns-in-Some
returns-in-Some c known bodies n e named all most =
    let names = c.args.names.now in
    let sizes = c.args.sizes.now.items in
    let place = c.args.place in
    let body = body_of c.in-Some.text.now in
    let texts = c.args.modules.now in
    let look = c.in-Some.ensures.lookup in
    let at : slice_get (module_bodies bodies) place ≡ Some body =
    ap (λ (l : List Body). slice_get l place) (sym all) ∙ slice_get-map body_of texts place ∙ ap (option_map body_of) (slice_get_read texts (length texts) place c.in-Some.text.now refl look.3.0 look.1) in
    let within : place < length sizes = omega (arith, c.if-place-len.true, c.len.ensures, c.args.sizes.now.ok.0) in
    let seen = subst (λ (l : List ModuleSize). AreToldOf known bodies most.things most.statements names l) (sym c.as_slice.ensures.value) most.told in
    pass-next known bodies names named sizes n place body at within most c.body_size-size.result (c.body_size-size.ensures known bodies most.things most.statements e seen)

pub returns-else-place-len : goal.returns-else-place-len
returns-else-place-len c known bodies n e named all most = pass-stays known bodies c.args.names.now c.args.sizes.now.items n most
