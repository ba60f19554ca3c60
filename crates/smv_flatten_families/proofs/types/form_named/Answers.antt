use Rattle.std.proofs.Common.{◌≡◌, [], true, false, cond, ap, sym, ◌∙◌, arith}
use Rattle.std.specs.Prelude.{None, nat_lt, slice_get}
use Rattle.std.specs.Option.{option_map_or}
use Rattle.std.proofs.lemmas.Bool.Decides.{nat_tests}
use Rattle.smv_flatten_families.specs.Types.{form_leaves}
use Rattle.smv_flatten_families.proofs.TopLaws.{named-found, found_leaves}
use Rattle.smv_flatten_families.proofs.types.form_named.Goals as goal

pub returns-then-found-place : goal.returns-then-found-place
returns-then-found-place c =
    let types = c.args.types.now in
    let text = types.simples.text.now in
    let before : nat_lt c.in-Some.found c.args.place ≡ true = grind (arith, nat_tests) in
    named-found types c.args.place c.args.name.now c.find.result c.requires.types c.requires.enough c.find.ensures ∙ ap (found_leaves text types.forms.items c.args.place) c.in-Some.is
    ∙ ap (λ b. option_map_or (form_leaves text) (cond b (slice_get types.forms.items c.in-Some.found) None) []) before
    ∙ ap (λ o. option_map_or (form_leaves text) o []) (sym (c.form_at.ensures ∙ ap (λ l. slice_get l c.in-Some.found) c.as_slice.ensures.value))

pub returns-else-found-place : goal.returns-else-found-place
returns-else-found-place c =
    let types = c.args.types.now in
    let text = types.simples.text.now in
    let not_before : nat_lt c.in-Some.found c.args.place ≡ false = grind (arith, nat_tests) in
    named-found types c.args.place c.args.name.now c.find.result c.requires.types c.requires.enough c.find.ensures ∙ ap (found_leaves text types.forms.items c.args.place) c.in-Some.is
    ∙ ap (λ b. option_map_or (form_leaves text) (cond b (slice_get types.forms.items c.in-Some.found) None) []) not_before

pub returns-in-None : goal.returns-in-None
returns-in-None c =
    let types = c.args.types.now in
    named-found types c.args.place c.args.name.now c.find.result c.requires.types c.requires.enough c.find.ensures ∙ ap (found_leaves types.simples.text.now types.forms.items c.args.place) c.in-None.is
