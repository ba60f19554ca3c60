use Rattle.std.proofs.Common.{◌≡◌, IfOk, drop, ap, sym, ◌∙◌, subst}
use Rattle.std.specs.Prelude.{Option, option_map, option_and_then}
use Rattle.law_lists.proofs.Places.{take_rest}
use Rattle.smv_scope.specs.declared.tables.Own.{Own as HeldOwn}
use Rattle.law_designs.specs.Types.{Whole}
use Rattle.smv_expression_kinds.specs.Found.{whole_of, inner_leads}
use Rattle.smv_expression_kinds.proofs.ScopeLaws.{signal-is}
use Rattle.smv_expression_kinds.proofs.lookups.found_signal.Goals as goal

pub returns-in-None : goal.returns-in-None
returns-in-None c =
    let scope = c.args.scope.now in
    sym (signal-is scope c.args.parts.now c.part-item.result c.in-Field.name c.own_in.result c.in-len1-up.len_at_least c.part-item.is c.in-Field.is c.own_in.ensures
    ∙ ap (option_and_then (λ (own : HeldOwn). inner_leads scope.tables.now.names.text.now (record { place = scope.place; own = own }) (drop 1 c.args.parts.now))) c.in-None.is)

pub returns-in-Some : goal.returns-in-Some
returns-in-Some c =
    let scope = c.args.scope.now in
    let text = scope.tables.now.names.text.now in
    subst (λ (w : Option Whole). IfOk c.behind.result (λ whole. option_map (whole_of scope.tables.now.names) whole ≡ w))
    (ap (inner_leads text (record { place = scope.place; own = c.in-Some.own })) (take_rest c.args.parts.now)
    ∙ sym (signal-is scope c.args.parts.now c.part-item.result c.in-Field.name c.own_in.result c.in-len1-up.len_at_least c.part-item.is c.in-Field.is c.own_in.ensures
    ∙ ap (option_and_then (λ (own : HeldOwn). inner_leads text (record { place = scope.place; own = own }) (drop 1 c.args.parts.now))) c.in-Some.is))
    c.behind.ensures
