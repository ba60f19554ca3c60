use Rattle.std.proofs.Common.{◌++◌, ap, sym, ◌∙◌}
use Rattle.std.specs.List.{flat_map}
use Rattle.std.proofs.lemmas.List.{append-nil}
use Rattle.law_designs.specs.KindFaults.{formal_faults}
use Rattle.smv_expression_kinds.specs.Found.{scope_of}
use Rattle.smv_kinds.proofs.ItemLaws.{plain-formals, abstract-formals}
use Rattle.smv_kinds.proofs.items.declared.Goals as goal

pub returns-in-Plain : goal.returns-in-Plain
returns-in-Plain c =
    sym (ap (λ l. c.args.out.now.items ++ l) (ap (λ r. flat_map (formal_faults (scope_of c.args.scope.now).here.types r c.args.of.now) c.args.words.now) c.in-Plain.is
    ∙ plain-formals (scope_of c.args.scope.now).here.types c.args.of.now c.args.words.now) ∙ append-nil c.args.out.now.items)

pub returns-in-Abstract : goal.returns-in-Abstract
returns-in-Abstract c =
    sym (ap (λ l. c.args.out.now.items ++ l) (ap (λ r. flat_map (formal_faults (scope_of c.args.scope.now).here.types r c.args.of.now) c.args.words.now) c.in-Abstract.is
    ∙ abstract-formals (scope_of c.args.scope.now).here.types c.args.of.now c.args.words.now) ∙ append-nil c.args.out.now.items)
