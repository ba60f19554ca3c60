use Rattle.std.proofs.Common.{◌≡◌, ap, sym, ◌∙◌, subst}
use Rattle.std.specs.Prelude.{Option, Some, option_map}
use Rattle.smv_core.specs.declared.tree.Expr.{Expr}
use Rattle.smv_mentions.specs.Scopes.{Own}
use Rattle.smv_mentions.specs.Said.{said_of}
use Rattle.smv_mentions.specs.declared.mentions.What.{What as NotedWhat}
use Rattle.smv_scope.specs.Held.{own_of}
use Rattle.law_designs.specs.References.{Scope}
use Rattle.law_designs.specs.KindFaults.{connected}
use Rattle.smv_expression_kinds.specs.Found.{scope_of}
use Rattle.smv_kinds.specs.Found.{argument_faults}
use Rattle.smv_expression_kinds.proofs.ScopeLaws.{own-here}
use Rattle.smv_expression_kinds.proofs.OwnedLaws.{formal-owned}
use Rattle.smv_kinds.proofs.formals.formal_named.Goals as goal

pub formal_of-requires-clause-owned : goal.formal_of-requires-clause-owned
formal_of-requires-clause-owned c =
    formal-owned c.args.scope.now c.args.name.now c.in-Signal.role c.in-Signal.of.now (own_of c.in-Some.own) c.requires.owned
    (own-here c.args.scope.now c.args.name.now c.own_in.result c.own_in.ensures ∙ ap (option_map own_of) c.in-Some.is) (ap said_of c.in-Signal.is)

pub returns-in-None : goal.returns-in-None
returns-in-None c from e =
    ap (λ (own : Option Own). connected from (scope_of c.args.scope.now).here.types own e)
    (own-here c.args.scope.now c.args.name.now c.own_in.result c.own_in.ensures ∙ ap (option_map own_of) c.in-None.is)

pub returns-in-Signal : goal.returns-in-Signal
returns-in-Signal c =
    let types = (scope_of c.args.scope.now).here.types in
    let own = c.in-Some.own in
    subst (λ (o : Option Own). (from : Scope) (e : Expr) → connected from types o e ≡ argument_faults c.args.scope.now.tables.now.names from c.formal_of.result e)
    (sym (own-here c.args.scope.now c.args.name.now c.own_in.result c.own_in.ensures ∙ ap (option_map own_of) c.in-Some.is
    ∙ ap (λ (what : NotedWhat). Some (record { at = own.at; what = said_of what })) c.in-Signal.is))
    c.formal_of.ensures

pub returns-in-Instance : goal.returns-in-Instance
returns-in-Instance c from e =
    let own = c.in-Some.own in
    ap (λ (own : Option Own). connected from (scope_of c.args.scope.now).here.types own e)
    (own-here c.args.scope.now c.args.name.now c.own_in.result c.own_in.ensures ∙ ap (option_map own_of) c.in-Some.is
    ∙ ap (λ (what : NotedWhat). Some (record { at = own.at; what = said_of what })) c.in-Instance.is)

pub returns-in-Goal : goal.returns-in-Goal
returns-in-Goal c from e =
    let own = c.in-Some.own in
    ap (λ (own : Option Own). connected from (scope_of c.args.scope.now).here.types own e)
    (own-here c.args.scope.now c.args.name.now c.own_in.result c.own_in.ensures ∙ ap (option_map own_of) c.in-Some.is
    ∙ ap (λ (what : NotedWhat). Some (record { at = own.at; what = said_of what })) c.in-Goal.is)
