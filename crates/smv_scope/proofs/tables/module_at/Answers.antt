use Rattle.smv_scope.proofs.PieceLaws.{module-some, module-not, piece-none}
use Rattle.smv_mentions.specs.Scopes.{body_if_module}
use Rattle.std.proofs.Common.{ap}
use Rattle.smv_scope.proofs.tables.module_at.Goals as goal

pub returns-in-Some-formals : goal.returns-in-Some-formals
returns-in-Some-formals c =
    module-some c.args.tables.now.text.now c.args.tables.now.pieces.now c.requires.noted c.args.place c.item_at.result c.item_at.ensures c.in-Some.piece c.in-Some-formals.formals c.in-Some.is c.in-Some-formals.is

pub returns-in-None-formals : goal.returns-in-None-formals
returns-in-None-formals c =
    module-not c.args.tables.now.text.now c.args.tables.now.pieces.now c.requires.noted c.args.place c.item_at.result c.item_at.ensures c.in-Some.piece c.in-Some.is c.in-None-formals.is

pub returns-in-None : goal.returns-in-None
returns-in-None c = ap body_if_module (piece-none c.args.tables.now.text.now c.args.tables.now.pieces.now c.requires.noted c.args.place c.item_at.result c.item_at.ensures c.in-None.is)
