use Rattle.std.proofs.Common.{◌++◌, map, None, ap}
use Rattle.smv_design.specs.Acts.{head_of, statement_of}
use Rattle.smv_design.specs.Definitions.{def_among}
use Rattle.smv_design.proofs.DefinitionLaws.{all-said, next-defined}
use Rattle.smv_design.proofs.definitions.definitions.Goals as goal

pub loop-head-init : goal.loop-head-init
loop-head-init c = (
  ap (λ defs. defs ++ map (def_among (map statement_of c.args.acts.now)) (map head_of c.args.heads.now)) c.new-defs.ensures.items,
  all-said c.in_ok-said.said c.args.acts.now c.args.heads.now c.in_ok-said.ensures,
  c.requires.apart,
)

pub loop-head-preserved : goal.loop-head-preserved
loop-head-preserved c =
    next-defined (map statement_of c.args.acts.now) c.loop-head.said c.definition.new.said c.loop-head.defs.items c.push.new.self.items c.args.heads.now c.loop-head.head-index (record { layer = None; family = 0; place = 0; at = 0 }) c.definition.result _ c.loop-head-test.true
    c.in_ok-push.ensures.items c.definition.ensures.def c.definition.ensures.others c.loop-head.invariant
