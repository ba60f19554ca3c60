use Rattle.std.proofs.Common.{◌∙◌, arith}
use Rattle.smv_phrases.specs.Defined.{Stands}
use Rattle.smv_phrases.proofs.TypeLaws.{each-more, arrays-more}
use Rattle.smv_phrases.proofs.monitors.arrays.Goals as goal

pub loop-binder-preserved : goal.loop-binder-preserved
loop-binder-preserved c = record {
  stand = each-more (Stands c.args.text.now) c.loop-binder.binder-index c.args.binders.now c.loop-binder.invariant.stand;
  told = arrays-more c.args.text.now c.loop-binder.out.items c.known.new.out.items c.type_tokens.new.out.items c.known-in-loop-binder.new.out.items c.args.binders.now c.loop-binder.binder-index c.binder-item.result (omega arith) c.binder-item.is
      c.in_ok-known.ensures c.in_ok-type_tokens.ensures c.in_ok-known-2.ensures ∙ c.loop-binder.invariant.told;
}
