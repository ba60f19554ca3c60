use Rattle.std.proofs.Common.{◌∙◌, ap, sym, map}
use Rattle.std.specs.List.{flat_map}
use Rattle.smv_scope.proofs.TableLaws.{own-all, lists-all}
use Rattle.smv_scope.specs.Numbered.{top_word}
use Rattle.smv_scope.specs.Held.{constant_beside, constants_of_list}
use Rattle.smv_scope.proofs.build.tables.Goals as goal

pub returns-clause-tables : goal.returns-clause-tables
returns-clause-tables c = record {
  noted = c.requires;
  names = c.in_ok-names.ensures ∙ ap (map (λ top. (top_word top).name)) c.as_slice.ensures;
  led = c.in_ok-structs.ensures.led;
  all_led = c.in_ok-structs.ensures.all;
  own = c.in_ok-own.ensures ∙ own-all c.args.text.now c.args.pieces.now c.requires;
  constants =
      ap (λ l. map (constant_beside l) c.in_ok-constants.constants) (sym c.as_slice-2.ensures.value) ∙ c.in_ok-constants.ensures
      ∙ ap (flat_map (λ words. constants_of_list words.now)) c.as_slice-2.ensures.value ∙ lists-all c.args.text.now c.args.pieces.now c.requires c.in_ok-lists.lists.items c.in_ok-lists.ensures;
}
