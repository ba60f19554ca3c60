use Rattle.std.proofs.Common.{◌≡◌, [], List, map, length, ap, sym, subst, ◌∙◌}
use Rattle.std.specs.Prelude.{min, nat_lt}
use Rattle.std.proofs.lemmas.List.{take_all}
use Rattle.smv_core.specs.Values.{Name}
use Rattle.smv_mentions.specs.Said.{said, told}
use Rattle.smv_mentions.specs.Sizes.{count_different, constant_names}
use Rattle.smv_size.specs.Constants.{Counts, constants_said, constants_told}
use Rattle.smv_size.proofs.ConstantLaws.{counts-piece, counts-none, counts-all, told-names, limit-same}
use Rattle.smv_size.proofs.constants.too_many_constants.Goals as goal

pub loop-piece-init : goal.loop-piece-init
loop-piece-init c = record {
  total = ap (λ (l : List Name). min 4097 (length l)) (sym c.new-names.ensures);
  names = subst (λ (l : List Name). Counts [] [] l) (sym c.new-names.ensures) (counts-none []);
}

pub loop-piece-preserved : goal.loop-piece-preserved
loop-piece-preserved c = record {
  total = c.in_ok-in_mentions.ensures.total;
  names = counts-piece c.args.pieces.now c.loop-piece.piece-index c.piece-item.result [] c.loop-piece.names c.in_mentions.new.names c.loop-piece-test.true c.piece-item.is c.loop-piece.invariant.names
      (subst (λ l. Counts (constants_said (map said l)) c.loop-piece.names c.in_mentions.new.names) c.as_slice.ensures.value c.in_ok-in_mentions.ensures.names);
}

pub returns : goal.returns
returns c =
    let tops = map told c.args.pieces.now in
    let counted : Counts (constants_told tops) [] c.loop-piece.names = subst (λ l. Counts (constants_told (map told l)) [] c.loop-piece.names) (take_all c.loop-piece.piece-index c.args.pieces.now c.loop-piece-test.false) c.loop-piece.invariant.names in
    let different : length c.loop-piece.names ≡ count_different [] (constant_names c.args.text.now) = sym (counts-all (constants_told tops) c.loop-piece.names counted) ∙ ap (count_different []) (told-names tops c.args.text.now c.requires) in
    limit-same c.loop-piece.total (length c.loop-piece.names) c.loop-piece.invariant.total ∙ ap (nat_lt 4096) different
