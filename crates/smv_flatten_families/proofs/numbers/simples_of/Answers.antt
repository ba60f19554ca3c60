use Rattle.std.proofs.Common.{◌≡◌, length, map, ap, sym, ◌∙◌, arith}
use Rattle.std.specs.List.{flat_map}
use Rattle.std.proofs.lemmas.List.{length-map}
use Rattle.law_lists.proofs.Lists.{map-flat_map}
use Rattle.smv_core.specs.Types.{names_of}
use Rattle.law_designs.specs.Flattening.{set_of}
use Rattle.smv_flatten_families.specs.Simples.{numbering}
use Rattle.smv_flatten_families.proofs.numbers.simples_of.Goals as goal

pub returns-clause-simples : goal.returns-clause-simples
unfolding numbering
returns-clause-simples c = record {
  sets = c.in_ok-sets.ensures ∙ ap (flat_map (λ top. map (λ info. info.name) (set_of top))) c.as_slice-tops.ensures ∙ sym (map-flat_map (λ info. info.name) set_of c.args.text.now.tops);
  set_count = c.count_sets.ensures ∙ ap (λ tops. length (flat_map set_of tops)) c.as_slice-tops.ensures;
  lists = c.requires.places;
  list_count =
      let long : c.len.result ≡ length c.args.lists.words.items = omega (arith, c.len.ensures, c.args.lists.words.ok.0) in
      long ∙ sym (length-map c.args.lists.words.items (λ words. names_of words.now)) ∙ ap length c.requires.words;
}
