-- The numbers of the flattened text of a text within the limits.
use Rattle.std.proofs.Common.{◌≡◌, ◌≤◌, ℕ, List, [], ◌∷◌, length, None, true, ◌&&◌, nat_lt, arith}
use Rattle.std.specs.List.{AllByRecursion, list_all}
use Rattle.std.proofs.lemmas.Bool.{and_parts}
use Rattle.smv_core.specs.Notation.{Tokens}
use Rattle.smv_core.specs.Spelling.{Spells}
use Rattle.smv_core.specs.Values.{Name}
use Rattle.smv_core.specs.declared.tree.Text.{Text}
use Rattle.smv_core.specs.declared.flat.SetInfo.{SetInfo}
use Rattle.smv_core.specs.declared.flat.FlatText.{FlatText}
use Rattle.smv_mentions.specs.FirstFault.{first_fault}
use Rattle.law_designs.specs.Entries.{entries}
use Rattle.law_designs.specs.Flattening.{flatten}
use Rattle.law_designs.specs.FlatKinds.{is_size, is_kinded_item, is_kinded_family, is_kinded}
use Rattle.law_sound_texts.specs.NumbersFit.{PlaceFits, NumbersFit}
use Rattle.law_sound_texts.proofs.ShallowRules.{spelled-shallow}
use Rattle.law_sound_texts.proofs.Items.{items-shallow}
use Rattle.law_sound_texts.proofs.Fitting.{HasRoom, flat_text-fits}
use Rattle.law_sound_texts.proofs.FewEntries.{layers-fit}
use Rattle.law_sound_texts.proofs.FewConstants.{enumerations-few}

-- each enumeration of a text that keeps the rules has a constant
some-listed : (flat_text : FlatText) → is_kinded flat_text ≡ true → list_all (λ (names : List Name). nat_lt 0 (length names)) flat_text.enums ≡ true
some-listed flat_text e =
    (and_parts (list_all (λ (names : List Name). nat_lt 0 (length names)) flat_text.enums) (list_all (is_kinded_family flat_text) flat_text.families && list_all (is_kinded_item flat_text) flat_text.items)
    (and_parts (list_all (λ (info : SetInfo). is_size info.size) flat_text.sets) (list_all (λ (names : List Name). nat_lt 0 (length names)) flat_text.enums && (list_all (is_kinded_family flat_text) flat_text.families && list_all (is_kinded_item flat_text) flat_text.items)) e).1).0

each-more : (lists : List (List Name)) → AllByRecursion (λ (names : List Name). length names ≤ 4096) lists → AllByRecursion (λ (names : List Name). length names ≤ 65536) lists
each-more [] h = tt
each-more (names ∷ lists) h = (let a = h.0 in omega (arith, a), each-more lists h.1)

pub text-fits : (n : ℕ) (tokens : Tokens) (text : Text) → Spells n tokens text → n ≤ 65536 → first_fault text ≡ None → length (flatten text).sets ≤ 65536 → is_kinded (flatten text) ≡ true →
    length (flatten text).families ≤ 4096 → AllByRecursion (λ (names : List Name). length names ≤ 4096) (flatten text).enums → length (entries text) ≤ 65536 → AllByRecursion PlaceFits (flatten text).items → NumbersFit (flatten text)
text-fits n tokens text spelled le none sets kinds families constants few places =
    let flat_text = flatten text in
    let room : HasRoom flat_text = record {
      sets = sets;
      enums = let a = enumerations-few text none (some-listed flat_text kinds) in omega (arith, a);
      constants = each-more flat_text.enums constants;
      families = omega (arith, families);
    } in
    flat_text-fits flat_text room kinds (layers-fit text few) (items-shallow text (spelled-shallow n tokens text spelled le)) places
