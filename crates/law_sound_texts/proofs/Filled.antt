-- The types of a flattened text that keeps the rules of kinds have values.
use Rattle.std.proofs.Common.{◌≡◌, ◌<◌, List, [], ◌∷◌, length, get_or, Bool, true, ◌&&◌, nat_le, nat_lt, arith}
use Rattle.std.specs.List.{list_all}
use Rattle.std.proofs.lemmas.Bool.{and_parts}
use Rattle.law_lists.proofs.Places.{get_there}
use Rattle.law_lists.proofs.Numbers.{nat_le-is, nat_lt-is}
use Rattle.smv_core.specs.Values.{Name}
use Rattle.smv_core.specs.declared.flat.Simple.{Simple}
use Rattle.smv_core.specs.declared.flat.Simple.TheVariants.{Range, Enum, Set}
use Rattle.smv_core.specs.declared.flat.SetInfo.{SetInfo}
use Rattle.smv_core.specs.declared.flat.FlatText.{FlatText}
use Rattle.law_designs.specs.Definitions.{design_of_flat_text}
use Rattle.law_designs.specs.FlatKinds.{is_type, is_index_type, is_size, is_kinded_item, is_kinded_family, is_kinded}
use Rattle.law_obligations.specs.Sets.{Has, first, later}
use Rattle.law_obligations.specs.Checked.{IsFilled}
use Rattle.law_sound_texts.specs.Extension.{AreFilled}

some-has : {X : Type 0} (xs : List X) → 0 < length xs → (x : X) × Has xs x
some-has [] h = absurd (omega (arith, h))
some-has (x ∷ xs) h = (x, first)

pub each-holds : {X : Type 0} (p : X → Bool) (xs : List X) → list_all p xs ≡ true → (x : X) → Has xs x → p x ≡ true
each-holds p [] h x i = elim i [ ]
each-holds p (y ∷ xs) h _ first = (and_parts (p y) (list_all p xs) h).0
each-holds p (y ∷ xs) h x (later i) = each-holds p xs (and_parts (p y) (list_all p xs) h).1 x i

module _ (flat_text : FlatText) where
  type-filled : (t : Simple) → is_type flat_text t ≡ true → IsFilled (design_of_flat_text flat_text) t
  type-filled (Range low high) h = nat_le-is low high (and_parts (nat_le low high) (nat_le high 255) h).0
  type-filled (Enum list) h = some-has (get_or flat_text.enums list []) (nat_lt-is 0 (length (get_or flat_text.enums list [])) h)
  type-filled (Set set) h = get_there flat_text.sets set (nat_lt-is set (length flat_text.sets) h)

  -- the two parts of the rules that the laws rest on
  pub kept : is_kinded flat_text ≡ true → (list_all (is_kinded_family flat_text) flat_text.families ≡ true) × (list_all (is_kinded_item flat_text) flat_text.items ≡ true)
  kept e =
      and_parts (list_all (is_kinded_family flat_text) flat_text.families) (list_all (is_kinded_item flat_text) flat_text.items)
      (and_parts (list_all (λ (names : List Name). nat_lt 0 (length names)) flat_text.enums) (list_all (is_kinded_family flat_text) flat_text.families && list_all (is_kinded_item flat_text) flat_text.items)
      (and_parts (list_all (λ (info : SetInfo). is_size info.size) flat_text.sets) (list_all (λ (names : List Name). nat_lt 0 (length names)) flat_text.enums && (list_all (is_kinded_family flat_text) flat_text.families && list_all (is_kinded_item flat_text) flat_text.items)) e).1).1

  pub families-filled : is_kinded flat_text ≡ true → AreFilled (design_of_flat_text flat_text)
  families-filled e f i = type-filled f.value (and_parts (list_all (is_index_type flat_text) f.over) (is_type flat_text f.value) (each-holds (is_kinded_family flat_text) flat_text.families (kept e).0 f i)).1
