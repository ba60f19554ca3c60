-- Choices: what the proof of each leaf uses, by the `using` that names the leaf after `prove`.
use Rattle.std.specs.Prelude.{ℕ, List, [], map, flat_map, filter, zip, find, length, slice_get, option_to_list, option_and_then, Option, Some, None, Bool, false, not, ◌&&◌, nat_eq}
use Rattle.std.specs.Str.{bytes_eq}
use Rattle.std.specs.List.{list_any}
use Rattle.smv_core.specs.Values.{numbers_from}
use Rattle.smv_core.specs.declared.tree.Word.{Word}
use Rattle.smv_core.specs.declared.tree.Ref.{Ref}
use Rattle.smv_core.specs.declared.flat.Design.{Design}
use Rattle.smv_core.specs.declared.flat.Def.{Def}
use Rattle.smv_core.specs.declared.flat.FlatUsing.{FlatUsing}
use Rattle.smv_core.specs.declared.flat.Unit.{Unit}
use Rattle.smv_core.specs.declared.flat.Leaf.{Leaf}
use Rattle.smv_core.specs.declared.flat.Choice.{Choice}
use Rattle.smv_core.specs.declared.flat.Pick.{Pick}
use Rattle.smv_core.specs.declared.flat.Keep.{Keep}
use Rattle.law_designs.specs.WholeText.{is_one_layer}
use Rattle.law_obligations.specs.Outlines.{unit_in, map_in}
use Rattle.law_obligations.specs.Units.{units_of}
use Rattle.law_splits.specs.Leaves.{named_by, leaves_of}
use Rattle.law_uses.specs.Uses.{set_named, Braces, braces_in, picks_in, assumed_in}

-- ---- proofs

-- a `using`, and a reference after its `prove`
pub record Proof : Type 0 where
  pub using : FlatUsing
  pub of : Ref

-- all of them, in flat order
abbrev pub proofs_in : List FlatUsing → List Proof
proofs_in uses = flat_map (λ using. map (λ of. record { using = using; of = of }) using.proves) uses

-- a reference names a leaf
abbrev pub names_leaf : Ref → Leaf → Bool
names_leaf of leaf = bytes_eq (named_by of) leaf.name

-- ---- the leaf's own unit

-- the definition that is proved, where the leaf's unit is a map
abbrev pub own_map : Design → List Unit → Leaf → Option Def
own_map d units leaf = option_and_then (λ unit. map_in (unit_in d unit)) (slice_get units leaf.unit)

-- a use of this map
abbrev pub is_own : Option Def → Pick → Bool
is_own None p = false
is_own (Some def) p = nat_eq p.family def.family && is_one_layer p.layer def.layer

-- ---- the parameters that stay

-- a word is among these names
abbrev pub is_among : List Word → Word → Bool
is_among names word = list_any (λ name. bytes_eq name.name word.name) names

-- the numbers of the leaf's parameters that the braces name, by the brackets of its reference
abbrev pub kept_params : List Word → List Word → List ℕ
kept_params brackets names = map (λ (k, word). k) (filter (λ (k, word). is_among names word) (zip (numbers_from 0 (length brackets)) brackets))

abbrev pub keep_by : Design → Ref → Braces → List Keep
keep_by d of braces = map (λ set. record { set = set; params = kept_params of.names braces.names }) (option_to_list (set_named d braces.set.name))

-- ---- choices

-- no `using` proves the leaf
abbrev pub nothing_used : Choice
nothing_used = record { picks = []; claims = []; itself = false; keeps = [] }

module _ (d : Design) (units : List Unit) where
  -- what a leaf uses by a `using`: a use of its own map is no pick of the map's family
  abbrev pub choice_by : Leaf → Option Proof → Choice
  choice_by leaf None = nothing_used
  choice_by leaf (Some proof) =
      let own = own_map d units leaf in
      let picks = map (λ (at, p). p) (picks_in d proof.using.uses) in
      record {
        picks = filter (λ p. not (is_own own p)) picks;
        claims = map (λ (at, used). used) (assumed_in d proof.using.uses);
        itself = list_any (is_own own) picks;
        keeps = flat_map (keep_by d proof.of) (braces_in proof.using.uses);
      }

  abbrev pub choice_of : Leaf → Choice
  choice_of leaf = choice_by leaf (find (λ proof. names_leaf proof.of leaf) (proofs_in d.uses))

-- the choice of each leaf of a design, in their order. For a design with a fault of uses they may be anything.
abbrev pub choices_of : Design → List Choice
choices_of d = map (choice_of d (units_of d)) (leaves_of d)
