-- The faults of uses, each as the list of the places where its rule is broken.
use Rattle.std.specs.Prelude.{ℕ, List, [], ◌∷◌, ◌++◌, map, flat_map, filter, zip, find, length, option_to_list, is_none, is_some, Option, Bool, not, ◌&&◌, nat_eq}
use Rattle.std.specs.Str.{bytes_eq}
use Rattle.std.specs.List.{list_any}
use Rattle.smv_core.specs.declared.fault.Fault.{Fault}
use Rattle.smv_core.specs.declared.tree.Word.{Word}
use Rattle.smv_core.specs.declared.tree.Ref.{Ref}
use Rattle.smv_core.specs.declared.flat.Design.{Design}
use Rattle.smv_core.specs.declared.flat.Param.{Param}
use Rattle.smv_core.specs.declared.flat.FlatUsing.{FlatUsing}
use Rattle.smv_core.specs.declared.flat.Unit.{Unit}
use Rattle.smv_core.specs.declared.flat.Leaf.{Leaf}
use Rattle.smv_core.specs.declared.flat.Pick.{Pick}
use Rattle.smv_mentions.specs.NameFaults.{place_if}
use Rattle.smv_mentions.specs.FirstFault.{faults_at, first_of}
use Rattle.law_obligations.specs.Cases.{is_set}
use Rattle.law_designs.specs.WholeText.{is_one_layer}
use Rattle.law_obligations.specs.Units.{units_of}
use Rattle.law_splits.specs.Leaves.{named_by, with_name, leaves_of}
use Rattle.law_splits.specs.SplitFaults.{names_one, doubled, miscounted, same_type}
use Rattle.law_uses.specs.Uses.{set_named, meaning_of, used_in, Braces, braces_in, picks_in, assumed_in}
use Rattle.law_uses.specs.Choices.{proofs_in, names_leaf, own_map, is_own}

-- those behind another with which they clash
abbrev pub later : {X : Type 0} → (X → X → Bool) → List X → List X
later clash [] = []
later clash (x ∷ more) = filter (clash x) more ++ later clash more

-- the leaf that a reference names, if there is one
abbrev pub leaf_named : List Leaf → Ref → Option Leaf
leaf_named leaves of = find (names_leaf of) leaves

-- ---- fault 26: a reference that names nothing which can be used or proved

-- before `prove`: not `y//L` where the layer L defines the family y, nor `y//free`, nor a claim's path
abbrev pub unknown_uses : Design → FlatUsing → List ℕ
unknown_uses d using = flat_map (λ used. place_if (is_none (meaning_of d used.of)) used.of.at) (used_in using.uses)

-- after `prove`: no leaf
abbrev pub unknown_leaves : List Leaf → FlatUsing → List ℕ
unknown_leaves leaves using = flat_map (λ of. place_if (is_none (leaf_named leaves of)) of.at) using.proves

-- ---- fault 27: what is said twice

-- two `using` for one leaf, or one leaf twice in one `using`
abbrev pub same_leaf : Ref → Ref → Bool
same_leaf a b = bytes_eq (named_by a) (named_by b)

abbrev pub proved_again : Design → List Leaf → List ℕ
proved_again d leaves = map (λ (of : Ref). of.at) (later same_leaf (filter (λ of. is_some (leaf_named leaves of)) (map (λ proof. proof.of) (proofs_in d.uses))))

-- one map used twice
abbrev pub same_map : ℕ × Pick → ℕ × Pick → Bool
same_map (a, p) (b, q) = is_some p.layer && (nat_eq p.family q.family && is_one_layer p.layer q.layer)

-- two choices of one family
abbrev pub same_family : ℕ × Pick → ℕ × Pick → Bool
same_family (a, p) (b, q) = nat_eq p.family q.family

module _ (d : Design) (units : List Unit) (leaves : List Leaf) where
  -- two choices of one family for a leaf: a use of the leaf's own map is none
  abbrev pub chosen_again : FlatUsing → Leaf → List (ℕ × Pick)
  chosen_again using leaf = later same_family (filter (λ (at, p). not (is_own (own_map d units leaf) p)) (picks_in d using.uses))

  -- the leaves that a `using` proves
  abbrev pub proved_leaves : FlatUsing → List Leaf
  proved_leaves using = flat_map (λ of. option_to_list (leaf_named leaves of)) using.proves

  abbrev pub picked_again : FlatUsing → List ℕ
  picked_again using = map (λ (at, p). at) (later same_map (picks_in d using.uses) ++ flat_map (chosen_again using) (proved_leaves using))

-- one claim used twice
abbrev pub assumed_again : Design → FlatUsing → List ℕ
assumed_again d using = map (λ (at, used). at) (later (λ (a, used) (b, other). nat_eq used.claim other.claim) (assumed_in d using.uses))

-- braces twice for one set type
abbrev pub braces_of_sets : Design → FlatUsing → List Braces
braces_of_sets d using = filter (λ braces. is_some (set_named d braces.set.name)) (braces_in using.uses)

abbrev pub kept_again : Design → FlatUsing → List ℕ
kept_again d using = map (λ (braces : Braces). braces.set.at) (later (λ braces other. bytes_eq braces.set.name other.set.name) (braces_of_sets d using))

-- ---- fault 28: names that do not fit

-- braces for no set type
abbrev pub no_sets : Design → FlatUsing → List ℕ
no_sets d using = flat_map (λ braces. place_if (is_none (set_named d braces.set.name)) braces.set.at) (braces_in using.uses)

-- by the brackets of the reference the word is a parameter of the leaf, over this set type
abbrev pub is_param_over : ℕ → Ref → Leaf → Word → Bool
is_param_over set of leaf word = list_any (λ (name, p). bytes_eq name.name word.name && is_set set p.over) (zip of.names leaf.params)

module _ (d : Design) (leaves : List Leaf) where
  -- the references after `prove` that name leaves
  abbrev pub proved_by : FlatUsing → List (Ref × Leaf)
  proved_by using = flat_map (λ of. map (λ leaf. (of, leaf)) (option_to_list (leaf_named leaves of))) using.proves

  -- a name in braces that is no parameter of the set type in some leaf that is proved
  abbrev pub no_params : FlatUsing → List ℕ
  no_params using =
      flat_map (λ braces.
      flat_map (λ set.
      flat_map (λ (word : Word).
      flat_map (λ (of, leaf). place_if (not (is_param_over set of leaf word)) word.at)
      (proved_by using)) braces.names) (option_to_list (set_named d braces.set.name))) (braces_in using.uses)

-- a name in brackets that is not bound
abbrev pub unbound_names : List Param → Ref → List ℕ
unbound_names bound of = flat_map (λ word. place_if (not (names_one bound word)) word.at) of.names

-- a name of another type than its parameter
abbrev pub other_types : List Param → Ref → Leaf → List ℕ
other_types bound of leaf = flat_map (λ (word, p). place_if (list_any (λ b. not (same_type b.over p.over)) (with_name bound word)) word.at) (zip of.names leaf.params)

-- the names in the brackets of a reference to a leaf: as many as its parameters where there are brackets, bound, each once, and each of its parameter's type
abbrev pub misnamed : List Param → Ref × Leaf → List ℕ
misnamed bound (of, leaf) = miscounted (length leaf.params) of.names ++ unbound_names bound of ++ doubled of.names ++ other_types bound of leaf

-- ---- the faults of a design

module _ (d : Design) (units : List Unit) (leaves : List Leaf) where
  -- all places of each fault of uses, each with its number
  abbrev pub use_faults : List (ℕ × List ℕ)
  use_faults =
      (26, flat_map (λ using. unknown_uses d using ++ unknown_leaves leaves using) d.uses)
      ∷ (27, proved_again d leaves ++ flat_map (λ using. picked_again d units leaves using ++ assumed_again d using ++ kept_again d using) d.uses)
      ∷ (28, flat_map (λ using. no_sets d using ++ no_params d leaves using ++ flat_map (misnamed using.bound) (proved_by d leaves using)) d.uses) ∷ []

abbrev pub faults_of_uses : Design → List Fault
faults_of_uses d = flat_map faults_at (use_faults d (units_of d) (leaves_of d))

-- The first fault of a design among 26 to 28. A design with an earlier fault is not asked for.
abbrev pub first_fault_of_uses : Design → Option Fault
first_fault_of_uses d = first_of (faults_of_uses d)
