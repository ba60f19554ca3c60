-- The first fault of uses stands at a place of the design.
use Rattle.std.proofs.Common.{◌≡◌, ◌≤◌, ℕ, Bool, true, not, List, [], ◌∷◌, ◌++◌, map, filter, zip, length, nat_eq, is_none, is_some, Option, Some, None, IfSome, refl}
use Rattle.std.specs.Str.{bytes_eq}
use Rattle.std.specs.List.{AllByRecursion, flat_map, list_any}
use Rattle.std.specs.Option.{option_to_list}
use Rattle.law_lists.proofs.Each.{each_flat_map, each_in_any, each_filter, each_append}
use Rattle.smv_core.specs.declared.tree.Word.{Word}
use Rattle.smv_core.specs.declared.tree.Ref.{Ref}
use Rattle.smv_core.specs.declared.tree.Use.{Use}
use Rattle.smv_core.specs.declared.tree.Use.TheVariants.{Plain, Early, Keep}
use Rattle.smv_core.specs.declared.flat.Design.{Design}
use Rattle.smv_core.specs.declared.flat.Param.{Param}
use Rattle.smv_core.specs.declared.flat.FlatUsing.{FlatUsing}
use Rattle.smv_core.specs.declared.flat.Unit.{Unit}
use Rattle.smv_core.specs.declared.flat.Leaf.{Leaf}
use Rattle.smv_core.specs.declared.flat.Pick.{Pick}
use Rattle.smv_core.specs.declared.flat.Assumed.{Assumed}
use Rattle.smv_mentions.specs.NameFaults.{place_if}
use Rattle.law_obligations.specs.Units.{units_of}
use Rattle.law_splits.specs.Leaves.{with_name, leaves_of}
use Rattle.law_splits.specs.SplitFaults.{names_one, doubled, miscounted, same_type}
use Rattle.law_uses.specs.declared.meaning.Meaning.{Meaning}
use Rattle.law_uses.specs.declared.meaning.Meaning.TheVariants.{Definition, Claim}
use Rattle.law_uses.specs.Uses.{set_named, meaning_of, Used, used_by, used_in, Braces, braces_by, braces_in, pick_by, assumed_by, picks_in, assumed_in}
use Rattle.law_uses.specs.Choices.{Proof, proofs_in, own_map, is_own}
use Rattle.law_uses.specs.UseFaults.{later, leaf_named, unknown_uses, unknown_leaves, same_leaf, proved_again, same_map, same_family, chosen_again, proved_leaves, picked_again, assumed_again, braces_of_sets, kept_again, no_sets, is_param_over, proved_by, no_params, unbound_names, other_types, misnamed, use_faults, faults_of_uses, first_fault_of_uses}
use Rattle.law_designs.proofs.Faultless.{each-map}
use Rattle.law_fault_places.specs.TreePlaces.{WordIsWithin, WordsAreWithin, RefIsWithin, UseIsWithin}
use Rattle.law_fault_places.specs.FaultPlaces.{IsFaultOf}
use Rattle.law_fault_places.proofs.TreeLists.{all-zipped, any-mapped}
use Rattle.law_fault_places.proofs.Firsts.{first-one, AreUpTo, placed-if, lists-placed}
use Rattle.law_fault_places.specs.FlatPlaces.{UsingIsWithin, DesignIsWithin}
use Rattle.law_fault_places.specs.ProofFaultPlaces.{numbers_of_uses}
use Rattle.law_fault_places.proofs.SplitLaws.{words-placed, doubled-within, miscounted-within}

later-all : {X : Type 0} (P : X → Type 0) (clash : X → X → Bool) (xs : List X) → AllByRecursion P xs → AllByRecursion P (later clash xs)
later-all P clash [] h = tt
later-all P clash (x ∷ more) h = each_append P (filter (clash x) more) (later clash more) (each_filter P (clash x) more h.1) (later-all P clash more h.1)

module _ (n : ℕ) where
  abbrev IsUpTo : ℕ → Type 0
  IsUpTo at = at ≤ n

  both : (xs ys : List ℕ) → AreUpTo n xs → AreUpTo n ys → AreUpTo n (xs ++ ys)
  both xs ys h g = each_append IsUpTo xs ys h g

  -- ---- what is used

  abbrev UsedIsWithin : Used → Type 0
  UsedIsWithin used = RefIsWithin n used.of

  used_by-within : (x : Use) → UseIsWithin n x → AllByRecursion UsedIsWithin (used_by x)
  used_by-within (Plain of) h = (h, tt)
  used_by-within (Early of) h = (h, tt)
  used_by-within (Keep set names at) h = tt

  used-within : (uses : List Use) → AllByRecursion (UseIsWithin n) uses → AllByRecursion UsedIsWithin (used_in uses)
  used-within uses h = each_flat_map (UseIsWithin n) UsedIsWithin used_by used_by-within uses h

  abbrev BracesAreWithin : Braces → Type 0
  BracesAreWithin braces = WordIsWithin n braces.set × WordsAreWithin n braces.names

  braces_by-within : (x : Use) → UseIsWithin n x → AllByRecursion BracesAreWithin (braces_by x)
  braces_by-within (Plain of) h = tt
  braces_by-within (Early of) h = tt
  braces_by-within (Keep set names at) h = ((h.0, h.1), tt)

  braces-within : (uses : List Use) → AllByRecursion (UseIsWithin n) uses → AllByRecursion BracesAreWithin (braces_in uses)
  braces-within uses h = each_flat_map (UseIsWithin n) BracesAreWithin braces_by braces_by-within uses h

  abbrev PicksAreWithin : List (ℕ × Pick) → Type 0
  PicksAreWithin picks = AllByRecursion (λ (p : ℕ × Pick). p.0 ≤ n) picks

  pick-within : (used : Used) (o : Option Meaning) → UsedIsWithin used → PicksAreWithin (pick_by used o)
  pick-within used None h = tt
  pick-within used (Some (Definition family layer)) h = (h.3, tt)
  pick-within used (Some (Claim k)) h = tt

  assumed_by-within : (used : Used) (o : Option Meaning) → UsedIsWithin used → AllByRecursion (λ (p : ℕ × Assumed). p.0 ≤ n) (assumed_by used o)
  assumed_by-within used None h = tt
  assumed_by-within used (Some (Definition family layer)) h = tt
  assumed_by-within used (Some (Claim k)) h = (h.3, tt)

  -- a place for each reference
  refs-placed : (test : Ref → Bool) (refs : List Ref) → AllByRecursion (RefIsWithin n) refs → AreUpTo n (flat_map (λ (of : Ref). place_if (test of) of.at) refs)
  refs-placed test refs h = each_flat_map (RefIsWithin n) IsUpTo (λ (of : Ref). place_if (test of) of.at) (λ of own. placed-if n (test of) of.at own.3) refs h

  module _ (d : Design) where
    picks-within : (uses : List Use) → AllByRecursion (UseIsWithin n) uses → PicksAreWithin (picks_in d uses)
    picks-within uses h =
        each_flat_map UsedIsWithin (λ (p : ℕ × Pick). p.0 ≤ n) (λ (used : Used). pick_by used (meaning_of d used.of)) (λ used own. pick-within used (meaning_of d used.of) own) (used_in uses) (used-within uses h)

    assumed-within : (uses : List Use) → AllByRecursion (UseIsWithin n) uses → AllByRecursion (λ (p : ℕ × Assumed). p.0 ≤ n) (assumed_in d uses)
    assumed-within uses h =
        each_flat_map UsedIsWithin (λ (p : ℕ × Assumed). p.0 ≤ n) (λ (used : Used). assumed_by used (meaning_of d used.of)) (λ used own. assumed_by-within used (meaning_of d used.of) own) (used_in uses) (used-within uses h)

    -- ---- fault 26

    unknown-within : (leaves : List Leaf) (using : FlatUsing) → UsingIsWithin n using → AreUpTo n (unknown_uses d using ++ unknown_leaves leaves using)
    unknown-within leaves using h =
        both (unknown_uses d using) (unknown_leaves leaves using)
        (each_flat_map UsedIsWithin IsUpTo (λ (used : Used). place_if (is_none (meaning_of d used.of)) used.of.at) (λ used own. placed-if n (is_none (meaning_of d used.of)) used.of.at own.3) (used_in using.uses) (used-within using.uses h.0))
        (refs-placed (λ of. is_none (leaf_named leaves of)) using.proves h.1)

    -- ---- fault 27

    proofs-within : (uses : List FlatUsing) → AllByRecursion (UsingIsWithin n) uses → AllByRecursion (RefIsWithin n) (map (λ (proof : Proof). proof.of) (proofs_in uses))
    proofs-within uses h =
        each-map (λ (proof : Proof). RefIsWithin n proof.of) (RefIsWithin n) (λ (proof : Proof). proof.of) (λ proof own. own) (proofs_in uses)
        (each_flat_map (UsingIsWithin n) (λ (proof : Proof). RefIsWithin n proof.of) (λ (using : FlatUsing). map (λ (of : Ref). record { using = using; of = of }) using.proves)
        (λ using own. each-map (RefIsWithin n) (λ (proof : Proof). RefIsWithin n proof.of) (λ (of : Ref). record { using = using; of = of }) (λ of le. le) using.proves own.1) uses h)

    proved_again-within : (leaves : List Leaf) → AllByRecursion (UsingIsWithin n) d.uses → AreUpTo n (proved_again d leaves)
    proved_again-within leaves h =
        let refs = map (λ (proof : Proof). proof.of) (proofs_in d.uses) in
        let test = λ (of : Ref). is_some (leaf_named leaves of) in
        each-map (RefIsWithin n) IsUpTo (λ (of : Ref). of.at) (λ of own. own.3) (later same_leaf (filter test refs))
        (later-all (RefIsWithin n) same_leaf (filter test refs) (each_filter (RefIsWithin n) test refs (proofs-within d.uses h)))

    module _ (units : List Unit) (leaves : List Leaf) where
      chosen-within : (using : FlatUsing) → UsingIsWithin n using → (leaf : Leaf) → PicksAreWithin (chosen_again d units leaves using leaf)
      chosen-within using h leaf =
          let test = λ (p : ℕ × Pick). not (is_own (own_map d units leaf) p.1) in
          later-all (λ (p : ℕ × Pick). p.0 ≤ n) same_family (filter test (picks_in d using.uses)) (each_filter (λ (p : ℕ × Pick). p.0 ≤ n) test (picks_in d using.uses) (picks-within using.uses h.0))

      picked-within : (using : FlatUsing) → UsingIsWithin n using → AreUpTo n (picked_again d units leaves using)
      picked-within using h =
          let own = later same_map (picks_in d using.uses) in
          let others = flat_map (chosen_again d units leaves using) (proved_leaves d units leaves using) in
          each-map (λ (p : ℕ × Pick). p.0 ≤ n) IsUpTo (λ (p : ℕ × Pick). p.0) (λ p le. le) (own ++ others)
          (each_append (λ (p : ℕ × Pick). p.0 ≤ n) own others (later-all (λ (p : ℕ × Pick). p.0 ≤ n) same_map (picks_in d using.uses) (picks-within using.uses h.0))
          (each_in_any (λ (p : ℕ × Pick). p.0 ≤ n) (chosen_again d units leaves using) (chosen-within using h) (proved_leaves d units leaves using)))

    assumed_again-within : (using : FlatUsing) → UsingIsWithin n using → AreUpTo n (assumed_again d using)
    assumed_again-within using h =
        let clash = λ (a b : ℕ × Assumed). nat_eq a.1.claim b.1.claim in
        each-map (λ (p : ℕ × Assumed). p.0 ≤ n) IsUpTo (λ (p : ℕ × Assumed). p.0) (λ p le. le) (later clash (assumed_in d using.uses))
        (later-all (λ (p : ℕ × Assumed). p.0 ≤ n) clash (assumed_in d using.uses) (assumed-within using.uses h.0))

    kept_again-within : (using : FlatUsing) → UsingIsWithin n using → AreUpTo n (kept_again d using)
    kept_again-within using h =
        let test = λ (braces : Braces). is_some (set_named d braces.set.name) in
        let clash = λ (braces other : Braces). bytes_eq braces.set.name other.set.name in
        each-map BracesAreWithin IsUpTo (λ (braces : Braces). braces.set.at) (λ braces own. own.0) (later clash (braces_of_sets d using))
        (later-all BracesAreWithin clash (braces_of_sets d using) (each_filter BracesAreWithin test (braces_in using.uses) (braces-within using.uses h.0)))

    again-within : (leaves : List Leaf) (using : FlatUsing) → UsingIsWithin n using → AreUpTo n (picked_again d (units_of d) leaves using ++ assumed_again d using ++ kept_again d using)
    again-within leaves using h =
        both ((picked_again d (units_of d) leaves using) ++ (assumed_again d using)) (kept_again d using) (both (picked_again d (units_of d) leaves using) (assumed_again d using) (picked-within (units_of d) leaves using h) (assumed_again-within using h)) (kept_again-within using h)

    -- ---- fault 28

    no_sets-within : (using : FlatUsing) → UsingIsWithin n using → AreUpTo n (no_sets d using)
    no_sets-within using h =
        each_flat_map BracesAreWithin IsUpTo (λ (braces : Braces). place_if (is_none (set_named d braces.set.name)) braces.set.at) (λ braces own. placed-if n (is_none (set_named d braces.set.name)) braces.set.at own.0)
        (braces_in using.uses) (braces-within using.uses h.0)

    module _ (leaves : List Leaf) where
      no_params-within : (using : FlatUsing) → UsingIsWithin n using → AreUpTo n (no_params d leaves using)
      no_params-within using h =
          each_flat_map BracesAreWithin IsUpTo
          (λ (braces : Braces). flat_map (λ (set : ℕ). flat_map (λ (word : Word). flat_map (λ (p : Ref × Leaf). place_if (not (is_param_over set p.0 p.1 word)) word.at) (proved_by d leaves using)) braces.names) (option_to_list (set_named d braces.set.name)))
          (λ braces own. each_in_any IsUpTo (λ (set : ℕ). flat_map (λ (word : Word). flat_map (λ (p : Ref × Leaf). place_if (not (is_param_over set p.0 p.1 word)) word.at) (proved_by d leaves using)) braces.names)
          (λ set. each_flat_map (WordIsWithin n) IsUpTo (λ (word : Word). flat_map (λ (p : Ref × Leaf). place_if (not (is_param_over set p.0 p.1 word)) word.at) (proved_by d leaves using))
          (λ word le. each_in_any IsUpTo (λ (p : Ref × Leaf). place_if (not (is_param_over set p.0 p.1 word)) word.at) (λ p. placed-if n (not (is_param_over set p.0 p.1 word)) word.at le) (proved_by d leaves using))
          braces.names own.1) (option_to_list (set_named d braces.set.name)))
          (braces_in using.uses) (braces-within using.uses h.0)

      proved_by-within : (using : FlatUsing) → UsingIsWithin n using → AllByRecursion (λ (p : Ref × Leaf). RefIsWithin n p.0) (proved_by d leaves using)
      proved_by-within using h =
          each_flat_map (RefIsWithin n) (λ (p : Ref × Leaf). RefIsWithin n p.0) (λ (of : Ref). map (λ (leaf : Leaf). (of, leaf)) (option_to_list (leaf_named leaves of)))
          (λ of own. any-mapped (λ (p : Ref × Leaf). RefIsWithin n p.0) (λ (leaf : Leaf). (of, leaf)) (λ leaf. own) (option_to_list (leaf_named leaves of))) using.proves h.1

      other_types-within : (bound : List Param) (of : Ref) (leaf : Leaf) → RefIsWithin n of → AreUpTo n (other_types bound of leaf)
      other_types-within bound of leaf h =
          each_flat_map (λ (p : Word × Param). WordIsWithin n p.0) IsUpTo (λ (p : Word × Param). place_if (list_any (λ (b : Param). not (same_type b.over p.1.over)) (with_name bound p.0)) p.0.at)
          (λ p own. placed-if n (list_any (λ (b : Param). not (same_type b.over p.1.over)) (with_name bound p.0)) p.0.at own) (zip of.names leaf.params) (all-zipped (WordIsWithin n) of.names leaf.params h.1)

      misnamed-within : (bound : List Param) (p : Ref × Leaf) → RefIsWithin n p.0 → AreUpTo n (misnamed bound p)
      misnamed-within bound p h =
          both ((miscounted (length p.1.params) p.0.names) ++ (unbound_names bound p.0) ++ (doubled p.0.names)) (other_types bound p.0 p.1)
          (both ((miscounted (length p.1.params) p.0.names) ++ (unbound_names bound p.0)) (doubled p.0.names)
          (both (miscounted (length p.1.params) p.0.names) (unbound_names bound p.0) (miscounted-within n (length p.1.params) p.0.names h.1) (words-placed n (λ word. not (names_one bound word)) p.0.names h.1)) (doubled-within n p.0.names h.1)) (other_types-within bound p.0 p.1 h)

      misfit-within : (using : FlatUsing) → UsingIsWithin n using → AreUpTo n (no_sets d using ++ no_params d leaves using ++ flat_map (misnamed using.bound) (proved_by d leaves using))
      misfit-within using h =
          both ((no_sets d using) ++ (no_params d leaves using)) (flat_map (misnamed using.bound) (proved_by d leaves using))
          (both (no_sets d using) (no_params d leaves using) (no_sets-within using h) (no_params-within using h)) (each_flat_map (λ (p : Ref × Leaf). RefIsWithin n p.0) IsUpTo (misnamed using.bound) (misnamed-within using.bound) (proved_by d leaves using) (proved_by-within using h))

  -- ---- the design

  uses-placed : (d : Design) (leaves : List Leaf) → DesignIsWithin n d → AllByRecursion (λ (p : ℕ × List ℕ). (list_any (nat_eq p.0) numbers_of_uses ≡ true) × AreUpTo n p.1) (use_faults d (units_of d) leaves)
  uses-placed d leaves h = (
    (refl, each_flat_map (UsingIsWithin n) IsUpTo (λ (using : FlatUsing). unknown_uses d using ++ unknown_leaves leaves using) (unknown-within d leaves) d.uses h.uses),
    (
      (
        refl,
        both (proved_again d leaves) (flat_map (λ (using : FlatUsing). picked_again d (units_of d) leaves using ++ assumed_again d using ++ kept_again d using) d.uses) (proved_again-within d leaves h.uses)
            (each_flat_map (UsingIsWithin n) IsUpTo (λ (using : FlatUsing). picked_again d (units_of d) leaves using ++ assumed_again d using ++ kept_again d using) (again-within d leaves) d.uses h.uses),
      ),
      ((refl, each_flat_map (UsingIsWithin n) IsUpTo (λ (using : FlatUsing). no_sets d using ++ no_params d leaves using ++ flat_map (misnamed using.bound) (proved_by d leaves using)) (misfit-within d leaves) d.uses h.uses), tt),
    ),
  )

  pub first-within : (d : Design) → DesignIsWithin n d → IfSome (first_fault_of_uses d) (IsFaultOf numbers_of_uses n)
  first-within d h = first-one (IsFaultOf numbers_of_uses n) (faults_of_uses d) (lists-placed numbers_of_uses n (use_faults d (units_of d) (leaves_of d)) (uses-placed d (leaves_of d) h))
