-- What a choice names is there.
use Rattle.std.proofs.Common.{◌≡◌, ℕ, map, Bool, true, false, not, refl, sym, subst, inl, inr, Option, Some, None, option_map, if◌then◌else◌, find}
use Rattle.std.specs.List.{slice_get}
use Rattle.std.specs.Option.{option_to_list}
use Rattle.std.proofs.lemmas.Bool.{not-true}
use Rattle.law_lists.proofs.Options.{some_is}
use Rattle.law_lists.proofs.Lists.{length_map}
use Rattle.smv_core.specs.Values.{Name}
use Rattle.smv_core.specs.declared.tree.Word.{Word}
use Rattle.smv_core.specs.declared.tree.Ref.{Ref}
use Rattle.smv_core.specs.declared.flat.Design.{Design}
use Rattle.smv_core.specs.declared.flat.Family.{Family}
use Rattle.smv_core.specs.declared.flat.Claim.{Claim}
use Rattle.smv_core.specs.declared.flat.SetInfo.{SetInfo}
use Rattle.smv_core.specs.declared.flat.Leaf.{Leaf}
use Rattle.smv_core.specs.declared.flat.Choice.{Choice}
use Rattle.smv_core.specs.declared.flat.Pick.{Pick}
use Rattle.smv_core.specs.declared.flat.Assumed.{Assumed}
use Rattle.smv_core.specs.declared.flat.Keep.{Keep}
use Rattle.law_obligations.specs.Sets.{Has}
use Rattle.law_obligations.proofs.Members.{Has-from_map, Has-uncons}
use Rattle.law_obligations.proofs.OneOfEach.{Has-from_flat_map}
use Rattle.law_obligations.specs.Units.{units_of}
use Rattle.law_obligations.proofs.Lookups.{Has-option, Has-from_filter}
use Rattle.law_splits.specs.Leaves.{leaves_of}
use Rattle.law_uses.specs.declared.meaning.Meaning.{Meaning}
use Rattle.law_uses.specs.declared.meaning.Meaning.TheVariants as means
use Rattle.law_uses.specs.Uses.{path_of, family_named, claim_named, layer_named, set_named, is_defined_in, definition_in, meaning_in, meaning_of, Used, used_in, braces_in, pick_by, assumed_by, picks_in, assumed_in}
use Rattle.law_uses.specs.Choices.{Proof, proofs_in, names_leaf, own_map, is_own, keep_by, choice_by, choice_of}
use Rattle.law_uses.specs.Laws.{OneChoiceEach, ChoicesAreThere, OwnIsNoPick, IsThere, IsDefined}
use Rattle.law_uses.proofs.Named.{named_there}

pub one_choice_each : OneChoiceEach
one_choice_each d = length_map (choice_of d (units_of d)) (leaves_of d)

module _ (d : Design) where
  -- what a meaning names is there
  IsMeant : Meaning → Type 0
  IsMeant (means.Definition family layer) = ((f : Family) × (slice_get d.families family ≡ Some f)) × ((k : ℕ) → layer ≡ Some k → is_defined_in d k family ≡ true)
  IsMeant (means.Claim k) = (c : Claim) × (slice_get d.claims k ≡ Some c)

  family_there : (name : Name) (k : ℕ) → family_named d name ≡ Some k → (f : Family) × (slice_get d.families k ≡ Some f)
  family_there name k e = named_there (λ (f : Family). f.name) d.families name k e

  free_meant : (name : Name) (o : Option ℕ) → family_named d name ≡ o → (m : Meaning) → option_map (λ family. means.Definition family None) o ≡ Some m → IsMeant m
  unfolding IsMeant
  free_meant name None e m i = absurd (cc)
  free_meant name (Some k) e m i = subst IsMeant (some_is i) (family_there name k e, λ layer j. absurd (cc))

  claim_meant : (name : Name) (o : Option ℕ) → claim_named d name ≡ o → (m : Meaning) → option_map means.Claim o ≡ Some m → IsMeant m
  unfolding IsMeant
  claim_meant name None e m i = absurd (cc)
  claim_meant name (Some k) e m i = subst IsMeant (some_is i) (named_there (λ (c : Claim). c.name) d.claims name k e)

  defined_meant : (name : Name) (family layer : ℕ) → family_named d name ≡ Some family → (b : Bool) → is_defined_in d layer family ≡ b →
      (m : Meaning) → (if b then Some (means.Definition family (Some layer)) else None) ≡ Some m → IsMeant m
  unfolding IsMeant
  defined_meant name family layer e true f m i = subst IsMeant (some_is i) (family_there name family e, λ k j. subst (λ l. is_defined_in d l family ≡ true) (some_is j) f)
  defined_meant name family layer e false f m i = absurd (cc)

  layer_meant : (name : Name) (o l : Option ℕ) → family_named d name ≡ o → (m : Meaning) → definition_in d o l ≡ Some m → IsMeant m
  layer_meant name None l e m i = absurd (cc)
  layer_meant name (Some family) None e m i = absurd (cc)
  layer_meant name (Some family) (Some layer) e m i = defined_meant name family layer e (is_defined_in d layer family) refl m i

  in_meant : (name : Name) (o : Option Word) (m : Meaning) → meaning_in d name o ≡ Some m → IsMeant m
  in_meant name None m i = claim_meant name (claim_named d name) refl m i
  in_meant name (Some layer) m i = layer_meant name (family_named d name) (layer_named d layer.name) refl m i

  is_meant : (of : Ref) (m : Meaning) → meaning_of d of ≡ Some m → IsMeant m
  is_meant of m e = at of.free e
    where
      at : (b : Bool) → (if b then option_map (λ family. means.Definition family None) (family_named d (path_of of)) else meaning_in d (path_of of) of.layer) ≡ Some m → IsMeant m
      at true e = free_meant (path_of of) (family_named d (path_of of)) refl m e
      at false e = in_meant (path_of of) of.layer m e

  -- a pick and an assumed claim, by what the use means
  PickIsThere : Pick → Type 0
  PickIsThere p = ((f : Family) × (slice_get d.families p.family ≡ Some f)) × IsDefined d p

  pick_there : (used : Used) (o : Option Meaning) → ((m : Meaning) → o ≡ Some m → IsMeant m) → (x : ℕ × Pick) → Has (pick_by used o) x → PickIsThere x.1
  unfolding IsMeant PickIsThere
  pick_there used None meant x h = elim h [ ]
  pick_there used (Some (means.Definition family layer)) meant x h = elim (Has-uncons h) [
    | inl e ↦ subst (λ x. PickIsThere x.1) (sym e) (meant (means.Definition family layer) refl)
    | inr l ↦ elim l [ ]
  ]
  pick_there used (Some (means.Claim k)) meant x h = elim h [ ]

  claim_there : (used : Used) (o : Option Meaning) → ((m : Meaning) → o ≡ Some m → IsMeant m) → (x : ℕ × Assumed) → Has (assumed_by used o) x → (c : Claim) × (slice_get d.claims x.1.claim ≡ Some c)
  unfolding IsMeant
  claim_there used None meant x h = elim h [ ]
  claim_there used (Some (means.Definition family layer)) meant x h = elim h [ ]
  claim_there used (Some (means.Claim k)) meant x h = elim (Has-uncons h) [
    | inl e ↦ subst (λ x. (c : Claim) × (slice_get d.claims x.1.claim ≡ Some c)) (sym e) (meant (means.Claim k) refl)
    | inr l ↦ elim l [ ]
  ]

  module _ (leaf : Leaf) (proof : Proof) where
    abbrev here : Choice
    here = choice_by d (units_of d) leaf (Some proof)

    from_picks : (p : Pick) → Has here.picks p → PickIsThere p
    from_picks p h =
        let a = Has-from_filter (λ p. not (is_own (own_map d (units_of d) leaf) p)) (map (λ x. x.1) (picks_in d proof.using.uses)) h in
        let b = Has-from_map (λ (x : ℕ × Pick). x.1) (picks_in d proof.using.uses) a.0 in
        let c = Has-from_flat_map (λ used. pick_by used (meaning_of d used.of)) (used_in proof.using.uses) b.1 in
        subst PickIsThere (sym b.2) (pick_there c.0 (meaning_of d c.0.of) (λ m e. is_meant c.0.of m e) b.0 c.2)

    from_claims : (used : Assumed) → Has here.claims used → (c : Claim) × (slice_get d.claims used.claim ≡ Some c)
    from_claims used h =
        let b = Has-from_map (λ (x : ℕ × Assumed). x.1) (assumed_in d proof.using.uses) h in
        let c = Has-from_flat_map (λ used. assumed_by used (meaning_of d used.of)) (used_in proof.using.uses) b.1 in
        subst (λ (used : Assumed). (c : Claim) × (slice_get d.claims used.claim ≡ Some c)) (sym b.2) (claim_there c.0 (meaning_of d c.0.of) (λ m e. is_meant c.0.of m e) b.0 c.2)

    is_there : IsThere d here
    unfolding PickIsThere
    is_there = record {
      families = λ p h. (from_picks p h).0;
      definitions = λ p h. (from_picks p h).1;
      claims = from_claims;
      sets = λ keep h.
          let a = Has-from_flat_map (keep_by d proof.of) (braces_in proof.using.uses) h in
          let b = Has-from_map _ (option_to_list (set_named d a.0.set.name)) a.2 in
          let e = Has-option (set_named d a.0.set.name) b.1 in
          subst (λ (keep : Keep). (info : SetInfo) × (slice_get d.sets keep.set ≡ Some info)) (sym b.2) (named_there (λ info. info.name) d.sets a.0.set.name b.0 e);
    }

  choice_there : (leaf : Leaf) (o : Option Proof) → IsThere d (choice_by d (units_of d) leaf o)
  choice_there leaf None = record { families = λ p h. elim h [ ]; definitions = λ p h. elim h [ ]; claims = λ used h. elim h [ ]; sets = λ keep h. elim h [ ] }
  choice_there leaf (Some proof) = is_there leaf proof

pub choices_are_there : ChoicesAreThere
choices_are_there d c h =
    let r = Has-from_map (choice_of d (units_of d)) (leaves_of d) h in
    subst (IsThere d) (sym r.2) (choice_there d r.0 (find (λ proof. names_leaf proof.of r.0) (proofs_in d.uses)))

pub own_is_no_pick : OwnIsNoPick
own_is_no_pick d leaf p h = at (find (λ proof. names_leaf proof.of leaf) (proofs_in d.uses)) h
  where
    at : (o : Option Proof) → Has (choice_by d (units_of d) leaf o).picks p → is_own (own_map d (units_of d) leaf) p ≡ false
    at None h = elim h [ ]
    at (Some proof) h = not-true (is_own (own_map d (units_of d) leaf) p)
        (Has-from_filter (λ p. not (is_own (own_map d (units_of d) leaf) p)) (map (λ x. x.1) (picks_in d proof.using.uses)) h).1
