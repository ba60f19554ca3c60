-- The first fault of uses, found part by part.
use Rattle.std.proofs.Common.{◌≡◌, ℕ, suc, List, [], ◌∷◌, ◌++◌, map, zip, length, Bool, true, false, not, ◌&&◌, ◌||◌, cond, if◌then◌else◌, refl, ap, sym, ◌∙◌, arith, filter, find, option_map, nat_eq}
use Rattle.std.specs.Prelude.{Option, Some, None, is_none, is_some, option_to_list}
use Rattle.std.specs.Str.{bytes_eq}
use Rattle.std.specs.List.{flat_map, list_any}
use Rattle.std.specs.Option.{option_eq}
use Rattle.std.proofs.lemmas.List.{append-nil, map-append}
use Rattle.std.proofs.lemmas.Slice.Eq.{bytes_eq-Decides}
use Rattle.law_lists.proofs.Lists.{append_same, flat_map_agree}
use Rattle.smv_core.specs.Values.{Name}
use Rattle.smv_core.specs.declared.tree.Word.{Word}
use Rattle.smv_core.specs.declared.tree.Ref.{Ref}
use Rattle.smv_core.specs.declared.tree.Use.{Use}
use Rattle.smv_core.specs.declared.tree.Use.TheVariants.{Plain, Early, Keep}
use Rattle.smv_core.specs.declared.flat.Design.{Design}
use Rattle.smv_core.specs.declared.flat.Def.{Def}
use Rattle.smv_core.specs.declared.flat.Param.{Param}
use Rattle.smv_core.specs.declared.flat.FlatUsing.{FlatUsing}
use Rattle.smv_core.specs.declared.flat.Unit.{Unit as FlatUnit}
use Rattle.smv_core.specs.declared.flat.Leaf.{Leaf}
use Rattle.smv_core.specs.declared.flat.Pick.{Pick}
use Rattle.smv_core.specs.declared.flat.Assumed.{Assumed}
use Rattle.law_obligations.specs.Cases.{is_set}
use Rattle.smv_mentions.specs.NameFaults.{place_if}
use Rattle.smv_mentions.specs.Scopes.{first_of_places}
use Rattle.smv_mentions.specs.FirstFault.{first_of, faults_at}
use Rattle.smv_first_fault.specs.Firsts.{least, fault_at, earlier_of}
use Rattle.smv_first_fault.proofs.LeastLaws.{first-none, first-assoc, least-append}
use Rattle.smv_first_fault.proofs.FirstLaws.{first-both, first-at, two, one}
use Rattle.law_designs.specs.WholeText.{is_one_layer}
use Rattle.law_obligations.specs.Units.{units_of}
use Rattle.law_obligations.proofs.Lookups.{find-some}
use Rattle.law_splits.specs.Leaves.{named_by, with_name, leaves_of}
use Rattle.law_splits.specs.SplitFaults.{doubled, miscounted, same_type}
use Rattle.name_index.specs.Position.{position}
use Rattle.smv_references.specs.Again.{Key, same_key, again}
use Rattle.smv_references.proofs.AgainLaws.{clashing, in_pairs, again-first, swapped, bytes-flip}
use Rattle.law_uses.specs.Uses.{set_named, Braces, braces_in, picks_in, assumed_in}
use Rattle.law_uses.specs.Choices.{Proof, proofs_in, names_leaf, own_map, is_own}
use Rattle.law_uses.specs.UseFaults as spec
use Rattle.law_uses.specs.UseFaults.{later, leaf_named, same_leaf, same_map, same_family, is_param_over, first_fault_of_uses}
use Rattle.smv_choices.specs.Parts as parts
use Rattle.smv_choices.specs.Parts.{at_place, picks_by, claims_by, proved_as, unknown_as, proved_one, unknown_one, first_among, map_keys, family_keys, claim_keys, set_keys, is_param_in, fits, names_misfit, braces_misfit, other_types_in}
use Rattle.smv_choices.specs.Readings.{Said, reading_in, unknown_in, leaf_key, leaf_keys, twice_in, misfit_in, first_fault}
use Rattle.smv_choices.proofs.PartLaws.{proof_in, all-picks, all-claims, all-unknown}

-- ---- places

firsts : {a b c e : Option ℕ} → a ≡ c → b ≡ e → first_of_places a b ≡ first_of_places c e
firsts p q = cc

-- the first of what is found of each
among-each : {X Y : Type 0} (F : Y → Option ℕ) (G : X → Y) (f : X → List ℕ) → ((x : X) → F (G x) ≡ least (f x)) → (xs : List X) → first_among (map F (map G xs)) ≡ least (flat_map f xs)
among-each F G f same [] = refl
among-each F G f same (x ∷ xs) = firsts (same x) (among-each F G f same xs) ∙ sym (least-append (f x) (flat_map f xs))

among-list : {X : Type 0} (F : X → Option ℕ) (f : X → List ℕ) → ((x : X) → F x ≡ least (f x)) → (xs : List X) → first_among (map F xs) ≡ least (flat_map f xs)
among-list F f same [] = refl
among-list F f same (x ∷ xs) = firsts (same x) (among-list F f same xs) ∙ sym (least-append (f x) (flat_map f xs))

least-each : {X : Type 0} (f g : X → List ℕ) → ((x : X) → least (f x) ≡ least (g x)) → (xs : List X) → least (flat_map f xs) ≡ least (flat_map g xs)
least-each f g same [] = refl
least-each f g same (x ∷ xs) = least-append (f x) (flat_map f xs) ∙ firsts (same x) (least-each f g same xs) ∙ sym (least-append (g x) (flat_map g xs))

-- ---- leaves by their names

pub leaf-there : (leaves : List Leaf) (name : Name) → at_place leaves (position (map (λ (leaf : Leaf). leaf.name) leaves) name) ≡ find (λ (leaf : Leaf). bytes_eq name leaf.name) leaves
leaf-there [] name = refl
leaf-there (leaf ∷ leaves) name = turn ∙ at (bytes_eq name leaf.name) (position (map (λ (leaf : Leaf). leaf.name) leaves) name) (leaf-there leaves name)
  where
    turn : at_place (leaf ∷ leaves) (if bytes_eq leaf.name name then Some 0 else option_map suc (position (map (λ (leaf : Leaf). leaf.name) leaves) name))
        ≡ at_place (leaf ∷ leaves) (if bytes_eq name leaf.name then Some 0 else option_map suc (position (map (λ (leaf : Leaf). leaf.name) leaves) name))
    turn = ap (λ b. at_place (leaf ∷ leaves) (if b then Some 0 else option_map suc (position (map (λ (leaf : Leaf). leaf.name) leaves) name))) (bytes-flip leaf.name name)

    at : (b : Bool) (o : Option ℕ) → at_place leaves o ≡ find (λ (leaf : Leaf). bytes_eq name leaf.name) leaves →
        at_place (leaf ∷ leaves) (if b then Some 0 else option_map suc o) ≡ cond b (Some leaf) (find (λ (leaf : Leaf). bytes_eq name leaf.name) leaves)
    at true o e = refl
    at false None e = e
    at false (Some k) e = e

-- the leaf that a reference names has the name that the reference writes
own-name : (leaves : List Leaf) (of : Ref) (leaf : Leaf) → leaf_named leaves of ≡ Some leaf → leaf.name ≡ named_by of
own-name leaves of leaf e = sym ((bytes_eq-Decides (named_by of) leaf.name).0 (find-some (names_leaf of) leaves e).1)

-- ---- what stands twice

module _ {X K : Type 0} (clash : X → X → Bool) (same : K → K → Bool) (at : X → ℕ) (key : X → K) (fits' : (x y : X) → clash x y ≡ same (key x) (key y)) where
  abbrev keyed : X → ℕ × K
  keyed x = (at x, key x)

  clashes : (x : X) (more : List X) → map at (filter (clash x) more) ≡ clashing same (key x) (map keyed more)
  clashes x [] = refl
  clashes x (y ∷ more) = on (clash x y) (same (key x) (key y)) (fits' x y) (clashes x more)
    where
      on : (b c : Bool) → b ≡ c → map at (filter (clash x) more) ≡ clashing same (key x) (map keyed more) → map at (cond b (y ∷ filter (clash x) more) (filter (clash x) more)) ≡ map (λ (z : ℕ × K). z.0) (cond c (keyed y ∷ filter (λ (z : ℕ × K). same (key x) z.1) (map keyed more)) (filter (λ (z : ℕ × K). same (key x) z.1) (map keyed more)))
      on true true e h = ap (λ l. at y ∷ l) h
      on true false e h = absurd (cc)
      on false true e h = absurd (cc)
      on false false e h = h

  later-pairs : (xs : List X) → map at (later clash xs) ≡ in_pairs same (map keyed xs)
  later-pairs [] = refl
  later-pairs (x ∷ more) = map-append at (filter (clash x) more) (later clash more) ∙ append_same (clashes x more) (later-pairs more)

  -- the first of the later ones is the first that was noted before
  later-again : (xs : List X) → least (again same [] (map keyed xs)) ≡ least (map at (later clash xs))
  later-again xs = sym (again-first same (map keyed xs)) ∙ ap least (sym (later-pairs xs))

abbrev place_of : {X : Type 0} → ℕ × X → ℕ
place_of x = x.0

-- ---- maps and families

abbrev map_of : ℕ × Pick → Key
map_of x = (x.1.family, x.1.layer)

abbrev has_layer : ℕ × Pick → Bool
has_layer x = is_some x.1.layer

maps-keyed : (picks : List (ℕ × Pick)) → map_keys picks ≡ map (λ (x : ℕ × Pick). (x.0, map_of x)) (filter has_layer picks)
maps-keyed [] = refl
maps-keyed (x ∷ picks) = on (is_some x.1.layer) (maps-keyed picks)
  where
    on : (b : Bool) → map_keys picks ≡ map (λ (x : ℕ × Pick). (x.0, map_of x)) (filter has_layer picks) → (if b then (x.0, map_of x) ∷ [] else []) ++ map_keys picks ≡ map (λ (x : ℕ × Pick). (x.0, map_of x)) (cond b (x ∷ filter has_layer picks) (filter has_layer picks))
    on true e = ap (λ l. (x.0, map_of x) ∷ l) e
    on false e = e

abbrev same_maps : ℕ × Pick → ℕ × Pick → Bool
same_maps x y = same_key (map_of x) (map_of y)

-- where the first has a layer
with-layer : (x y : ℕ × Pick) (a : ℕ) → x.1.layer ≡ Some a → same_map x y ≡ (has_layer y && same_maps x y)
with-layer x y a e = ap (λ o. is_some o && (nat_eq x.1.family y.1.family && is_one_layer o y.1.layer)) e ∙ on (nat_eq x.1.family y.1.family) y.1.layer ∙ ap (λ o. has_layer y && (nat_eq x.1.family y.1.family && option_eq nat_eq o y.1.layer)) (sym e)
  where
    on : (b : Bool) (o : Option ℕ) → (is_some (Some a) && (b && is_one_layer (Some a) o)) ≡ (is_some o && (b && option_eq nat_eq (Some a) o))
    on true None = refl
    on false None = refl
    on b (Some c) = refl

without-layer : (x : ℕ × Pick) → x.1.layer ≡ None → (more : List (ℕ × Pick)) → filter (same_map x) more ≡ []
without-layer x e [] = refl
without-layer x e (y ∷ more) = ap (λ o. cond (is_some o && (nat_eq x.1.family y.1.family && is_one_layer o y.1.layer)) (y ∷ filter (same_map x) more) (filter (same_map x) more)) e ∙ without-layer x e more

kept-layers : (x : ℕ × Pick) (a : ℕ) → x.1.layer ≡ Some a → (more : List (ℕ × Pick)) → filter (same_map x) more ≡ filter (same_maps x) (filter has_layer more)
kept-layers x a e [] = refl
kept-layers x a e (y ∷ more) = ap (λ b. cond b (y ∷ filter (same_map x) more) (filter (same_map x) more)) (with-layer x y a e) ∙ on (has_layer y) (kept-layers x a e more)
  where
    on : (b : Bool) → filter (same_map x) more ≡ filter (same_maps x) (filter has_layer more) → cond (b && same_maps x y) (y ∷ filter (same_map x) more) (filter (same_map x) more) ≡ filter (same_maps x) (cond b (y ∷ filter has_layer more) (filter has_layer more))
    on false h = h
    on true h = ap (λ l. cond (same_maps x y) (y ∷ l) l) h

layers-later : (xs : List (ℕ × Pick)) → later same_map xs ≡ later same_maps (filter has_layer xs)
layers-later [] = refl
layers-later (x ∷ more) = on x.1.layer refl (layers-later more)
  where
    on : (o : Option ℕ) → x.1.layer ≡ o → later same_map more ≡ later same_maps (filter has_layer more) → filter (same_map x) more ++ later same_map more ≡ later same_maps (cond (is_some x.1.layer) (x ∷ filter has_layer more) (filter has_layer more))
    on None e h = append_same (without-layer x e more) h ∙ ap (λ o. later same_maps (cond (is_some o) (x ∷ filter has_layer more) (filter has_layer more))) (sym e)
    on (Some a) e h = append_same (kept-layers x a e more) h ∙ ap (λ o. later same_maps (cond (is_some o) (x ∷ filter has_layer more) (filter has_layer more))) (sym e)

maps-again : (picks : List (ℕ × Pick)) → least (again same_key [] (map_keys picks)) ≡ least (map place_of (later same_map picks))
maps-again picks =
    ap (λ l. least (again same_key [] l)) (maps-keyed picks) ∙ later-again same_maps same_key place_of map_of (λ x y. refl) (filter has_layer picks)
    ∙ ap (λ l. least (map place_of l)) (sym (layers-later picks))

and-true : (b : Bool) → b ≡ (b && true)
and-true true = refl
and-true false = refl

-- what is chosen besides the leaf's own map
abbrev besides : Option Def → ℕ × Pick → Bool
besides own x = not (is_own own x.1)

families-keyed : (own : Option Def) (picks : List (ℕ × Pick)) → family_keys own picks ≡ map (λ (x : ℕ × Pick). (x.0, (x.1.family, None))) (filter (besides own) picks)
families-keyed own [] = refl
families-keyed own (x ∷ picks) = on (besides own x) (families-keyed own picks)
  where
    on : (b : Bool) → family_keys own picks ≡ map (λ (x : ℕ × Pick). (x.0, (x.1.family, None))) (filter (besides own) picks) → (if b then (x.0, (x.1.family, None)) ∷ [] else []) ++ family_keys own picks ≡ map (λ (x : ℕ × Pick). (x.0, (x.1.family, None))) (cond b (x ∷ filter (besides own) picks) (filter (besides own) picks))
    on true e = ap (λ l. (x.0, (x.1.family, None)) ∷ l) e
    on false e = e

families-again : (own : Option Def) (picks : List (ℕ × Pick)) → parts.chosen_again own picks ≡ least (map place_of (later same_family (filter (besides own) picks)))
families-again own picks =
    ap (λ l. least (again same_key [] l)) (families-keyed own picks)
    ∙ later-again same_family same_key place_of (λ (x : ℕ × Pick). (x.1.family, None)) (λ x y. and-true (nat_eq x.1.family y.1.family)) (filter (besides own) picks)

abbrev same_claim : ℕ × Assumed → ℕ × Assumed → Bool
same_claim x y = nat_eq x.1.claim y.1.claim

claims-again : (claims : List (ℕ × Assumed)) → least (again same_key [] (claim_keys claims)) ≡ least (map place_of (later same_claim claims))
claims-again claims = later-again same_claim same_key place_of (λ (x : ℕ × Assumed). (x.1.claim, None)) (λ x y. and-true (nat_eq x.1.claim y.1.claim)) claims

-- ---- set types with braces

module _ (d : Design) where
  abbrev of_set : Braces → Bool
  of_set braces = is_some (set_named d braces.set.name)

  sets-keyed : (uses : List Use) → set_keys (parts.sets_of d) uses ≡ map (λ (b : Braces). (b.set.at, b.set.name)) (filter of_set (braces_in uses))
  sets-keyed [] = refl
  sets-keyed (Plain of ∷ uses) = sets-keyed uses
  sets-keyed (Early of ∷ uses) = sets-keyed uses
  sets-keyed (Keep set names at ∷ uses) = on (is_some (set_named d set.name)) (sets-keyed uses)
    where
      on : (b : Bool) → set_keys (parts.sets_of d) uses ≡ map (λ (b : Braces). (b.set.at, b.set.name)) (filter of_set (braces_in uses)) → (if b then (set.at, set.name) ∷ [] else []) ++ set_keys (parts.sets_of d) uses
          ≡ map (λ (b : Braces). (b.set.at, b.set.name)) (cond b (record { set = set; names = names } ∷ filter of_set (braces_in uses)) (filter of_set (braces_in uses)))
      on true e = ap (λ l. (set.at, set.name) ∷ l) e
      on false e = e

  sets-again : (using' : FlatUsing) → least (again bytes_eq [] (set_keys (parts.sets_of d) using'.uses)) ≡ least (spec.kept_again d using')
  sets-again using' =
      ap (λ l. least (again bytes_eq [] l)) (sets-keyed using'.uses)
      ∙ later-again (λ (a b : Braces). bytes_eq a.set.name b.set.name) bytes_eq (λ (b : Braces). b.set.at) (λ (b : Braces). b.set.name) (λ x y. refl) (filter of_set (braces_in using'.uses))

-- ---- one choice of a family for each leaf

-- the first of fewer is no earlier
absorbs-filter : {X : Type 0} (at : X → ℕ) (q p : X → Bool) (xs : List X) → first_of_places (least (map at (filter q xs))) (least (map at (filter q (filter p xs)))) ≡ least (map at (filter q xs))
absorbs-filter at q p [] = refl
absorbs-filter {X} at q p (x ∷ xs) = on (q x) (p x) refl (absorbs-filter at q p xs)
  where
    on : (b c : Bool) → q x ≡ b → first_of_places (least (map at (filter q xs))) (least (map at (filter q (filter p xs)))) ≡ least (map at (filter q xs)) →
        first_of_places (least (map at (cond b (x ∷ filter q xs) (filter q xs)))) (least (map at (filter q (cond c (x ∷ filter p xs) (filter p xs))))) ≡ least (map at (cond b (x ∷ filter q xs) (filter q xs)))
    on false false e h = h
    on false true e h = ap (λ t. first_of_places (least (map at (filter q xs))) (least (map at (cond t (x ∷ filter q (filter p xs)) (filter q (filter p xs)))))) e ∙ h
    on true false e h = first-assoc (Some (at x)) (least (map at (filter q xs))) (least (map at (filter q (filter p xs)))) ∙ ap (first_of_places (Some (at x))) h
    on true true e h =
        ap (λ t. first_of_places (first_of_places (Some (at x)) (least (map at (filter q xs)))) (least (map at (cond t (x ∷ filter q (filter p xs)) (filter q (filter p xs)))))) e
        ∙ swapped (Some (at x)) (least (map at (filter q xs))) (Some (at x)) (least (map at (filter q (filter p xs))))
        ∙ firsts (ap Some (omega arith)) h

absorbs-later : {X : Type 0} (at : X → ℕ) (c : X → X → Bool) (p : X → Bool) (xs : List X) → first_of_places (least (map at (later c xs))) (least (map at (later c (filter p xs)))) ≡ least (map at (later c xs))
absorbs-later at c p [] = refl
absorbs-later {X} at c p (x ∷ xs) = on (p x) (absorbs-later at c p xs)
  where
    whole : least (map at (filter (c x) xs ++ later c xs)) ≡ first_of_places (least (map at (filter (c x) xs))) (least (map at (later c xs)))
    whole = ap least (map-append at (filter (c x) xs) (later c xs)) ∙ least-append (map at (filter (c x) xs)) (map at (later c xs))

    fewer : least (map at (filter (c x) (filter p xs) ++ later c (filter p xs))) ≡ first_of_places (least (map at (filter (c x) (filter p xs)))) (least (map at (later c (filter p xs))))
    fewer = ap least (map-append at (filter (c x) (filter p xs)) (later c (filter p xs))) ∙ least-append (map at (filter (c x) (filter p xs))) (map at (later c (filter p xs)))

    on : (b : Bool) → first_of_places (least (map at (later c xs))) (least (map at (later c (filter p xs)))) ≡ least (map at (later c xs)) → first_of_places (least (map at (filter (c x) xs ++ later c xs))) (least (map at (later c (cond b (x ∷ filter p xs) (filter p xs))))) ≡ least (map at (filter (c x) xs ++ later c xs))
    on true h = firsts whole fewer ∙ swapped (least (map at (filter (c x) xs))) (least (map at (later c xs))) (least (map at (filter (c x) (filter p xs)))) (least (map at (later c (filter p xs)))) ∙ firsts (absorbs-filter at (c x) p xs) h ∙ sym whole
    on false h = ap (λ o. first_of_places o (least (map at (later c (filter p xs))))) whole ∙ first-assoc (least (map at (filter (c x) xs))) (least (map at (later c xs))) (least (map at (later c (filter p xs)))) ∙ ap (first_of_places (least (map at (filter (c x) xs)))) h ∙ sym whole

filter-all : {X : Type 0} (xs : List X) → filter (λ (x : X). true) xs ≡ xs
filter-all [] = refl
filter-all (x ∷ xs) = ap (λ l. x ∷ l) (filter-all xs)

-- no leaf has two choices of one family earlier than there are with none of its own map
pub bounded : (own : Option Def) (picks : List (ℕ × Pick)) → first_of_places (parts.chosen_again None picks) (parts.chosen_again own picks) ≡ parts.chosen_again None picks
bounded own picks =
    let all : parts.chosen_again None picks ≡ least (map place_of (later same_family picks)) = families-again None picks ∙ ap (λ l. least (map place_of (later same_family l))) (filter-all picks) in
    firsts all (families-again own picks) ∙ absorbs-later place_of same_family (besides own) picks ∙ sym all

pub all-bounded : (d : Design) (units : List FlatUnit) (picks : List (ℕ × Pick)) (proved : List (Ref × Leaf)) →
    first_of_places (parts.chosen_again None picks) (parts.chosen_for_each d units picks proved) ≡ parts.chosen_again None picks
all-bounded d units picks [] = first-none (parts.chosen_again None picks)
all-bounded d units picks (x ∷ proved) =
    sym (first-assoc (parts.chosen_again None picks) (parts.chosen_again (own_map d units x.1) picks) (parts.chosen_for_each d units picks proved))
    ∙ ap (λ o. first_of_places o (parts.chosen_for_each d units picks proved)) (bounded (own_map d units x.1) picks) ∙ all-bounded d units picks proved

nothing-first : (a : Option ℕ) → first_of_places None a ≡ None → a ≡ None
nothing-first a e = e

-- where there is none with no own map, there is none
pub none-bounded : (d : Design) (units : List FlatUnit) (picks : List (ℕ × Pick)) (proved : List (Ref × Leaf)) → parts.chosen_again None picks ≡ None → parts.chosen_for_each d units picks proved ≡ None
none-bounded d units picks proved e = nothing-first _ (ap (λ o. first_of_places o (parts.chosen_for_each d units picks proved)) (sym e) ∙ all-bounded d units picks proved ∙ e)

-- what is found for one more leaf is the whole, where it is as early as can be
pub stopped : (d : Design) (units : List FlatUnit) (picks : List (ℕ × Pick)) (proved : List (Ref × Leaf)) (found bound whole : Option ℕ) → bound ≡ parts.chosen_again None picks → found ≡ bound →
    first_of_places found (parts.chosen_for_each d units picks proved) ≡ whole → found ≡ whole
stopped d units picks proved found bound whole b e f = e ∙ b ∙ sym (all-bounded d units picks proved) ∙ sym (ap (λ o. first_of_places o (parts.chosen_for_each d units picks proved)) (e ∙ b)) ∙ f

pub ruleset bounds = (none-bounded, first-assoc, first-none)

-- ---- what is proved

module _ (leaves : List Leaf) where
  unknown-leaves : (refs : List Ref) → flat_map (unknown_one leaves) refs ≡ flat_map (λ (of : Ref). place_if (is_none (leaf_named leaves of)) of.at) refs
  unknown-leaves refs = flat_map_agree (unknown_one leaves) (λ (of : Ref). place_if (is_none (leaf_named leaves of)) of.at) (λ of. on of (leaf_named leaves of)) refs
    where
      on : (of : Ref) (o : Option Leaf) → unknown_as of o ≡ place_if (is_none o) of.at
      on of None = refl
      on of (Some leaf) = refl

  abbrev has_leaf : Ref → Bool
  has_leaf of = is_some (leaf_named leaves of)

  keys-one : (refs : List Ref) → map leaf_key (flat_map (proved_one leaves) refs) ≡ map (λ (of : Ref). (of.at, named_by of)) (filter has_leaf refs)
  keys-one [] = refl
  keys-one (of ∷ refs) = map-append leaf_key (proved_one leaves of) (flat_map (proved_one leaves) refs) ∙ on (leaf_named leaves of) refl (keys-one refs)
    where
      on : (o : Option Leaf) → leaf_named leaves of ≡ o → map leaf_key (flat_map (proved_one leaves) refs) ≡ map (λ (of : Ref). (of.at, named_by of)) (filter has_leaf refs) → map leaf_key (proved_as of o) ++ map leaf_key (flat_map (proved_one leaves) refs) ≡ map (λ (of : Ref). (of.at, named_by of)) (cond (is_some (leaf_named leaves of)) (of ∷ filter has_leaf refs) (filter has_leaf refs))
      on None e h = h ∙ ap (λ o. map (λ (of : Ref). (of.at, named_by of)) (cond (is_some o) (of ∷ filter has_leaf refs) (filter has_leaf refs))) (sym e)
      on (Some leaf) e h =
          append_same (ap (λ name. (of.at, name) ∷ []) (own-name leaves of leaf e)) h
          ∙ ap (λ o. map (λ (of : Ref). (of.at, named_by of)) (cond (is_some o) (of ∷ filter has_leaf refs) (filter has_leaf refs))) (sym e)

  filter-append : (xs ys : List Ref) → filter has_leaf (xs ++ ys) ≡ filter has_leaf xs ++ filter has_leaf ys
  filter-append [] ys = refl
  filter-append (x ∷ xs) ys = on (has_leaf x) (filter-append xs ys)
    where
      on : (b : Bool) → filter has_leaf (xs ++ ys) ≡ filter has_leaf xs ++ filter has_leaf ys → cond b (x ∷ filter has_leaf (xs ++ ys)) (filter has_leaf (xs ++ ys)) ≡ cond b (x ∷ filter has_leaf xs) (filter has_leaf xs) ++ filter has_leaf ys
      on true e = ap (λ l. x ∷ l) e
      on false e = e

  refs-one : (using' : FlatUsing) (refs : List Ref) → map (λ (p : Proof). p.of) (map (λ (of : Ref). proof_in using' of) refs) ≡ refs
  refs-one using' [] = refl
  refs-one using' (of ∷ refs) = ap (λ l. of ∷ l) (refs-one using' refs)

  keys-all : (d : Design) (uses : List FlatUsing) → flat_map leaf_keys (map (reading_in d leaves) uses) ≡ map (λ (of : Ref). (of.at, named_by of)) (filter has_leaf (map (λ (p : Proof). p.of) (proofs_in uses)))
  keys-all d [] = refl
  keys-all d (using' ∷ uses) =
      append_same (keys-one using'.proves) (keys-all d uses)
      ∙ sym (map-append (λ (of : Ref). (of.at, named_by of)) (filter has_leaf using'.proves) (filter has_leaf (map (λ (p : Proof). p.of) (proofs_in uses))))
      ∙ ap (map (λ (of : Ref). (of.at, named_by of)))
      (sym (filter-append using'.proves (map (λ (p : Proof). p.of) (proofs_in uses)))
      ∙ ap (filter has_leaf) (ap (λ l. l ++ map (λ (p : Proof). p.of) (proofs_in uses)) (sym (refs-one using' using'.proves)) ∙ sym (map-append (λ (p : Proof). p.of) (map (λ (of : Ref). proof_in using' of) using'.proves) (proofs_in uses))))

  proved-again : (d : Design) → least (again bytes_eq [] (flat_map leaf_keys (map (reading_in d leaves) d.uses))) ≡ least (spec.proved_again d leaves)
  proved-again d =
      ap (λ l. least (again bytes_eq [] l)) (keys-all d d.uses)
      ∙ later-again same_leaf bytes_eq (λ (of : Ref). of.at) named_by (λ x y. refl) (filter has_leaf (map (λ (p : Proof). p.of) (proofs_in d.uses)))

  -- two choices of one family for each leaf that is proved
  module _ (d : Design) (units : List FlatUnit) (using' : FlatUsing) where
    chosen-one : (leaf : Leaf) → parts.chosen_again (own_map d units leaf) (picks_in d using'.uses) ≡ least (map place_of (spec.chosen_again d units leaves using' leaf))
    chosen-one leaf = families-again (own_map d units leaf) (picks_in d using'.uses)

    abbrev rest_of : List Ref → List (ℕ × Pick)
    rest_of refs = flat_map (spec.chosen_again d units leaves using') (flat_map (λ (of : Ref). option_to_list (leaf_named leaves of)) refs)

    chosen-each : (refs : List Ref) → parts.chosen_for_each d units (picks_in d using'.uses) (flat_map (proved_one leaves) refs) ≡ least (map place_of (flat_map (spec.chosen_again d units leaves using') (flat_map (λ (of : Ref). option_to_list (leaf_named leaves of)) refs)))
    chosen-each [] = refl
    chosen-each (of ∷ refs) = on (leaf_named leaves of) (chosen-each refs)
      where
        on : (o : Option Leaf) → parts.chosen_for_each d units (picks_in d using'.uses) (flat_map (proved_one leaves) refs) ≡ least (map place_of (rest_of refs)) → parts.chosen_for_each d units (picks_in d using'.uses) (proved_as of o ++ flat_map (proved_one leaves) refs) ≡ least (map place_of (flat_map (spec.chosen_again d units leaves using') (option_to_list o ++ flat_map (λ (of : Ref). option_to_list (leaf_named leaves of)) refs)))
        on None h = h
        on (Some leaf) h =
            firsts (chosen-one leaf) h
            ∙ sym (ap least (map-append place_of (spec.chosen_again d units leaves using' leaf) (rest_of refs)) ∙ least-append (map place_of (spec.chosen_again d units leaves using' leaf)) (map place_of (rest_of refs)))

    twice-one : twice_in d units (reading_in d leaves using') ≡ least (spec.picked_again d units leaves using' ++ spec.assumed_again d using' ++ spec.kept_again d using')
    twice-one =
        let picks = picks_in d using'.uses in
        let map' = map place_of (later same_map picks) in
        let family = map place_of (flat_map (spec.chosen_again d units leaves using') (spec.proved_leaves d units leaves using')) in
        let claim = spec.assumed_again d using' in
        let set = spec.kept_again d using' in
        let first' : first_of_places (least (again same_key [] (map_keys (flat_map (picks_by d) using'.uses)))) (parts.chosen_for_each d units (flat_map (picks_by d) using'.uses) (flat_map (proved_one leaves) using'.proves)) ≡ first_of_places (least map') (least family) =
        ap (λ l. first_of_places (least (again same_key [] (map_keys l))) (parts.chosen_for_each d units l (flat_map (proved_one leaves) using'.proves))) (all-picks d using'.uses)
        ∙ firsts (maps-again picks) (chosen-each using'.proves) in
        let second : first_of_places (least (again same_key [] (claim_keys (flat_map (claims_by d) using'.uses)))) (least (again bytes_eq [] (set_keys (parts.sets_of d) using'.uses))) ≡ first_of_places (least claim) (least set) =
        firsts (ap (λ l. least (again same_key [] (claim_keys l))) (all-claims d using'.uses) ∙ claims-again (assumed_in d using'.uses)) (sets-again d using') in
        firsts first' second
        ∙ sym (first-assoc (first_of_places (least map') (least family)) (least claim) (least set))
        ∙ ap (λ o. first_of_places (first_of_places o (least claim)) (least set)) (sym (ap least (map-append place_of (later same_map picks) (flat_map (spec.chosen_again d units leaves using') (spec.proved_leaves d units leaves using'))) ∙ least-append map' family))
        ∙ ap (λ o. first_of_places o (least set)) (sym (least-append (spec.picked_again d units leaves using') claim))
        ∙ sym (least-append (spec.picked_again d units leaves using' ++ claim) set)

-- ---- what does not fit

param-in : (set : ℕ) (brackets : List Word) (params : List Param) (word : Word) → is_param_in set brackets params word ≡ list_any (λ (x : Word × Param). bytes_eq x.0.name word.name && is_set set x.1.over) (zip brackets params)
param-in set [] params word = refl
param-in set (name ∷ brackets) [] word = refl
param-in set (name ∷ brackets) (p ∷ params) word = ap (λ b. (bytes_eq name.name word.name && is_set set p.over) || b) (param-in set brackets params word)

fit-all : (at set : ℕ) (word : Word) (proved : List (Ref × Leaf)) → least (flat_map (λ (x : Ref × Leaf). place_if (not (is_param_over set x.0 x.1 word)) at) proved) ≡ least (place_if (not (fits set proved word)) at)
fit-all at set word [] = refl
fit-all at set word (x ∷ proved) =
    ap (λ b. least (place_if (not b) at ++ flat_map (λ (x : Ref × Leaf). place_if (not (is_param_over set x.0 x.1 word)) at) proved)) (sym (param-in set x.0.names x.1.params word))
    ∙ on (is_param_in set x.0.names x.1.params word) (fit-all at set word proved)
  where
    rest : (b : Bool) → first_of_places (Some at) (least (place_if b at)) ≡ Some at
    rest true = ap Some (omega arith)
    rest false = refl

    on : (b : Bool) → least (flat_map (λ (x : Ref × Leaf). place_if (not (is_param_over set x.0 x.1 word)) at) proved) ≡ least (place_if (not (fits set proved word)) at) → least (place_if (not b) at ++ flat_map (λ (x : Ref × Leaf). place_if (not (is_param_over set x.0 x.1 word)) at) proved) ≡ least (place_if (not (b && fits set proved word)) at)
    on true h = h
    on false h = ap (first_of_places (Some at)) h ∙ rest (not (fits set proved word))

module _ (d : Design) (leaves : List Leaf) where
  proved-by : (refs : List Ref) → flat_map (λ (of : Ref). map (λ leaf. (of, leaf)) (option_to_list (leaf_named leaves of))) refs ≡ flat_map (proved_one leaves) refs
  proved-by refs = flat_map_agree (λ (of : Ref). map (λ leaf. (of, leaf)) (option_to_list (leaf_named leaves of))) (proved_one leaves) (λ of. on of (leaf_named leaves of)) refs
    where
      on : (of : Ref) (o : Option Leaf) → map (λ leaf. (of, leaf)) (option_to_list o) ≡ proved_as of o
      on of None = refl
      on of (Some leaf) = refl

  module _ (proved : List (Ref × Leaf)) where
    abbrev no_set : Braces → List ℕ
    no_set braces = place_if (is_none (set_named d braces.set.name)) braces.set.at

    abbrev unfit : Braces → ℕ → List ℕ
    unfit braces set = flat_map (λ (word : Word). flat_map (λ (x : Ref × Leaf). place_if (not (is_param_over set x.0 x.1 word)) word.at) proved) braces.names

    abbrev no_param : Braces → List ℕ
    no_param braces = flat_map (unfit braces) (option_to_list (set_named d braces.set.name))

    unfit-first : (braces : Braces) (set : ℕ) → least (unfit braces set) ≡ least (flat_map (λ (word : Word). place_if (not (fits set proved word)) word.at) braces.names)
    unfit-first braces set =
        least-each (λ (word : Word). flat_map (λ (x : Ref × Leaf). place_if (not (is_param_over set x.0 x.1 word)) word.at) proved) (λ (word : Word). place_if (not (fits set proved word)) word.at) (λ word. fit-all word.at set word proved) braces.names

    one-braces : (braces : Braces) (o : Option ℕ) → names_misfit proved braces.names braces.set.at o ≡ first_of_places (least (place_if (is_none o) braces.set.at)) (least (flat_map (unfit braces) (option_to_list o)))
    one-braces braces None = refl
    one-braces braces (Some set) = sym (unfit-first braces set) ∙ ap least (sym (append-nil (unfit braces set)))

    braces-first : (uses : List Use) → first_among (map (braces_misfit (parts.sets_of d) proved) uses) ≡ first_of_places (least (flat_map no_set (braces_in uses))) (least (flat_map no_param (braces_in uses)))
    braces-first [] = refl
    braces-first (Plain of ∷ uses) = braces-first uses
    braces-first (Early of ∷ uses) = braces-first uses
    braces-first (Keep set names at ∷ uses) =
        let braces : Braces = record { set = set; names = names } in
        firsts (one-braces braces (set_named d set.name)) (braces-first uses)
        ∙ swapped (least (no_set braces)) (least (no_param braces)) (least (flat_map no_set (braces_in uses))) (least (flat_map no_param (braces_in uses)))
        ∙ firsts (sym (least-append (no_set braces) (flat_map no_set (braces_in uses)))) (sym (least-append (no_param braces) (flat_map no_param (braces_in uses))))

  types-in : (bound : List Param) (words : List Word) (params : List Param) →
      other_types_in bound words params ≡ flat_map (λ (x : Word × Param). place_if (list_any (λ (b : Param). not (same_type b.over x.1.over)) (with_name bound x.0)) x.0.at) (zip words params)
  types-in bound [] params = refl
  types-in bound (word ∷ words) [] = refl
  types-in bound (word ∷ words) (p ∷ params) = ap (λ l. parts.other_type bound word p ++ l) (types-in bound words params)

  misnamed-first : (bound : List Param) (x : Ref × Leaf) → parts.misnamed bound x ≡ least (spec.misnamed bound x)
  misnamed-first bound x =
      let a = miscounted (length x.1.params) x.0.names in
      let b = spec.unbound_names bound x.0 in
      let c = doubled x.0.names in
      let e = spec.other_types bound x.0 x.1 in
      ap (λ l. first_of_places (first_of_places (least a) (least b)) (first_of_places (least c) (least l))) (types-in bound x.0.names x.1.params)
      ∙ sym (first-assoc (first_of_places (least a) (least b)) (least c) (least e))
      ∙ ap (λ o. first_of_places (first_of_places o (least c)) (least e)) (sym (least-append a b))
      ∙ ap (λ o. first_of_places o (least e)) (sym (least-append (a ++ b) c))
      ∙ sym (least-append (a ++ b ++ c) e)

  misfit-one : (using' : FlatUsing) → misfit_in d (reading_in d leaves using') ≡ least (spec.no_sets d using' ++ spec.no_params d leaves using' ++ flat_map (spec.misnamed using'.bound) (spec.proved_by d leaves using'))
  misfit-one using' =
      let proved = flat_map (proved_one leaves) using'.proves in
      let same : spec.proved_by d leaves using' ≡ proved = proved-by using'.proves in
      let a = spec.no_sets d using' in
      let b = spec.no_params d leaves using' in
      let c = flat_map (spec.misnamed using'.bound) (spec.proved_by d leaves using') in
      firsts (braces-first proved using'.uses ∙ ap (λ ps. first_of_places (least a) (least (flat_map (no_param ps) (braces_in using'.uses)))) (sym same))
      (among-list (parts.misnamed using'.bound) (spec.misnamed using'.bound) (misnamed-first using'.bound) proved ∙ ap (λ ps. least (flat_map (spec.misnamed using'.bound) ps)) (sym same))
      ∙ ap (λ o. first_of_places o (least c)) (sym (least-append a b))
      ∙ sym (least-append (a ++ b) c)

-- ---- the first of all

module _ (d : Design) (units : List FlatUnit) (leaves : List Leaf) where
  unknown-one : (using' : FlatUsing) → unknown_in (reading_in d leaves using') ≡ least (spec.unknown_uses d using' ++ spec.unknown_leaves leaves using')
  unknown-one using' =
      firsts (ap least (all-unknown d using'.uses)) (ap least (unknown-leaves leaves using'.proves)) ∙ sym (least-append (spec.unknown_uses d using') (spec.unknown_leaves leaves using'))

  first-is : first_fault d units (map (reading_in d leaves) d.uses) ≡ first_of (flat_map faults_at (spec.use_faults d units leaves))
  first-is =
      let again' = spec.proved_again d leaves in
      let twice' = flat_map (λ (using' : FlatUsing). spec.picked_again d units leaves using' ++ spec.assumed_again d using' ++ spec.kept_again d using') d.uses in
      two 26 (flat_map (λ (using' : FlatUsing). spec.unknown_uses d using' ++ spec.unknown_leaves leaves using') d.uses) _ _ _
      (among-each unknown_in (reading_in d leaves) (λ (using' : FlatUsing). spec.unknown_uses d using' ++ spec.unknown_leaves leaves using') unknown-one d.uses)
      (two 27 (again' ++ twice') _ _ _
      (firsts (proved-again leaves d) (among-each (twice_in d units) (reading_in d leaves) (λ (using' : FlatUsing). spec.picked_again d units leaves using' ++ spec.assumed_again d using' ++ spec.kept_again d using') (twice-one leaves d units) d.uses)
      ∙ sym (least-append again' twice'))
      (one 28 (flat_map (λ (using' : FlatUsing). spec.no_sets d using' ++ spec.no_params d leaves using' ++ flat_map (spec.misnamed using'.bound) (spec.proved_by d leaves using')) d.uses) _
      (among-each (misfit_in d) (reading_in d leaves) (λ (using' : FlatUsing). spec.no_sets d using' ++ spec.no_params d leaves using' ++ flat_map (spec.misnamed using'.bound) (spec.proved_by d leaves using')) (misfit-one d leaves) d.uses)))

-- the first fault by what is read of each `using` is the first fault of uses
pub uses-first : (d : Design) (units : List FlatUnit) (all : List Said) → units ≡ units_of d → all ≡ map (reading_in d (leaves_of d)) d.uses → first_fault d units all ≡ first_fault_of_uses d
uses-first d units all u e = ap (first_fault d units) e ∙ first-is d units (leaves_of d) ∙ ap (λ us. first_of (flat_map faults_at (spec.use_faults d us (leaves_of d)))) u
