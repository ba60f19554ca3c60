-- The parts of choices, found one after the other.
use Rattle.std.proofs.Common.{◌≡◌, ℕ, suc, ◌+◌, List, [], ◌∷◌, ◌++◌, map, zip, length, Bool, true, false, cond, ◌||◌, if◌then◌else◌, refl, ap, sym, ◌∙◌, Option, Some, None, option_map, option_and_then, filter, find}
use Rattle.std.specs.Prelude.{is_none, is_some, option_to_list, Result, Ok, Err, IfOk}
use Rattle.std.specs.Str.{bytes_eq}
use Rattle.std.specs.List.{flat_map, slice_get}
use Rattle.std.proofs.lemmas.List.{map-append}
use Rattle.law_lists.proofs.Lists.{append_same}
use Rattle.smv_core.specs.Values.{Name, numbers_from}
use Rattle.smv_core.specs.declared.tree.Word.{Word}
use Rattle.smv_core.specs.declared.tree.Ref.{Ref}
use Rattle.smv_core.specs.declared.tree.Use.{Use}
use Rattle.smv_core.specs.declared.tree.Use.TheVariants.{Plain, Early, Keep}
use Rattle.smv_core.specs.declared.flat.Design.{Design}
use Rattle.smv_core.specs.declared.flat.Def.{Def}
use Rattle.smv_core.specs.declared.flat.Claim.{Claim as FlatClaim}
use Rattle.smv_core.specs.declared.flat.FlatUsing.{FlatUsing}
use Rattle.smv_core.specs.declared.flat.Unit.{Unit as FlatUnit}
use Rattle.smv_core.specs.declared.flat.Leaf.{Leaf}
use Rattle.smv_core.specs.declared.flat.Keep.{Keep as FlatKeep}
use Rattle.smv_core.specs.declared.flat.Pick.{Pick}
use Rattle.smv_core.specs.declared.flat.Assumed.{Assumed}
use Rattle.smv_mentions.specs.NameFaults.{place_if}
use Rattle.law_obligations.specs.Outlines.{as_map, as_claim, map_in}
use Rattle.law_obligations.specs.Units.{units_of}
use Rattle.law_splits.specs.Leaves.{named_by, leaves_of}
use Rattle.name_index.specs.Position.{position}
use Rattle.law_uses.specs.declared.meaning.Meaning.{Meaning}
use Rattle.law_uses.specs.declared.meaning.Meaning.TheVariants.{Definition, Claim}
use Rattle.law_uses.specs.Uses.{Used, braces_in, meaning_of, used_in, pick_by, assumed_by, picks_in, assumed_in}
use Rattle.law_uses.specs.Choices as spec
use Rattle.law_uses.specs.Choices.{Proof, proofs_in, is_among, kept_params, choices_of}
use Rattle.smv_choices.specs.Parts.{picks_meant, claims_meant, picks_by, claims_by, unknown_by, kept_as, kept_one, kept_from, keep_with, sets_of, choice_with, without_places}
use Rattle.smv_choices.specs.Readings.{Said, Proving, reading_in, proofs, names_held, choice_held, choice_of}

-- ---- units

pub own-map : (o : Option Def) → map_in (as_map o) ≡ o
own-map None = refl
own-map (Some def) = refl

pub own-claim : (o : Option FlatClaim) → map_in (as_claim o) ≡ None
own-claim None = refl
own-claim (Some claim) = refl

pub ruleset units = (own-map, own-claim)

-- ---- picks and claims

one-pick : (used : Used) (o : Option Meaning) → picks_meant o used.of.at used.early ≡ pick_by used o
one-pick used None = refl
one-pick used (Some (Definition family layer)) = refl
one-pick used (Some (Claim k)) = refl

one-claim : (used : Used) (o : Option Meaning) → claims_meant o used.of.at used.early ≡ assumed_by used o
one-claim used None = refl
one-claim used (Some (Definition family layer)) = refl
one-claim used (Some (Claim k)) = refl

pub all-picks : (d : Design) (uses : List Use) → flat_map (picks_by d) uses ≡ picks_in d uses
all-picks d [] = refl
all-picks d (Plain of ∷ uses) = append_same (one-pick (record { of = of; early = false }) (meaning_of d of)) (all-picks d uses)
all-picks d (Early of ∷ uses) = append_same (one-pick (record { of = of; early = true }) (meaning_of d of)) (all-picks d uses)
all-picks d (Keep set names at ∷ uses) = all-picks d uses

pub all-claims : (d : Design) (uses : List Use) → flat_map (claims_by d) uses ≡ assumed_in d uses
all-claims d [] = refl
all-claims d (Plain of ∷ uses) = append_same (one-claim (record { of = of; early = false }) (meaning_of d of)) (all-claims d uses)
all-claims d (Early of ∷ uses) = append_same (one-claim (record { of = of; early = true }) (meaning_of d of)) (all-claims d uses)
all-claims d (Keep set names at ∷ uses) = all-claims d uses

pub all-unknown : (d : Design) (uses : List Use) → flat_map (unknown_by d) uses ≡ flat_map (λ (used : Used). place_if (is_none (meaning_of d used.of)) used.of.at) (used_in uses)
all-unknown d [] = refl
all-unknown d (Plain of ∷ uses) = ap (λ l. place_if (is_none (meaning_of d of)) of.at ++ l) (all-unknown d uses)
all-unknown d (Early of ∷ uses) = ap (λ l. place_if (is_none (meaning_of d of)) of.at ++ l) (all-unknown d uses)
all-unknown d (Keep set names at ∷ uses) = all-unknown d uses

-- ---- parameters that stay

name-among : (names : List Word) (word : Word) → is_some (position (map (λ (w : Word). w.name) names) word.name) ≡ is_among names word
name-among [] word = refl
name-among (x ∷ names) word = at (bytes_eq x.name word.name) (position (map (λ (w : Word). w.name) names) word.name) (name-among names word)
  where
    at : (b : Bool) (o : Option ℕ) → is_some o ≡ is_among names word → is_some (if b then Some 0 else option_map suc o) ≡ (b || is_among names word)
    at true o e = refl
    at false None e = e
    at false (Some k) e = e

kept-numbers : (k : ℕ) (brackets names : List Word) →
    kept_from k brackets (map (λ (w : Word). w.name) names) ≡ map (λ (x : ℕ × Word). x.0) (filter (λ (x : ℕ × Word). is_among names x.1) (zip (numbers_from k (length brackets)) brackets))
kept-numbers k [] names = refl
kept-numbers k (word ∷ brackets) names =
    ap (λ b. (if b then k ∷ [] else []) ++ kept_from (k + 1) brackets (map (λ (w : Word). w.name) names)) (name-among names word)
    ∙ at (is_among names word) (kept_from (k + 1) brackets (map (λ (w : Word). w.name) names)) _ (kept-numbers (k + 1) brackets names)
  where
    at : (b : Bool) (rest : List ℕ) (more : List (ℕ × Word)) → rest ≡ map (λ (x : ℕ × Word). x.0) more → (if b then k ∷ [] else []) ++ rest ≡ map (λ (x : ℕ × Word). x.0) (cond b ((k, word) ∷ more) more)
    at true rest more e = ap (λ l. k ∷ l) e
    at false rest more e = e

kept-braces : (of : Ref) (names : List Word) (o : Option ℕ) → map (keep_with of) (kept_as names o) ≡ map (λ set. record { set = set; params = kept_params of.names names }) (option_to_list o)
kept-braces of names None = refl
kept-braces of names (Some set) = ap (λ params. keep-of set params ∷ []) (kept-numbers 0 of.names names)
  where
    keep-of : ℕ → List ℕ → FlatKeep
    keep-of set params = record { set = set; params = params }

all-kept : (d : Design) (of : Ref) (uses : List Use) → map (keep_with of) (flat_map (kept_one (sets_of d)) uses) ≡ flat_map (spec.keep_by d of) (braces_in uses)
all-kept d of [] = refl
all-kept d of (Plain x ∷ uses) = all-kept d of uses
all-kept d of (Early x ∷ uses) = all-kept d of uses
all-kept d of (Keep set names at ∷ uses) =
    map-append (keep_with of) (kept_as names (position (sets_of d) set.name)) (flat_map (kept_one (sets_of d)) uses) ∙ append_same (kept-braces of names (position (sets_of d) set.name)) (all-kept d of uses)

-- ---- what is found by its name

pub found-there : {X Y : Type 0} (f : X → Y) (name_of : Y → Name) (xs : List X) (name : Name) →
    option_map f (option_and_then (slice_get xs) (position (map (λ x. name_of (f x)) xs) name)) ≡ find (λ y. bytes_eq (name_of y) name) (map f xs)
found-there f name_of [] name = refl
found-there {X} {Y} f name_of (x ∷ xs) name = at (bytes_eq (name_of (f x)) name) (position (map (λ x. name_of (f x)) xs) name) (found-there f name_of xs name)
  where
    at : (b : Bool) (o : Option ℕ) → option_map f (option_and_then (slice_get xs) o) ≡ find (λ y. bytes_eq (name_of y) name) (map f xs) →
        option_map f (option_and_then (slice_get (x ∷ xs)) (if b then Some 0 else option_map suc o)) ≡ cond b (Some (f x)) (find (λ y. bytes_eq (name_of y) name) (map f xs))
    at true o e = refl
    at false None e = e
    at false (Some k) e = e

-- ---- choices

abbrev pub proving : Said → Ref → Proving
proving x of = record { by = x; of = of }

abbrev pub proof_in : FlatUsing → Ref → Proof
proof_in using' of = record { using = using'; of = of }

module _ (d : Design) (leaves : List Leaf) where
  -- what is held of a proof
  abbrev of_proof : Proof → Proving
  of_proof p = proving (reading_in d leaves p.using) p.of

  proofs-one : (using' : FlatUsing) (refs : List Ref) → map (proving (reading_in d leaves using')) refs ≡ map of_proof (map (proof_in using') refs)
  proofs-one using' [] = refl
  proofs-one using' (of ∷ refs) = ap (λ l. proving (reading_in d leaves using') of ∷ l) (proofs-one using' refs)

  proofs-all : (uses : List FlatUsing) → proofs (map (reading_in d leaves) uses) ≡ map of_proof (proofs_in uses)
  proofs-all [] = refl
  proofs-all (using' ∷ uses) = append_same (proofs-one using' using'.proves) (proofs-all uses) ∙ sym (map-append of_proof (map (proof_in using') using'.proves) (proofs_in uses))

  found-held : (leaf : Leaf) (ps : List Proof) → find (names_held leaf) (map of_proof ps) ≡ option_map of_proof (find (λ (p : Proof). bytes_eq (named_by p.of) leaf.name) ps)
  found-held leaf [] = refl
  found-held leaf (p ∷ ps) = at (bytes_eq (named_by p.of) leaf.name) (found-held leaf ps)
    where
      at : (b : Bool) → find (names_held leaf) (map of_proof ps) ≡ option_map of_proof (find (λ (p : Proof). bytes_eq (named_by p.of) leaf.name) ps) → cond b (Some (of_proof p)) (find (names_held leaf) (map of_proof ps)) ≡ option_map of_proof (cond b (Some p) (find (λ (p : Proof). bytes_eq (named_by p.of) leaf.name) ps))
      at true e = refl
      at false e = e

  made : (units : List FlatUnit) (leaf : Leaf) (o : Option Proof) → choice_held d units leaf (option_map of_proof o) ≡ spec.choice_by d units leaf o
  made units leaf None = refl
  made units leaf (Some p) =
      let own = spec.own_map d units leaf in
      let keeps = map (keep_with p.of) (flat_map (kept_one (sets_of d)) p.using.uses) in
      ap (λ picks. choice_with own (without_places picks) (without_places (flat_map (claims_by d) p.using.uses)) keeps) (all-picks d p.using.uses)
      ∙ ap (λ claims. choice_with own (without_places (picks_in d p.using.uses)) (without_places claims) keeps) (all-claims d p.using.uses)
      ∙ ap (choice_with own (without_places (picks_in d p.using.uses)) (without_places (assumed_in d p.using.uses))) (all-kept d p.of p.using.uses)

  choice-is : (units : List FlatUnit) (leaf : Leaf) → choice_of d units (proofs (map (reading_in d leaves) d.uses)) leaf ≡ spec.choice_of d units leaf
  choice-is units leaf =
      ap (λ ps. choice_held d units leaf (find (names_held leaf) ps)) (proofs-all d.uses) ∙ ap (choice_held d units leaf) (found-held leaf (proofs_in d.uses)) ∙ made units leaf (find (λ (p : Proof). bytes_eq (named_by p.of) leaf.name) (proofs_in d.uses))

  choices-are : (units : List FlatUnit) (ls : List Leaf) → map (choice_of d units (proofs (map (reading_in d leaves) d.uses))) ls ≡ map (spec.choice_of d units) ls
  choices-are units [] = refl
  choices-are units (leaf ∷ ls) = ap (λ c. c ∷ map (choice_of d units (proofs (map (reading_in d leaves) d.uses))) ls) (choice-is units leaf) ∙ ap (λ l. spec.choice_of d units leaf ∷ l) (choices-are units ls)

-- what is made of each leaf is its choice
pub choices-made : (d : Design) (units : List FlatUnit) (leaves : List Leaf) (all : List Said) → units ≡ units_of d → leaves ≡ leaves_of d → all ≡ map (reading_in d leaves) d.uses →
    map (choice_of d units (proofs all)) leaves ≡ choices_of d
choices-made d units leaves all u l e =
    ap (λ all. map (choice_of d units (proofs all)) leaves) e ∙ choices-are d leaves units leaves ∙ ap (λ units. map (spec.choice_of d units) leaves) u ∙ ap (map (spec.choice_of d (units_of d))) l

pub same-choice : {own own' : Option Def} {picks picks' : List Pick} {claims claims' : List Assumed} {keeps keeps' : List FlatKeep} → own ≡ own' → picks ≡ picks' → claims ≡ claims' → keeps ≡ keeps' →
    choice_with own picks claims keeps ≡ choice_with own' picks' claims' keeps'
same-choice p q r s = cc

pub made-of : {X E : Type 0} (r : Result X E) (x y : X) → IfOk r (λ z. z ≡ x) → x ≡ y → IfOk r (λ z. z ≡ y)
made-of (Ok z) x y e f = e ∙ f
made-of (Err z) x y e f = tt
