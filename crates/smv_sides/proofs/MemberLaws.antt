-- Listed sets.
use Rattle.std.proofs.Common.{◌≡◌, ◌⊎◌, inl, inr, ℕ, suc, zero, ◌<◌, ◌≤◌, drop, get_or, ◌+◌, ◌-◌, List, [], ◌∷◌, ◌++◌, map, length, arith, Bool, true, false, not, ◌&&◌, ◌||◌, Some, refl, sym, ap, ◌∙◌, nat_le}
use Rattle.std.specs.List.{flat_map, list_any, list_all}
use Rattle.std.proofs.Math.Seq.{drop-cons}
use Rattle.std.proofs.lemmas.Bool.{cases_Bool}
use Rattle.law_lists.proofs.Anys.{any-map, any-flat_map, any-agree}
use Rattle.smv_core.specs.Values.{number, numbers_from}
use Rattle.smv_core.specs.declared.flat.FlatExpr.{FlatExpr, List as Listed}
use Rattle.smv_core.specs.declared.flat.FlatMember.{FlatMember, One, Span}
use Rattle.law_obligations.specs.Places.{Place, named, is_among, AbsOutcome}
use Rattle.law_obligations.specs.May.{may}
use Rattle.law_obligations.specs.Right.{gives, is_outside, may_give_some, may_allow, must_allow}
use Rattle.law_obligations.specs.Mix.{is_there}
use Rattle.law_obligations.specs.Combined.{of_member}
use Rattle.law_obligations.proofs.MixLaws.{or_same}
use Rattle.law_obligations.proofs.RightLaws.{may_Listed, must_Listed, surely_of_member}
use Rattle.smv_spots.specs.declared.spots.Spot.{Spot}
use Rattle.smv_spots.specs.Spots.{place_in}
use Rattle.smv_problem.specs.declared.problem.Problem.{Problem}
use Rattle.smv_conditions.specs.Keep.{KeepsConditions}
use Rattle.smv_cells.specs.declared.cells.Cell.{Cell}
use Rattle.smv_cells.specs.Cells.{AreCellsMade}
use Rattle.smv_cells.specs.Seen.{outcomes}
use Rattle.smv_outcomes.specs.Outcomes.{member_in}
use Rattle.smv_outcomes.specs.Remembered.{Entries, AreKnown}
use Rattle.smv_targets.specs.declared.targets.Target.{Target}
use Rattle.smv_targets.specs.declared.targets.Sense.{Sense}
use Rattle.smv_targets.specs.declared.targets.Sense.TheVariants as sense
use Rattle.smv_targets.specs.Targets.{Aim, IsAim, IsTargetMade, IsSo, meant}
use Rattle.smv_targets.proofs.AimLaws.{aim_on}
use Rattle.smv_sides.specs.Sides.{IsOfTarget, numbers_mean, member_means, members_mean, some_means, member_allows, members_allow, stands_for, may_allowed, must_allowed}

-- what a loop over members keeps: with the members that are still to come, some member allows the value
pub record Listing {S C : Type 0} (IsMade : S → C → Type 0) (holds : S → C → (ℕ → Bool) → Bool) (room : S → ℕ) (start s : S) (problem : Problem) (cells : List (Cell C)) (entries : Entries C) (x : Target C) (b : List Spot) (rest all : List FlatMember) (r : C) : Type 0 where
  pub keeps : KeepsConditions IsMade holds room start s
  pub made : IsMade s r
  pub cells_made : AreCellsMade (IsMade s) cells
  pub known : AreKnown IsMade holds s problem cells entries
  pub target_made : IsTargetMade (IsMade s) x
  pub is : (z : Aim) → IsAim holds start problem cells x z → (a : ℕ → Bool) → (holds s r a || members_allow b rest z a) ≡ members_allow b all z a

append_there : {Y : Type 0} (xs ys : List Y) → is_there (xs ++ ys) ≡ (is_there xs || is_there ys)
append_there [] ys = refl
append_there (x ∷ xs) ys = refl

numbers_there : (low high : ℕ) → is_there (map (λ k. Some (named (number k)) ∷ []) (numbers_from low (high + 1 - low))) ≡ nat_le low high
numbers_there low high = at (high + 1 - low) (nat_le low high) (elim (cases_Bool (nat_le low high)) [ inl e ↦ inr ((high - low, some low high e), e) | inr e ↦ inl (none low high e, e) ])
  where
    some : (low high : ℕ) → nat_le low high ≡ true → high + 1 - low ≡ suc (high - low)
    some low high e = grind arith

    none : (low high : ℕ) → nat_le low high ≡ false → high + 1 - low ≡ 0
    none low high e = grind arith

    at : (k : ℕ) (b : Bool) → ((k ≡ 0) × (b ≡ false)) ⊎ (((j : ℕ) × (k ≡ suc j)) × (b ≡ true)) → is_there (map (λ k. Some (named (number k)) ∷ []) (numbers_from low k)) ≡ b
    at k b (inl e) = ap (λ k. is_there (map (λ k. Some (named (number k)) ∷ []) (numbers_from low k))) e.0 ∙ sym e.1
    at k b (inr e) = ap (λ k. is_there (map (λ k. Some (named (number k)) ∷ []) (numbers_from low k))) e.0.1 ∙ sym e.1

last : (b : Bool) → b ≡ (b || false)
last true = refl
last false = refl

-- a span by its numbers
spanned : (every : List Place) (p : Place) (k : Sense) (ks : List ℕ) → list_any (λ j. meant k every (Some (named (number j))) p) ks ≡ list_any (λ us. list_any (λ u. meant k every u p) us) (map (λ j. Some (named (number j)) ∷ []) ks)
spanned every p k ks =
    any-agree (λ j. meant k every (Some (named (number j))) p) (λ j. list_any (λ u. meant k every u p) (Some (named (number j)) ∷ [])) ks (λ j. last (meant k every (Some (named (number j))) p))
    ∙ sym (any-map (λ us. list_any (λ u. meant k every u p) us) (λ j. Some (named (number j)) ∷ []) ks)

module _ {S C : Type 0} (holds : S → C → (ℕ → Bool) → Bool) where
  pub member_one : (s t : S) (problem : Problem) (cells : List (Cell C)) (x : Target C) (k : Sense) (b : List Spot) (member : FlatMember) (e shown : FlatExpr) (r : C) → member ≡ One e → shown ≡ e →
      IsSo holds s t problem cells x (some_means k b shown) r → IsSo holds s t problem cells x (member_means k b member) r
  unfolding IsSo member_means some_means member_in outcomes
  member_one s t problem cells x k b member e shown r f g is z aim a =
      is z aim a ∙ (ap (λ (e : FlatExpr). list_any (λ u. meant k z.every u (z.value a)) (outcomes z.view a e b)) g
      ∙ (last (list_any (λ u. meant k z.every u (z.value a)) (outcomes z.view a e b)) ∙ ap (λ (m : FlatMember). list_any (λ us. list_any (λ u. meant k z.every u (z.value a)) us) (member_in z.view a b m)) (sym f)))

  pub member_span : (s t : S) (problem : Problem) (cells : List (Cell C)) (x : Target C) (k : Sense) (b : List Spot) (member : FlatMember) (low high at bottom top : ℕ) (r : C) → member ≡ Span (record { low = low; high = high }) at → bottom ≡ low → top ≡ high + 1 →
      IsOfTarget holds s t problem x (numbers_mean k (numbers_from bottom (top - bottom))) r → IsSo holds s t problem cells x (member_means k b member) r
  unfolding IsSo IsOfTarget member_means numbers_mean member_in
  member_span s t problem cells x k b member low high at bottom top r f d e is z aim a =
      is z aim.seen.world aim.target a ∙ (ap (λ i. list_any (λ j. meant k z.every (Some (named (number j))) (z.value a)) (numbers_from i (top - i))) d ∙ (ap (λ i. list_any (λ j. meant k z.every (Some (named (number j))) (z.value a)) (numbers_from low (i - low))) e
      ∙ (spanned z.every (z.value a) k (numbers_from low (high + 1 - low))
      ∙ ap (λ (m : FlatMember). list_any (λ us. list_any (λ u. meant k z.every u (z.value a)) us) (member_in z.view a b m)) (sym f))))

  pub members_end : (s : S) (problem : Problem) (cells : List (Cell C)) (x : Target C) (k : Sense) (b : List Spot) (members : List FlatMember) (r : C) → length members ≡ 0 → ((a : ℕ → Bool) → holds s r a ≡ false) → IsSo holds s s problem cells x (members_mean k b members) r
  unfolding IsSo members_mean
  members_end s problem cells x k b [] r e none z aim a = none a
  members_end s problem cells x k b (m ∷ ms) r e none z aim a = absurd (omega arith)

module _ {S C : Type 0} (IsMade : S → C → Type 0) (holds : S → C → (ℕ → Bool) → Bool) (room : S → ℕ) where
  pub members_go : (s mid next t : S) (problem : Problem) (cells : List (Cell C)) (x : Target C) (k : Sense) (b : List Spot) (member : FlatMember) (others members : List FlatMember) (more here r : C) → members ≡ member ∷ others →
      KeepsConditions IsMade holds room s mid → KeepsConditions IsMade holds room mid next → IsMade mid more → AreCellsMade (IsMade s) cells → IsTargetMade (IsMade s) x →
      IsSo holds s mid problem cells x (members_mean k b others) more → IsSo holds mid next problem cells x (member_means k b member) here → ((a : ℕ → Bool) → holds t r a ≡ (holds next here a || holds next more a)) → IsSo holds s t problem cells x (members_mean k b members) r
  unfolding IsSo members_mean
  members_go s mid next t problem cells x k b member others members more here r e l o m made target rest one whole z aim a =
      whole a ∙ (or_same (one z (aim_on IsMade holds room s mid problem cells x z l made target aim) a) (o.same more m a ∙ rest z aim a) ∙ ap (list_any (λ (y : FlatMember). member_means k b y z a)) (sym e))

-- What a loop over members keeps, from the last to the first: some member that was taken means it.
pub record Gathered {S C : Type 0} (IsMade : S → C → Type 0) (holds : S → C → (ℕ → Bool) → Bool) (room : S → ℕ) (start s : S) (problem : Problem) (cells : List (Cell C)) (entries : Entries C) (x : Target C) (k : Sense) (b : List Spot) (taken : List FlatMember) (r : C) : Type 0 where
  pub keeps : KeepsConditions IsMade holds room start s
  pub made : IsMade s r
  pub cells_made : AreCellsMade (IsMade s) cells
  pub known : AreKnown IsMade holds s problem cells entries
  pub target_made : IsTargetMade (IsMade s) x
  pub is : IsSo holds start s problem cells x (members_mean k b taken) r

module _ {S C : Type 0} (holds : S → C → (ℕ → Bool) → Bool) where
  nothing_left : (members : List FlatMember) → length (drop (length members) members) ≡ 0
  nothing_left [] = refl
  nothing_left (m ∷ members) = nothing_left members

  pub gathered_none : (s : S) (problem : Problem) (cells : List (Cell C)) (x : Target C) (k : Sense) (b : List Spot) (members : List FlatMember) (r : C) → ((a : ℕ → Bool) → holds s r a ≡ false) → IsSo holds s s problem cells x (members_mean k b (drop (length members) members)) r
  gathered_none s problem cells x k b members r none = members_end holds s problem cells x k b (drop (length members) members) r (nothing_left members) none

  pub gathered_all : (start s : S) (problem : Problem) (cells : List (Cell C)) (x : Target C) (k : Sense) (b : List Spot) (members : List FlatMember) (place : ℕ) (r : C) → place ≤ 0 → IsSo holds start s problem cells x (members_mean k b (drop place members)) r →
      IsSo holds start s problem cells x (members_mean k b members) r
  gathered_all start s problem cells x k b members zero r none is = is
  gathered_all start s problem cells x k b members (suc place) r none is = absurd (omega arith)

pub longer : (members : List FlatMember) (place : ℕ) (member : FlatMember) → 0 < place → place ≤ length members → member ≡ get_or members (place - 1) member → drop (place - 1) members ≡ member ∷ drop place members
longer members place member some within is =
    let more : place ≡ suc (place - 1) = omega arith in
    drop-cons members (place - 1) member (omega arith) ∙ (ap (λ y. y ∷ drop (suc (place - 1)) members) (sym is) ∙ ap (λ n. member ∷ drop n members) (sym more))

-- a listed set that may allow a value
module _ (z : Aim) (a : ℕ → Bool) (b : List Spot) where
  abbrev places : List Place
  places = map (place_in z.view.world.classes) b

  abbrev member_of : FlatMember → List (List AbsOutcome)
  member_of member = of_member z.view.world z.view.kept (z.view.state a) places member

  stands_some : (member : FlatMember) → is_there (member_of member) ≡ stands_for member
  stands_some (One e) = refl
  stands_some (Span span at) = numbers_there span.low span.high

  flat_there : {X Y : Type 0} (f : X → List Y) (xs : List X) → is_there (flat_map f xs) ≡ list_any (λ x. is_there (f x)) xs
  flat_there f [] = refl
  flat_there f (x ∷ xs) = append_there (f x) (flat_map f xs) ∙ ap (λ b. is_there (f x) || b) (flat_there f xs)

  given_some : (every : List Place) (uss : List (List AbsOutcome)) (p : Place) → is_there uss ≡ true → may_give_some every uss p ≡ list_any (λ us. list_any (λ u. gives every u p) us) uss
  given_some every [] p e = absurd (cc)
  given_some every (us ∷ uss) p e = refl

  given_none : (every : List Place) (uss : List (List AbsOutcome)) (p : Place) → is_there uss ≡ false → is_among every p ≡ true → may_give_some every uss p ≡ true
  given_none every [] p e f = f
  given_none every (us ∷ uss) p e f = absurd (cc)

  listed_there : (members : List FlatMember) → is_there (flat_map member_of members) ≡ list_any stands_for members
  listed_there members = flat_there member_of members ∙ any-agree (λ m. is_there (member_of m)) stands_for members stands_some

  abbrev allowed : FlatExpr → Bool
  allowed e = may_allow z.view.world z.view.kept (z.view.state a) z.every e places (z.value a)

  pub may_none : (whole : FlatExpr) (members shown : List FlatMember) (at : ℕ) (some : Bool) → whole ≡ Listed members at → shown ≡ members → some ≡ list_any stands_for shown → some ≡ false → is_among z.every (z.value a) ≡ true → allowed whole ≡ true
  may_none whole members shown at some e f h none of_type =
      ap allowed e ∙ (may_Listed z.view.world z.view.kept (z.view.state a) z.every members at places (z.value a)
      ∙ given_none z.every (flat_map member_of members) (z.value a) (listed_there members ∙ (ap (list_any stands_for) (sym f) ∙ (sym h ∙ none))) of_type)

  pub may_some : (whole : FlatExpr) (members shown : List FlatMember) (at : ℕ) (some : Bool) → whole ≡ Listed members at → shown ≡ members → some ≡ list_any stands_for shown → some ≡ true → allowed whole ≡ list_any (λ m. list_any (λ us. list_any (λ u. gives z.every u (z.value a)) us) (member_of m)) shown
  may_some whole members shown at some e f h yet =
      ap allowed e ∙ (may_Listed z.view.world z.view.kept (z.view.state a) z.every members at places (z.value a)
      ∙ (given_some z.every (flat_map member_of members) (z.value a) (listed_there members ∙ (ap (list_any stands_for) (sym f) ∙ (sym h ∙ yet)))
      ∙ (any-flat_map (λ us. list_any (λ u. gives z.every u (z.value a)) us) member_of members
      ∙ ap (list_any (λ m. list_any (λ us. list_any (λ u. gives z.every u (z.value a)) us) (member_of m))) (sym f))))

module _ {S C : Type 0} (holds : S → C → (ℕ → Bool) → Bool) where
  pub listed_none : (s : S) (problem : Problem) (cells : List (Cell C)) (x : Target C) (b : List Spot) (whole : FlatExpr) (members shown : List FlatMember) (at : ℕ) (some : Bool) → whole ≡ Listed members at → shown ≡ members →
      some ≡ list_any stands_for shown → some ≡ false → IsSo holds s s problem cells x (may_allowed b whole) x.always
  unfolding IsSo may_allowed
  listed_none s problem cells x b whole members shown at some e f h none z aim a = aim.target.always a ∙ sym (may_none z a b whole members shown at some e f h none (aim.target.of_type a))

  pub listed_some : (s t : S) (problem : Problem) (cells : List (Cell C)) (x : Target C) (b : List Spot) (whole : FlatExpr) (members shown : List FlatMember) (at : ℕ) (some : Bool) (r : C) → whole ≡ Listed members at → shown ≡ members →
      some ≡ list_any stands_for shown → some ≡ true → IsSo holds s t problem cells x (members_mean sense.May b shown) r → IsSo holds s t problem cells x (may_allowed b whole) r
  unfolding IsSo may_allowed members_mean member_means member_in
  listed_some s t problem cells x b whole members shown at some r e f h yet is z aim a = is z aim a ∙ sym (may_some z a b whole members shown at some e f h yet)

-- a listed set for certain
module _ {S C : Type 0} (IsMade : S → C → Type 0) (holds : S → C → (ℕ → Bool) → Bool) (room : S → ℕ) where
  pub sure_one : (s mid next t u : S) (problem : Problem) (cells : List (Cell C)) (x : Target C) (b : List Spot) (member : FlatMember) (e first second : FlatExpr) (here some none r : C) → member ≡ One e → first ≡ e → second ≡ e →
      KeepsConditions IsMade holds room s mid → KeepsConditions IsMade holds room mid next → KeepsConditions IsMade holds room next t → IsMade mid here → AreCellsMade (IsMade s) cells → IsTargetMade (IsMade s) x →
      IsSo holds s mid problem cells x (must_allowed b first) here → IsSo holds mid next problem cells x (some_means sense.Inside b second) some → ((a : ℕ → Bool) → holds t none a ≡ not (holds next some a)) →
      ((a : ℕ → Bool) → holds u r a ≡ (holds t none a || holds t here a)) → IsSo holds s u problem cells x (member_allows b member) r
  unfolding IsSo member_allows
  sure_one s mid next t u problem cells x b member e first second here some none r f g h k l j m made target allows inside opposite whole z aim a =
      let after = aim_on IsMade holds room s mid problem cells x z k made target aim in
      whole a ∙ (or_same (opposite a ∙ ap not (inside z after a ∙ ap (λ (y : FlatExpr). some_means sense.Inside b y z a) h)) (j.same here (l.made here m) a ∙ (l.same here m a ∙ (allows z aim a ∙ ap (λ (y : FlatExpr). must_allowed b y z a) g)))
      ∙ sym (ap (λ (y : FlatMember). member_allows b y z a) f))

  pub sure_span : (s t : S) (problem : Problem) (cells : List (Cell C)) (x : Target C) (b : List Spot) (member : FlatMember) (low high at bottom top : ℕ) (r : C) → member ≡ Span (record { low = low; high = high }) at → bottom ≡ low → top ≡ high + 1 →
      IsOfTarget holds s t problem x (numbers_mean sense.Surely (numbers_from bottom (top - bottom))) r → IsSo holds s t problem cells x (member_allows b member) r
  unfolding IsSo IsOfTarget member_allows
  sure_span s t problem cells x b member low high at bottom top r f d e is z aim a =
      is z aim.seen.world aim.target a ∙ (ap (λ i. numbers_mean sense.Surely (numbers_from i (top - i)) z a) d ∙ (ap (λ i. numbers_mean sense.Surely (numbers_from low (i - low)) z a) e ∙ sym (ap (λ (y : FlatMember). member_allows b y z a) f)))

  pub listing_begins : (s : S) (b : List Spot) (all : List FlatMember) (r : C) → ((a : ℕ → Bool) → holds s r a ≡ false) → (z : Aim) (a : ℕ → Bool) → (holds s r a || members_allow b all z a) ≡ members_allow b all z a
  listing_begins s b all r none z a = ap (λ c. c || members_allow b all z a) (none a)

  grouped : (b c d : Bool) → ((b || c) || d) ≡ (b || (c || d))
  grouped true c d = refl
  grouped false c d = refl

  pub listing_goes : (start s mid t : S) (problem : Problem) (cells : List (Cell C)) (x : Target C) (b : List Spot) (member : FlatMember) (rest more all : List FlatMember) (r here longer : C) → rest ≡ member ∷ more →
      KeepsConditions IsMade holds room start s → KeepsConditions IsMade holds room s mid → IsMade s r → AreCellsMade (IsMade start) cells → IsTargetMade (IsMade start) x →
      ((z : Aim) → IsAim holds start problem cells x z → (a : ℕ → Bool) → (holds s r a || members_allow b rest z a) ≡ members_allow b all z a) →
      IsSo holds s mid problem cells x (member_allows b member) here → ((a : ℕ → Bool) → holds t longer a ≡ (holds mid r a || holds mid here a)) →
      (z : Aim) → IsAim holds start problem cells x z → (a : ℕ → Bool) → (holds t longer a || members_allow b more z a) ≡ members_allow b all z a
  unfolding IsSo members_allow
  listing_goes start s mid t problem cells x b member rest more all r here longer e k l m made target before one whole z aim a =
      let others : Bool = list_any (λ (y : FlatMember). member_allows b y z a) more in
      ap (λ c. c || others) (whole a)
      ∙ (grouped (holds mid r a) (holds mid here a) others
      ∙ (or_same (l.same r m a) (ap (λ c. c || others) (one z (aim_on IsMade holds room start s problem cells x z k made target aim) a) ∙ ap (list_any (λ (y : FlatMember). member_allows b y z a)) (sym e)) ∙ before z aim a))

  pub listing_done : (start s : S) (problem : Problem) (cells : List (Cell C)) (x : Target C) (b : List Spot) (rest all : List FlatMember) (r : C) → rest ≡ [] →
      ((z : Aim) → IsAim holds start problem cells x z → (a : ℕ → Bool) → (holds s r a || members_allow b rest z a) ≡ members_allow b all z a) → IsSo holds start s problem cells x (members_allow b all) r
  unfolding IsSo members_allow
  listing_done start s problem cells x b rest all r e is z aim a = last (holds s r a) ∙ (ap (λ l. holds s r a || list_any (λ (y : FlatMember). member_allows b y z a) l) (sym e) ∙ is z aim a)

member_same : (z : Aim) (a : ℕ → Bool) (b : List Spot) (member : FlatMember) → is_among z.every (z.value a) ≡ true → member_allows b member z a ≡ surely_of_member z.view.world z.view.kept (z.view.state a) z.every (map (place_in z.view.world.classes) b) (z.value a) member
unfolding member_allows some_means must_allowed numbers_mean outcomes
member_same z a b (One e) f = ap (λ y. y || must_allow z.view.world z.view.kept (z.view.state a) z.every e (map (place_in z.view.world.classes) b) (z.value a)) (all_out (is_outside z.every) (may z.view.world z.view.kept (z.view.state a) e (map (place_in z.view.world.classes) b)) ∙ and_known (list_all (is_outside z.every) (may z.view.world z.view.kept (z.view.state a) e (map (place_in z.view.world.classes) b))) (is_among z.every (z.value a)) f)
  where
    all_out : {X : Type 0} (p : X → Bool) (xs : List X) → not (list_any (λ x. not (p x)) xs) ≡ list_all p xs
    all_out p [] = refl
    all_out p (x ∷ xs) = at (p x) (list_any (λ x. not (p x)) xs) ∙ ap (λ y. p x && y) (all_out p xs)
      where
        at : (b c : Bool) → not (not b || c) ≡ (b && not c)
        at true c = refl
        at false c = refl

    and_known : (b c : Bool) → c ≡ true → b ≡ (b && c)
    and_known true c e = sym e
    and_known false c e = refl
member_same z a b (Span span at) f = spanned z.every (z.value a) sense.Surely (numbers_from span.low (span.high + 1 - span.low))

pub listed_must : {S C : Type 0} (holds : S → C → (ℕ → Bool) → Bool) (s t : S) (problem : Problem) (cells : List (Cell C)) (x : Target C) (b : List Spot) (whole : FlatExpr) (members shown : List FlatMember) (at : ℕ) (r : C) → whole ≡ Listed members at → shown ≡ members →
    IsSo holds s t problem cells x (members_allow b shown) r → IsSo holds s t problem cells x (must_allowed b whole) r
unfolding IsSo members_allow must_allowed
listed_must holds s t problem cells x b whole members shown at r e f is z aim a =
    is z aim a
    ∙ (ap (list_any (λ (m : FlatMember). member_allows b m z a)) f
    ∙ (any-agree (λ (m : FlatMember). member_allows b m z a) (surely_of_member z.view.world z.view.kept (z.view.state a) z.every (map (place_in z.view.world.classes) b) (z.value a)) members (λ m. member_same z a b m (aim.target.of_type a))
    ∙ sym (ap (λ (e : FlatExpr). must_allow z.view.world z.view.kept (z.view.state a) z.every e (map (place_in z.view.world.classes) b) (z.value a)) e ∙ must_Listed z.view.world z.view.kept (z.view.state a) z.every members at (map (place_in z.view.world.classes) b) (z.value a))))
