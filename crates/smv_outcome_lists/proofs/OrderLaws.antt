-- Lists of outcomes in two parts, and what two parts give that lie apart.
use Rattle.std.proofs.Common.{◌≡◌, ℕ, List, [], ◌∷◌, length, cond, filter, Option, Some, None, Bool, true, false, not, ◌&&◌, ◌||◌, nat_lt, nat_eq, refl, sym, ap, ◌∙◌, arith, subst}
use Rattle.std.proofs.lemmas.List.{append-nil, append_assoc}
use Rattle.std.proofs.lemmas.Bool.Decides.{nat_tests}
use Rattle.std.specs.List.{list_any}
use Rattle.std.proofs.lemmas.Bool.{not-true}
use Rattle.smv_core.specs.FlatMeaning.{Numbered}
use Rattle.smv_core.specs.Values.{not_of}
use Rattle.smv_core.specs.Outcome.{is_true}
use Rattle.smv_core.specs.declared.tree.Op.{Op}
use Rattle.smv_core.specs.declared.tree.Op.TheVariants.{Equal, Differ, Less, AtMost, Greater, AtLeast}
use Rattle.law_obligations.specs.Right.{is_false, is_neither}
use Rattle.law_obligations.specs.Places.{World, AbsOutcome, may_compare}
use Rattle.smv_problem.specs.declared.problem.Problem.{Problem}
use Rattle.smv_problem_spots.specs.Worlds.{IsWorldOf, name_number_at}
use Rattle.smv_problem_spots.proofs.WorldLaws.{same_constants}
use Rattle.smv_spots.specs.declared.spots.Spot.{Spot}
use Rattle.smv_spots.specs.declared.spots.Spot.TheVariants as spot
use Rattle.smv_spots.specs.declared.answers.Answers.{Answers}
use Rattle.smv_spots.specs.Answers.{answers_of}
use Rattle.smv_spots.specs.Spots.{outcome_in}
use Rattle.smv_conditions.specs.declared.offers.Offer.{Offer}
use Rattle.smv_conditions.specs.declared.chances.Chances.{Chances}
use Rattle.smv_conditions.specs.Keep.{KeepsConditions}
use Rattle.smv_conditions.specs.Chances.{mix_at, AreMade}
use Rattle.smv_conditions.specs.Offers.{any_offer, AreOffersMade}
use Rattle.smv_conditions.proofs.AddLaws.{offers_same}
use Rattle.smv_conditions.proofs.ChainLaws.{mix_kept}
use Rattle.law_obligations.specs.Mix.{Mix, none_at_all}
use Rattle.law_obligations.specs.Combined.{union_mix}
use Rattle.law_obligations.proofs.MixLaws.{same_mix}
use Rattle.smv_outcome_lists.specs.declared.keys.Keys.{Keys}
use Rattle.smv_outcome_lists.specs.declared.keys.Keys.TheVariants.{Values, Names}
use Rattle.smv_outcome_lists.specs.Pairs.{with_answers, compare_mix}
use Rattle.smv_outcome_lists.specs.Orders.{is_low, has_key, lower, upper, AllSo, AreApart, AreApartBy, apart, possible}

pub ruleset kept = (append-nil, append_assoc)

-- parts of a list
made_part : {C : Type 0} (IsMade : C → Type 0) (t : Offer C → Bool) (os : List (Offer C)) → AreOffersMade IsMade os → AreOffersMade IsMade (filter t os)
made_part IsMade t [] m = tt
made_part {C = C} IsMade t (o ∷ os) m = at (t o) m.0 (made_part IsMade t os m.1)
  where
    at : (b : Bool) → IsMade o.when → AreOffersMade IsMade (filter t os) → AreOffersMade IsMade (cond b (o ∷ filter t os) (filter t os))
    at true h k = (h, k)
    at false h k = k

so_part : {C : Type 0} (test : Option Spot → Bool) (t : Offer C → Bool) (os : List (Offer C)) → AllSo test os → AllSo test (filter t os)
so_part test t [] m = tt
so_part test t (o ∷ os) m = at (t o) m.0 (so_part test t os m.1)
  where
    at : (b : Bool) → test o.outcome ≡ true → AllSo test (filter t os) → AllSo test (cond b (o ∷ filter t os) (filter t os))
    at true h k = (h, k)
    at false h k = k

so_passed : {C : Type 0} (test : Option Spot → Bool) (os : List (Offer C)) → AllSo test (filter (λ (o : Offer C). test o.outcome) os)
so_passed test [] = tt
so_passed test (o ∷ os) = at (test o.outcome) refl (so_passed test os)
  where
    at : (b : Bool) → test o.outcome ≡ b → AllSo test (filter (λ o. test o.outcome) os) → AllSo test (cond b (o ∷ filter (λ o. test o.outcome) os) (filter (λ o. test o.outcome) os))
    at true h k = (h, k)
    at false h k = k

module _ {C : Type 0} (IsMade : C → Type 0) (p : Problem) (keys : Keys) (bound : Option ℕ) where
  pub made_low : (os part : List (Offer C)) → part ≡ lower p keys bound os → AreOffersMade IsMade os → AreOffersMade IsMade part
  unfolding lower
  made_low os part e m = subst (AreOffersMade IsMade) (sym e) (made_part IsMade (λ o. is_low p keys bound o.outcome) os m)

  pub made_high : (os part : List (Offer C)) → part ≡ upper p keys bound os → AreOffersMade IsMade os → AreOffersMade IsMade part
  unfolding upper
  made_high os part e m = subst (AreOffersMade IsMade) (sym e) (made_part IsMade (λ o. not (is_low p keys bound o.outcome)) os m)

module _ {C : Type 0} (p : Problem) (keys : Keys) (bound : Option ℕ) where
  -- a part of outcomes that have keys
  pub keyed_low : (os part : List (Offer C)) → part ≡ lower p keys bound os → AllSo (has_key p keys) os → AllSo (has_key p keys) part
  unfolding lower
  keyed_low os part e m = subst (AllSo (has_key p keys)) (sym e) (so_part (has_key p keys) (λ o. is_low p keys bound o.outcome) os m)

  pub keyed_high : (os part : List (Offer C)) → part ≡ upper p keys bound os → AllSo (has_key p keys) os → AllSo (has_key p keys) part
  unfolding upper
  keyed_high os part e m = subst (AllSo (has_key p keys)) (sym e) (so_part (has_key p keys) (λ o. not (is_low p keys bound o.outcome)) os m)

  low_all : (os part : List (Offer C)) → part ≡ lower p keys bound os → AllSo (is_low p keys bound) part
  unfolding lower
  low_all os part e = subst (AllSo (is_low p keys bound)) (sym e) (so_passed (is_low p keys bound) os)

  high_all : (os part : List (Offer C)) → part ≡ upper p keys bound os → AllSo (λ o. not (is_low p keys bound o)) part
  unfolding upper
  high_all os part e = subst (AllSo (λ o. not (is_low p keys bound o))) (sym e) (so_passed (λ o. not (is_low p keys bound o)) os)

  pub parts_apart : (us vs below above : List (Offer C)) → below ≡ lower p keys bound us → above ≡ upper p keys bound vs → AllSo (has_key p keys) vs → AreApart p keys bound below above
  parts_apart us vs below above e f k = record { below = low_all us below e; keyed = keyed_high vs above f k; above = high_all vs above f }

-- what is below no bound has a key
pub any_keyed : {C : Type 0} (p : Problem) (keys : Keys) (os part : List (Offer C)) → part ≡ lower p keys None os → AllSo (has_key p keys) part
any_keyed p keys os part e = low_all p keys None os part e

module _ {S C : Type 0} (n : Numbered) (holds : S → C → (ℕ → Bool) → Bool) (s : S) (a : ℕ → Bool) where
  in_first : (h w l r : Bool) → w ≡ (l || r) → (h || w) ≡ ((h || l) || r)
  in_first true w l r e = refl
  in_first false w l r e = e

  in_second : (h w l r : Bool) → w ≡ (l || r) → (h || w) ≡ (l || (h || r))
  in_second true w true r e = refl
  in_second true w false r e = refl
  in_second false w l r e = e

  any_parts : (t : Offer C → Bool) (p : AbsOutcome → Bool) (os : List (Offer C)) → any_offer n holds s a p os ≡ (any_offer n holds s a p (filter t os) || any_offer n holds s a p (filter (λ o. not (t o)) os))
  unfolding any_offer
  any_parts t p [] = refl
  any_parts t p (o ∷ os) = at (t o) (any_parts t p os)
    where
      low : List (Offer C)
      low = filter t os

      high : List (Offer C)
      high = filter (λ o. not (t o)) os

      at : (b : Bool) → any_offer n holds s a p os ≡ (any_offer n holds s a p low || any_offer n holds s a p high) →
          any_offer n holds s a p (o ∷ os) ≡ (any_offer n holds s a p (cond b (o ∷ low) low) || any_offer n holds s a p (cond (not b) (o ∷ high) high))
      at true e = in_first (holds s o.when a && p (outcome_in n o.outcome)) _ _ _ e
      at false e = in_second (holds s o.when a && p (outcome_in n o.outcome)) _ _ _ e

  abbrev pairs_of : (AbsOutcome → AbsOutcome → Bool) → List (Offer C) → List (Offer C) → Bool
  pairs_of f us vs = any_offer n holds s a (λ u. any_offer n holds s a (f u) vs) us

  spread : (h w c d k kc kd : Bool) → w ≡ (c || d) → k ≡ (kc || kd) → ((h && w) || k) ≡ (((h && c) || kc) || ((h && d) || kd))
  spread h w c d k kc kd e f = ap (λ b. (h && b) || k) e ∙ (ap (λ b. (h && (c || d)) || b) f ∙ law h c d kc kd)
    where
      law : (h c d kc kd : Bool) → ((h && (c || d)) || (kc || kd)) ≡ (((h && c) || kc) || ((h && d) || kd))
      law false c d kc kd = refl
      law true true d kc kd = refl
      law true false true true kd = refl
      law true false true false kd = refl
      law true false false kc kd = refl

  second_parts : (t : Offer C → Bool) (f : AbsOutcome → AbsOutcome → Bool) (us vs : List (Offer C)) → pairs_of f us vs ≡ (pairs_of f us (filter t vs) || pairs_of f us (filter (λ o. not (t o)) vs))
  unfolding any_offer
  second_parts t f [] vs = refl
  second_parts t f (u ∷ us) vs = spread (holds s u.when a) _ _ _ _ _ _ (any_parts t (f (outcome_in n u.outcome)) vs) (second_parts t f us vs)

  four_parts : (t r : Offer C → Bool) (f : AbsOutcome → AbsOutcome → Bool) (us vs : List (Offer C)) →
      pairs_of f us vs ≡ ((pairs_of f (filter t us) (filter r vs) || pairs_of f (filter t us) (filter (λ o. not (r o)) vs)) || (pairs_of f (filter (λ o. not (t o)) us) (filter r vs) || pairs_of f (filter (λ o. not (t o)) us) (filter (λ o. not (r o)) vs)))
  four_parts t r f us vs =
      first
      ∙ (ap (λ b. b || pairs_of f (filter (λ o. not (t o)) us) vs) (second_parts r f (filter t us) vs)
      ∙ ap (λ b. (pairs_of f (filter t us) (filter r vs) || pairs_of f (filter t us) (filter (λ o. not (r o)) vs)) || b) (second_parts r f (filter (λ o. not (t o)) us) vs))
    where
      first : pairs_of f us vs ≡ (pairs_of f (filter t us) vs || pairs_of f (filter (λ o. not (t o)) us) vs)
      first = any_parts t (λ u. any_offer n holds s a (f u) vs) us

  compare_parts : (t r : Offer C → Bool) (op : Op) (us vs : List (Offer C)) →
      compare_mix n holds s a op us vs ≡ union_mix (union_mix (compare_mix n holds s a op (filter t us) (filter r vs)) (compare_mix n holds s a op (filter t us) (filter (λ o. not (r o)) vs))) (union_mix (compare_mix n holds s a op (filter (λ o. not (t o)) us) (filter r vs)) (compare_mix n holds s a op (filter (λ o. not (t o)) us) (filter (λ o. not (r o)) vs)))
  unfolding compare_mix
  compare_parts t r op us vs = same_mix (four_parts t r (λ u v. list_any is_false (may_compare op u v)) us vs) (four_parts t r (λ u v. list_any is_true (may_compare op u v)) us vs) (four_parts t r (λ u v. list_any is_neither (may_compare op u v)) us vs)

  -- where each gives the same
  each_same_answer : (q : AbsOutcome → Bool) (b : Bool) (test : Option Spot → Bool) (os : List (Offer C)) → ((o : Option Spot) → test o ≡ true → q (outcome_in n o) ≡ b) → AllSo test os → any_offer n holds s a q os ≡ (possible holds s a os && b)
  unfolding any_offer possible
  each_same_answer q b test [] e m = refl
  each_same_answer q b test (o ∷ os) e m = ap (λ c. (holds s o.when a && c) || any_offer n holds s a q os) (e o.outcome m.0) ∙ (ap (λ c. (holds s o.when a && b) || c) (each_same_answer q b test os e m.1) ∙ law (holds s o.when a) (possible holds s a os) b)
    where
      law : (h k b : Bool) → ((h && b) || (k && b)) ≡ ((h || k) && b)
      law true k true = refl
      law true true false = refl
      law true false false = refl
      law false k b = refl

  both_same_answer : (f : AbsOutcome → AbsOutcome → Bool) (b : Bool) (test other : Option Spot → Bool) (us vs : List (Offer C)) → ((u v : Option Spot) → test u ≡ true → other v ≡ true → f (outcome_in n u) (outcome_in n v) ≡ b) →
      AllSo test us → AllSo other vs → pairs_of f us vs ≡ ((possible holds s a us && possible holds s a vs) && b)
  both_same_answer f b test other us vs e m k =
      each_same_answer (λ u. any_offer n holds s a (f u) vs) (possible holds s a vs && b) test us (λ u h. each_same_answer (f (outcome_in n u)) b other vs (λ v j. e u v h j) k) m
      ∙ law (possible holds s a us) (possible holds s a vs) b
    where
      law : (x y b : Bool) → (x && (y && b)) ≡ ((x && y) && b)
      law true y b = refl
      law false y b = refl

  pub crossed_mix : (op : Op) (answers : Answers) (test other : Option Spot → Bool) (us vs : List (Offer C)) (m : Mix) →
      ((u v : Option Spot) → test u ≡ true → other v ≡ true → answers_of (may_compare op (outcome_in n u) (outcome_in n v)) ≡ answers) → AllSo test us → AllSo other vs →
      with_answers (possible holds s a us && possible holds s a vs) answers m ≡ union_mix (compare_mix n holds s a op us vs) m
  unfolding compare_mix
  crossed_mix op answers test other us vs m e h k =
      same_mix
      (ap (λ b. b || m.no) (sym (both_same_answer (λ u v. list_any is_false (may_compare op u v)) answers.no test other us vs (λ u v i j. ap (λ (x : Answers). x.no) (e u v i j)) h k)))
      (ap (λ b. b || m.yes) (sym (both_same_answer (λ u v. list_any is_true (may_compare op u v)) answers.yes test other us vs (λ u v i j. ap (λ (x : Answers). x.yes) (e u v i j)) h k)))
      (ap (λ b. b || m.neither) (sym (both_same_answer (λ u v. list_any is_neither (may_compare op u v)) answers.neither test other us vs (λ u v i j. ap (λ (x : Answers). x.neither) (e u v i j)) h k)))

so_both : {C : Type 0} (test other : Option Spot → Bool) (os : List (Offer C)) → AllSo test os → AllSo other os → AllSo (λ o. test o && other o) os
so_both test other [] m k = tt
so_both test other (o ∷ os) m k = (at (test o.outcome) (other o.outcome) m.0 k.0, so_both test other os m.1 k.1)
  where
    at : (b c : Bool) → b ≡ true → c ≡ true → (b && c) ≡ true
    at true c e f = f
    at false c e f = e

-- two keys that lie apart
no_lie : {X : Type 0} → false ≡ true → X
no_lie e = absurd (cc)

abbrev Apart : Op → Keys → AbsOutcome → AbsOutcome → Type 0
Apart op keys u v = (answers_of (may_compare op u v) ≡ apart op keys true) × (answers_of (may_compare op v u) ≡ apart op keys false)

turned : (b : Bool) → answers_of (not_of (Some b) ∷ []) ≡ answers_of (Some (not b) ∷ [])
turned true = refl
turned false = refl

turned_twice : (b : Bool) → answers_of (not_of (Some (not b)) ∷ []) ≡ answers_of (Some b ∷ [])
turned_twice true = refl
turned_twice false = refl

module _ (p : Problem) (w : World) (h : IsWorldOf p w) where
  numbers : (op : Op) (k j : ℕ) (below : Bool) → nat_lt k j ≡ below → nat_lt j k ≡ not below → nat_eq k j ≡ false → answers_of (may_compare op (outcome_in w.classes (Some (spot.Number k))) (outcome_in w.classes (Some (spot.Number j)))) ≡ apart op Values below
  numbers Equal k j below l g e = ap (λ b. answers_of (Some b ∷ [])) e
  numbers Differ k j below l g e = ap (λ b. answers_of (not_of (Some b) ∷ [])) e
  numbers Less k j below l g e = ap (λ b. answers_of (Some b ∷ [])) l
  numbers AtMost k j below l g e = ap (λ b. answers_of (not_of (Some b) ∷ [])) g ∙ turned_twice below
  numbers Greater k j below l g e = ap (λ b. answers_of (Some b ∷ [])) g
  numbers AtLeast k j below l g e = ap (λ b. answers_of (not_of (Some b) ∷ [])) l ∙ turned below

  is_less : (k j b : ℕ) → nat_lt k b ≡ true → nat_lt j b ≡ false → nat_lt k j ≡ true
  is_less k j b l g = grind (arith, nat_tests)

  is_more : (k j b : ℕ) → nat_lt k b ≡ true → nat_lt j b ≡ false → nat_lt j k ≡ false
  is_more k j b l g = grind (arith, nat_tests)

  unlike : (k j b : ℕ) → nat_lt k b ≡ true → nat_lt j b ≡ false → nat_eq k j ≡ false
  unlike k j b l g = grind (arith, nat_tests)

  unlike_too : (k j b : ℕ) → nat_lt k b ≡ true → nat_lt j b ≡ false → nat_eq j k ≡ false
  unlike_too k j b l g = grind (arith, nat_tests)

  both_numbers : (op : Op) (k j b : ℕ) → nat_lt k b ≡ true → nat_lt j b ≡ false → Apart op Values (outcome_in w.classes (Some (spot.Number k))) (outcome_in w.classes (Some (spot.Number j)))
  both_numbers op k j b l g = (numbers op k j true (is_less k j b l g) (is_more k j b l g) (unlike k j b l g), numbers op j k false (is_more k j b l g) (is_less k j b l g) (unlike_too k j b l g))

  names : (op : Op) (below : Bool) (list k other m : ℕ) → nat_eq (name_number_at p.names list k) (name_number_at p.names other m) ≡ false →
      answers_of (may_compare op (outcome_in w.classes (Some (spot.Constant list k))) (outcome_in w.classes (Some (spot.Constant other m)))) ≡ apart op Names below
  names Equal below list k other m e = ap (λ b. answers_of (Some b ∷ [])) (sym (same_constants p w h list k other m) ∙ e)
  names Differ below list k other m e = ap (λ b. answers_of (not_of (Some b) ∷ [])) (sym (same_constants p w h list k other m) ∙ e)
  names Less below list k other m e = refl
  names AtMost below list k other m e = refl
  names Greater below list k other m e = refl
  names AtLeast below list k other m e = refl

  both_names : (op : Op) (list k other m b : ℕ) → nat_lt (name_number_at p.names list k) b ≡ true → nat_lt (name_number_at p.names other m) b ≡ false → Apart op Names (outcome_in w.classes (Some (spot.Constant list k))) (outcome_in w.classes (Some (spot.Constant other m)))
  both_names op list k other m b l g = (names op true list k other m (unlike _ _ b l g), names op false other m list k (unlike_too _ _ b l g))

  number_apart : (op : Op) (bound : Option ℕ) (k : ℕ) (v : Option Spot) → is_low p Values bound (Some (spot.Number k)) ≡ true → has_key p Values v ≡ true → not (is_low p Values bound v) ≡ true → Apart op Values (outcome_in w.classes (Some (spot.Number k))) (outcome_in w.classes v)
  number_apart op (Some b) k (Some (spot.Number j)) e i f = both_numbers op k j b e (not-true (nat_lt j b) f)
  number_apart op None k (Some (spot.Number j)) e i f = no_lie f
  number_apart op bound k (Some (spot.Constant list j)) e i f = no_lie i
  number_apart op bound k (Some (spot.Class set j)) e i f = no_lie i
  number_apart op bound k (Some (spot.Rest set j)) e i f = no_lie i
  number_apart op bound k None e i f = no_lie i

  name_apart : (op : Op) (bound : Option ℕ) (list k : ℕ) (v : Option Spot) → is_low p Names bound (Some (spot.Constant list k)) ≡ true → has_key p Names v ≡ true → not (is_low p Names bound v) ≡ true → Apart op Names (outcome_in w.classes (Some (spot.Constant list k))) (outcome_in w.classes v)
  name_apart op (Some b) list k (Some (spot.Constant other j)) e i f = both_names op list k other j b e (not-true (nat_lt (name_number_at p.names other j) b) f)
  name_apart op None list k (Some (spot.Constant other j)) e i f = no_lie f
  name_apart op bound list k (Some (spot.Number j)) e i f = no_lie i
  name_apart op bound list k (Some (spot.Class set j)) e i f = no_lie i
  name_apart op bound list k (Some (spot.Rest set j)) e i f = no_lie i
  name_apart op bound list k None e i f = no_lie i

  keys_apart : (op : Op) (keys : Keys) (bound : Option ℕ) (u v : Option Spot) → is_low p keys bound u ≡ true → has_key p keys v ≡ true → not (is_low p keys bound v) ≡ true → Apart op keys (outcome_in w.classes u) (outcome_in w.classes v)
  keys_apart op Values bound (Some (spot.Number k)) v e i f = number_apart op bound k v e i f
  keys_apart op Values bound (Some (spot.Constant list k)) v e i f = no_lie e
  keys_apart op Values bound (Some (spot.Class set k)) v e i f = no_lie e
  keys_apart op Values bound (Some (spot.Rest set k)) v e i f = no_lie e
  keys_apart op Values bound None v e i f = no_lie e
  keys_apart op Names bound (Some (spot.Constant list k)) v e i f = name_apart op bound list k v e i f
  keys_apart op Names bound (Some (spot.Number k)) v e i f = no_lie e
  keys_apart op Names bound (Some (spot.Class set k)) v e i f = no_lie e
  keys_apart op Names bound (Some (spot.Rest set k)) v e i f = no_lie e
  keys_apart op Names bound None v e i f = no_lie e

  both_true : (b c : Bool) → (b && c) ≡ true → (b ≡ true) × (c ≡ true)
  both_true true c e = (refl, e)
  both_true false c e = no_lie e

  -- lists that lie apart
  pub apart_mix : {S C : Type 0} (holds : S → C → (ℕ → Bool) → Bool) (s : S) (a : ℕ → Bool) (op : Op) (keys : Keys) (bound : Option ℕ) (below : Bool) (us vs : List (Offer C)) (m : Mix) → AreApartBy p keys bound below us vs →
      with_answers (possible holds s a us && possible holds s a vs) (apart op keys below) m ≡ union_mix (compare_mix w.classes holds s a op us vs) m
  apart_mix holds s a op keys bound true us vs m k =
      crossed_mix w.classes holds s a op (apart op keys true) (is_low p keys bound) (λ o. has_key p keys o && not (is_low p keys bound o)) us vs m
      (λ u v e f. let g = both_true (has_key p keys v) (not (is_low p keys bound v)) f in let r = keys_apart op keys bound u v e g.0 g.1 in r.0)
      k.below (so_both (has_key p keys) (λ o. not (is_low p keys bound o)) vs k.keyed k.above)
  apart_mix holds s a op keys bound false us vs m k =
      crossed_mix w.classes holds s a op (apart op keys false) (λ o. has_key p keys o && not (is_low p keys bound o)) (is_low p keys bound) us vs m
      (λ u v f e. let g = both_true (has_key p keys u) (not (is_low p keys bound u)) f in let r = keys_apart op keys bound v u e g.0 g.1 in r.1)
      (so_both (has_key p keys) (λ o. not (is_low p keys bound o)) us k.keyed k.above) k.below

-- the same later
pub kept_twice : {S C : Type 0} (IsMade : S → C → Type 0) (holds : S → C → (ℕ → Bool) → Bool) (room : S → ℕ) (s mid t : S) → KeepsConditions IsMade holds room s mid → KeepsConditions IsMade holds room mid t → KeepsConditions IsMade holds room s t
kept_twice IsMade holds room s mid t k l = record { made = λ c m. l.made c (k.made c m); same = λ c m a. l.same c (k.made c m) a ∙ k.same c m a; stays = l.stays ∙ k.stays }

module _ {S C : Type 0} (IsMade : S → C → Type 0) (holds : S → C → (ℕ → Bool) → Bool) (room : S → ℕ) (a : ℕ → Bool) where
  pub possible_same : (s t : S) (os : List (Offer C)) → KeepsConditions IsMade holds room s t → AreOffersMade (IsMade s) os → possible holds t a os ≡ possible holds s a os
  unfolding possible
  possible_same s t [] k m = refl
  possible_same s t (o ∷ os) k m = ap (λ b. b || possible holds t a os) (k.same o.when m.0 a) ∙ ap (λ b. holds s o.when a || b) (possible_same s t os k m.1)

module _ {S C : Type 0} (n : Numbered) (IsMade : S → C → Type 0) (holds : S → C → (ℕ → Bool) → Bool) (room : S → ℕ) (a : ℕ → Bool) where
  pairs_same : (f : AbsOutcome → AbsOutcome → Bool) (s t : S) (us vs : List (Offer C)) → KeepsConditions IsMade holds room s t → AreOffersMade (IsMade s) us → AreOffersMade (IsMade s) vs → pairs_of n holds t a f us vs ≡ pairs_of n holds s a f us vs
  unfolding any_offer
  pairs_same f s t [] vs k m l = refl
  pairs_same f s t (u ∷ us) vs k m l =
      ap (λ b. (b && any_offer n holds t a (f (outcome_in n u.outcome)) vs) || pairs_of n holds t a f us vs) (k.same u.when m.0 a)
      ∙ (ap (λ b. (holds s u.when a && b) || pairs_of n holds t a f us vs) (offers_same n IsMade holds room a (f (outcome_in n u.outcome)) s t vs k l)
      ∙ ap (λ b. (holds s u.when a && any_offer n holds s a (f (outcome_in n u.outcome)) vs) || b) (pairs_same f s t us vs k m.1 l))

  compare_same : (s t : S) (op : Op) (us vs : List (Offer C)) → KeepsConditions IsMade holds room s t → AreOffersMade (IsMade s) us → AreOffersMade (IsMade s) vs → compare_mix n holds t a op us vs ≡ compare_mix n holds s a op us vs
  unfolding compare_mix
  compare_same s t op us vs k m l = same_mix (pairs_same (λ u v. list_any is_false (may_compare op u v)) s t us vs k m l) (pairs_same (λ u v. list_any is_true (may_compare op u v)) s t us vs k m l) (pairs_same (λ u v. list_any is_neither (may_compare op u v)) s t us vs k m l)

  four_in_turn : (c d e f m : Bool) → (f || (e || (d || (c || m)))) ≡ (((c || e) || (f || d)) || m)
  four_in_turn true true true true m = refl
  four_in_turn true true true false m = refl
  four_in_turn true true false true m = refl
  four_in_turn true true false false m = refl
  four_in_turn true false true true m = refl
  four_in_turn true false true false m = refl
  four_in_turn true false false true m = refl
  four_in_turn true false false false m = refl
  four_in_turn false true true true m = refl
  four_in_turn false true true false m = refl
  four_in_turn false true false true m = refl
  four_in_turn false true false false m = refl
  four_in_turn false false true true m = refl
  four_in_turn false false true false m = refl
  four_in_turn false false false true m = refl
  four_in_turn false false false false m = refl

  -- both lists in two parts, and the truth values of each two of these one behind the other
  pub parts_compared : (p : Problem) (keys : Keys) (bound : Option ℕ) (op : Op) (us vs ul uh vl vh : List (Offer C)) (s s1 s2 s3 t : S) (x x1 x2 x3 z : Chances C) →
      ul ≡ lower p keys bound us → uh ≡ upper p keys bound us → vl ≡ lower p keys bound vs → vh ≡ upper p keys bound vs → AreOffersMade (IsMade s) us → AreOffersMade (IsMade s) vs →
      KeepsConditions IsMade holds room s s1 → KeepsConditions IsMade holds room s1 s2 → KeepsConditions IsMade holds room s2 s3 →
      mix_at holds s1 a x1 ≡ union_mix (compare_mix n holds s a op ul vl) (mix_at holds s a x) →
      mix_at holds s2 a x2 ≡ union_mix (compare_mix n holds s1 a op uh vh) (mix_at holds s1 a x1) →
      mix_at holds s3 a x3 ≡ union_mix (compare_mix n holds s2 a op ul vh) (mix_at holds s2 a x2) →
      mix_at holds t a z ≡ union_mix (compare_mix n holds s3 a op uh vl) (mix_at holds s3 a x3) →
      mix_at holds t a z ≡ union_mix (compare_mix n holds s a op us vs) (mix_at holds s a x)
  unfolding lower upper
  parts_compared p keys bound op us vs ul uh vl vh s s1 s2 s3 t x x1 x2 x3 z eul euh evl evh mu mv k1 k2 k3 h1 h2 h3 h4 =
      let k12 = kept_twice IsMade holds room s s1 s2 k1 k2 in
      let k13 = kept_twice IsMade holds room s s2 s3 k12 k3 in
      let mul = made_low (IsMade s) p keys bound us ul eul mu in
      let muh = made_high (IsMade s) p keys bound us uh euh mu in
      let mvl = made_low (IsMade s) p keys bound vs vl evl mv in
      let mvh = made_high (IsMade s) p keys bound vs vh evh mv in
      h4
      ∙ (ap (λ m. union_mix m (mix_at holds s3 a x3)) (compare_same s s3 op uh vl k13 muh mvl)
      ∙ (ap (λ l. union_mix (cmp uh vl) l) (h3
      ∙ (ap (λ m. union_mix m (mix_at holds s2 a x2)) (compare_same s s2 op ul vh k12 mul mvh)
      ∙ ap (λ l. union_mix (cmp ul vh) l) (h2 ∙ (ap (λ m. union_mix m (mix_at holds s1 a x1)) (compare_same s s1 op uh vh k1 muh mvh) ∙ ap (λ l. union_mix (cmp uh vh) l) h1))))
      ∙ (turned (cmp ul vl) (cmp uh vh) (cmp ul vh) (cmp uh vl) (mix_at holds s a x)
      ∙ ap (λ m. union_mix m (mix_at holds s a x)) (sym whole))))
    where
      cmp : List (Offer C) → List (Offer C) → Mix
      cmp xs ys = compare_mix n holds s a op xs ys

      turned : (c d e f m : Mix) → union_mix f (union_mix e (union_mix d (union_mix c m))) ≡ union_mix (union_mix (union_mix c e) (union_mix f d)) m
      turned c d e f m = same_mix (four_in_turn c.no d.no e.no f.no m.no) (four_in_turn c.yes d.yes e.yes f.yes m.yes) (four_in_turn c.neither d.neither e.neither f.neither m.neither)

      whole : cmp us vs ≡ union_mix (union_mix (cmp ul vl) (cmp ul vh)) (union_mix (cmp uh vl) (cmp uh vh))
      whole =
          compare_parts n holds s a (λ o. is_low p keys bound o.outcome) (λ o. is_low p keys bound o.outcome) op us vs
          ∙ (ap (λ l. union_mix (union_mix (cmp l (lower p keys bound vs)) (cmp l (upper p keys bound vs))) (union_mix (cmp (upper p keys bound us) (lower p keys bound vs)) (cmp (upper p keys bound us) (upper p keys bound vs)))) (sym eul)
          ∙ (ap (λ l. union_mix (union_mix (cmp ul (lower p keys bound vs)) (cmp ul (upper p keys bound vs))) (union_mix (cmp l (lower p keys bound vs)) (cmp l (upper p keys bound vs)))) (sym euh)
          ∙ (ap (λ l. union_mix (union_mix (cmp ul l) (cmp ul (upper p keys bound vs))) (union_mix (cmp uh l) (cmp uh (upper p keys bound vs)))) (sym evl)
          ∙ ap (λ l. union_mix (union_mix (cmp ul vl) (cmp ul l)) (union_mix (cmp uh vl) (cmp uh l))) (sym evh))))

module _ {S C : Type 0} (holds : S → C → (ℕ → Bool) → Bool) (a : ℕ → Bool) where
  pub none_possible : (s : S) (c : C) (os : List (Offer C)) → length os ≡ 0 → holds s c a ≡ false → holds s c a ≡ possible holds s a os
  unfolding possible
  none_possible s c [] e h = h
  none_possible s c (o ∷ os) e h = absurd (omega arith)

  pub more_possible : (s mid t : S) (o : Offer C) (os all : List (Offer C)) (rest c : C) → all ≡ o ∷ os → holds mid o.when a ≡ holds s o.when a → holds mid rest a ≡ possible holds s a os → holds t c a ≡ (holds mid o.when a || holds mid rest a) → holds t c a ≡ possible holds s a all
  unfolding possible
  more_possible s mid t o os all rest c e k h made = made ∙ (ap (λ b. b || holds mid rest a) k ∙ (ap (λ b. holds s o.when a || b) h ∙ ap (possible holds s a) (sym e)))

module _ {S C : Type 0} (p : Problem) (w : World) (h : IsWorldOf p w) (IsMade : S → C → Type 0) (holds : S → C → (ℕ → Bool) → Bool) (room : S → ℕ) (a : ℕ → Bool) where
  pub crossed_given : (op : Op) (keys : Keys) (bound : Option ℕ) (below : Bool) (us vs : List (Offer C)) (s s1 s2 s3 t : S) (left right when : C) (answers : Answers) (x z : Chances C) →
      answers ≡ apart op keys below → AreApartBy p keys bound below us vs → AreOffersMade (IsMade s) vs → AreMade (IsMade s) x →
      KeepsConditions IsMade holds room s s1 → KeepsConditions IsMade holds room s1 s2 → KeepsConditions IsMade holds room s2 s3 → IsMade s1 left →
      holds s1 left a ≡ possible holds s a us → holds s2 right a ≡ possible holds s1 a vs → holds s3 when a ≡ (holds s2 left a && holds s2 right a) →
      mix_at holds t a z ≡ with_answers (holds s3 when a) answers (mix_at holds s3 a x) → mix_at holds t a z ≡ union_mix (compare_mix w.classes holds s a op us vs) (mix_at holds s a x)
  crossed_given op keys bound below us vs s s1 s2 s3 t left right when answers x z e lie mv mx k1 k2 k3 ml hl hr hw made =
      made
      ∙ (ap (λ b. with_answers b answers (mix_at holds s3 a x)) (hw ∙ (ap (λ b. b && holds s2 right a) (k2.same left ml a ∙ hl) ∙ ap (λ b. possible holds s a us && b) (hr ∙ possible_same IsMade holds room a s s1 vs k1 mv)))
      ∙ (ap (λ y. with_answers (possible holds s a us && possible holds s a vs) y (mix_at holds s3 a x)) e
      ∙ (ap (λ l. with_answers (possible holds s a us && possible holds s a vs) (apart op keys below) l) (mix_kept IsMade holds room a s s3 x (kept_twice IsMade holds room s s2 s3 (kept_twice IsMade holds room s s1 s2 k1 k2) k3) mx)
      ∙ apart_mix p w h holds s a op keys bound below us vs (mix_at holds s a x) lie)))

module _ {S C : Type 0} (n : Numbered) (IsMade : S → C → Type 0) (holds : S → C → (ℕ → Bool) → Bool) (room : S → ℕ) (a : ℕ → Bool) where
  pub paired_given : (op : Op) (us vs : List (Offer C)) (s s1 t : S) (x y z : Chances C) → KeepsConditions IsMade holds room s s1 → AreMade (IsMade s) x → mix_at holds s1 a y ≡ compare_mix n holds s a op us vs →
      mix_at holds t a z ≡ union_mix (mix_at holds s1 a y) (mix_at holds s1 a x) → mix_at holds t a z ≡ union_mix (compare_mix n holds s a op us vs) (mix_at holds s a x)
  paired_given op us vs s s1 t x y z k m h made = made ∙ (ap (λ l. union_mix l (mix_at holds s1 a x)) h ∙ ap (λ l. union_mix (compare_mix n holds s a op us vs) l) (mix_kept IsMade holds room a s s1 x k m))

pub beside_none : (m n whole : Mix) → n ≡ none_at_all → whole ≡ union_mix m n → whole ≡ m
beside_none m n whole e h = h ∙ (ap (λ l. union_mix m l) e ∙ same_mix (last m.no) (last m.yes) (last m.neither))
  where
    last : (b : Bool) → (b || false) ≡ b
    last true = refl
    last false = refl
