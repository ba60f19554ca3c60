-- Outcomes of several members.
use Rattle.std.proofs.Common.{◌≡◌, ◌≤◌, ◌<◌, ◌-◌, ℕ, zero, suc, Option, drop, get_or, take, List, [], ◌∷◌, ◌++◌, map, length, Some, Bool, true, false, ◌&&◌, ◌||◌, refl, sym, ap, ◌∙◌, arith, subst}
use Rattle.std.proofs.lemmas.List.{take_all}
use Rattle.std.proofs.Math.Seq.{drop-cons}
use Rattle.smv_core.specs.FlatMeaning.{Numbered}
use Rattle.smv_core.specs.declared.tree.Op.TheVariants.{Equal}
use Rattle.smv_core.specs.Values.{number}
use Rattle.law_obligations.specs.Places.{named, AbsOutcome, World}
use Rattle.smv_problem.specs.declared.problem.Problem.{Problem}
use Rattle.smv_problem_spots.specs.Worlds.{IsWorldOf}
use Rattle.smv_spots.specs.declared.spots.Spot.{Spot}
use Rattle.smv_spots.specs.declared.places.Sort.TheVariants as sort
use Rattle.smv_spots.specs.Spots.{place_in, outcome_in, spot_of}
use Rattle.smv_conditions.specs.declared.offers.Offer.{Offer}
use Rattle.smv_conditions.specs.declared.chances.Chances.{Chances}
use Rattle.smv_conditions.specs.Keep.{KeepsConditions}
use Rattle.smv_conditions.specs.Chances.{mix_at, AreMade}
use Rattle.smv_conditions.specs.Offers.{any_offer, AreOffersMade}
use Rattle.smv_conditions.proofs.AddLaws.{offers_kept}
use Rattle.smv_conditions.proofs.ChainLaws.{mix_kept}
use Rattle.smv_conditions.proofs.OfferLaws.{first_made}
use Rattle.law_obligations.specs.Mix.{none_at_all, or_mix, or_all}
use Rattle.smv_outcome_lists.specs.Pairs.{guard_mix, compare_each}
use Rattle.smv_outcome_lists.specs.Lists.{AreListsMade, member_at, within_at}
use Rattle.smv_outcome_lists.proofs.PairLaws.{each_same}

pub take_whole : {X : Type 0} (n : ℕ) (xs : List X) → length xs ≤ n → xs ≡ take n xs
take_whole n xs l = sym (take_all n xs l)

module _ {S C : Type 0} (IsMade : S → C → Type 0) (holds : S → C → (ℕ → Bool) → Bool) (room : S → ℕ) where
  pub lists_kept : (s t : S) (uss : List (List (Offer C))) → KeepsConditions IsMade holds room s t → AreListsMade (IsMade s) uss → AreListsMade (IsMade t) uss
  lists_kept s t [] k m = tt
  lists_kept s t (us ∷ uss) k m = (offers_kept IsMade holds room s t us k m.0, lists_kept s t uss k m.1)

  pub first_list : (s t : S) (us shown : List (Offer C)) (rest uss : List (List (Offer C))) → uss ≡ us ∷ rest → shown ≡ us → KeepsConditions IsMade holds room s t → AreListsMade (IsMade s) uss → AreOffersMade (IsMade t) shown
  first_list s t us shown rest uss e f k m = let h = subst (AreListsMade (IsMade s)) e m in subst (AreOffersMade (IsMade t)) (sym f) (offers_kept IsMade holds room s t us k h.0)

module _ {S C : Type 0} (n : Numbered) (holds : S → C → (ℕ → Bool) → Bool) (a : ℕ → Bool) where
  pub none_within : (s t : S) (z : Chances C) (us : List (Offer C)) (vss : List (List (Offer C))) → length us ≡ 0 → mix_at holds t a z ≡ none_at_all → mix_at holds t a z ≡ within_at n holds s a us vss
  unfolding within_at any_offer
  none_within s t z [] vss e h = h
  none_within s t z (u ∷ us) vss e h = absurd (omega arith)

  one_member : (s : S) (u : AbsOutcome) (vs : List (Offer C)) (rest : List (List (Offer C))) → or_mix (compare_each n holds s a Equal u vs) (member_at n holds s a u rest) ≡ member_at n holds s a u (vs ∷ rest)
  unfolding member_at
  one_member s u vs rest = refl

  one_within : (s : S) (u : Offer C) (us : List (Offer C)) (vss : List (List (Offer C))) → guard_mix (holds s u.when a) (member_at n holds s a (outcome_in n u.outcome) vss) (within_at n holds s a us vss) ≡ within_at n holds s a (u ∷ us) vss
  unfolding within_at any_offer
  one_within s u us vss = refl

module _ {S C : Type 0} (n : Numbered) (IsMade : S → C → Type 0) (holds : S → C → (ℕ → Bool) → Bool) (room : S → ℕ) (a : ℕ → Bool) where
  all_same : (s t : S) (u : AbsOutcome) (vss : List (List (Offer C))) → KeepsConditions IsMade holds room s t → AreListsMade (IsMade s) vss → map (compare_each n holds t a Equal u) vss ≡ map (compare_each n holds s a Equal u) vss
  all_same s t u [] k m = refl
  all_same s t u (vs ∷ vss) k m = ap (λ x. x ∷ map (compare_each n holds t a Equal u) vss) (each_same n IsMade holds room a s t Equal u vs k m.0) ∙ ap (λ xs. compare_each n holds s a Equal u vs ∷ xs) (all_same s t u vss k m.1)

  member_same : (s t : S) (u : AbsOutcome) (vss : List (List (Offer C))) → KeepsConditions IsMade holds room s t → AreListsMade (IsMade s) vss → member_at n holds t a u vss ≡ member_at n holds s a u vss
  unfolding member_at
  member_same s t u vss k m = ap or_all (all_same s t u vss k m)

  pub more_within : (s mid later t : S) (u : Offer C) (us all : List (Offer C)) (vss : List (List (Offer C))) (x y z : Chances C) → all ≡ u ∷ us → KeepsConditions IsMade holds room s mid → KeepsConditions IsMade holds room mid later →
      AreOffersMade (IsMade s) all → AreListsMade (IsMade s) vss → AreMade (IsMade mid) x → mix_at holds mid a x ≡ within_at n holds s a us vss → mix_at holds later a y ≡ member_at n holds mid a (outcome_in n u.outcome) vss →
      mix_at holds t a z ≡ guard_mix (holds later u.when a) (mix_at holds later a y) (mix_at holds later a x) → mix_at holds t a z ≡ within_at n holds s a all vss
  more_within s mid later t u us all vss x y z whole k l m mv mx rest here made =
      let mu : IsMade s u.when = first_made (IsMade s) u us all whole m in
      made
      ∙ (ap (λ b. guard_mix b (mix_at holds later a y) (mix_at holds later a x)) (l.same u.when (k.made u.when mu) a ∙ k.same u.when mu a)
      ∙ (ap (λ w. guard_mix (holds s u.when a) w (mix_at holds later a x)) (here ∙ member_same s mid (outcome_in n u.outcome) vss k mv)
      ∙ (ap (λ w. guard_mix (holds s u.when a) (member_at n holds s a (outcome_in n u.outcome) vss) w) (mix_kept IsMade holds room a mid later x l mx ∙ rest)
      ∙ (one_within n holds a s u us vss ∙ ap (λ l. within_at n holds s a l vss) (sym whole)))))

pub made_after : {C : Type 0} (IsMade : C → Type 0) (uss : List (List (Offer C))) (us : List (Offer C)) → AreListsMade IsMade uss → AreOffersMade IsMade us → AreListsMade IsMade (uss ++ us ∷ [])
made_after IsMade [] us m n = (n, tt)
made_after IsMade (vs ∷ uss) us m n = (m.0, made_after IsMade uss us m.1 n)

-- a list with one outcome that is always there
pub single_made : {C : Type 0} (IsMade : C → Type 0) (old new : List (List (Offer C))) (none list : List (Offer C)) (o : Offer C) → new ≡ old ++ list ∷ [] → none ≡ [] → list ≡ none ++ o ∷ [] → AreListsMade IsMade old → IsMade o.when → AreListsMade IsMade new
single_made IsMade old new none list o e n f m h = subst (AreListsMade IsMade) (sym (e ∙ ap (λ l. old ++ l ∷ []) (f ∙ ap (λ l. l ++ o ∷ []) n))) (made_after IsMade old (o ∷ []) m (h, tt))

module _ {S C : Type 0} (n : Numbered) (holds : S → C → (ℕ → Bool) → Bool) (s : S) (a : ℕ → Bool) (p : AbsOutcome → Bool) where
  map_append : {X Y : Type 0} (f : X → Y) (xs ys : List X) → map f (xs ++ ys) ≡ map f xs ++ map f ys
  map_append f [] ys = refl
  map_append f (x ∷ xs) ys = ap (λ l. f x ∷ l) (map_append f xs ys)

  append_again : {X : Type 0} (xs ys : List X) (y : X) → (xs ++ y ∷ []) ++ ys ≡ xs ++ y ∷ ys
  append_again [] ys y = refl
  append_again (x ∷ xs) ys y = ap (λ l. x ∷ l) (append_again xs ys y)

  append_none : {X : Type 0} (xs : List X) → xs ≡ xs ++ []
  append_none [] = refl
  append_none (x ∷ xs) = ap (λ l. x ∷ l) (append_none xs)

  pub no_single : (old : List (List (Offer C))) (spots : List Spot) → length spots ≡ 0 → map (any_offer n holds s a p) old ≡ map (any_offer n holds s a p) old ++ map (λ q. p (Some (place_in n q))) spots
  no_single old [] e = append_none (map (any_offer n holds s a p) old)
  no_single old (q ∷ qs) e = absurd (omega arith)

  one_offer : (o : Offer C) (q : Spot) → o.outcome ≡ Some q → holds s o.when a ≡ true → any_offer n holds s a p (o ∷ []) ≡ p (Some (place_in n q))
  unfolding any_offer
  one_offer o q e h = ap (λ u. (holds s o.when a && p (outcome_in n u)) || false) e ∙ (ap (λ b. (b && p (Some (place_in n q))) || false) h ∙ last (p (Some (place_in n q))))
    where
      last : (b : Bool) → (b || false) ≡ b
      last true = refl
      last false = refl

  pub more_singles : (old longer new : List (List (Offer C))) (none list : List (Offer C)) (o : Offer C) (q : Spot) (qs spots : List Spot) → spots ≡ q ∷ qs → longer ≡ old ++ list ∷ [] → none ≡ [] → list ≡ none ++ o ∷ [] → o.outcome ≡ Some q → holds s o.when a ≡ true →
      map (any_offer n holds s a p) new ≡ map (any_offer n holds s a p) longer ++ map (λ r. p (Some (place_in n r))) qs → map (any_offer n holds s a p) new ≡ map (any_offer n holds s a p) old ++ map (λ r. p (Some (place_in n r))) spots
  more_singles old longer new none list o q qs spots e f nil g is h rest =
      rest
      ∙ (ap (λ l. map (any_offer n holds s a p) l ++ map (λ r. p (Some (place_in n r))) qs) (f ∙ ap (λ l. old ++ l ∷ []) (g ∙ ap (λ l. l ++ o ∷ []) nil))
      ∙ (ap (λ l. l ++ map (λ r. p (Some (place_in n r))) qs) (map_append (any_offer n holds s a p) old ((o ∷ []) ∷ []))
      ∙ (append_again (map (any_offer n holds s a p) old) (map (λ r. p (Some (place_in n r))) qs) (any_offer n holds s a p (o ∷ []))
      ∙ (ap (λ b. map (any_offer n holds s a p) old ++ b ∷ map (λ r. p (Some (place_in n r))) qs) (one_offer o q is h) ∙ ap (λ l. map (any_offer n holds s a p) old ++ map (λ r. p (Some (place_in n r))) l) (sym e)))))

  pub numbers_are : (spots : List Spot) (ks : List ℕ) → spots ≡ map (spot_of sort.Number) ks → map (λ q. p (Some (place_in n q))) spots ≡ map (λ k. p (Some (named (number k)))) ks
  numbers_are spots ks e = ap (map (λ q. p (Some (place_in n q)))) e ∙ along ks
    where
      along : (ks : List ℕ) → map (λ q. p (Some (place_in n q))) (map (spot_of sort.Number) ks) ≡ map (λ k. p (Some (named (number k)))) ks
      along [] = refl
      along (k ∷ ks) = ap (λ l. p (Some (named (number k))) ∷ l) (along ks)

-- What a loop over members keeps, from the last to the first: whether an outcome is equal to some member that was taken.
pub record Membering {S C : Type 0} (IsMade : S → C → Type 0) (holds : S → C → (ℕ → Bool) → Bool) (room : S → ℕ) (start s : S) (problem : Problem) (u : Option Spot) (taken : List (List (Offer C))) (found : Chances C) : Type 0 where
  pub keeps : KeepsConditions IsMade holds room start s
  pub made : AreMade (IsMade s) found
  pub mix : (w : World) → IsWorldOf problem w → (a : ℕ → Bool) → mix_at holds s a found ≡ member_at w.classes holds start a (outcome_in w.classes u) taken

module _ {S C : Type 0} (IsMade : S → C → Type 0) (holds : S → C → (ℕ → Bool) → Bool) (room : S → ℕ) where
  pub members_begun : (s : S) (problem : Problem) (u : Option Spot) (vss : List (List (Offer C))) (found : Chances C) → AreMade (IsMade s) found → ((a : ℕ → Bool) → mix_at holds s a found ≡ or_all []) →
      Membering IsMade holds room s s problem u (drop (length vss) vss) found
  unfolding member_at
  members_begun s problem u vss found m e = record {
    keeps = record { made = λ c k. k; same = λ c k a. refl; stays = refl };
    made = m;
    mix = λ w h a. e a ∙ ap (λ l. or_all (map (compare_each w.classes holds s a Equal (outcome_in w.classes u)) l)) (sym (nothing_left vss));
  }
    where
      nothing_left : (l : List (List (Offer C))) → drop (length l) l ≡ []
      nothing_left [] = refl
      nothing_left (x ∷ l) = nothing_left l

  pub keeps_after : (start now new : S) → KeepsConditions IsMade holds room start now → KeepsConditions IsMade holds room now new → KeepsConditions IsMade holds room start new
  keeps_after start now new j k = record { made = λ c d. k.made c (j.made c d); same = λ c d a. k.same c (j.made c d) a ∙ j.same c d a; stays = k.stays ∙ j.stays }

  -- one of the lists, over conditions that stay
  pub list_made : (start now : S) (vss : List (List (Offer C))) (i : ℕ) (d shown : List (Offer C)) → i < length vss → shown ≡ get_or vss i d → KeepsConditions IsMade holds room start now → AreListsMade (IsMade start) vss → AreOffersMade (IsMade now) shown
  list_made start now vss i d shown few e k m = subst (AreOffersMade (IsMade now)) (sym e) (at vss i few m)
    where
      at : (vss : List (List (Offer C))) (i : ℕ) → i < length vss → AreListsMade (IsMade start) vss → AreOffersMade (IsMade now) (get_or vss i d)
      at [] i few m = absurd (omega arith)
      at (vs ∷ vss) zero few m = offers_kept IsMade holds room start now vs k m.0
      at (vs ∷ vss) (suc i) few m = at vss i (omega arith) m.1

  pub members_go : (start now new : S) (problem : Problem) (u : Option Spot) (vss : List (List (Offer C))) (k : ℕ) (vs shown : List (Offer C)) (found z : Chances C) → 0 < k → k ≤ length vss → vs ≡ get_or vss (k - 1) vs → shown ≡ vs → AreListsMade (IsMade start) vss →
      Membering IsMade holds room start now problem u (drop k vss) found → KeepsConditions IsMade holds room now new → AreMade (IsMade new) z →
      ((w : World) → IsWorldOf problem w → (a : ℕ → Bool) → mix_at holds new a z ≡ or_mix (compare_each w.classes holds now a Equal (outcome_in w.classes u) shown) (mix_at holds now a found)) →
      Membering IsMade holds room start new problem u (drop (k - 1) vss) z
  members_go start now new problem u vss k vs shown found z some within is e m before kept made mixed = record {
    keeps = keeps_after start now new before.keeps kept;
    made = made;
    mix = λ w h a. mixed w h a
        ∙ (ap (λ x. or_mix x (mix_at holds now a found)) (ap (compare_each w.classes holds now a Equal (outcome_in w.classes u)) e ∙ each_same w.classes IsMade holds room a start now Equal (outcome_in w.classes u) vs before.keeps (list_made start start vss (k - 1) vs vs (omega arith) is (record { made = λ c j. j; same = λ c j a. refl; stays = refl }) m))
        ∙ (ap (or_mix (compare_each w.classes holds start a Equal (outcome_in w.classes u) vs)) (before.mix w h a)
        ∙ (one_member w.classes holds a start (outcome_in w.classes u) vs (drop k vss) ∙ ap (member_at w.classes holds start a (outcome_in w.classes u)) longer)));
  }
    where
      more : k ≡ suc (k - 1)
      more = omega arith

      longer : vs ∷ drop k vss ≡ drop (k - 1) vss
      longer = ap (λ n. vs ∷ drop n vss) more ∙ (ap (λ y. y ∷ drop (suc (k - 1)) vss) is ∙ sym (drop-cons vss (k - 1) vs (omega arith)))

  pub members_over : (start now : S) (problem : Problem) (u : Option Spot) (vss : List (List (Offer C))) (k : ℕ) (found : Chances C) → k ≤ 0 → Membering IsMade holds room start now problem u (drop k vss) found →
      (w : World) → IsWorldOf problem w → (a : ℕ → Bool) → mix_at holds now a found ≡ member_at w.classes holds start a (outcome_in w.classes u) vss
  members_over start now problem u vss zero found none done w h a = done.mix w h a
  members_over start now problem u vss (suc k) found none done w h a = absurd (omega arith)

  pub member_more : (n : Numbered) (a : ℕ → Bool) (s mid t : S) (u : AbsOutcome) (vs : List (Offer C)) (found y z : Chances C) → KeepsConditions IsMade holds room s mid → AreMade (IsMade s) found → mix_at holds mid a y ≡ compare_each n holds s a Equal u vs →
      mix_at holds t a z ≡ or_mix (mix_at holds mid a y) (mix_at holds mid a found) → mix_at holds t a z ≡ or_mix (compare_each n holds s a Equal u vs) (mix_at holds s a found)
  member_more n a s mid t u vs found y z k m here made = made ∙ (ap (λ x. or_mix x (mix_at holds mid a found)) here ∙ ap (or_mix (compare_each n holds s a Equal u vs)) (mix_kept IsMade holds room a s mid found k m))
