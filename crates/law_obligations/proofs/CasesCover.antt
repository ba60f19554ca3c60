-- For all values of listed parameters of a scalarset some case has classes that put each at its own.
use Rattle.std.proofs.Common.{◌≡◌, ℕ, suc, ◌<◌, max, List, [], ◌∷◌, ◌++◌, length, Bool, true, false, if◌then◌else◌, refl, sym, ap, subst, ◌∙◌, arith, nat_eq, Option, Some, None, option_map, append_assoc}
use Rattle.law_lists.proofs.Numbers.{nat_eq-not_turned, nat_le-true}
use Rattle.law_lists.proofs.Booleans.{and_both}
use Rattle.law_obligations.specs.Cases.{used, grow}
use Rattle.law_obligations.specs.Placings.{place_in, or_rest, AreDistinct, AreBelow, AreIn}
use Rattle.law_obligations.proofs.Same.{nat_eq-itself}
use Rattle.law_obligations.proofs.Scalarsets.{found}

pub not_in_longer : (v w : ℕ) (xs : List ℕ) → place_in v xs ≡ None → nat_eq v w ≡ false → place_in v (xs ++ w ∷ []) ≡ None
not_in_longer v w [] e n = rw n refl
not_in_longer v w (x ∷ xs) e n = at (nat_eq v x) (place_in v xs) refl e (λ p. not_in_longer v w xs p n)
  where
    at : (b : Bool) (o : Option ℕ) → place_in v xs ≡ o → (if b then Some 0 else option_map (λ c. suc c) o) ≡ None → (place_in v xs ≡ None → place_in v (xs ++ w ∷ []) ≡ None) →
        (if b then Some 0 else option_map (λ c. suc c) (place_in v (xs ++ w ∷ []))) ≡ None
    at true o p e ih = absurd (cc)
    at false None p e ih = ap (option_map (λ c. suc c)) (ih p)
    at false (Some c) p e ih = absurd (cc)

pub none_of_either : (b : Bool) (o : Option ℕ) → (if b then Some 0 else option_map (λ c. suc c) o) ≡ None → (b ≡ false) × (o ≡ None)
none_of_either true o e = absurd (cc)
none_of_either false None e = (refl, refl)
none_of_either false (Some c) e = absurd (cc)

pub longer_distinct : (xs : List ℕ) (v : ℕ) → AreDistinct xs → place_in v xs ≡ None → AreDistinct (xs ++ v ∷ [])
longer_distinct [] v d n = (refl, tt)
longer_distinct (x ∷ xs) v d n = let r = none_of_either (nat_eq v x) (place_in v xs) n in (not_in_longer x v xs d.0 (nat_eq-not_turned v x r.0), longer_distinct xs v d.1 r.1)

-- what is found stays where it is when the list grows
pub stays : (v : ℕ) (xs ys : List ℕ) (c : ℕ) → place_in v xs ≡ Some c → place_in v (xs ++ ys) ≡ Some c
stays v [] ys c e = absurd (cc)
stays v (x ∷ xs) ys c e = at (nat_eq v x) (place_in v xs) refl (λ d f. stays v xs ys d f) e
  where
    at : (b : Bool) (o : Option ℕ) → place_in v xs ≡ o → ((d : ℕ) → place_in v xs ≡ Some d → place_in v (xs ++ ys) ≡ Some d) → (if b then Some 0 else option_map (λ c. suc c) o) ≡ Some c →
        (if b then Some 0 else option_map (λ c. suc c) (place_in v (xs ++ ys))) ≡ Some c
    at true o p ih e = e
    at false None p ih e = absurd (cc)
    at false (Some d) p ih e = rw (ih d p) e

pub at_end : (xs : List ℕ) (v : ℕ) → place_in v xs ≡ None → place_in v (xs ++ v ∷ []) ≡ Some (length xs)
at_end [] v n = rw (nat_eq-itself v) refl
at_end (x ∷ xs) v n = at (nat_eq v x) (place_in v xs) refl n (λ p. at_end xs v p)
  where
    at : (b : Bool) (o : Option ℕ) → place_in v xs ≡ o → (if b then Some 0 else option_map (λ c. suc c) o) ≡ None → (place_in v xs ≡ None → place_in v (xs ++ v ∷ []) ≡ Some (length xs)) →
        (if b then Some 0 else option_map (λ c. suc c) (place_in v (xs ++ v ∷ []))) ≡ Some (suc (length xs))
    at true o p e ih = absurd (cc)
    at false None p e ih = ap (option_map (λ c. suc c)) (ih p)
    at false (Some c) p e ih = absurd (cc)

pub below_longer : (size : ℕ) (xs : List ℕ) (v : ℕ) → AreBelow size xs → v < size → AreBelow size (xs ++ v ∷ [])
below_longer size [] v h l = (l, tt)
below_longer size (x ∷ xs) v h l = (h.0, below_longer size xs v h.1 l)

-- a case for values, where those that were seen have their classes
record Covered (size : ℕ) (seen vs : List ℕ) : Type 0 where
  added : List ℕ
  classes : List ℕ
  is_case : grow (length seen) classes ≡ true
  distinct : AreDistinct (seen ++ added)
  below : AreBelow size (seen ++ added)
  in_classes : AreIn (seen ++ added) vs classes
  used_is : max (length seen) (used classes) ≡ length (seen ++ added)

max_again : (m c u : ℕ) → c < m → max m (max (suc c) u) ≡ max m u
max_again m c u l = omega arith

max_next : (m u : ℕ) → max m (max (suc m) u) ≡ max (suc m) u
max_next m u = omega arith

pub nil_right : (xs : List ℕ) → xs ++ [] ≡ xs
nil_right [] = refl
nil_right (x ∷ xs) = ap (λ z. x ∷ z) (nil_right xs)

max_zero : (n : ℕ) → max n 0 ≡ n
max_zero n = omega arith

max_old : (m c : ℕ) → c < m → max m (suc c) ≡ m
max_old m c l = omega arith

max_new : (m : ℕ) → max m (suc m) ≡ suc m
max_new m = omega arith

length_one_more : (xs : List ℕ) (v : ℕ) → length (xs ++ v ∷ []) ≡ suc (length xs)
length_one_more [] v = refl
length_one_more (x ∷ xs) v = ap suc (length_one_more xs v)

old_or_new : (size v : ℕ) (seen : List ℕ) → AreDistinct seen → AreBelow size seen → v < size → (o : Option ℕ) → place_in v seen ≡ o → (vs : List ℕ) →
    ((seen : List ℕ) → AreDistinct seen → AreBelow size seen → Covered size seen vs) → Covered size seen (v ∷ vs)
old_or_new size v seen d h l (Some c) p vs ih =
    let r = ih seen d h in
    let at = found v seen c p in
    let within : c < length seen = at.0 in
    record {
      added = r.added;
      classes = c ∷ r.classes;
      is_case = and_both (nat_le-true c (length seen) (omega (arith, within))) (subst (λ m. grow m r.classes ≡ true) (sym (max_old (length seen) c within)) r.is_case);
      distinct = r.distinct;
      below = r.below;
      in_classes = (ap or_rest (stays v seen r.added c p), r.in_classes);
      used_is = max_again (length seen) c (used r.classes) within ∙ r.used_is;
    }
old_or_new size v seen d h l None p vs ih =
    let longer = seen ++ v ∷ [] in
    let r = ih longer (longer_distinct seen v d p) (below_longer size seen v h l) in
    let m = length seen in
    let same : longer ++ r.added ≡ seen ++ v ∷ r.added = append_assoc seen (v ∷ []) r.added in
    let grown : length longer ≡ suc m = length_one_more seen v in
    record {
      added = v ∷ r.added;
      classes = m ∷ r.classes;
      is_case = and_both (nat_le-true m m (omega arith)) (subst (λ k. grow k r.classes ≡ true) (grown ∙ sym (max_new m)) r.is_case);
      distinct = subst AreDistinct same r.distinct;
      below = subst (AreBelow size) same r.below;
      in_classes = (ap or_rest (subst (λ z. place_in v z ≡ Some m) same (stays v longer r.added m (at_end seen v p))), subst (λ z. AreIn z vs r.classes) same r.in_classes);
      used_is = max_next m (used r.classes) ∙ (ap (λ k. max k (used r.classes)) (sym grown) ∙ (r.used_is ∙ ap length same));
    }

cover : (size : ℕ) (vs seen : List ℕ) → AreDistinct seen → AreBelow size seen → AreBelow size vs → Covered size seen vs
cover size [] seen d h g = record {
  added = [];
  classes = [];
  is_case = refl;
  distinct = subst AreDistinct (sym (nil_right seen)) d;
  below = subst (AreBelow size) (sym (nil_right seen)) h;
  in_classes = tt;
  used_is = max_zero (length seen) ∙ ap length (sym (nil_right seen));
}
cover size (v ∷ vs) seen d h g = old_or_new size v seen d h g.0 (place_in v seen) refl vs (λ longer p q. cover size vs longer p q g.1)

pub classes_cover : (size : ℕ) (vs : List ℕ) → AreBelow size vs →
    (classes : List ℕ) × (grow 0 classes ≡ true) × (values : List ℕ) × AreDistinct values × AreBelow size values × (used classes ≡ length values) × AreIn values vs classes
classes_cover size vs h =
    let r = cover size vs [] tt tt h in
    (r.classes, r.is_case, r.added, r.distinct, r.below, zero_max (used r.classes) ∙ r.used_is, r.in_classes)
  where
    zero_max : (n : ℕ) → n ≡ max 0 n
    zero_max n = omega arith
