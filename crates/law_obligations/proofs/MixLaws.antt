-- What operators make of mixes.
use Rattle.std.proofs.Common.{◌≡◌, List, [], ◌∷◌, ◌++◌, map, Bool, true, false, ◌&&◌, ◌||◌, Some, None, refl, sym, ap, ◌∙◌}
use Rattle.std.specs.List.{flat_map, list_any, list_all}
use Rattle.std.proofs.lemmas.List.Folds.{list_any-append}
use Rattle.std.proofs.lemmas.List.{map-append}
use Rattle.law_lists.proofs.Anys.{any-map, any-flat_map, any-agree, any-or}
use Rattle.law_lists.proofs.Booleans.{left_of, right_of}
use Rattle.smv_core.specs.Values.{Truth, not_of, and_of, or_of, implies_of, conjunction, disjunction, implication}
use Rattle.smv_core.specs.Outcome.{is_true, branch}
use Rattle.law_obligations.specs.Right.{is_false, is_neither}
use Rattle.law_obligations.specs.Places.{AbsOutcome, named}
use Rattle.law_obligations.specs.May.{seen, shown, quantified}
use Rattle.smv_core.specs.Values.{number}
use Rattle.law_obligations.specs.Sets.{one_of_each, parts}
use Rattle.law_obligations.specs.Mix.{Mix, mix_of, mix_by, is_filled, not_mix, and_mix, or_mix, implies_mix, and_all, or_all, implies_all, or_none, shown_of}
use Rattle.law_obligations.proofs.Anys.{any-and, any-pairs, any-first, any-second, any-choices}
use Rattle.law_obligations.specs.Mix.{is_there}

-- parts of a mix that are equal
pub same_mix : {m n : Mix} → m.no ≡ n.no → m.yes ≡ n.yes → m.neither ≡ n.neither → m ≡ n
same_mix {m} {n} a b c = ap (λ x. record { no = x; yes = m.yes; neither = m.neither }) a ∙ (ap (λ x. record { no = n.no; yes = x; neither = m.neither }) b ∙ ap (λ x. record { no = n.no; yes = n.yes; neither = x }) c)

pub or_same : {a b c d : Bool} → a ≡ c → b ≡ d → (a || b) ≡ (c || d)
or_same {b = b} {c = c} e f = ap (λ x. x || b) e ∙ ap (λ x. c || x) f

-- what an operator on two lists of truth values may give, for each of the nine pairs
no_and : (u v : Truth) → is_false (and_of u v) ≡ (is_false u || is_false v)
no_and (Some true) (Some true) = refl
no_and (Some true) (Some false) = refl
no_and (Some true) None = refl
no_and (Some false) v = refl
no_and None (Some true) = refl
no_and None (Some false) = refl
no_and None None = refl

yes_and : (u v : Truth) → is_true (and_of u v) ≡ (is_true u && is_true v)
yes_and (Some true) (Some true) = refl
yes_and (Some true) (Some false) = refl
yes_and (Some true) None = refl
yes_and (Some false) v = refl
yes_and None (Some true) = refl
yes_and None (Some false) = refl
yes_and None None = refl

neither_and : (u v : Truth) → is_neither (and_of u v) ≡ ((is_neither u && (is_true v || is_neither v)) || (is_true u && is_neither v))
neither_and (Some true) (Some true) = refl
neither_and (Some true) (Some false) = refl
neither_and (Some true) None = refl
neither_and (Some false) v = refl
neither_and None (Some true) = refl
neither_and None (Some false) = refl
neither_and None None = refl

-- a mix is filled exactly where its list has a member
pub filled : {X : Type 0} (f : X → Truth) (xs : List X) → is_filled (mix_by f xs) ≡ is_there xs
filled f [] = refl
filled f (x ∷ xs) = at (f x) (list_any (λ y. is_false (f y)) xs) (list_any (λ y. is_true (f y)) xs) (list_any (λ y. is_neither (f y)) xs)
  where
    at : (t : Truth) (b c d : Bool) → ((is_false t || b) || ((is_true t || c) || (is_neither t || d))) ≡ true
    at (Some true) true c d = refl
    at (Some true) false c d = refl
    at (Some false) b c d = refl
    at None true c d = refl
    at None false true d = refl
    at None false false d = refl

pub mix-map : {X : Type 0} (f : X → Truth) (xs : List X) → mix_of (map f xs) ≡ mix_by f xs
mix-map f xs = same_mix (any-map is_false f xs) (any-map is_true f xs) (any-map is_neither f xs)

pub and_there : (a b : Bool) → b ≡ true → (a && b) ≡ a
and_there true b e = e
and_there false b e = refl

pub there_and : (a b : Bool) → b ≡ true → (b && a) ≡ a
there_and a b e = ap (λ x. x && a) e

-- what an operator gives on each two of two lists
abbrev pub mix_two : {X Y : Type 0} → (X → Y → Truth) → List X → List Y → Mix
mix_two g xs ys = record { no = list_any (λ x. list_any (λ y. is_false (g x y)) ys) xs; yes = list_any (λ x. list_any (λ y. is_true (g x y)) ys) xs; neither = list_any (λ x. list_any (λ y. is_neither (g x y)) ys) xs }

two-ext : {X Y : Type 0} (g h : X → Y → Truth) (xs : List X) (ys : List Y) → ((x : X) (y : Y) → g x y ≡ h x y) → mix_two g xs ys ≡ mix_two h xs ys
two-ext g h xs ys e = same_mix (inside is_false) (inside is_true) (inside is_neither)
  where
    inside : (p : Truth → Bool) → list_any (λ x. list_any (λ y. p (g x y)) ys) xs ≡ list_any (λ x. list_any (λ y. p (h x y)) ys) xs
    inside p = any-agree (λ x. list_any (λ y. p (g x y)) ys) (λ x. list_any (λ y. p (h x y)) ys) xs (λ x. any-agree (λ y. p (g x y)) (λ y. p (h x y)) ys (λ y. ap p (e x y)))

pub and-two : {X Y : Type 0} (e : X → Truth) (f : Y → Truth) (xs : List X) (ys : List Y) → is_there xs ≡ true → is_there ys ≡ true →
    mix_two (λ x y. and_of (e x) (f y)) xs ys ≡ and_mix (mix_by e xs) (mix_by f ys)
and-two {X} {Y} e f xs ys there others = same_mix no yes neither
  where
    inside : (p : Truth → Bool) (q : X → Y → Bool) → ((x : X) (y : Y) → p (and_of (e x) (f y)) ≡ q x y) → list_any (λ x. list_any (λ y. p (and_of (e x) (f y))) ys) xs ≡ list_any (λ x. list_any (λ y. q x y) ys) xs
    inside p q eq = any-agree (λ x. list_any (λ y. p (and_of (e x) (f y))) ys) (λ x. list_any (λ y. q x y) ys) xs (λ x. any-agree (λ y. p (and_of (e x) (f y))) (λ y. q x y) ys (eq x))

    halves : (p q : X → Y → Bool) → list_any (λ x. list_any (λ y. p x y || q x y) ys) xs ≡ (list_any (λ x. list_any (p x) ys) xs || list_any (λ x. list_any (q x) ys) xs)
    halves p q = any-agree (λ x. list_any (λ y. p x y || q x y) ys) (λ x. list_any (p x) ys || list_any (q x) ys) xs (λ x. any-or (p x) (q x) ys) ∙ any-or (λ x. list_any (p x) ys) (λ x. list_any (q x) ys) xs

    no : list_any (λ x. list_any (λ y. is_false (and_of (e x) (f y))) ys) xs ≡ (list_any (λ x. is_false (e x)) xs || list_any (λ y. is_false (f y)) ys)
    no = inside is_false (λ x y. is_false (e x) || is_false (f y)) (λ x y. no_and (e x) (f y)) ∙ (halves (λ x y. is_false (e x)) (λ x y. is_false (f y)) ∙ or_same (any-first (λ x. is_false (e x)) xs ys ∙ and_there _ _ others) (any-second (λ y. is_false (f y)) xs ys ∙ there_and _ _ there))

    yes : list_any (λ x. list_any (λ y. is_true (and_of (e x) (f y))) ys) xs ≡ (list_any (λ x. is_true (e x)) xs && list_any (λ y. is_true (f y)) ys)
    yes = inside is_true (λ x y. is_true (e x) && is_true (f y)) (λ x y. yes_and (e x) (f y)) ∙ any-pairs (λ x. is_true (e x)) (λ y. is_true (f y)) xs ys

    neither : list_any (λ x. list_any (λ y. is_neither (and_of (e x) (f y))) ys) xs ≡ ((list_any (λ x. is_neither (e x)) xs && (list_any (λ y. is_true (f y)) ys || list_any (λ y. is_neither (f y)) ys)) || (list_any (λ x. is_true (e x)) xs && list_any (λ y. is_neither (f y)) ys))
    neither = inside is_neither (λ x y. (is_neither (e x) && (is_true (f y) || is_neither (f y))) || (is_true (e x) && is_neither (f y))) (λ x y. neither_and (e x) (f y))
        ∙ (halves (λ x y. is_neither (e x) && (is_true (f y) || is_neither (f y))) (λ x y. is_true (e x) && is_neither (f y))
        ∙ or_same (any-pairs (λ x. is_neither (e x)) (λ y. is_true (f y) || is_neither (f y)) xs ys ∙ ap (λ b. list_any (λ x. is_neither (e x)) xs && b) (any-or (λ y. is_true (f y)) (λ y. is_neither (f y)) ys)) (any-pairs (λ x. is_true (e x)) (λ y. is_neither (f y)) xs ys))

-- `~`
no_not : (t : Truth) → is_false (not_of t) ≡ is_true t
no_not (Some true) = refl
no_not (Some false) = refl
no_not None = refl

yes_not : (t : Truth) → is_true (not_of t) ≡ is_false t
yes_not (Some true) = refl
yes_not (Some false) = refl
yes_not None = refl

neither_not : (t : Truth) → is_neither (not_of t) ≡ is_neither t
neither_not (Some true) = refl
neither_not (Some false) = refl
neither_not None = refl

pub not-by : {X : Type 0} (f : X → Truth) (xs : List X) → mix_by (λ x. not_of (f x)) xs ≡ not_mix (mix_by f xs)
not-by f xs = same_mix (any-agree (λ x. is_false (not_of (f x))) (λ x. is_true (f x)) xs (λ x. no_not (f x))) (any-agree (λ x. is_true (not_of (f x))) (λ x. is_false (f x)) xs (λ x. yes_not (f x))) (any-agree (λ x. is_neither (not_of (f x))) (λ x. is_neither (f x)) xs (λ x. neither_not (f x)))

not-two : {X Y : Type 0} (g : X → Y → Truth) (xs : List X) (ys : List Y) → mix_two (λ x y. not_of (g x y)) xs ys ≡ not_mix (mix_two g xs ys)
not-two g xs ys = same_mix (inside is_false is_true no_not) (inside is_true is_false yes_not) (inside is_neither is_neither neither_not)
  where
    inside : (p q : Truth → Bool) → ((t : Truth) → p (not_of t) ≡ q t) → list_any (λ x. list_any (λ y. p (not_of (g x y))) ys) xs ≡ list_any (λ x. list_any (λ y. q (g x y)) ys) xs
    inside p q e = any-agree (λ x. list_any (λ y. p (not_of (g x y))) ys) (λ x. list_any (λ y. q (g x y)) ys) xs (λ x. any-agree (λ y. p (not_of (g x y))) (λ y. q (g x y)) ys (λ y. e (g x y)))

pub or_is : (u v : Truth) → or_of u v ≡ not_of (and_of (not_of u) (not_of v))
or_is (Some true) v = refl
or_is (Some false) (Some true) = refl
or_is (Some false) (Some false) = refl
or_is (Some false) None = refl
or_is None (Some true) = refl
or_is None (Some false) = refl
or_is None None = refl

implies_is : (u v : Truth) → implies_of u v ≡ or_of (not_of u) v
implies_is (Some true) (Some true) = refl
implies_is (Some true) (Some false) = refl
implies_is (Some true) None = refl
implies_is (Some false) v = refl
implies_is None (Some true) = refl
implies_is None (Some false) = refl
implies_is None None = refl

pub or-two : {X Y : Type 0} (e : X → Truth) (f : Y → Truth) (xs : List X) (ys : List Y) → is_there xs ≡ true → is_there ys ≡ true →
    mix_two (λ x y. or_of (e x) (f y)) xs ys ≡ or_mix (mix_by e xs) (mix_by f ys)
or-two e f xs ys there others =
    two-ext (λ x y. or_of (e x) (f y)) (λ x y. not_of (and_of (not_of (e x)) (not_of (f y)))) xs ys (λ x y. or_is (e x) (f y))
    ∙ (not-two (λ x y. and_of (not_of (e x)) (not_of (f y))) xs ys
    ∙ ap not_mix (and-two (λ x. not_of (e x)) (λ y. not_of (f y)) xs ys there others
    ∙ (ap (λ m. and_mix m (mix_by (λ y. not_of (f y)) ys)) (not-by e xs) ∙ ap (λ n. and_mix (not_mix (mix_by e xs)) n) (not-by f ys))))

pub implies-two : {X Y : Type 0} (e : X → Truth) (f : Y → Truth) (xs : List X) (ys : List Y) → is_there xs ≡ true → is_there ys ≡ true →
    mix_two (λ x y. implies_of (e x) (f y)) xs ys ≡ implies_mix (mix_by e xs) (mix_by f ys)
implies-two e f xs ys there others =
    two-ext (λ x y. implies_of (e x) (f y)) (λ x y. or_of (not_of (e x)) (f y)) xs ys (λ x y. implies_is (e x) (f y))
    ∙ (or-two (λ x. not_of (e x)) f xs ys there others ∙ ap (λ m. or_mix m (mix_by f ys)) (not-by e xs))

-- each list has a member
abbrev pub all_filled : List (List Truth) → Bool
all_filled tss = list_all is_there tss

pub there-map : {X Y : Type 0} (f : X → Y) (xs : List X) → is_there (map f xs) ≡ is_there xs
there-map f [] = refl
there-map f (x ∷ xs) = refl

pub there-append : {X : Type 0} (xs ys : List X) → is_there xs ≡ true → is_there (xs ++ ys) ≡ true
there-append [] ys e = absurd (cc)
there-append (x ∷ xs) ys e = refl

pub there-choices : {X : Type 0} (xss : List (List X)) → list_all is_there xss ≡ true → is_there (one_of_each xss) ≡ true
there-choices [] h = refl
there-choices ([] ∷ xss) h = absurd (cc)
there-choices ((x ∷ xs) ∷ xss) h = there-append (map (λ ys. x ∷ ys) (one_of_each xss)) (flat_map (λ x. map (λ ys. x ∷ ys) (one_of_each xss)) xs) (there-map (λ ys. x ∷ ys) (one_of_each xss) ∙ there-choices xss h)

-- an operator that goes over one member of each list
pub choices-two : {X : Type 0} (g : X → Truth → Truth) (f k : List X → Truth) (xs : List X) (xss : List (List X)) → ((x : X) (ys : List X) → f (x ∷ ys) ≡ g x (k ys)) →
    mix_by f (one_of_each (xs ∷ xss)) ≡ mix_two (λ x ys. g x (k ys)) xs (one_of_each xss)
choices-two g f k xs xss e = same_mix (part is_false) (part is_true) (part is_neither)
  where
    part : (p : Truth → Bool) → list_any (λ ys. p (f ys)) (one_of_each (xs ∷ xss)) ≡ list_any (λ x. list_any (λ ys. p (g x (k ys))) (one_of_each xss)) xs
    part p = any-choices (λ ys. p (f ys)) xs xss ∙ any-agree (λ x. list_any (λ ys. p (f (x ∷ ys))) (one_of_each xss)) (λ x. list_any (λ ys. p (g x (k ys))) (one_of_each xss)) xs (λ x. any-agree (λ ys. p (f (x ∷ ys))) (λ ys. p (g x (k ys))) (one_of_each xss) (λ ys. ap p (e x ys)))

-- `&` of one member of each list is the `&` of their mixes
pub mix-conjunction : {X : Type 0} (e : X → Truth) (xss : List (List X)) → list_all is_there xss ≡ true → mix_by (λ us. conjunction (map e us)) (one_of_each xss) ≡ and_all (map (mix_by e) xss)
mix-conjunction e [] h = refl
mix-conjunction e (xs ∷ xss) h =
    choices-two (λ x t. and_of (e x) t) (λ us. conjunction (map e us)) (λ us. conjunction (map e us)) xs xss (λ x us. refl)
    ∙ (and-two e (λ us. conjunction (map e us)) xs (one_of_each xss) (left_of (is_there xs) (list_all is_there xss) h) (there-choices xss (right_of (is_there xs) (list_all is_there xss) h))
    ∙ ap (λ n. and_mix (mix_by e xs) n) (mix-conjunction e xss (right_of (is_there xs) (list_all is_there xss) h)))

pub mix-disjunction : {X : Type 0} (e : X → Truth) (xss : List (List X)) → list_all is_there xss ≡ true → mix_by (λ us. disjunction (map e us)) (one_of_each xss) ≡ or_all (map (mix_by e) xss)
mix-disjunction e [] h = refl
mix-disjunction e (xs ∷ xss) h =
    choices-two (λ x t. or_of (e x) t) (λ us. disjunction (map e us)) (λ us. disjunction (map e us)) xs xss (λ x us. refl)
    ∙ (or-two e (λ us. disjunction (map e us)) xs (one_of_each xss) (left_of (is_there xs) (list_all is_there xss) h) (there-choices xss (right_of (is_there xs) (list_all is_there xss) h))
    ∙ ap (λ n. or_mix (mix_by e xs) n) (mix-disjunction e xss (right_of (is_there xs) (list_all is_there xss) h)))

pub mix-implication : {X : Type 0} (e : X → Truth) (xs : List X) (xss : List (List X)) → list_all is_there (xs ∷ xss) ≡ true → mix_by (λ us. implication (map e us)) (one_of_each (xs ∷ xss)) ≡ implies_all (map (mix_by e) (xs ∷ xss))
mix-implication {X} e xs [] h = same_mix (alone is_false) (alone is_true) (alone is_neither)
  where
    alone : (p : Truth → Bool) → list_any (λ us. p (implication (map e us))) (one_of_each (xs ∷ [])) ≡ list_any (λ x. p (e x)) xs
    alone p = any-choices (λ us. p (implication (map e us))) xs [] ∙ any-agree (λ x. list_any (λ us. p (implication (map e (x ∷ us)))) ([] ∷ [])) (λ x. p (e x)) xs (λ x. at (p (e x)))
      where
        at : (b : Bool) → (b || false) ≡ b
        at true = refl
        at false = refl
mix-implication {X} e xs (ys ∷ xss) h =
    same_mix (part is_false) (part is_true) (part is_neither)
    ∙ (implies-two e (λ us. implication (map e us)) xs (one_of_each (ys ∷ xss)) (left_of (is_there xs) (list_all is_there (ys ∷ xss)) h) (there-choices (ys ∷ xss) (right_of (is_there xs) (list_all is_there (ys ∷ xss)) h))
    ∙ ap (λ n. implies_mix (mix_by e xs) n) (mix-implication e ys xss (right_of (is_there xs) (list_all is_there (ys ∷ xss)) h)))
  where
    part : (p : Truth → Bool) → list_any (λ us. p (implication (map e us))) (one_of_each (xs ∷ ys ∷ xss)) ≡ list_any (λ x. list_any (λ us. p (implies_of (e x) (implication (map e us)))) (one_of_each (ys ∷ xss))) xs
    part p = any-choices (λ us. p (implication (map e us))) xs (ys ∷ xss)
        ∙ any-agree (λ x. list_any (λ us. p (implication (map e (x ∷ us)))) (one_of_each (ys ∷ xss))) (λ x. list_any (λ us. p (implies_of (e x) (implication (map e us)))) (one_of_each (ys ∷ xss))) xs (λ x.
        any-choices (λ us. p (implication (map e (x ∷ us)))) ys xss ∙ sym (any-choices (λ us. p (implies_of (e x) (implication (map e us)))) ys xss))

-- all or none of them: any part
any-parts : {X : Type 0} (p : List X → Bool) (x : X) (xs : List X) → list_any p (parts (x ∷ xs)) ≡ (list_any p (parts xs) || list_any (λ ys. p (x ∷ ys)) (parts xs))
any-parts p x xs = list_any-append p (parts xs) (map (λ ys. x ∷ ys) (parts xs)) ∙ ap (λ b. list_any p (parts xs) || b) (any-map p (λ ys. x ∷ ys) (parts xs))

-- some part without a member is one, with which a conjunction is 1
module _ {X : Type 0} (e : X → Truth) where
  yes-parts : (ts : List X) → list_any (λ us. is_true (conjunction (map e us))) (parts ts) ≡ true
  yes-parts [] = refl
  yes-parts (t ∷ ts) = any-parts (λ us. is_true (conjunction (map e us))) t ts ∙ ap (λ b. b || list_any (λ us. is_true (conjunction (map e (t ∷ us)))) (parts ts)) (yes-parts ts)

  same-parts : (b : Bool) (ts : List X) → list_any (λ us. b) (parts ts) ≡ b
  same-parts true [] = refl
  same-parts false [] = refl
  same-parts b (t ∷ ts) = any-parts (λ us. b) t ts ∙ (or_same (same-parts b ts) (same-parts b ts) ∙ twice b)
    where
      twice : (b : Bool) → (b || b) ≡ b
      twice true = refl
      twice false = refl

  no-parts : (ts : List X) → list_any (λ us. is_false (conjunction (map e us))) (parts ts) ≡ list_any (λ t. is_false (e t)) ts
  no-parts [] = refl
  no-parts (t ∷ ts) =
      any-parts (λ us. is_false (conjunction (map e us))) t ts
      ∙ (or_same (no-parts ts) (any-agree (λ us. is_false (conjunction (map e (t ∷ us)))) (λ us. is_false (e t) || is_false (conjunction (map e us))) (parts ts) (λ us. no_and (e t) (conjunction (map e us))) ∙ (any-or (λ us. is_false (e t)) (λ us. is_false (conjunction (map e us))) (parts ts) ∙ or_same (same-parts (is_false (e t)) ts) (no-parts ts)))
      ∙ at (is_false (e t)) (list_any (λ t. is_false (e t)) ts))
    where
      at : (b c : Bool) → (c || (b || c)) ≡ (b || c)
      at true true = refl
      at true false = refl
      at false true = refl
      at false false = refl

  neither-parts : (ts : List X) → list_any (λ us. is_neither (conjunction (map e us))) (parts ts) ≡ list_any (λ t. is_neither (e t)) ts
  neither-parts [] = refl
  neither-parts (t ∷ ts) =
      any-parts (λ us. is_neither (conjunction (map e us))) t ts
      ∙ (or_same (neither-parts ts) (any-agree (λ us. is_neither (conjunction (map e (t ∷ us)))) (λ us. (is_neither (e t) && (is_true (conjunction (map e us)) || is_neither (conjunction (map e us)))) || (is_true (e t) && is_neither (conjunction (map e us)))) (parts ts) (λ us. neither_and (e t) (conjunction (map e us)))
      ∙ (any-or (λ us. is_neither (e t) && (is_true (conjunction (map e us)) || is_neither (conjunction (map e us)))) (λ us. is_true (e t) && is_neither (conjunction (map e us))) (parts ts)
      ∙ or_same (any-and (is_neither (e t)) (λ us. is_true (conjunction (map e us)) || is_neither (conjunction (map e us))) (parts ts) ∙ ap (λ b. is_neither (e t) && b) (any-or (λ us. is_true (conjunction (map e us))) (λ us. is_neither (conjunction (map e us))) (parts ts) ∙ ap (λ b. b || list_any (λ us. is_neither (conjunction (map e us))) (parts ts)) (yes-parts ts)))
      (any-and (is_true (e t)) (λ us. is_neither (conjunction (map e us))) (parts ts) ∙ ap (λ b. is_true (e t) && b) (neither-parts ts))))
      ∙ at (e t) (list_any (λ t. is_neither (e t)) ts))
    where
      at : (t : Truth) (c : Bool) → (c || ((is_neither t && true) || (is_true t && c))) ≡ (is_neither t || c)
      at (Some true) true = refl
      at (Some true) false = refl
      at (Some false) true = refl
      at (Some false) false = refl
      at None true = refl
      at None false = refl

  pub mix-parts : (ts : List X) → mix_by (λ us. conjunction (map e us)) (parts ts) ≡ or_none (mix_by e ts)
  mix-parts ts = same_mix (no-parts ts) (yes-parts ts) (neither-parts ts)

pub and_assoc : (u v w : Truth) → and_of (and_of u v) w ≡ and_of u (and_of v w)
and_assoc (Some true) (Some true) (Some true) = refl
and_assoc (Some true) (Some true) (Some false) = refl
and_assoc (Some true) (Some true) None = refl
and_assoc (Some true) (Some false) w = refl
and_assoc (Some true) None (Some true) = refl
and_assoc (Some true) None (Some false) = refl
and_assoc (Some true) None None = refl
and_assoc (Some false) v w = refl
and_assoc None (Some true) (Some true) = refl
and_assoc None (Some true) (Some false) = refl
and_assoc None (Some true) None = refl
and_assoc None (Some false) w = refl
and_assoc None None (Some true) = refl
and_assoc None None (Some false) = refl
and_assoc None None None = refl

one_and : (u : Truth) → and_of (Some true) u ≡ u
one_and (Some true) = refl
one_and (Some false) = refl
one_and None = refl

conjunction-append : (us vs : List Truth) → conjunction (us ++ vs) ≡ and_of (conjunction us) (conjunction vs)
conjunction-append [] vs = sym (one_and (conjunction vs))
conjunction-append (u ∷ us) vs = ap (and_of u) (conjunction-append us vs) ∙ sym (and_assoc u (conjunction us) (conjunction vs))

pub there-parts : {X : Type 0} (xs : List X) → is_there (parts xs) ≡ true
there-parts [] = refl
there-parts (x ∷ xs) = there-append (parts xs) (map (λ ys. x ∷ ys) (parts xs)) (there-parts xs)

-- what a condition becomes as an outcome and back
pub seen-shown : (t : Truth) → seen (shown t) ≡ t
seen-shown (Some true) = refl
seen-shown (Some false) = refl
seen-shown None = refl

pub shown-by : {X : Type 0} (f : X → Truth) (xs : List X) → mix_by seen (map (λ x. shown (f x)) xs) ≡ mix_by f xs
shown-by f xs = same_mix (part is_false) (part is_true) (part is_neither)
  where
    part : (p : Truth → Bool) → list_any (λ u. p (seen u)) (map (λ x. shown (f x)) xs) ≡ list_any (λ x. p (f x)) xs
    part p = any-map (λ u. p (seen u)) (λ x. shown (f x)) xs ∙ any-agree (λ x. p (seen (shown (f x)))) (λ x. p (f x)) xs (λ x. ap p (seen-shown (f x)))

abbrev pub all_seen : List AbsOutcome → Truth
all_seen us = conjunction (map seen us)

abbrev both_seen : List AbsOutcome → List AbsOutcome → List AbsOutcome
both_seen us vs = shown (conjunction (map seen (us ++ vs))) ∷ []

-- a conjunction of one of each of these, and of any of those
pub mix-quantified : (at_named : List (List AbsOutcome)) (at_rests : List AbsOutcome) → list_all is_there at_named ≡ true →
    mix_by seen (quantified conjunction at_named at_rests) ≡ and_mix (and_all (map (mix_by seen) at_named)) (or_none (mix_by seen at_rests))
mix-quantified at_named at_rests h =
    same_mix (part is_false) (part is_true) (part is_neither)
    ∙ (and-two all_seen all_seen (one_of_each at_named) (parts at_rests) (there-choices at_named h) (there-parts at_rests)
    ∙ (ap (λ m. and_mix m (mix_by all_seen (parts at_rests))) (mix-conjunction seen at_named h) ∙ ap (λ n. and_mix (and_all (map (mix_by seen) at_named)) n) (mix-parts seen at_rests)))
  where
    one : (b : Bool) → (b || false) ≡ b
    one true = refl
    one false = refl

    part : (p : Truth → Bool) → list_any (λ u. p (seen u)) (quantified conjunction at_named at_rests) ≡ list_any (λ us. list_any (λ vs. p (and_of (all_seen us) (all_seen vs))) (parts at_rests)) (one_of_each at_named)
    part p = any-flat_map (λ u. p (seen u)) (λ us. flat_map (both_seen us) (parts at_rests)) (one_of_each at_named)
        ∙ any-agree (λ us. list_any (λ u. p (seen u)) (flat_map (both_seen us) (parts at_rests))) (λ us. list_any (λ vs. p (and_of (all_seen us) (all_seen vs))) (parts at_rests)) (one_of_each at_named) (λ us.
        any-flat_map (λ u. p (seen u)) (both_seen us) (parts at_rests)
        ∙ any-agree (λ vs. list_any (λ u. p (seen u)) (both_seen us vs)) (λ vs. p (and_of (all_seen us) (all_seen vs))) (parts at_rests) (λ vs. one (p (seen (shown (conjunction (map seen (us ++ vs)))))) ∙ ap p (seen-shown (conjunction (map seen (us ++ vs))) ∙ (ap conjunction (map-append seen us vs) ∙ conjunction-append (map seen us) (map seen vs)))))

one : (b : Bool) → (b || false) ≡ b
one true = refl
one false = refl

-- a test of some outcome of a mix
pub any-shown : (p : AbsOutcome → Bool) (no yes neither : Bool) → list_any p (shown_of (record { no = no; yes = yes; neither = neither })) ≡ ((no && p (Some (named (number 0)))) || ((yes && p (Some (named (number 1)))) || (neither && p None)))
any-shown p true true true = ap (λ b. p (Some (named (number 0))) || (p (Some (named (number 1))) || b)) (one (p None))
any-shown p true true false = refl
any-shown p true false true = ap (λ b. p (Some (named (number 0))) || b) (one (p None))
any-shown p true false false = refl
any-shown p false true true = ap (λ b. p (Some (named (number 1))) || b) (one (p None))
any-shown p false true false = refl
any-shown p false false true = one (p None)
any-shown p false false false = refl

more_first : (x b r : Bool) → (b || ((x && b) || r)) ≡ (b || r)
more_first x true r = refl
more_first true false r = refl
more_first false false r = refl

more_second : (y a b r : Bool) → (b || (a || ((y && b) || r))) ≡ (a || (b || r))
more_second y true true r = refl
more_second y false true r = refl
more_second true true false r = refl
more_second false true false r = refl
more_second true false false r = refl
more_second false false false r = refl

more_third : (z a b c : Bool) → (c || (a || (b || (z && c)))) ≡ (a || (b || c))
more_third z true b true = refl
more_third z false true true = refl
more_third z false false true = refl
more_third z true b false = refl
more_third z false true false = refl
more_third true false false false = refl
more_third false false false false = refl

-- three choices by a truth value
pub chosen-more : (t : Truth) (A B C x y z : Bool) →
    (branch C t A B || ((x && B) || ((y && A) || (z && C)))) ≡ (((is_false t || x) && B) || (((is_true t || y) && A) || ((is_neither t || z) && C)))
chosen-more (Some true) A B C x y z = more_second y (x && B) A (z && C)
chosen-more (Some false) A B C x y z = more_first x B ((y && A) || (z && C))
chosen-more None A B C x y z = more_third z (x && B) (y && A) C

-- what is there of a mix of outcomes that are shown: each test finds it
pub shown-any : {X : Type 0} (f : X → Truth) (xs : List X) (p : AbsOutcome → Bool) → list_any p (map (λ x. shown (f x)) xs) ≡ list_any p (shown_of (mix_by f xs))
shown-any f [] p = refl
shown-any {X} f (x ∷ xs) p =
    ap (λ b. p (shown (f x)) || b) (shown-any f xs p ∙ any-shown p (list_any (λ x. is_false (f x)) xs) (list_any (λ x. is_true (f x)) xs) (list_any (λ x. is_neither (f x)) xs))
    ∙ (ap (λ b. b || ((list_any (λ x. is_false (f x)) xs && p (Some (named (number 0)))) || ((list_any (λ x. is_true (f x)) xs && p (Some (named (number 1)))) || (list_any (λ x. is_neither (f x)) xs && p None)))) (test (f x))
    ∙ (chosen-more (f x) (p (Some (named (number 1)))) (p (Some (named (number 0)))) (p None) (list_any (λ x. is_false (f x)) xs) (list_any (λ x. is_true (f x)) xs) (list_any (λ x. is_neither (f x)) xs)
    ∙ sym (any-shown p (is_false (f x) || list_any (λ x. is_false (f x)) xs) (is_true (f x) || list_any (λ x. is_true (f x)) xs) (is_neither (f x) || list_any (λ x. is_neither (f x)) xs))))
  where
    test : (t : Truth) → p (shown t) ≡ branch (p None) t (p (Some (named (number 1)))) (p (Some (named (number 0))))
    test (Some true) = refl
    test (Some false) = refl
    test None = refl
