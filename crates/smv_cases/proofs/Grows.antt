-- The cases of a leaf are those that grow from none.
use Rattle.std.proofs.Common.{◌≡◌, ℕ, suc, ◌+◌, ◌<◌, ◌≤◌, List, [], ◌∷◌, ◌++◌, map, length, max, Bool, true, false, cond, filter, not, ◌&&◌, if◌then◌else◌, refl, sym, ap, subst, ◌∙◌, ◌⊎◌, inl, inr, Option, Some, None, nat_eq, nat_lt, nat_le, arith, append_assoc, append-nil}
use Rattle.std.specs.List.{slice_get, list_any, list_all}
use Rattle.std.proofs.lemmas.Bool.{cases_Bool}
use Rattle.law_lists.proofs.Numbers.{nat_eq-is, nat_lt-true}
use Rattle.law_lists.proofs.Booleans.{and_both, left_of, right_of, same_tests}
use Rattle.law_lists.proofs.Lists.{flat_map_alike, map_alike, map-map, filter-map}
use Rattle.smv_core.specs.Values.{numbers_from}
use Rattle.smv_core.specs.declared.flat.Simple.{Simple}
use Rattle.smv_core.specs.declared.flat.Simple.TheVariants.{Range, Enum, Set}
use Rattle.smv_core.specs.declared.flat.Class.{Class}
use Rattle.smv_core.specs.declared.flat.Class.TheVariants.{Number, Named, Rest}
use Rattle.smv_core.specs.declared.abstract_type.Rest.TheVariants as beside
use Rattle.law_obligations.specs.Sets.{Has, first, later, one_of_each}
use Rattle.law_obligations.specs.Places.{rests_beside}
use Rattle.law_obligations.specs.Cases.{Treatment, whole, reduced, ordered, Parameter, used, grow, fill, are_below, is_set, those_of, named_among, are_named, abstract_type, is_of, is_orderly, listed_classes, unlisted_classes, type_in, is_allowed, candidates, numbered, cases}
use Rattle.law_obligations.proofs.Members.{Has-right, Has-uncons, any-found, any-some, all-each, all-holds}
use Rattle.law_obligations.proofs.Same.{nat_eq-itself}
use Rattle.law_obligations.proofs.Spots.{Has-numbers, numbers-Has}
use Rattle.law_obligations.proofs.OneOfEach.{get_Has}
use Rattle.law_obligations.proofs.CoverLists.{no_fewer, missing}
use Rattle.law_obligations.proofs.CoverNames.{numbered-at, numbered-Has}
use Rattle.law_obligations.proofs.CasePlaces.{few_named}
use Rattle.law_obligations.proofs.CoverParams.{is_set-is}
use Rattle.smv_cases.specs.Growing.{counts, counted, widest, is_within, may_follow, may_stand_in, may_stand_at, keeps_in, keeps_at, keeps_all, grown}
use Rattle.smv_cases.proofs.Lists.{filter-same, filter-none, kept-flat_map}

-- ---- named classes

IsNamed : Class → Type 0
IsNamed c = (k : ℕ) × (c ≡ Named k)

each_named : (classes : List Class) → length (named_among classes) ≡ length classes → (c : Class) → Has classes c → IsNamed c
unfolding IsNamed
each_named [] e c h = elim h [ ]
each_named (Named k ∷ classes) e _ first = (k, refl)
each_named (Named k ∷ classes) e c (later h) = each_named classes (omega arith) c h
each_named (Number k ∷ classes) e c h = absurd (let l = few_named classes in omega (arith, l))
each_named (Rest g ∷ classes) e c h = absurd (let l = few_named classes in omega (arith, l))

named-joined : (xs ys : List Class) → named_among (xs ++ ys) ≡ named_among xs ++ named_among ys
named-joined [] ys = refl
named-joined (Named c ∷ xs) ys = ap (λ zs. c ∷ zs) (named-joined xs ys)
named-joined (Number k ∷ xs) ys = named-joined xs ys
named-joined (Rest g ∷ xs) ys = named-joined xs ys

at_most : (m c : ℕ) → nat_le c m ≡ true → c ≤ m
at_most m c e = grind arith

is_at_most : (m c : ℕ) → c ≤ m → nat_le c m ≡ true
is_at_most m c l = grind arith

-- in classes that grow each is at most one above the greatest before it
grow-at : (m : ℕ) (xs ys : List ℕ) (c : ℕ) → grow m (xs ++ c ∷ ys) ≡ true → c ≤ max m (used xs)
grow-at m [] ys c e = let l = at_most m c (left_of (nat_le c m) _ e) in omega (arith, l)
grow-at m (x ∷ xs) ys c e = let l = grow-at (max m (suc x)) xs ys c (right_of (nat_le x m) _ e) in omega (arith, l)

-- and they use no more than there are
grow-used : (m : ℕ) (xs : List ℕ) → grow m xs ≡ true → max m (used xs) ≤ m + length xs
grow-used m [] e = omega arith
grow-used m (x ∷ xs) e =
    let here = at_most m x (left_of (nat_le x m) _ e) in
    let l = grow-used (max m (suc x)) xs (right_of (nat_le x m) _ e) in
    omega (arith, here, l)

-- so do those of which none is left out
fill-used : (xs : List ℕ) → fill xs ≡ true → used xs ≤ length xs
fill-used xs e = no_fewer (used xs) xs (λ k l n. missing k xs n (found k l))
  where
    found : (k : ℕ) → k < used xs → Has xs k
    found k l =
        let r = any-some (nat_eq k) xs (all-each (λ c. list_any (nat_eq c) xs) e (Has-numbers 0 (used xs) k (omega arith) (omega (arith, l)))) in
        subst (Has xs) (sym (nat_eq-is k r.0 r.2)) r.1

used-at : (xs ys : List ℕ) (c : ℕ) → c < used (xs ++ c ∷ ys)
used-at [] ys c = omega arith
used-at (x ∷ xs) ys c = let l = used-at xs ys c in omega (arith, l)

all-at : (f : ℕ → Bool) (xs ys : List ℕ) (c : ℕ) → list_all f (xs ++ c ∷ ys) ≡ true → f c ≡ true
all-at f xs ys c e = all-each f e (Has-right xs first)

-- ---- those at the parameters of a set type

those-joined : {X : Type 0} (test : Bool → Bool) (set : ℕ) (ps qs : List Parameter) (xs ys : List X) → length xs ≡ length ps →
    those_of test set (ps ++ qs) (xs ++ ys) ≡ those_of test set ps xs ++ those_of test set qs ys
those-joined test set [] qs [] ys e = refl
those-joined test set [] qs (x ∷ xs) ys e = absurd (omega arith)
those-joined test set (p ∷ ps) qs [] ys e = absurd (omega arith)
those-joined {X} test set (p ∷ ps) qs (x ∷ xs) ys e = at (is_set set p.over && test p.listed) (those-joined test set ps qs xs ys (omega arith))
  where
    at : (b : Bool) → those_of test set (ps ++ qs) (xs ++ ys) ≡ those_of test set ps xs ++ those_of test set qs ys →
        (if b then x ∷ those_of test set (ps ++ qs) (xs ++ ys) else those_of test set (ps ++ qs) (xs ++ ys)) ≡ (if b then x ∷ those_of test set ps xs else those_of test set ps xs) ++ those_of test set qs ys
    at true e = ap (λ zs. x ∷ zs) e
    at false e = e

those-none : {X : Type 0} (test : Bool → Bool) (set : ℕ) (ps : List Parameter) → those_of {X = X} test set ps [] ≡ []
those-none test set [] = refl
those-none test set (p ∷ ps) = refl

those-front : {X : Type 0} (test : Bool → Bool) (set : ℕ) (ps qs : List Parameter) (xs : List X) → length xs ≡ length ps → those_of test set (ps ++ qs) xs ≡ those_of test set ps xs
those-front {X} test set ps qs xs e =
    ap (those_of test set (ps ++ qs)) (sym (append-nil xs)) ∙ (those-joined test set ps qs xs [] e ∙ (ap (λ zs. those_of test set ps xs ++ zs) (those-none test set qs) ∙ append-nil (those_of test set ps xs)))

those-long : {X : Type 0} (test : Bool → Bool) (set : ℕ) (ps : List Parameter) (xs : List X) → length (those_of test set ps xs) ≤ length (those_of test set ps ps)
those-long test set [] xs = omega arith
those-long test set (p ∷ ps) [] = omega arith
those-long {X} test set (p ∷ ps) (x ∷ xs) = at (is_set set p.over && test p.listed) (those-long test set ps xs)
  where
    at : (b : Bool) → length (those_of test set ps xs) ≤ length (those_of test set ps ps) →
        length (if b then x ∷ those_of test set ps xs else those_of test set ps xs) ≤ length (if b then p ∷ those_of test set ps ps else those_of test set ps ps)
    at true l = omega (arith, l)
    at false l = l

-- without parameters of the set type there are none
those-empty : {X : Type 0} (test : Bool → Bool) (set : ℕ) (ps : List Parameter) (xs : List X) → ((p : Parameter) → Has ps p → is_set set p.over ≡ false) → those_of test set ps xs ≡ []
those-empty test set [] xs none = refl
those-empty test set (p ∷ ps) [] none = refl
those-empty {X} test set (p ∷ ps) (x ∷ xs) none =
    ap (λ (b : Bool). if b && test p.listed then x ∷ those_of test set ps xs else those_of test set ps xs) (none p first) ∙ those-empty test set ps xs (λ q h. none q (later h))

-- ---- a class that is allowed may stand

module _ (set : ℕ) (done more ps : List Parameter) (p : Parameter) (before behind classes : List Class) (x : Class)
    (are : ps ≡ done ++ p ∷ more) (is : classes ≡ before ++ x ∷ behind) (long : length before ≡ length done) (its : is_set set p.over ≡ true) where
  -- at a parameter that counts
  those-here : (test : Bool → Bool) → test p.listed ≡ true → (rest : List Class) × (those_of test set ps classes ≡ those_of test set ps before ++ x ∷ rest)
  those-here test counts_here = (
    those_of test set more behind,
    ap (λ qs. those_of test set qs classes) are
        ∙ (ap (those_of test set (done ++ p ∷ more)) is
        ∙ (those-joined test set done (p ∷ more) before (x ∷ behind) long
        ∙ (ap (λ (b : Bool). those_of test set done before ++ (if b then x ∷ those_of test set more behind else those_of test set more behind)) (and_both its counts_here)
        ∙ ap (λ zs. zs ++ x ∷ those_of test set more behind) (sym (ap (λ qs. those_of test set qs before) are ∙ those-front test set done (p ∷ more) before long))))),
  )

  -- of listed classes that are all named one is named, and stands behind those before it
  listed-at : (test : Bool → Bool) → test p.listed ≡ true → are_named (those_of test set ps classes) ≡ true →
      (c : ℕ) × (x ≡ Named c) × (behind_it : List ℕ) × (named_among (those_of test set ps classes) ≡ named_among (those_of test set ps before) ++ c ∷ behind_it)
  unfolding IsNamed
  listed-at test counts_here e =
      let r = those-here test counts_here in
      let n = each_named (those_of test set ps classes) (nat_eq-is _ _ e) x (subst (λ xs. Has xs x) (sym r.1) (Has-right (those_of test set ps before) first)) in (
        n.0,
        n.1,
        named_among r.0,
        ap named_among r.1 ∙ (named-joined (those_of test set ps before) (x ∷ r.0) ∙ ap (λ y. named_among (those_of test set ps before) ++ named_among (y ∷ r.0)) n.1),
      )

  follows : (t : Treatment) → counts t p.listed ≡ true → is_allowed t set ps classes ≡ true → may_follow t (length (counted t set ps ps)) (used (named_among (counted t set ps before))) x ≡ true
  follows (whole n) e a =
      let named = left_of (are_named (listed_classes (whole n) set ps classes)) _ a in
      let orderly = left_of (is_orderly (whole n) (named_among (listed_classes (whole n) set ps classes))) _ (right_of (are_named (listed_classes (whole n) set ps classes)) _ a) in
      let r = listed-at (λ l. true) refl named in
      subst (λ y. may_follow (whole n) (length (counted (whole n) set ps ps)) (used (named_among (counted (whole n) set ps before))) y ≡ true) (sym r.1)
      (let grows = grow-at 0 (named_among (counted (whole n) set ps before)) r.2 r.0 (subst (λ cs. grow 0 cs ≡ true) r.3 (left_of (grow 0 (named_among (listed_classes (whole n) set ps classes))) (are_below (Some n) (named_among (listed_classes (whole n) set ps classes))) orderly)) in
      and_both (is_at_most (used (named_among (counted (whole n) set ps before))) r.0 (omega (arith, grows)))
      (all-at (λ c. nat_lt c n) (named_among (counted (whole n) set ps before)) r.2 r.0 (subst (λ cs. are_below (Some n) cs ≡ true) r.3 (right_of (grow 0 (named_among (listed_classes (whole n) set ps classes))) (are_below (Some n) (named_among (listed_classes (whole n) set ps classes))) orderly))))
  follows (reduced size) e a =
      let named = left_of (are_named (listed_classes (reduced size) set ps classes)) _ a in
      let orderly = left_of (is_orderly (reduced size) (named_among (listed_classes (reduced size) set ps classes))) _ (right_of (are_named (listed_classes (reduced size) set ps classes)) _ a) in
      let r = listed-at (λ l. l) e named in
      subst (λ y. may_follow (reduced size) (length (counted (reduced size) set ps ps)) (used (named_among (counted (reduced size) set ps before))) y ≡ true) (sym r.1)
      (let grows = grow-at 0 (named_among (counted (reduced size) set ps before)) r.2 r.0 (subst (λ cs. grow 0 cs ≡ true) r.3 (left_of (grow 0 (named_among (listed_classes (reduced size) set ps classes))) (are_below size (named_among (listed_classes (reduced size) set ps classes))) orderly)) in
      and_both (is_at_most (used (named_among (counted (reduced size) set ps before))) r.0 (omega (arith, grows)))
      (within size (named_among (counted (reduced size) set ps before)) r.2 r.0 (subst (λ cs. are_below size cs ≡ true) r.3 (right_of (grow 0 (named_among (listed_classes (reduced size) set ps classes))) (are_below size (named_among (listed_classes (reduced size) set ps classes))) orderly))))
    where
      within : (size : Option ℕ) (xs ys : List ℕ) (c : ℕ) → are_below size (xs ++ c ∷ ys) ≡ true → is_within size c ≡ true
      within None xs ys c e = refl
      within (Some n) xs ys c e = all-at (λ c. nat_lt c n) xs ys c e
  follows ordered e a =
      let listed = listed_classes ordered set ps classes in
      let named = left_of (are_named (listed_classes ordered set ps classes)) _ a in
      let orderly = left_of (is_orderly ordered (named_among (listed_classes ordered set ps classes))) _ (right_of (are_named (listed_classes ordered set ps classes)) _ a) in
      let r = listed-at (λ l. l) e named in
      let few = fill-used (named_among listed) orderly in
      let here = subst (λ cs. r.0 < used cs) (sym r.3) (used-at (named_among (counted ordered set ps before)) r.2 r.0) in
      let as_many = nat_eq-is (length (named_among listed)) (length listed) named in
      let long = those-long (λ l. l) set ps classes in
      subst (λ y. may_follow ordered (length (counted ordered set ps ps)) (used (named_among (counted ordered set ps before))) y ≡ true) (sym r.1)
      (nat_lt-true r.0 (length (counted ordered set ps ps)) (omega (arith, few, here, as_many, long)))

below_more : (a b c : ℕ) → a ≤ b → nat_lt c a ≡ true → nat_lt c b ≡ true
below_more a b c l e = grind arith

one_is : (b : Bool) (m g : ℕ) → list_any (nat_eq g) (rests_beside (if b then beside.One else beside.None) m) ≡ true → list_any (nat_eq g) (0 ∷ []) ≡ true
one_is true m g e = e
one_is false m g e = absurd (cc)

gap_is : (m count g : ℕ) → m ≤ count → list_any (nat_eq g) (numbers_from 0 (m + 1)) ≡ true → list_any (nat_eq g) (numbers_from 0 (count + 1)) ≡ true
gap_is m count g l e =
    let r = any-some (nat_eq g) (numbers_from 0 (m + 1)) e in
    let b = numbers-Has 0 (m + 1) r.0 r.1 in
    let above = b.1 in
    any-found (nat_eq g) (Has-numbers 0 (count + 1) r.0 (omega arith) (omega (arith, above, l))) r.2

wider : (t : Treatment) (m count : ℕ) → m ≤ count → (listed : Bool) → counts t listed ≡ false → (x : Class) → is_of (abstract_type t m) x ≡ true → is_of (widest t count) x ≡ true
wider t m count l listed e (Number k) i = absurd (cc)
wider (whole n) m count l listed e x i = absurd (cc)
wider (reduced None) m count l listed e (Named c) i = below_more m count c l i
wider (reduced None) m count l listed e (Rest g) i = i
wider (reduced (Some n)) m count l listed e (Named c) i = below_more m count c l i
wider (reduced (Some n)) m count l listed e (Rest g) i = one_is (nat_lt m n) m g i
wider ordered m count l listed e (Named c) i = below_more m count c l i
wider ordered m count l listed e (Rest g) i = gap_is m count g l i

used-few : (t : Treatment) (cs : List ℕ) → is_orderly t cs ≡ true → used cs ≤ length cs
used-few (whole n) cs e = let l = grow-used 0 cs (left_of (grow 0 cs) (are_below (Some n) cs) e) in omega (arith, l)
used-few (reduced size) cs e = let l = grow-used 0 cs (left_of (grow 0 cs) (are_below size cs) e) in omega (arith, l)
used-few ordered cs e = fill-used cs e

-- at a parameter that does not count
unlisted_stands : (set : ℕ) (done more ps : List Parameter) (p : Parameter) (before behind classes : List Class) (x : Class) → ps ≡ done ++ p ∷ more → classes ≡ before ++ x ∷ behind → length before ≡ length done →
    is_set set p.over ≡ true → (t : Treatment) → counts t p.listed ≡ false → is_allowed t set ps classes ≡ true → is_of (widest t (length (counted t set ps ps))) x ≡ true
unlisted_stands set done more ps p before behind classes x are is long its (whole n) c a = absurd (cc)
unlisted_stands set done more ps p before behind classes x are is long its (reduced size) c a = of_type (reduced size) p.listed c (λ l. l) refl a
    (those-here set done more ps p before behind classes x are is long its (λ l. not l) (ap not c))
  where
    of_type : (t : Treatment) (listed : Bool) → counts t listed ≡ false → (test : Bool → Bool) → listed_classes t set ps classes ≡ those_of test set ps classes → is_allowed t set ps classes ≡ true →
        (rest : List Class) × (unlisted_classes t set ps classes ≡ those_of (λ l. not l) set ps before ++ x ∷ rest) → is_of (widest t (length (those_of test set ps ps))) x ≡ true
    of_type t listed c test same a r =
        let cs = listed_classes t set ps classes in
        let named = left_of (are_named cs) (is_orderly t (named_among cs) && list_all (is_of (type_in t set ps classes)) (unlisted_classes t set ps classes)) a in
        let both = right_of (are_named cs) (is_orderly t (named_among cs) && list_all (is_of (type_in t set ps classes)) (unlisted_classes t set ps classes)) a in
        let few = used-few t (named_among cs) (left_of (is_orderly t (named_among cs)) (list_all (is_of (type_in t set ps classes)) (unlisted_classes t set ps classes)) both) in
        let all = right_of (is_orderly t (named_among cs)) (list_all (is_of (type_in t set ps classes)) (unlisted_classes t set ps classes)) both in
        let as_many = nat_eq-is (length (named_among cs)) (length cs) named in
        let long = subst (λ xs. length xs ≤ length (those_of test set ps ps)) (sym same) (those-long test set ps classes) in
        wider t (used (named_among cs)) (length (those_of test set ps ps)) (omega (arith, few, as_many, long)) listed c x
        (all-each (is_of (type_in t set ps classes)) all (subst (λ xs. Has xs x) (sym r.1) (Has-right (those_of (λ l. not l) set ps before) first)))
unlisted_stands set done more ps p before behind classes x are is long its ordered c a = of_type_ordered a
    (those-here set done more ps p before behind classes x are is long its (λ l. not l) (ap not c))
  where
    of_type_ordered : is_allowed ordered set ps classes ≡ true →
        (rest : List Class) × (those_of (λ l. not l) set ps classes ≡ those_of (λ l. not l) set ps before ++ x ∷ rest) → is_of (widest ordered (length (counted ordered set ps ps))) x ≡ true
    of_type_ordered a r =
        let cs = listed_classes ordered set ps classes in
        let named = left_of (are_named cs) (is_orderly ordered (named_among cs) && list_all (is_of (type_in ordered set ps classes)) (unlisted_classes ordered set ps classes)) a in
        let both = right_of (are_named cs) (is_orderly ordered (named_among cs) && list_all (is_of (type_in ordered set ps classes)) (unlisted_classes ordered set ps classes)) a in
        let few = used-few ordered (named_among cs) (left_of (is_orderly ordered (named_among cs)) (list_all (is_of (type_in ordered set ps classes)) (unlisted_classes ordered set ps classes)) both) in
        let all = right_of (is_orderly ordered (named_among cs)) (list_all (is_of (type_in ordered set ps classes)) (unlisted_classes ordered set ps classes)) both in
        let as_many = nat_eq-is (length (named_among cs)) (length cs) named in
        let long = those-long (λ l. l) set ps classes in
        wider ordered (used (named_among cs)) (length (counted ordered set ps ps)) (omega (arith, few, as_many, long)) p.listed c x
        (all-each (is_of (type_in ordered set ps classes)) all (subst (λ xs. Has xs x) (sym r.1) (Has-right (those_of (λ l. not l) set ps before) first)))

-- ---- sets without parameters

nothing-allowed : (t : Treatment) (set : ℕ) (ps : List Parameter) (classes : List Class) → ((p : Parameter) → Has ps p → is_set set p.over ≡ false) → is_allowed t set ps classes ≡ true
nothing-allowed (whole n) set ps classes none = rw (those-empty (λ l. true) set ps classes none) refl
nothing-allowed (reduced None) set ps classes none = rw (those-empty (λ l. l) set ps classes none, those-empty (λ l. not l) set ps classes none) refl
nothing-allowed (reduced (Some n)) set ps classes none = rw (those-empty (λ l. l) set ps classes none, those-empty (λ l. not l) set ps classes none) refl
nothing-allowed ordered set ps classes none = rw (those-empty (λ l. l) set ps classes none, those-empty (λ l. not l) set ps classes none) refl

-- ---- both lists

-- a test that some passes or none
some_or_none : {X : Type 0} (f : X → Bool) (xs : List X) → ((x : X) × Has xs x × (f x ≡ true)) ⊎ ((x : X) → Has xs x → f x ≡ false)
some_or_none f [] = inr (λ x h. elim h [ ])
some_or_none {X} f (x ∷ xs) = elim (cases_Bool (f x)) [
  | inl e ↦ inl (x, first, e)
  | inr e ↦ elim (some_or_none f xs) [
    | inl r ↦ inl (r.0, later r.1, r.2)
    | inr none ↦ inr (λ y h. at y e none h)
  ]
]
  where
    at : (y : X) → f x ≡ false → ((z : X) → Has xs z → f z ≡ false) → Has (x ∷ xs) y → f y ≡ false
    at y e none h = elim (Has-uncons h) [ inl i ↦ subst (λ z. f z ≡ false) (sym i) e | inr k ↦ none y k ]

module _ (treatments : List Treatment) (params : List Parameter) where
  abbrev allowed : List Class → Bool
  allowed classes = list_all (λ (set, t). is_allowed t set params classes) (numbered 0 treatments)

  each_set : (classes : List Class) → keeps_all treatments params classes ≡ true → (x : ℕ × Treatment) → Has (numbered 0 treatments) x → is_allowed x.1 x.0 params classes ≡ true
  each_set classes e x h =
      let r = numbered-Has 0 treatments x h in
      let there : slice_get treatments x.0 ≡ Some x.1 = (let i = r.1 in subst (λ k. slice_get treatments k ≡ Some x.1) (omega (arith, i)) r.2) in
      elim (some_or_none (λ (p : Parameter). is_set x.0 p.over) params) [
        | inl q ↦ ap (λ o. keeps_in treatments params o x.0 classes) (sym there) ∙ (ap (keeps_at treatments params classes) (sym (is_set-is x.0 q.0.over q.2)) ∙ all-each (λ (p : Parameter). keeps_at treatments params classes p.over) e q.1)
        | inr none ↦ nothing-allowed x.1 x.0 params classes none
      ]

  each_param : (classes : List Class) → allowed classes ≡ true → (t : Simple) → keeps_at treatments params classes t ≡ true
  each_param classes e (Range low high) = refl
  each_param classes e (Enum list) = refl
  each_param classes e (Set set) = at (slice_get treatments set) refl
    where
      at : (o : Option Treatment) → slice_get treatments set ≡ o → keeps_in treatments params o set classes ≡ true
      at None i = refl
      at (Some t) i =
          let r = get_Has (map (λ (x : ℕ × Treatment). x) (numbered 0 treatments)) set (set, t) (numbered-at (λ x. x) 0 set set treatments t (omega arith) i) in
          all-each (λ (set, t). is_allowed t set params classes) e (subst (λ xs. Has xs (set, t)) (map_same (numbered 0 treatments)) r)
        where
          map_same : (xs : List (ℕ × Treatment)) → map (λ (x : ℕ × Treatment). x) xs ≡ xs
          map_same [] = refl
          map_same (x ∷ xs) = ap (λ ys. x ∷ ys) (map_same xs)

  same_allowed : (classes : List Class) → allowed classes ≡ keeps_all treatments params classes
  same_allowed classes = same_tests (allowed classes) (keeps_all treatments params classes)
      (λ e. all-holds (λ (p : Parameter). keeps_at treatments params classes p.over) params (λ p h. each_param classes e p.over))
      (λ e. all-holds (λ (set, t). is_allowed t set params classes) (numbered 0 treatments) (λ x h. each_set classes e x h))

  -- what is allowed may stand at each parameter
  stands : (done more : List Parameter) (p : Parameter) (before behind : List Class) (x : Class) → params ≡ done ++ p ∷ more → length before ≡ length done →
      keeps_all treatments params (before ++ x ∷ behind) ≡ true → may_stand_at treatments params p.over before p.listed x ≡ true
  stands done more p before behind x are long e = by_type p.over refl (all-each (λ (p : Parameter). keeps_at treatments params (before ++ x ∷ behind) p.over) e (subst (λ ps. Has ps p) (sym are) (Has-right done first)))
    where
      by_count : (set : ℕ) → is_set set p.over ≡ true → (t : Treatment) → is_allowed t set params (before ++ x ∷ behind) ≡ true → (b : Bool) → counts t p.listed ≡ b →
          (if b then may_follow t (length (counted t set params params)) (used (named_among (counted t set params before))) x else is_of (widest t (length (counted t set params params))) x) ≡ true
      by_count set its t a true c = follows set done more params p before behind (before ++ x ∷ behind) x are refl long its t c a
      by_count set its t a false c = unlisted_stands set done more params p before behind (before ++ x ∷ behind) x are refl long its t c a

      by_treatment : (set : ℕ) → p.over ≡ Set set → (o : Option Treatment) → keeps_in treatments params o set (before ++ x ∷ behind) ≡ true → may_stand_in treatments params o set before p.listed x ≡ true
      by_treatment set over None k = refl
      by_treatment set over (Some t) k = by_count set (ap (is_set set) over ∙ nat_eq-itself set) t k (counts t p.listed) refl

      by_type : (over : Simple) → p.over ≡ over → keeps_at treatments params (before ++ x ∷ behind) over ≡ true → may_stand_at treatments params over before p.listed x ≡ true
      by_type (Range low high) over k = refl
      by_type (Enum list) over k = refl
      by_type (Set set) over k = by_treatment set over (slice_get treatments set) k

  abbrev options : Parameter → List Class
  options p = candidates treatments (length params) p.over

  not_true : (b : Bool) → (b ≡ true → ⊥) → b ≡ false
  not_true true n = absurd (n refl)
  not_true false n = refl

  true_false : {b : Bool} → b ≡ true → b ≡ false → ⊥
  true_false p q = cc

  grows : (done more : List Parameter) (before : List Class) → params ≡ done ++ more → length before ≡ length done →
      grown treatments params before more ≡ map (λ ys. before ++ ys) (filter (λ ys. allowed (before ++ ys)) (one_of_each (map options more)))
  grows done [] before are long =
      ap (λ (b : Bool). if b then before ∷ [] else []) (sym (same_allowed before)) ∙ (at (allowed before) ∙ ap (λ (cs : List Class). map (λ ys. before ++ ys) (cond (allowed cs) ([] ∷ []) [])) (sym (append-nil before)))
    where
      at : (b : Bool) → (if b then before ∷ [] else []) ≡ map (λ ys. before ++ ys) (cond b ([] ∷ []) [])
      at true = ap (λ (cs : List Class). cs ∷ []) (sym (append-nil before))
      at false = refl
  grows done (p ∷ more) before are long =
      flat_map_alike _ _ (options p) (λ x. at x (may_stand_at treatments params p.over before p.listed x) refl
      (grows (done ++ p ∷ []) more (before ++ x ∷ []) (are ∙ sym (append_assoc done (p ∷ []) more)) (longer x)))
      ∙ sym (kept-flat_map (λ ys. before ++ ys) (λ ys. allowed (before ++ ys)) (λ x. map (λ ys. x ∷ ys) (one_of_each (map options more))) (options p))
    where
      joined-long : {X : Type 0} (xs : List X) (x : X) → length (xs ++ x ∷ []) ≡ suc (length xs)
      joined-long [] x = refl
      joined-long (y ∷ xs) x = ap suc (joined-long xs x)

      longer : (x : Class) → length (before ++ x ∷ []) ≡ length (done ++ p ∷ [])
      longer x = joined-long before x ∙ (ap suc long ∙ sym (joined-long done p))

      at : (x : Class) (b : Bool) → may_stand_at treatments params p.over before p.listed x ≡ b →
          grown treatments params (before ++ x ∷ []) more ≡ map (λ ys. (before ++ x ∷ []) ++ ys) (filter (λ ys. allowed ((before ++ x ∷ []) ++ ys)) (one_of_each (map options more))) →
          (if b then grown treatments params (before ++ x ∷ []) more else []) ≡ map (λ ys. before ++ ys) (filter (λ ys. allowed (before ++ ys)) (map (λ ys. x ∷ ys) (one_of_each (map options more))))
      at x true e goes =
          goes ∙ (map_alike _ _ _ (λ ys. append_assoc before (x ∷ []) ys)
          ∙ (ap (map (λ ys. before ++ x ∷ ys)) (filter-same _ _ (one_of_each (map options more)) (λ ys. ap allowed (append_assoc before (x ∷ []) ys)))
          ∙ (sym (map-map (λ ys. before ++ ys) (λ ys. x ∷ ys) (filter (λ ys. allowed (before ++ x ∷ ys)) (one_of_each (map options more))))
          ∙ ap (map (λ ys. before ++ ys)) (sym (filter-map (λ ys. allowed (before ++ ys)) (λ ys. x ∷ ys) (one_of_each (map options more)))))))
      at x false e goes =
          ap (map (λ ys. before ++ ys)) (sym (filter-map (λ ys. allowed (before ++ ys)) (λ ys. x ∷ ys) (one_of_each (map options more))
          ∙ ap (map (λ ys. x ∷ ys)) (filter-none (λ ys. allowed (before ++ x ∷ ys)) (one_of_each (map options more))
          (λ ys. not_true (allowed (before ++ x ∷ ys)) (λ a. true_false (stands done more p before ys x are long (sym (same_allowed (before ++ x ∷ ys)) ∙ a)) e)))))

pub cases_grow : (treatments : List Treatment) (params : List Parameter) → cases treatments params ≡ grown treatments params [] params
cases_grow treatments params = sym (grows treatments params [] params [] refl refl ∙ map_same _)
  where
    map_same : (xs : List (List Class)) → map (λ ys. [] ++ ys) xs ≡ xs
    map_same [] = refl
    map_same (x ∷ xs) = ap (λ ys. x ∷ ys) (map_same xs)
