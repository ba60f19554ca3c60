-- In a case each parameter of a leaf stands at a place of its type.
use Rattle.std.proofs.Common.{◌≡◌, ℕ, zero, suc, ◌+◌, ◌-◌, ◌<◌, ◌≤◌, List, [], ◌∷◌, ◌++◌, map, length, take, Bool, true, false, ◌&&◌, not, refl, sym, ap, subst, ◌∙◌, inl, inr, Option, Some, None, nat_eq, nat_lt, arith}
use Rattle.std.specs.List.{slice_get, list_any, list_all}
use Rattle.std.proofs.lemmas.Bool.{cases_Bool}
use Rattle.law_lists.proofs.Numbers.{nat_lt-true, nat_lt-is, nat_eq-is}
use Rattle.law_lists.proofs.Booleans.{and_both, left_of, right_of}
use Rattle.smv_core.specs.Values.{Name, number, scalar, ordinal, numbers_from}
use Rattle.smv_core.specs.FlatMeaning.{Numbered, simple_in, set_type}
use Rattle.smv_core.specs.declared.flat.Simple.{Simple}
use Rattle.smv_core.specs.declared.flat.Simple.TheVariants.{Range, Enum, Set}
use Rattle.smv_core.specs.declared.flat.SetInfo.{SetInfo}
use Rattle.smv_core.specs.declared.flat.Keep.{Keep}
use Rattle.smv_core.specs.declared.flat.Class.{Class}
use Rattle.smv_core.specs.declared.flat.Class.TheVariants.{Number, Named, Rest}
use Rattle.smv_core.specs.declared.abstract_type.Rest.TheVariants as beside
use Rattle.smv_core.specs.declared.abstract_type.AbsType.{AbsType}
use Rattle.law_obligations.specs.Sets.{Has, first, later, one_of_each}
use Rattle.law_obligations.specs.Places.{Place, named, rest, is_named, World, world, rests_beside, rests_of, places_of, named_in, rests_in, places_in}
use Rattle.law_obligations.specs.Cases.{Treatment, whole, reduced, ordered, Parameter, is_set, those_of, named_among, are_named, is_of, is_orderly, grow, listed_classes, type_in, is_allowed, candidates, numbered, cases}
use Rattle.law_obligations.specs.Covers.{place_at, places_at, types_at, AreApart, IsIndexType}
use Rattle.law_obligations.specs.LeafCases.{treatments_of}
use Rattle.law_obligations.proofs.Members.{Has-left, Has-right, Has-cases, Has-map, Has-from_map, any-some, all-each}
use Rattle.law_obligations.proofs.Same.{nat_eq-itself}
use Rattle.law_obligations.proofs.Spots.{Has-numbers}
use Rattle.law_obligations.proofs.OneOfEach.{AreOf, are_of, get_Has}
use Rattle.law_obligations.proofs.CoverScalarsets.{named_set, below_used}
use Rattle.law_obligations.proofs.CoverNames.{by_name-at, numbered-at}
use Rattle.law_obligations.proofs.Lookups.{Has-from_filter}

-- a parameter with its class
data Meets : List Parameter → List Class → Parameter → Class → Type 0 where
  here : {p : Parameter} {c : Class} {params : List Parameter} {classes : List Class} → Meets (p ∷ params) (c ∷ classes) p c
  there : {p q : Parameter} {c d : Class} {params : List Parameter} {classes : List Class} → Meets params classes p c → Meets (q ∷ params) (d ∷ classes) p c

Meets-Has : {params : List Parameter} {classes : List Class} {p : Parameter} {c : Class} → Meets params classes p c → Has params p
Meets-Has here = first
Meets-Has (there m) = later (Meets-Has m)

is_candidate : (f : Parameter → List Class) (params : List Parameter) (classes : List Class) → AreOf (map f params) classes → {p : Parameter} {c : Class} → Meets params classes p c → Has (f p) c
is_candidate f [] classes h m = elim m [ ]
is_candidate f (q ∷ params) [] h m = elim m [ ]
is_candidate f (q ∷ params) (d ∷ classes) h here = h.0
is_candidate f (q ∷ params) (d ∷ classes) h (there m) = is_candidate f params classes h.1 m

-- a class at a parameter of a set type that is listed so
stands_among : (test : Bool → Bool) (set : ℕ) (params : List Parameter) (classes : List Class) (p : Parameter) (c : Class) → Meets params classes p c →
    is_set set p.over ≡ true → test p.listed ≡ true → Has (those_of test set params classes) c
stands_among test set [] classes p c m e l = elim m [ ]
stands_among test set (q ∷ params) [] p c m e l = elim m [ ]
stands_among test set (p ∷ params) (c ∷ classes) _ _ here e l = rw (and_both e l) first
stands_among test set (q ∷ params) (d ∷ classes) p c (there m) e l = let r = stands_among test set params classes p c m e l in
    elim (cases_Bool (is_set set q.over && test q.listed)) [
      | inl b ↦ rw b (later r)
      | inr b ↦ rw b r
    ]

-- where all classes are named, each is
pub few_named : (classes : List Class) → length (named_among classes) ≤ length classes
few_named [] = omega arith
few_named (Named c ∷ classes) = let l = few_named classes in omega (arith, l)
few_named (Number k ∷ classes) = let l = few_named classes in omega (arith, l)
few_named (Rest g ∷ classes) = let l = few_named classes in omega (arith, l)

abbrev IsNamed : List Class → Class → Type 0
IsNamed classes c = (k : ℕ) × (c ≡ Named k) × Has (named_among classes) k

each_named : (classes : List Class) → length (named_among classes) ≡ length classes → (c : Class) → Has classes c → IsNamed classes c
each_named [] e c h = elim h [ ]
each_named (Named k ∷ classes) e _ first = (k, refl, first)
each_named (Named k ∷ classes) e c (later h) = let r = each_named classes (omega arith) c h in (r.0, r.1, later r.2)
each_named (Number k ∷ classes) e c h = absurd (let l = few_named classes in omega (arith, l))
each_named (Rest g ∷ classes) e c h = absurd (let l = few_named classes in omega (arith, l))

named-each : (classes : List Class) → are_named classes ≡ true → (c : Class) → Has classes c → IsNamed classes c
named-each classes e c h = each_named classes (nat_eq-is (length (named_among classes)) (length classes) e) c h

-- a class that is allowed is of the abstract type
named_of_type : (a : AbsType) (c : Class) (k : ℕ) → c ≡ Named k → k < a.named → is_of a c ≡ true
named_of_type a c k e l = subst (λ c. is_of a c ≡ true) (sym e) (nat_lt-true k a.named l)

of_type : (t : Treatment) (set : ℕ) (params : List Parameter) (classes : List Class) → is_allowed t set params classes ≡ true → (p : Parameter) (c : Class) → Meets params classes p c → is_set set p.over ≡ true →
    is_of (type_in t set params classes) c ≡ true
of_type (whole m) set params classes a p c at e =
    let listed = listed_classes (whole m) set params classes in
    let r = named-each listed (left_of (are_named listed) _ a) c (stands_among (λ l. true) set params classes p c at e refl) in
    let orderly = left_of (is_orderly (whole m) (named_among listed)) _ (right_of (are_named listed) _ a) in
    named_of_type (type_in (whole m) set params classes) c r.0 r.1 (nat_lt-is r.0 m (all-each (λ k. nat_lt k m) (right_of (grow 0 (named_among listed)) _ orderly) r.2))
of_type (reduced None) set params classes a p c at e = elim (cases_Bool p.listed) [
  | inl l ↦ let listed = listed_classes (reduced None) set params classes in
      let r = named-each listed (left_of (are_named listed) _ a) c (stands_among (λ l. l) set params classes p c at e l) in
      named_of_type (type_in (reduced None) set params classes) c r.0 r.1 (below_used (named_among listed) r.0 r.2)
  | inr l ↦ let listed = listed_classes (reduced None) set params classes in
      all-each (is_of (type_in (reduced None) set params classes)) (right_of (is_orderly (reduced None) (named_among listed)) _ (right_of (are_named listed) _ a))
      (stands_among (λ l. not l) set params classes p c at e (ap not l))
]
of_type (reduced (Some n)) set params classes a p c at e = elim (cases_Bool p.listed) [
  | inl l ↦ let listed = listed_classes (reduced (Some n)) set params classes in
      let r = named-each listed (left_of (are_named listed) _ a) c (stands_among (λ l. l) set params classes p c at e l) in
      named_of_type (type_in (reduced (Some n)) set params classes) c r.0 r.1 (below_used (named_among listed) r.0 r.2)
  | inr l ↦ let listed = listed_classes (reduced (Some n)) set params classes in
      all-each (is_of (type_in (reduced (Some n)) set params classes)) (right_of (is_orderly (reduced (Some n)) (named_among listed)) _ (right_of (are_named listed) _ a))
      (stands_among (λ l. not l) set params classes p c at e (ap not l))
]
of_type ordered set params classes a p c at e = elim (cases_Bool p.listed) [
  | inl l ↦ let listed = listed_classes ordered set params classes in
      let r = named-each listed (left_of (are_named listed) _ a) c (stands_among (λ l. l) set params classes p c at e l) in
      named_of_type (type_in ordered set params classes) c r.0 r.1 (below_used (named_among listed) r.0 r.2)
  | inr l ↦ let listed = listed_classes ordered set params classes in
      all-each (is_of (type_in ordered set params classes)) (right_of (is_orderly ordered (named_among listed)) _ (right_of (are_named listed) _ a))
      (stands_among (λ l. not l) set params classes p c at e (ap not l))
]

-- where the classes and rests of a set type are
set_place : (w : World) (is_ordered : Bool) (t : Name) (a : AbsType) → w.classes.sizes t ≡ a.named → w.rests t ≡ a.rest → (c : Class) → is_of a c ≡ true →
    Has (places_of w (named_set is_ordered t)) (place_at (named_set is_ordered t) c)
set_place w b t a s r (Number k) e = absurd (cc)
set_place w true t a s r (Named c) e = let l = nat_lt-is c a.named e in Has-left _ (Has-map named (Has-map (ordinal t) (Has-numbers 0 (w.classes.sizes t) c (omega arith) (omega (arith, l, s)))))
set_place w false t a s r (Named c) e = let l = nat_lt-is c a.named e in Has-left _ (Has-map named (Has-map (scalar t) (Has-numbers 0 (w.classes.sizes t) c (omega arith) (omega (arith, l, s)))))
set_place w true t a s r (Rest g) e = Has-right _ (Has-map (λ g. rest (ordinal t g)) (rest_there w t a s r g e))
  where
    rest_there : (w : World) (t : Name) (a : AbsType) → w.classes.sizes t ≡ a.named → w.rests t ≡ a.rest → (g : ℕ) → list_any (nat_eq g) (rests_beside a.rest a.named) ≡ true → Has (rests_beside (w.rests t) (w.classes.sizes t)) g
    rest_there w t a s r g e = let q = any-some (nat_eq g) (rests_beside a.rest a.named) e in
        rw (s, r) (subst (Has (rests_beside a.rest a.named)) (sym (nat_eq-is g q.0 q.2)) q.1)
set_place w false t a s r (Rest g) e = Has-right _ (Has-map (λ g. rest (scalar t g)) (rest_there w t a s r g e))
  where
    rest_there : (w : World) (t : Name) (a : AbsType) → w.classes.sizes t ≡ a.named → w.rests t ≡ a.rest → (g : ℕ) → list_any (nat_eq g) (rests_beside a.rest a.named) ≡ true → Has (rests_beside (w.rests t) (w.classes.sizes t)) g
    rest_there w t a s r g e = let q = any-some (nat_eq g) (rests_beside a.rest a.named) e in
        rw (s, r) (subst (Has (rests_beside a.rest a.named)) (sym (nat_eq-is g q.0 q.2)) q.1)

-- a set type of the design exists
abbrev pub IsThere : List SetInfo → Simple → Type 0
IsThere sets (Set set) = (info : SetInfo) × (slice_get sets set ≡ Some info)
IsThere sets _ = Unit {0}

module _ (n : Numbered) (treatments : List Treatment) (params : List Parameter) (classes : List Class) where
  abbrev w : World
  w = world n (types_at n.sets treatments params classes)

  module _ (apart : AreApart n.sets) (treated : (set : ℕ) (info : SetInfo) → slice_get n.sets set ≡ Some info → (t : Treatment) × (slice_get treatments set ≡ Some t))
      (is_case : Has (cases treatments params) classes) where
    allowed : (set : ℕ) (t : Treatment) → slice_get treatments set ≡ Some t → is_allowed t set params classes ≡ true
    allowed set t e =
        let all = (Has-from_filter (λ classes. list_all (λ (set, t). is_allowed t set params classes) (numbered 0 treatments)) (one_of_each (map (λ p. candidates treatments (length params) p.over) params)) is_case).1 in
        let r = Has-from_map (λ (x : ℕ × Treatment). x) (numbered 0 treatments) (get_Has (map (λ (x : ℕ × Treatment). x) (numbered 0 treatments)) set (set, t) (numbered-at (λ x. x) 0 set set treatments t (omega arith) e)) in
        subst (λ (x : ℕ × Treatment). is_allowed x.1 x.0 params classes ≡ true) (sym r.2) (all-each (λ (set, t). is_allowed t set params classes) all r.1)

    in_set : (set : ℕ) (info : SetInfo) → slice_get n.sets set ≡ Some info → (p : Parameter) (c : Class) → Meets params classes p c → p.over ≡ Set set →
        Has (places_of w (set_type (Some info))) (place_at (set_type (Some info)) c)
    in_set set info e p c m over =
        let t = treated set info e in
        let a = type_in t.0 set params classes in
        let is : types_at n.sets treatments params classes info.name ≡ a =
        by_name-at (record { named = 0; rest = beside.None }) n.sets (map (λ (set, t). type_in t set params classes) (numbered 0 treatments)) set info a apart e
        (numbered-at (λ (set, t). type_in t set params classes) 0 set set treatments t.0 (omega arith) t.1) in
        set_place w info.ordered info.name a (ap (λ a. a.named) is) (ap (λ a. a.rest) is) c
        (of_type t.0 set params classes (allowed set t.0 t.1) p c m (subst (λ z. is_set set z ≡ true) (sym over) (nat_eq-itself set)))

    param_place : (p : Parameter) (c : Class) → Meets params classes p c → (t : Simple) → p.over ≡ t → IsIndexType t → IsThere n.sets t → Has (candidates treatments (length params) t) c →
        Has (places_in w t) (place_at (simple_in n t) c)
    param_place p c m (Range low high) over i f h = let r = Has-from_map Number (numbers_from low (high + 1 - low)) h in
        subst (λ c. Has (places_in w (Range low high)) (place_at (simple_in n (Range low high)) c)) (sym r.2) (Has-left _ (Has-map named (Has-map number r.1)))
    param_place p c m (Enum list) over i f h = absurd i
    param_place p c m (Set set) over i f h = subst (λ o. Has (places_of w (set_type o)) (place_at (set_type o) c)) (sym f.1) (in_set set f.0 f.1 p c m over)

    all_places : (ps : List Parameter) (cs : List Class) → AreOf (map (λ p. candidates treatments (length params) p.over) ps) cs →
        ((p : Parameter) (c : Class) → Meets ps cs p c → Has (places_in w p.over) (place_at (simple_in n p.over) c)) → AreOf (map (places_in w) (map (λ p. p.over) ps)) (places_at n ps cs)
    all_places [] [] h each = tt
    all_places [] (c ∷ cs) h each = elim h [ ]
    all_places (p ∷ ps) [] h each = elim h [ ]
    all_places (p ∷ ps) (c ∷ cs) h each = (each p c here, all_places ps cs h.1 (λ q d m. each q d (there m)))

    pub case_places : ((p : Parameter) → Has params p → IsIndexType p.over) → ((p : Parameter) → Has params p → IsThere n.sets p.over) → AreOf (map (places_in w) (map (λ p. p.over) params)) (places_at n params classes)
    case_places indexed found =
        let are = are_of (map (λ p. candidates treatments (length params) p.over) params) classes
        (Has-from_filter (λ classes. list_all (λ (set, t). is_allowed t set params classes) (numbered 0 treatments)) (one_of_each (map (λ p. candidates treatments (length params) p.over) params)) is_case).0 in
        all_places params classes are (λ p c m. param_place p c m p.over refl (indexed p (Meets-Has m)) (found p (Meets-Has m)) (is_candidate (λ p. candidates treatments (length params) p.over) params classes are m))

-- each set type has its treatment
pub treatment_there : (keeps : List Keep) (k : ℕ) (sets : List SetInfo) (set : ℕ) (info : SetInfo) → slice_get sets set ≡ Some info → (t : Treatment) × (slice_get (treatments_of keeps k sets) set ≡ Some t)
treatment_there keeps k [] set info e = absurd (cc)
treatment_there keeps k (i ∷ sets) zero info e = (_, refl)
treatment_there keeps k (i ∷ sets) (suc set) info e = treatment_there keeps (k + 1) sets set info e

-- of more parameters those of the front
pub take_of : {X : Type 0} (xss yss : List (List X)) (ys : List X) → AreOf (xss ++ yss) ys → AreOf xss (take (length xss) ys)
take_of [] yss [] h = tt
take_of [] yss (y ∷ ys) h = tt
take_of (xs ∷ xss) yss [] h = elim h [ ]
take_of (xs ∷ xss) yss (y ∷ ys) h = (h.0, take_of xss yss ys h.1)

-- a place of a type that is no rest is a number, a constant or a class
pub named_there : (w : World) (types : List Simple) (ps : List Place) → AreOf (map (places_in w) types) ps → list_all is_named ps ≡ true → AreOf (map (named_in w) types) ps
named_there w [] [] h e = tt
named_there w [] (p ∷ ps) h e = elim h [ ]
named_there w (t ∷ types) [] h e = elim h [ ]
named_there w (t ∷ types) (p ∷ ps) h e = (at t p h.0 (left_of (is_named p) (list_all is_named ps) e), named_there w types ps h.1 (right_of (is_named p) (list_all is_named ps) e))
  where
    no_rest : (t : Simple) (p : Place) → is_named p ≡ true → Has (rests_in w t) p → ⊥
    no_rest (Range low high) p e h = elim h [ ]
    no_rest (Enum list) p e h = elim h [ ]
    no_rest (Set set) p e h = by_info (slice_get w.classes.sets set) h
      where
        by_order : (b : Bool) (name : Name) → Has (rests_of w (named_set b name)) p → ⊥
        by_order true name h = let r = Has-from_map (λ g. rest (ordinal name g)) (rests_beside (w.rests name) (w.classes.sizes name)) h in let q = sym e ∙ ap is_named r.2 in cc
        by_order false name h = let r = Has-from_map (λ g. rest (scalar name g)) (rests_beside (w.rests name) (w.classes.sizes name)) h in let q = sym e ∙ ap is_named r.2 in cc

        by_info : (o : Option SetInfo) → Has (rests_of w (set_type o)) p → ⊥
        by_info None h = elim h [ ]
        by_info (Some info) h = by_order info.ordered info.name h

    at : (t : Simple) (p : Place) → Has (places_in w t) p → is_named p ≡ true → Has (named_in w t) p
    at t p h e = elim (Has-cases (named_in w t) (rests_in w t) h) [ inl l ↦ l | inr r ↦ absurd (no_rest t p e r) ]
