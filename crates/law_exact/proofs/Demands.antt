-- Where each value is a class and what is read is kept, a demand is met exactly where the definition allows the value, and a target is broken exactly where the instance fails.
use Rattle.std.proofs.Common.{◌≡◌, ℕ, List, [], ◌∷◌, ◌++◌, map, Bool, true, false, not, if◌then◌else◌, ◌&&◌, ◌||◌, refl, sym, ap, ◌∙◌, Option, Some, None, unwrap_or}
use Rattle.std.specs.List.{list_any, list_all, slice_get, zip}
use Rattle.smv_core.specs.Values.{Value, truth, is_in, same}
use Rattle.smv_core.specs.Outcome.{is_true}
use Rattle.smv_core.specs.Walk.{Walk}
use Rattle.smv_core.specs.Assignments.{Index, fits}
use Rattle.smv_core.specs.FlatMeaning.{Numbered, FlatState, FlatElement, values_in, indexes_assigned, is_concerned_by, flat_outcome, flat_result, flat_kept, flat_stepped, flat_allowed}
use Rattle.smv_core.specs.declared.flat.Def.{Def}
use Rattle.smv_core.specs.declared.flat.Family.{Family}
use Rattle.smv_core.specs.declared.flat.DefBody.{DefBody}
use Rattle.smv_core.specs.declared.flat.FlatExpr.{FlatExpr}
use Rattle.law_obligations.specs.Sets.{Has}
use Rattle.law_obligations.specs.Places.{Place, named, same_place, is_named, is_among, named_in, places_in}
use Rattle.law_obligations.specs.May.{AbsState, Kept, seen}
use Rattle.law_obligations.specs.Right.{may_allow, must_allow}
use Rattle.law_obligations.specs.Results.{results}
use Rattle.law_obligations.specs.Demands.{fits_place, concerns_place, or_else, may_give, must_give, may_keep, must_keep, may_step, must_step, may_be, must_be, places_of_family, is_defined, is_broken_map, is_broken_claim}
use Rattle.law_obligations.specs.Reads.{is_own, part_reads}
use Rattle.law_obligations.specs.Cones.{AbsElement, elements_at, elements_read, elements_of_def}
use Rattle.law_obligations.specs.Whole.{IsWhole, IsWholeFlat}
use Rattle.law_obligations.proofs.Members.{any-found, any-some, all-each, all-holds}
use Rattle.law_obligations.proofs.Filled.{Filled}
use Rattle.law_obligations.proofs.WalkKeeps.{Related}
use Rattle.law_exact.specs.Exact.{AreKept, Shows, ShowsBefore, IsExactPart, IsExactDef}
use Rattle.law_exact.proofs.Justs.{just-all}
use Rattle.law_exact.proofs.Outcomes.{seen-is, among-is, kept-left, kept-right, w, places_are, exact}
use Rattle.law_exact.proofs.Sides.{same-turned, or-false, may-side, must-side}
use Rattle.law_exact.proofs.Parts.{part-related}
use Rattle.law_lists.proofs.Booleans.{same_tests}

any-const : {X : Type 0} (p : X → Bool) (c : Bool) (xs : List X) → Filled xs → ((x : X) → Has xs x → p x ≡ c) → list_any p xs ≡ c
any-const p c xs h each = same_tests (list_any p xs) c (λ e. let r = any-some p xs e in sym (each r.0 r.1) ∙ r.2) (λ e. any-found p h.1 (each h.0 h.1 ∙ e))

all-const : {X : Type 0} (p : X → Bool) (c : Bool) (xs : List X) → Filled xs → ((x : X) → Has xs x → p x ≡ c) → list_all p xs ≡ c
all-const p c xs h each = same_tests (list_all p xs) c (λ e. sym (each h.0 h.1) ∙ all-each p e h.1) (λ e. all-holds p xs (λ x k. each x k ∙ e))

and-true : (b : Bool) → (b && true) ≡ b
and-true true = refl
and-true false = refl

all-named : (vs : List Value) → list_all is_named (map named vs) ≡ true
all-named [] = refl
all-named (v ∷ vs) = all-named vs

-- an element is concerned where the values' element is
fits-same : (is : List Index) (xs : List Value) → list_all (λ (i, q). fits_place i q) (zip is (map named xs)) ≡ list_all (λ (i, v). fits i v) (zip is xs)
fits-same [] xs = refl
fits-same (i ∷ is) [] = refl
fits-same (i ∷ is) (x ∷ xs) = ap (λ b. fits i x && b) (fits-same is xs)

concerned-same : (part : DefBody) (x : FlatElement) → concerns_place part (map named x.indexes) ≡ is_concerned_by part x
concerned-same part x = at (indexes_assigned part)
  where
    at : (iss : List (List Index)) → list_any (λ is. list_all (λ (i, q). fits_place i q) (zip is (map named x.indexes))) iss ≡ list_any (λ is. list_all (λ (i, v). fits i v) (zip is x.indexes)) iss
    at [] = refl
    at (is ∷ iss) = ap (λ b. b || list_any (λ is. list_all (λ (i, q). fits_place i q) (zip is (map named x.indexes))) iss) (fits-same is x.indexes) ∙ ap (λ b. list_all (λ (i, v). fits i v) (zip is x.indexes) || b) (at iss)

module _ (n : Numbered) (kept : Kept) (some_place : (family : ℕ) (f : Family) → slice_get n.families family ≡ Some f → Filled (places_in (w n) f.value)) (def : Def) (f : Family) (is_family : slice_get n.families def.family ≡ Some f) (fit : IsExactDef n.families def) (xs : List Value)
    (is_kept : kept def.family (map named xs) ≡ true) (reads_kept : AreKept kept (elements_of_def (w n) (map named xs) def)) where
  abbrev x : FlatElement
  x = record { family = def.family; indexes = xs }

  abbrev values : List Value
  values = values_in n f.value

  abbrev every : List Place
  every = map named values

  abbrev Reads : DefBody → List AbsElement
  Reads part = part_reads (places_in (w n)) (is_own (map named xs)) (named_in (w n)) (elements_at (w n)) part []

  module _ (v : Value) where
    -- what Nothing stands for, and a result, give the value
    abbrev R : List Value → (Place → Bool) → Type 0
    R vs y = y (named v) ≡ is_in vs v

    or-else-is : (nothing : Place → Bool) (left : List Value) → nothing (named v) ≡ is_in left v → (u : Walk) (r : Option (Place → Bool)) → Related R u r → or_else r nothing (named v) ≡ is_in (unwrap_or u left) v
    or-else-is nothing left h None None k = h
    or-else-is nothing left h (Some vs) (Some y) k = k
    or-else-is nothing left h None (Some y) k = elim k [ ]
    or-else-is nothing left h (Some vs) None k = elim k [ ]

    module _ (s : FlatState) (a : AbsState) (shows : Shows kept a s) (part : DefBody) (fits' : IsExactPart 0 part) (whole : IsWholeFlat n.families part) (k : AreKept kept (Reads part)) (nothing : Place → Bool) (left : List Value) (h : nothing (named v) ≡ is_in left v) where
      may-gives : may_give (w n) kept def (map named xs) every part a nothing (named v) ≡ is_in (unwrap_or (flat_result n s x values part []) left) v
      may-gives =
          let r = part-related n s kept a shows some_place x values R (λ p. is_among every p) (among-is values v) (may_allow (w n) kept a every) (λ e b side wh m. may-side n s kept a shows values v e b side wh m) part [] fits' whole k in
          any-const (λ r. or_else r nothing (named v)) (is_in (unwrap_or (flat_result n s x values part []) left) v) (results (w n) kept a (map named xs) (λ p. is_among every p) (may_allow (w n) kept a every) part []) r.0
          (λ q i. or-else-is nothing left h (flat_result n s x values part []) q (r.1 q i))

      must-gives : is_in values v ≡ true → must_give (w n) kept def (map named xs) every part a nothing (named v) ≡ is_in (unwrap_or (flat_result n s x values part []) left) v
      must-gives inside =
          let r = part-related n s kept a shows some_place x values R (λ p. is_among every p) (among-is values v) (must_allow (w n) kept a every) (λ e b side wh m. must-side n s kept a shows values v inside e b side wh m) part [] fits' whole k in
          all-const (λ r. or_else r nothing (named v)) (is_in (unwrap_or (flat_result n s x values part []) left) v) (results (w n) kept a (map named xs) (λ p. is_among every p) (must_allow (w n) kept a every) part []) r.0
          (λ q i. or-else-is nothing left h (flat_result n s x values part []) q (r.1 q i))

    kept-is : (old : FlatState) (b : AbsState) → Shows kept b old → may_keep (w n) kept def (map named xs) every b (named v) ≡ is_in (flat_kept n def x values old) v
    kept-is old b shows =
        ap (λ c. if c then same_place (b def.family (map named xs)) (named v) else is_among every (named v)) (concerned-same def.next x) ∙
        (ap (λ q. if is_concerned_by def.next x then same_place q (named v) else is_among every (named v)) (shows def.family xs is_kept) ∙
        (ap (λ c. if is_concerned_by def.next x then same (old def.family xs) v else c) (among-is values v) ∙ at (is_concerned_by def.next x)))
      where
        at : (c : Bool) → (if c then same (old def.family xs) v else is_in values v) ≡ is_in (if c then old def.family xs ∷ [] else values) v
        at true = same-turned (old def.family xs) v ∙ sym (or-false (same v (old def.family xs)))
        at false = refl

    must-kept-is : (old : FlatState) (b : AbsState) → Shows kept b old → must_keep (w n) kept def (map named xs) every b (named v) ≡ is_in (flat_kept n def x values old) v
    must-kept-is old b shows =
        ap (λ c. if concerns_place def.next (map named xs) then c else is_among every (named v)) (and-true (same_place (b def.family (map named xs)) (named v))) ∙ kept-is old b shows

    init-kept : AreKept kept (Reads def.init)
    init-kept = kept-left kept (Reads def.init) (Reads def.next) (kept-left kept (Reads def.init ++ Reads def.next) (Reads def.comb) reads_kept)

    next-kept : AreKept kept (Reads def.next)
    next-kept = kept-right kept (Reads def.init) (Reads def.next) (kept-left kept (Reads def.init ++ Reads def.next) (Reads def.comb) reads_kept)

    comb-kept : AreKept kept (Reads def.comb)
    comb-kept = kept-right kept (Reads def.init ++ Reads def.next) (Reads def.comb) reads_kept

    module _ (now : FlatState) (a : AbsState) (shows : Shows kept a now) where
      step-may : (old : Option AbsState) (before : Option FlatState) → ShowsBefore kept old before → may_step (w n) kept def (map named xs) every old a (named v) ≡ is_in (flat_stepped n def x values before now) v
      step-may None None h = may-gives now a shows def.init fit.init.0 fit.init.1 init-kept (λ p. is_among every p) values (among-is values v)
      step-may (Some b) (Some s) h = may-gives s b h def.next fit.next.0 fit.next.1 next-kept (may_keep (w n) kept def (map named xs) every b) (flat_kept n def x values s) (kept-is s b h)
      step-may None (Some s) h = elim h [ ]
      step-may (Some b) None h = elim h [ ]

      step-must : is_in values v ≡ true → (old : Option AbsState) (before : Option FlatState) → ShowsBefore kept old before → must_step (w n) kept def (map named xs) every old a (named v) ≡ is_in (flat_stepped n def x values before now) v
      step-must inside None None h = must-gives now a shows def.init fit.init.0 fit.init.1 init-kept (λ p. is_among every p) values (among-is values v) inside
      step-must inside (Some b) (Some s) h = must-gives s b h def.next fit.next.0 fit.next.1 next-kept (must_keep (w n) kept def (map named xs) every b) (flat_kept n def x values s) (must-kept-is s b h) inside
      step-must inside None (Some s) h = elim h [ ]
      step-must inside (Some b) None h = elim h [ ]

      pub be-may : (old : Option AbsState) (before : Option FlatState) → ShowsBefore kept old before → may_be (w n) kept def (map named xs) every old a (named v) ≡ is_in (flat_allowed n def x values before now) v
      be-may old before h =
          ap (λ c. if c then may_give (w n) kept def (map named xs) every def.comb a (λ p. is_among every p) (named v) else may_step (w n) kept def (map named xs) every old a (named v)) (concerned-same def.comb x) ∙
          (ap (λ c. if is_concerned_by def.comb x then c else may_step (w n) kept def (map named xs) every old a (named v)) (may-gives now a shows def.comb fit.comb.0 fit.comb.1 comb-kept (λ p. is_among every p) values (among-is values v)) ∙
          (ap (λ c. if is_concerned_by def.comb x then is_in (unwrap_or (flat_result n now x values def.comb []) values) v else c) (step-may old before h) ∙ at (is_concerned_by def.comb x)))
        where
          at : (c : Bool) → (if c then is_in (unwrap_or (flat_result n now x values def.comb []) values) v else is_in (flat_stepped n def x values before now) v) ≡ is_in (if c then unwrap_or (flat_result n now x values def.comb []) values else flat_stepped n def x values before now) v
          at true = refl
          at false = refl

      pub be-must : is_in values v ≡ true → (old : Option AbsState) (before : Option FlatState) → ShowsBefore kept old before → must_be (w n) kept def (map named xs) every old a (named v) ≡ is_in (flat_allowed n def x values before now) v
      be-must inside old before h =
          ap (λ c. if c then must_give (w n) kept def (map named xs) every def.comb a (λ p. is_among every p) (named v) else must_step (w n) kept def (map named xs) every old a (named v)) (concerned-same def.comb x) ∙
          (ap (λ c. if is_concerned_by def.comb x then c else must_step (w n) kept def (map named xs) every old a (named v)) (must-gives now a shows def.comb fit.comb.0 fit.comb.1 comb-kept (λ p. is_among every p) values (among-is values v) inside) ∙
          (ap (λ c. if is_concerned_by def.comb x then is_in (unwrap_or (flat_result n now x values def.comb []) values) v else c) (step-must inside old before h) ∙ at (is_concerned_by def.comb x)))
        where
          at : (c : Bool) → (if c then is_in (unwrap_or (flat_result n now x values def.comb []) values) v else is_in (flat_stepped n def x values before now) v) ≡ is_in (if c then unwrap_or (flat_result n now x values def.comb []) values else flat_stepped n def x values before now) v
          at true = refl
          at false = refl

  every-is : places_of_family (w n) kept (slice_get n.families def.family) ≡ every
  every-is = ap (places_of_family (w n) kept) is_family ∙ places_are n f.value

  module _ (now : FlatState) (a : AbsState) (shows : Shows kept a now) (old : Option AbsState) (before : Option FlatState) (h : ShowsBefore kept old before) where
    -- a definition is met exactly where it allows the element's value
    pub defined-exact : is_defined (w n) kept def (map named xs) old a ≡ is_in (flat_allowed n def x values before now) (now def.family xs)
    defined-exact =
        ap (λ ps. may_be (w n) kept def (map named xs) ps old a (a def.family (map named xs))) every-is ∙
        (ap (λ q. may_be (w n) kept def (map named xs) every old a q) (shows def.family xs is_kept) ∙ be-may (now def.family xs) now a shows old before h)

    -- a map is broken exactly where it does not allow the element's value
    pub broken-exact : is_in values (now def.family xs) ≡ true → is_broken_map (w n) kept def (map named xs) old a ≡ not (is_in (flat_allowed n def x values before now) (now def.family xs))
    broken-exact inside =
        ap (λ c. not c || not (must_be (w n) kept def (map named xs) (places_of_family (w n) kept (slice_get n.families def.family)) old a (a def.family (map named xs)))) (all-named xs) ∙
        (ap (λ ps. not (must_be (w n) kept def (map named xs) ps old a (a def.family (map named xs)))) every-is ∙
        (ap (λ q. not (must_be (w n) kept def (map named xs) every old a q)) (shows def.family xs is_kept) ∙ ap not (be-must (now def.family xs) now a shows inside old before h)))

-- a claim is broken exactly where its body is not 1
module _ (n : Numbered) (kept : Kept) (s : FlatState) (a : AbsState) (shows : Shows kept a s) (body : FlatExpr) (b : List Value) (whole : IsWhole n.families body) (reads_kept : AreKept kept (elements_read (w n) body (map named b))) where
  pub claim-exact : is_broken_claim (w n) kept body (map named b) a ≡ not (is_true (truth (flat_outcome n s body b)))
  claim-exact = ap not (just-all (λ u. is_true (seen u)) (exact n s kept a shows body b whole reads_kept) ∙ ap is_true (seen-is (flat_outcome n s body b)))
