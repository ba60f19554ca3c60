-- What a demand of a design says of each time of a run of the text.
use Rattle.std.proofs.Common.{◌≡◌, suc, List, [], ◌∷◌, map, flat_map, length, Option, Some, true, refl, ap, ◌∙◌}
use Rattle.std.specs.List.{AllZip}
use Rattle.std.proofs.lemmas.Bool.{and_from}
use Rattle.law_lists.proofs.Booleans.{left_of, right_of}
use Rattle.smv_core.specs.Values.{Value}
use Rattle.smv_core.specs.Types.{Family}
use Rattle.smv_core.specs.Outcome.{State}
use Rattle.smv_core.specs.Sound.{AtEachTime, choices}
use Rattle.smv_core.specs.FlatMeaning.{FlatState}
use Rattle.law_designs.specs.Agreement.{AreSameStates}
use Rattle.law_designs.specs.FlatTextAllowed.{AreSameBefore}
use Rattle.law_obligations.specs.Sets.{Has, first, later, one_of_each}
use Rattle.law_obligations.specs.Circular.{Demand, always}
use Rattle.law_obligations.proofs.Members.{Has-from_map}
use Rattle.law_obligations.proofs.OneOfEach.{Has-from_flat_map}

-- a demand that gives another gives it always
pub always-gives : (D E : Demand FlatState) → ((fore : Option FlatState) (t : FlatState) → D fore t ≡ true → E fore t ≡ true) → (fore : Option FlatState) (ts : List FlatState) → always D fore ts ≡ true → always E fore ts ≡ true
always-gives D E gives fore [] h = refl
always-gives D E gives fore (t ∷ ts) h = and_from _ _ (gives fore t (left_of (D fore t) (always D (Some t) ts) h)) (always-gives D E gives (Some t) ts (right_of (D fore t) (always D (Some t) ts) h))

pub always-true : (fore : Option FlatState) (ts : List FlatState) → always (λ fore t. true) fore ts ≡ true
always-true fore [] = refl
always-true fore (t ∷ ts) = always-true (Some t) ts

module _ (families : List Family) (Typed : State → Type 0) (P : Option State → State → Type 0) (D : Demand FlatState)
    (gives : (before : Option State) (fore : Option FlatState) → AreSameBefore families before fore → (s : State) (t : FlatState) → AreSameStates families s t → Typed s → D fore t ≡ true → P before s) where
  -- what a demand gives of states that are the same it gives of each time
  pub at-each-time : (before : Option State) (fore : Option FlatState) → AreSameBefore families before fore → (run : List State) (ts : List FlatState) → AllZip (AreSameStates families) run ts → ((s : State) → Has run s → Typed s) →
      always D fore ts ≡ true → AtEachTime P before run
  at-each-time before fore b [] ts same typed h = tt
  at-each-time before fore b (s ∷ run) [] same typed h = elim same [ ]
  at-each-time before fore b (s ∷ run) (t ∷ ts) same typed h = (
    gives before fore b s t same.0 (typed s first) (left_of (D fore t) (always D (Some t) ts) h),
    at-each-time (Some s) (Some t) same.0 run ts same.1 (λ s k. typed s (later k)) (right_of (D fore t) (always D (Some t) ts) h),
  )

module _ (families : List Family) (P : Option State → State → Type 0) (D : Demand FlatState)
    (gives : (before : Option State) (fore : Option FlatState) → AreSameBefore families before fore → (s : State) (t : FlatState) → AreSameStates families s t → P before s → D fore t ≡ true) where
  -- what holds of each time it gives as a demand of states that are the same
  pub always-from : (before : Option State) (fore : Option FlatState) → AreSameBefore families before fore → (run : List State) (ts : List FlatState) → AllZip (AreSameStates families) run ts → AtEachTime P before run → always D fore ts ≡ true
  always-from before fore b [] [] same h = refl
  always-from before fore b [] (t ∷ ts) same h = elim same [ ]
  always-from before fore b (s ∷ run) [] same h = elim same [ ]
  always-from before fore b (s ∷ run) (t ∷ ts) same h = and_from _ _ (gives before fore b s t same.0 h.0) (always-from (Some s) (Some t) same.0 run ts same.1 h.1)

-- ---- choices

pub one-choices : (xs : List (List Value)) → one_of_each xs ≡ choices xs
one-choices [] = refl
one-choices (values ∷ more) = ap (λ l. flat_map (λ v. map (λ vs. v ∷ vs) l) values) (one-choices more)

pub choice-length : (xs : List (List Value)) (vs : List Value) → Has (choices xs) vs → length vs ≡ length xs
choice-length [] _ first = refl
choice-length [] vs (later h) = elim h [ ]
choice-length (values ∷ more) vs h =
    let v : (v : Value) × Has values v × Has (map (λ vs. v ∷ vs) (choices more)) vs = Has-from_flat_map (λ v. map (λ vs. v ∷ vs) (choices more)) values h in
    let rest : (us : List Value) × Has (choices more) us × (vs ≡ v.0 ∷ us) = Has-from_map (λ us. v.0 ∷ us) (choices more) v.2 in
    ap length rest.2 ∙ ap suc (choice-length more rest.0 rest.1)
