-- What values a list of outcomes gives a target.
use Rattle.std.proofs.Common.{◌≡◌, List, [], ◌∷◌, map, Bool, true, false, if◌then◌else◌, refl, sym, ap, subst, ◌⊎◌, inl, inr, Option, Some, None, option_map, unwrap_or}
use Rattle.smv_core.specs.Values.{Value, Outcome, value_in, all_defined, is_in}
use Rattle.smv_core.specs.Outcome.{fit}
use Rattle.law_obligations.specs.Sets.{Has, first, later}
use Rattle.law_obligations.proofs.Members.{Has-uncons}
use Rattle.law_obligations.proofs.Same.{is_in-Has, Has-is_in}

-- Undefined, or outside the type
abbrev pub IsOut : List Value → Outcome → Type 0
IsOut values None = Unit {0}
IsOut values (Some u) = is_in values u ≡ false

-- an outcome gives its value, and every value of the type where it is outside
pub data GivesValue (values : List Value) : Outcome → Value → Type 0 where
  itself : (v : Value) → Has values v → GivesValue values (Some v) v
  outside : (u : Outcome) (v : Value) → IsOut values u → Has values v → GivesValue values u v

pub is_of_type : {values : List Value} {u : Outcome} {v : Value} → GivesValue values u v → Has values v
is_of_type (itself v h) = h
is_of_type (outside u v o h) = h

module _ (values : List Value) where
  abbrev collected : List Outcome → Option (List Value)
  collected us = all_defined (map (value_in values) us)

  abbrev HasSome : Option (List Value) → Value → Type 0
  HasSome None v = ⊥
  HasSome (Some vs) v = Has vs v

  abbrev OrNone : Option (List Value) → Value → Type 0
  OrNone None v = Unit {0}
  OrNone (Some vs) v = Has vs v

  -- some outcome of the list gives the value
  abbrev pub SomeGives : List Outcome → Value → Type 0
  SomeGives us v = (u : Outcome) × Has us u × GivesValue values u v

  one_more : {u : Outcome} {us : List Outcome} {v : Value} → SomeGives us v → SomeGives (u ∷ us) v
  one_more (u, h, g) = (u, later h, g)

  cons_some : (x v : Value) (o : Option (List Value)) → HasSome (option_map (λ vs. x ∷ vs) o) v → (v ≡ x) ⊎ HasSome o v
  cons_some x v None h = elim h [ ]
  cons_some x v (Some vs) h = Has-uncons h

  cons_or : (x v : Value) (o : Option (List Value)) → OrNone o v → OrNone (option_map (λ vs. x ∷ vs) o) v
  cons_or x v None h = tt
  cons_or x v (Some vs) h = later h

  first_or : (x : Value) (o : Option (List Value)) → OrNone (option_map (λ vs. x ∷ vs) o) x
  first_or x None = tt
  first_or x (Some vs) = first

  cons_none : (x : Value) (o : Option (List Value)) → o ≡ None → option_map (λ vs. x ∷ vs) o ≡ None
  cons_none x o e = ap (option_map (λ vs. x ∷ vs)) e

  -- where all are inside, each collected value is one of the outcomes
  defined_gives : (us : List Outcome) (v : Value) → HasSome (collected us) v → SomeGives us v
  defined_gives [] v h = elim h [ ]
  defined_gives (None ∷ us) v h = elim h [ ]
  defined_gives (Some x ∷ us) v h = at (λ k. defined_gives us v k) (is_in values x) refl h
    where
      at : (HasSome (collected us) v → SomeGives us v) → (b : Bool) → is_in values x ≡ b → HasSome (all_defined ((if b then Some x else None) ∷ map (value_in values) us)) v → SomeGives (Some x ∷ us) v
      at ih true e h = elim (cons_some x v (collected us) h) [
        | inl i ↦ (Some x, first, subst (GivesValue values (Some x)) (sym i) (itself x (Has-is_in values x e)))
        | inr k ↦ one_more (ih k)
      ]
      at ih false e h = elim h [ ]

  -- where not all are, one is outside
  none_outside : (us : List Outcome) → collected us ≡ None → (u : Outcome) × Has us u × IsOut values u
  none_outside [] e = absurd (cc)
  none_outside (None ∷ us) e = (None, first, tt)
  none_outside (Some x ∷ us) e = at (λ k. none_outside us k) (is_in values x) refl e
    where
      not_cons : (o : Option (List Value)) → option_map (λ vs. x ∷ vs) o ≡ None → o ≡ None
      not_cons None e = refl
      not_cons (Some vs) e = absurd (cc)

      at : (collected us ≡ None → (u : Outcome) × Has us u × IsOut values u) → (b : Bool) → is_in values x ≡ b → all_defined ((if b then Some x else None) ∷ map (value_in values) us) ≡ None →
          (u : Outcome) × Has (Some x ∷ us) u × IsOut values u
      at ih true i e = let r = ih (not_cons (collected us) e) in (r.0, later r.1, r.2)
      at ih false i e = (Some x, first, i)

  collected_has : (us : List Outcome) (v : Value) → Has us (Some v) → is_in values v ≡ true → OrNone (collected us) v
  collected_has [] v h i = elim h [ ]
  collected_has (Some _ ∷ us) v first i = rw i (first_or v (collected us))
  collected_has (None ∷ us) v (later h) i = tt
  collected_has (Some x ∷ us) v (later h) i = at (is_in values x) (collected_has us v h i)
    where
      at : (b : Bool) → OrNone (collected us) v → OrNone (all_defined ((if b then Some x else None) ∷ map (value_in values) us)) v
      at true k = cons_or x v (collected us) k
      at false k = tt

  out_first : (us : List Outcome) (u : Outcome) → IsOut values u → all_defined (value_in values u ∷ map (value_in values) us) ≡ None
  out_first us None o = refl
  out_first us (Some x) o = rw o refl

  out_later : (us : List Outcome) (u : Outcome) → collected us ≡ None → all_defined (value_in values u ∷ map (value_in values) us) ≡ None
  out_later us None e = refl
  out_later us (Some x) e = at (is_in values x)
    where
      at : (b : Bool) → all_defined ((if b then Some x else None) ∷ map (value_in values) us) ≡ None
      at true = cons_none x (collected us) e
      at false = refl

  collected_none : {us : List Outcome} {u : Outcome} → Has us u → IsOut values u → collected us ≡ None
  collected_none (first {x = u} {xs = us}) o = out_first us u o
  collected_none (later {y = y} {xs = us} h) o = out_later us y (collected_none h o)

  -- the value is given by some outcome, or by their absence
  abbrev pub Given : List Outcome → Value → Type 0
  Given us v = (us ≡ []) ⊎ SomeGives us v

  pub fit_is : (us : List Outcome) (v : Value) → Has (fit values us) v → Has values v × Given us v
  fit_is [] v h = (h, inl refl)
  fit_is (u ∷ us) v h = at (collected (u ∷ us)) refl h
    where
      at : (o : Option (List Value)) → collected (u ∷ us) ≡ o → Has (unwrap_or o values) v → Has values v × Given (u ∷ us) v
      at None e h = let r = none_outside (u ∷ us) e in (h, inr (r.0, r.1, outside r.0 v r.2 h))
      at (Some vs) e h = let r = defined_gives (u ∷ us) v (subst (λ o. HasSome o v) (sym e) h) in (is_of_type r.2, inr r)

  pub given_fits : (us : List Outcome) (v : Value) → SomeGives us v → Has (fit values us) v
  given_fits [] v (u, h, g) = elim h [ ]
  given_fits (w ∷ us) v (u, h, g) = by_kind u h g
    where
      by_outside : (u : Outcome) → Has (w ∷ us) u → IsOut values u → Has values v → Has (fit values (w ∷ us)) v
      by_outside u h o k = rw (collected_none h o) k

      by_itself : Has (w ∷ us) (Some v) → Has values v → Has (fit values (w ∷ us)) v
      by_itself h k = at (collected (w ∷ us)) (collected_has (w ∷ us) v h (is_in-Has k))
        where
          at : (o : Option (List Value)) → OrNone o v → Has (unwrap_or o values) v
          at None n = k
          at (Some vs) n = n

      by_kind : (u : Outcome) → Has (w ∷ us) u → GivesValue values u v → Has (fit values (w ∷ us)) v
      by_kind _ h (itself _ k) = by_itself h k
      by_kind u h (outside _ _ o k) = by_outside u h o k
