-- The condition that an outcome stands for is one of the target's.
use Rattle.std.proofs.Common.{◌≡◌, ℕ, List, [], ◌∷◌, Bool, Option, Some, None, IfSome, sym, subst}
use Rattle.law_obligations.specs.Sets.{Has, first, later}
use Rattle.law_obligations.specs.Places.{Place, named, rest, World}
use Rattle.smv_core.specs.declared.abstract_type.Rest.TheVariants as beside
use Rattle.smv_spots.specs.declared.spots.Spot.{Spot}
use Rattle.smv_spots.specs.Spots.{place_in}
use Rattle.smv_conditions.specs.Keep.{KeepsConditions}
use Rattle.smv_targets.specs.declared.targets.At.{At}
use Rattle.smv_targets.specs.declared.targets.Target.{Target}
use Rattle.smv_targets.specs.declared.targets.Sense.{Sense}
use Rattle.smv_targets.specs.declared.targets.Sense.TheVariants.{May, Surely, Exactly, Inside, Outside}
use Rattle.smv_targets.specs.Targets.{IsTargetMade, AreAtMade, within, beyond, conditions_at, conditions_of}

pub first_there : {C : Type 0} (t : At C) (ts all : List (At C)) → all ≡ t ∷ ts → Has (conditions_at all) t.when
first_there t ts all e = subst (λ l. Has (conditions_at l) t.when) (sym e) first

pub later_there : {C : Type 0} (t : At C) (ts all : List (At C)) (c : C) → all ≡ t ∷ ts → Has (conditions_at ts) c → Has (conditions_at all) c
later_there t ts all c e h = subst (λ l. Has (conditions_at l) c) (sym e) (later h)

pub later_some : {C : Type 0} (t : At C) (ts all : List (At C)) (o : Option C) → all ≡ t ∷ ts → IfSome o (λ c. Has (conditions_at ts) c) → IfSome o (λ c. Has (conditions_at all) c)
later_some t ts all None e h = tt
later_some t ts all (Some c) e h = later_there t ts all c e h

beyond_among : {C : Type 0} (t : Target C) (sense : Sense) → Has (conditions_of t) (beyond t sense)
beyond_among t May = first
beyond_among t Surely = first
beyond_among t Exactly = later first
beyond_among t Inside = later first
beyond_among t Outside = first

pub outside_among : {C : Type 0} (t : Target C) (sense : Sense) (c : C) → c ≡ beyond t sense → Has (conditions_of t) c
outside_among t sense c e = subst (Has (conditions_of t)) (sym e) (beyond_among t sense)

within_among : {C : Type 0} (t : Target C) (sense : Sense) (p : Place) (c : C) → Has (conditions_of t) c → Has (conditions_of t) (within t sense p c)
within_among t May p c h = h
within_among t Surely (named v) c h = h
within_among t Surely (rest v) c h = later first
within_among t Exactly p c h = h
within_among t Inside p c h = first
within_among t Outside p c h = later first

-- a world without types, by which an equation that each world has is read
abbrev no_world : World
no_world = record { classes = record { sets = []; enums = []; families = []; sizes = λ t. 0 }; rests = λ t. beside.None }

pub inside_among : {C : Type 0} (t : Target C) (sense : Sense) (spot : Spot) (when c : C) (shown : List (At C)) (o : Option C) → shown ≡ t.table → o ≡ Some when → IfSome o (λ c. Has (conditions_at shown) c) → ((w : World) → c ≡ within t sense (place_in w.classes spot) when) → Has (conditions_of t) c
inside_among t sense spot when c shown o e f h is =
    let there : Has (conditions_at t.table) when = subst (λ l. Has (conditions_at l) when) e (subst (λ o. IfSome o (λ c. Has (conditions_at shown) c)) f h) in
    subst (Has (conditions_of t)) (sym (is no_world)) (within_among t sense (place_in no_world.classes spot) when (later (later there)))

at_made : {C : Type 0} (IsMade : C → Type 0) (ts : List (At C)) (c : C) → Has (conditions_at ts) c → AreAtMade IsMade ts → IsMade c
at_made IsMade [] c h m = elim h [ ]
at_made IsMade (t ∷ ts) c first m = m.0
at_made IsMade (t ∷ ts) c (later h) m = at_made IsMade ts c h m.1

-- conditions of a target that is made are made
pub condition_made : {C : Type 0} (IsMade : C → Type 0) (t : Target C) (c : C) → Has (conditions_of t) c → IsTargetMade IsMade t → IsMade c
condition_made IsMade t c first m = m.always
condition_made IsMade t c (later first) m = m.never
condition_made IsMade t c (later (later h)) m = at_made IsMade t.table c h m.table

module _ {S C : Type 0} (IsMade : S → C → Type 0) (holds : S → C → (ℕ → Bool) → Bool) (room : S → ℕ) where
  ats_kept : (s t : S) (ts : List (At C)) → KeepsConditions IsMade holds room s t → AreAtMade (IsMade s) ts → AreAtMade (IsMade t) ts
  ats_kept s t [] k m = tt
  ats_kept s t (x ∷ xs) k m = (k.made x.when m.0, ats_kept s t xs k m.1)

  -- a target that is made stays made
  pub target_kept : (s t : S) (x : Target C) → KeepsConditions IsMade holds room s t → IsTargetMade (IsMade s) x → IsTargetMade (IsMade t) x
  target_kept s t x k m = record { table = ats_kept s t x.table k m.table; always = k.made x.always m.always; never = k.made x.never m.never }
