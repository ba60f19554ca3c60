-- Lists in which nothing is, and faults of which there are none.
use Rattle.std.proofs.Common.{◌≡◌, List, [], ◌∷◌, ◌++◌, Option, Some, None, refl}
use Rattle.std.specs.List.{flat_map}
use Rattle.smv_core.specs.declared.fault.Fault.{Fault}
use Rattle.smv_mentions.specs.FirstFault.{or_else}
use Rattle.law_obligations.specs.Sets.{Has, first, later}

pub nil-left : {X : Type 0} (xs ys : List X) → xs ++ ys ≡ [] → xs ≡ []
nil-left [] ys e = refl
nil-left (x ∷ xs) ys e = absurd (cc (e))

pub nil-right : {X : Type 0} (xs ys : List X) → xs ++ ys ≡ [] → ys ≡ []
nil-right [] ys e = e
nil-right (x ∷ xs) ys e = absurd (cc (e))

pub nil-flat_map : {X Y : Type 0} (f : X → List Y) (xs : List X) → flat_map f xs ≡ [] → (x : X) → Has xs x → f x ≡ []
nil-flat_map f [] e y h = elim h [ ]
nil-flat_map f (x ∷ xs) e y first = nil-left (f x) (flat_map f xs) e
nil-flat_map f (x ∷ xs) e y (later h) = nil-flat_map f xs (nil-right (f x) (flat_map f xs) e) y h

pub none-both : (o p : Option Fault) → or_else o p ≡ None → (o ≡ None) × (p ≡ None)
none-both None p e = (refl, e)
none-both (Some f) p e = absurd (cc (e))
