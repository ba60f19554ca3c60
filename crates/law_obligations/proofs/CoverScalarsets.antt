-- A set type under a placing that suits the values of its listed parameters; scalarsets, whole and reduced.
use Rattle.std.proofs.Common.{◌≡◌, ℕ, suc, ◌+◌, ◌<◌, ◌≤◌, max, List, [], ◌∷◌, ◌++◌, map, length, Bool, true, false, if◌then◌else◌, refl, sym, ap, subst, ◌∙◌, arith, nat_lt, nat_le, Some, None}
use Rattle.std.specs.List.{list_all}
use Rattle.law_lists.proofs.Booleans.{and_both, left_of, right_of}
use Rattle.smv_core.specs.Values.{Name, Simple, scalarset, ordset, Sizes}
use Rattle.smv_core.specs.declared.abstract_type.Rest.TheVariants as beside
use Rattle.law_obligations.specs.Sets.{Has, first, later}
use Rattle.law_obligations.specs.Places.{World, rests_beside}
use Rattle.law_obligations.specs.Pictures.{Spot, class, Placing, placed, IsPlaced}
use Rattle.law_obligations.specs.Placings.{place_in, spot_by, AreDistinct, AreBelow, HasRoom, AreIn}
use Rattle.law_obligations.specs.Cases.{Treatment, whole, reduced, used, grow, is_orderly, abstract_type}
use Rattle.law_obligations.proofs.Members.{all-holds}
use Rattle.law_obligations.proofs.Scalarsets.{by_class, spotted_by, scalarset_is_placed}
use Rattle.law_obligations.proofs.Spots.{AreSpotted}
use Rattle.law_obligations.proofs.CasesCover.{stays, classes_cover}
use Rattle.law_obligations.proofs.CoverLists.{at_most_size, all_there, no_fewer, fill_up}

-- the set type of a name
abbrev pub named_set : Bool → Name → Simple
named_set is_ordered t = if is_ordered then ordset t else scalarset t

-- where the values of a set type lie, so that those of its listed parameters are at classes that its treatment allows
pub record Suits (treatment : Treatment) (is_ordered : Bool) (size : ℕ) (values : List ℕ) : Type 0 where
  pub spot : ℕ → Spot
  pub classes : List ℕ
  pub at_classes : map spot values ≡ map class classes
  pub orderly : is_orderly treatment classes ≡ true
  pub few : used classes ≤ length values
  pub spotted : AreSpotted size (abstract_type treatment (used classes)).named (rests_beside (abstract_type treatment (used classes)).rest (abstract_type treatment (used classes)).named) spot
  pub is_placed : (sizes : Sizes) (w : World) (spots : Placing) (t : Name) → sizes t ≡ size →
      w.rests t ≡ (abstract_type treatment (used classes)).rest → w.classes.sizes t ≡ (abstract_type treatment (used classes)).named →
      ((k : ℕ) → spots t k ≡ spot k) → IsPlaced sizes w (placed spots) (named_set is_ordered t)

-- distinct values suit a scalarset
scalarset_suits : (treatment : Treatment) (size : ℕ) (vs : List ℕ) (values classes : List ℕ) → AreDistinct values → AreBelow size values →
    map (spot_by values) vs ≡ map class classes → is_orderly treatment classes ≡ true → used classes ≤ length vs →
    (abstract_type treatment (used classes)).named ≡ length values → HasRoom (abstract_type treatment (used classes)).rest size values → Suits treatment false size vs
scalarset_suits treatment size vs values classes distinct below at orderly few count room = record {
  spot = spot_by values;
  classes = classes;
  at_classes = at;
  orderly = orderly;
  few = few;
  spotted = subst (λ m. AreSpotted size m (rests_beside (abstract_type treatment (used classes)).rest m) (spot_by values)) (sym count)
      (spotted_by (abstract_type treatment (used classes)).rest size values distinct below room);
  is_placed = λ sizes w spots t same_size rests named same_spots. scalarset_is_placed sizes w spots t values distinct
      (subst (λ m. AreBelow m values) (sym same_size) below)
      (subst (λ m. HasRoom (w.rests t) m values) (sym same_size) (subst (λ r. HasRoom r size values) (sym rests) room))
      (named ∙ count) same_spots;
}

-- classes of values, as a list
at_each : (values vs classes : List ℕ) → AreIn values vs classes → map (spot_by values) vs ≡ map class classes
at_each values [] [] h = refl
at_each values (v ∷ vs) (c ∷ classes) h = rw (h.0, at_each values vs classes h.1) refl
at_each values [] (c ∷ classes) h = absurd h
at_each values (v ∷ vs) [] h = absurd h

in_longer : (values more vs classes : List ℕ) → AreIn values vs classes → AreIn (values ++ more) vs classes
in_longer values more [] [] h = tt
in_longer values more (v ∷ vs) (c ∷ classes) h = (rw (stays v values more c (by_class v c (place_in v values) h.0)) refl, in_longer values more vs classes h.1)
in_longer values more [] (c ∷ classes) h = absurd h
in_longer values more (v ∷ vs) [] h = absurd h

same_length : (values vs classes : List ℕ) → AreIn values vs classes → length classes ≡ length vs
same_length values [] [] h = refl
same_length values (v ∷ vs) (c ∷ classes) h = ap suc (same_length values vs classes h.1)
same_length values [] (c ∷ classes) h = absurd h
same_length values (v ∷ vs) [] h = absurd h

-- classes that grow are no more than the parameters
used_few : (m : ℕ) (classes : List ℕ) → grow m classes ≡ true → used classes ≤ m + length classes
used_few m [] g = omega arith
used_few m (c ∷ classes) g =
    let low = at_most m c (left_of (nat_le c m) (grow (max m (suc c)) classes) g) in
    let rest = used_few (max m (suc c)) classes (right_of (nat_le c m) (grow (max m (suc c)) classes) g) in
    omega (arith, low, rest)
  where
    at_most : (m c : ℕ) → nat_le c m ≡ true → c ≤ m
    at_most m c e = grind arith

pub below_used : (classes : List ℕ) (c : ℕ) → Has classes c → c < used classes
below_used (c ∷ classes) _ first = omega arith
below_used (d ∷ classes) c (later h) = let l = below_used classes c h in omega (arith, l)
below_used [] c h = elim h [ ]

all_below : (size : ℕ) (classes : List ℕ) → used classes ≤ size → list_all (λ c. nat_lt c size) classes ≡ true
all_below size classes l = all-holds (λ c. nat_lt c size) classes (λ c h. less c size (let b = below_used classes c h in omega (arith, b, l)))
  where
    less : (c size : ℕ) → c < size → nat_lt c size ≡ true
    less c size l = grind arith

-- all values of a scalarset that is not reduced are classes
pub whole_suits : (size : ℕ) (vs : List ℕ) → AreBelow size vs → Suits (whole size) false size vs
whole_suits size vs below =
    let (classes, grows, values, distinct, in_size, count, at) = classes_cover size vs below in
    let all = fill_up size values distinct in_size in
    let fits = at_most_size size values distinct in_size in
    let as_many : size ≡ length (values ++ all.more) = both size (length (values ++ all.more)) (no_fewer size (values ++ all.more) all.all) (at_most_size size (values ++ all.more) all.distinct all.below) in
    scalarset_suits (whole size) size vs (values ++ all.more) classes all.distinct all.below
    (at_each (values ++ all.more) vs classes (in_longer values all.more vs classes at))
    (and_both grows (all_below size classes (omega (arith, count, fits))))
    (let r = used_few 0 classes grows in let s = same_length values vs classes at in omega (arith, r, s))
    as_many
    (λ k l e. all.all k l e)
  where
    both : (m n : ℕ) → m ≤ n → n ≤ m → m ≡ n
    both m n l g = omega arith

-- the values of the listed parameters are classes, and all others are at the rest
pub unknown_suits : (size : ℕ) (vs : List ℕ) → AreBelow size vs → Suits (reduced None) false size vs
unknown_suits size vs below =
    let (classes, grows, values, distinct, in_size, count, at) = classes_cover size vs below in
    scalarset_suits (reduced None) size vs values classes distinct in_size (at_each values vs classes at)
    (and_both grows refl)
    (let r = used_few 0 classes grows in let s = same_length values vs classes at in omega (arith, r, s))
    count
    tt

-- where all values are classes there is no rest
room_in : (size : ℕ) (values : List ℕ) (m : ℕ) → AreDistinct values → AreBelow size values → m ≡ length values → (b : Bool) → nat_lt m size ≡ b →
    HasRoom (if b then beside.One else beside.None) size values
room_in size values m distinct below count true e = tt
room_in size values m distinct below count false e = all_there size values distinct below (let l = not_less m size e in omega (arith, l, count))
  where
    not_less : (m size : ℕ) → nat_lt m size ≡ false → size ≤ m
    not_less m size e = grind arith

pub known_suits : (size : ℕ) (vs : List ℕ) → AreBelow size vs → Suits (reduced (Some size)) false size vs
known_suits size vs below =
    let (classes, grows, values, distinct, in_size, count, at) = classes_cover size vs below in
    let fits = at_most_size size values distinct in_size in
    scalarset_suits (reduced (Some size)) size vs values classes distinct in_size (at_each values vs classes at)
    (and_both grows (all_below size classes (omega (arith, count, fits))))
    (let r = used_few 0 classes grows in let s = same_length values vs classes at in omega (arith, r, s))
    count
    (room_in size values (used classes) distinct in_size count (nat_lt (used classes) size) refl)
