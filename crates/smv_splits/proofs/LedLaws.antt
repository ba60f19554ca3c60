-- What a search from the units finds is what leads to a unit.
use Rattle.std.proofs.Common.{◌≡◌, ℕ, zero, suc, ◌+◌, ◌-◌, ◌<◌, ◌⊎◌, inl, inr, List, [], ◌∷◌, map, length, get_or, replicate, Bool, true, false, ◌&&◌, ◌||◌, refl, ap, sym, subst, ◌∙◌, arith}
use Rattle.std.specs.Prelude.{Option, Some, None, slice_get, unwrap_or, if◌then◌else◌}
use Rattle.std.specs.List.{Contains, list_any, flat_map}
use Rattle.std.specs.Str.{bytes_eq}
use Rattle.std.proofs.lemmas.List.{length-map, length-replicate, ext_get_or}
use Rattle.std.proofs.lemmas.Option.{slice_get-get_or, slice_get_within}
use Rattle.std.proofs.lemmas.Slice.Eq.{bytes_eq-Decides}
use Rattle.law_lists.proofs.Options.{some_is}
use Rattle.law_lists.proofs.Places.{get-map}
use Rattle.smv_core.specs.Values.{Name}
use Rattle.smv_core.specs.declared.flat.Design.{Design}
use Rattle.smv_core.specs.declared.flat.FlatSplit.{FlatSplit}
use Rattle.smv_core.specs.declared.flat.Unit.{Unit}
use Rattle.law_obligations.specs.Sets.{Has, first}
use Rattle.law_obligations.proofs.Members.{Has-cases, Has-left, Has-right, Has-flat_map, Has-uncons, any-found, any-some}
use Rattle.law_obligations.proofs.OneOfEach.{Has-from_flat_map, get_Has, Has_get}
use Rattle.name_index.specs.Position.{position}
use Rattle.graph_search.specs.Walks.{list_at, follow, Walk, here, step}
use Rattle.graph_search.specs.Searches.{IsSeen, IsExplored, Saw}
use Rattle.graph_search.proofs.ReachedLaws.{came, marked_queue}
use Rattle.law_obligations.specs.Outlines.{unit_in}
use Rattle.law_obligations.specs.Units.{units_of}
use Rattle.law_obligations.proofs.Lookups.{Has-tested}
use Rattle.law_splits.specs.Leaves.{named_by, name_of}
use Rattle.law_splits.specs.SplitFaults.{is_unit, leads_to_unit}
use Rattle.law_splits.proofs.Stable.{leads_at_last}
use Rattle.smv_splits.specs.Groups.{numbers_with, AreGroups, names_split, next_place, splits_of_unit, leads}
use Rattle.smv_splits.proofs.GroupLaws.{group-is, no-group}

-- ---- members of lists of numbers

Contains-Has : (xs : List ℕ) (x : ℕ) → Contains xs x → Has xs x
Contains-Has xs x c = subst (Has xs) (sym (at-place xs c.0 x c.1 c.2)) (get_Has xs c.0 (get_or xs c.0 0) (slice_get-get_or xs c.0 0 c.1))
  where
    at-place : (xs : List ℕ) (k x : ℕ) → k < length xs → get_or xs k x ≡ x → x ≡ get_or xs k 0
    at-place [] k x l e = absurd (omega (arith, l))
    at-place (y ∷ xs) zero x l e = sym e
    at-place (y ∷ xs) (suc k) x l e = at-place xs k x (omega (arith, l)) e

Has-Contains : (xs : List ℕ) (x : ℕ) → Has xs x → Contains xs x
Has-Contains xs x h = let r = Has_get h in (r.0, slice_get_within xs r.0 x r.1, at-place xs r.0 r.1)
  where
    at-place : (xs : List ℕ) (k : ℕ) → slice_get xs k ≡ Some x → get_or xs k x ≡ x
    at-place [] k e = cc
    at-place (y ∷ xs) zero e = some_is e
    at-place (y ∷ xs) (suc k) e = at-place xs k e

-- what stands at a place in a map
from-map : {X Y : Type 0} (f : X → Y) (xs : List X) (k : ℕ) (y : Y) → slice_get (map f xs) k ≡ Some y → (x : X) × (slice_get xs k ≡ Some x) × (y ≡ f x)
from-map f [] k y e = absurd (cc)
from-map f (x ∷ xs) zero y e = (x, refl, sym (some_is e))
from-map f (x ∷ xs) (suc k) y e = from-map f xs k y e

same-bytes : (a b : Name) → a ≡ b → bytes_eq a b ≡ true
same-bytes a b e = (bytes_eq-Decides a b).1 e

-- a number of a place of a name is that of one
record Found (names : List Name) (name : Name) (k y : ℕ) : Type 0 where
  place : ℕ
  is : y ≡ k + place
  at : slice_get names place ≡ Some name

found-with : (name : Name) (k : ℕ) (names : List Name) (y : ℕ) → Has (numbers_with name k names) y → Found names name k y
found-with name k [] y h = elim h [ ]
found-with name k (x ∷ names) y h = by (Has-cases (if bytes_eq x name then k ∷ [] else []) (numbers_with name (suc k) names) h) (found-with name (suc k) names y)
  where
    by : Has (if bytes_eq x name then k ∷ [] else []) y ⊎ Has (numbers_with name (suc k) names) y → (Has (numbers_with name (suc k) names) y → Found names name (suc k) y) → Found (x ∷ names) name k y
    by (inl g) rest =
        let t = Has-tested (bytes_eq x name) g in
        let o : y ≡ k = one k y t.1 in
        record { place = 0; is = let z : k + 0 ≡ k = omega arith in o ∙ sym z; at = ap Some ((bytes_eq-Decides x name).0 t.0) }
      where
        one : (a b : ℕ) → Has (a ∷ []) b → b ≡ a
        one a b h = elim (Has-uncons h) [ inl e ↦ e | inr n ↦ elim n [ ] ]
    by (inr g) rest = let r = rest g in record { place = suc r.place; is = let z : suc k + r.place ≡ k + suc r.place = omega arith in r.is ∙ z; at = r.at }

with-found : (name : Name) (k : ℕ) (names : List Name) (i : ℕ) → slice_get names i ≡ Some name → Has (numbers_with name k names) (k + i)
with-found name k [] i e = absurd (cc)
with-found name k (x ∷ names) zero e =
    let z : k + 0 ≡ k = omega arith in
    Has-left (numbers_with name (suc k) names) (subst (λ b. Has (if b then k ∷ [] else []) (k + 0)) (sym (same-bytes x name (some_is e))) (subst (Has (k ∷ [])) (sym z) first))
with-found name k (x ∷ names) (suc i) e =
    let z : suc k + i ≡ k + suc i = omega arith in
    Has-right (if bytes_eq x name then k ∷ [] else []) (subst (Has (numbers_with name (suc k) names)) z (with-found name (suc k) names i e))

module _ (d : Design) where
  abbrev named : List Name
  named = names_split d

  -- a number in a group is that of a split of the name
  record OfName (name : Name) (y : ℕ) : Type 0 where
    split : FlatSplit
    at : slice_get d.splits y ≡ Some split
    is : named_by split.of ≡ name

  of-name : (name : Name) (y : ℕ) → Has (numbers_with name 0 named) y → OfName name y
  of-name name y h =
      let f = found-with name 0 named y h in
      let z : f.place ≡ y = (let i = f.is in omega (arith, i)) in
      let m = from-map (λ (s : FlatSplit). named_by s.of) d.splits f.place name f.at in
      record { split = m.0; at = subst (λ k. slice_get d.splits k ≡ Some m.0) z m.1; is = sym m.2 }

  name-of : (name : Name) (y : ℕ) (s : FlatSplit) → slice_get d.splits y ≡ Some s → named_by s.of ≡ name → Has (numbers_with name 0 named) y
  name-of name y s at is =
      let z : 0 + y ≡ y = omega arith in
      subst (Has (numbers_with name 0 named)) z (with-found name 0 named y (get-map (λ (s : FlatSplit). named_by s.of) d.splits y s at ∙ ap Some is))

  module _ (groups : List (List ℕ)) (next : List ℕ) (are : AreGroups named groups) (nexts : next ≡ map (next_place named (length d.splits)) d.splits) where
    abbrev goes : ℕ → List ℕ
    goes = follow groups next

    splits-long : length named ≡ length d.splits
    splits-long = length-map d.splits (λ (s : FlatSplit). named_by s.of)

    -- what follows a split are the splits of what it makes
    goes-is : (x : ℕ) (s : FlatSplit) → slice_get d.splits x ≡ Some s → goes x ≡ numbers_with s.name 0 named
    goes-is x s at = ap (list_at groups) (ap (λ l. slice_get l x) nexts ∙ get-map (next_place named (length d.splits)) d.splits x s at) ∙ by (position named s.name) refl
      where
        by : (o : Option ℕ) → position named s.name ≡ o → list_at groups (Some (unwrap_or o (length d.splits))) ≡ numbers_with s.name 0 named
        by None e = ap (λ k. list_at groups (Some k)) (sym splits-long) ∙ no-group named groups are s.name e
        by (Some p) e = ap (list_at groups) (sym e) ∙ group-is named groups are s.name

    goes-from : (x y : ℕ) → Contains (goes x) y → (s : FlatSplit) × (slice_get d.splits x ≡ Some s)
    goes-from x y c = by (slice_get d.splits x) refl
      where
        none-next : (xs : List FlatSplit) (k : ℕ) → slice_get xs k ≡ None → slice_get (map (next_place named (length d.splits)) xs) k ≡ None
        none-next [] k e = refl
        none-next (s ∷ xs) zero e = absurd (cc)
        none-next (s ∷ xs) (suc k) e = none-next xs k e

        none-in : (l : List ℕ) → l ≡ [] → Contains l y → ⊥
        none-in l e h = let c : Contains [] y = subst (λ l. Contains l y) e h in let n = c.1 in omega (arith, n)

        by : (o : Option FlatSplit) → slice_get d.splits x ≡ o → (s : FlatSplit) × (slice_get d.splits x ≡ Some s)
        by (Some s) e = (s, e)
        by None e = absurd (none-in (goes x) (ap (list_at groups) (ap (λ l. slice_get l x) nexts ∙ none-next d.splits x e)) c)

    -- it is followed by a split of what it makes
    record Goes (x y : ℕ) : Type 0 where
      from : FlatSplit
      is_from : slice_get d.splits x ≡ Some from
      to : OfName from.name y

    goes-to : (x y : ℕ) → Contains (goes x) y → Goes x y
    goes-to x y c =
        let f = goes-from x y c in
        record { from = f.0; is_from = f.1; to = of-name f.0.name y (subst (λ l. Has l y) (goes-is x f.0 f.1) (Contains-Has (goes x) y c)) }

    pub below : (x y : ℕ) → Contains (goes x) y → y < length d.splits
    below x y c = let g = (goes-to x y c).to in slice_get_within d.splits y g.split g.at

    -- ---- from the units

    abbrev starts : List ℕ
    starts = flat_map (splits_of_unit d named) (units_of d)

    pub starts-below : (x : ℕ) → Contains starts x → x < length d.splits
    starts-below x c =
        let r = Has-from_flat_map (splits_of_unit d named) (units_of d) (Contains-Has starts x c) in
        let o = of-name (name_of d (unit_in d r.0)) x r.2 in
        slice_get_within d.splits x o.split o.at

    unit-leads : (n : ℕ) (name : Name) → is_unit d name ≡ true → leads_to_unit d n name ≡ true
    unit-leads zero name e = e
    unit-leads (suc n) name e = ap (λ b. b || list_any (λ s. bytes_eq s.name name && leads_to_unit d n (named_by s.of)) d.splits) e

    -- a split that leads to a unit
    record Leads (x : ℕ) : Type 0 where
      split : FlatSplit
      at : slice_get d.splits x ≡ Some split
      leads : leads d split ≡ true

    start-leads : (x : ℕ) → Contains starts x → Leads x
    start-leads x c =
        let r = Has-from_flat_map (splits_of_unit d named) (units_of d) (Contains-Has starts x c) in
        let o = of-name (name_of d (unit_in d r.0)) x r.2 in
        record {
          split = o.split;
          at = o.at;
          leads = unit-leads (length d.splits) (named_by o.split.of) (any-found (λ (unit : Unit). bytes_eq (name_of d (unit_in d unit)) (named_by o.split.of)) r.1 (same-bytes (name_of d (unit_in d r.0)) (named_by o.split.of) (sym o.is)));
        }

    next-leads : (x y : ℕ) → Contains (goes x) y → Leads x → Leads y
    next-leads x y c l =
        let g = goes-to x y c in
        let same : g.from ≡ l.split = some_is (sym g.is_from ∙ l.at) in
        let made : l.split.name ≡ named_by g.to.split.of = sym (g.to.is ∙ ap (λ (s : FlatSplit). s.name) same) in
        let tested : (bytes_eq l.split.name (named_by g.to.split.of) && leads d l.split) ≡ true = ap (λ b. b && leads d l.split) (same-bytes l.split.name (named_by g.to.split.of) made) ∙ l.leads in
        record {
          split = g.to.split;
          at = g.to.at;
          leads = leads_at_last d g.to.split (get_Has d.splits y g.to.split g.to.at)
              (or-right (is_unit d (named_by g.to.split.of)) (any-found (λ (s : FlatSplit). bytes_eq s.name (named_by g.to.split.of) && leads d s) (get_Has d.splits x l.split l.at) tested));
        }
      where
        or-right : (a : Bool) {b : Bool} → b ≡ true → (a || b) ≡ true
        or-right true e = refl
        or-right false e = e

    walk-leads : {x y : ℕ} → Walk goes x y → Leads x → Leads y
    walk-leads here l = l
    walk-leads (step c w) l = walk-leads w (next-leads _ _ c l)

    -- ---- what a search marks

    module _ (seen marks : List Bool) (queue longer : List ℕ) (saw : Saw starts (replicate (length d.splits) false) seen [] queue) (all : IsExplored goes seen marks queue longer) where
      in-queue : (x : ℕ) → IsSeen marks x → Contains longer x
      in-queue x m = elim (all.told x m) [ inl old ↦ all.front x (marked_queue (length d.splits) starts seen queue saw x old) | inr there ↦ there ]

      marked-leads : (x : ℕ) → IsSeen marks x → Leads x
      marked-leads x m = let r = all.reached x (in-queue x m) in walk-leads r.2 (start-leads r.0 ((came (length d.splits) starts seen queue saw r.0).0 r.1))

      unit-marked : (x : ℕ) (s : FlatSplit) → slice_get d.splits x ≡ Some s → is_unit d (named_by s.of) ≡ true → IsSeen marks x
      unit-marked x s at e =
          let r = any-some (λ (unit : Unit). bytes_eq (name_of d (unit_in d unit)) (named_by s.of)) (units_of d) e in
          let name : name_of d (unit_in d r.0) ≡ named_by s.of = (bytes_eq-Decides (name_of d (unit_in d r.0)) (named_by s.of)).0 r.2 in
          let h : Has starts x = Has-flat_map (splits_of_unit d named) r.1 (name-of (name_of d (unit_in d r.0)) x s at (sym name)) in
          all.kept x (saw.each x (Has-Contains starts x h))

      both : (a b : Bool) → (a && b) ≡ true → (a ≡ true) × (b ≡ true)
      both true b e = (refl, e)
      both false b e = absurd (cc)

      either : (a b : Bool) → (a || b) ≡ true → (a ≡ true) ⊎ (b ≡ true)
      either true b e = inl refl
      either false b e = inr e

      leads-marked : (n x : ℕ) (s : FlatSplit) → slice_get d.splits x ≡ Some s → leads_to_unit d n (named_by s.of) ≡ true → IsSeen marks x
      leads-marked zero x s at e = unit-marked x s at e
      leads-marked (suc n) x s at e = by (either (is_unit d (named_by s.of)) (list_any (λ (t : FlatSplit). bytes_eq t.name (named_by s.of) && leads_to_unit d n (named_by t.of)) d.splits) e) (leads-marked n)
        where
          by : (is_unit d (named_by s.of) ≡ true) ⊎ (list_any (λ (t : FlatSplit). bytes_eq t.name (named_by s.of) && leads_to_unit d n (named_by t.of)) d.splits ≡ true) →
              ((y : ℕ) (t : FlatSplit) → slice_get d.splits y ≡ Some t → leads_to_unit d n (named_by t.of) ≡ true → IsSeen marks y) → IsSeen marks x
          by (inl u) rest = unit-marked x s at u
          by (inr h) rest =
              let r = any-some (λ (t : FlatSplit). bytes_eq t.name (named_by s.of) && leads_to_unit d n (named_by t.of)) d.splits h in
              let b = both (bytes_eq r.0.name (named_by s.of)) (leads_to_unit d n (named_by r.0.of)) r.2 in
              let g = Has_get r.1 in
              let made : r.0.name ≡ named_by s.of = (bytes_eq-Decides r.0.name (named_by s.of)).0 b.0 in
              let there : Has (goes g.0) x = subst (λ l. Has l x) (sym (goes-is g.0 r.0 g.1)) (name-of r.0.name x s at (sym made)) in
              all.closed g.0 x (in-queue g.0 (rest g.0 r.0 g.1 b.1)) (Has-Contains (goes g.0) x there)

      mark-is : (x : ℕ) (s : FlatSplit) → slice_get d.splits x ≡ Some s → get_or marks x false ≡ leads d s
      mark-is x s at = agree (get_or marks x false) (leads d s) (λ m. let l = marked-leads x m in let z : l.split ≡ s = some_is (sym l.at ∙ at) in subst (λ t. leads d t ≡ true) z l.leads) (leads-marked (length d.splits) x s at)
        where
          agree : (a b : Bool) → (a ≡ true → b ≡ true) → (b ≡ true → a ≡ true) → a ≡ b
          agree true b f g = sym (f refl)
          agree false true f g = g refl
          agree false false f g = refl

      pub marks-are : marks ≡ map (leads d) d.splits
      marks-are = ext_get_or false marks (map (leads d) d.splits) (long ∙ sym (length-map d.splits (leads d))) at
        where
          long : length marks ≡ length d.splits
          long = all.room ∙ (saw.room ∙ length-replicate (length d.splits) false)

          get-is : (xs : List FlatSplit) (i : ℕ) (s : FlatSplit) → slice_get xs i ≡ Some s → get_or (map (leads d) xs) i false ≡ leads d s
          get-is [] i s e = absurd (cc)
          get-is (t ∷ xs) zero s e = ap (leads d) (some_is e)
          get-is (t ∷ xs) (suc i) s e = get-is xs i s e

          some-at : (xs : List FlatSplit) (i : ℕ) → i < length xs → (s : FlatSplit) × (slice_get xs i ≡ Some s)
          some-at [] i l = absurd (omega (arith, l))
          some-at (t ∷ xs) zero l = (t, refl)
          some-at (t ∷ xs) (suc i) l = some-at xs i (omega (arith, l))

          at : (i : ℕ) → i < length marks → get_or marks i false ≡ get_or (map (leads d) d.splits) i false
          at i l = let r = some-at d.splits i (omega (arith, l, long)) in mark-is i r.0 r.1 ∙ sym (get-is d.splits i r.0 r.1)

-- the groups, what follows each split, and the splits of units, as lists that are equal to them
pub record Ready (d : Design) (groups : List (List ℕ)) (next starts' : List ℕ) : Type 0 where
  are : AreGroups (names_split d) groups
  nexts : next ≡ map (next_place (names_split d) (length d.splits)) d.splits
  begin : starts' ≡ flat_map (splits_of_unit d (names_split d)) (units_of d)

pub make-ready : (d : Design) (named' : List Name) (units : List Unit) (groups groups' : List (List ℕ)) (next next' begun begun' : List ℕ) → named' ≡ names_split d → AreGroups named' groups → groups' ≡ groups →
    next ≡ map (next_place named' (length d.splits)) d.splits → next' ≡ next → begun ≡ flat_map (splits_of_unit d named') units → begun' ≡ begun → units ≡ units_of d → Ready d groups' next' begun'
make-ready d named' units groups groups' next next' begun begun' n are g nexts x begins b us = record {
  are = subst (AreGroups (names_split d)) (sym g) (subst (λ names. AreGroups names groups) n are);
  nexts = x ∙ (nexts ∙ ap (λ names. map (next_place names (length d.splits)) d.splits) n);
  begin = b ∙ (begins ∙ (ap (λ names. flat_map (splits_of_unit d names) units) n ∙ ap (flat_map (splits_of_unit d (names_split d))) us));
}

module _ (d : Design) (groups : List (List ℕ)) (next starts' : List ℕ) (ready : Ready d groups next starts') where
  pub starts-room : (x : ℕ) → Contains starts' x → x < length d.splits
  starts-room x c = starts-below d groups next ready.are ready.nexts x (subst (λ l. Contains l x) ready.begin c)

  pub goes-room : (x y : ℕ) → Contains (follow groups next x) y → y < length d.splits
  goes-room x y c = below d groups next ready.are ready.nexts x y c

  pub marks-of : (seen marks : List Bool) (queue longer : List ℕ) → Saw starts' (replicate (length d.splits) false) seen [] queue → IsExplored (follow groups next) seen marks queue longer → marks ≡ map (leads d) d.splits
  marks-of seen marks queue longer saw all =
      marks-are d groups next ready.are ready.nexts seen marks queue longer (subst (λ l. Saw l (replicate (length d.splits) false) seen [] queue) ready.begin saw) all
