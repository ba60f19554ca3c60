-- A unit holds where its leaf does.
use Rattle.std.proofs.Common.{◌≡◌, List, [], ◌∷◌, ◌++◌, map, take, length, get_or, Bool, true, false, not, ◌||◌, refl, subst, ◌∙◌, Option, Some, None}
use Rattle.std.proofs.lemmas.List.{map-append, length-map, take_at}
use Rattle.smv_core.specs.Values.{Value, number, Sizes}
use Rattle.smv_core.specs.FlatMeaning.{Numbered, FlatState, values_in}
use Rattle.smv_core.specs.declared.flat.Simple.{Simple}
use Rattle.smv_core.specs.declared.flat.Design.{Design}
use Rattle.smv_core.specs.declared.flat.Guard.{Guard}
use Rattle.smv_core.specs.declared.flat.Leaf.{Leaf}
use Rattle.smv_core.specs.declared.flat.Unit.{Unit}
use Rattle.law_obligations.specs.Sets.{Has}
use Rattle.law_obligations.specs.Guards.{guard_holds}
use Rattle.law_obligations.specs.Circular.{always}
use Rattle.law_obligations.specs.Soundness.{FlatUnit, at_sizes, AreSizes, params_of, values_over, is_held}
use Rattle.law_obligations.specs.Outlines.{names_of, unit_in}
use Rattle.law_lists.proofs.Booleans.{either_right, and_both, left_of, right_of}
use Rattle.law_obligations.proofs.Members.{all-holds}
use Rattle.law_obligations.proofs.OneOfEach.{AreOf, are_of, one_of, are_long}
use Rattle.law_splits.proofs.Splits.{leaf_of_unit}
use Rattle.law_splits.proofs.ValuesMet.{guards_are_met}
use Rattle.law_units.specs.LeafInstances.{types_of, all_hold, is_leaf_held, IsLeafIn, HeldByLeaves, HoldsByLeaf, LeavesHold}

-- what is said where something holds is so where it does
where_met : (a b : Bool) → a ≡ true → (not a || b) ≡ true → b ≡ true
where_met true b e h = h
where_met false b e h = absurd (cc)

as_many : (n : Numbered) (types : List Simple) (values : List Value) → Has (values_over n types) values → length values ≡ length types
as_many n types values h = are_long (map (values_in n) types) values (are_of (map (values_in n) types) values h) ∙ length-map types (values_in n)

-- ---- at a time

pub held_by_leaves : HeldByLeaves
held_by_leaves d unit leaf pair sizes each before now values h held =
    let n : Numbered = at_sizes (names_of d) sizes in
    let m = guards_are_met d pair.is_read pair.no_fault sizes each unit leaf pair.are_paired now values h in
    let all : all_hold n leaf.guards (values ++ m.0) now ≡ true = all-holds (λ (g : Guard). guard_holds n now g.over g.expr (values ++ m.0) (get_or (values ++ m.0) g.var (number 0))) leaf.guards m.2 in
    let here = where_met (all_hold n leaf.guards (values ++ m.0) now) (is_held n (unit_in d unit) (take (length (params_of n (unit_in d unit))) (values ++ m.0)) before now) all (held m.0 m.1) in
    subst (λ own. is_held n (unit_in d unit) own before now ≡ true) (take_at values m.0 (length (params_of n (unit_in d unit))) (as_many n (params_of n (unit_in d unit)) values h)) here

-- ---- always

module _ (d : Design) (unit : Unit) (leaf : Leaf) (pair : IsLeafIn d unit leaf) (sizes : Sizes) (each : AreSizes (names_of d) sizes) where
  abbrev n : Numbered
  n = at_sizes (names_of d) sizes

  abbrev u : FlatUnit
  u = unit_in d unit

  always_by : (values : List Value) → Has (values_over n (params_of n u)) values → (old : Option FlatState) (run : List FlatState) →
      ((more : List Value) → Has (values_over n (types_of leaf)) (values ++ more) → always (is_leaf_held n u leaf (values ++ more)) old run ≡ true) → always (is_held n u values) old run ≡ true
  always_by values h old [] held = refl
  always_by values h old (s ∷ run) held = and_both
      (held_by_leaves d unit leaf pair sizes each old s values h (λ more k. left_of (is_leaf_held n u leaf (values ++ more) old s) (always (is_leaf_held n u leaf (values ++ more)) (Some s) run) (held more k)))
      (always_by values h (Some s) run (λ more k. right_of (is_leaf_held n u leaf (values ++ more) old s) (always (is_leaf_held n u leaf (values ++ more)) (Some s) run) (held more k)))

pub holds_by_leaf : HoldsByLeaf
holds_by_leaf d unit leaf pair held sizes each run is_run values h = always_by d unit leaf pair sizes each values h None run (λ more k. held sizes each run is_run (values ++ more) k)

-- ---- and back

-- the first of the values are those of the first types
first_of : {X : Type 0} (xss yss : List (List X)) (zs : List X) → AreOf (xss ++ yss) zs → AreOf xss (take (length xss) zs)
first_of [] yss [] h = tt
first_of [] yss (z ∷ zs) h = tt
first_of (xs ∷ xss) yss [] h = elim h [ ]
first_of (xs ∷ xss) yss (z ∷ zs) h = (h.0, first_of xss yss zs h.1)

own_values : (n : Numbered) (own added : List Simple) (values : List Value) → Has (values_over n (own ++ added)) values → Has (values_over n own) (take (length own) values)
own_values n own added values h =
    subst (λ k. Has (values_over n own) (take k values)) (length-map own (values_in n))
    (one_of (map (values_in n) own) (take (length (map (values_in n) own)) values)
    (first_of (map (values_in n) own) (map (values_in n) added) values
    (subst (λ xss. AreOf xss values) (map-append (values_in n) own added) (are_of (map (values_in n) (own ++ added)) values h))))

weaker : (n : Numbered) (unit : FlatUnit) (leaf : Leaf) (values : List Value) (old : Option FlatState) (run : List FlatState) →
    always (is_held n unit (take (length (params_of n unit)) values)) old run ≡ true → always (is_leaf_held n unit leaf values) old run ≡ true
weaker n unit leaf values old [] held = refl
weaker n unit leaf values old (s ∷ run) held =
    let own = take (length (params_of n unit)) values in
    and_both (either_right (not (all_hold n leaf.guards values s)) (left_of (is_held n unit own old s) (always (is_held n unit own) (Some s) run) held))
    (weaker n unit leaf values (Some s) run (right_of (is_held n unit own old s) (always (is_held n unit own) (Some s) run) held))

pub leaves_hold : LeavesHold
leaves_hold d unit leaf pair held sizes each run is_run values h =
    let n : Numbered = at_sizes (names_of d) sizes in
    let r = leaf_of_unit d pair.is_read pair.no_fault unit leaf pair.are_paired in
    let own = params_of n (unit_in d unit) in
    weaker n (unit_in d unit) leaf values None run
    (held sizes each run is_run (take (length own) values) (own_values n own (map (λ p. p.over) r.added) values (subst (λ ts. Has (values_over n ts) values) r.are_types h)))
