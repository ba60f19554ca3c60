-- Values of the parameters that splits add, at which all guards of a leaf hold.
use Rattle.std.proofs.Common.{◌+◌, ◌-◌, ◌≤◌, List, ◌++◌, map, length, sym, subst, arith}
use Rattle.std.proofs.lemmas.List.{map-append}
use Rattle.smv_core.specs.Values.{Value, number, Sizes, values_of}
use Rattle.smv_core.specs.FlatMeaning.{Numbered, values_in, set_type}
use Rattle.smv_core.specs.declared.flat.Design.{Design}
use Rattle.smv_core.specs.declared.flat.Simple.{Simple}
use Rattle.smv_core.specs.declared.flat.Simple.TheVariants.{Range, Enum, Set}
use Rattle.smv_core.specs.declared.flat.Param.{Param}
use Rattle.law_obligations.specs.Sets.{Has, one_of_each}
use Rattle.law_obligations.specs.Guards.{AreGuards}
use Rattle.law_obligations.specs.Soundness.{at_sizes, AreSizes, params_of, values_over, HasValue}
use Rattle.law_obligations.proofs.Members.{Has-map, Has-from_map}
use Rattle.law_obligations.proofs.Spots.{Has-numbers}
use Rattle.law_obligations.proofs.OneOfEach.{are_of, one_of, are_joined, get_Has}
use Rattle.law_obligations.proofs.GuardsChosen.{guards_met}
use Rattle.law_obligations.specs.Outlines.{names_of, unit_in}
use Rattle.law_obligations.proofs.Plans.{set_value}
use Rattle.law_splits.specs.SplitLaws.{IsIndex, GuardsAreMet}
use Rattle.law_splits.proofs.Splits.{leaf_of_unit}

index_value : (d : Design) (sizes : Sizes) → AreSizes (names_of d) sizes → (t : Simple) → IsIndex d t → HasValue (at_sizes (names_of d) sizes) t
index_value d sizes each (Range low high) i = let l : low ≤ high = i.is_filled in (number low, Has-map number (Has-numbers low (high + 1 - low) low (omega arith) (omega (arith, l))))
index_value d sizes each (Enum list) i = elim (i.is_index_type) [ ]
index_value d sizes each (Set set) i =
    subst (λ o. (v : Value) × Has (values_of sizes (set_type o)) v) (sym i.is_filled.1) (set_value sizes i.is_filled.0.ordered i.is_filled.0.name (each i.is_filled.0 (get_Has d.sets set i.is_filled.0 i.is_filled.1)).0)

-- values of the first types, and then of the others
joined : (n : Numbered) (own added : List Simple) (values more : List Value) → Has (values_over n own) values → Has (values_over n added) more → Has (values_over n (own ++ added)) (values ++ more)
joined n own added values more h k = subst (λ xss. Has (one_of_each xss) (values ++ more)) (sym (map-append (values_in n) own added))
    (one_of (map (values_in n) own ++ map (values_in n) added) (values ++ more)
    (are_joined (map (values_in n) own) (map (values_in n) added) values more (are_of (map (values_in n) own) values h) (are_of (map (values_in n) added) more k)))

pub guards_are_met : GuardsAreMet
guards_are_met d read none sizes each unit leaf h s values k =
    let n : Numbered = at_sizes (names_of d) sizes in
    let r = leaf_of_unit d read none unit leaf h in
    let own = params_of (names_of d) (unit_in d unit) in
    let added = map (λ p. p.over) r.added in
    let guards : AreGuards (length own) (own ++ added) leaf.guards = subst (λ ts. AreGuards (length own) ts leaf.guards) r.are_types r.are_guards in
    let filled : (t : Simple) → Has added t → HasValue n t =
    λ t l. let q = Has-from_map (λ (p : Param). p.over) r.added l in subst (HasValue n) (sym q.2) (index_value d sizes each q.0.over (r.added_indexes q.0 q.1)) in
    let m = guards_met n own added leaf.guards guards filled s values k in
    (m.0, subst (λ ts. Has (values_over n ts) (values ++ m.0)) (sym r.are_types) (joined n own added values m.0 k m.1), m.2)
