-- What the rules of kinds say of splits, claims and families, as the laws of leaves ask for it.
use Rattle.std.proofs.Common.{◌≡◌, ◌≤◌, ℕ, suc, List, [], ◌∷◌, length, slice_get, Option, Some, None, is_some, Bool, true, ◌&&◌, nat_le, nat_lt, nat_eq, subst, refl, arith}
use Rattle.std.specs.Prelude.{IfSome}
use Rattle.std.specs.List.{list_all}
use Rattle.std.proofs.lemmas.List.{length-map}
use Rattle.std.proofs.lemmas.Bool.{and_parts}
use Rattle.law_lists.proofs.Places.{get_within, get_there}
use Rattle.law_lists.proofs.Numbers.{nat_eq-is, nat_le-is, nat_lt-is}
use Rattle.smv_core.specs.Values.{Name}
use Rattle.smv_core.specs.declared.flat.Simple.{Simple}
use Rattle.smv_core.specs.declared.flat.Simple.TheVariants.{Range, Enum, Set}
use Rattle.smv_core.specs.declared.flat.SetInfo.{SetInfo}
use Rattle.smv_core.specs.declared.flat.Family.{Family}
use Rattle.smv_core.specs.declared.flat.Claim.{Claim}
use Rattle.smv_core.specs.declared.flat.Param.{Param}
use Rattle.smv_core.specs.declared.flat.FlatSplit.{FlatSplit}
use Rattle.smv_core.specs.declared.flat.FlatPair.{FlatPair}
use Rattle.smv_core.specs.declared.flat.FlatItem.{FlatItem}
use Rattle.smv_core.specs.declared.flat.FlatItem.TheVariants as item
use Rattle.smv_core.specs.declared.flat.FlatMember.{One, Span as SpanOf}
use Rattle.smv_core.specs.declared.flat.FlatExpr.{FlatExpr, Number, Read', Var, Loop, Constant, Not', And', Or', Implies', Iff', Compare', Within', Sum', Modulo', Choose', All', Any', List', Each', Row_of-FlatExpr, end_of-FlatExpr, more_of-FlatExpr, Row_of-FlatMember, end_of-FlatMember, more_of-FlatMember, Row_of-FlatSigned, end_of-FlatSigned, more_of-FlatSigned}
use Rattle.smv_core.specs.declared.flat.FlatText.{FlatText}
use Rattle.law_designs.specs.Definitions.{splits_of, design_of_flat_text}
use Rattle.law_designs.specs.WholeText.{claims_of}
use Rattle.law_designs.specs.FlatKinds.{number, kind_of, takes, are_numbers, number_if, common, take_each, FlatVars, inside, bound_by, are_binders, kind_in, kinds_in, summands, members_in, looked_through, is_binder, is_type, is_index_type, is_size, is_kinded_item, is_kinded_family, is_kinded}
use Rattle.law_designs.proofs.Operands.{all-some, takes-some, numbers-some, each-some, common-some, number_if-true, compares-some, two-some, chosen-some, element-some}
use Rattle.law_obligations.specs.Sets.{Has, first, later}
use Rattle.law_splits.specs.Variables.{IsNumbered, AreNumbered, AreSignedNumbered, AreMembersNumbered}
use Rattle.law_splits.specs.SplitLaws.{IsIndex, IsRead}
use Rattle.law_obligations.specs.Scripts.{HaveValues}

length-inside : (vars : FlatVars) (over : Simple) → length (inside vars over) ≡ suc (length vars)
length-inside [] over = refl
length-inside (v ∷ vars) over = let e = length-inside vars over in omega arith

each-holds : {X : Type 0} (p : X → Bool) (xs : List X) → list_all p xs ≡ true → (x : X) → Has xs x → p x ≡ true
each-holds p [] h x i = elim i [ ]
each-holds p (y ∷ xs) h _ first = (and_parts (p y) (list_all p xs) h).0
each-holds p (y ∷ xs) h x (later i) = each-holds p xs (and_parts (p y) (list_all p xs) h).1 x i

module _ (flat_text : FlatText) where
  binder-number : (vars : FlatVars) (var : ℕ) (over : Simple) → is_binder flat_text vars var over ≡ true → var ≡ length vars
  binder-number vars var over h = nat_eq-is var (length vars) (and_parts (nat_eq var (length vars)) (is_index_type flat_text over) h).0

  -- ---- expressions

  mutual
    pub expr-numbered : (vars : FlatVars) (e : FlatExpr) → is_some (kind_in flat_text vars e) ≡ true → IsNumbered (length vars) e
    expr-numbered vars (Number value at) h = tt
    expr-numbered vars (Read' family shape indexes at) h =
        let g : (f : Family) × (slice_get flat_text.families family ≡ Some f) × (take_each f.over (kinds_in flat_text vars indexes) ≡ true) = element-some (slice_get flat_text.families family) (kinds_in flat_text vars indexes) h in
        row-numbered vars indexes (each-some g.0.over (kinds_in flat_text vars indexes) g.2)
    expr-numbered vars (Var var at) h = get_within vars var h
    expr-numbered vars (Loop value at) h = tt
    expr-numbered vars (Constant list value at) h = tt
    expr-numbered vars (Not' shape (more_of-FlatExpr e end_of-FlatExpr) at) h = expr-numbered vars e (takes-some number (kind_in flat_text vars e) (number_if-true _ h))
    expr-numbered vars (And' shape parts) h = row-numbered vars parts (numbers-some (kinds_in flat_text vars parts) (number_if-true (are_numbers (kinds_in flat_text vars parts)) h))
    expr-numbered vars (Or' shape parts) h = row-numbered vars parts (numbers-some (kinds_in flat_text vars parts) (number_if-true (are_numbers (kinds_in flat_text vars parts)) h))
    expr-numbered vars (Implies' shape parts) h = row-numbered vars parts (numbers-some (kinds_in flat_text vars parts) (number_if-true (are_numbers (kinds_in flat_text vars parts)) h))
    expr-numbered vars (Iff' l (more_of-FlatExpr left end_of-FlatExpr) r (more_of-FlatExpr right end_of-FlatExpr)) h =
        let g : (is_some (kind_in flat_text vars left) ≡ true) × (is_some (kind_in flat_text vars right) ≡ true) =
        two-some (kind_in flat_text vars left) (kind_in flat_text vars right) (numbers-some (kind_in flat_text vars left ∷ kind_in flat_text vars right ∷ []) (number_if-true _ h)) in
        (expr-numbered vars left g.0, expr-numbered vars right g.1)
    expr-numbered vars (Compare' op l (more_of-FlatExpr left end_of-FlatExpr) r (more_of-FlatExpr right end_of-FlatExpr)) h =
        let g : (is_some (kind_in flat_text vars left) ≡ true) × (is_some (kind_in flat_text vars right) ≡ true) =
        two-some (kind_in flat_text vars left) (kind_in flat_text vars right) (common-some (kind_in flat_text vars left ∷ kind_in flat_text vars right ∷ []) (compares-some op (common (kind_in flat_text vars left ∷ kind_in flat_text vars right ∷ [])) (number_if-true _ h))) in
        (expr-numbered vars left g.0, expr-numbered vars right g.1)
    expr-numbered vars (Within' l (more_of-FlatExpr left end_of-FlatExpr) r (more_of-FlatExpr set end_of-FlatExpr)) h =
        let g : (is_some (kind_in flat_text vars left) ≡ true) × (all-some (looked_through flat_text vars set) ≡ true) =
        and_parts _ _ (common-some (kind_in flat_text vars left ∷ looked_through flat_text vars set) (number_if-true _ h)) in
        (expr-numbered vars left g.0, set-numbered vars set g.1)
    expr-numbered vars (Sum' f (more_of-FlatExpr head end_of-FlatExpr) shape more) h =
        let g : (is_some (kind_in flat_text vars head) ≡ true) × (all-some (summands flat_text vars more) ≡ true) =
        and_parts _ _ (numbers-some (kind_in flat_text vars head ∷ summands flat_text vars more) (number_if-true _ h)) in
        (expr-numbered vars head g.0, signed-numbered vars more g.1)
    expr-numbered vars (Modulo' shape (more_of-FlatExpr e end_of-FlatExpr) by at) h =
        expr-numbered vars e (takes-some number (kind_in flat_text vars e) (and_parts (takes number (kind_in flat_text vars e)) (nat_lt 0 by) (number_if-true _ h)).0)
    expr-numbered vars (Choose' c (more_of-FlatExpr cond end_of-FlatExpr) l (more_of-FlatExpr left end_of-FlatExpr) r (more_of-FlatExpr right end_of-FlatExpr)) h =
        let g : (is_some (kind_in flat_text vars cond) ≡ true) × (is_some (kind_in flat_text vars left) ≡ true) × (is_some (kind_in flat_text vars right) ≡ true) =
        chosen-some (kind_in flat_text vars cond) (kind_in flat_text vars left) (kind_in flat_text vars right) h in
        (expr-numbered vars cond g.0, expr-numbered vars left g.1, expr-numbered vars right g.2)
    expr-numbered vars (All' shape (more_of-FlatExpr body end_of-FlatExpr) var over at) h =
        let g : (is_binder flat_text vars var over ≡ true) × (takes number (kind_in flat_text (inside vars over) body) ≡ true) = and_parts (is_binder flat_text vars var over) (takes number (kind_in flat_text (inside vars over) body)) (number_if-true _ h) in
        (binder-number vars var over g.0, subst (λ (n : ℕ). IsNumbered n body) (length-inside vars over) (expr-numbered (inside vars over) body (takes-some number (kind_in flat_text (inside vars over) body) g.1)))
    expr-numbered vars (Any' shape (more_of-FlatExpr body end_of-FlatExpr) var over at) h =
        let g : (is_binder flat_text vars var over ≡ true) × (takes number (kind_in flat_text (inside vars over) body) ≡ true) = and_parts (is_binder flat_text vars var over) (takes number (kind_in flat_text (inside vars over) body)) (number_if-true _ h) in
        (binder-number vars var over g.0, subst (λ (n : ℕ). IsNumbered n body) (length-inside vars over) (expr-numbered (inside vars over) body (takes-some number (kind_in flat_text (inside vars over) body) g.1)))
    expr-numbered vars (List' shape members at) h = absurd (cc (h))
    expr-numbered vars (Each' var over cond at) h = absurd (cc (h))

    row-numbered : {m : _} (vars : FlatVars) (row : Row_of-FlatExpr m) → all-some (kinds_in flat_text vars row) ≡ true → AreNumbered (length vars) row
    row-numbered vars end_of-FlatExpr h = tt
    row-numbered vars (more_of-FlatExpr e rest) h =
        let g : (is_some (kind_in flat_text vars e) ≡ true) × (all-some (kinds_in flat_text vars rest) ≡ true) = and_parts _ _ h in
        (expr-numbered vars e g.0, row-numbered vars rest g.1)

    signed-numbered : {m : _} (vars : FlatVars) (row : Row_of-FlatSigned m) → all-some (summands flat_text vars row) ≡ true → AreSignedNumbered (length vars) row
    signed-numbered vars end_of-FlatSigned h = tt
    signed-numbered vars (more_of-FlatSigned minus e rest) h =
        let g : (is_some (kind_in flat_text vars e) ≡ true) × (all-some (summands flat_text vars rest) ≡ true) = and_parts _ _ h in
        (expr-numbered vars e g.0, signed-numbered vars rest g.1)

    members-numbered : {m : _} (vars : FlatVars) (row : Row_of-FlatMember m) → all-some (members_in flat_text vars row) ≡ true → AreMembersNumbered (length vars) row
    members-numbered vars end_of-FlatMember h = tt
    members-numbered vars (more_of-FlatMember (One e) rest) h =
        let g : (is_some (kind_in flat_text vars e) ≡ true) × (all-some (members_in flat_text vars rest) ≡ true) = and_parts _ _ h in
        (expr-numbered vars e g.0, members-numbered vars rest g.1)
    members-numbered vars (more_of-FlatMember (SpanOf span at) rest) h =
        members-numbered vars rest (and_parts (is_some (number_if (nat_le span.low span.high))) (all-some (members_in flat_text vars rest)) h).1

    set-numbered : (vars : FlatVars) (e : FlatExpr) → all-some (looked_through flat_text vars e) ≡ true → IsNumbered (length vars) e
    set-numbered vars (List' shape members at) h = members-numbered vars members h
    set-numbered vars _ h = absurd (cc (h))

  -- ---- types

  index-type : (t : Simple) → is_index_type flat_text t ≡ true → IsIndex (design_of_flat_text flat_text) t
  index-type (Range low high) h = record { is_index_type = tt; is_filled = nat_le-is low high (and_parts (nat_le low high) (nat_le high 255) h).0 }
  index-type (Enum list) h = absurd (cc (h))
  index-type (Set set) h = record { is_index_type = tt; is_filled = get_there flat_text.sets set (nat_lt-is set (length flat_text.sets) h) }

  binders-index : (vars : FlatVars) (params : List Param) → are_binders flat_text vars params ≡ true → (p : Param) → Has params p → IsIndex (design_of_flat_text flat_text) p.over
  binders-index vars [] h p i = elim i [ ]
  binders-index vars (q ∷ params) h _ first = index-type q.over (and_parts (nat_eq q.var (length vars)) (is_index_type flat_text q.over) (and_parts (is_binder flat_text vars q.var q.over) (are_binders flat_text (inside vars q.over) params) h).0).1
  binders-index vars (q ∷ params) h p (later i) = binders-index (inside vars q.over) params (and_parts (is_binder flat_text vars q.var q.over) (are_binders flat_text (inside vars q.over) params) h).1 p i

  -- ---- items

  claim-item : (items : List FlatItem) → list_all (is_kinded_item flat_text) items ≡ true → (c : Claim) → Has (claims_of items) c → are_binders flat_text [] c.params ≡ true
  claim-item [] h c i = elim i [ ]
  claim-item (item.Act layer act ∷ items) h c i = claim-item items (and_parts (is_kinded_item flat_text (item.Act layer act)) (list_all (is_kinded_item flat_text) items) h).1 c i
  claim-item (item.Claim d ∷ items) h _ first = (and_parts (are_binders flat_text [] d.params) (takes number (kind_in flat_text (bound_by flat_text d.params) d.body)) (and_parts (is_kinded_item flat_text (item.Claim d)) (list_all (is_kinded_item flat_text) items) h).0).0
  claim-item (item.Claim d ∷ items) h c (later i) = claim-item items (and_parts (is_kinded_item flat_text (item.Claim d)) (list_all (is_kinded_item flat_text) items) h).1 c i
  claim-item (item.Split d ∷ items) h c i = claim-item items (and_parts (is_kinded_item flat_text (item.Split d)) (list_all (is_kinded_item flat_text) items) h).1 c i
  claim-item (item.Using d ∷ items) h c i = claim-item items (and_parts (is_kinded_item flat_text (item.Using d)) (list_all (is_kinded_item flat_text) items) h).1 c i

  split-item : (items : List FlatItem) → list_all (is_kinded_item flat_text) items ≡ true → (s : FlatSplit) → Has (splits_of items) s →
      (are_binders flat_text [] s.bound ≡ true) × (list_all (λ (pair : FlatPair). is_some (kind_in flat_text (bound_by flat_text s.bound) pair.left)) s.pairs ≡ true)
  split-item [] h s i = elim i [ ]
  split-item (item.Act layer act ∷ items) h s i = split-item items (and_parts (is_kinded_item flat_text (item.Act layer act)) (list_all (is_kinded_item flat_text) items) h).1 s i
  split-item (item.Claim d ∷ items) h s i = split-item items (and_parts (is_kinded_item flat_text (item.Claim d)) (list_all (is_kinded_item flat_text) items) h).1 s i
  split-item (item.Split d ∷ items) h _ first = and_parts (are_binders flat_text [] d.bound) (list_all (λ (pair : FlatPair). is_some (kind_in flat_text (bound_by flat_text d.bound) pair.left)) d.pairs) (and_parts (is_kinded_item flat_text (item.Split d)) (list_all (is_kinded_item flat_text) items) h).0
  split-item (item.Split d ∷ items) h s (later i) = split-item items (and_parts (is_kinded_item flat_text (item.Split d)) (list_all (is_kinded_item flat_text) items) h).1 s i
  split-item (item.Using d ∷ items) h s i = split-item items (and_parts (is_kinded_item flat_text (item.Using d)) (list_all (is_kinded_item flat_text) items) h).1 s i

  sizes-kept : is_kinded flat_text ≡ true → list_all (λ (info : SetInfo). is_size info.size) flat_text.sets ≡ true
  sizes-kept e = (and_parts (list_all (λ (info : SetInfo). is_size info.size) flat_text.sets) (list_all (λ (names : List Name). nat_lt 0 (length names)) flat_text.enums && (list_all (is_kinded_family flat_text) flat_text.families && list_all (is_kinded_item flat_text) flat_text.items)) e).0

  rest-kept : is_kinded flat_text ≡ true → (list_all (is_kinded_family flat_text) flat_text.families ≡ true) × (list_all (is_kinded_item flat_text) flat_text.items ≡ true)
  rest-kept e =
      and_parts (list_all (is_kinded_family flat_text) flat_text.families) (list_all (is_kinded_item flat_text) flat_text.items)
      (and_parts (list_all (λ (names : List Name). nat_lt 0 (length names)) flat_text.enums) (list_all (is_kinded_family flat_text) flat_text.families && list_all (is_kinded_item flat_text) flat_text.items)
      (and_parts (list_all (λ (info : SetInfo). is_size info.size) flat_text.sets) (list_all (λ (names : List Name). nat_lt 0 (length names)) flat_text.enums && (list_all (is_kinded_family flat_text) flat_text.families && list_all (is_kinded_item flat_text) flat_text.items)) e).1).1

  size-some : (size : Option ℕ) → is_size size ≡ true → IfSome size (λ n. 1 ≤ n)
  size-some None e = tt
  size-some (Some n) e = let lt = nat_lt-is 0 n (and_parts (nat_lt 0 n) (nat_le n 256) e).0 in omega arith

  pub have-values : is_kinded flat_text ≡ true → HaveValues (design_of_flat_text flat_text)
  have-values e info i = size-some info.size (each-holds (λ (info : SetInfo). is_size info.size) flat_text.sets (sizes-kept e) info i)

  pub is-read : is_kinded flat_text ≡ true → IsRead (design_of_flat_text flat_text)
  is-read e = record {
    families = λ f i t j. index-type t (each-holds (is_index_type flat_text) f.over (and_parts (list_all (is_index_type flat_text) f.over) (is_type flat_text f.value) (each-holds (is_kinded_family flat_text) flat_text.families (rest-kept e).0 f i)).0 t j);
    claims = λ c i p j. binders-index [] c.params (claim-item flat_text.items (rest-kept e).1 c i) p j;
    bound = λ s i p j. binders-index [] s.bound (split-item flat_text.items (rest-kept e).1 s i).0 p j;
    numbered = λ s i pair j. subst (λ (n : ℕ). IsNumbered n pair.left) (length-map s.bound (λ (p : Param). kind_of p.over))
        (expr-numbered (bound_by flat_text s.bound) pair.left (each-holds (λ (pair : FlatPair). is_some (kind_in flat_text (bound_by flat_text s.bound) pair.left)) s.pairs (split-item flat_text.items (rest-kept e).1 s i).1 pair j));
  }
