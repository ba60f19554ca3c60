-- The first fault of set types stands at a place of the flattened text.
use Rattle.std.proofs.Common.{◌≡◌, ◌≤◌, ℕ, Bool, true, false, ◌&&◌, cond, List, [], ◌∷◌, ◌++◌, map, filter, zip, slice_get, nat_eq, Option, Some, None, IfSome, refl, arith}
use Rattle.std.specs.List.{AllByRecursion, flat_map, list_any}
use Rattle.law_lists.proofs.Each.{each_flat_map, each_filter, each_append}
use Rattle.smv_core.specs.declared.fault.Fault.{Fault}
use Rattle.smv_core.specs.declared.tree.Op.{Op}
use Rattle.smv_core.specs.declared.flat.Simple.{Simple}
use Rattle.smv_core.specs.declared.flat.SetInfo.{SetInfo}
use Rattle.smv_core.specs.declared.flat.Family.{Family}
use Rattle.smv_core.specs.declared.flat.FlatPair.{FlatPair}
use Rattle.smv_core.specs.declared.flat.FlatMember.{One, Span as SpanOf}
use Rattle.smv_core.specs.declared.flat.FlatExpr.{FlatExpr, Number, Read', Var, Loop, Constant, Not', And', Or', Implies', Iff', Compare', Within', Sum', Modulo', Choose', All', Any', List', Each', Held-FlatExpr-Each-2, None', Some', Row_of-FlatExpr, end_of-FlatExpr, more_of-FlatExpr, Row_of-FlatMember, end_of-FlatMember, more_of-FlatMember, Row_of-FlatSigned, end_of-FlatSigned, more_of-FlatSigned}
use Rattle.smv_core.specs.declared.flat.FlatStmt.{FlatStmt, Assign, If', Block', Default', Forall', Row_of-FlatStmt, end_of-FlatStmt, more_of-FlatStmt}
use Rattle.smv_core.specs.declared.flat.FlatItem.{FlatItem}
use Rattle.smv_core.specs.declared.flat.FlatItem.TheVariants as item
use Rattle.smv_core.specs.declared.flat.FlatText.{FlatText}
use Rattle.law_designs.specs.FlatKinds.{FlatKind, FlatVars, inside, value_in, bound_by, kind_of}
use Rattle.law_designs.specs.SetOperands.{first_at, first_at_of, SetOperand, is_number, is_of_set, number_fault, met, wanted, wanted_at, wanted_of, is_order, lacks_order, disordered}
use Rattle.law_designs.specs.SetFaults.{operand, operands, members_of, listed, faults_in, faults_each, faults_signed, faults_members, faults_held, faults_of, faults_of_each, item_faults, faults_of_sets, first_fault_of_sets}
use Rattle.law_designs.proofs.Faultless.{each-map}
use Rattle.law_fault_places.specs.FaultPlaces.{IsFaultOf}
use Rattle.law_fault_places.proofs.TreeLists.{zipped-all}
use Rattle.law_fault_places.proofs.Firsts.{first-one}
use Rattle.law_fault_places.specs.FlatPlaces.{FlatExprIsWithin, FlatRowIsWithin, FlatTermsAreWithin, FlatMembersAreWithin, FlatConditionIsWithin, FlatExprsAreWithin, FlatPairIsWithin, ActIsWithin, ActsAreWithin, FlatItemIsWithin, FlatTextIsWithin}
use Rattle.law_fault_places.specs.DesignFaultPlaces.{numbers_of_sets}

module _ (n : ℕ) where
  abbrev IsWithin : Fault → Type 0
  IsWithin f = IsFaultOf numbers_of_sets n f

  abbrev AreWithin : List Fault → Type 0
  AreWithin faults = AllByRecursion IsWithin faults

  both : (xs ys : List Fault) → AreWithin xs → AreWithin ys → AreWithin (xs ++ ys)
  both xs ys h g = each_append IsWithin xs ys h g

  -- ---- places of expressions

  mutual
    first-place : (e : FlatExpr) → FlatExprIsWithin n e → first_at e ≤ n
    first-place (Number value at) h = h
    first-place (Read' family shape indexes at) h = h.0
    first-place (Var var at) h = h
    first-place (Loop value at) h = h
    first-place (Constant list value at) h = h
    first-place (Not' shape (more_of-FlatExpr e end_of-FlatExpr) at) h = h.0
    first-place (And' shape parts) h = first-row parts h
    first-place (Or' shape parts) h = first-row parts h
    first-place (Implies' shape parts) h = first-row parts h
    first-place (Iff' l (more_of-FlatExpr left end_of-FlatExpr) r (more_of-FlatExpr right end_of-FlatExpr)) h = first-place left h.0
    first-place (Compare' op l (more_of-FlatExpr left end_of-FlatExpr) r (more_of-FlatExpr right end_of-FlatExpr)) h = first-place left h.0
    first-place (Within' l (more_of-FlatExpr left end_of-FlatExpr) r (more_of-FlatExpr set end_of-FlatExpr)) h = first-place left h.0
    first-place (Sum' f (more_of-FlatExpr head end_of-FlatExpr) shape more) h = first-place head h.0
    first-place (Modulo' shape (more_of-FlatExpr e end_of-FlatExpr) by at) h = first-place e h.1
    first-place (Choose' c (more_of-FlatExpr cond end_of-FlatExpr) l (more_of-FlatExpr left end_of-FlatExpr) r (more_of-FlatExpr right end_of-FlatExpr)) h = first-place cond h.0
    first-place (All' shape (more_of-FlatExpr body end_of-FlatExpr) var over at) h = h.0
    first-place (Any' shape (more_of-FlatExpr body end_of-FlatExpr) var over at) h = h.0
    first-place (List' shape members at) h = h.0
    first-place (Each' var over cond at) h = h.0

    first-row : {m : _} (row : Row_of-FlatExpr m) → FlatRowIsWithin n row → first_at_of row ≤ n
    first-row end_of-FlatExpr h = omega arith
    first-row (more_of-FlatExpr e others) h = first-place e h.0

  -- ---- operands

  abbrev OperandIsWithin : SetOperand → Type 0
  OperandIsWithin x = x.at ≤ n

  abbrev OperandsAreWithin : List SetOperand → Type 0
  OperandsAreWithin xs = AllByRecursion OperandIsWithin xs

  number-within : (x : SetOperand) → OperandIsWithin x → IsWithin (number_fault x)
  number-within x h = record { number = by x.is_loop; place = h }
    where
      by : (b : Bool) → list_any (nat_eq (cond b 22 21)) numbers_of_sets ≡ true
      by true = refl
      by false = refl

  met-within : (xs : List SetOperand) → OperandsAreWithin xs → AreWithin (met xs)
  met-within xs h = by (list_any (λ (x : SetOperand). is_of_set x.kind) xs)
    where
      by : (b : Bool) → AreWithin (cond b (map number_fault (filter (λ (x : SetOperand). is_number x.kind) xs)) [])
      by true = each-map OperandIsWithin IsWithin number_fault number-within (filter (λ (x : SetOperand). is_number x.kind) xs) (each_filter OperandIsWithin (λ (x : SetOperand). is_number x.kind) xs h)
      by false = tt

  wanted-within : (t : Simple) (x : SetOperand) → OperandIsWithin x → AreWithin (wanted t x)
  wanted-within t x h = by (is_of_set (Some (kind_of t)) && is_number x.kind)
    where
      by : (b : Bool) → AreWithin (cond b (number_fault x ∷ []) [])
      by true = (number-within x h, tt)
      by false = tt

  wanted_at-within : (o : Option Family) (xs : List SetOperand) → OperandsAreWithin xs → AreWithin (wanted_at o xs)
  wanted_at-within None xs h = tt
  wanted_at-within (Some f) xs h = each_flat_map (λ (p : Simple × SetOperand). OperandIsWithin p.1) IsWithin (λ (p : Simple × SetOperand). wanted p.0 p.1) (λ p own. wanted-within p.0 p.1 own) (zip f.over xs) (zipped-all OperandIsWithin f.over xs h)

  wanted_of-within : (o : Option Family) (x : SetOperand) → OperandIsWithin x → AreWithin (wanted_of o x)
  wanted_of-within None x h = tt
  wanted_of-within (Some f) x h = wanted-within f.value x h

  disordered-within : (sets : List SetInfo) (op : Op) (x : SetOperand) → OperandIsWithin x → AreWithin (disordered sets op x)
  disordered-within sets op x h = by (is_order op && lacks_order sets x.kind)
    where
      by : (b : Bool) → AreWithin (cond b (record { number = 21; at = x.at } ∷ []) [])
      by true = (record { number = refl; place = h }, tt)
      by false = tt

  module _ (flat_text : FlatText) (kind_at : FlatVars → FlatExpr → Option FlatKind) where
    operands-within : {m : _} (vars : FlatVars) (row : Row_of-FlatExpr m) → FlatRowIsWithin n row → OperandsAreWithin (operands flat_text kind_at vars row)
    operands-within vars end_of-FlatExpr h = tt
    operands-within vars (more_of-FlatExpr e others) h = (first-place e h.0, operands-within vars others h.1)

    members-within : {m : _} (vars : FlatVars) (row : Row_of-FlatMember m) → FlatMembersAreWithin n row → OperandsAreWithin (members_of flat_text kind_at vars row)
    members-within vars end_of-FlatMember h = tt
    members-within vars (more_of-FlatMember (One e) others) h = (first-place e h.0, members-within vars others h.1)
    members-within vars (more_of-FlatMember (SpanOf span at) others) h = (h.0, members-within vars others h.1)

    listed-within : (vars : FlatVars) (e : FlatExpr) → FlatExprIsWithin n e → OperandsAreWithin (listed flat_text kind_at vars e)
    listed-within vars (List' shape members at) h = members-within vars members h.1
    listed-within vars _ h = tt

    -- ---- expressions

    abbrev of : FlatVars → FlatExpr → List Fault
    of = faults_in flat_text kind_at

    mutual
      in-within : (vars : FlatVars) (e : FlatExpr) → FlatExprIsWithin n e → AreWithin (of vars e)
      in-within vars (Number value at) h = tt
      in-within vars (Read' family shape indexes at) h =
          both (faults_each flat_text kind_at vars indexes) (wanted_at (slice_get flat_text.families family) (operands flat_text kind_at vars indexes)) (each-within vars indexes h.1)
          (wanted_at-within (slice_get flat_text.families family) (operands flat_text kind_at vars indexes) (operands-within vars indexes h.1))
      in-within vars (Var var at) h = tt
      in-within vars (Loop value at) h = tt
      in-within vars (Constant list value at) h = tt
      in-within vars (Not' shape (more_of-FlatExpr e end_of-FlatExpr) at) h = in-within vars e h.1
      in-within vars (And' shape parts) h = each-within vars parts h
      in-within vars (Or' shape parts) h = each-within vars parts h
      in-within vars (Implies' shape parts) h = each-within vars parts h
      in-within vars (Iff' l (more_of-FlatExpr left end_of-FlatExpr) r (more_of-FlatExpr right end_of-FlatExpr)) h = both (of vars left) (of vars right) (in-within vars left h.0) (in-within vars right h.1)
      in-within vars (Compare' op l (more_of-FlatExpr left end_of-FlatExpr) r (more_of-FlatExpr right end_of-FlatExpr)) h =
          let x = operand flat_text kind_at vars left in
          let y = operand flat_text kind_at vars right in
          let xh : OperandIsWithin x = first-place left h.0 in
          let yh : OperandIsWithin y = first-place right h.1 in
          both ((of vars left) ++ (of vars right) ++ (met (x ∷ y ∷ [])) ++ (disordered flat_text.sets op x)) (disordered flat_text.sets op y)
          (both ((of vars left) ++ (of vars right) ++ (met (x ∷ y ∷ []))) (disordered flat_text.sets op x)
          (both ((of vars left) ++ (of vars right)) (met (x ∷ y ∷ []))
          (both (of vars left) (of vars right) (in-within vars left h.0) (in-within vars right h.1)) (met-within (x ∷ y ∷ []) (xh, (yh, tt)))) (disordered-within flat_text.sets op x xh)) (disordered-within flat_text.sets op y yh)
      in-within vars (Within' l (more_of-FlatExpr left end_of-FlatExpr) r (more_of-FlatExpr set end_of-FlatExpr)) h =
          both ((of vars left) ++ (of vars set)) (met (operand flat_text kind_at vars left ∷ listed flat_text kind_at vars set)) (both (of vars left) (of vars set) (in-within vars left h.0) (in-within vars set h.1)) (met-within (operand flat_text kind_at vars left ∷ listed flat_text kind_at vars set) (first-place left h.0, listed-within vars set h.1))
      in-within vars (Sum' f (more_of-FlatExpr head end_of-FlatExpr) shape more) h = both (of vars head) (faults_signed flat_text kind_at vars more) (in-within vars head h.0) (signed-within vars more h.1)
      in-within vars (Modulo' shape (more_of-FlatExpr e end_of-FlatExpr) by at) h = in-within vars e h.1
      in-within vars (Choose' c (more_of-FlatExpr cond end_of-FlatExpr) l (more_of-FlatExpr left end_of-FlatExpr) r (more_of-FlatExpr right end_of-FlatExpr)) h =
          let x = operand flat_text kind_at vars left in
          let y = operand flat_text kind_at vars right in
          both ((of vars cond) ++ (of vars left) ++ (of vars right)) (met (x ∷ y ∷ [])) (both ((of vars cond) ++ (of vars left)) (of vars right) (both (of vars cond) (of vars left) (in-within vars cond h.0) (in-within vars left h.1)) (in-within vars right h.2)) (met-within (x ∷ y ∷ []) (first-place left h.1, (first-place right h.2, tt)))
      in-within vars (All' shape (more_of-FlatExpr body end_of-FlatExpr) var over at) h = in-within (inside vars over) body h.1
      in-within vars (Any' shape (more_of-FlatExpr body end_of-FlatExpr) var over at) h = in-within (inside vars over) body h.1
      in-within vars (List' shape members at) h =
          both (faults_members flat_text kind_at vars members) (met (members_of flat_text kind_at vars members)) (faults_members-within vars members h.1) (met-within (members_of flat_text kind_at vars members) (members-within vars members h.1))
      in-within vars (Each' var over cond at) h = held-within (inside vars over) cond h.1

      each-within : {m : _} (vars : FlatVars) (row : Row_of-FlatExpr m) → FlatRowIsWithin n row → AreWithin (faults_each flat_text kind_at vars row)
      each-within vars end_of-FlatExpr h = tt
      each-within vars (more_of-FlatExpr e others) h = both (of vars e) (faults_each flat_text kind_at vars others) (in-within vars e h.0) (each-within vars others h.1)

      signed-within : {m : _} (vars : FlatVars) (row : Row_of-FlatSigned m) → FlatTermsAreWithin n row → AreWithin (faults_signed flat_text kind_at vars row)
      signed-within vars end_of-FlatSigned h = tt
      signed-within vars (more_of-FlatSigned minus e others) h = both (of vars e) (faults_signed flat_text kind_at vars others) (in-within vars e h.0) (signed-within vars others h.1)

      faults_members-within : {m : _} (vars : FlatVars) (row : Row_of-FlatMember m) → FlatMembersAreWithin n row → AreWithin (faults_members flat_text kind_at vars row)
      faults_members-within vars end_of-FlatMember h = tt
      faults_members-within vars (more_of-FlatMember (One e) others) h = both (of vars e) (faults_members flat_text kind_at vars others) (in-within vars e h.0) (faults_members-within vars others h.1)
      faults_members-within vars (more_of-FlatMember (SpanOf span at) others) h = faults_members-within vars others h.1

      held-within : (vars : FlatVars) (cond : Held-FlatExpr-Each-2) → FlatConditionIsWithin n cond → AreWithin (faults_held flat_text kind_at vars cond)
      held-within vars None' h = tt
      held-within vars (Some' shape (more_of-FlatExpr cond end_of-FlatExpr)) h = in-within vars cond h

    -- ---- statements

    left-within : (vars : FlatVars) (es : List FlatExpr) → FlatExprsAreWithin n es → OperandsAreWithin (map (operand flat_text kind_at vars) es)
    left-within vars es h = each-map (FlatExprIsWithin n) OperandIsWithin (operand flat_text kind_at vars) first-place es h

    mutual
      of-within : (vars : FlatVars) (act : FlatStmt) → ActIsWithin n act → AreWithin (faults_of flat_text kind_at vars act)
      of-within vars (Assign kind family left value at) h =
          let f = slice_get flat_text.families family in
          both ((flat_map (of vars) left) ++ (wanted_at f (map (operand flat_text kind_at vars) left)) ++ (of vars value)) (wanted_of f (operand flat_text kind_at vars value))
          (both ((flat_map (of vars) left) ++ (wanted_at f (map (operand flat_text kind_at vars) left))) (of vars value)
          (both (flat_map (of vars) left) (wanted_at f (map (operand flat_text kind_at vars) left)) (each_flat_map (FlatExprIsWithin n) IsWithin (of vars) (in-within vars) left h.1) (wanted_at-within f (map (operand flat_text kind_at vars) left) (left-within vars left h.1))) (in-within vars value h.2)) (wanted_of-within f (operand flat_text kind_at vars value) (first-place value h.2))
      of-within vars (If' cond l (more_of-FlatStmt left end_of-FlatStmt) r (more_of-FlatStmt right end_of-FlatStmt)) h =
          both ((of vars cond) ++ (faults_of flat_text kind_at vars left)) (faults_of flat_text kind_at vars right) (both (of vars cond) (faults_of flat_text kind_at vars left) (in-within vars cond h.0) (of-within vars left h.1)) (of-within vars right h.2)
      of-within vars (Block' shape parts) h = of_each-within vars parts h
      of-within vars (Default' l (more_of-FlatStmt left end_of-FlatStmt) r (more_of-FlatStmt right end_of-FlatStmt)) h =
          both (faults_of flat_text kind_at vars left) (faults_of flat_text kind_at vars right) (of-within vars left h.0) (of-within vars right h.1)
      of-within vars (Forall' var over shape (more_of-FlatStmt body end_of-FlatStmt)) h = of-within (inside vars over) body h

      of_each-within : {m : _} (vars : FlatVars) (row : Row_of-FlatStmt m) → ActsAreWithin n row → AreWithin (faults_of_each flat_text kind_at vars row)
      of_each-within vars end_of-FlatStmt h = tt
      of_each-within vars (more_of-FlatStmt part rest) h = both (faults_of flat_text kind_at vars part) (faults_of_each flat_text kind_at vars rest) (of-within vars part h.0) (of_each-within vars rest h.1)

    -- ---- items

    item-within : (x : FlatItem) → FlatItemIsWithin n x → AreWithin (item_faults flat_text kind_at x)
    item-within (item.Act layer act) h = of-within [] act h
    item-within (item.Claim c) h = in-within (bound_by flat_text c.params) c.body h.1
    item-within (item.Split s) h = each_flat_map (FlatPairIsWithin n) IsWithin (λ (pair : FlatPair). of (bound_by flat_text s.bound) pair.left) (λ pair own. in-within (bound_by flat_text s.bound) pair.left own.0) s.pairs h.2
    item-within (item.Using u) h = tt

  pub first-within : (flat_text : FlatText) → FlatTextIsWithin n flat_text → IfSome (first_fault_of_sets flat_text) (IsFaultOf numbers_of_sets n)
  first-within flat_text h =
      first-one (IsFaultOf numbers_of_sets n) (faults_of_sets flat_text) (each_flat_map (FlatItemIsWithin n) IsWithin (item_faults flat_text (value_in flat_text)) (item-within flat_text (value_in flat_text)) flat_text.items h)
