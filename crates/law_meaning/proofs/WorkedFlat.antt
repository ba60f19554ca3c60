-- Designs that were flattened by hand: what their definitions allow. The answers are those of the same text on the tree.
use Rattle.std.proofs.Common.{◌≡◌, ℕ, List, [], ◌∷◌, refl, Some, None, false, zero, suc}
use Rattle.smv_core.specs.Values.{Name, Value, number, constant}
use Rattle.smv_core.specs.FlatMeaning.{Numbered, FlatState, FlatElement, flat_outcome, flat_walk, flat_allowed}
use Rattle.smv_core.specs.declared.tree.Kind.TheVariants.{Comb}
use Rattle.smv_core.specs.declared.tree.Op.TheVariants.{Equal}
use Rattle.smv_core.specs.declared.flat.Simple.{Simple}
use Rattle.smv_core.specs.declared.flat.Simple.TheVariants.{Range, Set}
use Rattle.smv_core.specs.declared.flat.Family.{Family}
use Rattle.smv_core.specs.declared.flat.Def.{Def}
use Rattle.smv_core.specs.declared.flat.FlatExpr.{FlatExpr, Number, Read, Var, Loop, Constant, All, Any, Compare, Sum}
use Rattle.smv_core.specs.declared.flat.FlatSigned.{roll-FlatSigned}
use Rattle.smv_core.specs.declared.flat.FlatStmt as stmt
use Rattle.smv_core.specs.declared.flat.DefBody.{DefBody, Nothing, Assign, If, First, Forall}
use Rattle.law_meaning.proofs.Built.{r, g, t, numbers}

-- where a theorem unfolds this, the definitions compute on a flat type that is written out
unfoldable pub computing_flat : Unit {0}
unfolding Rattle.smv_core.specs.declared.flat.FlatExpr.TheBlock.hidden-the_row-FlatExpr-0 Rattle.smv_core.specs.declared.flat.FlatExpr.TheBlock.shape-the_row-FlatExpr-0 Rattle.smv_core.specs.declared.flat.FlatExpr.TheBlock.hidden-the_row-FlatExpr-1 Rattle.smv_core.specs.declared.flat.FlatExpr.TheBlock.shape-the_row-FlatExpr-1 Rattle.smv_core.specs.declared.flat.FlatExpr.TheBlock.hidden-the_row-FlatSigned-2 Rattle.smv_core.specs.declared.flat.FlatExpr.TheBlock.shape-the_row-FlatSigned-2 Rattle.smv_core.specs.declared.flat.FlatExpr.TheBlock.hidden-the_row-FlatMember-3 Rattle.smv_core.specs.declared.flat.FlatExpr.TheBlock.shape-the_row-FlatMember-3 Rattle.smv_core.specs.declared.flat.FlatStmt.TheBlock.hidden-the_row-FlatStmt-0 Rattle.smv_core.specs.declared.flat.FlatStmt.TheBlock.shape-the_row-FlatStmt-0 Rattle.smv_core.specs.declared.flat.FlatStmt.TheBlock.hidden-the_row-FlatStmt-1 Rattle.smv_core.specs.declared.flat.FlatStmt.TheBlock.shape-the_row-FlatStmt-1 Rattle.smv_core.specs.declared.flat.DefBody.TheBlock.hidden-the_row-DefBody-0 Rattle.smv_core.specs.declared.flat.DefBody.TheBlock.shape-the_row-DefBody-0 Rattle.smv_core.specs.declared.flat.DefBody.TheBlock.hidden-the_row-DefBody-1 Rattle.smv_core.specs.declared.flat.DefBody.TheBlock.shape-the_row-DefBody-1 denote.Hole.Carrier.hidden
computing_flat = tt

abbrev family : Name → List Simple → Simple → Family
family name over value = record { name = name; over = over; value = value; is_abstract = false; at = 0 }

-- scalarset t of three values; the enumeration {r, g}; x, c : 0..2 and z : array 0..1 of 0..2, with the numbers 0, 1 and 2
abbrev numbered : Numbered
numbered = record {
  sets = record { name = t ∷ []; ordered = false; size = None } ∷ [];
  enums = ((r ∷ []) ∷ (g ∷ []) ∷ []) ∷ [];
  families = family (120 ∷ []) [] (Range 0 2) ∷ family (99 ∷ []) [] (Range 0 2) ∷ family (122 ∷ []) (Range 0 1 ∷ []) (Range 0 2) ∷ [];
  sizes = λ name. 3;
}

abbrev every : List Value
every = numbers (0 ∷ 1 ∷ 2 ∷ [])

abbrev num : ℕ → FlatExpr
num k = Number k 0

-- the signal x and the condition c
abbrev c : FlatExpr
c = Read 1 [] 0

-- the state where c is this and all other elements are 0
abbrev c_is : ℕ → FlatState
c_is k family indexes = at_family family
  where
    at_family : ℕ → Value
    at_family (suc zero) = number k
    at_family _ = number 0

abbrev only : DefBody → Def
only comb = record { family = 0; layer = None; init = Nothing; next = Nothing; comb = comb; place = 0; at = 0 }

abbrev x : FlatElement
x = record { family = 0; indexes = [] }

-- default x := 0; in if (c) x := 1; is a `First` of the second part and the first
abbrev defaulted : Def
defaulted = only (First (If c (Assign [] (num 1) 1 0) Nothing ∷ Assign [] (num 0) 0 0 ∷ []))

-- c is 1: the second part counts
defaulted-yes : flat_allowed numbered defaulted x every None (c_is 1) ≡ numbers (1 ∷ [])
unfolding computing_flat
defaulted-yes = refl

-- c is 0: the first part counts
defaulted-no : flat_allowed numbered defaulted x every None (c_is 0) ≡ numbers (0 ∷ [])
unfolding computing_flat
defaulted-no = refl

-- c is 2: every value
defaulted-neither : flat_allowed numbered defaulted x every None (c_is 2) ≡ every
unfolding computing_flat
defaulted-neither = refl

-- the same statement before it is regrouped
stated-neither : flat_walk numbered (c_is 2) x every Comb (stmt.Default (stmt.Assign Comb 0 [] (num 0) 0) (stmt.If c (stmt.Assign Comb 0 [] (num 1) 0) (stmt.Block []))) [] ≡ Some every
unfolding computing_flat
stated-neither = refl

-- default x := 0; in if (c) if (0) x := 1; where c is 2: both branches give Nothing, so the first part counts
stated-nothing : flat_walk numbered (c_is 2) x every Comb (stmt.Default (stmt.Assign Comb 0 [] (num 0) 0) (stmt.If c (stmt.If (num 0) (stmt.Assign Comb 0 [] (num 1) 0) (stmt.Block [])) (stmt.Block []))) [] ≡ Some (numbers (0 ∷ []))
unfolding computing_flat
stated-nothing = refl

-- if (c) next(x) := 1;
abbrev stepping : Def
stepping = record { family = 0; layer = None; init = Nothing; next = If c (Assign [] (num 1) 0 0) Nothing; comb = Nothing; place = 0; at = 0 }

-- c was 0: x keeps its value, 0
stepping-keeps : flat_allowed numbered stepping x every (Some (c_is 0)) (c_is 1) ≡ numbers (0 ∷ [])
unfolding computing_flat
stepping-keeps = refl

-- at time 0 it is free
stepping-first : flat_allowed numbered stepping x every None (c_is 1) ≡ every
unfolding computing_flat
stepping-first = refl

-- forall (i in 0..1) z[i] := i + 1;
abbrev each : Def
each = record { family = 2; layer = None; init = Nothing; next = Nothing; comb = Forall 0 (Range 0 1) (Assign (Var 0 0 ∷ []) (Sum (Var 0 0) (roll-FlatSigned (record { minus = false; of = num 1 }) ∷ [])) 0 0); place = 0; at = 0 }

-- z[1] is 2
each-1 : flat_allowed numbered each (record { family = 2; indexes = numbers (1 ∷ []) }) every None (c_is 0) ≡ numbers (2 ∷ [])
unfolding computing_flat
each-1 = refl

-- z[0] := 1; as a turn of a `for` writes it: z[1] is free
first-only : flat_allowed numbered (only (Assign (Loop 0 0 ∷ []) (num 1) 0 0)) (record { family = 2; indexes = numbers (1 ∷ []) }) every None (c_is 0) ≡ every
unfolding computing_flat
first-only = refl

-- `z[c]` where c is 2: outside its range, Undefined
flat-outside : flat_outcome numbered (c_is 2) (Read 2 (c ∷ []) 0) [] ≡ None
unfolding computing_flat
flat-outside = refl

-- the second constant of the first enumeration
flat-constant : flat_outcome numbered (c_is 0) (Constant 0 1 0) [] ≡ Some (constant (g ∷ []))
unfolding computing_flat
flat-constant = refl

-- `&[ |[ i = j : j in t ] : i in t ]`: the variables have the numbers 0 and 1
flat-quantifiers : flat_outcome numbered (c_is 0) (All (Any (Compare Equal (Var 0 0) (Var 1 0)) 1 (Set 0) 0) 0 (Set 0) 0) [] ≡ Some (number 1)
unfolding computing_flat
flat-quantifiers = refl
