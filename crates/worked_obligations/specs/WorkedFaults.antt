-- Worked faults of splits: two whole texts, and splits of small designs.
use Rattle.std.specs.Prelude.{◌≡◌, ℕ, List, [], ◌∷◌, Option, Some, None, true, false, codes}
use Rattle.smv_core.specs.Values.{Name}
use Rattle.smv_core.specs.declared.fault.Fault.{Fault}
use Rattle.smv_core.specs.declared.tree.Word.{Word}
use Rattle.smv_core.specs.declared.tree.Ref.{Ref}
use Rattle.smv_core.specs.declared.flat.Simple.{Simple}
use Rattle.smv_core.specs.declared.flat.Simple.TheVariants.{Range, Enum}
use Rattle.smv_core.specs.declared.flat.Design.{Design}
use Rattle.smv_core.specs.declared.flat.FlatSplit.{FlatSplit}
use Rattle.smv_core.specs.declared.flat.FlatPair.{FlatPair}
use Rattle.smv_core.specs.declared.flat.FlatExpr.{FlatExpr, Read, Var, Choose, All}
use Rattle.worked_obligations.specs.WorkedTomasulo.{bit, one, at, equal, num, set, always}
use Rattle.worked_obligations.specs.WorkedScripts.{over_P}
use Rattle.law_splits.specs.SplitFaults.{faults_of_splits, first_fault_of_splits}
use Rattle.worked_obligations.specs.WorkedLeaves.{variables, split_machine, P, signal, small, b, s, w, v, p, k, c, a, i', j, claim, map_x, splits, q_of_p, t_of_q, q_of_x, q_by_any}

abbrev pub fault : ℕ → ℕ → Fault
fault number at = record { number = number; at = at }

-- a name at this place
abbrev pub word : Name → ℕ → Word
word name at = record { name = name; at = at }

-- `name[names]` and `name[names]//layer`, at this place
abbrev pub to : Name → ℕ → List Word → Option Word → Ref
to name at names layer = record { path = word name at ∷ []; names = names; layer = layer; free = false; at = at }

abbrev pub is : FlatExpr → Name → ℕ → FlatPair
is e name at = record { left = e; right = word name at; at = 0 }

abbrev pub split : Name → List Word → Ref → List (Name × Simple) → List FlatPair → FlatSplit
split name new of bound pairs = record { name = name; vars = new; of = of; bound = variables 0 bound; pairs = pairs; at = 0 }

-- module main() { x : boolean; forall (i in 0..1) subcase s[i] of q for x = i; }
abbrev pub text_23 : Design
text_23 = record (over_P (signal (codes "x") [] bit ∷ []) [] []) {
  splits = split (codes "s") (word i' 58 ∷ []) (to (codes "q") 64 [] None) ((i', bit) ∷ []) (is (Read 0 [] 70) i' 74 ∷ []) ∷ [];
}

-- module main() { x : {red}; p : assert G 1; forall (i in 0..1) subcase s[i] of p for x = i; }
abbrev pub text_24 : Design
text_24 = record (over_P (signal (codes "x") [] (Enum 0) ∷ []) [] (claim [] ∷ [])) {
  enums = (codes "red" ∷ []) ∷ [];
  splits = split (codes "s") (word i' 72 ∷ []) (to p 78 [] None) ((i', bit) ∷ []) (is (Read 0 [] 84) i' 88 ∷ []) ∷ [];
}

abbrev pub WholeTexts : Type 0
WholeTexts = (first_fault_of_splits text_23 ≡ Some (fault 23 64)) × (first_fault_of_splits text_24 ≡ Some (fault 24 88))

-- the machine and the designs whose leaves are worked have none
abbrev pub NoFaults : Type 0
NoFaults = (faults_of_splits split_machine ≡ []) × (faults_of_splits (splits [] (t_of_q ∷ q_of_p ∷ [])) ≡ []) × (faults_of_splits (splits ((i', P) ∷ []) (q_by_any ∷ [])) ≡ [])
    × (faults_of_splits (record (over_P small map_x []) { splits = q_of_x ∷ [] }) ≡ [])

-- ---- what is split

-- q[i] of a reference for s = i, by the name of the split
abbrev pub by_s : Name → Ref → FlatSplit
by_s name of = split name (word i' 1 ∷ []) of ((i', P) ∷ []) (is (one s) i' 9 ∷ [])

abbrev pub q : Name
q = codes "q"

abbrev pub t : Name
t = codes "t"

abbrev pub u : Name
u = codes "u"

abbrev pub L : Option Word
L = Some (word (codes "L") 15)

-- no unit: a family, a claim in a layer, a layer that is not there, a layer that does not define the family; a map is one
abbrev pub with_map : FlatSplit → Design
with_map s = record (over_P small map_x (claim [] ∷ [])) { splits = s ∷ [] }

abbrev pub x' : Name
x' = codes "x"

abbrev pub NoUnits : Type 0
NoUnits = (faults_of_splits (with_map (by_s q (to x' 10 [] None))) ≡ fault 23 10 ∷ []) × (faults_of_splits (with_map (by_s q (to p 10 [] L))) ≡ fault 23 10 ∷ [])
    × (faults_of_splits (with_map (by_s q (to x' 10 [] (Some (word (codes "K") 15))))) ≡ fault 23 10 ∷ []) × (faults_of_splits (with_map (by_s q (to (codes "b") 10 [] L))) ≡ fault 23 10 ∷ [])
    × (faults_of_splits (with_map (by_s q (to x' 10 [] L))) ≡ [])

-- y is abstract: the layer L, which comes first, gives the base definition, and is no unit; the layer M is one
abbrev pub in_two_layers : Ref → Design
in_two_layers of = record (over_P (signal (codes "b") [] bit ∷ signal (codes "s") [] P ∷ record (signal (codes "y") [] bit) { is_abstract = true } ∷ [])
    (always 2 (Some 0) (set (num 1)) 0 ∷ always 2 (Some 1) (set (num 1)) 1 ∷ []) []) { layers = codes "L" ∷ codes "M" ∷ []; splits = by_s q of ∷ [] }

abbrev pub BaseIsNoUnit : Type 0
BaseIsNoUnit = (faults_of_splits (in_two_layers (to (codes "y") 10 [] L)) ≡ fault 23 10 ∷ []) × (faults_of_splits (in_two_layers (to (codes "y") 10 [] (Some (word (codes "M") 15)))) ≡ [])

-- q and t split p; t and u split q
abbrev pub SplitTwice : Type 0
SplitTwice = (faults_of_splits (splits [] (by_s q (to p 10 [] None) ∷ by_s t (to p 20 [] None) ∷ [])) ≡ fault 23 20 ∷ [])
    × (faults_of_splits (splits [] (by_s q (to p 10 [] None) ∷ by_s t (to q 20 [] None) ∷ by_s u (to q 30 [] None) ∷ [])) ≡ fault 23 30 ∷ [])

-- q of q; q of t and t of q; q of nothing and t of q
abbrev pub LeadNowhere : Type 0
LeadNowhere = (faults_of_splits (splits [] (by_s q (to q 10 [] None) ∷ [])) ≡ fault 23 10 ∷ [])
    × (faults_of_splits (splits [] (by_s q (to t 10 [] None) ∷ by_s t (to q 20 [] None) ∷ [])) ≡ fault 23 10 ∷ fault 23 20 ∷ [])
    × (faults_of_splits (splits [] (by_s q (to (codes "n") 10 [] None) ∷ by_s t (to q 20 [] None) ∷ [])) ≡ fault 23 10 ∷ fault 23 20 ∷ [])

-- ---- names

-- a split of p, which has these parameters
abbrev pub of_p : List (Name × Simple) → List Word → List Word → List (Name × Simple) → List FlatPair → List Fault
of_p params new old bound pairs = faults_of_splits (splits params (split q new (to p 10 old None) bound pairs ∷ []))

abbrev pub s_is_c : List FlatPair
s_is_c = is (one s) c 20 ∷ []

-- p[i], split as q[c] of p[k], p[k][j] and p; and p without parameters as q[c] of p[k]
abbrev pub Counts : Type 0
Counts = (of_p ((i', P) ∷ []) (word c 1 ∷ []) (word k 11 ∷ []) ((c, P) ∷ (k, P) ∷ []) s_is_c ≡ [])
    × (of_p ((i', P) ∷ []) (word c 1 ∷ []) (word k 11 ∷ word j 12 ∷ []) ((c, P) ∷ (k, P) ∷ (j, P) ∷ []) s_is_c ≡ fault 24 11 ∷ [])
    × (of_p ((i', P) ∷ []) (word c 1 ∷ []) [] ((c, P) ∷ (k, P) ∷ []) s_is_c ≡ [])
    × (of_p [] (word c 1 ∷ []) (word k 11 ∷ []) ((c, P) ∷ (k, P) ∷ []) s_is_c ≡ fault 24 11 ∷ [])

-- c, or k, is not bound
abbrev pub Unbound : Type 0
Unbound = (of_p [] (word c 1 ∷ []) [] ((k, P) ∷ []) s_is_c ≡ fault 24 1 ∷ [])
    × (of_p ((i', P) ∷ []) (word c 1 ∷ []) (word k 11 ∷ []) ((c, P) ∷ []) s_is_c ≡ fault 24 11 ∷ [])

-- q[c][c] of p, q[c] of p[c], q[c] of p[k][k]
abbrev pub Doubled : Type 0
Doubled = (of_p [] (word c 1 ∷ word c 2 ∷ []) [] ((c, P) ∷ []) s_is_c ≡ fault 24 2 ∷ [])
    × (of_p ((i', P) ∷ []) (word c 1 ∷ []) (word c 11 ∷ []) ((c, P) ∷ []) s_is_c ≡ fault 24 11 ∷ [])
    × (of_p ((i', P) ∷ (j, P) ∷ []) (word c 1 ∷ []) (word k 11 ∷ word k 12 ∷ []) ((c, P) ∷ (k, P) ∷ []) s_is_c ≡ fault 24 12 ∷ [])

-- k is a number where the parameter is of P, and of 0..2 where it is of 0..1
abbrev pub OtherTypes : Type 0
OtherTypes = (of_p ((i', P) ∷ []) (word c 1 ∷ []) (word k 11 ∷ []) ((c, P) ∷ (k, bit) ∷ []) s_is_c ≡ fault 24 11 ∷ [])
    × (of_p ((i', bit) ∷ []) (word c 1 ∷ []) (word k 11 ∷ []) ((c, P) ∷ (k, Range 0 2) ∷ []) s_is_c ≡ fault 24 11 ∷ [])

-- q[a][c] for s = c; q[c] for s = c, s = c; q[c] of p[k] for s = c, s = k
abbrev pub Equations : Type 0
Equations = (of_p [] (word a 1 ∷ word c 2 ∷ []) [] ((a, P) ∷ (c, P) ∷ []) s_is_c ≡ fault 24 1 ∷ [])
    × (of_p [] (word c 1 ∷ []) [] ((c, P) ∷ []) (is (one s) c 20 ∷ is (one s) c 21 ∷ []) ≡ fault 24 1 ∷ [])
    × (of_p ((i', P) ∷ []) (word c 1 ∷ []) (word k 11 ∷ []) ((c, P) ∷ (k, P) ∷ []) (is (one s) c 20 ∷ is (one s) k 21 ∷ []) ≡ fault 24 21 ∷ [])

-- The names in the brackets of s are its parameters, bound or not; one that is not bound has no type to compare.
-- module main() { p : assert G 1; forall (q in 0..1) forall (i in 0..1) subcase t[i] of s[q] for 1 = i; subcase s[q] of p for 1 = q; }
abbrev pub text_unbound : Design
text_unbound = splits [] (split t (word i' 80 ∷ []) (to (codes "s") 86 (word q 88 ∷ []) None) ((q, bit) ∷ (i', bit) ∷ []) (is (num 1) i' 99 ∷ [])
    ∷ split (codes "s") (word q 112 ∷ []) (to p 118 [] None) [] (is (num 1) q 128 ∷ []) ∷ [])

-- t[j] of s[names] inside these variables, before the split s[i][q] of p for 1 = i, 1 = q inside i
abbrev pub before_unbound : List Word → List (Name × Simple) → Design
before_unbound names bound = splits [] (split t (word j 80 ∷ []) (to (codes "s") 86 names None) bound (is (num 1) j 99 ∷ [])
    ∷ split (codes "s") (word i' 131 ∷ word q 134 ∷ []) (to p 140 [] None) ((i', bit) ∷ []) (is (num 1) i' 150 ∷ is (num 1) q 157 ∷ []) ∷ [])

-- s[i], and s[i][k] where k is of P
abbrev pub UnboundParameters : Type 0
UnboundParameters = (first_fault_of_splits text_unbound ≡ Some (fault 24 112))
    × (first_fault_of_splits (before_unbound (word i' 88 ∷ []) ((i', bit) ∷ (j, bit) ∷ [])) ≡ Some (fault 24 88))
    × (first_fault_of_splits (before_unbound (word i' 88 ∷ word k 91 ∷ []) ((i', bit) ∷ (k, P) ∷ (j, bit) ∷ [])) ≡ Some (fault 24 134))

-- ---- expressions

-- q[c] of p for e = c, where c is of this type
abbrev pub by_expression : Simple → FlatExpr → List Fault
by_expression over e = of_p [] (word c 1 ∷ []) [] ((c, over) ∷ []) (is e c 20 ∷ [])

-- b, 1 and s = s are numbers, s is of P, and so is b ? s : s
abbrev pub Kinds : Type 0
Kinds = (by_expression P (one b) ≡ fault 24 20 ∷ []) × (by_expression P (num 1) ≡ fault 24 20 ∷ []) × (by_expression P (equal (one s) (one s)) ≡ fault 24 20 ∷ [])
    × (by_expression bit (one s) ≡ fault 24 20 ∷ []) × (by_expression bit (Choose (one b) (one s) (one s)) ≡ fault 24 20 ∷ [])
    × (by_expression (Range 0 255) (one b) ≡ []) × (by_expression bit (equal (one s) (one s)) ≡ []) × (by_expression P (Choose (one b) (one s) (one s)) ≡ [])

-- w[k] where k is a name of the brackets; where it is bound and no name of them; where the brackets are left out; w[c] where c is new; the variable of a binder inside
abbrev pub k' : FlatExpr
k' = Var 1 30

abbrev pub Strays : Type 0
Strays = (of_p ((i', P) ∷ []) (word c 1 ∷ []) (word k 11 ∷ []) ((c, P) ∷ (k, P) ∷ []) (is (at w k') c 20 ∷ []) ≡ [])
    × (of_p ((i', P) ∷ []) (word c 1 ∷ []) (word j 11 ∷ []) ((c, P) ∷ (k, P) ∷ (j, P) ∷ []) (is (at w k') c 20 ∷ []) ≡ fault 24 30 ∷ [])
    × (of_p ((i', P) ∷ []) (word c 1 ∷ []) [] ((c, P) ∷ (k, P) ∷ []) (is (at w k') c 20 ∷ []) ≡ fault 24 30 ∷ [])
    × (of_p ((i', P) ∷ []) (word k 1 ∷ []) [] ((c, P) ∷ (k, P) ∷ []) (is (at w k') k 20 ∷ []) ≡ fault 24 30 ∷ [])
    × (of_p [] (word c 1 ∷ []) [] ((c, bit) ∷ []) (is (All (equal (at w (v 1)) (v 1)) 1 P 0) c 20 ∷ []) ≡ [])
    × (of_p [] (word c 1 ∷ []) [] ((c, bit) ∷ (k, P) ∷ []) (is (All (equal (at w k') (v 2)) 2 P 0) c 20 ∷ []) ≡ fault 24 30 ∷ [])

-- ---- the first fault

-- u[j] of t[k][c] stands first, then q[i] of p, then t[i] of p: the last is a split of what is split, but t has one parameter, and its split is at fault before it
abbrev pub TheFirst : Type 0
TheFirst = first_fault_of_splits (splits [] (split u (word j 1 ∷ []) (to t 2 (word k 3 ∷ word c 4 ∷ []) None) ((j, P) ∷ (k, P) ∷ (c, P) ∷ []) (is (one s) j 5 ∷ [])
    ∷ by_s q (to p 10 [] None) ∷ by_s t (to p 20 [] None) ∷ [])) ≡ Some (fault 24 3)
