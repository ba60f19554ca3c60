-- Worked leaves: of the Tomasulo machine, and of small designs.
use Rattle.std.specs.Prelude.{◌≡◌, ℕ, ◌+◌, List, [], ◌∷◌, map, zip, Some, None, false, codes}
use Rattle.smv_core.specs.Values.{Name}
use Rattle.smv_core.specs.declared.tree.Word.{Word}
use Rattle.smv_core.specs.declared.tree.Ref.{Ref}
use Rattle.smv_core.specs.declared.flat.Simple.{Simple}
use Rattle.smv_core.specs.declared.flat.Simple.TheVariants.{Set}
use Rattle.smv_core.specs.declared.flat.Family.{Family}
use Rattle.smv_core.specs.declared.flat.Design.{Design}
use Rattle.smv_core.specs.declared.flat.Def.{Def}
use Rattle.smv_core.specs.declared.flat.Claim.{Claim}
use Rattle.smv_core.specs.declared.flat.Param.{Param}
use Rattle.smv_core.specs.declared.flat.FlatSplit.{FlatSplit}
use Rattle.smv_core.specs.declared.flat.FlatPair.{FlatPair}
use Rattle.smv_core.specs.declared.flat.Guard.{Guard}
use Rattle.smv_core.specs.declared.flat.Leaf.{Leaf}
use Rattle.smv_core.specs.declared.flat.DefBody.{Forall}
use Rattle.smv_core.specs.declared.flat.FlatExpr.{FlatExpr, Read, Var, Any}
use Rattle.worked_obligations.specs.WorkedTomasulo as machine
use Rattle.worked_obligations.specs.WorkedTomasulo.{bit, word, reg, tag, rd, bt, r, ir_tag, st_ta, aux_a, aux_res, aux_src, one, at, equal, i, num, set_at, always, guard, tomasulo, machine_script}
use Rattle.worked_obligations.specs.WorkedScripts.{over_P}
use Rattle.law_splits.specs.Leaves.{leaves_of}

-- ---- the parts of splits

abbrev pub named : Name → Word
named name = record { name = name; at = 0 }

-- `path[names]` and `path[names]//layer`
abbrev pub of_claim : List Name → List Name → Ref
of_claim path names = record { path = map named path; names = map named names; layer = None; free = false; at = 0 }

abbrev pub of_map : List Name → List Name → Name → Ref
of_map path names layer = record { path = map named path; names = map named names; layer = Some (named layer); free = false; at = 0 }

-- a variable of this type, and variables or parameters that are numbered
abbrev pub variables : ℕ → List (Name × Simple) → List Param
variables var [] = []
variables var ((name, over) ∷ more) = record { var = var; over = over; name = name } ∷ variables (var + 1) more

-- the equation of an expression and a new parameter
abbrev pub is : FlatExpr → Name → FlatPair
is e name = record { left = e; right = named name; at = 0 }

-- a split with these new parameters, inside these variables
abbrev pub split : Name → List Name → Ref → List (Name × Simple) → List FlatPair → FlatSplit
split name new of bound pairs = record { name = name; vars = map named new; of = of; bound = variables 0 bound; pairs = pairs; at = 0 }

abbrev pub leaf : ℕ → Name → List (Name × Simple) → List Guard → Leaf
leaf unit name params guards = record { unit = unit; name = name; params = variables 0 params; guards = guards }

-- ---- the Tomasulo machine

abbrev pub names : List Name
names = codes "issue" ∷ codes "go" ∷ codes "slot" ∷ codes "bt" ∷ codes "src" ∷ codes "dst" ∷ codes "rd" ∷ codes "iss" ∷ codes "bv" ∷ codes "opa" ∷ codes "res" ∷ codes "bw" ∷ codes "dout"
    ∷ codes "ir.resvd" ∷ codes "ir.tag" ∷ codes "ir.val" ∷ codes "st.valid" ∷ codes "st.ga" ∷ codes "st.ta" ∷ codes "st.va" ∷ codes "r" ∷ codes "aux.a" ∷ codes "aux.res" ∷ codes "aux.src" ∷ codes "f" ∷ []

abbrev pub k : Name
k = codes "k"

abbrev pub c : Name
c = codes "c"

abbrev pub a : Name
a = codes "a"

abbrev pub i' : Name
i' = codes "i"

abbrev pub j : Name
j = codes "j"

-- rd1[k][c] of dout//arch for rd = k, r[rd] = c
abbrev pub rd1 : FlatSplit
rd1 = split (codes "rd1") (k ∷ c ∷ []) (of_map (codes "dout" ∷ []) [] (codes "arch")) ((k, reg) ∷ (c, word) ∷ []) (is (one rd) k ∷ is (at r (one rd)) c ∷ [])

-- va1[i][j][c] of st[k].va//lem for st[k].ta = i, aux[k].src = j, aux[k].a = c
abbrev pub va1 : FlatSplit
va1 = split (codes "va1") (i' ∷ j ∷ c ∷ []) (of_map (codes "st" ∷ codes "va" ∷ []) (k ∷ []) (codes "lem")) ((k, tag) ∷ (i', tag) ∷ (j, reg) ∷ (c, word) ∷ [])
    (is (at st_ta i) i' ∷ is (at aux_src i) j ∷ is (at aux_a i) c ∷ [])

-- bw1[i][a][c] of bw//lem for bt = i, aux[bt].a = a, aux[bt].res = c
abbrev pub bw1 : FlatSplit
bw1 = split (codes "bw1") (i' ∷ a ∷ c ∷ []) (of_map (codes "bw" ∷ []) [] (codes "lem")) ((i', tag) ∷ (a, word) ∷ (c, word) ∷ [])
    (is (one bt) i' ∷ is (at aux_a (one bt)) a ∷ is (at aux_res (one bt)) c ∷ [])

-- val1[i][c] of ir[k].val//lem for ir[k].tag = i, r[k] = c
abbrev pub val1 : FlatSplit
val1 = split (codes "val1") (i' ∷ c ∷ []) (of_map (codes "ir" ∷ codes "val" ∷ []) (k ∷ []) (codes "lem")) ((k, reg) ∷ (i', tag) ∷ (c, word) ∷ []) (is (at ir_tag i) i' ∷ is (at r i) c ∷ [])

abbrev pub with_names : List Family → List Name → List Family
with_names families names = map (λ (f, name). record f { name = name }) (zip families names)

abbrev pub split_machine : Design
split_machine = record tomasulo { families = with_names machine.signals names; splits = rd1 ∷ va1 ∷ bw1 ∷ val1 ∷ [] }

abbrev pub machine_leaves : List Leaf
machine_leaves =
    leaf 0 (codes "rd1") ((k, reg) ∷ (c, word) ∷ []) (guard 0 reg (one rd) ∷ guard 1 word (at r (one rd)) ∷ [])
    ∷ leaf 1 (codes "va1") (([], tag) ∷ (i', tag) ∷ (j, reg) ∷ (c, word) ∷ []) (guard 1 tag (at st_ta i) ∷ guard 2 reg (at aux_src i) ∷ guard 3 word (at aux_a i) ∷ [])
    ∷ leaf 2 (codes "bw1") ((i', tag) ∷ (a, word) ∷ (c, word) ∷ []) (guard 0 tag (one bt) ∷ guard 1 word (at aux_a (one bt)) ∷ guard 2 word (at aux_res (one bt)) ∷ [])
    ∷ leaf 3 (codes "val1") (([], reg) ∷ (i', tag) ∷ (c, word) ∷ []) (guard 1 tag (at ir_tag i) ∷ guard 2 word (at r i) ∷ []) ∷ []

-- the leaves of the machine, which has the units, parameters and guards for which its times, cones and problems are worked
abbrev pub TomasuloLeaves : Type 0
TomasuloLeaves = (leaves_of split_machine ≡ machine_leaves)
    × (map (λ (leaf : Leaf). leaf.guards) (leaves_of split_machine) ≡ map (λ entry. entry.leaf.guards) machine_script.entries)
    × (map (λ (leaf : Leaf). map (λ p. p.over) leaf.params) (leaves_of split_machine) ≡ map (λ entry. map (λ p. p.over) entry.leaf.params) machine_script.entries)

-- ---- small designs over P: b : boolean; s : P; w : array P of P; m : array P of array P of P; x : array P of boolean

abbrev pub P : Simple
P = Set 0

abbrev pub signal : Name → List Simple → Simple → Family
signal name over value = record { name = name; over = over; value = value; is_abstract = false; at = 0 }

abbrev pub small : List Family
small = signal (codes "b") [] bit ∷ signal (codes "s") [] P ∷ signal (codes "w") (P ∷ []) P ∷ signal (codes "m") (P ∷ P ∷ []) P ∷ signal (codes "x") (P ∷ []) bit ∷ []

abbrev pub b : ℕ
b = 0

abbrev pub s : ℕ
s = 1

abbrev pub w : ℕ
w = 2

abbrev pub m : ℕ
m = 3

abbrev pub x : ℕ
x = 4

abbrev pub v : ℕ → FlatExpr
v var = Var var 0

abbrev pub at_two : FlatExpr → FlatExpr → FlatExpr
at_two left right = Read m (left ∷ right ∷ []) 0

-- the claim p with these parameters
abbrev pub p : Name
p = codes "p"

abbrev pub claim : List (Name × Simple) → Claim
claim params = record { name = p; vars = []; params = variables 0 params; body = num 1; place = 1; at = 0 }

-- `forall (i in P) x[i] := 1;` outside layers, and in the layer L
abbrev pub map_x : List Def
map_x = always x None (Forall 0 P (set_at i (num 1))) 0 ∷ always x (Some 0) (Forall 0 P (set_at i (num 1))) 2 ∷ []

abbrev pub splits : List (Name × Simple) → List FlatSplit → Design
splits params all = record (over_P small [] (claim params ∷ [])) { splits = all }

-- without a split the leaf is the unit itself
abbrev pub Unsplit : Type 0
Unsplit = leaves_of (over_P small map_x (claim ((i', P) ∷ []) ∷ [])) ≡ leaf 0 p ((i', P) ∷ []) [] ∷ leaf 1 (codes "x//L") (([], P) ∷ []) [] ∷ []

-- q[i] of p for s = i, and t[j] of q[k] for w[k] = j; the order of the two in the text is no matter
abbrev pub q_of_p : FlatSplit
q_of_p = split (codes "q") (i' ∷ []) (of_claim (p ∷ []) []) ((i', P) ∷ []) (is (one s) i' ∷ [])

abbrev pub t_of_q : FlatSplit
t_of_q = split (codes "t") (j ∷ []) (of_claim (codes "q" ∷ []) (k ∷ [])) ((j, P) ∷ (k, P) ∷ []) (is (at w (v 1)) j ∷ [])

abbrev pub SplitOfSplit : Type 0
SplitOfSplit = (leaves_of (splits [] (q_of_p ∷ [])) ≡ leaf 0 (codes "q") ((i', P) ∷ []) (guard 0 P (one s) ∷ []) ∷ [])
    × (leaves_of (splits [] (q_of_p ∷ t_of_q ∷ [])) ≡ leaf 0 (codes "t") ((i', P) ∷ (j, P) ∷ []) (guard 0 P (one s) ∷ guard 1 P (at w (v 0)) ∷ []) ∷ [])
    × (leaves_of (splits [] (t_of_q ∷ q_of_p ∷ [])) ≡ leaves_of (splits [] (q_of_p ∷ t_of_q ∷ [])))

-- q[c] of p[k][j] for m[j][k] = c, inside c, j and k: k is the first parameter of p and j its second
abbrev pub Renamed : Type 0
Renamed = (leaves_of (splits ((i', P) ∷ (a, P) ∷ []) (split (codes "q") (c ∷ []) (of_claim (p ∷ []) (k ∷ j ∷ [])) ((c, P) ∷ (j, P) ∷ (k, P) ∷ []) (is (at_two (v 1) (v 2)) c ∷ []) ∷ []))
    ≡ leaf 0 (codes "q") ((i', P) ∷ (a, P) ∷ (c, P) ∷ []) (guard 2 P (at_two (v 1) (v 0)) ∷ []) ∷ [])

-- a guard stands where its equation does
abbrev pub PlacesStay : Type 0
PlacesStay = leaves_of (splits [] (record q_of_p { pairs = record (is (one s) i') { at = 7 } ∷ [] } ∷ [])) ≡ leaf 0 (codes "q") ((i', P) ∷ []) (record (guard 0 P (one s)) { at = 7 } ∷ []) ∷ []

-- without brackets the parameters stay
abbrev pub NoBrackets : Type 0
NoBrackets = leaves_of (splits ((i', P) ∷ []) (split (codes "q") (c ∷ []) (of_claim (p ∷ []) []) ((c, P) ∷ []) (is (one s) c ∷ []) ∷ []))
    ≡ leaf 0 (codes "q") ((i', P) ∷ (c, P) ∷ []) (guard 1 P (one s) ∷ []) ∷ []

-- q[c] of p[k] for |[ m[n][k] = n : n in P ] = c, inside k and c, where n has the number 2; then t[j] of q: the leaf has three parameters, and n the number 3
abbrev pub q_by_any : FlatSplit
q_by_any = split (codes "q") (c ∷ []) (of_claim (p ∷ []) (k ∷ [])) ((k, P) ∷ (c, bit) ∷ []) (is (Any (equal (at_two (v 2) (v 0)) (v 2)) 2 P 0) c ∷ [])

abbrev pub InnerVariables : Type 0
InnerVariables = (leaves_of (splits ((i', P) ∷ []) (q_by_any ∷ [])) ≡ leaf 0 (codes "q") ((i', P) ∷ (c, bit) ∷ []) (guard 1 bit (Any (equal (at_two (v 2) (v 0)) (v 2)) 2 P 0) ∷ []) ∷ [])
    × (leaves_of (splits ((i', P) ∷ []) (q_by_any ∷ split (codes "t") (j ∷ []) (of_claim (codes "q" ∷ []) []) ((j, P) ∷ []) (is (one s) j ∷ []) ∷ []))
    ≡ leaf 0 (codes "t") ((i', P) ∷ (c, bit) ∷ (j, P) ∷ []) (guard 1 bit (Any (equal (at_two (v 3) (v 0)) (v 3)) 3 P 0) ∷ guard 2 P (one s) ∷ []) ∷ [])

-- q[j] of x[i]//L for w[i] = j, beside the claim, which has no split; and both split, the claim of the first unit by the later split
abbrev pub q_of_x : FlatSplit
q_of_x = split (codes "q") (j ∷ []) (of_map (codes "x" ∷ []) (i' ∷ []) (codes "L")) ((i', P) ∷ (j, P) ∷ []) (is (at w i) j ∷ [])

abbrev pub SplitMap : Type 0
SplitMap = (leaves_of (record (over_P small map_x (claim [] ∷ [])) { splits = q_of_x ∷ [] }) ≡ leaf 0 p [] [] ∷ leaf 1 (codes "q") (([], P) ∷ (j, P) ∷ []) (guard 1 P (at w (v 0)) ∷ []) ∷ [])
    × (leaves_of (record (over_P small map_x (claim [] ∷ [])) { splits = q_of_x ∷ split (codes "u") (i' ∷ []) (of_claim (p ∷ []) []) ((i', P) ∷ []) (is (one s) i' ∷ []) ∷ [] })
    ≡ leaf 0 (codes "u") ((i', P) ∷ []) (guard 0 P (one s) ∷ []) ∷ leaf 1 (codes "q") (([], P) ∷ (j, P) ∷ []) (guard 1 P (at w (v 0)) ∷ []) ∷ [])
