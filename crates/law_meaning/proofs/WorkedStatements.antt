-- More worked designs: nested statements, loops, indexes, instances, layers and values of every type. All elements that a state does not name are 0.
use Rattle.std.proofs.Common.{◌≡◌, ℕ, List, [], ◌∷◌, map, refl, Some, None, true, false}
use Rattle.smv_core.specs.Values.{Value, constant, scalar, ordinal, range}
use Rattle.smv_core.specs.FlatOrder.{design_of}
use Rattle.smv_core.specs.Allowed.{base_of, allowed}
use Rattle.smv_core.specs.Sound.{units, instances, map_of, claim_of}
use Rattle.smv_core.specs.declared.tree.Text.{Text}
use Rattle.smv_core.specs.declared.tree.Top.TheVariants.{SetType, Module}
use Rattle.smv_core.specs.declared.tree.TypeExpr.{Boolean, Array, Enum, Named, Struct}
use Rattle.smv_core.specs.declared.tree.Field as field
use Rattle.smv_core.specs.declared.tree.Path.{roll-Path, Path as TreePath}
use Rattle.smv_core.specs.declared.tree.Part.{At, Field as Dot}
use Rattle.smv_core.specs.declared.tree.Role.TheVariants.{Abstract, Input, Output}
use Rattle.smv_core.specs.declared.tree.Op.TheVariants as op
use Rattle.smv_core.specs.declared.tree.Expr.{Expr, Not, Signal, Each, Compare, Choose, Modulo}
use Rattle.smv_core.specs.declared.tree.Stmt.{Stmt, Block, If, Switch, Default, For, Forall}
use Rattle.smv_core.specs.declared.tree.Arm.{Arm, roll-Arm}
use Rattle.smv_core.specs.declared.tree.Item.{Declare, Instance, Layer, Claim}
use Rattle.smv_core.specs.declared.tree.Item as item
use Rattle.law_meaning.proofs.Built.{computing, w, a, b, c, f, g, i, j, m, n, r, s, t, x, y, sig, num, plus, minus, list, eq, span, at, path, declare, act, set, init, next, module_main, if_then, state, element, numbers, threes, base_allows, dotted, main}

-- x[e][f]
abbrev cell : Expr → Expr → TreePath
cell e f = roll-Path (record { parts = Dot (w x) ∷ At e ∷ At f ∷ []; at = 0 })

-- x, c, y : 0..2; statement
abbrev with_signals : Stmt → Text
with_signals st = module_main (declare x (span 0 2) ∷ declare c (span 0 2) ∷ declare y (span 0 2) ∷ act st ∷ [])

-- what x may be at time 0 where c and y are these
abbrev x_at : Stmt → ℕ → ℕ → List Value
x_at st k l = base_allows (with_signals st) (element (x ∷ []) []) None (state ((c ∷ [], k) ∷ (y ∷ [], l) ∷ []))

-- default x := 0; in if (c) if (y) x := 1;
abbrev nested : Stmt
nested = Default (set (path (x ∷ [])) (num 0)) (if_then (sig c) (if_then (sig y) (set (path (x ∷ [])) (num 1)))) 0

-- both conditions are 1
nested-both : x_at nested 1 1 ≡ numbers (1 ∷ [])
unfolding computing
nested-both = refl

-- the inner `if` has no `else`: Nothing, so the default
nested-inner-no : x_at nested 1 0 ≡ numbers (0 ∷ [])
unfolding computing
nested-inner-no = refl

-- the outer `if` has no `else`: Nothing
nested-outer-no : x_at nested 0 1 ≡ numbers (0 ∷ [])
unfolding computing
nested-outer-no = refl

-- the outer condition is 2, but both its branches give Nothing: Nothing, so the default
nested-neither-nothing : x_at nested 2 0 ≡ numbers (0 ∷ [])
unfolding computing
nested-neither-nothing = refl

-- the outer condition is 2 and one branch gives a result: every value
nested-neither-some : x_at nested 2 1 ≡ numbers (0 ∷ 1 ∷ 2 ∷ [])
unfolding computing
nested-neither-some = refl

-- the inner condition is 2 and its branch gives a result: every value
nested-inner-neither : x_at nested 1 2 ≡ numbers (0 ∷ 1 ∷ 2 ∷ [])
unfolding computing
nested-inner-neither = refl

abbrev arm : List Expr → Stmt → Arm
arm labels body = roll-Arm (record { labels = labels; body = body })

-- default x := 0; in switch (c) { 0 : x := 1; 1, 2 : if (y) x := 2; }
abbrev switched : Stmt
switched = Default (set (path (x ∷ [])) (num 0)) (Switch (sig c) (arm (num 0 ∷ []) (set (path (x ∷ [])) (num 1)) ∷ arm (num 1 ∷ num 2 ∷ []) (if_then (sig y) (set (path (x ∷ [])) (num 2))) ∷ []) None 0) 0

-- c is 0: the first arm
switched-first : x_at switched 0 1 ≡ numbers (1 ∷ [])
unfolding computing
switched-first = refl

-- c is 2: the second arm, by its second label
switched-second : x_at switched 2 1 ≡ numbers (2 ∷ [])
unfolding computing
switched-second = refl

-- the arm that is met gives Nothing: the default part
switched-nothing : x_at switched 1 0 ≡ numbers (0 ∷ [])
unfolding computing
switched-nothing = refl

-- c is 3, in no arm: Nothing, so the default part
switched-no-arm : x_at switched 3 1 ≡ numbers (0 ∷ [])
unfolding computing
switched-no-arm = refl

-- the value of the `switch` is Undefined and an arm gives a result: every value
switched-undefined : x_at (Switch (minus (num 0) (num 1)) (arm (num 0 ∷ []) (set (path (x ∷ [])) (num 1)) ∷ []) None 0) 0 0 ≡ numbers (0 ∷ 1 ∷ 2 ∷ [])
unfolding computing
switched-undefined = refl

-- if (c) x := 1; else x := y;
abbrev both_ways : Stmt
both_ways = If (sig c) (set (path (x ∷ [])) (num 1)) (Some (set (path (x ∷ [])) (sig y))) 0

-- c is 0: the other branch, at the value of y
both_ways-no : x_at both_ways 0 2 ≡ numbers (2 ∷ [])
unfolding computing
both_ways-no = refl

-- c is 2: every value, though both branches would give 1
both_ways-neither : x_at both_ways 2 1 ≡ numbers (0 ∷ 1 ∷ 2 ∷ [])
unfolding computing
both_ways-neither = refl

-- x := c ? {1, 2} : y; the right side is a set on one branch
set_or_value : x_at (set (path (x ∷ [])) (Choose (sig c) (list (num 1 ∷ num 2 ∷ [])) (sig y))) 1 0 ≡ numbers (1 ∷ 2 ∷ [])
unfolding computing
set_or_value = refl

-- x := {i : i in 0..2, i < c}; where c is 2
below_c : x_at (set (path (x ∷ [])) (Each (w i) (span 0 2) (Some (Compare op.Less (sig i) (sig c))) 0)) 2 0 ≡ numbers (0 ∷ 1 ∷ [])
unfolding computing
below_c = refl

-- the same where c is 0: no member, so every value
below_none : x_at (set (path (x ∷ [])) (Each (w i) (span 0 2) (Some (Compare op.Less (sig i) (sig c))) 0)) 0 0 ≡ numbers (0 ∷ 1 ∷ 2 ∷ [])
unfolding computing
below_none = refl

-- next(x) := y; the right side is read in the state before
reads-before : base_allows (with_signals (next (path (x ∷ [])) (sig y))) (element (x ∷ []) []) (Some (state ((y ∷ [], 1) ∷ []))) (state ((y ∷ [], 2) ∷ [])) ≡ numbers (1 ∷ [])
unfolding computing
reads-before = refl

-- x := y; the right side is read in the same state
reads-now : base_allows (with_signals (set (path (x ∷ [])) (sig y))) (element (x ∷ []) []) (Some (state ((y ∷ [], 1) ∷ []))) (state ((y ∷ [], 2) ∷ [])) ≡ numbers (2 ∷ [])
unfolding computing
reads-now = refl

-- init(x) := c; next(x) := y; at time 0 `init` counts
starts : base_allows (with_signals (Block (init (path (x ∷ [])) (sig c) ∷ next (path (x ∷ [])) (sig y) ∷ []))) (element (x ∷ []) []) None (state ((c ∷ [], 2) ∷ (y ∷ [], 1) ∷ [])) ≡ numbers (2 ∷ [])
unfolding computing
starts = refl

-- x : array 0..3 of 0..1; c : 0..3; y : array 0..1 of 0..1; statement
abbrev with_array : Stmt → Text
with_array st = module_main (declare x (Array (span 0 3) (span 0 1)) ∷ declare c (span 0 3) ∷ declare y (Array (span 0 1) (span 0 1)) ∷ act st ∷ [])

-- what x[k] may be at time 0 where c is 3
abbrev cell_at : Stmt → ℕ → List Value
cell_at st k = base_allows (with_array st) (element (x ∷ []) (k ∷ [])) None (state ((c ∷ [], 3) ∷ []))

-- for (i = 1; i < 3; i = i + 2) x[i] := 1;
abbrev below_three : Stmt
below_three = For (w i) 1 3 false 2 (set (at x (sig i)) (num 1)) 0

-- the variable is 1
loop-below-1 : cell_at below_three 1 ≡ numbers (1 ∷ [])
unfolding computing
loop-below-1 = refl

-- 3 is not below 3: x[3] is free
loop-below-3 : cell_at below_three 3 ≡ numbers (0 ∷ 1 ∷ [])
unfolding computing
loop-below-3 = refl

-- for (i = 1; i <= 3; i = i + 2) x[i] := 1;
abbrev up_to_three : Stmt
up_to_three = For (w i) 1 3 true 2 (set (at x (sig i)) (num 1)) 0

-- the variable is 1 and 3
loop-up_to-3 : cell_at up_to_three 3 ≡ numbers (1 ∷ [])
unfolding computing
loop-up_to-3 = refl

-- a step of 2 leaves out 2
loop-up_to-2 : cell_at up_to_three 2 ≡ numbers (0 ∷ 1 ∷ [])
unfolding computing
loop-up_to-2 = refl

-- for (i = 2; i < 2; i = i + 1) x[i] := 1; has no turn, so x[2] is free
loop-without-turn : cell_at (For (w i) 2 2 false 1 (set (at x (sig i)) (num 1)) 0) 2 ≡ numbers (0 ∷ 1 ∷ [])
unfolding computing
loop-without-turn = refl

-- for (i = 0; i <= 1; i = i + 1) x[(i + 3) mod 4] := 1; the index is a constant: 3 and 0
loop-constant-index : map (cell_at (For (w i) 0 1 true 1 (set (at x (Modulo (plus (sig i) (num 3)) 4 0)) (num 1)) 0)) (0 ∷ 1 ∷ 2 ∷ 3 ∷ []) ≡ numbers (1 ∷ []) ∷ numbers (0 ∷ 1 ∷ []) ∷ numbers (0 ∷ 1 ∷ []) ∷ numbers (1 ∷ []) ∷ []
unfolding computing
loop-constant-index = refl

-- x[0 - 1] := 1; an Undefined index concerns no element, so x[0] is free at time 0
index-undefined-alone : cell_at (set (at x (minus (num 0) (num 1))) (num 1)) 0 ≡ numbers (0 ∷ 1 ∷ [])
unfolding computing
index-undefined-alone = refl

-- default x[0] := 1; in x[y[c]] := 1; where y[3] is outside its range: the index is Undefined, so every value
index-undefined-over : cell_at (Default (set (at x (num 0)) (num 1)) (set (at x (Signal (at y (sig c)))) (num 1)) 0) 0 ≡ numbers (0 ∷ 1 ∷ [])
unfolding computing
index-undefined-over = refl

-- default x[0] := 1; in x[c] := 0; where c is 3: another element's, so Nothing for x[0], and the default
index-elsewhere : cell_at (Default (set (at x (num 0)) (num 1)) (set (at x (sig c)) (num 0)) 0) 0 ≡ numbers (1 ∷ [])
unfolding computing
index-elsewhere = refl

-- next(x[c]) := 1; an index that is a signal concerns each element: x[0] keeps its value where c was 3
index-keeps : base_allows (with_array (next (at x (sig c)) (num 1))) (element (x ∷ []) (0 ∷ [])) (Some (state ((c ∷ [], 3) ∷ []))) (state []) ≡ numbers (0 ∷ [])
unfolding computing
index-keeps = refl

-- x : array 0..1 of array 0..1 of 0..2; forall (i in 0..1) x[1][i] := i;
abbrev written_index : Text
written_index = module_main (declare x (Array (span 0 1) (Array (span 0 1) (span 0 2))) ∷ act (Forall (w i) (span 0 1) (set (cell (num 1) (sig i)) (sig i)) 0) ∷ [])

-- x[1][1] is assigned where the variable is 1
written_index-1-1 : base_allows written_index (element (x ∷ []) (1 ∷ 1 ∷ [])) None (state []) ≡ numbers (1 ∷ [])
unfolding computing
written_index-1-1 = refl

-- x[0][1] has another written index: no assignment concerns it
written_index-0-1 : base_allows written_index (element (x ∷ []) (0 ∷ 1 ∷ [])) None (state []) ≡ numbers (0 ∷ 1 ∷ 2 ∷ [])
unfolding computing
written_index-0-1 = refl

-- r : array 0..1 of struct { a : boolean; b : array 0..2 of struct { c : 0..3; }; };
abbrev deep : Text
deep = module_main (declare r (Array (span 0 1) (Struct (field.roll-Field (record { names = w a ∷ []; of = Boolean; at = 0 })
    ∷ field.roll-Field (record { names = w b ∷ []; of = Array (span 0 2) (Struct (field.roll-Field (record { names = w c ∷ []; of = span 0 3; at = 0 }) ∷ [])); at = 0 }) ∷ []))) ∷ [])

-- the indexes stand from the outside in: r[i].b[j].c
deep-families : (design_of deep).families ≡ record { path = dotted (r ∷ a ∷ []); over = range 0 1 ∷ []; value = range 0 1; is_abstract = false }
    ∷ record { path = dotted (r ∷ b ∷ c ∷ []); over = range 0 1 ∷ range 0 2 ∷ []; value = range 0 3; is_abstract = false } ∷ []
unfolding computing
deep-families = refl

-- module g(a, b) { input a : boolean; output b : boolean; b := ~a; }
-- module f(c, s) { input c : boolean; output s : boolean; n : g(c, s); }
-- module main() { x, y : boolean; m : f(x, y); }
abbrev inner_instance : Text
inner_instance = record {
  tops =
      Module (w g) (w a ∷ w b ∷ []) (Declare Input (w a ∷ []) Boolean 0 ∷ Declare Output (w b ∷ []) Boolean 0 ∷ act (set (path (b ∷ [])) (Not (sig a) 0)) ∷ []) 0
      ∷ Module (w f) (w c ∷ w s ∷ []) (Declare Input (w c ∷ []) Boolean 0 ∷ Declare Output (w s ∷ []) Boolean 0 ∷ Instance (w n ∷ []) (w g) (sig c ∷ sig s ∷ []) 0 ∷ []) 0
      ∷ Module main [] (declare x Boolean ∷ declare y Boolean ∷ Instance (w m ∷ []) (w f) (sig x ∷ sig y ∷ []) 0 ∷ []) 0 ∷ [];
}

-- x, y, m.c, m.s, m.n.a and m.n.b, in this order
inner-paths : map (λ fam. fam.path) (design_of inner_instance).families ≡ dotted (x ∷ []) ∷ dotted (y ∷ []) ∷ dotted (m ∷ c ∷ []) ∷ dotted (m ∷ s ∷ []) ∷ dotted (m ∷ n ∷ a ∷ []) ∷ dotted (m ∷ n ∷ b ∷ []) ∷ []
unfolding computing
inner-paths = refl

-- m.c := x
inner-outer-input : base_allows inner_instance (element (m ∷ c ∷ []) []) None (state ((x ∷ [], 1) ∷ [])) ≡ numbers (1 ∷ [])
unfolding computing
inner-outer-input = refl

-- m.n.a := m.c: the argument is read in the instance m
inner-inner-input : base_allows inner_instance (element (m ∷ n ∷ a ∷ []) []) None (state ((m ∷ c ∷ [], 1) ∷ [])) ≡ numbers (1 ∷ [])
unfolding computing
inner-inner-input = refl

-- m.n.b := ~m.n.a
inner-body : base_allows inner_instance (element (m ∷ n ∷ b ∷ []) []) None (state ((m ∷ n ∷ a ∷ [], 1) ∷ [])) ≡ numbers (0 ∷ [])
unfolding computing
inner-body = refl

-- m.s := m.n.b
inner-inner-output : base_allows inner_instance (element (m ∷ s ∷ []) []) None (state ((m ∷ n ∷ b ∷ [], 1) ∷ [])) ≡ numbers (1 ∷ [])
unfolding computing
inner-inner-output = refl

-- y := m.s
inner-outer-output : base_allows inner_instance (element (y ∷ []) []) None (state ((m ∷ s ∷ [], 1) ∷ [])) ≡ numbers (1 ∷ [])
unfolding computing
inner-outer-output = refl

-- module g(a) { input a : 0..3; }  module main() { m, n : g({1, 2}); }
abbrev set_argument : Text
set_argument = record {
  tops = Module (w g) (w a ∷ []) (Declare Input (w a ∷ []) (span 0 3) 0 ∷ []) 0
      ∷ Module main [] (Instance (w m ∷ w n ∷ []) (w g) (list (num 1 ∷ num 2 ∷ []) ∷ []) 0 ∷ []) 0 ∷ [];
}

-- a set as an argument is a free choice, and each of the two instances has its own
set_argument-second : base_allows set_argument (element (n ∷ a ∷ []) []) None (state []) ≡ numbers (1 ∷ 2 ∷ [])
unfolding computing
set_argument-second = refl

-- y : {r, g}; y := r;
abbrev colour : Text
colour = module_main (declare y (Enum (w r ∷ w g ∷ []) 0) ∷ act (set (path (y ∷ [])) (sig r)) ∷ [])

-- a name that is no signal and no variable is a constant
colour-red : base_allows colour (element (y ∷ []) []) None (state []) ≡ constant (r ∷ []) ∷ []
unfolding computing
colour-red = refl

-- scalarset t undefined; ordset s undefined; x : t; y : array s of t; x := {i : i in t}; forall (j in s) y[j] := x;
abbrev set_types : Text
set_types = record {
  tops = SetType (w t) false None 0 ∷ SetType (w s) true None 0
      ∷ Module main [] (declare x (Named (w t) 0) ∷ declare y (Array (Named (w s) 0) (Named (w t) 0)) ∷ act (set (path (x ∷ [])) (Each (w i) (Named (w t) 0) None 0))
      ∷ item.Forall (w j) (Named (w s) 0) (act (set (at y (sig j)) (sig x))) 0 ∷ []) 0 ∷ [];
}

-- at size 3 x may be each of three values
set_types-free : base_allows set_types (element (x ∷ []) []) None (state []) ≡ scalar (t ∷ []) 0 ∷ scalar (t ∷ []) 1 ∷ scalar (t ∷ []) 2 ∷ []
unfolding computing
set_types-free = refl

-- each y[j] is x
set_types-each : base_allows set_types (record { path = dotted (y ∷ []); indexes = ordinal (s ∷ []) 2 ∷ [] }) None (λ p vs. scalar (t ∷ []) 1) ≡ scalar (t ∷ []) 1 ∷ []
unfolding computing
set_types-each = refl

-- f : array 0..1 of 0..2; forall (i in 0..1) next(f[i]) := f[i]; an unknown function
abbrev unknown_function : Text
unknown_function = module_main (declare f (Array (span 0 1) (span 0 2)) ∷ item.Forall (w i) (span 0 1) (act (next (at f (sig i)) (Signal (at f (sig i))))) 0 ∷ [])

-- at time 0 its value at 1 is any
unknown_function-first : base_allows unknown_function (element (f ∷ []) (1 ∷ [])) None (state []) ≡ numbers (0 ∷ 1 ∷ 2 ∷ [])
unfolding computing
unknown_function-first = refl

-- and it stays so
unknown_function-later : base_allows unknown_function (element (f ∷ []) (1 ∷ [])) (Some (state ((f ∷ [], 2) ∷ []))) (state []) ≡ numbers (2 ∷ [])
unfolding computing
unknown_function-later = refl

-- abstract s : boolean; nothing defines it
abbrev undefined_abstract : Text
undefined_abstract = module_main (Declare Abstract (w s ∷ []) Boolean 0 ∷ [])

-- an abstract signal without a layer is free
undefined_abstract-base : base_of (design_of undefined_abstract) (record { path = dotted (s ∷ []); over = []; value = range 0 1; is_abstract = true }) ≡ None
unfolding computing
undefined_abstract-base = refl

-- x : array 0..1 of boolean; layer t : { init(x[0]) := 1; } layer t : { init(x[1]) := 0; }, two places of one layer
abbrev two_places : Text
two_places = module_main (declare x (Array (span 0 1) Boolean) ∷ Layer (w t) (init (at x (num 0)) (num 1) ∷ []) 0 ∷ Layer (w t) (init (at x (num 1)) (num 0) ∷ []) 0 ∷ [])

-- one unit, x//t
two_places-units : units (design_of two_places) ≡ map_of (t ∷ []) (record { path = dotted (x ∷ []); over = range 0 1 ∷ []; value = range 0 1; is_abstract = false }) ∷ []
unfolding computing
two_places-units = refl

-- its instances are the elements
two_places-instances : instances (design_of two_places) threes (map_of (t ∷ []) (record { path = dotted (x ∷ []); over = range 0 1 ∷ []; value = range 0 1; is_abstract = false })) ≡ numbers (0 ∷ []) ∷ numbers (1 ∷ []) ∷ []
unfolding computing
two_places-instances = refl

-- the second place counts for x[1]
two_places-second : allowed (design_of two_places) threes (Some (t ∷ [])) (element (x ∷ []) (1 ∷ [])) None (state []) ≡ numbers (0 ∷ [])
unfolding computing
two_places-second = refl

-- forall (i in 0..1) forall (j in 0..2) p : assert G i = j; a claim's instances give a value to each variable, from the outside in
claim-instances : instances (design_of (module_main [])) threes (claim_of (record { instance = []; name = 112 ∷ []; params = (i ∷ [], span 0 1) ∷ (j ∷ [], span 0 2) ∷ []; body = eq (sig i) (sig j) }))
    ≡ numbers (0 ∷ 0 ∷ []) ∷ numbers (0 ∷ 1 ∷ []) ∷ numbers (0 ∷ 2 ∷ []) ∷ numbers (1 ∷ 0 ∷ []) ∷ numbers (1 ∷ 1 ∷ []) ∷ numbers (1 ∷ 2 ∷ []) ∷ []
unfolding computing
claim-instances = refl

-- the claim that is met in flat order has the variables of both binders
claim-met : units (design_of (module_main (item.Forall (w i) (span 0 1) (item.Forall (w j) (span 0 2) (Claim (w 112) (w i ∷ w j ∷ []) (eq (sig i) (sig j)) 0) 0) 0 ∷ [])))
    ≡ claim_of (record { instance = []; name = 112 ∷ []; params = (i ∷ [], span 0 1) ∷ (j ∷ [], span 0 2) ∷ []; body = eq (sig i) (sig j) }) ∷ []
unfolding computing
claim-met = refl
