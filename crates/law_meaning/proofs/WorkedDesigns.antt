-- Worked designs: what the text outside layers allows an element. Each answer is worked out from the rules of the language. All elements that a state does not name are 0.
use Rattle.std.proofs.Common.{◌≡◌, [], ◌∷◌, refl, Some, None, true, false}
use Rattle.smv_core.specs.Values.{range}
use Rattle.smv_core.specs.Types.{Family}
use Rattle.smv_core.specs.FlatOrder.{design_of}
use Rattle.smv_core.specs.Allowed.{base_of}
use Rattle.smv_core.specs.Sound.{units, map_of}
use Rattle.smv_core.specs.declared.tree.Text.{Text}
use Rattle.smv_core.specs.declared.tree.Top.TheVariants.{Alias, Module}
use Rattle.smv_core.specs.declared.tree.TypeExpr.{Boolean, Array, Struct, Named}
use Rattle.smv_core.specs.declared.tree.Field as field
use Rattle.smv_core.specs.declared.tree.Path.{roll-Path}
use Rattle.smv_core.specs.declared.tree.Part.{At, Field as Dot}
use Rattle.smv_core.specs.declared.tree.Role.TheVariants.{Abstract, Input, Output}
use Rattle.smv_core.specs.declared.tree.Expr.{Not}
use Rattle.smv_core.specs.declared.tree.Stmt.{Block, If, Switch, Default, For, Forall}
use Rattle.smv_core.specs.declared.tree.Arm.{roll-Arm}
use Rattle.smv_core.specs.declared.tree.Item.{Declare, Instance, Layer}
use Rattle.law_meaning.proofs.Built.{computing, w, a, b, c, i, m, n, s, t, x, y, z, sig, num, plus, span, at, path, declare, act, set, init, next, module_main, if_then, state, element, numbers, base_allows, dotted, main}

-- x : 0..1; init(x) := 1; next(x) := x + 1;
abbrev counter : Text
counter = module_main (declare x (span 0 1) ∷ act (init (path (x ∷ [])) (num 1)) ∷ act (next (path (x ∷ [])) (plus (sig x) (num 1))) ∷ [])

-- at time 0 x is 1, by `init`
counter-first : base_allows counter (element (x ∷ []) []) None (state []) ≡ numbers (1 ∷ [])
unfolding computing
counter-first = refl

-- from x = 0 to 1
counter-steps : base_allows counter (element (x ∷ []) []) (Some (state [])) (state []) ≡ numbers (1 ∷ [])
unfolding computing
counter-steps = refl

-- from x = 1 the sum 2 is outside the type, so every value
counter-outside : base_allows counter (element (x ∷ []) []) (Some (state ((x ∷ [], 1) ∷ []))) (state []) ≡ numbers (0 ∷ 1 ∷ [])
unfolding computing
counter-outside = refl

-- x, c : 0..2; default x := 0; in if (c) x := 1;
abbrev default_then : Text
default_then = module_main (declare x (span 0 2) ∷ declare c (span 0 2) ∷ act (Default (set (path (x ∷ [])) (num 0)) (if_then (sig c) (set (path (x ∷ [])) (num 1))) 0) ∷ [])

-- c is 1: the `if` gives 1, and the default does not count
default_then-yes : base_allows default_then (element (x ∷ []) []) None (state ((c ∷ [], 1) ∷ [])) ≡ numbers (1 ∷ [])
unfolding computing
default_then-yes = refl

-- c is 0: the `if` gives Nothing, so the default counts
default_then-no : base_allows default_then (element (x ∷ []) []) None (state ((c ∷ [], 0) ∷ [])) ≡ numbers (0 ∷ [])
unfolding computing
default_then-no = refl

-- c is 2, neither 0 nor 1, and one branch gives a result: every value
default_then-neither : base_allows default_then (element (x ∷ []) []) None (state ((c ∷ [], 2) ∷ [])) ≡ numbers (0 ∷ 1 ∷ 2 ∷ [])
unfolding computing
default_then-neither = refl

-- x, c : 0..2; default if (c) x := 1; in x := 0;
abbrev default_over : Text
default_over = module_main (declare x (span 0 2) ∷ declare c (span 0 2) ∷ act (Default (if_then (sig c) (set (path (x ∷ [])) (num 1))) (set (path (x ∷ [])) (num 0)) 0) ∷ [])

-- the second part always gives 0, so the first never counts
default_over-yes : base_allows default_over (element (x ∷ []) []) None (state ((c ∷ [], 1) ∷ [])) ≡ numbers (0 ∷ [])
unfolding computing
default_over-yes = refl

-- the same where c is 0
default_over-no : base_allows default_over (element (x ∷ []) []) None (state ((c ∷ [], 0) ∷ [])) ≡ numbers (0 ∷ [])
unfolding computing
default_over-no = refl

-- x, c : 0..2; if (c) x := 1;
abbrev if_alone : Text
if_alone = module_main (declare x (span 0 2) ∷ declare c (span 0 2) ∷ act (if_then (sig c) (set (path (x ∷ [])) (num 1))) ∷ [])

-- c is 1: x is 1
if_alone-yes : base_allows if_alone (element (x ∷ []) []) None (state ((c ∷ [], 1) ∷ [])) ≡ numbers (1 ∷ [])
unfolding computing
if_alone-yes = refl

-- c is 0: Nothing under `:=` leaves x free
if_alone-free : base_allows if_alone (element (x ∷ []) []) None (state ((c ∷ [], 0) ∷ [])) ≡ numbers (0 ∷ 1 ∷ 2 ∷ [])
unfolding computing
if_alone-free = refl

-- c is 2: every value
if_alone-neither : base_allows if_alone (element (x ∷ []) []) None (state ((c ∷ [], 2) ∷ [])) ≡ numbers (0 ∷ 1 ∷ 2 ∷ [])
unfolding computing
if_alone-neither = refl

-- x, c : 0..2; if (c) c := 1; else init(x) := 1;
abbrev if_of_others : Text
if_of_others = module_main (declare x (span 0 2) ∷ declare c (span 0 2) ∷ act (If (sig c) (set (path (c ∷ [])) (num 1)) (Some (init (path (x ∷ [])) (num 1))) 0) ∷ [])

-- c is 1: the branch assigns only c, so x is free at time 0
if_of_others-yes : base_allows if_of_others (element (x ∷ []) []) None (state ((c ∷ [], 1) ∷ [])) ≡ numbers (0 ∷ 1 ∷ 2 ∷ [])
unfolding computing
if_of_others-yes = refl

-- c is 0: x begins at 1
if_of_others-no : base_allows if_of_others (element (x ∷ []) []) None (state ((c ∷ [], 0) ∷ [])) ≡ numbers (1 ∷ [])
unfolding computing
if_of_others-no = refl

-- x, c : 0..2; switch (c) { 0, 1 : x := 1; }
abbrev switch_alone : Text
switch_alone = module_main (declare x (span 0 2) ∷ declare c (span 0 2) ∷ act (Switch (sig c) ((roll-Arm (record { labels = num 0 ∷ num 1 ∷ []; body = set (path (x ∷ [])) (num 1) })) ∷ []) None 0) ∷ [])

-- c is 1, a label of the arm
switch_alone-arm : base_allows switch_alone (element (x ∷ []) []) None (state ((c ∷ [], 1) ∷ [])) ≡ numbers (1 ∷ [])
unfolding computing
switch_alone-arm = refl

-- c is 2, in no arm and without a default: Nothing, so x is free
switch_alone-no-arm : base_allows switch_alone (element (x ∷ []) []) None (state ((c ∷ [], 2) ∷ [])) ≡ numbers (0 ∷ 1 ∷ 2 ∷ [])
unfolding computing
switch_alone-no-arm = refl

-- x, c : 0..2; switch (c) { 0, 1 : x := 1; default : x := 2; }
abbrev switch_else : Text
switch_else = module_main (declare x (span 0 2) ∷ declare c (span 0 2) ∷ act (Switch (sig c) ((roll-Arm (record { labels = num 0 ∷ num 1 ∷ []; body = set (path (x ∷ [])) (num 1) })) ∷ []) (Some (set (path (x ∷ [])) (num 2))) 0) ∷ [])

-- c is 0, a label of the arm
switch_else-arm : base_allows switch_else (element (x ∷ []) []) None (state ((c ∷ [], 0) ∷ [])) ≡ numbers (1 ∷ [])
unfolding computing
switch_else-arm = refl

-- c is 2: the default
switch_else-other : base_allows switch_else (element (x ∷ []) []) None (state ((c ∷ [], 2) ∷ [])) ≡ numbers (2 ∷ [])
unfolding computing
switch_else-other = refl

-- x, c : 0..2; if (c) next(x) := 1;
abbrev next_if : Text
next_if = module_main (declare x (span 0 2) ∷ declare c (span 0 2) ∷ act (if_then (sig c) (next (path (x ∷ [])) (num 1))) ∷ [])

-- without `init` x is free at time 0
next_if-first : base_allows next_if (element (x ∷ []) []) None (state ((c ∷ [], 1) ∷ [])) ≡ numbers (0 ∷ 1 ∷ 2 ∷ [])
unfolding computing
next_if-first = refl

-- c was 1: x becomes 1
next_if-sets : base_allows next_if (element (x ∷ []) []) (Some (state ((c ∷ [], 1) ∷ (x ∷ [], 2) ∷ []))) (state ([])) ≡ numbers (1 ∷ [])
unfolding computing
next_if-sets = refl

-- c was 0: no result of `next`, and some `next` concerns x, so it keeps its value 2
next_if-keeps : base_allows next_if (element (x ∷ []) []) (Some (state ((c ∷ [], 0) ∷ (x ∷ [], 2) ∷ []))) (state ([])) ≡ numbers (2 ∷ [])
unfolding computing
next_if-keeps = refl

-- x, c : 0..2; init(x) := 1;
abbrev no_next : Text
no_next = module_main (declare x (span 0 2) ∷ declare c (span 0 2) ∷ act (init (path (x ∷ [])) (num 1)) ∷ [])

-- at time 0 x is 1
no_next-first : base_allows no_next (element (x ∷ []) []) None (state ([])) ≡ numbers (1 ∷ [])
unfolding computing
no_next-first = refl

-- no `next` concerns x: later it is free
no_next-free : base_allows no_next (element (x ∷ []) []) (Some (state ((x ∷ [], 1) ∷ []))) (state ([])) ≡ numbers (0 ∷ 1 ∷ 2 ∷ [])
unfolding computing
no_next-free = refl

-- x, c : 0..2; { if (c) x := 1; x := 2; }
abbrev block_of_two : Text
block_of_two = module_main (declare x (span 0 2) ∷ declare c (span 0 2) ∷ act (Block (if_then (sig c) (set (path (x ∷ [])) (num 1)) ∷ set (path (x ∷ [])) (num 2) ∷ [])) ∷ [])

-- c is 1: the first result of a block counts
block_of_two-yes : base_allows block_of_two (element (x ∷ []) []) None (state ((c ∷ [], 1) ∷ [])) ≡ numbers (1 ∷ [])
unfolding computing
block_of_two-yes = refl

-- c is 0: the first part gives Nothing, so the second counts
block_of_two-no : base_allows block_of_two (element (x ∷ []) []) None (state ((c ∷ [], 0) ∷ [])) ≡ numbers (2 ∷ [])
unfolding computing
block_of_two-no = refl

-- x : array 0..3 of 0..1; for (i = 0; i < 4; i = i + 2) x[i] := 1;
abbrev every_other : Text
every_other = module_main (declare x (Array (span 0 3) (span 0 1)) ∷ act (For (w i) 0 4 false 2 (set (at x (sig i)) (num 1)) 0) ∷ [])

-- the variable is 0 and 2: x[0] is 1
every_other-0 : base_allows every_other (element (x ∷ []) (0 ∷ [])) None (state []) ≡ numbers (1 ∷ [])
unfolding computing
every_other-0 = refl

-- no turn concerns x[1]: free
every_other-1 : base_allows every_other (element (x ∷ []) (1 ∷ [])) None (state []) ≡ numbers (0 ∷ 1 ∷ [])
unfolding computing
every_other-1 = refl

-- x[2] is 1
every_other-2 : base_allows every_other (element (x ∷ []) (2 ∷ [])) None (state []) ≡ numbers (1 ∷ [])
unfolding computing
every_other-2 = refl

-- x : array 0..3 of 0..1; for (i = 0; i < 4; i = i + 2) if (0) next(x[i]) := 1;
abbrev every_other_next : Text
every_other_next = module_main (declare x (Array (span 0 3) (span 0 1)) ∷ act (For (w i) 0 4 false 2 (if_then (num 0) (next (at x (sig i)) (num 1))) 0) ∷ [])

-- x[0] is concerned by a `next` that gives Nothing: it keeps 0
every_other_next-0 : base_allows every_other_next (element (x ∷ []) (0 ∷ [])) (Some (state [])) (state []) ≡ numbers (0 ∷ [])
unfolding computing
every_other_next-0 = refl

-- x[1] is concerned by none: free
every_other_next-1 : base_allows every_other_next (element (x ∷ []) (1 ∷ [])) (Some (state [])) (state []) ≡ numbers (0 ∷ 1 ∷ [])
unfolding computing
every_other_next-1 = refl

-- x : array 0..1 of 0..2; c : 0..2; x[c] := 1;
abbrev by_signal : Text
by_signal = module_main (declare x (Array (span 0 1) (span 0 2)) ∷ declare c (span 0 2) ∷ act (set (at x (sig c)) (num 1)) ∷ [])

-- c is 1: x[1] is 1
by_signal-here : base_allows by_signal (element (x ∷ []) (1 ∷ [])) None (state ((c ∷ [], 1) ∷ [])) ≡ numbers (1 ∷ [])
unfolding computing
by_signal-here = refl

-- c is 1: x[0] is not assigned, so free
by_signal-elsewhere : base_allows by_signal (element (x ∷ []) (0 ∷ [])) None (state ((c ∷ [], 1) ∷ [])) ≡ numbers (0 ∷ 1 ∷ 2 ∷ [])
unfolding computing
by_signal-elsewhere = refl

-- x : array 0..1 of 0..2; forall (i in 0..1) x[i] := i + 1;
abbrev for_all : Text
for_all = module_main (declare x (Array (span 0 1) (span 0 2)) ∷ act (Forall (w i) (span 0 1) (set (at x (sig i)) (plus (sig i) (num 1))) 0) ∷ [])

-- x[0] is 0 + 1
for_all-0 : base_allows for_all (element (x ∷ []) (0 ∷ [])) None (state []) ≡ numbers (1 ∷ [])
unfolding computing
for_all-0 = refl

-- x[1] is 1 + 1
for_all-1 : base_allows for_all (element (x ∷ []) (1 ∷ [])) None (state []) ≡ numbers (2 ∷ [])
unfolding computing
for_all-1 = refl

-- typedef t struct { a : 0..2; b, c : boolean; }; s : array 0..1 of t; s[1].a := 2;
abbrev fields : Text
fields = record {
  tops =
      Alias (w t) (Struct (field.roll-Field (record { names = w a ∷ []; of = span 0 2; at = 0 }) ∷ field.roll-Field (record { names = w b ∷ w c ∷ []; of = Boolean; at = 0 }) ∷ [])) 0
      ∷ Module main [] (declare s (Array (span 0 1) (Named (w t) 0)) ∷ act (set (roll-Path (record { parts = Dot (w s) ∷ At (num 1) ∷ Dot (w a) ∷ []; at = 0 })) (num 2)) ∷ []) 0 ∷ [];
}

-- one family for each field, with the index of the array, in the order of the fields
fields-families : (design_of fields).families ≡ record { path = dotted (s ∷ a ∷ []); over = range 0 1 ∷ []; value = range 0 2; is_abstract = false } ∷ record { path = dotted (s ∷ b ∷ []); over = range 0 1 ∷ []; value = range 0 1; is_abstract = false } ∷ record { path = dotted (s ∷ c ∷ []); over = range 0 1 ∷ []; value = range 0 1; is_abstract = false } ∷ []
unfolding computing
fields-families = refl

-- s[1].a is 2
fields-set : base_allows fields (element (s ∷ a ∷ []) (1 ∷ [])) None (state []) ≡ numbers (2 ∷ [])
unfolding computing
fields-set = refl

-- s[0].a is not assigned
fields-free : base_allows fields (element (s ∷ a ∷ []) (0 ∷ [])) None (state []) ≡ numbers (0 ∷ 1 ∷ 2 ∷ [])
unfolding computing
fields-free = refl

-- module m(a, b) { input a : boolean; output b : boolean; b := ~a; }  main: x, y : boolean; n : m(x, y);
abbrev inverter : Text
inverter = record {
  tops =
      Module (w m) (w a ∷ w b ∷ []) (Declare Input (w a ∷ []) Boolean 0 ∷ Declare Output (w b ∷ []) Boolean 0 ∷ act (set (path (b ∷ [])) (Not (sig a) 0)) ∷ []) 0
      ∷ Module main [] (declare x Boolean ∷ declare y Boolean ∷ Instance (w n ∷ []) (w m) (sig x ∷ sig y ∷ []) 0 ∷ []) 0 ∷ [];
}

-- the signals of main, and then those of the instance
inverter-families : (design_of inverter).families ≡ record { path = dotted (x ∷ []); over = []; value = range 0 1; is_abstract = false } ∷ record { path = dotted (y ∷ []); over = []; value = range 0 1; is_abstract = false } ∷ record { path = dotted (n ∷ a ∷ []); over = []; value = range 0 1; is_abstract = false } ∷ record { path = dotted (n ∷ b ∷ []); over = []; value = range 0 1; is_abstract = false } ∷ []
unfolding computing
inverter-families = refl

-- the input is what the argument is: n.a := x
inverter-input : base_allows inverter (element (n ∷ a ∷ []) []) None (state ((x ∷ [], 1) ∷ [])) ≡ numbers (1 ∷ [])
unfolding computing
inverter-input = refl

-- in the body b is `~a`
inverter-body : base_allows inverter (element (n ∷ b ∷ []) []) None (state ((n ∷ a ∷ [], 1) ∷ [])) ≡ numbers (0 ∷ [])
unfolding computing
inverter-body = refl

-- the argument for the output is what the output is: y := n.b
inverter-output : base_allows inverter (element (y ∷ []) []) None (state ((n ∷ b ∷ [], 1) ∷ [])) ≡ numbers (1 ∷ [])
unfolding computing
inverter-output = refl

-- x has no definition
inverter-free : base_allows inverter (element (x ∷ []) []) None (state []) ≡ numbers (0 ∷ 1 ∷ [])
unfolding computing
inverter-free = refl

-- abstract s : boolean; x : boolean; layer t : { s := 0; x := 1; } layer z : { s := 1; }
abbrev layered : Text
layered = module_main (Declare Abstract (w s ∷ []) Boolean 0 ∷ declare x Boolean
    ∷ Layer (w t) (set (path (s ∷ [])) (num 0) ∷ set (path (x ∷ [])) (num 1) ∷ []) 0 ∷ Layer (w z) (set (path (s ∷ [])) (num 1) ∷ []) 0 ∷ [])

abbrev layered_s : Family
layered_s = record { path = dotted (s ∷ []); over = []; value = range 0 1; is_abstract = true }

abbrev layered_x : Family
layered_x = record { path = dotted (x ∷ []); over = []; value = range 0 1; is_abstract = false }

-- the layer t defines the abstract s first in flat order
layered-base_s : base_of (design_of layered) layered_s ≡ Some (Some (t ∷ []))
unfolding computing
layered-base_s = refl

-- x is not abstract: its base definition is that outside layers, which leaves it free
layered-base_x : base_of (design_of layered) layered_x ≡ Some None
unfolding computing
layered-base_x = refl

-- t is no unit of s, since it has its base definition; t of x comes first
layered-units : units (design_of layered) ≡ map_of (t ∷ []) layered_x ∷ map_of (z ∷ []) layered_s ∷ []
unfolding computing
layered-units = refl
