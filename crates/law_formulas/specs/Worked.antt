-- Worked texts with formulas, and their translations.
use Rattle.std.specs.Prelude.{zero, suc, ◌+◌, ◌≡◌, ℕ, List, [], ◌∷◌, ◌++◌, codes, Some, None, true, false}
use Rattle.smv_core.specs.Values.{Name, number}
use Rattle.smv_core.specs.FlatOrder.{design_of}
use Rattle.smv_core.specs.Outcome.{State, Scene}
use Rattle.smv_core.specs.Walk.{Element}
use Rattle.smv_core.specs.Allowed.{allowed, scene_at}
use Rattle.smv_core.specs.Grammar.{named}
use Rattle.smv_core.specs.declared.tree.Word.{Word}
use Rattle.smv_core.specs.declared.tree.Op.TheVariants as op
use Rattle.smv_core.specs.declared.tree.Part.{At}
use Rattle.smv_core.specs.declared.tree.Path.{Path}
use Rattle.smv_core.specs.declared.tree.Signed.{roll-Signed}
use Rattle.smv_core.specs.declared.tree.Expr.{Expr, Number, Signal, Not, And, Or, Implies, Compare, Sum}
use Rattle.smv_core.specs.declared.tree.TypeExpr.{TypeExpr, Boolean, Named, Array}
use Rattle.smv_core.specs.declared.tree.Kind.TheVariants.{Init, Next}
use Rattle.smv_core.specs.declared.tree.Stmt.{Stmt, Assign}
use Rattle.smv_core.specs.declared.tree.Stmt as stmt
use Rattle.smv_core.specs.declared.tree.Role.TheVariants.{Plain, Abstract}
use Rattle.smv_core.specs.declared.tree.Item.{Item, Declare, Instance, Layer, Forall, Claim, Act}
use Rattle.smv_core.specs.declared.tree.Top.TheVariants.{SetType, Module}
use Rattle.smv_core.specs.declared.tree.Text.{Text}
use Rattle.law_formulas.specs.Formulas.{Formula, now, next, when, weak, FormulaText, AlwaysHolds}
use Rattle.law_formulas.specs.Monitors.{translated_by}
use Rattle.law_formulas.specs.Ninths.{first_ninth}

-- ---- short words for trees

abbrev pub w : List ℕ → Word
w name = record { name = name; at = 0 }

abbrev pub sig : List ℕ → Expr
sig name = Signal (named (w name) [])

abbrev pub at : List ℕ → List ℕ → Path
at name index = named (w name) (At (sig index) ∷ [])

abbrev pub num : ℕ → Expr
num n = Number n 0

-- `~ ((e) = 0)`
abbrev pub lasts : Expr → Expr
lasts e = Not (Compare op.Equal e (num 0)) 0

abbrev pub declare : List ℕ → TypeExpr → Item
declare name t = Declare Plain (w name ∷ []) t 0

abbrev pub init : Path → Expr → Stmt
init p e = Assign Init p e 0

abbrev pub next_is : Path → Expr → Stmt
next_is p e = Assign Next p e 0

abbrev pub main_with : List Item → Text
main_with items = record { tops = Module (w (codes "main")) [] items 0 ∷ [] }

abbrev pub x : Expr
x = sig (codes "x")

abbrev pub m0 : Expr
m0 = sig (codes "m0")

-- x : boolean; init(x) := 0; next(x) := ~x;
abbrev pub toggle : List Item
toggle = declare (codes "x") Boolean ∷ Act (init (named (w (codes "x")) []) (num 0)) ∷ Act (next_is (named (w (codes "x")) []) (Not x 0)) ∷ []

-- module main() { x : boolean; init(x) := 0; next(x) := ~x; p : assert G f; }, where f stands at 57
abbrev pub toggle_claims : Formula → FormulaText
toggle_claims f = record { text = main_with (toggle ++ Claim (w (codes "p")) [] (Number 1 57) 0 ∷ []); formulas = (57, f) ∷ [] }

-- p : assert G body; abstract m0 : boolean; layer m1 : { init ( m0 ) := 0 ; next ( m0 ) := value ; }
abbrev pub toggle_watched : Expr → Expr → Text
toggle_watched body value =
    main_with (toggle ++ Claim (w (codes "p")) [] body 0 ∷ Declare Abstract (w (codes "m0") ∷ []) Boolean 0
    ∷ Layer (w (codes "m1")) (init (named (w (codes "m0")) []) (num 0) ∷ next_is (named (w (codes "m0")) []) value ∷ []) 0 ∷ [])

-- none of them is a name of the text
abbrev pub names : List Name
names = codes "m0" ∷ codes "m1" ∷ []

-- `if (x) X (~x)`, `X (x)` under the same condition, `W (x, 0)`, and `if (x) x`, which needs no monitor
abbrev pub TogglesAreTranslated : Type 0
TogglesAreTranslated =
    (translated_by names (toggle_claims (when x (next 64 (now (Not x 0))))) ≡ toggle_watched (Implies (m0 ∷ Not x 0 ∷ [])) (And (num 1 ∷ lasts x ∷ [])))
    × (translated_by names (toggle_claims (when x (next 64 (now x)))) ≡ toggle_watched (Implies (m0 ∷ x ∷ [])) (And (num 1 ∷ lasts x ∷ [])))
    × (translated_by names (toggle_claims (weak x (num 0))) ≡ toggle_watched (Implies (Or (num 1 ∷ m0 ∷ []) ∷ Or (num 0 ∷ x ∷ []) ∷ [])) (And (Or (num 1 ∷ m0 ∷ []) ∷ Not (num 0) 0 ∷ [])))
    × (translated_by names (toggle_claims (when x (now x))) ≡ main_with (toggle ++ Claim (w (codes "p")) [] (Implies (x ∷ x ∷ [])) 0 ∷ []))

-- ---- runs of the toggle

abbrev pub nothing_bound : Scene
nothing_bound = scene_at (design_of (main_with toggle)) (λ name. 1) []

abbrev pub all_of : ℕ → State
all_of value path indexes = number value

-- x is 0, 1, 0: `if (x) X (~x)` holds at each time, also at the last one; `if (x) X (x)` fails at time 1, and `W (x, 0)` at time 0
abbrev pub TogglesHold : Type 0
TogglesHold =
    let run : List State = all_of 0 ∷ all_of 1 ∷ all_of 0 ∷ [] in
    AlwaysHolds nothing_bound [] (when x (next 64 (now (Not x 0)))) run
    × (AlwaysHolds nothing_bound [] (when x (next 64 (now x))) run → ⊥)
    × (AlwaysHolds nothing_bound [] (weak x (num 0)) run → ⊥)
    × AlwaysHolds nothing_bound [] (when x (next 64 (next 66 (now (num 0))))) run

-- ---- stages with conditions, parameters and instances

abbrev pub named_type : List ℕ → TypeExpr
named_type name = Named (w name) 0

-- scalarset P undefined;
-- module cell() { f : array P of boolean; a : boolean; forall (i in P) p[i] : assert G if (a) X (if (f[i]) X (W (a, f[i]))); q : assert G X (X (a)); r : assert G a; }
-- module main() { c, d : cell(); }
abbrev pub f_i : Expr
f_i = Signal (at (codes "f") (codes "i"))

abbrev pub a : Expr
a = sig (codes "a")

abbrev pub for_each : Item → Item
for_each item = Forall (w (codes "i")) (named_type (codes "P")) item 0

abbrev pub act_for_each : Stmt → Stmt
act_for_each act = stmt.Forall (w (codes "i")) (named_type (codes "P")) act 0

abbrev pub cells : Expr → Expr → List Item → Text
cells p q more = record {
  tops =
      SetType (w (codes "P")) false None 0
      ∷ Module (w (codes "cell")) [] (declare (codes "f") (Array (named_type (codes "P")) Boolean) ∷ declare (codes "a") Boolean
      ∷ for_each (Claim (w (codes "p")) (w (codes "i") ∷ []) p 0) ∷ Claim (w (codes "q")) [] q 0 ∷ Claim (w (codes "r")) [] a 0 ∷ more) 0
      ∷ Module (w (codes "main")) [] (Instance (w (codes "c") ∷ w (codes "d") ∷ []) (w (codes "cell")) [] 0 ∷ []) 0 ∷ [];
}

abbrev pub cell_formulas : FormulaText
cell_formulas = record {
  text = cells (Number 1 100) (Number 1 200) [];
  formulas = (100, when a (next 101 (when f_i (next 102 (weak a f_i))))) ∷ (200, next 201 (next 202 (now a))) ∷ [];
}

abbrev pub cell_names : List Name
cell_names = codes "m0" ∷ codes "m2" ∷ codes "m3" ∷ codes "m4" ∷ codes "m5" ∷ codes "m6" ∷ []

-- the monitor of this name at i
abbrev pub m_i : List ℕ → Expr
m_i name = Signal (at name (codes "i"))

abbrev pub watch_each : List ℕ → Item
watch_each name = Declare Abstract (w name ∷ []) (Array (named_type (codes "P")) Boolean) 0

abbrev pub watch : List ℕ → Item
watch name = Declare Abstract (w name ∷ []) Boolean 0

abbrev pub defined_each : List ℕ → Expr → List Stmt
defined_each name e = act_for_each (init (at name (codes "i")) (num 0)) ∷ act_for_each (next_is (at name (codes "i")) e) ∷ []

abbrev pub defined_once : List ℕ → Expr → List Stmt
defined_once name e = init (named (w name) []) (num 0) ∷ next_is (named (w name) []) e ∷ []

-- where m1 is a name of the text, the monitors are m0, m2, m3, then m4, m5, and the layer m6
abbrev pub CellsAreTranslated : Type 0
CellsAreTranslated = translated_by cell_names cell_formulas ≡ cells
    (Implies (Or (m_i (codes "m2") ∷ m_i (codes "m3") ∷ []) ∷ Or (f_i ∷ a ∷ []) ∷ []))
    (Implies (sig (codes "m5") ∷ a ∷ []))
    (watch_each (codes "m0") ∷ watch_each (codes "m2") ∷ watch_each (codes "m3") ∷ watch (codes "m4") ∷ watch (codes "m5")
    ∷ Layer (w (codes "m6")) (
    defined_each (codes "m0") (And (num 1 ∷ lasts a ∷ []))
    ++ defined_each (codes "m2") (And (m_i (codes "m0") ∷ lasts f_i ∷ []))
    ++ defined_each (codes "m3") (And (Or (m_i (codes "m2") ∷ m_i (codes "m3") ∷ []) ∷ Not f_i 0 ∷ []))
    ++ defined_once (codes "m4") (num 1)
    ++ defined_once (codes "m5") (sig (codes "m4"))) 0 ∷ [])

-- ---- Undefined outcomes

-- `0 - 1`
abbrev pub undefined : Expr
undefined = Sum (num 0) (roll-Signed (record { minus = true; of = num 1 }) ∷ [])

abbrev pub m0_element : Element
m0_element = record { path = codes "m0" ∷ []; indexes = [] }

-- under a condition that is Undefined, and under `W (p, q)` where q is, a monitor may have both values: a run of the design does not extend in one way alone
abbrev pub MonitorsAreNotUnique : Type 0
MonitorsAreNotUnique =
    (allowed (design_of (translated_by names (toggle_claims (when undefined (next 64 (now x)))))) (λ name. 1) (Some (codes "m1")) m0_element (Some (all_of 0)) (all_of 0) ≡ number 0 ∷ number 1 ∷ [])
    × (allowed (design_of (translated_by names (toggle_claims (weak x undefined)))) (λ name. 1) (Some (codes "m1")) m0_element (Some (all_of 0)) (all_of 0) ≡ number 0 ∷ number 1 ∷ [])
    × (allowed (design_of (translated_by names (toggle_claims (when undefined (next 64 (now x)))))) (λ name. 1) (Some (codes "m1")) m0_element None (all_of 0) ≡ number 0 ∷ [])

-- ---- the ninth X

-- so many X around an expression, from this offset on, each `X (` three bytes long
abbrev pub nested : ℕ → ℕ → Formula
nested at zero = now x
nested at (suc n) = next at (nested (at + 3) n)

-- nine are one too many, at the ninth; also in the second formula, and under a condition
abbrev pub NinthsAreFound : Type 0
NinthsAreFound =
    (first_ninth ((57, nested 57 8) ∷ []) ≡ None) × (first_ninth ((57, nested 57 9) ∷ []) ≡ Some 81)
    × (first_ninth ((57, weak x x) ∷ (100, when x (nested 107 10)) ∷ (200, nested 200 9) ∷ []) ≡ Some 131)
