-- A reduced Tomasulo machine: one source operand, one result bus, and any number of registers, stations and words (Tomasulo, IBM Journal 1967; its proof McMillan, CAV 1998).
use Rattle.std.specs.Prelude.{ℕ, ◌+◌, List, [], ◌∷◌, ◌++◌, Option, Some, None, Bool, true, false, codes}
use Rattle.smv_core.specs.declared.tree.Op.TheVariants.{Equal}
use Rattle.smv_core.specs.declared.flat.Simple.{Simple}
use Rattle.smv_core.specs.declared.flat.Simple.TheVariants.{Range, Set}
use Rattle.smv_core.specs.declared.flat.SetInfo.{SetInfo}
use Rattle.smv_core.specs.declared.flat.Family.{Family}
use Rattle.smv_core.specs.declared.flat.Def.{Def}
use Rattle.smv_core.specs.declared.flat.Design.{Design}
use Rattle.smv_core.specs.declared.flat.Unit.TheVariants.{Map}
use Rattle.smv_core.specs.declared.flat.Param.{Param}
use Rattle.smv_core.specs.declared.flat.Guard.{Guard}
use Rattle.smv_core.specs.declared.flat.Pick.{Pick}
use Rattle.smv_core.specs.declared.flat.DefBody.{DefBody, Nothing, Assign, If, First, Forall}
use Rattle.smv_core.specs.declared.flat.FlatExpr.{FlatExpr, Number, Read, Var, Not, And, Or, Compare, Choose}
use Rattle.law_obligations.specs.Outlines.{Entry, Script}

-- the types
abbrev pub bit : Simple
bit = Range 0 1

abbrev pub word : Simple
word = Set 0

abbrev pub reg : Simple
reg = Set 1

abbrev pub tag : Simple
tag = Set 2

abbrev pub signal : List Simple → Simple → Bool → Family
signal over value is_abstract = record { name = []; over = over; value = value; is_abstract = is_abstract; at = 0 }

-- the families by their numbers
abbrev pub issue : ℕ
issue = 0

abbrev pub go : ℕ
go = 1

abbrev pub slot : ℕ
slot = 2

abbrev pub bt : ℕ
bt = 3

abbrev pub src : ℕ
src = 4

abbrev pub dst : ℕ
dst = 5

abbrev pub rd : ℕ
rd = 6

abbrev pub iss : ℕ
iss = 7

abbrev pub bv : ℕ
bv = 8

abbrev pub opa : ℕ
opa = 9

abbrev pub res : ℕ
res = 10

abbrev pub bw : ℕ
bw = 11

abbrev pub dout : ℕ
dout = 12

abbrev pub ir_resvd : ℕ
ir_resvd = 13

abbrev pub ir_tag : ℕ
ir_tag = 14

abbrev pub ir_val : ℕ
ir_val = 15

abbrev pub st_valid : ℕ
st_valid = 16

abbrev pub st_ga : ℕ
st_ga = 17

abbrev pub st_ta : ℕ
st_ta = 18

abbrev pub st_va : ℕ
st_va = 19

abbrev pub r : ℕ
r = 20

abbrev pub aux_a : ℕ
aux_a = 21

abbrev pub aux_res : ℕ
aux_res = 22

abbrev pub aux_src : ℕ
aux_src = 23

abbrev pub f : ℕ
f = 24

abbrev pub signals : List Family
signals = signal [] bit false ∷ signal [] bit false ∷ signal [] tag false ∷ signal [] tag false ∷ signal [] reg false ∷ signal [] reg false ∷ signal [] reg false
    ∷ signal [] bit false ∷ signal [] bit false ∷ signal [] word true ∷ signal [] word true ∷ signal [] word false ∷ signal [] word false
    ∷ signal (reg ∷ []) bit false ∷ signal (reg ∷ []) tag false ∷ signal (reg ∷ []) word false
    ∷ signal (tag ∷ []) bit false ∷ signal (tag ∷ []) bit false ∷ signal (tag ∷ []) tag false ∷ signal (tag ∷ []) word false
    ∷ signal (reg ∷ []) word true ∷ signal (tag ∷ []) word true ∷ signal (tag ∷ []) word true ∷ signal (tag ∷ []) reg true ∷ signal (word ∷ []) word false ∷ []

-- `x`, `x[e]`, `a = b`, `~e` and the variable of a `forall`
abbrev pub one : ℕ → FlatExpr
one family = Read family [] 0

abbrev pub at : ℕ → FlatExpr → FlatExpr
at family e = Read family (e ∷ []) 0

abbrev pub equal : FlatExpr → FlatExpr → FlatExpr
equal a b = Compare Equal a b

abbrev pub not' : FlatExpr → FlatExpr
not' e = Not e 0

abbrev pub i : FlatExpr
i = Var 0 0

abbrev pub num : ℕ → FlatExpr
num k = Number k 0

-- an assignment to a signal and to an element, and `if` without `else`
abbrev pub set : FlatExpr → DefBody
set e = Assign [] e 0 0

abbrev pub set_at : FlatExpr → FlatExpr → DefBody
set_at index e = Assign (index ∷ []) e 0 0

abbrev pub when : List FlatExpr → DefBody → DefBody
when conds body = If (And conds) body Nothing

-- a definition by `:=`, and one by `init` and `next`
abbrev pub always : ℕ → Option ℕ → DefBody → ℕ → Def
always family layer comb place = record { family = family; layer = layer; init = Nothing; next = Nothing; comb = comb; place = place; at = 0 }

abbrev pub stepwise : ℕ → Option ℕ → DefBody → DefBody → ℕ → Def
stepwise family layer init next place = record { family = family; layer = layer; init = init; next = next; comb = Nothing; place = place; at = 0 }

-- an instruction is issued to the register, or to the station, of the variable
abbrev pub issued : FlatExpr → List FlatExpr
issued here = one iss ∷ equal here i ∷ []

-- the bus has the result for which the register waits, and for which the station waits
abbrev pub is_returned : List FlatExpr
is_returned = one bv ∷ at ir_resvd i ∷ equal (at ir_tag i) (one bt) ∷ []

abbrev pub is_caught : List FlatExpr
is_caught = one bv ∷ not' (at st_ga i) ∷ equal (at st_ta i) (one bt) ∷ []

-- the implementation
abbrev pub machine : List Def
machine =
    always iss None (set (And (one issue ∷ not' (at st_valid (one slot)) ∷ []))) 0
    ∷ always bv None (set (And (one go ∷ at st_valid (one bt) ∷ at st_ga (one bt) ∷ []))) 1
    ∷ always bw None (set (at f (at st_va (one bt)))) 2
    ∷ always dout None (set (at ir_val (one rd))) 3
    ∷ stepwise f None Nothing (Forall 0 word (set_at i (at f i))) 4
    ∷ stepwise ir_resvd None (Forall 0 reg (set_at i (num 0))) (Forall 0 reg (First (when (issued (one dst)) (set_at i (num 1)) ∷ when is_returned (set_at i (num 0)) ∷ []))) 5
    ∷ stepwise ir_val None Nothing (Forall 0 reg (when is_returned (set_at i (one bw)))) 7
    ∷ stepwise ir_tag None Nothing (Forall 0 reg (when (issued (one dst)) (set_at i (one slot)))) 9
    ∷ stepwise st_valid None (Forall 0 tag (set_at i (num 0))) (Forall 0 tag (First (when (issued (one slot)) (set_at i (num 1)) ∷ when (one bv ∷ equal (one bt) i ∷ []) (set_at i (num 0)) ∷ []))) 10
    ∷ stepwise st_ga None Nothing (Forall 0 tag (First (when (issued (one slot)) (set_at i (Or (not' (at ir_resvd (one src)) ∷ And (one bv ∷ equal (at ir_tag (one src)) (one bt) ∷ []) ∷ [])))
    ∷ when is_caught (set_at i (num 1)) ∷ []))) 12
    ∷ stepwise st_va None Nothing (Forall 0 tag (First (when (issued (one slot)) (set_at i (Choose (at ir_resvd (one src)) (one bw) (at ir_val (one src)))) ∷ when is_caught (set_at i (one bw)) ∷ []))) 13
    ∷ stepwise st_ta None Nothing (Forall 0 tag (when (issued (one slot)) (set_at i (at ir_tag (one src))))) 16 ∷ []

-- the layer `arch`: the architecture, and what the output has to be
abbrev pub arch : List Def
arch =
    always opa (Some 0) (set (at r (one src))) 18
    ∷ always res (Some 0) (set (at f (one opa))) 19
    ∷ stepwise r (Some 0) (Forall 0 reg (set_at i (at ir_val i))) (If (one iss) (set_at (one dst) (one res)) Nothing) 20
    ∷ stepwise aux_a (Some 0) Nothing (Forall 0 tag (when (issued (one slot)) (set_at i (one opa)))) 22
    ∷ stepwise aux_res (Some 0) Nothing (Forall 0 tag (when (issued (one slot)) (set_at i (one res)))) 23
    ∷ stepwise aux_src (Some 0) Nothing (Forall 0 tag (when (issued (one slot)) (set_at i (one src)))) 24
    ∷ always dout (Some 0) (If (not' (at ir_resvd (one rd))) (set (at r (one rd))) Nothing) 25 ∷ []

-- the layer `lem`: the lemmas
abbrev pub lem : List Def
lem =
    always st_va (Some 1) (Forall 0 tag (when (at st_valid i ∷ at st_ga i ∷ []) (set_at i (at aux_a i)))) 26
    ∷ always bw (Some 1) (If (one bv) (set (at aux_res (one bt))) Nothing) 27
    ∷ always ir_val (Some 1) (Forall 0 reg (If (not' (at ir_resvd i)) (set_at i (at r i)) Nothing)) 28 ∷ []

abbrev pub undeclared : List ℕ → SetInfo
undeclared name = record { name = name; ordered = false; size = None }

abbrev pub tomasulo : Design
tomasulo = record {
  sets = undeclared (codes "WORD") ∷ undeclared (codes "REG") ∷ undeclared (codes "TAG") ∷ [];
  enums = [];
  layers = codes "arch" ∷ codes "lem" ∷ [];
  families = signals;
  defs = machine ++ arch ++ lem;
  claims = [];
  splits = [];
  uses = [];
}

-- parameters of these types, from a number on
abbrev pub params_from : ℕ → List Simple → List Param
params_from var [] = []
params_from var (over ∷ types) = record { var = var; over = over; name = [] } ∷ params_from (var + 1) types

abbrev pub guard : ℕ → Simple → FlatExpr → Guard
guard var over e = record { expr = e; var = var; over = over; at = 0 }

abbrev pub by_layer : ℕ → ℕ → Pick
by_layer family layer = record { family = family; layer = Some layer; early = false }

abbrev pub free : ℕ → Pick
free family = record { family = family; layer = None; early = false }

-- the leaf of a map by its place, with its parameters, guards and picks
abbrev pub leaf_of : ℕ → ℕ → List Simple → List Guard → List Pick → Entry
leaf_of unit def types guards picks = record {
  unit = Map def;
  leaf = record { unit = unit; name = []; params = params_from 0 types; guards = guards };
  choice = record { picks = picks; claims = []; itself = false; keeps = [] };
}

-- `rd1`, `va1`, `bw1` and `val1`
abbrev pub rd1 : Entry
rd1 = leaf_of 0 18 (reg ∷ word ∷ []) (guard 0 reg (one rd) ∷ guard 1 word (at r (one rd)) ∷ []) (by_layer ir_val 1 ∷ free r ∷ free ir_resvd ∷ [])

abbrev pub va1 : Entry
va1 = leaf_of 1 19 (tag ∷ tag ∷ reg ∷ word ∷ []) (guard 1 tag (at st_ta i) ∷ guard 2 reg (at aux_src i) ∷ guard 3 word (at aux_a i) ∷ []) (by_layer bw 1 ∷ by_layer ir_val 1 ∷ free res ∷ free bv ∷ [])

abbrev pub bw1 : Entry
bw1 = leaf_of 2 20 (tag ∷ word ∷ word ∷ []) (guard 0 tag (one bt) ∷ guard 1 word (at aux_a (one bt)) ∷ guard 2 word (at aux_res (one bt)) ∷ []) (by_layer st_va 1 ∷ free opa ∷ free st_ga ∷ [])

abbrev pub val1 : Entry
val1 = leaf_of 3 21 (reg ∷ tag ∷ word ∷ []) (guard 1 tag (at ir_tag i) ∷ guard 2 word (at r i) ∷ []) (by_layer bw 1 ∷ free res ∷ free bv ∷ [])

abbrev pub machine_script : Script
machine_script = record { design = tomasulo; entries = rd1 ∷ va1 ∷ bw1 ∷ val1 ∷ [] }
