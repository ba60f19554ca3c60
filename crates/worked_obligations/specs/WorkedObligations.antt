-- Worked obligations of small designs: cases that have, or have not, a violating path.
use Rattle.std.specs.Prelude.{◌≡◌, ℕ, List, [], ◌∷◌, map, get_or, Some, None, Bool, true, false, codes}
use Rattle.std.specs.List.{list_any}
use Rattle.smv_core.specs.Values.{number}
use Rattle.smv_core.specs.FlatMeaning.{Numbered}
use Rattle.smv_core.specs.declared.tree.Op.TheVariants.{Equal, Less}
use Rattle.smv_core.specs.declared.flat.Simple.TheVariants.{Range, Set}
use Rattle.smv_core.specs.declared.flat.Family.{Family}
use Rattle.smv_core.specs.declared.flat.Def.{Def}
use Rattle.smv_core.specs.declared.flat.Guard.{Guard}
use Rattle.smv_core.specs.declared.flat.DefBody.{Nothing, Assign, Forall}
use Rattle.smv_core.specs.declared.flat.FlatExpr.{FlatExpr, Read, Var, Not, And, Or, Implies, Compare, All, Any}
use Rattle.smv_core.specs.declared.abstract_type.Rest.TheVariants as beside
use Rattle.law_obligations.specs.Sets.{one_of_each}
use Rattle.law_obligations.specs.Circular.{is_violating}
use Rattle.law_obligations.specs.Places.{Place, named, rest, World, world, places_in}
use Rattle.law_obligations.specs.May.{AbsState}
use Rattle.law_obligations.specs.Obligations.{defined, holds, AbstractProblem, obligation}
use Rattle.worked_obligations.specs.Worked.{family, all_kept, p, i, signal, variable, num}

-- one set type and these families, in a case with so many classes
abbrev pub design : Bool → List Family → Numbered
design is_ordered families = record { sets = record { name = if_ordered is_ordered; ordered = is_ordered; size = None } ∷ []; enums = []; families = families; sizes = λ name. 1 }
  where
    if_ordered : Bool → List ℕ
    if_ordered true = codes "I"
    if_ordered false = codes "P"

abbrev pub scalars : List Family → ℕ → World
scalars families classes = world (design false families) (λ name. record { named = classes; rest = beside.One })

abbrev pub ordinals : List Family → ℕ → World
ordinals families classes = world (design true families) (λ name. record { named = classes; rest = beside.Gaps })

-- a state by the value of each family, whatever the indexes
abbrev pub state : List Place → AbsState
state values family indexes = get_or values family (named (number 0))

abbrev pub bit : ℕ → Place
bit k = named (number k)

abbrev pub bits : List ℕ → AbsState
bits ks = state (map bit ks)

-- a path of this problem violates it
abbrev pub violates : AbstractProblem → List AbsState → Bool
violates problem path = is_violating (obligation problem) path

-- some path of one state, or of two states, whose families have these values violates it
abbrev pub some_state : AbstractProblem → List (List Place) → Bool
some_state problem values = list_any (λ vs. violates problem (state vs ∷ [])) (one_of_each values)

abbrev pub some_step : AbstractProblem → List (List Place) → Bool
some_step problem values = list_any (λ vs. list_any (λ us. violates problem (state vs ∷ state us ∷ [])) (one_of_each values)) (one_of_each values)

-- a claim alone
abbrev pub claim_of : World → List Place → FlatExpr → AbstractProblem
claim_of w params body = record { world = w; kept = all_kept; now = []; before = []; target = holds body params; guards = []; params = params }

abbrev pub guard : ℕ → FlatExpr → Guard
guard var e = record { expr = e; var = var; over = Set 0; at = 0 }

-- a, b : P; claim a = b -> a = b
abbrev pub twice_equal : FlatExpr
twice_equal = Implies (Compare Equal (signal 0) (signal 1) ∷ Compare Equal (signal 0) (signal 1) ∷ [])

abbrev pub two_of_P : List Family
two_of_P = family (codes "a") [] (Set 0) ∷ family (codes "b") [] (Set 0) ∷ []

-- without a split both may be at the rest, which may be equal there and unequal there; split by a = i, the one case has no violating state
abbrev pub SplitHelps : Type 0
SplitHelps = (violates (claim_of (scalars two_of_P 0) [] twice_equal) (state (rest (p 0) ∷ rest (p 0) ∷ []) ∷ []) ≡ true)
    × (some_state (record (claim_of (scalars two_of_P 1) (named (p 0) ∷ []) twice_equal) { guards = guard 0 (signal 0) ∷ [] })
    (places_in (scalars two_of_P 1) (Set 0) ∷ places_in (scalars two_of_P 1) (Set 0) ∷ []) ≡ false)

-- ordset I; claim i < j | i = j | j < i for all i and j: none of the cases #0 #0, #0 #1 and #1 #0 has a violating state
abbrev pub trichotomy : FlatExpr
trichotomy = Or (Compare Less (Var 0 0) (Var 1 0) ∷ Compare Equal (Var 0 0) (Var 1 0) ∷ Compare Less (Var 1 0) (Var 0 0) ∷ [])

abbrev pub OrderIsTotal : Type 0
OrderIsTotal = (some_state (claim_of (ordinals [] 1) (named (i 0) ∷ named (i 0) ∷ []) trichotomy) [] ≡ false)
    × (some_state (claim_of (ordinals [] 2) (named (i 0) ∷ named (i 1) ∷ []) trichotomy) [] ≡ false)
    × (some_state (claim_of (ordinals [] 2) (named (i 1) ∷ named (i 0) ∷ []) trichotomy) [] ≡ false)

-- a, b, c : I; claim a < b & b < c -> a < c
abbrev pub transitive : FlatExpr
transitive = Implies (And (Compare Less (signal 0) (signal 1) ∷ Compare Less (signal 1) (signal 2) ∷ []) ∷ Compare Less (signal 0) (signal 2) ∷ [])

abbrev pub three_of_I : List Family
three_of_I = family (codes "a") [] (Set 0) ∷ family (codes "b") [] (Set 0) ∷ family (codes "c") [] (Set 0) ∷ []

abbrev pub split_twice : ℕ → List Place → AbstractProblem
split_twice classes params = record (claim_of (ordinals three_of_I classes) params transitive) { guards = guard 0 (signal 0) ∷ guard 1 (signal 1) ∷ [] }

abbrev pub three_places : ℕ → List (List Place)
three_places classes = places_in (ordinals three_of_I classes) (Set 0) ∷ places_in (ordinals three_of_I classes) (Set 0) ∷ places_in (ordinals three_of_I classes) (Set 0) ∷ []

-- without a split all three may be in gap 0; split by a = i and b = j no case has a violating state
abbrev pub SplitOrders : Type 0
SplitOrders = (violates (claim_of (ordinals three_of_I 0) [] transitive) (state (rest (i 0) ∷ rest (i 0) ∷ rest (i 0) ∷ []) ∷ []) ≡ true)
    × (some_state (split_twice 1 (named (i 0) ∷ named (i 0) ∷ [])) (three_places 1) ≡ false)
    × (some_state (split_twice 2 (named (i 0) ∷ named (i 1) ∷ [])) (three_places 2) ≡ false)
    × (some_state (split_twice 2 (named (i 1) ∷ named (i 0) ∷ [])) (three_places 2) ≡ false)

-- v : array P of boolean; claims &[v[j] : j in P] -> |[v[j] : j in P], with no value named, and &[v[j] : j in P] -> v[k] for all k
abbrev pub one_array : List Family
one_array = family (codes "v") (Set 0 ∷ []) (Range 0 1) ∷ []

abbrev pub Reductions : Type 0
Reductions = (violates (claim_of (scalars one_array 0) [] (Implies (All (Read 0 (Var 0 0 ∷ []) 0) 0 (Set 0) 0 ∷ Any (Read 0 (Var 0 0 ∷ []) 0) 0 (Set 0) 0 ∷ []))) (bits [] ∷ []) ≡ true)
    × (some_state (claim_of (scalars one_array 1) (named (p 0) ∷ []) (Implies (All (Read 0 (Var 1 0 ∷ []) 0) 1 (Set 0) 0 ∷ Read 0 (variable ∷ []) 0 ∷ []))) ((bit 0 ∷ bit 1 ∷ []) ∷ []) ≡ false)

-- d : P; v : array P of boolean; init(v[j]) := 0 for all j, next(v[d]) := 1; claim ~v[k] for all k
abbrev pub written : List Family
written = family (codes "d") [] (Set 0) ∷ family (codes "v") (Set 0 ∷ []) (Range 0 1) ∷ []

abbrev pub writes : Def
writes = record { family = 1; layer = None; init = Forall 0 (Set 0) (Assign (variable ∷ []) (num 0) 0 0); next = Assign (signal 0 ∷ []) (num 1) 1 0; comb = Nothing; place = 0; at = 0 }

abbrev pub never_written : AbstractProblem
never_written = record (claim_of (scalars written 1) (named (p 0) ∷ []) (Not (Read 1 (variable ∷ []) 0) 0)) { now = defined writes (named (p 0) ∷ []) ∷ [] }

-- v[#0] is written where d was #0, and kept where d was at the rest
abbrev pub WrittenIndex : Type 0
WrittenIndex = (violates never_written (state (named (p 0) ∷ bit 0 ∷ []) ∷ state (rest (p 0) ∷ bit 1 ∷ []) ∷ []) ≡ true)
    × (violates never_written (state (named (p 0) ∷ bit 0 ∷ []) ∷ []) ≡ false)
    × (violates never_written (state (rest (p 0) ∷ bit 0 ∷ []) ∷ state (named (p 0) ∷ bit 1 ∷ []) ∷ []) ≡ false)
    × (violates never_written (state (named (p 0) ∷ bit 1 ∷ []) ∷ []) ≡ false)

-- x : boolean; claims p and q are x; p may use q before, q may use p now
abbrev pub only_x : World
only_x = scalars (family (codes "x") [] (Range 0 1) ∷ []) 0

abbrev pub EachOther : Type 0
EachOther = (violates (record (claim_of only_x [] (signal 0)) { before = holds (signal 0) [] ∷ [] }) (bits (0 ∷ []) ∷ []) ≡ true)
    × (some_state (record (claim_of only_x [] (signal 0)) { now = holds (signal 0) [] ∷ [] }) ((bit 0 ∷ bit 1 ∷ []) ∷ []) ≡ false)

-- a, b : boolean; next(a) := b, next(b) := a, init(b) := 0; a layer says a := 0 and b := 0; each is proved with the other before
abbrev pub two_bits : World
two_bits = scalars (family (codes "a") [] (Range 0 1) ∷ family (codes "b") [] (Range 0 1) ∷ []) 0

abbrev pub stepping : ℕ → ℕ → ℕ → Def
stepping of first after = record { family = of; layer = None; init = Assign [] (num first) 0 0; next = Assign [] (signal after) 0 0; comb = Nothing; place = 0; at = 0 }

abbrev pub zeroed : ℕ → Def
zeroed of = record { family = of; layer = Some 0; init = Nothing; next = Nothing; comb = Assign [] (num 0) 0 0; place = 0; at = 0 }

abbrev pub map_problem : Def → Def → Def → AbstractProblem
map_problem target base used = record { world = two_bits; kept = all_kept; now = defined base [] ∷ []; before = defined used [] ∷ []; target = defined target []; guards = []; params = [] }

abbrev pub both_bits : List (List Place)
both_bits = (bit 0 ∷ bit 1 ∷ []) ∷ (bit 0 ∷ bit 1 ∷ []) ∷ []

-- with init(a) := 0 neither map has a violating path of one or two states; with init(a) := 1 the map of a has one at time 0, and the map of b still has none
abbrev pub MutualMaps : Type 0
MutualMaps = (some_state (map_problem (zeroed 0) (stepping 0 0 1) (zeroed 1)) both_bits ≡ false)
    × (some_step (map_problem (zeroed 0) (stepping 0 0 1) (zeroed 1)) both_bits ≡ false)
    × (violates (map_problem (zeroed 0) (stepping 0 1 1) (zeroed 1)) (bits (1 ∷ 0 ∷ []) ∷ []) ≡ true)
    × (some_state (map_problem (zeroed 1) (stepping 1 0 0) (zeroed 0)) both_bits ≡ false)
    × (some_step (map_problem (zeroed 1) (stepping 1 0 0) (zeroed 0)) both_bits ≡ false)

-- a map is broken where its value is not certain to be allowed, though it may be: x := (d = d) ? 1 : 0 with d at the rest; and always at an index at a rest
abbrev pub uncertain : List Family
uncertain = family (codes "d") [] (Set 0) ∷ family (codes "x") [] (Range 0 1) ∷ family (codes "v") (Set 0 ∷ []) (Range 0 1) ∷ []

abbrev pub compared : Def
compared = record { family = 1; layer = Some 0; init = Nothing; next = Nothing; comb = Assign [] (Compare Equal (signal 0) (signal 0)) 0 0; place = 0; at = 0 }

abbrev pub all_one : Def
all_one = record { family = 2; layer = Some 0; init = Nothing; next = Nothing; comb = Forall 0 (Set 0) (Assign (variable ∷ []) (num 1) 0 0); place = 0; at = 0 }

abbrev pub map_alone : ℕ → Def → List Place → AbstractProblem
map_alone classes def indexes = record { world = scalars uncertain classes; kept = all_kept; now = []; before = []; target = defined def indexes; guards = []; params = indexes }

abbrev pub CertainMaps : Type 0
CertainMaps = (violates (map_alone 0 compared []) (state (rest (p 0) ∷ bit 1 ∷ []) ∷ []) ≡ true)
    × (violates (record (map_alone 0 compared []) { now = defined compared [] ∷ [] }) (state (rest (p 0) ∷ bit 1 ∷ []) ∷ []) ≡ true)
    × (violates (map_alone 1 all_one (named (p 0) ∷ [])) (state (rest (p 0) ∷ bit 0 ∷ bit 1 ∷ []) ∷ []) ≡ false)
    × (violates (map_alone 1 all_one (named (p 0) ∷ [])) (state (rest (p 0) ∷ bit 0 ∷ bit 0 ∷ []) ∷ []) ≡ true)
    × (violates (map_alone 1 all_one (rest (p 0) ∷ [])) (state (rest (p 0) ∷ bit 0 ∷ bit 1 ∷ []) ∷ []) ≡ true)
