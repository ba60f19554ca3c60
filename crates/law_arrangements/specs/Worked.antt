-- Worked arrangements: what the demands of now allow a signal in a state, which signals nothing depends on, and the lists of a case with a wire.
use Rattle.std.specs.Prelude.{◌≡◌, ℕ, zero, suc, List, [], ◌∷◌, map, slice_index_or, None, Bool, true, false, codes}
use Rattle.smv_core.specs.Values.{Name, number, scalar}
use Rattle.smv_core.specs.declared.tree.Op.TheVariants.{Equal}
use Rattle.smv_core.specs.declared.flat.Simple.{Simple}
use Rattle.smv_core.specs.declared.flat.Simple.TheVariants.{Range, Set}
use Rattle.smv_core.specs.declared.flat.Family.{Family}
use Rattle.smv_core.specs.declared.flat.Def.{Def}
use Rattle.smv_core.specs.declared.flat.DefBody.{DefBody, Nothing, Assign, First}
use Rattle.smv_core.specs.declared.flat.FlatExpr.{FlatExpr, Number, Read, Not, Compare, List as Listed}
use Rattle.smv_core.specs.declared.flat.FlatMember.{One}
use Rattle.smv_core.specs.declared.abstract_type.Rest.TheVariants as beside
use Rattle.law_obligations.specs.Places.{Place, named, rest, World, world}
use Rattle.law_obligations.specs.May.{AbsState}
use Rattle.law_obligations.specs.Obligations.{Demanded, defined, holds, is_met, obligation}
use Rattle.law_obligations.specs.Cones.{AbsElement, element, kept}
use Rattle.law_obligations.specs.Readings.{PosedCase}
use Rattle.smv_rings.specs.Lists.{Lists}
use Rattle.law_arrangements.specs.Arrangements.{Arrangement, allowed}
use Rattle.law_arrangements.specs.ArrangedLists.{lists_over}

abbrev pub family : Name → List Simple → Simple → Family
family name over value = record { name = name; over = over; value = value; is_abstract = false; at = 0 }

-- scalarset P, of which a case has no class; a, w, y : boolean; n : 0..2; z : array 0..1 of boolean; d : P
abbrev pub small : World
small = world
    (record {
      sets = record { name = codes "P"; ordered = false; size = None } ∷ [];
      enums = [];
      families = family (codes "a") [] (Range 0 1) ∷ family (codes "w") [] (Range 0 1) ∷ family (codes "y") [] (Range 0 1) ∷ family (codes "n") [] (Range 0 2)
          ∷ family (codes "z") (Range 0 1 ∷ []) (Range 0 1) ∷ family (codes "d") [] (Set 0) ∷ [];
      sizes = λ name. 1;
    })
    (λ name. record { named = 0; rest = beside.One })

abbrev pub it : ℕ → AbsElement
it family = element family []

abbrev pub at : ℕ → ℕ → AbsElement
at family k = element family (named (number k) ∷ [])

abbrev pub one : ℕ → FlatExpr
one family = Read family [] 0

abbrev pub num : ℕ → FlatExpr
num k = Number k 0

-- a signal by `:=`, and one by `init` and `next`
abbrev pub always : ℕ → DefBody → Def
always family comb = record { family = family; layer = None; init = Nothing; next = Nothing; comb = comb; place = 0; at = 0 }

abbrev pub stepwise : ℕ → FlatExpr → FlatExpr → Def
stepwise family init next = record { family = family; layer = None; init = Assign [] init 0 0; next = Assign [] next 0 0; comb = Nothing; place = 0; at = 0 }

-- a case with these elements and demands, of a claim
abbrev pub case : List AbsElement → List Demanded → List Demanded → FlatExpr → PosedCase
case elements now before claim = record { problem = record { world = small; kept = kept elements; now = now; before = before; target = holds claim []; guards = []; params = [] }; elements = elements }

-- the values of a, w, n and z; y is 0, and d at the rest
abbrev pub state : ℕ → ℕ → ℕ → ℕ → AbsState
state a w n z zero indexes = named (number a)
state a w n z (suc zero) indexes = named (number w)
state a w n z (suc (suc zero)) indexes = named (number 0)
state a w n z (suc (suc (suc zero))) indexes = named (number n)
state a w n z (suc (suc (suc (suc zero)))) indexes = named (number z)
state a w n z _ indexes = rest (scalar (codes "P") 0)

abbrev pub these : List ℕ → List Place
these ks = map (λ k. named (number k)) ks

-- what `w := e` allows w in a state, where it is demanded of now
abbrev pub w_is : FlatExpr → Demanded
w_is e = defined (always 1 (Assign [] e 0 0)) []

abbrev pub all_elements : List AbsElement
all_elements = it 0 ∷ it 1 ∷ it 2 ∷ it 3 ∷ at 4 0 ∷ at 4 1 ∷ it 5 ∷ []

abbrev pub values : FlatExpr → AbsState → List Place
values e s = allowed (case all_elements (w_is e ∷ []) [] (one 1)) (w_is e ∷ []) None s (it 1)

-- `w := a` allows w the value of a, whatever w is
abbrev pub Wires : Type 0
Wires = (values (one 0) (state 0 0 0 0) ≡ these (0 ∷ [])) × (values (one 0) (state 0 1 0 0) ≡ these (0 ∷ []))
    × (values (one 0) (state 1 0 0 0) ≡ these (1 ∷ [])) × (values (one 0) (state 1 1 0 0) ≡ these (1 ∷ []))

-- a choice `w := {0, 1}`, a rest that is compared with itself, `w := d = d`, and an index that is outside, `w := z[n]` with n = 2, allow both; with n = 1 the index is inside
abbrev pub Choices : Type 0
Choices = (values (Listed (One (num 0) ∷ One (num 1) ∷ []) 0) (state 0 0 0 0) ≡ these (0 ∷ 1 ∷ []))
    × (values (Compare Equal (one 5) (one 5)) (state 0 0 0 0) ≡ these (0 ∷ 1 ∷ []))
    × (values (Read 4 (one 3 ∷ []) 0) (state 0 0 2 1) ≡ these (0 ∷ 1 ∷ []))
    × (values (Read 4 (one 3 ∷ []) 0) (state 0 0 1 1) ≡ these (1 ∷ []))

-- a signal that its own map speaks of: `w := ~w` allows none, `w := w` each
abbrev pub OwnMaps : Type 0
OwnMaps = (values (Not (one 1) 0) (state 0 0 0 0) ≡ []) × (values (one 1) (state 0 0 0 0) ≡ these (0 ∷ 1 ∷ []))

-- a use up to the time before demands nothing now
abbrev pub UsesBefore : Type 0
UsesBefore = allowed (case all_elements [] (w_is (one 0) ∷ []) (one 1)) [] None (state 0 0 0 0) (it 1) ≡ these (0 ∷ 1 ∷ [])

-- `z[0] := a; z[1] := w`, with the claim z[1]: a state where z is 0, and where z[0] or z[1] is 1
abbrev pub z_is : ℕ → Demanded
z_is k = defined (always 4 (First (Assign (num 0 ∷ []) (one 0) 0 0 ∷ Assign (num 1 ∷ []) (one 1) 0 0 ∷ []))) (named (number k) ∷ [])

abbrev pub copies : PosedCase
copies = case (it 0 ∷ it 1 ∷ at 4 0 ∷ at 4 1 ∷ []) (z_is 0 ∷ z_is 1 ∷ []) [] (Read 4 (num 1 ∷ []) 0)

abbrev pub with_z : ℕ → ℕ → AbsState
with_z first second (suc (suc (suc (suc zero)))) (named (number zero) ∷ []) = named (number first)
with_z first second (suc (suc (suc (suc zero)))) indexes = named (number second)
with_z first second family indexes = named (number 1)

-- what is asked of z[1], and the claim, are as they are whatever z[0] is; the claim depends on z[1]; and z[0] may go on, as a
abbrev pub Unread : Type 0
Unread = (is_met copies.problem None (with_z 0 1) (z_is 1) ≡ is_met copies.problem None (with_z 1 1) (z_is 1))
    × ((obligation copies.problem).broken None (with_z 0 1) ≡ (obligation copies.problem).broken None (with_z 1 1))
    × ((obligation copies.problem).broken None (with_z 0 1) ≡ false)
    × ((obligation copies.problem).broken None (with_z 0 0) ≡ true)
    × (allowed copies (z_is 0 ∷ z_is 1 ∷ []) None (with_z 0 1) (at 4 0) ≡ these (1 ∷ []))

-- a is free, `w := a`, and y is 0 first and then w; w has no bit, and a stands before y
abbrev pub delayed : PosedCase
delayed = case (it 0 ∷ it 1 ∷ it 2 ∷ []) (w_is (one 0) ∷ defined (stepwise 2 (num 0) (one 1)) [] ∷ []) (w_is (one 2) ∷ []) (one 1)

abbrev pub wired : Arrangement
wired = record { determined = it 1 ∷ []; idle = []; order = 0 ∷ 2 ∷ [] }

-- the value of each function of a list where a, its next value, y and its next value are these
abbrev pub at_step : (Lists → List ((ℕ → Bool) → Bool)) → List Bool → List Bool
at_step list bits = map (λ f. f (λ v. slice_index_or bits v false)) (list (lists_over delayed wired))

-- Two functions say that y moves, which stands first, and that a has a value. y becomes w as it was, which is the old value of a and not its new one; what a demand of before asks of w stays, and asks it of the new a.
abbrev pub OldWires : Type 0
OldWires = (at_step (λ l. l.now_step) (true ∷ false ∷ false ∷ true ∷ []) ≡ true ∷ true ∷ [])
    × (at_step (λ l. l.now_step) (true ∷ false ∷ false ∷ false ∷ []) ≡ false ∷ true ∷ [])
    × (at_step (λ l. l.now_step) (false ∷ true ∷ false ∷ true ∷ []) ≡ false ∷ true ∷ [])
    × (at_step (λ l. l.before_step) (false ∷ true ∷ false ∷ true ∷ []) ≡ true ∷ [])
    × (at_step (λ l. l.before_step) (true ∷ false ∷ false ∷ true ∷ []) ≡ false ∷ [])
    × ((lists_over delayed wired).bits ≡ 2)
