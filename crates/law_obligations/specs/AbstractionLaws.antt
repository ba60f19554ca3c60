-- The laws: what the crate's public functions say.
use Rattle.std.specs.Prelude.{◌≡◌, ◌<◌, ℕ, List, map, length, slice_get, Option, Some, option_map, IfSome, Bool, true, false, ◌&&◌, nat_lt, ◌++◌, get_or}
use Rattle.smv_core.specs.Values.{Name, Value, number, range, choice, scalarset, ordset, Sizes}
use Rattle.smv_core.specs.FlatMeaning.{Numbered, FlatState, values_in, flat_outcome, flat_allowed_by, flat_allowed}
use Rattle.smv_core.specs.declared.flat.FlatExpr.{FlatExpr}
use Rattle.smv_core.specs.declared.flat.Def.{Def}
use Rattle.smv_core.specs.declared.flat.Family.{Family}
use Rattle.smv_core.specs.declared.flat.SetInfo.{SetInfo}
use Rattle.smv_core.specs.declared.flat.Guard.{Guard}
use Rattle.smv_core.specs.declared.flat.Param.{Param}
use Rattle.smv_core.specs.declared.flat.Keep.{Keep}
use Rattle.smv_core.specs.declared.flat.Simple.{Simple as FlatSimple}
use Rattle.smv_core.specs.declared.abstract_type.AbsType.{AbsType}
use Rattle.smv_core.specs.declared.abstract_type.Rest.TheVariants as beside
use Rattle.law_obligations.specs.Sets.{Has, one_of_each}
use Rattle.law_obligations.specs.Places.{World, world, places_in}
use Rattle.law_obligations.specs.May.{AbsState, Kept, may}
use Rattle.law_obligations.specs.Right.{may_allow, must_allow}
use Rattle.law_obligations.specs.Demands.{is_defined, is_broken_map, is_assumed, is_broken_claim, may_guard}
use Rattle.law_obligations.specs.Guards.{guard_holds, AreGuards}
use Rattle.law_obligations.specs.Bound.{AreAtClasses, IsSingle}
use Rattle.law_obligations.specs.Pictures.{Placing, placed, IsPlaced, ArePlaced, AreOfTypes, IsState, IsPicture, ArePictured, AreValues, KeepsNamed}
use Rattle.law_obligations.specs.Placings.{spot_by, spot_between, AreDistinct, AreBelow, AreRising, AreIn, HasRoom}
use Rattle.law_obligations.specs.Cases.{grow, used, Treatment, Parameter}
use Rattle.law_obligations.specs.LeafCases.{treatments_of, parameters_of}
use Rattle.law_obligations.specs.Covers.{AreApart, AreTreated, IsIndexType, AreCovered}
use Rattle.law_obligations.specs.Circular.{Circle, ShowsFailures, HasNoViolation, AlwaysHolds}
use Rattle.law_obligations.specs.Uses.{is_now, rank_of}
use Rattle.law_obligations.specs.Scopes.{ReadsOnly}
use Rattle.law_obligations.specs.FlatConflicts.{IsConflictFree}
use Rattle.law_obligations.specs.Soundness.{ProofPlan, IsPlan, HasNoViolatingPath, IsSoundPlan}

-- a rank that falls along the uses that are now
abbrev pub FallsAlong : (ℕ → ℕ → Bool) → (ℕ → ℕ) → Type 0
FallsAlong uses rank = (u v : ℕ) → uses u v ≡ true → rank v < rank u

-- where failures are shown, no case has a violating path and the uses that are now hold no cycle, every unit always holds: by time, and at one time in the order of the uses that are now
abbrev pub CircularInduction : Type 0 → Type 0 → Type 0 → Type 0 → Type 0
CircularInduction State Instance Case Picture =
    (circle : Circle State Instance Case (λ case. Picture)) (rank : ℕ → ℕ) → FallsAlong circle.uses_now rank → ShowsFailures circle → HasNoViolation circle → AlwaysHolds circle

-- the uses that are now hold no cycle: a rank falls along each
abbrev pub NowUsesFall : Type 0
NowUsesFall = (uses : ℕ → ℕ → Bool) (n u v : ℕ) → u < n → v < n → is_now uses n u v ≡ true → rank_of uses n v < rank_of uses n u

-- so of so many units the uses that are now fall in this order
abbrev pub NowUsesHaveOrder : Type 0
NowUsesHaveOrder = (uses : ℕ → ℕ → Bool) (n : ℕ) → FallsAlong (λ u v. nat_lt u n && (nat_lt v n && is_now uses n u v)) (rank_of uses n)

-- the three facts of ranges and enumerations, whose values are their own classes
abbrev pub PlainTypesArePlaced : Type 0
PlainTypesArePlaced = (sizes : Sizes) (w : World) (spots : Placing) →
    ((low high : ℕ) → IsPlaced sizes w (placed spots) (range low high)) × ((names : List Name) → IsPlaced sizes w (placed spots) (choice names))

-- the three facts of a scalarset: distinct values below its size are the classes, and all others, if there may be any, are at the rest
abbrev pub ScalarsetsArePlaced : Type 0
ScalarsetsArePlaced = (sizes : Sizes) (w : World) (spots : Placing) (t : Name) (values : List ℕ) → AreDistinct values → AreBelow (sizes t) values →
    HasRoom (w.rests t) (sizes t) values → w.classes.sizes t ≡ length values → ((k : ℕ) → spots t k ≡ spot_by values k) → IsPlaced sizes w (placed spots) (scalarset t)

-- the three facts of an ordset: rising values below its size are the classes, and each other is in the gap between the classes around it
abbrev pub OrdsetsArePlaced : Type 0
OrdsetsArePlaced = (sizes : Sizes) (w : World) (spots : Placing) (t : Name) (values : List ℕ) → AreRising (sizes t) values →
    w.rests t ≡ beside.Gaps → w.classes.sizes t ≡ length values → ((k : ℕ) → spots t k ≡ spot_between values k) → IsPlaced sizes w (placed spots) (ordset t)

-- what holds of every state of a design, under every placing that has the three facts of each of its types, in each of its pictures
abbrev pub InEachPicture : (Numbered → World → Placing → FlatState → Kept → AbsState → Type 0) → Type 0
InEachPicture Keeps =
    (n : Numbered) (types : Name → AbsType) (spots : Placing) → ArePlaced n (world n types) spots →
    (s : FlatState) → IsState n s → (kept : Kept) (a : AbsState) → IsPicture n spots kept s a → Keeps n (world n types) spots s kept a

-- what an expression has as its outcome in a state, it may have in the state's picture: for all sizes, also where nothing lies at a rest or in a gap
abbrev pub MayKeepsOutcomes : Type 0
MayKeepsOutcomes = InEachPicture (λ n w spots s kept a. (e : FlatExpr) (b : List Value) → AreValues n b →
    Has (may w kept a e (map (placed spots) b)) (option_map (placed spots) (flat_outcome n s e b)))

-- a value that a right side allows a target may be allowed in the picture
abbrev pub MayKeepsRightSides : Type 0
MayKeepsRightSides = InEachPicture (λ n w spots s kept a. (t : FlatSimple) (e : FlatExpr) (b : List Value) → AreValues n b → (v : Value) →
    Has (flat_allowed_by n s (values_in n t) e b) v → may_allow w kept a (places_in w t) e (map (placed spots) b) (placed spots v) ≡ true)

-- a value that is allowed in the picture for certain is allowed
abbrev pub MustKeepsRightSides : Type 0
MustKeepsRightSides = InEachPicture (λ n w spots s kept a. (t : FlatSimple) (e : FlatExpr) (b : List Value) → AreValues n b → (v : Value) → Has (values_in n t) v →
    must_allow w kept a (places_in w t) e (map (placed spots) b) (placed spots v) ≡ true → Has (flat_allowed_by n s (values_in n t) e b) v)

-- a definition that allows the value of an element at numbers, constants and classes is met in the picture, and a map that is not broken in the picture allows it
abbrev pub MapsAreKept : Type 0
MapsAreKept =
    (n : Numbered) (types : Name → AbsType) (spots : Placing) → ArePlaced n (world n types) spots → (kept : Kept) →
    (def : Def) (f : Family) → slice_get n.families def.family ≡ Some f → (indexes : List Value) → AreOfTypes n f.over indexes → AreAtClasses n spots indexes →
    kept def.family (map (placed spots) indexes) ≡ true → IsSingle n def indexes (values_in n f.value) →
    (now : FlatState) → IsState n now → (a : AbsState) → IsPicture n spots kept now a → (before : Option FlatState) (old : Option AbsState) → ArePictured n spots kept before old →
    (Has (flat_allowed n def (record { family = def.family; indexes = indexes }) (values_in n f.value) before now) (now def.family indexes) →
    is_defined (world n types) kept def (map (placed spots) indexes) old a ≡ true)
    × (is_broken_map (world n types) kept def (map (placed spots) indexes) old a ≡ false →
    Has (flat_allowed n def (record { family = def.family; indexes = indexes }) (values_in n f.value) before now) (now def.family indexes))

-- a claim that holds is met in the picture, and one that is not broken in the picture holds
abbrev pub ClaimsAreKept : Type 0
ClaimsAreKept = InEachPicture (λ n w spots s kept a. (body : FlatExpr) (b : List Value) → AreValues n b →
    (flat_outcome n s body b ≡ Some (number 1) → is_assumed w kept body (map (placed spots) b) a ≡ true)
    × (is_broken_claim w kept body (map (placed spots) b) a ≡ false → flat_outcome n s body b ≡ Some (number 1)))

-- for each state some value of a split's parameter meets the guard, where its type has a value at all
abbrev pub GuardsCover : Type 0
GuardsCover = (n : Numbered) (s : FlatState) (over : FlatSimple) (e : FlatExpr) (b : List Value) (v : Value) → Has (values_in n over) v →
    (i : Value) × Has (values_in n over) i × (guard_holds n s over e b i ≡ true)

-- for each state and all values of a unit's parameters some values of those that its splits add meet every guard
abbrev pub LeavesCover : Type 0
LeavesCover = (n : Numbered) (own added : List FlatSimple) (guards : List Guard) → AreGuards (length own) (own ++ added) guards →
    ((t : FlatSimple) → Has added t → (v : Value) × Has (values_in n t) v) → (s : FlatState) (values : List Value) → Has (one_of_each (map (values_in n) own)) values →
    (more : List Value) × Has (one_of_each (map (values_in n) added)) more
    × ((g : Guard) → Has guards g → guard_holds n s g.over g.expr (values ++ more) (get_or (values ++ more) g.var (number 0)) ≡ true)

-- a guard that holds may hold in the picture
abbrev pub GuardsAreKept : Type 0
GuardsAreKept = InEachPicture (λ n w spots s kept a. (over : FlatSimple) (e : FlatExpr) (b : List Value) → AreValues n b → (i : Value) → Has (values_in n over) i →
    guard_holds n s over e b i ≡ true → may_guard w kept over e (map (placed spots) b) (placed spots i) a ≡ true)

-- every state has a picture
abbrev pub PicturesExist : Type 0
PicturesExist = (n : Numbered) (types : Name → AbsType) (spots : Placing) → ArePlaced n (world n types) spots →
    (kept : Kept) → KeepsNamed (world n types) kept → (s : FlatState) → (a : AbsState) × IsPicture n spots kept s a

-- for all values of the listed parameters of a scalarset, however many it has, some classes that grow as the rules want have a placing that puts each parameter at its class
abbrev pub GrowingClassesCover : Type 0
GrowingClassesCover = (size : ℕ) (vs : List ℕ) → AreBelow size vs →
    (classes : List ℕ) × (grow 0 classes ≡ true) × (values : List ℕ) × AreDistinct values × AreBelow size values × (used classes ≡ length values) × AreIn values vs classes

-- for all sizes and all values of a leaf's parameters, however many its set types have, the list of cases has one under which each value stands at its class
abbrev pub CasesCover : Type 0
CasesCover =
    (n : Numbered) (treatments : List Treatment) → AreApart n.sets → AreTreated n.sizes n.sets treatments →
    (params : List Parameter) → ((p : Parameter) → Has params p → IsIndexType p.over) →
    (values : List Value) → Has (one_of_each (map (values_in n) (map (λ p. p.over) params))) values → AreCovered n treatments params values

-- so has the list of a leaf, by what its choice keeps, for all sizes that the set types of the design may have
abbrev pub LeafCasesCover : Type 0
LeafCasesCover =
    (n : Numbered) → AreApart n.sets → ((info : SetInfo) → Has n.sets info → IfSome info.size (λ size. n.sizes info.name ≡ size)) →
    (params : List Param) → ((p : Param) → Has params p → IsIndexType p.over) → (keeps : List Keep) →
    (values : List Value) → Has (one_of_each (map (values_in n) (map (λ p. p.over) params))) values →
    AreCovered n (treatments_of keeps 0 n.sets) (parameters_of keeps params) values

-- an outcome depends on no variable but those that the expression reads, among so many values
abbrev pub OutcomesKeepScopes : Type 0
OutcomesKeepScopes = (n : Numbered) (s : FlatState) (e : FlatExpr) (scope : ℕ → Bool) (b c : List Value) → ReadsOnly scope e → length b ≡ length c →
    ((k : ℕ) → scope k ≡ true → slice_get b k ≡ slice_get c k) → flat_outcome n s e b ≡ flat_outcome n s e c

-- where no two assignments of a definition conflict, at most one value of each `forall` variable gives an element a result
abbrev pub ConflictsLeaveOneResult : Type 0
ConflictsLeaveOneResult = (n : Numbered) (def : Def) (indexes every : List Value) → IsConflictFree (length indexes) def → IsSingle n def indexes every

-- where no case of any leaf has a violating path, every unit holds at every time of every run, for all sizes
abbrev pub NoViolatingPathIsSound : Type 0
NoViolatingPathIsSound = (plan : ProofPlan) → IsPlan plan → HasNoViolatingPath plan → IsSoundPlan plan
