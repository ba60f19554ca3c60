-- The problems of which the calls speak.
use Rattle.std.specs.Prelude.{◌≡◌, ◌≢◌, ◌≤◌, ◌<◌, ℕ, List, [], ◌∷◌, map, length, slice_get, Option, Some, None, Bool, true, false, not, ◌&&◌, ◌||◌, IsTrue}
use Rattle.std.specs.List.{list_all}
use Rattle.smv_core.specs.Values.{Name}
use Rattle.smv_core.specs.FlatMeaning.{Numbered}
use Rattle.smv_core.specs.declared.flat.SetInfo.{SetInfo}
use Rattle.smv_core.specs.declared.flat.Simple.{Simple}
use Rattle.smv_core.specs.declared.flat.Family.{Family}
use Rattle.smv_core.specs.declared.tree.Op.{Op}
use Rattle.smv_core.specs.declared.tree.Op.TheVariants.{Equal, Differ}
use Rattle.smv_core.specs.declared.flat.FlatMember.{One, Span as SpanOf}
use Rattle.smv_core.specs.declared.flat.FlatExpr.{FlatExpr, Number, Read', Var, Loop, Constant, Not', And', Or', Implies', Iff', Compare', Within', Sum', Modulo', Choose', All', Any', List', Each', None', Some', Row_of-FlatExpr, end_of-FlatExpr, more_of-FlatExpr, Row_of-FlatMember, end_of-FlatMember, more_of-FlatMember, Row_of-FlatSigned, end_of-FlatSigned, more_of-FlatSigned}
use Rattle.smv_core.specs.declared.flat.DefBody.{DefBody, Nothing, Assign, If', First', Forall', Row_of-DefBody, end_of-DefBody, more_of-DefBody}
use Rattle.smv_core.specs.declared.flat.Def.{Def}
use Rattle.smv_core.specs.declared.flat.Guard.{Guard}
use Rattle.smv_core.specs.declared.flat.FlatText.{FlatText}
use Rattle.law_obligations.specs.Sets.{Has}
use Rattle.law_obligations.specs.Places.{Place, is_named, World, places_in}
use Rattle.law_obligations.specs.May.{AbsState}
use Rattle.smv_core.specs.declared.abstract_type.Rest.TheVariants.{Gaps}
use Rattle.law_obligations.specs.Covers.{AreApart, IsIndexType}
use Rattle.law_obligations.specs.Soundness.{over_of}
use Rattle.law_obligations.specs.Pictures.{IsAbsState, AreNamedOf}
use Rattle.law_obligations.specs.Obligations.{Demanded, defined, holds}
use Rattle.law_obligations.specs.Cones.{AbsElement, element}
use Rattle.law_designs.specs.FlatKinds as kinds
use Rattle.law_designs.specs.FlatKinds.{FlatKind, set_type, FlatVars, kind_of}
use Rattle.law_obligations.specs.Readings.{PosedCase, IsCase, state_bits}
use Rattle.smv_problem.specs.declared.problem.AbsState.{AbsState as StateData}
use Rattle.smv_problem.specs.declared.problem.Problem.{Problem}
use Rattle.smv_problem.specs.Written.{written, written_state}
use Rattle.smv_core.specs.Rows.{one_flat_expr}

-- the constants of an enumeration are distinct
abbrev pub AreDistinct : List Name → Type 0
AreDistinct [] = Unit {0}
AreDistinct (name ∷ names) = ((other : Name) → Has names other → name ≢ other) × AreDistinct names

-- the set types, enumerations and families as a flattened text without items, for the rules of kinds
abbrev pub as_flat_text : Numbered → FlatText
as_flat_text n = record { sets = n.sets; enums = n.enums; layers = []; families = n.families; items = [] }

-- places of these types
abbrev pub AreOf : World → List Simple → List Place → Type 0
AreOf w [] [] = Unit {0}
AreOf w (t ∷ types) (p ∷ ps) = Has (places_in w t) p × AreOf w types ps
AreOf w _ _ = ⊥

-- no two elements are the same
abbrev pub AreApartElements : List AbsElement → Type 0
AreApartElements [] = Unit {0}
AreApartElements (x ∷ elements) = ((y : AbsElement) → Has elements y → x ≢ y) × AreApartElements elements

-- ---- orders of set types

abbrev pub is_order : Op → Bool
is_order Equal = false
is_order Differ = false
is_order op = true

abbrev pub is_ordset : Option SetInfo → Bool
is_ordset (Some info) = info.ordered
is_ordset None = false

abbrev pub has_order : FlatText → Option FlatKind → Bool
has_order flat_text (Some (set_type set)) = is_ordset (slice_get flat_text.sets set)
has_order flat_text kind = true

module _ (flat_text : FlatText) where
  abbrev mutual
    -- each order in an expression stands over numbers or an ordset
    pub keeps_orders : FlatVars → FlatExpr → Bool
    keeps_orders vars (Number value at) = true
    keeps_orders vars (Read' family shape indexes at) = all_keep_orders vars indexes
    keeps_orders vars (Var var at) = true
    keeps_orders vars (Loop value at) = true
    keeps_orders vars (Constant list value at) = true
    keeps_orders vars (Not' shape (one_flat_expr e) at) = keeps_orders vars e
    keeps_orders vars (And' shape parts) = all_keep_orders vars parts
    keeps_orders vars (Or' shape parts) = all_keep_orders vars parts
    keeps_orders vars (Implies' shape parts) = all_keep_orders vars parts
    keeps_orders vars (Iff' l (one_flat_expr left) r (one_flat_expr right)) = keeps_orders vars left && keeps_orders vars right
    keeps_orders vars (Compare' op l (one_flat_expr left) r (one_flat_expr right)) =
        (not (is_order op) || (has_order flat_text (kinds.kind_in flat_text vars left) && has_order flat_text (kinds.kind_in flat_text vars right))) && (keeps_orders vars left && keeps_orders vars right)
    keeps_orders vars (Within' l (one_flat_expr left) r (one_flat_expr set)) = keeps_orders vars left && keeps_orders vars set
    keeps_orders vars (Sum' f (one_flat_expr head) shape more) = keeps_orders vars head && signed_keep_orders vars more
    keeps_orders vars (Modulo' shape (one_flat_expr e) by at) = keeps_orders vars e
    keeps_orders vars (Choose' c (one_flat_expr cond) l (one_flat_expr left) r (one_flat_expr right)) =
        keeps_orders vars cond && (keeps_orders vars left && keeps_orders vars right)
    keeps_orders vars (All' shape (one_flat_expr body) var over at) = keeps_orders (kinds.inside vars over) body
    keeps_orders vars (Any' shape (one_flat_expr body) var over at) = keeps_orders (kinds.inside vars over) body
    keeps_orders vars (List' shape members at) = members_keep_orders vars members
    keeps_orders vars (Each' var over None' at) = true
    keeps_orders vars (Each' var over (Some' shape (one_flat_expr cond)) at) = keeps_orders (kinds.inside vars over) cond

    pub all_keep_orders : {m : _} → FlatVars → Row_of-FlatExpr m → Bool
    all_keep_orders vars end_of-FlatExpr = true
    all_keep_orders vars (more_of-FlatExpr e more) = keeps_orders vars e && all_keep_orders vars more

    pub signed_keep_orders : {m : _} → FlatVars → Row_of-FlatSigned m → Bool
    signed_keep_orders vars end_of-FlatSigned = true
    signed_keep_orders vars (more_of-FlatSigned minus e more) = keeps_orders vars e && signed_keep_orders vars more

    pub members_keep_orders : {m : _} → FlatVars → Row_of-FlatMember m → Bool
    members_keep_orders vars end_of-FlatMember = true
    members_keep_orders vars (more_of-FlatMember (One e) more) = keeps_orders vars e && members_keep_orders vars more
    members_keep_orders vars (more_of-FlatMember (SpanOf span at) more) = members_keep_orders vars more

-- ---- kinds and orders of definitions

-- no part of what a definition says of a family breaks a rule of kinds and orders, where these are the kinds of the variables around it
abbrev mutual
  pub is_part : FlatText → ℕ → FlatVars → DefBody → Bool
  is_part flat_text family vars Nothing = true
  is_part flat_text family vars (Assign left value place at) =
      kinds.assigns (kinds.element (slice_get flat_text.families family) (map (kinds.kind_in flat_text vars) left)) (kinds.value_in flat_text vars value) && (list_all (keeps_orders flat_text vars) left && keeps_orders flat_text vars value)
  is_part flat_text family vars (If' cond l (more_of-DefBody left end_of-DefBody) r (more_of-DefBody right end_of-DefBody)) =
      (kinds.takes FlatKind.number (kinds.kind_in flat_text vars cond) && keeps_orders flat_text vars cond) && (is_part flat_text family vars left && is_part flat_text family vars right)
  is_part flat_text family vars (First' shape parts) = are_parts flat_text family vars parts
  is_part flat_text family vars (Forall' var over shape (more_of-DefBody body end_of-DefBody)) = kinds.is_binder flat_text vars var over && is_part flat_text family (kinds.inside vars over) body

  pub are_parts : {m : _} → FlatText → ℕ → FlatVars → Row_of-DefBody m → Bool
  are_parts flat_text family vars end_of-DefBody = true
  are_parts flat_text family vars (more_of-DefBody part more) = is_part flat_text family vars part && are_parts flat_text family vars more

module _ (c : PosedCase) where
  abbrev pub names : FlatText
  names = as_flat_text c.problem.world.classes

  -- an expression of this kind, where the variables around it are over these types and stand at these places
  pub record IsOfKind (e : FlatExpr) (over : List Simple) (b : List Place) (kind : FlatKind) : Type 0 where
    pub are_of : AreOf c.problem.world over b
    pub has_kind : kinds.kind_in names (map kind_of over) e ≡ Some kind
    pub has_orders : IsTrue (keeps_orders names (map kind_of over) e)

  -- a demand whose parts keep the rules of kinds, of an element or of a claim
  abbrev pub IsFit : Demanded → Type 0
  IsFit (defined def indexes) =
      IsTrue (is_part names def.family [] def.init) × IsTrue (is_part names def.family [] def.next) × IsTrue (is_part names def.family [] def.comb)
      × AreOf c.problem.world (over_of (slice_get names.families def.family)) indexes
  IsFit (holds body b) = (over : List Simple) × (kind : FlatKind) × IsOfKind body over b kind × IsTrue (kinds.takes FlatKind.number (Some kind))

  -- a guard with the types of the leaf's parameters
  pub record IsFitGuard (over : List Simple) (g : Guard) : Type 0 where
    pub kind : FlatKind
    pub is_of : IsOfKind g.expr over c.problem.params kind
    pub has_param : slice_get over g.var ≡ Some g.over

  -- a case whose problem the calls take: its set types and constants have names of their own, each family has index types and a type with a value, its elements are distinct, the target's is one where it is at no rest, all that is demanded keeps the rules of
  -- kinds, and its numbers fit their fields
  pub record IsWellFormed : Type 0 where
    pub is_case : IsCase c
    pub set_types : AreApart names.sets
    pub constants : (list : List Name) → Has names.enums list → AreDistinct list
    pub elements : AreApartElements c.elements
    pub indexes : (x : AbsElement) → Has c.elements x → AreNamedOf c.problem.world (over_of (slice_get names.families x.family)) x.indexes
    pub now : (demand : Demanded) → Has c.problem.now demand → IsFit demand
    pub before : (demand : Demanded) → Has c.problem.before demand → IsFit demand
    pub target : IsFit c.problem.target
    pub params : List Simple
    pub guards : (g : Guard) → Has c.problem.guards g → IsFitGuard params g
    pub classes : (info : SetInfo) → Has names.sets info → c.problem.world.classes.sizes info.name ≤ 256
    pub gaps : (info : SetInfo) → Has names.sets info → c.problem.world.rests info.name ≡ Gaps → c.problem.world.classes.sizes info.name ≤ 255
    pub have_values : (f : Family) → Has names.families f → 0 < length (places_in c.problem.world f.value)
    pub index_types : (f : Family) → Has names.families f → (t : Simple) → Has f.over t → IsIndexType t
    pub target_is_kept : (def : Def) (indexes : List Place) → c.problem.target ≡ defined def indexes → list_all is_named indexes ≡ true → Has c.elements (element def.family indexes)
    pub bits : state_bits c ≤ 1024

-- the problem of such a case
abbrev pub IsProblem : Problem → Type 0
IsProblem p = (c : PosedCase) × (p ≡ written c) × IsWellFormed c

-- what is said of each such case that is written so
abbrev pub OfCases : Problem → (PosedCase → Type 0) → Type 0
OfCases p says = (c : PosedCase) → p ≡ written c → IsWellFormed c → says c

-- an abstract state of each such case
abbrev pub OfStates : Problem → StateData → (PosedCase → AbsState → Type 0) → Type 0
OfStates p s says = OfCases p (λ c. (a : AbsState) → IsAbsState c.problem.world c.problem.kept a → s ≡ written_state c a → says c a)

-- a state before, if there is one
abbrev pub IsBefore : PosedCase → Option AbsState → Type 0
IsBefore c None = Unit {0}
IsBefore c (Some a) = IsAbsState c.problem.world c.problem.kept a

-- the problem of this case, which is well formed
abbrev pub IsProblemOf : PosedCase → Problem → Type 0
IsProblemOf c p = (p ≡ written c) × IsWellFormed c
