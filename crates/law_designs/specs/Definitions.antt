-- The design of a flattened text: its assignments are gathered into one definition for each family and definition set.
use Rattle.std.specs.Prelude.{ℕ, ◌+◌, List, [], ◌∷◌, map, flat_map, filter, zip, Option, Bool, true, false, not, ◌&&◌, if◌then◌else◌, nat_eq}
use Rattle.smv_core.specs.Values.{numbers_from}
use Rattle.smv_core.specs.Walk.{same_kind}
use Rattle.smv_core.specs.declared.tree.Kind.{Kind}
use Rattle.smv_core.specs.declared.tree.Kind.TheVariants.{Comb, Init, Next}
use Rattle.smv_core.specs.declared.flat.Simple.{Simple}
use Rattle.smv_core.specs.declared.flat.FlatExpr.{FlatExpr}
use Rattle.smv_core.specs.declared.flat.FlatStmt.{FlatStmt, Assign, If', Block', Default', Forall', Row_of-FlatStmt, end_of-FlatStmt, more_of-FlatStmt}
use Rattle.smv_core.specs.declared.flat.FlatItem.{FlatItem}
use Rattle.smv_core.specs.declared.flat.FlatItem.TheVariants as item
use Rattle.smv_core.specs.declared.flat.FlatSplit.{FlatSplit}
use Rattle.smv_core.specs.declared.flat.FlatUsing.{FlatUsing}
use Rattle.smv_core.specs.declared.flat.DefBody.{DefBody, Nothing, If, First, Forall}
use Rattle.smv_core.specs.declared.flat.DefBody as flat
use Rattle.smv_core.specs.declared.flat.Def.{Def}
use Rattle.smv_core.specs.declared.flat.FlatText.{FlatText}
use Rattle.smv_core.specs.declared.flat.Design.{Design}
use Rattle.law_designs.specs.Flattening.{different}
use Rattle.law_designs.specs.WholeText.{is_one_layer, claims_of}
use Rattle.law_designs.specs.Standing.{count, Statement, statements_of, Standing, assigned_by}
use Rattle.smv_core.specs.Rows.{one_flat_stmt}

-- ---- parts of a definition

abbrev pub is_nothing : DefBody → Bool
is_nothing Nothing = true
is_nothing _ = false

-- some parts as one: one alone is itself
abbrev pub joined : List DefBody → DefBody
joined [] = Nothing
joined (part ∷ []) = part
joined (part ∷ other ∷ more) = First (part ∷ other ∷ more)

-- the first result of some parts: those without a result are left out
abbrev pub first_part : List DefBody → DefBody
first_part parts = joined (filter (λ part. not (is_nothing part)) parts)

-- the branches of an `if`, where one of them has a result
abbrev pub branches : FlatExpr → DefBody → DefBody → DefBody
branches cond left right = if is_nothing left && is_nothing right then Nothing else If cond left right

-- what stands under a `forall`, where it has a result
abbrev pub each_value : ℕ → Simple → DefBody → DefBody
each_value var over body = if is_nothing body then Nothing else Forall var over body

-- ---- what statements say of one family, for one kind of assignment

module _ (kind : Kind) (family : ℕ) where
  abbrev mutual
    -- a statement whose first assignment has this place; the second part of a `default` goes before the first
    pub flat_of : ℕ → FlatStmt → DefBody
    flat_of k (Assign which other left value at) = if same_kind which kind && nat_eq other family then flat.Assign left value k at else Nothing
    flat_of k (If' cond l (one_flat_stmt left) r (one_flat_stmt right)) = branches cond (flat_of k left) (flat_of (k + count left) right)
    flat_of k (Block' shape parts) = first_part (flats_of k parts)
    flat_of k (Default' l (one_flat_stmt left) r (one_flat_stmt right)) = first_part (flat_of (k + count left) right ∷ flat_of k left ∷ [])
    flat_of k (Forall' var over shape (one_flat_stmt body)) = each_value var over (flat_of k body)

    pub flats_of : {m : _} → ℕ → Row_of-FlatStmt m → List DefBody
    flats_of k end_of-FlatStmt = []
    flats_of k (more_of-FlatStmt part rest) = flat_of k part ∷ flats_of (k + count part) rest

  -- some statements, in flat order
  abbrev pub part_of : List Statement → DefBody
  part_of statements = first_part (map (λ s. flat_of s.place s.act) statements)

-- ---- definitions

-- a definition set: all statements of the layer of this number, or all those outside layers
abbrev pub set_of : FlatText → Option ℕ → List Statement
set_of flat_text layer = filter (λ s. is_one_layer layer s.layer) (statements_of flat_text)

-- an assignment by its layer and its family, with its place in flat order and its offset
pub record Head : Type 0 where
  pub layer : Option ℕ
  pub family : ℕ
  pub place : ℕ
  pub at : ℕ

-- an assignment with its place
abbrev pub head : Standing → ℕ → Head
head a place = record { layer = a.layer; family = a.family; place = place; at = a.at }

abbrev pub heads_of : Statement → List Head
heads_of s = map (λ (a, k). head a k) (zip (assigned_by s) (numbers_from s.place (count s.act)))

abbrev pub same_definition : Head → Head → Bool
same_definition a b = is_one_layer a.layer b.layer && nat_eq a.family b.family

-- the first assignment of each family in each definition set, in flat order
abbrev pub first_heads : FlatText → List Head
first_heads flat_text = different same_definition (flat_map heads_of (statements_of flat_text))

-- the definition whose first assignment is this one
abbrev pub def_of : FlatText → Head → Def
def_of flat_text head =
    let set = set_of flat_text head.layer in
    record {
      family = head.family;
      layer = head.layer;
      init = part_of Init head.family set;
      next = part_of Next head.family set;
      comb = part_of Comb head.family set;
      place = head.place;
      at = head.at;
    }

-- ---- the design

abbrev pub splits_of : List FlatItem → List FlatSplit
splits_of [] = []
splits_of (item.Split s ∷ items) = s ∷ splits_of items
splits_of (_ ∷ items) = splits_of items

abbrev pub uses_of : List FlatItem → List FlatUsing
uses_of [] = []
uses_of (item.Using u ∷ items) = u ∷ uses_of items
uses_of (_ ∷ items) = uses_of items

-- The design, its definitions by their first assignments in flat order. For a flattened text with a fault of single assignment it may be anything.
abbrev pub design_of_flat_text : FlatText → Design
design_of_flat_text flat_text = record {
  sets = flat_text.sets;
  enums = flat_text.enums;
  layers = flat_text.layers;
  families = flat_text.families;
  defs = map (def_of flat_text) (first_heads flat_text);
  claims = claims_of flat_text.items;
  splits = splits_of flat_text.items;
  uses = uses_of flat_text.items;
}
