-- The statements of a flattened text, the assignments in them and its design keep the places of its items.
use Rattle.std.proofs.Common.{◌≤◌, ◌+◌, ℕ, List, [], ◌∷◌, map, filter, zip, Bool, true, false, not, ◌&&◌, cond, Option, nat_eq, sym, subst}
use Rattle.std.specs.List.{AllByRecursion, flat_map}
use Rattle.law_lists.proofs.Each.{each_flat_map, each_filter, each_append}
use Rattle.smv_core.specs.Values.{numbers_from}
use Rattle.smv_core.specs.Walk.{same_kind}
use Rattle.smv_core.specs.declared.tree.Kind.{Kind}
use Rattle.smv_core.specs.declared.tree.Kind.TheVariants.{Comb, Init, Next}
use Rattle.smv_core.specs.declared.flat.Simple.{Simple}
use Rattle.smv_core.specs.declared.flat.FlatExpr.{FlatExpr}
use Rattle.smv_core.specs.declared.flat.FlatStmt.{FlatStmt, Assign, If', Block', Default', Forall', Row_of-FlatStmt, end_of-FlatStmt, more_of-FlatStmt}
use Rattle.smv_core.specs.declared.flat.DefBody.{DefBody, Nothing, If, First, Forall, Row_of-DefBody, end_of-DefBody, more_of-DefBody, items-the_row-DefBody, items_hidden-the_row-DefBody-1}
use Rattle.smv_core.specs.declared.flat.DefBody as part
use Rattle.smv_core.specs.declared.flat.FlatItem.{FlatItem}
use Rattle.smv_core.specs.declared.flat.FlatItem.TheVariants as item
use Rattle.smv_core.specs.declared.flat.FlatText.{FlatText}
use Rattle.law_designs.specs.Flattening.{different}
use Rattle.law_designs.specs.WholeText.{is_one_layer, claims_of}
use Rattle.law_designs.specs.Standing.{count, Statement, statements_from, statements_of, Standing, standing, standing_in, assigned_by}
use Rattle.law_designs.specs.Definitions.{is_nothing, joined, first_part, flat_of, flats_of, part_of, set_of, Head, head, heads_of, same_definition, first_heads, def_of, splits_of, uses_of, design_of_flat_text}
use Rattle.law_designs.proofs.FlatParts.{boxes, rows_of}
use Rattle.law_designs.proofs.Faultless.{each-map}
use Rattle.law_fault_places.proofs.TreeLists.{all-zipped}
use Rattle.law_fault_places.specs.FlatPlaces.{FlatExprIsWithin, FlatExprsAreWithin, ActIsWithin, ActsAreWithin, ClaimIsWithin, SplitIsWithin, UsingIsWithin, FlatItemIsWithin, FlatTextIsWithin, PartOfIsWithin, PartsOfAreWithin, DefIsWithin, DesignIsWithin}

pub different-all : {X : Type 0} (P : X → Type 0) (same : X → X → Bool) (xs : List X) → AllByRecursion P xs → AllByRecursion P (different same xs)
different-all P same [] h = tt
different-all P same (x ∷ xs) h = (h.0, each_filter P (λ y. not (same x y)) (different same xs) (different-all P same xs h.1))

module _ (n : ℕ) where
  -- ---- statements and assignments

  abbrev pub SaidIsWithin : Statement → Type 0
  SaidIsWithin s = ActIsWithin n s.act

  from-within : (k : ℕ) (items : List FlatItem) → AllByRecursion (FlatItemIsWithin n) items → AllByRecursion SaidIsWithin (statements_from k items)
  from-within k [] h = tt
  from-within k (item.Act layer act ∷ items) h = (h.0, from-within (k + count act) items h.1)
  from-within k (item.Claim c ∷ items) h = from-within (k + 1) items h.1
  from-within k (item.Split s ∷ items) h = from-within k items h.1
  from-within k (item.Using u ∷ items) h = from-within k items h.1

  pub statements-within : (flat_text : FlatText) → FlatTextIsWithin n flat_text → AllByRecursion SaidIsWithin (statements_of flat_text)
  statements-within flat_text h = from-within 0 flat_text.items h

  abbrev pub StandingIsWithin : Standing → Type 0
  StandingIsWithin a = FlatExprsAreWithin n a.left × (a.at ≤ n)

  module _ (layer : Option ℕ) where
    mutual
      pub standing-within : (around : List ℕ) (act : FlatStmt) → ActIsWithin n act → AllByRecursion StandingIsWithin (standing layer around act)
      standing-within around (Assign kind family left value at) h = ((h.1, h.0), tt)
      standing-within around (If' cond l (more_of-FlatStmt left end_of-FlatStmt) r (more_of-FlatStmt right end_of-FlatStmt)) h =
          each_append StandingIsWithin (standing layer around left) (standing layer around right) (standing-within around left h.1) (standing-within around right h.2)
      standing-within around (Block' shape parts) h = standing_in-within around parts h
      standing-within around (Default' l (more_of-FlatStmt left end_of-FlatStmt) r (more_of-FlatStmt right end_of-FlatStmt)) h =
          each_append StandingIsWithin (standing layer around left) (standing layer around right) (standing-within around left h.0) (standing-within around right h.1)
      standing-within around (Forall' var over shape (more_of-FlatStmt body end_of-FlatStmt)) h = standing-within (var ∷ around) body h

      pub standing_in-within : {m : _} (around : List ℕ) (row : Row_of-FlatStmt m) → ActsAreWithin n row → AllByRecursion StandingIsWithin (standing_in layer around row)
      standing_in-within around end_of-FlatStmt h = tt
      standing_in-within around (more_of-FlatStmt part rest) h = each_append StandingIsWithin (standing layer around part) (standing_in layer around rest) (standing-within around part h.0) (standing_in-within around rest h.1)

  pub assigned-within : (s : Statement) → SaidIsWithin s → AllByRecursion StandingIsWithin (assigned_by s)
  assigned-within s h = standing-within s.layer [] s.act h

  -- ---- parts of definitions

  parts-row : (k : _) (row : Row_of-DefBody k) → AllByRecursion (PartOfIsWithin n) (items-the_row-DefBody k row) → PartsOfAreWithin n row
  parts-row k end_of-DefBody h = tt
  parts-row k (more_of-DefBody one rest) h = (h.0, parts-row _ rest h.1)

  first-within : (parts : List DefBody) → AllByRecursion (PartOfIsWithin n) parts → PartOfIsWithin n (First parts)
  first-within parts h = parts-row (rows_of (First parts)).0 (rows_of (First parts)).1 (subst (AllByRecursion (PartOfIsWithin n)) (sym (items_hidden-the_row-DefBody-1 parts)) h)

  if-within : (cond : FlatExpr) (left right : DefBody) → FlatExprIsWithin n cond → PartOfIsWithin n left → PartOfIsWithin n right → PartOfIsWithin n (If cond left right)
  unfolding boxes
  if-within cond left right h g k = (h, g, k)

  forall-within : (var : ℕ) (over : Simple) (body : DefBody) → PartOfIsWithin n body → PartOfIsWithin n (Forall var over body)
  unfolding boxes
  forall-within var over body h = h

  joined-within : (parts : List DefBody) → AllByRecursion (PartOfIsWithin n) parts → PartOfIsWithin n (joined parts)
  joined-within [] h = tt
  joined-within (one ∷ []) h = h.0
  joined-within (one ∷ other ∷ more) h = first-within (one ∷ other ∷ more) h

  first_part-within : (parts : List DefBody) → AllByRecursion (PartOfIsWithin n) parts → PartOfIsWithin n (first_part parts)
  first_part-within parts h = joined-within (filter (λ p. not (is_nothing p)) parts) (each_filter (PartOfIsWithin n) (λ p. not (is_nothing p)) parts h)

  either-within : (b : Bool) (x y : DefBody) → PartOfIsWithin n x → PartOfIsWithin n y → PartOfIsWithin n (cond b x y)
  either-within true x y h g = h
  either-within false x y h g = g

  module _ (kind : Kind) (family : ℕ) where
    mutual
      flat-within : (k : ℕ) (act : FlatStmt) → ActIsWithin n act → PartOfIsWithin n (flat_of kind family k act)
      flat-within k (Assign which other left value at) h = either-within (same_kind which kind && nat_eq other family) (part.Assign left value k at) Nothing h tt
      flat-within k (If' cond l (more_of-FlatStmt left end_of-FlatStmt) r (more_of-FlatStmt right end_of-FlatStmt)) h =
          let x = flat_of kind family k left in
          let y = flat_of kind family (k + count left) right in
          either-within (is_nothing x && is_nothing y) Nothing (If cond x y) tt (if-within cond x y h.0 (flat-within k left h.1) (flat-within (k + count left) right h.2))
      flat-within k (Block' shape parts) h = first_part-within (flats_of kind family k parts) (flats-within k parts h)
      flat-within k (Default' l (more_of-FlatStmt left end_of-FlatStmt) r (more_of-FlatStmt right end_of-FlatStmt)) h =
          first_part-within (flat_of kind family (k + count left) right ∷ flat_of kind family k left ∷ []) (flat-within (k + count left) right h.1, (flat-within k left h.0, tt))
      flat-within k (Forall' var over shape (more_of-FlatStmt body end_of-FlatStmt)) h =
          let x = flat_of kind family k body in
          either-within (is_nothing x) Nothing (Forall var over x) tt (forall-within var over x (flat-within k body h))

      flats-within : {m : _} (k : ℕ) (row : Row_of-FlatStmt m) → ActsAreWithin n row → AllByRecursion (PartOfIsWithin n) (flats_of kind family k row)
      flats-within k end_of-FlatStmt h = tt
      flats-within k (more_of-FlatStmt one rest) h = (flat-within k one h.0, flats-within (k + count one) rest h.1)

    part-within : (statements : List Statement) → AllByRecursion SaidIsWithin statements → PartOfIsWithin n (part_of kind family statements)
    part-within statements h =
        first_part-within (map (λ (s : Statement). flat_of kind family s.place s.act) statements) (each-map SaidIsWithin (PartOfIsWithin n) (λ (s : Statement). flat_of kind family s.place s.act) (λ s own. flat-within s.place s.act own) statements h)

  -- ---- definitions

  abbrev HeadIsWithin : Head → Type 0
  HeadIsWithin h = h.at ≤ n

  heads-within : (s : Statement) → SaidIsWithin s → AllByRecursion HeadIsWithin (heads_of s)
  heads-within s h =
      each-map (λ (p : Standing × ℕ). StandingIsWithin p.0) HeadIsWithin (λ (p : Standing × ℕ). head p.0 p.1) (λ p own. own.1)
      (zip (assigned_by s) (numbers_from s.place (count s.act))) (all-zipped StandingIsWithin (assigned_by s) (numbers_from s.place (count s.act)) (assigned-within s h))

  first-heads-within : (flat_text : FlatText) → FlatTextIsWithin n flat_text → AllByRecursion HeadIsWithin (first_heads flat_text)
  first-heads-within flat_text h = different-all HeadIsWithin same_definition (flat_map heads_of (statements_of flat_text)) (each_flat_map SaidIsWithin HeadIsWithin heads_of heads-within (statements_of flat_text) (statements-within flat_text h))

  def-within : (flat_text : FlatText) → FlatTextIsWithin n flat_text → (own : Head) → HeadIsWithin own → DefIsWithin n (def_of flat_text own)
  def-within flat_text h own le =
      let set = set_of flat_text own.layer in
      let said : AllByRecursion SaidIsWithin set = each_filter SaidIsWithin (λ (s : Statement). is_one_layer own.layer s.layer) (statements_of flat_text) (statements-within flat_text h) in
      (part-within Init own.family set said, part-within Next own.family set said, part-within Comb own.family set said, le)

  -- ---- designs

  pub claims-within : (items : List FlatItem) → AllByRecursion (FlatItemIsWithin n) items → AllByRecursion (ClaimIsWithin n) (claims_of items)
  claims-within [] h = tt
  claims-within (item.Act layer act ∷ items) h = claims-within items h.1
  claims-within (item.Claim c ∷ items) h = (h.0, claims-within items h.1)
  claims-within (item.Split s ∷ items) h = claims-within items h.1
  claims-within (item.Using u ∷ items) h = claims-within items h.1

  splits-within : (items : List FlatItem) → AllByRecursion (FlatItemIsWithin n) items → AllByRecursion (SplitIsWithin n) (splits_of items)
  splits-within [] h = tt
  splits-within (item.Act layer act ∷ items) h = splits-within items h.1
  splits-within (item.Claim c ∷ items) h = splits-within items h.1
  splits-within (item.Split s ∷ items) h = (h.0, splits-within items h.1)
  splits-within (item.Using u ∷ items) h = splits-within items h.1

  uses-within : (items : List FlatItem) → AllByRecursion (FlatItemIsWithin n) items → AllByRecursion (UsingIsWithin n) (uses_of items)
  uses-within [] h = tt
  uses-within (item.Act layer act ∷ items) h = uses-within items h.1
  uses-within (item.Claim c ∷ items) h = uses-within items h.1
  uses-within (item.Split s ∷ items) h = uses-within items h.1
  uses-within (item.Using u ∷ items) h = (h.0, uses-within items h.1)

  -- the design of a flattened text keeps its places
  pub design-within : (flat_text : FlatText) → FlatTextIsWithin n flat_text → DesignIsWithin n (design_of_flat_text flat_text)
  design-within flat_text h = record {
    defs = each-map HeadIsWithin (DefIsWithin n) (def_of flat_text) (def-within flat_text h) (first_heads flat_text) (first-heads-within flat_text h);
    claims = claims-within flat_text.items h;
    splits = splits-within flat_text.items h;
    uses = uses-within flat_text.items h;
  }
