-- What expressions read, on expressions that are made of lists and values.
use Rattle.std.proofs.Common.{◌≡◌, ℕ, List, [], ◌∷◌, ◌++◌, map, Some, None, refl, sym, ap, ◌∙◌}
use Rattle.std.specs.List.{flat_map}
use Rattle.std.proofs.lemmas.List.{append_assoc, map-append}
use Rattle.std.proofs.lemmas.List.Folds.{flat_map-map}
use Rattle.law_lists.proofs.Lists.{map-flat_map, flat_map_alike}
use Rattle.smv_core.specs.Assignments.{Index}
use Rattle.smv_core.specs.FlatMeaning.{flat_index}
use Rattle.smv_core.specs.declared.tree.Op.{Op}
use Rattle.smv_core.specs.declared.flat.Simple.{Simple}
use Rattle.smv_core.specs.declared.flat.FlatSigned.{FlatSigned}
use Rattle.smv_core.specs.declared.flat.FlatMember.{FlatMember, One, Span as SpanOf}
use Rattle.smv_core.specs.declared.flat.FlatExpr.{FlatExpr, Number, Var, Loop, Constant, Not, Iff, Compare, Within, Modulo, Choose, All, Any, Each, Read, Read', And, And', Or, Or', Implies, Implies', Sum, Sum', List as ListOf, List', Row_of-FlatExpr, end_of-FlatExpr, more_of-FlatExpr, Row_of-FlatMember, end_of-FlatMember, more_of-FlatMember, Row_of-FlatSigned, end_of-FlatSigned, more_of-FlatSigned, items-the_row-FlatExpr, items-the_row-FlatMember, items-the_row-FlatSigned, items_hidden-the_row-FlatExpr-0, items_hidden-the_row-FlatSigned-2, items_hidden-the_row-FlatMember-3}
use Rattle.law_obligations.specs.Places.{Place, named_in, bind_place}
use Rattle.law_obligations.specs.Reads.{indexes_read, reads_each, reads_signed, reads_members}
use Rattle.law_obligations.specs.Cones.{AbsElement, elements_at, elements_read}
use Rattle.smv_problem.specs.Written.{written_element}
use Rattle.smv_spots.specs.declared.spots.Spot.{Spot}
use Rattle.smv_reads.specs.declared.bindings.View.{View}
use Rattle.smv_reads.specs.Views.{world_of, place_in, places, bind_spot}
use Rattle.smv_reads.specs.Reading.{read_at, read_in, read_in_term, read_in_member, read_over}
use Rattle.smv_reads.proofs.Computing.{boxes}
use Rattle.smv_reads.proofs.Lists.{bound-places}
use mathlib.Core.Former.{Count}

indexes-row : (k : _) (row : Row_of-FlatExpr k) → indexes_read row ≡ map flat_index (items-the_row-FlatExpr k row)
indexes-row k end_of-FlatExpr = refl
indexes-row k (more_of-FlatExpr e rest) = ap (λ l. flat_index e ∷ l) (indexes-row _ rest)

abbrev exprs_of : FlatExpr → (k : Count) × Row_of-FlatExpr k
exprs_of (Read' family shape row at) = (_, row)
exprs_of (And' shape row) = (_, row)
exprs_of (Or' shape row) = (_, row)
exprs_of (Implies' shape row) = (_, row)
exprs_of _ = (_, end_of-FlatExpr)

abbrev members_in : FlatExpr → (k : Count) × Row_of-FlatMember k
members_in (List' shape row at) = (_, row)
members_in _ = (_, end_of-FlatMember)

abbrev signed_in : FlatExpr → (k : Count) × Row_of-FlatSigned k
signed_in (Sum' f head shape row) = (_, row)
signed_in _ = (_, end_of-FlatSigned)

module _ (v : View) (b : List Spot) where
  exprs-row : (k : _) (row : Row_of-FlatExpr k) → map written_element (reads_each (named_in (world_of v)) (elements_at (world_of v)) row (places v b)) ≡ flat_map (read_in v b) (items-the_row-FlatExpr k row)
  unfolding read_in
  exprs-row k end_of-FlatExpr = refl
  exprs-row k (more_of-FlatExpr e rest) =
      map-append written_element (elements_read (world_of v) e (places v b)) (reads_each (named_in (world_of v)) (elements_at (world_of v)) rest (places v b)) ∙ ap (λ l. read_in v b e ++ l) (exprs-row _ rest)

  signed-row : (k : _) (row : Row_of-FlatSigned k) → map written_element (reads_signed (named_in (world_of v)) (elements_at (world_of v)) row (places v b)) ≡ flat_map (read_in_term v b) (items-the_row-FlatSigned k row)
  unfolding read_in boxes
  signed-row k end_of-FlatSigned = refl
  signed-row k (more_of-FlatSigned minus e rest) =
      map-append written_element (elements_read (world_of v) e (places v b)) (reads_signed (named_in (world_of v)) (elements_at (world_of v)) rest (places v b)) ∙ ap (λ l. read_in v b e ++ l) (signed-row _ rest)

  members-row : (k : _) (row : Row_of-FlatMember k) → map written_element (reads_members (named_in (world_of v)) (elements_at (world_of v)) row (places v b)) ≡ flat_map (read_in_member v b) (items-the_row-FlatMember k row)
  unfolding read_in boxes
  members-row k end_of-FlatMember = refl
  members-row k (more_of-FlatMember (One e) rest) =
      map-append written_element (elements_read (world_of v) e (places v b)) (reads_members (named_in (world_of v)) (elements_at (world_of v)) rest (places v b)) ∙ ap (λ l. read_in v b e ++ l) (members-row _ rest)
  members-row k (more_of-FlatMember (SpanOf span at) rest) = members-row _ rest

  -- the parts of a chain
  chain-row : (k : _) (row : Row_of-FlatExpr k) (es : List FlatExpr) → items-the_row-FlatExpr k row ≡ es → map written_element (reads_each (named_in (world_of v)) (elements_at (world_of v)) row (places v b)) ≡ flat_map (read_in v b) es
  chain-row k row es e = exprs-row k row ∙ ap (flat_map (read_in v b)) e

  pub read-Read : (family : ℕ) (es : List FlatExpr) (at : ℕ) → read_in v b (Read family es at) ≡ read_at v b family es ++ flat_map (read_in v b) es
  unfolding read_in read_at
  read-Read family es at =
      let row : (k : Count) × Row_of-FlatExpr k = exprs_of (Read family es at) in
      map-append written_element (elements_at (world_of v) family (indexes_read row.1) (places v b)) (reads_each (named_in (world_of v)) (elements_at (world_of v)) row.1 (places v b))
      ∙ ap (λ (is : List Index). map written_element (elements_at (world_of v) family is (places v b)) ++ map written_element (reads_each (named_in (world_of v)) (elements_at (world_of v)) row.1 (places v b)))
      (indexes-row row.0 row.1 ∙ ap (map flat_index) (items_hidden-the_row-FlatExpr-0 es))
      ∙ ap (λ l. read_at v b family es ++ l) (chain-row row.0 row.1 es (items_hidden-the_row-FlatExpr-0 es))

  pub read-And : (es : List FlatExpr) → read_in v b (And es) ≡ flat_map (read_in v b) es
  unfolding read_in
  read-And es =
      let row : (k : Count) × Row_of-FlatExpr k = exprs_of (And es) in
      chain-row row.0 row.1 es (items_hidden-the_row-FlatExpr-0 es)

  pub read-Or : (es : List FlatExpr) → read_in v b (Or es) ≡ flat_map (read_in v b) es
  unfolding read_in
  read-Or es =
      let row : (k : Count) × Row_of-FlatExpr k = exprs_of (Or es) in
      chain-row row.0 row.1 es (items_hidden-the_row-FlatExpr-0 es)

  pub read-Implies : (es : List FlatExpr) → read_in v b (Implies es) ≡ flat_map (read_in v b) es
  unfolding read_in
  read-Implies es =
      let row : (k : Count) × Row_of-FlatExpr k = exprs_of (Implies es) in
      chain-row row.0 row.1 es (items_hidden-the_row-FlatExpr-0 es)

  pub read-List : (members : List FlatMember) (at : ℕ) → read_in v b (ListOf members at) ≡ flat_map (read_in_member v b) members
  unfolding read_in
  read-List members at =
      let row : (k : Count) × Row_of-FlatMember k = members_in (ListOf members at) in
      members-row row.0 row.1 ∙ ap (flat_map (read_in_member v b)) (items_hidden-the_row-FlatMember-3 members)

  pub read-Sum : (head : FlatExpr) (more : List FlatSigned) → read_in v b (Sum head more) ≡ read_in v b head ++ flat_map (read_in_term v b) more
  unfolding read_in Rattle.smv_core.specs.declared.flat.FlatExpr.TheBlock.hidden-the_row-FlatExpr-1 Rattle.smv_core.specs.declared.flat.FlatExpr.TheBlock.shape-the_row-FlatExpr-1 denote.Hole.Carrier.hidden
  read-Sum head more =
      let row : (k : Count) × Row_of-FlatSigned k = signed_in (Sum head more) in
      map-append written_element (elements_read (world_of v) head (places v b)) (reads_signed (named_in (world_of v)) (elements_at (world_of v)) row.1 (places v b))
      ∙ ap (λ l. read_in v b head ++ l) (signed-row row.0 row.1 ∙ ap (flat_map (read_in_term v b)) (items_hidden-the_row-FlatSigned-2 more))

  pub read-Number : (value at : ℕ) → read_in v b (Number value at) ≡ []
  unfolding read_in
  read-Number value at = refl

  pub read-Loop : (value at : ℕ) → read_in v b (Loop value at) ≡ []
  unfolding read_in
  read-Loop value at = refl

  pub read-Var : (var at : ℕ) → read_in v b (Var var at) ≡ []
  unfolding read_in
  read-Var var at = refl

  pub read-Constant : (list value at : ℕ) → read_in v b (Constant list value at) ≡ []
  unfolding read_in
  read-Constant list value at = refl

  pub read-Not : (e : FlatExpr) (at : ℕ) → read_in v b (Not e at) ≡ read_in v b e
  unfolding read_in boxes
  read-Not e at = refl

  pub read-Modulo : (e : FlatExpr) (by at : ℕ) → read_in v b (Modulo e by at) ≡ read_in v b e
  unfolding read_in boxes
  read-Modulo e by at = refl

  pub read-Iff : (x y : FlatExpr) → read_in v b (Iff x y) ≡ read_in v b x ++ read_in v b y
  unfolding read_in boxes
  read-Iff x y = map-append written_element (elements_read (world_of v) x (places v b)) (elements_read (world_of v) y (places v b))

  pub read-Compare : (op : Op) (x y : FlatExpr) → read_in v b (Compare op x y) ≡ read_in v b x ++ read_in v b y
  unfolding read_in boxes
  read-Compare op x y = map-append written_element (elements_read (world_of v) x (places v b)) (elements_read (world_of v) y (places v b))

  pub read-Within : (x y : FlatExpr) → read_in v b (Within x y) ≡ read_in v b x ++ read_in v b y
  unfolding read_in boxes
  read-Within x y = map-append written_element (elements_read (world_of v) x (places v b)) (elements_read (world_of v) y (places v b))

  pub read-Choose : (c x y : FlatExpr) → read_in v b (Choose c x y) ≡ read_in v b c ++ (read_in v b x ++ read_in v b y)
  unfolding read_in boxes
  read-Choose c x y =
      map-append written_element (elements_read (world_of v) c (places v b) ++ elements_read (world_of v) x (places v b)) (elements_read (world_of v) y (places v b))
      ∙ ap (λ l. l ++ map written_element (elements_read (world_of v) y (places v b))) (map-append written_element (elements_read (world_of v) c (places v b)) (elements_read (world_of v) x (places v b)))
      ∙ append_assoc (map written_element (elements_read (world_of v) c (places v b))) (map written_element (elements_read (world_of v) x (places v b))) (map written_element (elements_read (world_of v) y (places v b)))

  pub read-All : (body : FlatExpr) (var : ℕ) (over : Simple) (at : ℕ) → read_in v b (All body var over at) ≡ read_over v b var over body
  unfolding read_in read_over boxes
  read-All body var over at = refl

  pub read-Any : (body : FlatExpr) (var : ℕ) (over : Simple) (at : ℕ) → read_in v b (Any body var over at) ≡ read_over v b var over body
  unfolding read_in read_over boxes
  read-Any body var over at = refl

  pub read-Each : (var : ℕ) (over : Simple) (at : ℕ) → read_in v b (Each var over None at) ≡ []
  unfolding read_in boxes
  read-Each var over at = nothing (named_in (world_of v) over)
    where
      nothing : (ps : List Place) → map written_element (flat_map (λ p. []) ps) ≡ []
      nothing [] = refl
      nothing (p ∷ ps) = nothing ps

  pub read-Each_if : (var : ℕ) (over : Simple) (cond : FlatExpr) (at : ℕ) → read_in v b (Each var over (Some cond) at) ≡ read_over v b var over cond
  unfolding read_in read_over boxes
  read-Each_if var over cond at = refl

  -- at the spots of a quantifier's variable
  pub over-spots : (var : ℕ) (over : Simple) (body : FlatExpr) (spots : List Spot) → places v spots ≡ named_in (world_of v) over → read_over v b var over body ≡ flat_map (λ p. read_in v (bind_spot b var p) body) spots
  unfolding read_in read_over
  over-spots var over body spots e =
      let f : Place → List AbsElement = λ p. elements_read (world_of v) body (bind_place (places v b) var p) in
      map-flat_map written_element f (named_in (world_of v) over)
      ∙ ap (flat_map (λ p. map written_element (f p))) (sym e)
      ∙ flat_map-map (λ p. map written_element (f p)) (place_in v) spots
      ∙ flat_map_alike (λ s. map written_element (f (place_in v s))) (λ s. read_in v (bind_spot b var s) body) spots (λ s. ap (λ ps. map written_element (elements_read (world_of v) body ps)) (sym (bound-places v b var s)))

pub ruleset equations = (read-Read, read-And, read-Or, read-Implies, read-List, read-Sum, read-Number, read-Loop, read-Var, read-Constant, read-Not, read-Modulo, read-Iff, read-Compare, read-Within, read-Choose, read-All, read-Any, read-Each, read-Each_if)

pub ruleset over = (over-spots)
