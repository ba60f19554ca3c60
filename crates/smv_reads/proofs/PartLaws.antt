-- What definitions read, on definitions that are made of lists and values.
use Rattle.std.proofs.Common.{◌≡◌, ℕ, List, [], ◌++◌, map, Bool, true, false, ◌||◌, if◌then◌else◌, refl, sym, ap, ◌∙◌}
use Rattle.std.specs.List.{flat_map}
use Rattle.std.proofs.lemmas.List.{append_assoc, map-append}
use Rattle.std.proofs.lemmas.List.Folds.{flat_map-map}
use Rattle.law_lists.proofs.Lists.{map-flat_map, flat_map_alike, map-if}
use Rattle.smv_core.specs.FlatMeaning.{flat_index}
use Rattle.smv_core.specs.declared.flat.Simple.{Simple}
use Rattle.smv_core.specs.declared.flat.Def.{Def}
use Rattle.smv_core.specs.declared.flat.FlatExpr.{FlatExpr}
use Rattle.smv_core.specs.declared.flat.DefBody.{DefBody, Nothing, If, First, Forall, Assign, First', Row_of-DefBody, end_of-DefBody, more_of-DefBody, items-the_row-DefBody, items_hidden-the_row-DefBody-1}
use Rattle.law_obligations.specs.Places.{Place, named_in, places_in, bind_place}
use Rattle.law_obligations.specs.Reads.{is_own, part_reads, parts_read}
use Rattle.law_obligations.specs.Cones.{AbsElement, elements_at, elements_read}
use Rattle.law_problems.proofs.Counting.{uncounted}
use Rattle.smv_problem.specs.Written.{written_element}
use Rattle.smv_spots.specs.declared.spots.Spot.{Spot}
use Rattle.smv_reads.specs.declared.bindings.View.{View}
use Rattle.smv_reads.specs.Views.{world_of, place_in, places, bind_spot}
use Rattle.smv_reads.specs.Reading.{read_in, counts_in, read_by, read_by_assignment, read_by_over, read_of}
use Rattle.smv_reads.specs.Counts.{may_count}
use Rattle.smv_reads.proofs.Computing.{boxes}
use Rattle.smv_reads.proofs.Lists.{bound-places}
use Rattle.smv_reads.proofs.CountLaws.{count-If, none-may}
use mathlib.Core.Former.{Count}

abbrev rows_of : DefBody → (k : Count) × Row_of-DefBody k
rows_of (First' shape row) = (_, row)
rows_of _ = (_, end_of-DefBody)

module _ (v : View) (own b : List Spot) where
  abbrev part_in : DefBody → List AbsElement
  part_in part = part_reads (places_in (world_of v)) (is_own (places v own)) (named_in (world_of v)) (elements_at (world_of v)) part (places v b)

  parts-row : (k : _) (row : Row_of-DefBody k) →
      map written_element (parts_read (places_in (world_of v)) (is_own (places v own)) (named_in (world_of v)) (elements_at (world_of v)) row (places v b)) ≡ flat_map (read_by v own b) (items-the_row-DefBody k row)
  unfolding read_by
  parts-row k end_of-DefBody = refl
  parts-row k (more_of-DefBody part rest) =
      map-append written_element (part_in part) (parts_read (places_in (world_of v)) (is_own (places v own)) (named_in (world_of v)) (elements_at (world_of v)) rest (places v b))
      ∙ ap (λ l. read_by v own b part ++ l) (parts-row _ rest)

  pub part-Nothing : read_by v own b Nothing ≡ []
  unfolding read_by
  part-Nothing = refl

  pub part-Assign : (left : List FlatExpr) (value : FlatExpr) (place at : ℕ) → read_by v own b (Assign left value place at) ≡ read_by_assignment v own b left value
  unfolding read_by read_in
  part-Assign left value place at =
      let c = is_own (places v own) (map flat_index left) (places v b) in
      let lefts = flat_map (λ e. elements_read (world_of v) e (places v b)) left in
      map-if written_element c (lefts ++ elements_read (world_of v) value (places v b))
      ∙ ap (λ l. if c then l else [])
      (map-append written_element lefts (elements_read (world_of v) value (places v b))
      ∙ ap (λ l. l ++ read_in v b value) (map-flat_map written_element (λ e. elements_read (world_of v) e (places v b)) left))

  -- a condition, where something inside it counts, and what is inside it
  pub part-If : (cond : FlatExpr) (x y : DefBody) → (counts_in v own b x || counts_in v own b y) ≡ true → read_by v own b (If cond x y) ≡ read_in v b cond ++ (read_by v own b x ++ read_by v own b y)
  unfolding read_by read_in counts_in boxes
  part-If cond x y e =
      ap (λ (c : Bool). map written_element ((if c then elements_read (world_of v) cond (places v b) else []) ++ part_in x ++ part_in y)) e
      ∙ map-append written_element (elements_read (world_of v) cond (places v b) ++ part_in x) (part_in y)
      ∙ ap (λ l. l ++ map written_element (part_in y)) (map-append written_element (elements_read (world_of v) cond (places v b)) (part_in x))
      ∙ append_assoc (map written_element (elements_read (world_of v) cond (places v b))) (map written_element (part_in x)) (map written_element (part_in y))

  pub part-none : (part : DefBody) → counts_in v own b part ≡ false → read_by v own b part ≡ []
  unfolding read_by counts_in
  part-none part e = ap (map written_element) (uncounted (places_in (world_of v)) (named_in (world_of v)) (is_own (places v own)) (elements_at (world_of v)) part (places v b) e)

  pub part-If_none : (cond : FlatExpr) (x y : DefBody) → (counts_in v own b x || counts_in v own b y) ≡ false → read_by v own b (If cond x y) ≡ []
  part-If_none cond x y e = part-none (If cond x y) (count-If v own b cond x y ∙ e)

  pub part-First : (parts : List DefBody) → read_by v own b (First parts) ≡ flat_map (read_by v own b) parts
  unfolding read_by
  part-First parts =
      let row : (k : Count) × Row_of-DefBody k = rows_of (First parts) in
      parts-row row.0 row.1 ∙ ap (flat_map (read_by v own b)) (items_hidden-the_row-DefBody-1 parts)

  pub part-Forall : (var : ℕ) (over : Simple) (body : DefBody) → read_by v own b (Forall var over body) ≡ read_by_over v own b var over body
  unfolding read_by read_by_over boxes
  part-Forall var over body = refl

  -- at the spots of a variable
  pub over-spots : (var : ℕ) (over : Simple) (body : DefBody) (spots : List Spot) → places v spots ≡ places_in (world_of v) over → read_by_over v own b var over body ≡ flat_map (λ p. read_by v own (bind_spot b var p) body) spots
  unfolding read_by read_by_over
  over-spots var over body spots e =
      let f : Place → List AbsElement = λ p. part_reads (places_in (world_of v)) (is_own (places v own)) (named_in (world_of v)) (elements_at (world_of v)) body (bind_place (places v b) var p) in
      map-flat_map written_element f (places_in (world_of v) over)
      ∙ ap (flat_map (λ p. map written_element (f p))) (sym e)
      ∙ flat_map-map (λ p. map written_element (f p)) (place_in v) spots
      ∙ flat_map_alike (λ s. map written_element (f (place_in v s))) (λ s. read_by v own (bind_spot b var s) body) spots
      (λ s. ap (λ ps. map written_element (part_reads (places_in (world_of v)) (is_own (places v own)) (named_in (world_of v)) (elements_at (world_of v)) body ps)) (sym (bound-places v b var s)))

  -- where nothing may count
  pub part-may : (part : DefBody) → may_count (places v own) (places v b) part ≡ false → read_by v own b part ≡ []
  part-may part e = part-none part (none-may v own b part e)

pub ruleset equations = (part-Nothing, part-Assign, part-If, part-If_none, part-First, part-Forall)

pub ruleset none_may = (part-may)

pub ruleset over = (over-spots)

-- the parts of a definition
pub of-parts : (v : View) (own : List Spot) (def : Def) → read_of v own def ≡ read_by v own [] def.init ++ (read_by v own [] def.next ++ read_by v own [] def.comb)
unfolding read_of read_by
of-parts v own def =
    let part : DefBody → List AbsElement = λ p. part_in v own [] p in
    map-append written_element (part def.init ++ part def.next) (part def.comb)
    ∙ ap (λ l. l ++ map written_element (part def.comb)) (map-append written_element (part def.init) (part def.next))
    ∙ append_assoc (map written_element (part def.init)) (map written_element (part def.next)) (map written_element (part def.comb))

pub ruleset of_parts = (of-parts)
