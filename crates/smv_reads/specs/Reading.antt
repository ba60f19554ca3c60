-- What is read in a case, as elements are written. These words stay closed until a law opens them.
use Rattle.std.specs.Prelude.{◌≡◌, ℕ, List, [], ◌∷◌, ◌++◌, map, flat_map, Option, Some, None, Bool, if◌then◌else◌}
use Rattle.std.specs.List.{list_any}
use Rattle.smv_core.specs.FlatMeaning.{flat_index}
use Rattle.smv_core.specs.declared.flat.Simple.{Simple}
use Rattle.smv_core.specs.declared.flat.Class.{Class}
use Rattle.smv_core.specs.declared.flat.Element.{Element}
use Rattle.smv_core.specs.declared.flat.Def.{Def}
use Rattle.smv_core.specs.declared.flat.DefBody.{DefBody}
use Rattle.smv_core.specs.declared.flat.FlatExpr.{FlatExpr}
use Rattle.smv_core.specs.declared.flat.FlatSigned.{FlatSigned, out-FlatSigned}
use Rattle.smv_core.specs.declared.flat.FlatMember.{FlatMember, One, Span as SpanOf}
use Rattle.law_obligations.specs.Sets.{Has}
use Rattle.law_obligations.specs.Places.{named_in, places_in, bind_place}
use Rattle.law_obligations.specs.Reads.{is_own, has_counting, part_reads}
use Rattle.law_obligations.specs.Cones.{index_places, each_index, elements_at, elements_read, elements_of_def}
use Rattle.smv_elements.specs.Elements.{put_all}
use Rattle.smv_problem.specs.Written.{written_class, written_element}
use Rattle.smv_spots.specs.declared.spots.Spot.{Spot}
use Rattle.smv_free_variables.specs.declared.known.Entry.{Entry}
use Rattle.smv_reads.specs.declared.bindings.View.{View}
use Rattle.smv_reads.specs.Views.{world_of, places, bind_spot}

-- the elements of a family whose indexes begin with these classes and go on with one of each of these
abbrev pub elements_from : ℕ → List Class → List (List Class) → List Element
elements_from family front [] = record { family = family; indexes = front } ∷ []
elements_from family front (cs ∷ more) = flat_map (λ c. elements_from family (front ++ c ∷ []) more) cs

module _ (v : View) where
  -- the classes that an index of a reference may be, a missing one any; and those of its indexes
  abbrev pub choice_in : List Spot → Option FlatExpr → Simple → List Class
  choice_in b None over = map written_class (named_in (world_of v) over)
  choice_in b (Some e) over = map written_class (index_places (places v b) (flat_index e) (named_in (world_of v) over))

  unfoldable pub choices_in : List Spot → List FlatExpr → List Simple → List (List Class)
  choices_in b indexes over = map (map written_class) (each_index (places v b) (map flat_index indexes) (map (named_in (world_of v)) over))

  -- what a reference, an expression and some expressions read, where the variables around them lie at these spots
  unfoldable pub read_at : List Spot → ℕ → List FlatExpr → List Element
  read_at b family indexes = map written_element (elements_at (world_of v) family (map flat_index indexes) (places v b))

  unfoldable pub read_in : List Spot → FlatExpr → List Element
  read_in b e = map written_element (elements_read (world_of v) e (places v b))

  abbrev pub read_in_term : List Spot → FlatSigned → List Element
  read_in_term b term = read_in b (out-FlatSigned term).of

  abbrev pub read_in_member : List Spot → FlatMember → List Element
  read_in_member b (One e) = read_in b e
  read_in_member b (SpanOf span at) = []

  -- what the body of a quantifier reads, where its variable takes each number, constant and class of its type
  unfoldable pub read_over : List Spot → ℕ → Simple → FlatExpr → List Element
  read_over b var over body = map written_element (flat_map (λ p. elements_read (world_of v) body (bind_place (places v b) var p)) (named_in (world_of v) over))

  -- for an element with these indexes
  module _ (own : List Spot) where
    -- some assignment of a part of its family's definition has them, also at some place of one more variable
    unfoldable pub counts_in : List Spot → DefBody → Bool
    counts_in b part = has_counting (places_in (world_of v)) (is_own (places v own)) part (places v b)

    unfoldable pub counts_over : List Spot → ℕ → Simple → DefBody → Bool
    counts_over b var over body = list_any (λ p. has_counting (places_in (world_of v)) (is_own (places v own)) body (bind_place (places v b) var p)) (places_in (world_of v) over)

    -- what such assignments and the conditions around them read
    unfoldable pub read_by : List Spot → DefBody → List Element
    read_by b part = map written_element (part_reads (places_in (world_of v)) (is_own (places v own)) (named_in (world_of v)) (elements_at (world_of v)) part (places v b))

    abbrev pub read_by_assignment : List Spot → List FlatExpr → FlatExpr → List Element
    read_by_assignment b left value = if is_own (places v own) (map flat_index left) (places v b) then flat_map (read_in b) left ++ read_in b value else []

    unfoldable pub read_by_over : List Spot → ℕ → Simple → DefBody → List Element
    read_by_over b var over body =
        map written_element (flat_map (λ p. part_reads (places_in (world_of v)) (is_own (places v own)) (named_in (world_of v)) (elements_at (world_of v)) body (bind_place (places v b) var p)) (places_in (world_of v) over))

    -- what its definition reads
    unfoldable pub read_of : Def → List Element
    read_of def = map written_element (elements_of_def (world_of v) (places v own) def)

-- where a variable takes these spots alone, its body has the same elements put as where it takes all of those
abbrev pub DoForAll : List Spot → ℕ → FlatExpr → List Spot → List Spot → Type 0
DoForAll b var body some all = (v : View) (found : List Element) → put_all found (flat_map (λ p. read_in v (bind_spot b var p) body) some) ≡ put_all found (flat_map (λ p. read_in v (bind_spot b var p) body) all)

-- the elements that each expression of a table reads under its bindings have been put: put again they change nothing
unfoldable pub AreWalked : {A : Type 0} → View → List Element → List (Entry A) → Type 0
AreWalked {A} v found entries = (x : Entry A) → Has entries x → put_all found (read_in v x.bindings x.of.now) ≡ found
