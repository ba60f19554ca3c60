-- What expressions and definitions read.
use Rattle.std.specs.Prelude.{ℕ, List, [], ◌∷◌, ◌++◌, map, flat_map, zip, slice_get, Option, Some, None, Bool, true, false, ◌||◌, if◌then◌else◌}
use Rattle.std.specs.List.{list_any, list_all}
use Rattle.smv_core.specs.Assignments.{Index, bare}
use Rattle.smv_core.specs.FlatMeaning.{flat_index}
use Rattle.smv_core.specs.declared.flat.Simple.{Simple}
use Rattle.smv_core.specs.declared.flat.FlatMember.{One, Span as SpanOf}
use Rattle.smv_core.specs.declared.flat.FlatExpr.{FlatExpr, Number, Read', Var, Loop, Constant, Not', And', Or', Implies', Iff', Compare', Within', Sum', Modulo', Choose', All', Any', List', Each', None', Some', Row_of-FlatExpr, end_of-FlatExpr, more_of-FlatExpr, Row_of-FlatMember, end_of-FlatMember, more_of-FlatMember, Row_of-FlatSigned, end_of-FlatSigned, more_of-FlatSigned}
use Rattle.smv_core.specs.declared.flat.DefBody.{DefBody, Nothing, Assign, If', First', Forall', Row_of-DefBody, end_of-DefBody, more_of-DefBody}
use Rattle.law_obligations.specs.Places.{Place, same_place, bind_place}
use Rattle.smv_core.specs.Rows.{one_flat_expr, FlatCondition}

-- the indexes of a reference
abbrev pub indexes_read : {m : _} → Row_of-FlatExpr m → List Index
indexes_read end_of-FlatExpr = []
indexes_read (more_of-FlatExpr e others) = flat_index e ∷ indexes_read others

-- the place of a variable, where it is bound, is this one
abbrev pub is_bound_to : Option Place → Place → Bool
is_bound_to None q = false
is_bound_to (Some p) q = same_place p q

-- a left side has the element's own indexes at its bare variables
abbrev pub is_own : List Place → List Index → List Place → Bool
is_own indexes left b = list_all (λ (i, q). fits i q) (zip left indexes)
  where
    fits : Index → Place → Bool
    fits (bare var) q = is_bound_to (slice_get b var) q
    fits _ q = true

-- An expression: what is made of each reference in it, where the variables of quantifiers and comprehensions take these places.
module _ {X : Type 0} (places : Simple → List Place) (read : ℕ → List Index → List Place → List X) where
  abbrev mutual
    pub reads : FlatExpr → List Place → List X
    reads (Number value at) b = []
    reads (Read' family shape indexes at) b = read family (indexes_read indexes) b ++ reads_each indexes b
    reads (Var var at) b = []
    reads (Loop value at) b = []
    reads (Constant list value at) b = []
    reads (Not' shape (one_flat_expr e) at) b = reads e b
    reads (And' shape parts) b = reads_each parts b
    reads (Or' shape parts) b = reads_each parts b
    reads (Implies' shape parts) b = reads_each parts b
    reads (Iff' l (one_flat_expr left) r (one_flat_expr right)) b = reads left b ++ reads right b
    reads (Compare' op l (one_flat_expr left) r (one_flat_expr right)) b = reads left b ++ reads right b
    reads (Within' l (one_flat_expr left) r (one_flat_expr set)) b = reads left b ++ reads set b
    reads (Sum' f (one_flat_expr head) shape more) b = reads head b ++ reads_signed more b
    reads (Modulo' shape (one_flat_expr e) by at) b = reads e b
    reads (Choose' c (one_flat_expr cond) l (one_flat_expr left) r (one_flat_expr right)) b =
        reads cond b ++ reads left b ++ reads right b
    reads (All' shape (one_flat_expr body) var over at) b = flat_map (λ p. reads body (bind_place b var p)) (places over)
    reads (Any' shape (one_flat_expr body) var over at) b = flat_map (λ p. reads body (bind_place b var p)) (places over)
    reads (List' shape members at) b = reads_members members b
    reads (Each' var over cond at) b = flat_map (λ p. reads_held cond (bind_place b var p)) (places over)

    pub reads_each : {m : _} → Row_of-FlatExpr m → List Place → List X
    reads_each end_of-FlatExpr b = []
    reads_each (more_of-FlatExpr e others) b = reads e b ++ reads_each others b

    pub reads_signed : {m : _} → Row_of-FlatSigned m → List Place → List X
    reads_signed end_of-FlatSigned b = []
    reads_signed (more_of-FlatSigned minus e others) b = reads e b ++ reads_signed others b

    pub reads_members : {m : _} → Row_of-FlatMember m → List Place → List X
    reads_members end_of-FlatMember b = []
    reads_members (more_of-FlatMember (One e) others) b = reads e b ++ reads_members others b
    reads_members (more_of-FlatMember (SpanOf span at) others) b = reads_members others b

    pub reads_held : FlatCondition → List Place → List X
    reads_held None' b = []
    reads_held (Some' shape (one_flat_expr cond)) b = reads cond b

-- A definition: its `forall` variables take these places, and an assignment counts where its left side passes a test.
module _ (every : Simple → List Place) (counts : List Index → List Place → Bool) where
  abbrev mutual
    -- some assignment counts
    pub has_counting : DefBody → List Place → Bool
    has_counting Nothing b = false
    has_counting (Assign left value place at) b = counts (map flat_index left) b
    has_counting (If' cond l (more_of-DefBody left end_of-DefBody) r (more_of-DefBody right end_of-DefBody)) b = has_counting left b || has_counting right b
    has_counting (First' shape parts) b = have_counting parts b
    has_counting (Forall' var over shape (more_of-DefBody body end_of-DefBody)) b = list_any (λ p. has_counting body (bind_place b var p)) (every over)

    pub have_counting : {m : _} → Row_of-DefBody m → List Place → Bool
    have_counting end_of-DefBody b = false
    have_counting (more_of-DefBody part others) b = has_counting part b || have_counting others b

  module _ {X : Type 0} (places : Simple → List Place) (read : ℕ → List Index → List Place → List X) where
    abbrev mutual
      -- what the values and the indexes of the assignments that count, and the conditions around them, read
      pub part_reads : DefBody → List Place → List X
      part_reads Nothing b = []
      part_reads (Assign left value place at) b =
          if counts (map flat_index left) b then flat_map (λ e. reads places read e b) left ++ reads places read value b else []
      part_reads (If' cond l (more_of-DefBody left end_of-DefBody) r (more_of-DefBody right end_of-DefBody)) b =
          (if has_counting left b || has_counting right b then reads places read cond b else []) ++ part_reads left b ++ part_reads right b
      part_reads (First' shape parts) b = parts_read parts b
      part_reads (Forall' var over shape (more_of-DefBody body end_of-DefBody)) b = flat_map (λ p. part_reads body (bind_place b var p)) (every over)

      pub parts_read : {m : _} → Row_of-DefBody m → List Place → List X
      parts_read end_of-DefBody b = []
      parts_read (more_of-DefBody part others) b = part_reads part b ++ parts_read others b
