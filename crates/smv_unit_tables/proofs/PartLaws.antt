-- What parts of definitions read, on parts that are made of lists and values.
use Rattle.std.proofs.Common.{◌≡◌, ℕ, List, [], ◌++◌, length, take, Bool, true, false, ◌||◌, if◌then◌else◌, refl, ap, sym, ◌∙◌}
use Rattle.std.specs.Prelude.{slice_get}
use Rattle.std.specs.List.{flat_map, list_any}
use Rattle.std.proofs.lemmas.List.{append-nil, append_assoc}
use Rattle.std.proofs.Math.Seq.{take-append_seam}
use Rattle.smv_core.specs.Values.{number}
use Rattle.smv_core.specs.declared.flat.Simple.{Simple}
use Rattle.smv_core.specs.declared.flat.Family.{Family}
use Rattle.smv_core.specs.declared.flat.FlatExpr.{FlatExpr}
use Rattle.smv_core.specs.declared.flat.DefBody.{DefBody, Nothing, Assign, If, If', First, First', Forall, Forall', Row_of-DefBody, end_of-DefBody, more_of-DefBody, items-the_row-DefBody, items_hidden-the_row-DefBody-1}
use Rattle.law_obligations.specs.Places.{Place, named, bind_place}
use Rattle.law_obligations.specs.Reads.{has_counting, have_counting, parts_read}
use Rattle.law_obligations.specs.Times.{if_there}
use Rattle.smv_unit_tables.specs.Reads.{read_in, part_reads, has_assignment}
use Rattle.smv_unit_tables.proofs.ReadLaws.{one, all_count, by_family, counting_alike, part_alike}
use Rattle.smv_unit_tables.proofs.Computing.{boxes}
use mathlib.Core.Former.{Count}

abbrev rows_of : DefBody → (k : Count) × Row_of-DefBody k
rows_of (First' shape row) = (_, row)
rows_of _ = (_, end_of-DefBody)

pub or_none : (b : Bool) → (b || false) ≡ b
or_none true = refl
or_none false = refl

-- ---- assignments

some-row : (k : _) (row : Row_of-DefBody k) → have_counting one all_count row [] ≡ list_any has_assignment (items-the_row-DefBody k row)
unfolding has_assignment
some-row k end_of-DefBody = refl
some-row k (more_of-DefBody part rest) = ap (λ b. has_assignment part || b) (some-row _ rest)

pub some-Nothing : has_assignment Nothing ≡ false
unfolding has_assignment
some-Nothing = refl

pub some-Assign : (left : List FlatExpr) (value : FlatExpr) (place at : ℕ) → has_assignment (Assign left value place at) ≡ true
unfolding has_assignment
some-Assign left value place at = refl

pub some-If : (c : FlatExpr) (x y : DefBody) → has_assignment (If c x y) ≡ (has_assignment x || has_assignment y)
unfolding has_assignment boxes
some-If c x y = refl

pub some-First : (parts : List DefBody) → has_assignment (First parts) ≡ list_any has_assignment parts
unfolding has_assignment
some-First parts =
    let row : (k : Count) × Row_of-DefBody k = rows_of (First parts) in
    some-row row.0 row.1 ∙ ap (list_any has_assignment) (items_hidden-the_row-DefBody-1 parts)

pub some-Forall : (var : ℕ) (over : Simple) (body : DefBody) → has_assignment (Forall var over body) ≡ has_assignment body
unfolding has_assignment boxes
some-Forall var over body = or_none _ ∙ counting_alike body (bind_place [] var (named (number 0))) []

-- ---- reads

module _ (fs : List Family) where
  -- a family of these
  abbrev there : ℕ → List ℕ
  there family = if_there family (slice_get fs family)

  parts-row : (k : _) (row : Row_of-DefBody k) → parts_read one all_count one (by_family there) row [] ≡ flat_map (part_reads fs) (items-the_row-DefBody k row)
  unfolding part_reads
  parts-row k end_of-DefBody = refl
  parts-row k (more_of-DefBody part rest) = ap (λ l. part_reads fs part ++ l) (parts-row _ rest)

  pub part-Nothing : part_reads fs Nothing ≡ []
  unfolding part_reads
  part-Nothing = refl

  pub part-Assign : (left : List FlatExpr) (value : FlatExpr) (place at : ℕ) → part_reads fs (Assign left value place at) ≡ flat_map (read_in fs) left ++ read_in fs value
  unfolding part_reads read_in
  part-Assign left value place at = refl

  pub part-If : (c : FlatExpr) (x y : DefBody) → part_reads fs (If c x y) ≡ ((if has_assignment x || has_assignment y then read_in fs c else []) ++ part_reads fs x) ++ part_reads fs y
  unfolding part_reads has_assignment read_in boxes
  part-If c x y = refl

  pub part-First : (parts : List DefBody) → part_reads fs (First parts) ≡ flat_map (part_reads fs) parts
  unfolding part_reads
  part-First parts =
      let row : (k : Count) × Row_of-DefBody k = rows_of (First parts) in
      parts-row row.0 row.1 ∙ ap (flat_map (part_reads fs)) (items_hidden-the_row-DefBody-1 parts)

  pub part-Forall : (var : ℕ) (over : Simple) (body : DefBody) → part_reads fs (Forall var over body) ≡ part_reads fs body
  unfolding part_reads boxes
  part-Forall var over body = append-nil _ ∙ part_alike there body (bind_place [] var (named (number 0))) []

  -- ---- a part without an assignment reads nothing

  no-left : (a b : Bool) → (a || b) ≡ false → a ≡ false
  no-left true b e = e
  no-left false b e = refl

  no-right : (a b : Bool) → (a || b) ≡ false → b ≡ false
  no-right true b e = absurd (cc (e))
  no-right false b e = e

  none_of : {X : Type 0} (a b : Bool) (c x y : List X) → (a || b) ≡ false → x ≡ [] → y ≡ [] → ((if a || b then c else []) ++ x) ++ y ≡ []
  none_of true b c x y e p q = absurd (cc (e))
  none_of false true c x y e p q = absurd (cc (e))
  none_of false false c x y e p q = ap (λ l. l ++ y) p ∙ q

  mutual
    nothing-read : (part : DefBody) (b : List Place) → has_counting one all_count part b ≡ false → Rattle.law_obligations.specs.Reads.part_reads one all_count one (by_family there) part b ≡ []
    nothing-read Nothing b e = refl
    nothing-read (Assign left value place at) b e = absurd (cc (e))
    nothing-read (If' c l (more_of-DefBody left end_of-DefBody) r (more_of-DefBody right end_of-DefBody)) b e =
        none_of (has_counting one all_count left b) (has_counting one all_count right b) _ _ _ e
        (nothing-read left b (no-left (has_counting one all_count left b) (has_counting one all_count right b) e))
        (nothing-read right b (no-right (has_counting one all_count left b) (has_counting one all_count right b) e))
    nothing-read (First' shape parts) b e = nothing-in parts b e
    nothing-read (Forall' var over shape (more_of-DefBody body end_of-DefBody)) b e =
        append-nil _ ∙ nothing-read body (bind_place b var (named (number 0))) (no-left (has_counting one all_count body (bind_place b var (named (number 0)))) false e)

    nothing-in : {m : _} (row : Row_of-DefBody m) (b : List Place) → have_counting one all_count row b ≡ false → parts_read one all_count one (by_family there) row b ≡ []
    nothing-in end_of-DefBody b e = refl
    nothing-in (more_of-DefBody part others) b e =
        ap (λ l. l ++ parts_read one all_count one (by_family there) others b) (nothing-read part b (no-left (has_counting one all_count part b) (have_counting one all_count others b) e))
        ∙ nothing-in others b (no-right (has_counting one all_count part b) (have_counting one all_count others b) e)

  pub no-reads : (part : DefBody) → has_assignment part ≡ false → part_reads fs part ≡ []
  unfolding has_assignment part_reads
  no-reads part e = nothing-read part [] e

  -- what is kept behind others of a condition and of two parts
  kept : (a b : Bool) (old c x y : List ℕ) → (a ≡ false → x ≡ []) → (b ≡ false → y ≡ []) →
      (if a || b then ((old ++ c) ++ x) ++ y else take (length old) (((old ++ c) ++ x) ++ y)) ≡ old ++ (((if a || b then c else []) ++ x) ++ y)
  kept true b old c x y p q = ap (λ l. l ++ y) (append_assoc old c x) ∙ append_assoc old (c ++ x) y
  kept false true old c x y p q = ap (λ l. l ++ y) (append_assoc old c x) ∙ append_assoc old (c ++ x) y
  kept false false old c x y p q =
      ap (λ l. take (length old) (((old ++ c) ++ x) ++ l)) (q refl) ∙ ap (λ l. take (length old) (((old ++ c) ++ l) ++ [])) (p refl)
      ∙ ap (take (length old)) (append-nil _ ∙ append-nil _) ∙ take-append_seam old c ∙ sym (ap (λ l. old ++ (l ++ y)) (p refl) ∙ ap (λ l. old ++ l) (q refl) ∙ append-nil old)

  pub if_kept : (old first second third new : List ℕ) (x : DefBody) (c : FlatExpr) (left_part right_part : DefBody) (a b : Bool) (count : ℕ) → x ≡ If c left_part right_part → count ≡ length old →
      first ≡ old ++ read_in fs c → a ≡ has_assignment left_part → second ≡ first ++ part_reads fs left_part → b ≡ has_assignment right_part → third ≡ second ++ part_reads fs right_part →
      new ≡ (if a || b then third else take count third) → new ≡ old ++ part_reads fs x
  if_kept old first second third new x c left_part right_part a b count is at reads left lefts right rights e =
      let whole : third ≡ ((old ++ read_in fs c) ++ part_reads fs left_part) ++ part_reads fs right_part = rights ∙ ap (λ l. l ++ part_reads fs right_part) (lefts ∙ ap (λ l. l ++ part_reads fs left_part) reads) in
      e ∙ ap (λ n. if a || b then third else take n third) at
      ∙ ap (λ t. if t || b then third else take (length old) third) left ∙ ap (λ t. if has_assignment left_part || t then third else take (length old) third) right
      ∙ ap (λ l. if has_assignment left_part || has_assignment right_part then l else take (length old) l) whole
      ∙ kept (has_assignment left_part) (has_assignment right_part) old (read_in fs c) (part_reads fs left_part) (part_reads fs right_part) (no-reads left_part) (no-reads right_part)
      ∙ ap (λ l. old ++ l) (sym (part-If c left_part right_part) ∙ ap (part_reads fs) (sym is))

pub or_assoc : (a b c : Bool) → ((a || b) || c) ≡ (a || (b || c))
or_assoc true b c = refl
or_assoc false b c = refl

pub ruleset equations = (some-Nothing, some-Assign, some-If, some-First, some-Forall, part-Nothing, part-Assign, part-If, part-First, part-Forall)

pub ruleset steps = (or_assoc, or_none)
