-- Which assignments may count for an element, by the variables alone that are bound so far.
use Rattle.std.specs.Prelude.{List, ◌∷◌, map, length, slice_get, Option, Some, None, Bool, true, false, ◌&&◌, ◌||◌, nat_lt}
use Rattle.smv_core.specs.Assignments.{Index, bare}
use Rattle.smv_core.specs.FlatMeaning.{flat_index}
use Rattle.smv_core.specs.declared.flat.DefBody.{DefBody, Nothing, Assign, If', First', Forall', Row_of-DefBody, end_of-DefBody, more_of-DefBody}
use Rattle.law_obligations.specs.Places.{Place, same_place}
use Rattle.law_obligations.specs.Reads.{is_bound_to}

-- a left side's index fits an element's: a variable alone lies there, and any other may
abbrev pub fits : List Place → Index → Place → Bool
fits b (bare var) q = is_bound_to (slice_get b var) q
fits b _ q = true

-- a variable that is not bound yet may lie anywhere
abbrev pub may_be : Option Place → Place → Bool
may_be None q = true
may_be (Some p) q = same_place p q

abbrev pub may_fit : List Place → Index → Place → Bool
may_fit b (bare var) q = may_be (slice_get b var) q
may_fit b _ q = true

abbrev pub may_be_own : List Place → List Index → List Place → Bool
may_be_own b (i ∷ left) (q ∷ own) = may_fit b i q && may_be_own b left own
may_be_own b _ _ = true

-- some assignment of the part may count once the variables below are bound; a variable that takes the place of a bound one tells nothing
module _ (own b : List Place) where
  unfoldable mutual
    pub may_count : DefBody → Bool
    may_count Nothing = false
    may_count (Assign left value place at) = may_be_own b (map flat_index left) own
    may_count (If' cond l (more_of-DefBody left end_of-DefBody) r (more_of-DefBody right end_of-DefBody)) = may_count left || may_count right
    may_count (First' shape parts) = some_may_count parts
    may_count (Forall' var over shape (more_of-DefBody body end_of-DefBody)) = nat_lt var (length b) || may_count body

    pub some_may_count : {m : _} → Row_of-DefBody m → Bool
    some_may_count end_of-DefBody = false
    some_may_count (more_of-DefBody part others) = may_count part || some_may_count others
