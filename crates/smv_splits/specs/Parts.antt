-- The misfits of splits as the code finds them: one name, one equation and one reading after the other.
use Rattle.std.specs.Prelude.{◌≡◌, ℕ, List, [], ◌∷◌, ◌++◌, map, filter, length, not, is_some, is_none, slice_get, Option, Some, None, Bool, false, ◌&&◌, if◌then◌else◌}
use Rattle.std.specs.List.{list_any}
use Rattle.smv_core.specs.Values.{Name, numbers_from}
use Rattle.smv_core.specs.declared.tree.Word.{Word}
use Rattle.smv_core.specs.declared.flat.Simple.{Simple}
use Rattle.smv_core.specs.declared.flat.Family.{Family}
use Rattle.smv_core.specs.declared.flat.Param.{Param}
use Rattle.smv_core.specs.declared.flat.FlatSplit.{FlatSplit}
use Rattle.smv_core.specs.declared.flat.FlatPair.{FlatPair}
use Rattle.smv_core.specs.declared.flat.FlatExpr.{FlatExpr}
use Rattle.smv_core.specs.declared.flat.FlatMember.{FlatMember, One, Span as SpanOf}
use Rattle.smv_core.specs.declared.flat.FlatSigned.{FlatSigned, out-FlatSigned}
use Rattle.smv_mentions.specs.NameFaults.{place_if}
use Rattle.smv_mentions.specs.Scopes.{first_of_places}
use Rattle.smv_first_fault.specs.Firsts.{least}
use Rattle.name_index.specs.Position.{position}
use Rattle.law_splits.specs.Variables.{Occurrence, readings}
use Rattle.law_splits.specs.Leaves.{with_name, stands_for}
use Rattle.law_splits.specs.SplitFaults as splits
use Rattle.smv_splits.specs.declared.rights.Rights.{Rights}

-- the first of some places, if there is one
abbrev pub first_among : List (Option ℕ) → Option ℕ
first_among [] = None
first_among (place ∷ more) = first_of_places place (first_among more)

-- ---- names to the right of equations

-- a name, where it stands among these
abbrev pub repeated_if : List Name → Name → List Name
repeated_if names name = if is_some (position names name) then name ∷ [] else []

-- the names that stand before in a list, or among these
abbrev pub repeated : List Name → List Name → List Name
repeated before [] = []
repeated before (name ∷ names) = repeated_if before name ++ repeated (before ++ name ∷ []) names

abbrev pub right_names : List FlatPair → List Name
right_names pairs = map (λ (pair : FlatPair). pair.right.name) pairs

-- the names to the right of these equations, and those of them that stand there once more than before
pub record AreRights (pairs : List FlatPair) (rights : Rights) : Type 0 where
  pub names : rights.names ≡ right_names pairs
  pub repeated : rights.repeated ≡ repeated [] (right_names pairs)

-- a word is one of these names, and none that is repeated
abbrev pub is_in_one : List Name → List Name → Word → Bool
is_in_one names again word = is_some (position names word.name) && is_none (position again word.name)

-- ---- equations

-- the right of an equation is none of these names
abbrev pub not_new_in : List Name → FlatPair → List ℕ
not_new_in new pair = place_if (not (is_some (position new pair.right.name))) pair.right.at

-- the expression of an equation is of another kind than its parameter
abbrev pub other_kind_in : List Family → List Param → FlatPair → List ℕ
other_kind_in families bound pair = place_if (list_any (λ p. not (splits.is_of_kind families bound p.over pair.left)) (with_name bound pair.right)) pair.right.at

-- an expression is of the kind of a type, under a name that stays closed
unfoldable pub is_of_kind : List Family → List Param → Simple → FlatExpr → Bool
is_of_kind families bound t e = splits.is_of_kind families bound t e

-- ---- strays

-- for each variable around a split the parameter for which it stands
abbrev pub standing_in : FlatSplit → List (Option ℕ)
standing_in s = map (stands_for s) (numbers_from 0 (length s.bound))

module _ (standing : List (Option ℕ)) where
  abbrev pub is_stray_at : Option (Option ℕ) → Bool
  is_stray_at None = false
  is_stray_at (Some place) = is_none place

  -- a variable stands for no parameter, where it is one of these
  abbrev pub is_stray : ℕ → Bool
  is_stray var = is_stray_at (slice_get standing var)

  -- the first of some readings of such a variable
  abbrev pub first_stray : List Occurrence → Option ℕ
  first_stray reads = least (map (λ (r : Occurrence). r.at) (filter (λ (r : Occurrence). is_stray r.var) reads))

  -- of those in an expression
  unfoldable pub stray_in : FlatExpr → Option ℕ
  stray_in e = first_stray (readings e)

  abbrev pub member_stray : FlatMember → Option ℕ
  member_stray (One e) = stray_in e
  member_stray (SpanOf span at) = None

  abbrev pub signed_stray : FlatSigned → Option ℕ
  signed_stray x = stray_in (out-FlatSigned x).of

-- ---- a split

abbrev pub equations_misfit : List Family → FlatSplit → Option ℕ
equations_misfit families s =
    first_of_places (first_of_places (least (splits.not_in_one s)) (least (splits.not_new s))) (first_of_places (least (splits.other_kind families s)) (least (splits.strays s)))
