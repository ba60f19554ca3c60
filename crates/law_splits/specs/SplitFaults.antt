-- The faults of splits, each as the list of the places where its rule is broken.
use Rattle.std.specs.Prelude.{ℕ, zero, suc, List, [], ◌∷◌, ◌++◌, map, flat_map, filter, zip, length, slice_get, is_none, Option, Some, None, Bool, true, false, not, ◌&&◌, ◌||◌, nat_eq, nat_lt}
use Rattle.std.specs.Str.{bytes_eq}
use Rattle.std.specs.List.{list_any}
use Rattle.smv_core.specs.Values.{Name}
use Rattle.smv_core.specs.declared.fault.Fault.{Fault}
use Rattle.smv_core.specs.declared.tree.Word.{Word}
use Rattle.smv_core.specs.declared.flat.Simple.{Simple}
use Rattle.smv_core.specs.declared.flat.Simple.TheVariants.{Range, Enum, Set}
use Rattle.smv_core.specs.declared.flat.Design.{Design}
use Rattle.smv_core.specs.declared.flat.Family.{Family}
use Rattle.smv_core.specs.declared.flat.Param.{Param}
use Rattle.smv_core.specs.declared.flat.FlatSplit.{FlatSplit}
use Rattle.smv_core.specs.declared.flat.FlatPair.{FlatPair}
use Rattle.smv_core.specs.declared.flat.FlatExpr.{FlatExpr, Read', Var, Constant, Choose'}
use Rattle.smv_mentions.specs.NameFaults.{place_if}
use Rattle.smv_mentions.specs.FirstFault.{faults_at, first_of}
use Rattle.law_obligations.specs.Outlines.{unit_in}
use Rattle.law_obligations.specs.Units.{units_of}
use Rattle.law_splits.specs.Variables.{Occurrence, readings}
use Rattle.law_splits.specs.Leaves.{named_by, with_name, name_of, own_params, splits_of, Cut, stands_for, onward}
use Rattle.smv_core.specs.Rows.{one_flat_expr}

-- ---- fault 23: a split of nothing that is to be proved, or of what is split already

module _ (d : Design) where
  abbrev pub is_unit : Name → Bool
  is_unit name = list_any (λ unit. bytes_eq (name_of d (unit_in d unit)) name) (units_of d)

  -- followed from split to split, so many at most, the name leads to a unit
  abbrev pub leads_to_unit : ℕ → Name → Bool
  leads_to_unit zero name = is_unit name
  leads_to_unit (suc n) name = is_unit name || list_any (λ s. bytes_eq s.name name && leads_to_unit n (named_by s.of)) d.splits

  abbrev pub astray : FlatSplit → List ℕ
  astray s = place_if (not (leads_to_unit (length d.splits) (named_by s.of))) s.of.at

-- the later of two splits of one unit or split
abbrev pub split_again : List FlatSplit → List ℕ
split_again [] = []
split_again (s ∷ more) = map (λ t. t.of.at) (filter (λ t. bytes_eq (named_by t.of) (named_by s.of)) more) ++ split_again more

-- ---- fault 24: names and expressions that do not fit

-- a word names one of these parameters
abbrev pub names_one : List Param → Word → Bool
names_one params word = list_any (λ p. bytes_eq p.name word.name) params

-- the new parameters, and then the names in the brackets of the reference
abbrev pub bracketed : FlatSplit → List Word
bracketed s = s.vars ++ s.of.names

-- not bound
abbrev pub unbound : FlatSplit → List ℕ
unbound s = flat_map (λ word. place_if (not (names_one s.bound word)) word.at) (bracketed s)

-- the later of two equal names
abbrev pub doubled : List Word → List ℕ
doubled [] = []
doubled (word ∷ more) = map (λ other. other.at) (filter (λ other. bytes_eq other.name word.name) more) ++ doubled more

-- a new parameter that is not in exactly one equation
abbrev pub equations_of : List FlatPair → Word → List FlatPair
equations_of pairs word = filter (λ pair. bytes_eq pair.right.name word.name) pairs

abbrev pub not_in_one : FlatSplit → List ℕ
not_in_one s = flat_map (λ word. place_if (not (nat_eq (length (equations_of s.pairs word)) 1)) word.at) s.vars

-- the right of an equation is no new parameter
abbrev pub not_new : FlatSplit → List ℕ
not_new s = flat_map (λ pair. place_if (not (list_any (λ word. bytes_eq word.name pair.right.name) s.vars)) pair.right.at) s.pairs

-- one type
abbrev pub same_type : Simple → Simple → Bool
same_type (Range a b) (Range c e) = nat_eq a c && nat_eq b e
same_type (Enum a) (Enum b) = nat_eq a b
same_type (Set a) (Set b) = nat_eq a b
same_type _ _ = false

-- one kind: all ranges are of numbers
abbrev pub same_kind : Simple → Simple → Bool
same_kind (Range a b) (Range c e) = true
same_kind t u = same_type t u

-- numbers
abbrev pub is_of_numbers : Simple → Bool
is_of_numbers (Range low high) = true
is_of_numbers _ = false

abbrev pub has_values_of_kind : Simple → Option Family → Bool
has_values_of_kind t None = false
has_values_of_kind t (Some f) = same_kind t f.value

-- the expression is of the kind of this type, inside these variables: logic and arithmetic give numbers, and the branches of `?:` are of one kind
abbrev pub is_of_kind : List Family → List Param → Simple → FlatExpr → Bool
is_of_kind families bound t (Read' family shape indexes at) = has_values_of_kind t (slice_get families family)
is_of_kind families bound t (Var var at) = list_any (λ p. nat_eq p.var var && same_kind t p.over) bound
is_of_kind families bound t (Constant list value at) = same_kind t (Enum list)
is_of_kind families bound t (Choose' c cond l (one_flat_expr left) r right) = is_of_kind families bound t left
is_of_kind families bound t _ = is_of_numbers t

-- the expression is of another kind than its parameter
abbrev pub other_kind : List Family → FlatSplit → List ℕ
other_kind families s = flat_map (λ pair. place_if (list_any (λ p. not (is_of_kind families s.bound p.over pair.left)) (with_name s.bound pair.right)) pair.right.at) s.pairs

-- the expression reads a variable bound around the split that the brackets of its reference do not name
abbrev pub is_stray : FlatSplit → Occurrence → Bool
is_stray s reading = nat_lt reading.var (length s.bound) && is_none (stands_for s reading.var)

abbrev pub strays : FlatSplit → List ℕ
strays s = flat_map (λ pair. map (λ reading. reading.at) (filter (is_stray s) (readings pair.left))) s.pairs

-- there are brackets, with more or fewer names than what is split has parameters: at the first name
abbrev pub miscounted : ℕ → List Word → List ℕ
miscounted count [] = []
miscounted count (word ∷ more) = place_if (not (nat_eq (length (word ∷ more)) count)) word.at

-- a type that a variable may have: a parameter whose name was not bound has none
abbrev pub is_of_variables : Simple → Bool
is_of_variables (Enum list) = false
is_of_variables _ = true

-- a name of another type than its parameter, where that has one
abbrev pub other_type : Cut → List ℕ
other_type c = flat_map (λ (word, p). place_if (is_of_variables p.over && list_any (λ b. not (same_type b.over p.over)) (with_name c.split.bound word)) word.at) (zip c.split.of.names c.params)

-- the places of fault 24 in a split, and those that what it splits shows
abbrev pub misfits : List Family → FlatSplit → List ℕ
misfits families s = unbound s ++ doubled (bracketed s) ++ not_in_one s ++ not_new s ++ other_kind families s ++ strays s

abbrev pub mismatches : Cut → List ℕ
mismatches c = miscounted (length c.params) c.split.of.names ++ other_type c

-- ---- the faults of a design

module _ (d : Design) where
  -- all splits that lead to what has this name and these parameters, from split to split, so many at most
  abbrev pub cuts : ℕ → Name → List Param → List Cut
  cuts zero name params = []
  cuts (suc n) name params = flat_map (onward (cuts n) params) (splits_of d name)

  abbrev pub cuts_of : List Cut
  cuts_of = flat_map (λ unit. cuts (length d.splits) (name_of d (unit_in d unit)) (own_params d (unit_in d unit))) (units_of d)

  -- all places of each fault of splits, each with its number
  abbrev pub split_faults : List (ℕ × List ℕ)
  split_faults =
      (23, flat_map (astray d) d.splits ++ split_again d.splits)
      ∷ (24, flat_map (misfits d.families) d.splits ++ flat_map mismatches cuts_of) ∷ []

abbrev pub faults_of_splits : Design → List Fault
faults_of_splits d = flat_map faults_at (split_faults d)

abbrev pub first_fault_of_splits : Design → Option Fault
first_fault_of_splits d = first_of (faults_of_splits d)
