-- Kinds: what sort of value an operand has, and which operands fit together.
use Rattle.std.specs.Prelude.{ℕ, List, [], ◌∷◌, ◌++◌, flat_map, Bool, true, false, not}
use Rattle.std.specs.Str.{bytes_eq}
use Rattle.smv_core.specs.Values.{Name}
use Rattle.smv_core.specs.Outcome.{same_path}
use Rattle.smv_core.specs.declared.fault.Fault.{Fault}
use Rattle.smv_mentions.specs.NameFaults.{place_if}
use Rattle.smv_mentions.specs.FirstFault.{faults_at}

-- ---- kinds

-- a number, a constant of an enumeration by its list, or a value of a set type by its name; and none, where an operand is itself at fault
pub data Kind : Type 0 where
  number : Kind
  enumeration : List Name → Kind
  set_type : Name → Kind
  no_kind : Kind

-- Two kinds that may stand side by side: equal ones. A number beside a value of a set type is left to the rules of set types.
unfoldable pub joins : Kind → Kind → Bool
joins no_kind _ = true
joins _ no_kind = true
joins number number = true
joins number (set_type b) = true
joins (set_type a) number = true
joins (set_type a) (set_type b) = bytes_eq a b
joins (enumeration a) (enumeration b) = same_path a b
joins _ _ = false

-- the kind of two together: the left one's, but that of the set type where a number meets one
unfoldable pub joined : Kind → Kind → Kind
joined no_kind kind = kind
joined number (set_type name) = set_type name
joined kind _ = kind

-- What is of the first kind, a target or an index type, takes a value of the second. A number for a set type is left to the rules of set types.
unfoldable pub accepts : Kind → Kind → Bool
accepts number (set_type name) = false
accepts target kind = joins target kind

-- it may stand where a number is wanted
unfoldable pub is_number : Kind → Bool
is_number kind = accepts number kind

-- it may stand beside an order; which set types have one is left to the rules of set types
unfoldable pub has_order : Kind → Bool
has_order (enumeration names) = false
has_order _ = true

-- ---- operands

-- an expression, by its kind, where its first token other than `(` stands, and the faults in it
pub record Operand : Type 0 where
  pub kind : Kind
  pub at : ℕ
  pub faults : List Fault

-- fault 12 at an operand that does not fit
unfoldable pub unless : Bool → Operand → List Fault
unless fits e = faults_at (12, place_if (not fits) e.at)

-- logic, arithmetic and conditions take numbers
unfoldable pub takes_number : Operand → List Fault
takes_number e = e.faults ++ unless (is_number e.kind) e

-- an assignment's value has the target's kind, and an index has its type's
unfoldable pub takes : Kind → Operand → List Fault
takes kind e = e.faults ++ unless (accepts kind e.kind) e

-- sides, members, labels and branches have one kind, from left to right: each fits those before it
unfoldable pub alike_with : Kind → List Operand → List Fault
alike_with kind [] = []
alike_with kind (e ∷ more) = e.faults ++ unless (joins kind e.kind) e ++ alike_with (joined kind e.kind) more

abbrev pub alike : List Operand → List Fault
alike es = alike_with no_kind es

-- the kind of some members or branches
unfoldable pub kind_with : Kind → List Operand → Kind
kind_with kind [] = kind
kind_with kind (e ∷ more) = kind_with (joined kind e.kind) more

-- an order takes two numbers or two values of one set type
abbrev pub ordered : Operand → Operand → List Fault
ordered left right = alike (left ∷ right ∷ []) ++ unless (has_order left.kind) left ++ unless (has_order right.kind) right

-- ---- operands made of others

-- where the first of them begins
abbrev pub first_at : List Operand → ℕ
first_at [] = 0
first_at (e ∷ more) = e.at

-- a number with these faults in it
abbrev pub number_at : ℕ → List Fault → Operand
number_at at faults = record { kind = number; at = at; faults = faults }

-- logic or a sum: a number made of numbers
abbrev pub of_numbers : List Operand → Operand
of_numbers es = number_at (first_at es) (flat_map takes_number es)

-- a number made of operands of one kind: an equality, or a value that is looked for among members
abbrev pub of_alike : List Operand → Operand
of_alike es = number_at (first_at es) (alike es)

-- `cond ? left : right`
abbrev pub chosen : Operand → Operand → Operand → Operand
chosen cond left right = record { kind = joined left.kind right.kind; at = cond.at; faults = takes_number cond ++ alike (left ∷ right ∷ []) }

-- a listed set, where a set may stand
abbrev pub listed : ℕ → List Operand → Operand
listed at members = record { kind = kind_with no_kind members; at = at; faults = alike members }

-- fault 14 at a set that may not stand where it does
abbrev pub stray_set : ℕ → Operand
stray_set at = record { kind = no_kind; at = at; faults = faults_at (14, at ∷ []) }
