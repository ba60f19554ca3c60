-- How a document is read, line by line.
use Rattle.std.specs.Prelude.{ℕ, ◌+◌, ◌*◌, ◌-◌, ◌&&◌, nat_eq, nat_le, nat_lt, if◌then◌else◌, List, [], ◌∷◌, ◌++◌, codes, take, drop, Option, Some, None}
use Rattle.std.specs.Fmt.{decimal}
use Rattle.std.specs.Str.{bytes_eq}
use Rattle.smv_proof.specs.declared.proof.Node.{Node}
use Rattle.smv_proof.specs.declared.proof.KeptSet.{KeptSet}
use Rattle.smv_proof.specs.declared.proof.Proof.{Proof}
use Rattle.smv_proof.specs.Documents.{most, is_name, is_line}

-- these bytes in front of the first piece
abbrev pub led : ℕ → List (List ℕ) → List (List ℕ)
led b [] = (b ∷ []) ∷ []
led b (piece ∷ pieces) = (b ∷ piece) ∷ pieces

-- the pieces between the bytes that are `at`, one more than these are
abbrev pub pieces : ℕ → List ℕ → List (List ℕ)
pieces at [] = [] ∷ []
pieces at (b ∷ bytes) = if nat_eq b at then [] ∷ pieces at bytes else led b (pieces at bytes)

-- a numeral's value, behind what was read of it
abbrev pub value_from : ℕ → List ℕ → Option ℕ
value_from n [] = Some n
value_from n (b ∷ bytes) = if nat_le 48 b && nat_le b 57 then value_from (n * 10 + (b - 48)) bytes else None

-- without leading zeros, and at most the greatest number
abbrev pub in_range : List ℕ → Option ℕ → Option ℕ
in_range piece (Some n) = if nat_le n most && bytes_eq (decimal n) piece then Some n else None
in_range piece None = None

abbrev pub number_of : List ℕ → Option ℕ
number_of piece = in_range piece (value_from 0 piece)

-- a line that may stand behind these
abbrev pub node_with : List Node → Option ℕ → Option ℕ → Option ℕ → Option Node
node_with earlier (Some var) (Some low) (Some high) =
    let node : Node = record { var = var; low = low; high = high } in
    if is_line earlier node then Some node else None
node_with earlier _ _ _ = None

abbrev pub node_of : List Node → List (List ℕ) → Option Node
node_of earlier (var ∷ low ∷ high ∷ []) = node_with earlier (number_of var) (number_of low) (number_of high)
node_of earlier _ = None

-- a set whose lines are read, and how many of them are due
pub record Begun : Type 0 where
  pub set : KeptSet
  pub due : ℕ

abbrev pub begun_with : List ℕ → Option ℕ → Option ℕ → Option ℕ → Option Begun
begun_with unit (Some number) (Some root) (Some count) =
    if is_name unit && nat_lt root (count + 2) then Some (record { set = record { unit = unit; number = number; root = root; nodes = [] }; due = count }) else None
begun_with unit _ _ _ = None

abbrev pub begun_by : List (List ℕ) → Option Begun
begun_by (word ∷ unit ∷ number ∷ root ∷ count ∷ []) = if bytes_eq word (codes "set") then begun_with unit (number_of number) (number_of root) (number_of count) else None
begun_by _ = None

abbrev pub with_node : KeptSet → Node → KeptSet
with_node set node = record { unit = set.unit; number = set.number; root = set.root; nodes = set.nodes ++ node ∷ [] }

-- what is read of a set with one more line
abbrev pub grown : Begun → Option Node → Option Begun
grown begun (Some node) = Some (record { set = with_node begun.set node; due = begun.due - 1 })
grown begun None = None

-- the sets that are read, and the one whose lines are read
pub record Reading : Type 0 where
  pub sets : List KeptSet
  pub begun : Option Begun

-- a set of which no line is due is read
abbrev pub settled : List KeptSet → Option Begun → Option Reading
settled sets None = None
settled sets (Some begun) =
    if nat_eq begun.due 0 then Some (record { sets = sets ++ begun.set ∷ []; begun = None }) else Some (record { sets = sets; begun = Some begun })

abbrev pub with_line : List KeptSet → Option Begun → List (List ℕ) → Option Reading
with_line sets (Some begun) line = settled sets (grown begun (node_of begun.set.nodes line))
with_line sets None line = settled sets (begun_by line)

-- behind the last line feed nothing stands, and no line is due
abbrev pub at_end : List KeptSet → Option Begun → List ℕ → Option (List KeptSet)
at_end sets None [] = Some sets
at_end sets begun rest = None

abbrev pub followed : Option Reading → (Reading → Option (List KeptSet)) → Option (List KeptSet)
followed (Some reading) rest = rest reading
followed None rest = None

-- the sets that the pieces between line feeds spell
abbrev pub sets_from : Reading → List (List ℕ) → Option (List KeptSet)
sets_from reading [] = None
sets_from reading (rest ∷ []) = at_end reading.sets reading.begun rest
sets_from reading (line ∷ other ∷ more) = followed (with_line reading.sets reading.begun (pieces 32 line)) (λ next. sets_from next (other ∷ more))

abbrev pub sets_of : List ℕ → Option (List KeptSet)
sets_of bytes = sets_from (record { sets = []; begun = None }) (pieces 10 bytes)

-- this byte in front of what stands before a cut
abbrev pub with_front : ℕ → Option (List ℕ × List ℕ) → Option (List ℕ × List ℕ)
with_front b (Some (front, rest)) = Some (b ∷ front, rest)
with_front b None = None

-- what stands before the first byte that is `at`, and what stands behind it
abbrev pub cut : ℕ → List ℕ → Option (List ℕ × List ℕ)
cut at [] = None
cut at (b ∷ bytes) = if nat_eq b at then Some ([], bytes) else with_front b (cut at bytes)

-- behind the design stands a line feed, and then the sets
abbrev pub with_sets : List ℕ → Option (List KeptSet) → Option Proof
with_sets design (Some sets) = Some (record { design = design; sets = sets })
with_sets design None = None

abbrev pub behind : List ℕ → List ℕ → Option Proof
behind design [] = None
behind design (b ∷ bytes) = if nat_eq b 10 then with_sets design (sets_of bytes) else None

-- the design has so many bytes
abbrev pub with_length : Option ℕ → List ℕ → Option Proof
with_length (Some n) bytes = behind (take n bytes) (drop n bytes)
with_length None bytes = None

abbrev pub length_in : List (List ℕ) → Option ℕ
length_in (word ∷ number ∷ []) = if bytes_eq word (codes "design") then number_of number else None
length_in _ = None

abbrev pub behind_first : Option (List ℕ × List ℕ) → Option Proof
behind_first (Some (line, rest)) = with_length (length_in (pieces 32 line)) rest
behind_first None = None

abbrev pub behind_none : Option (List ℕ × List ℕ) → Option Proof
behind_none (Some (line, rest)) = if bytes_eq line (codes "smv proof 1") then behind_first (cut 10 rest) else None
behind_none None = None

-- the proof that bytes spell
unfoldable pub proof_of : List ℕ → Option Proof
proof_of bytes = behind_none (cut 10 bytes)
