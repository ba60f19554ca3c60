-- Where a line may stand.
use Rattle.std.specs.Prelude.{◌≡◌, List, if◌then◌else◌, Option, Some, None}
use Rattle.std.specs.List.{list_any}
use Rattle.std.specs.HashSet.{HashSet, contains}
use Rattle.smv_proof.specs.declared.proof.Node.{Node}
use Rattle.smv_proof.specs.Documents.{same_node, is_line}

-- a line, if there is one and the rules allow it behind these
abbrev pub if_stands : List Node → Option Node → Option Node
if_stands earlier (Some node) = if is_line earlier node then Some node else None
if_stands earlier None = None

-- the set has exactly these lines
abbrev pub HasLines : {S : Type 0} → HashSet Node S → List Node → Type 0
HasLines seen nodes = (node : Node) → contains same_node seen node ≡ list_any (same_node node) nodes
