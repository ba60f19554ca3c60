-- What a line of a list says: which function it makes, what it writes, and when it names only what is there.
use Rattle.std.specs.Prelude.{ℕ, ◌<◌, false, ◌&&◌, ◌||◌, ◌==◌, not, List, [], ◌∷◌, ◌++◌, length, Option, Some, None, if◌then◌else◌}
use Rattle.std.specs.Fmt.{decimal}
use Rattle.bdd_store.specs.Beads.{bead_count}
use Rattle.bdd_store.specs.Diagram.{Diagram, DependsFrom, ref_at, table, tables_of}
use Rattle.bdd_store.specs.declared.Ref.{Ref}
use Rattle.bdd_ops.specs.Functions.{Function, lowered, some_at}
use Rattle.bdd_client.specs.declared.lines.Line.{Line}
use Rattle.bdd_client.specs.declared.lines.Line.TheVariants as line

-- the line of a code and two operands
abbrev pub line_for : ℕ → ℕ → ℕ → Option Line
line_for code first second =
    if code == 0 then Some (line.Variable first) else
    if code == 1 then Some (line.Constant (not (first == 0))) else
    if code == 2 then Some (line.And first second) else
    if code == 3 then Some (line.Or first second) else
    if code == 4 then Some (line.Not first) else
    if code == 5 then Some (line.Exists first second) else
    if code == 6 then Some (line.Rename first) else
    if code == 7 then Some (line.Drop first) else
    if code == 8 then Some (line.Count first) else None

-- the function that a line makes of those made so far; a line that makes none stands for 0
abbrev pub value_of : Diagram → List Ref → Line → Function
value_of d made (line.Variable var) a = a var
value_of d made (line.Constant value) a = value
value_of d made (line.And f g) a = table d (ref_at made f) a && table d (ref_at made g) a
value_of d made (line.Or f g) a = table d (ref_at made f) a || table d (ref_at made g) a
value_of d made (line.Not f) a = not (table d (ref_at made f) a)
value_of d made (line.Exists f var) a = some_at var (table d (ref_at made f)) a
value_of d made (line.Rename f) a = lowered (table d (ref_at made f)) a
value_of d made (line.Drop f) a = false
value_of d made (line.Count f) a = false

-- how many nodes a function has, in decimal, and a line feed
abbrev pub nodes_line : Diagram → Ref → List ℕ
nodes_line d f = decimal (bead_count d.vars (tables_of d (f ∷ []))) ++ (10 ∷ [])

-- what a line writes: of a count the nodes of its function, and a line feed
abbrev pub written : Diagram → List Ref → Line → List ℕ
written d made (line.Count f) = nodes_line d (ref_at made f)
written d made _ = []

-- each function and variable that a line names is there, and what it renames does not depend on variable 0
abbrev pub Fits : Diagram → List Ref → Line → Type 0
Fits d made (line.Variable var) = var < d.vars
Fits d made (line.Constant value) = Unit {0}
Fits d made (line.And f g) = (f < length made) × (g < length made)
Fits d made (line.Or f g) = (f < length made) × (g < length made)
Fits d made (line.Not f) = f < length made
Fits d made (line.Exists f var) = (f < length made) × (var < d.vars)
Fits d made (line.Rename f) = (f < length made) × DependsFrom d (ref_at made f) 1
Fits d made (line.Drop f) = f < length made
Fits d made (line.Count f) = f < length made
