-- What the program holds of a design's assignments, as the definitions have it.
use Rattle.std.specs.Prelude.{ℕ, List, [], map}
use Rattle.smv_core.specs.Assignments.{Index}
use Rattle.smv_core.specs.FlatMeaning.{flat_index}
use Rattle.smv_core.specs.declared.flat.FlatSigned.{FlatSigned, out-FlatSigned}
use Rattle.smv_core.specs.declared.flat.FlatExpr.{FlatExpr}
use Rattle.smv_core.specs.declared.flat.FlatMember.{FlatMember, One, Span as SpanOf}
use Rattle.smv_core.specs.declared.flat.DefBody.{DefBody}
use Rattle.law_designs.specs.Reading.{Reference, Reading, references, readings}
use Rattle.smv_loops.specs.declared.reading.Read.{Read}
use Rattle.smv_loops.specs.declared.reading.Held.{Held}

-- the definitions as words that stay closed until a law opens them
unfoldable pub index_in : FlatExpr → Index
index_in e = flat_index e

unfoldable pub read_in : FlatExpr → List Reference
read_in e = references e

unfoldable pub assigned_in : ℕ → List Reference → DefBody → List Reading
assigned_in family around part = readings family around part

abbrev pub read_in_term : FlatSigned → List Reference
read_in_term term = read_in (out-FlatSigned term).of

abbrev pub read_in_member : FlatMember → List Reference
read_in_member (One e) = read_in e
read_in_member (SpanOf span at) = []

abbrev pub reference_of : Read → Reference
reference_of r = record { family = r.family; indexes = map index_in r.indexes.now; at = r.at }

abbrev pub reading_of : Held → Reading
reading_of a = record { family = a.family; left = map index_in a.left.now; reads = map reference_of a.reads.items; place = a.place; at = a.at }
