-- What the code holds of a design, its units and a leaf.
use Rattle.std.specs.Prelude.{◌≡◌, ℕ, ◌<◌, List, map, length, slice_get, slice_index_or}
use Rattle.smv_core.specs.declared.flat.Pick.{Pick}
use Rattle.law_obligations.specs.Outlines.{Outline, Entry, chosen}
use Rattle.smv_unit_tables.specs.Reads.{lists, def_reads, claim_reads}
use Rattle.smv_unit_tables.specs.Bases.{AreBases}
use Rattle.smv_unit_tables.specs.Units.{AreNoted}
use Rattle.smv_use_times.specs.declared.tables.Tables.{Tables}
use Rattle.smv_use_times.specs.declared.tables.Proof.{Proof}

-- the design and its units
abbrev pub outline : Tables → Outline
outline tables = record { design = tables.design.now; units = tables.units.now }

-- a unit, its leaf and its choice
abbrev pub entry_of : Proof → Entry
entry_of proof = record { unit = proof.unit; leaf = proof.leaf.now; choice = proof.choice.now }

-- the tables of a design
pub record AreTables (tables : Tables) : Type 0 where
  pub bases : AreBases tables.design.now tables.bases.items
  pub defs : lists tables.defs.items ≡ map (def_reads tables.design.now.families) tables.design.now.defs
  pub claims : lists tables.claims.items ≡ map (claim_reads tables.design.now.families) tables.design.now.claims
  pub places : AreNoted tables.design.now tables.units.now tables.places

-- a number for each of so many families, which is that of the definition that picks choose for it
pub record AreChosen (o : Outline) (picks : List Pick) (nodes : ℕ) (next : List ℕ) : Type 0 where
  pub room : length next ≡ nodes
  pub each : (family : ℕ) → family < nodes → slice_get o.design.defs (slice_index_or next family (length o.design.defs)) ≡ chosen o picks family
