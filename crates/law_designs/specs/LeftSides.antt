-- Whole left sides: each leads to a family that has an index type for each of its indexes.
use Rattle.std.specs.Prelude.{◌≡◌, ℕ, List, ◌++◌, length, slice_get, Some, All}
use Rattle.smv_core.specs.Values.{Path}
use Rattle.smv_core.specs.Types.{Family}
use Rattle.smv_core.specs.FlatOrder.{design_of}
use Rattle.smv_core.specs.Outcome.{fields_of}
use Rattle.smv_core.specs.Walk.{indexes_of}
use Rattle.smv_core.specs.declared.tree.Path.{out-Path}
use Rattle.smv_core.specs.declared.tree.Part.{Part}
use Rattle.smv_core.specs.declared.tree.Stmt.{Stmt, Assign, Block', If', Switch', Default', For', Forall', None', Some', Row_of-Stmt, end_of-Stmt, more_of-Stmt, Row_of-Arm, end_of-Arm, more_of-Arm}
use Rattle.smv_core.specs.declared.tree.Text.{Text}
use Rattle.law_designs.specs.Entries.{Entry, statement, entries}
use Rattle.smv_core.specs.Rows.{one_stmt, Otherwise}

-- the text has a family of this path, with so many index types
abbrev pub HasFamily : Text → Path → ℕ → Type 0
HasFamily text path count = (k : ℕ) × (f : Family) × (slice_get (design_of text).families k ≡ Some f) × (f.path ≡ path) × (length f.over ≡ count)

-- what stands in this instance leads to a family, with an index for each of its index types
abbrev pub LeadsToFamily : Text → Path → List Part → Type 0
LeadsToFamily text instance parts = HasFamily text (instance ++ fields_of parts) (length (indexes_of parts))

module _ (text : Text) (instance : Path) where
  abbrev mutual
    -- so does each left side in a statement of the instance
    pub StatementLeads : Stmt → Type 0
    StatementLeads (Assign kind left value at) = LeadsToFamily text instance (out-Path left).parts
    StatementLeads (Block' shape parts) = StatementsLead parts
    StatementLeads (If' cond l (one_stmt left) right at) = StatementLeads left × BranchLeads right
    StatementLeads (Switch' on shape arms other at) = ArmsLead arms × BranchLeads other
    StatementLeads (Default' l (one_stmt left) r (one_stmt right) at) = StatementLeads left × StatementLeads right
    StatementLeads (For' var from to closed step shape (one_stmt body) at) = StatementLeads body
    StatementLeads (Forall' var over shape (one_stmt body) at) = StatementLeads body

    pub StatementsLead : {m : _} → Row_of-Stmt m → Type 0
    StatementsLead end_of-Stmt = Unit {0}
    StatementsLead (more_of-Stmt part rest) = StatementLeads part × StatementsLead rest

    pub BranchLeads : Otherwise → Type 0
    BranchLeads None' = Unit {0}
    BranchLeads (Some' shape (one_stmt part)) = StatementLeads part

    pub ArmsLead : {m : _} → Row_of-Arm m → Type 0
    ArmsLead end_of-Arm = Unit {0}
    ArmsLead (more_of-Arm labels body rest) = StatementLeads body × ArmsLead rest

-- and each in what a text says
abbrev pub EntryLeads : Text → Entry → Type 0
EntryLeads text (statement x) = StatementLeads text x.instance x.act
EntryLeads text _ = Unit {0}

abbrev pub TextLeads : Text → Type 0
TextLeads text = All (EntryLeads text) (entries text)
