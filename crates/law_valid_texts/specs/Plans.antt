-- When a text spells a tree, and when a plan is that of a tree.
use Rattle.std.specs.Prelude.{◌≡◌, ◌≤◌, ℕ, List, length, Ok}
use Rattle.smv_core.specs.Notation.{Tokens}
use Rattle.smv_core.specs.Spelling.{Spells}
use Rattle.smv_core.specs.declared.tree.Text.{Text}
use Rattle.smv_lex.specs.Lexing.{lexed}
use Rattle.law_obligations.specs.Units.{units_of, script_of}
use Rattle.law_obligations.specs.Times.{all_timed}
use Rattle.law_splits.specs.Leaves.{leaves_of}
use Rattle.smv_problem.specs.declared.report.Plan.{Plan}
use Rattle.law_valid_texts.specs.Joined.{flat_design}

-- the most bytes that a text has: 2^20
abbrev pub limit : ℕ
limit = 1048576

-- how many levels may be open at one token
abbrev pub levels : ℕ
levels = 64

-- the bytes are tokens, and these spell the tree
abbrev pub SpellsTree : List ℕ → Text → Type 0
SpellsTree text tree = (tokens : Tokens) × (lexed text ≡ Ok tokens) × Spells levels tokens tree

-- a text within the limit spells the tree
pub record IsTree (text : List ℕ) (tree : Text) : Type 0 where
  pub within : length text ≤ limit
  pub spelled : SpellsTree text tree

-- The plan of a tree: its design, its units, their leaves, some choice for each and the times of its uses. (Which choices `using` states, `IsPlan` of `smv_front` says.)
pub record IsPlanOf (tree : Text) (plan : Plan) : Type 0 where
  pub design : plan.design ≡ flat_design tree
  pub units : plan.units ≡ units_of plan.design
  pub leaves : plan.leaves ≡ leaves_of plan.design
  pub choices : length plan.choices ≡ length plan.units
  pub timed : plan.timed ≡ all_timed (script_of plan.design plan.leaves plan.choices)
