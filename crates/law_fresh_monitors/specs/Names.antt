-- Texts in which none of some names stands: as a signal, a field, a formal, a parameter or a layer, or at the end of a path that is read or assigned.
use Rattle.std.specs.Prelude.{◌≡◌, ℕ, List, false}
use Rattle.std.specs.Str.{bytes_eq}
use Rattle.std.specs.List.{AllByRecursion, list_any}
use Rattle.smv_core.specs.Values.{Name}
use Rattle.smv_core.specs.Outcome.{fields_of}
use Rattle.smv_core.specs.Rows.{one_stmt, one_type, Otherwise}
use Rattle.smv_core.specs.declared.tree.Word.{Word}
use Rattle.smv_core.specs.declared.tree.Path.{out-Path}
use Rattle.smv_core.specs.declared.tree.TypeExpr.{TypeExpr, Array', Struct', Row_of-Field, end_of-Field, more_of-Field}
use Rattle.smv_core.specs.declared.tree.Stmt as stmt
use Rattle.smv_core.specs.declared.tree.Stmt.{Stmt, Assign, Block', If', Switch', Default', For', Forall', Row_of-Stmt, end_of-Stmt, more_of-Stmt, Row_of-Arm, end_of-Arm, more_of-Arm}
use Rattle.smv_core.specs.declared.tree.Item as item
use Rattle.smv_core.specs.declared.tree.Item.{Item, Declare, Instance, Layer, Claim, Act, Row_of-Item, end_of-Item, more_of-Item}
use Rattle.smv_core.specs.declared.tree.Top.{Top}
use Rattle.smv_core.specs.declared.tree.Top.TheVariants.{Alias, Module}
use Rattle.law_formulas.specs.Formulas.{Formula, FormulaText, of_body, or_body}
use Rattle.law_watched_runs.specs.Paths.{EachRead, EachReadIn}
use Rattle.law_watched_runs.specs.Extended.{IsOld, EachReadOver}

-- the names that may not stand in the text
module _ (fresh : List Name) where
  -- a name is none of them
  abbrev pub IsOldName : Name → Type 0
  IsOldName name = list_any (bytes_eq name) fresh ≡ false

  abbrev pub AreOldWords : List Word → Type 0
  AreOldWords words = AllByRecursion (λ (word : Word). IsOldName word.name) words

  abbrev mutual
    -- nor is a field of a type
    pub IsOldType : TypeExpr → Type 0
    IsOldType (Array' i (one_type index) o (one_type of)) = IsOldType of
    IsOldType (Struct' shape fields) = AreOldFields fields
    IsOldType _ = Unit {0}

    pub AreOldFields : {m : _} → Row_of-Field m → Type 0
    AreOldFields end_of-Field = Unit {0}
    AreOldFields (more_of-Field names of at rest) = AreOldWords names × IsOldType of × AreOldFields rest

  abbrev mutual
    -- nor does a path that a statement assigns end in one
    pub IsOldLeft : Stmt → Type 0
    IsOldLeft (Assign kind left value at) = IsOld fresh (fields_of (out-Path left).parts)
    IsOldLeft (Block' shape parts) = AreOldLefts parts
    IsOldLeft (If' cond l (one_stmt left) right at) = IsOldLeft left × IsOldBranch right
    IsOldLeft (Switch' on shape arms other at) = AreOldArms arms × IsOldBranch other
    IsOldLeft (Default' l (one_stmt left) r (one_stmt right) at) = IsOldLeft left × IsOldLeft right
    IsOldLeft (For' var from to closed step shape (one_stmt body) at) = IsOldLeft body
    IsOldLeft (Forall' var over shape (one_stmt body) at) = IsOldLeft body

    pub AreOldLefts : {m : _} → Row_of-Stmt m → Type 0
    AreOldLefts end_of-Stmt = Unit {0}
    AreOldLefts (more_of-Stmt part rest) = IsOldLeft part × AreOldLefts rest

    pub IsOldBranch : Otherwise → Type 0
    IsOldBranch stmt.None' = Unit {0}
    IsOldBranch (stmt.Some' shape (one_stmt part)) = IsOldLeft part

    pub AreOldArms : {m : _} → Row_of-Arm m → Type 0
    AreOldArms end_of-Arm = Unit {0}
    AreOldArms (more_of-Arm labels body rest) = IsOldLeft body × AreOldArms rest

  -- nor one that it reads
  abbrev pub IsOldAct : Stmt → Type 0
  IsOldAct act = EachReadIn (IsOld fresh) act × IsOldLeft act

  -- the list has the formulas of the claims
  module _ (formulas : List (ℕ × Formula)) where
    abbrev mutual
      -- the same of all that stands in an item, where a claim has its formula
      pub IsOldItem : Item → Type 0
      IsOldItem (Declare role words of at) = AreOldWords words × IsOldType of
      IsOldItem (Instance words name args at) = AllByRecursion (EachRead (IsOld fresh)) args
      IsOldItem (Layer name body at) = IsOldName name.name × AllByRecursion IsOldAct body
      IsOldItem (item.Forall' var over shape (more_of-Item body end_of-Item) at) = IsOldName var.name × IsOldItem body
      IsOldItem (item.Block' shape items) = AreOldItems items
      IsOldItem (Claim name vars body at) = EachReadOver (IsOld fresh) (or_body body (of_body formulas body))
      IsOldItem (Act act) = IsOldAct act
      IsOldItem _ = Unit {0}

      pub AreOldItems : {m : _} → Row_of-Item m → Type 0
      AreOldItems end_of-Item = Unit {0}
      AreOldItems (more_of-Item part rest) = IsOldItem part × AreOldItems rest

    abbrev pub IsOldTop : Top → Type 0
    IsOldTop (Alias word of at) = IsOldType of
    IsOldTop (Module word formals body at) = AreOldWords formals × AllByRecursion IsOldItem body
    IsOldTop _ = Unit {0}

  -- none of the names stands in the text
  abbrev pub IsOldText : FormulaText → Type 0
  IsOldText ft = AllByRecursion (IsOldTop ft.formulas) ft.text.tops
