-- A claim that may assume itself, at the same time, for all smaller values of a parameter over an ordset.
use Rattle.std.specs.Prelude.{Bool, ◌≡◌, List, [], ◌∷◌, ◌++◌, Some, true, false, if◌then◌else◌, ◌⊎◌}
use Rattle.std.specs.Str.{bytes_eq}
use Rattle.smv_core.specs.Values.{Name, ordset}
use Rattle.smv_core.specs.Types.{Types, simple}
use Rattle.smv_core.specs.FlatOrder.{Claimed, main}
use Rattle.smv_core.specs.declared.tree.Word.{Word}
use Rattle.smv_core.specs.declared.tree.Text.{Text}
use Rattle.smv_core.specs.declared.tree.Top.{Top}
use Rattle.smv_core.specs.declared.tree.Top.TheVariants.{Module}
use Rattle.smv_core.specs.declared.tree.Path.{roll-Path}
use Rattle.smv_core.specs.declared.tree.Part.{Field}
use Rattle.smv_core.specs.declared.tree.Op.TheVariants.{Less}
use Rattle.smv_core.specs.declared.tree.TypeExpr.{TypeExpr}
use Rattle.smv_core.specs.declared.tree.TypeExpr.TheVariants as type
use Rattle.smv_core.specs.declared.tree.Expr.{Expr}
use Rattle.smv_core.specs.declared.tree.Expr.TheVariants as expr
use Rattle.smv_core.specs.declared.tree.Item.{Item, Forall', Block', Claim, Row_of-Item, end_of-Item, more_of-Item}
use Rattle.law_exchanged.specs.Changed.{changed_item, changed_text}
use Rattle.law_induction.specs.Renamed.{renamed, IsRenamable}

-- a name that stands nowhere in the text
abbrev pub word_of : Name → Word
word_of name = record { name = name; at = 0 }

-- a variable alone
abbrev pub variable : Name → Expr
variable name = expr.Signal (roll-Path (record { parts = Field (word_of name) ∷ []; at = 0 }))

-- the module is `main`
abbrev pub is_main : Word → Bool
is_main word = bytes_eq word.name main

-- the claim has this name
abbrev pub is_named : Name → Word → Bool
is_named name word = bytes_eq word.name name

-- no parameter has this name
abbrev pub IsNoneOf : Name → List (Name × TypeExpr) → Type 0
IsNoneOf name [] = Unit {0}
IsNoneOf name ((other, over) ∷ params) = (bytes_eq other name ≡ false) × IsNoneOf name params

module _ (var fresh set : Name) where
  -- `&[ v < VAR -> E2 : v in T ]`
  abbrev pub for_smaller : Expr → Expr
  for_smaller e = expr.All (expr.Implies (expr.Compare Less (variable fresh) (variable var) ∷ renamed var fresh e ∷ [])) (word_of fresh) (type.Named (word_of set) 0) 0

  -- and then the claim itself
  abbrev pub stronger : Expr → Expr
  stronger e = expr.Implies (for_smaller e ∷ e ∷ [])

  -- A claim inside these binders can be proved by induction: the innermost variable of this name is over the ordset, and the new name is no name of the claim.
  pub record IsInductive (types : Types) (params : List (Name × TypeExpr)) (body : Expr) : Type 0 where
    pub outer : List (Name × TypeExpr)
    pub over : TypeExpr
    pub inner : List (Name × TypeExpr)
    pub split : params ≡ outer ++ (var, over) ∷ inner
    pub of_set : simple types over ≡ Some (ordset set)
    pub named : simple types (type.Named (word_of set) 0) ≡ Some (ordset set)
    pub innermost : IsNoneOf var inner
    pub apart : bytes_eq fresh var ≡ false
    pub renamable : IsRenamable var fresh body

  -- the claim with its body strengthened
  abbrev pub stronger_claim : Claimed → Claimed
  stronger_claim c = record { instance = c.instance; name = c.name; params = c.params; body = stronger c.body }

  -- the same claim, or one that can be proved by induction and its strengthened form
  abbrev pub IsStronger : Types → Claimed → Claimed → Type 0
  IsStronger types c other = (c ≡ other) ⊎ (IsInductive types c.params c.body × (other ≡ stronger_claim c))

  -- ---- trees

  module _ (name : Name) where
    -- a claim's expression, strengthened where the claim has the name
    abbrev pub strengthened : Word → Expr → Expr
    strengthened word body = if is_named name word then stronger body else body

    -- an item in which the claims of the name are strengthened
    abbrev pub stronger_item : Item → Item
    stronger_item = changed_item strengthened

    -- the tree with the claims of this name in the module `main` strengthened
    abbrev pub stronger_text : Text → Text
    stronger_text = changed_text is_main strengthened

    module _ (types : Types) where
      abbrev mutual
        -- the claims of this name in an item inside these binders can be proved by induction
        pub IsInductiveItem : List (Name × TypeExpr) → Item → Type 0
        IsInductiveItem around (Forall' word over shape items at) = AreInductiveItems (around ++ (word.name, over) ∷ []) items
        IsInductiveItem around (Block' shape items) = AreInductiveItems around items
        IsInductiveItem around (Claim word vars body at) = bytes_eq word.name name ≡ true → IsInductive types around body
        IsInductiveItem around _ = Unit {0}

        pub AreInductiveItems : {m : _} → List (Name × TypeExpr) → Row_of-Item m → Type 0
        AreInductiveItems around end_of-Item = Unit {0}
        AreInductiveItems around (more_of-Item item rest) = IsInductiveItem around item × AreInductiveItems around rest

      -- those in a module's items
      abbrev pub IsInductiveBody : List Item → Type 0
      IsInductiveBody [] = Unit {0}
      IsInductiveBody (item ∷ items) = IsInductiveItem [] item × IsInductiveBody items

      -- those of each module `main` can
      abbrev pub AreInductiveTops : List Top → Type 0
      AreInductiveTops [] = Unit {0}
      AreInductiveTops (Module word formals body at ∷ tops) = (bytes_eq word.name main ≡ true → IsInductiveBody body) × AreInductiveTops tops
      AreInductiveTops (_ ∷ tops) = AreInductiveTops tops
