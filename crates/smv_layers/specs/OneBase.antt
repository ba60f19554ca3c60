-- When a definition is the base definition of its family in both ways of saying it.
use Rattle.std.specs.Prelude.{◌≡◌, ℕ, slice_get, is_none, Some, false, true, ◌&&◌}
use Rattle.std.specs.List.{AllByRecursion}
use Rattle.smv_core.specs.declared.flat.Def.{Def}
use Rattle.smv_core.specs.declared.flat.Design.{Design}
use Rattle.law_designs.specs.Loops.{is_base}
use Rattle.law_obligations.specs.Outlines.{base_of}
use Rattle.smv_layers.specs.Leaks.{is_abstract}

-- no definition outside layers is of an abstract signal
abbrev pub AreInLayers : Design → Type 0
AreInLayers d = AllByRecursion (λ (def : Def). (is_abstract (slice_get d.families def.family) && is_none def.layer) ≡ false) d.defs

-- two definitions of one family at one place are one
abbrev pub AreApart : Design → Type 0
AreApart d = (i j : ℕ) (a b : Def) → slice_get d.defs i ≡ Some a → slice_get d.defs j ≡ Some b → a.family ≡ b.family → a.place ≡ b.place → a ≡ b

-- a definition of the design is marked as base definition exactly where it is found as the one of its family
abbrev pub BasesAgree : Design → Type 0
BasesAgree d = (i : ℕ) (def : Def) → slice_get d.defs i ≡ Some def → (is_base d def ≡ true → base_of d def.family ≡ Some def) × (base_of d def.family ≡ Some def → is_base d def ≡ true)
