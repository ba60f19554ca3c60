-- What is read with a bound on chains of instances, and when the number of modules is bound enough.
use Rattle.std.specs.Prelude.{◌≡◌, ℕ, ◌≤◌, List, length}
use Rattle.smv_core.specs.Values.{Name, Path}
use Rattle.smv_core.specs.FlatOrder.{Body, modules}
use Rattle.smv_core.specs.declared.tree.Text.{Text}

-- what an instance of a module says, by the modules of a text and a bound on chains of instances
abbrev pub Read : Type 0 → Type 0
Read X = List (Name × Body) → ℕ → Path → Name → List X

-- with a greater bound than the number of modules the same is read, in each instance of each module
abbrev pub IsDeepEnough : {X : Type 0} → Read X → Text → Type 0
IsDeepEnough read text = (n : ℕ) → length (modules text.tops) ≤ n → (here : Path) (name : Name) → read (modules text.tops) n here name ≡ read (modules text.tops) (length (modules text.tops)) here name
