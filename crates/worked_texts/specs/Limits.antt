-- Texts at a limit of the size and one past it, which are too long to be written out.
use Rattle.std.specs.Prelude.{ℕ, List, [], ◌∷◌, ◌≡◌, map, true, false, codes}
use Rattle.smv_core.specs.Values.{numbers_from}
use Rattle.smv_core.specs.declared.tree.Word.{Word}
use Rattle.smv_core.specs.declared.tree.Text.{Text}
use Rattle.smv_core.specs.declared.tree.Top.TheVariants.{Module}
use Rattle.smv_core.specs.declared.tree.TypeExpr.{Boolean}
use Rattle.smv_core.specs.declared.tree.Role.TheVariants.{Plain}
use Rattle.smv_core.specs.declared.tree.Item.{Declare, Instance}
use Rattle.smv_mentions.specs.Sizes.{is_too_large}

abbrev word : List ℕ → Word
word name = record { name = name; at = 0 }

-- a module `main` with so many booleans, and two instances of a module with one boolean
abbrev pub with_booleans : ℕ → Text
with_booleans n =
    record {
      tops = Module (word (codes "main")) [] (Declare Plain (map (λ k. word (k ∷ [])) (numbers_from 0 n)) Boolean 0 ∷ Instance (word (codes "a") ∷ word (codes "b") ∷ []) (word (codes "m")) [] 0 ∷ []) 0 ∷
          Module (word (codes "m")) [] (Declare Plain (word (codes "x") ∷ []) Boolean 0 ∷ []) 0 ∷ [];
    }

-- 4,092 booleans, two instances and a boolean in each are 4,096 families and instances
abbrev pub Fits4096 : Type 0
Fits4096 = is_too_large (with_booleans 4092) ≡ false

-- one more is too many
abbrev pub Past4096 : Type 0
Past4096 = is_too_large (with_booleans 4093) ≡ true
