-- What is put in place of a claim's expression is the same, places aside, where the expressions are.
use Rattle.std.proofs.Common.{◌≡◌, List, [], ◌∷◌, map, Bool, true, false, if◌then◌else◌, refl, ap}
use Rattle.smv_core.specs.declared.tree.Word.{Word}
use Rattle.smv_core.specs.declared.tree.Text.{Text}
use Rattle.smv_core.specs.declared.tree.Top.{Top}
use Rattle.smv_core.specs.declared.tree.Top.TheVariants.{SetType, Alias, Module}
use Rattle.smv_core.specs.declared.tree.Expr.{Expr}
use Rattle.smv_core.specs.declared.tree.Item.{Item, Declare, Instance, Layer, Forall', Block', Claim, Split, Using, Act, Row_of-Item, end_of-Item, more_of-Item}
use Rattle.law_places.specs.Placeless.{placeless_word, placeless_type, placeless, placeless_item, placeless_items, placeless_top, placeless_text}
use Rattle.law_exchanged.specs.Changed.{changed_item, changed_items, put_in, changed_top, changed_text}

module _ (within test : Word → Bool) (y z : Expr) (same : placeless y ≡ placeless z) where
  mutual
    unfolding changed_item placeless_item

    put-item : (a : Item) → placeless_item (changed_item (put_in test y) a) ≡ placeless_item (changed_item (put_in test z) a)
    put-item (Declare role words of at) = refl
    put-item (Instance words m args at) = refl
    put-item (Layer word body at) = refl
    put-item (Forall' word over shape items at) = ap (λ l. Forall' (placeless_word word) (placeless_type over) shape l 0) (put-row items)
    put-item (Block' shape items) = ap (λ l. Block' shape l) (put-row items)
    put-item (Claim word vars body at) = ap (λ e. Claim (placeless_word word) (map placeless_word vars) e 0) (by_test (test word))
      where
        by_test : (t : Bool) → placeless (if t then y else body) ≡ placeless (if t then z else body)
        by_test true = same
        by_test false = refl
    put-item (Split word vars of pairs at) = refl
    put-item (Using uses proves at) = refl
    put-item (Act act) = refl

    put-row : {m : _} (row : Row_of-Item m) → placeless_items (changed_items (put_in test y) row) ≡ placeless_items (changed_items (put_in test z) row)
    put-row end_of-Item = refl
    put-row (more_of-Item a rest) = rw (put-item a, put-row rest) refl

  put-list : (items : List Item) → map placeless_item (map (changed_item (put_in test y)) items) ≡ map placeless_item (map (changed_item (put_in test z)) items)
  put-list [] = refl
  put-list (a ∷ items) = rw (put-item a, put-list items) refl

  put-top : (a : Top) → placeless_top (changed_top within (put_in test y) a) ≡ placeless_top (changed_top within (put_in test z) a)
  put-top (SetType word ordered span at) = refl
  put-top (Alias word of at) = refl
  put-top (Module word formals body at) = ap (λ l. Module (placeless_word word) (map placeless_word formals) l 0) (by_name (within word))
    where
      by_name : (t : Bool) → map placeless_item (if t then map (changed_item (put_in test y)) body else body) ≡ map placeless_item (if t then map (changed_item (put_in test z)) body else body)
      by_name true = put-list body
      by_name false = refl

  put-tops : (tops : List Top) → map placeless_top (map (changed_top within (put_in test y)) tops) ≡ map placeless_top (map (changed_top within (put_in test z)) tops)
  put-tops [] = refl
  put-tops (a ∷ tops) = rw (put-top a, put-tops tops) refl

  pub put-text : (x : Text) → placeless_text (changed_text within (put_in test y) x) ≡ placeless_text (changed_text within (put_in test z) x)
  put-text x = ap (λ l. record { tops = l }) (put-tops x.tops)
