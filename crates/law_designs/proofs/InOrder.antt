-- The definitions of a design stand in the order of their places.
use Rattle.std.proofs.Common.{◌≡◌, ℕ, zero, suc, ◌+◌, ◌<◌, ◌≤◌, List, [], ◌∷◌, ◌++◌, map, filter, zip, Bool, true, false, not, ◌&&◌, cond, nat_lt, refl, arith}
use Rattle.std.specs.List.{flat_map, list_all}
use Rattle.smv_core.specs.Values.{numbers_from}
use Rattle.smv_core.specs.declared.flat.Def.{Def}
use Rattle.smv_core.specs.declared.flat.FlatText.{FlatText}
use Rattle.smv_core.specs.declared.flat.FlatItem.{FlatItem}
use Rattle.smv_core.specs.declared.flat.FlatItem.TheVariants as item
use Rattle.law_designs.specs.Flattening.{different}
use Rattle.law_designs.specs.Standing.{count, statements_from, statements_of, Standing, assigned_by}
use Rattle.law_designs.specs.Definitions.{Head, head, heads_of, same_definition, first_heads, def_of, design_of_flat_text}
use Rattle.law_designs.specs.Laws.{AreInOrder}

-- the places go up, the first from a number on
abbrev Ascending : ℕ → List Head → Type 0
Ascending k [] = Unit {0}
Ascending k (h ∷ hs) = (k ≤ h.place) × Ascending (suc h.place) hs

from_less : (j k : ℕ) (hs : List Head) → j ≤ k → Ascending k hs → Ascending j hs
from_less j k [] le a = tt
from_less j k (h ∷ hs) le a = (omega (arith, le, a.0), a.1)

numbered-up : (as' : List Standing) (k n : ℕ) (rest : List Head) → Ascending (k + n) rest → Ascending k (map (λ (a, p). head a p) (zip as' (numbers_from k n)) ++ rest)
numbered-up [] k n rest a = from_less k (k + n) rest (omega arith) a
numbered-up (x ∷ as') k zero rest a = from_less k (k + zero) rest (omega arith) a
numbered-up (x ∷ as') k (suc n) rest a = (omega arith, from_less (suc k) (k + 1) _ (omega arith) (numbered-up as' (k + 1) n rest (from_less (k + 1 + n) (k + suc n) rest (omega arith) a)))

statements-up : (k : ℕ) (items : List FlatItem) → Ascending k (flat_map heads_of (statements_from k items))
statements-up k [] = tt
statements-up k (item.Act layer act ∷ items) = numbered-up (assigned_by (record { layer = layer; place = k; act = act })) k (count act) (flat_map heads_of (statements_from (k + count act) items)) (statements-up (k + count act) items)
statements-up k (item.Claim c ∷ items) = from_less k (k + 1) (flat_map heads_of (statements_from (k + 1) items)) (omega arith) (statements-up (k + 1) items)
statements-up k (item.Split c ∷ items) = statements-up k items
statements-up k (item.Using c ∷ items) = statements-up k items

filter-up : (p : Head → Bool) (k : ℕ) (hs : List Head) → Ascending k hs → Ascending k (filter p hs)
filter-up p k [] a = tt
filter-up p k (h ∷ hs) a = by_test (p h) (filter-up p (suc h.place) hs a.1)
  where
    by_test : (b : Bool) → Ascending (suc h.place) (filter p hs) → Ascending k (cond b (h ∷ filter p hs) (filter p hs))
    by_test true rest = (a.0, rest)
    by_test false rest = from_less k (suc h.place) (filter p hs) (omega (arith, a.0)) rest

different-up : (k : ℕ) (hs : List Head) → Ascending k hs → Ascending k (different same_definition hs)
different-up k [] a = tt
different-up k (h ∷ hs) a = (a.0, filter-up (λ g. not (same_definition h g)) (suc h.place) (different same_definition hs) (different-up (suc h.place) hs a.1))

below : (j k p : ℕ) → j < k → k ≤ p → nat_lt j p ≡ true
below j k p lt le = grind arith

module _ (flat_text : FlatText) where
  all-above : (j k : ℕ) (hs : List Head) → j < k → Ascending k hs → list_all (λ (other : Def). nat_lt j other.place) (map (def_of flat_text) hs) ≡ true
  all-above j k [] lt a = refl
  all-above j k (h ∷ hs) lt a = both (nat_lt j h.place) _ (below j k h.place lt a.0) (all-above j (suc h.place) hs (omega (arith, lt, a.0)) a.1)
    where
      both : (b c : Bool) → b ≡ true → c ≡ true → (b && c) ≡ true
      both b c e f = rw (e, f) refl

  defs-up : (k : ℕ) (hs : List Head) → Ascending k hs → AreInOrder (map (def_of flat_text) hs)
  defs-up k [] a = tt
  defs-up k (h ∷ hs) a = (all-above h.place (suc h.place) hs (omega arith) a.1, defs-up (suc h.place) hs a.1)

  pub in_order : AreInOrder (design_of_flat_text flat_text).defs
  in_order = defs-up 0 (first_heads flat_text) (different-up 0 (flat_map heads_of (statements_of flat_text)) (statements-up 0 flat_text.items))
