-- Translated trees, and the changed claims in them, where they are made of parts.
use Rattle.std.proofs.Common.{◌≡◌, ℕ, List, [], ◌∷◌, ◌++◌, map, flat_map, take, drop, Option, Some, None, Bool, true, false, if◌then◌else◌, nat_eq, refl, sym, ap, ◌∙◌}
use Rattle.std.proofs.lemmas.List.{map-append}
use Rattle.std.specs.List.{AllByRecursion}
use Rattle.law_lists.proofs.Options.{some_is}
use Rattle.smv_core.specs.Values.{Name}
use Rattle.smv_core.specs.declared.tree.Word.{Word}
use Rattle.smv_core.specs.declared.tree.Expr.{Expr}
use Rattle.smv_core.specs.declared.tree.Expr as expr
use Rattle.smv_core.specs.declared.tree.TypeExpr.{TypeExpr}
use Rattle.smv_core.specs.declared.tree.Stmt.{Stmt}
use Rattle.smv_core.specs.declared.tree.Item.{Item, Declare, Instance, Layer, Forall', Block', Claim, Split, Using, Act, Row_of-Item, end_of-Item, more_of-Item, items-the_row-Item, items_hidden-the_row-Item-1}
use Rattle.smv_core.specs.declared.tree.Item.TheVariants as item
use Rattle.law_texts_spelled_alike.proofs.PlacelessStatements.{computing, items_in}
use Rattle.law_formulas.specs.Formulas.{Formula, at_place, of_body}
use Rattle.law_formulas.specs.Steps.{places_of}
use Rattle.law_formulas.specs.Monitors.{Watched, Around, watched, or_claim, or_none, translated_item, translated_items, watched_in, watched_among}
use Rattle.law_fresh_monitors.proofs.FreeNames.{each-taken}
use Rattle.law_fresh_monitors.proofs.Plans.{each-dropped}
use Rattle.law_translated_texts.specs.Translation.{Changed, if_changed, changed_in, changed_among}

-- ---- the plan of some formulas

-- what the plan has for a formula
pub record IsPlanned (P : Name → Type 0) (plan : List (ℕ × Watched)) (at : ℕ) (f : Formula) : Type 0 where
  pub entry : Watched
  pub there : at_place plan at ≡ Some entry
  pub formula : entry.formula ≡ f
  pub monitors : AllByRecursion P entry.monitors

pub planned : (P : Name → Type 0) (G : List (ℕ × Formula)) (names : List Name) → AllByRecursion P names → (at : ℕ) (f : Formula) → at_place G at ≡ Some f → IsPlanned P (watched G names) at f
planned P [] names h at f e = absurd (cc (e))
planned P ((place, x) ∷ G) names h at f e = by_test (nat_eq place at) refl e (planned P G (drop (places_of x) names) (each-dropped P (places_of x) names h) at f)
  where
    rest : List (ℕ × Watched)
    rest = watched G (drop (places_of x) names)

    own : Watched
    own = record { formula = x; monitors = take (places_of x) names }

    by_test : (b : Bool) → nat_eq place at ≡ b → (if b then Some x else at_place G at) ≡ Some f → (at_place G at ≡ Some f → IsPlanned P rest at f) → IsPlanned P ((place, own) ∷ rest) at f
    by_test true q e again = record { entry = own; there = ap (λ (b : Bool). if b then Some own else at_place rest at) q; formula = some_is e; monitors = each-taken P (places_of x) names h }
    by_test false q e again =
        let u = again e in
        record { entry = u.entry; there = ap (λ (b : Bool). if b then Some own else at_place rest at) q ∙ u.there; formula = u.formula; monitors = u.monitors }

not-planned : (G : List (ℕ × Formula)) (names : List Name) (at : ℕ) → at_place G at ≡ None → at_place (watched G names) at ≡ None
not-planned [] names at e = refl
not-planned ((place, x) ∷ G) names at e = by_test (nat_eq place at) refl e (not-planned G (drop (places_of x) names) at)
  where
    own : Watched
    own = record { formula = x; monitors = take (places_of x) names }

    by_test : (b : Bool) → nat_eq place at ≡ b → (if b then Some x else at_place G at) ≡ None → (at_place G at ≡ None → at_place (watched G (drop (places_of x) names)) at ≡ None) → at_place ((place, own) ∷ watched G (drop (places_of x) names)) at ≡ None
    by_test true q e rest = absurd (cc (e))
    by_test false q e rest = ap (λ (b : Bool). if b then Some own else at_place (watched G (drop (places_of x) names)) at) q ∙ rest e

pub no-plan : (G : List (ℕ × Formula)) (names : List Name) (e : Expr) → of_body G e ≡ None → of_body (watched G names) e ≡ None
no-plan G names (expr.Number value at) h = not-planned G names at h
no-plan G names e h = refl

-- ---- items

module _ (plan : List (ℕ × Watched)) where
  pub translated-Forall : (around : Around) (x : Word) (over : TypeExpr) (body : Item) (at : ℕ) → translated_item plan around (item.Forall x over body at) ≡ item.Forall x over (translated_item plan (around ++ (x, over) ∷ []) body) at
  unfolding computing
  translated-Forall around x over body at = refl

  translated-row : (around : Around) (n : _) (row : Row_of-Item n) → translated_items plan around row ≡ map (translated_item plan around) (items-the_row-Item n row)
  translated-row around n end_of-Item = refl
  translated-row around n (more_of-Item x rest) = ap (λ l. translated_item plan around x ∷ l) (translated-row around _ rest)

  pub translated-Block : (around : Around) (xs : List Item) → translated_item plan around (item.Block xs) ≡ item.Block (map (translated_item plan around) xs)
  translated-Block around xs = ap item.Block (translated-row around _ (items_in (item.Block xs)).1 ∙ ap (map (translated_item plan around)) (items_hidden-the_row-Item-1 xs))

  pub changed-Forall : (around : Around) (x : Word) (over : TypeExpr) (body : Item) (at : ℕ) → changed_in plan around (item.Forall x over body at) ≡ changed_in plan (around ++ (x, over) ∷ []) body
  unfolding computing
  changed-Forall around x over body at = refl

  changed-row : (around : Around) (n : _) (row : Row_of-Item n) → changed_among plan around row ≡ flat_map (changed_in plan around) (items-the_row-Item n row)
  changed-row around n end_of-Item = refl
  changed-row around n (more_of-Item x rest) = ap (λ l. changed_in plan around x ++ l) (changed-row around _ rest)

  pub changed-Block : (around : Around) (xs : List Item) → changed_in plan around (item.Block xs) ≡ flat_map (changed_in plan around) xs
  changed-Block around xs = changed-row around _ (items_in (item.Block xs)).1 ∙ ap (flat_map (changed_in plan around)) (items_hidden-the_row-Item-1 xs)

  -- what a changed claim says of its monitors
  abbrev pub in_pair : Changed → Around × Watched
  in_pair c = (c.around, c.watched)

  mutual
    watched-item : (around : Around) (a : Item) → watched_in plan around a ≡ map in_pair (changed_in plan around a)
    watched-item around (Declare role words of at) = refl
    watched-item around (Instance words m args at) = refl
    watched-item around (Layer word body at) = refl
    watched-item around (Forall' var over shape (more_of-Item body end_of-Item) at) = watched-item (around ++ (var, over) ∷ []) body
    watched-item around (Block' shape items) = watched-row around items
    watched-item around (Claim name vars (expr.Number value place) at) = by_entry (at_place plan place)
      where
        by_entry : (o : Option Watched) → or_none around o ≡ map in_pair (if_changed name around place o)
        by_entry None = refl
        by_entry (Some w) = refl
    watched-item around (Claim name vars e at) = refl
    watched-item around (Split word vars of pairs at) = refl
    watched-item around (Using uses proves at) = refl
    watched-item around (Act act) = refl

    watched-row : {m : _} (around : Around) (row : Row_of-Item m) → watched_among plan around row ≡ map in_pair (changed_among plan around row)
    watched-row around end_of-Item = refl
    watched-row around (more_of-Item a rest) = ap (λ l. l ++ watched_among plan around rest) (watched-item around a) ∙ ap (λ l. map in_pair (changed_in plan around a) ++ l) (watched-row around rest) ∙ sym (map-append in_pair (changed_in plan around a) (changed_among plan around rest))

  pub watched-list : (around : Around) (xs : List Item) → flat_map (watched_in plan around) xs ≡ map in_pair (flat_map (changed_in plan around) xs)
  watched-list around [] = refl
  watched-list around (x ∷ xs) = ap (λ l. l ++ flat_map (watched_in plan around) xs) (watched-item around x) ∙ ap (λ l. map in_pair (changed_in plan around x) ++ l) (watched-list around xs) ∙ sym (map-append in_pair (changed_in plan around x) (flat_map (changed_in plan around) xs))

  -- a claim for which the plan has nothing
  pub kept-claim : (around : Around) (x : Word) (vars : List Word) (e : Expr) (at : ℕ) → of_body plan e ≡ None → (translated_item plan around (item.Claim x vars e at) ≡ item.Claim x vars e at) × (changed_in plan around (item.Claim x vars e at) ≡ [])
  kept-claim around x vars (expr.Number value place) at h = (ap (λ o. item.Claim x vars (or_claim around (expr.Number value place) o) at) h, ap (if_changed x around place) h)
  kept-claim around x vars e at h = (ap (λ o. item.Claim x vars (or_claim around e o) at) h, refl)

-- what is the same before and behind
pub record IsKept (plan : List (ℕ × Watched)) (a : Item) : Type 0 where
  pub translated : (around : Around) → translated_item plan around a ≡ a
  pub changed : (around : Around) → changed_in plan around a ≡ []

pub kept-Split : (plan : _) (word : Word) (vars : List Word) (of : _) (pairs : _) (at : ℕ) → IsKept plan (item.Split word vars of pairs at)
kept-Split plan word vars of pairs at = record { translated = λ around. refl; changed = λ around. refl }

pub kept-Using : (plan : _) (us : _) (proves : _) (at : ℕ) → IsKept plan (item.Using us proves at)
kept-Using plan us proves at = record { translated = λ around. refl; changed = λ around. refl }

pub kept-Act : (plan : _) (act : Stmt) → IsKept plan (item.Act act)
kept-Act plan act = record { translated = λ around. refl; changed = λ around. refl }

pub kept-Declare : (plan : _) (role : _) (names : List Word) (of : TypeExpr) (at : ℕ) → IsKept plan (item.Declare role names of at)
kept-Declare plan role names of at = record { translated = λ around. refl; changed = λ around. refl }

pub kept-Instance : (plan : _) (names : List Word) (m : Word) (args : List Expr) (at : ℕ) → IsKept plan (item.Instance names m args at)
kept-Instance plan names m args at = record { translated = λ around. refl; changed = λ around. refl }

pub kept-Layer : (plan : _) (word : Word) (body : List Stmt) (at : ℕ) → IsKept plan (item.Layer word body at)
kept-Layer plan word body at = record { translated = λ around. refl; changed = λ around. refl }
