-- One more element is seen by cells.
use Rattle.std.proofs.Common.{◌≡◌, ℕ, List, [], ◌∷◌, ◌++◌, map, Bool, true, false, ◌&&◌, ◌||◌, nat_eq, inl, inr, refl, sym, ap, subst, ◌∙◌, Option, Some, IfSome}
use Rattle.std.proofs.lemmas.Bool.{cases_Bool}
use Rattle.std.proofs.lemmas.List.Folds.{list_any-append}
use Rattle.std.specs.List.{list_any}
use Rattle.law_lists.proofs.Booleans.{clash}
use Rattle.law_obligations.specs.Sets.{Has}
use Rattle.law_obligations.specs.Places.{Place, World, AbsOutcome}
use Rattle.law_obligations.specs.May.{AbsState, Kept}
use Rattle.law_obligations.specs.Cones.{AbsElement, element, same_element, same_places}
use Rattle.law_obligations.proofs.ReadsWithin.{either}
use Rattle.law_obligations.proofs.Members.{any-found, one_of_one}
use Rattle.law_arrangements.specs.Arrangements.{put}
use Rattle.law_arrangements.proofs.Views.{flip}
use Rattle.law_obligations.proofs.ConeFacts.{same_element-itself}
use Rattle.law_wires.proofs.Put.{put_other, put_at}
use Rattle.bdd_store.specs.declared.Ref.{Ref}
use Rattle.bdd_store.specs.Diagram.{Diagram, table}
use Rattle.smv_spots.specs.Spots.{place_in}
use Rattle.smv_conditions.specs.Offers.{any_offer}
use Rattle.smv_problem.specs.declared.problem.Problem.{Problem}
use Rattle.smv_cells.specs.declared.cells.Cell.{Cell}
use Rattle.smv_cells.specs.Cells.{is_cell_of}
use Rattle.smv_cells.specs.Seen.{View, IsView, IsSeen}

pub or_nothing : (b : Bool) → b || false ≡ b
or_nothing true = refl
or_nothing false = refl

-- what a clause says of the value that there is
pub some_says : {X : Type 0} (P : X → Type 0) (o : Option X) (x : X) → o ≡ Some x → IfSome o P → P x
some_says P o x e h = subst (λ p. IfSome p P) e h

none_in : {X : Type 0} (f : X → Bool) (xs : List X) → list_any f xs ≡ false → (x : X) → Has xs x → f x ≡ false
none_in f xs e x h = elim (cases_Bool (f x)) [
  | inl t ↦ absurd (clash (any-found f h t) e)
  | inr t ↦ t
]

-- the cell is that of an element
pub record IsCellOf (w : World) (x : AbsElement) (cell : Cell Ref) : Type 0 where
  pub family : cell.family ≡ x.family
  pub indexes : map (place_in w.classes) cell.indexes ≡ x.indexes

module _ (d : Diagram) (p : Problem) (w : World) (kept more : Kept) (state : (ℕ → Bool) → AbsState) (value : (ℕ → Bool) → Place) (x : AbsElement) (cells : List (Cell Ref)) (cell : Cell Ref) where
  abbrev before : View
  before = record { world = w; kept = kept; state = state }

  abbrev after : View
  after = record { world = w; kept = more; state = λ a. put x (value a) (state a) }

  cell_is : IsCellOf w x cell → (family : ℕ) (ps : List Place) → is_cell_of w.classes family ps cell ≡ same_element (element family ps) x
  cell_is of family ps =
      ap (λ (n : ℕ). nat_eq n family && same_places (map (place_in w.classes) cell.indexes) ps) of.family ∙ ap (λ (qs : List Place). nat_eq x.family family && same_places qs ps) of.indexes ∙ flip x (element family ps)

  pub seen_more : IsView after → IsCellOf w x cell → kept x.family x.indexes ≡ false → ((family : ℕ) (ps : List Place) → more family ps ≡ (kept family ps || same_element (element family ps) x))
      → ((a : ℕ → Bool) (q : AbsOutcome → Bool) → any_offer w.classes table d a q cell.values ≡ q (Some (value a))) → IsSeen table d p cells before → IsSeen table d p (cells ++ cell ∷ []) after
  seen_more view of none keeps values seen = record {
    view = view;
    world = seen.world;
    values = λ a q own h. either cells (cell ∷ []) h (old a q own) (new a q own);
    kept = λ family ps.
        keeps family ps
        ∙ ap (λ (b : Bool). b || same_element (element family ps) x) (seen.kept family ps)
        ∙ ap (λ (b : Bool). list_any (is_cell_of w.classes family ps) cells || b) (sym (or_nothing (is_cell_of w.classes family ps cell) ∙ cell_is of family ps))
        ∙ sym (list_any-append (is_cell_of w.classes family ps) cells (cell ∷ []));
  }
    where
      old : (a : ℕ → Bool) (q : AbsOutcome → Bool) (own : Cell Ref) → Has cells own → any_offer w.classes table d a q own.values ≡ q (Some (put x (value a) (state a) own.family (map (place_in w.classes) own.indexes)))
      old a q own h =
          let other : same_element (element own.family (map (place_in w.classes) own.indexes)) x ≡ false = none_in (is_cell_of w.classes x.family x.indexes) cells (sym (seen.kept x.family x.indexes) ∙ none) own h in
          seen.values a q own h ∙ ap (λ (v : Place). q (Some v)) (sym (put_other x (value a) (state a) own.family (map (place_in w.classes) own.indexes) other))

      new : (a : ℕ → Bool) (q : AbsOutcome → Bool) (own : Cell Ref) → Has (cell ∷ []) own → any_offer w.classes table d a q own.values ≡ q (Some (put x (value a) (state a) own.family (map (place_in w.classes) own.indexes)))
      new a q own h =
          let is : own ≡ cell = one_of_one h in
          let same : same_element x (element cell.family (map (place_in w.classes) cell.indexes)) ≡ true =
          ap (λ (n : ℕ). nat_eq x.family n && same_places x.indexes (map (place_in w.classes) cell.indexes)) of.family ∙ ap (λ (qs : List Place). nat_eq x.family x.family && same_places x.indexes qs) of.indexes ∙ same_element-itself x in
          subst (λ (o : Cell Ref). any_offer w.classes table d a q o.values ≡ q (Some (put x (value a) (state a) o.family (map (place_in w.classes) o.indexes)))) (sym is)
          (values a q ∙ ap (λ (v : Place). q (Some v)) (sym (put_at x (value a) (state a) (element cell.family (map (place_in w.classes) cell.indexes)) same)))
