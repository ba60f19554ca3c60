-- The results of a report, and the units of a script, by their names.
use Rattle.std.proofs.Common.{◌≡◌, ℕ, zero, suc, ◌+◌, List, [], ◌∷◌, map, length, Bool, true, false, cond, refl, ap, ◌∙◌, Some, slice_get, arith}
use Rattle.std.specs.Str.{bytes_eq}
use Rattle.smv_core.specs.Values.{Name}
use Rattle.smv_core.specs.declared.flat.Unit.{Unit}
use Rattle.smv_core.specs.declared.flat.Leaf.{Leaf}
use Rattle.smv_core.specs.declared.flat.Choice.{Choice}
use Rattle.smv_bits.specs.declared.Bits.{Bits}
use Rattle.law_obligations.specs.Outlines.{Entry, Script, entries_of, unit_in}
use Rattle.law_splits.specs.Leaves.{name_of}
use Rattle.smv_problem.specs.declared.report.UnitResult.{UnitResult}
use Rattle.law_reports.specs.Reports.{AreResultsFrom}
use Rattle.law_valid_texts.specs.Reports.{named_from}

pub some_is : {X : Type 0} {x y : X} → Some x ≡ Some y → x ≡ y
some_is e = cc

-- results have the names of their units
pub names_of_results : (s : Script) (bits : Bits) (nodes steps u : ℕ) (entries : List Entry) (results : List UnitResult) → AreResultsFrom s bits nodes steps u entries results →
    map (λ (r : UnitResult). r.name) results ≡ map (λ (entry : Entry). name_of s.design (unit_in s.design entry.unit)) entries
names_of_results s bits nodes steps u [] [] h = refl
names_of_results s bits nodes steps u [] (r ∷ results) h = elim h [ ]
names_of_results s bits nodes steps u (entry ∷ entries) [] h = elim h [ ]
names_of_results s bits nodes steps u (entry ∷ entries) (r ∷ results) h =
    ap (λ name. name ∷ map (λ (r : UnitResult). r.name) results) h.0.name
    ∙ ap (λ names. name_of s.design (unit_in s.design entry.unit) ∷ names) (names_of_results s bits nodes steps (suc u) entries results h.1)

-- with a leaf and a choice for each unit, the entries are of the units
pub units_of_entries : {X : Type 0} (f : Unit → X) (units : List Unit) (leaves : List Leaf) (choices : List Choice) → length leaves ≡ length units → length choices ≡ length units →
    map (λ (entry : Entry). f entry.unit) (entries_of units leaves choices) ≡ map f units
units_of_entries f [] leaves choices l c = refl
units_of_entries f (unit ∷ units) [] choices l c = absurd (omega arith)
units_of_entries f (unit ∷ units) (leaf ∷ leaves) [] l c = absurd (omega arith)
units_of_entries f (unit ∷ units) (leaf ∷ leaves) (choice ∷ choices) l c = ap (λ xs. f unit ∷ xs) (units_of_entries f units leaves choices (omega arith) (omega arith))

abbrev placed : ℕ → Entry → ℕ × Entry
placed u entry = (u, entry)

-- a unit that is found by its name stands at its place
module _ (s : Script) (name : Name) where
  pub found_at : (j u : ℕ) (entry : Entry) (entries : List Entry) → named_from s name j entries ≡ Some (u, entry) → (k : ℕ) × (u ≡ j + k) × (slice_get entries k ≡ Some entry)
  found_at j u entry [] e = absurd (cc (e))
  found_at j u entry (x ∷ entries) e = by_test (bytes_eq (name_of s.design (unit_in s.design x.unit)) name) e (λ e. found_at (suc j) u entry entries e)
    where
      place : Some (placed j x) ≡ Some (placed u entry) → j ≡ u
      place e = ap (λ (p : ℕ × Entry). p.0) (some_is e)

      is_it : Some (placed j x) ≡ Some (placed u entry) → x ≡ entry
      is_it e = ap (λ (p : ℕ × Entry). p.1) (some_is e)

      by_test : (b : Bool) → cond b (Some (placed j x)) (named_from s name (suc j) entries) ≡ Some (placed u entry) → (named_from s name (suc j) entries ≡ Some (u, entry) → (k : ℕ) × (u ≡ suc j + k) × (slice_get entries k ≡ Some entry)) →
          (k : ℕ) × (u ≡ j + k) × (slice_get (x ∷ entries) k ≡ Some entry)
      by_test true e rest = (zero, (let p = place e in omega (arith, p)), ap Some (is_it e))
      by_test false e rest = let r = rest e in (suc r.0, (let q = r.1 in omega (arith, q)), r.2)
