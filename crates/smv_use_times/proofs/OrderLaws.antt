-- The times of all uses are those of the definitions.
use Rattle.std.proofs.Common.{◌≡◌, ℕ, suc, List, [], ◌∷◌, map, length, refl, ap, sym, subst, ◌∙◌, arith}
use Rattle.smv_core.specs.declared.flat.Design.{Design}
use Rattle.smv_core.specs.declared.flat.Unit.{Unit}
use Rattle.smv_core.specs.declared.flat.Leaf.{Leaf}
use Rattle.smv_core.specs.declared.flat.Choice.{Choice}
use Rattle.smv_core.specs.declared.flat.Timed.{Timed}
use Rattle.law_obligations.specs.Outlines.{Entry, Outline, Script, entries_of, outline_of}
use Rattle.law_obligations.specs.Units.{units_of, script_of}
use Rattle.law_obligations.specs.Times.{graph, graph_from, timed, timed_from, all_timed}
use Rattle.graph_search.specs.Reverse.{IsGraph}
use Rattle.smv_use_times.specs.declared.uses.LeafUses.{LeafUses}
use Rattle.smv_use_times.specs.Uses.{Uses, held, uses_from}
use Rattle.smv_use_times.specs.Times.{edges_from, times_from}
use Rattle.smv_use_times.proofs.UseLaws.{all_from, edges-graph, times-all, is_graph}

units-of_entries : (units : List Unit) (leaves : List Leaf) (choices : List Choice) → length leaves ≡ length units → length choices ≡ length units → map (λ (entry : Entry). entry.unit) (entries_of units leaves choices) ≡ units
units-of_entries [] leaves choices l c = refl
units-of_entries (unit ∷ units) [] choices l c = absurd (omega arith)
units-of_entries (unit ∷ units) (leaf ∷ leaves) [] l c = absurd (omega arith)
units-of_entries (unit ∷ units) (leaf ∷ leaves) (choice ∷ choices) l c = ap (λ us. unit ∷ us) (units-of_entries units leaves choices (omega arith) (omega arith))

entries-long : (units : List Unit) (leaves : List Leaf) (choices : List Choice) → length leaves ≡ length units → length choices ≡ length units → length (entries_of units leaves choices) ≡ length units
entries-long [] leaves choices l c = refl
entries-long (unit ∷ units) [] choices l c = absurd (omega arith)
entries-long (unit ∷ units) (leaf ∷ leaves) [] l c = absurd (omega arith)
entries-long (unit ∷ units) (leaf ∷ leaves) (choice ∷ choices) l c = ap suc (entries-long units leaves choices (omega arith) (omega arith))

from-timed : (s : Script) (u : ℕ) (entries : List Entry) → timed_from s u entries ≡ all_from (outline_of s) (graph s) u entries
from-timed s u [] = refl
from-timed s u (entry ∷ entries) = ap (λ l. timed (outline_of s) (graph s) u entry ∷ l) (from-timed s (suc u) entries)

abbrev pub with_units : Design → List Unit → Outline
with_units d units = record { design = d; units = units }

-- what is held of the uses, in the words of the caller
pub uses_same : (d other : Design) (units others : List Unit) (leaves : List Leaf) (choices : List Choice) (all same : List LeafUses) → other ≡ d → others ≡ units → same ≡ all →
    map held all ≡ uses_from (with_units other others) 0 (entries_of others leaves choices) → map held same ≡ uses_from (with_units d units) 0 (entries_of units leaves choices)
uses_same d other units others leaves choices all same e f g known =
    ap (map held) g ∙ known ∙ ap (λ x. uses_from (with_units x others) 0 (entries_of others leaves choices)) e ∙ ap (λ us. uses_from (with_units d us) 0 (entries_of us leaves choices)) f

module _ (d : Design) (units : List Unit) (leaves : List Leaf) (choices : List Choice) (are_units : units ≡ units_of d) (l : length leaves ≡ length units) (c : length choices ≡ length units)
    (all : List Uses) (is : all ≡ uses_from (with_units d units) 0 (entries_of units leaves choices)) where
  abbrev o : Outline
  o = with_units d units

  abbrev entries : List Entry
  entries = entries_of units leaves choices

  edges-are : edges_from 0 all ≡ graph_from o 0 entries
  edges-are = ap (edges_from 0) is ∙ edges-graph o 0 entries

  pub is_uses_graph : IsGraph (edges_from 0 all)
  is_uses_graph = subst IsGraph (sym edges-are) (is_graph o entries (entries-long units leaves choices l c))

  times-are : times_from (edges_from 0 all) 0 all ≡ all_from o (graph_from o 0 entries) 0 entries
  times-are = ap (λ g. times_from g 0 all) edges-are ∙ ap (times_from (graph_from o 0 entries) 0) is ∙ times-all o (graph_from o 0 entries) 0 entries

  outline-is : outline_of (script_of d leaves choices) ≡ o
  outline-is = ap (λ us. with_units d (map (λ (entry : Entry). entry.unit) (entries_of us leaves choices))) (sym are_units) ∙ ap (with_units d) (units-of_entries units leaves choices l c)

  pub times_all_timed : (times : List Timed) → times ≡ times_from (edges_from 0 all) 0 all → times ≡ all_timed (script_of d leaves choices)
  times_all_timed times e =
      e ∙ times-are
      ∙ sym (from-timed (script_of d leaves choices) 0 (entries_of (units_of d) leaves choices)
      ∙ ap (λ p. all_from p (graph_from p 0 (entries_of (units_of d) leaves choices)) 0 (entries_of (units_of d) leaves choices)) outline-is
      ∙ ap (λ us. all_from o (graph_from o 0 (entries_of us leaves choices)) 0 (entries_of us leaves choices)) (sym are_units))
