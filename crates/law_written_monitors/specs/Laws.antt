-- The laws: what the crate's public functions say.
use Rattle.std.specs.Prelude.{◌≡◌, ◌<◌, ◌≤◌, ◌+◌, ◌^◌, ℕ, List, map, flat_map, filter, length}
use Rattle.std.specs.List.{AllByRecursion, AllZip}
use Rattle.smv_core.specs.Values.{Name}
use Rattle.smv_core.specs.declared.tree.Item.{Item}
use Rattle.smv_core.specs.Notation.{many}
use Rattle.smv_core.specs.Grammar.{below, body_rule}
use Rattle.law_places.specs.Placeless.{placeless_item}
use Rattle.law_strengthened_claims.specs.Renaming.{IsName}
use Rattle.law_formulas.specs.Monitors as m
use Rattle.law_formulas.specs.Monitors.{free_names, with_layer}
use Rattle.law_translated_texts.specs.Parts.{Phrase}
use Rattle.law_translated_texts.specs.Phrases.{Pieces, outset, claim_of}
use Rattle.law_written_formulas.specs.Laws.{AreRead, IsNamed, IsWhole, Writes, IsBinder}
use Rattle.law_written_monitors.specs.Monitored.{Monitored, written, in_tree, items_of, items_left, has_monitors, PartsAre}

-- the first free names are read as themselves
abbrev pub NamesAreNames : Type 0
NamesAreNames = (used : List Name) (count : ℕ) → count + length used < 2 ^ 32 → AllByRecursion IsName (free_names used count)

-- ---- pieces that are read alone

-- What is written in place of a formula is read piece by piece, where the names and the parts are read alone.
abbrev pub ClaimsAreWhole : Type 0
ClaimsAreWhole = (vars names : List Name) (p : Phrase (List ℕ)) → AllByRecursion IsWhole vars → AllByRecursion IsWhole names → PartsAre IsWhole p → AllByRecursion IsWhole (claim_of vars names outset p)

-- all that is written of a claim is read alone
pub record IsReadAlone (c : Monitored) : Type 0 where
  pub binders : AllByRecursion (λ (b : Name × Pieces). IsWhole b.0 × AllByRecursion IsWhole b.1) c.binders
  pub monitors : AllByRecursion IsWhole c.watched.monitors
  pub parts : PartsAre IsWhole c.phrase

abbrev pub MonitorsAreWhole : Type 0
MonitorsAreWhole = (layer : Name) (cs : List Monitored) → IsWhole layer → AllByRecursion IsReadAlone cs → AllByRecursion IsWhole (written layer cs)

-- ---- what they spell

-- the binders are those of the tree, names are read as themselves, and the parts of the formula are those of the tree, within such levels
pub record IsMonitored (k : ℕ) (c : Monitored) : Type 0 where
  pub levels : ℕ
  pub fits : length c.binders + levels ≤ k
  pub binders : AllZip IsBinder c.binders c.around
  pub monitors : AllByRecursion IsNamed c.watched.monitors
  pub parts : AreRead levels c.watched.formula c.phrase

abbrev pub IsAlikeItem : Item → Item → Type 0
IsAlikeItem x y = placeless_item x ≡ placeless_item y

-- What is written before a closing brace spells the declarations of the monitors and the layer of their definitions, within seven more levels.
abbrev pub MonitorsAreWritten : Type 0
MonitorsAreWritten = (k : ℕ) (layer : Name) (cs : List Monitored) → IsNamed layer → AllByRecursion (IsMonitored k) cs →
    (j : ℕ) → 7 + k ≤ j → Writes (AllZip IsAlikeItem) (many (body_rule (λ at. 0) j (below (λ at. 0) j))) (written layer cs) (items_of layer cs)

-- what stands behind the items of a module is that of its claims with monitors
abbrev pub MonitorsAreLeft : Type 0
MonitorsAreLeft = (layer : Name) (cs : List Monitored) → with_layer layer (map in_tree cs) (flat_map m.declared (map in_tree cs)) ≡ items_left layer (filter has_monitors cs)
