-- Each place of a translation stands within the text that was read.
use Rattle.std.proofs.Common.{◌≤◌, ◌+◌, ◌-◌, ℕ, zero, suc, List, [], ◌∷◌, ◌++◌, map, filter, flat_map, length, drop, take, codes, sym, subst, arith}
use Rattle.std.specs.List.{AllByRecursion, slice_index}
use Rattle.std.proofs.lemmas.List.{length-drop}
use Rattle.law_lists.proofs.Each.{each_append, each_filter, each_flat_map}
use Rattle.smv_core.specs.Values.{Name}
use Rattle.smv_core.specs.declared.tree.Top.{Top}
use Rattle.smv_core.specs.declared.tree.Top.TheVariants.{SetType, Alias, Module}
use Rattle.smv_core.specs.Notation.{Tokens}
use Rattle.law_strengthened_claims.specs.Renaming.{between}
use Rattle.law_formulas.specs.Formulas.{FormulaText}
use Rattle.law_formulas.specs.Monitors.{watched, layer_of, free_names, monitors_of}
use Rattle.law_formula_texts.specs.Laws.{names_of}
use Rattle.law_lexed_parts.specs.Parts.{begin_of, end_of_all}
use Rattle.law_translated_texts.specs.Parts.{part, behind_part}
use Rattle.law_translated_texts.specs.Translation.{Changed, Edit, Placed, Translation, back, body, changed_in, claim_edit, closing, declarations, definitions, edited, edits, formula_tokens, has_monitors, module_edits, monitors_edit, placed_at, placed_from, spaced, translation_by}
use Rattle.law_translated_texts.specs.Answers.{levels}
use Rattle.law_formula_places.specs.Laws.{TranslationsAreCarriedBack}
use Rattle.law_formula_places.proofs.Claims.{Plan, IsNamed, ClaimsStand, TopStands}
use Rattle.law_formula_places.proofs.Tokens.{spelled-stands}

-- ---- bytes

module _ (n : ℕ) where
  abbrev IsWithin : ℕ × ℕ → Type 0
  IsWithin b = b.1 ≤ n

  abbrev Within : Placed → Type 0
  Within bytes = AllByRecursion IsWithin bytes

  abbrev Writes : Edit → Type 0
  Writes e = Within e.written

  at-within : (at : ℕ) (bytes : List ℕ) → at ≤ n → Within (placed_at at bytes)
  at-within at [] h = tt
  at-within at (b ∷ bytes) h = (h, at-within at bytes h)

  from-within : (at : ℕ) (bytes : List ℕ) → length bytes ≤ n - at → Within (placed_from at bytes)
  from-within at [] h = tt
  from-within at (b ∷ bytes) h = (omega (arith, h), from-within (suc at) bytes (omega (arith, h)))

short-take : (k : ℕ) (bytes : List ℕ) → length (take k bytes) ≤ length bytes
short-take zero bytes = omega arith
short-take (suc k) [] = omega arith
short-take (suc k) (b ∷ bytes) = let r = short-take k bytes in omega (arith, r)

-- what is kept of the text stands at its own offsets
edited-within : (text : List ℕ) (from : ℕ) (es : List Edit) → AllByRecursion (Writes (length text)) es → Within (length text) (edited text from es)
edited-within text from [] h = from-within (length text) from (drop from text) (let d = length-drop from text in omega (arith, d))
edited-within text from (e ∷ es) h =
    let kept : length (between text from e.from) ≤ length text - from = (let d = length-drop from text in let t = short-take (e.from - from) (drop from text) in omega (arith, d, t)) in
    each_append (IsWithin (length text)) (placed_from from (between text from e.from)) (e.written ++ edited text e.to es) (from-within (length text) from (between text from e.from) kept)
    (each_append (IsWithin (length text)) e.written (edited text e.to es) h.0 (edited-within text e.to es h.1))

-- ---- edits

module _ (n : ℕ) (text : List ℕ) (ts : Tokens) where
  -- what is written for a claim, for its declarations and for its definitions
  abbrev claimed : Changed → List ℕ
  claimed c =
      let fs = formula_tokens text ts c in
      let end = begin_of (behind_part fs) + 1 in
      between text c.name c.place ++ (spaced (body text ts c) ++ (codes " " ++ between text (end_of_all text (part fs)) end))

  abbrev declared : Changed → List ℕ
  declared c = spaced (declarations text ts c)

  abbrev defined : Changed → List ℕ
  defined c = spaced (definitions text ts c)

  -- around the definitions
  abbrev opening : Name → List ℕ
  opening layer = spaced (codes "layer" ∷ layer ∷ codes ":" ∷ codes "{" ∷ [])

  abbrev ending : List ℕ
  ending = spaced (codes "}" ∷ []) ++ codes " "

  claims-write : (cs : List Changed) → AllByRecursion (IsNamed n) cs → AllByRecursion (Writes n) (map (claim_edit text ts) cs)
  claims-write [] h = tt
  claims-write (c ∷ cs) h = (at-within n c.name (claimed c) h.0, claims-write cs h.1)

  abbrev each_placed : (Changed → List ℕ) → List Changed → Placed
  each_placed bytes cs = flat_map (λ c. placed_at c.name (bytes c)) cs

  each-placed : (bytes : Changed → List ℕ) (cs : List Changed) → AllByRecursion (IsNamed n) cs → Within n (each_placed bytes cs)
  each-placed bytes cs h = each_flat_map (IsNamed n) (IsWithin n) (λ c. placed_at c.name (bytes c)) (λ c named. at-within n c.name (bytes c) named) cs h

  monitors-write : (layer : Name) (at : ℕ) (cs : List Changed) → AllByRecursion (IsNamed n) cs → AllByRecursion (Writes n) (monitors_edit text ts layer at cs)
  monitors-write layer at [] h = tt
  monitors-write layer at (c ∷ cs) h =
      let own = at-within n c.name (opening layer) h.0 in
      let last = at-within n c.name ending h.0 in
      let behind = each_append (IsWithin n) (each_placed defined (c ∷ cs)) (placed_at c.name ending) (each-placed defined (c ∷ cs) h) last in
      let more = each_append (IsWithin n) (placed_at c.name (opening layer)) (each_placed defined (c ∷ cs) ++ placed_at c.name ending) own behind in
      (each_append (IsWithin n) (each_placed declared (c ∷ cs)) (placed_at c.name (opening layer) ++ (each_placed defined (c ∷ cs) ++ placed_at c.name ending)) (each-placed declared (c ∷ cs) h) more, tt)

  module _ (plan : Plan) (layer : Name) where
    module-writes : (cs : List Changed) (at : ℕ) → AllByRecursion (IsNamed n) cs → AllByRecursion (Writes n) (module_edits text ts plan layer cs at)
    module-writes cs at h =
        each_append (Writes n) (map (claim_edit text ts) cs) (monitors_edit text ts layer at (filter has_monitors cs)) (claims-write cs h)
        (monitors-write layer at (filter has_monitors cs) (each_filter (IsNamed n) has_monitors cs h))

    tops-write : (tops : List Top) → AllByRecursion (TopStands n) tops → AllByRecursion (Writes n) (edits text ts plan layer tops)
    tops-write [] h = tt
    tops-write (SetType word ordered span at ∷ tops) h = tops-write tops h.1
    tops-write (Alias word of at ∷ tops) h = tops-write tops h.1
    tops-write (Module word formals items at ∷ tops) h =
        let cs = flat_map (changed_in plan []) items in
        each_append (Writes n) (module_edits text ts plan layer cs (closing ts tops)) (edits text ts plan layer tops)
        (module-writes cs (closing ts tops) (each_flat_map (ClaimsStand n) (IsNamed n) (changed_in plan []) (λ x k. k plan []) items h.0)) (tops-write tops h.1)

-- ---- the map of places

place-within : (n : ℕ) (bytes : Placed) (at : ℕ) → Within n bytes → slice_index (map (λ b. b.1) bytes ++ n ∷ []) at ≤ n
place-within n [] zero h = omega arith
place-within n [] (suc at) h = omega arith
place-within n (b ∷ bytes) zero h = h.0
place-within n (b ∷ bytes) (suc at) h = place-within n bytes at h.1

by-names : (names : List Name) (text : List ℕ) (ts : Tokens) (ft : FormulaText) (at : ℕ) → AllByRecursion (TopStands (length text)) ft.text.tops → back (translation_by names text ts ft) at ≤ length text
by-names names text ts ft at h =
    let es : List Edit = edits text ts (watched ft.formulas names) (layer_of names ft) ft.text.tops in
    place-within (length text) (edited text 0 es) at (edited-within text 0 es (tops-write (length text) text ts (watched ft.formulas names) (layer_of names ft) ft.text.tops h))

pub carried-back : TranslationsAreCarriedBack
carried-back text t at is =
    subst (λ (z : Translation). back z at ≤ length text) (sym is.translated) (by-names (free_names (names_of is.tokens) (monitors_of is.tree.formulas + 1)) text is.tokens is.tree at (spelled-stands levels text is.tokens is.tree is.readable.read is.readable.spelled).0)
