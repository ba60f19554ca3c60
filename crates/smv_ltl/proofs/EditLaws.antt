-- What the edits of a text are made of, as it is written.
use Rattle.std.proofs.Common.{◌≡◌, ◌<◌, ◌≤◌, ◌+◌, ◌==◌, ℕ, List, [], ◌∷◌, ◌++◌, length, map, drop, filter, codes, get_or, Bool, true, false, cond, if◌then◌else◌, nat_lt, Some, None, refl, sym, ap, ◌∙◌, subst, append_assoc, arith}
use Rattle.std.specs.List.{AllByRecursion, flat_map}
use Rattle.std.proofs.lemmas.Bool.Decides.{nat_tests}
use Rattle.std.proofs.lemmas.List.{at_drop_more, drop_all, map-append}
use Rattle.smv_core.specs.declared.fault.Fault.{Fault}
use Rattle.smv_core.specs.Values.{Name}
use Rattle.smv_core.specs.Notation.{Tokens}
use Rattle.smv_core.specs.declared.tree.Item.{Item}
use Rattle.smv_core.specs.declared.tree.Top.{Top}
use Rattle.smv_core.specs.declared.tree.Top.TheVariants.{SetType, Alias, Module}
use Rattle.law_lexed_parts.specs.Parts.{begin_of, end_of_all}
use Rattle.law_strengthened_claims.specs.Renaming.{between}
use Rattle.law_formulas.specs.Monitors as monitors
use Rattle.law_translated_texts.specs.Parts.{Phrase, Now, Next, When, Weak, from_place, part, behind_part, parts_of, phrase_of, type_at}
use Rattle.law_translated_texts.specs.Phrases.{Pieces, Binders, Stage, outset, under, claim_of, names_in, definitions, declared, defining, defined}
use Rattle.law_translated_texts.specs.Translation as law
use Rattle.law_translated_texts.specs.Translation.{Placed, Edit, placed_at, placed_from, spaced, claim_edit, monitors_edit, module_edits, has_monitors, changed_in, closing, edited, edits}
use Rattle.smv_token_ends.specs.Fronts.{IsTokenAt}
use Rattle.smv_phrases.specs.Seen.{names, binder_of, binders_of}
use Rattle.smv_phrases.specs.declared.monitors.Binder.{Binder}
use Rattle.smv_phrases.proofs.StageLaws.{names_are}
use Rattle.smv_ltl.specs.declared.changed.Around.{Around}
use Rattle.smv_ltl.specs.declared.changed.Changed.{Changed}
use Rattle.smv_ltl.specs.declared.edits.Source.{Source}
use Rattle.smv_ltl.specs.Changes.{around_of, change_of, changes_of}
use Rattle.smv_ltl.specs.Edits.{binders_at, edit_of, edits_of, first_watched, all_declared, all_defined, monitors_from, layer_edits, edits_in, edits_at}
use Rattle.smv_ltl.specs.Writing.{IsTooLong, GoesOn, IsTooLongWith}
use Rattle.smv_ltl.proofs.WritingLaws.{over-front, over-same, one-edit, between-end}

-- ---- tokens that stand in the text

module _ {X : Type 0} (P : X → Type 0) where
  pub each-last : (xs : List X) (x : X) → AllByRecursion P xs → P x → AllByRecursion P (xs ++ x ∷ [])
  each-last [] x h k = (k, tt)
  each-last (y ∷ xs) x h k = (h.0, each-last xs x h.1 k)

pub from-stands : (text : List ℕ) (at : ℕ) (ts : Tokens) → AllByRecursion (IsTokenAt text) ts → AllByRecursion (IsTokenAt text) (from_place at ts)
from-stands text at [] h = tt
from-stands text at (t ∷ ts) h = by (t.at == at) (from-stands text at ts h.1)
  where
    by : (b : Bool) → AllByRecursion (IsTokenAt text) (from_place at ts) → AllByRecursion (IsTokenAt text) (if b then t ∷ ts else from_place at ts)
    by true k = h
    by false k = k

-- ---- binders

-- one binder more
pub binders-more : (source : Source) (bs : List Binder) (b : Binder) (around : List Around) (i : ℕ) (a : Around) → i < length around → a ≡ get_or around i a →
    binder_of source.text.now b ≡ (a.var.now.name, type_at source.text.now source.tokens.now a.var.now.at) →
    binders_of source.text.now (bs ++ b ∷ []) ++ binders_at source (around_of (drop (i + 1) around)) ≡ binders_of source.text.now bs ++ binders_at source (around_of (drop i around))
binders-more source bs b around i a lt is one =
    let text = source.text.now in
    let rest = binders_at source (around_of (drop (i + 1) around)) in
    ap (λ (l : Binders). l ++ rest) (map-append (binder_of text) bs (b ∷ [])) ∙ append_assoc (binders_of text bs) (binder_of text b ∷ []) rest ∙ ap (λ (x : Name × Pieces). binders_of text bs ++ (x ∷ rest)) one
    ∙ ap (λ (l : Binders). binders_of text bs ++ l) (sym (at_drop_more (λ (l : List Around). binders_at source (around_of l)) around i a lt ∙ ap (λ (x : Around). binders_at source (around_of (x ∷ drop (i + 1) around))) (sym is)))

-- ---- a claim

-- what stands in place of a claim, piece by piece
pub claim-written : (text : List ℕ) (ts : Tokens) (c : law.Changed) (tokens : Tokens) (bs : List Binder) (f : Phrase (List ℕ)) (stop to : ℕ) (first second third : List ℕ) → tokens ≡ from_place c.place ts → binders_of text bs ≡ law.binders text ts c →
    f ≡ phrase_of text (parts_of c.watched.formula tokens) → stop ≡ end_of_all text (part tokens) → to ≡ begin_of (behind_part tokens) + 1 → first ≡ between text c.name c.place →
    second ≡ first ++ spaced (claim_of (names bs) c.watched.monitors outset f) → third ≡ second ++ (codes " " ++ between text stop to) → placed_at c.name third ≡ (claim_edit text ts c).written
claim-written text ts c tokens bs f stop to first second third is b p s t e k h =
    let front = between text c.name c.place in
    let body : List ℕ = spaced (claim_of (names bs) c.watched.monitors outset f) in
    let tail : List ℕ = codes " " ++ between text stop to in
    let named : names bs ≡ names_in (law.binders text ts c) = sym (names_are text bs) ∙ ap names_in b in
    let read : f ≡ law.phrase text ts c = p ∙ ap (λ (us : Tokens). phrase_of text (parts_of c.watched.formula us)) is in
    let same : body ≡ spaced (law.body text ts c) =
    ap (λ (ns : List Name). spaced (claim_of ns c.watched.monitors outset f)) named ∙ ap (λ (g : Phrase (List ℕ)). spaced (claim_of (names_in (law.binders text ts c)) c.watched.monitors outset g)) read in
    let until : tail ≡ codes " " ++ between text (end_of_all text (part (from_place c.place ts))) (begin_of (behind_part (from_place c.place ts)) + 1) =
    ap (λ (n : ℕ). codes " " ++ between text n to) (s ∙ ap (λ (us : Tokens). end_of_all text (part us)) is)
    ∙ ap (λ (n : ℕ). codes " " ++ between text (end_of_all text (part (from_place c.place ts))) n) (t ∙ ap (λ (us : Tokens). begin_of (behind_part us) + 1) is) in
    ap (λ (l : List ℕ). placed_at c.name l)
    (h ∙ ap (λ (l : List ℕ). l ++ tail) (k ∙ ap (λ (l : List ℕ). l ++ body) e) ∙ append_assoc front body tail ∙ ap (λ (l : List ℕ). front ++ (l ++ tail)) same ∙ ap (λ (l : List ℕ). front ++ (spaced (law.body text ts c) ++ l)) until)

-- an edit up to an offset, whose bytes were made before
module _ (text : List ℕ) (e : Edit) (from to : ℕ) (old : Placed) where
  pub one-edit-by : (mid new bytes : Placed) → to ≡ e.to → bytes ≡ e.written → mid ≡ old ++ placed_from from (between text from e.from) → new ≡ mid ++ bytes → GoesOn text (e ∷ []) from old to new
  one-edit-by mid new bytes t b m n = subst (λ (k : ℕ). GoesOn text (e ∷ []) from old k new) (sym t) (one-edit text e from old mid new m (n ∙ ap (λ (l : Placed). mid ++ l) b))

-- ---- the loops

-- the claims of a module, one more
module _ (source : Source) (cs : List Changed) (i : ℕ) (one : Changed) (lt : i < length cs) (is : one ≡ get_or cs i one) (from at : ℕ) (old now : Placed)
    (told : (more : List Edit) → now ++ edited source.text.now at (edits_of source (drop i cs) ++ more) ≡ old ++ edited source.text.now from (edits_of source cs ++ more)) where
  one-of : (more : List Edit) → now ++ edited source.text.now at (edit_of source one ∷ (edits_of source (drop (i + 1) cs) ++ more)) ≡ old ++ edited source.text.now from (edits_of source cs ++ more)
  one-of more =
      ap (λ (es : List Edit). now ++ edited source.text.now at (es ++ more)) (sym (at_drop_more (edits_of source) cs i one lt ∙ ap (λ (x : Changed). edits_of source (x ∷ drop (i + 1) cs)) (sym is))) ∙ told more

  pub claims-more : (to : ℕ) (new : Placed) → GoesOn source.text.now (edit_of source one ∷ []) at now to new →
      (more : List Edit) → new ++ edited source.text.now to (edits_of source (drop (i + 1) cs) ++ more) ≡ old ++ edited source.text.now from (edits_of source cs ++ more)
  claims-more to new goes more = goes (edits_of source (drop (i + 1) cs) ++ more) ∙ one-of more

  pub claims-over : (f : Fault) → IsTooLongWith source.text.now (edit_of source one ∷ []) at now f → IsTooLongWith source.text.now (edits_of source cs) from old f
  claims-over f h more =
      over-same (now ++ edited source.text.now at (edit_of source one ∷ (edits_of source (drop (i + 1) cs) ++ more))) (old ++ edited source.text.now from (edits_of source cs ++ more)) f (one-of more) (h (edits_of source (drop (i + 1) cs) ++ more))

pub claims-all : (source : Source) (cs : List Changed) (i from at : ℕ) (old now : Placed) → length cs ≤ i →
    ((more : List Edit) → now ++ edited source.text.now at (edits_of source (drop i cs) ++ more) ≡ old ++ edited source.text.now from (edits_of source cs ++ more)) → GoesOn source.text.now (edits_of source cs) from old at now
claims-all source cs i from at old now le told more = ap (λ (l : List Changed). now ++ edited source.text.now at (edits_of source l ++ more)) (sym (drop_all i cs le)) ∙ told more

-- what is written of each claim's monitors, one more
module _ (f : Changed → Placed) (cs : List Changed) (i : ℕ) (one : Changed) (lt : i < length cs) (is : one ≡ get_or cs i one) (old now : Placed) (told : now ++ flat_map f (drop i cs) ≡ old ++ flat_map f cs) where
  one-told : now ++ (f one ++ flat_map f (drop (i + 1) cs)) ≡ old ++ flat_map f cs
  one-told = ap (λ (l : Placed). now ++ l) (sym (at_drop_more (λ (l : List Changed). flat_map f l) cs i one lt ∙ ap (λ (x : Changed). flat_map f (x ∷ drop (i + 1) cs)) (sym is))) ∙ told

  pub told-more : (new : Placed) → new ≡ now ++ f one → new ++ flat_map f (drop (i + 1) cs) ≡ old ++ flat_map f cs
  told-more new n = ap (λ (l : Placed). l ++ flat_map f (drop (i + 1) cs)) n ∙ append_assoc now (f one) (flat_map f (drop (i + 1) cs)) ∙ one-told

  pub told-over : (x : Fault) → IsTooLong (now ++ f one) x → IsTooLong (old ++ flat_map f cs) x
  told-over x h = over-front old now (f one) (flat_map f (drop (i + 1) cs)) (flat_map f cs) x one-told h

-- ---- the monitors of a module

abbrev pub told_declared : Source → Changed → Placed
told_declared source c = placed_at c.name (spaced (law.declarations source.text.now source.tokens.now (change_of c)))

abbrev pub told_defined : Source → Changed → Placed
told_defined source c = placed_at c.name (spaced (law.definitions source.text.now source.tokens.now (change_of c)))

-- bytes that are put in at an offset
abbrev pub edit_there : ℕ → Placed → Edit
edit_there at bytes = record { from = at; to = at; written = bytes }

no-monitors : (ms : List Name) → nat_lt 0 (length ms) ≡ false → ms ≡ []
no-monitors [] e = refl
no-monitors (m ∷ ms) e = let le : length (m ∷ ms) ≤ 0 = grind (arith, nat_tests) in absurd (omega (arith, le))

undefined : (vars : List Name) (stage : Stage) (f : Phrase (List ℕ)) → definitions vars [] stage f ≡ []
undefined vars stage (Now e) = refl
undefined vars stage (Next f) = refl
undefined vars stage (When c f) = undefined vars (under stage c) f
undefined vars stage (Weak p q) = refl

-- what is nothing where there are no monitors
module _ (f : law.Changed → Placed) (idle : (d : law.Changed) → has_monitors d ≡ false → f d ≡ []) where
  of-watched : (ds : List law.Changed) → flat_map f (filter has_monitors ds) ≡ flat_map f ds
  of-watched [] = refl
  of-watched (d ∷ ds) = by (has_monitors d) refl (of-watched ds)
    where
      by : (b : Bool) → has_monitors d ≡ b → flat_map f (filter has_monitors ds) ≡ flat_map f ds → flat_map f (cond b (d ∷ filter has_monitors ds) (filter has_monitors ds)) ≡ f d ++ flat_map f ds
      by true e more = ap (λ (l : Placed). f d ++ l) more
      by false e more = more ∙ ap (λ (l : Placed). l ++ flat_map f ds) (sym (idle d e))

-- the first that has monitors, and the others
record First (ds : List law.Changed) (name : ℕ) : Type 0 where
  pub first : law.Changed
  pub others : List law.Changed
  pub are : filter has_monitors ds ≡ first ∷ others
  pub named : first.name ≡ name

first-is : (ds : List law.Changed) (name : ℕ) → first_watched ds ≡ Some name → First ds name
first-is [] name e = absurd cc
first-is (d ∷ ds) name e = by (has_monitors d) refl (first-is ds name)
  where
    by : (b : Bool) → has_monitors d ≡ b → (first_watched ds ≡ Some name → First ds name) → First (d ∷ ds) name
    by true is more =
        let h : Some d.name ≡ Some name = sym (ap (λ (c : Bool). if c then Some d.name else first_watched ds) is) ∙ e in
        record { first = d; others = filter has_monitors ds; are = ap (λ (c : Bool). cond c (d ∷ filter has_monitors ds) (filter has_monitors ds)) is; named = cc }
    by false is more =
        let h = more (sym (ap (λ (c : Bool). if c then Some d.name else first_watched ds) is) ∙ e) in
        record { first = h.first; others = h.others; are = ap (λ (c : Bool). cond c (d ∷ filter has_monitors ds) (filter has_monitors ds)) is ∙ h.are; named = h.named }

none-watched : (ds : List law.Changed) → first_watched ds ≡ None → filter has_monitors ds ≡ []
none-watched [] e = refl
none-watched (d ∷ ds) e = by (has_monitors d) refl (none-watched ds)
  where
    by : (b : Bool) → has_monitors d ≡ b → (first_watched ds ≡ None → filter has_monitors ds ≡ []) → filter has_monitors (d ∷ ds) ≡ []
    by true is more =
        let h : Some d.name ≡ None = sym (ap (λ (c : Bool). if c then Some d.name else first_watched ds) is) ∙ e in
        absurd cc
    by false is more = ap (λ (c : Bool). cond c (d ∷ filter has_monitors ds) (filter has_monitors ds)) is ∙ more (sym (ap (λ (c : Bool). if c then Some d.name else first_watched ds) is) ∙ e)

module _ (source : Source) where
  abbrev declared_at : law.Changed → Placed
  declared_at d = placed_at d.name (spaced (law.declarations source.text.now source.tokens.now d))

  abbrev defined_at : law.Changed → Placed
  defined_at d = placed_at d.name (spaced (law.definitions source.text.now source.tokens.now d))

  declared-idle : (d : law.Changed) → has_monitors d ≡ false → declared_at d ≡ []
  declared-idle d e = ap (λ (ms : List Name). placed_at d.name (spaced (declared (law.binders source.text.now source.tokens.now d) ms))) (no-monitors d.watched.monitors e)

  defined-idle : (d : law.Changed) → has_monitors d ≡ false → defined_at d ≡ []
  defined-idle d e =
      let binders = law.binders source.text.now source.tokens.now d in
      let read = law.phrase source.text.now source.tokens.now d in
      ap (λ (ms : List Name). placed_at d.name (spaced (defined binders ms read))) (no-monitors d.watched.monitors e)
      ∙ ap (λ (l : List (Name × Pieces)). placed_at d.name (spaced (flat_map (defining binders) l))) (undefined (names_in binders) outset read)

  declared-is : (cs : List Changed) → all_declared source cs ≡ flat_map declared_at (changes_of cs)
  declared-is [] = refl
  declared-is (c ∷ cs) = ap (λ (l : Placed). declared_at (change_of c) ++ l) (declared-is cs)

  defined-is : (cs : List Changed) → all_defined source cs ≡ flat_map defined_at (changes_of cs)
  defined-is [] = refl
  defined-is (c ∷ cs) = ap (λ (l : Placed). defined_at (change_of c) ++ l) (defined-is cs)

  pub edits-are : (cs : List Changed) → edits_of source cs ≡ map (claim_edit source.text.now source.tokens.now) (changes_of cs)
  edits-are [] = refl
  edits-are (c ∷ cs) = ap (λ (l : List Edit). edit_of source c ∷ l) (edits-are cs)

  -- the edit before the closing brace, where some have monitors
  pub layer-some : (layer : Name) (at : ℕ) (cs : List Changed) (name : ℕ) → first_watched (changes_of cs) ≡ Some name → layer_edits source layer at cs ≡ edit_there at (monitors_from source layer cs name) ∷ []
  layer-some layer at cs name e =
      let text = source.text.now in
      let ts = source.tokens.now in
      let ds = changes_of cs in
      let h = first-is ds name e in
      let head : ℕ → Placed = λ n. placed_at n (spaced (codes "layer" ∷ layer ∷ codes ":" ∷ codes "{" ∷ [])) in
      let tail : ℕ → Placed = λ n. placed_at n (spaced (codes "}" ∷ []) ++ codes " ") in
      let defs : flat_map defined_at (h.first ∷ h.others) ≡ all_defined source cs = ap (λ (l : List law.Changed). flat_map defined_at l) (sym h.are) ∙ of-watched defined_at defined-idle ds ∙ sym (defined-is cs) in
      let decs : flat_map declared_at (h.first ∷ h.others) ≡ all_declared source cs = ap (λ (l : List law.Changed). flat_map declared_at l) (sym h.are) ∙ of-watched declared_at declared-idle ds ∙ sym (declared-is cs) in
      ap (λ (l : List law.Changed). monitors_edit text ts layer at l) h.are
      ∙ ap (λ (n : ℕ). edit_there at (flat_map declared_at (h.first ∷ h.others) ++ (head n ++ (flat_map defined_at (h.first ∷ h.others) ++ tail n))) ∷ []) h.named
      ∙ ap (λ (l : Placed). edit_there at (l ++ (head name ++ (flat_map defined_at (h.first ∷ h.others) ++ tail name))) ∷ []) decs
      ∙ ap (λ (l : Placed). edit_there at (all_declared source cs ++ (head name ++ (l ++ tail name))) ∷ []) defs

  pub layer-none : (layer : Name) (at from : ℕ) (old : Placed) (cs : List Changed) → first_watched (changes_of cs) ≡ None → GoesOn source.text.now (layer_edits source layer at cs) from old from old
  layer-none layer at from old cs e more =
      ap (λ (l : List law.Changed). old ++ edited source.text.now from (monitors_edit source.text.now source.tokens.now layer at l ++ more)) (sym (none-watched (changes_of cs) e))

  -- the edits of a module
  pub module-edits : (plan : List (ℕ × monitors.Watched)) (layer : Name) (items : List Item) (tops : List Top) (cs : List Changed) (at : ℕ) → changes_of cs ≡ flat_map (changed_in plan []) items →
      at ≡ closing source.tokens.now tops → edits_of source cs ++ layer_edits source layer at cs ≡ edits_in source plan layer items tops
  module-edits plan layer items tops cs at c a =
      let text = source.text.now in
      let ts = source.tokens.now in
      ap (λ (es : List Edit). es ++ layer_edits source layer at cs) (edits-are cs)
      ∙ ap (λ (ds : List law.Changed). module_edits text ts plan layer ds at) c ∙ ap (λ (k : ℕ). module_edits text ts plan layer (flat_map (changed_in plan []) items) k) a

-- ---- the tops

pub edits-more : (source : Source) (plan : List (ℕ × monitors.Watched)) (layer : Name) (top : Top) (tops : List Top) →
    edits source.text.now source.tokens.now plan layer (top ∷ tops) ≡ edits_at source plan layer top tops ++ edits source.text.now source.tokens.now plan layer tops
edits-more source plan layer (SetType word ordered span at) tops = refl
edits-more source plan layer (Alias word of at) tops = refl
edits-more source plan layer (Module word formals items at) tops = refl

module _ (source : Source) (plan : List (ℕ × monitors.Watched)) (layer : Name) (tops : List Top) (n from : ℕ) (now : Placed) where
  abbrev those : List Top → List Edit
  those more = edits source.text.now source.tokens.now plan layer more

  module _ (told : now ++ edited source.text.now from (those (drop n tops)) ≡ edited source.text.now 0 (those tops)) where
    module _ (top : Top) (lt : n < length tops) (is : top ≡ get_or tops n top) (behind : List Top) (left : behind ≡ drop (n + 1) tops) where
      one-top : now ++ edited source.text.now from (edits_at source plan layer top behind ++ those behind) ≡ edited source.text.now 0 (those tops)
      one-top =
          ap (λ (es : List Edit). now ++ edited source.text.now from es) (sym (edits-more source plan layer top behind) ∙ ap (λ (more : List Top). those (top ∷ more)) left ∙ sym (at_drop_more those tops n top lt ∙ ap (λ (x : Top). those (x ∷ drop (n + 1) tops)) (sym is))) ∙ told

      pub tops-more : (to : ℕ) (new : Placed) → GoesOn source.text.now (edits_at source plan layer top behind) from now to new → new ++ edited source.text.now to (those (drop (n + 1) tops)) ≡ edited source.text.now 0 (those tops)
      tops-more to new goes = ap (λ (more : List Top). new ++ edited source.text.now to (those more)) (sym left) ∙ goes (those behind) ∙ one-top

      pub tops-over : (f : Fault) → IsTooLongWith source.text.now (edits_at source plan layer top behind) from now f → IsTooLong (edited source.text.now 0 (those tops)) f
      tops-over f h = over-same (now ++ edited source.text.now from (edits_at source plan layer top behind ++ those behind)) (edited source.text.now 0 (those tops)) f one-top (h (those behind))

    pub rest-is : length tops ≤ n → now ++ placed_from from (between source.text.now from (length source.text.now)) ≡ edited source.text.now 0 (those tops)
    rest-is le =
        ap (λ (l : List ℕ). now ++ placed_from from l) (between-end source.text.now from) ∙ ap (λ (more : List Top). now ++ edited source.text.now from (those more)) (sym (drop_all n tops le)) ∙ told
