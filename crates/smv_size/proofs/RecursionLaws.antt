-- The graph of the modules says which of them contain themselves.
use Rattle.std.proofs.Common.{◌≡◌, ℕ, zero, suc, ◌<◌, Option, Bool, true, false, cond, ◌||◌, ◌&&◌, List, [], ◌∷◌, ◌++◌, map, length, get_or, refl, ap, sym, subst, ◌∙◌, arith}
use Rattle.std.specs.Prelude.{Some, None, flat_map, min, nat_eq, nat_lt, is_some, option_map, option_and_then, slice_get}
use Rattle.std.specs.List.{filter_map, cons_option, list_any}
use Rattle.std.specs.Str.{bytes_eq}
use Rattle.std.proofs.lemmas.Bool.{false≢true}
use Rattle.std.proofs.lemmas.Bool.Decides.{nat_tests}
use Rattle.std.proofs.lemmas.Slice.Eq.{bytes_eq-Decides}
use Rattle.name_index.specs.Position.{position}
use Rattle.name_index.proofs.Finding.{position-within, find_name-place}
use Rattle.graphs.specs.Graph.{reaches, next, IsGraph}
use Rattle.smv_core.specs.Values.{Name}
use Rattle.smv_core.specs.declared.fault.Fault.{Fault}
use Rattle.smv_core.specs.declared.tree.Word.{Word}
use Rattle.smv_core.specs.declared.tree.Text.{Text}
use Rattle.smv_core.specs.declared.tree.Top.{Top}
use Rattle.smv_core.specs.declared.tree.Top.TheVariants.{SetType, Alias, Module}
use Rattle.smv_mentions.specs.Mentions.{Mention, declares, binds, follows, names_type, lists_constants, has_fields, instantiates, first_place}
use Rattle.smv_mentions.specs.Scopes.{Known, known_after, Piece, piece_of, pieces_from, pieces, body_if_module, module_named}
use Rattle.smv_mentions.specs.NameFaults.{used_in, used_if_module, contains, recursive, recursive_in, place_if}
use Rattle.smv_mentions.specs.FirstFault.{comes_before, earlier, first_of, faults_at}
use Rattle.smv_mentions.specs.Said.{told_by}
use Rattle.smv_size.specs.Recursion.{first_recursion, recursion_at, least_from, Told, names_told, places_used, module_graph, leads_back, recursive_at, recursive_told, least_recursive}

-- ---- places of names

pub bytes_eq-is : (a b : Name) → bytes_eq a b ≡ true → a ≡ b
bytes_eq-is a b e = (bytes_eq-Decides a b).0 e

pub bytes_eq-same : (a b : Name) → a ≡ b → bytes_eq a b ≡ true
bytes_eq-same a b e = (bytes_eq-Decides a b).1 e

bytes_eq-other : (a b : Name) → (bytes_eq a b ≡ true → ⊥) → bytes_eq a b ≡ false
bytes_eq-other a b other = by (bytes_eq a b) refl
  where
    by : (t : Bool) → bytes_eq a b ≡ t → bytes_eq a b ≡ false
    by true e = absurd (other e)
    by false e = e

-- the place is this one
abbrev is_place : Option ℕ → ℕ → Bool
is_place None place = false
is_place (Some other) place = nat_eq other place

is_place-suc : (o : Option ℕ) (t : ℕ) → is_place (option_map suc o) (suc t) ≡ is_place o t
is_place-suc None t = refl
is_place-suc (Some j) t = grind (arith, nat_tests)

is_place-zero : (o : Option ℕ) → is_place (option_map suc o) 0 ≡ false
is_place-zero None = refl
is_place-zero (Some j) = grind (arith, nat_tests)

-- two names are the same where their places are
same_place : (names : List Name) (a b : Name) (t : ℕ) → position names b ≡ Some t → bytes_eq a b ≡ is_place (position names a) t
same_place [] a b t e = cc
same_place (x ∷ names) a b t e = by (bytes_eq x a) (bytes_eq x b) refl refl (position names b) refl (same_place names a b) e
  where
    by : (p q : Bool) → bytes_eq x a ≡ p → bytes_eq x b ≡ q → (o : Option ℕ) → position names b ≡ o → ((s : ℕ) → position names b ≡ Some s → bytes_eq a b ≡ is_place (position names a) s)
        → cond q (Some 0) (option_map suc o) ≡ Some t → bytes_eq a b ≡ is_place (cond p (Some 0) (option_map suc (position names a))) t
    by true true is_a is_b o at rest e =
        let first : 0 ≡ t = cc in
        subst (λ s. bytes_eq a b ≡ nat_eq 0 s) first (bytes_eq-same a b (sym (bytes_eq-is x a is_a) ∙ bytes_eq-is x b is_b))
    by true false is_a is_b None at rest e = cc
    by true false is_a is_b (Some s) at rest e =
        let later : suc s ≡ t = cc in
        let differ : bytes_eq a b ≡ false = bytes_eq-other a b (λ same. false≢true (sym is_b ∙ bytes_eq-same x b (bytes_eq-is x a is_a ∙ bytes_eq-is a b same))) in
        subst (λ k. bytes_eq a b ≡ nat_eq 0 k) later (differ ∙ (grind (arith, nat_tests)))
    by false true is_a is_b o at rest e =
        let first : 0 ≡ t = cc in
        let differ : bytes_eq a b ≡ false = bytes_eq-other a b (λ same. false≢true (sym is_a ∙ bytes_eq-same x a (bytes_eq-is x b is_b ∙ sym (bytes_eq-is a b same)))) in
        subst (λ k. bytes_eq a b ≡ is_place (option_map suc (position names a)) k) first (differ ∙ sym (is_place-zero (position names a)))
    by false false is_a is_b None at rest e = cc
    by false false is_a is_b (Some s) at rest e =
        let later : suc s ≡ t = cc in
        subst (λ k. bytes_eq a b ≡ is_place (option_map suc (position names a)) k) later (rest s at ∙ sym (is_place-suc (position names a) s))

-- ---- tops

abbrev pub tell : Piece → Told
tell piece = (piece.word, piece.formals, piece.mentions)

tell_of : (known : Known) (top : Top) → tell (piece_of known top) ≡ told_by top
tell_of known (SetType word ordered span at) = refl
tell_of known (Alias word of at) = refl
tell_of known (Module word formals body at) = refl

pub tell_all : (known : Known) (tops : List Top) → map tell (pieces_from known tops) ≡ map told_by tops
tell_all known [] = refl
tell_all known (top ∷ tops) = let e = tell_of known top in let f = tell_all (known_after known top) tops in cc

names_tell : (tops : List Piece) → names_told (map tell tops) ≡ map (λ (piece : Piece). piece.word.name) tops
names_tell [] = refl
names_tell (top ∷ tops) = ap (λ l. top.word.name ∷ l) (names_tell tops)

-- ---- the graph

-- an edge leads to a top
within-places : (names used : List Name) (i : ℕ) → i < length (filter_map (position names) used) → get_or (filter_map (position names) used) i 0 < length names
within-places names [] i h = absurd (omega arith)
within-places names (x ∷ used) i h = by (position names x) refl i h (within-places names used)
  where
    by : (o : Option ℕ) → position names x ≡ o → (i : ℕ) → i < length (cons_option o (filter_map (position names) used))
        → ((i : ℕ) → i < length (filter_map (position names) used) → get_or (filter_map (position names) used) i 0 < length names)
        → get_or (cons_option o (filter_map (position names) used)) i 0 < length names
    by None at i h rest = rest i h
    by (Some k) at zero h rest = position-within names x k at
    by (Some k) at (suc i) h rest = rest i (omega arith)

within-used : (names : List Name) (top : Told) (i : ℕ) → i < length (places_used names top) → get_or (places_used names top) i 0 < length names
within-used names (word, None, mentions) i h = absurd (omega arith)
within-used names (word, Some formals, mentions) i h = within-places names (used_in mentions) i h

within-graph : (names : List Name) (tops : List Told) (node i : ℕ) → i < length (next (module_graph names tops) node) → get_or (next (module_graph names tops) node) i 0 < length names
within-graph names [] node i h = absurd (omega arith)
within-graph names (top ∷ tops) zero i h = within-used names top i h
within-graph names (top ∷ tops) (suc node) i h = within-graph names tops node i h

length-graph : (names : List Name) (tops : List Told) → length (module_graph names tops) ≡ length tops
length-graph names [] = refl
length-graph names (top ∷ tops) = ap suc (length-graph names tops)

length-names : (tops : List Told) → length (names_told tops) ≡ length tops
length-names [] = refl
length-names (top ∷ tops) = ap suc (length-names tops)

pub graph_holds : (tops : List Told) → IsGraph (module_graph (names_told tops) tops)
graph_holds tops node i h = omega (arith, within-graph (names_told tops) tops node i h, length-graph (names_told tops) tops, length-names tops)

pub graph_long : (tops : List Told) → length (names_told tops) ≡ length (module_graph (names_told tops) tops)
graph_long tops = length-names tops ∙ sym (length-graph (names_told tops) tops)

-- ---- what a module contains

-- the edges of a top are those of its module
edges-used : (names : List Name) (tops : List Piece) (j : ℕ)
    → next (module_graph names (map tell tops)) j ≡ filter_map (position names) (used_if_module (body_if_module (option_map (λ piece. piece) (slice_get tops j))))
edges-used names [] j = refl
edges-used names (top ∷ tops) zero = by top.formals
  where
    by : (formals : Option (List Word)) → places_used names (top.word, formals, top.mentions) ≡ filter_map (position names) (used_if_module (option_map (λ formals. record { formals = formals; known = top.known; mentions = top.mentions }) formals))
    by None = refl
    by (Some formals) = refl
edges-used names (top ∷ tops) (suc j) = edges-used names tops j

-- what is found among names is found among their places
any-places : (names : List Name) (p : Name → Bool) (r : ℕ → Bool) (used : List Name) → ((x : Name) → position names x ≡ None → p x ≡ false) → ((x : Name) (k : ℕ) → position names x ≡ Some k → p x ≡ r k)
    → list_any p used ≡ list_any r (filter_map (position names) used)
any-places names p r [] none some = refl
any-places names p r (x ∷ used) none some = by (position names x) refl (any-places names p r used none some)
  where
    by : (o : Option ℕ) → position names x ≡ o → list_any p used ≡ list_any r (filter_map (position names) used) → p x || list_any p used ≡ list_any r (cons_option o (filter_map (position names) used))
    by None at rest = ap (λ b. b || list_any p used) (none x at) ∙ rest
    by (Some k) at rest = ap (λ b. b || list_any p used) (some x k at) ∙ ap (λ b. r k || b) rest

module _ (tops : List Piece) (target : Name) (t : ℕ) (at : position (map (λ (piece : Piece). piece.word.name) tops) target ≡ Some t) where
  abbrev top_names : List Name
  top_names = map (λ (piece : Piece). piece.word.name) tops

  abbrev graph : List (List ℕ)
  graph = module_graph top_names (map tell tops)

  module_at : (name : Name) (o : Option ℕ) → position top_names name ≡ o → used_if_module (module_named tops name) ≡ used_if_module (body_if_module (option_and_then (λ i. option_map (λ piece. piece) (slice_get tops i)) o))
  module_at name o e = ap (λ p. used_if_module (body_if_module p)) (find_name-place (λ (piece : Piece). piece.word.name) (λ piece. piece) tops name ∙ ap (λ o. option_and_then (λ i. option_map (λ piece. piece) (slice_get tops i)) o) e)

  contains-none : (n : ℕ) (name : Name) → position top_names name ≡ None → contains tops n target name ≡ false
  contains-none zero name e = same_place top_names name target t at ∙ ap (λ o. is_place o t) e
  contains-none (suc n) name e =
      let other : bytes_eq name target ≡ false = same_place top_names name target t at ∙ ap (λ o. is_place o t) e in
      let nothing : used_if_module (module_named tops name) ≡ [] = module_at name None e in
      ap (λ b. b || list_any (contains tops n target) (used_if_module (module_named tops name))) other ∙ ap (λ l. list_any (contains tops n target) l) nothing

  contains-some : (n : ℕ) (name : Name) (j : ℕ) → position top_names name ≡ Some j → contains tops n target name ≡ reaches graph n t j
  contains-some zero name j e = same_place top_names name target t at ∙ ap (λ o. is_place o t) e
  contains-some (suc n) name j e =
      let same : bytes_eq name target ≡ nat_eq j t = same_place top_names name target t at ∙ ap (λ o. is_place o t) e in
      let used : used_if_module (module_named tops name) ≡ used_if_module (body_if_module (option_map (λ piece. piece) (slice_get tops j))) = module_at name (Some j) e in
      let here = used_if_module (body_if_module (option_map (λ piece. piece) (slice_get tops j))) in
      let inner : list_any (contains tops n target) here ≡ list_any (reaches graph n t) (filter_map (position top_names) here) = any-places top_names (contains tops n target) (reaches graph n t) here (contains-none n) (λ x k f. contains-some n x k f) in
      ap (λ b. b || list_any (contains tops n target) (used_if_module (module_named tops name))) same
      ∙ ap (λ l. nat_eq j t || list_any (contains tops n target) l) used
      ∙ ap (λ b. nat_eq j t || b) inner
      ∙ ap (λ l. nat_eq j t || list_any (reaches graph n t) l) (sym (edges-used top_names tops j))

  contains-at : (name : Name) (o : Option ℕ) → position top_names name ≡ o → contains tops (length tops) target name ≡ leads_back graph (Some t) o
  contains-at name None e = contains-none (length tops) name e
  contains-at name (Some j) e =
      let long : length tops ≡ length graph = sym (length-graph top_names (map tell tops) ∙ length-tell tops) in
      contains-some (length tops) name j e ∙ ap (λ n. reaches graph n t j) long
    where
      length-tell : (tops : List Piece) → length (map tell tops) ≡ length tops
      length-tell [] = refl
      length-tell (top ∷ tops) = ap suc (length-tell tops)

  recursive-at : (mention : Mention) → recursive tops target mention ≡ recursive_at top_names graph (Some t) mention
  recursive-at (instantiates word args) = ap (λ b. place_if b word.at) (contains-at word.name (position top_names word.name) refl)
  recursive-at (declares word what) = refl
  recursive-at (binds around var) = refl
  recursive-at (follows around parts) = refl
  recursive-at (names_type word) = refl
  recursive-at (lists_constants words) = refl
  recursive-at (has_fields words) = refl

  recursive-all : (mentions : List Mention) → flat_map (recursive tops target) mentions ≡ flat_map (recursive_at top_names graph (Some t)) mentions
  recursive-all [] = refl
  recursive-all (mention ∷ mentions) = ap (λ l. l ++ flat_map (recursive tops target) mentions) (recursive-at mention) ∙ ap (λ l. recursive_at top_names graph (Some t) mention ++ l) (recursive-all mentions)

-- these tops are among those of these names
AreKnown : List Name → List Piece → Type 0
AreKnown names [] = Unit {0}
AreKnown names (top ∷ tops) = (is_some (position names top.word.name) ≡ true) × AreKnown names tops

known-more : (x : Name) (names : List Name) (tops : List Piece) → AreKnown names tops → AreKnown (x ∷ names) tops
unfolding AreKnown
known-more x names [] k = tt
known-more x names (top ∷ tops) k = (by (bytes_eq x top.word.name) (position names top.word.name) k.0, known-more x names tops k.1)
  where
    by : (b : Bool) (o : Option ℕ) → is_some o ≡ true → is_some (cond b (Some 0) (option_map suc o)) ≡ true
    by true o e = refl
    by false None e = e
    by false (Some j) e = refl

known-all : (tops : List Piece) → AreKnown (map (λ (piece : Piece). piece.word.name) tops) tops
unfolding AreKnown
known-all [] = tt
known-all (top ∷ tops) =
    let same : bytes_eq top.word.name top.word.name ≡ true = bytes_eq-same top.word.name top.word.name refl in (
      ap (λ b. is_some (cond b (Some 0) (option_map suc (position (map (λ (piece : Piece). piece.word.name) tops) top.word.name)))) same,
      known-more top.word.name (map (λ (piece : Piece). piece.word.name) tops) tops (known-all tops),
    )

recursive_in-told : (all tops : List Piece) → AreKnown (map (λ (piece : Piece). piece.word.name) all) tops
    → flat_map (recursive_in all) tops ≡ flat_map (recursive_told (map (λ (piece : Piece). piece.word.name) all) (module_graph (map (λ (piece : Piece). piece.word.name) all) (map tell all))) (map tell tops)
unfolding AreKnown
recursive_in-told all [] k = refl
recursive_in-told all (top ∷ tops) k = by (position (map (λ (piece : Piece). piece.word.name) all) top.word.name) refl k.0 (recursive_in-told all tops k.1)
  where
    by : (o : Option ℕ) → position (map (λ (piece : Piece). piece.word.name) all) top.word.name ≡ o → is_some o ≡ true
        → flat_map (recursive_in all) tops ≡ flat_map (recursive_told (map (λ (piece : Piece). piece.word.name) all) (module_graph (map (λ (piece : Piece). piece.word.name) all) (map tell all))) (map tell tops)
        → flat_map (recursive all top.word.name) top.mentions ++ flat_map (recursive_in all) tops
        ≡ flat_map (recursive_at (map (λ (piece : Piece). piece.word.name) all) (module_graph (map (λ (piece : Piece). piece.word.name) all) (map tell all)) (position (map (λ (piece : Piece). piece.word.name) all) top.word.name)) top.mentions
        ++ flat_map (recursive_told (map (λ (piece : Piece). piece.word.name) all) (module_graph (map (λ (piece : Piece). piece.word.name) all) (map tell all))) (map tell tops)
    by None e none rest = absurd (false≢true none)
    by (Some t) e some rest =
        let ns = map (λ (piece : Piece). piece.word.name) all in
        let g = module_graph ns (map tell all) in
        let here : flat_map (recursive all top.word.name) top.mentions ≡ flat_map (recursive_at ns g (Some t)) top.mentions = recursive-all all top.word.name t e top.mentions in
        let there : flat_map (recursive_at ns g (Some t)) top.mentions ≡ flat_map (recursive_at ns g (position ns top.word.name)) top.mentions = ap (λ o. flat_map (recursive_at ns g o) top.mentions) (sym e) in
        ap (λ l. l ++ flat_map (recursive_in all) tops) (here ∙ there) ∙ ap (λ l. flat_map (recursive_at ns g (position ns top.word.name)) top.mentions ++ l) rest

-- ---- the first

-- the least of some places
least : List ℕ → Option ℕ
least [] = None
least (at ∷ more) = Some (first_place at (least more))

either : Option ℕ → Option ℕ → Option ℕ
either None other = other
either (Some at) other = Some (first_place at other)

either-more : (first : Option ℕ) (at : ℕ) (other : Option ℕ) → either (Some (first_place at first)) other ≡ either first (Some (first_place at other))
unfolding either
either-more None at other = refl
either-more (Some first) at None = let h : min at first ≡ min first at = omega arith in ap Some h
either-more (Some first) at (Some other) = let h : min (min at first) other ≡ min first (min at other) = omega arith in ap Some h

either-end : (first : Option ℕ) → first ≡ either first None
unfolding either
either-end None = refl
either-end (Some at) = refl

either-none : (other : Option ℕ) → either None other ≡ other
unfolding either
either-none other = refl

least_from-either : (first : Option ℕ) (places : List ℕ) → least_from first places ≡ either first (least places)
unfolding least
least_from-either first [] = either-end first
least_from-either first (at ∷ more) = least_from-either (Some (first_place at first)) more ∙ either-more first at (least more)

abbrev fault : ℕ → Fault
fault at = record { number = 10; at = at }

never : (t : Bool) → t && nat_lt 10 10 ≡ false
never true = refl
never false = refl

earlier-least : (at : ℕ) (o : Option ℕ) → earlier (fault at) (recursion_at o) ≡ recursion_at (Some (first_place at o))
earlier-least at None = refl
earlier-least at (Some other) = by (nat_lt other at) refl
  where
    by : (b : Bool) → nat_lt other at ≡ b → cond (comes_before (fault other) (fault at)) (Some (fault other)) (Some (fault at)) ≡ recursion_at (Some (min at other))
    by true e =
        let first : comes_before (fault other) (fault at) ≡ true = ap (λ t. t || nat_eq other at && nat_lt 10 10) e in
        let least : other ≡ min at other = grind (arith, nat_tests) in
        ap (λ t. cond t (Some (fault other)) (Some (fault at))) first ∙ ap (λ a. Some (fault a)) least
    by false e =
        let later : comes_before (fault other) (fault at) ≡ false = ap (λ t. t || nat_eq other at && nat_lt 10 10) e ∙ never (nat_eq other at) in
        let least : at ≡ min at other = grind (arith, nat_tests) in
        ap (λ t. cond t (Some (fault other)) (Some (fault at))) later ∙ ap (λ a. Some (fault a)) least

first_of-least : (places : List ℕ) → first_of (faults_at (10, places)) ≡ recursion_at (least places)
unfolding least
first_of-least [] = refl
first_of-least (at ∷ more) = ap (earlier (fault at)) (first_of-least more) ∙ earlier-least at (least more)

pub first_of-least_from : (places : List ℕ) → first_of (faults_at (10, places)) ≡ recursion_at (least_from None places)
first_of-least_from places = first_of-least places ∙ ap recursion_at (sym (least_from-either None places ∙ either-none (least places)))

-- the fault at the least place is the first fault
pub least_is_first : (tops : List Told) (text : Text) → tops ≡ map told_by text.tops → recursion_at (least_recursive tops) ≡ first_recursion text
least_is_first tops text e =
    let all = pieces text in
    let told : map tell all ≡ tops = tell_all [] text.tops ∙ sym e in
    let places : flat_map (recursive_in all) all ≡ flat_map (recursive_told (map (λ (piece : Piece). piece.word.name) all) (module_graph (map (λ (piece : Piece). piece.word.name) all) (map tell all))) (map tell all) = recursive_in-told all all (known-all all) in
    let names : flat_map (recursive_told (map (λ (piece : Piece). piece.word.name) all) (module_graph (map (λ (piece : Piece). piece.word.name) all) (map tell all))) (map tell all) ≡ flat_map (recursive_told (names_told (map tell all)) (module_graph (names_told (map tell all)) (map tell all))) (map tell all)
    = ap (λ ns. flat_map (recursive_told ns (module_graph ns (map tell all))) (map tell all)) (sym (names_tell all)) in
    sym (first_of-least_from (flat_map (recursive_in all) all) ∙ ap (λ l. recursion_at (least_from None l)) (places ∙ names) ∙ ap (λ ts. recursion_at (least_recursive ts)) told)
