-- The tables of a text, from what was noted of it.
use Rattle.std.proofs.Common.{◌≡◌, ℕ, ◌+◌, ◌-◌, ◌<◌, ◌≤◌, drop, List, [], ◌∷◌, ◌++◌, length, map, take, get_or, length-append, refl, ap, sym, ◌∙◌, arith, Bor}
use Rattle.std.specs.Prelude.{Option}
use Rattle.std.specs.List.{flat_map}
use Rattle.std.specs.HashMap.{HashMap, get}
use Rattle.std.proofs.lemmas.List.{append-nil, map-append, length-map, length-take-le, take_more}
use Rattle.std.proofs.lemmas.List.Folds.{flat_map-map}
use Rattle.std.proofs.lemmas.Simd.{map-map}
use Rattle.law_lists.proofs.Places.{drop_past}
use Rattle.smv_core.specs.Values.{Name, Path}
use Rattle.smv_core.specs.Types.{Family}
use Rattle.smv_core.specs.FlatOrder as order
use Rattle.smv_core.specs.Outcome.{same_path}
use Rattle.smv_core.specs.declared.tree.Word.{Word}
use Rattle.smv_core.specs.declared.tree.Text.{Text}
use Rattle.smv_core.specs.declared.tree.Top.{Top}
use Rattle.smv_core.specs.declared.tree.Top.TheVariants.{SetType, Alias, Module}
use Rattle.smv_core.specs.declared.flat.Family.{Family as FlatFamily}
use Rattle.smv_mentions.specs.declared.pieces.Piece.{Piece as NotedPiece}
use Rattle.smv_mentions.specs.Mentions.{Mention}
use Rattle.smv_mentions.specs.Scopes.{Known, piece_of, known_after, pieces_from}
use Rattle.smv_mentions.specs.Said.{said, told, told_by, AreNoted}
use Rattle.law_designs.specs.Flattening.{set_of, enum_of, enums_of, different, flat_family, scope_in, dot, dotted}
use Rattle.law_designs.specs.Entries.{placed_in, placed_families}
use Rattle.smv_flatten_families.specs.Paths.{path_of, first_place, found_or}
use Rattle.smv_flatten_families.specs.Simples.{numbering}
use Rattle.smv_flatten_families.specs.Types.{types_of}
use Rattle.smv_flatten_families.specs.Families.{InPlace, in_place, placed_family, written, instance_places}
use Rattle.smv_flatten_families.specs.declared.families.Placed.{Placed}
use Rattle.smv_flatten_families.proofs.PathLaws.{first_place-push}

-- ---- names with dots between them

pub dotted-first : (name : Name) (names : List (Bor Name)) → name ++ flat_map (λ name. dot ∷ name.now) names ≡ dotted (name ∷ path_of names)
dotted-first name [] = append-nil name
dotted-first name (other ∷ names) = ap (λ l. name ++ dot ∷ l) (dotted-first other.now names)

-- where all names were gone through
pub dotted-done : (names : List (Bor Name)) (first : Bor Name) (more : List (Bor Name)) (i : ℕ) (done front : Name) → 1 ≤ length names → first ≡ get_or names 0 first → front ≡ first.now → more ≡ drop 1 names → length more ≤ i
    → done ++ flat_map (λ name. dot ∷ name.now) (drop i more) ≡ front ++ flat_map (λ name. dot ∷ name.now) more → done ≡ dotted (path_of names)
dotted-done [] first more i done front long is same rest all known = absurd (omega (arith, long))
dotted-done (name ∷ names) first more i done front long is same rest all known =
    sym (append-nil done) ∙ ap (λ l. done ++ flat_map (λ name. dot ∷ name.now) l) (sym (drop_past more i all)) ∙ known ∙ ap (λ n. n ++ flat_map (λ name. dot ∷ name.now) more) (same ∙ ap (λ (b : Bor Name). b.now) is)
    ∙ ap (λ l. name.now ++ flat_map (λ name. dot ∷ name.now) l) rest ∙ dotted-first name.now names

pub ruleset dots = (dotted-first)

-- ---- enumerations

abbrev Told : Type 0
Told = Word × Option (List Word) × List Mention

noted-lists : (noted : List NotedPiece)
    → flat_map (λ piece. flat_map (λ mention. enum_of (said mention)) piece.mentions.items) noted ≡ flat_map (λ (t : Told). flat_map enum_of t.2) (map told noted)
noted-lists [] = refl
noted-lists (piece ∷ noted) =
    ap (λ l. l ++ flat_map (λ piece. flat_map (λ mention. enum_of (said mention)) piece.mentions.items) noted) (sym (flat_map-map enum_of said piece.mentions.items))
    ∙ ap (λ l. flat_map enum_of (map said piece.mentions.items) ++ l) (noted-lists noted)

mentions-of : (known : Known) (top : Top) → flat_map enum_of (piece_of known top).mentions ≡ flat_map enum_of (told_by top).2
mentions-of known (SetType word ordered span at) = refl
mentions-of known (Alias word of at) = refl
mentions-of known (Module word formals body at) = refl

told-lists : (known : Known) (tops : List Top) → flat_map (λ piece. flat_map enum_of piece.mentions) (pieces_from known tops) ≡ flat_map (λ (t : Told). flat_map enum_of t.2) (map told_by tops)
told-lists known [] = refl
told-lists known (top ∷ tops) =
    ap (λ l. l ++ flat_map (λ piece. flat_map enum_of piece.mentions) (pieces_from (known_after known top) tops)) (mentions-of known top)
    ∙ ap (λ l. flat_map enum_of (told_by top).2 ++ l) (told-lists (known_after known top) tops)

-- the different ones of the lists that were noted are the enumerations
pub enums-are : (text : Text) (noted : List NotedPiece) (lists : List (List Name)) → AreNoted noted text
    → lists ≡ flat_map (λ piece. flat_map (λ mention. enum_of (said mention)) piece.mentions.items) noted → different same_path lists ≡ enums_of text
enums-are text noted lists are same =
    ap (different same_path) (same ∙ noted-lists noted ∙ ap (flat_map (λ (t : Told). flat_map enum_of t.2)) are ∙ sym (told-lists [] text.tops))

-- ---- families

abbrev pub path-held : Placed → Path
path-held placed = (in_place placed).path

-- one more path has its place
pub place-push : {S : Type 0} (all : List Placed) (k : ℕ) (placed : Placed) (names : Path) (m m' : HashMap Path ℕ S) → k < length all → placed ≡ get_or all k placed → names ≡ path_of placed.names.items
    → ((path : Path) → get same_path m path ≡ first_place (map (λ placed. (in_place placed).path) (take k all)) path)
    → ((other : Path) → get same_path m' other ≡ found_or (get same_path m other) (same_path names other) k)
    → (path : Path) → get same_path m' path ≡ first_place (map (λ placed. (in_place placed).path) (take (k + 1) all)) path
place-push all k placed names m m' within here is known noted path =
    let paths = map path-held (take k all) in
    let long : length paths ≡ k = length-map (take k all) path-held ∙ length-take-le k all (omega (arith, within)) in
    let more : map path-held (take (k + 1) all) ≡ paths ++ names ∷ [] =
    ap (map path-held) (take_more all k placed within) ∙ map-append path-held (take k all) (get_or all k placed ∷ []) ∙ ap (λ p. paths ++ path-held p ∷ []) (sym here) ∙ ap (λ n. paths ++ n ∷ []) (sym is) in
    noted path ∙ ap (λ o. found_or o (same_path names path) k) (known path) ∙ ap (found_or (first_place paths path) (same_path names path)) (sym long)
    ∙ sym (first_place-push paths names path) ∙ ap (λ l. first_place l path) (sym more)

module _ (text : Text) (all : List Placed) (count : ℕ) (same : map in_place all ≡ instance_places text count [] order.main) (long : count ≡ length (order.modules text.tops)) where
  in-place-are : map in_place all ≡ map (placed_family text) (placed_families text)
  unfolding instance_places
  in-place-are = same ∙ ap (λ n. map (placed_family text) (placed_in (types_of text) (order.modules text.tops) n [] order.main)) long

  written-of : (l : List (Family × ℕ)) → map written (map (placed_family text) l) ≡ map (flat_family (scope_in text [])) l
  unfolding numbering
  written-of [] = refl
  written-of (placed ∷ l) = ap (λ m. flat_family (scope_in text []) placed ∷ m) (written-of l)

  pub families-are : (families : List FlatFamily) → families ≡ map (λ placed. written (in_place placed)) all → families ≡ map (flat_family (scope_in text [])) (placed_families text)
  families-are families is = is ∙ sym (map-map written in_place all) ∙ ap (map written) in-place-are ∙ written-of (placed_families text)

  pub paths-are : map (λ placed. (in_place placed).path) all ≡ map (λ placed. placed.0.path) (placed_families text)
  paths-are = sym (map-map (λ (p : InPlace). p.path) in_place all) ∙ ap (map (λ (p : InPlace). p.path)) in-place-are ∙ map-map (λ (p : InPlace). p.path) (placed_family text) (placed_families text)

-- ---- set types

pub sets-step : (top : Top) (tops : List Top) → length (flat_map set_of (top ∷ tops)) ≡ length (set_of top) + length (flat_map set_of tops)
sets-step top tops = length-append (set_of top) (flat_map set_of tops)

pub ruleset set_steps = (sets-step)
