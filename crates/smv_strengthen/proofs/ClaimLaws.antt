-- The claims of a name: on items that are made of lists and values, and among all claims.
use Rattle.std.proofs.Common.{◌≡◌, ℕ, List, [], ◌∷◌, ◌++◌, map, filter, Bool, true, false, cond, if◌then◌else◌, Option, Some, None, refl, ap, ◌∙◌}
use Rattle.std.specs.List.{flat_map}
use Rattle.std.specs.Option.{option_or}
use Rattle.std.specs.Str.{bytes_eq}
use Rattle.std.proofs.lemmas.List.{append-nil, map-append}
use Rattle.smv_core.specs.Values.{Name}
use Rattle.smv_core.specs.FlatOrder.{main}
use Rattle.smv_core.specs.declared.tree.Word.{Word}
use Rattle.smv_core.specs.declared.tree.Top.{Top}
use Rattle.smv_core.specs.declared.tree.Top.TheVariants.{SetType, Alias, Module}
use Rattle.smv_core.specs.declared.tree.TypeExpr.{TypeExpr}
use Rattle.smv_core.specs.declared.tree.Role.{Role}
use Rattle.smv_core.specs.declared.tree.Expr.{Expr}
use Rattle.smv_core.specs.declared.tree.Stmt.{Stmt}
use Rattle.smv_core.specs.declared.tree.Pair.{Pair}
use Rattle.smv_core.specs.declared.tree.Ref.{Ref}
use Rattle.smv_core.specs.declared.tree.Use.{Use}
use Rattle.smv_core.specs.declared.tree.Item.{Item, Declare, Instance, Layer, Forall, Forall', Block, Block', Claim, Split, Using, Act, Row_of-Item, end_of-Item, more_of-Item, items-the_row-Item, items_hidden-the_row-Item-1}
use mathlib.Core.Former.{Count}
use Rattle.smv_mentions.proofs.Computing.{computing}
use Rattle.law_strengthened_texts.specs.Stronger.{Found, claims_in, all_claims_in, main_claims, innermost}
use Rattle.smv_strengthen.specs.declared.claims.Candidate.{Candidate}
use Rattle.smv_strengthen.specs.Claims.{type_name, inside, candidate, candidates, all_candidates, top_candidates}

-- ---- items that are made of lists and values

module _ (name var : Name) (set : Option Name) where
  items-row : (n : _) (row : Row_of-Item n) → all_candidates name var set row ≡ flat_map (candidates name var set) (items-the_row-Item n row)
  unfolding candidates
  items-row n end_of-Item = refl
  items-row n (more_of-Item part rest) = ap (λ l. candidates name var set part ++ l) (items-row _ rest)

  abbrev items_of : Item → (n : Count) × Row_of-Item n
  items_of (Block' shape row) = (_, row)
  items_of _ = (_, end_of-Item)

  pub item-Block : (items : List Item) → candidates name var set (Block items) ≡ flat_map (candidates name var set) items
  unfolding candidates
  item-Block items = items-row (items_of (Block items)).0 (items_of (Block items)).1 ∙ ap (λ l. flat_map (candidates name var set) l) (items_hidden-the_row-Item-1 items)

  pub item-Forall : (word : Word) (over : TypeExpr) (body : Item) (at : ℕ) → candidates name var set (Forall word over body at) ≡ candidates name var (inside var set word over) body
  unfolding candidates computing
  item-Forall word over body at = refl

  pub item-Claim : (word : Word) (vars : List Word) (body : Expr) (at : ℕ) → candidates name var set (Claim word vars body at) ≡ (if bytes_eq word.name name then candidate var set word vars ∷ [] else [])
  unfolding candidates
  item-Claim word vars body at = refl

  pub item-Declare : (role : Role) (words : List Word) (of : TypeExpr) (at : ℕ) → candidates name var set (Declare role words of at) ≡ []
  unfolding candidates
  item-Declare role words of at = refl

  pub item-Instance : (words : List Word) (word : Word) (args : List Expr) (at : ℕ) → candidates name var set (Instance words word args at) ≡ []
  unfolding candidates
  item-Instance words word args at = refl

  pub item-Layer : (word : Word) (body : List Stmt) (at : ℕ) → candidates name var set (Layer word body at) ≡ []
  unfolding candidates
  item-Layer word body at = refl

  pub item-Split : (word : Word) (brackets : List Word) (of : Ref) (pairs : List Pair) (at : ℕ) → candidates name var set (Split word brackets of pairs at) ≡ []
  unfolding candidates
  item-Split word brackets of pairs at = refl

  pub item-Using : (uses : List Use) (proves : List Ref) (at : ℕ) → candidates name var set (Using uses proves at) ≡ []
  unfolding candidates
  item-Using uses proves at = refl

  pub item-Act : (act : Stmt) → candidates name var set (Act act) ≡ []
  unfolding candidates
  item-Act act = refl

pub ruleset equations = (append-nil, item-Block, item-Forall, item-Claim, item-Declare, item-Instance, item-Layer, item-Split, item-Using, item-Act)

-- ---- among all claims

filter-append : {X : Type 0} (p : X → Bool) (xs ys : List X) → filter p (xs ++ ys) ≡ filter p xs ++ filter p ys
filter-append p [] ys = refl
filter-append p (x ∷ xs) ys = ap (λ l. cond (p x) (x ∷ l) l) (filter-append p xs ys) ∙ at (p x)
  where
    at : (b : Bool) → cond b (x ∷ filter p xs ++ filter p ys) (filter p xs ++ filter p ys) ≡ cond b (x ∷ filter p xs) (filter p xs) ++ filter p ys
    at true = refl
    at false = refl

module _ (var : Name) where
  innermost-more : (around : List (Word × TypeExpr)) (w : Word) (o : TypeExpr) → innermost var (around ++ (w, o) ∷ []) ≡ (if bytes_eq w.name var then Some o else innermost var around)
  innermost-more [] w o = refl
  innermost-more ((v, q) ∷ around) w o = ap (λ (m : Option TypeExpr). option_or m (if bytes_eq v.name var then Some q else None)) (innermost-more around w o) ∙ by_test (bytes_eq w.name var)
    where
      by_test : (b : Bool) → option_or (if b then Some o else innermost var around) (if bytes_eq v.name var then Some q else None) ≡ (if b then Some o else option_or (innermost var around) (if bytes_eq v.name var then Some q else None))
      by_test true = refl
      by_test false = refl

  inside-is : (around : List (Word × TypeExpr)) (w : Word) (o : TypeExpr) → type_name (innermost var (around ++ (w, o) ∷ [])) ≡ inside var (type_name (innermost var around)) w o
  inside-is around w o = ap type_name (innermost-more around w o) ∙ by_test (bytes_eq w.name var)
    where
      by_test : (b : Bool) → type_name (if b then Some o else innermost var around) ≡ (if b then type_name (Some o) else type_name (innermost var around))
      by_test true = refl
      by_test false = refl

  abbrev pub candidate_of : Found → Candidate
  candidate_of c = candidate var (type_name (innermost var c.binders)) c.word c.vars

  module _ (name : Name) where
    abbrev pub named : Found → Bool
    named c = bytes_eq c.word.name name

    abbrev pub found_in : List Found → List Candidate
    found_in cs = map candidate_of (filter named cs)

    found-append : (xs ys : List Found) → found_in (xs ++ ys) ≡ found_in xs ++ found_in ys
    found-append xs ys = ap (map candidate_of) (filter-append named xs ys) ∙ map-append candidate_of (filter named xs) (filter named ys)

    mutual
      unfolding candidates

      in-item : (around : List (Word × TypeExpr)) (a : Item) → found_in (claims_in around a) ≡ candidates name var (type_name (innermost var around)) a
      in-item around (Declare role names of at) = refl
      in-item around (Instance names m args at) = refl
      in-item around (Layer word body at) = refl
      in-item around (Forall' word over shape (more_of-Item body end_of-Item) at) =
          ap found_in (append-nil (claims_in (around ++ (word, over) ∷ []) body)) ∙ in-item (around ++ (word, over) ∷ []) body ∙ ap (λ s. candidates name var s body) (inside-is around word over)
      in-item around (Block' shape items) = in-row around items
      in-item around (Claim word vars body at) = by_test (bytes_eq word.name name)
        where
          by_test : (b : Bool) → map candidate_of (cond b (record { word = word; vars = vars; binders = around } ∷ []) []) ≡ (if b then candidate var (type_name (innermost var around)) word vars ∷ [] else [])
          by_test true = refl
          by_test false = refl
      in-item around (Split word vars of pairs at) = refl
      in-item around (Using uses proves at) = refl
      in-item around (Act act) = refl

      in-row : {m : _} (around : List (Word × TypeExpr)) (row : Row_of-Item m) → found_in (all_claims_in around row) ≡ all_candidates name var (type_name (innermost var around)) row
      in-row around end_of-Item = refl
      in-row around (more_of-Item a rest) =
          found-append (claims_in around a) (all_claims_in around rest) ∙ ap (λ l. l ++ found_in (all_claims_in around rest)) (in-item around a)
          ∙ ap (λ l. candidates name var (type_name (innermost var around)) a ++ l) (in-row around rest)

    in-body : (items : List Item) → found_in (flat_map (claims_in []) items) ≡ flat_map (candidates name var None) items
    in-body [] = refl
    in-body (a ∷ items) =
        found-append (claims_in [] a) (flat_map (claims_in []) items) ∙ ap (λ l. l ++ found_in (flat_map (claims_in []) items)) (in-item [] a)
        ∙ ap (λ l. candidates name var None a ++ l) (in-body items)

    pub in-tops : (tops : List Top) → found_in (main_claims tops) ≡ flat_map (top_candidates name var) tops
    in-tops [] = refl
    in-tops (SetType word ordered span at ∷ tops) = in-tops tops
    in-tops (Alias word of at ∷ tops) = in-tops tops
    in-tops (Module word formals body at ∷ tops) = by_test (bytes_eq word.name main) (in-tops tops)
      where
        by_test : (b : Bool) → found_in (main_claims tops) ≡ flat_map (top_candidates name var) tops →
            found_in ((if b then flat_map (claims_in []) body else []) ++ main_claims tops) ≡ (if b then flat_map (candidates name var None) body else []) ++ flat_map (top_candidates name var) tops
        by_test true h = found-append (flat_map (claims_in []) body) (main_claims tops) ∙ ap (λ l. l ++ found_in (main_claims tops)) (in-body body) ∙ ap (λ l. flat_map (candidates name var None) body ++ l) h
        by_test false h = h
