-- The misfits of a split, put together.
use Rattle.std.proofs.Common.{◌≡◌, ℕ, List, [], ◌∷◌, ◌++◌, map, not, ◌||◌, nat_eq, refl, ap, sym, ◌∙◌, length}
use Rattle.std.specs.Prelude.{Option, filter}
use Rattle.std.specs.List.{flat_map, list_any}
use Rattle.std.specs.Str.{bytes_eq}
use Rattle.smv_core.specs.Values.{Name}
use Rattle.smv_core.specs.declared.tree.Word.{Word}
use Rattle.smv_core.specs.declared.flat.Family.{Family}
use Rattle.smv_core.specs.declared.flat.Param.{Param}
use Rattle.smv_core.specs.declared.flat.FlatSplit.{FlatSplit}
use Rattle.smv_core.specs.declared.flat.FlatPair.{FlatPair}
use Rattle.name_index.proofs.Finding.{position-known}
use Rattle.smv_mentions.specs.NameFaults.{place_if}
use Rattle.smv_mentions.specs.Scopes.{first_of_places}
use Rattle.smv_first_fault.specs.Firsts.{least}
use Rattle.smv_first_fault.proofs.LeastLaws.{least-append, first-assoc}
use Rattle.law_splits.specs.Variables.{Occurrence, readings}
use Rattle.law_splits.specs.SplitFaults as splits
use Rattle.smv_splits.specs.Parts as parts
use Rattle.smv_splits.specs.Parts.{first_among, right_names, repeated, standing_in, not_new_in, other_kind_in, equations_misfit}
use Rattle.smv_references.specs.Again.{again, placed_words}
use Rattle.smv_references.proofs.AgainLaws.{doubled-first}
use Rattle.std.proofs.lemmas.List.{map-append}
use Rattle.std.proofs.lemmas.List.Elements.{filter_agree}
use Rattle.law_lists.proofs.Lists.{flat_map_agree}
use Rattle.smv_splits.proofs.RightLaws.{in-one-is}
use Rattle.smv_splits.proofs.StandingLaws.{stray-is}

firsts : {a b c e : Option ℕ} → a ≡ c → b ≡ e → first_of_places a b ≡ first_of_places c e
firsts p q = cc

among-list : {X : Type 0} (F : X → Option ℕ) (f : X → List ℕ) → ((x : X) → F x ≡ least (f x)) → (xs : List X) → first_among (map F xs) ≡ least (flat_map f xs)
among-list F f same [] = refl
among-list F f same (x ∷ xs) = firsts (same x) (among-list F f same xs) ∙ sym (least-append (f x) (flat_map f xs))

-- new parameters that are not in one equation
pub not-in-one : (s : FlatSplit) (names again : List Name) → names ≡ right_names s.pairs → again ≡ repeated [] (right_names s.pairs) →
    flat_map (λ (word : Word). place_if (not (parts.is_in_one names again word)) word.at) s.vars ≡ splits.not_in_one s
not-in-one s names again is more =
    ap (λ l. flat_map (λ (word : Word). place_if (not (parts.is_in_one l again word)) word.at) s.vars) is
    ∙ ap (λ l. flat_map (λ (word : Word). place_if (not (parts.is_in_one (right_names s.pairs) l word)) word.at) s.vars) more
    ∙ flat_map_agree (λ (word : Word). place_if (not (parts.is_in_one (right_names s.pairs) (repeated [] (right_names s.pairs)) word)) word.at)
    (λ (word : Word). place_if (not (nat_eq (length (splits.equations_of s.pairs word)) 1)) word.at) (λ word. ap (λ b. place_if (not b) word.at) (in-one-is s.pairs word)) s.vars

-- the right of an equation that is no new parameter
any-names : (words : List Word) (name : Name) → list_any (λ x. bytes_eq x name) (map (λ (word : Word). word.name) words) ≡ list_any (λ (word : Word). bytes_eq word.name name) words
any-names [] name = refl
any-names (word ∷ words) name = ap (λ b. bytes_eq word.name name || b) (any-names words name)

pub not-new : (s : FlatSplit) (new : List Name) → new ≡ map (λ (word : Word). word.name) s.vars → flat_map (not_new_in new) s.pairs ≡ splits.not_new s
not-new s new is =
    ap (λ l. flat_map (not_new_in l) s.pairs) is
    ∙ flat_map_agree (not_new_in (map (λ (word : Word). word.name) s.vars)) (λ (pair : FlatPair). place_if (not (list_any (λ (word : Word). bytes_eq word.name pair.right.name) s.vars)) pair.right.at)
    (λ pair. ap (λ b. place_if (not b) pair.right.at) (position-known (map (λ (word : Word). word.name) s.vars) pair.right.name ∙ any-names s.vars pair.right.name)) s.pairs

-- the first stray of each equation
pub strays-first : (s : FlatSplit) (standing : List (Option ℕ)) → standing ≡ standing_in s → first_among (map (λ (pair : FlatPair). parts.stray_in standing pair.left) s.pairs) ≡ least (splits.strays s)
unfolding parts.stray_in
strays-first s standing is =
    ap (λ l. first_among (map (λ (pair : FlatPair). parts.stray_in l pair.left) s.pairs)) is
    ∙ among-list (λ (pair : FlatPair). parts.stray_in (standing_in s) pair.left) (λ (pair : FlatPair). map (λ (r : Occurrence). r.at) (filter (splits.is_stray s) (readings pair.left)))
    (λ pair. ap (λ l. least (map (λ (r : Occurrence). r.at) l)) (filter_agree (λ (r : Occurrence). parts.is_stray (standing_in s) r.var) (splits.is_stray s) (stray-is s) (readings pair.left))) s.pairs

pub equations-first : (families : List Family) (s : FlatSplit) (pairs : List FlatPair) (vars : List Word) (bound : List Param) (names again new : List Name) (standing : List (Option ℕ)) (a b c e x y r : Option ℕ) →
    pairs ≡ s.pairs → vars ≡ s.vars → bound ≡ s.bound → names ≡ right_names pairs → again ≡ repeated [] (right_names pairs) → new ≡ map (λ (word : Word). word.name) vars → standing ≡ standing_in s →
    a ≡ least (flat_map (λ (word : Word). place_if (not (parts.is_in_one names again word)) word.at) vars) → b ≡ least (flat_map (not_new_in new) pairs) →
    c ≡ least (flat_map (other_kind_in families bound) pairs) → e ≡ first_among (map (λ (pair : FlatPair). parts.stray_in standing pair.left) pairs) →
    x ≡ first_of_places a b → y ≡ first_of_places c e → r ≡ first_of_places x y → r ≡ equations_misfit families s
equations-first families s pairs vars bound names again new standing a b c e x y r ps vs bs n m w t p q k j is_x is_y is_r =
    is_r ∙ firsts is_x is_y
    ∙ firsts
    (firsts (p ∙ ap (λ l. least (flat_map (λ (word : Word). place_if (not (parts.is_in_one names again word)) word.at) l)) vs ∙ ap least (not-in-one s names again (n ∙ ap right_names ps) (m ∙ ap (λ l. repeated [] (right_names l)) ps)))
    (q ∙ ap (λ l. least (flat_map (not_new_in new) l)) ps ∙ ap least (not-new s new (w ∙ ap (map (λ (word : Word). word.name)) vs))))
    (firsts (k ∙ ap (λ l. least (flat_map (other_kind_in families l) pairs)) bs ∙ ap (λ l. least (flat_map (other_kind_in families s.bound) l)) ps)
    (j ∙ ap (λ l. first_among (map (λ (pair : FlatPair). parts.stray_in standing pair.left) l)) ps ∙ strays-first s standing t))

-- a split's misfits are those of its brackets and those of its equations
pub split-first : (families : List Family) (s : FlatSplit) (a b c : Option ℕ) → a ≡ least (splits.unbound s) → b ≡ least (splits.doubled (splits.bracketed s)) → c ≡ equations_misfit families s →
    first_of_places (first_of_places a b) c ≡ least (splits.misfits families s)
split-first families s a b c p q r =
    firsts (firsts p q) r
    ∙ sym (first-assoc x (first_of_places (least n) (least m)) (first_of_places (least o) (least t)))
    ∙ ap (λ y. first_of_places y (first_of_places (least o) (least t))) (sym (first-assoc x (least n) (least m)))
    ∙ sym (first-assoc (first_of_places (first_of_places x (least n)) (least m)) (least o) (least t))
    ∙ sym (least-append (u ++ w ++ n ++ m ++ o) t ∙ ap (λ y. first_of_places y (least t)) (least-append (u ++ w ++ n ++ m) o
    ∙ ap (λ y. first_of_places y (least o)) (least-append (u ++ w ++ n) m ∙ ap (λ y. first_of_places y (least m)) (least-append (u ++ w) n ∙ ap (λ y. first_of_places y (least n)) (least-append u w)))))
  where
    u : List ℕ
    u = splits.unbound s

    w : List ℕ
    w = splits.doubled (splits.bracketed s)

    n : List ℕ
    n = splits.not_in_one s

    m : List ℕ
    m = splits.not_new s

    o : List ℕ
    o = splits.other_kind families s

    t : List ℕ
    t = splits.strays s

    x : Option ℕ
    x = first_of_places (least u) (least w)

-- the names of two lists of words
pub unbound-parts : (s : FlatSplit) → least (splits.unbound s) ≡ first_of_places (least (flat_map (λ (word : Word). place_if (not (splits.names_one s.bound word)) word.at) s.vars)) (least (flat_map (λ (word : Word). place_if (not (splits.names_one s.bound word)) word.at) s.of.names))
unbound-parts s = each-append (λ (word : Word). place_if (not (splits.names_one s.bound word)) word.at) s.vars s.of.names
  where
    each-append : {X : Type 0} (f : X → List ℕ) (xs ys : List X) → least (flat_map f (xs ++ ys)) ≡ first_of_places (least (flat_map f xs)) (least (flat_map f ys))
    each-append f [] ys = refl
    each-append f (x ∷ xs) ys = least-append (f x) (flat_map f (xs ++ ys)) ∙ ap (first_of_places (least (f x))) (each-append f xs ys) ∙ sym (first-assoc (least (f x)) (least (flat_map f xs)) (least (flat_map f ys)))
        ∙ ap (λ y. first_of_places y (least (flat_map f ys))) (sym (least-append (f x) (flat_map f xs)))

pub unbound-first : (s : FlatSplit) (bound : List Param) (vars names : List Word) (a b r : Option ℕ) → bound ≡ s.bound → vars ≡ s.vars → names ≡ s.of.names →
    a ≡ least (flat_map (λ (word : Word). place_if (not (splits.names_one bound word)) word.at) vars) → b ≡ least (flat_map (λ (word : Word). place_if (not (splits.names_one bound word)) word.at) names) →
    r ≡ first_of_places a b → r ≡ least (splits.unbound s)
unbound-first s bound vars names a b r bs vs ns p q is =
    is ∙ firsts (p ∙ unbound_in vars s.vars vs) (q ∙ unbound_in names s.of.names ns) ∙ sym (unbound-parts s)
  where
    unbound_in : (xs ys : List Word) → xs ≡ ys → least (flat_map (λ (word : Word). place_if (not (splits.names_one bound word)) word.at) xs) ≡ least (flat_map (λ (word : Word). place_if (not (splits.names_one s.bound word)) word.at) ys)
    unbound_in xs ys e = ap (λ l. least (flat_map (λ (word : Word). place_if (not (splits.names_one bound word)) word.at) l)) e ∙ ap (λ l. least (flat_map (λ (word : Word). place_if (not (splits.names_one l word)) word.at) ys)) bs

pub bracketed-words : (s : FlatSplit) → placed_words (splits.bracketed s) ≡ placed_words s.vars ++ placed_words s.of.names
bracketed-words s = map-append (λ (word : Word). (word.at, word.name)) s.vars s.of.names

-- the first name in the brackets that stands before
pub brackets-doubled : (s : FlatSplit) (names : List (ℕ × Name)) (place : Option ℕ) → names ≡ placed_words s.vars ++ placed_words s.of.names → place ≡ least (again bytes_eq [] names) → place ≡ least (splits.doubled (splits.bracketed s))
brackets-doubled s names place is at = at ∙ ap (λ l. least (again bytes_eq [] l)) (is ∙ sym (bracketed-words s)) ∙ doubled-first (splits.bracketed s)
