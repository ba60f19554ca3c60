-- What stands twice, found by what was noted before.
use Rattle.std.proofs.Common.{◌≡◌, ℕ, suc, ◌+◌, ◌<◌, arith, List, [], ◌∷◌, ◌++◌, map, length, take, drop, get_or, refl, ap, sym, ◌∙◌, Bool, true, false, ◌||◌, cond, not, if◌then◌else◌}
use Rattle.std.specs.Prelude.{Option, Some, None, is_some, filter, option_map}
use Rattle.std.specs.List.{list_any}
use Rattle.std.specs.Str.{bytes_eq}
use Rattle.std.proofs.lemmas.List.{map-append, take_more, append-nil, append_assoc}
use Rattle.std.proofs.lemmas.List.Folds.{list_any-append}
use Rattle.std.proofs.lemmas.Slice.Eq.{bytes_eq-Decides}
use Rattle.std.specs.Bool.{Decides}
use Rattle.law_lists.proofs.Places.{drop_read_one}
use Rattle.smv_core.specs.Values.{Name}
use Rattle.smv_core.specs.declared.tree.Word.{Word}
use Rattle.name_index.specs.Position.{position}
use Rattle.smv_mentions.specs.NameFaults.{place_if}
use Rattle.smv_mentions.specs.Scopes.{first_of_places}
use Rattle.smv_first_fault.specs.Firsts.{least}
use Rattle.smv_first_fault.proofs.LeastLaws.{first-none, first-assoc, least-append}
use Rattle.law_splits.specs.SplitFaults.{doubled}
use Rattle.smv_references.specs.Again.{again, placed_words}

pub not-not : (b : Bool) → not (not b) ≡ b
not-not true = refl
not-not false = refl

pub ruleset nots = (not-not)

-- ---- places

pub first-comm : (a b : Option ℕ) → first_of_places a b ≡ first_of_places b a
first-comm None None = refl
first-comm None (Some y) = refl
first-comm (Some x) None = refl
first-comm (Some x) (Some y) = ap Some (omega arith)

first-twice : (a b : Option ℕ) → first_of_places a (first_of_places a b) ≡ first_of_places a b
first-twice None b = refl
first-twice (Some x) None = ap Some (omega arith)
first-twice (Some x) (Some y) = ap Some (omega arith)

pub swapped : (a b c e : Option ℕ) → first_of_places (first_of_places a b) (first_of_places c e) ≡ first_of_places (first_of_places a c) (first_of_places b e)
swapped a b c e =
    first-assoc a b (first_of_places c e)
    ∙ ap (first_of_places a) (sym (first-assoc b c e) ∙ ap (λ x. first_of_places x e) (first-comm b c) ∙ first-assoc c b e)
    ∙ sym (first-assoc a c (first_of_places b e))

-- ---- each pair, and each behind those before it

module _ {K : Type 0} (same : K → K → Bool) where
  abbrev pub clashing : K → List (ℕ × K) → List ℕ
  clashing key xs = map (λ (y : ℕ × K). y.0) (filter (λ (y : ℕ × K). same key y.1) xs)

  abbrev pub in_pairs : List (ℕ × K) → List ℕ
  in_pairs [] = []
  in_pairs (x ∷ more) = clashing x.1 more ++ in_pairs more

  abbrev with_each : List K → List (ℕ × K) → List ℕ
  with_each [] xs = []
  with_each (key ∷ before) xs = clashing key xs ++ with_each before xs

  each-none : (before : List K) → with_each before [] ≡ []
  each-none [] = refl
  each-none (key ∷ before) = each-none before

  each-more : (before : List K) (key : K) (xs : List (ℕ × K)) → with_each (before ++ key ∷ []) xs ≡ with_each before xs ++ clashing key xs
  each-more [] key xs = append-nil (clashing key xs)
  each-more (other ∷ before) key xs = ap (λ l. clashing other xs ++ l) (each-more before key xs) ∙ sym (append_assoc (clashing other xs) (with_each before xs) (clashing key xs))

  step : (b c : Bool) (at : ℕ) (A : List ℕ) (f whole : Option ℕ) → whole ≡ first_of_places (least (place_if c at)) f →
      first_of_places (least (cond b (at ∷ A) A)) whole ≡ first_of_places (least (place_if (b || c) at)) (first_of_places (least A) f)
  step true true at A f whole e =
      ap (first_of_places (first_of_places (Some at) (least A))) e ∙ swapped (Some at) (least A) (Some at) f ∙ ap (λ o. first_of_places o (first_of_places (least A) f)) (first-twice (Some at) None)
  step true false at A f whole e = ap (first_of_places (first_of_places (Some at) (least A))) e ∙ first-assoc (Some at) (least A) f
  step false c at A f whole e =
      ap (first_of_places (least A)) e ∙ sym (first-assoc (least A) (least (place_if c at)) f) ∙ ap (λ o. first_of_places o f) (first-comm (least A) (least (place_if c at))) ∙ first-assoc (least (place_if c at)) (least A) f

  clash-front : (key : K) (x : ℕ × K) (more : List (ℕ × K)) → clashing key (x ∷ more) ≡ cond (same key x.1) (x.0 ∷ clashing key more) (clashing key more)
  clash-front key x more = by (same key x.1)
    where
      by : (b : Bool) → map (λ (y : ℕ × K). y.0) (cond b (x ∷ filter (λ (y : ℕ × K). same key y.1) more) (filter (λ (y : ℕ × K). same key y.1) more)) ≡ cond b (x.0 ∷ clashing key more) (clashing key more)
      by true = refl
      by false = refl

  each-front : (before : List K) (x : ℕ × K) (more : List (ℕ × K)) →
      least (with_each before (x ∷ more)) ≡ first_of_places (least (place_if (list_any (λ key. same key x.1) before) x.0)) (least (with_each before more))
  each-front [] x more = refl
  each-front (key ∷ before) x more =
      least-append (clashing key (x ∷ more)) (with_each before (x ∷ more))
      ∙ ap (λ l. first_of_places (least l) (least (with_each before (x ∷ more)))) (clash-front key x more)
      ∙ step (same key x.1) (list_any (λ key. same key x.1) before) x.0 (clashing key more) (least (with_each before more)) (least (with_each before (x ∷ more))) (each-front before x more)
      ∙ ap (first_of_places (least (place_if (list_any (λ key. same key x.1) (key ∷ before)) x.0))) (sym (least-append (clashing key more) (with_each before more)))

  again-each : (before : List K) (xs : List (ℕ × K)) → least (again same before xs) ≡ first_of_places (least (with_each before xs)) (least (in_pairs xs))
  again-each before [] = ap (λ l. first_of_places (least l) None) (sym (each-none before))
  again-each before (x ∷ more) =
      let here = least (place_if (list_any (λ key. same key x.1) before) x.0) in
      let f = least (with_each before more) in
      let a = least (clashing x.1 more) in
      let r = least (in_pairs more) in
      least-append (place_if (list_any (λ key. same key x.1) before) x.0) (again same (before ++ x.1 ∷ []) more)
      ∙ ap (first_of_places here) (again-each (before ++ x.1 ∷ []) more ∙ ap (λ l. first_of_places (least l) r) (each-more before x.1 more) ∙ ap (λ o. first_of_places o r) (least-append (with_each before more) (clashing x.1 more)) ∙ first-assoc f a r)
      ∙ sym (first-assoc here f (first_of_places a r))
      ∙ ap (λ o. first_of_places o (first_of_places a r)) (sym (each-front before x more))
      ∙ ap (first_of_places (least (with_each before (x ∷ more)))) (sym (least-append (clashing x.1 more) (in_pairs more)))

  -- the first that clashes with one before is the first that was noted before
  pub again-first : (xs : List (ℕ × K)) → least (in_pairs xs) ≡ least (again same [] xs)
  again-first xs = sym (again-each [] xs)

-- ---- one step of a search

abbrev pub keys_to : {K : Type 0} → ℕ → List (ℕ × K) → List K
keys_to {K} n xs = map (λ (x : ℕ × K). x.1) (take n xs)

module _ {K : Type 0} (same : K → K → Bool) where
  pub keys-more : (xs : List (ℕ × K)) (n : ℕ) (x : ℕ × K) → n < length xs → x ≡ get_or xs n x → keys_to (n + 1) xs ≡ keys_to n xs ++ x.1 ∷ []
  keys-more xs n x below here =
      ap (map (λ (x : ℕ × K). x.1)) (take_more xs n x below ∙ ap (λ y. take n xs ++ y ∷ []) (sym here)) ∙ map-append (λ (x : ℕ × K). x.1) (take n xs) (x ∷ [])

  pub again-step : (xs : List (ℕ × K)) (n : ℕ) (x : ℕ × K) (known : Bool) (found new whole : Option ℕ) → n < length xs → x ≡ get_or xs n x →
      known ≡ list_any (λ key. same key x.1) (keys_to n xs) → new ≡ first_of_places found (least (place_if known x.0)) →
      first_of_places found (least (again same (keys_to n xs) (drop n xs))) ≡ whole → first_of_places new (least (again same (keys_to (n + 1) xs) (drop (n + 1) xs))) ≡ whole
  again-step xs n x known found new whole below here is at old =
      ap (λ l. first_of_places new (least (again same l (drop (n + 1) xs)))) (keys-more xs n x below here)
      ∙ ap (λ o. first_of_places o (least (again same (keys_to n xs ++ x.1 ∷ []) (drop (n + 1) xs)))) (at ∙ ap (λ b. first_of_places found (least (place_if b x.0))) is)
      ∙ first-assoc found (least (place_if (list_any (λ key. same key x.1) (keys_to n xs)) x.0)) (least (again same (keys_to n xs ++ x.1 ∷ []) (drop (n + 1) xs)))
      ∙ ap (first_of_places found) (sym (least-append (place_if (list_any (λ key. same key x.1) (keys_to n xs)) x.0) (again same (keys_to n xs ++ x.1 ∷ []) (drop (n + 1) xs)))
      ∙ ap (λ l. least (again same (keys_to n xs) l)) (sym (drop_read_one xs n x below here)))
      ∙ old

  pub noted-more : (xs : List (ℕ × K)) (n : ℕ) (x : ℕ × K) (old new : K → Bool) → n < length xs → x ≡ get_or xs n x → ((k : K) → new k ≡ cond (same x.1 k) true (old k)) →
      ((k : K) → old k ≡ list_any (λ key. same key k) (keys_to n xs)) → (k : K) → new k ≡ list_any (λ key. same key k) (keys_to (n + 1) xs)
  noted-more xs n x old new below here put was k =
      put k ∙ ap (cond (same x.1 k) true) (was k) ∙ turn (same x.1 k) (list_any (λ key. same key k) (keys_to n xs))
      ∙ sym (list_any-append (λ key. same key k) (keys_to n xs) (x.1 ∷ [])) ∙ ap (list_any (λ key. same key k)) (sym (keys-more xs n x below here))
    where
      turn : (a b : Bool) → cond a true b ≡ (b || (a || false))
      turn true true = refl
      turn true false = refl
      turn false true = refl
      turn false false = refl

-- ---- names

pub position-any : (names : List Name) (name : Name) → is_some (position names name) ≡ list_any (λ x. bytes_eq x name) names
position-any [] name = refl
position-any (x ∷ names) name = at (bytes_eq x name) (position names name) (position-any names name)
  where
    at : (b : Bool) (o : Option ℕ) → is_some o ≡ list_any (λ x. bytes_eq x name) names → is_some (if b then Some 0 else option_map suc o) ≡ (b || list_any (λ x. bytes_eq x name) names)
    at true o e = refl
    at false None e = e
    at false (Some k) e = e

-- one name more
pub name-step : {X : Type 0} (f : X → ℕ × Name) (xs : List X) (n : ℕ) (x : X) (seen new : List Name) (place found found' whole : Option ℕ) → n < length xs → x ≡ get_or xs n x → new ≡ seen ++ (f x).1 ∷ [] →
    place ≡ least (place_if (is_some (position seen (f x).1)) (f x).0) → found' ≡ first_of_places found place →
    first_of_places found (least (again bytes_eq seen (map f (drop n xs)))) ≡ whole → first_of_places found' (least (again bytes_eq new (map f (drop (n + 1) xs)))) ≡ whole
name-step f xs n x seen new place found found' whole below here put is at old =
    ap (λ l. first_of_places found' (least (again bytes_eq l (map f (drop (n + 1) xs))))) put
    ∙ ap (λ o. first_of_places o (least (again bytes_eq (seen ++ (f x).1 ∷ []) (map f (drop (n + 1) xs))))) (at ∙ ap (first_of_places found) (is ∙ ap (λ b. least (place_if b (f x).0)) (position-any seen (f x).1)))
    ∙ first-assoc found (least (place_if (list_any (λ key. bytes_eq key (f x).1) seen) (f x).0)) (least (again bytes_eq (seen ++ (f x).1 ∷ []) (map f (drop (n + 1) xs))))
    ∙ ap (first_of_places found) (sym (least-append (place_if (list_any (λ key. bytes_eq key (f x).1) seen) (f x).0) (again bytes_eq (seen ++ (f x).1 ∷ []) (map f (drop (n + 1) xs))))
    ∙ ap (λ l. least (again bytes_eq seen (map f l))) (sym (drop_read_one xs n x below here)))
    ∙ old

pub ruleset naming = (position-any, first-assoc, first-none, least-append)

pub bytes-flip : (a b : Name) → bytes_eq a b ≡ bytes_eq b a
bytes-flip a b = by (bytes_eq a b) (bytes_eq b a) (bytes_eq-Decides a b) (bytes_eq-Decides b a)
  where
    by : (p q : Bool) → Decides p (a ≡ b) → Decides q (b ≡ a) → p ≡ q
    by true true e f = refl
    by true false e f = sym (f.1 (sym (e.0 refl)))
    by false true e f = e.1 (sym (f.0 refl))
    by false false e f = refl

abbrev flipped : Name → Name → Bool
flipped a b = bytes_eq b a

doubled-pairs : (words : List Word) → doubled words ≡ in_pairs flipped (placed_words words)
doubled-pairs [] = refl
doubled-pairs (word ∷ more) = ap (λ l. l ++ doubled more) (others more) ∙ ap (λ l. clashing flipped word.name (placed_words more) ++ l) (doubled-pairs more)
  where
    others : (more : List Word) → map (λ (other : Word). other.at) (filter (λ (other : Word). bytes_eq other.name word.name) more) ≡ clashing flipped word.name (placed_words more)
    others [] = refl
    others (x ∷ more) = at (bytes_eq x.name word.name) (filter (λ (other : Word). bytes_eq other.name word.name) more) (filter (λ (y : ℕ × Name). bytes_eq y.1 word.name) (placed_words more)) (others more)
      where
        at : (b : Bool) (l : List Word) (m : List (ℕ × Name)) → map (λ (other : Word). other.at) l ≡ map (λ (y : ℕ × Name). y.0) m → map (λ (other : Word). other.at) (cond b (x ∷ l) l) ≡ map (λ (y : ℕ × Name). y.0) (cond b ((x.at, x.name) ∷ m) m)
        at true l m e = ap (λ l. x.at ∷ l) e
        at false l m e = e

any-flip : (names : List Name) (name : Name) → list_any (λ key. bytes_eq name key) names ≡ list_any (λ key. bytes_eq key name) names
any-flip [] name = refl
any-flip (x ∷ names) name = ap (λ b. b || list_any (λ key. bytes_eq name key) names) (bytes-flip name x) ∙ ap (λ b. bytes_eq x name || b) (any-flip names name)

again-flip : (before : List Name) (xs : List (ℕ × Name)) → again flipped before xs ≡ again bytes_eq before xs
again-flip before [] = refl
again-flip before (x ∷ more) = ap (λ b. place_if b x.0 ++ again flipped (before ++ x.1 ∷ []) more) (any-flip before x.1) ∙ ap (λ l. place_if (list_any (λ key. bytes_eq key x.1) before) x.0 ++ l) (again-flip (before ++ x.1 ∷ []) more)

-- the first of two equal names is the first that was noted before
pub doubled-first : (words : List Word) → least (again bytes_eq [] (placed_words words)) ≡ least (doubled words)
doubled-first words = ap least (sym (again-flip [] (placed_words words))) ∙ sym (again-first flipped (placed_words words)) ∙ ap least (sym (doubled-pairs words))

pub ruleset doubling = (doubled-first, append-nil)
