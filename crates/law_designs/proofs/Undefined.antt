-- What has no definition is free: no assignment of the family stands in the definition set.
use Rattle.std.proofs.Common.{◌≡◌, ℕ, zero, suc, ◌+◌, List, [], ◌∷◌, ◌++◌, map, filter, zip, length, Option, Some, None, Bool, true, false, not, ◌&&◌, ◌||◌, cond, nat_eq, refl, sym, ap, ◌∙◌, option_map, unwrap_or, arith}
use Rattle.std.specs.List.{flat_map, list_any}
use Rattle.std.proofs.lemmas.List.Folds.{list_any-append}
use Rattle.std.proofs.lemmas.List.{length-append}
use Rattle.law_lists.proofs.Booleans.{or_alike, not_left, not_right, clash}
use Rattle.smv_core.specs.Values.{Name, Value, Sizes, truth, numbers_from}
use Rattle.smv_core.specs.Walk.{Walk, first, first_of, if_walk, same_kind}
use Rattle.smv_core.specs.FlatMeaning.{Numbered, FlatState, FlatBindings, FlatElement, bind, values_in, flat_outcome, flat_walk, flat_walks}
use Rattle.smv_core.specs.declared.tree.Kind.{Kind}
use Rattle.smv_core.specs.declared.tree.Kind.TheVariants.{Comb, Init, Next}
use Rattle.smv_core.specs.declared.flat.FlatStmt.{FlatStmt, Assign, If', Block', Default', Forall', Row_of-FlatStmt, end_of-FlatStmt, more_of-FlatStmt}
use Rattle.smv_core.specs.declared.flat.FlatText.{FlatText}
use Rattle.law_designs.specs.Flattening.{different, flat_assignments, flat_assignments_in, layer_number}
use Rattle.law_designs.specs.Agreement.{numbers_of}
use Rattle.law_designs.specs.WholeText.{is_one_layer, flat_text_walk}
use Rattle.law_designs.specs.FlatTextAllowed.{flat_concerns, flat_text_is_concerned, flat_text_kept, flat_text_stepped, flat_text_allowed}
use Rattle.law_designs.specs.Standing.{count, Statement, statements_of, Standing, standing, standing_in, assigned_by}
use Rattle.law_designs.specs.Definitions.{Head, head, heads_of, same_definition, first_heads, def_of, design_of_flat_text}
use Rattle.law_designs.specs.Laws.{is_of_family}
use Rattle.law_designs.proofs.FlatParts.{if_walk-none, first-none}
use Rattle.law_designs.proofs.SameResults.{set-acts}

-- ---- what is in a list is in its different elements

module _ {X : Type 0} (same : X → X → Bool) (p : X → Bool) (alike : (a b : X) → same a b ≡ true → p a ≡ p b) where
  filter-keeps : (x : X) → p x ≡ false → (ys : List X) → list_any p ys ≡ true → list_any p (filter (λ y. not (same x y)) ys) ≡ true
  filter-keeps x h [] e = absurd (cc (e))
  filter-keeps x h (y ∷ ys) e = by_tests (same x y) (p y) refl refl e (filter-keeps x h ys)
    where
      by_tests : (b c : Bool) → same x y ≡ b → p y ≡ c → (c || list_any p ys) ≡ true → (list_any p ys ≡ true → list_any p (filter (λ y. not (same x y)) ys) ≡ true) →
          list_any p (cond (not b) (y ∷ filter (λ y. not (same x y)) ys) (filter (λ y. not (same x y)) ys)) ≡ true
      by_tests true true k l e rest = absurd (clash (alike x y k ∙ l) h)
      by_tests true false k l e rest = rest e
      by_tests false true k l e rest = ap (λ b. b || list_any p (filter (λ y. not (same x y)) ys)) l
      by_tests false false k l e rest = ap (λ b. b || list_any p (filter (λ y. not (same x y)) ys)) l ∙ rest e

  different-keeps : (xs : List X) → list_any p xs ≡ true → list_any p (different same xs) ≡ true
  different-keeps [] e = e
  different-keeps (x ∷ xs) e = by_test (p x) refl e (different-keeps xs)
    where
      by_test : (b : Bool) → p x ≡ b → (b || list_any p xs) ≡ true → (list_any p xs ≡ true → list_any p (different same xs) ≡ true) → (b || list_any p (filter (λ y. not (same x y)) (different same xs))) ≡ true
      by_test true h e rest = refl
      by_test false h e rest = filter-keeps x h (different same xs) (rest e)

  pub none-before : (xs : List X) → list_any p (different same xs) ≡ false → list_any p xs ≡ false
  none-before xs e = by_test (list_any p xs) refl
    where
      by_test : (b : Bool) → list_any p xs ≡ b → list_any p xs ≡ false
      by_test true h = absurd (clash (different-keeps xs h) e)
      by_test false h = h

-- ---- assignments and their places

sum-same : (a b c d : ℕ) → a ≡ c → b ≡ d → a + b ≡ c + d
sum-same a b c d h k = omega (arith, h, k)

module _ (layer : Option ℕ) where
  two-long : (around : List ℕ) (left right : FlatStmt) → length (standing layer around left) ≡ count left → length (standing layer around right) ≡ count right →
      length (standing layer around left ++ standing layer around right) ≡ length (flat_assignments left ++ flat_assignments right)
  two-long around left right h k =
      length-append (standing layer around left) (standing layer around right) ∙ sum-same _ _ (count left) (count right) h k ∙ sym (length-append (flat_assignments left) (flat_assignments right))

  mutual
    standing-long : (around : List ℕ) (act : FlatStmt) → length (standing layer around act) ≡ count act
    standing-long around (Assign kind family left value at) = refl
    standing-long around (If' test l (more_of-FlatStmt left end_of-FlatStmt) r (more_of-FlatStmt right end_of-FlatStmt)) = two-long around left right (standing-long around left) (standing-long around right)
    standing-long around (Block' shape parts) = all-long around parts
    standing-long around (Default' l (more_of-FlatStmt left end_of-FlatStmt) r (more_of-FlatStmt right end_of-FlatStmt)) = two-long around left right (standing-long around left) (standing-long around right)
    standing-long around (Forall' var over shape (more_of-FlatStmt body end_of-FlatStmt)) = standing-long (var ∷ around) body

    all-long : {m : _} (around : List ℕ) (parts : Row_of-FlatStmt m) → length (standing_in layer around parts) ≡ length (flat_assignments_in parts)
    all-long around end_of-FlatStmt = refl
    all-long around (more_of-FlatStmt part rest) =
        length-append (standing layer around part) (standing_in layer around rest)
        ∙ sum-same _ _ (count part) (length (flat_assignments_in rest)) (standing-long around part) (all-long around rest)
        ∙ sym (length-append (flat_assignments part) (flat_assignments_in rest))

numbers-long : (k n : ℕ) → length (numbers_from k n) ≡ n
numbers-long k zero = refl
numbers-long k (suc n) = ap suc (numbers-long (k + 1) n)

module _ (number : Option ℕ) (family : ℕ) where
  -- an assignment, a definition or its first assignment is of this layer and family
  abbrev of_head : Head → Bool
  of_head h = is_one_layer number h.layer && nat_eq h.family family

  abbrev of_standing : Standing → Bool
  of_standing a = is_one_layer number a.layer && nat_eq a.family family

  any-zip : (as' : List Standing) (ks : List ℕ) → length ks ≡ length as' → list_any of_head (map (λ (a, k). head a k) (zip as' ks)) ≡ list_any of_standing as'
  any-zip [] [] e = refl
  any-zip [] (k ∷ ks) e = refl
  any-zip (a ∷ as') [] e = absurd (omega (arith, e))
  any-zip (a ∷ as') (k ∷ ks) e = ap (λ b. of_standing a || b) (any-zip as' ks (omega (arith, e)))

  heads-any : (s : Statement) → list_any of_head (heads_of s) ≡ list_any of_standing (assigned_by s)
  heads-any s = any-zip (assigned_by s) (numbers_from s.place (count s.act)) (numbers-long s.place (count s.act) ∙ sym (standing-long s.layer [] s.act))

  all-heads-any : (set : List Statement) → list_any of_head (flat_map heads_of set) ≡ list_any of_standing (flat_map assigned_by set)
  all-heads-any [] = refl
  all-heads-any (s ∷ set) =
      list_any-append of_head (heads_of s) (flat_map heads_of set)
      ∙ or_alike (list_any of_head (heads_of s)) (list_any of_head (flat_map heads_of set)) (list_any of_standing (assigned_by s)) (list_any of_standing (flat_map assigned_by set)) (heads-any s) (all-heads-any set)
      ∙ sym (list_any-append of_standing (assigned_by s) (flat_map assigned_by set))

-- ---- statements without an assignment of the family

module _ (n : Numbered) (s : FlatState) (x : FlatElement) (every : List Value) (kind : Kind) (number layer : Option ℕ) (here : is_one_layer number layer ≡ true) where
  abbrev lacks : List Standing → Type 0
  lacks all = list_any (of_standing number x.family) all ≡ false

  left-lacks : (as' bs : List Standing) → lacks (as' ++ bs) → lacks as'
  left-lacks as' bs e = not_left (list_any (of_standing number x.family) as') (list_any (of_standing number x.family) bs) (sym (list_any-append (of_standing number x.family) as' bs) ∙ e)

  right-lacks : (as' bs : List Standing) → lacks (as' ++ bs) → lacks bs
  right-lacks as' bs e = not_right (list_any (of_standing number x.family) as') (list_any (of_standing number x.family) bs) (sym (list_any-append (of_standing number x.family) as' bs) ∙ e)

  other-family : (a b : Bool) → a ≡ true → ((a && b) || false) ≡ false → b ≡ false
  other-family true true h e = absurd (cc (e))
  other-family true false h e = refl
  other-family false b h e = absurd (cc (h))

  no-walk : (a b : Bool) (w : Walk) → b ≡ false → cond (a && b) w None ≡ None
  no-walk true b w h = rw h refl
  no-walk false b w h = refl

  no-concern : (a b c : Bool) → b ≡ false → ((a && (b && c)) || false) ≡ false
  no-concern true b c h = rw h refl
  no-concern false b c h = refl

  both-none : (u : Option Bool) (v w : Walk) → v ≡ None → w ≡ None → if_walk every u v w ≡ None
  both-none u v w h k = rw (h, k) (if_walk-none every u)

  first-of-nones : (v w : Walk) → v ≡ None → w ≡ None → first_of v w ≡ None
  first-of-nones v w h k = rw (h, k) refl

  mutual
    walk-none : (around : List ℕ) (act : FlatStmt) → lacks (standing layer around act) → (b : FlatBindings) → flat_walk n s x every kind act b ≡ None
    walk-none around (Assign which family left value at) e b = no-walk (same_kind which kind) (nat_eq family x.family) _ (other-family (is_one_layer number layer) (nat_eq family x.family) here e)
    walk-none around (If' test l (more_of-FlatStmt left end_of-FlatStmt) r (more_of-FlatStmt right end_of-FlatStmt)) e b =
        both-none (truth (flat_outcome n s test b)) (flat_walk n s x every kind left b) (flat_walk n s x every kind right b)
        (walk-none around left (left-lacks (standing layer around left) (standing layer around right) e) b) (walk-none around right (right-lacks (standing layer around left) (standing layer around right) e) b)
    walk-none around (Block' shape parts) e b = walks-none around parts e b
    walk-none around (Default' l (more_of-FlatStmt left end_of-FlatStmt) r (more_of-FlatStmt right end_of-FlatStmt)) e b =
        first-of-nones (flat_walk n s x every kind right b) (flat_walk n s x every kind left b)
        (walk-none around right (right-lacks (standing layer around left) (standing layer around right) e) b) (walk-none around left (left-lacks (standing layer around left) (standing layer around right) e) b)
    walk-none around (Forall' var over shape (more_of-FlatStmt body end_of-FlatStmt)) e b =
        first-none (λ v. flat_walk n s x every kind body (bind b var v)) (λ v. walk-none (var ∷ around) body e (bind b var v)) (values_in n over)

    walks-none : {m : _} (around : List ℕ) (parts : Row_of-FlatStmt m) → lacks (standing_in layer around parts) → (b : FlatBindings) → flat_walks n s x every kind parts b ≡ None
    walks-none around end_of-FlatStmt e b = refl
    walks-none around (more_of-FlatStmt part rest) e b =
        first-of-nones (flat_walk n s x every kind part b) (flat_walks n s x every kind rest b)
        (walk-none around part (left-lacks (standing layer around part) (standing_in layer around rest) e) b) (walks-none around rest (right-lacks (standing layer around part) (standing_in layer around rest) e) b)

  two-none : (ps qs : List _) → list_any (flat_concerns kind x) ps ≡ false → list_any (flat_concerns kind x) qs ≡ false → list_any (flat_concerns kind x) (ps ++ qs) ≡ false
  two-none ps qs h k = list_any-append (flat_concerns kind x) ps qs ∙ or_alike (list_any (flat_concerns kind x) ps) (list_any (flat_concerns kind x) qs) false false h k

  mutual
    concerns-none : (around : List ℕ) (act : FlatStmt) → lacks (standing layer around act) → list_any (flat_concerns kind x) (flat_assignments act) ≡ false
    concerns-none around (Assign which family left value at) e = no-concern (same_kind which kind) (nat_eq family x.family) _ (other-family (is_one_layer number layer) (nat_eq family x.family) here e)
    concerns-none around (If' test l (more_of-FlatStmt left end_of-FlatStmt) r (more_of-FlatStmt right end_of-FlatStmt)) e =
        two-none (flat_assignments left) (flat_assignments right)
        (concerns-none around left (left-lacks (standing layer around left) (standing layer around right) e)) (concerns-none around right (right-lacks (standing layer around left) (standing layer around right) e))
    concerns-none around (Block' shape parts) e = all-none around parts e
    concerns-none around (Default' l (more_of-FlatStmt left end_of-FlatStmt) r (more_of-FlatStmt right end_of-FlatStmt)) e =
        two-none (flat_assignments left) (flat_assignments right)
        (concerns-none around left (left-lacks (standing layer around left) (standing layer around right) e)) (concerns-none around right (right-lacks (standing layer around left) (standing layer around right) e))
    concerns-none around (Forall' var over shape (more_of-FlatStmt body end_of-FlatStmt)) e = concerns-none (var ∷ around) body e

    all-none : {m : _} (around : List ℕ) (parts : Row_of-FlatStmt m) → lacks (standing_in layer around parts) → list_any (flat_concerns kind x) (flat_assignments_in parts) ≡ false
    all-none around end_of-FlatStmt e = refl
    all-none around (more_of-FlatStmt part rest) e =
        two-none (flat_assignments part) (flat_assignments_in rest) (concerns-none around part (left-lacks (standing layer around part) (standing_in layer around rest) e))
        (all-none around rest (right-lacks (standing layer around part) (standing_in layer around rest) e))

-- ---- definition sets

module _ (flat_text : FlatText) (sizes : Sizes) (layer : Option Name) (x : FlatElement) (every : List Value) where
  abbrev number : Option ℕ
  number = option_map (layer_number flat_text.layers) layer

  abbrev acts : List Statement → List FlatStmt
  acts set = map (λ (s : Statement). s.act) (filter (λ s. is_one_layer number s.layer) set)

  abbrev lacking : List Statement → Type 0
  lacking set = list_any (of_standing number x.family) (flat_map assigned_by set) ≡ false

  lacks-here : (s : Statement) (set : List Statement) → lacking (s ∷ set) → list_any (of_standing number x.family) (assigned_by s) ≡ false
  lacks-here s set e =
      not_left (list_any (of_standing number x.family) (assigned_by s)) (list_any (of_standing number x.family) (flat_map assigned_by set)) (sym (list_any-append (of_standing number x.family) (assigned_by s) (flat_map assigned_by set)) ∙ e)

  lacks-behind : (s : Statement) (set : List Statement) → lacking (s ∷ set) → lacking set
  lacks-behind s set e =
      not_right (list_any (of_standing number x.family) (assigned_by s)) (list_any (of_standing number x.family) (flat_map assigned_by set)) (sym (list_any-append (of_standing number x.family) (assigned_by s) (flat_map assigned_by set)) ∙ e)

  module _ (kind : Kind) where
    set-walk : (t : FlatState) (set : List Statement) → lacking set → first (map (λ act. flat_walk (numbers_of flat_text sizes) t x every kind act []) (acts set)) ≡ None
    set-walk t [] e = refl
    set-walk t (s ∷ set) e = by_test (is_one_layer number s.layer) refl (set-walk t set (lacks-behind s set e))
      where
        by_test : (b : Bool) → is_one_layer number s.layer ≡ b → first (map (λ act. flat_walk (numbers_of flat_text sizes) t x every kind act []) (acts set)) ≡ None →
            first (map (λ act. flat_walk (numbers_of flat_text sizes) t x every kind act []) (map (λ (s : Statement). s.act) (cond b (s ∷ filter (λ s. is_one_layer number s.layer) set) (filter (λ s. is_one_layer number s.layer) set)))) ≡ None
        by_test true h rest =
            ap (λ w. first_of w (first (map (λ act. flat_walk (numbers_of flat_text sizes) t x every kind act []) (acts set)))) (walk-none (numbers_of flat_text sizes) t x every kind number s.layer h [] s.act (lacks-here s set e) []) ∙ rest
        by_test false h rest = rest

    set-concern : (t : FlatState) (set : List Statement) → lacking set → list_any (λ act. list_any (flat_concerns kind x) (flat_assignments act)) (acts set) ≡ false
    set-concern t [] e = refl
    set-concern t (s ∷ set) e = by_test (is_one_layer number s.layer) refl (set-concern t set (lacks-behind s set e))
      where
        by_test : (b : Bool) → is_one_layer number s.layer ≡ b → list_any (λ act. list_any (flat_concerns kind x) (flat_assignments act)) (acts set) ≡ false →
            list_any (λ act. list_any (flat_concerns kind x) (flat_assignments act)) (map (λ (s : Statement). s.act) (cond b (s ∷ filter (λ s. is_one_layer number s.layer) set) (filter (λ s. is_one_layer number s.layer) set))) ≡ false
        by_test true h rest =
            or_alike (list_any (flat_concerns kind x) (flat_assignments s.act)) (list_any (λ act. list_any (flat_concerns kind x) (flat_assignments act)) (acts set)) false false
            (concerns-none (numbers_of flat_text sizes) t x every kind number s.layer h [] s.act (lacks-here s set e)) rest
        by_test false h rest = rest

    flat_text-none : (t : FlatState) → lacking (statements_of flat_text) → flat_text_walk flat_text sizes t layer x every kind ≡ None
    flat_text-none t e = sym (ap (λ l. first (map (λ act. flat_walk (numbers_of flat_text sizes) t x every kind act []) l)) (set-acts number 0 flat_text.items)) ∙ set-walk t (statements_of flat_text) e

    flat_text-unconcerned : (t : FlatState) → lacking (statements_of flat_text) → flat_text_is_concerned flat_text sizes layer x every kind ≡ false
    flat_text-unconcerned t e = sym (ap (list_any (λ act. list_any (flat_concerns kind x) (flat_assignments act))) (set-acts number 0 flat_text.items)) ∙ set-concern t (statements_of flat_text) e

  stepped-free : (before : Option FlatState) (now : FlatState) → lacking (statements_of flat_text) → flat_text_stepped flat_text sizes layer x every before now ≡ every
  stepped-free None now e = ap (λ w. unwrap_or w every) (flat_text-none Init now e)
  stepped-free (Some old) now e =
      ap (λ w. unwrap_or w (flat_text_kept flat_text sizes layer x every old)) (flat_text-none Next old e) ∙ ap (λ b. cond b (old x.family x.indexes ∷ []) every) (flat_text-unconcerned Next now e)

  free : (before : Option FlatState) (now : FlatState) → lacking (statements_of flat_text) → flat_text_allowed flat_text sizes layer x every before now ≡ every
  free before now e =
      ap (λ b. cond b (unwrap_or (flat_text_walk flat_text sizes now layer x every Comb) every) (flat_text_stepped flat_text sizes layer x every before now)) (flat_text-unconcerned Comb now e) ∙ stepped-free before now e

  heads-alike : (a b : Head) → same_definition a b ≡ true → of_head number x.family a ≡ of_head number x.family b
  heads-alike a b e = by_parts (is_one_layer a.layer b.layer) (nat_eq a.family b.family) refl refl e
    where
      layer-is : (k l : Option ℕ) → is_one_layer k l ≡ true → k ≡ l
      layer-is None None h = refl
      layer-is (Some k) (Some l) h = ap Some (number-is k l h)
        where
          number-is : (k l : ℕ) → nat_eq k l ≡ true → k ≡ l
          number-is k l h = grind arith
      layer-is None (Some l) h = absurd (cc (h))
      layer-is (Some k) None h = absurd (cc (h))

      family-is : (k l : ℕ) → nat_eq k l ≡ true → k ≡ l
      family-is k l h = grind arith

      by_parts : (p q : Bool) → is_one_layer a.layer b.layer ≡ p → nat_eq a.family b.family ≡ q → (p && q) ≡ true → of_head number x.family a ≡ of_head number x.family b
      by_parts true true h k e = ap (λ l. is_one_layer number l && nat_eq a.family x.family) (layer-is a.layer b.layer h) ∙ ap (λ f. is_one_layer number b.layer && nat_eq f x.family) (family-is a.family b.family k)
      by_parts true false h k e = absurd (cc (e))
      by_parts false q h k e = absurd (cc (e))

  defs-any : (heads : List Head) → list_any (is_of_family number x.family) (map (def_of flat_text) heads) ≡ list_any (of_head number x.family) heads
  defs-any [] = refl
  defs-any (h ∷ heads) = ap (λ b. of_head number x.family h || b) (defs-any heads)

  pub free-without : list_any (is_of_family number x.family) (design_of_flat_text flat_text).defs ≡ false → (before : Option FlatState) (now : FlatState) → flat_text_allowed flat_text sizes layer x every before now ≡ every
  free-without e before now =
      free before now
      (sym (all-heads-any number x.family (statements_of flat_text))
      ∙ none-before same_definition (of_head number x.family) heads-alike (flat_map heads_of (statements_of flat_text)) (sym (defs-any (first_heads flat_text)) ∙ e))
