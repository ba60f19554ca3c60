-- The one claim of an induction among the claims of `main`.
use Rattle.std.proofs.Common.{◌≡◌, ◌+◌, ◌==◌, ℕ, List, [], ◌∷◌, ◌++◌, map, flat_map, filter, length, Option, Some, None, Bool, true, false, ◌&&◌, cond, if◌then◌else◌, refl, sym, ap, ◌∙◌, subst, arith}
use Rattle.std.specs.Str.{bytes_eq}
use Rattle.std.specs.List.{AllByRecursion, list_any}
use Rattle.std.specs.Option.{option_map}
use Rattle.std.proofs.lemmas.Bool.{eq-eqb}
use Rattle.std.proofs.lemmas.List.{length-append}
use Rattle.smv_core.specs.Values.{Name}
use Rattle.smv_core.specs.FlatOrder.{main}
use Rattle.smv_core.specs.declared.tree.Word.{Word}
use Rattle.smv_core.specs.declared.tree.Text.{Text}
use Rattle.smv_core.specs.declared.tree.Top.{Top}
use Rattle.smv_core.specs.declared.tree.Top.TheVariants.{SetType, Alias, Module}
use Rattle.smv_core.specs.declared.tree.TypeExpr.{TypeExpr}
use Rattle.smv_core.specs.declared.tree.Expr.{Expr}
use Rattle.smv_core.specs.declared.tree.Item.{Item, Declare, Instance, Layer, Forall', Block', Claim, Split, Using, Act, Row_of-Item, end_of-Item, more_of-Item}
use Rattle.law_lists.proofs.Each.{each_weaker}
use Rattle.law_exchanged.specs.Changed.{changed_item, changed_items, changed_top, changed_text, count_item, count_items, count_list, count_tops, put_in}
use Rattle.law_induction.specs.Strengthened.{is_main, is_named}
use Rattle.law_strengthened_texts.specs.Stronger.{Found, claims_in, all_claims_in, main_claims, ordset_named, innermost, if_only, induction}

-- ---- lists

filter-append : {X : Type 0} (p : X → Bool) (xs ys : List X) → filter p (xs ++ ys) ≡ filter p xs ++ filter p ys
filter-append p [] ys = refl
filter-append p (x ∷ xs) ys = ap (λ l. cond (p x) (x ∷ l) l) (filter-append p xs ys) ∙ at (p x)
  where
    at : (b : Bool) → cond b (x ∷ filter p xs ++ filter p ys) (filter p xs ++ filter p ys) ≡ cond b (x ∷ filter p xs) (filter p xs) ++ filter p ys
    at true = refl
    at false = refl

filter-both : {X : Type 0} (p q : X → Bool) (xs : List X) → filter (λ x. p x && q x) xs ≡ filter q (filter p xs)
filter-both p q [] = refl
filter-both p q (x ∷ xs) = ap (λ l. cond (p x && q x) (x ∷ l) l) (filter-both p q xs) ∙ at (p x)
  where
    at : (b : Bool) → cond (b && q x) (x ∷ filter q (filter p xs)) (filter q (filter p xs)) ≡ filter q (cond b (x ∷ filter p xs) (filter p xs))
    at true = refl
    at false = refl

-- what holds of all that pass holds of each that does
passing : {X : Type 0} (p : X → Bool) (Q : X → Type 0) (xs : List X) → AllByRecursion Q (filter p xs) → AllByRecursion (λ x. p x ≡ true → Q x) xs
passing p Q [] h = tt
passing p Q (x ∷ xs) h = by_test (p x) refl h (passing p Q xs)
  where
    by_test : (b : Bool) → p x ≡ b → AllByRecursion Q (cond b (x ∷ filter p xs) (filter p xs)) → (AllByRecursion Q (filter p xs) → AllByRecursion (λ x. p x ≡ true → Q x) xs) → (p x ≡ true → Q x) × AllByRecursion (λ x. p x ≡ true → Q x) xs
    by_test true e k rest = (λ t. k.0, rest k.1)
    by_test false e k rest = (λ t. absurd (cc (e, t)), rest k)

each-front : {X : Type 0} (P : X → Type 0) (xs ys : List X) → AllByRecursion P (xs ++ ys) → AllByRecursion P xs
each-front P [] ys h = tt
each-front P (x ∷ xs) ys h = (h.0, each-front P xs ys h.1)

each-behind : {X : Type 0} (P : X → Type 0) (xs ys : List X) → AllByRecursion P (xs ++ ys) → AllByRecursion P ys
each-behind P [] ys h = h
each-behind P (x ∷ xs) ys h = each-behind P xs ys h.1

-- ---- how many claims pass a test

none-more : (n : ℕ) → 0 + n ≡ n
none-more n = omega arith

module _ (test : Word → Bool) where
  abbrev passes : Found → Bool
  passes c = test c.word

  sum-kept : (xs ys : List Found) (m n : ℕ) → m ≡ length (filter passes xs) → n ≡ length (filter passes ys) → m + n ≡ length (filter passes (xs ++ ys))
  sum-kept xs ys m n p q = rw (p, q) (sym (ap length (filter-append passes xs ys) ∙ length-append (filter passes xs) (filter passes ys)))

  mutual
    unfolding count_item

    count-item : (around : List (Word × TypeExpr)) (a : Item) → count_item test a ≡ length (filter passes (claims_in around a))
    count-item around (Declare role names of at) = refl
    count-item around (Instance names m args at) = refl
    count-item around (Layer word body at) = refl
    count-item around (Forall' word over shape items at) = count-row (around ++ (word, over) ∷ []) items
    count-item around (Block' shape items) = count-row around items
    count-item around (Claim word vars body at) = by_test (test word)
      where
        by_test : (b : Bool) → (let n : ℕ = if b then 1 else 0 in let l : List Found = cond b (record { word = word; vars = vars; binders = around } ∷ []) [] in n ≡ length l)
        by_test true = refl
        by_test false = refl
    count-item around (Split word vars of pairs at) = refl
    count-item around (Using uses proves at) = refl
    count-item around (Act act) = refl

    count-row : {m : _} (around : List (Word × TypeExpr)) (row : Row_of-Item m) → count_items test row ≡ length (filter passes (all_claims_in around row))
    count-row around end_of-Item = refl
    count-row around (more_of-Item a rest) = sum-kept (claims_in around a) (all_claims_in around rest) (count_item test a) (count_items test rest) (count-item around a) (count-row around rest)

  count-body : (items : List Item) → count_list test items ≡ length (filter passes (flat_map (claims_in []) items))
  count-body [] = refl
  count-body (a ∷ items) = sum-kept (claims_in [] a) (flat_map (claims_in []) items) (count_item test a) (count_list test items) (count-item [] a) (count-body items)

  pub count-main : (tops : List Top) → count_tops is_main test tops ≡ length (filter passes (main_claims tops))
  count-main [] = refl
  count-main (SetType word ordered span at ∷ tops) = none-more (count_tops is_main test tops) ∙ count-main tops
  count-main (Alias word of at ∷ tops) = none-more (count_tops is_main test tops) ∙ count-main tops
  count-main (Module word formals body at ∷ tops) = by_test (bytes_eq word.name main) (count-main tops)
    where
      by_test : (b : Bool) → count_tops is_main test tops ≡ length (filter passes (main_claims tops)) →
          (if b then count_list test body else 0) + count_tops is_main test tops ≡ length (filter passes ((if b then flat_map (claims_in []) body else []) ++ main_claims tops))
      by_test true h = sum-kept (flat_map (claims_in []) body) (main_claims tops) (count_list test body) (count_tops is_main test tops) (count-body body) h
      by_test false h = none-more (count_tops is_main test tops) ∙ h

-- ---- what is changed where two tests are alike

module _ (test other : Word → Bool) (y : Expr) where
  abbrev IsAlike : Found → Type 0
  IsAlike c = test c.word ≡ other c.word

  mutual
    unfolding changed_item

    same-item : (around : List (Word × TypeExpr)) (a : Item) → AllByRecursion IsAlike (claims_in around a) → changed_item (put_in test y) a ≡ changed_item (put_in other y) a
    same-item around (Declare role names of at) h = refl
    same-item around (Instance names m args at) h = refl
    same-item around (Layer word body at) h = refl
    same-item around (Forall' word over shape items at) h = ap (λ l. Forall' word over shape l at) (same-row (around ++ (word, over) ∷ []) items h)
    same-item around (Block' shape items) h = ap (λ l. Block' shape l) (same-row around items h)
    same-item around (Claim word vars body at) h = ap (λ (b : Bool). Claim word vars (if b then y else body) at) h.0
    same-item around (Split word vars of pairs at) h = refl
    same-item around (Using uses proves at) h = refl
    same-item around (Act act) h = refl

    same-row : {m : _} (around : List (Word × TypeExpr)) (row : Row_of-Item m) → AllByRecursion IsAlike (all_claims_in around row) → changed_items (put_in test y) row ≡ changed_items (put_in other y) row
    same-row around end_of-Item h = refl
    same-row around (more_of-Item a rest) h =
        rw (same-item around a (each-front IsAlike (claims_in around a) (all_claims_in around rest) h), same-row around rest (each-behind IsAlike (claims_in around a) (all_claims_in around rest) h)) refl

  same-body : (items : List Item) → AllByRecursion IsAlike (flat_map (claims_in []) items) → map (changed_item (put_in test y)) items ≡ map (changed_item (put_in other y)) items
  same-body [] h = refl
  same-body (a ∷ items) h =
      rw (same-item [] a (each-front IsAlike (claims_in [] a) (flat_map (claims_in []) items) h), same-body items (each-behind IsAlike (claims_in [] a) (flat_map (claims_in []) items) h)) refl

  same-tops : (tops : List Top) → AllByRecursion IsAlike (main_claims tops) → map (changed_top is_main (put_in test y)) tops ≡ map (changed_top is_main (put_in other y)) tops
  same-tops [] h = refl
  same-tops (SetType word ordered span at ∷ tops) h = ap (λ l. SetType word ordered span at ∷ l) (same-tops tops h)
  same-tops (Alias word of at ∷ tops) h = ap (λ l. Alias word of at ∷ l) (same-tops tops h)
  same-tops (Module word formals body at ∷ tops) h = by_test (bytes_eq word.name main) h (same-tops tops)
    where
      by_test : (b : Bool) → AllByRecursion IsAlike ((if b then flat_map (claims_in []) body else []) ++ main_claims tops) →
          (AllByRecursion IsAlike (main_claims tops) → map (changed_top is_main (put_in test y)) tops ≡ map (changed_top is_main (put_in other y)) tops) →
          Module word formals (if b then map (changed_item (put_in test y)) body else body) at ∷ map (changed_top is_main (put_in test y)) tops
          ≡ Module word formals (if b then map (changed_item (put_in other y)) body else body) at ∷ map (changed_top is_main (put_in other y)) tops
      by_test true k rest =
          ap (λ l. Module word formals l at ∷ map (changed_top is_main (put_in test y)) tops) (same-body body (each-front IsAlike (flat_map (claims_in []) body) (main_claims tops) k))
          ∙ ap (λ l. Module word formals (map (changed_item (put_in other y)) body) at ∷ l) (rest (each-behind IsAlike (flat_map (claims_in []) body) (main_claims tops) k))
      by_test false k rest = ap (λ l. Module word formals body at ∷ l) (rest k)

  pub same-text : (x : Text) → AllByRecursion IsAlike (main_claims x.tops) → changed_text is_main (put_in test y) x ≡ changed_text is_main (put_in other y) x
  same-text x h = ap (λ l. record { tops = l }) (same-tops x.tops h)

-- ---- the claim of an induction

pair-first : (p q : Found × Name) → p ≡ q → p.0 ≡ q.0
pair-first p q e = ap (λ (r : Found × Name). r.0) e

pair-second : (p q : Found × Name) → p ≡ q → p.1 ≡ q.1
pair-second p q e = ap (λ (r : Found × Name). r.1) e

module _ (x : Text) (name var : Name) (c : Found) (set : Name) (found : induction x.tops name var ≡ Some (c, set)) where
  abbrev named : Found → Bool
  named d = bytes_eq d.word.name name

  -- the test that this claim passes alone
  abbrev pub this_claim : Word → Bool
  this_claim word = is_named name word && word.at == c.word.at

  only : filter named (main_claims x.tops) ≡ c ∷ []
  only = by_list (filter named (main_claims x.tops)) found
    where
      by_set : (d : Found) (o : Option Name) → option_map {U = Found × Name} (λ s. (d, s)) o ≡ Some (c, set) → d ≡ c
      by_set d None e = absurd (cc (e))
      by_set d (Some s) e = pair-first (d, s) (c, set) (cc (e))

      by_test : (d : Found) (b : Bool) → (if b then option_map {U = Found × Name} (λ s. (d, s)) (ordset_named x.tops (innermost var d.binders)) else None) ≡ Some (c, set) → d ≡ c
      by_test d true e = by_set d (ordset_named x.tops (innermost var d.binders)) e
      by_test d false e = absurd (cc (e))

      by_list : (l : List Found) → if_only x.tops var l ≡ Some (c, set) → l ≡ c ∷ []
      by_list [] e = absurd (cc (e))
      by_list (d ∷ []) e = ap (λ z. z ∷ []) (by_test d (list_any (λ word. bytes_eq word.name var) d.vars) e)
      by_list (d ∷ f ∷ l) e = absurd (cc (e))

  only-this : filter (λ d. this_claim d.word) (main_claims x.tops) ≡ c ∷ []
  only-this =
      filter-both named (λ (d : Found). d.word.at == c.word.at) (main_claims x.tops) ∙ ap (filter (λ (d : Found). d.word.at == c.word.at)) only
      ∙ ap (λ b. cond b (c ∷ []) []) (eq-eqb c.word.at c.word.at refl)

  pub one-claim : count_tops is_main this_claim x.tops ≡ 1
  one-claim = count-main this_claim x.tops ∙ ap length only-this

  same_named : (b t : Bool) → (b ≡ true → t ≡ true) → (b && t) ≡ b
  same_named true t h = h refl
  same_named false t h = refl

  -- the claims of this name are that claim
  pub alike : AllByRecursion (λ (d : Found). this_claim d.word ≡ is_named name d.word) (main_claims x.tops)
  alike = each_weaker (λ (d : Found). named d ≡ true → (d.word.at == c.word.at) ≡ true) (λ (d : Found). this_claim d.word ≡ is_named name d.word) (λ d h. same_named (named d) (d.word.at == c.word.at) h) (main_claims x.tops)
      (passing named (λ (d : Found). (d.word.at == c.word.at) ≡ true) (main_claims x.tops) (subst (AllByRecursion (λ (d : Found). (d.word.at == c.word.at) ≡ true)) (sym only) (eq-eqb c.word.at c.word.at refl, tt)))

  -- the innermost binder of the variable is over the ordset
  over : ordset_named x.tops (innermost var c.binders) ≡ Some set
  over = by_test (list_any (λ word. bytes_eq word.name var) c.vars) (ap (if_only x.tops var) (sym only) ∙ found)
    where
      by_set : (o : Option Name) → option_map {U = Found × Name} (λ s. (c, s)) o ≡ Some (c, set) → o ≡ Some set
      by_set None e = absurd (cc (e))
      by_set (Some s) e = ap (λ n. Some n) (pair-second (c, s) (c, set) (cc (e)))

      by_test : (b : Bool) → (if b then option_map {U = Found × Name} (λ s. (c, s)) (ordset_named x.tops (innermost var c.binders)) else None) ≡ Some (c, set) → ordset_named x.tops (innermost var c.binders) ≡ Some set
      by_test true e = by_set (ordset_named x.tops (innermost var c.binders)) e
      by_test false e = absurd (cc (e))

  -- and so it is for each claim of this name
  pub named-over : AllByRecursion (λ (d : Found). bytes_eq d.word.name name ≡ true → ordset_named x.tops (innermost var d.binders) ≡ Some set) (main_claims x.tops)
  named-over = passing named (λ (d : Found). ordset_named x.tops (innermost var d.binders) ≡ Some set) (main_claims x.tops)
      (subst (AllByRecursion (λ (d : Found). ordset_named x.tops (innermost var d.binders) ≡ Some set)) (sym only) (over, tt))
