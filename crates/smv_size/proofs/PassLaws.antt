-- Sizes of one pass that a round leaves as they are, are those of all rounds.
use Rattle.std.proofs.Common.{◌≡◌, ℕ, zero, suc, ◌+◌, ◌*◌, ◌<◌, ◌≤◌, Bool, true, false, cond, ◌||◌, eqb, List, [], ◌∷◌, ◌++◌, map, length, set, length-append, refl, ap, sym, subst, ◌∙◌, arith, add-one}
use Rattle.std.specs.Prelude.{Option, Some, None, min, flat_map, sum, option_and_then, slice_get, unwrap_or}
use Rattle.std.specs.List.{list_any}
use Rattle.std.proofs.lemmas.Bool.Decides.{nat_tests}
use Rattle.std.proofs.lemmas.Grind.{common_steps}
use Rattle.std.proofs.lemmas.List.{length-map}
use Rattle.std.proofs.lemmas.List.Folds.{list_any-append}
use Rattle.std.proofs.Math.Nat.{mul-le-mul_left}
use Rattle.name_index.specs.Position.{position}
use Rattle.smv_core.specs.Values.{Name}
use Rattle.smv_core.specs.FlatOrder.{Body}
use Rattle.smv_core.specs.declared.tree.Word.{Word}
use Rattle.smv_core.specs.declared.tree.Item.{Item, Declare, Instance, Layer, Forall', Block', Claim, Split, Using, Act, Row_of-Item, end_of-Item, more_of-Item}
use Rattle.smv_mentions.specs.Sizes.{Sized, Thing, instance, is_too_wide, body_named, things_of_item, things_in, statements_of_item, statements_of_items, statements_in}
use Rattle.smv_size.specs.Limits.{capped}
use Rattle.smv_size.specs.Summary.{things_told, module_names, module_bodies, no_module, told_of, body_told, empty_told, AreTold}
use Rattle.smv_size.specs.Pass.{AreNoMore, AreAtMost}
use Rattle.smv_size.specs.declared.modules.ModuleSize.{ModuleSize}
use Rattle.smv_size.proofs.CountLaws.{capped-factor}
use Rattle.smv_size.proofs.SummaryLaws.{same_size, same_things}
use Rattle.smv_size.proofs.RoundLaws.{no_body, named-body, told-named, told-empty}

-- ---- fewer things

alike : (xs : List Thing) → AreNoMore xs xs
alike xs = ((omega arith), λ e. e)

none : (xs : List Thing) → AreNoMore [] xs
none xs = ((omega arith), λ e. cc)

then : (xs ys zs : List Thing) → AreNoMore xs ys → AreNoMore ys zs → AreNoMore xs zs
then xs ys zs h k = ((omega (arith, h.0, k.0)), λ e. k.1 (h.1 e))

either : (p p' q q' : Bool) → (p ≡ true → p' ≡ true) → (q ≡ true → q' ≡ true) → p || q ≡ true → p' || q' ≡ true
either true p' q q' h k e = ap (λ b. b || q') (h refl)
either false true q q' h k e = refl
either false false q q' h k e = k e

both : (xs xs' ys ys' : List Thing) → AreNoMore xs ys → AreNoMore xs' ys' → AreNoMore (xs ++ xs') (ys ++ ys')
both xs xs' ys ys' h k = (
  (let a = length-append xs xs' in let b = length-append ys ys' in omega (arith, a, b, h.0, k.0)),
  λ e. list_any-append is_too_wide ys ys' ∙ either (list_any is_too_wide xs) (list_any is_too_wide ys) (list_any is_too_wide xs') (list_any is_too_wide ys') h.1 k.1 (sym (list_any-append is_too_wide xs xs') ∙ e),
)

one_more : (xs ys : List Thing) → AreNoMore xs ys → AreNoMore (instance ∷ xs) (instance ∷ ys)
one_more xs ys h = ((omega (arith, h.0)), h.1)

-- ---- fewer statements

product : (w a x y : ℕ) → capped x ≤ capped y → capped (w * (a + x)) ≤ capped (w * (a + y))
product w a x y h =
    let sum : capped (a + x) ≤ capped (a + y) = omega (arith, h) in
    let times : w * capped (a + x) ≤ w * capped (a + y) = mul-le-mul_left w sum in
    let e = capped-factor w (a + x) in
    let f = capped-factor w (a + y) in
    omega (arith, times, e, f)

sum-cons : (n : ℕ) (more : List ℕ) → sum (n ∷ more) ≡ n + sum more
sum-cons n more = grind (arith, common_steps)

-- ---- where less is met in the modules, less is met in a body

module _ (known : List (Name × Sized)) (bodies : List (Name × Body)) where
  module _ (f g : Name → List Thing) (fewer : (name : Name) → AreNoMore (f name) (g name)) where
    fewer-instances : (words : List Word) (name : Name) → AreNoMore (flat_map (λ word. instance ∷ f name) words) (flat_map (λ word. instance ∷ g name) words)
    fewer-instances [] name = alike []
    fewer-instances (word ∷ words) name =
        both (instance ∷ f name) (flat_map (λ (word : Word). instance ∷ f name) words) (instance ∷ g name) (flat_map (λ (word : Word). instance ∷ g name) words) (one_more (f name) (g name) (fewer name)) (fewer-instances words name)

    fewer-item : (item : Item) → AreNoMore (things_of_item known bodies f item) (things_of_item known bodies g item)
    fewer-item (Declare role words of at) = alike (things_of_item known bodies f (Declare role words of at))
    fewer-item (Instance words name args at) = fewer-instances words name.name
    fewer-item (Layer word body at) = alike []
    fewer-item (Forall' var over shape body at) = alike []
    fewer-item (Block' shape items) = alike []
    fewer-item (Claim word brackets body at) = alike []
    fewer-item (Split word brackets of pairs at) = alike []
    fewer-item (Using uses proves at) = alike []
    fewer-item (Act act) = alike []

    fewer-things : (items : List Item) → AreNoMore (flat_map (things_of_item known bodies f) items) (flat_map (things_of_item known bodies g) items)
    fewer-things [] = alike []
    fewer-things (item ∷ items) =
        both (things_of_item known bodies f item) (flat_map (things_of_item known bodies f) items) (things_of_item known bodies g item) (flat_map (things_of_item known bodies g) items) (fewer-item item) (fewer-things items)

  module _ (f g : Name → ℕ) (fewer : (name : Name) → capped (f name) ≤ capped (g name)) where
    mutual
      smaller-item : (item : Item) → capped (statements_of_item known bodies f item) ≤ capped (statements_of_item known bodies g item)
      smaller-item (Declare role words of at) = omega arith
      smaller-item (Instance words name args at) = product (length words) (length (body_named known bodies name.name).formals) (f name.name) (g name.name) (fewer name.name)
      smaller-item (Layer word body at) = omega arith
      smaller-item (Forall' var over shape (more_of-Item body end_of-Item) at) = let h = smaller-item body in omega (arith, h)
      smaller-item (Block' shape items) = let h = smaller-row items in omega (arith, h)
      smaller-item (Claim word brackets body at) = omega arith
      smaller-item (Split word brackets of pairs at) = omega arith
      smaller-item (Using uses proves at) = omega arith
      smaller-item (Act act) = omega arith

      smaller-row : {m : _} (row : Row_of-Item m) → capped (statements_of_items known bodies f row) ≤ capped (statements_of_items known bodies g row)
      smaller-row end_of-Item = omega arith
      smaller-row (more_of-Item part rest) = let h = smaller-item part in let k = smaller-row rest in omega (arith, h, k)

    smaller-sum : (items : List Item) → capped (sum (map (statements_of_item known bodies f) items)) ≤ capped (sum (map (statements_of_item known bodies g) items))
    smaller-sum [] = omega arith
    smaller-sum (item ∷ items) =
        let h = smaller-item item in
        let k = smaller-sum items in
        let first = sum-cons (statements_of_item known bodies f item) (map (statements_of_item known bodies f) items) in
        let second = sum-cons (statements_of_item known bodies g item) (map (statements_of_item known bodies g) items) in
        omega (arith, h, k, first, second)

  -- a longer chain of instances meets no less
  more-things : (n : ℕ) (name : Name) → AreNoMore (things_in known bodies n name) (things_in known bodies (suc n) name)
  more-things zero name = none (things_in known bodies 1 name)
  more-things (suc n) name = fewer-things (things_in known bodies n) (things_in known bodies (suc n)) (more-things n) (body_named known bodies name).items

  more-statements : (n : ℕ) (name : Name) → capped (statements_in known bodies n name) ≤ capped (statements_in known bodies (suc n) name)
  more-statements zero name = omega arith
  more-statements (suc n) name = smaller-sum (statements_in known bodies n) (statements_in known bodies (suc n)) (more-statements n) (body_named known bodies name).items

-- ---- the pass

-- the place is this one
abbrev is_place : Option ℕ → ℕ → Bool
is_place None place = false
is_place (Some other) place = eqb other place

set-here : {A : Type 0} (xs : List A) (i : ℕ) (x : A) → i < length xs → slice_get (set xs i x) i ≡ Some x
set-here [] i x h = absurd (omega (arith, h))
set-here (y ∷ xs) zero x h = refl
set-here (y ∷ xs) (suc i) x h = set-here xs i x (omega (arith, h))

set-other : {A : Type 0} (xs : List A) (i j : ℕ) (x : A) → (j ≡ i → ⊥) → slice_get (set xs i x) j ≡ slice_get xs j
set-other [] i j x other = refl
set-other (y ∷ xs) zero zero x other = absurd (other refl)
set-other (y ∷ xs) zero (suc j) x other = refl
set-other (y ∷ xs) (suc i) zero x other = refl
set-other (y ∷ xs) (suc i) (suc j) x other = set-other xs i j x (λ e. other (ap suc e))

module _ (known : List (Name × Sized)) (bodies : List (Name × Body)) (names : List Name) where
  -- before the pass nothing is told
  pub pass-start : (sizes : List ModuleSize) → names ≡ module_names bodies → sizes ≡ map empty_told (module_bodies bodies) → AreAtMost known bodies names sizes 0
  pass-start sizes same e = record {
    things = things_in known bodies 0;
    statements = statements_in known bodies 0;
    told = told-empty known bodies names same sizes e;
    few = λ name. alike [];
    small = λ name. omega arith;
  }

  pub pass-stays : (sizes : List ModuleSize) (n : ℕ) → AreAtMost known bodies names sizes n → AreAtMost known bodies names sizes (n + 1)
  pass-stays sizes n most = subst (λ k. AreAtMost known bodies names sizes k) (sym (add-one n)) (record {
    things = most.things;
    statements = most.statements;
    told = most.told;
    few = λ name. then (most.things name) (things_in known bodies n name) (things_in known bodies (suc n) name) (most.few name) (more-things known bodies n name);
    small = λ name. let h = most.small name in let k = more-statements known bodies n name in omega (arith, h, k);
  })

  module _ (same : names ≡ module_names bodies) (sizes : List ModuleSize) (n place : ℕ) (body : Body) (at : slice_get (module_bodies bodies) place ≡ Some body) (within : place < length sizes) (most : AreAtMost known bodies names sizes n) where
    body_at : (name : Name) → position names name ≡ Some place → body_named known bodies name ≡ body
    body_at name e =
        ap (λ o. unwrap_or o no_body) (sym (named-body bodies name)) ∙ ap (λ o. unwrap_or (option_and_then (λ i. slice_get (module_bodies bodies) i) o) no_body) (sym (ap (λ ns. position ns name) same) ∙ e)
        ∙ ap (λ o. unwrap_or o no_body) at

    abbrev here : List Thing
    here = flat_map (things_of_item known bodies most.things) body.items

    abbrev count : ℕ
    count = sum (map (statements_of_item known bodies most.statements) body.items)

    -- what is met in the module of this name, where this is its place
    abbrev next_things : Name → List Thing
    next_things name = cond (is_place (position names name) place) here (most.things name)

    abbrev next_statements : Name → ℕ
    next_statements name = cond (is_place (position names name) place) count (most.statements name)

    -- one module is told of from what was told so far
    pub pass-next : (size : ModuleSize) → size ≡ body_told known bodies most.things most.statements body → AreAtMost known bodies names (set sizes place size) (n + 1)
    pass-next size e = subst (λ k. AreAtMost known bodies names (set sizes place size) k) (sym (add-one n)) (record {
      things = next_things;
      statements = next_statements;
      told = λ name. told name (position names name) refl (most.told name);
      few = λ name. few name (position names name) refl (most.few name);
      small = λ name. small name (position names name) refl (most.small name);
    })
      where
        size_is : size ≡ body_told known bodies most.things most.statements body
        size_is = e

        told : (name : Name) (o : Option ℕ) → position names name ≡ o → unwrap_or (option_and_then (λ i. slice_get sizes i) o) no_module ≡ told_of known bodies (most.things name) (most.statements name) name
            → unwrap_or (option_and_then (λ i. slice_get (set sizes place size) i) o) no_module ≡ told_of known bodies (cond (is_place o place) here (most.things name)) (cond (is_place o place) count (most.statements name)) name
        told name None at before = before
        told name (Some i) at before = by (eqb i place) refl
          where
            by : (b : Bool) → eqb i place ≡ b → unwrap_or (slice_get (set sizes place size) i) no_module ≡ told_of known bodies (cond b here (most.things name)) (cond b count (most.statements name)) name
            by true is =
                let e : i ≡ place = grind (arith, nat_tests) in
                let is_body = body_at name (at ∙ ap Some e) in
                ap (λ k. unwrap_or (slice_get (set sizes place size) k) no_module) e ∙ ap (λ o. unwrap_or o no_module) (set-here sizes place size within) ∙ size_is
                ∙ ap (λ (b : Body). record { formals = capped (length b.formals); things = things_told here; statements = capped count }) (sym is_body)
            by false is = ap (λ o. unwrap_or o no_module) (set-other sizes place i size (λ e. let f : eqb i place ≡ true = grind (arith, nat_tests) in cc)) ∙ before

        few : (name : Name) (o : Option ℕ) → position names name ≡ o → AreNoMore (most.things name) (things_in known bodies n name) → AreNoMore (cond (is_place o place) here (most.things name)) (things_in known bodies (suc n) name)
        few name None at before = then (most.things name) (things_in known bodies n name) (things_in known bodies (suc n) name) before (more-things known bodies n name)
        few name (Some i) at before = by (eqb i place) refl
          where
            by : (b : Bool) → eqb i place ≡ b → AreNoMore (cond b here (most.things name)) (things_in known bodies (suc n) name)
            by true is =
                let e : i ≡ place = grind (arith, nat_tests) in
                subst (λ (b : Body). AreNoMore here (flat_map (things_of_item known bodies (things_in known bodies n)) b.items)) (sym (body_at name (at ∙ ap Some e))) (fewer-things known bodies most.things (things_in known bodies n) most.few body.items)
            by false is = then (most.things name) (things_in known bodies n name) (things_in known bodies (suc n) name) before (more-things known bodies n name)

        small : (name : Name) (o : Option ℕ) → position names name ≡ o → capped (most.statements name) ≤ capped (statements_in known bodies n name) → capped (cond (is_place o place) count (most.statements name)) ≤ capped (statements_in known bodies (suc n) name)
        small name None at before = let k = more-statements known bodies n name in omega (arith, before, k)
        small name (Some i) at before = by (eqb i place) refl
          where
            by : (b : Bool) → eqb i place ≡ b → capped (cond b count (most.statements name)) ≤ capped (statements_in known bodies (suc n) name)
            by true is =
                let e : i ≡ place = grind (arith, nat_tests) in
                subst (λ (b : Body). capped count ≤ capped (sum (map (statements_of_item known bodies (statements_in known bodies n)) b.items))) (sym (body_at name (at ∙ ap Some e)))
                (smaller-sum known bodies most.statements (statements_in known bodies n) most.small body.items)
            by false is = let k = more-statements known bodies n name in omega (arith, before, k)

  -- a round that changes nothing shows that no less is told than in all rounds
  module _ (same : names ≡ module_names bodies) (sizes : List ModuleSize) (n : ℕ) (most : AreAtMost known bodies names sizes n) (stays : sizes ≡ map (body_told known bodies most.things most.statements) (module_bodies bodies)) where
    abbrev again : Name → ModuleSize
    again name = body_told known bodies most.things most.statements (body_named known bodies name)

    equal : (name : Name) → again name ≡ told_of known bodies (most.things name) (most.statements name) name
    equal name = sym (told-named known bodies names same (body_told known bodies most.things most.statements) sizes refl stays name) ∙ most.told name

    all-things : (k : ℕ) (name : Name) → AreNoMore (things_in known bodies k name) (most.things name)
    all-things zero name = none (most.things name)
    all-things (suc k) name =
        let items = (body_named known bodies name).items in
        let round = flat_map (things_of_item known bodies most.things) items in
        let e = equal name in
        let count : min 4097 (length round) ≡ min 4097 (length (most.things name)) = ap (λ (s : ModuleSize). s.things.count) e in
        let wide : list_any is_too_wide round ≡ list_any is_too_wide (most.things name) = ap (λ (s : ModuleSize). s.things.wide) e in
        then (things_in known bodies (suc k) name) round (most.things name) (fewer-things known bodies (things_in known bodies k) most.things (all-things k) items) ((omega (arith, count)), λ h. sym wide ∙ h)

    all-statements : (k : ℕ) (name : Name) → capped (statements_in known bodies k name) ≤ capped (most.statements name)
    all-statements zero name = omega arith
    all-statements (suc k) name =
        let items = (body_named known bodies name).items in
        let count : capped (sum (map (statements_of_item known bodies most.statements) items)) ≡ capped (most.statements name) = ap (λ (s : ModuleSize). s.statements) (equal name) in
        let h = smaller-sum known bodies (statements_in known bodies k) most.statements (all-statements k) items in
        omega (arith, count, h)

    same_truth : (p q : Bool) → (p ≡ true → q ≡ true) → (q ≡ true → p ≡ true) → p ≡ q
    same_truth true q h k = sym (h refl)
    same_truth false true h k = k refl
    same_truth false false h k = refl

    pub pass-ends : AreTold known bodies names sizes n
    pass-ends name =
        let few = most.few name in
        let all = all-things n name in
        let small = most.small name in
        let every = all-statements n name in
        let things = things_in known bodies n name in
        let formals = capped (length (body_named known bodies name).formals) in
        most.told name
        ∙ same_size formals formals (things_told (most.things name)) (things_told things) (capped (most.statements name)) (capped (statements_in known bodies n name)) refl
        (same_things (min 4097 (length (most.things name))) (min 4097 (length things)) (list_any is_too_wide (most.things name)) (list_any is_too_wide things) (omega (arith, few.0, all.0)) (same_truth (list_any is_too_wide (most.things name)) (list_any is_too_wide things) few.1 all.1))
        (omega (arith, small, every))

-- as many texts as modules
pub as-many : {A : Type 0} (f : A → Body) (xs : List A) (bodies : List (Name × Body)) → map f xs ≡ module_bodies bodies → length xs ≡ length bodies
as-many f xs bodies e = sym (length-map xs f) ∙ ap (λ (l : List Body). length l) e ∙ length-map bodies (λ (top : Name × Body). top.1)
