-- What is told of families and instances, by their lists.
use Rattle.std.proofs.Common.{◌≡◌, ℕ, suc, ◌+◌, ◌*◌, ◌≤◌, Bool, true, false, cond, ◌||◌, List, [], ◌∷◌, ◌++◌, map, length, length-append, refl, ap, sym, ◌∙◌, arith, inl, inr, eqb}
use Rattle.std.specs.Prelude.{Option, Some, None, min, max, nat_lt, flat_map, option_map, unwrap_or}
use Rattle.std.specs.List.{list_any}
use Rattle.std.specs.Str.{bytes_eq}
use Rattle.std.proofs.lemmas.Bool.{cases_lt}
use Rattle.std.proofs.lemmas.Bool.Decides.{nat_tests}
use Rattle.std.proofs.lemmas.List.{append-nil, map-append}
use Rattle.std.proofs.lemmas.List.Folds.{list_any-append}
use Rattle.std.proofs.Math.Nat.{mul-le-mul_left, mul_comm}
use Rattle.smv_core.specs.Values.{Name}
use Rattle.smv_core.specs.Types.{find_name}
use Rattle.smv_mentions.specs.Sizes.{Extent, Sized, sized, under, Thing, family, instance, is_too_wide}
use Rattle.smv_size.specs.Limits.{capped}
use Rattle.smv_size.proofs.TurnLaws.{lt_same}
use Rattle.smv_size.specs.Summary.{greatest, families_told, size_or_one, type_told, types_told, things_told}
use Rattle.smv_size.specs.declared.types.Families.{Families}
use Rattle.smv_size.specs.declared.types.TypeSize.{TypeSize}
use Rattle.smv_size.specs.declared.modules.Things.{Things}
use Rattle.smv_size.specs.declared.modules.ModuleSize.{ModuleSize}

-- ---- numbers

-- a factor may be cut off where the product is
pub factor : (l x y : ℕ) → min l (x * min l y) ≡ min l (x * y)
factor l x y = elim (cases_lt l y) [
  | inl large ↦ elim (cases_lt 0 x) [
    | inl some ↦
        let most : min l y ≡ l = omega arith in
        let more : x * l ≤ x * y = mul-le-mul_left x (let h : l ≤ y = omega arith in h) in
        let enough : l * 1 ≤ l * x = mul-le-mul_left l (let h : 1 ≤ x = omega arith in h) in
        let turned : l * x ≡ x * l = mul_comm l x in
        ap (λ k. min l (x * k)) most ∙ (omega arith)
    | inr none ↦ let zero_is : x ≡ 0 = omega arith in ap (λ k. min l (k * min l y)) zero_is ∙ (omega arith) ∙ ap (λ k. min l (k * y)) (sym zero_is)
  ]
  | inr small ↦ let same : min l y ≡ y = omega arith in ap (λ k. min l (x * k)) same
]

pub factor_first : (l x y : ℕ) → min l (min l x * y) ≡ min l (x * y)
factor_first l x y = ap (λ k. min l k) (mul_comm (min l x) y) ∙ factor l y x ∙ ap (λ k. min l k) (mul_comm y x)

product-max : (s a b : ℕ) → max (s * a) (s * b) ≡ s * max a b
product-max s a b = elim (cases_lt a b) [
  | inl below ↦
      let more : s * a ≤ s * b = mul-le-mul_left s (let h : a ≤ b = omega arith in h) in
      let most : max a b ≡ b = omega arith in
      (omega arith) ∙ ap (λ k. s * k) (sym most)
  | inr above ↦
      let more : s * b ≤ s * a = mul-le-mul_left s (let h : b ≤ a = omega arith in h) in
      let most : max a b ≡ a = omega arith in
      (omega arith) ∙ ap (λ k. s * k) (sym most)
]

greatest-append : (xs ys : List ℕ) → greatest (xs ++ ys) ≡ max (greatest xs) (greatest ys)
greatest-append [] ys = omega arith
greatest-append (x ∷ xs) ys = ap (λ n. max x n) (greatest-append xs ys) ∙ (omega arith)

-- ---- the same list again and again

length-repeated : {A X : Type 0} (words : List A) (xs : List X) → length (flat_map (λ word. xs) words) ≡ length xs * length words
length-repeated [] xs = omega arith
length-repeated (w ∷ words) xs = length-append xs (flat_map (λ word. xs) words) ∙ ap (λ n. length xs + n) (length-repeated words xs) ∙ (omega arith)

greatest-repeated : {A X : Type 0} (f : X → ℕ) (w : A) (words : List A) (xs : List X) → greatest (map f (flat_map (λ word. xs) (w ∷ words))) ≡ greatest (map f xs)
greatest-repeated f w [] xs = ap (λ l. greatest (map f l)) (append-nil xs)
greatest-repeated {A} {X} f w (v ∷ words) xs =
    let rest : List X = flat_map (λ (word : A). xs) (v ∷ words) in
    ap greatest (map-append f xs rest) ∙ greatest-append (map f xs) (map f rest) ∙ ap (λ n. max (greatest (map f xs)) n) (greatest-repeated f v words xs) ∙ (omega arith)

any-repeated : {A X : Type 0} (p : X → Bool) (w : A) (words : List A) (xs : List X) → list_any p (flat_map (λ word. xs) (w ∷ words)) ≡ list_any p xs
any-repeated p w [] xs = ap (list_any p) (append-nil xs)
any-repeated {A} {X} p w (v ∷ words) xs =
    let rest : List X = flat_map (λ (word : A). xs) (v ∷ words) in
    list_any-append p xs rest ∙ ap (λ b. list_any p xs || b) (any-repeated p v words xs) ∙ twice (list_any p xs)
  where
    twice : (b : Bool) → b || b ≡ b
    twice true = refl
    twice false = refl

-- ---- families

abbrev families : ℕ → ℕ → ℕ → Families
families c i p = record { count = c; indexes = i; product = p }

same : (c i p c' i' p' : ℕ) → c ≡ c' → i ≡ i' → p ≡ p' → families c i p ≡ families c' i' p'
same c i p c' i' p' e f g = ap (λ n. families n i p) e ∙ ap (λ n. families c' n p) f ∙ ap (λ n. families c' i' n) g

abbrev most_indexes : List Extent → ℕ
most_indexes xs = greatest (map (λ (e : Extent). e.indexes) xs)

abbrev most_product : List Extent → ℕ
most_product xs = greatest (map (λ (e : Extent). e.product) xs)

counted : (of : Families) (xs : List Extent) → of ≡ families_told xs → of.count ≡ min 4097 (length xs)
counted of xs e = ap (λ (f : Families). f.count) e

indexed : (of : Families) (xs : List Extent) → of ≡ families_told xs → of.indexes ≡ min 5 (most_indexes xs)
indexed of xs e = ap (λ (f : Families). f.indexes) e

multiplied : (of : Families) (xs : List Extent) → of ≡ families_told xs → of.product ≡ min 257 (most_product xs)
multiplied of xs e = ap (λ (f : Families). f.product) e

pub told-append : (c i p : ℕ) (a b : Families) (xs ys : List Extent) → a ≡ families_told xs → b ≡ families_told ys
    → c ≡ min 4097 (a.count + b.count) → i ≡ max a.indexes b.indexes → p ≡ max a.product b.product → families c i p ≡ families_told (xs ++ ys)
told-append c i p a b xs ys e f count indexes product =
    let is : most_indexes (xs ++ ys) ≡ max (most_indexes xs) (most_indexes ys) = ap greatest (map-append (λ (e : Extent). e.indexes) xs ys) ∙ greatest-append (map (λ (e : Extent). e.indexes) xs) (map (λ (e : Extent). e.indexes) ys) in
    let ps : most_product (xs ++ ys) ≡ max (most_product xs) (most_product ys) = ap greatest (map-append (λ (e : Extent). e.product) xs ys) ∙ greatest-append (map (λ (e : Extent). e.product) xs) (map (λ (e : Extent). e.product) ys) in
    same c i p (min 4097 (length (xs ++ ys))) (min 5 (most_indexes (xs ++ ys))) (min 257 (most_product (xs ++ ys)))
    (let h = counted a xs e in let k = counted b ys f in let l = length-append xs ys in omega (arith, h, k, l, count))
    (let h = indexed a xs e in let k = indexed b ys f in omega (arith, h, k, is, indexes))
    (let h = multiplied a xs e in let k = multiplied b ys f in omega (arith, h, k, ps, product))

pub told-repeated : {A : Type 0} (c : ℕ) (of : Families) (words : List A) (xs : List Extent) (times : ℕ) → times ≡ length words → (times ≡ 0 → ⊥) → of ≡ families_told xs
    → c ≡ min 4097 (of.count * times) → families c of.indexes of.product ≡ families_told (flat_map (λ word. xs) words)
told-repeated c of [] xs times long none e count = absurd (none long)
told-repeated {A} c of (w ∷ words) xs times long none e count =
    let all : List Extent = flat_map (λ (word : A). xs) (w ∷ words) in
    let long' : length all ≡ length xs * length (w ∷ words) = length-repeated (w ∷ words) xs in
    same c of.indexes of.product (min 4097 (length all)) (min 5 (most_indexes all)) (min 257 (most_product all))
    (count ∙ ap (λ n. min 4097 (n * times)) (counted of xs e) ∙ factor_first 4097 (length xs) times ∙ ap (λ n. min 4097 (length xs * n)) long ∙ ap (λ n. min 4097 n) (sym long'))
    (indexed of xs e ∙ ap (λ n. min 5 n) (sym (greatest-repeated (λ (e : Extent). e.indexes) w words xs)))
    (multiplied of xs e ∙ ap (λ n. min 257 n) (sym (greatest-repeated (λ (e : Extent). e.product) w words xs)))

indexes-under : (size : Option ℕ) (e : Extent) → (under size e).indexes ≡ e.indexes + 1
indexes-under None e = refl
indexes-under (Some s) e = refl

product-under : (size : Option ℕ) (e : Extent) → (under size e).product ≡ size_or_one size * e.product
product-under None e = omega arith
product-under (Some s) e = refl

most_indexes-under : (size : Option ℕ) (x : Extent) (xs : List Extent) → most_indexes (map (under size) (x ∷ xs)) ≡ most_indexes (x ∷ xs) + 1
most_indexes-under size x [] = let h = indexes-under size x in omega (arith, h)
most_indexes-under size x (y ∷ xs) = let h = indexes-under size x in let k = most_indexes-under size y xs in ap (λ n. max n (most_indexes (map (under size) (y ∷ xs)))) h ∙ ap (λ n. max (x.indexes + 1) n) k ∙ (omega arith)

most_product-under : (size : Option ℕ) (xs : List Extent) → most_product (map (under size) xs) ≡ size_or_one size * most_product xs
most_product-under size [] = omega arith
most_product-under size (x ∷ xs) =
    ap (λ n. max n (most_product (map (under size) xs))) (product-under size x) ∙ ap (λ n. max (size_or_one size * x.product) n) (most_product-under size xs) ∙ product-max (size_or_one size) x.product (most_product xs)

length-under : (size : Option ℕ) (xs : List Extent) → length (map (under size) xs) ≡ length xs
length-under size [] = refl
length-under size (x ∷ xs) = ap suc (length-under size xs)

pub told-under : (size : Option ℕ) (i p : ℕ) (of : Families) (xs : List Extent) → of ≡ families_told xs → i ≡ cond (eqb of.count 0) 0 (min 5 (most_indexes xs + 1)) → p ≡ min 257 (size_or_one size * most_product xs)
    → families of.count i p ≡ families_told (map (under size) xs)
told-under size i p of [] e indexes product =
    same of.count i p 0 0 0 (counted of [] e) (indexes ∙ ap (λ n. cond (eqb n 0) 0 1) (counted of [] e)) (product ∙ (omega arith))
told-under size i p of (x ∷ xs) e indexes product =
    let some : eqb of.count 0 ≡ false = let h = counted of (x ∷ xs) e in grind (arith, nat_tests) in
    same of.count i p (min 4097 (length (map (under size) (x ∷ xs)))) (min 5 (most_indexes (map (under size) (x ∷ xs)))) (min 257 (most_product (map (under size) (x ∷ xs))))
    (counted of (x ∷ xs) e ∙ ap (λ n. min 4097 n) (sym (length-under size (x ∷ xs))))
    (indexes ∙ ap (λ b. cond b 0 (min 5 (most_indexes (x ∷ xs) + 1))) some ∙ ap (λ n. min 5 n) (sym (most_indexes-under size x xs)))
    (product ∙ ap (λ n. min 257 n) (sym (most_product-under size (x ∷ xs))))

-- ---- whether one is too wide

lt-max : (l a b : ℕ) → nat_lt l (max a b) ≡ nat_lt l a || nat_lt l b
lt-max l a b = elim (cases_lt l a) [
  | inl below ↦ let h : nat_lt l a ≡ true = grind (arith, nat_tests) in let k : nat_lt l (max a b) ≡ true = grind (arith, nat_tests) in k ∙ ap (λ t. t || nat_lt l b) (sym h)
  | inr above ↦ let h : nat_lt l a ≡ false = grind (arith, nat_tests) in let k : nat_lt l (max a b) ≡ nat_lt l b = grind (arith, nat_tests) in k ∙ ap (λ t. t || nat_lt l b) (sym h)
]

shuffled : (a b c d : Bool) → (a || b) || (c || d) ≡ (a || c) || (b || d)
shuffled true b c d = refl
shuffled false true true d = refl
shuffled false true false d = refl
shuffled false false c d = refl

wide : (xs : List Extent) → list_any is_too_wide (map family xs) ≡ nat_lt 4 (most_indexes xs) || nat_lt 256 (most_product xs)
wide [] = refl
wide (x ∷ xs) =
    ap (λ b. (nat_lt 4 x.indexes || nat_lt 256 x.product) || b) (wide xs) ∙ shuffled (nat_lt 4 x.indexes) (nat_lt 256 x.product) (nat_lt 4 (most_indexes xs)) (nat_lt 256 (most_product xs))
    ∙ ap (λ b. b || (nat_lt 256 x.product || nat_lt 256 (most_product xs))) (sym (lt-max 4 x.indexes (most_indexes xs))) ∙ ap (λ b. nat_lt 4 (max x.indexes (most_indexes xs)) || b) (sym (lt-max 256 x.product (most_product xs)))

pub wide-indexes : (of : Families) (xs : List Extent) → of ≡ families_told xs → of.indexes ≡ 5 → eqb of.indexes 5 ≡ list_any is_too_wide (map family xs)
wide-indexes of xs e most =
    let h = indexed of xs e in
    let many : nat_lt 4 (most_indexes xs) ≡ true = grind (arith, nat_tests) in
    ap (λ n. eqb n 5) most ∙ ap (λ b. b || nat_lt 256 (most_product xs)) (sym many) ∙ sym (wide xs)

pub wide-product : (of : Families) (xs : List Extent) → of ≡ families_told xs → (of.indexes ≡ 5 → ⊥) → eqb of.product 257 ≡ list_any is_too_wide (map family xs)
wide-product of xs e other =
    let h = indexed of xs e in
    let k = multiplied of xs e in
    let few : nat_lt 4 (most_indexes xs) ≡ false = grind (arith, nat_tests) in
    let large : eqb of.product 257 ≡ nat_lt 256 (most_product xs) = grind (arith, nat_tests) in
    large ∙ ap (λ b. b || nat_lt 256 (most_product xs)) (sym few) ∙ sym (wide xs)

-- ---- type names

abbrev no_type : Sized
no_type = record { families = []; size = None }

find_name-told : (known : List (Name × Sized)) (name : Name) → find_name (types_told known) name ≡ option_map type_told (find_name known name)
find_name-told [] name = refl
find_name-told ((other, s) ∷ known) name = by (bytes_eq other name) (find_name-told known name)
  where
    by : (b : Bool) → find_name (types_told known) name ≡ option_map type_told (find_name known name)
        → cond b (Some (type_told s)) (find_name (types_told known) name) ≡ option_map type_told (cond b (Some s) (find_name known name))
    by true rest = refl
    by false rest = rest

found : (o : Option Sized) (s : TypeSize) → Some s ≡ option_map type_told o → s ≡ type_told (unwrap_or o no_type)
found None s e = cc
found (Some x) s e = cc

unfound : (o : Option Sized) → None ≡ option_map type_told o → type_told no_type ≡ type_told (unwrap_or o no_type)
unfound None e = refl
unfound (Some x) e = cc

pub named-some : (types : List (Name × TypeSize)) (known : List (Name × Sized)) (name : Name) (s : TypeSize) → types ≡ types_told known → Some s ≡ find_name types name → s ≡ type_told (sized known name)
named-some types known name s e f = found (find_name known name) s (f ∙ ap (λ l. find_name l name) e ∙ find_name-told known name)

pub named-none : (types : List (Name × TypeSize)) (known : List (Name × Sized)) (name : Name) → types ≡ types_told known → None ≡ find_name types name → type_told no_type ≡ type_told (sized known name)
named-none types known name e f = unfound (find_name known name) (f ∙ ap (λ l. find_name l name) e ∙ find_name-told known name)

-- ---- instances

abbrev things : ℕ → Bool → Things
things c w = record { count = c; wide = w }

pub same_things : (c c' : ℕ) (w w' : Bool) → c ≡ c' → w ≡ w' → things c w ≡ things c' w'
same_things c c' w w' e f = ap (λ n. things n w) e ∙ ap (λ b. things c' b) f

pub things-repeated : {A : Type 0} (c : ℕ) (inside : Things) (words : List A) (xs : List Thing) (times : ℕ) → times ≡ length words → (times ≡ 0 → ⊥) → inside ≡ things_told xs
    → c ≡ min 4097 ((inside.count + 1) * times) → things c inside.wide ≡ things_told (flat_map (λ word. instance ∷ xs) words)
things-repeated c inside [] xs times long none e count = absurd (none long)
things-repeated {A} c inside (w ∷ words) xs times long none e count =
    let all : List Thing = flat_map (λ (word : A). instance ∷ xs) (w ∷ words) in
    let inner : inside.count ≡ min 4097 (length xs) = ap (λ (t : Things). t.count) e in
    let cut : min 4097 (inside.count + 1) ≡ min 4097 (length (instance ∷ xs)) = omega arith in
    same_things c (min 4097 (length all)) inside.wide (list_any is_too_wide all)
    (count ∙ sym (factor_first 4097 (inside.count + 1) times) ∙ ap (λ n. min 4097 (n * times)) cut ∙ factor_first 4097 (length (instance ∷ xs)) times
    ∙ ap (λ n. min 4097 (length (instance ∷ xs) * n)) long ∙ ap (λ n. min 4097 n) (sym (length-repeated (w ∷ words) (instance ∷ xs))))
    (ap (λ (t : Things). t.wide) e ∙ sym (any-repeated is_too_wide w words (instance ∷ xs)))

abbrev sized_as : ℕ → Things → ℕ → ModuleSize
sized_as f t s = record { formals = f; things = t; statements = s }

pub same_size : (f f' : ℕ) (t t' : Things) (s s' : ℕ) → f ≡ f' → t ≡ t' → s ≡ s' → sized_as f t s ≡ sized_as f' t' s'
same_size f f' t t' s s' e g h = ap (λ n. sized_as n t s) e ∙ ap (λ x. sized_as f' x s) g ∙ ap (λ n. sized_as f' t' n) h

-- a limit is passed where it is so when the number is cut off above it
pub above : (size : ModuleSize) (f n : ℕ) (things : List Thing) (many many' : Bool) → size ≡ sized_as f (things_told things) (capped n) → many ≡ many'
    → (nat_lt 4096 size.things.count || size.things.wide || many || nat_lt 65536 size.statements) ≡ (nat_lt 4096 (length things) || list_any is_too_wide things || many' || nat_lt 65536 n)
above size f n things many many' e g =
    let count : nat_lt 4096 (min 4097 (length things)) ≡ nat_lt 4096 (length things) = lt_same 4096 (min 4097 (length things)) 4096 (length things) (λ h. omega arith) (λ h. omega arith) in
    let statements : nat_lt 65536 (capped n) ≡ nat_lt 65536 n = lt_same 65536 (capped n) 65536 n (λ h. omega arith) (λ h. omega arith) in
    let w : Bool = list_any is_too_wide things in
    ap (λ (s : ModuleSize). nat_lt 4096 s.things.count || s.things.wide || many || nat_lt 65536 s.statements) e
    ∙ ap (λ (m : Bool). nat_lt 4096 (min 4097 (length things)) || w || m || nat_lt 65536 (capped n)) g
    ∙ ap (λ (a : Bool). a || w || many' || nat_lt 65536 (capped n)) count
    ∙ ap (λ (a : Bool). nat_lt 4096 (length things) || w || many' || a) statements
