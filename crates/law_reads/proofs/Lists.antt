-- Lists that agree at their members, and lists whose members pass the same tests.
use Rattle.std.proofs.Common.{◌≡◌, List, [], ◌∷◌, ◌++◌, map, Bool, true, false, not, ◌&&◌, ◌||◌, refl, sym, ap, ◌∙◌}
use Rattle.std.specs.List.{flat_map, list_any, list_all}
use Rattle.law_lists.proofs.Anys.{any-map, any-flat_map, any-agree}
use Rattle.law_obligations.specs.Sets.{Has, first, later, one_of_each, pairs}
use Rattle.law_obligations.proofs.Anys.{any-choices}
use Rattle.law_reads.specs.Laws.{PassSame}

pub flat_map_in : {X Y : Type 0} (f g : X → List Y) (xs : List X) → ((x : X) → Has xs x → f x ≡ g x) → flat_map f xs ≡ flat_map g xs
flat_map_in f g [] h = refl
flat_map_in f g (x ∷ xs) h = ap (λ l. l ++ flat_map f xs) (h x first) ∙ ap (λ l. g x ++ l) (flat_map_in f g xs (λ y k. h y (later k)))

pub any_in : {X : Type 0} (p q : X → Bool) (xs : List X) → ((x : X) → Has xs x → p x ≡ q x) → list_any p xs ≡ list_any q xs
any_in p q [] h = refl
any_in p q (x ∷ xs) h = ap (λ b. b || list_any p xs) (h x first) ∙ ap (λ b. q x || b) (any_in p q xs (λ y k. h y (later k)))

pub all_in : {X : Type 0} (p q : X → Bool) (xs : List X) → ((x : X) → Has xs x → p x ≡ q x) → list_all p xs ≡ list_all q xs
all_in p q [] h = refl
all_in p q (x ∷ xs) h = ap (λ b. b && list_all p xs) (h x first) ∙ ap (λ b. q x && b) (all_in p q xs (λ y k. h y (later k)))

-- all pass a test where none fails it
all_by_any : {X : Type 0} (p : X → Bool) (xs : List X) → list_all p xs ≡ not (list_any (λ x. not (p x)) xs)
all_by_any p [] = refl
all_by_any p (x ∷ xs) = ap (λ b. p x && b) (all_by_any p xs) ∙ at (p x) (list_any (λ y. not (p y)) xs)
  where
    at : (b c : Bool) → b && not c ≡ not (not b || c)
    at true c = refl
    at false c = refl

pub all_same : {X : Type 0} (p : X → Bool) (xs ys : List X) → PassSame xs ys → list_all p xs ≡ list_all p ys
all_same p xs ys h = all_by_any p xs ∙ (ap not (h (λ x. not (p x))) ∙ sym (all_by_any p ys))

-- ---- one of each

abbrev pub AllPassSame : {X : Type 0} → List (List X) → List (List X) → Type 0
AllPassSame [] [] = Unit {0}
AllPassSame (xs ∷ xss) (ys ∷ yss) = PassSame xs ys × AllPassSame xss yss
AllPassSame _ _ = ⊥

pub choices_same : {X : Type 0} (xss yss : List (List X)) → AllPassSame xss yss → PassSame (one_of_each xss) (one_of_each yss)
choices_same [] [] h test = refl
choices_same [] (ys ∷ yss) h test = absurd h
choices_same (xs ∷ xss) [] h test = absurd h
choices_same (xs ∷ xss) (ys ∷ yss) h test =
    any-choices test xs xss
    ∙ (h.0 (λ x. list_any (λ zs. test (x ∷ zs)) (one_of_each xss))
    ∙ (any-agree (λ x. list_any (λ zs. test (x ∷ zs)) (one_of_each xss)) (λ x. list_any (λ zs. test (x ∷ zs)) (one_of_each yss)) ys (λ x. choices_same xss yss h.1 (λ zs. test (x ∷ zs)))
    ∙ sym (any-choices test ys yss)))

pub map_passes : {X Y : Type 0} (f : X → Y) (xs ys : List X) → PassSame xs ys → PassSame (map f xs) (map f ys)
map_passes f xs ys h test = any-map test f xs ∙ (h (λ x. test (f x)) ∙ sym (any-map test f ys))

pub any-pair : {X Y Z : Type 0} (test : Z → Bool) (f : X → Y → List Z) (xs : List X) (ys : List Y) → list_any test (pairs f xs ys) ≡ list_any (λ x. list_any (λ y. list_any test (f x y)) ys) xs
any-pair test f xs ys =
    any-flat_map test (λ x. flat_map (f x) ys) xs ∙ any-agree (λ x. list_any test (flat_map (f x) ys)) (λ x. list_any (λ y. list_any test (f x y)) ys) xs (λ x. any-flat_map test (f x) ys)

pub pairs_pass : {X Y Z : Type 0} (f : X → Y → List Z) (xs ws : List X) (ys zs : List Y) → PassSame xs ws → PassSame ys zs → PassSame (pairs f xs ys) (pairs f ws zs)
pairs_pass f xs ws ys zs h k test =
    any-pair test f xs ys
    ∙ (h (λ x. list_any (λ y. list_any test (f x y)) ys)
    ∙ (any-agree (λ x. list_any (λ y. list_any test (f x y)) ys) (λ x. list_any (λ y. list_any test (f x y)) zs) ws (λ x. k (λ y. list_any test (f x y)))
    ∙ sym (any-pair test f ws zs)))
