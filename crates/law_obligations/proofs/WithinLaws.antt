-- `in` a listed set: an outcome of the left side against one outcome of each member.
use Rattle.std.proofs.Common.{◌≡◌, List, [], ◌∷◌, map, Bool, true, ◌&&◌, ◌||◌, refl, sym, ap, ◌∙◌}
use Rattle.std.specs.List.{flat_map, list_any, list_all}
use Rattle.std.proofs.lemmas.List.{map-id}
use Rattle.law_lists.proofs.Anys.{any-map, any-flat_map, any-agree, any-or, any-never}
use Rattle.law_lists.proofs.Booleans.{left_of, right_of}
use Rattle.law_lists.proofs.Lists.{flat_map_alike}
use Rattle.smv_core.specs.Values.{Truth, disjunction}
use Rattle.smv_core.specs.Outcome.{is_true}
use Rattle.law_obligations.specs.Right.{is_false, is_neither}
use Rattle.law_obligations.specs.Places.{AbsOutcome, equal_places, where_defined}
use Rattle.law_obligations.specs.May.{shown}
use Rattle.law_obligations.specs.Sets.{one_of_each, pairs}
use Rattle.law_obligations.specs.Mix.{Mix, mix_by, or_all, is_there}
use Rattle.law_obligations.specs.Combined.{equal_mix, member_mix, within_mix}
use Rattle.law_obligations.proofs.Anys.{any-choices}
use Rattle.law_obligations.proofs.MixLaws.{same_mix, mix-disjunction, there-append}
use Rattle.law_obligations.proofs.QuantifierLaws.{mix-ext}
use Rattle.law_obligations.proofs.IffLaws.{pairs-map}
use Rattle.law_obligations.proofs.Filled.{there, defined_filled, equal_filled}

any-swap : {X Y : Type 0} (f : X → Y → Bool) (xs : List X) (ys : List Y) → list_any (λ x. list_any (f x) ys) xs ≡ list_any (λ y. list_any (λ x. f x y) xs) ys
any-swap f [] ys = sym (any-never ys)
any-swap f (x ∷ xs) ys = ap (λ b. list_any (f x) ys || b) (any-swap f xs ys) ∙ sym (any-or (f x) (λ y. list_any (λ x. f x y) xs) ys)

-- one answer for one outcome of each member is one answer of each member
any-answers : {X Y : Type 0} (p : List Y → Bool) (g : X → List Y) (vss : List (List X)) → list_any p (flat_map (λ vs. one_of_each (map g vs)) (one_of_each vss)) ≡ list_any p (one_of_each (map (flat_map g) vss))
any-answers p g [] = refl
any-answers {X} {Y} p g (vs ∷ vss) =
    any-flat_map p (λ ws. one_of_each (map g ws)) (one_of_each (vs ∷ vss))
    ∙ (any-choices (λ ws. list_any p (one_of_each (map g ws))) vs vss
    ∙ (any-agree (λ v. list_any (λ ws. list_any p (one_of_each (map g (v ∷ ws)))) (one_of_each vss)) (λ v. list_any after (g v)) vs (each (λ y. any-answers (λ ys. p (y ∷ ys)) g vss))
    ∙ (sym (any-flat_map after g vs) ∙ sym (any-choices p (flat_map g vs) (map (flat_map g) vss)))))
  where
    after : Y → Bool
    after = λ y. list_any (λ ys. p (y ∷ ys)) (one_of_each (map (flat_map g) vss))

    each : ((y : Y) → list_any (λ ys. p (y ∷ ys)) (flat_map (λ ws. one_of_each (map g ws)) (one_of_each vss)) ≡ list_any (λ ys. p (y ∷ ys)) (one_of_each (map (flat_map g) vss))) →
        (v : X) → list_any (λ ws. list_any p (one_of_each (map g (v ∷ ws)))) (one_of_each vss) ≡ list_any (λ y. list_any (λ ys. p (y ∷ ys)) (one_of_each (map (flat_map g) vss))) (g v)
    each again v =
        any-agree (λ ws. list_any p (one_of_each (map g (v ∷ ws)))) (λ ws. list_any (λ y. list_any (λ ys. p (y ∷ ys)) (one_of_each (map g ws))) (g v)) (one_of_each vss) (λ ws. any-choices p (g v) (map g ws))
        ∙ (any-swap (λ ws y. list_any (λ ys. p (y ∷ ys)) (one_of_each (map g ws))) (one_of_each vss) (g v)
        ∙ any-agree (λ y. list_any (λ ws. list_any (λ ys. p (y ∷ ys)) (one_of_each (map g ws))) (one_of_each vss)) (λ y. list_any (λ ys. p (y ∷ ys)) (one_of_each (map (flat_map g) vss))) (g v) (λ y.
        sym (any-flat_map (λ ys. p (y ∷ ys)) (λ ws. one_of_each (map g ws)) (one_of_each vss)) ∙ again y))

there-flat_map : {X Y : Type 0} (f : X → List Y) (xs : List X) → ((x : X) → is_there (f x) ≡ true) → is_there xs ≡ true → is_there (flat_map f xs) ≡ true
there-flat_map f [] h e = absurd (cc)
there-flat_map f (x ∷ xs) h e = there-append (f x) (flat_map f xs) (h x)

abbrev answers_to : AbsOutcome → AbsOutcome → List Truth
answers_to u v = where_defined equal_places u v

all-there : (u : AbsOutcome) (vss : List (List AbsOutcome)) → list_all is_there vss ≡ true → list_all is_there (map (flat_map (answers_to u)) vss) ≡ true
all-there u [] h = refl
all-there u (vs ∷ vss) h =
    ap (λ b. b && list_all is_there (map (flat_map (answers_to u)) vss)) (there-flat_map (answers_to u) vs (λ v. there (answers_to u v) (defined_filled equal_places equal_filled u v)) (left_of (is_there vs) (list_all is_there vss) h))
    ∙ all-there u vss (right_of (is_there vs) (list_all is_there vss) h)

mix-equal : (u : AbsOutcome) (vs : List AbsOutcome) → mix_by (λ t. t) (flat_map (answers_to u) vs) ≡ equal_mix u vs
mix-equal u vs = same_mix (any-flat_map is_false (answers_to u) vs) (any-flat_map is_true (answers_to u) vs) (any-flat_map is_neither (answers_to u) vs)

mixes-equal : (u : AbsOutcome) (vss : List (List AbsOutcome)) → map (mix_by (λ t. t)) (map (flat_map (answers_to u)) vss) ≡ map (equal_mix u) vss
mixes-equal u [] = refl
mixes-equal u (vs ∷ vss) = ap (λ m. m ∷ map (mix_by (λ t. t)) (map (flat_map (answers_to u)) vss)) (mix-equal u vs) ∙ ap (λ l. equal_mix u vs ∷ l) (mixes-equal u vss)

-- the answers for one outcome of the left side
mix-member : (u : AbsOutcome) (vss : List (List AbsOutcome)) → list_all is_there vss ≡ true → mix_by disjunction (one_of_each (map (flat_map (answers_to u)) vss)) ≡ member_mix vss u
mix-member u vss h =
    mix-ext disjunction (λ ts. disjunction (map (λ t. t) ts)) (one_of_each (map (flat_map (answers_to u)) vss)) (λ ts. ap disjunction (sym (map-id ts)))
    ∙ (mix-disjunction (λ t. t) (map (flat_map (answers_to u)) vss) (all-there u vss h) ∙ ap or_all (mixes-equal u vss))

abbrev within_truths : AbsOutcome → List AbsOutcome → List Truth
within_truths u vs = map disjunction (one_of_each (map (answers_to u) vs))

map-map : {X Y Z : Type 0} (f : Y → Z) (g : X → Y) (xs : List X) → map (λ x. f (g x)) xs ≡ map f (map g xs)
map-map f g [] = refl
map-map f g (x ∷ xs) = ap (λ l. f (g x) ∷ l) (map-map f g xs)

-- its outcomes are truth values that are shown
pub within-shown : (us : List AbsOutcome) (vss : List (List AbsOutcome)) →
    pairs (λ u vs. map (λ ts. shown (disjunction ts)) (one_of_each (map (answers_to u) vs))) us (one_of_each vss) ≡ map shown (pairs within_truths us (one_of_each vss))
within-shown us vss =
    flat_map_alike (λ u. flat_map (λ vs. map (λ ts. shown (disjunction ts)) (one_of_each (map (answers_to u) vs))) (one_of_each vss)) (λ u. flat_map (λ vs. map shown (within_truths u vs)) (one_of_each vss)) us (λ u.
    flat_map_alike (λ vs. map (λ ts. shown (disjunction ts)) (one_of_each (map (answers_to u) vs))) (λ vs. map shown (within_truths u vs)) (one_of_each vss) (λ vs. map-map shown disjunction (one_of_each (map (answers_to u) vs))))
    ∙ pairs-map shown within_truths us (one_of_each vss)

pub mix-within : (us : List AbsOutcome) (vss : List (List AbsOutcome)) → list_all is_there vss ≡ true →
    mix_by (λ t. t) (pairs within_truths us (one_of_each vss)) ≡ within_mix us vss
mix-within us vss h = same_mix (part is_false (λ m. m.no) (λ u. ap (λ m. m.no) (mix-member u vss h))) (part is_true (λ m. m.yes) (λ u. ap (λ m. m.yes) (mix-member u vss h))) (part is_neither (λ m. m.neither) (λ u. ap (λ m. m.neither) (mix-member u vss h)))
  where
    part : (p : Truth → Bool) (q : Mix → Bool) → ((u : AbsOutcome) → list_any (λ ts. p (disjunction ts)) (one_of_each (map (flat_map (answers_to u)) vss)) ≡ q (member_mix vss u)) → list_any p (pairs within_truths us (one_of_each vss)) ≡ list_any (λ u. q (member_mix vss u)) us
    part p q e =
        any-flat_map p (λ u. flat_map (within_truths u) (one_of_each vss)) us
        ∙ any-agree (λ u. list_any p (flat_map (within_truths u) (one_of_each vss))) (λ u. q (member_mix vss u)) us (λ u.
        any-flat_map p (within_truths u) (one_of_each vss)
        ∙ (any-agree (λ vs. list_any p (within_truths u vs)) (λ vs. list_any (λ ts. p (disjunction ts)) (one_of_each (map (answers_to u) vs))) (one_of_each vss) (λ vs. any-map p disjunction (one_of_each (map (answers_to u) vs)))
        ∙ (sym (any-flat_map (λ ts. p (disjunction ts)) (λ vs. one_of_each (map (answers_to u) vs)) (one_of_each vss)) ∙ (any-answers (λ ts. p (disjunction ts)) (answers_to u) vss ∙ e u))))
