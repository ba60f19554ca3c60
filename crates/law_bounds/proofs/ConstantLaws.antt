-- What is made of constants alone comes out the same in any two states.
use Rattle.std.proofs.Common.{◌≡◌, ◌∙◌, ◌+◌, ◌-◌, ℕ, List, [], ◌∷◌, ◌++◌, map, Bool, true, false, Option, Some, None, refl, ap, ap₂}
use Rattle.std.specs.Prelude.{◌&&◌}
use Rattle.smv_core.specs.Values.{Outcome, Truth, number, add, bit, compare, conjunction, disjunction, equal, iff_of, implication, modulo, not_of, numbers_from, truth}
use Rattle.smv_core.specs.Outcome.{branch}
use Rattle.smv_core.specs.FlatMeaning.{FlatBindings, FlatState, Numbered, flat_listed, flat_members, flat_outcome, flat_outcomes, flat_sum}
use Rattle.smv_core.specs.Rows.{one_flat_expr}
use Rattle.smv_core.specs.declared.flat.FlatMember.{One, Span as SpanOf}
use Rattle.smv_core.specs.declared.flat.FlatExpr.{FlatExpr, Number, Constant, Not', And', Or', Implies', Iff', Compare', Within', Sum', Modulo', Choose', List', Row_of-FlatExpr, end_of-FlatExpr, more_of-FlatExpr, Row_of-FlatMember, end_of-FlatMember, more_of-FlatMember, Row_of-FlatSigned, end_of-FlatSigned, more_of-FlatSigned}
use Rattle.smv_look_bounds.specs.Constants.{are_constant, is_constant, members_constant, terms_constant}
use Rattle.law_bounds.specs.ConstantsStay.{ConstantsStay}
use Rattle.law_bounds.proofs.NarrowLaws.{both}

module _ (n : Numbered) (s t : FlatState) (b c : FlatBindings) where
  mutual
    unfolding is_constant

    stays : (e : FlatExpr) → is_constant e ≡ true → flat_outcome n s e b ≡ flat_outcome n t e c
    stays (Number value at) is = refl
    stays (Constant list value at) is = refl
    stays (Not' shape (one_flat_expr e) at) is = ap (λ (u : Outcome). bit (not_of (truth u))) (stays e is)
    stays (And' shape parts) is = ap (λ (us : List Outcome). bit (conjunction (map truth us))) (each-stays parts is)
    stays (Or' shape parts) is = ap (λ (us : List Outcome). bit (disjunction (map truth us))) (each-stays parts is)
    stays (Implies' shape parts) is = ap (λ (us : List Outcome). bit (implication (map truth us))) (each-stays parts is)
    stays (Iff' l (one_flat_expr left) r (one_flat_expr right)) is =
        let two = both (is_constant left) (is_constant right) is in
        ap₂ (λ (u v : Outcome). bit (iff_of (truth u) (truth v))) (stays left two.0) (stays right two.1)
    stays (Compare' op l (one_flat_expr left) r (one_flat_expr right)) is =
        let two = both (is_constant left) (is_constant right) is in
        ap₂ (λ (u v : Outcome). bit (compare op u v)) (stays left two.0) (stays right two.1)
    stays (Within' l (one_flat_expr left) r (one_flat_expr set)) is =
        let two = both (is_constant left) (is_constant set) is in
        ap₂ (λ (u : Outcome) (us : List Outcome). bit (disjunction (map (equal u) us))) (stays left two.0) (listed-stays set two.1)
    stays (Sum' f (one_flat_expr head) shape more) is =
        let two = both (is_constant head) (terms_constant more) is in
        sum-stays more (flat_outcome n s head b) (flat_outcome n t head c) (stays head two.0) two.1
    stays (Modulo' shape (one_flat_expr e) by at) is = ap (λ (u : Outcome). modulo u by) (stays e is)
    stays (Choose' d (one_flat_expr cond) l (one_flat_expr left) r (one_flat_expr right)) is =
        let two = both (is_constant cond && is_constant left) (is_constant right) is in
        let front = both (is_constant cond) (is_constant left) two.0 in
        ap (λ (u : Outcome). branch None (truth u) (flat_outcome n s left b) (flat_outcome n s right b)) (stays cond front.0)
        ∙ ap₂ (λ (u v : Outcome). branch None (truth (flat_outcome n t cond c)) u v) (stays left front.1) (stays right two.1)
    stays (List' shape members at) is = refl
    stays _ is = absurd (cc)

    each-stays : {m : _} (parts : Row_of-FlatExpr m) → are_constant parts ≡ true → flat_outcomes n s parts b ≡ flat_outcomes n t parts c
    each-stays end_of-FlatExpr is = refl
    each-stays (more_of-FlatExpr e rest) is =
        let two = both (is_constant e) (are_constant rest) is in
        ap₂ (λ (u : Outcome) (us : List Outcome). u ∷ us) (stays e two.0) (each-stays rest two.1)

    sum-stays : {m : _} (more : Row_of-FlatSigned m) (u v : Outcome) → u ≡ v → terms_constant more ≡ true → flat_sum n s more u b ≡ flat_sum n t more v c
    sum-stays end_of-FlatSigned u v e is = e
    sum-stays (more_of-FlatSigned minus x rest) u v e is =
        let two = both (is_constant x) (terms_constant rest) is in
        sum-stays rest (add minus u (flat_outcome n s x b)) (add minus v (flat_outcome n t x c)) (ap₂ (λ (p q : Outcome). add minus p q) e (stays x two.0)) two.1

    -- the members of a listed set
    listed-stays : (e : FlatExpr) → is_constant e ≡ true → flat_listed n s e b ≡ flat_listed n t e c
    listed-stays (List' shape members at) is = members-stay members is
    listed-stays _ is = refl

    members-stay : {m : _} (members : Row_of-FlatMember m) → members_constant members ≡ true → flat_members n s members b ≡ flat_members n t members c
    members-stay end_of-FlatMember is = refl
    members-stay (more_of-FlatMember (One e) rest) is =
        let two = both (is_constant e) (members_constant rest) is in
        ap₂ (λ (u : Outcome) (us : List Outcome). u ∷ us) (stays e two.0) (members-stay rest two.1)
    members-stay (more_of-FlatMember (SpanOf span at) rest) is =
        ap (λ (us : List Outcome). map (λ k. Some (number k)) (numbers_from span.low (span.high + 1 - span.low)) ++ us) (members-stay rest is)

pub constants_stay : ConstantsStay
constants_stay n s t b c e is = stays n s t b c e is
