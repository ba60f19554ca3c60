-- What the walk may give: whether Nothing is possible, whether a result is, and whether one that passes a test is.
use Rattle.std.proofs.Common.{◌≡◌, List, [], ◌∷◌, map, Bool, true, false, not, ◌&&◌, ◌||◌, Option, Some, None, refl, sym, ap, ◌∙◌, if◌then◌else◌}
use Rattle.std.specs.List.{flat_map, list_any, list_all, zip}
use Rattle.std.specs.Option.{is_none}
use Rattle.law_lists.proofs.Anys.{any-map, any-flat_map, any-agree, any-or}
use Rattle.law_lists.proofs.Booleans.{left_of, right_of}
use Rattle.smv_core.specs.Values.{Truth, and_of}
use Rattle.smv_core.specs.Outcome.{is_true, branch}
use Rattle.law_obligations.specs.Right.{is_false, is_neither}
use Rattle.law_obligations.specs.Places.{Place, AbsOutcome, same_place}
use Rattle.law_obligations.specs.May.{seen}
use Rattle.law_obligations.specs.Sets.{one_of_each, pairs}
use Rattle.law_obligations.specs.Places.{World}
use Rattle.law_obligations.specs.May.{AbsState, Kept}
use Rattle.smv_core.specs.declared.flat.FlatExpr.{FlatExpr}
use Rattle.law_obligations.specs.Results.{first_of, first_result, unless_both_nothing, taken, is_elsewhere, assigned}
use Rattle.law_obligations.specs.Mix.{mix_by, and_mix}
use Rattle.law_obligations.specs.Gist.{Gist, passes, is_result, gist_of, if_gist, first_gist, first_all, assigned_gist, at_index, is_known, matches, matches_all}
use Rattle.law_obligations.proofs.Anys.{any-and_right, any-pairs, any-first, any-second, any-choices}
use Rattle.law_obligations.specs.Mix.{is_there}
use Rattle.law_obligations.proofs.MixLaws.{and-two, choices-two, there-choices, or_same, and_there, there_and, chosen-more}

pub same_gist : {g h : Gist} → g.nothing ≡ h.nothing → g.something ≡ h.something → g.given ≡ h.given → g ≡ h
same_gist {g} {h} a b c = ap (λ x. record { nothing = x; something = g.something; given = g.given }) a ∙ (ap (λ x. record { nothing = h.nothing; something = x; given = g.given }) b ∙ ap (λ x. record { nothing = h.nothing; something = h.something; given = x }) c)

one : (b : Bool) → (b || false) ≡ b
one true = refl
one false = refl

-- a branch by the condition
pub any-branch : (A B C : Bool) (us : List AbsOutcome) → list_any (λ u. branch C (seen u) A B) us ≡ ((list_any (λ u. is_false (seen u)) us && B) || ((list_any (λ u. is_true (seen u)) us && A) || (list_any (λ u. is_neither (seen u)) us && C)))
any-branch A B C [] = refl
any-branch A B C (u ∷ us) = ap (λ b. branch C (seen u) A B || b) (any-branch A B C us) ∙ chosen-more (seen u) A B C (list_any (λ u. is_false (seen u)) us) (list_any (λ u. is_true (seen u)) us) (list_any (λ u. is_neither (seen u)) us)

module _ {X : Type 0} (everything : X) (f : X → Bool) where
  -- one result of each branch under a condition
  abbrev two_taken : Truth → List (Option X) → List (Option X) → List (Option X)
  two_taken t ls rs = pairs (λ x y. taken everything t x y ∷ []) ls rs

  two-test : (p : Option X → Bool) (t : Truth) (ls rs : List (Option X)) → list_any p (two_taken t ls rs) ≡ list_any (λ x. list_any (λ y. p (taken everything t x y)) rs) ls
  two-test p t ls rs = any-flat_map p (λ x. flat_map (λ y. taken everything t x y ∷ []) rs) ls ∙ any-agree (λ x. list_any p (flat_map (λ y. taken everything t x y ∷ []) rs)) (λ x. list_any (λ y. p (taken everything t x y)) rs) ls (λ x. any-flat_map p (λ y. taken everything t x y ∷ []) rs ∙ any-agree (λ y. list_any p (taken everything t x y ∷ [])) (λ y. p (taken everything t x y)) rs (λ y. one (p (taken everything t x y))))

  nothing-both : (x y : Option X) → is_none (unless_both_nothing everything x y) ≡ (is_none x && is_none y)
  nothing-both None None = refl
  nothing-both None (Some y) = refl
  nothing-both (Some x) y = refl

  result-both : (x y : Option X) → is_result (unless_both_nothing everything x y) ≡ (is_result x || is_result y)
  result-both None None = refl
  result-both None (Some y) = refl
  result-both (Some x) y = refl

  passes-both : (x y : Option X) → passes f (unless_both_nothing everything x y) ≡ ((is_result x || is_result y) && f everything)
  passes-both None None = refl
  passes-both None (Some y) = refl
  passes-both (Some x) y = refl

  two-by : (p : Option X → Bool) (N : Bool) (t : Truth) (ls rs : List (Option X)) → is_there ls ≡ true → is_there rs ≡ true →
      list_any (λ x. list_any (λ y. p (unless_both_nothing everything x y)) rs) ls ≡ N →
      list_any p (two_taken t ls rs) ≡ branch N t (list_any p ls) (list_any p rs)
  two-by p N (Some true) ls rs there others e = two-test p (Some true) ls rs ∙ (any-first p ls rs ∙ and_there _ _ others)
  two-by p N (Some false) ls rs there others e = two-test p (Some false) ls rs ∙ (any-second p ls rs ∙ there_and _ _ there)
  two-by p N None ls rs there others e = two-test p None ls rs ∙ e

  if-test : (p : Option X → Bool) (N : Bool) (us : List AbsOutcome) (ls rs : List (Option X)) → is_there ls ≡ true → is_there rs ≡ true →
      list_any (λ x. list_any (λ y. p (unless_both_nothing everything x y)) rs) ls ≡ N →
      list_any p (flat_map (λ u. two_taken (seen u) ls rs) us) ≡ ((list_any (λ u. is_false (seen u)) us && list_any p rs) || ((list_any (λ u. is_true (seen u)) us && list_any p ls) || (list_any (λ u. is_neither (seen u)) us && N)))
  if-test p N us ls rs there others e =
      any-flat_map p (λ u. two_taken (seen u) ls rs) us
      ∙ (any-agree (λ u. list_any p (two_taken (seen u) ls rs)) (λ u. branch N (seen u) (list_any p ls) (list_any p rs)) us (λ u. two-by p N (seen u) ls rs there others e)
      ∙ any-branch (list_any p ls) (list_any p rs) N us)

  inside : (p q : Option X → Option X → Bool) (ls rs : List (Option X)) → ((x y : Option X) → p x y ≡ q x y) → list_any (λ x. list_any (λ y. p x y) rs) ls ≡ list_any (λ x. list_any (λ y. q x y) rs) ls
  inside p q ls rs e = any-agree (λ x. list_any (λ y. p x y) rs) (λ x. list_any (λ y. q x y) rs) ls (λ x. any-agree (λ y. p x y) (λ y. q x y) rs (e x))

  some-both : (ls rs : List (Option X)) → is_there ls ≡ true → is_there rs ≡ true → list_any (λ x. list_any (λ y. is_result x || is_result y) rs) ls ≡ (list_any is_result ls || list_any is_result rs)
  some-both ls rs there others =
      any-agree (λ x. list_any (λ y. is_result x || is_result y) rs) (λ x. list_any (λ y. is_result x) rs || list_any is_result rs) ls (λ x. any-or (λ y. is_result x) is_result rs)
      ∙ (any-or (λ x. list_any (λ y. is_result x) rs) (λ x. list_any is_result rs) ls
      ∙ or_same (any-first is_result ls rs ∙ and_there _ _ others) (any-second is_result ls rs ∙ there_and _ _ there))

  pub gist-if : (us : List AbsOutcome) (ls rs : List (Option X)) → is_there ls ≡ true → is_there rs ≡ true →
      gist_of f (flat_map (λ u. pairs (λ x y. taken everything (seen u) x y ∷ []) ls rs) us) ≡ if_gist (f everything) (mix_by seen us) (gist_of f ls) (gist_of f rs)
  gist-if us ls rs there others = same_gist
      (if-test is_none (list_any is_none ls && list_any is_none rs) us ls rs there others (inside (λ x y. is_none (unless_both_nothing everything x y)) (λ x y. is_none x && is_none y) ls rs nothing-both ∙ any-pairs is_none is_none ls rs))
      (if-test is_result (list_any is_result ls || list_any is_result rs) us ls rs there others (inside (λ x y. is_result (unless_both_nothing everything x y)) (λ x y. is_result x || is_result y) ls rs result-both ∙ some-both ls rs there others))
      (if-test (passes f) ((list_any is_result ls || list_any is_result rs) && f everything) us ls rs there others
      (inside (λ x y. passes f (unless_both_nothing everything x y)) (λ x y. (is_result x || is_result y) && f everything) ls rs passes-both
      ∙ (any-agree (λ x. list_any (λ y. (is_result x || is_result y) && f everything) rs) (λ x. list_any (λ y. is_result x || is_result y) rs && f everything) ls (λ x. any-and_right (λ y. is_result x || is_result y) (f everything) rs)
      ∙ (any-and_right (λ x. list_any (λ y. is_result x || is_result y) rs) (f everything) ls ∙ ap (λ b. b && f everything) (some-both ls rs there others)))))

  nothing-first : (r q : Option X) → is_none (first_of r q) ≡ (is_none r && is_none q)
  nothing-first None q = refl
  nothing-first (Some x) q = refl

  result-first : (r q : Option X) → is_result (first_of r q) ≡ (is_result r || is_result q)
  result-first None q = refl
  result-first (Some x) q = refl

  passes-first : (r q : Option X) → passes f (first_of r q) ≡ (passes f r || (is_none r && passes f q))
  passes-first None q = refl
  passes-first (Some x) q = sym (one (f x))

  -- the first result of one of each
  first-test : (p : Option X → Bool) (rs : List (Option X)) (rss : List (List (Option X))) → list_any p (map first_result (one_of_each (rs ∷ rss))) ≡ list_any (λ r. list_any (λ qs. p (first_of r (first_result qs))) (one_of_each rss)) rs
  first-test p rs rss = any-map p first_result (one_of_each (rs ∷ rss)) ∙ any-choices (λ qs. p (first_result qs)) rs rss

  ends : (p : Option X → Bool) (rss : List (List (Option X))) → list_any (λ qs. p (first_result qs)) (one_of_each rss) ≡ list_any p (map first_result (one_of_each rss))
  ends p rss = sym (any-map p first_result (one_of_each rss))

  pub gist-first : (rss : List (List (Option X))) → list_all is_there rss ≡ true → gist_of f (map first_result (one_of_each rss)) ≡ first_all (map (gist_of f) rss)
  gist-first [] h = refl
  gist-first (rs ∷ rss) h = same_gist nothing something given ∙ ap (first_gist (gist_of f rs)) (gist-first rss (right_of (is_there rs) (list_all is_there rss) h))
    where
      there : is_there rs ≡ true
      there = left_of (is_there rs) (list_all is_there rss) h

      others : is_there (one_of_each rss) ≡ true
      others = there-choices rss (right_of (is_there rs) (list_all is_there rss) h)

      within : (p : Option X → Bool) (q : Option X → List (Option X) → Bool) → ((r : Option X) (qs : List (Option X)) → p (first_of r (first_result qs)) ≡ q r qs) → list_any (λ r. list_any (λ qs. p (first_of r (first_result qs))) (one_of_each rss)) rs ≡ list_any (λ r. list_any (λ qs. q r qs) (one_of_each rss)) rs
      within p q e = any-agree (λ r. list_any (λ qs. p (first_of r (first_result qs))) (one_of_each rss)) (λ r. list_any (λ qs. q r qs) (one_of_each rss)) rs (λ r. any-agree (λ qs. p (first_of r (first_result qs))) (λ qs. q r qs) (one_of_each rss) (e r))

      nothing : list_any is_none (map first_result (one_of_each (rs ∷ rss))) ≡ (list_any is_none rs && list_any is_none (map first_result (one_of_each rss)))
      nothing = first-test is_none rs rss ∙ (within is_none (λ r qs. is_none r && is_none (first_result qs)) (λ r qs. nothing-first r (first_result qs)) ∙ (any-pairs is_none (λ qs. is_none (first_result qs)) rs (one_of_each rss) ∙ ap (λ b. list_any is_none rs && b) (ends is_none rss)))

      something : list_any is_result (map first_result (one_of_each (rs ∷ rss))) ≡ (list_any is_result rs || list_any is_result (map first_result (one_of_each rss)))
      something = first-test is_result rs rss ∙ (within is_result (λ r qs. is_result r || is_result (first_result qs)) (λ r qs. result-first r (first_result qs))
          ∙ (any-agree (λ r. list_any (λ qs. is_result r || is_result (first_result qs)) (one_of_each rss)) (λ r. list_any (λ qs. is_result r) (one_of_each rss) || list_any (λ qs. is_result (first_result qs)) (one_of_each rss)) rs (λ r. any-or (λ qs. is_result r) (λ qs. is_result (first_result qs)) (one_of_each rss))
          ∙ (any-or (λ r. list_any (λ qs. is_result r) (one_of_each rss)) (λ r. list_any (λ qs. is_result (first_result qs)) (one_of_each rss)) rs
          ∙ or_same (any-first is_result rs (one_of_each rss) ∙ and_there _ _ others) (any-second (λ qs. is_result (first_result qs)) rs (one_of_each rss) ∙ (there_and _ _ there ∙ ends is_result rss)))))

      given : list_any (passes f) (map first_result (one_of_each (rs ∷ rss))) ≡ (list_any (passes f) rs || (list_any is_none rs && list_any (passes f) (map first_result (one_of_each rss))))
      given = first-test (passes f) rs rss ∙ (within (passes f) (λ r qs. passes f r || (is_none r && passes f (first_result qs))) (λ r qs. passes-first r (first_result qs))
          ∙ (any-agree (λ r. list_any (λ qs. passes f r || (is_none r && passes f (first_result qs))) (one_of_each rss)) (λ r. list_any (λ qs. passes f r) (one_of_each rss) || list_any (λ qs. is_none r && passes f (first_result qs)) (one_of_each rss)) rs (λ r. any-or (λ qs. passes f r) (λ qs. is_none r && passes f (first_result qs)) (one_of_each rss))
          ∙ (any-or (λ r. list_any (λ qs. passes f r) (one_of_each rss)) (λ r. list_any (λ qs. is_none r && passes f (first_result qs)) (one_of_each rss)) rs
          ∙ or_same (any-first (passes f) rs (one_of_each rss) ∙ and_there _ _ others) (any-pairs is_none (λ qs. passes f (first_result qs)) rs (one_of_each rss) ∙ ap (λ b. list_any is_none rs && b) (ends (passes f) rss)))))

-- an assignment: whether its element is the one asked for, index by index
pub mix-matches : (qs : List Place) (uss : List (List AbsOutcome)) → list_all is_there uss ≡ true → mix_by (matches qs) (one_of_each uss) ≡ matches_all qs uss
mix-matches [] [] h = refl
mix-matches (q ∷ qs) [] h = refl
mix-matches [] (us ∷ uss) h =
    choices-two (λ u t. and_of (is_known u) t) (matches []) (matches []) us uss (λ u vs. refl)
    ∙ (and-two is_known (matches []) us (one_of_each uss) (left_of (is_there us) (list_all is_there uss) h) (there-choices uss (right_of (is_there us) (list_all is_there uss) h))
    ∙ ap (and_mix (mix_by is_known us)) (mix-matches [] uss (right_of (is_there us) (list_all is_there uss) h)))
mix-matches (q ∷ qs) (us ∷ uss) h =
    choices-two (λ u t. and_of (at_index q u) t) (matches (q ∷ qs)) (matches qs) us uss (λ u vs. refl)
    ∙ (and-two (at_index q) (matches qs) us (one_of_each uss) (left_of (is_there us) (list_all is_there uss) h) (there-choices uss (right_of (is_there us) (list_all is_there uss) h))
    ∙ ap (and_mix (mix_by (at_index q) us)) (mix-matches qs uss (right_of (is_there us) (list_all is_there uss) h)))

abbrev by_tests : Bool → Bool → Truth
by_tests elsewhere unknown = if elsewhere then Some false else if unknown then None else Some true

known_more : (u : AbsOutcome) (n : Bool) → and_of (is_known u) (by_tests false n) ≡ by_tests false (is_none u || n)
known_more (Some p) true = refl
known_more (Some p) false = refl
known_more None true = refl
known_more None false = refl

index_more : (b : Bool) (e n : Bool) → and_of (Some b) (by_tests e n) ≡ by_tests (not b || e) n
index_more true true n = refl
index_more true false true = refl
index_more true false false = refl
index_more false e n = refl

unknown_more : (e n : Bool) → and_of None (by_tests e n) ≡ by_tests e true
unknown_more true n = refl
unknown_more false true = refl
unknown_more false false = refl

matches-tests : (qs : List Place) (us : List AbsOutcome) → matches qs us ≡ by_tests (list_any (λ (u, q). is_elsewhere u q) (zip us qs)) (list_any is_none us)
matches-tests [] [] = refl
matches-tests (q ∷ qs) [] = refl
matches-tests [] (u ∷ us) = ap (and_of (is_known u)) (matches-tests [] us ∙ ap (λ b. by_tests b (list_any is_none us)) (no_pairs us)) ∙ known_more u (list_any is_none us)
  where
    no_pairs : (us : List AbsOutcome) → list_any (λ (u, q). is_elsewhere u q) (zip us []) ≡ false
    no_pairs [] = refl
    no_pairs (u ∷ us) = refl
matches-tests (q ∷ qs) (Some p ∷ us) = ap (and_of (Some (same_place p q))) (matches-tests qs us) ∙ index_more (same_place p q) (list_any (λ (u, q). is_elsewhere u q) (zip us qs)) (list_any is_none us)
matches-tests (q ∷ qs) (None ∷ us) = ap (and_of None) (matches-tests qs us) ∙ unknown_more (list_any (λ (u, q). is_elsewhere u q) (zip us qs)) (list_any is_none us)

abbrev by_match : {X : Type 0} → X → X → Truth → Option X
by_match everything right (Some false) = None
by_match everything right (Some true) = Some right
by_match everything right None = Some everything

module _ {X : Type 0} (w : World) (kept : Kept) (a : AbsState) (indexes : List Place) (everything : X) (right : FlatExpr → List Place → X) (f : X → Bool) (value : FlatExpr) (b : List Place) where
  assigned-match : (us : List AbsOutcome) → assigned w kept a indexes everything right us value b ≡ by_match everything (right value b) (matches indexes us)
  assigned-match us = at (list_any (λ (u, q). is_elsewhere u q) (zip us indexes)) (list_any is_none us) ∙ ap (by_match everything (right value b)) (sym (matches-tests indexes us))
    where
      at : (e n : Bool) → (if e then None else if n then Some everything else Some (right value b)) ≡ by_match everything (right value b) (by_tests e n)
      at true n = refl
      at false true = refl
      at false false = refl

  matched-test : (p : Option X → Bool) (q : Truth → Bool) → ((t : Truth) → p (by_match everything (right value b) t) ≡ q t) → (uss : List (List AbsOutcome)) →
      list_any p (map (λ us. assigned w kept a indexes everything right us value b) (one_of_each uss)) ≡ list_any (λ us. q (matches indexes us)) (one_of_each uss)
  matched-test p q e uss = any-map p (λ us. assigned w kept a indexes everything right us value b) (one_of_each uss) ∙ any-agree (λ us. p (assigned w kept a indexes everything right us value b)) (λ us. q (matches indexes us)) (one_of_each uss) (λ us. ap p (assigned-match us) ∙ e (matches indexes us))

  pub gist-assigned : (uss : List (List AbsOutcome)) → list_all is_there uss ≡ true →
      gist_of f (map (λ us. assigned w kept a indexes everything right us value b) (one_of_each uss)) ≡ assigned_gist (f everything) (f (right value b)) (matches_all indexes uss)
  gist-assigned uss h = same_gist
      (matched-test is_none is_false none uss)
      (matched-test is_result (λ t. is_true t || is_neither t) some uss ∙ any-or (λ us. is_true (matches indexes us)) (λ us. is_neither (matches indexes us)) (one_of_each uss))
      (matched-test (passes f) (λ t. (is_true t && f (right value b)) || (is_neither t && f everything)) given uss
      ∙ (any-or (λ us. is_true (matches indexes us) && f (right value b)) (λ us. is_neither (matches indexes us) && f everything) (one_of_each uss)
      ∙ or_same (any-and_right (λ us. is_true (matches indexes us)) (f (right value b)) (one_of_each uss)) (any-and_right (λ us. is_neither (matches indexes us)) (f everything) (one_of_each uss))))
      ∙ ap (assigned_gist (f everything) (f (right value b))) (mix-matches indexes uss h)
    where
      none : (t : Truth) → is_none (by_match everything (right value b) t) ≡ is_false t
      none (Some true) = refl
      none (Some false) = refl
      none None = refl

      some : (t : Truth) → is_result (by_match everything (right value b) t) ≡ (is_true t || is_neither t)
      some (Some true) = refl
      some (Some false) = refl
      some None = refl

      given : (t : Truth) → passes f (by_match everything (right value b) t) ≡ ((is_true t && f (right value b)) || (is_neither t && f everything))
      given (Some true) = sym (one (f (right value b)))
      given (Some false) = refl
      given None = refl
