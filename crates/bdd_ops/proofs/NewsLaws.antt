-- How the new results of two calls are joined, and that there are few.
use Rattle.std.proofs.Common.{◌≡◌, ℕ, ◌+◌, ◌*◌, ◌<◌, ◌≤◌, Bool, true, false, ◌⊎◌, inl, inr, cond, List, [], ◌∷◌, ◌++◌, length, Some, None, Result, Ok, Err, IsErr, is_ok, refl, sym, ◌∙◌, ap, subst, arith}
use Rattle.std.specs.List.{IsDistinct, AllByRecursion}
use Rattle.std.specs.Map.{lookup}
use Rattle.std.proofs.lemmas.List.{length-append}
use Rattle.bdd_store.specs.declared.Ref.{Ref}
use Rattle.bdd_store.specs.declared.Operation.{Operation}
use Rattle.bdd_store.specs.Diagram.{Diagram, IsLive, IsReduced, IsProper, Reaches, Keeps, beads}
use Rattle.bdd_store.specs.declared.results.Entry.{Entry}
use Rattle.bdd_store.specs.Sure.{IsSure}
use Rattle.bdd_store.proofs.Laws.{reaches_self}
use Rattle.bdd_store.proofs.Few.{IsPairBelow, few_pairs_below}
use Rattle.bdd_store.proofs.Keeping.{keeps_self}
use Rattle.memo_table.specs.Results.{Results, same_pair, result_of}
use Rattle.bdd_ops.specs.Memo.{pair_first}
use Rattle.bdd_ops.specs.News.{State, IsFound, IsNew, News, SamePair}
use Rattle.bdd_ops.proofs.MemoLaws.{proper_kept, pair_test, IsTwiceBelow, few_twice}

pub all_map : {K : Type 0} (P Q : K → Type 0) → ((x : K) → P x → Q x) → (xs : List K) → AllByRecursion P xs → AllByRecursion Q xs
all_map P Q f [] all = tt
all_map P Q f (x ∷ xs) all = (f x all.0, all_map P Q f xs all.1)

all_append : {K : Type 0} (P : K → Type 0) → (xs ys : List K) → AllByRecursion P xs → AllByRecursion P ys → AllByRecursion P (xs ++ ys)
all_append P [] ys all more = more
all_append P (x ∷ xs) ys all more = (all.0, all_append P xs ys all.1 more)

distinct_append : (P Q : Ref × Ref → Type 0) → ((x y : Ref × Ref) → P x → Q y → same_pair x y ≡ false) → (xs ys : List (Ref × Ref)) → AllByRecursion P xs → AllByRecursion Q ys → IsDistinct same_pair xs → IsDistinct same_pair ys → IsDistinct same_pair (xs ++ ys)
unfolding IsDistinct
distinct_append P Q apart [] ys all more once twice = twice
distinct_append P Q apart (x ∷ xs) ys all more once twice = (
  all_append (λ y. same_pair x y ≡ false) xs ys once.0 (all_map Q (λ y. same_pair x y ≡ false) (λ y q. apart x y all.0 q) ys more),
  distinct_append P Q apart xs ys all.1 more once.1 twice,
)

-- pairs that are not one are told apart
apart_pairs : (x y : Ref × Ref) → (x ≡ y → ⊥) → same_pair x y ≡ false
apart_pairs x y ne = by_test (same_pair x y) refl
  where
    by_test : (t : Bool) → same_pair x y ≡ t → t ≡ false
    by_test true e = absurd (ne (pair_test.is x y e))
    by_test false e = refl

module _ (op : Ref × Ref → Operation) (IsPair : Ref × Ref → Type 0) (turn : ℕ) where
  -- nothing is new
  pub news_none : (s t : State) (f g : Ref) (k n : ℕ) → ((p : Ref × Ref) → IsFound op turn s p → IsFound op turn t p) → t.0.calls ≤ s.0.calls + n → News op IsPair turn s t f g k n
  unfolding IsDistinct
  news_none s t f g k n stays calls = record { pairs = []; each = tt; once = tt; stays = stays; calls = omega (arith, calls) }

  pub news_hit : (d : Diagram) (known new : List Entry) (memo : Results) (f g : Ref) (k : ℕ) → new ≡ known → News op IsPair turn (d, (known, memo)) (d, (new, memo)) f g k 0
  news_hit d known new memo f g k same = news_none (d, (known, memo)) (d, (new, memo)) f g k 0 (λ p found. elim found [
    | inl sure ↦ inl (subst (λ (es : List Entry). IsSure es turn (op p)) (sym same) sure)
    | inr some ↦ inr some
  ]) (omega arith)

  -- an answer was refused
  pub news_err : {X E : Type 0} → (r : Result X E) → IsErr r → (s t : State) (f g : Ref) (k : ℕ) → News op IsPair turn s t f g k 1 → News op IsPair turn s t f g k (cond (is_ok r) 0 1)
  news_err (Ok x) is s t f g k news = absurd (let none : false ≡ true = is in cc)
  news_err (Err e) is s t f g k news = news

  -- what is new stays as the store grows
  new_kept : (s t u : State) (f g : Ref) (k h : ℕ) → Keeps s.0 t.0 → Keeps t.0 u.0 → ((p : Ref × Ref) → IsFound op turn t p → IsFound op turn u p) → h ≤ k → (p : Ref × Ref) → IsNew op IsPair turn s t f g k p → IsNew op IsPair turn s u f g h p
  new_kept s t u f g k h before keeps stays le p is = record {
    absent = is.absent;
    found = stays p is.found;
    pair = is.pair;
    first_live = keeps.live p.0 is.first_live;
    second_live = keeps.live p.1 is.second_live;
    first_proper = proper_kept t.0 u.0 keeps p.0 is.first_live is.first_proper;
    second_proper = proper_kept t.0 u.0 keeps p.1 is.second_live is.second_proper;
    later = omega (arith, le, is.later, keeps.firsts p.0 is.first_live, keeps.firsts p.1 is.second_live);
    reached = λ a b live_a live_b down_a down_b.
        let r = is.reached a b live_a live_b down_a down_b in
        (keeps.reached a p.0 (before.live a live_a) is.first_live r.0, keeps.reached b p.1 (before.live b live_b) is.second_live r.1);
  }

  -- what is new of operands that f and g reach is new of f and g
  new_below : (s t u : State) (f g f' g' : Ref) (k h : ℕ) → Keeps s.0 t.0 → ((p : Ref × Ref) → IsFound op turn s p → IsFound op turn t p) → h ≤ k
      → ((a : Ref) → IsLive s.0 a → Reaches s.0 a f → Reaches t.0 a f') → ((a : Ref) → IsLive s.0 a → Reaches s.0 a g → Reaches t.0 a g') → (p : Ref × Ref) → IsNew op IsPair turn t u f' g' k p → IsNew op IsPair turn s u f g h p
  new_below s t u f g f' g' k h keeps stays le down_f down_g p is = record {
    absent = λ found. is.absent (stays p found);
    found = is.found;
    pair = is.pair;
    first_live = is.first_live;
    second_live = is.second_live;
    first_proper = is.first_proper;
    second_proper = is.second_proper;
    later = omega (arith, le, is.later);
    reached = λ a b live_a live_b down_a down_b. is.reached a b (keeps.live a live_a) (keeps.live b live_b) (down_f a live_a down_a) (down_g b live_b down_b);
  }

  -- the news of a first call, where f and g reach its operands
  pub news_first : (s t : State) (f g f' g' : Ref) (k h n : ℕ) → Keeps s.0 s.0 → h ≤ k
      → ((a : Ref) → IsLive s.0 a → Reaches s.0 a f → Reaches s.0 a f') → ((a : Ref) → IsLive s.0 a → Reaches s.0 a g → Reaches s.0 a g') → News op IsPair turn s t f' g' k n → News op IsPair turn s t f g h n
  news_first s t f g f' g' k h n same le down_f down_g news = record {
    pairs = news.pairs;
    each = all_map _ _ (new_below s s t f g f' g' k h same (λ p found. found) le down_f down_g) news.pairs news.each;
    once = news.once;
    stays = news.stays;
    calls = news.calls;
  }

  -- and of a second one
  pub news_second : (s t u : State) (f g f' g' : Ref) (k h n m : ℕ) → Keeps s.0 t.0 → Keeps t.0 u.0 → h ≤ k
      → ((a : Ref) → IsLive s.0 a → Reaches s.0 a f → Reaches t.0 a f') → ((a : Ref) → IsLive s.0 a → Reaches s.0 a g → Reaches t.0 a g') → News op IsPair turn s t f g h n → News op IsPair turn t u f' g' k m → News op IsPair turn s u f g h (n + m)
  news_second s t u f g f' g' k h n m before keeps le down_f down_g first second = record {
    pairs = second.pairs ++ first.pairs;
    each = all_append (IsNew op IsPair turn s u f g h) second.pairs first.pairs (all_map _ _ (new_below s t u f g f' g' k h before first.stays le down_f down_g) second.pairs second.each)
        (all_map _ _ (new_kept s t u f g h h before keeps second.stays (omega arith)) first.pairs first.each);
    once = distinct_append (IsNew op IsPair turn t u f' g' k) (IsNew op IsPair turn s t f g h) (λ x y new old. apart_pairs x y (λ e. new.absent (subst (IsFound op turn t) (sym e) old.found))) second.pairs first.pairs second.each first.each second.once first.once;
    stays = λ p found. second.stays p (first.stays p found);
    calls = omega (arith, first.calls, second.calls, length-append second.pairs first.pairs);
  }

  -- the store grows
  pub news_later : (s t u : State) (f g : Ref) (k n m : ℕ) → Keeps s.0 t.0 → Keeps t.0 u.0 → ((p : Ref × Ref) → IsFound op turn t p → IsFound op turn u p) → u.0.calls ≤ t.0.calls + m → News op IsPair turn s t f g k n → News op IsPair turn s u f g k (n + m)
  news_later s t u f g k n m before keeps stays calls news = record {
    pairs = news.pairs;
    each = all_map _ _ (new_kept s t u f g k k before keeps stays (omega arith)) news.pairs news.each;
    once = news.once;
    stays = λ p found. stays p (news.stays p found);
    calls = omega (arith, calls, news.calls);
  }

  pub news_weaken : (s t : State) (f g : Ref) (k h n : ℕ) → h ≤ k → News op IsPair turn s t f g k n → News op IsPair turn s t f g h n
  news_weaken s t f g k h n le news = news_first s t f g f g k h n (keeps_self s.0) le (λ a live down. down) (λ a live down. down) news

  -- the result for f and g itself, of an earlier variable than all others
  pub news_put : (s t u : State) (f g : Ref) (k h : ℕ) → Keeps s.0 t.0 → Keeps t.0 u.0 → ((p : Ref × Ref) → IsFound op turn t p → IsFound op turn u p) → u.0.calls ≤ t.0.calls + 1 → h < k
      → IsLive s.0 f → IsLive s.0 g → IsProper s.0 f → IsProper s.0 g → pair_first s.0 (f, g) ≡ h → IsPair (f, g) → (IsFound op turn s (f, g) → ⊥) → IsFound op turn u (f, g) → News op IsPair turn s t f g k 0 → News op IsPair turn s u f g h 0
  unfolding IsDistinct
  news_put s t u f g k h before keeps stays calls lt live_f live_g proper_f proper_g first pair absent found news =
      let f_live = before.live f live_f in
      let g_live = before.live g live_g in
      let f_proper = proper_kept s.0 t.0 before f live_f proper_f in
      let g_proper = proper_kept s.0 t.0 before g live_g proper_g in
      let here : IsNew op IsPair turn s u f g h (f, g) = record {
        absent = absent;
        found = found;
        pair = pair;
        first_live = keeps.live f f_live;
        second_live = keeps.live g g_live;
        first_proper = proper_kept t.0 u.0 keeps f f_live f_proper;
        second_proper = proper_kept t.0 u.0 keeps g g_live g_proper;
        later = omega (arith, first, before.firsts f live_f, before.firsts g live_g, keeps.firsts f f_live, keeps.firsts g g_live);
        reached = λ a b live_a live_b down_a down_b.
            (keeps.reached a f (before.live a live_a) f_live (before.reached a f live_a live_f down_a), keeps.reached b g (before.live b live_b) g_live (before.reached b g live_b live_g down_b));
      } in
      let at : pair_first t.0 (f, g) ≡ h = omega (arith, first, before.firsts f live_f, before.firsts g live_g) in
      let other : (y : Ref × Ref) → IsNew op IsPair turn s t f g k y → same_pair (f, g) y ≡ false = λ y new. apart_pairs (f, g) y (λ e. let same = ap (pair_first t.0) e in omega (arith, lt, at, same, new.later)) in
      record {
        pairs = (f, g) ∷ news.pairs;
        each = (here, all_map _ _ (new_kept s t u f g k h before keeps stays (omega (arith, lt))) news.pairs news.each);
        once = distinct_more (all_map _ _ other news.pairs news.each) news.once;
        stays = λ p found. stays p (news.stays p found);
        calls = omega (arith, calls, news.calls);
      }
    where
      distinct_more : AllByRecursion (λ y. same_pair (f, g) y ≡ false) news.pairs → IsDistinct same_pair news.pairs → IsDistinct same_pair ((f, g) ∷ news.pairs)
      distinct_more apart once = (apart, once)

  -- calls are at most as many as pairs of nodes
  pub few_news : (s t : State) (f g : Ref) (k n : ℕ) → IsReduced t.0 → Keeps s.0 t.0 → IsLive s.0 f → IsLive s.0 g → (news : News op IsPair turn s t f g k n) → length news.pairs ≤ beads t.0 f * beads t.0 g
  few_news s t f g k n ok keeps live_f live_g news =
      few_pairs_below t.0 ok f g (keeps.live f live_f) (keeps.live g live_g) news.pairs news.once (all_map _ _ (λ p is.
      let r = is.reached f g live_f live_g (reaches_self s.0 f) (reaches_self s.0 g) in
      let below : IsPairBelow t.0 f g p = record { first = r.0; first_proper = is.first_proper; second = r.1; second_proper = is.second_proper } in below) news.pairs news.each)

-- or as nodes, where each is both operands
pub few_same : (op : Ref × Ref → Operation) (turn : ℕ) (s t : State) (f : Ref) (k n : ℕ) → IsReduced t.0 → Keeps s.0 t.0 → IsLive s.0 f → (news : News op SamePair turn s t f f k n) → length news.pairs ≤ beads t.0 f
few_same op turn s t f k n ok keeps live news =
    few_twice t.0 f ok (keeps.live f live) news.pairs news.once (all_map _ _ (λ p is.
    let r = is.reached f f live live (reaches_self s.0 f) (reaches_self s.0 f) in
    let below : IsTwiceBelow t.0 f p = record { twice = is.pair; below = record { reached = r.0; proper = is.first_proper } } in below) news.pairs news.each)

-- a memo finds what it found, and what is put there
found_put : (m n : Results) (k q : Ref × Ref) (r : Ref) → n ≡ (k, r) ∷ m → (result_of m q ≡ None → ⊥) → result_of n q ≡ None → ⊥
found_put m n k q r put was none = by_test (same_pair q k) refl (sym (ap (lookup (same_pair q)) put) ∙ none)
  where
    by_test : (t : Bool) → same_pair q k ≡ t → cond t (Some r) (lookup (same_pair q) m) ≡ None → ⊥
    by_test true e is = let f : Some r ≡ None = is in cc
    by_test false e is = was is

pub found_here : (m n : Results) (k : Ref × Ref) (r : Ref) → n ≡ (k, r) ∷ m → result_of n k ≡ None → ⊥
found_here m n k r put none = by_test (same_pair k k) (pair_test.self k) (sym (ap (lookup (same_pair k)) put) ∙ none)
  where
    by_test : (t : Bool) → t ≡ true → cond t (Some r) (lookup (same_pair k) m) ≡ None → ⊥
    by_test true e is = let f : Some r ≡ None = is in cc
    by_test false e is = let f : false ≡ true = e in cc

pub memo_same : (m n : Results) → n ≡ m → (q : Ref × Ref) → (result_of m q ≡ None → ⊥) → result_of n q ≡ None → ⊥
memo_same m n e q was none = was (sym (ap (lookup (same_pair q)) e) ∙ none)

-- a result that is found stays so where one is kept
pub found_kept : (op : Ref × Ref → Operation) (turn : ℕ) (s t : State) (k : Ref × Ref) (r : Ref) → ((o : Operation) → IsSure s.1.0 turn o → IsSure t.1.0 turn o) → (t.1.1 ≡ s.1.1) ⊎ (t.1.1 ≡ (k, r) ∷ s.1.1) → (p : Ref × Ref) → IsFound op turn s p → IsFound op turn t p
found_kept op turn s t k r sure memo p (inl is) = inl (sure (op p) is)
found_kept op turn s t k r sure (inl same) p (inr some) = inr (memo_same s.1.1 t.1.1 same p some)
found_kept op turn s t k r sure (inr put) p (inr some) = inr (found_put s.1.1 t.1.1 k p r put some)
