-- Steps of a search.
use Rattle.std.proofs.Common.{◌≡◌, ℕ, ◌+◌, ◌<◌, ◌≤◌, ◌⊎◌, inl, inr, Bool, true, false, List, [], ◌∷◌, ◌++◌, take, length, get_or, set, count_by, cond, refl, sym, subst, ap, ◌∙◌, arith}
use Rattle.std.specs.List.{Contains}
use Rattle.std.proofs.lemmas.Grind.{common_steps}
use Rattle.std.proofs.lemmas.List.Sums.{sum_by-set, count_by-le-length}
use Rattle.std.proofs.lemmas.List.{get_or_past, length-set, length-take, get_or-take, take_all, get_or-set_other, length_push}
use Rattle.std.proofs.lemmas.List.Elements.{Contains-push, Contains-push_cases, Contains-get_or}
use Rattle.std.proofs.lemmas.Bool.{false≢true, cases_eq, cases_lt}
use Rattle.graph_search.specs.Walks.{Walk, here, step}
use Rattle.graph_search.specs.Searches.{IsSeen, IsQueue, IsExplored, Saw, IsSearch}

-- what was seen stays seen
pub seen_kept : (seen : List Bool) (node x : ℕ) → IsSeen seen x → IsSeen (set seen node true) x
seen_kept seen node x e = grind (arith, common_steps)

pub seen_new : (seen : List Bool) (node : ℕ) → node < length seen → IsSeen (set seen node true) node
seen_new seen node h = grind (arith, common_steps)

-- what is seen then is the node or was seen
pub seen_which : (seen : List Bool) (node x : ℕ) → IsSeen (set seen node true) x → (x ≡ node) ⊎ IsSeen seen x
seen_which seen node x e = elim (cases_eq x node) [
  | inl same ↦ inl same
  | inr other ↦ inr (sym (get_or-set_other seen node x true false other) ∙ e)
]

pub counted_step : (seen : List Bool) (node : ℕ) → node < length seen → get_or seen node false ≡ false → count_by (λ flag. flag) (set seen node true) ≡ count_by (λ flag. flag) seen + 1
counted_step seen node h e = grind (arith, common_steps, sum_by-set (λ (flag : Bool). cond flag 1 0) seen node true false h)

-- what is seen is a node
pub seen_within : (seen : List Bool) (x : ℕ) → IsSeen seen x → x < length seen
seen_within seen x e = elim (cases_lt x (length seen)) [
  | inl below ↦ below
  | inr above ↦ absurd (false≢true (sym (get_or_past seen x false above) ∙ e))
]

only : (x y : ℕ) → Contains (x ∷ []) y → y ≡ x
only x y h = let first : h.0 ≡ 0 = (let l = h.1 in omega (arith, l)) in sym h.2 ∙ ap (λ k. get_or (x ∷ []) k y) first

-- a node that was not seen
pub see_new : (seen : List Bool) (queue : List ℕ) (node : ℕ) → node < length seen → get_or seen node false ≡ false → Saw (node ∷ []) seen (set seen node true) queue (queue ++ node ∷ [])
see_new seen queue node h e = record {
  room = length-set seen node true;
  few = λ l. omega (arith, length_push queue node, counted_step seen node h e);
  kept = seen_kept seen node;
  grows = omega (arith, length_push queue node);
  front = λ k b. grind (arith, common_steps);
  each = λ x c. subst (IsSeen (set seen node true)) (sym (only node x c)) (seen_new seen node h);
  told = λ x m. elim (seen_which seen node x m) [ inl same ↦ inr (subst (Contains (queue ++ node ∷ [])) (sym same) (Contains-push queue node)) | inr old ↦ inl old ];
  fresh = λ x c. elim (Contains-push_cases queue node x c) [
    | inl old ↦ inl old
    | inr same ↦ inr (
      (0, omega arith, same),
      ap (λ y. get_or seen y false) (sym same) ∙ e,
      subst (IsSeen (set seen node true)) same (seen_new seen node h),
    )
  ];
}

-- a node that was seen
pub see_old : (seen : List Bool) (queue : List ℕ) (node : ℕ) → IsSeen seen node → Saw (node ∷ []) seen seen queue queue
see_old seen queue node e = record {
  room = refl;
  few = λ l. l;
  kept = λ x m. m;
  grows = omega arith;
  front = λ k b. refl;
  each = λ x c. subst (IsSeen seen) (sym (only node x c)) e;
  told = λ x m. inl m;
  fresh = λ x c. inl c;
}

none_in : {P : Type 0} (x : ℕ) → Contains [] x → P
none_in x c = let l = c.1 in absurd (omega (arith, l))

-- no nodes
pub saw_none : (seen : List Bool) (queue : List ℕ) → Saw [] seen seen queue queue
saw_none seen queue = record {
  room = refl;
  few = λ l. l;
  kept = λ x m. m;
  grows = omega arith;
  front = λ k b. refl;
  each = λ x c. none_in x c;
  told = λ x m. inl m;
  fresh = λ x c. inl c;
}

-- the elements of a front
pub in_front : (nodes : List ℕ) (i x : ℕ) → Contains (take i nodes) x → Contains nodes x
in_front nodes i x c =
    let l = c.1 in
    let below : c.0 < i = omega (arith, l, length-take i nodes) in
    (c.0, omega (arith, l, length-take i nodes), sym (get_or-take i nodes c.0 x below) ∙ c.2)

pub at_front : (nodes : List ℕ) (i x : ℕ) → i < length nodes → Contains (take (i + 1) nodes) x → Contains (take i nodes) x ⊎ (get_or nodes i 0 ≡ x)
at_front nodes i x h c =
    let l = c.1 in
    let below : c.0 < i + 1 = omega (arith, l, length-take (i + 1) nodes) in
    let is : get_or nodes c.0 x ≡ x = sym (get_or-take (i + 1) nodes c.0 x below) ∙ c.2 in
    elim (cases_lt c.0 i) [
      | inl less ↦ inl (c.0, omega (arith, length-take i nodes), get_or-take i nodes c.0 x less ∙ is)
      | inr more ↦ inr (let same : i ≡ c.0 = omega arith in ap (λ k. get_or nodes k 0) same ∙ (within c.0 (omega arith) ∙ is))
    ]
  where
    within : (k : ℕ) → k < length nodes → get_or nodes k 0 ≡ get_or nodes k x
    within k b = grind (arith, common_steps)

-- the queue so far stands in the longer one
pub kept_in_queue : (queue longer : List ℕ) (x : ℕ) → length queue ≤ length longer → ((k : ℕ) → k < length queue → get_or longer k 0 ≡ get_or queue k 0) → Contains queue x → Contains longer x
kept_in_queue queue longer x grows front c =
    let l = c.1 in
    let b : c.0 < length longer = omega (arith, l, grows) in
    (c.0, b, any longer c.0 b ∙ (front c.0 l ∙ (sym (any queue c.0 l) ∙ c.2)))
  where
    any : (xs : List ℕ) (k : ℕ) → k < length xs → get_or xs k x ≡ get_or xs k 0
    any xs k b = grind (arith, common_steps)

-- one node more
pub saw_more : (nodes : List ℕ) (i : ℕ) (seen mid marks : List Bool) (queue longer longest : List ℕ) → i < length nodes →
    Saw (take i nodes) seen mid queue longer → Saw (get_or nodes i 0 ∷ []) mid marks longer longest → Saw (take (i + 1) nodes) seen marks queue longest
saw_more nodes i seen mid marks queue longer longest h former last = record {
  room = last.room ∙ former.room;
  few = λ l. last.few (former.few l);
  kept = λ x m. last.kept x (former.kept x m);
  grows = omega (arith, former.grows, last.grows);
  front = λ k b. last.front k (omega (arith, former.grows)) ∙ former.front k b;
  each = λ x c. elim (at_front nodes i x h c) [ inl before ↦ last.kept x (former.each x before) | inr same ↦ last.each x (0, omega arith, same) ];
  told = λ x m. elim (last.told x m) [
    | inl old ↦ elim (former.told x old) [ inl older ↦ inl older | inr there ↦ inr (kept_in_queue longer longest x last.grows last.front there) ]
    | inr there ↦ inr there
  ];
  fresh = λ x c. elim (last.fresh x c) [
    | inl there ↦ elim (former.fresh x there) [ inl before ↦ inl before | inr r ↦ inr (further x r.0, r.1, last.kept x r.2) ]
    | inr r ↦ inr (here_too x r.0, unseen_too x r.1, r.2)
  ];
}
  where
    further : (x : ℕ) → Contains (take i nodes) x → Contains (take (i + 1) nodes) x
    further x c =
        let l = c.1 in
        let below : c.0 < i = omega (arith, l, length-take i nodes) in
        let b : c.0 < i + 1 = omega (arith, below) in
        (c.0, omega (arith, below, h, length-take (i + 1) nodes), get_or-take (i + 1) nodes c.0 x b ∙ (sym (get_or-take i nodes c.0 x below) ∙ c.2))

    here_too : (x : ℕ) → Contains (get_or nodes i 0 ∷ []) x → Contains (take (i + 1) nodes) x
    here_too x c =
        let b : i < i + 1 = omega arith in
        (i, omega (arith, h, length-take (i + 1) nodes), get_or-take (i + 1) nodes i x b ∙ (within x ∙ sym (only (get_or nodes i 0) x c)))
      where
        within : (x : ℕ) → get_or nodes i x ≡ get_or nodes i 0
        within x = grind (arith, common_steps)

    unseen_too : (x : ℕ) → get_or mid x false ≡ false → get_or seen x false ≡ false
    unseen_too x u = not_seen (get_or seen x false) (λ e. false≢true (sym u ∙ former.kept x e))
      where
        not_seen : (b : Bool) → (b ≡ true → ⊥) → b ≡ false
        not_seen true n = absurd (n refl)
        not_seen false n = refl

-- all nodes
pub saw_all : (nodes : List ℕ) (i : ℕ) (seen marks : List Bool) (queue longer : List ℕ) → length nodes ≤ i → Saw (take i nodes) seen marks queue longer → Saw nodes seen marks queue longer
saw_all nodes i seen marks queue longer h s = subst (λ l. Saw l seen marks queue longer) (take_all i nodes h) s

-- ---- the whole search

module _ (after : ℕ → List ℕ) (seen : List Bool) (queue : List ℕ) where
  -- a search begins with its queue
  pub search_begun : IsQueue seen queue → IsSearch after 0 seen seen queue queue
  search_begun is = record {
    room = refl;
    few = is.few;
    kept = λ x m. m;
    front = λ x c. c;
    told = λ x m. inl m;
    marked = is.marked;
    fresh = λ x c. inl c;
    reached = λ x c. (x, c, here);
    passed = λ k b l y c. absurd (omega arith);
  }

  walked : {x y z : ℕ} → Walk after x y → Contains (after y) z → Walk after x z
  walked here c = step c here
  walked (step d w) c = step d (walked w c)

  -- those that follow one more of the queue were seen
  pub search_turn : (turn : ℕ) (marks more : List Bool) (longer longest : List ℕ) → turn < length longer → IsSearch after turn seen marks queue longer →
      Saw (after (get_or longer turn 0)) marks more longer longest → IsSearch after (turn + 1) seen more queue longest
  search_turn turn marks more longer longest h s saw = record {
    room = saw.room ∙ s.room;
    few = saw.few s.few;
    kept = λ x m. saw.kept x (s.kept x m);
    front = λ x c. further x (s.front x c);
    told = λ x m. elim (saw.told x m) [ inl old ↦ elim (s.told x old) [ inl older ↦ inl older | inr there ↦ inr (further x there) ] | inr there ↦ inr there ];
    marked = λ x c. elim (saw.fresh x c) [ inl there ↦ saw.kept x (s.marked x there) | inr r ↦ r.2 ];
    fresh = λ x c. elim (saw.fresh x c) [ inl there ↦ s.fresh x there | inr r ↦ inr (unseen x r.1) ];
    reached = λ x c. elim (saw.fresh x c) [
      | inl there ↦ s.reached x there
      | inr r ↦ let w = s.reached (get_or longer turn 0) (Contains-get_or longer turn 0 h) in (w.0, w.1, walked w.2 r.0)
    ];
    passed = λ k b l y c. elim (cases_lt k turn) [
      | inl below ↦ let there : k < length longer = omega arith in saw.kept y (s.passed k below there y (subst (λ n. Contains (after n) y) (saw.front k there) c))
      | inr above ↦ let same : k ≡ turn = omega arith in let there : k < length longer = omega arith in
          saw.each y (subst (λ n. Contains (after n) y) (saw.front k there ∙ ap (λ j. get_or longer j 0) same) c)
    ];
  }
    where
      further : (x : ℕ) → Contains longer x → Contains longest x
      further x c = kept_in_queue longer longest x saw.grows saw.front c

      unseen : (x : ℕ) → get_or marks x false ≡ false → get_or seen x false ≡ false
      unseen x u = not_seen (get_or seen x false) (λ e. false≢true (sym u ∙ s.kept x e))
        where
          not_seen : (b : Bool) → (b ≡ true → ⊥) → b ≡ false
          not_seen true n = absurd (n refl)
          not_seen false n = refl

  -- behind the last of the queue it is over
  pub search_over : (turn : ℕ) (marks : List Bool) (longer : List ℕ) → length longer ≤ turn → IsSearch after turn seen marks queue longer → IsExplored after seen marks queue longer
  search_over turn marks longer h s = record {
    room = s.room;
    kept = s.kept;
    front = s.front;
    told = s.told;
    marked = s.marked;
    fresh = s.fresh;
    reached = s.reached;
    closed = λ x y c d.
        let l = c.1 in
        s.passed c.0 (omega (arith, l, h)) l y (subst (λ n. Contains (after n) y) (sym (any c.0 x l ∙ c.2)) d);
  }
    where
      any : (k x : ℕ) → k < length longer → get_or longer k 0 ≡ get_or longer k x
      any k x b = grind (arith, common_steps)

-- there are no more in the queue than nodes
pub few_nodes : (marks : List Bool) (longer : List ℕ) → length longer ≤ count_by (λ flag. flag) marks → length longer ≤ length marks
few_nodes marks longer h = let l = count_by-le-length (λ flag. flag) marks in omega (arith, h, l)
