-- Flags that say which nodes a search has seen.
use Rattle.std.proofs.Common.{◌≡◌, ◌≢◌, ℕ, zero, suc, ◌+◌, ◌-◌, ◌<◌, ◌≤◌, Bool, true, false, ◌||◌, eqb, cond, List, [], ◌∷◌, ◌++◌, length, get_or, set, refl, sym, ◌∙◌, ap, arith, inl, inr, get_or-set_other, get_or-set_same}
use Rattle.std.specs.List.{count_by, sum_by}
use Rattle.std.proofs.lemmas.Bool.{cases_lt}
use Rattle.std.proofs.lemmas.List.{get_or_default}
use Rattle.std.proofs.lemmas.List.Sums.{sum_by-cons}
use Rattle.std.proofs.lemmas.Bool.Decides.{nat_tests}
use Rattle.bdd_store.specs.declared.chains.Node.{Node}
use Rattle.bdd_store.specs.Graph.{var_at, low_at, high_at, Live, step, below, Reduced}
use Rattle.bdd_store.specs.Beads.{count_distinct}
use Rattle.bdd_store.specs.Seen.{flag, IsClosed, SeenIs}
use Rattle.bdd_store.proofs.Walks.{step_here, step_past, step_live, step_later}
use Rattle.bdd_store.proofs.Sets.{member, member_append, eqb_is, eqb_same, or_true, or_left, or_right, same_count}
use Rattle.bdd_store.proofs.Reach.{below_branch}
use Rattle.bdd_store.proofs.ChainLaws.{cases_eq}

or_same : (t : Bool) → t || t ≡ t
or_same true = refl
or_same false = refl

-- levels before a place's variable add nothing below it
below_skip : (ns : List Node) (t b k m r q : ℕ) → t + k ≡ b + m → k ≤ m → m ≤ var_at ns r → member q (below ns t k r) ≡ member q (below ns b m r)
unfolding below
below_skip ns zero zero k m r q sum le lt = refl
below_skip ns zero (suc b) k m r q sum le lt = absurd (omega arith)
below_skip ns (suc t) b k m r q sum le lt = elim (cases_lt k m) [
  | inl earlier ↦
      let test : eqb (var_at ns r) k ≡ false = grind (arith, nat_tests) in
      let past : (x : Bool) → below ns t (suc k) (step ns k r x) ≡ below ns t (suc k) r = λ x. ap (below ns t (suc k)) (step_past ns k r x (omega arith)) in
      ap (λ s. member q (cond s (r ∷ []) [] ++ (below ns t (suc k) (step ns k r false) ++ below ns t (suc k) (step ns k r true)))) test
      ∙ ap (λ l. member q (l ++ below ns t (suc k) (step ns k r true))) (past false)
      ∙ ap (λ l. member q (below ns t (suc k) r ++ l)) (past true)
      ∙ member_append q (below ns t (suc k) r) (below ns t (suc k) r)
      ∙ or_same (member q (below ns t (suc k) r))
      ∙ below_skip ns t b (suc k) m r q (omega arith) earlier lt
  | inr above ↦
      let same_k : k ≡ m = omega arith in
      let same_t : suc t ≡ b = omega arith in
      ap (λ x. member q (below ns (suc t) x r)) same_k ∙ ap (λ x. member q (below ns x m r)) same_t
]

below_here : (ns : List Node) (v b r q : ℕ) → var_at ns r ≡ v → member q (below ns (suc b) v r) ≡ eqb q r || (member q (below ns b (suc v) (step ns v r false)) || member q (below ns b (suc v) (step ns v r true)))
unfolding below
below_here ns v b r q here =
    let test : eqb (var_at ns r) v ≡ true = grind (arith, nat_tests) in
    ap (λ s. member q (cond s (r ∷ []) [] ++ (below ns b (suc v) (step ns v r false) ++ below ns b (suc v) (step ns v r true)))) test
    ∙ ap (λ s. eqb q r || s) (member_append q (below ns b (suc v) (step ns v r false)) (below ns b (suc v) (step ns v r true)))

below_none : (ns : List Node) (k r q : ℕ) → member q (below ns 0 k r) ≡ false
unfolding below
below_none ns k r q = refl

-- nothing lies below a place past all variables
pub below_last : (ns : List Node) (b k r q : ℕ) → b + k ≤ var_at ns r → member q (below ns b k r) ≡ false
below_last ns b k r q le = below_skip ns b 0 k (b + k) r q (omega arith) (omega arith) le ∙ below_none ns (b + k) r q

flag_here : (seen : List Bool) (r : ℕ) → r < length seen → flag (set seen r true) r ≡ true
unfolding flag
flag_here seen r lt = rw get_or-set_same refl

flag_other : (seen : List Bool) (r q : ℕ) → q ≢ r → flag (set seen r true) q ≡ flag seen q
unfolding flag
flag_other seen r q ne = rw get_or-set_other refl

module _ (n : ℕ) (ns : List Node) (ok : Reduced n ns) where
  -- below a node lie the node and what lies below its branches
  pub below_node : (r q : ℕ) → Live n ns r → var_at ns r < n → member q (below ns n 0 r) ≡ eqb q r || (member q (below ns n 0 (low_at ns r)) || member q (below ns n 0 (high_at ns r)))
  below_node r q live lt =
      let v = var_at ns r in
      let b = n - suc v in
      let branch : (x : Bool) → member q (below ns b (suc v) (step ns v r x)) ≡ member q (below ns n 0 (step ns v r x)) = λ x.
      sym (below_skip ns n b 0 (suc v) (step ns v r x) q (omega arith) (omega arith) (step_later n ns ok v r x live lt (omega arith))) in
      below_skip ns n (suc b) 0 v r q (omega arith) (omega arith) (omega arith)
      ∙ below_here ns v b r q refl
      ∙ ap (λ s. eqb q r || (s || member q (below ns b (suc v) (step ns v r true)))) (branch false)
      ∙ ap (λ s. eqb q r || (member q (below ns n 0 (step ns v r false)) || s)) (branch true)
      ∙ ap (λ p. eqb q r || (member q (below ns n 0 p) || member q (below ns n 0 (step ns v r true)))) (step_here ns v r false refl)
      ∙ ap (λ p. eqb q r || (member q (below ns n 0 (low_at ns r)) || member q (below ns n 0 p))) (step_here ns v r true refl)

  -- what lies below a member of a closed list is a member
  pub closed_below : (l : List ℕ) → IsClosed n ns l → (b k p q : ℕ) → k + b ≡ n → Live n ns p → k ≤ var_at ns p → (var_at ns p < n → member p l ≡ true) → member q (below ns b k p) ≡ true → member q l ≡ true
  unfolding below
  closed_below l closed zero k p q sum live le inside is = absurd (let f : false ≡ true = is in cc)
  closed_below l closed (suc b) k p q sum live le inside is =
      let lt_k : k < n = omega arith in
      let lo = below ns b (suc k) (step ns k p false) in
      let hi = below ns b (suc k) (step ns k p true) in
      let own = cond (eqb (var_at ns p) k) (p ∷ []) [] in
      let deeper : (x : Bool) → member q (below ns b (suc k) (step ns k p x)) ≡ true → member q l ≡ true = λ x e.
      closed_below l closed b (suc k) (step ns k p x) q (omega arith) (step_live n ns ok k p x live lt_k) (step_later n ns ok k p x live lt_k le)
      (λ lt. elim (cases_eq (var_at ns p) k) [
        | inl here ↦ ap (λ v. member (step ns v p x) l) (sym here) ∙ closed p x (inside (omega arith)) (omega (arith, lt, ap (λ v. var_at ns (step ns v p x)) here))
        | inr apart ↦ ap (λ y. member y l) (step_past ns k p x apart) ∙ inside (omega (arith, lt, ap (var_at ns) (step_past ns k p x apart)))
      ]) e in
      elim (or_true (member q own) (member q (lo ++ hi)) (sym (member_append q own (lo ++ hi)) ∙ is)) [
        | inl is_own ↦ own_in (eqb (var_at ns p) k) refl is_own
        | inr later ↦ elim (or_true (member q lo) (member q hi) (sym (member_append q lo hi) ∙ later)) [ inl e ↦ deeper false e | inr e ↦ deeper true e ]
      ]
    where
      own_in : (t : Bool) → eqb (var_at ns p) k ≡ t → member q (cond t (p ∷ []) []) ≡ true → member q l ≡ true
      own_in true here e =
          let same : q ≡ p = elim (or_true (eqb q p) false e) [ inl is_p ↦ eqb_is q p is_p | inr other ↦ absurd (let f : false ≡ true = other in cc) ] in
          let at : var_at ns p ≡ k = eqb_is (var_at ns p) k here in
          ap (λ y. member y l) same ∙ inside (omega arith)
      own_in false here e = absurd (let f : false ≡ true = e in cc)

  -- the nodes below a place and a closed list make a closed list
  pub closed_append : (l : List ℕ) (p : ℕ) → Live n ns p → IsClosed n ns l → IsClosed n ns (below ns n 0 p ++ l)
  closed_append l p live closed r x is lt =
      let child = step ns (var_at ns r) r x in
      member_append child (below ns n 0 p) l ∙ elim (or_true (member r (below ns n 0 p)) (member r l) (sym (member_append r (below ns n 0 p) l) ∙ is)) [
        | inl e ↦ or_left (member child (below ns n 0 p)) (member child l) (below_branch n ns ok n 0 p r x (omega arith) live (omega arith) e lt)
        | inr e ↦ or_right (member child (below ns n 0 p)) (member child l) (closed r x e lt)
      ]

  -- a place past all variables: nothing new is seen
  pub seen_last : (seen : List Bool) (l : List ℕ) (r : ℕ) → n ≤ var_at ns r → SeenIs seen l → SeenIs seen (below ns n 0 r ++ l)
  seen_last seen l r le is q = is q ∙ sym (member_append q (below ns n 0 r) l ∙ ap (λ s. s || member q l) (below_last ns n 0 r q (omega arith)))

  -- a place that was seen: so was all below it
  pub seen_before : (seen : List Bool) (l : List ℕ) (r : ℕ) → Live n ns r → IsClosed n ns l → flag seen r ≡ true → SeenIs seen l → SeenIs seen (below ns n 0 r ++ l)
  seen_before seen l r live closed was is q = is q ∙ sym (member_append q (below ns n 0 r) l ∙ absorb (member q (below ns n 0 r)) (member q l) (closed_below l closed n 0 r q (omega arith) live (omega arith) (λ lt. sym (is r) ∙ was)))
    where
      absorb : (s t : Bool) → (s ≡ true → t ≡ true) → s || t ≡ t
      absorb true t f = sym (f refl)
      absorb false t f = refl

  -- both branches and then the node itself
  pub seen_node : (seen : List Bool) (l : List ℕ) (r : ℕ) → Live n ns r → var_at ns r < n → r < length seen → SeenIs seen (below ns n 0 (high_at ns r) ++ (below ns n 0 (low_at ns r) ++ l)) → SeenIs (set seen r true) (below ns n 0 r ++ l)
  seen_node seen l r live lt within is q =
      let lo = below ns n 0 (low_at ns r) in
      let hi = below ns n 0 (high_at ns r) in
      let in_all : member q (below ns n 0 r ++ l) ≡ (eqb q r || (member q lo || member q hi)) || member q l = member_append q (below ns n 0 r) l ∙ ap (λ s. s || member q l) (below_node r q live lt) in
      let in_both : member q (hi ++ (lo ++ l)) ≡ member q hi || (member q lo || member q l) = member_append q hi (lo ++ l) ∙ ap (λ s. member q hi || s) (member_append q lo l) in
      elim (cases_eq q r) [
        | inl here ↦
            let written : flag (set seen r true) q ≡ true = ap (flag (set seen r true)) here ∙ flag_here seen r within in
            written ∙ sym (in_all ∙ ap (λ s. (s || (member q lo || member q hi)) || member q l) (ap (λ y. eqb y r) here ∙ eqb_same r))
        | inr apart ↦
            let test : eqb q r ≡ false = grind (arith, nat_tests) in
            flag_other seen r q apart ∙ is q ∙ in_both ∙ shuffle (member q hi) (member q lo) (member q l) ∙ sym (in_all ∙ ap (λ s. (s || (member q lo || member q hi)) || member q l) test)
      ]
    where
      shuffle : (a b c : Bool) → a || (b || c) ≡ (b || a) || c
      shuffle true true c = refl
      shuffle true false c = refl
      shuffle false true c = refl
      shuffle false false c = refl

-- the node was seen with its branches
pub seen_again : (n : ℕ) (ns : List Node) → Reduced n ns → (seen : List Bool) (l : List ℕ) (r : ℕ) → Live n ns r → var_at ns r < n → flag seen r ≡ true → SeenIs seen (below ns n 0 (high_at ns r) ++ (below ns n 0 (low_at ns r) ++ l)) → SeenIs seen (below ns n 0 r ++ l)
seen_again n ns ok seen l r live lt was is q =
    let lo = below ns n 0 (low_at ns r) in
    let hi = below ns n 0 (high_at ns r) in
    let in_all : member q (below ns n 0 r ++ l) ≡ (eqb q r || (member q lo || member q hi)) || member q l = member_append q (below ns n 0 r) l ∙ ap (λ s. s || member q l) (below_node n ns ok r q live lt) in
    let in_both : member q (hi ++ (lo ++ l)) ≡ member q hi || (member q lo || member q l) = member_append q hi (lo ++ l) ∙ ap (λ s. member q hi || s) (member_append q lo l) in
    elim (cases_eq q r) [
      | inl here ↦ ap (flag seen) here ∙ was ∙ sym (in_all ∙ ap (λ s. (s || (member q lo || member q hi)) || member q l) (ap (λ y. eqb y r) here ∙ eqb_same r))
      | inr apart ↦
          let test : eqb q r ≡ false = grind (arith, nat_tests) in
          is q ∙ in_both ∙ turn (member q hi) (member q lo) (member q l) ∙ sym (in_all ∙ ap (λ s. (s || (member q lo || member q hi)) || member q l) test)
    ]
  where
    turn : (a b c : Bool) → a || (b || c) ≡ (b || a) || c
    turn true true c = refl
    turn true false c = refl
    turn false true c = refl
    turn false false c = refl

-- the places of the set flags, from place i on
pub trues : ℕ → List Bool → List ℕ
trues i [] = []
trues i (x ∷ xs) = cond x (i ∷ trues (suc i) xs) (trues (suc i) xs)

trues_before_step : (x : Bool) (i q : ℕ) (l : List ℕ) → q < i → member q l ≡ false → member q (cond x (i ∷ l) l) ≡ false
trues_before_step true i q l lt e = let test : eqb q i ≡ false = grind (arith, nat_tests) in ap (λ s. s || member q l) test ∙ e
trues_before_step false i q l lt e = e

trues_before : (i q : ℕ) (xs : List Bool) → q < i → member q (trues i xs) ≡ false
unfolding trues
trues_before i q [] lt = refl
trues_before i q (x ∷ xs) lt = trues_before_step x i q (trues (suc i) xs) lt (trues_before (suc i) q xs (omega arith))

trues_at_step : (x : Bool) (i q : ℕ) (l : List ℕ) → q ≢ i → member q (cond x (i ∷ l) l) ≡ member q l
trues_at_step true i q l ne = let test : eqb q i ≡ false = grind (arith, nat_tests) in ap (λ s. s || member q l) test
trues_at_step false i q l ne = refl

trues_first_step : (x : Bool) (i : ℕ) (l : List ℕ) → member i l ≡ false → member i (cond x (i ∷ l) l) ≡ x
trues_first_step true i l e = or_left (eqb i i) (member i l) (eqb_same i)
trues_first_step false i l e = e

pub trues_at : (i j : ℕ) (xs : List Bool) → member (i + j) (trues i xs) ≡ get_or xs j false
unfolding trues
trues_at i j [] = refl
trues_at i zero (x ∷ xs) = let e : i + 0 ≡ i = omega arith in rw e (trues_first_step x i (trues (suc i) xs) (trues_before (suc i) i xs (omega arith)))
trues_at i (suc j) (x ∷ xs) =
    let e : i + suc j ≡ suc i + j = omega arith in
    trues_at_step x i (i + suc j) (trues (suc i) xs) (omega arith) ∙ ap (λ q. member q (trues (suc i) xs)) e ∙ trues_at (suc i) j xs

count_trues_step : (x : Bool) (i : ℕ) (xs : List Bool) → count_distinct eqb (trues (suc i) xs) ≡ count_by (λ s. s) xs → count_distinct eqb (cond x (i ∷ trues (suc i) xs) (trues (suc i) xs)) ≡ cond x (suc (count_by (λ s. s) xs)) (count_by (λ s. s) xs)
unfolding count_distinct
count_trues_step true i xs e = ap (λ m. cond m (count_distinct eqb (trues (suc i) xs)) (suc (count_distinct eqb (trues (suc i) xs)))) (trues_before (suc i) i xs (omega arith)) ∙ ap suc e
count_trues_step false i xs e = e

pub count_by_step : (x : Bool) (xs : List Bool) → count_by (λ (s : Bool). s) (x ∷ xs) ≡ cond x (suc (count_by (λ s. s) xs)) (count_by (λ s. s) xs)
count_by_step true xs = sum_by-cons (λ (s : Bool). cond s 1 0) true xs ∙ (let e : 1 + sum_by (λ (s : Bool). cond s 1 0) xs ≡ suc (sum_by (λ s. cond s 1 0) xs) = omega arith in e)
count_by_step false xs = sum_by-cons (λ (s : Bool). cond s 1 0) false xs ∙ (let e : 0 + sum_by (λ (s : Bool). cond s 1 0) xs ≡ sum_by (λ s. cond s 1 0) xs = omega arith in e)

pub count_trues : (i : ℕ) (xs : List Bool) → count_distinct eqb (trues i xs) ≡ count_by (λ s. s) xs
unfolding trues
count_trues i [] = unfold count_distinct in refl
count_trues i (x ∷ xs) = count_trues_step x i xs (count_trues (suc i) xs) ∙ sym (count_by_step x xs)

-- as many flags are set as the list has distinct members
pub count_seen : (seen : List Bool) (l : List ℕ) → SeenIs seen l → count_by (λ s. s) seen ≡ count_distinct eqb l
unfolding flag
count_seen seen l is = sym (count_trues 0 seen) ∙ same_count (trues 0 seen) l (λ q. let e : 0 + q ≡ q = omega arith in ap (λ y. member y (trues 0 seen)) (sym e) ∙ trues_at 0 q seen ∙ is q)

-- one more flag
pub count_set : (seen : List Bool) (r : ℕ) → r < length seen → get_or seen r false ≡ false → count_by (λ (s : Bool). s) (set seen r true) ≡ count_by (λ s. s) seen + 1
count_set [] r lt e = absurd (omega arith)
count_set (true ∷ xs) zero lt e = absurd (let f : true ≡ false = e in cc)
count_set (false ∷ xs) zero lt e = count_by_step true xs ∙ omega (arith, count_by_step false xs)
count_set (x ∷ xs) (suc r) lt e = count_by_step x (set xs r true) ∙ ap (λ m. cond x (suc m) m) (count_set xs r (omega arith) e) ∙ more x ∙ sym (ap (λ m. m + 1) (count_by_step x xs))
  where
    more : (y : Bool) → cond y (suc (count_by (λ (s : Bool). s) xs + 1)) (count_by (λ (s : Bool). s) xs + 1) ≡ cond y (suc (count_by (λ s. s) xs)) (count_by (λ s. s) xs) + 1
    more true = omega arith
    more false = refl

-- a flag that was read
pub flag_read : (seen : List Bool) (r : ℕ) (x : Bool) → r < length seen → x ≡ get_or seen r x → x ≡ true → flag seen r ≡ true
unfolding flag
flag_read seen r x lt read is = sym (get_or_default seen r x false lt) ∙ sym read ∙ is

-- no flag is set
pub none_set : (seen : List Bool) → ((k : ℕ) → k < length seen → get_or seen k false ≡ false) → SeenIs seen []
unfolding flag
none_set [] clear q = refl
none_set (x ∷ xs) clear zero = clear 0 (omega arith)
none_set (x ∷ xs) clear (suc q) = unfold flag in none_set xs (λ k lt. clear (suc k) (omega arith)) q
