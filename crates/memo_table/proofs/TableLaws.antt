-- Chains as entries are put at their heads, and what is found in the results that are kept.
use Rattle.std.proofs.Common.{◌≡◌, ◌≢◌, ℕ, zero, suc, ◌+◌, ◌-◌, ◌<◌, ◌≤◌, Bool, true, false, ◌&&◌, eqb, cond, inl, inr, List, [], ◌∷◌, ◌++◌, length, set, Some, None, refl, sym, ◌∙◌, ap, subst, arith}
use Rattle.std.specs.Map.{lookup}
use Rattle.std.proofs.lemmas.Bool.{cases_lt}
use Rattle.std.proofs.lemmas.Bool.Decides.{nat_tests}
use Rattle.std.proofs.lemmas.List.{get_or-set_same, get_or-set_other, get_or_append_left, get_or_push, length-append}
use Rattle.bdd_store.specs.declared.Ref.{Ref}
use Rattle.memo_table.specs.declared.Entry.{Entry}
use Rattle.memo_table.specs.Results.{same_pair}
use Rattle.memo_table.specs.Table.{no_entry, entry_at, bucket_at, bucket_of, next_at, head_at, result_at, kept, LeadsTo, Chained, SameResults}

-- the pair of an entry
abbrev pub IsKey : List Entry → ℕ → Ref × Ref → Type 0
IsKey es i p = ((entry_at es i).first ≡ p.0) × ((entry_at es i).second ≡ p.1)

-- the same entries below m
abbrev pub AgreeBelow : ℕ → List Entry → List Entry → Type 0
AgreeBelow m old new = (i : ℕ) → i < m → entry_at new i ≡ entry_at old i

bucket_same : (len : ℕ) (old new : List Entry) (i : ℕ) → entry_at new i ≡ entry_at old i → bucket_at len new i ≡ bucket_at len old i
bucket_same len old new i e = ap (λ (x : Entry). bucket_of len x.first x.second) e

leads_kept : (len m : ℕ) (old new : List Entry) (b n x : ℕ) → AgreeBelow m old new → n ≤ m → LeadsTo len old b n x → LeadsTo len new b n x
leads_kept len m old new b n x agree le is = record {
  within = is.within;
  passed = λ j from to e. is.passed j from to (sym (bucket_same len old new j (agree j (omega (arith, to, le)))) ∙ e);
  here = λ pos. bucket_same len old new (x - 1) (agree (x - 1) (omega (arith, pos, is.within, le))) ∙ is.here pos;
}

-- one more entry of another chain
leads_past : (len : ℕ) (es : List Entry) (b n x : ℕ) → bucket_at len es n ≢ b → LeadsTo len es b n x → LeadsTo len es b (n + 1) x
leads_past len es b n x other is = record {
  within = omega (arith, is.within);
  passed = λ j from to. elim (cases_lt j n) [
    | inl lt ↦ is.passed j from lt
    | inr le ↦ let e : j ≡ n = omega (arith, le, to) in subst (λ k. bucket_at len es k ≢ b) (sym e) other
  ];
  here = is.here;
}

-- the last entry begins its chain
leads_here : (len : ℕ) (es : List Entry) (b n : ℕ) → bucket_at len es n ≡ b → LeadsTo len es b (n + 1) (n + 1)
leads_here len es b n is = record {
  within = omega arith;
  passed = λ j from to. absurd (omega (arith, from, to));
  here = λ pos. let e : n ≡ n + 1 - 1 = omega arith in subst (λ k. bucket_at len es k ≡ b) e is;
}

module _ (len : ℕ) (old new : List Entry) (heads : List ℕ) (n b : ℕ) (chained : Chained len old heads n) (agree : AgreeBelow n old new) (is_len : length heads ≡ len) (within : b < len) (is_b : bucket_at len new n ≡ b) (is_next : next_at new n ≡ head_at heads b) where
  starts_after : (c : ℕ) → c < len → LeadsTo len new c (n + 1) (head_at (set heads b (n + 1)) c)
  starts_after c lt = elim (cases_lt c b) [
    | inl less ↦ other (omega (arith, less))
    | inr le ↦ elim (cases_lt b c) [
      | inl more ↦ other (omega (arith, more))
      | inr ge ↦ here (omega (arith, le, ge))
    ]
  ]
    where
      other : c ≢ b → LeadsTo len new c (n + 1) (head_at (set heads b (n + 1)) c)
      other ne =
          let e = get_or-set_other heads b c (n + 1) 0 ne in
          let past = leads_past len new c n (head_at heads c) (λ is. ne (sym is ∙ is_b)) (leads_kept len n old new c n (head_at heads c) agree (omega arith) (chained.starts c lt)) in
          subst (LeadsTo len new c (n + 1)) (sym e) past

      here : c ≡ b → LeadsTo len new c (n + 1) (head_at (set heads b (n + 1)) c)
      here e =
          let h : head_at (set heads b (n + 1)) b ≡ n + 1 = get_or-set_same heads b (n + 1) 0 (omega (arith, within, is_len)) in
          subst (λ d. LeadsTo len new d (n + 1) (head_at (set heads b (n + 1)) d)) (sym e) (subst (LeadsTo len new b (n + 1)) (sym h) (leads_here len new b n is_b))

  links_after : (i : ℕ) → i < n + 1 → LeadsTo len new (bucket_at len new i) i (next_at new i)
  links_after i lt = elim (cases_lt i n) [
    | inl less ↦
        let e = agree i less in
        let before = leads_kept len n old new (bucket_at len old i) i (next_at old i) agree (omega (arith, less)) (chained.links i less) in
        subst (λ (x : Entry). LeadsTo len new (bucket_of len x.first x.second) i x.next) (sym e) before
    | inr le ↦
        let e : i ≡ n = omega (arith, le, lt) in
        let start = leads_kept len n old new b n (head_at heads b) agree (omega arith) (chained.starts b within) in
        subst (λ k. LeadsTo len new (bucket_at len new k) k (next_at new k)) (sym e) (subst (λ x. LeadsTo len new (bucket_at len new n) n x) (sym is_next) (subst (λ d. LeadsTo len new d n (head_at heads b)) (sym is_b) start))
  ]

  -- entry n is put at the head of its chain
  pub chained_after : Chained len new (set heads b (n + 1)) (n + 1)
  chained_after = record { starts = starts_after; links = links_after }

-- no entry yet, and all chains empty
pub chained_none : (len : ℕ) (es : List Entry) (heads : List ℕ) → ((b : ℕ) → b < len → head_at heads b ≡ 0) → Chained len es heads 0
chained_none len es heads empty = record {
  starts = λ b lt. let none : LeadsTo len es b 0 0 = record { within = omega arith; passed = λ j from to. absurd (omega (arith, to)); here = λ pos. absurd (omega (arith, pos)) } in subst (LeadsTo len es b 0) (sym (empty b lt)) none;
  links = λ i lt. absurd (omega (arith, lt));
}

pub kept_same : (old new : List Entry) (n : ℕ) → ((i : ℕ) → i < n → result_at new i ≡ result_at old i) → kept new n ≡ kept old n
unfolding kept
kept_same old new zero same = refl
kept_same old new (suc n) same = ap (λ x. x ∷ kept new n) (same n (omega arith)) ∙ ap (λ xs. result_at old n ∷ xs) (kept_same old new n (λ i lt. same i (omega (arith, lt))))

pub kept_more : (es : List Entry) (n : ℕ) → kept es (n + 1) ≡ result_at es n ∷ kept es n
unfolding kept
kept_more es n = let e : n + 1 ≡ suc n = omega arith in ap (kept es) e

and_first : (s t : Bool) → s && t ≡ true → s ≡ true
and_first true t e = refl
and_first false t e = e

and_second : (s t : Bool) → s && t ≡ true → t ≡ true
and_second true t e = e
and_second false t e = absurd (let f : false ≡ true = e in cc)

-- Refs are told apart by their places
pub ref_is : (p q : Ref) → eqb p.place q.place ≡ true → p ≡ q
ref_is p q e =
    let same : p.place ≡ q.place = grind (arith, nat_tests) in
    let ref : ℕ → Ref = λ x. record { place = x } in
    ap ref same

pub pair_is : (p q : Ref × Ref) → eqb p.0.place q.0.place ≡ true → eqb p.1.place q.1.place ≡ true → p ≡ q
pair_is p q e0 e1 =
    let first : p.0.place ≡ q.0.place = grind (arith, nat_tests) in
    let second : p.1.place ≡ q.1.place = grind (arith, nat_tests) in
    let pair : ℕ → ℕ → Ref × Ref = λ x y. (record { place = x }, record { place = y }) in
    ap (λ x. pair x p.1.place) first ∙ ap (pair q.0.place) second

-- the test passes at one pair alone
pub same_pair-is : (p q : Ref × Ref) → same_pair p q ≡ true → p ≡ q
same_pair-is p q e = pair_is p q (and_first (eqb p.0.place q.0.place) (eqb p.1.place q.1.place) e) (and_second (eqb p.0.place q.0.place) (eqb p.1.place q.1.place) e)

pub same_pair-self : (p : Ref × Ref) → same_pair p p ≡ true
same_pair-self p = grind (arith, nat_tests)

key_same : (es : List Entry) (i : ℕ) (p : Ref × Ref) → IsKey es i p → same_pair p (result_at es i).0 ≡ true
key_same es i p is =
    ap (λ x. same_pair p (x, (entry_at es i).second)) is.0 ∙ ap (λ y. same_pair p (p.0, y)) is.1 ∙ same_pair-self p

not_key : (es : List Entry) (i : ℕ) (p : Ref × Ref) → (IsKey es i p → ⊥) → same_pair p (result_at es i).0 ≡ false
not_key es i p not = by_value (same_pair p (result_at es i).0) refl
  where
    by_value : (t : Bool) → same_pair p (result_at es i).0 ≡ t → t ≡ false
    by_value true e = let is = same_pair-is p (result_at es i).0 e in absurd (not (ap (λ (q : Ref × Ref). q.0) (sym is), ap (λ (q : Ref × Ref). q.1) (sym is)))
    by_value false e = refl

-- the last entry that has the pair is found
pub kept_found : (es : List Entry) (n i : ℕ) (p : Ref × Ref) → i < n → IsKey es i p → ((j : ℕ) → i < j → j < n → IsKey es j p → ⊥) → lookup (same_pair p) (kept es n) ≡ Some (entry_at es i).answer
unfolding kept
kept_found es zero i p lt is later = absurd (omega (arith, lt))
kept_found es (suc n) i p lt is later = elim (cases_lt i n) [
  | inl less ↦
      ap (λ t. cond t (Some (entry_at es n).answer) (lookup (same_pair p) (kept es n))) (not_key es n p (later n less (omega arith)))
      ∙ kept_found es n i p less is (λ j from to. later j from (omega (arith, to)))
  | inr le ↦
      let e : i ≡ n = omega (arith, lt, le) in
      ap (λ t. cond t (Some (entry_at es n).answer) (lookup (same_pair p) (kept es n))) (key_same es n p (subst (λ k. IsKey es k p) e is))
      ∙ ap (λ k. Some (entry_at es k).answer) (sym e)
]

-- a pair that no entry has is not found
pub kept_absent : (es : List Entry) (n : ℕ) (p : Ref × Ref) → ((j : ℕ) → j < n → IsKey es j p → ⊥) → lookup (same_pair p) (kept es n) ≡ None
unfolding kept
kept_absent es zero p none = refl
kept_absent es (suc n) p none =
    ap (λ t. cond t (Some (entry_at es n).answer) (lookup (same_pair p) (kept es n))) (not_key es n p (none n (omega arith)))
    ∙ kept_absent es n p (λ j lt. none j (omega (arith, lt)))

-- an entry is put at the end
pub push_agrees : (es : List Entry) (x : Entry) → AgreeBelow (length es) es (es ++ x ∷ [])
push_agrees es x i lt = get_or_append_left es (x ∷ []) no_entry i lt

pub push_last : (es : List Entry) (x : Entry) → entry_at (es ++ x ∷ []) (length es) ≡ x
push_last es x = get_or_push es x no_entry (length es) refl

pub kept_push : (es : List Entry) (x : Entry) → kept (es ++ x ∷ []) (length (es ++ x ∷ [])) ≡ ((x.first, x.second), x.answer) ∷ kept es (length es)
kept_push es x =
    let all = es ++ x ∷ [] in
    ap (kept all) (length-append es (x ∷ []))
    ∙ kept_more all (length es)
    ∙ ap (λ (y : Entry). ((y.first, y.second), y.answer) ∷ kept all (length es)) (push_last es x)
    ∙ ap (λ ks. ((x.first, x.second), x.answer) ∷ ks) (kept_same es all (length es) (λ i lt. ap (λ (y : Entry). ((y.first, y.second), y.answer)) (push_agrees es x i lt)))

pub kept_all : (old new : List Entry) → SameResults old new → kept new (length new) ≡ kept old (length old)
kept_all old new same = ap (kept new) same.count ∙ kept_same old new (length old) (λ i lt. same.results i)

-- an entry gets another link
pub set_agrees : (es : List Entry) (i : ℕ) (x : Entry) → AgreeBelow i es (set es i x)
set_agrees es i x j lt = get_or-set_other es i j x no_entry (omega (arith, lt))

pub set_same_results : (es : List Entry) (i : ℕ) (x : Entry) → i < length es → ((x.first, x.second), x.answer) ≡ result_at es i → (j : ℕ) → result_at (set es i x) j ≡ result_at es j
set_same_results es i x lt same j = elim (cases_lt j i) [
  | inl less ↦ other (omega (arith, less))
  | inr le ↦ elim (cases_lt i j) [
    | inl more ↦ other (omega (arith, more))
    | inr ge ↦ here (omega (arith, le, ge))
  ]
]
  where
    other : j ≢ i → result_at (set es i x) j ≡ result_at es j
    other ne = ap (λ (y : Entry). ((y.first, y.second), y.answer)) (get_or-set_other es i j x no_entry ne)

    here : j ≡ i → result_at (set es i x) j ≡ result_at es j
    here e = subst (λ k. result_at (set es i x) k ≡ result_at es k) (sym e) (ap (λ (y : Entry). ((y.first, y.second), y.answer)) (get_or-set_same es i x no_entry lt) ∙ same)
