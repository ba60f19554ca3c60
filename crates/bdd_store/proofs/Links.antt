-- A place that is put into a chain, or taken out of one.
use Rattle.std.proofs.Common.{◌≡◌, ◌≢◌, ℕ, zero, suc, ◌+◌, ◌<◌, ◌≤◌, ◌⊎◌, List, [], ◌∷◌, ◌++◌, length, get_or, set, refl, sym, ◌∙◌, ap, subst, arith, inl, inr, length-append, get_or-set_other}
use Rattle.std.proofs.Math.ListN.{get_or-append, length-set}
use Rattle.std.proofs.lemmas.List.{get_or_default}
use Rattle.bdd_store.specs.declared.chains.Node.{Node}
use Rattle.bdd_store.specs.Graph.{no_node, node_at, var_at, next_at}
use Rattle.bdd_store.specs.Chains.{home, start, after, InChain, IsFalling, IsPower, AllOf, AllBut, Chained, SameGraph}
use Rattle.bdd_store.proofs.ChainLaws.{cases_eq, at_start, longer, ahead, next_ahead, one_more, chain_falling, none_at_end, chain_kept, chain_back, falling_le, power_pos, home_same, free_home, home_le}

module _ (n : ℕ) (ns ms : List Node) (heads hs : List ℕ) (free free' : ℕ) (IsIn IsIn' : ℕ → Type 0) (f b : ℕ)
    (ok : Chained n ns heads free IsIn) (graph : SameGraph ns ms) (same_len : length hs ≡ length heads)
    (two : 2 ≤ f) (is_b : b ≡ home n ns (length heads) f) (apart : IsIn f → ⊥)
    (more : (r : ℕ) → IsIn' r → IsIn r ⊎ (r ≡ f)) (most : (r : ℕ) → IsIn r ⊎ (r ≡ f) → IsIn' r) where
  le_b : b ≤ length heads
  le_b = omega (arith, is_b, home_le n ns (length heads) f (power_pos (length heads) ok.power))

  same_home : (r : ℕ) → home n ms (length hs) r ≡ home n ns (length heads) r
  same_home r = home_same n ns ms (length heads) (length hs) r same_len (graph.vars r) (graph.lows r) (graph.highs r)

  -- no chain leads to f yet
  avoids : (c : ℕ) → c ≤ length heads → InChain ns (start heads free c) f → ⊥
  avoids c le chain = apart (ok.only c f le (omega arith) chain).1

  -- chains that have f in its home, and otherwise what they had
  rechain : next_at ms 0 ≡ 0 → ((r : ℕ) → 2 ≤ r → IsIn' r → next_at ms r < r)
      → ((c r : ℕ) → c ≤ length heads → 0 < r → InChain ms (start hs free' c) r → ((r ≡ f) × (c ≡ b)) ⊎ InChain ns (start heads free c) r)
      → ((c r : ℕ) → c ≤ length heads → 0 < r → InChain ns (start heads free c) r → InChain ms (start hs free' c) r)
      → InChain ms (start hs free' b) f
      → Chained n ms hs free' IsIn'
  rechain ends falls back kept put = record {
    power = (ok.power.0, same_len ∙ ok.power.1);
    ends = ends;
    falls = falls;
    listed = λ r le is. elim (more r is) [
      | inl old ↦ subst (λ c. InChain ms (start hs free' c) r) (sym (same_home r)) (kept (home n ns (length heads) r) r (home_le n ns (length heads) r (power_pos (length heads) ok.power)) (omega arith) (ok.listed r le old))
      | inr new ↦ subst (λ c. InChain ms (start hs free' c) r) (is_b ∙ ap (home n ns (length heads)) (sym new) ∙ sym (same_home r)) (subst (λ q. InChain ms (start hs free' b) q) (sym new) put)
    ];
    only = λ c r le pos chain.
        let le_c : c ≤ length heads = omega arith in
        elim (back c r le_c pos chain) [
          | inl new ↦ (omega (arith, new.0), most r (inr new.0), same_home r ∙ ap (home n ns (length heads)) new.0 ∙ sym is_b ∙ sym new.1)
          | inr old ↦ let is = ok.only c r le_c pos old in (is.0, most r (inl is.1), same_home r ∙ is.2)
        ];
  }

  -- at the head of its chain
  pub link_head : start heads free b < f → next_at ms f ≡ start heads free b → ((r : ℕ) → r ≢ f → next_at ms r ≡ next_at ns r)
      → start hs free' b ≡ f → ((c : ℕ) → c ≤ length heads → c ≢ b → start hs free' c ≡ start heads free c)
      → Chained n ms hs free' IsIn'
  link_head lt next_f next_other here other =
      let same : (c : ℕ) → c ≤ length heads → (r : ℕ) → InChain ns (start heads free c) r → next_at ms r ≡ next_at ns r = λ c le r chain.
      next_other r (λ e. avoids c le (subst (λ q. InChain ns (start heads free c) q) e chain)) in
      let kept_old : (c r : ℕ) → c ≤ length heads → InChain ns (start heads free c) r → InChain ms (start heads free c) r = λ c r le. chain_kept ns ms (start heads free c) (same c le) r in
      let back_old : (c r : ℕ) → c ≤ length heads → InChain ms (start heads free c) r → InChain ns (start heads free c) r = λ c r le. chain_back ns ms (start heads free c) (same c le) r in
      rechain (next_other 0 (omega arith) ∙ ok.ends)
      (λ r le is. elim (cases_eq r f) [
        | inl at ↦ omega (arith, ap (next_at ms) at, next_f)
        | inr ne ↦ elim (more r is) [ inl old ↦ omega (arith, next_other r ne, ok.falls r le old) | inr new ↦ absurd (ne new) ]
      ])
      (λ c r le pos chain. elim (cases_eq c b) [
        | inl at ↦
            let from : InChain ms f r = subst (λ x. InChain ms x r) (ap (start hs free') at ∙ here) chain in
            elim (ahead ms f r from) [
              | inl e ↦ inl (sym e, at)
              | inr later ↦ inr (back_old c r le (subst (λ x. InChain ms x r) (next_f ∙ ap (start heads free) (sym at)) later))
            ]
        | inr ne ↦ inr (back_old c r le (subst (λ x. InChain ms x r) (other c le ne) chain))
      ])
      (λ c r le pos chain. elim (cases_eq c b) [
        | inl at ↦ longer ms (start hs free' c) (start heads free c) r (ap (next_at ms) (ap (start hs free') at ∙ here) ∙ next_f ∙ ap (start heads free) (sym at)) (kept_old c r le chain)
        | inr ne ↦ subst (λ x. InChain ms x r) (sym (other c le ne)) (kept_old c r le chain)
      ])
      (at_start ms (start hs free' b) f here)

  -- behind the place p of its chain
  module _ (p : ℕ) (in_chain : InChain ns (start heads free b) p) (above : f < p) (next_p : next_at ns p < f)
      (new_f : next_at ms f ≡ next_at ns p) (new_p : next_at ms p ≡ f) (next_other : (r : ℕ) → r ≢ f → r ≢ p → next_at ms r ≡ next_at ns r)
      (starts : (c : ℕ) → start hs free' c ≡ start heads free c) where
    fwd : (x k r : ℕ) → (InChain ns x f → ⊥) → after ns k x ≡ r → InChain ms x r
    unfolding after
    fwd x zero r none e = at_start ms x r e
    fwd x (suc k) r none e =
        let rest = fwd (next_at ns x) k r (λ chain. none (longer ns x (next_at ns x) f refl chain)) e in
        elim (cases_eq x p) [
          | inl at ↦ longer ms x f r (ap (next_at ms) at ∙ new_p) (longer ms f (next_at ns x) r (new_f ∙ ap (next_at ns) (sym at)) rest)
          | inr ne ↦ longer ms x (next_at ns x) r (next_other x (λ at. none (at_start ns x f at)) ne) rest
        ]

    bwd : (k x r : ℕ) → (InChain ns x f → ⊥) → after ms k x ≡ r → (r ≡ f) ⊎ InChain ns x r
    unfolding after
    bwd zero x r none e = inr (at_start ns x r e)
    bwd (suc zero) x r none e = elim (cases_eq x p) [
      | inl at ↦ inl (sym e ∙ ap (next_at ms) at ∙ new_p)
      | inr ne ↦ inr (longer ns x r r (sym (next_other x (λ at. none (at_start ns x f at)) ne) ∙ e) (at_start ns r r refl))
    ]
    bwd (suc (suc k)) x r none e =
        let none' : InChain ns (next_at ns x) f → ⊥ = λ chain. none (longer ns x (next_at ns x) f refl chain) in
        let step : (r ≡ f) ⊎ InChain ns (next_at ns x) r → (r ≡ f) ⊎ InChain ns x r = λ is. elim is [ inl at ↦ inl at | inr chain ↦ inr (longer ns x (next_at ns x) r refl chain) ] in
        elim (cases_eq x p) [
          | inl at ↦ step (bwd k (next_at ns x) r none' (ap (after ms k) (ap (next_at ns) at ∙ sym new_f ∙ sym (ap (next_at ms) (ap (next_at ms) at ∙ new_p))) ∙ e))
          | inr ne ↦ step (bwd (suc k) (next_at ns x) r none' (ap (λ y. after ms k (next_at ms y)) (sym (next_other x (λ at. none (at_start ns x f at)) ne)) ∙ e))
        ]

    pub link_behind : Chained n ms hs free' IsIn'
    link_behind =
        let home_p = ok.only b p le_b (omega arith) in_chain in
        let fwd_p : InChain ms (start heads free b) p = fwd (start heads free b) in_chain.0 p (avoids b le_b) in_chain.1 in
        rechain (next_other 0 (omega arith) (omega arith) ∙ ok.ends)
        (λ r le is. elim (cases_eq r f) [
          | inl at ↦ omega (arith, ap (next_at ms) at, new_f)
          | inr ne ↦ elim (cases_eq r p) [
            | inl at ↦ omega (arith, ap (next_at ms) at, new_p)
            | inr ne_p ↦ elim (more r is) [ inl old ↦ omega (arith, next_other r ne ne_p, ok.falls r le old) | inr new ↦ absurd (ne new) ]
          ]
        ])
        (λ c r le pos chain.
        let from : InChain ms (start heads free c) r = subst (λ x. InChain ms x r) (starts c) chain in
        elim (cases_eq c b) [
          | inl at ↦ elim (bwd from.0 (start heads free c) r (avoids c le) from.1) [ inl e ↦ inl (e, at) | inr old ↦ inr old ]
          | inr ne ↦ inr (chain_back ns ms (start heads free c) (λ q at_q. next_other q (λ e. avoids c le (subst (λ y. InChain ns (start heads free c) y) e at_q)) (λ e. ne (sym (ok.only c p le (omega arith) (subst (λ y. InChain ns (start heads free c) y) e at_q)).2 ∙ home_p.2))) r from)
        ])
        (λ c r le pos chain. subst (λ x. InChain ms x r) (sym (starts c)) (fwd (start heads free c) chain.0 r (avoids c le) chain.1))
        (subst (λ x. InChain ms x f) (sym (starts b)) (subst (λ y. InChain ms (start heads free b) y) new_p (one_more ms (start heads free b) p fwd_p)))

past_end : (xs : List ℕ) (d : ℕ) → get_or xs (length xs) d ≡ d
past_end [] d = refl
past_end (x ∷ xs) d = past_end xs d

-- the first place of the free list is taken out of it, and gets a node
module _ (n : ℕ) (ns : List Node) (heads : List ℕ) (f : ℕ) (nd : Node) (ok : Chained n ns heads f (AllOf ns)) (pos : 0 < f) where
  -- it was given back
  pub first_free : (2 ≤ f) × (f < length ns) × (n ≤ var_at ns f)
  first_free =
      let is = ok.only (length heads) f (omega arith) pos (at_start ns (start heads f (length heads)) f (past_end heads f)) in
      (is.0, is.1, free_home n ns (length heads) f (power_pos (length heads) ok.power) is.2)

  pub taken : Chained n (set ns f nd) heads (next_at ns f) (AllBut (set ns f nd) f)
  taken =
      let ms = set ns f nd in
      let len = length heads in
      let free' = next_at ns f in
      let is_f = ok.only len f (omega arith) pos (at_start ns (start heads f len) f (past_end heads f)) in
      let drop = ok.falls f is_f.0 is_f.1 in
      let falling : IsFalling ns f = subst (λ x. IsFalling ns x) (past_end heads f) (chain_falling n ns heads f (AllOf ns) ok (λ r lt. lt) len (omega arith)) in
      let none_free : InChain ns free' f → ⊥ = λ chain. let le = falling_le ns free' f ok.ends (λ q q_pos at_q. falling q q_pos (longer ns f free' q refl at_q)) chain in omega arith in
      let none : (c : ℕ) → c < len → InChain ns (start heads f c) f → ⊥ = λ c lt chain. let at = (ok.only c f (omega arith) pos chain).2 in omega (arith, at, is_f.2) in
      let same : (r : ℕ) → r ≢ f → node_at ms r ≡ node_at ns r = λ r ne. rw get_or-set_other refl in
      let same_len : length ms ≡ length ns = length-set ns f nd in
      let links : (x : ℕ) → (InChain ns x f → ⊥) → (r : ℕ) → InChain ns x r → next_at ms r ≡ next_at ns r = λ x away r chain. ap (λ y. y.next) (same r (λ e. away (subst (λ q. InChain ns x q) e chain))) in
      let home_is : (r : ℕ) → r ≢ f → home n ms len r ≡ home n ns len r = λ r ne. home_same n ns ms len len r refl (ap (λ y. y.var) (same r ne)) (ap (λ y. y.low) (same r ne)) (ap (λ y. y.high) (same r ne)) in
      record {
        power = ok.power;
        ends = ap (λ y. y.next) (same 0 (omega (arith, is_f.0))) ∙ ok.ends;
        falls = λ r two is. omega (arith, ap (λ y. y.next) (same r is.1), ok.falls r two (omega (arith, is.0, same_len)));
        listed = λ r two is.
            let lt : r < length ns = omega (arith, is.0, same_len) in
            let c = home n ns len r in
            let old = ok.listed r two lt in
            subst (λ k. InChain ms (start heads free' k) r) (sym (home_is r is.1)) (elim (cases_eq c len) [
              | inl at ↦
                  let from : InChain ns f r = subst (λ x. InChain ns x r) (ap (start heads f) at ∙ past_end heads f) old in
                  let behind = next_ahead ns f r from (λ e. is.1 (sym e)) in
                  subst (λ x. InChain ms x r) (sym (ap (start heads free') at ∙ past_end heads free')) (chain_kept ns ms free' (links free' none_free) r behind)
              | inr ne ↦
                  let lt_c : c < len = omega (arith, home_le n ns len r (power_pos len ok.power)) in
                  subst (λ x. InChain ms x r) (get_or_default heads c f free' lt_c) (chain_kept ns ms (start heads f c) (links (start heads f c) (none c lt_c)) r old)
            ]);
        only = λ c r le pos_r chain. elim (cases_eq c len) [
          | inl at ↦
              let from : InChain ms free' r = subst (λ x. InChain ms x r) (ap (start heads free') at ∙ past_end heads free') chain in
              let old = chain_back ns ms free' (links free' none_free) r from in
              let ne : r ≢ f = λ e. none_free (subst (λ q. InChain ns free' q) e old) in
              let is = ok.only len r (omega arith) pos_r (subst (λ x. InChain ns x r) (sym (past_end heads f)) (longer ns f free' r refl old)) in
              (is.0, (omega (arith, is.1, same_len), ne), home_is r ne ∙ is.2 ∙ sym at)
          | inr apart ↦
              let lt_c : c < len = omega arith in
              let from : InChain ms (start heads f c) r = subst (λ x. InChain ms x r) (get_or_default heads c free' f lt_c) chain in
              let old = chain_back ns ms (start heads f c) (links (start heads f c) (none c lt_c)) r from in
              let ne : r ≢ f = λ e. none c lt_c (subst (λ q. InChain ns (start heads f c) q) e old) in
              let is = ok.only c r (omega arith) pos_r old in
              (is.0, (omega (arith, is.1, same_len), ne), home_is r ne ∙ is.2)
        ];
      }

-- a node at the end stands in no chain yet
pub appended : (n : ℕ) (ns : List Node) (heads : List ℕ) (free : ℕ) (nd : Node) → Chained n ns heads free (AllOf ns) → 0 < length ns → Chained n (ns ++ nd ∷ []) heads free (AllBut (ns ++ nd ∷ []) (length ns))
appended n ns heads free nd ok some =
    let ms = ns ++ nd ∷ [] in
    let len = length heads in
    let more : length ms ≡ length ns + 1 = length-append ns (nd ∷ []) in
    let same : (r : ℕ) → r < length ns → node_at ms r ≡ node_at ns r = λ r lt. get_or-append ns (nd ∷ []) no_node r lt in
    let links : (c : ℕ) → c ≤ len → (r : ℕ) → InChain ns (start heads free c) r → next_at ms r ≡ next_at ns r = λ c le r chain.
    elim (cases_eq r 0) [
      | inl at ↦ ap (λ y. y.next) (same r (omega arith))
      | inr ne ↦ ap (λ y. y.next) (same r (ok.only c r le (omega arith) chain).1)
    ] in
    let home_is : (r : ℕ) → r < length ns → home n ms len r ≡ home n ns len r = λ r lt. home_same n ns ms len len r refl (ap (λ y. y.var) (same r lt)) (ap (λ y. y.low) (same r lt)) (ap (λ y. y.high) (same r lt)) in
    record {
      power = ok.power;
      ends = ap (λ y. y.next) (same 0 some) ∙ ok.ends;
      falls = λ r two is. let lt : r < length ns = omega (arith, is.0, is.1, more) in omega (arith, ap (λ y. y.next) (same r lt), ok.falls r two lt);
      listed = λ r two is.
          let lt : r < length ns = omega (arith, is.0, is.1, more) in
          let c = home n ns len r in
          subst (λ k. InChain ms (start heads free k) r) (sym (home_is r lt)) (chain_kept ns ms (start heads free c) (links c (home_le n ns len r (power_pos len ok.power))) r (ok.listed r two lt));
      only = λ c r le pos chain.
          let old = chain_back ns ms (start heads free c) (links c le) r chain in
          let is = ok.only c r le pos old in
          (is.0, (omega (arith, is.1, more), λ e. omega (arith, is.1, e)), home_is r is.1 ∙ is.2);
    }

-- nothing is linked yet
pub none_linked : (n : ℕ) (ns : List Node) (heads : List ℕ) → IsPower (length heads) → next_at ns 0 ≡ 0 → ((k : ℕ) → k < length heads → get_or heads k 0 ≡ 0) → Chained n ns heads 0 (λ r. r < 2)
none_linked n ns heads power ends clear = record {
  power = power;
  ends = ends;
  falls = λ r two lt. absurd (omega arith);
  listed = λ r two lt. absurd (omega arith);
  only = λ c r le pos chain. absurd (none_at_end ns r ends (subst (λ x. InChain ns x r) (at_zero c le) chain) pos);
}
  where
    at_zero : (c : ℕ) → c ≤ length heads → get_or heads c 0 ≡ 0
    at_zero c le = elim (cases_eq c (length heads)) [ inl at ↦ ap (λ k. get_or heads k 0) at ∙ past_end heads 0 | inr ne ↦ clear c (omega arith) ]
