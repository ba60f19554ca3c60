-- Links that are written in place.
use Rattle.std.proofs.Common.{◌≡◌, ◌≢◌, ℕ, ◌<◌, ◌≤◌, ◌⊎◌, List, [], ◌∷◌, length, get_or, set, refl, sym, ◌∙◌, ap, subst, arith, inl, inr, get_or-set_other, get_or-set_same}
use Rattle.std.proofs.Math.ListN.{length-set}
use Rattle.std.proofs.lemmas.List.{get_or_default}
use Rattle.bdd_store.specs.declared.chains.Node.{Node}
use Rattle.bdd_store.specs.Graph.{no_node, node_at, var_at, low_at, high_at, next_at}
use Rattle.bdd_store.specs.Chains.{home, start, InChain, IsFalling, AllOf, AllBut, Chained, SameGraph}
use Rattle.bdd_store.proofs.ChainLaws.{cases_eq, chain_falling, start_in}
use Rattle.bdd_store.proofs.Links.{link_head, link_behind}

pub same_graph_self : (ns : List Node) → SameGraph ns ns
same_graph_self ns = record { count = refl; vars = λ r. refl; lows = λ r. refl; highs = λ r. refl }

pub graph_trans : (ns ms ls : List Node) → SameGraph ns ms → SameGraph ms ls → SameGraph ns ls
graph_trans ns ms ls first second = record {
  count = second.count ∙ first.count;
  vars = λ r. second.vars r ∙ first.vars r;
  lows = λ r. second.lows r ∙ first.lows r;
  highs = λ r. second.highs r ∙ first.highs r;
}

pub written_here : (ns : List Node) (f : ℕ) (nd : Node) → f < length ns → node_at (set ns f nd) f ≡ nd
written_here ns f nd lt = rw get_or-set_same refl

pub written_other : (ns : List Node) (f : ℕ) (nd : Node) (r : ℕ) → r ≢ f → node_at (set ns f nd) r ≡ node_at ns r
written_other ns f nd r ne = rw get_or-set_other refl

field_kept : {X : Type 0} → (ns : List Node) (f : ℕ) (nd : Node) (g : Node → X) → f < length ns → g nd ≡ g (node_at ns f) → (r : ℕ) → g (node_at (set ns f nd) r) ≡ g (node_at ns r)
field_kept ns f nd g lt e r = elim (cases_eq r f) [
  | inl at ↦ ap (λ q. g (node_at (set ns f nd) q)) at ∙ ap g (written_here ns f nd lt) ∙ e ∙ ap (λ q. g (node_at ns q)) (sym at)
  | inr ne ↦ ap g (written_other ns f nd r ne)
]

-- a write of the link alone
pub link_written : (ns : List Node) (f : ℕ) (nd : Node) → f < length ns → nd.var ≡ var_at ns f → nd.low ≡ low_at ns f → nd.high ≡ high_at ns f → SameGraph ns (set ns f nd)
link_written ns f nd lt same_var same_low same_high = record {
  count = length-set ns f nd;
  vars = field_kept ns f nd (λ (x : Node). x.var) lt same_var;
  lows = field_kept ns f nd (λ (x : Node). x.low) lt same_low;
  highs = field_kept ns f nd (λ (x : Node). x.high) lt same_high;
}

-- an element that was read is the node at its place
pub read_at : (ns : List Node) (r : ℕ) (x : Node) → r < length ns → x ≡ get_or ns r x → x ≡ node_at ns r
read_at ns r x lt read = read ∙ get_or_default ns r x no_node lt

module _ (n : ℕ) (ns : List Node) (heads : List ℕ) (free : ℕ) (IsIn IsIn' : ℕ → Type 0) (f : ℕ) (nd : Node) (ok : Chained n ns heads free IsIn)
    (two : 2 ≤ f) (within : f < length ns) (apart : IsIn f → ⊥) (more : (r : ℕ) → IsIn' r → IsIn r ⊎ (r ≡ f)) (most : (r : ℕ) → IsIn r ⊎ (r ≡ f) → IsIn' r)
    (same_var : nd.var ≡ var_at ns f) (same_low : nd.low ≡ low_at ns f) (same_high : nd.high ≡ high_at ns f) where
  -- a node at the head of its chain
  pub node_linked : (b h : ℕ) → b < length heads → b ≡ home n ns (length heads) f → h ≡ get_or heads b 0 → h < f → nd.next ≡ h → Chained n (set ns f nd) (set heads b f) free IsIn'
  node_linked b h lt_b is_b is_h lt_h next =
      let ms = set ns f nd in
      let is_start : start heads free b ≡ h = get_or_default heads b free 0 lt_b ∙ sym is_h in
      link_head n ns ms heads (set heads b f) free free IsIn IsIn' f b ok (link_written ns f nd within same_var same_low same_high) (length-set heads b f) two is_b apart more most
      (omega (arith, is_start, lt_h)) (ap (λ x. x.next) (written_here ns f nd within) ∙ next ∙ sym is_start) (λ r ne. ap (λ x. x.next) (written_other ns f nd r ne))
      (rw get_or-set_same refl) (λ c le ne. rw get_or-set_other refl)

  -- a place that was given back, at the head of the free list
  pub free_linked : length heads ≡ home n ns (length heads) f → free < f → nd.next ≡ free → Chained n (set ns f nd) heads f IsIn'
  free_linked is_b lt_h next =
      let ms = set ns f nd in
      let past : (d : ℕ) → start heads d (length heads) ≡ d = λ d. past_end heads d in
      link_head n ns ms heads heads free f IsIn IsIn' f (length heads) ok (link_written ns f nd within same_var same_low same_high) refl two is_b apart more most
      (omega (arith, past free, lt_h)) (ap (λ x. x.next) (written_here ns f nd within) ∙ next ∙ sym (past free)) (λ r ne. ap (λ x. x.next) (written_other ns f nd r ne))
      (past f) (λ c le ne. get_or_default heads c f free (omega arith))
    where
      past_end : (xs : List ℕ) (d : ℕ) → get_or xs (length xs) d ≡ d
      past_end [] d = refl
      past_end (x ∷ xs) d = past_end xs d

  -- a node behind the place p of its chain
  pub node_behind : (b h p : ℕ) (pd : Node) → b < length heads → b ≡ home n ns (length heads) f → h ≡ get_or heads b 0 → InChain ns h p → p < length ns → f < p → next_at ns p < f
      → nd.next ≡ next_at ns p → pd.var ≡ var_at ns p → pd.low ≡ low_at ns p → pd.high ≡ high_at ns p → pd.next ≡ f
      → Chained n (set (set ns f nd) p pd) heads free IsIn'
  node_behind b h p pd lt_b is_b is_h chain within_p above next_p next var_p low_p high_p next_new =
      let ls = set ns f nd in
      let ms = set ls p pd in
      let is_start : h ≡ start heads free b = is_h ∙ get_or_default heads b 0 free lt_b in
      let ne_p : p ≢ f = λ e. omega arith in
      let same_p : node_at ls p ≡ node_at ns p = written_other ns f nd p ne_p in
      let first = link_written ns f nd within same_var same_low same_high in
      let within_ls : p < length ls = omega (arith, length-set ns f nd) in
      let second = link_written ls p pd within_ls (var_p ∙ sym (ap (λ x. x.var) same_p)) (low_p ∙ sym (ap (λ x. x.low) same_p)) (high_p ∙ sym (ap (λ x. x.high) same_p)) in
      link_behind n ns ms heads heads free free IsIn IsIn' f b ok (graph_trans ns ls ms first second) refl two is_b apart more most
      p (subst (λ x. InChain ns x p) is_start chain) above next_p
      (ap (λ x. x.next) (written_other ls p pd f (λ e. omega arith) ∙ written_here ns f nd within) ∙ next)
      (ap (λ x. x.next) (written_here ls p pd within_ls) ∙ next_new)
      (λ r ne ne_r. ap (λ x. x.next) (written_other ls p pd r ne_r ∙ written_other ns f nd r ne))
      (λ c. refl)

-- all places but f, and f
pub but_more : (ns ms : List Node) (f : ℕ) → length ms ≡ length ns → (r : ℕ) → AllOf ms r → AllBut ns f r ⊎ (r ≡ f)
but_more ns ms f len r lt = elim (cases_eq r f) [ inl at ↦ inr at | inr ne ↦ inl (omega (arith, lt, len), ne) ]

pub but_most : (ns ms : List Node) (f : ℕ) → length ms ≡ length ns → f < length ns → (r : ℕ) → AllBut ns f r ⊎ (r ≡ f) → AllOf ms r
but_most ns ms f len within r is = elim is [ inl old ↦ omega (arith, old.0, len) | inr at ↦ omega (arith, at, len, within) ]

-- a place that stands in no chain may be put into any
pub link_ready : (n : ℕ) (ns : List Node) (heads : List ℕ) (free f b : ℕ) → Chained n ns heads free (AllBut ns f) → b < length heads → 2 ≤ f → IsFalling ns (get_or heads b 0) × (InChain ns (get_or heads b 0) f → ⊥)
link_ready n ns heads free f b ok lt two =
    let e : start heads free b ≡ get_or heads b 0 = get_or_default heads b free 0 lt in
    (subst (λ x. IsFalling ns x) e (chain_falling n ns heads free (AllBut ns f) ok (λ r is. is.0) b (omega arith)), λ chain. (ok.only b f (omega arith) (omega arith) (subst (λ x. InChain ns x f) (sym e) chain)).1.1 refl)

-- chains over the places below m begin there
pub start_below : (n : ℕ) (ns : List Node) (heads : List ℕ) (free m : ℕ) → Chained n ns heads free (λ r. r < m) → 0 < m → (c : ℕ) → c ≤ length heads → start heads free c < m
start_below n ns heads free m ok pos c le = elim (cases_eq (start heads free c) 0) [
  | inl at ↦ omega arith
  | inr ne ↦ start_in n ns heads free (λ r. r < m) ok c le (omega arith)
]

pub head_below : (n : ℕ) (ns : List Node) (heads : List ℕ) (free m : ℕ) → Chained n ns heads free (λ r. r < m) → 0 < m → (b : ℕ) → b < length heads → get_or heads b 0 < m
head_below n ns heads free m ok pos b lt = subst (λ x. x < m) (get_or_default heads b free 0 lt) (start_below n ns heads free m ok pos b (omega arith))

pub free_below : (n : ℕ) (ns : List Node) (heads : List ℕ) (free m : ℕ) → Chained n ns heads free (λ r. r < m) → 0 < m → free < m
free_below n ns heads free m ok pos = subst (λ x. x < m) (past heads) (start_below n ns heads free m ok pos (length heads) (omega arith))
  where
    past : (xs : List ℕ) → get_or xs (length xs) free ≡ free
    past [] = refl
    past (x ∷ xs) = past xs
