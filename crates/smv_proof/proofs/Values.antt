-- What the lines of a function mean.
use Rattle.std.proofs.Common.{◌≡◌, ◌∙◌, ℕ, zero, suc, ◌+◌, ◌<◌, ◌≤◌, List, [], ◌∷◌, ◌++◌, length, slice_get, slice_index_or, Some, Bool, true, false, if◌then◌else◌, nat_eq, refl, sym, ap, subst, arith, length-append}
use Rattle.std.proofs.lemmas.List.{get_or_append_left, get_or_push}
use Rattle.law_lists.proofs.Numbers.{nat_eq-is, nat_eq-not}
use Rattle.std.proofs.lemmas.Option.{slice_get_within}
use Rattle.bdd_store.specs.Graph.{with_at}
use Rattle.bdd_store.proofs.Walks.{with_here, with_other}
use Rattle.bdd_ops.specs.Functions.{Function}
use Rattle.smv_proof.specs.declared.proof.Node.{Node}
use Rattle.smv_proof.specs.Meanings.{value_of, values_behind, values, meaning}
use Rattle.smv_proof.specs.Kept.{Rooted, lines_from, joined, kept_set}
use Rattle.smv_proof.specs.Laws.{DependsBelow}
use Rattle.smv_proof.proofs.Lists.{Grows, grows_self, grows_more, grows_on, grows_length, get_last}
use Rattle.smv_proof.proofs.Numbers.{rooted, node_at, found_at, joined_by}

-- the branches of each line are earlier numbers, where the lines are numbered from n on
abbrev pub AreSmall : ℕ → List Node → Type 0
AreSmall n [] = Unit {0}
AreSmall n (node ∷ nodes) = (node.low < n) × (node.high < n) × AreSmall (suc n) nodes

small_more : (n : ℕ) (nodes : List Node) (node : Node) → AreSmall n nodes → node.low < length nodes + n → node.high < length nodes + n → AreSmall n (nodes ++ node ∷ [])
small_more n [] node small low high = (omega (arith, low), omega (arith, high), tt)
small_more n (x ∷ nodes) node small low high = (small.0, small.1, small_more (suc n) nodes node small.2 (omega (arith, low)) (omega (arith, high)))

module _ (a : ℕ → Bool) where
  -- numbers that are known keep their values
  old_value : (known : List Bool) (nodes : List Node) (j : ℕ) → j < length known → slice_index_or (values_behind a known nodes) j false ≡ slice_index_or known j false
  old_value known [] j lt = refl
  old_value known (node ∷ nodes) j lt =
      let more = value_of a known node ∷ [] in
      let longer : j < length (known ++ more) = let e = length-append known more in omega (arith, lt, e) in
      old_value (known ++ more) nodes j longer ∙ get_or_append_left known more false j lt

  behind_more : (known : List Bool) (nodes more : List Node) → values_behind a known (nodes ++ more) ≡ values_behind a (values_behind a known nodes) more
  behind_more known [] more = refl
  behind_more known (node ∷ nodes) more = behind_more (known ++ value_of a known node ∷ []) nodes more

  length_values : (known : List Bool) (nodes : List Node) → length (values_behind a known nodes) ≡ length nodes + length known
  length_values known [] = omega arith
  length_values known (node ∷ nodes) =
      let more = value_of a known node ∷ [] in
      let e = length_values (known ++ more) nodes in
      let f : length (known ++ more) ≡ length known + 1 = length-append known more in
      omega (arith, e, f)

  abbrev first_values : List Bool
  first_values = false ∷ true ∷ []

  pub grown_value : (nodes all : List Node) → Grows nodes all → (j : ℕ) → j < length nodes + 2 → slice_index_or (values a all) j false ≡ slice_index_or (values a nodes) j false
  grown_value nodes all (more, e) j lt =
      let enough : j < length (values a nodes) = let e = length_values first_values nodes in omega (arith, lt, e) in
      ap (λ (ns : List Node). slice_index_or (values a ns) j false) e
      ∙ (ap (λ (bs : List Bool). slice_index_or bs j false) (behind_more first_values nodes more) ∙ old_value (values a nodes) more j enough)

  branch_of : Node → ℕ
  branch_of node = if a node.var then node.high else node.low

  small_branch : (n : ℕ) (node : Node) → node.low < n → node.high < n → (if a node.var then node.high else node.low) < n
  small_branch n node low high = at (a node.var)
    where
      at : (t : Bool) → (if t then node.high else node.low) < n
      at true = high
      at false = low

  -- the value of a line is that of its branch
  value_at : (known : List Bool) (nodes : List Node) (i : ℕ) (node : Node) → AreSmall (length known) nodes → slice_get nodes i ≡ Some node →
      slice_index_or (values_behind a known nodes) (length known + i) false ≡ slice_index_or (values_behind a known nodes) (if a node.var then node.high else node.low) false
  value_at known [] i node small e = absurd (cc (e))
  value_at known (x ∷ nodes) zero node small e =
      let more = value_of a known x ∷ [] in
      let same : x ≡ node = cc in
      let longer : length (known ++ more) ≡ length known + 1 = length-append known more in
      let branch = if a x.var then x.high else x.low in
      let lt : branch < length known = small_branch (length known) x small.0 small.1 in
      let here = old_value (known ++ more) nodes (length known + 0) (omega (arith, longer)) ∙ get_or_push known (value_of a known x) false (length known + 0) (omega arith) in
      let there = old_value (known ++ more) nodes branch (omega (arith, longer, lt)) ∙ get_or_append_left known more false branch lt in
      subst (λ (y : Node). slice_index_or (values_behind a known (x ∷ nodes)) (length known + 0) false ≡ slice_index_or (values_behind a known (x ∷ nodes)) (if a y.var then y.high else y.low) false) same
      (here ∙ sym there)
  value_at known (x ∷ nodes) (suc i) node small e =
      let more = value_of a known x ∷ [] in
      let longer : suc (length known) ≡ length (known ++ more) = let f = length-append known more in omega (arith, f) in
      let next = value_at (known ++ more) nodes i node (subst (λ (n : ℕ). AreSmall n nodes) longer small.2) e in
      let place : length (known ++ more) + i ≡ length known + suc i = omega (arith, longer) in
      subst (λ (n : ℕ). slice_index_or (values_behind a known (x ∷ nodes)) n false ≡ slice_index_or (values_behind a known (x ∷ nodes)) (if a node.var then node.high else node.low) false) place next

  -- the assignment of the b variables from v on, where all others are 0
  abbrev pub filled : ℕ → ℕ → ℕ → Bool
  filled zero v = λ _. false
  filled (suc b) v = with_at (filled b (suc v)) v (a v)

  -- lines behind others, and their root's value
  pub record Means (nodes : List Node) (k : Rooted) (x : Bool) : Type 0 where
    pub grows : Grows nodes k.nodes
    pub small : AreSmall 2 k.nodes
    pub root : k.root < length k.nodes + 2
    pub value : slice_index_or (values a k.nodes) k.root false ≡ x

  constant : (nodes : List Node) (t : Bool) → AreSmall 2 nodes → Means nodes (rooted (if t then 1 else 0) nodes) t
  constant nodes true small = record { grows = grows_self nodes; small = small; root = omega arith; value = old_value first_values nodes 1 (omega arith) }
  constant nodes false small = record { grows = grows_self nodes; small = small; root = omega arith; value = old_value first_values nodes 0 (omega arith) }

  -- of two branches
  branches : (v : ℕ) (f : Bool → Bool) (nodes : List Node) (low high : Rooted) → Means nodes low (f false) → Means low.nodes high (f true) → Means nodes (joined v low.root high) (f (a v))
  branches v f nodes low high l h =
      joined_by v low.root high (λ (r : Rooted). Means nodes r (f (a v)))
      (λ e. record { grows = grown; small = h.small; root = h.root; value = by_same e (a v) })
      (λ ne k e. let r = found_at 2 (node_at v low.root high.root) high.nodes k e in let lt = slice_get_within high.nodes r.0 (node_at v low.root high.root) r.2 in let is = r.1 in record {
        grows = grown;
        small = h.small;
        root = omega (arith, lt, is);
        value = ap (λ (j : ℕ). slice_index_or (values a high.nodes) j false) r.1 ∙ (value_at first_values high.nodes r.0 (node_at v low.root high.root) h.small r.2 ∙ by_branch (a v));
      })
      (λ ne e. new)
    where
      grown : Grows nodes high.nodes
      grown = grows_on nodes low.nodes high.nodes l.grows h.grows

      low_there : slice_index_or (values a high.nodes) low.root false ≡ f false
      low_there = grown_value low.nodes high.nodes h.grows low.root l.root ∙ l.value

      by_same : low.root ≡ high.root → (t : Bool) → slice_index_or (values a high.nodes) high.root false ≡ f t
      by_same e true = h.value
      by_same e false = subst (λ (j : ℕ). slice_index_or (values a high.nodes) j false ≡ f false) e low_there

      by_branch : (t : Bool) → slice_index_or (values a high.nodes) (if t then high.root else low.root) false ≡ f t
      by_branch true = h.value
      by_branch false = low_there

      low_small : low.root < length high.nodes + 2
      low_small = let le = grows_length low.nodes high.nodes h.grows in let lt = l.root in omega (arith, le, lt)

      by_new : (t : Bool) → slice_index_or (values a (high.nodes ++ node_at v low.root high.root ∷ [])) (if t then high.root else low.root) false ≡ f t
      by_new true = grown_value high.nodes (high.nodes ++ node_at v low.root high.root ∷ []) (grows_more high.nodes (node_at v low.root high.root ∷ [])) high.root h.root ∙ h.value
      by_new false = grown_value high.nodes (high.nodes ++ node_at v low.root high.root ∷ []) (grows_more high.nodes (node_at v low.root high.root ∷ [])) low.root low_small ∙ low_there

      all_small : AreSmall 2 (high.nodes ++ node_at v low.root high.root ∷ [])
      all_small = small_more 2 high.nodes (node_at v low.root high.root) h.small low_small h.root

      new : Means nodes (rooted (length high.nodes + 2) (high.nodes ++ node_at v low.root high.root ∷ [])) (f (a v))
      new = record {
        grows = grows_on nodes high.nodes (high.nodes ++ node_at v low.root high.root ∷ []) grown (grows_more high.nodes (node_at v low.root high.root ∷ []));
        small = all_small;
        root = let e = length-append high.nodes (node_at v low.root high.root ∷ []) in omega (arith, e);
        value =
            let place : length high.nodes + 2 ≡ 2 + length high.nodes = omega arith in
            ap (λ (j : ℕ). slice_index_or (values a (high.nodes ++ node_at v low.root high.root ∷ [])) j false) place
            ∙ (value_at first_values (high.nodes ++ node_at v low.root high.root ∷ []) (length high.nodes) (node_at v low.root high.root) all_small (get_last high.nodes (node_at v low.root high.root) []) ∙ by_new (a v));
      }

  pub means : (b v : ℕ) (f : Function) (nodes : List Node) → AreSmall 2 nodes → Means nodes (lines_from b v f nodes) (f (filled b v))
  unfolding lines_from
  means zero v f nodes small = constant nodes (f (λ _. false)) small
  means (suc b) v f nodes small =
      let low = means b (suc v) (λ c. f (with_at c v false)) nodes small in
      let lows = lines_from b (suc v) (λ c. f (with_at c v false)) nodes in
      let high = means b (suc v) (λ c. f (with_at c v true)) lows.nodes low.small in
      branches v (λ t. f (with_at (filled b (suc v)) v t)) nodes lows (lines_from b (suc v) (λ c. f (with_at c v true)) lows.nodes) low high

  filled_at : (b v u : ℕ) → v ≤ u → u < b + v → filled b v u ≡ a u
  filled_at zero v u le lt = absurd (omega (arith, le, lt))
  filled_at (suc b) v u le lt = at (nat_eq u v) refl (λ above. filled_at b (suc v) u above (omega (arith, lt)))
    where
      at : (t : Bool) → nat_eq u v ≡ t → (suc v ≤ u → filled b (suc v) u ≡ a u) → filled (suc b) v u ≡ a u
      at true e goes =
          let same : v ≡ u = sym (nat_eq-is u v e) in
          subst (λ (w : ℕ). with_at (filled b (suc v)) v (a v) w ≡ a w) same (with_here (filled b (suc v)) v (a v))
      at false e goes =
          let ne = nat_eq-not u v e in
          let above : suc v ≤ u = grind (arith, le, ne) in
          with_other (filled b (suc v)) v (a v) u ne ∙ goes above

pub kept_means : (n : ℕ) (f : Function) → DependsBelow n f → (unit : List ℕ) (number : ℕ) (a : ℕ → Bool) → meaning (kept_set n unit number f) a ≡ f a
unfolding meaning kept_set
kept_means n f depends unit number a =
    let m = means a n 0 f [] tt in
    m.value ∙ depends (filled a n 0) a (λ v lt. filled_at a n 0 v (omega arith) (omega (arith, lt)))

-- a root is the number of a constant or of a line
pub kept_root : (n : ℕ) (f : Function) (unit : List ℕ) (number : ℕ) → (kept_set n unit number f).root < length (kept_set n unit number f).nodes + 2
unfolding kept_set
kept_root n f unit number = (means (λ v. false) n 0 f [] tt).root
