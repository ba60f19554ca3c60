-- Nodes with the same tables are the same nodes.
use Rattle.std.proofs.Common.{◌≡◌, ℕ, zero, suc, ◌+◌, ◌<◌, ◌≤◌, Bool, true, false, eqb, cond, List, [], ◌∷◌, ◌++◌, refl, sym, subst, ◌∙◌, ap, arith, inl, inr}
use Rattle.std.proofs.lemmas.Bool.{cases_lt}
use Rattle.bdd_store.specs.declared.Ref.{Ref}
use Rattle.bdd_store.specs.declared.chains.Node.{Node}
use Rattle.bdd_store.specs.Graph.{var_at, Live, step, walk, below, Reduced, with_at}
use Rattle.bdd_store.specs.Diagram.{Diagram, IsLive, IsReduced, table, first_var, Reaches, Keeps}
use Rattle.bdd_store.proofs.Walks.{step_past, step_live}
use Rattle.bdd_store.proofs.Canonical.{walks_alike}
use Rattle.bdd_store.proofs.Tables.{walk_branch}
use Rattle.bdd_store.proofs.Laws.{depends_first, first_least}
use Rattle.bdd_store.proofs.Sets.{member}
use Rattle.smv_encode.specs.Laws.{KeepsTables, KeptTablesKeep}

-- ---- what lies below a node

module _ (n : ℕ) (ns ms : List Node) (old : Reduced n ns) (new : Reduced n ms) (live : (r : ℕ) → Live n ns r → Live n ms r) (firsts : (r : ℕ) → Live n ns r → var_at ms r ≡ var_at ns r)
    (tables : (r : ℕ) → Live n ns r → (a : ℕ → Bool) → eqb (walk ms n 0 r a) 1 ≡ eqb (walk ns n 0 r a) 1) where
  branch_same : (r : ℕ) (x : Bool) → Live n ns r → var_at ns r < n → step ms (var_at ns r) r x ≡ step ns (var_at ns r) r x
  branch_same r x is lt =
      let v : ℕ = var_at ns r in
      let same = firsts r is in
      let there : Live n ns (step ns v r x) = step_live n ns old v r x is lt in
      walks_alike n ms new n 0 (step ms v r x) (step ns v r x) (omega arith) (step_live n ms new v r x (live r is) lt) (live (step ns v r x) there) (omega arith) (omega arith) (λ a.
      ap (λ (k : ℕ). eqb (walk ms n 0 (step ms k r x) a) 1) (sym same)
      ∙ ap (λ (p : ℕ). eqb p 1) (walk_branch n ms new r x a (live r is) (omega arith))
      ∙ ap (λ (k : ℕ). eqb (walk ms n 0 r (with_at a k x)) 1) same
      ∙ tables r is (with_at a v x)
      ∙ sym (ap (λ (p : ℕ). eqb p 1) (walk_branch n ns old r x a is lt))
      ∙ sym (tables (step ns v r x) there a))

  step_same : (k r : ℕ) (x : Bool) → k < n → Live n ns r → step ms k r x ≡ step ns k r x
  step_same k r x lt is =
      let same = firsts r is in
      elim (cases_lt (var_at ns r) k) [
        | inl early ↦ step_past ms k r x (omega arith) ∙ sym (step_past ns k r x (omega arith))
        | inr le ↦ elim (cases_lt k (var_at ns r)) [
          | inl late ↦ step_past ms k r x (omega arith) ∙ sym (step_past ns k r x (omega arith))
          | inr ge ↦
              let at : var_at ns r ≡ k = omega arith in
              ap (λ (j : ℕ). step ms j r x) (sym at) ∙ branch_same r x is (omega arith) ∙ ap (λ (j : ℕ). step ns j r x) at
        ]
      ]

  below_same : (b k r : ℕ) → b + k ≤ n → Live n ns r → below ms b k r ≡ below ns b k r
  unfolding below
  below_same zero k r le is = refl
  below_same (suc b) k r le is =
      let lt : k < n = omega arith in
      let next : (x : Bool) → below ms b (suc k) (step ms k r x) ≡ below ns b (suc k) (step ns k r x) = λ x.
      ap (below ms b (suc k)) (step_same k r x lt is) ∙ below_same b (suc k) (step ns k r x) (omega arith) (step_live n ns old k r x is lt) in
      ap (λ v. cond (eqb v k) (r ∷ []) [] ++ (below ms b (suc k) (step ms k r false) ++ below ms b (suc k) (step ms k r true))) (firsts r is)
      ∙ ap (λ x. cond (eqb (var_at ns r) k) (r ∷ []) [] ++ (x ++ below ms b (suc k) (step ms k r true))) (next false)
      ∙ ap (λ x. cond (eqb (var_at ns r) k) (r ∷ []) [] ++ (below ns b (suc k) (step ns k r false) ++ x)) (next true)

-- ---- the law

module _ (d e : Diagram) (old : IsReduced d) (new : IsReduced e) (k : KeepsTables d e) where
  within : (c : Diagram) (r : Ref) → IsLive c r → first_var c r ≤ c.vars
  unfolding IsLive first_var
  within c r is = is.1

  first_same : (r : Ref) → IsLive d r → first_var e r ≡ first_var d r
  first_same r is =
      let vars = k.vars in
      let before = within d r is in
      let after = within e r (k.live r is) in
      let up : first_var d r ≤ first_var e r = first_least e new r (first_var d r) (k.live r is) (omega arith) (λ a c same. k.tables r is a ∙ depends_first d old r a c same ∙ sym (k.tables r is c)) in
      let down : first_var e r ≤ first_var d r = first_least d old r (first_var e r) is (omega arith) (λ a c same. sym (k.tables r is a) ∙ depends_first e new r a c same ∙ k.tables r is c) in
      omega arith

  below_kept : (f : Ref) → IsLive d f → below e.nodes e.vars 0 f.place ≡ below d.nodes d.vars 0 f.place
  unfolding IsLive IsReduced table first_var
  below_kept f is =
      let ref : ℕ → Ref = λ p. record { place = p } in
      ap (λ (n : ℕ). below e.nodes n 0 f.place) k.vars
      ∙ below_same d.vars d.nodes e.nodes old (subst (λ (n : ℕ). Reduced n e.nodes) k.vars new)
      (λ r h. subst (λ (n : ℕ). Live n e.nodes r) k.vars (k.live (ref r) h))
      (λ r h. first_same (ref r) h)
      (λ r h a. ap (λ (n : ℕ). eqb (walk e.nodes n 0 r a) 1) (sym k.vars) ∙ k.tables (ref r) h a)
      d.vars 0 f.place (omega arith) is

  reached_same : (f r : Ref) → IsLive d f → IsLive d r → Reaches d f r → Reaches e f r
  unfolding Reaches
  reached_same f r there is reached proper =
      let same = first_same r is in
      let vars = k.vars in
      ap (λ (places : List ℕ). member r.place places) (below_kept f there) ∙ reached (omega arith)

  pub keeps : Keeps d e
  keeps = record { vars = k.vars; live = k.live; tables = k.tables; reached = reached_same; firsts = first_same }

pub kept_tables : KeptTablesKeep
kept_tables old new before after k = keeps old new before after k
