-- One operation, and what it says of its line.
use Rattle.std.proofs.Common.{◌≡◌, ◌≢◌, ℕ, ◌<◌, ◌≤◌, Bool, true, false, append_assoc, arith, inl, inr, List, [], ◌∷◌, ◌++◌, map, refl, sym, ◌∙◌, ap, subst, Result, Ok, Err, Option}
use Rattle.bdd_store.specs.declared.Ref.{Ref}
use Rattle.bdd_store.specs.Beads.{truth_table, same_block, bead_count}
use Rattle.bdd_store.proofs.Functions.{beads_monotone}
use Rattle.bdd_store.proofs.Sets.{or_right}
use Rattle.std.specs.List.{list_any}
use Rattle.bdd_store.specs.Diagram.{Diagram, IsLive, table, Keeps}
use Rattle.bdd_ops.specs.Functions.{Function}
use Rattle.smv_rings.specs.Functions.{never}
use Rattle.smv_rings.specs.Schedule.{Line, made_by, left_by, look_of, live as live_of}
use Rattle.smv_rings.specs.Schedule.{Look as Glance}
use Rattle.smv_rings.specs.Ops.{IsOneOf}
use Rattle.smv_search.specs.Keeping.{AllHeld, KeepsRefs, beads_of, beads_in, IsTally, IsPast}
use Rattle.smv_rings.specs.declared.ops.Op.{Op}
use Rattle.smv_rings.specs.declared.ops.Op.TheVariants.{And, Exists, Look, Rename}
use Rattle.smv_search.specs.declared.counts.Stop.{Stop}
use Rattle.smv_search.specs.declared.counts.Stop.TheVariants.{TooMany, OutOfMemory}
use Rattle.law_events.specs.Events.{Budget, count, told, Goes, Settles, AllUneventful, First}
use Rattle.law_events.specs.Events.Event.{Reached}
use Rattle.smv_rings.specs.Ops.{act_of}
use Rattle.smv_search.specs.Runs.{Runs}
use Rattle.std.specs.Result.{IsErrAnd}
use Rattle.smv_search.proofs.Keep.{map_kept, keeps_refs, keeps_some, keeps_then}
use Rattle.smv_rings.proofs.Refs.{one_left, one_right}

map_append : {A B : Type 0} → (f : A → B) (xs ys : List A) → map f (xs ++ ys) ≡ map f xs ++ map f ys
map_append f [] ys = refl
map_append f (x ∷ xs) ys = ap (λ zs. f x ∷ zs) (map_append f xs ys)

any_depth : (d : Diagram) (op : Op) (k : ℕ) (p : Function) → made_by (act_of d 0 op) p ≡ made_by (act_of d k op) p
any_depth d (And f) k p = refl
any_depth d (Exists v) k p = refl
any_depth d (Look f) k p = refl
any_depth d Rename k p = refl

module _ (d e f : Diagram) (live : List Ref) (p made : Ref) (op : Op) (nodes : ℕ) (held : AllHeld d live) (live_p : IsLive d p) (live_made : IsLive e made)
    (is : table e made ≡ made_by (act_of d 0 op) (table d p)) (keeps : Keeps d e) (kept : KeepsRefs e f (live ++ (p ∷ made ∷ []))) where
  abbrev line_of : ℕ → Line
  line_of k = record { kept = map (table d) live; source = table d p ∷ []; made = made_by (act_of d k op) (table d p); look = look_of (act_of d k op) }

  abbrev budget : ℕ → Budget
  budget images = record { vars = d.vars; nodes = nodes; images = images }

  pub step_keeps : KeepsRefs d f live
  step_keeps = keeps_then d e f live (keeps_refs d e live held keeps) (keeps_some e f (live ++ (p ∷ made ∷ [])) live (λ r one. one_left r live (p ∷ made ∷ []) one) kept)

  p_one : IsOneOf p (live ++ (p ∷ made ∷ []))
  p_one = one_right p live (p ∷ made ∷ []) (inl refl)

  made_one : IsOneOf made (live ++ (p ∷ made ∷ []))
  made_one = one_right made live (p ∷ made ∷ []) (inr (inl refl))

  pub p_live : IsLive f p
  p_live = kept.live p p_one

  pub p_table : table f p ≡ table d p
  p_table = kept.tables p p_one ∙ (λ i a. keeps.tables p live_p a i)

  pub made_live : IsLive f made
  made_live = kept.live made made_one

  pub made_table : (k : ℕ) → table f made ≡ made_by (act_of d k op) (table d p)
  made_table k = kept.tables made made_one ∙ is ∙ any_depth d op k (table d p)

  tables_map : (k : ℕ) → map (table e) (live ++ (p ∷ made ∷ [])) ≡ map (table d) live ++ (table d p ∷ made_by (act_of d k op) (table d p) ∷ [])
  tables_map k =
      map_append (table e) live (p ∷ made ∷ [])
      ∙ ap (λ fs. fs ++ (table e p ∷ table e made ∷ [])) (map_kept d e live (keeps_refs d e live held keeps))
      ∙ ap (λ g. map (table d) live ++ (g ∷ table e made ∷ [])) (λ i a. keeps.tables p live_p a i)
      ∙ ap (λ g. map (table d) live ++ (table d p ∷ g ∷ [])) (is ∙ any_depth d op k (table d p))

  pub counts : (k : ℕ) → beads_of e (live ++ (p ∷ made ∷ [])) ≡ count d.vars (line_of k)
  unfolding beads_of count
  counts k =
      ap (λ n. bead_count n (map (truth_table n 0) (map (table e) (live ++ (p ∷ made ∷ []))))) keeps.vars
      ∙ ap (λ fs. bead_count d.vars (map (truth_table d.vars 0) fs)) (tables_map k)

  -- too many beads
  pub step_stops : (err : Stop) (k images : ℕ) → IsTally {A = Option Ref} (beads_of e (live ++ (p ∷ made ∷ []))) nodes (Err err) → Runs f (budget images) (map (table d) live) (table d p) (act_of d k op ∷ []) k (Err err)
  unfolding First AllUneventful
  step_stops (TooMany n) k images tally = ([], line_of k, [], refl, tt, (subst (λ m. nodes < m) (counts k) tally.0, tally.1 ∙ ap (told nodes) (counts k)))
  step_stops OutOfMemory k images tally = tt

  within : (k : ℕ) → beads_of e (live ++ (p ∷ made ∷ [])) ≤ nodes → count d.vars (line_of k) ≤ nodes
  within k le = subst (λ m. m ≤ nodes) (counts k) le

  -- a look that finds nothing
  pub look_passes : (g : Ref) → op ≡ Look g → beads_of e (live ++ (p ∷ made ∷ [])) ≤ nodes → ((a : ℕ → Bool) → table f made a ≡ false) → (k images : ℕ)
      → AllUneventful (budget images) (line_of k ∷ []) × IsLive f p × (table f p ≡ left_by (act_of d k op) (table d p))
  unfolding AllUneventful
  look_passes g e le none k images =
      let made_never : made_by (act_of d k op) (table d p) ≡ never = sym (made_table k) ∙ (λ i a. none a i) in (
        ((within k le, subst (λ o. Goes images (made_by (act_of d k op) (table d p)) (look_of (act_of d k o))) (sym e) made_never), tt),
        p_live,
        p_table ∙ ap (λ o. left_by (act_of d k o) (table d p)) (sym e),
      )

  -- a look that finds something
  pub look_decides : (g : Ref) → op ≡ Look g → beads_of e (live ++ (p ∷ made ∷ [])) ≤ nodes → (((a : ℕ → Bool) → table f made a ≡ false) → ⊥) → (k images : ℕ)
      → First (budget images) (line_of k ∷ []) (Reached k)
  unfolding First AllUneventful
  look_decides g e le some k images =
      let differs : made_by (act_of d k op) (table d p) ≢ never = λ same. some (λ a. ap (λ h. h a) (made_table k ∙ same)) in
      ([], line_of k, [], refl, tt, (within k le, subst (λ o. Settles images (made_by (act_of d k op) (table d p)) (look_of (act_of d k o)) (Reached k)) (sym e) (differs, refl)))

  -- any other operation
  pub plain_passes : ((g : Ref) → op ≡ Look g → ⊥) → beads_of e (live ++ (p ∷ made ∷ [])) ≤ nodes → (k images : ℕ)
      → AllUneventful (budget images) (line_of k ∷ []) × IsLive f made × (table f made ≡ left_by (act_of d k op) (table d p))
  unfolding AllUneventful
  plain_passes other le k images = (((within k le, goes op other), tt), made_live, made_table k ∙ leaves op other)
    where
      goes : (o : Op) → ((g : Ref) → o ≡ Look g → ⊥) → Goes images (made_by (act_of d k op) (table d p)) (look_of (act_of d k o))
      goes (And g) other = tt
      goes (Exists v) other = tt
      goes (Look g) other = absurd (other g refl)
      goes Rename other = tt

      leaves : (o : Op) → ((g : Ref) → o ≡ Look g → ⊥) → made_by (act_of d k o) (table d p) ≡ left_by (act_of d k o) (table d p)
      leaves (And g) other = refl
      leaves (Exists v) other = refl
      leaves (Look g) other = absurd (other g refl)
      leaves Rename other = refl

-- a line has at least the beads of its last function
one_of_last : (ts : List (List Bool)) (t q : List Bool) → list_any (same_block q) (t ∷ []) ≡ true → list_any (same_block q) (ts ++ (t ∷ [])) ≡ true
one_of_last [] t q is = is
one_of_last (x ∷ xs) t q is = or_right (same_block q x) (list_any (same_block q) (xs ++ (t ∷ []))) (one_of_last xs t q is)

line_last : (line : Line) (n : ℕ) → map (truth_table n 0) (live_of line) ≡ map (truth_table n 0) (line.kept ++ line.source) ++ (truth_table n 0 line.made ∷ [])
line_last line n = ap (map (truth_table n 0)) (sym (append_assoc line.kept line.source (line.made ∷ []))) ∙ map_append (truth_table n 0) (line.kept ++ line.source) (line.made ∷ [])

pub line_most : (line : Line) (n : ℕ) → bead_count n (truth_table n 0 line.made ∷ []) ≤ count n line
unfolding count
line_most line n =
    subst (λ ts. bead_count n (truth_table n 0 line.made ∷ []) ≤ bead_count n ts) (sym (line_last line n))
    (beads_monotone n (truth_table n 0 line.made ∷ []) (map (truth_table n 0) (line.kept ++ line.source) ++ (truth_table n 0 line.made ∷ [])) (one_of_last (map (truth_table n 0) (line.kept ++ line.source)) (truth_table n 0 line.made)))

-- a function with more beads than are told is past the budget
pub past_tally : (A B : Type 0) (line : Line) (n nodes : ℕ) (err : Stop) → IsPast {A = A} (beads_in n line.made) nodes (Err err) → IsTally {A = B} (count n line) nodes (Err err)
past_tally A B line n nodes (TooMany c) past = (omega (arith, past.0, line_most line n), omega (arith, past.0, past.1, line_most line n))
past_tally A B line n nodes OutOfMemory past = tt

-- so the operation that would have made it ends the search
pub past_stops : (d e : Diagram) (live : List Ref) (p : Ref) (op : Op) (nodes : ℕ) (err : Stop) → IsPast {A = Ref} (beads_in d.vars (made_by (act_of d 0 op) (table d p))) nodes (Err err) → (k images : ℕ)
    → Runs e (record { vars = d.vars; nodes = nodes; images = images }) (map (table d) live) (table d p) (act_of d k op ∷ []) k (Err err)
unfolding First AllUneventful
past_stops d e live p op nodes OutOfMemory past k images = tt
past_stops d e live p op nodes (TooMany c) past k images =
    let line : Line = record { kept = map (table d) live; source = table d p ∷ []; made = made_by (act_of d k op) (table d p); look = look_of (act_of d k op) } in
    let here = subst (λ f. IsPast {A = Ref} (beads_in d.vars f) nodes (Err (TooMany c))) (any_depth d op k (table d p)) past in
    ([], line, [], refl, tt, past_tally Ref (Option Ref) line d.vars nodes (TooMany c) here)

-- an error that a `?` hands on
pub handed_on : {A : Type 0} → (r : Result A Stop) (e : Stop) (P : Result A Stop → Type 0) → IsErrAnd r (λ x. x ≡ e) → P (Err e) → P r
handed_on (Ok x) e P same is = absurd same
handed_on (Err x) e P same is = subst (λ y. P (Err y)) (sym same) is

-- the count of a line whose function is made in any way
module _ (d e : Diagram) (live : List Ref) (p made : Ref) (g : Function) (held : AllHeld d live) (live_p : IsLive d p) (keeps : Keeps d e) (is : table e made ≡ g) where
  pub counts_any : (look : Glance) → beads_of e (live ++ (p ∷ made ∷ [])) ≡ count d.vars (record { kept = map (table d) live; source = table d p ∷ []; made = g; look = look })
  unfolding beads_of count
  counts_any look =
      ap (λ n. bead_count n (map (truth_table n 0) (map (table e) (live ++ (p ∷ made ∷ []))))) keeps.vars
      ∙ ap (λ fs. bead_count d.vars (map (truth_table d.vars 0) fs)) (
      map_append (table e) live (p ∷ made ∷ [])
      ∙ ap (λ fs. fs ++ (table e p ∷ table e made ∷ [])) (map_kept d e live (keeps_refs d e live held keeps))
      ∙ ap (λ h. map (table d) live ++ (h ∷ table e made ∷ [])) (λ i a. keeps.tables p live_p a i)
      ∙ ap (λ h. map (table d) live ++ (table d p ∷ h ∷ [])) is)

module _ (d e f : Diagram) (live : List Ref) (p made : Ref) (g : Function) (held : AllHeld d live) (keeps : Keeps d e) (is : table e made ≡ g) (kept : KeepsRefs e f (live ++ (p ∷ made ∷ []))) where
  pub any_keeps : KeepsRefs d f live
  any_keeps = keeps_then d e f live (keeps_refs d e live held keeps) (keeps_some e f (live ++ (p ∷ made ∷ [])) live (λ r one. one_left r live (p ∷ made ∷ []) one) kept)

  pub any_live : IsLive f made
  any_live = kept.live made (one_right made live (p ∷ made ∷ []) (inr (inl refl)))

  pub any_table : table f made ≡ g
  any_table = kept.tables made (one_right made live (p ∷ made ∷ []) (inr (inl refl))) ∙ is
