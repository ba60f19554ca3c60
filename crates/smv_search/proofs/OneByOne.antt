-- The functions of the lists, appended one by one.
use Rattle.std.proofs.Common.{◌≡◌, ℕ, zero, suc, ◌+◌, ◌<◌, ◌≤◌, List, [], ◌∷◌, ◌++◌, map, length, take, drop, get_or, refl, sym, ◌∙◌, ap, subst, arith, append_assoc, Err}
use Rattle.std.proofs.Math.Seq.{take-suc, drop-cons}
use Rattle.std.proofs.Math.ListN.{drop_of_length-le}
use Rattle.bdd_store.specs.declared.Ref.{Ref}
use Rattle.bdd_store.specs.Beads.{truth_table, bead_count, count_distinct}
use Rattle.bdd_store.specs.Diagram.{Diagram, AreLive, table}
use Rattle.bdd_ops.specs.Functions.{Function}
use Rattle.smv_rings.specs.Schedule.{Line, one_by_one}
use Rattle.smv_rings.specs.Schedule.Look.{Pass}
use Rattle.smv_rings.proofs.Whole.{map_append}
use Rattle.smv_search.specs.declared.counts.Stop.{Stop}
use Rattle.smv_search.specs.declared.counts.Stop.TheVariants.{TooMany, OutOfMemory}
use Rattle.law_events.specs.Events.{Budget, count, told, AllUneventful, First}
use Rattle.law_events.specs.Events.Event.{Counted}
use Rattle.smv_search.specs.Keeping.{beads_of, IsTally}
use Rattle.smv_search.specs.Runs.{TakesIn, Took}
use Rattle.smv_search.proofs.Loops.{nil_append, pass_append}

abbrev pub line_of : List Function → Function → Line
line_of kept f = record { kept = kept; source = []; made = f; look = Pass }

took_start : (b : Budget) (fs : List Function) → Took b fs [] fs
unfolding AllUneventful
took_start b fs = record { done = []; passed = tt; is_left = refl }

took_on : (b : Budget) (fs kept left : List Function) (f : Function) → Took b fs kept (f ∷ left) → count b.vars (line_of kept f) ≤ b.nodes → Took b fs (kept ++ (f ∷ [])) left
unfolding AllUneventful
took_on b fs kept left f took le = record {
  done = took.done ++ (line_of kept f ∷ []);
  passed = pass_append b took.done (line_of kept f ∷ []) took.passed ((le, tt), tt);
  is_left = took.is_left ∙ sym (append_assoc took.done (line_of kept f ∷ []) (one_by_one (kept ++ (f ∷ [])) left));
}

took_first : (b : Budget) (fs kept left : List Function) (f : Function) (n : ℕ) → Took b fs kept (f ∷ left) → (b.nodes < count b.vars (line_of kept f)) × (n ≡ told b.nodes (count b.vars (line_of kept f))) → First b (one_by_one [] fs) (Counted n)
unfolding First
took_first b fs kept left f n took many = (took.done, line_of kept f, one_by_one (kept ++ (f ∷ [])) left, took.is_left, took.passed, many)

took_end : (b : Budget) (fs kept : List Function) → Took b fs kept [] → AllUneventful b (one_by_one [] fs)
took_end b fs kept took = subst (AllUneventful b) (sym (nil_append took.done) ∙ sym took.is_left) took.passed

take_all : {A : Type 0} → (xs : List A) (i : ℕ) → length xs ≤ i → take i xs ≡ xs
take_all [] zero le = refl
take_all [] (suc i) le = refl
take_all (x ∷ xs) zero le = absurd (omega arith)
take_all (x ∷ xs) (suc i) le = ap (λ ys. x ∷ ys) (take_all xs i (omega arith))

-- the functions so far, and those that are left
module _ (d : Diagram) (all : List Ref) (nodes images : ℕ) where
  abbrev pub budget : Budget
  budget = record { vars = d.vars; nodes = nodes; images = images }

  abbrev pub TookAt : ℕ → Type 0
  TookAt i = Took budget (map (table d) all) (map (table d) (take i all)) (map (table d) (drop i all))

  pub start_at : TookAt 0
  start_at = took_start budget (map (table d) all)

  front_is : (i : ℕ) (o : Ref) → i < length all → map (table d) (take (suc i) all) ≡ map (table d) (take i all) ++ (table d (get_or all i o) ∷ [])
  front_is i o lt = ap (map (table d)) (take-suc all i o lt) ∙ map_append (table d) (take i all) (get_or all i o ∷ [])

  back_is : (i : ℕ) (o : Ref) → i < length all → map (table d) (drop i all) ≡ table d (get_or all i o) ∷ map (table d) (drop (suc i) all)
  back_is i o lt = ap (map (table d)) (drop-cons all i o lt)

  counts : (i : ℕ) (o : Ref) → i < length all → beads_of d (take (suc i) all) ≡ count d.vars (line_of (map (table d) (take i all)) (table d (get_or all i o)))
  unfolding beads_of count
  counts i o lt = ap (λ fs. bead_count d.vars (map (truth_table d.vars 0) fs)) (front_is i o lt)

  here : (i : ℕ) (o : Ref) → i < length all → TookAt i → Took budget (map (table d) all) (map (table d) (take i all)) (table d (get_or all i o) ∷ map (table d) (drop (suc i) all))
  here i o lt took = subst (λ fs. Took budget (map (table d) all) (map (table d) (take i all)) fs) (back_is i o lt) took

  none : Ref
  none = record { place = 0 }

  pub on_at : (i : ℕ) → i < length all → TookAt i → beads_of d (take (i + 1) all) ≤ nodes → TookAt (i + 1)
  on_at i lt took le =
      let e : i + 1 ≡ suc i = omega arith in
      subst TookAt (sym e) (
      subst (λ fs. Took budget (map (table d) all) fs (map (table d) (drop (suc i) all))) (sym (front_is i none lt)) (
      took_on budget (map (table d) all) (map (table d) (take i all)) (map (table d) (drop (suc i) all)) (table d (get_or all i none)) (here i none lt took)
      (subst (λ (n : ℕ). n ≤ nodes) (counts i none lt) (subst (λ (j : ℕ). beads_of d (take j all) ≤ nodes) e le))))

  pub stop_at : (i : ℕ) (s : Stop) → i < length all → TookAt i → IsTally {A = Unit {0}} (beads_of d (take (i + 1) all)) nodes (Err s) → TakesIn budget (map (table d) all) (Err s)
  stop_at i (TooMany n) lt took many =
      let e : i + 1 ≡ suc i = omega arith in
      let same : beads_of d (take (i + 1) all) ≡ count d.vars (line_of (map (table d) (take i all)) (table d (get_or all i none))) = ap (λ (j : ℕ). beads_of d (take j all)) e ∙ counts i none lt in
      took_first budget (map (table d) all) (map (table d) (take i all)) (map (table d) (drop (suc i) all)) (table d (get_or all i none)) n (here i none lt took)
      (subst (λ m. nodes < m) same many.0, many.1 ∙ ap (told nodes) same)
  stop_at i OutOfMemory lt took many = tt

  pub end_at : (i : ℕ) → length all ≤ i → TookAt i → AllUneventful budget (one_by_one [] (map (table d) all))
  end_at i le took = took_end budget (map (table d) all) (map (table d) (take i all)) (subst (λ rs. Took budget (map (table d) all) (map (table d) (take i all)) (map (table d) rs)) (drop_of_length-le all le) took)

pub take_live : (d : Diagram) (all : List Ref) (i : ℕ) → AreLive d all → AreLive d (take i all)
take_live d all zero live j lt = absurd (omega arith)
take_live d [] (suc i) live j lt = absurd (omega arith)
take_live d (r ∷ rs) (suc i) live zero lt = live 0 (omega arith)
take_live d (r ∷ rs) (suc i) live (suc j) lt = take_live d rs i (λ m less. live (suc m) (omega arith)) j (omega arith)

pub none_within : (d : Diagram) (nodes : ℕ) → beads_of d [] ≤ nodes
unfolding beads_of bead_count count_distinct
none_within d nodes = omega arith

pub all_within : (d : Diagram) (all : List Ref) (i nodes : ℕ) → length all ≤ i → beads_of d (take i all) ≤ nodes → beads_of d all ≤ nodes
all_within d all i nodes le within = subst (λ rs. beads_of d rs ≤ nodes) (take_all all i le) within
