-- The schedule up to ring 0.
use Rattle.std.proofs.Common.{◌≡◌, ℕ, ◌≤◌, Bool, true, false, ◌⊎◌, inl, inr, List, [], ◌∷◌, ◌++◌, map, refl, sym, ◌∙◌, ap, subst, arith, append_assoc, Result, Ok, Err, Option, Some, None}
use Rattle.bdd_store.specs.declared.Ref.{Ref}
use Rattle.bdd_store.specs.Beads.{truth_table, same_block, bead_count}
use Rattle.bdd_store.specs.Diagram.{Diagram, table}
use Rattle.bdd_store.proofs.Blocks.{same_block-refl, same_block-true}
use Rattle.bdd_store.proofs.Functions.{one_of, beads_monotone}
use Rattle.bdd_store.proofs.Sets.{or_true, or_left, or_right}
use Rattle.bdd_ops.specs.Functions.{Function}
use Rattle.smv_rings.specs.declared.Rel.{Rel}
use Rattle.smv_rings.specs.Lists.{Lists, AllCurrent, IsCurrent, IsRel, lists_of, refs_of}
use Rattle.smv_rings.specs.Schedule.{Act, Line, left_by, lines, after, functions, one_by_one, first_lines, first_all, ring, schedule}
use Rattle.smv_rings.specs.Schedule.Act.{Join, Out, Look_at, Lower}
use Rattle.smv_rings.specs.Schedule.Look.{Pass}
use Rattle.smv_rings.specs.Ops.{IsOneOf, FitsActs}
use Rattle.smv_rings.proofs.Whole.{map_append}
use Rattle.smv_rings.proofs.Turns.{after_append}
use Rattle.smv_rings.proofs.Refs.{each_live, live_each, in_now_first, in_before_first, in_broken_first, in_now_step, in_before_step, in_broken_step}
use Rattle.smv_search.specs.declared.counts.Stop.{Stop}
use Rattle.smv_search.specs.declared.counts.Stop.TheVariants.{TooMany, OutOfMemory}
use Rattle.law_events.specs.Events.{Budget, Event, count, AllUneventful, First}
use Rattle.law_events.specs.Events.Event.{Counted, Reached}
use Rattle.smv_search.specs.Keeping.{AllHeld, KeepsRefs, beads_of}
use Rattle.smv_search.specs.Runs.{Runs, TakesIn, first_of, behind_first, opening}
use Rattle.smv_search.specs.Answers.{Begins}
use Rattle.smv_search.proofs.Keep.{map_kept, keeps_some}
use Rattle.smv_search.proofs.Loops.{nil_append, pass_append, first_behind}
use Rattle.law_events.proofs.Meaning.{lines_append}

-- ---- the lists of a Rel whose functions are kept
abbrev pack : List Function → List Function → Function → List Function → List Function → Function → ℕ → Lists
pack a b c d e f n = record { now_first = a; before_first = b; broken_first = c; now_step = d; before_step = e; broken_step = f; bits = n }

module _ (d e : Diagram) (rel : Rel) (keeps : KeepsRefs d e (refs_of rel)) where
  part : (rs : List Ref) → ((r : Ref) → IsOneOf r rs → IsOneOf r (refs_of rel)) → map (table e) rs ≡ map (table d) rs
  part rs sub = map_kept d e rs (keeps_some d e (refs_of rel) rs sub keeps)

  now_first_kept : map (table e) rel.now_first.items ≡ map (table d) rel.now_first.items
  now_first_kept = part rel.now_first.items (in_now_first rel)

  before_first_kept : map (table e) rel.before_first.items ≡ map (table d) rel.before_first.items
  before_first_kept = part rel.before_first.items (in_before_first rel)

  broken_first_kept : table e rel.broken_first ≡ table d rel.broken_first
  broken_first_kept = keeps.tables rel.broken_first (in_broken_first rel rel.broken_first refl)

  pub lists_kept : lists_of e rel ≡ lists_of d rel
  unfolding lists_of
  lists_kept =
      let ns = part rel.now_step.items (in_now_step rel) in
      let bs = part rel.before_step.items (in_before_step rel) in
      let br = keeps.tables rel.broken_step (in_broken_step rel rel.broken_step refl) in
      ap (λ x. pack x (map (table e) rel.before_first.items) (table e rel.broken_first) (map (table e) rel.now_step.items) (map (table e) rel.before_step.items) (table e rel.broken_step) rel.bits) now_first_kept
      ∙ ap (λ x. pack (map (table d) rel.now_first.items) x (table e rel.broken_first) (map (table e) rel.now_step.items) (map (table e) rel.before_step.items) (table e rel.broken_step) rel.bits) before_first_kept
      ∙ ap (λ x. pack (map (table d) rel.now_first.items) (map (table d) rel.before_first.items) x (map (table e) rel.now_step.items) (map (table e) rel.before_step.items) (table e rel.broken_step) rel.bits) broken_first_kept
      ∙ ap (λ x. pack (map (table d) rel.now_first.items) (map (table d) rel.before_first.items) (table d rel.broken_first) x (map (table e) rel.before_step.items) (table e rel.broken_step) rel.bits) ns
      ∙ ap (λ x. pack (map (table d) rel.now_first.items) (map (table d) rel.before_first.items) (table d rel.broken_first) (map (table d) rel.now_step.items) x (table e rel.broken_step) rel.bits) bs
      ∙ ap (λ x. pack (map (table d) rel.now_first.items) (map (table d) rel.before_first.items) (table d rel.broken_first) (map (table d) rel.now_step.items) (map (table d) rel.before_step.items) x rel.bits) br

  pub rel_kept : IsRel d rel → IsRel e rel
  rel_kept is = record {
    vars = keeps.vars ∙ is.vars;
    live = live_each e (refs_of rel) keeps.live;
    now_first = subst AllCurrent (sym now_first_kept) is.now_first;
    before_first = subst AllCurrent (sym before_first_kept) is.before_first;
    broken_first = subst IsCurrent (sym broken_first_kept) is.broken_first;
  }

pub rel_held : (d : Diagram) (rel : Rel) → IsRel d rel → AllHeld d (refs_of rel)
rel_held d rel is r one = each_live d (refs_of rel) is.live r one

pub functions_are : (d : Diagram) (rel : Rel) → map (table d) (refs_of rel) ≡ functions (lists_of d rel)
unfolding refs_of lists_of
functions_are d rel =
    map_append (table d) rel.now_first.items (rel.before_first.items ++ (rel.broken_first ∷ (rel.now_step.items ++ (rel.before_step.items ++ (rel.broken_step ∷ [])))))
    ∙ ap (λ fs. map (table d) rel.now_first.items ++ fs) (
    map_append (table d) rel.before_first.items (rel.broken_first ∷ (rel.now_step.items ++ (rel.before_step.items ++ (rel.broken_step ∷ []))))
    ∙ ap (λ fs. map (table d) rel.before_first.items ++ (table d rel.broken_first ∷ fs)) (
    map_append (table d) rel.now_step.items (rel.before_step.items ++ (rel.broken_step ∷ []))
    ∙ ap (λ fs. map (table d) rel.now_step.items ++ fs) (map_append (table d) rel.before_step.items (rel.broken_step ∷ []))))

-- ---- the lines up to ring 0
abbrev heads : List Function → List Function → List Line
heads kept [] = []
heads kept (f ∷ fs) = record { kept = kept; source = []; made = f; look = Pass } ∷ []

firsts_split : (kept fs : List Function) (acts : List Act) → first_lines kept fs ++ lines kept (first_all fs) acts ≡ heads kept fs ++ lines kept (first_of fs) (map Join (behind_first fs) ++ acts)
firsts_split kept [] acts = refl
firsts_split kept (f ∷ fs) acts = ap (λ ls. record { kept = kept; source = []; made = f; look = Pass } ∷ ls) (sym (lines_append kept f (map Join fs) acts))

abbrev ahead_of : Lists → List Line
ahead_of l = one_by_one [] (functions l) ++ heads (functions l) l.now_first

start_is : (l : Lists) → schedule l 0 ≡ ahead_of l ++ lines (functions l) (first_of l.now_first) (opening l)
start_is l =
    ap (λ ls. one_by_one [] (functions l) ++ ls) (firsts_split (functions l) l.now_first (Look_at 0 l.broken_first ∷ map Join l.before_first))
    ∙ sym (append_assoc (one_by_one [] (functions l)) (heads (functions l) l.now_first) (lines (functions l) (first_of l.now_first) (opening l)))

firsts_after : (fs : List Function) (acts : List Act) → after (first_of fs) (map Join (behind_first fs) ++ acts) ≡ after (first_all fs) acts
firsts_after [] acts = refl
firsts_after (f ∷ fs) acts = after_append f (map Join fs) acts

ring_is : (l : Lists) → after (first_of l.now_first) (opening l) ≡ ring l 0
ring_is l = firsts_after l.now_first (Look_at 0 l.broken_first ∷ map Join l.before_first)

-- ---- a function that is among others adds no bead
pub one_here : (n : ℕ) (xs ys : List Function) (f : Function) → one_of (map (truth_table n 0) (xs ++ (f ∷ ys))) (truth_table n 0 f) ≡ true
one_here n [] ys f = or_left (same_block (truth_table n 0 f) (truth_table n 0 f)) (one_of (map (truth_table n 0) ys) (truth_table n 0 f)) (same_block-refl (truth_table n 0 f))
one_here n (x ∷ xs) ys f = or_right (same_block (truth_table n 0 f) (truth_table n 0 x)) (one_of (map (truth_table n 0) (xs ++ (f ∷ ys))) (truth_table n 0 f)) (one_here n xs ys f)

pub one_alone : (n : ℕ) (f : Function) (t : List Bool) → one_of (map (truth_table n 0) (f ∷ [])) t ≡ true → t ≡ truth_table n 0 f
one_alone n f t e = elim (or_true (same_block t (truth_table n 0 f)) false e) [ inl same ↦ same_block-true t (truth_table n 0 f) same | inr none ↦ absurd (let clash : false ≡ true = none in cc) ]

one_last : (n : ℕ) (xs : List Function) (f : Function) (t : List Bool) → one_of (map (truth_table n 0) (xs ++ (f ∷ []))) t ≡ true → (one_of (map (truth_table n 0) xs) t ≡ true) ⊎ (t ≡ truth_table n 0 f)
one_last n [] f t e = inr (one_alone n f t e)
one_last n (x ∷ xs) f t e = elim (or_true (same_block t (truth_table n 0 x)) (one_of (map (truth_table n 0) (xs ++ (f ∷ []))) t) e) [
  | inl here ↦ inl (or_left (same_block t (truth_table n 0 x)) (one_of (map (truth_table n 0) xs) t) here)
  | inr later ↦ elim (one_last n xs f t later) [
    | inl old ↦ inl (or_right (same_block t (truth_table n 0 x)) (one_of (map (truth_table n 0) xs) t) old)
    | inr last ↦ inr last
  ]
]

again_within : (n : ℕ) (f : Function) (fs : List Function) → bead_count n (map (truth_table n 0) ((f ∷ fs) ++ (f ∷ []))) ≤ bead_count n (map (truth_table n 0) (f ∷ fs))
again_within n f fs = beads_monotone n (map (truth_table n 0) ((f ∷ fs) ++ (f ∷ []))) (map (truth_table n 0) (f ∷ fs)) (λ t e. elim (one_last n (f ∷ fs) f t e) [
  | inl old ↦ old
  | inr last ↦ subst (λ u. one_of (map (truth_table n 0) (f ∷ fs)) u ≡ true) (sym last) (one_here n [] fs f)
])

heads_pass : (b : Budget) (fs gs : List Function) → bead_count b.vars (map (truth_table b.vars 0) (fs ++ gs)) ≤ b.nodes → AllUneventful b (heads (fs ++ gs) fs)
unfolding AllUneventful count
heads_pass b [] gs le = tt
heads_pass b (f ∷ fs) gs le = ((omega (arith, again_within b.vars f (fs ++ gs), le), tt), tt)

-- ---- what a search answers up to ring 0
module _ (l : Lists) (b : Budget) (e : Diagram) where
  takes_stop : (s : Stop) → TakesIn b (functions l) (Err s) → Begins e l b (Err s)
  unfolding AllUneventful
  takes_stop (TooMany n) first = first_behind b [] (one_by_one [] (functions l)) (first_lines (functions l) l.now_first ++ lines (functions l) (first_all l.now_first) (Look_at 0 l.broken_first ∷ map Join l.before_first)) (Counted n) tt first
  takes_stop OutOfMemory first = tt

  run_first : (v : Event) → AllUneventful b (ahead_of l) → First b (lines (functions l) (first_of l.now_first) (opening l)) v → First b (schedule l 0) v
  run_first v pass first =
      subst (λ ls. First b ls v) (ap (λ ls. ahead_of l ++ ls) (nil_append (lines (functions l) (first_of l.now_first) (opening l))) ∙ sym (start_is l))
      (first_behind b (ahead_of l) (lines (functions l) (first_of l.now_first) (opening l)) [] v pass first)

  begins : (r : Result (Option Ref) Stop) → AllUneventful b (ahead_of l) → Runs e b (functions l) (first_of l.now_first) (opening l) 0 r → Begins e l b r
  begins (Ok (Some r)) pass runs = (subst (AllUneventful b) (sym (start_is l)) (pass_append b (ahead_of l) (lines (functions l) (first_of l.now_first) (opening l)) pass runs.0), runs.1, runs.2 ∙ ring_is l)
  begins (Ok None) pass runs = run_first (Reached 0) pass runs
  begins (Err (TooMany n)) pass runs = run_first (Counted n) pass runs
  begins (Err OutOfMemory) pass runs = tt

abbrev NoneOut : List Act → Type 0
NoneOut [] = Unit {0}
NoneOut (Join f ∷ acts) = NoneOut acts
NoneOut (Out v ∷ acts) = ⊥
NoneOut (Look_at k f ∷ acts) = NoneOut acts
NoneOut (Lower ∷ acts) = ⊥

none_fits : (n : ℕ) (p : Function) (acts : List Act) → NoneOut acts → FitsActs n p acts
none_fits n p [] none = tt
none_fits n p (Join f ∷ acts) none = (tt, none_fits n (left_by (Join f) p) acts none)
none_fits n p (Out v ∷ acts) none = absurd none
none_fits n p (Look_at k f ∷ acts) none = (tt, none_fits n p acts none)
none_fits n p (Lower ∷ acts) none = absurd none

none_joins : (fs : List Function) (acts : List Act) → NoneOut acts → NoneOut (map Join fs ++ acts)
none_joins [] acts none = none
none_joins (f ∷ fs) acts none = none_joins fs acts none

none_map : (fs : List Function) → NoneOut (map Join fs)
none_map [] = tt
none_map (f ∷ fs) = none_map fs

pub opening_fits : (l : Lists) (n : ℕ) (p : Function) → FitsActs n p (opening l)
opening_fits l n p = none_fits n p (opening l) (none_joins (behind_first l.now_first) (Look_at 0 l.broken_first ∷ map Join l.before_first) (none_map l.before_first))

-- ---- as the code has them
module _ (d : Diagram) (rel : Rel) (all : List Ref) (own : all ≡ refs_of rel) (nodes images : ℕ) where
  abbrev pub budget_of : Budget
  budget_of = record { vars = d.vars; nodes = nodes; images = images }

  all_functions : map (table d) all ≡ functions (lists_of d rel)
  all_functions = ap (map (table d)) own ∙ functions_are d rel

  pub begin_stop : (s : Stop) → TakesIn budget_of (map (table d) all) (Err s) → Begins d (lists_of d rel) budget_of (Err s)
  begin_stop s takes = takes_stop (lists_of d rel) budget_of d s (subst (λ fs. TakesIn budget_of fs (Err s)) all_functions takes)

  ahead_pass : AllUneventful budget_of (one_by_one [] (map (table d) all)) → beads_of d all ≤ nodes → AllUneventful budget_of (ahead_of (lists_of d rel))
  unfolding beads_of lists_of
  ahead_pass pass within =
      pass_append budget_of (one_by_one [] (functions (lists_of d rel))) (heads (functions (lists_of d rel)) (lists_of d rel).now_first) (subst (λ fs. AllUneventful budget_of (one_by_one [] fs)) all_functions pass)
      (heads_pass budget_of (lists_of d rel).now_first ((lists_of d rel).before_first ++ ((lists_of d rel).broken_first ∷ ((lists_of d rel).now_step ++ ((lists_of d rel).before_step ++ ((lists_of d rel).broken_step ∷ [])))))
      (subst (λ fs. bead_count d.vars (map (truth_table d.vars 0) fs) ≤ nodes) all_functions within))

  pub begin_run : (e : Diagram) (r : Result (Option Ref) Stop) (start : Function) (acts : List Act) → AllUneventful budget_of (one_by_one [] (map (table d) all)) → beads_of d all ≤ nodes → start ≡ first_of (map (table d) rel.now_first.items) → acts ≡ opening (lists_of d rel)
      → Runs e budget_of (map (table d) all) start acts 0 r → Begins e (lists_of d rel) budget_of r
  unfolding lists_of
  begin_run e r start acts pass within start_same acts_same runs =
      begins (lists_of d rel) budget_of e r (ahead_pass pass within)
      (subst (λ fs. Runs e budget_of fs (first_of (map (table d) rel.now_first.items)) (opening (lists_of d rel)) 0 r) all_functions (
      subst (λ xs. Runs e budget_of (map (table d) all) (first_of (map (table d) rel.now_first.items)) xs 0 r) acts_same (
      subst (λ p. Runs e budget_of (map (table d) all) p acts 0 r) start_same runs)))
