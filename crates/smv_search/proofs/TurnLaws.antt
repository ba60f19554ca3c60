-- One turn of the search, and what it says of the schedule.
use Rattle.std.proofs.Common.{◌≡◌, ◌≢◌, ℕ, zero, suc, ◌+◌, ◌-◌, ◌<◌, ◌≤◌, inl, inr, List, [], ◌∷◌, ◌++◌, map, refl, sym, ◌∙◌, ap, subst, arith, append_assoc, Result, Ok, Err, Option, Some, None}
use Rattle.bdd_store.specs.declared.Ref.{Ref}
use Rattle.bdd_store.specs.Diagram.{Diagram, IsLive, table, IsCanonical}
use Rattle.smv_rings.specs.Functions.{disj}
use Rattle.smv_rings.specs.Lists.{Lists}
use Rattle.smv_rings.specs.Schedule.{Line, Look, lines, after, functions, turn, ring, kept_at, turn_lines, schedule}
use Rattle.smv_rings.specs.Schedule.Look.{Ring}
use Rattle.smv_rings.specs.Ops.{IsOneOf}
use Rattle.smv_search.specs.Keeping.{AllHeld, KeepsRefs, IsTally}
use Rattle.smv_rings.specs.declared.ops.Op.{Op}
use Rattle.smv_search.specs.declared.counts.Stop.{Stop}
use Rattle.smv_search.specs.declared.counts.Stop.TheVariants.{TooMany, OutOfMemory}
use Rattle.smv_search.specs.declared.turns.End.TheVariants.{Closed}
use Rattle.law_events.specs.Events.{Budget, Event, count, told, AllUneventful, First}
use Rattle.law_events.specs.Events.Event.{Counted, Reached, Shut, Images}
use Rattle.smv_rings.specs.Ops.{act_of, acts_of, refs_in, refs_in_all, FitsActs}
use Rattle.smv_search.specs.Runs.{Runs, IsEnd, rings_to}
use Rattle.smv_search.proofs.Keep.{map_kept, keeps_then, keeps_some}
use Rattle.smv_rings.proofs.Refs.{one_left, one_right, one_append}
use Rattle.std.proofs.lemmas.List.{append_cancel_left}
use Rattle.smv_rings.proofs.Whole.{map_append}
use Rattle.smv_search.proofs.Loops.{act_kept, pass_append, first_behind}

pub acts_kept : (d e : Diagram) (k : ℕ) (ops : List Op) (refs : List Ref) → KeepsRefs d e refs → ((r : Ref) → IsOneOf r (refs_in_all ops) → IsOneOf r refs) → acts_of e k ops ≡ acts_of d k ops
acts_kept d e k [] refs keeps sub = refl
acts_kept d e k (op ∷ ops) refs keeps sub =
    ap (λ act. act ∷ acts_of e k ops) (act_kept d e k op refs keeps (λ r one. sub r (one_left r (refs_in op) (refs_in_all ops) one)))
    ∙ ap (λ acts. act_of d k op ∷ acts) (acts_kept d e k ops refs keeps (λ r one. sub r (one_right r (refs_in op) (refs_in_all ops) one)))

-- an event of a schedule is one of each longer schedule
pub first_longer : (l : Lists) (b : Budget) (v : Event) (n m : ℕ) → First b (schedule l n) v → First b (schedule l (m + n)) v
unfolding AllUneventful
first_longer l b v n zero first = let e : 0 + n ≡ n = omega arith in subst (λ (i : ℕ). First b (schedule l i) v) (sym e) first
first_longer l b v n (suc m) first =
    let e : suc m + n ≡ suc (m + n) = omega arith in
    subst (λ (i : ℕ). First b (schedule l i) v) (sym e) (first_behind b [] (schedule l (m + n)) (turn_lines l (m + n)) v tt (first_longer l b v n m first))

pub first_images : (l : Lists) (b : Budget) (v : Event) (k n : ℕ) → k < n → First b (schedule l (suc k)) v → First b (schedule l n) v
first_images l b v k n lt first = let e : (n - suc k) + suc k ≡ n = omega arith in subst (λ (i : ℕ). First b (schedule l i) v) e (first_longer l b v (suc k) (n - suc k) first)

module _ (l : Lists) (b : Budget) (k : ℕ) where
  abbrev pub acts_lines : List Line
  acts_lines = lines (kept_at l k) (ring l k) (turn l k)

  abbrev pub closing : Line
  closing = record { kept = kept_at l k; source = after (ring l k) (turn l k) ∷ []; made = ring l (suc k); look = Ring (suc k) (ring l k) }

  pub in_turn : (v : Event) → AllUneventful b (schedule l k) → First b acts_lines v → First b (schedule l (suc k)) v
  in_turn v passed first = first_behind b (schedule l k) acts_lines (closing ∷ []) v passed first

  pub at_close : (v : Event) → AllUneventful b (schedule l k) → AllUneventful b acts_lines → First b (closing ∷ []) v → First b (schedule l (suc k)) v
  at_close v passed pass first =
      subst (λ ls. First b ls v) (append_assoc (schedule l k) acts_lines (closing ∷ [])) (
      first_behind b (schedule l k ++ acts_lines) (closing ∷ []) [] v (pass_append b (schedule l k) acts_lines passed pass) first)

  pub counts_close : (n : ℕ) → (b.nodes < count b.vars closing) × (n ≡ told b.nodes (count b.vars closing)) → First b (closing ∷ []) (Counted n)
  unfolding First AllUneventful
  counts_close n is = ([], closing, [], refl, tt, is)

  pub shuts : count b.vars closing ≤ b.nodes → ring l (suc k) ≡ ring l k → First b (closing ∷ []) (Shut k)
  unfolding First AllUneventful
  shuts le same = ([], closing, [], refl, tt, (le, (same, refl)))

  pub last_image : count b.vars closing ≤ b.nodes → ring l (suc k) ≢ ring l k → suc k ≡ b.images → First b (closing ∷ []) Images
  unfolding First AllUneventful
  last_image le ne is = ([], closing, [], refl, tt, (le, (ne, is)))

  pub passes_on : AllUneventful b (schedule l k) → AllUneventful b acts_lines → count b.vars closing ≤ b.nodes → ring l (suc k) ≢ ring l k → suc k ≢ b.images → AllUneventful b (schedule l (suc k))
  unfolding AllUneventful
  passes_on passed pass le ne more = pass_append b (schedule l k) (turn_lines l k) passed (pass_append b acts_lines (closing ∷ []) pass ((le, (ne, more)), tt))

module _ (l : Lists) (d e : Diagram) (refs now : List Ref) (plan : List Op) (last : Ref) (k nodes images : ℕ)
    (sub : (r : Ref) → IsOneOf r (refs_in_all plan) → IsOneOf r refs) (plan_is : (k : ℕ) → acts_of d (suc k) plan ≡ turn l k) (fits : (k : ℕ) → FitsActs d.vars (ring l k) (acts_of d 0 plan))
    (keeps : KeepsRefs d e refs) (more : (r : Ref) → IsOneOf r refs → IsOneOf r now) (kept : map (table e) now ≡ kept_at l k) (ring_is : table e last ≡ ring l k) (lt : k < images) where
  abbrev pub budget : Budget
  budget = record { vars = d.vars; nodes = nodes; images = images }

  pub plan_now : (r : Ref) → IsOneOf r (refs_in_all plan) → IsOneOf r now
  plan_now r one = more r (sub r one)

  pub fits_now : FitsActs e.vars (table e last) (acts_of e 0 plan)
  fits_now =
      subst (FitsActs e.vars (table e last)) (sym (acts_kept d e 0 plan refs keeps sub)) (
      subst (λ p. FitsActs e.vars p (acts_of d 0 plan)) (sym ring_is) (
      subst (λ n. FitsActs n (ring l k) (acts_of d 0 plan)) (sym keeps.vars) (fits k)))

  module _ (f : Diagram) (now_f : List Ref) (r : Result (Option Ref) Stop) (run_keeps : KeepsRefs e f now) (passed : AllUneventful budget (schedule l k))
      (runs : (k images : ℕ) → Runs f (record { vars = e.vars; nodes = nodes; images = images }) (map (table e) now) (table e last) (acts_of e k plan) k r) where
    pub keeps_f : KeepsRefs d f refs
    keeps_f = keeps_then d e f refs keeps (keeps_some e f now refs more run_keeps)

    pub runs_turn : (s : Result (Option Ref) Stop) → r ≡ s → Runs f budget (kept_at l k) (ring l k) (turn l k) (suc k) s
    runs_turn s is =
        subst (λ t. Runs f budget (kept_at l k) (ring l k) (turn l k) (suc k) t) is (
        subst (λ acts. Runs f budget (kept_at l k) (ring l k) acts (suc k) r) (acts_kept d e (suc k) plan refs keeps sub ∙ plan_is k) (
        subst (λ p. Runs f budget (kept_at l k) p (acts_of e (suc k) plan) (suc k) r) ring_is (
        subst (λ fs. Runs f budget fs (table e last) (acts_of e (suc k) plan) (suc k) r) kept (
        subst (λ n. Runs f (record { vars = n; nodes = nodes; images = images }) (map (table e) now) (table e last) (acts_of e (suc k) plan) (suc k) r) keeps.vars (runs (suc k) images)))))

    pub run_stops : (s : Stop) → r ≡ Err s → IsEnd f l budget (Err s)
    run_stops (TooMany n) is = first_images l budget (Counted n) k images lt (in_turn l budget k (Counted n) passed (runs_turn (Err (TooMany n)) is))
    run_stops OutOfMemory is = tt

    pub run_finds : r ≡ Ok None → First budget (schedule l images) (Reached (suc k))
    run_finds is = first_images l budget (Reached (suc k)) k images lt (in_turn l budget k (Reached (suc k)) passed (runs_turn (Ok None) is))

    module _ (image : Ref) (is : r ≡ Ok (Some image)) (same_f : now_f ≡ now) (last_one : IsOneOf last now) where
      pub image_live : IsLive f image
      image_live = (runs_turn (Ok (Some image)) is).1

      image_is : table f image ≡ after (ring l k) (turn l k)
      image_is = (runs_turn (Ok (Some image)) is).2

      lines_pass : AllUneventful budget (acts_lines l budget k)
      lines_pass = (runs_turn (Ok (Some image)) is).0

      last_is : table f last ≡ ring l k
      last_is = run_keeps.tables last last_one ∙ ring_is

      pub held_f : AllHeld f now_f
      held_f q one = run_keeps.live q (subst (IsOneOf q) same_f one)

      kept_f : map (table f) now_f ≡ kept_at l k
      kept_f = ap (map (table f)) same_f ∙ map_kept e f now run_keeps ∙ kept

      next_is : disj (table f image) (table f last) ≡ ring l (suc k)
      next_is = ap (λ p. disj p (table f last)) image_is ∙ ap (disj (after (ring l k) (turn l k))) last_is

      close_line : (look : Look) → count f.vars (record { kept = map (table f) now_f; source = table f image ∷ []; made = disj (table f image) (table f last); look = look }) ≡ count d.vars (record { kept = kept_at l k; source = after (ring l k) (turn l k) ∷ []; made = ring l (suc k); look = look })
      close_line look =
          ap (λ n. count n (record { kept = map (table f) now_f; source = table f image ∷ []; made = disj (table f image) (table f last); look = look })) (keeps_f.vars)
          ∙ ap (λ fs. count d.vars (record { kept = fs; source = table f image ∷ []; made = disj (table f image) (table f last); look = look })) kept_f
          ∙ ap (λ p. count d.vars (record { kept = kept_at l k; source = p ∷ []; made = disj (table f image) (table f last); look = look })) image_is
          ∙ ap (λ p. count d.vars (record { kept = kept_at l k; source = after (ring l k) (turn l k) ∷ []; made = p; look = look })) next_is

      module _ (g : Diagram) (s : Result Ref Stop) (close_keeps : KeepsRefs f g now_f)
          (tally : (look : Look) → IsTally (count f.vars (record { kept = map (table f) now_f; source = table f image ∷ []; made = disj (table f image) (table f last); look = look })) nodes s) where
        tally_close : (t : Result Ref Stop) → s ≡ t → IsTally (count d.vars (closing l budget k)) nodes t
        tally_close t same = subst (λ u. IsTally (count d.vars (closing l budget k)) nodes u) same (subst (λ n. IsTally n nodes s) (close_line (Ring (suc k) (ring l k))) (tally (Ring (suc k) (ring l k))))

        pub keeps_g : KeepsRefs d g refs
        keeps_g = keeps_then d f g refs keeps_f (keeps_some f g now_f refs (λ q one. subst (IsOneOf q) (sym same_f) (more q one)) close_keeps)

        pub close_stops : (t : Stop) → s ≡ Err t → IsEnd g l budget (Err t)
        close_stops (TooMany n) same = first_images l budget (Counted n) k images lt (at_close l budget k (Counted n) passed lines_pass (counts_close l budget k n (tally_close (Err (TooMany n)) same)))
        close_stops OutOfMemory same = tt

        last_one_f : IsOneOf last now_f
        last_one_f = subst (IsOneOf last) (sym same_f) last_one

        pub last_g : table g last ≡ ring l k
        last_g = close_keeps.tables last last_one_f ∙ last_is

        module _ (next : Ref) (ok : s ≡ Ok next) (live_next : IsLive g next) (table_next : table g next ≡ disj (table f image) (table f last)) where
          pub next_g : table g next ≡ ring l (suc k)
          next_g = table_next ∙ next_is

          pub closes : next ≡ last → IsEnd g l budget (Ok (Closed last))
          closes same = (k, first_images l budget (Shut k) k images lt (at_close l budget k (Shut k) passed lines_pass (shuts l budget k (tally_close (Ok next) ok) (sym next_g ∙ ap (table g) same ∙ last_g))), last_g, close_keeps.live last last_one_f)

          differs : IsCanonical g → (next ≡ last → ⊥) → ring l (suc k) ≢ ring l k
          differs canonical ne same = ne (canonical next last live_next (close_keeps.live last last_one_f) (λ a. ap (λ p. p a) (next_g ∙ same ∙ sym last_g)))

          pub goes_passed : IsCanonical g → (next ≡ last → ⊥) → suc k < images → AllUneventful budget (schedule l (suc k))
          goes_passed canonical ne less = passes_on l budget k passed lines_pass (tally_close (Ok next) ok) (differs canonical ne) (omega arith)

          pub goes_ended : IsCanonical g → (next ≡ last → ⊥) → suc k ≡ images → First budget (schedule l images) Images
          goes_ended canonical ne last_k = first_images l budget Images k images lt (at_close l budget k Images passed lines_pass (last_image l budget k (tally_close (Ok next) ok) (differs canonical ne) last_k))

          -- what is live behind the push
          pub kept_g : map (table g) (now_f ++ (next ∷ [])) ≡ kept_at l (suc k)
          kept_g = map_snoc now_f ∙ ap (λ fs. fs ++ (table g next ∷ [])) (map_kept f g now_f close_keeps ∙ kept_f) ∙ ap (λ p. kept_at l k ++ (p ∷ [])) next_g
            where
              map_snoc : (xs : List Ref) → map (table g) (xs ++ (next ∷ [])) ≡ map (table g) xs ++ (table g next ∷ [])
              map_snoc [] = refl
              map_snoc (x ∷ xs) = ap (λ ys. table g x ∷ ys) (map_snoc xs)

pub up : (P : ℕ → Type 0) (k : ℕ) → P (suc k) → P (k + 1)
up P k is = let e : suc k ≡ k + 1 = omega arith in subst P e is

pub pushed_more : (refs now now_f closed items : List Ref) (next : Ref) → ((r : Ref) → IsOneOf r refs → IsOneOf r now) → now_f ≡ now → closed ≡ now_f → items ≡ closed ++ (next ∷ []) → (r : Ref) → IsOneOf r refs → IsOneOf r items
pushed_more refs now now_f closed items next more same_f same_c is r one = subst (IsOneOf r) (sym (is ∙ ap (λ rs. rs ++ (next ∷ [])) (same_c ∙ same_f))) (one_left r now (next ∷ []) (more r one))

pub pushed_next : (closed items : List Ref) (next : Ref) → items ≡ closed ++ (next ∷ []) → IsOneOf next items
pushed_next closed items next is = subst (IsOneOf next) (sym is) (one_right next closed (next ∷ []) (inl refl))

pub pushed_held : (f g : Diagram) (now_f closed items : List Ref) (next : Ref) → KeepsRefs f g now_f → IsLive g next → closed ≡ now_f → items ≡ closed ++ (next ∷ []) → AllHeld g items
pushed_held f g now_f closed items next keeps live same_c is r one =
    elim (one_append r now_f (next ∷ []) (subst (IsOneOf r) (is ∙ ap (λ rs. rs ++ (next ∷ [])) same_c) one)) [
      | inl old ↦ keeps.live r old
      | inr new ↦ elim new [ inl e ↦ subst (IsLive g) (sym e) live | inr none ↦ absurd none ]
    ]

kept_rings : (l : Lists) (k : ℕ) → kept_at l k ≡ functions l ++ rings_to l (suc k)
kept_rings l zero = refl
kept_rings l (suc k) = ap (λ fs. fs ++ (ring l (suc k) ∷ [])) (kept_rings l k) ∙ append_assoc (functions l) (rings_to l (suc k)) (ring l (suc k) ∷ [])

-- where a path is found, the rings stand behind the functions of the lists
pub end_rings : (l : Lists) (d e f : Diagram) (own refs now now_f rest : List Ref) (first : Ref) (k : ℕ) → refs ≡ own ++ (first ∷ []) → now ≡ refs ++ rest → now_f ≡ now → map (table d) own ≡ functions l
    → KeepsRefs d e refs → KeepsRefs e f now → ((r : Ref) → IsOneOf r refs → IsOneOf r now) → map (table e) now ≡ kept_at l k
    → (rings : List Ref) × (now_f ≡ own ++ rings) × (map (table f) rings ≡ rings_to l (suc k)) × ((r : Ref) → IsOneOf r rings → IsLive f r)
end_rings l d e f own refs now now_f rest first k is front same functions_are keeps run_keeps more kept = (
  first ∷ rest,
  same ∙ now_is,
  append_cancel_left (functions l) (map (table f) (first ∷ rest)) (rings_to l (suc k)) (ap (λ fs. fs ++ map (table f) (first ∷ rest)) (sym own_f) ∙ sym (map_append (table f) own (first ∷ rest)) ∙ sym (ap (map (table f)) now_is) ∙ map_kept e f now run_keeps ∙ kept ∙ kept_rings l k),
  λ r one. run_keeps.live r (subst (IsOneOf r) (sym now_is) (one_right r own (first ∷ rest) one)),
)
  where
    now_is : now ≡ own ++ (first ∷ rest)
    now_is = front ∙ ap (λ rs. rs ++ rest) is ∙ append_assoc own (first ∷ []) rest

    keeps_f : KeepsRefs d f refs
    keeps_f = keeps_then d e f refs keeps (keeps_some e f now refs more run_keeps)

    own_f : map (table f) own ≡ functions l
    own_f = map_kept d f own (keeps_some d f refs own (λ r one. subst (IsOneOf r) (sym is) (one_left r own (first ∷ []) one)) keeps_f) ∙ functions_are
