-- What a verdict says of paths.
use Rattle.std.proofs.Common.{◌≡◌, ◌≢◌, ◌&&◌, ℕ, zero, suc, ◌^◌, ◌<◌, ◌≤◌, ◌⊎◌, inl, inr, List, [], ◌∷◌, ◌++◌, map, refl, sym, ap, subst, arith, append_assoc}
use Rattle.std.specs.List.{filter}
use Rattle.bdd_ops.specs.Functions.{Function, depends}
use Rattle.smv_rings.specs.Functions.{never}
use Rattle.smv_rings.specs.Lists.{Lists, State, IsLists}
use Rattle.smv_rings.specs.Paths.{Violates, IsInductive}
use Rattle.smv_rings.specs.Schedule.{vars, reads_none, evens, Act, Line, lines, after, left_by, made_by, look_of, outs, joins, unread, forth, back, turn, ring, kept_at, turn_lines, schedule, looked, functions, first_lines, first_all, one_by_one}
use Rattle.smv_rings.specs.Schedule.Look.{Pass, Broken, Ring}
use Rattle.smv_rings.specs.Schedule.Act.{Join, Out, Look_at, Lower}
use Rattle.smv_rings.proofs.Rings.{looked_to, looked_from, closed_inductive, inductive_safe}
use Rattle.smv_rings.proofs.Early.{equal_or_not}
use Rattle.smv_rings.proofs.Few.{images_few}
use Rattle.law_events.specs.Events.{Budget, Event, count, IsUneventful, Settles, Decides, AllUneventful, First}
use Rattle.law_events.specs.Events.Event.{Reached, Shut, Images}

-- lines at which nothing is looked at
abbrev pub Quiet : List Line → Type 0
Quiet [] = Unit {0}
Quiet (line ∷ ls) = (line.look ≡ Pass) × Quiet ls

abbrev pub NoLook : List Act → Type 0
NoLook [] = Unit {0}
NoLook (Join f ∷ acts) = NoLook acts
NoLook (Out v ∷ acts) = NoLook acts
NoLook (Look_at k f ∷ acts) = ⊥
NoLook (Lower ∷ acts) = NoLook acts

quiet_lines : (kept : List Function) (p : Function) (acts : List Act) → NoLook acts → Quiet (lines kept p acts)
quiet_lines kept p [] none = tt
quiet_lines kept p (Join f ∷ acts) none = (refl, quiet_lines kept (left_by (Join f) p) acts none)
quiet_lines kept p (Out v ∷ acts) none = (refl, quiet_lines kept (left_by (Out v) p) acts none)
quiet_lines kept p (Look_at k f ∷ acts) none = absurd none
quiet_lines kept p (Lower ∷ acts) none = (refl, quiet_lines kept (left_by Lower p) acts none)

no_look_append : (xs ys : List Act) → NoLook xs → NoLook ys → NoLook (xs ++ ys)
no_look_append [] ys none more = more
no_look_append (Join f ∷ xs) ys none more = no_look_append xs ys none more
no_look_append (Out v ∷ xs) ys none more = no_look_append xs ys none more
no_look_append (Look_at k f ∷ xs) ys none more = absurd none
no_look_append (Lower ∷ xs) ys none more = no_look_append xs ys none more

no_look_outs : (vs : List ℕ) → NoLook (map Out vs)
no_look_outs [] = tt
no_look_outs (v ∷ vs) = no_look_outs vs

no_look_of : (l : Lists) (f : Function) (later : List Function) → NoLook (outs l f later)
no_look_of l f later = no_look_outs (filter (λ v. depends (vars l) f v && reads_none (vars l) later v) (evens l.bits))

no_look_joins : (l : Lists) (fs later : List Function) → NoLook (joins l fs later)
no_look_joins l [] later = tt
no_look_joins l (f ∷ fs) later = no_look_append (outs l f (fs ++ later)) (joins l fs later) (no_look_of l f (fs ++ later)) (no_look_joins l fs later)

no_look_map : (fs : List Function) → NoLook (map Join fs)
no_look_map [] = tt
no_look_map (f ∷ fs) = no_look_map fs

pub lines_append : (kept : List Function) (p : Function) (xs ys : List Act) → lines kept p (xs ++ ys) ≡ lines kept p xs ++ lines kept (after p xs) ys
lines_append kept p [] ys = refl
lines_append kept p (x ∷ xs) ys = ap (λ ls. record { kept = kept; source = p ∷ []; made = made_by x p; look = look_of x } ∷ ls) (lines_append kept (left_by x p) xs ys)

quiet_append : (xs ys : List Line) → Quiet xs → Quiet ys → Quiet (xs ++ ys)
quiet_append [] ys p q = q
quiet_append (x ∷ xs) ys p q = (p.0, quiet_append xs ys p.1 q)

cons_head : (x y : Line) (xs ys : List Line) → x ∷ xs ≡ y ∷ ys → x ≡ y
cons_head x y xs ys e = cc

cons_tail : (x y : Line) (xs ys : List Line) → x ∷ xs ≡ y ∷ ys → xs ≡ ys
cons_tail x y xs ys e = cc

nil_cons : (before behind : List Line) (line : Line) → [] ≡ before ++ (line ∷ behind) → ⊥
nil_cons [] behind line e = cc
nil_cons (x ∷ before) behind line e = cc

-- the first event of two lists is in the first, or the first passes
pub first_split : (b : Budget) (xs ys : List Line) (v : Event) → First b (xs ++ ys) v → First b xs v ⊎ (AllUneventful b xs × First b ys v)
unfolding First AllUneventful
first_split b [] ys v first = inr (tt, first)
first_split b (x ∷ xs) ys v ([], line, behind, is, passed, decides) = inl ([], x, xs, refl, tt, subst (λ z. Decides b z v) (sym (cons_head x line (xs ++ ys) behind is)) decides)
first_split b (x ∷ xs) ys v (z ∷ before, line, behind, is, passed, decides) =
    let x_passes : IsUneventful b x = subst (IsUneventful b) (sym (cons_head x z (xs ++ ys) (before ++ (line ∷ behind)) is)) passed.0 in
    elim (first_split b xs ys v (before, line, behind, cons_tail x z (xs ++ ys) (before ++ (line ∷ behind)) is, passed.1, decides)) [
      | inl f ↦ inl (x ∷ f.0, f.1, f.2, ap (λ ls. x ∷ ls) f.3, (x_passes, f.4), f.5)
      | inr f ↦ inr ((x_passes, f.0), f.1)
    ]

pub pass_split : (b : Budget) (xs ys : List Line) → AllUneventful b (xs ++ ys) → AllUneventful b xs × AllUneventful b ys
unfolding AllUneventful
pass_split b [] ys p = (tt, p)
pass_split b (x ∷ xs) ys p = let more = pass_split b xs ys p.1 in ((p.0, more.0), more.1)

first_one : (b : Budget) (line : Line) (v : Event) → First b (line ∷ []) v → Decides b line v
unfolding First
first_one b line v ([], x, behind, is, passed, decides) = subst (λ z. Decides b z v) (sym (cons_head line x [] behind is)) decides
first_one b line v (z ∷ before, x, behind, is, passed, decides) = absurd (nil_cons before behind x (cons_tail line z [] (before ++ (x ∷ behind)) is))

first_none : (b : Budget) (v : Event) → First b [] v → ⊥
unfolding First
first_none b v (before, line, behind, is, passed, decides) = nil_cons before behind line is

-- among lines at which nothing is looked at nothing but the budget of nodes decides
quiet_first : (b : Budget) (ls : List Line) (k : ℕ) → Quiet ls → First b ls (Reached k) → ⊥
quiet_first b [] k quiet first = first_none b (Reached k) first
quiet_first b (line ∷ ls) k quiet first = elim (first_split b (line ∷ []) ls (Reached k) first) [
  | inl here ↦ quiet_here line quiet.0 (first_one b line (Reached k) here)
  | inr later ↦ quiet_first b ls k quiet.1 later.1
]
  where
    quiet_here : (x : Line) → x.look ≡ Pass → Decides b x (Reached k) → ⊥
    quiet_here x e decides = subst (λ look. Settles b.images x.made look (Reached k)) e decides.1

module _ (l : Lists) (b : Budget) where
  look_line : ℕ → Line
  look_line k = record { kept = kept_at l k; source = after (ring l k) (forth l) ∷ []; made = looked l (suc k); look = Broken (suc k) }

  quiet_forth : (k : ℕ) → Quiet (lines (kept_at l k) (ring l k) (forth l))
  quiet_forth k = quiet_lines (kept_at l k) (ring l k) (forth l) (no_look_append (unread l) (joins l l.now_step (l.broken_step ∷ l.before_step)) (no_look_outs (filter (reads_none (vars l) (l.now_step ++ (l.broken_step ∷ l.before_step))) (evens l.bits))) (no_look_joins l l.now_step (l.broken_step ∷ l.before_step)))

  quiet_back : (k : ℕ) (p : Function) → Quiet (lines (kept_at l k) p (back l))
  quiet_back k p = quiet_lines (kept_at l k) p (back l) (no_look_append (outs l l.broken_step l.before_step) (joins l l.before_step [] ++ (Lower ∷ [])) (no_look_of l l.broken_step l.before_step) (no_look_append (joins l l.before_step []) (Lower ∷ []) (no_look_joins l l.before_step []) tt))

  turn_split : (k : ℕ) → lines (kept_at l k) (ring l k) (turn l k) ≡ lines (kept_at l k) (ring l k) (forth l) ++ ((look_line k ∷ []) ++ lines (kept_at l k) (after (ring l k) (forth l)) (back l))
  unfolding look_line
  turn_split k = lines_append (kept_at l k) (ring l k) (forth l) (Look_at (suc k) l.broken_step ∷ back l)

  -- lines that pass found nothing
  passed_turn : (k : ℕ) → AllUneventful b (lines (kept_at l k) (ring l k) (turn l k)) → looked l (suc k) ≡ never
  unfolding AllUneventful look_line
  passed_turn k pass =
      let all = pass_split b (lines (kept_at l k) (ring l k) (forth l)) _ (subst (AllUneventful b) (turn_split k) pass) in
      all.1.0.1

  pub passed_schedule : (k j : ℕ) → j < k → AllUneventful b (schedule l k) → looked l (suc j) ≡ never
  passed_schedule zero j lt pass = absurd (omega arith)
  passed_schedule (suc k) j lt pass =
      let all = pass_split b (schedule l k) (turn_lines l k) pass in
      elim (equal_or_not j k) [
        | inl e ↦ subst (λ (i : ℕ). looked l (suc i) ≡ never) (sym e) (passed_turn k (pass_split b (lines (kept_at l k) (ring l k) (turn l k)) _ all.1).0)
        | inr ne ↦ passed_schedule k j (omega arith) all.0
      ]

  -- an event of a turn that finds a path is its look
  found_turn : (k j : ℕ) → First b (lines (kept_at l k) (ring l k) (turn l k)) (Reached j) → (j ≡ suc k) × (looked l (suc k) ≢ never)
  unfolding look_line
  found_turn k j first = elim (first_split b (lines (kept_at l k) (ring l k) (forth l)) ((look_line k ∷ []) ++ lines (kept_at l k) (after (ring l k) (forth l)) (back l)) (Reached j) (subst (λ ls. First b ls (Reached j)) (turn_split k) first)) [
    | inl early ↦ absurd (quiet_first b (lines (kept_at l k) (ring l k) (forth l)) j (quiet_forth k) early)
    | inr late ↦ elim (first_split b (look_line k ∷ []) (lines (kept_at l k) (after (ring l k) (forth l)) (back l)) (Reached j) late.1) [
      | inl here ↦ let decides = first_one b (look_line k) (Reached j) here in (decides.1.1, decides.1.0)
      | inr behind ↦ absurd (quiet_first b (lines (kept_at l k) (after (ring l k) (forth l)) (back l)) j (quiet_back k (after (ring l k) (forth l))) behind.1)
    ]
  ]

  -- the lines before the turns
  quiet_ones : (kept fs : List Function) → Quiet (one_by_one kept fs)
  quiet_ones kept [] = tt
  quiet_ones kept (f ∷ fs) = (refl, quiet_ones (kept ++ (f ∷ [])) fs)

  quiet_firsts : (kept fs : List Function) → Quiet (first_lines kept fs)
  quiet_firsts kept [] = tt
  quiet_firsts kept (f ∷ fs) = (refl, quiet_lines kept f (map Join fs) (no_look_map fs))

  ahead : List Line
  ahead = one_by_one [] (functions l) ++ first_lines (functions l) l.now_first

  first_look : Line
  first_look = record { kept = functions l; source = first_all l.now_first ∷ []; made = looked l 0; look = Broken 0 }

  start_split : schedule l 0 ≡ ahead ++ ((first_look ∷ []) ++ lines (functions l) (first_all l.now_first) (map Join l.before_first))
  unfolding ahead first_look
  start_split = sym (append_assoc (one_by_one [] (functions l)) (first_lines (functions l) l.now_first) (lines (functions l) (first_all l.now_first) (Look_at 0 l.broken_first ∷ map Join l.before_first)))

  quiet_ahead : Quiet ahead
  unfolding ahead
  quiet_ahead = quiet_append (one_by_one [] (functions l)) (first_lines (functions l) l.now_first) (quiet_ones [] (functions l)) (quiet_firsts (functions l) l.now_first)

  passed_start : AllUneventful b (schedule l 0) → looked l 0 ≡ never
  unfolding AllUneventful first_look
  passed_start pass = let all = pass_split b ahead _ (subst (AllUneventful b) start_split pass) in all.1.0.1

  found_start : (j : ℕ) → First b (schedule l 0) (Reached j) → (j ≡ 0) × (looked l 0 ≢ never)
  unfolding first_look
  found_start j first = elim (first_split b ahead ((first_look ∷ []) ++ lines (functions l) (first_all l.now_first) (map Join l.before_first)) (Reached j) (subst (λ ls. First b ls (Reached j)) start_split first)) [
    | inl early ↦ absurd (quiet_first b ahead j quiet_ahead early)
    | inr late ↦ elim (first_split b (first_look ∷ []) (lines (functions l) (first_all l.now_first) (map Join l.before_first)) (Reached j) late.1) [
      | inl here ↦ let decides = first_one b first_look (Reached j) here in (decides.1.1, decides.1.0)
      | inr behind ↦ absurd (quiet_first b (lines (functions l) (first_all l.now_first) (map Join l.before_first)) j (quiet_lines (functions l) (first_all l.now_first) (map Join l.before_first) (no_look_map l.before_first)) behind.1)
    ]
  ]

  start_passed : (k : ℕ) → AllUneventful b (schedule l k) → AllUneventful b (schedule l 0)
  start_passed zero pass = pass
  start_passed (suc k) pass = start_passed k (pass_split b (schedule l k) (turn_lines l k) pass).0

  all_passed : (k j : ℕ) → j ≤ k → AllUneventful b (schedule l k) → looked l j ≡ never
  all_passed k zero le pass = passed_start (start_passed k pass)
  all_passed k (suc j) le pass = passed_schedule k j (omega arith) pass

  -- where a path is found, what was looked at there is not false, and was false before
  pub found : (n j : ℕ) → First b (schedule l n) (Reached j) → (looked l j ≢ never) × ((i : ℕ) → i < j → looked l i ≡ never)
  found zero j first =
      let at_start = found_start j first in
      (subst (λ (i : ℕ). looked l i ≢ never) (sym at_start.0) at_start.1, λ i lt. absurd (omega arith))
  found (suc n) j first = elim (first_split b (schedule l n) (turn_lines l n) (Reached j) first) [
    | inl early ↦ found n j early
    | inr late ↦ elim (first_split b (lines (kept_at l n) (ring l n) (turn l n)) (record { kept = kept_at l n; source = after (ring l n) (turn l n) ∷ []; made = ring l (suc n); look = Ring (suc n) (ring l n) } ∷ []) (Reached j) late.1) [
      | inl here ↦
          let is = found_turn n j here in
          (subst (λ (i : ℕ). looked l i ≢ never) (sym is.0) is.1, λ i lt. all_passed n i (omega (arith, is.0)) late.0)
      | inr close ↦ absurd (first_one b (record { kept = kept_at l n; source = after (ring l n) (turn l n) ∷ []; made = ring l (suc n); look = Ring (suc n) (ring l n) }) (Reached j) close.1).1
    ]
  ]

  -- a false case has a violating path of that length, and none shorter
  pub false_means : IsLists l → (n j : ℕ) → First b (schedule l n) (Reached j) → ((s : State) × Violates l j s) × ((i : ℕ) → i < j → (s : State) → Violates l i s → ⊥)
  false_means ok n j first =
      let is = found n j first in
      let shorter : (i : ℕ) → i < j → (s : State) → Violates l i s → ⊥ = λ i lt. looked_from l ok i (is.1 i lt) in
      let some = looked_to l ok j is.0 in
      elim (equal_or_not some.0 j) [
        | inl e ↦ (subst (λ (i : ℕ). (s : State) × Violates l i s) e some.2, shorter)
        | inr ne ↦ absurd (shorter some.0 (omega (arith, some.1)) some.2.0 some.2.1)
      ]

  no_shut : (kept : List Function) (p : Function) (acts : List Act) (k : ℕ) → First b (lines kept p acts) (Shut k) → ⊥
  no_shut kept p [] k first = first_none b (Shut k) first
  no_shut kept p (act ∷ acts) k first = elim (first_split b (lines kept p (act ∷ [])) (lines kept (left_by act p) acts) (Shut k) first) [
    | inl here ↦ by_act act (first_one b (record { kept = kept; source = p ∷ []; made = made_by act p; look = look_of act }) (Shut k) here).1
    | inr later ↦ no_shut kept (left_by act p) acts k later.1
  ]
    where
      by_act : (a : Act) → Settles b.images (made_by act p) (look_of a) (Shut k) → ⊥
      by_act (Join f) is = is
      by_act (Out v) is = is
      by_act (Look_at j f) is = is
      by_act Lower is = is

  none_ahead_shut : (ls : List Line) (k : ℕ) → Quiet ls → First b ls (Shut k) → ⊥
  none_ahead_shut [] k quiet first = first_none b (Shut k) first
  none_ahead_shut (line ∷ ls) k quiet first = elim (first_split b (line ∷ []) ls (Shut k) first) [
    | inl here ↦ subst (λ look. Settles b.images line.made look (Shut k)) quiet.0 (first_one b line (Shut k) here).1
    | inr later ↦ none_ahead_shut ls k quiet.1 later.1
  ]

  no_start_shut : (k : ℕ) → First b (schedule l 0) (Shut k) → ⊥
  unfolding first_look
  no_start_shut k first = elim (first_split b ahead ((first_look ∷ []) ++ lines (functions l) (first_all l.now_first) (map Join l.before_first)) (Shut k) (subst (λ ls. First b ls (Shut k)) start_split first)) [
    | inl early ↦ none_ahead_shut ahead k quiet_ahead early
    | inr late ↦ elim (first_split b (first_look ∷ []) (lines (functions l) (first_all l.now_first) (map Join l.before_first)) (Shut k) late.1) [
      | inl here ↦ (first_one b first_look (Shut k) here).1
      | inr behind ↦ no_shut (functions l) (first_all l.now_first) (map Join l.before_first) k behind.1
    ]
  ]

  no_images : (kept : List Function) (p : Function) (acts : List Act) → First b (lines kept p acts) Images → ⊥
  no_images kept p [] first = first_none b Images first
  no_images kept p (act ∷ acts) first = elim (first_split b (lines kept p (act ∷ [])) (lines kept (left_by act p) acts) Images first) [
    | inl here ↦ by_act act (first_one b (record { kept = kept; source = p ∷ []; made = made_by act p; look = look_of act }) Images here).1
    | inr later ↦ no_images kept (left_by act p) acts later.1
  ]
    where
      by_act : (a : Act) → Settles b.images (made_by act p) (look_of a) Images → ⊥
      by_act (Join f) is = is
      by_act (Out v) is = is
      by_act (Look_at j f) is = is
      by_act Lower is = is

  none_ahead_images : (ls : List Line) → Quiet ls → First b ls Images → ⊥
  none_ahead_images [] quiet first = first_none b Images first
  none_ahead_images (line ∷ ls) quiet first = elim (first_split b (line ∷ []) ls Images first) [
    | inl here ↦ subst (λ look. Settles b.images line.made look Images) quiet.0 (first_one b line Images here).1
    | inr later ↦ none_ahead_images ls quiet.1 later.1
  ]

  no_start_images : First b (schedule l 0) Images → ⊥
  unfolding first_look
  no_start_images first = elim (first_split b ahead ((first_look ∷ []) ++ lines (functions l) (first_all l.now_first) (map Join l.before_first)) Images (subst (λ ls. First b ls Images) start_split first)) [
    | inl early ↦ none_ahead_images ahead quiet_ahead early
    | inr late ↦ elim (first_split b (first_look ∷ []) (lines (functions l) (first_all l.now_first) (map Join l.before_first)) Images late.1) [
      | inl here ↦ (first_one b first_look Images here).1
      | inr behind ↦ no_images (functions l) (first_all l.now_first) (map Join l.before_first) behind.1
    ]
  ]

  -- a true case ends at an equal ring, and nothing that was looked at was other than false
  shut_at : (n k : ℕ) → First b (schedule l n) (Shut k) → (ring l (suc k) ≡ ring l k) × ((i : ℕ) → i ≤ suc k → looked l i ≡ never) × (count b.vars (record { kept = kept_at l k; source = after (ring l k) (turn l k) ∷ []; made = ring l (suc k); look = Ring (suc k) (ring l k) }) ≤ b.nodes)
  shut_at zero k first = absurd (no_start_shut k first)
  shut_at (suc n) k first = elim (first_split b (schedule l n) (turn_lines l n) (Shut k) first) [
    | inl early ↦ shut_at n k early
    | inr late ↦ elim (first_split b (lines (kept_at l n) (ring l n) (turn l n)) (record { kept = kept_at l n; source = after (ring l n) (turn l n) ∷ []; made = ring l (suc n); look = Ring (suc n) (ring l n) } ∷ []) (Shut k) late.1) [
      | inl here ↦ absurd (no_shut (kept_at l n) (ring l n) (turn l n) k here)
      | inr close ↦
          let decides = first_one b (record { kept = kept_at l n; source = after (ring l n) (turn l n) ∷ []; made = ring l (suc n); look = Ring (suc n) (ring l n) }) (Shut k) close.1 in
          let is : n ≡ k = omega (arith, decides.1.1) in
          subst (λ (m : ℕ). (ring l (suc m) ≡ ring l m) × ((i : ℕ) → i ≤ suc m → looked l i ≡ never) × (count b.vars (record { kept = kept_at l m; source = after (ring l m) (turn l m) ∷ []; made = ring l (suc m); look = Ring (suc m) (ring l m) }) ≤ b.nodes)) is
          (decides.1.0, (λ i le. elim (equal_or_not i (suc n)) [ inl e ↦ subst (λ (m : ℕ). looked l m ≡ never) (sym e) (passed_turn n close.0) | inr ne ↦ all_passed n i (omega arith) late.0 ]), decides.0)
    ]
  ]

  pub shut_within : (n k : ℕ) → First b (schedule l n) (Shut k) → count b.vars (record { kept = kept_at l k; source = after (ring l k) (turn l k) ∷ []; made = ring l (suc k); look = Ring (suc k) (ring l k) }) ≤ b.nodes
  shut_within n k first = (shut_at n k first).2

  pub true_means : IsLists l → (n k : ℕ) → First b (schedule l n) (Shut k) → IsInductive l (ring l k) × ((i : ℕ) (s : State) → Violates l i s → ⊥)
  true_means ok n k first =
      let is = shut_at n k first in
      let inductive = closed_inductive l ok k is.0 (is.1 0 (omega arith)) (is.1 (suc k) (omega arith)) in
      (inductive, inductive_safe l (ring l k) inductive)

  passed_grows : (n k : ℕ) → k < n → AllUneventful b (schedule l n) → ring l (suc k) ≢ ring l k
  unfolding AllUneventful
  passed_grows zero k lt pass = absurd (omega arith)
  passed_grows (suc n) k lt pass =
      let all = pass_split b (schedule l n) (turn_lines l n) pass in
      elim (equal_or_not k n) [
        | inl e ↦ subst (λ (m : ℕ). ring l (suc m) ≢ ring l m) (sym e) (pass_split b (lines (kept_at l n) (ring l n) (turn l n)) _ all.1).1.0.1.0
        | inr ne ↦ passed_grows n k (omega arith) all.0
      ]

  grown_at : (n : ℕ) → First b (schedule l n) Images → (k : ℕ) → k < b.images → ring l (suc k) ≢ ring l k
  grown_at zero first k lt = absurd (no_start_images first)
  grown_at (suc n) first k lt = elim (first_split b (schedule l n) (turn_lines l n) Images first) [
    | inl early ↦ grown_at n early k lt
    | inr late ↦ elim (first_split b (lines (kept_at l n) (ring l n) (turn l n)) (record { kept = kept_at l n; source = after (ring l n) (turn l n) ∷ []; made = ring l (suc n); look = Ring (suc n) (ring l n) } ∷ []) Images late.1) [
      | inl here ↦ absurd (no_images (kept_at l n) (ring l n) (turn l n) here)
      | inr close ↦
          let decides = first_one b (record { kept = kept_at l n; source = after (ring l n) (turn l n) ∷ []; made = ring l (suc n); look = Ring (suc n) (ring l n) }) Images close.1 in
          elim (equal_or_not k n) [
            | inl e ↦ subst (λ (m : ℕ). ring l (suc m) ≢ ring l m) (sym e) decides.1.0
            | inr ne ↦ passed_grows n k (omega (arith, decides.1.1)) late.0
          ]
    ]
  ]

  -- unknown steps comes under fewer images than there are states
  pub images_mean : IsLists l → (n : ℕ) → First b (schedule l n) Images → b.images < 2 ^ l.bits
  images_mean ok n first = images_few l ok b.images (grown_at n first)
