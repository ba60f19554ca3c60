-- How many functions are live at the lines of a schedule.
use Rattle.std.proofs.Common.{◌≡◌, ◌≢◌, ◌≤◌, ◌<◌, ℕ, zero, suc, ◌+◌, ◌-◌, ◌*◌, ◌^◌, List, [], ◌∷◌, ◌++◌, map, length, sym, subst, ◌∙◌, inl, inr, arith}
use Rattle.bdd_store.specs.Beads.{truth_table}
use Rattle.bdd_ops.specs.Functions.{Function}
use Rattle.std.proofs.lemmas.List.{length-append, length-map}
use Rattle.smv_rings.specs.Lists.{Lists, IsLists}
use Rattle.smv_rings.specs.Schedule.{Act, Line, live, lines, left_by, made_by, after, functions, one_by_one, first_lines, first_all, turn, ring, kept_at, turn_lines, schedule}
use Rattle.smv_rings.specs.Schedule.Act.{Join, Look_at}
use Rattle.smv_rings.proofs.Early.{equal_or_not}
use Rattle.smv_rings.proofs.Few.{images_few}
use Rattle.law_events.specs.Events.{Budget, count, AllUneventful, First}
use Rattle.law_events.specs.Events.Event.{Counted}
use Rattle.law_events.proofs.Meaning.{first_split, pass_split}
use Rattle.law_verdicts.proofs.FewBeads.{few_beads, more_times}

-- at each of these lines at most so many functions are live
abbrev pub AreFew : ℕ → List Line → Type 0
AreFew most [] = Unit {0}
AreFew most (line ∷ ls) = (length (live line) ≤ most) × AreFew most ls

few_append : (most : ℕ) (xs ys : List Line) → AreFew most xs → AreFew most ys → AreFew most (xs ++ ys)
few_append most [] ys few more = more
few_append most (x ∷ xs) ys few more = (few.0, few_append most xs ys few.1 more)

-- two functions more than are kept
two_more : (kept : List Function) (p q : Function) (most : ℕ) → length kept + 2 ≤ most → length (kept ++ (p ∷ (q ∷ []))) ≤ most
two_more kept p q most h = omega (arith, length-append kept (p ∷ (q ∷ [])))

one_more : (kept : List Function) (p : Function) (most : ℕ) → length kept + 1 ≤ most → length (kept ++ (p ∷ [])) ≤ most
one_more kept p most h = omega (arith, length-append kept (p ∷ []))

few_lines : (most : ℕ) (kept : List Function) (p : Function) (acts : List Act) → length kept + 2 ≤ most → AreFew most (lines kept p acts)
few_lines most kept p [] h = tt
few_lines most kept p (act ∷ acts) h = (two_more kept p (made_by act p) most h, few_lines most kept (left_by act p) acts h)

few_ones : (most : ℕ) (kept fs : List Function) → length kept + length fs ≤ most → AreFew most (one_by_one kept fs)
few_ones most kept [] h = tt
few_ones most kept (f ∷ fs) h = (one_more kept f most (omega arith), few_ones most (kept ++ (f ∷ [])) fs (omega (arith, length-append kept (f ∷ []))))

few_firsts : (most : ℕ) (kept fs : List Function) → length kept + 2 ≤ most → AreFew most (first_lines kept fs)
few_firsts most kept [] h = tt
few_firsts most kept (f ∷ fs) h = (one_more kept f most (omega arith), few_lines most kept f (map Join fs) h)

module _ (l : Lists) where
  kept_long : (k : ℕ) → length (kept_at l k) ≡ length (functions l) + suc k
  kept_long zero = length-append (functions l) (ring l zero ∷ [])
  kept_long (suc k) = length-append (kept_at l k) (ring l (suc k) ∷ []) ∙ more (length (kept_at l k)) (length (functions l)) (kept_long k)
    where
      more : (a b : ℕ) → a ≡ b + suc k → a + 1 ≡ b + suc (suc k)
      more a b e = omega arith

  few_at_start : (most : ℕ) → length (functions l) + 2 ≤ most → AreFew most (schedule l 0)
  few_at_start most h =
      few_append most (one_by_one [] (functions l)) (first_lines (functions l) l.now_first ++ lines (functions l) (first_all l.now_first) (Look_at 0 l.broken_first ∷ map Join l.before_first))
      (few_ones most [] (functions l) (omega arith))
      (few_append most (first_lines (functions l) l.now_first) (lines (functions l) (first_all l.now_first) (Look_at 0 l.broken_first ∷ map Join l.before_first))
      (few_firsts most (functions l) l.now_first h)
      (few_lines most (functions l) (first_all l.now_first) (Look_at 0 l.broken_first ∷ map Join l.before_first) h))

  few_in_turn : (k most : ℕ) → length (functions l) + suc k + 2 ≤ most → AreFew most (turn_lines l k)
  few_in_turn k most h =
      let room : length (kept_at l k) + 2 ≤ most = omega (arith, kept_long k) in
      few_append most (lines (kept_at l k) (ring l k) (turn l k)) _ (few_lines most (kept_at l k) (ring l k) (turn l k) room)
      (two_more (kept_at l k) (after (ring l k) (turn l k)) (ring l (suc k)) most room, tt)

  module _ (ok : IsLists l) (b : Budget) where
    -- more beads than the budget at one of these lines
    many_at : (most : ℕ) (ls : List Line) → AreFew most ls → (c : ℕ) → First b ls (Counted c) → b.nodes < most * (2 ^ b.vars - 1)
    unfolding count First
    many_at most ls few c f = in_list f.0 f.1 f.2 (subst (AreFew most) f.3 few) f.5.0
      where
        at_line : (line : Line) → length (live line) ≤ most → b.nodes < count b.vars line → b.nodes < most * (2 ^ b.vars - 1)
        at_line line h lt = omega (arith, few_beads b.vars (map (truth_table b.vars 0) (live line)), more_times (length (map (truth_table b.vars 0) (live line))) most (2 ^ b.vars - 1) (omega (arith, length-map (live line) (truth_table b.vars 0))))

        in_list : (before : List Line) (line : Line) (behind : List Line) → AreFew most (before ++ (line ∷ behind)) → b.nodes < count b.vars line → b.nodes < most * (2 ^ b.vars - 1)
        in_list [] line behind few lt = at_line line few.0 lt
        in_list (x ∷ before) line behind few lt = in_list before line behind few.1 lt

    -- where nothing happens up to an image, no ring before it equals the next one
    all_grow : (n k : ℕ) → k < n → AllUneventful b (schedule l n) → ring l (suc k) ≢ ring l k
    unfolding AllUneventful
    all_grow zero k lt pass = absurd (omega arith)
    all_grow (suc n) k lt pass =
        let all = pass_split b (schedule l n) (turn_lines l n) pass in
        elim (equal_or_not k n) [
          | inl e ↦ subst (λ (m : ℕ). ring l (suc m) ≢ ring l m) (sym e) (pass_split b (lines (kept_at l n) (ring l n) (turn l n)) _ all.1).1.0.1.0
          | inr ne ↦ all_grow n k (omega arith) all.0
        ]

    abbrev most_live : ℕ
    most_live = length (functions l) + 2 ^ l.bits + 2

    pub counted_many : (n c : ℕ) → First b (schedule l n) (Counted c) → b.nodes < most_live * (2 ^ b.vars - 1)
    counted_many zero c f = many_at most_live (schedule l 0) (few_at_start most_live (omega arith)) c f
    counted_many (suc n) c f = elim (first_split b (schedule l n) (turn_lines l n) (Counted c) f) [
      | inl early ↦ counted_many n c early
      | inr late ↦ many_at most_live (turn_lines l n) (few_in_turn n most_live (omega (arith, images_few l ok n (λ k lt. all_grow n k lt late.0)))) c late.1
    ]
