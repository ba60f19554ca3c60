-- A walk back through the rings.
use Rattle.std.proofs.Common.{◌≡◌, ℕ, suc, ◌+◌, ◌*◌, ◌<◌, ◌≤◌, Bool, true, ◌&&◌, List, [], ◌∷◌, ◌++◌, map, length, reverse, refl, sym, ◌∙◌, ap, subst, arith, inl, inr}
use Rattle.std.specs.List.{All}
use Rattle.std.specs.Global.{Vec}
use Rattle.std.proofs.lemmas.Bool.{cases_lt}
use Rattle.std.proofs.lemmas.List.{reverse-append, length-reverse, length-append}
use Rattle.std.proofs.lemmas.List.Elements.{All-nil, All-head, All-tail, All-push}
use Rattle.bdd_store.specs.declared.Ref.{Ref}
use Rattle.bdd_store.specs.Diagram.{Diagram, IsLive, AreLive, table, Keeps}
use Rattle.bdd_store.proofs.Keeping.{keeps_self, keeps_then, table_kept, live_kept}
use Rattle.bdd_ops.specs.Functions.{Function, bit_at}
use Rattle.smv_rings.specs.declared.Rel.{Rel}
use Rattle.smv_rings.specs.Lists.{Lists, State, both, at, all_of, IsCurrent, IsLists, IsRel, lists_of, refs_of}
use Rattle.smv_rings.specs.Paths.{Starts, Steps, Ends, InRing, Violates, IsViolating}
use Rattle.smv_rings.specs.Schedule.{ring}
use Rattle.smv_rings.specs.Ops.{IsOneOf}
use Rattle.smv_rings.proofs.Early.{and_true}
use Rattle.smv_rings.proofs.Image.{all_append, append_all}
use Rattle.smv_rings.proofs.PathLaws.{violating_of}
use Rattle.smv_rings.proofs.Refs.{one_append, each_live, live_each, in_now_step, in_before_step, in_broken_step}
use Rattle.smv_rings.proofs.Rels.{lists_ok}
use Rattle.smv_rings.proofs.Rings.{ring_facts, ring_to, ring_from}
use Rattle.smv_rings.proofs.Whole.{map_append}
use Rattle.smv_ring_paths.specs.Steps.{IsStep, GoesOn}
use Rattle.smv_ring_paths.specs.BitPaths.{state_of, states_of, by_time, HasBits, IsBitPath}
use Rattle.smv_ring_paths.proofs.Backward.{step_later, step_before}
use Rattle.smv_ring_paths.proofs.Ends.{violates_on, violating_list, violating_one}

-- ---- what is left of paths that are not least

none_violates : (l : Lists) (k : ℕ) → ((j : ℕ) → j < k → (path : ℕ → State) → IsViolating l j path → ⊥) → (j : ℕ) → j < k → (s : State) → Violates l j s → ⊥
none_violates l k none j lt s violates = let found = violating_of l j s violates in none j lt found.0 found.1

pub shorter_none : (l : Lists) (k : ℕ) → ((j : ℕ) → j < k → (path : ℕ → State) → IsViolating l j path → ⊥) → (n : ℕ) → n ≤ k → (j : ℕ) → j < n → (s : State) → Violates l j s → ⊥
shorter_none l k none n le j lt s violates = none_violates l k none j (omega arith) s violates

-- a state of a ring from which a path goes on to the end of a least one ends a path of as many steps as the ring has
pub ends_at : (l : Lists) → IsLists l → (b n : ℕ) (r : State) (states : List State) → ring l b (at r) ≡ true → GoesOn l r states → b + length states ≡ n → ((j : ℕ) → j < n → (s : State) → Violates l j s → ⊥) → Ends l b r
unfolding InRing
ends_at l ok b n r states in_ring goes e none =
    let found = ring_to l ok b r in_ring in
    elim (cases_lt found.0 b) [
      | inl lt ↦ let longer = violates_on l r states found.0 (found.0 + length states) goes found.2 refl in absurd (none (found.0 + length states) (omega arith) longer.0 longer.1)
      | inr le ↦ let most = found.1 in let is : found.0 ≡ b = omega arith in subst (λ (j : ℕ). Ends l j r) is found.2
    ]

pub ring_of_ends : (l : Lists) → IsLists l → (b : ℕ) (r : State) → Ends l b r → ring l b (at r) ≡ true
unfolding InRing
ring_of_ends l ok b r ends = ring_from l ok b r (b, omega arith, ends)

pub goes_more : (l : Lists) (r s : State) (states : List State) → Steps l r s → GoesOn l s states → GoesOn l r (s ∷ states)
goes_more l r s [] step goes = absurd goes
goes_more l r s (t ∷ states) step goes = (step, goes)

length_states : (states : List (Vec Bool)) → length (states_of states) ≡ length states
length_states [] = refl
length_states (s ∷ states) = ap (λ n. suc n) (length_states states)

pub All_reverse : {X : Type 0} (P : X → Type 0) (xs : List X) → All P xs → All P (reverse xs)
All_reverse P [] all = All-nil P
All_reverse P (x ∷ xs) all = subst (All P) (sym (reverse-append (x ∷ []) xs)) (All-push P (reverse xs) x (All_reverse P xs (All-tail P x xs all)) (All-head P x xs all))

-- so far the walk has come
pub record IsWalk (d : Diagram) (rel : Rel) (rings before : ℕ) (e : Diagram) (state : Vec Bool) (states : List (Vec Bool)) (left : ℕ) : Type 0 where
  pub within : left ≤ rings
  pub keeps : Keeps d e
  pub bits : HasBits rel.bits state
  pub have_bits : All (HasBits rel.bits) states
  pub ends : Ends (lists_of d rel) left (state_of state)
  pub goes_on : GoesOn (lists_of d rel) (state_of state) (states_of (reverse states))
  pub count : length states + left ≡ rings + before

module _ (d : Diagram) (rel : Rel) (ok : IsRel d rel) where
  abbrev l : Lists
  l = lists_of d rel

  pub ring_current : (last : Ref) → ((k : ℕ) × (table d last ≡ ring (lists_of d rel) k)) → IsCurrent (table d last)
  ring_current last (k, is) = subst IsCurrent (sym is) (ring_facts l (lists_ok d rel ok) k).1

  -- ---- the last step
  module _ (fs : List Ref) (fs_are : fs ≡ rel.now_step.items ++ (rel.broken_step ∷ [])) where
    one_last : (r : Ref) → IsOneOf r (rel.now_step.items ++ (rel.broken_step ∷ [])) → IsOneOf r (refs_of rel)
    one_last r one = elim (one_append r rel.now_step.items (rel.broken_step ∷ []) one) [
      | inl now ↦ in_now_step rel r now
      | inr last ↦ elim last [ inl e ↦ in_broken_step rel r e | inr none ↦ absurd none ]
    ]

    pub last_live : AreLive d fs
    last_live = subst (AreLive d) (sym fs_are) (live_each d (rel.now_step.items ++ (rel.broken_step ∷ [])) (λ r one. each_live d (refs_of rel) ok.live r (one_last r one)))

    functions_are : map (table d) fs ≡ map (table d) rel.now_step.items ++ (table d rel.broken_step ∷ [])
    functions_are = ap (map (table d)) fs_are ∙ map_append (table d) rel.now_step.items (rel.broken_step ∷ [])

    pub is_last : (set : Ref) (r s : State) → table d set (at r) ≡ true → GoesOn (lists_of d rel) r (s ∷ []) → IsStep (table d set) (map (table d) fs) r s
    unfolding lists_of
    is_last set r s in_set goes = record {
      is_from = in_set;
      holds = ap (λ gs. all_of gs (both r s)) functions_are ∙ all_append (map (table d) rel.now_step.items) (table d rel.broken_step ∷ []) (both r s) goes.0 (and_one goes.1);
    }
      where
        and_one : {x : Bool} → x ≡ true → x && true ≡ true
        and_one e = ap (λ y. y && true) e

    pub goes_last : (set : Ref) (r s : State) → IsStep (table d set) (map (table d) fs) r s → GoesOn (lists_of d rel) r (s ∷ [])
    unfolding lists_of
    goes_last set r s step =
        let parts = append_all (map (table d) rel.now_step.items) (table d rel.broken_step ∷ []) (both r s) (ap (λ gs. all_of gs (both r s)) (sym functions_are) ∙ step.holds) in
        (parts.0, (and_true (table d rel.broken_step (both r s)) true parts.1).0)

    -- the same in a later store
    module _ (e : Diagram) (keeps : Keeps d e) (set : Ref) (set_live : IsLive d set) where
      pub last_later : (s t : State) → s ≡ t → ((r : State) × IsStep (table d set) (map (table d) fs) r s) → (r : State) × IsStep (table e set) (map (table e) fs) r t
      last_later s t same (r, step) = (r, subst (λ (u : State). IsStep (table e set) (map (table e) fs) r u) same (step_later d e keeps set fs set_live last_live r s step))

      last_before : (r s t : State) → s ≡ t → IsStep (table e set) (map (table e) fs) r t → IsStep (table d set) (map (table d) fs) r s
      last_before r s t same step = step_before d e keeps set fs set_live last_live r s (subst (λ (u : State). IsStep (table e set) (map (table e) fs) r u) (sym same) step)

      pub last_goes : (r s t : State) → s ≡ t → IsStep (table e set) (map (table e) fs) r t → GoesOn (lists_of d rel) r (s ∷ [])
      last_goes r s t same step = goes_last set r s (last_before r s t same step)

      pub last_from : (r s t : State) → s ≡ t → IsStep (table e set) (map (table e) fs) r t → table d set (at r) ≡ true
      last_from r s t same step = (last_before r s t same step).is_from

    pub last_some : (set : Ref) → ((r : State) × (s : State) × (table d set (at r) ≡ true) × GoesOn (lists_of d rel) r (s ∷ [])) → (r : State) × (s : State) × IsStep (table d set) (map (table d) fs) r s
    last_some set (r, s, in_set, goes) = (r, s, is_last set r s in_set goes)

  -- ---- a step back
  module _ (fs : List Ref) (fs_are : fs ≡ rel.now_step.items ++ rel.before_step.items) where
    one_step : (r : Ref) → IsOneOf r (rel.now_step.items ++ rel.before_step.items) → IsOneOf r (refs_of rel)
    one_step r one = elim (one_append r rel.now_step.items rel.before_step.items one) [ inl now ↦ in_now_step rel r now | inr before ↦ in_before_step rel r before ]

    pub steps_live : AreLive d fs
    steps_live = subst (AreLive d) (sym fs_are) (live_each d (rel.now_step.items ++ rel.before_step.items) (λ r one. each_live d (refs_of rel) ok.live r (one_step r one)))

    steps_are : map (table d) fs ≡ map (table d) rel.now_step.items ++ map (table d) rel.before_step.items
    steps_are = ap (map (table d)) fs_are ∙ map_append (table d) rel.now_step.items rel.before_step.items

    is_step : (set : Ref) (r s : State) → table d set (at r) ≡ true → Steps (lists_of d rel) r s → IsStep (table d set) (map (table d) fs) r s
    unfolding lists_of
    is_step set r s in_set steps = record {
      is_from = in_set;
      holds = ap (λ gs. all_of gs (both r s)) steps_are ∙ all_append (map (table d) rel.now_step.items) (map (table d) rel.before_step.items) (both r s) steps.0 steps.1;
    }

    step_is : (set : Ref) (r s : State) → IsStep (table d set) (map (table d) fs) r s → Steps (lists_of d rel) r s
    unfolding lists_of
    step_is set r s step = append_all (map (table d) rel.now_step.items) (map (table d) rel.before_step.items) (both r s) (ap (λ gs. all_of gs (both r s)) (sym steps_are) ∙ step.holds)

    pub back_some : (set : Ref) (b : ℕ) (s : State) → table d set ≡ ring (lists_of d rel) b → Ends (lists_of d rel) (suc b) s → (r : State) × IsStep (table d set) (map (table d) fs) r s
    unfolding Ends
    back_some set b s is (r, ends, steps) = (r, is_step set r s (ap (λ (f : Function). f (at r)) is ∙ ring_of_ends l (lists_ok d rel ok) b r ends) steps)

  pub walk_start : (rings before : ℕ) (last : Vec Bool) (states : List (Vec Bool)) → HasBits rel.bits last → All (HasBits rel.bits) states → Ends (lists_of d rel) rings (state_of last)
      → GoesOn (lists_of d rel) (state_of last) (states_of (reverse states)) → before ≡ length states → IsWalk d rel rings before d last states rings
  walk_start rings before last states bits have ends goes e = record {
    within = omega arith;
    keeps = keeps_self d;
    bits = bits;
    have_bits = have;
    ends = ends;
    goes_on = goes;
    count = omega arith;
  }

  -- one ring further back
  module _ (rings before : ℕ) (e : Diagram) (state : Vec Bool) (states : List (Vec Bool)) (left b : ℕ) (is_left : left ≡ suc b) (walk : IsWalk d rel rings before e state states left) (set : Ref) (set_live : IsLive d set) (set_is : table d set ≡ ring (lists_of d rel) b)
      (fs : List Ref) (fs_are : fs ≡ rel.now_step.items ++ rel.before_step.items) where
    set_current : IsCurrent (table d set)
    set_current = ring_current set (b, set_is)

    pub walk_set : IsLive e set
    walk_set = walk.keeps.live set set_live

    pub walk_current : IsCurrent (table e set)
    walk_current = subst IsCurrent (sym (table_kept d e set walk.keeps set_live)) set_current

    pub walk_fs : AreLive e fs
    walk_fs = live_kept d e fs walk.keeps (steps_live fs fs_are)

    pub walk_vars : e.vars ≡ 2 * length state.items
    walk_vars = walk.keeps.vars ∙ ok.vars ∙ ap (λ n. 2 * n) (sym walk.bits)

    pub walk_some : (shown : List Bool) → shown ≡ state.items → (r : State) × IsStep (table e set) (map (table e) fs) r (bit_at shown)
    walk_some shown same =
        let found = back_some fs fs_are set b (state_of state) set_is (subst (λ (n : ℕ). Ends (lists_of d rel) n (state_of state)) is_left walk.ends) in
        (found.0, subst (λ (bits : List Bool). IsStep (table e set) (map (table e) fs) found.0 (bit_at bits)) (sym same) (step_later d e walk.keeps set fs set_live (steps_live fs fs_are) found.0 (state_of state) found.1))

    pub walk_on : (f : Diagram) (old : Vec Bool) → ((j : ℕ) → j < rings + before → (s : State) → Violates (lists_of d rel) j s → ⊥) → Keeps e f → (shown : List Bool) → shown ≡ state.items → length old.items ≡ length shown
        → IsStep (table e set) (map (table e) fs) (state_of old) (bit_at shown) → (more : List (Vec Bool)) → more ≡ states ++ (state ∷ []) → IsWalk d rel rings before f old more b
    walk_on f old none keeps shown same bits step pushed pushed_are =
        let first = step_before d e walk.keeps set fs set_live (steps_live fs fs_are) (state_of old) (state_of state) (subst (λ (seen : List Bool). IsStep (table e set) (map (table e) fs) (state_of old) (bit_at seen)) same step) in
        let goes = goes_more (lists_of d rel) (state_of old) (state_of state) (states_of (reverse states)) (step_is fs fs_are set (state_of old) (state_of state) first) walk.goes_on in
        let within = walk.within in
        let count = walk.count in
        let more = length-append states (state ∷ []) in
        let long = length_states (reverse states) in
        let turned = length-reverse states in
        subst (λ (xs : List (Vec Bool)). IsWalk d rel rings before f old xs b) (sym pushed_are) (record {
          within = omega arith;
          keeps = keeps_then d e f walk.keeps keeps;
          bits = bits ∙ ap (λ (xs : List Bool). length xs) same ∙ walk.bits;
          have_bits = All-push (HasBits rel.bits) states state walk.have_bits walk.bits;
          ends = ends_at (lists_of d rel) (lists_ok d rel ok) b (rings + before) (state_of old) (state_of state ∷ states_of (reverse states)) (sym (ap (λ (g : Function). g (at (state_of old))) set_is) ∙ first.is_from) goes (omega arith) none;
          goes_on = subst (λ (xs : List (Vec Bool)). GoesOn (lists_of d rel) (state_of old) (states_of xs)) (sym (reverse-append states (state ∷ []))) goes;
          count = omega arith;
        })

  pub walk_starts : (rings before : ℕ) (e : Diagram) (state : Vec Bool) (states : List (Vec Bool)) (left : ℕ) → left ≡ 0 → IsWalk d rel rings before e state states left → Starts (lists_of d rel) (state_of state)
  unfolding Ends
  walk_starts rings before e state states left none walk = subst (λ (n : ℕ). Ends (lists_of d rel) n (state_of state)) none walk.ends

-- ---- the whole path
pub whole_path : (l : Lists) (k : ℕ) (states : List (Vec Bool)) (first : Vec Bool) → Starts l (state_of first) → GoesOn l (state_of first) (states_of (reverse states)) → length states ≡ k → HasBits l.bits first → All (HasBits l.bits) states
    → IsBitPath l k (reverse (states ++ (first ∷ [])))
whole_path l k states first starts goes count bits have =
    let long : length (states_of (reverse states)) ≡ k = length_states (reverse states) ∙ length-reverse states ∙ count in
    let turned : first ∷ reverse states ≡ reverse (states ++ (first ∷ [])) = sym (reverse-append states (first ∷ [])) in
    let more = length-append states (first ∷ []) in
    let both_long = length-reverse (states ++ (first ∷ [])) in
    record {
      is_so_long = omega arith;
      have_bits = All_reverse (HasBits l.bits) (states ++ (first ∷ [])) (All-push (HasBits l.bits) states first have bits);
      violates = subst (λ (xs : List (Vec Bool)). IsViolating l k (by_time (states_of xs))) turned
          (subst (λ (n : ℕ). IsViolating l n (by_time (state_of first ∷ states_of (reverse states)))) long (violating_list l (state_of first) (states_of (reverse states)) starts goes));
    }

pub only_path : (l : Lists) (only : Vec Bool) → HasBits l.bits only → Violates l 0 (state_of only) → IsBitPath l 0 (only ∷ [])
only_path l only bits violates = record {
  is_so_long = refl;
  have_bits = All-push (HasBits l.bits) [] only (All-nil (HasBits l.bits)) bits;
  violates = violating_one l (state_of only) violates;
}
