-- A path of assignments that are the states of a violating path of a case's lists is read as a shortest violating path of its problem.
use Rattle.std.proofs.Common.{◌≡◌, ℕ, zero, suc, ◌+◌, ◌<◌, ◌≤◌, List, [], ◌∷◌, ◌++◌, map, length, get_or, take, Bool, None, refl, sym, ap, subst, ◌∙◌, inl, inr, arith}
use Rattle.std.specs.List.{All}
use Rattle.std.specs.Global.{Vec}
use Rattle.std.proofs.lemmas.Bool.{cases_lt}
use Rattle.std.proofs.lemmas.List.{length-append, get_or_append_left, take_more, take_all, map-append}
use Rattle.std.proofs.lemmas.List.Elements.{All-weaker}
use Rattle.std.proofs.Math.Seq.{get_or-append_seam}
use Rattle.std.proofs.Math.ListN.{get_or-map}
use Rattle.law_lists.proofs.Lists.{length_map}
use Rattle.bdd_store.specs.declared.Ref.{Ref}
use Rattle.bdd_store.specs.Diagram.{Diagram, table}
use Rattle.bdd_ops.specs.Functions.{Function, bit_at}
use Rattle.smv_rings.specs.Lists.{Lists, State}
use Rattle.smv_rings.specs.Paths.{IsViolating}
use Rattle.smv_rings.specs.Schedule.{ring}
use Rattle.smv_search.specs.Runs.{rings_to}
use Rattle.law_obligations.specs.May.{AbsState}
use Rattle.law_obligations.specs.CasePaths.{IsShortest, states_from}
use Rattle.law_obligations.specs.Sets.{Has}
use Rattle.law_obligations.specs.Cones.{AbsElement}
use Rattle.law_obligations.specs.Readings.{PosedCase, reading, state_bits}
use Rattle.law_obligations.proofs.Members.{Has-left}
use Rattle.law_obligations.proofs.ReadBack.{reading_agree, reading_is_state}
use Rattle.law_obligations.proofs.Listed.{shifted}
use Rattle.law_arrangements.specs.Arrangements.{IsArrangement, IsState, spread, view, worked_out}
use Rattle.law_arrangements.specs.Orders.{wired}
use Rattle.law_arrangements.specs.ArrangedLists.{lists_over}
use Rattle.law_arrangements.specs.Laws.{shown, shown_at}
use Rattle.law_arrangements.proofs.Paths.{least_is_least}
use Rattle.smv_core.specs.declared.flat.Element.{Element}
use Rattle.smv_problem.specs.Written.{written_element, written_state}
use Rattle.smv_problem.specs.WellFormed.{IsWellFormed, IsProblem, OfCases}
use Rattle.smv_problem.specs.declared.problem.Problem.{Problem}
use Rattle.smv_problem.specs.declared.problem.AbsState.{AbsState as StateData}
use Rattle.smv_orders.specs.Places.{ArePlaces}
use Rattle.smv_trace.specs.Wired.{AreWired}
use Rattle.smv_ring_paths.specs.BitPaths.{AreRings, state_of, states_of, by_time, HasBits, IsBitPath}

-- ---- the rings of a search, one by one

rings_long : (l : Lists) (k : ℕ) → length (rings_to l k) ≡ k
rings_long l zero = refl
rings_long l (suc k) = let before = rings_long l k in let more = length-append (rings_to l k) (ring l k ∷ []) in omega arith

rings_at : (l : Lists) (k i : ℕ) (d : Function) → i < k → get_or (rings_to l k) i d ≡ ring l i
rings_at l zero i d lt = absurd (omega arith)
rings_at l (suc k) i d lt =
    let long = rings_long l k in
    elim (cases_lt i k) [
      | inl early ↦ get_or_append_left (rings_to l k) (ring l k ∷ []) d i (omega arith) ∙ rings_at l k i d early
      | inr last ↦
          let is : i ≡ k = omega arith in
          let at : i ≡ length (rings_to l k) = omega arith in
          ap (λ (j : ℕ). get_or (rings_to l k ++ (ring l k ∷ [])) j d) at ∙ get_or-append_seam (rings_to l k) (ring l k) [] d ∙ ap (ring l) (sym is)
    ]

module _ (d : Diagram) (l : Lists) (rings : List Ref) (depth : ℕ) (given : map (table d) rings ≡ rings_to l depth) where
  pub rings_count : length rings ≡ depth
  rings_count = sym (length_map (table d) rings) ∙ ap (λ (fs : List Function). length fs) given ∙ rings_long l depth

  pub rings_given : AreRings d l rings
  rings_given i lt =
      let count = rings_count in
      let none : Ref = record { place = 0 } in
      sym (get_or-map (table d) rings i none) ∙ ap (λ (fs : List Function). get_or fs i (table d none)) given ∙ rings_at l depth i (table d none) (omega arith)

-- ---- a path is read state by state

read_all : {X : Type 0} (f : State → X) (xs : List State) (n : ℕ) → length xs ≡ suc n → states_from (λ i. f (by_time xs i)) 0 n ≡ map f xs
read_all f [] n e = absurd (omega arith)
read_all f (s ∷ []) zero e = refl
read_all f (s ∷ []) (suc n) e = absurd (omega arith)
read_all f (s ∷ t ∷ xs) zero e = absurd (omega arith)
read_all f (s ∷ t ∷ xs) (suc n) e = ap (λ ys. f s ∷ ys) (shifted (λ i. f (by_time (s ∷ t ∷ xs) i)) 0 n ∙ read_all f (t ∷ xs) n (omega arith))

-- what is shown where no element is idle is what these are read as
shown_is : (c : PosedCase) (order : List ℕ) (xs : List AbsElement) (path : ℕ → State) (k : ℕ) → shown c (wired order xs) path k ≡ states_from (λ i. view c (wired order xs) (path i)) 0 k
shown_is c order xs path k = ap (λ (states : ℕ → AbsState). states_from states 0 k) (λ j i. at_each i j)
  where
    at_each : (i : ℕ) → shown_at c (wired order xs) path i ≡ view c (wired order xs) (path i)
    at_each zero = refl
    at_each (suc i) = refl

abbrev written_all : PosedCase → List ℕ → List AbsElement → List (Vec Bool) → List StateData
written_all c order xs states = map (λ (state : Vec Bool). written_state c (view c (wired order xs) (state_of state))) states

-- elements of a case
abbrev pub Among : PosedCase → List AbsElement → Type 0
Among c xs = (x : AbsElement) → Has xs x → Has c.elements x

module _ (c : PosedCase) (well : IsWellFormed c) (order : List ℕ) (xs : List AbsElement) (arranges : IsArrangement c (wired order xs)) where
  are_among : Among c xs
  are_among x h = arranges.are_elements x (Has-left [] h)

  each_written : (states : List (Vec Bool)) → written_all c order xs states ≡ map (written_state c) (map (λ (s : State). view c (wired order xs) s) (states_of states))
  each_written [] = refl
  each_written (state ∷ states) = ap (λ (vs : List StateData). written_state c (view c (wired order xs) (state_of state)) ∷ vs) (each_written states)

  short_path : (l : Lists) → l ≡ lists_over c (wired order xs) → (n depth : ℕ) → n ≡ depth → (states : List (Vec Bool)) → IsBitPath l n states → ((k : ℕ) → k < depth → (path : ℕ → State) → IsViolating l k path → ⊥)
      → (told : List StateData) → told ≡ written_all c order xs states → (path : List AbsState) × IsShortest c.problem depth path × (told ≡ map (written_state c) path)
  short_path l lists n depth same states bit_path none told is =
      let path : ℕ → State = by_time (states_of states) in
      let violates : IsViolating (lists_over c (wired order xs)) depth path = subst (λ (m : Lists). IsViolating m depth path) lists (subst (λ (k : ℕ). IsViolating l k path) same bit_path.violates) in
      let long = bit_path.is_so_long in
      let many : length (states_of states) ≡ suc depth = length_map state_of states ∙ long ∙ ap (λ (k : ℕ). suc k) same in (
        shown c (wired order xs) path depth,
        least_is_least c well.is_case (wired order xs) arranges depth path violates (λ j lt other v. none j lt other (subst (λ (m : Lists). IsViolating m j other) (sym lists) v)),
        is ∙ each_written states ∙ ap (map (written_state c)) (sym (shown_is c order xs path depth ∙ read_all (λ (s : State). view c (wired order xs) s) (states_of states) depth many)),
      )

bits_are : (l : Lists) (c : PosedCase) (order : List ℕ) (xs : List AbsElement) → l ≡ lists_over c (wired order xs) → l.bits ≡ length order
unfolding lists_over
bits_are l c order xs e = ap (λ (m : Lists). m.bits) e

pub have_bits : (p : Problem) → IsProblem p → (l : Lists) (order : List ℕ) (wires : List Element) → OfCases p (AreWired order wires l) → (n : ℕ) → n ≡ length order → (states : List (Vec Bool)) → All (HasBits l.bits) states → All (HasBits n) states
have_bits p (c, is, well) l order wires lists n same states all =
    let r = lists c is well in
    All-weaker (HasBits l.bits) (HasBits n) (λ state has. has ∙ bits_are l c order r.0 r.3 ∙ sym same) states all

-- so is what a call reads
pub read_path : (p : Problem) (order : List ℕ) (wires : List Element) (l : Lists) → OfCases p (AreWired order wires l) → (n depth : ℕ) → n ≡ depth → (states : List (Vec Bool)) → IsBitPath l n states
    → ((k : ℕ) → k < depth → (path : ℕ → State) → IsViolating l k path → ⊥) → (told : List StateData) → OfCases p (λ c. (xs : List AbsElement) → Among c xs → wires ≡ map written_element xs → told ≡ written_all c order xs states)
    → OfCases p (λ c. (path : List AbsState) × IsShortest c.problem depth path × (told ≡ map (written_state c) path))
read_path p order wires l lists n depth same states bit_path none told read c is well =
    let r = lists c is well in
    short_path c well order r.0 r.2 l r.3 n depth same states bit_path none told (read c is well r.0 (are_among c well order r.0 r.2) r.1)

-- ---- the bits of one state

-- bits that are those at their places are read as these
pub read_bits : (c : PosedCase) (order places : List ℕ) (bits values : List Bool) → length places ≡ state_bits c → ((b : ℕ) → b < length places → bit_at bits b ≡ spread order (bit_at values) b) → reading c (bit_at bits) ≡ reading c (spread order (bit_at values))
read_bits c order places bits values count each = reading_agree c (bit_at bits) (spread order (bit_at values)) (λ b lt. each b (subst (λ (n : ℕ). b < n) (sym count) lt))

pub within_state : (places : List ℕ) (n : ℕ) → ((q : ℕ) → Has places q → q < length places) → n ≡ length places → (q : ℕ) → Has places q → q < n
within_state places n below same q h = subst (λ (m : ℕ). q < m) (sym same) (below q h)

-- and elements are worked out of it
pub read_worked : (c : PosedCase) → IsWellFormed c → (order : List ℕ) (xs : List AbsElement) (values : List Bool) (old new : StateData) → old ≡ written_state c (reading c (spread order (bit_at values)))
    → ((a : AbsState) → IsState c a → old ≡ written_state c a → new ≡ written_state c (worked_out c c.problem.now xs None a)) → new ≡ written_state c (view c (wired order xs) (bit_at values))
read_worked c well order xs values old new is works = works (reading c (spread order (bit_at values))) (reading_is_state c well.is_case (spread order (bit_at values))) is

-- ---- the states of a loop

module _ (p : Problem) (places : List ℕ) (wires : List Element) (states : List (Vec Bool)) where
  -- so many states are read
  abbrev pub AreRead : ℕ → List StateData → Type 0
  AreRead i path = OfCases p (λ c. (order : List ℕ) → ArePlaces order 0 places → (xs : List AbsElement) → Among c xs → wires ≡ map written_element xs → path ≡ written_all c order xs (take i states))

  -- one more is read
  pub read_more : (i : ℕ) (path : List StateData) → AreRead i path → (state : Vec Bool) → i < length states → state ≡ get_or states i state → (shown : List Bool) → shown ≡ state.items → (one : StateData) (more : List StateData) → more ≡ path ++ one ∷ []
      → OfCases p (λ c. (order : List ℕ) → ArePlaces order 0 places → (xs : List AbsElement) → Among c xs → wires ≡ map written_element xs → one ≡ written_state c (view c (wired order xs) (bit_at shown))) → AreRead (i + 1) more
  read_more i path before state lt at shown same one more pushed read c is well order placed xs among by =
      pushed
      ∙ ap (λ (vs : List StateData). vs ++ one ∷ []) (before c is well order placed xs among by)
      ∙ ap (λ (v : StateData). written_all c order xs (take i states) ++ v ∷ []) (read c is well order placed xs among by ∙ ap (λ (bs : List Bool). written_state c (view c (wired order xs) (bit_at bs))) same)
      ∙ sym (ap (written_all c order xs) (take_more states i state lt ∙ ap (λ (s : Vec Bool). take i states ++ s ∷ []) (sym at)) ∙ map-append (λ (s : Vec Bool). written_state c (view c (wired order xs) (state_of s))) (take i states) (state ∷ []))

  -- all are
  pub read_whole : (i : ℕ) (path : List StateData) → AreRead i path → length states ≤ i → OfCases p (λ c. (order : List ℕ) → ArePlaces order 0 places → (xs : List AbsElement) → Among c xs → wires ≡ map written_element xs → path ≡ written_all c order xs states)
  read_whole i path before le c is well order placed xs among by = before c is well order placed xs among by ∙ ap (written_all c order xs) (take_all i states le)
