-- The lists of a problem are those of each case that is written so.
use Rattle.std.proofs.Common.{◌≡◌, ℕ, ◌*◌, List, [], ◌∷◌, ◌++◌, map, length, Bool, true, false, not, refl, sym, ap, subst, ◌∙◌, ◌⊎◌, inl, inr, append_assoc}
use Rattle.std.specs.List.{filter, flat_map}
use Rattle.std.proofs.lemmas.List.{map-append}
use Rattle.std.proofs.lemmas.List.Concat.{flat_map-append}
use Rattle.law_obligations.specs.Sets.{Has}
use Rattle.law_obligations.specs.Obligations.{Demanded, defined, holds}
use Rattle.law_obligations.proofs.Members.{any-found}
use Rattle.law_obligations.specs.Cones.{AbsElement, element, same_element}
use Rattle.law_obligations.proofs.ConeFacts.{same_element-itself}
use Rattle.law_obligations.specs.Readings.{PosedCase, Slot, slots, state_bits}
use Rattle.law_reports.specs.CaseLists.{those_of, moves, moving_first, claims, before_in_step}
use Rattle.law_arrangements.specs.Arrangements.{Arrangement}
use Rattle.law_arrangements.specs.Orders.{wired}
use Rattle.law_arrangements.specs.ArrangedLists.{element_first, element_step, met_first, met_step, slots_over, lists_over}
use Rattle.law_arrangements.proofs.Below.{are_lists}
use Rattle.law_arrangements.proofs.OrderedLists.{lists_wired}
use Rattle.bdd_store.specs.declared.Ref.{Ref}
use Rattle.bdd_store.specs.Diagram.{Diagram, IsLive, AreLive, Keeps, table}
use Rattle.bdd_store.proofs.Keeping.{functions_kept}
use Rattle.bdd_ops.specs.Functions.{Function}
use Rattle.smv_rings.specs.Lists.{Lists, AllCurrent, IsCurrent, IsLists, IsRel, lists_of, refs_of}
use Rattle.smv_rings.specs.declared.Rel.{Rel}
use Rattle.smv_rings.specs.Ops.{IsOneOf}
use Rattle.smv_rings.proofs.Refs.{one_append, each_live, live_each}
use Rattle.smv_problem.specs.declared.problem.Problem.{Problem}
use Rattle.smv_problem.specs.Written.{written}
use Rattle.smv_problem.specs.WellFormed.{IsWellFormed, OfCases}
use Rattle.smv_encode.specs.Encoded.{IsKept, broken_at}
use Rattle.smv_encode.specs.Parts.{AreDemands, AreElements, AddsFunctions, is_turn}
use Rattle.smv_encode.specs.declared.elements.Turn.TheVariants as turn
use Rattle.smv_core.specs.declared.flat.Element.{Element}
use Rattle.smv_encode.proofs.Adds.{adds_then}

-- ---- the elements and the demands of a case

module _ (p : Problem) (c : PosedCase) (is : p ≡ written c) where
  pub elements_are : AreElements c c.elements p.elements
  unfolding written
  elements_are = record { written = ap (λ (q : Problem). q.elements) is; among = λ x h. h }

  module _ (well : IsWellFormed c) where
    kept_element : (family : ℕ) (ps : _) → Has c.elements (element family ps) → c.problem.kept family ps ≡ true
    kept_element family ps h = ap (λ (keeps : ℕ → _ → Bool). keeps family ps) well.is_case.are_kept ∙ any-found (same_element (element family ps)) h (same_element-itself (element family ps))

    pub now_are : AreDemands c c.problem.now p.now
    unfolding written
    now_are = record { written = ap (λ (q : Problem). q.now) is; fit = well.now; kept = kept }
      where
        kept : (d : Demanded) → Has c.problem.now d → IsKept c d
        kept (defined def indexes) h = kept_element def.family indexes (well.is_case.now_is_kept def indexes h)
        kept (holds body b) h = tt

    pub before_are : AreDemands c c.problem.before p.before
    unfolding written
    before_are = record { written = ap (λ (q : Problem). q.before) is; fit = well.before; kept = kept }
      where
        kept : (d : Demanded) → Has c.problem.before d → IsKept c d
        kept (defined def indexes) h = kept_element def.family indexes (well.is_case.before_is_kept def indexes h)
        kept (holds body b) h = tt

-- ---- lists that begin with nothing

started : (d e : Diagram) (rs ss : List Ref) (fs : List Function) → rs ≡ [] → AddsFunctions d e rs ss fs → map (table e) ss ≡ fs
started d e rs ss fs none adds = adds ∙ ap (λ (xs : List Ref). map (table d) xs ++ fs) none

pub one_part : (d e : Diagram) (rs ss : List Ref) (fs : List Function) → rs ≡ [] → AddsFunctions d e rs ss fs → map (table e) ss ≡ fs
one_part d e rs ss fs none adds = started d e rs ss fs none adds

pub two_parts : (d e f : Diagram) (rs ss ts : List Ref) (fs gs : List Function) → rs ≡ [] → AddsFunctions d e rs ss fs → AddsFunctions e f ss ts gs → map (table f) ts ≡ fs ++ gs
two_parts d e f rs ss ts fs gs none one two = started d f rs ts (fs ++ gs) none (adds_then d e f rs ss ts fs gs one two)

pub three_parts : (d e f g : Diagram) (rs ss ts us : List Ref) (fs gs hs : List Function) → rs ≡ [] → AddsFunctions d e rs ss fs → AddsFunctions e f ss ts gs → AddsFunctions f g ts us hs → map (table g) us ≡ fs ++ (gs ++ hs)
three_parts d e f g rs ss ts us fs gs hs none one two three = started d g rs us (fs ++ (gs ++ hs)) none (adds_then d e g rs ss us fs (gs ++ hs) one (adds_then e f g ss ts us gs hs two three))

-- ---- in order

all_taken : (ds : List Demanded) (ss : List Slot) → filter (is_turn ds turn.All) ss ≡ ss
all_taken ds [] = refl
all_taken ds (s ∷ ss) = ap (λ (xs : List Slot). s ∷ xs) (all_taken ds ss)

pub every_turn : (ds : List Demanded) (ss : List Slot) (f : Slot → Function) (gs : List Function) → map f (filter (is_turn ds turn.All) ss) ++ gs ≡ map f ss ++ gs
every_turn ds ss f gs = ap (λ (xs : List Slot). map f xs ++ gs) (all_taken ds ss)

pub moving_turns : (ds : List Demanded) (ss : List Slot) (f : Slot → Function) (gs : List Function) →
    map f (filter (is_turn ds turn.Moving) ss) ++ (map f (filter (is_turn ds turn.Others) ss) ++ gs) ≡ map f (moving_first ds ss) ++ gs
moving_turns ds ss f gs =
    sym (append_assoc (map f (filter (moves ds) ss)) (map f (filter (λ slot. not (moves ds slot)) ss)) gs)
    ∙ ap (λ (xs : List Function). xs ++ gs) (sym (map-append f (filter (moves ds) ss) (filter (λ slot. not (moves ds slot)) ss)))

pub before_turns : (c : PosedCase) (m : Demanded → Function) →
    map m (flat_map (λ (slot : Slot). those_of c.problem.before slot.element) (filter (is_turn c.problem.before turn.Moving) (slots c)))
    ++ (map m (flat_map (λ (slot : Slot). those_of c.problem.before slot.element) (filter (is_turn c.problem.before turn.Others) (slots c))) ++ map m (claims c c.problem.before))
    ≡ map m (before_in_step c)
before_turns c m =
    let own : Slot → List Demanded = λ slot. those_of c.problem.before slot.element in
    let movers : List Slot = filter (moves c.problem.before) (slots c) in
    let others : List Slot = filter (λ slot. not (moves c.problem.before slot)) (slots c) in
    ap (λ (xs : List Function). map m (flat_map own movers) ++ xs) (sym (map-append m (flat_map own others) (claims c c.problem.before)))
    ∙ sym (map-append m (flat_map own movers) (flat_map own others ++ claims c c.problem.before))
    ∙ ap (map m) (sym (append_assoc (flat_map own movers) (flat_map own others) (claims c c.problem.before)) ∙ ap (λ (xs : List Demanded). xs ++ claims c c.problem.before) (sym (flat_map-append own movers others)))

-- ---- all lists

pub lists_are : (c : PosedCase) (order : List ℕ) (done : List AbsElement) (d : Diagram) (rel : Rel) → map (table d) rel.now_first.items ≡ map (element_first c (wired order done)) (slots_over c (wired order done)) ++ map (met_first c (wired order done)) (claims c c.problem.now) → map (table d) rel.before_first.items ≡ map (met_first c (wired order done)) c.problem.before
    → table d rel.broken_first ≡ broken_at c (wired order done) false → map (table d) rel.now_step.items ≡ map (element_step c (wired order done)) (moving_first c.problem.now (slots_over c (wired order done))) ++ map (met_step c (wired order done)) (claims c c.problem.now)
    → map (table d) rel.before_step.items ≡ map (met_step c (wired order done)) (before_in_step c) → table d rel.broken_step ≡ broken_at c (wired order done) true → rel.bits ≡ length order → lists_of d rel ≡ lists_over c (wired order done)
unfolding lists_of
lists_are c order done d rel n0 l0 t0 n1 l1 t1 bits =
    (λ i. record { now_first = n0 i; before_first = l0 i; broken_first = t0 i; now_step = n1 i; before_step = l1 i; broken_step = t1 i; bits = bits i })
    ∙ sym (lists_wired c order done)

-- ---- a Rel

live_append : (d : Diagram) (rs ss : List Ref) → AreLive d rs → AreLive d ss → AreLive d (rs ++ ss)
live_append d rs ss one two = live_each d (rs ++ ss) (λ r is. by r (one_append r rs ss is))
  where
    by : (r : Ref) → IsOneOf r rs ⊎ IsOneOf r ss → IsLive d r
    by r (inl h) = each_live d rs one r h
    by r (inr h) = each_live d ss two r h

live_one : (d : Diagram) (r : Ref) (rs : List Ref) → IsLive d r → AreLive d rs → AreLive d (r ∷ rs)
live_one d r rs is all = live_each d (r ∷ rs) (λ q one. by q one)
  where
    by : (q : Ref) → IsOneOf q (r ∷ rs) → IsLive d q
    by q (inl e) = subst (IsLive d) (sym e) is
    by q (inr h) = each_live d rs all q h

live_none : (d : Diagram) → AreLive d []
live_none d = live_each d [] (λ q one. absurd one)

pub rel_is : (d : Diagram) (rel : Rel) (p : Problem) (c : PosedCase) → p ≡ written c → IsWellFormed c → (o : Arrangement) → lists_of d rel ≡ lists_over c o → OfCases p (λ c. d.vars ≡ 2 * state_bits c)
    → AreLive d rel.now_first.items → AreLive d rel.before_first.items → IsLive d rel.broken_first → AreLive d rel.now_step.items → AreLive d rel.before_step.items → IsLive d rel.broken_step → OfCases p (λ c. rel.bits ≡ state_bits c) → IsRel d rel
unfolding lists_of refs_of
rel_is d rel p c is well o e vars n0 l0 t0 n1 l1 t1 bits =
    let lists_of_case : IsLists (lists_over c o) = are_lists c o in
    record {
      vars = vars c is well ∙ ap (λ (n : ℕ). 2 * n) (sym (bits c is well));
      live = live_append d rel.now_first.items _ n0 (live_append d rel.before_first.items _ l0 (live_one d rel.broken_first _ t0 (live_append d rel.now_step.items _ n1 (live_append d rel.before_step.items _ l1 (live_one d rel.broken_step [] t1 (live_none d))))));
      now_first = subst (λ (l : Lists). AllCurrent l.now_first) (sym e) lists_of_case.now_first.1;
      before_first = subst (λ (l : Lists). AllCurrent l.before_first) (sym e) lists_of_case.before_first.1;
      broken_first = subst (λ (l : Lists). IsCurrent l.broken_first) (sym e) lists_of_case.broken_first.1;
    }

-- ---- what holds at a later state

pub later_list : (d e : Diagram) (rs : List Ref) (fs : List Function) → Keeps d e → AreLive d rs → map (table d) rs ≡ fs → map (table e) rs ≡ fs
later_list d e rs fs k live is = functions_kept d e rs k live ∙ is

pub later_one : (d e : Diagram) (r : Ref) (f : Function) → Keeps d e → IsLive d r → table d r ≡ f → table e r ≡ f
later_one d e r f k live is = (λ i a. k.tables r live a i) ∙ is

pub no_refs : (d : Diagram) (rs : List Ref) → rs ≡ [] → AreLive d rs
no_refs d rs e = subst (AreLive d) (sym e) (live_none d)

pub elements_shown : (c : PosedCase) (xs : List AbsElement) (elements shown : List Element) → shown ≡ elements → AreElements c xs elements → AreElements c xs shown
elements_shown c xs elements shown e h = subst (AreElements c xs) (sym e) h
