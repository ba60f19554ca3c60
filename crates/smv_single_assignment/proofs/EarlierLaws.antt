-- Earlier assignments that clash with a later one.
use Rattle.std.proofs.Common.{◌≡◌, ◌≤◌, ◌<◌, ℕ, suc, ◌+◌, ◌-◌, List, [], ◌∷◌, ◌++◌, map, length, get_or, take, drop, Bool, true, false, not, cond, ◌&&◌, ◌||◌, refl, ap, sym, ◌∙◌, arith, subst, zero, ◌⊎◌, inl, inr}
use Rattle.std.specs.Prelude.{Option, Some, None, slice_get}
use Rattle.std.specs.List.{flat_map, list_any}
use Rattle.smv_core.specs.Walk.{same_kind}
use Rattle.smv_core.specs.declared.tree.Kind.{Kind}
use Rattle.smv_core.specs.declared.tree.Kind.TheVariants.{Comb, Init, Next}
use Rattle.smv_mentions.specs.Scopes.{first_of_places}
use Rattle.smv_mentions.specs.NameFaults.{place_if}
use Rattle.smv_first_fault.specs.Firsts.{least}
use Rattle.smv_first_fault.proofs.LeastLaws.{first-assoc, least-append}
use Rattle.law_designs.specs.Standing.{Standing}
use Rattle.law_designs.specs.SingleFaults.{meet, are_mixed, may_meet, is_comb, later_places, mixed}
use Rattle.smv_single_assignment.specs.declared.assignments.Assignment.{Assignment}
use Rattle.smv_single_assignment.specs.declared.clashes.Clash.{Clash}
use Rattle.smv_single_assignment.specs.declared.clashes.Clash.TheVariants.{Meet, Cross, Mixed}
use Rattle.smv_single_assignment.specs.Held.{standing_of, among}
use Rattle.smv_single_assignment.specs.Clashes.{clash_by, clashes_of}
use Rattle.smv_single_assignment.specs.Links.{AreClassed, IsBehind, StandsAt, between}
use Rattle.std.proofs.lemmas.Bool.{cases_eq}
use Rattle.smv_single_assignment.proofs.ClashLaws.{at_if, later-both, later-one, among-more, mixed-among, each-alone, nothing_inside, alone}
use Rattle.smv_single_assignment.proofs.LinkLaws.{held-at, held-length, got-same, read-here, between-more, between-one, between-start, stands-part, stands-front, stands-between}
use Rattle.std.proofs.lemmas.List.{append-nil}
use Rattle.std.proofs.lemmas.List.Concat.{flat_map-append}
use Rattle.law_lists.proofs.Anys.{any-or}
use Rattle.law_lists.proofs.Booleans.{left_of, right_of}
use Rattle.law_lists.proofs.Places.{take_read, get_there}

-- ---- kinds

both-same : (t r : Bool) → (t && (t && r)) ≡ (t && r)
both-same true r = refl
both-same false r = refl

any-same : {A : Type 0} (f g : A → Bool) → ((x : A) → f x ≡ g x) → (xs : List A) → list_any f xs ≡ list_any g xs
any-same f g same [] = refl
any-same f g same (x ∷ xs) = ap (λ b. b || list_any f xs) (same x) ∙ ap (λ b. g x || b) (any-same f g same xs)

or-move : (a b c d : Bool) → ((a || b) || (c || d)) ≡ ((a || c) || (b || d))
or-move true b c d = refl
or-move false true true d = refl
or-move false true false d = refl
or-move false false c d = refl

pub one-kind-Meet : (kind : Kind) (b : Standing) → kind ≡ b.kind → (xs : List Standing) → list_any (clashes_of kind Meet b) xs ≡ list_any (λ a. clash_by Meet a b) xs
one-kind-Meet kind b is xs = any-same (clashes_of kind Meet b) (λ a. meet a b) (λ a. ap (λ k. same_kind a.kind k && meet a b) is ∙ both-same (same_kind a.kind b.kind) (may_meet a b)) xs

and-all : (t r s : Bool) → (t && ((t && r) && s)) ≡ ((t && r) && s)
and-all true r s = refl
and-all false r s = refl

pub one-kind-Cross : (kind : Kind) (by : Clash) (b : Standing) → kind ≡ b.kind → (around : _) → by ≡ Cross around → (xs : List Standing) → list_any (clashes_of kind by b) xs ≡ list_any (λ a. clash_by by a b) xs
one-kind-Cross kind by b is around are xs =
    any-same (clashes_of kind by b) (λ a. clash_by by a b)
    (λ a. ap (λ c. same_kind a.kind kind && clash_by c a b) are ∙ ap (λ k. same_kind a.kind k && clash_by (Cross around) a b) is ∙ and-all (same_kind a.kind b.kind) (may_meet a b) _ ∙ sym (ap (λ c. clash_by c a b) are)) xs

or-false : (b : Bool) → b ≡ (b || false)
or-false true = refl
or-false false = refl

comb-case : (ka kb : Kind) (m : Bool) → kb ≡ Comb
    → ((cond (is_comb ka) (not (is_comb kb)) (is_comb kb)) && m) ≡ ((same_kind ka Init && ((cond (is_comb ka) (not (is_comb kb)) (is_comb kb)) && m)) || (same_kind ka Next && ((cond (is_comb ka) (not (is_comb kb)) (is_comb kb)) && m)))
comb-case Comb kb m is = ap (λ k. not (is_comb k) && m) is
comb-case Init kb m is = or-false (is_comb kb && m)
comb-case Next kb m is = refl

pub mixed-Comb : (b : Standing) → b.kind ≡ Comb → (xs : List Standing) → list_any (λ a. clash_by Mixed a b) xs ≡ (list_any (clashes_of Init Mixed b) xs || list_any (clashes_of Next Mixed b) xs)
mixed-Comb b is xs = any-same (λ a. are_mixed a b) (λ a. clashes_of Init Mixed b a || clashes_of Next Mixed b a) (λ a. comb-case a.kind b.kind (may_meet a b) is) xs ∙ any-or (clashes_of Init Mixed b) (clashes_of Next Mixed b) xs

other-case : (ka kb : Kind) (m : Bool) → is_comb kb ≡ false
    → ((cond (is_comb ka) (not (is_comb kb)) (is_comb kb)) && m) ≡ (same_kind ka Comb && ((cond (is_comb ka) (not (is_comb kb)) (is_comb kb)) && m))
other-case Comb kb m is = refl
other-case Init kb m is = ap (λ t. t && m) is
other-case Next kb m is = ap (λ t. t && m) is

pub mixed-other : (b : Standing) → is_comb b.kind ≡ false → (xs : List Standing) → list_any (clashes_of Comb Mixed b) xs ≡ list_any (λ a. clash_by Mixed a b) xs
mixed-other b is xs = sym (any-same (λ a. are_mixed a b) (clashes_of Comb Mixed b) (λ a. other-case a.kind b.kind (may_meet a b) is) xs)

pub clash-meets : (by : Clash) (a b : Standing) → clash_by by a b ≡ true → may_meet a b ≡ true
clash-meets Meet a b hit = right_of _ (may_meet a b) hit
clash-meets (Cross around) a b hit = right_of _ (may_meet a b) (left_of (meet a b) _ hit)
clash-meets Mixed a b hit = right_of _ (may_meet a b) hit

pub not-of-kind : (kind : Kind) (by : Clash) (a b : Standing) → same_kind a.kind kind ≡ false → clashes_of kind by b a ≡ false
not-of-kind kind by a b miss = ap (λ t. t && clash_by by a b) miss

pub not-clashing : (kind : Kind) (by : Clash) (a b : Standing) → (may_meet a b ≡ true → same_kind a.kind kind ≡ false) → clashes_of kind by b a ≡ false
not-clashing kind by a b miss = decide (same_kind a.kind kind) (clash_by by a b) (λ hit. miss (clash-meets by a b hit))
  where
    decide : (t r : Bool) → (r ≡ true → t ≡ false) → (t && r) ≡ false
    decide true true h = h refl
    decide true false h = refl
    decide false r h = refl

-- ---- one more assignment

at-place : (test : Bool) (b : Standing) → least (place_if test b.at) ≡ at_if test b
at-place true b = refl
at-place false b = refl

pub clash-step : (clash : Standing → Standing → Bool) (all xs : List Standing) (m i : ℕ) (b : Standing) (test : Bool) (found here new : Option ℕ) → slice_get all i ≡ Some b → m ≤ i → test ≡ list_any (λ a. clash a b) xs
    → found ≡ least (later_places clash xs (between m i all)) → here ≡ least (place_if test b.at) → new ≡ first_of_places found here → new ≡ least (later_places clash xs (between m (i + 1) all))
clash-step clash all xs m i b test found here new got le tested so_far at is =
    is ∙ ap (λ o. first_of_places o here) so_far ∙ ap (first_of_places (least (later_places clash xs (between m i all)))) (at ∙ at-place test b ∙ ap (λ t. at_if t b) tested ∙ sym (later-one clash xs b))
    ∙ sym (later-both clash xs (between m i all) (b ∷ [])) ∙ ap (λ l. least (later_places clash xs l)) (sym (between-more m i all b got le))

pub nothing-between : (clash : Standing → Standing → Bool) (xs all : List Standing) (m : ℕ) → None ≡ least (later_places clash xs (between m m all))
nothing-between clash xs all m =
    let empty : m - m ≡ 0 = omega arith in
    sym (ap (λ n. least (later_places clash xs (take n (drop m all)))) empty ∙ ap (λ l. least (later_places clash xs l)) (none (drop m all)) ∙ nothing xs)
  where
    none : (ys : List Standing) → take 0 ys ≡ []
    none [] = refl
    none (y ∷ ys) = refl

    nothing : (ys : List Standing) → least (later_places clash ys []) ≡ None
    nothing [] = refl
    nothing (y ∷ ys) = nothing ys

-- ---- `:=` beside `init` or `next`, one more assignment

pub mixed-step : (all : List Standing) (i : ℕ) (found met new : Option ℕ) → i < length all → found ≡ least (mixed (take i all)) → met ≡ least (later_places are_mixed (between 0 i all) (between i (i + 1) all)) → new ≡ first_of_places found met
    → new ≡ least (mixed (take (i + 1) all))
mixed-step all i found met new lt so_far at is =
    let b : Standing = (get_there all i lt).0 in
    let got : slice_get all i ≡ Some b = (get_there all i lt).1 in
    let more : take (i + 1) all ≡ take i all ++ b ∷ [] = take_read all i b lt (read-here all i b got) in
    is ∙ ap (λ o. first_of_places o met) (so_far ∙ mixed-among (take i all))
    ∙ ap (first_of_places (least (among are_mixed nothing_inside alone (take i all)))) (at ∙ ap (λ l. least (later_places are_mixed l (between i (i + 1) all))) (between-start i all ∙ sym (each-alone (take i all))) ∙ ap (λ l. least (later_places are_mixed (flat_map alone (take i all)) l)) (between-one i all b got))
    ∙ sym (among-more are_mixed nothing_inside alone (take i all) b) ∙ sym (mixed-among (take i all ++ b ∷ [])) ∙ ap (λ l. least (mixed l)) (sym more)

-- ---- conflicts, one more part

module _ {A : Type 0} (all : List Standing) (inside : A → List ℕ) (assigned : A → List Standing) (start : ℕ) (parts : List A) (stands : StandsAt all start (flat_map assigned parts)) where
  pub among-step : (i end next : ℕ) (x : A) (found inner met new : Option ℕ) → i < length parts → x ≡ get_or parts i x → end ≡ start + length (flat_map assigned (take i parts)) → next ≡ end + length (assigned x)
      → found ≡ least (among meet inside assigned (take i parts)) → inner ≡ least (inside x) → met ≡ least (later_places meet (between start end all) (between end next all)) → new ≡ first_of_places found (first_of_places inner met)
      → new ≡ least (among meet inside assigned (take (i + 1) parts))
  among-step i end next x found inner met new lt here end_is next_is so_far inner_is met_is is =
      let left : between start end all ≡ flat_map assigned (take i parts) = stands-between all start end (flat_map assigned (take i parts)) (stands-front all assigned start parts i x stands lt here) end_is in
      let there : StandsAt all end (assigned x) = subst (λ n. StandsAt all n (assigned x)) (sym end_is) (stands-part all assigned start parts i x stands lt here) in
      let right : between end next all ≡ assigned x = stands-between all end next (assigned x) there next_is in
      is ∙ ap (λ o. first_of_places o (first_of_places inner met)) so_far
      ∙ ap (λ o. first_of_places (least (among meet inside assigned (take i parts))) (first_of_places o met)) inner_is
      ∙ ap (λ o. first_of_places (least (among meet inside assigned (take i parts))) (first_of_places (least (inside x)) o)) (met_is ∙ ap (λ l. least (later_places meet l (between end next all))) left ∙ ap (λ l. least (later_places meet (flat_map assigned (take i parts)) l)) right)
      ∙ sym (among-more meet inside assigned (take i parts) x)
      ∙ ap (λ l. least (among meet inside assigned l)) (sym (take_read parts i x lt here))

  pub end-step : (i end next : ℕ) (x : A) → i < length parts → x ≡ get_or parts i x → end ≡ start + length (flat_map assigned (take i parts)) → next ≡ end + length (assigned x) → next ≡ start + length (flat_map assigned (take (i + 1) parts))
  end-step i end next x lt here end_is next_is =
      let split : flat_map assigned (take (i + 1) parts) ≡ flat_map assigned (take i parts) ++ assigned x =
      ap (flat_map assigned) (take_read parts i x lt here) ∙ flat_map-append assigned (take i parts) (x ∷ []) ∙ ap (λ l. flat_map assigned (take i parts) ++ l) (append-nil (assigned x)) in
      let long : length (flat_map assigned (take (i + 1) parts)) ≡ length (flat_map assigned (take i parts)) + length (assigned x) = ap length split ∙ lengths (flat_map assigned (take i parts)) (assigned x) in
      omega (arith, long, end_is, next_is)
    where
      lengths : (xs ys : List Standing) → length (xs ++ ys) ≡ length xs + length ys
      lengths [] ys = omega arith
      lengths (x ∷ xs) ys = ap suc (lengths xs ys) ∙ omega arith

  pub end-within : (i end next : ℕ) (x : A) → i < length parts → x ≡ get_or parts i x → end ≡ start + length (flat_map assigned (take i parts)) → next ≡ end + length (assigned x) → next ≤ length all
  end-within i end next x lt here end_is next_is = let there = stands-part all assigned start parts i x stands lt here in omega (arith, there.within, end_is, next_is)

-- ---- two branches

pub branches-found : (all : List Standing) (clash : Standing → Standing → Bool) (start middle end : ℕ) (xs ys : List Standing) (left right : List ℕ) (a b c : Option ℕ) → between start middle all ≡ xs → between middle end all ≡ ys → a ≡ least left → b ≡ least right
    → c ≡ least (later_places clash (between start middle all) (between middle end all)) → first_of_places a (first_of_places b c) ≡ least ((left ++ right) ++ later_places clash xs ys)
branches-found all clash start middle end xs ys left right a b c first second a_is b_is c_is =
    ap (λ o. first_of_places o (first_of_places b c)) a_is ∙ ap (λ o. first_of_places (least left) (first_of_places o c)) b_is
    ∙ ap (λ o. first_of_places (least left) (first_of_places (least right) o)) (c_is ∙ ap (λ l. least (later_places clash l (between middle end all))) first ∙ ap (λ l. least (later_places clash xs l)) second)
    ∙ sym (first-assoc (least left) (least right) (least (later_places clash xs ys))) ∙ ap (λ o. first_of_places o (least (later_places clash xs ys))) (sym (least-append left right)) ∙ sym (least-append (left ++ right) (later_places clash xs ys))

-- ---- what is held

pub kind-here : (xs : List Assignment) (i : ℕ) (x : Assignment) (b : Standing) → i < length (map standing_of xs) → x ≡ get_or xs i x → slice_get (map standing_of xs) i ≡ Some b → x.kind ≡ b.kind
kind-here xs i x b lt is got =
    let it : standing_of x ≡ b = got-same (map standing_of xs) i (standing_of x) b (held-at xs i x (omega (arith, held-length xs)) is) got in
    ap (λ (a : Standing). a.kind) it

pub same-here : (xs : List Assignment) (i : ℕ) (x : Assignment) (b : Standing) → i < length (map standing_of xs) → x ≡ get_or xs i x → slice_get (map standing_of xs) i ≡ Some b → standing_of x ≡ b
same-here xs i x b lt is got = got-same (map standing_of xs) i (standing_of x) b (held-at xs i x (omega (arith, held-length xs)) is) got

pub mixed-by : (by : Clash) (b : Standing) → by ≡ Mixed → b.kind ≡ Comb → (xs : List Standing) → list_any (λ a. clash_by by a b) xs ≡ (list_any (clashes_of Init by b) xs || list_any (clashes_of Next by b) xs)
mixed-by by b is comb xs =
    ap (λ c. list_any (λ a. clash_by c a b) xs) is ∙ mixed-Comb b comb xs ∙ sym (ap (λ c. list_any (clashes_of Init c b) xs || list_any (clashes_of Next c b) xs) is)

-- ---- chains of links

pub cases_le : (a b : ℕ) → (a ≤ b) ⊎ (b < a)
cases_le zero b = inl (omega arith)
cases_le (suc a) zero = inr (omega arith)
cases_le (suc a) (suc b) = elim (cases_le a b) [ inl h ↦ inl (omega (arith, h)) | inr h ↦ inr (omega (arith, h)) ]

module _ (all : List Standing) (classes : List ℕ) (count : ℕ) (kind : Kind) (by : Clash) (classed : AreClassed all classes count) (place middle : ℕ) where
  -- from the end on no earlier one before the middle clashes
  abbrev pub IsClear : ℕ → Type 0
  IsClear end = (k : ℕ) (a b : Standing) → slice_get all k ≡ Some a → slice_get all place ≡ Some b → end ≤ k → k < middle → clashes_of kind by b a ≡ false

  pub clear-start : (end : ℕ) → middle ≤ place → IsBehind all classes kind (get_or classes place 0) place end → IsClear end
  clear-start end le behind = λ k a b got here from before.
      not-clashing kind by a b (λ met. behind.last k a got from (omega (arith, le, before)) (classed.together k place a b got here met))

  pub clear-step : (earlier end : ℕ) → IsBehind all classes kind (get_or classes earlier 0) earlier end → get_or classes earlier 0 ≡ get_or classes place 0
      → (earlier < middle → (a b : Standing) → slice_get all earlier ≡ Some a → slice_get all place ≡ Some b → clashes_of kind by b a ≡ false)
      → IsClear (earlier + 1) → IsClear end
  clear-step earlier end behind same apart clear = λ k a b got here from before. step k a b got here from before (cases_eq k earlier)
    where
      either : (k : ℕ) (a b : Standing) → slice_get all k ≡ Some a → slice_get all place ≡ Some b → end ≤ k → k < middle → (k ≡ earlier → ⊥) → (k ≤ earlier) ⊎ (earlier < k) → clashes_of kind by b a ≡ false
      either k a b got here from before not (inl le) = not-clashing kind by a b (λ met. behind.last k a got from (omega (arith, le, not)) (classed.together k place a b got here met ∙ sym same))
      either k a b got here from before not (inr lt) = clear k a b got here (omega (arith, lt)) before

      step : (k : ℕ) (a b : Standing) → slice_get all k ≡ Some a → slice_get all place ≡ Some b → end ≤ k → k < middle → (k ≡ earlier) ⊎ (k ≡ earlier → ⊥) → clashes_of kind by b a ≡ false
      step k a b got here from before (inl is) = apart (omega (arith, is, before)) a b (ap (slice_get all) (sym is) ∙ got) here
      step k a b got here from before (inr not) = either k a b got here from before not (cases_le k earlier)
