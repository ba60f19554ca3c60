-- What is worked out, and what places are read as.
use Rattle.std.proofs.Common.{◌≡◌, ℕ, suc, ◌+◌, ◌-◌, ◌<◌, List, [], ◌∷◌, ◌++◌, length, find, Bool, true, false, cond, ◌||◌, refl, sym, ap, subst, ◌∙◌, inl, inr, ◌⊎◌, Option, Some, None, arith, nat_lt, nat_eq}
use Rattle.std.specs.Prelude.{get_or, option_map}
use Rattle.std.specs.List.{slice_get, list_any, list_all}
use Rattle.law_lists.proofs.Booleans.{clash, not_left, not_right, same_tests}
use Rattle.law_lists.proofs.Numbers.{nat_eq-is}
use Rattle.smv_core.specs.declared.flat.Family.{Family}
use Rattle.law_obligations.specs.Sets.{Has, first, later}
use Rattle.law_obligations.specs.Places.{Place, named, places_in}
use Rattle.smv_core.specs.Values.{number}
use Rattle.law_obligations.specs.May.{AbsState}
use Rattle.law_obligations.specs.Obligations.{Demanded, is_met}
use Rattle.law_obligations.specs.Outlines.{place_of}
use Rattle.law_obligations.specs.Cones.{AbsElement, element, same_element}
use Rattle.law_obligations.specs.Bits.{Bits}
use Rattle.law_obligations.specs.Codes.{value_of_code}
use Rattle.law_obligations.specs.Readings.{PosedCase, IsCase, Slot, values_in, values_of, bits_of, code_of, is_value, slots, reading}
use Rattle.law_obligations.proofs.Codes.{code_agree}
use Rattle.law_obligations.proofs.ConeFacts.{same_element-itself, same_element-family, same_element-indexes}
use Rattle.law_obligations.proofs.Lookups.{Has-filter, Has-from_filter, find-some, none_or_some}
use Rattle.law_obligations.proofs.Members.{Has-uncons, any-found, one_of_one}
use Rattle.law_obligations.proofs.ReadBack.{reads_slot}
use Rattle.law_obligations.proofs.Same.{nat_eq-itself}
use Rattle.law_reports.specs.CaseLists.{those_of}
use Rattle.law_arrangements.specs.Arrangements.{Arrangement, put, AgreeBeside, EachWith, EachBetween, at_place, spread, IsState, IsBefore, allowed, worked_out, AreWorkedOut, IsDetermined, CanGoOn}

-- ---- tests of lists that are false

pub neither : {a b : Bool} → a ≡ false → b ≡ false → a || b ≡ false
neither p q = cc

pub none_left : {X : Type 0} (t : X → Bool) (xs ys : List X) → list_any t (xs ++ ys) ≡ false → list_any t xs ≡ false
none_left t [] ys e = refl
none_left t (x ∷ xs) ys e = neither (not_left (t x) (list_any t (xs ++ ys)) e) (none_left t xs ys (not_right (t x) (list_any t (xs ++ ys)) e))

pub none_right : {X : Type 0} (t : X → Bool) (xs ys : List X) → list_any t (xs ++ ys) ≡ false → list_any t ys ≡ false
none_right t [] ys e = e
none_right t (x ∷ xs) ys e = none_right t xs ys (not_right (t x) (list_any t (xs ++ ys)) e)

pub none_both : {X : Type 0} (t : X → Bool) (xs ys : List X) → list_any t xs ≡ false → list_any t ys ≡ false → list_any t (xs ++ ys) ≡ false
none_both t [] ys e g = g
none_both t (x ∷ xs) ys e g = neither (not_left (t x) (list_any t xs) e) (none_both t xs ys (not_right (t x) (list_any t xs) e) g)

pub none_never : {X : Type 0} (xs : List X) → list_any (λ x. false) xs ≡ false
none_never [] = refl
none_never (x ∷ xs) = none_never xs

-- ---- each with those behind it

pub each_left : {X : Type 0} (P Q : List X → X → Type 0) (ys : List X) → ((behind : List X) (x : X) → P (behind ++ ys) x → Q behind x) → (xs : List X) → EachWith P (xs ++ ys) → EachWith Q xs
each_left P Q ys change [] each = tt
each_left P Q ys change (x ∷ xs) each = (change xs x each.0, each_left P Q ys change xs each.1)

pub each_right : {X : Type 0} (P : List X → X → Type 0) (xs ys : List X) → EachWith P (xs ++ ys) → EachWith P ys
each_right P [] ys each = each
each_right P (x ∷ xs) ys each = each_right P xs ys each.1

pub each_as : {X : Type 0} (P Q : List X → X → Type 0) → ((behind : List X) (x : X) → P behind x → Q behind x) → (xs : List X) → EachWith P xs → EachWith Q xs
each_as P Q change [] each = tt
each_as P Q change (x ∷ xs) each = (change xs x each.0, each_as P Q change xs each.1)

abbrev pub Apart : List AbsElement → Type 0
Apart xs = EachWith (λ behind x. list_any (same_element x) behind ≡ false) xs

-- ---- places

pub next_place : (s : Bits) (o : Option ℕ) → at_place s (option_map (λ k. suc k) o) ≡ at_place (λ k. s (suc k)) o
next_place s None = refl
next_place s (Some k) = refl

-- ---- elements

pub flip : (x y : AbsElement) → same_element x y ≡ same_element y x
flip x y = same_tests (same_element x y) (same_element y x) (turned x y) (turned y x)
  where
    turned : (x y : AbsElement) → same_element x y ≡ true → same_element y x ≡ true
    turned x y e =
        let is : element x.family x.indexes ≡ element y.family y.indexes = ap (λ (k : ℕ). element k x.indexes) (same_element-family x y e) ∙ ap (element y.family) (same_element-indexes x y e) in
        subst (λ (z : AbsElement). same_element y z ≡ true) (sym is) (same_element-itself y)

pub none_flip : (x : AbsElement) (ws : List AbsElement) → list_any (λ w. same_element w x) ws ≡ list_any (same_element x) ws
none_flip x ws = λ i. list_any (λ w. flip w x i) ws

module _ (c : PosedCase) (is : IsCase c) where
  abbrev values : AbsElement → List Place
  values x = values_of c.problem.world x

  pub put_state : (x : AbsElement) (v : Place) (a : AbsState) → Has c.elements x → Has (values x) v → IsState c a → IsState c (put x v a)
  put_state x v a h of state = record {
    is_somewhere = λ family f e ps k. at family f e ps k (same_element (element family ps) x) refl;
    is_unread = λ family ps k. beside family ps k (same_element (element family ps) x) refl;
  }
    where
      at : (family : ℕ) (f : Family) → slice_get c.problem.world.classes.families family ≡ Some f → (ps : List Place) → c.problem.kept family ps ≡ true →
          (t : Bool) → same_element (element family ps) x ≡ t → Has (places_in c.problem.world f.value) (cond t v (a family ps))
      at family f e ps k true same =
          let at_x : slice_get c.problem.world.classes.families x.family ≡ Some f = subst (λ (n : ℕ). slice_get c.problem.world.classes.families n ≡ Some f) (same_element-family (element family ps) x same) e in
          subst (λ (places : List Place). Has places v) (ap (values_in c.problem.world) at_x) of
      at family f e ps k false same = state.is_somewhere family f e ps k

      beside : (family : ℕ) (ps : List Place) → c.problem.kept family ps ≡ false → (t : Bool) → same_element (element family ps) x ≡ t → cond t v (a family ps) ≡ named (number 0)
      beside family ps k true same =
          absurd (clash (ap (λ (keeps : ℕ → List Place → Bool). keeps family ps) is.are_kept ∙ any-found (same_element (element family ps)) h same) k)
      beside family ps k false same = state.is_unread family ps k

  pub put_self : (x : AbsElement) (v : Place) (a : AbsState) → put x v a x.family x.indexes ≡ v
  put_self x v a = rw (same_element-itself x) refl

  pub put_other : (x : AbsElement) (v : Place) (a : AbsState) (family : ℕ) (ps : List Place) → same_element (element family ps) x ≡ false → put x v a family ps ≡ a family ps
  put_other x v a family ps e = rw e refl

  pub put_same : (x : AbsElement) (a : AbsState) → put x (a x.family x.indexes) a ≡ a
  put_same x a = λ i family ps. at family ps (same_element (element family ps) x) refl i
    where
      at : (family : ℕ) (ps : List Place) (t : Bool) → same_element (element family ps) x ≡ t → cond t (a x.family x.indexes) (a family ps) ≡ a family ps
      at family ps true e = sym (ap (λ (k : ℕ). a k ps) (same_element-family (element family ps) x e) ∙ ap (a x.family) (same_element-indexes (element family ps) x e))
      at family ps false e = refl

  -- the value of an element is one of its type
  pub own_value : (x : AbsElement) (a : AbsState) → Has c.elements x → IsState c a → Has (values x) (a x.family x.indexes)
  own_value x a h state =
      let r = is.have_values x h in
      subst (λ (places : List Place). Has places (a x.family x.indexes)) (sym (ap (values_in c.problem.world) r.1))
      (state.is_somewhere x.family r.0 r.1 x.indexes (ap (λ (keeps : ℕ → List Place → Bool). keeps x.family x.indexes) is.are_kept ∙ any-found (same_element (element x.family x.indexes)) h (same_element-itself x)))

  pub has_head : {X : Type 0} (xs : List X) (d v : X) → Has xs v → Has xs (get_or xs 0 d)
  has_head [] d v h = elim h [ ]
  has_head (x ∷ xs) d v h = first

  -- an element whose own value is allowed meets its demands, and the other way round
  pub meets : (demands : List Demanded) (old : Option AbsState) (a : AbsState) (x : AbsElement) → Has (allowed c demands old a x) (a x.family x.indexes) → list_all (is_met c.problem old a) (those_of demands x) ≡ true
  meets demands old a x h =
      ap (λ (b : AbsState). list_all (is_met c.problem old b) (those_of demands x)) (sym (put_same x a))
      ∙ (Has-from_filter (λ v. list_all (is_met c.problem old (put x v a)) (those_of demands x)) (values x) h).1

  pub is_allowed : (demands : List Demanded) (old : Option AbsState) (a : AbsState) (x : AbsElement) → Has c.elements x → IsState c a → list_all (is_met c.problem old a) (those_of demands x) ≡ true → Has (allowed c demands old a x) (a x.family x.indexes)
  is_allowed demands old a x h state met =
      Has-filter (λ v. list_all (is_met c.problem old (put x v a)) (those_of demands x)) (own_value x a h state)
      (ap (λ (b : AbsState). list_all (is_met c.problem old b) (those_of demands x)) (put_same x a) ∙ met)

  -- ---- elements that are worked out

  module _ (demands : List Demanded) (old : Option AbsState) where
    -- what is asked of an element that is worked out
    pub record Works (behind : List AbsElement) (x : AbsElement) : Type 0 where
      pub some : (a : AbsState) → IsState c a → (v : Place) × Has (allowed c demands old a x) v
      pub same : (a b : AbsState) → IsState c a → IsState c b → AgreeBeside (x ∷ behind) a b → allowed c demands old a x ≡ allowed c demands old b x

    -- what then holds of the state
    pub record IsWorked (xs : List AbsElement) (a f : AbsState) : Type 0 where
      pub is_state : IsState c f
      pub agrees : AgreeBeside xs f a
      pub each : (x : AbsElement) → Has xs x → Has (allowed c demands old f x) (f x.family x.indexes)

    pub worked : (xs : List AbsElement) → EachWith Works xs → Apart xs → ((x : AbsElement) → Has xs x → Has c.elements x) → (a : AbsState) → IsState c a → IsWorked xs a (worked_out c demands xs old a)
    worked [] works apart are a state = record { is_state = state; agrees = λ family ps e. refl; each = λ x h. elim h [ ] }
    worked (x ∷ xs) works apart are a state =
        let d : Place = a x.family x.indexes in
        let v : Place = get_or (allowed c demands old a x) 0 d in
        let some = works.0.some a state in
        let of : Has (allowed c demands old a x) v = has_head (allowed c demands old a x) d some.0 some.1 in
        let b : AbsState = put x v a in
        let state_b = put_state x v a (are x first) (Has-from_filter (λ v. list_all (is_met c.problem old (put x v a)) (those_of demands x)) (values x) of).0 state in
        let more = worked xs works.1 apart.1 (λ y h. are y (later h)) b state_b in
        let f : AbsState = worked_out c demands xs old b in
        let agrees : AgreeBeside (x ∷ xs) f a = λ family ps e.
        more.agrees family ps (not_right (same_element (element family ps) x) (list_any (same_element (element family ps)) xs) e)
        ∙ put_other x v a family ps (not_left (same_element (element family ps) x) (list_any (same_element (element family ps)) xs) e) in
        let own : f x.family x.indexes ≡ v = more.agrees x.family x.indexes apart.0 ∙ put_self x v a in
        let allows : Has (allowed c demands old f x) (f x.family x.indexes) =
        subst (Has (allowed c demands old f x)) (sym own) (subst (λ (places : List Place). Has places v) (sym (works.0.same f a more.is_state state agrees)) of) in
        record {
          is_state = more.is_state;
          agrees = agrees;
          each = λ y h. at f allows more.each y h;
        }
      where
        at : (f : AbsState) → Has (allowed c demands old f x) (f x.family x.indexes) → ((y : AbsElement) → Has xs y → Has (allowed c demands old f y) (f y.family y.indexes)) →
            (y : AbsElement) → Has (x ∷ xs) y → Has (allowed c demands old f y) (f y.family y.indexes)
        at f own rest _ first = own
        at f own rest y (later h) = rest y h

  pub idle_works : (old : Option AbsState) → IsBefore c old → (behind : List AbsElement) (x : AbsElement) → CanGoOn c behind x → Works (c.problem.now ++ c.problem.before) old behind x
  idle_works old before behind x goes = record { some = λ a state. goes.some old a before state; same = λ a b sa sb agree. goes.same old a b before sa sb agree }

  -- ---- determined elements

  pub agree_itself : (xs : List AbsElement) (a : AbsState) → AgreeBeside xs a a
  agree_itself xs a family ps e = refl

  abbrev pub Determined : List AbsElement → List AbsElement → List AbsElement → AbsElement → Type 0
  Determined ys before behind x = IsDetermined c before (behind ++ ys) x

  -- these are worked out in each state that agrees with this one beside what is still to be worked out
  abbrev Stays : List AbsElement → List AbsElement → AbsState → Type 0
  Stays before rest a = (b : AbsState) → IsState c b → AgreeBeside rest a b → AreWorkedOut c before b

  pub record AreFound (before xs : List AbsElement) (a f : AbsState) : Type 0 where
    pub is_state : IsState c f
    pub agrees : AgreeBeside xs f a
    pub each : (y : AbsElement) → Has before y ⊎ Has xs y → Has (allowed c c.problem.now None f y) (f y.family y.indexes)

  pub found : (before xs ys : List AbsElement) → EachBetween (Determined ys) before xs → Apart (xs ++ ys) → ((x : AbsElement) → Has xs x → Has c.elements x) → (a : AbsState) → IsState c a → Stays before (xs ++ ys) a →
      AreFound before xs a (worked_out c c.problem.now xs None a)
  found before [] ys det apart are a state stays = record {
    is_state = state;
    agrees = λ family ps e. refl;
    each = λ y h. elim h [ inl l ↦ stays a state (agree_itself ys a) y l | inr r ↦ elim r [ ] ];
  }
  found before (x ∷ xs) ys det apart are a state stays =
      let d : Place = a x.family x.indexes in
      let v : Place = get_or (allowed c c.problem.now None a x) 0 d in
      let all = stays a state (agree_itself (x ∷ (xs ++ ys)) a) in
      let r = det.0 None None a a state state all (agree_itself (x ∷ (xs ++ ys)) a) in
      let of : Has (allowed c c.problem.now None a x) v = has_head (allowed c c.problem.now None a x) d r.0 (subst (λ (places : List Place). Has places r.0) (sym r.1) first) in
      let b : AbsState = put x v a in
      let state_b = put_state x v a (are x first) (Has-from_filter (λ v. list_all (is_met c.problem None (put x v a)) (those_of c.problem.now x)) (values x) of).0 state in
      let beside : (e : AbsState) → AgreeBeside (xs ++ ys) b e → AgreeBeside (x ∷ (xs ++ ys)) a e = λ e agree family ps n.
      sym (put_other x v a family ps (not_left (same_element (element family ps) x) (list_any (same_element (element family ps)) (xs ++ ys)) n))
      ∙ agree family ps (not_right (same_element (element family ps) x) (list_any (same_element (element family ps)) (xs ++ ys)) n) in
      let here : (e : AbsState) → IsState c e → AgreeBeside (xs ++ ys) b e → Has (allowed c c.problem.now None e x) (e x.family x.indexes) = λ e se agree.
      let q = det.0 None None a e state se all (beside e agree) in
      let own : v ≡ e x.family x.indexes = sym (put_self x v a) ∙ agree x.family x.indexes apart.0 in
      subst (Has (allowed c c.problem.now None e x)) own (subst (λ (places : List Place). Has places v) (q.1 ∙ sym q.2) of) in
      let more = found (x ∷ before) xs ys det.1 apart.1 (λ y h. are y (later h)) b state_b (λ e se agree y h. at e (here e se agree) (λ z k. stays e se (beside e agree) z k) y h) in
      record {
        is_state = more.is_state;
        agrees = λ family ps e.
            more.agrees family ps (not_right (same_element (element family ps) x) (list_any (same_element (element family ps)) xs) e)
            ∙ put_other x v a family ps (not_left (same_element (element family ps) x) (list_any (same_element (element family ps)) xs) e);
        each = λ y h. more.each y (moved y h);
      }
    where
      at : (e : AbsState) → Has (allowed c c.problem.now None e x) (e x.family x.indexes) → AreWorkedOut c before e → (y : AbsElement) → Has (x ∷ before) y → Has (allowed c c.problem.now None e y) (e y.family y.indexes)
      at e own rest _ first = own
      at e own rest y (later h) = rest y h

      turned : (y : AbsElement) → Has (x ∷ xs) y → Has (x ∷ before) y ⊎ Has xs y
      turned _ first = inl first
      turned y (later h) = inr h

      moved : (y : AbsElement) → Has before y ⊎ Has (x ∷ xs) y → Has (x ∷ before) y ⊎ Has xs y
      moved y h = elim h [ inl l ↦ inl (later l) | inr r ↦ turned y r ]

  -- one more is worked out
  with_one : (before : List AbsElement) (a : AbsState) (x : AbsElement) → Has (allowed c c.problem.now None a x) (a x.family x.indexes) → AreWorkedOut c before a → AreWorkedOut c (x ∷ before) a
  with_one before a x own all _ first = own
  with_one before a x own all y (later h) = all y h

  -- two states in which they are worked out agree in them where they agree in the others
  unique : (before xs ys : List AbsElement) → EachBetween (Determined ys) before xs → (a f : AbsState) → IsState c a → IsState c f → AreWorkedOut c before a →
      AreWorkedOut c xs a → AreWorkedOut c xs f → AgreeBeside (xs ++ ys) a f → AgreeBeside ys a f
  unique before [] ys det a f sa sf all wa wf agree = agree
  unique before (x ∷ xs) ys det a f sa sf all wa wf agree =
      let r = det.0 None None a f sa sf all agree in
      let one : a x.family x.indexes ≡ r.0 = one_of_one (subst (λ (places : List Place). Has places (a x.family x.indexes)) r.1 (wa x first)) in
      let two : f x.family x.indexes ≡ r.0 = one_of_one (subst (λ (places : List Place). Has places (f x.family x.indexes)) r.2 (wf x first)) in
      unique (x ∷ before) xs ys det.1 a f sa sf (with_one before a x (wa x first) all) (λ y h. wa y (later h)) (λ y h. wf y (later h))
      (λ family ps e. at (one ∙ sym two) family ps e (same_element (element family ps) x) refl)
    where
      at : a x.family x.indexes ≡ f x.family x.indexes → (family : ℕ) (ps : List Place) → list_any (same_element (element family ps)) (xs ++ ys) ≡ false →
          (t : Bool) → same_element (element family ps) x ≡ t → a family ps ≡ f family ps
      at own family ps e true same =
          let moved : (g : AbsState) → g family ps ≡ g x.family x.indexes = λ g. ap (λ (k : ℕ). g k ps) (same_element-family (element family ps) x same) ∙ ap (g x.family) (same_element-indexes (element family ps) x same) in
          moved a ∙ (own ∙ sym (moved f))
      at own family ps e false same = agree family ps (neither same e)

  -- where their demands of now are met behind some state, they are worked out
  met_found : (before xs ys : List AbsElement) → EachBetween (Determined ys) before xs → ((x : AbsElement) → Has xs x → Has c.elements x) → (old : Option AbsState) (a : AbsState) → IsState c a → AreWorkedOut c before a →
      ((x : AbsElement) → Has xs x → list_all (is_met c.problem old a) (those_of c.problem.now x) ≡ true) → AreWorkedOut c xs a
  met_found before [] ys det are old a sa all met y h = elim h [ ]
  met_found before (x ∷ xs) ys det are old a sa all met y h =
      let r = det.0 old None a a sa sa all (agree_itself (x ∷ (xs ++ ys)) a) in
      let own : Has (allowed c c.problem.now None a x) (a x.family x.indexes) = subst (λ (places : List Place). Has places (a x.family x.indexes)) (r.1 ∙ sym r.2) (is_allowed c.problem.now old a x (are x first) sa (met x first)) in
      with_one xs a x own (λ z k. met_found (x ∷ before) xs ys det.1 (λ w g. are w (later g)) old a sa (with_one before a x own all) (λ w g. met w (later g)) z k) y h

  -- and where they are worked out, their demands of now are met behind each state
  found_met : (before xs ys : List AbsElement) → EachBetween (Determined ys) before xs → (old : Option AbsState) (a : AbsState) → IsState c a → AreWorkedOut c before a → AreWorkedOut c xs a →
      (x : AbsElement) → Has xs x → list_all (is_met c.problem old a) (those_of c.problem.now x) ≡ true
  found_met before [] ys det old a sa all wa y h = elim h [ ]
  found_met before (x ∷ xs) ys det old a sa all wa y h =
      let r = det.0 None old a a sa sa all (agree_itself (x ∷ (xs ++ ys)) a) in
      let own = meets c.problem.now old a x (subst (λ (places : List Place). Has places (a x.family x.indexes)) (r.1 ∙ sym r.2) (wa x first)) in
      at own (λ z k. found_met (x ∷ before) xs ys det.1 old a sa (with_one before a x (wa x first) all) (λ w g. wa w (later g)) z k) y h
    where
      at : list_all (is_met c.problem old a) (those_of c.problem.now x) ≡ true → ((z : AbsElement) → Has xs z → list_all (is_met c.problem old a) (those_of c.problem.now z) ≡ true) →
          (y : AbsElement) → Has (x ∷ xs) y → list_all (is_met c.problem old a) (those_of c.problem.now y) ≡ true
      at own rest _ first = own
      at own rest y (later h) = rest y h

  none_before : (a : AbsState) → AreWorkedOut c [] a
  none_before a y h = elim h [ ]

  pub all_found : (xs ys : List AbsElement) → EachBetween (Determined ys) [] xs → Apart (xs ++ ys) → ((x : AbsElement) → Has xs x → Has c.elements x) → (a : AbsState) → IsState c a → AreFound [] xs a (worked_out c c.problem.now xs None a)
  all_found xs ys det apart are a state = found [] xs ys det apart are a state (λ b sb agree. none_before b)

  pub all_met : (xs ys : List AbsElement) → EachBetween (Determined ys) [] xs → (old : Option AbsState) (a : AbsState) → IsState c a → AreWorkedOut c xs a → (x : AbsElement) → Has xs x → list_all (is_met c.problem old a) (those_of c.problem.now x) ≡ true
  all_met xs ys det old a sa wa x h = found_met [] xs ys det old a sa (none_before a) wa x h

  -- determined elements, worked out from a state that agrees with one whose demands are met, are as they are there
  pub follows : (xs ys : List AbsElement) → EachBetween (Determined ys) [] xs → Apart (xs ++ ys) → ((x : AbsElement) → Has xs x → Has c.elements x) → (old : Option AbsState) (a b : AbsState) → IsState c a → IsState c b →
      ((x : AbsElement) → Has xs x → list_all (is_met c.problem old a) (those_of c.problem.now x) ≡ true) → AgreeBeside (xs ++ ys) b a → AgreeBeside ys (worked_out c c.problem.now xs None b) a
  follows xs ys det apart are old a b sa sb met agree =
      let w = all_found xs ys det apart are b sb in
      let f : AbsState = worked_out c c.problem.now xs None b in
      unique [] xs ys det f a w.is_state sa (none_before f) (λ x h. w.each x (inr h)) (λ x h. met_found [] xs ys det are old a sa (none_before a) met x h)
      (λ family ps e. w.agrees family ps (none_left (same_element (element family ps)) xs ys e) ∙ agree family ps e)

  -- ---- places

  -- the assignment of places that has these bits
  abbrev pub gathered : List ℕ → Bits → Bits
  gathered order t k = t (get_or order k 0)

  pub spread_gathered : (order : List ℕ) (t : Bits) (b : ℕ) → Has order b → spread order (gathered order t) b ≡ t b
  spread_gathered [] t b h = elim h [ ]
  spread_gathered (x ∷ xs) t b h = at (nat_eq b x) refl (λ k. spread_gathered xs t b k)
    where
      there : nat_eq b x ≡ false → Has (x ∷ xs) b → Has xs b
      there e k = elim (Has-uncons k) [ inl i ↦ absurd (clash (subst (λ (y : ℕ). nat_eq b y ≡ true) i (nat_eq-itself b)) e) | inr l ↦ l ]

      at : (p : Bool) → nat_eq b x ≡ p → (Has xs b → spread xs (gathered xs t) b ≡ t b) → at_place (gathered (x ∷ xs) t) (cond p (Some 0) (option_map (λ k. suc k) (place_of (nat_eq b) xs))) ≡ t b
      at true e goes = ap t (sym (nat_eq-is b x e))
      at false e goes = next_place (gathered (x ∷ xs) t) (place_of (nat_eq b) xs) ∙ goes (there e h)

  module _ (o : Arrangement) (places : (slot : Slot) → Has (slots c) slot → list_any (same_element slot.element) (o.determined ++ o.idle) ≡ false → (i : ℕ) → i < bits_of c.problem.world slot.element → Has o.order (slot.bit + i)) (t : Bits) where
    abbrev ws : List AbsElement
    ws = o.determined ++ o.idle

    abbrev s : Bits
    s = spread o.order (gathered o.order t)

    code_gathered : (slot : Slot) → Has (slots c) slot → list_any (same_element slot.element) ws ≡ false → code_of c.problem.world s slot ≡ code_of c.problem.world t slot
    code_gathered slot h e = code_agree s t slot.bit (bits_of c.problem.world slot.element) (λ v le lt.
        let i : ℕ = v - slot.bit in
        let at : slot.bit + i ≡ v = omega arith in
        let less : i < bits_of c.problem.world slot.element = omega arith in
        spread_gathered o.order t v (subst (Has o.order) at (places slot h e i less)))

    pub value_gathered : (slot : Slot) → Has (slots c) slot → list_any (same_element slot.element) ws ≡ false → is_value c.problem.world s slot ≡ is_value c.problem.world t slot
    value_gathered slot h e = ap (λ (k : ℕ). nat_lt k (length (values slot.element))) (code_gathered slot h e)

    pub reading_gathered : AgreeBeside ws (reading c s) (reading c t)
    reading_gathered family ps e = elim (none_or_some (find (λ slot. same_element (element family ps) slot.element) (slots c))) [
      | inl none ↦ reads_slot c s family ps None none ∙ sym (reads_slot c t family ps None none)
      | inr found ↦
          let slot = found.0 in
          let there = find-some (λ slot. same_element (element family ps) slot.element) (slots c) found.1 in
          let has : list_any (same_element slot.element) ws ≡ false =
          ap (λ (k : ℕ). list_any (same_element (element k slot.element.indexes)) ws) (sym (same_element-family (element family ps) slot.element there.1))
          ∙ (ap (λ (q : List Place). list_any (same_element (element family q)) ws) (sym (same_element-indexes (element family ps) slot.element there.1)) ∙ e) in
          reads_slot c s family ps (Some slot) found.1
          ∙ (ap (value_of_code (values slot.element)) (code_gathered slot there.0 has) ∙ sym (reads_slot c t family ps (Some slot) found.1))
    ]
