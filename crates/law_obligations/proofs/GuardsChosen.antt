-- Values of the parameters that splits add, at which each guard holds: one after the other, since a guard reads only the parameters before its own.
use Rattle.std.proofs.Common.{◌≡◌, ℕ, suc, ◌+◌, ◌<◌, ◌≤◌, List, [], ◌∷◌, ◌++◌, map, length, get_or, true, false, refl, sym, ap, subst, ◌∙◌, ◌⊎◌, inl, inr, arith, Some, nat_eq}
use Rattle.std.specs.List.{slice_get}
use Rattle.std.proofs.lemmas.List.{length-append}
use Rattle.std.proofs.lemmas.Option.{slice_get_within}
use Rattle.std.proofs.lemmas.Bool.{cases_Bool}
use Rattle.law_lists.proofs.Numbers.{nat_eq-not, nat_eq-is}
use Rattle.law_lists.proofs.Options.{some_is}
use Rattle.law_lists.proofs.Lists.{length_map, append_again}
use Rattle.smv_core.specs.Values.{Value, number}
use Rattle.smv_core.specs.FlatMeaning.{Numbered, FlatState, values_in, flat_outcome}
use Rattle.smv_core.specs.declared.flat.Guard.{Guard}
use Rattle.smv_core.specs.declared.flat.Simple.{Simple as FlatSimple}
use Rattle.law_obligations.specs.Sets.{Has, first, later, one_of_each}
use Rattle.law_obligations.specs.Scopes.{before, ReadsOnly}
use Rattle.law_obligations.specs.Guards.{is_or_outside, guard_holds, AreGuards}
use Rattle.law_obligations.proofs.OneOfEach.{AreOf, are_of, one_of, are_long, get_after, value_after, get_before}
use Rattle.law_obligations.proofs.ScopesKeep.{Agree, outcome_alike}
use Rattle.law_obligations.proofs.GuardsKeep.{guard_met}

is_below : (k var : ℕ) → before var k ≡ true → k < var
is_below k var h = grind arith

-- the guard of a parameter, if there is one
guard_of : (k : ℕ) (gs : List Guard) → ((g : Guard) × Has gs g × (g.var ≡ k)) ⊎ ((g : Guard) → Has gs g → g.var ≡ k → ⊥)
guard_of k [] = inr (λ g h e. elim h [ ])
guard_of k (g ∷ gs) = at (cases_Bool (nat_eq g.var k)) (guard_of k gs)
  where
    past : nat_eq g.var k ≡ false → ((h : Guard) → Has gs h → h.var ≡ k → ⊥) → (h : Guard) → Has (g ∷ gs) h → h.var ≡ k → ⊥
    past e none _ first i = nat_eq-not g.var k e i
    past e none h (later l) i = none h l i

    at : (nat_eq g.var k ≡ true) ⊎ (nat_eq g.var k ≡ false) → ((h : Guard) × Has gs h × (h.var ≡ k)) ⊎ ((h : Guard) → Has gs h → h.var ≡ k → ⊥) →
        ((h : Guard) × Has (g ∷ gs) h × (h.var ≡ k)) ⊎ ((h : Guard) → Has (g ∷ gs) h → h.var ≡ k → ⊥)
    at (inl e) r = inl (g, first, nat_eq-is g.var k e)
    at (inr e) (inl r) = inl (r.0, later r.1, r.2)
    at (inr e) (inr none) = inr (past e none)

module _ (n : Numbered) (s : FlatState) (guards : List Guard) (types : List FlatSimple) (of_type : (g : Guard) → Has guards g → slice_get types g.var ≡ Some g.over)
    (reads : (g : Guard) → Has guards g → ReadsOnly (before g.var) g.expr) (one_each : (g h : Guard) → Has guards g → Has guards h → g.var ≡ h.var → g ≡ h) where
  abbrev pub HoldsAt : List Value → Guard → Type 0
  HoldsAt b g = guard_holds n s g.over g.expr b (get_or b g.var (number 0)) ≡ true

  -- values for the types that are left, after these values
  pub record Added (vs : List Value) (left : List FlatSimple) : Type 0 where
    pub added : List Value
    pub are : AreOf (map (values_in n) left) added
    pub hold : (g : Guard) → Has guards g → length vs ≤ g.var → HoldsAt (vs ++ added) g

  abbrev AreFilled : List FlatSimple → Type 0
  AreFilled left = (t : FlatSimple) → Has left t → (v : Value) × Has (values_in n t) v

  filling : (left : List FlatSimple) → AreFilled left → (vs : List Value) × AreOf (map (values_in n) left) vs
  filling [] h = ([], tt)
  filling (t ∷ left) h = let v = h t first in let r = filling left (λ u k. h u (later k)) in (v.0 ∷ r.0, (v.1, r.1))

  -- a guard that was met before the later values were chosen
  still : (g : Guard) → Has guards g → (vs : List Value) → g.var ≡ length vs → (i : Value) (fill added : List Value) → length fill ≡ length added → (d : Value) →
      guard_holds n s g.over g.expr (vs ++ d ∷ fill) i ≡ true → HoldsAt (vs ++ i ∷ added) g
  still g h vs e i fill added same d met =
      subst (λ u. is_or_outside (values_in n g.over) u (get_or (vs ++ i ∷ added) g.var (number 0)) ≡ true)
      (outcome_alike n s g.expr (before g.var) (vs ++ d ∷ fill) (vs ++ i ∷ added) agree (reads g h))
      (subst (λ j. is_or_outside (values_in n g.over) (flat_outcome n s g.expr (vs ++ d ∷ fill)) j ≡ true)
      (sym (ap (λ k. get_or (vs ++ i ∷ added) k (number 0)) e ∙ value_after vs added i (number 0))) met)
    where
      agree : Agree (before g.var) (vs ++ d ∷ fill) (vs ++ i ∷ added)
      agree = record {
        long = length-append vs (d ∷ fill) ∙ (ap (λ k. length vs + suc k) same ∙ sym (length-append vs (i ∷ added)));
        alike = λ k is. get_before vs (d ∷ fill) (i ∷ added) k (subst (λ m. k < m) e (is_below k g.var is));
      }

  longer : (vs : List Value) (v : Value) → length (vs ++ v ∷ []) ≡ suc (length vs)
  longer vs v = length-append vs (v ∷ []) ∙ one_more (length vs)
    where
      one_more : (k : ℕ) → k + 1 ≡ suc k
      one_more k = omega arith

  -- one more value, chosen for this guard or for none
  with_one : (t : FlatSimple) (left : List FlatSimple) (vs : List Value) (i : Value) → Has (values_in n t) i → (r : Added (vs ++ i ∷ []) left) →
      ((g : Guard) → Has guards g → g.var ≡ length vs → HoldsAt (vs ++ i ∷ r.added) g) → Added vs (t ∷ left)
  with_one t left vs i h r here = record {
    added = i ∷ r.added;
    are = (h, r.are);
    hold = λ g k l. at g k (here_or_later g l);
  }
    where
      here_or_later : (g : Guard) → length vs ≤ g.var → (g.var ≡ length vs) ⊎ (suc (length vs) ≤ g.var)
      here_or_later g l = split (length vs) g.var l
        where
          split : (k m : ℕ) → k ≤ m → (m ≡ k) ⊎ (suc k ≤ m)
          split k m l = grind arith

      at : (g : Guard) → Has guards g → (g.var ≡ length vs) ⊎ (suc (length vs) ≤ g.var) → HoldsAt (vs ++ i ∷ r.added) g
      at g k (inl e) = here g k e
      at g k (inr l) = subst (λ b. HoldsAt b g) (append_again vs r.added i) (r.hold g k (subst (λ m. m ≤ g.var) (sym (longer vs i)) l))

  nil_right : (ts : List FlatSimple) → length (ts ++ []) ≡ length ts
  nil_right [] = refl
  nil_right (t ∷ ts) = ap suc (nil_right ts)

  one_longer : (ts : List FlatSimple) (t : FlatSimple) → length (ts ++ t ∷ []) ≡ suc (length ts)
  one_longer [] t = refl
  one_longer (u ∷ ts) t = ap suc (one_longer ts t)

  -- the next value, where the values after each choice of it are known
  one_step : (done left : List FlatSimple) (t : FlatSimple) → done ++ t ∷ left ≡ types → AreFilled (t ∷ left) → (vs : List Value) → length vs ≡ length done →
      ((i : Value) → Added (vs ++ i ∷ []) left) → Added vs (t ∷ left)
  one_step done left t e filled vs long next = at (guard_of (length vs) guards)
    where
      at : ((g : Guard) × Has guards g × (g.var ≡ length vs)) ⊎ ((g : Guard) → Has guards g → g.var ≡ length vs → ⊥) → Added vs (t ∷ left)
      at (inr none) = let d = filled t first in with_one t left vs d.0 d.1 (next d.0) (λ g h k. absurd (none g h k))
      at (inl (g, h, k)) =
          let d = filled t first in
          let is_over : t ≡ g.over = some_is (sym (get_after done left t) ∙ (ap (λ ts. slice_get ts (length done)) e ∙ (ap (slice_get types) (sym long ∙ sym k) ∙ of_type g h))) in
          let fill = filling left (λ u l. filled u (later l)) in
          let met = guard_met n s g.over g.expr (vs ++ d.0 ∷ fill.0) d.0 (subst (λ u. Has (values_in n u) d.0) is_over d.1) in
          let r = next met.0 in
          with_one t left vs met.0 (subst (λ u. Has (values_in n u) met.0) (sym is_over) met.1) r
          (λ f i j. subst (HoldsAt (vs ++ met.0 ∷ r.added)) (one_each g f h i (k ∙ sym j))
          (still g h vs k met.0 fill.0 r.added (are_long (map (values_in n) left) fill.0 fill.1 ∙ sym (are_long (map (values_in n) left) r.added r.are)) d.0 met.2))

  pub choose : (left done : List FlatSimple) → done ++ left ≡ types → AreFilled left → (vs : List Value) → length vs ≡ length done → Added vs left
  choose [] done e filled vs long = record {
    added = [];
    are = tt;
    hold = λ g h l. absurd (too_far g h l);
  }
    where
      too_far : (g : Guard) → Has guards g → length vs ≤ g.var → ⊥
      too_far g h l = let p = slice_get_within types g.var g.over (of_type g h) in let q = ap length e in let r = nil_right done in omega arith
  choose (t ∷ left) done e filled vs long = one_step done left t e filled vs long
      (λ i. choose left (done ++ t ∷ []) (append_again done left t ∙ e) (λ u k. filled u (later k)) (vs ++ i ∷ []) (longer vs i ∙ (ap suc long ∙ sym (one_longer done t))))

-- for each state and all values of the unit's parameters some values of the added ones meet every guard
pub guards_met : (n : Numbered) (own added : List FlatSimple) (guards : List Guard) → AreGuards (length own) (own ++ added) guards → ((t : FlatSimple) → Has added t → (v : Value) × Has (values_in n t) v) →
    (s : FlatState) (values : List Value) → Has (one_of_each (map (values_in n) own)) values →
    (more : List Value) × Has (one_of_each (map (values_in n) added)) more × ((g : Guard) → Has guards g → guard_holds n s g.over g.expr (values ++ more) (get_or (values ++ more) g.var (number 0)) ≡ true)
guards_met n own added guards are filled s values h =
    let long : length values ≡ length own = are_long (map (values_in n) own) values (are_of (map (values_in n) own) values h) ∙ length_map (values_in n) own in
    let r = choose n s guards (own ++ added) are.is_of_type are.reads_before are.one_each added own refl filled values long in
    (r.added, one_of (map (values_in n) added) r.added r.are, λ g k. r.hold g k (subst (λ m. m ≤ g.var) (sym long) (are.is_added g k)))
