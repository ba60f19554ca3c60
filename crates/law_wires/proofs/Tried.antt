-- Why one element more is determined: by the views of states in which those before it are worked out, and since what is not read does not matter.
use Rattle.std.proofs.Common.{◌≡◌, ℕ, List, [], ◌∷◌, ◌++◌, Bool, true, false, refl, sym, ap, subst, ◌∙◌, inl, inr, Option, Some, None, if◌then◌else◌}
use Rattle.std.proofs.lemmas.Bool.{cases_Bool}
use Rattle.std.specs.Prelude.{get_or}
use Rattle.std.specs.List.{filter, list_any, list_all}
use Rattle.law_lists.proofs.Booleans.{clash, not_left}
use Rattle.law_lists.proofs.Lists.{append_again}
use Rattle.law_obligations.specs.Sets.{Has, first, later}
use Rattle.law_obligations.specs.Places.{Place}
use Rattle.law_obligations.specs.May.{AbsState, Kept}
use Rattle.law_obligations.specs.Obligations.{Demanded, defined, holds, is_met}
use Rattle.law_obligations.specs.Cones.{AbsElement, element, same_element}
use Rattle.law_obligations.specs.Bits.{Bits}
use Rattle.law_obligations.specs.Readings.{PosedCase, IsCase, values_of, reading}
use Rattle.law_obligations.proofs.Lookups.{Has-from_filter}
use Rattle.law_obligations.proofs.Members.{Has-left, Has-right, any-found, any-some}
use Rattle.law_obligations.proofs.ReadBack.{reading_is_state, state_is_read}
use Rattle.law_reports.specs.CaseLists.{defines, those_of}
use Rattle.law_arrangements.specs.Arrangements.{Arrangement, put, AgreeBeside, EachBetween, spread, allowed, worked_out, AreWorkedOut, IsDetermined, view}
use Rattle.law_arrangements.specs.Laws.{gathered}
use Rattle.law_arrangements.proofs.Views.{all_met, follows, reading_gathered}
use Rattle.law_obligations.specs.Pictures.{KeepsNamed}
use Rattle.law_reads.specs.Reading.{TellSame, HaveValues, read_now, OwnSame}
use Rattle.law_reads.proofs.Lists.{all_in}
use Rattle.law_reads.proofs.Demands.{met_same}
use Rattle.law_wires.proofs.Put.{put_other, put_at, filter_alike}
use Rattle.law_wires.specs.Tries.{PassesOnce, trying, keeping, meets_with, AreDetermined, IsTry, ReadsDone, KeepsBeside}

-- ---- lists that grow

worked_behind : (c : PosedCase) (demands : List Demanded) (xs : List AbsElement) (x : AbsElement) (old : Option AbsState) (a : AbsState) → worked_out c demands (xs ++ x ∷ []) old a ≡ worked_out c demands (x ∷ []) old (worked_out c demands xs old a)
worked_behind c demands [] x old a = refl
worked_behind c demands (y ∷ xs) x old a = worked_behind c demands xs x old (put y (get_or (allowed c demands old a y) 0 (a y.family y.indexes)) a)

grown : (c : PosedCase) (x : AbsElement) (left before done : List AbsElement) → EachBetween (λ before behind y. IsDetermined c before (behind ++ x ∷ left) y) before done →
    ((front : List AbsElement) → ((y : AbsElement) → Has done y → Has front y) → ((y : AbsElement) → Has before y → Has front y) → IsDetermined c front left x) →
    EachBetween (λ before behind y. IsDetermined c before (behind ++ left) y) before (done ++ x ∷ [])
grown c x left before [] each own = (own before (λ y h. elim h [ ]) (λ y h. h), tt)
grown c x left before (y ∷ done) each own = (
  subst (λ behind. IsDetermined c before behind y) (sym (append_again done left x)) each.0,
  grown c x left (y ∷ before) done each.1 (λ front of_done of_before. own front (moved front of_done of_before) (λ z h. of_before z (later h))),
)
  where
    moved : (front : List AbsElement) → ((z : AbsElement) → Has done z → Has front z) → ((z : AbsElement) → Has (y ∷ before) z → Has front z) → (z : AbsElement) → Has (y ∷ done) z → Has front z
    moved front of_done of_before _ first = of_before y first
    moved front of_done of_before z (later h) = of_done z h

-- ---- views

pub view_agrees : (c : PosedCase) → IsCase c → (order : List ℕ) (done : List AbsElement) (x : AbsElement) (left : List AbsElement) → IsTry c order done x left → (t : Bits) → AreWorkedOut c done (reading c t) →
    AgreeBeside (x ∷ left) (view c (trying order done (x ∷ left)) (gathered (trying order done (x ∷ left)) t)) (reading c t)
view_agrees c is order done x left try t worked =
    let o : Arrangement = trying order done (x ∷ left) in
    follows c is done (x ∷ left) try.are_determined try.are_apart (λ y h. try.are_elements y (Has-left (x ∷ left) h)) None (reading c t) (reading c (spread order (gathered o t))) (reading_is_state c is t)
    (reading_is_state c is (spread order (gathered o t))) (all_met c is done (x ∷ left) try.are_determined None (reading c t) (reading_is_state c is t) worked) (reading_gathered c is o try.have_places t)

module _ (c : PosedCase) (is : IsCase c) (keeps : KeepsNamed c.problem.world c.problem.kept) (have : HaveValues c.problem.world) (order : List ℕ) (done : List AbsElement) (x : AbsElement) (left : List AbsElement)
    (try : IsTry c order done x left) (reads : ReadsDone c x left) where
  abbrev o : Arrangement
  o = trying order done (x ∷ left)

  tried_in : (y : AbsElement) → Has (x ∷ left) y → Has c.elements y
  tried_in y h = try.are_elements y (Has-right done h)

  -- ---- what the cells keep

  module _ (other : Kept) (beside : KeepsBeside c (x ∷ left) other) where
    keeps_other : KeepsNamed c.problem.world other
    keeps_other family f there ps k = elim (cases_Bool (list_any (same_element (element family ps)) (x ∷ left))) [
      | inl e ↦
          let r = any-some (same_element (element family ps)) (x ∷ left) e in
          keeps family f there ps (ap (λ (keeps : ℕ → List Place → Bool). keeps family ps) is.are_kept ∙ any-found (same_element (element family ps)) (tried_in r.0 r.1) r.2)
      | inr e ↦ keeps family f there ps (sym (beside family ps e) ∙ k)
    ]

    -- a value meets the demands in one state as it does in another that is the same beside the tried element and those left
    same_tests : (old : Option AbsState) (a b : AbsState) → AgreeBeside (x ∷ left) a b → (v : Place) → list_all (is_met c.problem old (put x v a)) (those_of c.problem.now x) ≡ meets_with c other b x v
    same_tests old a b agree v =
        all_in (is_met c.problem old (put x v a)) (is_met (keeping c other) None (put x v b)) (those_of c.problem.now x)
        (λ demand k. met_same c.problem other have keeps keeps_other old None (put x v a) (put x v b) demand (record { tells = tells demand k; own = own demand (Has-from_filter (defines x) c.problem.now k).1 })
        (λ e. absurd (clash (reads.are_at_once demand k) e)))
      where
        tells : (demand : Demanded) → Has (those_of c.problem.now x) demand → TellSame c.problem.kept (put x v a) other (put x v b) (read_now c.problem.world demand)
        tells demand k y h =
            let none = reads.are_read demand k y h in
            let apart : same_element (element y.family y.indexes) x ≡ false = not_left (same_element y x) (list_any (same_element y) left) none in
            ap (λ (p : Place). if c.problem.kept y.family y.indexes then Some p else None) (put_other x v a y.family y.indexes apart ∙ (agree y.family y.indexes none ∙ sym (put_other x v b y.family y.indexes apart)))
            ∙ ap (λ (t : Bool). if t then Some (put x v b y.family y.indexes) else None) (sym (beside y.family y.indexes none))

        own : (demand : Demanded) → defines x demand ≡ true → OwnSame (put x v a) (put x v b) demand
        own (defined def indexes) e = put_at x v a (element def.family indexes) e ∙ sym (put_at x v b (element def.family indexes) e)
        own (holds body b) e = tt

    same_allowed : (old : Option AbsState) (a b : AbsState) → AgreeBeside (x ∷ left) a b → allowed c c.problem.now old a x ≡ filter (meets_with c other b x) (values_of c.problem.world x)
    same_allowed old a b agree =
        filter_alike (λ v. list_all (is_met c.problem old (put x v a)) (those_of c.problem.now x)) (meets_with c other b x) (values_of c.problem.world x) (same_tests old a b agree)

    -- ---- the tried element

    module _ (once : (s : Bits) → PassesOnce (meets_with c other (view c o s) x) (values_of c.problem.world x)) where
      tried : (front : List AbsElement) → ((y : AbsElement) → Has done y → Has front y) → IsDetermined c front left x
      tried front of_done old before a b sa sb worked agree =
          let read = state_is_read c is a sa in
          let t : Bits = read.0 in
          let is_a : reading c t ≡ a = read.2 in
          let own = once (gathered o t) in
          let near : AgreeBeside (x ∷ left) a (view c o (gathered o t)) =
          λ family ps e. sym (ap (λ (s : AbsState). s family ps) is_a) ∙ sym (view_agrees c is order done x left try t (subst (AreWorkedOut c done) (sym is_a) (λ y h. worked y (of_done y h))) family ps e) in (
            own.0,
            same_allowed old a (view c o (gathered o t)) near ∙ own.1,
            same_allowed before b (view c o (gathered o t)) (λ family ps e. sym (agree family ps e) ∙ near family ps e) ∙ own.1,
          )

      pub all_determined : AreDetermined c (done ++ x ∷ []) left
      all_determined = grown c x left [] done try.are_determined (λ front of_done of_before. tried front of_done)

    -- ---- its value

    pub has_value : (s : Bits) (v : Place) → filter (meets_with c other (view c o s) x) (values_of c.problem.world x) ≡ v ∷ [] → view c (trying order (done ++ x ∷ []) left) s ≡ put x v (view c o s)
    has_value s v e =
        worked_behind c c.problem.now done x None (reading c (spread order s))
        ∙ ap (λ (l : List Place). put x (get_or l 0 (view c o s x.family x.indexes)) (view c o s)) (same_allowed None (view c o s) (view c o s) (λ family ps k. refl) ∙ e)
