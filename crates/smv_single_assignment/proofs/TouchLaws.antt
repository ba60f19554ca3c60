-- Assignments whose links do not reach a part of the list have none of their class and kind there.
use Rattle.std.proofs.Common.{◌≡◌, ◌≤◌, ◌<◌, ℕ, ◌+◌, ◌-◌, List, length, get_or, Bool, true, false, refl, ap, sym, ◌∙◌, arith, subst, ◌⊎◌, inl, inr}
use Rattle.std.specs.Prelude.{Some, slice_get}
use Rattle.std.proofs.lemmas.Bool.{cases_eq}
use Rattle.std.proofs.lemmas.Option.{slice_get_within}
use Rattle.law_lists.proofs.Booleans.{left_of, right_of}
use Rattle.law_lists.proofs.Places.{get_there}
use Rattle.smv_core.specs.Walk.{same_kind}
use Rattle.smv_core.specs.declared.tree.Kind.{Kind}
use Rattle.smv_core.specs.declared.tree.Kind.TheVariants.{Comb, Init, Next}
use Rattle.law_designs.specs.Standing.{Standing}
use Rattle.law_designs.specs.SingleFaults.{may_meet, meet}
use Rattle.smv_single_assignment.specs.declared.links.Table.{Table}
use Rattle.smv_single_assignment.specs.Links.{AreClassed, IsBehind, IsTable, held, links_of}
use Rattle.smv_single_assignment.specs.Shared.{AreApart}
use Rattle.smv_single_assignment.proofs.LinkLaws.{got-same}
use Rattle.smv_single_assignment.proofs.EarlierLaws.{cases_le}

-- what a link tells
pub told : (t : Table) (count : ℕ) → IsTable t count → (kind : Kind) (links : _) → links ≡ links_of kind t → (i : ℕ) → i < length (held t) → IsBehind (held t) t.classes.items kind (get_or t.classes.items i 0) i (get_or links i 0)
told t count table kind links is i lt =
    subst (λ l. IsBehind (held t) t.classes.items kind (get_or t.classes.items i 0) i (get_or l i 0)) (sym is) ((table.linked kind).behind i (omega (arith, lt, (table.linked kind).each)))

one-kind : (a b : Kind) → same_kind a b ≡ true → a ≡ b
one-kind Comb Comb e = refl
one-kind Init Init e = refl
one-kind Next Next e = refl
one-kind Comb Init e = cc
one-kind Comb Next e = cc
one-kind Init Comb e = cc
one-kind Init Next e = cc
one-kind Next Comb e = cc
one-kind Next Init e = cc

module _ (all : List Standing) (classes : List ℕ) (start middle : ℕ) where
  -- none of them has one of its class and kind between the two places
  abbrev pub AreUntouched : ℕ → Type 0
  AreUntouched end = (i j : ℕ) (a b : Standing) → slice_get all i ≡ Some a → slice_get all j ≡ Some b → start ≤ i → i < middle → middle ≤ j → j < end → get_or classes i 0 ≡ get_or classes j 0 → same_kind a.kind b.kind ≡ false

  pub untouched-more : (place last : ℕ) (b : Standing) → slice_get all place ≡ Some b → middle ≤ place → IsBehind all classes b.kind (get_or classes place 0) place last → (start < last → last ≤ middle → ⊥) → AreUntouched place → AreUntouched (place + 1)
  untouched-more place last b here le behind miss untouched i j a c got there from before after lt one = by (cases_eq j place)
    where
      further : i < place → (last ≤ start) ⊎ (start < last) → get_or classes i 0 ≡ get_or classes place 0 → same_kind a.kind b.kind ≡ false
      further below (inl low) one = behind.last i a got (omega (arith, low, from)) below one
      further below (inr high) one = past (cases_le last middle)
        where
          past : (last ≤ middle) ⊎ (middle < last) → same_kind a.kind b.kind ≡ false
          past (inl near) = absurd (miss high near)
          past (inr far) =
              let some : 0 < last = omega (arith, far) in
              let inner : last - 1 < length all = omega (arith, some, behind.before, slice_get_within all place b here) in
              let d : Standing = (get_there all (last - 1) inner).0 in
              let got_d : slice_get all (last - 1) ≡ Some d = (get_there all (last - 1) inner).1 in
              let kind : d.kind ≡ b.kind = one-kind d.kind b.kind (behind.of_kind some d got_d) in
              ap (same_kind a.kind) (sym kind) ∙ untouched i (last - 1) a d got got_d from before (omega (arith, far)) (omega (arith, some, behind.before)) (one ∙ sym (behind.here some))

      by : (j ≡ place) ⊎ (j ≡ place → ⊥) → same_kind a.kind c.kind ≡ false
      by (inl is) =
          let it : b ≡ c = got-same all place b c here (ap (slice_get all) (sym is) ∙ there) in
          ap (λ (x : Standing). same_kind a.kind x.kind) (sym it) ∙ further (omega (arith, before, le)) (cases_le last start) (one ∙ ap (λ k. get_or classes k 0) is)
      by (inr not) = untouched i j a c got there from before after (omega (arith, lt, not)) one

  pub untouched-apart : (count end far : ℕ) → AreClassed all classes count → ((j : ℕ) → j < end → j < length all → j < far) → AreUntouched far → AreApart all start middle end
  untouched-apart count end far classed reach untouched i j a b got there from before after lt = by (meet a b) refl
    where
      by : (t : Bool) → meet a b ≡ t → t ≡ false
      by false e = refl
      by true e =
          let one : get_or classes i 0 ≡ get_or classes j 0 = classed.together i j a b got there (right_of (same_kind a.kind b.kind) (may_meet a b) e) in
          let miss = untouched i j a b got there from before after (reach j lt (slice_get_within all j b there)) one in
          let hit : same_kind a.kind b.kind ≡ true = left_of (same_kind a.kind b.kind) (may_meet a b) e in
          absurd (cc)
