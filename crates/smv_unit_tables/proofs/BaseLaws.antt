-- Base definitions, from one definition to the next.
use Rattle.std.proofs.Common.{◌≡◌, ℕ, zero, suc, ◌+◌, ◌<◌, ◌≢◌, List, [], ◌∷◌, length, drop, get_or, set, replicate, Bool, true, false, cond, ◌&&◌, ◌||◌, refl, ap, sym, subst, ◌∙◌, ◌⊎◌, inl, inr, Option, Some, None, filter, is_none, arith, add-one, drop-cons}
use Rattle.std.specs.List.{slice_get}
use Rattle.std.specs.Prelude.{slice_index_or}
use Rattle.std.proofs.lemmas.List.{get_or-set_other, get_or-set_same, length-set, length-replicate}
use Rattle.std.proofs.lemmas.Bool.{cases_eq}
use Rattle.std.proofs.lemmas.Grind.{common_steps}
use Rattle.std.proofs.lemmas.Option.{slice_get_within, slice_get_past}
use Rattle.law_lists.proofs.Numbers.{nat_eq-other}
use Rattle.law_lists.proofs.Places.{get_read}
use Rattle.smv_core.specs.declared.flat.Design.{Design}
use Rattle.smv_core.specs.declared.flat.Family.{Family}
use Rattle.smv_core.specs.declared.flat.Def.{Def}
use Rattle.law_obligations.specs.Outlines.{earlier, earliest, may_be_base, base_of}
use Rattle.smv_unit_tables.specs.Bases.{number_in, AreBases, AreBasesFrom}

any_default : (xs : List ℕ) (k a b : ℕ) → k < length xs → get_or xs k a ≡ get_or xs k b
any_default [] k a b h = absurd (omega arith)
any_default (x ∷ xs) zero a b h = refl
any_default (x ∷ xs) (suc k) a b h = any_default xs k a b (omega arith)

module _ (d : Design) where
  -- may be the base definition of a family
  abbrev fits : ℕ → Def → Bool
  fits family def = may_be_base d family (slice_get d.families family) def

  abbrev among : ℕ → List Def → Option Def
  among family defs = earliest (filter (fits family) defs)

  not_other : (family : ℕ) (o : Option Family) (def : Def) → family ≢ def.family → may_be_base d family o def ≡ false
  not_other family None def n = refl
  not_other family (Some f) def n = ap (λ b. b && (f.is_abstract || is_none def.layer)) (nat_eq-other def.family family n)

  -- what cannot be the base definition of it changes nothing
  skipped : (family : ℕ) (def : Def) (defs : List Def) → fits family def ≡ false → among family (def ∷ defs) ≡ among family defs
  skipped family def defs e = ap (λ b. earliest (cond b (def ∷ filter (fits family) defs) (filter (fits family) defs))) e

  taken : (family : ℕ) (def : Def) (defs : List Def) → fits family def ≡ true → among family (def ∷ defs) ≡ Some (earlier def (among family defs))
  taken family def defs e = ap (λ b. earliest (cond b (def ∷ filter (fits family) defs) (filter (fits family) defs))) e

  within_families : (def : Def) (o : Option Family) → slice_get d.families def.family ≡ o → may_be_base d def.family o def ≡ true → def.family < length d.families
  within_families def None is e = absurd (cc (e))
  within_families def (Some f) is e = slice_get_within d.families def.family f is

  pub base_within : (def : Def) → fits def.family def ≡ true → def.family < length d.families
  base_within def e = within_families def (slice_get d.families def.family) refl e

  module _ (place : ℕ) (def : Def) (old : List ℕ) (below : place < length d.defs) (is : def ≡ get_or d.defs place def) (known : AreBasesFrom d (place + 1) old) where
    front : drop place d.defs ≡ def ∷ drop (place + 1) d.defs
    front = drop-cons d.defs place def below ∙ ap (λ x. x ∷ drop (suc place) d.defs) (sym is) ∙ ap (λ n. def ∷ drop n d.defs) (sym (add-one place))

    pub added : (defs : List Def) → defs ≡ d.defs → (number other : ℕ) → fits def.family def ≡ true → other ≡ get_or old def.family other →
        ((x : Def) → slice_get defs place ≡ Some x → slice_get defs number ≡ Some (earlier x (slice_get defs other))) →
        AreBasesFrom d place (set old def.family number)
    added defs same number other may read of = record { room = length-set old def.family number ∙ known.room; each = λ family. at family (cases_eq family def.family) }
      where
        within : def.family < length old
        within = let l = base_within def may in let r = known.room in omega (arith, l, r)

        taking : slice_get d.defs number ≡ Some (earlier def (slice_get d.defs other))
        taking = subst (λ l. (x : Def) → slice_get l place ≡ Some x → slice_get l number ≡ Some (earlier x (slice_get l other))) same of def (get_read d.defs place def below is)

        there : slice_get d.defs other ≡ among def.family (drop (place + 1) d.defs)
        there = ap (slice_get d.defs) (read ∙ any_default old def.family other (length d.defs) within) ∙ known.each def.family

        at : (family : ℕ) → (family ≡ def.family) ⊎ (family ≡ def.family → ⊥) → slice_get d.defs (number_in d (set old def.family number) family) ≡ among family (drop place d.defs)
        at family (inl same) = subst (λ f. slice_get d.defs (number_in d (set old def.family number) f) ≡ among f (drop place d.defs)) (sym same)
            (ap (slice_get d.defs) (get_or-set_same old def.family number (length d.defs) within)
            ∙ taking
            ∙ ap (λ o. Some (earlier def o)) there
            ∙ sym (ap (among def.family) front ∙ taken def.family def (drop (place + 1) d.defs) may))
        at family (inr other) =
            ap (slice_get d.defs) (get_or-set_other old def.family family number (length d.defs) other)
            ∙ known.each family
            ∙ sym (ap (among family) front ∙ skipped family def (drop (place + 1) d.defs) (not_other family (slice_get d.families family) def other))

    pub left_out : fits def.family def ≡ false → AreBasesFrom d place old
    left_out may = record { room = known.room; each = λ family. known.each family ∙ sym (ap (among family) front ∙ skipped family def (drop (place + 1) d.defs) (at family (cases_eq family def.family))) }
      where
        at : (family : ℕ) → (family ≡ def.family) ⊎ (family ≡ def.family → ⊥) → fits family def ≡ false
        at family (inl same) = subst (λ f. fits f def ≡ false) (sym same) may
        at family (inr other) = not_other family (slice_get d.families family) def other

  drop_all : {X : Type 0} (xs : List X) → drop (length xs) xs ≡ []
  drop_all [] = refl
  drop_all (x ∷ xs) = drop_all xs

  alike : (n k c : ℕ) → get_or (replicate n c) k c ≡ c
  alike n k c = grind (arith, common_steps)

  pub none_yet : (bases : List ℕ) (count : ℕ) → count ≡ length d.defs → bases ≡ replicate (length d.families) (length d.defs) → AreBasesFrom d count bases
  none_yet bases count c e = subst (λ n. AreBasesFrom d n bases) (sym c) (record {
    room = ap length e ∙ length-replicate (length d.families) (length d.defs);
    each = λ family.
        ap (λ l. slice_get d.defs (get_or l family (length d.defs))) e
        ∙ ap (slice_get d.defs) (alike (length d.families) family (length d.defs))
        ∙ slice_get_past d.defs (length d.defs) (omega arith)
        ∙ sym (ap (among family) (drop_all d.defs));
  })

  pub are_bases : (bases : List ℕ) → AreBasesFrom d 0 bases → AreBases d bases
  are_bases bases known = record { room = known.room; each = known.each }

-- ---- base definitions by their numbers

index-some : {X : Type 0} (xs : List X) (k : ℕ) (x d : X) → slice_get xs k ≡ Some x → slice_index_or xs k d ≡ x
index-some [] k x d e = absurd (cc (e))
index-some (y ∷ xs) zero x d e = cc (e)
index-some (y ∷ xs) (suc k) x d e = index-some xs k x d e

index-none : {X : Type 0} (xs : List X) (k : ℕ) (d : X) → slice_get xs k ≡ None → slice_index_or xs k d ≡ d
index-none [] k d e = refl
index-none (y ∷ xs) zero d e = absurd (cc (e))
index-none (y ∷ xs) (suc k) d e = index-none xs k d e

pub base-some : (d : Design) (bases : List ℕ) (family place : ℕ) → AreBases d bases → slice_get bases family ≡ Some place → slice_get d.defs place ≡ base_of d family
base-some d bases family place are e = ap (slice_get d.defs) (sym (index-some bases family place (length d.defs) e)) ∙ are.each family

pub base-none : (d : Design) (bases : List ℕ) (family : ℕ) → AreBases d bases → slice_get bases family ≡ None → slice_get d.defs (length d.defs) ≡ base_of d family
base-none d bases family are e = ap (slice_get d.defs) (sym (index-none bases family (length d.defs) e)) ∙ are.each family
