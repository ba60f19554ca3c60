-- The two ways to say which definition is the base definition agree.
use Rattle.std.proofs.Common.{◌≡◌, ℕ, zero, suc, ◌<◌, ◌≤◌, List, [], ◌∷◌, slice_get, Option, Some, None, Bool, true, false, cond, ◌&&◌, ◌||◌, refl, ap, sym, subst, ◌∙◌, true≢false, arith}
use Rattle.std.specs.Prelude.{filter, is_none, not, nat_eq, nat_lt}
use Rattle.std.specs.List.{AllByRecursion, list_any}
use Rattle.std.proofs.lemmas.Bool.Decides.{nat_tests}
use Rattle.std.proofs.lemmas.Bool.{and_parts, false_from_ne_true}
use Rattle.law_lists.proofs.Numbers.{nat_eq-is, nat_lt-is}
use Rattle.smv_core.specs.declared.flat.Family.{Family}
use Rattle.smv_core.specs.declared.flat.Def.{Def}
use Rattle.smv_core.specs.declared.flat.Design.{Design}
use Rattle.law_designs.specs.Loops as delay
use Rattle.law_obligations.specs.Outlines.{may_be_base, earlier, earliest, base_of}
use Rattle.smv_layers.specs.Leaks.{is_abstract}
use Rattle.smv_layers.specs.OneBase.{AreInLayers, AreApart, BasesAgree}

-- it is one of these
abbrev Has : List Def → Def → Type 0
Has defs x = (i : ℕ) × (slice_get defs i ≡ Some x)

has-later : (y : Def) (defs : List Def) (x : Def) → Has defs x → Has (y ∷ defs) x
has-later y defs x (i, e) = (suc i, e)

filter-has : (p : Def → Bool) (defs : List Def) (x : Def) → Has defs x → p x ≡ true → Has (filter p defs) x
filter-has p [] x (i, e) h = absurd (cc (e))
filter-has p (y ∷ defs) x (zero, e) h =
    let same : y ≡ x = cc in
    subst (λ b. Has (cond b (y ∷ filter p defs) (filter p defs)) x) (sym (ap p same ∙ h)) (zero, ap Some same)
filter-has p (y ∷ defs) x (suc i, e) h = by (p y) (filter-has p defs x (i, e) h)
  where
    by : (b : Bool) → Has (filter p defs) x → Has (cond b (y ∷ filter p defs) (filter p defs)) x
    by true rest = has-later y (filter p defs) x rest
    by false rest = rest

has-filter : (p : Def → Bool) (defs : List Def) (x : Def) → Has (filter p defs) x → Has defs x × (p x ≡ true)
has-filter p [] x (i, e) = absurd (cc (e))
has-filter p (y ∷ defs) x h = by (p y) refl h (has-filter p defs x)
  where
    later : Has defs x × (p x ≡ true) → Has (y ∷ defs) x × (p x ≡ true)
    later (k, q) = (has-later y defs x k, q)

    by : (b : Bool) → p y ≡ b → Has (cond b (y ∷ filter p defs) (filter p defs)) x → (Has (filter p defs) x → Has defs x × (p x ≡ true)) → Has (y ∷ defs) x × (p x ≡ true)
    by true q (zero, e) rest = let same : y ≡ x = cc in ((zero, e), ap p (sym same) ∙ q)
    by true q (suc i, e) rest = later (rest (i, e))
    by false q k rest = later (rest k)

-- the earliest is one of them, and none stands before it
earliest-is : (defs : List Def) (e : Def) → earliest defs ≡ Some e → Has defs e × ((x : Def) → Has defs x → e.place ≤ x.place)
earliest-is [] e h = absurd (cc (h))
earliest-is (y ∷ defs) e h = by (earliest defs) refl h (earliest-is defs)
  where
    alone : (ds : List Def) → earliest ds ≡ None → (x : Def) → Has ds x → ⊥
    alone [] k x (i, q) = cc (q)
    alone (d ∷ ds) k x h = cc (k)

    pick : (f : Def) (b : Bool) → nat_lt f.place y.place ≡ b → cond b f y ≡ e → Has defs f × ((x : Def) → Has defs x → f.place ≤ x.place) → Has (y ∷ defs) e × ((x : Def) → Has (y ∷ defs) x → e.place ≤ x.place)
    pick f true q same (there, least) =
        subst (λ (g : Def). Has (y ∷ defs) g × ((x : Def) → Has (y ∷ defs) x → g.place ≤ x.place)) same (has-later y defs f there, all)
      where
        all : (x : Def) → Has (y ∷ defs) x → f.place ≤ x.place
        all x (zero, k) = let is : y ≡ x = cc in let less : f.place < y.place = grind (arith, nat_tests) in subst (λ (z : Def). f.place ≤ z.place) is (omega arith)
        all x (suc i, k) = least x (i, k)
    pick f false q same (there, least) =
        subst (λ (g : Def). Has (y ∷ defs) g × ((x : Def) → Has (y ∷ defs) x → g.place ≤ x.place)) same ((zero, refl), all)
      where
        all : (x : Def) → Has (y ∷ defs) x → y.place ≤ x.place
        all x (zero, k) = let is : y ≡ x = cc in subst (λ (z : Def). y.place ≤ z.place) is (omega arith)
        all x (suc i, k) = let less : y.place ≤ f.place = grind (arith, nat_tests) in let rest : f.place ≤ x.place = least x (i, k) in omega arith

    by : (o : Option Def) → earliest defs ≡ o → Some (earlier y o) ≡ Some e → ((f : Def) → earliest defs ≡ Some f → Has defs f × ((x : Def) → Has defs x → f.place ≤ x.place)) → Has (y ∷ defs) e × ((x : Def) → Has (y ∷ defs) x → e.place ≤ x.place)
    by None none k rest =
        let same : y ≡ e = cc in
        subst (λ (g : Def). Has (y ∷ defs) g × ((x : Def) → Has (y ∷ defs) x → g.place ≤ x.place)) same ((zero, refl), all)
      where
        all : (x : Def) → Has (y ∷ defs) x → y.place ≤ x.place
        all x (zero, q) = let is : y ≡ x = cc in subst (λ (z : Def). y.place ≤ z.place) is (omega arith)
        all x (suc i, q) = absurd (alone defs none x (i, q))
    by (Some f) some k rest = pick f (nat_lt f.place y.place) refl (let same : earlier y (Some f) ≡ e = cc in same) (rest f some)

earliest-some : (defs : List Def) (x : Def) → Has defs x → (e : Def) × (earliest defs ≡ Some e)
earliest-some [] x (i, q) = absurd (cc (q))
earliest-some (y ∷ defs) x h = (earlier y (earliest defs), refl)

any-has : (p : Def → Bool) (defs : List Def) (x : Def) → Has defs x → p x ≡ true → list_any p defs ≡ true
any-has p [] x (i, e) h = absurd (cc (e))
any-has p (y ∷ defs) x (zero, e) h = let same : y ≡ x = cc in ap (λ b. b || list_any p defs) (ap p same ∙ h)
any-has p (y ∷ defs) x (suc i, e) h = by (p y) (any-has p defs x (i, e) h)
  where
    by : (b : Bool) → list_any p defs ≡ true → b || list_any p defs ≡ true
    by true rest = refl
    by false rest = rest

has-any : (p : Def → Bool) (defs : List Def) → list_any p defs ≡ true → (x : Def) × Has defs x × (p x ≡ true)
has-any p [] h = absurd (cc (h))
has-any p (y ∷ defs) h = by (p y) refl h (has-any p defs)
  where
    by : (b : Bool) → p y ≡ b → b || list_any p defs ≡ true → (list_any p defs ≡ true → (x : Def) × Has defs x × (p x ≡ true)) → (x : Def) × Has (y ∷ defs) x × (p x ≡ true)
    by true q k rest = (y, (zero, refl), q)
    by false q k rest = let found = rest k in (found.0, has-later y defs found.0 found.1, found.2)

each-has : (P : Def → Type 0) (defs : List Def) → AllByRecursion P defs → (x : Def) → Has defs x → P x
each-has P [] all x (i, e) = absurd (cc (e))
each-has P (y ∷ defs) all x (zero, e) = let same : y ≡ x = cc in subst P same all.0
each-has P (y ∷ defs) all x (suc i, e) = each-has P defs all.1 x (i, e)

-- the two tests, of a definition that is not of an abstract signal outside layers
of-delay : (d : Design) (o : Option Family) (def : Def) → delay.may_be_base d o def ≡ true → may_be_base d def.family o def ≡ true
of-delay d None def e = absurd (cc (e))
of-delay d (Some f) def e = ap (λ b. b && (f.is_abstract || is_none def.layer)) (same def.family) ∙ by f.is_abstract e
  where
    same : (n : ℕ) → nat_eq n n ≡ true
    same n = grind (arith, nat_tests)

    by : (b : Bool) → cond b (not (is_none def.layer)) (is_none def.layer) ≡ true → b || is_none def.layer ≡ true
    by true e = refl
    by false e = e

to-delay : (d : Design) (k : ℕ) (o : Option Family) (def : Def) → (is_abstract o && is_none def.layer) ≡ false → may_be_base d k o def ≡ true → (def.family ≡ k) × (delay.may_be_base d o def ≡ true)
to-delay d k None def inside e = absurd (cc (e))
to-delay d k (Some f) def inside e =
    let parts : (nat_eq def.family k ≡ true) × (f.is_abstract || is_none def.layer ≡ true) = and_parts (nat_eq def.family k) (f.is_abstract || is_none def.layer) e in
    (same def.family k parts.0, by f.is_abstract (is_none def.layer) inside parts.1)
  where
    same : (m n : ℕ) → nat_eq m n ≡ true → m ≡ n
    same m n h = grind (arith, nat_tests)

    by : (a b : Bool) → a && b ≡ false → a || b ≡ true → cond a (not b) b ≡ true
    by true true p q = absurd (cc (p))
    by true false p q = refl
    by false b p q = q

kept : (d : Design) (k : ℕ) (y : Def) → may_be_base d k (slice_get d.families k) y ≡ true → y.family ≡ k
kept d k y e = by (slice_get d.families k) e
  where
    by : (o : Option Family) → may_be_base d k o y ≡ true → y.family ≡ k
    by None e = absurd (cc (e))
    by (Some f) e = nat_eq-is y.family k (and_parts (nat_eq y.family k) (f.is_abstract || is_none y.layer) e).0

module _ (d : Design) (inside : AreInLayers d) (apart : AreApart d) where
  -- those that may be the base definition of a family
  abbrev of_family : ℕ → List Def
  of_family k = filter (may_be_base d k (slice_get d.families k)) d.defs

  behind : (def x : Def) → Has (of_family def.family) x → x.place < def.place → list_any (delay.is_behind d def) d.defs ≡ true
  behind def x h less =
      let found = has-filter (may_be_base d def.family (slice_get d.families def.family)) d.defs x h in
      let here : (is_abstract (slice_get d.families x.family) && is_none x.layer) ≡ false = each-has (λ (y : Def). (is_abstract (slice_get d.families y.family) && is_none y.layer) ≡ false) d.defs inside x found.0 in
      let family : x.family ≡ def.family = kept d def.family x found.1 in
      let may = to-delay d x.family (slice_get d.families x.family) x here (subst (λ k. may_be_base d k (slice_get d.families k) x ≡ true) (sym family) found.1) in
      any-has (delay.is_behind d def) d.defs x found.0
      (all_of (nat_eq x.family def.family) (nat_lt x.place def.place) (delay.may_be_base d (slice_get d.families x.family) x) (number x.family def.family family) (lower x.place def.place less) may.1)
    where
      number : (m n : ℕ) → m ≡ n → nat_eq m n ≡ true
      number m n h = grind (arith, nat_tests)

      lower : (m n : ℕ) → m < n → nat_lt m n ≡ true
      lower m n h = grind (arith, nat_tests)

      all_of : (a b c : Bool) → a ≡ true → b ≡ true → c ≡ true → a && (b && c) ≡ true
      all_of true true true p q r = refl
      all_of true true false p q r = r
      all_of true false c p q r = q
      all_of false b c p q r = p

  same-place : (def e : Def) → Has (of_family def.family) e → Has d.defs def → e.place ≤ def.place → (e.place < def.place → ⊥) → e ≡ def
  same-place def e h k le not_less =
      let found = has-filter (may_be_base d def.family (slice_get d.families def.family)) d.defs e h in
      apart found.0.0 k.0 e def found.0.1 k.1 (kept d def.family e found.1) (omega (arith, not_less))

  pub agree : BasesAgree d
  agree i def at = (to_base, to_mark)
    where
      to_base : delay.is_base d def ≡ true → base_of d def.family ≡ Some def
      to_base e =
          let parts : (delay.may_be_base d (slice_get d.families def.family) def ≡ true) × (not (list_any (delay.is_behind d def) d.defs) ≡ true) = and_parts _ _ e in
          let here : Has (of_family def.family) def = filter-has (may_be_base d def.family (slice_get d.families def.family)) d.defs def (i, at) (of-delay d (slice_get d.families def.family) def parts.0) in
          let first = earliest-some (of_family def.family) def here in
          let is = earliest-is (of_family def.family) first.0 first.1 in
          first.1 ∙ ap Some (same-place def first.0 is.0 (i, at) (is.1 def here) (λ less. true≢false (sym parts.1 ∙ ap not (behind def first.0 is.0 less))))

      to_mark : base_of d def.family ≡ Some def → delay.is_base d def ≡ true
      to_mark e =
          let is = earliest-is (of_family def.family) def e in
          let found = has-filter (may_be_base d def.family (slice_get d.families def.family)) d.defs def is.0 in
          let may = to-delay d def.family (slice_get d.families def.family) def (each-has (λ (y : Def). (is_abstract (slice_get d.families y.family) && is_none y.layer) ≡ false) d.defs inside def (i, at)) found.1 in
          both (delay.may_be_base d (slice_get d.families def.family) def) (list_any (delay.is_behind d def) d.defs) may.1 (false_from_ne_true (list_any (delay.is_behind d def) d.defs) (λ some. none_before some is.1))
        where
          both : (a b : Bool) → a ≡ true → b ≡ false → a && not b ≡ true
          both true true p q = absurd (cc (q))
          both true false p q = refl
          both false b p q = p

          none_before : list_any (delay.is_behind d def) d.defs ≡ true → ((x : Def) → Has (of_family def.family) x → def.place ≤ x.place) → ⊥
          none_before some least =
              let found = has-any (delay.is_behind d def) d.defs some in
              let parts = and_parts (nat_eq found.0.family def.family) (nat_lt found.0.place def.place && delay.may_be_base d (slice_get d.families found.0.family) found.0) found.2 in
              let rest = and_parts (nat_lt found.0.place def.place) (delay.may_be_base d (slice_get d.families found.0.family) found.0) parts.1 in
              let family : found.0.family ≡ def.family = nat_eq-is found.0.family def.family parts.0 in
              let there : may_be_base d def.family (slice_get d.families def.family) found.0 ≡ true = subst (λ k. may_be_base d k (slice_get d.families k) found.0 ≡ true) family (of-delay d (slice_get d.families found.0.family) found.0 rest.1) in
              let le : def.place ≤ found.0.place = least found.0 (filter-has (may_be_base d def.family (slice_get d.families def.family)) d.defs found.0 found.1 there) in
              let less : found.0.place < def.place = nat_lt-is found.0.place def.place rest.0 in
              omega arith
