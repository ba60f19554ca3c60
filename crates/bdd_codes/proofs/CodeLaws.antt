-- Codes with one bit more, and the functions of a store that tell them.
use Rattle.std.proofs.Common.{◌≡◌, ℕ, suc, ◌+◌, ◌-◌, ◌*◌, ◌^◌, ◌<◌, ◌≤◌, Bool, true, false, cond, min, refl, sym, ap, subst, ◌∙◌, ◌&&◌, ◌||◌, List, [], ◌∷◌, ◌++◌, length, get_or, nat_eq, nat_le, nat_lt, inl, inr, arith}
use Rattle.std.proofs.lemmas.Bool.{cases_lt}
use Rattle.std.proofs.lemmas.Bool.Decides.{nat_tests}
use Rattle.std.proofs.lemmas.List.{length-append, get_or_append_left}
use Rattle.std.proofs.Math.Seq.{get_or-append_seam}
use Rattle.law_obligations.specs.Sets.{Has, first, later as further}
use Rattle.bdd_store.specs.declared.Ref.{Ref}
use Rattle.bdd_store.specs.Diagram.{Diagram, IsLive, AreLive, Keeps, table, ref_at}
use Rattle.bdd_store.proofs.Keeping.{live_kept}
use Rattle.bdd_codes.specs.Codes.{bits_at, code_at, AreWithin, AreCodes}

-- ---- codes

pub code_none : (next : Bool) (a : ℕ → Bool) → code_at next [] a ≡ 0
unfolding code_at
code_none next a = refl

pub code_more : (next : Bool) (place : ℕ) (lower : List ℕ) (a : ℕ → Bool) → code_at next (place ∷ lower) a ≡ cond (bits_at next a place) (2 ^ length lower) 0 + code_at next lower a
unfolding code_at
code_more next place lower a = refl

twice : (n : ℕ) → 2 ^ suc n ≡ 2 * 2 ^ n
twice n = grind arith

below_more : (x : Bool) (p c : ℕ) → c < p → cond x p 0 + c < 2 * p
below_more true p c lt = omega arith
below_more false p c lt = omega arith

pub code_small : (next : Bool) (places : List ℕ) (a : ℕ → Bool) → code_at next places a < 2 ^ length places
unfolding code_at
code_small next [] a = grind arith
code_small next (p ∷ ps) a = subst (λ (m : ℕ). code_at next (p ∷ ps) a < m) (sym (twice (length ps))) (below_more (bits_at next a p) (2 ^ length ps) (code_at next ps a) (code_small next ps a))

-- ---- there are variables for the first place, and for those behind it

pub first_within : (d : Diagram) (places lower : List ℕ) (place : ℕ) → places ≡ place ∷ lower → AreWithin d places → 2 * (place + 1) ≤ d.vars
first_within d places lower place e within = within place (subst (λ (ps : List ℕ). Has ps place) (sym e) first)

pub lower_within : (d e : Diagram) (places lower : List ℕ) (place : ℕ) → places ≡ place ∷ lower → d.vars ≡ e.vars → AreWithin d places → AreWithin e lower
lower_within d e places lower place is same within p h = subst (λ (n : ℕ). 2 * (p + 1) ≤ n) same (within p (subst (λ (ps : List ℕ). Has ps p) (sym is) (further h)))

-- ---- where a variable is 0 and where it is 1

pub chosen : (v h l : Bool) → (cond v false true && l || cond v true false && h) ≡ cond v h l
chosen true true l = refl
chosen true false l = refl
chosen false h true = refl
chosen false h false = refl

-- ---- a code with one bit more

pub low_code : (x : Bool) (p c k : ℕ) → k < p → cond x false (nat_eq c k) ≡ nat_eq (cond x p 0 + c) k
low_code true p c k lt = grind (arith, nat_tests)
low_code false p c k lt = grind (arith, nat_tests)

pub high_code : (x : Bool) (p c i : ℕ) → c < p → cond x (nat_eq c i) false ≡ nat_eq (cond x p 0 + c) (p + i)
high_code true p c i lt = grind (arith, nat_tests)
high_code false p c i lt = grind (arith, nat_tests)

pub low_least : (x : Bool) (p c k : ℕ) → k < p → cond x true (nat_le k c) ≡ nat_le k (cond x p 0 + c)
low_least true p c k lt = grind (arith, nat_tests)
low_least false p c k lt = grind (arith, nat_tests)

pub high_least : (x : Bool) (p c k : ℕ) → c < p → p ≤ k → cond x (nat_le (k - p) c) false ≡ nat_le k (cond x p 0 + c)
high_least true p c k lt le = grind (arith, nat_tests)
high_least false p c k lt le = grind (arith, nat_tests)

pub least_none : (c k : ℕ) → k ≡ 0 → true ≡ nat_le k c
least_none c k e = grind (arith, nat_tests)

pub least_nothing : (c k : ℕ) → c ≡ 0 → 0 < k → false ≡ nat_le k c
least_nothing c k e lt = grind (arith, nat_tests)

pub not_least : (c k : ℕ) → cond (nat_le k c) false true ≡ nat_lt c k
not_least c k = grind (arith, nat_tests)

-- a code that is read as the last value, and one that is read as another
pub last_value : (c n : ℕ) → nat_le n c ≡ nat_eq (min c n) n
last_value c n = grind (arith, nat_tests)

pub other_value : (c n k : ℕ) → k < n → nat_eq c k ≡ nat_eq (min c n) k
other_value c n k lt = grind (arith, nat_tests)

-- ---- what is kept

pub codes_kept : (d e : Diagram) (next : Bool) (places : List ℕ) (rs : List Ref) → Keeps d e → AreLive d rs → AreCodes d next places rs → AreCodes e next places rs
codes_kept d e next places rs k live all i lt a = k.tables (ref_at rs i) (live i lt) a ∙ all i lt a

-- ---- one function more at the end of a list

pub longer : (rs more : List Ref) (r : Ref) → more ≡ rs ++ r ∷ [] → length more ≡ length rs + 1
longer rs more r is = ap (λ (xs : List Ref). length xs) is ∙ length-append rs (r ∷ [])

module _ (P : ℕ → Ref → Type 0) (rs more : List Ref) (r : Ref) (is : more ≡ rs ++ r ∷ []) where
  -- what holds of each of a list and of one more holds of each
  pub each_pushed : ((i : ℕ) → i < length rs → P i (ref_at rs i)) → P (length rs) r → (i : ℕ) → i < length more → P i (ref_at more i)
  each_pushed each last i lt =
      let long = longer rs more r is in
      let none : Ref = record { place = 0 } in
      elim (cases_lt i (length rs)) [
        | inl early ↦ subst (P i) (sym (get_or_append_left rs (r ∷ []) none i early) ∙ sym (ap (λ (xs : List Ref). get_or xs i none) is)) (each i early)
        | inr late ↦
            let at : i ≡ length rs = omega (arith, long, late) in
            subst (λ (j : ℕ). P j (ref_at more j)) (sym at) (subst (P (length rs)) (sym (get_or-append_seam rs r [] none) ∙ sym (ap (λ (xs : List Ref). get_or xs (length rs) none) is)) last)
      ]

-- ---- one code more, where the first bit is 0 and where it is 1

pub live_pushed : (d e : Diagram) (codes more : List Ref) (r : Ref) → Keeps d e → AreLive d codes → IsLive e r → more ≡ codes ++ r ∷ [] → AreLive e more
live_pushed d e codes more r k before live pushed = each_pushed (λ j q. IsLive e q) codes more r pushed (live_kept d e codes k before) live

module _ (d0 d e : Diagram) (next : Bool) (place var : ℕ) (later codes more : List Ref) (i : ℕ) (never r : Ref)
    (k : Keeps d0 d) (l : Keeps d e) (is : (a : ℕ → Bool) → a var ≡ bits_at next a place) (never_live : IsLive d0 never) (never_is : (a : ℕ → Bool) → table d0 never a ≡ false)
    (late : AreLive d0 later) (lt : i < length later) (before : AreLive d codes) (pushed : more ≡ codes ++ r ∷ []) where
  later_is : (lower : List ℕ) → AreCodes d0 next lower later → (a : ℕ → Bool) → table d (ref_at later i) a ≡ nat_eq (code_at next lower a) i
  later_is lower all a = k.tables (ref_at later i) (late i lt) a ∙ all i lt a

  never_now : (a : ℕ → Bool) → table d never a ≡ false
  never_now a = k.tables never never_live a ∙ never_is a

  pub low_pushed : ((a : ℕ → Bool) → table e r a ≡ cond (a var) (table d never a) (table d (ref_at later i) a)) → length codes ≡ i → (lower : List ℕ) → AreCodes d0 next lower later → length later ≤ 2 ^ length lower
      → AreCodes d next (place ∷ lower) codes → AreCodes e next (place ∷ lower) more
  low_pushed tables count lower all few already = each_pushed (λ j q. (a : ℕ → Bool) → table e q a ≡ nat_eq (code_at next (place ∷ lower) a) j) codes more r pushed (codes_kept d e next (place ∷ lower) codes l before already) last
    where
      last : (a : ℕ → Bool) → table e r a ≡ nat_eq (code_at next (place ∷ lower) a) (length codes)
      last a =
          tables a
          ∙ ap (λ (x : Bool). cond (a var) x (table d (ref_at later i) a)) (never_now a)
          ∙ ap (λ (x : Bool). cond (a var) false x) (later_is lower all a)
          ∙ ap (λ (x : Bool). cond x false (nat_eq (code_at next lower a) i)) (is a)
          ∙ low_code (bits_at next a place) (2 ^ length lower) (code_at next lower a) i (omega arith)
          ∙ ap (λ (c : ℕ). nat_eq c i) (sym (code_more next place lower a))
          ∙ ap (λ (j : ℕ). nat_eq (code_at next (place ∷ lower) a) j) (sym count)

  pub high_pushed : ((a : ℕ → Bool) → table e r a ≡ cond (a var) (table d (ref_at later i) a) (table d never a)) → (most : ℕ) → length codes ≡ length later + i → length codes < most → (lower : List ℕ) → length later ≡ min (2 ^ length lower) most
      → AreCodes d0 next lower later → AreCodes d next (place ∷ lower) codes → AreCodes e next (place ∷ lower) more
  high_pushed tables most count some lower many all already = each_pushed (λ j q. (a : ℕ → Bool) → table e q a ≡ nat_eq (code_at next (place ∷ lower) a) j) codes more r pushed (codes_kept d e next (place ∷ lower) codes l before already) last
    where
      whole : (p n m : ℕ) → n ≡ min p m → n < m → n ≡ p
      whole p n m e lt = grind (arith, nat_tests)

      at : length codes ≡ 2 ^ length lower + i
      at = let all_of_it = whole (2 ^ length lower) (length later) most many (omega arith) in omega (arith, all_of_it, count)

      last : (a : ℕ → Bool) → table e r a ≡ nat_eq (code_at next (place ∷ lower) a) (length codes)
      last a =
          tables a
          ∙ ap (λ (x : Bool). cond (a var) (table d (ref_at later i) a) x) (never_now a)
          ∙ ap (λ (x : Bool). cond (a var) x false) (later_is lower all a)
          ∙ ap (λ (x : Bool). cond x (nat_eq (code_at next lower a) i) false) (is a)
          ∙ high_code (bits_at next a place) (2 ^ length lower) (code_at next lower a) i (code_small next lower a)
          ∙ ap (λ (c : ℕ). nat_eq c (2 ^ length lower + i)) (sym (code_more next place lower a))
          ∙ ap (λ (j : ℕ). nat_eq (code_at next (place ∷ lower) a) j) (sym at)

-- ---- how many codes there are

pub counted_all : (p later most codes i : ℕ) → later ≡ min p most → codes ≡ later + i → i ≤ later → codes ≤ most → later ≤ i → codes ≡ min (2 * p) most
counted_all p later most codes i e c le few all = grind (arith, nat_tests)

pub counted_most : (p later most codes i : ℕ) → later ≡ min p most → codes ≡ later + i → i ≤ later → codes ≤ most → most ≤ codes → codes ≡ min (2 * p) most
counted_most p later most codes i e c le few all = grind (arith, nat_tests)

pub doubled : (width : ℕ) → 2 ^ (width + 1) ≡ 2 * 2 ^ width
doubled width = let one : width + 1 ≡ suc width = omega arith in ap (λ (n : ℕ). 2 ^ n) one ∙ twice width

-- ---- all codes, from the last place on

none_code : (next : Bool) (places : List ℕ) (a : ℕ → Bool) → places ≡ [] → code_at next places a ≡ 0
none_code next places a e = ap (λ (ps : List ℕ). code_at next ps a) e ∙ code_none next a

pub one_code : (d : Diagram) (next : Bool) (places : List ℕ) (rs more : List Ref) (r : Ref) → places ≡ [] → rs ≡ [] → more ≡ rs ++ r ∷ [] → ((a : ℕ → Bool) → table d r a ≡ true) → AreCodes d next places more
one_code d next places rs more r e none pushed true_it =
    let no_length : length rs ≡ 0 = ap (λ (xs : List Ref). length xs) none in
    each_pushed (λ k q. (a : ℕ → Bool) → table d q a ≡ nat_eq (code_at next places a) k) rs more r pushed (λ i lt. absurd (omega (arith, no_length, lt)))
    (λ a. true_it a ∙ is (code_at next places a) (length rs) (none_code next places a e) no_length)
  where
    is : (c k : ℕ) → c ≡ 0 → k ≡ 0 → true ≡ nat_eq c k
    is c k e f = grind (arith, nat_tests)

pub codes_whole : (d1 d2 d3 : Diagram) (next : Bool) (place most : ℕ) (places lower : List ℕ) (later l1 l2 low all : List Ref) → places ≡ place ∷ lower → l1 ≡ later → l2 ≡ later → Keeps d1 d2 → AreLive d1 later → AreCodes d1 next lower later → length later ≡ min (2 ^ length lower) most
    → ((ps : List ℕ) → AreCodes d1 next ps l1 → length l1 ≤ 2 ^ length ps → AreCodes d2 next (place ∷ ps) low) → ((ps : List ℕ) → length l2 ≡ min (2 ^ length ps) most → AreCodes d2 next ps l2 → AreCodes d2 next (place ∷ ps) low → AreCodes d3 next (place ∷ ps) all) → AreCodes d3 next places all
codes_whole d1 d2 d3 next place most places lower later l1 l2 low all e e1 e2 k live codes many lows highs =
    let few : length later ≤ 2 ^ length lower = at_most (2 ^ length lower) most (length later) many in
    let halves : AreCodes d2 next (place ∷ lower) low = lows lower (subst (AreCodes d1 next lower) (sym e1) codes) (subst (λ (rs : List Ref). length rs ≤ 2 ^ length lower) (sym e1) few) in
    let behind : AreCodes d2 next lower later = codes_kept d1 d2 next lower later k live codes in
    subst (λ (ps : List ℕ). AreCodes d3 next ps all) (sym e)
    (highs lower (subst (λ (rs : List Ref). length rs ≡ min (2 ^ length lower) most) (sym e2) many) (subst (AreCodes d2 next lower) (sym e2) behind) halves)
  where
    at_most : (p m n : ℕ) → n ≡ min p m → n ≤ p
    at_most p m n e = grind (arith, nat_tests)

pub codes_counted : (places lower : List ℕ) (place later most codes : ℕ) → places ≡ place ∷ lower → later ≡ min (2 ^ length lower) most → ((width : ℕ) → later ≡ min (2 ^ width) most → codes ≡ min (2 ^ (width + 1)) most) → codes ≡ min (2 ^ length places) most
codes_counted places lower place later most codes e many all =
    let long : length lower + 1 ≡ length places = one (length lower) ∙ ap (λ (ps : List ℕ). length ps) (sym e) in
    all (length lower) many ∙ ap (λ (n : ℕ). min (2 ^ n) most) long
  where
    one : (n : ℕ) → n + 1 ≡ suc n
    one n = omega arith

-- ---- "the code is at least this number"

code_first : (next : Bool) (places lower : List ℕ) (place : ℕ) (a : ℕ → Bool) → places ≡ place ∷ lower → code_at next places a ≡ cond (bits_at next a place) (2 ^ length lower) 0 + code_at next lower a
code_first next places lower place a e = ap (λ (ps : List ℕ). code_at next ps a) e ∙ code_more next place lower a

pub no_least : (next : Bool) (places : List ℕ) (least : ℕ) (a : ℕ → Bool) (z : Bool) → z ≡ false → places ≡ [] → 0 < least → z ≡ nat_le least (code_at next places a)
no_least next places least a z is none some = is ∙ least_nothing (code_at next places a) least (none_code next places a none) some

pub all_least : (next : Bool) (places : List ℕ) (least : ℕ) (a : ℕ → Bool) (z : Bool) → z ≡ true → least ≡ 0 → z ≡ nat_le least (code_at next places a)
all_least next places least a z is none = is ∙ least_none (code_at next places a) least none

module _ (next : Bool) (places lower : List ℕ) (place least half : ℕ) (a : ℕ → Bool) (v h l z : Bool) (e : places ≡ place ∷ lower) (ev : v ≡ bits_at next a place) (ez : z ≡ cond v h l) (is : half ≡ 2 ^ length lower) where
  pub least_low : h ≡ true → l ≡ nat_le least (code_at next lower a) → least < half → z ≡ nat_le least (code_at next places a)
  least_low eh el lt =
      ez
      ∙ ap (λ (b : Bool). cond b h l) ev
      ∙ ap (λ (b : Bool). cond (bits_at next a place) b l) eh
      ∙ ap (λ (b : Bool). cond (bits_at next a place) true b) el
      ∙ low_least (bits_at next a place) (2 ^ length lower) (code_at next lower a) least (omega (arith, is, lt))
      ∙ ap (λ (c : ℕ). nat_le least c) (sym (code_first next places lower place a e))

  pub least_high : h ≡ nat_le (least - half) (code_at next lower a) → l ≡ false → half ≤ least → z ≡ nat_le least (code_at next places a)
  least_high eh el le =
      ez
      ∙ ap (λ (b : Bool). cond b h l) ev
      ∙ ap (λ (b : Bool). cond (bits_at next a place) b l) eh
      ∙ ap (λ (b : Bool). cond (bits_at next a place) (nat_le (least - half) (code_at next lower a)) b) el
      ∙ ap (λ (n : ℕ). cond (bits_at next a place) (nat_le (least - n) (code_at next lower a)) false) is
      ∙ high_least (bits_at next a place) (2 ^ length lower) (code_at next lower a) least (code_small next lower a) (omega (arith, is, le))
      ∙ ap (λ (c : ℕ). nat_le least c) (sym (code_first next places lower place a e))
