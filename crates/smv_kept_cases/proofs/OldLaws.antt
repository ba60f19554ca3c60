-- Sets that are noted one behind another.
use Rattle.std.proofs.Common.{◌≡◌, ◌∙◌, ℕ, suc, ◌+◌, ◌<◌, List, [], ◌∷◌, ◌++◌, length, take, get_or, Bool, true, false, cond, if◌then◌else◌, ◌&&◌, nat_eq, Option, Some, None, refl, sym, ap, Bor}
use Rattle.std.specs.Prelude.{option_copied}
use Rattle.std.specs.Str.{bytes_eq}
use Rattle.std.specs.HashMap.{HashMap, get_by}
use Rattle.std.proofs.lemmas.List.{take_more}
use Rattle.std.proofs.lemmas.Slice.Eq.{bytes_eq-Decides}
use Rattle.law_lists.proofs.Booleans.{left_of, right_of}
use Rattle.law_lists.proofs.Numbers.{nat_eq-is}
use Rattle.smv_proof.specs.declared.proof.KeptSet.{KeptSet}
use Rattle.law_checked_proofs.specs.Cases.{UnitCase}
use Rattle.law_checked_proofs.specs.Checked.{is_for}
use Rattle.law_checked_proofs.specs.Resumed.{old_set}
use Rattle.smv_kept_cases.specs.OldSets.{Key, is_key, noted, found_or}

not_it : (o : Option KeptSet) (set : KeptSet) → o ≡ found_or o false set
not_it None set = refl
not_it (Some found) set = refl

-- a set that is not noted yet is noted
pub noted_new : {S : Type 0} (old new : HashMap Key (Bor KeptSet) S) (key : Key) (set : Bor KeptSet) → get_by (is_key key.0.now key.1) old ≡ None
    → ((q : Key) → get_by (is_key q.0.now q.1) new ≡ cond (is_key key.0.now key.1 q) (Some set) (get_by (is_key q.0.now q.1) old))
    → (unit : List ℕ) (number : ℕ) → noted new unit number ≡ found_or (noted old unit number) (bytes_eq key.0.now unit && nat_eq key.1 number) set.now
noted_new old new key set absent updated unit number =
    ap option_copied (updated (record { ref_ptr = key.0.ref_ptr; now = unit }, number)) ∙ at (bytes_eq key.0.now unit && nat_eq key.1 number) refl
  where
    at : (t : Bool) → (bytes_eq key.0.now unit && nat_eq key.1 number) ≡ t → option_copied (cond t (Some set) (get_by (is_key unit number) old)) ≡ found_or (option_copied (get_by (is_key unit number) old)) t set.now
    at true e =
        let same_unit : key.0.now ≡ unit = (bytes_eq-Decides key.0.now unit).0 (left_of (bytes_eq key.0.now unit) (nat_eq key.1 number) e) in
        let same_number : key.1 ≡ number = nat_eq-is key.1 number (right_of (bytes_eq key.0.now unit) (nat_eq key.1 number) e) in
        let none : get_by (is_key unit number) old ≡ None = sym (ap (λ (u : List ℕ). get_by (is_key u number) old) same_unit) ∙ (sym (ap (λ (n : ℕ). get_by (is_key key.0.now n) old) same_number) ∙ absent) in
        sym (ap (λ (o : Option (Bor KeptSet)). found_or (option_copied o) true set.now) none)
    at false e = not_it (option_copied (get_by (is_key unit number) old)) set.now

some_stays : (o : Option KeptSet) (b : Bool) (set found : KeptSet) → o ≡ Some found → o ≡ found_or o b set
some_stays None b set found e = absurd (cc)
some_stays (Some x) b set found e = refl

-- where one is noted already it stays
pub noted_old : {S : Type 0} (old : HashMap Key (Bor KeptSet) S) (of : List ℕ) (at : ℕ) (found : KeptSet) (set : KeptSet) → noted old of at ≡ Some found
    → (unit : List ℕ) (number : ℕ) → noted old unit number ≡ found_or (noted old unit number) (bytes_eq of unit && nat_eq at number) set
noted_old old of at found set there unit number = by (bytes_eq of unit && nat_eq at number) refl
  where
    by : (t : Bool) → (bytes_eq of unit && nat_eq at number) ≡ t → noted old unit number ≡ found_or (noted old unit number) t set
    by true e =
        let same_unit : of ≡ unit = (bytes_eq-Decides of unit).0 (left_of (bytes_eq of unit) (nat_eq at number) e) in
        let same_number : at ≡ number = nat_eq-is at number (right_of (bytes_eq of unit) (nat_eq at number) e) in
        some_stays (noted old unit number) true set found (sym (ap (λ (u : List ℕ). noted old u number) same_unit) ∙ (sym (ap (λ (n : ℕ). noted old of n) same_number) ∙ there))
    by false e = not_it (noted old unit number) set

-- one more set behind these
old_set-push : (c : UnitCase) (sets : List KeptSet) (set : KeptSet) → old_set c (sets ++ set ∷ []) ≡ found_or (old_set c sets) (is_for c set) set
old_set-push c [] set = refl
old_set-push c (x ∷ sets) set = ap (λ (o : Option KeptSet). if is_for c x then Some x else o) (old_set-push c sets set) ∙ at (is_for c x)
  where
    at : (b : Bool) → (if b then Some x else found_or (old_set c sets) (is_for c set) set) ≡ found_or (if b then Some x else old_set c sets) (is_for c set) set
    at true = refl
    at false = refl

pub first_more : {S : Type 0} (sets : List KeptSet) (k : ℕ) (set : KeptSet) (old new : HashMap Key (Bor KeptSet) S) → k < length sets → set ≡ get_or sets k set
    → ((c : UnitCase) → noted old c.unit c.number ≡ old_set c (take k sets))
    → ((unit : List ℕ) (number : ℕ) → noted new unit number ≡ found_or (noted old unit number) (bytes_eq set.unit unit && nat_eq set.number number) set)
    → (c : UnitCase) → noted new c.unit c.number ≡ old_set c (take (k + 1) sets)
first_more sets k set old new lt at known notes c =
    notes c.unit c.number
    ∙ (ap (λ (o : Option KeptSet). found_or o (is_for c set) set) (known c)
    ∙ (sym (old_set-push c (take k sets) set)
    ∙ ap (old_set c) (ap (λ (x : KeptSet). take k sets ++ x ∷ []) at ∙ sym (take_more sets k set lt))))
