-- What the rules for classes say of one class more.
use Rattle.std.proofs.Common.{◌≡◌, ℕ, suc, ◌+◌, ◌≤◌, List, [], ◌∷◌, length, Bool, true, false, ◌&&◌, if◌then◌else◌, refl, sym, ap, ◌∙◌, nat_eq, nat_le, nat_lt, arith}
use Rattle.std.specs.List.{list_any, list_all}
use Rattle.law_lists.proofs.Numbers.{nat_eq-is}
use Rattle.law_lists.proofs.Booleans.{same_tests}
use Rattle.smv_core.specs.Values.{numbers_from}
use Rattle.smv_core.specs.declared.flat.Class.{Class}
use Rattle.smv_core.specs.declared.flat.Class.TheVariants.{Number, Named, Rest}
use Rattle.law_obligations.specs.Sets.{Has, first, later}
use Rattle.law_obligations.specs.Cases.{Treatment, whole, reduced, ordered, Parameter, used, named_among, are_named, is_of, is_orderly, listed_classes, unlisted_classes, type_in, is_allowed}
use Rattle.smv_cases.specs.Growing.{counts, counted, widest, may_follow, may_stand}
use Rattle.law_obligations.proofs.Members.{any-found, any-some}
use Rattle.law_obligations.proofs.Same.{nat_eq-itself}
use Rattle.law_obligations.proofs.Spots.{Has-numbers, numbers-Has}
use Rattle.law_obligations.proofs.CasePlaces.{few_named}

pub named_more : (c : ℕ) (classes : List Class) → are_named (Named c ∷ classes) ≡ are_named classes
named_more c classes = both (length (named_among classes)) (length classes)
  where
    both : (m n : ℕ) → nat_eq (suc m) (suc n) ≡ nat_eq m n
    both m n = same_tests (nat_eq (suc m) (suc n)) (nat_eq m n) (λ e. grind arith) (λ e. grind arith)

differ : (m n : ℕ) → m ≤ n → nat_eq m (suc n) ≡ false
differ m n l = grind arith

pub number_not_named : (k : ℕ) (classes : List Class) → are_named (Number k ∷ classes) ≡ false
number_not_named k classes = differ (length (named_among classes)) (length classes) (few_named classes)

pub rest_not_named : (g : ℕ) (classes : List Class) → are_named (Rest g ∷ classes) ≡ false
rest_not_named g classes = differ (length (named_among classes)) (length classes) (few_named classes)

at_most : (m c : ℕ) → nat_le c m ≡ true → c ≤ m
at_most m c e = grind arith

is_at_most : (m c : ℕ) → c ≤ m → nat_le c m ≡ true
is_at_most m c l = grind arith

pub one_rest : (g : ℕ) → list_any (nat_eq g) (0 ∷ []) ≡ nat_eq g 0
one_rest g = same_tests (list_any (nat_eq g) (0 ∷ [])) (nat_eq g 0)
    (λ e. let r = any-some (nat_eq g) (0 ∷ []) e in ap (nat_eq g) (sym (only r.1)) ∙ r.2)
    (λ e. any-found (nat_eq g) (first {xs = []}) e)
  where
    only : {k : ℕ} → Has (0 ∷ []) k → k ≡ 0
    only first = refl
    only (later h) = elim h [ ]

pub gaps_rest : (g n : ℕ) → list_any (nat_eq g) (numbers_from 0 (n + 1)) ≡ nat_le g n
gaps_rest g n = same_tests (list_any (nat_eq g) (numbers_from 0 (n + 1))) (nat_le g n)
    (λ e. let r = any-some (nat_eq g) (numbers_from 0 (n + 1)) e in let b = numbers-Has 0 (n + 1) r.0 r.1 in let above = b.1 in let same = nat_eq-is g r.0 r.2 in is_at_most n g (omega (arith, above, same)))
    (λ e. let l = at_most n g e in any-found (nat_eq g) (Has-numbers 0 (n + 1) g (omega arith) (omega (arith, l))) (nat_eq-itself g))

-- what counts as listed, by either word
pub listed_counted : (t : Treatment) (set : ℕ) (params : List Parameter) (classes : List Class) → listed_classes t set params classes ≡ counted t set params classes
listed_counted (whole n) set params classes = refl
listed_counted (reduced size) set params classes = refl
listed_counted ordered set params classes = refl

pub allowed_so : (t : Treatment) (set : ℕ) (params : List Parameter) (classes : List Class) → are_named (counted t set params classes) ≡ true → is_orderly t (named_among (counted t set params classes)) ≡ true →
    is_allowed t set params classes ≡ list_all (is_of (type_in t set params classes)) (unlisted_classes t set params classes)
allowed_so t set params classes n o =
    ap (λ b. b && (is_orderly t (named_among (listed_classes t set params classes)) && list_all (is_of (type_in t set params classes)) (unlisted_classes t set params classes))) (ap are_named (listed_counted t set params classes) ∙ n)
    ∙ ap (λ b. b && list_all (is_of (type_in t set params classes)) (unlisted_classes t set params classes)) (ap (λ cs. is_orderly t (named_among cs)) (listed_counted t set params classes) ∙ o)

-- the gaps beside so many classes
pub gaps_below : (g n : ℕ) → list_any (nat_eq g) (numbers_from 0 (n + 1)) ≡ nat_lt g (n + 1)
gaps_below g n = gaps_rest g n ∙ at_most_below g n
  where
    at_most_below : (g n : ℕ) → nat_le g n ≡ nat_lt g (n + 1)
    at_most_below g n = same_tests (nat_le g n) (nat_lt g (n + 1)) (λ e. grind arith) (λ e. grind arith)

-- a parameter that does not count may have the classes of the widest type
pub not_counted : (t : Treatment) (set : ℕ) (params : List Parameter) (before : List Class) (listed b : Bool) (count : ℕ) → b ≡ counts t listed → b ≡ false → count ≡ length (counted t set params params) → (x : Class) →
    may_stand t set params before listed x ≡ is_of (widest t count) x
not_counted t set params before listed b count e f long x =
    ap (λ (c : Bool). if c then may_follow t (length (counted t set params params)) (used (named_among (counted t set params before))) x else is_of (widest t (length (counted t set params params))) x) (sym e ∙ f)
    ∙ ap (λ n. is_of (widest t n) x) (sym long)
