-- The first of some faults is one of them, and the faults at some places stand there.
use Rattle.std.proofs.Common.{◌≡◌, ◌≤◌, ℕ, Bool, true, false, cond, List, [], ◌∷◌, Option, Some, None, IfSome, nat_eq}
use Rattle.std.specs.List.{AllByRecursion, flat_map, list_any}
use Rattle.std.specs.Str.{bytes_eq}
use Rattle.std.specs.Option.{option_map, unwrap_or}
use Rattle.law_lists.proofs.Each.{each_flat_map}
use Rattle.smv_core.specs.Values.{Name}
use Rattle.smv_core.specs.Types.{find_name}
use Rattle.smv_core.specs.declared.fault.Fault.{Fault}
use Rattle.smv_mentions.specs.NameFaults.{place_if}
use Rattle.smv_mentions.specs.FirstFault.{comes_before, earlier, first_of, faults_at, or_else}
use Rattle.law_fault_places.specs.FaultPlaces.{IsFaultOf}

earlier-one : (P : Fault → Type 0) (f : Fault) (o : Option Fault) → P f → IfSome o P → IfSome (earlier f o) P
earlier-one P f None h g = h
earlier-one P f (Some other) h g = by (comes_before other f)
  where
    by : (b : Bool) → IfSome (cond b (Some other) (Some f)) P
    by true = g
    by false = h

pub first-one : (P : Fault → Type 0) (faults : List Fault) → AllByRecursion P faults → IfSome (first_of faults) P
first-one P [] h = tt
first-one P (f ∷ faults) h = earlier-one P f (first_of faults) h.0 (first-one P faults h.1)

pub either-one : (P : Fault → Type 0) (o p : Option Fault) → IfSome o P → IfSome p P → IfSome (or_else o p) P
either-one P None p h g = g
either-one P (Some f) p h g = h

-- places of at most n
abbrev pub AreUpTo : ℕ → List ℕ → Type 0
AreUpTo n places = AllByRecursion (λ at. at ≤ n) places

pub faults-placed : (numbers : List ℕ) (n number : ℕ) (places : List ℕ) → list_any (nat_eq number) numbers ≡ true → AreUpTo n places → AllByRecursion (IsFaultOf numbers n) (faults_at (number, places))
faults-placed numbers n number [] e h = tt
faults-placed numbers n number (at ∷ places) e h = (record { number = e; place = h.0 }, faults-placed numbers n number places e h.1)

pub placed-if : (n : ℕ) (b : Bool) (at : ℕ) → at ≤ n → AreUpTo n (place_if b at)
placed-if n true at h = (h, tt)
placed-if n false at h = tt

-- what is found by a name is one of the list
pub named-one : {X : Type 0} (P : X → Type 0) (list : List (Name × X)) (name : Name) → AllByRecursion (λ (entry : Name × X). P entry.1) list → IfSome (find_name list name) P
named-one P [] name h = tt
named-one {X} P ((other, x) ∷ list) name h = by (bytes_eq other name) (find_name list name) (named-one P list name h.1)
  where
    by : (b : Bool) (o : Option X) → IfSome o P → IfSome (cond b (Some x) o) P
    by true o g = h.0
    by false o g = g

pub mapped-one : {X Y : Type 0} (P : X → Type 0) (Q : Y → Type 0) (f : X → Y) → ((x : X) → P x → Q (f x)) → (o : Option X) → IfSome o P → IfSome (option_map f o) Q
mapped-one P Q f k None h = tt
mapped-one P Q f k (Some x) h = k x h

pub unwrapped-one : {X : Type 0} (P : X → Type 0) (o : Option X) (other : X) → IfSome o P → P other → P (unwrap_or o other)
unwrapped-one P None other h g = g
unwrapped-one P (Some x) other h g = h

-- some faults, each number with its places
pub lists-placed : (numbers : List ℕ) (n : ℕ) (lists : List (ℕ × List ℕ)) → AllByRecursion (λ (p : ℕ × List ℕ). (list_any (nat_eq p.0) numbers ≡ true) × AreUpTo n p.1) lists → AllByRecursion (IsFaultOf numbers n) (flat_map faults_at lists)
lists-placed numbers n lists h = each_flat_map (λ (p : ℕ × List ℕ). (list_any (nat_eq p.0) numbers ≡ true) × AreUpTo n p.1) (IsFaultOf numbers n) faults_at (λ p own. faults-placed numbers n p.0 p.1 own.0 own.1) lists h
