-- Types and modules by the numbers of their tops.
use Rattle.std.proofs.Common.{◌≡◌, ℕ, zero, suc, ◌+◌, ◌<◌, List, [], ◌∷◌, ◌++◌, length, take, Bool, true, false, cond, refl, ap, sym, ◌∙◌, arith}
use Rattle.std.specs.Prelude.{Option, Some, None, option_map, option_and_then, slice_get, nat_lt}
use Rattle.std.specs.Str.{bytes_eq}
use Rattle.std.proofs.lemmas.Bool.Decides.{nat_tests}
use Rattle.law_lists.proofs.Booleans.{same_tests}
use Rattle.smv_core.specs.Values.{Name}
use Rattle.smv_core.specs.Types.{find_name}
use Rattle.smv_core.specs.declared.tree.Text.{Text}
use Rattle.smv_core.specs.declared.tree.Top.{Top}
use Rattle.smv_core.specs.declared.tree.Top.TheVariants.{SetType, Alias, Module as ModuleOf}
use Rattle.smv_core.specs.declared.tree.Part.{Part}
use Rattle.law_designs.specs.Types.{Types, Leads, Whole, types_after}
use Rattle.smv_expression_kinds.specs.Forms.{types_from, types_before, top_leads, leads_at, types_in, modules_in, type_before}

pub types-step : (n : ℕ) (top : Top) (tops : List Top) → types_in n (top ∷ tops) ≡ types_in n (top ∷ []) ++ types_in (n + 1) tops
types-step n (SetType word ordered span at) tops = refl
types-step n (Alias word of at) tops = refl
types-step n (ModuleOf word formals body at) tops = refl

pub modules-step : (n : ℕ) (top : Top) (tops : List Top) → modules_in n (top ∷ tops) ≡ modules_in n (top ∷ []) ++ modules_in (n + 1) tops
modules-step n (SetType word ordered span at) tops = refl
modules-step n (Alias word of at) tops = refl
modules-step n (ModuleOf word formals body at) tops = refl

pub ruleset steps = (types-step, modules-step)

-- ---- what is found stays found

find-front : {X : Type 0} (l m : List (Name × X)) (name : Name) (x : X) → find_name l name ≡ Some x → find_name (l ++ m) name ≡ Some x
find-front [] m name x h = cc
find-front (pair ∷ l) m name x h = by (bytes_eq pair.0 name) (find-front l m name x) h
  where
    by : (b : Bool) → (find_name l name ≡ Some x → find_name (l ++ m) name ≡ Some x) → cond b (Some pair.1) (find_name l name) ≡ Some x → cond b (Some pair.1) (find_name (l ++ m) name) ≡ Some x
    by true ih e = e
    by false ih e = ih e

find-behind : {X : Type 0} (l m : List (Name × X)) (name : Name) → find_name l name ≡ None → find_name (l ++ m) name ≡ find_name m name
find-behind [] m name h = refl
find-behind (pair ∷ l) m name h = by (bytes_eq pair.0 name) (find-behind l m name) h
  where
    by : (b : Bool) → (find_name l name ≡ None → find_name (l ++ m) name ≡ find_name m name) → cond b (Some pair.1) (find_name l name) ≡ None → cond b (Some pair.1) (find_name (l ++ m) name) ≡ find_name m name
    by true ih e = cc
    by false ih e = ih e

types-front : (types : Types) (tops : List Top) (name : Name) (x : Leads) → find_name types name ≡ Some x → find_name (types_from types tops) name ≡ Some x
types-front types [] name x h = h
types-front types (SetType word ordered span at ∷ tops) name x h = types-front (types_after types (SetType word ordered span at)) tops name x (find-front types _ name x h)
types-front types (Alias word of at ∷ tops) name x h = types-front (types_after types (Alias word of at)) tops name x (find-front types _ name x h)
types-front types (ModuleOf word formals body at ∷ tops) name x h = types-front types tops name x h

-- ---- a type's place among some tops

abbrev type_place : List Top → Name → Option ℕ
type_place [] name = None
type_place (SetType word ordered span at ∷ tops) name = cond (bytes_eq word.name name) (Some 0) (option_map suc (type_place tops name))
type_place (Alias word of at ∷ tops) name = cond (bytes_eq word.name name) (Some 0) (option_map suc (type_place tops name))
type_place (ModuleOf word formals body at ∷ tops) name = option_map suc (type_place tops name)

abbrev pub from : ℕ → Option ℕ → Option ℕ
from n o = option_map (λ i. n + i) o

pub from-suc : (n : ℕ) (o : Option ℕ) → from (n + 1) o ≡ from n (option_map suc o)
from-suc n None = refl
from-suc n (Some i) = ap Some (omega arith)

pub from-zero : (o : Option ℕ) → from 0 o ≡ o
from-zero None = refl
from-zero (Some i) = ap Some (omega arith)

pub here-or : (n : ℕ) (b : Bool) (o p : Option ℕ) → o ≡ from n p → cond b (Some n) o ≡ from n (cond b (Some 0) p)
here-or n true o p e = ap Some (omega arith)
here-or n false o p e = e

type-found : (n : ℕ) (tops : List Top) (name : Name) → find_name (types_in n tops) name ≡ from n (type_place tops name)
type-found n [] name = refl
type-found n (SetType word ordered span at ∷ tops) name = here-or n (bytes_eq word.name name) _ _ (type-found (n + 1) tops name ∙ from-suc n (type_place tops name))
type-found n (Alias word of at ∷ tops) name = here-or n (bytes_eq word.name name) _ _ (type-found (n + 1) tops name ∙ from-suc n (type_place tops name))
type-found n (ModuleOf word formals body at ∷ tops) name = type-found (n + 1) tops name ∙ from-suc n (type_place tops name)

-- ---- what a name leads to

abbrev then : Option Leads → List Part → Option Whole
then o parts = option_and_then (λ (named : Leads). named parts) o

abbrev leads_from : Types → List Top → ℕ → List Part → Option Whole
leads_from types tops i parts = top_leads (types_from types (take i tops)) (slice_get tops i) parts

abbrev within : Types → List Top → ℕ → List Part → ℕ → Option Whole
within types tops k parts i = cond (nat_lt i k) (leads_from types tops i parts) None

none-below : (types : Types) (tops : List Top) (parts : List Part) (o : Option ℕ) → option_and_then (within types tops 0 parts) o ≡ None
none-below types tops parts None = refl
none-below types tops parts (Some i) = by (nat_lt i 0) (λ e. grind (arith, nat_tests))
  where
    by : (b : Bool) → (b ≡ true → i < 0) → cond b (leads_from types tops i parts) None ≡ None
    by true h = absurd (let e : i < 0 = h refl in omega arith)
    by false h = refl

lt-suc : (i k : ℕ) → nat_lt (suc i) (suc k) ≡ nat_lt i k
lt-suc i k = same_tests (nat_lt (suc i) (suc k)) (nat_lt i k) (λ h. grind (arith, nat_tests)) (λ h. grind (arith, nat_tests))

lt-zero : (k : ℕ) → nat_lt 0 (suc k) ≡ true
lt-zero k = grind (arith, nat_tests)

-- under one more top
deeper : (types : Types) (top : Top) (tops : List Top) (k : ℕ) (parts : List Part) (o : Option ℕ)
    → option_and_then (within (types_after types top) tops k parts) o ≡ option_and_then (within types (top ∷ tops) (suc k) parts) (option_map suc o)
deeper types top tops k parts None = refl
deeper types top tops k parts (Some i) = ap (λ b. cond b (leads_from (types_after types top) tops i parts) None) (sym (lt-suc i k))

-- a type that is this name's or not
type-here : (types : Types) (top : Top) (x : Leads) (word_name : Name) (tops : List Top) (k : ℕ) (name : Name) (parts : List Part) (b : Bool) → b ≡ bytes_eq word_name name
    → types_after types top ≡ types ++ (word_name, x) ∷ [] → ((qs : List Part) → top_leads types (Some top) qs ≡ x qs) → find_name types name ≡ None
    → (find_name (types_after types top) name ≡ None → then (find_name (types_from (types_after types top) (take k tops)) name) parts ≡ option_and_then (within (types_after types top) tops k parts) (type_place tops name))
    → then (find_name (types_from (types_after types top) (take k tops)) name) parts ≡ option_and_then (within types (top ∷ tops) (suc k) parts) (cond b (Some 0) (option_map suc (type_place tops name)))
type-here types top x word_name tops k name parts true is after leads_to none ih =
    let last : find_name ((word_name, x) ∷ []) name ≡ Some x = ap (λ b. cond b (Some x) None) (sym is) in
    let found : find_name (types_after types top) name ≡ Some x = ap (λ l. find_name l name) after ∙ find-behind types ((word_name, x) ∷ []) name none ∙ last in
    ap (λ o. then o parts) (types-front (types_after types top) (take k tops) name x found) ∙ sym (leads_to parts) ∙ sym (ap (λ b. cond b (top_leads types (Some top) parts) None) (lt-zero k))
type-here types top x word_name tops k name parts false is after leads_to none ih =
    let last : find_name ((word_name, x) ∷ []) name ≡ None = ap (λ b. cond b (Some x) None) (sym is) in
    let found : find_name (types_after types top) name ≡ None = ap (λ l. find_name l name) after ∙ find-behind types ((word_name, x) ∷ []) name none ∙ last in
    ih found ∙ deeper types top tops k parts (type_place tops name)

type-leads : (types : Types) (tops : List Top) (k : ℕ) (name : Name) (parts : List Part) → find_name types name ≡ None
    → then (find_name (types_from types (take k tops)) name) parts ≡ option_and_then (within types tops k parts) (type_place tops name)
type-leads types tops zero name parts none = ap (λ o. then o parts) none ∙ sym (none-below types tops parts (type_place tops name))
type-leads types [] (suc k) name parts none = ap (λ o. then o parts) none
type-leads types (SetType word ordered span at ∷ tops) (suc k) name parts none =
    type-here types (SetType word ordered span at) _ word.name tops k name parts (bytes_eq word.name name) refl refl (λ qs. refl) none
    (type-leads (types_after types (SetType word ordered span at)) tops k name parts)
type-leads types (Alias word of at ∷ tops) (suc k) name parts none =
    type-here types (Alias word of at) _ word.name tops k name parts (bytes_eq word.name name) refl refl (λ qs. refl) none
    (type-leads (types_after types (Alias word of at)) tops k name parts)
type-leads types (ModuleOf word formals body at ∷ tops) (suc k) name parts none =
    type-leads types tops k name parts none ∙ deeper types (ModuleOf word formals body at) tops k parts (type_place tops name)

-- what a type name leads to that stands in the top of a number
pub named-leads : (text : Text) (k : ℕ) (name : Name) (parts : List Part)
    → option_and_then (λ (named : Leads). named parts) (find_name (types_before text k) name) ≡ option_and_then (λ i. leads_at text i parts) (type_before (types_in 0 text.tops) k name)
named-leads text k name parts =
    type-leads [] text.tops k name parts refl ∙ by (type_place text.tops name)
    ∙ ap (λ o. option_and_then (λ i. leads_at text i parts) (option_and_then (λ i. cond (nat_lt i k) (Some i) None) o)) (sym (type-found 0 text.tops name ∙ from-zero (type_place text.tops name)))
  where
    test : (i : ℕ) (b : Bool) → cond b (leads_at text i parts) None ≡ option_and_then (λ i. leads_at text i parts) (cond b (Some i) None)
    test i true = refl
    test i false = refl

    by : (o : Option ℕ) → option_and_then (within [] text.tops k parts) o ≡ option_and_then (λ i. leads_at text i parts) (option_and_then (λ i. cond (nat_lt i k) (Some i) None) o)
    by None = refl
    by (Some i) = test i (nat_lt i k)

-- ---- a type's number is below, and that of a top

place-within : (tops : List Top) (name : Name) (i : ℕ) → type_place tops name ≡ Some i → i < length tops
place-within [] name i h = cc
place-within (SetType word ordered span at ∷ tops) name i h = by (bytes_eq word.name name) (type_place tops name) (place-within tops name) h
  where
    by : (b : Bool) (o : Option ℕ) → ((j : ℕ) → o ≡ Some j → j < length tops) → cond b (Some 0) (option_map suc o) ≡ Some i → i < suc (length tops)
    by true o ih e = let z : 0 ≡ i = cc in omega arith
    by false None ih e = cc
    by false (Some j) ih e = let z : suc j ≡ i = cc in let l : j < length tops = ih j refl in omega arith
place-within (Alias word of at ∷ tops) name i h = by (bytes_eq word.name name) (type_place tops name) (place-within tops name) h
  where
    by : (b : Bool) (o : Option ℕ) → ((j : ℕ) → o ≡ Some j → j < length tops) → cond b (Some 0) (option_map suc o) ≡ Some i → i < suc (length tops)
    by true o ih e = let z : 0 ≡ i = cc in omega arith
    by false None ih e = cc
    by false (Some j) ih e = let z : suc j ≡ i = cc in let l : j < length tops = ih j refl in omega arith
place-within (ModuleOf word formals body at ∷ tops) name i h = by (type_place tops name) (place-within tops name) h
  where
    by : (o : Option ℕ) → ((j : ℕ) → o ≡ Some j → j < length tops) → option_map suc o ≡ Some i → i < suc (length tops)
    by None ih e = cc
    by (Some j) ih e = let z : suc j ≡ i = cc in let l : j < length tops = ih j refl in omega arith

pub before-within : (tops : List Top) (k : ℕ) (name : Name) (found : ℕ) → type_before (types_in 0 tops) k name ≡ Some found → (found < k) × (found < length tops)
before-within tops k name found h =
    by (type_place tops name) (place-within tops name) (ap (λ o. option_and_then (λ i. cond (nat_lt i k) (Some i) None) o) (sym (type-found 0 tops name ∙ from-zero (type_place tops name))) ∙ h)
  where
    test : (i : ℕ) (b : Bool) → (b ≡ true → i < k) → i < length tops → cond b (Some i) None ≡ Some found → (found < k) × (found < length tops)
    test i true below long e =
        let s : i ≡ found = cc in
        let b : i < k = below refl in
        (omega arith, omega arith)
    test i false below long e = cc

    by : (o : Option ℕ) → ((j : ℕ) → o ≡ Some j → j < length tops) → option_and_then (λ i. cond (nat_lt i k) (Some i) None) o ≡ Some found → (found < k) × (found < length tops)
    by None ih e = cc
    by (Some i) ih e = test i (nat_lt i k) (λ b. grind (arith, nat_tests)) (ih i refl) e
