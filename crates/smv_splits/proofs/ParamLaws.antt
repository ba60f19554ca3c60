-- New parameters.
use Rattle.std.proofs.Common.{◌≡◌, ℕ, suc, ◌+◌, ◌<◌, List, [], ◌∷◌, ◌++◌, map, drop, length, get_or, refl, ap, sym, subst, ◌∙◌, arith}
use Rattle.std.specs.Prelude.{Option, Some, None, find, unwrap_or}
use Rattle.std.specs.Str.{bytes_eq}
use Rattle.std.proofs.lemmas.List.{append_assoc}
use Rattle.std.proofs.lemmas.Slice.Eq.{bytes_eq-Decides}
use Rattle.law_lists.proofs.Places.{drop_read_one}
use Rattle.smv_core.specs.Values.{Name}
use Rattle.smv_core.specs.declared.tree.Word.{Word}
use Rattle.smv_core.specs.declared.flat.Simple.{Simple}
use Rattle.smv_core.specs.declared.flat.Simple.TheVariants.{Enum}
use Rattle.smv_core.specs.declared.flat.Param.{Param}
use Rattle.law_obligations.proofs.Lookups.{find-some}
use Rattle.smv_first_fault.proofs.LeastLaws.{from_here}
use Rattle.law_splits.specs.Leaves.{numbered, bound_as}

-- the variable that is bound as a word has its name
bound-name : (bound : List Param) (word : Word) → (bound_as bound word).name ≡ word.name
bound-name bound word = at (find (λ p. bytes_eq p.name word.name) bound) refl
  where
    at : (o : Option Param) → find (λ p. bytes_eq p.name word.name) bound ≡ o → (unwrap_or o (record { var = 0; over = Enum 0; name = word.name })).name ≡ word.name
    at None e = refl
    at (Some p) e = (bytes_eq-Decides p.name word.name).0 (find-some (λ p. bytes_eq p.name word.name) bound e).1

abbrev param : ℕ → Simple → Name → Param
param var over name = record { var = var; over = over; name = name }

-- a parameter with that name and that type
made-new : (bound : List Param) (word : Word) (var : ℕ) → param var (bound_as bound word).over word.name ≡ record (bound_as bound word) { var = var }
made-new bound word var = ap (param var (bound_as bound word).over) (sym (bound-name bound word))

pub new-is : (bound : List Param) (word : Word) (var : ℕ) (over : Simple) (name : Name) → over ≡ (bound_as bound word).over → name ≡ word.name → param var over name ≡ record (bound_as bound word) { var = var }
new-is bound word var over name o n = ap (λ t. param var t name) o ∙ ap (param var (bound_as bound word).over) n ∙ made-new bound word var

-- one parameter more of those that are numbered
numbered-step : {X : Type 0} (f : X → Param) (xs : List X) (n first : ℕ) (x : X) (p : Param) (out out' whole : List Param) → n < length xs → x ≡ get_or xs n x → p ≡ record (f x) { var = first + n } → out' ≡ out ++ p ∷ [] →
    out ++ numbered (first + n) (map f (drop n xs)) ≡ whole → out' ++ numbered (first + (n + 1)) (map f (drop (n + 1) xs)) ≡ whole
numbered-step f xs n first x p out out' whole below here is put known =
    let next : first + (n + 1) ≡ suc (first + n) = omega arith in
    ap (λ l. l ++ numbered (first + (n + 1)) (map f (drop (n + 1) xs))) put
    ∙ append_assoc out (p ∷ []) (numbered (first + (n + 1)) (map f (drop (n + 1) xs)))
    ∙ ap (λ k. out ++ p ∷ numbered k (map f (drop (n + 1) xs))) next
    ∙ ap (λ q. out ++ q ∷ numbered (suc (first + n)) (map f (drop (n + 1) xs))) is
    ∙ ap (λ l. out ++ numbered (first + n) (map f l)) (sym (drop_read_one xs n x below here)) ∙ known

pub param-at : (bound bound' : List Param) (word : Word) (var k : ℕ) (p : Param) → bound ≡ bound' → var ≡ k → p ≡ record (bound_as bound word) { var = var } → p ≡ record (bound_as bound' word) { var = k }
param-at bound bound' word var k p b v is = is ∙ ap (λ l. record (bound_as l word) { var = var }) b ∙ ap (λ j. record (bound_as bound' word) { var = j }) v

-- the same, where the list is another that is equal
pub numbered-in : {X : Type 0} (f : X → Param) (xs ys : List X) (n first : ℕ) (x : X) (p : Param) (out out' whole : List Param) → xs ≡ ys → n < length xs → x ≡ get_or xs n x → p ≡ record (f x) { var = first + n } →
    out' ≡ out ++ p ∷ [] → out ++ numbered (first + n) (map f (drop n ys)) ≡ whole → out' ++ numbered (first + (n + 1)) (map f (drop (n + 1) ys)) ≡ whole
numbered-in f xs ys n first x p out out' whole same below here is put known =
    numbered-step f ys n first x p out out' whole (subst (λ (l : List _). n < length l) same below) (here ∙ ap (λ l. get_or l n x) same) is put known
