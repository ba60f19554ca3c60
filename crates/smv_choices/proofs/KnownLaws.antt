-- What is known of names that may stand again.
use Rattle.std.proofs.Common.{◌≡◌, ℕ, zero, suc, List, [], ◌∷◌, ◌++◌, map, get_or, Bool, true, false, ◌&&◌, ◌||◌, if◌then◌else◌, refl, ap, sym, ◌∙◌, Option, Some, None, option_map}
use Rattle.std.specs.Str.{bytes_eq}
use Rattle.std.proofs.lemmas.Slice.Eq.{bytes_eq-Decides}
use Rattle.std.proofs.lemmas.List.{map-append}
use Rattle.smv_core.specs.Values.{Name}
use Rattle.smv_core.specs.declared.tree.Word.{Word}
use Rattle.smv_core.specs.declared.tree.Ref.{Ref}
use Rattle.smv_core.specs.declared.flat.Param.{Param}
use Rattle.smv_core.specs.declared.flat.Leaf.{Leaf}
use Rattle.law_obligations.specs.Cases.{is_set}
use Rattle.name_index.specs.Position.{position}
use Rattle.smv_choices.specs.Parts.{is_param_in, fits, fits_name}

abbrev named : Name → Word
named name = record { name = name; at = 0 }

param-named : (set : ℕ) (brackets : List Word) (params : List Param) (word : Word) → is_param_in set brackets params word ≡ is_param_in set brackets params (named word.name)
param-named set [] params word = refl
param-named set (b ∷ brackets) [] word = refl
param-named set (b ∷ brackets) (p ∷ params) word = ap (λ c. bytes_eq b.name word.name && is_set set p.over || c) (param-named set brackets params word)

-- whether a word fits goes by its name
pub fits-named : (set : ℕ) (proved : List (Ref × Leaf)) (word : Word) → fits set proved word ≡ fits_name set proved word.name
fits-named set [] word = refl
fits-named set ((of, leaf) ∷ proved) word =
    ap (λ b. b && fits set proved word) (param-named set of.names leaf.params word) ∙ ap (λ b. is_param_in set of.names leaf.params (named word.name) && b) (fits-named set proved word)

-- what stands beside the first place of a name is what is known of the name
pub known-there : (f : Name → Bool) (names : List Name) (name : Name) (k : ℕ) → position names name ≡ Some k → get_or (map f names) k false ≡ f name
known-there f [] name k e = cc
known-there f (x ∷ names) name k e = at (bytes_eq x name) refl (position names name) (known-there f names name) k e
  where
    at : (b : Bool) → bytes_eq x name ≡ b → (o : Option ℕ) → ((j : ℕ) → o ≡ Some j → get_or (map f names) j false ≡ f name) → (k : ℕ) → (if b then Some 0 else option_map suc o) ≡ Some k → get_or (f x ∷ map f names) k false ≡ f name
    at true s o there zero e = ap f ((bytes_eq-Decides x name).0 s)
    at true s o there (suc k) e = cc
    at false s None there k e = cc
    at false s (Some j) there zero e = cc
    at false s (Some j) there (suc k) e = there k (let same : j ≡ k = cc in ap Some same)

-- one name more
pub one-more : (f : Name → Bool) (names more : List Name) (known longer : List Bool) (name : Name) (b : Bool) → known ≡ map f names → more ≡ names ++ name ∷ [] → longer ≡ known ++ b ∷ [] → b ≡ f name → longer ≡ map f more
one-more f names more known longer name b e m l is =
    l ∙ (ap (λ ks. ks ++ b ∷ []) e ∙ (ap (λ c. map f names ++ c ∷ []) is ∙ (sym (map-append f names (name ∷ [])) ∙ ap (map f) (sym m))))
