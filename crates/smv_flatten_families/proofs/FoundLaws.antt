-- What is looked up in the tables is what the definitions say.
use Rattle.std.proofs.Common.{◌≡◌, ℕ, suc, List, [], ◌∷◌, length, map, take, Bool, true, false, cond, refl, ap, sym, ◌∙◌}
use Rattle.std.specs.Prelude.{Option, Some, None, option_map, unwrap_or, find}
use Rattle.std.specs.HashMap.{get}
use Rattle.std.proofs.lemmas.List.{length-map}
use Rattle.std.proofs.Math.Seq.{take-length}
use Rattle.smv_core.specs.Values.{Path}
use Rattle.smv_core.specs.Values as values
use Rattle.smv_core.specs.Types.{Family, simple_of, shape_of}
use Rattle.smv_core.specs.Outcome.{same_path, family_at}
use Rattle.smv_core.specs.declared.flat.Simple.{Simple}
use Rattle.smv_core.specs.declared.flat.Simple.TheVariants.{Enum}
use Rattle.smv_core.specs.declared.tree.Text.{Text}
use Rattle.smv_core.specs.declared.tree.TypeExpr.{TypeExpr}
use Rattle.law_designs.specs.Numbers.{flat_simple, simple_or_empty, flat_over, family_number}
use Rattle.law_designs.specs.Entries.{placed_families}
use Rattle.law_designs.specs.Flattening.{scope_in, flat_family}
use Rattle.smv_flatten_families.specs.Paths.{first_place}
use Rattle.smv_flatten_families.specs.Lists.{constants_from}
use Rattle.smv_flatten_families.specs.Simples.{numbering}
use Rattle.smv_flatten_families.specs.Types.{leaf_of, leaves, alone, types_of}
use Rattle.smv_flatten_families.specs.Held.{AreNumbers, scope_here, instance_of}
use Rattle.smv_flatten_families.specs.Found.{family_place}
use Rattle.smv_flatten_families.specs.declared.numbers.Here.{Here}
use Rattle.smv_flatten_families.proofs.LeafLaws.{alone-of}
use Rattle.smv_flatten_families.proofs.NumberLaws.{family-place}

-- ---- types

over-shape : (text : Text) (instance : Path) (o : Option values.Simple) → unwrap_or (option_map (flat_simple (numbering text)) o) (Enum (length (numbering text).enums)) ≡ simple_or_empty (scope_in text instance) o
unfolding numbering
over-shape text instance None = refl
over-shape text instance (Some t) = refl

pub over-is : (text : Text) (instance : Path) (of : TypeExpr) (n : ℕ) → n ≡ length (types_of text) → unwrap_or (alone (leaves text n of)) (Enum (length (numbering text).enums)) ≡ flat_over (scope_in text instance) of
unfolding leaves
over-is text instance of n long =
    ap (λ types. unwrap_or (alone (map (leaf_of text) (shape_of types of))) (Enum (length (numbering text).enums))) (ap (λ k. take k (types_of text)) long ∙ take-length (types_of text))
    ∙ ap (λ o. unwrap_or o (Enum (length (numbering text).enums))) (alone-of text (shape_of (types_of text) of)) ∙ over-shape text instance (simple_of (shape_of (types_of text) of))

-- in an instance
pub over-found : (here : Here) (of : TypeExpr) (n : ℕ) (found : Option Simple) → AreNumbers here.numbers.now → n ≡ length here.numbers.now.types.forms.items
    → found ≡ alone (leaves here.numbers.now.types.simples.text.now n of) → unwrap_or found (Enum (length (numbering here.numbers.now.types.simples.text.now).enums)) ≡ flat_over (scope_here here) of
unfolding scope_here
over-found here of n found are long is =
    ap (λ o. unwrap_or o (Enum (length (numbering here.numbers.now.types.simples.text.now).enums))) is
    ∙ over-is here.numbers.now.types.simples.text.now (instance_of here) of n (long ∙ are.types.all)
    ∙ ap (λ text. flat_over (scope_in text (instance_of here)) of) are.types_text

pub enums-here : (here : Here) → AreNumbers here.numbers.now → here.numbers.now.enums ≡ (scope_here here).enums
unfolding scope_here
enums-here here are = are.enums

pub constants-here : (here : Here) → AreNumbers here.numbers.now → here.numbers.now.constants ≡ constants_from 0 (scope_here here).enums
unfolding scope_here
constants-here here are = are.constants

-- ---- families

paths-of : (l : List (Family × ℕ)) → map (λ placed. placed.0.path) l ≡ map (λ f. f.path) (map (λ (f, at). f) l)
paths-of [] = refl
paths-of (placed ∷ l) = ap (λ m. placed.0.path ∷ m) (paths-of l)

-- the place of a path
pub place-is : (here : Here) (key path : Path) → AreNumbers here.numbers.now → key ≡ path → get same_path here.numbers.now.places key ≡ family_place here path
unfolding family_place scope_here
place-is here key path are same =
    are.places key ∙ ap (λ l. first_place l key) (paths-of (placed_families here.numbers.now.text.now)) ∙ ap (first_place (map (λ f. f.path) (map (λ (f, at). f) (placed_families here.numbers.now.text.now)))) same

count-is : (here : Here) → AreNumbers here.numbers.now → length here.numbers.now.families ≡ length (scope_here here).families
unfolding scope_here
count-is here are =
    ap length are.families ∙ length-map (placed_families here.numbers.now.text.now) (flat_family (scope_in here.numbers.now.text.now []))
    ∙ sym (length-map (placed_families here.numbers.now.text.now) (λ (f, at). f))

-- its number
pub number-is : (here : Here) (path : Path) (count : ℕ) → AreNumbers here.numbers.now → count ≡ length here.numbers.now.families → unwrap_or (family_place here path) count ≡ family_number (scope_here here) path
unfolding family_place
number-is here path count are long =
    ap (unwrap_or (first_place (map (λ f. f.path) (scope_here here).families) path)) (long ∙ count-is here are) ∙ family-place (scope_here here).families path

find-place : (n : ℕ) (families : List Family) (path : Path) → option_map (λ (f : Family). n) (find (λ f. same_path f.path path) families) ≡ option_map (λ (k : ℕ). n) (first_place (map (λ f. f.path) families) path)
find-place n [] path = refl
find-place n (f ∷ families) path = by (same_path f.path path) (first_place (map (λ f. f.path) families) path) (find-place n families path)
  where
    by : (b : Bool) (o : Option ℕ) → option_map (λ (f : Family). n) (find (λ f. same_path f.path path) families) ≡ option_map (λ (k : ℕ). n) o
        → option_map (λ (f : Family). n) (cond b (Some f) (find (λ f. same_path f.path path) families)) ≡ option_map (λ (k : ℕ). n) (cond b (Some 0) (option_map suc o))
    by true o e = refl
    by false None e = e
    by false (Some i) e = e

-- a signal
pub signal-some : (here : Here) (path : Path) (place : ℕ) → AreNumbers here.numbers.now → family_place here path ≡ Some place
    → Some place ≡ option_map (λ (f : Family). family_number (scope_here here) path) (family_at (scope_here here).families path)
unfolding family_place
signal-some here path place are some =
    ap Some (sym (ap (λ o. unwrap_or o (length here.numbers.now.families)) some) ∙ number-is here path (length here.numbers.now.families) are refl)
    ∙ sym (find-place (family_number (scope_here here) path) (scope_here here).families path ∙ ap (option_map (λ (k : ℕ). family_number (scope_here here) path)) some)

pub signal-none : (here : Here) (path : Path) → family_place here path ≡ None → None ≡ option_map (λ (f : Family). family_number (scope_here here) path) (family_at (scope_here here).families path)
unfolding family_place
signal-none here path none =
    sym (find-place (family_number (scope_here here) path) (scope_here here).families path ∙ ap (option_map (λ (k : ℕ). family_number (scope_here here) path)) none)
