-- The first split that is lost.
use Rattle.std.proofs.Common.{◌≡◌, ℕ, zero, suc, ◌+◌, ◌<◌, ◌≤◌, List, [], ◌∷◌, ◌++◌, map, drop, length, get_or, Bool, true, false, cond, filter, not, refl, ap, sym, subst, ◌∙◌, arith}
use Rattle.std.specs.Prelude.{Option}
use Rattle.std.specs.Str.{bytes_eq}
use Rattle.std.specs.List.{flat_map}
use Rattle.std.proofs.lemmas.List.{append_assoc, append-nil}
use Rattle.law_lists.proofs.Places.{drop_read_one}
use Rattle.smv_core.specs.Values.{Name}
use Rattle.smv_core.specs.declared.tree.Word.{Word}
use Rattle.smv_core.specs.declared.flat.Design.{Design}
use Rattle.smv_core.specs.declared.flat.FlatSplit.{FlatSplit}
use Rattle.smv_mentions.specs.NameFaults.{place_if}
use Rattle.smv_mentions.specs.Scopes.{first_of_places}
use Rattle.smv_first_fault.specs.Firsts.{least}
use Rattle.smv_first_fault.proofs.LeastLaws.{from_here, least-step}
use Rattle.law_splits.specs.Leaves.{named_by}
use Rattle.law_splits.specs.SplitFaults.{astray, split_again, doubled}
use Rattle.smv_references.specs.Again.{again, placed_words}
use Rattle.smv_references.proofs.AgainLaws.{doubled-first}
use Rattle.smv_splits.specs.Groups.{place_of_split, leads}

-- what is made of what stands at a place
pub get-map : {X Y : Type 0} (f : X → Y) (xs : List X) (n : ℕ) (x : X) (y : Y) → n < length xs → x ≡ get_or xs n x → get_or (map f xs) n y ≡ f x
get-map f [] n x y l e = absurd (omega (arith, l))
get-map f (z ∷ xs) zero x y l e = ap f (sym e)
get-map f (z ∷ xs) (suc n) x y l e = get-map f xs n x y (omega (arith, l)) e

-- one split more of those that may lead to no unit
astray-step : (d : Design) (marks : List Bool) (n : ℕ) (s : FlatSplit) (mark : Bool) (found place new whole : Option ℕ) → marks ≡ map (leads d) d.splits → n < length d.splits → s ≡ get_or d.splits n s →
    mark ≡ get_or marks n false → place ≡ least (place_if (not mark) s.of.at) → new ≡ first_of_places found place →
    first_of_places found (least (flat_map (astray d) (drop n d.splits))) ≡ whole → first_of_places new (least (flat_map (astray d) (drop (n + 1) d.splits))) ≡ whole
astray-step d marks n s mark found place new whole are below here at is put known =
    least-step (astray d) d.splits n s found place new whole below here
    (is ∙ ap (λ b. least (place_if (not b) s.of.at)) (at ∙ (ap (λ l. get_or l n false) are ∙ get-map (leads d) d.splits n s false below here))) put known

pub astray-in : (d : Design) (marks : List Bool) (items : List FlatSplit) (n : ℕ) (s : FlatSplit) (mark : Bool) (found place new whole : Option ℕ) → marks ≡ map (leads d) d.splits → items ≡ d.splits → n < length items →
    s ≡ get_or items n s → mark ≡ get_or marks n false → place ≡ least (place_if (not mark) s.of.at) → new ≡ first_of_places found place →
    first_of_places found (least (flat_map (astray d) (drop n d.splits))) ≡ whole → first_of_places new (least (flat_map (astray d) (drop (n + 1) d.splits))) ≡ whole
astray-in d marks items n s mark found place new whole are same below here at is put known =
    astray-step d marks n s mark found place new whole are (subst (λ (l : List FlatSplit). n < length l) same below) (here ∙ ap (λ l. get_or l n s) same) at is put known

-- what splits are of as words, each at its reference
abbrev word-of : FlatSplit → Word
word-of s = record { name = named_by s.of; at = s.of.at }

words-placed : (splits : List FlatSplit) → placed_words (map word-of splits) ≡ map place_of_split splits
words-placed [] = refl
words-placed (s ∷ splits) = ap (λ l. place_of_split s ∷ l) (words-placed splits)

words-doubled : (splits : List FlatSplit) → doubled (map word-of splits) ≡ split_again splits
words-doubled [] = refl
words-doubled (s ∷ more) = ap (λ l. l ++ doubled (map word-of more)) (others more) ∙ ap (λ l. map (λ (t : FlatSplit). t.of.at) (filter (λ (t : FlatSplit). bytes_eq (named_by t.of) (named_by s.of)) more) ++ l) (words-doubled more)
  where
    others : (more : List FlatSplit) → map (λ (w : Word). w.at) (filter (λ (w : Word). bytes_eq w.name (named_by s.of)) (map word-of more)) ≡ map (λ (t : FlatSplit). t.of.at) (filter (λ (t : FlatSplit). bytes_eq (named_by t.of) (named_by s.of)) more)
    others [] = refl
    others (t ∷ more) = at (bytes_eq (named_by t.of) (named_by s.of)) (others more)
      where
        at : (b : Bool) → map (λ (w : Word). w.at) (filter (λ (w : Word). bytes_eq w.name (named_by s.of)) (map word-of more)) ≡ map (λ (t : FlatSplit). t.of.at) (filter (λ (t : FlatSplit). bytes_eq (named_by t.of) (named_by s.of)) more) →
            map (λ (w : Word). w.at) (cond b (word-of t ∷ filter (λ (w : Word). bytes_eq w.name (named_by s.of)) (map word-of more)) (filter (λ (w : Word). bytes_eq w.name (named_by s.of)) (map word-of more)))
            ≡ map (λ (t : FlatSplit). t.of.at) (cond b (t ∷ filter (λ (t : FlatSplit). bytes_eq (named_by t.of) (named_by s.of)) more) (filter (λ (t : FlatSplit). bytes_eq (named_by t.of) (named_by s.of)) more))
        at true e = ap (λ l. t.of.at ∷ l) e
        at false e = e

-- the first split of what is split before
pub again-is : (splits : List FlatSplit) (names : List (ℕ × Name)) (place : Option ℕ) → names ≡ map place_of_split splits → place ≡ least (again bytes_eq [] names) → place ≡ least (split_again splits)
again-is splits names place are at =
    at ∙ ap (λ l. least (again bytes_eq [] l)) (are ∙ sym (words-placed splits)) ∙ doubled-first (map word-of splits) ∙ ap least (words-doubled splits)

-- one split more with the name of what it is of
pub placed-step : (splits : List FlatSplit) (names : List Name) (n : ℕ) (s : FlatSplit) (name : Name) (out out' whole : List (ℕ × Name)) → names ≡ map (λ (s : FlatSplit). named_by s.of) splits → n < length splits →
    s ≡ get_or splits n s → name ≡ get_or names n name → out' ≡ out ++ (s.of.at, name) ∷ [] → out ++ map place_of_split (drop n splits) ≡ whole → out' ++ map place_of_split (drop (n + 1) splits) ≡ whole
placed-step splits names n s name out out' whole are below here at put known =
    let same : name ≡ named_by s.of = at ∙ (ap (λ l. get_or l n name) are ∙ get-map (λ (s : FlatSplit). named_by s.of) splits n s name below here) in
    ap (λ l. l ++ map place_of_split (drop (n + 1) splits)) (put ∙ ap (λ m. out ++ (s.of.at, m) ∷ []) same)
    ∙ append_assoc out (place_of_split s ∷ []) (map place_of_split (drop (n + 1) splits)) ∙ ap (λ l. out ++ map place_of_split l) (sym (drop_read_one splits n s below here)) ∙ known

-- all of them
pub placed-end : (splits : List FlatSplit) (n : ℕ) (out : List (ℕ × Name)) → length splits ≤ n → out ++ map place_of_split (drop n splits) ≡ map place_of_split splits → out ≡ map place_of_split splits
placed-end splits n out over known = sym (append-nil out) ∙ ap (λ l. out ++ map place_of_split l) (sym (past splits n over)) ∙ known
  where
    past : {X : Type 0} (xs : List X) (n : ℕ) → length xs ≤ n → drop n xs ≡ []
    past [] zero l = refl
    past [] (suc n) l = refl
    past (x ∷ xs) zero l = absurd (omega (arith, l))
    past (x ∷ xs) (suc n) l = past xs n (omega (arith, l))
