-- Splits that wait, by their numbers.
use Rattle.std.proofs.Common.{◌≡◌, ℕ, zero, suc, ◌+◌, ◌-◌, ◌<◌, ◌≤◌, min, List, [], ◌∷◌, ◌++◌, map, drop, length, get_or, Bool, true, false, cond, filter, refl, ap, sym, ◌∙◌, arith}
use Rattle.std.specs.Prelude.{Option, Some, slice_get, option_to_list, if◌then◌else◌}
use Rattle.std.specs.Str.{bytes_eq}
use Rattle.std.proofs.lemmas.List.{append_assoc, append-nil, map-append}
use Rattle.std.proofs.lemmas.List.Concat.{flat_map-append}
use Rattle.law_lists.proofs.Places.{drop_read_one}
use Rattle.smv_core.specs.Values.{Name}
use Rattle.smv_core.specs.declared.tree.Word.{Word}
use Rattle.smv_core.specs.declared.flat.Simple.{Simple}
use Rattle.smv_core.specs.declared.flat.Design.{Design}
use Rattle.smv_core.specs.declared.flat.Param.{Param}
use Rattle.smv_core.specs.declared.flat.FlatSplit.{FlatSplit}
use Rattle.law_obligations.proofs.OneOfEach.{get_after}
use Rattle.smv_mentions.specs.Scopes.{first_of_places}
use Rattle.smv_first_fault.specs.Firsts.{least}
use Rattle.smv_first_fault.proofs.LeastLaws.{first-none, first-assoc, least-append, from_here}
use Rattle.law_splits.specs.Leaves.{named_by, splits_of}
use Rattle.law_splits.specs.Chains.{other_type, other_types}
use Rattle.smv_splits.specs.Groups.{numbers_with, names_split}
use Rattle.smv_split_faults.specs.Waiting.{Wait, waits, splits_at, following}

-- the splits whose numbers are in a group
behind : (name : Name) (before more : List FlatSplit) (k : ℕ) → k ≡ length before → splits_at (before ++ more) (numbers_with name k (map (λ (s : FlatSplit). named_by s.of) more)) ≡ filter (λ (s : FlatSplit). bytes_eq (named_by s.of) name) more
behind name before [] k e = refl
behind name before (s ∷ more) k e =
    flat_map-append (λ j. option_to_list (slice_get (before ++ s ∷ more) j)) (if bytes_eq (named_by s.of) name then k ∷ [] else []) (numbers_with name (suc k) (map (λ (s : FlatSplit). named_by s.of) more))
    ∙ ap (λ l. splits_at (before ++ s ∷ more) (if bytes_eq (named_by s.of) name then k ∷ [] else []) ++ l)
    (ap (λ all. splits_at all (numbers_with name (suc k) (map (λ (s : FlatSplit). named_by s.of) more))) (sym (append_assoc before (s ∷ []) more)) ∙ behind name (before ++ s ∷ []) more (suc k) (ap suc e ∙ sym (long before)))
    ∙ by (bytes_eq (named_by s.of) name)
  where
    long : (xs : List FlatSplit) → length (xs ++ s ∷ []) ≡ suc (length xs)
    long [] = refl
    long (x ∷ xs) = ap suc (long xs)

    here : slice_get (before ++ s ∷ more) k ≡ Some s
    here = ap (slice_get (before ++ s ∷ more)) e ∙ get_after before more s

    by : (b : Bool) → splits_at (before ++ s ∷ more) (if b then k ∷ [] else []) ++ filter (λ (s : FlatSplit). bytes_eq (named_by s.of) name) more
        ≡ cond b (s ∷ filter (λ (s : FlatSplit). bytes_eq (named_by s.of) name) more) (filter (λ (s : FlatSplit). bytes_eq (named_by s.of) name) more)
    by true = ap (λ o. (option_to_list o ++ []) ++ filter (λ (s : FlatSplit). bytes_eq (named_by s.of) name) more) here
    by false = refl

pub group-splits : (d : Design) (name : Name) → splits_at d.splits (numbers_with name 0 (names_split d)) ≡ splits_of d name
group-splits d name = behind name [] d.splits 0 refl

-- the splits of what has a name, one less followed
pub follows : (d : Design) (splits : List FlatSplit) (named : List Name) (numbers : List ℕ) (name : Name) (known left less : ℕ) (out out' : List Wait) → splits ≡ d.splits → named ≡ names_split d →
    numbers ≡ numbers_with name 0 named → left ≡ suc less → out' ≡ out ++ map (waits known less) (splits_at splits numbers) → out' ≡ out ++ following d known left name
follows d splits named numbers name known left less out out' same n are one put =
    put ∙ ap (λ l. out ++ map (waits known less) l)
    (ap (λ l. splits_at l numbers) same ∙ ap (splits_at d.splits) (are ∙ ap (numbers_with name 0) n) ∙ group-splits d name)
    ∙ ap (λ k. out ++ following d known k name) (sym one)

pub follows-none : (d : Design) (name : Name) (known left : ℕ) (out : List Wait) → left ≡ 0 → out ≡ out ++ following d known left name
follows-none d name known left out e = sym (ap (λ k. out ++ following d known k name) e ∙ append-nil out)

-- ---- names beside types

pub other-step : (bound : List Param) (words : List Word) (types : List Simple) (n : ℕ) (word : Word) (t : Simple) (found place new whole : Option ℕ) → n < length words → n < length types → word ≡ get_or words n word → t ≡ get_or types n t →
    place ≡ least (other_type bound word t) → new ≡ first_of_places found place →
    first_of_places found (least (other_types bound (drop n words) (drop n types))) ≡ whole → first_of_places new (least (other_types bound (drop (n + 1) words) (drop (n + 1) types))) ≡ whole
other-step bound words types n word t found place new whole below within here there at put known =
    let rest = other_types bound (drop (n + 1) words) (drop (n + 1) types) in
    ap (λ o. first_of_places o (least rest)) (put ∙ ap (first_of_places found) at) ∙ first-assoc found (least (other_type bound word t)) (least rest)
    ∙ ap (first_of_places found) (sym (least-append (other_type bound word t) rest) ∙ ap (λ l. least (other_types bound l (t ∷ drop (n + 1) types))) (sym (drop_read_one words n word below here))
    ∙ ap (λ l. least (other_types bound (drop n words) l)) (sym (drop_read_one types n t within there))) ∙ known

-- beside the last name or the last type nothing is left
none-left : (bound : List Param) (words : List Word) (types : List Simple) (n : ℕ) → min (length words) (length types) ≤ n → other_types bound (drop n words) (drop n types) ≡ []
none-left bound [] types zero l = refl
none-left bound [] types (suc n) l = refl
none-left bound (word ∷ words) [] zero l = refl
none-left bound (word ∷ words) [] (suc n) l = none (drop n words)
  where
    none : (words : List Word) → other_types bound words [] ≡ []
    none [] = refl
    none (word ∷ words) = refl
none-left bound (word ∷ words) (t ∷ types) zero l = absurd (omega (arith, l))
none-left bound (word ∷ words) (t ∷ types) (suc n) l = none-left bound words types n (omega (arith, l))

pub other-all : (bound : List Param) (words : List Word) (types : List Simple) (n : ℕ) (found whole : Option ℕ) → min (length words) (length types) ≤ n → first_of_places found (least (other_types bound (drop n words) (drop n types))) ≡ whole → found ≡ whole
other-all bound words types n found whole over known = sym (first-none found) ∙ ap (λ l. first_of_places found (least l)) (sym (none-left bound words types n over)) ∙ known

-- ---- numbers

-- one number more of those whose splits wait
pub waits-step : (splits : List FlatSplit) (numbers : List ℕ) (n k known left : ℕ) (o : Option FlatSplit) (out out' whole : List Wait) → n < length numbers → k ≡ get_or numbers n k → o ≡ slice_get splits k →
    out' ≡ out ++ map (waits known left) (option_to_list o) → out ++ map (waits known left) (splits_at splits (drop n numbers)) ≡ whole → out' ++ map (waits known left) (splits_at splits (drop (n + 1) numbers)) ≡ whole
waits-step splits numbers n k known left o out out' whole below here at put was =
    let rest = splits_at splits (drop (n + 1) numbers) in
    ap (λ l. l ++ map (waits known left) rest) (put ∙ ap (λ o. out ++ map (waits known left) (option_to_list o)) at)
    ∙ append_assoc out (map (waits known left) (option_to_list (slice_get splits k))) (map (waits known left) rest)
    ∙ ap (λ l. out ++ l) (sym (map-append (waits known left) (option_to_list (slice_get splits k)) rest))
    ∙ ap (λ l. out ++ map (waits known left) (splits_at splits l)) (sym (drop_read_one numbers n k below here)) ∙ was
