-- A definition gives an element what the statements give it from which it is made, and concerns the elements that they concern.
use Rattle.std.proofs.Common.{◌≡◌, ℕ, zero, suc, ◌<◌, ◌+◌, get_or, arith, List, [], ◌∷◌, ◌++◌, map, filter, zip, length, Option, Some, None, Bool, true, false, ◌&&◌, ◌||◌, cond, nat_eq, refl, sym, ap, ◌∙◌, option_map, unwrap_or, All}
use Rattle.std.specs.List.{flat_map, list_any, list_all}
use Rattle.std.proofs.lemmas.List.Folds.{list_any-append}
use Rattle.law_lists.proofs.Booleans.{or_alike}
use Rattle.smv_core.specs.Values.{Name, Value, Sizes, truth}
use Rattle.smv_core.specs.Walk.{Walk, first, first_of, if_walk, same_kind}
use Rattle.smv_core.specs.Assignments.{Index, fits}
use Rattle.smv_core.specs.FlatMeaning.{Numbered, FlatState, FlatBindings, FlatElement, bind, values_in, flat_outcome, flat_assigned, flat_index, flat_walk, flat_walks, flat_result, indexes_assigned, is_concerned_by, flat_kept, flat_stepped, flat_allowed}
use Rattle.smv_core.specs.declared.tree.Kind.{Kind}
use Rattle.smv_core.specs.declared.tree.Kind.TheVariants.{Comb, Init, Next}
use Rattle.smv_core.specs.declared.flat.FlatStmt.{FlatStmt, Assign, If', Block', Default', Forall', Row_of-FlatStmt, end_of-FlatStmt, more_of-FlatStmt}
use Rattle.smv_core.specs.declared.flat.DefBody.{DefBody, Nothing}
use Rattle.smv_core.specs.declared.flat.DefBody as flat
use Rattle.smv_core.specs.declared.flat.Def.{Def}
use Rattle.smv_core.specs.declared.flat.FlatText.{FlatText}
use Rattle.smv_core.specs.declared.flat.FlatItem.{FlatItem}
use Rattle.smv_core.specs.declared.flat.FlatItem.TheVariants as item
use Rattle.law_designs.specs.Flattening.{flat_assignments, flat_assignments_in, layer_number}
use Rattle.law_designs.specs.Agreement.{numbers_of}
use Rattle.law_designs.specs.WholeText.{is_one_layer, acts_of, flat_text_walk}
use Rattle.law_designs.specs.FlatTextAllowed.{flat_concerns, flat_text_is_concerned, flat_text_kept, flat_text_stepped, flat_text_allowed}
use Rattle.law_designs.specs.Standing.{count, Statement, statements_from}
use Rattle.law_designs.specs.Definitions.{flat_of, flats_of, part_of, set_of, Head, def_of}
use Rattle.law_designs.proofs.FlatParts.{first-same, indexes-first_part, indexes-branches, indexes-each_value, result-first_part, result-branches, result-each_value}

-- ---- results

if_walk-same : (every : List Value) (u : Option Bool) (v w x y : Walk) → v ≡ x → w ≡ y → if_walk every u v w ≡ if_walk every u x y
if_walk-same every u v w x y h k = rw (h, k) refl

first_of-same : (v w x y : Walk) → v ≡ x → w ≡ y → first_of v w ≡ first_of x y
first_of-same v w x y h k = rw (h, k) refl

first-of-none : (w : Walk) → first_of w None ≡ w
first-of-none None = refl
first-of-none (Some vs) = refl

module _ (n : Numbered) (s : FlatState) (x : FlatElement) (every : List Value) (kind : Kind) where
  assigned-same : (c : Bool) (left : List _) (value : _) (k at : ℕ) (b : FlatBindings) →
      flat_result n s x every (cond c (flat.Assign left value k at) Nothing) b ≡ cond c (flat_assigned n s x every (map (λ e. flat_outcome n s e b) left) value b) None
  assigned-same true left value k at b = refl
  assigned-same false left value k at b = refl

  mutual
    pub result-same : (k : ℕ) (act : FlatStmt) (b : FlatBindings) → flat_result n s x every (flat_of kind x.family k act) b ≡ flat_walk n s x every kind act b
    result-same k (Assign which other left value at) b = assigned-same (same_kind which kind && nat_eq other x.family) left value k at b
    result-same k (If' test l (more_of-FlatStmt left end_of-FlatStmt) r (more_of-FlatStmt right end_of-FlatStmt)) b =
        result-branches n s x every test (flat_of kind x.family k left) (flat_of kind x.family (k + count left) right) b
        ∙ if_walk-same every (truth (flat_outcome n s test b)) _ _ (flat_walk n s x every kind left b) (flat_walk n s x every kind right b) (result-same k left b) (result-same (k + count left) right b)
    result-same k (Block' shape parts) b = result-first_part n s x every (flats_of kind x.family k parts) b ∙ results-same k parts b
    result-same k (Default' l (more_of-FlatStmt left end_of-FlatStmt) r (more_of-FlatStmt right end_of-FlatStmt)) b =
        result-first_part n s x every (flat_of kind x.family (k + count left) right ∷ flat_of kind x.family k left ∷ []) b
        ∙ first_of-same _ _ (flat_walk n s x every kind right b) (flat_walk n s x every kind left b) (result-same (k + count left) right b) (first-of-none _ ∙ result-same k left b)
    result-same k (Forall' var over shape (more_of-FlatStmt body end_of-FlatStmt)) b =
        result-each_value n s x every var over (flat_of kind x.family k body) b
        ∙ first-same (λ v. flat_result n s x every (flat_of kind x.family k body) (bind b var v)) (λ v. flat_walk n s x every kind body (bind b var v)) (λ v. result-same k body (bind b var v)) (values_in n over)

    results-same : {m : _} (k : ℕ) (parts : Row_of-FlatStmt m) (b : FlatBindings) → first (map (λ p. flat_result n s x every p b) (flats_of kind x.family k parts)) ≡ flat_walks n s x every kind parts b
    results-same k end_of-FlatStmt b = refl
    results-same k (more_of-FlatStmt part rest) b = first_of-same _ _ (flat_walk n s x every kind part b) (flat_walks n s x every kind rest b) (result-same k part b) (results-same (k + count part) rest b)

-- ---- which elements are concerned

or-false : (b : Bool) → (b || false) ≡ b
or-false true = refl
or-false false = refl

or-turned : (a b : Bool) → (a || b) ≡ (b || a)
or-turned true true = refl
or-turned true false = refl
or-turned false true = refl
or-turned false false = refl

module _ (x : FlatElement) (kind : Kind) where
  -- the indexes of an assignment fit the element
  abbrev fit : List Index → Bool
  fit is = list_all (λ (i, v). fits i v) (zip is x.indexes)

  abbrev concerned : FlatStmt → Bool
  concerned act = list_any (flat_concerns kind x) (flat_assignments act)

  one-concerned : (a b : Bool) (left : List _) (value : _) (k at : ℕ) → list_any fit (indexes_assigned (cond (a && b) (flat.Assign left value k at) Nothing)) ≡ ((a && (b && fit (map flat_index left))) || false)
  one-concerned true true left value k at = refl
  one-concerned true false left value k at = refl
  one-concerned false b left value k at = refl

  mutual
    pub concerned-same : (k : ℕ) (act : FlatStmt) → is_concerned_by (flat_of kind x.family k act) x ≡ concerned act
    concerned-same k (Assign which other left value at) = one-concerned (same_kind which kind) (nat_eq other x.family) left value k at
    concerned-same k (If' test l (more_of-FlatStmt left end_of-FlatStmt) r (more_of-FlatStmt right end_of-FlatStmt)) =
        let p : DefBody = flat_of kind x.family k left in
        let q : DefBody = flat_of kind x.family (k + count left) right in
        ap (list_any fit) (indexes-branches test p q) ∙ list_any-append fit (indexes_assigned p) (indexes_assigned q)
        ∙ or_alike _ _ (concerned left) (concerned right) (concerned-same k left) (concerned-same (k + count left) right)
        ∙ sym (list_any-append (flat_concerns kind x) (flat_assignments left) (flat_assignments right))
    concerned-same k (Block' shape parts) = ap (list_any fit) (indexes-first_part (flats_of kind x.family k parts)) ∙ all-concerned k parts
    concerned-same k (Default' l (more_of-FlatStmt left end_of-FlatStmt) r (more_of-FlatStmt right end_of-FlatStmt)) =
        let p : DefBody = flat_of kind x.family k left in
        let q : DefBody = flat_of kind x.family (k + count left) right in
        ap (list_any fit) (indexes-first_part (q ∷ p ∷ [])) ∙ list_any-append fit (indexes_assigned q) (indexes_assigned p ++ [])
        ∙ or_alike _ _ (concerned right) (concerned left) (concerned-same (k + count left) right) (list_any-append fit (indexes_assigned p) [] ∙ or-false (list_any fit (indexes_assigned p)) ∙ concerned-same k left)
        ∙ or-turned (concerned right) (concerned left)
        ∙ sym (list_any-append (flat_concerns kind x) (flat_assignments left) (flat_assignments right))
    concerned-same k (Forall' var over shape (more_of-FlatStmt body end_of-FlatStmt)) = ap (list_any fit) (indexes-each_value var over (flat_of kind x.family k body)) ∙ concerned-same k body

    all-concerned : {m : _} (k : ℕ) (parts : Row_of-FlatStmt m) → list_any fit (flat_map indexes_assigned (flats_of kind x.family k parts)) ≡ list_any (flat_concerns kind x) (flat_assignments_in parts)
    all-concerned k end_of-FlatStmt = refl
    all-concerned k (more_of-FlatStmt part rest) =
        list_any-append fit (indexes_assigned (flat_of kind x.family k part)) (flat_map indexes_assigned (flats_of kind x.family (k + count part) rest))
        ∙ or_alike _ _ (concerned part) (list_any (flat_concerns kind x) (flat_assignments_in rest)) (concerned-same k part) (all-concerned (k + count part) rest)
        ∙ sym (list_any-append (flat_concerns kind x) (flat_assignments part) (flat_assignments_in rest))

-- ---- definition sets

-- those of the statements of a set, one for one
pub set-acts : (layer : Option ℕ) (k : ℕ) (items : List FlatItem) → map (λ (s : Statement). s.act) (filter (λ s. is_one_layer layer s.layer) (statements_from k items)) ≡ acts_of layer items
set-acts layer k [] = refl
set-acts layer k (item.Act other act ∷ items) = by_test (is_one_layer layer other) (set-acts layer (k + count act) items)
  where
    by_test : (b : Bool) → map (λ (s : Statement). s.act) (filter (λ s. is_one_layer layer s.layer) (statements_from (k + count act) items)) ≡ acts_of layer items →
        map (λ (s : Statement). s.act) (cond b (record { layer = other; place = k; act = act } ∷ filter (λ s. is_one_layer layer s.layer) (statements_from (k + count act) items)) (filter (λ s. is_one_layer layer s.layer) (statements_from (k + count act) items)))
        ≡ cond b (act ∷ acts_of layer items) (acts_of layer items)
    by_test true same = ap (λ l. act ∷ l) same
    by_test false same = same
set-acts layer k (item.Claim c ∷ items) = set-acts layer (k + 1) items
set-acts layer k (item.Split c ∷ items) = set-acts layer k items
set-acts layer k (item.Using c ∷ items) = set-acts layer k items

module _ (n : Numbered) (x : FlatElement) (every : List Value) (kind : Kind) where
  part-result : (s : FlatState) (set : List Statement) → flat_result n s x every (part_of kind x.family set) [] ≡ first (map (λ act. flat_walk n s x every kind act []) (map (λ (t : Statement). t.act) set))
  part-result s set = result-first_part n s x every (map (λ t. flat_of kind x.family t.place t.act) set) [] ∙ each set
    where
      each : (set : List Statement) → first (map (λ p. flat_result n s x every p []) (map (λ t. flat_of kind x.family t.place t.act) set)) ≡ first (map (λ act. flat_walk n s x every kind act []) (map (λ (t : Statement). t.act) set))
      each [] = refl
      each (t ∷ set) = first_of-same _ _ (flat_walk n s x every kind t.act []) _ (result-same n s x every kind t.place t.act []) (each set)

  part-concerned : (set : List Statement) → is_concerned_by (part_of kind x.family set) x ≡ list_any (λ act. list_any (flat_concerns kind x) (flat_assignments act)) (map (λ (t : Statement). t.act) set)
  part-concerned set = ap (list_any (fit x kind)) (indexes-first_part (map (λ t. flat_of kind x.family t.place t.act) set)) ∙ each set
    where
      each : (set : List Statement) → list_any (fit x kind) (flat_map indexes_assigned (map (λ t. flat_of kind x.family t.place t.act) set)) ≡ list_any (λ act. list_any (flat_concerns kind x) (flat_assignments act)) (map (λ (t : Statement). t.act) set)
      each [] = refl
      each (t ∷ set) =
          list_any-append (fit x kind) (indexes_assigned (flat_of kind x.family t.place t.act)) (flat_map indexes_assigned (map (λ t. flat_of kind x.family t.place t.act) set))
          ∙ or_alike _ _ (list_any (flat_concerns kind x) (flat_assignments t.act)) _ (concerned-same x kind t.place t.act) (each set)

-- ---- allowed values

cond-same : (a b : Bool) (u v w x : List Value) → a ≡ b → u ≡ v → w ≡ x → cond a u w ≡ cond b v x
cond-same a b u v w x h k l = rw (h, k, l) refl

or_every-same : (every vs ws : List Value) (u v : Walk) → u ≡ v → vs ≡ ws → unwrap_or u vs ≡ unwrap_or v ws
or_every-same every vs ws u v h k = rw (h, k) refl

module _ (flat_text : FlatText) (sizes : Sizes) (layer : Option Name) (x : FlatElement) (every : List Value) where
  abbrev n : Numbered
  n = numbers_of flat_text sizes

  abbrev number : Option ℕ
  number = option_map (layer_number flat_text.layers) layer

  pub part-walk : (kind : Kind) (s : FlatState) → flat_result n s x every (part_of kind x.family (set_of flat_text number)) [] ≡ flat_text_walk flat_text sizes s layer x every kind
  part-walk kind s = part-result n x every kind s (set_of flat_text number) ∙ ap (λ l. first (map (λ act. flat_walk n s x every kind act []) l)) (set-acts number 0 flat_text.items)

  pub part-concerns : (kind : Kind) → is_concerned_by (part_of kind x.family (set_of flat_text number)) x ≡ flat_text_is_concerned flat_text sizes layer x every kind
  part-concerns kind = part-concerned n x every kind (set_of flat_text number) ∙ ap (list_any (λ act. list_any (flat_concerns kind x) (flat_assignments act))) (set-acts number 0 flat_text.items)

  module _ (head : Head) where
    abbrev def : Def
    def = def_of flat_text head

    kept-same : number ≡ head.layer → x.family ≡ head.family → (old : FlatState) → flat_kept n def x every old ≡ flat_text_kept flat_text sizes layer x every old
    kept-same h k old =
        cond-same _ (flat_text_is_concerned flat_text sizes layer x every Next) (old x.family x.indexes ∷ []) (old x.family x.indexes ∷ []) every every
        (ap (λ l. is_concerned_by (part_of Next head.family (set_of flat_text l)) x) (sym h) ∙ ap (λ f. is_concerned_by (part_of Next f (set_of flat_text number)) x) (sym k) ∙ part-concerns Next) refl refl

    result-is : number ≡ head.layer → x.family ≡ head.family → (kind : Kind) (s : FlatState) → flat_result n s x every (part_of kind head.family (set_of flat_text head.layer)) [] ≡ flat_text_walk flat_text sizes s layer x every kind
    result-is h k kind s =
        ap (λ l. flat_result n s x every (part_of kind head.family (set_of flat_text l)) []) (sym h) ∙ ap (λ f. flat_result n s x every (part_of kind f (set_of flat_text number)) []) (sym k) ∙ part-walk kind s

    stepped-same : number ≡ head.layer → x.family ≡ head.family → (before : Option FlatState) (now : FlatState) → flat_stepped n def x every before now ≡ flat_text_stepped flat_text sizes layer x every before now
    stepped-same h k None now = or_every-same every every every _ (flat_text_walk flat_text sizes now layer x every Init) (result-is h k Init now) refl
    stepped-same h k (Some old) now = or_every-same every _ (flat_text_kept flat_text sizes layer x every old) _ (flat_text_walk flat_text sizes old layer x every Next) (result-is h k Next old) (kept-same h k old)

    pub allowed-same : number ≡ head.layer → x.family ≡ head.family → (before : Option FlatState) (now : FlatState) → flat_allowed n def x every before now ≡ flat_text_allowed flat_text sizes layer x every before now
    allowed-same h k before now =
        cond-same _ (flat_text_is_concerned flat_text sizes layer x every Comb) _ (unwrap_or (flat_text_walk flat_text sizes now layer x every Comb) every) _ (flat_text_stepped flat_text sizes layer x every before now)
        (ap (λ l. is_concerned_by (part_of Comb head.family (set_of flat_text l)) x) (sym h) ∙ ap (λ f. is_concerned_by (part_of Comb f (set_of flat_text number)) x) (sym k) ∙ part-concerns Comb)
        (or_every-same every every every _ (flat_text_walk flat_text sizes now layer x every Comb) (result-is h k Comb now) refl) (stepped-same h k before now)

-- so it is for each definition that is made of a list of first assignments
pub all-map : {X Y : Type 0} (f : X → Y) (P : Y → Type 0) → ((x : X) → P (f x)) → (xs : List X) → All P (map f xs)
all-map f P h [] = λ k d lt. absurd (omega (arith, lt))
all-map {X} {Y} f P h (x ∷ xs) = λ k d lt. by_place k lt d (all-map f P h xs)
  where
    by_place : (k : ℕ) → k < length (f x ∷ map f xs) → (d : Y) → All P (map f xs) → P (get_or (f x ∷ map f xs) k d)
    by_place zero lt d rest = h x
    by_place (suc k) lt d rest = rest k d (omega (arith, lt))
