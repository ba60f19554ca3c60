-- Laws of functions of finitely many variables, and of their truth tables.
use Rattle.std.proofs.Common.{◌≡◌, ◌≢◌, ℕ, zero, suc, ◌+◌, ◌^◌, ◌<◌, ◌≤◌, Bool, true, false, ◌||◌, eqb, cond, List, [], ◌∷◌, ◌++◌, length, take, drop, refl, sym, ◌∙◌, ap, arith, inl, inr, length-append}
use Rattle.std.specs.List.{list_any, flat_map}
use Rattle.std.proofs.Math.Nat.{pow-suc}
use Rattle.std.proofs.Math.Seq.{take-append_seam, drop-append_seam}
use Rattle.std.proofs.lemmas.Bool.{cases_lt}
use Rattle.bdd_store.specs.declared.Ref.{Ref}
use Rattle.bdd_store.specs.declared.chains.Node.{Node}
use Rattle.bdd_store.specs.Graph.{with_at, walk, step}
use Rattle.bdd_store.specs.Beads.{truth_table, same_block, blocks_of, count_distinct, bead_count}
use Rattle.bdd_store.specs.Diagram.{Diagram, table}
use Rattle.bdd_store.proofs.Walks.{with_here, with_other}
use Rattle.bdd_store.proofs.Sets.{or_true, or_left, or_right}
use Rattle.bdd_store.proofs.Blocks.{same_block-refl, same_block-true}

-- f reads variables k to k + b - 1 alone
abbrev pub Reads : ℕ → ℕ → ((ℕ → Bool) → Bool) → Type 0
Reads b k f = (a c : ℕ → Bool) → ((v : ℕ) → k ≤ v → v < k + b → a v ≡ c v) → f a ≡ f c

-- assignments that agree but for a variable agree where it is fixed
pub with_agree : (a c : ℕ → Bool) (k : ℕ) (x : Bool) (v : ℕ) → (v ≢ k → a v ≡ c v) → with_at a k x v ≡ with_at c k x v
with_agree a c k x v same = elim (cases_lt v k) [
  | inl lt ↦ with_other a k x v (omega arith) ∙ same (omega arith) ∙ sym (with_other c k x v (omega arith))
  | inr le ↦ elim (cases_lt k v) [
    | inl lt ↦ with_other a k x v (omega arith) ∙ same (omega arith) ∙ sym (with_other c k x v (omega arith))
    | inr is ↦ let e : v ≡ k = omega arith in rw e (with_here a k x ∙ sym (with_here c k x))
  ]
]

pub with_own : (a : ℕ → Bool) (k v : ℕ) → a v ≡ with_at a k (a k) v
with_own a k v = elim (cases_lt v k) [
  | inl lt ↦ sym (with_other a k (a k) v (omega arith))
  | inr le ↦ elim (cases_lt k v) [
    | inl lt ↦ sym (with_other a k (a k) v (omega arith))
    | inr is ↦ let e : v ≡ k = omega arith in rw e (sym (with_here a k (a k)))
  ]
]

pub half_reads : (b k : ℕ) (f : (ℕ → Bool) → Bool) (x : Bool) → Reads (suc b) k f → Reads b (suc k) (λ a. f (with_at a k x))
half_reads b k f x reads a c same = reads (with_at a k x) (with_at c k x) (λ v le lt. with_agree a c k x v (λ ne. same v (omega arith) (omega arith)))

pub length-table : (b k : ℕ) (f : (ℕ → Bool) → Bool) → length (truth_table b k f) ≡ 2 ^ b
unfolding truth_table
length-table zero k f = refl
length-table (suc b) k f =
    length-append (truth_table b (suc k) (λ a. f (with_at a k false))) (truth_table b (suc k) (λ a. f (with_at a k true)))
    ∙ omega (arith, length-table b (suc k) (λ a. f (with_at a k false)), length-table b (suc k) (λ a. f (with_at a k true)), pow-suc 2 b)

take_same : (xs ys us vs : List Bool) → length xs ≡ length us → xs ++ ys ≡ us ++ vs → xs ≡ us
take_same xs ys us vs len e = sym (take-append_seam xs ys) ∙ ap (take (length xs)) e ∙ ap (λ n. take n (us ++ vs)) len ∙ take-append_seam us vs

drop_same : (xs ys us vs : List Bool) → length xs ≡ length us → xs ++ ys ≡ us ++ vs → ys ≡ vs
drop_same xs ys us vs len e = sym (drop-append_seam xs ys) ∙ ap (drop (length xs)) e ∙ ap (λ n. drop n (us ++ vs)) len ∙ drop-append_seam us vs

half_tables : (b k : ℕ) (f g : (ℕ → Bool) → Bool) → truth_table (suc b) k f ≡ truth_table (suc b) k g → (x : Bool) → truth_table b (suc k) (λ a. f (with_at a k x)) ≡ truth_table b (suc k) (λ a. g (with_at a k x))
unfolding truth_table
half_tables b k f g e false = take_same _ _ _ _ (length-table b (suc k) (λ a. f (with_at a k false)) ∙ sym (length-table b (suc k) (λ a. g (with_at a k false)))) e
half_tables b k f g e true = drop_same _ _ _ _ (length-table b (suc k) (λ a. f (with_at a k false)) ∙ sym (length-table b (suc k) (λ a. g (with_at a k false)))) e

single : (x y : Bool) → x ∷ [] ≡ y ∷ [] → x ≡ y
single x y e = cc

end_tables : (k : ℕ) (f g : (ℕ → Bool) → Bool) → truth_table zero k f ≡ truth_table zero k g → f (λ _. false) ≡ g (λ _. false)
unfolding truth_table
end_tables k f g e = single _ _ e

-- equal truth tables are those of equal functions
pub tables_alike : (b k : ℕ) (f g : (ℕ → Bool) → Bool) → Reads b k f → Reads b k g → truth_table b k f ≡ truth_table b k g → (a : ℕ → Bool) → f a ≡ g a
tables_alike zero k f g reads_f reads_g e a =
    reads_f a (λ _. false) (λ v le lt. absurd (omega arith)) ∙ end_tables k f g e ∙ sym (reads_g a (λ _. false) (λ v le lt. absurd (omega arith)))
tables_alike (suc b) k f g reads_f reads_g e a =
    reads_f a (with_at a k (a k)) (λ v le lt. with_own a k v)
    ∙ tables_alike b (suc k) (λ c. f (with_at c k (a k))) (λ c. g (with_at c k (a k))) (half_reads b k f (a k) reads_f) (half_reads b k g (a k) reads_g) (half_tables b k f g e (a k)) a
    ∙ sym (reads_g a (with_at a k (a k)) (λ v le lt. with_own a k v))

-- a walk reads the variables that it passes alone
walk_below : (ns : List Node) (b k r : ℕ) (a c : ℕ → Bool) → ((v : ℕ) → k ≤ v → v < k + b → a v ≡ c v) → walk ns b k r a ≡ walk ns b k r c
unfolding walk
walk_below ns zero k r a c same = refl
walk_below ns (suc b) k r a c same =
    ap (λ x. walk ns b (suc k) (step ns k r x) a) (same k (omega arith) (omega arith))
    ∙ walk_below ns b (suc k) (step ns k r (c k)) a c (λ v le lt. same v (omega arith) (omega arith))

-- a table of a store reads the store's variables alone
pub table_reads : (d : Diagram) (r : Ref) → Reads d.vars 0 (table d r)
unfolding table
table_reads d r a c same = ap (λ p. eqb p 1) (walk_below d.nodes d.vars 0 r.place a c same)

-- membership among tables
abbrev pub one_of : List (List Bool) → List Bool → Bool
one_of ts t = list_any (same_block t) ts

without : List Bool → List (List Bool) → List (List Bool)
without x [] = []
without x (y ∷ ys) = cond (same_block x y) (without x ys) (y ∷ without x ys)

without_keeps_step : (x q y : List Bool) (ys : List (List Bool)) (t : Bool) → same_block x y ≡ t → q ≢ x → same_block q y || one_of ys q ≡ true → (one_of ys q ≡ true → one_of (without x ys) q ≡ true) → one_of (cond t (without x ys) (y ∷ without x ys)) q ≡ true
without_keeps_step x q y ys true is ne e ih = elim (or_true (same_block q y) (one_of ys q) e) [
  | inl at ↦ absurd (ne (same_block-true q y at ∙ sym (same_block-true x y is)))
  | inr later ↦ ih later
]
without_keeps_step x q y ys false is ne e ih = elim (or_true (same_block q y) (one_of ys q) e) [
  | inl at ↦ or_left (same_block q y) (one_of (without x ys) q) at
  | inr later ↦ or_right (same_block q y) (one_of (without x ys) q) (ih later)
]

without_keeps : (x q : List Bool) (ys : List (List Bool)) → q ≢ x → one_of ys q ≡ true → one_of (without x ys) q ≡ true
unfolding without
without_keeps x q [] ne e = e
without_keeps x q (y ∷ ys) ne e = without_keeps_step x q y ys (same_block x y) refl ne e (without_keeps x q ys ne)

without_most_step : (x q y : List Bool) (ys : List (List Bool)) (t : Bool) → one_of (cond t (without x ys) (y ∷ without x ys)) q ≡ true → (one_of (without x ys) q ≡ true → one_of ys q ≡ true) → same_block q y || one_of ys q ≡ true
without_most_step x q y ys true e ih = or_right (same_block q y) (one_of ys q) (ih e)
without_most_step x q y ys false e ih = elim (or_true (same_block q y) (one_of (without x ys) q) e) [
  | inl at ↦ or_left (same_block q y) (one_of ys q) at
  | inr later ↦ or_right (same_block q y) (one_of ys q) (ih later)
]

without_most : (x q : List Bool) (ys : List (List Bool)) → one_of (without x ys) q ≡ true → one_of ys q ≡ true
unfolding without
without_most x q [] e = e
without_most x q (y ∷ ys) e = without_most_step x q y ys (same_block x y) e (without_most x q ys)

-- taking a table out takes at least one
count_without_step : (x y : List Bool) (ys : List (List Bool)) (t m k : Bool) → same_block x y ≡ t → one_of ys x ≡ m → one_of ys y ≡ k → t || m ≡ true
    → (m ≡ true → suc (count_distinct same_block (without x ys)) ≤ count_distinct same_block ys) → count_distinct same_block (without x ys) ≤ count_distinct same_block ys
    → suc (count_distinct same_block (cond t (without x ys) (y ∷ without x ys))) ≤ cond k (count_distinct same_block ys) (suc (count_distinct same_block ys))
unfolding count_distinct
count_without_step x y ys true true k is is_m is_k e ih less = by_rest k (ih refl)
  where
    by_rest : (t : Bool) → suc (count_distinct same_block (without x ys)) ≤ count_distinct same_block ys → suc (count_distinct same_block (without x ys)) ≤ cond t (count_distinct same_block ys) (suc (count_distinct same_block ys))
    by_rest true le = le
    by_rest false le = omega arith
count_without_step x y ys true false true is is_m is_k e ih less = absurd (let f : true ≡ false = sym is_k ∙ ap (one_of ys) (sym (same_block-true x y is)) ∙ is_m in cc)
count_without_step x y ys true false false is is_m is_k e ih less = omega (arith, less)
count_without_step x y ys false true k is is_m is_k e ih less = by_left k (one_of (without x ys) y) is_k refl (ih refl)
  where
    by_left : (t s : Bool) → one_of ys y ≡ t → one_of (without x ys) y ≡ s → suc (count_distinct same_block (without x ys)) ≤ count_distinct same_block ys
        → suc (cond s (count_distinct same_block (without x ys)) (suc (count_distinct same_block (without x ys)))) ≤ cond t (count_distinct same_block ys) (suc (count_distinct same_block ys))
    by_left true true is_t is_s le = le
    by_left true false is_t is_s le =
        absurd (let f : true ≡ false = sym (without_keeps x y ys (λ at. (let g : true ≡ false = sym (same_block-refl x) ∙ ap (same_block x) (sym at) ∙ is in cc)) is_t) ∙ is_s in cc)
    by_left false true is_t is_s le = omega (arith, le)
    by_left false false is_t is_s le = omega (arith, le)
count_without_step x y ys false false k is is_m is_k e ih less = absurd (let f : false ≡ true = e in cc)

less_without_step : (x y : List Bool) (ys : List (List Bool)) (t k s : Bool) → one_of ys y ≡ k → one_of (without x ys) y ≡ s → (k ≡ true → s ≡ true) → count_distinct same_block (without x ys) ≤ count_distinct same_block ys
    → cond s (count_distinct same_block (without x ys)) (suc (count_distinct same_block (without x ys))) ≤ cond k (count_distinct same_block ys) (suc (count_distinct same_block ys))
less_without_step x y ys t true true is_k is_s f le = le
less_without_step x y ys t true false is_k is_s f le = absurd (let g : false ≡ true = f refl in cc)
less_without_step x y ys t false true is_k is_s f le = omega (arith, le)
less_without_step x y ys t false false is_k is_s f le = omega (arith, le)

less_without_by : (x y : List Bool) (ys : List (List Bool)) (t k : Bool) → same_block x y ≡ t → one_of ys y ≡ k → count_distinct same_block (without x ys) ≤ count_distinct same_block ys → count_distinct same_block (cond t (without x ys) (y ∷ without x ys)) ≤ cond k (count_distinct same_block ys) (suc (count_distinct same_block ys))
unfolding count_distinct
less_without_by x y ys true true is is_k le = le
less_without_by x y ys true false is is_k le = omega (arith, le)
less_without_by x y ys false k is is_k le =
    less_without_step x y ys false k (one_of (without x ys) y) is_k refl (λ e. without_keeps x y ys (λ at. (let g : true ≡ false = sym (same_block-refl x) ∙ ap (same_block x) (sym at) ∙ is in cc)) (is_k ∙ e)) le

less_without : (x : List Bool) (ys : List (List Bool)) → count_distinct same_block (without x ys) ≤ count_distinct same_block ys
unfolding count_distinct without
less_without x [] = omega arith
less_without x (y ∷ ys) = less_without_by x y ys (same_block x y) (one_of ys y) refl refl (less_without x ys)

count_without : (x : List Bool) (ys : List (List Bool)) → one_of ys x ≡ true → suc (count_distinct same_block (without x ys)) ≤ count_distinct same_block ys
unfolding count_distinct without
count_without x [] e = absurd (let f : false ≡ true = e in cc)
count_without x (y ∷ ys) e = count_without_step x y ys (same_block x y) (one_of ys x) (one_of ys y) refl refl refl e (count_without x ys) (less_without x ys)

-- a part has no more distinct tables
part_step : (x : List Bool) (xs ys : List (List Bool)) (t : Bool) → one_of xs x ≡ t → ((q : List Bool) → same_block q x || one_of xs q ≡ true → one_of ys q ≡ true) → ((zs : List (List Bool)) → ((q : List Bool) → one_of xs q ≡ true → one_of zs q ≡ true) → count_distinct same_block xs ≤ count_distinct same_block zs)
    → cond t (count_distinct same_block xs) (suc (count_distinct same_block xs)) ≤ count_distinct same_block ys
part_step x xs ys true is part ih = ih ys (λ q e. part q (or_right (same_block q x) (one_of xs q) e))
part_step x xs ys false is part ih =
    let inside : one_of ys x ≡ true = part x (or_left (same_block x x) (one_of xs x) (same_block-refl x)) in
    let rest = ih (without x ys) (λ q e. without_keeps x q ys (λ at. (let f : true ≡ false = sym e ∙ ap (one_of xs) at ∙ is in cc)) (part q (or_right (same_block q x) (one_of xs q) e))) in
    omega (arith, count_without x ys inside, rest)

part_count : (xs ys : List (List Bool)) → ((q : List Bool) → one_of xs q ≡ true → one_of ys q ≡ true) → count_distinct same_block xs ≤ count_distinct same_block ys
unfolding count_distinct
part_count [] ys part = omega arith
part_count (x ∷ xs) ys part = part_step x xs ys (one_of xs x) refl part (λ zs. part_count xs zs)

pub one_of_append : (q : List Bool) (xs ys : List (List Bool)) → one_of (xs ++ ys) q ≡ one_of xs q || one_of ys q
one_of_append q [] ys = refl
one_of_append q (x ∷ xs) ys = ap (λ t. same_block q x || t) (one_of_append q xs ys) ∙ or_assoc (same_block q x) (one_of xs q) (one_of ys q)
  where
    or_assoc : (a b c : Bool) → a || (b || c) ≡ (a || b) || c
    or_assoc true b c = refl
    or_assoc false b c = refl

block_in : (n : ℕ) (us : List (List Bool)) (t q : List Bool) → one_of us t ≡ true → one_of (blocks_of n t) q ≡ true → one_of (flat_map (blocks_of n) us) q ≡ true
block_in n [] t q is e = absurd (let f : false ≡ true = is in cc)
block_in n (u ∷ us) t q is e = one_of_append q (blocks_of n u) (flat_map (blocks_of n) us) ∙ elim (or_true (same_block t u) (one_of us t) is) [
  | inl at ↦ or_left (one_of (blocks_of n u) q) (one_of (flat_map (blocks_of n) us) q) (ap (λ x. one_of (blocks_of n x) q) (sym (same_block-true t u at)) ∙ e)
  | inr later ↦ or_right (one_of (blocks_of n u) q) (one_of (flat_map (blocks_of n) us) q) (block_in n us t q later e)
]

blocks_part : (n : ℕ) (ts us : List (List Bool)) → ((t : List Bool) → one_of ts t ≡ true → one_of us t ≡ true) → (q : List Bool) → one_of (flat_map (blocks_of n) ts) q ≡ true → one_of (flat_map (blocks_of n) us) q ≡ true
blocks_part n [] us part q e = absurd (let f : false ≡ true = e in cc)
blocks_part n (t ∷ ts) us part q e = elim (or_true (one_of (blocks_of n t) q) (one_of (flat_map (blocks_of n) ts) q) (sym (one_of_append q (blocks_of n t) (flat_map (blocks_of n) ts)) ∙ e)) [
  | inl here ↦ block_in n us t q (part t (or_left (same_block t t) (one_of ts t) (same_block-refl t))) here
  | inr later ↦ blocks_part n ts us (λ s is. part s (or_right (same_block s t) (one_of ts s) is)) q later
]

-- tables among others have no more beads than those
pub beads_monotone : (n : ℕ) (ts us : List (List Bool)) → ((t : List Bool) → one_of ts t ≡ true → one_of us t ≡ true) → bead_count n ts ≤ bead_count n us
unfolding bead_count
beads_monotone n ts us part = part_count (flat_map (blocks_of n) ts) (flat_map (blocks_of n) us) (blocks_part n ts us part)
