-- A call adds beads of its function alone.
use Rattle.std.proofs.Common.{◌≡◌, ◌≢◌, ℕ, zero, suc, ◌+◌, ◌-◌, ◌^◌, ◌<◌, ◌≤◌, ◌⊎◌, Bool, true, false, ◌||◌, eqb, cond, List, [], ◌∷◌, ◌++◌, map, length, take, drop, Result, Ok, Err, OnErr, refl, sym, ◌∙◌, ap, subst, arith, inl, inr}
use Rattle.std.proofs.Math.Path.{fun_ext}
use Rattle.std.proofs.Math.Seq.{take-append_seam, drop-append_seam}
use Rattle.std.proofs.lemmas.Bool.{cases_lt}
use Rattle.std.proofs.lemmas.Nat.{pow_below}
use Rattle.bdd_store.specs.declared.Ref.{Ref}
use Rattle.bdd_store.specs.declared.chains.Node.{Node}
use Rattle.bdd_store.specs.Graph.{with_at, below, var_at, Reduced}
use Rattle.bdd_store.specs.Beads.{truth_table, same_block, blocks_of, count_distinct, bead_count}
use Rattle.bdd_store.specs.Diagram.{Diagram, IsLive, IsReduced, IsProper, Reaches, Keeps, table, first_var, held}
use Rattle.bdd_store.proofs.Blocks.{block, block_at, length-block, blocks_alike, same_block-refl, same_block-true, truth_table_walk, blocks_below}
use Rattle.bdd_store.proofs.Counts.{Each, IsNode, count_distinct-map}
use Rattle.bdd_store.proofs.Functions.{length-table, with_agree, one_of, one_of_append}
use Rattle.bdd_store.proofs.Walks.{with_other}
use Rattle.bdd_store.proofs.Laws.{reaches_self, depends_first}
use Rattle.bdd_store.proofs.Tables.{walk_skip}
use Rattle.bdd_store.proofs.Sets.{member, Subset, subset_count, member_append, eqb_is, eqb_same, or_true, or_left, or_right}
use Rattle.bdd_store.specs.declared.Operation.{Operation}
use Rattle.bdd_store.specs.Results.{IsResult, made}
use Rattle.bdd_store.proofs.HeldLaws.{count_append}
use Rattle.bdd_ops.specs.Functions.{Function, IsFreshBelow, some_at}
use Rattle.bdd_ops.specs.Memo.{joined}
use Rattle.bdd_ops.specs.Grown.{IsBeadOf, Adds}
use Rattle.bdd_ops.proofs.Depends.{with_twice, with_swap}
use Rattle.bdd_ops.proofs.Held.{held_places, count_held, found, node_live, node_first, live_held, ref}
use Rattle.bdd_ops.proofs.MemoLaws.{same_table, proper_kept}

in_left : (q : List Bool) (xs ys : List (List Bool)) → one_of xs q ≡ true → one_of (xs ++ ys) q ≡ true
in_left q xs ys is = one_of_append q xs ys ∙ or_left (one_of xs q) (one_of ys q) is

in_right : (q : List Bool) (xs ys : List (List Bool)) → one_of ys q ≡ true → one_of (xs ++ ys) q ≡ true
in_right q xs ys is = one_of_append q xs ys ∙ or_right (one_of xs q) (one_of ys q) is

in_both : (q : List Bool) (xs : List (List Bool)) → one_of (xs ++ xs) q ≡ true → one_of xs q ≡ true
in_both q xs is = elim (or_true (one_of xs q) (one_of xs q) (sym (one_of_append q xs xs) ∙ is)) [ inl e ↦ e | inr e ↦ e ]

-- the blocks of a table of two halves
halves : (b : ℕ) (s t : List Bool) → length s ≡ 2 ^ b → blocks_of (suc b) (s ++ t) ≡ cond (same_block s t) [] ((s ++ t) ∷ []) ++ (blocks_of b s ++ blocks_of b t)
unfolding blocks_of
halves b s t len =
    let is_first : take (2 ^ b) (s ++ t) ≡ s = ap (λ m. take m (s ++ t)) (sym len) ∙ take-append_seam s t in
    let is_second : drop (2 ^ b) (s ++ t) ≡ t = ap (λ m. drop m (s ++ t)) (sym len) ∙ drop-append_seam s t in
    ap (λ x. cond (same_block x (drop (2 ^ b) (s ++ t))) [] ((s ++ t) ∷ []) ++ (blocks_of b x ++ blocks_of b (drop (2 ^ b) (s ++ t)))) is_first
    ∙ ap (λ y. cond (same_block s y) [] ((s ++ t) ∷ []) ++ (blocks_of b s ++ blocks_of b y)) is_second

-- two halves that are the same are all
same_halves : (b : ℕ) (s : List Bool) (q : List Bool) → length s ≡ 2 ^ b → one_of (blocks_of (suc b) (s ++ s)) q ≡ true → one_of (blocks_of b s) q ≡ true
same_halves b s q len is = in_both q (blocks_of b s) (
    sym (ap (λ x. one_of (cond x [] ((s ++ s) ∷ []) ++ (blocks_of b s ++ blocks_of b s)) q) (same_block-refl s)) ∙ sym (ap (λ bs. one_of bs q) (halves b s s len)) ∙ is
    )

first_half : (b : ℕ) (s t q : List Bool) → length s ≡ 2 ^ b → one_of (blocks_of b s) q ≡ true → one_of (blocks_of (suc b) (s ++ t)) q ≡ true
first_half b s t q len is =
    ap (λ bs. one_of bs q) (halves b s t len)
    ∙ in_right q (cond (same_block s t) [] ((s ++ t) ∷ [])) (blocks_of b s ++ blocks_of b t) (in_left q (blocks_of b s) (blocks_of b t) is)

second_half : (b : ℕ) (s t q : List Bool) → length s ≡ 2 ^ b → one_of (blocks_of b t) q ≡ true → one_of (blocks_of (suc b) (s ++ t)) q ≡ true
second_half b s t q len is =
    ap (λ bs. one_of bs q) (halves b s t len)
    ∙ in_right q (cond (same_block s t) [] ((s ++ t) ∷ [])) (blocks_of b s ++ blocks_of b t) (in_right q (blocks_of b s) (blocks_of b t) is)

-- no variable before v matters to F
abbrev pub FreeBefore : ℕ → Function → Type 0
FreeBefore v F = (w : ℕ) → w < v → (y : Bool) (a : ℕ → Bool) → F (with_at a w y) ≡ F a

half : (b k : ℕ) (F : Function) (x : Bool) (q : List Bool) → one_of (blocks_of b (truth_table b (suc k) (λ a. F (with_at a k x)))) q ≡ true → one_of (blocks_of (suc b) (truth_table (suc b) k F)) q ≡ true
unfolding truth_table
half b k F false q is = first_half b (truth_table b (suc k) (λ a. F (with_at a k false))) (truth_table b (suc k) (λ a. F (with_at a k true))) q (length-table b (suc k) (λ a. F (with_at a k false))) is
half b k F true q is = second_half b (truth_table b (suc k) (λ a. F (with_at a k false))) (truth_table b (suc k) (λ a. F (with_at a k true))) q (length-table b (suc k) (λ a. F (with_at a k false))) is

-- where variable k does not matter, all blocks are those of a half
no_half : (b k : ℕ) (G : Function) → ((y : Bool) (a : ℕ → Bool) → G (with_at a k y) ≡ G a) → (q : List Bool) → one_of (blocks_of (suc b) (truth_table (suc b) k G)) q ≡ true → one_of (blocks_of b (truth_table b (suc k) G)) q ≡ true
unfolding truth_table
no_half b k G free q is =
    let t = truth_table b (suc k) G in
    let same : (y : Bool) → truth_table b (suc k) (λ a. G (with_at a k y)) ≡ t = λ y. ap (truth_table b (suc k)) (fun_ext (free y)) in
    same_halves b t q (length-table b (suc k) G) (
    sym (ap (λ s. one_of (blocks_of (suc b) (s ++ truth_table b (suc k) (λ a. G (with_at a k true)))) q) (same false) ∙ ap (λ s. one_of (blocks_of (suc b) (t ++ s)) q) (same true)) ∙ is
    )

-- a bead of F with its first variable fixed is one of F
fixed_blocks : (b k v : ℕ) (F : Function) (x : Bool) → k ≤ v → v < k + b → FreeBefore v F → (q : List Bool) → one_of (blocks_of b (truth_table b k (λ a. F (with_at a v x)))) q ≡ true → one_of (blocks_of b (truth_table b k F)) q ≡ true
fixed_blocks zero k v F x le lt free q is = absurd (omega arith)
fixed_blocks (suc b) k v F x le lt free q is = elim (cases_lt k v) [
  | inl below ↦
      let swap : (y : Bool) (a : ℕ → Bool) → F (with_at (with_at a k y) v x) ≡ F (with_at a v x) = λ y a. ap F (with_swap a k v y x (omega arith)) ∙ free k below y (with_at a v x) in
      let deeper = fixed_blocks b (suc k) v F x below (omega arith) free q (no_half b k (λ a. F (with_at a v x)) swap q is) in
      half b k F false q (ap (λ (f : Function). one_of (blocks_of b (truth_table b (suc k) f)) q) (fun_ext (λ a. free k below false a)) ∙ deeper)
  | inr here ↦
      let same : v ≡ k = omega arith in
      let at : one_of (blocks_of (suc b) (truth_table (suc b) k (λ a. F (with_at a k x)))) q ≡ true = subst (λ u. one_of (blocks_of (suc b) (truth_table (suc b) k (λ a. F (with_at a u x)))) q ≡ true) same is in
      half b k F x q (no_half b k (λ a. F (with_at a k x)) (λ y a. ap F (with_twice a k x y)) q at)
]

pub bead_fixed : (e : Diagram) (F G : Function) (v : ℕ) (x : Bool) → v < e.vars → FreeBefore v F → ((a : ℕ → Bool) → G a ≡ F (with_at a v x)) → (q : Ref) → IsBeadOf e G q → IsBeadOf e F q
unfolding IsBeadOf
bead_fixed e F G v x lt free is q bead proper =
    let same : G ≡ (λ (a : ℕ → Bool). F (with_at a v x)) = fun_ext is in
    fixed_blocks e.vars 0 v F x (omega arith) (omega (arith, lt)) free (truth_table (e.vars - first_var e q) (first_var e q) (table e q))
    (subst (λ (f : Function). one_of (blocks_of e.vars (truth_table e.vars 0 f)) (truth_table (e.vars - first_var e q) (first_var e q) (table e q)) ≡ true) same (bead proper))

-- a bead stays one as the store grows
pub bead_kept : (d e : Diagram) → Keeps d e → (F : Function) (q : Ref) → IsLive d q → IsBeadOf d F q → IsBeadOf e F q
unfolding IsBeadOf
bead_kept d e keeps F q live bead proper =
    let was : IsProper d q = omega (arith, keeps.firsts q live, keeps.vars, proper) in
    let vars = keeps.vars in
    ap (λ n. one_of (blocks_of n (truth_table n 0 F)) (truth_table (n - first_var e q) (first_var e q) (table e q))) vars
    ∙ ap (λ w. one_of (blocks_of d.vars (truth_table d.vars 0 F)) (truth_table (d.vars - w) w (table e q))) (keeps.firsts q live)
    ∙ ap (λ (f : Function). one_of (blocks_of d.vars (truth_table d.vars 0 F)) (truth_table (d.vars - first_var d q) (first_var d q) f)) (same_table d e keeps q live)
    ∙ bead was

-- a place below r is a bead of r
own_block : (n : ℕ) (ns : List Node) (q : ℕ) (l : List ℕ) → member q l ≡ true → one_of (map (block_at n ns) l) (block_at n ns q) ≡ true
own_block n ns q [] is = absurd (let f : false ≡ true = is in cc)
own_block n ns q (p ∷ ps) is = elim (or_true (eqb q p) (member q ps) is) [
  | inl e ↦ or_left (same_block (block_at n ns q) (block_at n ns p)) (one_of (map (block_at n ns) ps) (block_at n ns q)) (ap (λ z. same_block (block_at n ns q) (block_at n ns z)) (sym (eqb_is q p e)) ∙ same_block-refl (block_at n ns q))
  | inr later ↦ or_right (same_block (block_at n ns q) (block_at n ns p)) (one_of (map (block_at n ns) ps) (block_at n ns q)) (own_block n ns q ps later)
]

-- a Ref's values from its first variable on are its place's block
own_values : (e : Diagram) (q : Ref) → IsProper e q → truth_table (e.vars - first_var e q) (first_var e q) (table e q) ≡ block_at e.vars e.nodes q.place
unfolding table first_var block_at
own_values e q proper =
    let v = var_at e.nodes q.place in
    ap (truth_table (e.vars - v) v) (fun_ext (λ a. ap (λ p. eqb p 1) (walk_skip e.nodes e.vars (e.vars - v) 0 v q.place a (omega (arith, proper)) (omega arith) (omega arith))))
    ∙ truth_table_walk e.nodes (e.vars - v) v q.place

table_blocks : (e : Diagram) → IsReduced e → (r : Ref) → IsLive e r → blocks_of e.vars (truth_table e.vars 0 (table e r)) ≡ map (block_at e.vars e.nodes) (below e.nodes e.vars 0 r.place)
unfolding IsReduced IsLive table
table_blocks e ok r live = ap (blocks_of e.vars) (truth_table_walk e.nodes e.vars 0 r.place) ∙ blocks_below e.vars e.nodes ok e.vars 0 r.place (omega arith) live (omega arith)

pub bead_reached : (e : Diagram) → IsReduced e → (r : Ref) → IsLive e r → (F : Function) → ((a : ℕ → Bool) → table e r a ≡ F a) → (q : Ref) → Reaches e r q → IsBeadOf e F q
unfolding IsBeadOf Reaches
bead_reached e ok r live F is q reaches proper =
    let here : member q.place (below e.nodes e.vars 0 r.place) ≡ true = reaches proper in
    ap (λ (f : Function). one_of (blocks_of e.vars (truth_table e.vars 0 f)) (truth_table (e.vars - first_var e q) (first_var e q) (table e q))) (sym (fun_ext is))
    ∙ ap (λ bs. one_of bs (truth_table (e.vars - first_var e q) (first_var e q) (table e q))) (table_blocks e ok r live)
    ∙ ap (one_of (map (block_at e.vars e.nodes) (below e.nodes e.vars 0 r.place))) (own_values e q proper)
    ∙ own_block e.vars e.nodes q.place (below e.nodes e.vars 0 r.place) here

-- what a result adds
pub adds_fresh : (d e : Diagram) → IsReduced e → (r : Ref) → IsLive e r → (F : Function) → ((a : ℕ → Bool) → table e r a ≡ F a) → IsFreshBelow d e r → Adds d e F
adds_fresh d e ok r live F is fresh q live_q = elim (fresh q live_q) [ inl old ↦ inl old | inr reached ↦ inr (bead_reached e ok r live F is q reached) ]

-- what one call adds after another
pub adds_then : (d m e : Diagram) (F : Function) → Keeps m e → Adds d m F → Adds m e F → Adds d e F
adds_then d m e F keeps first second q live = elim (second q live) [
  | inr bead ↦ inr bead
  | inl in_m ↦ elim (first q in_m) [ inl old ↦ inl old | inr bead ↦ inr (bead_kept m e keeps F q in_m bead) ]
]

-- what a call for a branch adds
pub adds_branch : (d e : Diagram) (F G : Function) (v : ℕ) (x : Bool) → v < e.vars → FreeBefore v F → ((a : ℕ → Bool) → G a ≡ F (with_at a v x)) → Adds d e G → Adds d e F
adds_branch d e F G v x lt free is adds q live = elim (adds q live) [ inl old ↦ inl old | inr bead ↦ inr (bead_fixed e F G v x lt free is q bead) ]

pub adds_same : (d e : Diagram) (F G : Function) → ((a : ℕ → Bool) → G a ≡ F a) → Adds d e G → Adds d e F
adds_same d e F G is = subst (Adds d e) (fun_ext is)

-- a list of values as a number
code : List Bool → ℕ
code [] = 0
code (true ∷ xs) = suc (suc (code xs + code xs))
code (false ∷ xs) = suc (code xs + code xs)

code_is : (xs ys : List Bool) → code xs ≡ code ys → xs ≡ ys
unfolding code
code_is [] [] e = refl
code_is [] (true ∷ ys) e = absurd (omega arith)
code_is [] (false ∷ ys) e = absurd (omega arith)
code_is (true ∷ xs) [] e = absurd (omega arith)
code_is (false ∷ xs) [] e = absurd (omega arith)
code_is (true ∷ xs) (true ∷ ys) e = ap (λ l. true ∷ l) (code_is xs ys (omega arith))
code_is (true ∷ xs) (false ∷ ys) e = absurd (omega arith)
code_is (false ∷ xs) (true ∷ ys) e = absurd (omega arith)
code_is (false ∷ xs) (false ∷ ys) e = ap (λ l. false ∷ l) (code_is xs ys (omega arith))

clash : {A : Type 0} → true ≡ false → A
clash e = absurd (let f : true ≡ false = e in cc)

code_test : (xs ys : List Bool) → eqb (code xs) (code ys) ≡ same_block xs ys
code_test xs ys = by_test (eqb (code xs) (code ys)) (same_block xs ys) refl refl
  where
    by_test : (s t : Bool) → eqb (code xs) (code ys) ≡ s → same_block xs ys ≡ t → s ≡ t
    by_test true true e f = refl
    by_test false false e f = refl
    by_test true false e f = let same = code_is xs ys (eqb_is (code xs) (code ys) e) in clash (sym (same_block-refl xs) ∙ ap (same_block xs) same ∙ f)
    by_test false true e f = let same = same_block-true xs ys f in clash (sym (eqb_same (code xs)) ∙ ap (λ l. eqb (code xs) (code l)) same ∙ e)

each_all : {A : Type 0} (P : A → Type 0) → ((x : A) → P x) → (xs : List A) → Each P xs
each_all P all [] = tt
each_all P all (x ∷ xs) = (all x, each_all P all xs)

each_member : (P : ℕ → Type 0) (xs : List ℕ) → ((q : ℕ) → member q xs ≡ true → P q) → Each P xs
each_member P [] all = tt
each_member P (x ∷ xs) all = (all x (or_left (eqb x x) (member x xs) (eqb_same x)), each_member P xs (λ q is. all q (or_right (eqb q x) (member q xs) is)))

map_subset : (f : ℕ → ℕ) (l ys : List ℕ) → ((q : ℕ) → member q l ≡ true → member (f q) ys ≡ true) → Subset (map f l) ys
map_subset f [] ys all y is = absurd (let g : false ≡ true = is in cc)
map_subset f (x ∷ xs) ys all y is = elim (or_true (eqb y (f x)) (member y (map f xs)) is) [
  | inl e ↦ ap (λ z. member z ys) (eqb_is y (f x) e) ∙ all x (or_left (eqb x x) (member x xs) (eqb_same x))
  | inr later ↦ map_subset f xs ys (λ q i. all q (or_right (eqb q x) (member q xs) i)) y later
]

in_map : (f : ℕ → ℕ) (q : ℕ) (l : List ℕ) → member q l ≡ true → member (f q) (map f l) ≡ true
in_map f q [] is = absurd (let g : false ≡ true = is in cc)
in_map f q (x ∷ xs) is = elim (or_true (eqb q x) (member q xs) is) [
  | inl e ↦ or_left (eqb (f q) (f x)) (member (f q) (map f xs)) (ap (λ z. eqb (f q) (f z)) (sym (eqb_is q x e)) ∙ eqb_same (f q))
  | inr later ↦ or_right (eqb (f q) (f x)) (member (f q) (map f xs)) (in_map f q xs later)
]

in_codes : (t : List Bool) (bs : List (List Bool)) → one_of bs t ≡ true → member (code t) (map code bs) ≡ true
in_codes t [] is = absurd (let g : false ≡ true = is in cc)
in_codes t (b ∷ bs) is = elim (or_true (same_block t b) (one_of bs t) is) [
  | inl e ↦ or_left (eqb (code t) (code b)) (member (code t) (map code bs)) (code_test t b ∙ e)
  | inr later ↦ or_right (eqb (code t) (code b)) (member (code t) (map code bs)) (in_codes t bs later)
]

count_codes : (bs : List (List Bool)) → count_distinct eqb (map code bs) ≡ count_distinct same_block bs
count_codes bs = count_distinct-map code eqb same_block (λ _. Unit {0}) (λ x y _ _. code_test x y) bs (each_all (λ _. Unit {0}) (λ _. tt) bs)

same_power : (x y : ℕ) → 2 ^ x ≡ 2 ^ y → x ≡ y
same_power x y e = elim (cases_lt x y) [
  | inl lt ↦ absurd (omega (arith, pow_below x y lt, e))
  | inr le ↦ elim (cases_lt y x) [ inl lt ↦ absurd (omega (arith, pow_below y x lt, e)) | inr ge ↦ omega arith ]
]

-- nodes of equal blocks are equal
own_block_is : (n : ℕ) (ns : List Node) → Reduced n ns → (r q : ℕ) → IsNode n ns r → IsNode n ns q → block_at n ns r ≡ block_at n ns q → r ≡ q
unfolding block_at
own_block_is n ns ok r q node_r node_q e =
    let sizes : 2 ^ (n - var_at ns r) ≡ 2 ^ (n - var_at ns q) = sym (length-block ns (n - var_at ns r) (var_at ns r) r) ∙ ap length e ∙ length-block ns (n - var_at ns q) (var_at ns q) q in
    let size = same_power (n - var_at ns r) (n - var_at ns q) sizes in
    let vars : var_at ns q ≡ var_at ns r = omega (arith, size, node_r.1, node_q.1) in
    blocks_alike n ns ok (n - var_at ns r) (var_at ns r) r q (omega (arith, node_r.1)) node_r.0 node_q.0 (omega arith) (omega arith)
    (e ∙ ap (λ m. block ns m (var_at ns q) q) (sym size) ∙ ap (λ v. block ns (n - var_at ns r) v q) vars)

node_test : (n : ℕ) (ns : List Node) → Reduced n ns → (r q : ℕ) → IsNode n ns r → IsNode n ns q → eqb (code (block_at n ns r)) (code (block_at n ns q)) ≡ eqb r q
node_test n ns ok r q node_r node_q = by_test (eqb (code (block_at n ns r)) (code (block_at n ns q))) (eqb r q) refl refl
  where
    by_test : (s t : Bool) → eqb (code (block_at n ns r)) (code (block_at n ns q)) ≡ s → eqb r q ≡ t → s ≡ t
    by_test true true e f = refl
    by_test false false e f = refl
    by_test true false e f = let same = own_block_is n ns ok r q node_r node_q (code_is (block_at n ns r) (block_at n ns q) (eqb_is _ _ e)) in clash (sym (eqb_same r) ∙ ap (eqb r) same ∙ f)
    by_test false true e f = let same = eqb_is r q f in clash (sym (eqb_same (code (block_at n ns r))) ∙ ap (λ z. eqb (code (block_at n ns r)) (code (block_at n ns z))) same ∙ e)

-- the number of a node's block
node_code : Diagram → ℕ → ℕ
node_code e q = code (block_at e.vars e.nodes q)

count_nodes : (e : Diagram) → IsReduced e → (l : List ℕ) → Each (IsNode e.vars e.nodes) l → count_distinct eqb (map (node_code e) l) ≡ count_distinct eqb l
unfolding IsReduced node_code
count_nodes e ok l each = count_distinct-map (λ q. code (block_at e.vars e.nodes q)) eqb eqb (IsNode e.vars e.nodes) (node_test e.vars e.nodes ok) l each

is_node : (e : Diagram) (q : ℕ) → IsLive e (ref q) → IsProper e (ref q) → IsNode e.vars e.nodes q
unfolding IsLive first_var ref
is_node e q live proper = (live, proper)

held_node : (d : Diagram) (q : ℕ) → member q (held_places d.vars d.nodes 0) ≡ true → IsLive d (ref q) × IsProper d (ref q)
held_node d q is =
    let f = found d.vars d.nodes 0 q is in
    let same : f.0 ≡ q = omega (arith, f.1) in
    subst (λ z. IsLive d (ref z) × IsProper d (ref z)) same (node_live d f.0 f.2 f.3, node_first d f.0 f.3)

kept_node : (d e : Diagram) → Keeps d e → (q : ℕ) → member q (held_places d.vars d.nodes 0) ≡ true → IsNode e.vars e.nodes q
kept_node d e keeps q is = let was = held_node d q is in is_node e q (keeps.live (ref q) was.0) (proper_kept d e keeps (ref q) was.0 was.1)

new_code : (d e : Diagram) → Keeps d e → (F : Function) → Adds d e F → (q : ℕ) → member q (held_places e.vars e.nodes 0) ≡ true
    → member (node_code e q) (map (node_code e) (held_places d.vars d.nodes 0) ++ map code (blocks_of e.vars (truth_table e.vars 0 F) ++ [])) ≡ true
unfolding node_code IsBeadOf ref
new_code d e keeps F adds q is =
    let here = held_node e q is in
    let old_codes = map (node_code e) (held_places d.vars d.nodes 0) in
    let bs = blocks_of e.vars (truth_table e.vars 0 F) in
    member_append (node_code e q) old_codes (map code (bs ++ [])) ∙ elim (adds (ref q) here.0) [
      | inl old ↦ or_left (member (node_code e q) old_codes) (member (node_code e q) (map code (bs ++ []))) (in_map (node_code e) q (held_places d.vars d.nodes 0) (live_held d q old (omega (arith, keeps.firsts (ref q) old, keeps.vars, here.1))))
      | inr bead ↦ or_right (member (node_code e q) old_codes) (member (node_code e q) (map code (bs ++ []))) (in_codes (block_at e.vars e.nodes q) (bs ++ []) (in_left (block_at e.vars e.nodes q) bs [] (ap (one_of bs) (sym (own_values e (ref q) here.1)) ∙ bead here.1)))
    ]

-- a store that grew by beads of one function grew by no more than their number
pub held_grown : (d e : Diagram) → IsReduced e → Keeps d e → (F : Function) → Adds d e F → held e ≤ held d + bead_count d.vars (truth_table d.vars 0 F ∷ [])
unfolding bead_count
held_grown d e ok keeps F adds =
    let old = held_places d.vars d.nodes 0 in
    let new = held_places e.vars e.nodes 0 in
    let bs = blocks_of e.vars (truth_table e.vars 0 F) ++ [] in
    let news = count_nodes e ok new (each_member (IsNode e.vars e.nodes) new (λ q is. let here = held_node e q is in is_node e q here.0 here.1)) in
    let olds = count_nodes e ok old (each_member (IsNode e.vars e.nodes) old (kept_node d e keeps)) in
    let part = subset_count (map (node_code e) new) (map (node_code e) old ++ map code bs) (map_subset (node_code e) new (map (node_code e) old ++ map code bs) (new_code d e keeps F adds)) in
    let sum = count_append (map (node_code e) old) (map code bs) in
    let same : count_distinct same_block bs ≡ count_distinct same_block (blocks_of d.vars (truth_table d.vars 0 F) ++ []) = ap (λ n. count_distinct same_block (blocks_of n (truth_table n 0 F) ++ [])) keeps.vars in
    omega (arith, count_held d, count_held e, news, olds, part, sum, count_codes bs, same)

-- ---- the functions of calls

free_from : (F : Function) (v : ℕ) → ((a c : ℕ → Bool) → ((w : ℕ) → v ≤ w → a w ≡ c w) → F a ≡ F c) → FreeBefore v F
free_from F v from w lt y a = from (with_at a w y) a (λ u le. with_other a w y u (omega (arith, le, lt)))

pub join_free : (d : Diagram) → IsReduced d → (unit : Bool) (f g : Ref) (v : ℕ) → v ≤ first_var d f → v ≤ first_var d g → FreeBefore v (λ a. joined unit (table d f a) (table d g a))
join_free d ok unit f g v le_f le_g = free_from (λ a. joined unit (table d f a) (table d g a)) v (λ a c same.
    ap (λ y. joined unit y (table d g a)) (depends_first d ok f a c (λ w le. same w (omega (arith, le, le_f))))
    ∙ ap (λ y. joined unit (table d f c) y) (depends_first d ok g a c (λ w le. same w (omega (arith, le, le_g)))))

pub some_free : (d : Diagram) → IsReduced d → (w : ℕ) (f : Ref) (v : ℕ) → v ≤ first_var d f → FreeBefore v (some_at w (table d f))
some_free d ok w f v le_f = free_from (some_at w (table d f)) v (λ a c same.
    let at : (x : Bool) → table d f (with_at a w x) ≡ table d f (with_at c w x) = λ x. depends_first d ok f (with_at a w x) (with_at c w x) (λ u le. with_agree a c w x u (λ ne. same u (omega (arith, le, le_f)))) in
    ap (λ y. y || table d f (with_at a w true)) (at false) ∙ ap (λ y. table d f (with_at c w false) || y) (at true))

-- a branch's quantification is that of the function with the branch's variable fixed
pub some_fixed : (w v : ℕ) (x : Bool) (F G : Function) → v ≢ w → ((a : ℕ → Bool) → G a ≡ F (with_at a v x)) → (a : ℕ → Bool) → some_at w G a ≡ some_at w F (with_at a v x)
some_fixed w v x F G ne is a =
    let at : (y : Bool) → G (with_at a w y) ≡ F (with_at (with_at a v x) w y) = λ y. is (with_at a w y) ∙ ap F (sym (with_swap a v w x y ne)) in
    ap (λ y. y || G (with_at a w true)) (at false) ∙ ap (λ y. F (with_at (with_at a v x) w false) || y) (at true)

pub join_fixed : (unit : Bool) (v : ℕ) (x : Bool) (F G A B : Function) → ((a : ℕ → Bool) → A a ≡ F (with_at a v x)) → ((a : ℕ → Bool) → B a ≡ G (with_at a v x)) → (a : ℕ → Bool) → joined unit (A a) (B a) ≡ joined unit (F (with_at a v x)) (G (with_at a v x))
join_fixed unit v x F G A B is_a is_b a = ap (λ y. joined unit y (B a)) (is_a a) ∙ ap (λ y. joined unit (F (with_at a v x)) y) (is_b a)

-- a refused node adds nothing; one that was too many is a bead
pub adds_node : (d e : Diagram) → IsReduced e → (r : Ref) → IsLive e r → (F : Function) → ((a : ℕ → Bool) → table e r a ≡ F a) → ((q : Ref) → IsLive e q → IsLive d q ⊎ (q ≡ r)) → Adds d e F
adds_node d e ok r live F is fresh = adds_fresh d e ok r live F is (λ q live_q. elim (fresh q live_q) [ inl old ↦ inl old | inr same ↦ inr (subst (Reaches e r) (sym same) (reaches_self e r)) ])

-- what a join of branches adds is of the join
pub join_branch : (d m e : Diagram) → IsReduced d → (unit : Bool) (f g fx gx : Ref) (v : ℕ) (x : Bool) → v < d.vars → v ≤ first_var d f → v ≤ first_var d g → Keeps d m → IsLive d fx → IsLive d gx
    → ((a : ℕ → Bool) → table d fx a ≡ table d f (with_at a v x)) → ((a : ℕ → Bool) → table d gx a ≡ table d g (with_at a v x)) → Keeps m e
    → Adds m e (λ a. joined unit (table m fx a) (table m gx a)) → Adds m e (λ a. joined unit (table d f a) (table d g a))
join_branch d m e ok unit f g fx gx v x lt le_f le_g first live_f live_g is_f is_g second adds =
    let F : Function = λ a. joined unit (table d f a) (table d g a) in
    let G : Function = λ a. joined unit (table m fx a) (table m gx a) in
    adds_branch m e F G v x (omega (arith, lt, first.vars, second.vars)) (join_free d ok unit f g v le_f le_g)
    (join_fixed unit v x (table d f) (table d g) (table m fx) (table m gx) (λ a. first.tables fx live_f a ∙ is_f a) (λ a. first.tables gx live_g a ∙ is_g a)) adds

-- and what a branch's quantification adds
pub some_branch : (d m e : Diagram) → IsReduced d → (w : ℕ) (f fx : Ref) (v : ℕ) (x : Bool) → v < d.vars → v ≤ first_var d f → v ≢ w → Keeps d m → IsLive d fx
    → ((a : ℕ → Bool) → table d fx a ≡ table d f (with_at a v x)) → Keeps m e → Adds m e (some_at w (table m fx)) → Adds m e (some_at w (table d f))
some_branch d m e ok w f fx v x lt le ne first live is second adds =
    adds_branch m e (some_at w (table d f)) (some_at w (table m fx)) v x (omega (arith, lt, first.vars, second.vars)) (some_free d ok w f v le)
    (some_fixed w v x (table d f) (table m fx) ne (λ a. first.tables fx live a ∙ is a)) adds

-- what a result that was made for an operation adds
pub adds_made : (e n : Diagram) → IsReduced n → (op : Operation) (r : Ref) → IsResult n op r → (F : Function) → ((a : ℕ → Bool) → made n op a ≡ F a) → ((q : Ref) → IsLive n q → IsLive e q ⊎ (q ≡ r)) → Adds e n F
adds_made e n ok op r is F same fresh = adds_node e n ok r is.live F (λ a. is.table a ∙ same a) fresh

pub on_err : {A E : Type 0} → (r : Result A E) (P : Type 0) → P → OnErr r P
on_err (Ok x) P p = tt
on_err (Err e) P p = p

pub err_then : {A E : Type 0} → (r : Result A E) (P Q : Type 0) → (P → Q) → OnErr r P → OnErr r Q
err_then (Ok x) P Q step p = tt
err_then (Err e) P Q step p = step p
