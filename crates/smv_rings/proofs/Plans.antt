-- A turn as a list of operations, made from its end.
use Rattle.std.proofs.Common.{◌≡◌, ℕ, zero, suc, ◌*◌, ◌<◌, ◌≤◌, Bool, true, false, cond, not, ◌&&◌, ◌||◌, ◌⊎◌, inl, inr, List, [], ◌∷◌, ◌++◌, map, length, get_or, drop, reverse, replicate, refl, sym, ◌∙◌, ap, subst, arith, append_assoc}
use Rattle.std.specs.List.{filter}
use Rattle.std.proofs.lemmas.List.{reverse-append, get_or-replicate, length-replicate}
use Rattle.std.proofs.lemmas.List.Elements.{filter-append}
use Rattle.std.proofs.Math.Seq.{drop-cons}
use Rattle.bdd_store.specs.declared.Ref.{Ref}
use Rattle.bdd_store.specs.Diagram.{Diagram, table}
use Rattle.bdd_ops.specs.Functions.{Function, depends, bit_at}
use Rattle.smv_rings.specs.declared.Rel.{Rel}
use Rattle.smv_rings.specs.Lists.{Lists, lists_of, refs_of}
use Rattle.smv_rings.specs.declared.ops.Op.{Op}
use Rattle.smv_rings.specs.declared.ops.Op.TheVariants.{And, Exists, Look, Rename}
use Rattle.smv_rings.specs.Schedule.{Act, evens, reads_none, outs, joins, unread, back, turn}
use Rattle.smv_rings.specs.Schedule.Act.{Join, Out, Look_at, Lower}
use Rattle.smv_rings.specs.Ops.{IsOneOf, act_of, acts_of, refs_in, refs_in_all, back_acts, AddsNone, AreMarked, outs_of, joins_onto}
use Rattle.smv_rings.proofs.Early.{Has}
use Rattle.smv_rings.proofs.Refs.{one_left, one_right, one_append, in_before_step, in_broken_step, in_now_step}
use Rattle.smv_rings.proofs.Turns.{has_append}
use Rattle.smv_rings.proofs.Image.{append_nil}
use Rattle.smv_rings.proofs.Whole.{map_append}

pub back_push : (d : Diagram) (k : ℕ) (ops : List Op) (op : Op) → back_acts d k (ops ++ (op ∷ [])) ≡ act_of d k op ∷ back_acts d k ops
back_push d k ops op = ap (acts_of d k) (reverse-append ops (op ∷ []))

pub refs_append : (xs ys : List Op) → refs_in_all (xs ++ ys) ≡ refs_in_all xs ++ refs_in_all ys
refs_append [] ys = refl
refs_append (x ∷ xs) ys = ap (λ rs. refs_in x ++ rs) (refs_append xs ys) ∙ sym (append_assoc (refs_in x) (refs_in_all xs) (refs_in_all ys))

-- the functions of one more operation
pub refs_push : (ops : List Op) (op : Op) (r : Ref) → IsOneOf r (refs_in_all (ops ++ (op ∷ []))) → IsOneOf r (refs_in_all ops) ⊎ IsOneOf r (refs_in op)
refs_push ops op r one = elim (one_append r (refs_in_all ops) (refs_in op ++ []) (subst (IsOneOf r) (refs_append ops (op ∷ [])) one)) [
  | inl old ↦ inl old
  | inr new ↦ inr (subst (IsOneOf r) (append_nil (refs_in op)) new)
]

pub refs_reversed : (r : Ref) (ops : List Op) → IsOneOf r (refs_in_all (reverse ops)) → IsOneOf r (refs_in_all ops)
refs_reversed r [] one = one
refs_reversed r (op ∷ ops) one = elim (refs_push (reverse ops) op r (subst (λ xs. IsOneOf r (refs_in_all xs)) (reverse-append (op ∷ []) ops) one)) [
  | inl old ↦ one_right r (refs_in op) (refs_in_all ops) (refs_reversed r ops old)
  | inr here ↦ one_left r (refs_in op) (refs_in_all ops) here
]

-- one variable fewer is left
pub outs_step : (t : ℕ → Bool) (b : ℕ) (x : Bool) (rest : List Act) → t (2 * b) ≡ x → map Out (filter t (evens (suc b))) ++ rest ≡ map Out (filter t (evens b)) ++ cond x (Out (2 * b) ∷ rest) rest
outs_step t b x rest is =
    ap (λ vs. map Out vs ++ rest) (filter-append t (evens b) (2 * b ∷ []))
    ∙ ap (λ acts. acts ++ rest) (map_append Out (filter t (evens b)) (filter t (2 * b ∷ [])))
    ∙ append_assoc (map Out (filter t (evens b))) (map Out (filter t (2 * b ∷ []))) rest
    ∙ ap (λ acts. map Out (filter t (evens b)) ++ acts) (last x is)
  where
    last : (x : Bool) → t (2 * b) ≡ x → map Out (filter t (2 * b ∷ [])) ++ rest ≡ cond x (Out (2 * b) ∷ rest) rest
    last true e = rw e refl
    last false e = rw e refl

pub evens_below : (m v : ℕ) → Has v (evens m) → v < 2 * m
evens_below zero v has = absurd has
evens_below (suc m) v has = elim (has_append v (evens m) (2 * m ∷ []) has) [
  | inl early ↦ omega (arith, evens_below m v early)
  | inr last ↦ elim last [ inl e ↦ omega arith | inr none ↦ absurd none ]
]

filter_same : (t u : ℕ → Bool) (vs : List ℕ) → ((v : ℕ) → Has v vs → t v ≡ u v) → filter t vs ≡ filter u vs
filter_same t u [] same = refl
filter_same t u (v ∷ vs) same = by_test (t v) refl (filter_same t u vs (λ w has. same w (inr has)))
  where
    by_test : (x : Bool) → t v ≡ x → filter t vs ≡ filter u vs → filter t (v ∷ vs) ≡ filter u (v ∷ vs)
    by_test true e rest = let other : u v ≡ true = sym (same v (inl refl)) ∙ e in rw e (rw other (ap (λ ws. v ∷ ws) rest))
    by_test false e rest = let other : u v ≡ false = sym (same v (inl refl)) ∙ e in rw e (rw other rest)

not_twice : (x : Bool) → not (not x) ≡ x
not_twice true = refl
not_twice false = refl

-- the variables that are to be quantified behind f
pub outs_are : (m : ℕ) (f : Function) (later : List Function) (reads flags : List Bool) → ((v : ℕ) → v < 2 * m → bit_at reads v ≡ depends (2 * m) f v) → AreMarked (2 * m) later flags
    → map Out (filter (λ v. bit_at reads v && not (bit_at flags v)) (evens m)) ≡ outs_of m f later
outs_are m f later reads flags is marked = ap (map Out) (filter_same (λ v. bit_at reads v && not (bit_at flags v)) (λ v. depends (2 * m) f v && reads_none (2 * m) later v) (evens m) (λ v has.
    let lt = evens_below m v has in
    ap (λ x. x && not (bit_at flags v)) (is v lt) ∙ ap (λ x. depends (2 * m) f v && x) (ap not (marked.flag v lt) ∙ not_twice (reads_none (2 * m) later v))))

pub unread_are : (m : ℕ) (fs : List Function) (all flags : List Bool) → ((v : ℕ) → v < 2 * m → bit_at all v ≡ true) → AreMarked (2 * m) fs flags
    → map Out (filter (λ v. bit_at all v && not (bit_at flags v)) (evens m)) ≡ map Out (filter (reads_none (2 * m) fs) (evens m))
unread_are m fs all flags is marked = ap (map Out) (filter_same (λ v. bit_at all v && not (bit_at flags v)) (reads_none (2 * m) fs) (evens m) (λ v has.
    let lt = evens_below m v has in
    ap (λ x. x && not (bit_at flags v)) (is v lt) ∙ ap not (marked.flag v lt) ∙ not_twice (reads_none (2 * m) fs v)))

-- one more function is marked
pub marked_more : (n : ℕ) (f : Function) (later : List Function) (old reads new : List Bool) → AreMarked n later old → length new ≡ n → ((v : ℕ) → v < n → bit_at reads v ≡ depends n f v) → ((v : ℕ) → bit_at new v ≡ bit_at old v || bit_at reads v) → AreMarked n (f ∷ later) new
marked_more n f later old reads new marked len is either = record {
  count = len;
  flag = λ v lt. either v ∙ ap (λ x. x || bit_at reads v) (marked.flag v lt) ∙ ap (λ x. not (reads_none n later v) || x) (is v lt) ∙ by_values (reads_none n later v) (depends n f v);
}
  where
    by_values : (x y : Bool) → not x || y ≡ not (not y && x)
    by_values true true = refl
    by_values true false = refl
    by_values false true = refl
    by_values false false = refl

pub none_marked : (n : ℕ) (flags : List Bool) → length flags ≡ n → ((v : ℕ) → bit_at flags v ≡ false) → AreMarked n [] flags
none_marked n flags len none = record { count = len; flag = λ v lt. none v }

-- one more function is planned
pub joins_step : (d : Diagram) (k m : ℕ) (fs : List Ref) (b : ℕ) (f o : Ref) (later : List Function) (rest : List Act) (ops outs joined : List Op) → b < length fs → f ≡ get_or fs b o → joined ≡ outs ++ (And f ∷ [])
    → back_acts d k outs ≡ outs_of m (table d f) (map (table d) (drop (suc b) fs) ++ later) ++ back_acts d k ops → back_acts d k ops ≡ joins_onto m (map (table d) (drop (suc b) fs)) later rest
    → back_acts d k joined ≡ joins_onto m (map (table d) (drop b fs)) later rest
joins_step d k m fs b f o later rest ops outs joined lt at is outs_is ops_is =
    ap (back_acts d k) is ∙ back_push d k outs (And f)
    ∙ ap (λ acts. Join (table d f) ∷ acts) (outs_is ∙ ap (λ acts. outs_of m (table d f) (map (table d) (drop (suc b) fs) ++ later) ++ acts) ops_is)
    ∙ ap (λ rs. joins_onto m (map (table d) rs) later rest) (ap (λ r. r ∷ drop (suc b) fs) at ∙ sym (drop-cons fs b o lt))

pub marked_step : (d : Diagram) (n : ℕ) (fs : List Ref) (b : ℕ) (f o : Ref) (later : List Function) (flags : List Bool) → b < length fs → f ≡ get_or fs b o → AreMarked n (table d f ∷ (map (table d) (drop (suc b) fs) ++ later)) flags → AreMarked n (map (table d) (drop b fs) ++ later) flags
marked_step d n fs b f o later flags lt at marked = subst (λ rs. AreMarked n (map (table d) rs ++ later) flags) (ap (λ r. r ∷ drop (suc b) fs) at ∙ sym (drop-cons fs b o lt)) marked

onto_are : (l : Lists) (fs later : List Function) (rest : List Act) → joins l fs later ++ rest ≡ joins_onto l.bits fs later rest
onto_are l [] later rest = refl
onto_are l (f ∷ fs) later rest = ap (λ acts. Join f ∷ acts) (append_assoc (outs l f (fs ++ later)) (joins l fs later) rest ∙ ap (λ acts. outs l f (fs ++ later) ++ acts) (onto_are l fs later rest))

-- the parts of a turn, from its end
pub turn_is : (l : Lists) (k : ℕ) → turn l k ≡ map Out (filter (reads_none (2 * l.bits) (l.now_step ++ (l.broken_step ∷ (l.before_step ++ [])))) (evens l.bits))
    ++ joins_onto l.bits l.now_step (l.broken_step ∷ (l.before_step ++ [])) (Look_at (suc k) l.broken_step ∷ (outs_of l.bits l.broken_step (l.before_step ++ []) ++ joins_onto l.bits l.before_step [] (Lower ∷ [])))
turn_is l k =
    append_assoc (unread l) (joins l l.now_step (l.broken_step ∷ l.before_step)) (Look_at (suc k) l.broken_step ∷ back l)
    ∙ ap (λ acts. unread l ++ acts) (onto_are l l.now_step (l.broken_step ∷ l.before_step) (Look_at (suc k) l.broken_step ∷ back l)
    ∙ ap (λ acts. joins_onto l.bits l.now_step (l.broken_step ∷ l.before_step) (Look_at (suc k) l.broken_step ∷ (outs l l.broken_step l.before_step ++ acts))) (onto_are l l.before_step [] (Lower ∷ [])))
    ∙ ap (λ fs. map Out (filter (reads_none (2 * l.bits) (l.now_step ++ (l.broken_step ∷ fs))) (evens l.bits)) ++ joins_onto l.bits l.now_step (l.broken_step ∷ fs) (Look_at (suc k) l.broken_step ∷ (outs_of l.bits l.broken_step fs ++ joins_onto l.bits l.before_step [] (Lower ∷ [])))) (sym (append_nil l.before_step))

-- what stands past the end of flags
pub past_flags : (flags : List Bool) (v : ℕ) → length flags ≤ v → bit_at flags v ≡ false
past_flags [] v le = refl
past_flags (x ∷ flags) zero le = absurd (omega arith)
past_flags (x ∷ flags) (suc v) le = past_flags flags v (omega arith)

-- what is pushed behind f is what belongs to it
pub outs_given : (d : Diagram) (k m : ℕ) (f : Ref) (later : List Function) (reads flags shown_reads shown_flags : List Bool) (new old : List Op) → shown_reads ≡ reads → shown_flags ≡ flags → d.vars ≡ 2 * m
    → ((v : ℕ) → v < d.vars → bit_at reads v ≡ depends d.vars (table d f) v) → AreMarked (2 * m) later flags
    → back_acts d k new ≡ map Out (filter (λ v. bit_at shown_reads v && not (bit_at shown_flags v)) (evens m)) ++ back_acts d k old
    → back_acts d k new ≡ outs_of m (table d f) later ++ back_acts d k old
outs_given d k m f later reads flags shown_reads shown_flags new old same_reads same_flags vars is marked pushed =
    pushed
    ∙ ap (λ xs. map Out (filter (λ v. bit_at xs v && not (bit_at shown_flags v)) (evens m)) ++ back_acts d k old) same_reads
    ∙ ap (λ xs. map Out (filter (λ v. bit_at reads v && not (bit_at xs v)) (evens m)) ++ back_acts d k old) same_flags
    ∙ ap (λ acts. acts ++ back_acts d k old) (outs_are m (table d f) later reads flags (λ v lt. is v (omega (arith, lt, vars)) ∙ ap (λ n. depends n (table d f) v) vars) marked)

pub joins_more : (d : Diagram) (m : ℕ) (fs : List Ref) (left b : ℕ) → left ≡ suc b → (later : List Function) (flags : List Bool) → AreMarked (2 * m) (map (table d) (drop left fs) ++ later) flags → AreMarked (2 * m) (map (table d) (drop (suc b) fs) ++ later) flags
joins_more d m fs left b e later flags marked = subst (λ (i : ℕ). AreMarked (2 * m) (map (table d) (drop i fs) ++ later) flags) e marked

pub pushed_none : (old new : List Op) (v : ℕ) → new ≡ old ++ (Exists v ∷ []) → AddsNone old new
pushed_none old new v is r one = elim (refs_push old (Exists v) r (subst (λ ops. IsOneOf r (refs_in_all ops)) is one)) [ inl at ↦ at | inr none ↦ absurd none ]

pub pushed_one : (old new : List Op) (f : Ref) → new ≡ old ++ (And f ∷ []) → (r : Ref) → IsOneOf r (refs_in_all new) → IsOneOf r (refs_in_all old) ⊎ (r ≡ f)
pushed_one old new f is r one = elim (refs_push old (And f) r (subst (λ ops. IsOneOf r (refs_in_all ops)) is one)) [ inl at ↦ inl at | inr here ↦ elim here [ inl e ↦ inr e | inr none ↦ absurd none ] ]

pub pushed_look : (old new : List Op) (f : Ref) → new ≡ old ++ (Look f ∷ []) → (r : Ref) → IsOneOf r (refs_in_all new) → IsOneOf r (refs_in_all old) ⊎ (r ≡ f)
pushed_look old new f is r one = elim (refs_push old (Look f) r (subst (λ ops. IsOneOf r (refs_in_all ops)) is one)) [ inl at ↦ inl at | inr here ↦ elim here [ inl e ↦ inr e | inr none ↦ absurd none ] ]

-- the operations of a plan, from its end on
module _ (d : Diagram) (rel : Rel) (o1 o2 o3 o4 o5 o6 : List Op) (e1 : o1 ≡ Rename ∷ []) (e4 : o4 ≡ o3 ++ (Look rel.broken_step ∷ [])) where
  abbrev pub later_before : List Function
  later_before = map (table d) rel.before_step.items ++ []

  abbrev pub later_broken : List Function
  later_broken = table d rel.broken_step ∷ later_before

  pub plan_turn : (k : ℕ) → back_acts d (suc k) o2 ≡ joins_onto rel.bits (map (table d) rel.before_step.items) [] (back_acts d (suc k) o1)
      → back_acts d (suc k) o3 ≡ outs_of rel.bits (table d rel.broken_step) later_before ++ back_acts d (suc k) o2
      → back_acts d (suc k) o5 ≡ joins_onto rel.bits (map (table d) rel.now_step.items) later_broken (back_acts d (suc k) o4)
      → back_acts d (suc k) o6 ≡ map Out (filter (reads_none (2 * rel.bits) (map (table d) rel.now_step.items ++ later_broken)) (evens rel.bits)) ++ back_acts d (suc k) o5
      → back_acts d (suc k) o6 ≡ turn (lists_of d rel) k
  unfolding lists_of
  plan_turn k e2 e3 e5 e6 =
      let a1 : back_acts d (suc k) o1 ≡ Lower ∷ [] = ap (back_acts d (suc k)) e1 in
      let a2 : back_acts d (suc k) o2 ≡ joins_onto rel.bits (map (table d) rel.before_step.items) [] (Lower ∷ []) = e2 ∙ ap (joins_onto rel.bits (map (table d) rel.before_step.items) []) a1 in
      let a3 : back_acts d (suc k) o3 ≡ outs_of rel.bits (table d rel.broken_step) later_before ++ joins_onto rel.bits (map (table d) rel.before_step.items) [] (Lower ∷ []) = e3 ∙ ap (λ acts. outs_of rel.bits (table d rel.broken_step) later_before ++ acts) a2 in
      let a4 : back_acts d (suc k) o4 ≡ Look_at (suc k) (table d rel.broken_step) ∷ (outs_of rel.bits (table d rel.broken_step) later_before ++ joins_onto rel.bits (map (table d) rel.before_step.items) [] (Lower ∷ [])) =
      ap (back_acts d (suc k)) e4 ∙ back_push d (suc k) o3 (Look rel.broken_step) ∙ ap (λ acts. Look_at (suc k) (table d rel.broken_step) ∷ acts) a3 in
      e6 ∙ ap (λ acts. map Out (filter (reads_none (2 * rel.bits) (map (table d) rel.now_step.items ++ later_broken)) (evens rel.bits)) ++ acts) (e5 ∙ ap (joins_onto rel.bits (map (table d) rel.now_step.items) later_broken) a4)
      ∙ sym (turn_is (lists_of d rel) k)

  pub plan_refs : ((r : Ref) → IsOneOf r (refs_in_all o2) → IsOneOf r (refs_in_all o1) ⊎ IsOneOf r rel.before_step.items) → AddsNone o2 o3
      → ((r : Ref) → IsOneOf r (refs_in_all o5) → IsOneOf r (refs_in_all o4) ⊎ IsOneOf r rel.now_step.items) → AddsNone o5 o6
      → (r : Ref) → IsOneOf r (refs_in_all o6) → IsOneOf r (refs_of rel)
  plan_refs r2 r3 r5 r6 r one = elim (r5 r (r6 r one)) [
    | inr now ↦ in_now_step rel r now
    | inl four ↦ elim (pushed_look o3 o4 rel.broken_step e4 r four) [
      | inr broken ↦ in_broken_step rel r broken
      | inl three ↦ elim (r2 r (r3 r three)) [
        | inr before ↦ in_before_step rel r before
        | inl first ↦ absurd (subst (λ ops. IsOneOf r (refs_in_all ops)) e1 first)
      ]
    ]
  ]

pub marks_none : (n : ℕ) (flags : List Bool) → flags ≡ replicate n false → AreMarked n [] flags
marks_none n flags e = record {
  count = ap length e ∙ length-replicate n false;
  flag = λ v lt. ap (λ xs. bit_at xs v) e ∙ get_or-replicate n v false false lt;
}

pub marks_all : (n : ℕ) (flags : List Bool) → flags ≡ replicate n true → (v : ℕ) → v < n → bit_at flags v ≡ true
marks_all n flags e v lt = ap (λ xs. bit_at xs v) e ∙ get_or-replicate n v true false lt

-- the variables that no function reads, as they are pushed
pub unread_given : (d : Diagram) (k m : ℕ) (fs : List Function) (all flags shown_all shown_flags : List Bool) (new old : List Op) → shown_all ≡ all → shown_flags ≡ flags → all ≡ replicate (2 * m) true → AreMarked (2 * m) fs flags
    → back_acts d k new ≡ map Out (filter (λ v. bit_at shown_all v && not (bit_at shown_flags v)) (evens m)) ++ back_acts d k old
    → back_acts d k new ≡ map Out (filter (reads_none (2 * m) fs) (evens m)) ++ back_acts d k old
unread_given d k m fs all flags shown_all shown_flags new old same_all same_flags is marked pushed =
    pushed
    ∙ ap (λ xs. map Out (filter (λ v. bit_at xs v && not (bit_at shown_flags v)) (evens m)) ++ back_acts d k old) same_all
    ∙ ap (λ xs. map Out (filter (λ v. bit_at all v && not (bit_at xs v)) (evens m)) ++ back_acts d k old) same_flags
    ∙ ap (λ acts. acts ++ back_acts d k old) (unread_are m fs all flags (marks_all (2 * m) all is) marked)
