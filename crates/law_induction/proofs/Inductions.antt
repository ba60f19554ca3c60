-- Induction over the values of an ordset at one time.
use Rattle.std.proofs.Common.{◌≡◌, ◌<◌, ◌≤◌, ◌+◌, ◌⊎◌, inl, inr, ⊎_elim, ℕ, zero, suc, List, [], ◌∷◌, ◌++◌, map, flat_map, length, get_or, Option, Some, None, Bool, true, false, cond, refl, sym, ap, ◌∙◌, subst, All, nat_lt, arith}
use Rattle.std.proofs.lemmas.Bool.{ltb-true}
use Rattle.std.specs.Str.{bytes_eq}
use Rattle.smv_core.specs.Values.{Name, Path, Value, number, constant, scalar, ordinal, ordset, Sizes, numbers_from, Outcome, Truth, truth, bit, implies_of, conjunction, below}
use Rattle.smv_core.specs.Types.{find_name, simple, values_over, values_or_none}
use Rattle.smv_core.specs.FlatOrder.{TextDesign}
use Rattle.smv_core.specs.Outcome.{State, Scene, Bindings, outcome}
use Rattle.smv_core.specs.Allowed.{scene_at}
use Rattle.smv_core.specs.Sound.{AtEachTime, claim_of, choices, bound}
use Rattle.smv_core.specs.declared.tree.TypeExpr.{TypeExpr}
use Rattle.smv_core.specs.declared.tree.TypeExpr.TheVariants as type
use Rattle.smv_core.specs.declared.tree.Op.TheVariants.{Less}
use Rattle.smv_core.specs.declared.tree.Expr.{Expr}
use Rattle.smv_core.specs.declared.tree.Expr.TheVariants as expr
use Rattle.std.proofs.lemmas.List.{map-append}
use Rattle.law_lists.proofs.Lists.{length_map}
use Rattle.law_induction.specs.Renamed.{renamed, IsRenamable, RenamesBindings}
use Rattle.law_induction.specs.Strengthened.{word_of, variable, for_smaller, stronger, IsNoneOf, IsStronger}
use Rattle.law_places.specs.Likeness.{AlwaysHolds, AreCarried}
use Rattle.law_places.proofs.Computing.{computing}
use Rattle.law_induction.proofs.RenamedOutcomes.{outcome-renamed, bytes-refl, bytes-sym}

-- ---- the parts of a strengthened body

implies-two : (scene : Scene) (s : State) (x y : Expr) (b : Bindings) → outcome scene s (expr.Implies (x ∷ y ∷ [])) b ≡ bit (implies_of (truth (outcome scene s x b)) (truth (outcome scene s y b)))
unfolding computing
implies-two scene s x y b = refl

variable-read : (scene : Scene) (s : State) (name : Name) (v : Value) (b : Bindings) → find_name b name ≡ Some v → outcome scene s (variable name) b ≡ Some v
unfolding computing
variable-read scene s name v b h = rw (h) refl

for_smaller-outcome : (var fresh set : Name) (scene : Scene) (s : State) (e : Expr) (b : Bindings) →
    outcome scene s (for_smaller var fresh set e) b ≡ bit (conjunction (map (λ v. truth (outcome scene s (expr.Implies (expr.Compare Less (variable fresh) (variable var) ∷ renamed var fresh e ∷ [])) ((fresh, v) ∷ b))) (values_over scene.types scene.sizes (type.Named (word_of set) 0))))
unfolding computing
for_smaller-outcome var fresh set scene s e b = refl

less-outcome : (scene : Scene) (s : State) (x y : Expr) (b : Bindings) → outcome scene s (expr.Compare Less x y) b ≡ bit (below (outcome scene s x b) (outcome scene s y b))
unfolding computing
less-outcome scene s x y b = refl

truth-bit : (u : Truth) → truth (bit u) ≡ u
truth-bit None = refl
truth-bit (Some false) = refl
truth-bit (Some true) = refl

bit-true : (u : Truth) → bit u ≡ Some (number 1) → u ≡ Some true
bit-true None e = absurd (cc)
bit-true (Some false) e = absurd (cc)
bit-true (Some true) e = refl

truth-true : (u : Outcome) → truth u ≡ Some true → u ≡ Some (number 1)
truth-true None e = absurd (cc)
truth-true (Some (number zero)) e = absurd (cc)
truth-true (Some (number (suc zero))) e = refl
truth-true (Some (number (suc (suc n)))) e = absurd (cc)
truth-true (Some (constant a)) e = absurd (cc)
truth-true (Some (scalar t n)) e = absurd (cc)
truth-true (Some (ordinal t n)) e = absurd (cc)

after-true : (u v : Truth) → u ≡ Some true → implies_of u v ≡ Some true → v ≡ Some true
after-true (Some true) (Some true) e h = refl
after-true (Some true) (Some false) e h = absurd (cc)
after-true (Some true) None e h = absurd (cc)
after-true (Some false) v e h = absurd (cc)
after-true None v e h = absurd (cc)

before-true : (u v : Truth) → v ≡ Some true → implies_of u v ≡ Some true
before-true None v e = rw (e) refl
before-true (Some true) v e = rw (e) refl
before-true (Some false) v e = refl

all-true : {X : Type 0} (f : X → Truth) (xs : List X) → ((k : ℕ) (d : X) → k < length xs → f (get_or xs k d) ≡ Some true) → conjunction (map f xs) ≡ Some true
all-true f [] h = refl
all-true f (x ∷ xs) h = rw (h zero x (omega arith), all-true f xs (λ k d lt. h (suc k) d (omega (arith, lt)))) refl

-- ---- bindings

bound-append : (outer inner : List (Name × TypeExpr)) (us ws : List Value) (b : Bindings) → length us ≡ length outer → bound (outer ++ inner) (us ++ ws) b ≡ bound inner ws (bound outer us b)
bound-append [] inner [] ws b e = refl
bound-append ((name, over) ∷ outer) inner (u ∷ us) ws b e = bound-append outer inner us ws ((name, u) ∷ b) (omega (arith, e))
bound-append [] inner (u ∷ us) ws b e = absurd (omega (arith, e))
bound-append ((name, over) ∷ outer) inner [] ws b e = absurd (omega (arith, e))

module _ (var fresh set : Name) where
  -- variables inside do not hide it
  find-below : (name : Name) (inner : List (Name × TypeExpr)) → IsNoneOf name inner → (ws : List Value) (b : Bindings) (v : Value) → find_name b name ≡ Some v → find_name (bound inner ws b) name ≡ Some v
  find-below name [] p ws b v h = h
  find-below name ((other, over) ∷ inner) p [] b v h = h
  find-below name ((other, over) ∷ inner) p (w ∷ ws) b v h = find-below name inner p.1 ws ((other, w) ∷ b) v (rw (p.0) h)

  -- other names have the values that they had
  find-same : (name : Name) (inner : List (Name × TypeExpr)) (ws : List Value) (b c : Bindings) → find_name b name ≡ find_name c name → find_name (bound inner ws b) name ≡ find_name (bound inner ws c) name
  find-same name [] ws b c h = h
  find-same name ((other, over) ∷ inner) [] b c h = h
  find-same name ((other, over) ∷ inner) (w ∷ ws) b c h = find-same name inner ws ((other, w) ∷ b) ((other, w) ∷ c) (ap (λ o. cond (bytes_eq other name) (Some w) o) h)

  module _ (scene : Scene) (s : State) (e : Expr) (renamable : IsRenamable var fresh e) (apart : bytes_eq fresh var ≡ false)
      (named : simple scene.types (type.Named (word_of set) 0) ≡ Some (ordset set)) (inner : List (Name × TypeExpr)) (innermost : IsNoneOf var inner) (around : Bindings) (ws : List Value) where
    -- the bindings where the parameter has this value
    abbrev at' : ℕ → Bindings
    at' n = bound inner ws ((var, ordinal set n) ∷ around)

    own : (n : ℕ) → find_name (at' n) var ≡ Some (ordinal set n)
    own n = find-below var inner innermost ws ((var, ordinal set n) ∷ around) (ordinal set n) (rw (bytes-refl var) refl)

    renames : (n k : ℕ) → RenamesBindings var fresh (at' k) ((fresh, ordinal set k) ∷ at' n)
    renames n k = (
      ordinal set k,
      own k,
      rw (bytes-refl fresh) refl,
      λ name other. rw (bytes-sym name fresh other.1) (find-same name inner ws ((var, ordinal set n) ∷ around) ((var, ordinal set k) ∷ around) (rw (bytes-sym name var other.0) refl)),
    )

    -- what is assumed of a smaller value
    assumed : (n k : ℕ) → (k < n → outcome scene s e (at' k) ≡ Some (number 1)) →
        truth (outcome scene s (expr.Implies (expr.Compare Less (variable fresh) (variable var) ∷ renamed var fresh e ∷ [])) ((fresh, ordinal set k) ∷ at' n)) ≡ Some true
    assumed n k h =
        ap truth (implies-two scene s (expr.Compare Less (variable fresh) (variable var)) (renamed var fresh e) ((fresh, ordinal set k) ∷ at' n))
        ∙ truth-bit _ ∙ ap (λ u. implies_of (truth u) (truth (outcome scene s (renamed var fresh e) ((fresh, ordinal set k) ∷ at' n)))) less ∙ by_test (nat_lt k n) refl
      where
        less : outcome scene s (expr.Compare Less (variable fresh) (variable var)) ((fresh, ordinal set k) ∷ at' n) ≡ bit (Some (nat_lt k n))
        less = less-outcome scene s (variable fresh) (variable var) ((fresh, ordinal set k) ∷ at' n)
            ∙ rw (variable-read scene s fresh (ordinal set k) ((fresh, ordinal set k) ∷ at' n) (rw (bytes-refl fresh) refl), variable-read scene s var (ordinal set n) ((fresh, ordinal set k) ∷ at' n) (rw (apart) (own n)), bytes-refl set) refl

        by_test : (t : Bool) → nat_lt k n ≡ t → implies_of (truth (bit (Some t))) (truth (outcome scene s (renamed var fresh e) ((fresh, ordinal set k) ∷ at' n))) ≡ Some true
        by_test false q = refl
        by_test true q = rw (outcome-renamed var fresh scene s e (at' k) ((fresh, ordinal set k) ∷ at' n) renamable (renames n k), h (ltb-true k n q)) refl

    -- where the strengthened body is 1, and the body is 1 at each smaller value, the body is 1
    step : (n : ℕ) → ((k : ℕ) → k < n → outcome scene s e (at' k) ≡ Some (number 1)) → outcome scene s (stronger var fresh set e) (at' n) ≡ Some (number 1) → outcome scene s e (at' n) ≡ Some (number 1)
    step n h p = truth-true _ (after-true (truth (outcome scene s (for_smaller var fresh set e) (at' n))) (truth (outcome scene s e (at' n))) smaller (bit-true _ (sym (implies-two scene s (for_smaller var fresh set e) e (at' n)) ∙ p)))
      where
        each : (first m : ℕ) → conjunction (map (λ v. truth (outcome scene s (expr.Implies (expr.Compare Less (variable fresh) (variable var) ∷ renamed var fresh e ∷ [])) ((fresh, v) ∷ at' n))) (map (ordinal set) (numbers_from first m))) ≡ Some true
        each first zero = refl
        each first (suc m) = rw (assumed n first (λ lt. h first lt), each (first + 1) m) refl

        smaller : truth (outcome scene s (for_smaller var fresh set e) (at' n)) ≡ Some true
        smaller = ap truth (for_smaller-outcome var fresh set scene s e (at' n)) ∙ truth-bit _ ∙ rw (named) (each 0 (scene.sizes set))

    -- so it is 1 at each value
    by_smaller : (size : ℕ) → ((n : ℕ) → n < size → outcome scene s (stronger var fresh set e) (at' n) ≡ Some (number 1)) → (m : ℕ) → m ≤ size → (n : ℕ) → n < m → outcome scene s e (at' n) ≡ Some (number 1)
    by_smaller size h zero le n lt = absurd (omega (arith, lt))
    by_smaller size h (suc m) le n lt = last (by_smaller size h m (omega (arith, le)))
      where
        below_or_same : (a b : ℕ) → a < suc b → (a < b) ⊎ (a ≡ b)
        below_or_same a b q = grind (arith, q)

        last : ((k : ℕ) → k < m → outcome scene s e (at' k) ≡ Some (number 1)) → outcome scene s e (at' n) ≡ Some (number 1)
        last rest = ⊎_elim (λ below'. rest n below') (λ same. subst (λ k. outcome scene s e (at' k) ≡ Some (number 1)) (sym same) (step m rest (h m (omega (arith, le))))) (below_or_same n m lt)

-- ---- lists

-- one of the list is this
abbrev pub Has : {X : Type 0} → List X → X → Type 0
Has [] x = ⊥
Has (y ∷ ys) x = (y ≡ x) ⊎ Has ys x

has-left : {X : Type 0} (xs ys : List X) (x : X) → Has xs x → Has (xs ++ ys) x
has-left [] ys x p = absurd p
has-left (y ∷ xs) ys x (inl e) = inl e
has-left (y ∷ xs) ys x (inr p) = inr (has-left xs ys x p)

has-right : {X : Type 0} (xs ys : List X) (x : X) → Has ys x → Has (xs ++ ys) x
has-right [] ys x p = p
has-right (y ∷ xs) ys x p = inr (has-right xs ys x p)

has-either : {X : Type 0} (xs ys : List X) (x : X) → Has (xs ++ ys) x → Has xs x ⊎ Has ys x
has-either [] ys x p = inr p
has-either (y ∷ xs) ys x (inl e) = inl (inl e)
has-either (y ∷ xs) ys x (inr p) = ⊎_elim (λ q. inl (inr q)) (λ q. inr q) (has-either xs ys x p)

has-map : {X Y : Type 0} (h : X → Y) (xs : List X) (x : X) → Has xs x → Has (map h xs) (h x)
has-map h [] x p = p
has-map h (y ∷ ys) x (inl e) = inl (ap h e)
has-map h (y ∷ ys) x (inr p) = inr (has-map h ys x p)

has-unmap : {X Y : Type 0} (h : X → Y) (xs : List X) (y : Y) → Has (map h xs) y → (x : X) × Has xs x × (h x ≡ y)
has-unmap h [] y p = absurd p
has-unmap h (x ∷ xs) y (inl e) = (x, inl refl, e)
has-unmap h (x ∷ xs) y (inr p) = let q = has-unmap h xs y p in (q.0, inr q.1, q.2)

has-flat_map : {X Y : Type 0} (h : X → List Y) (xs : List X) (x : X) (y : Y) → Has xs x → Has (h x) y → Has (flat_map h xs) y
has-flat_map h [] x y p q = absurd p
has-flat_map h (z ∷ xs) x y (inl e) q = has-left (h z) (flat_map h xs) y (subst (λ w. Has (h w) y) (sym e) q)
has-flat_map h (z ∷ xs) x y (inr p) q = has-right (h z) (flat_map h xs) y (has-flat_map h xs x y p q)

has-unflat : {X Y : Type 0} (h : X → List Y) (xs : List X) (y : Y) → Has (flat_map h xs) y → (x : X) × Has xs x × Has (h x) y
has-unflat h [] y p = absurd p
has-unflat {X} {Y} h (z ∷ xs) y p = by_side (has-either (h z) (flat_map h xs) y p) (has-unflat h xs y)
  where
    by_side : Has (h z) y ⊎ Has (flat_map h xs) y → (Has (flat_map h xs) y → (x : X) × Has xs x × Has (h x) y) → (x : X) × Has (z ∷ xs) x × Has (h x) y
    by_side (inl q) rest = (z, inl refl, q)
    by_side (inr q) rest = let r = rest q in (r.0, inr r.1, r.2)

pub all-has : {X : Type 0} (P : X → Type 0) (xs : List X) → All P xs → (x : X) → Has xs x → P x
all-has P [] h x p = absurd p
all-has P (y ∷ ys) h x (inl e) = subst P e (h zero y (omega arith))
all-has P (y ∷ ys) h x (inr p) = all-has P ys (λ k d lt. h (suc k) d (omega (arith, lt))) x p

pub has-all : {X : Type 0} (P : X → Type 0) (xs : List X) → ((x : X) → Has xs x → P x) → All P xs
has-all P [] h = λ k d lt. absurd (omega (arith, lt))
has-all {X} P (y ∷ ys) h = λ k d lt. at_place k d lt (has-all P ys (λ x p. h x (inr p)))
  where
    at_place : (k : ℕ) (d : X) → k < length (y ∷ ys) → All P ys → P (get_or (y ∷ ys) k d)
    at_place zero d lt rest = h y (inl refl)
    at_place (suc k) d lt rest = rest k d (omega (arith, lt))

numbers-have : (first k n : ℕ) → first ≤ n → n < first + k → Has (numbers_from first k) n
numbers-have first zero n low high = absurd (omega (arith, low, high))
numbers-have first (suc k) n low high = ⊎_elim (λ e. inl e) (λ lt. inr (numbers-have (first + 1) k n (omega (arith, lt)) (omega (arith, high)))) (eq_or_above first n low)
  where
    eq_or_above : (a b : ℕ) → a ≤ b → (a ≡ b) ⊎ (a < b)
    eq_or_above a b h = grind (arith, h)

have-numbers : (first k n : ℕ) → Has (numbers_from first k) n → n < first + k
have-numbers first zero n p = absurd p
have-numbers first (suc k) n (inl e) = omega (arith, e)
have-numbers first (suc k) n (inr p) = let h = have-numbers (first + 1) k n p in omega (arith, h)

-- a choice by its parts, where another value may stand in one place
record IsSplitChoice (A : List (List Value)) (values : List Value) (B : List (List Value)) (vs : List Value) : Type 0 where
  before : List Value
  here : Value
  after : List Value
  split : vs ≡ before ++ here ∷ after
  count : length before ≡ length A
  there : Has values here
  other : (v : Value) → Has values v → Has (choices (A ++ values ∷ B)) (before ++ v ∷ after)

split-choice : (A : List (List Value)) (values : List Value) (B : List (List Value)) (vs : List Value) → Has (choices (A ++ values ∷ B)) vs → IsSplitChoice A values B vs
split-choice [] values B vs p =
    let q = has-unflat (λ v. map (λ r. v ∷ r) (choices B)) values vs p in
    let r = has-unmap (λ r. q.0 ∷ r) (choices B) vs q.2 in
    record {
      before = [];
      here = q.0;
      after = r.0;
      split = sym r.2;
      count = refl;
      there = q.1;
      other = λ v h. has-flat_map (λ v. map (λ r. v ∷ r) (choices B)) values v (v ∷ r.0) h (has-map (λ r. v ∷ r) (choices B) r.0 r.1);
    }
split-choice (a ∷ A) values B vs p =
    let q = has-unflat (λ v. map (λ r. v ∷ r) (choices (A ++ values ∷ B))) a vs p in
    let r = has-unmap (λ r. q.0 ∷ r) (choices (A ++ values ∷ B)) vs q.2 in
    let i = split-choice A values B r.0 r.1 in
    record {
      before = q.0 ∷ i.before;
      here = i.here;
      after = i.after;
      split = sym r.2 ∙ ap (λ l. q.0 ∷ l) i.split;
      count = ap suc i.count;
      there = i.there;
      other = λ v h. has-flat_map (λ v. map (λ r. v ∷ r) (choices (A ++ values ∷ B))) a q.0 (q.0 ∷ i.before ++ v ∷ i.after) q.1 (has-map (λ r. q.0 ∷ r) (choices (A ++ values ∷ B)) (i.before ++ v ∷ i.after) (i.other v h));
    }

-- ---- along a run

-- what follows at each time from what holds of all choices at that time
at-once : (I : List (List Value)) (P Q : List Value → Option State → State → Type 0) → ((before : Option State) (now : State) → ((vs : List Value) → Has I vs → Q vs before now) → (vs : List Value) → Has I vs → P vs before now) →
    (run : List State) (before : Option State) → ((vs : List Value) → Has I vs → AtEachTime (Q vs) before run) → (vs : List Value) → Has I vs → AtEachTime (P vs) before run
at-once I P Q h [] before q vs p = tt
at-once I P Q h (s ∷ run) before q vs p = (h before s (λ us r. (q us r).0) vs p, at-once I P Q h run (Some s) (λ us r. (q us r).1) vs p)

module _ (var fresh set : Name) (d : TextDesign) (sizes : Sizes) (instance : Path) (e : Expr) (renamable : IsRenamable var fresh e) (apart : bytes_eq fresh var ≡ false)
    (named : simple d.types (type.Named (word_of set) 0) ≡ Some (ordset set)) (outer : List (Name × TypeExpr)) (over : TypeExpr) (of_set : simple d.types over ≡ Some (ordset set))
    (inner : List (Name × TypeExpr)) (innermost : IsNoneOf var inner) where
  abbrev values : Name × TypeExpr → List Value
  values p = values_over d.types sizes p.1

  abbrev params : List (Name × TypeExpr)
  params = outer ++ (var, over) ∷ inner

  abbrev all_choices : List (List Value)
  all_choices = choices (map values params)

  at-one-time : (now : State) → ((vs : List Value) → Has all_choices vs → outcome (scene_at d sizes instance) now (stronger var fresh set e) (bound params vs []) ≡ Some (number 1)) →
      (vs : List Value) → Has all_choices vs → outcome (scene_at d sizes instance) now e (bound params vs []) ≡ Some (number 1)
  at-one-time now h vs p =
      let i = split-choice (map values outer) (values (var, over)) (map values inner) vs (subst (λ l. Has (choices l) vs) (map-append values outer ((var, over) ∷ inner)) p) in
      let q = has-unmap (ordinal set) (numbers_from 0 (sizes set)) i.here (subst (λ o. Has (values_or_none sizes o) i.here) of_set i.there) in
      at_value i.before i.after q.0 (have-numbers 0 (sizes set) q.0 q.1) (i.count ∙ length_map values outer)
      (λ k lt. subst (λ l. Has (choices l) (i.before ++ ordinal set k ∷ i.after)) (sym (map-append values outer ((var, over) ∷ inner)))
      (i.other (ordinal set k) (subst (λ o. Has (values_or_none sizes o) (ordinal set k)) (sym of_set) (has-map (ordinal set) (numbers_from 0 (sizes set)) k (numbers-have 0 (sizes set) k (omega arith) (omega (arith, lt)))))))
      (i.split ∙ ap (λ v. i.before ++ v ∷ i.after) (sym q.2))
    where
      at_value : (before after : List Value) (n : ℕ) → n < 0 + sizes set → length before ≡ length outer → ((k : ℕ) → k < sizes set → Has all_choices (before ++ ordinal set k ∷ after)) → vs ≡ before ++ ordinal set n ∷ after →
          outcome (scene_at d sizes instance) now e (bound params vs []) ≡ Some (number 1)
      at_value before after n lt count there split =
          subst (λ us. outcome (scene_at d sizes instance) now e (bound params us []) ≡ Some (number 1)) (sym split)
          (subst (λ b. outcome (scene_at d sizes instance) now e b ≡ Some (number 1)) (sym (parts n))
          (by_smaller var fresh set (scene_at d sizes instance) now e renamable apart named inner innermost (bound outer before []) after (sizes set)
          (λ k low. subst (λ b. outcome (scene_at d sizes instance) now (stronger var fresh set e) b ≡ Some (number 1)) (parts k) (h (before ++ ordinal set k ∷ after) (there k low)))
          (sizes set) (omega arith) n (omega (arith, lt))))
        where
          parts : (k : ℕ) → bound params (before ++ ordinal set k ∷ after) [] ≡ bound inner after ((var, ordinal set k) ∷ bound outer before [])
          parts k = bound-append outer ((var, over) ∷ inner) before (ordinal set k ∷ after) [] count

  pub always : (name : Name) (run : List State) → AlwaysHolds d sizes run (claim_of (record { instance = instance; name = name; params = params; body = stronger var fresh set e })) →
      AlwaysHolds d sizes run (claim_of (record { instance = instance; name = name; params = params; body = e }))
  always name run h = has-all _ all_choices (at-once all_choices (λ vs before now. outcome (scene_at d sizes instance) now e (bound params vs []) ≡ Some (number 1))
      (λ vs before now. outcome (scene_at d sizes instance) now (stronger var fresh set e) (bound params vs []) ≡ Some (number 1)) (λ before now. at-one-time now) run None (all-has _ all_choices h))

-- claims of a design are carried from their strengthened forms
pub carried : (var fresh set : Name) (d : TextDesign) (sizes : Sizes) (run : List State) → AreCarried (IsStronger var fresh set d.types) d sizes run
carried var fresh set d sizes run c other (inl same) h = subst (λ o. AlwaysHolds d sizes run (claim_of o)) (sym same) h
carried var fresh set d sizes run c other (inr p) h =
    let i = p.0 in
    subst (λ params. AlwaysHolds d sizes run (claim_of (record { instance = c.instance; name = c.name; params = params; body = stronger var fresh set c.body })) → AlwaysHolds d sizes run (claim_of (record { instance = c.instance; name = c.name; params = params; body = c.body })))
    (sym i.split) (always var fresh set d sizes c.instance c.body i.renamable i.apart i.named i.outer i.over i.of_set i.inner i.innermost c.name run)
    (subst (λ o. AlwaysHolds d sizes run (claim_of o)) p.1 h)
