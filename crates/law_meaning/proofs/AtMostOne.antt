-- Under the rule of conflicts at most one value of a `forall` variable gives a result.
use Rattle.std.proofs.Common.{◌≡◌, ℕ, suc, ◌<◌, ◌≤◌, length-append, List, [], ◌∷◌, ◌++◌, map, zip, flat_map, length, Some, None, Option, true, false, Bool, cond, ◌&&◌, ◌⊎◌, inl, inr, refl, sym, ap, ◌∙◌, subst, append_assoc, ⊎_elim, Contains, nat_eq, arith}
use Rattle.std.specs.List.{list_any}
use Rattle.std.proofs.lemmas.Bool.{ne_eqb, eq-eqb, eqb-true, not-true, not-false, or_cases}
use Rattle.std.proofs.lemmas.Slice.Eq.{bytes_eq-Decides}
use Rattle.std.specs.Str.{bytes_eq}
use Rattle.std.specs.Option.{is_none}
use Rattle.std.proofs.lemmas.List.Elements.{Contains-append_left, Contains-append_right}
use Rattle.law_lists.proofs.Booleans.{not_left, not_right, left_of, right_of}
use Rattle.smv_core.specs.Values.{Name, Path, Value, number, constant, scalar, ordinal, Outcome, Truth, truth, same, add, modulo}
use Rattle.smv_core.specs.Types.{find_name, values_over, Family}
use Rattle.smv_core.specs.Outcome.{State, Scene, Bindings, outcome, sum_with, read, or_signal, branch, fields_of, same_path, family_at, indexes}
use Rattle.smv_core.specs.Walk.{Element, Walk, walk, walk_parts, walk_held, walk_arms, first, first_of, if_walk, assigned, is_other, is_label, steps_of, same_kind, indexes_of}
use Rattle.smv_core.specs.Assignments.{Around, any, loop, Index, fixed, bare, computed, index_of, index_of_name, index_of_path, index_of_sum, add_fixed, modulo_fixed, Assigned, assignments, assignments_of, assignments_held, assignments_arms}
use Rattle.smv_core.specs.Conflicts.{Agrees, is_of, is_bare, are_two_constants, are_both, differ, share, EachTwo, AreWhole}
use Rattle.smv_core.specs.declared.tree.Kind.{Kind}
use Rattle.smv_core.specs.declared.tree.Word.{Word}
use Rattle.smv_core.specs.declared.tree.Path.{out-Path}
use Rattle.smv_core.specs.declared.tree.Expr.{Expr, Number, Signal', Sum', Modulo', end_of-Expr, more_of-Expr, Row_of-Signed, end_of-Signed, more_of-Signed, items-the_row-Part}
use Rattle.smv_core.specs.declared.tree.Stmt.{Stmt, Assign, Block', If', Switch', Default', For', Forall', Held-Stmt-If-2, None', Some', Row_of-Stmt, end_of-Stmt, more_of-Stmt, Row_of-Arm, end_of-Arm, more_of-Arm}

-- each assignment has the variable as a bare index
abbrev pub AllHave : ℕ → List Assigned → Type 0
AllHave k all = (a : Assigned) → Contains all a → list_any (is_bare k) a.indexes ≡ true

-- the assignments of one kind and family differ in two constants, or share the variable
abbrev pub AreApart : ℕ → List Assigned → Type 0
AreApart k all = EachTwo (λ a b. (differ a b ≡ true) ⊎ (share k a b ≡ true)) all all

-- the value of the variable around which this many are bound
abbrev variable_number : Bindings → ℕ → Outcome
variable_number [] k = None
variable_number ((name, v) ∷ b) k = cond (nat_eq (length b) k) (Some v) (variable_number b k)

-- what an index says of an outcome
abbrev Denotes : Bindings → Index → Outcome → Type 0
Denotes b (fixed u) o = o ≡ u
Denotes b (bare k) o = (k < length b) × (o ≡ variable_number b k)
Denotes b computed o = Unit {0}

nat_eq-above : (k n : ℕ) → k < n → nat_eq n k ≡ false
nat_eq-above k n h = ne_eqb n k (λ e. omega (arith, h, e))

agrees-length : (around : Around) (b : Bindings) → Agrees around b → length around ≡ length b
agrees-length [] [] h = refl
agrees-length [] (p ∷ b) h = absurd h
agrees-length ((name, loop n) ∷ around) [] h = absurd h
agrees-length ((name, any) ∷ around) [] h = absurd h
agrees-length ((name, loop n) ∷ around) (p ∷ b) h = ap suc (agrees-length around b h.2)
agrees-length ((name, any) ∷ around) (p ∷ b) h = ap suc (agrees-length around b h.1)

-- one more binding inside
inside : (b : Bindings) (name : Name) (v : Value) (i : Index) (o : Outcome) → Denotes b i o → Denotes ((name, v) ∷ b) i o
inside b name v (fixed u) o h = h
inside b name v (bare k) o h = let test = nat_eq-above k (length b) h.0 in (omega (arith, h.0), h.1 ∙ ap (λ t. cond t (Some v) (variable_number b k)) (sym test))
inside b name v computed o h = tt

module _ (scene : Scene) (s : State) where
  -- a name denotes what the variables around say of it, whatever it would read else
  named : (around : Around) (b : Bindings) → Agrees around b → (name : Name) (f : Option Family) (p : Path) (us : List Outcome) →
      Denotes b (index_of_name around name) (or_signal scene.sizes s (find_name b name) f p us)
  named [] [] h name f p us = tt
  named [] (q ∷ b) h name f p us = absurd h
  named ((other, loop n) ∷ around) [] h name f p us = absurd h
  named ((other, any) ∷ around) [] h name f p us = absurd h
  named ((other, loop n) ∷ around) ((c, v) ∷ b) h name f p us = rw (h.0, h.1) (by_test (bytes_eq other name) (named around b h.2 name f p us))
    where
      by_test : (t : Bool) → Denotes b (index_of_name around name) (or_signal scene.sizes s (find_name b name) f p us) →
          Denotes ((other, number n) ∷ b) (cond t (fixed (Some (number n))) (index_of_name around name)) (or_signal scene.sizes s (cond t (Some (number n)) (find_name b name)) f p us)
      by_test true rest = refl
      by_test false rest = inside b other (number n) (index_of_name around name) _ rest
  named ((other, any) ∷ around) ((c, v) ∷ b) h name f p us = rw (h.0) (by_test (bytes_eq other name) (agrees-length around b h.1) (named around b h.1 name f p us))
    where
      by_test : (t : Bool) → length around ≡ length b → Denotes b (index_of_name around name) (or_signal scene.sizes s (find_name b name) f p us) →
          Denotes ((other, v) ∷ b) (cond t (bare (length around)) (index_of_name around name)) (or_signal scene.sizes s (cond t (Some v) (find_name b name)) f p us)
      by_test true e rest = (omega (arith, e), sym (ap (λ t. cond t (Some v) (variable_number b (length around))) (eq-eqb (length b) (length around) (sym e))))
      by_test false e rest = inside b other v (index_of_name around name) _ rest

  pathed : (around : Around) (b : Bindings) → Agrees around b → (path : Path) (us : List Outcome) → Denotes b (index_of_path around path) (read scene s b path us)
  pathed around b h [] us = tt
  pathed around b h (name ∷ []) us = named around b h name (family_at scene.families (scene.instance ++ name ∷ [])) (name ∷ []) us
  pathed around b h (name ∷ other ∷ more) us = tt

  added : (b : Bindings) (minus : Bool) (i j : Index) (o p : Outcome) → Denotes b i o → Denotes b j p → Denotes b (add_fixed minus i j) (add minus o p)
  added b minus (fixed u) (fixed v) o p h k = rw (h, k) refl
  added b minus (fixed u) (bare n) o p h k = tt
  added b minus (fixed u) computed o p h k = tt
  added b minus (bare m) j o p h k = tt
  added b minus computed j o p h k = tt

  moduloed : (b : Bindings) (i : Index) (o : Outcome) (by : ℕ) → Denotes b i o → Denotes b (modulo_fixed i by) (modulo o by)
  moduloed b (fixed u) o by h = rw (h) refl
  moduloed b (bare n) o by h = tt
  moduloed b computed o by h = tt

  mutual
    denotes : (around : Around) (b : Bindings) → Agrees around b → (e : Expr) → Denotes b (index_of around e) (outcome scene s e b)
    denotes around b h (Number value at) = refl
    denotes around b h (Signal' shape parts at) = pathed around b h (fields_of (items-the_row-Part _ parts)) (indexes scene s parts b)
    denotes around b h (Sum' f (more_of-Expr e end_of-Expr) shape more) = summed around b h more (index_of around e) (outcome scene s e b) (denotes around b h e)
    denotes around b h (Modulo' shape (more_of-Expr e end_of-Expr) by at) = moduloed b (index_of around e) (outcome scene s e b) by (denotes around b h e)
    denotes around b h _ = tt

    summed : {m : _} (around : Around) (b : Bindings) → Agrees around b → (more : Row_of-Signed m) (i : Index) (o : Outcome) → Denotes b i o → Denotes b (index_of_sum around i more) (sum_with scene s more o b)
    summed around b h end_of-Signed i o k = k
    summed around b h (more_of-Signed minus e rest) i o k =
        summed around b h rest (add_fixed minus i (index_of around e)) (add minus o (outcome scene s e b)) (added b minus i (index_of around e) o (outcome scene s e b) k (denotes around b h e))

-- the index is not another value than the element's
abbrev FitsOne : Bindings → Index → Value → Type 0
FitsOne b (fixed u) v = is_other u v ≡ false
FitsOne b (bare k) v = is_other (variable_number b k) v ≡ false
FitsOne b computed v = Unit {0}

abbrev Fit : Bindings → List Index → List Value → Type 0
Fit b [] vs = Unit {0}
Fit b (i ∷ is) [] = Unit {0}
Fit b (i ∷ is) (v ∷ vs) = FitsOne b i v × Fit b is vs

fits-one : (b : Bindings) (i : Index) (o : Outcome) (v : Value) → Denotes b i o → is_other o v ≡ false → FitsOne b i v
fits-one b (fixed u) o v h k = subst (λ u. is_other u v ≡ false) h k
fits-one b (bare n) o v h k = subst (λ u. is_other u v ≡ false) h.1 k
fits-one b computed o v h k = tt

abbrev Gives : Walk → Type 0
Gives w = is_none w ≡ false

gives-cond : (t : Bool) (w : Walk) → Gives (cond t w None) → (t ≡ true) × Gives w
gives-cond true w h = (refl, h)
gives-cond false w h = absurd (cc)

gives-unless : (t : Bool) (w : Walk) → Gives (cond t None w) → (t ≡ false) × Gives w
gives-unless true w h = absurd (cc)
gives-unless false w h = (refl, h)

gives-first_of : (v w : Walk) → Gives (first_of v w) → Gives v ⊎ Gives w
gives-first_of None w h = inr h
gives-first_of (Some vs) w h = inl refl

branch-same : (o : Truth) → branch {X = Walk} None o None None ≡ None
branch-same None = refl
branch-same (Some false) = refl
branch-same (Some true) = refl

gives-if : (every : List Value) (o : Truth) (v w : Walk) → Gives (if_walk every o v w) → Gives v ⊎ Gives w
gives-if every o (Some vs) w h = inl refl
gives-if every o None (Some ws) h = inr refl
gives-if every o None None h = absurd (none_gives (subst Gives (branch-same o) h))
  where
    none_gives : true ≡ false → ⊥
    none_gives e = cc

module _ (scene : Scene) (s : State) (kind : Kind) (x : Element) (every : List Value) where
  abbrev given : Stmt → Bindings → Walk
  given = walk scene s kind x every

  -- among these assignments one of the element's kind and family, whose indexes are the element's under some further bindings
  record Found (all : List Assigned) (b : Bindings) : Type 0 where
    by : Assigned
    among : Contains all by
    is_its : is_of kind x.path by ≡ true
    inner : Bindings
    fit : Fit (inner ++ b) by.indexes x.indexes

  found-left : (all more : List Assigned) (b : Bindings) → Found all b → Found (all ++ more) b
  found-left all more b f = record { by = f.by; among = Contains-append_left all more f.by f.among; is_its = f.is_its; inner = f.inner; fit = f.fit }

  found-right : (more all : List Assigned) (b : Bindings) → Found all b → Found (more ++ all) b
  found-right more all b f = record { by = f.by; among = Contains-append_right more all f.by f.among; is_its = f.is_its; inner = f.inner; fit = f.fit }

  -- what is found inside one more binding is found around it
  found-around : (all : List Assigned) (b : Bindings) (name : Name) (v : Value) → Found all ((name, v) ∷ b) → Found all b
  found-around all b name v f = record {
    by = f.by;
    among = f.among;
    is_its = f.is_its;
    inner = f.inner ++ (name, v) ∷ [];
    fit = subst (λ l. Fit l f.by.indexes x.indexes) (sym (append_assoc f.inner ((name, v) ∷ []) b)) f.fit;
  }

  found-first : {X : Type 0} (f : X → Walk) (all : X → List Assigned) (b : Bindings) → ((y : X) → Gives (f y) → Found (all y) b) → (ys : List X) → Gives (first (map f ys)) → Found (flat_map all ys) b
  found-first f all b each [] h = absurd (cc)
  found-first f all b each (y ∷ ys) h = ⊎_elim
      (λ here. found-left (all y) (flat_map all ys) b (each y here))
      (λ later. found-right (all y) (flat_map all ys) b (found-first f all b each ys later))
      (gives-first_of (f y) (first (map f ys)) h)

  found-some : {X : Type 0} (f : X → Walk) (all : List Assigned) (b : Bindings) → ((y : X) → Gives (f y) → Found all b) → (ys : List X) → Gives (first (map f ys)) → Found all b
  found-some f all b each [] h = absurd (cc)
  found-some f all b each (y ∷ ys) h = ⊎_elim (each y) (found-some f all b each ys) (gives-first_of (f y) (first (map f ys)) h)

  fit-all : (around : Around) (b : Bindings) → Agrees around b → (es : List Expr) (vs : List Value) →
      list_any (λ (u, v). is_other u v) (zip (map (λ e. outcome scene s e b) es) vs) ≡ false → Fit b (map (index_of around) es) vs
  fit-all around b h [] vs k = tt
  fit-all around b h (e ∷ es) [] k = tt
  fit-all around b h (e ∷ es) (v ∷ vs) k = (
    fits-one b (index_of around e) (outcome scene s e b) v (denotes scene s around b h e) (not_left (is_other (outcome scene s e b) v) _ k),
    fit-all around b h es vs (not_right (is_other (outcome scene s e b) v) _ k),
  )

  found-if : (o : Truth) (v w : Walk) (all more : List Assigned) (b : Bindings) → (Gives v → Found all b) → (Gives w → Found more b) → Gives (if_walk every o v w) → Found (all ++ more) b
  found-if o v w all more b f g h = ⊎_elim (λ k. found-left all more b (f k)) (λ k. found-right all more b (g k)) (gives-if every o v w h)

  found-two : (v w : Walk) (all more : List Assigned) (b : Bindings) → (Gives v → Found all b) → (Gives w → Found more b) → Gives (first_of v w) → Found (all ++ more) b
  found-two v w all more b f g h = ⊎_elim (λ k. found-left all more b (f k)) (λ k. found-right all more b (g k)) (gives-first_of v w h)

  found-default : (v w : Walk) (all more : List Assigned) (b : Bindings) → (Gives v → Found all b) → (Gives w → Found more b) → Gives (first_of w v) → Found (all ++ more) b
  found-default v w all more b f g h = ⊎_elim (λ k. found-right all more b (g k)) (λ k. found-left all more b (f k)) (gives-first_of w v h)

  found-arm : (o : Truth) (v w : Walk) (all arms other : List Assigned) (b : Bindings) → (Gives v → Found all b) → (Gives w → Found (arms ++ other) b) → Gives (if_walk every o v w) → Found ((all ++ arms) ++ other) b
  found-arm o v w all arms other b f g h = subst (λ l. Found l b) (sym (append_assoc all arms other)) (found-if o v w all (arms ++ other) b f g h)

  found-assign : (which : Kind) (path : Path) (es : List Expr) (value : Expr) (around : Around) (b : Bindings) → Agrees around b →
      Gives (cond (same_kind which kind && same_path path x.path) (assigned scene s kind x every (map (λ e. outcome scene s e b) es) value b) None) →
      Found (record { kind = which; path = path; indexes = map (index_of around) es } ∷ []) b
  found-assign which path es value around b h g =
      let tests = gives-cond (same_kind which kind && same_path path x.path) (assigned scene s kind x every (map (λ e. outcome scene s e b) es) value b) g in
      let apart = gives-unless (list_any (λ (u, v). is_other u v) (zip (map (λ e. outcome scene s e b) es) x.indexes)) _ tests.1 in
      record { by = record { kind = which; path = path; indexes = map (index_of around) es }; among = (0, omega arith, refl); is_its = tests.0; inner = []; fit = fit-all around b h es x.indexes apart.0 }

  abbrev assignments_here : Stmt → Around → List Assigned
  assignments_here = assignments scene.instance

  mutual
    found : (act : Stmt) (around : Around) (b : Bindings) → Agrees around b → Gives (given act b) → Found (assignments scene.instance act around) b
    found (Assign which left value at) around b h = found-assign which (scene.instance ++ fields_of (out-Path left).parts) (indexes_of (out-Path left).parts) value around b h
    found (Block' shape parts) around b h = found-parts parts around b h
    found (If' test l (more_of-Stmt left end_of-Stmt) right at) around b h =
        found-if (truth (outcome scene s test b)) (given left b) (walk_held scene s kind x every right b) (assignments_here left around) (assignments_held scene.instance right around) b (found left around b h) (found-held right around b h)
    found (Switch' on shape arms other at) around b h =
        found-arms arms (outcome scene s on b) (walk_held scene s kind x every other b) (assignments_held scene.instance other around) around b h (found-held other around b h)
    found (Default' l (more_of-Stmt left end_of-Stmt) r (more_of-Stmt right end_of-Stmt) at) around b h =
        found-default (given left b) (given right b) (assignments_here left around) (assignments_here right around) b (found left around b h) (found right around b h)
    found (For' var from to closed step shape (more_of-Stmt body end_of-Stmt) at) around b h = found-first (λ n. given body ((var.name, number n) ∷ b)) (λ n. assignments_here body ((var.name, loop n) ∷ around)) b
        (λ n k. found-around (assignments_here body ((var.name, loop n) ∷ around)) b var.name (number n) (found body ((var.name, loop n) ∷ around) ((var.name, number n) ∷ b) (refl, refl, h) k)) (steps_of from to closed step)
    found (Forall' var over shape (more_of-Stmt body end_of-Stmt) at) around b h = found-some (λ v. given body ((var.name, v) ∷ b)) (assignments_here body ((var.name, any) ∷ around)) b
        (λ v k. found-around (assignments_here body ((var.name, any) ∷ around)) b var.name v (found body ((var.name, any) ∷ around) ((var.name, v) ∷ b) (refl, h) k)) (values_over scene.types scene.sizes over)

    found-parts : {m : _} (parts : Row_of-Stmt m) (around : Around) (b : Bindings) → Agrees around b → Gives (walk_parts scene s kind x every parts b) → Found (assignments_of scene.instance parts around) b
    found-parts end_of-Stmt around b h g = absurd (cc)
    found-parts (more_of-Stmt part rest) around b h g =
        found-two (given part b) (walk_parts scene s kind x every rest b) (assignments_here part around) (assignments_of scene.instance rest around) b (found part around b h) (found-parts rest around b h) g

    found-held : (part : Held-Stmt-If-2) (around : Around) (b : Bindings) → Agrees around b → Gives (walk_held scene s kind x every part b) → Found (assignments_held scene.instance part around) b
    found-held None' around b h g = absurd (cc)
    found-held (Some' shape (more_of-Stmt part end_of-Stmt)) around b h g = found part around b h g

    found-arms : {m : _} (arms : Row_of-Arm m) (on : Outcome) (w : Walk) (held : List Assigned) (around : Around) (b : Bindings) → Agrees around b → (Gives w → Found held b) →
        Gives (walk_arms scene s kind x every arms on w b) → Found (assignments_arms scene.instance arms around ++ held) b
    found-arms end_of-Arm on w held around b h f g = f g
    found-arms (more_of-Arm labels body rest) on w held around b h f g =
        found-arm (is_label scene s kind x every on labels b) (given body b) (walk_arms scene s kind x every rest on w b)
        (assignments_here body around) (assignments_arms scene.instance rest around) held b (found body around b h) (found-arms rest on w held around b h f) g

-- a variable keeps its number inside further bindings
number-inside : (front b : Bindings) (name : Name) (v : Value) → variable_number (front ++ (name, v) ∷ b) (length b) ≡ Some v
number-inside [] b name v = ap (λ t. cond t (Some v) (variable_number b (length b))) (eq-eqb (length b) (length b) refl)
number-inside ((other, w) ∷ front) b name v =
    let long : length b < length (front ++ (name, v) ∷ b) = omega (arith, length-append front ((name, v) ∷ b)) in
    ap (λ t. cond t (Some w) (variable_number (front ++ (name, v) ∷ b) (length b))) (nat_eq-above (length b) (length (front ++ (name, v) ∷ b)) long) ∙ number-inside front b name v

pub same-is : (u v : Value) → same u v ≡ true → u ≡ v
same-is (number m) (number n) h = ap number (eqb-true m n h)
same-is (constant m) (constant n) h = ap constant ((bytes_eq-Decides m n).0 h)
same-is (scalar t m) (scalar u n) h =
    ap (λ t. scalar t m) ((bytes_eq-Decides t u).0 (left_of (bytes_eq t u) (nat_eq m n) h)) ∙ ap (scalar u) (eqb-true m n (right_of (bytes_eq t u) (nat_eq m n) h))
same-is (ordinal t m) (ordinal u n) h =
    ap (λ t. ordinal t m) ((bytes_eq-Decides t u).0 (left_of (bytes_eq t u) (nat_eq m n) h)) ∙ ap (ordinal u) (eqb-true m n (right_of (bytes_eq t u) (nat_eq m n) h))
same-is _ _ h = absurd (cc)

pub same-refl : (v : Value) → same v v ≡ true
same-refl (number n) = eq-eqb n n refl
same-refl (constant a) = (bytes_eq-Decides a a).1 refl
same-refl (scalar t n) = rw ((bytes_eq-Decides t t).1 refl) (eq-eqb n n refl)
same-refl (ordinal t n) = rw ((bytes_eq-Decides t t).1 refl) (eq-eqb n n refl)

not_other : (u v : Value) → is_other (Some u) v ≡ false → u ≡ v
not_other u v h = same-is u v (not-false (same u v) h)

module _ (b c : Bindings) (k : ℕ) (v w : Value) (is_v : variable_number b k ≡ Some v) (is_w : variable_number c k ≡ Some w) where
  both-same : (i j : Index) (y : Value) → FitsOne b i y → FitsOne c j y → are_both k i j ≡ true → v ≡ w
  both-same (bare m) (bare n) y p q h =
      let at_m = eqb-true m k (left_of (nat_eq m k) (nat_eq n k) h) in
      let at_n = eqb-true n k (right_of (nat_eq m k) (nat_eq n k) h) in
      let left : is_other (Some v) y ≡ false = subst (λ o. is_other o y ≡ false) (ap (variable_number b) at_m ∙ is_v) p in
      let right : is_other (Some w) y ≡ false = subst (λ o. is_other o y ≡ false) (ap (variable_number c) at_n ∙ is_w) q in
      not_other v y left ∙ sym (not_other w y right)
  both-same _ _ y p q h = absurd (cc)

  constants-same : (i j : Index) (y : Value) → FitsOne b i y → FitsOne c j y → are_two_constants i j ≡ true → ⊥
  constants-same (fixed (Some u)) (fixed (Some t)) y p q h =
      let same_value = not_other u y p ∙ sym (not_other t y q) in
      let is_same : same u t ≡ true = subst (λ t. same u t ≡ true) same_value (same-refl u) in
      true_is_false (not-true (same u t) h) is_same
    where
      true_is_false : same u t ≡ false → same u t ≡ true → ⊥
      true_is_false e f = cc
  constants-same _ _ y p q h = cc

  -- at one of the indexes the two meet
  meet : (is js : List Index) (ys : List Value) → length is ≤ length ys → Fit b is ys → Fit c js ys →
      (list_any (λ (i, j). are_two_constants i j) (zip is js) ≡ true) ⊎ (list_any (λ (i, j). are_both k i j) (zip is js) ≡ true) → v ≡ w
  meet [] js ys long p q h = absurd (⊎_elim (λ e. false_is_true e) (λ e. false_is_true e) h)
    where
      false_is_true : false ≡ true → ⊥
      false_is_true e = cc
  meet (i ∷ is) [] ys long p q h = absurd (⊎_elim (λ e. false_is_true e) (λ e. false_is_true e) h)
    where
      false_is_true : false ≡ true → ⊥
      false_is_true e = cc
  meet (i ∷ is) (j ∷ js) [] long p q h = absurd (omega (arith, long))
  meet (i ∷ is) (j ∷ js) (y ∷ ys) long p q (inl h) = ⊎_elim (λ e. absurd (constants-same i j y p.0 q.0 e)) (λ e. meet is js ys (omega (arith, long)) p.1 q.1 (inl e)) (or_cases (are_two_constants i j) _ h)
  meet (i ∷ is) (j ∷ js) (y ∷ ys) long p q (inr h) = ⊎_elim (λ e. both-same i j y p.0 q.0 e) (λ e. meet is js ys (omega (arith, long)) p.1 q.1 (inr e)) (or_cases (are_both k i j) _ h)

-- the law
pub at_most_one : (scene : Scene) (s : State) (kind : Kind) (x : Element) (every : List Value) (var : Word) (body : Stmt) (around : Around) (b : Bindings) → Agrees around b →
    AreApart (length around) (assignments scene.instance body ((var.name, any) ∷ around)) →
    AreWhole kind x (assignments scene.instance body ((var.name, any) ∷ around)) →
    (v w : Value) → Gives (walk scene s kind x every body ((var.name, v) ∷ b)) → Gives (walk scene s kind x every body ((var.name, w) ∷ b)) → v ≡ w
at_most_one scene s kind x every var body around b h apart whole v w gives_v gives_w =
    let left = found scene s kind x every body ((var.name, any) ∷ around) ((var.name, v) ∷ b) (refl, h) gives_v in
    let right = found scene s kind x every body ((var.name, any) ∷ around) ((var.name, w) ∷ b) (refl, h) gives_w in
    let is_v = ap (variable_number (left.inner ++ (var.name, v) ∷ b)) (agrees-length around b h) ∙ number-inside left.inner b var.name v in
    let is_w = ap (variable_number (right.inner ++ (var.name, w) ∷ b)) (agrees-length around b h) ∙ number-inside right.inner b var.name w in
    meet (left.inner ++ (var.name, v) ∷ b) (right.inner ++ (var.name, w) ∷ b) (length around) v w is_v is_w left.by.indexes right.by.indexes x.indexes
    (whole left.by left.among left.is_its) left.fit right.fit (apart kind x.path left.by right.by left.among right.among left.is_its right.is_its)
