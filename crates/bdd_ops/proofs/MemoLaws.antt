-- What holds of the results that are kept, as the store and the memo grow.
use Rattle.std.proofs.Common.{◌≡◌, ℕ, suc, ◌+◌, ◌*◌, ◌≤◌, Bool, true, false, ◌&&◌, ◌⊎◌, inl, inr, eqb, cond, List, [], ◌∷◌, length, Option, Some, None, IfSome, refl, sym, ◌∙◌, ap, subst, arith}
use Rattle.std.proofs.Math.Path.{fun_ext}
use Rattle.std.specs.List.{IsDistinct, AllByRecursion}
use Rattle.std.specs.Map.{lookup}
use Rattle.std.proofs.lemmas.Bool.Decides.{nat_tests}
use Rattle.bdd_store.specs.declared.Ref.{Ref}
use Rattle.bdd_store.specs.Diagram.{Diagram, IsLive, IsReduced, IsProper, Keeps, table, first_var, beads}
use Rattle.bdd_ops.specs.Functions.{Function}
use Rattle.memo_table.specs.Results.{Results, same_pair, result_of}
use Rattle.memo_table.proofs.TableLaws.{pair_is}
use Rattle.bdd_ops.specs.Memo.{joined, same_one, IsJoin, IsImage, AreJoins, AreImages}
use Rattle.bdd_ops.proofs.FewOnes.{IsBelow, few_ones_below}

pub first_within : (d : Diagram) (r : Ref) → IsLive d r → first_var d r ≤ d.vars
unfolding IsLive first_var
first_within d r live = live.1

-- a Ref that keeps its table keeps it as a function
pub same_table : (d e : Diagram) → Keeps d e → (r : Ref) → IsLive d r → table e r ≡ table d r
same_table d e keeps r live = fun_ext (keeps.tables r live)

pub proper_kept : (d e : Diagram) → Keeps d e → (r : Ref) → IsLive d r → IsProper d r → IsProper e r
proper_kept d e keeps r live proper = omega (arith, keeps.firsts r live, keeps.vars, proper)

-- tests that pass at one key alone
pub record IsTest {K : Type 0} (same : K → K → Bool) : Type 0 where
  pub is : (p q : K) → same p q ≡ true → p ≡ q
  pub self : (p : K) → same p p ≡ true

and_first : (s t : Bool) → s && t ≡ true → s ≡ true
and_first true t e = refl
and_first false t e = e

and_second : (s t : Bool) → s && t ≡ true → t ≡ true
and_second true t e = e
and_second false t e = absurd (let f : false ≡ true = e in cc)

pub one_test : IsTest same_one
one_test = record {
  is = λ p q e. let same : p.place ≡ q.place = grind (arith, nat_tests) in ap (λ (n : ℕ). let x : Ref = record { place = n } in x) same;
  self = λ p. grind (arith, nat_tests);
}

pub pair_test : IsTest same_pair
pair_test = record {
  is = λ p q e. pair_is p q (and_first (eqb p.0.place q.0.place) (eqb p.1.place q.1.place) e) (and_second (eqb p.0.place q.0.place) (eqb p.1.place q.1.place) e);
  self = λ p. grind (arith, nat_tests);
}

pub if_some_map : {A : Type 0} (o : Option A) (P Q : A → Type 0) → ((x : A) → P x → Q x) → IfSome o P → IfSome o Q
if_some_map None P Q f is = tt
if_some_map (Some x) P Q f is = f x is

module _ {K : Type 0} (same : K → K → Bool) (test : IsTest same) where
  -- P holds of each key that is kept and its result
  abbrev pub Holds : (K → Ref → Type 0) → List (K × Ref) → Type 0
  Holds P m = (p : K) → IfSome (lookup (same p) m) (P p)

  -- the memo after a result is put at a key
  put_cases : (m n : List (K × Ref)) (k q : K) (r : Ref) → n ≡ (k, r) ∷ m → (P : Option Ref → Type 0) → (k ≡ q → P (Some r)) → P (lookup (same q) m) → P (lookup (same q) n)
  put_cases m n k q r e P at_key other = subst P (sym (ap (lookup (same q)) e)) (by_test (same q k) refl)
    where
      by_test : (t : Bool) → same q k ≡ t → P (cond t (Some r) (lookup (same q) m))
      by_test true is = at_key (sym (test.is q k is))
      by_test false is = other

  pub holds_put : (P : K → Ref → Type 0) (m n : List (K × Ref)) (k : K) (r : Ref) → n ≡ (k, r) ∷ m → Holds P m → P k r → Holds P n
  holds_put P m n k r put holds answer q = put_cases m n k q r put (λ o. IfSome o (P q)) (λ e. subst (λ p. P p r) e answer) (holds q)

  -- where a result is put or nothing changes
  pub holds_kept : (P : K → Ref → Type 0) (m n : List (K × Ref)) (k : K) (r : Ref) → (n ≡ m) ⊎ (n ≡ (k, r) ∷ m) → Holds P m → P k r → Holds P n
  holds_kept P m n k r (inl same) holds answer = subst (Holds P) (sym same) holds
  holds_kept P m n k r (inr put) holds answer = holds_put P m n k r put holds answer

  pub holds_same : (P : K → Ref → Type 0) (m n : List (K × Ref)) → n ≡ m → Holds P m → Holds P n
  holds_same P m n e holds = subst (Holds P) (sym e) holds

  pub holds_empty : (P : K → Ref → Type 0) (m : List (K × Ref)) → m ≡ [] → Holds P m
  holds_empty P m empty = subst (Holds P) (sym empty) (λ p. tt)

-- what is found is right
pub join_found : (unit : Bool) (d : Diagram) (m : Results) (p : Ref × Ref) (r : Ref) → Some r ≡ result_of m p → AreJoins unit d m → IsJoin unit d p r
join_found unit d m p r e are = subst (λ o. IfSome {T = Ref} o (IsJoin unit d p)) (sym e) (are p)

pub image_found : (T : Function → Function) (back : ℕ) (d : Diagram) (m : Results) (p : Ref × Ref) (r : Ref) → Some r ≡ result_of m p → AreImages T back d m → IsImage T back d p r
image_found T back d m p r e are = subst (λ o. IfSome {T = Ref} o (IsImage T back d p)) (sym e) (are p)

-- results stay right as the store grows
join_kept : (unit : Bool) (d e : Diagram) → Keeps d e → (p : Ref × Ref) (r : Ref) → IsJoin unit d p r → IsJoin unit e p r
join_kept unit d e keeps p r is = record {
  first_live = keeps.live p.0 is.first_live;
  second_live = keeps.live p.1 is.second_live;
  first_proper = proper_kept d e keeps p.0 is.first_live is.first_proper;
  second_proper = proper_kept d e keeps p.1 is.second_live is.second_proper;
  live = keeps.live r is.live;
  first = rw (keeps.firsts p.0 is.first_live, keeps.firsts p.1 is.second_live, keeps.firsts r is.live) is.first;
  table = λ a. keeps.tables r is.live a ∙ is.table a ∙ ap (λ x. joined unit x (table d p.1 a)) (sym (keeps.tables p.0 is.first_live a)) ∙ ap (λ x. joined unit (table e p.0 a) x) (sym (keeps.tables p.1 is.second_live a));
}

pub joins_kept : (unit : Bool) (d e : Diagram) (m : Results) → Keeps d e → AreJoins unit d m → AreJoins unit e m
joins_kept unit d e m keeps are p = if_some_map (result_of m p) (IsJoin unit d p) (IsJoin unit e p) (join_kept unit d e keeps p) (are p)

image_kept : (T : Function → Function) (back : ℕ) (d e : Diagram) → Keeps d e → (p : Ref × Ref) (r : Ref) → IsImage T back d p r → IsImage T back e p r
image_kept T back d e keeps p r is = record {
  twice = is.twice;
  from_live = keeps.live p.0 is.from_live;
  from_proper = proper_kept d e keeps p.0 is.from_live is.from_proper;
  live = keeps.live r is.live;
  first = rw (keeps.firsts p.0 is.from_live, keeps.firsts r is.live) is.first;
  table = λ a. keeps.tables r is.live a ∙ is.table a ∙ ap (λ t. T t a) (sym (same_table d e keeps p.0 is.from_live));
}

pub images_kept : (T : Function → Function) (back : ℕ) (d e : Diagram) (m : Results) → Keeps d e → AreImages T back d m → AreImages T back e m
images_kept T back d e m keeps are p = if_some_map (result_of m p) (IsImage T back d p) (IsImage T back e p) (image_kept T back d e keeps p) (are p)

-- pairs of one node twice
pub record IsTwiceBelow (d : Diagram) (f : Ref) (p : Ref × Ref) : Type 0 where
  pub twice : p.0 ≡ p.1
  pub below : IsBelow d f p.0

abbrev firsts : List (Ref × Ref) → List Ref
firsts [] = []
firsts (p ∷ ps) = p.0 ∷ firsts ps

length_firsts : (ps : List (Ref × Ref)) → length (firsts ps) ≡ length ps
length_firsts [] = refl
length_firsts (p ∷ ps) = ap suc (length_firsts ps)

both_false : (s : Bool) → s && s ≡ false → s ≡ false
both_false true e = e
both_false false e = e

apart_firsts : (p q : Ref × Ref) → p.0 ≡ p.1 → q.0 ≡ q.1 → same_pair p q ≡ false → same_one p.0 q.0 ≡ false
apart_firsts p q twice_p twice_q e =
    let same : same_one p.0 q.0 ≡ same_one p.1 q.1 = ap (λ x. same_one x q.0) twice_p ∙ ap (λ x. same_one p.1 x) twice_q in
    both_false (same_one p.0 q.0) (ap (λ t. same_one p.0 q.0 && t) same ∙ e)

all_apart : (d : Diagram) (f : Ref) (p : Ref × Ref) (ps : List (Ref × Ref)) → p.0 ≡ p.1 → AllByRecursion (IsTwiceBelow d f) ps → AllByRecursion (λ q. same_pair p q ≡ false) ps → AllByRecursion (λ q. same_one p.0 q ≡ false) (firsts ps)
all_apart d f p [] twice all apart = tt
all_apart d f p (q ∷ qs) twice all apart = (apart_firsts p q twice all.0.twice apart.0, all_apart d f p qs twice all.1 apart.1)

distinct_firsts : (d : Diagram) (f : Ref) (ps : List (Ref × Ref)) → AllByRecursion (IsTwiceBelow d f) ps → IsDistinct same_pair ps → IsDistinct same_one (firsts ps)
unfolding IsDistinct
distinct_firsts d f [] all distinct = tt
distinct_firsts d f (p ∷ ps) all distinct = (all_apart d f p ps all.0.twice all.1 distinct.0, distinct_firsts d f ps all.1 distinct.1)

firsts_below : (d : Diagram) (f : Ref) (ps : List (Ref × Ref)) → AllByRecursion (IsTwiceBelow d f) ps → AllByRecursion (IsBelow d f) (firsts ps)
firsts_below d f [] all = tt
firsts_below d f (p ∷ ps) all = (all.0.below, firsts_below d f ps all.1)

pub few_twice : (d : Diagram) (f : Ref) → IsReduced d → IsLive d f → (ps : List (Ref × Ref)) → IsDistinct same_pair ps → AllByRecursion (IsTwiceBelow d f) ps → length ps ≤ beads d f
few_twice d f ok live ps distinct all =
    let few = few_ones_below d ok f live (firsts ps) (distinct_firsts d f ps all distinct) (firsts_below d f ps all) in
    omega (arith, few, length_firsts ps)

pub joined_cond : (unit x : Bool) (f1 f0 g1 g0 : Bool) → cond x (joined unit f1 g1) (joined unit f0 g0) ≡ joined unit (cond x f1 f0) (cond x g1 g0)
joined_cond unit true f1 f0 g1 g0 = refl
joined_cond unit false f1 f0 g1 g0 = refl

-- calls are at most results, and one more where there was no room for one
pub pair_bound : (calls before entries a b x y : ℕ) (t : Bool) → calls ≤ before + entries + cond t 0 1 → entries ≤ a * b → a ≡ x → b ≡ y → calls ≤ before + (x + 2) * (y + 2)
pair_bound calls before entries a b x y true le few same_a same_b = grind (arith)
pair_bound calls before entries a b x y false le few same_a same_b = grind (arith)

pub one_bound : (calls before entries a x : ℕ) (t : Bool) → calls ≤ before + entries + cond t 0 1 → entries ≤ a → a ≡ x → calls ≤ before + (x + 2)
one_bound calls before entries a x true le few same = omega (arith, le, few, same)
one_bound calls before entries a x false le few same = omega (arith, le, few, same)
