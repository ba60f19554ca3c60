-- The guards of one split.
use Rattle.std.proofs.Common.{◌≡◌, ℕ, ◌+◌, ◌-◌, ◌<◌, ◌≤◌, List, ◌++◌, map, length, true, refl, sym, ap, subst, ◌∙◌, Some, arith, nat_eq}
use Rattle.std.specs.Str.{bytes_eq}
use Rattle.std.specs.List.{slice_get}
use Rattle.std.proofs.lemmas.List.{length-append}
use Rattle.std.proofs.lemmas.Option.{slice_get_within}
use Rattle.law_lists.proofs.Options.{some_is}
use Rattle.law_lists.proofs.Numbers.{nat_lt-true, nat_lt-false}
use Rattle.smv_core.specs.declared.tree.Word.{Word}
use Rattle.smv_core.specs.declared.flat.Param.{Param}
use Rattle.smv_core.specs.declared.flat.FlatPair.{FlatPair}
use Rattle.smv_core.specs.declared.flat.Guard.{Guard}
use Rattle.smv_core.specs.declared.flat.Simple.{Simple}
use Rattle.smv_core.specs.declared.flat.Design.{Design}
use Rattle.law_obligations.specs.Sets.{Has}
use Rattle.law_obligations.specs.Scopes.{ReadsOnly, before}
use Rattle.law_obligations.proofs.Members.{Has-from_map}
use Rattle.law_obligations.proofs.OneOfEach.{Has-from_flat_map}
use Rattle.law_obligations.proofs.Lookups.{Has-filter}
use Rattle.law_splits.specs.Variables.{Occurrence, readings, renamed, IsNumbered}
use Rattle.law_splits.specs.Leaves.{with_name, Cut, new, old, all_params, stands_for, number_in, guard_of, guards_of}
use Rattle.law_splits.specs.SplitFaults.{names_one, equations_of}
use Rattle.law_splits.specs.SplitLaws.{IsIndex}
use Rattle.law_splits.proofs.Lists.{get_longer, get_map, place_below}
use Rattle.law_splits.proofs.Params.{name_same, named, IsNew, from_new}
use Rattle.law_splits.proofs.RenamedReads.{reads}

-- what a split without a fault has
pub record IsGood (d : Design) (c : Cut) : Type 0 where
  pub are_few : length (old c.split) ≤ length c.params
  pub stand : (pair : FlatPair) → Has c.split.pairs pair → (x : Occurrence) → Has (readings pair.left) x → x.var < length c.split.bound → (k : ℕ) × (stands_for c.split x.var ≡ Some k)
  pub in_one : (word : Word) → Has c.split.vars word → (a b : FlatPair) → Has (equations_of c.split.pairs word) a → Has (equations_of c.split.pairs word) b → a ≡ b
  pub are_numbered : (pair : FlatPair) → Has c.split.pairs pair → IsNumbered (length c.split.bound) pair.left
  pub are_indexes : (p : Param) → Has c.split.bound p → IsIndex d p.over
  pub are_bound : (word : Word) → Has c.split.vars word → names_one c.split.bound word ≡ true

-- the guards of parameters from one number on and below another
pub record AreBetween (count next : ℕ) (types : List Simple) (guards : List Guard) : Type 0 where
  pub is_added : (g : Guard) → Has guards g → count ≤ g.var
  pub is_below : (g : Guard) → Has guards g → g.var < next
  pub is_of_type : (g : Guard) → Has guards g → slice_get types g.var ≡ Some g.over
  pub reads_before : (g : Guard) → Has guards g → ReadsOnly (before g.var) g.expr
  pub one_each : (g h : Guard) → Has guards g → Has guards h → g.var ≡ h.var → g ≡ h

module _ (d : Design) (c : Cut) (good : IsGood d c) (more : List Param) where
  abbrev all : List Param
  all = all_params c ++ more

  abbrev number : ℕ → ℕ
  number = number_in c.split (length all)

  number_inner : (v : ℕ) → length c.split.bound ≤ v → number v ≡ length all + (v - length c.split.bound)
  number_inner v l = rw (nat_lt-false v (length c.split.bound) l) refl

  number_old : (v k : ℕ) → v < length c.split.bound → stands_for c.split v ≡ Some k → number v < length c.params
  number_old v k l e =
      let a : number v ≡ k = rw (nat_lt-true v (length c.split.bound) l) (rw e refl) in
      let b = place_below (λ p. nat_eq p.var v) (old c.split) k e in
      let f = good.are_few in
      omega (arith, a, b, f)

  is_within : length c.params ≤ length all
  is_within = let a = length-append c.params (new c) in let b = length-append (all_params c) more in omega (arith, a, b)

  -- a guard, by its equation and its parameter
  record From (g : Guard) : Type 0 where
    pair : FlatPair
    is_pair : Has c.split.pairs pair
    param : Param
    is_new : Has (new c) param
    is_right : param.name ≡ pair.right.name
    is_guard : g ≡ guard_of c.split (length all) pair param

  from_guards : (g : Guard) → Has (guards_of (length all) c) g → From g
  from_guards g h =
      let r = Has-from_flat_map (λ pair. map (guard_of c.split (length all) pair) (with_name (new c) pair.right)) c.split.pairs h in
      let q = Has-from_map (guard_of c.split (length all) r.0) (with_name (new c) r.0.right) r.2 in
      let n = named (new c) r.0.right q.1 in
      record { pair = r.0; is_pair = r.1; param = q.0; is_new = n.is_there; is_right = n.is_name; is_guard = q.2 }

  at_param : (p : Param) → IsNew c p → slice_get (map (λ p. p.over) all) p.var ≡ Some p.over
  at_param p n = get_map (λ p. p.over) all p.var (get_longer (all_params c) more p.var n.is_at)

  is_before : (k v : ℕ) → v < k → before k v ≡ true
  is_before k v l = nat_lt-true v k l

  reads_old : (pair : FlatPair) → Has c.split.pairs pair → (p : Param) → IsNew c p → ReadsOnly (before p.var) (renamed number pair.left)
  reads_old pair h p n = reads (length c.split.bound) (length c.params) (length all) is_within number number_inner pair.left (length c.split.bound) (before p.var) (omega arith) (good.are_numbered pair h)
      (λ x k l. let s = good.stand pair h x k l in number_old x.var s.0 l s.1)
      (λ v l f. let a = f l in let b = n.is_past in is_before p.var (number v) (omega (arith, a, b)))

  same_guard : (g h : Guard) → From g → From h → g.var ≡ h.var → g ≡ h
  same_guard g h a b e =
      let na = from_new c good.are_bound a.param a.is_new in
      let nb = from_new c good.are_bound b.param b.is_new in
      let vars : a.param.var ≡ b.param.var = sym (ap (λ g. g.var) a.is_guard) ∙ (e ∙ ap (λ g. g.var) b.is_guard) in
      let params : a.param ≡ b.param = some_is (sym na.is_at ∙ (ap (slice_get (all_params c)) vars ∙ nb.is_at)) in
      let in_a = Has-filter (λ pair. bytes_eq pair.right.name na.word.name) a.is_pair (name_same _ _ (sym a.is_right ∙ na.same_word)) in
      let in_b = Has-filter (λ pair. bytes_eq pair.right.name na.word.name) b.is_pair (name_same _ _ (sym b.is_right ∙ (sym (ap (λ p. p.name) params) ∙ na.same_word))) in
      let pairs : a.pair ≡ b.pair = good.in_one na.word na.is_word a.pair b.pair in_a in_b in
      a.is_guard ∙ (ap (λ pair. guard_of c.split (length all) pair a.param) pairs ∙ (ap (guard_of c.split (length all) b.pair) params ∙ sym b.is_guard))

  pub are_between : AreBetween (length c.params) (length (all_params c)) (map (λ p. p.over) all) (guards_of (length all) c)
  are_between = record {
    is_added = λ g h. let f = from_guards g h in let n = from_new c good.are_bound f.param f.is_new in subst (λ g. length c.params ≤ g.var) (sym f.is_guard) n.is_past;
    is_below = λ g h. let f = from_guards g h in let n = from_new c good.are_bound f.param f.is_new in subst (λ g. g.var < length (all_params c)) (sym f.is_guard) (slice_get_within (all_params c) f.param.var f.param n.is_at);
    is_of_type = λ g h. let f = from_guards g h in subst (λ g. slice_get (map (λ p. p.over) all) g.var ≡ Some g.over) (sym f.is_guard) (at_param f.param (from_new c good.are_bound f.param f.is_new));
    reads_before = λ g h. let f = from_guards g h in subst (λ g. ReadsOnly (before g.var) g.expr) (sym f.is_guard) (reads_old f.pair f.is_pair f.param (from_new c good.are_bound f.param f.is_new));
    one_each = λ g h i j e. same_guard g h (from_guards g i) (from_guards h j) e;
  }
