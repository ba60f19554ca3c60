-- The kinds of the flattened text that stand for kinds of the tree, and what fits in the tree fits there.
use Rattle.law_designs.proofs.Opening.{opening}
use Rattle.std.proofs.Common.{◌≡◌, List, [], ◌∷◌, ◌++◌, flat_map, length, zip, Option, Some, None, is_some, Bool, true, cond, not, refl, sym, ap, ◌∙◌, subst, arith}
use Rattle.std.specs.List.{position_or_len}
use Rattle.std.proofs.lemmas.Bool.{eq-eqb, not-false}
use Rattle.std.proofs.lemmas.Slice.Eq.{bytes_eq-Decides}
use Rattle.smv_core.specs.Outcome.{same_path}
use Rattle.smv_core.specs.declared.tree.Op.{Op}
use Rattle.smv_core.specs.declared.tree.Op.TheVariants.{Equal, Differ, Less, AtMost, Greater, AtLeast}
use Rattle.smv_core.specs.declared.flat.Simple.{Simple}
use Rattle.smv_mentions.specs.NameFaults.{place_if}
use Rattle.law_designs.specs.Kinds.{Kind, number, enumeration, set_type, no_kind, Operand, joins, joined, accepts, has_order, unless, takes_number, takes, alike_with, alike, kind_with, chosen}
use Rattle.law_designs.specs.Operands.{compared}
use Rattle.law_designs.specs.FlatKinds as typed
use Rattle.law_designs.specs.Numbers.{Scope, set_number}
use Rattle.law_designs.proofs.TypeNumbers.{paths-decide}
use Rattle.law_designs.proofs.Faultless.{empty-both, empty-three, unplaced, no_places}

-- a kind, and not that of an operand at fault
abbrev pub IsKind : Kind → Type 0
IsKind no_kind = ⊥
IsKind _ = Unit {0}

-- what is no fault fits
pub fits : (b : Bool) (e : Operand) → unless b e ≡ [] → b ≡ true
unfolding opening
fits b e h = not-false b (unplaced (not b) e.at (no_places 12 (place_if (not b) e.at) h))

module _ (scope : Scope) where
  -- the kind of the flattened text that stands for a kind of the tree
  abbrev pub flat_kind : Kind → typed.FlatKind
  flat_kind number = typed.number
  flat_kind (enumeration names) = typed.enumeration (position_or_len (same_path names) scope.enums)
  flat_kind (set_type name) = typed.set_type (set_number scope name)
  flat_kind no_kind = typed.number

  joins-kept : (a b : Kind) → IsKind a → IsKind b → joins a b ≡ true → typed.joins (flat_kind a) (flat_kind b) ≡ true
  unfolding opening
  joins-kept number number p q h = refl
  joins-kept number (set_type b) p q h = refl
  joins-kept number (enumeration b) p q h = absurd (cc (h))
  joins-kept number no_kind p q h = absurd q
  joins-kept (set_type a) number p q h = refl
  joins-kept (set_type a) (set_type b) p q h = eq-eqb (set_number scope a) (set_number scope b) (ap (set_number scope) ((bytes_eq-Decides a b).0 h))
  joins-kept (set_type a) (enumeration b) p q h = absurd (cc (h))
  joins-kept (set_type a) no_kind p q h = absurd q
  joins-kept (enumeration a) (enumeration b) p q h =
      eq-eqb (position_or_len (same_path a) scope.enums) (position_or_len (same_path b) scope.enums) (ap (λ names. position_or_len (same_path names) scope.enums) ((paths-decide a b).0 h))
  joins-kept (enumeration a) number p q h = absurd (cc (h))
  joins-kept (enumeration a) (set_type b) p q h = absurd (cc (h))
  joins-kept (enumeration a) no_kind p q h = absurd q
  joins-kept no_kind b p q h = absurd p

  joined-kept : (a b : Kind) → IsKind a → IsKind b → (typed.joined (flat_kind a) (flat_kind b) ≡ flat_kind (joined a b)) × IsKind (joined a b)
  unfolding opening
  joined-kept number number p q = (refl, tt)
  joined-kept number (set_type b) p q = (refl, tt)
  joined-kept number (enumeration b) p q = (refl, tt)
  joined-kept number no_kind p q = absurd q
  joined-kept (set_type a) b p q = (refl, tt)
  joined-kept (enumeration a) b p q = (refl, tt)
  joined-kept no_kind b p q = absurd p

  accepts-kept : (a b : Kind) → IsKind a → IsKind b → accepts a b ≡ true → typed.accepts (flat_kind a) (flat_kind b) ≡ true
  unfolding opening
  accepts-kept number number p q h = refl
  accepts-kept number (set_type b) p q h = absurd (cc (h))
  accepts-kept number (enumeration b) p q h = absurd (cc (h))
  accepts-kept number no_kind p q h = absurd q
  accepts-kept (set_type a) b p q h = joins-kept (set_type a) b p q h
  accepts-kept (enumeration a) b p q h = joins-kept (enumeration a) b p q h
  accepts-kept no_kind b p q h = absurd p

  order-kept : (a : Kind) → IsKind a → has_order a ≡ true → typed.has_order (Some (flat_kind a)) ≡ true
  unfolding opening
  order-kept number p h = refl
  order-kept (set_type a) p h = refl
  order-kept (enumeration a) p h = absurd (cc (h))
  order-kept no_kind p h = absurd p

  order-joined : (a b : Kind) → IsKind a → has_order a ≡ true → has_order (joined a b) ≡ true
  unfolding opening
  order-joined number number p h = refl
  order-joined number (set_type b) p h = refl
  order-joined number (enumeration b) p h = refl
  order-joined number no_kind p h = refl
  order-joined (set_type a) b p h = refl
  order-joined (enumeration a) b p h = absurd (cc (h))
  order-joined no_kind b p h = absurd p

  -- ---- operands

  -- an operand of the flattened text has the kind that stands for this one
  abbrev pub HasKind : Option typed.FlatKind → Kind → Type 0
  HasKind o kind = (o ≡ Some (flat_kind kind)) × IsKind kind

  abbrev pub HaveKinds : List (Option typed.FlatKind) → List Operand → Type 0
  HaveKinds [] [] = Unit {0}
  HaveKinds (o ∷ os) (e ∷ es) = HasKind o e.kind × HaveKinds os es
  HaveKinds _ _ = ⊥

  pub takes-kept : (target : Kind) → IsKind target → (e : Operand) (o : Option typed.FlatKind) → HasKind o e.kind → takes target e ≡ [] → typed.takes (flat_kind target) o ≡ true
  unfolding opening
  takes-kept target t e o h fine =
      ap (typed.takes (flat_kind target)) h.0 ∙ accepts-kept target e.kind t h.1 (fits (accepts target e.kind) e (empty-both e.faults (unless (accepts target e.kind) e) fine).1)

  pub number-kept : (e : Operand) (o : Option typed.FlatKind) → HasKind o e.kind → takes_number e ≡ [] → typed.takes typed.number o ≡ true
  unfolding opening
  number-kept e o h fine = takes-kept number tt e o h fine

  pub numbers-kept : (es : List Operand) (os : List (Option typed.FlatKind)) → HaveKinds os es → flat_map takes_number es ≡ [] → typed.are_numbers os ≡ true
  unfolding opening
  numbers-kept [] [] h fine = refl
  numbers-kept [] (o ∷ os) h fine = absurd h
  numbers-kept (e ∷ es) [] h fine = absurd h
  numbers-kept (e ∷ es) (o ∷ os) h fine =
      let both = empty-both (takes_number e) (flat_map takes_number es) fine in
      let own : typed.takes typed.number o ≡ true = number-kept e o h.0 both.0 in
      rw (own, numbers-kept es os h.1 both.1) refl

  -- each fits those before it, and they have one kind
  pub after-kept : (kind : Kind) → IsKind kind → (es : List Operand) (os : List (Option typed.FlatKind)) → HaveKinds os es → alike_with kind es ≡ [] → HasKind (typed.common_after (flat_kind kind) os) (kind_with kind es)
  unfolding opening
  after-kept kind p [] [] h fine = (refl, p)
  after-kept kind p [] (o ∷ os) h fine = absurd h
  after-kept kind p (e ∷ es) [] h fine = absurd h
  after-kept kind p (e ∷ es) (o ∷ os) h fine =
      let all = empty-three e.faults (unless (joins kind e.kind) e) (alike_with (joined kind e.kind) es) fine in
      let fit : typed.joins (flat_kind kind) (flat_kind e.kind) ≡ true = joins-kept kind e.kind p h.0.1 (fits (joins kind e.kind) e all.1) in
      let next : (typed.joined (flat_kind kind) (flat_kind e.kind) ≡ flat_kind (joined kind e.kind)) × IsKind (joined kind e.kind) = joined-kept kind e.kind p h.0.1 in
      let rest : HasKind (typed.common_after (flat_kind (joined kind e.kind)) os) (kind_with (joined kind e.kind) es) = after-kept (joined kind e.kind) next.1 es os h.1 all.2 in
      (ap (λ x. typed.common_after (flat_kind kind) (x ∷ os)) h.0.0 ∙ ap (λ b. cond b (typed.common_after (typed.joined (flat_kind kind) (flat_kind e.kind)) os) None) fit ∙ ap (λ k. typed.common_after k os) next.0 ∙ rest.0, rest.1)

  pub common-kept : (e : Operand) (es : List Operand) (o : Option typed.FlatKind) (os : List (Option typed.FlatKind)) → HaveKinds (o ∷ os) (e ∷ es) → alike (e ∷ es) ≡ [] → HasKind (typed.common (o ∷ os)) (kind_with no_kind (e ∷ es))
  unfolding opening
  common-kept e es o os h fine =
      let all = empty-three e.faults (unless (joins no_kind e.kind) e) (alike_with e.kind es) fine in
      let rest : HasKind (typed.common_after (flat_kind e.kind) os) (kind_with e.kind es) = after-kept e.kind h.0.1 es os h.1 all.2 in
      (ap (λ x. typed.common (x ∷ os)) h.0.0 ∙ rest.0, rest.1)

  pub chosen-kept : (c l r : Operand) (oc ol or : Option typed.FlatKind) → HasKind oc c.kind → HasKind ol l.kind → HasKind or r.kind → (chosen c l r).faults ≡ [] → HasKind (typed.chosen oc ol or) (joined l.kind r.kind)
  unfolding opening
  chosen-kept c l r oc ol or hc hl hr fine =
      let both = empty-both (takes_number c) (alike (l ∷ r ∷ [])) fine in
      let own : HasKind (typed.common (ol ∷ or ∷ [])) (joined l.kind r.kind) = common-kept l (r ∷ []) ol (or ∷ []) (hl, (hr, tt)) both.1 in
      (ap (λ b. cond b (typed.common (ol ∷ or ∷ [])) None) (number-kept c oc hc both.0) ∙ own.0, own.1)

  some-is : {X : Type 0} (o : Option X) (x : X) → o ≡ Some x → is_some o ≡ true
  some-is o x e = ap is_some e

  pub alike-some : (e : Operand) (es : List Operand) (o : Option typed.FlatKind) (os : List (Option typed.FlatKind)) → HaveKinds (o ∷ os) (e ∷ es) → alike (e ∷ es) ≡ [] → is_some (typed.common (o ∷ os)) ≡ true
  alike-some e es o os h fine = let own = common-kept e es o os h fine in some-is (typed.common (o ∷ os)) (flat_kind (kind_with no_kind (e ∷ es))) own.0

  ordered-kept : (l r : Operand) (ol or : Option typed.FlatKind) → HasKind ol l.kind → HasKind or r.kind → alike (l ∷ r ∷ []) ++ unless (has_order l.kind) l ++ unless (has_order r.kind) r ≡ [] → typed.has_order (typed.common (ol ∷ or ∷ [])) ≡ true
  unfolding opening
  ordered-kept l r ol or hl hr fine =
      let all = empty-three (alike (l ∷ r ∷ [])) (unless (has_order l.kind) l) (unless (has_order r.kind) r) fine in
      let own : HasKind (typed.common (ol ∷ or ∷ [])) (joined l.kind r.kind) = common-kept l (r ∷ []) ol (or ∷ []) (hl, (hr, tt)) all.0 in
      ap typed.has_order own.0 ∙ order-kept (joined l.kind r.kind) own.1 (order-joined l.kind r.kind hl.1 (fits (has_order l.kind) l all.1))

  pub compared-kept : (op : Op) (l r : Operand) (ol or : Option typed.FlatKind) → HasKind ol l.kind → HasKind or r.kind → (compared op l r).faults ≡ [] → typed.compares op (typed.common (ol ∷ or ∷ [])) ≡ true
  unfolding opening
  compared-kept Equal l r ol or hl hr fine = alike-some l (r ∷ []) ol (or ∷ []) (hl, (hr, tt)) fine
  compared-kept Differ l r ol or hl hr fine = alike-some l (r ∷ []) ol (or ∷ []) (hl, (hr, tt)) fine
  compared-kept Less l r ol or hl hr fine = ordered-kept l r ol or hl hr fine
  compared-kept AtMost l r ol or hl hr fine = ordered-kept l r ol or hl hr fine
  compared-kept Greater l r ol or hl hr fine = ordered-kept l r ol or hl hr fine
  compared-kept AtLeast l r ol or hl hr fine = ordered-kept l r ol or hl hr fine

  -- ---- indexes

  -- these types of the flattened text have the kinds that stand for these
  abbrev pub AreOfKinds : List Simple → List Kind → Type 0
  AreOfKinds [] [] = Unit {0}
  AreOfKinds (t ∷ over) (kind ∷ kinds) = (typed.kind_of t ≡ flat_kind kind) × IsKind kind × AreOfKinds over kinds
  AreOfKinds _ _ = ⊥

  pub indexes-kept : (over : List Simple) (kinds : List Kind) → AreOfKinds over kinds → (es : List Operand) (os : List (Option typed.FlatKind)) → HaveKinds os es → length kinds ≡ length es → flat_map (λ (kind, e). takes kind e) (zip kinds es) ≡ [] → typed.take_each over os ≡ true
  unfolding opening
  indexes-kept [] [] a [] [] h s fine = refl
  indexes-kept [] [] a [] (o ∷ os) h s fine = absurd h
  indexes-kept [] [] a (e ∷ es) os h s fine = absurd (omega (arith, s))
  indexes-kept [] (kind ∷ kinds) a es os h s fine = absurd a
  indexes-kept (t ∷ over) [] a es os h s fine = absurd a
  indexes-kept (t ∷ over) (kind ∷ kinds) a [] os h s fine = absurd (omega (arith, s))
  indexes-kept (t ∷ over) (kind ∷ kinds) a (e ∷ es) [] h s fine = absurd h
  indexes-kept (t ∷ over) (kind ∷ kinds) a (e ∷ es) (o ∷ os) h s fine =
      let both = empty-both (takes kind e) (flat_map (λ (kind, e). takes kind e) (zip kinds es)) fine in
      let own : typed.takes (typed.kind_of t) o ≡ true = ap (λ k. typed.takes k o) a.0 ∙ takes-kept kind a.1 e o h.0 both.0 in
      let rest : typed.take_each over os ≡ true = indexes-kept over kinds a.2 es os h.1 (omega (arith, s)) both.1 in
      rw (own, rest) refl

-- ---- parts of a list of operands of one kind

-- a kind that is this one, or a number where this one is that of a set type
abbrev IsLooser : Kind → Kind → Type 0
IsLooser number (set_type b) = Unit {0}
IsLooser kind other = kind ≡ other

alike_with-looser : (kind other : Kind) → IsKind kind → IsLooser kind other → (es : List Operand) → alike_with other es ≡ [] → alike_with kind es ≡ []
unfolding opening
alike_with-looser number number p l es h = h
alike_with-looser number (enumeration b) p l es h = absurd (cc (l))
alike_with-looser number no_kind p l es h = absurd (cc (l))
alike_with-looser (set_type a) other p l es h = subst (λ k. alike_with k es ≡ []) (sym l) h
alike_with-looser (enumeration a) other p l es h = subst (λ k. alike_with k es ≡ []) (sym l) h
alike_with-looser no_kind other p l es h = absurd p
alike_with-looser number (set_type b) p l [] h = refl
alike_with-looser number (set_type b) p l (e ∷ es) h = by_kind e.kind refl (empty-three e.faults (unless (joins (set_type b) e.kind) e) (alike_with (joined (set_type b) e.kind) es) h) (λ h. alike_with-looser number (set_type b) tt tt es h)
  where
    whole : (k : Kind) → e.kind ≡ k → e.faults ≡ [] → unless (joins number k) e ≡ [] → alike_with (joined number k) es ≡ [] → e.faults ++ unless (joins number e.kind) e ++ alike_with (joined number e.kind) es ≡ []
    whole k same f u r = let u2 : unless (joins number e.kind) e ≡ [] = subst (λ k. unless (joins number k) e ≡ []) (sym same) u in
        let r2 : alike_with (joined number e.kind) es ≡ [] = subst (λ k. alike_with (joined number k) es ≡ []) (sym same) r in
        rw (f, u2, r2) refl

    by_kind : (k : Kind) → e.kind ≡ k → (e.faults ≡ []) × (unless (joins (set_type b) e.kind) e ≡ []) × (alike_with (joined (set_type b) e.kind) es ≡ []) → (alike_with (set_type b) es ≡ [] → alike_with number es ≡ []) →
        e.faults ++ unless (joins number e.kind) e ++ alike_with (joined number e.kind) es ≡ []
    by_kind number same all rest = whole number same all.0 refl (rest all.2)
    by_kind (set_type c) same all rest =
        let equal : b ≡ c = (bytes_eq-Decides b c).0 (subst (λ k. joins (set_type b) k ≡ true) same (fits (joins (set_type b) e.kind) e all.1)) in
        whole (set_type c) same all.0 refl (subst (λ n. alike_with (set_type n) es ≡ []) equal all.2)
    by_kind (enumeration c) same all rest = let no : joins (set_type b) (enumeration c) ≡ true = subst (λ k. joins (set_type b) k ≡ true) same (fits (joins (set_type b) e.kind) e all.1) in absurd (cc (no))
    by_kind no_kind same all rest = whole no_kind same all.0 refl (rest all.2)

joined-looser : (a b : Kind) → IsKind a → joins a b ≡ true → IsLooser a (joined a b)
unfolding opening
joined-looser number number p h = refl
joined-looser number (set_type b) p h = tt
joined-looser number (enumeration b) p h = absurd (cc (h))
joined-looser number no_kind p h = refl
joined-looser (set_type a) b p h = refl
joined-looser (enumeration a) b p h = refl
joined-looser no_kind b p h = absurd p

pub alike_with-front : (kind : Kind) (xs ys : List Operand) → alike_with kind (xs ++ ys) ≡ [] → alike_with kind xs ≡ []
unfolding opening
alike_with-front kind [] ys h = refl
alike_with-front kind (e ∷ xs) ys h =
    let all = empty-three e.faults (unless (joins kind e.kind) e) (alike_with (joined kind e.kind) (xs ++ ys)) h in
    let rest : alike_with (joined kind e.kind) xs ≡ [] = alike_with-front (joined kind e.kind) xs ys all.2 in
    rw (all.0, all.1, rest) refl

pub alike_with-behind : (kind : Kind) → IsKind kind → (xs ys : List Operand) → alike_with kind (xs ++ ys) ≡ [] → alike_with kind ys ≡ []
unfolding opening
alike_with-behind kind p [] ys h = h
alike_with-behind kind p (e ∷ xs) ys h =
    let all = empty-three e.faults (unless (joins kind e.kind) e) (alike_with (joined kind e.kind) (xs ++ ys)) h in
    alike_with-looser kind (joined kind e.kind) p (joined-looser kind e.kind p (fits (joins kind e.kind) e all.1)) ys (alike_with-behind (joined kind e.kind) (joined-kind kind e.kind p) xs ys all.2)
  where
    joined-kind : (a b : Kind) → IsKind a → IsKind (joined a b)
    joined-kind number number p = tt
    joined-kind number (set_type b) p = tt
    joined-kind number (enumeration b) p = tt
    joined-kind number no_kind p = tt
    joined-kind (set_type a) b p = tt
    joined-kind (enumeration a) b p = tt
    joined-kind no_kind b p = absurd p
