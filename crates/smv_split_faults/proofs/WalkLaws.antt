-- A walk over all splits that lead to what has a name: each is met once, with the types of the parameters before it.
use Rattle.std.proofs.Common.{◌≡◌, ℕ, zero, suc, ◌+◌, ◌<◌, ◌≤◌, inl, inr, List, [], ◌∷◌, ◌++◌, map, take, length, refl, ap, sym, subst, ◌∙◌, arith}
use Rattle.std.specs.Prelude.{Option, None}
use Rattle.std.specs.List.{flat_map}
use Rattle.std.proofs.lemmas.List.{append-nil, length-take, take-append-le, take-take}
use Rattle.std.proofs.lemmas.List.Concat.{flat_map-append}
use Rattle.std.proofs.lemmas.List.Folds.{flat_map-map}
use Rattle.smv_core.specs.Values.{Name}
use Rattle.smv_core.specs.declared.flat.Simple.{Simple}
use Rattle.smv_core.specs.declared.flat.Design.{Design}
use Rattle.law_obligations.specs.Sets.{Has, first, later}
use Rattle.law_obligations.proofs.Members.{Has-cases, Has-left, Has-right, Has-uncons, Has-from_map}
use Rattle.smv_mentions.specs.Scopes.{first_of_places}
use Rattle.smv_first_fault.specs.Firsts.{least}
use Rattle.smv_first_fault.proofs.LeastLaws.{first-none, first-assoc, least-append}
use Rattle.smv_references.proofs.AgainLaws.{first-comm}
use Rattle.law_splits.specs.Leaves.{splits_of}
use Rattle.law_splits.specs.Chains.{new_types, mismatches_by, from_split, shown}
use Rattle.smv_split_faults.specs.Waiting.{Wait, waits, following}

-- ---- lists

each-same : {X Y : Type 0} (f g : X → List Y) (xs : List X) → ((x : X) → Has xs x → f x ≡ g x) → flat_map f xs ≡ flat_map g xs
each-same f g [] same = refl
each-same f g (x ∷ xs) same = ap (λ l. l ++ flat_map f xs) (same x first) ∙ ap (λ l. g x ++ l) (each-same f g xs (λ y h. same y (later h)))

abbrev pub total : {X : Type 0} → (X → ℕ) → List X → ℕ
total f [] = 0
total f (x ∷ xs) = f x + total f xs

total-append : {X : Type 0} (f : X → ℕ) (xs ys : List X) → total f (xs ++ ys) ≡ total f xs + total f ys
total-append f [] ys = let z : 0 + total f ys ≡ total f ys = omega arith in sym z
total-append f (x ∷ xs) ys = let z : f x + (total f xs + total f ys) ≡ f x + total f xs + total f ys = omega arith in ap (λ n. f x + n) (total-append f xs ys) ∙ z

total-map : {X Y : Type 0} (f : Y → ℕ) (g : X → Y) (xs : List X) → total f (map g xs) ≡ total (λ x. f (g x)) xs
total-map f g [] = refl
total-map f g (x ∷ xs) = ap (λ n. f (g x) + n) (total-map f g xs)

take-whole : {X : Type 0} (xs : List X) → take (length xs) xs ≡ xs
take-whole [] = refl
take-whole (x ∷ xs) = ap (λ r. x ∷ r) (take-whole xs)

-- ---- splits that wait

-- each has no more parameters before it than those behind it
abbrev Rising : List Wait → Type 0
Rising [] = Unit {0}
Rising (w ∷ ws) = ((v : Wait) → Has ws v → w.known ≤ v.known) × Rising ws

rising-front : (ws vs : List Wait) → Rising (ws ++ vs) → Rising ws
rising-front [] vs r = tt
rising-front (w ∷ ws) vs r = ((λ v h. r.0 v (Has-left vs h)), rising-front ws vs r.1)

rising-last : (ws : List Wait) (w : Wait) → Rising (ws ++ w ∷ []) → (v : Wait) → Has ws v → v.known ≤ w.known
rising-last [] w r v h = elim h [ ]
rising-last (u ∷ ws) w r v h = elim (Has-uncons h) [ inl e ↦ subst (λ (z : Wait). z.known ≤ w.known) (sym e) (r.0 w (Has-right ws first)) | inr k ↦ rising-last ws w r.1 v k ]

rising-join : (ws vs : List Wait) → Rising ws → Rising vs → ((w v : Wait) → Has ws w → Has vs v → w.known ≤ v.known) → Rising (ws ++ vs)
rising-join [] vs a b c = b
rising-join (w ∷ ws) vs a b c = ((λ v h. elim (Has-cases ws vs h) [ inl l ↦ a.0 v l | inr r ↦ c w v first r ]), rising-join ws vs a.1 b (λ u v h k. c u v (later h) k))

level : (k : ℕ) (ws : List Wait) → ((w : Wait) → Has ws w → w.known ≡ k) → Rising ws
level k [] same = tt
level k (w ∷ ws) same = ((λ v h. let a = same w first in let b = same v (later h) in omega (arith, a, b)), level k ws (λ v h. same v (later h)))

module _ (d : Design) where
  following-known : (known left : ℕ) (name : Name) (w : Wait) → Has (following d known left name) w → w.known ≡ known
  following-known known zero name w h = elim h [ ]
  following-known known (suc left) name w h = let r = Has-from_map (waits known left) (splits_of d name) h in ap (λ (w : Wait). w.known) r.2

  -- what a split that waits will show, and all that follow it
  abbrev to-show : List Simple → Wait → List ℕ
  to-show types w = from_split (shown d w.left) (take w.known types) w.split

  abbrev pub pending : List Simple → List Wait → List ℕ
  pending types ws = flat_map (to-show types) ws

  pending-following : (types : List Simple) (left : ℕ) (name : Name) → pending types (following d (length types) left name) ≡ shown d left name types
  pending-following types zero name = refl
  pending-following types (suc left) name =
      flat_map-map (to-show types) (waits (length types) left) (splits_of d name)
      ∙ each-same (λ s. from_split (shown d left) (take (length types) types) s) (from_split (shown d left) types) (splits_of d name) (λ s h. ap (λ l. from_split (shown d left) l s) (take-whole types))

  -- how many splits are still to be met
  abbrev under : ℕ → Name → ℕ
  under zero name = 0
  under (suc n) name = total (λ s. suc (under n s.name)) (splits_of d name)

  abbrev pub size : List Wait → ℕ
  size ws = total (λ w. suc (under w.left w.split.name)) ws

  size-following : (known left : ℕ) (name : Name) → size (following d known left name) ≡ under left name
  size-following known zero name = refl
  size-following known (suc left) name = total-map (λ w. suc (under w.left w.split.name)) (waits known left) (splits_of d name)

  -- ---- the walk

  -- what was found and what is still to be shown is the whole, and the types of the parameters before each split that waits are known
  pub record Goes (types : List Simple) (ws : List Wait) (found whole : Option ℕ) : Type 0 where
    pub places : first_of_places found (least (pending types ws)) ≡ whole
    pub rising : Rising ws
    pub within : (w : Wait) → Has ws w → w.known ≤ length types

  pub begins : (name : Name) (types : List Simple) (known left : ℕ) (none ws : List Wait) (found : Option ℕ) → known ≡ length types → none ≡ [] → found ≡ None → ws ≡ none ++ following d known left name →
      Goes types ws found (least (shown d left name types))
  begins name types known left none ws found k n f put = record {
    places = ap (λ o. first_of_places o (least (pending types ws))) f ∙ ap (λ l. least (pending types l)) are ∙ ap least (pending-following types left name);
    rising = subst Rising (sym are) (level (length types) (following d (length types) left name) (λ w h. following-known (length types) left name w h));
    within = λ w h. let e = following-known (length types) left name w (subst (λ l. Has l w) are h) in omega (arith, e);
  }
    where
      are : ws ≡ following d (length types) left name
      are = put ∙ ap (λ l. l ++ following d known left name) n ∙ ap (λ j. following d j left name) k

  module _ (types types' : List Simple) (ws rest ws' : List Wait) (next : Wait) (found found' whole : Option ℕ) (popped : ws ≡ rest ++ next ∷ [])
      (known : types' ≡ take next.known types ++ new_types next.split) (saw : found' ≡ first_of_places found (least (mismatches_by next.split (take next.known types))))
      (more : ws' ≡ rest ++ following d (length types') next.left next.split.name) where
    pub smaller : size ws' < size ws
    smaller =
        let a : size ws' ≡ size rest + size (following d (length types') next.left next.split.name) = ap size more ∙ total-append (λ w. suc (under w.left w.split.name)) rest (following d (length types') next.left next.split.name) in
        let b : size (following d (length types') next.left next.split.name) ≡ under next.left next.split.name = size-following (length types') next.left next.split.name in
        let c : size ws ≡ size rest + (suc (under next.left next.split.name) + 0) = ap size popped ∙ total-append (λ w. suc (under w.left w.split.name)) rest (next ∷ []) in
        omega (arith, a, b, c)

    module _ (goes : Goes types ws found whole) where
      rising-all : Rising (rest ++ next ∷ [])
      rising-all = subst Rising popped goes.rising

      next-within : next.known ≤ length types
      next-within = goes.within next (subst (λ l. Has l next) (sym popped) (Has-right rest first))

      long : length types' ≡ next.known + length (new_types next.split)
      long = let a = ap (λ (l : List Simple). length l) known in let b = joined (take next.known types) (new_types next.split) in let c = length-take next.known types in let e = next-within in omega (arith, a, b, c, e)
        where
          joined : {X : Type 0} (xs ys : List X) → length (xs ++ ys) ≡ length xs + length ys
          joined [] ys = omega arith
          joined (x ∷ xs) ys = let r = joined xs ys in omega (arith, r)

      kept : (w : Wait) → Has rest w → to-show types' w ≡ to-show types w
      kept w h =
          let l = rising-last rest next rising-all w h in
          let c : length (take next.known types) ≡ next.known = (let a = length-take next.known types in let e = next-within in omega (arith, a, e)) in
          ap (λ ts. from_split (shown d w.left) ts w.split)
          (ap (take w.known) known ∙ take-append-le w.known (take next.known types) (new_types next.split) (omega (arith, l, c)) ∙ take-take w.known next.known types l)

      pub further : Goes types' ws' found' whole
      further = record {
        places =
            ap (λ o. first_of_places o (least (pending types' ws'))) saw
            ∙ ap (λ l. first_of_places (first_of_places found shows) (least l))
            (ap (pending types') more ∙ flat_map-append (to-show types') rest (following d (length types') next.left next.split.name) ∙ ap (λ l. l ++ pending types' (following d (length types') next.left next.split.name)) (each-same (to-show types') (to-show types) rest kept)
            ∙ ap (λ l. pending types rest ++ l) (pending-following types' next.left next.split.name) ∙ ap (λ ts. pending types rest ++ shown d next.left next.split.name ts) known)
            ∙ ap (first_of_places (first_of_places found shows)) (least-append (pending types rest) after)
            ∙ crossed found shows (least (pending types rest)) (least after)
            ∙ ap (first_of_places found) (ap (first_of_places (least (pending types rest))) (sym (least-append (mismatches_by next.split (take next.known types)) after)) ∙ sym (least-append (pending types rest) (to-show types next)))
            ∙ ap (λ l. first_of_places found (least (pending types rest ++ l))) (sym (append-nil (to-show types next)))
            ∙ ap (λ l. first_of_places found (least l)) (sym (ap (pending types) popped ∙ flat_map-append (to-show types) rest (next ∷ [])))
            ∙ goes.places;
        rising = subst Rising (sym more) (rising-join rest (following d (length types') next.left next.split.name) (rising-front rest (next ∷ []) rising-all)
            (level (length types') (following d (length types') next.left next.split.name) (λ w h. following-known (length types') next.left next.split.name w h))
            (λ w v h k. let a = rising-last rest next rising-all w h in let b = following-known (length types') next.left next.split.name v k in let c = long in omega (arith, a, b, c)));
        within = λ w h. elim (Has-cases rest (following d (length types') next.left next.split.name) (subst (λ l. Has l w) more h)) [
          | inl k ↦ let a = rising-last rest next rising-all w k in let c = long in omega (arith, a, c)
          | inr k ↦ let b = following-known (length types') next.left next.split.name w k in omega (arith, b)
        ];
      }
        where
          shows : Option ℕ
          shows = least (mismatches_by next.split (take next.known types))

          after : List ℕ
          after = shown d next.left next.split.name (take next.known types ++ new_types next.split)

          crossed : (a b c e : Option ℕ) → first_of_places (first_of_places a b) (first_of_places c e) ≡ first_of_places a (first_of_places c (first_of_places b e))
          crossed a b c e = first-assoc a b (first_of_places c e) ∙ ap (first_of_places a) (sym (first-assoc b c e) ∙ ap (λ o. first_of_places o e) (first-comm b c) ∙ first-assoc c b e)

  pub over : (types : List Simple) (ws : List Wait) (found whole : Option ℕ) → ws ≡ [] → Goes types ws found whole → found ≡ whole
  over types ws found whole none goes = sym (first-none found) ∙ ap (λ l. first_of_places found (least (pending types l))) (sym none) ∙ goes.places
