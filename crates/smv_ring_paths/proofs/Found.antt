-- What is found in the rings of a search: a broken state at time 0, the last step, and the walk before it.
use Rattle.std.proofs.Common.{◌≡◌, ℕ, suc, ◌+◌, ◌<◌, Bool, true, List, [], ◌∷◌, ◌++◌, length, take, get_or, reverse, sym, ◌∙◌, ap, subst, arith}
use Rattle.std.specs.List.{All}
use Rattle.std.specs.Global.{Vec}
use Rattle.std.proofs.lemmas.List.{get_or-take, length-take-le}
use Rattle.bdd_store.specs.declared.Ref.{Ref}
use Rattle.bdd_store.specs.Diagram.{Diagram, IsLive, AreLive, table, Keeps, ref_at}
use Rattle.bdd_store.proofs.Keeping.{table_kept}
use Rattle.bdd_ops.specs.Functions.{Function}
use Rattle.smv_rings.specs.declared.Rel.{Rel}
use Rattle.smv_rings.specs.Lists.{Lists, State, at, IsLists, IsRel, lists_of}
use Rattle.smv_rings.specs.Paths.{Starts, Ends, Violates, IsViolating}
use Rattle.smv_rings.specs.Schedule.{ring}
use Rattle.smv_rings.proofs.PathLaws.{violates_of}
use Rattle.smv_rings.proofs.Rels.{lists_ok}
use Rattle.smv_rings.proofs.Kept.{lists_kept}
use Rattle.smv_ring_paths.specs.Steps.{GoesOn}
use Rattle.smv_ring_paths.specs.BitPaths.{AreRings, state_of, states_of, IsBitPath, HasBits}
use Rattle.smv_ring_paths.proofs.Walks.{shorter_none, ends_at, ring_of_ends, whole_path, only_path}

pub once_found : (l : Lists) (n : ℕ) → n ≡ 0 → ((path : ℕ → State) × IsViolating l n path) → (s : State) × Violates l 0 s
once_found l n none (path, is) = (path 0, violates_of l 0 path (subst (λ (k : ℕ). IsViolating l k path) none is))

last_found : (l : Lists) → IsLists l → (n m : ℕ) (f : Function) → n ≡ suc m → f ≡ ring l m → ((path : ℕ → State) × IsViolating l n path) → (r : State) × (s : State) × (f (at r) ≡ true) × GoesOn l r (s ∷ [])
unfolding Violates
last_found l ok n m f long is (path, violating) =
    let violates : Violates l (suc m) (path (suc m)) = violates_of l (suc m) path (subst (λ (k : ℕ). IsViolating l k path) long violating) in
    (violates.0, path (suc m), ap (λ (g : Function). g (at violates.0)) is ∙ ring_of_ends l ok m violates.0 violates.1, (violates.2, violates.3))

module _ (d : Diagram) (rel : Rel) (ok : IsRel d rel) (rings : List Ref) (live : AreLive d rings) (are : AreRings d (lists_of d rel) rings) (m : ℕ) (long : length rings ≡ suc m) where
  pub last_ring : (k : ℕ) × (table d (get_or rings m (record { place = 0 })) ≡ ring (lists_of d rel) k)
  last_ring = (m, are m (omega arith))

  pub last_is_live : IsLive d (get_or rings m (record { place = 0 }))
  last_is_live = live m (omega arith)

  pub last_is_found : ((path : ℕ → State) × IsViolating (lists_of d rel) (length rings) path) → (r : State) × (s : State) × (table d (get_or rings m (record { place = 0 })) (at r) ≡ true) × GoesOn (lists_of d rel) r (s ∷ [])
  last_is_found some = last_found (lists_of d rel) (lists_ok d rel ok) (length rings) m (table d (get_or rings m (record { place = 0 }))) long (are m (omega arith)) some

  -- the rings before the last one, in a later store
  module _ (e : Diagram) (keeps : Keeps d e) (part : List Ref) (part_is : part ≡ take m rings) where
    part_long : length part ≡ m
    part_long = ap (λ (rs : List Ref). length rs) part_is ∙ length-take-le m rings (omega arith)

    ref_is : (i : ℕ) → i < m → ref_at part i ≡ ref_at rings i
    ref_is i lt = ap (λ (rs : List Ref). ref_at rs i) part_is ∙ get_or-take m rings i (record { place = 0 }) lt

    pub part_live : AreLive e part
    part_live i lt = let below : i < m = let short = part_long in omega arith in subst (IsLive e) (sym (ref_is i below)) (keeps.live (ref_at rings i) (live i (omega arith)))

    pub part_rings : AreRings e (lists_of e rel) part
    part_rings i lt =
        let below : i < m = let short = part_long in omega arith in
        ap (table e) (ref_is i below) ∙ table_kept d e (ref_at rings i) keeps (live i (omega arith)) ∙ are i (omega arith) ∙ ap (λ (l : Lists). ring l i) (sym (lists_kept d e rel ok keeps))

    pub part_ends : (old end : Vec Bool) → table d (get_or rings m (record { place = 0 })) (at (state_of old)) ≡ true → GoesOn (lists_of d rel) (state_of old) (state_of end ∷ [])
        → ((j : ℕ) → j < length rings → (path : ℕ → State) → IsViolating (lists_of d rel) j path → ⊥) → Ends (lists_of e rel) (length part) (state_of old)
    part_ends old end in_ring goes none =
        subst (λ (l : Lists). Ends l (length part) (state_of old)) (sym (lists_kept d e rel ok keeps))
        (subst (λ (k : ℕ). Ends (lists_of d rel) k (state_of old)) (sym part_long)
        (ends_at (lists_of d rel) (lists_ok d rel ok) m (suc m) (state_of old) (state_of end ∷ []) (sym (ap (λ (f : Function). f (at (state_of old))) (are m (omega arith))) ∙ in_ring) goes (omega arith)
        (shorter_none (lists_of d rel) (length rings) none (suc m) (omega arith))))

    pub part_goes : (old end : Vec Bool) (states : List (Vec Bool)) → states ≡ end ∷ [] → GoesOn (lists_of d rel) (state_of old) (state_of end ∷ []) → GoesOn (lists_of e rel) (state_of old) (states_of (reverse states))
    part_goes old end states one goes =
        subst (λ (l : Lists). GoesOn l (state_of old) (states_of (reverse states))) (sym (lists_kept d e rel ok keeps))
        (subst (λ (xs : List (Vec Bool)). GoesOn (lists_of d rel) (state_of old) (states_of (reverse xs))) (sym one) goes)

    pub part_none : (count : ℕ) → count ≡ 1 → ((j : ℕ) → j < length rings → (path : ℕ → State) → IsViolating (lists_of d rel) j path → ⊥) → (j : ℕ) → j < length part + count → (s : State) → Violates (lists_of e rel) j s → ⊥
    part_none count one none =
        subst (λ (l : Lists). (j : ℕ) → j < length part + count → (s : State) → Violates l j s → ⊥) (sym (lists_kept d e rel ok keeps))
        (shorter_none (lists_of d rel) (length rings) none (length part + count) (let short = part_long in omega arith))

    pub part_whole : (first : Vec Bool) (states pushed turned : List (Vec Bool)) (count : ℕ) → Starts (lists_of e rel) (state_of first) → GoesOn (lists_of e rel) (state_of first) (states_of (reverse states)) → length states ≡ length part + count → count ≡ 1
        → HasBits rel.bits first → All (HasBits rel.bits) states → pushed ≡ states ++ (first ∷ []) → turned ≡ reverse pushed → IsBitPath (lists_of d rel) (length rings) turned
    unfolding lists_of
    part_whole first states pushed turned count starts goes counted one bits have pushed_are turned_are =
        let same = lists_kept d e rel ok keeps in
        let all : length states ≡ length rings = let short = part_long in omega arith in
        subst (IsBitPath (lists_of d rel) (length rings)) (sym (turned_are ∙ ap (λ (xs : List (Vec Bool)). reverse xs) pushed_are))
        (whole_path (lists_of d rel) (length rings) states first (subst (λ (l : Lists). Starts l (state_of first)) same starts) (subst (λ (l : Lists). GoesOn l (state_of first) (states_of (reverse states))) same goes) all bits have)

pub only_whole : (d : Diagram) (rel : Rel) (only : Vec Bool) (n : ℕ) (pushed : List (Vec Bool)) → n ≡ 0 → HasBits rel.bits only → Violates (lists_of d rel) 0 (state_of only) → pushed ≡ only ∷ [] → IsBitPath (lists_of d rel) n pushed
unfolding lists_of
only_whole d rel only n pushed none bits violates one =
    subst (λ (k : ℕ). IsBitPath (lists_of d rel) k pushed) (sym none) (subst (IsBitPath (lists_of d rel) 0) (sym one) (only_path (lists_of d rel) only bits violates))
