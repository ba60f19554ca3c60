-- Laws of Refs that stay live.
use Rattle.std.proofs.Common.{◌≡◌, ℕ, zero, suc, ◌<◌, true, false, eqb, inl, inr, List, [], ◌∷◌, ◌++◌, map, length, refl, sym, ◌∙◌, ap, subst, arith}
use Rattle.std.proofs.lemmas.Bool.Decides.{nat_tests}
use Rattle.bdd_store.specs.declared.Ref.{Ref}
use Rattle.bdd_store.specs.Beads.{truth_table, bead_count}
use Rattle.bdd_store.specs.Diagram.{Diagram, IsLive, AreLive, IsKept, Reaches, Sweeps, table, Keeps, ref_at, tables_of}
use Rattle.bdd_store.proofs.Laws.{reaches_self}
use Rattle.smv_rings.specs.Ops.{IsOneOf}
use Rattle.smv_rings.proofs.Refs.{one_append, place_of, live_each}
use Rattle.smv_search.specs.Keeping.{AllHeld, KeepsRefs, beads_of}

pub same_place : (r q : Ref) → eqb r.place q.place ≡ true → r ≡ q
same_place r q e = let p : r.place ≡ q.place = grind (arith, nat_tests) in ap (λ (n : ℕ). let x : Ref = record { place = n } in x) p

pub place_same : (r q : Ref) → eqb r.place q.place ≡ false → r ≡ q → ⊥
place_same r q e same = let p : r.place ≡ q.place = ap (λ (x : Ref). x.place) same in grind (arith, nat_tests)

tables_are : (d : Diagram) (rs : List Ref) → tables_of d rs ≡ map (truth_table d.vars 0) (map (table d) rs)
unfolding tables_of
tables_are d [] = refl
tables_are d (r ∷ rs) = ap (λ ts. truth_table d.vars 0 (table d r) ∷ ts) (tables_are d rs)

pub beads_are : (d : Diagram) (rs : List Ref) → bead_count d.vars (tables_of d rs) ≡ beads_of d rs
unfolding beads_of
beads_are d rs = ap (bead_count d.vars) (tables_are d rs)

pub held_at : (d : Diagram) (rs : List Ref) → AllHeld d rs → AreLive d rs
held_at d rs held = live_each d rs held

one_of_at : (rs : List Ref) (i : ℕ) → i < length rs → IsOneOf (ref_at rs i) rs
one_of_at [] i lt = absurd (omega arith)
one_of_at (r ∷ rs) zero lt = inl refl
one_of_at (r ∷ rs) (suc i) lt = inr (one_of_at rs i (omega arith))

-- a member is kept by a sweep
pub one_kept : (d : Diagram) (rs : List Ref) (r : Ref) → IsLive d r → IsOneOf r rs → IsKept d rs r
one_kept d rs r live one = let at = place_of r rs one in (live, inr (at.0, at.1, subst (λ (q : Ref). Reaches d q r) (sym at.2) (reaches_self d r)))

-- what one of some Refs reaches, one of more reaches
pub kept_more : (d : Diagram) (qs rs : List Ref) → ((r : Ref) → IsOneOf r qs → IsOneOf r rs) → (r : Ref) → IsKept d qs r → IsKept d rs r
kept_more d qs rs sub r kept = (
  kept.0,
  elim kept.1 [
    | inl constant ↦ inl constant
    | inr (i, lt, reaches) ↦
        let at = place_of (ref_at qs i) rs (sub (ref_at qs i) (one_of_at qs i lt)) in
        inr (at.0, at.1, subst (λ (q : Ref). Reaches d q r) (sym at.2) reaches)
  ],
)

-- what was reached is reached after
pub kept_after : (d e : Diagram) (rs : List Ref) → KeepsRefs d e rs → (r : Ref) → IsKept d rs r → IsKept e rs r
kept_after d e rs keeps r kept = (
  keeps.below.live r kept,
  elim kept.1 [
    | inl constant ↦ inl (λ proper. constant (let first = keeps.below.firsts r kept in let vars = keeps.vars in omega arith))
    | inr (i, lt, reaches) ↦ inr (i, lt, keeps.below.reached (ref_at rs i) r (one_of_at rs i lt) kept reaches)
  ],
)

-- what keeps all keeps these
pub keeps_refs : (d e : Diagram) (rs : List Ref) → AllHeld d rs → Keeps d e → KeepsRefs d e rs
keeps_refs d e rs held keeps = record {
  vars = keeps.vars;
  live = λ r is. keeps.live r (held r is);
  tables = λ r is i a. keeps.tables r (held r is) a i;
  below = record {
    live = λ r kept. keeps.live r kept.0;
    tables = λ r kept i a. keeps.tables r kept.0 a i;
    reached = λ f r one kept reaches. keeps.reached f r (held f one) kept.0 reaches;
    firsts = λ r kept. keeps.firsts r kept.0;
  };
}

pub keeps_swept : (d e : Diagram) (rs : List Ref) → AllHeld d rs → Sweeps d e rs → KeepsRefs d e rs
keeps_swept d e rs held sweeps = record {
  vars = sweeps.vars;
  live = λ r is. sweeps.live r (one_kept d rs r (held r is) is);
  tables = λ r is i a. sweeps.tables r (one_kept d rs r (held r is) is) a i;
  below = record {
    live = sweeps.live;
    tables = λ r kept i a. sweeps.tables r kept a i;
    reached = λ f r one kept reaches. sweeps.reached f r (one_kept d rs f (held f one) one) kept reaches;
    firsts = sweeps.firsts;
  };
}

pub keeps_self : (d : Diagram) (rs : List Ref) → AllHeld d rs → KeepsRefs d d rs
keeps_self d rs held = record {
  vars = refl;
  live = held;
  tables = λ r is. refl;
  below = record { live = λ r kept. kept.0; tables = λ r kept. refl; reached = λ f r one kept reaches. reaches; firsts = λ r kept. refl };
}

pub keeps_then : (d e f : Diagram) (rs : List Ref) → KeepsRefs d e rs → KeepsRefs e f rs → KeepsRefs d f rs
keeps_then d e f rs k m = record {
  vars = m.vars ∙ k.vars;
  live = m.live;
  tables = λ r is. m.tables r is ∙ k.tables r is;
  below = record {
    live = λ r kept. m.below.live r (kept_after d e rs k r kept);
    tables = λ r kept. m.below.tables r (kept_after d e rs k r kept) ∙ k.below.tables r kept;
    reached = λ q r one kept reaches. m.below.reached q r one (kept_after d e rs k r kept) (k.below.reached q r one kept reaches);
    firsts = λ r kept. m.below.firsts r (kept_after d e rs k r kept) ∙ k.below.firsts r kept;
  };
}

pub keeps_some : (d e : Diagram) (rs qs : List Ref) → ((r : Ref) → IsOneOf r qs → IsOneOf r rs) → KeepsRefs d e rs → KeepsRefs d e qs
keeps_some d e rs qs sub k = record {
  vars = k.vars;
  live = λ r is. k.live r (sub r is);
  tables = λ r is. k.tables r (sub r is);
  below = record {
    live = λ r kept. k.below.live r (kept_more d qs rs sub r kept);
    tables = λ r kept. k.below.tables r (kept_more d qs rs sub r kept);
    reached = λ f r one kept reaches. k.below.reached f r (sub f one) (kept_more d qs rs sub r kept) reaches;
    firsts = λ r kept. k.below.firsts r (kept_more d qs rs sub r kept);
  };
}

pub map_kept : (d e : Diagram) (rs : List Ref) → KeepsRefs d e rs → map (table e) rs ≡ map (table d) rs
map_kept d e [] k = refl
map_kept d e (r ∷ rs) k =
    ap (λ f. f ∷ map (table e) rs) (k.tables r (inl refl))
    ∙ ap (λ fs. table d r ∷ fs) (map_kept d e rs (keeps_some d e (r ∷ rs) rs (λ q is. inr is) k))

pub beads_kept : (d e : Diagram) (rs : List Ref) → KeepsRefs d e rs → beads_of e rs ≡ beads_of d rs
unfolding beads_of
beads_kept d e rs k = ap (λ n. bead_count n (map (truth_table n 0) (map (table e) rs))) k.vars ∙ ap (λ fs. bead_count d.vars (map (truth_table d.vars 0) fs)) (map_kept d e rs k)

pub held_two : (d : Diagram) (rs : List Ref) (s m : Ref) → AllHeld d rs → IsLive d s → IsLive d m → AllHeld d (rs ++ (s ∷ m ∷ []))
held_two d rs s m held live_s live_m r is = elim (one_append r rs (s ∷ m ∷ []) is) [
  | inl old ↦ held r old
  | inr new ↦ elim new [
    | inl e ↦ subst (IsLive d) (sym e) live_s
    | inr last ↦ elim last [ inl e ↦ subst (IsLive d) (sym e) live_m | inr none ↦ absurd none ]
  ]
]
