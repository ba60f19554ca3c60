-- Where no assignment counts, nothing is read.
use Rattle.std.proofs.Common.{◌≡◌, ℕ, List, [], ◌∷◌, ◌++◌, map, Bool, false, ◌||◌, if◌then◌else◌, refl, ap, ◌∙◌}
use Rattle.std.specs.List.{flat_map, list_any}
use Rattle.std.proofs.lemmas.Bool.{or_parts}
use Rattle.smv_core.specs.Assignments.{Index}
use Rattle.smv_core.specs.FlatMeaning.{flat_index}
use Rattle.smv_core.specs.declared.flat.Simple.{Simple}
use Rattle.smv_core.specs.declared.flat.DefBody.{DefBody, Nothing, Assign, If', First', Forall', Row_of-DefBody, end_of-DefBody, more_of-DefBody}
use Rattle.law_obligations.specs.Places.{Place, bind_place}
use Rattle.law_obligations.specs.Reads.{reads, has_counting, have_counting, part_reads, parts_read}

module _ {X : Type 0} (every places : Simple → List Place) (counts : List Index → List Place → Bool) (read : ℕ → List Index → List Place → List X) where
  under : (b : Bool) (xs : List X) → b ≡ false → (if b then xs else []) ≡ []
  under b xs e = ap (λ c. if c then xs else []) e

  none : (xs ys : List X) → xs ≡ [] → ys ≡ [] → xs ++ ys ≡ []
  none xs ys e f = ap (λ zs. zs ++ ys) e ∙ f

  each-none : (f : Place → Bool) (g : Place → List X) → ((p : Place) → f p ≡ false → g p ≡ []) → (ps : List Place) → list_any f ps ≡ false → flat_map g ps ≡ []
  each-none f g goes [] e = refl
  each-none f g goes (p ∷ ps) e = let r = or_parts (f p) (list_any f ps) e in none (g p) (flat_map g ps) (goes p r.0) (each-none f g goes ps r.1)

  mutual
    pub uncounted : (part : DefBody) (b : List Place) → has_counting every counts part b ≡ false → part_reads every counts places read part b ≡ []
    uncounted Nothing b e = refl
    uncounted (Assign left value place at) b e = under (counts (map flat_index left) b) (flat_map (λ e. reads places read e b) left ++ reads places read value b) e
    uncounted (If' cond l (more_of-DefBody left end_of-DefBody) r (more_of-DefBody right end_of-DefBody)) b e =
        let n = or_parts (has_counting every counts left b) (has_counting every counts right b) e in
        none ((if has_counting every counts left b || has_counting every counts right b then reads places read cond b else []) ++ part_reads every counts places read left b) (part_reads every counts places read right b)
        (none (if has_counting every counts left b || has_counting every counts right b then reads places read cond b else []) (part_reads every counts places read left b)
        (under (has_counting every counts left b || has_counting every counts right b) (reads places read cond b) e) (uncounted left b n.0)) (uncounted right b n.1)
    uncounted (First' shape parts) b e = none_counted parts b e
    uncounted (Forall' var over shape (more_of-DefBody body end_of-DefBody)) b e =
        each-none (λ p. has_counting every counts body (bind_place b var p)) (λ p. part_reads every counts places read body (bind_place b var p)) (λ p h. uncounted body (bind_place b var p) h) (every over) e

    none_counted : {m : _} → (parts : Row_of-DefBody m) (b : List Place) → have_counting every counts parts b ≡ false → parts_read every counts places read parts b ≡ []
    none_counted end_of-DefBody b e = refl
    none_counted (more_of-DefBody part others) b e =
        let n = or_parts (has_counting every counts part b) (have_counting every counts others b) e in
        none (part_reads every counts places read part b) (parts_read every counts places read others b) (uncounted part b n.0) (none_counted others b n.1)
