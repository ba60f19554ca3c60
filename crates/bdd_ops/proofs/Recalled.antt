-- What a store recalls depends on no variable before those of the operands.
use Rattle.std.proofs.Common.{◌≡◌, ℕ, ◌+◌, ◌-◌, ◌≤◌, Bool, true, false, ◌||◌, not, cond, min, sym, ◌∙◌, ap, arith}
use Rattle.bdd_store.specs.declared.Ref.{Ref}
use Rattle.bdd_store.specs.Graph.{with_at}
use Rattle.bdd_store.specs.Diagram.{Diagram, IsLive, table, IsReduced, first_var, Keeps}
use Rattle.bdd_store.proofs.Functions.{with_agree}
use Rattle.bdd_store.proofs.Laws.{depends_first, first_least}
use Rattle.bdd_ops.specs.Functions.{Function, some_at}
use Rattle.bdd_ops.specs.Memo.{joined, changed}
use Rattle.bdd_ops.proofs.MemoLaws.{first_within, joined_cond}
use Rattle.bdd_ops.proofs.Tables.{split_at}

module _ (d : Diagram) (ok : IsReduced d) (r : Ref) (live : IsLive d r) where
  pub join_first : (unit : Bool) (f g : Ref) → IsLive d f → ((a : ℕ → Bool) → table d r a ≡ joined unit (table d f a) (table d g a)) → min (first_var d f) (first_var d g) ≤ first_var d r
  join_first unit f g live_f is =
      let within = first_within d f live_f in
      first_least d ok r (min (first_var d f) (first_var d g)) live (omega (arith, within)) (λ a c same.
      let f_same : table d f a ≡ table d f c = depends_first d ok f a c (λ v le. same v (omega (arith, le))) in
      let g_same : table d g a ≡ table d g c = depends_first d ok g a c (λ v le. same v (omega (arith, le))) in
      is a ∙ ap (λ y. joined unit y (table d g a)) f_same ∙ ap (λ y. joined unit (table d f c) y) g_same ∙ sym (is c))

  pub change_first : (back : ℕ) (flip : Bool) (f : Ref) → IsLive d f → ((a : ℕ → Bool) → table d r a ≡ changed back flip (table d f) a) → first_var d f ≤ first_var d r + back
  change_first back flip f live_f is =
      let within = first_within d f live_f in
      let least : first_var d f - back ≤ first_var d r = first_least d ok r (first_var d f - back) live (omega (arith, within)) (λ a c same.
      let f_same : table d f (λ v. a (v - back)) ≡ table d f (λ v. c (v - back)) = depends_first d ok f (λ v. a (v - back)) (λ v. c (v - back)) (λ v le. same (v - back) (omega (arith, le))) in
      is a ∙ ap (λ y. cond flip (not y) y) f_same ∙ sym (is c)) in
      omega (arith, least)

  pub exists_first : (w : ℕ) (f : Ref) → IsLive d f → ((a : ℕ → Bool) → table d r a ≡ some_at w (table d f) a) → first_var d f ≤ first_var d r
  exists_first w f live_f is =
      let within = first_within d f live_f in
      first_least d ok r (first_var d f) live within (λ a c same.
      let f_same : (x : Bool) → table d f (with_at a w x) ≡ table d f (with_at c w x) = λ x. depends_first d ok f (with_at a w x) (with_at c w x) (λ v le. with_agree a c w x v (λ ne. same v le)) in
      is a ∙ ap (λ y. y || table d f (with_at a w true)) (f_same false) ∙ ap (λ y. table d f (with_at c w false) || y) (f_same true) ∙ sym (is c))

-- the join of both branches is that of the functions
pub join_made : (unit : Bool) (v : ℕ) (F G F0 F1 G0 G1 L H : Function) → ((a : ℕ → Bool) → F0 a ≡ F (with_at a v false)) → ((a : ℕ → Bool) → F1 a ≡ F (with_at a v true)) → ((a : ℕ → Bool) → G0 a ≡ G (with_at a v false)) → ((a : ℕ → Bool) → G1 a ≡ G (with_at a v true))
    → ((a : ℕ → Bool) → L a ≡ joined unit (F0 a) (G0 a)) → ((a : ℕ → Bool) → H a ≡ joined unit (F1 a) (G1 a)) → (a : ℕ → Bool) → cond (a v) (H a) (L a) ≡ joined unit (F a) (G a)
join_made unit v F G F0 F1 G0 G1 L H f_low f_high g_low g_high low high a =
    ap (λ y. cond (a v) y (L a)) (high a)
    ∙ ap (λ y. cond (a v) (joined unit (F1 a) (G1 a)) y) (low a)
    ∙ joined_cond unit (a v) _ _ _ _
    ∙ sym (ap (λ y. joined unit y (G a)) (split_at F F0 F1 v f_low f_high a) ∙ ap (λ y. joined unit (cond (a v) (F1 a) (F0 a)) y) (split_at G G0 G1 v g_low g_high a))

-- the same where the functions stay
pub join_later : (unit : Bool) (d e : Diagram) → Keeps d e → (f g : Ref) → IsLive d f → IsLive d g → (a : ℕ → Bool) → joined unit (table d f a) (table d g a) ≡ joined unit (table e f a) (table e g a)
join_later unit d e keeps f g live_f live_g a = sym (ap (λ y. joined unit y (table e g a)) (keeps.tables f live_f a) ∙ ap (λ y. joined unit (table d f a) y) (keeps.tables g live_g a))
