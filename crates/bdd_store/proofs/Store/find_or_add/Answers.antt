use Rattle.std.proofs.Common.{◌≡◌, ℕ, ◌+◌, ◌<◌, List, length, refl, sym, ◌∙◌, ap, subst, arith}
use Rattle.std.proofs.lemmas.List.{get_or_default}
use Rattle.bdd_store.specs.declared.chains.Node.{Node}
use Rattle.bdd_store.specs.contracts.Store.{the_view}
use Rattle.bdd_store.specs.Chains.{bucket_of, start, InChain, IsFalling, AllOf, Matches, Chained, Puts}
use Rattle.bdd_store.specs.Diagram.{Diagram, IsReduced, held}
use Rattle.bdd_store.specs.Seen.{flag}
use Rattle.bdd_store.proofs.ChainLaws.{chain_falling}
use Rattle.bdd_store.proofs.Puts.{counted_few, counted_full}
use Rattle.bdd_store.proofs.NodeLaws.{same_grows, flags_grows, same_held, same_live, child_gives, found_gives, IsPut, put_gives, absent_everywhere, held_is, on_err, le_more}
use Rattle.bdd_store.proofs.ResultLaws.{known_extends}
use Rattle.bdd_store.proofs.Store.find_or_add.Goals as goal

-- as many are held as may be
pub returns-then-self-clause-grows : goal.returns-then-self-clause-grows
unfolding IsReduced
returns-then-self-clause-grows c =
    let d = c.args.self.now in
    same_grows d d (subst IsReduced c.self.view_is c.self.invariant.reduced) refl refl refl

-- both children are one
pub returns-then-low-high-clause-grows : goal.returns-then-low-high-clause-grows
unfolding IsReduced
returns-then-low-high-clause-grows c =
    let d = c.args.self.now in
    let ok : IsReduced d = subst IsReduced c.self.view_is c.self.invariant.reduced in
    let same_vars = ap (λ (x : Diagram). x.vars) c.self.view_is in
    let same_nodes = ap (λ (x : Diagram). x.nodes) c.self.view_is in
    let same_marks = ap (λ (x : Diagram). x.marks) c.self.view_is in
    same_grows d _ ok same_vars same_nodes same_marks

pub returns-then-low-high-clause-gives : goal.returns-then-low-high-clause-gives
unfolding IsReduced
returns-then-low-high-clause-gives c =
    let d = c.args.self.now in
    let ok : IsReduced d = subst IsReduced c.self.view_is c.self.invariant.reduced in
    let same_vars = ap (λ (x : Diagram). x.vars) c.self.view_is in
    let same_nodes = ap (λ (x : Diagram). x.nodes) c.self.view_is in
    let same_marks = ap (λ (x : Diagram). x.marks) c.self.view_is in
    child_gives d _ ok same_vars same_nodes c.args.var c.args.low c.args.high c.requires.low_live c.requires.low_later c.if-low-high.true

pub returns-then-low-high-clause-held : goal.returns-then-low-high-clause-held
returns-then-low-high-clause-held c =
    let d = c.args.self.now in
    let same_vars = ap (λ (x : Diagram). x.vars) c.self.view_is in
    let same_nodes = ap (λ (x : Diagram). x.nodes) c.self.view_is in
    le_more _ _ 1 (same_held d _ same_vars same_nodes)

pub returns-then-low-high-clause-held_found : goal.returns-then-low-high-clause-held_found
returns-then-low-high-clause-held_found c q live is =
    let d = c.args.self.now in
    let same_vars = ap (λ (x : Diagram). x.vars) c.self.view_is in
    let same_nodes = ap (λ (x : Diagram). x.nodes) c.self.view_is in
    same_held d _ same_vars same_nodes

pub find-found-requires-clause-falling : goal.find-found-requires-clause-falling
find-found-requires-clause-falling c =
    let lt_b : c.bucket_of-bucket.result < length c.self.inside.heads.items = omega (arith, c.bucket_of-bucket.ensures.within, c.len.ensures, c.self.inside.heads.ok.0) in
    let is_head : c.index.result.now ≡ start c.self.inside.heads.items c.self.inside.free c.bucket_of-bucket.result = c.index.ensures ∙ get_or_default c.self.inside.heads.items c.bucket_of-bucket.result c.index.result.now c.self.inside.free lt_b in
    let falling = chain_falling c.self.inside.vars c.self.inside.nodes.items c.self.inside.heads.items c.self.inside.free (AllOf c.self.inside.nodes.items) c.self.invariant.chained (λ r lt. lt) c.bucket_of-bucket.result (omega arith) in
    subst (λ (ns : List Node). IsFalling ns c.index.result.now) (sym c.deref.ensures.value) (subst (λ h. IsFalling c.self.inside.nodes.items h) (sym is_head) falling)

-- the node was found
pub returns-then-found-ne0-clause-grows : goal.returns-then-found-ne0-clause-grows
unfolding IsReduced
returns-then-found-ne0-clause-grows c =
    let d = c.args.self.now in
    let ok : IsReduced d = subst IsReduced c.self.view_is c.self.invariant.reduced in
    let same_vars = ap (λ (x : Diagram). x.vars) c.self.view_is in
    let same_nodes = ap (λ (x : Diagram). x.nodes) c.self.view_is in
    let same_marks = ap (λ (x : Diagram). x.marks) c.self.view_is in
    same_grows d _ ok same_vars same_nodes same_marks

pub returns-then-found-ne0-clause-gives : goal.returns-then-found-ne0-clause-gives
unfolding IsReduced
returns-then-found-ne0-clause-gives c =
    let d = c.args.self.now in
    let ok : IsReduced d = subst IsReduced c.self.view_is c.self.invariant.reduced in
    let same_vars = ap (λ (x : Diagram). x.vars) c.self.view_is in
    let same_nodes = ap (λ (x : Diagram). x.nodes) c.self.view_is in
    let same_marks = ap (λ (x : Diagram). x.marks) c.self.view_is in
    let is = subst (λ (ns : List Node). (c.find-found.result < length ns) × Matches ns c.find-found.result c.args.var c.args.low.place c.args.high.place) (c.deref.ensures.value ∙ same_nodes) (c.find-found.ensures.found (omega (arith, c.if-found-ne0.true))) in
    found_gives d _ ok same_vars same_nodes c.args.var c.args.low c.args.high _ c.requires.var_in c.requires.low_live c.requires.high_live is

pub returns-then-found-ne0-clause-held : goal.returns-then-found-ne0-clause-held
returns-then-found-ne0-clause-held c =
    let d = c.args.self.now in
    let same_vars = ap (λ (x : Diagram). x.vars) c.self.view_is in
    let same_nodes = ap (λ (x : Diagram). x.nodes) c.self.view_is in
    le_more _ _ 1 (same_held d _ same_vars same_nodes)

pub returns-then-found-ne0-clause-held_found : goal.returns-then-found-ne0-clause-held_found
returns-then-found-ne0-clause-held_found c q live is =
    let d = c.args.self.now in
    let same_vars = ap (λ (x : Diagram). x.vars) c.self.view_is in
    let same_nodes = ap (λ (x : Diagram). x.nodes) c.self.view_is in
    same_held d _ same_vars same_nodes

-- there was no room
pub returns-in_err-place-clause-grows : goal.returns-in_err-place-clause-grows
unfolding IsReduced
returns-in_err-place-clause-grows c =
    let d = c.args.self.now in
    let ok : IsReduced d = subst IsReduced c.self.view_is c.self.invariant.reduced in
    let same_vars = ap (λ (x : Diagram). x.vars) c.self.view_is in
    let same_nodes = ap (λ (x : Diagram). x.nodes) c.self.view_is in
    let same_marks = ap (λ (x : Diagram). x.marks) c.self.view_is in
    let nodes_kept = c.in_err-place.ensures.same ∙ same_nodes in
    flags_grows d _ ok same_vars nodes_kept (λ q. c.in_err-place.ensures.marks q ∙ ap (λ l. flag l q) same_marks)

pub returns-in_err-place-clause-none_fresh : goal.returns-in_err-place-clause-none_fresh
returns-in_err-place-clause-none_fresh c =
    let d = c.args.self.now in
    let same_vars = ap (λ (x : Diagram). x.vars) c.self.view_is in
    let same_nodes = ap (λ (x : Diagram). x.nodes) c.self.view_is in
    let nodes_kept = c.in_err-place.ensures.same ∙ same_nodes in
    on_err c.from_residual.result _ (same_live d _ same_vars nodes_kept)

pub returns-in_err-place-clause-held : goal.returns-in_err-place-clause-held
returns-in_err-place-clause-held c =
    let d = c.args.self.now in
    let same_vars = ap (λ (x : Diagram). x.vars) c.self.view_is in
    let same_nodes = ap (λ (x : Diagram). x.nodes) c.self.view_is in
    let nodes_kept = c.in_err-place.ensures.same ∙ same_nodes in
    le_more _ _ _ (same_held d _ same_vars nodes_kept)

pub returns-in_err-place-clause-held_found : goal.returns-in_err-place-clause-held_found
returns-in_err-place-clause-held_found c q live is =
    let d = c.args.self.now in
    let same_vars = ap (λ (x : Diagram). x.vars) c.self.view_is in
    let same_nodes = ap (λ (x : Diagram). x.nodes) c.self.view_is in
    let nodes_kept = c.in_err-place.ensures.same ∙ same_nodes in
    same_held d _ same_vars nodes_kept

pub returns-in_err-place-clause-refused : goal.returns-in_err-place-clause-refused
returns-in_err-place-clause-refused c =
    let is = c.self.invariant in
    let ns = c.self.inside.nodes.items in
    let chained = subst (λ f. Chained c.self.inside.vars ns c.self.inside.heads.items f (AllOf ns)) c.in_err-place.ensures.none_free is.chained in
    let all = counted_full c.self.inside.vars ns c.self.inside.heads.items chained is.reduced.constants is.reduced.zero_last is.reduced.one_last in
    on_err c.from_residual.result _ (omega (arith, ap (λ (x : Diagram). x.spare) c.self.view_is, c.in_err-place.ensures.full, all, is.held_counted, c.self.inside.nodes.ok.0))

-- the node was put
pub overflow_add-self : goal.overflow_add-self
overflow_add-self c =
    let is = c.self.invariant in
    omega (arith, counted_few c.self.inside.vars c.self.inside.nodes.items is.reduced.constants is.reduced.zero_last is.reduced.one_last, is.held_counted, is.few)

pub invariant_of-self-2 : goal.invariant_of-self-2
unfolding IsReduced
invariant_of-self-2 c =
    let d = c.args.self.now in
    let ok : IsReduced d = subst IsReduced c.self.view_is c.self.invariant.reduced in
    let same_vars = ap (λ (x : Diagram). x.vars) c.self.view_is in
    let same_nodes = ap (λ (x : Diagram). x.nodes) c.self.view_is in
    let same_marks = ap (λ (x : Diagram). x.marks) c.self.view_is in
    let lt_b : c.bucket_of-bucket.result < length c.self.inside.heads.items = omega (arith, c.bucket_of-bucket.ensures.within, c.len.ensures, c.self.inside.heads.ok.0) in
    let is_head : c.index.result.now ≡ start c.self.inside.heads.items c.self.inside.free c.bucket_of-bucket.result = c.index.ensures ∙ get_or_default c.self.inside.heads.items c.bucket_of-bucket.result c.index.result.now c.self.inside.free lt_b in
    let all_same = c.deref.ensures.value ∙ same_nodes in
    let chained = subst (λ (x : Diagram). Chained x.vars x.nodes c.self.inside.heads.items c.self.inside.free (AllOf x.nodes)) c.self.view_is c.self.invariant.chained in
    let is_b = c.bucket_of-bucket.ensures.bucket ∙ ap (bucket_of c.args.var c.args.low.place c.args.high.place) (c.len.ensures ∙ c.self.inside.heads.ok.0) in
    let none = subst (λ (ns : List Node). (r : ℕ) → 0 < r → InChain ns c.index.result.now r → Matches ns r c.args.var c.args.low.place c.args.high.place → ⊥) all_same (c.find-found.ensures.absent (omega (arith, c.if-found-ne0.false))) in
    let absent = absent_everywhere d.vars d.nodes c.self.inside.heads.items c.self.inside.free ok chained c.args.var c.args.low.place c.args.high.place c.bucket_of-bucket.result c.index.result.now c.requires.var_in is_b is_head none in
    let puts = subst (λ (x : Diagram). Puts x.vars x.nodes c.add.new.nodes.items c.in_ok-place.place c.args.var c.args.low.place c.args.high.place) c.self.view_is c.in_ok-place.ensures.puts in
    let e : Diagram = the_view (record c.self.inside { calls = c.self.inside.calls; nodes = c.add.new.nodes; heads = c.add.new.heads; free = c.add.new.free; held = c.self.inside.held + 1; marks = c.add.new.marks }) in
    let put : IsPut d e c.args.var c.args.low c.args.high (record { place = c.in_ok-place.place }) = put_gives d e ok same_vars (λ q. c.in_ok-place.ensures.marks q ∙ ap (λ l. flag l q) same_marks) c.args.var c.args.low c.args.high _ c.requires.var_in c.requires.low_live c.requires.high_live c.requires.low_later c.requires.high_later c.if-low-high.false absent puts in
    let is = c.self.invariant in
    let after = c.in_ok-place.ensures in
    record {
      reduced = put.grows.sound;
      chained = after.chained;
      few = omega (arith, after.few, c.add.new.nodes.ok.0);
      held_counted = omega (arith, is.held_counted, after.counted);
      flags = omega (arith, after.flags, c.add.new.nodes.ok.0, c.add.new.marks.ok.0);
      marks_counted = is.marks_counted ∙ sym after.marked;
      known = known_extends c.self.inside.vars c.self.inside.nodes.items c.add.new.nodes.items c.self.inside.results.items is.reduced after.puts.same is.known;
    }

pub returns-clause-grows : goal.returns-clause-grows
unfolding IsReduced
returns-clause-grows c =
    let d = c.args.self.now in
    let ok : IsReduced d = subst IsReduced c.self.view_is c.self.invariant.reduced in
    let same_vars = ap (λ (x : Diagram). x.vars) c.self.view_is in
    let same_nodes = ap (λ (x : Diagram). x.nodes) c.self.view_is in
    let same_marks = ap (λ (x : Diagram). x.marks) c.self.view_is in
    let lt_b : c.bucket_of-bucket.result < length c.self.inside.heads.items = omega (arith, c.bucket_of-bucket.ensures.within, c.len.ensures, c.self.inside.heads.ok.0) in
    let is_head : c.index.result.now ≡ start c.self.inside.heads.items c.self.inside.free c.bucket_of-bucket.result = c.index.ensures ∙ get_or_default c.self.inside.heads.items c.bucket_of-bucket.result c.index.result.now c.self.inside.free lt_b in
    let all_same = c.deref.ensures.value ∙ same_nodes in
    let chained = subst (λ (x : Diagram). Chained x.vars x.nodes c.self.inside.heads.items c.self.inside.free (AllOf x.nodes)) c.self.view_is c.self.invariant.chained in
    let is_b = c.bucket_of-bucket.ensures.bucket ∙ ap (bucket_of c.args.var c.args.low.place c.args.high.place) (c.len.ensures ∙ c.self.inside.heads.ok.0) in
    let none = subst (λ (ns : List Node). (r : ℕ) → 0 < r → InChain ns c.index.result.now r → Matches ns r c.args.var c.args.low.place c.args.high.place → ⊥) all_same (c.find-found.ensures.absent (omega (arith, c.if-found-ne0.false))) in
    let absent = absent_everywhere d.vars d.nodes c.self.inside.heads.items c.self.inside.free ok chained c.args.var c.args.low.place c.args.high.place c.bucket_of-bucket.result c.index.result.now c.requires.var_in is_b is_head none in
    let puts = subst (λ (x : Diagram). Puts x.vars x.nodes c.add.new.nodes.items c.in_ok-place.place c.args.var c.args.low.place c.args.high.place) c.self.view_is c.in_ok-place.ensures.puts in
    let e : Diagram = the_view (record c.self.inside { calls = c.saturating_add-self-inside-2.result; nodes = c.add.new.nodes; heads = c.add.new.heads; free = c.add.new.free; held = c.self.inside.held + 1; marks = c.add.new.marks }) in
    let put : IsPut d e c.args.var c.args.low c.args.high (record { place = c.in_ok-place.place }) = put_gives d e ok same_vars (λ q. c.in_ok-place.ensures.marks q ∙ ap (λ l. flag l q) same_marks) c.args.var c.args.low c.args.high _ c.requires.var_in c.requires.low_live c.requires.high_live c.requires.low_later c.requires.high_later c.if-low-high.false absent puts in
    put.grows

pub returns-clause-gives : goal.returns-clause-gives
unfolding IsReduced
returns-clause-gives c =
    let d = c.args.self.now in
    let ok : IsReduced d = subst IsReduced c.self.view_is c.self.invariant.reduced in
    let same_vars = ap (λ (x : Diagram). x.vars) c.self.view_is in
    let same_nodes = ap (λ (x : Diagram). x.nodes) c.self.view_is in
    let same_marks = ap (λ (x : Diagram). x.marks) c.self.view_is in
    let lt_b : c.bucket_of-bucket.result < length c.self.inside.heads.items = omega (arith, c.bucket_of-bucket.ensures.within, c.len.ensures, c.self.inside.heads.ok.0) in
    let is_head : c.index.result.now ≡ start c.self.inside.heads.items c.self.inside.free c.bucket_of-bucket.result = c.index.ensures ∙ get_or_default c.self.inside.heads.items c.bucket_of-bucket.result c.index.result.now c.self.inside.free lt_b in
    let all_same = c.deref.ensures.value ∙ same_nodes in
    let chained = subst (λ (x : Diagram). Chained x.vars x.nodes c.self.inside.heads.items c.self.inside.free (AllOf x.nodes)) c.self.view_is c.self.invariant.chained in
    let is_b = c.bucket_of-bucket.ensures.bucket ∙ ap (bucket_of c.args.var c.args.low.place c.args.high.place) (c.len.ensures ∙ c.self.inside.heads.ok.0) in
    let none = subst (λ (ns : List Node). (r : ℕ) → 0 < r → InChain ns c.index.result.now r → Matches ns r c.args.var c.args.low.place c.args.high.place → ⊥) all_same (c.find-found.ensures.absent (omega (arith, c.if-found-ne0.false))) in
    let absent = absent_everywhere d.vars d.nodes c.self.inside.heads.items c.self.inside.free ok chained c.args.var c.args.low.place c.args.high.place c.bucket_of-bucket.result c.index.result.now c.requires.var_in is_b is_head none in
    let puts = subst (λ (x : Diagram). Puts x.vars x.nodes c.add.new.nodes.items c.in_ok-place.place c.args.var c.args.low.place c.args.high.place) c.self.view_is c.in_ok-place.ensures.puts in
    let e : Diagram = the_view (record c.self.inside { calls = c.saturating_add-self-inside-2.result; nodes = c.add.new.nodes; heads = c.add.new.heads; free = c.add.new.free; held = c.self.inside.held + 1; marks = c.add.new.marks }) in
    let put : IsPut d e c.args.var c.args.low c.args.high (record { place = c.in_ok-place.place }) = put_gives d e ok same_vars (λ q. c.in_ok-place.ensures.marks q ∙ ap (λ l. flag l q) same_marks) c.args.var c.args.low c.args.high _ c.requires.var_in c.requires.low_live c.requires.high_live c.requires.low_later c.requires.high_later c.if-low-high.false absent puts in
    put.gives

pub returns-clause-held : goal.returns-clause-held
returns-clause-held c =
    let e : Diagram = the_view (record c.self.inside { calls = c.saturating_add-self-inside-2.result; nodes = c.add.new.nodes; heads = c.add.new.heads; free = c.add.new.free; held = c.self.inside.held + 1; marks = c.add.new.marks }) in
    omega (arith, held_is e, c.in_ok-place.ensures.counted, held_is (the_view c.self.inside), ap held c.self.view_is)

pub returns-clause-held_found : goal.returns-clause-held_found
unfolding IsReduced
returns-clause-held_found c q live is =
    let d = c.args.self.now in
    let ok : IsReduced d = subst IsReduced c.self.view_is c.self.invariant.reduced in
    let same_vars = ap (λ (x : Diagram). x.vars) c.self.view_is in
    let same_nodes = ap (λ (x : Diagram). x.nodes) c.self.view_is in
    let same_marks = ap (λ (x : Diagram). x.marks) c.self.view_is in
    let lt_b : c.bucket_of-bucket.result < length c.self.inside.heads.items = omega (arith, c.bucket_of-bucket.ensures.within, c.len.ensures, c.self.inside.heads.ok.0) in
    let is_head : c.index.result.now ≡ start c.self.inside.heads.items c.self.inside.free c.bucket_of-bucket.result = c.index.ensures ∙ get_or_default c.self.inside.heads.items c.bucket_of-bucket.result c.index.result.now c.self.inside.free lt_b in
    let all_same = c.deref.ensures.value ∙ same_nodes in
    let chained = subst (λ (x : Diagram). Chained x.vars x.nodes c.self.inside.heads.items c.self.inside.free (AllOf x.nodes)) c.self.view_is c.self.invariant.chained in
    let is_b = c.bucket_of-bucket.ensures.bucket ∙ ap (bucket_of c.args.var c.args.low.place c.args.high.place) (c.len.ensures ∙ c.self.inside.heads.ok.0) in
    let none = subst (λ (ns : List Node). (r : ℕ) → 0 < r → InChain ns c.index.result.now r → Matches ns r c.args.var c.args.low.place c.args.high.place → ⊥) all_same (c.find-found.ensures.absent (omega (arith, c.if-found-ne0.false))) in
    let absent = absent_everywhere d.vars d.nodes c.self.inside.heads.items c.self.inside.free ok chained c.args.var c.args.low.place c.args.high.place c.bucket_of-bucket.result c.index.result.now c.requires.var_in is_b is_head none in
    let puts = subst (λ (x : Diagram). Puts x.vars x.nodes c.add.new.nodes.items c.in_ok-place.place c.args.var c.args.low.place c.args.high.place) c.self.view_is c.in_ok-place.ensures.puts in
    let e : Diagram = the_view (record c.self.inside { calls = c.saturating_add-self-inside-2.result; nodes = c.add.new.nodes; heads = c.add.new.heads; free = c.add.new.free; held = c.self.inside.held + 1; marks = c.add.new.marks }) in
    let put : IsPut d e c.args.var c.args.low c.args.high (record { place = c.in_ok-place.place }) = put_gives d e ok same_vars (λ q. c.in_ok-place.ensures.marks q ∙ ap (λ l. flag l q) same_marks) c.args.var c.args.low c.args.high _ c.requires.var_in c.requires.low_live c.requires.high_live c.requires.low_later c.requires.high_later c.if-low-high.false absent puts in
    absurd (put.absent q live is)
