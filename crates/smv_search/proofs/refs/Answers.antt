use Rattle.std.proofs.Common.{◌≡◌, ◌∙◌, List, [], ◌∷◌, ◌++◌, ap, append_assoc}
use Rattle.bdd_store.specs.declared.Ref.{Ref}
use Rattle.smv_rings.specs.declared.Rel.{Rel}
use Rattle.smv_rings.specs.Lists.{refs_of}
use Rattle.smv_search.proofs.refs.Goals as goal

refs_are : (rel : Rel) (n i1 i2 p1 i3 i4 p2 s1 s2 s3 s4 : List Ref) → n ≡ [] → i1 ≡ n ++ s1 → i2 ≡ i1 ++ s2 → p1 ≡ i2 ++ (rel.broken_first ∷ []) → i3 ≡ p1 ++ s3 → i4 ≡ i3 ++ s4 → p2 ≡ i4 ++ (rel.broken_step ∷ [])
    → s1 ≡ rel.now_first.items → s2 ≡ rel.before_first.items → s3 ≡ rel.now_step.items → s4 ≡ rel.before_step.items → p2 ≡ refs_of rel
unfolding refs_of
refs_are rel n i1 i2 p1 i3 i4 p2 s1 s2 s3 s4 en e1 e2 e3 e4 e5 e6 f1 f2 f3 f4 =
    let first : i1 ≡ rel.now_first.items = e1 ∙ ap (λ xs. xs ++ s1) en ∙ f1 in
    let all : p2 ≡ ((((rel.now_first.items ++ rel.before_first.items) ++ (rel.broken_first ∷ [])) ++ rel.now_step.items) ++ rel.before_step.items) ++ (rel.broken_step ∷ []) = cc in
    all ∙ simp append_assoc

pub returns : goal.returns
returns c =
    refs_are c.args.rel.now c.new-refs.result.items c.extend_from_slice.new.self.items c.extend_from_slice-2.new.self.items c.push.new.self.items c.extend_from_slice-3.new.self.items c.extend_from_slice-4.new.self.items c.push-2.new.self.items
    c.deref.result.now c.deref-2.result.now c.deref-3.result.now c.deref-4.result.now
    c.new-refs.ensures.items c.in_ok-extend_from_slice.ensures.items c.in_ok-extend_from_slice-2.ensures.items c.in_ok-push.ensures.items c.in_ok-extend_from_slice-3.ensures.items c.in_ok-extend_from_slice-4.ensures.items c.in_ok-push-2.ensures.items
    c.deref.ensures.value c.deref-2.ensures.value c.deref-3.ensures.value c.deref-4.ensures.value
