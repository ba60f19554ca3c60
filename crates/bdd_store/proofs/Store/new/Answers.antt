use Rattle.std.proofs.Common.{◌≡◌, false, [], ◌∷◌, ◌++◌, refl, ◌∙◌, ap}
use Rattle.bdd_store.specs.declared.chains.Node.{Node}
use Rattle.bdd_store.specs.contracts.Store.{the_view}
use Rattle.bdd_store.specs.Diagram.{Diagram}
use Rattle.bdd_store.proofs.Laws.{equal_refs}
use Rattle.bdd_store.proofs.NewLaws.{new_stored, new_sound, new_empty, new_held, new_marks}
use Rattle.bdd_store.proofs.Store.new.Goals as goal

pub invariant_of-result : goal.invariant_of-result
invariant_of-result c =
    let nd : Node = record { var = c.args.vars; low = 0; high = 0; next = 0 } in
    let nodes : c.push-2.new.self.items ≡ nd ∷ nd ∷ [] = c.in_ok-push-2.ensures.items ∙ ap (λ l. l ++ nd ∷ []) (c.in_ok-push.ensures.items ∙ ap (λ l. l ++ nd ∷ []) c.new-nodes.ensures.items) in
    let heads : c.in_ok-vec.field-0.items ≡ 0 ∷ [] = c.in_ok-vec.ensures.items_if_clones_equal (λ y e. e) in
    let marks : c.in_ok-vec-2.field-0.items ≡ false ∷ false ∷ [] = c.in_ok-vec-2.ensures.items_if_clones_equal (λ y e. e) in
    rw (nodes, heads, marks, c.new.ensures.items) (new_stored c.args.vars nd refl refl)

pub returns-clause-empty : goal.returns-clause-empty
returns-clause-empty c =
    let nd : Node = record { var = c.args.vars; low = 0; high = 0; next = 0 } in
    let nodes : c.push-2.new.self.items ≡ nd ∷ nd ∷ [] = c.in_ok-push-2.ensures.items ∙ ap (λ l. l ++ nd ∷ []) (c.in_ok-push.ensures.items ∙ ap (λ l. l ++ nd ∷ []) c.new-nodes.ensures.items) in
    let d : Diagram = the_view (record { vars = c.args.vars; calls = 0; nodes = c.push-2.new.self; heads = c.in_ok-vec.field-0; free = 0; held = 0; marks = c.in_ok-vec-2.field-0; marked = 0; results = c.new.result; counted = 0; hits = 0; most = 0xFFFF_FFFF }) in
    new_empty d nd refl refl nodes

pub returns-clause-held : goal.returns-clause-held
returns-clause-held c =
    let nd : Node = record { var = c.args.vars; low = 0; high = 0; next = 0 } in
    let nodes : c.push-2.new.self.items ≡ nd ∷ nd ∷ [] = c.in_ok-push-2.ensures.items ∙ ap (λ l. l ++ nd ∷ []) (c.in_ok-push.ensures.items ∙ ap (λ l. l ++ nd ∷ []) c.new-nodes.ensures.items) in
    let d : Diagram = the_view (record { vars = c.args.vars; calls = 0; nodes = c.push-2.new.self; heads = c.in_ok-vec.field-0; free = 0; held = 0; marks = c.in_ok-vec-2.field-0; marked = 0; results = c.new.result; counted = 0; hits = 0; most = 0xFFFF_FFFF }) in
    new_held d nd refl refl nodes

pub returns-clause-sound : goal.returns-clause-sound
returns-clause-sound c =
    let nd : Node = record { var = c.args.vars; low = 0; high = 0; next = 0 } in
    let nodes : c.push-2.new.self.items ≡ nd ∷ nd ∷ [] = c.in_ok-push-2.ensures.items ∙ ap (λ l. l ++ nd ∷ []) (c.in_ok-push.ensures.items ∙ ap (λ l. l ++ nd ∷ []) c.new-nodes.ensures.items) in
    let d : Diagram = the_view (record { vars = c.args.vars; calls = 0; nodes = c.push-2.new.self; heads = c.in_ok-vec.field-0; free = 0; held = 0; marks = c.in_ok-vec-2.field-0; marked = 0; results = c.new.result; counted = 0; hits = 0; most = 0xFFFF_FFFF }) in
    new_sound d nd refl refl nodes

pub returns-clause-canonical : goal.returns-clause-canonical
returns-clause-canonical c =
    let nd : Node = record { var = c.args.vars; low = 0; high = 0; next = 0 } in
    let nodes : c.push-2.new.self.items ≡ nd ∷ nd ∷ [] = c.in_ok-push-2.ensures.items ∙ ap (λ l. l ++ nd ∷ []) (c.in_ok-push.ensures.items ∙ ap (λ l. l ++ nd ∷ []) c.new-nodes.ensures.items) in
    let d : Diagram = the_view (record { vars = c.args.vars; calls = 0; nodes = c.push-2.new.self; heads = c.in_ok-vec.field-0; free = 0; held = 0; marks = c.in_ok-vec-2.field-0; marked = 0; results = c.new.result; counted = 0; hits = 0; most = 0xFFFF_FFFF }) in
    equal_refs d (new_sound d nd refl refl nodes)

pub returns-clause-marks : goal.returns-clause-marks
returns-clause-marks c =
    let nd : Node = record { var = c.args.vars; low = 0; high = 0; next = 0 } in
    let nodes : c.push-2.new.self.items ≡ nd ∷ nd ∷ [] = c.in_ok-push-2.ensures.items ∙ ap (λ l. l ++ nd ∷ []) (c.in_ok-push.ensures.items ∙ ap (λ l. l ++ nd ∷ []) c.new-nodes.ensures.items) in
    let d : Diagram = the_view (record { vars = c.args.vars; calls = 0; nodes = c.push-2.new.self; heads = c.in_ok-vec.field-0; free = 0; held = 0; marks = c.in_ok-vec-2.field-0; marked = 0; results = c.new.result; counted = 0; hits = 0; most = 0xFFFF_FFFF }) in
    new_marks d nd refl refl nodes (c.in_ok-vec-2.ensures.items_if_clones_equal (λ y e. e))
