use Rattle.std.proofs.Common.{◌≡◌, ◌<◌, List, [], ◌∷◌, ◌++◌, length, set, sym, ◌∙◌, ap, subst, arith}
use Rattle.std.proofs.Math.Seq.{get_or-append_seam}
use Rattle.bdd_store.specs.declared.chains.Node.{Node}
use Rattle.bdd_store.specs.Graph.{no_node, node_at, next_at}
use Rattle.bdd_store.specs.Chains.{AllOf, AllBut, Chained, node_count}
use Rattle.bdd_store.specs.Seen.{flag}
use Rattle.std.specs.Prelude.{vec_len}
use Rattle.bdd_store.proofs.ChainLaws.{bucket_lt, power_pos}
use Rattle.bdd_store.proofs.Links.{first_free, taken, appended}
use Rattle.bdd_store.proofs.Writes.{written_here, link_ready, read_at}
use Rattle.bdd_store.proofs.Puts.{puts_written, puts_graph, counted_written, counted_append, counted_graph, flags_append, home_put}
use Rattle.bdd_store.proofs.chains.add.Goals as goal

pub index-requires : goal.index-requires
index-requires c =
    let is = (first_free c.args.vars c.args.nodes.now.items c.args.heads.now.items c.args.free.now c.args.node c.requires.chained (omega (arith, c.if-given_back-ne0.true))) in
    omega (arith, is.1, c.args.nodes.now.ok.0)

pub index_mut-requires : goal.index_mut-requires
index_mut-requires c =
    let is = (first_free c.args.vars c.args.nodes.now.items c.args.heads.now.items c.args.free.now c.args.node c.requires.chained (omega (arith, c.if-given_back-ne0.true))) in
    omega (arith, is.1, c.args.nodes.now.ok.0)

pub link-requires-clause-two : goal.link-requires-clause-two
link-requires-clause-two c =
    (first_free c.args.vars c.args.nodes.now.items c.args.heads.now.items c.args.free.now c.args.node c.requires.chained (omega (arith, c.if-given_back-ne0.true))).0

pub link-requires-clause-within : goal.link-requires-clause-within
link-requires-clause-within c =
    let is = (first_free c.args.vars c.args.nodes.now.items c.args.heads.now.items c.args.free.now c.args.node c.requires.chained (omega (arith, c.if-given_back-ne0.true))) in
    omega (arith, is.1, c.args.nodes.now.ok.0)

pub link-requires-clause-bucket_in : goal.link-requires-clause-bucket_in
link-requires-clause-bucket_in c =
    let lt_b : c.args.bucket < length c.args.heads.now.items = omega (arith, c.requires.bucket, bucket_lt c.args.node.var c.args.node.low c.args.node.high (length c.args.heads.now.items) (power_pos _ c.requires.chained.power)) in
    omega (arith, c.args.heads.now.ok.0, lt_b)

pub link-requires-clause-falling : goal.link-requires-clause-falling
link-requires-clause-falling c =
    let lt_b : c.args.bucket < length c.args.heads.now.items = omega (arith, c.requires.bucket, bucket_lt c.args.node.var c.args.node.low c.args.node.high (length c.args.heads.now.items) (power_pos _ c.requires.chained.power)) in
    (link_ready c.args.vars (set c.args.nodes.now.items c.args.free.now c.args.node) c.args.heads.now.items (next_at c.args.nodes.now.items c.args.free.now) c.args.free.now c.args.bucket (taken c.args.vars c.args.nodes.now.items c.args.heads.now.items c.args.free.now c.args.node c.requires.chained (omega (arith, c.if-given_back-ne0.true))) lt_b (first_free c.args.vars c.args.nodes.now.items c.args.heads.now.items c.args.free.now c.args.node c.requires.chained (omega (arith, c.if-given_back-ne0.true))).0).0

pub link-requires-clause-apart : goal.link-requires-clause-apart
link-requires-clause-apart c =
    let lt_b : c.args.bucket < length c.args.heads.now.items = omega (arith, c.requires.bucket, bucket_lt c.args.node.var c.args.node.low c.args.node.high (length c.args.heads.now.items) (power_pos _ c.requires.chained.power)) in
    (link_ready c.args.vars (set c.args.nodes.now.items c.args.free.now c.args.node) c.args.heads.now.items (next_at c.args.nodes.now.items c.args.free.now) c.args.free.now c.args.bucket (taken c.args.vars c.args.nodes.now.items c.args.heads.now.items c.args.free.now c.args.node c.requires.chained (omega (arith, c.if-given_back-ne0.true))) lt_b (first_free c.args.vars c.args.nodes.now.items c.args.heads.now.items c.args.free.now c.args.node c.requires.chained (omega (arith, c.if-given_back-ne0.true))).0).1

pub returns-then-given_back-ne0-clause-puts : goal.returns-then-given_back-ne0-clause-puts
returns-then-given_back-ne0-clause-puts c =
    let is = (first_free c.args.vars c.args.nodes.now.items c.args.heads.now.items c.args.free.now c.args.node c.requires.chained (omega (arith, c.if-given_back-ne0.true))) in
    puts_graph c.args.vars c.args.nodes.now.items (set c.args.nodes.now.items c.args.free.now c.args.node) c.link.new.nodes.items c.args.free.now _ _ _ (puts_written c.args.vars c.args.nodes.now.items c.args.free.now c.args.node c.requires.var_in is.0 is.1 is.2) c.link.ensures.same

pub returns-then-given_back-ne0-clause-counted : goal.returns-then-given_back-ne0-clause-counted
returns-then-given_back-ne0-clause-counted c =
    let is = (first_free c.args.vars c.args.nodes.now.items c.args.heads.now.items c.args.free.now c.args.node c.requires.chained (omega (arith, c.if-given_back-ne0.true))) in
    counted_graph c.args.vars (set c.args.nodes.now.items c.args.free.now c.args.node) c.link.new.nodes.items c.link.ensures.same ∙ counted_written c.args.vars c.args.nodes.now.items c.args.free.now c.args.node c.requires.var_in is.1 is.2

pub returns-then-given_back-ne0-clause-chained : goal.returns-then-given_back-ne0-clause-chained
returns-then-given_back-ne0-clause-chained c =
    let is = (first_free c.args.vars c.args.nodes.now.items c.args.heads.now.items c.args.free.now c.args.node c.requires.chained (omega (arith, c.if-given_back-ne0.true))) in
    let ms = set c.args.nodes.now.items c.args.free.now c.args.node in
    let read = ap (λ (y : Node). y.next) (read_at c.args.nodes.now.items c.args.free.now c.index.result.now is.1 c.index.ensures) in
    let is_b = c.requires.bucket ∙ sym (home_put c.args.vars ms (length c.args.heads.now.items) c.args.free.now c.args.node (written_here c.args.nodes.now.items c.args.free.now c.args.node is.1) c.requires.var_in) in
    subst (λ h. Chained c.args.vars c.link.new.nodes.items c.link.new.heads.items h (AllOf c.link.new.nodes.items)) (sym read) (c.link.ensures.chained c.args.vars (next_at c.args.nodes.now.items c.args.free.now) is_b (taken c.args.vars c.args.nodes.now.items c.args.heads.now.items c.args.free.now c.args.node c.requires.chained (omega (arith, c.if-given_back-ne0.true))))

pub link-requires-2-clause-bucket_in : goal.link-requires-2-clause-bucket_in
link-requires-2-clause-bucket_in c =
    let lt_b : c.args.bucket < length c.args.heads.now.items = omega (arith, c.requires.bucket, bucket_lt c.args.node.var c.args.node.low c.args.node.high (length c.args.heads.now.items) (power_pos _ c.requires.chained.power)) in
    omega (arith, c.args.heads.now.ok.0, lt_b)

pub link-requires-2-clause-falling : goal.link-requires-2-clause-falling
link-requires-2-clause-falling c =
    let lt_b : c.args.bucket < length c.args.heads.now.items = omega (arith, c.requires.bucket, bucket_lt c.args.node.var c.args.node.low c.args.node.high (length c.args.heads.now.items) (power_pos _ c.requires.chained.power)) in
    let len : vec_len c.args.nodes.now ≡ length c.args.nodes.now.items = c.args.nodes.now.ok.0 in
    let at : c.in_ok-place.place ≡ length c.args.nodes.now.items = c.in_ok-place.ensures.place ∙ len in
    (link_ready c.args.vars c.append.new.nodes.items c.args.heads.now.items c.args.free.now c.in_ok-place.place c.args.bucket (subst (λ f. Chained c.args.vars c.append.new.nodes.items c.args.heads.now.items c.args.free.now (AllBut c.append.new.nodes.items f)) (sym at) (subst (λ l. Chained c.args.vars l c.args.heads.now.items c.args.free.now (AllBut l (length c.args.nodes.now.items))) (sym c.in_ok-place.ensures.nodes) (appended c.args.vars c.args.nodes.now.items c.args.heads.now.items c.args.free.now c.args.node c.requires.chained (omega (arith, c.requires.some, c.args.nodes.now.ok.0))))) lt_b (omega (arith, at, len, c.requires.some))).0

pub link-requires-2-clause-apart : goal.link-requires-2-clause-apart
link-requires-2-clause-apart c =
    let lt_b : c.args.bucket < length c.args.heads.now.items = omega (arith, c.requires.bucket, bucket_lt c.args.node.var c.args.node.low c.args.node.high (length c.args.heads.now.items) (power_pos _ c.requires.chained.power)) in
    let len : vec_len c.args.nodes.now ≡ length c.args.nodes.now.items = c.args.nodes.now.ok.0 in
    let at : c.in_ok-place.place ≡ length c.args.nodes.now.items = c.in_ok-place.ensures.place ∙ len in
    (link_ready c.args.vars c.append.new.nodes.items c.args.heads.now.items c.args.free.now c.in_ok-place.place c.args.bucket (subst (λ f. Chained c.args.vars c.append.new.nodes.items c.args.heads.now.items c.args.free.now (AllBut c.append.new.nodes.items f)) (sym at) (subst (λ l. Chained c.args.vars l c.args.heads.now.items c.args.free.now (AllBut l (length c.args.nodes.now.items))) (sym c.in_ok-place.ensures.nodes) (appended c.args.vars c.args.nodes.now.items c.args.heads.now.items c.args.free.now c.args.node c.requires.chained (omega (arith, c.requires.some, c.args.nodes.now.ok.0))))) lt_b (omega (arith, at, len, c.requires.some))).1

pub returns-clause-counted : goal.returns-clause-counted
returns-clause-counted c =
    counted_graph c.args.vars c.append.new.nodes.items c.link-2.new.nodes.items c.link-2.ensures.same ∙ ap (node_count c.args.vars) c.in_ok-place.ensures.nodes ∙ counted_append c.args.vars c.args.nodes.now.items c.args.node c.requires.var_in

pub returns-clause-chained : goal.returns-clause-chained
returns-clause-chained c =
    let len : vec_len c.args.nodes.now ≡ length c.args.nodes.now.items = c.args.nodes.now.ok.0 in
    let at : c.in_ok-place.place ≡ length c.args.nodes.now.items = c.in_ok-place.ensures.place ∙ len in
    let same = c.in_ok-place.ensures.nodes in
    let is_node : node_at c.append.new.nodes.items c.in_ok-place.place ≡ c.args.node = ap (λ (l : List Node). node_at l c.in_ok-place.place) same ∙ ap (node_at (c.args.nodes.now.items ++ c.args.node ∷ [])) at ∙ get_or-append_seam c.args.nodes.now.items c.args.node [] no_node in
    let is_b = c.requires.bucket ∙ sym (home_put c.args.vars c.append.new.nodes.items (length c.args.heads.now.items) c.in_ok-place.place c.args.node is_node c.requires.var_in) in
    c.link-2.ensures.chained c.args.vars c.args.free.now is_b (subst (λ f. Chained c.args.vars c.append.new.nodes.items c.args.heads.now.items c.args.free.now (AllBut c.append.new.nodes.items f)) (sym at) (subst (λ l. Chained c.args.vars l c.args.heads.now.items c.args.free.now (AllBut l (length c.args.nodes.now.items))) (sym same) (appended c.args.vars c.args.nodes.now.items c.args.heads.now.items c.args.free.now c.args.node c.requires.chained (omega (arith, c.requires.some, c.args.nodes.now.ok.0)))))

pub returns-clause-marks : goal.returns-clause-marks
returns-clause-marks c q = ap (λ l. flag l q) c.in_ok-place.ensures.marks ∙ flags_append c.args.marks.now.items q
