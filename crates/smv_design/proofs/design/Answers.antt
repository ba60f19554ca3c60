use Rattle.std.proofs.Common.{◌≡◌, List, map, sym, ap, ◌∙◌}
use Rattle.law_designs.specs.Flattening.{different}
use Rattle.law_designs.specs.Definitions.{same_definition}
use Rattle.smv_design.specs.declared.heads.Noted.{Noted}
use Rattle.smv_design.specs.Acts.{head_of, statement_of, heads_from}
use Rattle.smv_design.specs.Definitions.{def_among}
use Rattle.smv_design.proofs.DefinitionLaws.{defs-are, design-same}
use Rattle.smv_design.proofs.FirstLaws.{firsts-apart}
use Rattle.smv_design.proofs.design.Goals as goal

pub returns : goal.returns
returns c =
    let acts : c.in_ok-acts.acts.items ≡ c.in_ok-acts.field-0.acts.items = sym (ap (λ v. v.items) c.in_ok-acts.acts-is) in
    let firsts : List Noted = c.in_ok-firsts.firsts.items in
    let noted : c.as_slice.result.now ≡ c.in_ok-acts.field-0.heads = cc (c.as_slice.ensures, c.in_ok-acts.heads-is) in
    let stated : c.as_slice-3.result.now ≡ c.in_ok-acts.acts.items = cc (c.as_slice-3.ensures.value, acts) in
    let heads : map head_of c.as_slice.result.now ≡ heads_from 0 c.args.flat_text.items = ap (map head_of) noted ∙ c.in_ok-acts.ensures.heads in
    let first : map head_of firsts ≡ different same_definition (map head_of c.as_slice.result.now) = c.in_ok-firsts.ensures in
    design-same c.args.flat_text c.from_vec.result c.from_vec-2.result c.from_vec-3.result c.from_vec-4.result
    (c.from_vec.ensures ∙ c.in_ok-defs.ensures ∙ ap (λ l. map (def_among (map statement_of l)) (map head_of c.as_slice-2.result.now)) stated ∙ ap (λ l. map (def_among (map statement_of c.in_ok-acts.acts.items)) (map head_of l)) c.as_slice-2.ensures.value
    ∙ defs-are c.args.flat_text c.in_ok-acts.acts.items c.as_slice.result.now firsts (ap (map statement_of) acts ∙ c.in_ok-acts.ensures.statements) heads first)
    (c.from_vec-2.ensures ∙ c.in_ok-acts.ensures.claims) (c.from_vec-3.ensures ∙ c.in_ok-acts.ensures.splits) (c.from_vec-4.ensures ∙ c.in_ok-acts.ensures.uses)

pub definitions-requires : goal.definitions-requires
definitions-requires c = record { apart = firsts-apart c.as_slice-2.result.now (map head_of c.as_slice.result.now) (ap (map head_of) c.as_slice-2.ensures.value ∙ c.in_ok-firsts.ensures) }
