-- The matches are those of the described command, and where clap refuses the words it is for a fault that it finds in them.
use Rattle.std.proofs.Common.{◌≡◌, ◌∙◌, List, [], ◌∷◌, Option, None, ap, is_some, map, refl, subst, sym, true, true≢false, inl, inr}
use Rattle.std.specs.Prelude.{option_and_then}
use Rattle.std.specs.String.{string_bytes}
use Rattle.clap.specs.Kinds.{Kinds, IsAmong}
use Rattle.clap.specs.Values.{kind_of}
use Rattle.clap.specs.Walk.{Row, Text}
use Rattle.clap.specs.Simple.{App, is_simple, subcommand_of, subcommand_rows_of}
use Rattle.clap.specs.Faults.{fault_of, is_simple_and_free}
use Rattle.clap.proofs.OnLiterals.{clap_on_literals}
use Rattle.smv_look_command.specs.CommandLine as line
use Rattle.smv_command.specs.Commands.{where_faultless}
use Rattle.smv_look_command.specs.Queries.{named, query_of}
use Rattle.smv_look_command.specs.declared.queries.Query.{Query}
use Rattle.smv_look_command.proofs.Taken.{taken_named}
use Rattle.smv_look_command.proofs.words.query_of.Goals as goal

is_free : is_simple_and_free line.smv_look ≡ true
unfolding clap_on_literals
is_free = refl

is_plain : is_simple line.smv_look ≡ true
unfolding clap_on_literals
is_plain = refl

abbrev chosen : Option (Text × List Row) → Option Query
chosen = option_and_then (λ found. named found.0 found.1)

where_taken : (words : List Text) → fault_of line.smv_look words ≡ [] → query_of words ≡ chosen (subcommand_of line.smv_look words)
unfolding query_of
where_taken words e = ap (λ (ks : Kinds). where_faultless ks (chosen (subcommand_of line.smv_look words))) e

where_refused : (words : List Text) → (fault_of line.smv_look words ≡ [] → ⊥) → query_of words ≡ None
unfolding query_of
where_refused words e = go (fault_of line.smv_look words) e
  where
    go : (ks : Kinds) → (ks ≡ [] → ⊥) → where_faultless ks (chosen (subcommand_of line.smv_look words)) ≡ None
    go [] e = absurd (e refl)
    go (k ∷ ks) e = refl

pub query_in-requires : goal.query_in-requires
query_in-requires c =
    let is = c.in_ok-smv_look.ensures in
    let words = map string_bytes c.args.words.now in
    let taken : fault_of line.smv_look words ≡ [] = ap (λ (a : App). fault_of a words) (sym is) ∙ c.in-Ok.ensures.kinds (ap is_simple_and_free is ∙ is_free) in
    let rows : subcommand_rows_of c.in-Ok.matches ≡ subcommand_of line.smv_look words = (c.in-Ok.ensures.matches (ap is_simple is ∙ is_plain)).1 ∙ ap (λ (a : App). subcommand_of a words) is in
    ap (λ (o : Option (Text × List Row)). is_some (chosen o)) rows ∙ taken_named words taken

pub returns-in-Ok : goal.returns-in-Ok
returns-in-Ok c =
    let is = c.in_ok-smv_look.ensures in
    let words = map string_bytes c.args.words.now in
    let taken : fault_of line.smv_look words ≡ [] = ap (λ (a : App). fault_of a words) (sym is) ∙ c.in-Ok.ensures.kinds (ap is_simple_and_free is ∙ is_free) in
    let rows : subcommand_rows_of c.in-Ok.matches ≡ subcommand_of line.smv_look words = (c.in-Ok.ensures.matches (ap is_simple is ∙ is_plain)).1 ∙ ap (λ (a : App). subcommand_of a words) is in
    sym (where_taken words taken ∙ (ap chosen (sym rows) ∙ c.in_ok-query_in-in-Ok.ensures))

pub returns : goal.returns
returns c =
    let is = c.in_ok-smv_look.ensures in
    let words = map string_bytes c.args.words.now in
    let kinds = c.in-Err.ensures.kinds (ap is_simple_and_free is ∙ is_free) in
    let refused : fault_of line.smv_look words ≡ [] → ⊥ = λ none. elim kinds [
      | inl memory ↦
          let same : c.eq.result ≡ true = rw (c.kind.ensures, memory) at c.eq.ensures in
          true≢false (sym same ∙ c.if-eq.false)
      | inr among ↦ subst (IsAmong (kind_of c.in-Err.error)) (ap (λ (a : App). fault_of a words) is ∙ none) among
    ] in
    sym (where_refused words refused)
