-- What definitions and claims read at the time of the value that they give.
use Rattle.std.specs.Prelude.{ℕ, List, [], ◌∷◌, ◌++◌, map, Bool, true}
use Rattle.std.specs.Global.{Vec}
use Rattle.smv_core.specs.Values.{number}
use Rattle.smv_core.specs.declared.flat.Family.{Family}
use Rattle.smv_core.specs.declared.flat.Def.{Def}
use Rattle.smv_core.specs.declared.flat.Claim.{Claim}
use Rattle.smv_core.specs.declared.flat.FlatExpr.{FlatExpr}
use Rattle.smv_core.specs.declared.flat.FlatSigned.{FlatSigned, out-FlatSigned}
use Rattle.smv_core.specs.declared.flat.FlatMember.{FlatMember, One, Span as SpanOf}
use Rattle.smv_core.specs.declared.flat.DefBody.{DefBody}
use Rattle.law_obligations.specs.Places.{named}
use Rattle.law_obligations.specs.Reads.{has_counting}
use Rattle.law_obligations.specs.Times.{families_read, families_of_part}

-- the definitions as words that stay closed until a law opens them
unfoldable pub read_in : List Family → FlatExpr → List ℕ
read_in families e = families_read families e

unfoldable pub part_reads : List Family → DefBody → List ℕ
part_reads families part = families_of_part families part

-- a part of a definition has an assignment
unfoldable pub has_assignment : DefBody → Bool
has_assignment part = has_counting (λ over. named (number 0) ∷ []) (λ left b. true) part []

module _ (families : List Family) where
  abbrev pub read_in_term : FlatSigned → List ℕ
  read_in_term term = read_in families (out-FlatSigned term).of

  abbrev pub read_in_member : FlatMember → List ℕ
  read_in_member (One e) = read_in families e
  read_in_member (SpanOf span at) = []

  -- what a definition reads at once, in its parts `init` and `:=`
  abbrev pub def_reads : Def → List ℕ
  def_reads def = part_reads families def.init ++ part_reads families def.comb

  abbrev pub claim_reads : Claim → List ℕ
  claim_reads claim = read_in families claim.body

-- the lists that are held
abbrev pub lists : List (Vec ℕ) → List (List ℕ)
lists table = map (λ (list : Vec ℕ). list.items) table
