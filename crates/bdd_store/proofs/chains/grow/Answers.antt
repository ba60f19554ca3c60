use Rattle.std.proofs.Common.{◌≡◌, ◌*◌, suc, cond, sym, ◌∙◌, ap, arith}
use Rattle.std.specs.Prelude.{vec_len}
use Rattle.std.proofs.Math.Nat.{pow-suc}
use Rattle.bdd_store.proofs.chains.grow.Goals as goal

pub link_all-requires-clause-power : goal.link_all-requires-clause-power
link_all-requires-clause-power c =
    let power = c.requires.chained.power in
    let is_ok = sym c.is_ok.ensures.value ∙ c.if-is_ok.true in
    let longer : vec_len c.resize.new.self ≡ 2 * c.len-len.result = c.resize.ensures.len ∙ ap (λ t. cond t (2 * c.len-len.result) (vec_len c.args.heads.now)) is_ok in
    (suc power.0, omega (arith, longer, c.len-len.ensures, c.args.heads.now.ok.0, c.resize.new.self.ok.0, power.1, pow-suc 2 power.0))
