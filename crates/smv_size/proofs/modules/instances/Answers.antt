use Rattle.std.proofs.Common.{◌≡◌, ◌+◌, ◌*◌, arith, ap, ◌∙◌}
use Rattle.std.specs.Prelude.{min, length}
use Rattle.smv_size.specs.declared.modules.Things.{Things}
use Rattle.smv_size.proofs.SummaryLaws.{things-repeated}
use Rattle.smv_size.proofs.modules.instances.Goals as goal

pub returns-then-times-ne0 : goal.returns-then-times-ne0
returns-then-times-ne0 c words xs long e =
    let inner : c.args.inside.count ≡ min 4097 (length xs) = ap (λ (t : Things). t.count) e in
    let plus : c.saturating_add.result ≡ c.args.inside.count + 1 = omega arith in
    things-repeated c.min.result c.args.inside words xs c.args.times long c.if-times-ne0.true e (let h : c.saturating_mul.result ≡ min ((c.args.inside.count + 1) * c.args.times) 18446744073709551615 = c.saturating_mul.ensures ∙ ap (λ k. min (k * c.args.times) 18446744073709551615) plus in omega (arith, h, c.min.ensures))
