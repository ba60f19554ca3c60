use Rattle.law_valid_texts.specs.Joined.{flat_design}
use Rattle.law_concrete.specs.Sizes.{sizes_at}
use Rattle.law_confirmed.proofs.Ready.{right-text, called-unit, as-many, are-sizes}
use Rattle.law_confirmed.proofs.confirmations.confirmed_true_holds.Goals as goal

pub returns : goal.returns
returns c = λ text name given positive bits nodes steps x.
    let tree = x.tree in
    let f = (c.valid_texts_are_faultless.ensures text tree x.is_valid).0 in
    let right = right-text tree f in
    let d = flat_design tree in
    let u = c.units_are_of_texts.ensures tree right x.unit (called-unit d name x.unit x.is_called) in
    let are = are-sizes tree given c.given_are_sizes.ensures (c.set_types_are_apart.ensures tree f.kinds.3) (c.well_kinded_are_ready.ensures tree f.kinds).1 positive (as-many d x.unit given x.is_taken) in (
      tree,
      x.is_valid,
      record {
        unit = x.unit;
        is_called = x.is_called;
        u = u.0;
        is_unit = u.1;
        is_same = u.2;
        holds = λ run is_run vs i. c.true_holds.ensures tree right u.0 x.unit u.2 (sizes_at d.sets given) are bits nodes steps x.is_told run is_run vs i;
      },
    )
