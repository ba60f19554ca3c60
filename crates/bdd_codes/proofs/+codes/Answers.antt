use Rattle.std.proofs.Common.{rules, List, length, ap, ◌∙◌, refl, arith}
use Rattle.std.proofs.lemmas.List.{nil_from_length}
use Rattle.bdd_store.specs.declared.Ref.{Ref}
use Rattle.bdd_codes.specs.Codes.{AreWithin}
use Rattle.bdd_codes.proofs.CodeLaws.{one_code, codes_whole, codes_counted, first_within, lower_within}
use Rattle.bdd_codes.proofs.+codes.Goals as goal

pub returns-in_default-clause-codes : goal.returns-in_default-clause-codes
returns-in_default-clause-codes t c =
    one_code c.args.store.now c.args.next c.args.places.now c.new-codes.result.items c.push.new.self.items c.constant.result (nil_from_length c.args.places.now c.in_default.ensures.cases) c.new-codes.ensures.items c.in_ok-push.ensures.items c.constant.ensures.constant

pub returns-clause-codes : goal.returns-clause-codes
returns-clause-codes t c =
    let k = c.in-Some.ensures.cases in
    codes_whole c.codes.new.store c.low_half.new.store c.add_high_half.new.store c.args.next c.in-Some.place.now c.args.most c.args.places.now c.in-Some.lower.now c.in_ok-later.later.items c.as_slice.result.now c.as_slice-2.result.now c.in_ok-codes.codes.items c.add_high_half.new.codes.items
    k.0 c.as_slice.ensures.value c.as_slice-2.ensures.value c.low_half.ensures.keeps c.in_ok-later.ensures.live c.in_ok-later.ensures.codes c.in_ok-later.ensures.count c.in_ok-codes.ensures.codes c.in_ok-add_high_half.ensures.codes

pub returns-clause-count : goal.returns-clause-count
returns-clause-count t c =
    let k = c.in-Some.ensures.cases in
    codes_counted c.args.places.now c.in-Some.lower.now c.in-Some.place.now (length c.as_slice-2.result.now) c.args.most (length c.add_high_half.new.codes.items) k.0 (ap (λ (rs : List Ref). length rs) c.as_slice-2.ensures.value ∙ c.in_ok-later.ensures.count) c.in_ok-add_high_half.ensures.count

pub codes-requires : goal.codes-requires
codes-requires t c =
    let k = c.in-Some.ensures.cases in
    let room : AreWithin c.args.store.now c.in-Some.lower.now = lower_within c.args.store.now c.args.store.now c.args.places.now c.in-Some.lower.now c.in-Some.place.now k.0 refl c.requires.room in
    search (rules, room)

pub low_half-requires-clause-room : goal.low_half-requires-clause-room
low_half-requires-clause-room t c =
    let k = c.in-Some.ensures.cases in
    let within = first_within c.args.store.now c.args.places.now c.in-Some.lower.now c.in-Some.place.now k.0 c.requires.room in
    let same = c.in_ok-later.ensures.keeps.vars in
    omega (arith, within, same)

pub add_high_half-requires-clause-room : goal.add_high_half-requires-clause-room
add_high_half-requires-clause-room t c =
    let k = c.in-Some.ensures.cases in
    let within = first_within c.args.store.now c.args.places.now c.in-Some.lower.now c.in-Some.place.now k.0 c.requires.room in
    let same = c.in_ok-later.ensures.keeps.vars in
    let still = c.in_ok-codes.ensures.keeps.vars in
    omega (arith, within, same, still)
