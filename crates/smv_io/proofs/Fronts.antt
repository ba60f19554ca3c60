-- Bytes that come and go front by front.
use Rattle.std.proofs.Common.{◌≡◌, ℕ, ◌+◌, ◌-◌, ◌≤◌, ◌<◌, List, ◌++◌, length, take, drop, Option, Result, OnErr, ap, refl, Ok, Err, arith, length-append, length-take, append_assoc, take-append-drop}
use Rattle.std.proofs.Math.Seq.{take-append_seam}
use Rattle.std.specs.Io.KnownBytes.{Appends, Consumes, Keeps}
use Rattle.std.proofs.KnownBytes.{Appends-trans, Appends-kept, Consumes-trans}
use Rattle.smv_io.specs.Transfers.{TookFront, GaveWithin, GaveBeyond}

pub on_err : {T E : Type 0} (r : Result T E) (P : Type 0) → P → OnErr r P
on_err (Ok x) P p = tt
on_err (Err e) P p = p

-- the sink took what is done, and some of the piece is not
pub took_front : (piece done rest : List ℕ) (a b c : Option (List ℕ)) → 0 < length rest → piece ≡ done ++ rest → Appends a b done → Keeps b c → TookFront a c piece
took_front piece done rest a b c more whole took kept =
    let front : take (length done) piece ≡ done = rw whole (take-append_seam done rest) in
    (length done, omega (arith, more, ap length whole, length-append done rest), rw front (Appends-kept a b c done took kept))

-- one more front
pub one_more : (piece done rest after : List ℕ) (n : ℕ) (a b c : Option (List ℕ)) → piece ≡ done ++ rest → Appends a b done → Appends b c (take n rest) → after ≡ drop n rest →
    (all : List ℕ) × (piece ≡ all ++ after) × Appends a c all
one_more piece done rest after n a b c whole took more is_after =
    (done ++ take n rest, rw (whole, is_after, append_assoc, take-append-drop) refl, Appends-trans a b c done (take n rest) took more)

-- the length of what came, with the front of a buffer
length_with : (bytes buffer : List ℕ) (count : ℕ) → count ≤ length buffer → length (bytes ++ take count buffer) ≡ length bytes + count
length_with bytes buffer count fits = omega (arith, fits, length-append bytes (take count buffer), length-take count buffer)

pub gave_beyond : (bytes buffer : List ℕ) (count limit : ℕ) (a b c : Option (List ℕ)) → Consumes a b bytes → Consumes b c (take count buffer) → count ≤ length buffer → limit - length bytes < count → GaveBeyond a c limit
gave_beyond bytes buffer count limit a b c first second fits beyond =
    (bytes ++ take count buffer, omega (arith, beyond, length_with bytes buffer count fits), Consumes-trans a b c bytes (take count buffer) first second)

pub gave_within : (bytes buffer : List ℕ) (count limit : ℕ) (a b c : Option (List ℕ)) → Consumes a b bytes → Consumes b c (take count buffer) → count ≤ length buffer → length bytes ≤ limit → count ≤ limit - length bytes → GaveWithin a c limit
gave_within bytes buffer count limit a b c first second fits within room =
    (bytes ++ take count buffer, omega (arith, within, room, length_with bytes buffer count fits), Consumes-trans a b c bytes (take count buffer) first second)
