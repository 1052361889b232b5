use Rattle.std.proofs.Common.{◌≡◌, ◌+◌, length, take, refl, arith}
use Rattle.std.proofs.lemmas.List.{length-take-le}
use Rattle.sy_lex.specs.Tokens.{spot_after}
use Rattle.sy_lex.proofs.Spots.{spot_room, spot_take_more}
use Rattle.sy_lex.proofs.spot.Spot.after.Goals as goal

pub bytes-init : goal.bytes-init
unfolding spot_after
bytes-init c = refl

pub next-spot-requires : goal.next-spot-requires
next-spot-requires c =
    let front = take c.bytes.byte-index c.args.bytes.now in
    let size : length front ≡ c.bytes.byte-index = length-take-le c.bytes.byte-index c.args.bytes.now (omega arith) in
    rw c.bytes.invariant (spot_room c.args.self front (length c.args.bytes.now) 1 c.requires (omega arith))

pub bytes-preserved : goal.bytes-preserved
bytes-preserved c =
    let more = spot_take_more c.args.self c.args.bytes.now c.bytes.byte-index (omega arith) in
    cc

pub returns-clause-room : goal.returns-clause-room
returns-clause-room c = λ n room.
    let front = take c.bytes.byte-index c.args.bytes.now in
    let size : length front ≡ c.bytes.byte-index = length-take-le c.bytes.byte-index c.args.bytes.now (omega arith) in
    rw c.bytes.invariant (spot_room c.args.self front (length c.args.bytes.now + n) n room (omega arith))
