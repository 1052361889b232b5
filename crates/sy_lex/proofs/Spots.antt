-- Where the byte behind others stands.
use Rattle.std.proofs.Common.{◌≡◌, ℕ, zero, suc, ◌+◌, ◌<◌, ◌≤◌, List, [], ◌∷◌, ◌++◌, length, get_or, take, refl, ap, ◌∙◌, arith}
use Rattle.std.proofs.lemmas.Bool.Decides.{nat_tests}
use Rattle.std.proofs.lemmas.List.{take_more}
use Rattle.sy_lex.specs.declared.spot.Spot.{Spot}
use Rattle.sy_lex.specs.Machine.Room.{HasRoom}
use Rattle.sy_lex.specs.Tokens.{next_spot, spot_after}

next_room : (at : Spot) (b m : ℕ) → HasRoom at (suc m) → HasRoom (next_spot at b) m
next_room at b m room = record {
  offset = omega (arith, room.offset);
  line = grind (arith, nat_tests, room.line);
  column = grind (arith, nat_tests, room.column);
}

-- there is room for n bytes at the spot behind some bytes, where there was room for those and the n
pub spot_room : (at : Spot) (bytes : List ℕ) (m n : ℕ) → HasRoom at m → length bytes + n ≤ m
    → HasRoom (spot_after at bytes) n
unfolding spot_after
spot_room at [] m n room within =
    record { offset = omega (arith, room.offset); line = room.line; column = room.column }
spot_room at (b ∷ bytes) zero n room within = absurd (omega arith)
spot_room at (b ∷ bytes) (suc m) n room within =
    spot_room (next_spot at b) bytes m n (next_room at b m room) (omega arith)

spot_more : (at : Spot) (bytes : List ℕ) (b : ℕ) → spot_after at (bytes ++ b ∷ []) ≡ next_spot (spot_after at bytes) b
unfolding spot_after
spot_more at [] b = refl
spot_more at (c ∷ bytes) b = spot_more (next_spot at c) bytes b

pub spot_take_more : (at : Spot) (bytes : List ℕ) (k : ℕ) → k < length bytes
    → spot_after at (take (k + 1) bytes) ≡ next_spot (spot_after at (take k bytes)) (get_or bytes k 0)
spot_take_more at bytes k within =
    ap (spot_after at) (take_more bytes k 0 within) ∙ spot_more at (take k bytes) (get_or bytes k 0)
