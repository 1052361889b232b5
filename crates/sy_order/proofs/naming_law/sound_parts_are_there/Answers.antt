use Rattle.sy_order.proofs.SoundNames.{positions_there}
use Rattle.sy_order.proofs.naming_law.sound_parts_are_there.Goals as goal

pub returns : goal.returns
returns c = λ deed parts. positions_there deed deed.positions parts.positions_sound
