use Rattle.std.proofs.Common.{arith}
use Rattle.sy_log.proofs.laws.sound_deeds_have_few_names.Goals as goal

pub returns : goal.returns
returns c = λ deed sound. record {
  events = omega (arith, sound.limits.events);
  positions = omega (arith, sound.limits.positions);
  constants = sound.limits.constants;
}
