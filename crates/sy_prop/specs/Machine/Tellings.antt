-- What a telling does to each sort of atom.
use Rattle.sy_prop.specs.declared.telling.Telling.{Telling}
use Rattle.sy_atoms.specs.Machine.Steps.{Step, news_step}

abbrev pub step_of : Telling → Step
step_of telling = news_step telling.deed.now.unit telling.point telling.news
