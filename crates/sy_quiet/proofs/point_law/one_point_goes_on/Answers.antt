use Rattle.sy_quiet.proofs.PointLaw.{point_goes_on}
use Rattle.sy_quiet.proofs.point_law.one_point_goes_on.Goals as goal

pub returns : goal.returns
returns c = point_goes_on
