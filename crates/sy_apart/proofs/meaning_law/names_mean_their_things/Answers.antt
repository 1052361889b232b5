use Rattle.sy_apart.proofs.Meanings.{constant_means, declaration_means, name_means, obligation_means, parameter_means, power_means, surviving_means, type_means}
use Rattle.sy_apart.proofs.meaning_law.names_mean_their_things.Goals as goal

pub returns-clause-names : goal.returns-clause-names
returns-clause-names c = name_means

pub returns-clause-types : goal.returns-clause-types
returns-clause-types c = type_means

pub returns-clause-constants : goal.returns-clause-constants
returns-clause-constants c = constant_means

pub returns-clause-parameters : goal.returns-clause-parameters
returns-clause-parameters c = parameter_means

pub returns-clause-declarations : goal.returns-clause-declarations
returns-clause-declarations c = declaration_means

pub returns-clause-obligations : goal.returns-clause-obligations
returns-clause-obligations c = obligation_means

pub returns-clause-surviving : goal.returns-clause-surviving
returns-clause-surviving c = surviving_means

pub returns-clause-powers : goal.returns-clause-powers
returns-clause-powers c = power_means
