-- When inputs are those of a position, or of the contract, at a moment.
use Rattle.std.specs.Prelude.{◌≡◌, ℕ, not, List}
use Rattle.sy_words.specs.declared.kind.Kind.{Kind}
use Rattle.sy_words.specs.declared.kind.Kind.TheVariants.{Suspended, Terminated}
use Rattle.sy_words.specs.declared.verb.Verb.TheVariants as Verbs
use Rattle.sy_core.specs.declared.kind.Target.TheVariants as T
use Rattle.sy_core.specs.declared.position.Position.{Position}
use Rattle.sy_core.specs.declared.deed.Deed.{Deed}
use Rattle.sy_core.specs.Moments.{Moment}
use Rattle.sy_core.specs.Propositions.{verdict_at}
use Rattle.sy_core.specs.Mentions.{has_holds}
use Rattle.sy_core.specs.Conditions.{acts_on_contract, duty_verdict, happened, by, is_complete, contract_fires}
use Rattle.sy_machines.specs.declared.inputs.Inputs.{Inputs}
use Rattle.sy_machines.specs.declared.inputs.ContractInputs.{ContractInputs}
use Rattle.sy_machines.specs.Fired.{has}

-- the inputs are those of p, which is position number i of the deed, now, after the moments before
pub record AreInputsOf (inputs : Inputs) (deed : Deed) (now : Moment) (before : List Moment) (i : ℕ) (p : Position) : Type 0 where
  pub trigger : inputs.trigger ≡ verdict_at deed.unit now before p.trigger
  pub antecedent : inputs.antecedent ≡ verdict_at deed.unit now before p.antecedent
  pub final_antecedent : inputs.final_antecedent ≡ not (has_holds p.antecedent)
  pub consequent : inputs.consequent ≡ duty_verdict deed.unit now before p.goal
  pub asked : inputs.asked ≡ now.asked i
  pub contract : inputs.contract ≡ now.state T.Contract
  pub on_contract : inputs.on_contract ≡ acts_on_contract p.goal
  pub triggers : inputs.triggers ≡ by deed now Verbs.Triggers (T.Position i)
  pub resumes : inputs.resumes ≡ by deed now Verbs.Resumes (T.Position i)
  pub suspends : inputs.suspends ≡ by deed now Verbs.Suspends (T.Position i)
  pub discharges : inputs.discharges ≡ by deed now Verbs.Discharges (T.Position i)
  pub terminates : inputs.terminates ≡ by deed now Verbs.Terminates (T.Position i)
  pub ends : inputs.ends ≡ by deed now Verbs.Terminates T.Contract
  pub fired : (kind : Kind) → has inputs.fired kind ≡ happened now kind (T.Position i)

-- the inputs are those of the contract now, but for complete
pub record AreContractInputsOf (inputs : ContractInputs) (deed : Deed) (now : Moment) : Type 0 where
  pub resumes : inputs.resumes ≡ by deed now Verbs.Resumes T.Contract
  pub suspends : inputs.suspends ≡ by deed now Verbs.Suspends T.Contract
  pub terminates : inputs.terminates ≡ by deed now Verbs.Terminates T.Contract

-- complete is that of the contract now, and its suspension and its termination happen now exactly where their conditions are true
pub record IsCompletionOf (inputs : ContractInputs) (deed : Deed) (now : Moment) : Type 0 where
  pub complete : inputs.complete ≡ is_complete deed now
  pub suspended : happened now Suspended T.Contract ≡ contract_fires deed now Suspended
  pub terminated : happened now Terminated T.Contract ≡ contract_fires deed now Terminated
